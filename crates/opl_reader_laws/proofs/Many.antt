-- Parts one after another, as long as one begins.
use Rattle.std.proofs.Common.{◌≡◌, ℕ, zero, suc, max, ◌<◌, ◌≤◌, Bool, true, false, cond, ◌⊎◌, inl, inr, List, [], ◌∷◌, ◌++◌, map, Option, Some, None, Ok, Err, refl, sym, ap, ◌∙◌, subst, arith, append_assoc, append-nil}
use Rattle.opl_token.specs.declared.token.Kind.{Kind}
use Rattle.opl_tree.specs.Marks.{joined}
use Rattle.opl_grammar.specs.Input.{Input, Stop, Outcome, Parser, kind, left, and_then, ◌>>=◌, pure, refuse, many, many_from}
use Rattle.opl_reader_laws.proofs.Outcomes.{and_then_pure}
use Rattle.opl_reader_laws.proofs.Takes.{Begins, takes_begins, begins_split, begins_less, Written}
use Rattle.opl_reader_laws.proofs.Phrases.{Shape, Accepts, Sound, Good, Fails, AllFail, More, Law, Any, more_bind, more_test, pair, pair_shape, pair_good, pair_fails_at}
use Rattle.opl_reader_laws.proofs.Forms.{maybe, maybe_shape, maybe_fits, maybe_good, maybe_fails_at, mapped, Made, Rule, rule_good, rule_fails_at, Passes}

some_one : {X : Type 0} {x y : X} → ◌≡◌ {A = Option X} (Some x) (Some y) → x ≡ y
some_one h = cc

cons_eq : {X : Type 0} {x y : X} {xs ys : List X} → x ≡ y → xs ≡ ys → x ∷ xs ≡ y ∷ ys
cons_eq h k = cc

abbrev pub list_of : {A : Type 0} → Option (A × List A) → List A
list_of None = []
list_of (Some c) = c.0 ∷ c.1

-- one step over the list that follows
abbrev pub many_step : {A : Type 0} → (Option Kind → Bool) → Parser A → Parser (List A) → Parser (List A)
many_step starts p rest = mapped list_of (maybe starts (pair p rest))

-- as `many_from`, without the parts found before
unfoldable pub many_n : {A : Type 0} → (Option Kind → Bool) → Parser A → ℕ → Parser (List A)
many_n starts p zero = refuse
many_n starts p (suc n) = many_step starts p (many_n starts p n)

-- so many turns are enough
abbrev pub list_fits : {A : Type 0} → Shape A → ℕ → List A → Type 0
list_fits s zero xs = ⊥
list_fits s (suc n) [] = Unit {0}
list_fits s (suc n) (x ∷ xs) = s.fits x × list_fits s n xs

abbrev pub list_tag : {A : Type 0} (s : Shape A) → List A → List s.Tag
list_tag s xs = map s.tag xs

abbrev pub many_shape_n : {A : Type 0} → (Option Kind → Bool) → Shape A → ℕ → Shape (List A)
many_shape_n starts s n = record {
  marks = λ xs. joined (map s.marks xs);
  Tag = List s.Tag;
  tag = list_tag s;
  fits = list_fits s n;
  ends = λ x k. s.closes k × (starts k ≡ false);
  closes = λ k. s.closes k × (starts k ≡ false);
  begins = λ F k. (starts k ≡ true) ⊎ F k;
}

-- a list's part: it begins with a token that passes the test, it stops where another begins, and it writes something
pub record ListPart {A : Type 0} (starts : Option Kind → Bool) (s : Shape A) : Type 1 where
  pub passes : Passes starts s
  pub meets : (k : Option Kind) → starts k ≡ true → s.closes k
  pub written : (a : A) → Written (s.marks a)

abbrev step_shape : {A : Type 0} → (Option Kind → Bool) → Shape A → Shape (List A) → Shape (Option (A × List A))
step_shape starts s rest = maybe_shape starts (pair_shape s rest)

list_made : {A : Type 0} (xs : List A) → Made list_of xs
list_made [] = record { of = None; is = refl }
list_made (x ∷ xs) = record { of = Some (x, xs); is = refl }

module _ {A : Type 0} (starts : Option Kind → Bool) (s : Shape A) (rest : Shape (List A)) (same : (xs : List A) → rest.marks xs ≡ joined (map s.marks xs)) where
  step_marks : (o : Option (A × List A)) → joined (map s.marks (list_of o)) ≡ (step_shape starts s rest).marks o
  step_marks None = refl
  step_marks (Some c) = ap (λ ms. s.marks c.0 ++ ms) (sym (same c.1))

module _ {A : Type 0} (n : ℕ) (starts : Option Kind → Bool) (p : Parser A) (s : Shape A) (P : Good n p s) (part : ListPart starts s) where
  list_fits_to : (m : ℕ) (o : Option (A × List A)) → maybe_fits (pair_shape s (many_shape_n starts s m)) o → list_fits s (suc m) (list_of o)
  list_fits_to m None h = tt
  list_fits_to m (Some c) h = h

  list_fits_from : (m : ℕ) (o : Option (A × List A)) → list_fits s (suc m) (list_of o) → maybe_fits (pair_shape s (many_shape_n starts s m)) o
  list_fits_from m None h = tt
  list_fits_from m (Some c) h = h

  list_tags : (rest : Shape (List A)) → ((xs ys : List A) → rest.tag xs ≡ rest.tag ys → list_tag s xs ≡ list_tag s ys) → (o u : Option (A × List A)) → (step_shape starts s rest).tag o ≡ (step_shape starts s rest).tag u → list_tag s (list_of o) ≡ list_tag s (list_of u)
  list_tags rest same None None h = refl
  list_tags rest same None (Some d) h = cc
  list_tags rest same (Some c) None h = cc
  list_tags rest same (Some c) (Some d) h = let e = some_one h in cons_eq (ap (λ x. x.0) e) (same c.1 d.1 (ap (λ x. x.1) e))

  list_ends : (rest : Shape (List A)) → ((xs : List A) (k : Option Kind) → s.closes k × (starts k ≡ false) → rest.ends (rest.tag xs) k) → (o : Option (A × List A)) (k : Option Kind) → s.closes k × (starts k ≡ false) → (step_shape starts s rest).ends ((step_shape starts s rest).tag o) k
  list_ends rest ends None k h = h.1
  list_ends rest ends (Some c) k h = ends c.1 k h

  list_rule : (m : ℕ) → Rule (step_shape starts s (many_shape_n starts s m)) (many_shape_n starts s (suc m)) list_of
  list_rule m = record {
    made = list_made;
    marks = step_marks starts s (many_shape_n starts s m) (λ xs. refl);
    tags = list_tags (many_shape_n starts s m) (λ xs ys h. h);
    fits_to = list_fits_to m;
    fits_from = list_fits_from m;
    ends = list_ends (many_shape_n starts s m) (λ xs k h. h);
    closing = λ x k h. h;
    closes = λ k h. (h, h.1);
    begins = λ F k h. h;
  }

  list_meets : (F : Option Kind → Type 0) (k : Option Kind) → (starts k ≡ true) ⊎ (s.closes k × F k) → s.closes k
  list_meets F k (inl h) = part.meets k h
  list_meets F k (inr h) = h.0

  list_pair : (m : ℕ) → Good n (many_n starts p m) (many_shape_n starts s m) → Good n (pair p (many_n starts p m)) (pair_shape s (many_shape_n starts s m))
  list_pair m rest = pair_good n p s (many_n starts p m) (many_shape_n starts s m) P rest (λ x k h. list_meets (λ l. starts l ≡ false) k h)

  list_maybe : (m : ℕ) → Good n (many_n starts p m) (many_shape_n starts s m) → Good n (maybe starts (pair p (many_n starts p m))) (step_shape starts s (many_shape_n starts s m))
  list_maybe m rest = maybe_good n starts (pair p (many_n starts p m)) (pair_shape s (many_shape_n starts s m)) (list_pair m rest) (λ F k h. part.passes (λ l. (starts l ≡ true) ⊎ F l) k h)

  many_n_good : (m : ℕ) → Good n (many_n starts p m) (many_shape_n starts s m)
  unfolding many_n
  many_n_good zero = record {
    sound = λ i a j h. cc;
    complete = λ i a j fits d t e. absurd fits;
    accepts = λ i a j fits d t e. absurd fits;
    opening = λ i a j at fits t e g. absurd fits;
    front = λ i a j F t e. front_of i a j F t e;
    closing = λ x k h. h;
    sample = λ tail h. record { whole = tail; value = []; takes = refl; starts = λ F k. inr k };
  } where
    front_of : (i : Input) (xs : List A) (j : Input) (F : Option Kind → Type 0) → Begins (joined (map s.marks xs)) i j → F (kind j) → (starts (kind i) ≡ true) ⊎ F (kind i)
    front_of i [] j F t e = inr (subst (λ x. F (kind x)) (sym t) e)
    front_of i (x ∷ xs) j F t e =
        let w = begins_split (s.marks x) (joined (map s.marks xs)) i j t in
        inl (part.passes Any (kind i) (P.front i x w.mid Any w.front tt))
  many_n_good (suc m) =
      rule_good n (maybe starts (pair p (many_n starts p m))) (step_shape starts s (many_shape_n starts s m)) (list_maybe m (many_n_good m))
      (many_shape_n starts s (suc m)) list_of (list_rule m) (many_step starts p (many_n starts p m)) (λ i. refl)

-- ---- enough turns are as good as more

-- two second parts that agree where the first part ends give the same
pub pair_same : {A B : Type 0} (p : Parser A) (q other : Parser B) (i : Input) → ((a : A) (j : Input) → p i ≡ Ok (a, j) → q j ≡ other j) → pair p q i ≡ pair p other i
pair_same {A} {B} p q other i same = by_first (p i) same where
  by_first : (o : Outcome A) → ((a : A) (j : Input) → o ≡ Ok (a, j) → q j ≡ other j) → and_then {B = A × B} o (λ a. q >>= (λ b. pure (a, b))) ≡ and_then o (λ a. other >>= (λ b. pure (a, b)))
  by_first (Ok c) same = let e = same c.0 c.1 refl in rw e refl
  by_first (Err at) same = refl

pub maybe_same : {A : Type 0} (test : Option Kind → Bool) (p other : Parser A) (i : Input) → p i ≡ other i → maybe test p i ≡ maybe test other i
maybe_same test p other i e = rw e refl

many_step_same : {A : Type 0} (starts : Option Kind → Bool) (p : Parser A) (rest other : Parser (List A)) (i : Input) → ((a : A) (j : Input) → p i ≡ Ok (a, j) → rest j ≡ other j) → many_step starts p rest i ≡ many_step starts p other i
many_step_same starts p rest other i same = let e = maybe_same starts (pair p rest) (pair p other) i (pair_same p rest other i same) in rw e refl

-- behind a part fewer tokens are left
abbrev pub Shrinks : {A : Type 0} → Parser A → Type 0
Shrinks {A} p = (i : Input) (a : A) (j : Input) → p i ≡ Ok (a, j) → left j < left i

many_enough : {A : Type 0} (starts : Option Kind → Bool) (p : Parser A) → Shrinks p → (n m : ℕ) (i : Input) → left i < n → left i < m → many_n starts p n i ≡ many_n starts p m i
unfolding many_n
many_enough starts p shrinks zero m i h k = absurd (omega arith)
many_enough starts p shrinks (suc n) zero i h k = absurd (omega arith)
many_enough starts p shrinks (suc n) (suc m) i h k =
    many_step_same starts p (many_n starts p n) (many_n starts p m) i (λ a j e. let less = shrinks i a j e in many_enough starts p shrinks n m j (omega arith) (omega arith))

-- the parts found before stand in front
abbrev ManyFound : {A : Type 0} → (Option Kind → Bool) → Parser A → ℕ → List A → Type 0
ManyFound {A} starts p n found = (x : A) (j : Input) → many_from starts p n (found ++ x ∷ []) j ≡ and_then (many_n starts p n j) (λ xs. pure ((found ++ x ∷ []) ++ xs))

many_found : {A : Type 0} (starts : Option Kind → Bool) (p : Parser A) (n : ℕ) (found : List A) (i : Input) → many_from starts p n found i ≡ and_then (many_n starts p n i) (λ xs. pure (found ++ xs))
unfolding many_n many_from
many_found starts p zero found i = refl
many_found {A} starts p (suc n) found i = by_test (λ x j. many_found starts p n (found ++ x ∷ []) j) (starts (kind i)) where
  front_of : (x : A) (j : Input) (o : Outcome (List A)) → many_from starts p n (found ++ x ∷ []) j ≡ and_then o (λ xs. pure ((found ++ x ∷ []) ++ xs)) →
      many_from starts p n (found ++ x ∷ []) j ≡ and_then (and_then (and_then (and_then o (λ b. pure (x, b))) (λ c. pure (Some c))) (λ o. pure (list_of o))) (λ xs. pure (found ++ xs))
  front_of x j (Ok c) e = e ∙ rw append_assoc refl
  front_of x j (Err at) e = e

  by_part : ManyFound starts p n found → (o : Outcome A) → and_then o (λ x. many_from starts p n (found ++ x ∷ [])) ≡ and_then (and_then (and_then (and_then o (λ a. many_n starts p n >>= (λ b. pure (a, b)))) (λ c. pure (Some c))) (λ o. pure (list_of o))) (λ xs. pure (found ++ xs))
  by_part again (Ok c) = front_of c.0 c.1 (many_n starts p n c.1) (again c.0 c.1)
  by_part again (Err at) = refl

  by_test : ManyFound starts p n found → (b : Bool) → cond {A = Outcome (List A)} b ((p >>= (λ x. many_from starts p n (found ++ x ∷ []))) i) (Ok (found, i)) ≡ and_then (and_then (cond {A = Outcome (Option (A × List A))} b ((pair p (many_n starts p n) >>= (λ a. pure (Some a))) i) (Ok (None, i))) (λ o. pure (list_of o))) (λ xs. pure (found ++ xs))
  by_test again true = by_part again (p i)
  by_test again false = rw append-nil refl

pub many_is_n : {A : Type 0} (starts : Option Kind → Bool) (p : Parser A) → Shrinks p → (n : ℕ) (i : Input) → left i < n → many starts p i ≡ many_n starts p n i
unfolding many
many_is_n starts p shrinks n i h =
    many_found starts p (suc (left i)) [] i ∙ (and_then_pure (many_n starts p (suc (left i)) i) ∙ many_enough starts p shrinks (suc (left i)) n i (omega arith) h)

many_n_step : {A : Type 0} (starts : Option Kind → Bool) (p : Parser A) → Shrinks p → (n : ℕ) (i : Input) → left i ≤ n → many_n starts p (suc n) i ≡ many_step starts p (many starts p) i
unfolding many_n
many_n_step starts p shrinks n i h =
    many_step_same starts p (many_n starts p n) (many starts p) i (λ a j e. let less = shrinks i a j e in sym (many_is_n starts p shrinks n j (omega arith)))

pub many_is_step : {A : Type 0} (starts : Option Kind → Bool) (p : Parser A) → Shrinks p → (i : Input) → many starts p i ≡ many_step starts p (many starts p) i
many_is_step starts p shrinks i =
    many_is_n starts p shrinks (suc (suc (left i))) i (omega arith) ∙ many_n_step starts p shrinks (suc (left i)) i (omega arith)

-- ---- more levels

many_from_more_levels : {A : Type 0} (starts : Option Kind → Bool) (p q : Parser A) → More p q → (n : ℕ) (found : List A) → More (many_from starts p n found) (many_from starts q n found)
unfolding many_from
many_from_more_levels starts p q h zero found i d = refl
many_from_more_levels {A} starts p q h (suc n) found i d = more_test {A = List A} (starts (kind i)) ((p >>= (λ x. many_from starts p n (found ++ x ∷ []))) i) (Ok (found, i)) ((q >>= (λ x. many_from starts q n (found ++ x ∷ []))) i) (Ok (found, i))
    (more_bind (p i) (q i) (λ x. many_from starts p n (found ++ x ∷ [])) (λ x. many_from starts q n (found ++ x ∷ [])) (h i) (λ x. many_from_more_levels starts p q h n (found ++ x ∷ [])))
    (λ d. refl) d

many_more : {A : Type 0} (starts : Option Kind → Bool) (p q : Parser A) → More p q → More (many starts p) (many starts q)
unfolding many
many_more starts p q h i d = many_from_more_levels starts p q h (suc (left i)) [] i d

-- ---- the laws of the list

abbrev pub all_fit : {A : Type 0} → Shape A → List A → Type 0
all_fit s [] = Unit {0}
all_fit s (x ∷ xs) = s.fits x × all_fit s xs

abbrev pub many_shape : {A : Type 0} → (Option Kind → Bool) → Shape A → Shape (List A)
many_shape starts s = record {
  marks = λ xs. joined (map s.marks xs);
  Tag = List s.Tag;
  tag = list_tag s;
  fits = all_fit s;
  ends = λ x k. s.closes k × (starts k ≡ false);
  closes = λ k. s.closes k × (starts k ≡ false);
  begins = λ F k. (starts k ≡ true) ⊎ F k;
}

module _ {A : Type 0} (n : ℕ) (starts : Option Kind → Bool) (p : Parser A) (s : Shape A) (P : Good n p s) (part : ListPart starts s) where
  pub shrinks : Shrinks p
  shrinks i a j e = begins_less (s.marks a) i j (part.written a) (takes_begins (s.marks a) i j (P.sound i a j e).takes)

  fits_enough : (xs : List A) (i j : Input) (m : ℕ) → all_fit s xs → Begins (joined (map s.marks xs)) i j → left i < m → list_fits s m xs
  fits_enough [] i j zero fits h less = absurd (omega arith)
  fits_enough [] i j (suc m) fits h less = tt
  fits_enough (x ∷ xs) i j zero fits h less = absurd (omega arith)
  fits_enough (x ∷ xs) i j (suc m) fits h less =
      let w = begins_split (s.marks x) (joined (map s.marks xs)) i j h in
      let l = begins_less (s.marks x) i w.mid (part.written x) w.front in
      (fits.0, fits_enough xs w.mid j m fits.1 w.back (omega arith))

  fits_all : (m : ℕ) (xs : List A) → list_fits s m xs → all_fit s xs
  fits_all zero xs h = absurd h
  fits_all (suc m) [] h = tt
  fits_all (suc m) (x ∷ xs) h = (h.0, fits_all m xs h.1)

  many_as : (i : Input) → many starts p i ≡ many_n starts p (suc (left i)) i
  many_as i = many_is_n starts p shrinks (suc (left i)) i (omega arith)

  many_accepts : (i : Input) (xs : List A) (j : Input) → Accepts (many_n starts p (suc (left i))) (many_shape_n starts s (suc (left i))) xs i j → Accepts (many starts p) (many_shape starts s) xs i j
  many_accepts i xs j x = record { value = x.value; is = many_as i ∙ x.is; same = x.same }

  -- the turns that another input allows
  many_again : (i : Input) (xs : List A) (j : Input) → many starts p i ≡ Ok (xs, j) → Sound (many starts p) (many_shape starts s) n i xs j
  many_again i xs j e = record {
    takes = (sound_at i j (suc (left i)) (omega arith) e).takes;
    fits = fits_all (suc (left i)) xs (sound_at i j (suc (left i)) (omega arith) e).fits;
    deep = (sound_at i j (suc (left i)) (omega arith) e).deep;
    again = λ i' j' b c.
        let m = suc (max (left i) (left i')) in
        let x = (sound_at i j m (omega arith) e).again i' j' b c in
        record { value = x.value; is = many_is_n starts p shrinks m i' (omega arith) ∙ x.is; same = x.same };
    before = (sound_at i j (suc (left i)) (omega arith) e).before;
  } where
    sound_at : (i j : Input) (m : ℕ) → left i < m → many starts p i ≡ Ok (xs, j) → Sound (many_n starts p m) (many_shape_n starts s m) n i xs j
    sound_at i j m h e = (many_n_good n starts p s P part m).sound i xs j (sym (many_is_n starts p shrinks m i h) ∙ e)

  pub many_good : Good n (many starts p) (many_shape starts s)
  many_good = record {
    sound = many_again;
    complete = λ i xs j fits d t e.
        many_as i ∙ (many_n_good n starts p s P part (suc (left i))).complete i xs j (fits_enough xs i j (suc (left i)) fits (takes_begins (joined (map s.marks xs)) i j t) (omega arith)) d t e;
    accepts = λ i xs j fits d b e.
        many_accepts i xs j ((many_n_good n starts p s P part (suc (left i))).accepts i xs j (fits_enough xs i j (suc (left i)) fits b (omega arith)) d b e);
    opening = λ i xs j at fits b e g.
        many_as i ∙ (many_n_good n starts p s P part (suc (left i))).opening i xs j at (fits_enough xs i j (suc (left i)) fits b (omega arith)) b e g;
    front = (many_n_good n starts p s P part 1).front;
    closing = λ x k h. h;
    sample = λ tail h. record { whole = tail; value = []; takes = refl; starts = λ F k. inr k };
  }

  whole_closes : (k : Option Kind) → (starts k ≡ true) ⊎ (s.closes k × (starts k ≡ false)) → s.closes k
  whole_closes k (inl h) = part.meets k h
  whole_closes k (inr h) = h.0

  many_pair : Good n (pair p (many starts p)) (pair_shape s (many_shape starts s))
  many_pair = pair_good n p s (many starts p) (many_shape starts s) P many_good (λ x k h. whole_closes k h)

  whole_passes : Passes starts (pair_shape s (many_shape starts s))
  whole_passes F k h = part.passes (λ l. (starts l ≡ true) ⊎ F l) k h

  whole_rule : Rule (step_shape starts s (many_shape starts s)) (many_shape starts s) list_of
  whole_rule = record {
    made = list_made;
    marks = step_marks starts s (many_shape starts s) (λ xs. refl);
    tags = list_tags n starts p s P part (many_shape starts s) (λ xs ys h. h);
    fits_to = whole_fits_to;
    fits_from = whole_fits_from;
    ends = list_ends n starts p s P part (many_shape starts s) (λ xs k h. h);
    closing = λ x k h. h;
    closes = λ k h. (h, h.1);
    begins = λ F k h. h;
  } where
    whole_fits_to : (o : Option (A × List A)) → maybe_fits (pair_shape s (many_shape starts s)) o → all_fit s (list_of o)
    whole_fits_to None h = tt
    whole_fits_to (Some c) h = h

    whole_fits_from : (o : Option (A × List A)) → all_fit s (list_of o) → maybe_fits (pair_shape s (many_shape starts s)) o
    whole_fits_from None h = tt
    whole_fits_from (Some c) h = h

  many_fail : AllFail n p s → (m : ℕ) (i : Input) (e : Stop) → left i < m → many starts p i ≡ Err e → Fails n (many starts p) (many_shape starts s) i e
  many_fail f zero i e less h = absurd (omega arith)
  many_fail f (suc m) i e less h =
      rule_fails_at n (maybe starts (pair p (many starts p))) (step_shape starts s (many_shape starts s))
      (maybe_good n starts (pair p (many starts p)) (pair_shape s (many_shape starts s)) many_pair whole_passes)
      (many_shape starts s) list_of whole_rule (many starts p) (many_is_step starts p shrinks) i e
      (maybe_fails_at n starts (pair p (many starts p)) (pair_shape s (many_shape starts s)) many_pair whole_passes i e
      (pair_fails_at n p s (many starts p) (many_shape starts s) P many_good (λ x k h. whole_closes k h) i e (f i e)
      (λ a l c k. let less' = shrinks i a l c in many_fail f m l e (omega arith) k))) h

  pub many_fails : AllFail n p s → AllFail n (many starts p) (many_shape starts s)
  many_fails f i e h = many_fail f (suc (left i)) i e (omega arith) h

pub many_law : {A : Type 0} {n : ℕ} {p q : Parser A} {s : Shape A} (starts : Option Kind → Bool) → Law n p q s → ListPart starts s → Law n (many starts p) (many starts q) (many_shape starts s)
many_law {A} {n} {p} {q} {s} starts P part = record {
  good = many_good n starts p s P.good part;
  fails = many_fails n starts p s P.good part P.fails;
  more = many_more starts p q P.more;
  fit = fit;
} where
  fit : (xs : List A) → all_fit s xs
  fit [] = tt
  fit (x ∷ xs) = (P.fit x, fit xs)
