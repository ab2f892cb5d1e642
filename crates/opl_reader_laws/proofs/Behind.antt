-- Phrases behind a sign each, with the sign once more at their end, or not.
use Rattle.std.proofs.Common.{◌≡◌, ℕ, zero, suc, max, ◌<◌, ◌≤◌, Bool, true, false, cond, ◌⊎◌, inl, inr, List, [], ◌∷◌, ◌++◌, map, Option, Some, None, Ok, Err, refl, sym, ap, ◌∙◌, subst, arith, append_assoc, append-nil}
use Rattle.opl_token.specs.declared.sign.Sign.{Sign}
use Rattle.opl_token.specs.declared.token.Kind.{Kind}
use Rattle.opl_token.specs.declared.token.Kind.TheVariants as kinds
use Rattle.opl_tree.specs.Marks.{Mark}
use Rattle.opl_tree.specs.Marks as mk
use Rattle.opl_grammar.specs.Input.{Input, Stop, Outcome, Parser, kind, next, left, and_then, ◌>>=◌, pure, refuse, take_found, sign, is_sign, behind, behind_from, seen}
use Rattle.opl_reader_laws.proofs.Forms.{maybe, maybe_shape, Passes, maybe_good, maybe_fails_at, mapped, Made, Rule, rule_good, rule_fails_at, plain}
use Rattle.opl_reader_laws.proofs.Many.{pair_same, maybe_same}
use Rattle.opl_reader_laws.proofs.Outcomes.{and_then_pure}
use Rattle.opl_reader_laws.proofs.Phrases.{Shape, Sound, Good, Fails, AllFail, More, Law, more_bind, more_test, pair, pair_shape, pair_good, pair_fails_at}
use Rattle.opl_reader_laws.proofs.Takes.{Begins, takes_begins, begins_split, next_left, begins_left, begins_less}
use Rattle.opl_reader_laws.proofs.Tokens.{is_sign_same, sign_shape, sign_law}

abbrev pub Tail : Type 0 → Type 0
Tail A = List A × Bool

abbrev TailParts : Type 0 → Type 0
TailParts A = Option (Unit {0} × Option (A × Tail A))

abbrev closed_or : {A : Type 0} → Option (A × Tail A) → Tail A
closed_or None = ([], true)
closed_or (Some d) = (d.0 ∷ d.1.0, d.1.1)

abbrev tail_of : {A : Type 0} → TailParts A → Tail A
tail_of None = ([], false)
tail_of (Some c) = closed_or c.1

tail_made : {A : Type 0} (c : Tail A) → Made tail_of c
tail_made {A} c = by_parts c.0 c.1 where
  by_parts : (xs : List A) (b : Bool) → Made tail_of (xs, b)
  by_parts [] false = record { of = None; is = refl }
  by_parts [] true = record { of = Some (tt, None); is = refl }
  by_parts (x ∷ xs) b = record { of = Some (tt, Some (x, (xs, b))); is = refl }

abbrev pub tail_marks : {A : Type 0} → Sign → Shape A → Tail A → List Mark
tail_marks s t c = mk.behind s (map t.marks c.0) ++ mk.optional (mk.sign s) c.1

abbrev tail_read : {A : Type 0} → Sign → (Option Kind → Bool) → Parser A → Parser (Tail A) → Parser (TailParts A)
tail_read s starts p rest = maybe (is_sign s) (pair (sign s) (maybe starts (pair p rest)))

abbrev tail_parts : {A : Type 0} → Sign → (Option Kind → Bool) → Shape A → Shape (Tail A) → Shape (TailParts A)
tail_parts s starts t rest = maybe_shape (is_sign s) (pair_shape (sign_shape s) (maybe_shape starts (pair_shape t rest)))

-- before which tokens such a list stops
abbrev pub EndsTail : {A : Type 0} → Sign → (Option Kind → Bool) → Shape A → Option Kind → Type 0
EndsTail s starts t k = t.closes k × ((starts k ≡ false) × (is_sign s k ≡ false))

-- so many turns are enough
abbrev turns_fit : {A : Type 0} → Shape A → ℕ → List A → Type 0
turns_fit t zero xs = ⊥
turns_fit t (suc m) [] = Unit {0}
turns_fit t (suc m) (x ∷ xs) = t.fits x × turns_fit t m xs

abbrev tail_shape_n : {A : Type 0} → Sign → (Option Kind → Bool) → Shape A → ℕ → Shape (Tail A)
tail_shape_n s starts t m = record {
  marks = tail_marks s t;
  Tag = Unit {0};
  tag = λ c. tt;
  fits = λ c. turns_fit t m c.0;
  ends = λ x. EndsTail s starts t;
  closes = EndsTail s starts t;
  begins = λ F k. (is_sign s k ≡ true) ⊎ F k;
}

abbrev pub tail_shape : {A : Type 0} → Sign → (Option Kind → Bool) → Shape A → Shape (Tail A)
tail_shape s starts t = plain (tail_marks s t) (EndsTail s starts t) (λ F k. (is_sign s k ≡ true) ⊎ F k)

-- the list, without the parts found before
unfoldable behind_n : {A : Type 0} → Sign → (Option Kind → Bool) → Parser A → ℕ → Parser (Tail A)
behind_n s starts p zero = refuse
behind_n s starts p (suc m) = mapped tail_of (tail_read s starts p (behind_n s starts p m))

-- a part of such a list: it begins with a token that passes the test, and it stops where the sign comes
pub record TailPart {A : Type 0} (s : Sign) (starts : Option Kind → Bool) (t : Shape A) : Type 1 where
  pub passes : Passes starts t
  pub meets : (k : Option Kind) → is_sign s k ≡ true → t.closes k

module _ {A : Type 0} (s : Sign) (starts : Option Kind → Bool) (t : Shape A) (rest : Shape (Tail A)) (same : (c : Tail A) → rest.marks c ≡ tail_marks s t c) where
  tail_spelt : (o : TailParts A) → tail_marks s t (tail_of o) ≡ (tail_parts s starts t rest).marks o
  tail_spelt None = refl
  tail_spelt (Some c) = by_inner c.1 where
    by_inner : (o : Option (A × Tail A)) → tail_marks s t (closed_or o) ≡ (tail_parts s starts t rest).marks (Some (tt, o))
    by_inner None = refl
    by_inner (Some d) = ap (λ ms. mk.token (mk.sign s) ∷ ms) (append_assoc (t.marks d.0) (mk.behind s (map t.marks d.1.0)) (mk.optional (mk.sign s) d.1.1) ∙ ap (λ ms. t.marks d.0 ++ ms) (sym (same d.1)))

  tail_ends : ((y : rest.Tag) (k : Option Kind) → EndsTail s starts t k → rest.ends y k) → (o : TailParts A) (k : Option Kind) → EndsTail s starts t k → (tail_parts s starts t rest).ends ((tail_parts s starts t rest).tag o) k
  tail_ends ends None k h = h.1.1
  tail_ends ends (Some c) k h = by_inner c.1 where
    by_inner : (o : Option (A × Tail A)) → (tail_parts s starts t rest).ends ((tail_parts s starts t rest).tag (Some (tt, o))) k
    by_inner None = h.1.0
    by_inner (Some d) = ends (rest.tag d.1) k h

module _ {A : Type 0} (s : Sign) (starts : Option Kind → Bool) (t : Shape A) where
  fits_to_n : (m : ℕ) (o : TailParts A) → (tail_parts s starts t (tail_shape_n s starts t m)).fits o → turns_fit t (suc m) (tail_of o).0
  fits_to_n m None h = tt
  fits_to_n m (Some c) h = by_inner c.1 h where
    by_inner : (o : Option (A × Tail A)) → (tail_parts s starts t (tail_shape_n s starts t m)).fits (Some (tt, o)) → turns_fit t (suc m) (closed_or o).0
    by_inner None h = tt
    by_inner (Some d) h = h.1

  fits_from_n : (m : ℕ) (o : TailParts A) → turns_fit t (suc m) (tail_of o).0 → (tail_parts s starts t (tail_shape_n s starts t m)).fits o
  fits_from_n m None h = tt
  fits_from_n m (Some c) h = by_inner c.1 h where
    by_inner : (o : Option (A × Tail A)) → turns_fit t (suc m) (closed_or o).0 → (tail_parts s starts t (tail_shape_n s starts t m)).fits (Some (tt, o))
    by_inner None h = (tt, tt)
    by_inner (Some d) h = (tt, h)

  tail_rule_n : (m : ℕ) → Rule (tail_parts s starts t (tail_shape_n s starts t m)) (tail_shape_n s starts t (suc m)) tail_of
  tail_rule_n m = record {
    made = tail_made;
    marks = tail_spelt s starts t (tail_shape_n s starts t m) (λ c. refl);
    tags = λ a b h. refl;
    fits_to = fits_to_n m;
    fits_from = fits_from_n m;
    ends = tail_ends s starts t (tail_shape_n s starts t m) (λ c. refl) (λ y k h. h);
    closing = λ x k h. h;
    closes = λ k h. ((h, h.1.0), h.1.1);
    begins = λ F k h. h;
  }

  tail_rule : ((a : A) → t.fits a) → Rule (tail_parts s starts t (tail_shape s starts t)) (tail_shape s starts t) tail_of
  tail_rule fit = record {
    made = tail_made;
    marks = tail_spelt s starts t (tail_shape s starts t) (λ c. refl);
    tags = λ a b h. refl;
    fits_to = λ o h. tt;
    fits_from = λ o h. all_parts_fit o;
    ends = tail_ends s starts t (tail_shape s starts t) (λ c. refl) (λ y k h. h);
    closing = λ x k h. h;
    closes = λ k h. ((h, h.1.0), h.1.1);
    begins = λ F k h. h;
  } where
    all_parts_fit : (o : TailParts A) → (tail_parts s starts t (tail_shape s starts t)).fits o
    all_parts_fit None = tt
    all_parts_fit (Some c) = by_inner c.1 where
      by_inner : (o : Option (A × Tail A)) → (tail_parts s starts t (tail_shape s starts t)).fits (Some (tt, o))
      by_inner None = (tt, tt)
      by_inner (Some d) = (tt, (fit d.0, tt))

  tail_front : (i : Input) (c : Tail A) (j : Input) (F : Option Kind → Type 0) → Begins (tail_marks s t c) i j → F (kind j) → (is_sign s (kind i) ≡ true) ⊎ F (kind i)
  tail_front i c j F h e = by_parts c.0 c.1 h where
    first_sign : (ms : List Mark) → Begins (mk.token (mk.sign s) ∷ ms) i j → is_sign s (kind i) ≡ true
    first_sign ms h = ap (is_sign s) h.0.0 ∙ is_sign_same s

    by_parts : (xs : List A) (b : Bool) → Begins (tail_marks s t (xs, b)) i j → (is_sign s (kind i) ≡ true) ⊎ F (kind i)
    by_parts [] false h = inr (subst (λ x. F (kind x)) (sym h) e)
    by_parts [] true h = inl (first_sign [] h)
    by_parts (x ∷ xs) b h = inl (first_sign ((t.marks x ++ mk.behind s (map t.marks xs)) ++ mk.optional (mk.sign s) b) h)

module _ {A : Type 0} (n : ℕ) (s : Sign) (starts : Option Kind → Bool) (p : Parser A) (t : Shape A) (P : Good n p t) (part : TailPart s starts t) where
  both_of : (rest : Parser (Tail A)) (r : Shape (Tail A)) → Good n rest r → ((x : r.Tag) (k : Option Kind) → r.begins (r.ends x) k → t.closes k) → Good n (pair p rest) (pair_shape t r)
  both_of rest r R meets = pair_good n p t rest r P R meets

  inner_of : (rest : Parser (Tail A)) (r : Shape (Tail A)) → Good n rest r → ((x : r.Tag) (k : Option Kind) → r.begins (r.ends x) k → t.closes k) → Good n (maybe starts (pair p rest)) (maybe_shape starts (pair_shape t r))
  inner_of rest r R meets = maybe_good n starts (pair p rest) (pair_shape t r) (both_of rest r R meets) (λ F k h. part.passes (r.begins F) k h)

  signed_of : (rest : Parser (Tail A)) (r : Shape (Tail A)) → Good n rest r → ((x : r.Tag) (k : Option Kind) → r.begins (r.ends x) k → t.closes k) → Good n (pair (sign s) (maybe starts (pair p rest))) (pair_shape (sign_shape s) (maybe_shape starts (pair_shape t r)))
  signed_of rest r R meets = pair_good n (sign s) (sign_shape s) (maybe starts (pair p rest)) (maybe_shape starts (pair_shape t r)) (sign_law s).good (inner_of rest r R meets) (λ x k h. tt)

  turn_of : (rest : Parser (Tail A)) (r : Shape (Tail A)) → Good n rest r → ((x : r.Tag) (k : Option Kind) → r.begins (r.ends x) k → t.closes k) → Good n (tail_read s starts p rest) (tail_parts s starts t r)
  turn_of rest r R meets = maybe_good n (is_sign s) (pair (sign s) (maybe starts (pair p rest))) (pair_shape (sign_shape s) (maybe_shape starts (pair_shape t r))) (signed_of rest r R meets) (λ F k h. h)

  part_meets : (k : Option Kind) → (is_sign s k ≡ true) ⊎ EndsTail s starts t k → t.closes k
  part_meets k (inl h) = part.meets k h
  part_meets k (inr h) = h.0

  behind_n_good : (m : ℕ) → Good n (behind_n s starts p m) (tail_shape_n s starts t m)
  unfolding behind_n
  behind_n_good zero = record {
    sound = λ i a j h. cc;
    complete = λ i a j fits d t e. absurd fits;
    accepts = λ i a j fits d t e. absurd fits;
    opening = λ i c j at fits h e g. absurd fits;
    front = λ i c j F h e. tail_front s starts t i c j F h e;
    closing = λ x k h. h;
    sample = λ tail h. record { whole = tail; value = ([], false); takes = refl; starts = λ F k. inr k };
  }
  behind_n_good (suc m) = rule_good n (tail_read s starts p (behind_n s starts p m)) (tail_parts s starts t (tail_shape_n s starts t m)) (turn_of (behind_n s starts p m) (tail_shape_n s starts t m) (behind_n_good m) (λ x k h. part_meets k h)) (tail_shape_n s starts t (suc m)) tail_of (tail_rule_n s starts t m) (behind_n s starts p (suc m)) (λ i. refl)

  -- ---- enough turns are as good as more

  sign_less : (i : Input) (u : Unit {0}) (m : Input) → sign s i ≡ Ok (u, m) → left m < left i
  sign_less i u m h = begins_less (mk.token (mk.sign s) ∷ []) i m (record { first = mk.sign s; is = refl }) (takes_begins (mk.token (mk.sign s) ∷ []) i m ((sign_law {n = n} s).good.sound i u m h).takes)

  part_left : (i : Input) (a : A) (j : Input) → p i ≡ Ok (a, j) → left j ≤ left i
  part_left i a j h = begins_left (t.marks a) i j (takes_begins (t.marks a) i j (P.sound i a j h).takes)

  turn_same : (rest other : Parser (Tail A)) (i : Input) → ((j : Input) → left j < left i → rest j ≡ other j) → tail_read s starts p rest i ≡ tail_read s starts p other i
  turn_same rest other i same = maybe_same (is_sign s) (pair (sign s) (maybe starts (pair p rest))) (pair (sign s) (maybe starts (pair p other))) i
      (pair_same (sign s) (maybe starts (pair p rest)) (maybe starts (pair p other)) i
      (λ u m h. let less = sign_less i u m h in
      maybe_same starts (pair p rest) (pair p other) m (pair_same p rest other m (λ a j k. let le = part_left m a j k in same j (omega arith)))))

  behind_enough : (m l : ℕ) (i : Input) → left i < m → left i < l → behind_n s starts p m i ≡ behind_n s starts p l i
  unfolding behind_n
  behind_enough zero l i h k = absurd (omega arith)
  behind_enough (suc m) zero i h k = absurd (omega arith)
  behind_enough (suc m) (suc l) i h k = ap (λ (o : Outcome (TailParts A)). and_then o (λ c. pure (tail_of c))) (turn_same (behind_n s starts p m) (behind_n s starts p l) i (λ j less. behind_enough m l j (omega arith) (omega arith)))

-- ---- the loop of the grammar

abbrev in_front : {A : Type 0} → List A → Tail A → Tail A
in_front found c = (found ++ c.0, c.1)

abbrev after_sign : {A : Type 0} → List A → Outcome (Option (A × Tail A)) → Outcome (Tail A)
after_sign {A} found o = and_then (and_then (and_then (and_then o (λ b. pure {A = Unit {0} × Option (A × Tail A)} (tt, b))) (λ a. pure (Some a))) (λ c. pure (tail_of c))) (λ c. pure (in_front found c))

abbrev BehindFound : {A : Type 0} → Sign → (Option Kind → Bool) → Parser A → ℕ → List A → Type 0
BehindFound {A} s starts p n found = (x : A) (j : Input) → behind_from s starts p n (found ++ x ∷ []) j ≡ mapped (in_front (found ++ x ∷ [])) (behind_n s starts p n) j

behind_found : {A : Type 0} (s : Sign) (starts : Option Kind → Bool) (p : Parser A) (n : ℕ) (found : List A) (i : Input) → behind_from s starts p n found i ≡ mapped (in_front found) (behind_n s starts p n) i
unfolding behind_n behind_from
behind_found s starts p zero found i = refl
behind_found {A} s starts p (suc n) found i = by_sign (λ x j. behind_found s starts p n (found ++ x ∷ []) j) (is_sign s (kind i)) where
  by_rest : (x : A) (o : Outcome (Tail A)) (r : Outcome (Tail A)) → r ≡ and_then o (λ c. pure (in_front (found ++ x ∷ []) c)) →
      r ≡ after_sign found (and_then (and_then o (λ b. pure {A = A × Tail A} (x, b))) (λ a. pure (Some a)))
  by_rest x (Ok c) r e = e ∙ rw append_assoc refl
  by_rest x (Err at) r e = e

  by_part : BehindFound s starts p n found → (o : Outcome A) →
      and_then o (λ x. behind_from s starts p n (found ++ x ∷ [])) ≡ after_sign found (and_then (and_then o (λ a. behind_n s starts p n >>= (λ b. pure {A = A × Tail A} (a, b)))) (λ a. pure (Some a)))
  by_part again (Ok c) = by_rest c.0 (behind_n s starts p n c.1) (behind_from s starts p n (found ++ c.0 ∷ []) c.1) (again c.0 c.1)
  by_part again (Err at) = refl

  by_start : BehindFound s starts p n found → (b : Bool) →
      cond {A = Outcome (Tail A)} b ((p >>= (λ x. behind_from s starts p n (found ++ x ∷ []))) (next i)) (Ok ((found, true), next i))
      ≡ after_sign found (cond {A = Outcome (Option (A × Tail A))} b ((pair p (behind_n s starts p n) >>= (λ a. pure (Some a))) (next i)) (Ok (None, next i)))
  by_start again true = by_part again (p (next i))
  by_start again false = rw append-nil refl

  by_sign : BehindFound s starts p n found → (b : Bool) →
      cond {A = Outcome (Tail A)} b (cond {A = Outcome (Tail A)} (starts (kind (next i))) ((p >>= (λ x. behind_from s starts p n (found ++ x ∷ []))) (next i)) (Ok ((found, true), next i))) (Ok ((found, false), i))
      ≡ and_then (and_then (cond {A = Outcome (TailParts A)} b (and_then (and_then (take_found (seen b) i) (λ u. maybe starts (pair p (behind_n s starts p n)) >>= (λ c. pure {A = Unit {0} × Option (A × Tail A)} (u, c)))) (λ a. pure (Some a))) (Ok (None, i))) (λ c. pure (tail_of c))) (λ c. pure (in_front found c))
  by_sign again true = by_start again (starts (kind (next i)))
  by_sign again false = rw append-nil refl

behind_from_more : {A : Type 0} (s : Sign) (starts : Option Kind → Bool) (p q : Parser A) → More p q → (m : ℕ) (found : List A) → More (behind_from s starts p m found) (behind_from s starts q m found)
unfolding behind_from
behind_from_more s starts p q h zero found i d = refl
behind_from_more {A} s starts p q h (suc m) found i d = more_test {A = Tail A} (is_sign s (kind i))
    (cond {A = Outcome (Tail A)} (starts (kind (next i))) ((p >>= (λ x. behind_from s starts p m (found ++ x ∷ []))) (next i)) (Ok ((found, true), next i))) (Ok ((found, false), i))
    (cond {A = Outcome (Tail A)} (starts (kind (next i))) ((q >>= (λ x. behind_from s starts q m (found ++ x ∷ []))) (next i)) (Ok ((found, true), next i))) (Ok ((found, false), i))
    (more_test {A = Tail A} (starts (kind (next i))) ((p >>= (λ x. behind_from s starts p m (found ++ x ∷ []))) (next i)) (Ok ((found, true), next i)) ((q >>= (λ x. behind_from s starts q m (found ++ x ∷ []))) (next i)) (Ok ((found, true), next i))
    (more_bind (p (next i)) (q (next i)) (λ x. behind_from s starts p m (found ++ x ∷ [])) (λ x. behind_from s starts q m (found ++ x ∷ [])) (h (next i)) (λ x. behind_from_more s starts p q h m (found ++ x ∷ []))) (λ e. refl)) (λ e. refl) d

behind_more : {A : Type 0} (s : Sign) (starts : Option Kind → Bool) (p q : Parser A) → More p q → More (behind s starts p) (behind s starts q)
unfolding behind
behind_more s starts p q h i d = behind_from_more s starts p q h (suc (left i)) [] i d

-- ---- the laws of the list

module _ {A : Type 0} (n : ℕ) (s : Sign) (starts : Option Kind → Bool) (p : Parser A) (t : Shape A) (P : Good n p t) (part : TailPart s starts t) (fit : (a : A) → t.fits a) where
  turns_enough : (xs : List A) (b : Bool) (i j : Input) (m : ℕ) → Begins (tail_marks s t (xs, b)) i j → left i < m → turns_fit t m xs
  turns_enough [] b i j zero h less = absurd (omega arith)
  turns_enough [] b i j (suc m) h less = tt
  turns_enough (x ∷ xs) b i j zero h less = absurd (omega arith)
  turns_enough (x ∷ xs) b i j (suc m) h less =
      let w = begins_split (t.marks x) (tail_marks s t (xs, b)) (next i) j (subst (λ ms. Begins ms (next i) j) (append_assoc (t.marks x) (mk.behind s (map t.marks xs)) (mk.optional (mk.sign s) b)) h.1) in
      let l = begins_left (t.marks x) (next i) w.mid w.front in
      let k = next_left i (kinds.Sign s) h.0.0 in
      (fit x, turns_enough xs b w.mid j m w.back (omega arith))

  behind_as : (m : ℕ) (i : Input) → left i < m → behind s starts p i ≡ behind_n s starts p m i
  unfolding behind
  behind_as m i h = behind_found s starts p (suc (left i)) [] i ∙ (and_then_pure (behind_n s starts p (suc (left i)) i) ∙ behind_enough n s starts p t P part (suc (left i)) m i (omega arith) h)

  behind_n_is : (m : ℕ) (i : Input) → left i ≤ m → behind_n s starts p (suc m) i ≡ mapped tail_of (tail_read s starts p (behind s starts p)) i
  unfolding behind_n
  behind_n_is m i h = ap (λ (o : Outcome (TailParts A)). and_then o (λ c. pure (tail_of c))) (turn_same n s starts p t P part (behind_n s starts p m) (behind s starts p) i (λ j less. sym (behind_as m j (omega arith))))

  behind_is_turn : (i : Input) → behind s starts p i ≡ mapped tail_of (tail_read s starts p (behind s starts p)) i
  behind_is_turn i = behind_as (suc (left i)) i (omega arith) ∙ behind_n_is (left i) i (omega arith)

  behind_sound : (i : Input) (c : Tail A) (j : Input) → behind s starts p i ≡ Ok (c, j) → Sound (behind s starts p) (tail_shape s starts t) n i c j
  behind_sound i c j e = record {
    takes = (sound_at (suc (left i)) (omega arith)).takes;
    fits = tt;
    deep = (sound_at (suc (left i)) (omega arith)).deep;
    again = λ i' j' b k.
        let m = suc (max (left i) (left i')) in
        let x = (sound_at m (omega arith)).again i' j' b k in
        record { value = x.value; is = behind_as m i' (omega arith) ∙ x.is; same = x.same };
    before = (sound_at (suc (left i)) (omega arith)).before;
  } where
    sound_at : (m : ℕ) → left i < m → Sound (behind_n s starts p m) (tail_shape_n s starts t m) n i c j
    sound_at m h = (behind_n_good n s starts p t P part m).sound i c j (sym (behind_as m i h) ∙ e)

  behind_good : Good n (behind s starts p) (tail_shape s starts t)
  behind_good = record {
    sound = behind_sound;
    complete = λ i c j fits d h e.
        behind_as (suc (left i)) i (omega arith) ∙ (behind_n_good n s starts p t P part (suc (left i))).complete i c j (turns_enough c.0 c.1 i j (suc (left i)) (takes_begins (tail_marks s t c) i j h) (omega arith)) d h e;
    accepts = λ i c j fits d b e.
        let x = (behind_n_good n s starts p t P part (suc (left i))).accepts i c j (turns_enough c.0 c.1 i j (suc (left i)) b (omega arith)) d b e in
        record { value = x.value; is = behind_as (suc (left i)) i (omega arith) ∙ x.is; same = x.same };
    opening = λ i c j at fits b e g.
        behind_as (suc (left i)) i (omega arith) ∙ (behind_n_good n s starts p t P part (suc (left i))).opening i c j at (turns_enough c.0 c.1 i j (suc (left i)) b (omega arith)) b e g;
    front = λ i c j F h e. tail_front s starts t i c j F h e;
    closing = λ x k h. h;
    sample = λ tail h. record { whole = tail; value = ([], false); takes = refl; starts = λ F k. inr k };
  }

  abbrev list : Shape (Tail A)
  list = tail_shape s starts t

  meets : (x : Unit {0}) (k : Option Kind) → (is_sign s k ≡ true) ⊎ EndsTail s starts t k → t.closes k
  meets x k h = part_meets n s starts p t P part k h

  behind_fail : AllFail n p t → (m : ℕ) (i : Input) (e : Stop) → left i < m → behind s starts p i ≡ Err e → Fails n (behind s starts p) list i e
  behind_fail f zero i e less h = absurd (omega arith)
  behind_fail f (suc m) i e less h = rule_fails_at n (tail_read s starts p (behind s starts p)) (tail_parts s starts t list) (turn_of n s starts p t P part (behind s starts p) list behind_good meets) list tail_of (tail_rule s starts t fit) (behind s starts p) behind_is_turn i e
      (maybe_fails_at n (is_sign s) (pair (sign s) (maybe starts (pair p (behind s starts p)))) (pair_shape (sign_shape s) (maybe_shape starts (pair_shape t list))) (signed_of n s starts p t P part (behind s starts p) list behind_good meets) (λ F k h. h) i e
      (pair_fails_at n (sign s) (sign_shape s) (maybe starts (pair p (behind s starts p))) (maybe_shape starts (pair_shape t list)) (sign_law s).good (inner_of n s starts p t P part (behind s starts p) list behind_good meets) (λ x k h. tt) i e ((sign_law {n = n} s).fails i e)
      (λ u l k. let less' = sign_less n s starts p t P part i u l k in
      maybe_fails_at n starts (pair p (behind s starts p)) (pair_shape t list) (both_of n s starts p t P part (behind s starts p) list behind_good meets) (λ F k h. part.passes (list.begins F) k h) l e
      (pair_fails_at n p t (behind s starts p) list P behind_good meets l e (f l e)
      (λ a j o. let le = part_left n s starts p t P part l a j o in behind_fail f m j e (omega arith)))))) h

pub behind_law : {A : Type 0} {n : ℕ} {p q : Parser A} {t : Shape A} (s : Sign) (starts : Option Kind → Bool) → Law n p q t → TailPart s starts t → Law n (behind s starts p) (behind s starts q) (tail_shape s starts t)
behind_law {A} {n} {p} {q} {t} s starts P part = record {
  good = behind_good n s starts p t P.good part P.fit;
  fails = λ i e. behind_fail n s starts p t P.good part P.fit P.fails (suc (left i)) i e (omega arith);
  more = behind_more s starts p q P.more;
  fit = λ c. tt;
}
