-- What stands behind an opening token is one level deeper.
use Rattle.std.proofs.Common.{◌≡◌, ℕ, zero, suc, ◌<◌, ◌≤◌, true, false, ◌⊎◌, inl, inr, [], ◌∷◌, Option, Some, None, Ok, Err, refl, sym, ap, ◌∙◌, subst, arith}
use Rattle.opl_tree.specs.Marks.{Part, token, opens, raised, nested}
use Rattle.opl_tree.specs.Spelling.{IsProper}
use Rattle.opl_token.specs.declared.token.Kind.{Kind}
use Rattle.opl_grammar.specs.Input.{Input, Stop, syntax, too_deep, Parser, kind, next, place as place_at, and_then, ◌>>=◌, pure, here, one, take_found}
use Rattle.opl_reader_laws.proofs.Outcomes.{err_one, ok_not_err, and_then_pure}
use Rattle.opl_reader_laws.proofs.Levels.{fits_raised, fits_lowered, Beyond, beyond_lowered, takes_raised, takes_lowered, begins_raised, begins_lowered}
use Rattle.opl_reader_laws.proofs.Takes.{Begins, before}
use Rattle.opl_reader_laws.proofs.Phrases.{Shape, Accepts, Sample, Samples, Good, Fails, nests_too_deep, Law, Reads, one_shape, one_law, pair, pair_shape, pair_law}
use Rattle.opl_reader_laws.proofs.Forms.{more_as, Tree, rule_law}

-- ---- the same phrase, one level deeper, behind a mark that opens the level

abbrev pub deeper : {A : Type 0} → Shape A → Shape A
deeper s = record {
  marks = λ a. opens 1 ∷ raised (s.marks a);
  Tag = s.Tag;
  tag = s.tag;
  fits = s.fits;
  ends = s.ends;
  closes = s.closes;
  begins = s.begins;
}

no_level : {X : Type 0} → 1 ≤ 0 → X
no_level h = absurd (omega arith)

not_beyond_none : {n : ℕ} {X : Type 0} → suc n < 1 → X
not_beyond_none h = absurd (omega arith)

module _ {A : Type 0} (n : ℕ) (p q : Parser A) (s : Shape A) (P : Law n p q s) (read above : Parser A) (is : (i : Input) → read i ≡ p i) (are : (i : Input) → above i ≡ q i) where
  deeper_read : (a : A) (i j : Input) → Accepts p s a i j → Accepts read (deeper s) a i j
  deeper_read a i j x = record { value = x.value; is = is i ∙ x.is; same = x.same }

  deeper_opening : (i : Input) (a : A) (j : Input) (at : ℕ) → s.fits a → Begins (raised (s.marks a)) i j → s.ends (s.tag a) (kind j) → Beyond (suc n) (opens 1 ∷ raised (s.marks a)) i at → read i ≡ Err (too_deep at)
  deeper_opening i a j at fits t e (inl g) = not_beyond_none g.0
  deeper_opening i a j at fits t e (inr g) = is i ∙ P.good.opening i a j at fits (begins_lowered (s.marks a) i j t) e (beyond_lowered n (s.marks a) i at g.1)

  deeper_law_of : Law (suc n) read above (deeper s)
  deeper_law_of = record {
    good = record {
      sound = λ i a j e.
          let x = P.good.sound i a j (sym (is i) ∙ e) in
          record {
            takes = takes_raised (s.marks a) i j x.takes;
            fits = x.fits;
            deep = (omega arith, fits_raised n (s.marks a) x.deep);
            again = λ i' j' b c. deeper_read a i' j' (x.again i' j' (begins_lowered (s.marks a) i' j' b) c);
            before = λ tail. let y = x.before tail in record { start = y.start; begins = begins_raised (s.marks a) y.start tail y.begins };
          };
      complete = λ i a j fits d t e. is i ∙ P.good.complete i a j fits (fits_lowered n (s.marks a) d.1) (takes_lowered (s.marks a) i j t) e;
      accepts = λ i a j fits d t e. deeper_read a i j (P.good.accepts i a j fits (fits_lowered n (s.marks a) d.1) (begins_lowered (s.marks a) i j t) e);
      opening = deeper_opening;
      front = λ i a j F t e. P.good.front i a j F (begins_lowered (s.marks a) i j t) e;
      closing = P.good.closing;
      sample = λ tail h. let a = P.good.sample tail h in record { whole = a.whole; value = a.value; takes = takes_raised (s.marks a.value) a.whole tail a.takes; starts = a.starts };
    };
    fails = λ i e h.
        let f = P.fails i e (sym (is i) ∙ h) in
        record {
          front = f.front;
          stop = f.stop;
          begins = f.begins;
          position = f.position;
          again = λ j m b c. let x = f.again j m b c in record { fault = x.fault; is = is j ∙ x.is; like = x.like; position = x.position };
          viable = λ tail c. let a = f.viable tail c in record { whole = a.whole; mid = a.mid; value = a.value; begins = a.begins; takes = takes_raised (s.marks a.value) a.whole tail a.takes; starts = a.starts };
        };
    more = more_as p read q above is are P.more;
    fit = P.fit;
  }

-- ---- what is read behind an opening token

-- a reader over one level less, whatever the place of the opening token is
pub record Inner {A : Type 0} (n : ℕ) (entry above : ℕ → Parser A) (s : Shape A) : Type 1 where
  pub read : Parser A
  pub more : Parser A
  pub is : (at : ℕ) (i : Input) → entry at i ≡ read i
  pub are : (at : ℕ) (i : Input) → above at i ≡ more i
  pub law : Law n read more s

-- no level is left
pub record Closed {A : Type 0} (entry : ℕ → Parser A) (s : Shape A) : Type 1 where
  pub is : (at : ℕ) (i : Input) → entry at i ≡ Err (too_deep at)
  pub sample : Samples s
  pub closing : (x : s.Tag) (k : Option Kind) → s.closes k → s.ends x k
  pub fit : (a : A) → s.fits a

abbrev pub Levels : {A : Type 0} → ℕ → (ℕ → Parser A) → (ℕ → Parser A) → Shape A → Type 1
Levels zero entry above s = Closed entry s
Levels (suc n) entry above s = Inner n entry above s

-- the laws of a reader behind an opening token over so many levels, of which the token opens one
pub record Entry {A : Type 0} (n : ℕ) (entry above : ℕ → Parser A) (s : Shape A) : Type 1 where
  pub levels : Levels n entry above s

-- the opening token, then what stands behind it, which has the token's place
abbrev pub opened : {X A : Type 0} → (Option Kind → Option X) → (ℕ → Parser A) → Parser (X × A)
opened table entry = here >>= (λ at. one table >>= (λ x. entry at >>= (λ a. pure (x, a))))

abbrev pub opened_shape : {X A : Type 0} → (X → Part) → (Option Kind → Type 0) → Shape A → Shape (X × A)
opened_shape {X} part first s = record {
  marks = λ c. nested (part c.0) (s.marks c.1);
  Tag = X × s.Tag;
  tag = λ c. (c.0, s.tag c.1);
  fits = λ c. s.fits c.1;
  ends = λ x. s.ends x.1;
  closes = s.closes;
  begins = λ F. first;
}

module _ {X A : Type 0} (table : Option Kind → Option X) (part : X → Part) (first : Option Kind → Type 0) (r : Reads table part first) (entry above : ℕ → Parser A) (s : Shape A) where
  -- with no level left
  closed_some : (i : Input) (x : X) → Closed entry s → table (kind i) ≡ Some x → opened table entry i ≡ Err (too_deep (place_at i))
  closed_some i x e t = let c = e.is (place_at i) (next i) in rw (t, c) refl

  closed_none : (e : ℕ → Parser A) (i : Input) → table (kind i) ≡ None → opened table e i ≡ Err (syntax (place_at i))
  closed_none e i t = rw t refl

  closed_err : (i : Input) (o : Option X) → Closed entry s → table (kind i) ≡ o → (opened table entry i ≡ Err (syntax (place_at i))) ⊎ (opened table entry i ≡ Err (too_deep (place_at i)))
  closed_err i None e t = inl (closed_none entry i t)
  closed_err i (Some x) e t = inr (closed_some i x e t)

  closed_not : (i : Input) (c : X × A) (j : Input) → Closed entry s → opened table entry i ≡ Ok (c, j) → ⊥
  closed_not i c j e h = by_fault (closed_err i (table (kind i)) e refl) where
    by_fault : (opened table entry i ≡ Err (syntax (place_at i))) ⊎ (opened table entry i ≡ Err (too_deep (place_at i))) → ⊥
    by_fault (inl f) = ok_not_err (sym h ∙ f)
    by_fault (inr f) = ok_not_err (sym h ∙ f)

  -- the opening token before what may stand behind it
  abbrev opened_sample : (x : X) → IsProper (part x) → (tail : Input) → Sample s tail → Sample (opened_shape part first s) tail
  opened_sample x h tail a = record {
    whole = before (part x) a.whole;
    value = (x, a.value);
    takes = ((refl, h), takes_raised (s.marks a.value) a.whole tail a.takes);
    starts = λ F k. r.starts x h;
  }

  closed_opening : (i : Input) (c : X × A) (j : Input) (at : ℕ) → Closed entry s → Begins (nested (part c.0) (s.marks c.1)) i j → Beyond 0 (nested (part c.0) (s.marks c.1)) i at → opened table entry i ≡ Err (too_deep at)
  closed_opening i c j at e b (inl g) = closed_some i c.0 e (ap table b.0.0 ∙ r.known c.0 b.0.1) ∙ ap (λ x. Err (too_deep x)) (sym g.1)
  closed_opening i c j at e b (inr g) = no_level g.0

  closed_good : Closed entry s → Good 0 (opened table entry) (opened_shape part first s)
  closed_good e = record {
    sound = λ i c j h. absurd (closed_not i c j e h);
    complete = λ i c j fits d t k. no_level d.0;
    accepts = λ i c j fits d t k. no_level d.0;
    opening = λ i c j at fits b k g. closed_opening i c j at e b g;
    front = λ i c j F b k. subst first (sym b.0.0) (r.starts c.0 b.0.1);
    closing = λ x k h. e.closing x.1 k h;
    sample = λ tail h. opened_sample r.sample r.proper tail (e.sample tail h);
  }

  -- the token opens a level too many
  deep_fails : (i : Input) (x : X) → Closed entry s → table (kind i) ≡ Some x → Fails 0 (opened table entry) (opened_shape part first s) i (too_deep (place_at i))
  deep_fails i x e t =
      let f = r.found (kind i) x t in
      record {
        front = token (part x) ∷ [];
        stop = next i;
        begins = (f, refl);
        position = record { before = []; part = part x; mid = i; is = refl; begins = refl; place = refl };
        again = λ j m b c.
            let known : table (kind j) ≡ Some x = ap table b.0.0 ∙ r.known x f.1 in
            record { fault = too_deep (place_at j); is = closed_some j x e known; like = refl; position = record { before = []; part = part x; mid = j; is = refl; begins = refl; place = refl } };
        viable = λ tail h.
            let a = opened_sample x f.1 tail (e.sample tail h) in
            record { whole = a.whole; mid = next a.whole; value = a.value; begins = ((refl, f.1), refl); takes = a.takes; starts = a.starts };
      }

  -- there is no such token
  none_fails : (i : Input) → Closed entry s → table (kind i) ≡ None → Fails 0 (opened table entry) (opened_shape part first s) i (syntax (place_at i))
  none_fails i e t = record {
    front = [];
    stop = i;
    begins = refl;
    position = refl;
    again = λ j m b c. let same : table (kind j) ≡ None = ap (λ x. table (kind x)) b ∙ (ap table c ∙ t) in record { fault = syntax (place_at j); is = closed_none entry j same; like = refl; position = ap place_at b };
    viable = λ tail h.
        let a = opened_sample r.sample r.proper tail (e.sample tail h) in
        record { whole = a.whole; mid = a.whole; value = a.value; begins = refl; takes = a.takes; starts = a.starts };
  }

  closed_fails : (i : Input) (f : Stop) (o : Option X) → Closed entry s → table (kind i) ≡ o → opened table entry i ≡ Err f → Fails 0 (opened table entry) (opened_shape part first s) i f
  closed_fails i f None e t h = subst (λ x. Fails 0 (opened table entry) (opened_shape part first s) i x) (err_one (sym (closed_none entry i t) ∙ h)) (none_fails i e t)
  closed_fails i f (Some x) e t h = subst (λ x. Fails 0 (opened table entry) (opened_shape part first s) i x) (err_one (sym (closed_some i x e t) ∙ h)) (deep_fails i x e t)

  closed_more : (i : Input) (o : Option X) → Closed entry s → table (kind i) ≡ o → nests_too_deep (opened table entry i) ≡ false → opened table entry i ≡ opened table above i
  closed_more i None e t d = closed_none entry i t ∙ sym (closed_none above i t)
  closed_more i (Some x) e t d = absurd (not_false (sym (ap nests_too_deep (closed_some i x e t)) ∙ d)) where
    not_false : true ≡ false → ⊥
    not_false h = cc

  closed_law : Closed entry s → Law 0 (opened table entry) (opened table above) (opened_shape part first s)
  closed_law e = record {
    good = closed_good e;
    fails = λ i f h. closed_fails i f (table (kind i)) e refl h;
    more = λ i d. closed_more i (table (kind i)) e refl d;
    fit = λ c. e.fit c.1;
  }

  -- with one more level
  level_read : (e : ℕ → Parser A) (p : Parser A) → ((at : ℕ) (i : Input) → e at i ≡ p i) → (i : Input) → opened table e i ≡ pair (one table) p i
  level_read e p is i = by_found (table (kind i)) where
    by_found : (o : Option X) → and_then (take_found o i) (λ x. e (place_at i) >>= (λ a. pure {A = X × A} (x, a))) ≡ and_then (take_found o i) (λ x. p >>= (λ a. pure {A = X × A} (x, a)))
    by_found None = refl
    by_found (Some x) = ap (λ o. and_then o (λ a. pure {A = X × A} (x, a))) (is (place_at i) (next i))

  level_rule : ((a : A) → s.fits a) → ((x : s.Tag) (k : Option Kind) → s.closes k → s.ends x k) → Tree (deeper (pair_shape (one_shape part first) s)) (opened_shape part first s) (λ c. c)
  level_rule fit closing = record {
    made = λ c. record { of = c; is = refl };
    marks = λ c. refl;
    tags = λ a b h. h;
    fits = λ c. fit c.1;
    ends = λ a k h. h;
    closing = λ x k h. closing x.1 k h;
    closes = λ k h. h;
    begins = λ F k h. h;
  }

  pub opened_law_of : (n : ℕ) → Levels n entry above s → Law n (opened table entry) (opened table above) (opened_shape part first s)
  opened_law_of zero e = closed_law e
  opened_law_of (suc n) e = rule_law
      (deeper_law_of n (pair (one table) e.read) (pair (one table) e.more) (pair_shape (one_shape part first) s) (pair_law (one_law r) e.law (λ x k h. tt))
      (opened table entry) (opened table above) (level_read entry e.read e.is) (level_read above e.more e.are))
      (opened_shape part first s) (λ c. c) (level_rule e.law.fit e.law.good.closing) (opened table entry) (opened table above) (λ i. sym (and_then_pure (opened table entry i))) (λ i. sym (and_then_pure (opened table above i)))

pub opened_law : {X A : Type 0} {n : ℕ} {entry above : ℕ → Parser A} {s : Shape A} {table : Option Kind → Option X} {part : X → Part} {first : Option Kind → Type 0} → Reads table part first → Entry n entry above s → Law n (opened table entry) (opened table above) (opened_shape part first s)
opened_law {X} {A} {n} {entry} {above} {s} {table} {part} {first} r f = opened_law_of table part first r entry above s n f.levels
