-- Phrases with their place, phrases by the next token, and phrases made into another value.
use Rattle.std.proofs.Common.{◌≡◌, ℕ, Bool, true, false, cond, ◌⊎◌, inl, inr, List, [], ◌∷◌, Option, Some, None, Ok, Err, refl, sym, ap, ◌∙◌, subst}
use Rattle.opl_tree.specs.Marks.{Mark, place}
use Rattle.opl_token.specs.declared.token.Kind.{Kind}
use Rattle.opl_grammar.specs.Input.{Input, Stop, Outcome, Parser, kind, place as place_at, ◌>>=◌, pure, here}
use Rattle.opl_reader_laws.proofs.Outcomes.{ok_one, ok_not_err, bind_ok, Broke, bind_err, and_then_pure}
use Rattle.opl_grammar.specs.Input.{too_deep}
use Rattle.opl_reader_laws.proofs.Levels.{Fits, Beyond}
use Rattle.opl_reader_laws.proofs.Takes.{Takes, Begins, takes_begins, stop_front}
use Rattle.opl_reader_laws.proofs.Phrases.{Shape, Accepts, Sound, Good, Fails, AllFail, nests_too_deep, More, Law, Any, more_bind, more_test}

-- ---- a phrase with its place

abbrev pub placed : {A : Type 0} → Parser A → Parser (ℕ × A)
placed p = here >>= (λ at. p >>= (λ a. pure (at, a)))

abbrev pub placed_shape : {A : Type 0} → Shape A → Shape (ℕ × A)
placed_shape s = record {
  marks = λ c. place c.0 ∷ s.marks c.1;
  Tag = s.Tag;
  tag = λ c. s.tag c.1;
  fits = λ c. s.fits c.1;
  ends = s.ends;
  closes = s.closes;
  begins = s.begins;
}

module _ {A : Type 0} (n : ℕ) (p : Parser A) (s : Shape A) (P : Good n p s) where
  placed_accepts : (i : Input) (c : ℕ × A) (j : Input) → Accepts p s c.1 i j → Accepts (placed p) (placed_shape s) c i j
  placed_accepts i c j x = record { value = (place_at i, x.value); is = rw x.is refl; same = x.same }

  placed_good : Good n (placed p) (placed_shape s)
  placed_good = record {
    sound = λ i c j h.
        let w = bind_ok (p i) (λ a. pure (place_at i, a)) c j h in
        let a = P.sound i w.value w.mid w.first in
        let both : Sound (placed p) (placed_shape s) n i (place_at i, w.value) w.mid = record {
          takes = (refl, a.takes);
          fits = a.fits;
          deep = a.deep;
          again = λ i' j' b e. placed_accepts i' (place_at i, w.value) j' (a.again i' j' b e);
          before = λ tail. let x = a.before tail in record { start = x.start; begins = x.begins };
        } in
        subst (λ (x : (ℕ × A) × Input). Sound (placed p) (placed_shape s) n i x.0 x.1) (ok_one w.second) both;
    complete = λ i c j fits d h e. let first = P.complete i c.1 j fits d h.1 e in rw (first, h.0) refl;
    accepts = λ i c j fits d h e. placed_accepts i c j (P.accepts i c.1 j fits d h e);
    opening = λ i c j at fits h e g. let x = P.opening i c.1 j at fits h e g in rw x refl;
    front = λ i c j F h e. P.front i c.1 j F h e;
    closing = P.closing;
    sample = λ tail h. let a = P.sample tail h in record { whole = a.whole; value = (place_at a.whole, a.value); takes = (refl, a.takes); starts = a.starts };
  }

  placed_fail : (i : Input) (e : Stop) → Fails n p s i e → Fails n (placed p) (placed_shape s) i e
  placed_fail i e f = record {
    front = f.front;
    stop = f.stop;
    begins = f.begins;
    position = f.position;
    again = λ j m b c. let x = f.again j m b c in record { fault = x.fault; is = rw x.is refl; like = x.like; position = x.position };
    viable = λ tail h.
        let a = f.viable tail h in
        record { whole = a.whole; mid = a.mid; value = (place_at a.whole, a.value); begins = a.begins; takes = (refl, a.takes); starts = a.starts };
  }

  placed_broke : AllFail n p s → (i : Input) (e : Stop) → (p i ≡ Err e) ⊎ Broke {B = ℕ × A} (p i) (λ a. pure (place_at i, a)) e → Fails n (placed p) (placed_shape s) i e
  placed_broke f i e (inl h) = placed_fail i e (f i e h)
  placed_broke f i e (inr w) = absurd (ok_not_err w.second)

  placed_fails : AllFail n p s → AllFail n (placed p) (placed_shape s)
  placed_fails f i e h = placed_broke f i e (bind_err (p i) (λ a. pure (place_at i, a)) e h)

placed_more : {A : Type 0} (p q : Parser A) → More p q → More (placed p) (placed q)
placed_more p q h i = more_bind (p i) (q i) (λ a. pure (place_at i, a)) (λ a. pure (place_at i, a)) (h i) (λ a j d. refl)

pub placed_law : {A : Type 0} {n : ℕ} {p q : Parser A} {s : Shape A} → Law n p q s → Law n (placed p) (placed q) (placed_shape s)
placed_law {A} {n} {p} {q} {s} P = record { good = placed_good n p s P.good; fails = placed_fails n p s P.good P.fails; more = placed_more p q P.more; fit = λ c. P.fit c.1 }

-- ---- a phrase or nothing, by the next token

abbrev pub maybe : {A : Type 0} → (Option Kind → Bool) → Parser A → Parser (Option A)
maybe {A} test p = λ i. cond {A = Outcome (Option A)} (test (kind i)) ((p >>= (λ a. pure (Some a))) i) (Ok (None, i))

abbrev pub maybe_marks : {A : Type 0} → Shape A → Option A → List Mark
maybe_marks s None = []
maybe_marks s (Some a) = s.marks a

abbrev pub maybe_tag : {A : Type 0} (s : Shape A) → Option A → Option s.Tag
maybe_tag s None = None
maybe_tag s (Some a) = Some (s.tag a)

abbrev pub maybe_fits : {A : Type 0} → Shape A → Option A → Type 0
maybe_fits s None = Unit {0}
maybe_fits s (Some a) = s.fits a

abbrev pub maybe_ends : {A : Type 0} (test : Option Kind → Bool) (s : Shape A) → Option s.Tag → Option Kind → Type 0
maybe_ends test s None k = test k ≡ false
maybe_ends test s (Some x) k = s.ends x k

abbrev pub maybe_shape : {A : Type 0} → (Option Kind → Bool) → Shape A → Shape (Option A)
maybe_shape test s = record {
  marks = maybe_marks s;
  Tag = Option s.Tag;
  tag = maybe_tag s;
  fits = maybe_fits s;
  ends = maybe_ends test s;
  closes = λ k. s.closes k × (test k ≡ false);
  begins = λ F k. (test k ≡ true) ⊎ F k;
}

-- whatever the phrase begins with passes the test
abbrev pub Passes : {A : Type 0} → (Option Kind → Bool) → Shape A → Type 1
Passes test s = (F : Option Kind → Type 0) (k : Option Kind) → s.begins F k → test k ≡ true

module _ {A : Type 0} (n : ℕ) (test : Option Kind → Bool) (p : Parser A) (s : Shape A) (P : Good n p s) (passes : Passes test s) where
  maybe_some : (i : Input) (a : A) (j : Input) → test (kind i) ≡ true → p i ≡ Ok (a, j) → maybe test p i ≡ Ok (Some a, j)
  maybe_some i a j t h = rw (t, h) refl

  maybe_none : (i j : Input) → i ≡ j → test (kind j) ≡ false → maybe test p i ≡ Ok (None, j)
  maybe_none i j h e = let e' : test (kind i) ≡ false = ap (λ x. test (kind x)) h ∙ e in rw (e', h) refl

  maybe_read : (i : Input) (a : A) (j : Input) → Accepts p s a i j → Accepts (maybe test p) (maybe_shape test s) (Some a) i j
  maybe_read i a j x =
      let b = P.sound i x.value j x.is in
      let t = passes Any (kind i) (P.front i x.value j Any (takes_begins (s.marks x.value) i j b.takes) tt) in
      record { value = Some x.value; is = maybe_some i x.value j t x.is; same = ap Some x.same }

  maybe_sound : (i : Input) (o : Option A) (j : Input) (b : Bool) → test (kind i) ≡ b → cond {A = Outcome (Option A)} b ((p >>= (λ a. pure (Some a))) i) (Ok (None, i)) ≡ Ok (o, j) → Sound (maybe test p) (maybe_shape test s) n i o j
  maybe_sound i o j true e h =
      let w = bind_ok (p i) (λ a. pure (Some a)) o j h in
      let a = P.sound i w.value w.mid w.first in
      let some : Sound (maybe test p) (maybe_shape test s) n i (Some w.value) w.mid = record {
        takes = a.takes;
        fits = a.fits;
        deep = a.deep;
        again = λ i' j' b c. maybe_read i' w.value j' (a.again i' j' b c);
        before = λ tail. let x = a.before tail in record { start = x.start; begins = x.begins };
      } in
      subst (λ (x : Option A × Input). Sound (maybe test p) (maybe_shape test s) n i x.0 x.1) (ok_one w.second) some
  maybe_sound i o j false e h =
      let none : Sound (maybe test p) (maybe_shape test s) n i None i = record {
        takes = refl;
        fits = tt;
        deep = tt;
        again = λ i' j' b c. record { value = None; is = maybe_none i' j' b (ap test c ∙ e); same = refl };
        before = λ tail. record { start = tail; begins = refl };
      } in
      subst (λ (x : Option A × Input). Sound (maybe test p) (maybe_shape test s) n i x.0 x.1) (ok_one h) none

  maybe_complete : (i : Input) (o : Option A) (j : Input) → maybe_fits s o → Fits n (maybe_marks s o) → Takes (maybe_marks s o) i j → maybe_ends test s (maybe_tag s o) (kind j) → maybe test p i ≡ Ok (o, j)
  maybe_complete i None j fits d h e = maybe_none i j h e
  maybe_complete i (Some a) j fits d h e = maybe_some i a j (passes Any (kind i) (P.front i a j Any (takes_begins (s.marks a) i j h) tt)) (P.complete i a j fits d h e)

  maybe_accepts : (i : Input) (o : Option A) (j : Input) → maybe_fits s o → Fits n (maybe_marks s o) → Begins (maybe_marks s o) i j → maybe_ends test s (maybe_tag s o) (kind j) → Accepts (maybe test p) (maybe_shape test s) o i j
  maybe_accepts i None j fits d h e = record { value = None; is = maybe_none i j h e; same = refl }
  maybe_accepts i (Some a) j fits d h e = maybe_read i a j (P.accepts i a j fits d h e)

  maybe_front : (i : Input) (o : Option A) (j : Input) (F : Option Kind → Type 0) → Begins (maybe_marks s o) i j → F (kind j) → (test (kind i) ≡ true) ⊎ F (kind i)
  maybe_front i None j F h e = inr (subst (λ x. F (kind x)) (sym h) e)
  maybe_front i (Some a) j F h e = inl (passes Any (kind i) (P.front i a j Any h tt))

  maybe_deep : (i : Input) (a : A) (j : Input) (at : ℕ) → test (kind i) ≡ true → p i ≡ Err (too_deep at) → maybe test p i ≡ Err (too_deep at)
  maybe_deep i a j at t h = rw (t, h) refl

  maybe_opening : (i : Input) (o : Option A) (j : Input) (at : ℕ) → maybe_fits s o → Begins (maybe_marks s o) i j → maybe_ends test s (maybe_tag s o) (kind j) → Beyond n (maybe_marks s o) i at → maybe test p i ≡ Err (too_deep at)
  maybe_opening i None j at fits h e g = absurd g
  maybe_opening i (Some a) j at fits h e g = maybe_deep i a j at (passes Any (kind i) (P.front i a j Any h tt)) (P.opening i a j at fits h e g)

  maybe_closing : (x : Option s.Tag) (k : Option Kind) → s.closes k × (test k ≡ false) → maybe_ends test s x k
  maybe_closing None k h = h.1
  maybe_closing (Some x) k h = P.closing x k h.0

  pub maybe_good : Good n (maybe test p) (maybe_shape test s)
  maybe_good = record {
    sound = λ i o j h. maybe_sound i o j (test (kind i)) refl h;
    complete = maybe_complete;
    accepts = maybe_accepts;
    opening = maybe_opening;
    front = maybe_front;
    closing = maybe_closing;
    sample = λ tail h. record { whole = tail; value = None; takes = refl; starts = λ F k. inr k };
  }

  maybe_fail : (i : Input) (e : Stop) → test (kind i) ≡ true → Fails n p s i e → Fails n (maybe test p) (maybe_shape test s) i e
  maybe_fail i e t f = record {
    front = f.front;
    stop = f.stop;
    begins = f.begins;
    position = f.position;
    again = λ j m b c.
        let x = f.again j m b c in
        let same = stop_front e f.front i f.stop j m i f.stop f.position f.begins b c in
        let t' : test (kind j) ≡ true = ap test same ∙ t in
        let first = x.is in
        record { fault = x.fault; is = rw (t', first) refl; like = x.like; position = x.position };
    viable = λ tail h.
        let a = f.viable tail h.0 in
        record { whole = a.whole; mid = a.mid; value = Some a.value; begins = a.begins; takes = a.takes; starts = λ F k. inl (passes F (kind a.whole) (a.starts F k)) };
  }

  maybe_broke : (i : Input) (e : Stop) → (p i ≡ Err e → Fails n p s i e) → (b : Bool) → test (kind i) ≡ b → cond {A = Outcome (Option A)} b ((p >>= (λ a. pure (Some a))) i) (Ok (None, i)) ≡ Err e → Fails n (maybe test p) (maybe_shape test s) i e
  maybe_broke i e f true t h = maybe_broke_at (bind_err (p i) (λ a. pure (Some a)) e h) where
    maybe_broke_at : (p i ≡ Err e) ⊎ Broke {B = Option A} (p i) (λ a. pure (Some a)) e → Fails n (maybe test p) (maybe_shape test s) i e
    maybe_broke_at (inl c) = maybe_fail i e t (f c)
    maybe_broke_at (inr w) = absurd (ok_not_err w.second)
  maybe_broke i e f false t h = absurd (ok_not_err h)

  pub maybe_fails_at : (i : Input) (e : Stop) → (p i ≡ Err e → Fails n p s i e) → maybe test p i ≡ Err e → Fails n (maybe test p) (maybe_shape test s) i e
  maybe_fails_at i e f h = maybe_broke i e f (test (kind i)) refl h

pub maybe_more : {A : Type 0} (test : Option Kind → Bool) (p q : Parser A) → More p q → More (maybe test p) (maybe test q)
maybe_more {A} test p q h i = more_test {A = Option A} (test (kind i)) ((p >>= (λ a. pure (Some a))) i) (Ok (None, i)) ((q >>= (λ a. pure (Some a))) i) (Ok (None, i))
    (more_bind (p i) (q i) (λ a. pure (Some a)) (λ a. pure (Some a)) (h i) (λ a j d. refl)) (λ d. refl)

pub maybe_law : {A : Type 0} {n : ℕ} {p q : Parser A} {s : Shape A} (test : Option Kind → Bool) → Law n p q s → Passes test s → Law n (maybe test p) (maybe test q) (maybe_shape test s)
maybe_law {A} {n} {p} {q} {s} test P passes = record {
  good = maybe_good n test p s P.good passes;
  fails = λ i e. maybe_fails_at n test p s P.good passes i e (P.fails i e);
  more = maybe_more test p q P.more;
  fit = maybe_fit;
} where
  maybe_fit : (o : Option A) → maybe_fits s o
  maybe_fit None = tt
  maybe_fit (Some a) = P.fit a

-- ---- one of two phrases, by the next token

abbrev pub either : {A B : Type 0} → (Option Kind → Bool) → Parser A → Parser B → Parser (A ⊎ B)
either {A} {B} test p q = λ i. cond {A = Outcome (A ⊎ B)} (test (kind i)) ((p >>= (λ a. pure (inl a))) i) ((q >>= (λ b. pure (inr b))) i)

abbrev pub by_side {ℓ} : {A B : Type 0} {X : Type ℓ} → (A → X) → (B → X) → A ⊎ B → X
by_side f g (inl a) = f a
by_side f g (inr b) = g b

abbrev pub either_shape : {A B : Type 0} → Shape A → Shape B → Shape (A ⊎ B)
either_shape s t = record {
  marks = by_side s.marks t.marks;
  Tag = s.Tag ⊎ t.Tag;
  tag = by_side (λ a. inl (s.tag a)) (λ b. inr (t.tag b));
  fits = by_side s.fits t.fits;
  ends = by_side s.ends t.ends;
  closes = λ k. s.closes k × t.closes k;
  begins = λ F k. s.begins F k ⊎ t.begins F k;
}

-- nothing that the phrase begins with passes the test
abbrev pub Misses : {A : Type 0} → (Option Kind → Bool) → Shape A → Type 1
Misses test s = (F : Option Kind → Type 0) (k : Option Kind) → s.begins F k → test k ≡ false

module _ {A B : Type 0} (n : ℕ) (test : Option Kind → Bool) (p : Parser A) (s : Shape A) (q : Parser B) (t : Shape B) (P : Good n p s) (Q : Good n q t) (passes : Passes test s) (misses : Misses test t) where
  either_left : (i : Input) (a : A) (j : Input) → test (kind i) ≡ true → p i ≡ Ok (a, j) → either test p q i ≡ Ok (inl a, j)
  either_left i a j b h = rw (b, h) refl

  either_right : (i : Input) (a : B) (j : Input) → test (kind i) ≡ false → q i ≡ Ok (a, j) → either test p q i ≡ Ok (inr a, j)
  either_right i a j b h = rw (b, h) refl

  left_read : (i : Input) (a : A) (j : Input) → Accepts p s a i j → Accepts (either test p q) (either_shape s t) (inl a) i j
  left_read i a j x =
      let b = P.sound i x.value j x.is in
      let c = passes Any (kind i) (P.front i x.value j Any (takes_begins (s.marks x.value) i j b.takes) tt) in
      record { value = inl x.value; is = either_left i x.value j c x.is; same = ap inl x.same }

  right_read : (i : Input) (a : B) (j : Input) → Accepts q t a i j → Accepts (either test p q) (either_shape s t) (inr a) i j
  right_read i a j x =
      let b = Q.sound i x.value j x.is in
      let c = misses Any (kind i) (Q.front i x.value j Any (takes_begins (t.marks x.value) i j b.takes) tt) in
      record { value = inr x.value; is = either_right i x.value j c x.is; same = ap inr x.same }

  either_sound : (i : Input) (c : A ⊎ B) (j : Input) (b : Bool) → cond {A = Outcome (A ⊎ B)} b ((p >>= (λ a. pure (inl a))) i) ((q >>= (λ x. pure (inr x))) i) ≡ Ok (c, j) → Sound (either test p q) (either_shape s t) n i c j
  either_sound i c j true h =
      let w = bind_ok (p i) (λ a. pure (inl a)) c j h in
      let a = P.sound i w.value w.mid w.first in
      let left : Sound (either test p q) (either_shape s t) n i (inl w.value) w.mid = record {
        takes = a.takes;
        fits = a.fits;
        deep = a.deep;
        again = λ i' j' b c. left_read i' w.value j' (a.again i' j' b c);
        before = λ tail. let x = a.before tail in record { start = x.start; begins = x.begins };
      } in
      subst (λ (x : (A ⊎ B) × Input). Sound (either test p q) (either_shape s t) n i x.0 x.1) (ok_one w.second) left
  either_sound i c j false h =
      let w = bind_ok (q i) (λ a. pure (inr a)) c j h in
      let a = Q.sound i w.value w.mid w.first in
      let right : Sound (either test p q) (either_shape s t) n i (inr w.value) w.mid = record {
        takes = a.takes;
        fits = a.fits;
        deep = a.deep;
        again = λ i' j' b c. right_read i' w.value j' (a.again i' j' b c);
        before = λ tail. let x = a.before tail in record { start = x.start; begins = x.begins };
      } in
      subst (λ (x : (A ⊎ B) × Input). Sound (either test p q) (either_shape s t) n i x.0 x.1) (ok_one w.second) right

  either_complete : (i : Input) (c : A ⊎ B) (j : Input) → by_side s.fits t.fits c → Fits n (by_side s.marks t.marks c) → Takes (by_side s.marks t.marks c) i j → (either_shape s t).ends ((either_shape s t).tag c) (kind j) → either test p q i ≡ Ok (c, j)
  either_complete i (inl a) j fits d h e = either_left i a j (passes Any (kind i) (P.front i a j Any (takes_begins (s.marks a) i j h) tt)) (P.complete i a j fits d h e)
  either_complete i (inr a) j fits d h e = either_right i a j (misses Any (kind i) (Q.front i a j Any (takes_begins (t.marks a) i j h) tt)) (Q.complete i a j fits d h e)

  either_accepts : (i : Input) (c : A ⊎ B) (j : Input) → by_side s.fits t.fits c → Fits n (by_side s.marks t.marks c) → Begins (by_side s.marks t.marks c) i j → (either_shape s t).ends ((either_shape s t).tag c) (kind j) → Accepts (either test p q) (either_shape s t) c i j
  either_accepts i (inl a) j fits d h e = left_read i a j (P.accepts i a j fits d h e)
  either_accepts i (inr a) j fits d h e = right_read i a j (Q.accepts i a j fits d h e)

  either_front : (i : Input) (c : A ⊎ B) (j : Input) (F : Option Kind → Type 0) → Begins (by_side s.marks t.marks c) i j → F (kind j) → s.begins F (kind i) ⊎ t.begins F (kind i)
  either_front i (inl a) j F h e = inl (P.front i a j F h e)
  either_front i (inr a) j F h e = inr (Q.front i a j F h e)

  left_deep : (i : Input) (at : ℕ) → test (kind i) ≡ true → p i ≡ Err (too_deep at) → either test p q i ≡ Err (too_deep at)
  left_deep i at b h = rw (b, h) refl

  right_deep : (i : Input) (at : ℕ) → test (kind i) ≡ false → q i ≡ Err (too_deep at) → either test p q i ≡ Err (too_deep at)
  right_deep i at b h = rw (b, h) refl

  either_opening : (i : Input) (c : A ⊎ B) (j : Input) (at : ℕ) → by_side s.fits t.fits c → Begins (by_side s.marks t.marks c) i j → (either_shape s t).ends ((either_shape s t).tag c) (kind j) → Beyond n (by_side s.marks t.marks c) i at → either test p q i ≡ Err (too_deep at)
  either_opening i (inl a) j at fits h e g = left_deep i at (passes Any (kind i) (P.front i a j Any h tt)) (P.opening i a j at fits h e g)
  either_opening i (inr a) j at fits h e g = right_deep i at (misses Any (kind i) (Q.front i a j Any h tt)) (Q.opening i a j at fits h e g)

  either_closing : (x : s.Tag ⊎ t.Tag) (k : Option Kind) → s.closes k × t.closes k → (either_shape s t).ends x k
  either_closing (inl x) k h = P.closing x k h.0
  either_closing (inr x) k h = Q.closing x k h.1

  either_good : Good n (either test p q) (either_shape s t)
  either_good = record {
    sound = λ i c j h. either_sound i c j (test (kind i)) h;
    complete = either_complete;
    accepts = either_accepts;
    opening = either_opening;
    front = either_front;
    closing = either_closing;
    sample = λ tail h. let a = Q.sample tail h.1 in record { whole = a.whole; value = inr a.value; takes = a.takes; starts = λ F k. inr (a.starts F k) };
  }

  left_fail : (i : Input) (e : Stop) → test (kind i) ≡ true → Fails n p s i e → Fails n (either test p q) (either_shape s t) i e
  left_fail i e b f = record {
    front = f.front;
    stop = f.stop;
    begins = f.begins;
    position = f.position;
    again = λ j m h c.
        let x = f.again j m h c in
        let same = stop_front e f.front i f.stop j m i f.stop f.position f.begins h c in
        let b' : test (kind j) ≡ true = ap test same ∙ b in
        let first = x.is in
        record { fault = x.fault; is = rw (b', first) refl; like = x.like; position = x.position };
    viable = λ tail h.
        let a = f.viable tail h.0 in
        record { whole = a.whole; mid = a.mid; value = inl a.value; begins = a.begins; takes = a.takes; starts = λ F k. inl (a.starts F k) };
  }

  right_fail : (i : Input) (e : Stop) → test (kind i) ≡ false → Fails n q t i e → Fails n (either test p q) (either_shape s t) i e
  right_fail i e b f = record {
    front = f.front;
    stop = f.stop;
    begins = f.begins;
    position = f.position;
    again = λ j m h c.
        let x = f.again j m h c in
        let same = stop_front e f.front i f.stop j m i f.stop f.position f.begins h c in
        let b' : test (kind j) ≡ false = ap test same ∙ b in
        let first = x.is in
        record { fault = x.fault; is = rw (b', first) refl; like = x.like; position = x.position };
    viable = λ tail h.
        let a = f.viable tail h.1 in
        record { whole = a.whole; mid = a.mid; value = inr a.value; begins = a.begins; takes = a.takes; starts = λ F k. inr (a.starts F k) };
  }

  either_broke : AllFail n p s → AllFail n q t → (i : Input) (e : Stop) (b : Bool) → test (kind i) ≡ b → cond {A = Outcome (A ⊎ B)} b ((p >>= (λ a. pure (inl a))) i) ((q >>= (λ x. pure (inr x))) i) ≡ Err e → Fails n (either test p q) (either_shape s t) i e
  either_broke f g i e true b h = left_broke (bind_err (p i) (λ a. pure (inl a)) e h) where
    left_broke : (p i ≡ Err e) ⊎ Broke {B = A ⊎ B} (p i) (λ a. pure (inl a)) e → Fails n (either test p q) (either_shape s t) i e
    left_broke (inl c) = left_fail i e b (f i e c)
    left_broke (inr w) = absurd (ok_not_err w.second)
  either_broke f g i e false b h = right_broke (bind_err (q i) (λ a. pure (inr a)) e h) where
    right_broke : (q i ≡ Err e) ⊎ Broke {B = A ⊎ B} (q i) (λ a. pure (inr a)) e → Fails n (either test p q) (either_shape s t) i e
    right_broke (inl c) = right_fail i e b (g i e c)
    right_broke (inr w) = absurd (ok_not_err w.second)

  either_fails : AllFail n p s → AllFail n q t → AllFail n (either test p q) (either_shape s t)
  either_fails f g i e h = either_broke f g i e (test (kind i)) refl h

pub either_more : {A B : Type 0} (test : Option Kind → Bool) (p p' : Parser A) (q q' : Parser B) → More p p' → More q q' → More (either test p q) (either test p' q')
either_more {A} {B} test p p' q q' h k i = more_test {A = A ⊎ B} (test (kind i)) ((p >>= (λ a. pure (inl a))) i) ((q >>= (λ b. pure (inr b))) i) ((p' >>= (λ a. pure (inl a))) i) ((q' >>= (λ b. pure (inr b))) i)
    (more_bind (p i) (p' i) (λ a. pure (inl a)) (λ a. pure (inl a)) (h i) (λ a j d. refl))
    (more_bind (q i) (q' i) (λ a. pure (inr a)) (λ a. pure (inr a)) (k i) (λ a j d. refl))

-- the sample is the first's
pub either_law : {A B : Type 0} {n : ℕ} {p p' : Parser A} {s : Shape A} {q q' : Parser B} {t : Shape B} (test : Option Kind → Bool) → Law n p p' s → Law n q q' t → Passes test s → Misses test t → Law n (either test p q) (either test p' q') (either_shape s t)
either_law {A} {B} {n} {p} {p'} {s} {q} {q'} {t} test P Q passes misses = record {
  good = either_good n test p s q t P.good Q.good passes misses;
  fails = either_fails n test p s q t P.good Q.good passes misses P.fails Q.fails;
  more = either_more test p p' q q' P.more Q.more;
  fit = either_fit;
} where
  either_fit : (c : A ⊎ B) → by_side s.fits t.fits c
  either_fit (inl a) = P.fit a
  either_fit (inr b) = Q.fit b

-- ---- a phrase made into another value, as a rule of the grammar makes a tree of its parts

abbrev pub mapped : {A C : Type 0} → (A → C) → Parser A → Parser C
mapped to p = p >>= (λ a. pure (to a))

-- what a value is made of
pub record Made {A C : Type 0} (to : A → C) (c : C) : Type 0 where
  pub of : A
  pub is : to of ≡ c

-- every value is made of parts, and it writes what they write, with the same levels
pub record Rule {A C : Type 0} (s : Shape A) (u : Shape C) (to : A → C) : Type 1 where
  pub made : (c : C) → Made to c
  pub marks : (a : A) → u.marks (to a) ≡ s.marks a
  pub tags : (a b : A) → s.tag a ≡ s.tag b → u.tag (to a) ≡ u.tag (to b)
  pub fits_to : (a : A) → s.fits a → u.fits (to a)
  pub fits_from : (a : A) → u.fits (to a) → s.fits a
  pub ends : (a : A) (k : Option Kind) → u.ends (u.tag (to a)) k → s.ends (s.tag a) k
  pub closing : (x : u.Tag) (k : Option Kind) → u.closes k → u.ends x k
  pub closes : (k : Option Kind) → u.closes k → s.closes k
  pub begins : (F : Option Kind → Type 0) (k : Option Kind) → s.begins F k → u.begins F k

module _ {A C : Type 0} (n : ℕ) (p : Parser A) (s : Shape A) (P : Good n p s) (u : Shape C) (to : A → C) (rule : Rule s u to) (read : Parser C) (is : (i : Input) → read i ≡ mapped to p i) where
  rule_there : (i : Input) (a : A) (j : Input) → p i ≡ Ok (a, j) → read i ≡ Ok (to a, j)
  rule_there i a j h = is i ∙ rw h refl

  rule_read : (i : Input) (a : A) (j : Input) → Accepts p s a i j → Accepts read u (to a) i j
  rule_read i a j x = record { value = to x.value; is = rule_there i x.value j x.is; same = rule.tags x.value a x.same }

  rule_sound : (i : Input) (a : A) (j : Input) → Sound p s n i a j → Sound read u n i (to a) j
  rule_sound i a j x = record {
    takes = subst (λ ms. Takes ms i j) (sym (rule.marks a)) x.takes;
    fits = rule.fits_to a x.fits;
    deep = subst (Fits n) (sym (rule.marks a)) x.deep;
    again = λ i' j' b e. rule_read i' a j' (x.again i' j' (subst (λ ms. Begins ms i' j') (rule.marks a) b) e);
    before = λ tail. let y = x.before tail in record { start = y.start; begins = subst (λ ms. Begins ms y.start tail) (sym (rule.marks a)) y.begins };
  }

  -- at a value that is made of these parts
  rule_complete : (i : Input) (a : A) (j : Input) → u.fits (to a) → Fits n (u.marks (to a)) → Takes (u.marks (to a)) i j → u.ends (u.tag (to a)) (kind j) → read i ≡ Ok (to a, j)
  rule_complete i a j fits d h e = rule_there i a j (P.complete i a j (rule.fits_from a fits) (subst (Fits n) (rule.marks a) d) (subst (λ ms. Takes ms i j) (rule.marks a) h) (rule.ends a (kind j) e))

  rule_accepts : (i : Input) (a : A) (j : Input) → u.fits (to a) → Fits n (u.marks (to a)) → Begins (u.marks (to a)) i j → u.ends (u.tag (to a)) (kind j) → Accepts read u (to a) i j
  rule_accepts i a j fits d h e = rule_read i a j (P.accepts i a j (rule.fits_from a fits) (subst (Fits n) (rule.marks a) d) (subst (λ ms. Begins ms i j) (rule.marks a) h) (rule.ends a (kind j) e))

  rule_front : (i : Input) (a : A) (j : Input) (F : Option Kind → Type 0) → Begins (u.marks (to a)) i j → F (kind j) → u.begins F (kind i)
  rule_front i a j F h e = rule.begins F (kind i) (P.front i a j F (subst (λ ms. Begins ms i j) (rule.marks a) h) e)

  rule_deep : (i : Input) (at : ℕ) → p i ≡ Err (too_deep at) → read i ≡ Err (too_deep at)
  rule_deep i at h = is i ∙ rw h refl

  rule_opening : (i : Input) (a : A) (j : Input) (at : ℕ) → u.fits (to a) → Begins (u.marks (to a)) i j → u.ends (u.tag (to a)) (kind j) → Beyond n (u.marks (to a)) i at → read i ≡ Err (too_deep at)
  rule_opening i a j at fits h e g = rule_deep i at (P.opening i a j at (rule.fits_from a fits) (subst (λ ms. Begins ms i j) (rule.marks a) h) (rule.ends a (kind j) e) (subst (λ ms. Beyond n ms i at) (rule.marks a) g))

  pub rule_good : Good n read u
  rule_good = record {
    sound = λ i c j h.
        let w = bind_ok (p i) (λ a. pure (to a)) c j (sym (is i) ∙ h) in
        subst (λ (x : C × Input). Sound read u n i x.0 x.1) (ok_one w.second) (rule_sound i w.value w.mid (P.sound i w.value w.mid w.first));
    complete = λ i c j. let m = rule.made c in subst (λ x. u.fits x → Fits n (u.marks x) → Takes (u.marks x) i j → u.ends (u.tag x) (kind j) → read i ≡ Ok (x, j)) m.is (rule_complete i m.of j);
    accepts = λ i c j. let m = rule.made c in subst (λ x. u.fits x → Fits n (u.marks x) → Begins (u.marks x) i j → u.ends (u.tag x) (kind j) → Accepts read u x i j) m.is (rule_accepts i m.of j);
    opening = λ i c j at. let m = rule.made c in subst (λ x. u.fits x → Begins (u.marks x) i j → u.ends (u.tag x) (kind j) → Beyond n (u.marks x) i at → read i ≡ Err (too_deep at)) m.is (rule_opening i m.of j at);
    front = λ i c j F. let m = rule.made c in subst (λ x. Begins (u.marks x) i j → F (kind j) → u.begins F (kind i)) m.is (rule_front i m.of j F);
    closing = rule.closing;
    sample = λ tail h.
        let a = P.sample tail (rule.closes (kind tail) h) in
        record { whole = a.whole; value = to a.value; takes = subst (λ ms. Takes ms a.whole tail) (sym (rule.marks a.value)) a.takes; starts = λ F k. rule.begins F (kind a.whole) (a.starts F k) };
  }

  rule_fail : (i : Input) (e : Stop) → Fails n p s i e → Fails n read u i e
  rule_fail i e f = record {
    front = f.front;
    stop = f.stop;
    begins = f.begins;
    position = f.position;
    again = λ j m h c. let x = f.again j m h c in record { fault = x.fault; is = is j ∙ rw x.is refl; like = x.like; position = x.position };
    viable = λ tail h.
        let a = f.viable tail (rule.closes (kind tail) h) in
        record { whole = a.whole; mid = a.mid; value = to a.value; begins = a.begins; takes = subst (λ ms. Takes ms a.whole tail) (sym (rule.marks a.value)) a.takes; starts = λ F k. rule.begins F (kind a.whole) (a.starts F k) };
  }

  rule_broke : (i : Input) (e : Stop) → (p i ≡ Err e → Fails n p s i e) → (p i ≡ Err e) ⊎ Broke {B = C} (p i) (λ a. pure (to a)) e → Fails n read u i e
  rule_broke i e f (inl h) = rule_fail i e (f h)
  rule_broke i e f (inr w) = absurd (ok_not_err w.second)

  pub rule_fails_at : (i : Input) (e : Stop) → (p i ≡ Err e → Fails n p s i e) → read i ≡ Err e → Fails n read u i e
  rule_fails_at i e f h = rule_broke i e f (bind_err (p i) (λ a. pure (to a)) e (sym (is i) ∙ h))

pub mapped_more : {A C : Type 0} (to : A → C) (p q : Parser A) → More p q → More (mapped to p) (mapped to q)
mapped_more to p q h i = more_bind (p i) (q i) (λ a. pure (to a)) (λ a. pure (to a)) (h i) (λ a j d. refl)

-- readers that give the same as others
pub more_as : {A : Type 0} (p p' q q' : Parser A) → ((i : Input) → p' i ≡ p i) → ((i : Input) → q' i ≡ q i) → More p q → More p' q'
more_as p p' q q' e f h i d = e i ∙ (h i (ap (λ o. nests_too_deep o) (sym (e i)) ∙ d) ∙ sym (f i))

-- as a rule says it where every value fits
pub record Tree {A C : Type 0} (s : Shape A) (u : Shape C) (to : A → C) : Type 1 where
  pub made : (c : C) → Made to c
  pub marks : (a : A) → u.marks (to a) ≡ s.marks a
  pub tags : (a b : A) → s.tag a ≡ s.tag b → u.tag (to a) ≡ u.tag (to b)
  pub fits : (c : C) → u.fits c
  pub ends : (a : A) (k : Option Kind) → u.ends (u.tag (to a)) k → s.ends (s.tag a) k
  pub closing : (x : u.Tag) (k : Option Kind) → u.closes k → u.ends x k
  pub closes : (k : Option Kind) → u.closes k → s.closes k
  pub begins : (F : Option Kind → Type 0) (k : Option Kind) → s.begins F k → u.begins F k

-- a rule of the grammar: its parts in order, and the tree that is made of them
pub rule_law : {A C : Type 0} {n : ℕ} {p q : Parser A} {s : Shape A} → Law n p q s → (u : Shape C) (to : A → C) → Tree s u to → (read above : Parser C) → ((i : Input) → read i ≡ mapped to p i) → ((i : Input) → above i ≡ mapped to q i) → Law n read above u
rule_law {A} {C} {n} {p} {q} {s} P u to tree read above is are = record {
  good = rule_good n p s P.good u to rule read is;
  fails = λ i e. rule_fails_at n p s P.good u to rule read is i e (P.fails i e);
  more = more_as (mapped to p) read (mapped to q) above is are (mapped_more to p q P.more);
  fit = tree.fits;
} where
  rule : Rule s u to
  rule = record {
    made = tree.made;
    marks = tree.marks;
    tags = tree.tags;
    fits_to = λ a h. tree.fits (to a);
    fits_from = λ a h. P.fit a;
    ends = tree.ends;
    closing = tree.closing;
    closes = tree.closes;
    begins = tree.begins;
  }

-- the same phrase with its shape written otherwise
pub law_as : {A : Type 0} {n : ℕ} {p q : Parser A} {s : Shape A} → Law n p q s → (u : Shape A) → Tree s u (λ a. a) → Law n p q u
law_as {A} {n} {p} {q} {s} P u tree = rule_law P u (λ a. a) tree p q (λ i. sym (and_then_pure (p i))) (λ i. sym (and_then_pure (q i)))

-- the laws of a reader that gives the same
pub renamed_law : {A : Type 0} {n : ℕ} {p q : Parser A} {s : Shape A} → Law n p q s → (read above : Parser A) → ((i : Input) → read i ≡ p i) → ((i : Input) → above i ≡ q i) → Law n read above s
renamed_law {A} {n} {p} {q} {s} P read above is are = rule_law P s (λ a. a) (record {
  made = λ a. record { of = a; is = refl };
  marks = λ a. refl;
  tags = λ a b h. h;
  fits = P.fit;
  ends = λ a k h. h;
  closing = P.good.closing;
  closes = λ k h. h;
  begins = λ F k h. h;
}) read above (λ i. is i ∙ sym (and_then_pure (p i))) (λ i. are i ∙ sym (and_then_pure (q i)))

-- the same phrase, where more is asked of the token behind it
abbrev pub stricter : {A : Type 0} → (Option Kind → Type 0) → Shape A → Shape A
stricter more s = record {
  marks = s.marks;
  Tag = s.Tag;
  tag = s.tag;
  fits = s.fits;
  ends = λ x k. s.ends x k × more k;
  closes = λ k. s.closes k × more k;
  begins = s.begins;
}

pub stricter_law : {A : Type 0} {n : ℕ} {p q : Parser A} {s : Shape A} (more : Option Kind → Type 0) → Law n p q s → Law n p q (stricter more s)
stricter_law {A} {n} {p} {q} {s} more P = law_as P (stricter more s) (record {
  made = λ a. record { of = a; is = refl };
  marks = λ a. refl;
  tags = λ a b h. h;
  fits = P.fit;
  ends = λ a k h. h.0;
  closing = λ x k h. (P.good.closing x k h.0, h.1);
  closes = λ k h. h.0;
  begins = λ F k h. h;
})

-- a phrase that stops before the same tokens whatever it is
abbrev pub tagged : {A T : Type 0} → (A → List Mark) → (A → T) → (Option Kind → Type 0) → ((Option Kind → Type 0) → Option Kind → Type 0) → Shape A
tagged {A} {T} marks tag closes begins = record {
  marks = marks;
  Tag = T;
  tag = tag;
  fits = λ a. Unit {0};
  ends = λ x. closes;
  closes = closes;
  begins = begins;
}

-- and of which nothing need be known
abbrev pub plain : {A : Type 0} → (A → List Mark) → (Option Kind → Type 0) → ((Option Kind → Type 0) → Option Kind → Type 0) → Shape A
plain marks closes begins = tagged {T = Unit {0}} marks (λ a. tt) closes begins

pub record Plain {A C : Type 0} (s : Shape A) (u : Shape C) (to : A → C) : Type 1 where
  pub made : (c : C) → Made to c
  pub marks : (a : A) → u.marks (to a) ≡ s.marks a
  pub view : s.Tag → u.Tag
  pub tag : (a : A) → u.tag (to a) ≡ view (s.tag a)
  pub closes : (k : Option Kind) → u.closes k → s.closes k
  pub begins : (F : Option Kind → Type 0) (k : Option Kind) → s.begins F k → u.begins F k

pub plain_law : {A C T : Type 0} {n : ℕ} {p q : Parser A} {s : Shape A} → Law n p q s → {marks : C → List Mark} {tag : C → T} {closes : Option Kind → Type 0} {begins : (Option Kind → Type 0) → Option Kind → Type 0} (to : A → C) →
    Plain s (tagged marks tag closes begins) to → (read above : Parser C) → ((i : Input) → read i ≡ mapped to p i) → ((i : Input) → above i ≡ mapped to q i) → Law n read above (tagged marks tag closes begins)
plain_law {A} {C} {T} {n} {p} {q} {s} P {marks} {tag} {closes} {begins} to x read above is are = rule_law P (tagged marks tag closes begins) to (record {
  made = x.made;
  marks = x.marks;
  tags = λ a b h. x.tag a ∙ (ap x.view h ∙ sym (x.tag b));
  fits = λ c. tt;
  ends = λ a k h. P.good.closing (s.tag a) k (x.closes k h);
  closing = λ y k h. h;
  closes = x.closes;
  begins = x.begins;
}) read above is are
