-- One of two phrases, of which the second may write nothing.
use Rattle.std.proofs.Common.{◌≡◌, ℕ, Bool, true, false, cond, ◌⊎◌, inl, inr, Option, Ok, Err, refl, ap, ◌∙◌, subst}
use Rattle.opl_token.specs.declared.token.Kind.{Kind}
use Rattle.opl_grammar.specs.Input.{Input, Stop, Outcome, Parser, kind, ◌>>=◌, pure}
use Rattle.opl_reader_laws.proofs.Forms.{Passes, either, by_side, either_more}
use Rattle.opl_reader_laws.proofs.Outcomes.{ok_one, ok_not_err, bind_ok, Broke, bind_err}
use Rattle.opl_reader_laws.proofs.Phrases.{Shape, Accepts, Sound, Good, Fails, AllFail, Law, Any}
use Rattle.opl_grammar.specs.Input.{too_deep}
use Rattle.opl_reader_laws.proofs.Levels.{Fits, Beyond}
use Rattle.opl_reader_laws.proofs.Takes.{Takes, Begins, takes_begins, same_front, stop_front}

-- where the second writes nothing, it stands before a token that does not begin the first
abbrev pub otherwise_ends : {A B : Type 0} (test : Option Kind → Bool) (s : Shape A) (t : Shape B) → s.Tag ⊎ t.Tag → Option Kind → Type 0
otherwise_ends test s t (inl x) k = s.ends x k
otherwise_ends test s t (inr y) k = t.ends y k × (test k ≡ false)

abbrev pub otherwise_shape : {A B : Type 0} → (Option Kind → Bool) → Shape A → Shape B → Shape (A ⊎ B)
otherwise_shape test s t = record {
  marks = by_side s.marks t.marks;
  Tag = s.Tag ⊎ t.Tag;
  tag = by_side (λ a. inl (s.tag a)) (λ b. inr (t.tag b));
  fits = by_side s.fits t.fits;
  ends = otherwise_ends test s t;
  closes = λ k. s.closes k × (t.closes k × (test k ≡ false));
  begins = λ F k. s.begins F k ⊎ t.begins F k;
}

-- the second begins with another token, or is nothing
abbrev pub Leaves : {A : Type 0} → (Option Kind → Bool) → Shape A → Type 1
Leaves test s = (F : Option Kind → Type 0) (k : Option Kind) → s.begins F k → (test k ≡ false) ⊎ F k

module _ {A B : Type 0} (n : ℕ) (test : Option Kind → Bool) (p : Parser A) (s : Shape A) (q : Parser B) (t : Shape B) (P : Good n p s) (Q : Good n q t) (passes : Passes test s) (leaves : Leaves test t) where
  abbrev u : Shape (A ⊎ B)
  u = otherwise_shape test s t

  first_ok : (i : Input) (a : A) (j : Input) → test (kind i) ≡ true → p i ≡ Ok (a, j) → either test p q i ≡ Ok (inl a, j)
  first_ok i a j b h = rw (b, h) refl

  second_ok : (i : Input) (a : B) (j : Input) → test (kind i) ≡ false → q i ≡ Ok (a, j) → either test p q i ≡ Ok (inr a, j)
  second_ok i a j b h = rw (b, h) refl

  first_read : (i : Input) (a : A) (j : Input) → Accepts p s a i j → Accepts (either test p q) u (inl a) i j
  first_read i a j x =
      let b = P.sound i x.value j x.is in
      let c = passes Any (kind i) (P.front i x.value j Any (takes_begins (s.marks x.value) i j b.takes) tt) in
      record { value = inl x.value; is = first_ok i x.value j c x.is; same = ap inl x.same }

  second_read : (i : Input) (a : B) (j : Input) → test (kind i) ≡ false → Accepts q t a i j → Accepts (either test p q) u (inr a) i j
  second_read i a j c x = record { value = inr x.value; is = second_ok i x.value j c x.is; same = ap inr x.same }

  other_token : (k : Option Kind) → (test k ≡ false) ⊎ (test k ≡ false) → test k ≡ false
  other_token k (inl h) = h
  other_token k (inr h) = h

  -- the second is read where the first does not begin
  left_out : (i : Input) (a : B) (j : Input) → Begins (t.marks a) i j → test (kind j) ≡ false → test (kind i) ≡ false
  left_out i a j h e = other_token (kind i) (leaves (λ k. test k ≡ false) (kind i) (Q.front i a j (λ k. test k ≡ false) h e))

  otherwise_sound : (i : Input) (c : A ⊎ B) (j : Input) (b : Bool) → test (kind i) ≡ b → cond {A = Outcome (A ⊎ B)} b ((p >>= (λ a. pure (inl a))) i) ((q >>= (λ x. pure (inr x))) i) ≡ Ok (c, j) → Sound (either test p q) u n i c j
  otherwise_sound i c j true b h =
      let w = bind_ok (p i) (λ a. pure (inl a)) c j h in
      let a = P.sound i w.value w.mid w.first in
      let first : Sound (either test p q) u n i (inl w.value) w.mid = record {
        takes = a.takes;
        fits = a.fits;
        deep = a.deep;
        again = λ i' j' b c. first_read i' w.value j' (a.again i' j' b c);
        before = λ tail. let x = a.before tail in record { start = x.start; begins = x.begins };
      } in
      subst (λ (x : (A ⊎ B) × Input). Sound (either test p q) u n i x.0 x.1) (ok_one w.second) first
  otherwise_sound i c j false b h =
      let w = bind_ok (q i) (λ a. pure (inr a)) c j h in
      let a = Q.sound i w.value w.mid w.first in
      let second : Sound (either test p q) u n i (inr w.value) w.mid = record {
        takes = a.takes;
        fits = a.fits;
        deep = a.deep;
        again = λ i' j' m c.
            let same = same_front (t.marks w.value) i w.mid i' j' (takes_begins (t.marks w.value) i w.mid a.takes) m c in
            second_read i' w.value j' (ap test same ∙ b) (a.again i' j' m c);
        before = λ tail. let x = a.before tail in record { start = x.start; begins = x.begins };
      } in
      subst (λ (x : (A ⊎ B) × Input). Sound (either test p q) u n i x.0 x.1) (ok_one w.second) second

  otherwise_complete : (i : Input) (c : A ⊎ B) (j : Input) → by_side s.fits t.fits c → Fits n (by_side s.marks t.marks c) → Takes (by_side s.marks t.marks c) i j → u.ends (u.tag c) (kind j) → either test p q i ≡ Ok (c, j)
  otherwise_complete i (inl a) j fits d h e = first_ok i a j (passes Any (kind i) (P.front i a j Any (takes_begins (s.marks a) i j h) tt)) (P.complete i a j fits d h e)
  otherwise_complete i (inr a) j fits d h e = second_ok i a j (left_out i a j (takes_begins (t.marks a) i j h) e.1) (Q.complete i a j fits d h e.0)

  otherwise_accepts : (i : Input) (c : A ⊎ B) (j : Input) → by_side s.fits t.fits c → Fits n (by_side s.marks t.marks c) → Begins (by_side s.marks t.marks c) i j → u.ends (u.tag c) (kind j) → Accepts (either test p q) u c i j
  otherwise_accepts i (inl a) j fits d h e = first_read i a j (P.accepts i a j fits d h e)
  otherwise_accepts i (inr a) j fits d h e = second_read i a j (left_out i a j h e.1) (Q.accepts i a j fits d h e.0)

  first_deep : (i : Input) (at : ℕ) → test (kind i) ≡ true → p i ≡ Err (too_deep at) → either test p q i ≡ Err (too_deep at)
  first_deep i at b h = rw (b, h) refl

  second_deep : (i : Input) (at : ℕ) → test (kind i) ≡ false → q i ≡ Err (too_deep at) → either test p q i ≡ Err (too_deep at)
  second_deep i at b h = rw (b, h) refl

  otherwise_opening : (i : Input) (c : A ⊎ B) (j : Input) (at : ℕ) → by_side s.fits t.fits c → Begins (by_side s.marks t.marks c) i j → u.ends (u.tag c) (kind j) → Beyond n (by_side s.marks t.marks c) i at → either test p q i ≡ Err (too_deep at)
  otherwise_opening i (inl a) j at fits h e g = first_deep i at (passes Any (kind i) (P.front i a j Any h tt)) (P.opening i a j at fits h e g)
  otherwise_opening i (inr a) j at fits h e g = second_deep i at (left_out i a j h e.1) (Q.opening i a j at fits h e.0 g)

  otherwise_front : (i : Input) (c : A ⊎ B) (j : Input) (F : Option Kind → Type 0) → Begins (by_side s.marks t.marks c) i j → F (kind j) → s.begins F (kind i) ⊎ t.begins F (kind i)
  otherwise_front i (inl a) j F h e = inl (P.front i a j F h e)
  otherwise_front i (inr a) j F h e = inr (Q.front i a j F h e)

  otherwise_closing : (x : s.Tag ⊎ t.Tag) (k : Option Kind) → s.closes k × (t.closes k × (test k ≡ false)) → otherwise_ends test s t x k
  otherwise_closing (inl x) k h = P.closing x k h.0
  otherwise_closing (inr x) k h = (Q.closing x k h.1.0, h.1.1)

  otherwise_good : Good n (either test p q) u
  otherwise_good = record {
    sound = λ i c j h. otherwise_sound i c j (test (kind i)) refl h;
    complete = otherwise_complete;
    accepts = otherwise_accepts;
    opening = otherwise_opening;
    front = otherwise_front;
    closing = otherwise_closing;
    sample = λ tail h. let a = Q.sample tail h.1.0 in record { whole = a.whole; value = inr a.value; takes = a.takes; starts = λ F k. inr (a.starts F k) };
  }

  abbrev SideFails : Input → Stop → Bool → Type 1
  SideFails i e true = Fails n p s i e
  SideFails i e false = Fails n q t i e

  side_fail : (i : Input) (e : Stop) (b : Bool) → test (kind i) ≡ b → SideFails i e b → Fails n (either test p q) u i e
  side_fail i e true b f = record {
    front = f.front;
    stop = f.stop;
    begins = f.begins;
    position = f.position;
    again = λ j m h c.
        let x = f.again j m h c in
        let same = stop_front e f.front i f.stop j m i f.stop f.position f.begins h c in
        let b' : test (kind j) ≡ true = ap test same ∙ b in
        let first = x.is in
        record { fault = x.fault; is = rw (b', first) refl; like = x.like; position = x.position };
    viable = λ tail h.
        let a = f.viable tail h.0 in
        record { whole = a.whole; mid = a.mid; value = inl a.value; begins = a.begins; takes = a.takes; starts = λ F k. inl (a.starts F k) };
  }
  side_fail i e false b f = record {
    front = f.front;
    stop = f.stop;
    begins = f.begins;
    position = f.position;
    again = λ j m h c.
        let x = f.again j m h c in
        let same = stop_front e f.front i f.stop j m i f.stop f.position f.begins h c in
        let b' : test (kind j) ≡ false = ap test same ∙ b in
        let first = x.is in
        record { fault = x.fault; is = rw (b', first) refl; like = x.like; position = x.position };
    viable = λ tail h.
        let a = f.viable tail h.1.0 in
        record { whole = a.whole; mid = a.mid; value = inr a.value; begins = a.begins; takes = a.takes; starts = λ F k. inr (a.starts F k) };
  }

  otherwise_fails : AllFail n p s → AllFail n q t → (i : Input) (e : Stop) (b : Bool) → test (kind i) ≡ b → cond {A = Outcome (A ⊎ B)} b ((p >>= (λ a. pure (inl a))) i) ((q >>= (λ x. pure (inr x))) i) ≡ Err e → Fails n (either test p q) u i e
  otherwise_fails f g i e true b h = broke (bind_err (p i) (λ a. pure (inl a)) e h) where
    broke : (p i ≡ Err e) ⊎ Broke {B = A ⊎ B} (p i) (λ a. pure (inl a)) e → Fails n (either test p q) u i e
    broke (inl c) = side_fail i e true b (f i e c)
    broke (inr w) = absurd (ok_not_err w.second)
  otherwise_fails f g i e false b h = broke (bind_err (q i) (λ a. pure (inr a)) e h) where
    broke : (q i ≡ Err e) ⊎ Broke {B = A ⊎ B} (q i) (λ a. pure (inr a)) e → Fails n (either test p q) u i e
    broke (inl c) = side_fail i e false b (g i e c)
    broke (inr w) = absurd (ok_not_err w.second)

pub otherwise_law : {A B : Type 0} {n : ℕ} {p p' : Parser A} {s : Shape A} {q q' : Parser B} {t : Shape B} (test : Option Kind → Bool) → Law n p p' s → Law n q q' t → Passes test s → Leaves test t → Law n (either test p q) (either test p' q') (otherwise_shape test s t)
otherwise_law {A} {B} {n} {p} {p'} {s} {q} {q'} {t} test P Q passes leaves = record {
  good = otherwise_good n test p s q t P.good Q.good passes leaves;
  fails = λ i e h. otherwise_fails n test p s q t P.good Q.good passes leaves P.fails Q.fails i e (test (kind i)) refl h;
  more = either_more test p p' q q' P.more Q.more;
  fit = fit;
} where
  fit : (c : A ⊎ B) → by_side s.fits t.fits c
  fit (inl a) = P.fit a
  fit (inr b) = Q.fit b
