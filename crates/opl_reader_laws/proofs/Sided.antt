-- A phrase of one of two kinds, of which the second keeps its place.
use Rattle.std.proofs.Common.{◌≡◌, ℕ, ◌⊎◌, inl, inr, List, ◌∷◌, Ok, Err, refl, sym, ap, ◌∙◌, subst}
use Rattle.opl_tree.specs.Marks.{Mark}
use Rattle.opl_tree.specs.Marks as mk
use Rattle.opl_grammar.specs.Input.{Input, Stop, Parser, ◌>>=◌, pure, here}
use Rattle.opl_grammar.specs.Input.{place as place_at}
use Rattle.opl_reader_laws.proofs.Outcomes.{ok_one, ok_not_err, bind_ok, Broke, bind_err}
use Rattle.opl_reader_laws.proofs.Phrases.{Shape, Accepts, Sound, Good, Fails, AllFail, Law, more_bind}
use Rattle.opl_reader_laws.proofs.Levels.{Fits, Beyond}
use Rattle.opl_reader_laws.proofs.Takes.{Takes, Begins}

abbrev pub with_place : {A B : Type 0} → ℕ → A ⊎ B → A ⊎ (ℕ × B)
with_place at (inl a) = inl a
with_place at (inr b) = inr (at, b)

abbrev pub no_place : {A B : Type 0} → A ⊎ (ℕ × B) → A ⊎ B
no_place (inl a) = inl a
no_place (inr c) = inr c.1

abbrev pub sided : {A B : Type 0} → Parser (A ⊎ B) → Parser (A ⊎ (ℕ × B))
sided p = here >>= (λ at. p >>= (λ c. pure (with_place at c)))

abbrev pub sided_marks : {A B : Type 0} → Shape (A ⊎ B) → A ⊎ (ℕ × B) → List Mark
sided_marks s (inl a) = s.marks (inl a)
sided_marks s (inr c) = mk.place c.0 ∷ s.marks (inr c.1)

abbrev pub sided_shape : {A B : Type 0} → Shape (A ⊎ B) → Shape (A ⊎ (ℕ × B))
sided_shape s = record {
  marks = sided_marks s;
  Tag = s.Tag;
  tag = λ c. s.tag (no_place c);
  fits = λ c. s.fits (no_place c);
  ends = s.ends;
  closes = s.closes;
  begins = s.begins;
}

module _ {A B : Type 0} (s : Shape (A ⊎ B)) where
  placed_takes : (c : A ⊎ B) (i j : Input) → Takes (s.marks c) i j → Takes (sided_marks s (with_place (place_at i) c)) i j
  placed_takes (inl a) i j h = h
  placed_takes (inr b) i j h = (refl, h)

  taken_there : (c : A ⊎ (ℕ × B)) (i j : Input) → Takes (sided_marks s c) i j → Takes (s.marks (no_place c)) i j
  taken_there (inl a) i j h = h
  taken_there (inr c) i j h = h.1

  placed_again : (c : A ⊎ (ℕ × B)) (i j : Input) → Takes (sided_marks s c) i j → with_place (place_at i) (no_place c) ≡ c
  placed_again (inl a) i j h = refl
  placed_again (inr c) i j h = ap (λ x. inr (x, c.1)) h.0

  begun_there : (c : A ⊎ (ℕ × B)) (i j : Input) → Begins (sided_marks s c) i j → Begins (s.marks (no_place c)) i j
  begun_there (inl a) i j h = h
  begun_there (inr c) i j h = h

  begun_placed : (at : ℕ) (c : A ⊎ B) (i j : Input) → Begins (sided_marks s (with_place at c)) i j → Begins (s.marks c) i j
  begun_placed at (inl a) i j h = h
  begun_placed at (inr b) i j h = h

  begins_placed : (at : ℕ) (c : A ⊎ B) (i j : Input) → Begins (s.marks c) i j → Begins (sided_marks s (with_place at c)) i j
  begins_placed at (inl a) i j h = h
  begins_placed at (inr b) i j h = h

  same_placed : (at : ℕ) (c : A ⊎ B) → no_place (with_place at c) ≡ c
  same_placed at (inl a) = refl
  same_placed at (inr b) = refl

  fits_there : (n : ℕ) (c : A ⊎ (ℕ × B)) → Fits n (sided_marks s c) → Fits n (s.marks (no_place c))
  fits_there n (inl a) h = h
  fits_there n (inr c) h = h

  fits_placed : (n at : ℕ) (c : A ⊎ B) → Fits n (s.marks c) → Fits n (sided_marks s (with_place at c))
  fits_placed n at (inl a) h = h
  fits_placed n at (inr b) h = h

  beyond_there : (n : ℕ) (c : A ⊎ (ℕ × B)) (i : Input) (at : ℕ) → Beyond n (sided_marks s c) i at → Beyond n (s.marks (no_place c)) i at
  beyond_there n (inl a) i at h = h
  beyond_there n (inr c) i at h = h

module _ {A B : Type 0} (n : ℕ) (p : Parser (A ⊎ B)) (s : Shape (A ⊎ B)) (P : Good n p s) where
  sided_ok : (i : Input) (c : A ⊎ B) (j : Input) → p i ≡ Ok (c, j) → sided p i ≡ Ok (with_place (place_at i) c, j)
  sided_ok i c j h = rw h refl

  sided_read : (c : A ⊎ B) (d : A ⊎ (ℕ × B)) (i j : Input) → no_place d ≡ c → Accepts p s c i j → Accepts (sided p) (sided_shape s) d i j
  sided_read c d i j e x = record { value = with_place (place_at i) x.value; is = sided_ok i x.value j x.is; same = ap s.tag (same_placed s (place_at i) x.value) ∙ (x.same ∙ ap s.tag (sym e)) }

  sided_sound : (i : Input) (c : A ⊎ B) (j : Input) → Sound p s n i c j → Sound (sided p) (sided_shape s) n i (with_place (place_at i) c) j
  sided_sound i c j x = record {
    takes = placed_takes s c i j x.takes;
    fits = subst s.fits (sym (same_placed s (place_at i) c)) x.fits;
    deep = fits_placed s n (place_at i) c x.deep;
    again = λ i' j' b e. sided_read c (with_place (place_at i) c) i' j' (same_placed s (place_at i) c) (x.again i' j' (begun_placed s (place_at i) c i' j' b) e);
    before = λ tail. let y = x.before tail in record { start = y.start; begins = begins_placed s (place_at i) c y.start tail y.begins };
  }

  sided_good : Good n (sided p) (sided_shape s)
  sided_good = record {
    sound = λ i d j h.
        let w = bind_ok (p i) (λ c. pure (with_place (place_at i) c)) d j h in
        subst (λ (x : (A ⊎ (ℕ × B)) × Input). Sound (sided p) (sided_shape s) n i x.0 x.1) (ok_one w.second) (sided_sound i w.value w.mid (P.sound i w.value w.mid w.first));
    complete = λ i d j fits l h e. sided_ok i (no_place d) j (P.complete i (no_place d) j fits (fits_there s n d l) (taken_there s d i j h) e) ∙ ap (λ x. Ok (x, j)) (placed_again s d i j h);
    accepts = λ i d j fits l h e. sided_read (no_place d) d i j refl (P.accepts i (no_place d) j fits (fits_there s n d l) (begun_there s d i j h) e);
    opening = λ i d j at fits h e g. let x = P.opening i (no_place d) j at fits (begun_there s d i j h) e (beyond_there s n d i at g) in rw x refl;
    front = λ i d j F h e. P.front i (no_place d) j F (begun_there s d i j h) e;
    closing = P.closing;
    sample = λ tail h. let a = P.sample tail h in record { whole = a.whole; value = with_place (place_at a.whole) a.value; takes = placed_takes s a.value a.whole tail a.takes; starts = a.starts };
  }

  sided_fail : (i : Input) (e : Stop) → Fails n p s i e → Fails n (sided p) (sided_shape s) i e
  sided_fail i e f = record {
    front = f.front;
    stop = f.stop;
    begins = f.begins;
    position = f.position;
    again = λ j m b c. let x = f.again j m b c in record { fault = x.fault; is = rw x.is refl; like = x.like; position = x.position };
    viable = λ tail h.
        let a = f.viable tail h in
        record { whole = a.whole; mid = a.mid; value = with_place (place_at a.whole) a.value; begins = a.begins; takes = placed_takes s a.value a.whole tail a.takes; starts = a.starts };
  }

  sided_broke : AllFail n p s → (i : Input) (e : Stop) → (p i ≡ Err e) ⊎ Broke {B = A ⊎ (ℕ × B)} (p i) (λ c. pure (with_place (place_at i) c)) e → Fails n (sided p) (sided_shape s) i e
  sided_broke f i e (inl h) = sided_fail i e (f i e h)
  sided_broke f i e (inr w) = absurd (ok_not_err w.second)

pub sided_law : {A B : Type 0} {n : ℕ} {p q : Parser (A ⊎ B)} {s : Shape (A ⊎ B)} → Law n p q s → Law n (sided p) (sided q) (sided_shape s)
sided_law {A} {B} {n} {p} {q} {s} P = record {
  good = sided_good n p s P.good;
  fails = λ i e h. sided_broke n p s P.good P.fails i e (bind_err (p i) (λ c. pure (with_place (place_at i) c)) e h);
  more = λ i. more_bind (p i) (q i) (λ c. pure (with_place (place_at i) c)) (λ c. pure (with_place (place_at i) c)) (P.more i) (λ c j d. refl);
  fit = λ d. P.fit (no_place d);
}
