-- A phrase of one of two kinds: the one is all, behind the other more may stand.
use Rattle.std.proofs.Common.{◌≡◌, ℕ, Bool, true, false, ◌⊎◌, inl, inr, List, [], ◌++◌, Option, Some, None, Ok, Err, refl, sym, ap, ◌∙◌, subst, append-nil}
use Rattle.opl_token.specs.declared.token.Kind.{Kind}
use Rattle.opl_tree.specs.Marks.{Mark}
use Rattle.opl_grammar.specs.Input.{Input, Stop, Parser, kind, ◌>>=◌, pure}
use Rattle.opl_reader_laws.proofs.Outcomes.{ok_one, ok_not_err, bind_ok, Broke, bind_err}
use Rattle.opl_grammar.specs.Input.{too_deep}
use Rattle.opl_reader_laws.proofs.Levels.{Fits, fits_split, fits_join, Beyond, beyond_split}
use Rattle.opl_reader_laws.proofs.Takes.{Takes, takes_split, takes_join, Begins, takes_begins, begins_split, begins_join, same_front, position_join, stop_front}
use Rattle.opl_reader_laws.proofs.Phrases.{Shape, Accepts, Sound, Good, Viable, Fails, More, Law, more_bind, pair_eq}

abbrev pub after_side : {A B D : Type 0} → Parser D → A ⊎ B → Parser (A ⊎ (B × D))
after_side q (inl a) = pure (inl a)
after_side q (inr b) = q >>= (λ y. pure (inr (b, y)))

abbrev pub going : {A B D : Type 0} → Parser (A ⊎ B) → Parser D → Parser (A ⊎ (B × D))
going p q = p >>= after_side q

abbrev pub going_marks : {A B D : Type 0} → Shape (A ⊎ B) → Shape D → A ⊎ (B × D) → List Mark
going_marks s t (inl a) = s.marks (inl a)
going_marks s t (inr c) = s.marks (inr c.0) ++ t.marks c.1

abbrev pub going_tag : {A B D : Type 0} (s : Shape (A ⊎ B)) (t : Shape D) → A ⊎ (B × D) → s.Tag × Option t.Tag
going_tag s t (inl a) = (s.tag (inl a), None)
going_tag s t (inr c) = (s.tag (inr c.0), Some (t.tag c.1))

abbrev pub going_fits : {A B D : Type 0} → Shape (A ⊎ B) → Shape D → A ⊎ (B × D) → Type 0
going_fits s t (inl a) = s.fits (inl a)
going_fits s t (inr c) = s.fits (inr c.0) × t.fits c.1

abbrev pub last_ends : {X Y : Type 0} → (X → Option Kind → Type 0) → (Y → Option Kind → Type 0) → X → Option Y → Option Kind → Type 0
last_ends f g x None k = f x k
last_ends f g x (Some y) k = g y k

abbrev pub going_shape : {A B D : Type 0} → Shape (A ⊎ B) → Shape D → (Option Kind → Type 0) → Shape (A ⊎ (B × D))
going_shape s t first = record {
  marks = going_marks s t;
  Tag = s.Tag × Option t.Tag;
  tag = going_tag s t;
  fits = going_fits s t;
  ends = λ x. last_ends s.ends t.ends x.0 x.1;
  closes = λ k. s.closes k × t.closes k;
  begins = λ F. first;
}

abbrev pub is_left : {A B : Type 0} → A ⊎ B → Bool
is_left (inl a) = true
is_left (inr b) = false

-- The kind is known by the tokens; the phrase begins alike whatever follows; it stops where more begins; and more may be
-- nothing.
pub record Forks {A B D : Type 0} (s : Shape (A ⊎ B)) (t : Shape D) (first : Option Kind → Type 0) : Type 1 where
  pub sides : (c d : A ⊎ B) → s.tag c ≡ s.tag d → is_left c ≡ is_left d
  pub meets : (b : B) (y : t.Tag) (k : Option Kind) → t.begins (t.ends y) k → s.ends (s.tag (inr b)) k
  pub starts : (F : Option Kind → Type 0) (k : Option Kind) → s.begins F k → first k
  pub none : D
  pub none_marks : t.marks none ≡ []

record Left {A B : Type 0} (c : A ⊎ B) : Type 0 where
  value : A
  is : inl value ≡ c

record Right {A B : Type 0} (c : A ⊎ B) : Type 0 where
  value : B
  is : inr value ≡ c

left_of : {A B : Type 0} (c : A ⊎ B) → is_left c ≡ true → Left c
left_of (inl a) h = record { value = a; is = refl }
left_of (inr b) h = cc

right_of : {A B : Type 0} (c : A ⊎ B) → is_left c ≡ false → Right c
right_of (inl a) h = cc
right_of (inr b) h = record { value = b; is = refl }

module _ {A B D : Type 0} (n : ℕ) (p : Parser (A ⊎ B)) (s : Shape (A ⊎ B)) (q : Parser D) (t : Shape D) (first : Option Kind → Type 0) (P : Good n p s) (Q : Good n q t) (forks : Forks s t first) where
  abbrev u : Shape (A ⊎ (B × D))
  u = going_shape s t first

  going_left : (i : Input) (a : A) (j : Input) → p i ≡ Ok (inl a, j) → going p q i ≡ Ok (inl a, j)
  going_left i a j h = rw h refl

  going_right : (i : Input) (b : B) (m : Input) (y : D) (j : Input) → p i ≡ Ok (inr b, m) → q m ≡ Ok (y, j) → going p q i ≡ Ok (inr (b, y), j)
  going_right i b m y j h k = rw (h, k) refl

  left_read : (i : Input) (a : A) (j : Input) → Accepts p s (inl a) i j → Accepts (going p q) u (inl a) i j
  left_read i a j x =
      let l = left_of x.value (forks.sides x.value (inl a) x.same) in
      let e : p i ≡ Ok (inl l.value, j) = x.is ∙ ap (λ c. Ok (c, j)) (sym l.is) in
      record { value = inl l.value; is = going_left i l.value j e; same = pair_eq (ap s.tag l.is ∙ x.same) refl }

  right_read : (i : Input) (b : B) (m : Input) (y : D) (j : Input) → Accepts p s (inr b) i m → Accepts q t y m j → Accepts (going p q) u (inr (b, y)) i j
  right_read i b m y j x z =
      let r = right_of x.value (forks.sides x.value (inr b) x.same) in
      let e : p i ≡ Ok (inr r.value, m) = x.is ∙ ap (λ c. Ok (c, m)) (sym r.is) in
      record { value = inr (r.value, z.value); is = going_right i r.value m z.value j e z.is; same = pair_eq (ap s.tag r.is ∙ x.same) (ap Some z.same) }

  right_sound : (i : Input) (b : B) (m : Input) (y : D) (j : Input) → Sound p s n i (inr b) m → Sound q t n m y j → Sound (going p q) u n i (inr (b, y)) j
  right_sound i b m y j x z = record {
    takes = takes_join (s.marks (inr b)) (t.marks y) i m j x.takes z.takes;
    fits = (x.fits, z.fits);
    deep = fits_join n (s.marks (inr b)) (t.marks y) x.deep z.deep;
    again = λ i' j' h e.
        let w = begins_split (s.marks (inr b)) (t.marks y) i' j' h in
        let same = same_front (t.marks y) m j w.mid j' (takes_begins (t.marks y) m j z.takes) w.back e in
        right_read i' b w.mid y j' (x.again i' w.mid w.front same) (z.again w.mid j' w.back e);
    before = λ tail.
        let second = z.before tail in
        let front = x.before second.start in
        record { start = front.start; begins = begins_join (s.marks (inr b)) (t.marks y) front.start second.start tail front.begins second.begins };
  }

  left_sound : (i : Input) (a : A) (j : Input) → Sound p s n i (inl a) j → Sound (going p q) u n i (inl a) j
  left_sound i a j x = record {
    takes = x.takes;
    fits = x.fits;
    deep = x.deep;
    again = λ i' j' h e. left_read i' a j' (x.again i' j' h e);
    before = x.before;
  }

  after_sound : (i : Input) (c : A ⊎ B) (m : Input) (v : A ⊎ (B × D)) (j : Input) → Sound p s n i c m → after_side q c m ≡ Ok (v, j) → Sound (going p q) u n i v j
  after_sound i (inl a) m v j x h = subst (λ (z : (A ⊎ (B × D)) × Input). Sound (going p q) u n i z.0 z.1) (ok_one h) (left_sound i a m x)
  after_sound i (inr b) m v j x h =
      let w = bind_ok (q m) (λ y. pure {A = A ⊎ (B × D)} (inr (b, y))) v j h in
      subst (λ (z : (A ⊎ (B × D)) × Input). Sound (going p q) u n i z.0 z.1) (ok_one w.second) (right_sound i b m w.value w.mid x (Q.sound m w.value w.mid w.first))

  -- what is behind the first kind begins where the first stops
  stops_right : (b : B) (y : D) (m j : Input) → Begins (t.marks y) m j → t.ends (t.tag y) (kind j) → s.ends (s.tag (inr b)) (kind m)
  stops_right b y m j h e = forks.meets b (t.tag y) (kind m) (Q.front m y j (t.ends (t.tag y)) h e)

  going_complete : (i : Input) (v : A ⊎ (B × D)) (j : Input) → going_fits s t v → Fits n (going_marks s t v) → Takes (going_marks s t v) i j → u.ends (going_tag s t v) (kind j) → going p q i ≡ Ok (v, j)
  going_complete i (inl a) j fits d h e = going_left i a j (P.complete i (inl a) j fits d h e)
  going_complete i (inr c) j fits d h e =
      let w = takes_split (s.marks (inr c.0)) (t.marks c.1) i j h in
      let f = fits_split n (s.marks (inr c.0)) (t.marks c.1) d in
      going_right i c.0 w.mid c.1 j (P.complete i (inr c.0) w.mid fits.0 f.0 w.front (stops_right c.0 c.1 w.mid j (takes_begins (t.marks c.1) w.mid j w.back) e)) (Q.complete w.mid c.1 j fits.1 f.1 w.back e)

  going_accepts : (i : Input) (v : A ⊎ (B × D)) (j : Input) → going_fits s t v → Fits n (going_marks s t v) → Begins (going_marks s t v) i j → u.ends (going_tag s t v) (kind j) → Accepts (going p q) u v i j
  going_accepts i (inl a) j fits d h e = left_read i a j (P.accepts i (inl a) j fits d h e)
  going_accepts i (inr c) j fits d h e =
      let w = begins_split (s.marks (inr c.0)) (t.marks c.1) i j h in
      let f = fits_split n (s.marks (inr c.0)) (t.marks c.1) d in
      right_read i c.0 w.mid c.1 j (P.accepts i (inr c.0) w.mid fits.0 f.0 w.front (stops_right c.0 c.1 w.mid j w.back e)) (Q.accepts w.mid c.1 j fits.1 f.1 w.back e)

  right_deep : (i : Input) (b : B) (m : Input) (at : ℕ) → Accepts p s (inr b) i m → q m ≡ Err (too_deep at) → going p q i ≡ Err (too_deep at)
  right_deep i b m at x h =
      let r = right_of x.value (forks.sides x.value (inr b) x.same) in
      let e : p i ≡ Ok (inr r.value, m) = x.is ∙ ap (λ c. Ok (c, m)) (sym r.is) in
      rw (e, h) refl

  first_deep : (i : Input) (at : ℕ) → p i ≡ Err (too_deep at) → going p q i ≡ Err (too_deep at)
  first_deep i at h = rw h refl

  going_opening : (i : Input) (v : A ⊎ (B × D)) (j : Input) (at : ℕ) → going_fits s t v → Begins (going_marks s t v) i j → u.ends (going_tag s t v) (kind j) → Beyond n (going_marks s t v) i at → going p q i ≡ Err (too_deep at)
  going_opening i (inl a) j at fits h e g = first_deep i at (P.opening i (inl a) j at fits h e g)
  going_opening i (inr c) j at fits h e g =
      let w = begins_split (s.marks (inr c.0)) (t.marks c.1) i j h in
      let stops = stops_right c.0 c.1 w.mid j w.back e in
      by_part w.mid (λ x. P.opening i (inr c.0) w.mid at fits.0 w.front stops x) (λ x. P.accepts i (inr c.0) w.mid fits.0 x w.front stops) (λ x. Q.opening w.mid c.1 j at fits.1 w.back e x) (beyond_split n (s.marks (inr c.0)) (t.marks c.1) i w.mid at w.front g)
    where
      by_part : (m : Input) → (Beyond n (s.marks (inr c.0)) i at → p i ≡ Err (too_deep at)) → (Fits n (s.marks (inr c.0)) → Accepts p s (inr c.0) i m) → (Beyond n (t.marks c.1) m at → q m ≡ Err (too_deep at)) →
          Beyond n (s.marks (inr c.0)) i at ⊎ (Fits n (s.marks (inr c.0)) × Beyond n (t.marks c.1) m at) → going p q i ≡ Err (too_deep at)
      by_part m f k l (inl x) = first_deep i at (f x)
      by_part m f k l (inr x) = right_deep i c.0 m at (k x.0) (l x.1)

  going_front : (i : Input) (v : A ⊎ (B × D)) (j : Input) (F : Option Kind → Type 0) → Begins (going_marks s t v) i j → F (kind j) → first (kind i)
  going_front i (inl a) j F h e = forks.starts F (kind i) (P.front i (inl a) j F h e)
  going_front i (inr c) j F h e =
      let w = begins_split (s.marks (inr c.0)) (t.marks c.1) i j h in
      forks.starts (t.begins F) (kind i) (P.front i (inr c.0) w.mid (t.begins F) w.front (Q.front w.mid c.1 j F w.back e))

  going_closing : (x : s.Tag) (y : Option t.Tag) (k : Option Kind) → s.closes k × t.closes k → last_ends s.ends t.ends x y k
  going_closing x None k h = P.closing x k h.0
  going_closing x (Some y) k h = Q.closing y k h.1

  -- with nothing more
  abbrev alone : A ⊎ B → A ⊎ (B × D)
  alone (inl a) = inl a
  alone (inr b) = inr (b, forks.none)

  alone_marks : (c : A ⊎ B) → s.marks c ≡ going_marks s t (alone c)
  alone_marks (inl a) = refl
  alone_marks (inr b) = sym (ap (λ ms. s.marks (inr b) ++ ms) forks.none_marks ∙ append-nil (s.marks (inr b)))

  pub going_good : Good n (going p q) u
  going_good = record {
    sound = λ i v j h.
        let w = bind_ok (p i) (after_side q) v j h in
        after_sound i w.value w.mid v j (P.sound i w.value w.mid w.first) w.second;
    complete = going_complete;
    accepts = going_accepts;
    opening = going_opening;
    front = going_front;
    closing = λ x k h. going_closing x.0 x.1 k h;
    sample = λ tail h.
        let a = P.sample tail h.0 in
        record { whole = a.whole; value = alone a.value; takes = subst (λ ms. Takes ms a.whole tail) (alone_marks a.value) a.takes; starts = λ F k. forks.starts F (kind a.whole) (a.starts F k) };
  }

  going_first_fails : (i : Input) (e : Stop) → Fails n p s i e → Fails n (going p q) u i e
  going_first_fails i e f = record {
    front = f.front;
    stop = f.stop;
    begins = f.begins;
    position = f.position;
    again = λ j m b c. let x = f.again j m b c in record { fault = x.fault; is = rw x.is refl; like = x.like; position = x.position };
    viable = λ tail h.
        let a = f.viable tail h.0 in
        record {
          whole = a.whole;
          mid = a.mid;
          value = alone a.value;
          begins = a.begins;
          takes = subst (λ ms. Takes ms a.whole tail) (alone_marks a.value) a.takes;
          starts = λ F k. forks.starts F (kind a.whole) (a.starts F k);
        };
  }

  -- with the part before it, which is of the second kind
  second_viable : (b : B) (ms : List Mark) (tail : Input) (z : Viable t ms tail) (start : Input) → Begins (s.marks (inr b)) start z.whole → (c : A ⊎ B) → p start ≡ Ok (c, z.whole) → is_left c ≡ false → Viable u (s.marks (inr b) ++ ms) tail
  second_viable b ms tail z start h (inl a) k l = cc
  second_viable b ms tail z start h (inr b') k l =
      let again = P.sound start (inr b') z.whole k in
      record {
        whole = start;
        mid = z.mid;
        value = inr (b', z.value);
        begins = begins_join (s.marks (inr b)) ms start z.whole z.mid h z.begins;
        takes = takes_join (s.marks (inr b')) (t.marks z.value) start z.whole tail again.takes z.takes;
        starts = λ F k. forks.starts (t.begins F) (kind start) (P.front start (inr b') z.whole (t.begins F) (takes_begins (s.marks (inr b')) start z.whole again.takes) (z.starts F k));
      }

  going_second_fails : (i : Input) (b : B) (m : Input) (e : Stop) → p i ≡ Ok (inr b, m) → Fails n q t m e → Fails n (going p q) u i e
  going_second_fails i b m e h f =
      let read = P.sound i (inr b) m h in
      let taken = takes_begins (s.marks (inr b)) i m read.takes in
      record {
        front = s.marks (inr b) ++ f.front;
        stop = f.stop;
        begins = begins_join (s.marks (inr b)) f.front i m f.stop taken f.begins;
        position = position_join e (s.marks (inr b)) f.front i m f.stop taken f.position;
        again = λ j l c d.
            let w = begins_split (s.marks (inr b)) f.front j l c in
            let same = stop_front e f.front m f.stop w.mid l m f.stop f.position f.begins w.back d in
            let x = read.again j w.mid w.front same in
            let r = right_of x.value (forks.sides x.value (inr b) x.same) in
            let k : p j ≡ Ok (inr r.value, w.mid) = x.is ∙ ap (λ v. Ok (v, w.mid)) (sym r.is) in
            let y = f.again w.mid l w.back d in
            record { fault = y.fault; is = rw (k, y.is) refl; like = y.like; position = position_join y.fault (s.marks (inr b)) f.front j w.mid l w.front y.position };
        viable = λ tail c.
            let z = f.viable tail c.1 in
            let put = read.before z.whole in
            let x = P.accepts put.start (inr b) z.whole read.fits read.deep put.begins (forks.meets b (t.tag z.value) (kind z.whole) (z.starts (t.ends (t.tag z.value)) (Q.closing (t.tag z.value) (kind tail) c.1))) in
            second_viable b f.front tail z put.start put.begins x.value x.is (forks.sides x.value (inr b) x.same);
      }

  -- where it fails, a part fails
  pub going_fails_at : (i : Input) (e : Stop) → (p i ≡ Err e → Fails n p s i e) → ((b : B) (m : Input) → p i ≡ Ok (inr b, m) → q m ≡ Err e → Fails n q t m e) → going p q i ≡ Err e → Fails n (going p q) u i e
  going_fails_at i e f g h = by_first (bind_err (p i) (after_side q) e h) where
    by_side_at : (c : A ⊎ B) (m : Input) → p i ≡ Ok (c, m) → after_side q c m ≡ Err e → Fails n (going p q) u i e
    by_side_at (inl a) m l k = absurd (ok_not_err k)
    by_side_at (inr b) m l k = by_second (bind_err (q m) (λ y. pure {A = A ⊎ (B × D)} (inr (b, y))) e k) where
      by_second : (q m ≡ Err e) ⊎ Broke {B = A ⊎ (B × D)} (q m) (λ y. pure (inr (b, y))) e → Fails n (going p q) u i e
      by_second (inl o) = going_second_fails i b m e l (g b m l o)
      by_second (inr w) = absurd (ok_not_err w.second)

    by_first : (p i ≡ Err e) ⊎ Broke {B = A ⊎ (B × D)} (p i) (after_side q) e → Fails n (going p q) u i e
    by_first (inl k) = going_first_fails i e (f k)
    by_first (inr w) = by_side_at w.value w.mid w.first w.second

after_more : {A B D : Type 0} (q q' : Parser D) → More q q' → (c : A ⊎ B) → More (after_side q c) (after_side q' c)
after_more q q' h (inl a) i d = refl
after_more q q' h (inr b) i d = more_bind (q i) (q' i) (λ y. pure (inr (b, y))) (λ y. pure (inr (b, y))) (h i) (λ y j e. refl) d

pub going_more : {A B D : Type 0} (p p' : Parser (A ⊎ B)) (q q' : Parser D) → More p p' → More q q' → More (going p q) (going p' q')
going_more p p' q q' h k i = more_bind (p i) (p' i) (after_side q) (after_side q') (h i) (after_more q q' k)

pub going_law : {A B D : Type 0} {n : ℕ} {p p' : Parser (A ⊎ B)} {s : Shape (A ⊎ B)} {q q' : Parser D} {t : Shape D} {first : Option Kind → Type 0} → Law n p p' s → Law n q q' t → Forks s t first → Law n (going p q) (going p' q') (going_shape s t first)
going_law {A} {B} {D} {n} {p} {p'} {s} {q} {q'} {t} {first} P Q forks = record {
  good = going_good n p s q t first P.good Q.good forks;
  fails = λ i e. going_fails_at n p s q t first P.good Q.good forks i e (P.fails i e) (λ b m h. Q.fails m e);
  more = going_more p p' q q' P.more Q.more;
  fit = fit;
} where
  fit : (v : A ⊎ (B × D)) → going_fits s t v
  fit (inl a) = P.fit (inl a)
  fit (inr c) = (P.fit (inr c.0), Q.fit c.1)
