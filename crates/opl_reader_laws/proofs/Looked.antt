-- A phrase that is looked at once it is read: where a certain token comes next, it must be of a narrower kind.
use Rattle.std.proofs.Common.{◌≡◌, ℕ, Bool, true, false, cond, ◌⊎◌, inl, inr, List, ◌++◌, Option, Some, None, Ok, Err, refl, sym, ap, ◌∙◌, subst}
use Rattle.std.specs.Prelude.{is_some}
use Rattle.opl_token.specs.declared.token.Kind.{Kind}
use Rattle.opl_tree.specs.Marks.{Mark}
use Rattle.opl_grammar.specs.Input.{Input, Stop, syntax, Outcome, Parser, kind, ◌>>=◌, pure, refuse}
use Rattle.opl_grammar.specs.Input.{place as place_at}
use Rattle.opl_reader_laws.proofs.Forms.{Passes, by_side}
use Rattle.opl_grammar.specs.Input.{too_deep}
use Rattle.opl_reader_laws.proofs.Levels.{Fits, fits_split, fits_join, Beyond, beyond_split}
use Rattle.opl_reader_laws.proofs.Outcomes.{ok_one, err_one, ok_not_err, bind_ok, Broke, bind_err}
use Rattle.opl_reader_laws.proofs.Phrases.{Shape, Accepts, Sound, Good, Fails, AllFail, More, Law, more_bind, more_test, Any}
use Rattle.opl_reader_laws.proofs.Places.{Within, within_takes, within_begins, within_begun, within_deep, within_shallow, within_beyond}
use Rattle.opl_reader_laws.proofs.Takes.{Takes, Begins, takes_split, takes_join, takes_begins, begins_split, begins_join, same_front, position_join, stop_front}

-- where the token comes next, what was read must be of the narrower kind, and goes on as that
abbrev pub by_view : {A C Y : Type 0} → Parser Y → Option C → Parser (A ⊎ (C × Y))
by_view r None = refuse
by_view r (Some c) = r >>= (λ y. pure (inr (c, y)))

abbrev pub look_at : {A C Y : Type 0} → (Option Kind → Bool) → (A → Option C) → Parser Y → A → Parser (A ⊎ (C × Y))
look_at {A} {C} {Y} test view r a = λ i. cond {A = Outcome (A ⊎ (C × Y))} (test (kind i)) (by_view r (view a) i) (Ok (inl a, i))

abbrev pub looked : {A C Y : Type 0} → Parser A → (Option Kind → Bool) → (A → Option C) → Parser Y → Parser (A ⊎ (C × Y))
looked p test view r = p >>= look_at test view r

abbrev pub looked_marks : {A C Y : Type 0} → Shape A → (C → List Mark) → Shape Y → A ⊎ (C × Y) → List Mark
looked_marks s m t (inl a) = s.marks a
looked_marks s m t (inr c) = m c.0 ++ t.marks c.1

abbrev pub looked_ends : {A Y : Type 0} (test : Option Kind → Bool) (s : Shape A) (t : Shape Y) → s.Tag ⊎ t.Tag → Option Kind → Type 0
looked_ends test s t (inl x) k = s.ends x k × (test k ≡ false)
looked_ends test s t (inr y) k = t.ends y k

abbrev pub looked_shape : {A C Y : Type 0} → (Option Kind → Bool) → Shape A → (C → List Mark) → Shape Y → (Option Kind → Type 0) → Shape (A ⊎ (C × Y))
looked_shape {A} {C} {Y} test s m t first = record {
  marks = looked_marks s m t;
  Tag = s.Tag ⊎ t.Tag;
  tag = by_side (λ a. inl (s.tag a)) (λ c. inr (t.tag c.1));
  fits = λ c. Unit {0};
  ends = looked_ends test s t;
  closes = λ k. s.closes k × (t.closes k × (test k ≡ false));
  begins = λ F. first;
}

-- The narrower kind: whether a value is of it is known by its tokens; it writes the same but for places before them; and with right
-- places it is a value of the wider kind.
pub record Narrows {A C : Type 0} (s : Shape A) (view : A → Option C) (m : C → List Mark) : Type 1 where
  pub known : (a b : A) → s.tag a ≡ s.tag b → is_some (view a) ≡ is_some (view b)
  pub within : (a : A) (c : C) → view a ≡ Some c → Within (s.marks a) (m c)
  pub wide : ℕ → C → A
  pub back : (at : ℕ) (c : C) → view (wide at c) ≡ Some c
  pub there : (i : Input) (c : C) (j : Input) → Takes (m c) i j → Takes (s.marks (wide (place_at i) c)) i j
  pub fits : (a : A) → s.fits a

record Viewed {A C : Type 0} (view : A → Option C) (a : A) : Type 0 where
  part : C
  is : view a ≡ Some part

viewed : {A C : Type 0} (view : A → Option C) (a : A) → is_some (view a) ≡ true → Viewed view a
viewed {A} {C} view a h = by_option (view a) refl h where
  by_option : (o : Option C) → view a ≡ o → is_some o ≡ true → Viewed view a
  by_option None e h = cc
  by_option (Some c) e h = record { part = c; is = e }

not_viewed : {C : Type 0} (o : Option C) → is_some o ≡ false → o ≡ None
not_viewed None h = refl
not_viewed (Some c) h = cc

some_is : {C : Type 0} (o : Option C) (c : C) → o ≡ Some c → is_some o ≡ true
some_is o c h = ap is_some h

module _ {A C Y : Type 0} (n : ℕ) (p : Parser A) (s : Shape A) (test : Option Kind → Bool) (view : A → Option C) (m : C → List Mark) (r : Parser Y) (t : Shape Y) (first : Option Kind → Type 0)
    (P : Good n p s) (R : Good n r t) (narrow : Narrows s view m) (passes : Passes test t) (meets : (y : t.Tag) (k : Option Kind) → t.begins (t.ends y) k → s.closes k) (starts : (F : Option Kind → Type 0) (k : Option Kind) → s.begins F k → first k) (fit : (y : Y) → t.fits y) where
  abbrev u : Shape (A ⊎ (C × Y))
  u = looked_shape test s m t first

  plain_ok : (i : Input) (a : A) (j : Input) → test (kind j) ≡ false → p i ≡ Ok (a, j) → looked p test view r i ≡ Ok (inl a, j)
  plain_ok i a j b h = rw (h, b) refl

  narrow_ok : (i : Input) (a : A) (c : C) (l : Input) (y : Y) (j : Input) → test (kind l) ≡ true → view a ≡ Some c → p i ≡ Ok (a, l) → r l ≡ Ok (y, j) → looked p test view r i ≡ Ok (inr (c, y), j)
  narrow_ok i a c l y j b v h k = rw (h, b, v, k) refl

  plain_read : (i : Input) (a : A) (j : Input) → test (kind j) ≡ false → Accepts p s a i j → Accepts (looked p test view r) u (inl a) i j
  plain_read i a j b x = record { value = inl x.value; is = plain_ok i x.value j b x.is; same = ap inl x.same }

  -- what goes on passes the test
  goes_on : (l : Input) (y : Y) (j : Input) → Sound r t n l y j → test (kind l) ≡ true
  goes_on l y j x = passes Any (kind l) (R.front l y j Any (takes_begins (t.marks y) l j x.takes) tt)

  narrow_read : (i : Input) (a : A) (c : C) (l : Input) (y : Y) (j : Input) → view a ≡ Some c → Accepts p s a i l → Accepts r t y l j → Accepts (looked p test view r) u (inr (c, y)) i j
  narrow_read i a c l y j v x z =
      let w = viewed view x.value (narrow.known x.value a x.same ∙ some_is (view a) c v) in
      record { value = inr (w.part, z.value); is = narrow_ok i x.value w.part l z.value j (goes_on l z.value j (R.sound l z.value j z.is)) w.is x.is z.is; same = ap inr z.same }

  plain_sound : (i : Input) (a : A) (j : Input) → test (kind j) ≡ false → Sound p s n i a j → Sound (looked p test view r) u n i (inl a) j
  plain_sound i a j b x = record {
    takes = x.takes;
    fits = tt;
    deep = x.deep;
    again = λ i' j' h e. plain_read i' a j' (ap test e ∙ b) (x.again i' j' h e);
    before = x.before;
  }

  narrow_sound : (i : Input) (a : A) (c : C) (l : Input) (y : Y) (j : Input) → view a ≡ Some c → Sound p s n i a l → Sound r t n l y j → Sound (looked p test view r) u n i (inr (c, y)) j
  narrow_sound i a c l y j v x z = record {
    takes = takes_join (m c) (t.marks y) i l j (within_takes (narrow.within a c v) i l x.takes) z.takes;
    fits = tt;
    deep = fits_join n (m c) (t.marks y) (within_deep (narrow.within a c v) n x.deep) z.deep;
    again = λ i' j' h e.
        let w = begins_split (m c) (t.marks y) i' j' h in
        let same = same_front (t.marks y) l j w.mid j' (takes_begins (t.marks y) l j z.takes) w.back e in
        narrow_read i' a c w.mid y j' v (x.again i' w.mid (within_begins (narrow.within a c v) i' w.mid w.front) same) (z.again w.mid j' w.back e);
    before = λ tail.
        let second = z.before tail in
        let front = x.before second.start in
        record { start = front.start; begins = begins_join (m c) (t.marks y) front.start second.start tail (within_begun (narrow.within a c v) front.start second.start front.begins) second.begins };
  }

  look_sound : (i : Input) (a : A) (l : Input) → Sound p s n i a l → (b : Bool) → test (kind l) ≡ b → (o : Option C) → view a ≡ o → (v : A ⊎ (C × Y)) (j : Input) → cond {A = Outcome (A ⊎ (C × Y))} b (by_view r o l) (Ok (inl a, l)) ≡ Ok (v, j) → Sound (looked p test view r) u n i v j
  look_sound i a l x true b None e v j h = absurd (ok_not_err (sym h))
  look_sound i a l x true b (Some c) e v j h =
      let w = bind_ok (r l) (λ y. pure {A = A ⊎ (C × Y)} (inr (c, y))) v j h in
      subst (λ (z : (A ⊎ (C × Y)) × Input). Sound (looked p test view r) u n i z.0 z.1) (ok_one w.second) (narrow_sound i a c l w.value w.mid e x (R.sound l w.value w.mid w.first))
  look_sound i a l x false b o e v j h = subst (λ (z : (A ⊎ (C × Y)) × Input). Sound (looked p test view r) u n i z.0 z.1) (ok_one h) (plain_sound i a l b x)

  -- where what goes on begins, what stands before it stops
  stops_at : (a : A) (y : Y) (l j : Input) → Begins (t.marks y) l j → t.ends (t.tag y) (kind j) → s.ends (s.tag a) (kind l)
  stops_at a y l j k e = P.closing (s.tag a) (kind l) (meets (t.tag y) (kind l) (R.front l y j (t.ends (t.tag y)) k e))

  looked_complete : (i : Input) (v : A ⊎ (C × Y)) (j : Input) → Fits n (looked_marks s m t v) → Takes (looked_marks s m t v) i j → looked_ends test s t (u.tag v) (kind j) → looked p test view r i ≡ Ok (v, j)
  looked_complete i (inl a) j l h e = plain_ok i a j e.1 (P.complete i a j (narrow.fits a) l h e.0)
  looked_complete i (inr c) j l h e =
      let w = takes_split (m c.0) (t.marks c.1) i j h in
      let f = fits_split n (m c.0) (t.marks c.1) l in
      let b = takes_begins (t.marks c.1) w.mid j w.back in
      let k = passes Any (kind w.mid) (R.front w.mid c.1 j Any b tt) in
      let a = narrow.wide (place_at i) c.0 in
      let v = narrow.back (place_at i) c.0 in
      narrow_ok i a c.0 w.mid c.1 j k v (P.complete i a w.mid (narrow.fits a) (within_shallow (narrow.within a c.0 v) n f.0) (narrow.there i c.0 w.mid w.front) (stops_at a c.1 w.mid j b e)) (R.complete w.mid c.1 j (fit c.1) f.1 w.back e)

  looked_accepts : (i : Input) (v : A ⊎ (C × Y)) (j : Input) → Fits n (looked_marks s m t v) → Begins (looked_marks s m t v) i j → looked_ends test s t (u.tag v) (kind j) → Accepts (looked p test view r) u v i j
  looked_accepts i (inl a) j l h e = plain_read i a j e.1 (P.accepts i a j (narrow.fits a) l h e.0)
  looked_accepts i (inr c) j l h e =
      let w = begins_split (m c.0) (t.marks c.1) i j h in
      let f = fits_split n (m c.0) (t.marks c.1) l in
      let z = R.accepts w.mid c.1 j (fit c.1) f.1 w.back e in
      let a = narrow.wide 0 c.0 in
      let v = narrow.back 0 c.0 in
      let x = P.accepts i a w.mid (narrow.fits a) (within_shallow (narrow.within a c.0 v) n f.0) (within_begins (narrow.within a c.0 v) i w.mid w.front) (stops_at a c.1 w.mid j w.back e) in
      narrow_read i a c.0 w.mid c.1 j v x z

  wide_deep : (i : Input) (at : ℕ) → p i ≡ Err (too_deep at) → looked p test view r i ≡ Err (too_deep at)
  wide_deep i at h = rw h refl

  narrow_deep : (i : Input) (a : A) (c : C) (l : Input) (at : ℕ) → test (kind l) ≡ true → view a ≡ Some c → Accepts p s a i l → r l ≡ Err (too_deep at) → looked p test view r i ≡ Err (too_deep at)
  narrow_deep i a c l at b v x h =
      let w = viewed view x.value (narrow.known x.value a x.same ∙ some_is (view a) c v) in
      rw (x.is, b, w.is, h) refl

  looked_opening : (i : Input) (v : A ⊎ (C × Y)) (j : Input) (at : ℕ) → Begins (looked_marks s m t v) i j → looked_ends test s t (u.tag v) (kind j) → Beyond n (looked_marks s m t v) i at → looked p test view r i ≡ Err (too_deep at)
  looked_opening i (inl a) j at h e g = wide_deep i at (P.opening i a j at (narrow.fits a) h e.0 g)
  looked_opening i (inr c) j at h e g =
      let w = begins_split (m c.0) (t.marks c.1) i j h in
      let a = narrow.wide 0 c.0 in
      let v = narrow.back 0 c.0 in
      let b = within_begins (narrow.within a c.0 v) i w.mid w.front in
      let stops = stops_at a c.1 w.mid j w.back e in
      let k = passes Any (kind w.mid) (R.front w.mid c.1 j Any w.back tt) in
      by_part a w.mid k v (λ x. P.opening i a w.mid at (narrow.fits a) b stops (within_beyond (narrow.within a c.0 v) n i at x)) (λ x. P.accepts i a w.mid (narrow.fits a) (within_shallow (narrow.within a c.0 v) n x) b stops) (λ x. R.opening w.mid c.1 j at (fit c.1) w.back e x) (beyond_split n (m c.0) (t.marks c.1) i w.mid at w.front g)
    where
      by_part : (a : A) (l : Input) → test (kind l) ≡ true → view a ≡ Some c.0 → (Beyond n (m c.0) i at → p i ≡ Err (too_deep at)) → (Fits n (m c.0) → Accepts p s a i l) → (Beyond n (t.marks c.1) l at → r l ≡ Err (too_deep at)) →
          Beyond n (m c.0) i at ⊎ (Fits n (m c.0) × Beyond n (t.marks c.1) l at) → looked p test view r i ≡ Err (too_deep at)
      by_part a l b v f k o (inl x) = wide_deep i at (f x)
      by_part a l b v f k o (inr x) = narrow_deep i a c.0 l at b v (k x.0) (o x.1)

  looked_front : (i : Input) (v : A ⊎ (C × Y)) (j : Input) (F : Option Kind → Type 0) → Begins (looked_marks s m t v) i j → F (kind j) → first (kind i)
  looked_front i (inl a) j F h e = starts F (kind i) (P.front i a j F h e)
  looked_front i (inr c) j F h e =
      let w = begins_split (m c.0) (t.marks c.1) i j h in
      let a = narrow.wide 0 c.0 in
      starts (t.begins F) (kind i) (P.front i a w.mid (t.begins F) (within_begins (narrow.within a c.0 (narrow.back 0 c.0)) i w.mid w.front) (R.front w.mid c.1 j F w.back e))

  looked_closing : (x : s.Tag ⊎ t.Tag) (k : Option Kind) → s.closes k × (t.closes k × (test k ≡ false)) → looked_ends test s t x k
  looked_closing (inl x) k h = (P.closing x k h.0, h.1.1)
  looked_closing (inr x) k h = R.closing x k h.1.0

  looked_good : Good n (looked p test view r) u
  looked_good = record {
    sound = λ i v j h.
        let w = bind_ok (p i) (look_at test view r) v j h in
        look_sound i w.value w.mid (P.sound i w.value w.mid w.first) (test (kind w.mid)) refl (view w.value) refl v j w.second;
    complete = λ i v j fits l h e. looked_complete i v j l h e;
    accepts = λ i v j fits l h e. looked_accepts i v j l h e;
    opening = λ i v j at fits h e g. looked_opening i v j at h e g;
    front = looked_front;
    closing = looked_closing;
    sample = λ tail h. let a = P.sample tail h.0 in record { whole = a.whole; value = inl a.value; takes = a.takes; starts = λ F k. starts F (kind a.whole) (a.starts F k) };
  }

  wide_fails : (i : Input) (e : Stop) → Fails n p s i e → Fails n (looked p test view r) u i e
  wide_fails i e f = record {
    front = f.front;
    stop = f.stop;
    begins = f.begins;
    position = f.position;
    again = λ j l b c. let x = f.again j l b c in record { fault = x.fault; is = rw x.is refl; like = x.like; position = x.position };
    viable = λ tail h.
        let a = f.viable tail h.0 in
        record { whole = a.whole; mid = a.mid; value = inl a.value; begins = a.begins; takes = a.takes; starts = λ F k. starts F (kind a.whole) (a.starts F k) };
  }

  -- the token comes, and what was read is not of the narrower kind
  not_narrow_fails : (i : Input) (a : A) (l : Input) → p i ≡ Ok (a, l) → test (kind l) ≡ true → view a ≡ None → Fails n (looked p test view r) u i (syntax (place_at l))
  not_narrow_fails i a l h b v =
      let read = P.sound i a l h in
      record {
        front = s.marks a;
        stop = l;
        begins = takes_begins (s.marks a) i l read.takes;
        position = refl;
        again = λ j k c e.
            let x = read.again j k c e in
            let none = not_viewed (view x.value) (narrow.known x.value a x.same ∙ ap is_some v) in
            let b' : test (kind k) ≡ true = ap test e ∙ b in
            record { fault = syntax (place_at k); is = rw (x.is, b', none) refl; like = refl; position = refl };
        viable = λ tail c.
            let put = read.before tail in
            let x = P.accepts put.start a tail read.fits read.deep put.begins (P.closing (s.tag a) (kind tail) c.0) in
            let y = P.sound put.start x.value tail x.is in
            record {
              whole = put.start;
              mid = tail;
              value = inl x.value;
              begins = put.begins;
              takes = y.takes;
              starts = λ F k. starts F (kind put.start) (P.front put.start x.value tail F (takes_begins (s.marks x.value) put.start tail y.takes) k);
            };
      }

  -- what it goes on with fails
  rest_fails : (i : Input) (a : A) (c : C) (l : Input) (e : Stop) → p i ≡ Ok (a, l) → test (kind l) ≡ true → view a ≡ Some c → Fails n r t l e → Fails n (looked p test view r) u i e
  rest_fails i a c l e h b v f =
      let read = P.sound i a l h in
      let taken = takes_begins (s.marks a) i l read.takes in
      record {
        front = s.marks a ++ f.front;
        stop = f.stop;
        begins = begins_join (s.marks a) f.front i l f.stop taken f.begins;
        position = position_join e (s.marks a) f.front i l f.stop taken f.position;
        again = λ j k o q.
            let w = begins_split (s.marks a) f.front j k o in
            let same = stop_front e f.front l f.stop w.mid k l f.stop f.position f.begins w.back q in
            let x = read.again j w.mid w.front same in
            let z = viewed view x.value (narrow.known x.value a x.same ∙ some_is (view a) c v) in
            let y = f.again w.mid k w.back q in
            let b' : test (kind w.mid) ≡ true = ap test same ∙ b in
            record { fault = y.fault; is = rw (x.is, b', z.is, y.is) refl; like = y.like; position = position_join y.fault (s.marks a) f.front j w.mid k w.front y.position };
        viable = λ tail o.
            let z = f.viable tail o.1.0 in
            let put = read.before z.whole in
            let x = P.accepts put.start a z.whole read.fits read.deep put.begins (P.closing (s.tag a) (kind z.whole) (meets (t.tag z.value) (kind z.whole) (z.starts (t.ends (t.tag z.value)) (R.closing (t.tag z.value) (kind tail) o.1.0)))) in
            let w = viewed view x.value (narrow.known x.value a x.same ∙ some_is (view a) c v) in
            let y = P.sound put.start x.value z.whole x.is in
            record {
              whole = put.start;
              mid = z.mid;
              value = inr (w.part, z.value);
              begins = begins_join (s.marks a) f.front put.start z.whole z.mid put.begins z.begins;
              takes = takes_join (m w.part) (t.marks z.value) put.start z.whole tail (within_takes (narrow.within x.value w.part w.is) put.start z.whole y.takes) z.takes;
              starts = λ F k. starts (t.begins F) (kind put.start) (P.front put.start x.value z.whole (t.begins F) (takes_begins (s.marks x.value) put.start z.whole y.takes) (z.starts F k));
            };
      }

  look_fails : AllFail n r t → (i : Input) (a : A) (l : Input) (e : Stop) → p i ≡ Ok (a, l) → (b : Bool) → test (kind l) ≡ b → (o : Option C) → view a ≡ o → cond {A = Outcome (A ⊎ (C × Y))} b (by_view r o l) (Ok (inl a, l)) ≡ Err e → Fails n (looked p test view r) u i e
  look_fails g i a l e h true b None v k = subst (λ x. Fails n (looked p test view r) u i x) (err_one k) (not_narrow_fails i a l h b v)
  look_fails g i a l e h true b (Some c) v k = by_rest (bind_err (r l) (λ y. pure {A = A ⊎ (C × Y)} (inr (c, y))) e k) where
    by_rest : (r l ≡ Err e) ⊎ Broke {B = A ⊎ (C × Y)} (r l) (λ y. pure (inr (c, y))) e → Fails n (looked p test view r) u i e
    by_rest (inl x) = rest_fails i a c l e h b v (g l e x)
    by_rest (inr w) = absurd (ok_not_err w.second)
  look_fails g i a l e h false b o v k = absurd (ok_not_err k)

  looked_fails : AllFail n p s → AllFail n r t → AllFail n (looked p test view r) u
  looked_fails f g i e h = by_first (bind_err (p i) (look_at test view r) e h) where
    by_first : (p i ≡ Err e) ⊎ Broke {B = A ⊎ (C × Y)} (p i) (look_at test view r) e → Fails n (looked p test view r) u i e
    by_first (inl k) = wide_fails i e (f i e k)
    by_first (inr w) = look_fails g i w.value w.mid e w.first (test (kind w.mid)) refl (view w.value) refl w.second

by_view_more : {A C Y : Type 0} (r r' : Parser Y) → More r r' → (o : Option C) → More {A = A ⊎ (C × Y)} (by_view r o) (by_view r' o)
by_view_more r r' h None i d = refl
by_view_more r r' h (Some c) i d = more_bind (r i) (r' i) (λ y. pure (inr (c, y))) (λ y. pure (inr (c, y))) (h i) (λ y j e. refl) d

pub looked_law : {A C Y : Type 0} {n : ℕ} {p p' : Parser A} {s : Shape A} {r r' : Parser Y} {t : Shape Y} {m : C → List Mark} {view : A → Option C} {first : Option Kind → Type 0} (test : Option Kind → Bool) → Law n p p' s → Law n r r' t → Narrows s view m → Passes test t →
    ((y : t.Tag) (k : Option Kind) → t.begins (t.ends y) k → s.closes k) → ((F : Option Kind → Type 0) (k : Option Kind) → s.begins F k → first k) → Law n (looked p test view r) (looked p' test view r') (looked_shape test s m t first)
looked_law {A} {C} {Y} {n} {p} {p'} {s} {r} {r'} {t} {m} {view} {first} test P R narrow passes meets starts = record {
  good = looked_good n p s test view m r t first P.good R.good narrow passes meets starts R.fit;
  fails = looked_fails n p s test view m r t first P.good R.good narrow passes meets starts R.fit P.fails R.fails;
  more = λ i. more_bind (p i) (p' i) (look_at test view r) (look_at test view r') (P.more i)
      (λ a j. more_test {A = A ⊎ (C × Y)} (test (kind j)) (by_view r (view a) j) (Ok (inl a, j)) (by_view r' (view a) j) (Ok (inl a, j)) (by_view_more r r' R.more (view a) j) (λ e. refl));
  fit = λ v. tt;
}
