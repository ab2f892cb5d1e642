-- Readers with what they read: the shape of a phrase, the laws of a reader over so many levels of nesting, and how the
-- laws carry over from parts to the whole. Each rule of the grammar is put together from these.
use Rattle.std.proofs.Common.{◌≡◌, ℕ, Bool, true, false, cond, ◌⊎◌, inl, inr, List, [], ◌∷◌, ◌++◌, Option, Some, None, Ok, Err, refl, ap, ◌∙◌, subst}
use Rattle.opl_tree.specs.Marks.{Part, Mark, token}
use Rattle.opl_tree.specs.Spelling.{kind_of, IsProper}
use Rattle.opl_token.specs.declared.token.Kind.{Kind}
use Rattle.opl_grammar.specs.Input.{Input, Stop, syntax, too_deep, Outcome, Parser, kind, next, place as place_at, and_then, ◌>>=◌, pure, one, take_found}
use Rattle.opl_reader_laws.proofs.Outcomes.{ok_one, err_one, ok_not_err, bind_ok, Broke, bind_err}
use Rattle.opl_reader_laws.proofs.Levels.{Fits, fits_split, fits_join, Beyond, beyond_split}
use Rattle.opl_reader_laws.proofs.Takes.{Takes, takes_split, takes_join, Begins, takes_begins, begins_split, begins_join, same_front, is_deep, Position, Next, position_join, stop_front, before}

-- What a phrase is: what it writes, with the levels that it opens, what is known of a value by its tokens alone,
-- which of its values the reader is sure to take, before which tokens the reader stops behind a value, before which it stops in
-- any case, and with which it begins, by those that may follow.
pub record Shape (A : Type 0) : Type 1 where
  pub marks : A → List Mark
  pub Tag : Type 0
  pub tag : A → Tag
  pub fits : A → Type 0
  pub ends : Tag → Option Kind → Type 0
  pub closes : Option Kind → Type 0
  pub begins : (Option Kind → Type 0) → Option Kind → Type 0

-- something like the value is read up to j
pub record Accepts {A : Type 0} (read : Parser A) (s : Shape A) (a : A) (i j : Input) : Type 0 where
  pub value : A
  pub is : read i ≡ Ok (value, j)
  pub same : s.tag value ≡ s.tag a

-- the marks are written before the tail
pub record Before (ms : List Mark) (tail : Input) : Type 0 where
  pub start : Input
  pub begins : Begins ms start tail

-- What was read. Whatever begins so is read too, if the same token comes next.
pub record Sound {A : Type 0} (read : Parser A) (s : Shape A) (n : ℕ) (i : Input) (a : A) (j : Input) : Type 0 where
  pub takes : Takes (s.marks a) i j
  pub fits : s.fits a
  pub deep : Fits n (s.marks a)
  pub again : (i' j' : Input) → Begins (s.marks a) i' j' → kind j' ≡ kind j → Accepts read s a i' j'
  pub before : (tail : Input) → Before (s.marks a) tail

-- a value that is written before the tail
pub record Sample {A : Type 0} (s : Shape A) (tail : Input) : Type 1 where
  pub whole : Input
  pub value : A
  pub takes : Takes (s.marks value) whole tail
  pub starts : (F : Option Kind → Type 0) → F (kind tail) → s.begins F (kind whole)

abbrev pub Samples : {A : Type 0} → Shape A → Type 1
Samples s = (tail : Input) → s.closes (kind tail) → Sample s tail

-- The laws of a reader over n levels: it reads just what is written so and opens at most n levels, where a token follows at
-- which it stops; it stops at the first token that opens one too many; and none of it has to do with the places of the tokens.
pub record Good {A : Type 0} (n : ℕ) (read : Parser A) (s : Shape A) : Type 1 where
  pub sound : (i : Input) (a : A) (j : Input) → read i ≡ Ok (a, j) → Sound read s n i a j
  pub complete : (i : Input) (a : A) (j : Input) → s.fits a → Fits n (s.marks a) → Takes (s.marks a) i j → s.ends (s.tag a) (kind j) → read i ≡ Ok (a, j)
  pub accepts : (i : Input) (a : A) (j : Input) → s.fits a → Fits n (s.marks a) → Begins (s.marks a) i j → s.ends (s.tag a) (kind j) → Accepts read s a i j
  pub opening : (i : Input) (a : A) (j : Input) (at : ℕ) → s.fits a → Begins (s.marks a) i j → s.ends (s.tag a) (kind j) → Beyond n (s.marks a) i at → read i ≡ Err (too_deep at)
  pub front : (i : Input) (a : A) (j : Input) (F : Option Kind → Type 0) → Begins (s.marks a) i j → F (kind j) → s.begins F (kind i)
  pub closing : (x : s.Tag) (k : Option Kind) → s.closes k → s.ends x k
  pub sample : Samples s

-- something that begins with these marks is written before the tail
pub record Viable {A : Type 0} (s : Shape A) (ms : List Mark) (tail : Input) : Type 1 where
  pub whole : Input
  pub mid : Input
  pub value : A
  pub begins : Begins ms whole mid
  pub takes : Takes (s.marks value) whole tail
  pub starts : (F : Option Kind → Type 0) → F (kind tail) → s.begins F (kind whole)

-- a stop of the same kind, at the same token
pub record Faults {A : Type 0} (e : Stop) (front : List Mark) (j m : Input) (o : Outcome A) : Type 0 where
  pub fault : Stop
  pub is : o ≡ Err fault
  pub like : is_deep fault ≡ is_deep e
  pub position : Position fault front j m

-- Why a reader stops: behind these marks, with which something begins, stands a token with which it does not go on,
-- whatever stands behind that; or the last token of these marks, with which something begins, opens a level too many.
pub record Fails {A : Type 0} (n : ℕ) (read : Parser A) (s : Shape A) (i : Input) (e : Stop) : Type 1 where
  pub front : List Mark
  pub stop : Input
  pub begins : Begins front i stop
  pub position : Position e front i stop
  pub again : (j m : Input) → Begins front j m → Next e m stop → Faults e front j m (read j)
  pub viable : (tail : Input) → s.closes (kind tail) → Viable s front tail

-- a reader whose stops have their cause
abbrev pub AllFail : {A : Type 0} → ℕ → Parser A → Shape A → Type 1
AllFail {A} n read s = (i : Input) (e : Stop) → read i ≡ Err e → Fails n read s i e

-- whether an outcome is that of a level too many
abbrev pub nests_too_deep : {A : Type 0} → Outcome A → Bool
nests_too_deep (Ok c) = false
nests_too_deep (Err e) = is_deep e

-- more levels change only that
abbrev pub More : {A : Type 0} → Parser A → Parser A → Type 0
More {A} p q = (i : Input) → nests_too_deep (p i) ≡ false → p i ≡ q i

-- all laws of a reader together, and of the same reader over more levels
pub record Law {A : Type 0} (n : ℕ) (read above : Parser A) (s : Shape A) : Type 1 where
  pub good : Good n read s
  pub fails : AllFail n read s
  pub more : More read above
  pub fit : (a : A) → s.fits a

pub pair_eq : {X Y : Type 0} {x y : X} {u v : Y} → x ≡ y → u ≡ v → ◌≡◌ {A = X × Y} (x, u) (y, v)
pair_eq h k = cc

-- ---- what more levels change

abbrev SameUnlessDeep : {A : Type 0} → Outcome A → Outcome A → Type 0
SameUnlessDeep o u = nests_too_deep o ≡ false → o ≡ u

pub more_bind : {A B : Type 0} (o u : Outcome A) (f g : A → Parser B) → (nests_too_deep o ≡ false → o ≡ u) → ((a : A) → More (f a) (g a)) → nests_too_deep (and_then o f) ≡ false → and_then o f ≡ and_then u g
more_bind {A} {B} o u f g h k = by_first o h where
  by_first : (o : Outcome A) → SameUnlessDeep o u → nests_too_deep (and_then o f) ≡ false → and_then o f ≡ and_then u g
  by_first (Ok c) h d = k c.0 c.1 d ∙ ap (λ (x : Outcome A). and_then x g) (h refl)
  by_first (Err e) h d = ap (λ (x : Outcome A). and_then x g) (h d)

pub more_test : {A : Type 0} (b : Bool) (o u x y : Outcome A) → SameUnlessDeep o x → SameUnlessDeep u y → SameUnlessDeep (cond {A = Outcome A} b o u) (cond {A = Outcome A} b x y)
more_test true o u x y h k = h
more_test false o u x y h k = k

-- ---- one token

abbrev pub Any : Option Kind → Type 0
Any k = Unit {0}

-- the token's part, and the tokens that the table takes
abbrev pub one_shape : {A : Type 0} → (A → Part) → (Option Kind → Type 0) → Shape A
one_shape {A} part first = record {
  marks = λ a. token (part a) ∷ [];
  Tag = A;
  tag = λ a. a;
  fits = λ a. Unit {0};
  ends = λ a. Any;
  closes = Any;
  begins = λ F. first;
}

-- the table takes just the tokens of proper parts
pub record Reads {A : Type 0} (table : Option Kind → Option A) (part : A → Part) (first : Option Kind → Type 0) : Type 0 where
  pub found : (k : Option Kind) (a : A) → table k ≡ Some a → (k ≡ Some (kind_of (part a))) × IsProper (part a)
  pub known : (a : A) → IsProper (part a) → table (Some (kind_of (part a))) ≡ Some a
  pub starts : (a : A) → IsProper (part a) → first (Some (kind_of (part a)))
  pub sample : A
  pub proper : IsProper (part sample)

take_some : {A : Type 0} (o : Option A) (i : Input) (a : A) (j : Input) → take_found o i ≡ Ok (a, j) → (o ≡ Some a) × (next i ≡ j)
take_some (Some x) i a j h = let e : (x, next i) ≡ (a, j) = ok_one h in (ap (λ q. Some q.0) e, ap (λ q. q.1) e)
take_some None i a j h = cc

take_none : {A : Type 0} (o : Option A) (i : Input) (e : Stop) → take_found o i ≡ Err e → (o ≡ None) × (syntax (place_at i) ≡ e)
take_none (Some x) i e h = absurd (ok_not_err h)
take_none None i e h = (refl, err_one h)

module _ {A : Type 0} (n : ℕ) (table : Option Kind → Option A) (part : A → Part) (first : Option Kind → Type 0) (r : Reads table part first) where
  one_again : (a : A) → IsProper (part a) → (i j : Input) → Begins (token (part a) ∷ []) i j → Accepts (one table) (one_shape part first) a i j
  one_again a h i j b = let e = r.known a h in record { value = a; is = rw (b.0.0, e, b.1) refl; same = refl }

  one_good : Good n (one table) (one_shape part first)
  one_good = record {
    sound = λ i a j h.
        let t = take_some (table (kind i)) i a j h in
        let f = r.found (kind i) a t.0 in
        record {
          takes = (f, t.1);
          fits = tt;
          deep = tt;
          again = λ i' j' b e. one_again a f.1 i' j' b;
          before = λ tail. record { start = before (part a) tail; begins = ((refl, f.1), refl) };
        };
    complete = λ i a j fits d t c. let e = r.known a t.0.1 in rw (t.0.0, e, t.1) refl;
    accepts = λ i a j fits d b c. one_again a b.0.1 i j b;
    opening = λ i a j at fits b c g. absurd g;
    front = λ i a j F t h. rw t.0.0 (r.starts a t.0.1);
    closing = λ a k h. tt;
    sample = λ tail h. record {
      whole = before (part r.sample) tail;
      value = r.sample;
      takes = ((refl, r.proper), refl);
      starts = λ F k. r.starts r.sample r.proper;
    };
  }

  one_fail : (i : Input) → table (kind i) ≡ None → Fails n (one table) (one_shape part first) i (syntax (place_at i))
  one_fail i t = record {
    front = [];
    stop = i;
    begins = refl;
    position = refl;
    again = λ j m b e. let same : kind j ≡ kind i = ap kind b ∙ e in record { fault = syntax (place_at j); is = rw (same, t) refl; like = refl; position = ap place_at b };
    viable = λ tail h. record {
      whole = before (part r.sample) tail;
      mid = before (part r.sample) tail;
      value = r.sample;
      begins = refl;
      takes = ((refl, r.proper), refl);
      starts = λ F k. r.starts r.sample r.proper;
    };
  }

  one_fails : AllFail n (one table) (one_shape part first)
  one_fails i e h = let t = take_none (table (kind i)) i e h in subst (λ x. Fails n (one table) (one_shape part first) i x) t.1 (one_fail i t.0)

  pub one_law_of : Law n (one table) (one table) (one_shape part first)
  one_law_of = record { good = one_good; fails = one_fails; more = λ i d. refl; fit = λ a. tt }

pub one_law : {A : Type 0} {n : ℕ} {table : Option Kind → Option A} {part : A → Part} {first : Option Kind → Type 0} → Reads table part first → Law n (one table) (one table) (one_shape part first)
one_law {A} {n} {table} {part} {first} r = one_law_of n table part first r

-- ---- one phrase behind another

abbrev pub pair : {A B : Type 0} → Parser A → Parser B → Parser (A × B)
pair p q = p >>= (λ a. q >>= (λ b. pure (a, b)))

abbrev pub pair_shape : {A B : Type 0} → Shape A → Shape B → Shape (A × B)
pair_shape s t = record {
  marks = λ c. s.marks c.0 ++ t.marks c.1;
  Tag = s.Tag × t.Tag;
  tag = λ c. (s.tag c.0, t.tag c.1);
  fits = λ c. s.fits c.0 × t.fits c.1;
  ends = λ x. t.ends x.1;
  closes = t.closes;
  begins = λ F. s.begins (t.begins F);
}

-- wherever the second begins, the first stops
abbrev pub Meets : {A B : Type 0} → Shape A → Shape B → Type 0
Meets {A} {B} s t = (x : t.Tag) (k : Option Kind) → t.begins (t.ends x) k → s.closes k

module _ {A B : Type 0} (n : ℕ) (p : Parser A) (s : Shape A) (q : Parser B) (t : Shape B) (P : Good n p s) (Q : Good n q t) (meets : Meets s t) where
  -- where the second is read, the first stops
  stops_there : (i : Input) (b : B) (j : Input) → Begins (t.marks b) i j → t.ends (t.tag b) (kind j) → s.closes (kind i)
  stops_there i b j h e = meets (t.tag b) (kind i) (Q.front i b j (t.ends (t.tag b)) h e)

  -- each part of what fits does
  pair_fits : (a : A) (b : B) → Fits n (s.marks a ++ t.marks b) → Fits n (s.marks a) × Fits n (t.marks b)
  pair_fits a b f = fits_split n (s.marks a) (t.marks b) f

  -- where the second may stand, the first stops
  stops_before : (b : B) (i tail : Input) → ((F : Option Kind → Type 0) → F (kind tail) → t.begins F (kind i)) → t.closes (kind tail) → s.closes (kind i)
  stops_before b i tail starts h = meets (t.tag b) (kind i) (starts (t.ends (t.tag b)) (Q.closing (t.tag b) (kind tail) h))

  pair_ok : (i : Input) (a : A) (m : Input) (b : B) (j : Input) → p i ≡ Ok (a, m) → q m ≡ Ok (b, j) → pair p q i ≡ Ok ((a, b), j)
  pair_ok i a m b j h k = rw (h, k) refl

  pair_sound : (i : Input) (a : A) (m : Input) (b : B) (j : Input) → Sound p s n i a m → Sound q t n m b j → Sound (pair p q) (pair_shape s t) n i (a, b) j
  pair_sound i a m b j x y = record {
    takes = takes_join (s.marks a) (t.marks b) i m j x.takes y.takes;
    fits = (x.fits, y.fits);
    deep = fits_join n (s.marks a) (t.marks b) x.deep y.deep;
    again = λ i' j' h e.
        let w = begins_split (s.marks a) (t.marks b) i' j' h in
        let same = same_front (t.marks b) m j w.mid j' (takes_begins (t.marks b) m j y.takes) w.back e in
        let first = x.again i' w.mid w.front same in
        let second = y.again w.mid j' w.back e in
        record { value = (first.value, second.value); is = pair_ok i' first.value w.mid second.value j' first.is second.is; same = pair_eq first.same second.same };
    before = λ tail.
        let second = y.before tail in
        let first = x.before second.start in
        record { start = first.start; begins = begins_join (s.marks a) (t.marks b) first.start second.start tail first.begins second.begins };
  }

  -- the first token too many stands in the first part or in the second
  pair_opening : (i : Input) (a : A) (m : Input) (b : B) (at : ℕ) → (Beyond n (s.marks a) i at → p i ≡ Err (too_deep at)) → (Fits n (s.marks a) → Accepts p s a i m) → (Beyond n (t.marks b) m at → q m ≡ Err (too_deep at)) →
      Beyond n (s.marks a) i at ⊎ (Fits n (s.marks a) × Beyond n (t.marks b) m at) → pair p q i ≡ Err (too_deep at)
  pair_opening i a m b at f g h (inl x) = let e = f x in rw e refl
  pair_opening i a m b at f g h (inr x) = let c = g x.0 in let first = c.is in let second = h x.1 in rw (first, second) refl

  pub pair_good : Good n (pair p q) (pair_shape s t)
  pair_good = record {
    sound = λ i c j h.
        let w = bind_ok (p i) (λ a. q >>= (λ b. pure (a, b))) c j h in
        let v = bind_ok (q w.mid) (λ b. pure (w.value, b)) c j w.second in
        let both = pair_sound i w.value w.mid v.value v.mid (P.sound i w.value w.mid w.first) (Q.sound w.mid v.value v.mid v.first) in
        subst (λ (x : (A × B) × Input). Sound (pair p q) (pair_shape s t) n i x.0 x.1) (ok_one v.second) both;
    complete = λ i c j fits d h e.
        let w = takes_split (s.marks c.0) (t.marks c.1) i j h in
        let f = pair_fits c.0 c.1 d in
        let first = P.complete i c.0 w.mid fits.0 f.0 w.front (P.closing (s.tag c.0) (kind w.mid) (stops_there w.mid c.1 j (takes_begins (t.marks c.1) w.mid j w.back) e)) in
        pair_ok i c.0 w.mid c.1 j first (Q.complete w.mid c.1 j fits.1 f.1 w.back e);
    accepts = λ i c j fits d h e.
        let w = begins_split (s.marks c.0) (t.marks c.1) i j h in
        let f = pair_fits c.0 c.1 d in
        let second = Q.accepts w.mid c.1 j fits.1 f.1 w.back e in
        let first = P.accepts i c.0 w.mid fits.0 f.0 w.front (P.closing (s.tag c.0) (kind w.mid) (stops_there w.mid c.1 j w.back e)) in
        record { value = (first.value, second.value); is = pair_ok i first.value w.mid second.value j first.is second.is; same = pair_eq first.same second.same };
    opening = λ i c j at fits h e g.
        let w = begins_split (s.marks c.0) (t.marks c.1) i j h in
        let stops = P.closing (s.tag c.0) (kind w.mid) (stops_there w.mid c.1 j w.back e) in
        pair_opening i c.0 w.mid c.1 at (λ x. P.opening i c.0 w.mid at fits.0 w.front stops x) (λ x. P.accepts i c.0 w.mid fits.0 x w.front stops) (λ x. Q.opening w.mid c.1 j at fits.1 w.back e x)
        (beyond_split n (s.marks c.0) (t.marks c.1) i w.mid at w.front g);
    front = λ i c j F h e.
        let w = begins_split (s.marks c.0) (t.marks c.1) i j h in
        P.front i c.0 w.mid (t.begins F) w.front (Q.front w.mid c.1 j F w.back e);
    closing = λ x k h. Q.closing x.1 k h;
    sample = λ tail h.
        let b = Q.sample tail h in
        let a = P.sample b.whole (stops_before b.value b.whole tail b.starts h) in
        record {
          whole = a.whole;
          value = (a.value, b.value);
          takes = takes_join (s.marks a.value) (t.marks b.value) a.whole b.whole tail a.takes b.takes;
          starts = λ F k. a.starts (t.begins F) (b.starts F k);
        };
  }

  -- the first part fails
  first_fails : (i : Input) (e : Stop) → Fails n p s i e → Fails n (pair p q) (pair_shape s t) i e
  first_fails i e f = record {
    front = f.front;
    stop = f.stop;
    begins = f.begins;
    position = f.position;
    again = λ j m b c. let x = f.again j m b c in record { fault = x.fault; is = rw x.is refl; like = x.like; position = x.position };
    viable = λ tail h.
        let b = Q.sample tail h in
        let a = f.viable b.whole (stops_before b.value b.whole tail b.starts h) in
        record {
          whole = a.whole;
          mid = a.mid;
          value = (a.value, b.value);
          begins = a.begins;
          takes = takes_join (s.marks a.value) (t.marks b.value) a.whole b.whole tail a.takes b.takes;
          starts = λ F k. a.starts (t.begins F) (b.starts F k);
        };
  }

  -- the second part fails
  second_fails : (i : Input) (a : A) (m : Input) (e : Stop) → p i ≡ Ok (a, m) → Fails n q t m e → Fails n (pair p q) (pair_shape s t) i e
  second_fails i a m e h f =
      let read = P.sound i a m h in
      let taken = takes_begins (s.marks a) i m read.takes in
      record {
        front = s.marks a ++ f.front;
        stop = f.stop;
        begins = begins_join (s.marks a) f.front i m f.stop taken f.begins;
        position = position_join e (s.marks a) f.front i m f.stop taken f.position;
        again = λ j l b c.
            let w = begins_split (s.marks a) f.front j l b in
            let same = stop_front e f.front m f.stop w.mid l m f.stop f.position f.begins w.back c in
            let x = read.again j w.mid w.front same in
            let y = f.again w.mid l w.back c in
            record { fault = y.fault; is = rw (x.is, y.is) refl; like = y.like; position = position_join y.fault (s.marks a) f.front j w.mid l w.front y.position };
        viable = λ tail h.
            let b = f.viable tail h in
            let put = read.before b.whole in
            let x = P.accepts put.start a b.whole read.fits read.deep put.begins (P.closing (s.tag a) (kind b.whole) (stops_before b.value b.whole tail b.starts h)) in
            let again = P.sound put.start x.value b.whole x.is in
            record {
              whole = put.start;
              mid = b.mid;
              value = (x.value, b.value);
              begins = begins_join (s.marks a) f.front put.start b.whole b.mid put.begins b.begins;
              takes = takes_join (s.marks x.value) (t.marks b.value) put.start b.whole tail again.takes b.takes;
              starts = λ F k. P.front put.start x.value b.whole (t.begins F) (takes_begins (s.marks x.value) put.start b.whole again.takes) (b.starts F k);
            };
      }

  pair_broke : (i : Input) (e : Stop) → (p i ≡ Err e → Fails n p s i e) → ((a : A) (m : Input) → p i ≡ Ok (a, m) → q m ≡ Err e → Fails n q t m e) →
      (p i ≡ Err e) ⊎ Broke {B = A × B} (p i) (λ a. q >>= (λ b. pure (a, b))) e → Fails n (pair p q) (pair_shape s t) i e
  pair_broke i e f g (inl h) = first_fails i e (f h)
  pair_broke i e f g (inr w) = second_broke (bind_err (q w.mid) (λ b. pure (w.value, b)) e w.second) where
    second_broke : (q w.mid ≡ Err e) ⊎ Broke {B = A × B} (q w.mid) (λ b. pure (w.value, b)) e → Fails n (pair p q) (pair_shape s t) i e
    second_broke (inl h) = second_fails i w.value w.mid e w.first (g w.value w.mid w.first h)
    second_broke (inr v) = absurd (ok_not_err v.second)

  -- where it fails, a part fails
  pub pair_fails_at : (i : Input) (e : Stop) → (p i ≡ Err e → Fails n p s i e) → ((a : A) (m : Input) → p i ≡ Ok (a, m) → q m ≡ Err e → Fails n q t m e) → pair p q i ≡ Err e → Fails n (pair p q) (pair_shape s t) i e
  pair_fails_at i e f g h = pair_broke i e f g (bind_err (p i) (λ a. q >>= (λ b. pure (a, b))) e h)

  pub pair_fails : AllFail n p s → AllFail n q t → AllFail n (pair p q) (pair_shape s t)
  pair_fails f g i e h = pair_fails_at i e (f i e) (λ a m c. g m e) h

pub pair_more : {A B : Type 0} (p p' : Parser A) (q q' : Parser B) → More p p' → More q q' → More (pair p q) (pair p' q')
pair_more p p' q q' h k i = more_bind (p i) (p' i) (λ a. q >>= (λ b. pure (a, b))) (λ a. q' >>= (λ b. pure (a, b))) (h i)
    (λ a j. more_bind (q j) (q' j) (λ b. pure (a, b)) (λ b. pure (a, b)) (k j) (λ b l d. refl))

pub pair_law : {A B : Type 0} {n : ℕ} {p p' : Parser A} {s : Shape A} {q q' : Parser B} {t : Shape B} → Law n p p' s → Law n q q' t → Meets s t → Law n (pair p q) (pair p' q') (pair_shape s t)
pair_law {A} {B} {n} {p} {p'} {s} {q} {q'} {t} P Q meets = record {
  good = pair_good n p s q t P.good Q.good meets;
  fails = pair_fails n p s q t P.good Q.good meets P.fails Q.fails;
  more = pair_more p p' q q' P.more Q.more;
  fit = λ c. (P.fit c.0, Q.fit c.1);
}
