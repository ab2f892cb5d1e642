-- Input that begins with what marks write.
use Rattle.std.proofs.Common.{◌≡◌, ℕ, ◌<◌, ◌≤◌, Bool, true, false, List, [], ◌∷◌, ◌++◌, length, drop, Option, Some, refl, sym, ap, ◌∙◌, subst, arith, length-drop, append_assoc}
use Rattle.opl_token.specs.declared.sign.Sign.TheVariants.{OpenBrace}
use Rattle.opl_token.specs.declared.token.Kind.{Kind}
use Rattle.opl_token.specs.declared.token.Token.{Token}
use Rattle.opl_tree.specs.Marks.{Part, Mark, place, token, unbraced, opens}
use Rattle.opl_tree.specs.Spelling.{kind_of, IsProper}
use Rattle.opl_grammar.specs.Input.{Input, Stop, syntax, too_deep, first_kind, kind, next, left, is_sign, place as place_at}

-- the next token is this part
abbrev pub IsAt : Part → Input → Type 0
IsAt p i = (kind i ≡ Some (kind_of p)) × IsProper p

-- the next token is no `{`
abbrev pub IsUnbraced : Option Kind → Type 0
IsUnbraced k = is_sign OpenBrace k ≡ false

-- the input begins with the marks, each place is that of the token there, and j is left
abbrev pub Takes : List Mark → Input → Input → Type 0
Takes [] i j = i ≡ j
Takes (place at ∷ ms) i j = (place_at i ≡ at) × Takes ms i j
Takes (token p ∷ ms) i j = IsAt p i × Takes ms (next i) j
Takes (unbraced ∷ ms) i j = IsUnbraced (kind i) × Takes ms i j
Takes (opens k ∷ ms) i j = Takes ms i j

-- the same, whatever the places are
abbrev pub Begins : List Mark → Input → Input → Type 0
Begins [] i j = i ≡ j
Begins (place at ∷ ms) i j = Begins ms i j
Begins (token p ∷ ms) i j = IsAt p i × Begins ms (next i) j
Begins (unbraced ∷ ms) i j = IsUnbraced (kind i) × Begins ms i j
Begins (opens k ∷ ms) i j = Begins ms i j

pub record Split (ms ns : List Mark) (i j : Input) : Type 0 where
  pub mid : Input
  pub front : Takes ms i mid
  pub back : Takes ns mid j

pub takes_split : (ms ns : List Mark) (i j : Input) → Takes (ms ++ ns) i j → Split ms ns i j
takes_split [] ns i j t = record { mid = i; front = refl; back = t }
takes_split (place at ∷ ms) ns i j t =
    let s = takes_split ms ns i j t.1 in record { mid = s.mid; front = (t.0, s.front); back = s.back }
takes_split (token p ∷ ms) ns i j t =
    let s = takes_split ms ns (next i) j t.1 in record { mid = s.mid; front = (t.0, s.front); back = s.back }
takes_split (unbraced ∷ ms) ns i j t =
    let s = takes_split ms ns i j t.1 in record { mid = s.mid; front = (t.0, s.front); back = s.back }
takes_split (opens k ∷ ms) ns i j t =
    let s = takes_split ms ns i j t in record { mid = s.mid; front = s.front; back = s.back }

pub takes_join : (ms ns : List Mark) (i m j : Input) → Takes ms i m → Takes ns m j → Takes (ms ++ ns) i j
takes_join [] ns i m j s t = subst (λ x. Takes ns x j) (sym s) t
takes_join (place at ∷ ms) ns i m j s t = (s.0, takes_join ms ns i m j s.1 t)
takes_join (token p ∷ ms) ns i m j s t = (s.0, takes_join ms ns (next i) m j s.1 t)
takes_join (unbraced ∷ ms) ns i m j s t = (s.0, takes_join ms ns i m j s.1 t)
takes_join (opens k ∷ ms) ns i m j s t = takes_join ms ns i m j s t

pub takes_begins : (ms : List Mark) (i j : Input) → Takes ms i j → Begins ms i j
takes_begins [] i j t = t
takes_begins (place at ∷ ms) i j t = takes_begins ms i j t.1
takes_begins (token p ∷ ms) i j t = (t.0, takes_begins ms (next i) j t.1)
takes_begins (unbraced ∷ ms) i j t = (t.0, takes_begins ms i j t.1)
takes_begins (opens k ∷ ms) i j t = takes_begins ms i j t

pub record BeginSplit (ms ns : List Mark) (i j : Input) : Type 0 where
  pub mid : Input
  pub front : Begins ms i mid
  pub back : Begins ns mid j

pub begins_split : (ms ns : List Mark) (i j : Input) → Begins (ms ++ ns) i j → BeginSplit ms ns i j
begins_split [] ns i j t = record { mid = i; front = refl; back = t }
begins_split (place at ∷ ms) ns i j t =
    let s = begins_split ms ns i j t in record { mid = s.mid; front = s.front; back = s.back }
begins_split (token p ∷ ms) ns i j t =
    let s = begins_split ms ns (next i) j t.1 in record { mid = s.mid; front = (t.0, s.front); back = s.back }
begins_split (unbraced ∷ ms) ns i j t =
    let s = begins_split ms ns i j t.1 in record { mid = s.mid; front = (t.0, s.front); back = s.back }
begins_split (opens k ∷ ms) ns i j t =
    let s = begins_split ms ns i j t in record { mid = s.mid; front = s.front; back = s.back }

pub begins_join : (ms ns : List Mark) (i m j : Input) → Begins ms i m → Begins ns m j → Begins (ms ++ ns) i j
begins_join [] ns i m j s t = subst (λ x. Begins ns x j) (sym s) t
begins_join (place at ∷ ms) ns i m j s t = begins_join ms ns i m j s t
begins_join (token p ∷ ms) ns i m j s t = (s.0, begins_join ms ns (next i) m j s.1 t)
begins_join (unbraced ∷ ms) ns i m j s t = (s.0, begins_join ms ns i m j s.1 t)
begins_join (opens k ∷ ms) ns i m j s t = begins_join ms ns i m j s t

-- inputs that begin alike begin with the same token
pub same_front : (ms : List Mark) (i m i' m' : Input) → Begins ms i m → Begins ms i' m' → kind m' ≡ kind m → kind i' ≡ kind i
same_front [] i m i' m' s t e = ap kind t ∙ (e ∙ sym (ap kind s))
same_front (place at ∷ ms) i m i' m' s t e = same_front ms i m i' m' s t e
same_front (token p ∷ ms) i m i' m' s t e = t.0.0 ∙ sym s.0.0
same_front (unbraced ∷ ms) i m i' m' s t e = same_front ms i m i' m' s.1 t.1 e
same_front (opens k ∷ ms) i m i' m' s t e = same_front ms i m i' m' s t e

-- ---- how many tokens are left

pub next_left : (i : Input) (k : Kind) → kind i ≡ Some k → left (next i) < left i
next_left i k h = next_left_of i.tokens k h where
  next_left_of : (ts : List Token) (k : Kind) → first_kind ts ≡ Some k → length (drop 1 ts) < length ts
  next_left_of [] k h = cc
  next_left_of (t ∷ ts) k h = omega arith

pub next_left_le : (i : Input) → left (next i) ≤ left i
next_left_le i = omega (arith, length-drop 1 i.tokens)

pub begins_left : (ms : List Mark) (i j : Input) → Begins ms i j → left j ≤ left i
begins_left [] i j h = let e : left i ≡ left j = ap left h in omega arith
begins_left (place at ∷ ms) i j h = begins_left ms i j h
begins_left (token p ∷ ms) i j h = let r = begins_left ms (next i) j h.1 in let n = next_left_le i in omega arith
begins_left (unbraced ∷ ms) i j h = begins_left ms i j h.1
begins_left (opens k ∷ ms) i j h = begins_left ms i j h

-- some token is written, and this is the first
abbrev pub Writes : Part → List Mark → Type 0
Writes p [] = ⊥
Writes p (place at ∷ ms) = Writes p ms
Writes p (token q ∷ ms) = q ≡ p
Writes p (unbraced ∷ ms) = Writes p ms
Writes p (opens k ∷ ms) = Writes p ms

pub record Written (ms : List Mark) : Type 0 where
  pub first : Part
  pub is : Writes first ms

pub writes_kind : (p : Part) (ms : List Mark) (i j : Input) → Writes p ms → Begins ms i j → kind i ≡ Some (kind_of p)
writes_kind p [] i j w h = absurd w
writes_kind p (place at ∷ ms) i j w h = writes_kind p ms i j w h
writes_kind p (token q ∷ ms) i j w h = h.0.0 ∙ ap (λ x. Some (kind_of x)) w
writes_kind p (unbraced ∷ ms) i j w h = writes_kind p ms i j w h.1
writes_kind p (opens k ∷ ms) i j w h = writes_kind p ms i j w h

pub begins_less : (ms : List Mark) (i j : Input) → Written ms → Begins ms i j → left j < left i
begins_less ms i j w h = less ms i j w.is h where
  less : (ns : List Mark) (i j : Input) → Writes w.first ns → Begins ns i j → left j < left i
  less [] i j w h = absurd w
  less (place at ∷ ns) i j w h = less ns i j w h
  less (token q ∷ ns) i j w h = let r = begins_left ns (next i) j h.1 in let n = next_left i (kind_of q) h.0.0 in omega arith
  less (unbraced ∷ ns) i j w h = less ns i j w h.1
  less (opens k ∷ ns) i j w h = less ns i j w h

writes_behind : (p : Part) (ms ns : List Mark) → Writes p ms → Writes p (ms ++ ns)
writes_behind p [] ns w = absurd w
writes_behind p (place at ∷ ms) ns w = writes_behind p ms ns w
writes_behind p (token q ∷ ms) ns w = w
writes_behind p (unbraced ∷ ms) ns w = writes_behind p ms ns w
writes_behind p (opens k ∷ ms) ns w = writes_behind p ms ns w

-- what begins with something written is written
pub written_behind : (ms ns : List Mark) → Written ms → Written (ms ++ ns)
written_behind ms ns w = record { first = w.first; is = writes_behind w.first ms ns w.is }

-- ---- why a reader stops

abbrev pub is_deep : Stop → Bool
is_deep (syntax at) = false
is_deep (too_deep at) = true

-- the front ends with a token, which stands at `at`
pub record Last (front : List Mark) (i : Input) (at : ℕ) : Type 0 where
  pub before : List Mark
  pub part : Part
  pub mid : Input
  pub is : front ≡ before ++ token part ∷ []
  pub begins : Begins before i mid
  pub place : at ≡ place_at mid

-- where it stops: at the token behind the front, or at the front's last
abbrev pub Position : Stop → List Mark → Input → Input → Type 0
Position (syntax at) front i stop = at ≡ place_at stop
Position (too_deep at) front i stop = Last front i at

-- another input stops alike: with the same token, or whatever comes
abbrev pub Next : Stop → Input → Input → Type 0
Next (syntax at) m stop = kind m ≡ kind stop
Next (too_deep at) m stop = Unit {0}

pub last_join : (ms ns : List Mark) (i m : Input) (at : ℕ) → Begins ms i m → Last ns m at → Last (ms ++ ns) i at
last_join ms ns i m at b l = record {
  before = ms ++ l.before;
  part = l.part;
  mid = l.mid;
  is = ap (λ xs. ms ++ xs) l.is ∙ sym (append_assoc ms l.before (token l.part ∷ []));
  begins = begins_join ms l.before i m l.mid b l.begins;
  place = l.place;
}

pub position_join : (e : Stop) (ms ns : List Mark) (i m stop : Input) → Begins ms i m → Position e ns m stop → Position e (ms ++ ns) i stop
position_join (syntax at) ms ns i m stop b p = p
position_join (too_deep at) ms ns i m stop b p = last_join ms ns i m at b p

-- what begins with the front of a stop begins with the same token
pub stop_front : (e : Stop) (front : List Mark) (i stop i' stop' j m : Input) → Position e front j m → Begins front i stop → Begins front i' stop' → Next e stop' stop → kind i' ≡ kind i
stop_front (syntax at) front i stop i' stop' j m p b c e = same_front front i stop i' stop' b c e
stop_front (too_deep at) front i stop i' stop' j m p b c e =
    let s = begins_split p.before (token p.part ∷ []) i stop (subst (λ ms. Begins ms i stop) p.is b) in
    let s' = begins_split p.before (token p.part ∷ []) i' stop' (subst (λ ms. Begins ms i' stop') p.is c) in
    same_front p.before i s.mid i' s'.mid s.front s'.front (s'.back.0.0 ∙ sym s.back.0.0)

-- the part, and then the tail
abbrev pub before : Part → Input → Input
before p tail = record { tokens = record { kind = kind_of p; at = 0 } ∷ tail.tokens; end = tail.end }
