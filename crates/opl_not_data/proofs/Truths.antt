-- Truths that follow from each other.
use Rattle.std.proofs.Common.{◌≡◌, ◌⊎◌, inl, inr, Bool, true, false, ◌&&◌, ◌||◌, not, refl, ap, ◌∙◌}

abbrev pub Gives : Bool → Bool → Type 0
Gives a b = a ≡ true → b ≡ true

-- one of two is true
abbrev pub Either : Bool → Bool → Type 0
Either a b = (a ≡ true) ⊎ (b ≡ true)

pub or_gives : (a b c d : Bool) → Gives a c → Gives b d → Gives (a || b) (c || d)
or_gives true b true d f g h = refl
or_gives true b false d f g h = absurd (let k = f refl in cc)
or_gives false b true d f g h = refl
or_gives false b false d f g h = g h

or_left : (a b : Bool) → a ≡ true → (a || b) ≡ true
or_left true b h = refl
or_left false b h = absurd (cc)

or_right : (a b : Bool) → b ≡ true → (a || b) ≡ true
or_right true b h = refl
or_right false b h = h

pub first_of : {a b : Bool} (c d : Bool) → Either a b → Either (a || c) (b || d)
first_of {a} {b} c d (inl h) = inl (or_left a c h)
first_of {a} {b} c d (inr h) = inr (or_left b d h)

pub second_of : {c d : Bool} (a b : Bool) → Either c d → Either (a || c) (b || d)
second_of {c} {d} a b (inl h) = inl (or_right a c h)
second_of {c} {d} a b (inr h) = inr (or_right b d h)

pub either_or : (a b : Bool) → Either a b → (a || b) ≡ true
either_or a b (inl h) = or_left a b h
either_or a b (inr h) = or_right a b h

-- alone
pub or_none : (b : Bool) → (b || false) ≡ b
or_none true = refl
or_none false = refl

pub link : {a b c d : Bool} → a ≡ c → b ≡ d → (a || b) ≡ (c || d)
link p q = λ i. p i || q i

pub and_left : (a b : Bool) → (a && b) ≡ true → a ≡ true
and_left true b h = refl
and_left false b h = h

pub and_right : (a b : Bool) → (a && b) ≡ true → b ≡ true
and_right true b h = h
and_right false b h = absurd (cc)

pub not_true : (a : Bool) → not a ≡ true → a ≡ false
not_true true h = absurd (cc)
not_true false h = refl

pub neither : (a b : Bool) → a ≡ false → b ≡ false → (a || b) ≡ false
neither a b p q = ap (λ x. x || b) p ∙ q

-- what is not without both has one of them
pub not_without : (a b : Bool) → (not a && not b) ≡ false → Either a b
not_without true b h = inl refl
not_without false true h = inr refl
not_without false false h = absurd (cc)

pub with_one : (a b : Bool) → (a || b) ≡ true → (not a && not b) ≡ false
with_one true b h = refl
with_one false true h = refl
with_one false false h = absurd (cc)

pub first_false : (a b : Bool) → a ≡ false → (a && b) ≡ false
first_false a b h = ap (λ x. x && b) h

pub second_fails : (a b : Bool) → (not a || b) ≡ false → b ≡ false
second_fails true b h = h
second_fails false b h = absurd (cc)

pub one_fails : (a b : Bool) → (a && b) ≡ false → (a ≡ false) ⊎ (b ≡ false)
one_fails true b h = inr h
one_fails false b h = inl refl
