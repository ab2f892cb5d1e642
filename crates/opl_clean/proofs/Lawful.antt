-- What holds of what is found, and truths that follow from each other.
use Rattle.std.proofs.Common.{◌≡◌, Bool, true, false, ◌&&◌, ◌||◌, not, Ok, Err, refl, subst, sym}
use Rattle.opl_type_rules.specs.declared.fault.TypeFault.{TypeFault}
use Rattle.opl_type_rules.specs.Scope.{Checked, and_then, unless}

-- of what is found this holds; of a fault nothing is said
unfoldable pub Holds : {A : Type 0} → (A → Type 0) → Checked A → Type 0
Holds P (Ok a) = P a
Holds P (Err e) = Unit {0}

pub ok : {A : Type 0} (P : A → Type 0) (a : A) → P a → Holds P (Ok a)
unfolding Holds
ok P a h = h

pub fault : {A : Type 0} (P : A → Type 0) (e : TypeFault) → Holds P (Err e)
unfolding Holds
fault P e = tt

pub then : {A B : Type 0} (P : A → Type 0) (Q : B → Type 0) (c : Checked A) (f : A → Checked B) → Holds P c → ((a : A) → P a → Holds Q (f a)) → Holds Q (and_then c f)
unfolding Holds
then P Q (Ok a) f h g = g a h
then P Q (Err e) f h g = tt

pub weaker : {A : Type 0} (P Q : A → Type 0) (c : Checked A) → Holds P c → ((a : A) → P a → Q a) → Holds Q c
unfolding Holds
weaker P Q (Ok a) h g = g a h
weaker P Q (Err e) h g = tt

pub always : {A : Type 0} (P : A → Type 0) (c : Checked A) → ((a : A) → P a) → Holds P c
unfolding Holds
always P (Ok a) h = h a
always P (Err e) h = tt

-- behind a fault nothing is said
pub nothing_found : {A B : Type 0} (Q : B → Type 0) (c : Checked A) (e : TypeFault) → Holds Q (and_then c (λ a. Err e))
unfolding Holds
nothing_found Q (Ok a) e = tt
nothing_found Q (Err d) e = tt

pub unless_holds : (b : Bool) (e : TypeFault) → Holds (λ u. b ≡ true) (unless b e)
unfolding Holds
unless_holds true e = refl
unless_holds false e = tt

-- what holds of what is found, at the value that is found
pub at_ok : {A : Type 0} (P : A → Type 0) (c : Checked A) (a : A) → c ≡ Ok a → Holds P c → P a
unfolding Holds
at_ok P c a is h = subst (λ d. Holds P d) is h

-- ---- truths

abbrev pub Gives : Bool → Bool → Type 0
Gives a b = a ≡ true → b ≡ true

pub left : (a b : Bool) → (a && b) ≡ true → a ≡ true
left true b h = refl
left false b h = h

pub right : (a b : Bool) → (a && b) ≡ true → b ≡ true
right true b h = h
right false b h = absurd (cc)

pub or_gives : (a b c d : Bool) → Gives a c → Gives b d → Gives (a || b) (c || d)
or_gives true b true d f g h = refl
or_gives true b false d f g h = absurd (let k = f refl in cc)
or_gives false b true d f g h = refl
or_gives false b false d f g h = g h

-- a single part
pub one_gives : (a c : Bool) → Gives a c → Gives a (c || false)
one_gives a true f h = refl
one_gives a false f h = f h

pub not_true : (a : Bool) → not a ≡ true → a ≡ false
not_true true h = absurd (cc)
not_true false h = refl

-- what would give what is false is false
pub none_given : (a b : Bool) → Gives a b → b ≡ false → a ≡ false
none_given true b f h = absurd (let k = f refl in cc)
none_given false b f h = refl

pub neither : (a b : Bool) → a ≡ false → b ≡ false → (a || b) ≡ false
neither a b p q = rw p q

pub second_gives : (a b c : Bool) → a ≡ false → Gives b c → Gives (a || b) c
second_gives true b c p f h = absurd (cc)
second_gives false b c p f h = f h

pub first_gives : (a b c : Bool) → b ≡ false → Gives a c → Gives (a || b) c
first_gives true b c p f h = f refl
first_gives false b c p f h = absurd (cc)

pub both : (a b : Bool) → a ≡ true → b ≡ true → (a && b) ≡ true
both true b p q = q
both false b p q = absurd (cc)

pub not_false : (a : Bool) → a ≡ false → not a ≡ true
not_false true h = absurd (cc)
not_false false h = refl
