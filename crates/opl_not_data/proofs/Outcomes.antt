-- What holds of what is found, and where something is no data.
use Rattle.std.proofs.Common.{◌≡◌, ℕ, Bool, true, false, Ok, Err, refl, subst}
use Rattle.opl_type_rules.specs.declared.fault.TypeFault.{TypeFault}
use Rattle.opl_type_rules.specs.declared.fault.TypeFault.TheVariants.{Unknown, Duplicate, Mismatch, NotData, OutOfMemory}
use Rattle.opl_type_rules.specs.Scope.{Checked, and_then, unless}

-- the first holds of what is found, the second where the fault is that something is no data
unfoldable pub Outcome : {A : Type 0} → (A → Type 0) → (ℕ → Type 0) → Checked A → Type 0
Outcome P Q (Ok a) = P a
Outcome P Q (Err (NotData at)) = Q at
Outcome P Q (Err (Unknown at)) = Unit {0}
Outcome P Q (Err (Duplicate at)) = Unit {0}
Outcome P Q (Err (Mismatch at)) = Unit {0}
Outcome P Q (Err OutOfMemory) = Unit {0}

pub ok : {A : Type 0} (P : A → Type 0) (Q : ℕ → Type 0) (a : A) → P a → Outcome P Q (Ok a)
unfolding Outcome
ok P Q a h = h

pub unknown : {A : Type 0} (P : A → Type 0) (Q : ℕ → Type 0) (at : ℕ) → Outcome P Q (Err (Unknown at))
unfolding Outcome
unknown P Q at = tt

pub mismatch : {A : Type 0} (P : A → Type 0) (Q : ℕ → Type 0) (at : ℕ) → Outcome P Q (Err (Mismatch at))
unfolding Outcome
mismatch P Q at = tt

pub then : {A B : Type 0} (P : A → Type 0) (Q : ℕ → Type 0) (S : B → Type 0) (R : ℕ → Type 0) (c : Checked A) (f : A → Checked B) → Outcome P Q c → ((at : ℕ) → Q at → R at) → ((a : A) → P a → Outcome S R (f a)) → Outcome S R (and_then c f)
unfolding Outcome
then P Q S R (Ok a) f h q g = g a h
then P Q S R (Err (NotData at)) f h q g = q at h
then P Q S R (Err (Unknown at)) f h q g = tt
then P Q S R (Err (Duplicate at)) f h q g = tt
then P Q S R (Err (Mismatch at)) f h q g = tt
then P Q S R (Err OutOfMemory) f h q g = tt

pub weaker : {A : Type 0} (P : A → Type 0) (Q : ℕ → Type 0) (S : A → Type 0) (R : ℕ → Type 0) (c : Checked A) → Outcome P Q c → ((at : ℕ) → Q at → R at) → ((a : A) → P a → S a) → Outcome S R c
unfolding Outcome
weaker P Q S R (Ok a) h q g = g a h
weaker P Q S R (Err (NotData at)) h q g = q at h
weaker P Q S R (Err (Unknown at)) h q g = tt
weaker P Q S R (Err (Duplicate at)) h q g = tt
weaker P Q S R (Err (Mismatch at)) h q g = tt
weaker P Q S R (Err OutOfMemory) h q g = tt

-- a fault, of another type
pub same_fault : {A B : Type 0} (P : A → Type 0) (Q : ℕ → Type 0) (S : B → Type 0) (R : ℕ → Type 0) (e : TypeFault) → Outcome P Q (Err e) → ((at : ℕ) → Q at → R at) → Outcome S R (Err e)
unfolding Outcome
same_fault P Q S R (NotData at) h q = q at h
same_fault P Q S R (Unknown at) h q = tt
same_fault P Q S R (Duplicate at) h q = tt
same_fault P Q S R (Mismatch at) h q = tt
same_fault P Q S R OutOfMemory h q = tt

pub unless_data : (b : Bool) (at : ℕ) → Outcome (λ u. b ≡ true) (λ place. (b ≡ false) × (at ≡ place)) (unless b (NotData at))
unfolding Outcome
unless_data true at = refl
unless_data false at = (refl, refl)

pub unless_known : (b : Bool) (at : ℕ) → Outcome (λ u. b ≡ true) (λ place. ⊥) (unless b (Unknown at))
unfolding Outcome
unless_known true at = refl
unless_known false at = tt

pub unless_new : (b : Bool) (at : ℕ) → Outcome (λ u. b ≡ true) (λ place. ⊥) (unless b (Duplicate at))
unfolding Outcome
unless_new true at = refl
unless_new false at = tt

pub unless_right : (b : Bool) (at : ℕ) → Outcome (λ u. b ≡ true) (λ place. ⊥) (unless b (Mismatch at))
unfolding Outcome
unless_right true at = refl
unless_right false at = tt

pub at_ok : {A : Type 0} (P : A → Type 0) (Q : ℕ → Type 0) (c : Checked A) (a : A) → c ≡ Ok a → Outcome P Q c → P a
unfolding Outcome
at_ok P Q c a is h = subst (λ d. Outcome P Q d) is h

pub at_not_data : {A : Type 0} (P : A → Type 0) (Q : ℕ → Type 0) (c : Checked A) (at : ℕ) → c ≡ Err (NotData at) → Outcome P Q c → Q at
unfolding Outcome
at_not_data P Q c at is h = subst (λ d. Outcome P Q d) is h
