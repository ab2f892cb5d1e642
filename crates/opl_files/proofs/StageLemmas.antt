-- One stage behind another.
use Rattle.std.proofs.Common.{◌≡◌, ◌+◌, refl, sym, ◌∙◌, subst, ℕ, List, [], ◌∷◌, Option, Some, None, Result, Ok, Err, IfSome, inl, inr}
use Rattle.opl_outside.specs.Files.{Files}
use Rattle.opl_outside.specs.Becomes.{Becomes}
use Rattle.opl_files.specs.declared.refusal.Refusal.{Refusal}
use Rattle.opl_files.specs.declared.stop.Stop.{Stop}
use Rattle.opl_files.specs.declared.stop.Stop.TheVariants.{Refused, Spent, ReadFault, WriteFault, OutOfMemory}
use Rattle.opl_files.specs.Stage.{Stage, Then, Only, Each, Gives, GivesRead}

pub if_some : {A : Type 0} (o : Option A) (P Q : A → Type 0) → ((a : A) → P a → Q a) → IfSome o P → IfSome o Q
if_some None P Q so h = tt
if_some (Some a) P Q so h = so a h

-- the first stage gave a value, and the second what it gave on it
pub then-gives : {A B : Type 0} (P : Stage A) (Q : A → Stage B) (a : A) (r : Result B Stop) → P (Ok a) → Gives (Q a) r → Gives (Then P Q) r
then-gives P Q a (Ok b) p q = inl (a, p, q)
then-gives P Q a (Err (Refused e)) p q = inl (a, p, q)
then-gives P Q a (Err Spent) p q = q
then-gives P Q a (Err ReadFault) p q = q
then-gives P Q a (Err WriteFault) p q = q
then-gives P Q a (Err OutOfMemory) p q = q

-- the first stage ended
pub then-stops : {A B : Type 0} (P : Stage A) (Q : A → Stage B) (stop : Stop) → Gives P (Err stop) → Gives (Then P Q) (Err stop)
then-stops P Q (Refused e) p = inr (e, p, refl)
then-stops P Q Spent p = p
then-stops P Q ReadFault p = p
then-stops P Q WriteFault p = p
then-stops P Q OutOfMemory p = tt

-- the same of stages that read
pub then_gives_read : {A B : Type 0} (P : Stage A) (Q : A → Stage B) (a : A) (r : Result B Stop) → P (Ok a) → GivesRead (Q a) r → GivesRead (Then P Q) r
then_gives_read P Q a (Ok b) p q = inl (a, p, q)
then_gives_read P Q a (Err (Refused e)) p q = inl (a, p, q)
then_gives_read P Q a (Err Spent) p q = q
then_gives_read P Q a (Err ReadFault) p q = tt
then_gives_read P Q a (Err WriteFault) p q = q
then_gives_read P Q a (Err OutOfMemory) p q = tt

pub then_stops_read : {A B : Type 0} (P : Stage A) (Q : A → Stage B) (stop : Stop) → GivesRead P (Err stop) → GivesRead (Then P Q) (Err stop)
then_stops_read P Q (Refused e) p = inr (e, p, refl)
then_stops_read P Q Spent p = p
then_stops_read P Q ReadFault p = tt
then_stops_read P Q WriteFault p = p
then_stops_read P Q OutOfMemory p = tt

pub gives_read : {A : Type 0} (P : Stage A) (r : Result A Stop) → Gives P r → GivesRead P r
gives_read P (Ok a) p = p
gives_read P (Err (Refused e)) p = p
gives_read P (Err Spent) p = p
gives_read P (Err ReadFault) p = tt
gives_read P (Err WriteFault) p = p
gives_read P (Err OutOfMemory) p = tt

-- what the files are after a read is what they were
pub both_told : (old mid : Option Files) (P Q R : Files → Type 0) → ((files : Files) → P files → Q files → R files) → Becomes old mid (λ before now. now ≡ before) →
    IfSome old P → IfSome mid Q → IfSome old R
both_told None mid P Q R both same p q = tt
both_told (Some files) None P Q R both same p q = absurd same
both_told (Some files) (Some others) P Q R both same p q = both files p (subst Q same q)

-- a relation that holds of at most one outcome
abbrev pub IsOne : {A : Type 0} → Stage A → Type 0
IsOne {A} P = (r s : Result A Refusal) → P r → P s → r ≡ s

ok_same : {A : Type 0} (a b : A) → ◌≡◌ {A = Result A Refusal} (Ok a) (Ok b) → a ≡ b
ok_same a b h = cc

pub ok_no_err : {A : Type 0} (a : A) (e : Refusal) → ◌≡◌ {A = Result A Refusal} (Ok a) (Err e) → ⊥
ok_no_err a e h = cc

err_no_ok : {A : Type 0} (a : A) (e : Refusal) → ◌≡◌ {A = Result A Refusal} (Err e) (Ok a) → ⊥
err_no_ok a e h = cc

err_same : {A B : Type 0} (e f : Refusal) → ◌≡◌ {A = Result A Refusal} (Err e) (Err f) → ◌≡◌ {A = Result B Refusal} (Err e) (Err f)
err_same e f h = cc

-- of two stages that give at most one outcome each, one behind the other gives at most one
pub then_one : {A B : Type 0} (P : Stage A) (Q : A → Stage B) → IsOne P → ((a : A) → IsOne (Q a)) → IsOne (Then P Q)
then_one P Q one both r s (inl (a, p, q)) (inl (b, p', q')) = both a r s q (subst (λ x. Q x s) (sym (ok_same a b (one _ _ p p'))) q')
then_one P Q one both r s (inl (a, p, q)) (inr (e, p', q')) = absurd (ok_no_err a e (one _ _ p p'))
then_one P Q one both r s (inr (e, p, q)) (inl (b, p', q')) = absurd (err_no_ok b e (one _ _ p p'))
then_one {A} {B} P Q one both r s (inr (e, p, q)) (inr (f, p', q')) = rw (q, q') (err_same {A = A} {B = B} e f (one _ _ p p'))

pub only_one : {A : Type 0} (a : A) → IsOne (Only a)
only_one a r s p q = p ∙ sym q

-- so does one behind another of a list
pub each_one : {A B : Type 0} (P : ℕ → A → Stage B) → ((n : ℕ) (x : A) → IsOne (P n x)) → (n : ℕ) (xs : List A) → IsOne (Each P n xs)
unfolding Each
each_one P one n [] = only_one []
each_one P one n (x ∷ xs) = then_one (P n x) _ (one n x) (λ y. then_one (Each P (n + 1) xs) _ (each_one P one (n + 1) xs) (λ ys. only_one (y ∷ ys)))

-- a stage has an outcome
abbrev pub Comes : {A : Type 0} → Stage A → Type 0
Comes {A} P = (r : Result A Refusal) × P r

pub then_comes : {A B : Type 0} (P : Stage A) (Q : A → Stage B) → Comes P → ((a : A) → Comes (Q a)) → Comes (Then P Q)
then_comes P Q (Ok a, p) next = ((next a).0, inl (a, p, (next a).1))
then_comes P Q (Err e, p) next = (Err e, inr (e, p, refl))

pub each_comes : {A B : Type 0} (P : ℕ → A → Stage B) → ((n : ℕ) (x : A) → Comes (P n x)) → (n : ℕ) (xs : List A) → Comes (Each P n xs)
unfolding Each
each_comes P come n [] = (Ok [], refl)
each_comes P come n (x ∷ xs) = then_comes (P n x) _ (come n x) (λ y. then_comes (Each P (n + 1) xs) _ (each_comes P come (n + 1) xs) (λ ys. (Ok (y ∷ ys), refl)))
