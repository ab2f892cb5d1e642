-- Lists of constraints, level by level.
use Rattle.std.proofs.Common.{◌≡◌, ◌∙◌, ℕ, zero, suc, ◌<◌, ◌≤◌, refl, List, [], ◌∷◌, ◌++◌, length, map, take, drop, set, ap, arith}
use Rattle.std.specs.Prelude.{slice_get, Some}
use Rattle.opl_expr.specs.Forms.{Fact}
use Rattle.opl_engine.specs.States.{Level, level_of, AreOpenings}
use Rattle.opl_engine.specs.declared.opening.Opening.{Opening}

pub the_one : {A : Type 0} (a b : A) → Some a ≡ Some b → a ≡ b
the_one a b h = cc

pub there : {A : Type 0} (xs : List A) (i : ℕ) (a : A) → slice_get xs i ≡ Some a → i < length xs
there [] i a h = cc
there (x ∷ xs) zero a h = omega arith
there (x ∷ xs) (suc i) a h = let r = there xs i a h in omega (arith, r)

pub get_first : {A : Type 0} (xs ys : List A) (i : ℕ) → i < length xs → slice_get (xs ++ ys) i ≡ slice_get xs i
get_first [] ys i l = absurd (omega arith)
get_first (x ∷ xs) ys zero l = refl
get_first (x ∷ xs) ys (suc i) l = get_first xs ys i (omega arith)

pub take_take : {A : Type 0} (a n : ℕ) (xs : List A) → a ≤ n → take a (take n xs) ≡ take a xs
take_take zero n xs l = refl
take_take (suc a) zero xs l = absurd (omega arith)
take_take (suc a) (suc n) [] l = refl
take_take (suc a) (suc n) (x ∷ xs) l = ap (λ ys. x ∷ ys) (take_take a n xs (omega arith))

pub take_first : {A : Type 0} (a : ℕ) (xs ys : List A) → a ≤ length xs → take a (xs ++ ys) ≡ take a xs
take_first zero xs ys l = refl
take_first (suc a) [] ys l = absurd (omega arith)
take_first (suc a) (x ∷ xs) ys l = ap (λ zs. x ∷ zs) (take_first a xs ys (omega arith))

pub take_all : {A : Type 0} (n : ℕ) (xs : List A) → n ≡ length xs → take n xs ≡ xs
take_all zero [] e = refl
take_all zero (x ∷ xs) e = absurd (omega (arith, e))
take_all (suc n) [] e = refl
take_all (suc n) (x ∷ xs) e = ap (λ ys. x ∷ ys) (take_all n xs (omega (arith, e)))

-- what stands in front of others is what was written there
pub written_back : {A : Type 0} (xs ys : List A) (n : ℕ) → n ≡ length xs → take n (xs ++ drop (length xs) ys) ≡ xs
written_back xs ys n e = take_first n xs (drop (length xs) ys) (omega (arith, e)) ∙ take_all n xs e

pub map_take : {A B : Type 0} (f : A → B) (n : ℕ) (xs : List A) → map f (take n xs) ≡ take n (map f xs)
map_take f zero xs = refl
map_take f (suc n) [] = refl
map_take f (suc n) (x ∷ xs) = ap (λ ys. f x ∷ ys) (map_take f n xs)

pub map_added : {A B : Type 0} (f : A → B) (xs : List A) (x : A) → map f (xs ++ x ∷ []) ≡ map f xs ++ f x ∷ []
map_added f [] x = refl
map_added f (y ∷ xs) x = ap (λ ys. f y ∷ ys) (map_added f xs x)

pub length_map : {A B : Type 0} (f : A → B) (xs : List A) → length (map f xs) ≡ length xs
length_map f [] = refl
length_map f (x ∷ xs) = ap suc (length_map f xs)

pub drop_added : {A : Type 0} (xs ys : List A) → 1 ≤ length xs → drop 1 (xs ++ ys) ≡ drop 1 xs ++ ys
drop_added [] ys l = absurd (omega arith)
drop_added (x ∷ xs) ys l = refl

pub map_set_first : {A B : Type 0} (f : A → B) (xs : List A) (y : A) → map f (set xs 0 y) ≡ set (map f xs) 0 (f y)
map_set_first f [] y = refl
map_set_first f (x ∷ xs) y = refl

pub drop_set : {A : Type 0} (xs : List A) (y : A) → drop 1 (set xs 0 y) ≡ drop 1 xs
drop_set [] y = refl
drop_set (x ∷ xs) y = refl

drop_take_set : {A : Type 0} (a : ℕ) (xs : List A) (y : A) → drop 1 (take a (set xs 0 y)) ≡ drop 1 (take a xs)
drop_take_set zero xs y = refl
drop_take_set (suc a) [] y = refl
drop_take_set (suc a) (x ∷ xs) y = refl

-- ---- levels below stay, whatever is posted or given back above them

abbrev with_posts : List Fact → Opening → Level
with_posts P o = record { posted = P; calm = o.calm; bounded = o.bounded; best = o.best }

same_level : (fs gs : List Fact) (o : Opening) → drop 1 (take o.members gs) ≡ drop 1 (take o.members fs) → level_of gs o ≡ level_of fs o
same_level fs gs o e = ap (λ P. with_posts P o) e

pub levels_added : (fs gs : List Fact) (n : ℕ) (os : List Opening) → n ≤ length fs → AreOpenings n os → map (level_of (fs ++ gs)) os ≡ map (level_of fs) os
levels_added fs gs n [] l a = refl
levels_added fs gs n (o ∷ os) l a =
    let e = same_level fs (fs ++ gs) o (ap (drop 1) (take_first o.members fs gs (omega (arith, l, a.1)))) in
    let r = levels_added fs gs o.members os (omega (arith, l, a.1)) a.2 in
    ap (λ k. k ∷ map (level_of (fs ++ gs)) os) e ∙ ap (λ ks. level_of fs o ∷ ks) r

levels_under : (fs : List Fact) (n m : ℕ) (os : List Opening) → m ≤ n → AreOpenings m os → map (level_of (take n fs)) os ≡ map (level_of fs) os
levels_under fs n m [] l a = refl
levels_under fs n m (o ∷ os) l a =
    let e = same_level fs (take n fs) o (ap (drop 1) (take_take o.members n fs (omega (arith, l, a.1)))) in
    let r = levels_under fs n o.members os (omega (arith, l, a.1)) a.2 in
    ap (λ k. k ∷ map (level_of (take n fs)) os) e ∙ ap (λ ks. level_of fs o ∷ ks) r

pub levels_kept : (fs : List Fact) (n : ℕ) (os : List Opening) → AreOpenings n os → map (level_of (take n fs)) os ≡ map (level_of fs) os
levels_kept fs n os a = levels_under fs n n os (omega arith) a

pub levels_set : (fs : List Fact) (c : Fact) (os : List Opening) → map (level_of (set fs 0 c)) os ≡ map (level_of fs) os
levels_set fs c [] = refl
levels_set fs c (o ∷ os) = ap (λ k. k ∷ map (level_of (set fs 0 c)) os) (same_level fs (set fs 0 c) o (drop_take_set o.members fs c)) ∙ ap (λ ks. level_of fs o ∷ ks) (levels_set fs c os)

pub openings_more : (n m : ℕ) (os : List Opening) → n ≤ m → AreOpenings n os → AreOpenings m os
openings_more n m [] l a = tt
openings_more n m (o ∷ os) l a = (a.0, omega (arith, l, a.1), a.2)
