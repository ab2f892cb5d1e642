-- A run: the bytes at the front of a list that all pass a test, up to the first that does not.
use Rattle.std.proofs.Common.{◌≡◌, ◌≤◌, ℕ, zero, suc, ◌+◌, Bool, true, false, cond, List, [], ◌∷◌, ◌++◌, length, take, drop, refl, arith}
use Rattle.std.specs.List.{prefix_len, AllPass}
use Rattle.opl_token.specs.Lexeme.{begins}

one_more : (n : ℕ) → 1 + n ≡ suc n
one_more n = omega arith

pub first_passes : {X : Type 0} (p : X → Bool) (x : X) (xs : List X) → AllPass p (x ∷ xs) → p x ≡ true
first_passes p x xs all = all 0 x (omega arith)

pub rest_passes : {X : Type 0} (p : X → Bool) (x : X) (xs : List X) → AllPass p (x ∷ xs) → AllPass p xs
rest_passes p x xs all k d h = all (suc k) d (omega arith)

pub more_passes : {X : Type 0} (p : X → Bool) (x : X) (xs : List X) → p x ≡ true → AllPass p xs → AllPass p (x ∷ xs)
more_passes p x xs first rest zero d h = first
more_passes p x xs first rest (suc k) d h = rest k d (omega arith)

-- a front all of whose bytes pass is within the run
pub run_covers : (p : ℕ → Bool) (text rest : List ℕ) → AllPass p text → length text ≤ prefix_len p (text ++ rest)
run_covers p [] rest all = omega arith
run_covers p (x ∷ xs) rest all =
    let more : length xs ≤ prefix_len p (xs ++ rest) = run_covers p xs rest (rest_passes p x xs all) in
    rw (first_passes p x xs all) (omega arith)

-- and it is the run where what follows begins with none that passes
pub run_is : (p : ℕ → Bool) (text rest : List ℕ) → AllPass p text → begins p rest ≡ false → prefix_len p (text ++ rest) ≡ length text
run_is p [] [] all ends = refl
run_is p [] (y ∷ ys) all ends = rw ends refl
run_is p (x ∷ xs) rest all ends =
    let more : prefix_len p (xs ++ rest) ≡ length xs = run_is p xs rest (rest_passes p x xs all) ends in
    rw (first_passes p x xs all, more) (one_more (length xs))

pub run_passes : (p : ℕ → Bool) (bytes : List ℕ) → AllPass p (take (prefix_len p bytes) bytes)
run_passes p [] = λ k d h. absurd (omega arith)
run_passes p (x ∷ xs) = passes (p x) refl (run_passes p xs)
  where
    passes : (b : Bool) → p x ≡ b → AllPass p (take (prefix_len p xs) xs) → AllPass p (take (cond b (1 + prefix_len p xs) 0) (x ∷ xs))
    passes true e more = rw one_more (more_passes p x (take (prefix_len p xs) xs) e more)
    passes false e more = λ k d h. absurd (omega arith)

pub run_ends : (p : ℕ → Bool) (bytes : List ℕ) → begins p (drop (prefix_len p bytes) bytes) ≡ false
run_ends p [] = refl
run_ends p (x ∷ xs) = ends (p x) refl (run_ends p xs)
  where
    ends : (b : Bool) → p x ≡ b → begins p (drop (prefix_len p xs) xs) ≡ false → begins p (drop (cond b (1 + prefix_len p xs) 0) (x ∷ xs)) ≡ false
    ends true e more = rw one_more more
    ends false e more = e

-- a run begins as the bytes do, where what they begin with passes
pub run_begins : (p q : ℕ → Bool) (bytes : List ℕ) → ((b : ℕ) → p b ≡ true → q b ≡ true) → begins p bytes ≡ true → begins p (take (prefix_len q bytes) bytes) ≡ true
run_begins p q [] implies h = cc
run_begins p q (b ∷ bs) implies h = let passes : q b ≡ true = implies b h in rw (passes, one_more) h
