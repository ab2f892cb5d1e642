-- Numbers that are drawn and written one by one.
use Rattle.std.proofs.Common.{◌≡◌, ◌∙◌, ◌<◌, ◌+◌, ◌-◌, ℕ, zero, suc, refl, sym, ap, arith, List, [], ◌∷◌, ◌++◌, map, codes, append_assoc, append-nil}
use Rattle.std.specs.Prelude.{decimal}
use Rattle.rand_core.specs.Steps.{first_words}
use Rattle.rand_pcg.specs.Lcg.{Lcg}
use Rattle.rand_pcg.specs.Pcg.{pcg32}
use Rattle.opl_generate.specs.Texts.{duration, followed, listed}

-- what is still to be written behind k numbers
abbrev pub still : (k : ℕ) → List ℕ → List ℕ
still zero numbers = listed numbers
still (suc k) numbers = followed numbers

-- what stands before number k
abbrev pub comma : (k : ℕ) → List ℕ
comma zero = []
comma (suc k) = codes ","

-- the durations that are still to be drawn
abbrev pub drawn : (n : ℕ) → Lcg → List ℕ
drawn n source = map duration (first_words pcg32 n source)

pub draws : (k n : ℕ) (source : Lcg) → k < n → drawn (n - k) source ≡ duration (pcg32 source).0 ∷ drawn (n - (k + 1)) (pcg32 source).1
unfolding first_words
draws k n source h =
    let more : n - k ≡ suc (n - (k + 1)) = omega arith in
    ap (λ m. drawn m source) more

pub ends : (k n : ℕ) (source : Lcg) → drawn (n - n) source ≡ []
unfolding first_words
ends k n source =
    let none : n - n ≡ 0 = omega arith in
    ap (λ m. drawn m source) none

pub nothing_left : (k : ℕ) → still k [] ≡ []
nothing_left zero = refl
nothing_left (suc k) = refl

next_still : (k : ℕ) (n : ℕ) (rest : List ℕ) → still k (n ∷ rest) ≡ comma k ++ decimal n ++ still (k + 1) rest
next_still zero n rest = refl
next_still (suc k) n rest =
    let next : suc k + 1 ≡ suc (suc k) = omega arith in
    ap (λ m. codes "," ++ decimal n ++ still m rest) (sym next)

-- one number more
pub written : (k n : ℕ) (source : Lcg) (text : List ℕ) → k < n
    → text ++ still k (drawn (n - k) source) ≡ (text ++ comma k ++ decimal (duration (pcg32 source).0)) ++ still (k + 1) (drawn (n - (k + 1)) (pcg32 source).1)
written k n source text h =
    ap (λ ns. text ++ still k ns) (draws k n source h) ∙ ap (λ t. text ++ t) (next_still k (duration (pcg32 source).0) (drawn (n - (k + 1)) (pcg32 source).1)) ∙ simp append_assoc

pub comma_between : (k : ℕ) → 0 < k → comma k ≡ codes ","
comma_between zero h = absurd (omega (arith, h))
comma_between (suc k) h = refl

pub comma_first : (k : ℕ) → k ≡ 0 → comma k ≡ []
comma_first zero h = refl
comma_first (suc k) h = absurd (omega (arith, h))

-- all is written
pub all_written : (k n : ℕ) (source : Lcg) (text whole : List ℕ) → k ≡ n → text ++ still k (drawn (n - k) source) ≡ whole → text ≡ whole
all_written k n source text whole e h =
    let none : drawn (n - k) source ≡ [] = ap (λ m. drawn (n - m) source) e ∙ ends k n source in
    sym (append-nil text) ∙ ap (λ t. text ++ t) (sym (nothing_left k)) ∙ ap (λ ns. text ++ still k ns) (sym none) ∙ h
