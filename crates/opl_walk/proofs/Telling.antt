-- What a visitor becomes, part by part.
use Rattle.std.proofs.Common.{◌≡◌, ◌<◌, ◌≤◌, ℕ, suc, ◌+◌, Bool, true, false, not, List, [], ◌∷◌, ◌++◌, length, drop, get_or, map, refl, ap, ◌∙◌, arith}
use Rattle.std.proofs.lemmas.List.{drop_more, drop_all}
use Rattle.opl_token.specs.declared.sign.Sign.{Sign}
use Rattle.opl_tree.specs.Marks.{Part, sign, place, token, unbraced, opens, Marks, raised, joined, behind, several, optional}
use Rattle.opl_walk.specs.Told.{capped, told, listed}

pub capped-more : (n k : ℕ) → capped (capped n + k) ≡ capped (n + k)
unfolding capped
capped-more n k = omega arith

pub told-append : {V : Type 0} (f : Part → V → V) (g : ℕ → V → V) (level : ℕ) (ms ns : Marks) (v : V) → told f g level (ms ++ ns) v ≡ told f g level ns (told f g level ms v)
told-append f g level [] ns v = refl
told-append f g level (place at ∷ ms) ns v = told-append f g level ms ns v
told-append f g level (token p ∷ ms) ns v = told-append f g level ms ns (f p v)
told-append f g level (unbraced ∷ ms) ns v = told-append f g level ms ns v
told-append f g level (opens k ∷ ms) ns v = told-append f g level ms ns (g (capped (level + k)) v)

deeper : (level k : ℕ) → capped (level + suc k) ≡ capped (capped (level + 1) + k)
unfolding capped
deeper level k = omega arith

pub told-raised : {V : Type 0} (f : Part → V → V) (g : ℕ → V → V) (level : ℕ) (ms : Marks) (v : V) → told f g level (raised ms) v ≡ told f g (capped (level + 1)) ms v
told-raised f g level [] v = refl
told-raised f g level (place at ∷ ms) v = told-raised f g level ms v
told-raised f g level (token p ∷ ms) v = told-raised f g level ms (f p v)
told-raised f g level (unbraced ∷ ms) v = told-raised f g level ms v
told-raised f g level (opens k ∷ ms) v = ap (λ l. told f g level (raised ms) (g l v)) (deeper level k) ∙ told-raised f g level ms (g (capped (capped (level + 1) + k)) v)

pub raised-append : (ms ns : Marks) → raised (ms ++ ns) ≡ raised ms ++ raised ns
raised-append [] ns = refl
raised-append (place at ∷ ms) ns = ap (λ ks. place at ∷ ks) (raised-append ms ns)
raised-append (token p ∷ ms) ns = ap (λ ks. token p ∷ ks) (raised-append ms ns)
raised-append (unbraced ∷ ms) ns = ap (λ ks. unbraced ∷ ks) (raised-append ms ns)
raised-append (opens k ∷ ms) ns = ap (λ ks. opens (suc k) ∷ ks) (raised-append ms ns)

pub told-joined : {V A : Type 0} (f : Part → V → V) (g : ℕ → V → V) (level : ℕ) (m : A → Marks) (xs : List A) (i : ℕ) (d : A) (v : V) → i < length xs → told f g level (joined (map m (drop i xs))) v ≡ told f g level (joined (map m (drop (i + 1) xs))) (told f g level (m (get_or xs i d)) v)
told-joined f g level m xs i d v h = ap (λ ys. told f g level (joined (map m ys)) v) (drop_more xs i d h) ∙ told-append f g level (m (get_or xs i d)) (joined (map m (drop (i + 1) xs))) v

pub told-behind : {V A : Type 0} (f : Part → V → V) (g : ℕ → V → V) (level : ℕ) (s : Sign) (m : A → Marks) (xs : List A) (i : ℕ) (d : A) (v : V) → i < length xs → told f g level (behind s (map m (drop i xs))) v ≡ told f g level (behind s (map m (drop (i + 1) xs))) (told f g level (m (get_or xs i d)) (f (sign s) v))
told-behind f g level s m xs i d v h = ap (λ ys. told f g level (behind s (map m ys)) v) (drop_more xs i d h) ∙ told-append f g level (m (get_or xs i d)) (behind s (map m (drop (i + 1) xs))) (f (sign s) v)

pub told-listed : {V A : Type 0} (f : Part → V → V) (g : ℕ → V → V) (level : ℕ) (is_first : Bool) (s : Sign) (m : A → Marks) (xs : List A) (i : ℕ) (d : A) (v : V) → i < length xs → told f g level (listed is_first s (map m (drop i xs))) v ≡ told f g level (behind s (map m (drop (i + 1) xs))) (told f g level (m (get_or xs i d)) (told f g level (optional (sign s) (not is_first)) v))
told-listed f g level true s m xs i d v h = ap (λ ys. told f g level (several s (map m ys)) v) (drop_more xs i d h) ∙ told-append f g level (m (get_or xs i d)) (behind s (map m (drop (i + 1) xs))) v
told-listed f g level false s m xs i d v h = told-behind f g level s m xs i d v h

told-none : {V : Type 0} (f : Part → V → V) (g : ℕ → V → V) (level : ℕ) (is_first : Bool) (s : Sign) (v : V) → told f g level (listed is_first s []) v ≡ v
told-none f g level true s v = refl
told-none f g level false s v = refl

pub told-listed-end : {V A : Type 0} (f : Part → V → V) (g : ℕ → V → V) (level : ℕ) (is_first : Bool) (s : Sign) (m : A → Marks) (xs : List A) (i : ℕ) (v : V) → length xs ≤ i → told f g level (listed is_first s (map m (drop i xs))) v ≡ v
told-listed-end f g level is_first s m xs i v h = ap (λ ys. told f g level (listed is_first s (map m ys)) v) (drop_all i xs h) ∙ told-none f g level is_first s v

pub told-joined-end : {V A : Type 0} (f : Part → V → V) (g : ℕ → V → V) (level : ℕ) (m : A → Marks) (xs : List A) (i : ℕ) (v : V) → length xs ≤ i → told f g level (joined (map m (drop i xs))) v ≡ v
told-joined-end f g level m xs i v h = ap (λ ys. told f g level (joined (map m ys)) v) (drop_all i xs h)

pub told-behind-end : {V A : Type 0} (f : Part → V → V) (g : ℕ → V → V) (level : ℕ) (s : Sign) (m : A → Marks) (xs : List A) (i : ℕ) (v : V) → length xs ≤ i → told f g level (behind s (map m (drop i xs))) v ≡ v
told-behind-end f g level s m xs i v h = ap (λ ys. told f g level (behind s (map m ys)) v) (drop_all i xs h)

-- the parts of a list before one are told, if the visitor is whole
abbrev pub ToldTo : {V A : Type 0} → (V → Bool) → (Part → V → V) → (ℕ → V → V) → ℕ → (List A → Marks) → List A → ℕ → V → V → Type 0
ToldTo is_whole f g level ms xs i before v = is_whole v ≡ true → (is_whole before ≡ true) × (told f g level (ms (drop i xs)) v ≡ told f g level (ms xs) before)

pub ruleset telling = (told-append, told-raised, raised-append, capped-more)

pub ruleset lists = (told-joined, told-joined-end, told-behind, told-behind-end)

pub ruleset separated = (told-listed, told-listed-end)
