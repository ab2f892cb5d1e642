-- Lists that are made one item at a time.
use Rattle.std.proofs.Common.{◌≡◌, ℕ, ◌+◌, ◌<◌, ◌≤◌, List, [], ◌∷◌, ◌++◌, map, length, take, get_or, refl, ap, sym, ◌∙◌}
use Rattle.std.proofs.lemmas.List.{take_more, take_all}

map_more : {X Z : Type 0} (f : X → Z) (xs : List X) (x : X) → map f (xs ++ x ∷ []) ≡ map f xs ++ f x ∷ []
map_more f [] x = refl
map_more f (y ∷ xs) x = ap (λ zs. f y ∷ zs) (map_more f xs x)

-- one more of them
pub mapped_more : {X Y Z : Type 0} (f : X → Z) (g : Y → Z) (ws us : List X) (vs : List Y) (i : ℕ) (w : X) (v d : Y) → us ≡ ws ++ w ∷ [] → map f ws ≡ map g (take i vs) → i < length vs → v ≡ get_or vs i d → f w ≡ g v → map f us ≡ map g (take (i + 1) vs)
mapped_more f g ws us vs i w v d e h l m k =
    ap (map f) e ∙ map_more f ws w ∙ ap (λ zs. zs ++ f w ∷ []) h ∙ ap (λ z. map g (take i vs) ++ z ∷ []) (k ∙ ap g m) ∙ sym (map_more g (take i vs) (get_or vs i d)) ∙ ap (map g) (sym (take_more vs i d l))

-- all of them
pub mapped_all : {X Y Z : Type 0} (f : X → Z) (g : Y → Z) (ws : List X) (vs : List Y) (i : ℕ) → map f ws ≡ map g (take i vs) → length vs ≤ i → map f ws ≡ map g vs
mapped_all f g ws vs i h l = h ∙ ap (map g) (take_all i vs l)
