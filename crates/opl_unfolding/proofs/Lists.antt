-- What is made one after another.
use Rattle.std.proofs.Common.{◌≡◌, List, [], ◌∷◌, ◌++◌, map, Ok, Err, refl, sym, ap, ◌∙◌}
use Rattle.std.specs.List.{flat_map}
use Rattle.opl_form.specs.Nodes.{Made, next}

pub next-out : {A B C : Type 0} (r : Made A) (f : A → Made B) (g : B → Made C) → next (next r f) g ≡ next r (λ x. next (f x) g)
next-out (Ok x) f g = refl
next-out (Err e) f g = refl

pub next-like : {A B : Type 0} (r : Made A) (f g : A → Made B) → ((x : A) → f x ≡ g x) → next r f ≡ next r g
next-like (Ok x) f g h = h x
next-like (Err e) f g h = refl

pub next-same : {A : Type 0} (r : Made (List A)) → next r (λ xs. Ok ([] ++ xs)) ≡ r
next-same (Ok xs) = refl
next-same (Err e) = refl

pub append-assoc : {A : Type 0} (xs ys zs : List A) → (xs ++ ys) ++ zs ≡ xs ++ (ys ++ zs)
append-assoc [] ys zs = refl
append-assoc (x ∷ xs) ys zs = ap (λ us. x ∷ us) (append-assoc xs ys zs)

pub map-append : {A B : Type 0} (f : A → B) (xs ys : List A) → map f (xs ++ ys) ≡ map f xs ++ map f ys
map-append f [] ys = refl
map-append f (x ∷ xs) ys = ap (λ r. f x ∷ r) (map-append f xs ys)

pub flat-append : {A B : Type 0} (f : A → List B) (xs ys : List A) → flat_map f (xs ++ ys) ≡ flat_map f xs ++ flat_map f ys
flat-append f [] ys = refl
flat-append f (x ∷ xs) ys = ap (λ r. f x ++ r) (flat-append f xs ys) ∙ sym (append-assoc (f x) (flat_map f xs) (flat_map f ys))
