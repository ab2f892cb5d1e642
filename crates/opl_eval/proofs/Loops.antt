-- What is found one after another.
use Rattle.std.proofs.Common.{◌≡◌, ◌≢◌, ℕ, ◌+◌, ◌<◌, ◌≤◌, length, get_or, drop, List, [], ◌∷◌, ◌++◌, map, Ok, Err, refl, ap, sym, ◌∙◌}
use Rattle.std.proofs.lemmas.List.{at_drop_more, at_drop_all, append-nil}
use Rattle.opl_eval.specs.declared.fault.EvalFault.{EvalFault}
use Rattle.opl_eval.specs.declared.fault.EvalFault.TheVariants.{OutOfMemory}
use Rattle.opl_eval.specs.Arithmetic.{then}
use Rattle.opl_eval.specs.declared.environment.Environment as code
use Rattle.opl_eval.specs.declared.environment.Parameter as parameters
use Rattle.opl_eval.specs.Evaluation.{Parameter, Found, found, all, with_parameters}
use Rattle.opl_eval.specs.Visible.{item_of, parameter_of, position_in, within}

pub append-one : {A : Type 0} (xs : List A) (y : A) (zs : List A) → xs ++ (y ∷ zs) ≡ (xs ++ y ∷ []) ++ zs
append-one [] y zs = refl
append-one (x ∷ xs) y zs = ap (λ l. x ∷ l) (append-one xs y zs)

found-one : {A : Type 0} (xs : List A) (y : A) (r : Found (List A)) → found (λ zs. xs ++ zs) (found (λ zs. y ∷ zs) r) ≡ found (λ zs. (xs ++ y ∷ []) ++ zs) r
found-one xs y (Ok zs) = ap (λ l. Ok l) (append-one xs y zs)
found-one xs y (Err e) = refl

module _ {T A : Type 0} (f : T → Found A) (whole : Found (List A)) (xs : List T) (i : ℕ) (so : List A) (so_far : whole ≡ found (λ rs. so ++ rs) (all (map f (drop i xs)))) where
  pub all_end : length xs ≤ i → whole ≡ Ok so
  all_end h = so_far ∙ ap (found (λ rs. so ++ rs)) (at_drop_all (λ ys. all (map f ys)) xs i h) ∙ ap (λ l. Ok l) (append-nil so)

  all_here : (x : T) → i < length xs → x ≡ get_or xs i x → whole ≡ found (λ rs. so ++ rs) (then (f x) (λ a. found (λ rs. a ∷ rs) (all (map f (drop (i + 1) xs)))))
  all_here x more here =
      so_far ∙ ap (found (λ rs. so ++ rs)) (at_drop_more (λ ys. all (map f ys)) xs i x more ∙ ap (λ y. all (map f (y ∷ drop (i + 1) xs))) (sym here))

  pub all_fault : (x : T) → i < length xs → x ≡ get_or xs i x → (e : EvalFault) → (e ≢ OutOfMemory → f x ≡ Err e) → e ≢ OutOfMemory → whole ≡ Err e
  all_fault x more here e h n = all_here x more here ∙ ap (λ r. found (λ rs. so ++ rs) (then r (λ a. found (λ rs. a ∷ rs) (all (map f (drop (i + 1) xs)))))) (h n)

  pub all_more : (x : T) → i < length xs → x ≡ get_or xs i x → (a : A) (after : List A) → f x ≡ Ok a → after ≡ so ++ a ∷ [] → whole ≡ found (λ rs. after ++ rs) (all (map f (drop (i + 1) xs)))
  all_more x more here a after h g =
      all_here x more here ∙ ap (λ r. found (λ rs. so ++ rs) (then r (λ a. found (λ rs. a ∷ rs) (all (map f (drop (i + 1) xs)))))) h
      ∙ found-one so a (all (map f (drop (i + 1) xs))) ∙ ap (λ l. found (λ rs. l ++ rs) (all (map f (drop (i + 1) xs)))) (sym g)

pub found-fault : {A B : Type 0} (g : A → B) (r : Found A) (e : EvalFault) → found g r ≡ Err e → r ≡ Err e
found-fault g (Ok a) e h = cc
found-fault g (Err d) e h = cc

-- ---- further parameters

pub within-more : (env : code.Environment) (ps qs : List parameters.Parameter) (more : List Parameter) → map parameter_of qs ≡ map parameter_of ps ++ more → within env qs ≡ with_parameters more (within env ps)
unfolding within
within-more env ps qs more h = λ i. record { items = map item_of env.entries; parameters = h i; position = position_in env.positions }
