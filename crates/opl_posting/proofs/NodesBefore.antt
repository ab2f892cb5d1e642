-- Constraints behind any number of nodes.
use Rattle.std.proofs.Common.{◌≡◌, ℕ, ◌+◌, ℤ, List, [], ◌∷◌, ◌++◌, Ok, Err, refl, sym, ap, ◌∙◌}
use Rattle.std.proofs.lemmas.List.{append-nil}
use Rattle.opl_draft.specs.Drafts.{Cells}
use Rattle.opl_draft.specs.Instances.{Condition}
use Rattle.opl_form.specs.Forms.{form, forms}
use Rattle.opl_form.specs.Measures.{part_nodes}
use Rattle.opl_form.specs.Nodes.{Made, next}
use Rattle.opl_form.specs.Parts.{Form, as_condition}
use Rattle.opl_unfolding.specs.Posted.{Posted, posted}
use Rattle.opl_making.proofs.Next.{next-out}

next-like : {A B : Type 0} (r : Made A) (f g : A → Made B) → ((x : A) → f x ≡ g x) → next r f ≡ next r g
next-like (Ok x) f g h = h x
next-like (Err e) f g h = refl

next-same : {A : Type 0} (r : Made (List A)) → next r (λ xs. Ok ([] ++ xs)) ≡ r
next-same (Ok xs) = refl
next-same (Err e) = refl

append-one : {A : Type 0} (xs : List A) (y : A) (zs : List A) → (xs ++ y ∷ []) ++ zs ≡ xs ++ y ∷ zs
append-one [] y zs = refl
append-one (x ∷ xs) y zs = ap (λ us. x ∷ us) (append-one xs y zs)

module _ (sets : List (ℤ × ℤ)) (arrays : List Cells) where
  -- one form behind constraints
  abbrev more : Posted → Form → Posted
  more p g = (p.0 ++ as_condition g ∷ [], p.1 + part_nodes g)

  -- what is posted behind others
  posted-forms : (p : Posted) (cs : List Condition) → next (posted sets arrays p cs) (λ q. Ok q.0) ≡ next (forms sets arrays p.1 cs) (λ ds. Ok (p.0 ++ ds))
  posted-forms p [] = ap (λ ds. Ok ds) (sym (append-nil p.0))
  posted-forms p (c ∷ cs) =
      next-out (form sets arrays p.1 c) (λ g. posted sets arrays (more p g) cs) (λ q. Ok q.0)
      ∙ next-like (form sets arrays p.1 c) (λ g. next (posted sets arrays (more p g) cs) (λ q. Ok q.0)) (λ g. next (next (forms sets arrays (p.1 + part_nodes g) cs) (λ ds. Ok (as_condition g ∷ ds))) (λ ds. Ok (p.0 ++ ds)))
      (λ g. posted-forms (more p g) cs
      ∙ next-like (forms sets arrays (p.1 + part_nodes g) cs) (λ ds. Ok ((p.0 ++ as_condition g ∷ []) ++ ds)) (λ ds. Ok (p.0 ++ as_condition g ∷ ds)) (λ ds. ap (λ es. Ok es) (append-one p.0 (as_condition g) ds))
      ∙ sym (next-out (forms sets arrays (p.1 + part_nodes g) cs) (λ ds. Ok (as_condition g ∷ ds)) (λ ds. Ok (p.0 ++ ds))))
      ∙ sym (next-out (form sets arrays p.1 c) (λ g. next (forms sets arrays (p.1 + part_nodes g) cs) (λ ds. Ok (as_condition g ∷ ds))) (λ ds. Ok (p.0 ++ ds)))

  -- the constraints of all conditions are what is posted behind none
  pub forms-posted : (n : ℕ) (cs : List Condition) → forms sets arrays n cs ≡ next (posted sets arrays ([], n) cs) (λ q. Ok q.0)
  forms-posted n cs = sym (posted-forms ([], n) cs ∙ next-same (forms sets arrays n cs))
