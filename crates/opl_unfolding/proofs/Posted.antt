-- Constraints posted one after another.
use Rattle.std.proofs.Common.{◌+◌, [], ◌∷◌, ◌++◌, refl, sym, ◌∙◌}
use Rattle.opl_form.specs.Forms.{form}
use Rattle.opl_form.specs.Measures.{part_nodes}
use Rattle.opl_form.specs.Nodes.{next}
use Rattle.opl_form.specs.Parts.{as_condition}
use Rattle.opl_unfolding.specs.Laws.{PostedAppend}
use Rattle.opl_unfolding.specs.Posted.{posted}
use Rattle.opl_unfolding.proofs.Lists.{next-like, next-out}

-- conditions behind conditions are posted behind their constraints
pub posted-append : PostedAppend
posted-append sets arrays p [] ds = refl
posted-append sets arrays p (c ∷ cs) ds =
    next-like (form sets arrays p.1 c) (λ g. posted sets arrays (p.0 ++ as_condition g ∷ [], p.1 + part_nodes g) (cs ++ ds))
    (λ g. next (posted sets arrays (p.0 ++ as_condition g ∷ [], p.1 + part_nodes g) cs) (λ q. posted sets arrays q ds))
    (λ g. posted-append sets arrays (p.0 ++ as_condition g ∷ [], p.1 + part_nodes g) cs ds)
    ∙ sym (next-out (form sets arrays p.1 c) (λ g. posted sets arrays (p.0 ++ as_condition g ∷ [], p.1 + part_nodes g) cs) (λ q. posted sets arrays q ds))
