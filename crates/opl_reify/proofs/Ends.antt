-- What a family refutes of a disjunction whose parts are decided by the ends of its sets.
use Rattle.std.proofs.Common.{◌≡◌, ◌∙◌, ℕ, ◌<◌, Bool, true, false, ◌&&◌, cond, refl, List, [], ◌∷◌, length, ap, sym}
use Rattle.std.specs.List.{list_all}
use Rattle.opl_domain.specs.Family.{Family, Full, hull}
use Rattle.opl_expr.specs.declared.model.Core.{Core}
use Rattle.opl_expr.specs.Range.{is_possible}
use Rattle.opl_linear_filter.proofs.Ends as linear
use Rattle.opl_reify.specs.declared.part.Part.{Part}
use Rattle.opl_reify.specs.Parts.{fact_in, AreParts}
use Rattle.opl_reify.specs.Ends.{part_sees_ends, EndsDecide}
use Rattle.opl_reify.proofs.Parts.{all_refuted, any_refuted}

both : (a b : Bool) → (a && b) ≡ true → (a ≡ true) × (b ≡ true)
both true b h = (refl, h)
both false b h = cc

all_same : (core : Core) (ps : List Part) (F G : Family) → AreParts core ps → list_all part_sees_ends ps ≡ true → Full F → Full G → length F ≡ length core.sets → length G ≡ length core.sets → ((x : ℕ) → x < length core.sets → hull F x ≡ hull G x) → all_refuted core F ps ≡ all_refuted core G ps
all_same core [] F G m e f g a b h = refl
all_same core (p ∷ ps) F G m e f g a b h =
    let s = both (part_sees_ends p) (list_all part_sees_ends ps) e in
    let first = linear.ends_decide core (fact_in core p) p.filter m.0.filter s.0 F G f g a b h in
    let others = all_same core ps F G m.1 s.1 f g a b h in
    rw (first, others) refl

pub ends_decide : EndsDecide
ends_decide core c f is e F G u v a b h =
    ap (λ r. cond (is_possible r) false true) (is.same F) ∙ any_refuted core F f.parts is.made ∙ all_same core f.parts F G is.made e u v a b h ∙ sym (ap (λ r. cond (is_possible r) false true) (is.same G) ∙ any_refuted core G f.parts is.made)
