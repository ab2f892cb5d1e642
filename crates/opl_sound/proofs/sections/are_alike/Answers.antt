use Rattle.std.proofs.Common.{◌≡◌, ◌∙◌, ap, sym, arith, rules}
use Rattle.opl_trace.specs.GroundCores.{is_some_expr}
use Rattle.opl_sound.specs.Ground.{element_made}
use Rattle.opl_sound.proofs.StepForms.{made_element, alike_is, like_same}
use Rattle.opl_sound.proofs.sections.are_alike.Goals as goal

pub returns : goal.returns
returns c =
    let b = c.index-elements-0.result in
    let f = element_made c.args.core.now.tables c.args.core.now.resources in
    let made = made_element c.args.core.now.tables c.args.core.now.resources b in
    let rising : (f b).rising ≡ b.rising = ap (λ m. m.rising) made in
    let keyed : (f b).has_key ≡ is_some_expr b.key = ap (λ m. m.has_key) made in
    let h = c.if-is_empty.false in
    let i = c.is_empty.ensures in
    c.are_like.ensures
    ∙ like_same f c.args.elements.now b.rising c.has_key.result (f b).rising (f b).has_key (sym rising) (c.has_key.ensures ∙ sym keyed)
    ∙ alike_is f c.args.elements.now b (search (rules, arith)) c.index-elements-0.is
