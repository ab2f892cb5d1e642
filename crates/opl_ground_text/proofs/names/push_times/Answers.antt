use Rattle.std.proofs.Common.{rules}
use Rattle.std.proofs.lemmas.Int.{to_z-of_z}
use Rattle.std.specs.Fmt.{signed_decimal}
use Rattle.std.specs.Prelude.{FitsSigned}
use mir.Syntax.{w64, w128}
use Rattle.opl_ground_text.specs.Texts.{ends_text}
use Rattle.opl_ground_text.proofs.Parts.{added, seven}
use Rattle.opl_ground_text.proofs.names.push_times.Goals as goal

pub returns : goal.returns
returns c =
    let from : FitsSigned w64 c.args.from = search rules in
    let to : FitsSigned w64 c.args.to = search rules in
    let most : FitsSigned w128 c.args.resource.now.capacity = search rules in
    let name = added _ _ _ _ c.in_ok-extend_from_slice-2.ensures.items c.as_slice.ensures in
    let ends = added _ _ _ _ c.in_ok-push_ends.ensures (λ i. ends_text (to_z-of_z w64 c.args.from from i) (to_z-of_z w64 c.args.to to i)) in
    let capacity = added _ _ _ _ c.in_ok-push_number.ensures (λ i. signed_decimal (to_z-of_z w128 c.args.resource.now.capacity most i)) in
    seven _ _ _ _ _ _ _ _ _ _ _ _ _ _ _ c.in_ok-extend_from_slice.ensures.items name c.in_ok-extend_from_slice-3.ensures.items ends
    c.in_ok-extend_from_slice-4.ensures.items capacity c.in_ok-extend_from_slice-5.ensures.items
