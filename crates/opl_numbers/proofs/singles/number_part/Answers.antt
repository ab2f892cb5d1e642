use Rattle.std.proofs.Common.{◌<◌, ◌^◌, ap, subst, sym, ◌∙◌, Ok}
use Rattle.std.specs.Prelude.{unsigned_abs}
use Rattle.opl_eval.specs.Compare.{rank}
use Rattle.opl_form.specs.Nodes as making
use Rattle.opl_form.specs.Parts.Form.{known}
use Rattle.opl_nodes.specs.Contexts.{arrays, sets}
use Rattle.opl_nodes.specs.Pieces.{form}
use Rattle.opl_nodes.proofs.Tests.{makes-same}
use Rattle.opl_numbers.specs.Numbers.{number_of}
use Rattle.opl_numbers.proofs.Folds.{number-known}
use Rattle.opl_numbers.proofs.Small.{int-small, part-small}
use Rattle.opl_numbers.proofs.singles.number_part.Goals as goal

pub known_part-requires : goal.known_part-requires
known_part-requires c =
    subst (λ v. unsigned_abs (rank v) < 2 ^ 127) (sym c.plain_value.ensures) (int-small (number_of (form c.args.part)) (part-small c.args.context.now c.args.part c.requires))

pub returns-then-is_known : goal.returns-then-is_known
returns-then-is_known c =
    let k = c.args.context.now in
    makes-same k (Ok (known c.plain_value.result)) (making.number_part (sets k) (arrays k) k.item c.args.at c.args.before (form c.args.part)) c.known_part.result
    (ap (λ v. Ok (known v)) c.plain_value.ensures ∙ number-known (sets k) (arrays k) k.item c.args.at c.args.before (form c.args.part) (sym c.is_known-is_known.ensures ∙ c.if-is_known.true)) (c.known_part.ensures k)
