use Rattle.std.proofs.Common.{◌≡◌, ap, rules}
use Rattle.std.specs.Prelude.{unsigned_abs}
use Rattle.opl_eval.specs.Compare.{rank}
use Rattle.opl_form.specs.Parts.Form.{known}
use Rattle.opl_nodes.specs.declared.part.Form.TheVariants.{Known}
use Rattle.opl_numbers.proofs.Alone.{known-made}
use Rattle.opl_numbers.proofs.singles.known_part.Goals as goal

pub returns : goal.returns
returns c k =
    let size : c.unsigned_abs-size.result ≡ unsigned_abs (rank c.args.value) = search rules in
    known-made k c.args.value c.unsigned_abs-size.result (Known c.in_ok-new.field-0) size (ap known c.in_ok-new.ensures) c.requires
