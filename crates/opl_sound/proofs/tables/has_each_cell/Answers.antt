use Rattle.std.proofs.Common.{◌<◌, ◌^◌, ap, ◌∙◌, length, rules}
use Rattle.std.specs.Prelude.{nat_eq}
use Rattle.opl_expr.specs.Sound.{keys}
use Rattle.opl_sound.specs.Measures.{counted}
use Rattle.opl_sound.proofs.Counts.{same_count, same_key}
use Rattle.opl_sound.proofs.tables.has_each_cell.Goals as goal

pub returns-in-None : goal.returns-in-None
returns-in-None c =
    let fits : length c.args.table.now.cells < 2 ^ 64 = search rules in
    same_count (length c.args.table.now.cells) (keys c.args.table.now.dims) c.keys.result fits (c.keys.ensures ∙ ap (λ ds. counted (keys ds)) c.as_slice.ensures) c.in-None.is

pub returns-in-Some : goal.returns-in-Some
returns-in-Some c = ap (λ n. nat_eq n c.in-Some.keys) c.len-count.ensures ∙ same_key (length c.args.table.now.cells) (keys c.args.table.now.dims) c.in-Some.keys c.keys.result (c.keys.ensures ∙ ap (λ ds. counted (keys ds)) c.as_slice.ensures) c.in-Some.is
