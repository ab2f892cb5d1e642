use Rattle.std.proofs.Common.{◌≡◌, ◌++◌, ap, arith, length, ◌∙◌}
use Rattle.opl_ground_text.specs.Texts.{constraint_line, constraints_heading, ground_text, lines, variable_line, variables_heading}
use Rattle.opl_ground_text.proofs.lines.ground_text.Goals as goal

pub returns : goal.returns
unfolding ground_text
returns c =
    let core = c.args.core.now in
    let whole : c.loop-number-2.number ≡ length core.cons = omega arith in
    c.loop-number-2.invariant ∙ ap (λ n. variables_heading core ++ lines (variable_line core) (length core.sets) ++ constraints_heading core ++ lines (constraint_line core) n) whole
