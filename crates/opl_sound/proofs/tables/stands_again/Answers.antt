use Rattle.std.proofs.Common.{◌≡◌, ◌+◌, ◌-◌, ap, sym, ◌∙◌, of_z, get_or, pos, drop, rules, arith}
use Rattle.std.specs.Prelude.{FitsSigned}
use mir.Syntax.{w128}
use Rattle.opl_domain.specs.Family.{member}
use Rattle.opl_expr.proofs.Parts.{drop_none, same_bits_128}
use Rattle.opl_sound.proofs.Lists.{found_behind, not_yet_found}
use Rattle.opl_sound.proofs.tables.stands_again.Goals as goal

pub loop-left-init : goal.loop-left-init
loop-left-init c = (omega (arith, c.requires), omega arith, ap (member (get_or c.args.numbers.now c.args.place (pos 0))) (drop_none c.args.numbers.now))

pub returns-then-v-numbers : goal.returns-then-v-numbers
returns-then-v-numbers c =
    let first : FitsSigned w128 (get_or c.args.numbers.now c.args.place (pos 0)) = search rules in
    let second : FitsSigned w128 (get_or c.args.numbers.now (c.loop-left.left - 1) (pos 0)) = search rules in
    found_behind (get_or c.args.numbers.now c.args.place (pos 0)) c.args.numbers.now (c.args.place + 1) (c.loop-left.left - 1) (omega (arith, c.loop-left-test.true)) (omega (arith, c.loop-left-test.true, c.loop-left.invariant.1)) (same_bits_128 _ _ first second c.if-v-numbers.true)

pub loop-left-preserved : goal.loop-left-preserved
loop-left-preserved c = (
  omega (arith, c.loop-left-test.true),
  omega (arith, c.loop-left.invariant.1),
  not_yet_found (get_or c.args.numbers.now c.args.place (pos 0)) c.args.numbers.now c.loop-left.left (omega (arith, c.loop-left-test.true)) c.loop-left.invariant.1 (λ e. c.if-v-numbers.false (ap (of_z w128) e)) c.loop-left.invariant.2,
)

pub returns : goal.returns
returns c =
    let same : c.loop-left.left ≡ c.args.place + 1 = omega (arith, c.loop-left-test.false, c.loop-left.invariant.0) in
    sym c.loop-left.invariant.2 ∙ ap (λ k. member (get_or c.args.numbers.now c.args.place (pos 0)) (drop k c.args.numbers.now)) same
