use Rattle.std.proofs.Common.{rules, ap, sym, ◌∙◌, ◌-◌, [], arith}
use Rattle.std.proofs.lemmas.Grind.{common_steps}
use Rattle.opl_grammar.specs.Input.{left}
use Rattle.opl_grammar.specs.Rules.{steps, steps_from}
use Rattle.opl_grammar.proofs.Turns.{no_turn, one_more}
use Rattle.opl_level.proofs.below.Level.steps.Goals as goal

pub loop-turn-init : goal.loop-turn-init
unfolding steps
loop-turn-init g c =
    no_turn (λ n. steps_from (g.B.Below.rules c.args.self.now.below) n [] c.args.cursor.now) (left c.args.cursor.now) c.turns-turn-end.result c.turns-turn-end.ensures
    ∙ ap (λ xs. steps_from (g.B.Below.rules c.args.self.now.below) (c.turns-turn-end.result - 0) xs c.args.cursor.now) (sym c.new-found.ensures)

pub returns-in_err-before-2 : goal.returns-in_err-before-2
unfolding steps_from
returns-in_err-before-2 g c =
    let e = one_more (λ n. steps_from (g.B.Below.rules c.args.self.now.below) n c.loop-turn.found c.loop-turn.cursor) _ c.loop-turn._turn c.loop-turn-test.true c.loop-turn.invariant in
    grind (arith, common_steps)

pub returns-in-Open : goal.returns-in-Open
unfolding steps_from
returns-in-Open g c =
    let e = one_more (λ n. steps_from (g.B.Below.rules c.args.self.now.below) n c.loop-turn.found c.loop-turn.cursor) _ c.loop-turn._turn c.loop-turn-test.true c.loop-turn.invariant in
    grind (arith, common_steps)

pub loop-turn-preserved : goal.loop-turn-preserved
unfolding steps_from
loop-turn-preserved g c =
    let e = one_more (λ n. steps_from (g.B.Below.rules c.args.self.now.below) n c.loop-turn.found c.loop-turn.cursor) _ c.loop-turn._turn c.loop-turn-test.true c.loop-turn.invariant in
    grind (arith, common_steps)
