use Rattle.std.proofs.Common.{rules, ap, sym, ◌∙◌, ◌-◌, [], arith}
use Rattle.std.proofs.lemmas.Grind.{common_steps}
use Rattle.opl_grammar.specs.Input.{left, behind, behind_from}
use Rattle.opl_grammar.proofs.Turns.{no_turn, one_more}
use Rattle.opl_grammar.proofs.list.behind.Goals as goal

pub loop-turn-init : goal.loop-turn-init
unfolding behind
loop-turn-init g c =
    no_turn (λ n. behind_from c.args.sign (g.P.Part.begins c.args.part.now) (g.P.Part.part c.args.part.now) n [] c.args.cursor.now) (left c.args.cursor.now) c.turns-turn-end.result c.turns-turn-end.ensures
    ∙ ap (λ xs. behind_from c.args.sign (g.P.Part.begins c.args.part.now) (g.P.Part.part c.args.part.now) (c.turns-turn-end.result - 0) xs c.args.cursor.now) (sym c.new-found.ensures)

pub returns-then-not-eat_sign : goal.returns-then-not-eat_sign
unfolding behind_from
returns-then-not-eat_sign g c =
    let e = one_more (λ n. behind_from c.args.sign (g.P.Part.begins c.args.part.now) (g.P.Part.part c.args.part.now) n c.loop-turn.found c.loop-turn.cursor) _ c.loop-turn._turn c.loop-turn-test.true c.loop-turn.invariant in
    grind (arith, common_steps)

pub returns-in_err-before : goal.returns-in_err-before
unfolding behind_from
returns-in_err-before g c =
    let e = one_more (λ n. behind_from c.args.sign (g.P.Part.begins c.args.part.now) (g.P.Part.part c.args.part.now) n c.loop-turn.found c.loop-turn.cursor) _ c.loop-turn._turn c.loop-turn-test.true c.loop-turn.invariant in
    grind (arith, common_steps)

pub loop-turn-preserved : goal.loop-turn-preserved
unfolding behind_from
loop-turn-preserved g c =
    let e = one_more (λ n. behind_from c.args.sign (g.P.Part.begins c.args.part.now) (g.P.Part.part c.args.part.now) n c.loop-turn.found c.loop-turn.cursor) _ c.loop-turn._turn c.loop-turn-test.true c.loop-turn.invariant in
    grind (arith, common_steps)
