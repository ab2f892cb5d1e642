use Rattle.std.proofs.Common.{rules, ap, sym, ◌∙◌, ◌-◌, [], arith}
use Rattle.std.proofs.lemmas.Grind.{common_steps}
use Rattle.opl_grammar.specs.Input.{left, many, many_from}
use Rattle.opl_grammar.proofs.Turns.{no_turn, one_more}
use Rattle.opl_grammar.proofs.list.many.Goals as goal

pub loop-turn-init : goal.loop-turn-init
unfolding many
loop-turn-init g c =
    no_turn (λ n. many_from (g.P.Part.begins c.args.part.now) (g.P.Part.part c.args.part.now) n [] c.args.cursor.now) (left c.args.cursor.now) c.turns-turn-end.result c.turns-turn-end.ensures
    ∙ ap (λ xs. many_from (g.P.Part.begins c.args.part.now) (g.P.Part.part c.args.part.now) (c.turns-turn-end.result - 0) xs c.args.cursor.now) (sym c.new-found.ensures)

pub loop-turn-preserved : goal.loop-turn-preserved
unfolding many_from
loop-turn-preserved g c =
    let e = one_more (λ n. many_from (g.P.Part.begins c.args.part.now) (g.P.Part.part c.args.part.now) n c.loop-turn.found c.loop-turn.cursor) _ c.loop-turn._turn c.loop-turn-test.true c.loop-turn.invariant in
    grind (arith, common_steps)
