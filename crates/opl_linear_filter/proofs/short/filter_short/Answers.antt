use Rattle.std.proofs.Common.{◌≡◌, arith, length, [], ◌∷◌}
use Rattle.std.proofs.lemmas.Int.{to_z-of_z}
use Rattle.opl_filter.proofs.Refuting.{refutes_falls}
use Rattle.opl_linear_filter.specs.ShortForms.{equation}
use Rattle.opl_linear_filter.proofs.Values.{part, one_part, two_parts, parts_there, parts_named, one_listed, two_listed}
use Rattle.opl_linear_filter.proofs.short.filter_short.Goals as goal

pub remove_dead-requires-clause-falls : goal.remove_dead-requires-clause-falls
remove_dead-requires-clause-falls g c = let k = c.ranges.constant in simp to_z-of_z (refutes_falls (equation c.args.parts.now c.args.constant))

pub remove_dead-requires-clause-there : goal.remove_dead-requires-clause-there
remove_dead-requires-clause-there g c =
    let ps = c.args.parts.now in
    let n : length ps ≡ 1 = omega (arith, c.if-parts-eq1.true) in
    parts_there c.args.core.now ps c.args.constant (g.N.View.family c.args.n.now) ((part ps 0).0 ∷ []) c.requires.form c.requires.declared (one_listed ps (part ps 0) (one_part c.args.core.now ps c.args.constant c.requires.form n))

pub remove_dead-requires-clause-others : goal.remove_dead-requires-clause-others
remove_dead-requires-clause-others g c =
    let ps = c.args.parts.now in
    let n : length ps ≡ 1 = omega (arith, c.if-parts-eq1.true) in
    parts_named ps _ ((part ps 0).0 ∷ []) (one_listed ps (part ps 0) (one_part c.args.core.now ps c.args.constant c.requires.form n))

pub remove_dead-requires-2-clause-falls : goal.remove_dead-requires-2-clause-falls
remove_dead-requires-2-clause-falls g c = let k = c.ranges.constant in simp to_z-of_z (refutes_falls (equation c.args.parts.now c.args.constant))

pub remove_dead-requires-2-clause-there : goal.remove_dead-requires-2-clause-there
remove_dead-requires-2-clause-there g c =
    let ps = c.args.parts.now in
    parts_there c.args.core.now ps c.args.constant (g.N.View.family c.args.n.now) ((part ps 0).0 ∷ (part ps 1).0 ∷ []) c.requires.form c.requires.declared (two_listed ps (part ps 0) (part ps 1) (two_parts c.args.core.now ps c.args.constant c.requires.form (λ e. c.if-parts-eq1.false e)))

pub remove_dead-requires-2-clause-others : goal.remove_dead-requires-2-clause-others
remove_dead-requires-2-clause-others g c =
    let ps = c.args.parts.now in
    parts_named ps _ ((part ps 0).0 ∷ (part ps 1).0 ∷ []) (two_listed ps (part ps 0) (part ps 1) (two_parts c.args.core.now ps c.args.constant c.requires.form (λ e. c.if-parts-eq1.false e)))
