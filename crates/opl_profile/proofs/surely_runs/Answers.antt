use Rattle.std.proofs.Common.{◌≡◌, ◌&&◌, rules, arith, ap, sym, ◌∙◌, ◌+ℤ◌}
use Rattle.std.specs.Prelude.{FitsSigned, int_le, int_lt}
use mir.Syntax.{w64, w128}
use Rattle.std.proofs.lemmas.Int.{ints, to_z-of_z}
use Rattle.opl_profile.proofs.Running.{runs_surely, with_hull}
use Rattle.opl_profile.specs.Activities.{surely_runs}
use Rattle.opl_profile.proofs.surely_runs.Goals as goal

pub returns-then-latest_start-time : goal.returns-then-latest_start-time
returns-then-latest_start-time g c =
    let F = g.V.View.family c.args.view.now in
    let u = c.args.u.now in
    let t = c.args.time in
    let latest : FitsSigned w64 c.max-latest_start.result = search rules in
    let earliest : FitsSigned w64 c.min.result = search rules in
    let shortest : FitsSigned w64 c.min-2.result = search rules in
    let time : FitsSigned w64 t = c.ranges.time in
    let wide_latest : FitsSigned w128 c.max-latest_start.result = omega (arith, ints) in
    let wide_earliest : FitsSigned w128 c.min.result = omega (arith, ints) in
    let wide_shortest : FitsSigned w128 c.min-2.result = omega (arith, ints) in
    let wide_time : FitsSigned w128 t = omega (arith, ints) in
    let end : FitsSigned w128 (c.min.result +ℤ c.min-2.result) = omega (arith, ints) in
    let test = simp to_z-of_z at c.if-latest_start-time.true in
    let whole : (int_le c.max-latest_start.result t && int_lt t (c.min.result +ℤ c.min-2.result)) ≡ surely_runs F t u =
    runs_surely F u t c.min.result c.max-latest_start.result c.min-2.result (with_hull F u.duration c.min-2.result c.min-2.ensures).0
    (record { least = c.min.ensures; greatest = c.max-latest_start.ensures }) (with_hull F u.duration c.min-2.result c.min-2.ensures).1 c.requires.start c.requires.duration in
    simp to_z-of_z (ap (λ b. b && int_lt t (c.min.result +ℤ c.min-2.result)) (sym test) ∙ whole)

pub returns-else-latest_start-time : goal.returns-else-latest_start-time
returns-else-latest_start-time g c =
    let F = g.V.View.family c.args.view.now in
    let u = c.args.u.now in
    let t = c.args.time in
    let latest : FitsSigned w64 c.max-latest_start.result = search rules in
    let time : FitsSigned w64 t = c.ranges.time in
    let wide_latest : FitsSigned w128 c.max-latest_start.result = omega (arith, ints) in
    let wide_time : FitsSigned w128 t = omega (arith, ints) in
    let test = simp to_z-of_z at c.if-latest_start-time.false in
    let whole : (int_le c.max-latest_start.result t && int_lt t (c.min.result +ℤ c.min-2.result)) ≡ surely_runs F t u =
    runs_surely F u t c.min.result c.max-latest_start.result c.min-2.result (with_hull F u.duration c.min-2.result c.min-2.ensures).0
    (record { least = c.min.ensures; greatest = c.max-latest_start.ensures }) (with_hull F u.duration c.min-2.result c.min-2.ensures).1 c.requires.start c.requires.duration in
    simp to_z-of_z (test ∙ sym (ap (λ b. b && int_lt t (c.min.result +ℤ c.min-2.result)) test) ∙ whole)
