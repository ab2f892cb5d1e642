use Rattle.std.proofs.Common.{rules, arith}
use Rattle.std.specs.Prelude.{FitsSigned}
use mir.Syntax.{w128}
use Rattle.std.proofs.lemmas.Int.{ints}
use Rattle.opl_all_different.proofs.Readings.{shares_none, seen_same, seen_more, seen_shares}
use Rattle.opl_all_different.proofs.reading.shares.Goals as goal

pub returns-then-part-eq0-clause-shares : goal.returns-then-part-eq0-clause-shares
returns-then-part-eq0-clause-shares c =
    let k : FitsSigned w128 c.args.part.now.factor = search rules in
    λ ps s. shares_none ps c.args.part.now (omega (arith, ints, c.if-part-eq0.true))

pub returns-then-part-eq0-clause-seen : goal.returns-then-part-eq0-clause-seen
returns-then-part-eq0-clause-seen c =
    let k : FitsSigned w128 c.args.part.now.factor = search rules in
    λ ps s. seen_same c.args.seen.now ps c.args.part.now (omega (arith, ints, c.if-part-eq0.true)) s

pub returns-clause-shares : goal.returns-clause-shares
returns-clause-shares c =
    let k : FitsSigned w128 c.args.part.now.factor = search rules in
    λ ps s. seen_shares c.args.seen.now ps c.args.part.now c.in_ok-insert.field-0 (λ e. c.if-part-eq0.false (omega (arith, ints, e))) c.in_ok-insert.ensures.added s

pub returns-clause-seen : goal.returns-clause-seen
returns-clause-seen c =
    let k : FitsSigned w128 c.args.part.now.factor = search rules in
    λ ps s. seen_more c.args.seen.now c.insert.new.self ps c.args.part.now (λ e. c.if-part-eq0.false (omega (arith, ints, e))) c.in_ok-insert.ensures.updates s
