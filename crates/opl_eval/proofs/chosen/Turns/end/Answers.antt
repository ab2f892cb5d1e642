use Rattle.std.proofs.Common.{arith}
use Rattle.std.specs.HashMap.{get_by}
use Rattle.std.specs.Str.{bytes_eq}
use Rattle.opl_eval.proofs.TurnNames.{end-known, end-unknown}
use Rattle.opl_eval.proofs.chosen.Turns.end.Goals as goal

pub returns-in-Some-clause-none_behind : goal.returns-in-Some-clause-none_behind
returns-in-Some-clause-none_behind c =
    end-known c.args.name.now (get_by (λ k. bytes_eq c.args.name.now k.now) c.args.self.now.ends) c.in-Some.end c.lesser.result c.args.self.now.chosen.items
    c.in-Some.ensures (c.args.self.now.are_behind c.args.name.now) (omega (arith, c.lesser.ensures, c.len-count.ensures))

pub returns-in-None-clause-none_behind : goal.returns-in-None-clause-none_behind
returns-in-None-clause-none_behind c =
    end-unknown c.args.name.now (get_by (λ k. bytes_eq c.args.name.now k.now) c.args.self.now.ends) c.args.self.now.chosen.items c.in-None.ensures (c.args.self.now.are_behind c.args.name.now)
