use Rattle.std.proofs.Common.{◌≡◌, ◌++◌, ap}
use Rattle.std.specs.Prelude.{reverse}
use Rattle.opl_type_rules.specs.Values.{node_of}
use Rattle.opl_type_rules.proofs.Links.{turned-sorts}
use Rattle.opl_type_rules.proofs.chain.ended.Goals as goal

pub returns : goal.returns
returns c =
    let p : c.append.new.front ≡ reverse c.args.chain.before ++ c.args.chain.behind = cc (c.in_ok-append.ensures) in
    ap (λ ks. record (node_of c.args.chain.last) { inner = ks }) (turned-sorts c.args.chain.before c.args.chain.behind c.append.new.front p)
