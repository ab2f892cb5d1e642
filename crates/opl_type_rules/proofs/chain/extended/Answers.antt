use Rattle.std.proofs.Common.{◌≡◌, ◌++◌, ap}
use Rattle.opl_type_rules.specs.Steps.{firsts, others}
use Rattle.opl_type_rules.specs.Values.{node_of}
use Rattle.opl_type_rules.proofs.Links.{turned-grown}
use Rattle.opl_type_rules.proofs.chain.extended.Goals as goal

pub returns : goal.returns
returns c =
    let p : c.add_inner.new.before ≡ c.args.before ++ firsts c.args.last.inner = cc (c.in_ok-add_inner.ensures.0) in
    let q : c.add_inner.new.behind ≡ c.args.behind ++ others c.args.last.inner = cc (c.in_ok-add_inner.ensures.1) in
    ap (λ ks. record (node_of c.args.last) { inner = ks }) (turned-grown c.args.before c.args.behind c.add_inner.new.before c.add_inner.new.behind c.args.last.inner p q)
