use Rattle.std.proofs.Common.{◌∷◌, [], ◌++◌, subst, sym, arith, true}
use Rattle.opl_engine.specs.Members.{fact_of}
use Rattle.opl_engine.specs.Engines.{IsGrown}
use Rattle.opl_engine.proofs.Made.{member_there, grown_added}
use Rattle.opl_engine.proofs.base.grow.Goals as goal

pub add-requires : goal.add-requires
add-requires c = λ x h. let l = member_there c.args.core.now c.args.member x c.requires.member h in omega (arith, l, c.requires.variables)

pub returns : goal.returns
returns c = λ P g.
    subst (IsGrown c.args.core.now (P ++ fact_of c.args.core.now c.args.member ∷ [])) (sym c.in_ok-add.ensures.ok)
    (grown_added c.args.core.now P c.args.members.now c.args.member (c.args.members.now.waits ++ true ∷ []) c.args.members.now.notes g c.requires.member)
