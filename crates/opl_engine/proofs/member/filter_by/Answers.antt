use Rattle.std.proofs.Common.{length, subst}
use Rattle.opl_notes.proofs.Rightness.{tells_none}
use Rattle.opl_engine.specs.Members.{means_member, IsMember}
use Rattle.opl_engine.proofs.SameMembers.{declared_same, posted_same}
use Rattle.opl_engine.proofs.Made.{inside_declared}
use Rattle.opl_engine.proofs.member.filter_by.Goals as goal

pub keep_value-requires : goal.keep_value-requires
keep_value-requires g c =
    let core = c.args.core.now in
    inside_declared core (length (g.N.View.family c.args.n.now)) c.in-Value.x c.requires.declared.same (subst (IsMember core) c.in-Value.is c.requires.made)

pub returns-in-Some-clause-same : goal.returns-in-Some-clause-same
returns-in-Some-clause-same g c =
    declared_same c.args.member.now c.in-Declared.place c.in-Declared.variables c.in-Declared.form c.filter_constraint.new.form c.in-Declared.is c.filter_constraint.ensures.form

pub returns-in-Posted-clause-same : goal.returns-in-Posted-clause-same
returns-in-Posted-clause-same g c =
    posted_same c.args.member.now c.in-Posted.c c.in-Posted.variables c.in-Posted.form c.filter_constraint-in-Posted.new.form c.in-Posted.is c.filter_constraint-in-Posted.ensures.form

pub returns-in-Bound-clause-tells : goal.returns-in-Bound-clause-tells
returns-in-Bound-clause-tells g c =
    let b = c.filter_bound.ensures.between in
    tells_none (means_member c.args.core.now c.args.member.now) c.args.notes.now (g.N.View.family c.args.n.now) (g.N.View.family c.filter_bound.new.n) b.sets.full b.below

pub returns-in-None-clause-tells : goal.returns-in-None-clause-tells
returns-in-None-clause-tells g c =
    let b = c.keep_all.ensures.between in
    tells_none (means_member c.args.core.now c.args.member.now) c.args.notes.now (g.N.View.family c.args.n.now) (g.N.View.family c.keep_all.new.n) b.sets.full b.below

pub returns-in-Value-clause-tells : goal.returns-in-Value-clause-tells
returns-in-Value-clause-tells g c =
    let b = c.keep_value.ensures.between in
    tells_none (means_member c.args.core.now c.args.member.now) c.args.notes.now (g.N.View.family c.args.n.now) (g.N.View.family c.keep_value.new.n) b.sets.full b.below
