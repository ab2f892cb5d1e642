use Rattle.std.proofs.Common.{ap, []}
use Rattle.opl_given.specs.Forms.{with_declaration, with_struct}
use Rattle.opl_given.specs.Readings.{given_of}
use Rattle.opl_bind.specs.Bind.{with_decl, with_known}
use Rattle.opl_bind.specs.Readings.{data_of}
use Rattle.opl_bind.proofs.Answering.{gives_same}
use Rattle.opl_bind.proofs.Data.{decl-none}
use Rattle.opl_bind.proofs.TakenArrays.{gives_done}
use Rattle.opl_bind.proofs.model.add_decl.Goals as goal

pub returns-in-Data : goal.returns-in-Data
returns-in-Data c =
    gives_same (λ _. data_of c.add_item.new.before) _ _ c.add_item.result
    (ap (λ u. with_decl (given_of c.args.given.now) c.args.overrides.now u (data_of c.args.before.now)) c.in-Data.is) c.add_item.ensures

pub returns-in-Range : goal.returns-in-Range
returns-in-Range c =
    gives_same (λ _. data_of c.add_range.new.before) _ _ c.add_range.result
    (ap (λ u. with_decl (given_of c.args.given.now) c.args.overrides.now u (data_of c.args.before.now)) c.in-Range.is) c.add_range.ensures

pub returns-in-Enumeration : goal.returns-in-Enumeration
returns-in-Enumeration c =
    gives_same (λ _. data_of c.add_enumeration.new.before) _ _ c.add_enumeration.result
    (ap (λ u. with_decl (given_of c.args.given.now) c.args.overrides.now u (data_of c.args.before.now)) c.in-Enumeration.is) c.add_enumeration.ensures

pub returns-in-Structure : goal.returns-in-Structure
returns-in-Structure c =
    gives_done (λ _. data_of c.add_struct.new.self) _ (with_known (with_struct c.in-Structure.t (data_of c.args.before.now).known) (data_of c.args.before.now)) c.add_struct.result
    (ap (λ u. with_decl (given_of c.args.given.now) c.args.overrides.now u (data_of c.args.before.now)) c.in-Structure.is) c.add_struct.ensures

pub returns-in-Variable : goal.returns-in-Variable
returns-in-Variable c =
    gives_done (λ _. data_of c.add_none.new.self) _ (with_known (with_declaration [] [] (data_of c.args.before.now).known) (data_of c.args.before.now)) c.add_none.result
    (decl-none (given_of c.args.given.now) c.args.overrides.now c.args.t.now (data_of c.args.before.now) c.in-Variable.is) c.add_none.ensures
