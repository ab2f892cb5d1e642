use Rattle.std.proofs.Common.{◌≡◌, [], map, ap}
use Rattle.std.proofs.lemmas.Result.{err_from_is_err_and}
use Rattle.opl_type_rules.specs.Types.{sort}
use Rattle.opl_type_rules.specs.Values.{scope_of}
use Rattle.opl_model_types.proofs.Models.{declared-faulty, instr-faulty}
use Rattle.opl_model_types.proofs.typed.kinds_of.Goals as goal

pub returns-in_err-all_decls : goal.returns-in_err-all_decls
returns-in_err-all_decls c =
    let none : c.new-kinds.result ≡ [] = cc (c.new-kinds.ensures) in
    let p = err_from_is_err_and c.from_residual.result c.from_residual.ensures.1 in
    rw (p.1, p.2) (declared-faulty c.args.model.now c.as_slice.result.now (map sort c.new-kinds.result) (scope_of c.new-names.result) c.in_err-all_decls.field-0.0 c.in_err-all_decls.ensures
    (cc (c.as_slice.ensures)) (ap (map sort) none) c.new-names.ensures)

pub returns-in_err-instr : goal.returns-in_err-instr
returns-in_err-instr c =
    let none : c.new-kinds.result ≡ [] = cc (c.new-kinds.ensures) in
    let p = err_from_is_err_and c.from_residual-in_err-instr.result c.from_residual-in_err-instr.ensures.1 in
    rw (p.1, p.2) (instr-faulty c.args.model.now c.as_slice.result.now (map sort c.new-kinds.result) (scope_of c.new-names.result)
    (record { scope = scope_of c.all_decls.new.model; kinds = map sort c.all_decls.new.kinds }) c.in_err-instr.field-0.0 c.in_ok-all_decls.ensures c.in_err-instr.ensures
    (cc (c.as_slice.ensures)) (ap (map sort) none) c.new-names.ensures)
