-- A model has one list of types or one first fault.
use Rattle.std.proofs.Common.{◌≡◌, List, Ok, Err}
use Rattle.opl_type_rules.specs.declared.fault.TypeFault.{TypeFault}
use Rattle.opl_type_rules.specs.Types.{Sort}
use Rattle.opl_type_rules.specs.Scope.{Checked}
use Rattle.opl_model_types.specs.Models.{model}
use Rattle.opl_model_types.specs.Laws.{OneList, NoFault, OneFault}

same_ok : (c : Checked (List Sort)) (ks ms : List Sort) → c ≡ Ok ks → c ≡ Ok ms → ks ≡ ms
same_ok c ks ms h g = cc

no_fault : (c : Checked (List Sort)) (ks : List Sort) (e : TypeFault) → c ≡ Ok ks → c ≡ Err e → ⊥
no_fault c ks e h g = cc

same_fault : (c : Checked (List Sort)) (d e : TypeFault) → c ≡ Err d → c ≡ Err e → d ≡ e
same_fault c d e h g = cc

pub one_list : OneList
one_list t ks ms h g = same_ok (model t) ks ms h g

pub none_faulty : NoFault
none_faulty t ks e h g = no_fault (model t) ks e h g

pub one_fault : OneFault
one_fault t d e h g = same_fault (model t) d e h g
