use Rattle.std.proofs.Common.{map, subst}
use Rattle.opl_model_types.specs.declared.typed.Typed.{Typed}
use Rattle.opl_model_types.specs.Models as spec
use Rattle.opl_type_rules.specs.Types.{sort}
use Rattle.opl_type_rules.specs.Values.{Gives}
use Rattle.opl_type_rules.proofs.Links.{gives-other}
use Rattle.opl_model_types.proofs.typed.with_kinds.Goals as goal

pub returns-in-Err-clause-gives : goal.returns-in-Err-clause-gives
returns-in-Err-clause-gives c =
    gives-other {D = Typed} (map sort) (λ t. map sort t.kinds) (spec.model c.args.model) c.in-Err.fault (subst (Gives (map sort) (spec.model c.args.model)) c.in-Err.is c.requires)
