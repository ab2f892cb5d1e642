use Rattle.std.proofs.Common.{refl}
use Rattle.opl_declaration_types.proofs.Declared.{origin-given, horizon-given}
use Rattle.opl_declaration_types.proofs.declaration.give.Goals as goal

pub returns-in-Origin : goal.returns-in-Origin
returns-in-Origin c = origin-given c.args.model.now _ c.args.end c.in-Origin.is refl refl refl refl

pub returns-in-Horizon : goal.returns-in-Horizon
returns-in-Horizon c = horizon-given c.args.model.now _ c.args.end c.in-Horizon.is refl refl refl refl
