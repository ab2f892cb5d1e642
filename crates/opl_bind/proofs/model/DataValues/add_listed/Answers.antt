use Rattle.std.proofs.Common.{◌≡◌, map, subst, sym}
use Rattle.opl_eval.specs.Visible.{seen}
use Rattle.opl_bind.specs.Bind.{with_listed}
use Rattle.opl_given.specs.Readings.{known_of}
use Rattle.opl_bind.specs.Readings.{data_of}
use Rattle.opl_bind.proofs.Data.{listed-kept}
use Rattle.opl_bind.proofs.Answering.{does_more}
use Rattle.opl_bind.proofs.model.DataValues.add_listed.Goals as goal

pub returns-in-Listed : goal.returns-in-Listed
returns-in-Listed c =
    does_more _ _ c.add_values.result
    (λ r p. subst (λ written. data_of c.add_values.new.self ≡ with_listed written (map (λ name. name.now) c.args.names.now) (data_of c.args.self.now)) (sym c.in-Listed.is)
    (listed-kept (known_of c.args.self.now.types) (known_of c.add_values.new.self.types) (seen c.args.self.now.environment) (seen c.add_values.new.self.environment) c.in-Listed.field-0 c.in-Listed.field-1 c.in-Listed.field-2 (map (λ name. name.now) c.args.names.now) p))
    c.add_values.ensures
