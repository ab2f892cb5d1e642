use Rattle.opl_given.specs.Readings.{known_of}
use Rattle.opl_bind.proofs.Answering.{gives_same}
use Rattle.opl_bind.proofs.WrittenScopes.{written_value-is}
use Rattle.opl_bind.proofs.written.written_value.Goals as goal

pub returns : goal.returns
returns c =
    gives_same (λ a. a) _ _ c.fitted.result
    (written_value-is (known_of c.args.types.now) c.args.environment.now c.args.form.now c.args.term.now)
    c.fitted.ensures
