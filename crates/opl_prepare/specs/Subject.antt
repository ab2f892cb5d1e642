-- What a call is about: a model with its data.
use Rattle.opl_expr.specs.declared.model.Core.{Core}
use Rattle.opl_optimum.specs.Optima.{Problem}
use Rattle.opl_show.specs.Texts.{Enumerations}

-- a model with its data and its objective, the names of its enumerations, as which their values are printed, and its core
pub record Subject : Type 0 where
  pub problem : Problem
  pub enumerations : Enumerations
  pub core : Core
