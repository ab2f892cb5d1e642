-- Names inside those of a model hide them; the structs and the section that is read stay as they are.
use Rattle.std.proofs.Common.{◌≡◌, ℕ, List, [], ◌∷◌, refl, ◌∙◌}
use Rattle.opl_type_rules.specs.declared.names.Local.{Local}
use Rattle.opl_type_rules.specs.declared.names.Names.{Names}
use Rattle.opl_type_rules.specs.Types.{Sort, sort}
use Rattle.opl_type_rules.specs.Scope.{Scope, Text, declared, fields, field_sorts, fit_one_struct}
use Rattle.opl_type_rules.specs.Scope.Thing.{value}
use Rattle.opl_type_rules.specs.Values.{with_locals, within, scope_of}

-- what the rules ask of a scope, other than what its names stand for
pub record Alike (sc other : Scope) : Type 0 where
  pub structs : (k : ℕ) → fields sc k ≡ fields other k
  pub sorts : field_sorts sc ≡ field_sorts other
  pub records : (a b : Sort) → fit_one_struct sc a b ≡ fit_one_struct other a b
  pub search : sc.is_search ≡ other.is_search

alike-same : (sc : Scope) → Alike sc sc
alike-same sc = record { structs = λ k. refl; sorts = refl; records = λ a b. refl; search = refl }

alike-then : (a b c : Scope) → Alike a b → Alike b c → Alike a c
alike-then a b c x y = record { structs = λ k. x.structs k ∙ y.structs k; sorts = x.sorts ∙ y.sorts; records = λ s t. x.records s t ∙ y.records s t; search = x.search ∙ y.search }

alike-declared : (name : Text) (s : Sort) (sc : Scope) → Alike (declared name (value s) sc) sc
unfolding declared fields field_sorts fit_one_struct
alike-declared name s sc = record { structs = λ k. refl; sorts = refl; records = λ a b. refl; search = refl }

alike-locals : (ls : List Local) (sc : Scope) → Alike (with_locals ls sc) sc
alike-locals [] sc = alike-same sc
alike-locals (l ∷ ls) sc = alike-then _ _ sc (alike-locals ls (declared l.name (value (sort l.ty)) sc)) (alike-declared l.name (sort l.ty) sc)

pub alike-within : (n : Names) (ls : List Local) → Alike (within n ls) (scope_of n)
unfolding within
alike-within n ls = alike-locals ls (scope_of n)
