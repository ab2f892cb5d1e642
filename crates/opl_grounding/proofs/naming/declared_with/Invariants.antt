use Rattle.std.proofs.Common.{◌≡◌, ◌++◌, map, drop}
use Rattle.opl_declared.specs.Kept.{firsts_of, texts_of}
use Rattle.opl_nodes.specs.Contexts.{cells}
use Rattle.opl_grounding.proofs.naming.declared_with.Given as goal

-- the names of the arrays so far, and of those that are left
abbrev pub invariant-loop-array : goal.invariant-loop-array
invariant-loop-array l = record {
  items : l.declared.items.now ≡ l.variables;
  names : texts_of l.declared.names ≡ map (λ v. v.name) l.variables;
  firsts : l.declared.firsts ≡ firsts_of 0 l.variables;
  arrays : texts_of l.declared.arrays ++ map (λ a. a.name) (map cells (drop l.array-index l.arrays)) ≡ map (λ a. a.name) (map cells l.arrays);
}
