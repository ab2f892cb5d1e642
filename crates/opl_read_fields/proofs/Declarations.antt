-- What declarations name, and what they write.
use Rattle.std.proofs.Common.{ℕ, List, [], ◌∷◌, ◌++◌, map, Option, None, Some}
use Rattle.std.specs.List.{AllZip}
use Rattle.std.specs.Option.{option_map}
use Rattle.opl_token.specs.declared.sign.Sign.TheVariants as signs
use Rattle.opl_tree.specs.declared.declaration.BoundsTree.{BoundsTree}
use Rattle.opl_tree.specs.declared.declaration.DeclTree.{DeclTree}
use Rattle.opl_tree.specs.declared.declaration.DeclTree.TheVariants as decls
use Rattle.opl_tree.specs.declared.declaration.DimTree.{DimTree}
use Rattle.opl_tree.specs.declared.declaration.DimsTree.{DimsTree}
use Rattle.opl_tree.specs.declared.declaration.InitialTree.{InitialTree}
use Rattle.opl_tree.specs.declared.declaration.InitialTree.TheVariants as initials
use Rattle.opl_tree.specs.declared.expression.AddTree.{AddTree}
use Rattle.opl_tree.specs.declared.keyword.Keyword.TheVariants as keywords
use Rattle.opl_tree.specs.Marks.{Marks, Part, after, before, joined, marks_activity, marks_add, marks_bounds, marks_data, marks_decl, marks_dim, marks_dims, marks_discrete, marks_initial, marks_name, marks_range, marks_schedule, marks_type, marks_unary, marks_variable, marks_variable_type, sign, word, written}
use Rattle.opl_model_types.specs.Declarations.{decl, next, shape}
use Rattle.opl_fields.specs.Typed.{scope_behind}
use Rattle.opl_fields.specs.Whole.{Named, behind_dims, in_add_if_written, in_bounds, in_decl, in_decls, in_dim, in_dims, in_initial, scope_inside}
use Rattle.opl_read_fields.proofs.Parts.{Told, before_marks, behind_mark, behind_marks, both, elsewhere, in_level, none, turn_behind}
use Rattle.opl_read_fields.proofs.Expressions.{told_add, told_set}

each_told : {T : Type 0} (n : T → Named) (m : T → Marks) → ((t : T) → Told (n t) (m t)) → (ts : List T) → AllZip Told (map n ts) (map m ts)
each_told n m h [] = tt
each_told n m h (t ∷ ts) = (h t, each_told n m h ts)

module _ (ds : List DeclTree) where
  pub told_maybe : (p : Part) (t : Option AddTree) → Told (in_add_if_written ds t) (after p (option_map marks_add t))
  told_maybe p None = none
  told_maybe p (Some t) = behind_mark _ (told_add ds t)

  told_dim : (t : DimTree) → Told (in_dim ds t) (marks_dim t)
  unfolding marks_dim
  told_dim t = behind_mark _ (behind_marks (before (word keywords.In) (option_map marks_name t.name)) (told_set ds t.set))

  told_dims : (t : Option DimsTree) → Told (in_dims ds t) (written (option_map marks_dims t))
  unfolding marks_dims
  told_dims None = none
  told_dims (Some t) = behind_mark _ (before_marks _ (in_level _ (both (told_dim t.first) (turn_behind signs.Comma (map (in_dim ds) t.rest) (map marks_dim t.rest) (each_told (in_dim ds) marks_dim told_dim t.rest)))))

  -- dimensions, and what stands behind them
  told_behind : (t : Option DimsTree) {n : Named} {ms : Marks} → Told n ms → Told (behind_dims ds t n) (written (option_map marks_dims t) ++ ms)
  told_behind t h = both (told_dims t) (elsewhere (λ sc. scope_inside ds sc (shape sc t)) h)

  told_initial : (t : InitialTree) → Told (in_initial ds t) (marks_initial t)
  unfolding marks_initial
  told_initial (initials.External at) = none
  told_initial (initials.Written t) = told_add ds t

  told_bounds : (t : Option BoundsTree) → Told (in_bounds ds t) (written (option_map marks_bounds t))
  unfolding marks_bounds
  told_bounds None = none
  told_bounds (Some t) = behind_mark _ (behind_mark _ (both (told_add ds t.low) (behind_mark _ (told_add ds t.high))))

  told_decl : (t : DeclTree) → Told (in_decl ds t) (marks_decl t)
  unfolding marks_decl marks_data marks_range marks_variable marks_activity marks_unary marks_discrete marks_schedule
  told_decl (decls.Data t) = behind_mark _ (behind_marks (marks_type t.kind) (behind_marks (marks_name t.name) (told_behind t.dims (behind_mark _ (before_marks _ (told_initial t.initial))))))
  told_decl (decls.Range t) = behind_mark _ (behind_mark _ (behind_marks (marks_name t.name) (both (told_add ds t.low) (behind_mark _ (before_marks _ (told_add ds t.high))))))
  told_decl (decls.Enumeration t) = none
  told_decl (decls.Structure t) = none
  told_decl (decls.Variable t) = behind_mark _ (behind_mark _ (behind_marks (marks_variable_type t.kind) (behind_marks (marks_name t.name) (told_behind t.dims (before_marks _ (told_bounds t.bounds))))))
  told_decl (decls.Activity t) = behind_mark _ (behind_mark _ (behind_marks (marks_name t.name) (told_behind t.dims (before_marks _ (in_level _ (both (told_add ds t.shortest) (told_maybe (sign signs.Range) t.longest)))))))
  told_decl (decls.Unary t) = behind_mark _ (behind_mark _ (behind_marks (marks_name t.name) (before_marks _ (told_dims t.dims))))
  told_decl (decls.Discrete t) = behind_mark _ (behind_mark _ (behind_marks (marks_name t.name) (told_behind t.dims (before_marks _ (in_level _ (told_add ds t.capacity))))))
  told_decl (decls.Schedule t) = behind_mark _ (behind_mark _ (behind_mark _ (before_marks _ (told_add ds t.value))))

  pub told_decls : (ts : List DeclTree) (k : ℕ) → Told (in_decls ds k ts) (joined (map marks_decl ts))
  told_decls [] k = none
  told_decls (t ∷ ts) k = both (told_decl t) (elsewhere (λ sc. scope_behind sc (decl k sc t)) (told_decls ts (next k)))
