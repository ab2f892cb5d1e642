-- The decision variables of declarations are visible behind them.
use Rattle.std.proofs.Common.{◌≡◌, ℕ, Bool, true, false, not, ◌||◌, cond, List, [], ◌∷◌, ◌++◌, Option, None, Some, Ok, Err, refl, sym, subst, append-nil, append_assoc}
use Rattle.std.specs.Prelude.{bytes_eq}
use Rattle.opl_tree.specs.declared.declaration.DeclTree.{DeclTree}
use Rattle.opl_tree.specs.declared.declaration.DeclTree.TheVariants as decls
use Rattle.opl_tree.specs.declared.declaration.ScheduleEnd.{ScheduleEnd}
use Rattle.opl_tree.specs.declared.declaration.ScheduleEnd.TheVariants as ends
use Rattle.opl_tree.specs.declared.expression.NameTree.{NameTree}
use Rattle.opl_type_rules.specs.declared.fault.TypeFault.TheVariants.{Duplicate, Mismatch}
use Rattle.opl_type_rules.specs.Types.{Sort}
use Rattle.opl_type_rules.specs.Scope.{Checked, Text, Scope, Thing, and_then, empty_scope, lookup, found, declared, fresh, unless}
use Rattle.opl_type_rules.specs.Scope.Thing.{enum_name, enum_type, variable}
use Rattle.opl_declaration_types.specs.Declarations.{bounds_kinds, cell_indices, decl, all_decls, enum_names, field_list, given, initial_kinds, is_decidable, is_given, next, shape, variable_type, with_names, written_type}
use Rattle.opl_expression_types.specs.Numbers.{maybe_number, number_kinds}
use Rattle.opl_clean.specs.Declared.{variable_name, variable_names}
use Rattle.opl_clean.specs.Laws.{ModelNamesNone}
use Rattle.opl_clean.specs.Mentions.{is_among, KeepsVariables}
use Rattle.opl_clean.proofs.Items.{items_name_none}
use Rattle.opl_clean.proofs.Kept.{Others, fresh-other, fresh-others, keeps-declared}
use Rattle.opl_clean.proofs.Lawful.{Holds, Gives, always, at_ok, ok, or_gives, then}

-- a step of which nothing is said
past : {A B : Type 0} (Q : B → Type 0) (c : Checked A) (f : A → Checked B) → ((a : A) → Holds Q (f a)) → Holds Q (and_then c f)
past Q c f g = then (λ a. Unit {0}) Q c f (always (λ a. Unit {0}) c (λ a. tt)) (λ a u. g a)

no_more : (b : Bool) → b ≡ false → (b || false) ≡ true → false ≡ true
no_more true e h = sym e
no_more false e h = h

-- among one more name
one_more : (names : List Text) (name other : Text) → bytes_eq name other ≡ false → Gives (is_among (names ++ other ∷ []) name) (is_among names name)
one_more [] name other e = no_more (bytes_eq name other) e
one_more (t ∷ ts) name other e = or_gives (bytes_eq name t) (is_among (ts ++ other ∷ []) name) (bytes_eq name t) (is_among ts name) (λ h. h) (one_more ts name other e)

module _ (names : List Text) where
  seen-by : (b : Bool) (name other : Text) (s : Sort) (o : Option Thing) → bytes_eq name other ≡ b → is_among (names ++ other ∷ []) name ≡ true → (is_among names name ≡ true → (r : Sort) × (o ≡ Some (variable r)))
      → (r : Sort) × (cond b (Some (variable s)) o ≡ Some (variable r))
  seen-by true name other s o e m h = (s, refl)
  seen-by false name other s o e m h = h (one_more names name other e m)

  keeps-variable : (n : NameTree) (s : Sort) (sc : Scope) → KeepsVariables names sc → KeepsVariables (names ++ n.text ∷ []) (declared n.text (variable s) sc)
  unfolding declared lookup
  keeps-variable n s sc k = record {
    no_search = k.no_search;
    visible = λ name m. seen-by (bytes_eq name n.text) name n.text s (found name sc.entries) refl m (k.visible name);
  }

  keeps-names : (number : ℕ) (ns : List NameTree) (sc : Scope) → Others names ns → KeepsVariables names sc → KeepsVariables names (with_names number ns sc)
  keeps-names number [] sc h k = k
  keeps-names number (n ∷ ns) sc h k = keeps-names number ns (declared n.text (enum_name number) sc) h.1 (keeps-declared names n (enum_name number) sc h.0 k)

  keeps-given : (e : ScheduleEnd) (sc : Scope) → KeepsVariables names sc → KeepsVariables names (given e sc)
  unfolding lookup
  keeps-given ends.Origin sc k = record { no_search = k.no_search; visible = k.visible }
  keeps-given ends.Horizon sc k = record { no_search = k.no_search; visible = k.visible }

  -- a declaration of something else adds no name
  same : (sc : Scope) → KeepsVariables names sc → KeepsVariables (names ++ []) sc
  same sc k = subst (λ ns. KeepsVariables ns sc) (sym (append-nil names)) k

  told_decl : (number : ℕ) (sc : Scope) (d : DeclTree) → KeepsVariables names sc → Holds (λ o. KeepsVariables (names ++ variable_name d) o.scope) (decl number sc d)
  unfolding decl
  told_decl number sc (decls.Data t) k =
      past _ (written_type t.kind sc) _ (λ s. then _ _ _ _ (fresh-other names sc t.name k) (λ u h. past _ (shape sc t.dims) _ (λ d. past _ (initial_kinds d.inner s (cell_indices d.dims) t.initial) _ (λ kinds.
      ok _ _ (same _ (keeps-declared names t.name _ sc h k))))))
  told_decl number sc (decls.Range t) k =
      then _ _ _ _ (fresh-other names sc t.name k) (λ u h. past _ (number_kinds sc t.low) _ (λ low. past _ (number_kinds sc t.high) _ (λ high. ok _ _ (same _ (keeps-declared names t.name _ sc h k)))))
  told_decl number sc (decls.Enumeration t) k =
      then _ _ _ _ (fresh-others names (t.name ∷ enum_names t.names) sc k) (λ u hs. ok _ _ (same _ (keeps-names number (enum_names t.names) (declared t.name.text (enum_type number) sc) hs.1 (keeps-declared names t.name (enum_type number) sc hs.0 k))))
  told_decl number sc (decls.Structure t) k =
      then _ _ _ _ (fresh-other names sc t.name k) (λ u h. past _ (field_list sc empty_scope (t.first ∷ t.rest)) _ (λ fields. ok _ _ (same _ (keeps-declared names t.name _ sc h k))))
  told_decl number sc (decls.Variable t) k =
      past _ (variable_type sc t.kind) _ (λ s. past _ (fresh sc t.name) _ (λ u. past _ (shape sc t.dims) _ (λ d. past _ (bounds_kinds d.inner t.bounds) _ (λ kinds. past _ (unless (is_decidable t.kind t.bounds s) (Mismatch t.at)) _ (λ v.
      ok _ _ (keeps-variable t.name _ sc k))))))
  told_decl number sc (decls.Activity t) k =
      then _ _ _ _ (fresh-other names sc t.name k) (λ u h. past _ (shape sc t.dims) _ (λ d. past _ (number_kinds d.inner t.shortest) _ (λ shortest. past _ (maybe_number d.inner t.longest) _ (λ longest.
      ok _ _ (same _ (keeps-declared names t.name _ sc h k))))))
  told_decl number sc (decls.Unary t) k = then _ _ _ _ (fresh-other names sc t.name k) (λ u h. past _ (shape sc t.dims) _ (λ d. ok _ _ (same _ (keeps-declared names t.name _ sc h k))))
  told_decl number sc (decls.Discrete t) k =
      then _ _ _ _ (fresh-other names sc t.name k) (λ u h. past _ (shape sc t.dims) _ (λ d. past _ (number_kinds d.inner t.capacity) _ (λ kinds. ok _ _ (same _ (keeps-declared names t.name _ sc h k)))))
  told_decl number sc (decls.Schedule t) k =
      past _ (number_kinds sc t.value) _ (λ kinds. past _ (unless (not (is_given t.end sc)) (Duplicate t.at)) _ (λ u. ok _ _ (same _ (keeps-given t.end sc k))))

told_decls : (ds : List DeclTree) (names : List Text) (number : ℕ) (sc : Scope) → KeepsVariables names sc → Holds (λ o. KeepsVariables (names ++ variable_names ds) o.scope) (all_decls number sc ds)
told_decls [] names number sc k = ok _ _ (same names sc k)
told_decls (d ∷ ds) names number sc k =
    then _ _ _ _ (told_decl names number sc d k) (λ first h. then _ _ _ _ (told_decls ds (names ++ variable_name d) (next number) first.scope h) (λ rest g.
    ok _ _ (subst (λ ns. KeepsVariables ns rest.scope) (append_assoc names (variable_name d) (variable_names ds)) g)))

nothing_declared : KeepsVariables [] empty_scope
nothing_declared = record { no_search = refl; visible = λ name m. absurd (cc) }

pub model_names_none : ModelNamesNone
model_names_none ds t o ks h g =
    items_name_none (variable_names ds) o.scope t ks (at_ok (λ p. KeepsVariables (variable_names ds) p.scope) (all_decls 0 empty_scope ds) o h (told_decls ds [] 0 empty_scope nothing_declared)) g
