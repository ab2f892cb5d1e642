-- What is known of types, as the program keeps it.
use Rattle.std.proofs.Common.{◌≡◌, ℕ, List, [], ◌∷◌, ◌++◌, map, length, min, refl, ap, ◌∙◌, sym}
use Rattle.std.proofs.lemmas.List.{map-append}
use Rattle.opl_tree.specs.declared.expression.NameTree.{NameTree}
use Rattle.opl_tree.specs.declared.declaration.TypeTree.{TypeTree}
use Rattle.opl_tree.specs.declared.declaration.TypeTree.TheVariants as type_trees
use Rattle.opl_tree.specs.declared.declaration.TypeTree.TheFolds.{fold-roll-TypeTree}
use Rattle.opl_given.specs.declared.form.Form.{Form}
use Rattle.opl_given.specs.declared.form.Form.TheVariants as forms
use Rattle.opl_given.specs.declared.names.Names.{Names}
use Rattle.opl_given.specs.declared.types.Types.{Types}
use Rattle.opl_given.specs.Forms.{Known, form_at, form_named, form_of, number_of, with_declaration, with_type, nothing_known}
use Rattle.opl_given.specs.Names.{Text, position}
use Rattle.opl_given.specs.Readings.{known_of, texts_of}

pub form_named-kept : (t : Types) (name : Text) → form_named (known_of t) name ≡ form_at t.forms (position name (texts_of t.names))
unfolding form_named known_of
form_named-kept t name = refl

pub number_of-kept : (t : Types) → number_of (known_of t) ≡ min (length t.fields) 4294967295
unfolding number_of known_of
number_of-kept t = refl

pub none-kept : (t : Types) → texts_of t.names ≡ [] → t.forms ≡ [] → t.enumerations ≡ [] → t.fields ≡ [] → known_of t ≡ nothing_known
unfolding known_of
none-kept t n f e d = λ i. record { names = n i; forms = f i; enumerations = map texts_of (e i); fields = d i }

pub declaration-kept : (t u : Types) (names : Names) (fields : List Form) → u.names ≡ t.names → u.forms ≡ t.forms → u.enumerations ≡ t.enumerations ++ names ∷ [] → u.fields ≡ t.fields ++ fields ∷ [] →
    known_of u ≡ with_declaration (texts_of names) fields (known_of t)
unfolding known_of with_declaration
declaration-kept t u names fields n f e d = λ i. record { names = texts_of (n i); forms = f i; enumerations = (ap (map texts_of) e ∙ map-append texts_of t.enumerations (names ∷ [])) i; fields = d i }

pub type-kept : (t u : Types) (name : Text) (form : Form) → texts_of u.names ≡ texts_of t.names ++ name ∷ [] → u.forms ≡ t.forms ++ form ∷ [] → u.enumerations ≡ t.enumerations → u.fields ≡ t.fields →
    known_of u ≡ with_type name form (known_of t)
unfolding known_of with_type
type-kept t u name form n f e d = λ i. record { names = n i; forms = f i; enumerations = map texts_of (e i); fields = d i }

pub ruleset types = (form_named-kept, number_of-kept, none-kept, declaration-kept, type-kept)

pub form_of-Int : (at : ℕ) (known : Known) → form_of (type_trees.Int at) known ≡ forms.Int
unfolding form_of
form_of-Int at known = ap (λ t. form_of t known) (sym (type_trees.rolls-Int at)) ∙ rw fold-roll-TypeTree refl

pub form_of-Named : (name : NameTree) (known : Known) → form_of (type_trees.Named name) known ≡ form_named known name.text
unfolding form_of
form_of-Named name known = ap (λ t. form_of t known) (sym (type_trees.rolls-Named name)) ∙ rw fold-roll-TypeTree refl

pub form_of-Set : (at : ℕ) (element : TypeTree) (known : Known) → form_of (type_trees.Set at element) known ≡ forms.Set (form_of element known)
unfolding form_of
form_of-Set at element known = ap (λ t. form_of t known) (sym (type_trees.rolls-Set at element)) ∙ rw fold-roll-TypeTree refl

pub ruleset written = (form_of-Int, form_of-Named, form_of-Set)
