-- Names of variables that are no arrays, as they are kept.
use Rattle.std.proofs.Common.{◌≡◌, ℕ, ◌+◌, Bool, true, false, not, cond, List, [], ◌∷◌, length, map, Option, None, Some, refl, ap, sym, ◌∙◌}
use Rattle.std.specs.Prelude.{bytes_eq, is_some}
use Rattle.std.specs.Option.{option_map}
use Rattle.opl_value.specs.declared.value.IndexSpace.{IndexSpace}
use Rattle.opl_meaning.specs.declared.variable.VariableItem.{VariableItem}
use Rattle.opl_meaning.specs.Runs.{Text}
use Rattle.opl_declared.specs.declared.declared.Declared as code
use Rattle.opl_declared.specs.Kept.{declared_names, names_in, plain_names, texts_of}
use Rattle.opl_draft.specs.Numbers.{Numbered, variable_named, variable_or}
use Rattle.opl_draft.specs.Unrolled.{has_no_space, is_plain_variable}
use Rattle.opl_runs.specs.Scopes.{or_false, plain_or}

abbrev is_no_array : Numbered → Bool
is_no_array v = has_no_space v.item.space

plain-chosen : (b : Bool) (v : VariableItem) (n : ℕ) (before : Option Numbered) →
    cond b (Some (has_no_space v.space)) (option_map is_no_array before) ≡ option_map is_no_array (cond b (Some (record { item = v; first = n })) before)
plain-chosen true v n before = refl
plain-chosen false v n before = refl

plain-along : (before : Option Numbered) (name : Text) (n : ℕ) (vs : List VariableItem) → plain_or (option_map is_no_array before) name vs ≡ option_map is_no_array (variable_or before name n vs)
plain-along before name n [] = refl
plain-along before name n (v ∷ vs) =
    ap (λ b. plain_or b name vs) (plain-chosen (bytes_eq name v.name) v n before)
    ∙ plain-along (cond (bytes_eq name v.name) (Some (record { item = v; first = n })) before) name (n + length v.sets) vs

plain-or : (v : Option Numbered) → is_plain_variable v ≡ or_false (option_map is_no_array v)
plain-or None = refl
plain-or (Some v) = refl

pub plain-named : (name : Text) (items : List VariableItem) → is_plain_variable (variable_named name items) ≡ or_false (plain_or None name items)
plain-named name items = plain-or (variable_named name items) ∙ ap or_false (sym (plain-along None name 0 items))

-- one declaration more
pub plain-kept : (before after : Option Bool) (name : Text) (vs ws : List VariableItem) (v : VariableItem) (b : Bool) (r : Option Bool) →
    vs ≡ v ∷ ws → b ≡ has_no_space v.space → after ≡ cond (bytes_eq name v.name) (Some b) before → plain_or before name vs ≡ r → plain_or after name ws ≡ r
plain-kept before after name vs ws v b r e f g h =
    ap (λ o. plain_or o name ws) (g ∙ ap (λ c. cond (bytes_eq name v.name) (Some c) before) f) ∙ sym (ap (plain_or before name) e) ∙ h

pub no-space : (o : Option IndexSpace) → not (is_some o) ≡ has_no_space o
no-space None = refl
no-space (Some space) = refl

pub ruleset plain_names_kept = (plain-named)

-- what is kept of declarations is their names
pub names-kept : (d : code.Declared) (items : List VariableItem) → d.items.now ≡ items → texts_of d.names ≡ map (λ v. v.name) items → names_in d ≡ declared_names items
unfolding names_in
names-kept d items h k = λ i. record { all = k i; plain = plain_names (h i) }
