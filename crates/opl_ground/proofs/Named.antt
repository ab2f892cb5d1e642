-- Each variable of a core has a name.
use Rattle.std.proofs.Common.{◌≡◌, ℕ, ◌+◌, ◌*◌, List, [], ◌∷◌, length, map, Option, None, Some, refl, sym, ap, subst, ◌∙◌, arith, length-append}
use Rattle.std.specs.List.{All, flat_map}
use Rattle.std.proofs.Math.Nat.{suc-mul}
use Rattle.std.proofs.lemmas.List.Elements.{All-head, All-tail}
use Rattle.opl_value.specs.declared.value.IndexSpace.{IndexSpace}
use Rattle.opl_value.specs.declared.value.Value.{Value}
use Rattle.opl_value.specs.Places.{elements, lists}
use Rattle.opl_bind.specs.Keys.{beginning, keys}
use Rattle.opl_meaning.specs.declared.variable.VariableItem.{VariableItem}
use Rattle.opl_meaning.specs.Laws.{HasOneSet}
use Rattle.opl_meaning.proofs.VariableLaws.{singles_have_one_set}
use Rattle.opl_form.proofs.Indices.{length-map}
use Rattle.opl_show.specs.Texts.{Enumerations}
use Rattle.opl_ground.specs.Declared.{IsLaidOut, IsLaidOver}
use Rattle.opl_ground.specs.Named.{GroundedIsNamed}
use Rattle.opl_ground.specs.Names.{element_name, names_over, variable_names}
use Rattle.opl_ground.proofs.Ground.{core-parts}
use Rattle.opl_ground.proofs.Variables.{variables_are_laid_out}

-- ---- keys

no-times : (n : ℕ) → 0 ≡ 0 * n
no-times n = omega arith

beginning-length : (vs : List Value) (ks : List (List Value)) → length (beginning vs ks) ≡ length vs * length ks
beginning-length [] ks = no-times (length ks)
beginning-length (v ∷ vs) ks =
    omega (arith, length-append (map (λ key. v ∷ key) ks) (beginning vs ks), length-map (λ key. v ∷ key) ks, beginning-length vs ks, suc-mul (length vs) (length ks))

keys-length : (ds : List (List Value)) → length (keys ds) ≡ elements ds
keys-length [] = refl
keys-length (d ∷ ds) = beginning-length d (keys ds) ∙ ap (λ n. length d * n) (keys-length ds)

-- ---- names

over-length : (e : Enumerations) (name : List ℕ) (space : Option IndexSpace) (n : ℕ) → IsLaidOver space n → (space ≡ None → n ≡ 1) → length (names_over e name space) ≡ n
over-length e name None n h one = sym (one refl)
over-length e name (Some space) n h one = length-map (element_name e name) (keys (lists space)) ∙ keys-length (lists space) ∙ sym h.1

names-length : (e : Enumerations) (items : List VariableItem) → All IsLaidOut items → All HasOneSet items → length (variable_names e items) ≡ length (flat_map (λ v. v.sets) items)
names-length e [] h k = refl
names-length e (v ∷ vs) h k =
    length-append (names_over e v.name v.space) (variable_names e vs)
    ∙ (λ i. over-length e v.name v.space (length v.sets) (All-head IsLaidOut v vs h) (All-head HasOneSet v vs k) i + names-length e vs (All-tail IsLaidOut v vs h) (All-tail HasOneSet v vs k) i)
    ∙ sym (length-append v.sets (flat_map (λ v. v.sets) vs))

pub grounded_is_named : GroundedIsNamed
grounded_is_named enumerations t env core h =
    let c = core-parts enumerations t env core h in
    subst (λ c. length c.names ≡ length c.sets) c.is
    (names-length enumerations c.items (variables_are_laid_out env t.decls c.items c.variables) (singles_have_one_set env t.decls c.items c.variables)
    ∙ sym (length-map (λ set. (set.low, set.high)) (flat_map (λ v. v.sets) c.items)))
