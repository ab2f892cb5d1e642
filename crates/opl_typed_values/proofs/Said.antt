-- What is known of the term of an expression with this form, as far as its value depends on it.
use Rattle.std.proofs.Common.{◌≡◌, ◌++◌, ℕ, Bool, List, [], ◌∷◌, map, Option, ap}
use Rattle.opl_type_rules.specs.Forms.{Form, Forms, Pairs, SetForm, Groups, Params}
use Rattle.opl_type_rules.specs.Forms.Form.{number, named, bracket, negative, arithmetic, absolute, related, member, connected, aggregate, cardinality, all_different, subscripted, field, tuple, listed, described, cells, keyed_cells, question}
use Rattle.opl_type_rules.specs.Forms.Forms.{no_forms, more_forms}
use Rattle.opl_type_rules.specs.Forms.Pairs.{no_pairs, more_pairs}
use Rattle.opl_type_rules.specs.Forms.SetForm.{whole, between}
use Rattle.opl_type_rules.specs.Forms.Groups.{no_groups, more_groups}
use Rattle.opl_type_rules.specs.Forms.Params.{all_of, those_of}
use Rattle.opl_term.specs.Terms.{field_name, group_of, pattern_of, with_fields}
use Rattle.opl_term.specs.declared.term.FieldName.{FieldName}
use Rattle.opl_term.specs.declared.term.GroupTerm.{GroupTerm}
use Rattle.opl_term.specs.declared.term.SetTerm.{SetTerm}
use Rattle.opl_term.specs.declared.term.SetTerm.TheVariants as sets
use Rattle.opl_term.specs.declared.term.Term.{Term}
use Rattle.opl_term.specs.declared.term.Term.TheVariants as terms
use Rattle.opl_typed_values.proofs.Outside.{GivesBool, GivesInt, IsWhole, whole_layer}

abbrev mutual
  pub Says : Form → Term → Type 0
  Says (number at) t = GivesInt t
  Says (named name) t = t ≡ terms.Named name.at name.text
  Says (bracket at f) t = (p : ℕ) × (u : Term) × (t ≡ terms.Bracket p u) × Says f u
  Says (negative at f) t = GivesInt t
  Says (arithmetic at fs) t = GivesInt t
  Says (absolute at f) t = GivesInt t
  Says (related at f relation g) t = GivesBool t
  Says (member at f over) t = GivesBool t
  Says (connected at fs) t = GivesBool t
  Says (aggregate at p f) t = GivesInt t
  Says (cardinality at f) t = GivesInt t
  Says (all_different at f) t = GivesBool t
  Says (subscripted at f es) t = (p : ℕ) × (u : Term) × (us : List Term) × (t ≡ terms.Element p u us) × Says f u
  Says (field at f name) t = (p : ℕ) × (u : Term) × (fs : List FieldName) × (t ≡ with_fields p u (fs ++ field_name name ∷ [])) × Says f (with_fields p u fs)
  Says (tuple at fs) t = (p : ℕ) × (us : List Term) × (t ≡ terms.Record p us) × AllSay fs us
  Says (listed at fs) t = (p : ℕ) × (us : List Term) × (t ≡ terms.Listed p us) × AllSay fs us
  Says (described at f p) t = (q : ℕ) × (u : Term) × (gs : List GroupTerm) × (c : Option Term) × (t ≡ terms.Described q u gs c) × Says f u × ParamsSay p gs
  Says (cells at fs) t = (p : ℕ) × (us : List Term) × (t ≡ terms.Array p us) × AllSay fs us
  Says (keyed_cells at ps) t = (p : ℕ) × (ks : List Term) × (us : List Term) × (t ≡ terms.KeyedArray p ks us) × PairsSay ps us
  Says (question at op f) t = IsWhole t

  pub AllSay : Forms → List Term → Type 0
  AllSay no_forms [] = Unit {0}
  AllSay (more_forms f fs) (u ∷ us) = Says f u × AllSay fs us
  AllSay fs us = ⊥

  -- what stands behind keys
  pub PairsSay : Pairs → List Term → Type 0
  PairsSay no_pairs [] = Unit {0}
  PairsSay (more_pairs key cell others) (u ∷ us) = Says cell u × PairsSay others us
  PairsSay ps us = ⊥

  pub SetSays : SetForm → SetTerm → Type 0
  SetSays (whole f) s = (u : Term) × (s ≡ sets.Whole u) × Says f u
  SetSays (between low high) s = (u : Term) × (w : Term) × (s ≡ sets.Between u w)

  pub GroupsSay : Groups → List GroupTerm → Type 0
  GroupsSay no_groups [] = Unit {0}
  GroupsSay (more_groups ps over others) (g ∷ gs) = (is_ordered : Bool) × (s : SetTerm) × (g ≡ group_of is_ordered (map pattern_of ps) s) × SetSays over s × GroupsSay others gs
  GroupsSay outer gs = ⊥

  -- a condition decides nothing of a value's type
  pub ParamsSay : Params → List GroupTerm → Type 0
  ParamsSay (all_of outer) gs = GroupsSay outer gs
  ParamsSay (those_of outer condition) gs = GroupsSay outer gs

-- a field and a set that is described are no record and no set that is written out
pub fields-whole : (p : ℕ) (u : Term) (fs : List FieldName) (f : FieldName) → IsWhole (with_fields p u (fs ++ f ∷ []))
fields-whole p u [] f = ap whole_layer (terms.outs-Fields p u (f ∷ []))
fields-whole p u (g ∷ gs) f = ap whole_layer (terms.outs-Fields p u (g ∷ gs ++ f ∷ []))

pub described-whole : (q : ℕ) (u : Term) (gs : List GroupTerm) (c : Option Term) → IsWhole (terms.Described q u gs c)
described-whole q u gs c = ap whole_layer (terms.outs-Described q u gs c)
