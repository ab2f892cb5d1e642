-- Want of memory is no fault that the rules of expressions find.
use Rattle.std.proofs.Common.{◌≡◌, ℕ, Bool, true, false, ◌&&◌, ◌||◌, not, List, [], ◌∷◌, length, Option, None, Some, Ok, Err, subst}
use Rattle.std.specs.Prelude.{nat_eq}
use Rattle.std.specs.List.{flat_map}
use Rattle.opl_tree.specs.declared.expression.NameTree.{NameTree}
use Rattle.opl_tree.specs.declared.expression.PatternTree.{PatternTree}
use Rattle.opl_tree.specs.declared.expression.PatternTree.TheVariants as patterns
use Rattle.opl_type_rules.specs.declared.fault.TypeFault.{TypeFault}
use Rattle.opl_type_rules.specs.declared.fault.TypeFault.TheVariants.{Unknown, Duplicate, Mismatch, NotData, OutOfMemory}
use Rattle.opl_type_rules.specs.Types.{Sort, Sorts, sort_list, is_number, is_set, is_truth}
use Rattle.opl_type_rules.specs.Types.Sort.{structure, activity, anything}
use Rattle.opl_type_rules.specs.Scope.{Checked, and_then, unless, Scope, Thing, declared, is_visible, fresh, all_fresh, field_sort, fields, lookup, parts_in}
use Rattle.opl_type_rules.specs.Scope.Thing.{value}
use Rattle.opl_type_rules.specs.Forms.{Form, Forms, Pairs, SetForm, Groups, Params}
use Rattle.opl_type_rules.specs.Forms.Form.{number, named, bracket, negative, arithmetic, absolute, related, member, connected, aggregate, cardinality, all_different, subscripted, field, tuple, listed, described, cells, keyed_cells, question}
use Rattle.opl_type_rules.specs.Forms.Forms.{no_forms, more_forms}
use Rattle.opl_type_rules.specs.Forms.Pairs.{no_pairs, more_pairs}
use Rattle.opl_type_rules.specs.Forms.SetForm.{whole, between}
use Rattle.opl_type_rules.specs.Forms.Groups.{no_groups, more_groups}
use Rattle.opl_type_rules.specs.Forms.Params.{all_of, those_of}
use Rattle.opl_type_rules.specs.Expressions.{Node, Need, settled, used, part, any_type, or_anything, is_met, is_data, is_time, name_node, known_field, field_node, bind_parts, bind_record, bind_pattern, bind_patterns, pattern_names, scope_within, typing, typed_parts, typed_pairs, typed_set, open_groups, open_params}
use Rattle.opl_type_rules.specs.Expressions.Need.{data_alone, nothing}

-- a fault other than want of memory
abbrev pub IsReal : TypeFault → Type 0
IsReal (Unknown at) = Unit {0}
IsReal (Duplicate at) = Unit {0}
IsReal (Mismatch at) = Unit {0}
IsReal (NotData at) = Unit {0}
IsReal OutOfMemory = ⊥

-- what is found, or a fault other than want of memory
unfoldable pub Real : {A : Type 0} → Checked A → Type 0
Real (Ok a) = Unit {0}
Real (Err e) = IsReal e

pub real_ok : {A : Type 0} (a : A) → Real (Ok a)
unfolding Real
real_ok a = tt

pub real_err : (A : Type 0) (e : TypeFault) → IsReal e → Real {A = A} (Err e)
unfolding Real
real_err A e h = h

pub real_never : {A : Type 0} (c : Checked A) → Real c → c ≡ Err OutOfMemory → ⊥
unfolding Real
real_never c h is = subst (λ d. Real d) is h

-- one step after the other
pub real_then : {A B : Type 0} (c : Checked A) (f : A → Checked B) → Real c → ((a : A) → Real (f a)) → Real (and_then c f)
unfolding Real
real_then (Ok a) f h g = g a
real_then (Err e) f h g = h

pub real_unless : (b : Bool) (e : TypeFault) → IsReal e → Real (unless b e)
unfolding Real
real_unless true e h = tt
real_unless false e h = h

-- ---- steps

pub real_fresh : (sc : Scope) (name : NameTree) → Real (fresh sc name)
unfolding fresh
real_fresh sc name = real_unless (not (is_visible (lookup sc name.text))) (Duplicate name.at) tt

pub real_all_fresh : (ns : List NameTree) (sc : Scope) → Real (all_fresh sc ns)
unfolding all_fresh
real_all_fresh [] sc = real_ok tt
real_all_fresh (n ∷ ns) sc = real_then _ _ (real_fresh sc n) (λ u. real_all_fresh ns (declared n.text (value anything) sc))

pub real_settled : (need : Need) (is_taken : Bool) (n : Node) → Real (settled need is_taken n)
unfolding settled
real_settled need is_taken n =
    real_then _ _ (real_unless (is_met need n && (not n.takes_data || is_data n)) (NotData n.place) tt) (λ u. real_then _ _ (real_unless (n.is_right && is_taken) (Mismatch n.place) tt) (λ v. real_ok n))

pub real_used : (need : Need) (takes : Sort → Bool) (c : Checked Node) → Real c → Real (and_then c (used need takes))
real_used need takes c h = real_then c (used need takes) h (λ n. real_settled need (takes n.sort) n)

pub real_part : (c : Checked Node) → Real c → Real (and_then c part)
real_part c h = real_then c part h (λ n. real_settled nothing true n)

real_name : (name : NameTree) (thing : Option Thing) → Real (name_node name thing)
real_name name None = real_err _ (Unknown name.at) tt
real_name name (Some thing) = real_ok _

real_known : (at : ℕ) (base : Node) (name : NameTree) (s : Option Sort) → Real (known_field at base name s)
real_known at base name None = real_err _ (Unknown name.at) tt
real_known at base name (Some s) = real_ok _

real_field : (sc : Scope) (at : ℕ) (base : Node) (name : NameTree) (s : Sort) → Real (field_node sc at base name s)
real_field sc at base name activity = real_then _ _ (real_unless (is_time name.text) (Unknown name.at) tt) (λ u. real_ok _)
real_field sc at base name (structure k) = real_known at base name (field_sort name.text (fields sc k))
real_field sc at base name s = real_ok _

real_parts : (sc : Scope) (at : ℕ) (names : List NameTree) (found : Option Sorts) → Real (bind_parts sc at names found)
real_parts sc at names None = real_err _ (Mismatch at) tt
real_parts sc at names (Some ss) = real_then _ _ (real_unless (nat_eq (length names) (length (sort_list ss))) (Mismatch at) tt) (λ u. real_ok _)

real_record : (sc : Scope) (at : ℕ) (names : List NameTree) (s : Sort) → Real (bind_record sc at names s)
real_record sc at names anything = real_ok _
real_record sc at names s = real_parts sc at names (parts_in sc s)

real_pattern : (sc : Scope) (s : Sort) (p : PatternTree) → Real (bind_pattern sc s p)
real_pattern sc s (patterns.Single name) = real_ok _
real_pattern sc s (patterns.Record at first rest) = real_record sc at (first ∷ rest) s

real_patterns : (ps : List PatternTree) (sc : Scope) (s : Sort) → Real (bind_patterns sc s ps)
real_patterns [] sc s = real_ok sc
real_patterns (p ∷ ps) sc s = real_then _ _ (real_pattern sc s p) (λ inner. real_patterns ps inner s)

-- ---- expressions

mutual
  unfolding typing

  pub real_typing : (f : Form) (sc : Scope) → Real (typing sc f)
  real_typing (number at) sc = real_ok _
  real_typing (named name) sc = real_name name (lookup sc name.text)
  real_typing (bracket at f) sc = real_then _ _ (real_part _ (real_typing f sc)) (λ n. real_ok _)
  real_typing (negative at f) sc = real_then _ _ (real_part _ (real_typing f sc)) (λ n. real_ok _)
  real_typing (arithmetic at fs) sc = real_then _ _ (real_typed_parts fs sc) (λ ns. real_ok _)
  real_typing (absolute at f) sc = real_then _ _ (real_part _ (real_typing f sc)) (λ n. real_ok _)
  real_typing (related at f relation g) sc = real_then _ _ (real_part _ (real_typing f sc)) (λ m. real_then _ _ (real_part _ (real_typing g sc)) (λ n. real_ok _))
  real_typing (member at f over) sc = real_then _ _ (real_part _ (real_typing f sc)) (λ n. real_then _ _ (real_typed_set over nothing any_type sc) (λ range. real_ok _))
  real_typing (connected at fs) sc = real_then _ _ (real_typed_parts fs sc) (λ ns. real_ok _)
  real_typing (aggregate at p f) sc = real_then _ _ (real_open_params p data_alone sc) (λ opened. real_then _ _ (real_part _ (real_typing f opened.scope)) (λ n. real_ok _))
  real_typing (cardinality at f) sc = real_then _ _ (real_part _ (real_typing f sc)) (λ n. real_ok _)
  real_typing (all_different at f) sc = real_then _ _ (real_part _ (real_typing f sc)) (λ n. real_ok _)
  real_typing (subscripted at f es) sc = real_then _ _ (real_part _ (real_typing f sc)) (λ base. real_then _ _ (real_typed_parts es sc) (λ ns. real_ok _))
  real_typing (field at f name) sc = real_then _ _ (real_part _ (real_typing f sc)) (λ base. real_field sc at base name base.sort)
  real_typing (tuple at fs) sc = real_then _ _ (real_typed_parts fs sc) (λ ns. real_ok _)
  real_typing (listed at fs) sc = real_then _ _ (real_typed_parts fs sc) (λ ns. real_ok _)
  real_typing (described at f p) sc =
      real_then _ _ (real_part _ (real_typing f (scope_within sc p (open_params data_alone sc p)))) (λ n. real_then _ _ (real_open_params p data_alone sc) (λ opened. real_ok _))
  real_typing (cells at fs) sc = real_then _ _ (real_typed_parts fs sc) (λ ns. real_ok _)
  real_typing (keyed_cells at ps) sc = real_then _ _ (real_typed_pairs ps sc) (λ ns. real_ok _)
  real_typing (question at op f) sc = real_then _ _ (real_part _ (real_typing f sc)) (λ n. real_ok _)

  pub real_typed_parts : (fs : Forms) (sc : Scope) → Real (typed_parts sc fs)
  real_typed_parts no_forms sc = real_ok []
  real_typed_parts (more_forms f fs) sc = real_then _ _ (real_part _ (real_typing f sc)) (λ n. real_then _ _ (real_typed_parts fs sc) (λ ns. real_ok _))

  pub real_typed_pairs : (ps : Pairs) (sc : Scope) → Real (typed_pairs sc ps)
  real_typed_pairs no_pairs sc = real_ok []
  real_typed_pairs (more_pairs key cell others) sc =
      real_then _ _ (real_part _ (real_typing key sc)) (λ m. real_then _ _ (real_part _ (real_typing cell sc)) (λ n. real_then _ _ (real_typed_pairs others sc) (λ ns. real_ok _)))

  pub real_typed_set : (over : SetForm) (need : Need) (takes : Sort → Bool) (sc : Scope) → Real (typed_set need takes sc over)
  real_typed_set (whole f) need takes sc = real_then _ _ (real_used need takes _ (real_typing f sc)) (λ n. real_ok _)
  real_typed_set (between low high) need takes sc =
      real_then _ _ (real_used data_alone is_number _ (real_typing low sc)) (λ m. real_then _ _ (real_used data_alone is_number _ (real_typing high sc)) (λ n. real_ok _))

  pub real_open_groups : (gs : Groups) (sc : Scope) → Real (open_groups sc gs)
  real_open_groups no_groups sc = real_ok _
  real_open_groups (more_groups ps over others) sc =
      real_then _ _ (real_all_fresh (flat_map pattern_names ps) sc) (λ u. real_then _ _ (real_typed_set over data_alone is_set sc) (λ range. real_then _ _ (real_patterns ps sc (or_anything range.element)) (λ inner. real_then _ _ (real_open_groups others inner) (λ opened. real_ok _))))

  pub real_open_params : (p : Params) (need : Need) (sc : Scope) → Real (open_params need sc p)
  real_open_params (all_of groups) need sc = real_open_groups groups sc
  real_open_params (those_of groups condition) need sc =
      real_then _ _ (real_open_groups groups sc) (λ opened. real_then _ _ (real_used need is_truth _ (real_typing condition opened.scope)) (λ n. real_ok _))
