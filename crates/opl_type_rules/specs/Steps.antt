-- The rules as the program goes through them, one part after the other. The laws between these and the rules stand in proofs.
use Rattle.std.specs.Prelude.{ℕ, Bool, true, false, List, [], ◌∷◌, ◌++◌, map, Option, Some, Ok}
use Rattle.std.specs.List.{flat_map}
use Rattle.opl_tree.specs.declared.expression.CallOp.{CallOp}
use Rattle.opl_tree.specs.declared.expression.CallOp.TheVariants as calls
use Rattle.opl_tree.specs.declared.expression.NameTree.{NameTree}
use Rattle.opl_type_rules.specs.declared.fault.TypeFault.TheVariants.{Unknown}
use Rattle.opl_type_rules.specs.Types.{Sort, Sorts, is_number, is_set, both}
use Rattle.opl_type_rules.specs.Types.Sort.{int, anything}
use Rattle.opl_type_rules.specs.Scope.{Checked, ◌>>=◌, ◌>>◌, unless, Scope, declared, fresh, all_fresh, with_values}
use Rattle.opl_type_rules.specs.Scope.Thing.{value}
use Rattle.opl_type_rules.specs.Forms.{Suffix, Group, forms_of}
use Rattle.opl_type_rules.specs.Forms.Suffix.{subscripts, field_of}
use Rattle.opl_type_rules.specs.Expressions.{Node, Opened, part, made, is_time, is_start_or_duration, kinds_in, element_node, field_node, typed_parts, typed_set, pattern_names, bind_patterns, or_anything}
use Rattle.opl_type_rules.specs.Expressions.Need.{data_alone}

-- a function of one expression
abbrev pub called : CallOp → ℕ → Node → Node
called calls.Absolute at n = made at int (n ∷ []) (is_number n.sort)
called calls.Cardinality at n = made at int (n ∷ []) (is_set n.sort)

-- an expression with subscripts, or a field, behind it, and with several of them
abbrev pub suffix_node : Scope → ℕ → Node → Suffix → Checked Node
suffix_node sc at base (subscripts es) = do
  ns ← typed_parts sc (forms_of es)
  Ok (element_node sc at base ns base.sort)
suffix_node sc at base (field_of name) = field_node sc at base name base.sort

abbrev pub suffixed : Scope → ℕ → Checked Node → List Suffix → Checked Node
suffixed sc at c [] = c
suffixed sc at c (s ∷ ss) = suffixed sc at (c >>= part >>= (λ base. suffix_node sc at base s)) ss

-- the scope in which names are taken, one after the other
abbrev pub taken : Scope → List NameTree → Checked Scope
taken sc [] = Ok sc
taken sc (n ∷ ns) = fresh sc n >> taken (declared n.text (value anything) sc) ns

-- one group of parameters behind those before, and several
abbrev pub open_one : Opened → Group → Checked Opened
open_one o g = do
  all_fresh o.scope (flat_map pattern_names g.patterns)
  over ← typed_set data_alone is_set o.scope g.over
  inner ← bind_patterns o.scope (or_anything over.element) g.patterns
  Ok (record { scope = inner; kinds = o.kinds ++ kinds_in over.nodes })

abbrev pub open_each : Opened → List Group → Checked Opened
open_each o [] = Ok o
open_each o (g ∷ gs) = open_one o g >>= (λ more. open_each more gs)

-- types behind those before
abbrev pub front : List Sort → Checked (List Sort) → Checked (List Sort)
front ks c = do
  more ← c
  Ok (ks ++ more)

-- what a declaration makes, behind what those before have made
abbrev pub behind : List Sort → Checked Opened → Checked Opened
behind ks c = do
  o ← c
  Ok (record { scope = o.scope; kinds = ks ++ o.kinds })

-- names of what may be anything
abbrev pub unknown : List NameTree → Scope → Scope
unknown ns sc = with_values ns (map (λ n. anything) ns) sc

-- the names of a group
abbrev pub group_names : Group → List NameTree
group_names g = flat_map pattern_names g.patterns

-- these types, and then the others, if there are such
abbrev pub sorts_before : List Sort → Option Sorts → Option Sorts
sorts_before [] o = o
sorts_before (s ∷ ss) o = both (Some s) (sorts_before ss o)

-- the same expression as one decision variable or not, and as a question
abbrev pub with_one : Bool → Node → Node
with_one b n = record n { is_one = b }

abbrev pub asking : Node → Node
asking n = record n { decides = false; asks = true }

-- a time of an activity
abbrev pub time_node : ℕ → Node → NameTree → Checked Node
time_node at base name = do
  unless (is_time name.text) (Unknown name.at)
  Ok (with_one (is_start_or_duration name.text) (made at int (base ∷ []) true))

-- the same expression with these types of the expressions in it
abbrev pub with_inner : List Sort → Node → Node
with_inner ks n = record n { inner = ks }

-- the first of a list, and what stands behind it
abbrev pub firsts : {A : Type 0} → List A → List A
firsts [] = []
firsts (x ∷ xs) = x ∷ []

abbrev pub others : {A : Type 0} → List A → List A
others [] = []
others (x ∷ xs) = xs

-- a link whose base has these types in it
abbrev pub grown : List Sort → Node → Node
grown ks n = with_inner (firsts n.inner ++ ks ++ others n.inner) n
