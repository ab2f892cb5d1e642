-- What parts name, and what they write: the places of the fields are among those of the names that are written.
use Rattle.std.proofs.Common.{◌≡◌, ℕ, List, [], ◌∷◌, ◌++◌, map, Option, None, Some, Ok, Err, refl, sym, ap, subst, ◌∙◌, append_assoc}
use Rattle.std.specs.List.{AllZip}
use Rattle.std.proofs.lemmas.List.{append-nil, map-append}
use Rattle.opl_token.specs.declared.sign.Sign.{Sign}
use Rattle.opl_tree.specs.declared.declaration.DeclTree.{DeclTree}
use Rattle.opl_tree.specs.declared.expression.CallOp.{CallOp}
use Rattle.opl_tree.specs.declared.expression.CallOp.TheVariants as calls
use Rattle.opl_tree.specs.declared.expression.NameTree.{NameTree}
use Rattle.opl_tree.specs.Marks.{Mark, Marks, Part, nested, joined, behind, several, token, sign}
use Rattle.opl_type_rules.specs.Types.{is_set}
use Rattle.opl_type_rules.specs.Scope.{Checked, Scope}
use Rattle.opl_type_rules.specs.Forms.{Form, Pair, SetForm, Group, Params, Suffix, call, chain, forms_of, pairs_of, groups_of, with_suffix, with_suffixes}
use Rattle.opl_type_rules.specs.Forms.Form.{connected, arithmetic}
use Rattle.opl_type_rules.specs.Forms.Suffix.{subscripts, field_of}
use Rattle.opl_type_rules.specs.Expressions.{Node, typed_set}
use Rattle.opl_type_rules.specs.Expressions.Need.{data_alone}
use Rattle.opl_fields.specs.declared.place.FieldPlace.{FieldPlace}
use Rattle.opl_fields.specs.Fields.{record_of}
use Rattle.opl_fields.specs.Structs.{position}
use Rattle.opl_fields.specs.Typed.{field_of_record, form_fields, groups_fields, pairs_fields, params_fields, parts_fields, placed, scope_bound, set_fields}
use Rattle.opl_fields.specs.Typed as typed
use Rattle.opl_fields.specs.Whole.{Named, in_turn}
use Rattle.opl_read_fields.proofs.Names.{Written, inside, later, none_written, one_then, past, sooner}

-- in each scope the fields of a part stand where these marks write the names of fields, in that order
pub record Told (n : Named) (ms : Marks) : Type 0 where
  pub says : (sc : Scope) → Written (map (λ (f : FieldPlace). f.place) (n sc)) ms

-- ---- marks around a part

pub none : {ms : Marks} → Told (λ sc. []) ms
none = record { says = λ sc. none_written }

pub behind_mark : (m : Mark) {n : Named} {ms : Marks} → Told n ms → Told n (m ∷ ms)
behind_mark m h = record { says = λ sc. past m (h.says sc) }

pub behind_marks : (ms : Marks) {n : Named} {ns : Marks} → Told n ns → Told n (ms ++ ns)
behind_marks ms h = record { says = λ sc. later ms (h.says sc) }

pub before_marks : (ns : Marks) {n : Named} {ms : Marks} → Told n ms → Told n (ms ++ ns)
before_marks ns h = record { says = λ sc. sooner ns (h.says sc) }

pub in_level : (p : Part) {n : Named} {ms : Marks} → Told n ms → Told n (nested p ms)
in_level p h = record { says = λ sc. inside p (h.says sc) }

-- ---- several parts

pub both : {a b : Named} {ms ns : Marks} → Told a ms → Told b ns → Told (λ sc. a sc ++ b sc) (ms ++ ns)
both {a} {b} {ms} {ns} h g = record { says = λ sc. subst (λ ps. Written ps (ms ++ ns)) (sym (map-append (λ (f : FieldPlace). f.place) (a sc) (b sc))) (one_then (h.says sc) (g.says sc)) }

pub alone : {a : Named} {ms : Marks} → Told a ms → Told (λ sc. a sc ++ []) ms
alone {a} {ms} h = record { says = λ sc. subst (λ fs. Written (map (λ (f : FieldPlace). f.place) fs) ms) (sym (append-nil (a sc))) (h.says sc) }

-- in another scope
pub elsewhere : (to : Scope → Scope) {a : Named} {ms : Marks} → Told a ms → Told (λ sc. a (to sc)) ms
elsewhere to h = record { says = λ sc. h.says (to sc) }

-- the same marks, grouped otherwise
pub regrouped : (ms ns os : Marks) {a : Named} → Told a ((ms ++ ns) ++ os) → Told a (ms ++ (ns ++ os))
regrouped ms ns os {a} h = subst (λ xs. Told a xs) (append_assoc ms ns os) h

pub turn_behind : (s : Sign) (ns : List Named) (mss : List Marks) → AllZip Told ns mss → Told (in_turn ns) (behind s mss)
turn_behind s [] [] h = none
turn_behind s [] (m ∷ mss) h = absurd h
turn_behind s (n ∷ ns) [] h = absurd h
turn_behind s (n ∷ ns) (m ∷ mss) h = behind_mark (token (sign s)) (both h.0 (turn_behind s ns mss h.1))

-- parts of which this is known
pub each_known : {T X : Type 0} (P : X → Marks → Type 0) (f : T → X) (m : T → Marks) (es : List ((t : T) × P (f t) (m t))) → AllZip P (map f (map (λ e. e.0) es)) (map m (map (λ e. e.0) es))
each_known P f m [] = tt
each_known P f m (e ∷ es) = (e.1, each_known P f m es)

module _ (ds : List DeclTree) where
  -- ---- what is known of each kind of form

  abbrev pub OfForm : Form → Marks → Type 0
  OfForm f = Told (λ sc. form_fields ds sc f)

  abbrev pub OfForms : List Form → Marks → Type 0
  OfForms fs = Told (λ sc. parts_fields ds sc (forms_of fs))

  abbrev pub OfPair : Pair → Marks → Type 0
  OfPair p = Told (λ sc. form_fields ds sc p.key ++ form_fields ds sc p.cell)

  abbrev pub OfPairs : List Pair → Marks → Type 0
  OfPairs ps = Told (λ sc. pairs_fields ds sc (pairs_of ps))

  abbrev pub OfSet : SetForm → Marks → Type 0
  OfSet over = Told (λ sc. set_fields ds sc over)

  abbrev pub OfGroup : Group → Marks → Type 0
  OfGroup g = OfSet g.over

  abbrev pub OfGroups : List Group → Marks → Type 0
  OfGroups gs = Told (λ sc. groups_fields ds sc (groups_of gs))

  abbrev pub OfParams : Params → Marks → Type 0
  OfParams p = Told (λ sc. params_fields ds sc p)

  -- a field behind a `.` writes its name
  abbrev pub OfSuffix : Suffix → Marks → Type 0
  OfSuffix (subscripts es) ms = OfForms es ms
  OfSuffix (field_of name) ms = Written (name.at ∷ []) ms

  -- ---- fields

  at_position : (at : ℕ) (p : Option ℕ) {ms : Marks} → Written (at ∷ []) ms → Written (map (λ (f : FieldPlace). f.place) (placed at p)) ms
  at_position at None h = none_written
  at_position at (Some p) h = h

  of_record : (name : NameTree) (k : Option ℕ) {ms : Marks} → Written (name.at ∷ []) ms → Written (map (λ (f : FieldPlace). f.place) (field_of_record ds name k)) ms
  of_record name None h = none_written
  of_record name (Some k) h = at_position name.at (position ds k name.text) h

  of_field : (name : NameTree) (c : Checked Node) {ms : Marks} → Written (name.at ∷ []) ms → Written (map (λ (f : FieldPlace). f.place) (typed.field_of ds name c)) ms
  of_field name (Ok n) h = of_record name (record_of n.sort) h
  of_field name (Err e) h = none_written

  -- ---- several forms

  parts_append : (fs gs : List Form) (sc : Scope) → parts_fields ds sc (forms_of (fs ++ gs)) ≡ parts_fields ds sc (forms_of fs) ++ parts_fields ds sc (forms_of gs)
  unfolding parts_fields
  parts_append [] gs sc = refl
  parts_append (f ∷ fs) gs sc = ap (λ (xs : List FieldPlace). form_fields ds sc f ++ xs) (parts_append fs gs sc) ∙ sym (append_assoc (form_fields ds sc f) (parts_fields ds sc (forms_of fs)) (parts_fields ds sc (forms_of gs)))

  pub forms_then : (fs gs : List Form) {ms ns : Marks} → OfForms fs ms → OfForms gs ns → OfForms (fs ++ gs) (ms ++ ns)
  forms_then fs gs {ms} {ns} h g = record { says = λ sc. subst (λ xs. Written (map (λ (f : FieldPlace). f.place) xs) (ms ++ ns)) (sym (parts_append fs gs sc)) ((both h g).says sc) }

  pub forms_joined : (fs : List Form) (mss : List Marks) → AllZip OfForm fs mss → OfForms fs (joined mss)
  unfolding parts_fields
  forms_joined [] [] h = none
  forms_joined [] (m ∷ mss) h = absurd h
  forms_joined (f ∷ fs) [] h = absurd h
  forms_joined (f ∷ fs) (m ∷ mss) h = both h.0 (forms_joined fs mss h.1)

  pub forms_behind : (s : Sign) (fs : List Form) (mss : List Marks) → AllZip OfForm fs mss → OfForms fs (behind s mss)
  unfolding parts_fields
  forms_behind s [] [] h = none
  forms_behind s [] (m ∷ mss) h = absurd h
  forms_behind s (f ∷ fs) [] h = absurd h
  forms_behind s (f ∷ fs) (m ∷ mss) h = behind_mark (token (sign s)) (both h.0 (forms_behind s fs mss h.1))

  pub forms_several : (s : Sign) (fs : List Form) (mss : List Marks) → AllZip OfForm fs mss → OfForms fs (several s mss)
  unfolding parts_fields
  forms_several s [] [] h = none
  forms_several s [] (m ∷ mss) h = absurd h
  forms_several s (f ∷ fs) [] h = absurd h
  forms_several s (f ∷ fs) (m ∷ mss) h = both h.0 (forms_behind s fs mss h.1)

  -- ---- keys and cells

  pair_then : (p : Pair) (ps : List Pair) {ms ns : Marks} → OfPair p ms → OfPairs ps ns → OfPairs (p ∷ ps) (ms ++ ns)
  unfolding pairs_fields
  pair_then p ps {ms} {ns} h g = record {
    says = λ sc. subst (λ xs. Written (map (λ (f : FieldPlace). f.place) xs) (ms ++ ns)) (append_assoc (form_fields ds sc p.key) (form_fields ds sc p.cell) (pairs_fields ds sc (pairs_of ps))) ((both h g).says sc);
  }

  pairs_behind : (s : Sign) (ps : List Pair) (mss : List Marks) → AllZip OfPair ps mss → OfPairs ps (behind s mss)
  unfolding pairs_fields
  pairs_behind s [] [] h = none
  pairs_behind s [] (m ∷ mss) h = absurd h
  pairs_behind s (p ∷ ps) [] h = absurd h
  pairs_behind s (p ∷ ps) (m ∷ mss) h = behind_mark (token (sign s)) (pair_then p ps h.0 (pairs_behind s ps mss h.1))

  pub pairs_several : (s : Sign) (ps : List Pair) (mss : List Marks) → AllZip OfPair ps mss → OfPairs ps (several s mss)
  unfolding pairs_fields
  pairs_several s [] [] h = none
  pairs_several s [] (m ∷ mss) h = absurd h
  pairs_several s (p ∷ ps) [] h = absurd h
  pairs_several s (p ∷ ps) (m ∷ mss) h = pair_then p ps h.0 (pairs_behind s ps mss h.1)

  -- ---- groups

  pub group_then : (g : Group) (gs : List Group) {ms ns : Marks} → OfGroup g ms → OfGroups gs ns → OfGroups (g ∷ gs) (ms ++ ns)
  unfolding groups_fields
  group_then g gs h r = both h (elsewhere (λ sc. scope_bound sc g.patterns (typed_set data_alone is_set sc g.over)) r)

  pub groups_joined : (gs : List Group) (mss : List Marks) → AllZip OfGroup gs mss → OfGroups gs (joined mss)
  unfolding groups_fields
  groups_joined [] [] h = none
  groups_joined [] (m ∷ mss) h = absurd h
  groups_joined (g ∷ gs) [] h = absurd h
  groups_joined (g ∷ gs) (m ∷ mss) h = group_then g gs h.0 (groups_joined gs mss h.1)

  -- ---- chains, calls and suffixes

  pub of_connected : (at : ℕ) (f : Form) (fs : List Form) {ms ns : Marks} → OfForm f ms → OfForms fs ns → OfForm (chain (connected at) f fs) (ms ++ ns)
  unfolding form_fields parts_fields
  of_connected at f [] {ms} {ns} h g = before_marks ns h
  of_connected at f (x ∷ xs) h g = both h g

  pub of_arithmetic : (at : ℕ) (f : Form) (fs : List Form) {ms ns : Marks} → OfForm f ms → OfForms fs ns → OfForm (chain (arithmetic at) f fs) (ms ++ ns)
  unfolding form_fields parts_fields
  of_arithmetic at f [] {ms} {ns} h g = before_marks ns h
  of_arithmetic at f (x ∷ xs) h g = both h g

  pub of_call : (op : CallOp) (at : ℕ) (f : Form) {ms : Marks} → OfForm f ms → OfForm (call op at f) ms
  unfolding form_fields
  of_call calls.Absolute at f h = h
  of_call calls.Cardinality at f h = h

  of_suffix : (at : ℕ) (f : Form) (s : Suffix) {ms : Marks} (ns : Marks) → OfForm f ms → OfSuffix s ns → OfForm (with_suffix at f s) (ms ++ ns)
  unfolding form_fields
  of_suffix at f (subscripts es) ns h g = both h g
  of_suffix at f (field_of name) ns h g = both h (record { says = λ sc. of_field name _ g })

  pub of_suffixes : (at : ℕ) (f : Form) (ss : List Suffix) (ms : Marks) (mss : List Marks) → OfForm f ms → AllZip OfSuffix ss mss → OfForm (with_suffixes at f ss) (ms ++ joined mss)
  of_suffixes at f [] ms [] h g = before_marks [] h
  of_suffixes at f [] ms (n ∷ mss) h g = absurd g
  of_suffixes at f (s ∷ ss) ms [] h g = absurd g
  of_suffixes at f (s ∷ ss) ms (n ∷ mss) h g = regrouped ms n (joined mss) (of_suffixes at (with_suffix at f s) ss (ms ++ n) mss (of_suffix at f s n h g.0) g.1)
