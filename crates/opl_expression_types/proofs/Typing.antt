-- The rule of each form, inside a model's names.
use Rattle.std.proofs.Common.{◌≡◌, ℕ, Bool, true, false, ◌&&◌, List, [], ◌∷◌, ◌++◌, map, Option, Some, Ok, Err, is_some, refl, ap, sym, ◌∙◌}
use Rattle.opl_tree.specs.declared.expression.CallOp.{CallOp}
use Rattle.opl_tree.specs.declared.expression.CallOp.TheVariants as calls
use Rattle.opl_tree.specs.declared.expression.NameTree.{NameTree}
use Rattle.opl_tree.specs.declared.expression.QuestionOp.{QuestionOp}
use Rattle.opl_tree.specs.declared.expression.Relation.{Relation}
use Rattle.opl_type_rules.specs.declared.fault.TypeFault.{TypeFault}
use Rattle.opl_type_rules.specs.declared.names.Local.{Local}
use Rattle.opl_type_rules.specs.declared.names.Names.{Names}
use Rattle.opl_type_rules.specs.Types.{Sort, sorts_of, elements, is_number, is_truth, is_set, is_storable, is_array_of_single}
use Rattle.opl_type_rules.specs.Types.Sort.{int, bool, row, set, anything}
use Rattle.opl_type_rules.specs.Scope.{Scope, Checked, and_then, lookup}
use Rattle.opl_type_rules.specs.Forms.{Form, Forms, Pairs, SetForm, Params, chain, call, forms_of}
use Rattle.opl_type_rules.specs.Forms.Form.{number, named, bracket, negative, arithmetic, absolute, related, member, connected, aggregate, cardinality, all_different, tuple, listed, described, cells, keyed_cells, question}
use Rattle.opl_type_rules.specs.Forms.Forms.{no_forms, more_forms}
use Rattle.opl_type_rules.specs.Forms.Pairs.{no_pairs, more_pairs}
use Rattle.opl_type_rules.specs.Forms.SetForm.{whole, between}
use Rattle.opl_type_rules.specs.Expressions.{Node, Need, node, made, of_data, kinds, part, used, data_number, any_type, all_sorts, name_node, bracketed, are_related, is_member, element_type, set_type, question_node, scope_within, typing, typed_parts, typed_pairs, typed_set, open_params}
use Rattle.opl_type_rules.specs.Expressions.Need.{nothing, data_alone}
use Rattle.opl_type_rules.specs.Steps.{called}
use Rattle.opl_type_rules.specs.Values.{Gives, node_of, within, scope_of}
use Rattle.opl_type_rules.proofs.Chains.{after, alike-after, alone, gives-fault, gives-same}
use Rattle.opl_expression_types.proofs.Inside.{alike-within}
use Rattle.opl_expression_types.proofs.Likeness.{related-alike, member-alike, elements-alike, question-alike}

pub moved : (p q : Checked (List Node)) (n : Node) → and_then (and_then p (λ ms. and_then q (λ ns. Ok (ms ++ ns)))) (λ ns. Ok (n ∷ ns)) ≡ and_then (and_then p (λ ns. Ok (n ∷ ns))) (λ ms. and_then q (λ ns. Ok (ms ++ ns)))
moved (Ok a) (Ok b) n = refl
moved (Ok a) (Err e) n = refl
moved (Err e) q n = refl

module _ (sc : Scope) where
  pub typing-number : (at : ℕ) → typing sc (number at) ≡ Ok (made at int [] true)
  unfolding typing
  typing-number at = refl

  pub typing-named : (name : NameTree) → typing sc (named name) ≡ name_node name (lookup sc name.text)
  unfolding typing
  typing-named name = refl

  pub typing-bracket : (at : ℕ) (f : Form) → typing sc (bracket at f) ≡ and_then (and_then (typing sc f) part) (λ n. Ok (bracketed at n))
  unfolding typing
  typing-bracket at f = refl

  pub typing-negative : (at : ℕ) (f : Form) → typing sc (negative at f) ≡ and_then (and_then (typing sc f) part) (λ n. Ok (made at int (n ∷ []) (is_number n.sort)))
  unfolding typing
  typing-negative at f = refl

  pub typing-arithmetic : (at : ℕ) (fs : Forms) → typing sc (arithmetic at fs) ≡ and_then (typed_parts sc fs) (λ ns. Ok (made at int ns (all_sorts is_number ns)))
  unfolding typing
  typing-arithmetic at fs = refl

  pub typing-absolute : (at : ℕ) (f : Form) → typing sc (absolute at f) ≡ and_then (and_then (typing sc f) part) (λ n. Ok (made at int (n ∷ []) (is_number n.sort)))
  unfolding typing
  typing-absolute at f = refl

  pub typing-connected : (at : ℕ) (fs : Forms) → typing sc (connected at fs) ≡ and_then (typed_parts sc fs) (λ ns. Ok (made at bool ns (all_sorts is_truth ns)))
  unfolding typing
  typing-connected at fs = refl

  pub typing-aggregate : (at : ℕ) (p : Params) (f : Form) → typing sc (aggregate at p f) ≡ and_then (open_params data_alone sc p) (λ opened. and_then (and_then (typing opened.scope f) part) (λ n. Ok (node at int (n ∷ []) (is_number n.sort) (opened.kinds ++ kinds n))))
  unfolding typing
  typing-aggregate at p f = refl

  pub typing-cardinality : (at : ℕ) (f : Form) → typing sc (cardinality at f) ≡ and_then (and_then (typing sc f) part) (λ n. Ok (made at int (n ∷ []) (is_set n.sort)))
  unfolding typing
  typing-cardinality at f = refl

  pub typing-call : (op : CallOp) (at : ℕ) (f : Form) → typing sc (call op at f) ≡ and_then (and_then (typing sc f) part) (λ n. Ok (called op at n))
  unfolding typing
  typing-call calls.Absolute at f = refl
  typing-call calls.Cardinality at f = refl

  pub typing-all_different : (at : ℕ) (f : Form) → typing sc (all_different at f) ≡ and_then (and_then (typing sc f) part) (λ n. Ok (made at bool (n ∷ []) (is_array_of_single n.sort)))
  unfolding typing
  typing-all_different at f = refl

  pub typing-tuple : (at : ℕ) (fs : Forms) → typing sc (tuple at fs) ≡ and_then (typed_parts sc fs) (λ ns. Ok (of_data (made at (row (sorts_of (map (λ n. n.sort) ns))) ns (all_sorts is_storable ns))))
  unfolding typing
  typing-tuple at fs = refl

  pub typing-described : (at : ℕ) (f : Form) (p : Params) → typing sc (described at f p) ≡ and_then (and_then (typing (scope_within sc p (open_params data_alone sc p)) f) part) (λ n. and_then (open_params data_alone sc p) (λ opened. Ok (of_data (node at (set n.sort) (n ∷ []) (is_storable n.sort) (kinds n ++ opened.kinds)))))
  unfolding typing
  typing-described at f p = refl

  pub typing-cells : (at : ℕ) (fs : Forms) → typing sc (cells at fs) ≡ and_then (typed_parts sc fs) (λ ns. Ok (made at anything ns false))
  unfolding typing
  typing-cells at fs = refl

  pub typing-keyed_cells : (at : ℕ) (ps : Pairs) → typing sc (keyed_cells at ps) ≡ and_then (typed_pairs sc ps) (λ ns. Ok (made at anything ns false))
  unfolding typing
  typing-keyed_cells at ps = refl

  pub no-parts : typed_parts sc no_forms ≡ Ok []
  unfolding typed_parts
  no-parts = refl

  pub more-parts : (f : Form) (fs : Forms) → typed_parts sc (more_forms f fs) ≡ and_then (and_then (typing sc f) part) (λ n. and_then (typed_parts sc fs) (λ ns. Ok (n ∷ ns)))
  unfolding typed_parts typing
  more-parts f fs = refl

  pub no-cells : typed_pairs sc no_pairs ≡ Ok []
  unfolding typed_pairs
  no-cells = refl

  pub more-cells : (key cell : Form) (ps : Pairs) → typed_pairs sc (more_pairs key cell ps) ≡ and_then (and_then (typing sc key) part) (λ m. and_then (and_then (typing sc cell) part) (λ n. and_then (typed_pairs sc ps) (λ ns. Ok (m ∷ n ∷ ns))))
  unfolding typed_pairs typing
  more-cells key cell ps = refl

  -- parts with others behind them
  pub parts-append : (fs gs : List Form) → typed_parts sc (forms_of (fs ++ gs)) ≡ and_then (typed_parts sc (forms_of fs)) (λ ms. and_then (typed_parts sc (forms_of gs)) (λ ns. Ok (ms ++ ns)))
  unfolding typed_parts typing
  parts-append [] gs = sym (alone (typed_parts sc (forms_of gs)))
  parts-append (f ∷ fs) gs =
      alike-after (and_then (typing sc f) part) _ _ (λ n.
      ap (λ c. and_then c (λ ns. Ok (n ∷ ns))) (parts-append fs gs)
      ∙ moved (typed_parts sc (forms_of fs)) (typed_parts sc (forms_of gs)) n)
      ∙ sym (after (and_then (typing sc f) part) (λ n. and_then (typed_parts sc (forms_of fs)) (λ ns. Ok (n ∷ ns))) (λ ms. and_then (typed_parts sc (forms_of gs)) (λ ns. Ok (ms ++ ns))))

  pub typed_set-whole : (need : Need) (takes : Sort → Bool) (f : Form) → typed_set need takes sc (whole f) ≡ and_then (and_then (typing sc f) (used need takes)) (λ n. Ok (record { nodes = n ∷ []; element = elements n.sort }))
  unfolding typed_set typing
  typed_set-whole need takes f = refl

  pub typed_set-between : (need : Need) (takes : Sort → Bool) (low high : Form) → typed_set need takes sc (between low high) ≡ and_then (and_then (typing sc low) data_number) (λ m. and_then (and_then (typing sc high) data_number) (λ n. Ok (record { nodes = m ∷ n ∷ []; element = Some int })))
  unfolding typed_set typing
  typed_set-between need takes low high = refl

-- a chain of one operand is that operand; in a chain of several each is a part
module _ (sc : Scope) (make : Forms → Form) (end : List Node → Node) (rule : (fs : Forms) → typing sc (make fs) ≡ and_then (typed_parts sc fs) (λ ns. Ok (end ns))) where
  pub chain_fault : (f : Form) (fs : List Form) (e : TypeFault) → Gives node_of (typing sc f) (Err e) → Gives node_of (typing sc (chain make f fs)) (Err e)
  chain_fault f [] e h = h
  chain_fault f (g ∷ gs) e h =
      gives-same node_of _ _ (Err e) (rule (forms_of (f ∷ g ∷ gs)) ∙ ap (λ c. and_then c (λ ns. Ok (end ns))) (more-parts sc f (forms_of (g ∷ gs))))
      (gives-fault (map node_of) node_of _ _ e (gives-fault node_of (map node_of) _ _ e (gives-fault node_of node_of _ _ e h)))

  pub chain_more : (f : Form) (fs : List Form) → (fs ≡ [] → ⊥) → (n : Node) → typing sc f ≡ Ok n →
      typing sc (chain make f fs) ≡ and_then (and_then (part n) (λ m. and_then (typed_parts sc (forms_of fs)) (λ ns. Ok (m ∷ ns)))) (λ ns. Ok (end ns))
  chain_more f [] some n t = absurd (some refl)
  chain_more f (g ∷ gs) some n t =
      rule (forms_of (f ∷ g ∷ gs)) ∙ ap (λ c. and_then c (λ ns. Ok (end ns))) (more-parts sc f (forms_of (g ∷ gs)))
      ∙ ap (λ c. and_then (and_then (and_then c part) (λ m. and_then (typed_parts sc (forms_of (g ∷ gs))) (λ ns. Ok (m ∷ ns)))) (λ ns. Ok (end ns))) t

module _ (n : Names) (ls : List Local) where
  pub typing-related : (at : ℕ) (f : Form) (r : Relation) (g : Form) → typing (within n ls) (related at f r g) ≡ and_then (and_then (typing (within n ls) f) part) (λ a. and_then (and_then (typing (within n ls) g) part) (λ b. Ok (made at bool (a ∷ b ∷ []) (are_related (scope_of n) r a.sort b.sort))))
  unfolding typing
  typing-related at f r g = λ i. and_then (and_then (typing (within n ls) f) part) (λ a. and_then (and_then (typing (within n ls) g) part) (λ b. Ok (made at bool (a ∷ b ∷ []) (related-alike (within n ls) (scope_of n) (alike-within n ls) r a.sort b.sort i))))

  pub typing-member : (at : ℕ) (f : Form) (over : SetForm) → typing (within n ls) (member at f over) ≡ and_then (and_then (typing (within n ls) f) part) (λ a. and_then (typed_set nothing any_type (within n ls) over) (λ range. Ok (of_data (made at bool (a ∷ range.nodes) (is_member (scope_of n) range.element a.sort)))))
  unfolding typing
  typing-member at f over = λ i. and_then (and_then (typing (within n ls) f) part) (λ a. and_then (typed_set nothing any_type (within n ls) over) (λ range. Ok (of_data (made at bool (a ∷ range.nodes) (member-alike (within n ls) (scope_of n) (alike-within n ls) range.element a.sort i)))))

  pub typing-listed : (at : ℕ) (fs : Forms) → typing (within n ls) (listed at fs) ≡ and_then (typed_parts (within n ls) fs) (λ ns. Ok (of_data (made at (set_type ns (element_type (scope_of n) (Some anything) ns)) ns (all_sorts is_storable ns && is_some (element_type (scope_of n) (Some anything) ns)))))
  unfolding typing
  typing-listed at fs = λ i. and_then (typed_parts (within n ls) fs) (λ ns. let e : Option Sort = elements-alike (within n ls) (scope_of n) (alike-within n ls) (Some anything) ns i in Ok (of_data (made at (set_type ns e) ns (all_sorts is_storable ns && is_some e))))

  pub typing-question : (at : ℕ) (op : QuestionOp) (f : Form) → typing (within n ls) (question at op f) ≡ and_then (and_then (typing (within n ls) f) part) (λ a. Ok (question_node (scope_of n) at op a))
  unfolding typing
  typing-question at op f = λ i. and_then (and_then (typing (within n ls) f) part) (λ a. Ok (question-alike (within n ls) (scope_of n) (alike-within n ls) at op a i))

pub ruleset rules_of_forms = (typing-number, typing-named, typing-bracket, typing-negative, typing-arithmetic, typing-absolute, typing-connected, typing-aggregate, typing-cardinality, typing-call, typing-all_different, typing-tuple, typing-described, typing-cells, typing-keyed_cells, typing-related, typing-member, typing-listed, typing-question)

pub ruleset rules_of_parts = (no-parts, more-parts)

pub ruleset rules_of_pairs = (no-cells, more-cells)

pub ruleset rules_of_sets = (typed_set-whole, typed_set-between)
