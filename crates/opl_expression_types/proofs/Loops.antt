-- Parts that are typed one after the other.
use Rattle.std.proofs.Common.{◌≡◌, ℕ, ◌+◌, ◌<◌, ◌≤◌, length, get_or, drop, List, [], ◌∷◌, ◌++◌, map, IsTrue, false, Result, Ok, Err, refl, ap, sym, ◌∙◌}
use Rattle.std.proofs.lemmas.List.{at_drop_more, at_drop_all, append-nil}
use Rattle.std.proofs.lemmas.Bool.{false≢true}
use Rattle.opl_type_rules.specs.declared.fault.TypeFault.{TypeFault}
use Rattle.opl_type_rules.specs.declared.node.Node as nodes
use Rattle.opl_type_rules.specs.Scope.{Scope, Checked, and_then}
use Rattle.opl_type_rules.specs.Forms.{Form, Forms, Pair, chain, forms_of, pairs_of}
use Rattle.opl_type_rules.specs.Expressions.{Node, part, typing, typed_parts, typed_pairs}
use Rattle.opl_type_rules.specs.Values.{Gives, node_of}
use Rattle.opl_type_rules.proofs.Chains.{after, alike-after, gives-fault, gives-same}
use Rattle.opl_expression_types.proofs.Typing.{no-parts, more-parts, no-cells, more-cells, parts-append, moved, chain_more}

-- nodes with others behind them
abbrev pub behind_nodes : List nodes.Node → Checked (List Node) → Checked (List Node)
behind_nodes found c = and_then c (λ ns. Ok (map node_of found ++ ns))

-- a part, where the expression itself has no fault
typed_part : (sc : Scope) (f : Form) (n : nodes.Node) → typing sc f ≡ Ok (node_of n) → and_then (typing sc f) part ≡ part (node_of n)
typed_part sc f n h = ap (λ c. and_then c part) h

module _ {T : Type 0} (sc : Scope) (form : T → Form) (whole : Checked (List Node)) (xs : List T) (i : ℕ) (found : List nodes.Node)
    (so_far : whole ≡ and_then (typed_parts sc (forms_of (map form (drop i xs)))) (λ ns. Ok (map node_of found ++ ns))) where
  pub parts_end : length xs ≤ i → whole ≡ Ok (map node_of found)
  parts_end all =
      so_far ∙ ap (behind_nodes found) (at_drop_all (λ ys. typed_parts sc (forms_of (map form ys))) xs i all ∙ no-parts sc)
      ∙ ap (λ ns. Ok ns) (append-nil (map node_of found))

  pub parts_here : (x : T) → i < length xs → x ≡ get_or xs i x →
      whole ≡ behind_nodes found (and_then (and_then (typing sc (form x)) part) (λ n. and_then (typed_parts sc (forms_of (map form (drop (i + 1) xs)))) (λ ns. Ok (n ∷ ns))))
  parts_here x more here =
      so_far ∙ ap (behind_nodes found)
      (at_drop_more (λ ys. typed_parts sc (forms_of (map form ys))) xs i x more
      ∙ ap (λ y. typed_parts sc (forms_of (map form (y ∷ drop (i + 1) xs)))) (sym here)
      ∙ more-parts sc (form x) (forms_of (map form (drop (i + 1) xs))))

module _ {T : Type 0} (sc : Scope) (form : T → Pair) (whole : Checked (List Node)) (xs : List T) (i : ℕ) (found : List nodes.Node)
    (so_far : whole ≡ and_then (typed_pairs sc (pairs_of (map form (drop i xs)))) (λ ns. Ok (map node_of found ++ ns))) where
  pub pairs_end : length xs ≤ i → whole ≡ Ok (map node_of found)
  pairs_end all =
      so_far ∙ ap (behind_nodes found) (at_drop_all (λ ys. typed_pairs sc (pairs_of (map form ys))) xs i all ∙ no-cells sc)
      ∙ ap (λ ns. Ok ns) (append-nil (map node_of found))

  -- the pair that stands next
  module _ (x : T) (more : i < length xs) (here : x ≡ get_or xs i x) (key cell : Form) (is : form x ≡ record { key = key; cell = cell }) where
    pub pair_here : whole ≡ behind_nodes found (and_then (and_then (typing sc key) part) (λ m. and_then (and_then (typing sc cell) part) (λ n. and_then (typed_pairs sc (pairs_of (map form (drop (i + 1) xs)))) (λ ns. Ok (m ∷ n ∷ ns)))))
    pair_here =
        so_far ∙ ap (behind_nodes found)
        (at_drop_more (λ ys. typed_pairs sc (pairs_of (map form ys))) xs i x more
        ∙ ap (λ y. typed_pairs sc (pairs_of (map form (y ∷ drop (i + 1) xs)))) (sym here)
        ∙ more-cells sc (form x).key (form x).cell (pairs_of (map form (drop (i + 1) xs)))
        ∙ ap (λ p. and_then (and_then (typing sc p.key) part) (λ m. and_then (and_then (typing sc p.cell) part) (λ n. and_then (typed_pairs sc (pairs_of (map form (drop (i + 1) xs)))) (λ ns. Ok (m ∷ n ∷ ns))))) is)

pub none_left : {T : Type 0} (form : T → Form) (rest : List T) → (rest ≡ [] → IsTrue false) → map form rest ≡ [] → IsTrue false
none_left form [] some e = some refl
none_left form (x ∷ xs) some e = cc

-- a chain, once the parts behind the first are known
module _ (sc : Scope) (make : Forms → Form) (end : List Node → Node) (rule : (fs : Forms) → typing sc (make fs) ≡ and_then (typed_parts sc fs) (λ ns. Ok (end ns)))
    (whole f : Form) (fs gs : List Form) (is : whole ≡ chain make f fs) (same : gs ≡ fs) (some : fs ≡ [] → IsTrue false)
    (n : nodes.Node) (typed : typing sc f ≡ Ok (node_of n)) where
  chain_parts : typing sc whole ≡ and_then (and_then (part (node_of n)) (λ m. and_then (typed_parts sc (forms_of gs)) (λ ns. Ok (m ∷ ns)))) (λ ns. Ok (end ns))
  chain_parts =
      ap (typing sc) is ∙ chain_more sc make end rule f fs (λ e. false≢true (some e)) (node_of n) typed
      ∙ ap (λ hs. and_then (and_then (part (node_of n)) (λ m. and_then (typed_parts sc (forms_of hs)) (λ ns. Ok (m ∷ ns)))) (λ ns. Ok (end ns))) (sym same)

  pub chain_wrong : (e : TypeFault) → Gives (map node_of) (and_then (part (node_of n)) (λ m. and_then (typed_parts sc (forms_of gs)) (λ ns. Ok (m ∷ ns)))) (Err e) →
      Gives node_of (typing sc whole) (Err e)
  chain_wrong e h = gives-same node_of (typing sc whole) _ (Err e) chain_parts (gives-fault (map node_of) node_of _ _ e h)

  pub chain_made : (parts : List nodes.Node) → and_then (part (node_of n)) (λ m. and_then (typed_parts sc (forms_of gs)) (λ ns. Ok (m ∷ ns))) ≡ Ok (map node_of parts) →
      (result : Result nodes.Node TypeFault) → Gives node_of (Ok (end (map node_of parts))) result → Gives node_of (typing sc whole) result
  chain_made parts h result g =
      gives-same node_of (typing sc whole) _ result (chain_parts ∙ ap (λ c. and_then c (λ ns. Ok (end ns))) h) g

-- a first part and others, which have no name of their own
module _ {T : Type 0} (sc : Scope) (form : T → Form) (whole : List Form) (f : Form) (rest slice : List T) (is : whole ≡ f ∷ map form rest) where
  pub first_fault : (e : TypeFault) → Gives node_of (typing sc f) (Err e) → Gives (map node_of) (typed_parts sc (forms_of whole)) (Err e)
  first_fault e h =
      gives-same (map node_of) (typed_parts sc (forms_of whole)) _ (Err e) (ap (λ fs. typed_parts sc (forms_of fs)) is ∙ more-parts sc f (forms_of (map form rest)))
      (gives-fault node_of (map node_of) _ _ e (gives-fault node_of node_of _ _ e h))

  pub first_typed : slice ≡ rest → (n : nodes.Node) → typing sc f ≡ Ok (node_of n) →
      typed_parts sc (forms_of whole) ≡ and_then (part (node_of n)) (λ m. and_then (typed_parts sc (forms_of (map form slice))) (λ ns. Ok (m ∷ ns)))
  first_typed same n t =
      ap (λ fs. typed_parts sc (forms_of fs)) is ∙ more-parts sc f (forms_of (map form rest))
      ∙ ap (λ c. and_then c (λ m. and_then (typed_parts sc (forms_of (map form rest))) (λ ns. Ok (m ∷ ns)))) (typed_part sc f n t)
      ∙ ap (λ xs. and_then (part (node_of n)) (λ m. and_then (typed_parts sc (forms_of (map form xs))) (λ ns. Ok (m ∷ ns)))) (sym same)

-- parts with others behind them
module _ (sc : Scope) (c : Checked Node) (fs gs : List Form) where
  both_parts : and_then c (λ n. and_then (typed_parts sc (forms_of (fs ++ gs))) (λ ns. Ok (n ∷ ns)))
      ≡ and_then (and_then c (λ n. and_then (typed_parts sc (forms_of fs)) (λ ns. Ok (n ∷ ns)))) (λ ms. and_then (typed_parts sc (forms_of gs)) (λ ns. Ok (ms ++ ns)))
  both_parts =
      alike-after c _ _ (λ n.
      ap (λ d. and_then d (λ ns. Ok (n ∷ ns))) (parts-append sc fs gs)
      ∙ moved (typed_parts sc (forms_of fs)) (typed_parts sc (forms_of gs)) n)
      ∙ sym (after c (λ n. and_then (typed_parts sc (forms_of fs)) (λ ns. Ok (n ∷ ns))) (λ ms. and_then (typed_parts sc (forms_of gs)) (λ ns. Ok (ms ++ ns))))

  pub front_fault : (e : TypeFault) → Gives (map node_of) (and_then c (λ n. and_then (typed_parts sc (forms_of fs)) (λ ns. Ok (n ∷ ns)))) (Err e) →
      Gives (map node_of) (and_then c (λ n. and_then (typed_parts sc (forms_of (fs ++ gs))) (λ ns. Ok (n ∷ ns)))) (Err e)
  front_fault e h = gives-same (map node_of) _ _ (Err e) both_parts (gives-fault (map node_of) (map node_of) _ _ e h)

  pub front_typed : (parts : List nodes.Node) → and_then c (λ n. and_then (typed_parts sc (forms_of fs)) (λ ns. Ok (n ∷ ns))) ≡ Ok (map node_of parts) →
      and_then c (λ n. and_then (typed_parts sc (forms_of (fs ++ gs))) (λ ns. Ok (n ∷ ns))) ≡ and_then (typed_parts sc (forms_of gs)) (λ ns. Ok (map node_of parts ++ ns))
  front_typed parts h = both_parts ∙ ap (λ d. and_then d (λ ms. and_then (typed_parts sc (forms_of gs)) (λ ns. Ok (ms ++ ns)))) h

-- one part is left
module _ (sc : Scope) (whole : Checked (List Node)) (parts : List nodes.Node) (f : Form) (so_far : whole ≡ and_then (typed_parts sc (forms_of (f ∷ []))) (λ ns. Ok (map node_of parts ++ ns))) where
  pub last_here : whole ≡ behind_nodes parts (and_then (and_then (typing sc f) part) (λ n. and_then (typed_parts sc (forms_of [])) (λ ns. Ok (n ∷ ns))))
  last_here = so_far ∙ ap (behind_nodes parts) (more-parts sc f (forms_of []))

-- no part is left
pub none_behind : (sc : Scope) (whole : Checked (List Node)) (parts : List nodes.Node) → whole ≡ and_then (typed_parts sc (forms_of [])) (λ ns. Ok (map node_of parts ++ ns)) → whole ≡ Ok (map node_of parts)
none_behind sc whole parts so_far = so_far ∙ ap (behind_nodes parts) (no-parts sc) ∙ ap (λ ns. Ok ns) (append-nil (map node_of parts))

-- a chain whose last operand stands apart
module _ (sc : Scope) (make : Forms → Form) (end : List Node → Node) (rule : (fs : Forms) → typing sc (make fs) ≡ and_then (typed_parts sc fs) (λ ns. Ok (end ns)))
    (whole f : Form) (fs gs hs : List Form) (is : whole ≡ chain make f (fs ++ hs)) (same : gs ≡ fs) (some : fs ++ hs ≡ [] → IsTrue false)
    (n : nodes.Node) (typed : typing sc f ≡ Ok (node_of n)) where
  pub front_wrong : (e : TypeFault) → Gives (map node_of) (and_then (part (node_of n)) (λ m. and_then (typed_parts sc (forms_of gs)) (λ ns. Ok (m ∷ ns)))) (Err e) →
      Gives node_of (typing sc whole) (Err e)
  front_wrong e h =
      chain_wrong sc make end rule whole f (fs ++ hs) (gs ++ hs) is (ap (λ ks. ks ++ hs) same) some n typed e (front_fault sc (part (node_of n)) gs hs e h)

  module _ (parts : List nodes.Node) (found : and_then (part (node_of n)) (λ m. and_then (typed_parts sc (forms_of gs)) (λ ns. Ok (m ∷ ns))) ≡ Ok (map node_of parts)) where
    pub back_wrong : (e : TypeFault) → Gives (map node_of) (and_then (typed_parts sc (forms_of hs)) (λ ns. Ok (map node_of parts ++ ns))) (Err e) → Gives node_of (typing sc whole) (Err e)
    back_wrong e h =
        chain_wrong sc make end rule whole f (fs ++ hs) (gs ++ hs) is (ap (λ ks. ks ++ hs) same) some n typed e
        (gives-same (map node_of) (and_then (part (node_of n)) (λ m. and_then (typed_parts sc (forms_of (gs ++ hs))) (λ ns. Ok (m ∷ ns)))) _ (Err e) (front_typed sc (part (node_of n)) gs hs parts found) h)

    pub back_made : (more : List nodes.Node) → and_then (typed_parts sc (forms_of hs)) (λ ns. Ok (map node_of parts ++ ns)) ≡ Ok (map node_of more) →
        (result : Result nodes.Node TypeFault) → Gives node_of (Ok (end (map node_of more))) result → Gives node_of (typing sc whole) result
    back_made more h result g =
        chain_made sc make end rule whole f (fs ++ hs) (gs ++ hs) is (ap (λ ks. ks ++ hs) same) some n typed more (front_typed sc (part (node_of n)) gs hs parts found ∙ h) result g

    pub back_alone : hs ≡ [] → (result : Result nodes.Node TypeFault) → Gives node_of (Ok (end (map node_of parts))) result → Gives node_of (typing sc whole) result
    back_alone none result g =
        back_made parts (none_behind sc (and_then (typed_parts sc (forms_of hs)) (λ ns. Ok (map node_of parts ++ ns))) parts (ap (λ ks. and_then (typed_parts sc (forms_of ks)) (λ ns. Ok (map node_of parts ++ ns))) none)) result g
