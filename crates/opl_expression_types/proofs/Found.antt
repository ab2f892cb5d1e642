-- Parts, out of what was found of expressions.
use Rattle.std.proofs.Common.{◌≡◌, Bool, ℕ, ◌+◌, ◌<◌, length, get_or, drop, List, [], ◌∷◌, ◌++◌, map, Result, Ok, Err, refl, ap, sym, subst, ◌∙◌}
use Rattle.std.proofs.lemmas.List.{map-append, append-nil}
use Rattle.std.specs.Result.{result_map_both}
use Rattle.opl_type_rules.specs.declared.fault.TypeFault.{TypeFault}
use Rattle.opl_type_rules.specs.declared.fault.TypeFault.TheVariants.{Unknown, Duplicate, Mismatch, NotData, OutOfMemory}
use Rattle.opl_type_rules.specs.declared.kind.Ty.{Ty}
use Rattle.opl_type_rules.specs.declared.node.Node as nodes
use Rattle.opl_type_rules.specs.Scope.{Scope, Checked, and_then}
use Rattle.opl_type_rules.specs.Forms.{Form, Pair, forms_of, pairs_of}
use Rattle.opl_type_rules.specs.Expressions.{Need, Node, kinds, part, settled, typing, typed_parts, typed_pairs, used}
use Rattle.opl_type_rules.specs.Types.{is_truth, sort}
use Rattle.opl_type_rules.specs.Values.{Does, Gives, node_of}
use Rattle.opl_type_rules.proofs.Chains.{alike-after, gives-fault, gives-memory, gives-same}
use Rattle.opl_expression_types.proofs.Loops.{parts_here, pair_here, last_here}
use Rattle.opl_expression_types.proofs.Typing.{no-parts}

-- what was found, as the rules have it
abbrev pub checked_of : Result nodes.Node TypeFault → Checked Node
checked_of found = result_map_both node_of (λ e. e) found

pub gives-itself : {A B : Type 0} (r : B → A) (e : TypeFault) → Gives r (Err e) (Err e)
gives-itself r (Unknown at) = refl
gives-itself r (Duplicate at) = refl
gives-itself r (Mismatch at) = refl
gives-itself r (NotData at) = refl
gives-itself r OutOfMemory = tt

-- a fault of what was found is that of all behind it
pub fault_kept : {C D : Type 0} (q : D → C) (f : Node → Checked C) (found : Result nodes.Node TypeFault) (e : TypeFault) → found ≡ Err e → Gives q (and_then (checked_of found) f) (Err e)
fault_kept q f found e is = gives-same q _ (Err e) (Err e) (ap (λ r. and_then (checked_of r) f) is) (gives-itself q e)

pub node_kept : {C D : Type 0} (q : D → C) (f : Node → Checked C) (found : Result nodes.Node TypeFault) (n : nodes.Node) → found ≡ Ok n → (result : Result D TypeFault) → Gives q (f (node_of n)) result → Gives q (and_then (checked_of found) f) result
node_kept q f found n is result h = gives-same q _ (f (node_of n)) result (ap (λ r. and_then (checked_of r) f) is) h

-- what holds of what was found holds of the rule, since that was found by it
pub through : {C D : Type 0} (q : D → C) (c : Checked Node) (f : Node → Checked C) (found : Result nodes.Node TypeFault) (result : Result D TypeFault) → Gives node_of c found → Gives q (and_then (checked_of found) f) result → Gives q (and_then c f) result
through q c f (Ok n) result h g = subst (λ d. Gives q (and_then d f) result) (sym h) g
through q c f (Err (Unknown at)) result h g = subst (λ d. Gives q (and_then d f) result) (sym h) g
through q c f (Err (Duplicate at)) result h g = subst (λ d. Gives q (and_then d f) result) (sym h) g
through q c f (Err (Mismatch at)) result h g = subst (λ d. Gives q (and_then d f) result) (sym h) g
through q c f (Err (NotData at)) result h g = subst (λ d. Gives q (and_then d f) result) (sym h) g
through q c f (Err OutOfMemory) (Ok d) h g = cc
through q c f (Err OutOfMemory) (Err (Unknown at)) h g = cc
through q c f (Err OutOfMemory) (Err (Duplicate at)) h g = cc
through q c f (Err OutOfMemory) (Err (Mismatch at)) h g = cc
through q c f (Err OutOfMemory) (Err (NotData at)) h g = cc
through q c f (Err OutOfMemory) (Err OutOfMemory) h g = tt

-- the same, where something is made of that
pub through_both : {C D : Type 0} (q : D → C) (c : Checked Node) (g : Node → Checked Node) (f : Node → Checked C) (found : Result nodes.Node TypeFault) (result : Result D TypeFault) → Gives node_of c found → Gives q (and_then (and_then (checked_of found) g) f) result → Gives q (and_then (and_then c g) f) result
through_both q c g f (Ok n) result h k = subst (λ d. Gives q (and_then (and_then d g) f) result) (sym h) k
through_both q c g f (Err (Unknown at)) result h k = subst (λ d. Gives q (and_then (and_then d g) f) result) (sym h) k
through_both q c g f (Err (Duplicate at)) result h k = subst (λ d. Gives q (and_then (and_then d g) f) result) (sym h) k
through_both q c g f (Err (Mismatch at)) result h k = subst (λ d. Gives q (and_then (and_then d g) f) result) (sym h) k
through_both q c g f (Err (NotData at)) result h k = subst (λ d. Gives q (and_then (and_then d g) f) result) (sym h) k
through_both q c g f (Err OutOfMemory) (Ok d) h k = cc
through_both q c g f (Err OutOfMemory) (Err (Unknown at)) h k = cc
through_both q c g f (Err OutOfMemory) (Err (Duplicate at)) h k = cc
through_both q c g f (Err OutOfMemory) (Err (Mismatch at)) h k = cc
through_both q c g f (Err OutOfMemory) (Err (NotData at)) h k = cc
through_both q c g f (Err OutOfMemory) (Err OutOfMemory) h k = tt

pub through_part : {C D : Type 0} (q : D → C) (c : Checked Node) (f : Node → Checked C) (found : Result nodes.Node TypeFault) (result : Result D TypeFault) → Gives node_of c found → Gives q (and_then (and_then (checked_of found) part) f) result → Gives q (and_then (and_then c part) f) result
through_part q c f = through_both q c part f

-- where what is made of a part can't fail, a fault is that of the part
pub stopped : {A C D : Type 0} {B : Type 0} (q : D → C) (r : B → A) (p : Checked A) (k : A → C) (e : TypeFault) → Gives q (and_then p (λ a. Ok (k a))) (Err e) → Gives r p (Err e)
stopped q r (Ok a) k (Unknown at) h = cc
stopped q r (Ok a) k (Duplicate at) h = cc
stopped q r (Ok a) k (Mismatch at) h = cc
stopped q r (Ok a) k (NotData at) h = cc
stopped q r (Ok a) k OutOfMemory h = tt
stopped {A} {C} q r (Err d) k e h = gives-fault {A = C} q r (Err d) (λ x. Err d) e h

-- a part that is added
pub part_pushed : (p : Checked Node) (before after : List nodes.Node) (m : nodes.Node) → p ≡ Ok (node_of m) → after ≡ before ++ m ∷ [] → and_then p (λ n. Ok (map node_of before ++ (n ∷ []))) ≡ Ok (map node_of after)
part_pushed p before after m h g =
    ap (λ c. and_then c (λ n. Ok (map node_of before ++ (n ∷ [])))) h
    ∙ ap (λ ms. Ok ms) (sym (map-append node_of before (m ∷ [])))
    ∙ ap (λ ms. Ok (map node_of ms)) (sym g)

-- the first of several
pub first_refused : (p : Checked Node) (rest : Checked (List Node)) (e : TypeFault) → Gives (map node_of) (and_then p (λ n. Ok (n ∷ []))) (Err e) → Gives (map node_of) (and_then p (λ n. and_then rest (λ ns. Ok (n ∷ ns)))) (Err e)
first_refused p rest e h = gives-fault node_of (map node_of) p _ e (stopped (map node_of) node_of p (λ n. n ∷ []) e h)

pub first_kept : (p : Checked Node) (rest : Checked (List Node)) (found : List nodes.Node) → and_then p (λ n. Ok (n ∷ [])) ≡ Ok (map node_of found) → and_then p (λ n. and_then rest (λ ns. Ok (n ∷ ns))) ≡ and_then rest (λ ns. Ok (map node_of found ++ ns))
first_kept (Ok n) (Ok ns) found h = ap (λ c. and_then c (λ ms. Ok (ms ++ ns))) h
first_kept (Ok n) (Err e) found h = refl
first_kept (Err e) rest found h = cc

spread : (before : List Node) (n : Node) (ns : List Node) → before ++ (n ∷ ns) ≡ (before ++ n ∷ []) ++ ns
spread [] n ns = refl
spread (k ∷ ks) n ns = ap (λ rest. k ∷ rest) (spread ks n ns)

-- one more behind those before
kept : (before after : List Node) (p : Checked Node) (rest : Checked (List Node)) → and_then p (λ n. Ok (before ++ n ∷ [])) ≡ Ok after →
    and_then (and_then p (λ n. and_then rest (λ ns. Ok (n ∷ ns)))) (λ ns. Ok (before ++ ns)) ≡ and_then rest (λ ns. Ok (after ++ ns))
kept before after (Ok n) (Ok ns) h = ap (λ ms. Ok ms) (spread before n ns) ∙ ap (λ c. and_then c (λ ms. Ok (ms ++ ns))) h
kept before after (Ok n) (Err e) h = refl
kept before after (Err e) rest h = cc

-- two more are one, and one more
paired : (p : Checked Node) (rest : Checked (List Node)) (m : Node) → and_then p (λ n. and_then rest (λ ns. Ok (m ∷ n ∷ ns))) ≡ and_then (and_then p (λ n. and_then rest (λ ns. Ok (n ∷ ns)))) (λ ns. Ok (m ∷ ns))
paired (Ok n) (Ok ns) m = refl
paired (Ok n) (Err e) m = refl
paired (Err e) rest m = refl

-- what a step says that adds the part of `f`
abbrev pub Adds : Scope → Form → Result nodes.Node TypeFault → List nodes.Node → List nodes.Node → Result (Unit {0}) TypeFault → Type 0
Adds sc f next before after result = Gives node_of (typing sc f) next × Gives (λ (u : Unit {0}). map node_of after) (and_then (and_then (checked_of next) part) (λ n. Ok (map node_of before ++ (n ∷ [])))) result

refused : (sc : Scope) (f : Form) (next : Result nodes.Node TypeFault) (before after : List nodes.Node) (e : TypeFault) → Adds sc f next before after (Err e) → Gives node_of (and_then (typing sc f) part) (Err e)
refused sc f next before after e s =
    stopped (λ (u : Unit {0}). map node_of after) node_of (and_then (typing sc f) part) (λ n. map node_of before ++ (n ∷ [])) e
    (through_part (λ (u : Unit {0}). map node_of after) (typing sc f) (λ n. Ok (map node_of before ++ (n ∷ []))) next (Err e) s.0 s.1)

made_more : (sc : Scope) (f : Form) (next : Result nodes.Node TypeFault) (before after : List nodes.Node) → Adds sc f next before after (Ok tt) → and_then (and_then (typing sc f) part) (λ n. Ok (map node_of before ++ (n ∷ []))) ≡ Ok (map node_of after)
made_more sc f next before after s = through_part (λ (u : Unit {0}). map node_of after) (typing sc f) (λ n. Ok (map node_of before ++ (n ∷ []))) next (Ok tt) s.0 s.1

module _ {T : Type 0} (sc : Scope) (form : T → Form) (whole : Checked (List Node)) (xs : List T) (i : ℕ) (found : List nodes.Node)
    (so_far : whole ≡ and_then (typed_parts sc (forms_of (map form (drop i xs)))) (λ ns. Ok (map node_of found ++ ns)))
    (x : T) (more : i < length xs) (here : x ≡ get_or xs i x) (next : Result nodes.Node TypeFault) (after : List nodes.Node) where
  pub part_refused : (e : TypeFault) → Adds sc (form x) next found after (Err e) → Gives (map node_of) whole (Err e)
  part_refused e s =
      gives-same (map node_of) whole _ (Err e) (parts_here sc form whole xs i found so_far x more here)
      (gives-fault (map node_of) (map node_of) _ _ e (gives-fault node_of (map node_of) _ _ e (refused sc (form x) next found after e s)))

  pub part_kept : Adds sc (form x) next found after (Ok tt) → whole ≡ and_then (typed_parts sc (forms_of (map form (drop (i + 1) xs)))) (λ ns. Ok (map node_of after ++ ns))
  part_kept s =
      parts_here sc form whole xs i found so_far x more here
      ∙ kept (map node_of found) (map node_of after) (and_then (typing sc (form x)) part) (typed_parts sc (forms_of (map form (drop (i + 1) xs)))) (made_more sc (form x) next found after s)

module _ {T : Type 0} (sc : Scope) (form : T → Pair) (whole : Checked (List Node)) (xs : List T) (i : ℕ) (found : List nodes.Node)
    (so_far : whole ≡ and_then (typed_pairs sc (pairs_of (map form (drop i xs)))) (λ ns. Ok (map node_of found ++ ns)))
    (x : T) (more : i < length xs) (here : x ≡ get_or xs i x) (key cell : Form) (is : form x ≡ record { key = key; cell = cell })
    (next : Result nodes.Node TypeFault) (between : List nodes.Node) where
  pub key_refused : (e : TypeFault) → Adds sc key next found between (Err e) → Gives (map node_of) whole (Err e)
  key_refused e s =
      gives-same (map node_of) whole _ (Err e) (pair_here sc form whole xs i found so_far x more here key cell is)
      (gives-fault (map node_of) (map node_of) _ _ e (gives-fault node_of (map node_of) _ _ e (refused sc key next found between e s)))

  module _ (s : Adds sc key next found between (Ok tt)) (other : Result nodes.Node TypeFault) (after : List nodes.Node) where
    cell_kept : whole ≡ and_then (and_then (and_then (typing sc cell) part) (λ n. and_then (typed_pairs sc (pairs_of (map form (drop (i + 1) xs)))) (λ ns. Ok (n ∷ ns)))) (λ ns. Ok (map node_of between ++ ns))
    cell_kept =
        pair_here sc form whole xs i found so_far x more here key cell is
        ∙ ap (λ c. and_then c (λ ns. Ok (map node_of found ++ ns))) (alike-after (and_then (typing sc key) part) _ _ (λ m. paired (and_then (typing sc cell) part) (typed_pairs sc (pairs_of (map form (drop (i + 1) xs)))) m))
        ∙ kept (map node_of found) (map node_of between) (and_then (typing sc key) part) (and_then (and_then (typing sc cell) part) (λ n. and_then (typed_pairs sc (pairs_of (map form (drop (i + 1) xs)))) (λ ns. Ok (n ∷ ns)))) (made_more sc key next found between s)

    pub cell_refused : (e : TypeFault) → Adds sc cell other between after (Err e) → Gives (map node_of) whole (Err e)
    cell_refused e g =
        gives-same (map node_of) whole _ (Err e) cell_kept
        (gives-fault (map node_of) (map node_of) _ _ e (gives-fault node_of (map node_of) _ _ e (refused sc cell other between after e g)))

    pub pair_kept : Adds sc cell other between after (Ok tt) → whole ≡ and_then (typed_pairs sc (pairs_of (map form (drop (i + 1) xs)))) (λ ns. Ok (map node_of after ++ ns))
    pair_kept g =
        cell_kept
        ∙ kept (map node_of between) (map node_of after) (and_then (typing sc cell) part) (typed_pairs sc (pairs_of (map form (drop (i + 1) xs)))) (made_more sc cell other between after g)

module _ (sc : Scope) (whole : Checked (List Node)) (parts : List nodes.Node) (f : Form) (so_far : whole ≡ and_then (typed_parts sc (forms_of (f ∷ []))) (λ ns. Ok (map node_of parts ++ ns)))
    (next : Result nodes.Node TypeFault) (after : List nodes.Node) where
  pub last_refused : (e : TypeFault) → Adds sc f next parts after (Err e) → Gives (map node_of) whole (Err e)
  last_refused e s =
      gives-same (map node_of) whole _ (Err e) (last_here sc whole parts f so_far)
      (gives-fault (map node_of) (map node_of) _ _ e (gives-fault node_of (map node_of) _ _ e (refused sc f next parts after e s)))

  pub last_kept : Adds sc f next parts after (Ok tt) → whole ≡ Ok (map node_of after)
  last_kept s =
      last_here sc whole parts f so_far
      ∙ kept (map node_of parts) (map node_of after) (and_then (typing sc f) part) (typed_parts sc (forms_of [])) (made_more sc f next parts after s)
      ∙ ap (λ c. and_then c (λ ns. Ok (map node_of after ++ ns))) (no-parts sc)
      ∙ ap (λ ns. Ok ns) (append-nil (map node_of after))

-- the types of a condition, behind those before
module _ (need : Need) (found : Result nodes.Node TypeFault) (n : nodes.Node) (is : found ≡ Ok n) (is_taken : Bool) (taken : is_taken ≡ is_truth (sort n.ty)) (old new : List Ty) where
  condition_used : and_then (checked_of found) (used need is_truth) ≡ settled need is_taken (node_of n)
  condition_used = ap (λ r. and_then (checked_of r) (used need is_truth)) is ∙ ap (λ b. settled need b (node_of n)) (sym taken)

  pub unmet : (e : TypeFault) → Gives node_of (settled need is_taken (node_of n)) (Err e) → Gives (λ (u : Unit {0}). map sort new) (and_then (and_then (checked_of found) (used need is_truth)) (λ m. Ok (map sort old ++ kinds m))) (Err e)
  unmet e h = gives-fault node_of (λ (u : Unit {0}). map sort new) _ _ e (gives-same node_of _ _ (Err e) condition_used h)

  pub met : (m : nodes.Node) → settled need is_taken (node_of n) ≡ Ok (node_of m) → (result : Result (Unit {0}) TypeFault) → Does (λ u. map sort new ≡ map sort old ++ kinds (node_of m)) result →
      Gives (λ (u : Unit {0}). map sort new) (and_then (and_then (checked_of found) (used need is_truth)) (λ m. Ok (map sort old ++ kinds m))) result
  met m h (Ok u) d = ap (λ c. and_then c (λ m. Ok (map sort old ++ kinds m))) (condition_used ∙ h) ∙ ap (λ ks. Ok ks) (sym d)
  met m h (Err e) d = gives-memory (λ (u : Unit {0}). map sort new) _ e d

pub unfound : (need : Need) (found : Result nodes.Node TypeFault) (old new : List Ty) (e : TypeFault) → found ≡ Err e → Gives (λ (u : Unit {0}). map sort new) (and_then (and_then (checked_of found) (used need is_truth)) (λ m. Ok (map sort old ++ kinds m))) (Err e)
unfound need found old new e is =
    gives-same (λ (u : Unit {0}). map sort new) _ (Err e) (Err e) (ap (λ r. and_then (and_then (checked_of r) (used need is_truth)) (λ m. Ok (map sort old ++ kinds m))) is) (gives-itself (λ (u : Unit {0}). map sort new) e)
