-- Statements and elements, form by form, as the code sees it: whether they are well made, and their nodes.
use Rattle.std.proofs.Common.{◌≡◌, ◌∙◌, ℕ, ◌+◌, Bool, true, false, ◌&&◌, refl, List, [], ◌∷◌, map, ap, sym, subst, arith, length, get_or, ◌<◌}
use Rattle.std.specs.Prelude.{Some}
use Rattle.std.specs.List.{list_all}
use Rattle.opl_expr.specs.declared.forms.Cons.{Cons}
use Rattle.opl_expr.specs.declared.search.Branch as code
use Rattle.opl_expr.specs.declared.search.Step.{Step}
use Rattle.opl_expr.specs.declared.search.Step.TheVariants as S
use Rattle.opl_expr.specs.declared.search.Step.TheOpen.{Step-F, Branch-F}
use Rattle.opl_expr.specs.declared.search.Step.TheFolds.{fold-roll-Step, fold-roll-Branch, map-Step, map-Branch}
use Rattle.opl_expr.specs.declared.search.Step.TheViews.{roll-Step, roll-Branch, out-Branch, roll-out-Branch}
use Rattle.opl_expr.specs.declared.tables.Table.{Table}
use Rattle.opl_expr.specs.declared.tables.Resource.{Resource}
use Rattle.opl_expr.specs.Holds.{same}
use Rattle.opl_trace.specs.GroundCores.{cons_nodes, key_nodes, step_count, branch_count, step_nodes, most_deep, Element, are_alike, are_well_made, is_some_expr, cons_fits, key_fits, step_made, branch_made, is_well_made}
use Rattle.opl_sound.specs.Measures.{small, added}
use Rattle.opl_sound.specs.Ground.{count, branch_nodes, is_like, element_made}
use Rattle.opl_sound.proofs.NodeForms.{small_added, one_small, one_more, with_parts}

-- ---- nodes

layer : (d : Step-F Step code.Branch) → step_nodes (roll-Step d) ≡ step_count (map-Step Step code.Branch ℕ ℕ step_nodes branch_nodes d)
unfolding step_nodes branch_nodes
layer d = fold-roll-Step ℕ ℕ step_count branch_count d

branch_layer : (d : Branch-F Step code.Branch) → branch_nodes (roll-Branch d) ≡ branch_count (map-Branch Step code.Branch ℕ ℕ step_nodes branch_nodes d)
unfolding step_nodes branch_nodes
branch_layer d = fold-roll-Branch ℕ ℕ step_count branch_count d

pub nodes_Post : (c : Cons) → small (step_nodes (S.Post c)) ≡ added (Some 1) (small (cons_nodes c))
nodes_Post c = ap small (ap step_nodes (sym (S.rolls-Post c)) ∙ layer (Step-F.Post c)) ∙ one_more (cons_nodes c)

pub nodes_Block : (ss : List Step) → small (step_nodes (S.Block ss)) ≡ added (Some 1) (count step_nodes ss)
nodes_Block ss = ap small (ap step_nodes (sym (S.rolls-Block ss)) ∙ layer (Step-F.Block ss)) ∙ with_parts step_nodes ss

pub nodes_Try : (ss : List Step) → small (step_nodes (S.Try ss)) ≡ added (Some 1) (count step_nodes ss)
nodes_Try ss = ap small (ap step_nodes (sym (S.rolls-Try ss)) ∙ layer (Step-F.Try ss)) ∙ with_parts step_nodes ss

pub nodes_TryAll : (bs : List code.Branch) → small (step_nodes (S.TryAll bs)) ≡ added (Some 1) (count branch_nodes bs)
nodes_TryAll bs = ap small (ap step_nodes (sym (S.rolls-TryAll bs)) ∙ layer (Step-F.TryAll bs)) ∙ with_parts branch_nodes bs

pub nodes_ForAll : (bs : List code.Branch) → small (step_nodes (S.ForAll bs)) ≡ added (Some 1) (count branch_nodes bs)
nodes_ForAll bs = ap small (ap step_nodes (sym (S.rolls-ForAll bs)) ∙ layer (Step-F.ForAll bs)) ∙ with_parts branch_nodes bs

pub nodes_Select : (bs : List code.Branch) → small (step_nodes (S.Select bs)) ≡ added (Some 1) (count branch_nodes bs)
nodes_Select bs = ap small (ap step_nodes (sym (S.rolls-Select bs)) ∙ layer (Step-F.Select bs)) ∙ with_parts branch_nodes bs

pub nodes_Once : (s : Step) → small (step_nodes (S.Once s)) ≡ added (Some 1) (small (step_nodes s))
nodes_Once s = ap small (ap step_nodes (sym (S.rolls-Once s)) ∙ layer (Step-F.Once s)) ∙ one_more (step_nodes s)

pub nodes_While : (c : Cons) (s : Step) → small (step_nodes (S.While c s)) ≡ added (Some 1) (added (small (cons_nodes c)) (small (step_nodes s)))
nodes_While c s = ap small (ap step_nodes (sym (S.rolls-While c s)) ∙ layer (Step-F.While c s)) ∙ (one_more (cons_nodes c + step_nodes s) ∙ ap (added (Some 1)) (sym (small_added (cons_nodes c) (step_nodes s))))

pub nodes_If : (c : Cons) (s t : Step) → small (step_nodes (S.If c s t)) ≡ added (Some 1) (added (small (cons_nodes c)) (added (small (step_nodes s)) (small (step_nodes t))))
nodes_If c s t = ap small (ap step_nodes (sym (S.rolls-If c s t)) ∙ layer (Step-F.If c s t)) ∙ (one_more (cons_nodes c + (step_nodes s + step_nodes t)) ∙ ap (added (Some 1)) (sym (ap (added (small (cons_nodes c))) (small_added (step_nodes s) (step_nodes t)) ∙ small_added (cons_nodes c) (step_nodes s + step_nodes t))))

pub nodes_Generate : (xs : List ℕ) → small (step_nodes (S.Generate xs)) ≡ Some 1
nodes_Generate xs = ap small (ap step_nodes (sym (S.rolls-Generate xs)) ∙ layer (Step-F.Generate xs)) ∙ sym one_small

pub nodes_Rank : (ps : List (ℕ × ℕ)) → small (step_nodes (S.Rank ps)) ≡ Some 1
nodes_Rank ps = ap small (ap step_nodes (sym (S.rolls-Rank ps)) ∙ layer (Step-F.Rank ps)) ∙ sym one_small

pub nodes_element : (b : code.Branch) → small (branch_nodes b) ≡ added (small (cons_nodes (out-Branch b).when)) (added (small (key_nodes (out-Branch b).key)) (small (step_nodes (out-Branch b).body)))
nodes_element b =
    let d = out-Branch b in
    ap small (ap branch_nodes (sym (roll-out-Branch b)) ∙ branch_layer d)
    ∙ sym (ap (added (small (cons_nodes d.when))) (small_added (key_nodes d.key) (step_nodes d.body)) ∙ small_added (cons_nodes d.when) (key_nodes d.key + step_nodes d.body))

pub ruleset counted = (nodes_Post, nodes_Block, nodes_Try, nodes_TryAll, nodes_ForAll, nodes_Select, nodes_Once, nodes_While, nodes_If, nodes_Generate, nodes_Rank, nodes_element)

-- ---- well made

module _ (tables : List Table) (resources : List Resource) where
  made_layer : (d : Step-F Step code.Branch) → is_well_made tables resources (roll-Step d) ≡ step_made tables resources (map-Step Step code.Branch Bool Element (is_well_made tables resources) (element_made tables resources) d)
  unfolding is_well_made element_made
  made_layer d = fold-roll-Step Bool Element (step_made tables resources) (branch_made tables resources) d

  element_layer : (d : Branch-F Step code.Branch) → element_made tables resources (roll-Branch d) ≡ branch_made tables resources (map-Branch Step code.Branch Bool Element (is_well_made tables resources) (element_made tables resources) d)
  unfolding is_well_made element_made
  element_layer d = fold-roll-Branch Bool Element (step_made tables resources) (branch_made tables resources) d

  map_all : (ss : List Step) → list_all (λ b. b) (map (is_well_made tables resources) ss) ≡ list_all (is_well_made tables resources) ss
  map_all [] = refl
  map_all (s ∷ ss) = ap (λ b. is_well_made tables resources s && b) (map_all ss)

  pub bodies_are : (bs : List code.Branch) → list_all (λ b. b.is_well_made) (map (element_made tables resources) bs) ≡ list_all (λ b. (element_made tables resources b).is_well_made) bs
  bodies_are [] = refl
  bodies_are (b ∷ bs) = ap (λ c. (element_made tables resources b).is_well_made && c) (bodies_are bs)

  pub made_Post : (c : Cons) → is_well_made tables resources (S.Post c) ≡ (cons_fits tables resources false most_deep c)
  made_Post c = ap (is_well_made tables resources) (sym (S.rolls-Post c)) ∙ made_layer (Step-F.Post c)

  pub made_Block : (ss : List Step) → is_well_made tables resources (S.Block ss) ≡ (list_all (is_well_made tables resources) ss)
  made_Block ss = ap (is_well_made tables resources) (sym (S.rolls-Block ss)) ∙ made_layer (Step-F.Block ss) ∙ map_all ss

  pub made_Try : (ss : List Step) → is_well_made tables resources (S.Try ss) ≡ (list_all (is_well_made tables resources) ss)
  made_Try ss = ap (is_well_made tables resources) (sym (S.rolls-Try ss)) ∙ made_layer (Step-F.Try ss) ∙ map_all ss

  pub made_TryAll : (bs : List code.Branch) → is_well_made tables resources (S.TryAll bs) ≡ (are_well_made (map (element_made tables resources) bs))
  made_TryAll bs = ap (is_well_made tables resources) (sym (S.rolls-TryAll bs)) ∙ made_layer (Step-F.TryAll bs)

  pub made_ForAll : (bs : List code.Branch) → is_well_made tables resources (S.ForAll bs) ≡ (are_well_made (map (element_made tables resources) bs))
  made_ForAll bs = ap (is_well_made tables resources) (sym (S.rolls-ForAll bs)) ∙ made_layer (Step-F.ForAll bs)

  pub made_Select : (bs : List code.Branch) → is_well_made tables resources (S.Select bs) ≡ (are_well_made (map (element_made tables resources) bs))
  made_Select bs = ap (is_well_made tables resources) (sym (S.rolls-Select bs)) ∙ made_layer (Step-F.Select bs)

  pub made_Once : (s : Step) → is_well_made tables resources (S.Once s) ≡ (is_well_made tables resources s)
  made_Once s = ap (is_well_made tables resources) (sym (S.rolls-Once s)) ∙ made_layer (Step-F.Once s)

  pub made_While : (c : Cons) (s : Step) → is_well_made tables resources (S.While c s) ≡ (cons_fits tables resources true most_deep c && is_well_made tables resources s)
  made_While c s = ap (is_well_made tables resources) (sym (S.rolls-While c s)) ∙ made_layer (Step-F.While c s)

  pub made_If : (c : Cons) (s t : Step) → is_well_made tables resources (S.If c s t) ≡ (cons_fits tables resources true most_deep c && (is_well_made tables resources s && is_well_made tables resources t))
  made_If c s t = ap (is_well_made tables resources) (sym (S.rolls-If c s t)) ∙ made_layer (Step-F.If c s t)

  pub made_Generate : (xs : List ℕ) → is_well_made tables resources (S.Generate xs) ≡ (true)
  made_Generate xs = ap (is_well_made tables resources) (sym (S.rolls-Generate xs)) ∙ made_layer (Step-F.Generate xs)

  pub made_Rank : (ps : List (ℕ × ℕ)) → is_well_made tables resources (S.Rank ps) ≡ (true)
  made_Rank ps = ap (is_well_made tables resources) (sym (S.rolls-Rank ps)) ∙ made_layer (Step-F.Rank ps)

  pub made_element : (b : code.Branch) → element_made tables resources b
      ≡ (let m : Element = record { rising = (out-Branch b).rising; has_key = is_some_expr (out-Branch b).key; is_well_made = cons_fits tables resources true most_deep (out-Branch b).when && (key_fits tables resources (out-Branch b).key && is_well_made tables resources (out-Branch b).body) } in m)
  made_element b = ap (element_made tables resources) (sym (roll-out-Branch b)) ∙ element_layer (out-Branch b)

pub ruleset made = (made_Post, made_Block, made_Try, made_TryAll, made_ForAll, made_Select, made_Once, made_While, made_If, made_Generate, made_Rank, made_element, bodies_are)

-- ---- elements alike

same_self : (b : Bool) → same b b ≡ true
same_self true = refl
same_self false = refl

-- the elements are like the first one
like_all : {X : Type 0} (f : X → Element) (rising keyed : Bool) (xs : List X) → list_all (λ x. is_like rising keyed (f x)) xs ≡ list_all (is_like rising keyed) (map f xs)
like_all f rising keyed [] = refl
like_all f rising keyed (x ∷ xs) = ap (λ b. is_like rising keyed (f x) && b) (like_all f rising keyed xs)

like_first : {X : Type 0} (f : X → Element) (x : X) (xs : List X) → list_all (λ y. is_like (f x).rising (f x).has_key (f y)) (x ∷ xs) ≡ are_alike (map f (x ∷ xs))
like_first f x xs = rw (same_self (f x).rising, same_self (f x).has_key) (like_all f (f x).rising (f x).has_key xs)

pub alike_is : {X : Type 0} (f : X → Element) (xs : List X) (x : X) → 0 < length xs → x ≡ get_or xs 0 x → list_all (λ y. is_like (f x).rising (f x).has_key (f y)) xs ≡ are_alike (map f xs)
alike_is f [] x h e = absurd (omega (arith, h))
alike_is f (y ∷ xs) x h e = let s : x ≡ y = e in subst (λ z. list_all (λ w. is_like (f z).rising (f z).has_key (f w)) (y ∷ xs) ≡ are_alike (map f (y ∷ xs))) (sym s) (like_first f y xs)

pub like_same : {X : Type 0} (f : X → Element) (xs : List X) (i j k l : Bool) → i ≡ k → j ≡ l → list_all (λ y. is_like i j (f y)) xs ≡ list_all (λ y. is_like k l (f y)) xs
like_same f xs i j k l e g = rw (e, g) refl
