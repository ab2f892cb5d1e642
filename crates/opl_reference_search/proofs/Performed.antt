-- What the program makes of each statement.
use Rattle.std.proofs.Common.{◌≡◌, ℕ, ◌<◌, cond, refl, List, [], ◌∷◌, ◌++◌, map, length, get_or, ap, sym, ◌∙◌, subst, arith}
use Rattle.opl_domain.specs.Family.{Family}
use Rattle.opl_expr.specs.declared.forms.Cons.{Cons}
use Rattle.opl_expr.specs.declared.model.Core.{Core}
use Rattle.opl_expr.specs.declared.search.Branch as code
use Rattle.opl_expr.specs.declared.search.Step.{Step}
use Rattle.opl_expr.specs.declared.search.Step.TheVariants as S
use Rattle.opl_expr.specs.Forms.{Fact, fact}
use Rattle.opl_trace.specs.Answers.{answered, is_met}
use Rattle.opl_trace.specs.Elements.{Arm, ordered, taken}
use Rattle.opl_trace.specs.Statements.{Statement, statements_of, branches_of}
use Rattle.opl_trace.specs.Questions.{IsOpenFact}
use Rattle.opl_trace.specs.SoundCores.{IsSoundStatement}
use Rattle.opl_steps.specs.Tasks.{Task}
use Rattle.opl_steps.specs.Tasks.Task.{act, values, orders, elements, turns}
use Rattle.opl_steps.specs.Steps.{Way, Next, on, acts_then, each_then, element_of, elements_of, bodies_then, first_then, performed, visited}
use Rattle.opl_steps.specs.Steps.Next.{go, choose, commit}
use Rattle.opl_steps.specs.Picked.{without, place_in}
use Rattle.opl_choices.specs.Branches.{statement_in, element}
use Rattle.opl_reference_search.specs.Tasks.{acts}
use Rattle.opl_choices.specs.Branches.{AreSoundElements}
use Rattle.opl_choices.proofs.ElementLists.{picked_at}
use Rattle.opl_reference_search.proofs.SoundSteps.{elements_sound, taken_sound}
use Rattle.opl_reference_search.proofs.StatementForms.{br, branch_is, statement_Post, statement_Block, statement_Try, statement_TryAll, statement_ForAll, statement_Select, statement_Once, statement_While, statement_If, statement_Generate, statement_Rank}

-- ---- the first of elements

pub first_made : {X : Type 0} (F : Family) (f : X → Arm Statement) (P : List Fact) (xs : List X) (ts : List Task) (i : ℕ) (y d : X) (w : Way) → i ≡ place_in F (map f xs) → i < length xs → y ≡ get_or xs i d → w ≡ on P (act (f y).body ∷ ts) → go w ≡ first_then F P (map f xs) ts
first_made F f P [] ts i y d w e h l m = absurd (omega arith)
first_made F f P (x ∷ xs) ts i y d w e h l m = ap go m ∙ sym (ap (λ p. go (on P (act p.arm.body ∷ ts))) (picked_at F f x xs i y d e h l))

pub visit_made : {X : Type 0} (F : Family) (f : X → Arm Statement) (P : List Fact) (xs : List X) (ts : List Task) (i : ℕ) (y d : X) (w : Way) → i ≡ place_in F (map f xs) → i < length xs → y ≡ get_or xs i d → w ≡ on P (act (f y).body ∷ elements (map f (without i xs)) ∷ ts) → go w ≡ visited F P (map f xs) ts
visit_made F f P [] ts i y d w e h l m = absurd (omega arith)
visit_made F f P (x ∷ xs) ts i y d w e h l m = ap go m ∙ sym (ap (λ p. go (on P (act p.arm.body ∷ elements p.others ∷ ts))) (picked_at F f x xs i y d e h l))

module _ (core : Core) where
  elements_is : (bs : List code.Branch) → elements_of (branches_of (map (br core.tables core.resources) bs)) ≡ map (element core) bs
  elements_is [] = refl
  elements_is (b ∷ bs) = ap (λ c. element_of c ∷ elements_of (branches_of (map (br core.tables core.resources) bs))) (branch_is core.tables core.resources b) ∙ ap (λ es. element core b ∷ es) (elements_is bs)

  acts_is : (ss : List Step) (ts : List Task) → acts_then (statements_of (map (statement_in core) ss)) ts ≡ acts core ss ++ ts
  acts_is [] ts = refl
  acts_is (s ∷ ss) ts = ap (λ us. act (statement_in core s) ∷ us) (acts_is ss ts)

  each_is : (P : List Fact) (ss : List Step) (ts : List Task) → each_then P (statements_of (map (statement_in core) ss)) ts ≡ map (λ s. on P (act (statement_in core s) ∷ ts)) ss
  each_is P [] ts = refl
  each_is P (s ∷ ss) ts = ap (λ ws. on P (act (statement_in core s) ∷ ts) ∷ ws) (each_is P ss ts)

  -- ---- sound parts

  pub all_sound : (step : Step) (bs cs : List code.Branch) → step ≡ S.TryAll bs → cs ≡ bs → IsSoundStatement core.sets (statement_in core step) → AreSoundElements core.sets (map (element core) cs)
  all_sound step bs cs e i s =
      subst (λ as'. AreSoundElements core.sets as') (elements_is bs ∙ ap (map (element core)) (sym i))
      (elements_sound core.sets (branches_of (map (br core.tables core.resources) bs)) (subst (λ t. IsSoundStatement core.sets t) (ap (statement_in core) e ∙ statement_TryAll core.tables core.resources bs) s))

  pub for_sound : (step : Step) (bs cs : List code.Branch) → step ≡ S.ForAll bs → cs ≡ bs → IsSoundStatement core.sets (statement_in core step) → AreSoundElements core.sets (map (element core) cs)
  for_sound step bs cs e i s =
      subst (λ as'. AreSoundElements core.sets as') (elements_is bs ∙ ap (map (element core)) (sym i))
      (elements_sound core.sets (branches_of (map (br core.tables core.resources) bs)) (subst (λ t. IsSoundStatement core.sets t) (ap (statement_in core) e ∙ statement_ForAll core.tables core.resources bs) s))

  pub select_sound : (step : Step) (bs cs : List code.Branch) → step ≡ S.Select bs → cs ≡ bs → IsSoundStatement core.sets (statement_in core step) → AreSoundElements core.sets (map (element core) cs)
  select_sound step bs cs e i s =
      subst (λ as'. AreSoundElements core.sets as') (elements_is bs ∙ ap (map (element core)) (sym i))
      (elements_sound core.sets (branches_of (map (br core.tables core.resources) bs)) (subst (λ t. IsSoundStatement core.sets t) (ap (statement_in core) e ∙ statement_Select core.tables core.resources bs) s))

  pub if_sound : (step : Step) (c : Cons) (s t : Step) → step ≡ S.If c s t → IsSoundStatement core.sets (statement_in core step) → IsOpenFact core.sets (fact core.tables core.resources c)
  if_sound step c s t e i = (subst (λ u. IsSoundStatement core.sets u) (ap (statement_in core) e ∙ statement_If core.tables core.resources c s t) i).0

  pub taken_are_sound : {X : Type 0} (C : Family) (f : X → Arm Statement) (es : List (Arm Statement)) (tk us : List X) → AreSoundElements core.sets es → map f tk ≡ taken C es → us ≡ tk → AreSoundElements core.sets (map f us)
  taken_are_sound C f es tk us s e i = subst (λ as'. AreSoundElements core.sets as') (sym (ap (map f) i ∙ e)) (taken_sound core.sets C es s)

  -- ---- statements

  module _ (C : Family) (P : List Fact) (n : ℕ) (ts : List Task) (step : Step) where
    -- a statement of which the plain data is known
    made_as : (s : Statement) (next : Next) → statement_in core step ≡ s → next ≡ performed C P n s ts → next ≡ performed C P n (statement_in core step) ts
    made_as s next e i = i ∙ ap (λ t. performed C P n t ts) (sym e)

    pub post_made : (c : Cons) (w : Way) → step ≡ S.Post c → w ≡ on (P ++ answered C (fact core.tables core.resources c) ∷ []) ts → go w ≡ performed C P n (statement_in core step) ts
    post_made c w e i = made_as _ _ (ap (statement_in core) e ∙ statement_Post core.tables core.resources c) (ap go i)

    pub block_made : (ss us : List Step) (w : Way) → step ≡ S.Block ss → us ≡ ss → w ≡ on P (acts core us ++ ts) → go w ≡ performed C P n (statement_in core step) ts
    block_made ss us w e i j =
        made_as _ _ (ap (statement_in core) e ∙ statement_Block core.tables core.resources ss)
        (ap go (j ∙ ap (λ rs. on P (acts core rs ++ ts)) i ∙ ap (on P) (sym (acts_is ss ts))))

    pub try_made : (ss us : List Step) (ws : List Way) → step ≡ S.Try ss → us ≡ ss → ws ≡ map (λ s. on P (act (statement_in core s) ∷ ts)) us → choose ws ≡ performed C P n (statement_in core step) ts
    try_made ss us ws e i j =
        made_as _ _ (ap (statement_in core) e ∙ statement_Try core.tables core.resources ss)
        (ap choose (j ∙ ap (map (λ s. on P (act (statement_in core s) ∷ ts))) i ∙ sym (each_is P ss ts)))

    pub all_made : (bs cs : List code.Branch) → step ≡ S.TryAll bs → cs ≡ bs → choose (bodies_then P (ordered C (length (taken C (map (element core) cs))) (taken C (map (element core) cs))) ts) ≡ performed C P n (statement_in core step) ts
    all_made bs cs e i =
        let ready = ap (λ as'. taken C (map (element core) as')) i ∙ ap (taken C) (sym (elements_is bs)) in
        made_as _ _ (ap (statement_in core) e ∙ statement_TryAll core.tables core.resources bs) (ap (λ as'. choose (bodies_then P (ordered C (length as') as') ts)) ready)

    pub for_made : (bs cs : List code.Branch) → step ≡ S.ForAll bs → cs ≡ bs → go (on P (elements (taken C (map (element core) cs)) ∷ ts)) ≡ performed C P n (statement_in core step) ts
    for_made bs cs e i =
        let ready = ap (λ as'. taken C (map (element core) as')) i ∙ ap (taken C) (sym (elements_is bs)) in
        made_as _ _ (ap (statement_in core) e ∙ statement_ForAll core.tables core.resources bs) (ap (λ as'. go (on P (elements as' ∷ ts))) ready)

    pub select_made : (bs cs : List code.Branch) → step ≡ S.Select bs → cs ≡ bs → first_then C P (taken C (map (element core) cs)) ts ≡ performed C P n (statement_in core step) ts
    select_made bs cs e i =
        let ready = ap (λ as'. taken C (map (element core) as')) i ∙ ap (taken C) (sym (elements_is bs)) in
        made_as _ _ (ap (statement_in core) e ∙ statement_Select core.tables core.resources bs) (ap (λ as'. first_then C P as' ts) ready)

    pub once_made : (s t : Step) (us : List Task) → step ≡ S.Once s → t ≡ s → us ≡ ts → commit (statement_in core t) us ≡ performed C P n (statement_in core step) ts
    once_made s t us e i j =
        made_as _ _ (ap (statement_in core) e ∙ statement_Once core.tables core.resources s)
        (ap (λ u. commit (statement_in core u) us) i ∙ ap (commit (statement_in core s)) j)

    pub while_made : (c : Cons) (s t : Step) (w : Way) → step ≡ S.While c s → t ≡ s → w ≡ on P (turns n (fact core.tables core.resources c) (statement_in core t) ∷ ts) → go w ≡ performed C P n (statement_in core step) ts
    while_made c s t w e i j =
        made_as _ _ (ap (statement_in core) e ∙ statement_While core.tables core.resources c s)
        (ap go (j ∙ ap (λ u. on P (turns n (fact core.tables core.resources c) (statement_in core u) ∷ ts)) i))

    pub if_made : (c : Cons) (s t u v : Step) (task : Task) (w : Way) → step ≡ S.If c s t → u ≡ s → v ≡ t → task ≡ act (cond (is_met C (fact core.tables core.resources c)) (statement_in core u) (statement_in core v)) → w ≡ on P (task ∷ ts) → go w ≡ performed C P n (statement_in core step) ts
    if_made c s t u v task w e i j k l =
        made_as _ _ (ap (statement_in core) e ∙ statement_If core.tables core.resources c s t)
        (ap go (l ∙ ap (λ x. on P (x ∷ ts)) (k ∙ ap (λ x. act (cond (is_met C (fact core.tables core.resources c)) (statement_in core x) (statement_in core v))) i
        ∙ ap (λ x. act (cond (is_met C (fact core.tables core.resources c)) (statement_in core s) (statement_in core x))) j)))

    pub generate_made : (xs ys : List ℕ) (w : Way) → step ≡ S.Generate xs → ys ≡ xs → w ≡ on P (values ys ∷ ts) → go w ≡ performed C P n (statement_in core step) ts
    generate_made xs ys w e i j =
        made_as _ _ (ap (statement_in core) e ∙ statement_Generate core.tables core.resources xs) (ap go (j ∙ ap (λ zs. on P (values zs ∷ ts)) i))

    pub rank_made : (ps qs : List (ℕ × ℕ)) (w : Way) → step ≡ S.Rank ps → qs ≡ ps → w ≡ on P (orders qs ∷ ts) → go w ≡ performed C P n (statement_in core step) ts
    rank_made ps qs w e i j =
        made_as _ _ (ap (statement_in core) e ∙ statement_Rank core.tables core.resources ps) (ap go (j ∙ ap (λ zs. on P (orders zs ∷ ts)) i))
