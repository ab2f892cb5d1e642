-- What a ground core's constraints, conditions and keys are as plain data: the indices of each table differ, and where they
-- decide they name no variable.
use Rattle.std.proofs.Common.{◌≡◌, ◌∙◌, ℕ, Bool, true, ◌&&◌, refl, List, [], ◌∷◌, map, ℤ, ap, sym, subst}
use Rattle.std.specs.Prelude.{nat_le, slice_get, Option, Some, None}
use Rattle.std.specs.List.{All, list_all}
use Rattle.std.proofs.lemmas.Bool.{and_parts, and_from}
use Rattle.std.proofs.lemmas.List.Elements.{All-head, All-tail}
use Rattle.opl_expr.specs.declared.forms.Op.{Op}
use Rattle.opl_expr.specs.declared.forms.Op.TheVariants.{Eq, Ne, Lt, Le, Gt, Ge}
use Rattle.opl_expr.specs.declared.forms.Expr.{Expr}
use Rattle.opl_expr.specs.declared.forms.Cons.{Cons}
use Rattle.opl_expr.specs.declared.forms.Cons.TheOpen.{Expr-F, Cons-F}
use Rattle.opl_expr.specs.declared.forms.Cons.TheFolds.{fold-roll-Expr, fold-roll-Cons, map-Expr, map-Cons, ind-Expr, ind-Cons}
use Rattle.opl_expr.specs.declared.forms.Cons.TheViews.{roll-Expr, roll-Cons}
use Rattle.opl_expr.specs.declared.search.Step.{Step}
use Rattle.opl_expr.specs.declared.search.Branch as code
use Rattle.opl_expr.specs.declared.search.Step.TheOpen.{Step-F, Branch-F}
use Rattle.opl_expr.specs.declared.search.Step.TheFolds.{fold-Branch, fold-roll-Step, fold-roll-Branch, map-Step, map-Branch, ind-Step}
use Rattle.opl_expr.specs.declared.search.Step.TheViews.{roll-Step, roll-Branch}
use Rattle.opl_expr.specs.declared.tables.Table.{Table}
use Rattle.opl_expr.specs.declared.tables.Resource.{Resource}
use Rattle.opl_expr.specs.Forms.{Term, Terms, Fact, Facts, terms_of, facts_of, compared, constant_value, product_by, term_layer, fact_layer, term, fact}
use Rattle.opl_expr.specs.Options.{lift1}
use Rattle.opl_expr.specs.Laws.{clear, all_clear, clear_fact, clear_facts}
use Rattle.opl_expr.specs.Sound.{IsSoundTerm, AreSoundTerms, IsSoundFact, AreSoundFacts}
use Rattle.opl_trace.specs.Questions.{IsOpenTerm, AreOpenTerms, IsOpenFact, AreOpenFacts}
use Rattle.opl_trace.specs.Statements.{Statement, Statements, Branch, Branches, statements_of, branches_of, step_layer, branch_layer, statement}
use Rattle.opl_trace.specs.Statements.Statement.{post, block, try, try_all, for_all, select, once, while, decide, generate, rank}
use Rattle.opl_trace.specs.Statements.Statements.{no_statements, more_statements}
use Rattle.opl_trace.specs.Statements.Branch.{branch}
use Rattle.opl_trace.specs.Statements.Branches.{no_branches, more_branches}
use Rattle.opl_trace.specs.SearchLaws.{clear_all}
use Rattle.opl_trace.specs.SoundCores.{IsSoundStatement, AreSoundStatements, IsSoundBranch, AreSoundBranches}
use Rattle.opl_trace.specs.GroundCores.{has_constants, expr_parts, cons_parts, expr_may_stand, cons_may_stand, expr_stands, cons_stands, cons_depth, expr_depth, most_deep, Element, are_alike, cons_fits, key_fits, step_made, branch_made, is_well_made}
use Rattle.opl_trace.proofs.WithoutVariables.{names_none, all_name_none, fact_names_none, facts_name_none, key_names_none}

-- ---- the indices of each table differ

module _ (sets : List (ℤ × ℤ)) where
  mutual
    pub sound_clear : (t : Term) → IsSoundTerm sets t → clear t ≡ true
    sound_clear (Term.const k) h = refl
    sound_clear (Term.var x) h = refl
    sound_clear (Term.sum ts) h = sounds_clear ts h.1
    sound_clear (Term.neg t) h = sound_clear t h.1
    sound_clear (Term.scale k t) h = sound_clear t h.2
    sound_clear (Term.mul s t) h = and_from (clear s) (clear t) (sound_clear s h.1) (sound_clear t h.2)
    sound_clear (Term.div s t) h = and_from (clear s) (clear t) (sound_clear s h.0) (sound_clear t h.1)
    sound_clear (Term.rem s t) h = and_from (clear s) (clear t) (sound_clear s h.0) (sound_clear t h.1)
    sound_clear (Term.abs t) h = sound_clear t h
    sound_clear (Term.least ts) h = sounds_clear ts h.1
    sound_clear (Term.greatest ts) h = sounds_clear ts h.1
    sound_clear (Term.at None ts) h = absurd h.1
    sound_clear (Term.at (Some t) ts) h = rw h.1.1 (sounds_clear ts h.3)
    sound_clear (Term.truth c) h = sound_fact_clear c h
    sound_clear (Term.asked ask x) h = absurd h

    sounds_clear : (ts : Terms) → AreSoundTerms sets ts → all_clear ts ≡ true
    sounds_clear Terms.no_terms h = refl
    sounds_clear (Terms.more_terms t ts) h = and_from (clear t) (all_clear ts) (sound_clear t h.0) (sounds_clear ts h.1)

    pub sound_fact_clear : (c : Fact) → IsSoundFact sets c → clear_fact c ≡ true
    sound_fact_clear (Fact.fixed b) h = refl
    sound_fact_clear (Fact.cmp rel s t) h = and_from (clear s) (clear t) (sound_clear s h.1) (sound_clear t h.2)
    sound_fact_clear (Fact.and cs) h = sound_facts_clear cs h
    sound_fact_clear (Fact.or cs) h = sound_facts_clear cs h
    sound_fact_clear (Fact.iff c d) h = and_from (clear_fact c) (clear_fact d) (sound_fact_clear c h.0) (sound_fact_clear d h.1)
    sound_fact_clear (Fact.not c) h = sound_fact_clear c h
    sound_fact_clear (Fact.different ts) h = sounds_clear ts h.1
    sound_fact_clear (Fact.bound x) h = absurd h

    sound_facts_clear : (cs : Facts) → AreSoundFacts sets cs → clear_facts cs ≡ true
    sound_facts_clear Facts.no_facts h = refl
    sound_facts_clear (Facts.more_facts c cs) h = and_from (clear_fact c) (clear_facts cs) (sound_fact_clear c h.0) (sound_facts_clear cs h.1)

  mutual
    open_clear : (t : Term) → IsOpenTerm sets t → clear t ≡ true
    open_clear (Term.const k) h = refl
    open_clear (Term.var x) h = refl
    open_clear (Term.sum ts) h = opens_clear ts h.1
    open_clear (Term.neg t) h = open_clear t h.1
    open_clear (Term.scale k t) h = open_clear t h.2
    open_clear (Term.mul s t) h = and_from (clear s) (clear t) (open_clear s h.1) (open_clear t h.2)
    open_clear (Term.div s t) h = and_from (clear s) (clear t) (open_clear s h.0) (open_clear t h.1)
    open_clear (Term.rem s t) h = and_from (clear s) (clear t) (open_clear s h.0) (open_clear t h.1)
    open_clear (Term.abs t) h = open_clear t h
    open_clear (Term.least ts) h = opens_clear ts h.1
    open_clear (Term.greatest ts) h = opens_clear ts h.1
    open_clear (Term.at None ts) h = absurd h.1
    open_clear (Term.at (Some t) ts) h = rw h.1.1 (opens_clear ts h.3)
    open_clear (Term.truth c) h = open_fact_clear c h
    open_clear (Term.asked ask x) h = refl

    opens_clear : (ts : Terms) → AreOpenTerms sets ts → all_clear ts ≡ true
    opens_clear Terms.no_terms h = refl
    opens_clear (Terms.more_terms t ts) h = and_from (clear t) (all_clear ts) (open_clear t h.0) (opens_clear ts h.1)

    open_fact_clear : (c : Fact) → IsOpenFact sets c → clear_fact c ≡ true
    open_fact_clear (Fact.fixed b) h = refl
    open_fact_clear (Fact.cmp rel s t) h = and_from (clear s) (clear t) (open_clear s h.1) (open_clear t h.2)
    open_fact_clear (Fact.and cs) h = open_facts_clear cs h
    open_fact_clear (Fact.or cs) h = open_facts_clear cs h
    open_fact_clear (Fact.iff c d) h = and_from (clear_fact c) (clear_fact d) (open_fact_clear c h.0) (open_fact_clear d h.1)
    open_fact_clear (Fact.not c) h = open_fact_clear c h
    open_fact_clear (Fact.different ts) h = opens_clear ts h.1
    open_fact_clear (Fact.bound x) h = refl

    open_facts_clear : (cs : Facts) → AreOpenFacts sets cs → clear_facts cs ≡ true
    open_facts_clear Facts.no_facts h = refl
    open_facts_clear (Facts.more_facts c cs) h = and_from (clear_fact c) (clear_facts cs) (open_fact_clear c h.0) (open_facts_clear cs h.1)

  pub all_sound_clear : (cs : List Fact) → All (IsSoundFact sets) cs → clear_all cs ≡ true
  all_sound_clear [] h = refl
  all_sound_clear (c ∷ cs) h = and_from (clear_fact c) (clear_all cs) (sound_fact_clear c (All-head (IsSoundFact sets) c cs h)) (all_sound_clear cs (All-tail (IsSoundFact sets) c cs h))

-- in each constraint that a statement posts the indices of each table differ
abbrev mutual
  pub posts_clear : Statement → Bool
  posts_clear (post c) = clear_fact c
  posts_clear (block ss) = all_post_clear ss
  posts_clear (try ss) = all_post_clear ss
  posts_clear (try_all bs) = branches_post_clear bs
  posts_clear (for_all bs) = branches_post_clear bs
  posts_clear (select bs) = branches_post_clear bs
  posts_clear (once s) = posts_clear s
  posts_clear (while c s) = posts_clear s
  posts_clear (decide c s t) = posts_clear s && posts_clear t
  posts_clear (generate xs) = true
  posts_clear (rank ps) = true

  pub all_post_clear : Statements → Bool
  all_post_clear no_statements = true
  all_post_clear (more_statements s ss) = posts_clear s && all_post_clear ss

  pub branch_posts_clear : Branch → Bool
  branch_posts_clear (branch c key rising s) = posts_clear s

  pub branches_post_clear : Branches → Bool
  branches_post_clear no_branches = true
  branches_post_clear (more_branches b bs) = branch_posts_clear b && branches_post_clear bs

module _ (sets : List (ℤ × ℤ)) where
  mutual
    pub sound_posts_clear : (s : Statement) → IsSoundStatement sets s → posts_clear s ≡ true
    sound_posts_clear (post c) h = open_fact_clear sets c h
    sound_posts_clear (block ss) h = sounds_post_clear ss h
    sound_posts_clear (try ss) h = sounds_post_clear ss h
    sound_posts_clear (try_all bs) h = sound_branches_clear bs h
    sound_posts_clear (for_all bs) h = sound_branches_clear bs h
    sound_posts_clear (select bs) h = sound_branches_clear bs h
    sound_posts_clear (once s) h = sound_posts_clear s h
    sound_posts_clear (while c s) h = sound_posts_clear s h.1
    sound_posts_clear (decide c s t) h = and_from (posts_clear s) (posts_clear t) (sound_posts_clear s h.1) (sound_posts_clear t h.2)
    sound_posts_clear (generate xs) h = refl
    sound_posts_clear (rank ps) h = refl

    sounds_post_clear : (ss : Statements) → AreSoundStatements sets ss → all_post_clear ss ≡ true
    sounds_post_clear no_statements h = refl
    sounds_post_clear (more_statements s ss) h = and_from (posts_clear s) (all_post_clear ss) (sound_posts_clear s h.0) (sounds_post_clear ss h.1)

    sound_branch_clear : (b : Branch) → IsSoundBranch sets b → branch_posts_clear b ≡ true
    sound_branch_clear (branch c key rising s) h = sound_posts_clear s h.2

    sound_branches_clear : (bs : Branches) → AreSoundBranches sets bs → branches_post_clear bs ≡ true
    sound_branches_clear no_branches h = refl
    sound_branches_clear (more_branches b bs) h = and_from (branch_posts_clear b) (branches_post_clear bs) (sound_branch_clear b h.0) (sound_branches_clear bs h.1)

-- ---- conditions and keys name no variable

abbrev mutual
  pub decides_alone : Statement → Bool
  decides_alone (post c) = true
  decides_alone (block ss) = all_decide_alone ss
  decides_alone (try ss) = all_decide_alone ss
  decides_alone (try_all bs) = branches_decide_alone bs
  decides_alone (for_all bs) = branches_decide_alone bs
  decides_alone (select bs) = branches_decide_alone bs
  decides_alone (once s) = decides_alone s
  decides_alone (while c s) = fact_names_none true c && decides_alone s
  decides_alone (decide c s t) = fact_names_none true c && (decides_alone s && decides_alone t)
  decides_alone (generate xs) = true
  decides_alone (rank ps) = true

  pub all_decide_alone : Statements → Bool
  all_decide_alone no_statements = true
  all_decide_alone (more_statements s ss) = decides_alone s && all_decide_alone ss

  pub branch_decides_alone : Branch → Bool
  branch_decides_alone (branch c key rising s) = fact_names_none true c && (key_names_none true key && decides_alone s)

  pub branches_decide_alone : Branches → Bool
  branches_decide_alone no_branches = true
  branches_decide_alone (more_branches b bs) = branch_decides_alone b && branches_decide_alone bs

product_names : (i j : Option ℤ) (s t : Term) → names_none true s ≡ true → names_none true t ≡ true → names_none true (product_by i j s t) ≡ true
product_names (Some k) j s t h i = i
product_names None (Some k) s t h i = h
product_names None None s t h i = and_from (names_none true s) (names_none true t) h i

compared_names : (op : Op) (s t : Term) → names_none true s ≡ true → names_none true t ≡ true → fact_names_none true (compared op s t) ≡ true
compared_names Eq s t h i = and_from (names_none true s) (names_none true t) h i
compared_names Ne s t h i = and_from (names_none true s) (names_none true t) h i
compared_names Lt s t h i = and_from (names_none true s) (names_none true t) h i
compared_names Le s t h i = and_from (names_none true s) (names_none true t) h i
compared_names Gt s t h i = and_from (names_none true t) (names_none true s) i h
compared_names Ge s t h i = and_from (names_none true t) (names_none true s) i h

module _ (tables : List Table) (resources : List Resource) where
  abbrev ConsNames : Cons → Type 0
  ConsNames c = cons_stands tables resources true c ≡ true → fact_names_none true (fact tables resources c) ≡ true

  abbrev ExprNames : Expr → Type 0
  ExprNames e = expr_stands tables resources true e ≡ true → names_none true (term tables resources e) ≡ true

  abbrev InCons : Type 0
  InCons = (c : Cons) × ConsNames c

  abbrev InExpr : Type 0
  InExpr = (e : Expr) × ExprNames e

  abbrev cons_inner : Cons-F InCons InExpr → Cons-F Cons Expr
  cons_inner = map-Cons InCons InExpr Cons Expr (λ i. i.0) (λ i. i.0)

  abbrev expr_inner : Expr-F InCons InExpr → Expr-F Cons Expr
  expr_inner = map-Expr InCons InExpr Cons Expr (λ i. i.0) (λ i. i.0)

  abbrev cons_here : Cons-F Bool Bool → Bool
  cons_here c = cons_may_stand tables resources true c && list_all (λ b. b) (cons_parts c)

  abbrev expr_here : Expr-F Bool Bool → Bool
  expr_here e = expr_may_stand tables resources true e && list_all (λ b. b) (expr_parts e)

  cons_stands_is : (d : Cons-F Cons Expr) → cons_stands tables resources true (roll-Cons d) ≡ cons_here (map-Cons Cons Expr Bool Bool (cons_stands tables resources true) (expr_stands tables resources true) d)
  unfolding cons_stands expr_stands
  cons_stands_is d = fold-roll-Cons Bool Bool cons_here expr_here d

  expr_stands_is : (d : Expr-F Cons Expr) → expr_stands tables resources true (roll-Expr d) ≡ expr_here (map-Expr Cons Expr Bool Bool (cons_stands tables resources true) (expr_stands tables resources true) d)
  unfolding cons_stands expr_stands
  expr_stands_is d = fold-roll-Expr Bool Bool cons_here expr_here d

  fact_is : (d : Cons-F Cons Expr) → fact tables resources (roll-Cons d) ≡ fact_layer tables resources (map-Cons Cons Expr Fact Term (fact tables resources) (term tables resources) d)
  unfolding term fact
  fact_is d = fold-roll-Cons Fact Term (fact_layer tables resources) (term_layer tables resources) d

  term_is : (d : Expr-F Cons Expr) → term tables resources (roll-Expr d) ≡ term_layer tables resources (map-Expr Cons Expr Fact Term (fact tables resources) (term tables resources) d)
  unfolding term fact
  term_is d = fold-roll-Expr Fact Term (fact_layer tables resources) (term_layer tables resources) d

  exprs_name : (es : List InExpr) → list_all (λ b. b) (map (expr_stands tables resources true) (map (λ i. i.0) es)) ≡ true → all_name_none true (terms_of (map (term tables resources) (map (λ i. i.0) es))) ≡ true
  exprs_name [] h = refl
  exprs_name (e ∷ es) h =
      let r = and_parts (expr_stands tables resources true e.0) (list_all (λ b. b) (map (expr_stands tables resources true) (map (λ i. i.0) es))) h in
      and_from (names_none true (term tables resources e.0)) (all_name_none true (terms_of (map (term tables resources) (map (λ i. i.0) es)))) (e.1 r.0) (exprs_name es r.1)

  conses_name : (cs : List InCons) → list_all (λ b. b) (map (cons_stands tables resources true) (map (λ i. i.0) cs)) ≡ true → facts_name_none true (facts_of (map (fact tables resources) (map (λ i. i.0) cs))) ≡ true
  conses_name [] h = refl
  conses_name (c ∷ cs) h =
      let r = and_parts (cons_stands tables resources true c.0) (list_all (λ b. b) (map (cons_stands tables resources true) (map (λ i. i.0) cs))) h in
      and_from (fact_names_none true (fact tables resources c.0)) (facts_name_none true (facts_of (map (fact tables resources) (map (λ i. i.0) cs)))) (c.1 r.0) (conses_name cs r.1)

  one_part : (b : Bool) → (b && true) ≡ true → b ≡ true
  one_part b h = (and_parts b true h).0

  two_parts : (b c : Bool) → (b && (c && true)) ≡ true → (b ≡ true) × (c ≡ true)
  two_parts b c h = let r = and_parts b (c && true) h in (r.0, one_part c r.1)

  expr_names : (y : Expr-F InCons InExpr) → expr_here (map-Expr Cons Expr Bool Bool (cons_stands tables resources true) (expr_stands tables resources true) (expr_inner y)) ≡ true
      → names_none true (term_layer tables resources (map-Expr Cons Expr Fact Term (fact tables resources) (term tables resources) (expr_inner y))) ≡ true
  expr_names (Expr-F.Const k) h = refl
  expr_names (Expr-F.Var x) h = cc
  expr_names (Expr-F.Sum es) h = exprs_name es h
  expr_names (Expr-F.Neg a) h = a.1 (one_part (expr_stands tables resources true a.0) h)
  expr_names (Expr-F.Mul a b) h =
      let r = two_parts (expr_stands tables resources true a.0) (expr_stands tables resources true b.0) h in
      product_names (constant_value (term tables resources a.0)) (constant_value (term tables resources b.0)) (term tables resources a.0) (term tables resources b.0) (a.1 r.0) (b.1 r.1)
  expr_names (Expr-F.Div a b) h =
      let r = two_parts (expr_stands tables resources true a.0) (expr_stands tables resources true b.0) h in
      and_from (names_none true (term tables resources a.0)) (names_none true (term tables resources b.0)) (a.1 r.0) (b.1 r.1)
  expr_names (Expr-F.Rem a b) h =
      let r = two_parts (expr_stands tables resources true a.0) (expr_stands tables resources true b.0) h in
      and_from (names_none true (term tables resources a.0)) (names_none true (term tables resources b.0)) (a.1 r.0) (b.1 r.1)
  expr_names (Expr-F.Abs a) h = a.1 (one_part (expr_stands tables resources true a.0) h)
  expr_names (Expr-F.Min es) h = exprs_name es h
  expr_names (Expr-F.Max es) h = exprs_name es h
  expr_names (Expr-F.At t es) h =
      let r = and_parts (has_constants (slice_get tables t)) (list_all (λ b. b) (map (expr_stands tables resources true) (map (λ i. i.0) es))) h in
      and_from (has_constants (slice_get tables t)) (all_name_none true (terms_of (map (term tables resources) (map (λ i. i.0) es)))) r.0 (exprs_name es r.1)
  expr_names (Expr-F.Truth c) h = c.1 (one_part (cons_stands tables resources true c.0) h)
  expr_names (Expr-F.Ask ask x) h = refl

  cons_names : (y : Cons-F InCons InExpr) → cons_here (map-Cons Cons Expr Bool Bool (cons_stands tables resources true) (expr_stands tables resources true) (cons_inner y)) ≡ true
      → fact_names_none true (fact_layer tables resources (map-Cons Cons Expr Fact Term (fact tables resources) (term tables resources) (cons_inner y))) ≡ true
  cons_names (Cons-F.Fixed b) h = refl
  cons_names (Cons-F.Cmp op a b) h =
      let r = two_parts (expr_stands tables resources true a.0) (expr_stands tables resources true b.0) h in
      compared_names op (term tables resources a.0) (term tables resources b.0) (a.1 r.0) (b.1 r.1)
  cons_names (Cons-F.And cs) h = conses_name cs h
  cons_names (Cons-F.Or cs) h = conses_name cs h
  cons_names (Cons-F.Imp a b) h =
      let r = two_parts (cons_stands tables resources true a.0) (cons_stands tables resources true b.0) h in
      and_from (fact_names_none true (fact tables resources a.0)) (fact_names_none true (fact tables resources b.0) && true) (a.1 r.0) (and_from (fact_names_none true (fact tables resources b.0)) true (b.1 r.1) refl)
  cons_names (Cons-F.Iff a b) h =
      let r = two_parts (cons_stands tables resources true a.0) (cons_stands tables resources true b.0) h in
      and_from (fact_names_none true (fact tables resources a.0)) (fact_names_none true (fact tables resources b.0)) (a.1 r.0) (b.1 r.1)
  cons_names (Cons-F.Not a) h = a.1 (one_part (cons_stands tables resources true a.0) h)
  cons_names (Cons-F.AllDifferent es) h = exprs_name es h
  cons_names (Cons-F.Capacity r t) h = cc
  cons_names (Cons-F.Bound x) h = refl

  case_cons : (x : Cons-F Cons Expr) (y : Cons-F InCons InExpr) → cons_inner y ≡ x → ConsNames (roll-Cons x)
  case_cons x y is = subst (λ z. ConsNames (roll-Cons z)) is (λ h. ap (fact_names_none true) (fact_is (cons_inner y)) ∙ cons_names y (sym (cons_stands_is (cons_inner y)) ∙ h))

  case_expr : (x : Expr-F Cons Expr) (y : Expr-F InCons InExpr) → expr_inner y ≡ x → ExprNames (roll-Expr x)
  case_expr x y is = subst (λ z. ExprNames (roll-Expr z)) is (λ h. ap (names_none true) (term_is (expr_inner y)) ∙ expr_names y (sym (expr_stands_is (expr_inner y)) ∙ h))

  cons_name : (c : Cons) → ConsNames c
  cons_name = ind-Cons ConsNames ExprNames case_cons case_expr

  expr_name : (e : Expr) → ExprNames e
  expr_name = ind-Expr ConsNames ExprNames case_cons case_expr

  condition_names : (n : ℕ) (c : Cons) → cons_fits tables resources true n c ≡ true → fact_names_none true (fact tables resources c) ≡ true
  condition_names n c h = cons_name c (and_parts (nat_le (cons_depth c) n) (cons_stands tables resources true c) h).1

  key_names : (key : Option Expr) → key_fits tables resources key ≡ true → key_names_none true (lift1 (term tables resources) key) ≡ true
  key_names None h = refl
  key_names (Some e) h = expr_name e (and_parts (nat_le (expr_depth e) most_deep) (expr_stands tables resources true e) h).1

  -- ---- statements

  unfoldable element : code.Branch → Branch
  element = fold-Branch Statement Branch (step_layer tables resources) (branch_layer tables resources)

  unfoldable made : code.Branch → Element
  made = fold-Branch Bool Element (step_made tables resources) (branch_made tables resources)

  abbrev StepDecides : Step → Type 0
  StepDecides s = is_well_made tables resources s ≡ true → decides_alone (statement tables resources s) ≡ true

  abbrev BranchDecides : code.Branch → Type 0
  BranchDecides b = (made b).is_well_made ≡ true → branch_decides_alone (element b) ≡ true

  abbrev InStep : Type 0
  InStep = (s : Step) × StepDecides s

  abbrev InBranch : Type 0
  InBranch = (b : code.Branch) × BranchDecides b

  abbrev step_inner : Step-F InStep InBranch → Step-F Step code.Branch
  step_inner = map-Step InStep InBranch Step code.Branch (λ i. i.0) (λ i. i.0)

  abbrev branch_inner : Branch-F InStep InBranch → Branch-F Step code.Branch
  branch_inner = map-Branch InStep InBranch Step code.Branch (λ i. i.0) (λ i. i.0)

  made_is : (d : Step-F Step code.Branch) → is_well_made tables resources (roll-Step d) ≡ step_made tables resources (map-Step Step code.Branch Bool Element (is_well_made tables resources) made d)
  unfolding is_well_made made
  made_is d = fold-roll-Step Bool Element (step_made tables resources) (branch_made tables resources) d

  branch_made_is : (d : Branch-F Step code.Branch) → made (roll-Branch d) ≡ branch_made tables resources (map-Branch Step code.Branch Bool Element (is_well_made tables resources) made d)
  unfolding is_well_made made
  branch_made_is d = fold-roll-Branch Bool Element (step_made tables resources) (branch_made tables resources) d

  statement_is : (d : Step-F Step code.Branch) → statement tables resources (roll-Step d) ≡ step_layer tables resources (map-Step Step code.Branch Statement Branch (statement tables resources) element d)
  unfolding statement element
  statement_is d = fold-roll-Step Statement Branch (step_layer tables resources) (branch_layer tables resources) d

  element_is : (d : Branch-F Step code.Branch) → element (roll-Branch d) ≡ branch_layer tables resources (map-Branch Step code.Branch Statement Branch (statement tables resources) element d)
  unfolding statement element
  element_is d = fold-roll-Branch Statement Branch (step_layer tables resources) (branch_layer tables resources) d

  steps_decide : (ss : List InStep) → list_all (λ b. b) (map (is_well_made tables resources) (map (λ i. i.0) ss)) ≡ true → all_decide_alone (statements_of (map (statement tables resources) (map (λ i. i.0) ss))) ≡ true
  steps_decide [] h = refl
  steps_decide (s ∷ ss) h =
      let r = and_parts (is_well_made tables resources s.0) (list_all (λ b. b) (map (is_well_made tables resources) (map (λ i. i.0) ss))) h in
      and_from (decides_alone (statement tables resources s.0)) (all_decide_alone (statements_of (map (statement tables resources) (map (λ i. i.0) ss)))) (s.1 r.0) (steps_decide ss r.1)

  elements_decide : (bs : List InBranch) → list_all (λ b. b.is_well_made) (map made (map (λ i. i.0) bs)) ≡ true → branches_decide_alone (branches_of (map element (map (λ i. i.0) bs))) ≡ true
  elements_decide [] h = refl
  elements_decide (b ∷ bs) h =
      let r = and_parts (made b.0).is_well_made (list_all (λ b. b.is_well_made) (map made (map (λ i. i.0) bs))) h in
      and_from (branch_decides_alone (element b.0)) (branches_decide_alone (branches_of (map element (map (λ i. i.0) bs)))) (b.1 r.0) (elements_decide bs r.1)

  alike_decide : (bs : List InBranch) → (are_alike (map made (map (λ i. i.0) bs)) && list_all (λ b. b.is_well_made) (map made (map (λ i. i.0) bs))) ≡ true → branches_decide_alone (branches_of (map element (map (λ i. i.0) bs))) ≡ true
  alike_decide bs h = elements_decide bs (and_parts (are_alike (map made (map (λ i. i.0) bs))) (list_all (λ b. b.is_well_made) (map made (map (λ i. i.0) bs))) h).1

  step_decides : (y : Step-F InStep InBranch) → step_made tables resources (map-Step Step code.Branch Bool Element (is_well_made tables resources) made (step_inner y)) ≡ true
      → decides_alone (step_layer tables resources (map-Step Step code.Branch Statement Branch (statement tables resources) element (step_inner y))) ≡ true
  step_decides (Step-F.Post c) h = refl
  step_decides (Step-F.Block ss) h = steps_decide ss h
  step_decides (Step-F.Try ss) h = steps_decide ss h
  step_decides (Step-F.TryAll bs) h = alike_decide bs h
  step_decides (Step-F.ForAll bs) h = alike_decide bs h
  step_decides (Step-F.Select bs) h = alike_decide bs h
  step_decides (Step-F.Once s) h = s.1 h
  step_decides (Step-F.While c s) h =
      let r = and_parts (cons_fits tables resources true most_deep c) (is_well_made tables resources s.0) h in
      and_from (fact_names_none true (fact tables resources c)) (decides_alone (statement tables resources s.0)) (condition_names most_deep c r.0) (s.1 r.1)
  step_decides (Step-F.If c s t) h =
      let r = and_parts (cons_fits tables resources true most_deep c) (is_well_made tables resources s.0 && is_well_made tables resources t.0) h in
      let q = and_parts (is_well_made tables resources s.0) (is_well_made tables resources t.0) r.1 in
      and_from (fact_names_none true (fact tables resources c)) (decides_alone (statement tables resources s.0) && decides_alone (statement tables resources t.0)) (condition_names most_deep c r.0)
      (and_from (decides_alone (statement tables resources s.0)) (decides_alone (statement tables resources t.0)) (s.1 q.0) (t.1 q.1))
  step_decides (Step-F.Generate xs) h = refl
  step_decides (Step-F.Rank ps) h = refl

  branch_decides : (y : Branch-F InStep InBranch) → (branch_made tables resources (map-Branch Step code.Branch Bool Element (is_well_made tables resources) made (branch_inner y))).is_well_made ≡ true
      → branch_decides_alone (branch_layer tables resources (map-Branch Step code.Branch Statement Branch (statement tables resources) element (branch_inner y))) ≡ true
  branch_decides y h =
      let r = and_parts (cons_fits tables resources true most_deep y.when) (key_fits tables resources y.key && is_well_made tables resources y.body.0) h in
      let q = and_parts (key_fits tables resources y.key) (is_well_made tables resources y.body.0) r.1 in
      and_from (fact_names_none true (fact tables resources y.when)) (key_names_none true (lift1 (term tables resources) y.key) && decides_alone (statement tables resources y.body.0)) (condition_names most_deep y.when r.0)
      (and_from (key_names_none true (lift1 (term tables resources) y.key)) (decides_alone (statement tables resources y.body.0)) (key_names y.key q.0) (y.body.1 q.1))

  case_step : (x : Step-F Step code.Branch) (y : Step-F InStep InBranch) → step_inner y ≡ x → StepDecides (roll-Step x)
  case_step x y is = subst (λ z. StepDecides (roll-Step z)) is (λ h. ap decides_alone (statement_is (step_inner y)) ∙ step_decides y (sym (made_is (step_inner y)) ∙ h))

  case_branch : (x : Branch-F Step code.Branch) (y : Branch-F InStep InBranch) → branch_inner y ≡ x → BranchDecides (roll-Branch x)
  case_branch x y is = subst (λ z. BranchDecides (roll-Branch z)) is (λ h. ap branch_decides_alone (element_is (branch_inner y)) ∙ branch_decides y (sym (ap (λ m. m.is_well_made) (branch_made_is (branch_inner y))) ∙ h))

  pub made_decides : (s : Step) → StepDecides s
  made_decides = ind-Step StepDecides BranchDecides case_step case_branch
