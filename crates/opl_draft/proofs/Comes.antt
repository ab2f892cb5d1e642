-- What drafts come to, one after another.
use Rattle.std.proofs.Common.{◌≡◌, ℕ, ℤ, Bool, true, false, cond, List, [], ◌∷◌, ◌++◌, map, Ok, Err, refl, sym, ◌∙◌}
use Rattle.std.specs.List.{flat_map}
use Rattle.opl_tree.specs.declared.expression.CallOp.{CallOp}
use Rattle.opl_tree.specs.declared.expression.CallOp.TheVariants.{Absolute, Cardinality}
use Rattle.opl_value.specs.declared.value.Value.{Value}
use Rattle.opl_eval.specs.Arithmetic.{then, absolute}
use Rattle.opl_eval.specs.Compare.{number}
use Rattle.opl_eval.specs.Evaluation as evaluation
use Rattle.opl_eval.specs.Evaluation.{Found, found, gathered, integer, is_true}
use Rattle.opl_draft.specs.Choices.{or_stop}
use Rattle.opl_draft.specs.Drafts.{Cells, Draft, draft_value, draft_values, drafts_of}
use Rattle.opl_draft.specs.Drafts.Draft.{broken}
use Rattle.opl_draft.specs.Unrolled.{called, data_draft, is_absolute}

-- ---- what is found

one-append : {A : Type 0} (x : A) (r : Found (List A)) (s : Found (List A)) → found (λ ys. x ∷ ys) (then r (λ bs. found (λ cs. bs ++ cs) s)) ≡ then (found (λ ys. x ∷ ys) r) (λ bs. found (λ cs. bs ++ cs) s)
one-append x (Ok bs) (Ok cs) = refl
one-append x (Ok bs) (Err e) = refl
one-append x (Err e) s = refl

pub then-each : {A B : Type 0} (r : Found A) (f g : A → Found B) → ((x : A) → f x ≡ g x) → then r f ≡ then r g
then-each (Ok x) f g h = h x
then-each (Err e) f g h = refl

then-out : {A B C : Type 0} (r : Found A) (f : A → Found B) (g : B → Found C) → then r (λ x. then (f x) g) ≡ then (then r f) g
then-out (Ok x) f g = refl
then-out (Err e) f g = refl

module _ (arrays : List Cells) (ns : List ℤ) where
  -- what several drafts come to
  abbrev pub come : List Draft → Found (List Value)
  come ds = draft_values arrays ns (drafts_of ds)

  pub come-append : (ds es : List Draft) → come (ds ++ es) ≡ then (come ds) (λ xs. found (λ ys. xs ++ ys) (come es))
  come-append [] es = sym (found-same (come es))
    where
      found-same : (r : Found (List Value)) → found (λ ys. [] ++ ys) r ≡ r
      found-same (Ok x) = refl
      found-same (Err e) = refl
  come-append (d ∷ ds) es =
      (λ i. then (draft_value arrays ns d) (λ x. found (λ xs. x ∷ xs) (come-append ds es i)))
      ∙ then-each (draft_value arrays ns d) (λ x. found (λ xs. x ∷ xs) (then (come ds) (λ xs. found (λ ys. xs ++ ys) (come es)))) (λ x. then (found (λ xs. x ∷ xs) (come ds)) (λ xs. found (λ ys. xs ++ ys) (come es))) (λ x. one-append x (come ds) (come es))
      ∙ then-out (draft_value arrays ns d) (λ x. found (λ xs. x ∷ xs) (come ds)) (λ xs. found (λ ys. xs ++ ys) (come es))

  pub come-stop : {A : Type 0} (r : Found A) (next : A → List Draft) → come (or_stop broken r next) ≡ then r (λ a. come (next a))
  come-stop (Ok a) next = refl
  come-stop (Err e) next = refl

  pub come-data : (at : ℕ) (r : Found Value) → draft_value arrays ns (data_draft at r) ≡ r
  come-data at (Ok v) = refl
  come-data at (Err e) = refl

  pub come-listed : {A : Type 0} (drafts : A → List Draft) (bodies : A → Found (List Value)) → ((a : A) → come (drafts a) ≡ bodies a) →
      (all : List A) → come (flat_map drafts all) ≡ gathered (map bodies all)
  come-listed drafts bodies h [] = refl
  come-listed drafts bodies h (a ∷ others) =
      come-append (drafts a) (flat_map drafts others) ∙ (λ i. then (h a i) (λ xs. found (λ ys. xs ++ ys) (come-listed drafts bodies h others i)))

  pub come-one : (d : Draft) (r : Found Value) → draft_value arrays ns d ≡ r → come (d ∷ []) ≡ found (λ v. v ∷ []) r
  come-one d r h = (λ i. then (h i) (λ x. found (λ xs. x ∷ xs) (Ok []))) ∙ last r
    where
      last : (r : Found Value) → then r (λ x. found (λ xs. x ∷ xs) (Ok [])) ≡ found (λ v. v ∷ []) r
      last (Ok v) = refl
      last (Err e) = refl

  pub come-where : (r : Found Value) (ds : List Draft) (s : Found (List Value)) → come ds ≡ s →
      come (or_stop broken r (λ holds. cond (is_true holds) ds [])) ≡ then r (λ holds. cond (is_true holds) s (Ok []))
  come-where (Ok v) ds s h = by (is_true v)
    where
      by : (b : Bool) → come (cond b ds []) ≡ cond b s (Ok [])
      by true = h
      by false = refl
  come-where (Err e) ds s h = refl

  pub called-means : (op : CallOp) (at : ℕ) (d : Draft) (r : Found Value) → is_absolute op ≡ true → draft_value arrays ns d ≡ r → draft_value arrays ns (called op at d) ≡ then r (λ v. integer (evaluation.called op at v))
  called-means Absolute at d r a h = λ i. then (h i) (λ v. integer (absolute at (number v)))
  called-means Cardinality at d r a h = absurd (cc)
