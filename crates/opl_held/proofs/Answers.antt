-- What is answered of a condition.
use Rattle.std.proofs.Common.{◌≡◌, Option, Some, None, true, Bool, ◌↔◌, ℤ, List, [], Ok, Err, refl, sym, ap, ◌∙◌}
use Rattle.std.specs.Option.{option_map}
use Rattle.opl_value.specs.declared.value.Value.{Value}
use Rattle.opl_eval.specs.Evaluation.{Found, found, is_true}
use Rattle.opl_meaning.specs.Solutions.{truth}
use Rattle.opl_draft.specs.Drafts.{Cells, Draft, draft_value}
use Rattle.opl_form.specs.Worth.{some_of}
use Rattle.opl_held.specs.declared.outcome.Outcome.{Outcome}
use Rattle.opl_held.specs.Outcomes.{Worth, data_of, fault_of, truth_of, value_in}
use Rattle.opl_held.specs.Worth.{worth}
use Rattle.opl_held.specs.Laws.{ComesToAnswer, MetIsTrue, answer, data_fault}
use Rattle.opl_held.proofs.Values.{worth_means}
use Rattle.opl_held.proofs.Data.{data_stays}

fault-data : {A : Type 0} (r : Found (Outcome A)) → fault_of (found data_of r) ≡ fault_of r
fault-data (Ok o) = refl
fault-data (Err fault) = refl

-- the fault under any assignment
pub fault-stays : (arrays : List Cells) (ns : List ℤ) (d : Draft) → fault_of (worth arrays ns d) ≡ data_fault arrays d
fault-stays arrays ns d = sym (fault-data (worth arrays ns d)) ∙ ap fault_of (data_stays arrays ns [] d) ∙ fault-data (worth arrays [] d)

answered : (r : Found Worth) (x : Found Value) → value_in r ≡ some_of x → found truth_of r ≡ answer (fault_of r) x
answered (Ok o) (Ok v) e = ap (λ v. Ok (option_map is_true v)) e
answered (Ok o) (Err fault) e = ap (λ v. Ok (option_map is_true v)) e
answered (Err fault) x e = refl

pub comes_to_answer : ComesToAnswer
comes_to_answer arrays ns d = answered (worth arrays ns d) (draft_value arrays ns d) (worth_means arrays ns d) ∙ ap (λ f. answer f (draft_value arrays ns d)) (fault-stays arrays ns d)

-- ---- truths

none-is-some : {A : Type 0} (a : A) → None ≡ Some a → ⊥
none-is-some a e = cc

met-true : (r : Found Worth) (x : Found Value) → value_in r ≡ some_of x → (truth x ≡ true) ↔ (found truth_of r ≡ Ok (Some true))
met-true (Ok o) (Ok v) e = ((λ h. ap (λ w. Ok (option_map is_true w)) e ∙ ap (λ b. Ok (Some b)) h), (λ k. back (is_true v) (sym (ap (λ w. Ok (option_map is_true w)) e) ∙ k)))
  where
    back : (b : Bool) → ◌≡◌ {A = Found (Option Bool)} (Ok (Some b)) (Ok (Some true)) → b ≡ true
    back b k = cc
met-true (Ok o) (Err fault) e = ((λ h. absurd (cc)), (λ k. absurd (back (sym (ap (λ w. Ok (option_map is_true w)) e) ∙ k))))
  where
    back : ◌≡◌ {A = Found (Option Bool)} (Ok None) (Ok (Some true)) → ⊥
    back k = cc
met-true (Err fault) (Ok v) e = absurd (none-is-some v e)
met-true (Err fault) (Err other) e = ((λ h. absurd (cc)), (λ k. absurd (cc)))

pub met_is_true : MetIsTrue
met_is_true arrays ns c = met-true (worth arrays ns c.draft) (draft_value arrays ns c.draft) (worth_means arrays ns c.draft)
