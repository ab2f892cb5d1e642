-- Where nothing is asked, an answered constraint means what it meant.
use Rattle.std.proofs.Common.{◌≡◌, ◌∙◌, true, false, ◌&&◌, refl, List, ℤ, pos, ◌+ℤ◌, ◌*ℤ◌, neg_ℤ, ap, sym}
use Rattle.std.specs.Prelude.{not, ◌||◌, unsigned_abs, Option, Some, None}
use Rattle.std.proofs.Math.Bool.{and-true}
use Rattle.std.proofs.Math.IntN.{*ℤ_comm}
use Rattle.std.proofs.lemmas.Bool.{and_parts}
use Rattle.opl_domain.specs.Span.{smaller, larger}
use Rattle.opl_domain.specs.Family.{Family}
use Rattle.opl_expr.specs.declared.forms.Op.TheVariants.{Ne}
use Rattle.opl_expr.specs.Forms.{Term, Terms, Fact, Facts, product}
use Rattle.opl_expr.specs.Options.{lift1, lift, bind, lift_all, lift_some}
use Rattle.opl_expr.specs.Holds.{bit, quotient, remainder, relates, op_relates, is_index, cell_value, same, value, all_values, holds, all_hold}
use Rattle.opl_expr.specs.Range.{look_up, pairwise}
use Rattle.opl_expr.specs.Laws.{is_clear, clear, all_clear, clear_fact, clear_facts}
use Rattle.opl_expr.proofs.Parts.{product_cases}
use Rattle.opl_trace.specs.Answers.{answered_term, answered_terms, answered, all_answered}
use Rattle.opl_trace.specs.Paths.{asks_none, all_ask_none, is_free, all_free}
use Rattle.opl_trace.proofs.WithoutVariables.{both_are}

scale_left : (k : ℤ) (o : Option ℤ) → lift1 (λ v. k *ℤ v) o ≡ lift ◌*ℤ◌ (Some k) o
scale_left k None = refl
scale_left k (Some v) = refl

scale_right : (k : ℤ) (o : Option ℤ) → lift1 (λ v. k *ℤ v) o ≡ lift ◌*ℤ◌ o (Some k)
scale_right k None = refl
scale_right k (Some v) = ap (λ w. Some w) (*ℤ_comm k v)

value_product : (a : List ℤ) (s t : Term) → value a (product s t) ≡ lift ◌*ℤ◌ (value a s) (value a t)
value_product a = product_cases (λ s t p. value a p ≡ lift ◌*ℤ◌ (value a s) (value a t)) (λ k t. scale_left k (value a t)) (λ s k. scale_right k (value a s)) (λ s t. refl)

clear_product : (s t : Term) → clear (product s t) ≡ (clear s && clear t)
clear_product = product_cases (λ s t p. clear p ≡ (clear s && clear t)) (λ k t. refl) (λ s k. sym (and-true (clear s))) (λ s t. refl)

module _ (F : Family) where
  module _ (a : List ℤ) where
    mutual
      means_term : (t : Term) → asks_none t ≡ true → value a (answered_term F t) ≡ value a t
      means_term (Term.const k) h = refl
      means_term (Term.var x) h = refl
      means_term (Term.sum ts) h = ap (lift_all ◌+ℤ◌ (pos 0)) (mean_terms ts h)
      means_term (Term.neg t) h = ap (lift1 neg_ℤ) (means_term t h)
      means_term (Term.scale k t) h = ap (lift1 (λ v. k *ℤ v)) (means_term t h)
      means_term (Term.mul s t) h =
          let r = and_parts (asks_none s) (asks_none t) h in
          value_product a (answered_term F s) (answered_term F t) ∙ both_are (lift ◌*ℤ◌) (value a (answered_term F s)) (value a (answered_term F t)) (value a s) (value a t) (means_term s r.0) (means_term t r.1)
      means_term (Term.div s t) h = let r = and_parts (asks_none s) (asks_none t) h in both_are (bind quotient) (value a (answered_term F s)) (value a (answered_term F t)) (value a s) (value a t) (means_term s r.0) (means_term t r.1)
      means_term (Term.rem s t) h = let r = and_parts (asks_none s) (asks_none t) h in both_are (bind remainder) (value a (answered_term F s)) (value a (answered_term F t)) (value a s) (value a t) (means_term s r.0) (means_term t r.1)
      means_term (Term.abs t) h = ap (lift1 (λ v. pos (unsigned_abs v))) (means_term t h)
      means_term (Term.least ts) h = ap (lift_some smaller) (mean_terms ts h)
      means_term (Term.greatest ts) h = ap (lift_some larger) (mean_terms ts h)
      means_term (Term.at table ts) h = ap (look_up is_index (cell_value a) (λ v w. v) table) (mean_terms ts h)
      means_term (Term.truth c) h = ap (lift1 bit) (means_fact c h)
      means_term (Term.asked ask x) h = cc

      mean_terms : (ts : Terms) → all_ask_none ts ≡ true → all_values a (answered_terms F ts) ≡ all_values a ts
      mean_terms Terms.no_terms h = refl
      mean_terms (Terms.more_terms t ts) h = let r = and_parts (asks_none t) (all_ask_none ts) h in rw (means_term t r.0, mean_terms ts r.1) refl

      pub means_fact : (c : Fact) → is_free c ≡ true → holds a (answered F c) ≡ holds a c
      means_fact (Fact.fixed b) h = refl
      means_fact (Fact.cmp rel s t) h = let r = and_parts (asks_none s) (asks_none t) h in both_are (lift (relates rel)) (value a (answered_term F s)) (value a (answered_term F t)) (value a s) (value a t) (means_term s r.0) (means_term t r.1)
      means_fact (Fact.and cs) h = ap (lift_all (λ b c. b && c) true) (mean_facts cs h)
      means_fact (Fact.or cs) h = ap (lift_all (λ b c. b || c) false) (mean_facts cs h)
      means_fact (Fact.iff c d) h = let r = and_parts (is_free c) (is_free d) h in both_are (lift same) (holds a (answered F c)) (holds a (answered F d)) (holds a c) (holds a d) (means_fact c r.0) (means_fact d r.1)
      means_fact (Fact.not c) h = ap (lift1 not) (means_fact c h)
      means_fact (Fact.different ts) h = ap (λ vs. lift_all (λ b c. b && c) true (pairwise (lift1 (λ v. true)) (lift (op_relates Ne)) vs)) (mean_terms ts h)
      means_fact (Fact.bound x) h = cc

      mean_facts : (cs : Facts) → all_free cs ≡ true → all_hold a (all_answered F cs) ≡ all_hold a cs
      mean_facts Facts.no_facts h = refl
      mean_facts (Facts.more_facts c cs) h = let r = and_parts (is_free c) (all_free cs) h in rw (means_fact c r.0, mean_facts cs r.1) refl

  mutual
    clear_answer : (t : Term) → asks_none t ≡ true → clear (answered_term F t) ≡ clear t
    clear_answer (Term.const k) h = refl
    clear_answer (Term.var x) h = refl
    clear_answer (Term.sum ts) h = clear_answers ts h
    clear_answer (Term.neg t) h = clear_answer t h
    clear_answer (Term.scale k t) h = clear_answer t h
    clear_answer (Term.mul s t) h =
        let r = and_parts (asks_none s) (asks_none t) h in
        clear_product (answered_term F s) (answered_term F t) ∙ both_are ◌&&◌ (clear (answered_term F s)) (clear (answered_term F t)) (clear s) (clear t) (clear_answer s r.0) (clear_answer t r.1)
    clear_answer (Term.div s t) h = let r = and_parts (asks_none s) (asks_none t) h in both_are ◌&&◌ (clear (answered_term F s)) (clear (answered_term F t)) (clear s) (clear t) (clear_answer s r.0) (clear_answer t r.1)
    clear_answer (Term.rem s t) h = let r = and_parts (asks_none s) (asks_none t) h in both_are ◌&&◌ (clear (answered_term F s)) (clear (answered_term F t)) (clear s) (clear t) (clear_answer s r.0) (clear_answer t r.1)
    clear_answer (Term.abs t) h = clear_answer t h
    clear_answer (Term.least ts) h = clear_answers ts h
    clear_answer (Term.greatest ts) h = clear_answers ts h
    clear_answer (Term.at table ts) h = ap (λ b. is_clear table && b) (clear_answers ts h)
    clear_answer (Term.truth c) h = clear_answered c h
    clear_answer (Term.asked ask x) h = cc

    clear_answers : (ts : Terms) → all_ask_none ts ≡ true → all_clear (answered_terms F ts) ≡ all_clear ts
    clear_answers Terms.no_terms h = refl
    clear_answers (Terms.more_terms t ts) h = let r = and_parts (asks_none t) (all_ask_none ts) h in rw (clear_answer t r.0, clear_answers ts r.1) refl

    pub clear_answered : (c : Fact) → is_free c ≡ true → clear_fact (answered F c) ≡ clear_fact c
    clear_answered (Fact.fixed b) h = refl
    clear_answered (Fact.cmp rel s t) h = let r = and_parts (asks_none s) (asks_none t) h in both_are ◌&&◌ (clear (answered_term F s)) (clear (answered_term F t)) (clear s) (clear t) (clear_answer s r.0) (clear_answer t r.1)
    clear_answered (Fact.and cs) h = clear_all_answered cs h
    clear_answered (Fact.or cs) h = clear_all_answered cs h
    clear_answered (Fact.iff c d) h = let r = and_parts (is_free c) (is_free d) h in both_are ◌&&◌ (clear_fact (answered F c)) (clear_fact (answered F d)) (clear_fact c) (clear_fact d) (clear_answered c r.0) (clear_answered d r.1)
    clear_answered (Fact.not c) h = clear_answered c h
    clear_answered (Fact.different ts) h = clear_answers ts h
    clear_answered (Fact.bound x) h = cc

    clear_all_answered : (cs : Facts) → all_free cs ≡ true → clear_facts (all_answered F cs) ≡ clear_facts cs
    clear_all_answered Facts.no_facts h = refl
    clear_all_answered (Facts.more_facts c cs) h = let r = and_parts (is_free c) (all_free cs) h in rw (clear_answered c r.0, clear_all_answered cs r.1) refl
