use Rattle.std.proofs.Common.{◌≡◌, ◌∙◌, refl, map, sym, ap}
use Rattle.std.specs.Prelude.{slice_get, nat_eq}
use Rattle.opl_expr.specs.Forms.{Term, Fact, term, fact, terms_of, facts_of, compared, product, capacity_at}
use Rattle.opl_expr.specs.Forms.Facts.{no_facts, more_facts}
use Rattle.opl_expr.proofs.Plain.{term_Const, term_Var, term_Sum, term_Neg, term_Mul, term_Div, term_Rem, term_Abs, term_Min, term_Max, term_At, term_Truth, term_Ask, fact_Fixed, fact_Cmp, fact_And, fact_Or, fact_Imp, fact_Iff, fact_Not, fact_AllDifferent, fact_Capacity, fact_Bound}
use Rattle.opl_filter.specs.Mentions.{table_mentions, resource_mentions, term_mentions, terms_mention, mentions, facts_mention}
use Rattle.opl_filter.proofs.Adding.{adds_none, ok_both, ok_same, first_none, first_next, first_all, any_terms, any_facts, in_product, in_compared, in_implied, in_capacity}
use Rattle.opl_filter.proofs.variables.+variables.Goals as goal

pub add_term-returns-in-Const : goal.add_term-returns-in-Const
add_term-returns-in-Const t c =
    adds_none (term_mentions (term c.args.core.now.tables c.args.core.now.resources c.args.e.now)) c.args.found.now (λ y. ap (λ s. term_mentions s y) (ap (term c.args.core.now.tables c.args.core.now.resources) c.in-Const.is ∙ term_Const c.args.core.now.tables c.args.core.now.resources c.in-Const._k))

pub add_term-returns-in-Var : goal.add_term-returns-in-Var
add_term-returns-in-Var t c =
    ok_same c.add.result (λ y. nat_eq y c.in-Var.x) (term_mentions (term c.args.core.now.tables c.args.core.now.resources c.args.e.now)) c.args.found.now c.add.new.found (λ y. sym (ap (λ s. term_mentions s y) (ap (term c.args.core.now.tables c.args.core.now.resources) c.in-Var.is ∙ term_Var c.args.core.now.tables c.args.core.now.resources c.in-Var.x))) c.add.ensures

pub add_term-returns-in-Sum : goal.add_term-returns-in-Sum
add_term-returns-in-Sum t c =
    ok_same c.add_terms.result (terms_mention (terms_of (map (term c.args.core.now.tables c.args.core.now.resources) c.as_slice.result.now))) (term_mentions (term c.args.core.now.tables c.args.core.now.resources c.args.e.now)) c.args.found.now c.add_terms.new.found (λ y. sym (ap (λ s. term_mentions s y) (ap (term c.args.core.now.tables c.args.core.now.resources) c.in-Sum.is ∙ term_Sum c.args.core.now.tables c.args.core.now.resources c.in-Sum.parts ∙ ap (λ z. Term.sum (terms_of (map (term c.args.core.now.tables c.args.core.now.resources) z))) (sym c.as_slice.ensures)))) c.add_terms.ensures

pub add_term-returns-in-Neg : goal.add_term-returns-in-Neg
add_term-returns-in-Neg t c =
    ok_same c.add_term.result (term_mentions (term c.args.core.now.tables c.args.core.now.resources c.get.result.now)) (term_mentions (term c.args.core.now.tables c.args.core.now.resources c.args.e.now)) c.args.found.now c.add_term.new.found (λ y. sym (ap (λ s. term_mentions s y) (ap (term c.args.core.now.tables c.args.core.now.resources) c.in-Neg.is ∙ term_Neg c.args.core.now.tables c.args.core.now.resources c.in-Neg.a ∙ ap (λ z. Term.neg (term c.args.core.now.tables c.args.core.now.resources z)) (sym c.get.ensures)))) c.add_term.ensures

pub add_term-returns-in_ok-add_term-in-Mul : goal.add_term-returns-in_ok-add_term-in-Mul
add_term-returns-in_ok-add_term-in-Mul t c =
    ok_both c.add_term-in-Mul-2.result (term_mentions (term c.args.core.now.tables c.args.core.now.resources c.get-in-Mul.result.now)) (term_mentions (term c.args.core.now.tables c.args.core.now.resources c.get-in-Mul-2.result.now)) (term_mentions (term c.args.core.now.tables c.args.core.now.resources c.args.e.now)) c.args.found.now c.add_term-in-Mul.new.found c.add_term-in-Mul-2.new.found (λ y. in_product (term c.args.core.now.tables c.args.core.now.resources c.get-in-Mul.result.now) (term c.args.core.now.tables c.args.core.now.resources c.get-in-Mul-2.result.now) y ∙ sym (ap (λ s. term_mentions s y) (ap (term c.args.core.now.tables c.args.core.now.resources) c.in-Mul.is ∙ term_Mul c.args.core.now.tables c.args.core.now.resources c.in-Mul.a c.in-Mul.b ∙ ap (λ z. product (term c.args.core.now.tables c.args.core.now.resources z) (term c.args.core.now.tables c.args.core.now.resources c.in-Mul.b)) (sym c.get-in-Mul.ensures) ∙ ap (λ z. product (term c.args.core.now.tables c.args.core.now.resources c.get-in-Mul.result.now) (term c.args.core.now.tables c.args.core.now.resources z)) (sym c.get-in-Mul-2.ensures)))) c.in_ok-add_term-in-Mul.ensures c.add_term-in-Mul-2.ensures

pub add_term-returns-in_ok-add_term-in-Div : goal.add_term-returns-in_ok-add_term-in-Div
add_term-returns-in_ok-add_term-in-Div t c =
    ok_both c.add_term-in-Div-2.result (term_mentions (term c.args.core.now.tables c.args.core.now.resources c.get-in-Div.result.now)) (term_mentions (term c.args.core.now.tables c.args.core.now.resources c.get-in-Div-2.result.now)) (term_mentions (term c.args.core.now.tables c.args.core.now.resources c.args.e.now)) c.args.found.now c.add_term-in-Div.new.found c.add_term-in-Div-2.new.found (λ y. sym (ap (λ s. term_mentions s y) (ap (term c.args.core.now.tables c.args.core.now.resources) c.in-Div.is ∙ term_Div c.args.core.now.tables c.args.core.now.resources c.in-Div.a c.in-Div.b ∙ ap (λ z. Term.div (term c.args.core.now.tables c.args.core.now.resources z) (term c.args.core.now.tables c.args.core.now.resources c.in-Div.b)) (sym c.get-in-Div.ensures) ∙ ap (λ z. Term.div (term c.args.core.now.tables c.args.core.now.resources c.get-in-Div.result.now) (term c.args.core.now.tables c.args.core.now.resources z)) (sym c.get-in-Div-2.ensures)))) c.in_ok-add_term-in-Div.ensures c.add_term-in-Div-2.ensures

pub add_term-returns-in_ok-add_term-in-Rem : goal.add_term-returns-in_ok-add_term-in-Rem
add_term-returns-in_ok-add_term-in-Rem t c =
    ok_both c.add_term-in-Rem-2.result (term_mentions (term c.args.core.now.tables c.args.core.now.resources c.get-in-Rem.result.now)) (term_mentions (term c.args.core.now.tables c.args.core.now.resources c.get-in-Rem-2.result.now)) (term_mentions (term c.args.core.now.tables c.args.core.now.resources c.args.e.now)) c.args.found.now c.add_term-in-Rem.new.found c.add_term-in-Rem-2.new.found (λ y. sym (ap (λ s. term_mentions s y) (ap (term c.args.core.now.tables c.args.core.now.resources) c.in-Rem.is ∙ term_Rem c.args.core.now.tables c.args.core.now.resources c.in-Rem.a c.in-Rem.b ∙ ap (λ z. Term.rem (term c.args.core.now.tables c.args.core.now.resources z) (term c.args.core.now.tables c.args.core.now.resources c.in-Rem.b)) (sym c.get-in-Rem.ensures) ∙ ap (λ z. Term.rem (term c.args.core.now.tables c.args.core.now.resources c.get-in-Rem.result.now) (term c.args.core.now.tables c.args.core.now.resources z)) (sym c.get-in-Rem-2.ensures)))) c.in_ok-add_term-in-Rem.ensures c.add_term-in-Rem-2.ensures

pub add_term-returns-in-Abs : goal.add_term-returns-in-Abs
add_term-returns-in-Abs t c =
    ok_same c.add_term-in-Abs.result (term_mentions (term c.args.core.now.tables c.args.core.now.resources c.get-in-Abs.result.now)) (term_mentions (term c.args.core.now.tables c.args.core.now.resources c.args.e.now)) c.args.found.now c.add_term-in-Abs.new.found (λ y. sym (ap (λ s. term_mentions s y) (ap (term c.args.core.now.tables c.args.core.now.resources) c.in-Abs.is ∙ term_Abs c.args.core.now.tables c.args.core.now.resources c.in-Abs.a ∙ ap (λ z. Term.abs (term c.args.core.now.tables c.args.core.now.resources z)) (sym c.get-in-Abs.ensures)))) c.add_term-in-Abs.ensures

pub add_term-returns-in-Min : goal.add_term-returns-in-Min
add_term-returns-in-Min t c =
    ok_same c.add_terms-in-Min.result (terms_mention (terms_of (map (term c.args.core.now.tables c.args.core.now.resources) c.as_slice-in-Min.result.now))) (term_mentions (term c.args.core.now.tables c.args.core.now.resources c.args.e.now)) c.args.found.now c.add_terms-in-Min.new.found (λ y. sym (ap (λ s. term_mentions s y) (ap (term c.args.core.now.tables c.args.core.now.resources) c.in-Min.is ∙ term_Min c.args.core.now.tables c.args.core.now.resources c.in-Min.parts ∙ ap (λ z. Term.least (terms_of (map (term c.args.core.now.tables c.args.core.now.resources) z))) (sym c.as_slice-in-Min.ensures)))) c.add_terms-in-Min.ensures

pub add_term-returns-in-Max : goal.add_term-returns-in-Max
add_term-returns-in-Max t c =
    ok_same c.add_terms-in-Max.result (terms_mention (terms_of (map (term c.args.core.now.tables c.args.core.now.resources) c.as_slice-in-Max.result.now))) (term_mentions (term c.args.core.now.tables c.args.core.now.resources c.args.e.now)) c.args.found.now c.add_terms-in-Max.new.found (λ y. sym (ap (λ s. term_mentions s y) (ap (term c.args.core.now.tables c.args.core.now.resources) c.in-Max.is ∙ term_Max c.args.core.now.tables c.args.core.now.resources c.in-Max.parts ∙ ap (λ z. Term.greatest (terms_of (map (term c.args.core.now.tables c.args.core.now.resources) z))) (sym c.as_slice-in-Max.ensures)))) c.add_terms-in-Max.ensures

pub add_term-returns-in_ok-add_table-in-At : goal.add_term-returns-in_ok-add_table-in-At
add_term-returns-in_ok-add_table-in-At t c =
    ok_both c.add_terms-in-At.result (table_mentions (slice_get c.args.core.now.tables c.in-At.table)) (terms_mention (terms_of (map (term c.args.core.now.tables c.args.core.now.resources) c.as_slice-in-At.result.now))) (term_mentions (term c.args.core.now.tables c.args.core.now.resources c.args.e.now)) c.args.found.now c.add_table.new.found c.add_terms-in-At.new.found (λ y. sym (ap (λ s. term_mentions s y) (ap (term c.args.core.now.tables c.args.core.now.resources) c.in-At.is ∙ term_At c.args.core.now.tables c.args.core.now.resources c.in-At.table c.in-At.parts ∙ ap (λ z. Term.at (slice_get c.args.core.now.tables c.in-At.table) (terms_of (map (term c.args.core.now.tables c.args.core.now.resources) z))) (sym c.as_slice-in-At.ensures)))) c.in_ok-add_table-in-At.ensures c.add_terms-in-At.ensures

pub add_term-returns-in-Truth : goal.add_term-returns-in-Truth
add_term-returns-in-Truth t c =
    ok_same c.add_fact.result (mentions (fact c.args.core.now.tables c.args.core.now.resources c.get-in-Truth.result.now)) (term_mentions (term c.args.core.now.tables c.args.core.now.resources c.args.e.now)) c.args.found.now c.add_fact.new.found (λ y. sym (ap (λ s. term_mentions s y) (ap (term c.args.core.now.tables c.args.core.now.resources) c.in-Truth.is ∙ term_Truth c.args.core.now.tables c.args.core.now.resources c.in-Truth.c ∙ ap (λ z. Term.truth (fact c.args.core.now.tables c.args.core.now.resources z)) (sym c.get-in-Truth.ensures)))) c.add_fact.ensures

pub add_term-returns-in-Ask : goal.add_term-returns-in-Ask
add_term-returns-in-Ask t c =
    ok_same c.add-in-Ask.result (λ y. nat_eq y c.in-Ask.x) (term_mentions (term c.args.core.now.tables c.args.core.now.resources c.args.e.now)) c.args.found.now c.add-in-Ask.new.found (λ y. sym (ap (λ s. term_mentions s y) (ap (term c.args.core.now.tables c.args.core.now.resources) c.in-Ask.is ∙ term_Ask c.args.core.now.tables c.args.core.now.resources c.in-Ask._ask c.in-Ask.x))) c.add-in-Ask.ensures

pub add_fact-returns-in-Fixed : goal.add_fact-returns-in-Fixed
add_fact-returns-in-Fixed t c =
    adds_none (mentions (fact c.args.core.now.tables c.args.core.now.resources c.args.c.now)) c.args.found.now (λ y. ap (λ s. mentions s y) (ap (fact c.args.core.now.tables c.args.core.now.resources) c.in-Fixed.is ∙ fact_Fixed c.args.core.now.tables c.args.core.now.resources c.in-Fixed._b))

pub add_fact-returns-in_ok-add_term-in-Cmp : goal.add_fact-returns-in_ok-add_term-in-Cmp
add_fact-returns-in_ok-add_term-in-Cmp t c =
    ok_both c.add_term-in-Cmp.result (term_mentions (term c.args.core.now.tables c.args.core.now.resources c.get.result.now)) (term_mentions (term c.args.core.now.tables c.args.core.now.resources c.get-in-Cmp.result.now)) (mentions (fact c.args.core.now.tables c.args.core.now.resources c.args.c.now)) c.args.found.now c.add_term.new.found c.add_term-in-Cmp.new.found (λ y. in_compared c.in-Cmp._op (term c.args.core.now.tables c.args.core.now.resources c.get.result.now) (term c.args.core.now.tables c.args.core.now.resources c.get-in-Cmp.result.now) y ∙ sym (ap (λ s. mentions s y) (ap (fact c.args.core.now.tables c.args.core.now.resources) c.in-Cmp.is ∙ fact_Cmp c.args.core.now.tables c.args.core.now.resources c.in-Cmp._op c.in-Cmp.a c.in-Cmp.b ∙ ap (λ z. compared c.in-Cmp._op (term c.args.core.now.tables c.args.core.now.resources z) (term c.args.core.now.tables c.args.core.now.resources c.in-Cmp.b)) (sym c.get.ensures) ∙ ap (λ z. compared c.in-Cmp._op (term c.args.core.now.tables c.args.core.now.resources c.get.result.now) (term c.args.core.now.tables c.args.core.now.resources z)) (sym c.get-in-Cmp.ensures)))) c.in_ok-add_term-in-Cmp.ensures c.add_term-in-Cmp.ensures

pub add_fact-returns-in-And : goal.add_fact-returns-in-And
add_fact-returns-in-And t c =
    ok_same c.add_facts.result (facts_mention (facts_of (map (fact c.args.core.now.tables c.args.core.now.resources) c.as_slice.result.now))) (mentions (fact c.args.core.now.tables c.args.core.now.resources c.args.c.now)) c.args.found.now c.add_facts.new.found (λ y. sym (ap (λ s. mentions s y) (ap (fact c.args.core.now.tables c.args.core.now.resources) c.in-And.is ∙ fact_And c.args.core.now.tables c.args.core.now.resources c.in-And.parts ∙ ap (λ z. Fact.and (facts_of (map (fact c.args.core.now.tables c.args.core.now.resources) z))) (sym c.as_slice.ensures)))) c.add_facts.ensures

pub add_fact-returns-in-Or : goal.add_fact-returns-in-Or
add_fact-returns-in-Or t c =
    ok_same c.add_facts-in-Or.result (facts_mention (facts_of (map (fact c.args.core.now.tables c.args.core.now.resources) c.as_slice-in-Or.result.now))) (mentions (fact c.args.core.now.tables c.args.core.now.resources c.args.c.now)) c.args.found.now c.add_facts-in-Or.new.found (λ y. sym (ap (λ s. mentions s y) (ap (fact c.args.core.now.tables c.args.core.now.resources) c.in-Or.is ∙ fact_Or c.args.core.now.tables c.args.core.now.resources c.in-Or.parts ∙ ap (λ z. Fact.or (facts_of (map (fact c.args.core.now.tables c.args.core.now.resources) z))) (sym c.as_slice-in-Or.ensures)))) c.add_facts-in-Or.ensures

pub add_fact-returns-in_ok-add_fact-in-Imp : goal.add_fact-returns-in_ok-add_fact-in-Imp
add_fact-returns-in_ok-add_fact-in-Imp t c =
    ok_both c.add_fact-in-Imp.result (mentions (fact c.args.core.now.tables c.args.core.now.resources c.get-in-Imp.result.now)) (mentions (fact c.args.core.now.tables c.args.core.now.resources c.get-in-Imp-2.result.now)) (mentions (fact c.args.core.now.tables c.args.core.now.resources c.args.c.now)) c.args.found.now c.add_fact.new.found c.add_fact-in-Imp.new.found (λ y. in_implied (fact c.args.core.now.tables c.args.core.now.resources c.get-in-Imp.result.now) (fact c.args.core.now.tables c.args.core.now.resources c.get-in-Imp-2.result.now) y ∙ sym (ap (λ s. mentions s y) (ap (fact c.args.core.now.tables c.args.core.now.resources) c.in-Imp.is ∙ fact_Imp c.args.core.now.tables c.args.core.now.resources c.in-Imp.a c.in-Imp.b ∙ ap (λ z. Fact.or (more_facts (Fact.not (fact c.args.core.now.tables c.args.core.now.resources z)) (more_facts (fact c.args.core.now.tables c.args.core.now.resources c.in-Imp.b) no_facts))) (sym c.get-in-Imp.ensures) ∙ ap (λ z. Fact.or (more_facts (Fact.not (fact c.args.core.now.tables c.args.core.now.resources c.get-in-Imp.result.now)) (more_facts (fact c.args.core.now.tables c.args.core.now.resources z) no_facts))) (sym c.get-in-Imp-2.ensures)))) c.in_ok-add_fact-in-Imp.ensures c.add_fact-in-Imp.ensures

pub add_fact-returns-in_ok-add_fact-in-Iff : goal.add_fact-returns-in_ok-add_fact-in-Iff
add_fact-returns-in_ok-add_fact-in-Iff t c =
    ok_both c.add_fact-in-Iff-2.result (mentions (fact c.args.core.now.tables c.args.core.now.resources c.get-in-Iff.result.now)) (mentions (fact c.args.core.now.tables c.args.core.now.resources c.get-in-Iff-2.result.now)) (mentions (fact c.args.core.now.tables c.args.core.now.resources c.args.c.now)) c.args.found.now c.add_fact-in-Iff.new.found c.add_fact-in-Iff-2.new.found (λ y. sym (ap (λ s. mentions s y) (ap (fact c.args.core.now.tables c.args.core.now.resources) c.in-Iff.is ∙ fact_Iff c.args.core.now.tables c.args.core.now.resources c.in-Iff.a c.in-Iff.b ∙ ap (λ z. Fact.iff (fact c.args.core.now.tables c.args.core.now.resources z) (fact c.args.core.now.tables c.args.core.now.resources c.in-Iff.b)) (sym c.get-in-Iff.ensures) ∙ ap (λ z. Fact.iff (fact c.args.core.now.tables c.args.core.now.resources c.get-in-Iff.result.now) (fact c.args.core.now.tables c.args.core.now.resources z)) (sym c.get-in-Iff-2.ensures)))) c.in_ok-add_fact-in-Iff.ensures c.add_fact-in-Iff-2.ensures

pub add_fact-returns-in-Not : goal.add_fact-returns-in-Not
add_fact-returns-in-Not t c =
    ok_same c.add_fact-in-Not.result (mentions (fact c.args.core.now.tables c.args.core.now.resources c.get-in-Not.result.now)) (mentions (fact c.args.core.now.tables c.args.core.now.resources c.args.c.now)) c.args.found.now c.add_fact-in-Not.new.found (λ y. sym (ap (λ s. mentions s y) (ap (fact c.args.core.now.tables c.args.core.now.resources) c.in-Not.is ∙ fact_Not c.args.core.now.tables c.args.core.now.resources c.in-Not.a ∙ ap (λ z. Fact.not (fact c.args.core.now.tables c.args.core.now.resources z)) (sym c.get-in-Not.ensures)))) c.add_fact-in-Not.ensures

pub add_fact-returns-in-AllDifferent : goal.add_fact-returns-in-AllDifferent
add_fact-returns-in-AllDifferent t c =
    ok_same c.add_terms.result (terms_mention (terms_of (map (term c.args.core.now.tables c.args.core.now.resources) c.as_slice-in-AllDifferent.result.now))) (mentions (fact c.args.core.now.tables c.args.core.now.resources c.args.c.now)) c.args.found.now c.add_terms.new.found (λ y. sym (ap (λ s. mentions s y) (ap (fact c.args.core.now.tables c.args.core.now.resources) c.in-AllDifferent.is ∙ fact_AllDifferent c.args.core.now.tables c.args.core.now.resources c.in-AllDifferent.parts ∙ ap (λ z. Fact.different (terms_of (map (term c.args.core.now.tables c.args.core.now.resources) z))) (sym c.as_slice-in-AllDifferent.ensures)))) c.add_terms.ensures

pub add_fact-returns-in-Capacity : goal.add_fact-returns-in-Capacity
add_fact-returns-in-Capacity t c =
    ok_same c.add_resource.result (resource_mentions (slice_get c.args.core.now.resources c.in-Capacity.resource)) (mentions (fact c.args.core.now.tables c.args.core.now.resources c.args.c.now)) c.args.found.now c.add_resource.new.found (λ y. in_capacity (slice_get c.args.core.now.resources c.in-Capacity.resource) c.in-Capacity._time y ∙ sym (ap (λ s. mentions s y) (ap (fact c.args.core.now.tables c.args.core.now.resources) c.in-Capacity.is ∙ fact_Capacity c.args.core.now.tables c.args.core.now.resources c.in-Capacity.resource c.in-Capacity._time))) c.add_resource.ensures

pub add_fact-returns-in-Bound : goal.add_fact-returns-in-Bound
add_fact-returns-in-Bound t c =
    ok_same c.add.result (λ y. nat_eq y c.in-Bound.x) (mentions (fact c.args.core.now.tables c.args.core.now.resources c.args.c.now)) c.args.found.now c.add.new.found (λ y. sym (ap (λ s. mentions s y) (ap (fact c.args.core.now.tables c.args.core.now.resources) c.in-Bound.is ∙ fact_Bound c.args.core.now.tables c.args.core.now.resources c.in-Bound.x))) c.add.ensures

pub add_terms-loop-part-init : goal.add_terms-loop-part-init
add_terms-loop-part-init t c =
    first_none (λ e. term_mentions (term c.args.core.now.tables c.args.core.now.resources e)) c.args.parts.now c.args.found.now

pub add_terms-loop-part-preserved : goal.add_terms-loop-part-preserved
add_terms-loop-part-preserved t c =
    first_next (λ e. term_mentions (term c.args.core.now.tables c.args.core.now.resources e)) c.args.parts.now c.loop-part.part-index c.part-item.result c.args.found.now c.loop-part.found c.add_term.new.found c.loop-part-test.true c.part-item.is c.loop-part.invariant c.in_ok-add_term.ensures

pub add_terms-returns : goal.add_terms-returns
add_terms-returns t c =
    first_all (λ e. term_mentions (term c.args.core.now.tables c.args.core.now.resources e)) (terms_mention (terms_of (map (term c.args.core.now.tables c.args.core.now.resources) c.args.parts.now))) c.args.parts.now c.loop-part.part-index c.args.found.now c.loop-part.found (any_terms (term c.args.core.now.tables c.args.core.now.resources) c.args.parts.now) c.loop-part-test.false c.loop-part.invariant

pub add_facts-loop-part-init : goal.add_facts-loop-part-init
add_facts-loop-part-init t c =
    first_none (λ e. mentions (fact c.args.core.now.tables c.args.core.now.resources e)) c.args.parts.now c.args.found.now

pub add_facts-loop-part-preserved : goal.add_facts-loop-part-preserved
add_facts-loop-part-preserved t c =
    first_next (λ e. mentions (fact c.args.core.now.tables c.args.core.now.resources e)) c.args.parts.now c.loop-part.part-index c.part-item.result c.args.found.now c.loop-part.found c.add_fact.new.found c.loop-part-test.true c.part-item.is c.loop-part.invariant c.in_ok-add_fact.ensures

pub add_facts-returns : goal.add_facts-returns
add_facts-returns t c =
    first_all (λ e. mentions (fact c.args.core.now.tables c.args.core.now.resources e)) (facts_mention (facts_of (map (fact c.args.core.now.tables c.args.core.now.resources) c.args.parts.now))) c.args.parts.now c.loop-part.part-index c.args.found.now c.loop-part.found (any_facts (fact c.args.core.now.tables c.args.core.now.resources) c.args.parts.now) c.loop-part-test.false c.loop-part.invariant
