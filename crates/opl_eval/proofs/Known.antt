-- Terms with what they mean beside them, so that what an example comes to can be computed.
use Rattle.std.proofs.Common.{◌≡◌, ℕ, ℤ, List, [], ◌∷◌, map, None, Some, refl, ap, ◌∙◌}
use Rattle.opl_tree.specs.declared.expression.AggregateOp.{AggregateOp}
use Rattle.opl_tree.specs.declared.expression.CallOp.{CallOp}
use Rattle.opl_tree.specs.declared.expression.Relation.{Relation}
use Rattle.opl_term.specs.declared.term.FieldName.{FieldName}
use Rattle.opl_term.specs.declared.term.GroupTerm.{GroupTerm}
use Rattle.opl_term.specs.declared.term.GroupTerm.TheVariants as groups
use Rattle.opl_term.specs.declared.term.GroupTerm.TheOpen.{GroupTerm-F, SetTerm-F, Step-F, Term-F}
use Rattle.opl_term.specs.declared.term.Pattern.{Pattern}
use Rattle.opl_term.specs.declared.term.SetTerm.{SetTerm}
use Rattle.opl_term.specs.declared.term.SetTerm.TheVariants as sets
use Rattle.opl_term.specs.declared.term.Step.{Step}
use Rattle.opl_term.specs.declared.term.Step.TheVariants as steps
use Rattle.opl_term.specs.declared.term.Term.{Term}
use Rattle.opl_term.specs.declared.term.Term.TheVariants as terms
use Rattle.opl_value.specs.declared.value.Value.{Value}
use Rattle.opl_eval.specs.declared.arithmetic.Operation.{Operation}
use Rattle.opl_eval.specs.Evaluation.{Environment, Found, Group, Meaning, eval, meaning, step_meaning, set_meaning, group_meaning, term_layer, step_layer, set_layer, group_layer}
use Rattle.opl_eval.proofs.Meanings as by

pub record Known : Type 0 where
  pub term : Term
  pub means : Meaning
  pub is : meaning term ≡ means

pub record KnownStep : Type 0 where
  pub step : Step
  pub means : Environment → Found Operation
  pub is : step_meaning step ≡ means

pub record KnownSet : Type 0 where
  pub set : SetTerm
  pub means : Meaning
  pub is : set_meaning set ≡ means

pub record KnownGroup : Type 0 where
  pub group : GroupTerm
  pub means : Group
  pub is : group_meaning group ≡ means

pub terms_are : (ks : List Known) → map meaning (map (λ k. k.term) ks) ≡ map (λ k. k.means) ks
terms_are [] = refl
terms_are (k ∷ ks) = λ i. k.is i ∷ terms_are ks i

pub steps_are : (ks : List KnownStep) → map step_meaning (map (λ k. k.step) ks) ≡ map (λ k. k.means) ks
steps_are [] = refl
steps_are (k ∷ ks) = λ i. k.is i ∷ steps_are ks i

pub groups_are : (ks : List KnownGroup) → map group_meaning (map (λ k. k.group) ks) ≡ map (λ k. k.means) ks
groups_are [] = refl
groups_are (k ∷ ks) = λ i. k.is i ∷ groups_are ks i

abbrev pub number : ℕ → ℤ → Known
number at n = record {
  term = terms.Number at n;
  means = term_layer (Term-F.Number at n);
  is = by.meaning-Number at n ∙ (λ i. term_layer (Term-F.Number at n));
}

abbrev pub name : ℕ → List ℕ → Known
name at text = record {
  term = terms.Named at text;
  means = term_layer (Term-F.Named at text);
  is = by.meaning-Named at text ∙ (λ i. term_layer (Term-F.Named at text));
}

abbrev pub bracket : ℕ → Known → Known
bracket at a = record {
  term = terms.Bracket at a.term;
  means = term_layer (Term-F.Bracket at a.means);
  is = by.meaning-Bracket at a.term ∙ (λ i. term_layer (Term-F.Bracket at (a.is i)));
}

abbrev pub negative : ℕ → Known → Known
negative at a = record {
  term = terms.Negative at a.term;
  means = term_layer (Term-F.Negative at a.means);
  is = by.meaning-Negative at a.term ∙ (λ i. term_layer (Term-F.Negative at (a.is i)));
}

abbrev pub chain : ℕ → Known → List KnownStep → Known
chain at a ss = record {
  term = terms.Chain at a.term (map (λ k. k.step) ss);
  means = term_layer (Term-F.Chain at a.means (map (λ k. k.means) ss));
  is = by.meaning-Chain at a.term (map (λ k. k.step) ss) ∙ (λ i. term_layer (Term-F.Chain at (a.is i) (steps_are ss i)));
}

abbrev pub related : ℕ → Known → Relation → Known → Known
related at a r b = record {
  term = terms.Related at a.term r b.term;
  means = term_layer (Term-F.Related at a.means r b.means);
  is = by.meaning-Related at a.term r b.term ∙ (λ i. term_layer (Term-F.Related at (a.is i) r (b.is i)));
}

abbrev pub member : ℕ → Known → KnownSet → Known
member at a s = record {
  term = terms.Member at a.term s.set;
  means = term_layer (Term-F.Member at a.means s.means);
  is = by.meaning-Member at a.term s.set ∙ (λ i. term_layer (Term-F.Member at (a.is i) (s.is i)));
}

abbrev pub conjunction : ℕ → List Known → Known
conjunction at others = record {
  term = terms.And at (map (λ k. k.term) others);
  means = term_layer (Term-F.And at (map (λ k. k.means) others));
  is = by.meaning-And at (map (λ k. k.term) others) ∙ (λ i. term_layer (Term-F.And at (terms_are others i)));
}

abbrev pub aggregate : ℕ → AggregateOp → List KnownGroup → Known → Known
aggregate at op gs a = record {
  term = terms.Aggregate at op (map (λ k. k.group) gs) None a.term;
  means = term_layer (Term-F.Aggregate at op (map (λ k. k.means) gs) None a.means);
  is = by.meaning-Aggregate at op (map (λ k. k.group) gs) a.term ∙ (λ i. term_layer (Term-F.Aggregate at op (groups_are gs i) None (a.is i)));
}

abbrev pub aggregate_where : ℕ → AggregateOp → List KnownGroup → Known → Known → Known
aggregate_where at op gs c a = record {
  term = terms.Aggregate at op (map (λ k. k.group) gs) (Some c.term) a.term;
  means = term_layer (Term-F.Aggregate at op (map (λ k. k.means) gs) (Some c.means) a.means);
  is = by.meaning-Aggregate_where at op (map (λ k. k.group) gs) c.term a.term ∙ (λ i. term_layer (Term-F.Aggregate at op (groups_are gs i) (Some (c.is i)) (a.is i)));
}

abbrev pub call : ℕ → CallOp → Known → Known
call at op a = record {
  term = terms.Call at op a.term;
  means = term_layer (Term-F.Call at op a.means);
  is = by.meaning-Call at op a.term ∙ (λ i. term_layer (Term-F.Call at op (a.is i)));
}

abbrev pub element : ℕ → Known → List Known → Known
element at a others = record {
  term = terms.Element at a.term (map (λ k. k.term) others);
  means = term_layer (Term-F.Element at a.means (map (λ k. k.means) others));
  is = by.meaning-Element at a.term (map (λ k. k.term) others) ∙ (λ i. term_layer (Term-F.Element at (a.is i) (terms_are others i)));
}

abbrev pub fields : ℕ → Known → List FieldName → Known
fields at a names = record {
  term = terms.Fields at a.term names;
  means = term_layer (Term-F.Fields at a.means names);
  is = by.meaning-Fields at a.term names ∙ (λ i. term_layer (Term-F.Fields at (a.is i) names));
}

abbrev pub tuple : ℕ → List Known → Known
tuple at others = record {
  term = terms.Record at (map (λ k. k.term) others);
  means = term_layer (Term-F.Record at (map (λ k. k.means) others));
  is = by.meaning-Record at (map (λ k. k.term) others) ∙ (λ i. term_layer (Term-F.Record at (terms_are others i)));
}

abbrev pub listed : ℕ → List Known → Known
listed at others = record {
  term = terms.Listed at (map (λ k. k.term) others);
  means = term_layer (Term-F.Listed at (map (λ k. k.means) others));
  is = by.meaning-Listed at (map (λ k. k.term) others) ∙ (λ i. term_layer (Term-F.Listed at (terms_are others i)));
}

abbrev pub described : ℕ → Known → List KnownGroup → Known
described at a gs = record {
  term = terms.Described at a.term (map (λ k. k.group) gs) None;
  means = term_layer (Term-F.Described at a.means (map (λ k. k.means) gs) None);
  is = by.meaning-Described at a.term (map (λ k. k.group) gs) ∙ (λ i. term_layer (Term-F.Described at (a.is i) (groups_are gs i) None));
}

abbrev pub plus : Known → KnownStep
plus a = record {
  step = steps.Plus a.term;
  means = step_layer (Step-F.Plus a.means);
  is = (λ i env. by.step_meaning-Plus a.term env i) ∙ (λ i. step_layer (Step-F.Plus (a.is i)));
}

abbrev pub minus : Known → KnownStep
minus a = record {
  step = steps.Minus a.term;
  means = step_layer (Step-F.Minus a.means);
  is = (λ i env. by.step_meaning-Minus a.term env i) ∙ (λ i. step_layer (Step-F.Minus (a.is i)));
}

abbrev pub times : Known → KnownStep
times a = record {
  step = steps.Times a.term;
  means = step_layer (Step-F.Times a.means);
  is = (λ i env. by.step_meaning-Times a.term env i) ∙ (λ i. step_layer (Step-F.Times (a.is i)));
}

abbrev pub quotient : Known → KnownStep
quotient a = record {
  step = steps.Quotient a.term;
  means = step_layer (Step-F.Quotient a.means);
  is = (λ i env. by.step_meaning-Quotient a.term env i) ∙ (λ i. step_layer (Step-F.Quotient (a.is i)));
}

abbrev pub remainder : Known → KnownStep
remainder a = record {
  step = steps.Remainder a.term;
  means = step_layer (Step-F.Remainder a.means);
  is = (λ i env. by.step_meaning-Remainder a.term env i) ∙ (λ i. step_layer (Step-F.Remainder (a.is i)));
}

abbrev pub whole : Known → KnownSet
whole a = record {
  set = sets.Whole a.term;
  means = set_layer (SetTerm-F.Whole a.means);
  is = by.set_meaning-Whole a.term ∙ (λ i. set_layer (SetTerm-F.Whole (a.is i)));
}

abbrev pub between : Known → Known → KnownSet
between a b = record {
  set = sets.Between a.term b.term;
  means = set_layer (SetTerm-F.Between a.means b.means);
  is = by.set_meaning-Between a.term b.term ∙ (λ i. set_layer (SetTerm-F.Between (a.is i) (b.is i)));
}

abbrev pub unordered : List Pattern → KnownSet → KnownGroup
unordered ps s = record {
  group = groups.Unordered ps s.set;
  means = group_layer (GroupTerm-F.Unordered ps s.means);
  is = by.group_meaning-Unordered ps s.set ∙ (λ i. group_layer (GroupTerm-F.Unordered ps (s.is i)));
}

abbrev pub ordered : List Pattern → KnownSet → KnownGroup
ordered ps s = record {
  group = groups.Ordered ps s.set;
  means = group_layer (GroupTerm-F.Ordered ps s.means);
  is = by.group_meaning-Ordered ps s.set ∙ (λ i. group_layer (GroupTerm-F.Ordered ps (s.is i)));
}

-- a term comes to this
pub record ComesTo (k : Known) (env : Environment) (r : Found Value) : Type 0 where
  pub comes : eval k.term env ≡ r

pub computed : (k : Known) (env : Environment) (r : Found Value) → k.means.value env ≡ r → ComesTo k env r
computed k env r e = record { comes = ap (λ m. m.value env) k.is ∙ e }
