-- Which item a term is.
use Rattle.std.proofs.Common.{◌≡◌, ℕ, ℤ, List, Option, None, Some, ap}
use Rattle.opl_tree.specs.declared.expression.AggregateOp.{AggregateOp}
use Rattle.opl_tree.specs.declared.expression.CallOp.{CallOp}
use Rattle.opl_tree.specs.declared.expression.QuestionOp.{QuestionOp}
use Rattle.opl_tree.specs.declared.expression.Relation.{Relation}
use Rattle.opl_term.specs.declared.term.FieldName.{FieldName}
use Rattle.opl_term.specs.declared.term.GroupTerm.{GroupTerm}
use Rattle.opl_term.specs.declared.term.SetTerm.{SetTerm}
use Rattle.opl_term.specs.declared.term.SetTerm.TheVariants as sets
use Rattle.opl_term.specs.declared.term.Step.{Step}
use Rattle.opl_term.specs.declared.term.Term.{Term}
use Rattle.opl_term.specs.declared.term.Term.TheVariants as terms
use Rattle.opl_eval.specs.Evaluation.{Environment, meaning, set_meaning, item_named, declaration_of}
use Rattle.opl_eval.proofs.Meanings as by

pub item-Number : (at : ℕ) (n : ℤ) (env : Environment) → (meaning (terms.Number at n)).item env ≡ None
item-Number at n env = ap (λ m. m.item env) (by.meaning-Number at n)

pub item-Named : (at : ℕ) (name : List ℕ) (env : Environment) → (meaning (terms.Named at name)).item env ≡ item_named name env
item-Named at name env = ap (λ m. m.item env) (by.meaning-Named at name)

pub item-Bracket : (at : ℕ) (t : Term) (env : Environment) → (meaning (terms.Bracket at t)).item env ≡ (meaning t).item env
item-Bracket at t env = ap (λ m. m.item env) (by.meaning-Bracket at t)

pub item-Negative : (at : ℕ) (t : Term) (env : Environment) → (meaning (terms.Negative at t)).item env ≡ None
item-Negative at t env = ap (λ m. m.item env) (by.meaning-Negative at t)

pub item-Chain : (at : ℕ) (t : Term) (ss : List Step) (env : Environment) → (meaning (terms.Chain at t ss)).item env ≡ None
item-Chain at t ss env = ap (λ m. m.item env) (by.meaning-Chain at t ss)

pub item-Related : (at : ℕ) (t : Term) (r : Relation) (u : Term) (env : Environment) → (meaning (terms.Related at t r u)).item env ≡ None
item-Related at t r u env = ap (λ m. m.item env) (by.meaning-Related at t r u)

pub item-Member : (at : ℕ) (t : Term) (s : SetTerm) (env : Environment) → (meaning (terms.Member at t s)).item env ≡ None
item-Member at t s env = ap (λ m. m.item env) (by.meaning-Member at t s)

pub item-Equivalent : (at : ℕ) (ts : List Term) (env : Environment) → (meaning (terms.Equivalent at ts)).item env ≡ None
item-Equivalent at ts env = ap (λ m. m.item env) (by.meaning-Equivalent at ts)

pub item-Implied : (at : ℕ) (t : Term) (u : Term) (env : Environment) → (meaning (terms.Implied at t u)).item env ≡ None
item-Implied at t u env = ap (λ m. m.item env) (by.meaning-Implied at t u)

pub item-Or : (at : ℕ) (ts : List Term) (env : Environment) → (meaning (terms.Or at ts)).item env ≡ None
item-Or at ts env = ap (λ m. m.item env) (by.meaning-Or at ts)

pub item-And : (at : ℕ) (ts : List Term) (env : Environment) → (meaning (terms.And at ts)).item env ≡ None
item-And at ts env = ap (λ m. m.item env) (by.meaning-And at ts)

pub item-Not : (at : ℕ) (t : Term) (env : Environment) → (meaning (terms.Not at t)).item env ≡ None
item-Not at t env = ap (λ m. m.item env) (by.meaning-Not at t)

pub item-Call : (at : ℕ) (op : CallOp) (t : Term) (env : Environment) → (meaning (terms.Call at op t)).item env ≡ None
item-Call at op t env = ap (λ m. m.item env) (by.meaning-Call at op t)

pub item-AllDifferent : (at : ℕ) (t : Term) (env : Environment) → (meaning (terms.AllDifferent at t)).item env ≡ None
item-AllDifferent at t env = ap (λ m. m.item env) (by.meaning-AllDifferent at t)

pub item-Question : (at : ℕ) (op : QuestionOp) (t : Term) (env : Environment) → (meaning (terms.Question at op t)).item env ≡ None
item-Question at op t env = ap (λ m. m.item env) (by.meaning-Question at op t)

pub item-Element : (at : ℕ) (t : Term) (ts : List Term) (env : Environment) → (meaning (terms.Element at t ts)).item env ≡ None
item-Element at t ts env = ap (λ m. m.item env) (by.meaning-Element at t ts)

pub item-Fields : (at : ℕ) (t : Term) (names : List FieldName) (env : Environment) → (meaning (terms.Fields at t names)).item env ≡ None
item-Fields at t names env = ap (λ m. m.item env) (by.meaning-Fields at t names)

pub item-Record : (at : ℕ) (ts : List Term) (env : Environment) → (meaning (terms.Record at ts)).item env ≡ None
item-Record at ts env = ap (λ m. m.item env) (by.meaning-Record at ts)

pub item-Listed : (at : ℕ) (ts : List Term) (env : Environment) → (meaning (terms.Listed at ts)).item env ≡ None
item-Listed at ts env = ap (λ m. m.item env) (by.meaning-Listed at ts)

pub item-Array : (at : ℕ) (ts : List Term) (env : Environment) → (meaning (terms.Array at ts)).item env ≡ None
item-Array at ts env = ap (λ m. m.item env) (by.meaning-Array at ts)

pub item-KeyedArray : (at : ℕ) (ts us : List Term) (env : Environment) → (meaning (terms.KeyedArray at ts us)).item env ≡ None
item-KeyedArray at ts us env = ap (λ m. m.item env) (by.meaning-KeyedArray at ts us)

pub item-Aggregate : (at : ℕ) (op : AggregateOp) (gs : List GroupTerm) (c : Option Term) (t : Term) (env : Environment) → (meaning (terms.Aggregate at op gs c t)).item env ≡ None
item-Aggregate at op gs None t env = ap (λ m. m.item env) (by.meaning-Aggregate at op gs t)
item-Aggregate at op gs (Some c) t env = ap (λ m. m.item env) (by.meaning-Aggregate_where at op gs c t)

pub item-Described : (at : ℕ) (t : Term) (gs : List GroupTerm) (c : Option Term) (env : Environment) → (meaning (terms.Described at t gs c)).item env ≡ None
item-Described at t gs None env = ap (λ m. m.item env) (by.meaning-Described at t gs)
item-Described at t gs (Some c) env = ap (λ m. m.item env) (by.meaning-Described_where at t gs c)

pub declaration-Whole : (t : Term) (env : Environment) → declaration_of ((set_meaning (sets.Whole t)).item env) ≡ declaration_of ((meaning t).item env)
declaration-Whole t env = ap (λ m. declaration_of (m.item env)) (by.set_meaning-Whole t)

pub declaration-Between : (t u : Term) (env : Environment) → declaration_of ((set_meaning (sets.Between t u)).item env) ≡ 0
declaration-Between t u env = ap (λ m. declaration_of (m.item env)) (by.set_meaning-Between t u)

pub ruleset items_of_terms = (item-Number, item-Named, item-Bracket, item-Negative, item-Chain, item-Related, item-Member, item-Equivalent, item-Implied, item-Or, item-And, item-Not, item-Call, item-AllDifferent, item-Question, item-Element, item-Fields, item-Record, item-Listed, item-Array, item-KeyedArray, item-Aggregate, item-Described)

pub ruleset items_of_sets = (declaration-Whole, declaration-Between)
