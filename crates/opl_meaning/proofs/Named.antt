-- Where decision variables are named in each form of terms, and which forms run as conditions.
use Rattle.std.proofs.Common.{◌≡◌, ◌||◌, ℕ, ℤ, Bool, true, false, List, map, Option, None, Some, refl, sym, ap, ◌∙◌}
use Rattle.std.specs.Option.{option_map}
use Rattle.opl_tree.specs.declared.expression.AggregateOp.{AggregateOp}
use Rattle.opl_tree.specs.declared.expression.CallOp.{CallOp}
use Rattle.opl_tree.specs.declared.expression.QuestionOp.{QuestionOp}
use Rattle.opl_tree.specs.declared.expression.Relation.{Relation}
use Rattle.opl_term.specs.declared.term.FieldName.{FieldName}
use Rattle.opl_term.specs.declared.term.GroupTerm.{GroupTerm}
use Rattle.opl_term.specs.declared.term.GroupTerm.TheVariants as groups
use Rattle.opl_term.specs.declared.term.GroupTerm.TheOpen.{Term-F}
use Rattle.opl_term.specs.declared.term.Pattern.{Pattern}
use Rattle.opl_term.specs.declared.term.SetTerm.{SetTerm}
use Rattle.opl_term.specs.declared.term.SetTerm.TheVariants as sets
use Rattle.opl_term.specs.declared.term.Step.{Step}
use Rattle.opl_term.specs.declared.term.Step.TheVariants as steps
use Rattle.opl_term.specs.declared.term.Term.{Term}
use Rattle.opl_term.specs.declared.term.Term.TheVariants as terms
use Rattle.opl_meaning.specs.Runs.{Names, any, any_mentioned, group_use, is_among, mentioned_or, no_names, set_use, step_use, use_layer, use_of}
use Rattle.opl_meaning.specs.Uses.{place_of}
use Rattle.opl_meaning.proofs.Uses as by

-- ---- what each form is

pub use-Aggregate : (names : Names) (at : ℕ) (op : AggregateOp) (gs : List GroupTerm) (c : Option Term) (t : Term) → use_of names (terms.Aggregate at op gs c t) ≡ use_layer names (Term-F.Aggregate at op (map (group_use names) gs) (option_map (use_of names) c) (use_of names t))
use-Aggregate names at op gs None t = by.use_of-Aggregate names at op gs t
use-Aggregate names at op gs (Some c) t = by.use_of-Aggregate_where names at op gs c t

pub use-Described : (names : Names) (at : ℕ) (t : Term) (gs : List GroupTerm) (c : Option Term) → use_of names (terms.Described at t gs c) ≡ use_layer names (Term-F.Described at (use_of names t) (map (group_use names) gs) (option_map (use_of names) c))
use-Described names at t gs None = by.use_of-Described names at t gs
use-Described names at t gs (Some c) = by.use_of-Described_where names at t gs c

-- ---- where decision variables are named

either-turn : (a b c : Bool) → ((a || b) || c) ≡ ((b || c) || a)
either-turn true true c = refl
either-turn true false true = refl
either-turn true false false = refl
either-turn false true c = refl
either-turn false false true = refl
either-turn false false false = refl

pub mentioned-Number : (names : Names) (at : ℕ) (n : ℤ) → (use_of names (terms.Number at n)).is_mentioned ≡ false
mentioned-Number names at n = ap (λ u. u.is_mentioned) (by.use_of-Number names at n)

pub mentioned-Named : (names : Names) (at : ℕ) (name : List ℕ) → (use_of names (terms.Named at name)).is_mentioned ≡ is_among names.all name
mentioned-Named names at name = ap (λ u. u.is_mentioned) (by.use_of-Named names at name)

pub mentioned-Bracket : (names : Names) (at : ℕ) (t : Term) → (use_of names (terms.Bracket at t)).is_mentioned ≡ (use_of names t).is_mentioned
mentioned-Bracket names at t = ap (λ u. u.is_mentioned) (by.use_of-Bracket names at t)

pub mentioned-Negative : (names : Names) (at : ℕ) (t : Term) → (use_of names (terms.Negative at t)).is_mentioned ≡ (use_of names t).is_mentioned
mentioned-Negative names at t = ap (λ u. u.is_mentioned) (by.use_of-Negative names at t)

pub mentioned-Chain : (names : Names) (at : ℕ) (t : Term) (ss : List Step) → (use_of names (terms.Chain at t ss)).is_mentioned ≡ ((use_of names t).is_mentioned || any (map (step_use names) ss))
mentioned-Chain names at t ss = ap (λ u. u.is_mentioned) (by.use_of-Chain names at t ss)

pub mentioned-Related : (names : Names) (at : ℕ) (t : Term) (r : Relation) (u : Term) → (use_of names (terms.Related at t r u)).is_mentioned ≡ ((use_of names t).is_mentioned || (use_of names u).is_mentioned)
mentioned-Related names at t r u = ap (λ u. u.is_mentioned) (by.use_of-Related names at t r u)

pub mentioned-Member : (names : Names) (at : ℕ) (t : Term) (s : SetTerm) → (use_of names (terms.Member at t s)).is_mentioned ≡ ((use_of names t).is_mentioned || set_use names s)
mentioned-Member names at t s = ap (λ u. u.is_mentioned) (by.use_of-Member names at t s)

pub mentioned-Equivalent : (names : Names) (at : ℕ) (ts : List Term) → (use_of names (terms.Equivalent at ts)).is_mentioned ≡ any_mentioned (map (use_of names) ts)
mentioned-Equivalent names at ts = ap (λ u. u.is_mentioned) (by.use_of-Equivalent names at ts)

pub mentioned-Implied : (names : Names) (at : ℕ) (t : Term) (u : Term) → (use_of names (terms.Implied at t u)).is_mentioned ≡ ((use_of names t).is_mentioned || (use_of names u).is_mentioned)
mentioned-Implied names at t u = ap (λ u. u.is_mentioned) (by.use_of-Implied names at t u)

pub mentioned-Or : (names : Names) (at : ℕ) (ts : List Term) → (use_of names (terms.Or at ts)).is_mentioned ≡ any_mentioned (map (use_of names) ts)
mentioned-Or names at ts = ap (λ u. u.is_mentioned) (by.use_of-Or names at ts)

pub mentioned-And : (names : Names) (at : ℕ) (ts : List Term) → (use_of names (terms.And at ts)).is_mentioned ≡ any_mentioned (map (use_of names) ts)
mentioned-And names at ts = ap (λ u. u.is_mentioned) (by.use_of-And names at ts)

pub mentioned-Not : (names : Names) (at : ℕ) (t : Term) → (use_of names (terms.Not at t)).is_mentioned ≡ (use_of names t).is_mentioned
mentioned-Not names at t = ap (λ u. u.is_mentioned) (by.use_of-Not names at t)

pub mentioned-Aggregate : (names : Names) (at : ℕ) (op : AggregateOp) (gs : List GroupTerm) (c : Option Term) (t : Term) → (use_of names (terms.Aggregate at op gs c t)).is_mentioned ≡ ((any (map (group_use names) gs) || mentioned_or (option_map (use_of names) c)) || (use_of names t).is_mentioned)
mentioned-Aggregate names at op gs c t = ap (λ u. u.is_mentioned) (use-Aggregate names at op gs c t)

pub mentioned-Call : (names : Names) (at : ℕ) (op : CallOp) (t : Term) → (use_of names (terms.Call at op t)).is_mentioned ≡ (use_of names t).is_mentioned
mentioned-Call names at op t = ap (λ u. u.is_mentioned) (by.use_of-Call names at op t)

pub mentioned-AllDifferent : (names : Names) (at : ℕ) (t : Term) → (use_of names (terms.AllDifferent at t)).is_mentioned ≡ (use_of names t).is_mentioned
mentioned-AllDifferent names at t = ap (λ u. u.is_mentioned) (by.use_of-AllDifferent names at t)

pub mentioned-Question : (names : Names) (at : ℕ) (op : QuestionOp) (t : Term) → (use_of names (terms.Question at op t)).is_mentioned ≡ (use_of names t).is_mentioned
mentioned-Question names at op t = ap (λ u. u.is_mentioned) (by.use_of-Question names at op t)

pub mentioned-Element : (names : Names) (at : ℕ) (t : Term) (ts : List Term) → (use_of names (terms.Element at t ts)).is_mentioned ≡ ((use_of names t).is_mentioned || any_mentioned (map (use_of names) ts))
mentioned-Element names at t ts = ap (λ u. u.is_mentioned) (by.use_of-Element names at t ts)

pub mentioned-Fields : (names : Names) (at : ℕ) (t : Term) (fs : List FieldName) → (use_of names (terms.Fields at t fs)).is_mentioned ≡ (use_of names t).is_mentioned
mentioned-Fields names at t fs = ap (λ u. u.is_mentioned) (by.use_of-Fields names at t fs)

pub mentioned-Record : (names : Names) (at : ℕ) (ts : List Term) → (use_of names (terms.Record at ts)).is_mentioned ≡ any_mentioned (map (use_of names) ts)
mentioned-Record names at ts = ap (λ u. u.is_mentioned) (by.use_of-Record names at ts)

pub mentioned-Listed : (names : Names) (at : ℕ) (ts : List Term) → (use_of names (terms.Listed at ts)).is_mentioned ≡ any_mentioned (map (use_of names) ts)
mentioned-Listed names at ts = ap (λ u. u.is_mentioned) (by.use_of-Listed names at ts)

pub mentioned-Described : (names : Names) (at : ℕ) (t : Term) (gs : List GroupTerm) (c : Option Term) → (use_of names (terms.Described at t gs c)).is_mentioned ≡ ((any (map (group_use names) gs) || mentioned_or (option_map (use_of names) c)) || (use_of names t).is_mentioned)
mentioned-Described names at t gs c = ap (λ u. u.is_mentioned) (use-Described names at t gs c) ∙ either-turn (use_of names t).is_mentioned (any (map (group_use names) gs)) (mentioned_or (option_map (use_of names) c))

pub mentioned-Array : (names : Names) (at : ℕ) (ts : List Term) → (use_of names (terms.Array at ts)).is_mentioned ≡ any_mentioned (map (use_of names) ts)
mentioned-Array names at ts = ap (λ u. u.is_mentioned) (by.use_of-Array names at ts)

pub mentioned-KeyedArray : (names : Names) (at : ℕ) (ts : List Term) (us : List Term) → (use_of names (terms.KeyedArray at ts us)).is_mentioned ≡ (any_mentioned (map (use_of names) ts) || any_mentioned (map (use_of names) us))
mentioned-KeyedArray names at ts us = ap (λ u. u.is_mentioned) (by.use_of-KeyedArray names at ts us)

pub mentioned-Plus : (names : Names) (t : Term) → step_use names (steps.Plus t) ≡ (use_of names t).is_mentioned
mentioned-Plus names t = by.step_use-Plus names t

pub mentioned-Minus : (names : Names) (t : Term) → step_use names (steps.Minus t) ≡ (use_of names t).is_mentioned
mentioned-Minus names t = by.step_use-Minus names t

pub mentioned-Times : (names : Names) (t : Term) → step_use names (steps.Times t) ≡ (use_of names t).is_mentioned
mentioned-Times names t = by.step_use-Times names t

pub mentioned-Quotient : (names : Names) (t : Term) → step_use names (steps.Quotient t) ≡ (use_of names t).is_mentioned
mentioned-Quotient names t = by.step_use-Quotient names t

pub mentioned-Remainder : (names : Names) (t : Term) → step_use names (steps.Remainder t) ≡ (use_of names t).is_mentioned
mentioned-Remainder names t = by.step_use-Remainder names t

pub mentioned-Whole : (names : Names) (t : Term) → set_use names (sets.Whole t) ≡ (use_of names t).is_mentioned
mentioned-Whole names t = by.set_use-Whole names t

pub mentioned-Between : (names : Names) (t u : Term) → set_use names (sets.Between t u) ≡ ((use_of names t).is_mentioned || (use_of names u).is_mentioned)
mentioned-Between names t u = by.set_use-Between names t u

pub mentioned-Unordered : (names : Names) (ps : List Pattern) (s : SetTerm) → group_use names (groups.Unordered ps s) ≡ set_use names s
mentioned-Unordered names ps s = by.group_use-Unordered names ps s

pub mentioned-Ordered : (names : Names) (ps : List Pattern) (s : SetTerm) → group_use names (groups.Ordered ps s) ≡ set_use names s
mentioned-Ordered names ps s = by.group_use-Ordered names ps s

pub ruleset mentions = (mentioned-Number, mentioned-Named, mentioned-Bracket, mentioned-Negative, mentioned-Chain, mentioned-Related, mentioned-Member, mentioned-Equivalent, mentioned-Implied, mentioned-Or, mentioned-And, mentioned-Not, mentioned-Aggregate, mentioned-Call, mentioned-AllDifferent, mentioned-Question, mentioned-Element, mentioned-Fields, mentioned-Record, mentioned-Listed, mentioned-Described, mentioned-Array, mentioned-KeyedArray, mentioned-Plus, mentioned-Minus, mentioned-Times, mentioned-Quotient, mentioned-Remainder, mentioned-Whole, mentioned-Between, mentioned-Unordered, mentioned-Ordered)

-- what is found of the parts of `{a | GROUPS : c}`
pub described-is : (names : Names) (term : Term) (at : ℕ) (t u : Term) (gs hs : List GroupTerm) (c : Option Term) (g h m r : Bool) →
    term ≡ terms.Described at t gs c → hs ≡ gs → u ≡ t → g ≡ any (map (group_use names) hs) → h ≡ mentioned_or (option_map (use_of names) c) →
    m ≡ (use_of names u).is_mentioned → r ≡ ((g || h) || m) → r ≡ (use_of names term).is_mentioned
described-is names term at t u gs hs c g h m r e p q eg eh em er =
    let fg : g ≡ any (map (group_use names) gs) = eg ∙ ap (λ xs. any (map (group_use names) xs)) p in
    let fm : m ≡ (use_of names t).is_mentioned = em ∙ ap (λ x. (use_of names x).is_mentioned) q in
    er ∙ (λ i. (fg i || eh i) || fm i) ∙ sym (mentioned-Described names at t gs c) ∙ sym (ap (λ x. (use_of names x).is_mentioned) e)

-- ---- their places

pub place-Number : (at : ℕ) (n : ℤ) → place_of (terms.Number at n) ≡ at
unfolding place_of
place-Number at n = ap (λ u. u.at) (by.use_of-Number no_names at n)

pub place-Named : (at : ℕ) (name : List ℕ) → place_of (terms.Named at name) ≡ at
unfolding place_of
place-Named at name = ap (λ u. u.at) (by.use_of-Named no_names at name)

pub place-Bracket : (at : ℕ) (t : Term) → place_of (terms.Bracket at t) ≡ at
unfolding place_of
place-Bracket at t = ap (λ u. u.at) (by.use_of-Bracket no_names at t)

pub place-Negative : (at : ℕ) (t : Term) → place_of (terms.Negative at t) ≡ at
unfolding place_of
place-Negative at t = ap (λ u. u.at) (by.use_of-Negative no_names at t)

pub place-Chain : (at : ℕ) (t : Term) (ss : List Step) → place_of (terms.Chain at t ss) ≡ at
unfolding place_of
place-Chain at t ss = ap (λ u. u.at) (by.use_of-Chain no_names at t ss)

pub place-Related : (at : ℕ) (t : Term) (r : Relation) (u : Term) → place_of (terms.Related at t r u) ≡ at
unfolding place_of
place-Related at t r u = ap (λ u. u.at) (by.use_of-Related no_names at t r u)

pub place-Member : (at : ℕ) (t : Term) (s : SetTerm) → place_of (terms.Member at t s) ≡ at
unfolding place_of
place-Member at t s = ap (λ u. u.at) (by.use_of-Member no_names at t s)

pub place-Equivalent : (at : ℕ) (ts : List Term) → place_of (terms.Equivalent at ts) ≡ at
unfolding place_of
place-Equivalent at ts = ap (λ u. u.at) (by.use_of-Equivalent no_names at ts)

pub place-Implied : (at : ℕ) (t : Term) (u : Term) → place_of (terms.Implied at t u) ≡ at
unfolding place_of
place-Implied at t u = ap (λ u. u.at) (by.use_of-Implied no_names at t u)

pub place-Or : (at : ℕ) (ts : List Term) → place_of (terms.Or at ts) ≡ at
unfolding place_of
place-Or at ts = ap (λ u. u.at) (by.use_of-Or no_names at ts)

pub place-And : (at : ℕ) (ts : List Term) → place_of (terms.And at ts) ≡ at
unfolding place_of
place-And at ts = ap (λ u. u.at) (by.use_of-And no_names at ts)

pub place-Not : (at : ℕ) (t : Term) → place_of (terms.Not at t) ≡ at
unfolding place_of
place-Not at t = ap (λ u. u.at) (by.use_of-Not no_names at t)

pub place-Aggregate : (at : ℕ) (op : AggregateOp) (gs : List GroupTerm) (c : Option Term) (t : Term) → place_of (terms.Aggregate at op gs c t) ≡ at
unfolding place_of
place-Aggregate at op gs c t = ap (λ u. u.at) (use-Aggregate no_names at op gs c t)

pub place-Call : (at : ℕ) (op : CallOp) (t : Term) → place_of (terms.Call at op t) ≡ at
unfolding place_of
place-Call at op t = ap (λ u. u.at) (by.use_of-Call no_names at op t)

pub place-AllDifferent : (at : ℕ) (t : Term) → place_of (terms.AllDifferent at t) ≡ at
unfolding place_of
place-AllDifferent at t = ap (λ u. u.at) (by.use_of-AllDifferent no_names at t)

pub place-Question : (at : ℕ) (op : QuestionOp) (t : Term) → place_of (terms.Question at op t) ≡ at
unfolding place_of
place-Question at op t = ap (λ u. u.at) (by.use_of-Question no_names at op t)

pub place-Element : (at : ℕ) (t : Term) (ts : List Term) → place_of (terms.Element at t ts) ≡ at
unfolding place_of
place-Element at t ts = ap (λ u. u.at) (by.use_of-Element no_names at t ts)

pub place-Fields : (at : ℕ) (t : Term) (fs : List FieldName) → place_of (terms.Fields at t fs) ≡ at
unfolding place_of
place-Fields at t fs = ap (λ u. u.at) (by.use_of-Fields no_names at t fs)

pub place-Record : (at : ℕ) (ts : List Term) → place_of (terms.Record at ts) ≡ at
unfolding place_of
place-Record at ts = ap (λ u. u.at) (by.use_of-Record no_names at ts)

pub place-Listed : (at : ℕ) (ts : List Term) → place_of (terms.Listed at ts) ≡ at
unfolding place_of
place-Listed at ts = ap (λ u. u.at) (by.use_of-Listed no_names at ts)

pub place-Described : (at : ℕ) (t : Term) (gs : List GroupTerm) (c : Option Term) → place_of (terms.Described at t gs c) ≡ at
unfolding place_of
place-Described at t gs c = ap (λ u. u.at) (use-Described no_names at t gs c)

pub place-Array : (at : ℕ) (ts : List Term) → place_of (terms.Array at ts) ≡ at
unfolding place_of
place-Array at ts = ap (λ u. u.at) (by.use_of-Array no_names at ts)

pub place-KeyedArray : (at : ℕ) (ts : List Term) (us : List Term) → place_of (terms.KeyedArray at ts us) ≡ at
unfolding place_of
place-KeyedArray at ts us = ap (λ u. u.at) (by.use_of-KeyedArray no_names at ts us)

pub ruleset places = (place-Number, place-Named, place-Bracket, place-Negative, place-Chain, place-Related, place-Member, place-Equivalent, place-Implied, place-Or, place-And, place-Not, place-Aggregate, place-Call, place-AllDifferent, place-Question, place-Element, place-Fields, place-Record, place-Listed, place-Described, place-Array, place-KeyedArray)
