-- What one more declaration adds, as the program keeps it.
use Rattle.std.proofs.Common.{◌≡◌, ◌⊎◌, inl, inr, ℕ, ℤ, Bool, List, [], Ok, ap}
use Rattle.opl_tree.specs.declared.declaration.ActivityTree.{ActivityTree}
use Rattle.opl_tree.specs.declared.declaration.DeclTree.{DeclTree}
use Rattle.opl_tree.specs.declared.declaration.DeclTree.TheVariants as decls
use Rattle.opl_tree.specs.declared.declaration.DiscreteTree.{DiscreteTree}
use Rattle.opl_tree.specs.declared.declaration.EnumNamesTree.TheVariants as names
use Rattle.opl_tree.specs.declared.declaration.ScheduleTree.{ScheduleTree}
use Rattle.opl_tree.specs.declared.declaration.UnaryTree.{UnaryTree}
use Rattle.opl_tree.specs.declared.declaration.VariableTree.{VariableTree}
use Rattle.opl_tree.specs.declared.expression.NameTree.{NameTree}
use Rattle.opl_value.specs.declared.value.Value.{Value}
use Rattle.opl_value.specs.declared.value.Value.TheVariants as values
use Rattle.opl_eval.specs.Evaluation.{Environment, declared}
use Rattle.opl_given.specs.declared.assigned.Override.{Override}
use Rattle.opl_given.specs.Given.{Given}
use Rattle.opl_bind.specs.Bind.{Data, with_decl, with_ends, with_known, with_listed, with_names, with_value, with_values}
use Rattle.opl_given.specs.Forms.{Known, number_of, with_declaration, with_enumeration, with_range}
use Rattle.opl_given.specs.Names.{Text}

abbrev both : Known → Environment → Data
both known environment = record { known = known; environment = environment }

pub value-kept : (k l : Known) (d e : Environment) (name : Text) (v : Value) →
    l ≡ with_declaration [] [] k → e ≡ declared name v 0 d → both l e ≡ with_value name v (both k d)
unfolding with_value
value-kept k l d e name v p q = λ i. both (p i) (q i)

pub ends-kept : (k l : Known) (d e : Environment) (name : Text) (low high : ℤ) →
    l ≡ with_range name low high k → e ≡ declared name (values.Range low high) 0 d → both l e ≡ with_ends name low high (both k d)
unfolding with_ends
ends-kept k l d e name low high p q = λ i. both (p i) (q i)

pub names-kept : (k l : Known) (d e : Environment) (name : Text) (ns : List Text) →
    l ≡ with_enumeration name ns k → e ≡ declared name (values.Names ns) (number_of k) d → both l e ≡ with_names name ns (both k d)
unfolding with_names
names-kept k l d e name ns p q = λ i. both (p i) (q i)

pub known-kept : (k l : Known) (d : Environment) → both l d ≡ with_known l (both k d)
unfolding with_known
known-kept k l d = λ i. both l d

pub listed-kept : (k l : Known) (d e : Environment) (at : ℕ) (first : NameTree) (rest : List NameTree) (ns : List Text) →
    (l ≡ k) × (e ≡ with_values (number_of k) 0 ns d) → both l e ≡ with_listed (names.Listed at first rest) ns (both k d)
unfolding with_listed
listed-kept k l d e at first rest ns p = λ i. both (p.0 i) (p.1 i)

pub unlisted-kept : (k : Known) (d : Environment) (at : ℕ) (is_written : Bool) (ns : List Text) → both k d ≡ with_listed (names.External at is_written) ns (both k d)
unfolding with_listed
unlisted-kept k d at is_written ns = λ i. both k d

pub ruleset kept = (value-kept, ends-kept, names-kept, known-kept, listed-kept, unlisted-kept)

-- a declaration that is no data
abbrev IsNoData : DeclTree → Type 0
IsNoData u = ((t : VariableTree) × (u ≡ decls.Variable t)) ⊎ (((t : ActivityTree) × (u ≡ decls.Activity t)) ⊎ (((t : UnaryTree) × (u ≡ decls.Unary t)) ⊎ (((t : DiscreteTree) × (u ≡ decls.Discrete t)) ⊎ ((t : ScheduleTree) × (u ≡ decls.Schedule t)))))

pub decl-none : (given : Given) (os : List Override) (u : DeclTree) (d : Data) → IsNoData u → with_decl given os u d ≡ Ok (with_known (with_declaration [] [] d.known) d)
decl-none given os u d (inl h) = ap (λ t. with_decl given os t d) h.1
decl-none given os u d (inr (inl h)) = ap (λ t. with_decl given os t d) h.1
decl-none given os u d (inr (inr (inl h))) = ap (λ t. with_decl given os t d) h.1
decl-none given os u d (inr (inr (inr (inl h)))) = ap (λ t. with_decl given os t d) h.1
decl-none given os u d (inr (inr (inr (inr h)))) = ap (λ t. with_decl given os t d) h.1
