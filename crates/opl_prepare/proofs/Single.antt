-- Models and data files come to at most one outcome.
use Rattle.std.proofs.Common.{◌≡◌, refl, sym, ap, ◌∙◌, true, false, List, Option, Some, None, Result, Ok, Err, inl}
use Rattle.opl_bind.specs.Bind.{Data}
use Rattle.opl_data.specs.declared.tree.DataTree.{DataTree}
use Rattle.opl_meaning.specs.declared.variable.VariableItem.{VariableItem}
use Rattle.opl_tree.specs.declared.model.ModelTree.{ModelTree}
use Rattle.opl_files.specs.declared.refusal.Fault.TheVariants.{NotYet}
use Rattle.opl_files.specs.declared.refusal.Refusal.{Refusal}
use Rattle.opl_files.specs.declared.refusal.Refusal.TheVariants.{At}
use Rattle.opl_files.proofs.StageLemmas.{IsOne, only_one, then_one}
use Rattle.opl_prepare.specs.Data.{Comes, Declared, Grounded, IsClean, Prepared, Runs, Tested, subject_of}

comes_one : {A E : Type 0} (refusal : E → Option Refusal) (made : Result A E) → IsOne (Comes refusal made)
comes_one {A} {E} refusal made (Ok a) (Ok b) p q = let e : ◌≡◌ {A = Result A E} (Ok a) (Ok b) = sym p ∙ q in let same : a ≡ b = cc in ap Ok same
comes_one {A} {E} refusal made (Ok a) (Err e) p q = let no : ◌≡◌ {A = Result A E} (Ok a) (Err q.0) = sym p ∙ q.2 in absurd (cc)
comes_one {A} {E} refusal made (Err e) (Ok b) p q = let no : ◌≡◌ {A = Result A E} (Ok b) (Err p.0) = sym q ∙ p.2 in absurd (cc)
comes_one {A} {E} refusal made (Err e) (Err f) p q =
    let both : ◌≡◌ {A = Result A E} (Err p.0) (Err q.0) = sym p.2 ∙ q.2 in
    let same : p.0 ≡ q.0 = cc in
    let told : Some e ≡ Some f = sym p.1 ∙ (ap refusal same ∙ q.1) in
    let one : e ≡ f = cc in ap Err one

runs_one : (tree : ModelTree) → IsOne (Runs tree)
runs_one tree (Ok u) (Ok v) p q = refl
runs_one tree (Ok u) (Err e) p q = let no : None ≡ Some q.0 = sym p ∙ q.2 in absurd (cc)
runs_one tree (Err e) (Ok v) p q = let no : None ≡ Some p.0 = sym q ∙ p.2 in absurd (cc)
runs_one tree (Err e) (Err f) p q =
    let both : Some p.0 ≡ Some q.0 = sym p.2 ∙ q.2 in
    let same : p.0 ≡ q.0 = cc in ap Err (p.1 ∙ (ap (At NotYet 0) same ∙ sym q.1))

clean_one : (tree : ModelTree) (vs : List VariableItem) → IsOne (IsClean tree vs)
clean_one tree vs (Ok u) (Ok v) p q = refl
clean_one tree vs (Ok u) (Err e) p q = let no : true ≡ false = sym p ∙ q.1 in absurd (cc)
clean_one tree vs (Err e) (Ok v) p q = let no : true ≡ false = sym q ∙ p.1 in absurd (cc)
clean_one tree vs (Err e) (Err f) p q = ap Err (p.0 ∙ sym q.0)

grounded_one : (tree : ModelTree) (d : Data) (vs : List VariableItem) → IsOne (Grounded tree d vs)
grounded_one tree d vs = then_one _ _ (comes_one _ _) (λ made. only_one (subject_of tree d vs made.0 made.1))

tested_one : (tree : ModelTree) (d : Data) (vs : List VariableItem) → IsOne (Tested tree d vs)
tested_one tree d vs = then_one (IsClean tree vs) _ (clean_one tree vs) (λ u. grounded_one tree d vs)

declared_one : (tree : ModelTree) (d : Data) → IsOne (Declared tree d)
declared_one tree d = then_one _ _ (comes_one _ _) (tested_one tree d)

pub prepared_one : (tree : ModelTree) (files : List DataTree) → IsOne (Prepared tree files)
prepared_one tree files = then_one (Runs tree) _ (runs_one tree) (λ u. then_one _ _ (comes_one _ _) (declared_one tree))
