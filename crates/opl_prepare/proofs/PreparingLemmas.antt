-- One stage behind another, up to what a call is about.
use Rattle.std.proofs.Common.{◌≡◌, refl, ◌∙◌, subst, List, Result, Ok, Err, inl, inr, All}
use Rattle.opl_bind.specs.Bind.{Data}
use Rattle.opl_complete.specs.Complete.{SearchBegins, SearchFindsAll, ValuesMean}
use Rattle.opl_data.specs.declared.tree.DataTree.{DataTree}
use Rattle.opl_eval.specs.ArrayKeys.{IsKeyed}
use Rattle.opl_expr.specs.declared.model.Core.{Core}
use Rattle.opl_meaning.specs.declared.variable.VariableItem.{VariableItem}
use Rattle.opl_show.specs.Texts.{Enumerations}
use Rattle.opl_tree.specs.declared.model.ModelTree.{ModelTree}
use Rattle.opl_prepare.specs.declared.problem.Problem.{Problem}
use Rattle.opl_files.specs.declared.stop.Stop.{Stop}
use Rattle.opl_files.specs.declared.stop.Stop.TheVariants.{Refused, Spent, ReadFault, WriteFault, OutOfMemory}
use Rattle.opl_prepare.specs.Data.{Bound, Declared, Grounded, HasData, HasForms, HasVariables, IsClean, Prepared, Runs, Tested, subject_of}
use Rattle.opl_prepare.specs.Prepared.{GivesCore, GivesPosed, enumerations_in}
use Rattle.opl_files.specs.Stage.{Stage, Then, Only, Gives}
use Rattle.opl_prepare.specs.Subject.{Subject}
use Rattle.opl_prepare.proofs.Accepted.{subject-ready}

-- the first stage gave a value, and what the call is about comes of that
pub then-posed : {A : Type 0} (P : Stage A) (Q : A → Stage Subject) (a : A) (r : Result Problem Stop) → P (Ok a) → GivesPosed (Q a) r → GivesPosed (Then P Q) r
then-posed P Q a (Ok p) h q = (q.0, inl (a, h, q.1), q.2)
then-posed P Q a (Err (Refused e)) h q = inl (a, h, q)
then-posed P Q a (Err Spent) h q = q
then-posed P Q a (Err ReadFault) h q = q
then-posed P Q a (Err WriteFault) h q = q
then-posed P Q a (Err OutOfMemory) h q = q

-- the first stage ended
pub then-unposed : {A : Type 0} (P : Stage A) (Q : A → Stage Subject) (stop : Stop) → Gives P (Err stop) → GivesPosed (Then P Q) (Err stop)
then-unposed P Q (Refused e) p = inr (e, p, refl)
then-unposed P Q Spent p = p
then-unposed P Q ReadFault p = p
then-unposed P Q WriteFault p = p
then-unposed P Q OutOfMemory p = tt

-- what does not run yet ended it
pub runs-stopped : (tree : ModelTree) (files : List DataTree) (stop : Stop) → Gives (Runs tree) (Err stop) → GivesPosed (Prepared tree files) (Err stop)
runs-stopped tree files stop h = then-unposed (Runs tree) (λ u. Bound tree files) stop h

module _ (tree : ModelTree) (files these : List DataTree) (same : these ≡ files) (ran : Runs tree (Ok tt)) where
  -- the data came to an end
  pub data-stopped : (stop : Stop) → Gives (HasData tree these) (Err stop) → GivesPosed (Prepared tree files) (Err stop)
  data-stopped stop h =
      then-posed (Runs tree) (λ u. Bound tree files) tt (Err stop) ran (then-unposed (HasData tree files) (Declared tree) stop
      (subst (λ (fs : List DataTree). Gives (HasData tree fs) (Err stop)) same h))

  module _ (d : Data) (given : HasData tree these (Ok d)) where
    -- the data of these files
    of_files : HasData tree files (Ok d)
    of_files = subst (λ (fs : List DataTree). HasData tree fs (Ok d)) same given

    behind_data : (r : Result Problem Stop) → GivesPosed (Declared tree d) r → GivesPosed (Prepared tree files) r
    behind_data r h = then-posed (Runs tree) (λ u. Bound tree files) tt r ran (then-posed (HasData tree files) (Declared tree) d r of_files h)

    -- the variables came to an end
    pub variables-stopped : (stop : Stop) → Gives (HasVariables tree d) (Err stop) → GivesPosed (Prepared tree files) (Err stop)
    variables-stopped stop h = behind_data (Err stop) (then-unposed (HasVariables tree d) (Tested tree d) stop h)

    module _ (vs : List VariableItem) (declared : HasVariables tree d (Ok vs)) (ws : List VariableItem) (alike : ws ≡ vs) where
      behind_variables : (r : Result Problem Stop) → GivesPosed (Tested tree d vs) r → GivesPosed (Prepared tree files) r
      behind_variables r h = behind_data r (then-posed (HasVariables tree d) (Tested tree d) vs r declared h)

      -- variables stand where they may not
      pub clean-stopped : (stop : Stop) → Gives (IsClean tree ws) (Err stop) → GivesPosed (Prepared tree files) (Err stop)
      clean-stopped stop h = behind_variables (Err stop) (then-unposed (IsClean tree vs) (λ u. Grounded tree d vs) stop
          (subst (λ (xs : List VariableItem). Gives (IsClean tree xs) (Err stop)) alike h))

      module _ (clean : IsClean tree ws (Ok tt)) (xs : List VariableItem) (alike_too : xs ≡ vs) where
        clean_too : IsClean tree vs (Ok tt)
        clean_too = subst (λ (us : List VariableItem). IsClean tree us (Ok tt)) alike clean

        behind_clean : (r : Result Problem Stop) → GivesPosed (Grounded tree d vs) r → GivesPosed (Prepared tree files) r
        behind_clean r h = behind_variables r (then-posed (IsClean tree vs) (λ u. Grounded tree d vs) tt r clean_too h)

        -- the objective or the constraints came to an end
        pub core-stopped : (stop : Stop) → Gives (HasForms tree d xs) (Err stop) → GivesPosed (Prepared tree files) (Err stop)
        core-stopped stop h = behind_clean (Err stop) (then-unposed (HasForms tree d vs) (λ made. Only (subject_of tree d vs made.0 made.1)) stop
            (subst (λ (us : List VariableItem). Gives (HasForms tree d us) (Err stop)) alike_too h))

        posed : SearchFindsAll → SearchBegins → ValuesMean → (core : Core) (p : Problem) → All (λ i. IsKeyed i.value) d.environment.items → GivesCore tree d d.known.enumerations vs (Ok core) →
            p.variables ≡ vs → enumerations_in p ≡ d.known.enumerations → p.core.value ≡ core → GivesPosed (Grounded tree d vs) (Ok p)
        posed finds_all begins mean core p keyed (made, formed, is) variables names holds = (
          subject_of tree d vs made.0 made.1,
          inl (made, formed, refl),
          record {
            variables_are = variables;
            enumerations_are = names;
            core_is = holds ∙ is;
            is_ready = subject-ready finds_all begins mean tree files d vs made.0 made.1 keyed of_files declared clean_too formed;
          },
        )

        -- all is prepared
        pub all-prepared : SearchFindsAll → SearchBegins → ValuesMean → (e : Enumerations) (core : Core) (p : Problem) → All (λ i. IsKeyed i.value) d.environment.items → e ≡ d.known.enumerations →
            GivesCore tree d e xs (Ok core) → p.variables ≡ vs → enumerations_in p ≡ d.known.enumerations → p.core.value ≡ core → GivesPosed (Prepared tree files) (Ok p)
        all-prepared finds_all begins mean e core p keyed names_are given_core variables names holds =
            behind_clean (Ok p) (posed finds_all begins mean core p keyed
            (subst (λ (us : List VariableItem). GivesCore tree d d.known.enumerations us (Ok core)) alike_too (subst (λ (es : Enumerations). GivesCore tree d es xs (Ok core)) names_are given_core))
            variables names holds)
