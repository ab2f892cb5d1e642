-- What a search finds, where its core is ready: up to a limit, if there is one.
use Rattle.std.proofs.Common.{◌≡◌, ◌≤◌, refl, sym, ap, ◌∙◌, subst, ℕ, ℤ, Bool, true, false, cond, nat_le, List, [], ◌∷◌, ◌++◌, take, drop, length, Option, Some, None, All, inl, inr, arith, append_assoc, rules}
use Rattle.std.proofs.lemmas.Bool.Decides.{nat_tests}
use Rattle.std.proofs.lemmas.List.{take-append-drop, take-append-le}
use Rattle.std.proofs.lemmas.List.Elements.{All-take}
use Rattle.opl_expr.specs.Solutions.{is_solution}
use Rattle.opl_solve.specs.Texts.{found, goal_value}
use Rattle.opl_trace.proofs.Marked.{marks_are_solutions}
use Rattle.opl_trace.specs.Marks.{core_marks, objective, solved}
use Rattle.opl_trace.specs.Run.{Mark}
use Rattle.opl_trace.specs.Run.Mark.{choice, leaf, solution, cut}
use Rattle.opl_words.specs.declared.call.Command.{Command}
use Rattle.opl_words.specs.declared.call.Command.TheVariants.{Solve, Ground}
use Rattle.opl_words.specs.declared.call.Generated.{Generated}
use Rattle.opl_words.specs.Requests.{default_budget}
use Rattle.opl_prepare.specs.Prepared.{IsReady, trace_of}
use Rattle.opl_prepare.specs.Subject.{Subject}
use Rattle.opl_optimum.specs.Optima.{improving, solutions, value_of}
use Rattle.opl_tool.specs.Tasks.{Finds, IsWhole, TaskFinds, task_of, up_to}
use Rattle.opl_tool.specs.Tasks.Task.{summarizes}

-- a Cut is no solution
cut-solves : (ms : List Mark) (b : Bool) → solved (ms ++ cond b (cut ∷ []) []) ≡ solved ms
cut-solves [] true = refl
cut-solves [] false = refl
cut-solves (choice l ∷ ms) b = cut-solves ms b
cut-solves (leaf P ∷ ms) b = cut-solves ms b
cut-solves (solution a ∷ ms) b = ap (λ list. a ∷ list) (cut-solves ms b)
cut-solves (cut ∷ ms) b = cut-solves ms b

all-so : {A : Type 0} (P Q : A → Type 0) (xs : List A) → ((x : A) → P x → Q x) → All P xs → All Q xs
all-so P Q xs so h = grind (rules, so, h)

module _ (s : Subject) (ready : IsReady s) (n : ℕ) where
  abbrev found_in : List (List ℤ)
  found_in = solved (trace_of s n).marks

  abbrev wanted : List (List ℤ)
  wanted = improving s.problem (solutions s.problem)

  abbrev IsValued : List ℤ → Type 0
  IsValued ns = goal_value (objective s.core) ns ≡ value_of s.problem ns

  valued : (ns : List ℤ) → is_solution s.core ns ≡ true → IsValued ns
  unfolding is_solution
  valued ns is = ready.values ns (grind (rules, is))

  all-valued : All IsValued found_in
  all-valued =
      subst (λ list. All IsValued list) (cut-solves (trace_of s n).marks (trace_of s n).is_cut)
      (all-so (λ ns. is_solution s.core ns ≡ true) IsValued (solved (core_marks false s.core n)) valued (marks_are_solutions s.core false n ready.ground))

  limited : (k : ℕ) → nat_le k (length found_in) ≡ true → take k found_in ≡ take k wanted
  limited k is =
      let rest = ready.first n in
      let few : k ≤ length found_in = grind (arith, nat_tests, is) in
      sym (take-append-le k found_in rest.0 few) ∙ ap (take k) rest.1

  all_by : (limit : Option ℕ) → IsWhole limit (trace_of s n) → found limit (trace_of s n) ≡ up_to limit wanted
  all_by None (inl uncut) = ready.all n uncut
  all_by None (inr is) = absurd (cc)
  all_by (Some k) (inl uncut) = ap (take k) (ready.all n uncut)
  all_by (Some k) (inr is) = limited k is

  first_by : (limit : Option ℕ) → (rest : List (List ℤ)) × (found limit (trace_of s n) ++ rest ≡ wanted)
  first_by None = ready.first n
  first_by (Some k) =
      let rest = ready.first n in
      (drop k found_in ++ rest.0, sym (append_assoc (take k found_in) (drop k found_in) rest.0) ∙ (ap (λ list. list ++ rest.0) (take-append-drop k found_in) ∙ rest.1))

  values_by : (limit : Option ℕ) → All IsValued (found limit (trace_of s n))
  values_by None = all-valued
  values_by (Some k) = All-take IsValued k found_in all-valued

  finds : (limit : Option ℕ) → Finds limit s (trace_of s n)
  finds limit = record { all = all_by limit; first = first_by limit; values = values_by limit }

-- what a command's search finds
pub command_finds : (command : Command) (s : Subject) → IsReady s → TaskFinds (task_of command s)
command_finds (Solve searching) s ready = finds s ready searching.budget searching.limit
command_finds Ground s ready = tt

-- what the search of a made model finds
pub made_finds : (g : Generated) (s : Subject) → IsReady s → TaskFinds (summarizes g s)
made_finds g s ready = finds s ready default_budget None
