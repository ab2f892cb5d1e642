use Rattle.std.proofs.Common.{◌≡◌, subst}
use Rattle.std.specs.Prelude.{Ok}
use Rattle.opl_search.specs.declared.machine.Last.TheVariants as last
use Rattle.opl_search.specs.declared.search.Step1.TheVariants as step
use Rattle.opl_search.specs.Machines.{Searching, GoesOn, Comes, Again}
use Rattle.test_machine.proofs.found.next.Goals as goal

-- behind a solution the last answer is a solution
solution_last : (m n : Searching) → (GoesOn m.last → Comes m n (Ok step.Solution)) → ((GoesOn m.last → ⊥) → (n ≡ m) × Again m.last (Ok step.Solution)) → n.last ≡ last.Solution
solution_last m n comes again =
    elim (m.last) as (λ l. (GoesOn l → Comes m n (Ok step.Solution)) → ((GoesOn l → ⊥) → (n ≡ m) × Again l (Ok step.Solution)) → n.last ≡ last.Solution) [
      | last.Nothing ↦ λ c a. (c tt).last
      | last.Solution ↦ λ c a. (c tt).last
      | last.End ↦ λ c a. let r = (a (λ h. h)).1 in cc
      | last.Spent ↦ λ c a. let r = (a (λ h. h)).1 in cc
      | last.OutOfMemory ↦ λ c a. let r = (a (λ h. h)).1 in cc
    ] comes again

pub returns : goal.returns
returns c = λ h.
    let m = c.args.machine.now in
    let n = c.next.new.self in
    solution_last m n (λ g. subst (Comes m n) h (c.next.ensures.comes g)) (λ g. let a = c.next.ensures.again g in (a.0, subst (Again m.last) h a.1))
