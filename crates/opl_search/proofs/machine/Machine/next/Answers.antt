use Rattle.std.proofs.Common.{◌∙◌, ap, sym, subst, refl}
use Rattle.std.specs.Prelude.{Ok, Err}
use Rattle.opl_search.specs.Machines.{GoesOn, Again, is_first}
use Rattle.opl_search.specs.declared.search.Step1.TheVariants as step
use Rattle.opl_search.proofs.machine.Machine.next.Goals as goal

pub advance-requires-clause-goes_on : goal.advance-requires-clause-goes_on
advance-requires-clause-goes_on g c = subst GoesOn (sym (sym c.last.ensures ∙ c.in-Nothing.is)) tt

pub advance-requires-clause-begins : goal.advance-requires-clause-begins
advance-requires-clause-begins g c = sym (ap is_first (sym c.last.ensures ∙ c.in-Nothing.is))

pub returns-in-Nothing-clause-again : goal.returns-in-Nothing-clause-again
returns-in-Nothing-clause-again g c = λ h. absurd (h (subst GoesOn (sym (sym c.last.ensures ∙ c.in-Nothing.is)) tt))

pub advance-requires-in-Solution-clause-goes_on : goal.advance-requires-in-Solution-clause-goes_on
advance-requires-in-Solution-clause-goes_on g c = subst GoesOn (sym (sym c.last.ensures ∙ c.in-Solution.is)) tt

pub advance-requires-in-Solution-clause-begins : goal.advance-requires-in-Solution-clause-begins
advance-requires-in-Solution-clause-begins g c = sym (ap is_first (sym c.last.ensures ∙ c.in-Solution.is))

pub returns-in-Solution-clause-again : goal.returns-in-Solution-clause-again
returns-in-Solution-clause-again g c = λ h. absurd (h (subst GoesOn (sym (sym c.last.ensures ∙ c.in-Solution.is)) tt))

pub returns-in-End-clause-comes : goal.returns-in-End-clause-comes
returns-in-End-clause-comes g c = λ h. absurd (subst GoesOn (sym c.last.ensures ∙ c.in-End.is) h)

pub returns-in-End-clause-again : goal.returns-in-End-clause-again
returns-in-End-clause-again g c = λ h. (refl, subst (λ l. Again l (Ok step.End)) (sym (sym c.last.ensures ∙ c.in-End.is)) refl)

pub returns-in-Spent-clause-comes : goal.returns-in-Spent-clause-comes
returns-in-Spent-clause-comes g c = λ h. absurd (subst GoesOn (sym c.last.ensures ∙ c.in-Spent.is) h)

pub returns-in-Spent-clause-again : goal.returns-in-Spent-clause-again
returns-in-Spent-clause-again g c = λ h. (refl, subst (λ l. Again l (Ok step.Spent)) (sym (sym c.last.ensures ∙ c.in-Spent.is)) refl)

pub returns-in-OutOfMemory-clause-comes : goal.returns-in-OutOfMemory-clause-comes
returns-in-OutOfMemory-clause-comes g c = λ h. absurd (subst GoesOn (sym c.last.ensures ∙ c.in-OutOfMemory.is) h)

pub returns-in-OutOfMemory-clause-again : goal.returns-in-OutOfMemory-clause-again
returns-in-OutOfMemory-clause-again g c = λ h. (refl, subst (λ l. Again l (Err (record {}))) (sym (sym c.last.ensures ∙ c.in-OutOfMemory.is)) refl)
