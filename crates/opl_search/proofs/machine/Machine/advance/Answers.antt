use Rattle.std.proofs.Common.{◌∙◌, ap, sym, subst}
use Rattle.opl_search.specs.Machines.{GoesOn, is_first}
use Rattle.opl_search.proofs.Along.{can_ask, answers, answers_comes}
use Rattle.opl_search.proofs.machine.Machine.advance.Goals as goal

pub ask-requires : goal.ask-requires
ask-requires g c =
    let i = c.self.inside in
    let goes = subst (λ m. GoesOn m.last) (sym c.self.view_is) c.requires.goes_on in
    let begins = c.requires.begins ∙ ap (λ m. is_first m.last) (sym c.self.view_is) in
    can_ask i.core.value i.way i.budget i.solutions c.args.begins i.last _ goes begins c.self.invariant

pub returns-in-Ok-clause-comes : goal.returns-in-Ok-clause-comes
returns-in-Ok-clause-comes g c =
    let i = c.self.inside in
    let goes = subst (λ m. GoesOn m.last) (sym c.self.view_is) c.requires.goes_on in
    let begins = c.requires.begins ∙ ap (λ m. is_first m.last) (sym c.self.view_is) in
    answers_comes i.core.value i.way i.budget i.solutions c.args.begins i.last goes begins c.in-Ok.step _ _ c.args.self.now c.count_of.result c.last_of-self-inside.result c.self.invariant c.in-Ok.ensures.asked c.self.view_is
    c.count_of.ensures c.last_of-self-inside.ensures

pub invariant_of-self : goal.invariant_of-self
invariant_of-self g c =
    let i = c.self.inside in
    let goes = subst (λ m. GoesOn m.last) (sym c.self.view_is) c.requires.goes_on in
    let begins = c.requires.begins ∙ ap (λ m. is_first m.last) (sym c.self.view_is) in
    let r = answers i.core.value i.way i.budget i.solutions c.args.begins i.last goes begins c.in-Ok.step _ _ c.self.invariant c.in-Ok.ensures.asked in
    rw (c.last_of-self-inside.ensures, c.count_of.ensures) r.1
