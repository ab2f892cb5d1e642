use Rattle.opl_choices.specs.Branches.{element}
use Rattle.opl_reference_search.proofs.Performed.{taken_are_sound}
use Rattle.opl_reference_search.proofs.statements.one_body.Goals as goal

pub first_body-requires-clause-sound : goal.first_body-requires-clause-sound
first_body-requires-clause-sound g c =
    let core = c.args.search.now.core.now in
    taken_are_sound core c.args.sets.now (λ e. element core e.now) _ c.in_ok-found.found _ c.requires.sound c.in_ok-found.ensures c.as_slice.ensures
