-- The laws, from what is shown of the forms.
use Rattle.std.proofs.Common.{ap, ◌∙◌, sym}
use Rattle.opl_type_rules.specs.Types.{is_set}
use Rattle.opl_type_rules.specs.Expressions.{typing}
use Rattle.opl_type_rules.specs.Expressions.Need.{data_alone}
use Rattle.opl_typed.specs.Relation.{typed_of}
use Rattle.opl_typed.specs.Laws.{Sound, Complete, OneType, SetsSound, SetsComplete, ParamsSound, ParamsComplete}
use Rattle.opl_typed.proofs.Steps.{same_node, was_used}
use Rattle.opl_typed.proofs.Sound as founds
use Rattle.opl_typed.proofs.Complete as comes

pub sound : Sound
sound sc f need takes n h = let u = was_used (typing sc f) need takes n h in (founds.sound f sc n u.0 u.1.fine, u.1.meets, u.1.taken)

pub complete : Complete
complete sc f need takes t h = let k = comes.complete f sc t h.0 in (k.node, comes.fits-place (typing sc f) t need takes k h.1 h.2, k.is)

pub one_type : OneType
one_type sc f t u h g =
    let k = comes.complete f sc t h in
    let l = comes.complete f sc u g in
    sym k.is ∙ ap typed_of (same_node k.node l.node (sym k.given ∙ l.given)) ∙ l.is

pub sets_sound : SetsSound
sets_sound sc over range h = let e = founds.set-elements over sc range h in (e.0, founds.set-sound over data_alone is_set sc range h e.0 e.1, e.1.are)

pub sets_complete : SetsComplete
sets_complete sc over s h = let k = comes.set-complete over data_alone is_set sc s (λ a p. p) (λ a e. e) h in (k.range, k.given, k.has)

pub params_sound : ParamsSound
params_sound need sc p o h = founds.params-sound p need sc o h

pub params_complete : ParamsComplete
params_complete need sc p inner h = let k = comes.params-complete p need sc inner h in (k.opened, k.given, k.is)
