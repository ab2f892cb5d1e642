use Rattle.std.proofs.Common.{rules, ◌≡◌, ◌∙◌, length, reverse, ap, sym}
use Rattle.std.proofs.lemmas.List.{length-reverse}
use Rattle.opl_trail.specs.Levels.{Levels}
use Rattle.opl_trail.proofs.Levels.{length-below}
use Rattle.opl_trail.proofs.trail.Trail.levels.Goals as goal

pub returns : goal.returns
returns c =
    let s = c.self.inside in
    let n : c.len.result ≡ length s.marks.items = search rules in
    n ∙ sym (length-reverse s.marks.items) ∙ sym (length-below (reverse s.marks.items) s.saved.items s.bits) ∙ ap (λ (l : Levels). length l.below) c.self.view_is
