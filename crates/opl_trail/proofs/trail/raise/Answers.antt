use Rattle.std.proofs.Common.{◌∷◌, arith, sym, refl}
use Rattle.std.specs.Vec.{vec_capacity}
use Rattle.std.specs.Prelude.{slice_index}
use Rattle.std.proofs.lemmas.List.{get_or_read}
use Rattle.opl_trail.specs.declared.trail.Saved.{Saved}
use Rattle.opl_trail.proofs.Marks.{last_mark, no_mark}
use Rattle.opl_trail.proofs.Levels.{has_space, raise_saved, raise_unsaved, raise_base, wider}
use Rattle.opl_trail.proofs.trail.raise.Goals.{in-Some+then-before-mark, in-Some+else-before-mark, in_default}
use Rattle.opl_trail.proofs.trail.raise.Goals as goal

pub save-requires : goal.save-requires
save-requires c =
    let l = last_mark c.args.marks.now c.in-Some.mark.now (sym c.in-Some.ensures.value) in
    let t = rw l.is at c.requires.trail in
    let r = get_or_read c.args.at.now.items c.args.place c.index-before.result.now (omega (arith, c.requires.within, c.requires.trail.same)) c.index-before.ensures 0 in
    let k = has_space c.in-Some.mark.now l.front c.args.saved.now.items c.args.at.now.items c.args.bits.now (vec_capacity c.args.saved.now) c.args.place t c.requires.within (omega (arith, r, c.if-before-mark.true)) in
    record { room = k.0; few = k.1; within = omega (arith, c.requires.within, c.requires.trail.same) }

pub returns-clause-trail : goal.returns-clause-trail
returns-clause-trail c = elim c.match-last.branch [
  | in-Some+then-before-mark w ↦
      let l = last_mark c.args.marks.now w.in-Some.mark.now (sym w.in-Some.ensures.value) in
      let t = rw l.is at c.requires.trail in
      let r = get_or_read c.args.at.now.items c.args.place w.index-before.result.now (omega (arith, c.requires.within, c.requires.trail.same)) w.index-before.ensures 0 in
      let e : Saved = record { place = c.args.place; at = slice_index c.args.at.now.items c.args.place; word = w.word.result } in
      let made = raise_unsaved w.in-Some.mark.now l.front c.args.saved.now.items c.args.at.now.items c.args.bits.now (vec_capacity c.args.saved.now) c.args.place c.args.word e t c.requires.within c.requires.more (omega (arith, r, w.if-before-mark.true)) refl refl w.word.ensures in
      rw (w.saved-is, w.at-is, c.write.ensures.word, l.is, w.save.ensures.saved, w.save.ensures.at) (wider (w.in-Some.mark.now ∷ l.front) _ _ _ (vec_capacity c.args.saved.now) (vec_capacity w.save.new.saved) made.0 w.save.ensures.room)
  | in-Some+else-before-mark w ↦
      let l = last_mark c.args.marks.now w.in-Some.mark.now (sym w.in-Some.ensures.value) in
      let t = rw l.is at c.requires.trail in
      let r = get_or_read c.args.at.now.items c.args.place w.index-before.result.now (omega (arith, c.requires.within, c.requires.trail.same)) w.index-before.ensures 0 in
      rw (w.saved-is, w.at-is, c.write.ensures.word, l.is) (raise_saved w.in-Some.mark.now l.front c.args.saved.now.items c.args.at.now.items c.args.bits.now (vec_capacity c.args.saved.now) c.args.place c.args.word t c.requires.within c.requires.more (omega (arith, r, w.if-before-mark.false))).0
  | in_default w ↦
      let e = no_mark c.args.marks.now (sym w.in_default.ensures.value) in
      let t = rw e at c.requires.trail in
      rw (w.saved-is, w.at-is, c.write.ensures.word, e) (raise_base c.args.saved.now.items c.args.at.now.items c.args.bits.now (vec_capacity c.args.saved.now) c.args.place c.args.word t)
]

pub returns-clause-below : goal.returns-clause-below
returns-clause-below c = elim c.match-last.branch [
  | in-Some+then-before-mark w ↦
      let l = last_mark c.args.marks.now w.in-Some.mark.now (sym w.in-Some.ensures.value) in
      let t = rw l.is at c.requires.trail in
      let r = get_or_read c.args.at.now.items c.args.place w.index-before.result.now (omega (arith, c.requires.within, c.requires.trail.same)) w.index-before.ensures 0 in
      let e : Saved = record { place = c.args.place; at = slice_index c.args.at.now.items c.args.place; word = w.word.result } in
      let made = raise_unsaved w.in-Some.mark.now l.front c.args.saved.now.items c.args.at.now.items c.args.bits.now (vec_capacity c.args.saved.now) c.args.place c.args.word e t c.requires.within c.requires.more (omega (arith, r, w.if-before-mark.true)) refl refl w.word.ensures in
      rw (w.saved-is, c.write.ensures.word, l.is, w.save.ensures.saved) made.1
  | in-Some+else-before-mark w ↦
      let l = last_mark c.args.marks.now w.in-Some.mark.now (sym w.in-Some.ensures.value) in
      let t = rw l.is at c.requires.trail in
      let r = get_or_read c.args.at.now.items c.args.place w.index-before.result.now (omega (arith, c.requires.within, c.requires.trail.same)) w.index-before.ensures 0 in
      rw (w.saved-is, c.write.ensures.word, l.is) (raise_saved w.in-Some.mark.now l.front c.args.saved.now.items c.args.at.now.items c.args.bits.now (vec_capacity c.args.saved.now) c.args.place c.args.word t c.requires.within c.requires.more (omega (arith, r, w.if-before-mark.false))).1
  | in_default w ↦ rw (w.saved-is, c.write.ensures.word, no_mark c.args.marks.now (sym w.in_default.ensures.value)) refl
]
