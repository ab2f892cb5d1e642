use Rattle.std.proofs.Common.{◌≡◌, ◌∙◌, ◌+◌, ◌-◌, ◌<◌, ◌≤◌, ◌∷◌, [], ◌++◌, length, subst, sym, ap, arith, Some, length-set, refl}
use Rattle.std.specs.Prelude.{slice_set}
use Rattle.std.specs.List.{All}
use Rattle.std.proofs.lemmas.List.Elements.{All-pop}
use Rattle.std.proofs.lemmas.List.{length_push}
use Rattle.opl_trail.specs.declared.trail.Saved.{Saved}
use Rattle.opl_trail.specs.Trails.{word_of, at_of}
use Rattle.opl_trail.proofs.Undo.{step_back, front_back}
use Rattle.opl_trail.proofs.Levels.{save_before, save_from, saves_back}
use Rattle.opl_trail.proofs.trail.undo_to.Goals as goal

pub loop-saved-preserved-in-Some : goal.loop-saved-preserved-in-Some
loop-saved-preserved-in-Some c =
    let old = c.loop-saved in
    let inv = c.loop-saved.invariant in
    let e = c.in-Some.last in
    let fs = c.pop.new.self.items in
    let made : old.saved.items ≡ fs ++ e ∷ [] = c.in-Some.ensures.items in
    let long : length old.saved.items ≡ length fs + 1 = ap length made ∙ length_push fs e in
    let start : c.args.mark ≤ length fs = omega (arith, long) in
    let write : c.write_back.new.bits ≡ slice_set old.bits e.place e.word = c.write_back.ensures.word in
    let wide : length c.write_back.new.bits ≡ length old.bits = ap length write ∙ length-set old.bits e.place e.word in
    let popped = All-pop (λ (f : Saved). f.place < length old.bits) old.saved.items fs (Some e) made inv.places in
    let kept : All (λ (f : Saved). f.place < length old.bits) fs = popped.0 in
    let inside : e.place < length c.args.bits.now = omega (arith, popped.1, inv.wide) in
    record {
      words = step_back word_of c.args.mark old.saved.items fs e old.bits c.write_back.new.bits _ made start inv.words write;
      ats = step_back at_of c.args.mark old.saved.items fs e old.at.items (slice_set old.at.items e.place e.at) _ made start inv.ats refl;
      kept = front_back c.args.mark old.saved.items fs e made start ∙ inv.kept;
      start = start;
      places = subst (λ n. All (λ (f : Saved). f.place < n) fs) (sym wide) kept;
      same = length-set old.at.items e.place e.at ∙ inv.same ∙ sym wide;
      room = c.in-Some.ensures.capacity ∙ inv.room;
      wide = wide ∙ inv.wide;
      front = omega (arith, inv.front, c.write_back.ensures.front, saves_back c.args.mark 0 c.args.split old.saved.items fs e made start, save_before c.args.split e);
      back = omega (arith, inv.back, c.write_back.ensures.back, saves_back c.args.mark c.args.split (length c.args.bits.now - c.args.split) old.saved.items fs e made start, save_from c.args.split (length c.args.bits.now) e c.requires.split inside);
    }
