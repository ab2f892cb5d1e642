use Rattle.std.proofs.Common.{Some, cond, ap, ◌∙◌}
use Rattle.std.specs.Prelude.{bytes_eq}
use Rattle.std.specs.HashMap.{get_by}
use Rattle.opl_meaning.proofs.Places.{places-kept, texts-added}
use Rattle.opl_declared.proofs.names.Names.with.Goals as goal

pub invariant_of-result : goal.invariant_of-result
invariant_of-result c = record {
  are_placed = λ name. places-kept c.args.self.places c.add_place.new.places c.args.self.texts c.push.new.self c.args.name name (c.args.self.are_placed name)
      (c.in_ok-add_place.ensures name ∙ ap (λ n. cond (bytes_eq name c.args.name.now) (Some n) (get_by (λ k. bytes_eq name k.now) c.args.self.places)) c.len-place.ensures)
      c.in_ok-push.ensures.ok;
}

pub returns : goal.returns
returns c = texts-added c.args.self.texts c.push.new.self c.args.name c.in_ok-push.ensures.ok
