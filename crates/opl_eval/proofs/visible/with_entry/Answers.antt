use Rattle.std.proofs.Common.{Some, cond, length, ap, sym, refl, ◌∙◌}
use Rattle.std.specs.HashMap.{get_by}
use Rattle.std.specs.Prelude.{bytes_eq}
use Rattle.opl_eval.specs.Evaluation.{declared}
use Rattle.opl_eval.specs.Visible.{seen}
use Rattle.opl_eval.proofs.Latest.{places-kept, seen-more}
use Rattle.opl_eval.proofs.visible.with_entry.Goals as goal

pub invariant_of-result : goal.invariant_of-result
invariant_of-result c = record {
  are_placed = λ name. places-kept c.args.environment.places c.add_place.new.places c.args.environment.entries c.push.new.self (record { name = c.in_ok-name.name; value = c.args.value; declaration = c.args.declaration; is_keyed = _ }) name (c.args.environment.are_placed name)
      (c.in_ok-add_place.ensures name
      ∙ ap (λ n. cond (bytes_eq name c.args.name.now) (Some n) (get_by (λ k. bytes_eq name k.now) c.args.environment.places)) c.len-place.ensures
      ∙ ap (λ t. cond (bytes_eq name t) (Some (length c.args.environment.entries)) (get_by (λ k. bytes_eq name k.now) c.args.environment.places)) (sym c.in_ok-name.ensures))
      c.in_ok-push.ensures.ok;
}

pub returns : goal.returns
returns c =
    seen-more c.args.environment _ (record { name = c.in_ok-name.name; value = c.args.value; declaration = c.args.declaration; is_keyed = _ }) c.in_ok-push.ensures.ok refl
    ∙ ap (λ t. declared t c.args.value c.args.declaration (seen c.args.environment)) c.in_ok-name.ensures
