use Rattle.std.proofs.Common.{◌+◌, ap, length, sym, ◌∙◌}
use Rattle.opl_meaning.specs.Variables.{sets_of, values_of}
use Rattle.opl_meaning.proofs.Limits.{counted-more, summed-more}
use Rattle.opl_meaning.proofs.counted.Counted.with.Goals as goal

pub invariant_of-result : goal.invariant_of-result
invariant_of-result c = record {
  are_counted = counted-more c.args.self.items c.args.item c.args.self.totals.variables c.in_ok-totals.totals.variables c.args.self.are_counted
      (c.in_ok-totals.ensures.variables ∙ ap (λ sets. c.args.self.totals.variables + length sets) c.as_slice.ensures)
      ∙ ap (λ items. length (sets_of items)) (sym c.in_ok-push.ensures.ok);
  are_summed = summed-more c.args.self.items c.args.item c.args.self.totals.values c.in_ok-totals.totals.values c.args.self.are_summed
      (c.in_ok-totals.ensures.values ∙ ap (λ sets. c.args.self.totals.values + values_of sets) c.as_slice.ensures)
      ∙ ap (λ items. values_of (sets_of items)) (sym c.in_ok-push.ensures.ok);
}
