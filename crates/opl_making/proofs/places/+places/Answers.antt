use Rattle.std.proofs.Common.{sym, ◌∙◌}
use Rattle.opl_declared.specs.Kept.{names_in}
use Rattle.opl_making.proofs.DraftPlaces.{place-live, place-value}
use Rattle.opl_making.proofs.places.+places.Goals as goal

pub draft_place-returns-then-is_mentioned : goal.draft_place-returns-then-is_mentioned
draft_place-returns-then-is_mentioned t c env =
    place-live c.live_drafts.ensures c.args.declared.now.items.now (names_in c.args.declared.now) c.args.term.now env c.live_place.result (sym c.is_mentioned.ensures ∙ c.if-is_mentioned.true) (c.live_place.ensures env)

pub draft_place-returns-else-is_mentioned : goal.draft_place-returns-else-is_mentioned
draft_place-returns-else-is_mentioned t c env =
    place-value c.value_drafts.ensures c.args.declared.now.items.now (names_in c.args.declared.now) c.args.term.now env c.place.result (sym c.is_mentioned.ensures ∙ c.if-is_mentioned.false) c.place.ensures
