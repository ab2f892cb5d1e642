-- One level less of items.
use Rattle.std.proofs.Common.{◌≡◌, ℕ, suc, ◌-◌, ◌<◌, Err, refl, ap, ◌∙◌, arith}
use Rattle.opl_grammar.specs.Input.{Input, too_deep}
use Rattle.opl_grammar.specs.Rules.{rules}
use Rattle.opl_grammar.specs.Items.{item_rules, item_level}
use Rattle.opl_grammar_item.specs.declared.wanted_items.WantedItems.TheVariants as items_wanted
use Rattle.opl_grammar_item.specs.declared.wanted_items.WantedItems.{WantedItems}
use Rattle.opl_grammar_item.specs.ItemNests as items

items_none : (at : ℕ) (w : WantedItems) (i : Input) → items.one_of (item_rules 0) at w i ≡ Err (too_deep at)
unfolding item_rules
items_none at items_wanted.Items i = refl
items_none at items_wanted.ForAll i = refl
items_none at items_wanted.Branches i = refl

-- where no level is left, the opening token is one too many
pub items_refuse : (levels at : ℕ) (w : WantedItems) (i : Input) → levels ≡ 0 → items.read levels at w i ≡ Err (too_deep at)
unfolding items.read
items_refuse levels at w i e = rw e (items_none at w i)

items_more : (n at : ℕ) (w : WantedItems) (i : Input) → items.read (suc n) at w i ≡ items.one_of (item_level (rules n) (item_rules n)) at w i
unfolding items.read item_rules
items_more n at w i = refl

-- where one is left, what is wanted is read over the others
pub items_level : (levels at : ℕ) (w : WantedItems) (i : Input) → 0 < levels → items.read levels at w i ≡ items.one_of (item_level (rules (levels - 1)) (item_rules (levels - 1))) at w i
items_level levels at w i some = let e : levels ≡ suc (levels - 1) = omega arith in ap (λ n. items.read n at w i) e ∙ items_more (levels - 1) at w i
