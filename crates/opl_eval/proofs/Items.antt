-- Declared names one by one.
use Rattle.std.proofs.Common.{◌≡◌, ℕ, List, [], ◌∷◌, map, Option, ap, ◌∙◌}
use Rattle.std.specs.List.{All, slice_get}
use Rattle.std.specs.Option.{option_map}
use Rattle.std.proofs.lemmas.List.Elements.{All-cons, All-map, All-nil}
use Rattle.std.proofs.lemmas.Option.{slice_get-map}
use Rattle.opl_eval.specs.declared.entry.Entry.{Entry}
use Rattle.opl_eval.specs.declared.environment.Environment as code
use Rattle.opl_eval.specs.ArrayKeys.{IsKeyed}
use Rattle.opl_eval.specs.Visible.{item_of, seen}

-- the item at a place is that of the entry there
pub item-at : (env : code.Environment) (place : ℕ) (o : Option Entry) → slice_get env.entries place ≡ o → slice_get (seen env).items place ≡ option_map item_of o
unfolding seen
item-at env place o h = slice_get-map item_of env.entries place ∙ ap (option_map item_of) h

entries-keyed : (es : List Entry) → All (λ e. IsKeyed e.value) es
entries-keyed [] = All-nil (λ e. IsKeyed e.value)
entries-keyed (e ∷ es) = All-cons (λ e. IsKeyed e.value) e es e.is_keyed (entries-keyed es)

-- the values of declared names are keyed
pub items-keyed : (env : code.Environment) → All (λ i. IsKeyed i.value) (seen env).items
unfolding seen
items-keyed env = All-map (λ i. IsKeyed i.value) item_of env.entries (entries-keyed env.entries)
