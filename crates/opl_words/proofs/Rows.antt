-- What `clap` found for a name, and what one more use changes.
use Rattle.std.proofs.Common.{◌≡◌, ◌∙◌, ◌||◌, Bool, true, false, refl, sym, ap, subst, true≢false, List, [], ◌∷◌, Option, Some, None}
use Rattle.std.specs.Prelude.{bytes_eq, find, is_some, if◌then◌else◌}
use Rattle.std.specs.Option.{option_map_or}
use Rattle.clap.specs.Walk.{Row, Text, has_row, more_values, with_values, without}
use Rattle.clap.specs.declared.builder.value_parser.Reading.{Reading}
use Rattle.clap.specs.declared.parser.matches.ValueSource.{ValueSource}
use Rattle.opl_words.proofs.Rules.{own_bytes, same_bytes}

-- the row of a name
abbrev pub row_at : Text → List Row → Option Row
row_at id rows = find (λ r. bytes_eq r.id id) rows

pub has_row-at : (id : Text) (rows : List Row) → has_row id rows ≡ is_some (row_at id rows)
has_row-at id [] = refl
has_row-at id (r ∷ rs) = go (bytes_eq r.id id) (has_row-at id rs)
  where
    go : (b : Bool) → has_row id rs ≡ is_some (row_at id rs) → b || has_row id rs ≡ is_some (if b then Some r else row_at id rs)
    go true later = refl
    go false later = later

-- nothing goes where there is none
pub without_none : (id : Text) (rows : List Row) → has_row id rows ≡ false → without id rows ≡ rows
without_none id [] h = refl
without_none id (r ∷ rs) h = go (bytes_eq r.id id) refl h (λ any. without_none id rs any)
  where
    go : (b : Bool) → bytes_eq r.id id ≡ b → b || has_row id rs ≡ false → (has_row id rs ≡ false → without id rs ≡ rs) → without id (r ∷ rs) ≡ r ∷ rs
    go true e any later = absurd (true≢false any)
    go false e any later = rw e (ap (λ xs. r ∷ xs) (later any))

module _ (id : Text) (how : Reading) (source : ValueSource) (values : List Text) where
  abbrev new_row : Row
  new_row = record { id = id; values = values; count = None; source = Some source; reading = how }

  -- the name's row has the values too
  abbrev pub more : Option Row → List Row
  more o = option_map_or (λ r. more_values source values r) o (new_row ∷ [])

  pub values_at : (rows : List Row) → row_at id (with_values id how source values rows) ≡ row_at id (more (row_at id rows))
  values_at [] = refl
  values_at (r ∷ rs) = go (bytes_eq r.id id) refl (values_at rs)
    where
      go : (b : Bool) → bytes_eq r.id id ≡ b → row_at id (with_values id how source values rs) ≡ row_at id (more (row_at id rs))
          → row_at id (with_values id how source values (r ∷ rs)) ≡ row_at id (more (row_at id (r ∷ rs)))
      go true e later = rw (e, e) refl
      go false e later = rw (e, e) later

  -- other rows stay
  pub values_elsewhere : (other : Text) (rows : List Row) → bytes_eq id other ≡ false → row_at other (with_values id how source values rows) ≡ row_at other rows
  values_elsewhere other [] apart = rw apart refl
  values_elsewhere other (r ∷ rs) apart = go (bytes_eq r.id id) refl (values_elsewhere other rs apart)
    where
      go : (b : Bool) → bytes_eq r.id id ≡ b → row_at other (with_values id how source values rs) ≡ row_at other rs
          → row_at other (with_values id how source values (r ∷ rs)) ≡ row_at other (r ∷ rs)
      go true e later =
          let differ : bytes_eq r.id other ≡ false = subst (λ x. bytes_eq x other ≡ false) (sym (same_bytes r.id id e)) apart in
          rw (e, differ) refl
      go false e later = rw e (ap (λ found. if bytes_eq r.id other then Some r else found) later)

-- the row of a new name
pub new_at : (id : Text) (how : Reading) (source : ValueSource) (values : List Text) (rows : List Row) → row_at id rows ≡ None
    → row_at id (with_values id how source values rows) ≡ Some (record { id = id; values = values; count = None; source = Some source; reading = how })
new_at id how source values rows none = values_at id how source values rows ∙ ap (λ o. row_at id (more id how source values o)) none ∙ first
  where
    first : row_at id (more id how source values None) ≡ Some (record { id = id; values = values; count = None; source = Some source; reading = how })
    first = rw (own_bytes id) refl
