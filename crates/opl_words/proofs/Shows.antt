-- When rows of `clap` show what words have given, and how that goes on.
use Rattle.std.proofs.Common.{◌≡◌, ◌∙◌, ◌||◌, Bool, true, false, refl, sym, ap, subst, true≢false, List, [], ◌∷◌, ◌++◌, Option, Some, None, codes}
use Rattle.std.specs.Prelude.{bytes_eq, find, is_some, option_map, if◌then◌else◌}
use Rattle.clap.specs.Walk.{Row, Text, has_row, reading_by, used}
use Rattle.clap.specs.declared.parser.matches.ValueSource.TheVariants.{CommandLine}
use Rattle.opl_words.specs.Requests.{Given, Options, Word, has_value, is_among, value_in, with_files, with_flag, with_value}
use Rattle.opl_words.proofs.Rules.{differs, differs_too, file_arg, flag_arg, own_bytes, same_bytes, value_arg}
use Rattle.opl_words.proofs.Rows.{has_row-at, new_at, row_at, values_at, values_elsewhere, without_none}

-- options of different names, none of which is that of the files
pub record IsApart (o : Options) : Type 0 where
  pub no_value : is_among o.valued (codes "file") ≡ false
  pub no_flag : is_among o.flags (codes "file") ≡ false
  pub apart : (name : Word) → is_among o.valued name ≡ true → is_among o.flags name ≡ false

abbrev pub value_row : Word → Word → Row
value_row name value = record { id = name; values = value ∷ []; count = None; source = Some CommandLine; reading = reading_by (value_arg name) }

abbrev pub flag_row : Word → Row
flag_row name = record { id = name; values = codes "true" ∷ []; count = None; source = Some CommandLine; reading = reading_by (flag_arg name) }

abbrev pub file_row : List Word → Option Row
file_row [] = None
file_row (file ∷ files) = Some (record { id = codes "file"; values = file ∷ files; count = None; source = Some CommandLine; reading = reading_by file_arg })

pub record Shows (o : Options) (rows : List Row) (g : Given) : Type 0 where
  pub values : (name : Word) → is_among o.valued name ≡ true → row_at name rows ≡ option_map (value_row name) (value_in g name)
  pub flags : (name : Word) → is_among o.flags name ≡ true → row_at name rows ≡ (if is_among g.flags name then Some (flag_row name) else None)
  pub files : row_at (codes "file") rows ≡ file_row g.files

-- ---- lists of names

has_value-in : (g : Given) (name : Word) → has_value g name ≡ is_some (value_in g name)
has_value-in g name = go g.values
  where
    go : (values : List (Word × Word)) → has_value (record g { values = values }) name ≡ is_some (value_in (record g { values = values }) name)
    go [] = refl
    go (p ∷ ps) = by (bytes_eq p.0 name) (go ps)
      where
        by : (b : Bool) → has_value (record g { values = ps }) name ≡ is_some (value_in (record g { values = ps }) name)
            → b || has_value (record g { values = ps }) name ≡ is_some (option_map (λ q. q.1) (if b then Some p else find (λ q. bytes_eq q.0 name) ps))
        by true later = refl
        by false later = later

-- the value of a new name
value_new : (name value : Word) (flags files : List Word) (values : List (Word × Word))
    → has_value (record { values = values; flags = flags; files = files }) name ≡ false
    → value_in (with_value name value (record { values = values; flags = flags; files = files })) name ≡ Some value
value_new name value flags files [] h = rw (own_bytes name) refl
value_new name value flags files (p ∷ ps) h = go (bytes_eq p.0 name) refl h (λ any. value_new name value flags files ps any)
  where
    go : (b : Bool) → bytes_eq p.0 name ≡ b → b || has_value (record { values = ps; flags = flags; files = files }) name ≡ false
        → (has_value (record { values = ps; flags = flags; files = files }) name ≡ false
        → value_in (with_value name value (record { values = ps; flags = flags; files = files })) name ≡ Some value)
        → value_in (with_value name value (record { values = p ∷ ps; flags = flags; files = files })) name ≡ Some value
    go true e any later = absurd (true≢false any)
    go false e any later = rw e (later any)

value_kept : (name value other : Word) (flags files : List Word) (values : List (Word × Word)) → bytes_eq name other ≡ false
    → value_in (with_value name value (record { values = values; flags = flags; files = files })) other ≡ value_in (record { values = values; flags = flags; files = files }) other
value_kept name value other flags files [] apart = rw apart refl
value_kept name value other flags files (p ∷ ps) apart = go (bytes_eq p.0 other) (value_kept name value other flags files ps apart)
  where
    go : (b : Bool) → value_in (with_value name value (record { values = ps; flags = flags; files = files })) other ≡ value_in (record { values = ps; flags = flags; files = files }) other
        → option_map (λ (q : Word × Word). q.1) (if b then Some p else find (λ q. bytes_eq q.0 other) (ps ++ (name, value) ∷ []))
        ≡ option_map (λ (q : Word × Word). q.1) (if b then Some p else find (λ q. bytes_eq q.0 other) ps)
    go true later = refl
    go false later = later

flag_new : (names : List Word) (name : Word) → is_among (names ++ name ∷ []) name ≡ true
flag_new [] name = rw (own_bytes name) refl
flag_new (n ∷ names) name = go (bytes_eq n name) (flag_new names name)
  where
    go : (b : Bool) → is_among (names ++ name ∷ []) name ≡ true → b || is_among (names ++ name ∷ []) name ≡ true
    go true later = refl
    go false later = later

flag_kept : (names : List Word) (name other : Word) → bytes_eq name other ≡ false → is_among (names ++ name ∷ []) other ≡ is_among names other
flag_kept [] name other apart = rw apart refl
flag_kept (n ∷ names) name other apart = ap (λ b. bytes_eq n other || b) (flag_kept names name other apart)

-- ---- what is given is seen

module _ (o : Options) (apart : IsApart o) (rows : List Row) (g : Given) (shows : Shows o rows g) where
  pub value_seen : (name : Word) → is_among o.valued name ≡ true → has_row name rows ≡ has_value g name
  value_seen name h = has_row-at name rows ∙ ap is_some (shows.values name h) ∙ go (value_in g name) ∙ sym (has_value-in g name)
    where
      go : (v : Option Word) → is_some (option_map (value_row name) v) ≡ is_some v
      go None = refl
      go (Some x) = refl

  pub flag_seen : (name : Word) → is_among o.flags name ≡ true → has_row name rows ≡ is_among g.flags name
  flag_seen name h = has_row-at name rows ∙ ap is_some (shows.flags name h) ∙ go (is_among g.flags name)
    where
      go : (b : Bool) → is_some (if b then Some (flag_row name) else None) ≡ b
      go true = refl
      go false = refl

  none_at : (name : Word) → has_row name rows ≡ false → row_at name rows ≡ None
  none_at name h = go (row_at name rows) (sym (has_row-at name rows) ∙ h)
    where
      go : (r : Option Row) → is_some r ≡ false → r ≡ None
      go None e = refl
      go (Some x) e = absurd (true≢false e)

  -- a new option with a value
  pub shows_value : (name value : Word) → is_among o.valued name ≡ true → has_value g name ≡ false → Shows o (used (value_arg name) (value ∷ []) rows) (with_value name value g)
  shows_value name value among new =
      let none : has_row name rows ≡ false = value_seen name among ∙ new in
      rw (without_none name rows none) (record {
        values = λ other h. values other h (bytes_eq name other) refl;
        flags = λ other h. values_elsewhere name _ CommandLine (value ∷ []) other rows (differs_too o.flags other name h (apart.apart name among)) ∙ shows.flags other h;
        files = values_elsewhere name _ CommandLine (value ∷ []) (codes "file") rows (differs o.valued name (codes "file") among apart.no_value) ∙ shows.files;
      })
    where
      after : List Row
      after = Rattle.clap.specs.Walk.with_values name (reading_by (value_arg name)) CommandLine (value ∷ []) rows

      values : (other : Word) → is_among o.valued other ≡ true → (b : Bool) → bytes_eq name other ≡ b
          → row_at other after ≡ option_map (value_row other) (value_in (with_value name value g) other)
      values other h false e = values_elsewhere name _ CommandLine (value ∷ []) other rows e ∙ shows.values other h ∙ ap (option_map (value_row other)) (sym (value_kept name value other g.flags g.files g.values e))
      values other h true e = subst (λ x. row_at x after ≡ option_map (value_row x) (value_in (with_value name value g) x)) (same_bytes name other e)
          (new_at name _ CommandLine (value ∷ []) rows (none_at name (value_seen name among ∙ new)) ∙ ap (option_map (value_row name)) (sym (value_new name value g.flags g.files g.values new)))

  -- a new flag
  pub shows_flag : (name : Word) → is_among o.flags name ≡ true → is_among g.flags name ≡ false → Shows o (used (flag_arg name) [] rows) (with_flag name g)
  shows_flag name among new =
      let none : has_row name rows ≡ false = flag_seen name among ∙ new in
      rw (without_none name rows none) (record {
        values = λ other h. values_elsewhere name _ CommandLine (codes "true" ∷ []) other rows (differs o.flags name other among (apart.apart other h)) ∙ shows.values other h;
        flags = λ other h. flags other h (bytes_eq name other) refl;
        files = values_elsewhere name _ CommandLine (codes "true" ∷ []) (codes "file") rows (differs o.flags name (codes "file") among apart.no_flag) ∙ shows.files;
      })
    where
      after : List Row
      after = Rattle.clap.specs.Walk.with_values name (reading_by (flag_arg name)) CommandLine (codes "true" ∷ []) rows

      flags : (other : Word) → is_among o.flags other ≡ true → (b : Bool) → bytes_eq name other ≡ b
          → row_at other after ≡ (if is_among (g.flags ++ name ∷ []) other then Some (flag_row other) else None)
      flags other h false e = values_elsewhere name _ CommandLine (codes "true" ∷ []) other rows e ∙ shows.flags other h
          ∙ ap (λ b. if b then Some (flag_row other) else None) (sym (flag_kept g.flags name other e))
      flags other h true e = subst (λ x. row_at x after ≡ (if is_among (g.flags ++ name ∷ []) x then Some (flag_row x) else None)) (same_bytes name other e)
          (new_at name _ CommandLine (codes "true" ∷ []) rows (none_at name (flag_seen name among ∙ new)) ∙ ap (λ b. if b then Some (flag_row name) else None) (sym (flag_new g.flags name)))

  -- one more file
  pub shows_file : (file : Word) → Shows o (used file_arg (file ∷ []) rows) (with_files (file ∷ []) g)
  shows_file file = record {
    values = λ name h. values_elsewhere (codes "file") _ CommandLine (file ∷ []) name rows (differs_too o.valued name (codes "file") h apart.no_value) ∙ shows.values name h;
    flags = λ name h. values_elsewhere (codes "file") _ CommandLine (file ∷ []) name rows (differs_too o.flags name (codes "file") h apart.no_flag) ∙ shows.flags name h;
    files = values_at (codes "file") _ CommandLine (file ∷ []) rows ∙ go g.files (row_at (codes "file") rows) shows.files;
  }
    where
      go : (files : List Word) (r : Option Row) → r ≡ file_row files
          → row_at (codes "file") (Rattle.opl_words.proofs.Rows.more (codes "file") (reading_by file_arg) CommandLine (file ∷ []) r) ≡ file_row (files ++ file ∷ [])
      go [] r e = ap (λ x. row_at (codes "file") (Rattle.opl_words.proofs.Rows.more (codes "file") (reading_by file_arg) CommandLine (file ∷ []) x)) e
      go (f ∷ fs) r e = ap (λ x. row_at (codes "file") (Rattle.opl_words.proofs.Rows.more (codes "file") (reading_by file_arg) CommandLine (file ∷ []) x)) e
