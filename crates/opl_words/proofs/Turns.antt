-- One word of `clap`'s walk: whether it is refused, and where the walk stands behind it.
use Rattle.std.proofs.Common.{◌≡◌, ◌∙◌, ℕ, Bool, true, false, refl, sym, ap, true≢false, List, [], ◌∷◌, Option, Some, None, codes}
use Rattle.std.specs.Prelude.{bytes_eq, slice_get}
use Rattle.std.specs.Str.{chars}
use Rattle.clap.specs.Lexer.{long_of, short_of}
use Rattle.clap.specs.Kinds.{Kinds, or_else}
use Rattle.clap.specs.Faults.{flags_fault, react_fault, settle_fault, turn_fault}
use Rattle.clap.specs.Walk.{Held, Row, Rule, Waiting, Walk, arg_by_id, arg_by_long, idle, is_empty, is_pending, option, positional, pushed, reacted, settled, walked}
use Rattle.opl_words.specs.Requests.{Options, Word}
use Rattle.opl_words.proofs.Plain.{and_no}
use Rattle.opl_words.proofs.Rules.{args_of, file_arg, flag_arg, no_short, own_bytes, shape_with, value_arg}

-- ---- kinds of refusals

pub or_nil : (a : Kinds) → or_else a [] ≡ a
or_nil [] = refl
or_nil (k ∷ ks) = refl

pub or_assoc : (a b d : Kinds) → or_else (or_else a b) d ≡ or_else a (or_else b d)
or_assoc [] b d = refl
or_assoc (k ∷ ks) b d = refl

pub none_first : (a b : Kinds) → or_else a b ≡ [] → a ≡ []
none_first [] b h = refl
none_first (k ∷ ks) b h = h

pub none_second : (a b : Kinds) → or_else a b ≡ [] → b ≡ []
none_second a b h = sym (ap (λ x. or_else x b) (none_first a b h)) ∙ h

-- ---- where the walk stands

abbrev pub at : Held → Waiting → Bool → Walk
at h waiting is_trailing = record { held = h; waiting = waiting; position = 1; is_trailing = is_trailing; stopped = None }

abbrev pub hold : List Row → Option (Word × List Word) → Held
hold rows pending = record { rows = rows; pending = pending; skip = 0 }

-- nothing waits for a value
abbrev pub free : Bool → Waiting
free true = positional
free false = idle

module _ (o : Options) where
  abbrev c : List Rule
  c = args_of o

  -- behind a file
  abbrev pub with_file : Word → Held → Held
  with_file word h = pushed (codes "file") word (settled c h)

  -- `--`
  pub end_turn : (w : Waiting) (h : Held) → turn_fault (shape_with o) [] (at h w false) (codes "--") ≡ []
  end_turn idle h = refl
  end_turn (option id) h = refl
  end_turn positional h = refl

  pub end_walked : (w : Waiting) (h : Held) → walked c [] (at h w false) (codes "--") ≡ at h w true
  unfolding walked
  end_walked idle h = refl
  end_walked (option id) h = refl
  end_walked positional h = refl

  -- a file behind `--`
  pub trailing_turn : (w : Waiting) (h : Held) (word : Word) → turn_fault (shape_with o) [] (at h w true) word ≡ settle_fault c false h
  trailing_turn w h word = rw (and_no (is_pending file_arg h.pending)) refl

  pub trailing_walked : (w : Waiting) (h : Held) (word : Word) → walked c [] (at h w true) word ≡ at (with_file word h) positional true
  unfolding walked
  trailing_walked w h word = rw (and_no (is_pending file_arg h.pending)) refl

  module _ (h : Held) (word : Word) (no_end : bytes_eq word (45 ∷ 45 ∷ []) ≡ false) where
    module _ (no_long : long_of word ≡ None) (no_flags : short_of word ≡ None) where
      -- a file
      pub file_turn : (b : Bool) → turn_fault (shape_with o) [] (at h (free b) false) word ≡ settle_fault c false h
      file_turn true = rw (no_end, no_long, no_flags, and_no (is_pending file_arg h.pending)) refl
      file_turn false = rw (no_end, no_long, no_flags, and_no (is_pending file_arg h.pending)) refl

      pub file_walked : (b : Bool) → walked c [] (at h (free b) false) word ≡ at (with_file word h) positional false
      unfolding walked
      file_walked true = rw (no_end, no_long, no_flags, and_no (is_pending file_arg h.pending)) refl
      file_walked false = rw (no_end, no_long, no_flags, and_no (is_pending file_arg h.pending)) refl

    module _ (name value : Word) (long : long_of word ≡ Some (name, Some value)) where
      -- `--name=value`
      pub value_turn : (w : Waiting) → arg_by_long c name ≡ Some (value_arg name)
          → turn_fault (shape_with o) [] (at h w false) word ≡ react_fault c false (value_arg name) (value ∷ []) h
      value_turn idle arg = rw (no_end, long, arg) (or_nil _)
      value_turn (option id) arg = rw (no_end, long, arg) (or_nil _)
      value_turn positional arg = rw (no_end, long, arg) (or_nil _)

      pub value_walked : (w : Waiting) → arg_by_long c name ≡ Some (value_arg name)
          → walked c [] (at h w false) word ≡ at (reacted c (value_arg name) (value ∷ []) h) idle false
      unfolding walked
      value_walked idle arg = rw (no_end, long, arg) refl
      value_walked (option id) arg = rw (no_end, long, arg) refl
      value_walked positional arg = rw (no_end, long, arg) refl

      -- `--flag=value`
      pub flag_value_turn : (w : Waiting) → arg_by_long c name ≡ Some (flag_arg name) → turn_fault (shape_with o) [] (at h w false) word ≡ [] → ⊥
      flag_value_turn idle arg = rw (no_end, long, arg) (λ e. true≢false (ap is_empty (sym e)))
      flag_value_turn (option id) arg = rw (no_end, long, arg) (λ e. true≢false (ap is_empty (sym e)))
      flag_value_turn positional arg = rw (no_end, long, arg) (λ e. true≢false (ap is_empty (sym e)))

    module _ (name : Word) (long : long_of word ≡ Some (name, None)) where
      -- `--name`, of an option that wants a value
      pub name_turn : (w : Waiting) → arg_by_long c name ≡ Some (value_arg name) → turn_fault (shape_with o) [] (at h w false) word ≡ settle_fault c false h
      name_turn idle arg = rw (no_end, long, arg) (or_nil _)
      name_turn (option id) arg = rw (no_end, long, arg) (or_nil _)
      name_turn positional arg = rw (no_end, long, arg) (or_nil _)

      pub name_walked : (w : Waiting) → arg_by_long c name ≡ Some (value_arg name)
          → walked c [] (at h w false) word ≡ at (record (settled c h) { pending = Some (name, []) }) (option name) false
      unfolding walked
      name_walked idle arg = rw (no_end, long, arg) refl
      name_walked (option id) arg = rw (no_end, long, arg) refl
      name_walked positional arg = rw (no_end, long, arg) refl

      -- `--flag`
      pub flag_turn : (w : Waiting) → arg_by_long c name ≡ Some (flag_arg name) → turn_fault (shape_with o) [] (at h w false) word ≡ react_fault c false (flag_arg name) [] h
      flag_turn idle arg = rw (no_end, long, arg) (or_nil _)
      flag_turn (option id) arg = rw (no_end, long, arg) (or_nil _)
      flag_turn positional arg = rw (no_end, long, arg) (or_nil _)

      pub flag_walked : (w : Waiting) → arg_by_long c name ≡ Some (flag_arg name) → walked c [] (at h w false) word ≡ at (reacted c (flag_arg name) [] h) idle false
      unfolding walked
      flag_walked idle arg = rw (no_end, long, arg) refl
      flag_walked (option id) arg = rw (no_end, long, arg) refl
      flag_walked positional arg = rw (no_end, long, arg) refl

    -- a name of no option
    pub unknown_turn : (w : Waiting) (name : Word) (value : Option Word) → long_of word ≡ Some (name, value) → arg_by_long c name ≡ None
        → turn_fault (shape_with o) [] (at h w false) word ≡ [] → ⊥
    unknown_turn idle name value long arg = rw (no_end, long, arg) (λ e. true≢false (ap is_empty (sym e)))
    unknown_turn (option id) name value long arg = rw (no_end, long, arg) (λ e. true≢false (ap is_empty (sym e)))
    unknown_turn positional name value long arg = rw (no_end, long, arg) (λ e. true≢false (ap is_empty (sym e)))

  -- the value of an option that waits for it
  pub waited_turn : (rows : List Row) (name word : Word) → bytes_eq word (45 ∷ 45 ∷ []) ≡ false → long_of word ≡ None → short_of word ≡ None
      → turn_fault (shape_with o) [] (at (hold rows (Some (name, []))) (option name) false) word ≡ []
  waited_turn rows name word no_end no_long no_flags = rw (no_end, no_long, no_flags) refl

  pub waited_walked : (rows : List Row) (name word : Word) → bytes_eq word (45 ∷ 45 ∷ []) ≡ false → long_of word ≡ None → short_of word ≡ None
      → arg_by_id c name ≡ Some (value_arg name)
      → walked c [] (at (hold rows (Some (name, []))) (option name) false) word ≡ at (hold rows (Some (name, word ∷ []))) idle false
  unfolding walked
  waited_walked rows name word no_end no_long no_flags arg = rw (no_end, no_long, no_flags, arg, own_bytes name) refl

  -- `-x` is no option
  pub short_turn : (w : Waiting) (rows : List Row) (pending : Option (Word × List Word)) (word : Word) (x y : ℕ) (ys : Word)
      → bytes_eq word (45 ∷ 45 ∷ []) ≡ false → long_of word ≡ None → short_of word ≡ Some (y ∷ ys) → slice_get (chars (y ∷ ys)) 0 ≡ Some x
      → turn_fault (shape_with o) [] (at (hold rows pending) w false) word ≡ [] → ⊥
  unfolding flags_fault
  short_turn idle rows pending word x y ys no_end no_long short first =
      rw (no_end, no_long, short, first, no_short o x) (λ e. true≢false (ap is_empty (sym e)))
  short_turn (option id) rows pending word x y ys no_end no_long short first =
      rw (no_end, no_long, short, first, no_short o x) (λ e. true≢false (ap is_empty (sym e)))
  short_turn positional rows pending word x y ys no_end no_long short first =
      rw (no_end, no_long, short, first, no_short o x) (λ e. true≢false (ap is_empty (sym e)))
