-- The definition's reading and `clap`'s walk go word by word.
use Rattle.std.proofs.Common.{◌≡◌, ◌∙◌, ℕ, Bool, true, false, refl, sym, ap, subst, true≢false, List, [], ◌∷◌, Option, Some, None, codes}
use Rattle.std.specs.Str.{IsUtf8}
use Rattle.clap.specs.Kinds.{Kinds, or_else}
use Rattle.clap.specs.Faults.{react_fault, settle_fault, turn_fault, use_fault, walk_fault}
use Rattle.clap.specs.Walk.{Held, Row, Rule, Walk, arg_by_id, has_row, idle, is_empty, option, positional, reacted, settled, used, used_by_id}
use Rattle.opl_words.specs.Requests.{Given, Options, Word, attached_to, has_value, is_among, is_attached, is_dashed, name_of, read, read_value, with_files, with_flag, with_value}
use Rattle.opl_words.proofs.Plain.{no_end, not_named, turned}
use Rattle.opl_words.proofs.Rules.{args_of, flag_arg, id_value, long_flag, long_none, long_value, shape_with, value_arg}
use Rattle.opl_words.proofs.Shows.{IsApart, Shows, flag_seen, shows_file, shows_flag, shows_value, value_seen}
use Rattle.opl_words.proofs.Sorts.{attached_long, bare_long, by_sort, plain_long, plain_short}
use Rattle.opl_words.proofs.Turns as turn
use Rattle.opl_words.proofs.Turns.{at, free, hold, none_second}
use Rattle.opl_words.proofs.Walks.{AllTexts, Joins, by_name, dashed_fails, doomed, doomed_named, doomed_trailing, fails_next, fails_now, joins_next, rest_fault, rest_rows, trailing}

-- ---- one use

some_kind : (ks : Kinds) → is_empty ks ≡ false → ks ≡ [] → ⊥
some_kind ks h e = true≢false (sym (ap is_empty e) ∙ h)

value_use : (name value : Word) (rows : List Row) → has_row name rows ≡ false → use_fault false (value_arg name) (value ∷ []) rows ≡ []
value_use name value rows h = rw h refl

value_again : (name value : Word) (rows : List Row) → has_row name rows ≡ true → use_fault false (value_arg name) (value ∷ []) rows ≡ [] → ⊥
value_again name value rows h = some_kind (use_fault false (value_arg name) (value ∷ []) rows) (rw h refl)

flag_use : (name : Word) (rows : List Row) → has_row name rows ≡ false → use_fault false (flag_arg name) [] rows ≡ []
flag_use name rows h = rw h refl

flag_again : (name : Word) (rows : List Row) → has_row name rows ≡ true → use_fault false (flag_arg name) [] rows ≡ [] → ⊥
flag_again name rows h = some_kind (use_fault false (flag_arg name) [] rows) (rw h refl)

module _ (o : Options) (apart : IsApart o) where
  abbrev c : List Rule
  c = args_of o

  -- the reading and the walk from here on, where a file or an option may follow
  abbrev pub Ready : List Word → Type 0
  Ready words = (g : Given) (b : Bool) (rows : List Row) (pending : Option (Word × List Word)) → settle_fault c false (hold rows pending) ≡ []
      → Shows o (settled c (hold rows pending)).rows g
      → Joins o (read o g words) (rest_fault o (at (hold rows pending) (free b) false) words) (rest_rows o (at (hold rows pending) (free b) false) words)

  -- and where an option waits for its value
  abbrev pub Wanting : List Word → Type 0
  Wanting words = (g : Given) (name : Word) (rows : List Row) → is_among o.valued name ≡ true → Shows o rows g
      → Joins o (read_value o g name words) (rest_fault o (at (hold rows (Some (name, []))) (option name) false) words) (rest_rows o (at (hold rows (Some (name, []))) (option name) false) words)

  by_reading : (r s : Option Given) (kinds : Kinds) (rows : List Row) → s ≡ r → Joins o r kinds rows → Joins o s kinds rows
  by_reading r s kinds rows e h = subst (λ x. Joins o x kinds rows) (sym e) h

  module _ (words : List Word) (ready : Ready words) (wanting : Wanting words) (g : Given) (b : Bool) (rows : List Row) (pending : Option (Word × List Word))
      (passes : settle_fault c false (hold rows pending) ≡ []) (shows : Shows o (settled c (hold rows pending)).rows g) where
    abbrev h : Held
    h = hold rows pending

    abbrev w : Walk
    w = at (hold rows pending) (free b) false

    abbrev found : List Row
    found = (settled c (hold rows pending)).rows

    module _ (x : ℕ) (xs : Word) where
      abbrev word : Word
      word = 45 ∷ 45 ∷ x ∷ xs

      abbrev name : Word
      name = name_of (45 ∷ 45 ∷ x ∷ xs)

      abbrev value : Word
      value = attached_to (45 ∷ 45 ∷ x ∷ xs)

      abbrev Goal : Type 0
      Goal = Joins o (read o g (word ∷ words)) (rest_fault o w (word ∷ words)) (rest_rows o w (word ∷ words))

      refused : read o g (word ∷ words) ≡ None → (turn_fault (shape_with o) [] w word ≡ [] → ⊥) → Goal
      refused e bad = by_reading None (read o g (word ∷ words)) _ _ e (fails_now o w word words bad)

      -- `--name=value`
      with_attached : is_attached word ≡ true → Goal
      with_attached att = by_name o name Goal
          (λ v. given v (has_value g name) refl)
          (λ v f. refused (rw (att, v) refl) (turn.flag_value_turn o h word refl name value (attached_long x xs att) (free b) (long_flag o name v f)))
          (λ v f. refused (rw (att, v) refl) (turn.unknown_turn o h word refl (free b) name (Some value) (attached_long x xs att) (long_none o name v f)))
        where
          turn_is : is_among o.valued name ≡ true → turn_fault (shape_with o) [] w word ≡ react_fault c false (value_arg name) (value ∷ []) h
          turn_is v = turn.value_turn o h word refl name value (attached_long x xs att) (free b) (long_value o name v)

          given : is_among o.valued name ≡ true → (r : Bool) → has_value g name ≡ r → Goal
          given v false new = by_reading (read o (with_value name value g) words) (read o g (word ∷ words)) _ _ (rw (att, v, new) refl)
              (joins_next o (read o (with_value name value g) words) w (at (reacted c (value_arg name) (value ∷ []) h) idle false) word words
              (turn_is v ∙ ap (λ k. or_else k (use_fault false (value_arg name) (value ∷ []) found)) passes ∙ value_use name value found (value_seen o apart found g shows name v ∙ new))
              (turn.value_walked o h word refl name value (attached_long x xs att) (free b) (long_value o name v))
              (ready (with_value name value g) false (used (value_arg name) (value ∷ []) found) None refl (shows_value o apart found g shows name value v new)))
          given v true old = refused (rw (att, v, old) refl)
              (λ e. value_again name value found (value_seen o apart found g shows name v ∙ old) (none_second (settle_fault c false h) _ (sym (turn_is v) ∙ e)))

      -- `--name`
      bare : is_attached word ≡ false → Goal
      bare att = by_name o name Goal
          (λ v. by_reading (read_value o g name words) (read o g (word ∷ words)) _ _ (rw (att, v) refl)
          (joins_next o (read_value o g name words) w (at (record (settled c h) { pending = Some (name, []) }) (option name) false) word words
          (turn.name_turn o h word refl name (bare_long x xs att) (free b) (long_value o name v) ∙ passes)
          (turn.name_walked o h word refl name (bare_long x xs att) (free b) (long_value o name v))
          (wanting g name found v shows)))
          (λ v f. flagged v f (is_among g.flags name) refl)
          (λ v f. refused (rw (att, v, f) refl) (turn.unknown_turn o h word refl (free b) name None (bare_long x xs att) (long_none o name v f)))
        where
          turn_is : is_among o.valued name ≡ false → is_among o.flags name ≡ true → turn_fault (shape_with o) [] w word ≡ react_fault c false (flag_arg name) [] h
          turn_is v f = turn.flag_turn o h word refl name (bare_long x xs att) (free b) (long_flag o name v f)

          flagged : is_among o.valued name ≡ false → is_among o.flags name ≡ true → (r : Bool) → is_among g.flags name ≡ r → Goal
          flagged v f false new = by_reading (read o (with_flag name g) words) (read o g (word ∷ words)) _ _ (rw (att, v, f, new) refl)
              (joins_next o (read o (with_flag name g) words) w (at (reacted c (flag_arg name) [] h) idle false) word words
              (turn_is v f ∙ ap (λ k. or_else k (use_fault false (flag_arg name) [] found)) passes ∙ flag_use name found (flag_seen o apart found g shows name f ∙ new))
              (turn.flag_walked o h word refl name (bare_long x xs att) (free b) (long_flag o name v f))
              (ready (with_flag name g) false (used (flag_arg name) [] found) None refl (shows_flag o apart found g shows name f new)))
          flagged v f true old = refused (rw (att, v, f, old) refl)
              (λ e. flag_again name found (flag_seen o apart found g shows name f ∙ old) (none_second (settle_fault c false h) _ (sym (turn_is v f) ∙ e)))

      pub ready_named : Goal
      ready_named = go (is_attached word) refl
        where
          go : (r : Bool) → is_attached word ≡ r → Goal
          go true att = with_attached att
          go false att = bare att

    pub ready_word : (word : Word) → IsUtf8 word → Joins o (read o g (word ∷ words)) (rest_fault o w (word ∷ words)) (rest_rows o w (word ∷ words))
    ready_word = by_sort (λ t. IsUtf8 t → Joins o (read o g (t ∷ words)) (rest_fault o w (t ∷ words)) (rest_rows o w (t ∷ words)))
        (λ u. joins_next o (Some (with_files words g)) w (at h (free b) true) (codes "--") words (turn.end_turn o (free b) h) (turn.end_walked o (free b) h)
        (trailing o apart words (free b) g rows pending passes shows))
        (λ x xs u. ready_named x xs)
        (λ x xs e u. by_reading None (read o g ((45 ∷ x ∷ xs) ∷ words)) _ _ (rw (e, turned x 45 e) refl) (fails_now o w (45 ∷ x ∷ xs) words (dashed_fails o (free b) rows pending x xs e u)))
        (λ t e u. by_reading (read o (with_files (t ∷ []) g) words) (read o g (t ∷ words)) _ _ (rw (no_end t e, not_named t e, e) refl)
        (joins_next o (read o (with_files (t ∷ []) g) words) w (at (turn.with_file o t h) positional false) t words
        (turn.file_turn o h t (no_end t e) (plain_long t e) (plain_short t e) b ∙ passes) (turn.file_walked o h t (no_end t e) (plain_long t e) (plain_short t e) b)
        (ready (with_files (t ∷ []) g) true found (Some (codes "file", t ∷ [])) refl (shows_file o apart found g shows t))))

  module _ (words : List Word) (texts : AllTexts words) (ready : Ready words) (g : Given) (name : Word) (rows : List Row) (among : is_among o.valued name ≡ true) (shows : Shows o rows g) where
    abbrev waiting_at : Walk
    waiting_at = at (hold rows (Some (name, []))) (option name) false

    arg_is : arg_by_id c name ≡ Some (value_arg name)
    arg_is = id_value o name apart.no_value among

    -- no value has come
    pub still_waits : settle_fault c false (hold rows (Some (name, []))) ≡ [] → ⊥
    still_waits = some_kind (settle_fault c false (hold rows (Some (name, [])))) (rw arg_is refl)

    waited : (t : Word) → is_dashed t ≡ false → (r : Bool) → has_value g name ≡ r
        → Joins o (read_value o g name (t ∷ words)) (rest_fault o waiting_at (t ∷ words)) (rest_rows o waiting_at (t ∷ words))
    waited t e false new = by_reading (read o (with_value name t g) words) (read_value o g name (t ∷ words)) _ _ (rw (e, among, new) refl)
        (joins_next o (read o (with_value name t g) words) waiting_at (at (hold rows (Some (name, t ∷ []))) idle false) t words
        (turn.waited_turn o rows name t (no_end t e) (plain_long t e) (plain_short t e))
        (turn.waited_walked o rows name t (no_end t e) (plain_long t e) (plain_short t e) arg_is)
        (ready (with_value name t g) false rows (Some (name, t ∷ []))
        (rw arg_is (value_use name t rows (value_seen o apart rows g shows name among ∙ new)))
        (subst (λ a. Shows o (used_by_id a (t ∷ []) rows) (with_value name t g)) (sym arg_is) (shows_value o apart rows g shows name t among new))))
    waited t e true old = by_reading None (read_value o g name (t ∷ words)) _ _ (rw (e, among, old) refl)
        (fails_next o waiting_at (at (hold rows (Some (name, t ∷ []))) idle false) t words
        (turn.waited_walked o rows name t (no_end t e) (plain_long t e) (plain_short t e) arg_is)
        (doomed o words texts false rows (Some (name, t ∷ []))
        (rw arg_is (value_again name t rows (value_seen o apart rows g shows name among ∙ old)))))

    pub wanting_word : (word : Word) → IsUtf8 word → Joins o (read_value o g name (word ∷ words)) (rest_fault o waiting_at (word ∷ words)) (rest_rows o waiting_at (word ∷ words))
    wanting_word = by_sort (λ t. IsUtf8 t → Joins o (read_value o g name (t ∷ words)) (rest_fault o waiting_at (t ∷ words)) (rest_rows o waiting_at (t ∷ words)))
        (λ u. fails_next o waiting_at (at (hold rows (Some (name, []))) (option name) true) (codes "--") words (turn.end_walked o (option name) (hold rows (Some (name, []))))
        (doomed_trailing o (option name) (hold rows (Some (name, []))) words still_waits))
        (λ x xs u. fails_now o waiting_at (45 ∷ 45 ∷ x ∷ xs) words (doomed_named o (option name) (hold rows (Some (name, []))) x xs still_waits))
        (λ x xs e u. fails_now o waiting_at (45 ∷ x ∷ xs) words (dashed_fails o (option name) rows (Some (name, [])) x xs e u))
        (λ t e u. waited t e (has_value g name) refl)

  pub all_words : (words : List Word) → AllTexts words → Ready words × Wanting words
  unfolding walk_fault
  all_words [] texts = ((λ g b rows pending passes shows. (passes, shows)), λ g name rows among shows. still_waits [] tt (λ g b rows pending passes shows. (passes, shows)) g name rows among shows)
  all_words (word ∷ words) texts =
      let later = all_words words texts.1 in (
        (λ g b rows pending passes shows. ready_word words later.0 later.1 g b rows pending passes shows word texts.0),
        λ g name rows among shows. wanting_word words texts.1 later.0 g name rows among shows word texts.0,
      )
