-- `clap`'s walk over all words is the definition's reading of them.
use Rattle.std.proofs.Common.{◌≡◌, ◌∙◌, ℕ, nat_eq, Bool, true, false, refl, sym, ap, subst, List, [], ◌∷◌, Option, Some, None, codes}
use Rattle.std.specs.Prelude.{⊤, MatchOption, if◌then◌else◌}
use Rattle.std.specs.List.{fold}
use Rattle.std.specs.Option.{option_and_then}
use Rattle.std.specs.Str.{IsUtf8}
use Rattle.std.proofs.lemmas.List.{append-nil, append_assoc}
use Rattle.clap.specs.Kinds.{Kinds, or_else}
use Rattle.clap.specs.Faults.{settle_fault, turn_fault, walk_fault}
use Rattle.clap.specs.Walk.{Held, Row, Rule, Waiting, Walk, positional, settled, walked}
use Rattle.opl_words.specs.Requests.{Given, Options, Word, attached_to, is_among, is_attached, name_of, with_files}
use Rattle.opl_words.proofs.Plain.{no_end}
use Rattle.opl_words.proofs.Rules.{args_of, long_flag, long_none, long_value, shape_with}
use Rattle.opl_words.proofs.Shows.{IsApart, Shows, shows_file}
use Rattle.opl_words.proofs.Sorts.{attached_long, bare_long, by_sort, dashed_long, dashed_short, first_char, plain_long, plain_short}
use Rattle.opl_words.proofs.Turns as turn
use Rattle.opl_words.proofs.Turns.{at, free, hold, none_first, none_second, or_assoc}

-- what is refused of these words, and what is found, from where the walk stands
abbrev pub rest_fault : Options → Walk → List Word → Kinds
rest_fault o w words = or_else (walk_fault (shape_with o) [] w words) (settle_fault (args_of o) false (fold (walked (args_of o) []) w words).held)

abbrev pub rest_rows : Options → Walk → List Word → List Row
rest_rows o w words = (settled (args_of o) (fold (walked (args_of o) []) w words).held).rows

-- a reading and a walk come to the same
abbrev pub Joins : Options → Option Given → Kinds → List Row → Type 0
Joins o r kinds rows = MatchOption r ((kinds ≡ []) → ⊥) (λ g. (kinds ≡ []) × Shows o rows g)

-- all words are texts
abbrev pub AllTexts : List Word → Type 0
AllTexts [] = ⊤
AllTexts (word ∷ words) = IsUtf8 word × AllTexts words

module _ (o : Options) where
  abbrev c : List Rule
  c = args_of o

  -- ---- one word more

  next_fault : (w : Walk) (word : Word) (words : List Word)
      → rest_fault o w (word ∷ words) ≡ or_else (turn_fault (shape_with o) [] w word) (rest_fault o (walked c [] w word) words)
  unfolding walk_fault
  next_fault w word words = or_assoc (turn_fault (shape_with o) [] w word) (walk_fault (shape_with o) [] (walked c [] w word) words) _

  pub joins_next : (r : Option Given) (w after : Walk) (word : Word) (words : List Word) → turn_fault (shape_with o) [] w word ≡ [] → walked c [] w word ≡ after
      → Joins o r (rest_fault o after words) (rest_rows o after words) → Joins o r (rest_fault o w (word ∷ words)) (rest_rows o w (word ∷ words))
  joins_next r w after word words passes is h =
      let kinds : rest_fault o w (word ∷ words) ≡ rest_fault o after words = next_fault w word words
      ∙ ap (λ t. or_else t (rest_fault o (walked c [] w word) words)) passes ∙ ap (λ v. rest_fault o v words) is in
      let rows : rest_rows o w (word ∷ words) ≡ rest_rows o after words = ap (λ v. rest_rows o v words) is in
      subst (λ k. Joins o r k (rest_rows o w (word ∷ words))) (sym kinds) (subst (λ x. Joins o r (rest_fault o after words) x) (sym rows) h)

  pub fails_now : (w : Walk) (word : Word) (words : List Word) → (turn_fault (shape_with o) [] w word ≡ [] → ⊥) → rest_fault o w (word ∷ words) ≡ [] → ⊥
  fails_now w word words bad e = bad (none_first _ (rest_fault o (walked c [] w word) words) (sym (next_fault w word words) ∙ e))

  pub fails_next : (w after : Walk) (word : Word) (words : List Word) → walked c [] w word ≡ after → (rest_fault o after words ≡ [] → ⊥) → rest_fault o w (word ∷ words) ≡ [] → ⊥
  fails_next w after word words is bad e =
      bad (ap (λ v. rest_fault o v words) (sym is) ∙ none_second (turn_fault (shape_with o) [] w word) _ (sym (next_fault w word words) ∙ e))

  -- ---- once something is refused

  pub doomed_trailing : (w : Waiting) (h : Held) (words : List Word) → (settle_fault c false h ≡ [] → ⊥) → rest_fault o (at h w true) words ≡ [] → ⊥
  unfolding walk_fault
  doomed_trailing w h [] bad = bad
  doomed_trailing w h (word ∷ words) bad = fails_now (at h w true) word words (λ e. bad (sym (turn.trailing_turn o w h word) ∙ e))

  -- the name of an option with a value, of a flag, or of none
  pub by_name : (name : Word) (P : Type 0) → (is_among o.valued name ≡ true → P) → (is_among o.valued name ≡ false → is_among o.flags name ≡ true → P)
      → (is_among o.valued name ≡ false → is_among o.flags name ≡ false → P) → P
  by_name name P value flag none = go (is_among o.valued name) refl
    where
      other : is_among o.valued name ≡ false → (b : Bool) → is_among o.flags name ≡ b → P
      other e true f = flag e f
      other e false f = none e f

      go : (b : Bool) → is_among o.valued name ≡ b → P
      go true e = value e
      go false e = other e (is_among o.flags name) refl

  -- an option where something before it is refused
  pub doomed_named : (w : Waiting) (h : Held) (x : ℕ) (xs : Word) → (settle_fault c false h ≡ [] → ⊥) → turn_fault (shape_with o) [] (at h w false) (45 ∷ 45 ∷ x ∷ xs) ≡ [] → ⊥
  doomed_named w h x xs bad = go (is_attached word) refl
    where
      word : Word
      word = 45 ∷ 45 ∷ x ∷ xs

      name : Word
      name = name_of word

      go : (b : Bool) → is_attached word ≡ b → turn_fault (shape_with o) [] (at h w false) word ≡ [] → ⊥
      go true att = by_name name (turn_fault (shape_with o) [] (at h w false) word ≡ [] → ⊥)
          (λ v e. bad (none_first _ _ (sym (turn.value_turn o h word refl name (attached_to word) (attached_long x xs att) w (long_value o name v)) ∙ e)))
          (λ v f. turn.flag_value_turn o h word refl name (attached_to word) (attached_long x xs att) w (long_flag o name v f))
          (λ v f. turn.unknown_turn o h word refl w name (Some (attached_to word)) (attached_long x xs att) (long_none o name v f))
      go false att = by_name name (turn_fault (shape_with o) [] (at h w false) word ≡ [] → ⊥)
          (λ v e. bad (sym (turn.name_turn o h word refl name (bare_long x xs att) w (long_value o name v)) ∙ e))
          (λ v f e. bad (none_first _ _ (sym (turn.flag_turn o h word refl name (bare_long x xs att) w (long_flag o name v f)) ∙ e)))
          (λ v f. turn.unknown_turn o h word refl w name None (bare_long x xs att) (long_none o name v f))

  dashed_end : (x : ℕ) (xs : Word) → nat_eq x 45 ≡ false → Rattle.std.specs.Prelude.bytes_eq (45 ∷ x ∷ xs) (45 ∷ 45 ∷ []) ≡ false
  dashed_end x xs e = rw e refl

  -- `-x` fails anywhere
  pub dashed_fails : (w : Waiting) (rows : List Row) (pending : Option (Word × List Word)) (x : ℕ) (xs : Word) → nat_eq x 45 ≡ false → IsUtf8 (45 ∷ x ∷ xs)
      → turn_fault (shape_with o) [] (at (hold rows pending) w false) (45 ∷ x ∷ xs) ≡ [] → ⊥
  dashed_fails w rows pending x xs e u =
      let first = first_char x xs u in
      turn.short_turn o w rows pending (45 ∷ x ∷ xs) first.0 x xs (dashed_end x xs e) (dashed_long x xs e) (dashed_short x xs e) first.1

  pub doomed : (words : List Word) → AllTexts words → (b : Bool) (rows : List Row) (pending : Option (Word × List Word))
      → (settle_fault c false (hold rows pending) ≡ [] → ⊥) → rest_fault o (at (hold rows pending) (free b) false) words ≡ [] → ⊥
  unfolding walk_fault
  doomed [] u b rows pending bad = bad
  doomed (word ∷ words) u b rows pending bad = by_sort (λ t. IsUtf8 t → rest_fault o w (t ∷ words) ≡ [] → ⊥)
      (λ t. fails_next w (at h (free b) true) (codes "--") words (turn.end_walked o (free b) h) (doomed_trailing (free b) h words bad))
      (λ x xs t. fails_now w (45 ∷ 45 ∷ x ∷ xs) words (doomed_named (free b) h x xs bad))
      (λ x xs e t. fails_now w (45 ∷ x ∷ xs) words (dashed_fails (free b) rows pending x xs e t))
      (λ t e v. fails_now w t words (λ z. bad (sym (turn.file_turn o h t (no_end t e) (plain_long t e) (plain_short t e) b) ∙ z)))
      word u.0
    where
      h : Held
      h = hold rows pending

      w : Walk
      w = at h (free b) false

  -- ---- behind `--`

  module _ (apart : IsApart o) where
    pub trailing : (words : List Word) (w : Waiting) (g : Given) (rows : List Row) (pending : Option (Word × List Word))
        → settle_fault c false (hold rows pending) ≡ [] → Shows o (settled c (hold rows pending)).rows g
        → Joins o (Some (with_files words g)) (rest_fault o (at (hold rows pending) w true) words) (rest_rows o (at (hold rows pending) w true) words)
    unfolding walk_fault
    trailing [] w g rows pending passes shows = (passes, subst (λ fs. Shows o (settled c (hold rows pending)).rows (record g { files = fs })) (sym (append-nil g.files)) shows)
    trailing (word ∷ words) w g rows pending passes shows =
        joins_next (Some (with_files (word ∷ words) g)) (at (hold rows pending) w true) (at (turn.with_file o word (hold rows pending)) positional true) word words
        (turn.trailing_turn o w (hold rows pending) word ∙ passes) (turn.trailing_walked o w (hold rows pending) word)
        (subst (λ fs. Joins o (Some (record g { files = fs })) (rest_fault o (at (turn.with_file o word (hold rows pending)) positional true) words) (rest_rows o (at (turn.with_file o word (hold rows pending)) positional true) words))
        (append_assoc g.files (word ∷ []) words)
        (trailing words positional (with_files (word ∷ []) g) (settled c (hold rows pending)).rows (Some (codes "file", word ∷ [])) refl
        (shows_file o apart (settled c (hold rows pending)).rows g shows word)))
