-- What `clap` answers for whole calls is the definition's reading.
use Rattle.std.proofs.Common.{◌≡◌, ◌∙◌, ◌||◌, Bool, true, false, refl, sym, ap, subst, true≢false, List, [], ◌∷◌, map, Option, Some, None, codes, String, string_bytes}
use Rattle.std.specs.Prelude.{⊤, MatchOption, bytes_eq, is_some, option_map, slice_get, unwrap_or, if◌then◌else◌}
use Rattle.std.specs.Option.{option_and_then}
use Rattle.std.proofs.lemmas.Str.{IsUtf8-string_bytes}
use Rattle.clap.specs.Kinds.{or_else}
use Rattle.clap.specs.Faults.{default_fault, defaults_fault, fault_of}
use Rattle.clap.specs.Walk.{Row, Rule, Walk, all_of, first_of, has_row, idle, is_empty, nothing_held, one_of, with_default}
use Rattle.clap.specs.Simple.{built, matches_of}
use Rattle.clap.proofs.FaultLemmas.{leaf_fault}
use Rattle.clap.specs.declared.parser.matches.ValueSource.TheVariants.{DefaultValue}
use Rattle.opl_words.specs.Commands.{files_app, solve_app}
use Rattle.opl_words.specs.Readings.{SolveWords, of_given}
use Rattle.opl_words.specs.Requests.{Given, Word, is_among, no_options, nothing, read, solve_options, value_in}
use Rattle.opl_words.proofs.Rules.{args_of, file_arg, flag_arg, same_bytes, value_arg}
use Rattle.opl_words.proofs.Rows.{has_row-at, new_at, row_at, values_elsewhere}
use Rattle.opl_words.proofs.Shows.{IsApart, Shows, file_row, flag_row, value_row}
use Rattle.opl_words.proofs.Turns.{at, hold, or_nil}
use Rattle.opl_words.proofs.Walks.{AllTexts, Joins, rest_fault, rest_rows}
use Rattle.opl_words.proofs.WordByWord.{all_words}

-- ---- names

pub none_apart : IsApart no_options
none_apart = record { no_value = refl; no_flag = refl; apart = λ name h. refl }

pub solve_apart : IsApart solve_options
solve_apart = record { no_value = refl; no_flag = refl; apart = λ name h. go name (bytes_eq (codes "limit") name) refl (bytes_eq (codes "budget") name) refl h }
  where
    go : (name : Word) (l : Bool) → bytes_eq (codes "limit") name ≡ l → (b : Bool) → bytes_eq (codes "budget") name ≡ b → l || (b || false) ≡ true → is_among solve_options.flags name ≡ false
    go name true e b f h = subst (λ n. is_among solve_options.flags n ≡ false) (same_bytes (codes "limit") name e) refl
    go name false e true f h = subst (λ n. is_among solve_options.flags n ≡ false) (same_bytes (codes "budget") name f) refl
    go name false e false f h = absurd (true≢false (sym h))

pub all_texts : {Z : Type 0} (words : List (String Z)) → AllTexts (map (λ word. string_bytes word) words)
all_texts [] = tt
all_texts (word ∷ words) = (IsUtf8-string_bytes word, all_texts words)

-- ---- behind the last word

either : {A : Type 0} (b : Bool) (x : A) → (if b then x else x) ≡ x
either true x = refl
either false x = refl

or_yes : (b : Bool) → b || true ≡ true
or_yes true = refl
or_yes false = refl

no_default : (rows : List Row) (a : Rule) → is_empty a.defaults ≡ true → default_fault rows a ≡ []
no_default rows a h = rw (h, or_yes (has_row a.id rows)) refl

flag_default : (rows : List Row) (name : Word) → default_fault rows (flag_arg name) ≡ []
flag_default rows name = go (has_row name rows) refl
  where
    go : (b : Bool) → has_row name rows ≡ b → default_fault rows (flag_arg name) ≡ []
    go true e = rw e refl
    go false e = rw e refl

-- the arguments whose defaults pass
abbrev Fine : List Rule → Type 0
Fine [] = ⊤
Fine (a ∷ rest) = ((rows : List Row) → default_fault rows a ≡ []) × Fine rest

defaults_pass : (args : List Rule) → Fine args → (rows : List Row) → defaults_fault rows args ≡ []
unfolding defaults_fault
defaults_pass [] fine rows = refl
defaults_pass (a ∷ rest) fine rows = ap (λ k. or_else k (defaults_fault (with_default rows a) rest)) (fine.0 rows) ∙ defaults_pass rest fine.1 (with_default rows a)

abbrev start : Walk
start = at (hold [] None) idle false

pub files_fault : (words : List Word) → fault_of files_app words ≡ rest_fault no_options start words
files_fault words = leaf_fault (built files_app) nothing_held words refl
    ∙ ap (λ k. or_else (Rattle.clap.specs.Faults.walk_fault (built files_app).top [] start words) (or_else (Rattle.clap.specs.Faults.settle_fault (args_of no_options) false (Rattle.clap.specs.Walk.walk (args_of no_options) [] nothing_held words).held) (or_else k [])))
    (defaults_pass (args_of no_options) ((λ rows. no_default rows file_arg refl), tt) _)
    ∙ ap (or_else (Rattle.clap.specs.Faults.walk_fault (built files_app).top [] start words)) (or_nil _)

pub solve_fault : (words : List Word) → fault_of solve_app words ≡ rest_fault solve_options start words
solve_fault words = leaf_fault (built solve_app) nothing_held words refl
    ∙ ap (λ k. or_else (Rattle.clap.specs.Faults.walk_fault (built solve_app).top [] start words) (or_else (Rattle.clap.specs.Faults.settle_fault (args_of solve_options) false (Rattle.clap.specs.Walk.walk (args_of solve_options) [] nothing_held words).held) (or_else k [])))
    (defaults_pass (args_of solve_options)
    ((λ rows. no_default rows file_arg refl), ((λ rows. no_default rows (value_arg (codes "limit")) refl), ((λ rows. no_default rows (value_arg (codes "budget")) refl), ((λ rows. flag_default rows (codes "improving")), tt)))) _)
    ∙ ap (or_else (Rattle.clap.specs.Faults.walk_fault (built solve_app).top [] start words)) (or_nil _)

-- ---- what is found in the end

pub files_rows : (words : List Word) → matches_of files_app words ≡ rest_rows no_options start words
files_rows words = either (has_row (codes "file") (rest_rows no_options start words)) (rest_rows no_options start words)

pub solve_rows : (words : List Word) → matches_of solve_app words ≡ with_default (rest_rows solve_options start words) (flag_arg (codes "improving"))
solve_rows words =
    let rows = rest_rows solve_options start words in
    ap (λ x. with_default (with_default (with_default x (value_arg (codes "limit"))) (value_arg (codes "budget"))) (flag_arg (codes "improving"))) (either (has_row (codes "file") rows) rows)
    ∙ ap (λ x. with_default (with_default x (value_arg (codes "budget"))) (flag_arg (codes "improving"))) (either (has_row (codes "limit") rows) rows)
    ∙ ap (λ x. with_default x (flag_arg (codes "improving"))) (either (has_row (codes "budget") rows) rows)

-- the files, where there is one
abbrev pub some_files : List Word → Option (List Word)
some_files [] = None
some_files (file ∷ files) = Some (file ∷ files)

files_shown : (files : List Word) → option_map (λ (r : Row). r.values) (file_row files) ≡ some_files files
files_shown [] = refl
files_shown (file ∷ files) = refl

-- a command takes words exactly where they read, with their files
pub files_whole : (words : List Word) → AllTexts words
    → MatchOption (read no_options nothing words) ((fault_of files_app words ≡ []) → ⊥)
    (λ g. (fault_of files_app words ≡ []) × (all_of (codes "file") (matches_of files_app words) ≡ some_files g.files))
files_whole words texts = go (read no_options nothing words)
    ((all_words no_options none_apart words texts).0 nothing false [] None refl (record { values = λ name h. absurd (true≢false (sym h)); flags = λ name h. absurd (true≢false (sym h)); files = refl }))
  where
    go : (r : Option Given) → Joins no_options r (rest_fault no_options start words) (rest_rows no_options start words)
        → MatchOption r ((fault_of files_app words ≡ []) → ⊥) (λ g. (fault_of files_app words ≡ []) × (all_of (codes "file") (matches_of files_app words) ≡ some_files g.files))
    go None h = λ e. h (sym (files_fault words) ∙ e)
    go (Some g) h = (files_fault words ∙ h.0, ap (all_of (codes "file")) (files_rows words) ∙ ap (option_map (λ (r : Row). r.values)) h.1.files ∙ files_shown g.files)

-- what the words behind `solve` have given, as its matches show it
pub record SolveShown (rows : List Row) (g : Given) : Type 0 where
  pub limit : first_of (codes "limit") rows ≡ value_in g (codes "limit")
  pub budget : first_of (codes "budget") rows ≡ value_in g (codes "budget")
  pub improving : one_of (codes "improving") rows ≡ Some (if is_among g.flags (codes "improving") then codes "true" else codes "false")
  pub files : all_of (codes "file") rows ≡ some_files g.files

-- a default changes no other row
default_elsewhere : (other : Word) (rows : List Row) → bytes_eq (codes "improving") other ≡ false → row_at other (with_default rows (flag_arg (codes "improving"))) ≡ row_at other rows
default_elsewhere other rows apart = go (has_row (codes "improving") rows) refl
  where
    go : (b : Bool) → has_row (codes "improving") rows ≡ b → row_at other (with_default rows (flag_arg (codes "improving"))) ≡ row_at other rows
    go true e = rw e refl
    go false e = rw e (values_elsewhere (codes "improving") _ DefaultValue (codes "false" ∷ []) other rows apart)

value_text : (name : Word) (value : Option Word) → option_and_then (λ (r : Row). slice_get r.values 0) (option_map (value_row name) value) ≡ value
value_text name None = refl
value_text name (Some value) = refl

-- the flag, given or by its default
improving_text : (rows : List Row) (b : Bool) → row_at (codes "improving") rows ≡ (if b then Some (flag_row (codes "improving")) else None)
    → one_of (codes "improving") (with_default rows (flag_arg (codes "improving"))) ≡ Some (if b then codes "true" else codes "false")
improving_text rows true h =
    let has : has_row (codes "improving") rows ≡ true = has_row-at (codes "improving") rows ∙ ap is_some h in
    rw (has, h) refl
improving_text rows false h =
    let lacks : has_row (codes "improving") rows ≡ false = has_row-at (codes "improving") rows ∙ ap is_some h in
    rw (lacks, new_at (codes "improving") _ DefaultValue (codes "false" ∷ []) rows h) refl

solve_shown : (rows : List Row) (g : Given) → Shows solve_options rows g → SolveShown (with_default rows (flag_arg (codes "improving"))) g
solve_shown rows g h = record {
  limit = ap (option_and_then (λ (r : Row). slice_get r.values 0)) (default_elsewhere (codes "limit") rows refl ∙ h.values (codes "limit") refl) ∙ value_text (codes "limit") (value_in g (codes "limit"));
  budget = ap (option_and_then (λ (r : Row). slice_get r.values 0)) (default_elsewhere (codes "budget") rows refl ∙ h.values (codes "budget") refl) ∙ value_text (codes "budget") (value_in g (codes "budget"));
  improving = improving_text rows (is_among g.flags (codes "improving")) (h.flags (codes "improving") refl);
  files = ap (option_map (λ (r : Row). r.values)) (default_elsewhere (codes "file") rows refl ∙ h.files) ∙ files_shown g.files;
}

pub solve_whole : (words : List Word) → AllTexts words
    → MatchOption (read solve_options nothing words) ((fault_of solve_app words ≡ []) → ⊥) (λ g. (fault_of solve_app words ≡ []) × SolveShown (matches_of solve_app words) g)
solve_whole words texts = go (read solve_options nothing words)
    ((all_words solve_options solve_apart words texts).0 nothing false [] None refl (record { values = λ name h. refl; flags = λ name h. refl; files = refl }))
  where
    go : (r : Option Given) → Joins solve_options r (rest_fault solve_options start words) (rest_rows solve_options start words)
        → MatchOption r ((fault_of solve_app words ≡ []) → ⊥) (λ g. (fault_of solve_app words ≡ []) × SolveShown (matches_of solve_app words) g)
    go None h = λ e. h (sym (solve_fault words) ∙ e)
    go (Some g) h = (solve_fault words ∙ h.0, subst (λ rows. SolveShown rows g) (sym (solve_rows words)) (solve_shown (rest_rows solve_options start words) g h.1))

-- ---- what the program reads of its matches

pub all_files : (files : List Word) → unwrap_or (some_files files) [] ≡ files
all_files [] = refl
all_files (file ∷ files) = refl

-- with files alone: the program's answer is the definition's
pub files_found : (words : List Word) → AllTexts words → (found : List Word) (rows : List Row) → fault_of files_app words ≡ [] → rows ≡ matches_of files_app words
    → found ≡ unwrap_or (all_of (codes "file") rows) [] → Some found ≡ option_map (λ g. g.files) (read no_options nothing words)
files_found words texts found rows passes are is = go (read no_options nothing words) (files_whole words texts)
  where
    go : (r : Option Given) → MatchOption r ((fault_of files_app words ≡ []) → ⊥) (λ g. (fault_of files_app words ≡ []) × (all_of (codes "file") (matches_of files_app words) ≡ some_files g.files))
        → Some found ≡ option_map (λ g. g.files) r
    go None h = absurd (h passes)
    go (Some g) h = ap Some (is ∙ ap (λ x. unwrap_or (all_of (codes "file") x) []) are ∙ ap (λ x. unwrap_or x []) h.1 ∙ all_files g.files)

pub files_refused : (words : List Word) → AllTexts words → (fault_of files_app words ≡ [] → ⊥) → None ≡ option_map (λ g. g.files) (read no_options nothing words)
files_refused words texts bad = go (read no_options nothing words) (files_whole words texts)
  where
    go : (r : Option Given) → MatchOption r ((fault_of files_app words ≡ []) → ⊥) (λ g. (fault_of files_app words ≡ []) × (all_of (codes "file") (matches_of files_app words) ≡ some_files g.files))
        → None ≡ option_map (λ g. g.files) r
    go None h = refl
    go (Some g) h = absurd (bad h.0)

-- what a flag's getter answers of its text
abbrev pub ReadsFlag : Option Word → Bool → Type 0
ReadsFlag text flag = (text ≡ Some (codes "true") → flag ≡ true) × (text ≡ Some (codes "false") → flag ≡ false)

flag_is : (b flag : Bool) (text : Option Word) → ReadsFlag text flag → text ≡ Some (if b then codes "true" else codes "false") → flag ≡ b
flag_is true flag text h e = h.0 e
flag_is false flag text h e = h.1 e

pub solve_found : (words : List Word) → AllTexts words → (limit budget : Option Word) (improving : Bool) (files : List Word) (rows : List Row)
    → fault_of solve_app words ≡ [] → rows ≡ matches_of solve_app words
    → limit ≡ first_of (codes "limit") rows → budget ≡ first_of (codes "budget") rows → ReadsFlag (one_of (codes "improving") rows) improving
    → files ≡ unwrap_or (all_of (codes "file") rows) []
    → ◌≡◌ {A = Option SolveWords} (Some (record { limit = limit; budget = budget; is_improving = improving; files = files })) (option_map of_given (read solve_options nothing words))
solve_found words texts limit budget improving files rows passes are l b i f = go (read solve_options nothing words) (solve_whole words texts)
  where
    go : (r : Option Given) → MatchOption r ((fault_of solve_app words ≡ []) → ⊥) (λ g. (fault_of solve_app words ≡ []) × SolveShown (matches_of solve_app words) g)
        → ◌≡◌ {A = Option SolveWords} (Some (record { limit = limit; budget = budget; is_improving = improving; files = files })) (option_map of_given r)
    go None h = absurd (h passes)
    go (Some g) h =
        let shown : SolveShown rows g = subst (λ x. SolveShown x g) (sym are) h.1 in
        let limit_is : limit ≡ value_in g (codes "limit") = l ∙ shown.limit in
        let budget_is : budget ≡ value_in g (codes "budget") = b ∙ shown.budget in
        let flag_here : improving ≡ is_among g.flags (codes "improving") = flag_is (is_among g.flags (codes "improving")) improving (one_of (codes "improving") rows) i shown.improving in
        let files_are : files ≡ g.files = f ∙ ap (λ x. unwrap_or x []) shown.files ∙ all_files g.files in
        λ k. Some (record { limit = limit_is k; budget = budget_is k; is_improving = flag_here k; files = files_are k })

pub solve_refused : (words : List Word) → AllTexts words → (fault_of solve_app words ≡ [] → ⊥) → ◌≡◌ {A = Option SolveWords} None (option_map of_given (read solve_options nothing words))
solve_refused words texts bad = go (read solve_options nothing words) (solve_whole words texts)
  where
    go : (r : Option Given) → MatchOption r ((fault_of solve_app words ≡ []) → ⊥) (λ g. (fault_of solve_app words ≡ []) × SolveShown (matches_of solve_app words) g)
        → ◌≡◌ {A = Option SolveWords} None (option_map of_given r)
    go None h = refl
    go (Some g) h = absurd (bad h.0)
