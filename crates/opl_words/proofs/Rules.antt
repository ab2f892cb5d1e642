-- The arguments of a command for `clap`: one list of files, options with a value, and flags; and which of them a name finds.
use Rattle.std.proofs.Common.{◌≡◌, ◌∙◌, ◌&&◌, ◌||◌, ℕ, Bool, true, false, not, refl, sym, ap, subst, true≢false, List, [], ◌∷◌, ◌++◌, map, Some, None, codes}
use Rattle.std.specs.Prelude.{bytes_eq, find, is_some}
use Rattle.std.proofs.lemmas.Slice.Eq.{bytes_eq-Decides}
use Rattle.clap.specs.Walk.{Rule, arg_by_id, arg_by_index, arg_by_long, arg_by_short, has_long, has_short}
use Rattle.clap.specs.Simple.{Shape, built, filled, with_index}
use Rattle.opl_words.specs.Commands.{file_rule, files_app, flag_rule, solve_app, value_rule}
use Rattle.opl_words.specs.Requests.{Options, Word, is_among, no_options, solve_options}

-- ---- names

pub same_bytes : (a b : Word) → bytes_eq a b ≡ true → a ≡ b
same_bytes a b h = (bytes_eq-Decides a b).0 h

pub own_bytes : (a : Word) → bytes_eq a a ≡ true
own_bytes a = (bytes_eq-Decides a a).1 refl

-- a name that is among some, and one that isn't, differ
pub differs : (names : List Word) (a b : Word) → is_among names a ≡ true → is_among names b ≡ false → bytes_eq a b ≡ false
differs names a b has lacks = go (bytes_eq a b) refl
  where
    go : (r : Bool) → bytes_eq a b ≡ r → r ≡ false
    go false e = refl
    go true e = sym (subst (λ x. is_among names x ≡ true) (same_bytes a b e) has) ∙ lacks

pub differs_too : (names : List Word) (a b : Word) → is_among names a ≡ true → is_among names b ≡ false → bytes_eq b a ≡ false
differs_too names a b has lacks = go (bytes_eq b a) refl
  where
    go : (r : Bool) → bytes_eq b a ≡ r → r ≡ false
    go false e = refl
    go true e = sym (subst (λ x. is_among names x ≡ true) (sym (same_bytes b a e)) has) ∙ lacks

-- ---- the arguments

abbrev pub file_arg : Rule
file_arg = with_index 1 (filled file_rule)

abbrev pub value_arg : Word → Rule
value_arg name = filled (value_rule name)

abbrev pub flag_arg : Word → Rule
flag_arg name = filled (flag_rule name)

abbrev pub args_of : Options → List Rule
args_of o = file_arg ∷ map value_arg o.valued ++ (map flag_arg o.flags ++ [])

-- the command with these arguments
abbrev pub shape_with : Options → Shape
shape_with o = record (built files_app).top { rules = args_of o }

pub files_shape : (built files_app).top ≡ shape_with no_options
files_shape = refl

pub solve_shape : (built solve_app).top ≡ shape_with solve_options
solve_shape = refl

-- ---- what a search finds

module _ (p : Rule → Bool) (arg : Word → Rule) where
  -- the first of these names
  pub finds : (name : Word) → ((n : Word) → p (arg n) ≡ bytes_eq n name) → (names : List Word) (rest : List Rule) → is_among names name ≡ true
      → find p (map arg names ++ rest) ≡ Some (arg name)
  finds name at [] rest h = absurd (true≢false (sym h))
  finds name at (n ∷ names) rest h = go (bytes_eq n name) refl h (λ any. finds name at names rest any)
    where
      go : (b : Bool) → bytes_eq n name ≡ b → b || is_among names name ≡ true → (is_among names name ≡ true → find p (map arg names ++ rest) ≡ Some (arg name))
          → find p (map arg (n ∷ names) ++ rest) ≡ Some (arg name)
      go true e any later = rw (at n, e) (ap (λ x. Some (arg x)) (same_bytes n name e))
      go false e any later = rw (at n, e) (later any)

  -- none of these
  pub passes_over : (names : List Word) (rest : List Rule) → ((n : Word) → p (arg n) ≡ false) → find p (map arg names ++ rest) ≡ find p rest
  passes_over [] rest none = refl
  passes_over (n ∷ names) rest none = rw (none n) (passes_over names rest none)

  pub lacks_name : (name : Word) → ((n : Word) → p (arg n) ≡ bytes_eq n name) → (names : List Word) (rest : List Rule) → is_among names name ≡ false
      → find p (map arg names ++ rest) ≡ find p rest
  lacks_name name at [] rest h = refl
  lacks_name name at (n ∷ names) rest h = go (bytes_eq n name) refl h (λ any. lacks_name name at names rest any)
    where
      go : (b : Bool) → bytes_eq n name ≡ b → b || is_among names name ≡ false → (is_among names name ≡ false → find p (map arg names ++ rest) ≡ find p rest)
          → find p (map arg (n ∷ names) ++ rest) ≡ find p rest
      go true e any later = absurd (true≢false any)
      go false e any later = rw (at n, e) (later any)

or_no : (b : Bool) → b || false ≡ b
or_no true = refl
or_no false = refl

module _ (o : Options) (name : Word) where
  abbrev by_long : Rule → Bool
  by_long a = not (is_some a.index) && has_long a name

  value_at : (n : Word) → by_long (value_arg n) ≡ bytes_eq n name
  value_at n = or_no (bytes_eq n name)

  flag_at : (n : Word) → by_long (flag_arg n) ≡ bytes_eq n name
  flag_at n = or_no (bytes_eq n name)

  pub long_value : is_among o.valued name ≡ true → arg_by_long (args_of o) name ≡ Some (value_arg name)
  long_value h = finds by_long value_arg name value_at o.valued (map flag_arg o.flags ++ []) h

  pub long_flag : is_among o.valued name ≡ false → is_among o.flags name ≡ true → arg_by_long (args_of o) name ≡ Some (flag_arg name)
  long_flag other h = lacks_name by_long value_arg name value_at o.valued (map flag_arg o.flags ++ []) other ∙ finds by_long flag_arg name flag_at o.flags [] h

  pub long_none : is_among o.valued name ≡ false → is_among o.flags name ≡ false → arg_by_long (args_of o) name ≡ None
  long_none other h = lacks_name by_long value_arg name value_at o.valued (map flag_arg o.flags ++ []) other ∙ lacks_name by_long flag_arg name flag_at o.flags [] h

  pub id_value : is_among o.valued (codes "file") ≡ false → is_among o.valued name ≡ true → arg_by_id (args_of o) name ≡ Some (value_arg name)
  id_value other h =
      rw (differs_too o.valued name (codes "file") h other)
      (finds (λ a. bytes_eq a.id name) value_arg name (λ n. refl) o.valued (map flag_arg o.flags ++ []) h)

pub no_short : (o : Options) (x : ℕ) → arg_by_short (args_of o) x ≡ None
no_short o x =
    passes_over (λ a. not (is_some a.index) && has_short a x) value_arg o.valued (map flag_arg o.flags ++ []) (λ n. refl)
    ∙ passes_over (λ a. not (is_some a.index) && has_short a x) flag_arg o.flags [] (λ n. refl)

pub file_at : (o : Options) → arg_by_index (args_of o) 1 ≡ Some file_arg
file_at o = refl

pub id_file : (o : Options) → arg_by_id (args_of o) (codes "file") ≡ Some file_arg
id_file o = refl
