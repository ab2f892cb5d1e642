-- Words that are files alone.
use Rattle.std.proofs.Common.{◌≡◌, ℕ, nat_eq, Bool, true, false, not, ◌&&◌, List, [], ◌∷◌, Some, refl, ap, sym, ◌∙◌, arith}
use Rattle.std.specs.List.{list_all}
use Rattle.std.proofs.lemmas.List.{append-nil, append_assoc}
use Rattle.opl_words.specs.Requests.{Given, Options, Word, is_dashed, is_end_of_options, is_named, nothing, read, solve_options, with_files}
use Rattle.opl_words.specs.Laws.{FilesAlone}

pub and_no : (b : Bool) → b && false ≡ false
and_no true = refl
and_no false = refl

pub no_end : (word : Word) → is_dashed word ≡ false → is_end_of_options word ≡ false
no_end [] h = refl
no_end (b ∷ []) h = and_no _
no_end (b ∷ c ∷ rest) h = rw h refl

pub turned : (a b : ℕ) → nat_eq a b ≡ false → nat_eq b a ≡ false
turned a b h = grind arith

pub not_named : (word : Word) → is_dashed word ≡ false → is_named word ≡ false
not_named [] h = refl
not_named (b ∷ []) h = and_no _
not_named (b ∷ c ∷ rest) h = rw (turned b 45 h) refl

-- files add up
all_files : (o : Options) (g : Given) (words : List Word) → list_all (λ word. not (is_dashed word)) words ≡ true
    → read o g words ≡ Some (with_files words g)
all_files o g [] h = ap (λ fs. Some (record g { files = fs })) (sym (append-nil g.files))
all_files o g (word ∷ words) h = by_sort (is_dashed word) refl h (λ k. all_files o k words)
  where
    by_sort : (b : Bool) → is_dashed word ≡ b → not b && list_all (λ w. not (is_dashed w)) words ≡ true
        → ((k : Given) → list_all (λ w. not (is_dashed w)) words ≡ true → read o k words ≡ Some (with_files words k))
        → read o g (word ∷ words) ≡ Some (with_files (word ∷ words) g)
    by_sort true is all later = grind arith
    by_sort false is all later =
        rw (no_end word is, not_named word is, is)
        (later (with_files (word ∷ []) g) all ∙ ap (λ fs. Some (record g { files = fs })) (append_assoc g.files (word ∷ []) words))

pub files_alone : FilesAlone
files_alone model files h = rw (all_files solve_options nothing (model ∷ files) h) refl
