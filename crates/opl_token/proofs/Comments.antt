-- The length of a comment is found where one begins, and there is one at most.
use Rattle.std.proofs.Common.{◌≡◌, ◌<◌, ◌≤◌, inl, inr, ℕ, suc, ◌+◌, Bool, true, false, cond, nat_eq, List, [], ◌∷◌, ◌++◌, length, get_or, take, drop, codes, Option, Some, None, refl, ap, sym, ◌∙◌, subst, arith, add-one, length-append}
use Rattle.std.specs.List.{prefix_len, starts_with}
use Rattle.std.specs.Option.{option_map}
use Rattle.std.proofs.lemmas.Bool.Decides.{Decides-eqb}
use Rattle.std.proofs.lemmas.List.{take-append-drop}
use Rattle.std.proofs.lemmas.List.Sums.{prefix_len-le-length}
use Rattle.std.proofs.lemmas.Slice.Eq.{starts_is}
use Rattle.std.proofs.Math.Seq.{drop-cons, take-append_seam, take-append-add, drop-append-add}
use Rattle.opl_token.specs.Comment.{is_in_line, EndsBlock, IsComment}
use Rattle.opl_token.specs.Lexeme.{begins, is_blank}
use Rattle.opl_token.specs.Longest.{block_len, comment_len}
use Rattle.opl_token.proofs.Bytes.{is_gap}
use Rattle.opl_token.proofs.Lists.{front_within, empty}
use Rattle.opl_token.proofs.Runs.{run_is, run_passes, run_ends}

-- ---- how a list begins

pub starts_true : (bytes front : List ℕ) → starts_with nat_eq bytes front ≡ true → bytes ≡ front ++ drop (length front) bytes
starts_true bytes front h = (starts_is Decides-eqb bytes front _ refl).0 h

pub true_starts : (bytes front rest : List ℕ) → bytes ≡ front ++ rest → starts_with nat_eq bytes front ≡ true
true_starts bytes front rest spelt = (starts_is Decides-eqb bytes front _ refl).1 rest spelt

starts_false : (bytes front : List ℕ) → (starts_with nat_eq bytes front ≡ true → ⊥) → starts_with nat_eq bytes front ≡ false
starts_false bytes front never = cases (starts_with nat_eq bytes front) refl
  where
    cases : (b : Bool) → starts_with nat_eq bytes front ≡ b → starts_with nat_eq bytes front ≡ false
    cases true e = absurd (never e)
    cases false e = e

-- ---- the end of a block

-- the first bytes, as far as a length says, end a block
record Block (bytes : List ℕ) (len : ℕ) : Type 0 where
  within : len ≤ length bytes
  ends : EndsBlock (take len bytes)

here_ends : EndsBlock (codes "*/")
here_ends = record { inner = []; spelt = refl; next = λ front back spelt. let lens : length (front ++ (codes "*/" ++ back)) ≡ 2 = ap length spelt in empty back (omega (arith, lens, length-append front (codes "*/" ++ back))) }

later_ends : (b : ℕ) (text bytes : List ℕ) → starts_with nat_eq (b ∷ (text ++ bytes)) (codes "*/") ≡ false → EndsBlock text → EndsBlock (b ∷ text)
later_ends b text bytes other ends = record { inner = b ∷ ends.inner; spelt = ap (λ t. b ∷ t) ends.spelt; next = next }
  where
    next : (front back : List ℕ) → front ++ (codes "*/" ++ back) ≡ b ∷ text → back ≡ []
    next [] back spelt =
        let here : starts_with nat_eq (b ∷ (text ++ bytes)) (codes "*/") ≡ true = true_starts (b ∷ (text ++ bytes)) (codes "*/") (back ++ bytes) (sym (ap (λ t. t ++ bytes) spelt)) in
        let differ : true ≡ false = sym here ∙ other in cc
    next (c ∷ front) back spelt = let behind : front ++ (codes "*/" ++ back) ≡ text = cc in ends.next front back behind

block_read : (bytes : List ℕ) (len : ℕ) → block_len bytes ≡ Some len → Block bytes len
block_read [] len is = cc
block_read (b ∷ bs) len is = here_or (starts_with nat_eq (b ∷ bs) (codes "*/")) refl is (block_read bs)
  where
    later : starts_with nat_eq (b ∷ bs) (codes "*/") ≡ false → (o : Option ℕ) → block_len bs ≡ o → option_map (λ n. n + 1) o ≡ Some len → ((m : ℕ) → block_len bs ≡ Some m → Block bs m) → Block (b ∷ bs) len
    later other None e same more = cc
    later other (Some m) e same more =
        let one : m + 1 ≡ len = cc in
        let block : Block bs m = more m e in
        let behind : EndsBlock (b ∷ take m bs) = later_ends b (take m bs) (drop m bs) (ap (λ t. starts_with nat_eq (b ∷ t) (codes "*/")) (take-append-drop m bs) ∙ other) block.ends in
        subst (Block (b ∷ bs)) one (record { within = omega (arith, block.within); ends = rw add-one behind })

    here_or : (h : Bool) → starts_with nat_eq (b ∷ bs) (codes "*/") ≡ h → cond {A = Option ℕ} h (Some 2) (option_map (λ n. n + 1) (block_len bs)) ≡ Some len → ((m : ℕ) → block_len bs ≡ Some m → Block bs m) → Block (b ∷ bs) len
    here_or true e same more =
        let one : 2 ≡ len = cc in
        let spelt : b ∷ bs ≡ codes "*/" ++ drop 2 (b ∷ bs) = starts_true (b ∷ bs) (codes "*/") e in
        let front : take 2 (b ∷ bs) ≡ codes "*/" = ap (take 2) spelt ∙ take-append_seam (codes "*/") (drop 2 (b ∷ bs)) in
        subst (Block (b ∷ bs)) one (record { within = omega (arith, ap length spelt, length-append (codes "*/") (drop 2 (b ∷ bs))); ends = subst EndsBlock (sym front) here_ends })
    here_or false e same more = later e (block_len bs) refl same more

inner_again : (inner rest : List ℕ) → ((front back : List ℕ) → front ++ (codes "*/" ++ back) ≡ inner ++ codes "*/" → back ≡ []) → block_len ((inner ++ codes "*/") ++ rest) ≡ Some (length (inner ++ codes "*/"))
inner_again [] rest next = refl
inner_again (c ∷ cs) rest next =
    let text : List ℕ = c ∷ (cs ++ codes "*/") in
    let long : 3 ≤ length text = omega (arith, length-append cs (codes "*/")) in
    let other : starts_with nat_eq (text ++ rest) (codes "*/") ≡ false = starts_false (text ++ rest) (codes "*/") (λ h.
    let spelt : text ≡ codes "*/" ++ drop 2 text = front_within text rest (codes "*/") (drop 2 (text ++ rest)) (starts_true (text ++ rest) (codes "*/") h) (omega arith) in
    let none : drop 2 text ≡ [] = next [] (drop 2 text) (sym spelt) in
    omega (arith, ap length spelt, ap length none, length-append (codes "*/") (drop 2 text))) in
    let more : block_len ((cs ++ codes "*/") ++ rest) ≡ Some (length (cs ++ codes "*/")) = inner_again cs rest (λ front back spelt. next (c ∷ front) back (ap (λ t. c ∷ t) spelt)) in
    rw (other, more) (ap Some (add-one (length (cs ++ codes "*/"))))

block_again : (text rest : List ℕ) → EndsBlock text → block_len (text ++ rest) ≡ Some (length text)
block_again text rest ends =
    subst (λ (t : List ℕ). block_len (t ++ rest) ≡ Some (length t)) (sym ends.spelt) (inner_again ends.inner rest (λ front back spelt. ends.next front back (spelt ∙ sym ends.spelt)))

-- ---- the search for the end of a block

-- how many bytes there are up to the end of the block, where the first `at` are passed
abbrev pub block_from : (at : ℕ) (rest : List ℕ) → Option ℕ
block_from at rest = option_map (λ n. at + n) (block_len rest)

pub block_later : (at : ℕ) (bytes : List ℕ) → at < length bytes → starts_with nat_eq (drop at bytes) (codes "*/") ≡ false → block_from at (drop at bytes) ≡ block_from (at + 1) (drop (at + 1) bytes)
block_later at bytes inside other = later (drop at bytes) (drop (at + 1) bytes) (rw (add-one, drop-cons bytes at 0) refl) other
  where
    later : (here behind : List ℕ) → here ≡ get_or bytes at 0 ∷ behind → starts_with nat_eq here (codes "*/") ≡ false → block_from at here ≡ block_from (at + 1) behind
    later here behind spelt other =
        let first : starts_with nat_eq (get_or bytes at 0 ∷ behind) (codes "*/") ≡ false = ap (λ t. starts_with nat_eq t (codes "*/")) (sym spelt) ∙ other in
        ap (block_from at) spelt ∙ rw first (past (block_len behind))
      where
        past : (o : Option ℕ) → option_map (λ n. at + n) (option_map (λ n. n + 1) o) ≡ option_map (λ n. at + 1 + n) o
        past None = refl
        past (Some n) = ap Some (let e : at + (n + 1) ≡ at + 1 + n = omega arith in e)

-- ---- comments

-- the first bytes, as far as a length says, are a comment
pub record Commented (bytes : List ℕ) (len : ℕ) : Type 0 where
  pub within : len ≤ length bytes
  pub some : 2 ≤ len
  pub is : IsComment (take len bytes) (drop len bytes)

line_read : (bytes : List ℕ) → starts_with nat_eq bytes (codes "//") ≡ true → Commented bytes (2 + prefix_len is_in_line (drop 2 bytes))
line_read bytes starts =
    let behind : List ℕ = drop 2 bytes in
    let len : ℕ = prefix_len is_in_line behind in
    let spelt : bytes ≡ codes "//" ++ behind = starts_true bytes (codes "//") starts in
    let front : take (2 + len) bytes ≡ codes "//" ++ take len behind = ap (take (2 + len)) spelt ∙ take-append-add (codes "//") behind len in
    let back : drop (2 + len) bytes ≡ drop len behind = ap (drop (2 + len)) spelt ∙ drop-append-add (codes "//") behind len in
    record {
      within = omega (arith, ap length spelt, length-append (codes "//") behind, prefix_len-le-length is_in_line behind);
      some = omega arith;
      is = inl (record { inner = take len behind; spelt = front; line = run_passes is_in_line behind; ends = ap (λ r. begins is_in_line r) back ∙ run_ends is_in_line behind });
    }

block_comment_read : (bytes : List ℕ) (len : ℕ) → starts_with nat_eq bytes (codes "/*") ≡ true → block_len (drop 2 bytes) ≡ Some len → Commented bytes (2 + len)
block_comment_read bytes len starts is =
    let behind : List ℕ = drop 2 bytes in
    let spelt : bytes ≡ codes "/*" ++ behind = starts_true bytes (codes "/*") starts in
    let block : Block behind len = block_read behind len is in
    record {
      within = omega (arith, ap length spelt, length-append (codes "/*") behind, block.within);
      some = omega arith;
      is = inr (record { inner = take len behind; spelt = ap (take (2 + len)) spelt ∙ take-append-add (codes "/*") behind len; ends = block.ends });
    }

pub comment_read : (bytes : List ℕ) (len : ℕ) → comment_len bytes ≡ Some len → Commented bytes len
comment_read bytes len is = line_or (starts_with nat_eq bytes (codes "//")) (starts_with nat_eq bytes (codes "/*")) refl refl is
  where
    block_or : starts_with nat_eq bytes (codes "/*") ≡ true → (o : Option ℕ) → block_len (drop 2 bytes) ≡ o → option_map (λ n. 2 + n) o ≡ Some len → Commented bytes len
    block_or starts None e same = cc
    block_or starts (Some m) e same = let one : 2 + m ≡ len = cc in subst (Commented bytes) one (block_comment_read bytes m starts e)

    line_or : (line block : Bool) → starts_with nat_eq bytes (codes "//") ≡ line → starts_with nat_eq bytes (codes "/*") ≡ block → cond {A = Option ℕ} line (Some (2 + prefix_len is_in_line (drop 2 bytes))) (cond {A = Option ℕ} block (option_map (λ n. 2 + n) (block_len (drop 2 bytes))) None) ≡ Some len → Commented bytes len
    line_or true block e f same = let one : 2 + prefix_len is_in_line (drop 2 bytes) ≡ len = cc in subst (Commented bytes) one (line_read bytes e)
    line_or false true e f same = block_or f (block_len (drop 2 bytes)) refl same
    line_or false false e f same = cc

two_more : (n : ℕ) → 2 + n ≡ suc (suc n)
two_more n = omega arith

pub comment_again : (text rest : List ℕ) → IsComment text rest → comment_len (text ++ rest) ≡ Some (length text)
comment_again text rest (inl line) =
    let again : comment_len ((codes "//" ++ line.inner) ++ rest) ≡ Some (length (codes "//" ++ line.inner)) =
    rw (run_is is_in_line line.inner rest line.line line.ends) (ap Some (two_more (length line.inner))) in
    subst (λ (t : List ℕ). comment_len (t ++ rest) ≡ Some (length t)) (sym line.spelt) again
comment_again text rest (inr block) =
    let again : comment_len ((codes "/*" ++ block.inner) ++ rest) ≡ Some (length (codes "/*" ++ block.inner)) =
    rw (block_again block.inner rest block.ends) (ap Some (two_more (length block.inner))) in
    subst (λ (t : List ℕ). comment_len (t ++ rest) ≡ Some (length t)) (sym block.spelt) again

-- what begins with neither a blank nor `/` begins with no comment
pub no_comment : (bytes : List ℕ) → begins is_gap bytes ≡ false → comment_len bytes ≡ None
no_comment bytes other =
    let no_line : starts_with nat_eq bytes (codes "//") ≡ false = starts_false bytes (codes "//") (λ h. let slash : begins is_gap bytes ≡ true = ap (λ t. begins is_gap t) (starts_true bytes (codes "//") h) in let differ : true ≡ false = sym slash ∙ other in cc) in
    let no_block : starts_with nat_eq bytes (codes "/*") ≡ false = starts_false bytes (codes "/*") (λ h. let slash : begins is_gap bytes ≡ true = ap (λ t. begins is_gap t) (starts_true bytes (codes "/*") h) in let differ : true ≡ false = sym slash ∙ other in cc) in
    rw (no_line, no_block) refl

pub comment_some : (text rest : List ℕ) → IsComment text rest → 0 < length text
comment_some text rest (inl line) = omega (arith, ap length line.spelt, length-append (codes "//") line.inner)
comment_some text rest (inr block) = omega (arith, ap length block.spelt, length-append (codes "/*") block.inner)

pub comment_no_blank : (text rest : List ℕ) → IsComment text rest → begins is_blank (text ++ rest) ≡ false
comment_no_blank text rest (inl line) = ap (λ t. begins is_blank (t ++ rest)) line.spelt
comment_no_blank text rest (inr block) = ap (λ t. begins is_blank (t ++ rest)) block.spelt
