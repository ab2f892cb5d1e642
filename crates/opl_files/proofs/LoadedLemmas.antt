-- The files of a call: what is read of them, at most one outcome, and some outcome.
use Rattle.std.proofs.Common.{◌≡◌, ◌<◌, ◌≤◌, refl, sym, ap, ◌∙◌, subst, ℕ, Bool, true, false, nat_lt, List, length, Option, Some, None, Result, Ok, Err, IfSome, IsSomeAnd, inl, inr, arith}
use Rattle.std.proofs.lemmas.Bool.Decides.{nat_tests}
use Rattle.opl_outside.specs.Becomes.{Becomes}
use Rattle.opl_outside.specs.Files.{Files, max_bytes}
use Rattle.opl_files.specs.declared.refusal.Refusal.TheVariants.{Absent, TooLong}
use Rattle.opl_files.specs.declared.stop.Stop.{Stop}
use Rattle.opl_files.specs.Held.{Held, Loaded, Trees}
use Rattle.opl_files.specs.Reading.{Read}
use Rattle.opl_files.specs.Stage.{Then, Each, Gives, GivesRead}
use Rattle.opl_files.proofs.ReadingLemmas.{read_one}
use Rattle.opl_files.proofs.ReadingOutcomes.{read_comes}
use Rattle.opl_files.proofs.StageLemmas.{Comes, IsOne, both_told, each_comes, each_one, gives_read, then_comes, then_gives_read, then_one, then_stops_read}

-- all files were read, and their texts gave a model or an end
pub loaded-read : (told mid : Option Files) (model : List ℕ) (asked : List (List ℕ)) (names : List (List ℕ)) (bytes text : List ℕ) (texts others : List (List ℕ)) (r : Result Trees Stop) →
    names ≡ asked → text ≡ bytes → others ≡ texts → IfSome told (λ files. GivesRead (Held files 0 model) (Ok bytes)) → Becomes told mid (λ before now. now ≡ before) →
    IfSome mid (λ files. GivesRead (Each (Held files) 1 names) (Ok texts)) → Gives (Read text others) r → IfSome told (λ files. GivesRead (Loaded files model asked) r)
loaded-read told mid model asked names bytes text texts others r named same all held stay helds read = both_told told mid _ _ _
    (λ files p q. then_gives_read (Held files 0 model) (λ bs. Then (Each (Held files) 1 asked) (Read bs)) bytes r p
    (then_gives_read (Each (Held files) 1 asked) (Read bytes) texts r (subst (λ (ns : List (List ℕ)). Each (Held files) 1 ns (Ok texts)) named q)
    (gives_read (Read bytes texts) r (subst (λ ts. Gives (Read bytes ts) r) all (subst (λ t. Gives (Read t others) r) same read))))) stay held helds

-- the data files came to an end
pub loaded-stops : (told mid : Option Files) (model : List ℕ) (asked : List (List ℕ)) (names : List (List ℕ)) (bytes : List ℕ) (stop : Stop) → names ≡ asked →
    IfSome told (λ files. GivesRead (Held files 0 model) (Ok bytes)) → Becomes told mid (λ before now. now ≡ before) →
    IfSome mid (λ files. GivesRead (Each (Held files) 1 names) (Err stop)) → IfSome told (λ files. GivesRead (Loaded files model asked) (Err stop))
loaded-stops told mid model asked names bytes stop named held stay helds = both_told told mid _ _ _
    (λ files p q. then_gives_read (Held files 0 model) (λ bs. Then (Each (Held files) 1 asked) (Read bs)) bytes (Err stop) p
    (then_stops_read (Each (Held files) 1 asked) (Read bytes) stop (subst (λ (ns : List (List ℕ)). GivesRead (Each (Held files) 1 ns) (Err stop)) named q))) stay held helds

-- ---- at most one outcome

too_long : (bytes : List ℕ) → length bytes ≤ max_bytes → max_bytes < length bytes → ⊥
too_long bytes a b = omega arith

not_both : (o : Option (List ℕ)) → o ≡ None → IsSomeAnd o (λ bytes. max_bytes < length bytes) → ⊥
not_both o none some = subst (λ (o : Option (List ℕ)). IsSomeAnd o (λ bytes. max_bytes < length bytes)) none some

held_one : (files : Files) (file : ℕ) (name : List ℕ) → IsOne (Held files file name)
held_one files file name (Ok a) (Ok b) p q = let e : Some a ≡ Some b = sym p.0 ∙ q.0 in let same : a ≡ b = cc in ap Ok same
held_one files file name (Ok a) (Err e) p (inl q) = let no : Some a ≡ None = sym p.0 ∙ q.1 in absurd (cc)
held_one files file name (Ok a) (Err e) p (inr q) = absurd (too_long a p.1 (subst (λ o. IsSomeAnd o (λ bytes. max_bytes < length bytes)) p.0 q.1))
held_one files file name (Err e) (Ok b) (inl p) q = let no : Some b ≡ None = sym q.0 ∙ p.1 in absurd (cc)
held_one files file name (Err e) (Ok b) (inr p) q = absurd (too_long b q.1 (subst (λ o. IsSomeAnd o (λ bytes. max_bytes < length bytes)) q.0 p.1))
held_one files file name (Err e) (Err f) (inl p) (inl q) = ap Err (p.0 ∙ sym q.0)
held_one files file name (Err e) (Err f) (inr p) (inr q) = ap Err (p.0 ∙ sym q.0)
held_one files file name (Err e) (Err f) (inl p) (inr q) = absurd (not_both _ p.1 q.1)
held_one files file name (Err e) (Err f) (inr p) (inl q) = absurd (not_both _ q.1 p.1)

pub loaded_one : (files : Files) (model : List ℕ) (names : List (List ℕ)) → IsOne (Loaded files model names)
loaded_one files model names = then_one (Held files 0 model) _ (held_one files 0 model) (λ bytes.
    then_one (Each (Held files) 1 names) _ (each_one (Held files) (held_one files) 1 names) (read_one bytes))

-- ---- some outcome

held_by : (files : Files) (file : ℕ) (name bytes : List ℕ) (b : Bool) → files name ≡ Some bytes → nat_lt max_bytes (length bytes) ≡ b → Comes (Held files file name)
held_by files file name bytes true e t = (Err (TooLong file), inr (refl, rw e (is_less t)))
  where
    is_less : nat_lt max_bytes (length bytes) ≡ true → max_bytes < length bytes
    is_less h = grind (arith, nat_tests)
held_by files file name bytes false e t = (Ok bytes, (e, is_not t))
  where
    is_not : nat_lt max_bytes (length bytes) ≡ false → length bytes ≤ max_bytes
    is_not h = grind (arith, nat_tests)

held_at : (files : Files) (file : ℕ) (name : List ℕ) (o : Option (List ℕ)) → files name ≡ o → Comes (Held files file name)
held_at files file name None e = (Err (Absent file), inl (refl, e))
held_at files file name (Some bytes) e = held_by files file name bytes (nat_lt max_bytes (length bytes)) e refl

held_comes : (files : Files) (file : ℕ) (name : List ℕ) → Comes (Held files file name)
held_comes files file name = held_at files file name (files name) refl

pub loaded_comes : (files : Files) (model : List ℕ) (names : List (List ℕ)) → Comes (Loaded files model names)
loaded_comes files model names = then_comes (Held files 0 model) _ (held_comes files 0 model) (λ bytes.
    then_comes (Each (Held files) 1 names) _ (each_comes (Held files) (held_comes files) 1 names) (read_comes bytes))
