-- Reading one data file after another.
use Rattle.std.proofs.Common.{◌≡◌, refl, ◌∙◌, ℕ, ◌+◌, ◌<◌, ◌≤◌, List, [], ◌∷◌, ◌++◌, map, length, take, get_or, Option, Some, None, Ok, Err, IfSome, arith}
use Rattle.std.proofs.lemmas.List.{length-map}
use Rattle.std.specs.Borrow.{Bor}
use Rattle.opl_outside.specs.Becomes.{Becomes}
use Rattle.opl_outside.specs.Files.{Files}
use Rattle.opl_files.specs.declared.stop.Stop.{Stop}
use Rattle.opl_files.specs.Held.{Held}
use Rattle.opl_files.specs.Stage.{Each, GivesRead}
use Rattle.opl_files.proofs.EachLemmas.{each-none, each-next, each-stops-read, each-ends}
use Rattle.opl_files.proofs.StageLemmas.{both_told, if_some}
use Rattle.opl_outside.proofs.Becomes.{becomes_same, becomes_then}

some_all : {A : Type 0} (o : Option A) (P : A → Type 0) → ((a : A) → P a) → IfSome o P
some_all None P all = tt
some_all (Some a) P all = all a

-- names that are lent
abbrev texts_of : List (Bor (List ℕ)) → List (List ℕ)
texts_of names = map (λ name. name.now) names

module _ (told mid : Option Files) (names : List (Bor (List ℕ))) where
  same_length : length (texts_of names) ≡ length names
  same_length = length-map names (λ name. name.now)

  pub loaded-none : IfSome told (λ files. Each (Held files) 1 [] (Ok []))
  loaded-none = some_all told _ (λ files. each-none (Held files) 1)

  pub loaded-next : (i : ℕ) (name bytes : List ℕ) (texts : List (List ℕ)) → i < length names → name ≡ get_or (texts_of names) i [] →
      IfSome told (λ files. Each (Held files) 1 (take i (texts_of names)) (Ok texts)) → Becomes told mid (λ before now. now ≡ before) →
      IfSome mid (λ files. GivesRead (Held files (i + 1) name) (Ok bytes)) → IfSome told (λ files. Each (Held files) 1 (take (i + 1) (texts_of names)) (Ok (texts ++ bytes ∷ [])))
  loaded-next i name bytes texts h at given stay held = both_told told mid _ _ _
      (λ files p q. each-next (Held files) 1 (i + 1) (texts_of names) i [] name texts bytes (omega (arith, same_length)) at (omega arith) p q) stay given held

  pub loaded-stopped : (i : ℕ) (name : List ℕ) (texts : List (List ℕ)) (stop : Stop) → i < length names → name ≡ get_or (texts_of names) i [] →
      IfSome told (λ files. Each (Held files) 1 (take i (texts_of names)) (Ok texts)) → Becomes told mid (λ before now. now ≡ before) →
      IfSome mid (λ files. GivesRead (Held files (i + 1) name) (Err stop)) → IfSome told (λ files. GivesRead (Each (Held files) 1 (texts_of names)) (Err stop))
  loaded-stopped i name texts stop h at given stay held = both_told told mid _ _ _
      (λ files p q. each-stops-read (Held files) 1 (i + 1) (texts_of names) i [] name texts stop (omega (arith, same_length)) at (omega arith) p q) stay given held

  pub loaded-all : (i : ℕ) (texts : List (List ℕ)) → length names ≤ i → IfSome told (λ files. Each (Held files) 1 (take i (texts_of names)) (Ok texts)) →
      IfSome told (λ files. GivesRead (Each (Held files) 1 (texts_of names)) (Ok texts))
  loaded-all i texts h given = if_some told _ _ (λ files p. each-ends (Held files) 1 (texts_of names) i texts (omega (arith, same_length)) p) given

-- the files stay what they were
pub files-same : (old : Option Files) → Becomes old old (λ before now. now ≡ before)
files-same old = becomes_same old (λ before now. now ≡ before) (λ files. refl)

pub files-then : (old mid new : Option Files) → Becomes old mid (λ before now. now ≡ before) → Becomes mid new (λ before now. now ≡ before) →
    Becomes old new (λ before now. now ≡ before)
files-then old mid new p q = becomes_then old mid new (λ before now. now ≡ before) (λ before now. now ≡ before) (λ before now. now ≡ before) (λ x y z first second. second ∙ first) p q
