-- Lemmas on the files that a map in memory stands for.
use Rattle.std.proofs.Common.{◌≡◌, ℕ, List, ◌++◌, Bool, true, false, cond, Some, Vec, Global, string_bytes, Decides, Result, Ok, Err, sym, ap, ◌∙◌, refl, subst}
use Rattle.std.specs.Option.{option_map}
use Rattle.std.specs.Result.{is_ok, OnOk, OnErr}
use Rattle.std.specs.Str.{bytes_eq}
use Rattle.std.specs.String.{string_eq}
use Rattle.std.specs.HashMap.{UpdatesBy}
use Rattle.std.proofs.lemmas.Bool.{false≢true, false_from_ne_true}
use Rattle.std.proofs.lemmas.Slice.Eq.{bytes_eq-Decides}
use Rattle.std.proofs.lemmas.Map.Text.{hash_map_updates_text}
use Rattle.opl_outside.specs.Files.{Files, Sets, bytes_of}
use Rattle.opl_outside.specs.Held.{held}
use Rattle.opl_outside.specs.declared.file_map.FileMap.{FileMap}

-- an update of the map gives one file its bytes
pub held_sets : (old new : FileMap) (name : List ℕ) (file : Vec ℕ Global) → UpdatesBy string_eq (λ key. bytes_eq name (string_bytes key)) old.files new.files (Some file) → Sets (held old) (held new) name file.items
unfolding held
held_sets old new name file updates = record {
  this = ap (option_map (λ kept. kept.items)) updates.1;
  others = λ other ne.
      let apart = false_from_ne_true (bytes_eq name other) (λ e. ne (sym ((bytes_eq-Decides name other).0 e))) in
      ap (option_map (λ kept. kept.items)) (hash_map_updates_text name old.files new.files (Some file) updates other ∙ rw apart);
}

module _ (old new : Files) (name : List ℕ) where
  -- the same, by another word for the name and for the bytes
  pub sets_as : (key bytes file : List ℕ) → Sets old new key file → key ≡ name → file ≡ bytes → Sets old new name bytes
  sets_as key bytes file sets is_name is_bytes = subst (Sets old new name) is_bytes (subst (λ word. Sets old new word file) is_name sets)

  module _ (was file : List ℕ) (sets : Sets old new name file) (had : old name ≡ Some was) where
    same_at : (other : List ℕ) (same : Bool) → Decides same (other ≡ name) → file ≡ was → new other ≡ old other
    same_at other true d e = ap new (d.0 refl) ∙ sets.this ∙ ap (λ bytes. Some bytes) e ∙ sym had ∙ ap old (sym (d.0 refl))
    same_at other false d e = sets.others other (λ h. false≢true (d.1 h))

    -- a file that is given the bytes that it had stays the same
    pub sets_same : file ≡ was → new ≡ old
    sets_same e = λ i other. same_at other (bytes_eq other name) (bytes_eq-Decides other name) e i

    -- a file that was lengthened, or not, by how the call ended
    pub sets_longer : {T E : Type 0} (result : Result T E) (piece : List ℕ) → file ≡ cond (is_ok result) (was ++ piece) was → OnOk result (Sets old new name (bytes_of old name ++ piece))
    sets_longer (Ok x) piece e = sets_as name (bytes_of old name ++ piece) file sets refl (rw had e)
    sets_longer (Err x) piece e = tt

    pub sets_kept : {T E : Type 0} (result : Result T E) (piece : List ℕ) → file ≡ cond (is_ok result) (was ++ piece) was → OnErr result (new ≡ old)
    sets_kept (Ok x) piece e = tt
    sets_kept (Err x) piece e = sets_same e
