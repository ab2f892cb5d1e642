-- The declared sets of decision variables are within the limits.
use Rattle.std.proofs.Common.{◌≡◌, ℕ, ◌+◌, ◌≤◌, ◌^◌, ℤ, pos, negsuc, ◌+ℤ◌, ◌-ℤ◌, Bool, true, false, cond, nat_le, unsigned_abs, List, [], ◌∷◌, ◌++◌, length, map, Option, None, Some, Ok, Err, refl, sym, subst, ◌∙◌, arith, length-append}
use Rattle.std.specs.List.{All}
use Rattle.std.proofs.lemmas.List.Elements.{All-append, All-cons, All-map, All-nil}
use Rattle.opl_domain.specs.Span.{count_from, span_size}
use Rattle.opl_tree.specs.declared.declaration.DeclTree.{DeclTree}
use Rattle.opl_tree.specs.declared.declaration.DeclTree.TheVariants as decls
use Rattle.opl_tree.specs.declared.declaration.DimTree.{DimTree}
use Rattle.opl_tree.specs.declared.declaration.DimsTree.{DimsTree}
use Rattle.opl_tree.specs.declared.declaration.VariableTree.{VariableTree}
use Rattle.opl_value.specs.declared.value.IndexSpace.{IndexSpace}
use Rattle.opl_value.specs.declared.value.Value.{Value}
use Rattle.opl_value.specs.Places.{elements, lists, or_zero}
use Rattle.opl_eval.specs.Evaluation.{Environment}
use Rattle.opl_bind.specs.Dimensions.{space_in}
use Rattle.opl_meaning.specs.declared.fault.MeaningFault.TheVariants.{TooFar, TooManyValues, TooWide}
use Rattle.opl_meaning.specs.declared.variable.DeclaredSet.{DeclaredSet}
use Rattle.opl_meaning.specs.declared.variable.VariableItem.{VariableItem}
use Rattle.opl_meaning.specs.Faults.{Made, found, then}
use Rattle.opl_meaning.specs.Variables.{Ends, each_set, ends_in, few_values, few_variables, item_in, item_over, item_with, limited_set, near, near_set, over, set_in, sets_of, size_of, spaced, totals_of, values_of, variables_in, with_decl, with_name}
use Rattle.opl_meaning.proofs.Limits.{sets-more, values-append, values-more}
use Rattle.opl_meaning.proofs.VariableLaws.{few-made, ok_same, went}
use Rattle.opl_trace.specs.SoundCores.{IsSoundSet}
use Rattle.opl_form.proofs.Indices.{length-map}
use Rattle.opl_form.proofs.SoundValues.{le-out}
use Rattle.opl_ground.specs.Variables.{VariablesAreWithinLimits, all_values}
use Rattle.opl_ground.proofs.Variables.{sets-length, spaced-made, spaces, zero-plus}

-- ---- one declared set

-- a declared set is near, and small
record IsFew (set : DeclaredSet) : Type 0 where
  pub low : unsigned_abs set.low ≤ 2 ^ 62
  pub high : unsigned_abs set.high ≤ 2 ^ 62
  pub size : size_of set ≤ 1048576

near-made : (at : ℕ) (n m : ℤ) → near at n ≡ Ok m → (n ≡ m) × (unsigned_abs n ≤ 2 ^ 62)
near-made at n m h = by (nat_le (unsigned_abs n) (2 ^ 62)) refl h
  where
    by : (b : Bool) → nat_le (unsigned_abs n) (2 ^ 62) ≡ b → cond b (Ok n) (Err (TooFar at)) ≡ Ok m → (n ≡ m) × (unsigned_abs n ≤ 2 ^ 62)
    by true e f = (ok_same n m f, le-out (unsigned_abs n) (2 ^ 62) e)
    by false e f = absurd (cc)

abbrev Near : DeclaredSet → Type 0
Near set = (unsigned_abs set.low ≤ 2 ^ 62) × (unsigned_abs set.high ≤ 2 ^ 62)

near-set : (at : ℕ) (ends : Ends) (set : DeclaredSet) → near_set at ends ≡ Ok set → Near set
near-set at ends set h =
    let l = went (near at ends.low) (λ low. then (near at ends.high) (λ high. Ok (record { low = low; high = high }))) set h in
    let r = went (near at ends.high) (λ high. Ok (record { low = l.value; high = high })) set l.more in
    let a = near-made at ends.low l.value l.is in
    let b = near-made at ends.high r.value r.is in
    subst Near (ok_same (record { low = l.value; high = r.value }) set r.more) (subst (λ n. unsigned_abs n ≤ 2 ^ 62) a.0 a.1, subst (λ n. unsigned_abs n ≤ 2 ^ 62) b.0 b.1)

few-set : (at before : ℕ) (set made : DeclaredSet) → few_values at before set ≡ Ok made → (set ≡ made) × (size_of set ≤ 1048576) × (before + size_of set ≤ 33554432)
few-set at before set made h = by (nat_le (size_of set) 1048576) (nat_le (before + size_of set) 33554432) refl refl h
  where
    by : (b c : Bool) → nat_le (size_of set) 1048576 ≡ b → nat_le (before + size_of set) 33554432 ≡ c → cond b (cond c (Ok set) (Err (TooManyValues at))) (Err (TooWide at)) ≡ Ok made →
        (set ≡ made) × (size_of set ≤ 1048576) × (before + size_of set ≤ 33554432)
    by true true e f g = (ok_same set made g, le-out (size_of set) 1048576 e, le-out (before + size_of set) 33554432 f)
    by true false e f g = absurd (cc)
    by false c e f g = absurd (cc)

-- behind so many values
abbrev Fits : ℕ → DeclaredSet → Type 0
Fits before set = IsFew set × (before + size_of set ≤ 33554432)

set-fits : (t : VariableTree) (before : ℕ) (env : Environment) (set : DeclaredSet) → set_in t before env ≡ Ok set → Fits before set
set-fits t before env set h =
    let e = went (ends_in env t.kind t.bounds) (limited_set t.at before) set h in
    let n = went (near_set t.at e.value) (few_values t.at before) set e.more in
    let f = few-set t.at before n.value set n.more in
    let m = near-set t.at e.value n.value n.is in
    subst (Fits before) f.0 (record { low = m.0; high = m.1; size = f.1 }, f.2)

-- ---- the sets of a declaration

abbrev Kept : ℕ → List DeclaredSet → Type 0
Kept earlier sets = All IsFew sets × (earlier + values_of sets ≤ 33554432)

last-kept : (t : VariableTree) (earlier : ℕ) (env : Environment) (before made : List DeclaredSet) → Kept earlier before → then (set_in t (earlier + values_of before) env) (λ set. Ok (before ++ set ∷ [])) ≡ Ok made → Kept earlier made
last-kept t earlier env before made k h =
    let w = went (set_in t (earlier + values_of before) env) (λ set. Ok (before ++ set ∷ [])) made h in
    let f = set-fits t (earlier + values_of before) env w.value w.is in
    subst (Kept earlier) (ok_same (before ++ w.value ∷ []) made w.more)
    (All-append IsFew before (w.value ∷ []) k.0 (All-cons IsFew w.value [] f.0 (All-nil IsFew)), omega (arith, f.1, values-more before w.value))

over-kept : {A : Type 0} (P : List A → Type 0) (next : Value → List A → Made (List A)) → ((v : Value) (more last : List A) → P more → next v more ≡ Ok last → P last) →
    (before : List A) (vs : List Value) (made : List A) → P before → over next before vs ≡ Ok made → P made
over-kept P next each before [] made p h = subst P (ok_same before made h) p
over-kept P next each before (v ∷ vs) made p h =
    let w = went (next v before) (λ more. over next more vs) made h in
    over-kept P next each w.value vs made (each v before w.value p w.is) w.more

sets-kept : (t : VariableTree) (earlier : ℕ) (ds : List DimTree) (vss : List (List Value)) (env : Environment) (before made : List DeclaredSet) → Kept earlier before → each_set t earlier ds vss env before ≡ Ok made → Kept earlier made
sets-kept t earlier [] vss env before made k h = last-kept t earlier env before made k h
sets-kept t earlier (d ∷ ds) [] env before made k h = last-kept t earlier env before made k h
sets-kept t earlier (d ∷ ds) (vs ∷ vss) env before made k h =
    over-kept (Kept earlier) (λ v more. each_set t earlier ds vss (with_name d.name v env) more) (λ v more last p e. sets-kept t earlier ds vss (with_name d.name v env) more last p e) before vs made k h

-- ---- a declaration

abbrev Declares : List VariableItem → VariableItem → Type 0
Declares before v = Kept (values_of (sets_of before)) v.sets × ((length (sets_of before)) + length v.sets ≤ 65536)

nothing-more : (n m : ℕ) → n ≤ m → n + 0 ≤ m
nothing-more n m l = omega (arith, l)

one-more : (a b m : ℕ) → a + b ≤ m → a + (b + 0) ≤ m
one-more a b m l = omega (arith, l)

declares : (env : Environment) (before : List VariableItem) (t : VariableTree) (dims : Option DimsTree) (v : VariableItem) → (values_of (sets_of before)) ≤ 33554432 → item_over env (totals_of before) t dims ≡ Ok v → Declares before v
declares env before t None v small h =
    let made : Made VariableItem = then (set_in t (values_of (sets_of before)) env) (λ set. Ok (item_with t env None (set ∷ []))) in
    let f = few-made t.at (length (sets_of before)) 1 made v h in
    let w = went (set_in t (values_of (sets_of before)) env) (λ set. Ok (item_with t env None (set ∷ []))) v f.1 in
    let s = set-fits t (values_of (sets_of before)) env w.value w.is in
    subst (Declares before) (ok_same (item_with t env None (w.value ∷ [])) v w.more)
    ((All-cons IsFew w.value [] s.0 (All-nil IsFew), one-more (values_of (sets_of before)) (size_of w.value) 33554432 s.1), le-out ((length (sets_of before)) + 1) 65536 f.0)
declares env before t (Some dims) v small h =
    let each : IndexSpace → Made (List DeclaredSet) = λ space. each_set t (values_of (sets_of before)) (dims.first ∷ dims.rest) (lists space) env [] in
    let w = went (spaced (space_in env dims)) (λ space. few_variables t.at (length (sets_of before)) (elements (lists space)) (found (item_with t env (Some space)) (each space))) v h in
    let f = few-made t.at (length (sets_of before)) (elements (lists w.value)) (found (item_with t env (Some w.value)) (each w.value)) v w.more in
    let u = went (each w.value) (λ sets. Ok (item_with t env (Some w.value) sets)) v f.1 in
    let s = spaces env dims w.value (spaced-made (space_in env dims) w.value w.is) in
    let n : length u.value ≡ elements (lists w.value) = sets-length t (values_of (sets_of before)) (dims.first ∷ dims.rest) (lists w.value) env [] u.value s.0 u.is ∙ zero-plus (elements (lists w.value)) in
    subst (Declares before) (ok_same (item_with t env (Some w.value) u.value) v u.more) (
      sets-kept t (values_of (sets_of before)) (dims.first ∷ dims.rest) (lists w.value) env [] u.value (All-nil IsFew, nothing-more (values_of (sets_of before)) 33554432 small) u.is,
      subst (λ m. (length (sets_of before)) + m ≤ 65536) (sym n) (le-out ((length (sets_of before)) + elements (lists w.value)) 65536 f.0),
    )

declares-in : (env : Environment) (before : List VariableItem) (t : VariableTree) (v : VariableItem) → (values_of (sets_of before)) ≤ 33554432 → item_in env (totals_of before) t ≡ Ok v → Declares before v
unfolding item_in
declares-in env before t v small h = declares env before t t.dims v small h

-- ---- all declarations

record Good (sets : List DeclaredSet) : Type 0 where
  pub each : All IsFew sets
  pub few : length sets ≤ 65536
  pub values : values_of sets ≤ 33554432

good-more : (before : List VariableItem) (v : VariableItem) → Good (sets_of before) → Declares before v → Good (sets_of (before ++ v ∷ []))
good-more before v g d =
    subst Good (sym (sets-more before v)) (record {
      each = All-append IsFew (sets_of before) v.sets g.each d.0.0;
      few = omega (arith, d.1, length-append (sets_of before) v.sets);
      values = omega (arith, d.0.1, values-append (sets_of before) v.sets);
    })

decl-good : (env : Environment) (before : List VariableItem) (t : DeclTree) (more : List VariableItem) → Good (sets_of before) → with_decl env before t ≡ Ok more → Good (sets_of more)
decl-good env before (decls.Variable t) more g h =
    let w = went (item_in env (totals_of before) t) (λ v. Ok (before ++ v ∷ [])) more h in
    subst (λ vs. Good (sets_of vs)) (ok_same (before ++ w.value ∷ []) more w.more) (good-more before w.value g (declares-in env before t w.value g.values w.is))
decl-good env before t more g h = subst (λ vs. Good (sets_of vs)) (ok_same before more h) g

all-good : (env : Environment) (before : List VariableItem) (ts : List DeclTree) (items : List VariableItem) → Good (sets_of before) → variables_in env before ts ≡ Ok items → Good (sets_of items)
unfolding variables_in
all-good env before [] items g h = subst (λ vs. Good (sets_of vs)) (ok_same before items h) g
all-good env before (t ∷ ts) items g h =
    let w = went (with_decl env before t) (λ more. variables_in env more ts) items h in
    all-good env w.value ts items (decl-good env before t w.value g w.is) w.more

-- ---- as the ends of sets

count-same : (z : ℤ) → count_from z ≡ or_zero z
count-same (pos n) = refl
count-same (negsuc n) = refl

size-same : (set : DeclaredSet) → span_size (record { low = set.low; high = set.high }) ≡ size_of set
size-same set = count-same (set.high +ℤ pos 1 -ℤ set.low)

sound-set : (set : DeclaredSet) → IsFew set → IsSoundSet (set.low, set.high)
sound-set set f = record { low = f.low; high = f.high; few = λ l. subst (λ n. n ≤ 1048576) (sym (size-same set)) f.size }

values-same : (sets : List DeclaredSet) → all_values (map (λ set. (set.low, set.high)) sets) ≡ values_of sets
values-same [] = refl
values-same (set ∷ sets) = λ i. size-same set i + values-same sets i

all-sound : (sets : List DeclaredSet) → All IsFew sets → All IsSoundSet (map (λ set. (set.low, set.high)) sets)
all-sound sets h = All-map IsSoundSet (λ set. (set.low, set.high)) sets (λ k d l. sound-set _ (h k d l))

no-sets : Good []
no-sets = record { each = All-nil IsFew; few = omega arith; values = omega arith }

pub variables_are_within_limits : VariablesAreWithinLimits
variables_are_within_limits env ts items h =
    let g = all-good env [] ts items no-sets h in
    record {
      each = all-sound (sets_of items) g.each;
      few = subst (λ n. n ≤ 65536) (sym (length-map (λ set. (set.low, set.high)) (sets_of items))) g.few;
      values = subst (λ n. n ≤ 33554432) (sym (values-same (sets_of items))) g.values;
    }
