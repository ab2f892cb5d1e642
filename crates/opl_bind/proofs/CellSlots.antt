-- Cells of arrays of the model at their places.
use Rattle.std.proofs.Common.{◌≡◌, ℕ, ◌+◌, ◌<◌, Bool, true, false, cond, nat_eq, List, [], ◌∷◌, ◌++◌, drop, get_or, length, map, set, Bor, Option, None, Some, Result, Ok, Err, refl, sym, ap, subst, ◌∙◌}
use Rattle.std.specs.List.{slice_get}
use Rattle.std.specs.Option.{option_map}
use Rattle.std.proofs.lemmas.List.{at_drop_more, map-append, map-set}
use Rattle.std.proofs.lemmas.Option.{slice_get-map}
use Rattle.opl_term.specs.declared.term.Term.{Term}
use Rattle.opl_given.specs.declared.fault.BindFault.{BindFault}
use Rattle.opl_given.specs.declared.fault.BindFault.TheVariants.{Given, Twice, Missing, Shape, Outside, Override, Eval, OutOfMemory}
use Rattle.opl_value.specs.declared.value.Value.{Value}
use Rattle.opl_value.specs.Places.{place_in}
use Rattle.opl_eval.specs.Evaluation.{Environment, meaning}
use Rattle.opl_given.specs.declared.form.Form.{Form}
use Rattle.opl_given.specs.Arrays.{Axis, is_free, values_of}
use Rattle.opl_bind.specs.Cells.{fits, fits_at, key_place, terms_at}
use Rattle.opl_bind.specs.Dimensions.{evaluated}
use Rattle.opl_given.specs.Faults.{Bound, Gives, found, provided, then}
use Rattle.opl_given.specs.Forms.{Known}
use Rattle.opl_given.specs.Readings.{lent}
use Rattle.opl_given.specs.Values.{all_by_form}
use Rattle.opl_bind.specs.Written.{Fit, first_token, free_slots, gathered, laid, listed_cells, slot_at, with_slot, written}
use Rattle.opl_bind.proofs.WrittenLayers.{written-at, written-meaning}
use Rattle.opl_bind.proofs.WrittenScopes.{then_fault}

-- ---- places

free_mapped : {C D : Type 0} (f : C → D) (slot : Option (Option C)) → is_free (option_map (option_map f) slot) ≡ is_free slot
free_mapped f None = refl
free_mapped f (Some None) = refl
free_mapped f (Some (Some c)) = refl

pub is_free-mapped : {C D : Type 0} (f : C → D) (slots : List (Option C)) (p : Option ℕ) → is_free (slot_at (map (option_map f) slots) p) ≡ is_free (slot_at slots p)
is_free-mapped f slots None = refl
is_free-mapped f slots (Some p) = ap is_free (slice_get-map (option_map f) slots p) ∙ free_mapped f (slice_get slots p)

pub with_slot-mapped : {C D : Type 0} (f : C → D) (slots : List (Option C)) (p : Option ℕ) (c : C) → map (option_map f) (with_slot slots p c) ≡ with_slot (map (option_map f) slots) p (f c)
with_slot-mapped f slots None c = refl
with_slot-mapped f slots (Some p) c = map-set (option_map f) slots p (Some c)

pub free_slots-are : (known : Known) (ts : List Term) → fits_at known (map (λ k. None) ts) ≡ free_slots (map (written known) ts)
free_slots-are known [] = refl
free_slots-are known (t ∷ ts) = ap (λ slots. None ∷ slots) (free_slots-are known ts)

-- ---- gathering

pub gathered-mapped : {C D : Type 0} (f : C → D) (wrong : BindFault) (before : List C) (slots : List (Option (List C))) → gathered wrong (map f before) (map (option_map (map f)) slots) ≡ found (map f) (gathered wrong before slots)
gathered-mapped f wrong before [] = refl
gathered-mapped f wrong before (Some cells ∷ slots) =
    ap (λ more. gathered wrong more (map (option_map (map f)) slots)) (sym (map-append f before cells)) ∙ gathered-mapped f wrong (before ++ cells) slots
gathered-mapped f wrong before (None ∷ slots) = refl

pub fits-append : (known : Known) (xs ys zs : List (Bor Term)) → lent zs ≡ lent xs ++ lent ys → fits known (lent zs) ≡ fits known (lent xs) ++ fits known (lent ys)
fits-append known xs ys zs h = ap (fits known) h ∙ map-append (λ t. (written known t).fit) (lent xs) (lent ys)

pub gives_mapped : {A B C : Type 0} (f : A → C) (reading : B → A) (b : Bound A) (r : Result B BindFault) → Gives reading b r → Gives (λ x. f (reading x)) (found f b) r
gives_mapped f reading b (Ok x) h = ap (found f) h
gives_mapped f reading b (Err OutOfMemory) h = tt
gives_mapped f reading b (Err (Given name)) h = ap (found f) h
gives_mapped f reading b (Err (Twice name)) h = ap (found f) h
gives_mapped f reading b (Err (Missing name)) h = ap (found f) h
gives_mapped f reading b (Err (Shape file at)) h = ap (found f) h
gives_mapped f reading b (Err (Outside file at)) h = ap (found f) h
gives_mapped f reading b (Err (Override name)) h = ap (found f) h
gives_mapped f reading b (Err (Eval fault)) h = ap (found f) h

pub slot_lent : {A : Type 0} (slots : List (Option (List (Bor A)))) (p : ℕ) → slice_get (terms_at slots) p ≡ option_map (option_map lent) (slice_get slots p)
slot_lent slots p = slice_get-map (option_map lent) slots p

pub slot_set : {A : Type 0} (slots : List (Option (List (Bor A)))) (p : ℕ) (cells : List (Bor A)) → terms_at (set slots p (Some cells)) ≡ set (terms_at slots) p (Some (lent cells))
slot_set slots p cells = map-set (option_map lent) slots p (Some cells)

pub ruleset slots = (slot_lent, slot_set)

pub lent-append : {A : Type 0} (xs ys : List (Bor A)) → lent (xs ++ ys) ≡ lent xs ++ lent ys
lent-append xs ys = map-append (λ b. b.now) xs ys

pub ruleset lists = (lent-append)

pub ruleset mapped = (is_free-mapped, with_slot-mapped, free_slots-are, fits-append)

-- ---- the cells of one more pair

module _ (known : Known) (wrong : BindFault) (axis : Axis) (axes : List Axis) (env : Environment) (all : Bound (List (Option (List Fit)))) (slots : List (Option (List Term))) (k c : Term) (ks cs : List Term)
    (so_far : all ≡ laid wrong axis axes env (fits_at known slots) (map (written known) (k ∷ ks)) (map (written known) (c ∷ cs))) where
  -- what comes behind a place
  behind : Option ℕ → Bound (List (Option (List Fit)))
  behind p = then ((written known c).cells wrong axes env) (λ found. laid wrong axis axes env (with_slot (fits_at known slots) p found) (map (written known) ks) (map (written known) cs))

  tested_place : (v : Value) (b : Bool) (p : Option ℕ) → cond b (behind p) (Err wrong) ≡ then (cond b (Ok p) (Err wrong)) behind
  unfolding behind
  tested_place v true p = refl
  tested_place v false p = refl

  placed_here : (v : Bound Value) → then v (λ x. provided (is_free (slot_at (fits_at known slots) (place_in x (values_of axis)))) wrong (behind (place_in x (values_of axis)))) ≡ then (key_place wrong axis slots v) behind
  placed_here (Err e) = refl
  placed_here (Ok x) =
      ap (λ b. cond b (behind (place_in x (values_of axis))) (Err wrong)) (is_free-mapped (fits known) slots (place_in x (values_of axis)))
      ∙ tested_place x (is_free (slot_at slots (place_in x (values_of axis)))) (place_in x (values_of axis))

  laid_here : all ≡ then (key_place wrong axis slots (evaluated ((meaning k).value env))) behind
  unfolding behind
  laid_here =
      so_far
      ∙ ap (λ m. then (evaluated (m.value env)) (λ x. provided (is_free (slot_at (fits_at known slots) (place_in x (values_of axis)))) wrong (behind (place_in x (values_of axis))))) (written-meaning known k)
      ∙ placed_here (evaluated ((meaning k).value env))

  pub laid_place-fault : {B : Type 0} (reading : B → List (Option (List Fit))) (e : BindFault) → Gives (λ p. p) (key_place wrong axis slots (evaluated ((meaning k).value env))) (Err e) → Gives reading all (Err e)
  laid_place-fault reading e h =
      subst (λ b. Gives reading b (Err e)) (sym laid_here) (then_fault (λ p. p) reading (key_place wrong axis slots (evaluated ((meaning k).value env))) behind e h)

  laid_place : (p : Option ℕ) → key_place wrong axis slots (evaluated ((meaning k).value env)) ≡ Ok p → all ≡ behind p
  laid_place p h = laid_here ∙ ap (λ r. then r behind) h

  pub laid_cells-fault : {B C : Type 0} (reading : B → List (Option (List Fit))) (other : C → List Fit) (p : Option ℕ) (e : BindFault) → key_place wrong axis slots (evaluated ((meaning k).value env)) ≡ Ok p
      → Gives other ((written known c).cells wrong axes env) (Err e) → Gives reading all (Err e)
  unfolding behind
  laid_cells-fault reading other p e h g =
      subst (λ b. Gives reading b (Err e)) (sym (laid_place p h))
      (then_fault other reading ((written known c).cells wrong axes env) (λ found. laid wrong axis axes env (with_slot (fits_at known slots) p found) (map (written known) ks) (map (written known) cs)) e g)

  pub laid_more : (p : Option ℕ) (cell : List Term) (after : List (Option (List Term))) → key_place wrong axis slots (evaluated ((meaning k).value env)) ≡ Ok p → (written known c).cells wrong axes env ≡ Ok (fits known cell)
      → after ≡ with_slot slots p cell → all ≡ laid wrong axis axes env (fits_at known after) (map (written known) ks) (map (written known) cs)
  unfolding behind
  laid_more p cell after h g e =
      laid_place p h ∙ ap (λ r. then r (λ found. laid wrong axis axes env (with_slot (fits_at known slots) p found) (map (written known) ks) (map (written known) cs))) g
      ∙ ap (λ s. laid wrong axis axes env s (map (written known) ks) (map (written known) cs)) (sym (with_slot-mapped (fits known) slots p cell) ∙ ap (fits_at known) (sym e))

-- the pair at an index
pub laid-at : (known : Known) (wrong : BindFault) (axis : Axis) (axes : List Axis) (env : Environment) (all : Bound (List (Option (List Fit)))) (before slots : List (Option (List Term))) (keys cells : List Term) (i : ℕ) (k c : Term) (cs : List Term)
    → all ≡ laid wrong axis axes env (fits_at known before) (map (written known) (drop i keys)) (map (written known) cells) → slots ≡ before → i < length keys → k ≡ get_or keys i k → cells ≡ c ∷ cs
    → all ≡ laid wrong axis axes env (fits_at known slots) (map (written known) (k ∷ drop (i + 1) keys)) (map (written known) (c ∷ cs))
laid-at known wrong axis axes env all before slots keys cells i k c cs so_far same more here split =
    so_far ∙ ap (λ s. laid wrong axis axes env (fits_at known s) (map (written known) (drop i keys)) (map (written known) cells)) (sym same)
    ∙ at_drop_more (λ ks. laid wrong axis axes env (fits_at known slots) (map (written known) ks) (map (written known) cells)) keys i k more
    ∙ ap (λ key. laid wrong axis axes env (fits_at known slots) (map (written known) (key ∷ drop (i + 1) keys)) (map (written known) cells)) (sym here)
    ∙ ap (λ xs. laid wrong axis axes env (fits_at known slots) (map (written known) (k ∷ drop (i + 1) keys)) (map (written known) xs)) split

-- ---- `#[..]#`, and the whole

pub keyed-found : (known : Known) (wrong : BindFault) (axis : Axis) (laid_slots : Bound (List (Option (List Fit)))) (keys : List Term) (slots : List (Option (List Term))) → nat_eq (length keys) (length (values_of axis)) ≡ true → laid_slots ≡ Ok (fits_at known slots)
    → provided (nat_eq (length keys) (length (values_of axis))) wrong (then laid_slots (gathered wrong [])) ≡ found (fits known) (gathered wrong [] slots)
keyed-found known wrong axis laid_slots keys slots size h =
    ap (λ b. cond b (then laid_slots (gathered wrong [])) (Err wrong)) size ∙ ap (λ r. then r (gathered wrong [])) h
    ∙ gathered-mapped (λ t. (written known t).fit) wrong [] slots

pub listed-found : (known : Known) (t : Term) (form : Form) (axes : List Axis) (env : Environment) (at : ℕ) (ts us : List Term) → at ≡ first_token t → (written known t).cells (Shape 0 at) axes env ≡ Ok (fits known ts) → us ≡ ts
    → listed_cells (written known t) form axes env ≡ all_by_form [] (map (λ fit. λ f. fit f env) (fits known us)) form
listed-found known t form axes env at ts us place h same =
    ap (λ k. then ((written known t).cells (Shape 0 k) axes env) (λ found. all_by_form [] (map (λ fit. λ f. fit f env) found) form)) (written-at known t ∙ sym place)
    ∙ ap (λ r. then r (λ found. all_by_form [] (map (λ fit. λ f. fit f env) found) form)) h
    ∙ ap (λ xs. all_by_form [] (map (λ fit. λ f. fit f env) (fits known xs)) form) (sym same)

pub listed-fault : {C : Type 0} (known : Known) (t : Term) (form : Form) (axes : List Axis) (env : Environment) (at : ℕ) (reading : C → List Fit) (e : BindFault) → at ≡ first_token t → Gives reading ((written known t).cells (Shape 0 at) axes env) (Err e)
    → Gives {B = List Value} (λ a. a) (listed_cells (written known t) form axes env) (Err e)
listed-fault known t form axes env at reading e place h =
    subst (λ k. Gives {B = List Value} (λ a. a) (then ((written known t).cells (Shape 0 k) axes env) (λ found. all_by_form [] (map (λ fit. λ f. fit f env) found) form)) (Err e)) (place ∙ sym (written-at known t))
    (then_fault reading (λ a. a) ((written known t).cells (Shape 0 at) axes env) (λ found. all_by_form [] (map (λ fit. λ f. fit f env) found) form) e h)
