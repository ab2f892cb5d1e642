-- In arrays that the model writes, the cell at a key's place is the value of the expression that stands for the key.
use Rattle.std.proofs.Common.{◌≡◌, inl, inr, ℕ, zero, suc, ◌+◌, ◌*◌, Bool, true, false, cond, List, [], ◌∷◌, ◌++◌, length, map, set, Option, None, Some, Ok, Err, refl, sym, ap, subst, ◌∙◌, arith, append_assoc, append-nil, length-append}
use Rattle.std.specs.Prelude.{nat_eq}
use Rattle.std.specs.List.{AllByRecursion, list_any, slice_get}
use Rattle.std.proofs.Math.Nat.{add-mul}
use Rattle.std.proofs.lemmas.List.{length-map}
use Rattle.opl_tree.specs.declared.declaration.DimTree.{DimTree}
use Rattle.opl_term.specs.declared.term.GroupTerm.{GroupTerm}
use Rattle.opl_term.specs.declared.term.GroupTerm.TheOpen.{Term-F}
use Rattle.opl_term.specs.declared.term.GroupTerm.TheFolds.{fold-GroupTerm, fold-SetTerm, fold-Step, fold-roll-Term, map-Term}
use Rattle.opl_term.specs.declared.term.GroupTerm.TheViews.{out-Term, roll-out-Term}
use Rattle.opl_term.specs.declared.term.SetTerm.{SetTerm}
use Rattle.opl_term.specs.declared.term.Step.{Step}
use Rattle.opl_term.specs.declared.term.Term.{Term}
use Rattle.opl_value.specs.declared.value.Value.{Value}
use Rattle.opl_value.specs.Places.{elements, joint, place_in, place_of}
use Rattle.opl_eval.specs.Evaluation.{Environment, Found, Group, Meaning, eval}
use Rattle.opl_given.specs.declared.fault.BindFault.{BindFault}
use Rattle.opl_given.specs.declared.fault.BindFault.TheVariants as faults
use Rattle.opl_given.specs.declared.form.Form.{Form}
use Rattle.opl_given.specs.Arrays.{Axis, is_free, values_of}
use Rattle.opl_given.specs.Forms.{Known}
use Rattle.opl_given.specs.Values.{all_by_form}
use Rattle.opl_bind.specs.Dimensions.{evaluated}
use Rattle.opl_bind.specs.Written.{Fit, Run, Written, cells_layer, each_cell, free_slots, gathered, group_means, has_cells, has_cells_layer, has_name, laid, listed_cells, opened, set_means, slot_at, step_means, taken_cells, with_slot, written, written_cells, written_layer, written_value}
use Rattle.opl_given.proofs.CellLaws.{passed, same_number, same_ok, went_first}
use Rattle.opl_bind.proofs.WrittenLayers.{cells-none, written-has_cells, written-meaning}
use Rattle.opl_fit.specs.Keys.{IsKeyIn, SaysWritten, inner_layer, key_layer, written_part_layer}
use Rattle.opl_fit.specs.Laws.{WrittenCellsStandByTheirKeys, WrittenKeysAreElements}
use Rattle.opl_fit.proofs.Cells.{Stay, apart, free-slot, get-left, get-right, index-first, index-later, length-set, set-other, set-same, some_same}

slot-put : {C : Type 0} (ss : List (Option C)) (o : Option ℕ) (c : C) → is_free (slot_at ss o) ≡ true → (p : ℕ) × (o ≡ Some p) × (slice_get (with_slot ss o c) p ≡ Some (Some c)) × Stay ss (with_slot ss o c)
slot-put ss None c h = absurd (cc)
slot-put ss (Some p) c h =
    let f = free-slot (slice_get ss p) h in
    (p, refl, set-same ss p (Some c) None f, (λ q d g. set-other ss p q (Some c) (λ s. apart d (sym f ∙ ap (slice_get ss) s ∙ g)) ∙ g))

-- ---- what stands behind the keys, and how many cells it has

pub evaluated-ok : {A : Type 0} (f : Found A) (a : A) → evaluated f ≡ Ok a → f ≡ Ok a
evaluated-ok (Ok b) a h = ap Ok (same_ok b a h)
evaluated-ok (Err e) a h = absurd (cc)

module _ (known : Known) (wrong : BindFault) (env : Environment) (axes : List Axis) where
  abbrev Opens : Term → List Fit → Type 0
  Opens t fits = (written known t).cells wrong axes env ≡ Ok fits

  abbrev many : ℕ
  many = elements (map values_of axes)

  abbrev HaveMany : Type 0
  HaveMany = (t : Term) (fits : List Fit) → Opens t fits → length fits ≡ many

  abbrev Sized : Option (List Fit) → Type 0
  Sized None = Unit {0}
  Sized (Some fits) = length fits ≡ many

  sized-set : (ss : List (Option (List Fit))) (p : ℕ) (fits : List Fit) → length fits ≡ many → AllByRecursion Sized ss → AllByRecursion Sized (set ss p (Some fits))
  sized-set [] p fits l h = tt
  sized-set (s ∷ ss) zero fits l h = (l, h.1)
  sized-set (s ∷ ss) (suc p) fits l h = (h.0, sized-set ss p fits l h.1)

  sized-with : (ss : List (Option (List Fit))) (o : Option ℕ) (fits : List Fit) → length fits ≡ many → AllByRecursion Sized ss → AllByRecursion Sized (with_slot ss o fits)
  sized-with ss None fits l h = h
  sized-with ss (Some p) fits l h = sized-set ss p fits l h

  sized-free : (ks : List Written) → AllByRecursion Sized (free_slots ks)
  sized-free [] = tt
  sized-free (k ∷ ks) = (tt, sized-free ks)

  length-with : (ss : List (Option (List Fit))) (o : Option ℕ) (fits : List Fit) → length (with_slot ss o fits) ≡ length ss
  length-with ss None fits = refl
  length-with ss (Some p) fits = length-set ss p (Some fits)

  length-free : (ks : List Term) → length (free_slots (map (written known) ks)) ≡ length ks
  length-free [] = refl
  length-free (k ∷ ks) = ap suc (length-free ks)

  -- the cells of the expression u lie at the place of the key that k comes to
  record IsLaid (axis : Axis) (more : List (Option (List Fit))) (k u : Term) : Type 0 where
    place : ℕ
    key : Value
    found : List Fit
    comes : eval k env ≡ Ok key
    place_is : place_in key (values_of axis) ≡ Some place
    opens : Opens u found
    stands : slice_get more place ≡ Some (Some found)

  abbrev AreLaid : Axis → List (Option (List Fit)) → List Term → List Term → Type 0
  AreLaid axis more ks us = (i : ℕ) (k u : Term) → slice_get ks i ≡ Some k → slice_get us i ≡ Some u → IsLaid axis more k u

  more-laid : (axis : Axis) (more : List (Option (List Fit))) (k u : Term) (ks us : List Term) → IsLaid axis more k u → AreLaid axis more ks us → AreLaid axis more (k ∷ ks) (u ∷ us)
  more-laid axis more k u ks us first later zero l w g h = subst (λ x. IsLaid axis more x w) (some_same k l g) (subst (λ x. IsLaid axis more k x) (some_same u w h) first)
  more-laid axis more k u ks us first later (suc i) l w g h = later i l w g h

  record Laid (axis : Axis) (ss more : List (Option (List Fit))) (ks us : List Term) : Type 0 where
    stay : Stay ss more
    are : AreLaid axis more ks us
    sized : AllByRecursion Sized more
    as_many : length more ≡ length ss

  none-laid : (axis : Axis) (ss more : List (Option (List Fit))) (ks us : List Term) → AllByRecursion Sized ss → ss ≡ more → ((i : ℕ) (k u : Term) → slice_get ks i ≡ Some k → slice_get us i ≡ Some u → ⊥) → Laid axis ss more ks us
  none-laid axis ss more ks us s e none =
      record { stay = λ q d g. ap (λ xs. slice_get xs q) (sym e) ∙ g; are = λ i k u g h. absurd (none i k u g h); sized = subst (AllByRecursion Sized) e s; as_many = ap length (sym e) }

  laid-stand : (axis : Axis) (ss more : List (Option (List Fit))) (ks us : List Term) → HaveMany → AllByRecursion Sized ss → laid wrong axis axes env ss (map (written known) ks) (map (written known) us) ≡ Ok more → Laid axis ss more ks us
  laid-stand axis ss more [] us have s h = none-laid axis ss more [] us s (same_ok ss more h) (λ i k u g j. absurd (cc))
  laid-stand axis ss more (k ∷ ks) [] have s h = none-laid axis ss more (k ∷ ks) [] s (same_ok ss more h) (λ i l u g j. absurd (cc))
  laid-stand axis ss more (k ∷ ks) (u ∷ us) have s h =
      let w = went_first (evaluated ((written known k).meaning.value env)) _ more h in
      let o = place_in w.0 (values_of axis) in
      let p = passed (is_free (slot_at ss o)) _ wrong more w.2 in
      let q = went_first ((written known u).cells wrong axes env) (λ fits. laid wrong axis axes env (with_slot ss o fits) (map (written known) ks) (map (written known) us)) more p.1 in
      let t = slot-put ss o q.0 p.0 in
      let r = laid-stand axis (with_slot ss o q.0) more ks us have (sized-with ss o q.0 (have u q.0 q.1) s) q.2 in
      let key_is = evaluated-ok (eval k env) w.0 (ap (λ m. evaluated (m.value env)) (sym (written-meaning known k)) ∙ w.1) in
      let first : IsLaid axis more k u = record { place = t.0; key = w.0; found = q.0; comes = key_is; place_is = t.1; opens = q.1; stands = r.stay t.0 q.0 t.2 } in
      record {
        stay = λ j d g. r.stay j d (t.3 j d g);
        are = more-laid axis more k u ks us first r.are;
        sized = r.sized;
        as_many = r.as_many ∙ length-with ss o q.0;
      }

  -- the cells of the i-th of these stand one behind the other, where each before it has so many
  abbrev StandAt : List Fit → ℕ → List Fit → Type 0
  StandAt all i fits = (q : ℕ) (f : Fit) → slice_get fits q ≡ Some f → slice_get all (i * many + q) ≡ Some f

  stand-first : (fits rest : List Fit) → StandAt (fits ++ rest) 0 fits
  stand-first fits rest q f g = ap (slice_get (fits ++ rest)) (index-first many q) ∙ get-left fits rest q f g

  stand-later : (fits rest : List Fit) (i : ℕ) (part : List Fit) → length fits ≡ many → StandAt rest i part → StandAt (fits ++ rest) (suc i) part
  stand-later fits rest i part l h q f g = get-right fits rest (i * many + q) (suc i * many + q) (index-later i many q (length fits) l) ∙ h q f g

  record Gathered (before fits : List Fit) (ss : List (Option (List Fit))) : Type 0 where
    rest : List Fit
    behind : fits ≡ before ++ rest
    as_many : length rest ≡ length ss * many
    stand : (p : ℕ) (part : List Fit) → slice_get ss p ≡ Some (Some part) → StandAt rest p part

  first-gathered : (part : List Fit) (ss : List (Option (List Fit))) (rest : List Fit) → length part ≡ many → ((p : ℕ) (other : List Fit) → slice_get ss p ≡ Some (Some other) → StandAt rest p other) →
      (p : ℕ) (other : List Fit) → slice_get (Some part ∷ ss) p ≡ Some (Some other) → StandAt (part ++ rest) p other
  first-gathered part ss rest l k zero other g =
      let e : part ≡ other = some_same part other (some_same (Some part) (Some other) g) in subst (StandAt (part ++ rest) 0) e (stand-first part rest)
  first-gathered part ss rest l k (suc p) other g = stand-later part rest p other l (k p other g)

  joined-length : (part rest : List Fit) (n : ℕ) → length part ≡ many → length rest ≡ n * many → length (part ++ rest) ≡ suc n * many
  joined-length part rest n l h = let a = length-append part rest in let m = add-mul 1 n many in omega (arith, a, l, h, m)

  gathered-stand : (before fits : List Fit) (ss : List (Option (List Fit))) → AllByRecursion Sized ss → gathered wrong before ss ≡ Ok fits → Gathered before fits ss
  gathered-stand before fits [] s h = record { rest = []; behind = sym (same_ok before fits h) ∙ sym (append-nil before); as_many = omega arith; stand = λ p part g. absurd (cc) }
  gathered-stand before fits (None ∷ ss) s h = absurd (cc)
  gathered-stand before fits (Some part ∷ ss) s h =
      let r = gathered-stand (before ++ part) fits ss s.1 h in
      record { rest = part ++ r.rest; behind = r.behind ∙ append_assoc before part r.rest; as_many = joined-length part r.rest (length ss) s.0 r.as_many; stand = first-gathered part ss r.rest s.0 r.stand }

  record Opened (before fits : List Fit) (ts : List Term) : Type 0 where
    rest : List Fit
    behind : fits ≡ before ++ rest
    as_many : length rest ≡ length ts * many
    stand : (i : ℕ) (t : Term) → slice_get ts i ≡ Some t → (part : List Fit) × Opens t part × StandAt rest i part

  first-opened : (t : Term) (ts : List Term) (part rest : List Fit) → Opens t part → length part ≡ many → ((i : ℕ) (u : Term) → slice_get ts i ≡ Some u → (p : List Fit) × Opens u p × StandAt rest i p) →
      (i : ℕ) (u : Term) → slice_get (t ∷ ts) i ≡ Some u → (p : List Fit) × Opens u p × StandAt (part ++ rest) i p
  first-opened t ts part rest o l k zero u g = (part, subst (λ x. Opens x part) (some_same t u g) o, stand-first part rest)
  first-opened t ts part rest o l k (suc i) u g = let r = k i u g in (r.0, r.1, stand-later part rest i r.0 l r.2)

  opened-stand : (before fits : List Fit) (ts : List Term) → HaveMany → opened wrong axes env before (map (written known) ts) ≡ Ok fits → Opened before fits ts
  opened-stand before fits [] have h = record { rest = []; behind = sym (same_ok before fits h) ∙ sym (append-nil before); as_many = omega arith; stand = λ i t g. absurd (cc) }
  opened-stand before fits (t ∷ ts) have h =
      let w = went_first ((written known t).cells wrong axes env) (λ more. opened wrong axes env (before ++ more) (map (written known) ts)) fits h in
      let r = opened-stand (before ++ w.0) fits ts have w.2 in
      let l = have t w.0 w.1 in
      record { rest = w.0 ++ r.rest; behind = r.behind ∙ append_assoc before w.0 r.rest; as_many = joined-length w.0 r.rest (length ts) l r.as_many; stand = first-opened t ts w.0 r.rest w.1 l r.stand }

-- ---- one layer

abbrev pub in_term : Known → Term-F GroupTerm SetTerm Step Term → Term-F Group Meaning Run Written
in_term known x = map-Term GroupTerm SetTerm Step Term Group Meaning Run Written
    (fold-GroupTerm Group Meaning Run Written group_means set_means step_means (written_layer known))
    (fold-SetTerm Group Meaning Run Written group_means set_means step_means (written_layer known))
    (fold-Step Group Meaning Run Written group_means set_means step_means (written_layer known))
    (written known) x

pub written-out : (known : Known) (t : Term) → written known t ≡ written_layer known (in_term known (out-Term t))
unfolding written
written-out known t = ap (written known) (sym (roll-out-Term t)) ∙ fold-roll-Term Group Meaning Run Written group_means set_means step_means (written_layer known) (out-Term t)

-- the value of a key, and its place
abbrev IsElement : Environment → Axis → Term → Type 0
IsElement env axis k = (v : Value) × (place : ℕ) × (eval k env ≡ Ok v) × (place_in v (values_of axis) ≡ Some place)

-- an expression lies at the place of a key
abbrev Lies : Known → List Axis → List Fit → List Value → Term → Type 0
Lies known axes fits key cell = (place : ℕ) × (place_of (map values_of axes) key ≡ Some place) × (slice_get fits place ≡ Some (written known cell).fit)

-- what is known of an expression whose cells these are
record Holds (known : Known) (env : Environment) (axes : List Axis) (t : Term) (fits : List Fit) : Type 0 where
  as_many : length fits ≡ elements (map values_of axes)
  stands : (key : List Value) (cell : Term) → SaysWritten env axes t key cell → Lies known axes fits key cell
  keys : (axis : Axis) (k : Term) → IsKeyIn axis k axes t → IsElement env axis k

-- and of one layer
record LayerHolds (known : Known) (env : Environment) (axis : Axis) (axes : List Axis) (x : Term-F GroupTerm SetTerm Step Term) (fits : List Fit) : Type 0 where
  as_many : length fits ≡ elements (map values_of (axis ∷ axes))
  stands : (v : Value) (key : List Value) (part cell : Term) → written_part_layer env axis x v part → SaysWritten env axes part key cell → Lies known (axis ∷ axes) fits (v ∷ key) cell
  keys : (k : Term) → key_layer x k → IsElement env axis k
  inner : (a : Axis) (k part : Term) → inner_layer x part → IsKeyIn a k axes part → IsElement env a k

same_found : {A : Type 0} (a b : A) → (let x : Found A = Ok a in x) ≡ Ok b → a ≡ b
same_found a b h = cc

module _ (known : Known) (wrong : BindFault) (env : Environment) (axis : Axis) (axes : List Axis) (below : (t : Term) (fits : List Fit) → (written known t).cells wrong axes env ≡ Ok fits → Holds known env axes t fits) where
  have : HaveMany known wrong env axes
  have t fits h = (below t fits h).as_many

  deeper : (fits part_fits : List Fit) (place : ℕ) (v : Value) (key : List Value) (part cell : Term) → place_in v (values_of axis) ≡ Some place → (written known part).cells wrong axes env ≡ Ok part_fits →
      StandAt known wrong env axes fits place part_fits → SaysWritten env axes part key cell → Lies known (axis ∷ axes) fits (v ∷ key) cell
  deeper fits part_fits place v key part cell is o s says =
      let b = (below part part_fits o).stands key cell says in
      (place * elements (map values_of axes) + b.0, (λ j. joint (elements (map values_of axes)) (is j) (b.1 j)), s b.0 (written known cell).fit b.2)

  array-holds : (fit : Fit) (at : ℕ) (ts : List Term) (fits : List Fit) → cells_layer {A = Group} {B = Meaning} {C = Run} fit (Term-F.Array at (map (written known) ts)) wrong (axis ∷ axes) env ≡ Ok fits →
      LayerHolds known env axis axes (Term-F.Array at ts) fits
  array-holds fit at ts fits h =
      let w = passed (nat_eq (length (map (written known) ts)) (length (values_of axis))) _ wrong fits h in
      let o = opened-stand known wrong env axes [] fits ts have w.1 in
      let n : length ts ≡ length (values_of axis) = sym (length-map ts (written known)) ∙ same_number (length (map (written known) ts)) (length (values_of axis)) w.0 in
      record {
        as_many = ap length o.behind ∙ o.as_many ∙ ap (λ k. k * elements (map values_of axes)) n;
        stands = λ v key part cell p says.
            let r = o.stand p.place part p.stands in
            deeper fits r.0 p.place v key part cell p.place_is r.1 (λ q f g. ap (λ fs. slice_get fs (p.place * elements (map values_of axes) + q)) o.behind ∙ r.2 q f g) says;
        keys = λ k no. absurd no;
        inner = λ a k part i in_part. let r = o.stand i.0 part i.1 in (below part r.0 r.1).keys a k in_part;
      }

  keyed-holds : (fit : Fit) (at : ℕ) (ks us : List Term) (fits : List Fit) → cells_layer {A = Group} {B = Meaning} {C = Run} fit (Term-F.KeyedArray at (map (written known) ks) (map (written known) us)) wrong (axis ∷ axes) env ≡ Ok fits →
      LayerHolds known env axis axes (Term-F.KeyedArray at ks us) fits
  keyed-holds fit at ks us fits h =
      let w = passed (nat_eq (length (map (written known) ks)) (length (values_of axis))) _ wrong fits h in
      let free = free_slots (map (written known) ks) in
      let s = went_first (laid wrong axis axes env free (map (written known) ks) (map (written known) us)) (gathered wrong []) fits w.1 in
      let l = laid-stand known wrong env axes axis free s.0 ks us have (sized-free known wrong env axes (map (written known) ks)) s.1 in
      let o = gathered-stand known wrong env axes [] fits s.0 l.sized s.2 in
      let n : length s.0 ≡ length (values_of axis) =
      l.as_many ∙ length-free known wrong env axes ks ∙ sym (length-map ks (written known)) ∙ same_number (length (map (written known) ks)) (length (values_of axis)) w.0 in
      record {
        as_many = ap length o.behind ∙ o.as_many ∙ ap (λ k. k * elements (map values_of axes)) n;
        stands = λ v key part cell p says.
            let i = l.are p.number p.expression part p.stands p.behind in
            let e : i.key ≡ v = same_found i.key v (sym i.comes ∙ p.key_is) in
            deeper fits i.found i.place v key part cell (ap (λ u. place_in u (values_of axis)) (sym e) ∙ i.place_is) i.opens
            (λ q f g. ap (λ fs. slice_get fs (i.place * elements (map values_of axes) + q)) o.behind ∙ o.stand i.place i.found i.stands q f g) says;
        keys = λ k here. let i = l.are here.0 k here.1 here.2 here.3 in (i.key, i.place, i.comes, i.place_is);
        inner = λ a k part here in_part. let i = l.are here.0 here.1 part here.2 here.3 in (below part i.found i.opens).keys a k in_part;
      }

  layer-holds : (fit : Fit) (x : Term-F GroupTerm SetTerm Step Term) (fits : List Fit) → cells_layer fit (in_term known x) wrong (axis ∷ axes) env ≡ Ok fits → LayerHolds known env axis axes x fits
  layer-holds fit (Term-F.Number at n) fits h = absurd (cc)
  layer-holds fit (Term-F.Named at name) fits h = absurd (cc)
  layer-holds fit (Term-F.Bracket at t) fits h = absurd (cc)
  layer-holds fit (Term-F.Negative at t) fits h = absurd (cc)
  layer-holds fit (Term-F.Chain at t ss) fits h = absurd (cc)
  layer-holds fit (Term-F.Related at t r u) fits h = absurd (cc)
  layer-holds fit (Term-F.Member at t s) fits h = absurd (cc)
  layer-holds fit (Term-F.Equivalent at ts) fits h = absurd (cc)
  layer-holds fit (Term-F.Implied at t u) fits h = absurd (cc)
  layer-holds fit (Term-F.Or at ts) fits h = absurd (cc)
  layer-holds fit (Term-F.And at ts) fits h = absurd (cc)
  layer-holds fit (Term-F.Not at t) fits h = absurd (cc)
  layer-holds fit (Term-F.Aggregate at op gs c t) fits h = absurd (cc)
  layer-holds fit (Term-F.Call at op t) fits h = absurd (cc)
  layer-holds fit (Term-F.AllDifferent at t) fits h = absurd (cc)
  layer-holds fit (Term-F.Question at op t) fits h = absurd (cc)
  layer-holds fit (Term-F.Element at t ts) fits h = absurd (cc)
  layer-holds fit (Term-F.Fields at t fs) fits h = absurd (cc)
  layer-holds fit (Term-F.Record at ts) fits h = absurd (cc)
  layer-holds fit (Term-F.Listed at ts) fits h = absurd (cc)
  layer-holds fit (Term-F.Described at t gs c) fits h = absurd (cc)
  layer-holds fit (Term-F.Array at ts) fits h = array-holds fit at ts fits h
  layer-holds fit (Term-F.KeyedArray at ks us) fits h = keyed-holds fit at ks us fits h

one-lies : (known : Known) (env : Environment) (t : Term) (fits : List Fit) → (written known t).fit ∷ [] ≡ fits → (key : List Value) (cell : Term) → SaysWritten env [] t key cell → Lies known [] fits key cell
one-lies known env t fits e [] cell s = (0, refl, ap (λ fs. slice_get fs 0) (sym e) ∙ ap (λ u. Some (written known u).fit) s)
one-lies known env t fits e (v ∷ key) cell s = absurd s

layer-lies : (known : Known) (env : Environment) (axis : Axis) (axes : List Axis) (t : Term) (fits : List Fit) → LayerHolds known env axis axes (out-Term t) fits → (key : List Value) (cell : Term) → SaysWritten env (axis ∷ axes) t key cell →
    Lies known (axis ∷ axes) fits key cell
layer-lies known env axis axes t fits l [] cell s = absurd s
layer-lies known env axis axes t fits l (v ∷ key) cell s = l.stands v key s.0 cell s.1 s.2

layer-keys : (known : Known) (env : Environment) (axis : Axis) (axes : List Axis) (t : Term) (fits : List Fit) → LayerHolds known env axis axes (out-Term t) fits → (a : Axis) (k : Term) → IsKeyIn a k (axis ∷ axes) t → IsElement env a k
layer-keys known env axis axes t fits l a k (inl h) = subst (λ (b : Axis). IsElement env b k) (sym h.0) (l.keys k h.1)
layer-keys known env axis axes t fits l a k (inr h) = l.inner a k h.0 h.1 h.2

cells-hold : (known : Known) (wrong : BindFault) (env : Environment) (axes : List Axis) (t : Term) (fits : List Fit) → (written known t).cells wrong axes env ≡ Ok fits → Holds known env axes t fits
cells-hold known wrong env [] t fits h =
    let e : (written known t).fit ∷ [] ≡ fits = same_ok ((written known t).fit ∷ []) fits (sym (cells-none known t wrong env) ∙ h) in
    record { as_many = ap length (sym e); stands = one-lies known env t fits e; keys = λ axis k no. absurd no }
cells-hold known wrong env (axis ∷ axes) t fits h =
    let l = layer-holds known wrong env axis axes (cells-hold known wrong env axes) (written_layer known (in_term known (out-Term t))).fit (out-Term t) fits (sym (ap (λ w. w.cells wrong (axis ∷ axes) env) (written-out known t)) ∙ h) in
    record { as_many = l.as_many; stands = layer-lies known env axis axes t fits l; keys = layer-keys known env axis axes t fits l }

-- ---- the values of cells

abbrev ReadAt : Form → Environment → List Value → ℕ → Fit → Type 0
ReadAt form env vs p fit = (v : Value) × (slice_get vs p ≡ Some v) × (fit form env ≡ Ok v)

more-read : (form : Form) (env : Environment) (fit : Fit) (fits : List Fit) (v : Value) (vs : List Value) → fit form env ≡ Ok v → ((p : ℕ) (g : Fit) → slice_get fits p ≡ Some g → ReadAt form env vs p g) →
    (p : ℕ) (g : Fit) → slice_get (fit ∷ fits) p ≡ Some g → ReadAt form env (v ∷ vs) p g
more-read form env fit fits v vs h k zero g e = (v, refl, ap (λ x. x form env) (sym (some_same fit g e)) ∙ h)
more-read form env fit fits v vs h k (suc p) g e = k p g e

all-read : (form : Form) (env : Environment) (before vs : List Value) (fits : List Fit) → all_by_form before (map (λ fit. λ f. fit f env) fits) form ≡ Ok vs →
    (rest : List Value) × (vs ≡ before ++ rest) × ((p : ℕ) (g : Fit) → slice_get fits p ≡ Some g → ReadAt form env rest p g)
all-read form env before vs [] h = ([], sym (same_ok before vs h) ∙ sym (append-nil before), (λ p g e. absurd (cc)))
all-read form env before vs (fit ∷ fits) h =
    let w = went_first (fit form env) (λ v. all_by_form (before ++ v ∷ []) (map (λ x. λ f. x f env) fits) form) vs h in
    let r = all-read form env (before ++ w.0 ∷ []) vs fits w.2 in
    (w.0 ∷ r.0, r.1 ∙ append_assoc before (w.0 ∷ []) r.0, more-read form env fit fits w.0 r.0 w.1 r.2)

listed_here : {A : Type 0} (b c : Bool) (x y z : A) → b ≡ false → c ≡ true → cond b x (cond c y z) ≡ y
listed_here b c x y z p q = ap (λ t. cond t x (cond c y z)) p ∙ ap (λ t. cond t y z) q

by-listed : (known : Known) (env : Environment) (form : Form) (ts : List DimTree) (axes : List Axis) (t : Term) → list_any has_name ts ≡ false → (written known t).has_cells ≡ true →
    written_cells known env form ts axes t ≡ listed_cells (written known t) form axes env
unfolding written_cells
by-listed known env form ts axes t n c =
    listed_here (list_any has_name ts) (written known t).has_cells (each_cell (written known t).fit form ts axes env []) (listed_cells (written known t) form axes env) (taken_cells known (written known t) form axes env) n c

value-is : (known : Known) (env : Environment) (form : Form) (u : Term) (v : Value) → (written known u).fit form env ≡ Ok v → written_value known env form u ≡ Ok v
unfolding written_value
value-is known env form u v h = h

-- an expression for which something stands over an index set is an array that is written out
layer-has_cells : (env : Environment) (axis : Axis) (x : Term-F GroupTerm SetTerm Step Term) (v : Value) (part : Term) → written_part_layer env axis x v part → has_cells_layer x ≡ true
layer-has_cells env axis (Term-F.Array at ts) v part h = refl
layer-has_cells env axis (Term-F.KeyedArray at ks us) v part h = refl
layer-has_cells env axis x v part h = absurd h

says-has_cells : (env : Environment) (axis : Axis) (axes : List Axis) (t : Term) (key : List Value) (cell : Term) → SaysWritten env (axis ∷ axes) t key cell → has_cells t ≡ true
unfolding has_cells
says-has_cells env axis axes t [] cell h = absurd h
says-has_cells env axis axes t (v ∷ key) cell h = layer-has_cells env axis (out-Term t) v h.0 h.1

key-has_cells : (x : Term-F GroupTerm SetTerm Step Term) (k : Term) → key_layer x k → has_cells_layer x ≡ true
key-has_cells (Term-F.KeyedArray at ks us) k h = refl
key-has_cells x k h = absurd h

inner-has_cells : (x : Term-F GroupTerm SetTerm Step Term) (part : Term) → inner_layer x part → has_cells_layer x ≡ true
inner-has_cells (Term-F.Array at ts) part h = refl
inner-has_cells (Term-F.KeyedArray at ks us) part h = refl
inner-has_cells x part h = absurd h

in-has_cells : (axis : Axis) (k : Term) (axes : List Axis) (t : Term) → IsKeyIn axis k axes t → has_cells t ≡ true
unfolding has_cells
in-has_cells axis k [] t h = absurd h
in-has_cells axis k (outer ∷ axes) t (inl h) = key-has_cells (out-Term t) k h.1
in-has_cells axis k (outer ∷ axes) t (inr h) = inner-has_cells (out-Term t) h.0 h.1

-- ---- the laws

listed-opens : (known : Known) (env : Environment) (form : Form) (ts : List DimTree) (axes : List Axis) (t : Term) (cells : List Value) → list_any has_name ts ≡ false → has_cells t ≡ true → written_cells known env form ts axes t ≡ Ok cells →
    (fits : List Fit) × ((written known t).cells (faults.Shape 0 (written known t).at) axes env ≡ Ok fits) × (all_by_form [] (map (λ fit. λ f. fit f env) fits) form ≡ Ok cells)
listed-opens known env form ts axes t cells n c h =
    let e = by-listed known env form ts axes t n (written-has_cells known t ∙ c) in
    went_first ((written known t).cells (faults.Shape 0 (written known t).at) axes env) (λ fits. all_by_form [] (map (λ fit. λ f. fit f env) fits) form) cells (sym e ∙ h)

pub written_cells_stand_by_their_keys : WrittenCellsStandByTheirKeys
written_cells_stand_by_their_keys known env form ts axis axes t cells key cell n h says =
    let g = listed-opens known env form ts (axis ∷ axes) t cells n (says-has_cells env axis axes t key cell says) h in
    let l = (cells-hold known (faults.Shape 0 (written known t).at) env (axis ∷ axes) t g.0 g.1).stands key cell says in
    let a = all-read form env [] cells g.0 g.2 in
    let v = a.2 l.0 (written known cell).fit l.2 in
    (l.0, v.0, l.1, ap (λ vs. slice_get vs l.0) a.1 ∙ v.1, value-is known env form cell v.0 v.2)

pub written_keys_are_elements : WrittenKeysAreElements
written_keys_are_elements known env form ts axes t cells axis key n h is =
    let g = listed-opens known env form ts axes t cells n (in-has_cells axis key axes t is) h in
    (cells-hold known (faults.Shape 0 (written known t).at) env axes t g.0 g.1).keys axis key is
