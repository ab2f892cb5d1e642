-- How many cells an array that is written in the model has.
use Rattle.std.proofs.Common.{◌≡◌, ℕ, suc, zero, ◌+◌, ◌*◌, Bool, true, false, cond, List, [], ◌∷◌, ◌++◌, length, map, set, Option, None, Some, Ok, Err, refl, sym, ap, subst, ◌∙◌, arith, length-append}
use Rattle.std.specs.Prelude.{nat_eq}
use Rattle.std.specs.List.{flat_map, list_all, list_any}
use Rattle.std.proofs.Math.Nat.{add-mul, mul_assoc}
use Rattle.std.proofs.lemmas.List.{length-map, length-set}
use Rattle.opl_tree.specs.declared.declaration.DimTree.{DimTree}
use Rattle.opl_term.specs.declared.term.GroupTerm.{GroupTerm}
use Rattle.opl_term.specs.declared.term.GroupTerm.TheOpen.{Term-F}
use Rattle.opl_term.specs.declared.term.GroupTerm.TheFolds.{fold-GroupTerm, fold-SetTerm, fold-Step, fold-Term, fold-roll-Term, ind-Term, map-Term}
use Rattle.opl_term.specs.declared.term.GroupTerm.TheViews.{roll-Term}
use Rattle.opl_term.specs.declared.term.SetTerm.{SetTerm}
use Rattle.opl_term.specs.declared.term.Step.{Step}
use Rattle.opl_term.specs.declared.term.Term.{Term}
use Rattle.opl_value.specs.declared.value.Value.{Value}
use Rattle.opl_value.specs.declared.value.Dimension.{Dimension}
use Rattle.opl_value.specs.declared.value.IndexSpace.{IndexSpace}
use Rattle.opl_value.specs.declared.value.Dimension.TheOpen.{Value-F}
use Rattle.opl_value.specs.declared.value.Dimension.TheViews.{out-Value}
use Rattle.opl_value.specs.Places.{elements, lists, place_in, value_at}
use Rattle.opl_eval.specs.Evaluation.{Environment, Group, Meaning}
use Rattle.opl_given.specs.declared.fault.BindFault.{BindFault}
use Rattle.opl_given.specs.declared.form.Form.{Form}
use Rattle.opl_given.specs.Arrays.{Axis, is_free, values_of}
use Rattle.opl_bind.specs.Dimensions.{evaluated}
use Rattle.opl_given.specs.Faults.{Bound}
use Rattle.opl_given.specs.Forms.{Known}
use Rattle.opl_given.specs.Inside.{is_inside}
use Rattle.opl_given.specs.Values.{all_by_form}
use Rattle.opl_bind.specs.Written.{Fit, Run, Written, cells_by_form, cells_layer, each_cell, free_slots, further, gathered, group_means, has_name, laid, listed_cells, matched, opened, over, placed, places_among, set_means, slot_at, step_means, taken_cells, taken_layer, tested, with_name, with_slot, written, written_cells, written_layer}
use Rattle.opl_given.proofs.CellLaws.{length-all_by_form, passed, same_number, same_ok, went, went_first}

-- ---- the cells of `[..]` and `#[..]#`

abbrev Cells : Type 0
Cells = BindFault → List Axis → Environment → Bound (List Fit)

-- as many cells as the index sets have keys
record HaveLength (cells : Cells) : Type 0 where
  each : (wrong : BindFault) (axes : List Axis) (env : Environment) (fits : List Fit) → cells wrong axes env ≡ Ok fits → length fits ≡ elements (map values_of axes)

abbrev AllHave : List Written → Type 0
AllHave [] = Unit {0}
AllHave (t ∷ ts) = HaveLength t.cells × AllHave ts

length-opened : (wrong : BindFault) (axes : List Axis) (env : Environment) (before : List Fit) (ts : List Written) (fits : List Fit) → AllHave ts →
    opened wrong axes env before ts ≡ Ok fits → length fits ≡ length before + length ts * elements (map values_of axes)
length-opened wrong axes env before [] fits have h = ap length (sym (same_ok before fits h)) ∙ omega arith
length-opened wrong axes env before (t ∷ ts) fits have h =
    let w = went_first (t.cells wrong axes env) (λ more. opened wrong axes env (before ++ more) ts) fits h in
    let a = length-opened wrong axes env (before ++ w.0) ts fits have.1 w.2 in
    let b = length-append before w.0 in
    let d = have.0.each wrong axes env w.0 w.1 in
    let e = add-mul 1 (length ts) (elements (map values_of axes)) in
    omega (arith, a, b, d, e)

-- all that is laid at places has so many cells
abbrev SlotsHave : ℕ → List (Option (List Fit)) → Type 0
SlotsHave n [] = Unit {0}
SlotsHave n (None ∷ ss) = SlotsHave n ss
SlotsHave n (Some fits ∷ ss) = (length fits ≡ n) × SlotsHave n ss

slots_set : (n : ℕ) (ss : List (Option (List Fit))) (p : ℕ) (fits : List Fit) → length fits ≡ n → SlotsHave n ss → SlotsHave n (set ss p (Some fits))
slots_set n [] p fits e h = tt
slots_set n (None ∷ ss) zero fits e h = (e, h)
slots_set n (Some g ∷ ss) zero fits e h = (e, h.1)
slots_set n (None ∷ ss) (suc p) fits e h = slots_set n ss p fits e h
slots_set n (Some g ∷ ss) (suc p) fits e h = (h.0, slots_set n ss p fits e h.1)

slots_with : (n : ℕ) (ss : List (Option (List Fit))) (p : Option ℕ) (fits : List Fit) → length fits ≡ n → SlotsHave n ss → SlotsHave n (with_slot ss p fits)
slots_with n ss (Some p) fits e h = slots_set n ss p fits e h
slots_with n ss None fits e h = h

length-with : (ss : List (Option (List Fit))) (p : Option ℕ) (fits : List Fit) → length (with_slot ss p fits) ≡ length ss
length-with ss (Some p) fits = length-set ss p (Some fits)
length-with ss None fits = refl

slots-laid : (wrong : BindFault) (axis : Axis) (axes : List Axis) (env : Environment) (ss : List (Option (List Fit))) (ks cs : List Written) (more : List (Option (List Fit))) → AllHave cs →
    SlotsHave (elements (map values_of axes)) ss → laid wrong axis axes env ss ks cs ≡ Ok more → SlotsHave (elements (map values_of axes)) more × (length more ≡ length ss)
slots-laid wrong axis axes env ss [] cs more have h e = let s = same_ok ss more e in (subst (SlotsHave (elements (map values_of axes))) s h, ap length (sym s))
slots-laid wrong axis axes env ss (k ∷ ks) [] more have h e = let s = same_ok ss more e in (subst (SlotsHave (elements (map values_of axes))) s h, ap length (sym s))
slots-laid wrong axis axes env ss (k ∷ ks) (c ∷ cs) more have h e =
    let w = went_first (evaluated (k.meaning.value env)) _ more e in
    let place = place_in w.0 (values_of axis) in
    let p = passed (is_free (slot_at ss place)) _ wrong more w.2 in
    let q = went_first (c.cells wrong axes env) (λ fits. laid wrong axis axes env (with_slot ss place fits) ks cs) more p.1 in
    let r = slots-laid wrong axis axes env (with_slot ss place q.0) ks cs more have.1 (slots_with (elements (map values_of axes)) ss place q.0 (have.0.each wrong axes env q.0 q.1) h) q.2 in
    (r.0, r.1 ∙ length-with ss place q.0)

slots-free : (n : ℕ) (ks : List Written) → SlotsHave n (free_slots ks)
slots-free n [] = tt
slots-free n (k ∷ ks) = slots-free n ks

length-free_slots : (ks : List Written) → length (free_slots ks) ≡ length ks
length-free_slots [] = refl
length-free_slots (k ∷ ks) = ap suc (length-free_slots ks)

length-gathered : (n : ℕ) (wrong : BindFault) (before : List Fit) (ss : List (Option (List Fit))) (fits : List Fit) → SlotsHave n ss → gathered wrong before ss ≡ Ok fits → length fits ≡ length before + length ss * n
length-gathered n wrong before [] fits h e = ap length (sym (same_ok before fits e)) ∙ omega arith
length-gathered n wrong before (Some cells ∷ ss) fits h e =
    let a = length-gathered n wrong (before ++ cells) ss fits h.1 e in
    let b = length-append before cells in
    let d = h.0 in
    let m = add-mul 1 (length ss) n in
    omega (arith, a, b, d, m)
length-gathered n wrong before (None ∷ ss) fits h e = absurd (cc)

one : (fit : Fit) (fits : List Fit) → (let x : Bound (List Fit) = Ok (fit ∷ []) in x) ≡ Ok fits → length fits ≡ 1
one fit fits h = ap length (sym (same_ok (fit ∷ []) fits h)) ∙ omega arith

length-array : (fit : Fit) (p : ℕ) (ts : List Written) → AllHave ts → (wrong : BindFault) (axes : List Axis) (env : Environment) (fits : List Fit) →
    cells_layer {A = Group} {B = Meaning} {C = Run} fit (Term-F.Array p ts) wrong axes env ≡ Ok fits → length fits ≡ elements (map values_of axes)
length-array fit p ts have wrong [] env fits h = one fit fits h
length-array fit p ts have wrong (axis ∷ axes) env fits h =
    let w = passed (nat_eq (length ts) (length (values_of axis))) (opened wrong axes env [] ts) wrong fits h in
    let a = length-opened wrong axes env [] ts fits have w.1 in
    (a ∙ omega arith) ∙ ap (λ k. k * elements (map values_of axes)) (same_number (length ts) (length (values_of axis)) w.0)

length-keyed_array : (fit : Fit) (p : ℕ) (ks cs : List Written) → AllHave cs → (wrong : BindFault) (axes : List Axis) (env : Environment) (fits : List Fit) →
    cells_layer {A = Group} {B = Meaning} {C = Run} fit (Term-F.KeyedArray p ks cs) wrong axes env ≡ Ok fits → length fits ≡ elements (map values_of axes)
length-keyed_array fit p ks cs have wrong [] env fits h = one fit fits h
length-keyed_array fit p ks cs have wrong (axis ∷ axes) env fits h =
    let n = elements (map values_of axes) in
    let w = passed (nat_eq (length ks) (length (values_of axis))) _ wrong fits h in
    let s = went_first (laid wrong axis axes env (free_slots ks) ks cs) (gathered wrong []) fits w.1 in
    let l = slots-laid wrong axis axes env (free_slots ks) ks cs s.0 have (slots-free n ks) s.1 in
    let g = length-gathered n wrong [] s.0 fits l.0 s.2 in
    let many : length s.0 ≡ length (values_of axis) = l.1 ∙ length-free_slots ks ∙ same_number (length ks) (length (values_of axis)) w.0 in
    (g ∙ omega arith) ∙ ap (λ k. k * n) many

-- all else is one cell, for an array without dimensions
plain : (cells : Cells) (fit : Fit) → ((wrong : BindFault) (env : Environment) → cells wrong [] env ≡ Ok (fit ∷ [])) → ((wrong : BindFault) (axis : Axis) (axes : List Axis) (env : Environment) → cells wrong (axis ∷ axes) env ≡ Err wrong) → HaveLength cells
plain cells fit none some = record { each = by }
  where
    by : (wrong : BindFault) (axes : List Axis) (env : Environment) (fits : List Fit) → cells wrong axes env ≡ Ok fits → length fits ≡ elements (map values_of axes)
    by wrong [] env fits h = one fit fits (sym (none wrong env) ∙ h)
    by wrong (axis ∷ axes) env fits h = let e = some wrong axis axes env in absurd (cc)

-- the cells of the parts of `[..]` and `#[..]#`
abbrev Inner : {A B C : Type 0} → Term-F A B C Written → Type 0
Inner (Term-F.Array p ts) = AllHave ts
Inner (Term-F.KeyedArray p ks cs) = AllHave cs
Inner t = Unit {0}

cells-have : (fit : Fit) (t : Term-F Group Meaning Run Written) → Inner t → HaveLength (cells_layer fit t)
cells-have fit (Term-F.Number at n) h = plain _ fit (λ wrong env. refl) (λ wrong axis axes env. refl)
cells-have fit (Term-F.Named at name) h = plain _ fit (λ wrong env. refl) (λ wrong axis axes env. refl)
cells-have fit (Term-F.Bracket at t) h = plain _ fit (λ wrong env. refl) (λ wrong axis axes env. refl)
cells-have fit (Term-F.Negative at t) h = plain _ fit (λ wrong env. refl) (λ wrong axis axes env. refl)
cells-have fit (Term-F.Chain at t ss) h = plain _ fit (λ wrong env. refl) (λ wrong axis axes env. refl)
cells-have fit (Term-F.Related at t r u) h = plain _ fit (λ wrong env. refl) (λ wrong axis axes env. refl)
cells-have fit (Term-F.Member at t s) h = plain _ fit (λ wrong env. refl) (λ wrong axis axes env. refl)
cells-have fit (Term-F.Equivalent at ts) h = plain _ fit (λ wrong env. refl) (λ wrong axis axes env. refl)
cells-have fit (Term-F.Implied at t u) h = plain _ fit (λ wrong env. refl) (λ wrong axis axes env. refl)
cells-have fit (Term-F.Or at ts) h = plain _ fit (λ wrong env. refl) (λ wrong axis axes env. refl)
cells-have fit (Term-F.And at ts) h = plain _ fit (λ wrong env. refl) (λ wrong axis axes env. refl)
cells-have fit (Term-F.Not at t) h = plain _ fit (λ wrong env. refl) (λ wrong axis axes env. refl)
cells-have fit (Term-F.Aggregate at op gs c t) h = plain _ fit (λ wrong env. refl) (λ wrong axis axes env. refl)
cells-have fit (Term-F.Call at op t) h = plain _ fit (λ wrong env. refl) (λ wrong axis axes env. refl)
cells-have fit (Term-F.AllDifferent at t) h = plain _ fit (λ wrong env. refl) (λ wrong axis axes env. refl)
cells-have fit (Term-F.Question at op t) h = plain _ fit (λ wrong env. refl) (λ wrong axis axes env. refl)
cells-have fit (Term-F.Element at t ts) h = plain _ fit (λ wrong env. refl) (λ wrong axis axes env. refl)
cells-have fit (Term-F.Fields at t fs) h = plain _ fit (λ wrong env. refl) (λ wrong axis axes env. refl)
cells-have fit (Term-F.Record at ts) h = plain _ fit (λ wrong env. refl) (λ wrong axis axes env. refl)
cells-have fit (Term-F.Listed at ts) h = plain _ fit (λ wrong env. refl) (λ wrong axis axes env. refl)
cells-have fit (Term-F.Described at t gs c) h = plain _ fit (λ wrong env. refl) (λ wrong axis axes env. refl)
cells-have fit (Term-F.Array at ts) h = record { each = length-array fit at ts h }
cells-have fit (Term-F.KeyedArray at ks cs) h = record { each = length-keyed_array fit at ks cs h }

-- ---- every expression

abbrev as_term : Known → Term → Written
as_term known = fold-Term Group Meaning Run Written group_means set_means step_means (written_layer known)

abbrev in_term : Known → Term-F GroupTerm SetTerm Step Term → Term-F Group Meaning Run Written
in_term known x = map-Term GroupTerm SetTerm Step Term Group Meaning Run Written
    (fold-GroupTerm Group Meaning Run Written group_means set_means step_means (written_layer known))
    (fold-SetTerm Group Meaning Run Written group_means set_means step_means (written_layer known))
    (fold-Step Group Meaning Run Written group_means set_means step_means (written_layer known))
    (as_term known) x

abbrev Has : Known → Term → Type 0
Has known t = HaveLength (as_term known t).cells

abbrev Any : {X : Type 0} → X → Type 0
Any x = Unit {0}

abbrev InTerm : Known → Type 0
InTerm known = (t : Term) × Has known t

abbrev In : Type 0 → Type 0
In X = (x : X) × Any x

abbrev term_inner : (known : Known) → Term-F (In GroupTerm) (In SetTerm) (In Step) (InTerm known) → Term-F GroupTerm SetTerm Step Term
term_inner known y = map-Term (In GroupTerm) (In SetTerm) (In Step) (InTerm known) GroupTerm SetTerm Step Term (λ e. e.0) (λ e. e.0) (λ e. e.0) (λ e. e.0) y

all-have : (known : Known) (ts : List (InTerm known)) → AllHave (map (as_term known) (map (λ e. e.0) ts))
all-have known [] = tt
all-have known (t ∷ ts) = (t.1, all-have known ts)

inner-have : (known : Known) (y : Term-F (In GroupTerm) (In SetTerm) (In Step) (InTerm known)) → Inner (in_term known (term_inner known y))
inner-have known (Term-F.Number at n) = tt
inner-have known (Term-F.Named at name) = tt
inner-have known (Term-F.Bracket at t) = tt
inner-have known (Term-F.Negative at t) = tt
inner-have known (Term-F.Chain at t ss) = tt
inner-have known (Term-F.Related at t r u) = tt
inner-have known (Term-F.Member at t s) = tt
inner-have known (Term-F.Equivalent at ts) = tt
inner-have known (Term-F.Implied at t u) = tt
inner-have known (Term-F.Or at ts) = tt
inner-have known (Term-F.And at ts) = tt
inner-have known (Term-F.Not at t) = tt
inner-have known (Term-F.Aggregate at op gs c t) = tt
inner-have known (Term-F.Call at op t) = tt
inner-have known (Term-F.AllDifferent at t) = tt
inner-have known (Term-F.Question at op t) = tt
inner-have known (Term-F.Element at t ts) = tt
inner-have known (Term-F.Fields at t fs) = tt
inner-have known (Term-F.Record at ts) = tt
inner-have known (Term-F.Listed at ts) = tt
inner-have known (Term-F.Described at t gs c) = tt
inner-have known (Term-F.Array at ts) = all-have known ts
inner-have known (Term-F.KeyedArray at ks cs) = all-have known cs

term_case : (known : Known) (y : Term-F (In GroupTerm) (In SetTerm) (In Step) (InTerm known)) → Has known (roll-Term (term_inner known y))
term_case known y =
    subst (λ w. HaveLength w.cells) (sym (fold-roll-Term Group Meaning Run Written group_means set_means step_means (written_layer known) (term_inner known y)))
    (cells-have _ (in_term known (term_inner known y)) (inner-have known y))

each_has : (known : Known) (t : Term) → Has known t
each_has known = ind-Term Any Any Any (Has known) (λ x y is. tt) (λ x y is. tt) (λ x y is. tt) (λ x y is. subst (λ z. Has known (roll-Term z)) is (term_case known y))

written-has : (known : Known) (t : Term) → HaveLength (written known t).cells
unfolding written
written-has known t = each_has known t

-- ---- the cells of an array

length-over : (next : Value → List Value → Bound (List Value)) (n : ℕ) (before : List Value) (vs more : List Value) →
    ((v : Value) (b m : List Value) → next v b ≡ Ok m → length m ≡ length b + n) → over next before vs ≡ Ok more → length more ≡ length before + length vs * n
length-over next n before [] more f h = ap length (sym (same_ok before more h)) ∙ omega arith
length-over next n before (v ∷ vs) more f h =
    let w = went_first (next v before) (λ m. over next m vs) more h in
    let a = length-over next n w.0 vs more f w.2 in
    let b = f v before w.0 w.1 in
    let e = add-mul 1 (length vs) n in
    omega (arith, a, b, e)

length-each_cell : (fit : Fit) (form : Form) (ts : List DimTree) (axes : List Axis) (env : Environment) (before more : List Value) → length ts ≡ length axes →
    each_cell fit form ts axes env before ≡ Ok more → length more ≡ length before + elements (map values_of axes)
length-each_cell fit form [] [] env before more l h =
    let w = went (fit form env) (λ v. Ok (before ++ v ∷ [])) more h in
    ap length (sym (same_ok (before ++ w.0 ∷ []) more w.1)) ∙ length-append before (w.0 ∷ [])
length-each_cell fit form [] (axis ∷ axes) env before more l h = absurd (omega arith)
length-each_cell fit form (t ∷ ts) [] env before more l h = absurd (omega arith)
length-each_cell fit form (t ∷ ts) (axis ∷ axes) env before more l h =
    length-over (λ v m. each_cell fit form ts axes (with_name t.name v env) m) (elements (map values_of axes)) before (values_of axis) more
    (λ v b m e. length-each_cell fit form ts axes (with_name t.name v env) b m (omega arith) e) h

length-listed_cells : (w : Written) (form : Form) (axes : List Axis) (env : Environment) (cells : List Value) → HaveLength w.cells → listed_cells w form axes env ≡ Ok cells → length cells ≡ elements (map values_of axes)
length-listed_cells w form axes env cells have h =
    let g = went_first (w.cells _ axes env) (λ fits. all_by_form [] (map (λ fit. λ f. fit f env) fits) form) cells h in
    let a = length-all_by_form [] cells (map (λ fit. λ f. fit f env) g.0) form g.2 in
    let run : Fit → Form → Bound Value = λ fit. λ f. fit f env in
    let b = length-map g.0 run in
    let d = have.each _ axes env g.0 g.1 in
    omega (arith, a, b, d)

length-matched : (wrong : BindFault) (others : List Value) (before : List ℕ) (vs : List Value) (ps : List ℕ) → matched wrong others before vs ≡ Ok ps → length ps ≡ length before + length vs
length-matched wrong others before [] ps h = ap length (sym (same_ok before ps h)) ∙ omega arith
length-matched wrong others before (v ∷ vs) ps h =
    let w = went (placed wrong (place_in v others)) (λ p. matched wrong others (before ++ p ∷ []) vs) ps h in
    length-matched wrong others (before ++ w.0 ∷ []) vs ps w.1 ∙ omega (arith, length-append before (w.0 ∷ []))

length-spread : (f : ℕ → ℕ → ℕ) (ps before : List ℕ) → length (flat_map (λ n. map (f n) ps) before) ≡ length before * length ps
length-spread f ps [] = omega arith
length-spread f ps (n ∷ ns) =
    let a = length-append (map (f n) ps) (flat_map (λ m. map (f m) ps) ns) in
    let b = length-map ps (f n) in
    let d = length-spread f ps ns in
    let e = add-mul 1 (length ns) (length ps) in
    omega (arith, a, b, d, e)

length-further : (wrong : BindFault) (before : List ℕ) (d o : List Value) (more : List ℕ) → further wrong before d o ≡ Ok more → length more ≡ length before * length d
length-further wrong before d o more h =
    let p = passed (nat_eq (length d) (length o)) _ wrong more h in
    let w = went_first (matched wrong o [] d) (λ qs. Ok (flat_map (λ n. map (λ q. n * length o + q) qs) before)) more p.1 in
    let b = length-spread (λ n q. n * length o + q) w.0 before in
    let m : length w.0 ≡ length d = length-matched wrong o [] d w.0 w.1 ∙ omega arith in
    ap length (sym (same_ok (flat_map (λ n. map (λ q. n * length o + q) w.0) before) more w.2)) ∙ b ∙ ap (λ k. length before * k) m

length-places_among : (wrong : BindFault) (before : List ℕ) (ds os : List (List Value)) (ps : List ℕ) → places_among wrong before ds os ≡ Ok ps → length ps ≡ length before * elements ds
length-places_among wrong before [] [] ps h = ap length (sym (same_ok before ps h)) ∙ omega arith
length-places_among wrong before [] (o ∷ os) ps h = absurd (cc)
length-places_among wrong before (d ∷ ds) [] ps h = absurd (cc)
length-places_among wrong before (d ∷ ds) (o ∷ os) ps h =
    let w = went_first (further wrong before d o) (λ more. places_among wrong more ds os) ps h in
    length-places_among wrong w.0 ds os ps w.2 ∙ ap (λ k. k * elements ds) (length-further wrong before d o w.0 w.1) ∙ mul_assoc (length before) (length d) (elements ds)

length-taken : (known : Known) (at : ℕ) (form : Form) (axes : List Axis) (x : Value-F Dimension Value IndexSpace) (cells : List Value) → taken_layer known at form axes x ≡ Ok cells → length cells ≡ elements (map values_of axes)
length-taken known at form axes (Value-F.Int n) cells h = absurd (cc)
length-taken known at form axes (Value-F.Bool b) cells h = absurd (cc)
length-taken known at form axes (Value-F.Enum k p) cells h = absurd (cc)
length-taken known at form axes (Value-F.Record vs) cells h = absurd (cc)
length-taken known at form axes (Value-F.Set vs) cells h = absurd (cc)
length-taken known at form axes (Value-F.Range l u) cells h = absurd (cc)
length-taken known at form axes (Value-F.Names ns) cells h = absurd (cc)
length-taken known at form axes (Value-F.Array space vs) cells h =
    let w = went_first (places_among _ (0 ∷ []) (map values_of axes) (lists space)) (λ places. tested known at form (map (value_at vs) places)) cells h in
    let t = passed (list_all (λ v. is_inside known v form) (map (value_at vs) w.0)) (Ok (map (value_at vs) w.0)) _ cells w.2 in
    let a = length-places_among _ (0 ∷ []) (map values_of axes) (lists space) w.0 w.1 in
    ap length (sym (same_ok (map (value_at vs) w.0) cells t.1)) ∙ length-map w.0 (value_at vs) ∙ a ∙ omega arith

-- one of two
pub either : {A P : Type 0} (b : Bool) (x y : Bound A) (a : A) → (x ≡ Ok a → P) → (y ≡ Ok a → P) → cond b x y ≡ Ok a → P
either true x y a f g h = f h
either false x y a f g h = g h

length-by_form : (known : Known) (w : Written) (form : Form) (ts : List DimTree) (axes : List Axis) (env : Environment) (cells : List Value) → HaveLength w.cells → length ts ≡ length axes →
    cells_by_form known w form ts axes env ≡ Ok cells → length cells ≡ elements (map values_of axes)
length-by_form known w form ts axes env cells have l h =
    either (list_any has_name ts) (each_cell w.fit form ts axes env []) _ cells (λ e. length-each_cell w.fit form ts axes env [] cells l e ∙ omega arith)
    (either w.has_cells (listed_cells w form axes env) (taken_cells known w form axes env) cells (length-listed_cells w form axes env cells have)
    (λ e. let g = went (evaluated (w.meaning.value env)) (λ v. taken_layer known w.at form axes (out-Value v)) cells e in length-taken known w.at form axes (out-Value g.0) cells g.1))
    h

pub length-written_cells : (known : Known) (env : Environment) (form : Form) (ts : List DimTree) (axes : List Axis) (t : Term) (cells : List Value) → length ts ≡ length axes →
    written_cells known env form ts axes t ≡ Ok cells → length cells ≡ elements (map values_of axes)
unfolding written_cells
length-written_cells known env form ts axes t cells l h = length-by_form known (written known t) form ts axes env cells (written-has known t) l h
