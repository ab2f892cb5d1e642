-- The solutions of a model are the assignments on which its constraints hold.
use Rattle.std.proofs.Common.{◌≡◌, ℕ, zero, suc, ◌+◌, ℤ, pos, ◌+ℤ◌, ◌-ℤ◌, ◌≤ℤ◌, Bool, true, false, cond, ◌&&◌, unsigned_abs, List, [], ◌∷◌, map, refl, ◌∙◌, arith}
use Rattle.std.specs.Prelude.{filter, int_lt}
use Rattle.std.specs.List.{All, flat_map, list_all}
use Rattle.std.proofs.lemmas.Int.{ints}
use Rattle.std.proofs.lemmas.List.Elements.{All-append, All-cons, All-head, All-map, All-nil, All-tail, All-weaker}
use Rattle.opl_domain.specs.Span.{IsWithin, values}
use Rattle.opl_domain.specs.Family.{member}
use Rattle.opl_domain.proofs.Members.{in_values}
use Rattle.opl_meaning.specs.declared.variable.DeclaredSet.{DeclaredSet}
use Rattle.opl_meaning.specs.Solutions.{declared_sets, numbers_of, product, size_between, whole_numbers}
use Rattle.opl_draft.specs.Instances.{condition_of}
use Rattle.opl_draft.specs.Laws.{SolutionsUnrolled, arrays, is_met}
use Rattle.opl_expr.specs.Solutions.{is_among}
use Rattle.opl_form.specs.Laws.{IsAssignment, SolutionsMean, declared_ends, families, is_held}
use Rattle.opl_form.proofs.FormLaws.{forms_mean}

-- ---- the numbers of a declared set

-- a number is among so many from the first on
record IsAmong (low : ℤ) (n : ℕ) (v : ℤ) : Type 0 where
  least : low ≤ℤ v
  most : (v +ℤ pos 1) ≤ℤ (low +ℤ pos n)

one-later : (low : ℤ) (n : ℕ) (v : ℤ) → IsAmong (low +ℤ pos 1) n v → IsAmong low (suc n) v
one-later low n v w = record { least = omega (arith, ints, w.least); most = omega (arith, ints, w.most) }

numbers-among : (low : ℤ) (n : ℕ) → All (IsAmong low n) (whole_numbers low n)
unfolding whole_numbers
numbers-among low zero = All-nil (IsAmong low zero)
numbers-among low (suc n) =
    All-cons (IsAmong low (suc n)) low (whole_numbers (low +ℤ pos 1) n) (record { least = omega (arith, ints); most = omega (arith, ints) })
    (All-weaker (IsAmong (low +ℤ pos 1) n) (IsAmong low (suc n)) (λ v w. one-later low n v w) (whole_numbers (low +ℤ pos 1) n) (numbers-among (low +ℤ pos 1) n))

among-set : (low high v : ℤ) → IsAmong low (size_between low high) v → IsWithin v (record { low = low; high = high })
among-set low high v w = by (int_lt high low) refl w
  where
    size : (b : Bool) → int_lt high low ≡ b → (v +ℤ pos 1) ≤ℤ (low +ℤ pos (cond b 0 (unsigned_abs (high -ℤ low) + 1))) → low ≤ℤ v → v ≤ℤ high
    size true h k l = absurd (omega (arith, ints, k, l))
    size false h k l = grind (arith, ints)

    by : (b : Bool) → int_lt high low ≡ b → IsAmong low (cond b 0 (unsigned_abs (high -ℤ low) + 1)) v → IsWithin v (record { low = low; high = high })
    by b h w = record { least = w.least; most = size b h w.most w.least }

abbrev ends : DeclaredSet → ℤ × ℤ
ends set = (set.low, set.high)

numbers-members : (set : DeclaredSet) → All (λ v. member v (values (record { low = set.low; high = set.high })) ≡ true) (numbers_of set)
numbers-members set =
    All-weaker (IsAmong set.low (size_between set.low set.high)) (λ v. member v (values (record { low = set.low; high = set.high })) ≡ true)
    (λ v w. in_values (record { low = set.low; high = set.high }) v (among-set set.low set.high v w)) (numbers_of set) (numbers-among set.low (size_between set.low set.high))

-- ---- all assignments

both : (b c : Bool) → b ≡ true → c ≡ true → (b && c) ≡ true
both b c h k = cc

one-more : (set : DeclaredSet) (sets : List DeclaredSet) (v : ℤ) (found : List (List ℤ)) → member v (values (record { low = set.low; high = set.high })) ≡ true → All (IsAssignment (map ends sets)) found →
    All (IsAssignment (map ends (set ∷ sets))) (map (λ ns. v ∷ ns) found)
one-more set sets v found m h =
    All-map (IsAssignment (map ends (set ∷ sets))) (λ ns. v ∷ ns) found
    (All-weaker (IsAssignment (map ends sets)) (λ ns. IsAssignment (map ends (set ∷ sets)) (v ∷ ns))
    (λ ns e. both (member v (values (record { low = set.low; high = set.high }))) (is_among ns (families (map ends sets))) m e) found h)

each-more : (set : DeclaredSet) (sets : List DeclaredSet) (vs : List ℤ) (found : List (List ℤ)) → All (λ v. member v (values (record { low = set.low; high = set.high })) ≡ true) vs → All (IsAssignment (map ends sets)) found →
    All (IsAssignment (map ends (set ∷ sets))) (flat_map (λ v. map (λ ns. v ∷ ns) found) vs)
each-more set sets [] found m h = All-nil (IsAssignment (map ends (set ∷ sets)))
each-more set sets (v ∷ vs) found m h =
    All-append (IsAssignment (map ends (set ∷ sets))) (map (λ ns. v ∷ ns) found) (flat_map (λ v. map (λ ns. v ∷ ns) found) vs)
    (one-more set sets v found (All-head (λ v. member v (values (record { low = set.low; high = set.high })) ≡ true) v vs m) h)
    (each-more set sets vs found (All-tail (λ v. member v (values (record { low = set.low; high = set.high })) ≡ true) v vs m) h)

product-assigned : (sets : List DeclaredSet) → All (IsAssignment (map ends sets)) (product (map numbers_of sets))
unfolding product
product-assigned [] = All-cons (IsAssignment []) [] [] refl (All-nil (IsAssignment []))
product-assigned (set ∷ sets) = each-more set sets (numbers_of set) (product (map numbers_of sets)) (numbers-members set) (product-assigned sets)

-- filters by tests that agree on all elements
filter-same : {A : Type 0} (p q : A → Bool) (xs : List A) → All (λ x. p x ≡ q x) xs → filter p xs ≡ filter q xs
filter-same p q [] h = refl
filter-same {A = A} p q (x ∷ xs) h = kept (p x) (q x) (filter p xs) (filter q xs) (All-head (λ x. p x ≡ q x) x xs h) (filter-same p q xs (All-tail (λ x. p x ≡ q x) x xs h))
  where
    kept : (b c : Bool) (ys zs : List A) → b ≡ c → ys ≡ zs → cond b (x ∷ ys) ys ≡ cond c (x ∷ zs) zs
    kept b c ys zs e f = cc

pub solutions_mean : SolutionsUnrolled → SolutionsMean
solutions_mean unrolled m names cs declares clean sound e =
    let sets = declared_ends m.variables in
    let cells = arrays m.environment m.variables in
    let conditions = map (condition_of m.variables names m.environment) m.conditions in
    unrolled m names declares clean
    ∙ filter-same (λ ns. list_all (is_met cells ns) conditions) (λ ns. list_all (is_held cells ns) cs) (product (declared_sets m.variables))
    (All-weaker (IsAssignment sets) (λ ns. list_all (is_met cells ns) conditions ≡ list_all (is_held cells ns) cs) (λ ns a. forms_mean sets cells 0 conditions cs sound e ns a)
    (product (declared_sets m.variables)) (product-assigned (flat_map (λ v. v.sets) m.variables)))
