-- What is paid with narrower families.
use Rattle.std.proofs.Common.{◌≡◌, ◌∙◌, ◌⊎◌, ℕ, zero, suc, ◌+◌, ◌≤◌, ◌<◌, Bool, true, false, cond, refl, List, [], ◌∷◌, length, get_or, ℤ, inl, inr, ap, sym, subst, arith}
use Rattle.std.specs.Prelude.{nat_lt, slice_get, Some}
use Rattle.std.proofs.lemmas.Option.{slice_get-get_or}
use Rattle.opl_domain.specs.Family.{Family, has, only, Full, Below}
use Rattle.opl_expr.specs.declared.model.Core.{Core}
use Rattle.opl_trace.specs.Stable.{IsMonotone}
use Rattle.opl_trace.proofs.Families.{only_full, only_below}
use Rattle.opl_filter.specs.Mentions.{lists}
use Rattle.opl_filter.specs.Filtering.{refutes}
use Rattle.opl_filter.proofs.Mentioned.{refutes_looks}
use Rattle.opl_filter.proofs.Refuting.{refutes_falls}
use Rattle.opl_reify.specs.Parts.{IsPart}
use Rattle.opl_count.specs.declared.sum.Literal.{Literal}
use Rattle.opl_count.specs.declared.sum.Costs.{Costs}
use Rattle.opl_count.specs.Costs.{fact_of, price, prices, weights, weights_on, HaveParts, is_over}

-- ---- by places

pub the_one : {A : Type 0} (a b : A) → Some a ≡ Some b → a ≡ b
the_one a b h = cc

pub part_at : (core : Core) (ls : List Literal) (i : ℕ) (l : Literal) → HaveParts core ls → slice_get ls i ≡ Some l → IsPart core l.part
part_at core [] i l a h = cc
part_at core (m ∷ ls) zero l a h = subst (λ (n : Literal). IsPart core n.part) (the_one m l h) a.0
part_at core (m ∷ ls) (suc i) l a h = part_at core ls i l a.1 h

pub within : {A : Type 0} (xs : List A) (i : ℕ) (x : A) → slice_get xs i ≡ Some x → i < length xs
within [] i x h = cc
within (y ∷ xs) zero x h = omega arith
within (y ∷ xs) (suc i) x h = let r = within xs i x h in omega (arith, r)

pub some_there : {A : Type 0} (xs : List A) (i : ℕ) → i < length xs → (x : A) × (slice_get xs i ≡ Some x)
some_there [] i l = absurd (omega arith)
some_there (x ∷ xs) zero l = (x, refl)
some_there (x ∷ xs) (suc i) l = some_there xs i (omega arith)

pub at_place : {A : Type 0} (xs : List A) (i : ℕ) (x : A) → i < length xs → x ≡ get_or xs i x → slice_get xs i ≡ Some x
at_place xs i x l e = slice_get-get_or xs i x l ∙ ap (λ y. Some y) (sym e)

pub there_or : {A : Type 0} (xs : List A) (i : ℕ) (d : A) → i < length xs → slice_get xs i ≡ Some (get_or xs i d)
there_or [] i d l = absurd (omega arith)
there_or (x ∷ xs) zero d l = refl
there_or (x ∷ xs) (suc i) d l = there_or xs i d (omega arith)

-- ---- whether more is paid than there is room for

pub is_less : (n m : ℕ) → n < m → nat_lt n m ≡ true
is_less n m h = grind arith

pub less_is : (n m : ℕ) → nat_lt n m ≡ true → n < m
less_is n m h = grind arith

pub not_less : (n m : ℕ) → m ≤ n → nat_lt n m ≡ false
not_less n m h = grind arith

pub not_less_is : (n m : ℕ) → nat_lt n m ≡ false → m ≤ n
not_less_is n m h = grind arith

-- ---- in narrower families

pub price_most : (b : Bool) (w : ℕ) → cond b w 0 ≤ w
price_most true w = omega arith
price_most false w = omega arith

pub prices_most : (core : Core) (F : Family) (ls : List Literal) → prices core F ls ≤ weights ls
prices_most core F [] = omega arith
prices_most core F (l ∷ ls) = omega (arith, prices_most core F ls, price_most (refutes (fact_of core l) F) l.weight)

price_falls : (b c : Bool) (w : ℕ) → (b ≡ true → c ≡ true) → cond b w 0 ≤ cond c w 0
price_falls true true w h = omega arith
price_falls true false w h = let i = h refl in cc
price_falls false c w h = omega arith

-- a literal's price in a narrower family
one_falls : (core : Core) (F G : Family) (l : Literal) → Full F → Below F G → price core G l ≤ price core F l
one_falls core F G l f b = price_falls (refutes (fact_of core l) G) (refutes (fact_of core l) F) l.weight (λ h. (refutes_falls (fact_of core l)).falls F G f b h)

pub prices_fall : (core : Core) (F G : Family) (ls : List Literal) → Full F → Below F G → prices core G ls ≤ prices core F ls
prices_fall core F G [] f b = omega arith
prices_fall core F G (l ∷ ls) f b = omega (arith, one_falls core F G l f b, prices_fall core F G ls f b)

pub over_falls : (core : Core) (c : Costs) → IsMonotone (is_over core c)
over_falls core c = record {
  falls = λ F G f b h.
      let p = prices_fall core F G c.literals f b in
      let l = less_is c.room (c.paid + prices core G c.literals) h in
      is_less c.room (c.paid + prices core F c.literals) (omega (arith, p, l));
}

-- where one literal more is refuted
pub prices_with : (core : Core) (F G : Family) (ls : List Literal) (i : ℕ) (l : Literal) → Full F → Below F G → slice_get ls i ≡ Some l → refutes (fact_of core l) G ≡ false → refutes (fact_of core l) F ≡ true
    → prices core G ls + l.weight ≤ prices core F ls
prices_with core F G [] i l f b h o r = cc
prices_with core F G (m ∷ ls) zero l f b h o r =
    let e = the_one m l h in
    let p : price core G m ≡ 0 = ap (price core G) e ∙ ap (λ c. cond c l.weight 0) o in
    let q : price core F m ≡ l.weight = ap (price core F) e ∙ ap (λ c. cond c l.weight 0) r in
    omega (arith, p, q, prices_fall core F G ls f b)
prices_with core F G (m ∷ ls) (suc i) l f b h o r = omega (arith, one_falls core F G m f b, prices_with core F G ls i l f b h o r)

pub prices_same : (core : Core) (F G : Family) (ls : List Literal) → ((i : ℕ) (l : Literal) → slice_get ls i ≡ Some l → refutes (fact_of core l) F ≡ refutes (fact_of core l) G) → prices core F ls ≡ prices core G ls
prices_same core F G [] h = refl
prices_same core F G (l ∷ ls) h =
    let p : price core F l ≡ price core G l = ap (λ b. cond b l.weight 0) (h zero l refl) in
    let q = prices_same core F G ls (λ i m e. h (suc i) m e) in
    omega (arith, p, q)

-- ---- where one variable has one value alone

looks : (core : Core) (F : Family) (x : ℕ) (v : ℤ) (l : Literal) → IsPart core l.part → Full F → lists l.part.variables x ≡ false → refutes (fact_of core l) (only F x v) ≡ refutes (fact_of core l) F
looks core F x v l p f n = refutes_looks (fact_of core l) l.part.variables p.named F x v f n

price_on : (core : Core) (F : Family) (x : ℕ) (v : ℤ) (l : Literal) → IsPart core l.part → Full F → price core (only F x v) l ≤ price core F l + cond (lists l.part.variables x) l.weight 0
price_on core F x v l p f =
    elim (lists l.part.variables x) as (λ b. lists l.part.variables x ≡ b → price core (only F x v) l ≤ price core F l + cond b l.weight 0) [
      | true ↦ λ e. omega (arith, price_most (refutes (fact_of core l) (only F x v)) l.weight)
      | false ↦ λ e. let s : price core (only F x v) l ≡ price core F l = ap (λ b. cond b l.weight 0) (looks core F x v l p f e) in omega (arith, s)
    ] refl

pub prices_on : (core : Core) (F : Family) (x : ℕ) (v : ℤ) (ls : List Literal) → HaveParts core ls → Full F → prices core (only F x v) ls ≤ prices core F ls + weights_on x ls
prices_on core F x v [] a f = omega arith
prices_on core F x v (l ∷ ls) a f = omega (arith, price_on core F x v l a.0 f, prices_on core F x v ls a.1 f)

-- an open literal that has the variable
pub record IsOpenOn (core : Core) (F : Family) (ls : List Literal) (x : ℕ) : Type 0 where
  pub place : ℕ
  pub literal : Literal
  pub there : slice_get ls place ≡ Some literal
  pub not_refuted : refutes (fact_of core literal) F ≡ false
  pub named : lists literal.part.variables x ≡ true

later : (core : Core) (F : Family) (l : Literal) (ls : List Literal) (x : ℕ) → IsOpenOn core F ls x → IsOpenOn core F (l ∷ ls) x
later core F l ls x o = record { place = suc o.place; literal = o.literal; there = o.there; not_refuted = o.not_refuted; named = o.named }

-- there is one, or the variable changes nothing
pub open_or_same : (core : Core) (F : Family) (x : ℕ) (v : ℤ) (ls : List Literal) → HaveParts core ls → Full F → has F x v ≡ true → IsOpenOn core F ls x ⊎ (prices core (only F x v) ls ≡ prices core F ls)
open_or_same core F x v [] a f m = inr refl
open_or_same core F x v (l ∷ ls) a f m = elim (here l a.0) [
  | inl o ↦ inl (record { place = zero; literal = l; there = refl; not_refuted = o.0; named = o.1 })
  | inr s ↦ elim (open_or_same core F x v ls a.1 f m) [
    | inl o ↦ inl (later core F l ls x o)
    | inr r ↦ inr (let p : price core (only F x v) l ≡ price core F l = ap (λ b. cond b l.weight 0) s in omega (arith, p, r))
  ]
]
  where
    here : (l : Literal) → IsPart core l.part → ((refutes (fact_of core l) F ≡ false) × (lists l.part.variables x ≡ true)) ⊎ (refutes (fact_of core l) (only F x v) ≡ refutes (fact_of core l) F)
    here l p = elim (lists l.part.variables x) as (λ b. lists l.part.variables x ≡ b → ((refutes (fact_of core l) F ≡ false) × (lists l.part.variables x ≡ true)) ⊎ (refutes (fact_of core l) (only F x v) ≡ refutes (fact_of core l) F)) [
      | false ↦ λ e. inr (looks core F x v l p f e)
      | true ↦ λ e. elim (refutes (fact_of core l) F) as (λ b. refutes (fact_of core l) F ≡ b → ((refutes (fact_of core l) F ≡ false) × (lists l.part.variables x ≡ true)) ⊎ (refutes (fact_of core l) (only F x v) ≡ refutes (fact_of core l) F)) [
        | false ↦ λ d. inl (d, e)
        | true ↦ λ d. inr ((refutes_falls (fact_of core l)).falls (only F x v) F (only_full F x v f) (only_below F x v m) d ∙ sym d)
      ] refl
    ] refl
