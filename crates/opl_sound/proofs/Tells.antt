-- What magnitudes that may be missing tell.
use Rattle.std.proofs.Common.{◌≡◌, ℕ, ◌+◌, ◌*◌, ◌<◌, max, Bool, true, false, cond, ◌&&◌, refl, List, length, ℤ, ap, sym, ◌∙◌, subst, arith, inl, inr}
use Rattle.std.specs.Prelude.{nat_lt, nat_eq, Option, Some, None, SomeIff}
use Rattle.std.specs.List.{list_all}
use Rattle.std.proofs.lemmas.Bool.{ltb-true, ltb-false}
use Rattle.std.proofs.lemmas.Bool.Decides.{Decides-eqb}
use Rattle.opl_expr.specs.declared.tables.Table.{Table}
use Rattle.opl_expr.specs.Laws.{is_clear}
use Rattle.opl_expr.specs.Sound.{IsSmall, keys, is_there, cells_magnitude, IsSoundTable}
use Rattle.opl_sound.specs.Measures.{small, is_some, added, multiplied, at_least_one, greater, comparable, first, one_if, only_if, is_whole, measure_table}
use Rattle.opl_sound.proofs.Smaller.{smalls, IsMeasure}

-- a test tells whether something is so
abbrev pub Tells : Bool → Type 0 → Type 0
Tells true P = P
Tells false P = P → ⊥

pub record IsTold (b : Bool) (P : Type 0) : Type 0 where
  pub told : Tells b P

-- a magnitude is there where something is so, and missing where it isn't
pub record IsMeasured (m : Option ℕ) (P : Type 0) (a : ℕ) : Type 0 where
  pub iff : SomeIff m P a

pub tells_true : (b : Bool) {P : Type 0} → IsTold b P → b ≡ true → P
tells_true true h e = h.told
tells_true false h e = cc

pub true_tells : (b : Bool) {P : Type 0} → IsTold b P → P → b ≡ true
true_tells true h p = refl
true_tells false h p = absurd (h.told p)

pub tells_less : (x n : ℕ) → IsTold (nat_lt x n) (x < n)
tells_less x n = elim (nat_lt x n) as (λ b. nat_lt x n ≡ b → IsTold b (x < n)) [
  | true ↦ λ e. record { told = ltb-true x n e }
  | false ↦ λ e. record { told = λ h. let g = ltb-false x n e in omega (arith, g, h) }
] refl

pub tells_both : (b c : Bool) {P Q : Type 0} → IsTold b P → IsTold c Q → IsTold (b && c) (P × Q)
tells_both true true h i = record { told = (h.told, i.told) }
tells_both true false h i = record { told = λ p. i.told p.1 }
tells_both false c h i = record { told = λ p. h.told p.0 }

pub tells_is : (b : Bool) → IsTold b (b ≡ true)
tells_is true = record { told = refl }
tells_is false = record { told = λ e. cc }

pub tells_same : (m n : ℕ) → IsTold (nat_eq m n) (m ≡ n)
tells_same m n = elim (nat_eq m n) as (λ b. nat_eq m n ≡ b → IsTold b (m ≡ n)) [
  | true ↦ λ e. record { told = (Decides-eqb m n).0 e }
  | false ↦ λ e. record { told = λ h. let g = (Decides-eqb m n).1 h in cc }
] refl

-- the same, of something that is so at the same time
pub tells_as : (b : Bool) {P Q : Type 0} → (P → Q) → (Q → P) → IsTold b P → IsTold b Q
tells_as true f g h = record { told = f h.told }
tells_as false f g h = record { told = λ q. h.told (g q) }

pub some_tells : (m : Option ℕ) {P : Type 0} (a : ℕ) → IsMeasured m P a → IsTold (is_some m) P
some_tells None a h = record { told = h.iff }
some_tells (Some n) a h = record { told = h.iff.0 }

pub iff_as : (m : Option ℕ) {P Q : Type 0} (a : ℕ) → (P → Q) → (Q → P) → IsMeasured m P a → IsMeasured m Q a
iff_as None a f g h = record { iff = λ q. h.iff (g q) }
iff_as (Some n) a f g h = record { iff = (f h.iff.0, h.iff.1) }

pub iff_small : (n : ℕ) → IsMeasured (small n) (IsSmall n) n
iff_small n = elim (smalls n) [
  | inl a ↦ subst (λ o. IsMeasured o (IsSmall n) n) (sym a.1) (record { iff = (a.0, refl) })
  | inr a ↦ subst (λ o. IsMeasured o (IsSmall n) n) (sym a.1) (record { iff = λ h. omega (arith, a.0, h) })
]

iff_number : (m n : ℕ) → m ≡ n → IsMeasured (small m) (IsSmall n) n
iff_number m n e = subst (λ k. IsMeasured (small m) (IsSmall k) k) e (iff_small m)

-- a magnitude that is there
pub iff_known : (n : ℕ) → IsMeasured (Some n) (Unit {0}) n
iff_known n = record { iff = (tt, refl) }

pub iff_added : (m n : Option ℕ) {P Q : Type 0} (a b : ℕ) → IsMeasured m P a → IsMeasured n Q b → IsMeasured (added m n) (IsSmall (a + b) × P × Q) (a + b)
iff_added None n a b h i = record { iff = λ p. h.iff p.1 }
iff_added (Some j) None a b h i = record { iff = λ p. i.iff p.2 }
iff_added (Some j) (Some k) a b h i = iff_as (small (j + k)) (a + b) (λ s. (s, h.iff.0, i.iff.0)) (λ p. p.0) (iff_number (j + k) (a + b) (ap (λ z. z + k) h.iff.1 ∙ ap (λ z. a + z) i.iff.1))

pub iff_multiplied : (m n : Option ℕ) {P Q : Type 0} (a b : ℕ) → IsMeasured m P a → IsMeasured n Q b → IsMeasured (multiplied m n) (IsSmall (a * b) × P × Q) (a * b)
iff_multiplied None n a b h i = record { iff = λ p. h.iff p.1 }
iff_multiplied (Some j) None a b h i = record { iff = λ p. i.iff p.2 }
iff_multiplied (Some j) (Some k) a b h i = iff_as (small (j * k)) (a * b) (λ s. (s, h.iff.0, i.iff.0)) (λ p. p.0) (iff_number (j * k) (a * b) (ap (λ z. z * k) h.iff.1 ∙ ap (λ z. a * z) i.iff.1))

pub iff_least : (n : Option ℕ) {P : Type 0} (a : ℕ) → IsMeasured n P a → IsMeasured (at_least_one n) P (max 1 a)
iff_least None a h = record { iff = h.iff }
iff_least (Some n) a h = record { iff = (h.iff.0, ap (λ z. max 1 z) h.iff.1) }

pub iff_greater : (m n : Option ℕ) {P Q : Type 0} (a b : ℕ) → IsMeasured m P a → IsMeasured n Q b → IsMeasured (greater m n) (P × Q) (max a b)
iff_greater None n a b h i = record { iff = λ p. h.iff p.0 }
iff_greater (Some j) None a b h i = record { iff = λ p. i.iff p.1 }
iff_greater (Some j) (Some k) a b h i = record { iff = ((h.iff.0, i.iff.0), ap (λ z. max z k) h.iff.1 ∙ ap (λ z. max a z) i.iff.1) }

pub iff_comparable : (m n : Option ℕ) {P Q : Type 0} (a b : ℕ) → IsMeasured m P a → IsMeasured n Q b → IsMeasured (comparable m n) (IsSmall (a + b) × P × Q) (max a b)
iff_comparable m n a b h i = chosen (added m n) (iff_added m n a b h i) (iff_greater m n a b h i)
  where
    chosen : (o : Option ℕ) {P Q : Type 0} → IsMeasured o (IsSmall (a + b) × P × Q) (a + b) → IsMeasured (greater m n) (P × Q) (max a b) → IsMeasured (cond (is_some o) (greater m n) None) (IsSmall (a + b) × P × Q) (max a b)
    chosen None g k = record { iff = g.iff }
    chosen (Some s) g k = iff_as (greater m n) (max a b) (λ p. g.iff.0) (λ p. (p.1, p.2)) k

pub iff_first : (m n : Option ℕ) {P Q : Type 0} (a b : ℕ) → IsMeasured m P a → IsMeasured n Q b → IsMeasured (first m n) (P × Q) a
iff_first None n a b h i = record { iff = λ p. h.iff p.0 }
iff_first (Some j) None a b h i = record { iff = λ p. i.iff p.1 }
iff_first (Some j) (Some k) a b h i = record { iff = ((h.iff.0, i.iff.0), h.iff.1) }

pub iff_one : (b : Bool) {P : Type 0} → IsTold b P → IsMeasured (one_if b) P 1
iff_one true h = record { iff = (h.told, refl) }
iff_one false h = record { iff = h.told }

pub iff_only : (b : Bool) (m : Option ℕ) {P Q : Type 0} (a : ℕ) → IsTold b P → IsMeasured m Q a → IsMeasured (only_if b m) (Q × P) a
iff_only true None a h i = record { iff = λ p. i.iff p.0 }
iff_only true (Some n) a h i = record { iff = ((i.iff.0, h.told), i.iff.1) }
iff_only false m a h i = record { iff = λ p. h.told p.1 }

-- what is there is small
pub iff_fits : (m : Option ℕ) {P : Type 0} (a : ℕ) → IsMeasure m → IsMeasured m P a → IsMeasured m (IsSmall a × P) a
iff_fits None a s h = record { iff = λ p. h.iff p.1 }
iff_fits (Some n) a s h = record { iff = ((subst IsSmall h.iff.1 s, h.iff.0), h.iff.1) }

module _ (sets : List (ℤ × ℤ)) where
  pub whole_tells : (t : Table) → IsTold (is_whole sets t) (IsSoundTable sets (Some t))
  whole_tells t =
      tells_as (is_whole sets t) (λ h. (h.0, h.1.0, h.1.1)) (λ h. (h.0, (h.1, h.2)))
      (tells_both (nat_eq (length t.cells) (keys t.dims)) (is_clear (Some t) && list_all (is_there (length sets)) t.cells) (tells_same (length t.cells) (keys t.dims))
      (tells_both (is_clear (Some t)) (list_all (is_there (length sets)) t.cells) (tells_is (is_clear (Some t))) (tells_is (list_all (is_there (length sets)) t.cells))))

  pub iff_table : (t : Table) (b : Bool) {P : Type 0} → IsTold b P → IsMeasured (measure_table sets (Some t) b) (IsSmall (cells_magnitude sets t.cells) × IsSoundTable sets (Some t) × P) (max 1 (cells_magnitude sets t.cells))
  iff_table t b h =
      iff_as (measure_table sets (Some t) b) (max 1 (cells_magnitude sets t.cells)) (λ p. (p.0, p.1.0, p.1.1)) (λ p. (p.0, (p.1, p.2)))
      (iff_only (is_whole sets t && b) (at_least_one (small (cells_magnitude sets t.cells))) (max 1 (cells_magnitude sets t.cells)) (tells_both (is_whole sets t) b (whole_tells t) h)
      (iff_least (small (cells_magnitude sets t.cells)) (cells_magnitude sets t.cells) (iff_small (cells_magnitude sets t.cells))))
