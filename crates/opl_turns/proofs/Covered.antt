-- Variables that are labelled, or have one value already.
use Rattle.std.proofs.Common.{◌≡◌, ◌∙◌, ℕ, zero, suc, ◌⊎◌, inl, inr, Bool, true, false, ◌||◌, nat_eq, refl, List, [], ◌∷◌, ◌++◌, length, ℤ, ap, sym, subst, arith}
use Rattle.std.specs.Prelude.{Option, Some}
use Rattle.std.specs.List.{list_any}
use Rattle.opl_domain.specs.Family.{Family, member, set_of, has, Below}
use Rattle.opl_domain.proofs.Members.{member_cases}
use Rattle.opl_steps.specs.Tasks.{Task}
use Rattle.opl_steps.specs.Tasks.Task.{values}
use Rattle.opl_turns.specs.Covered.{labels, IsAlone, AreAlone, Covers}

-- a smaller set has no more values
pub alone_below : (F G : Family) (y : ℕ) → Below F G → IsAlone G y → IsAlone F y
alone_below F G y b h = λ v w m n. h v w (b.sub y v m) (b.sub y w n)

-- a list of one number
one_member : (vs : List ℤ) (v w : ℤ) → length vs ≡ 1 → member v vs ≡ true → member w vs ≡ true → v ≡ w
one_member [] v w e m n = cc
one_member (u ∷ []) v w e m n = elim (member_cases v u [] m) [
  | inl i ↦ elim (member_cases w u [] n) [ inl j ↦ i ∙ sym j | inr j ↦ cc ]
  | inr i ↦ cc
]
one_member (u ∷ t ∷ vs) v w e m n = absurd (omega (arith, e))

pub alone_one : (F : Family) (y : ℕ) → length (set_of F y) ≡ 1 → IsAlone F y
alone_one F y e = λ v w m n. one_member (set_of F y) v w e m n

same_or_not : (y x : ℕ) (xs : List ℕ) (ts : List Task) → labels (values (x ∷ xs) ∷ ts) y ≡ true → (y ≡ x) ⊎ (labels (values xs ∷ ts) y ≡ true)
same_or_not y x xs ts h = elim (nat_eq y x) as (λ b. nat_eq y x ≡ b → ((b || list_any (nat_eq y) xs) || labels ts y) ≡ true → (y ≡ x) ⊎ (labels (values xs ∷ ts) y ≡ true)) [
  | true ↦ λ e i. inl (grind arith)
  | false ↦ λ e i. inr i
] refl h

-- a variable with one value needs no label
pub covers_single : (F : Family) (x : ℕ) (xs : List ℕ) (ts : List Task) → IsAlone F x → Covers F (values (x ∷ xs) ∷ ts) → Covers F (values xs ∷ ts)
covers_single F x xs ts one h = λ y. elim (h y) [
  | inl a ↦ inl a
  | inr l ↦ elim (same_or_not y x xs ts l) [ inl e ↦ inl (subst (IsAlone F) (sym e) one) | inr k ↦ inr k ]
]

pub covers_none : (F : Family) (ts : List Task) → Covers F (values [] ∷ ts) → Covers F ts
covers_none F ts h = h

pub covers_below : (F G : Family) (ts : List Task) → Below F G → Covers G ts → Covers F ts
covers_below F G ts b h = λ y. elim (h y) [ inl a ↦ inl (alone_below F G y b a) | inr l ↦ inr l ]

pub covers_end : (F : Family) → Covers F [] → AreAlone F
covers_end F h = λ y. elim (h y) [ inl a ↦ a | inr l ↦ cc ]
