-- Notes stay right.
use Rattle.std.proofs.Common.{◌≡◌, ◌∙◌, ℕ, true, refl, List, length, set, replicate, ap, sym, subst, arith, inl, inr, length-set}
use Rattle.std.proofs.lemmas.Bool.{cases_eq}
use Rattle.std.proofs.lemmas.List.{get_or-replicate, get_or-set_other, length-replicate}
use Rattle.std.specs.Prelude.{nat_lt, slice_index}
use Rattle.opl_domain.specs.Family.{Family, Full, Below}
use Rattle.opl_expr.specs.Forms.{Fact}
use Rattle.opl_filter.specs.Filtering.{refutes}
use Rattle.opl_filter.proofs.Refuting.{refutes_falls}
use Rattle.opl_trail.specs.Levels.{Levels}
use Rattle.opl_notes.specs.Noted.{AreRight, Knows, Tells}

-- where nothing is noted
pub right_new : (facts : ℕ → Fact) (n : ℕ) (F : Family) → AreRight facts (replicate n 0) F
right_new facts n F p l h = absurd (let z : slice_index (replicate n 0) p ≡ 0 = get_or-replicate n p 0 0 (omega (arith, l, length-replicate {A = ℕ} n 0)) in let e = ap (nat_lt 0) z in cc)

-- of a family within
pub right_below : (facts : ℕ → Fact) (words : List ℕ) (F G : Family) → Full G → Below G F → AreRight facts words F → AreRight facts words G
right_below facts words F G f b r p l h = (refutes_falls (facts p)).falls G F f b (r p l h)

-- once what the family refutes is noted
pub right_noted : (facts : ℕ → Fact) (words : List ℕ) (F : Family) (q : ℕ) → refutes (facts q) F ≡ true → AreRight facts words F → AreRight facts (set words q 1) F
right_noted facts words F q h r p l n = elim (cases_eq p q) [
  | inl e ↦ subst (λ k. refutes (facts k) F ≡ true) (sym e) h
  | inr d ↦ r p (omega (arith, l, length-set words q 1)) (ap (nat_lt 0) (sym (get_or-set_other words q p 1 0 d)) ∙ n)
]

-- ---- what readers know

-- one who takes fewer places to stand for something knows it too
pub knows_less : (means narrower : (ℕ → Fact) → ℕ → Type 0) (words : List ℕ) (F : Family) → ((facts : ℕ → Fact) (n : ℕ) → means facts n → narrower facts n) → Knows means words F → Knows narrower words F
knows_less means narrower words F h k = record { facts = k.facts; meant = h k.facts (length words) k.meant; right = k.right }

pub knows_below : (means : (ℕ → Fact) → ℕ → Type 0) (words : List ℕ) (F G : Family) → Full G → Below G F → Knows means words F → Knows means words G
knows_below means words F G f b k = record { facts = k.facts; meant = k.meant; right = right_below k.facts words F G f b k.right }

pub knows_on : (means : (ℕ → Fact) → ℕ → Type 0) (old : Levels) (F : Family) (new : Levels) (G : Family) → Knows means old.top F → Tells means old F new G → Knows means new.top G
knows_on means old F new G k t = record { facts = k.facts; meant = subst (means k.facts) (sym t.places) k.meant; right = t.right k.facts k.meant k.right }

-- ---- what is told to readers

pub tells_none : (means : (ℕ → Fact) → ℕ → Type 0) (old : Levels) (F G : Family) → Full G → Below G F → Tells means old F old G
tells_none means old F G f b = record { places = refl; below = refl; right = λ facts m r. right_below facts old.top F G f b r }

pub tells_same : (means : (ℕ → Fact) → ℕ → Type 0) (old : Levels) (F : Family) → Tells means old F old F
tells_same means old F = record { places = refl; below = refl; right = λ facts m r. r }

pub tells_on : (means : (ℕ → Fact) → ℕ → Type 0) (a : Levels) (F : Family) (b : Levels) (G : Family) (c : Levels) (H : Family) → Tells means a F b G → Tells means b G c H → Tells means a F c H
tells_on means a F b G c H s t = record {
  places = t.places ∙ s.places;
  below = t.below ∙ s.below;
  right = λ facts m r. t.right facts (subst (means facts) (sym s.places) m) (s.right facts m r);
}

pub tells_more : (means wider : (ℕ → Fact) → ℕ → Type 0) (a : Levels) (F : Family) (b : Levels) (G : Family) → ((facts : ℕ → Fact) (n : ℕ) → wider facts n → means facts n) → Tells means a F b G → Tells wider a F b G
tells_more means wider a F b G h t = record { places = t.places; below = t.below; right = λ facts m r. t.right facts (h facts (length a.top) m) r }
