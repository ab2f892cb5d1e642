-- Values compared by their ranks: equations of alike values go by ranks, and unlike values are never equal.
use Rattle.std.proofs.Common.{◌≡◌, ℕ, pos, Bool, true, false, cond, ◌&&◌, ◌||◌, nat_eq, refl, sym, ap, ◌∙◌}
use Rattle.std.specs.Ordering.{int_eq}
use Rattle.std.specs.Cmp.{unsigned_Decides}
use Rattle.std.proofs.lemmas.Bool.Decides.{Decides-int_eq, same_from_decides}
use Rattle.opl_value.specs.declared.value.Dimension.{Dimension}
use Rattle.opl_value.specs.declared.value.IndexSpace.{IndexSpace}
use Rattle.opl_value.specs.declared.value.Value.{Value}
use Rattle.opl_value.specs.declared.value.Value.TheVariants as values
use Rattle.opl_value.specs.declared.value.Dimension.TheOpen.{Value-F}
use Rattle.opl_value.specs.declared.value.Dimension.TheViews.{out-Value, roll-Value, roll-out-Value}
use Rattle.opl_value.specs.Order.{value_eq}
use Rattle.opl_value.specs.Total.{value_same}
use Rattle.opl_eval.specs.Compare.{equal, is_number, is_number_layer, number, number_layer, rank, rank_layer}
use Rattle.opl_meaning.specs.Assigned.{position_of}
use Rattle.opl_form.specs.Parts.{Sort, alike, key_layer, value_sort}
use Rattle.opl_form.specs.Parts.Sort.{whole, named, other}

abbrev Layer : Type 0
Layer = Value-F Dimension Value IndexSpace

-- numbers and names
abbrev pub is_plain : Sort → Bool
is_plain whole = true
is_plain (named d) = true
is_plain other = false

-- ---- sorts

whole-other : whole ≡ other → ⊥
whole-other e = cc

named-same : (c d : ℕ) → named c ≡ named d → c ≡ d
named-same c d e = cc

nat-same : (c d : ℕ) → nat_eq c d ≡ true → c ≡ d
nat-same c d h = (unsigned_Decides c d).0 h

nat-self : (c : ℕ) → nat_eq c c ≡ true
nat-self c = (unsigned_Decides c c).1 refl

-- alike sorts are the same, and plain
pub alike-same : (s t : Sort) → alike s t ≡ true → s ≡ t
alike-same whole whole h = refl
alike-same whole (named d) h = absurd (cc)
alike-same whole other h = absurd (cc)
alike-same (named c) whole h = absurd (cc)
alike-same (named c) (named d) h = ap (λ d. named d) (nat-same c d h)
alike-same (named c) other h = absurd (cc)
alike-same other t h = absurd (cc)

pub alike-plain : (s t : Sort) → alike s t ≡ true → is_plain s ≡ true
alike-plain whole t h = refl
alike-plain (named c) t h = refl
alike-plain other t h = absurd (cc)

-- ---- one layer of a value

number-sort : (d : Layer) → is_number_layer d ≡ true → value_sort d ≡ whole
number-sort (Value-F.Int n) h = refl
number-sort (Value-F.Bool b) h = refl
number-sort d h = absurd (cc)

whole-number : (d : Layer) → value_sort d ≡ whole → (is_number_layer d ≡ true) × (number_layer d ≡ rank_layer d)
whole-number (Value-F.Int n) h = (refl, refl)
whole-number (Value-F.Bool b) h = (refl, refl)
whole-number d h = absurd (cc)

named-number : (d : Layer) (c : ℕ) → value_sort d ≡ named c → is_number_layer d ≡ false
named-number (Value-F.Enum e p) c h = refl
named-number d c h = absurd (cc)

whole-key : (d : Layer) → key_layer d ≡ whole → d ≡ Value-F.Int (rank_layer d)
whole-key (Value-F.Int n) h = refl
whole-key d h = absurd (cc)

named-key : (d : Layer) (c : ℕ) → key_layer d ≡ named c → (d ≡ Value-F.Enum c (position_of (rank_layer d))) × (rank_layer d ≡ pos (position_of (rank_layer d)))
named-key (Value-F.Enum e p) c h = (ap (λ e. Value-F.Enum e p) (named-same e c h), refl)
named-key d c h = absurd (cc)

named-sort-key : (d : Layer) (c : ℕ) → value_sort d ≡ named c → key_layer d ≡ named c
named-sort-key (Value-F.Enum e p) c h = h
named-sort-key d c h = absurd (cc)

-- ---- values of a sort

-- a value of whole sort is its number
pub int-back : (v : Value) → key_layer (out-Value v) ≡ whole → v ≡ values.Int (rank v)
int-back v h = sym (roll-out-Value v) ∙ ap roll-Value (whole-key (out-Value v) h) ∙ values.rolls-Int (rank v)

-- a name is that of its position
pub name-back : (v : Value) (d : ℕ) → key_layer (out-Value v) ≡ named d → v ≡ values.Enum d (position_of (rank v)) × (rank v ≡ pos (position_of (rank v)))
name-back v d h =
    let k = named-key (out-Value v) d h in
    (sym (roll-out-Value v) ∙ ap roll-Value k.0 ∙ values.rolls-Enum d (position_of (rank v)), k.1)

-- values of one sort are the same where their ranks are
by-ranks : (s : Sort) (v w : Value) → is_plain s ≡ true → key_layer (out-Value v) ≡ s → key_layer (out-Value w) ≡ s → rank v ≡ rank w → v ≡ w
by-ranks whole v w p h k e = int-back v h ∙ ap values.Int e ∙ sym (int-back w k)
by-ranks (named d) v w p h k e = (name-back v d h).0 ∙ ap (λ r. values.Enum d (position_of r)) e ∙ sym (name-back w d k).0
by-ranks other v w p h k e = absurd (cc)

pub eq-ranks : (v w : Value) → alike (key_layer (out-Value v)) (key_layer (out-Value w)) ≡ true → value_eq v w ≡ int_eq (rank v) (rank w)
eq-ranks v w h =
    let e = alike-same (key_layer (out-Value v)) (key_layer (out-Value w)) h in
    same_from_decides (value_eq v w) (int_eq (rank v) (rank w)) (value_same v w)
    (λ t. by-ranks (key_layer (out-Value v)) v w (alike-plain (key_layer (out-Value v)) (key_layer (out-Value w)) h) refl (sym e) ((Decides-int_eq (rank v) (rank w)).0 t), λ t. (Decides-int_eq (rank v) (rank w)).1 (ap rank t))

-- ---- equations

by-number : (v w : Value) → is_number v ≡ true → is_number w ≡ true → equal v w ≡ int_eq (number v) (number w)
unfolding equal
by-number v w h k = λ i. cond (h i && k i) (int_eq (number v) (number w)) (value_eq v w)

by-value : (v w : Value) → (is_number v && is_number w) ≡ false → equal v w ≡ value_eq v w
unfolding equal
by-value v w h = ap (λ b. cond b (int_eq (number v) (number w)) (value_eq v w)) h

first-false : (b c : Bool) → b ≡ false → (b && c) ≡ false
first-false b c h = ap (λ b. b && c) h

pub equal-alike : (v w : Value) → alike (value_sort (out-Value v)) (value_sort (out-Value w)) ≡ true → equal v w ≡ int_eq (rank v) (rank w)
equal-alike v w h = by (value_sort (out-Value v)) (value_sort (out-Value w)) refl refl h
  where
    by : (s t : Sort) → value_sort (out-Value v) ≡ s → value_sort (out-Value w) ≡ t → alike s t ≡ true → equal v w ≡ int_eq (rank v) (rank w)
    by whole whole p q h =
        let a = whole-number (out-Value v) p in
        let b = whole-number (out-Value w) q in
        by-number v w a.0 b.0 ∙ (λ i. int_eq (a.1 i) (b.1 i))
    by (named c) (named d) p q h =
        let k = named-sort-key (out-Value v) c p in
        let l = named-sort-key (out-Value w) d q in
        by-value v w (first-false (is_number v) (is_number w) (named-number (out-Value v) c p)) ∙ eq-ranks v w ((λ i. alike (k i) (l i)) ∙ h)
    by whole (named d) p q h = absurd (cc)
    by whole other p q h = absurd (cc)
    by (named c) whole p q h = absurd (cc)
    by (named c) other p q h = absurd (cc)
    by other t p q h = absurd (cc)

pub equal-unlike : (v w : Value) → alike (value_sort (out-Value v)) (value_sort (out-Value w)) ≡ false → is_plain (value_sort (out-Value v)) || is_plain (value_sort (out-Value w)) ≡ true → equal v w ≡ false
equal-unlike v w h plain = by (is_number v) (is_number w) refl refl
  where
    both : (b c : Bool) → b ≡ true → b ≡ false → c ≡ false
    both b c h k = absurd (cc)

    either : (s t : Sort) → s ≡ t → is_plain s || is_plain t ≡ true → alike s t ≡ true
    either whole t e p = ap (alike whole) (sym e)
    either (named c) t e p = ap (alike (named c)) (sym e) ∙ nat-self c
    either other t e p = absurd (never (ap is_plain (sym e)) p)
      where
        never : is_plain t ≡ false → is_plain t ≡ true → ⊥
        never a b = cc

    unequal : (b : Bool) → value_eq v w ≡ b → value_eq v w ≡ false
    unequal true e =
        let same : v ≡ w = (value_same v w).0 e in
        both (alike (value_sort (out-Value v)) (value_sort (out-Value w))) (value_eq v w) (either (value_sort (out-Value v)) (value_sort (out-Value w)) (ap (λ v. value_sort (out-Value v)) same) plain) h
    unequal false e = e

    by : (b c : Bool) → is_number v ≡ b → is_number w ≡ c → equal v w ≡ false
    by true true p q =
        both (alike (value_sort (out-Value v)) (value_sort (out-Value w))) (equal v w) ((λ i. alike (number-sort (out-Value v) p i) (number-sort (out-Value w) q i))) h
    by true false p q = by-value v w ((λ i. p i && q i)) ∙ unequal (value_eq v w) refl
    by false c p q = by-value v w (first-false (is_number v) (is_number w) p) ∙ unequal (value_eq v w) refl
