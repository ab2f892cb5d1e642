-- Sums and opposites of intervals that may be missing.
use Rattle.std.proofs.Common.{◌≡◌, ◌∙◌, Bool, true, false, not, refl, List, [], ◌∷◌, ◌++◌, ℤ, pos, ◌+ℤ◌, neg_ℤ, ap, sym, arith}
use Rattle.std.specs.Prelude.{Option, Some, None}
use Rattle.std.proofs.lemmas.Int.{ints}
use Rattle.opl_domain.specs.Span.{Span, point}
use Rattle.opl_domain.specs.Arithmetic.{span_add, span_neg}
use Rattle.opl_expr.specs.Options.{lift, lift1}
use Rattle.opl_addends.specs.Addends.{signed_span}

abbrev span_of : ℤ → ℤ → Span
span_of l h = record { low = l; high = h }

pub same_span : (a b : Span) → a.low ≡ b.low → a.high ≡ b.high → a ≡ b
same_span a b p q = ap (λ l. span_of l a.high) p ∙ ap (span_of b.low) q

pub neg_twice : (a : Span) → span_neg (span_neg a) ≡ a
unfolding span_neg
neg_twice a = same_span (record { low = neg_ℤ (neg_ℤ a.low); high = neg_ℤ (neg_ℤ a.high) }) a (omega (arith, ints)) (omega (arith, ints))

pub add_nothing : (a : Span) → span_add (point (pos 0)) a ≡ a
unfolding span_add
add_nothing a = same_span (record { low = pos 0 +ℤ a.low; high = pos 0 +ℤ a.high }) a (omega (arith, ints)) (omega (arith, ints))

pub add_nothing_behind : (a : Span) → span_add a (point (pos 0)) ≡ a
unfolding span_add
add_nothing_behind a = same_span (record { low = a.low +ℤ pos 0; high = a.high +ℤ pos 0 }) a (omega (arith, ints)) (omega (arith, ints))

pub add_turned : (a b : Span) → span_add a b ≡ span_add b a
unfolding span_add
add_turned a b = same_span (record { low = a.low +ℤ b.low; high = a.high +ℤ b.high }) (record { low = b.low +ℤ a.low; high = b.high +ℤ a.high }) (omega (arith, ints)) (omega (arith, ints))

pub add_again : (a b c : Span) → span_add (span_add a b) c ≡ span_add a (span_add b c)
unfolding span_add
add_again a b c =
    same_span (record { low = a.low +ℤ b.low +ℤ c.low; high = a.high +ℤ b.high +ℤ c.high }) (record { low = a.low +ℤ (b.low +ℤ c.low); high = a.high +ℤ (b.high +ℤ c.high) })
    (omega (arith, ints)) (omega (arith, ints))

pub neg_sum : (a b : Span) → span_neg (span_add a b) ≡ span_add (span_neg a) (span_neg b)
unfolding span_add span_neg
neg_sum a b =
    same_span (record { low = neg_ℤ (a.high +ℤ b.high); high = neg_ℤ (a.low +ℤ b.low) }) (record { low = neg_ℤ a.high +ℤ neg_ℤ b.high; high = neg_ℤ a.low +ℤ neg_ℤ b.low })
    (omega (arith, ints)) (omega (arith, ints))

pub signed_sum : (o : Bool) (a b : Span) → signed_span o (span_add a b) ≡ span_add (signed_span o a) (signed_span o b)
signed_sum false a b = refl
signed_sum true a b = neg_sum a b

pub signed_nothing : (o : Bool) → signed_span o (point (pos 0)) ≡ point (pos 0)
unfolding span_neg
signed_nothing false = refl
signed_nothing true = refl

pub signed_neg : (o : Bool) (a : Span) → signed_span o (span_neg a) ≡ signed_span (not o) a
signed_neg false a = refl
signed_neg true a = neg_twice a

-- ---- that may be missing

pub lift_turned : (r s : Option Span) → lift span_add r s ≡ lift span_add s r
lift_turned None None = refl
lift_turned None (Some b) = refl
lift_turned (Some a) None = refl
lift_turned (Some a) (Some b) = ap Some (add_turned a b)

pub lift_again : (r s t : Option Span) → lift span_add (lift span_add r s) t ≡ lift span_add r (lift span_add s t)
lift_again None s t = refl
lift_again (Some a) None t = refl
lift_again (Some a) (Some b) None = refl
lift_again (Some a) (Some b) (Some c) = ap Some (add_again a b c)

pub lift_nothing : (r : Option Span) → lift span_add (Some (point (pos 0))) r ≡ r
lift_nothing None = refl
lift_nothing (Some a) = ap Some (add_nothing a)

pub lift_nothing_behind : (r : Option Span) → lift span_add r (Some (point (pos 0))) ≡ r
lift_nothing_behind None = refl
lift_nothing_behind (Some a) = ap Some (add_nothing_behind a)

pub lift_signed : (o : Bool) (r s : Option Span) → lift1 (signed_span o) (lift span_add r s) ≡ lift span_add (lift1 (signed_span o) r) (lift1 (signed_span o) s)
lift_signed o None s = refl
lift_signed o (Some a) None = refl
lift_signed o (Some a) (Some b) = ap Some (signed_sum o a b)

pub lift_neg : (o : Bool) (r : Option Span) → lift1 (signed_span o) (lift1 span_neg r) ≡ lift1 (signed_span (not o)) r
lift_neg o None = refl
lift_neg o (Some a) = ap Some (signed_neg o a)

-- the middle one goes behind
pub lift_past : (r s t : Option Span) → lift span_add r (lift span_add s t) ≡ lift span_add s (lift span_add r t)
lift_past r s t = sym (lift_again r s t) ∙ ap (λ z. lift span_add z t) (lift_turned r s) ∙ lift_again s r t

pub append_again : {A : Type 0} (xs ys zs : List A) → (xs ++ ys) ++ zs ≡ xs ++ (ys ++ zs)
append_again [] ys zs = refl
append_again (x ∷ xs) ys zs = ap (λ us. x ∷ us) (append_again xs ys zs)

pub append_nothing : {A : Type 0} (xs : List A) → xs ++ [] ≡ xs
append_nothing [] = refl
append_nothing (x ∷ xs) = ap (λ us. x ∷ us) (append_nothing xs)
