-- Numbers as they pass through a call.
use Rattle.std.proofs.Common.{◌≡◌, ℤ, to_z, of_z, eqb, ap, sym, ◌∙◌}
use Rattle.std.specs.Prelude.{FitsSigned}
use Rattle.std.specs.Ordering.{int_eq}
use mir.Syntax.{w64}
use Rattle.std.proofs.lemmas.Int.{to_z-of_z}
use Rattle.std.proofs.lemmas.Bool.Decides.{same_from_decides, Decides-like, Decides-eqb, Decides-int_eq}

pub same_bits_64 : (x y : ℤ) → FitsSigned w64 x → FitsSigned w64 y → eqb (of_z w64 x) (of_z w64 y) ≡ int_eq x y
same_bits_64 x y p q = same_from_decides (eqb (of_z w64 x) (of_z w64 y)) (int_eq x y)
    (Decides-like (eqb (of_z w64 x) (of_z w64 y)) (λ e. sym (to_z-of_z w64 x p) ∙ ap (to_z w64) e ∙ to_z-of_z w64 y q) (ap (of_z w64)) (Decides-eqb (of_z w64 x) (of_z w64 y))) (Decides-int_eq x y)
