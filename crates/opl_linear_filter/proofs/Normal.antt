-- A filter is that of its normal form.
use Rattle.std.proofs.Common.{◌≡◌, refl, ℕ, neg_ℤ, subst}
use Rattle.opl_expr.specs.declared.model.Core.{Core}
use Rattle.opl_expr.specs.Forms.{Term}
use Rattle.opl_linear.specs.declared.kind.Kind.{Kind}
use Rattle.opl_linear.specs.declared.kind.Kind.TheVariants as kind
use Rattle.opl_linear.specs.Linear.{factor_in}
use Rattle.opl_linear.specs.Forms.{kind_of, left_of, right_of}
use Rattle.opl_linear.specs.Laws.{factors_of, constant_of}
use Rattle.opl_linear_filter.specs.declared.linear_filter.LinearFilter.{LinearFilter}
use Rattle.opl_linear_filter.specs.ShortForms.{scaled}
use Rattle.opl_linear_filter.specs.LinearForms.{IsMade, IsDifference, IsFilterOf}
use Rattle.opl_linear_filter.specs.NormalForms.{op_of, normal_form}
use Rattle.opl_linear_filter.proofs.Equations.{scaled_pure, equation_factors, equation_constant}

same_kind : (k : Kind) → k ≡ kind_of (op_of k)
same_kind kind.AtMost = refl
same_kind kind.Below = refl
same_kind kind.Zero = refl
same_kind kind.Different = refl

left_is : (k : Kind) (a b : Term) → a ≡ left_of (op_of k) a b
left_is kind.AtMost a b = refl
left_is kind.Below a b = refl
left_is kind.Zero a b = refl
left_is kind.Different a b = refl

right_is : (k : Kind) (a b : Term) → b ≡ right_of (op_of k) a b
right_is kind.AtMost a b = refl
right_is kind.Below a b = refl
right_is kind.Zero a b = refl
right_is kind.Different a b = refl

normal_difference : (core : Core) (f : LinearFilter) (wanted : Kind) (a b s t : Term) → IsMade core f → f.kind ≡ wanted → a ≡ s → b ≡ t → ((x : ℕ) → factor_in f.parts x ≡ factors_of a b x) → f.constant ≡ constant_of a b → IsDifference core wanted s t f
normal_difference core f wanted a b s t m k i j e c =
    subst (λ z. IsDifference core wanted z t f) i (subst (λ z. IsDifference core wanted a z f) j (record { made = m; kind = k; factors = e; constant = c }))

pub normal_is : (core : Core) (f : LinearFilter) → IsMade core f → IsFilterOf core (normal_form f) f
normal_is core f m =
    let a = Term.sum (scaled f.parts) in
    let b = Term.const (neg_ℤ f.constant) in
    record {
      op = op_of f.kind;
      left = a;
      right = b;
      is = refl;
      comparison = record {
        first = scaled_pure f.parts;
        second = refl;
        difference = normal_difference core f (kind_of (op_of f.kind)) a b (left_of (op_of f.kind) a b) (right_of (op_of f.kind) a b) m (same_kind f.kind) (left_is f.kind a b) (right_is f.kind a b)
            (equation_factors f.parts f.constant) (equation_constant f.parts f.constant);
      };
    }
