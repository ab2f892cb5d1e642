use Rattle.std.proofs.Common.{arith, rules, ◌≡◌, ◌≢◌, ℤ, pos, sym, ap, ◌∙◌, to_z, of_z}
use Rattle.std.specs.Prelude.{FitsSigned}
use mir.Syntax.{w128}
use Rattle.std.proofs.lemmas.Int.{ints, to_z-of_z}
use Rattle.opl_domain.specs.Span.{Span}
use Rattle.opl_domain.proofs.Rows.{same_bits, one_nonzero, same_bits_test, two_quotients, one_quotient_test, same_bits, one_nonzero}
use Rattle.opl_domain.proofs.interval.Interval.is_one_quotient.Goals as goal

pub returns-then-divisor-hi : goal.returns-then-divisor-hi
returns-then-divisor-hi c =
    two_quotients _ _ (λ e. c.if-divisor-hi.true (ap (of_z w128) (c.lo-divisor.ensures.value ∙ e ∙ sym c.hi.ensures.value)))

one : (x y : ℤ) (b : Span) → FitsSigned w128 x → FitsSigned w128 y → x ≡ b.low → y ≡ b.high → of_z w128 x ≡ of_z w128 y → b.low ≡ b.high
one x y b p q e f s = sym e ∙ same_bits x y p q s ∙ f

nonzero : (x : ℤ) (b : Span) → FitsSigned w128 x → x ≡ b.low → b.low ≢ pos 0 → to_z w128 (of_z w128 x) ≢ pos 0
nonzero x b p e n = λ z. n (sym e ∙ sym (to_z-of_z w128 x p) ∙ z)

pub quotient-requires : goal.quotient-requires
quotient-requires c =
    let low_fits : FitsSigned w128 c.lo-divisor.result = search rules in
    let high_fits : FitsSigned w128 c.hi.result = search rules in
    let single = one _ _ c.args.other low_fits high_fits c.lo-divisor.ensures.value c.hi.ensures.value c.if-divisor-hi.false in
    record {
      nonzero = nonzero _ c.args.other low_fits c.lo-divisor.ensures.value (one_nonzero c.args.other single c.requires.nonzero);
      fits = omega (arith, ints);
    }

pub quotient-requires-2 : goal.quotient-requires-2
quotient-requires-2 c =
    let low_fits : FitsSigned w128 c.lo-divisor.result = search rules in
    let high_fits : FitsSigned w128 c.hi.result = search rules in
    let single = one _ _ c.args.other low_fits high_fits c.lo-divisor.ensures.value c.hi.ensures.value c.if-divisor-hi.false in
    record {
      nonzero = nonzero _ c.args.other low_fits c.lo-divisor.ensures.value (one_nonzero c.args.other single c.requires.nonzero);
      fits = omega (arith, ints);
    }

pub returns : goal.returns
returns c =
    let low_fits : FitsSigned w128 c.lo-divisor.result = search rules in
    let high_fits : FitsSigned w128 c.hi.result = search rules in
    let single = one _ _ c.args.other low_fits high_fits c.lo-divisor.ensures.value c.hi.ensures.value c.if-divisor-hi.false in
    let first_fits : FitsSigned w128 c.quotient.result = search rules in
    let last_fits : FitsSigned w128 c.quotient-2.result = search rules in
    let lo_fits : FitsSigned w128 c.lo.result = search rules in
    let hi_fits : FitsSigned w128 c.hi-2.result = search rules in
    let first = simp to_z-of_z at c.quotient.ensures in
    let last = simp to_z-of_z at c.quotient-2.ensures in
    rw (same_bits_test c.quotient.result c.quotient-2.result first_fits last_fits, first, last, c.lo.ensures.value, c.hi-2.ensures.value, c.lo-divisor.ensures.value)
    (one_quotient_test c.args.self c.args.other single)
