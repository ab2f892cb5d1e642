use Rattle.std.proofs.Common.{◌≡◌, ◌+◌, ◌-◌, ◌^◌, ◌∙◌, ℕ, arith, ap}
use Rattle.std.proofs.lemmas.Nat.Bits.{ones_shl, ones_shr}
use Rattle.opl_trail.proofs.Words.{mask_is}
use Rattle.opl_trail.proofs.scan.mask.Goals as goal

pub returns : goal.returns
returns c =
    let low = c.low_bit.result in
    let high = c.high_bit.result in
    let e : 64 - (63 - high) ≡ high + 1 = omega (arith, c.high_bit.ensures.high) in
    let r = ones_shr 64 (63 - high) (omega arith) ∙ ap (λ (n : ℕ). 2 ^ n - 1) e in
    rw (ones_shl 64 low (omega (arith, c.low_bit.ensures.low)), r) (mask_is c.args.place c.args.first c.args.last low high c.low_bit.ensures.low c.high_bit.ensures.high c.low_bit.ensures.bits c.high_bit.ensures.bits)
