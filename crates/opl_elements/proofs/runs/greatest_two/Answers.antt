use Rattle.std.proofs.Common.{◌≡◌, ℕ, ◌+◌, ◌-◌, ◌^◌, ◌<◌, max, refl, sym, ap, ◌∙◌, arith}
use Rattle.opl_expr.specs.Sound.{var_magnitude}
use Rattle.opl_form.specs.Measures as measures
use Rattle.opl_form.specs.Nodes as making
use Rattle.opl_nodes.specs.Contexts.{sets}
use Rattle.opl_elements.specs.Runs.{run_sizes}
use Rattle.opl_elements.proofs.Differing.{two-more}
use Rattle.opl_elements.proofs.Successive.{sizes-all, sizes-more, sizes-none}
use Rattle.opl_elements.proofs.runs.greatest_two.Goals as goal

pub loop-left-init : goal.loop-left-init
loop-left-init c =
    let none = sizes-none (sets c.args.context.now) c.args.first c.args.count in
    record {
      within = omega arith;
      small = omega arith;
      greatest = sym (ap measures.greatest none);
      two = sym (ap making.two_greatest none);
    }

swapped : (a b m r : ℕ) → r ≡ max a b → b ≡ m → r ≡ max m a
swapped a b m r h k = omega (arith, h, k)

exchanged : (a b m g t r : ℕ) → r ≡ max a (b + m) → b ≡ g → a ≡ t → r ≡ max (g + m) t
exchanged a b m g t r h k l = omega (arith, h, k, l)

less : (a b r : ℕ) → r ≡ max a b → a < 2 ^ 64 → b < 2 ^ 64 → r < 2 ^ 64
less a b r h k l = omega (arith, h, k, l)

pub loop-left-preserved : goal.loop-left-preserved
loop-left-preserved c =
    let s = sets c.args.context.now in
    let x = c.args.first in
    let n = c.args.count in
    let k : ℕ = c.loop-left.left - 1 in
    let l = c.loop-left.left in
    let more = sizes-more s x n k l (omega (arith, c.loop-left-test.true, c.loop-left.invariant.within)) (omega (arith, c.loop-left-test.true)) in
    let rest = run_sizes s (x + l) (n - l) in
    record {
      within = omega (arith, c.loop-left.invariant.within);
      small = less c.loop-left.greatest c.magnitude-size.result c.larger-greatest.result c.larger-greatest.ensures c.loop-left.invariant.small c.magnitude-size.ensures.small;
      greatest =
          swapped c.loop-left.greatest c.magnitude-size.result (var_magnitude s (x + k)) c.larger-greatest.result c.larger-greatest.ensures c.magnitude-size.ensures.size
          ∙ ap (max (var_magnitude s (x + k))) c.loop-left.invariant.greatest ∙ sym (ap measures.greatest more);
      two =
          exchanged c.loop-left.two c.magnitude-size.result c.loop-left.greatest (var_magnitude s (x + k)) c.loop-left.two c.larger-two.result c.larger-two.ensures c.magnitude-size.ensures.size refl
          ∙ (λ i. max (var_magnitude s (x + k) + c.loop-left.invariant.greatest i) (c.loop-left.invariant.two i))
          ∙ sym (ap making.two_greatest more ∙ two-more (var_magnitude s (x + k)) rest);
    }

pub returns : goal.returns
returns c =
    let all = sizes-all (sets c.args.context.now) c.args.first c.args.count c.loop-left.left (omega (arith, c.loop-left-test.false)) in
    record {
      greatest = c.loop-left.invariant.greatest ∙ ap measures.greatest all;
      two = c.loop-left.invariant.two ∙ ap making.two_greatest all;
    }
