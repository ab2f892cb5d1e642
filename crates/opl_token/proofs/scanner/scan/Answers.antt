use Rattle.std.proofs.Common.{◌≡◌, ◌<◌, ℕ, ◌+◌, length, drop, Some, ap, sym, ◌∙◌, subst, arith, List}
use Rattle.opl_token.specs.Longest.{gap_len, lexeme_at}
use Rattle.opl_token.specs.Scan.{fault_at, StopsAt}
use Rattle.opl_token.proofs.Lexemes.{found_within}
use Rattle.opl_token.proofs.Lists.{rest_of}
use Rattle.opl_token.proofs.Scanning.{SoFar, gap_more, lexeme_more, stop, faults}
use Rattle.opl_token.proofs.scanner.scan.Goals as goal

-- behind a blank or a comment
skipped : (c : goal.Then-gap-gt0) → SoFar c.args.bytes.now (c.loop-at.at + c.gap_len-gap.result) c.loop-at.tokens.items
skipped c =
    let gap : gap_len (drop c.loop-at.at c.args.bytes.now) ≡ c.gap_len-gap.result = ap gap_len (sym (rest_of c.loop-at.at c.args.bytes.now)) ∙ sym c.gap_len-gap.ensures in
    let some : 0 < c.gap_len-gap.result = c.if-gap-gt0.true in
    subst (λ n. SoFar c.args.bytes.now (c.loop-at.at + n) c.loop-at.tokens.items) gap
    (gap_more c.args.bytes.now c.loop-at.at c.loop-at.tokens.items c.loop-at.invariant (omega arith))

pub overflow_add-at : goal.overflow_add-at
overflow_add-at c = let so_far : SoFar c.args.bytes.now (c.loop-at.at + c.gap_len-gap.result) c.loop-at.tokens.items = skipped c in omega (arith, so_far.within, c.requires)

pub loop-at-preserved-then-gap-gt0 : goal.loop-at-preserved-then-gap-gt0
loop-at-preserved-then-gap-gt0 c = skipped c

pub returns-in_default : goal.returns-in_default
returns-in_default c =
    let at : ℕ = c.loop-at.at in
    let bytes : List ℕ = c.args.bytes.now in
    let gap : gap_len (drop at bytes) ≡ c.gap_len-gap.result = ap gap_len (sym (rest_of at bytes)) ∙ sym c.gap_len-gap.ensures in
    let none : gap_len (drop at bytes) ≡ 0 = gap ∙ omega (arith, c.if-gap-gt0.false) in
    let no_lexeme = ap lexeme_at (sym (rest_of at bytes)) ∙ sym c.in_ok-kind.ensures ∙ c.in_default.is in
    let stopped : StopsAt bytes (fault_at at (drop at bytes)) = stop bytes at c.loop-at.tokens.items c.loop-at.invariant c.loop-at-test.true none no_lexeme in
    faults bytes c.fault_at.result (subst (StopsAt bytes) (ap (fault_at at) (sym (rest_of at bytes)) ∙ sym c.fault_at.ensures) stopped)

found : (c : goal.In_ok-push) → lexeme_at (drop c.loop-at.at c.args.bytes.now) ≡ Some c.in-Some.field-0
found c = ap lexeme_at (sym (rest_of c.loop-at.at c.args.bytes.now)) ∙ sym c.in_ok-kind.ensures ∙ c.in-Some.is

-- behind a lexeme
more : (c : goal.In_ok-push) → SoFar c.args.bytes.now (c.loop-at.at + c.in-Some.field-0.len) c.push.new.self.items
more c = rw c.in_ok-push.ensures.items (lexeme_more c.args.bytes.now c.loop-at.at c.loop-at.tokens.items c.in-Some.field-0 c.loop-at.invariant (found c))

pub overflow_add-at-else-gap-gt0 : goal.overflow_add-at-else-gap-gt0
overflow_add-at-else-gap-gt0 c = let so_far : SoFar c.args.bytes.now (c.loop-at.at + c.in-Some.field-0.len) c.push.new.self.items = more c in omega (arith, so_far.within, c.requires)

pub loop-at-smaller : goal.loop-at-smaller
loop-at-smaller c =
    let within = found_within (drop c.loop-at.at c.args.bytes.now) c.in-Some.field-0 (found c) in
    let inside : c.loop-at.at < length c.args.bytes.now = c.loop-at-test.true in
    omega (arith, within.0)

pub loop-at-preserved : goal.loop-at-preserved
loop-at-preserved c = more c
