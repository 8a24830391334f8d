use Rattle.std.proofs.Common.{ℕ, ◌≡◌, true, false, ltb, arith, ℤ, rules, Err, Result}
use Rattle.std.proofs.lemmas.Bool.Decides.{nat_tests}
use Rattle.std.proofs.lemmas.Result.{err_from_is_err_and}
use Rattle.scan.specs.declared.kind.ParseErrorKind.{ParseErrorKind}
use Rattle.scan.specs.declared.kind.ParseErrorKind.TheVariants.{OutOfRange}
use Rattle.scan.proofs.Digits.{too_short, starts, turn, full, ends, digit, number_kept}
use Rattle.scan.proofs.Leaves.{exits}
use Rattle.scan.proofs.number.number.Goals as goal

pub returns-then-s-min-clause-value : goal.returns-then-s-min-clause-value
returns-then-s-min-clause-value c = too_short c.args.min c.args.max c.args.s.now c.if-s-min.true

pub loop-i-init : goal.loop-i-init
loop-i-init c = starts c.args.min c.args.max c.args.s.now c.if-s-min.false

pub returns-then-i-max : goal.returns-then-i-max
returns-then-i-max c =
    let e = full c.loop-i.invariant c.loop-i-test.true c.if-i-max.true in
    let p = number_kept _ _ _ _ e in
    record { value = e; cut = p.0; written = p.1 }

pub returns-then-i-min-clause-value : goal.returns-then-i-min-clause-value
returns-then-i-min-clause-value c =
    let k : ltb c.loop-i.i c.args.min ≡ true = grind (arith, nat_tests, c.if-i-min.true) in
    rw (← c.if-not-is_ascii_digit.ensures.value, k) at (turn c.loop-i.invariant c.loop-i-test.true c.if-i-max.false)

pub returns-else-i-min : goal.returns-else-i-min
returns-else-i-min c =
    let k : ltb c.loop-i.i c.args.min ≡ false = grind (arith, nat_tests, c.if-i-min.false) in
    let e = rw (← c.if-not-is_ascii_digit.ensures.value, k, ← c.loop-i.invariant.is) at (turn c.loop-i.invariant c.loop-i-test.true c.if-i-max.false) in
    let p = number_kept _ _ _ _ e in
    record { value = e; cut = p.0; written = p.1 }

pub returns-in_err-n-clause-value : goal.returns-in_err-n-clause-value
returns-in_err-n-clause-value c =
    let n = c.in_err-n.ensures in
    let e = rw n.ok_part at (digit c.loop-i.invariant _ c.and_then.result c.loop-i-test.true c.if-i-max.false c.if-not-is_ascii_digit.ensures.value c.checked_mul.ensures (search rules)) in
    let p = err_from_is_err_and c.from_residual.result c.from_residual.ensures.1 in
    let o : ◌≡◌ {A = Result ℤ ParseErrorKind} (Err c.in_err-n.field-0.0) (Err OutOfRange) = rw n.ok_part at n.value in
    exits {A = ℤ × ℕ} _ _ p.0 OutOfRange p.1 (cc) e

pub loop-i-preserved : goal.loop-i-preserved
loop-i-preserved c =
    rw c.in_ok-n.ensures.ok_part at (digit c.loop-i.invariant _ c.and_then.result c.loop-i-test.true c.if-i-max.false c.if-not-is_ascii_digit.ensures.value c.checked_mul.ensures (search rules))

pub returns : goal.returns
returns c =
    let e = ends c.loop-i.invariant (search rules) in
    let p = number_kept _ _ _ _ e in
    record { value = e; cut = p.0; written = p.1 }
