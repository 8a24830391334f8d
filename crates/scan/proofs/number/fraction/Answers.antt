use Rattle.std.proofs.Common.{◌*◌, ◌<◌, get_or, nat_abs, arith, w64, SFits, to_z, of_z, rules}
use Rattle.std.proofs.lemmas.Result.{err_from_is_err_and, IfOk-from_err}
use Rattle.std.proofs.lemmas.Int.{to_z-of_z}
use Rattle.scan.proofs.Fractions.{scale, fraction_ok, fraction_err}
use Rattle.scan.proofs.Leaves.{exits}
use Rattle.scan.proofs.number.fraction.Goals as goal

pub returns-in_err-v : goal.returns-in_err-v
returns-in_err-v c =
    let p = err_from_is_err_and c.from_residual.result c.from_residual.ensures.1 in
    record {
      value = exits _ _ p.0 c.in_err-v.field-0.0 p.1 p.2 (fraction_err c.args.min c.args.max c.args.s.now _ c.in_err-v.ensures.value);
      cut = IfOk-from_err _ _ c.from_residual.ensures.0;
      bound = IfOk-from_err _ _ c.from_residual.ensures.0;
    }

pub overflow_mul-result : goal.overflow_mul-result
overflow_mul-result c =
    let f : SFits w64 c.in_ok-v.v = search rules in
    let e = c.in_ok-v.ensures in
    let p = fraction_ok c.args.min c.args.max c.args.s.now c.in_ok-v.v c.in_ok-v.n c.requires e.value e.written in
    let b : nat_abs (to_z w64 (of_z w64 c.in_ok-v.v)) * get_or scale c.in_ok-v.n 0 < 1000000000 = simp to_z-of_z p.1 in
    record { fits = omega arith }

pub returns : goal.returns
returns c =
    let f : SFits w64 c.in_ok-v.v = search rules in
    let e = c.in_ok-v.ensures in
    let p = fraction_ok c.args.min c.args.max c.args.s.now c.in_ok-v.v c.in_ok-v.n c.requires e.value e.written in
    record { value = simp to_z-of_z p.0; cut = e.cut; bound = simp to_z-of_z p.1 }
