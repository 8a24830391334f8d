use Rattle.std.proofs.Common.{arith}
use Rattle.std.proofs.lemmas.Bool.{ltb-false}
use Rattle.std.proofs.lemmas.Bool.Decides.{nat_tests}
use Rattle.text.proofs.Cutting.{cut_after}
use Rattle.scan.proofs.single.char.Goals as goal

pub returns-in-len1-up-clause-cut : goal.returns-in-len1-up-clause-cut
returns-in-len1-up-clause-cut c = λ k. cut_after c.args.s.now 0 (omega (arith, ltb-false)) (grind (arith, nat_tests))
