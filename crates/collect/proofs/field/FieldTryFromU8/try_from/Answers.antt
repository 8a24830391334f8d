use Rattle.std.proofs.Common.{◌≡◌, refl, ⊎_elim, arith}
use Rattle.std.proofs.lemmas.Bool.{cases_lt}
use Rattle.collect.specs.Fields.{range}
use Rattle.collect.proofs.Ranges.{beyond}
use Rattle.collect.proofs.field.FieldTryFromU8.try_from.Goals as goal

pub returns-in_default : goal.returns-in_default
unfolding range
returns-in_default c = (
  ⊎_elim (λ h. let z : c.args.number ≡ 0 = omega arith in rw z refl)
      (beyond c.args.number) (cases_lt c.args.number 22),
  c.no_field.ensures,
)
