-- The digits of a fraction of a second.
use Rattle.std.specs.Prelude.{ℕ}
use Rattle.scan.specs.declared.number.Precision.{Precision}
use Rattle.scan.specs.declared.number.Precision.TheVariants.{Milli, Micro, Nano}

abbrev pub digits_of : Precision → ℕ
digits_of Milli = 3
digits_of Micro = 6
digits_of Nano = 9
