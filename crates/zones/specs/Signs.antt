-- The signs of an offset, by their characters.
use Rattle.std.specs.Prelude.{ℕ, cond, Some, None, Option, ◌==◌}
use Rattle.zones.specs.declared.offset.Sign.{Sign}
use Rattle.zones.specs.declared.offset.Sign.TheVariants.{Plus, HyphenMinus, MinusSign}

abbrev pub sign_of : ℕ → Option Sign
sign_of c = cond (c == 0x2b) (Some Plus) (cond (c == 0x2d) (Some HyphenMinus) (cond (c == 0x2212) (Some MinusSign) None))
