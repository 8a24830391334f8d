-- One given byte; blanks, at least one.
use Rattle.std.specs.Prelude.{ℕ, cond, List, [], ◌∷◌, Ok, Err, Result, ◌==◌}
use Rattle.scan.specs.declared.kind.ParseErrorKind.{ParseErrorKind}
use Rattle.scan.specs.declared.kind.ParseErrorKind.TheVariants.{Invalid, TooShort}
use Rattle.text.specs.Chars.{blanks_at}

unfoldable pub char_at : ℕ → List ℕ → Result ℕ ParseErrorKind
char_at c [] = Err TooShort
char_at c (b ∷ bs) = cond (b == c) (Ok 1) (Err Invalid)

unfoldable pub space_at : List ℕ → Result ℕ ParseErrorKind
space_at [] = Err TooShort
space_at (b ∷ bs) = cond (blanks_at (b ∷ bs) == 0) (Err Invalid) (Ok (blanks_at (b ∷ bs)))
