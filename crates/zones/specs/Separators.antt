-- What stands between the hours and the minutes of an offset.
use Rattle.std.specs.Prelude.{◌≡◌, ℕ, Bool, ◌||◌, ◌⊎◌, List, Ok, Err, Result, ◌==◌}
use Rattle.scan.specs.Singles.{char_at}
use Rattle.scan.specs.declared.kind.ParseErrorKind.{ParseErrorKind}
use Rattle.scan.specs.declared.kind.ParseErrorKind.TheVariants.{Invalid, TooShort}
use Rattle.text.specs.Chars.{blank, run}

-- a refusal is Invalid or TooShort
abbrev pub Modest : Result ℕ ParseErrorKind → Type 0
Modest (Ok n) = Unit {0}
Modest (Err e) = (e ≡ Invalid) ⊎ (e ≡ TooShort)

-- a separator means what it meant, by what each state of it means
abbrev pub Unmoved : {S : Type 0} → (S → List ℕ → Result ℕ ParseErrorKind) → S → S → Type 0
Unmoved means old new = (t : List ℕ) → means new t ≡ means old t

abbrev pub nothing_at : List ℕ → Result ℕ ParseErrorKind
nothing_at t = Ok 0

abbrev pub colon_at : List ℕ → Result ℕ ParseErrorKind
colon_at t = char_at 58 t

-- a colon or a blank
abbrev pub colon_or_blank : ℕ → Bool
colon_or_blank c = c == 58 || blank c

-- how many bytes of them stand in front
unfoldable pub colon_or_space : List ℕ → ℕ
colon_or_space s = run colon_or_blank s

abbrev pub colon_or_space_at : List ℕ → Result ℕ ParseErrorKind
colon_or_space_at t = Ok (colon_or_space t)
