-- Offsets from UTC as numbers: a sign, hours, and minutes and seconds behind a separator.
use Rattle.std.specs.Prelude.{ℕ, ◌+◌, ◌-◌, ◌*◌, Bool, true, false, cond, ◌&&◌, ◌||◌, List, [], ◌∷◌, drop, ℤ, pos, neg_ℤ, Some, None, Ok, Err, Option, Result, ◌==◌}
use Rattle.scan.specs.Steps.{bind}
use Rattle.scan.specs.declared.kind.ParseErrorKind.{ParseErrorKind}
use Rattle.scan.specs.declared.kind.ParseErrorKind.TheVariants.{OutOfRange, Invalid, TooShort}
use Rattle.std.specs.Int.{is_in_range}
use Rattle.std.specs.Char.{is_ascii_digit}
use Rattle.text.specs.Chars.{first_char}

-- a sign by its character: is it negative, and how many bytes has it? '+', '-' or, if allowed, MINUS SIGN (U+2212)
abbrev pub sign_by : Bool → Option ℕ → Result (Bool × ℕ) ParseErrorKind
sign_by minus None = Err Invalid
sign_by minus (Some c) =
    cond (c == 0x2b) (Ok (false, 1)) (cond (c == 0x2d) (Ok (true, 1)) (cond (c == 0x2212 && minus) (Ok (true, 3)) (Err Invalid)))

unfoldable pub sign_at : Bool → List ℕ → Result (Bool × ℕ) ParseErrorKind
sign_at minus [] = Err TooShort
sign_at minus (b ∷ bs) = sign_by minus (first_char (b ∷ bs))

-- the number that two digits write
abbrev pub pair : ℕ → ℕ → ℕ
pair a b = (a - 48) * 10 + (b - 48)

-- hours, 00 to 99
unfoldable pub hours_at : List ℕ → Result ℕ ParseErrorKind
hours_at [] = Err TooShort
hours_at (a ∷ []) = Err TooShort
hours_at (a ∷ b ∷ bs) = cond (is_ascii_digit a && is_ascii_digit b) (Ok (pair a b)) (Err Invalid)

-- minutes, 00 to 59, with the count of bytes; where they may be missing, nothing left stands for 0
unfoldable pub minutes_at : Bool → List ℕ → Result (ℕ × ℕ) ParseErrorKind
minutes_at missing [] = cond missing (Ok (0, 0)) (Err TooShort)
minutes_at missing (a ∷ []) = Err TooShort
minutes_at missing (a ∷ b ∷ bs) =
    cond (is_ascii_digit b) (cond (is_in_range 48 53 a) (Ok (pair a b, 2)) (cond (is_in_range 54 57 a) (Err OutOfRange) (Err Invalid))) (Err Invalid)

-- a separator by its meaning: one answer for each text
abbrev pub Meaning : Type 0
Meaning = List ℕ → Result ℕ ParseErrorKind

-- a separator, and then minutes
unfoldable pub separated_at : Meaning → Bool → List ℕ → Result (ℕ × ℕ) ParseErrorKind
separated_at sep missing s = bind (sep s) (λ k. bind (minutes_at missing (drop k s)) (λ m. Ok (m.0, k + m.1)))

-- a sign and hours: is it negative, the hours, and the count of bytes
unfoldable pub signed_hours_at : Bool → List ℕ → Result (Bool × ℕ × ℕ) ParseErrorKind
signed_hours_at minus s = bind (sign_at minus s) (λ g. bind (hours_at (drop g.1 s)) (λ h. Ok (g.0, h, g.1 + 2)))

abbrev pub signed : Bool → ℕ → ℤ
signed true n = neg_ℤ (pos n)
signed false n = pos n

-- Z or z
abbrev pub zulu_at : List ℕ → Bool
zulu_at [] = false
zulu_at (b ∷ bs) = b == 90 || b == 122

-- hours and minutes, in seconds
unfoldable pub numeric_at : Meaning → Bool → Bool → List ℕ → Result (ℤ × ℕ) ParseErrorKind
numeric_at sep missing minus s =
    bind (signed_hours_at minus s)
    (λ h. bind (separated_at sep missing (drop h.2 s)) (λ m. Ok (signed h.0 (h.1 * 3600 + m.0 * 60), h.2 + m.1)))

-- the same, or Z where it is allowed
unfoldable pub offset_at : Meaning → Bool → Bool → Bool → List ℕ → Result (ℤ × ℕ) ParseErrorKind
offset_at sep zulu missing minus s = cond (zulu && zulu_at s) (Ok (pos 0, 1)) (numeric_at sep missing minus s)

-- hours, minutes and seconds: the separator runs again, and seconds are taken as minutes are
unfoldable pub double_colon_at : Meaning → Bool → List ℕ → Result (ℤ × ℕ) ParseErrorKind
double_colon_at sep minus s =
    bind (signed_hours_at minus s)
    (λ h. bind (separated_at sep false (drop h.2 s))
    (λ m. bind (separated_at sep false (drop (h.2 + m.1) s))
    (λ t. Ok (signed h.0 (h.1 * 3600 + m.0 * 60 + t.0), h.2 + m.1 + t.1))))

-- hours alone
unfoldable pub triple_colon_at : Bool → List ℕ → Result (ℤ × ℕ) ParseErrorKind
triple_colon_at minus s = bind (signed_hours_at minus s) (λ h. Ok (signed h.0 (h.1 * 3600), h.2))
