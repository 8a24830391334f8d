-- Digits in front: a number, a fraction of a second, a year of mail.
use Rattle.std.specs.Prelude.{◌≡◌, ℕ, ◌+◌, ◌-◌, ◌*◌, ◌^◌, ◌<◌, ◌≤◌, Bool, cond, ◌&&◌, List, [], ◌∷◌, length, take, drop, ℤ, pos, ◌+ℤ◌, Ok, Err, Result, ◌==◌, int_le, nat_le, nat_lt}
use Rattle.std.specs.List.{prefix_len}
use Rattle.std.specs.Str.Parse.{AllDigits, digits_value}
use Rattle.std.specs.Char.{is_ascii_digit}
use Rattle.scan.specs.declared.kind.ParseErrorKind.{ParseErrorKind}
use Rattle.scan.specs.declared.kind.ParseErrorKind.TheVariants.{OutOfRange, Invalid, TooShort}
use Rattle.scan.specs.Steps.{bind}

-- the largest number of 64 bits with a sign
abbrev pub largest : ℕ
largest = 9223372036854775807

-- The digits in front, from the left: v is the value of the n digits before.
-- It stops at `most` digits or at another byte, of which `least` digits must stand in front.
abbrev pub numeral_from : ℕ → ℕ → ℕ → ℕ → List ℕ → Result (ℕ × ℕ) ParseErrorKind
numeral_from least most v n [] = Ok (v, n)
numeral_from least most v n (b ∷ bs) =
    cond (nat_le most n) (Ok (v, n))
    (cond (is_ascii_digit b)
    (cond (nat_le (v * 10 + (b - 48)) largest) (numeral_from least most (v * 10 + (b - 48)) (n + 1) bs) (Err OutOfRange))
    (cond (nat_lt n least) (Err Invalid) (Ok (v, n))))

-- a number of `least` to `most` digits, with the count of them
unfoldable pub numeral_at : ℕ → ℕ → List ℕ → Result (ℕ × ℕ) ParseErrorKind
numeral_at least most s = cond (nat_lt (length s) least) (Err TooShort) (numeral_from least most 0 0 s)

abbrev pub as_integer : Result (ℕ × ℕ) ParseErrorKind → Result (ℤ × ℕ) ParseErrorKind
as_integer (Ok p) = Ok (pos p.0, p.1)
as_integer (Err e) = Err e

abbrev pub number_at : ℕ → ℕ → List ℕ → Result (ℤ × ℕ) ParseErrorKind
number_at least most s = as_integer (numeral_at least most s)

-- z is the decimal value of the first n bytes of s, which are digits, and no more than `most`
pub record Written (most : ℕ) (s : List ℕ) (z : ℤ) (n : ℕ) : Type 0 where
  pub number : ℕ
  pub is : z ≡ pos number
  pub digits : AllDigits 10 (take n s)
  pub decimal : number ≡ digits_value 10 (take n s)
  pub small : number < 10 ^ n
  pub few : n ≤ most

-- how many digits stand in front
abbrev pub digits_at : List ℕ → ℕ
digits_at s = prefix_len is_ascii_digit s

-- a fraction of a second of `least` to `most` digits, as nanoseconds: nine digits stand for them as they are
unfoldable pub fraction_at : ℕ → ℕ → List ℕ → Result (ℕ × ℕ) ParseErrorKind
fraction_at least most s = bind (numeral_at least most s) (λ p. Ok (p.0 * 10 ^ (9 - p.1), p.1))

-- one to nine digits; the digits behind the ninth are taken too, and dropped
unfoldable pub nanosecond_at : List ℕ → Result (ℕ × ℕ) ParseErrorKind
nanosecond_at s = bind (fraction_at 1 9 s) (λ p. Ok (p.0, p.1 + digits_at (drop p.1 s)))

-- exactly so many digits
unfoldable pub nanosecond_fixed_at : ℕ → List ℕ → Result (ℤ × ℕ) ParseErrorKind
nanosecond_fixed_at digits s = as_integer (fraction_at digits digits s)

-- RFC 2822, section 4.3: a year of two digits of value 0 to 49 stands for 2000 more; one of two digits above that, or of three digits, for 1900 more.
-- A value that so many digits cannot write stays as it is.
abbrev pub from_to : ℕ → ℕ → ℤ → Bool
from_to lo hi y = int_le (pos lo) y && int_le y (pos hi)

abbrev pub mail_year : ℕ → ℤ → ℤ
mail_year digits y =
    cond (digits == 2) (cond (from_to 0 49 y) (y +ℤ pos 2000) (cond (from_to 50 99 y) (y +ℤ pos 1900) y))
    (cond (digits == 3) (cond (from_to 0 999 y) (y +ℤ pos 1900) y) y)

-- the largest count of bytes
abbrev pub unlimited : ℕ
unlimited = 18446744073709551615

-- the year of a mail's date: two digits or more
unfoldable pub year_2822_at : List ℕ → Result (ℤ × ℕ) ParseErrorKind
year_2822_at s = bind (number_at 2 unlimited s) (λ p. Ok (mail_year p.1 p.0, p.1))
