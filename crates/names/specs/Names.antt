-- English names in front of a text, ASCII case ignored. A name's short form is its first three letters.
use Rattle.std.specs.Prelude.{ℕ, Bool, cond, ◌&&◌, List, [], ◌∷◌, map, length, take, Ok, Err, codes, Result, IsTrue, nat_le, nat_lt}
use Rattle.std.specs.Borrow.{Bor}
use Rattle.std.specs.Char.{is_ascii}
use Rattle.std.specs.List.{list_all, find, zip, range_with_len}
use Rattle.std.specs.Option.{ok_or}
use Rattle.scan.specs.Letters.{alike}
use Rattle.scan.specs.Steps.{bind}
use Rattle.scan.specs.declared.kind.ParseErrorKind.{ParseErrorKind}
use Rattle.scan.specs.declared.kind.ParseErrorKind.TheVariants.{Invalid, TooShort}
use Rattle.names.specs.declared.weekday.Weekday.{Weekday}
use Rattle.names.specs.Days.{weekday_of}

abbrev pub month_names : List (List ℕ)
month_names =
    codes "january" ∷ codes "february" ∷ codes "march" ∷ codes "april" ∷ codes "may" ∷ codes "june" ∷ codes "july" ∷ codes "august"
    ∷ codes "september" ∷ codes "october" ∷ codes "november" ∷ codes "december" ∷ []

abbrev pub day_names : List (List ℕ)
day_names =
    codes "monday" ∷ codes "tuesday" ∷ codes "wednesday" ∷ codes "thursday" ∷ codes "friday" ∷ codes "saturday" ∷ codes "sunday" ∷ []

-- the tables: each name with its month, counted from 0, and with its day of the week
abbrev pub months : List (List ℕ × ℕ)
months = zip month_names (range_with_len 0 12)

abbrev pub weekdays : List (List ℕ × Weekday)
weekdays = zip day_names (map weekday_of (range_with_len 0 7))

abbrev pub names_of : {A : Type 0} → List (List ℕ × A) → List (List ℕ)
names_of es = map (λ e. e.0) es

-- what a table of references to names says, and an entry of it
abbrev pub entries : {A : Type 0} → List (Bor (List ℕ) × A) → List (List ℕ × A)
entries es = map (λ e. (e.0.now, e.1)) es

abbrev pub said : {A : Type 0} → Result (Bor (List ℕ) × A) ParseErrorKind → Result (List ℕ × A) ParseErrorKind
said r = bind r (λ e. Ok (e.0.now, e.1))

-- the text begins with the letters of the word
unfoldable pub begins_alike : List ℕ → List ℕ → Bool
begins_alike w s = alike (take (length w) s) w

-- names, which are ASCII and have three letters at least
abbrev pub is_name : List ℕ → Bool
is_name n = list_all is_ascii n && nat_le 3 (length n)

abbrev pub AreNames : List (List ℕ) → Type 0
AreNames ns = IsTrue (list_all is_name ns)

-- the first entry whose short form the text begins with, for which it needs three bytes
unfoldable pub entry_at : {A : Type 0} → List (List ℕ × A) → List ℕ → Result (List ℕ × A) ParseErrorKind
entry_at es s = cond (nat_lt (length s) 3) (Err TooShort) (ok_or (find (λ e. begins_alike (take 3 e.0) s) es) Invalid)

-- its value, by the short form of its name
unfoldable pub short_at : {A : Type 0} → List (List ℕ × A) → List ℕ → Result (A × ℕ) ParseErrorKind
short_at es s = bind (entry_at es s) (λ e. Ok (e.1, 3))

-- the bytes of a name whose short form is there: all of them, where the text begins with all of the name
abbrev pub taken : List ℕ → List ℕ → ℕ
taken n s = cond (begins_alike n s) (length n) 3

-- the same, and all of the name is taken where all of it is there
unfoldable pub short_or_long_at : {A : Type 0} → List (List ℕ × A) → List ℕ → Result (A × ℕ) ParseErrorKind
short_or_long_at es s = bind (entry_at es s) (λ e. Ok (e.1, taken e.0 s))

-- a month, and a day of the week
unfoldable pub short_month0_at : List ℕ → Result (ℕ × ℕ) ParseErrorKind
short_month0_at s = short_at months s

unfoldable pub short_weekday_at : List ℕ → Result (Weekday × ℕ) ParseErrorKind
short_weekday_at s = short_at weekdays s

unfoldable pub short_or_long_month0_at : List ℕ → Result (ℕ × ℕ) ParseErrorKind
short_or_long_month0_at s = short_or_long_at months s

unfoldable pub short_or_long_weekday_at : List ℕ → Result (Weekday × ℕ) ParseErrorKind
short_or_long_weekday_at s = short_or_long_at weekdays s
