-- The days of the week, by number and as text.
use Rattle.std.specs.Prelude.{◌≡◌, ℕ, ◌≤◌, List, [], ◌∷◌, Ok, Err, codes, Result, slice_index_or}
use Rattle.scan.specs.declared.kind.ParseErrorKind.{ParseErrorKind}
use Rattle.scan.specs.declared.kind.ParseErrorKind.TheVariants.{OutOfRange}
use Rattle.names.specs.declared.weekday.Weekday.{Weekday}
use Rattle.names.specs.declared.weekday.Weekday.TheVariants.{Mon, Tue, Wed, Thu, Fri, Sat, Sun}

-- the days since Monday
abbrev pub day_number : Weekday → ℕ
day_number Mon = 0
day_number Tue = 1
day_number Wed = 2
day_number Thu = 3
day_number Fri = 4
day_number Sat = 5
day_number Sun = 6

-- the day of a number below 7
abbrev pub weekday_of : ℕ → Weekday
weekday_of n = slice_index_or (Mon ∷ Tue ∷ Wed ∷ Thu ∷ Fri ∷ Sat ∷ Sun ∷ []) n Sun

-- a number is read as the day of that number, and from 7 on it is out of range
abbrev pub DayRead : ℕ → Result Weekday ParseErrorKind → Type 0
DayRead n (Ok d) = day_number d ≡ n
DayRead n (Err e) = (7 ≤ n) × (e ≡ OutOfRange)

-- how a day is written
abbrev pub day_text : Weekday → List ℕ
day_text Mon = codes "Mon"
day_text Tue = codes "Tue"
day_text Wed = codes "Wed"
day_text Thu = codes "Thu"
day_text Fri = codes "Fri"
day_text Sat = codes "Sat"
day_text Sun = codes "Sun"
