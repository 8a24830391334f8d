-- One field of a record, as it takes an offer.
use Rattle.std.specs.Prelude.{◌≡◌, ℕ, ◌+◌, Bool, true, cond, ◌&&◌, List, [], ◌∷◌, ℤ, pos, negsuc, ◌≤ℤ◌, Some, None, Option}
use Rattle.std.specs.Option.{option_map, option_or}
use Rattle.names.specs.Days.{day_number}
use Rattle.names.specs.declared.weekday.Weekday.{Weekday as WeekdayOfNames}
use Rattle.collect.specs.Fields.{fits, named}
use Rattle.collect.specs.declared.field.Field.{Field}
use Rattle.collect.specs.declared.field.Field.TheVariants.{Year, YearDiv100, YearMod100, Isoyear, IsoyearDiv100, IsoyearMod100, Quarter, Month, WeekFromSun, WeekFromMon, Isoweek, Weekday, Ordinal, Day, HourDiv12, HourMod12, Minute, Second, Nanosecond, Timestamp, Offset}
use Rattle.collect.specs.Tables.{single, met}
use Rattle.collect.specs.Judge.{Verdict, refused, by_join}

-- what is there fits its field
abbrev pub held : ℕ → Option ℤ → Bool
held f None = true
held f (Some v) = fits f v

-- the values of fields, from that of number f on, fit their fields
unfoldable pub all_fit : ℕ → List (Option ℤ) → Bool
all_fit f [] = true
all_fit f (v ∷ vs) = held f v && all_fit (f + 1) vs

-- values by number
abbrev pub counts : Option ℕ → Option ℤ
counts n = option_map pos n

abbrev pub days : Option WeekdayOfNames → Option ℤ
days d = option_map (λ x. pos (day_number x)) d

-- the field f, which held old, took the offer of v with the answer a
pub record Slotted (old : Option ℤ) (f : ℕ) (v : ℤ) (a : Verdict) (new : Option ℤ) : Type 0 where
  pub answer : a ≡ cond (fits f v) (by_join (met single old v) f) (refused 1 4 (named f))
  pub after : new ≡ cond (fits f v) (option_or (met single old v) old) old

-- the types that `Parsed` keeps values in: i32, u32, i64 and Weekday
pub data KeptAs : Type 0 where
  signed : KeptAs
  counted : KeptAs
  wide : KeptAs
  a_day : KeptAs

-- the numbers that such a type has a value for
abbrev pub Holds : KeptAs → ℤ → Type 0
Holds signed v = (negsuc 2147483647 ≤ℤ v) × (v ≤ℤ pos 2147483647)
Holds counted v = (pos 0 ≤ℤ v) × (v ≤ℤ pos 4294967295)
Holds wide v = Unit {0}
Holds a_day v = (pos 0 ≤ℤ v) × (v ≤ℤ pos 6)

abbrev pub kept_as : Field → KeptAs
kept_as Year = signed
kept_as YearDiv100 = signed
kept_as YearMod100 = signed
kept_as Isoyear = signed
kept_as IsoyearDiv100 = signed
kept_as IsoyearMod100 = signed
kept_as Quarter = counted
kept_as Month = counted
kept_as WeekFromSun = counted
kept_as WeekFromMon = counted
kept_as Isoweek = counted
kept_as Weekday = a_day
kept_as Ordinal = counted
kept_as Day = counted
kept_as HourDiv12 = counted
kept_as HourMod12 = counted
kept_as Minute = counted
kept_as Second = counted
kept_as Nanosecond = counted
kept_as Timestamp = wide
kept_as Offset = signed
