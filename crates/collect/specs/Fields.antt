-- The fields of a record: numbers, names, and the values that each may hold.
use Rattle.std.specs.Prelude.{ℕ, Bool, false, cond, ◌&&◌, List, [], ◌∷◌, ℤ, pos, negsuc, is_some, Some, None, codes, Option, int_le, slice_index_or}
use Rattle.collect.specs.declared.field.Field.{Field}
use Rattle.collect.specs.declared.field.Field.TheVariants.{Year, YearDiv100, YearMod100, Isoyear, IsoyearDiv100, IsoyearMod100, Quarter, Month, WeekFromSun, WeekFromMon, Isoweek, Weekday, Ordinal, Day, HourDiv12, HourMod12, Minute, Second, Nanosecond, Timestamp, Offset}

abbrev pub field_number : Field → ℕ
field_number Year = 1
field_number YearDiv100 = 2
field_number YearMod100 = 3
field_number Isoyear = 4
field_number IsoyearDiv100 = 5
field_number IsoyearMod100 = 6
field_number Quarter = 7
field_number Month = 8
field_number WeekFromSun = 9
field_number WeekFromMon = 10
field_number Isoweek = 11
field_number Weekday = 12
field_number Ordinal = 13
field_number Day = 14
field_number HourDiv12 = 15
field_number HourMod12 = 16
field_number Minute = 17
field_number Second = 18
field_number Nanosecond = 19
field_number Timestamp = 20
field_number Offset = 21

abbrev pub field_name : Field → List ℕ
field_name Year = codes "year"
field_name YearDiv100 = codes "year_div_100"
field_name YearMod100 = codes "year_mod_100"
field_name Isoyear = codes "isoyear"
field_name IsoyearDiv100 = codes "isoyear_div_100"
field_name IsoyearMod100 = codes "isoyear_mod_100"
field_name Quarter = codes "quarter"
field_name Month = codes "month"
field_name WeekFromSun = codes "week_from_sun"
field_name WeekFromMon = codes "week_from_mon"
field_name Isoweek = codes "isoweek"
field_name Weekday = codes "weekday"
field_name Ordinal = codes "ordinal"
field_name Day = codes "day"
field_name HourDiv12 = codes "hour_div_12"
field_name HourMod12 = codes "hour_mod_12"
field_name Minute = codes "minute"
field_name Second = codes "second"
field_name Nanosecond = codes "nanosecond"
field_name Timestamp = codes "timestamp"
field_name Offset = codes "offset"

-- the least and the largest value
abbrev pub from_to : ℤ → ℤ → Option (ℤ × ℤ)
from_to low high = Some (low, high)

-- by the number of the field; 0 is the number of none
abbrev pub ranges : List (Option (ℤ × ℤ))
ranges =
    None ∷
    -- 1 year
    from_to (negsuc 2147483647) (pos 2147483647) ∷
    -- 2 year_div_100
    from_to (pos 0) (pos 2147483647) ∷
    -- 3 year_mod_100
    from_to (pos 0) (pos 99) ∷
    -- 4 isoyear
    from_to (negsuc 2147483647) (pos 2147483647) ∷
    -- 5 isoyear_div_100
    from_to (pos 0) (pos 2147483647) ∷
    -- 6 isoyear_mod_100
    from_to (pos 0) (pos 99) ∷
    -- 7 quarter
    from_to (pos 1) (pos 4) ∷
    -- 8 month
    from_to (pos 1) (pos 12) ∷
    -- 9 week_from_sun
    from_to (pos 0) (pos 53) ∷
    -- 10 week_from_mon
    from_to (pos 0) (pos 53) ∷
    -- 11 isoweek
    from_to (pos 1) (pos 53) ∷
    -- 12 weekday
    from_to (pos 0) (pos 6) ∷
    -- 13 ordinal
    from_to (pos 1) (pos 366) ∷
    -- 14 day
    from_to (pos 1) (pos 31) ∷
    -- 15 hour_div_12
    from_to (pos 0) (pos 1) ∷
    -- 16 hour_mod_12
    from_to (pos 0) (pos 11) ∷
    -- 17 minute
    from_to (pos 0) (pos 59) ∷
    -- 18 second
    from_to (pos 0) (pos 60) ∷
    -- 19 nanosecond
    from_to (pos 0) (pos 999999999) ∷
    -- 20 timestamp
    from_to (negsuc 9223372036854775807) (pos 9223372036854775807) ∷
    -- 21 offset
    from_to (negsuc 2147483647) (pos 2147483647) ∷
    []

-- The values that the field of a number may hold, from the least to the largest: none for the number of no field.
unfoldable pub range : ℕ → Option (ℤ × ℤ)
range n = slice_index_or ranges n None

abbrev pub within : Option (ℤ × ℤ) → ℤ → Bool
within None v = false
within (Some r) v = int_le r.0 v && int_le v r.1

-- may the field of this number hold the value?
abbrev pub fits : ℕ → ℤ → Bool
fits n v = within (range n) v

-- the number by which a refusal names a field: 0 for a number of no field
abbrev pub named : ℕ → ℕ
named n = cond (is_some (range n)) n 0
