-- The names of the setters.
use Rattle.std.specs.Prelude.{ℕ, List, codes}
use Rattle.setters.specs.declared.setter.Setter.{Setter}
use Rattle.setters.specs.declared.setter.Setter.TheVariants.{Year, YearDiv100, YearMod100, Isoyear, IsoyearDiv100, IsoyearMod100, Quarter, Month, WeekFromSun, WeekFromMon, Isoweek, Weekday, Ordinal, Day, Ampm, Hour12, Hour, Minute, Second, Nanosecond, Timestamp, Offset}

abbrev pub setter_name : Setter → List ℕ
setter_name Year = codes "year"
setter_name YearDiv100 = codes "year_div_100"
setter_name YearMod100 = codes "year_mod_100"
setter_name Isoyear = codes "isoyear"
setter_name IsoyearDiv100 = codes "isoyear_div_100"
setter_name IsoyearMod100 = codes "isoyear_mod_100"
setter_name Quarter = codes "quarter"
setter_name Month = codes "month"
setter_name WeekFromSun = codes "week_from_sun"
setter_name WeekFromMon = codes "week_from_mon"
setter_name Isoweek = codes "isoweek"
setter_name Weekday = codes "weekday"
setter_name Ordinal = codes "ordinal"
setter_name Day = codes "day"
setter_name Ampm = codes "ampm"
setter_name Hour12 = codes "hour12"
setter_name Hour = codes "hour"
setter_name Minute = codes "minute"
setter_name Second = codes "second"
setter_name Nanosecond = codes "nanosecond"
setter_name Timestamp = codes "timestamp"
setter_name Offset = codes "offset"
