-- What the setters offer, and how they end.
use Rattle.std.specs.Prelude.{◌/◌, ◌%◌, cond, ◌&&◌, [], ◌∷◌, ℤ, pos, negsuc, Some, None, Option, ◌==◌, nat_le, nat_lt}
use Rattle.collect.specs.Fields.{field_number}
use Rattle.collect.specs.Readings.{Offer, granted, fault, Reading}
use Rattle.collect.specs.declared.field.Field.{Field}
use Rattle.collect.specs.declared.field.Field.TheVariants as field
use Rattle.setters.specs.declared.setter.Setter.{Setter}
use Rattle.setters.specs.declared.setter.Setter.TheVariants.{Year, YearDiv100, YearMod100, Isoyear, IsoyearDiv100, IsoyearMod100, Quarter, Month, WeekFromSun, WeekFromMon, Isoweek, Weekday, Ordinal, Day, Ampm, Hour12, Hour, Minute, Second, Nanosecond, Timestamp, Offset}

-- a value for a field, by no item and at no place
abbrev pub value_for : Field → ℤ → Offer ℤ
value_for f v = record { field = field_number f; value = v; item = 0; place = 0 }

abbrev pub one_offer : Field → ℤ → Reading ℤ
one_offer f v = record { offers = value_for f v ∷ []; ending = granted None }

abbrev pub two_offers : Field → ℤ → Field → ℤ → Reading ℤ
two_offers f v g w = record { offers = value_for f v ∷ value_for g w ∷ []; ending = granted None }

-- a value that is not offered: kind 1, OutOfRange, at layer 4, naming the field
abbrev pub not_offered : Field → Reading ℤ
not_offered f = record { offers = []; ending = fault 1 4 0 0 (field_number f) }

-- the hour of a day: its quotient by 12 and the remainder
abbrev pub halves_of : ℤ → Option (ℤ × ℤ)
halves_of (pos n) = cond (nat_lt n 24) (Some (pos (n / 12), pos (n % 12))) None
halves_of (negsuc n) = None

abbrev pub hour_tries : Option (ℤ × ℤ) → Reading ℤ
hour_tries None = not_offered field.HourDiv12
hour_tries (Some h) = two_offers field.HourDiv12 h.0 field.HourMod12 h.1

-- the hour on a clock of 12 hours: its value, or 0 for 12
abbrev pub clock_hour : ℤ → Option ℤ
clock_hour (pos n) = cond (nat_le 1 n && nat_le n 12) (Some (cond (n == 12) (pos 0) (pos n))) None
clock_hour (negsuc n) = None

abbrev pub hour12_tries : Option ℤ → Reading ℤ
hour12_tries None = not_offered field.HourMod12
hour12_tries (Some h) = one_offer field.HourMod12 h

-- What a setter offers, one after another, and how it ends if all is granted. A weekday goes by its number, 0 for Monday;
-- before noon is 0 and from noon on is 1.
abbrev pub tries : Setter → ℤ → Reading ℤ
tries Year v = one_offer field.Year v
tries YearDiv100 v = one_offer field.YearDiv100 v
tries YearMod100 v = one_offer field.YearMod100 v
tries Isoyear v = one_offer field.Isoyear v
tries IsoyearDiv100 v = one_offer field.IsoyearDiv100 v
tries IsoyearMod100 v = one_offer field.IsoyearMod100 v
tries Quarter v = one_offer field.Quarter v
tries Month v = one_offer field.Month v
tries WeekFromSun v = one_offer field.WeekFromSun v
tries WeekFromMon v = one_offer field.WeekFromMon v
tries Isoweek v = one_offer field.Isoweek v
tries Weekday v = one_offer field.Weekday v
tries Ordinal v = one_offer field.Ordinal v
tries Day v = one_offer field.Day v
tries Ampm v = one_offer field.HourDiv12 v
tries Hour12 v = hour12_tries (clock_hour v)
tries Hour v = hour_tries (halves_of v)
tries Minute v = one_offer field.Minute v
tries Second v = one_offer field.Second v
tries Nanosecond v = one_offer field.Nanosecond v
tries Timestamp v = one_offer field.Timestamp v
tries Offset v = one_offer field.Offset v
