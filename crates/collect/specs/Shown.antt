-- How the values of fields are printed.
use Rattle.std.specs.Prelude.{ℕ, ◌-◌, cond, List, [], ◌∷◌, ◌++◌, ℤ, is_some, Some, None, codes, decimal, Option, slice_index_or}
use Rattle.std.specs.List.{flat_map}
use Rattle.std.specs.Fmt.{signed_decimal}
use Rattle.collect.specs.Fields.{field_number, field_name, range}
use Rattle.collect.specs.Tables.{Table}
use Rattle.collect.specs.declared.field.Field.{Field}
use Rattle.collect.specs.declared.field.Field.TheVariants.{Year, YearDiv100, YearMod100, Isoyear, IsoyearDiv100, IsoyearMod100, Quarter, Month, WeekFromSun, WeekFromMon, Isoweek, Weekday, Ordinal, Day, HourDiv12, HourMod12, Minute, Second, Nanosecond, Timestamp, Offset}

-- every field, in the order of the numbers
abbrev pub fields : List Field
fields =
    Year ∷ YearDiv100 ∷ YearMod100 ∷ Isoyear ∷ IsoyearDiv100 ∷ IsoyearMod100 ∷ Quarter ∷ Month ∷ WeekFromSun ∷ WeekFromMon ∷ Isoweek
    ∷ Weekday ∷ Ordinal ∷ Day ∷ HourDiv12 ∷ HourMod12 ∷ Minute ∷ Second ∷ Nanosecond ∷ Timestamp ∷ Offset ∷ []

-- the name of the field of a number, and the number itself where it is of none
unfoldable pub label : ℕ → List ℕ
label n = cond (is_some (range n)) (field_name (slice_index_or fields (n - 1) Year)) (decimal n)

-- a value and the number of its field, as month=5
abbrev pub value_text : ℕ → ℤ → List ℕ
value_text n v = label n ++ (codes "=" ++ signed_decimal v)

-- texts, each with a blank in front
abbrev pub spaced : List (List ℕ) → List ℕ
spaced [] = []
spaced (x ∷ xs) = codes " " ++ (x ++ spaced xs)

-- texts with a blank between each two
abbrev pub listed : List (List ℕ) → List ℕ
listed [] = codes "empty"
listed (x ∷ xs) = x ++ spaced xs

-- the text of the value of a field, if it has one
abbrev pub text_of : ℕ → Option ℤ → List (List ℕ)
text_of n None = []
text_of n (Some v) = value_text n v ∷ []

abbrev pub held_text : Table ℤ → Field → List (List ℕ)
held_text t x = text_of (field_number x) (t (field_number x))

-- what a table holds, in the order of the numbers, as month=5 day=7
abbrev pub record_text : Table ℤ → List ℕ
record_text t = listed (flat_map (held_text t) fields)
