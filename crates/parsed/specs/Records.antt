-- What a record holds.
use Rattle.std.specs.Prelude.{List, [], ◌∷◌, ℤ, None, Option, slice_index_or}
use Rattle.collect.specs.Tables.{Table}
use Rattle.parsed.specs.Slots.{counts, days}
use Rattle.parsed.specs.declared.Parsed.{Parsed}

-- by the numbers of the fields; 0 is the number of none
abbrev pub fields_of : Parsed → List (Option ℤ)
fields_of p =
    None ∷
    p.year ∷
    p.year_div_100 ∷
    p.year_mod_100 ∷
    p.isoyear ∷
    p.isoyear_div_100 ∷
    p.isoyear_mod_100 ∷
    counts p.quarter ∷
    counts p.month ∷
    counts p.week_from_sun ∷
    counts p.week_from_mon ∷
    counts p.isoweek ∷
    days p.weekday ∷
    counts p.ordinal ∷
    counts p.day ∷
    counts p.hour_div_12 ∷
    counts p.hour_mod_12 ∷
    counts p.minute ∷
    counts p.second ∷
    counts p.nanosecond ∷
    p.timestamp ∷
    p.offset ∷
    []

abbrev pub parsed_table : Parsed → Table ℤ
parsed_table p f = slice_index_or (fields_of p) f None
