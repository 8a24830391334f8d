-- The values of each field fit the type that it is kept in.
use Rattle.std.proofs.Common.{◌≡◌, true, false, ℤ, Option, sym, ◌∙◌, subst, arith, FitsSigned, w64, to_z, of_z}
use Rattle.std.proofs.lemmas.Int.{ints, to_z-of_z}
use Rattle.collect.specs.Fields.{field_number, range, fits}
use Rattle.collect.specs.Judge.{Verdict, refused}
use Rattle.collect.proofs.Ranges.{named_field}
use Rattle.collect.specs.declared.field.Field.{Field}
use Rattle.collect.specs.declared.field.Field.TheVariants.{Year, YearDiv100, YearMod100, Isoyear, IsoyearDiv100, IsoyearMod100, Quarter, Month, WeekFromSun, WeekFromMon, Isoweek, Weekday, Ordinal, Day, HourDiv12, HourMod12, Minute, Second, Nanosecond, Timestamp, Offset}
use Rattle.parsed.specs.Slots.{KeptAs, Holds, kept_as, Slotted}

pub bounds : (x : Field) (v : ℤ) → fits (field_number x) v ≡ true → Holds (kept_as x) v
unfolding range
bounds Year v h = (grind (arith, ints), grind (arith, ints))
bounds YearDiv100 v h = (grind (arith, ints), grind (arith, ints))
bounds YearMod100 v h = (grind (arith, ints), grind (arith, ints))
bounds Isoyear v h = (grind (arith, ints), grind (arith, ints))
bounds IsoyearDiv100 v h = (grind (arith, ints), grind (arith, ints))
bounds IsoyearMod100 v h = (grind (arith, ints), grind (arith, ints))
bounds Quarter v h = (grind (arith, ints), grind (arith, ints))
bounds Month v h = (grind (arith, ints), grind (arith, ints))
bounds WeekFromSun v h = (grind (arith, ints), grind (arith, ints))
bounds WeekFromMon v h = (grind (arith, ints), grind (arith, ints))
bounds Isoweek v h = (grind (arith, ints), grind (arith, ints))
bounds Weekday v h = (grind (arith, ints), grind (arith, ints))
bounds Ordinal v h = (grind (arith, ints), grind (arith, ints))
bounds Day v h = (grind (arith, ints), grind (arith, ints))
bounds HourDiv12 v h = (grind (arith, ints), grind (arith, ints))
bounds HourMod12 v h = (grind (arith, ints), grind (arith, ints))
bounds Minute v h = (grind (arith, ints), grind (arith, ints))
bounds Second v h = (grind (arith, ints), grind (arith, ints))
bounds Nanosecond v h = (grind (arith, ints), grind (arith, ints))
bounds Timestamp v h = tt
bounds Offset v h = (grind (arith, ints), grind (arith, ints))

pub bounds_as : (x : Field) (k : KeptAs) (v : ℤ) → kept_as x ≡ k → true ≡ fits (field_number x) v → Holds k v
bounds_as x k v e h = subst (λ y. Holds y v) e (bounds x v (sym h))

-- a value that its field may not hold, which went through its bits, is refused as out of range
pub refused_outside : {old : Option ℤ} {v : ℤ} {a : Verdict} (x : Field) → FitsSigned w64 v → false ≡ fits (field_number x) (to_z w64 (of_z w64 v)) → a ≡ refused 1 4 (field_number x) → Slotted old (field_number x) v a old
refused_outside {old} {v} {a} x r h e =
    let n = named_field x in
    record { answer = e ∙ grind (arith, to_z-of_z); after = grind (arith, to_z-of_z) }
