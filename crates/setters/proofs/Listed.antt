-- Every setter stands in the list of all.
use Rattle.std.proofs.Common.{◌≡◌, ◌≢◌, ℕ, ◌<◌, List, [], ◌∷◌, length, get_or, refl, ap, ◌∙◌, arith, lit<}
use Rattle.std.specs.List.{AllWithin}
use Rattle.setters.specs.Names.{setter_name}
use Rattle.setters.specs.declared.setter.Setter.{Setter}
use Rattle.setters.specs.declared.setter.Setter.TheVariants.{Year, YearDiv100, YearMod100, Isoyear, IsoyearDiv100, IsoyearMod100, Quarter, Month, WeekFromSun, WeekFromMon, Isoweek, Weekday, Ordinal, Day, Ampm, Hour12, Hour, Minute, Second, Nanosecond, Timestamp, Offset}

abbrev pub every : List Setter
every = Year ∷ YearDiv100 ∷ YearMod100 ∷ Isoyear ∷ IsoyearDiv100 ∷ IsoyearMod100 ∷ Quarter ∷ Month ∷ WeekFromSun ∷ WeekFromMon ∷ Isoweek ∷ Weekday ∷ Ordinal ∷ Day ∷ Ampm ∷ Hour12 ∷ Hour ∷ Minute ∷ Second ∷ Nanosecond ∷ Timestamp ∷ Offset ∷ []

place : (x : Setter) → (k : ℕ) × (k < 22) × (get_or every k Year ≡ x)
place Year = (0, lit< tt, refl)
place YearDiv100 = (1, lit< tt, refl)
place YearMod100 = (2, lit< tt, refl)
place Isoyear = (3, lit< tt, refl)
place IsoyearDiv100 = (4, lit< tt, refl)
place IsoyearMod100 = (5, lit< tt, refl)
place Quarter = (6, lit< tt, refl)
place Month = (7, lit< tt, refl)
place WeekFromSun = (8, lit< tt, refl)
place WeekFromMon = (9, lit< tt, refl)
place Isoweek = (10, lit< tt, refl)
place Weekday = (11, lit< tt, refl)
place Ordinal = (12, lit< tt, refl)
place Day = (13, lit< tt, refl)
place Ampm = (14, lit< tt, refl)
place Hour12 = (15, lit< tt, refl)
place Hour = (16, lit< tt, refl)
place Minute = (17, lit< tt, refl)
place Second = (18, lit< tt, refl)
place Nanosecond = (19, lit< tt, refl)
place Timestamp = (20, lit< tt, refl)
place Offset = (21, lit< tt, refl)

pub listed : (w : List ℕ) → AllWithin (λ x. setter_name x ≢ w) every 0 (length every) → (x : Setter) → setter_name x ≢ w
listed w h x = let p = place x in λ e. h p.0 Year (omega arith) p.1 (ap setter_name p.2 ∙ e)
