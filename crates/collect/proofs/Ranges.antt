-- Which numbers have a range and a name.
use Rattle.std.proofs.Common.{◌≡◌, ℕ, ◌-◌, ◌<◌, ◌≤◌, Bool, true, false, get_or, ℤ, is_some, Some, None, decimal, Option, int_eq, Decides, sym, refl, ap, ◌∙◌, ⊎_elim, subst, arith}
use Rattle.std.proofs.lemmas.List.{get_or_past}
use Rattle.std.proofs.lemmas.List.FromFn.{get_or-range_with_len}
use Rattle.std.proofs.lemmas.List.Sums.{AllPass-from_list_all, list_all-from_AllPass}
use Rattle.std.proofs.lemmas.Bool.Decides.{Decides-int_eq}
use Rattle.std.specs.List.{list_all, range_with_len}
use Rattle.std.specs.Option.{option_eq}
use Rattle.std.proofs.lemmas.Bool.{both_ways, cases_lt, cond-true}
use Rattle.collect.specs.Fields.{field_number, field_name, range, ranges, within, named}
use Rattle.collect.specs.Shown.{fields, label}
use Rattle.collect.specs.Tables.{Table}
use Rattle.collect.specs.Judge.{Ranged}
use Rattle.collect.specs.declared.field.Field.{Field}
use Rattle.collect.specs.declared.field.Field.TheVariants.{Year, YearDiv100, YearMod100, Isoyear, IsoyearDiv100, IsoyearMod100, Quarter, Month, WeekFromSun, WeekFromMon, Isoweek, Weekday, Ordinal, Day, HourDiv12, HourMod12, Minute, Second, Nanosecond, Timestamp, Offset}

pub beyond : (n : ℕ) → 22 ≤ n → range n ≡ None
unfolding range
beyond n h = get_or_past ranges n None h

-- a field's number has a range, and tells the field
known : (x : Field) → (is_some (range (field_number x)) ≡ true) × (get_or fields (field_number x - 1) Year ≡ x)
unfolding range
known Year = (refl, refl)
known YearDiv100 = (refl, refl)
known YearMod100 = (refl, refl)
known Isoyear = (refl, refl)
known IsoyearDiv100 = (refl, refl)
known IsoyearMod100 = (refl, refl)
known Quarter = (refl, refl)
known Month = (refl, refl)
known WeekFromSun = (refl, refl)
known WeekFromMon = (refl, refl)
known Isoweek = (refl, refl)
known Weekday = (refl, refl)
known Ordinal = (refl, refl)
known Day = (refl, refl)
known HourDiv12 = (refl, refl)
known HourMod12 = (refl, refl)
known Minute = (refl, refl)
known Second = (refl, refl)
known Nanosecond = (refl, refl)
known Timestamp = (refl, refl)
known Offset = (refl, refl)

pub has_range : (x : Field) → (r : ℤ × ℤ) × (range (field_number x) ≡ Some r)
has_range x = go (range (field_number x)) (known x).0
  where
    go : (o : Option (ℤ × ℤ)) → is_some o ≡ true → (r : ℤ × ℤ) × (o ≡ Some r)
    go None h = absurd (both_ways false refl h)
    go (Some r) h = (r, refl)

-- a field's own number names it
pub named_field : (x : Field) → named (field_number x) ≡ field_number x
named_field x = cond-true _ _ _ (known x).0

pub label_field : (x : Field) → label (field_number x) ≡ field_name x
unfolding label
label_field x = cond-true _ _ _ (known x).0 ∙ ap field_name (known x).1

pub label_none : (n : ℕ) → range n ≡ None → label n ≡ decimal n
unfolding label
label_none n h = rw h refl

-- the number of no field holds nothing
pub nothing : (t : Table ℤ) → Ranged t → (f : ℕ) → range f ≡ None → t f ≡ None
nothing t r f h = go (t f) refl
  where
    go : (x : Option ℤ) → t f ≡ x → x ≡ None
    go None e = refl
    go (Some v) e = absurd (let z : ◌≡◌ {A = Bool} false true = sym (ap (λ y. within y v) h) ∙ r f v e in grind arith)

-- tables that agree on the fields are the same
pub same_tables : (t u : Table ℤ) → Ranged t → Ranged u → ((f : ℕ) → f < 22 → t f ≡ u f) → t ≡ u
same_tables t u r q h = λ i f. by f i
  where
    by : (f : ℕ) → t f ≡ u f
    by f = ⊎_elim (h f) (λ b. nothing t r f (beyond f b) ∙ sym (nothing u q f (beyond f b))) (cases_lt f 22)

same_option : (a b : Option ℤ) → Decides (option_eq int_eq a b) (a ≡ b)
same_option None None = (λ _. refl, λ _. refl)
same_option None (Some w) = (λ e. cc, λ e. cc)
same_option (Some v) None = (λ e. cc, λ e. cc)
same_option (Some v) (Some w) = let d = Decides-int_eq v w in (λ e. ap Some (d.0 e), λ e. d.1 cc)

-- what each field is asked tells whether two tables are the same
pub same_asked : (t u : Table ℤ) → Ranged t → Ranged u → (r : Bool) → r ≡ list_all (λ f. option_eq int_eq (t f) (u f)) (range_with_len 0 22) → Decides r (t ≡ u)
same_asked t u p q r e = (
  λ y. same_tables t u p q (λ f h. (same_option (t f) (u f)).0 (subst (λ n. same n ≡ true) (get_or-range_with_len 0 22 f 0 h ∙ omega arith) (AllPass-from_list_all same (range_with_len 0 22) (sym e ∙ y) f 0 h))),
  λ y. e ∙ list_all-from_AllPass same (range_with_len 0 22) (λ k d h. (same_option _ _).1 (ap (λ w. w (get_or (range_with_len 0 22) k d)) y)),
)
  where
    same : ℕ → Bool
    same f = option_eq int_eq (t f) (u f)
