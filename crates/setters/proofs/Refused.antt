-- What a refused setter leaves.
use Rattle.std.proofs.Common.{◌≡◌, ℕ, ◌/◌, ◌%◌, Bool, true, false, cond, ltb, ◌⊎◌, [], ◌∷◌, ℤ, pos, negsuc, Some, None, Option, refl, ◌∙◌, inl, inr, arith}
use Rattle.collect.specs.Fields.{field_number, fits, named}
use Rattle.collect.specs.Tables.{Table, single, met}
use Rattle.collect.specs.Readings.{Offer, Ending, granted, fault}
use Rattle.collect.specs.Judge.{Verdict, refused, by_join, judge, kept}
use Rattle.collect.specs.Chain.{Offering, Fed, all, one, stop, Takes}
use Rattle.collect.specs.declared.field.Field.{Field}
use Rattle.collect.specs.declared.field.Field.TheVariants as field
use Rattle.collect.proofs.Chains.{left_alone}
use Rattle.collect.proofs.Ranges.{named_field}
use Rattle.setters.specs.Setters.{hour_tries, clock_hour, hour12_tries, tries}
use Rattle.setters.specs.Laws.{SetterLaws}
use Rattle.setters.specs.declared.setter.Setter.{Setter}
use Rattle.setters.specs.declared.setter.Setter.TheVariants.{Year, YearDiv100, YearMod100, Isoyear, IsoyearDiv100, IsoyearMod100, Quarter, Month, WeekFromSun, WeekFromMon, Isoweek, Weekday, Ordinal, Day, Ampm, Hour12, Hour, Minute, Second, Nanosecond, Timestamp, Offset}

-- a refusal of a field names it
by_parts : (x : Field) (b : Bool) (m : Option ℤ) (k l g : ℕ) → refused k l g ≡ cond b (by_join m (field_number x)) (refused 1 4 (named (field_number x))) → g ≡ field_number x
by_parts x true (Some v) k l g e = absurd (let z : ◌≡◌ {A = ℕ} 0 1 = cc in omega arith)
by_parts x true None k l g e = cc
by_parts x false m k l g e = let q = named_field x in cc

names : (t : Table ℤ) (x : Field) (v : ℤ) (k l g : ℕ) → refused k l g ≡ judge t (field_number x) v → g ≡ field_number x
names t x v k l g e = by_parts x (fits (field_number x) v) (met single (t (field_number x)) v) k l g e

module _ {S : Type 0} (table : S → Table ℤ) (offered : Offering S)
    (answers : (s : S) (f : ℕ) (v : ℤ) (a : Verdict) (t : S) → offered s f v a t → a ≡ judge (table s) f v)
    (holds : (s : S) (f : ℕ) (v : ℤ) (a : Verdict) (t : S) → offered s f v a t → table t ≡ kept (table s) f v) where
  -- without an offer
  ended : {s t : S} {e r : Ending} → Fed offered s [] e t r → (r ≡ e) × (table t ≡ table s)
  ended all = (refl, refl)

  no_refusal : {X : Type 0} {s t : S} {u : Option ℕ} {k l i p f : ℕ} → Fed offered s [] (granted u) t (fault k l i p f) → X
  no_refusal x = absurd (let q = (ended x).0 in let z : ◌≡◌ {A = ℕ} 0 1 = cc in omega arith)

  stood : {s t : S} (f : ℕ) (v : ℤ) (k l g : ℕ) → offered s f v (refused k l g) t → table t ≡ table s
  stood {s} f v k l g h = holds _ _ _ _ _ h ∙ left_alone (table s) f v k l g (answers _ _ _ _ _ h)

  one_refused : {s t : S} {o : Offer ℤ} {k l i p f : ℕ} → Fed offered s (o ∷ []) (granted None) t (fault k l i p f) → table t ≡ table s
  one_refused (one h x) = no_refusal x
  one_refused (stop k l f h) = stood _ _ k l f h

  clock_refused : {s t : S} (h : Option ℤ) (k l i p f : ℕ) → Takes offered s (hour12_tries h) (fault k l i p f) t → table t ≡ table s
  clock_refused None k l i p f x = (ended x).1
  clock_refused (Some v) k l i p f x = one_refused x

  unaltered : {s t : S} (x : Setter) (v : ℤ) (k l i p f : ℕ) → (x ≡ Hour → ⊥) → Takes offered s (tries x v) (fault k l i p f) t → table t ≡ table s
  unaltered Year v k l i p f n x = one_refused x
  unaltered YearDiv100 v k l i p f n x = one_refused x
  unaltered YearMod100 v k l i p f n x = one_refused x
  unaltered Isoyear v k l i p f n x = one_refused x
  unaltered IsoyearDiv100 v k l i p f n x = one_refused x
  unaltered IsoyearMod100 v k l i p f n x = one_refused x
  unaltered Quarter v k l i p f n x = one_refused x
  unaltered Month v k l i p f n x = one_refused x
  unaltered WeekFromSun v k l i p f n x = one_refused x
  unaltered WeekFromMon v k l i p f n x = one_refused x
  unaltered Isoweek v k l i p f n x = one_refused x
  unaltered Weekday v k l i p f n x = one_refused x
  unaltered Ordinal v k l i p f n x = one_refused x
  unaltered Day v k l i p f n x = one_refused x
  unaltered Ampm v k l i p f n x = one_refused x
  unaltered Hour12 v k l i p f n x = clock_refused (clock_hour v) k l i p f x
  unaltered Hour v k l i p f n x = absurd (n refl)
  unaltered Minute v k l i p f n x = one_refused x
  unaltered Second v k l i p f n x = one_refused x
  unaltered Nanosecond v k l i p f n x = one_refused x
  unaltered Timestamp v k l i p f n x = one_refused x
  unaltered Offset v k l i p f n x = one_refused x

  -- what is left where the hour's quotient is d
  abbrev pub Left : S → S → ℤ → ℕ → Type 0
  Left s t d f = ((f ≡ 15) × (table t ≡ table s)) ⊎ ((f ≡ 16) × (table t ≡ kept (table s) 15 d))

  two_refused : {s t : S} (d m : ℤ) (k l i p f : ℕ) → Takes offered s (hour_tries (Some (d, m))) (fault k l i p f) t → Left s t d f
  two_refused {s} d m _ _ _ _ _ (stop k l f h) = inl (names (table s) field.HourDiv12 d k l f (answers _ _ _ _ _ h), stood _ _ k l f h)
  two_refused d m _ _ _ _ _ (one h (stop {s = u} k l f x)) = inr (names (table u) field.HourMod12 m k l f (answers _ _ _ _ _ x), stood _ _ k l f x ∙ holds _ _ _ _ _ h)
  two_refused d m k l i p f (one h (one x y)) = no_refusal y

  none_refused : {s t : S} (k l i p f : ℕ) → Takes offered s (hour_tries None) (fault k l i p f) t → (f ≡ 15) × (table t ≡ table s)
  none_refused k l i p f x = let q = ended x in ((let e = q.0 in cc), q.1)

  abbrev pub Halved : S → S → ℤ → ℕ → Type 0
  Halved s t v f = ((f ≡ 15) × (table t ≡ table s)) ⊎ ((f ≡ 16) × ((n : ℕ) × (v ≡ pos n) × (table t ≡ kept (table s) 15 (pos (n / 12)))))

  of_hour : {s t : S} (n f : ℕ) → Left s t (pos (n / 12)) f → Halved s t (pos n) f
  of_hour n f (inl x) = inl x
  of_hour n f (inr x) = inr (x.0, (n, refl, x.1))

  by_test : {s t : S} (n : ℕ) (b : Bool) (k l i p f : ℕ) → Takes offered s (hour_tries (cond b (Some (pos (n / 12), pos (n % 12))) None)) (fault k l i p f) t → Halved s t (pos n) f
  by_test n true k l i p f x = of_hour n f (two_refused (pos (n / 12)) (pos (n % 12)) k l i p f x)
  by_test n false k l i p f x = inl (none_refused k l i p f x)

  hour_halved : {s t : S} (v : ℤ) (k l i p f : ℕ) → Takes offered s (tries Hour v) (fault k l i p f) t → Halved s t v f
  hour_halved (pos n) k l i p f x = by_test n (ltb n 24) k l i p f x
  hour_halved (negsuc n) k l i p f x = inl (none_refused k l i p f x)

  pub setter_laws : SetterLaws table offered
  setter_laws = record { unaltered = unaltered; hour_halved = hour_halved }
