-- What the setters do to a collector, and to an empty table.
use Rattle.std.specs.Prelude.{◌≡◌, ℕ, ◌/◌, ◌⊎◌, ℤ, pos, Some, None, ◌≢◌}
use Rattle.collect.specs.Tables.{Table, empty}
use Rattle.collect.specs.Readings.{granted, fault}
use Rattle.collect.specs.Judge.{kept}
use Rattle.collect.specs.Chain.{Offering, Takes, called}
use Rattle.setters.specs.Setters.{tries}
use Rattle.setters.specs.declared.setter.Setter.{Setter}
use Rattle.setters.specs.declared.setter.Setter.TheVariants.{Month, Hour12, Hour}

pub record SetterLaws {S : Type 0} (table : S → Table ℤ) (offered : Offering S) : Type 0 where
  -- a refused setter alters nothing, the hour of the day aside
  pub unaltered : {s t : S} (x : Setter) (v : ℤ) (k l i p f : ℕ) → (x ≢ Hour) → Takes offered s (tries x v) (fault k l i p f) t → table t ≡ table s
  -- which has set hour_div_12 (15) exactly when it is refused at hour_mod_12 (16)
  pub hour_halved : {s t : S} (v : ℤ) (k l i p f : ℕ) → Takes offered s (tries Hour v) (fault k l i p f) t →
      ((f ≡ 15) × (table t ≡ table s)) ⊎ ((f ≡ 16) × ((n : ℕ) × (v ≡ pos n) × (table t ≡ kept (table s) 15 (pos (n / 12)))))

-- Worked examples, from an empty table. A refusal has kind, layer, item, place and field.
pub record SetterExamples : Type 0 where
  -- month 13 is out of range
  pub month_13 :
      let o = called empty (tries Month (pos 13)) in
      (o.ending ≡ fault 1 4 0 0 8) × (o.table 8 ≡ None)
  -- month 5, then 6: it stays 5
  pub month_5_then_6 :
      let five = called empty (tries Month (pos 5)) in
      let six = called five.table (tries Month (pos 6)) in
      (five.ending ≡ granted None) × (six.ending ≡ fault 2 4 0 0 8) × (six.table 8 ≡ Some (pos 5))
  -- hour 13 where hour_mod_12 is 5: hour_div_12 is 1 then
  pub hour_13_onto_5 :
      let five = called empty (tries Hour12 (pos 5)) in
      let thirteen = called five.table (tries Hour (pos 13)) in
      (five.ending ≡ granted None) × (thirteen.ending ≡ fault 2 4 0 0 16) × (thirteen.table 15 ≡ Some (pos 1)) × (thirteen.table 16 ≡ Some (pos 5))
