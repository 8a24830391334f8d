-- What becomes of an offer.
use Rattle.std.specs.Prelude.{◌≡◌, ℕ, true, cond, ℤ, Some, None, Option}
use Rattle.collect.specs.Fields.{fits, named}
use Rattle.collect.specs.Tables.{Table, put, single, met}

-- the answer to an offer
pub data Verdict : Type 0 where
  taken : Verdict
  refused : (kind layer field : ℕ) → Verdict

-- the answer to a value that its field may hold, by what the field would hold: kind 2, Impossible, if it holds another
abbrev pub by_join : Option ℤ → ℕ → Verdict
by_join (Some v) f = taken
by_join None f = refused 2 4 f

-- a value that its field may not hold is refused as kind 1, OutOfRange
abbrev pub judge : Table ℤ → ℕ → ℤ → Verdict
judge t f v = cond (fits f v) (by_join (met single (t f) v) f) (refused 1 4 (named f))

abbrev pub with_joined : Option ℤ → Table ℤ → ℕ → Table ℤ
with_joined (Some v) t f = put t f v
with_joined None t f = t

-- what is held after an offer
abbrev pub kept : Table ℤ → ℕ → ℤ → Table ℤ
kept t f v = cond (fits f v) (with_joined (met single (t f) v) t f) t

-- What is held lies in its field's range. So the number of no field holds nothing.
abbrev pub Ranged : Table ℤ → Type 0
Ranged t = (f : ℕ) (v : ℤ) → t f ≡ Some v → fits f v ≡ true

-- one offer, as a table takes it: from the table t, with the answer a, to the table u
pub record Offered (t : Table ℤ) (f : ℕ) (v : ℤ) (a : Verdict) (u : Table ℤ) : Type 0 where
  pub answer : a ≡ judge t f v
  pub after : (g : ℕ) → u g ≡ kept t f v g
