-- What becomes of a list of entries by an offer.
use Rattle.std.specs.Prelude.{◌≡◌, ℕ, cond, List, [], ◌∷◌, ◌++◌, ℤ, Some, None, Option}
use Rattle.collect.specs.Fields.{fits}
use Rattle.collect.specs.Judge.{Verdict, judge}
use Rattle.docket.specs.declared.entry.Entry.{Entry}
use Rattle.docket.specs.Entries.{look}

-- by what the field holds: the first value for it goes to the end, and no later one changes the list
abbrev pub first_grant : Option ℤ → List Entry → ℕ → ℤ → List Entry
first_grant None es f v = es ++ record { field = f; value = v } ∷ []
first_grant (Some w) es f v = es

-- the list after an offer
abbrev pub noted : List Entry → ℕ → ℤ → List Entry
noted es f v = cond (fits f v) (first_grant (look es f) es f v) es

-- one offer, as a list of entries takes it: from the list es, with the answer a, to the list fs
pub record Noted (es : List Entry) (f : ℕ) (v : ℤ) (a : Verdict) (fs : List Entry) : Type 0 where
  pub answer : a ≡ judge (look es) f v
  pub list : fs ≡ noted es f v
