-- Lists of entries, as tables.
use Rattle.std.specs.Prelude.{ℕ, Bool, true, cond, not, ◌&&◌, List, [], ◌∷◌, ℤ, is_some, Some, None, Option, ◌==◌}
use Rattle.collect.specs.Fields.{fits}
use Rattle.docket.specs.declared.entry.Entry.{Entry}

-- the value of the first entry of a field
abbrev pub look : List Entry → ℕ → Option ℤ
look [] k = None
look (e ∷ es) k = cond (e.field == k) (Some e.value) (look es k)

-- no two entries are of one field
abbrev pub apart : List Entry → Bool
apart [] = true
apart (e ∷ es) = not (is_some (look es e.field)) && apart es

-- each value lies in its field's range
abbrev pub fit : List Entry → Bool
fit [] = true
fit (e ∷ es) = fits e.field e.value && fit es
