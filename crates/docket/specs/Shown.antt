-- How a docket is printed.
use Rattle.std.specs.Prelude.{ℕ, List, map}
use Rattle.collect.specs.Shown.{value_text, listed}
use Rattle.docket.specs.declared.entry.Entry.{Entry}

abbrev pub entry_text : Entry → List ℕ
entry_text e = value_text e.field e.value

abbrev pub docket_text : List Entry → List ℕ
docket_text es = listed (map entry_text es)
