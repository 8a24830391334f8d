-- What a docket holds.
use Rattle.std.specs.Prelude.{List, ℤ, vec_items}
use Rattle.collect.specs.Tables.{Table}
use Rattle.docket.specs.declared.entry.Entry.{Entry}
use Rattle.docket.specs.declared.Docket.{Docket}
use Rattle.docket.specs.Entries.{look}

abbrev pub entries_of : Docket → List Entry
entries_of d = vec_items d.entries

abbrev pub docket_table : Docket → Table ℤ
docket_table d = look (entries_of d)
