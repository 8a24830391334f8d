use Rattle.std.proofs.Common.{◌≡◌, drop}
use Rattle.docket.specs.Entries.{look}
use Rattle.docket.proofs.offers.sought.Given as goal

-- the entries that are left answer for all
abbrev pub invariant-loop-e : goal.invariant-loop-e
invariant-loop-e l = look (drop l.e-index l.entries) l.field ≡ look l.entries l.field
