-- The loop of `show` goes through the fields in their order.
use denote.Shadow.{shadow}
use denote.Text.{Utf8}
use Rattle.std.proofs.Common.{take}
use Rattle.std.specs.List.{flat_map}
use Rattle.collect.specs.Shown.{fields, held_text}
use Rattle.collect.proofs.Texts.{Sofar}
use Rattle.collect.proofs.show.show.Given as goal

-- the values of the fields so far are written
abbrev pub invariant-loop-field : goal.invariant-loop-field
invariant-loop-field g l = shadow (Utf8 l.blank) × Sofar g.W.Write.write_str_gives l.initial.f l.blank l.f (flat_map (held_text (g.C.Collector.table l.c)) (take l.field-index fields))
