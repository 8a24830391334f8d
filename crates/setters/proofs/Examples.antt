-- The worked examples, by computation.
use Rattle.std.proofs.Common.{refl}
use Rattle.collect.specs.Fields.{range}
use Rattle.setters.specs.Laws.{SetterExamples}

pub setter_examples : SetterExamples
unfolding range
setter_examples = record { month_13 = (refl, refl); month_5_then_6 = (refl, refl, refl); hour_13_onto_5 = (refl, refl, refl, refl) }
