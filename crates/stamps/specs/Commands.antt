-- What the lines about the record do to it.
use Rattle.std.specs.Prelude.{◌≡◌, ℕ, List, [], ◌∷◌, None, Ok, codes, Result}
use Rattle.collect.specs.Chain.{Takes}
use Rattle.collect.specs.Faults.{told, nowhere}
use Rattle.collect.specs.Judge.{Offered}
use Rattle.collect.specs.declared.fault.Fault.{Fault}
use Rattle.parsed.specs.Records.{parsed_table}
use Rattle.parsed.specs.declared.Parsed.{Parsed}
use Rattle.setters.specs.Setters.{tries}
use Rattle.stamps.specs.declared.record.Verb.{Verb}
use Rattle.stamps.specs.declared.record.Verb.TheVariants as verb
use Rattle.stamps.specs.declared.record.Command.{Command}
use Rattle.stamps.specs.declared.record.Command.TheVariants.{Set, Show, New}

-- the word for each verb
abbrev pub verbs : List (List ℕ × Verb)
verbs = (codes "set", verb.Set) ∷ (codes "show", verb.Show) ∷ (codes "new", verb.New) ∷ []

-- a setter is the chain of its offers, a look alters nothing, and a new record holds nothing
abbrev pub Obeyed : Command → Parsed → Result (Unit {0}) Fault → Parsed → Type 0
Obeyed (Set x v) s r t = Takes (λ p f w a q. Offered (parsed_table p) f w a (parsed_table q)) s (tries x v) (told nowhere r) t
Obeyed Show s r t = (r ≡ Ok tt) × (t ≡ s)
Obeyed New s r t = (r ≡ Ok tt) × ((f : ℕ) → parsed_table t f ≡ None)
