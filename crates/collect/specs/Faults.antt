-- The numbers of the code's answers.
use Rattle.std.specs.Prelude.{ℕ, None, Ok, Err, Option, Result}
use Rattle.scan.specs.Kinds.{kind_number}
use Rattle.scan.specs.declared.kind.ParseErrorKind.{ParseErrorKind}
use Rattle.scan.specs.declared.kind.ParseErrorKind.TheVariants.{OutOfRange}
use Rattle.collect.specs.Readings.{Ending, granted, fault}
use Rattle.collect.specs.Judge.{Verdict, taken, refused}
use Rattle.collect.specs.declared.fault.Layer.{Layer}
use Rattle.collect.specs.declared.fault.Layer.TheVariants.{Text, List, Scan, Field}
use Rattle.collect.specs.declared.fault.Cause.{Cause}
use Rattle.collect.specs.declared.fault.Fault.{Fault}

abbrev pub layer_number : Layer → ℕ
layer_number Text = 1
layer_number List = 2
layer_number Scan = 3
layer_number (Field f) = 4

-- the field that a refusal names; 0 where it is of another layer than the fields'
abbrev pub field_named : Layer → ℕ
field_named Text = 0
field_named List = 0
field_named Scan = 0
field_named (Field f) = f

-- the refusal by the field of a number
abbrev pub of_field : ParseErrorKind → ℕ → Cause
of_field k f = record { kind = k; layer = Field f }

-- what an offer to the number of no field is refused with: it names field 0
abbrev pub no_field : Cause
no_field = of_field OutOfRange 0

-- What an answer says: granted, with the place of the unread text if it has one, or refused, with five numbers.
-- Every promise about an answer goes through this.
abbrev pub told : {A : Type 0} → (A → Option ℕ) → Result A Fault → Ending
told unread (Ok x) = granted (unread x)
told unread (Err w) = fault (kind_number w.cause.kind) (layer_number w.cause.layer) w.item w.place (field_named w.cause.layer)

-- an answer that says nothing of unread text
abbrev pub nowhere : {A : Type 0} → A → Option ℕ
nowhere x = None

-- the answer of a part of a call, which knows neither item nor place, at an item and a place
abbrev pub placed : {A : Type 0} → ℕ → ℕ → Result A Cause → Result A Fault
placed i p (Ok x) = Ok x
placed i p (Err w) = Err (record { cause = w; item = i; place = p })

abbrev pub as_verdict : Ending → Verdict
as_verdict (granted u) = taken
as_verdict (fault k l i p f) = refused k l f

-- what an answer to an offer says
abbrev pub verdict : Result (Unit {0}) Cause → Verdict
verdict r = as_verdict (told nowhere (placed 0 0 r))
