-- How refusals are printed.
use Rattle.std.specs.Prelude.{ℕ, cond, ◌||◌, List, [], ◌++◌, ℤ, Some, None, codes, decimal, Option, nat_lt}
use Rattle.scan.specs.Kinds.{kind_number, kind_text}
use Rattle.scan.specs.declared.kind.ParseErrorKind.{ParseErrorKind}
use Rattle.scan.specs.declared.kind.ParseErrorKind.TheVariants.{OutOfRange, Impossible, Invalid, TooShort, TooLong, BadFormat, NotText}
use Rattle.collect.specs.Fields.{range}
use Rattle.collect.specs.Faults.{layer_number, field_named}
use Rattle.collect.specs.Shown.{label}
use Rattle.collect.specs.declared.fault.Layer.{Layer}
use Rattle.collect.specs.declared.fault.Layer.TheVariants as layer
use Rattle.collect.specs.declared.fault.Cause.{Cause}
use Rattle.collect.specs.declared.fault.Fault.{Fault}

-- after the name of a field, what is wrong with a value for it
abbrev pub wrong : ParseErrorKind → List ℕ
wrong OutOfRange = codes " is out of range"
wrong Impossible = codes " holds another value"
wrong Invalid = codes ": " ++ kind_text Invalid
wrong TooShort = codes ": " ++ kind_text TooShort
wrong TooLong = codes ": " ++ kind_text TooLong
wrong BadFormat = codes ": " ++ kind_text BadFormat
wrong NotText = codes ": " ++ kind_text NotText

-- by the number of a field, and its range if it has one
abbrev pub field_refused : ℕ → Option (ℤ × ℤ) → ParseErrorKind → List ℕ
field_refused n None k = codes "no field has this number"
field_refused n (Some r) k = label n ++ wrong k

abbrev pub refused_text : Layer → ParseErrorKind → List ℕ
refused_text layer.Text k = kind_text k
refused_text layer.List k = kind_text k
refused_text layer.Scan k = kind_text k
refused_text (layer.Field n) k = field_refused n (range n) k

abbrev pub cause_text : Cause → List ℕ
cause_text w = refused_text w.layer w.kind

-- as item 2 at byte 7:
abbrev pub place_text : ℕ → ℕ → List ℕ
place_text i p = codes "item " ++ (decimal i ++ (codes " at byte " ++ (decimal p ++ codes ": ")))

-- the item and the byte, and nothing where both are 0
abbrev pub where_text : ℕ → ℕ → List ℕ
where_text i p = cond (nat_lt 0 i || nat_lt 0 p) (place_text i p) []

-- as [fault 1 4 2 7 8]
abbrev pub numbers_text : ℕ → ℕ → ℕ → ℕ → ℕ → List ℕ
numbers_text k l i p f = codes "[fault " ++ (decimal k ++ (codes " " ++ (decimal l ++ (codes " " ++ (decimal i ++ (codes " " ++ (decimal p ++ (codes " " ++ (decimal f ++ codes "]")))))))))

abbrev pub fault_text : Fault → List ℕ
fault_text w =
    where_text w.item w.place
    ++ (cause_text w.cause
    ++ (codes " "
    ++ numbers_text (kind_number w.cause.kind) (layer_number w.cause.layer) w.item w.place (field_named w.cause.layer)))
