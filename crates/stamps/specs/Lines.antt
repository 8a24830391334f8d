-- A line is text, or is refused where it is text no more.
use Rattle.std.specs.Prelude.{◌≡◌, ℕ, List, Ok, Err}
use Rattle.scan.specs.declared.kind.ParseErrorKind.TheVariants.{NotText}
use Rattle.text.specs.Chars.{text_check}
use Rattle.text.specs.Cuts.{Checked}
use Rattle.stamps.specs.declared.line.Reason.TheVariants.{Kind}
use Rattle.stamps.specs.declared.line.Refusal.{Refusal}

-- the refusal of a line of which n bytes are the longest beginning that is text
abbrev pub not_text : ℕ → Refusal
not_text n = record { reason = Kind NotText; place = n }

-- a line is text, and is taken as it stands
abbrev pub AsText : List ℕ → List ℕ → Type 0
AsText s t = (t ≡ s) × (text_check s ≡ Ok tt) × Checked s (Ok tt)

-- a line is no text, and is refused at the place that the check of text gives
abbrev pub NoText : List ℕ → Refusal → Type 0
NoText s r = (r ≡ not_text r.place) × (text_check s ≡ Err r.place) × Checked s (Err r.place)
