-- What each form of a field reads, by the definitions of the leaves.
use Rattle.std.specs.Prelude.{ℕ, true, List, [], ◌∷◌, Ok, codes, Result}
use Rattle.comments.specs.Comments.{comment_at}
use Rattle.names.specs.Names.{short_or_long_month0_at, short_or_long_weekday_at}
use Rattle.scan.specs.Numbers.{nanosecond_at, year_2822_at}
use Rattle.scan.specs.Steps.{bind}
use Rattle.scan.specs.declared.kind.ParseErrorKind.{ParseErrorKind}
use Rattle.zones.specs.Mail.{offset_2822_at}
use Rattle.zones.specs.Offsets.{offset_at}
use Rattle.zones.specs.Separators.{colon_or_space_at}
use Rattle.stamps.specs.declared.form.Form.{Form}
use Rattle.stamps.specs.declared.form.Form.TheVariants.{Zone, MailZone, Fraction, Month, Weekday, Comment, MailYear}
use Rattle.stamps.specs.declared.form.Value.{Value}
use Rattle.stamps.specs.declared.form.Value.TheVariants.{Offset, Nanoseconds, Month0, Day, Comment as NoValue, Year}

unfoldable pub read_at : Form → List ℕ → Result (Value × ℕ) ParseErrorKind
read_at Zone s = bind (offset_at colon_or_space_at true true true s) (λ p. Ok (Offset p.0, p.1))
read_at MailZone s = bind (offset_2822_at s) (λ p. Ok (Offset p.0, p.1))
read_at Fraction s = bind (nanosecond_at s) (λ p. Ok (Nanoseconds p.0, p.1))
read_at Month s = bind (short_or_long_month0_at s) (λ p. Ok (Month0 p.0, p.1))
read_at Weekday s = bind (short_or_long_weekday_at s) (λ p. Ok (Day p.0, p.1))
read_at Comment s = bind (comment_at s) (λ n. Ok (NoValue, n))
read_at MailYear s = bind (year_2822_at s) (λ p. Ok (Year p.0, p.1))

-- the word for each form
abbrev pub words : List (List ℕ × Form)
words =
    (codes "zone", Zone) ∷ (codes "mailzone", MailZone) ∷ (codes "fraction", Fraction) ∷ (codes "month", Month) ∷ (codes "weekday", Weekday)
    ∷ (codes "comment", Comment) ∷ (codes "mailyear", MailYear) ∷ []
