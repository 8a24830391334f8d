-- What is written of a refusal, by its layer and its kind.
use Rattle.std.proofs.Common.{◌≡◌, ℕ, List, ◌++◌, codes, sym, refl, ap, ◌∙◌}
use Rattle.std.proofs.Output.{has_written_of_eq}
use Rattle.scan.specs.Kinds.{kind_text}
use Rattle.scan.specs.declared.kind.ParseErrorKind.{ParseErrorKind}
use Rattle.scan.specs.declared.kind.ParseErrorKind.TheVariants.{OutOfRange, Impossible, Invalid, TooShort, TooLong, BadFormat, NotText}
use Rattle.collect.specs.Fields.{field_number, field_name, range}
use Rattle.collect.specs.Refusals.{wrong, field_refused, refused_text, cause_text}
use Rattle.collect.specs.declared.fault.Cause.{Cause}
use Rattle.collect.specs.declared.fault.Layer.TheVariants as layer
use Rattle.collect.specs.declared.field.Field.{Field}
use Rattle.collect.proofs.Ranges.{has_range, label_field}
use Rattle.collect.proofs.fault.CauseDisplay.fmt.Goals as goal

module _ (w : Cause) (n : ℕ) (at : w.layer ≡ layer.Field n) where
  of_field : (x : Field) → field_number x ≡ n → field_name x ++ wrong w.kind ≡ cause_text w
  of_field x e =
      ap (λ l. l ++ wrong w.kind) (sym (label_field x))
      ∙ (ap (λ o. field_refused (field_number x) o w.kind) (sym (has_range x).1)
      ∙ (ap (λ m. field_refused m (range m) w.kind) e ∙ ap (λ l. refused_text l w.kind) (sym at)))

  of_kind : (x : Field) (k : ParseErrorKind) (bs : List ℕ) → w.kind ≡ k → bs ≡ wrong k → field_number x ≡ n → field_name x ++ bs ≡ cause_text w
  of_kind x k bs q t e = ap (λ l. field_name x ++ l) (t ∙ ap wrong (sym q)) ∙ of_field x e

others : (k : ParseErrorKind) → (k ≡ OutOfRange → ⊥) → (k ≡ Impossible → ⊥) → codes ": " ++ kind_text k ≡ wrong k
others OutOfRange p q = absurd (p refl)
others Impossible p q = absurd (q refl)
others Invalid p q = refl
others TooShort p q = refl
others TooLong p q = refl
others BadFormat p q = refl
others NotText p q = refl

pub returns-in-OutOfRange-clause-writes : goal.returns-in-OutOfRange-clause-writes
returns-in-OutOfRange-clause-writes g c = λ p ok.
    let e = of_kind c.args.self.now c.in-Field.number c.in-Field.is c.in-Ok.field OutOfRange (codes " is out of range") c.in-OutOfRange.is refl c.in-Ok.ensures in
    has_written_of_eq g.W.Write.write_str_gives c.args.f.now _ (cause_text c.args.self.now) c.write-in-OutOfRange.new.self e (c.write-in-OutOfRange.ensures.writes p ok)

pub returns-in-Impossible-clause-writes : goal.returns-in-Impossible-clause-writes
returns-in-Impossible-clause-writes g c = λ p ok.
    let e = of_kind c.args.self.now c.in-Field.number c.in-Field.is c.in-Ok.field Impossible (codes " holds another value") c.in-Impossible.is refl c.in-Ok.ensures in
    has_written_of_eq g.W.Write.write_str_gives c.args.f.now _ (cause_text c.args.self.now) c.write-in-Impossible.new.self e (c.write-in-Impossible.ensures.writes p ok)

pub returns-in_default-kind-clause-writes : goal.returns-in_default-kind-clause-writes
returns-in_default-kind-clause-writes g c = λ p ok.
    let k = c.args.self.now.kind in
    let e = of_kind c.args.self.now c.in-Field.number c.in-Field.is c.in-Ok.field k (codes ": " ++ kind_text k) refl (others k c.in_default-kind.not-OutOfRange c.in_default-kind.not-Impossible) c.in-Ok.ensures in
    has_written_of_eq g.W.Write.write_str_gives c.args.f.now _ (cause_text c.args.self.now) c.write-in_default-kind.new.self e (c.write-in_default-kind.ensures.writes p ok)
