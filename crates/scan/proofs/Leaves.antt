-- What every leaf's proof uses: its cut from its value, and the exits of `?`.
use Rattle.std.proofs.Common.{◌≡◌, ℕ, List, IfOk, Ok, Err, Result, sym, ap, ◌∙◌, subst}
use Rattle.scan.specs.declared.kind.ParseErrorKind.{ParseErrorKind}
use Rattle.scan.specs.Steps.{bind, CutsMark}
use Rattle.text.specs.Cuts.{Cut}

-- what is said of the definition holds of the answer
pub made_by : {A : Type 0} (P : A → Type 0) (r x : Result A ParseErrorKind) → r ≡ x → IfOk x P → IfOk r P
made_by P r x e c = subst (λ y. IfOk y P) (sym e) c

-- so an answer cuts where its definition does
pub cuts_mark_by : (s : List ℕ) (r x : Result ℕ ParseErrorKind) → r ≡ x → CutsMark s x → CutsMark s r
cuts_mark_by s r x e c = made_by (λ n. Cut s n) r x e c

-- the exit of a `?`: what is returned is the kind that came
pub exits : {A : Type 0} (r x : Result A ParseErrorKind) (y e : ParseErrorKind) → r ≡ Err y → y ≡ e → Err e ≡ x → r ≡ x
exits r x y e p q h = p ∙ (ap Err q ∙ h)

-- one step after another: the first is granted, or refused
pub then_ok : {A B : Type 0} (x : Result A ParseErrorKind) (f : A → Result B ParseErrorKind) (a : A) → Ok a ≡ x → f a ≡ bind x f
then_ok x f a e = ap (λ y. bind y f) e

pub then_err : {A B : Type 0} (x : Result A ParseErrorKind) (f : A → Result B ParseErrorKind) (d : ParseErrorKind) → Err d ≡ x → Err d ≡ bind x f
then_err x f d e = ap (λ y. bind y f) e
