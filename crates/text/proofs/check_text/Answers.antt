use Rattle.std.proofs.Common.{◌≡◌, ℕ, List, Ok, Err, IsUtf8, Result, refl, sym, subst, arith, rules, MatchResult}
use Rattle.std.specs.Str.{IsValidUpTo, valid_up_to}
use Rattle.text.specs.Chars.{text_check}
use Rattle.text.specs.Cuts.{Checked}
use Rattle.text.proofs.Ends.{check_yes, check_no, from_std}
use Rattle.text.proofs.check_text.Goals as goal

-- the answer by cases, where V says how far an error is valid
answer : {T E : Type 0} (W : T → Type 0) (V : E → ℕ) (s : List ℕ) (r : Result T E) (a : Result (Unit {0}) ℕ)
    → MatchResult r (λ t. W t × IsUtf8 s) (λ e. (IsUtf8 s → ⊥) × IsValidUpTo s (V e)) → MatchResult r (λ _. a ≡ Ok tt) (λ e. a ≡ Err (V e))
    → (a ≡ text_check s) × Checked s a
answer W V s (Ok t) a h i = subst (λ b. (b ≡ text_check s) × Checked s b) (sym i) (check_yes s h.1, h.1)
answer W V s (Err e) a h i =
    let l = from_std s (V e) (V e) h.1 refl in
    let t = h.1.short in
    subst (λ b. (b ≡ text_check s) × Checked s b) (sym i) (check_no s (V e) l (omega arith), (h.0, l))

pub returns : goal.returns
returns c =
    let p = answer (λ t. t.now ≡ c.args.bytes.now) valid_up_to c.args.bytes.now c.from_utf8.result c.map_or_else.result c.from_utf8.ensures.cases (search rules) in
    record { value = p.0; meaning = p.1 }
