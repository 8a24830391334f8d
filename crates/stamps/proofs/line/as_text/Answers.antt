use Rattle.std.proofs.Common.{◌≡◌, ℕ, List, IsUtf8, sym, refl, subst}
use Rattle.std.proofs.lemmas.Result.{err_from_is_err_and}
use Rattle.std.specs.Str.{IsValidUpTo, valid_up_to}
use Rattle.text.proofs.Ends.{check_yes, check_no, from_std}
use Rattle.stamps.specs.Lines.{not_text, NoText}
use Rattle.stamps.specs.declared.line.Refusal.{Refusal}
use Rattle.stamps.proofs.line.as_text.Goals as goal

-- the library's place is that of the check of text
refused : (s : List ℕ) (n : ℕ) (r : Refusal) → (IsUtf8 s → ⊥) × IsValidUpTo s n → r ≡ not_text n → NoText s r
refused s n r h e =
    let l = from_std s n n h.1 refl in
    subst (NoText s) (sym e) (refl, sym (check_no s n l h.1.short), (h.0, l))

pub returns-in_err-from_utf8 : goal.returns-in_err-from_utf8
returns-in_err-from_utf8 c =
    let p = err_from_is_err_and c.from_residual.result c.from_residual.ensures.1 in
    rw (p.1) (refused c.args.bytes.now (valid_up_to c.in_err-from_utf8.field-0.0) p.0 c.in_err-from_utf8.ensures.cases p.2)

pub returns : goal.returns
returns c =
    let h = c.in_ok-from_utf8.ensures.cases in
    (h.0, sym (check_yes c.args.bytes.now h.1), h.1)
