use borrow.Author.Tests.{tests}
use Rattle.std.proofs.Common.{◌≡◌, ◌≢◌, ℕ, List, length, Some, None, Option, MatchOption, Ok, Err, Result, MatchResult, rules}
use Rattle.std.specs.List.{AllWithin}
use Rattle.std.specs.Option.{option_map}
use Rattle.std.specs.Result.{result_ok}
use Rattle.std.proofs.lemmas.Iterator.{YieldsList-from_slice, first_from_find}
use Rattle.setters.specs.Names.{setter_name}
use Rattle.setters.specs.declared.setter.Setter.{Setter}
use Rattle.setters.specs.declared.setter.UnknownSetter.{UnknownSetter}
use Rattle.setters.proofs.Listed.{every, listed}
use Rattle.setters.proofs.setter.SetterFromStr.from_str.Goals as goal

-- what is found has the name, and where nothing is found no setter has it
by_find : {A : Type 0} (v : A → Setter) (w : List ℕ) (P : A → Type 0) (o : Option A) (r : Result Setter UnknownSetter) → option_map v o ≡ result_ok r → MatchOption o (AllWithin (λ x. setter_name x ≢ w) every 0 (length every)) P → ((x : A) → P x → setter_name (v x) ≡ w)
    → MatchResult r (λ x. setter_name x ≡ w) (λ _. (x : Setter) → setter_name x ≢ w)
by_find v w P (Some y) (Ok x) e h f = rw (let q : v y ≡ x = cc in q) at (f y h)
by_find v w P (Some y) (Err d) e h f = absurd (let q : Some (v y) ≡ None = e in cc)
by_find v w P None (Ok x) e h f = absurd (let q : None ≡ Some x = e in cc)
by_find v w P None (Err d) e h f = listed w h

pub returns : goal.returns
returns c =
    let w = c.args.name.now in
    let m : c.map.result ≡ option_map (λ x. x.now) c.find.result = search rules in
    let answered : option_map (λ x. x.now) c.find.result ≡ result_ok c.ok_or.result = cc in
    by_find (λ x. x.now) w _ _ _ answered
    (first_from_find _ _ c.find.result (λ x. setter_name x ≡ w) (λ x. setter_name x ≢ w) c.find.ensures.ran (YieldsList-from_slice every cc) (λ x q k. search (rules, tests)) (λ x q k. search (rules, tests))) (λ x h. h.0)
