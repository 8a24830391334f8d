-- The search of a table of names.
use Rattle.std.proofs.Common.{◌≡◌, ℕ, ◌<◌, ◌≤◌, Bool, true, false, cond, ltb, List, [], ◌∷◌, length, take, min, arith, IfSome, IfOk, Ok, Err, Some, None, Option, Result, refl, sym, ap, ◌∙◌, Bor}
use Rattle.std.proofs.lemmas.List.{take_min}
use Rattle.std.proofs.lemmas.Bool.{and_parts, cond_both, cond-false, ltb-true, le-ltb}
use Rattle.std.specs.List.{find, list_all}
use Rattle.std.specs.Option.{ok_or, option_map}
use Rattle.scan.specs.declared.kind.ParseErrorKind.{ParseErrorKind}
use Rattle.scan.specs.declared.kind.ParseErrorKind.TheVariants.{Invalid, TooShort}
use Rattle.scan.specs.Steps.{bind}
use Rattle.scan.proofs.Leaves.{made_by}
use Rattle.names.specs.Names.{begins_alike, entries, said, months, entry_at, short_at, taken, short_or_long_at, short_month0_at, short_or_long_month0_at}

-- the first three letters, or all of them
pub three : (n : List ℕ) → take (min (length n) 3) n ≡ take 3 n
three n = let c : min (length n) 3 ≡ min 3 (length n) = omega arith in ap (λ k. take k n) c ∙ take_min 3 n

module _ {A : Type 0} where
  -- a search of references is one of what they say
  picked : (t : Bor (List ℕ) × A) (o : Option (Bor (List ℕ) × A)) (q : Option (List ℕ × A)) → option_map (λ e. (e.0.now, e.1)) o ≡ q
      → (b : Bool) → option_map (λ e. (e.0.now, e.1)) (cond b (Some t) o) ≡ cond b (Some (t.0.now, t.1)) q
  picked t o q e true = refl
  picked t o q e false = e

  searched : (p : List ℕ → Bool) (ts : List (Bor (List ℕ) × A)) → option_map (λ e. (e.0.now, e.1)) (find (λ t. p t.0.now) ts) ≡ find (λ e. p e.0) (entries ts)
  searched p [] = refl
  searched p (t ∷ ts) = picked t _ _ (searched p ts) (p t.0.now)

  said_of : (o : Option (Bor (List ℕ) × A)) → said (ok_or o Invalid) ≡ ok_or (option_map (λ e. (e.0.now, e.1)) o) Invalid
  said_of None = refl
  said_of (Some e) = refl

  pub placed : (ts : List (Bor (List ℕ) × A)) (s : List ℕ) (o : Option (Bor (List ℕ) × A)) (r : Result (Bor (List ℕ) × A) ParseErrorKind) → 3 ≤ length s
      → r ≡ ok_or o Invalid → o ≡ find (λ t. begins_alike (take 3 t.0.now) s) ts → said r ≡ entry_at (entries ts) s
  unfolding entry_at
  placed ts s o r l e q =
      ap said e ∙ (said_of o ∙ (ap (λ x. ok_or (option_map (λ e. (e.0.now, e.1)) x) Invalid) q
      ∙ (ap (λ x. ok_or x Invalid) (searched (λ n. begins_alike (take 3 n) s) ts) ∙ sym (cond-false _ _ _ (le-ltb _ _ l)))))

  -- what holds of each entry holds of the one that is found, whose short form is there
  module _ (P : List ℕ × A → Bool) where
    abbrev Both : (List ℕ × A → Bool) → List ℕ × A → Type 0
    Both p e = (P e ≡ true) × (p e ≡ true)

    found : (p : List ℕ × A → Bool) (es : List (List ℕ × A)) → list_all P es ≡ true → IfSome (find p es) (Both p)
    found p [] a = tt
    found p (e ∷ es) a =
        let q = and_parts (P e) (list_all P es) a in
        cond_both (p e) (Some e) (find p es) (λ o. IfSome o (Both p)) (λ t. (q.0, t)) (λ _. found p es q.1)

    granted : (p : List ℕ × A → Bool) (n : List ℕ × A → ℕ) (R : A × ℕ → Type 0) (o : Option (List ℕ × A)) → IfSome o (Both p)
        → ((e : List ℕ × A) → P e ≡ true → p e ≡ true → R (e.1, n e)) → IfOk (bind (ok_or o Invalid) (λ e. Ok (e.1, n e))) R
    granted p n R None a h = tt
    granted p n R (Some e) a h = h e a.0 a.1

    pub if_found : (n : List ℕ × A → ℕ) (R : A × ℕ → Type 0) (es : List (List ℕ × A)) (s : List ℕ) → list_all P es ≡ true
        → ((e : List ℕ × A) → P e ≡ true → begins_alike (take 3 e.0) s ≡ true → R (e.1, n e)) → IfOk (bind (entry_at es s) (λ e. Ok (e.1, n e))) R
    unfolding entry_at
    if_found n R es s a h =
        let p : List ℕ × A → Bool = λ e. begins_alike (take 3 e.0) s in
        cond_both (ltb (length s) 3) (Err TooShort) (ok_or (find p es) Invalid) (λ r. IfOk (bind r (λ e. Ok (e.1, n e))) R)
        (λ _. tt) (λ _. granted p n R (find p es) (found p es a) h)

-- a month is below 12
module _ (s : List ℕ) (r : Result (ℕ × ℕ) ParseErrorKind) where
  below : (n : List ℕ × ℕ → ℕ) → IfOk {T = ℕ × ℕ} {E = ParseErrorKind} (bind (entry_at months s) (λ e. Ok (e.1, n e))) (λ p. p.0 < 12)
  below n = if_found (λ e. ltb e.1 12) n (λ p. p.0 < 12) months s refl (λ e b _. ltb-true _ _ b)

  pub short_below : r ≡ short_month0_at s → IfOk r (λ p. p.0 < 12)
  unfolding short_month0_at short_at
  short_below e = made_by (λ p. p.0 < 12) _ _ e (below (λ _. 3))

  pub short_or_long_below : r ≡ short_or_long_month0_at s → IfOk r (λ p. p.0 < 12)
  unfolding short_or_long_month0_at short_or_long_at
  short_or_long_below e = made_by (λ p. p.0 < 12) _ _ e (below (λ e. taken e.0 s))
