-- Names take whole characters, since they are ASCII.
use Rattle.std.proofs.Common.{◌≡◌, ℕ, ◌<◌, ◌≤◌, true, leb, List, [], ◌∷◌, length, take, subst, sym, ◌∙◌, arith}
use Rattle.std.proofs.lemmas.Bool.{and_parts, cond_both, eqb-true, ltb-true, leb-true}
use Rattle.std.proofs.lemmas.Bool.Decides.{nat_tests}
use Rattle.std.proofs.lemmas.List.{length-take-le}
use Rattle.std.proofs.lemmas.List.Elements.{All-take}
use Rattle.std.proofs.lemmas.List.Folds.{list_all-map}
use Rattle.std.proofs.lemmas.List.Sums.{AllPass-from_list_all, list_all-from_AllPass}
use Rattle.std.specs.Char.{is_ascii, to_ascii_lowercase}
use Rattle.std.specs.List.{list_all}
use Rattle.scan.specs.Steps.{Cuts}
use Rattle.text.proofs.Cutting.{cut_none, cut_cons}
use Rattle.text.specs.Cuts.{Cut}
use Rattle.names.specs.Names.{begins_alike, is_name, names_of, AreNames, short_at, short_or_long_at, taken}
use Rattle.names.proofs.Entries.{if_found}

low : (b w : ℕ) → to_ascii_lowercase b ≡ to_ascii_lowercase w → w < 128 → b < 128
low b w e l = grind (arith, nat_tests)

cut_alike : (w s : List ℕ) → list_all is_ascii w ≡ true → begins_alike w s ≡ true → Cut s (length w)
unfolding begins_alike
cut_alike [] s p e = cut_none s
cut_alike (w ∷ ws) [] p e = absurd (grind arith)
cut_alike (w ∷ ws) (b ∷ bs) p e =
    let q = and_parts _ _ p in
    let f = and_parts _ _ e in
    subst (λ k. Cut (b ∷ bs) k) (omega arith)
    (cut_cons b bs (length ws) (low b w (eqb-true _ _ f.0) (ltb-true _ _ q.0)) (cut_alike ws bs q.1 f.1))

-- a name is ASCII, and so is its short form, of three letters
module _ (n : List ℕ) (a : is_name n ≡ true) (s : List ℕ) (e : begins_alike (take 3 n) s ≡ true) where
  parts : (list_all is_ascii n ≡ true) × (3 ≤ length n)
  parts = let p = and_parts (list_all is_ascii n) (leb 3 (length n)) a in (p.0, leb-true 3 _ p.1)

  short_cut : Cut s 3
  short_cut =
      let p = list_all-from_AllPass is_ascii (take 3 n) (All-take (λ b. is_ascii b ≡ true) 3 n (AllPass-from_list_all is_ascii n parts.0)) in
      subst (λ k. Cut s k) (length-take-le 3 n parts.1) (cut_alike (take 3 n) s p e)

  taken_cut : Cut s (taken n s)
  taken_cut = cond_both (begins_alike n s) _ 3 (λ k. Cut s k) (λ t. cut_alike n s parts.0 t) (λ _. short_cut)

module _ {A : Type 0} (es : List (List ℕ × A)) (s : List ℕ) (a : AreNames (names_of es)) where
  each : list_all (λ e. is_name e.0) es ≡ true
  each = sym (list_all-map is_name (λ e. e.0) es) ∙ a

  pub short_at_cut : Cuts s (short_at es s)
  unfolding short_at
  short_at_cut = if_found (λ e. is_name e.0) (λ _. 3) (λ p. Cut s p.1) es s each (λ e a b. short_cut e.0 a s b)

  pub short_or_long_at_cut : Cuts s (short_or_long_at es s)
  unfolding short_or_long_at
  short_or_long_at_cut = if_found (λ e. is_name e.0) (λ e. taken e.0 s) (λ p. Cut s p.1) es s each (λ e a b. taken_cut e.0 a s b)
