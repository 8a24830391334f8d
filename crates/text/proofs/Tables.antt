-- A search of a table, from a place on.
use Rattle.std.proofs.Common.{◌≡◌, ℕ, ◌+◌, ◌<◌, ◌≤◌, true, false, List, length, get_or, drop, sym, ◌∙◌, arith}
use Rattle.std.proofs.lemmas.List.{at_drop_more, at_drop_all}
use Rattle.std.proofs.lemmas.Bool.Decides.{nat_tests}
use Rattle.text.specs.Chars.{among}

pub passed : (c : ℕ) (bs : List ℕ) (i : ℕ) → i < length bs → (c ≡ get_or bs i 0 → ⊥) → among c (drop (i + 1) bs) ≡ among c (drop i bs)
unfolding among
passed c bs i h n = sym (at_drop_more (among c) bs i 0 h ∙ grind (arith, nat_tests))

pub found : (c : ℕ) (bs : List ℕ) (i : ℕ) → i < length bs → c ≡ get_or bs i 0 → among c (drop i bs) ≡ true
unfolding among
found c bs i h e = at_drop_more (among c) bs i 0 h ∙ grind (arith, nat_tests)

pub missed : (c : ℕ) (bs : List ℕ) (i : ℕ) → length bs ≤ i → among c (drop i bs) ≡ false
unfolding among
missed c bs i h = at_drop_all (among c) bs i h
