-- Zones of mail: the search of the table, names, and letters.
use Rattle.std.proofs.Common.{◌≡◌, ℕ, ◌<◌, ◌≤◌, Bool, true, false, cond, eqb, List, [], ◌∷◌, IfSome, Some, None, Option, sym, refl, subst, arith, rules, Bor}
use Rattle.scan.specs.Letters.{alike}
use Rattle.std.proofs.lemmas.Bool.Decides.{nat_tests}
use Rattle.std.proofs.lemmas.Bool.{cond_both}
use Rattle.std.specs.Char.{to_ascii_lowercase, is_ascii_alphabetic}
use Rattle.std.specs.List.{find}
use Rattle.std.specs.Option.{option_map}
use Rattle.text.specs.Cuts.{Cut}
use Rattle.text.proofs.Cutting.{prefix_cut}
use Rattle.std.specs.Option.{option_or}
use Rattle.zones.specs.Mail.{entries, listed, zone_table, military, behind, letters_at}

-- ---- the table
pick : (b : Bool) (z : Bor (List ℕ) × ℕ) (o : Option (Bor (List ℕ) × ℕ)) → cond b (Some z.1) (option_map (λ z. z.1) o) ≡ option_map (λ z. z.1) (cond b (Some z) o)
pick true z o = refl
pick false z o = refl

-- as a search of the rows
pub listed_find : (zs : List (Bor (List ℕ) × ℕ)) (name : List ℕ) → listed (entries zs) name ≡ option_map (λ z. z.1) (find (λ z. alike name z.0.now) zs)
unfolding listed
listed_find [] name = refl
listed_find (z ∷ zs) name = rw (listed_find zs name) (pick (alike name z.0.now) z _)

-- ---- no zone is more than eight hours behind
abbrev Few : Option ℕ → Type 0
Few o = IfSome o (λ h. h ≤ 8)

abbrev AllFew : List (List ℕ × ℕ) → Type 0
AllFew [] = Unit {0}
AllFew (z ∷ zs) = (z.1 ≤ 8) × AllFew zs

few_listed : (zs : List (List ℕ × ℕ)) (name : List ℕ) → AllFew zs → Few (listed zs name)
unfolding listed
few_listed [] name a = tt
few_listed (z ∷ zs) name a = cond_both (alike name z.0) (Some z.1) (listed zs name) Few (λ _. a.0) (λ _. few_listed zs name a.1)

few_military : (s : List ℕ) → Few (military s)
few_military [] = tt
few_military (a ∷ []) = cond_both (eqb (to_ascii_lowercase a) 106) None (Some 0) Few (λ _. tt) (λ _. omega arith)
few_military (a ∷ b ∷ bs) = tt

few_or : (o p : Option ℕ) → Few o → Few p → Few (option_or o p)
few_or None p a b = b
few_or (Some h) p a b = a

table_few : AllFew zone_table
table_few = search rules

pub behind_few : (name : List ℕ) (r : Option ℕ) → r ≡ behind name → Few r
unfolding behind
behind_few name r e = subst Few (sym e) (few_or (listed zone_table name) (military name) (few_listed zone_table name table_few) (few_military name))

-- ---- letters
letter_ascii : (b : ℕ) → is_ascii_alphabetic b ≡ true → b < 128
letter_ascii b e = grind (arith, nat_tests)

pub letters_cut : (s : List ℕ) → Cut s (letters_at s)
unfolding letters_at
letters_cut s = prefix_cut is_ascii_alphabetic letter_ascii s
