-- One more entry in a list of entries that are apart and fit.
use Rattle.std.specs.Prelude.{◌≡◌, ℕ, true, false, List, [], ◌∷◌, ◌++◌, ℤ, None, ◌==◌, refl}
use Rattle.std.proofs.Common.{arith}
use Rattle.std.proofs.lemmas.Bool.Decides.{nat_tests}
use Rattle.collect.specs.Fields.{fits}
use Rattle.collect.specs.Tables.{put}
use Rattle.collect.specs.Judge.{Ranged}
use Rattle.docket.specs.declared.entry.Entry.{Entry}
use Rattle.docket.specs.Entries.{look, apart, fit}

abbrev pub entry : ℕ → ℤ → Entry
entry k v = record { field = k; value = v }

-- a field that the list lacks, the first entry's is not
pub other : (e : Entry) (es : List Entry) (k : ℕ) → look (e ∷ es) k ≡ None → (look es k ≡ None) × ((e.field == k) ≡ false)
other e es k n = grind (arith, nat_tests)

-- an entry of a field that has none yet
pub look_push : (es : List Entry) (k : ℕ) (v : ℤ) → look es k ≡ None → (j : ℕ) → look (es ++ entry k v ∷ []) j ≡ put (look es) k v j
look_push [] k v n j = grind (arith, nat_tests)
look_push (e ∷ es) k v n j = grind (arith, nat_tests, look_push es k v)

pub apart_push : (es : List Entry) (k : ℕ) (v : ℤ) → look es k ≡ None → apart es ≡ true → apart (es ++ entry k v ∷ []) ≡ true
apart_push [] k v n a = refl
apart_push (e ∷ es) k v n a = grind (arith, nat_tests, look_push es k v, apart_push es k v)

pub fit_push : (es : List Entry) (k : ℕ) (v : ℤ) → fits k v ≡ true → fit es ≡ true → fit (es ++ entry k v ∷ []) ≡ true
fit_push [] k v n a = grind (arith, nat_tests)
fit_push (e ∷ es) k v n a = grind (arith, nat_tests, fit_push es k v)

-- what is found fits
pub look_fits : (es : List Entry) → fit es ≡ true → Ranged (look es)
look_fits [] a f v h = cc
look_fits (e ∷ es) a f v h = grind (arith, nat_tests, look_fits es)
