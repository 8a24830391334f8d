-- Entries that are apart and fit are no more than there are fields.
use Rattle.std.proofs.Common.{◌≡◌, ℕ, ◌<◌, ◌≤◌, true, false, eqb, List, [], ◌∷◌, map, length, ℤ, None, refl, arith}
use Rattle.std.specs.List.{AllByRecursion, IsDistinct, list_any}
use Rattle.std.proofs.lemmas.Bool.Decides.{nat_tests}
use Rattle.std.proofs.lemmas.List.{length-map}
use Rattle.std.proofs.lemmas.Map.Keys.{IsDistinct-cons}
use Rattle.std.proofs.lemmas.Map.Steps.{length-le_from_distinct_below}
use Rattle.collect.specs.Fields.{range, fits}
use Rattle.collect.proofs.Ranges.{beyond, nothing}
use Rattle.docket.specs.declared.entry.Entry.{Entry}
use Rattle.docket.specs.Entries.{look, apart, fit}
use Rattle.docket.specs.Pushed.{entry, look_fits}

abbrev fields_of : List Entry → List ℕ
fields_of es = map (λ e. e.field) es

-- no entry is of a field that the list lacks
lacks : (es : List Entry) (k : ℕ) → look es k ≡ None → AllByRecursion (λ j. eqb k j ≡ false) (fields_of es)
lacks [] k n = tt
lacks (e ∷ es) k n = (grind (arith, nat_tests), lacks es k (grind (arith, nat_tests)))

distinct : (es : List Entry) → apart es ≡ true → IsDistinct eqb (fields_of es)
unfolding IsDistinct
distinct [] a = tt
distinct (e ∷ es) a = (lacks es e.field (grind (arith, nat_tests)), distinct es (grind (arith, nat_tests)))

-- what fits is of a field, and 22 is the first number above those of the fields
below : (es : List Entry) → fit es ≡ true → (q : ℕ) → list_any (eqb q) (fields_of es) ≡ true → q < 22
below [] b q h = cc
below (e ∷ es) b q h = grind (arith, nat_tests, below es, beyond e.field)

none : range 0 ≡ None
unfolding range
none = refl

-- the numbers of their fields are distinct and below 22, and 0 is the number of none
at_most : (es : List Entry) → apart es ≡ true → fit es ≡ true → length es ≤ 21
at_most es a b =
    let d = IsDistinct-cons eqb 0 (fields_of es) (lacks es 0 (nothing (look es) (look_fits es b) 0 none)) (distinct es a) in
    let small : (q : ℕ) → list_any (eqb q) (0 ∷ fields_of es) ≡ true → q < 22 = λ q h. grind (arith, nat_tests, below es b q) in
    omega (arith, length-le_from_distinct_below (0 ∷ fields_of es) 22 d small, length-map es (λ (e : Entry). e.field))

-- an offer to a field that is free finds room
pub room : (es : List Entry) (k : ℕ) (v : ℤ) → look es k ≡ None → fits k v ≡ true → apart es ≡ true → fit es ≡ true → length es < 21
room es k v n f a b = omega (arith, at_most (entry k v ∷ es) (grind (arith, nat_tests)) (grind (arith, nat_tests)))
