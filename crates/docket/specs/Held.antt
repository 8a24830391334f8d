-- What a list of entries holds after an offer, as a table.
use Rattle.std.specs.Prelude.{◌≡◌, ℕ, Bool, cond, List, ℤ, Some, None, Option, refl}
use Rattle.std.proofs.Common.{arith}
use Rattle.std.proofs.lemmas.Bool.Decides.{nat_tests}
use Rattle.collect.specs.Fields.{fits}
use Rattle.collect.specs.Tables.{Table, put, single, met}
use Rattle.collect.specs.Judge.{with_joined, kept}
use Rattle.docket.specs.declared.entry.Entry.{Entry}
use Rattle.docket.specs.Entries.{look}
use Rattle.docket.specs.Noted.{first_grant, noted}
use Rattle.docket.specs.Pushed.{look_push}

-- to put what is held changes nothing
put_held : (t : Table ℤ) (f : ℕ) (w : ℤ) → t f ≡ Some w → (g : ℕ) → t g ≡ put t f w g
put_held t f w q g = grind (arith, nat_tests)

again : (t : Table ℤ) (f : ℕ) (w : ℤ) (b : Bool) → t f ≡ Some w → (g : ℕ) → t g ≡ with_joined (cond b (Some w) None) t f g
again t f w b q g = grind (arith, put_held t f w q g)

by_held : (es : List Entry) (f : ℕ) (v : ℤ) (b : Bool) (m : Option ℤ) → look es f ≡ m → (g : ℕ) → look (cond b (first_grant m es f v) es) g ≡ cond b (with_joined (met single m v) (look es) f) (look es) g
by_held es f v b m q g = grind (arith, nat_tests, look_push es f v, again (look es) f)

pub noted_kept : (es : List Entry) (f : ℕ) (v : ℤ) → look (noted es f v) ≡ kept (look es) f v
noted_kept es f v = λ i g. by_held es f v (fits f v) (look es f) refl g i
