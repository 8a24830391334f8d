use Rattle.std.proofs.Common.{◌≡◌, ℕ, ◌+◌, ◌<◌, List, length, get_or, drop, pos, Some, sym, ◌∙◌, arith, w64, SFits, rules}
use Rattle.std.proofs.lemmas.List.{at_drop_more, at_drop_all}
use Rattle.std.proofs.lemmas.Int.{to_z-of_z}
use Rattle.std.proofs.lemmas.Bool.Decides.{nat_tests}
use Rattle.docket.specs.declared.entry.Entry.{Entry}
use Rattle.docket.specs.Entries.{look}
use Rattle.docket.specs.Pushed.{entry}
use Rattle.docket.proofs.offers.sought.Goals as goal

module _ (es : List Entry) (i k : ℕ) (h : i < length es) where
  abbrev here : Entry
  here = get_or es i (entry 0 (pos 0))

  hit : here.field ≡ k → look (drop i es) k ≡ Some here.value
  hit e = at_drop_more (λ l. look l k) es i (entry 0 (pos 0)) h ∙ grind (arith, nat_tests)

  miss : (here.field ≡ k → ⊥) → look (drop (i + 1) es) k ≡ look (drop i es) k
  miss n = sym (at_drop_more (λ l. look l k) es i (entry 0 (pos 0)) h ∙ grind (arith, nat_tests))

pub returns-then-e-field : goal.returns-then-e-field
returns-then-e-field c =
    let f : SFits w64 (get_or c.args.entries.now c.loop-e.e-index (entry 0 (pos 0))).value = search rules in
    simp to_z-of_z (sym (sym c.loop-e.invariant ∙ hit c.args.entries.now c.loop-e.e-index c.args.field c.loop-e-test.true c.if-e-field.true))

pub loop-e-preserved : goal.loop-e-preserved
loop-e-preserved c = miss c.args.entries.now c.loop-e.e-index c.args.field c.loop-e-test.true c.if-e-field.false ∙ c.loop-e.invariant

pub returns : goal.returns
returns c = sym (sym c.loop-e.invariant ∙ at_drop_all (λ l. look l c.args.field) c.args.entries.now c.loop-e.e-index c.loop-e-test.false)
