use Rattle.std.proofs.Common.{◌≡◌, ℕ, true, false, List, [], ◌∷◌, ◌++◌, ℤ, None, Err, sym, ap, ◌∙◌, subst, arith, w64, to_z, of_z, rules}
use Rattle.std.proofs.lemmas.Int.{to_z-of_z}
use Rattle.std.proofs.lemmas.Bool.{cond-false}
use Rattle.collect.specs.Fields.{fits, named}
use Rattle.collect.specs.Judge.{refused}
use Rattle.collect.specs.Faults.{verdict}
use Rattle.collect.proofs.Ranges.{named_field}
use Rattle.docket.specs.declared.entry.Entry.{Entry}
use Rattle.docket.specs.Entries.{look, apart, fit}
use Rattle.docket.specs.Listed.{entries_of}
use Rattle.docket.specs.Noted.{Noted}
use Rattle.docket.specs.Pushed.{entry, apart_push, fit_push}
use Rattle.docket.proofs.Numbers.{room}
use Rattle.docket.proofs.offers.DocketCollector.offer.Goals as goal

outside : (es : List Entry) (f : ℕ) (v : ℤ) → named f ≡ f → fits f v ≡ false → Noted es f v (refused 1 4 f) es
outside es f v n q =
    record { answer = sym (cond-false (fits f v) _ _ q ∙ ap (refused 1 4) n); list = sym (cond-false (fits f v) _ es q) }

module _ (es fs : List Entry) (k : ℕ) (v w : ℤ) (e : fs ≡ es ++ entry k w ∷ []) where
  differ : look es k ≡ None → apart es ≡ true → apart fs ≡ true
  differ free a = ap apart e ∙ apart_push es k w free a

  fitted : w ≡ v → fits k v ≡ true → fit es ≡ true → fit fs ≡ true
  fitted q f a = ap fit e ∙ fit_push es k w (subst (λ x. fits k x ≡ true) (sym q) f) a

pub returns-then-not-admits : goal.returns-then-not-admits
returns-then-not-admits c =
    let q : fits c.args.field c.args.value ≡ false = search rules in
    let es = entries_of c.args.self.now in
    subst (λ w. Noted es c.args.field c.args.value (verdict (Err w)) es) (sym c.of_field.ensures)
    (subst (λ n. Noted es c.args.field c.args.value (refused 1 4 n) es) (sym c.in_ok-known.ensures)
    (outside es c.args.field c.args.value (subst (λ n. named n ≡ n) c.in_ok-known.ensures (named_field c.in_ok-known.known)) q))

pub push_reserved-requires : goal.push_reserved-requires
push_reserved-requires c =
    let es = entries_of c.args.self.now in
    let n : look es c.args.field ≡ None = search rules in
    let f : fits c.args.field c.args.value ≡ true = search rules in
    omega (arith, room es c.args.field c.args.value n f c.args.self.now.distinct c.args.self.now.fitting)

pub invariant_of-self : goal.invariant_of-self
invariant_of-self c =
    let es = entries_of c.args.self.now in
    let n : look es c.args.field ≡ None = search rules in
    let f : fits c.args.field c.args.value ≡ true = search rules in
    let w = to_z w64 (of_z w64 c.args.value) in
    record {
      room = search rules;
      distinct = differ es _ c.args.field c.args.value w c.push_reserved.ensures.items n c.args.self.now.distinct;
      fitting = fitted es _ c.args.field c.args.value w c.push_reserved.ensures.items (to_z-of_z w64 c.args.value c.ranges.value) f c.args.self.now.fitting;
    }
