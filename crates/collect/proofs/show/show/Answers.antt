-- Each turn writes the value of one field, if it has one.
use Rattle.std.proofs.Common.{◌≡◌, ℕ, ◌+◌, ◌<◌, true, List, [], ◌∷◌, ◌++◌, get_or, take, ℤ, Some, None, codes, Option, sym, refl, ap, ◌∙◌, append-nil, w64, SFits, to_z, of_z, rules}
use lib.Utf8.{encode}
use denote.Shadow.{shadow}
use denote.Text.{Utf8}
use Rattle.std.proofs.lemmas.List.{take_more, flat_map_more}
use Rattle.std.proofs.lemmas.Int.{to_z-of_z}
use Rattle.std.specs.List.{flat_map}
use Rattle.std.specs.Fmt.{signed_decimal}
use Rattle.collect.specs.Fields.{field_number, field_name}
use Rattle.collect.specs.Shown.{fields, text_of, held_text}
use Rattle.collect.specs.Tables.{Table}
use Rattle.collect.specs.declared.field.Field.{Field}
use Rattle.collect.specs.declared.field.Field.TheVariants.{Year}
use Rattle.collect.proofs.Ranges.{label_field}
use Rattle.collect.proofs.Texts.{one_more, moved}
use Rattle.collect.proofs.show.show.Goals as goal
use Rattle.collect.proofs.show.show.Goals.{in-Some+in_ok-write, in_default}

-- the texts of the first fields
abbrev texts : Table ℤ → ℕ → List (List ℕ)
texts t i = flat_map (held_text t) (take i fields)

abbrev field : ℕ → Field
field i = get_or fields i Year

abbrev number : ℕ → ℕ
number i = field_number (field i)

abbrev written : ℕ → ℤ → List ℕ
written i v = field_name (field i) ++ (codes "=" ++ signed_decimal v)

next : (t : Table ℤ) (i n : ℕ) (o : Option ℤ) → i < 21 → n ≡ number i → o ≡ t n → texts t i ++ text_of (number i) o ≡ texts t (i + 1)
next t i n o h q e =
    ap (λ v. texts t i ++ text_of (number i) v) (e ∙ ap t q)
    ∙ (flat_map_more (held_text t) [] (take i fields) _ ∙ ap (flat_map (held_text t)) (sym (take_more fields i Year h)))

next_some : (t : Table ℤ) (i n : ℕ) (v u : ℤ) → i < 21 → n ≡ number i → u ≡ v → Some v ≡ t n → texts t i ++ written i u ∷ [] ≡ texts t (i + 1)
next_some t i n v u h q s e =
    ap (λ l. texts t i ++ (l ++ (codes "=" ++ signed_decimal u)) ∷ []) (sym (label_field (field i))) ∙ next t i n (Some u) h q (ap Some s ∙ e)

next_none : (t : Table ℤ) (i n : ℕ) → i < 21 → n ≡ number i → None ≡ t n → texts t i ≡ texts t (i + 1)
next_none t i n h q e = sym (append-nil (texts t i)) ∙ next t i n None h q e

is_text : (b : List ℕ) → b ≡ codes " " → shadow (Utf8 b)
unfolding encode
is_text b e = (codes " ", (refl, sym e))

pub loop-field-preserved : goal.loop-field-preserved
loop-field-preserved g c =
    let took = g.W.Write.write_str_gives in
    let f = c.args.f.now in
    let t = g.C.Collector.table c.args.c.now in
    let i = c.loop-field.field-index in
    let xs = texts t i in
    let ys = texts t (i + 1) in
    elim c.match-ask.branch [
      | in-Some+in_ok-write w ↦
          let v = w.in-Some.value in
          let s : SFits w64 v = search rules in
          let u = to_z w64 (of_z w64 v) in
          let e = next_some t i c.number.result v u c.loop-field-test.true c.number.ensures (to_z-of_z w64 v s) w.in-Some.ensures in
          let b : c.match-ask.blank.now ≡ codes " " = ap (λ r. r.now) w.blank-is in (
            is_text c.match-ask.blank.now b,
            moved took f (codes " ") c.match-ask.blank.now w.write.new.self c.match-ask.f (xs ++ written i u ∷ []) ys b w.f-is e
                (one_more took f c.loop-field.blank.now c.loop-field.f w.write.new.self xs (written i u) c.loop-field.invariant.1 (λ q. w.in_ok-write.ensures.writes q (refl {a = true}))),
          )
      | in_default w ↦
          let e = next_none t i c.number.result c.loop-field-test.true c.number.ensures w.in_default.ensures in
          let b : c.match-ask.blank.now ≡ c.loop-field.blank.now = ap (λ r. r.now) w.blank-is in
          let z = c.loop-field.invariant.0 in (
            (z.0, (z.1.0, z.1.1 ∙ sym b)),
            moved took f c.loop-field.blank.now c.match-ask.blank.now c.loop-field.f c.match-ask.f xs ys b w.f-is e c.loop-field.invariant.1,
          )
    ]
