use Rattle.std.proofs.Common.{◌≡◌, ℕ, ◌+◌, ◌<◌, true, List, ◌++◌, map, length, get_or, take, pos, codes, sym, refl, ap, ◌∙◌}
use Rattle.std.proofs.Output.{has_written_append, has_written_of_eq}
use Rattle.std.proofs.lemmas.List.{map_more}
use Rattle.collect.specs.Shown.{spaced}
use Rattle.collect.proofs.Texts.{spaced_more}
use Rattle.docket.specs.declared.entry.Entry.{Entry}
use Rattle.docket.specs.Shown.{entry_text}
use Rattle.docket.specs.Pushed.{entry}
use Rattle.docket.proofs.shown.DocketDisplay.fmt.Goals as goal

-- the entries, each with a blank in front
abbrev more_text : List Entry → List ℕ
more_text es = spaced (map entry_text es)

next : (es : List Entry) (i : ℕ) → i < length es → more_text (take i es) ++ (codes " " ++ entry_text (get_or es i (entry 0 (pos 0)))) ≡ more_text (take (i + 1) es)
next es i h = sym (ap spaced (map_more entry_text es i (entry 0 (pos 0)) h) ∙ spaced_more (map entry_text (take i es)) _)

pub loop-e-preserved : goal.loop-e-preserved
loop-e-preserved g c = λ p.
    let es = c.in-Some.rest.now in
    let i = c.loop-e.e-index in
    let sofar = more_text (take i es) in
    let this = codes " " ++ entry_text (get_or es i (entry 0 (pos 0))) in
    let x = c.loop-e.invariant p in
    has_written_of_eq g.W.Write.write_str_gives c.write.new.self (sofar ++ this) (more_text (take (i + 1) es)) c.write-in-loop-e.new.self (next es i c.loop-e-test.true)
    (has_written_append g.W.Write.write_str_gives c.write.new.self sofar c.loop-e.f this c.write-in-loop-e.new.self x (c.in_ok-write-2.ensures.writes x.plain (refl {a = true})))
