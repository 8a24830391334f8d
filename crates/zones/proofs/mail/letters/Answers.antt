use Rattle.std.proofs.Common.{rules, sym, ◌∙◌, subst}
use borrow.Author.Tests.{tests}
use Rattle.std.specs.Char.{is_ascii_alphabetic}
use Rattle.std.proofs.lemmas.Iterator.{YieldsList-from_slice}
use Rattle.std.proofs.lemmas.Iterator.Consumers.{count_from_yields_List}
use Rattle.std.proofs.lemmas.Iterator.Search.{YieldsList-from_take_while}
use Rattle.std.proofs.lemmas.List.Folds.{length-prefix_len}
use Rattle.text.specs.Cuts.{Cut}
use Rattle.zones.proofs.Named.{letters_cut}
use Rattle.zones.specs.Mail.{letters_at}
use Rattle.zones.proofs.mail.letters.Goals as goal

pub returns : goal.returns
unfolding letters_at
returns c =
    let v = count_from_yields_List c.take_while.result _ c.count.ensures.ran
    (YieldsList-from_take_while _ is_ascii_alphabetic (YieldsList-from_slice c.args.s.now (cc)) c.take_while.ensures.closure c.take_while.ensures.done (λ x b q k. search (rules, tests)))
    ∙ length-prefix_len is_ascii_alphabetic c.args.s.now in
    record { value = v; cut = subst (λ k. Cut c.args.s.now k) (sym v) (letters_cut c.args.s.now) }
