use Rattle.std.proofs.Common.{rules, tests}
use Rattle.std.proofs.lemmas.Fn.{always_returns_same}
use Rattle.documents.specs.Tests.{comes_before}
use Rattle.js_text.proofs.RisingLemmas.{sorted-rise}
use Rattle.js_text.proofs.part_reader.are_rising.Goals as goal

pub returns : goal.returns
returns c =
    sorted-rise c.args.members.now c.is_sorted_by.result
    (c.is_sorted_by.ensures.cases (λ m n. comes_before m.name n.name)
    (always_returns_same _ _ _ (λ a r q k. search (rules, tests))))
