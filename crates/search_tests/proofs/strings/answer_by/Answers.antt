-- A leaf with an alternative has a word.
use Rattle.js_expansion.specs.AlternativeView.{alternative_view}
use Rattle.js_strings.proofs.LeafLaws.{leaf_found, filled}
use Rattle.search_tests.proofs.strings.answer_by.Goals as goal

pub string_words-requires-clause-found : goal.string_words-requires-clause-found
string_words-requires-clause-found c =
    leaf_found c.args.core.now.positions c.args.set 0 c.in-Ok.leaf.alternatives c.in-Ok.ensures.leaf
    (filled alternative_view c.as_slice.result.now c.in-Ok.leaf.alternatives c.is_empty.result c.is_empty.ensures
    c.if-is_empty.false c.as_slice.ensures)
