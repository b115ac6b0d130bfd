use Rattle.std.proofs.Common.{map, rules, tests, ap, sym, ◌∙◌}
use Rattle.std.specs.Bool.{beq}
use Rattle.std.specs.List.{filter_map}
use Rattle.std.proofs.lemmas.Iterator.{YieldsList-from_slice}
use Rattle.std.proofs.lemmas.Iterator.Search.{any_from_yields_List}
use Rattle.documents.specs.Tests.{some}
use Rattle.normal_forms.specs.KeywordNodes.{truth_in}
use Rattle.js_doc.specs.View.{view, list_view}
use Rattle.js_doc.proofs.Levels.{elements-of}
use Rattle.js_values.proofs.GroupLemmas.{is_truth, is_truth-some}
use Rattle.js_values.proofs.groups.has_truth.Goals as goal

pub returns : goal.returns
returns c =
    let docs = c.as_slice.result.now in
    any_from_yields_List (λ d. is_truth c.args.truth (truth_in (view d))) _ _ c.any.result c.any.ensures.ran
    (YieldsList-from_slice _ c.iter.ensures.rest) (λ d b q h. search (rules, tests))
    ∙ is_truth-some c.args.truth docs
    ∙ ap (λ ds. some (beq c.args.truth) (filter_map truth_in ds))
    (sym (elements-of (map view docs) (list_view c.args.values.now) c.as_slice.ensures.view))
