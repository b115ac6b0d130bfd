use Rattle.std.proofs.Common.{◌||◌, not, List, ℕ, map, Bool, ap, ◌∙◌, rules, tests}
use Rattle.std.proofs.lemmas.Iterator.{YieldsList-from_slice}
use Rattle.std.proofs.lemmas.Iterator.Search.{all_from_yields_List}
use Rattle.documents.specs.Tests.{every}
use Rattle.documents.specs.Document.{entries}
use Rattle.documents.specs.Measures.{has_name}
use Rattle.schemas.specs.Entry.{Needs}
use Rattle.draft06.specs.EntryValidity.{need_asks}
use Rattle.js_doc.specs.View.{map_view}
use Rattle.js_schema.specs.View.{dependency_view}
use Rattle.js_valid.specs.Parts.{flag}
use Rattle.js_valid.proofs.TestLaws.{all-map}
use Rattle.js_valid.proofs.own.meets_each_dependency.Goals as goal

pub returns : goal.returns
returns c =
    let ms = entries (map_view c.args.members.now) in
    let test : List ℕ × Needs → Bool = λ n. not (has_name n.0 ms) || need_asks (flag c.args.here.now) n.1 ms in
    all_from_yields_List (λ d. test (dependency_view d)) _ _ c.all.result c.all.ensures.ran
    (YieldsList-from_slice _ c.iter.ensures.rest) (λ x b q k. search (rules, tests))
    ∙ all-map dependency_view test c.as_slice.result.now
    ∙ ap (λ ds. every test (map dependency_view ds)) c.as_slice.ensures
