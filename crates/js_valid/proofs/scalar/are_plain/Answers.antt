use Rattle.std.proofs.Common.{◌∙◌, rules, tests}
use Rattle.std.proofs.lemmas.Iterator.{YieldsList-from_slice}
use Rattle.std.proofs.lemmas.Iterator.Search.{all_from_yields_List}
use Rattle.draft06.specs.EntryValidity.{form_at}
use Rattle.js_schema.specs.SchemaView.{schema_view}
use Rattle.js_valid.specs.Plain.{is_plain}
use Rattle.js_valid.proofs.TestLaws.{all-every}
use Rattle.js_valid.proofs.scalar.are_plain.Goals as goal

pub returns : goal.returns
returns c =
    all_from_yields_List (λ q. is_plain (form_at (schema_view c.args.schema.now) q)) _ _ c.all.result c.all.ensures.ran
    (YieldsList-from_slice _ c.iter.ensures.rest) (λ x b q k. search (rules, tests))
    ∙ all-every (λ q. is_plain (form_at (schema_view c.args.schema.now) q)) c.args.entries.now
