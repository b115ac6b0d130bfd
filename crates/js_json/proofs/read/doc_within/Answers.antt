use Rattle.std.proofs.Common.{◌≡◌, [], Some, ap, ◌∙◌, sym, arith, rules}
use Rattle.json.specs.Json.{value}
use Rattle.serde_json.specs.Read.{converted, max_depth}
use Rattle.js_json.specs.DocumentView.{as_json}
use Rattle.js_json.specs.Reading.{json_of_tree}
use Rattle.js_json.proofs.TreeReading.{whole_read, whole_refused}
use Rattle.js_json.proofs.read.doc_within.Goals as goal

pub returns-in_err-doc-clause-not_json : goal.returns-in_err-doc-clause-not_json
returns-in_err-doc-clause-not_json c e =
    whole_refused c.args.text.now
    (ap (λ ts. converted json_of_tree (value max_depth ts)) (sym c.in_ok-reader.ensures.ok)
    ∙ c.take.ensures.not_json (grind arith))

pub returns-clause-ok : goal.returns-clause-ok
returns-clause-ok c =
    let none : c.take.new.reader ≡ [] = search rules in
    whole_read c.args.text.now (as_json c.in_ok-doc.doc)
    (ap (λ ts. converted json_of_tree (value max_depth ts)) (sym c.in_ok-reader.ensures.ok) ∙ c.in_ok-doc.ensures.ok
    ∙ ap (λ r. Some (as_json c.in_ok-doc.doc, r)) none)
