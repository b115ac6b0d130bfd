use Rattle.std.proofs.Common.{ap, sym, ◌∙◌, option_map}
use Rattle.serde_json.specs.Read.{read}
use Rattle.js_doc.specs.JsonView.{view}
use Rattle.js_json.specs.Value.{json_of}
use Rattle.js_json.proofs.ValueLemmas.{value_of_unread, reads_text, is_well_formed}
use Rattle.js_json.proofs.read.read_json.Goals as goal

pub returns-in-Ok : goal.returns-in-Ok
returns-in-Ok c =
    let same = c.in-Ok.ensures.cases.0 in
    let utf8 = c.in-Ok.ensures.cases.1 in
    let ok = reads_text view c.json_of_text.result _ _ utf8 same c.json_of_text.ensures.ok in
    record {
      ok = ok;
      well_formed = is_well_formed view c.json_of_text.result _ ok;
      not_json = λ e. value_of_unread _
          (λ u. ap (λ t. option_map json_of (read t)) (sym same) ∙ c.json_of_text.ensures.not_json e);
      any_number = c.json_of_text.ensures.any_number;
    }

pub returns-in-Err-clause-not_json : goal.returns-in-Err-clause-not_json
returns-in-Err-clause-not_json c e = value_of_unread _ (λ u. absurd (c.in-Err.ensures.cases.0 u))
