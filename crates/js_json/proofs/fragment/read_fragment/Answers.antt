use Rattle.std.proofs.Common.{sym, ap, ◌∙◌, subst}
use Rattle.std.specs.Option.{option_and_then}
use Rattle.std.proofs.lemmas.Str.{is_utf8-from_IsUtf8}
use Rattle.js_json.specs.Reference.{tokens_of}
use Rattle.js_json.specs.Steps.{ReadsOrRefuses}
use Rattle.js_json.proofs.ReferenceLemmas.{decoded-utf8, decoded-refused}
use Rattle.js_json.proofs.fragment.read_fragment.Goals as goal

pub returns-in-Ok : goal.returns-in-Ok
returns-in-Ok c =
    let text = c.as_str.ensures.value ∙ c.in-Ok.ensures.value ∙ c.percent_decode_str.ensures.bytes in
    let valid = is_utf8-from_IsUtf8 _ c.as_str.utf8 in
    let decoded = decoded-utf8 c.args.fragment.now c.as_str.result.now c.utf8.fragment text valid in
    subst (λ owed. ReadsOrRefuses owed c.read_pointer.result) (sym (ap (option_and_then tokens_of) decoded))
    c.read_pointer.ensures

pub returns-in-Err-Utf8 : goal.returns-in-Err-Utf8
returns-in-Err-Utf8 c =
    let refused = decoded-refused c.args.fragment.now _ c.utf8.fragment c.percent_decode_str.ensures.bytes
    (λ utf8. let memory = sym c.in-Err-Utf8.field-0-is ∙ c.in-Err-Utf8.ensures.utf8 utf8 in cc) in
    ap (option_and_then tokens_of) refused
