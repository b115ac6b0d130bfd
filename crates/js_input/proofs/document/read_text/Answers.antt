use Rattle.std.proofs.lemmas.Result.{IfOk-weaker}
use Rattle.js_input.proofs.PartsReadingLemmas.{TextSays-value}
use Rattle.js_input.proofs.document.read_text.Goals as goal

pub returns : goal.returns
returns c =
    IfOk-weaker c.read_json_text.result _ _ (λ input says.
    TextSays-value c.args.bytes.now c.json_text.result.now input c.requires c.json_text.ensures says)
    c.read_json_text.ensures
