use Rattle.std.proofs.Common.{◌∙◌, ap, ◌++◌}
use Rattle.std.specs.String.{string_bytes}
use Rattle.js_text.proofs.StringLemmas.{string-written}
use Rattle.js_text.proofs.scalars.push_string.Goals as goal

pub returns : goal.returns
returns c =
    c.in_ok-push_str.ensures.bytes
    ∙ ap (λ ys. string_bytes c.args.out.now ++ ys)
    (c.as_str.ensures.value ∙ string-written (string_bytes c.in_ok-quoted.quoted) c.args.text.now c.in_ok-plain.plain
    (c.in_ok-plain.ensures.ok ∙ c.as_text.ensures.bytes) c.in_ok-quoted.ensures.text)
