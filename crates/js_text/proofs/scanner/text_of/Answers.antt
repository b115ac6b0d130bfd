-- Bytes that are the UTF-8 of scalar values are a text, and have their characters.
use Rattle.std.proofs.Common.{Some, chars, sym, ap, ◌∙◌}
use Rattle.std.proofs.lemmas.Bool.{true≢false}
use Rattle.document_text_laws.proofs.StringLaws.{chars-text, utf8-text}
use Rattle.js_text.proofs.scanner.text_of.Goals as goal

pub returns-in-Ok-clause-text : goal.returns-in-Ok-clause-text
returns-in-Ok-clause-text c s h is =
    ap Some (c.scalars.ensures.text ∙ ap chars (ap (λ v. v.items) c.in-Ok.ensures.ok ∙ is) ∙ chars-text s h)

pub returns-clause-text : goal.returns-clause-text
returns-clause-text c s h is =
    absurd (true≢false (sym (c.in-Err.ensures.succeeds (utf8-text s c.args.bytes.items h is))))
