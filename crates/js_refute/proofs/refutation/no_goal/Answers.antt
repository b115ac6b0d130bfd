-- The head and the end are the text of a certificate without goals.
use Rattle.std.proofs.Common.{[], ◌∷◌, ◌++◌, refl, ap, ◌∙◌}
use Rattle.std.specs.String.{string_bytes}
use Rattle.certificate_lines.specs.Line as L
use Rattle.certificate_lines.specs.Text.{lines_text}
use Rattle.refutations.specs.Refutation.{empty_certificate}
use Rattle.js_refute.proofs.GoodBytes.{good-clash}
use Rattle.js_refute.proofs.Writing.{line_behind}
use Rattle.js_refute.proofs.refutation.no_goal.Goals as goal

pub returns-clause-good : goal.returns-clause-good
returns-clause-good c =
    good-clash c.into_bytes.result.items
    (line_behind (string_bytes c.append_head.new.text) c.into_bytes.result.items (L.Version ∷ L.Goals 0 ∷ [])
    empty_certificate L.End
    (c.in_ok-append_head.ensures
    ∙ ap (λ z. z ++ lines_text (L.Version ∷ L.Goals 0 ∷ [])) c.new-text.ensures.bytes)
    (ap (λ v. v.items) c.into_bytes.ensures.value ∙ c.in_ok-append_line.ensures) refl)
