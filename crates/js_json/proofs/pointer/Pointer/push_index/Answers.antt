use Rattle.std.proofs.Common.{◌≡◌, chars, decimal, refl, ap, ◌∙◌}
use Rattle.js_json.proofs.PointerLemmas.{chars-decimal}
use Rattle.js_json.proofs.pointer.Pointer.push_index.Goals as goal

pub returns-clause-ok : goal.returns-clause-ok
returns-clause-ok c =
    let token : c.from_string.result ≡ decimal c.args.index =
    c.from_string.ensures ∙ ap chars c.in_ok-token.ensures.ok
    ∙ chars-decimal c.args.index c.ranges.index.fits in
    c.in_ok-push.ensures.items ∙ rw (token, c.self.view_is) refl
