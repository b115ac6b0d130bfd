-- What `enum` and `const` refuse is refused, and the rest depends on no element and no member's value.
use Rattle.std.proofs.Common.{sym, ◌∙◌}
use Rattle.std.proofs.lemmas.Result.{IfOk-weaker}
use Rattle.js_doc.specs.View.{view}
use Rattle.js_schema.specs.View.{keywords_view}
use Rattle.js_match.specs.Matching.{matches}
use Rattle.js_valid.specs.Parts.{flag}
use Rattle.js_valid.proofs.FrameLaws.{own-none, own-frame}
use Rattle.js_valid.proofs.own.meets_keywords.Goals as goal

pub returns-then-not-is_given : goal.returns-then-not-is_given
returns-then-not-is_given c =
    sym (own-none matches (flag c.args.here.now) (keywords_view c.args.keywords.now) (view c.args.doc.now)
    (sym c.is_given.ensures ∙ c.if-not-is_given.true))

pub returns : goal.returns
returns c =
    IfOk-weaker c.meets_frame.result _ _
    (λ b e. e ∙ sym (own-frame matches (flag c.args.here.now) (keywords_view c.args.keywords.now) (view c.args.doc.now)
    (sym c.is_given.ensures ∙ c.if-not-is_given.false)))
    c.meets_frame.ensures
