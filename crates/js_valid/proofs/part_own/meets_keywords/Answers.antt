-- What `enum` and `const` refuse is refused, and the rest is required of the frame.
use Rattle.std.proofs.Common.{sym, ap, ◌∙◌}
use Rattle.std.proofs.lemmas.Result.{IfOk-weaker}
use Rattle.documents.specs.Document.{null}
use Rattle.shared_documents.specs.Part.{part_at}
use Rattle.shared_documents.specs.Unshared.{unshared}
use Rattle.shared_documents.proofs.Laws.{unshared-built}
use Rattle.js_schema.specs.View.{keywords_view}
use Rattle.js_match.specs.Matching.{matches}
use Rattle.js_valid.specs.Frame.{frame_asks}
use Rattle.js_valid.specs.Parts.{flag}
use Rattle.js_valid.proofs.FrameLaws.{own-none, own-frame, frame-same}
use Rattle.js_valid.proofs.part_own.meets_keywords.Goals as goal

pub returns-then-not-is_given : goal.returns-then-not-is_given
returns-then-not-is_given c =
    sym (own-none matches (flag c.args.here.now) (keywords_view c.args.keywords.now)
    (unshared c.args.part.now.parts.now c.args.part.now.id.0) (sym c.is_given.ensures ∙ c.if-not-is_given.true))

pub returns : goal.returns
returns c =
    let here = flag c.args.here.now in
    let k = keywords_view c.args.keywords.now in
    let ps = c.args.part.now.parts.now in
    let i = c.args.part.now.id.0 in
    let asked = ap (frame_asks matches here k) c.requires.frame
    ∙ frame-same matches here k (λ i. null) (unshared ps) (part_at ps i)
    ∙ ap (frame_asks matches here k) (sym (unshared-built ps i c.get.ensures.table c.requires.within))
    ∙ sym (own-frame matches here k (unshared ps i) (sym c.is_given.ensures ∙ c.if-not-is_given.false)) in
    IfOk-weaker c.meets_frame.result _ _ (λ b e. e ∙ asked) c.meets_frame.ensures
