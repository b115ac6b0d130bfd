use Rattle.std.proofs.Common.{◌∙◌, ap}
use Rattle.js_schema.specs.View.{keywords_view}
use Rattle.draft06.specs.EntryValidity.{asks_string}
use Rattle.js_match.specs.Matching.{matches}
use Rattle.js_match.proofs.WalkLaws as W
use Rattle.js_valid.specs.Parts.{no_parts, no_entry}
use Rattle.js_valid.proofs.own.meets_text.Goals as goal

pub returns : goal.returns
returns c =
    W.ok_then c.meets_letters.result _ _ (λ b e. e
    ∙ ap (asks_string matches no_entry no_parts (keywords_view c.args.keywords.now))
    (c.deref.ensures.value ∙ c.in_ok-letters.ensures ∙ c.as_text.ensures.text)) c.meets_letters.ensures
