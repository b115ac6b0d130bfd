-- What the lines so far cite is listed, and their text cites it by its places.
use Rattle.std.proofs.Common.{◌≡◌, ◌++◌, nat_eq, map, take}
use Rattle.std.specs.String.{string_bytes}
use Rattle.word_states.specs.Mention.{mention_all}
use Rattle.certificate_lines.specs.Text.{lines_text}
use Rattle.refutations.specs.Listing.{place_of, cited, renamed}
use Rattle.js_lines.specs.View.{line_view}
use Rattle.js_refute.proofs.lines.append_lines.Given as goal

abbrev pub invariant-loop-line : goal.invariant-loop-line
invariant-loop-line l =
    let before = map line_view (take l.line-index l.lines) in
    record {
      listed : l.listed.keys ≡ mention_all nat_eq l.fn.listed.keys (cited before);
      text : string_bytes l.text
          ≡ string_bytes l.fn.text ++ lines_text (map (renamed (place_of l.listed.keys)) before);
    }
