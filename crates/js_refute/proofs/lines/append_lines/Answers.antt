-- One more line.
use Rattle.std.proofs.Common.{◌+◌, [], ◌∷◌, ◌++◌, map, take, ap, sym, ◌∙◌}
use Rattle.std.specs.String.{string_bytes}
use Rattle.std.proofs.lemmas.List.{map_more}
use Rattle.js_lines.specs.View.{line_view}
use Rattle.js_refute.proofs.Writing.{line_more}
use Rattle.js_refute.proofs.lines.append_lines.Goals as goal

pub loop-line-preserved : goal.loop-line-preserved
loop-line-preserved c =
    let ls = c.args.lines.now in
    let i = c.loop-line.line-index in
    let l = c.line-item.result in
    let (listed, text) =
    line_more c.args.listed.now.keys c.loop-line.listed.keys c.append_placed.new.listed.keys
    (map line_view (take i ls)) (map line_view (take (i + 1) ls)) (line_view l)
    (string_bytes c.args.text.now) (string_bytes c.loop-line.text) (string_bytes c.append_placed.new.text)
    c.loop-line.invariant.listed c.in_ok-append_placed.ensures.listed c.loop-line.invariant.text
    c.in_ok-append_placed.ensures.text
    (map_more line_view ls i l c.loop-line-test.true
    ∙ ap (λ z. map line_view (take i ls) ++ line_view z ∷ []) (sym c.line-item.is)) in
    record { listed = listed; text = text }
