use Rattle.std.proofs.Common.{sym, ap, ◌∙◌, length}
use Rattle.js_pattern_positions.specs.Marks.{Marks}
use Rattle.js_pattern_positions.proofs.BitsLemmas.{length-flags_of}
use Rattle.js_pattern_positions.proofs.position_set.PositionSet.len.Goals as goal

pub returns : goal.returns
returns c =
    sym (length-flags_of c.self.inside.words.items c.self.inside.len)
    ∙ ap (λ (s : Marks). length s.flags) c.self.view_is
