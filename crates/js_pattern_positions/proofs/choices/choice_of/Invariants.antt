use Rattle.std.proofs.Common.{◌≡◌, ◌≤◌, length}
use Rattle.js_pattern_positions.proofs.ChoicesLemmas.{Partly}
use Rattle.js_pattern_positions.proofs.choices.choice_of.Given as goal

abbrev pub invariant-loop-re : goal.invariant-loop-re
invariant-loop-re l = record {
  place : l.place ≡ l.re-index;
  within : l.re-index ≤ length l.items;
  sets : Partly l.items l.character l.re-index l.bits;
}
