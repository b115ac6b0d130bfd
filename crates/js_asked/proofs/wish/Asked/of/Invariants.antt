-- The literals that are left decide.
use Rattle.std.proofs.Common.{◌≡◌, ℕ, List, ◌++◌, ◌&&◌, map, flat_map, drop, true}
use Rattle.documents.specs.Tests.{every}
use Rattle.word_states.specs.Mention.{mention_all}
use Rattle.positions.specs.Position.{position_at}
use Rattle.goals.specs.Signed.{position_of}
use Rattle.word_states.specs.SameAtom.{same_atom}
use Rattle.finders.specs.Strings.{lower, word_atoms, length_atoms, string_atoms, wants}
use Rattle.js_algebra.specs.View.{signed_view, are_in_table}
use Rattle.js_asked.specs.Asking.{atoms_in, asks}
use Rattle.js_asked.proofs.wish.Asked.of.Given as goal

abbrev pub invariant-loop-x : goal.invariant-loop-x
invariant-loop-x l = record {
  in_table : are_in_table l.core.positions (map signed_view (drop l.x-index l.set)) ≡ true;
  atoms : mention_all same_atom (atoms_in l.asked)
      (flat_map (λ x. word_atoms (position_at l.core.positions (position_of x)))
      (map signed_view (drop l.x-index l.set))
      ++ length_atoms (lower l.core.positions (map signed_view l.set)))
      ≡ string_atoms l.core.positions (map signed_view l.set);
  words : (w : List ℕ)
      → (asks l.asked w && every (wants l.core.positions w) (map signed_view (drop l.x-index l.set)))
      ≡ every (wants l.core.positions w) (map signed_view l.set);
}
