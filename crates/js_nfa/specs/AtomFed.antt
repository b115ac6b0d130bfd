-- What an atom feeds a hasher.
use Rattle.std.specs.Prelude.{◌++◌, encode_utf8_all}
use Rattle.std.specs.Hash as fed
use Rattle.std.specs.Hash.{HashWrites, Alike, same_Alike}
use Rattle.word_states.specs.Atom.{Atom, Match, Words, LengthMin}
use Rattle.word_states.specs.SameAtom.{same_atom}
use Rattle.state_laws.proofs.SameAtoms.{same_atom-Decides}
use Rattle.js_pattern.specs.Fingerprint.{tree_print}

abbrev pub atom_writes : Atom → HashWrites
atom_writes (Match t) = fed.u8 0 ++ fed.u64 (tree_print t)
atom_writes (Words ws) = fed.u8 1 ++ fed.slice (λ w. fed.str (encode_utf8_all w)) ws
atom_writes (LengthMin n) = fed.u8 2 ++ fed.u128 n

pub atoms_Alike : Alike same_atom atom_writes
atoms_Alike = same_Alike atom_writes same_atom-Decides
