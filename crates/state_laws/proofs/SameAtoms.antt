-- The test on atoms says whether they are equal.
use Rattle.std.specs.Prelude.{◌≡◌, ℕ, Bool, true, false, List, []}
use Rattle.std.specs.Bool.{Decides}
use Rattle.std.specs.Cmp.{IsEquivalence, decided, unsigned_Decides}
use Rattle.std.specs.Cmp.Lexicographic.{pointwise_decides, bytes_decides}
use Rattle.std.proofs.Common.{ap, sym}
use Rattle.std.proofs.lemmas.Bool.{false≢true}
use Rattle.patterns.specs.Tree.{Tree, empty}
use Rattle.pattern_laws.proofs.SameTrees.{same_tree-Decides}
use Rattle.word_states.specs.Atom.{Atom, Match, Words, LengthMin}
use Rattle.word_states.specs.SameAtom.{same_atom}

abbrev tree_of : Atom → Tree
tree_of (Match t) = t
tree_of _ = empty

abbrev words_of : Atom → List (List ℕ)
words_of (Words ws) = ws
words_of _ = []

abbrev number_of : Atom → ℕ
number_of (LengthMin n) = n
number_of _ = 0

abbrev is_match : Atom → Bool
is_match (Match t) = true
is_match _ = false

abbrev is_words : Atom → Bool
is_words (Words ws) = true
is_words _ = false

-- the test on two atoms decides whether they are equal
pub same_atom-Decides : (a b : Atom) → Decides (same_atom a b) (a ≡ b)
same_atom-Decides (Match t) (Match u) =
    (λ e. ap Match ((same_tree-Decides t u).0 e), λ e. (same_tree-Decides t u).1 (ap tree_of e))
same_atom-Decides (Match t) (Words ws) = (λ e. absurd (false≢true e), λ e. absurd (false≢true (sym (ap is_match e))))
same_atom-Decides (Match t) (LengthMin n) = (λ e. absurd (false≢true e), λ e. absurd (false≢true (sym (ap is_match e))))
same_atom-Decides (Words vs) (Match u) = (λ e. absurd (false≢true e), λ e. absurd (false≢true (ap is_match e)))
same_atom-Decides (Words vs) (Words ws) = (
  λ e. ap Words ((pointwise_decides bytes_decides vs ws).0 e),
  λ e. (pointwise_decides bytes_decides vs ws).1 (ap words_of e),
)
same_atom-Decides (Words vs) (LengthMin n) =
    (λ e. absurd (false≢true e), λ e. absurd (false≢true (sym (ap is_words e))))
same_atom-Decides (LengthMin m) (Match u) = (λ e. absurd (false≢true e), λ e. absurd (false≢true (ap is_match e)))
same_atom-Decides (LengthMin m) (Words ws) = (λ e. absurd (false≢true e), λ e. absurd (false≢true (ap is_words e)))
same_atom-Decides (LengthMin m) (LengthMin n) =
    (λ e. ap LengthMin ((unsigned_Decides m n).0 e), λ e. (unsigned_Decides m n).1 (ap number_of e))

pub same_atom_equiv : IsEquivalence same_atom
same_atom_equiv = decided same_atom same_atom-Decides
