-- States of words and of one more character.
use Rattle.std.proofs.Common.{◌≡◌, ◌<◌, ℕ, List, Bool, true, IsTrue, ◌↔◌, get_or}
use Rattle.std.specs.Cmp.{both_ways}
use Rattle.std.proofs.lemmas.Bool.{and_from}
use Rattle.patterns.specs.CharSet.{is_scalar}
use Rattle.list_laws.proofs.Lists.{get_or-in}
use Rattle.word_states.specs.Atom.{Atom}
use Rattle.word_states.specs.Classes.{are_alike, dividers, class_firsts, class_count, is_in_class}
use Rattle.word_states.specs.WordState.{word_state, have_same_state}
use Rattle.word_laws.proofs.Classes.{alike_laws, firsts_scalar}
use Rattle.word_laws.proofs.States.{state_decides}

-- the first character of a class is in it
pub first_is_in : (atoms : List Atom) (k : ℕ) → k < class_count atoms
    → is_in_class atoms k (get_or (class_firsts atoms) k 0) ≡ true
first_is_in atoms k l =
    let f = get_or (class_firsts atoms) k 0 in
    and_from (is_scalar f) (are_alike (dividers atoms) f f)
    (firsts_scalar atoms f (get_or-in (class_firsts atoms) k 0 l)) ((alike_laws (dividers atoms)).refl f)

-- what says of two words whether they have one state is the test of it
pub same_is : (atoms : List Atom) (v w : List ℕ) (b : Bool) → (IsTrue b ↔ (word_state atoms v ≡ word_state atoms w))
    → have_same_state atoms v w ≡ b
same_is atoms v w b h =
    let s = state_decides (word_state atoms v) (word_state atoms w) in
    both_ways (have_same_state atoms v w) b (λ e. h.1 (s.0 e)) (λ e. s.1 (h.0 e))
