-- The rows of an automaton are those that are stated.
use Rattle.std.proofs.Common.{◌≡◌, ◌≤◌, ℕ, List, length, Result, Ok, Err, OnOk, ap, ap₂, sym, ◌∙◌}
use Rattle.std.specs.Result.{IsErrAnd}
use Rattle.word_states.specs.Atom.{Atom}
use Rattle.word_states.specs.Rows.{AreRows}
use Rattle.positions.specs.Position.{Position}
use Rattle.goals.specs.Signed.{Signed}
use Rattle.finders.specs.Strings.{string_atoms}
use Rattle.alternatives.specs.Limit.{most_states}
use Rattle.finder_laws.proofs.RowsFound.{rows_grown}
use Rattle.refutations.specs.StatedRows.{rows_of}
use Rattle.refutations.specs.StringLines.{length_lines, string_lines}

pub own_rows : (atoms : List Atom) (L : List (List ℕ)) → AreRows atoms L → length L ≤ most_states
    → L ≡ rows_of atoms
own_rows atoms L rows few = sym (rows_grown atoms most_states L rows few)

pub own_length_lines : (atoms stated : List Atom) (L : List (List ℕ)) → atoms ≡ stated → AreRows atoms L
    → length L ≤ most_states
    → length_lines atoms L ≡ length_lines stated (rows_of stated)
own_length_lines atoms stated L e rows few =
    ap₂ length_lines e (own_rows atoms L rows few ∙ ap rows_of e)

pub own_string_lines : (T : List Position) (S : List Signed) (atoms : List Atom) → atoms ≡ string_atoms T S
    → length_lines atoms (rows_of atoms) ≡ string_lines T S
own_string_lines T S atoms e = ap (λ z. length_lines z (rows_of z)) e

-- of an error nothing is said
pub error_says : {A E : Type 0} (r : Result A E) (Q : Type 0) (e : E) → IsErrAnd r (λ f. f ≡ e) → OnOk r Q
error_says (Ok x) Q e h = absurd h
error_says (Err f) Q e h = tt
