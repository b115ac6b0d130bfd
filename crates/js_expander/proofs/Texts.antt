-- A limit that the automaton of a branch at strings passes is the answer of its leaf.
use Rattle.std.proofs.Common.{◌≡◌, ℕ, List, Result, Err, ap, sym}
use Rattle.documents.specs.Kind as K
use Rattle.positions.specs.Position.{Position}
use Rattle.goals.specs.Signed.{Signed}
use Rattle.alternatives.specs.Alternative as A
use Rattle.alternatives.specs.Alternative.{Alternative}
use Rattle.alternatives.specs.Limit.{LimitKind}
use Rattle.expansions.specs.Leaves.{scalar_leaf}
use Rattle.finders.specs.Strings.{strings_of}
use Rattle.js_expander.specs.Found.{leaf_of}

abbrev limited : LimitKind → Result (List Alternative) LimitKind
limited l = Err l

-- where the finder of strings passes a limit, the leaf of the branch is that limit
pub text_limit : (T : List Position) (S : List Signed) (k : ℕ) (l : LimitKind) → strings_of T S ≡ Err l
    → limited l ≡ leaf_of T K.Text k S
text_limit T S k l e = sym (ap (scalar_leaf K.Text (λ w. A.Text) k) e)
