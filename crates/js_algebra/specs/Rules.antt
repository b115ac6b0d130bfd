-- The choices that a rule of the program stands for, and how they are numbered.
use Rattle.std.specs.Prelude.{ℕ, zero, suc, ◌+◌, List, [], ◌∷◌, map, get_or, Bool, true, false, Option, Some, None}
use Rattle.documents.specs.Tests.{every}
use Rattle.documents.specs.Kind.{Kind}
use Rattle.positions.specs.Position.{Position}
use Rattle.goals.specs.Signed.{Signed, Plus, Minus}
use Rattle.goals.specs.Choices.{one_plus, two_plus, for_objects, plus_choices, minus_choices}
use Rattle.goals.specs.Tree.{choice_list}
use Rattle.js_algebra.specs.View.{signed_view, with_sign, places, are_in_table}
use Rattle.js_algebra.specs.declared.node.Pos.{Pos}
use Rattle.js_algebra.specs.declared.choice.Rule.{Rule}
use Rattle.js_algebra.specs.declared.choice.Rule.TheVariants.{Literal, Together, Apart, ExactlyOne, NotExactlyOne, Both, Either}
use Rattle.js_algebra.specs.declared.choice.Choice.{Choice}
use Rattle.js_algebra.specs.declared.choice.Choice.TheVariants as C

abbrev pub rule_view : Rule → Option (List (List Signed))
rule_view Literal = None
rule_view (Together ps s) = Some (map (with_sign s) (places ps.now) ∷ [])
rule_view (Apart ps s) = Some (map (λ q. with_sign s q ∷ []) (places ps.now))
rule_view (ExactlyOne ps) = Some (one_plus (places ps.now))
rule_view (NotExactlyOne ps) = Some (map Minus (places ps.now) ∷ two_plus (places ps.now))
rule_view (Both x y) = Some ((signed_view x ∷ signed_view y ∷ []) ∷ [])
rule_view (Either x y) = Some ((signed_view x ∷ []) ∷ (signed_view y ∷ []) ∷ [])

-- the one at an index plus, and the others minus
abbrev pub only : ℕ → List ℕ → List Signed
only i [] = []
only zero (q ∷ qs) = Plus q ∷ map Minus qs
only (suc i) (q ∷ qs) = Minus q ∷ only i qs

abbrev pub choice_view : Choice → List Signed
choice_view (C.All ps s) = map (with_sign s) (places ps.now)
choice_view (C.Only ps i) = only i (places ps.now)
choice_view (C.One x) = signed_view x ∷ []
choice_view (C.Two x y) = signed_view x ∷ signed_view y ∷ []

-- the choices of a position with that sign
abbrev pub choices_of : Kind → Bool → Position → Option (List (List Signed))
choices_of t true P = plus_choices t P
choices_of t false P = minus_choices t P

-- each signed position of each choice is in the table
abbrev pub are_choices_in_table : List Position → Option (List (List Signed)) → Bool
are_choices_in_table T o = every (are_in_table T) (choice_list o)

-- the choices of what every document meets, or none does
abbrev pub nothing_view : Bool → Option (List (List Signed))
nothing_view true = Some ([] ∷ [])
nothing_view false = Some []

-- the choices of a dependency that is to hold, or not to hold
abbrev pub depends_view : ℕ → ℕ → Bool → Kind → Option (List (List Signed))
depends_view h q true t = Some (for_objects t ((Minus h ∷ []) ∷ (Plus q ∷ []) ∷ []) ([] ∷ []))
depends_view h q false t = Some (for_objects t ((Plus h ∷ Minus q ∷ []) ∷ []) [])

-- how many pairs n things have: each thing with all before it
abbrev pub pairs : ℕ → ℕ
pairs zero = 0
pairs (suc n) = n + pairs n

abbrev pub pair_view : List Pos → ℕ → List Signed
pair_view ps i = get_or (two_plus (places ps)) i []
