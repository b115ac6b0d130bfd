-- The choices that are put off, and the duties that they stand for.
use Rattle.std.specs.Prelude.{ℕ, List, [], ◌∷◌, ◌++◌, map, take, drop, get_or, Bool, true, ◌&&◌, nat_le}
use Rattle.documents.specs.Kind.{Kind}
use Rattle.positions.specs.Position.{Position}
use Rattle.goals.specs.Signed as G
use Rattle.goals.specs.Signed.{add_all}
use Rattle.goals.specs.Choices.{choices}
use Rattle.goals.specs.Tree.{choice_list}
use Rattle.verdicts.specs.Duties.{Duty, OfSet}
use Rattle.js_algebra.specs.View.{signed_view, is_in_table}
use Rattle.js_algebra.specs.SignedSets.{set_of}
use Rattle.js_check_trees.specs.declared.pending.Pending.{Pending}

-- a set for each choice that is added to a set
abbrev pub choice_duties : Kind → List G.Signed → List (List G.Signed) → List Duty
choice_duties t S cs = map (λ C. OfSet t (add_all C S)) cs

-- the choices of a signed position; a literal has none
abbrev pub choices_of : List Position → Kind → G.Signed → List (List G.Signed)
choices_of T t x = choice_list (choices T t x)

-- the choice of that number
abbrev pub choice_at : List Position → Kind → G.Signed → ℕ → List G.Signed
choice_at T t x i = get_or (choices_of T t x) i []

-- the duties of the choices that are left, those of the next rule first, over the members of the path
abbrev pub duties_left : List Position → Kind → List G.Signed → List Pending → List Duty
duties_left T t xs [] = []
duties_left T t xs (e ∷ es) =
    choice_duties t (set_of (take e.members xs)) (drop e.next (choices_of T t (signed_view e.rule)))
    ++ duties_left T t (take e.members xs) es

-- each rule is of the table, and was met within the members of the rule after it
abbrev pub are_fine : List Position → ℕ → List Pending → Bool
are_fine T n [] = true
are_fine T n (e ∷ es) = (nat_le e.members n && is_in_table T (signed_view e.rule)) && are_fine T e.members es
