-- The steps of the answer, one at a time.
use Rattle.std.proofs.Common.{◌≡◌, ℕ, ◌<◌, ◌≤◌, List, [], ◌∷◌, Bool, true, false, ℤ, length, get_or, refl, ap, sym, ◌∙◌, arith, zero-lt-suc, if◌then◌else◌}
use Rattle.std.specs.List.{find}
use Rattle.number_groups.specs.Cases.{Empty}
use Rattle.number_groups.specs.Multiples.{lcm_of}
use Rattle.number_groups.specs.Group.{Group, is_crossed, is_met}
use Rattle.number_groups.specs.Outcome.{outcome, found, answer_in, answer_of_multiples}

pub lcm_of_positive : (ms : List ℕ) → 0 < lcm_of ms
unfolding lcm_of
lcm_of_positive ms = zero-lt-suc _

-- a group whose bounds cross is empty, and any other is answered by its sets
pub step : (limit : ℕ) (g : Group) (b : Bool) → is_crossed g.low g.high ≡ b
    → outcome limit g ≡ (if b then Empty else answer_in limit g g.sets)
unfolding outcome
step limit g b e = ap (λ t. if t then Empty else answer_in limit g g.sets) e

pub outcome-crossed : (limit : ℕ) (g : Group) → is_crossed g.low g.high ≡ true → outcome limit g ≡ Empty
outcome-crossed limit g e = step limit g true e

in_first : (limit : ℕ) (g : Group) (ss : List (List ℤ)) (s : List ℤ) → 1 ≤ length ss → s ≡ get_or ss 0 s
    → answer_in limit g ss ≡ found (find (is_met g) s)
in_first limit g [] s l e = absurd (omega arith)
in_first limit g (r ∷ rs) s l e = ap (λ z. found (find (is_met g) z)) (sym e)

pub outcome-sets : (limit : ℕ) (g : Group) (s : List ℤ) → is_crossed g.low g.high ≡ false → 1 ≤ length g.sets
    → s ≡ get_or g.sets 0 s
    → outcome limit g ≡ found (find (is_met g) s)
outcome-sets limit g s e l h = step limit g false e ∙ in_first limit g g.sets s l h

without_sets : (limit : ℕ) (g : Group) (ss : List (List ℤ)) → length ss < 1
    → answer_in limit g ss ≡ answer_of_multiples limit (lcm_of g.multiples) g
without_sets limit g [] l = refl
without_sets limit g (r ∷ rs) l = absurd (omega arith)

pub outcome-no_sets : (limit : ℕ) (g : Group) → is_crossed g.low g.high ≡ false → length g.sets < 1
    → outcome limit g ≡ answer_of_multiples limit (lcm_of g.multiples) g
outcome-no_sets limit g e l = step limit g false e ∙ without_sets limit g g.sets l
