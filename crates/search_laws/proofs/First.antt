-- The first alternative that passes a test.
use Rattle.std.proofs.Common.{◌≡◌, inl, inr, Bool, true, false, ◌||◌, cond, List, [], ◌∷◌, Option, Some, refl}
use Rattle.documents.specs.Tests.{some}
use Rattle.goals.specs.Tree.{first}
use Rattle.list_laws.specs.In.{IsIn}
use Rattle.alternatives.specs.Alternative.{Alternative}

-- where some alternative passes, there is a first one; it is one of them, and passes
pub first_met : (p : Alternative → Bool) (bs : List Alternative) → some p bs ≡ true
    → (a : Alternative) × (first p bs ≡ Some a) × IsIn a bs × (p a ≡ true)
first_met p [] e = cc
first_met p (b ∷ bs) e = go (p b) refl e (first_met p bs) where
  go : (t : Bool) → p b ≡ t → (t || some p bs) ≡ true
      → (some p bs ≡ true → (a : Alternative) × (first p bs ≡ Some a) × IsIn a bs × (p a ≡ true))
      → (a : Alternative) × (cond t (Some b) (first p bs) ≡ Some a) × IsIn a (b ∷ bs) × (p a ≡ true)
  go true h e more = (b, refl, inl refl, h)
  go false h e more = let (a, x, y, z) = more e in (a, x, inr y, z)
