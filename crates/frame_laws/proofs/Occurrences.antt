-- How often a cell occurs.
use Rattle.std.proofs.Common.{◌≡◌, ℕ, suc, ◌+◌, Bool, true, false, cond, List, [], ◌∷◌, ◌++◌, map, nat_eq, arith}
use Rattle.std.proofs.lemmas.List.{map-append}
use Rattle.documents.specs.Document.{Document}
use Rattle.frames.specs.Fillers.{times}

-- a cell occurs in two lists joined as often as in both together
pub times_append : (c : ℕ) (xs ys : List ℕ) → times c (xs ++ ys) ≡ times c xs + times c ys
times_append c [] ys = omega arith
times_append c (x ∷ xs) ys = go (nat_eq x c) (times_append c xs ys) where
  go : (b : Bool) → times c (xs ++ ys) ≡ times c xs + times c ys
      → cond b (suc (times c (xs ++ ys))) (times c (xs ++ ys)) ≡ cond b (suc (times c xs)) (times c xs) + times c ys
  go true h = omega (arith, h)
  go false h = h

abbrev pub cells_of : List (ℕ × Document) → List ℕ
cells_of vs = map (λ v. v.0) vs

pub cells_append : (us ws : List (ℕ × Document)) → cells_of (us ++ ws) ≡ cells_of us ++ cells_of ws
cells_append us ws = map-append (λ (u : ℕ × Document). u.0) us ws
