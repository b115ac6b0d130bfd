-- The entries of a cycle that is reported are entries of the table.
use Rattle.std.proofs.Common.{◌≡◌, ℕ, zero, suc, ◌<◌, List, [], ◌∷◌, length, get_or, true, true≢false, sym, subst, arith}
use Rattle.std.proofs.Math.ListN.{length-map}
use Rattle.schemas.specs.Entry.{Entry}
use Rattle.schemas.specs.Schema.{in_place}
use Rattle.schemas.specs.Guarded.{edges, targets, is_among, GoesBack, IsLeastCycle}

-- an entry from which an edge leads is there

targets-below : (g : List (List ℕ)) (x y : ℕ) → is_among y (targets g x) ≡ true → x < length g
targets-below [] x y h = absurd (true≢false (sym h))
targets-below (t ∷ g) zero y h = omega arith
targets-below (t ∷ g) (suc x) y h = let l = targets-below g x y h in omega arith

GoesBack-below : (g : List (List ℕ)) (first x : ℕ) (xs : List ℕ) → GoesBack g first x xs
    → (i : ℕ) → i < length (x ∷ xs) → get_or (x ∷ xs) i 0 < length g
GoesBack-below g first x [] h zero k = targets-below g x first h.target
GoesBack-below g first x [] h (suc i) k = absurd (omega arith)
GoesBack-below g first x (y ∷ ys) h zero k = targets-below g x y h.0.target
GoesBack-below g first x (y ∷ ys) h (suc i) k = GoesBack-below g first y ys h.2 i (omega arith)

IsLeastCycle-below : (g : List (List ℕ)) (l : List ℕ) → IsLeastCycle g l → (i : ℕ) → i < length l
    → get_or l i 0 < length g
IsLeastCycle-below g [] h i k = absurd h
IsLeastCycle-below g (x ∷ xs) h i k = GoesBack-below g x x xs h.1 i k

-- each entry of the least cycle is an entry of the table
pub cycle-below : (es : List Entry) (l : List ℕ) → IsLeastCycle (edges es) l → (i : ℕ) → i < length l
    → get_or l i 0 < length es
cycle-below es l h i k =
    subst (λ n. get_or l i 0 < n) (length-map es (λ e. in_place e.form)) (IsLeastCycle-below (edges es) l h i k)
