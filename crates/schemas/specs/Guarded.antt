-- Schemas that apply to the same document in a circle, and ranks where none are.
use Rattle.std.specs.Prelude.{◌≡◌, ◌≢◌, ℕ, zero, suc, ◌≤◌, List, [], ◌∷◌, map, length, get_or, Bool, true, false, ◌&&◌, nat_eq, nat_lt}
use Rattle.documents.specs.Tests.{every, some}
use Rattle.schemas.specs.Entry.{Entry}
use Rattle.schemas.specs.Schema.{in_place}

-- the in-place edges of a table: for each entry, the entries that apply to the same document
abbrev pub edges : List Entry → List (List ℕ)
edges es = map (λ e. in_place e.form) es

-- where the edges from x lead
abbrev pub targets : List (List ℕ) → ℕ → List ℕ
targets g x = get_or g x []

abbrev pub is_among : ℕ → List ℕ → Bool
is_among y ys = some (λ z. nat_eq z y) ys

-- a way of n edges leads from x to y
unfoldable pub leads : List (List ℕ) → ℕ → ℕ → ℕ → Bool
leads g zero x y = nat_eq x y
leads g (suc n) x y = some (λ z. leads g n z y) (targets g x)

-- a way of at least one edge leads from x back to it
abbrev pub IsOnCycle : List (List ℕ) → ℕ → Type 0
IsOnCycle g x = (n : ℕ) × (leads g (suc n) x x ≡ true)

-- no entry lies on a cycle
abbrev pub IsGuarded : List (List ℕ) → Type 0
IsGuarded g = (x n : ℕ) → leads g (suc n) x x ≡ false

-- y comes after x on the way back to `first`: of the targets of x, the one from which the fewest edges lead there, and
-- the least among equals. No edge is needed from `first` itself
pub record IsNext (g : List (List ℕ)) (first x y : ℕ) : Type 0 where
  pub target : is_among y (targets g x) ≡ true
  pub steps : ℕ
  pub back : leads g steps y first ≡ true
  pub fewest : (z n : ℕ) → is_among z (targets g x) ≡ true → leads g n z first ≡ true → steps ≤ n
  pub least : (z : ℕ) → is_among z (targets g x) ≡ true → leads g steps z first ≡ true → y ≤ z

-- what follows x, up to where `first` would come again
abbrev pub GoesBack : List (List ℕ) → ℕ → ℕ → List ℕ → Type 0
GoesBack g first x [] = IsNext g first x first
GoesBack g first x (y ∷ ys) = IsNext g first x y × (y ≢ first) × GoesBack g first y ys

-- it lies on a cycle, and no lesser entry does
pub record IsLeastOnCycle (g : List (List ℕ)) (x : ℕ) : Type 0 where
  pub on_cycle : IsOnCycle g x
  pub least : (y : ℕ) → IsOnCycle g y → x ≤ y

-- the cycle that is reported where there are any
abbrev pub IsLeastCycle : List (List ℕ) → List ℕ → Type 0
IsLeastCycle g [] = ⊥
IsLeastCycle g (x ∷ xs) = IsLeastOnCycle g x × GoesBack g x x xs

-- each target has a lesser rank; ranks and edges are given entry by entry
abbrev pub fall : List ℕ → List ℕ → List (List ℕ) → Bool
fall ranks [] [] = true
fall ranks (r ∷ rs) (ts ∷ g) = every (λ y. nat_lt (get_or ranks y 0) r) ts && fall ranks rs g
fall ranks _ _ = false

-- a rank for each entry, below their number, which falls along every in-place edge
abbrev pub are_ranks : List (List ℕ) → List ℕ → Bool
are_ranks g ranks = every (λ r. nat_lt r (length g)) ranks && fall ranks ranks g
