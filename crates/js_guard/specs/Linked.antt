-- Edges by where they lead.
use Rattle.std.specs.Prelude.{◌≡◌, ℕ, suc, ◌<◌, ◌≤◌, List, [], ◌∷◌, ◌++◌, map, length, get_or, true}
use Rattle.schemas.specs.Guarded.{targets, is_among}
use Rattle.js_guard.specs.declared.reverse.Source.{Source}

-- all edges from entry x on, each with where it comes from and where it leads
abbrev pub pairs : ℕ → List (List ℕ) → List (ℕ × ℕ)
pairs x [] = []
pairs x (ts ∷ g) = map (λ t. (x, t)) ts ++ pairs (suc x) g

abbrev pub pair_at : List (ℕ × ℕ) → ℕ → ℕ × ℕ
pair_at L e = get_or L e (0, 0)

abbrev pub source_at : List Source → ℕ → Source
source_at E e = get_or E e (record { entry = 0; before = 0 })

-- of the first k edges, the first p are those up to and with the last that leads to t
pub record IsUpToLast (L : List (ℕ × ℕ)) (k t p : ℕ) : Type 0 where
  pub within : p ≤ k
  pub none_after : (e : ℕ) → p ≤ e → e < k → (pair_at L e).1 ≡ t → ⊥
  pub last : (q : ℕ) → p ≡ suc q → (pair_at L q).1 ≡ t

-- the edges L, each with those before it that lead to the same entry, and for each of n entries the last that leads
-- there
pub record IsLinked (L : List (ℕ × ℕ)) (n : ℕ) (last : List ℕ) (E : List Source) : Type 0 where
  pub heads : length last ≡ n
  pub same_length : length E ≡ length L
  pub sources : (e : ℕ) → e < length L → (source_at E e).entry ≡ (pair_at L e).0
  pub last_at : (t : ℕ) → t < n → IsUpToLast L (length L) t (get_or last t 0)
  pub before_at : (e : ℕ) → e < length L → IsUpToLast L e (pair_at L e).1 (source_at E e).before

-- the entries from which the edges from place p on lead to t
pub record HasSources (L : List (ℕ × ℕ)) (t p : ℕ) (row : List ℕ) : Type 0 where
  pub all : (e : ℕ) → p ≤ e → e < length L → (pair_at L e).1 ≡ t → is_among (pair_at L e).0 row ≡ true
  pub only : (x : ℕ) → is_among x row ≡ true
      → (e : ℕ) × (e < length L) × ((pair_at L e).0 ≡ x) × ((pair_at L e).1 ≡ t)

-- the edges of r are those of g the other way round
pub record AreReversed (g r : List (List ℕ)) : Type 0 where
  pub same_length : length r ≡ length g
  pub back : (x y : ℕ) → is_among y (targets g x) ≡ true → is_among x (targets r y) ≡ true
  pub forth : (x y : ℕ) → is_among x (targets r y) ≡ true → is_among y (targets g x) ≡ true
