-- Edges of an automaton: edge r * classes + k leads from row r by class k.
use Rattle.std.specs.Prelude.{◌≡◌, ℕ, zero, suc, ◌*◌, ◌/◌, ◌%◌, ◌<◌, List, Bool, true, false, cond, nat_eq, get_or, length}
use Rattle.std.specs.Coded.{Coded-set, coded_ℕ}
use Rattle.word_states.specs.Atom.{Atom}
use Rattle.word_states.specs.Classes.{class_count}
use Rattle.cell_laws.proofs.Rows.{target_in}

-- the row to which an edge leads
abbrev pub edge_target : List Atom → List (List ℕ) → ℕ → ℕ
edge_target atoms L e = target_in atoms L (e / class_count atoms) (e % class_count atoms)

abbrev pub edge_count : List Atom → List (List ℕ) → ℕ
edge_count atoms L = length L * class_count atoms

-- one more than the last of the first n edges that leads to the row, or 0
abbrev pub last_edge : (ℕ → ℕ) → ℕ → ℕ → ℕ
last_edge target zero t = 0
last_edge target (suc e) t = cond (nat_eq (target e) t) (suc e) (last_edge target e t)

-- of each row the last edge that leads to it, and of each edge the last before it that leads to the same row
abbrev pub AreSources : List Atom → List (List ℕ) → List ℕ → List ℕ → Type 0
AreSources atoms L last before =
    (length last ≡ length L)
    × (length before ≡ edge_count atoms L)
    × ((t : ℕ) → t < length L → get_or last t 0 ≡ last_edge (edge_target atoms L) (edge_count atoms L) t)
    × ((e : ℕ) → e < edge_count atoms L
    → get_or before e 0 ≡ last_edge (edge_target atoms L) e (edge_target atoms L e))

pub AreSources-prop : (atoms : List Atom) (L : List (List ℕ)) (last before : List ℕ)
    → IsProp (AreSources atoms L last before)
AreSources-prop atoms L last before x y = λ i. (
  Coded-set coded_ℕ _ _ x.0 y.0 i,
  Coded-set coded_ℕ _ _ x.1 y.1 i,
  (λ t l. Coded-set coded_ℕ _ _ (x.2 t l) (y.2 t l) i),
  λ e l. Coded-set coded_ℕ _ _ (x.3 e l) (y.3 e l) i,
)

-- the rows from which an edge leads to the row are of these
abbrev pub HaveSources : List Atom → List (List ℕ) → List Bool → ℕ → Type 0
HaveSources atoms L seen t =
    (e : ℕ) → e < edge_count atoms L → edge_target atoms L e ≡ t → get_or seen (e / class_count atoms) false ≡ true
