-- A frame requires of cells only what their vectors say of literals.
use Rattle.std.proofs.Common.{◌≡◌, ℕ, not, List, filter, length, Option, refl, ap}
use Rattle.std.specs.List.{range_with_len}
use Rattle.documents.specs.Tests.{some}
use Rattle.positions.specs.Position.{Position, position_at}
use Rattle.goals.specs.Signed.{Signed, Plus, Minus}
use Rattle.cells.specs.Cells.{Cells, truth, told, vector_at}
use Rattle.frames.specs.Frame.{Place, In, Head}
use Rattle.frames.specs.ObjectFrame.{lower, below, plus_bars, minus_bars, bars, is_allowed, is_demand, minus_inside, inside, plus_each, each, serving, object_frame_with}

module _ (T : List Position) (C D : Cells) (names : C.names ≡ D.names) (vectors : C.vectors ≡ D.vectors) where
  truth_same : (c : ℕ) (x : Signed) → truth C c x ≡ truth D c x
  truth_same c x = λ i. told (names i) (vector_at (vectors i) c) x

  bars_same : (c : ℕ) (x : Signed) → bars T C c x ≡ bars T D c x
  bars_same c (Plus p) = ap (λ b. plus_bars b (position_at T p)) (truth_same c (Plus p))
  bars_same c (Minus p) = ap (λ b. minus_bars b (position_at T p)) (truth_same c (Minus p))

  allowed_same : (S : List Signed) (c : ℕ) → is_allowed T C S c ≡ is_allowed T D S c
  allowed_same S c = λ i. not (some (λ x. bars_same c x i) S)

  inside_same : (x : Signed) (c : ℕ) → inside T C x c ≡ inside T D x c
  inside_same (Plus p) c = truth_same c (Plus p)
  inside_same (Minus p) c = ap (λ b. minus_inside b (position_at T p)) (truth_same c (Minus p))

  each_same : (at : Place) (x : Signed) → each T C at x ≡ each T D at x
  each_same (In c) (Plus p) = ap (λ b. plus_each b (position_at T p)) (truth_same c (Plus p))
  each_same (In c) (Minus p) = refl
  each_same (Head k) (Plus p) = refl
  each_same (Head k) (Minus p) = refl

  -- frames of cells with the same names, vectors and bounds are equal
  pub frame_same : (caps bounds : ℕ → Option ℕ) → ((c : ℕ) → caps c ≡ bounds c) → (rooms : ℕ → ℕ → ℕ)
      → (S : List Signed) → object_frame_with caps rooms T C S ≡ object_frame_with bounds rooms T D S
  frame_same caps bounds capped rooms S = λ i. record {
    set = S;
    lower = lower T S;
    below = below T S;
    floor = 0;
    heads = 0;
    demands = filter (is_demand T) S;
    each = λ at x. each_same at x i;
    serving = λ at d. serving T d;
    cells = filter (λ c. allowed_same S c i) (range_with_len 0 (length (vectors i)));
    inside = λ x c. inside_same x c i;
    cap = λ c. capped c i;
    room = rooms;
  }
