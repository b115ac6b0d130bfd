-- An object meets the literals of a set exactly where its members are arranged as the set's frame requires.
use Rattle.std.proofs.Common.{◌≡◌, ℕ, ◌≤◌, inl, inr, ⊎_elim, Bool, true, false, ◌&&◌, not, List, [], ◌∷◌, flat_map, length, Option, None, refl, ap, sym, ◌∙◌, subst, arith}
use Rattle.std.proofs.lemmas.Bool.{and_parts, or_parts, or_from, not-true}
use Rattle.documents.specs.Tests.{every, is_scalar}
use Rattle.documents.specs.Kind.{Object}
use Rattle.documents.specs.Document.{Document, object, Members, no_members, member, entries, is_document, are_members, is_before}
use Rattle.positions.specs.Position.{Position, position_at}
use Rattle.positions.specs.Holds.{holds, IsTable}
use Rattle.position_laws.proofs.Asks.{holds-asks}
use Rattle.goals.specs.Signed.{Signed, Plus, Minus, met, meets}
use Rattle.goals.specs.Choices.{choices, is_wrong}
use Rattle.frames.specs.Frame.{In, Frame, is_at_end}
use Rattle.list_laws.specs.In.{IsIn}
use Rattle.list_laws.proofs.Lists.{every_at, every_from, from_flat_map, in_flat_map, in_filter}
use Rattle.cells.specs.Cells.{Cells, cell_of, truth, says}
use Rattle.frames.specs.ObjectFrame.{lower_at, lower, below_at, below, plus_bars, minus_bars, bars, is_allowed, is_demand, minus_inside, inside, plus_each, each, serving, object_frame_with}
use Rattle.list_laws.proofs.Tests.{none_from, none_at, from_filter, in_range}
use Rattle.cell_laws.specs.RightCells.{AreCells}
use Rattle.object_laws.proofs.Literals.{IsPlus, IsMinus, is_plus, is_minus, from_plus, from_minus}
use Rattle.frame_laws.proofs.Ends.{lesser_end}

-- members arranged as a frame requires, with the cells of their names
pub record AreArranged (T : List Position) (frame : Frame) (cell : List ℕ → ℕ) (es : List (List ℕ × Document)) : Type
    0 where
  pub low : frame.lower ≤ length es
  pub high : is_at_end (length es) frame.below ≡ false
  pub cells : (m : List ℕ × Document) → IsIn m es → IsIn (cell m.0) frame.cells
  pub each : (m : List ℕ × Document) → IsIn m es
      → meets T (flat_map (frame.each (In (cell m.0))) frame.set) m.1 ≡ true
  pub served : (d : Signed) → IsIn d frame.demands → (m : List ℕ × Document) × IsIn m es
      × (frame.inside d (cell m.0) ≡ true) × (meets T (frame.serving (In (cell m.0)) d) m.1 ≡ true)

pub lower_from : (T : List Position) (S : List Signed) (n : ℕ) → ((x : Signed) → IsIn x S → lower_at T x ≤ n)
    → lower T S ≤ n
lower_from T [] n h = omega arith
lower_from T (x ∷ S) n h = omega (arith, h x (inl refl), lower_from T S n (λ y i. h y (inr i)))

pub lower_to : (T : List Position) (S : List Signed) (n : ℕ) → lower T S ≤ n → (x : Signed) → IsIn x S
    → lower_at T x ≤ n
lower_to T [] n h x i = absurd i
lower_to T (y ∷ S) n h x (inl e) = subst (λ z. lower_at T z ≤ n) (sym e) (omega (arith, h))
lower_to T (y ∷ S) n h x (inr i) = lower_to T S n (omega (arith, h)) x i

pub below_from : (T : List Position) (S : List Signed) (n : ℕ)
    → ((x : Signed) → IsIn x S → is_at_end n (below_at T x) ≡ false)
    → is_at_end n (below T S) ≡ false
below_from T [] n h = refl
below_from T (x ∷ S) n h =
    lesser_end n (below_at T x) (below T S)
    ∙ or_from (is_at_end n (below_at T x)) (is_at_end n (below T S)) (h x (inl refl))
    (below_from T S n (λ y i. h y (inr i)))

pub below_to : (T : List Position) (S : List Signed) (n : ℕ) → is_at_end n (below T S) ≡ false → (x : Signed)
    → IsIn x S
    → is_at_end n (below_at T x) ≡ false
below_to T [] n h x i = absurd i
below_to T (y ∷ S) n h x i =
    let both = or_parts (is_at_end n (below_at T y)) (is_at_end n (below T S))
    (sym (lesser_end n (below_at T y) (below T S)) ∙ h) in
    ⊎_elim (λ e. subst (λ z. is_at_end n (below_at T z) ≡ false) (sym e) both.0) (λ j. below_to T S n both.1 x j) i

-- names of members are names
pub scalar_names : (ms : Members) → are_members ms ≡ true → (m : List ℕ × Document) → IsIn m (entries ms)
    → every is_scalar m.0 ≡ true
scalar_names no_members a m i = absurd i
scalar_names (member k d ms) a m i =
    let (front, behind) = and_parts (every is_scalar k && is_document d && is_before k ms) (are_members ms) a in
    let (own, before) = and_parts (every is_scalar k && is_document d) (is_before k ms) front in
    ⊎_elim (λ e. subst (λ z. every is_scalar z.0 ≡ true) (sym e)
    (and_parts (every is_scalar k) (is_document d) own).0)
    (λ j. scalar_names ms behind m j) i

module _ (T : List Position) (ok : IsTable T) (S : List Signed) (C : Cells) (laws : AreCells T S C) (ms : Members)
    (good : are_members ms ≡ true) where
  abbrev here : ℕ → Bool
  here q = holds T q (object ms)

  abbrev Cell : List ℕ → ℕ
  Cell w = cell_of T C w

  -- the literals of the set are met
  abbrev pub AreMet : Type 0
  AreMet = (x : Signed) → IsIn x S → choices T Object x ≡ None → met (λ p. holds T p (object ms)) x ≡ true

  exact_at : (x : Signed) (m : List ℕ × Document) → IsIn x S → IsIn m (entries ms)
      → truth C (Cell m.0) x ≡ says T x m.0
  exact_at x m i j = laws.exact x m.0 i (scalar_names ms good m j)

  module _ (k : AreMet) where
    plus_at : (p : ℕ) → IsIn (Plus p) S → IsPlus T here ms (position_at T p)
    plus_at p i = is_plus T here ms (position_at T p) (λ c. sym (holds-asks T ok p (object ms)) ∙ k (Plus p) i c)

    minus_at : (p : ℕ) → IsIn (Minus p) S → IsMinus T here ms (position_at T p)
    minus_at p i =
        is_minus T here ms (position_at T p) (λ c. ap not (sym (holds-asks T ok p (object ms))) ∙ k (Minus p) i c)

    low_at : (x : Signed) → IsIn x S → lower_at T x ≤ length (entries ms)
    low_at (Plus p) i = (plus_at p i).low
    low_at (Minus p) i = (minus_at p i).low

    high_at : (x : Signed) → IsIn x S → is_at_end (length (entries ms)) (below_at T x) ≡ false
    high_at (Plus p) i = (plus_at p i).high
    high_at (Minus p) i = (minus_at p i).high

    unbarred : (m : List ℕ × Document) → IsIn m (entries ms) → (x : Signed) → IsIn x S → bars T C (Cell m.0) x ≡ false
    unbarred m j (Plus p) i = ap (λ b. plus_bars b (position_at T p)) (exact_at (Plus p) m i j)
        ∙ (plus_at p i).allowed m j
    unbarred m j (Minus p) i = ap (λ b. minus_bars b (position_at T p)) (exact_at (Minus p) m i j)
        ∙ (minus_at p i).allowed m j

    each_at : (m : List ℕ × Document) → IsIn m (entries ms) → (x : Signed) → IsIn x S
        → meets T (each T C (In (Cell m.0)) x) m.1 ≡ true
    each_at m j (Plus p) i =
        ap (λ b. meets T (plus_each b (position_at T p)) m.1) (exact_at (Plus p) m i j) ∙ (plus_at p i).each m j
    each_at m j (Minus p) i = refl

    served_at : (d : Signed) → IsIn d S → is_demand T d ≡ true → (m : List ℕ × Document) × IsIn m (entries ms)
        × (inside T C d (Cell m.0) ≡ true) × (meets T (serving T d) m.1 ≡ true)
    served_at (Plus p) i w = let (m, j, h) = (plus_at p i).served w in (m, j, exact_at (Plus p) m i j ∙ h, refl)
    served_at (Minus p) i w =
        let (m, j, h, g) = (minus_at p i).served w in
        (m, j, ap (λ b. minus_inside b (position_at T p)) (exact_at (Minus p) m i j) ∙ h, g)

    pub arranged : (bounds : ℕ → Option ℕ) (rooms : ℕ → ℕ → ℕ)
        → AreArranged T (object_frame_with bounds rooms T C S) (cell_of T C) (entries ms)
    arranged bounds rooms = record {
      low = lower_from T S (length (entries ms)) low_at;
      high = below_from T S (length (entries ms)) high_at;
      cells = λ m j. in_filter (is_allowed T C S) (Cell m.0) _
          (in_range (length C.vectors) (Cell m.0) (laws.known m.0 (scalar_names ms good m j)))
          (ap not (none_from (bars T C (Cell m.0)) S (λ x i. unbarred m j x i)));
      each = λ m j. every_from _ (flat_map (each T C (In (Cell m.0))) S) (λ y i.
          let (x, a, b) = from_flat_map (each T C (In (Cell m.0))) y S i in
          every_at _ y (each T C (In (Cell m.0)) x) (each_at m j x a) b);
      served = λ d i. let (a, b) = from_filter (is_demand T) d S i in served_at d a b;
    }

  module _ (none_wrong : (x : Signed) → IsIn x S → is_wrong T Object x ≡ false) (bounds : ℕ → Option ℕ)
      (rooms : ℕ → ℕ → ℕ)
      (k : AreArranged T (object_frame_with bounds rooms T C S) (cell_of T C) (entries ms)) where
    unbarred_at : (m : List ℕ × Document) → IsIn m (entries ms) → (x : Signed) → IsIn x S
        → bars T C (Cell m.0) x ≡ false
    unbarred_at m j x i =
        none_at (bars T C (Cell m.0)) x S (not-true _ (from_filter (is_allowed T C S) (Cell m.0) _ (k.cells m j)).1) i

    each_of : (m : List ℕ × Document) → IsIn m (entries ms) → (x : Signed) → IsIn x S
        → meets T (each T C (In (Cell m.0)) x) m.1 ≡ true
    each_of m j x i = every_from _ (each T C (In (Cell m.0)) x) (λ y a.
        every_at _ y (flat_map (each T C (In (Cell m.0))) S) (k.each m j)
        (in_flat_map (each T C (In (Cell m.0))) y x S i a))

    as_plus : (p : ℕ) → IsIn (Plus p) S → IsPlus T here ms (position_at T p)
    as_plus p i = record {
      low = lower_to T S (length (entries ms)) k.low (Plus p) i;
      high = below_to T S (length (entries ms)) k.high (Plus p) i;
      allowed = λ m j. ap (λ b. plus_bars b (position_at T p)) (sym (exact_at (Plus p) m i j))
          ∙ unbarred_at m j (Plus p) i;
      each = λ m j. ap (λ b. meets T (plus_each b (position_at T p)) m.1) (sym (exact_at (Plus p) m i j))
          ∙ each_of m j (Plus p) i;
      served = λ w. let (m, j, h, g) = k.served (Plus p) (in_filter (is_demand T) (Plus p) S i w) in
          (m, j, sym (exact_at (Plus p) m i j) ∙ h);
    }

    as_minus : (p : ℕ) → IsIn (Minus p) S → IsMinus T here ms (position_at T p)
    as_minus p i = record {
      low = lower_to T S (length (entries ms)) k.low (Minus p) i;
      high = below_to T S (length (entries ms)) k.high (Minus p) i;
      allowed = λ m j. ap (λ b. minus_bars b (position_at T p)) (sym (exact_at (Minus p) m i j))
          ∙ unbarred_at m j (Minus p) i;
      served = λ w. let (m, j, h, g) = k.served (Minus p) (in_filter (is_demand T) (Minus p) S i w) in
          (m, j, ap (λ b. minus_inside b (position_at T p)) (sym (exact_at (Minus p) m i j)) ∙ h, g);
    }

    pub literals_met : AreMet
    literals_met (Plus p) i c =
        holds-asks T ok p (object ms) ∙ from_plus T here ms (position_at T p) c (none_wrong (Plus p) i) (as_plus p i)
    literals_met (Minus p) i c =
        ap not (holds-asks T ok p (object ms))
        ∙ from_minus T here ms (position_at T p) c (none_wrong (Minus p) i) (as_minus p i)
