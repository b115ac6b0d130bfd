-- The document of a plan's alternative is that of the plan.
use Rattle.std.proofs.Common.{◌≡◌, ℕ, zero, suc, ◌-◌, min, Bool, true, false, cond, List, [], ◌∷◌, ◌++◌, map, length, take, replicate, Option, Some, None, refl, ap, ap₂, sym, ◌∙◌, arith}
use Rattle.std.specs.Option.{is_none}
use Rattle.documents.specs.Kind as K
use Rattle.documents.specs.Document.{Document, array, object, items_of}
use Rattle.positions.specs.Position.{Position}
use Rattle.goals.specs.Signed.{Signed}
use Rattle.frames.specs.Frame.{Place, In, Frame}
use Rattle.frames.specs.Plan.{Member, Plan, size, heads_from, placed, goal_of, clash_from, need}
use Rattle.expansions.specs.SortedMembers.{sorted}
use Rattle.frame_laws.proofs.CompletePlans.{IsComplete}
use Rattle.cells.specs.Cells.{Cells}
use Rattle.frames.specs.Fillers.{Filler, fillers, times, child_of, fill}
use Rattle.expansions.specs.Leaves.{name}
use Rattle.object_laws.specs.ObjectValues.{named, object_of, member_slots, filler_slots, at_slot}
use Rattle.object_laws.specs.ObjectValues as O
use Rattle.object_laws.proofs.Slots.{slots_named}
use Rattle.array_laws.specs.ArrayValues.{array_of}
use Rattle.alternatives.specs.Alternative.{Slot, Index, Name, Placed}
use Rattle.expansions.specs.Leaves.{by_index, by_name, cell_of, placed_as, members_of, filling_of, plan_alternative}
use Rattle.expansions.specs.DocumentOf.{copies, with_name, filled, document_of}
use Rattle.list_laws.specs.In.{Distinct}
use Rattle.std.proofs.lemmas.List.{map-append}

abbrev part_value : Slot × Document → Document
part_value s = s.1

abbrev value_of : ℕ × Document → Document
value_of v = v.1

-- without first places nothing is at them
pub no_heads : (n : ℕ) (xs : List (List Signed)) → length xs ≡ 0 → take n (heads_from 0 xs) ≡ []
no_heads zero xs e = refl
no_heads (suc n) [] e = refl
no_heads (suc n) (x ∷ xs) e = absurd (omega (arith, e))

module _ (can : List Signed → Bool) (child : List Signed → Document) (T : List Position) (frame : Frame) where
  abbrev Child : Placed → Slot × Document
  Child m = (m.slot, child m.goal)

  -- by element

  element_members : (n i : ℕ) (before : List ℕ) (ss : List (Place × List Signed)) → clash_from T frame n ss ≡ None
      → map part_value (map (λ m. (m.slot, child m.goal)) (members_of by_index T frame i before ss)) ≡ map
      (child_of can child) (map (goal_of T frame) ss)
  element_members n i before [] e = refl
  element_members n i before (s ∷ ss) e =
      go (goal_of T frame s) e (element_members (suc n) (suc i) (cell_of s.0 ∷ before) ss) where
        go : (o : Option (List Signed)) → cond (is_none o) (Some n) (clash_from T frame (suc n) ss) ≡ None
            → (clash_from T frame (suc n) ss ≡ None
            → map part_value
            (map (λ m. (m.slot, child m.goal)) (members_of by_index T frame (suc i) (cell_of s.0 ∷ before) ss)) ≡ map
            (child_of can child) (map (goal_of T frame) ss))
            → map part_value
            (map (λ m. (m.slot, child m.goal))
            (placed_as (Index i) o ++ members_of by_index T frame (suc i) (cell_of s.0 ∷ before) ss))
            ≡ child_of can child o ∷ map (child_of can child) (map (goal_of T frame) ss)
        go None e more = cc
        go (Some g) e more = ap (λ z. child g ∷ z) (more e)

  element_copies : (s : Slot) (c n : ℕ) (J : Document)
      → map part_value (copies s n J) ≡ map value_of (replicate n (c, J))
  element_copies s c zero J = refl
  element_copies s c (suc n) J = ap (λ z. J ∷ z) (element_copies _ c n J)

  element_fillers : (k n : ℕ) (fs : List Filler)
      → map part_value (filled can child n (map (filling_of by_index k) fs)) ≡ map value_of (fill can child n fs)
  element_fillers k n [] = refl
  element_fillers k n (f ∷ fs) = go (can f.goal) (λ m. element_fillers k m fs) where
    go : (b : Bool)
        → ((m : ℕ)
        → map part_value (filled can child m (map (filling_of by_index k) fs)) ≡ map value_of (fill can child m fs))
        → map part_value
        (cond b (copies (Index k) (min n f.room) (child f.goal)
        ++ filled can child (n - f.room) (map (filling_of by_index k) fs))
        (filled can child n (map (filling_of by_index k) fs)))
        ≡ map value_of
        (cond b (replicate (min n f.room) (f.cell, child f.goal) ++ fill can child (n - f.room) fs)
        (fill can child n fs))
    go false more = more n
    go true more =
        map-append part_value (copies (Index k) (min n f.room) (child f.goal))
        (filled can child (n - f.room) (map (filling_of by_index k) fs))
        ∙ ap₂ (λ x y. x ++ y) (element_copies (Index k) f.cell (min n f.room) (child f.goal)) (more (n - f.room))
        ∙ sym (map-append value_of (replicate (min n f.room) (f.cell, child f.goal)) (fill can child (n - f.room) fs))

  pub array_same : (names : ℕ → ℕ → List ℕ) (k : ℕ) (q : Plan) → IsComplete T frame q
      → document_of can child names (plan_alternative by_index K.Array k T frame q) ≡ array_of can child T frame q
  array_same names k q c = ap (λ z. array (items_of z))
      (map-append part_value (map (λ m. (m.slot, child m.goal)) (members_of by_index T frame 0 [] (placed frame q)))
      (filled can child (need frame q) (map (filling_of by_index (length (placed frame q))) (fillers T frame q)))
      ∙ ap₂ (λ x y. x ++ y) (element_members 0 0 [] (placed frame q) c.clear)
      (element_fillers (length (placed frame q)) (need frame q) (fillers T frame q)))

  -- by name

  module _ (C : Cells) where
    abbrev Value : Member → Document
    Value m = child_of can child (goal_of T frame (In m.cell, m.served))

    name_members : (n i : ℕ) (before : List ℕ) (ms : List Member)
        → clash_from T frame n (map (λ m. (In m.cell, m.served)) ms) ≡ None
        → map (with_name (name C))
        (map (λ m. (m.slot, child m.goal))
        (members_of by_name T frame i before (map (λ m. (In m.cell, m.served)) ms)))
        ≡ map (at_slot C) (member_slots (λ m. child_of can child (goal_of T frame (In m.cell, m.served))) before ms)
    name_members n i before [] e = refl
    name_members n i before (m ∷ ms) e =
        go (goal_of T frame (In m.cell, m.served)) e (name_members (suc n) (suc i) (m.cell ∷ before) ms) where
          go : (o : Option (List Signed))
              → cond (is_none o) (Some n) (clash_from T frame (suc n) (map (λ m. (In m.cell, m.served)) ms)) ≡ None
              → (clash_from T frame (suc n) (map (λ m. (In m.cell, m.served)) ms) ≡ None
              → map (with_name (name C))
              (map (λ m. (m.slot, child m.goal))
              (members_of by_name T frame (suc i) (m.cell ∷ before) (map (λ m. (In m.cell, m.served)) ms)))
              ≡ map (at_slot C)
              (member_slots (λ m. child_of can child (goal_of T frame (In m.cell, m.served))) (m.cell ∷ before) ms))
              → map (with_name (name C))
              (map (λ m. (m.slot, child m.goal))
              (placed_as (Name m.cell (times m.cell before)) o
              ++ members_of by_name T frame (suc i) (m.cell ∷ before) (map (λ m. (In m.cell, m.served)) ms)))
              ≡ (name C m.cell (times m.cell before), child_of can child o) ∷ map (at_slot C)
              (member_slots (λ m. child_of can child (goal_of T frame (In m.cell, m.served))) (m.cell ∷ before) ms)
          go None e more = cc
          go (Some g) e more = ap (λ z. (name C m.cell (times m.cell before), child g) ∷ z) (more e)

    name_copies : (c k n : ℕ) (J : Document)
        → map (with_name (name C)) (copies (Name c k) n J) ≡ map (at_slot C) (O.copies c k n J)
    name_copies c k zero J = refl
    name_copies c k (suc n) J = ap (λ z. (name C c k, J) ∷ z) (name_copies c (suc k) n J)

    name_fillers : (k n : ℕ) (fs : List Filler)
        → map (with_name (name C)) (filled can child n (map (filling_of by_name k) fs)) ≡ map (at_slot C)
        (filler_slots can child n fs)
    name_fillers k n [] = refl
    name_fillers k n (f ∷ fs) = go (can f.goal) (λ m. name_fillers k m fs) where
      go : (b : Bool)
          → ((m : ℕ)
          → map (with_name (name C)) (filled can child m (map (filling_of by_name k) fs)) ≡ map (at_slot C)
          (filler_slots can child m fs))
          → map (with_name (name C))
          (cond b (copies (Name f.cell f.first) (min n f.room) (child f.goal)
          ++ filled can child (n - f.room) (map (filling_of by_name k) fs))
          (filled can child n (map (filling_of by_name k) fs)))
          ≡ map (at_slot C)
          (cond b (O.copies f.cell f.first (min n f.room) (child f.goal)
          ++ filler_slots can child (n - f.room) fs) (filler_slots can child n fs))
      go false more = more n
      go true more =
          map-append (with_name (name C)) (copies (Name f.cell f.first) (min n f.room) (child f.goal))
          (filled can child (n - f.room) (map (filling_of by_name k) fs))
          ∙ ap₂ (λ x y. x ++ y) (name_copies f.cell f.first (min n f.room) (child f.goal)) (more (n - f.room))
          ∙ sym (map-append (at_slot C) (O.copies f.cell f.first (min n f.room) (child f.goal))
          (filler_slots can child (n - f.room) fs))

    pub object_same : (k : ℕ) (q : Plan) → IsComplete T frame q → frame.heads ≡ 0 → Distinct frame.cells
        → document_of can child (name C) (plan_alternative by_name K.Object k T frame q) ≡ object_of C
        (O.values can child T frame q)
    object_same k q c h d =
        let front : placed frame q ≡ map (λ m. (In m.cell, m.served)) q.members =
        ap (λ z. z ++ map (λ m. (In m.cell, m.served)) q.members)
        (no_heads (size frame q) q.heads (c.kept.heads_long ∙ h)) in
        ap (λ z. object (sorted z))
        (map-append (with_name (name C))
        (map (λ m. (m.slot, child m.goal)) (members_of by_name T frame 0 [] (placed frame q)))
        (filled can child (need frame q) (map (filling_of by_name (length (placed frame q))) (fillers T frame q)))
        ∙ ap₂ (λ x y. x ++ y)
        (ap (λ z. map (with_name (name C)) (map (λ m. (m.slot, child m.goal)) (members_of by_name T frame 0 [] z)))
        front
        ∙ name_members 0 0 [] q.members (sym (ap (clash_from T frame 0) front) ∙ c.clear))
        (name_fillers (length (placed frame q)) (need frame q) (fillers T frame q))
        ∙ sym (map-append (at_slot C)
        (member_slots (λ m. child_of can child (goal_of T frame (In m.cell, m.served))) [] q.members)
        (filler_slots can child (need frame q) (fillers T frame q)))
        ∙ sym (slots_named C can child T frame q d))
