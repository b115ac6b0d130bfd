-- The names that values take one after another are those of the slots of the alternative's members and fillers.
use Rattle.std.proofs.Common.{◌≡◌, ℕ, zero, suc, ◌+◌, ◌-◌, min, inl, inr, Bool, true, false, cond, List, [], ◌∷◌, ◌++◌, map, flat_map, nat_eq, replicate, Option, Some, None, refl, ap, sym, ◌∙◌, subst, arith}
use Rattle.std.proofs.lemmas.Bool.{eqb-true, eq-eqb}
use Rattle.std.proofs.lemmas.List.{map-append}
use Rattle.documents.specs.Document.{Document}
use Rattle.positions.specs.Position.{Position}
use Rattle.goals.specs.Signed.{Signed}
use Rattle.frames.specs.Frame.{In, Frame}
use Rattle.frames.specs.Plan.{Member, Plan, count_in, goal_of, need}
use Rattle.list_laws.specs.In.{IsIn, Distinct}
use Rattle.list_laws.proofs.Lists.{from_flat_map}
use Rattle.cells.specs.Cells.{Cells}
use Rattle.frames.specs.Fillers.{Filler, with_room, filler_at, fillers, times, child_of, fill}
use Rattle.expansions.specs.Leaves.{name}
use Rattle.object_laws.specs.ObjectValues.{named, with_cells, values, member_slots, copies, filler_slots, at_slot}
use Rattle.frame_laws.proofs.FillersLaws.{filler_is, fillers_from}

-- the cells of names used, after so many of one cell
abbrev pile : ℕ → ℕ → List ℕ → List ℕ
pile zero c before = before
pile (suc n) c before = pile n c (c ∷ before)

pile_other : (n c e : ℕ) (before : List ℕ) → (c ≡ e → ⊥) → times e (pile n c before) ≡ times e before
pile_other zero c e before ne = refl
pile_other (suc n) c e before ne = pile_other n c e (c ∷ before) ne ∙ go (nat_eq c e) refl where
  go : (b : Bool) → nat_eq c e ≡ b → cond b (suc (times e before)) (times e before) ≡ times e before
  go true p = absurd (ne (eqb-true c e p))
  go false p = refl

-- fillers are in different cells
module _ (T : List Position) (frame : Frame) (q : Plan) where
  cells_differ : (cs : List ℕ) → Distinct cs → Distinct (map (λ f. f.cell) (flat_map (filler_at T frame q) cs))
  cells_differ [] d = tt
  cells_differ (c ∷ cs) d =
      go (goal_of T frame (In c, [])) (frame.room c (count_in c q.members)) (cells_differ cs d.1) where
        away : (fs : List Filler) → ((f : Filler) → IsIn f fs → IsIn f.cell cs) → IsIn c (map (λ f. f.cell) fs) → ⊥
        away [] h i = i
        away (f ∷ fs) h (inl e) = d.0 (subst (λ z. IsIn z cs) (sym e) (h f (inl refl)))
        away (f ∷ fs) h (inr i) = away fs (λ g j. h g (inr j)) i

        go : (o : Option (List Signed)) (n : ℕ) → Distinct (map (λ f. f.cell) (flat_map (filler_at T frame q) cs))
            → Distinct (map (λ f. f.cell) (with_room c (count_in c q.members) o n ++ flat_map (filler_at T frame q) cs))
        go o zero h = h
        go None (suc n) h = h
        go (Some g) (suc n) h = (
          away (flat_map (filler_at T frame q) cs) (λ f i.
              let (e, a, b) = from_flat_map (filler_at T frame q) f cs i in
              let k = filler_is T frame q e f b in subst (λ z. IsIn z cs) (sym k.cell) a),
          h,
        )

  pub fillers_differ : Distinct frame.cells → Distinct (map (λ f. f.cell) (fillers T frame q))
  fillers_differ d = go (nat_eq (need frame q) 0) where
    go : (b : Bool) → Distinct (map (λ f. f.cell) (cond b [] (flat_map (filler_at T frame q) frame.cells)))
    go true = tt
    go false = cells_differ frame.cells d

module _ (C : Cells) where
  abbrev Named : List ℕ → List (ℕ × Document) → List (List ℕ × Document)
  Named before vs = named C before vs

  copies_named : (n c : ℕ) (J : Document) (before : List ℕ) (vs : List (ℕ × Document))
      → Named before (replicate n (c, J) ++ vs) ≡ map (at_slot C) (copies c (times c before) n J)
      ++ Named (pile n c before) vs
  copies_named zero c J before vs = refl
  copies_named (suc n) c J before vs =
      ap (λ z. (name C c (times c before), J) ∷ z)
      (copies_named n c J (c ∷ before) vs
      ∙ ap (λ k. map (at_slot C) (copies c k n J) ++ Named (pile n c (c ∷ before)) vs) (once (times c before)))
    where
      once : (k : ℕ) → cond (nat_eq c c) (suc k) k ≡ suc k
      once k = rw (eq-eqb c c refl) refl

  abbrev after_members : List ℕ → List Member → List ℕ
  after_members before [] = before
  after_members before (m ∷ ms) = after_members (m.cell ∷ before) ms

  after_times : (c : ℕ) (before : List ℕ) (ms : List Member)
      → times c (after_members before ms) ≡ times c before + count_in c ms
  after_times c before [] = omega arith
  after_times c before (m ∷ ms) = after_times c (m.cell ∷ before) ms ∙ go (nat_eq m.cell c) where
    go : (b : Bool)
        → cond b (suc (times c before)) (times c before) + count_in c ms ≡ times c before + cond b
        (suc (count_in c ms)) (count_in c ms)
    go true = omega arith
    go false = refl

  members_named : (value : Member → Document) (before : List ℕ) (ms : List Member) (vs : List (ℕ × Document))
      → Named before (with_cells ms (map value ms) ++ vs) ≡ map (at_slot C) (member_slots value before ms)
      ++ Named (after_members before ms) vs
  members_named value before [] vs = refl
  members_named value before (m ∷ ms) vs =
      ap (λ z. (name C m.cell (times m.cell before), value m) ∷ z) (members_named value (m.cell ∷ before) ms vs)

  module _ (can : List Signed → Bool) (child : List Signed → Document) where
    fillers_named : (before : List ℕ) (n : ℕ) (fs : List Filler)
        → ((f : Filler) → IsIn f fs → f.first ≡ times f.cell before)
        → Distinct (map (λ f. f.cell) fs)
        → Named before (fill can child n fs) ≡ map (at_slot C) (filler_slots can child n fs)
    fillers_named before n [] h d = refl
    fillers_named before n (f ∷ fs) h d = go (can f.goal) (λ m. fillers_named before m fs (λ g i. h g (inr i)) d.1)
        (λ m. fillers_named (pile (min n f.room) f.cell before) m fs
        (λ g i. h g (inr i) ∙ sym (pile_other (min n f.room) f.cell g.cell before (λ e. d.0 (at g fs i e)))) d.1)
      where
        at : (g : Filler) (fs : List Filler) → IsIn g fs → f.cell ≡ g.cell → IsIn f.cell (map (λ f. f.cell) fs)
        at g [] i e = i
        at g (x ∷ fs) (inl q) e = inl (e ∙ ap (λ z. z.cell) q)
        at g (x ∷ fs) (inr i) e = inr (at g fs i e)

        go : (b : Bool)
            → ((m : ℕ) → Named before (fill can child m fs) ≡ map (at_slot C) (filler_slots can child m fs))
            → ((m : ℕ) → Named (pile (min n f.room) f.cell before) (fill can child m fs) ≡ map (at_slot C)
            (filler_slots can child m fs))
            → Named before
            (cond b (replicate (min n f.room) (f.cell, child f.goal) ++ fill can child (n - f.room) fs)
            (fill can child n fs))
            ≡ map (at_slot C)
            (cond b (copies f.cell f.first (min n f.room) (child f.goal)
            ++ filler_slots can child (n - f.room) fs) (filler_slots can child n fs))
        go false more then_ = more n
        go true more then_ =
            copies_named (min n f.room) f.cell (child f.goal) before (fill can child (n - f.room) fs)
            ∙ ap (λ z. map (at_slot C) (copies f.cell (times f.cell before) (min n f.room) (child f.goal)) ++ z)
            (then_ (n - f.room))
            ∙ ap (λ k. map (at_slot C) (copies f.cell k (min n f.room) (child f.goal))
            ++ map (at_slot C) (filler_slots can child (n - f.room) fs)) (sym (h f (inl refl)))
            ∙ sym (map-append (at_slot C) (copies f.cell f.first (min n f.room) (child f.goal))
            (filler_slots can child (n - f.room) fs))

    module _ (T : List Position) (frame : Frame) (q : Plan) where
      -- the names of values are those of the slots of the plan's members and fillers
      pub slots_named : Distinct frame.cells
          → named C [] (values can child T frame q)
          ≡ map (at_slot C)
          (member_slots (λ m. child_of can child (goal_of T frame (In m.cell, m.served))) [] q.members
          ++ filler_slots can child (need frame q) (fillers T frame q))
      slots_named d =
          members_named (λ m. child_of can child (goal_of T frame (In m.cell, m.served))) [] q.members
          (fill can child (need frame q) (fillers T frame q))
          ∙ ap (λ z. map (at_slot C)
          (member_slots (λ m. child_of can child (goal_of T frame (In m.cell, m.served))) [] q.members) ++ z)
          (fillers_named (after_members [] q.members) (need frame q) (fillers T frame q)
          (λ f i. let (c, a, k) = fillers_from T frame q f i in
          let e = after_times f.cell [] q.members in
          let h : count_in c q.members ≡ count_in f.cell q.members = ap (λ z. count_in z q.members) (sym k.cell) in
          let first = k.first in omega (arith, first, h, e))
          (fillers_differ T frame q d))
          ∙ sym (map-append (at_slot C)
          (member_slots (λ m. child_of can child (goal_of T frame (In m.cell, m.served))) [] q.members)
          (filler_slots can child (need frame q) (fillers T frame q)))
