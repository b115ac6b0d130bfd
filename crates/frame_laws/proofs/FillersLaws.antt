-- What is taken from fillers: as many as requested where their rooms suffice, from each no more than its room.
use Rattle.std.proofs.Common.{◌≡◌, ℕ, zero, suc, ◌+◌, ◌-◌, ◌≤◌, min, inl, inr, ⊎_elim, Bool, true, false, cond, List, [], ◌∷◌, ◌++◌, flat_map, length, nat_eq, replicate, Option, Some, None, refl, ap, sym, ◌∙◌, subst, arith, length-append}
use Rattle.std.proofs.Math.ListN.{length-replicate}
use Rattle.std.proofs.lemmas.Bool.{eqb-true}
use Rattle.documents.specs.Document.{Document}
use Rattle.positions.specs.Position.{Position}
use Rattle.goals.specs.Signed.{Signed}
use Rattle.frames.specs.Frame.{In, Frame}
use Rattle.frames.specs.Plan.{Plan, count_in, goal_of, need}
use Rattle.list_laws.specs.In.{IsIn, Distinct}
use Rattle.list_laws.proofs.Lists.{from_append, from_flat_map}
use Rattle.frame_laws.proofs.Occurrences.{cells_of, times_append, cells_append}
use Rattle.frames.specs.Fillers.{Filler, with_room, filler_at, fillers, rooms_of, times, fill}

-- the fillers of a cell
pub record IsFiller (T : List Position) (frame : Frame) (q : Plan) (c : ℕ) (f : Filler) : Type 0 where
  pub cell : f.cell ≡ c
  pub goal : goal_of T frame (In c, []) ≡ Some f.goal
  pub first : f.first ≡ count_in c q.members
  pub room : f.room ≡ frame.room c (count_in c q.members)

pub filler_is : (T : List Position) (frame : Frame) (q : Plan) (c : ℕ) (f : Filler) → IsIn f (filler_at T frame q c)
    → IsFiller T frame q c f
filler_is T frame q c f i = go (goal_of T frame (In c, [])) (frame.room c (count_in c q.members)) refl refl i where
  go : (o : Option (List Signed)) (n : ℕ) → goal_of T frame (In c, []) ≡ o → frame.room c (count_in c q.members) ≡ n
      → IsIn f (with_room c (count_in c q.members) o n) → IsFiller T frame q c f
  go None zero e h i = absurd i
  go None (suc n) e h i = absurd i
  go (Some g) zero e h i = absurd i
  go (Some g) (suc n) e h (inl p) = record {
    cell = ap (λ z. z.cell) p;
    goal = e ∙ ap (λ z. Some z.goal) (sym p);
    first = ap (λ z. z.first) p;
    room = ap (λ z. z.room) p ∙ sym h;
  }
  go (Some g) (suc n) e h (inr i) = absurd i

-- each filler of a plan is that of one of the frame's cells
pub fillers_from : (T : List Position) (frame : Frame) (q : Plan) (f : Filler) → IsIn f (fillers T frame q)
    → (c : ℕ) × IsIn c frame.cells × IsFiller T frame q c f
fillers_from T frame q f i = go (nat_eq (need frame q) 0) i where
  go : (b : Bool) → IsIn f (cond b [] (flat_map (filler_at T frame q) frame.cells))
      → (c : ℕ) × IsIn c frame.cells × IsFiller T frame q c f
  go true i = absurd i
  go false i = let (c, a, h) = from_flat_map (filler_at T frame q) f frame.cells i in
      (c, a, filler_is T frame q c f h)

in_replicate : {A : Type 0} (x y : A) (n : ℕ) → IsIn x (replicate n y) → x ≡ y
in_replicate x y zero i = absurd i
in_replicate x y (suc n) (inl e) = e
in_replicate x y (suc n) (inr i) = in_replicate x y n i

-- the rooms of the fillers of a cell
abbrev pub rooms_in : ℕ → List Filler → ℕ
rooms_in c [] = 0
rooms_in c (f ∷ fs) = cond (nat_eq f.cell c) (f.room + rooms_in c fs) (rooms_in c fs)

module _ (can : List Signed → Bool) (child : List Signed → Document) where
  pub fill_from : (n : ℕ) (fs : List Filler) (v : ℕ × Document) → IsIn v (fill can child n fs)
      → (f : Filler) × IsIn f fs × (can f.goal ≡ true) × (v ≡ (f.cell, child f.goal))
  fill_from n [] v i = absurd i
  fill_from n (f ∷ fs) v i = go (can f.goal) refl i (λ m. fill_from m fs v) where
    go : (b : Bool) → can f.goal ≡ b
        → IsIn v (cond b (replicate (min n f.room) (f.cell, child f.goal) ++ fill can child (n - f.room) fs)
        (fill can child n fs))
        → ((m : ℕ) → IsIn v (fill can child m fs) → (f : Filler) × IsIn f fs × (can f.goal ≡ true)
        × (v ≡ (f.cell, child f.goal)))
        → (g : Filler) × IsIn g (f ∷ fs) × (can g.goal ≡ true) × (v ≡ (g.cell, child g.goal))
    go false e i more = let (g, a, b, c) = more n i in (g, inr a, b, c)
    go true e i more = ⊎_elim
        (λ j. (f, inl refl, e, in_replicate v (f.cell, child f.goal) (min n f.room) j))
        (λ j. let (g, a, b, c) = more (n - f.room) j in (g, inr a, b, c))
        (from_append v (replicate (min n f.room) (f.cell, child f.goal)) (fill can child (n - f.room) fs) i)

  pub fill_length : (n : ℕ) (fs : List Filler) → n ≤ rooms_of can fs → length (fill can child n fs) ≡ n
  fill_length n [] l = omega (arith, l)
  fill_length n (f ∷ fs) l = go (can f.goal) l (λ m. fill_length m fs) where
    go : (b : Bool) → n ≤ cond b (f.room + rooms_of can fs) (rooms_of can fs)
        → ((m : ℕ) → m ≤ rooms_of can fs → length (fill can child m fs) ≡ m)
        → length (cond b (replicate (min n f.room) (f.cell, child f.goal) ++ fill can child (n - f.room) fs)
        (fill can child n fs)) ≡ n
    go false l more = more n l
    go true l more =
        let a = length-append (replicate (min n f.room) (f.cell, child f.goal)) (fill can child (n - f.room) fs) in
        let b = length-replicate {A = ℕ × Document} (min n f.room) (f.cell, child f.goal) in
        let c = more (n - f.room) (omega (arith, l)) in
        omega (arith, a, b, c)

  times_replicate : (c x n : ℕ) (J : Document) → times c (cells_of (replicate n (x, J))) ≤ cond (nat_eq x c) n 0
  times_replicate c x n J = go (nat_eq x c) refl n where
    go : (b : Bool) → nat_eq x c ≡ b → (n : ℕ) → times c (cells_of (replicate n (x, J))) ≤ cond b n 0
    go true e zero = omega arith
    go false e zero = omega arith
    go true e (suc n) = rw e (omega (arith, go true e n))
    go false e (suc n) = rw e (omega (arith, go false e n))

  pub fill_times : (c n : ℕ) (fs : List Filler) → times c (cells_of (fill can child n fs)) ≤ rooms_in c fs
  fill_times c n [] = omega arith
  fill_times c n (f ∷ fs) = go (can f.goal) (λ m. fill_times c m fs) where
    less : (b : Bool) (m r : ℕ) → m ≤ rooms_in c fs
        → cond b (min n f.room) 0 + m ≤ cond b (f.room + rooms_in c fs) (rooms_in c fs)
    less true m r l = omega (arith, l)
    less false m r l = omega (arith, l)

    more_in : (b : Bool) (m : ℕ) → m ≤ rooms_in c fs → m ≤ cond b (f.room + rooms_in c fs) (rooms_in c fs)
    more_in true m l = omega (arith, l)
    more_in false m l = l

    go : (b : Bool) → ((m : ℕ) → times c (cells_of (fill can child m fs)) ≤ rooms_in c fs)
        → times c (cells_of
        (cond b (replicate (min n f.room) (f.cell, child f.goal) ++ fill can child (n - f.room) fs)
        (fill can child n fs)))
        ≤ cond (nat_eq f.cell c) (f.room + rooms_in c fs) (rooms_in c fs)
    go false more = more_in (nat_eq f.cell c) (times c (cells_of (fill can child n fs))) (more n)
    go true more =
        let e : times c (cells_of (replicate (min n f.room) (f.cell, child f.goal) ++ fill can child (n - f.room) fs))
        ≡ times c (cells_of (replicate (min n f.room) (f.cell, child f.goal))) + times c
        (cells_of (fill can child (n - f.room) fs)) =
        ap (times c) (cells_append (replicate (min n f.room) (f.cell, child f.goal)) (fill can child (n - f.room) fs))
        ∙ times_append c (cells_of (replicate (min n f.room) (f.cell, child f.goal)))
        (cells_of (fill can child (n - f.room) fs)) in
        let a = times_replicate c f.cell (min n f.room) (child f.goal) in
        let b = less (nat_eq f.cell c) (times c (cells_of (fill can child (n - f.room) fs))) 0 (more (n - f.room)) in
        omega (arith, e, a, b)

-- each cell has one filler at most
module _ (T : List Position) (frame : Frame) (q : Plan) where
  at_cell : (c e : ℕ) → rooms_in c (filler_at T frame q e) ≤ cond (nat_eq e c) (frame.room e (count_in e q.members)) 0
  at_cell c e = go (goal_of T frame (In e, [])) (frame.room e (count_in e q.members)) where
    one : (b : Bool) (n : ℕ) → cond b (n + 0) 0 ≤ cond b n 0
    one true n = omega arith
    one false n = omega arith

    none : (b : Bool) (n : ℕ) → 0 ≤ cond b n 0
    none b n = omega arith

    go : (o : Option (List Signed)) (n : ℕ)
        → rooms_in c (with_room e (count_in e q.members) o n) ≤ cond (nat_eq e c) n 0
    go None zero = none (nat_eq e c) 0
    go None (suc n) = none (nat_eq e c) (suc n)
    go (Some g) zero = none (nat_eq e c) 0
    go (Some g) (suc n) = one (nat_eq e c) (suc n)

  rooms_append : (c : ℕ) (fs gs : List Filler) → rooms_in c (fs ++ gs) ≡ rooms_in c fs + rooms_in c gs
  rooms_append c [] gs = omega arith
  rooms_append c (f ∷ fs) gs = go (nat_eq f.cell c) (rooms_append c fs gs) where
    go : (b : Bool) → rooms_in c (fs ++ gs) ≡ rooms_in c fs + rooms_in c gs
        → cond b (f.room + rooms_in c (fs ++ gs)) (rooms_in c (fs ++ gs)) ≡ cond b (f.room + rooms_in c fs)
        (rooms_in c fs) + rooms_in c gs
    go true h = omega (arith, h)
    go false h = h

  absent : (c : ℕ) (cs : List ℕ) → (IsIn c cs → ⊥) → rooms_in c (flat_map (filler_at T frame q) cs) ≤ 0
  absent c [] out = omega arith
  absent c (e ∷ cs) out =
      let a = rooms_append c (filler_at T frame q e) (flat_map (filler_at T frame q) cs) in
      let b = absent c cs (λ i. out (inr i)) in
      let h : rooms_in c (filler_at T frame q e) ≤ 0 = go (nat_eq e c) refl (at_cell c e) in
      omega (arith, a, b, h)
    where
      go : (t : Bool) → nat_eq e c ≡ t
          → rooms_in c (filler_at T frame q e) ≤ cond t (frame.room e (count_in e q.members)) 0
          → rooms_in c (filler_at T frame q e) ≤ 0
      go true p h = absurd (out (inl (sym (eqb-true e c p))))
      go false p h = h

  pub one_room : (c : ℕ) (cs : List ℕ) → Distinct cs
      → rooms_in c (flat_map (filler_at T frame q) cs) ≤ frame.room c (count_in c q.members)
  one_room c [] d = omega arith
  one_room c (e ∷ cs) d =
      let a = rooms_append c (filler_at T frame q e) (flat_map (filler_at T frame q) cs) in
      go a (nat_eq e c) refl (at_cell c e) (one_room c cs d.1) where
        go : rooms_in c (filler_at T frame q e ++ flat_map (filler_at T frame q) cs) ≡ rooms_in c
            (filler_at T frame q e) + rooms_in c (flat_map (filler_at T frame q) cs)
            → (t : Bool) → nat_eq e c ≡ t
            → rooms_in c (filler_at T frame q e) ≤ cond t (frame.room e (count_in e q.members)) 0
            → rooms_in c (flat_map (filler_at T frame q) cs) ≤ frame.room c (count_in c q.members)
            → rooms_in c (filler_at T frame q e ++ flat_map (filler_at T frame q) cs) ≤ frame.room c
            (count_in c q.members)
        go a true p h more =
            let same : e ≡ c = eqb-true e c p in
            let b = absent c cs (λ i. d.0 (subst (λ z. IsIn z cs) (sym same) i)) in
            let h' : rooms_in c (filler_at T frame q e) ≤ frame.room c (count_in c q.members) =
            subst (λ z. rooms_in c (filler_at T frame q e) ≤ frame.room z (count_in z q.members)) same h in
            omega (arith, a, b, h')
        go a false p h more = omega (arith, a, h, more)

  pub fillers_room : (c : ℕ) → Distinct frame.cells
      → rooms_in c (fillers T frame q) ≤ frame.room c (count_in c q.members)
  fillers_room c d = go (nat_eq (need frame q) 0) where
    go : (b : Bool)
        → rooms_in c (cond b [] (flat_map (filler_at T frame q) frame.cells)) ≤ frame.room c (count_in c q.members)
    go true = omega arith
    go false = one_room c frame.cells d
