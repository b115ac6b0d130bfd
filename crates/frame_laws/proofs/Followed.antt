-- What is arranged by a frame meets one of the alternatives of its plans. A test says which goals are met by
-- documents that count as children.
use Rattle.std.proofs.Common.{◌≡◌, ℕ, zero, suc, ◌+◌, ◌-◌, ◌<◌, ◌≤◌, Bool, true, false, not, cond, List, [], ◌∷◌, ◌++◌, map, flat_map, nat_eq, replicate, Option, Some, None, refl, ap, sym, ◌∙◌, subst, arith}
use Rattle.std.proofs.Math.ListN.{length-replicate}
use Rattle.std.proofs.lemmas.Bool.{eqb-true}
use Rattle.std.specs.Option.{is_none}
use Rattle.positions.specs.Position.{Position}
use Rattle.goals.specs.Signed.{Signed}
use Rattle.goals.specs.Goal.{form}
use Rattle.frames.specs.Frame.{Place, In, Frame, list_at}
use Rattle.frames.specs.Plan.{Plan, empty_plan, count_in, placed, goal_of, complete, plan_steps, need}
use Rattle.frames.specs.PlanLines.{Ending, Clashes, Cites, Entry, Kept, Ends, is_refuted, is_cited, rooms, plus, room_of}
use Rattle.list_laws.specs.In.{IsIn, Distinct}
use Rattle.frame_laws.proofs.Arranged.{Arrangement, Meets, IsArranged, Fits, complete_fits, at_list, placed_met}
use Rattle.frame_laws.proofs.Refuted.{rooms_suffice}
use Rattle.frames.specs.Fillers.{Filler, with_room, filler_at, fillers, rooms_of, passes}

module _ (T : List Position) (frame : Frame) (A : Arrangement) (k : IsArranged T frame A)
    (once : Distinct frame.cells)
    (can : List Signed → Bool)
    -- what is arranged counts as children
    (told : (j : ℕ) (l : List Signed) → j < A.count → Meets A j l → passes can (form T l) ≡ true) where
  empty_at : (n j : ℕ) (x : Signed) → IsIn x (at_list (replicate n []) j) → ⊥
  empty_at zero j x i = i
  empty_at (suc n) zero x i = i
  empty_at (suc n) (suc j) x i = empty_at n j x i

  empty_fits : Fits T frame A (empty_plan frame)
  empty_fits = record {
    heads_long = length-replicate {A = List Signed} frame.heads [];
    heads_fit = λ j x i. absurd (empty_at frame.heads j x i);
    who = [];
    stand = tt;
    distinct = tt;
  }

  -- a goal is cited where the test fails it
  abbrev pub cite : ℕ → List Signed → Bool
  cite n g = not (can g)

  safe : (j : ℕ) (l : List Signed) (e : Ending) → j < A.count → Meets A j l → is_refuted T cite l e ≡ false
  safe j l Clashes a m = k.formed j l a m
  safe j l (Cites n) a m = go (form T l) (told j l a m) where
    go : (o : Option (List Signed)) → passes can o ≡ true → is_cited T cite n o ≡ false
    go None e = cc
    go (Some g) e = ap not e

  -- the entry of a cell: kept where its list forms a goal that passes
  abbrev entry_of : Option (List Signed) → Entry
  entry_of None = Ends Clashes
  entry_of (Some g) = cond (can g) Kept (Ends (Cites 0))

  abbrev entries_of : List ℕ → List Entry
  entries_of cs = map (λ c. entry_of (form T (list_at frame (In c) []))) cs

  rooms_append : (fs gs : List Filler) → rooms_of can (fs ++ gs) ≡ rooms_of can fs + rooms_of can gs
  rooms_append [] gs = omega arith
  rooms_append (f ∷ fs) gs = go (can f.goal) (rooms_append fs gs) where
    go : (b : Bool) → rooms_of can (fs ++ gs) ≡ rooms_of can fs + rooms_of can gs
        → cond b (f.room + rooms_of can (fs ++ gs)) (rooms_of can (fs ++ gs)) ≡ cond b (f.room + rooms_of can fs)
        (rooms_of can fs) + rooms_of can gs
    go true h = omega (arith, h)
    go false h = h

  module _ (q : Plan)
      -- a bounded cell has room for what its bound leaves
      (leaves : (c b : ℕ) → frame.cap c ≡ Some b → b - count_in c q.members ≤ frame.room c (count_in c q.members))
      -- one without bound has room for all that is needed
      (endless : (c : ℕ) → frame.cap c ≡ None → need frame q ≤ frame.room c (count_in c q.members)) where
    abbrev Room : ℕ → ℕ
    Room c = frame.room c (count_in c q.members)

    -- a kept cell's filler
    kept_room : (c : ℕ) (g : List Signed) → goal_of T frame (In c, []) ≡ Some g → can g ≡ true
        → Room c ≤ rooms_of can (filler_at T frame q c)
    kept_room c g e h = rw e (go (Room c)) where
      go : (n : ℕ) → n ≤ rooms_of can (with_room c (count_in c q.members) (Some g) n)
      go zero = omega arith
      go (suc n) = rw h (omega arith)

    -- the rooms that are kept are rooms of fillers; without a number, one of these has room for all
    kept_rooms : (cs : List ℕ)
        → ((n : ℕ) → rooms T cite frame q.members cs (entries_of cs) ≡ Some n
        → n ≤ rooms_of can (flat_map (filler_at T frame q) cs))
        × (rooms T cite frame q.members cs (entries_of cs) ≡ None
        → need frame q ≤ rooms_of can (flat_map (filler_at T frame q) cs))
    kept_rooms [] = ((λ n e. let f : 0 ≡ n = cc in omega (arith, f)), λ e. cc)
    kept_rooms (c ∷ cs) =
        let a = rooms_append (filler_at T frame q c) (flat_map (filler_at T frame q) cs) in
        go a (goal_of T frame (In c, [])) refl (kept_rooms cs) where
          More : Option ℕ → Type 0
          More r = ((n : ℕ) → r ≡ Some n → n ≤ rooms_of can (flat_map (filler_at T frame q) cs))
              × (r ≡ None → need frame q ≤ rooms_of can (flat_map (filler_at T frame q) cs))

          Now : Option ℕ → Type 0
          Now r = ((n : ℕ) → r ≡ Some n
              → n ≤ rooms_of can (filler_at T frame q c ++ flat_map (filler_at T frame q) cs))
              × (r ≡ None → need frame q ≤ rooms_of can (filler_at T frame q c ++ flat_map (filler_at T frame q) cs))

          skip : rooms_of can (filler_at T frame q c ++ flat_map (filler_at T frame q) cs) ≡ rooms_of can
              (filler_at T frame q c) + rooms_of can (flat_map (filler_at T frame q) cs)
              → (r : Option ℕ) → More r → Now r
          skip a r more =
              ((λ n e. let h = more.0 n e in omega (arith, a, h)), λ e. let h = more.1 e in omega (arith, a, h))

          add : rooms_of can (filler_at T frame q c ++ flat_map (filler_at T frame q) cs) ≡ rooms_of can
              (filler_at T frame q c) + rooms_of can (flat_map (filler_at T frame q) cs)
              → Room c ≤ rooms_of can (filler_at T frame q c)
              → (o : Option ℕ) → frame.cap c ≡ o → (r : Option ℕ) → More r
              → Now (plus (room_of (count_in c q.members) o) r)
          add a kept None e r more = ((λ n f. cc), λ f. let h = endless c e in omega (arith, a, kept, h))
          add a kept (Some b) e None more = ((λ n f. cc), λ f. let h = more.1 refl in omega (arith, a, h))
          add a kept (Some b) e (Some m) more = (
            (λ n f. let h = more.0 m refl in let l = leaves c b e in let s : (b - count_in c q.members) + m ≡ n =
                cc in omega (arith, a, kept, h, l, s)),
            λ f. cc,
          )

          go : rooms_of can (filler_at T frame q c ++ flat_map (filler_at T frame q) cs) ≡ rooms_of can
              (filler_at T frame q c) + rooms_of can (flat_map (filler_at T frame q) cs)
              → (o : Option (List Signed)) → form T (list_at frame (In c) []) ≡ o
              → More (rooms T cite frame q.members cs (entries_of cs))
              → Now (rooms T cite frame q.members (c ∷ cs) (entry_of o ∷ entries_of cs))
          go a None e more =
              let h : is_none (form T (list_at frame (In c) [])) ≡ true = ap is_none e in
              subst (λ b. Now (cond b (rooms T cite frame q.members cs (entries_of cs)) None)) (sym h)
              (skip a (rooms T cite frame q.members cs (entries_of cs)) more)
          go a (Some g) e more = by (can g) refl where
            by : (b : Bool) → can g ≡ b
                → Now (rooms T cite frame q.members (c ∷ cs) (cond b Kept (Ends (Cites 0)) ∷ entries_of cs))
            by true h = add a (kept_room c g e h) (frame.cap c) refl (rooms T cite frame q.members cs (entries_of cs))
                more
            by false h =
                let r : is_cited T cite 0 (form T (list_at frame (In c) [])) ≡ true =
                ap (is_cited T cite 0) e ∙ ap not h in
                subst (λ b. Now (cond b (rooms T cite frame q.members cs (entries_of cs)) None)) (sym r)
                (skip a (rooms T cite frame q.members cs (entries_of cs)) more)

    -- the rooms of fillers that pass suffice
    pub rooms_met : Fits T frame A q → need frame q ≤ rooms_of can (fillers T frame q)
    rooms_met f = go (nat_eq (need frame q) 0) refl where
      enough : (r : Option ℕ) → rooms T cite frame q.members frame.cells (entries_of frame.cells) ≡ r
          → need frame q ≤ rooms_of can (flat_map (filler_at T frame q) frame.cells)
      enough None e = (kept_rooms frame.cells).1 e
      enough (Some n) e =
          let a = rooms_suffice T frame A k cite once safe q f (entries_of frame.cells) n e in
          let b = (kept_rooms frame.cells).0 n e in
          omega (arith, a, b)

      go : (b : Bool) → nat_eq (need frame q) 0 ≡ b
          → need frame q ≤ rooms_of can (cond b [] (flat_map (filler_at T frame q) frame.cells))
      go true e = let h = eqb-true (need frame q) 0 e in omega (arith, h)
      go false e = enough (rooms T cite frame q.members frame.cells (entries_of frame.cells)) refl

  -- each placed goal passes
  pub placed_passes : (q : Plan) → Fits T frame A q → (s : Place × List Signed) → IsIn s (placed frame q)
      → passes can (goal_of T frame s) ≡ true
  placed_passes q f s i =
      let (j, l, e, m) = placed_met T frame A k q f s i in told j (list_at frame s.0 s.1) l m

  pub fits_some : (q : Plan) × IsIn q (complete (plan_steps T frame)) × Fits T frame A q
  unfolding plan_steps
  fits_some = complete_fits T frame A k frame.demands (empty_plan frame) (λ d i. i) empty_fits
