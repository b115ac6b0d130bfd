-- A complete plan whose alternative isn't met is shown dead by its line.
use Rattle.std.proofs.Common.{◌≡◌, ℕ, zero, suc, ◌+◌, ◌-◌, ◌<◌, ◌≤◌, Bool, true, false, ◌&&◌, cond, List, [], ◌∷◌, ◌++◌, map, flat_map, nat_eq, nat_le, nat_lt, Option, Some, None, Ok, slice_get, refl, ap, sym, ◌∙◌, arith, zero-add}
use Rattle.std.proofs.lemmas.Bool.{and_from, leb-false, lt-ltb, ltb-false, eqb-true}
use Rattle.std.specs.Option.{is_none}
use Rattle.documents.specs.Tests.{every}
use Rattle.positions.specs.Position.{Position}
use Rattle.goals.specs.Signed.{Signed}
use Rattle.frames.specs.Frame.{Place, In, Frame, list_at}
use Rattle.frames.specs.Plan.{Plan, count_in, placed, goal_of, clash_from, first_clash, need}
use Rattle.frames.specs.PlanLines as P
use Rattle.frames.specs.PlanLines.{PlanLine, is_refuted, is_cited, rooms, plus, room_of, is_short, is_refuted_at, where_true}
use Rattle.frames.specs.Fillers.{Filler, with_room, filler_at, fillers, rooms_of, passes, goals, is_met_by}
use Rattle.certificate_lines.specs.Line as L
use Rattle.certificate_lines.specs.Line.{Line}
use Rattle.verdicts.specs.Rules.{not_refuted}
use Rattle.verdicts.specs.RowLines.{if_so}
use Rattle.verdicts.specs.Duties.{Form, OfArrays, OfObjects, ending, entry, heads_placed, plan_line}
use Rattle.refutations.specs.PlanTreeLines.{at_line, number_of, kept_unless, filler_entry, entry_at, cited_or, first_cited, complete_line}
use Rattle.list_laws.proofs.Numbers.{suc_add-add_suc}

-- the line of a place is the plan's line of that place
pub at_is : (form : Form) (frame : Frame) (p : Plan) (k : ℕ) (e : L.Ending)
    → plan_line form frame p (at_line form frame p k e) ≡ Ok (P.At k (ending e))
at_is OfObjects frame p k e = refl
at_is OfArrays frame p k e = go (nat_lt k (heads_placed frame p)) refl where
  go : (b : Bool) → nat_lt k (heads_placed frame p) ≡ b
      → plan_line OfArrays frame p (cond b (L.OfIndex k e) (L.OfTail (k - heads_placed frame p) e))
      ≡ Ok (P.At k (ending e))
  go true h = ap (λ b. if_so not_refuted b (P.At k (ending e))) h
  go false h =
      let l = ltb-false k (heads_placed frame p) h in
      let s : heads_placed frame p + (k - heads_placed frame p) ≡ k = omega (arith, l) in
      ap (λ n. Ok (P.At n (ending e))) s

module _ (form : Form) (T : List Position) (frame : Frame) (cite : ℕ → List Signed → Bool) where
  -- the line shows that nothing is arranged by the plan, which has no demands left
  pub record Shows (p : Plan) (left : List Signed) (l : Line) : Type 0 where
    pub line : PlanLine
    pub is_line : plan_line form frame p l ≡ Ok line
    pub ends : P.after T cite frame p left line ≡ Ok []

  -- what a placed list is refuted by shows the plan dead
  pub at_shows : (p : Plan) (left : List Signed) (k : ℕ) (e : L.Ending)
      → is_refuted_at T cite frame (slice_get (placed frame p) k) (ending e) ≡ true
      → Shows p left (at_line form frame p k e)
  at_shows p left k e h = record {
    line = P.At k (ending e);
    is_line = at_is form frame p k e;
    ends = go left (ap (λ b. where_true b 23) h);
  } where
    go : (left : List Signed)
        → where_true (is_refuted_at T cite frame (slice_get (placed frame p) k) (ending e)) 23 ≡ Ok []
        → P.after T cite frame p left (P.At k (ending e)) ≡ Ok []
    go [] h = h
    go (d ∷ left) h = h

-- goals without number are met
abbrev pub can : (List Signed → Option ℕ) → List Signed → Bool
can number g = is_none (number g)

module _ (form : Form) (T : List Position) (frame : Frame) (cite : ℕ → List Signed → Bool)
    (number : List Signed → Option ℕ)
    -- a number may be cited for its goal
    (cited : (g : List Signed) (k : ℕ) → number g ≡ Some k → cite k g ≡ true) where
  abbrev met : List Signed → Bool
  met = can number

  module _ (q : Plan)
      (leaves : (c b : ℕ) → frame.cap c ≡ Some b → b - count_in c q.members ≤ frame.room c (count_in c q.members))
      (endless : (c : ℕ) → frame.cap c ≡ None → need frame q ≤ frame.room c (count_in c q.members)) where
    abbrev entries_of : List ℕ → List P.Entry
    entries_of cs = map entry (map (entry_at number T frame q) cs)

    rooms_append : (fs gs : List Filler) → rooms_of met (fs ++ gs) ≡ rooms_of met fs + rooms_of met gs
    rooms_append [] gs = omega arith
    rooms_append (f ∷ fs) gs = go (met f.goal) (rooms_append fs gs) where
      go : (b : Bool) → rooms_of met (fs ++ gs) ≡ rooms_of met fs + rooms_of met gs
          → cond b (f.room + rooms_of met (fs ++ gs)) (rooms_of met (fs ++ gs))
          ≡ cond b (f.room + rooms_of met fs) (rooms_of met fs) + rooms_of met gs
      go true h = omega (arith, h)
      go false h = h

    abbrev Room : ℕ → ℕ
    Room c = frame.room c (count_in c q.members)

    kept_room : (c : ℕ) (g : List Signed) → goal_of T frame (In c, []) ≡ Some g → number g ≡ None
        → Room c ≤ rooms_of met (filler_at T frame q c)
    kept_room c g e h = rw e (go (Room c)) where
      go : (n : ℕ) → n ≤ rooms_of met (with_room c (count_in c q.members) (Some g) n)
      go zero = omega arith
      go (suc n) = rw h (omega arith)

    -- where the rooms of fillers that are met fall short, the kept ones have a number, which is no more
    short_rooms : (cs : List ℕ) → rooms_of met (flat_map (filler_at T frame q) cs) < need frame q
        → (n : ℕ) × (rooms T cite frame q.members cs (entries_of cs) ≡ Some n)
        × (n ≤ rooms_of met (flat_map (filler_at T frame q) cs))
    short_rooms [] l = (0, refl, omega arith)
    short_rooms (c ∷ cs) l =
        let a = rooms_append (filler_at T frame q c) (flat_map (filler_at T frame q) cs) in
        by_room (nat_eq (Room c) 0) refl a (short_rooms cs (omega (arith, l, a))) where
          More : Type 0
          More = (n : ℕ) × (rooms T cite frame q.members cs (entries_of cs) ≡ Some n)
              × (n ≤ rooms_of met (flat_map (filler_at T frame q) cs))

          Now : Option ℕ → Type 0
          Now r = (n : ℕ) × (r ≡ Some n)
              × (n ≤ rooms_of met (filler_at T frame q c ++ flat_map (filler_at T frame q) cs))

          Sums : Type 0
          Sums = rooms_of met (filler_at T frame q c ++ flat_map (filler_at T frame q) cs)
              ≡ rooms_of met (filler_at T frame q c) + rooms_of met (flat_map (filler_at T frame q) cs)

          skip : Sums → More → (e : P.Ending) → is_refuted T cite (list_at frame (In c) []) e ≡ true
              → Now (rooms T cite frame q.members (c ∷ cs) (P.Ends e ∷ entries_of cs))
          skip a (n, p, h) e r = (
            n,
            ap (λ b. cond b (rooms T cite frame q.members cs (entries_of cs)) None) r ∙ p,
            omega (arith, a, h),
          )

          add : Sums → More → Room c ≤ rooms_of met (filler_at T frame q c) → (o : Option ℕ) → frame.cap c ≡ o
              → Now (plus (room_of (count_in c q.members) o) (rooms T cite frame q.members cs (entries_of cs)))
          add a more kept None e = let h = endless c e in absurd (omega (arith, l, a, kept, h))
          add a (n, p, h) kept (Some b) e =
              let s = leaves c b e in (
                (b - count_in c q.members) + n,
                ap (λ r. plus (Some (b - count_in c q.members)) r) p,
                omega (arith, a, h, kept, s),
              )

          by_goal : (o : Option (List Signed)) → goal_of T frame (In c, []) ≡ o → Sums → More
              → Now (rooms T cite frame q.members (c ∷ cs) (entry (filler_entry number o) ∷ entries_of cs))
          by_goal None e a more = skip a more P.Clashes (ap is_none e)
          by_goal (Some g) e a more = by (number g) refl where
            by : (o : Option ℕ) → number g ≡ o
                → Now (rooms T cite frame q.members (c ∷ cs) (entry (kept_unless number o) ∷ entries_of cs))
            by (Some k) h = skip a more (P.Cites k) (ap (is_cited T cite k) e ∙ cited g k h)
            by None h = add a more (kept_room c g e h) (frame.cap c) refl

          by_room : (b : Bool) → nat_eq (Room c) 0 ≡ b → Sums → More
              → Now (rooms T cite frame q.members (c ∷ cs)
              (entry (cond b L.Kept (filler_entry number (goal_of T frame (In c, [])))) ∷ entries_of cs))
          by_room true e a more =
              let z = eqb-true (Room c) 0 e in
              add a more (omega (arith, z)) (frame.cap c) refl
          by_room false e a more = by_goal (goal_of T frame (In c, [])) refl a more

    short_shows : rooms_of met (fillers T frame q) < need frame q
        → Shows form T frame cite q [] (L.Short (map (entry_at number T frame q) frame.cells))
    short_shows l = record {
      line = P.Short (entries_of frame.cells);
      is_line = refl;
      ends = go (nat_eq (need frame q) 0) refl l;
    } where
      go : (b : Bool) → nat_eq (need frame q) 0 ≡ b
          → rooms_of met (cond b [] (flat_map (filler_at T frame q) frame.cells)) < need frame q
          → where_true (is_short (need frame q) (rooms T cite frame q.members frame.cells (entries_of frame.cells))) 24
          ≡ Ok []
      go true e l = let z = eqb-true (need frame q) 0 e in absurd (omega (arith, l, z))
      go false e l =
          let (n, p, h) = short_rooms frame.cells l in
          ap (λ r. where_true (is_short (need frame q) r) 24) p
          ∙ ap (λ b. where_true b 24) (lt-ltb n (need frame q) (omega (arith, h, l)))

    -- of what is placed, the first with a number, or all are met
    by_placed : (i : ℕ) (ss : List (Place × List Signed)) (last : Line)
        → ((j : ℕ) → slice_get (placed frame q) (i + j) ≡ slice_get ss j) → clash_from T frame i ss ≡ None
        → (every (passes met) (map (goal_of T frame) ss) ≡ true → Shows form T frame cite q [] last)
        → Shows form T frame cite q [] (first_cited number form T frame q i ss last)
    by_placed i [] last at clear more = more refl
    by_placed i (s ∷ ss) last at clear more =
        go (goal_of T frame s) refl clear more
        (λ c m. by_placed (suc i) ss last
        (λ j. ap (slice_get (placed frame q)) (suc_add-add_suc i j) ∙ at (suc j)) c m) where
          here : (g : List Signed) (k : ℕ) → goal_of T frame s ≡ Some g → number g ≡ Some k
              → Shows form T frame cite q [] (at_line form frame q i (L.Cites k))
          here g k f h =
              let z : i + 0 ≡ i = omega arith in
              let p : slice_get (placed frame q) i ≡ Some s = ap (slice_get (placed frame q)) (sym z) ∙ at 0 in
              at_shows form T frame cite q [] i (L.Cites k)
              (ap (λ o. is_refuted_at T cite frame o (P.Cites k)) p ∙ ap (is_cited T cite k) f ∙ cited g k h)

          go : (o : Option (List Signed)) → goal_of T frame s ≡ o
              → cond (is_none o) (Some i) (clash_from T frame (suc i) ss) ≡ None
              → ((passes met o && every (passes met) (map (goal_of T frame) ss)) ≡ true
              → Shows form T frame cite q [] last)
              → (clash_from T frame (suc i) ss ≡ None
              → (every (passes met) (map (goal_of T frame) ss) ≡ true → Shows form T frame cite q [] last)
              → Shows form T frame cite q [] (first_cited number form T frame q (suc i) ss last))
              → Shows form T frame cite q [] (cited_or number form T frame q i (number_of number o)
              (first_cited number form T frame q (suc i) ss last))
          go None f c more rest = cc c
          go (Some g) f c more rest = by (number g) refl where
            by : (n : Option ℕ) → number g ≡ n
                → Shows form T frame cite q []
                (cited_or number form T frame q i n (first_cited number form T frame q (suc i) ss last))
            by (Some k) h = here g k f h
            by None h =
                rest c (λ a. more (and_from (met g) (every (passes met) (map (goal_of T frame) ss)) (ap is_none h) a))

    pub complete_shows : first_clash T frame q ≡ None → is_met_by (can number) T frame q ≡ false
        → Shows form T frame cite q [] (complete_line number form T frame q)
    complete_shows clear unmet =
        by_placed 0 (placed frame q) (L.Short (map (entry_at number T frame q) frame.cells))
        (λ j. ap (slice_get (placed frame q)) (zero-add j)) clear
        (λ all. short_shows (less (every (passes met) (goals T frame q))
        (nat_le (need frame q) (rooms_of met (fillers T frame q))) refl all unmet)) where
          less : (a b : Bool) → nat_le (need frame q) (rooms_of met (fillers T frame q)) ≡ b → a ≡ true
              → (a && b) ≡ false
              → rooms_of met (fillers T frame q) < need frame q
          less true false e f g = leb-false (need frame q) (rooms_of met (fillers T frame q)) e
          less true true e f g = cc g
          less false b e f g = cc f
