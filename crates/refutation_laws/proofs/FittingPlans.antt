-- The lines of plans are in the grammar, where the tree of plans passes no limit.
use Rattle.std.proofs.Common.{◌≡◌, ℕ, zero, suc, ◌+◌, ◌-◌, ◌<◌, ◌≤◌, inl, inr, ⊎_elim, Bool, true, false, ◌&&◌, cond, nat_lt, List, [], ◌∷◌, ◌++◌, map, filter, flat_map, length, take, Option, Some, None, refl, ap, sym, ◌∙◌, subst, arith, length-append}
use Rattle.std.proofs.Math.ListN.{length-replicate, length-take}
use Rattle.std.proofs.lemmas.Bool.{ltb-true, ltb-false}
use Rattle.std.proofs.lemmas.List.{length-map}
use Rattle.std.specs.Option.{is_none}
use Rattle.std.specs.List.{range_with_len}
use Rattle.positions.specs.Position.{Position}
use Rattle.goals.specs.Signed.{Signed}
use Rattle.frames.specs.Frame.{Place, In, Frame, is_at_end}
use Rattle.frames.specs.Plan.{Plan, Member, plan, member, empty_plan, serve_head, serve_member, servers, options, has_room, heads_from, size, placed, goal_of, clash_from, first_clash, PlanStep, Split, steps, ends, plan_steps}
use Rattle.frame_laws.proofs.FewMembers.{ends_append, unless_same, some_end}
use Rattle.list_laws.specs.In.{IsIn}
use Rattle.list_laws.proofs.Lists.{from_append, from_map, from_flat_map}
use Rattle.certificate_lines.specs.Line as L
use Rattle.certificate_lines.specs.Line.{Line, Ending}
use Rattle.verdicts.specs.Duties.{Form, OfArrays, OfObjects, heads_placed}
use Rattle.refutations.specs.PlanTreeLines.{at_line, number_of, entry_at, cited_or, first_cited, complete_line, unless_clash, unless_over, lines_from, plan_lines}
use Rattle.refutation_laws.proofs.Texts.{Fits, short_fits, member_fits, index_fits, tail_fits}
use Rattle.std.proofs.lemmas.List.FromFn.{length-range_with_len}
use Rattle.frame_laws.proofs.Lengths.{length-serve_head, length-serve_member, length-heads_from, none_used}

-- lengths

placed_length : (frame : Frame) (p : Plan)
    → length (placed frame p) ≡ heads_placed frame p + length p.members
placed_length frame p =
    let a = length-append (take (size frame p) (heads_from 0 p.heads))
    (map (λ (m : Member). (In m.cell, m.served)) p.members) in
    let b = length-take (size frame p) (heads_from 0 p.heads) in
    let c = length-heads_from 0 p.heads in
    let d = length-map {B = Place × List Signed} p.members (λ m. (In m.cell, m.served)) in
    omega (arith, a, b, c, d)

-- what an option has
record IsOption (p q : Plan) : Type 0 where
  heads : length q.heads ≡ length p.heads
  members : length q.members ≤ suc (length p.members)

option_is : (frame : Frame) (d : Signed) (p q : Plan) → IsIn q (options frame d p) → IsOption p q
option_is frame d p q i = ⊎_elim
    (λ a. ⊎_elim
    (λ h. let (n, j, e) =
    from_map (λ n. plan (serve_head d p.heads n) p.members) q (range_with_len 0 (length p.heads)) h in
    subst (IsOption p) (sym e) (record { heads = length-serve_head d p.heads n; members = omega arith }))
    (λ m. let (n, j, e) =
    from_map (λ n. plan p.heads (serve_member d p.members n)) q (servers frame d 0 p.members) m in
    subst (IsOption p) (sym e) (record {
      heads = refl;
      members = let l = length-serve_member d p.members n in omega (arith, l);
    }))
    (from_append q (map (λ n. plan (serve_head d p.heads n) p.members) (range_with_len 0 (length p.heads)))
    (map (λ n. plan p.heads (serve_member d p.members n)) (servers frame d 0 p.members)) a))
    (λ a. let (c, j, e) =
    from_map (λ c. plan p.heads (p.members ++ member c (d ∷ []) ∷ [])) q
    (filter (λ c. frame.inside d c && has_room frame p.members c) frame.cells) a in
    subst (IsOption p) (sym e) (record {
      heads = refl;
      members = let l = length-append p.members (member c (d ∷ []) ∷ []) in omega (arith, l);
    }))
    (from_append q
    (map (λ n. plan (serve_head d p.heads n) p.members) (range_with_len 0 (length p.heads))
    ++ map (λ n. plan p.heads (serve_member d p.members n)) (servers frame d 0 p.members))
    (map (λ c. plan p.heads (p.members ++ member c (d ∷ []) ∷ []))
    (filter (λ c. frame.inside d c && has_room frame p.members c) frame.cells)) i)

-- each option has an end, and there is one at each first place
head_options : (frame : Frame) (d : Signed) (p : Plan) → length p.heads ≤ length (options frame d p)
head_options frame d p =
    let A = map (λ n. plan (serve_head d p.heads n) p.members) (range_with_len 0 (length p.heads)) in
    let B = map (λ n. plan p.heads (serve_member d p.members n)) (servers frame d 0 p.members) in
    let C = map (λ c. plan p.heads (p.members ++ member c (d ∷ []) ∷ []))
    (filter (λ c. frame.inside d c && has_room frame p.members c) frame.cells) in
    let a = length-map (range_with_len 0 (length p.heads)) (λ n. plan (serve_head d p.heads n) p.members) in
    let b = length-range_with_len 0 (length p.heads) in
    let c = length-append (A ++ B) C in
    let e = length-append A B in
    omega (arith, a, b, c, e)

module _ (T : List Position) (frame : Frame) where
  many_ends : (left : List Signed) (qs : List Plan) → length qs ≤ ends (flat_map (steps T frame left) qs)
  many_ends left [] = omega arith
  many_ends left (q ∷ qs) =
      let a = ends_append (steps T frame left q) (flat_map (steps T frame left) qs) in
      let b = some_end T frame left q in
      let c = many_ends left qs in
      omega (arith, a, b, c)

  split_ends : (d : Signed) (left : List Signed) (p : Plan) → is_at_end (size frame p) frame.below ≡ false
      → first_clash T frame p ≡ None
      → length p.heads ≤ ends (steps T frame (d ∷ left) p)
  split_ends d left p u c =
      let e : ends (steps T frame (d ∷ left) p)
      ≡ ends (Split (length (options frame d p)) ∷ flat_map (steps T frame left) (options frame d p)) =
      ap ends (unless_same T frame p
      (Split (length (options frame d p)) ∷ flat_map (steps T frame left) (options frame d p)) u c) in
      let a = more (length (options frame d p)) (flat_map (steps T frame left) (options frame d p)) in
      let b = many_ends left (options frame d p) in
      let h = head_options frame d p in
      omega (arith, e, a, b, h)
    where
      more : (n : ℕ) (ss : List PlanStep) → ends ss ≤ ends (Split n ∷ ss)
      more zero ss = omega arith
      more (suc n) ss = omega arith

-- the numbers of what is placed are small
abbrev pub IsLow : Form → Frame → Plan → Type 0
IsLow OfArrays frame p = (heads_placed frame p ≤ 4294967296) × (length p.members ≤ 4294967296)
IsLow OfObjects frame p = heads_placed frame p + length p.members ≤ 4294967296

module _ (rename : ℕ → ℕ) (low : (k : ℕ) → rename k < 100000) where
  -- each of the lines, renumbered, is in the grammar
  abbrev pub AllFit : List Line → Type 0
  AllFit ls = (l : Line) → IsIn l ls → Fits rename low l

  pub fit_none : AllFit []
  fit_none l i = absurd i

  pub fit_more : (l : Line) (ls : List Line) → Fits rename low l → AllFit ls → AllFit (l ∷ ls)
  fit_more l ls h more k (inl q) = subst (λ z. Fits rename low z) (sym q) h
  fit_more l ls h more k (inr i) = more k i

  pub fit_both : (xs ys : List Line) → AllFit xs → AllFit ys → AllFit (xs ++ ys)
  fit_both xs ys a b l i = ⊎_elim (λ x. a l x) (λ y. b l y) (from_append l xs ys i)

  pub fit_each : {A : Type 0} (f : A → List Line) (xs : List A) → ((x : A) → IsIn x xs → AllFit (f x))
      → AllFit (flat_map f xs)
  fit_each f xs h l i = let (x, a, b) = from_flat_map f l xs i in h x a l b

  pub fit_map : {A : Type 0} (f : A → Line) (xs : List A) → ((x : A) → IsIn x xs → Fits rename low (f x))
      → AllFit (map f xs)
  fit_map f xs h l i =
      let (x, a, e) = from_map f l xs i in subst (λ z. Fits rename low z) (sym e) (h x a)

  at_fits : (form : Form) (frame : Frame) (p : Plan) (k : ℕ) (e : Ending) → IsLow form frame p
      → k < heads_placed frame p + length p.members → Fits rename low (at_line form frame p k e)
  at_fits OfObjects frame p k e h l = member_fits rename low k e (omega (arith, h, l))
  at_fits OfArrays frame p k e h l = go (nat_lt k (heads_placed frame p)) refl where
    go : (b : Bool) → nat_lt k (heads_placed frame p) ≡ b
        → Fits rename low (cond b (L.OfIndex k e) (L.OfTail (k - heads_placed frame p) e))
    go true q =
        let m = ltb-true k (heads_placed frame p) q in
        index_fits rename low k e (let a = h.0 in omega (arith, m, a))
    go false q =
        let m = ltb-false k (heads_placed frame p) q in
        tail_fits rename low (k - heads_placed frame p) e (let a = h.1 in omega (arith, m, a, l))

  module _ (number : List Signed → Option ℕ) (form : Form) (T : List Position) (frame : Frame)
      (cells : length frame.cells ≤ 65536) where
    clash_below : (n k : ℕ) (ss : List (Place × List Signed)) → clash_from T frame n ss ≡ Some k → k < n + length ss
    clash_below n k [] e = cc e
    clash_below n k (s ∷ ss) e = go (is_none (goal_of T frame s)) e (clash_below (suc n) k ss) where
      go : (b : Bool) → cond b (Some n) (clash_from T frame (suc n) ss) ≡ Some k
          → (clash_from T frame (suc n) ss ≡ Some k → k < suc n + length ss) → k < n + suc (length ss)
      go true e more = let q : n ≡ k = cc e in omega (arith, q)
      go false e more = let l = more e in omega (arith, l)

    first_fits : (p : Plan) (k : ℕ) (ss : List (Place × List Signed)) (l : Line) → IsLow form frame p
        → k + length ss ≤ heads_placed frame p + length p.members → Fits rename low l
        → Fits rename low (first_cited number form T frame p k ss l)
    first_fits p k [] l h m f = f
    first_fits p k (s ∷ ss) l h m f =
        go (number_of number (goal_of T frame s)) (first_fits p (suc k) ss l h (omega (arith, m)) f) where
          go : (o : Option ℕ) → Fits rename low (first_cited number form T frame p (suc k) ss l)
              → Fits rename low (cited_or number form T frame p k o (first_cited number form T frame p (suc k) ss l))
          go None more = more
          go (Some n) more = at_fits form frame p k (L.Cites n) h (omega (arith, m))

    complete_fits : (p : Plan) → IsLow form frame p → Fits rename low (complete_line number form T frame p)
    complete_fits p h =
        first_fits p 0 (placed frame p) (L.Short (map (entry_at number T frame p) frame.cells)) h
        (let a = placed_length frame p in omega (arith, a))
        (short_fits rename low (map (entry_at number T frame p) frame.cells)
        (let a = length-map frame.cells (entry_at number T frame p) in omega (arith, a, cells)))

    over_fits : (p : Plan) (ls : List Line) → IsLow form frame p
        → (is_at_end (size frame p) frame.below ≡ false → first_clash T frame p ≡ None → AllFit ls)
        → AllFit (unless_over number form T frame p ls)
    over_fits p ls h more =
        go (is_at_end (size frame p) frame.below) refl (first_clash T frame p) refl where
          go : (b : Bool) → is_at_end (size frame p) frame.below ≡ b → (o : Option ℕ) → first_clash T frame p ≡ o
              → AllFit (cond b (L.Count ∷ []) (unless_clash number form T frame p o ls))
          go true u o c = fit_more L.Count [] (refl, refl) fit_none
          go false u None c = more u c
          go false u (Some k) c =
              fit_more (at_line form frame p k L.Clashes) []
              (at_fits form frame p k L.Clashes h
              (let a = clash_below 0 k (placed frame p) c in
              let b = placed_length frame p in
              omega (arith, a, b))) fit_none

    module _ (lowered : frame.heads ≤ 65536 → (q : Plan) → length q.heads ≡ frame.heads
        → length q.members ≤ length frame.demands → IsLow form frame q) where
      from_fits : frame.heads ≤ 65536 → (left : List Signed) (p : Plan) → length p.heads ≡ frame.heads
          → length p.members + length left ≤ length frame.demands → AllFit (lines_from number form T frame left p)
      from_fits few [] p h m =
          let k = lowered few p h (omega (arith, m)) in
          over_fits p (complete_line number form T frame p ∷ []) k
          (λ u c. fit_more (complete_line number form T frame p) [] (complete_fits p k) fit_none)
      from_fits few (d ∷ left) p h m =
          over_fits p (L.Split ∷ flat_map (lines_from number form T frame left) (options frame d p))
          (lowered few p h (omega (arith, m)))
          (λ u c. fit_more L.Split (flat_map (lines_from number form T frame left) (options frame d p)) (refl, refl)
          (fit_each (lines_from number form T frame left) (options frame d p) (λ q i.
          let o = option_is frame d p q i in
          from_fits few left q (o.heads ∙ h) (let a = o.members in omega (arith, m, a)))))

      pub plans_fit : IsLow form frame (empty_plan frame) → ends (plan_steps T frame) ≤ 65536
          → AllFit (plan_lines number form T frame)
      unfolding plan_steps plan_lines
      plans_fit h e = go frame.demands refl where
        empty : length (empty_plan frame).heads ≡ frame.heads
        empty = length-replicate {A = List Signed} frame.heads []

        go : (ds : List Signed) → frame.demands ≡ ds → AllFit (lines_from number form T frame ds (empty_plan frame))
        go [] q =
            over_fits (empty_plan frame) (complete_line number form T frame (empty_plan frame) ∷ []) h
            (λ u c. fit_more (complete_line number form T frame (empty_plan frame)) []
            (complete_fits (empty_plan frame) h) fit_none)
        go (d ∷ left) q =
            over_fits (empty_plan frame)
            (L.Split ∷ flat_map (lines_from number form T frame left) (options frame d (empty_plan frame))) h
            (λ u c.
            let s = split_ends T frame d left (empty_plan frame) u c in
            let same : ends (steps T frame frame.demands (empty_plan frame))
            ≡ ends (steps T frame (d ∷ left) (empty_plan frame)) =
            ap (λ ds. ends (steps T frame ds (empty_plan frame))) q in
            let n = empty in
            let k : length frame.demands ≡ suc (length left) = ap length q in
            fit_more L.Split (flat_map (lines_from number form T frame left) (options frame d (empty_plan frame)))
            (refl, refl)
            (fit_each (lines_from number form T frame left) (options frame d (empty_plan frame)) (λ r i.
            let o = option_is frame d (empty_plan frame) r i in
            from_fits (omega (arith, s, same, n, e)) left r (o.heads ∙ empty)
            (let a = o.members in omega (arith, k, a)))))

-- the empty plan counts for as many as its frame's floor
pub empty_size : (frame : Frame) → size frame (empty_plan frame) ≤ frame.floor
empty_size frame = let u = none_used frame.heads in omega (arith, u)
