-- A complete plan has no more members in a cell than its tree has ends: each member past the first of a cell could
-- have served in place of a new one.
use Rattle.std.proofs.Common.{◌≡◌, ℕ, suc, ◌+◌, ◌≤◌, max, inl, inr, ⊎_elim, Bool, true, false, ◌&&◌, cond, List, [], ◌∷◌, ◌++◌, map, filter, flat_map, length, nat_eq, Option, Some, None, refl, ap, sym, ◌∙◌, subst, arith}
use Rattle.std.proofs.lemmas.Bool.{and_parts, eqb-true, cases_eq}
use Rattle.std.specs.List.{range_with_len}
use Rattle.positions.specs.Position.{Position}
use Rattle.goals.specs.Signed.{Signed}
use Rattle.frames.specs.Frame.{Frame, is_at_end}
use Rattle.frames.specs.Plan.{Member, Plan, plan, member, empty_plan, serve_head, serve_member, count_in, has_room, servers, options, size, first_clash, PlanStep, Over, Split, Complete, by_clash, unless_dropped, steps, plan_steps, is_end, ends, complete}
use Rattle.list_laws.specs.In.{IsIn}
use Rattle.list_laws.proofs.Lists.{from_append, from_map, in_map}
use Rattle.list_laws.proofs.Tests.{from_filter}
use Rattle.frame_laws.proofs.CompletePlans.{count_serve, count_push, from_complete_of, unless}

pub ends_append : (xs ys : List PlanStep) → ends (xs ++ ys) ≡ ends xs + ends ys
ends_append [] ys = omega arith
ends_append (x ∷ xs) ys = go (is_end x) (ends_append xs ys) where
  go : (b : Bool) → ends (xs ++ ys) ≡ ends xs + ends ys
      → cond b (suc (ends (xs ++ ys))) (ends (xs ++ ys)) ≡ cond b (suc (ends xs)) (ends xs) + ends ys
  go true h = omega (arith, h)
  go false h = h

ends_flat : (f : Plan → List PlanStep) (ps qs : List Plan)
    → ends (flat_map f (ps ++ qs)) ≡ ends (flat_map f ps) + ends (flat_map f qs)
ends_flat f [] qs = omega arith
ends_flat f (p ∷ ps) qs =
    let a = ends_append (f p) (flat_map f (ps ++ qs)) in
    let b = ends_append (f p) (flat_map f ps) in
    omega (arith, a, b, ends_flat f ps qs)

ends_at : (f : Plan → List PlanStep) (ps : List Plan) (p : Plan) → IsIn p ps → ends (f p) ≤ ends (flat_map f ps)
ends_at f [] p i = absurd i
ends_at f (x ∷ ps) p (inl e) =
    let a = ends_append (f x) (flat_map f ps) in
    let b : ends (f p) ≡ ends (f x) = ap (λ z. ends (f z)) e in omega (arith, a, b)
ends_at f (x ∷ ps) p (inr i) = let a = ends_append (f x) (flat_map f ps) in omega (arith, a, ends_at f ps p i)

module _ (T : List Position) (frame : Frame) where
  pub unless_same : (p : Plan) (ss : List PlanStep) → is_at_end (size frame p) frame.below ≡ false
      → first_clash T frame p ≡ None → unless_dropped T frame p ss ≡ ss
  unless_same p ss e f = ap (λ b. cond b (Over ∷ []) (by_clash (first_clash T frame p) ss)) e
      ∙ ap (λ o. by_clash o ss) f

  abbrev Steps : List Signed → Plan → List PlanStep
  Steps left p = steps T frame left p

  unless_ends : (p : Plan) (ss : List PlanStep) → 1 ≤ ends ss → 1 ≤ ends (unless_dropped T frame p ss)
  unless_ends p ss h = go (is_at_end (size frame p) frame.below) (first_clash T frame p) where
    go : (b : Bool) (o : Option ℕ) → 1 ≤ ends (cond b (Over ∷ []) (by_clash o ss))
    go true o = omega arith
    go false None = h
    go false (Some k) = omega arith

  pub some_end : (left : List Signed) (p : Plan) → 1 ≤ ends (Steps left p)
  some_end [] p = unless_ends p (Complete p ∷ []) (omega arith)
  some_end (d ∷ left) p =
      unless_ends p (Split (length (options frame d p)) ∷ flat_map (Steps left) (options frame d p))
      (go (options frame d p) (λ q. some_end left q)) where
        go : (os : List Plan) → ((q : Plan) → 1 ≤ ends (Steps left q))
            → 1 ≤ ends (Split (length os) ∷ flat_map (Steps left) os)
        go [] h = omega arith
        go (o ∷ os) h = let a = ends_append (Steps left o) (flat_map (Steps left) os) in let b =
            h o in omega (arith, a, b)

  -- a member of a cell that is inside may serve
  some_server : (d : Signed) (c b : ℕ) (ms : List Member) → frame.inside d c ≡ true → 1 ≤ count_in c ms
      → (k : ℕ) × IsIn k (servers frame d b ms)
  some_server d c b [] e l = absurd (omega (arith, l))
  some_server d c b (m ∷ ms) e l = go (nat_eq m.cell c) refl l (some_server d c (suc b) ms e) where
    here : (t : Bool) → frame.inside d m.cell ≡ t → t ≡ true
        → (k : ℕ) × IsIn k
        (cond (frame.inside d m.cell) (b ∷ servers frame d (suc b) ms) (servers frame d (suc b) ms))
    here true h q = (
      b,
      subst (λ z. IsIn b (cond z (b ∷ servers frame d (suc b) ms) (servers frame d (suc b) ms))) (sym h)
          (inl refl),
    )
    here false h q = cc

    there : (k : ℕ) → IsIn k (servers frame d (suc b) ms) → (t : Bool)
        → IsIn k (cond t (b ∷ servers frame d (suc b) ms) (servers frame d (suc b) ms))
    there k i true = inr i
    there k i false = i

    go : (t : Bool) → nat_eq m.cell c ≡ t → 1 ≤ cond t (suc (count_in c ms)) (count_in c ms)
        → (1 ≤ count_in c ms → (k : ℕ) × IsIn k (servers frame d (suc b) ms))
        → (k : ℕ) × IsIn k
        (cond (frame.inside d m.cell) (b ∷ servers frame d (suc b) ms) (servers frame d (suc b) ms))
    go true h l more = here (frame.inside d m.cell) refl (ap (frame.inside d) (eqb-true m.cell c h) ∙ e)
    go false h l more = let (k, i) = more l in (k, there k i (frame.inside d m.cell))

  -- an option has one member more in a cell only where another option is there, or the cell had none
  option_count : (left : List Signed) (d : Signed) (c : ℕ) (p r : Plan) → IsIn r (options frame d p)
      → max 1 (count_in c r.members) + ends (Steps left r) ≤ max 1 (count_in c p.members) + ends
      (flat_map (Steps left) (options frame d p))
  option_count left d c p r i = ⊎_elim
      (λ j. let a = ends_at (Steps left) (options frame d p) r i in
      let same : count_in c r.members ≡ count_in c p.members = ⊎_elim
      (λ h. let (x, y, e) =
      from_map (λ k. plan (serve_head d p.heads k) p.members) r (range_with_len 0 (length p.heads)) h in
      ap (λ z. count_in c z.members) e)
      (λ h. let (x, y, e) =
      from_map (λ k. plan p.heads (serve_member d p.members k)) r (servers frame d 0 p.members) h in
      ap (λ z. count_in c z.members) e ∙ count_serve T frame c d p.members x)
      (from_append r by_head by_member j) in
      omega (arith, a, same))
      (λ j. let (x, y, e) =
      from_map (λ c. plan p.heads (p.members ++ member c (d ∷ []) ∷ [])) r
      (filter (λ c. frame.inside d c && has_room frame p.members c) frame.cells) j in
      let inside = (and_parts (frame.inside d x) (has_room frame p.members x)
      (from_filter (λ c. frame.inside d c && has_room frame p.members c) x frame.cells y).1).0 in
      let count : count_in c r.members ≡ count_in c (p.members ++ member x (d ∷ []) ∷ []) =
      ap (λ z. count_in c z.members) e in
      let more = count_push T frame c p.members (member x (d ∷ [])) in
      let a = ends_flat (Steps left) (by_head ++ by_member) by_new in
      let b = ends_flat (Steps left) by_head by_member in
      let last = ends_at (Steps left) by_new r j in
      elim (cases_eq x c) [
        | inr ne ↦
            let f : nat_eq x c ≡ false = other x ne in
            let less : count_in c (p.members ++ member x (d ∷ []) ∷ []) ≡ count_in c p.members =
            more ∙ ap (λ t. cond t (suc (count_in c p.members)) (count_in c p.members)) f in
            omega (arith, a, last, count, less)
        | inl q ↦
            let one : count_in c (p.members ++ member x (d ∷ []) ∷ []) ≤ suc (count_in c p.members) =
            subst (λ z. z ≤ suc (count_in c p.members)) (sym more) (up (nat_eq x c)) in
            elim (cases_eq (count_in c p.members) 0) [
              | inl z ↦ omega (arith, a, last, count, one, z)
              | inr nz ↦
                  let (k, at) = some_server d c 0 p.members (subst (λ z. frame.inside d z ≡ true) q inside)
                  (omega (arith, nz)) in
                  let first = ends_at (Steps left) by_member (plan p.heads (serve_member d p.members k))
                  (in_map (λ k. plan p.heads (serve_member d p.members k)) k (servers frame d 0 p.members) at) in
                  let some = some_end left (plan p.heads (serve_member d p.members k)) in
                  omega (arith, a, b, last, count, one, first, some)
            ]
      ])
      (from_append r (by_head ++ by_member) by_new i)
    where
      by_head : List Plan
      by_head = map (λ k. plan (serve_head d p.heads k) p.members) (range_with_len 0 (length p.heads))

      by_member : List Plan
      by_member = map (λ k. plan p.heads (serve_member d p.members k)) (servers frame d 0 p.members)

      by_new : List Plan
      by_new = map (λ c. plan p.heads (p.members ++ member c (d ∷ []) ∷ []))
          (filter (λ c. frame.inside d c && has_room frame p.members c) frame.cells)

      other : (x : ℕ) → (x ≡ c → ⊥) → nat_eq x c ≡ false
      other x ne = go (nat_eq x c) refl where
        go : (b : Bool) → nat_eq x c ≡ b → nat_eq x c ≡ false
        go true e = absurd (ne (eqb-true x c e))
        go false e = e

      up : (t : Bool) → cond t (suc (count_in c p.members)) (count_in c p.members) ≤ suc (count_in c p.members)
      up true = omega arith
      up false = omega arith

  few_in : (left : List Signed) (c : ℕ) (p q : Plan) → IsIn q (complete (Steps left p))
      → suc (count_in c q.members) ≤ max 1 (count_in c p.members) + ends (Steps left p)
  few_in [] c p q i =
      let (a, b, j) = unless T frame p q (Complete p ∷ []) i in
      let e : ends (Steps [] p) ≡ 1 = ap ends (unless_same p (Complete p ∷ []) a b) in
      ⊎_elim (λ h. let s : count_in c q.members ≡ count_in c p.members =
      ap (λ z. count_in c z.members) h in omega (arith, e, s)) (λ z. absurd z) j
  few_in (d ∷ left) c p q i =
      let (a, b, j) =
      unless T frame p q (Split (length (options frame d p)) ∷ flat_map (Steps left) (options frame d p)) i in
      let e : ends (Steps (d ∷ left) p)
      ≡ ends (Split (length (options frame d p)) ∷ flat_map (Steps left) (options frame d p)) =
      ap ends (unless_same p (Split (length (options frame d p)) ∷ flat_map (Steps left) (options frame d p)) a b) in
      let (r, x, y) = from_complete_of T frame (Steps left) q (options frame d p) j in
      let h = few_in left c r q y in
      let g = option_count left d c p r x in
      let l = split_ends (options frame d p) (flat_map (Steps left) (options frame d p)) in
      omega (arith, e, h, g, l)
    where
      split_ends : (os : List Plan) (ss : List PlanStep) → ends ss ≤ ends (Split (length os) ∷ ss)
      split_ends [] ss = omega arith
      split_ends (o ∷ os) ss = omega arith

  -- no more than ends
  pub few : (c : ℕ) (q : Plan) → IsIn q (complete (plan_steps T frame))
      → count_in c q.members ≤ ends (plan_steps T frame)
  unfolding plan_steps
  few c q i = let h = few_in frame.demands c (empty_plan frame) q i in omega (arith, h)
