-- Members and fillers by the cells and the goals of what is placed.
use Rattle.std.proofs.Common.{◌≡◌, ℕ, zero, suc, ◌+◌, ◌≤◌, min, List, [], ◌∷◌, ◌++◌, map, flat_map, reverse, take, length, true, cond, nat_eq, Some, refl, arith, ap, ap₂, sym, ◌∙◌, append-nil, append_assoc}
use Rattle.std.specs.List.{range_with_len}
use Rattle.std.proofs.lemmas.List.{map-append, length-map, length-append, length-set, length-take-le, reverse-append}
use Rattle.std.proofs.lemmas.List.FromFn.{length-range_with_len}
use Rattle.std.proofs.lemmas.Bool.{and_parts, ltb-true}
use Rattle.positions.specs.Position.{Position}
use Rattle.goals.specs.Signed.{Signed}
use Rattle.documents.specs.Kind.{Kind}
use Rattle.frames.specs.Frame as F
use Rattle.frames.specs.Frame.{Frame, Head, In}
use Rattle.frames.specs.Plan.{Plan, Member, size, placed, goal_of, heads_from, need, count_in}
use Rattle.frames.specs.Fillers.{times, filler_at, fillers, with_room}
use Rattle.alternatives.specs.Alternative as A
use Rattle.expansions.specs.Leaves as N
use Rattle.expansions.specs.Leaves.{by_index, by_name, cell_of, members_of, placed_as, filling_of, plan_alternative}
use Rattle.frame_laws.proofs.Occurrences.{times_append}
use Rattle.js_plans.specs.declared.naming.Naming.{Naming}
use Rattle.js_plans.specs.declared.naming.Naming.TheVariants as V
use Rattle.js_plans.specs.declared.server.Server.{Server}
use Rattle.js_plans.specs.declared.server.Server.TheVariants as W
use Rattle.js_plans.specs.declared.path.Served.{Served}
use Rattle.js_plans.specs.Serving.{plan_after}
use Rattle.js_plans.specs.Servers.{with_cell, cells_of, members_after, used_after, most_used, is_valid, are_valid, servers_of}
use Rattle.js_plans.specs.Goals.{AreFirst}
use Rattle.js_plans.specs.Placing.{put_head, put_member, put_heads, put_members}
use Rattle.js_plans.specs.Walks.{placed_heads, IsPath}
use Rattle.js_plans.specs.Named.{naming_view, placed_from, filler_in}
use Rattle.js_plans.proofs.Options.{times-cells}
use Rattle.js_plans.proofs.Remaining.{shown-path}
use Rattle.js_plans.proofs.Plans.{heads-long, cells-all}

pub times-reverse : (c : ℕ) (xs : List ℕ) → times c (reverse xs) ≡ times c xs
times-reverse c [] = refl
times-reverse c (x ∷ xs) =
    let a = ap (times c) (reverse-append (x ∷ []) xs) in
    let b = times_append c (reverse xs) (x ∷ []) in
    let d = times_append c (x ∷ []) xs in
    omega (arith, a, b, d, times-reverse c xs)

pub length-put_heads : (es : List Served) (hs : List (List Signed)) → length (put_heads es hs) ≡ length hs
length-put_heads [] hs = refl
length-put_heads (e ∷ es) hs = length-put_heads es (put_head e.server e.goal hs) ∙ go e.server where
  go : (s : Server) → length (put_head s e.goal hs) ≡ length hs
  go (W.Head k) = length-set hs k e.goal
  go (W.Member k) = refl
  go (W.New c) = refl

pub length-put_members : (es : List Served) (ms : List (List Signed))
    → length (put_members es ms) ≡ length ms + length (cells_of (servers_of es))
length-put_members [] ms = omega arith
length-put_members (e ∷ es) ms =
    length-put_members es (put_member e.server e.goal ms) ∙ go e.server where
      go : (s : Server) → length (put_member s e.goal ms) + length (cells_of (servers_of es))
          ≡ length ms + length (with_cell s (cells_of (servers_of es)))
      go (W.Head k) = refl
      go (W.Member k) = ap (λ n. n + length (cells_of (servers_of es))) (length-set ms k e.goal)
      go (W.New c) = omega (arith, length-append ms (e.goal ∷ []))

pub used-within : (h m n : ℕ) (ws : List Server) → are_valid h m ws ≡ true → n ≤ h → most_used n ws ≤ h
used-within h m n [] v l = l
used-within h m n (w ∷ ws) v l =
    let (a, b) = and_parts (is_valid h m w) (are_valid h (members_after m w) ws) v in
    used-within h (members_after m w) (used_after n w) ws b (go w a) where
      go : (w : Server) → is_valid h m w ≡ true → used_after n w ≤ h
      go (W.Head k) a = omega (arith, l, ltb-true k h a)
      go (W.Member k) a = l
      go (W.New c) a = l

placed_append : (N : N.Naming) (i : ℕ) (before cs ds : List ℕ) (gs hs : List (List Signed)) → length cs ≡ length gs
    → placed_from N i before (cs ++ ds) (gs ++ hs)
    ≡ placed_from N i before cs gs ++ placed_from N (i + length cs) (reverse cs ++ before) ds hs
placed_append N i before [] ds [] hs e =
    let z : i ≡ i + 0 = omega arith in ap (λ n. placed_from N n before ds hs) z
placed_append N i before [] ds (g ∷ gs) hs e = absurd (omega (arith, e))
placed_append N i before (c ∷ cs) ds [] hs e = absurd (omega (arith, e))
placed_append N i before (c ∷ cs) ds (g ∷ gs) hs e =
    let z : suc i + length cs ≡ i + suc (length cs) = omega arith in
    let back : reverse cs ++ c ∷ before ≡ reverse (c ∷ cs) ++ before =
    sym (append_assoc (reverse cs) (c ∷ []) before)
    ∙ ap (λ xs. xs ++ before) (sym (reverse-append (c ∷ []) cs)) in
    ap (λ xs. (let p : A.Placed = record { slot = N.slot i before (In c); goal = g } in p) ∷ xs)
    (placed_append N (suc i) (c ∷ before) cs ds gs hs (omega (arith, e))
    ∙ ap₂ (λ n xs. placed_from N (suc i) (c ∷ before) cs gs ++ placed_from N n xs ds hs) z back)

slot_same : (n : Naming) (i : ℕ) (before : List ℕ) (at : F.Place)
    → (naming_view n).slot i before at ≡ (naming_view n).slot i before (In (cell_of at))
slot_same V.ByIndex i before at = refl
slot_same V.ByName i before at = refl

module _ (T : List Position) (frame : Frame) where
  members_are : (n : Naming) (i : ℕ) (before : List ℕ) (ss : List (F.Place × List Signed)) (gs : List (List Signed))
      → map (goal_of T frame) ss ≡ map Some gs
      → members_of (naming_view n) T frame i before ss
      ≡ placed_from (naming_view n) i before (map (λ s. cell_of s.0) ss) gs
  members_are n i before [] gs e = refl
  members_are n i before (s ∷ ss) [] e = absurd (no_nil e) where
    no_nil : {A : Type 0} {x : A} {xs : List A} → x ∷ xs ≡ [] → ⊥
    no_nil e = cc
  members_are n i before (s ∷ ss) (g ∷ gs) e =
      let (a, b) = parts e in
      ap₂ (λ o xs. placed_as ((naming_view n).slot i before s.0) o ++ xs) a
      (members_are n (suc i) (cell_of s.0 ∷ before) ss gs b)
      ∙ ap (λ at. (let p : A.Placed = record { slot = at; goal = g } in p)
      ∷ placed_from (naming_view n) (suc i) (cell_of s.0 ∷ before) (map (λ s. cell_of s.0) ss) gs)
      (slot_same n i before s.0) where
        parts : {A : Type 0} {x y : A} {xs ys : List A} → x ∷ xs ≡ y ∷ ys → (x ≡ y) × (xs ≡ ys)
        parts e = (cc, cc)

  head-cells : (j n : ℕ) (xs : List (List Signed))
      → map (λ s. cell_of s.0) (take n (heads_from j xs)) ≡ range_with_len j (min n (length xs))
  head-cells j zero xs = let e : 0 ≡ min 0 (length xs) = omega arith in ap (range_with_len j) e
  head-cells j (suc n) [] = let e : 0 ≡ min (suc n) 0 = omega arith in ap (range_with_len j) e
  head-cells j (suc n) (x ∷ xs) =
      let e : suc (min n (length xs)) ≡ min (suc n) (suc (length xs)) = omega arith in
      let up : suc j ≡ j + 1 = omega arith in
      ap (λ cs. j ∷ cs) (head-cells (suc j) n xs ∙ ap (λ k. range_with_len k (min n (length xs))) up)
      ∙ ap (range_with_len j) e

  member-cells : (ms : List Member)
      → map (λ s. cell_of s.0) (map (λ m. (let s : F.Place × List Signed = (In m.cell, m.served) in s)) ms)
      ≡ map (λ m. m.cell) ms
  member-cells [] = refl
  member-cells (m ∷ ms) = ap (λ cs. m.cell ∷ cs) (member-cells ms)

  placed-cells : (q : Plan) → map (λ s. cell_of s.0) (placed frame q)
      ≡ range_with_len 0 (min (size frame q) (length q.heads)) ++ map (λ m. m.cell) q.members
  placed-cells q =
      map-append (λ s. cell_of s.0) (take (size frame q) (heads_from 0 q.heads))
      (map (λ m. (In m.cell, m.served)) q.members)
      ∙ ap₂ (λ xs ys. xs ++ ys) (head-cells 0 (size frame q) q.heads) (member-cells q.members)

  -- the members of the plan of a path
  pub members-plan : (n : Naming) (es : List Served) (gs : List (List Signed)) → IsPath T frame es
      → AreFirst T frame 0 gs → placed_heads frame (servers_of es) ≤ length gs
      → let k = placed_heads frame (servers_of es) in
      members_of (naming_view n) T frame 0 [] (placed frame (plan_after frame (servers_of es)))
      ≡ placed_from (naming_view n) 0 [] (range_with_len 0 k) (put_heads es (take k gs))
      ++ placed_from (naming_view n) k (reverse (range_with_len 0 k)) (cells_of (servers_of es)) (put_members es [])
  members-plan n es gs path first l =
      let ws = servers_of es in
      let q = plan_after frame ws in
      let k = placed_heads frame ws in
      let heads = heads-long frame ws in
      let few : length ws ≤ length frame.demands = omega (arith, path.few, length-map es (λ e. e.server)) in
      let same : length (range_with_len 0 k) ≡ length (put_heads es (take k gs)) =
      omega (arith, length-range_with_len 0 k, length-put_heads es (take k gs), length-take-le k gs l) in
      let z : 0 + length (range_with_len 0 k) ≡ k = omega (arith, length-range_with_len 0 k) in
      members_are n 0 [] (placed frame q) (put_heads es (take k gs) ++ put_members es [])
      (shown-path T frame es gs path first l)
      ∙ ap (λ cs. placed_from (naming_view n) 0 [] cs (put_heads es (take k gs) ++ put_members es []))
      (placed-cells q ∙ ap₂ (λ h cs. range_with_len 0 (min (size frame q) h) ++ cs) heads (cells-all frame ws few))
      ∙ placed_append (naming_view n) 0 [] (range_with_len 0 k) (cells_of ws) (put_heads es (take k gs))
      (put_members es []) same
      ∙ ap₂ (λ i before. placed_from (naming_view n) 0 [] (range_with_len 0 k) (put_heads es (take k gs))
      ++ placed_from (naming_view n) i before (cells_of ws) (put_members es [])) z
      (append-nil (reverse (range_with_len 0 k)))

  pub placed-length : (ws : List Server) → length ws ≤ length frame.demands
      → length (placed frame (plan_after frame ws)) ≡ placed_heads frame ws + length (cells_of ws)
  placed-length ws l =
      let q = plan_after frame ws in
      sym (length-map (placed frame q) (λ s. cell_of s.0))
      ∙ ap length (placed-cells q ∙ ap₂ (λ h cs. range_with_len 0 (min (size frame q) h) ++ cs) (heads-long frame ws)
      (cells-all frame ws l))
      ∙ length-append (range_with_len 0 (placed_heads frame ws)) (cells_of ws)
      ∙ ap (λ n. n + length (cells_of ws)) (length-range_with_len 0 (placed_heads frame ws))

  pub fillers-plan : (ws : List Server) → length ws ≤ length frame.demands
      → fillers T frame (plan_after frame ws)
      ≡ cond (nat_eq (need frame (plan_after frame ws)) 0) [] (flat_map (filler_in T frame (cells_of ws)) frame.cells)
  fillers-plan ws l =
      ap (λ fs. cond (nat_eq (need frame (plan_after frame ws)) 0) [] fs) (each frame.cells) where
        each : (cs : List ℕ)
            → flat_map (filler_at T frame (plan_after frame ws)) cs ≡ flat_map (filler_in T frame (cells_of ws)) cs
        each [] = refl
        each (c ∷ cs) =
            let e : count_in c (plan_after frame ws).members ≡ times c (cells_of ws) =
            sym (times-cells c (plan_after frame ws).members) ∙ ap (times c) (cells-all frame ws l) in
            ap₂ (λ n fs. with_room c n (goal_of T frame (In c, [])) (frame.room c n) ++ fs) e (each cs)

abbrev alternative_of : Kind → ℕ → A.Shape → List A.Placed → ℕ → List A.Filler → A.Alternative
alternative_of t k s ms n fs = record { kind = t; branch = k; shape = s; members = ms; need = n; fillers = fs }

pub alternative-is : (N : N.Naming) (t : Kind) (k : ℕ) (T : List Position) (frame : Frame) (q : Plan) (s : A.Shape)
    (ms : List A.Placed) (n : ℕ) (fs : List A.Filler) → s ≡ N.shape → ms ≡ members_of N T frame 0 [] (placed frame q)
    → n ≡ need frame q → fs ≡ map (filling_of N (length (placed frame q))) (fillers T frame q)
    → alternative_of t k s ms n fs ≡ plan_alternative N t k T frame q
alternative-is N t k T frame q s ms n fs a b c d =
    ap₂ (λ x y. alternative_of t k x y n fs) a b
    ∙ ap₂ (λ x y. alternative_of t k N.shape (members_of N T frame 0 [] (placed frame q)) x y) c d

pub cells-few : (ws : List Server) → length (cells_of ws) ≤ length ws
cells-few [] = omega arith
cells-few (W.Head k ∷ ws) = omega (arith, cells-few ws)
cells-few (W.Member k ∷ ws) = omega (arith, cells-few ws)
cells-few (W.New c ∷ ws) = omega (arith, cells-few ws)
