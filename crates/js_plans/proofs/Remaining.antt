-- The plans that are still to be visited: the steps that are left after each step of the walk.
use Rattle.std.proofs.Common.{◌≡◌, ℕ, zero, suc, ◌+◌, ◌<◌, ◌≤◌, inl, inr, List, [], ◌∷◌, ◌++◌, map, flat_map, take, drop, length, reverse, Bool, true, false, cond, Option, Some, None, refl, arith, ap, ap₂, sym, ◌∙◌, subst, append-nil, append_assoc}
use Rattle.std.proofs.lemmas.Bool.{and_parts, cases_lt}
use Rattle.std.proofs.lemmas.List.{map-append, take-append-drop, length-map, length-append, length-take, take-append-le}
use Rattle.std.proofs.Math.Seq.{take-length}
use Rattle.documents.specs.Tests.{every}
use Rattle.positions.specs.Position.{Position}
use Rattle.goals.specs.Signed.{Signed}
use Rattle.frames.specs.Frame.{Frame, is_at_end}
use Rattle.frames.specs.Plan as S
use Rattle.frames.specs.Plan.{Plan, placed, goal_of, PlanStep, Over, Clashing, Split, Complete, size, ends, steps, first_clash, by_clash, unless_dropped, empty_plan}
use Rattle.frame_laws.proofs.FewMembers.{ends_append, unless_same, some_end}
use Rattle.js_plans.specs.declared.server.Server.{Server}
use Rattle.js_plans.specs.declared.path.Served.{Served}
use Rattle.js_plans.specs.declared.walk.Pending.{Pending}
use Rattle.js_plans.specs.declared.walk.PlanStep as C
use Rattle.js_plans.specs.declared.walk.PlanStep.TheVariants as W
use Rattle.js_plans.specs.Serving.{plan_after, steps_after}
use Rattle.js_plans.specs.Servers.{cells_of, is_valid, are_valid, servers_of, IsExtent}
use Rattle.js_plans.specs.Goals.{goal_after, AreFirst, AreGoals}
use Rattle.js_plans.specs.Placing.{put_heads, put_members}
use Rattle.js_plans.specs.Choosing.{choices_after}
use Rattle.js_plans.specs.Walks.{listed, placed_heads, IsClash, IsDropped, GoesOn, Opens, IsPath, Fits, AreFine, steps_left, entry, Matches, is_end, one_more}
use Rattle.js_plans.proofs.Opening.{steps-split, steps-complete}
use Rattle.js_plans.proofs.Options.{choices-valid}
use Rattle.js_plans.proofs.Shown.{no-clash, shown-placed, server-clash}
use Rattle.js_plans.proofs.Extents.{extents-take, extents-push}
use Rattle.js_plans.proofs.Plans.{valid-before, valid-push}
use Rattle.list_laws.proofs.Lists.{reverse-last}

module _ (T : List Position) (frame : Frame) where
  -- servers that come later change nothing of what comes before them
  pub left-more : (ws zs : List Server) (es : List Pending) → AreFine frame ws es
      → steps_left T frame (ws ++ zs) es ≡ steps_left T frame ws es
  left-more ws zs [] f = refl
  left-more ws zs (e ∷ es) f =
      ap (λ us. steps_after T frame (us ++ listed e.server) ++ steps_left T frame us es)
      (take-append-le e.level ws zs f.0)

  pub fine-more : (ws zs : List Server) (es : List Pending) → AreFine frame ws es → AreFine frame (ws ++ zs) es
  fine-more ws zs [] f = tt
  fine-more ws zs (e ∷ es) f = (
    omega (arith, f.0, length-append ws zs),
    subst (λ us. Fits frame us e.server) (sym (take-append-le e.level ws zs f.0)) f.1,
    subst (λ us. AreFine frame us es) (sym (take-append-le e.level ws zs f.0)) f.2,
  )

  left-entries : (ws : List Server) (ss : List Server) (es : List Pending)
      → steps_left T frame ws (map (entry (length ws)) ss ++ es)
      ≡ flat_map (λ s. steps_after T frame (ws ++ s ∷ [])) ss ++ steps_left T frame ws es
  left-entries ws [] es = refl
  left-entries ws (s ∷ ss) es =
      ap (λ us. steps_after T frame (us ++ s ∷ []) ++ steps_left T frame us (map (entry (length ws)) ss ++ es))
      (take-length ws)
      ∙ ap (λ rs. steps_after T frame (ws ++ s ∷ []) ++ rs) (left-entries ws ss es)
      ∙ sym (append_assoc (steps_after T frame (ws ++ s ∷ []))
      (flat_map (λ s. steps_after T frame (ws ++ s ∷ [])) ss) (steps_left T frame ws es))

  fine-entries : (ws : List Server) (ss : List Server) (es : List Pending) → length ws < length frame.demands
      → every (is_valid frame.heads (length (cells_of ws))) ss ≡ true → AreFine frame ws es
      → AreFine frame ws (map (entry (length ws)) ss ++ es)
  fine-entries ws [] es l v f = f
  fine-entries ws (s ∷ ss) es l v f =
      let (a, b) = and_parts (is_valid frame.heads (length (cells_of ws)) s) _ v in
      let rest = fine-entries ws ss es l b f in (
        omega arith,
        subst (λ us. Fits frame us (Some s)) (sym (take-length ws)) (l, a),
        subst (λ us. AreFine frame us (map (entry (length ws)) ss ++ es)) (sym (take-length ws)) rest,
      )

  -- each has an end
  pub left-ends : (ws : List Server) (es : List Pending) → length es ≤ ends (steps_left T frame ws es)
  left-ends ws [] = omega arith
  left-ends ws (e ∷ es) =
      let us = take e.level ws ++ listed e.server in
      omega (
        arith,
        ends_append (steps_after T frame us) (steps_left T frame (take e.level ws) es),
        some_end T frame (drop (length us) frame.demands) (plan_after frame us),
        left-ends (take e.level ws) es,
      )

  -- a plan that is over, or of which something clashes
  abbrev some_steps : List Server → Type 0
  some_steps ws = (ss : List PlanStep) × (steps_after T frame ws ≡ unless_dropped T frame (plan_after frame ws) ss)

  steps-some : (ws : List Server) → length ws ≤ length frame.demands → some_steps ws
  steps-some ws l = elim (cases_lt (length ws) (length frame.demands)) [
    | inl less ↦ (_, steps-split T frame frame.demands ws (empty_plan frame) less)
    | inr same ↦ (_, steps-complete T frame frame.demands ws (empty_plan frame) (omega (arith, l, same)))
  ]

  pub steps-over : (ws : List Server) → length ws ≤ length frame.demands
      → is_at_end (size frame (plan_after frame ws)) frame.below ≡ true → steps_after T frame ws ≡ Over ∷ []
  steps-over ws l e =
      let (ss, q) = steps-some ws l in
      q ∙ ap (λ b. cond b (Over ∷ []) (by_clash (first_clash T frame (plan_after frame ws)) ss)) e

  pub steps-clash : (ws : List Server) (k : ℕ) → length ws ≤ length frame.demands
      → is_at_end (size frame (plan_after frame ws)) frame.below ≡ false
      → first_clash T frame (plan_after frame ws) ≡ Some k → steps_after T frame ws ≡ Clashing k ∷ []
  steps-clash ws k l e h =
      let (ss, q) = steps-some ws l in
      q ∙ ap (λ b. cond b (Over ∷ []) (by_clash (first_clash T frame (plan_after frame ws)) ss)) e
      ∙ ap (λ o. by_clash o ss) h

  -- what is left where the plan of a path isn't dropped
  module _ (es : List Served) (gs : List (List Signed)) (path : IsPath T frame es) (first : AreFirst T frame 0 gs)
      (under : is_at_end (size frame (plan_after frame (servers_of es))) frame.below ≡ false)
      (placed : placed_heads frame (servers_of es) ≤ length gs) where
    abbrev at_path : List Server
    at_path = servers_of es

    clear : first_clash T frame (plan_after frame at_path) ≡ None
    clear = no-clash T frame es gs path.few path.valid path.goals first placed

    few : length at_path ≤ length frame.demands
    few = subst (λ n. n ≤ length frame.demands) (sym (length-map es (λ e. e.server))) path.few

    pub opened-complete : length at_path ≡ length frame.demands
        → steps_after T frame at_path ≡ Complete (plan_after frame at_path) ∷ []
    opened-complete e =
        steps-complete T frame frame.demands at_path (empty_plan frame) e
        ∙ unless_same T frame (plan_after frame at_path) _ under clear

    pub opened-split : length at_path < length frame.demands
        → steps_after T frame at_path ≡ Split (length (choices_after frame at_path))
        ∷ flat_map (λ s. steps_after T frame (at_path ++ s ∷ [])) (choices_after frame at_path)
    opened-split l =
        steps-split T frame frame.demands at_path (empty_plan frame) l
        ∙ unless_same T frame (plan_after frame at_path) _ under clear

  pub shown-path : (es : List Served) (gs : List (List Signed)) → IsPath T frame es → AreFirst T frame 0 gs
      → placed_heads frame (servers_of es) ≤ length gs
      → map (goal_of T frame) (placed frame (plan_after frame (servers_of es)))
      ≡ map Some (put_heads es (take (placed_heads frame (servers_of es)) gs) ++ put_members es [])
  shown-path es gs path first l = shown-placed T frame es gs path.few path.valid path.goals first l

  -- paths
  goals-take : (n : ℕ) (ws : List Server) (es : List Served) → AreGoals T frame ws es → AreGoals T frame ws (take n es)
  goals-take zero ws es a = tt
  goals-take (suc n) ws [] a = tt
  goals-take (suc n) ws (e ∷ es) a = (a.0, goals-take n (ws ++ e.server ∷ []) es a.1)

  goals-push : (ws : List Server) (es : List Served) (e : Served) → AreGoals T frame ws es
      → goal_after T frame (ws ++ servers_of es) e.server ≡ Some e.goal → AreGoals T frame ws (es ++ e ∷ [])
  goals-push ws [] e a g = (subst (λ us. goal_after T frame us e.server ≡ Some e.goal) (append-nil ws) g, tt)
  goals-push ws (x ∷ es) e a g = (
    a.0,
    goals-push (ws ++ x.server ∷ []) es e a.1
        (subst (λ us. goal_after T frame us e.server ≡ Some e.goal)
        (sym (append_assoc ws (x.server ∷ []) (servers_of es))) g),
  )

  pub servers-take : (n : ℕ) (es : List Served) → servers_of (take n es) ≡ take n (servers_of es)
  servers-take zero es = refl
  servers-take (suc n) [] = refl
  servers-take (suc n) (e ∷ es) = ap (λ us. e.server ∷ us) (servers-take n es)

  pub path-take : (n : ℕ) (es : List Served) → IsPath T frame es → IsPath T frame (take n es)
  path-take n es path = record {
    few = omega (arith, path.few, length-take n es);
    valid =
        subst (λ us. are_valid frame.heads 0 us ≡ true) (sym (servers-take n es))
        (valid-before frame.heads 0 (take n (servers_of es)) (drop n (servers_of es))
        (subst (λ us. are_valid frame.heads 0 us ≡ true) (sym (take-append-drop n (servers_of es))) path.valid));
    goals = goals-take n [] es path.goals;
    extents = extents-take n [] es path.extents;
  }

  pub path-push : (es : List Served) (e : Served) → IsPath T frame es → Fits frame (servers_of es) (Some e.server)
      → goal_after T frame (servers_of es) e.server ≡ Some e.goal → IsExtent (servers_of es ++ e.server ∷ []) e.extent
      → IsPath T frame (es ++ e ∷ [])
  path-push es e path (l, v) g x = record {
    few = omega (arith, l, length-append es (e ∷ []), length-map es (λ e. e.server));
    valid =
        subst (λ us. are_valid frame.heads 0 us ≡ true) (sym (map-append (λ e. e.server) es (e ∷ [])))
        (valid-push frame.heads 0 (servers_of es) e.server path.valid
        (subst (λ m. is_valid frame.heads m e.server ≡ true) (omega arith) v));
    goals = goals-push [] es e path.goals g;
    extents = extents-push [] es e path.extents x;
  }

  pub matches-end : (ws : List Server) (s : C.PlanStep) (step : PlanStep) → Matches frame ws s step
      → is_end s ≡ S.is_end step
  matches-end ws W.Over step m = ap S.is_end (sym m)
  matches-end ws W.Clashing step m = ap S.is_end (sym m.1)
  matches-end ws (W.Split zero) step m = ap S.is_end (sym m)
  matches-end ws (W.Split (suc n)) step m = ap S.is_end (sym m)
  matches-end ws W.Complete step m = ap S.is_end (sym m)

  -- the ends that were given and those that are left stay as many
  pub told-ends : (ws : List Server) (s : C.PlanStep) (step : PlanStep) (n : ℕ) (rest : List PlanStep)
      → Matches frame ws s step → one_more (is_end s) n + ends rest ≡ n + ends (step ∷ rest)
  told-ends ws s step n rest m =
      ap (λ b. one_more b n + ends rest) (matches-end ws s step m) ∙ go (S.is_end step) where
        go : (b : Bool) → one_more b n + ends rest ≡ n + cond b (suc (ends rest)) (ends rest)
        go true = omega arith
        go false = omega arith

  -- a path that goes on
  pub after-fits : (es : List Served) (s : Option Server) → IsPath T frame es → Fits frame (servers_of es) s
      → (length (servers_of es ++ listed s) ≤ length frame.demands)
      × (are_valid frame.heads 0 (servers_of es ++ listed s) ≡ true)
  after-fits es None path f = (
    omega (arith, path.few, length-map es (λ e. e.server), length-append (servers_of es) []),
    subst (λ us. are_valid frame.heads 0 us ≡ true) (sym (append-nil (servers_of es))) path.valid,
  )
  after-fits es (Some s) path (l, v) = (
    omega (arith, l, length-append (servers_of es) (s ∷ [])),
    valid-push frame.heads 0 (servers_of es) s path.valid
        (subst (λ m. is_valid frame.heads m s ≡ true) (omega arith) v),
  )

  -- the step of a plan that is dropped
  pub dropped : (ws vs : List Server) (s : C.PlanStep) (rest : List PlanStep) → IsDropped T frame ws s
      → (step : PlanStep) × Matches frame vs s step × (steps_after T frame ws ++ rest ≡ step ∷ rest)
  dropped ws vs W.Over rest d = (Over, refl, ap (λ ss. ss ++ rest) d)
  dropped ws vs W.Clashing rest d = (Clashing d.0, (d.0, refl), ap (λ ss. ss ++ rest) d.1)
  dropped ws vs (W.Split n) rest d = absurd d
  dropped ws vs W.Complete rest d = absurd d

  pub not_dropped : (ws : List Server) (s : C.PlanStep) → IsDropped T frame ws s → s ≡ W.Complete → ⊥
  not_dropped ws s d e = subst (IsDropped T frame ws) e d

  abbrev Opened : List Served → List Served → Option Server → List Pending → List Pending → C.PlanStep → Type 0
  Opened es es' server ps ps' s =
      (step : PlanStep) × Matches frame (servers_of es') s step
      × (steps_after T frame (servers_of es ++ listed server) ++ steps_left T frame (servers_of es) (reverse ps)
      ≡ step ∷ steps_left T frame (servers_of es') (reverse ps')) × AreFine frame (servers_of es') (reverse ps')

  -- the step of a plan that isn't
  pub opened : (es es' : List Served) (server : Option Server) (ps ps' : List Pending) (s : C.PlanStep)
      (gs : List (List Signed)) → GoesOn T frame es es' server → AreFirst T frame 0 gs
      → is_at_end (size frame (plan_after frame (servers_of es'))) frame.below ≡ false
      → placed_heads frame (servers_of es') ≤ length gs → AreFine frame (servers_of es) (reverse ps)
      → Opens frame (servers_of es') ps ps' s → Opened es es' server ps ps' s
  opened es es' server ps ps' W.Over gs on first under placed fine o = absurd o
  opened es es' server ps ps' W.Clashing gs on first under placed fine o = absurd o
  opened es es' server ps ps' (W.Split n) gs on first under placed fine (l, e, r) =
      let ws = servers_of es' in
      let rest = left-more (servers_of es) (listed server) (reverse ps) fine in
      let more = fine-more (servers_of es) (listed server) (reverse ps) fine in (
        Split n,
        refl,
        ap₂ (λ us ss. steps_after T frame us ++ ss) (sym on.servers)
            (sym rest ∙ ap (λ us. steps_left T frame us (reverse ps)) (sym on.servers))
            ∙ ap (λ ss. ss ++ steps_left T frame ws (reverse ps)) (opened-split es' gs on.path first under placed l)
            ∙ ap (λ ss. Split (length (choices_after frame ws)) ∷ ss)
            (sym (left-entries ws (choices_after frame ws) (reverse ps)))
            ∙ ap₂ (λ k qs. Split k ∷ steps_left T frame ws qs) (sym e) (sym r),
        subst (λ qs. AreFine frame ws qs) (sym r)
            (fine-entries ws (choices_after frame ws) (reverse ps) l
            (choices-valid frame ws (omega (arith, l)))
            (subst (λ us. AreFine frame us (reverse ps)) (sym on.servers) more)),
      )
  opened es es' server ps ps' W.Complete gs on first under placed fine (e, r) =
      let ws = servers_of es' in
      let rest = left-more (servers_of es) (listed server) (reverse ps) fine in
      let more = fine-more (servers_of es) (listed server) (reverse ps) fine in (
        Complete (plan_after frame ws),
        refl,
        ap₂ (λ us ss. steps_after T frame us ++ ss) (sym on.servers)
            (sym rest ∙ ap (λ us. steps_left T frame us (reverse ps)) (sym on.servers))
            ∙ ap (λ ss. ss ++ steps_left T frame ws (reverse ps)) (opened-complete es' gs on.path first under placed e)
            ∙ ap (λ qs. Complete (plan_after frame ws) ∷ steps_left T frame ws (reverse qs)) (sym r),
        subst (λ qs. AreFine frame ws (reverse qs)) (sym r)
            (subst (λ us. AreFine frame us (reverse ps)) (sym on.servers) more),
      )

  pub next-fine : (ws : List Server) (es old : List Pending) (e : Pending) → old ≡ es ++ e ∷ []
      → AreFine frame ws (reverse old) → AreFine frame ws (e ∷ reverse es)
  next-fine ws es old e q f = subst (λ us. AreFine frame ws us) (reverse-last es old e q) f

  -- the plan of a server that clashes
  pub clashed : (es : List Served) (server : Option Server) → IsPath T frame es → Fits frame (servers_of es) server
      → IsClash T frame (servers_of es) server
      → is_at_end (size frame (plan_after frame (servers_of es ++ listed server))) frame.below ≡ false
      → IsDropped T frame (servers_of es ++ listed server) W.Clashing
  clashed es None path f h under = absurd h
  clashed es (Some s) path f h under =
      let (l, v) = f in
      let (i, e) = server-clash T frame (servers_of es) s l path.valid v h in
      (i, steps-clash (servers_of es ++ s ∷ []) i (after-fits es (Some s) path f).0 under e)

  -- what is left is the plan that is visited next, and the others
  pub left-next : (path path' : List Served) (es old : List Pending) (e : Pending) → old ≡ es ++ e ∷ []
      → path' ≡ take e.level path → steps_left T frame (servers_of path) (reverse old)
      ≡ steps_after T frame (servers_of path' ++ listed e.server) ++ steps_left T frame (servers_of path') (reverse es)
  left-next path path' es old e q cut =
      ap (steps_left T frame (servers_of path)) (reverse-last es old e q)
      ∙ ap (λ us. steps_after T frame (us ++ listed e.server) ++ steps_left T frame us (reverse es))
      (sym (ap servers_of cut ∙ servers-take e.level path))

  pub fine-next : (path path' : List Served) (es old : List Pending) (e : Pending) → old ≡ es ++ e ∷ []
      → path' ≡ take e.level path → AreFine frame (servers_of path) (reverse old)
      → Fits frame (servers_of path') e.server × AreFine frame (servers_of path') (reverse es)
  fine-next path path' es old e q cut f =
      let g = next-fine (servers_of path) es old e q f in
      let same = sym (ap servers_of cut ∙ servers-take e.level path) in
      (subst (λ us. Fits frame us e.server) same g.1, subst (λ us. AreFine frame us (reverse es)) same g.2)
