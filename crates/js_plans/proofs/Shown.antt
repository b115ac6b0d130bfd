-- The goals of what a plan places, as the servers come one after another: all are formed along a path, and where the
-- list of a server or of a first place clashes, the plan is dropped.
use Rattle.std.proofs.Common.{◌≡◌, ℕ, zero, suc, ◌+◌, ◌<◌, ◌≤◌, max, min, List, [], ◌∷◌, ◌++◌, map, reverse, take, length, get_or, set, replicate, true, cond, Option, Some, None, refl, arith, ap, ap₂, sym, ◌∙◌, subst, append-nil, append_assoc}
use Rattle.std.specs.Option.{is_none}
use Rattle.std.proofs.lemmas.Bool.{and_parts, ltb-true}
use Rattle.std.proofs.lemmas.List.{map-append, length-map, length-append, map-set, reverse-append}
use Rattle.std.proofs.lemmas.Simd.{map-map}
use Rattle.positions.specs.Position.{Position}
use Rattle.goals.specs.Signed.{Signed}
use Rattle.frames.specs.Frame as F
use Rattle.frames.specs.Frame.{Frame, Head, In, is_at_end}
use Rattle.frames.specs.Plan.{Plan, Member, member, empty_plan, serve_head, serve_member, used, size, goal_of, heads_from, placed, clash_from, first_clash}
use Rattle.js_plans.specs.declared.server.Server.{Server}
use Rattle.js_plans.specs.declared.server.Server.TheVariants as V
use Rattle.js_plans.specs.declared.path.Served.{Served}
use Rattle.js_plans.specs.Serving.{serve, plan_after}
use Rattle.js_plans.specs.Servers.{cells_of, members_after, used_after, most_used, earlier, is_valid, are_valid, servers_of}
use Rattle.js_plans.specs.Goals.{place_after, goal_after, AreFirst, AreGoals}
use Rattle.js_plans.specs.Choosing.{next_demand}
use Rattle.js_plans.specs.Placing.{put_head, put_member, put_heads, put_members}
use Rattle.js_plans.proofs.Forming.{goal-more}
use Rattle.js_plans.proofs.Grown.{used-serve_head}
use Rattle.js_plans.proofs.Seen.{member_at, served_by, served-serve_all}
use Rattle.js_plans.proofs.Plans.{members_on-cons, valid-before, cell-at, served-empty, heads-long, cells-all, members-count, next-plan}

pub cells-push : (ws : List Server) (s : Server)
    → length (cells_of (ws ++ s ∷ [])) ≡ members_after (length (cells_of ws)) s
cells-push [] (V.Head k) = refl
cells-push [] (V.Member k) = refl
cells-push [] (V.New c) = refl
cells-push (V.Head k ∷ ws) s = cells-push ws s
cells-push (V.Member k ∷ ws) s = cells-push ws s
cells-push (V.New c ∷ ws) s = ap suc (cells-push ws s) ∙ more s (length (cells_of ws)) where
  more : (s : Server) (n : ℕ) → suc (members_after n s) ≡ members_after (suc n) s
  more (V.Head k) n = refl
  more (V.Member k) n = refl
  more (V.New c) n = omega arith

pub used-push : (n : ℕ) (ws : List Server) (s : Server) → most_used n (ws ++ s ∷ []) ≡ used_after (most_used n ws) s
used-push n [] s = refl
used-push n (w ∷ ws) s = used-push (used_after n w) ws s

-- each server was there when it came
pub valid-at : (h m : ℕ) (ws : List Server) (s : Server) (ss : List Server) → are_valid h m (ws ++ s ∷ ss) ≡ true
    → is_valid h (m + length (cells_of ws)) s ≡ true
valid-at h m [] s ss v = subst (λ k. is_valid h k s ≡ true) (omega arith) (and_parts (is_valid h m s) _ v).0
valid-at h m (w ∷ ws) s ss v =
    subst (λ k. is_valid h k s ≡ true) (members_on-cons m w ws)
    (valid-at h (members_after m w) ws s ss (and_parts (is_valid h m w) _ v).1)

-- one of the goals isn't formed
abbrev pub HasNone : List (Option (List Signed)) → Type 0
HasNone [] = ⊥
HasNone (None ∷ os) = Unit {0}
HasNone (Some g ∷ os) = HasNone os

none-set : (os : List (Option (List Signed))) (k : ℕ) → k < length os → HasNone (set os k None)
none-set [] k l = absurd (omega (arith, l))
none-set (o ∷ os) zero l = tt
none-set (None ∷ os) (suc k) l = tt
none-set (Some g ∷ os) (suc k) l = none-set os k (omega (arith, l))

none-left : (os rs : List (Option (List Signed))) → HasNone os → HasNone (os ++ rs)
none-left [] rs h = absurd h
none-left (None ∷ os) rs h = tt
none-left (Some g ∷ os) rs h = none-left os rs h

none-right : (os rs : List (Option (List Signed))) → HasNone rs → HasNone (os ++ rs)
none-right [] rs h = h
none-right (None ∷ os) rs h = tt
none-right (Some g ∷ os) rs h = none-right os rs h

module _ (T : List Position) (frame : Frame) where
  abbrev pub head_goals : ℕ → ℕ → List (List Signed) → List (Option (List Signed))
  head_goals j n xs = map (goal_of T frame) (take n (heads_from j xs))

  abbrev pub member_goals : List Member → List (Option (List Signed))
  member_goals ms = map (λ m. goal_of T frame (In m.cell, m.served)) ms

  pub placed-goals : (p : Plan) → map (goal_of T frame) (placed frame p)
      ≡ head_goals 0 (size frame p) p.heads ++ member_goals p.members
  placed-goals p =
      map-append (goal_of T frame) (take (size frame p) (heads_from 0 p.heads))
      (map (λ m. (In m.cell, m.served)) p.members)
      ∙ ap (λ os. head_goals 0 (size frame p) p.heads ++ os)
      (map-map (goal_of T frame) (λ m. (In m.cell, m.served)) p.members)

  pub head_goals-min : (j n : ℕ) (xs : List (List Signed)) → head_goals j n xs ≡ head_goals j (min n (length xs)) xs
  head_goals-min j zero xs = let e : 0 ≡ min 0 (length xs) = omega arith in ap (λ n. head_goals j n xs) e
  head_goals-min j (suc n) [] = let e : 0 ≡ min (suc n) 0 = omega arith in ap (λ n. head_goals j n []) e
  head_goals-min j (suc n) (x ∷ xs) =
      let e : suc (min n (length xs)) ≡ min (suc n) (suc (length xs)) = omega arith in
      ap (λ os. goal_of T frame (Head j, x) ∷ os) (head_goals-min (suc j) n xs)
      ∙ ap (λ k. head_goals j k (x ∷ xs)) e

  pub length-head_goals : (j n : ℕ) (xs : List (List Signed)) → length (head_goals j n xs) ≡ min n (length xs)
  length-head_goals j zero xs = omega arith
  length-head_goals j (suc n) [] = omega arith
  length-head_goals j (suc n) (x ∷ xs) = omega (arith, length-head_goals (suc j) n xs)

  head-put : (d : Signed) (xs : List (List Signed)) (i j n k : ℕ) → k < length xs → i ≡ j + k
      → head_goals j n (serve_head d xs k) ≡ set (head_goals j n xs) k (goal_of T frame (Head i, d ∷ get_or xs k []))
  head-put d [] i j n k l e = absurd (omega (arith, l))
  head-put d (x ∷ xs) i j zero zero l e = refl
  head-put d (x ∷ xs) i j zero (suc k) l e = refl
  head-put d (x ∷ xs) i j (suc n) zero l e =
      ap (λ m. goal_of T frame (Head m, d ∷ x) ∷ head_goals (suc j) n xs) (omega (arith, e))
  head-put d (x ∷ xs) i j (suc n) (suc k) l e =
      ap (λ os. goal_of T frame (Head j, x) ∷ os) (head-put d xs i (suc j) n k (omega (arith, l)) (omega (arith, e)))

  member-put : (d : Signed) (ms : List Member) (k : ℕ) → k < length ms
      → member_goals (serve_member d ms k)
      ≡ set (member_goals ms) k (goal_of T frame (In (member_at ms k).cell, d ∷ (member_at ms k).served))
  member-put d [] k l = absurd (omega (arith, l))
  member-put d (m ∷ ms) zero l = refl
  member-put d (m ∷ ms) (suc k) l =
      ap (λ os. goal_of T frame (In m.cell, m.served) ∷ os) (member-put d ms k (omega (arith, l)))

  member-new : (d : Signed) (ms : List Member) (c : ℕ)
      → member_goals (ms ++ member c (d ∷ []) ∷ []) ≡ member_goals ms ++ goal_of T frame (In c, d ∷ []) ∷ []
  member-new d [] c = refl
  member-new d (m ∷ ms) c = ap (λ os. goal_of T frame (In m.cell, m.served) ∷ os) (member-new d ms c)

  abbrev stands : Server → Plan → F.Place
  stands (V.Head k) p = Head k
  stands (V.Member k) p = In (member_at p.members k).cell
  stands (V.New c) p = In c

  abbrev P : List Server → Plan
  P ws = plan_after frame ws

  -- what serves the next demand too, in the plan
  goal-after-plan : (ws : List Server) (s : Server) → length ws ≤ length frame.demands
      → are_valid frame.heads 0 ws ≡ true → is_valid frame.heads (length (cells_of ws)) s ≡ true
      → goal_after T frame ws s ≡ goal_of T frame (stands s (P ws), next_demand frame ws ∷ served_by s (P ws))
  goal-after-plan ws s l v u =
      ap₂ (λ at ds. goal_of T frame (at, ds)) (place s)
      (reverse-append (earlier s frame.demands 0 ws) (next_demand frame ws ∷ [])
      ∙ ap (λ ds. next_demand frame ws ∷ ds)
      (sym (append-nil (reverse (earlier s frame.demands 0 ws)))
      ∙ ap (λ ds. reverse (earlier s frame.demands 0 ws) ++ ds) (sym (served-empty frame s))
      ∙ sym (served-serve_all s frame.demands ws (empty_plan frame) frame.heads 0 (length (cells_of ws))
      (sym (heads-long frame [])) refl l v u))) where
        place : (s : Server) → place_after ws s ≡ stands s (P ws)
        place (V.Head k) = refl
        place (V.Member k) =
            ap (λ cs. In (get_or cs k 0)) (sym (cells-all frame ws l)) ∙ ap In (cell-at (P ws).members k)
        place (V.New c) = refl

  -- the goals after one more server
  abbrev head_with : Server → Option (List Signed) → List (Option (List Signed)) → List (Option (List Signed))
  head_with (V.Head k) o hs = set hs k o
  head_with (V.Member k) o hs = hs
  head_with (V.New c) o hs = hs

  abbrev member_with : Server → Option (List Signed) → List (Option (List Signed)) → List (Option (List Signed))
  member_with (V.Head k) o ms = ms
  member_with (V.Member k) o ms = set ms k o
  member_with (V.New c) o ms = ms ++ o ∷ []

  heads-next : (ws : List Server) (s : Server) (n : ℕ) → length ws < length frame.demands
      → are_valid frame.heads 0 ws ≡ true → is_valid frame.heads (length (cells_of ws)) s ≡ true
      → head_goals 0 n (P (ws ++ s ∷ [])).heads
      ≡ head_with s (goal_after T frame ws s) (head_goals 0 n (P ws).heads)
  heads-next ws s n l v u =
      ap (λ p. head_goals 0 n p.heads) (next-plan frame ws s l)
      ∙ by_server s u
      ∙ ap (λ o. head_with s o (head_goals 0 n (P ws).heads)) (sym (goal-after-plan ws s (omega (arith, l)) v u)) where
        by_server : (s : Server) → is_valid frame.heads (length (cells_of ws)) s ≡ true
            → head_goals 0 n (serve (next_demand frame ws) (P ws) s).heads
            ≡ head_with s (goal_of T frame (stands s (P ws), next_demand frame ws ∷ served_by s (P ws)))
            (head_goals 0 n (P ws).heads)
        by_server (V.Head k) u =
            let i : k ≡ 0 + k = omega arith in
            head-put (next_demand frame ws) (P ws).heads k 0 n k
            (subst (λ h. k < h) (sym (heads-long frame ws)) (ltb-true k frame.heads u)) i
        by_server (V.Member k) u = refl
        by_server (V.New c) u = refl

  members-next : (ws : List Server) (s : Server) → length ws < length frame.demands
      → are_valid frame.heads 0 ws ≡ true → is_valid frame.heads (length (cells_of ws)) s ≡ true
      → member_goals (P (ws ++ s ∷ [])).members ≡ member_with s (goal_after T frame ws s) (member_goals (P ws).members)
  members-next ws s l v u =
      ap (λ p. member_goals p.members) (next-plan frame ws s l)
      ∙ by_server s u
      ∙ ap (λ o. member_with s o (member_goals (P ws).members))
      (sym (goal-after-plan ws s (omega (arith, l)) v u)) where
        by_server : (s : Server) → is_valid frame.heads (length (cells_of ws)) s ≡ true
            → member_goals (serve (next_demand frame ws) (P ws) s).members
            ≡ member_with s (goal_of T frame (stands s (P ws), next_demand frame ws ∷ served_by s (P ws)))
            (member_goals (P ws).members)
        by_server (V.Head k) u = refl
        by_server (V.Member k) u =
            member-put (next_demand frame ws) (P ws).members k
            (subst (λ m. k < m) (sym (members-count frame ws (omega (arith, l)))) (ltb-true k (length (cells_of ws)) u))
        by_server (V.New c) u = member-new (next_demand frame ws) (P ws).members c

  head_with-some : (s : Server) (g : List Signed) (hs : List (List Signed))
      → head_with s (Some g) (map Some hs) ≡ map Some (put_head s g hs)
  head_with-some (V.Head k) g hs = sym (map-set Some hs k g)
  head_with-some (V.Member k) g hs = refl
  head_with-some (V.New c) g hs = refl

  member_with-some : (s : Server) (g : List Signed) (ms : List (List Signed))
      → member_with s (Some g) (map Some ms) ≡ map Some (put_member s g ms)
  member_with-some (V.Head k) g ms = refl
  member_with-some (V.Member k) g ms = sym (map-set Some ms k g)
  member_with-some (V.New c) g ms = sym (map-append Some ms (g ∷ []))

  -- along a path
  module _ (es : List Served) (ws : List Server) where
    abbrev All : Type 0
    All = (length (ws ++ servers_of es) ≤ length frame.demands) × (are_valid frame.heads 0 (ws ++ servers_of es) ≡ true)
        × AreGoals T frame ws es

  record Comes (ws : List Server) (e : Served) (es : List Served) : Type 0 where
    few : length ws < length frame.demands
    valid : are_valid frame.heads 0 ws ≡ true
    fits : is_valid frame.heads (length (cells_of ws)) e.server ≡ true
    rest : All es (ws ++ e.server ∷ [])

  comes : (ws : List Server) (e : Served) (es : List Served) → All (e ∷ es) ws → Comes ws e es
  comes ws e es (l, v, (a, b)) =
      let again : (ws ++ e.server ∷ []) ++ servers_of es ≡ ws ++ e.server ∷ servers_of es
      = append_assoc ws (e.server ∷ []) (servers_of es) in
      record {
        few = omega (arith, l, length-append ws (e.server ∷ servers_of es));
        valid = valid-before frame.heads 0 ws (e.server ∷ servers_of es) v;
        fits = subst (λ m. is_valid frame.heads m e.server ≡ true) (omega arith)
            (valid-at frame.heads 0 ws e.server (servers_of es) v);
        rest = (
          subst (λ us. length us ≤ length frame.demands) (sym again) l,
          subst (λ us. are_valid frame.heads 0 us ≡ true) (sym again) v,
          b,
        );
      }

  put-heads : (n : ℕ) (es : List Served) (ws : List Server) (hs : List (List Signed)) → All es ws
      → head_goals 0 n (P ws).heads ≡ map Some hs
      → head_goals 0 n (P (ws ++ servers_of es)).heads ≡ map Some (put_heads es hs)
  put-heads n [] ws hs a h = ap (λ us. head_goals 0 n (P us).heads) (append-nil ws) ∙ h
  put-heads n (e ∷ es) ws hs a h =
      let c = comes ws e es a in
      ap (λ us. head_goals 0 n (P us).heads) (sym (append_assoc ws (e.server ∷ []) (servers_of es)))
      ∙ put-heads n es (ws ++ e.server ∷ []) (put_head e.server e.goal hs) c.rest
      (heads-next ws e.server n c.few c.valid c.fits
      ∙ ap₂ (λ o os. head_with e.server o os) a.2.0 h
      ∙ head_with-some e.server e.goal hs)

  put-members : (es : List Served) (ws : List Server) (ms : List (List Signed)) → All es ws
      → member_goals (P ws).members ≡ map Some ms
      → member_goals (P (ws ++ servers_of es)).members ≡ map Some (put_members es ms)
  put-members [] ws ms a h = ap (λ us. member_goals (P us).members) (append-nil ws) ∙ h
  put-members (e ∷ es) ws ms a h =
      let c = comes ws e es a in
      ap (λ us. member_goals (P us).members) (sym (append_assoc ws (e.server ∷ []) (servers_of es)))
      ∙ put-members es (ws ++ e.server ∷ []) (put_member e.server e.goal ms) c.rest
      (members-next ws e.server c.few c.valid c.fits
      ∙ ap₂ (λ o os. member_with e.server o os) a.2.0 h
      ∙ member_with-some e.server e.goal ms)

  first-goals : (n j h : ℕ) (gs : List (List Signed)) → AreFirst T frame j gs → n ≤ length gs → n ≤ h
      → head_goals j n (replicate h []) ≡ map Some (take n gs)
  first-goals zero j h gs a l m = refl
  first-goals (suc n) j zero gs a l m = absurd (omega (arith, m))
  first-goals (suc n) j (suc h) [] a l m = absurd (omega (arith, l))
  first-goals (suc n) j (suc h) (g ∷ gs) a l m =
      ap₂ (λ o os. o ∷ os) a.0 (first-goals n (suc j) h gs a.1 (omega (arith, l)) (omega (arith, m)))

  -- all that is placed after a path has its goal
  pub all-shown : (n : ℕ) (es : List Served) (gs : List (List Signed)) → length es ≤ length frame.demands
      → are_valid frame.heads 0 (servers_of es) ≡ true → AreGoals T frame [] es → AreFirst T frame 0 gs
      → n ≤ length gs → n ≤ frame.heads
      → head_goals 0 n (P (servers_of es)).heads ++ member_goals (P (servers_of es)).members
      ≡ map Some (put_heads es (take n gs) ++ put_members es [])
  all-shown n es gs l v a f m k =
      let all : All es [] = (subst (λ i. i ≤ length frame.demands) (sym (length-map es (λ e. e.server))) l, v, a) in
      ap₂ (λ xs ys. xs ++ ys) (put-heads n es [] (take n gs) all (first-goals n 0 frame.heads gs f m k))
      (put-members es [] [] all refl)
      ∙ sym (map-append Some (put_heads es (take n gs)) (put_members es []))

  -- a clash
  clash-some : (k : ℕ) (ss : List (F.Place × List Signed)) → HasNone (map (goal_of T frame) ss)
      → (i : ℕ) × (clash_from T frame k ss ≡ Some i)
  clash-some k [] h = absurd h
  clash-some k (s ∷ ss) h = go (goal_of T frame s) h (clash-some (suc k) ss) where
    go : (o : Option (List Signed)) → HasNone (o ∷ map (goal_of T frame) ss)
        → (HasNone (map (goal_of T frame) ss) → (i : ℕ) × (clash_from T frame (suc k) ss ≡ Some i))
        → (i : ℕ) × (cond (is_none o) (Some k) (clash_from T frame (suc k) ss) ≡ Some i)
    go None h more = (k, refl)
    go (Some g) h more = more h

  clash-none : (k : ℕ) (ss : List (F.Place × List Signed)) (gs : List (List Signed))
      → map (goal_of T frame) ss ≡ map Some gs → clash_from T frame k ss ≡ None
  clash-none k [] gs e = refl
  clash-none k (s ∷ ss) [] e = absurd (no_nil e) where
    no_nil : {A : Type 0} {x : A} {xs : List A} → x ∷ xs ≡ [] → ⊥
    no_nil e = cc
  clash-none k (s ∷ ss) (g ∷ gs) e =
      let (a, b) = parts e in
      ap (λ o. cond (is_none o) (Some k) (clash_from T frame (suc k) ss)) a ∙ clash-none (suc k) ss gs b where
        parts : {A : Type 0} {x y : A} {xs ys : List A} → x ∷ xs ≡ y ∷ ys → (x ≡ y) × (xs ≡ ys)
        parts e = (cc, cc)

  none-first : (xs : List (List Signed)) (j n k i : ℕ) → i ≡ j + k → k < n → k < length xs
      → goal_of T frame (Head i, []) ≡ None → HasNone (head_goals j n xs)
  none-first [] j n k i e l m g = absurd (omega (arith, m))
  none-first (x ∷ xs) j zero k i e l m g = absurd (omega (arith, l))
  none-first (x ∷ xs) j (suc n) zero i e l m g =
      subst (λ o. HasNone (o ∷ head_goals (suc j) n xs))
      (sym (ap (λ b. goal_of T frame (Head b, x)) (omega (arith, e)) ∙ goal-more T frame i x g)) tt
  none-first (x ∷ xs) j (suc n) (suc k) i e l m g =
      go (goal_of T frame (Head j, x))
      (none-first xs (suc j) n k i (omega (arith, e)) (omega (arith, l)) (omega (arith, m)) g) where
        go : (o : Option (List Signed)) → HasNone (head_goals (suc j) n xs) → HasNone (o ∷ head_goals (suc j) n xs)
        go None h = tt
        go (Some q) h = h

  abbrev clashes : Plan → Type 0
  clashes p = (i : ℕ) × (first_clash T frame p ≡ Some i)

  from_none : (p : Plan) → HasNone (head_goals 0 (size frame p) p.heads ++ member_goals p.members) → clashes p
  from_none p h = clash-some 0 (placed frame p) (subst HasNone (sym (placed-goals p)) h)

  pub first-clash : (ws : List Server) (k : ℕ) → k < size frame (P ws) → k < frame.heads
      → goal_of T frame (Head k, []) ≡ None → clashes (P ws)
  first-clash ws k l m g =
      from_none (P ws) (none-left (head_goals 0 (size frame (P ws)) (P ws).heads) (member_goals (P ws).members)
      (none-first (P ws).heads 0 (size frame (P ws)) k k (omega arith) l
      (subst (λ h. k < h) (sym (heads-long frame ws)) m) g))

  pub server-clash : (ws : List Server) (s : Server) → length ws < length frame.demands
      → are_valid frame.heads 0 ws ≡ true → is_valid frame.heads (length (cells_of ws)) s ≡ true
      → goal_after T frame ws s ≡ None → clashes (P (ws ++ s ∷ []))
  server-clash ws s l v u g = from_none q (by_server s u g) where
    q : Plan
    q = P (ws ++ s ∷ [])

    by_server : (s : Server) → is_valid frame.heads (length (cells_of ws)) s ≡ true → goal_after T frame ws s ≡ None
        → HasNone (head_goals 0 (size frame (P (ws ++ s ∷ []))) (P (ws ++ s ∷ [])).heads
        ++ member_goals (P (ws ++ s ∷ [])).members)
    by_server (V.Head k) u g =
        let p = P (ws ++ V.Head k ∷ []) in
        let n = size frame p in
        let there : k < length (P ws).heads = subst (λ h. k < h) (sym (heads-long frame ws))
        (ltb-true k frame.heads u) in
        let reach : used p.heads ≡ max (used (P ws).heads) (k + 1) =
        ap (λ r. used r.heads) (next-plan frame ws (V.Head k) l)
        ∙ used-serve_head (next_demand frame ws) (P ws).heads k there in
        none-left (head_goals 0 n p.heads) (member_goals p.members)
        (subst HasNone
        (sym (heads-next ws (V.Head k) n l v u ∙ ap (λ o. set (head_goals 0 n (P ws).heads) k o) g))
        (none-set (head_goals 0 n (P ws).heads) k (omega (arith, length-head_goals 0 n (P ws).heads, reach, there))))
    by_server (V.Member k) u g =
        let p = P (ws ++ V.Member k ∷ []) in
        none-right (head_goals 0 (size frame p) p.heads) (member_goals p.members)
        (subst HasNone (sym (members-next ws (V.Member k) l v u ∙ ap (λ o. set (member_goals (P ws).members) k o) g))
        (none-set (member_goals (P ws).members) k (omega (
          arith,
          length-map (P ws).members (λ m. goal_of T frame (In m.cell, m.served)),
          members-count frame ws (omega (arith, l)),
          ltb-true k (length (cells_of ws)) u,
        ))))
    by_server (V.New c) u g =
        let p = P (ws ++ V.New c ∷ []) in
        none-right (head_goals 0 (size frame p) p.heads) (member_goals p.members)
        (subst HasNone (sym (members-next ws (V.New c) l v u ∙ ap (λ o. member_goals (P ws).members ++ o ∷ []) g))
        (none-right (member_goals (P ws).members) (None ∷ []) tt))

  -- the goals of what is placed
  pub shown-placed : (es : List Served) (gs : List (List Signed)) → length es ≤ length frame.demands
      → are_valid frame.heads 0 (servers_of es) ≡ true → AreGoals T frame [] es → AreFirst T frame 0 gs
      → let n = min (size frame (P (servers_of es))) frame.heads in n ≤ length gs
      → map (goal_of T frame) (placed frame (P (servers_of es)))
      ≡ map Some (put_heads es (take n gs) ++ put_members es [])
  shown-placed es gs l v a f m =
      let p = P (servers_of es) in
      let n = min (size frame p) frame.heads in
      placed-goals p
      ∙ ap (λ os. os ++ member_goals p.members)
      (head_goals-min 0 (size frame p) p.heads
      ∙ ap (λ h. head_goals 0 (min (size frame p) h) p.heads) (heads-long frame (servers_of es)))
      ∙ all-shown n es gs l v a f m (omega arith)

  -- nothing clashes
  pub no-clash : (es : List Served) (gs : List (List Signed)) → length es ≤ length frame.demands
      → are_valid frame.heads 0 (servers_of es) ≡ true → AreGoals T frame [] es → AreFirst T frame 0 gs
      → min (size frame (P (servers_of es))) frame.heads ≤ length gs → first_clash T frame (P (servers_of es)) ≡ None
  no-clash es gs l v a f m = clash-none 0 (placed frame (P (servers_of es))) _ (shown-placed es gs l v a f m)
