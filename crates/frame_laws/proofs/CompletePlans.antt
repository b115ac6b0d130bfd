-- What a complete plan has: each demand is served, no cell is over its bound, nothing placed clashes.
use Rattle.std.proofs.Common.{◌≡◌, ℕ, zero, suc, ◌+◌, ◌<◌, ◌≤◌, ◌⊎◌, inl, inr, ⊎_elim, Bool, true, false, ◌&&◌, cond, not, List, [], ◌∷◌, ◌++◌, map, filter, flat_map, length, nat_eq, nat_le, Option, Some, None, refl, ap, sym, ◌∙◌, subst, arith}
use Rattle.std.proofs.Math.ListN.{length-replicate}
use Rattle.std.proofs.lemmas.Bool.{and_parts, leb-false, eqb-true, not-true}
use Rattle.std.specs.List.{range_with_len}
use Rattle.positions.specs.Position.{Position}
use Rattle.goals.specs.Signed.{Signed}
use Rattle.frames.specs.Frame.{Frame, is_at_end}
use Rattle.frames.specs.Plan.{Member, Plan, plan, member, empty_plan, serve_head, serve_member, count_in, has_room, servers, options, size, first_clash, PlanStep, Over, Clashing, Split, Complete, by_clash, unless_dropped, steps, complete}
use Rattle.list_laws.specs.In.{IsIn}
use Rattle.list_laws.proofs.Lists.{from_append, from_map}
use Rattle.frame_laws.proofs.Arranged.{at_list}
use Rattle.frame_laws.proofs.Lengths.{length-serve_head}
use Rattle.list_laws.proofs.Tests.{from_filter}

module _ (T : List Position) (frame : Frame) where
  abbrev IsServedBy : Signed → Plan → Type 0
  IsServedBy d p = ((k : ℕ) × IsIn d (at_list p.heads k)) ⊎ ((m : Member) × IsIn m p.members × IsIn d m.served)

  pub record IsKept (left : List Signed) (p : Plan) : Type 0 where
    pub heads_long : length p.heads ≡ frame.heads
    pub cells : (m : Member) → IsIn m p.members → IsIn m.cell frame.cells
    pub inside : (m : Member) (d : Signed) → IsIn m p.members → IsIn d m.served → frame.inside d m.cell ≡ true
    pub capped : (c b : ℕ) → frame.cap c ≡ Some b → count_in c p.members ≤ b
    pub served : (d : Signed) → IsIn d frame.demands → IsServedBy d p ⊎ IsIn d left

  -- serving at a first place

  still : (e d : Signed) (xs : List (List Signed)) (k m : ℕ) → IsIn e (at_list xs m)
      → IsIn e (at_list (serve_head d xs k) m)
  still e d [] k m i = i
  still e d (x ∷ xs) zero zero i = inr i
  still e d (x ∷ xs) zero (suc m) i = i
  still e d (x ∷ xs) (suc k) zero i = i
  still e d (x ∷ xs) (suc k) (suc m) i = still e d xs k m i

  now : (d : Signed) (xs : List (List Signed)) (k : ℕ) → k < length xs → IsIn d (at_list (serve_head d xs k) k)
  now d [] k l = absurd (omega (arith, l))
  now d (x ∷ xs) zero l = inl refl
  now d (x ∷ xs) (suc k) l = now d xs k (omega (arith, l))

  -- serving by a member

  pub count_serve : (c : ℕ) (d : Signed) (ms : List Member) (k : ℕ) → count_in c (serve_member d ms k) ≡ count_in c ms
  count_serve c d [] k = refl
  count_serve c d (m ∷ ms) zero = refl
  count_serve c d (m ∷ ms) (suc k) = ap (λ n. cond (nat_eq m.cell c) (suc n) n) (count_serve c d ms k)

  member_stays : (m : Member) (e d : Signed) (ms : List Member) (k : ℕ) → IsIn m ms → IsIn e m.served
      → (n : Member) × IsIn n (serve_member d ms k) × IsIn e n.served
  member_stays m e d [] k i j = absurd i
  member_stays m e d (x ∷ ms) zero (inl q) j =
      (member x.cell (d ∷ x.served), inl refl, inr (subst (λ z. IsIn e z.served) q j))
  member_stays m e d (x ∷ ms) zero (inr i) j = (m, inr i, j)
  member_stays m e d (x ∷ ms) (suc k) (inl q) j = (x, inl refl, subst (λ z. IsIn e z.served) q j)
  member_stays m e d (x ∷ ms) (suc k) (inr i) j = let (n, a, b) = member_stays m e d ms k i j in (n, inr a, b)

  -- a server serves, and its cell is inside
  server_at : (d : Signed) (b k : ℕ) (ms : List Member) → IsIn k (servers frame d b ms)
      → (i : ℕ) × (k ≡ b + i) × ((n : Member) × IsIn n (serve_member d ms i) × IsIn d n.served)
      × ((n : Member) → IsIn n (serve_member d ms i)
      → IsIn n ms
      ⊎ ((m : Member) × IsIn m ms × (n ≡ member m.cell (d ∷ m.served)) × (frame.inside d m.cell ≡ true)))
  server_at d b k [] i = absurd i
  server_at d b k (m ∷ ms) i = go (frame.inside d m.cell) refl i (server_at d (suc b) k ms) where
    Found : List Member → ℕ → Type 0
    Found xs i = ((n : Member) × IsIn n (serve_member d xs i) × IsIn d n.served)
        × ((n : Member) → IsIn n (serve_member d xs i)
        → IsIn n xs
        ⊎ ((m : Member) × IsIn m xs × (n ≡ member m.cell (d ∷ m.served)) × (frame.inside d m.cell ≡ true)))

    later : (i : ℕ) × (k ≡ suc b + i) × ((n : Member) × IsIn n (serve_member d ms i) × IsIn d n.served)
        × ((n : Member) → IsIn n (serve_member d ms i)
        → IsIn n ms
        ⊎ ((m : Member) × IsIn m ms × (n ≡ member m.cell (d ∷ m.served)) × (frame.inside d m.cell ≡ true)))
        → (i : ℕ) × (k ≡ b + i) × ((n : Member) × IsIn n (serve_member d (m ∷ ms) i) × IsIn d n.served)
        × ((n : Member) → IsIn n (serve_member d (m ∷ ms) i)
        → IsIn n (m ∷ ms)
        ⊎ ((x : Member) × IsIn x (m ∷ ms) × (n ≡ member x.cell (d ∷ x.served)) × (frame.inside d x.cell ≡ true)))
    later (i, e, (n, a, j), f) = (
      suc i,
      omega (arith, e),
      (n, inr a, j),
      λ x h. ⊎_elim (λ q. inl (inl q)) (λ h. ⊎_elim (λ y. inl (inr y)) (λ (y, u, v, w). inr (y, inr u, v, w)) (f x h))
          h,
    )

    go : (v : Bool) → frame.inside d m.cell ≡ v
        → IsIn k (cond v (b ∷ servers frame d (suc b) ms) (servers frame d (suc b) ms))
        → (IsIn k (servers frame d (suc b) ms)
        → (i : ℕ) × (k ≡ suc b + i) × ((n : Member) × IsIn n (serve_member d ms i) × IsIn d n.served)
        × ((n : Member) → IsIn n (serve_member d ms i)
        → IsIn n ms
        ⊎ ((m : Member) × IsIn m ms × (n ≡ member m.cell (d ∷ m.served)) × (frame.inside d m.cell ≡ true))))
        → (i : ℕ) × (k ≡ b + i) × ((n : Member) × IsIn n (serve_member d (m ∷ ms) i) × IsIn d n.served)
        × ((n : Member) → IsIn n (serve_member d (m ∷ ms) i)
        → IsIn n (m ∷ ms)
        ⊎ ((x : Member) × IsIn x (m ∷ ms) × (n ≡ member x.cell (d ∷ x.served)) × (frame.inside d x.cell ≡ true)))
    go true e (inl q) more = (
      0,
      omega (arith, q),
      (member m.cell (d ∷ m.served), inl refl, inl refl),
      λ x h. ⊎_elim (λ q. inr (m, inl refl, q, e)) (λ h. inl (inr h)) h,
    )
    go true e (inr j) more = later (more j)
    go false e j more = later (more j)

  pub count_push : (c : ℕ) (ms : List Member) (n : Member)
      → count_in c (ms ++ n ∷ []) ≡ cond (nat_eq n.cell c) (suc (count_in c ms)) (count_in c ms)
  count_push c [] n = refl
  count_push c (m ∷ ms) n = go (nat_eq m.cell c) (nat_eq n.cell c) (count_push c ms n) where
    go : (a b : Bool) → count_in c (ms ++ n ∷ []) ≡ cond b (suc (count_in c ms)) (count_in c ms)
        → cond a (suc (count_in c (ms ++ n ∷ []))) (count_in c (ms ++ n ∷ []))
        ≡ cond b (suc (cond a (suc (count_in c ms)) (count_in c ms))) (cond a (suc (count_in c ms)) (count_in c ms))
    go true true e = ap suc e
    go true false e = ap suc e
    go false true e = e
    go false false e = e

  in_end : {A : Type 0} (x : A) (xs ys : List A) → IsIn x xs → IsIn x (xs ++ ys)
  in_end x [] ys i = absurd i
  in_end x (y ∷ xs) ys (inl e) = inl e
  in_end x (y ∷ xs) ys (inr i) = inr (in_end x xs ys i)

  in_last : {A : Type 0} (x : A) (xs : List A) → IsIn x (xs ++ x ∷ [])
  in_last x [] = inl refl
  in_last x (y ∷ xs) = inr (in_last x xs)

  range_below : (a n j : ℕ) → IsIn j (range_with_len a n) → j < a + n
  range_below a zero j i = absurd i
  range_below a (suc n) j (inl e) = omega (arith, e)
  range_below a (suc n) j (inr i) = omega (arith, range_below (a + 1) n j i)

  served_on : (d : Signed) (left : List Signed) (p q : Plan) → IsKept (d ∷ left) p
      → IsServedBy d q → ((e : Signed) → IsServedBy e p → IsServedBy e q)
      → (e : Signed) → IsIn e frame.demands → IsServedBy e q ⊎ IsIn e left
  served_on d left p q k s more e i = ⊎_elim (λ h. inl (more e h))
      (λ h. ⊎_elim (λ z. inl (subst (λ u. IsServedBy u q) (sym z) s)) (λ j. inr j) h) (k.served e i)

  -- an option keeps what a plan has
  pub option_kept : (d : Signed) (left : List Signed) (p q : Plan) → IsKept (d ∷ left) p → IsIn q (options frame d p)
      → IsKept left q
  option_kept d left p q k i =
      ⊎_elim
      (λ a. ⊎_elim
      (λ h. let (n, j, e) =
      from_map (λ n. plan (serve_head d p.heads n) p.members) q (range_with_len 0 (length p.heads)) h in
      subst (IsKept left) (sym e) (by_head n (let l = range_below 0 (length p.heads) n j in omega (arith, l))))
      (λ m. let (n, j, e) =
      from_map (λ n. plan p.heads (serve_member d p.members n)) q (servers frame d 0 p.members) m in
      subst (IsKept left) (sym e) (by_member n j))
      (from_append q (map (λ n. plan (serve_head d p.heads n) p.members) (range_with_len 0 (length p.heads)))
      (map (λ n. plan p.heads (serve_member d p.members n)) (servers frame d 0 p.members)) a))
      (λ a. let (c, j, e) =
      from_map (λ c. plan p.heads (p.members ++ member c (d ∷ []) ∷ [])) q
      (filter (λ c. frame.inside d c && has_room frame p.members c) frame.cells) a in
      let (x, y) = from_filter (λ c. frame.inside d c && has_room frame p.members c) c frame.cells j in
      let (u, v) = and_parts (frame.inside d c) (has_room frame p.members c) y in
      subst (IsKept left) (sym e) (by_new c x u v))
      (from_append q (map (λ n. plan (serve_head d p.heads n) p.members) (range_with_len 0 (length p.heads))
      ++ map (λ n. plan p.heads (serve_member d p.members n)) (servers frame d 0 p.members))
      (map (λ c. plan p.heads (p.members ++ member c (d ∷ []) ∷ []))
      (filter (λ c. frame.inside d c && has_room frame p.members c) frame.cells)) i)
    where
      by_head : (n : ℕ) → n < length p.heads → IsKept left (plan (serve_head d p.heads n) p.members)
      by_head n l = record {
        heads_long = length-serve_head d p.heads n ∙ k.heads_long;
        cells = k.cells;
        inside = k.inside;
        capped = k.capped;
        served = served_on d left p (plan (serve_head d p.heads n) p.members) k (inl (n, now d p.heads n l))
            (λ e h. ⊎_elim (λ (m, j). inl (m, still e d p.heads n m j)) (λ j. inr j) h);
      }

      by_member : (n : ℕ) → IsIn n (servers frame d 0 p.members)
          → IsKept left (plan p.heads (serve_member d p.members n))
      by_member n j =
          let (x, e, (m, a, b), f) = server_at d 0 n p.members j in
          let q : x ≡ n = omega (arith, e) in
          subst (λ z. IsKept left (plan p.heads (serve_member d p.members z))) q
          (record {
            heads_long = k.heads_long;
            cells = λ y h. ⊎_elim (λ g. k.cells y g)
                (λ (z, u, v, w). subst (λ t. IsIn t.cell frame.cells) (sym v) (k.cells z u)) (f y h);
            inside = λ y c h g. ⊎_elim (λ u. k.inside y c u g)
                (λ (z, u, v, w). let g' : IsIn c (d ∷ z.served) = subst (λ t. IsIn c t.served) v g in
                subst (λ t. frame.inside c t.cell ≡ true) (sym v)
                (⊎_elim (λ r. subst (λ t. frame.inside t z.cell ≡ true) (sym r) w) (λ r. k.inside z c u r) g'))
                (f y h);
            capped = λ c y h. subst (λ t. t ≤ y) (sym (count_serve c d p.members x)) (k.capped c y h);
            served = served_on d left p (plan p.heads (serve_member d p.members x)) k (inr (m, a, b))
                (λ c h. ⊎_elim (λ u. inl u) (λ (z, u, v). inr (member_stays z c d p.members x u v)) h);
          })

      by_new : (c : ℕ) → IsIn c frame.cells → frame.inside d c ≡ true → has_room frame p.members c ≡ true
          → IsKept left (plan p.heads (p.members ++ member c (d ∷ []) ∷ []))
      by_new c x u v = record {
        heads_long = k.heads_long;
        cells = λ m h. ⊎_elim (λ j. k.cells m j)
            (λ j. ⊎_elim (λ e. subst (λ t. IsIn t.cell frame.cells) (sym e) x) (λ z. absurd z) j)
            (from_append m p.members (member c (d ∷ []) ∷ []) h);
        inside = λ m e h g. ⊎_elim (λ j. k.inside m e j g)
            (λ j. ⊎_elim (λ r. let g' : IsIn e (d ∷ []) = subst (λ t. IsIn e t.served) r g in
            subst (λ t. frame.inside e t.cell ≡ true) (sym r)
            (⊎_elim (λ z. subst (λ t. frame.inside t c ≡ true) (sym z) u) (λ z. absurd z) g')) (λ z. absurd z) j)
            (from_append m p.members (member c (d ∷ []) ∷ []) h);
        capped = λ a b e. subst (λ t. t ≤ b) (sym (count_push a p.members (member c (d ∷ []))))
            (at a b e (nat_eq c a) refl);
        served = served_on d left p (plan p.heads (p.members ++ member c (d ∷ []) ∷ [])) k
            (inr (member c (d ∷ []), in_last (member c (d ∷ [])) p.members, inl refl))
            (λ e h. ⊎_elim (λ z. inl z) (λ (m, i, j). inr (m, in_end m p.members (member c (d ∷ []) ∷ []) i, j)) h);
      } where
        at : (a b : ℕ) → frame.cap a ≡ Some b → (t : Bool) → nat_eq c a ≡ t
            → cond t (suc (count_in a p.members)) (count_in a p.members) ≤ b
        at a b e false h = k.capped a b e
        at a b e true h =
            let f : frame.cap c ≡ Some b = ap frame.cap (eqb-true c a h) ∙ e in
            let g : not (is_at_end (count_in c p.members) (Some b)) ≡ true =
            subst (λ o. not (is_at_end (count_in c p.members) o) ≡ true) f v in
            let r = subst (λ z. count_in z p.members < b) (eqb-true c a h)
            (leb-false b (count_in c p.members) (not-true (nat_le b (count_in c p.members)) g)) in
            omega (arith, r)

  -- complete plans

  -- a plan that serves all demands, within bounds and without a clash
  pub record IsComplete (q : Plan) : Type 0 where
    pub kept : IsKept [] q
    pub under : is_at_end (size frame q) frame.below ≡ false
    pub clear : first_clash T frame q ≡ None

  from_complete : (q : Plan) (xs ys : List PlanStep) → IsIn q (complete (xs ++ ys))
      → IsIn q (complete xs) ⊎ IsIn q (complete ys)
  from_complete q [] ys i = inr i
  from_complete q (Complete p ∷ xs) ys (inl e) = inl (inl e)
  from_complete q (Complete p ∷ xs) ys (inr i) = ⊎_elim (λ j. inl (inr j)) (λ j. inr j) (from_complete q xs ys i)
  from_complete q (Over ∷ xs) ys i = from_complete q xs ys i
  from_complete q (Clashing n ∷ xs) ys i = from_complete q xs ys i
  from_complete q (Split n ∷ xs) ys i = from_complete q xs ys i

  pub from_complete_of : (f : Plan → List PlanStep) (q : Plan) (ps : List Plan) → IsIn q (complete (flat_map f ps))
      → (p : Plan) × IsIn p ps × IsIn q (complete (f p))
  from_complete_of f q [] i = absurd i
  from_complete_of f q (p ∷ ps) i = ⊎_elim (λ j. (p, inl refl, j))
      (λ j. let (r, a, b) = from_complete_of f q ps j in (r, inr a, b)) (from_complete q (f p) (flat_map f ps) i)

  pub unless : (p q : Plan) (ss : List PlanStep) → IsIn q (complete (unless_dropped T frame p ss))
      → (is_at_end (size frame p) frame.below ≡ false) × (first_clash T frame p ≡ None) × IsIn q (complete ss)
  unless p q ss i = go (is_at_end (size frame p) frame.below) (first_clash T frame p) refl refl i where
    go : (b : Bool) (o : Option ℕ) → is_at_end (size frame p) frame.below ≡ b → first_clash T frame p ≡ o
        → IsIn q (complete (cond b (Over ∷ []) (by_clash o ss)))
        → (is_at_end (size frame p) frame.below ≡ false) × (first_clash T frame p ≡ None) × IsIn q (complete ss)
    go true o e f i = absurd i
    go false (Some n) e f i = absurd i
    go false None e f i = (e, f, i)

  pub complete_is : (left : List Signed) (p q : Plan) → IsKept left p → IsIn q (complete (steps T frame left p))
      → IsComplete q
  complete_is [] p q k i =
      let (a, b, j) = unless p q (Complete p ∷ []) i in
      ⊎_elim (λ e. subst IsComplete (sym e) (record { kept = k; under = a; clear = b })) (λ z. absurd z) j
  complete_is (d ∷ left) p q k i =
      let (a, b, j) =
      unless p q (Split (length (options frame d p)) ∷ flat_map (steps T frame left) (options frame d p)) i in
      let (r, x, y) = from_complete_of (steps T frame left) q (options frame d p) j in
      complete_is left r q (option_kept d left p r k x) y

  pub empty_kept : IsKept frame.demands (empty_plan frame)
  empty_kept = record {
    heads_long = length-replicate frame.heads [];
    cells = λ m i. absurd i;
    inside = λ m d i. absurd i;
    capped = λ c b e. omega arith;
    served = λ d i. inr i;
  }
