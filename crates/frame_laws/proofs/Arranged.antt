-- What is at which place of an array or an object follows one of the frame's complete plans.
use Rattle.std.proofs.Common.{◌≡◌, ℕ, zero, suc, ◌+◌, ◌-◌, ◌<◌, ◌≤◌, ◌⊎◌, inl, inr, ⊎_elim, Bool, true, false, ◌&&◌, cond, not, List, [], ◌∷◌, ◌++◌, map, filter, flat_map, length, take, nat_eq, Option, Some, None, refl, ap, sym, ◌∙◌, subst, arith, suc-ne-zero, add-zero, zero-add}
use Rattle.std.proofs.lemmas.Bool.{and_from, cases_lt, lt-leb, eqb-true}
use Rattle.std.specs.Option.{is_none}
use Rattle.std.specs.List.{range_with_len}
use Rattle.documents.specs.Tests.{every}
use Rattle.positions.specs.Position.{Position}
use Rattle.goals.specs.Signed.{Signed}
use Rattle.goals.specs.Goal.{form}
use Rattle.frames.specs.Frame.{Place, Head, In, Frame, list_at, is_at_end}
use Rattle.frames.specs.Plan.{Member, Plan, plan, member, serve_head, serve_member, count_in, has_room, servers, options, one_more, used, with_members, size, heads_from, placed, clash_from, PlanStep, Over, Clashing, Split, Complete, unless_dropped, steps, complete}
use Rattle.list_laws.specs.In.{IsIn, Distinct}
use Rattle.list_laws.proofs.Lists.{every_at, every_from, in_left, in_right, from_append, from_flat_map, in_map, in_filter}
use Rattle.list_laws.proofs.Pigeons.{dec_in, pigeon}
use Rattle.list_laws.proofs.Numbers.{suc_add-add_suc}
use Rattle.std.proofs.Math.Numerals.{suc-eq-add-one}
use Rattle.frame_laws.proofs.Lengths.{length-serve_head}
use Rattle.frame_laws.proofs.Ends.{at_end_down}

-- the elements or members of a document by number: where each is, and what it meets
pub record Arrangement : Type 0 where
  pub count : ℕ
  pub at : ℕ → Place
  pub met : ℕ → Signed → Bool

abbrev pub Meets : Arrangement → ℕ → List Signed → Type 0
Meets A j l = every (A.met j) l ≡ true

abbrev pub IsInside : Frame → Signed → Place → Type 0
IsInside frame d (Head i) = Unit {0}
IsInside frame d (In c) = frame.inside d c ≡ true

-- what is at which place fits the frame: the count, first places, cells, and what serves demands
pub record IsArranged (T : List Position) (frame : Frame) (A : Arrangement) : Type 0 where
  pub low : frame.lower ≤ A.count
  pub floor : frame.floor ≤ A.count
  pub high : is_at_end A.count frame.below ≡ false
  pub heads : (j : ℕ) → j < A.count → j < frame.heads → A.at j ≡ Head j
  pub rest : (j : ℕ) → j < A.count → frame.heads ≤ j → (c : ℕ) × (A.at j ≡ In c) × IsIn c frame.cells
  pub each : (j : ℕ) → j < A.count → Meets A j (flat_map (frame.each (A.at j)) frame.set)
  pub served : (d : Signed) → IsIn d frame.demands → (j : ℕ) × (j < A.count) × IsInside frame d (A.at j)
      × Meets A j (frame.serving (A.at j) d)
  pub capped : (c b : ℕ) → frame.cap c ≡ Some b → (js : List ℕ) → Distinct js
      → ((j : ℕ) → IsIn j js → (j < A.count) × (A.at j ≡ In c)) → length js ≤ b
  pub formed : (j : ℕ) (l : List Signed) → j < A.count → Meets A j l → is_none (form T l) ≡ false

abbrev pub at_list : List (List Signed) → ℕ → List Signed
at_list [] k = []
at_list (x ∷ xs) zero = x
at_list (x ∷ xs) (suc k) = at_list xs k

module _ (T : List Position) (frame : Frame) (A : Arrangement) where
  -- the one that a member stands for
  pub record Stands (m : Member) (y : ℕ) : Type 0 where
    pub below : y < A.count
    pub past : frame.heads ≤ y
    pub at : A.at y ≡ In m.cell
    pub serves : (d : Signed) → IsIn d m.served → Meets A y (frame.serving (In m.cell) d)

  abbrev pub Stand : List Member → List ℕ → Type 0
  Stand [] [] = Unit {0}
  Stand (m ∷ ms) (y ∷ ys) = Stands m y × Stand ms ys
  Stand _ _ = ⊥

  pub record Fits (p : Plan) : Type 0 where
    pub heads_long : length p.heads ≡ frame.heads
    pub heads_fit : (k : ℕ) (d : Signed) → IsIn d (at_list p.heads k)
        → (k < A.count) × Meets A k (frame.serving (Head k) d)
    pub who : List ℕ
    pub stand : Stand p.members who
    pub distinct : Distinct who

  -- heads

  from_serve : (e d : Signed) (xs : List (List Signed)) (k m : ℕ) → IsIn e (at_list (serve_head d xs k) m)
      → ((e ≡ d) × (m ≡ k)) ⊎ IsIn e (at_list xs m)
  from_serve e d [] k m i = absurd i
  from_serve e d (x ∷ xs) zero zero (inl q) = inl (q, refl)
  from_serve e d (x ∷ xs) zero zero (inr i) = inr i
  from_serve e d (x ∷ xs) zero (suc m) i = inr i
  from_serve e d (x ∷ xs) (suc k) zero i = inr i
  from_serve e d (x ∷ xs) (suc k) (suc m) i =
      ⊎_elim (λ (a, b). inl (a, ap suc b)) (λ j. inr j) (from_serve e d xs k m i)

  used_le : (n c : ℕ) (xs : List (List Signed)) → ((k : ℕ) (d : Signed) → IsIn d (at_list xs k) → c + k < n)
      → (used xs ≡ 0) ⊎ (c + used xs ≤ n)
  used_le n c [] h = inl refl
  used_le n c ([] ∷ xs) h = go (used xs) (used_le n (suc c) xs (λ k d i. omega (arith, h (suc k) d i))) where
    go : (u : ℕ) → (u ≡ 0) ⊎ (suc c + u ≤ n) → (one_more [] u ≡ 0) ⊎ (c + one_more [] u ≤ n)
    go zero more = inl refl
    go (suc u) (inl z) = absurd (suc-ne-zero u z)
    go (suc u) (inr l) = inr (omega (arith, l))
  used_le n c ((d ∷ x) ∷ xs) h =
      inr (⊎_elim (λ z. omega (arith, z, h 0 d (inl refl))) (λ l. omega (arith, l))
      (used_le n (suc c) xs (λ k e i. omega (arith, h (suc k) e i))))

  -- members

  pub stand_length : (ms : List Member) (ys : List ℕ) → Stand ms ys → length ms ≡ length ys
  stand_length [] [] s = refl
  stand_length (m ∷ ms) (y ∷ ys) s = ap suc (stand_length ms ys s.1)
  stand_length [] (y ∷ ys) s = absurd s
  stand_length (m ∷ ms) [] s = absurd s

  pub stand_in : (ms : List Member) (ys : List ℕ) → Stand ms ys → (y : ℕ) → IsIn y ys
      → (m : Member) × IsIn m ms × Stands m y
  stand_in [] [] s y i = absurd i
  stand_in (m ∷ ms) (x ∷ ys) s y (inl e) = (m, inl refl, subst (λ z. Stands m z) (sym e) s.0)
  stand_in (m ∷ ms) (x ∷ ys) s y (inr i) = let (n, j, t) = stand_in ms ys s.1 y i in (n, inr j, t)
  stand_in [] (y ∷ ys) s z i = absurd s
  stand_in (m ∷ ms) [] s z i = absurd i

  push : (ms : List Member) (ys : List ℕ) (m : Member) (y : ℕ) → Stand ms ys → Stands m y
      → Stand (ms ++ m ∷ []) (ys ++ y ∷ [])
  push [] [] m y s t = (t, tt)
  push (x ∷ ms) (z ∷ ys) m y s t = (s.0, push ms ys m y s.1 t)
  push [] (z ∷ ys) m y s t = absurd s
  push (x ∷ ms) [] m y s t = absurd s

  distinct_push : (xs : List ℕ) (j : ℕ) → Distinct xs → (IsIn j xs → ⊥) → Distinct (xs ++ j ∷ [])
  distinct_push [] j d h = ((λ i. i), tt)
  distinct_push (x ∷ xs) j d h = (
    (λ i. ⊎_elim d.0 (λ k. ⊎_elim (λ e. h (inl (sym e))) (λ z. z) k) (from_append x xs (j ∷ []) i)),
    distinct_push xs j d.1 (λ i. h (inr i)),
  )

  -- those that stand for members of a cell
  abbrev pub chosen : ℕ → List Member → List ℕ → List ℕ
  chosen c [] ys = []
  chosen c (m ∷ ms) [] = []
  chosen c (m ∷ ms) (y ∷ ys) = cond (nat_eq m.cell c) (y ∷ chosen c ms ys) (chosen c ms ys)

  pub chosen_count : (c : ℕ) (ms : List Member) (ys : List ℕ) → Stand ms ys → length (chosen c ms ys) ≡ count_in c ms
  chosen_count c [] [] s = refl
  chosen_count c (m ∷ ms) (y ∷ ys) s = go (nat_eq m.cell c) (chosen_count c ms ys s.1) where
    go : (b : Bool) → length (chosen c ms ys) ≡ count_in c ms
        → length (cond b (y ∷ chosen c ms ys) (chosen c ms ys)) ≡ cond b (suc (count_in c ms)) (count_in c ms)
    go true h = ap suc h
    go false h = h
  chosen_count c [] (y ∷ ys) s = absurd s
  chosen_count c (m ∷ ms) [] s = absurd s

  pub chosen_in : (c : ℕ) (ms : List Member) (ys : List ℕ) → Stand ms ys → (y : ℕ) → IsIn y (chosen c ms ys)
      → IsIn y ys × (y < A.count) × (A.at y ≡ In c)
  chosen_in c [] [] s y i = absurd i
  chosen_in c (m ∷ ms) (x ∷ ys) s y i = go (nat_eq m.cell c) refl i (chosen_in c ms ys s.1 y) where
    go : (b : Bool) → nat_eq m.cell c ≡ b → IsIn y (cond b (x ∷ chosen c ms ys) (chosen c ms ys))
        → (IsIn y (chosen c ms ys) → IsIn y ys × (y < A.count) × (A.at y ≡ In c))
        → IsIn y (x ∷ ys) × (y < A.count) × (A.at y ≡ In c)
    go true e (inl q) more = (
      inl q,
      subst (λ z. z < A.count) (sym q) s.0.below,
      ap A.at q ∙ s.0.at ∙ ap In (eqb-true m.cell c e),
    )
    go true e (inr j) more = let (a, b, d) = more j in (inr a, b, d)
    go false e j more = let (a, b, d) = more j in (inr a, b, d)
  chosen_in c [] (x ∷ ys) s y i = absurd s
  chosen_in c (m ∷ ms) [] s y i = absurd s

  pub chosen_distinct : (c : ℕ) (ms : List Member) (ys : List ℕ) → Stand ms ys → Distinct ys
      → Distinct (chosen c ms ys)
  chosen_distinct c [] [] s d = tt
  chosen_distinct c (m ∷ ms) (y ∷ ys) s d = go (nat_eq m.cell c) (chosen_distinct c ms ys s.1 d.1) where
    go : (b : Bool) → Distinct (chosen c ms ys) → Distinct (cond b (y ∷ chosen c ms ys) (chosen c ms ys))
    go true h = ((λ i. d.0 (chosen_in c ms ys s.1 y i).0), h)
    go false h = h
  chosen_distinct c [] (x ∷ ys) s d = absurd s
  chosen_distinct c (m ∷ ms) [] s d = absurd s

  -- a member that is where a demand is served may serve it
  serves_there : (d : Signed) (b j : ℕ) (ms : List Member) (ys : List ℕ) → Stand ms ys → IsIn j ys
      → IsInside frame d (A.at j) → Meets A j (frame.serving (A.at j) d)
      → (i : ℕ) × IsIn (b + i) (servers frame d b ms) × Stand (serve_member d ms i) ys
  serves_there d b j [] [] s i e m = absurd i
  serves_there d b j (x ∷ ms) (y ∷ ys) s (inl q) e m =
      let at : A.at j ≡ In x.cell = ap A.at q ∙ s.0.at in
      let inside : frame.inside d x.cell ≡ true = subst (IsInside frame d) at e in
      (0, first (frame.inside d x.cell) inside, (now at, s.1)) where
        first : (v : Bool) → v ≡ true
            → IsIn (b + 0) (cond v (b ∷ servers frame d (suc b) ms) (servers frame d (suc b) ms))
        first true v = inl (omega arith)
        first false v = cc

        now : A.at j ≡ In x.cell → Stands (member x.cell (d ∷ x.served)) y
        now at = record {
          below = s.0.below;
          past = s.0.past;
          at = s.0.at;
          serves = λ z h. ⊎_elim
              (λ v. subst (λ u. Meets A y (frame.serving (In x.cell) u)) (sym v)
              (subst (λ u. Meets A u (frame.serving (In x.cell) d)) q
              (subst (λ u. Meets A j (frame.serving u d)) at m)))
              (λ v. s.0.serves z v) h;
        }
  serves_there d b j (x ∷ ms) (y ∷ ys) s (inr q) e m =
      let (i, a, t) = serves_there d (suc b) j ms ys s.1 q e m in
      (suc i, later (frame.inside d x.cell) i a, (s.0, t)) where
        later : (v : Bool) (i : ℕ) → IsIn (suc b + i) (servers frame d (suc b) ms)
            → IsIn (b + suc i) (cond v (b ∷ servers frame d (suc b) ms) (servers frame d (suc b) ms))
        later true i a = inr (subst (λ z. IsIn z (servers frame d (suc b) ms)) (suc_add-add_suc b i) a)
        later false i a = subst (λ z. IsIn z (servers frame d (suc b) ms)) (suc_add-add_suc b i) a
  serves_there d b j [] (y ∷ ys) s i e m = absurd s
  serves_there d b j (x ∷ ms) [] s i e m = absurd i

  module _ (k : IsArranged T frame A) where
    members_le : (ms : List Member) (ys : List ℕ) → Stand ms ys → Distinct ys → with_members frame.heads ms ≤ A.count
    members_le [] ys s d = omega arith
    members_le (m ∷ ms) [] s d = absurd s
    members_le (m ∷ ms) (y ∷ ys) s d =
        let n = stand_length (m ∷ ms) (y ∷ ys) s in
        let past : frame.heads ≤ A.count = omega (arith, s.0.past, s.0.below) in
        let few = pigeon frame.heads (A.count - frame.heads) (y ∷ ys) d (λ z i.
        let (n, j, t) = stand_in (m ∷ ms) (y ∷ ys) s z i in
        let a = t.past in let b = t.below in (a, omega (arith, b, past))) in
        omega (arith, few, n, past)

    pub size_le : (p : Plan) → Fits p → size frame p ≤ A.count
    size_le p f =
        let u : used p.heads ≤ A.count = ⊎_elim (λ e. omega (arith, e)) (λ l. omega (arith, l))
        (used_le A.count 0 p.heads (λ k d i. omega (arith, (f.heads_fit k d i).0))) in
        omega (arith, k.floor, u, members_le p.members f.who f.stand f.distinct)

    room : (ms : List Member) (ys : List ℕ) → Stand ms ys → Distinct ys → (c j : ℕ) → j < A.count → A.at j ≡ In c
        → (IsIn j ys → ⊥) → has_room frame ms c ≡ true
    room ms ys s d c j l at new = go (frame.cap c) refl where
      go : (o : Option ℕ) → frame.cap c ≡ o → not (is_at_end (count_in c ms) o) ≡ true
      go None e = refl
      go (Some b) e =
          let h = k.capped c b e (j ∷ chosen c ms ys)
          ((λ i. new (chosen_in c ms ys s j i).0), chosen_distinct c ms ys s d)
          (λ x i. ⊎_elim (λ q. (subst (λ z. z < A.count) (sym q) l, ap A.at q ∙ at))
          (λ i. let (u, v, w) = chosen_in c ms ys s x i in (v, w)) i) in
          ap not (lt-leb b (count_in c ms) (omega (arith, h, chosen_count c ms ys s)))

    in_range : (n j : ℕ) → j < n → IsIn j (range_with_len 0 n)
    in_range n j l = go 0 n j (omega arith) (omega arith) where
      go : (a n j : ℕ) → a ≤ j → j < a + n → IsIn j (range_with_len a n)
      go a zero j x y = absurd (omega arith)
      go a (suc n) j x y = elim (cases_lt a j) [
        | inl l ↦
            inr
            (subst (λ z. IsIn j (range_with_len z n)) (suc-eq-add-one a) (go (suc a) n j (omega arith) (omega arith)))
        | inr l ↦ inl (omega arith)
      ]

    abbrev by_head : Signed → Plan → List Plan
    by_head d p = map (λ k. plan (serve_head d p.heads k) p.members) (range_with_len 0 (length p.heads))

    abbrev by_member : Signed → Plan → List Plan
    by_member d p = map (λ k. plan p.heads (serve_member d p.members k)) (servers frame d 0 p.members)

    abbrev by_new : Signed → Plan → List Plan
    by_new d p = map (λ c. plan p.heads (p.members ++ member c (d ∷ []) ∷ []))
        (filter (λ c. frame.inside d c && has_room frame p.members c) frame.cells)

    -- whichever serves the demand, that is one of the options
    pub option_fits : (p : Plan) → Fits p → (d : Signed) → IsIn d frame.demands
        → (q : Plan) × IsIn q (options frame d p) × Fits q
    option_fits p f d i = let (j, l, e, m) = k.served d i in go j l e m where
      go : (j : ℕ) → j < A.count → IsInside frame d (A.at j) → Meets A j (frame.serving (A.at j) d)
          → (q : Plan) × IsIn q (options frame d p) × Fits q
      go j l e m = elim (cases_lt j frame.heads) [
        | inl h ↦ (
          plan (serve_head d p.heads j) p.members,
          in_left _ (by_head d p ++ by_member d p) (by_new d p)
              (in_left _ (by_head d p) (by_member d p)
              (in_map (λ k. plan (serve_head d p.heads k) p.members) j (range_with_len 0 (length p.heads))
              (in_range (length p.heads) j (omega (arith, h, f.heads_long))))),
          record {
            heads_long = length-serve_head d p.heads j ∙ f.heads_long;
            heads_fit = λ n x i. ⊎_elim
                (λ (a, b). subst (λ z. (z < A.count) × Meets A z (frame.serving (Head z) x)) (sym b) (
                  l,
                  subst (λ z. Meets A j (frame.serving (Head j) z)) (sym a)
                      (subst (λ z. Meets A j (frame.serving z d)) (k.heads j l h) m),
                ))
                (λ i. f.heads_fit n x i) (from_serve x d p.heads j n i);
            who = f.who;
            stand = f.stand;
            distinct = f.distinct;
          },
        )
        | inr h ↦ elim (dec_in j f.who) [
          | inl i ↦
              let (x, a, t) = serves_there d 0 j p.members f.who f.stand i e m in
              let z : 0 + x ≡ x = omega arith in (
                plan p.heads (serve_member d p.members x),
                in_left _ (by_head d p ++ by_member d p) (by_new d p)
                    (in_right _ (by_head d p) (by_member d p)
                    (in_map (λ k. plan p.heads (serve_member d p.members k)) x (servers frame d 0 p.members)
                    (subst (λ y. IsIn y (servers frame d 0 p.members)) z a))),
                record {
                  heads_long = f.heads_long;
                  heads_fit = f.heads_fit;
                  who = f.who;
                  stand = t;
                  distinct =
                      f.distinct;
                },
              )
          | inr new ↦
              let (c, at, ic) = k.rest j l h in
              let inside : frame.inside d c ≡ true = subst (IsInside frame d) at e in
              let free = room p.members f.who f.stand f.distinct c j l at new in (
                plan p.heads (p.members ++ member c (d ∷ []) ∷ []),
                (in_right _ (by_head d p ++ by_member d p) (by_new d p)
                    (in_map (λ c. plan p.heads (p.members ++ member c (d ∷ []) ∷ [])) c
                    (filter (λ c. frame.inside d c && has_room frame p.members c) frame.cells)
                    (in_filter (λ c. frame.inside d c && has_room frame p.members c) c frame.cells ic
                    (and_from _ _ inside free)))),
                record {
                  heads_long = f.heads_long;
                  heads_fit = f.heads_fit;
                  who = f.who ++ j ∷ [];
                  stand = push p.members f.who (member c (d ∷ [])) j f.stand (record {
                    below = l;
                    past = h;
                    at = at;
                    serves = λ z i. ⊎_elim (λ v. subst (λ u. Meets A j (frame.serving (In c) u)) (sym v)
                        (subst (λ u. Meets A j (frame.serving u d)) at m)) (λ v. absurd v) i;
                  });
                  distinct = distinct_push f.who j f.distinct new;
                },
              )
        ]
      ]

    -- what is at a place meets the list of that place
    abbrev Is : Place × List Signed → Type 0
    Is s = (j : ℕ) × (j < A.count) × (A.at j ≡ s.0) × Meets A j (list_at frame s.0 s.1)

    pub list_met : (j : ℕ) (at : Place) (ds : List Signed) → j < A.count → A.at j ≡ at
        → ((d : Signed) → IsIn d ds → Meets A j (frame.serving at d)) → Meets A j (list_at frame at ds)
    list_met j at ds l e h =
        every_from (A.met j) (list_at frame at ds) (λ y i.
        ⊎_elim (λ a. every_at (A.met j) y (flat_map (frame.each at) frame.set)
        (subst (λ z. Meets A j (flat_map (frame.each z) frame.set)) e (k.each j l)) a)
        (λ a. let (d, b, c) = from_flat_map (frame.serving at) y ds a in
        every_at (A.met j) y (frame.serving at d) (h d b) c)
        (from_append y (flat_map (frame.each at) frame.set) (flat_map (frame.serving at) ds) i))

    heads_met : (n a : ℕ) (xs : List (List Signed)) → a + length xs ≡ frame.heads → a + n ≤ A.count
        → ((i : ℕ) (d : Signed) → IsIn d (at_list xs i) → Meets A (a + i) (frame.serving (Head (a + i)) d))
        → (s : Place × List Signed) → IsIn s (take n (heads_from a xs)) → Is s
    heads_met zero a xs e l h s i = absurd i
    heads_met (suc n) a [] e l h s i = absurd i
    heads_met (suc n) a (x ∷ xs) e l h s (inl q) =
        let at = k.heads a (omega (arith, l)) (omega (arith, e)) in
        subst Is (sym q) (
          a,
          omega (arith, l),
          at,
          list_met a (Head a) x (omega (arith, l)) at
              (λ d i. subst (λ z. Meets A z (frame.serving (Head z) d)) (add-zero a) (h 0 d i)),
        )
    heads_met (suc n) a (x ∷ xs) e l h s (inr i) =
        heads_met n (suc a) xs (omega (arith, e)) (omega (arith, l))
        (λ i d j. subst (λ z. Meets A z (frame.serving (Head z) d)) (sym (suc_add-add_suc a i)) (h (suc i) d j)) s i

    members_met : (ms : List Member) (ys : List ℕ) → Stand ms ys → (s : Place × List Signed)
        → IsIn s (map (λ m. (In m.cell, m.served)) ms) → Is s
    members_met [] ys st s i = absurd i
    members_met (m ∷ ms) [] st s i = absurd st
    members_met (m ∷ ms) (y ∷ ys) st s (inl q) =
        subst Is (sym q) (y, st.0.below, st.0.at, list_met y (In m.cell) m.served st.0.below st.0.at st.0.serves)
    members_met (m ∷ ms) (y ∷ ys) st s (inr i) = members_met ms ys st.1 s i

    pub placed_met : (p : Plan) (f : Fits p) (s : Place × List Signed) → IsIn s (placed frame p) → Is s
    placed_met p f s i =
        ⊎_elim
        (λ a. heads_met (size frame p) 0 p.heads (omega (arith, f.heads_long)) (omega (arith, size_le p f))
        (λ i d j. subst (λ z. Meets A z (frame.serving (Head z) d)) (sym (zero-add i)) (f.heads_fit i d j).1) s a)
        (λ a. members_met p.members f.who f.stand s a)
        (from_append s (take (size frame p) (heads_from 0 p.heads)) (map (λ m. (In m.cell, m.served)) p.members) i)

    no_clash : (n : ℕ) (ss : List (Place × List Signed)) → ((s : Place × List Signed) → IsIn s ss → Is s)
        → clash_from T frame n ss ≡ None
    no_clash n [] h = refl
    no_clash n (s ∷ ss) h =
        let (j, l, at, m) = h s (inl refl) in
        rw (k.formed j (list_at frame s.0 s.1) l m) (no_clash (suc n) ss (λ t i. h t (inr i)))

    pub not_dropped : (p : Plan) → Fits p → (ss : List PlanStep) → unless_dropped T frame p ss ≡ ss
    not_dropped p f ss =
        rw (at_end_down (size frame p) A.count frame.below (size_le p f) k.high)
        (rw (no_clash 0 (placed frame p) (placed_met p f)) refl)

    in_complete : (p : Plan) (xs ys : List PlanStep) → IsIn p (complete xs) ⊎ IsIn p (complete ys)
        → IsIn p (complete (xs ++ ys))
    in_complete p [] ys (inl i) = absurd i
    in_complete p [] ys (inr i) = i
    in_complete p (Complete q ∷ xs) ys (inl (inl e)) = inl e
    in_complete p (Complete q ∷ xs) ys (inl (inr i)) = inr (in_complete p xs ys (inl i))
    in_complete p (Complete q ∷ xs) ys (inr i) = inr (in_complete p xs ys (inr i))
    in_complete p (Over ∷ xs) ys i = in_complete p xs ys i
    in_complete p (Clashing n ∷ xs) ys i = in_complete p xs ys i
    in_complete p (Split n ∷ xs) ys i = in_complete p xs ys i

    in_complete_of : (f : Plan → List PlanStep) (p q : Plan) (qs : List Plan) → IsIn q qs → IsIn p (complete (f q))
        → IsIn p (complete (flat_map f qs))
    in_complete_of f p q [] i h = absurd i
    in_complete_of f p q (x ∷ qs) (inl e) h =
        in_complete p (f x) (flat_map f qs) (inl (subst (λ z. IsIn p (complete (f z))) e h))
    in_complete_of f p q (x ∷ qs) (inr i) h = in_complete p (f x) (flat_map f qs) (inr (in_complete_of f p q qs i h))

    -- what is arranged follows a complete plan of the tree
    pub complete_fits : (left : List Signed) (p : Plan) → ((d : Signed) → IsIn d left → IsIn d frame.demands) → Fits p
        → (q : Plan) × IsIn q (complete (steps T frame left p)) × Fits q
    complete_fits [] p w f = (p, rw (not_dropped p f (Complete p ∷ [])) (inl refl), f)
    complete_fits (d ∷ left) p w f =
        let (q, i, g) = option_fits p f d (w d (inl refl)) in
        let (r, j, h) = complete_fits left q (λ e n. w e (inr n)) g in (
          r,
          rw (not_dropped p f
              (Split (length (options frame d p)) ∷ flat_map (steps T frame left) (options frame d p)))
              (in_complete_of (steps T frame left) r q (options frame d p) i j),
          h,
        )
