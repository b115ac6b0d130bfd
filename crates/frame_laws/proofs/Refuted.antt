-- Lines that show a plan dead leave no room for what is arranged by it.
use Rattle.std.proofs.Common.{◌≡◌, ℕ, suc, ◌+◌, ◌-◌, ◌<◌, ◌≤◌, inl, inr, Bool, true, false, cond, List, [], ◌∷◌, length, nat_eq, Option, Some, None, Ok, slice_get, refl, ap, sym, ◌∙◌, subst, arith}
use Rattle.std.proofs.lemmas.Bool.{ltb-true, eqb-true}
use Rattle.positions.specs.Position.{Position}
use Rattle.goals.specs.Signed.{Signed}
use Rattle.frames.specs.Frame.{Place, Head, In, Frame, list_at, is_at_end}
use Rattle.frames.specs.Plan.{Member, Plan, count_in, options, size, placed, need}
use Rattle.frames.specs.PlanLines.{Ending, Entry, Kept, Ends, PlanLine, Count, Split, At, Short, is_refuted, plus, room_of, rooms, is_short, is_refuted_at, where_true, after}
use Rattle.list_laws.specs.In.{IsIn, Distinct}
use Rattle.list_laws.proofs.Counts.{sum_over, up_from, subset_length, with_key, from_with_key, Distinct-with_key, keyed, all_keyed, from_up_from, Distinct-up_from, length-up_from}
use Rattle.frame_laws.proofs.Arranged.{Arrangement, Meets, IsArranged, Stand, Fits, chosen, chosen_count, size_le, option_fits, placed_met, list_met}
use Rattle.list_laws.proofs.Lists.{slice_get-in}
use Rattle.frame_laws.proofs.Ends.{at_end_up}

module _ (T : List Position) (frame : Frame) (A : Arrangement) (k : IsArranged T frame A)
    (cite : ℕ → List Signed → Bool)
    (once : Distinct frame.cells)
    (safe : (j : ℕ) (l : List Signed) (e : Ending) → j < A.count → Meets A j l → is_refuted T cite l e ≡ false) where
  abbrev cell_of : Place → ℕ
  cell_of (Head i) = 0
  cell_of (In c) = c

  abbrev Key : ℕ → ℕ
  Key j = cell_of (A.at j)

  -- those past the first places
  abbrev others : List ℕ
  others = up_from frame.heads (A.count - frame.heads)

  other_at : (j : ℕ) → IsIn j others → (j < A.count) × (frame.heads ≤ j)
  other_at j i = let (a, b) = from_up_from frame.heads (A.count - frame.heads) j i in (omega (arith, a, b), a)

  in_cell : (j : ℕ) → IsIn j others → (A.at j ≡ In (Key j)) × IsIn (Key j) frame.cells
  in_cell j i =
      let (l, h) = other_at j i in
      let (c, at, ic) = k.rest j l h in
      (at ∙ ap In (sym (ap cell_of at)), subst (λ z. IsIn z frame.cells) (sym (ap cell_of at)) ic)

  with_cell : (c j : ℕ) → IsIn j (with_key Key c others) → (j < A.count) × (A.at j ≡ In c)
  with_cell c j i =
      let (a, e) = from_with_key Key c j others i in
      ((other_at j a).0, (in_cell j a).0 ∙ ap In e)

  -- of the rooms that lines keep
  rooms_bound : (ms : List Member) (ys : List ℕ) → Stand T frame A ms ys → Distinct ys
      → (cs : List ℕ) (es : List Entry) (n : ℕ)
      → rooms T cite frame ms cs es ≡ Some n → keyed Key cs others ≤ n + sum_over (λ c. count_in c ms) cs
  rooms_bound ms ys s d [] [] n e = omega arith
  rooms_bound ms ys s d (c ∷ cs) (Kept ∷ es) n e =
      go (frame.cap c) refl (rooms T cite frame ms cs es) refl e (λ m q. rooms_bound ms ys s d cs es m q) where
        go : (o : Option ℕ) → frame.cap c ≡ o → (r : Option ℕ) → rooms T cite frame ms cs es ≡ r
            → plus (room_of (count_in c ms) o) r ≡ Some n
            → ((m : ℕ) → rooms T cite frame ms cs es ≡ Some m
            → keyed Key cs others ≤ m + sum_over (λ c. count_in c ms) cs)
            → length (with_key Key c others) + keyed Key cs
            others ≤ n + (count_in c ms + sum_over (λ c. count_in c ms) cs)
        go None p r q e more = cc
        go (Some b) p None q e more = cc
        go (Some b) p (Some m) q e more =
            let h = k.capped c b p (with_key Key c others)
            (Distinct-with_key Key c others (Distinct-up_from frame.heads (A.count - frame.heads))) (with_cell c) in
            let f : (b - count_in c ms) + m ≡ n = cc in
            omega (arith, h, f, more m q)
  rooms_bound ms ys s d (c ∷ cs) (Ends x ∷ es) n e =
      go (is_refuted T cite (list_at frame (In c) []) x) refl e (λ q. rooms_bound ms ys s d cs es n q) where
        taken : is_refuted T cite (list_at frame (In c) []) x ≡ true → (j : ℕ) → IsIn j (with_key Key c others)
            → IsIn j (chosen T frame A c ms ys)
        taken r j i =
            let (l, at) = with_cell c j i in
            let f : true ≡ false =
            sym r ∙ safe j (list_at frame (In c) []) x l (list_met T frame A k j (In c) [] l at (λ z v. absurd v))
            in
            cc

        go : (b : Bool) → is_refuted T cite (list_at frame (In c) []) x ≡ b
            → cond b (rooms T cite frame ms cs es) None ≡ Some n
            → (rooms T cite frame ms cs es ≡ Some n → keyed Key cs others ≤ n + sum_over (λ c. count_in c ms) cs)
            → length (with_key Key c others) + keyed Key cs
            others ≤ n + (count_in c ms + sum_over (λ c. count_in c ms) cs)
        go false p e more = cc
        go true p e more =
            let h = subset_length (with_key Key c others) (chosen T frame A c ms ys)
            (Distinct-with_key Key c others (Distinct-up_from frame.heads (A.count - frame.heads))) (taken p) in
            omega (arith, h, chosen_count T frame A c ms ys s, more e)
  rooms_bound ms ys s d [] (x ∷ es) n e = cc
  rooms_bound ms ys s d (c ∷ cs) [] n e = cc

  -- members are counted once, under their cells
  count_more : (m : Member) (ms : List Member) (cs : List ℕ) → Distinct cs
      → sum_over (λ c. count_in c (m ∷ ms)) cs ≤ suc (sum_over (λ c. count_in c ms) cs)
  count_more m ms [] d = omega arith
  count_more m ms (c ∷ cs) d = go (nat_eq m.cell c) refl (count_more m ms cs d.1) where
    same : (cs : List ℕ) → (IsIn m.cell cs → ⊥)
        → sum_over (λ c. count_in c (m ∷ ms)) cs ≡ sum_over (λ c. count_in c ms) cs
    same [] h = refl
    same (x ∷ cs) h = at (nat_eq m.cell x) refl (same cs (λ i. h (inr i))) where
      at : (b : Bool) → nat_eq m.cell x ≡ b
          → sum_over (λ c. count_in c (m ∷ ms)) cs ≡ sum_over (λ c. count_in c ms) cs
          → cond b (suc (count_in x ms)) (count_in x ms) + sum_over (λ c. count_in c (m ∷ ms)) cs ≡ count_in x
          ms + sum_over (λ c. count_in c ms) cs
      at true e more = absurd (h (inl (eqb-true m.cell x e)))
      at false e more = ap (λ z. count_in x ms + z) more

    go : (b : Bool) → nat_eq m.cell c ≡ b
        → sum_over (λ c. count_in c (m ∷ ms)) cs ≤ suc (sum_over (λ c. count_in c ms) cs)
        → cond b (suc (count_in c ms)) (count_in c ms) + sum_over (λ c. count_in c (m ∷ ms)) cs ≤ suc
        (count_in c ms + sum_over (λ c. count_in c ms) cs)
    go true e more =
        let q = same cs (λ i. d.0 (subst (λ z. IsIn z cs) (eqb-true m.cell c e) i)) in
        omega (arith, q)
    go false e more = omega (arith, more)

  count_all : (ms : List Member) (cs : List ℕ) → Distinct cs → sum_over (λ c. count_in c ms) cs ≤ length ms
  count_all [] cs d = zero_sum cs where
    zero_sum : (cs : List ℕ) → sum_over (λ c. count_in c []) cs ≤ 0
    zero_sum [] = omega arith
    zero_sum (c ∷ cs) = omega (arith, zero_sum cs)
  count_all (m ∷ ms) cs d = omega (arith, count_more m ms cs d, count_all ms cs d)

  -- what is kept suffices for all that are arranged
  pub rooms_suffice : (p : Plan) (f : Fits T frame A p) (es : List Entry) (n : ℕ)
      → rooms T cite frame p.members frame.cells es ≡ Some n
      → need frame p ≤ n
  rooms_suffice p f es n e =
      let a = rooms_bound p.members f.who f.stand f.distinct frame.cells es n e in
      let b = all_keyed Key frame.cells others (λ j i. (in_cell j i).1) in
      let c = count_all p.members frame.cells once in
      let d : length others ≡ A.count - frame.heads = length-up_from frame.heads (A.count - frame.heads) in
      omega (arith, a, b, c, d, k.low, size_le T frame A k p f)

  -- nothing is arranged by a plan that is shown dead
  abbrev pub IsFree : List Signed → Plan → Type 0
  IsFree left p = Fits T frame A p → ((d : Signed) → IsIn d left → IsIn d frame.demands) → ⊥

  abbrev pub Rest : List Signed → List Signed
  Rest [] = []
  Rest (d ∷ left) = left

  none_true : (b : Bool) (r : ℕ) (qs : List Plan) → where_true b r ≡ Ok qs → b ≡ true
  none_true true r qs e = refl
  none_true false r qs e = cc

  pub after_free : (p : Plan) (left : List Signed) (l : PlanLine) (qs : List Plan)
      → after T cite frame p left l ≡ Ok qs
      → ((q : Plan) → IsIn q qs → IsFree (Rest left) q) → IsFree left p
  after_free p left Count qs e more f w =
      let o = at_end_up (size frame p) A.count frame.below (size_le T frame A k p f)
      (none_true (is_at_end (size frame p) frame.below) 24 qs e) in
      let x : true ≡ false = sym o ∙ k.high in cc
  after_free p (d ∷ left) Split qs e more f w =
      let same : options frame d p ≡ qs = cc in
      let (q, i, g) = option_fits T frame A k p f d (w d (inl refl)) in
      more q (subst (IsIn q) same i) g (λ x j. w x (inr j))
  after_free p [] Split qs e more f w = cc
  after_free p left (At n x) qs e more f w =
      go (slice_get (placed frame p) n) refl
      (none_true (is_refuted_at T cite frame (slice_get (placed frame p) n) x) 23 qs e) where
        go : (o : Option (Place × List Signed)) → slice_get (placed frame p) n ≡ o
            → is_refuted_at T cite frame o x ≡ true → ⊥
        go None q r = cc
        go (Some s) q r =
            let (j, l, at, m) = placed_met T frame A k p f s (slice_get-in s (placed frame p) n q) in
            let y : true ≡ false = sym r ∙ safe j (list_at frame s.0 s.1) x l m in cc
  after_free p [] (Short es) qs e more f w =
      go (rooms T cite frame p.members frame.cells es) refl
      (none_true (is_short (need frame p) (rooms T cite frame p.members frame.cells es)) 24 qs e) where
        go : (o : Option ℕ) → rooms T cite frame p.members frame.cells es ≡ o → is_short (need frame p) o ≡ true → ⊥
        go None q r = cc
        go (Some n) q r = let a = ltb-true n (need frame p) r in let b =
            rooms_suffice p f es n q in omega (arith, a, b)
  after_free p (d ∷ left) (Short es) qs e more f w = cc
