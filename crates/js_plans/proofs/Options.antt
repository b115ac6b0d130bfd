-- The choices by the cells of the members, and that each of them is there.
use Rattle.std.proofs.Common.{◌≡◌, ℕ, zero, suc, ◌+◌, ◌-◌, ◌<◌, ◌≤◌, List, [], ◌∷◌, ◌++◌, map, filter, length, Bool, true, false, ◌&&◌, not, cond, nat_eq, refl, arith, ap, ap₂, sym, ◌∙◌}
use Rattle.std.specs.List.{range_with_len}
use Rattle.std.proofs.lemmas.Bool.{and_from, lt-ltb}
use Rattle.documents.specs.Tests.{every}
use Rattle.goals.specs.Signed.{Signed}
use Rattle.frames.specs.Frame.{Frame, is_at_end}
use Rattle.frames.specs.Plan.{Member, count_in, has_room, servers, Plan, plan, member, serve_head, serve_member, options}
use Rattle.frames.specs.Fillers.{times}
use Rattle.js_plans.specs.declared.server.Server.{Server}
use Rattle.js_plans.specs.declared.server.Server.TheVariants as V
use Rattle.js_plans.specs.Serving.{plan_after, serve, choices}
use Rattle.js_plans.specs.Servers.{cells_of, is_valid}
use Rattle.js_plans.specs.Choosing.{next_demand, choices_after, choices_at, serving_cells, open_cells}
use Rattle.list_laws.proofs.Every.{every_joined}
use Rattle.js_plans.proofs.Plans.{heads-long, members-count, cells-all}
use Rattle.std.proofs.lemmas.List.{map-append}

by_head : (d : Signed) (p : Plan) (xs : List ℕ)
    → map (λ k. plan (serve_head d p.heads k) p.members) xs ≡ map (serve d p) (map V.Head xs)
by_head d p [] = refl
by_head d p (x ∷ xs) = ap (λ ps. plan (serve_head d p.heads x) p.members ∷ ps) (by_head d p xs)

by_member : (d : Signed) (p : Plan) (xs : List ℕ)
    → map (λ k. plan p.heads (serve_member d p.members k)) xs ≡ map (serve d p) (map V.Member xs)
by_member d p [] = refl
by_member d p (x ∷ xs) = ap (λ ps. plan p.heads (serve_member d p.members x) ∷ ps) (by_member d p xs)

by_new : (d : Signed) (p : Plan) (xs : List ℕ)
    → map (λ c. plan p.heads (p.members ++ member c (d ∷ []) ∷ [])) xs ≡ map (serve d p) (map V.New xs)
by_new d p [] = refl
by_new d p (x ∷ xs) = ap (λ ps. plan p.heads (p.members ++ member x (d ∷ []) ∷ []) ∷ ps) (by_new d p xs)

pub options-choices : (frame : Frame) (d : Signed) (p : Plan)
    → options frame d p ≡ map (serve d p) (choices frame d p)
options-choices frame d p =
    let hs = range_with_len 0 (length p.heads) in
    let ms = servers frame d 0 p.members in
    let cs = filter (λ c. frame.inside d c && has_room frame p.members c) frame.cells in
    ap₂ (λ xs ys. xs ++ ys)
    (ap₂ (λ xs ys. xs ++ ys) (by_head d p hs) (by_member d p ms)
    ∙ sym (map-append (serve d p) (map V.Head hs) (map V.Member ms)))
    (by_new d p cs)
    ∙ sym (map-append (serve d p) (map V.Head hs ++ map V.Member ms) (map V.New cs))

pub range-next : (k n : ℕ) → k < n → range_with_len k (n - k) ≡ k ∷ range_with_len (k + 1) (n - (k + 1))
range-next k n l = step (n - k) (n - (k + 1)) (omega (arith, l)) where
  step : (i j : ℕ) → i ≡ suc j → range_with_len k i ≡ k ∷ range_with_len (k + 1) j
  step i j e = ap (range_with_len k) e

pub range-from : (k n : ℕ) → k < n → map V.Head (range_with_len k (n - k))
    ≡ V.Head k ∷ map V.Head (range_with_len (k + 1) (n - (k + 1)))
range-from k n l = ap (map V.Head) (range-next k n l)

pub times-cells : (c : ℕ) (ms : List Member) → times c (map (λ m. m.cell) ms) ≡ count_in c ms
times-cells c [] = refl
times-cells c (m ∷ ms) = ap (λ n. cond (nat_eq m.cell c) (suc n) n) (times-cells c ms)

module _ (frame : Frame) where
  serving-members : (d : Signed) (k : ℕ) (ms : List Member)
      → serving_cells frame d k (map (λ m. m.cell) ms) ≡ map V.Member (servers frame d k ms)
  serving-members d k [] = refl
  serving-members d k (m ∷ ms) =
      let up : k + 1 ≡ suc k = omega arith in
      ap (λ us. cond (frame.inside d m.cell) (V.Member k ∷ us) us)
      (ap (λ j. serving_cells frame d j (map (λ m. m.cell) ms)) up ∙ serving-members d (suc k) ms)
      ∙ go (frame.inside d m.cell) (servers frame d (suc k) ms) where
        go : (b : Bool) (us : List ℕ) → cond b (V.Member k ∷ map V.Member us) (map V.Member us)
            ≡ map V.Member (cond b (k ∷ us) us)
        go true us = refl
        go false us = refl

  open-members : (d : Signed) (ms : List Member) (cs : List ℕ) → open_cells frame d (map (λ m. m.cell) ms) cs
      ≡ map V.New (filter (λ c. frame.inside d c && has_room frame ms c) cs)
  open-members d ms [] = refl
  open-members d ms (c ∷ cs) =
      ap₂ (λ n us. cond (frame.inside d c && not (is_at_end n (frame.cap c))) (V.New c ∷ us) us) (times-cells c ms)
      (open-members d ms cs)
      ∙ go (frame.inside d c && has_room frame ms c) (filter (λ c. frame.inside d c && has_room frame ms c) cs) where
        go : (b : Bool) (us : List ℕ) → cond b (V.New c ∷ map V.New us) (map V.New us)
            ≡ map V.New (cond b (c ∷ us) us)
        go true us = refl
        go false us = refl

  pub choices-are : (ws : List Server) → length ws ≤ length frame.demands
      → choices_at frame (length ws) (cells_of ws) ≡ choices_after frame ws
  choices-are ws l =
      let d = next_demand frame ws in
      let p = plan_after frame ws in
      ap₂ (λ h cs. (map V.Head (range_with_len 0 h) ++ serving_cells frame d 0 cs) ++ open_cells frame d cs frame.cells)
      (sym (heads-long frame ws)) (sym (cells-all frame ws l))
      ∙ ap₂ (λ xs ys. (map V.Head (range_with_len 0 (length p.heads)) ++ xs) ++ ys) (serving-members d 0 p.members)
      (open-members d p.members frame.cells)

  servers-few : (d : Signed) (k n : ℕ) (ms : List Member) (h : ℕ) → k + length ms ≤ n
      → every (is_valid h n) (map V.Member (servers frame d k ms)) ≡ true
  servers-few d k n [] h l = refl
  servers-few d k n (m ∷ ms) h l =
      go (frame.inside d m.cell) (servers-few d (suc k) n ms h (omega (arith, l))) where
        go : (b : Bool) → every (is_valid h n) (map V.Member (servers frame d (suc k) ms)) ≡ true
            → every (is_valid h n) (map V.Member (cond b (k ∷ servers frame d (suc k) ms) (servers frame d (suc k) ms)))
            ≡ true
        go true more = and_from _ _ (lt-ltb k n (omega (arith, l))) more
        go false more = more

  -- each choice is there
  pub choices-valid : (ws : List Server) → length ws ≤ length frame.demands
      → every (is_valid frame.heads (length (cells_of ws))) (choices_after frame ws) ≡ true
  choices-valid ws l =
      let p = plan_after frame ws in
      let d = next_demand frame ws in
      let n = length (cells_of ws) in
      let cs = filter (λ c. frame.inside d c && has_room frame p.members c) frame.cells in
      every_joined _ (map V.Head (range_with_len 0 (length p.heads)) ++ map V.Member (servers frame d 0 p.members))
      (map V.New cs)
      (every_joined _ (map V.Head (range_with_len 0 (length p.heads))) (map V.Member (servers frame d 0 p.members))
      (heads-few 0 (length p.heads) (omega (arith, heads-long frame ws)))
      (servers-few d 0 n p.members frame.heads (omega (arith, members-count frame ws l))))
      (new-few cs) where
        heads-few : (k n : ℕ) → k + n ≤ frame.heads
            → every (is_valid frame.heads (length (cells_of ws))) (map V.Head (range_with_len k n)) ≡ true
        heads-few k zero l = refl
        heads-few k (suc n) l =
            and_from _ _ (lt-ltb k frame.heads (omega (arith, l))) (heads-few (k + 1) n (omega (arith, l)))

        new-few : (cs : List ℕ) → every (is_valid frame.heads (length (cells_of ws))) (map V.New cs) ≡ true
        new-few [] = refl
        new-few (c ∷ cs) = new-few cs
