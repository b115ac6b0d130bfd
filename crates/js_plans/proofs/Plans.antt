-- The plan of a list of servers: its places, its members and its size, and what one more server makes of it.
use Rattle.std.proofs.Common.{◌≡◌, ℕ, zero, suc, ◌+◌, ◌<◌, ◌≤◌, max, List, [], ◌∷◌, ◌++◌, map, length, get_or, replicate, true, refl, arith, ap, ap₂, sym, ◌∙◌, subst}
use Rattle.std.proofs.lemmas.Bool.{and_parts, and_from}
use Rattle.std.proofs.lemmas.List.{length-map, length-replicate}
use Rattle.goals.specs.Signed.{Signed, Plus}
use Rattle.frames.specs.Frame.{Frame}
use Rattle.frames.specs.Plan.{Plan, Member, empty_plan, with_members, size}
use Rattle.frame_laws.proofs.Lengths.{none_used}
use Rattle.js_plans.specs.declared.server.Server.{Server}
use Rattle.js_plans.specs.declared.server.Server.TheVariants as V
use Rattle.js_plans.specs.Serving.{serve, serve_all, plan_after}
use Rattle.js_plans.specs.Servers.{cells_of, members_after, most_used, is_valid, are_valid}
use Rattle.js_plans.specs.Choosing.{next_demand}
use Rattle.js_plans.specs.Walks.{size_of, with_count}
use Rattle.js_plans.proofs.Grown.{heads-serve_all, cells_in, cells-serve_all, used-serve_all}
use Rattle.js_plans.proofs.Seen.{member_at, served_by}

pub members_on-cons : (m : ℕ) (w : Server) (ws : List Server)
    → members_after m w + length (cells_of ws) ≡ m + length (cells_of (w ∷ ws))
members_on-cons m (V.Head k) ws = refl
members_on-cons m (V.Member k) ws = refl
members_on-cons m (V.New c) ws = omega arith

pub valid-before : (h m : ℕ) (ws ss : List Server) → are_valid h m (ws ++ ss) ≡ true → are_valid h m ws ≡ true
valid-before h m [] ss v = refl
valid-before h m (w ∷ ws) ss v =
    let (a, b) = and_parts (is_valid h m w) (are_valid h (members_after m w) (ws ++ ss)) v in
    and_from _ _ a (valid-before h (members_after m w) ws ss b)

pub valid-push : (h m : ℕ) (ws : List Server) (s : Server) → are_valid h m ws ≡ true
    → is_valid h (m + length (cells_of ws)) s ≡ true → are_valid h m (ws ++ s ∷ []) ≡ true
valid-push h m [] s v u = and_from _ _ (subst (λ k. is_valid h k s ≡ true) (omega arith) u) refl
valid-push h m (w ∷ ws) s v u =
    let (a, b) = and_parts (is_valid h m w) (are_valid h (members_after m w) ws) v in
    and_from _ _ a
    (valid-push h (members_after m w) ws s b
    (subst (λ k. is_valid h k s ≡ true) (sym (members_on-cons m w ws)) u))

-- one more server
pub serve_all-push : (ds : List Signed) (ws : List Server) (s : Server) (p : Plan) → length ws < length ds
    → serve_all ds (ws ++ s ∷ []) p ≡ serve (get_or ds (length ws) (Plus 0)) (serve_all ds ws p) s
serve_all-push [] ws s p l = absurd (omega (arith, l))
serve_all-push (d ∷ ds) [] s p l = refl
serve_all-push (d ∷ ds) (w ∷ ws) s p l = serve_all-push ds ws s (serve d p w) (omega (arith, l))

pub cell-at : (ms : List Member) (k : ℕ) → get_or (map (λ m. m.cell) ms) k 0 ≡ (member_at ms k).cell
cell-at [] k = refl
cell-at (m ∷ ms) zero = refl
cell-at (m ∷ ms) (suc k) = cell-at ms k

abbrev none_served : List Signed
none_served = []

-- an empty plan serves nothing
pub served-empty : (frame : Frame) (s : Server) → served_by s (empty_plan frame) ≡ []
served-empty frame (V.Head k) = empty frame.heads k where
  empty : (n k : ℕ) → get_or (replicate n none_served) k [] ≡ []
  empty zero k = refl
  empty (suc n) zero = refl
  empty (suc n) (suc k) = empty n k
served-empty frame (V.Member k) = refl
served-empty frame (V.New c) = refl

module _ (frame : Frame) where
  pub heads-long : (ws : List Server) → length (plan_after frame ws).heads ≡ frame.heads
  heads-long ws = heads-serve_all frame.demands ws (empty_plan frame) ∙ length-replicate frame.heads none_served

  pub cells-all : (ws : List Server) → length ws ≤ length frame.demands
      → cells_in (plan_after frame ws) ≡ cells_of ws
  cells-all ws l = cells-serve_all frame.demands ws (empty_plan frame) l

  pub members-count : (ws : List Server) → length ws ≤ length frame.demands
      → length (plan_after frame ws).members ≡ length (cells_of ws)
  members-count ws l = sym (length-map (plan_after frame ws).members (λ m. m.cell)) ∙ ap length (cells-all ws l)

  pub next-plan : (ws : List Server) (s : Server) → length ws < length frame.demands
      → plan_after frame (ws ++ s ∷ []) ≡ serve (next_demand frame ws) (plan_after frame ws) s
  next-plan ws s l = serve_all-push frame.demands ws s (empty_plan frame) l

  pub size-plan : (ws : List Server) → length ws ≤ length frame.demands → are_valid frame.heads 0 ws ≡ true
      → size frame (plan_after frame ws) ≡ size_of frame (most_used 0 ws) (length (cells_of ws))
  size-plan ws l v =
      let p = plan_after frame ws in
      ap₂ (λ u n. max frame.floor (max u n))
      (used-serve_all frame.demands ws (empty_plan frame) l
      (subst (λ h. are_valid h 0 ws ≡ true) (sym (heads-long [])) v)
      ∙ ap (λ n. most_used n ws) (none_used frame.heads))
      (counted p.members ∙ ap (with_count frame.heads) (members-count ws l)) where
        counted : (ms : List Member) → with_members frame.heads ms ≡ with_count frame.heads (length ms)
        counted [] = refl
        counted (m ∷ ms) = refl
