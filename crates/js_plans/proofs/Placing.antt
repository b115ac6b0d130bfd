-- What a plan places, by its number, read off the servers.
use Rattle.std.proofs.Common.{◌≡◌, ℕ, zero, suc, ◌+◌, ◌<◌, ◌≤◌, min, List, [], ◌∷◌, ◌++◌, map, reverse, take, length, get_or, true, Some, slice_get, refl, arith, ap, ap₂, sym, ◌∙◌, append-nil}
use Rattle.std.proofs.lemmas.Bool.{lt-ltb}
use Rattle.std.proofs.lemmas.List.{length-take}
use Rattle.list_laws.proofs.Lists.{slice_get-append, slice_get-append_right}
use Rattle.goals.specs.Signed.{Signed}
use Rattle.frames.specs.Frame.{Place, Head, In, Frame}
use Rattle.frames.specs.Plan.{Plan, Member, empty_plan, size, heads_from, placed}
use Rattle.frame_laws.proofs.Lengths.{length-heads_from}
use Rattle.js_plans.specs.declared.server.Server.{Server}
use Rattle.js_plans.specs.declared.server.Server.TheVariants as V
use Rattle.js_plans.specs.Serving.{plan_after}
use Rattle.js_plans.specs.Servers.{cells_of, most_used, earlier, is_valid, are_valid}
use Rattle.js_plans.specs.Goals.{place_after}
use Rattle.js_plans.specs.Walks.{size_of}
use Rattle.js_plans.proofs.Seen.{member_at, served_by, served-serve_all}
use Rattle.js_plans.proofs.Plans.{heads-long, cells-all, members-count, size-plan, cell-at, served-empty}

get-head : (n j i k : ℕ) (hs : List (List Signed)) → k < n → k < length hs → i ≡ j + k
    → slice_get (take n (heads_from j hs)) k ≡ Some (Head i, get_or hs k [])
get-head n j i k [] l m e = absurd (omega (arith, m))
get-head zero j i k (x ∷ hs) l m e = absurd (omega (arith, l))
get-head (suc n) j i zero (x ∷ hs) l m e = ap (λ b. Some (Head b, x)) (omega (arith, e))
get-head (suc n) j i (suc k) (x ∷ hs) l m e =
    get-head n (suc j) i k hs (omega (arith, l)) (omega (arith, m)) (omega (arith, e))

-- where a member is, and what it serves
abbrev pub stands : Member → Place × List Signed
stands m = (In m.cell, m.served)

get-member : (ms : List Member) (k : ℕ) → k < length ms
    → slice_get (map stands ms) k ≡ Some (In (member_at ms k).cell, (member_at ms k).served)
get-member [] k l = absurd (omega (arith, l))
get-member (m ∷ ms) zero l = refl
get-member (m ∷ ms) (suc k) l = get-member ms k (omega (arith, l))

module _ (frame : Frame) (ws : List Server) where
  abbrev P : Plan
  P = plan_after frame ws

  -- the demands that a server serves, the latest first; and with them where it is
  abbrev at : Server → List Signed
  at s = reverse (earlier s frame.demands 0 ws)

  abbrev seen : Server → Place × List Signed
  seen s = (place_after ws s, at s)

  -- how many first places are placed
  abbrev heads : ℕ
  heads = min (size_of frame (most_used 0 ws) (length (cells_of ws))) frame.heads

  abbrev pub first_places : List (Place × List Signed)
  first_places = take (size frame P) (heads_from 0 P.heads)

  module _ (few : length ws ≤ length frame.demands) (valid : are_valid frame.heads 0 ws ≡ true) where
    served-is : (s : Server) → is_valid frame.heads (length (cells_of ws)) s ≡ true → served_by s P ≡ at s
    served-is s u =
        served-serve_all s frame.demands ws (empty_plan frame) frame.heads 0 (length (cells_of ws))
        (sym (heads-long frame [])) refl few valid u
        ∙ ap (λ xs. at s ++ xs) (served-empty frame s)
        ∙ append-nil (at s)

    pub first-count : length first_places ≡ heads
    first-count =
        length-take (size frame P) (heads_from 0 P.heads)
        ∙ ap₂ min (size-plan frame ws few valid) (length-heads_from 0 P.heads ∙ heads-long frame ws)

    -- what is placed at number k is first place k with what it serves, as long as there are first places
    pub at-head : (k : ℕ) → k < heads → slice_get (placed frame P) k ≡ Some (seen (V.Head k))
    at-head k l =
        let size_is = size-plan frame ws few valid in
        let long = heads-long frame ws in
        slice_get-append first_places (map stands P.members) k (omega (arith, l, first-count))
        ∙ get-head (size frame P) 0 k k P.heads (omega (arith, l, size_is)) (omega (arith, l, long)) (omega arith)
        ∙ ap (λ ds. Some (Head k, ds)) (served-is (V.Head k) (lt-ltb k frame.heads (omega (arith, l))))

    -- behind the first places come the members in order, each with what it serves
    pub at-member : (j k : ℕ) → k ≡ heads + j → j < length (cells_of ws)
        → slice_get (placed frame P) k ≡ Some (seen (V.Member j))
    at-member j k e l =
        slice_get-append_right first_places (map stands P.members) j k (omega (arith, e, first-count))
        ∙ get-member P.members j (omega (arith, l, members-count frame ws few))
        ∙ ap₂ (λ c ds. Some (In c, ds))
        (sym (cell-at P.members j) ∙ ap (λ cs. get_or cs j 0) (cells-all frame ws few))
        (served-is (V.Member j) (lt-ltb j (length (cells_of ws)) l))
