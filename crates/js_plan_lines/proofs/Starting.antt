-- No demand before that of its number is served by a member, and its server is none of those before.
use Rattle.std.proofs.Common.{◌≡◌, ℕ, zero, suc, ◌+◌, ◌-◌, ◌≤◌, List, [], ◌∷◌, take, drop, length, get_or, true, false, cond, refl, arith, ap, sym, ◌∙◌}
use Rattle.std.proofs.lemmas.Bool.{ne_eqb, and_parts, ltb-true}
use Rattle.goals.specs.Signed.{Signed}
use Rattle.frames.specs.Frame.{Frame}
use Rattle.js_plans.specs.declared.server.Server.{Server}
use Rattle.js_plans.specs.declared.server.Server.TheVariants as V
use Rattle.js_plans.specs.Servers.{cells_of, members_after, serves_too, earlier, is_valid, are_valid}
use Rattle.js_plans.proofs.Grown.{few_after}
use Rattle.js_plans.proofs.Plans.{members_on-cons}
use Rattle.js_plan_lines.specs.Reach.{IsPath}
use Rattle.js_plan_lines.specs.Kept.{member_or}

none-left : (s : Server) (m : ℕ) (ws : List Server) → earlier s [] m ws ≡ []
none-left s m [] = refl
none-left s m (w ∷ ws) = refl

not-yet : (k h m : ℕ) (w : Server) → is_valid h m w ≡ true → suc m ≤ k → serves_too (V.Member k) m w ≡ false
not-yet k h m (V.Head i) v l = refl
not-yet k h m (V.Member i) v l = ne_eqb i k (λ e. omega (arith, e, l, ltb-true i m v))
not-yet k h m (V.New c) v l = ne_eqb m k (λ e. omega (arith, e, l))

later : (k h m n : ℕ) (ds : List Signed) (ws : List Server) → are_valid h m ws ≡ true → m + n ≤ k
    → earlier (V.Member k) ds m ws
    ≡ earlier (V.Member k) (drop n ds) (m + length (cells_of (take n ws))) (drop n ws)
later k h m zero ds ws v l = let z : m ≡ m + 0 = omega arith in ap (λ i. earlier (V.Member k) ds i ws) z
later k h m (suc n) ds [] v l = refl
later k h m (suc n) [] (w ∷ ws) v l =
    sym (none-left (V.Member k) (m + length (cells_of (w ∷ take n ws))) (drop n ws))
later k h m (suc n) (d ∷ ds) (w ∷ ws) v l =
    let (a, b) = and_parts (is_valid h m w) (are_valid h (members_after m w) ws) v in
    let rest = earlier (V.Member k) ds (members_after m w) ws in
    ap (λ t. cond t (d ∷ rest) rest) (not-yet k h m w a (omega (arith, l)))
    ∙ later k h (members_after m w) n ds ws b (omega (arith, l, few_after m w))
    ∙ ap (λ i. earlier (V.Member k) (drop n ds) i (drop n ws)) (members_on-cons m w (take n ws))

-- what is served from there on is all that is served
pub from-start : (s : Server) (frame : Frame) (ds : List Signed) (ws : List Server) (n m : ℕ) → IsPath frame ws
    → n ≤ member_or 0 s → m ≡ length (cells_of (take n ws))
    → earlier s (drop n ds) m (drop n ws) ≡ earlier s ds 0 ws
from-start (V.Head k) frame ds ws zero m path l e = ap (λ i. earlier (V.Head k) ds i ws) e
from-start (V.Head k) frame ds ws (suc n) m path l e = absurd (omega (arith, l))
from-start (V.New c) frame ds ws zero m path l e = ap (λ i. earlier (V.New c) ds i ws) e
from-start (V.New c) frame ds ws (suc n) m path l e = absurd (omega (arith, l))
from-start (V.Member k) frame ds ws n m path l e =
    let z : m ≡ 0 + length (cells_of (take n ws)) = omega (arith, e) in
    ap (λ i. earlier (V.Member k) (drop n ds) i (drop n ws)) z
    ∙ sym (later k frame.heads 0 n ds ws path.valid (omega (arith, l)))

-- the cell of a member that isn't among those of the first servers
pub cell-behind : (n : ℕ) (ws : List Server) (k : ℕ) → length (cells_of (take n ws)) ≤ k
    → get_or (cells_of (drop n ws)) (k - length (cells_of (take n ws))) 0 ≡ get_or (cells_of ws) k 0
cell-behind zero ws k l = let z : k - 0 ≡ k = omega arith in ap (λ i. get_or (cells_of ws) i 0) z
cell-behind (suc n) [] k l = let z : k - 0 ≡ k = omega arith in ap (λ i. get_or (cells_of []) i 0) z
cell-behind (suc n) (V.Head i ∷ ws) k l = cell-behind n ws k l
cell-behind (suc n) (V.Member i ∷ ws) k l = cell-behind n ws k l
cell-behind (suc n) (V.New c ∷ ws) zero l = absurd (omega (arith, l))
cell-behind (suc n) (V.New c ∷ ws) (suc k) l =
    let less : suc k - suc (length (cells_of (take n ws))) ≡ k - length (cells_of (take n ws)) = omega arith in
    ap (λ i. get_or (cells_of (drop n ws)) i 0) less ∙ cell-behind n ws k (omega (arith, l))
