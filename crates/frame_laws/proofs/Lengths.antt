-- How long the lists of a plan are, and how many first places are used where nothing serves.
use Rattle.std.proofs.Common.{◌≡◌, ℕ, zero, suc, List, [], ◌∷◌, length, replicate, ap, refl}
use Rattle.goals.specs.Signed.{Signed}
use Rattle.frames.specs.Plan.{Member, serve_head, serve_member, heads_from, used, one_more}

-- to serve a demand at a first place leaves the number of first places as it was
pub length-serve_head : (d : Signed) (xs : List (List Signed)) (k : ℕ) → length (serve_head d xs k) ≡ length xs
length-serve_head d [] k = refl
length-serve_head d (x ∷ xs) zero = refl
length-serve_head d (x ∷ xs) (suc k) = ap suc (length-serve_head d xs k)

pub length-serve_member : (d : Signed) (ms : List Member) (k : ℕ) → length (serve_member d ms k) ≡ length ms
length-serve_member d [] k = refl
length-serve_member d (m ∷ ms) zero = refl
length-serve_member d (m ∷ ms) (suc k) = ap suc (length-serve_member d ms k)

pub length-heads_from : (j : ℕ) (xs : List (List Signed)) → length (heads_from j xs) ≡ length xs
length-heads_from j [] = refl
length-heads_from j (x ∷ xs) = ap suc (length-heads_from (suc j) xs)

pub none_used : (n : ℕ) → used (replicate n []) ≡ 0
none_used zero = refl
none_used (suc n) = ap (one_more []) (none_used n)
