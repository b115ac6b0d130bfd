-- The best of all entries of a row is the nearest.
use Rattle.std.proofs.Common.{◌≡◌, ℕ, ◌≤◌, List, length, true, Option, Some, None, refl, sym, ap, ◌∙◌, subst, arith}
use Rattle.schemas.specs.Guarded.{is_among}
use Rattle.schema_laws.proofs.Ways.{is_among-at, place_among}
use Rattle.js_guard.specs.declared.cycle.Candidate.{Candidate}
use Rattle.js_guard.specs.Distances.{get_distance}
use Rattle.js_guard.specs.Nearest.{IsNearest, IsBest}

pub best-some : (D : List (Option ℕ)) (row : List ℕ) (n z d : ℕ) → length row ≤ n → IsBest D row n None
    → is_among z row ≡ true → get_distance D z ≡ Some d → ⊥
best-some D row n z d all none h k =
    let found = place_among z row h in
    let l = found.1 in
    let clash : None ≡ Some d = sym (none found.0 (omega arith)) ∙ ap (get_distance D) found.2 ∙ k in
    cc

-- the best of a row's entries is the one at the least distance, and the lowest of these
pub best-nearest : (D : List (Option ℕ)) (row : List ℕ) (n : ℕ) (b : Candidate) → length row ≤ n → n ≤ length row
    → IsBest D row n (Some b) → IsNearest D row b.entry
best-nearest D row n b all inside ((k, low, at), known, best) = record {
  among = subst (λ y. is_among y row ≡ true) at (is_among-at row k (omega arith));
  steps = b.distance;
  known = known;
  nearest = λ z e h f. (best-at z e h f).0;
  least = λ z h f. (best-at z b.distance h f).1 refl;
}
  where
    best-at : (z e : ℕ) → is_among z row ≡ true → get_distance D z ≡ Some e
        → (b.distance ≤ e) × (e ≡ b.distance → b.entry ≤ z)
    best-at z e h f =
        let found = place_among z row h in
        let l = found.1 in
        subst (λ y. (b.distance ≤ e) × (e ≡ b.distance → b.entry ≤ y)) found.2
        (best found.0 e (omega arith) (ap (get_distance D) found.2 ∙ f))
