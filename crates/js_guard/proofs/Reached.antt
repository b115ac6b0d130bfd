-- Entries that are reached are entries of the table.
use Rattle.std.proofs.Common.{◌≡◌, ℕ, ◌<◌, List, length, inl, inr, Option, Some, None, sym, ◌∙◌, arith}
use Rattle.std.proofs.lemmas.Bool.{cases_lt}
use Rattle.std.proofs.lemmas.List.{get_or_past}
use Rattle.js_guard.specs.declared.distances.Reached.{Reached}
use Rattle.js_guard.specs.Distances.{get_distance, item, IsReaching}

pub known-inside : (D : List (Option ℕ)) (x d : ℕ) → get_distance D x ≡ Some d → x < length D
known-inside D x d h =
    elim (cases_lt x (length D)) [
      | inl l ↦ l
      | inr l ↦ absurd (let clash : None ≡ Some d = sym (get_or_past D x None l) ∙ h in cc)
    ]

-- each entry that waits in the queue is an entry of the table
pub entry-inside : (g : List (List ℕ)) (D : List (Option ℕ)) (Q : List Reached) (h : ℕ) → IsReaching g D Q h
    → (i : ℕ) → i < length Q → (item Q i).entry < length g
entry-inside g D Q h s i l =
    let inside = known-inside D (item Q i).entry (item Q i).distance (s.reached i l) in
    let known = s.known in
    omega arith
