-- Numbers that are found one by one are those of all rows.
use Rattle.std.proofs.Common.{◌≡◌, ℕ, ◌<◌, List, [], map, length, get_or, Result, Ok, Err, IfOk, sym, ◌∙◌, arith}
use Rattle.std.proofs.lemmas.List.{ext_get_or, get_or-map, length-map}

-- where there is a number for each row, and each is that of its row, the list is that of all rows
pub all_labels : {V E : Type 0} (items : V → List ℕ) (rows : List (List ℕ)) (f : List ℕ → ℕ) (r : Result V E)
    → IfOk r (λ v. length (items v) ≡ length rows)
    → IfOk r (λ v. (i : ℕ) → i < length rows → get_or (items v) i 0 ≡ f (get_or rows i []))
    → IfOk r (λ v. items v ≡ map f rows)
all_labels items rows f (Ok v) n h =
    ext_get_or 0 (items v) (map f rows) (n ∙ sym (length-map rows f))
    (λ i l. let m : i < length rows = omega (arith, l, n) in h i m ∙ sym (get_or-map f rows i [] 0 m))
all_labels items rows f (Err e) n h = tt
