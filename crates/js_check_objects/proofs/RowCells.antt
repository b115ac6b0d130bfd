-- What a vector of rows says of a literal is at the literal's number.
use Rattle.std.proofs.Common.{◌≡◌, ℕ, inl, inr, Bool, false, List, length, get_or, ap, sym, ◌∙◌, subst}
use Rattle.std.proofs.lemmas.Bool.{cases_lt}
use Rattle.positions.specs.Position.{Position}
use Rattle.goals.specs.Signed as G
use Rattle.goals.specs.Signed.{Signed, same_signed}
use Rattle.cells.specs.Cells.{told, vectors_of}
use Rattle.js_check_objects.specs.Told.{AreTold}
use Rattle.js_said.proofs.RowVectors.{told_at, of_row, vector-past, told_nothing}

rows_told : (T : List Position) (xs : List Signed) (rows : List (List ℕ)) → AreTold xs (vectors_of T xs rows)
rows_told T xs rows c i l = elim (cases_lt c (length (vectors_of T xs rows))) [
  | inl m ↦
      let (w, e) = of_row T xs rows c m in
      ap (λ v. get_or v i false) e ∙ sym (told_at T xs w i l) ∙ ap (λ v. told xs v (get_or xs i (G.Plus 0))) (sym e)
  | inr m ↦
      let e = vector-past (vectors_of T xs rows) c m in
      ap (λ v. get_or v i false) e ∙ sym (told_nothing xs (get_or xs i (G.Plus 0)))
      ∙ ap (λ v. told xs v (get_or xs i (G.Plus 0))) (sym e)
]

-- the bit of a vector at a literal's number is what the vector says of the literal
pub are_told : (T : List Position) (xs ns : List Signed) (rows : List (List ℕ)) (vs : List (List Bool)) → ns ≡ xs
    → vs ≡ vectors_of T xs rows → AreTold ns vs
are_told T xs ns rows vs n v =
    subst (λ z. AreTold z vs) (sym n) (subst (λ z. AreTold xs z) (sym v) (rows_told T xs rows))
