-- A cell that is there, and so many of its names.
use Rattle.std.proofs.Common.{◌≡◌, ℕ, ◌<◌, ◌≤◌, min, List, length, Ok, ap, sym, subst, ◌∙◌, arith}
use Rattle.positions.specs.Position.{Position}
use Rattle.goals.specs.Signed.{Signed}
use Rattle.cells.specs.Cells.{Cells}
use Rattle.finders.specs.Names.{cells_of}
use Rattle.js_automaton.specs.declared.automaton.Automaton.{Automaton}
use Rattle.js_objects.specs.Steps.{IsOfNames, cells_by}

-- the cells that were found have the cell, and as many of its names as are requested
pub names-there : (T : List Position) (S X : List Signed) (a : Automaton) → X ≡ S → IsOfNames T X a → (C : Cells)
    → C ≡ cells_by T X a → (cell count len most : ℕ) → len ≡ length C.vectors → cell < len
    → most ≡ min 65537 (length (C.words cell)) → count ≤ most
    → (D : Cells) × (cells_of T S ≡ Ok D) × (cell < length D.vectors) × (count ≤ length (D.words cell))
names-there T S X a q names C is cell count len most e l f m = (
  C,
  subst (λ z. cells_of T z ≡ Ok C) q (names.found ∙ ap Ok (sym is)),
  omega (arith, e, l),
  omega (arith, f, m),
)
