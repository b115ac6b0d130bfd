-- The atoms of a leaf are within the limits exactly where their automaton passes neither the limit on positions nor
-- that on classes, whatever number of rows it may have.
use Rattle.std.proofs.Common.{◌≡◌, ℕ, ◌⊎◌, inl, inr, List, Bool, true, false, ◌&&◌, cond, nat_lt, nat_le, length, Option, Some, None, refl, ap, sym, ◌∙◌, subst, arith}
use Rattle.word_states.specs.Atom.{Atom}
use Rattle.word_states.specs.AtomPositions.{positions_of}
use Rattle.word_states.specs.Classes.{characters, class_count}
use Rattle.alternatives.specs.Limit.{LimitKind, Positions, Classes, States, most_positions, most_classes}
use Rattle.finders.specs.Limits.{rows_found, limit_passed}
use Rattle.verdicts.specs.Leaves.{are_within_limits}

passes : (m n : ℕ) (b : Bool) → nat_le n m ≡ b → nat_lt m n ≡ cond b false true
passes m n true e = grind (arith, e)
passes m n false e = grind (arith, e)

module _ (most : ℕ) (atoms : List Atom) where
  abbrev of_rows : Option LimitKind
  of_rows = cond (nat_lt most (length (rows_found characters most atoms))) (Some States) None

  abbrev Both : Bool → Bool → Type 0
  Both p c = limit_passed characters most atoms
      ≡ cond (cond p false true) (Some Positions) (cond (cond c false true) (Some Classes) of_rows)

  by_both : (p c : Bool) → nat_le (positions_of atoms) most_positions ≡ p → nat_le (class_count atoms) most_classes ≡ c
      → Both p c
  by_both p c e f =
      ap (λ z. cond z (Some Positions) (cond (nat_lt most_classes (class_count atoms)) (Some Classes) of_rows))
      (passes most_positions (positions_of atoms) p e)
      ∙ ap (λ z. cond (cond p false true) (Some Positions) (cond z (Some Classes) of_rows))
      (passes most_classes (class_count atoms) c f)

  rows_alone : (b : Bool) → (cond b (Some States) None ≡ None) ⊎ (cond b (Some States) None ≡ Some States)
  rows_alone true = inr refl
  rows_alone false = inl refl

  pub within_limits : are_within_limits atoms ≡ true
      → (limit_passed characters most atoms ≡ None) ⊎ (limit_passed characters most atoms ≡ Some States)
  within_limits h =
      go (nat_le (positions_of atoms) most_positions) (nat_le (class_count atoms) most_classes) refl refl h where
        go : (p c : Bool) → nat_le (positions_of atoms) most_positions ≡ p
            → nat_le (class_count atoms) most_classes ≡ c → (p && c) ≡ true
            → (limit_passed characters most atoms ≡ None) ⊎ (limit_passed characters most atoms ≡ Some States)
        go true true e f h = subst (λ z. (z ≡ None) ⊎ (z ≡ Some States)) (sym (by_both true true e f))
            (rows_alone (nat_lt most (length (rows_found characters most atoms))))
        go true false e f h = cc
        go false c e f h = cc

  -- atoms past the limits pass that on positions or that on classes
  pub past_limits : are_within_limits atoms ≡ false
      → (limit_passed characters most atoms ≡ Some Positions) ⊎ (limit_passed characters most atoms ≡ Some Classes)
  past_limits h =
      go (nat_le (positions_of atoms) most_positions) (nat_le (class_count atoms) most_classes) refl refl h where
        go : (p c : Bool) → nat_le (positions_of atoms) most_positions ≡ p
            → nat_le (class_count atoms) most_classes ≡ c → (p && c) ≡ false
            → (limit_passed characters most atoms ≡ Some Positions)
            ⊎ (limit_passed characters most atoms ≡ Some Classes)
        go true true e f h = cc
        go true false e f h = inr (by_both true false e f)
        go false c e f h = inl (by_both false c e f)
