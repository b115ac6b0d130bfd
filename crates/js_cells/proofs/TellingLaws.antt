-- What the literals say of rows, by the rows of atoms and by plans.
use Rattle.std.proofs.Common.{◌≡◌, ℕ, ◌<◌, Bool, true, false, not, nat_eq, List, [], map, length, get_or, refl, ap, sym, ◌∙◌, subst, arith}
use Rattle.std.specs.List.{list_any}
use Rattle.std.proofs.lemmas.Simd.{map-map}
use Rattle.documents.specs.Document.{string}
use Rattle.documents.specs.Tests.{some}
use Rattle.word_states.specs.Atom.{Atom, is_true}
use Rattle.positions.specs.Position.{Position}
use Rattle.positions.specs.Holds.{holds}
use Rattle.name_laws.specs.Plans as P
use Rattle.js_said.specs.AtomNumbers.{atom_at, is_true_at, are_below}
use Rattle.js_said.specs.Saying.{IsPlanned}
use Rattle.js_cells.specs.Told.{AreSet, HavePlace, AreBlank}
use Rattle.js_cells.specs.Truths.{AreTruths}
use Rattle.js_cells.proofs.ToldLaws.{set_same, set_turned}
use Rattle.js_cells.proofs.TruthLaws.{some_told}

module _ (A : List Atom) (L lists : List (List ℕ)) (t : AreTruths A L lists)
    (ks : List ℕ) (below : are_below A ks ≡ true)
    (place : ℕ) (old : List (List Bool)) (count : length old ≡ length L) where
  -- one of the atoms is true
  pub any_set : (new : List (List Bool))
      → AreSet (λ r. some (λ k. list_any (nat_eq r) (get_or lists k [])) ks) true place old new
      → AreSet (λ r. some (is_true_at A (get_or L r [])) ks) true place old new
  any_set new s =
      set_same true place (λ r. some (λ k. list_any (nat_eq r) (get_or lists k [])) ks)
      (λ r. some (is_true_at A (get_or L r [])) ks) old new
      (λ r l. some_told A L lists t r ks (omega (arith, l, count)) below) s

  -- the rows of a literal that says that none of the atoms is true
  pub none_set : (mid new : List (List Bool)) → HavePlace place old → AreBlank place old
      → AreSet (λ r. true) true place old mid
      → AreSet (λ r. some (λ k. list_any (nat_eq r) (get_or lists k [])) ks) false place mid new
      → AreSet (λ r. not (some (is_true_at A (get_or L r [])) ks)) true place old new
  none_set mid new have blank s u =
      set_same true place (λ r. not (some (λ k. list_any (nat_eq r) (get_or lists k [])) ks))
      (λ r. not (some (is_true_at A (get_or L r [])) ks)) old new
      (λ r l. ap not (some_told A L lists t r ks (omega (arith, l, count)) below))
      (set_turned place (λ r. some (λ k. list_any (nat_eq r) (get_or lists k [])) ks) old mid new have blank s u)

-- a plan gives the truth of a literal by the truths of the atoms of its leaves
pub planned_told : (T : List Position) (A : List Atom) (plan : P.Plan) (ks : List ℕ) (w : List ℕ) (b : Bool)
    (asked truths : List Bool) → IsPlanned T A plan ks → asked ≡ truths → truths ≡ map (is_true_at A w) ks
    → (asked ≡ map (λ a. is_true a w) (P.atoms_of T plan.leaves) → b ≡ holds T plan.root (string w))
    → b ≡ holds T plan.root (string w)
planned_told T A plan ks w b asked truths h p q more =
    more
    (p ∙ q ∙ sym (map-map (λ a. is_true a w) (atom_at A) ks) ∙ ap (map (λ a. is_true a w)) h.numbers.atoms)
