-- The parts of a goal stand for a document that meets it and is no deeper than its least round.
use Rattle.std.proofs.Common.{◌≡◌, ℕ, true, List, Some, Ok, is_some, length, slice_get, ap, sym, ◌∙◌, subst}
use Rattle.documents.specs.Kind as K
use Rattle.documents.specs.Kind.{Kind}
use Rattle.documents.specs.Document.{Document}
use Rattle.shared_documents.specs.Unshared.{unshared}
use Rattle.positions.specs.Position.{Position}
use Rattle.positions.specs.Holds.{IsTable}
use Rattle.goals.specs.Signed.{Signed}
use Rattle.goal_laws.specs.Saturated.{IsSaturated}
use Rattle.cells.specs.Cells.{Cells}
use Rattle.alternatives.specs.Alternative.{Number, Text}
use Rattle.expansions.specs.Leaves.{Finders, leaf, words_of}
use Rattle.expansions.specs.Expansion.{expansion}
use Rattle.expansions.specs.DocumentOf.{by_branch}
use Rattle.expansion_laws.proofs.Leaf.{IsMade, IsLeaf, IsFinder}
use Rattle.expansion_laws.proofs.Containers.{IsCells}
use Rattle.expansion_laws.proofs.Goals.{leaves_right}
use Rattle.search.specs.Explored.{Found}
use Rattle.search.specs.Rounds.{round}
use Rattle.search.specs.Uses.{satisfied, used_goals}
use Rattle.search.specs.Witness.{place_in, parts}
use Rattle.search_laws.proofs.Rise.{answer_round}
use Rattle.search_laws.proofs.Rounds.{rounds_sound}
use Rattle.search_laws.proofs.Answers.{Enters, Least, answer_least}
use Rattle.search_laws.proofs.Built.{document_stays}
use Rattle.search_laws.proofs.Parts.{parts_stand, used_own}

module _ (F : Finders) (T : List Position) (ok : IsTable T)
    (numbers : IsFinder T K.Number (words_of F K.Number) Number F.numbers)
    (strings : IsFinder T K.Text (words_of F K.Text) (λ w. Text) F.strings)
    (cells : (S : List Signed) → IsSaturated T K.Object S → (C : Cells) → F.cells S ≡ Ok C → IsCells T ok S C)
    (f : Found) where
  right : (t : Kind) → IsLeaf T t (words_of F t) (leaf F T t)
  right = leaves_right F T ok numbers strings cells

  -- the goal has a number, and its document is what its parts stand for
  pub record IsWitness (n k : ℕ) (J : Document) : Type 0 where
    pub goal : List Signed
    pub at : slice_get f.goals n ≡ Some goal
    pub made : IsMade T k goal J

  -- the parts of a goal that round k has first are a document of depth at most k that meets it
  pub witness_made : (n k i : ℕ) → satisfied (expansion T (leaf F T)) f n ≡ Some (k, i)
      → IsWitness n k (unshared (parts (by_branch T (words_of F)) (expansion T (leaf F T)) f n)
      (place_in (used_goals (expansion T (leaf F T)) f n) n))
  witness_made n k i e =
      let l : Least (expansion T (leaf F T)) f (length f.goals) n k i =
      answer_least (expansion T (leaf F T)) f (length f.goals) n k i e in
      let x : Enters (expansion T (leaf F T)) f n l.q i = l.enters in
      let has : round (expansion T (leaf F T)) f k n ≡ true =
      ap (λ z. round (expansion T (leaf F T)) f z n) l.is ∙ x.has in
      let reached : round (expansion T (leaf F T)) f (length f.goals) n ≡ true =
      sym (answer_round (expansion T (leaf F T)) f (length f.goals) n) ∙ ap is_some e in
      let (g, at, made) = rounds_sound T ok (words_of F) (leaf F T) right f k n has in
      record {
        goal = g;
        at = at;
        made = subst (λ J. IsMade T k g J)
            (sym (parts_stand (by_branch T (words_of F)) (expansion T (leaf F T)) f n reached n
            (used_own (by_branch T (words_of F)) (expansion T (leaf F T)) f n reached)
            ∙ document_stays (by_branch T (words_of F)) (expansion T (leaf F T)) f k (length f.goals) n l.within
            has)) made;
      }
