-- The root of an exploration is in some round exactly where some document meets it: in a round, always; towards a
-- round, where no limit was passed and no explored goal has a hole.
use Rattle.std.proofs.Common.{◌≡◌, ℕ, suc, ◌<◌, true, cond, nat_lt, List, None, Ok, slice_get, length, ap, sym, ◌∙◌, subst, arith}
use Rattle.std.proofs.lemmas.Bool.{lt-ltb}
use Rattle.std.proofs.lemmas.Option.{slice_get_within, same_Some}
use Rattle.documents.specs.Kind as K
use Rattle.documents.specs.Kind.{Kind}
use Rattle.documents.specs.Document.{Document, depth, is_document}
use Rattle.positions.specs.Position.{Position}
use Rattle.positions.specs.Holds.{IsTable}
use Rattle.goals.specs.Signed.{Signed, meets}
use Rattle.goal_laws.specs.Saturated.{IsSaturated}
use Rattle.cells.specs.Cells.{Cells}
use Rattle.alternatives.specs.Alternative.{Number, Text}
use Rattle.expansions.specs.Leaves.{Finders, leaf, words_of}
use Rattle.search.specs.Documents.{document}
use Rattle.expansions.specs.Expansion.{expansion}
use Rattle.expansion_laws.proofs.Leaf.{IsMade, IsLeaf, IsFinder}
use Rattle.expansion_laws.proofs.Containers.{IsCells}
use Rattle.expansion_laws.proofs.Goals.{leaves_right}
use Rattle.search.specs.Explored.{Found, explored}
use Rattle.search.specs.Rounds.{hole_at, hole_of, round}
use Rattle.search_laws.proofs.Whole.{whole, root_first}
use Rattle.search_laws.proofs.Rounds.{rounds_complete, rounds_sound}
use Rattle.search_laws.proofs.Settled.{settled}
use Rattle.expansions.specs.DocumentOf.{by_branch}

module _ (F : Finders) (T : List Position) (ok : IsTable T)
    (numbers : IsFinder T K.Number (words_of F K.Number) Number F.numbers)
    (strings : IsFinder T K.Text (words_of F K.Text) (λ w. Text) F.strings)
    (cells : (S : List Signed) → IsSaturated T K.Object S → (C : Cells) → F.cells S ≡ Ok C → IsCells T ok S C)
    (most most_total : ℕ) (root : List Signed) where
  abbrev pub goals_found : Found
  goals_found = explored most most_total (expansion T (leaf F T)) root

  right : (t : Kind) → IsLeaf T t (words_of F t) (leaf F T t)
  right = leaves_right F T ok numbers strings cells

  -- some document meets the root, so a round has it
  pub met_reached : 0 < most → goals_found.over ≡ None
      → ((n : ℕ) → hole_of (expansion T (leaf F T)) goals_found n ≡ None)
      → (J : Document) → is_document J ≡ true → meets T root J ≡ true
      → round (expansion T (leaf F T)) goals_found (suc (depth J)) 0 ≡ true
  met_reached l e open_ J good m =
      let w = whole most most_total (expansion T (leaf F T)) root l e in
      rounds_complete T ok (words_of F) (leaf F T) right goals_found most most_total w (λ n g at.
      let t : nat_lt n goals_found.taken ≡ true =
      (let a = w.all in lt-ltb n goals_found.taken (omega (arith, a, slice_get_within goals_found.goals n g at)))
      in
      sym (ap (hole_at (expansion T (leaf F T)) goals_found) at)
      ∙ sym (ap (λ b. cond b (hole_at (expansion T (leaf F T)) goals_found (slice_get goals_found.goals n)) None) t)
      ∙ open_ n) (depth J) 0 root (root_first most most_total (expansion T (leaf F T)) root) J good (omega arith) m

  -- a round has the root, so its document meets it, no deeper than the round
  pub reached_met : (r : ℕ) → round (expansion T (leaf F T)) goals_found r 0 ≡ true
      → IsMade T r root (document (by_branch T (words_of F)) (expansion T (leaf F T)) goals_found r 0)
  reached_met r h =
      let (g, at, made) = rounds_sound T ok (words_of F) (leaf F T) right goals_found r 0 h in
      subst (λ z. IsMade T r z (document (by_branch T (words_of F)) (expansion T (leaf F T)) goals_found r 0))
      (same_Some g root (sym at ∙ root_first most most_total (expansion T (leaf F T)) root)) made

  -- then the round whose number is that of all goals has it: the root is in it or no document meets the root
  pub met_settled : 0 < most → goals_found.over ≡ None
      → ((n : ℕ) → hole_of (expansion T (leaf F T)) goals_found n ≡ None)
      → (J : Document) → is_document J ≡ true → meets T root J ≡ true
      → round (expansion T (leaf F T)) goals_found (length goals_found.goals) 0 ≡ true
  met_settled l e open_ J good m =
      settled (expansion T (leaf F T)) goals_found (suc (depth J)) 0 (met_reached l e open_ J good m)
