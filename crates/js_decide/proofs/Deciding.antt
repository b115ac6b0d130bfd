-- What is answered of a root by the words of cells is what is decided of two positions, and means what it says; and its
-- certificate is that of the two positions, which is accepted.
use Rattle.std.proofs.Common.{◌≡◌, ℕ, ◌<◌, ◌≤◌, ◌&&◌, true, List, [], ◌∷◌, length, Option, Some, Result, Ok, Err, IfOk, nat_lt, refl, ap, sym, ◌∙◌, subst, arith}
use Rattle.std.proofs.lemmas.Bool.{and_from, and_parts, lt-ltb}
use Rattle.documents.specs.Kind as K
use Rattle.documents.specs.Tests.{every}
use Rattle.positions.specs.Position.{Position, is_table}
use Rattle.positions.specs.Holds.{IsTable}
use Rattle.position_laws.proofs.Tables.{is_table-IsTable}
use Rattle.goals.specs.Signed.{Signed, Plus, Minus}
use Rattle.goal_laws.specs.Saturated.{IsSaturated}
use Rattle.cells.specs.Cells.{Cells}
use Rattle.alternatives.specs.Limit.{most_goals, most_total}
use Rattle.expansions.specs.Leaves.{words_of}
use Rattle.expansion_laws.proofs.Containers.{IsCells}
use Rattle.finder_laws.proofs.Names.{cells_found}
use Rattle.finder_laws.proofs.Strings.{string_finder}
use Rattle.search.specs.Explored.{Found, explored}
use Rattle.decisions.specs.Decision as D
use Rattle.decisions.specs.Decision.{of_root, root_of, decision}
use Rattle.decisions.specs.Meaning.{Means}
use Rattle.decision_laws.proofs.Answer.{decision_means}
use Rattle.decision_laws.proofs.SameWords.{same_decided}
use Rattle.certificate_lines.specs.Text.{lines_text}
use Rattle.verdicts.specs.Verdict.{verdict_of_bytes}
use Rattle.refutations.specs.Refutation.{found_refutation, root_refutation, refutation}
use Rattle.refutation_laws.proofs.Refutations.{written_accepted}
use Rattle.expander_laws.specs.Expander.{takes, is_formed, is_goal, words_by}
use Rattle.expander_laws.proofs.Laws.{formed_taken}
use Rattle.js_algebra.specs.View.{is_in_table, are_in_table}
use Rattle.js_scalars.proofs.Found.{found_numbers}
use Rattle.js_expander.specs.Found.{finders, goal_expansion, cells_at}
use Rattle.js_decide.specs.View.{verdict_view, decided_view}
use Rattle.js_decide.specs.Certified.{HasCertificate, IsAccepted}
use Rattle.js_decide.specs.declared.verdict.Verdict.{Verdict}
use Rattle.js_decide.specs.declared.verdict.Verdict.TheVariants as V
use Rattle.js_decide.specs.declared.verdict.Decided.{Decided}

-- goals that are taken are in the table
pub taken_inside : (T : List Position) (ranks : List ℕ) (gs : List (List Signed)) → every (takes T ranks) gs ≡ true
    → every (are_in_table T) gs ≡ true
taken_inside T ranks [] h = refl
taken_inside T ranks (g ∷ gs) h =
    let (taken, rest) = and_parts (takes T ranks g) (every (takes T ranks) gs) h in
    let goal = (and_parts (is_table T ranks && nat_lt 0 (length T)) (is_goal T g) taken).1 in
    and_from (are_in_table T g) (every (are_in_table T) gs)
    (and_parts (is_formed T g) (every (is_in_table T) g) goal).1
    (taken_inside T ranks gs rest)

-- what refutes the goals that were explored from a root
pub certified_root : (T : List Position) (root : List Signed) (f : Found) (v : Verdict)
    → f ≡ explored most_goals most_total (goal_expansion T) root
    → HasCertificate (lines_text (found_refutation (goal_expansion T) f T)) v
    → HasCertificate (lines_text (root_refutation T most_goals most_total (Some root))) v
certified_root T root f v e h = subst (λ g. HasCertificate (lines_text (found_refutation (goal_expansion T) g T)) v) e h

-- of two positions of a table and what they form
module _ (T : List Position) (ranks : List ℕ) (table : is_table T ranks ≡ true) (a b : ℕ) (a_in : a < length T)
    (b_in : b < length T) where
  is_ok : IsTable T
  is_ok = is_table-IsTable T ranks table (omega (arith, a_in))

  cells : (S : List Signed) → IsSaturated T K.Object S → (C : Cells) → (finders T).cells S ≡ Ok C → IsCells T is_ok S C
  cells S full C e = cells_found T S is_ok C e

  -- the root is taken
  pub root_taken : (g : List Signed) → Some g ≡ root_of T a b → takes T ranks g ≡ true
  root_taken g e =
      formed_taken T ranks table (omega (arith, a_in)) (Plus a ∷ Minus b ∷ []) g (sym e)
      (and_from (nat_lt a (length T)) (nat_lt b (length T) && true) (lt-ltb a (length T) a_in)
      (and_from (nat_lt b (length T)) true (lt-ltb b (length T) b_in) refl))

  -- words of cells are those of the branches' sets
  pub decided_is : (o : Option (List Signed)) → o ≡ root_of T a b → (d : D.Decided)
      → d ≡ of_root (words_by (cells_at T)) (goal_expansion T) most_goals most_total o → d ≡ decision (finders T) T a b
  decided_is o root d e =
      e ∙ ap (of_root (words_by (cells_at T)) (goal_expansion T) most_goals most_total) root
      ∙ same_decided (finders T) T is_ok cells most_goals most_total (root_of T a b)

  pub decided_means : (d : D.Decided) → d ≡ decision (finders T) T a b
      → Means (finders T) T most_goals most_total a b d.verdict
  decided_means d e =
      subst (λ z. Means (finders T) T most_goals most_total a b z.verdict) (sym e)
      (decision_means (finders T) T is_ok a b (found_numbers T ranks table is_ok (words_of (finders T) K.Number))
      (string_finder T is_ok) cells)

  root_refuted : (o : Option (List Signed)) → o ≡ root_of T a b
      → root_refutation T most_goals most_total o ≡ refutation T a b
  unfolding refutation
  root_refuted o root = ap (root_refutation T most_goals most_total) root

  pub certificate_is : (o : Option (List Signed)) → o ≡ root_of T a b → (v : Verdict)
      → HasCertificate (lines_text (root_refutation T most_goals most_total o)) v
      → HasCertificate (lines_text (refutation T a b)) v
  certificate_is o root v h = subst (λ ls. HasCertificate (lines_text ls) v) (root_refuted o root) h

  -- where the table has no more positions than numbers are written
  pub certificate_accepted : length T ≤ 4294967296 → (v : Verdict)
      → verdict_view v ≡ (decision (finders T) T a b).verdict → HasCertificate (lines_text (refutation T a b)) v
      → IsAccepted T a b v
  certificate_accepted few (V.Document ps i) e h = tt
  certificate_accepted few (V.Limit k g) e h = tt
  certificate_accepted few (V.Certificate bytes) e h =
      ap (verdict_of_bytes T a b) h ∙ written_accepted T is_ok a b a_in b_in (sym e) few

  -- an answer that was found for the root is the decision on the two positions
  module _ {E : Type 0} (o : Option (List Signed)) (root : o ≡ root_of T a b) where
    pub answer_decided : (r : Result Decided E)
        → IfOk r (λ d. decided_view d ≡ of_root (words_by (cells_at T)) (goal_expansion T) most_goals most_total o)
        → IfOk r (λ d. decided_view d ≡ decision (finders T) T a b)
    answer_decided (Ok d) told = decided_is o root (decided_view d) told
    answer_decided (Err e) told = tt

    pub answer_certified : (r : Result Decided E)
        → IfOk r (λ d. HasCertificate (lines_text (root_refutation T most_goals most_total o)) d.verdict)
        → IfOk r (λ d. HasCertificate (lines_text (refutation T a b)) d.verdict)
    answer_certified (Ok d) text = certificate_is o root d.verdict text
    answer_certified (Err e) text = tt

    pub answer_means : (r : Result Decided E)
        → IfOk r (λ d. decided_view d ≡ of_root (words_by (cells_at T)) (goal_expansion T) most_goals most_total o)
        → IfOk r (λ d. Means (finders T) T most_goals most_total a b (decided_view d).verdict)
    answer_means (Ok d) told = decided_means (decided_view d) (decided_is o root (decided_view d) told)
    answer_means (Err e) told = tt

    pub answer_accepted : length T ≤ 4294967296 → (r : Result Decided E)
        → IfOk r (λ d. decided_view d ≡ of_root (words_by (cells_at T)) (goal_expansion T) most_goals most_total o)
        → IfOk r (λ d. HasCertificate (lines_text (root_refutation T most_goals most_total o)) d.verdict)
        → IfOk r (λ d. IsAccepted T a b d.verdict)
    answer_accepted few (Ok d) told text =
        certificate_accepted few d.verdict (ap (λ x. x.verdict) (decided_is o root (decided_view d) told))
        (certificate_is o root d.verdict text)
    answer_accepted few (Err e) told text = tt
