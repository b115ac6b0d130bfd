-- The numbers of goals that no round has are the definition's, and so is the text.
use Rattle.std.proofs.Common.{◌≡◌, ℕ, List, ◌∙◌, arith}
use Rattle.goals.specs.Signed.{Signed}
use Rattle.alternatives.specs.Expansion.{Expansion}
use Rattle.certificate_lines.specs.Text.{lines_text}
use Rattle.refutations.specs.Listing.{certificate}
use Rattle.refutations.specs.Expansions.{expansion_of}
use Rattle.refutations.specs.Refutation.{found_refutation}
use Rattle.js_explore.specs.ExploredView.{explored_view}
use Rattle.js_explore.specs.Exploration.{Explores}
use Rattle.js_rounds.specs.State.{AreRounds}
use Rattle.js_refute.specs.Good.{IsGood, FoundNone}
use Rattle.js_refute.specs.Unmet.{goals_of, lines_of}
use Rattle.js_refute.proofs.GoodBytes.{good-found}
use Rattle.js_refute.proofs.Numbers.{same_refutation, if_ok}
use Rattle.js_refute.proofs.refutation.refute.Goals as goal

pub returns-clause-text : goal.returns-clause-text
returns-clause-text c =
    let e = c.args.explored.now in
    let r = c.args.rounds.now in
    let T = c.args.core.now.positions in
    let u = c.new.result in
    if_ok (λ text. text.items ≡ lines_text (certificate (goals_of u) (lines_of T u)))
    (λ text. (expansion : List Signed → Expansion) → Explores expansion (explored_view e)
    → AreRounds expansion (explored_view e).found r
    → text.items ≡ lines_text (found_refutation expansion (explored_view e).found T)) c.certificate.result
    (λ text h expansion explores are. h ∙ same_refutation T e u.explored.now r u.rounds.now c.new.ensures.explored
    c.new.ensures.rounds expansion are)
    c.certificate.ensures

pub returns-clause-good : goal.returns-clause-good
returns-clause-good c =
    let e = c.args.explored.now in
    let r = c.args.rounds.now in
    let T = c.args.core.now.positions in
    let u = c.new.result in
    if_ok (λ text. text.items ≡ lines_text (certificate (goals_of u) (lines_of T u)))
    (λ text. (a b : ℕ) → FoundNone T a b (explored_view e) r → IsGood T a b text.items) c.certificate.result
    (λ text h a b none.
    good-found T c.args.core.now.ranks c.len-length.ensures.table
    (omega (arith, c.len-length.ensures.value, c.len-length.type_inv)) a b (explored_view e) r none text.items
    (h ∙ same_refutation T e u.explored.now r u.rounds.now c.new.ensures.explored c.new.ensures.rounds
    (expansion_of T) none.are_rounds))
    c.certificate.ensures
