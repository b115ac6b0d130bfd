-- Where no document was found, the bytes of the certificate are good.
use Rattle.std.proofs.Common.{◌≡◌, ◌≤◌, ℕ, true, List, [], ◌∷◌, length, None, ap, sym, ◌∙◌, subst, arith}
use Rattle.positions.specs.Position.{Position, is_table}
use Rattle.positions.specs.Holds.{IsTable}
use Rattle.position_laws.proofs.Tables.{is_table-IsTable}
use Rattle.goals.specs.Signed.{Plus, Minus}
use Rattle.goals.specs.Goal.{form}
use Rattle.alternatives.specs.Limit.{most_goals, most_total}
use Rattle.search.specs.Explored.{Found, explored}
use Rattle.search.specs.Rounds.{hole_of}
use Rattle.search.specs.Uses.{satisfied}
use Rattle.search_laws.proofs.Answers.{answer_none}
use Rattle.decisions.specs.Meaning.{IsUnmet, AreOpen}
use Rattle.decision_laws.proofs.Decisions.{root_goal}
use Rattle.certificate_lines.specs.Line.{Line}
use Rattle.certificate_lines.specs.Text.{lines_text, IsText}
use Rattle.verdicts.specs.Verdict.{Accepted, verdict, verdict_of_bytes}
use Rattle.verdict_laws.proofs.Bytes.{verdict_of_text}
use Rattle.refutations.specs.Expansions.{finders_of, expansion_of}
use Rattle.refutations.specs.Refutation.{found_refutation, empty_certificate}
use Rattle.refutation_laws.proofs.Certificates.{clash_accepted}
use Rattle.refutation_laws.proofs.Grammar.{clash_text}
use Rattle.refutation_laws.proofs.Refutations.{found_text, found_accepted}
use Rattle.js_explore.specs.Exploration.{Exploration}
use Rattle.js_rounds.specs.declared.rounds.Rounds.{Rounds}
use Rattle.js_refute.specs.Good.{IsGood, FoundNone}

-- bytes that are the text of accepted lines
good-text : (T : List Position) (a b : ℕ) (bytes : List ℕ) (ls : List Line) → bytes ≡ lines_text ls
    → IsText (lines_text ls) ls → verdict T a b ls ≡ Accepted → IsGood T a b bytes
good-text T a b bytes ls e text accepted = record {
  lines = ls;
  in_grammar = subst (λ z. IsText z ls) (sym e) text;
  accepted = ap (verdict_of_bytes T a b) e ∙ verdict_of_text T a b (lines_text ls) ls text ∙ accepted;
}

-- a root that clashes
pub good-clash : (bytes : List ℕ) → bytes ≡ lines_text empty_certificate → (T : List Position) (a b : ℕ)
    → form T (Plus a ∷ Minus b ∷ []) ≡ None → IsGood T a b bytes
good-clash bytes e T a b clashes =
    good-text T a b bytes empty_certificate e clash_text (clash_accepted T a b clashes)

-- what the rounds of explored goals show
record ShowNone (T : List Position) (f : Found) : Type 0 where
  unmet : satisfied (expansion_of T) f 0 ≡ None
  whole : f.over ≡ None
  holes : (n : ℕ) → hole_of (expansion_of T) f n ≡ None

show-none : (T : List Position) (f : Found) → IsUnmet (expansion_of T) f → AreOpen (expansion_of T) f → f.over ≡ None
    → ShowNone T f
show-none T f u o w = record {
  unmet = answer_none (expansion_of T) f (length f.goals) 0 (u (length f.goals));
  whole = w;
  holes = o;
}

pub good-found : (T : List Position) (ranks : List ℕ) → is_table T ranks ≡ true → length T ≤ 4294967296
    → (a b : ℕ) (e : Exploration) (rounds : Rounds) → FoundNone T a b e rounds → (bytes : List ℕ)
    → bytes ≡ lines_text (found_refutation (expansion_of T) e.found T) → IsGood T a b bytes
good-found T ranks table few a b e rounds h bytes is =
    let ok : IsTable T = is_table-IsTable T ranks table (omega (arith, h.a_in)) in
    let f = explored most_goals most_total (expansion_of T) h.root in
    let good = root_goal (finders_of T) T most_goals most_total a b ok h.a_in h.b_in h.root h.is_root in
    let n : ShowNone T f = subst (ShowNone T) h.explored (show-none T e.found h.unmet h.no_hole h.whole) in
    good-text T a b bytes (found_refutation (expansion_of T) f T)
    (is ∙ ap (λ g. lines_text (found_refutation (expansion_of T) g T)) h.explored)
    (found_text T ok most_goals most_total a b h.root h.is_root good (omega arith) n.whole n.holes (omega arith) few
    n.unmet)
    (found_accepted T ok most_goals most_total a b h.root h.is_root good (omega arith) n.whole n.holes n.unmet)
