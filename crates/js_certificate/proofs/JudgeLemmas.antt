-- What is reported after a fault, and for which bytes a judge then stands.
use Rattle.std.proofs.Common.{◌≡◌, ℕ, List, [], ◌++◌, Option, Some, None, sym, subst, append_assoc, append-nil}
use Rattle.positions.specs.Position.{Position}
use Rattle.verdicts.specs.Verdict.{verdict_of_bytes}
use Rattle.js_checker.specs.Faults.{Tells}
use Rattle.js_checker.specs.declared.fault.CheckFault.{CheckFault}
use Rattle.js_certificate.specs.Broken.{AreBroken}
use Rattle.js_certificate.specs.LinesView.{table_of, premise_of, conclusion_of, AreJudged}
use Rattle.js_certificate.specs.JudgeView.{StandsUnless}
use Rattle.js_certificate.specs.declared.lines.LineJudge.{LineJudge}
use Rattle.js_certificate.proofs.PartLemmas.{broken_longer}

pub told_more : (o : Option CheckFault) (f : CheckFault) (p : LineJudge) (bytes more : List ℕ) → o ≡ Some f
    → StandsUnless o p bytes
    → Tells f (verdict_of_bytes (table_of p) (premise_of p) (conclusion_of p) (bytes ++ more))
told_more o f p bytes more e h =
    let all : AreBroken (table_of p) (premise_of p) (conclusion_of p) f bytes =
    subst (λ w. StandsUnless w p bytes) e h in
    all more

pub told_whole : (o : Option CheckFault) (f : CheckFault) (p : LineJudge) (bytes : List ℕ) → o ≡ Some f
    → StandsUnless o p bytes → Tells f (verdict_of_bytes (table_of p) (premise_of p) (conclusion_of p) bytes)
told_whole o f p bytes e h =
    subst (λ xs. Tells f (verdict_of_bytes (table_of p) (premise_of p) (conclusion_of p) xs)) (append-nil bytes)
    (told_more o f p bytes [] e h)

-- whatever comes after a fault
pub stays_broken : (o : Option CheckFault) (f : CheckFault) (p : LineJudge) (bytes piece : List ℕ) → o ≡ Some f
    → StandsUnless o p bytes → StandsUnless o p (bytes ++ piece)
stays_broken o f p bytes piece e h =
    subst (λ w. StandsUnless w p (bytes ++ piece)) (sym e)
    (broken_longer (table_of p) (premise_of p) (conclusion_of p) f bytes piece
    (subst (λ w. StandsUnless w p bytes) e h))

-- what was judged, and while no fault was met
pub judged_of : (o : Option CheckFault) (p : LineJudge) (bytes : List ℕ) → o ≡ None → StandsUnless o p bytes
    → AreJudged p bytes
judged_of o p bytes e h = subst (λ w. StandsUnless w p bytes) e h

pub breaks_more : (T : List Position) (a b : ℕ) (f : CheckFault) (bytes piece more : List ℕ)
    → AreBroken T a b f (bytes ++ piece) → Tells f (verdict_of_bytes T a b (bytes ++ (piece ++ more)))
breaks_more T a b f bytes piece more h =
    subst (λ xs. Tells f (verdict_of_bytes T a b xs)) (append_assoc bytes piece more) (h more)
