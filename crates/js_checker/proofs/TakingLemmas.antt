-- Lists of lines that a checker took.
use Rattle.std.proofs.Common.{◌≡◌, ℕ, ◌+◌, ◌<◌, List, [], ◌∷◌, ◌++◌, map, flat_map, length, take, drop, get_or, Option, Some, Result, IfErr, refl, ap, sym, ◌∙◌, subst, append_assoc, append-nil, length-append, arith}
use Rattle.std.proofs.lemmas.List.{drop_more, take-append-drop, map-append}
use Rattle.std.proofs.lemmas.Grind.{flat_map-append}
use Rattle.certificate_lines.specs.Line.{Line}
use Rattle.verdicts.specs.Verdict.{at_end, verdict}
use Rattle.js_lines.specs.View.{line_view}
use Rattle.js_lines.specs.declared.lines.CertLine.{CertLine}
use Rattle.js_checker.specs.Faults.{Tells}
use Rattle.js_checker.specs.JudgeView.{stage_of}
use Rattle.js_checker.specs.CheckerView.{table_of, premise_of, conclusion_of, fault_of, StandsFor, IsSameQuestion}
use Rattle.js_checker.specs.Entries.{joined}
use Rattle.js_checker.specs.declared.fault.CheckFault.{CheckFault}
use Rattle.js_checker.specs.declared.checker.Checker.{Checker}
use Rattle.js_checker.specs.declared.piece.Piece.{Piece}
use Rattle.js_checker.proofs.Results.{if_err}
use Rattle.js_checker.proofs.CheckerLemmas.{told_again, stopped_stands}

-- where the first checker stands for lines, the second one stands for these and then more
abbrev pub Took : Checker → Checker → List Line → Type 0
Took c d xs = (ls : List Line) → StandsFor c ls → StandsFor d (ls ++ xs)

pub took_none : (c : Checker) → Took c c []
took_none c ls h = subst (StandsFor c) (sym (append-nil ls)) h

pub took_on : (c d e : Checker) (xs ys zs : List Line) → Took c d xs → Took d e ys → xs ++ ys ≡ zs → Took c e zs
took_on c d e xs ys zs f g same ls h =
    subst (StandsFor e) (append_assoc ls xs ys ∙ ap (λ z. ls ++ z) same) (g (ls ++ xs) (f ls h))

-- lines that were taken are taken as an equal list
pub took_same : (c d : Checker) (xs zs : List Line) → Took c d xs → xs ≡ zs → Took c d zs
took_same c d xs zs f same = subst (Took c d) same f

-- after a fault whatever comes is taken
pub took_stopped : (c d : Checker) (fault : CheckFault) (xs ys zs : List Line) → fault_of d ≡ Some fault → Took c d xs
    → xs ++ ys ≡ zs → Took c d zs
took_stopped c d fault xs ys zs e f same ls h =
    subst (StandsFor d) (append_assoc ls xs ys ∙ ap (λ z. ls ++ z) same)
    (stopped_stands (table_of d) (premise_of d) (conclusion_of d) d.fault fault (stage_of d.judge) d.lines (ls ++ xs)
    ys e (f ls h))

-- the fault gives the verdict, whatever comes
pub took_told : (c d : Checker) (fault : CheckFault) (xs : List Line) → fault_of d ≡ Some fault → IsSameQuestion c d
    → Took c d xs → (ls more : List Line) → StandsFor c ls
    → Tells fault (verdict (table_of c) (premise_of c) (conclusion_of c) (ls ++ (xs ++ more)))
took_told c d fault xs e same f ls more h =
    let all : StandsFor d (ls ++ (xs ++ more)) = took_stopped c d fault xs more (xs ++ more) e f refl ls h in
    let told : Tells fault (verdict (table_of d) (premise_of d) (conclusion_of d) (ls ++ (xs ++ more))) =
    told_again (table_of d) (premise_of d) (conclusion_of d) at_end d.fault fault (stage_of d.judge) d.lines
    (ls ++ (xs ++ more)) e all in
    subst (λ T. Tells fault (verdict T (premise_of c) (conclusion_of c) (ls ++ (xs ++ more)))) same.table
    (subst (λ a. Tells fault (verdict (table_of d) a (conclusion_of c) (ls ++ (xs ++ more)))) same.premise
    (subst (λ b. Tells fault (verdict (table_of d) (premise_of d) b (ls ++ (xs ++ more)))) same.conclusion told))

-- a fault that is answered is the verdict, whatever lines follow
pub all_told : {A : Type 0} (c d : Checker) (xs : List Line) (r : Result A CheckFault)
    → IfErr r (λ fault. fault_of d ≡ Some fault) → IsSameQuestion c d → Took c d xs
    → IfErr r (λ fault. (ls more : List Line) → StandsFor c ls
    → Tells fault (verdict (table_of c) (premise_of c) (conclusion_of c) (ls ++ (xs ++ more))))
all_told c d xs r stopped same f = if_err r (λ fault e. took_told c d fault xs e same f) stopped

-- lines in two parts, and in three
pub both_parts : (xs front behind : List CertLine) → xs ≡ front ++ behind
    → map line_view front ++ map line_view behind ≡ map line_view xs
both_parts xs front behind e = sym (map-append line_view front behind) ∙ ap (map line_view) (sym e)

pub three_parts : (xs front behind middle last : List CertLine) → xs ≡ front ++ behind → behind ≡ middle ++ last
    → (map line_view front ++ map line_view middle) ++ map line_view last ≡ map line_view xs
three_parts xs front behind middle last e f =
    append_assoc (map line_view front) (map line_view middle) (map line_view last)
    ∙ ap (λ ys. map line_view front ++ ys) (both_parts behind middle last f) ∙ both_parts xs front behind e

pub same_question : (c d e : Checker) → IsSameQuestion c d → IsSameQuestion d e → IsSameQuestion c e
same_question c d e p q = record {
  table = q.table ∙ p.table;
  premise = q.premise ∙ p.premise;
  conclusion = q.conclusion ∙ p.conclusion;
}

-- the lines of pieces: up to one, and of that one
module _ (ps : List Piece) (i : ℕ) (p : Piece) (inside : i < length ps) (read : p ≡ get_or ps i p) where
  pub joined_around : joined (take i ps) ++ (p.lines.now ++ joined (drop (i + 1) ps)) ≡ joined ps
  joined_around =
      ap (λ q. joined (take i ps) ++ joined (q ∷ drop (i + 1) ps)) read
      ∙ ap (λ qs. joined (take i ps) ++ joined qs) (sym (drop_more ps i p inside))
      ∙ sym (flat_map-append (λ q. q.lines.now) (take i ps) (drop i ps)) ∙ ap joined (take-append-drop i ps)

  pub views_around : (map line_view (joined (take i ps)) ++ map line_view p.lines.now)
      ++ map line_view (joined (drop (i + 1) ps)) ≡ map line_view (joined ps)
  views_around =
      ap (λ ys. ys ++ map line_view (joined (drop (i + 1) ps)))
      (sym (map-append line_view (joined (take i ps)) p.lines.now))
      ∙ sym (map-append line_view (joined (take i ps) ++ p.lines.now) (joined (drop (i + 1) ps)))
      ∙ ap (map line_view) (append_assoc (joined (take i ps)) p.lines.now (joined (drop (i + 1) ps)) ∙ joined_around)

  pub lengths_around : length (joined ps)
      ≡ length (joined (take i ps)) + (length p.lines.now + length (joined (drop (i + 1) ps)))
  lengths_around =
      let parts = length-append (joined (take i ps)) (p.lines.now ++ joined (drop (i + 1) ps)) in
      let behind = length-append p.lines.now (joined (drop (i + 1) ps)) in
      ap length (sym joined_around) ∙ omega (arith, parts, behind)
