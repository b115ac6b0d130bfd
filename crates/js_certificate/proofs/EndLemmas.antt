-- What is reported where no byte follows, from what is reported of the lines.
use Rattle.std.proofs.Common.{◌≡◌, ℕ, List, [], ◌∷◌, Option, Some, None, Result, Ok, Err, refl, ap, sym, ◌∙◌, subst}
use Rattle.positions.specs.Position.{Position}
use Rattle.certificate_lines.specs.Line.{Line}
use Rattle.certificate_lines.specs.Reader.{Fault, Reader, unless}
use Rattle.certificate_lines.specs.Cut.{Stands}
use Rattle.verdicts.specs.Verdict.{Stage, Start, Verdict, judged, at_end, at_part, at_fault, verdict_of_cut, verdict_of_bytes}
use Rattle.js_lines.specs.Answers.{answer}
use Rattle.js_lines.specs.declared.fault.LineFault.{LineFault}
use Rattle.js_checker.specs.Faults.{Tells}
use Rattle.js_checker.specs.declared.fault.CheckFault.{CheckFault}

-- a fact of a table and two positions is one of equal ones
pub question_same : (P : List Position → ℕ → ℕ → Type 0) (T U : List Position) (a b c d : ℕ) → T ≡ U → a ≡ c → b ≡ d
    → P T a b → P U c d
question_same P T U a b c d t p q h =
    subst (λ z. P U c z) q (subst (λ y. P U y b) p (subst (λ x. P x a b) t h))

abbrev answered : Option Fault → Result (Unit {0}) LineFault
answered o = answer tt o

no_fault : (o : Option Fault) (x : Unit {0}) → Ok x ≡ answered o → o ≡ None
no_fault None x e = refl
no_fault (Some f) x e = cc

module _ (T : List Position) (a b : ℕ) (bytes : List ℕ) (ls : List Line) (r : Reader) (at : Stands bytes ls r) where
  abbrev ends : (Stage → ℕ → Verdict) → Verdict
  ends finish = judged T a b finish Start 1 ls

  -- where no part of a line is held, the verdict is that of the lines at their end
  pub end_whole : (x : Unit {0}) → Ok x ≡ answered (unless r.fault r.held) → verdict_of_bytes T a b bytes ≡ ends at_end
  end_whole x e =
      ap (verdict_of_cut T a b) at.cut ∙ ap (λ o. ends (at_fault o)) (no_fault (unless r.fault r.held) x e)

  module _ (none : r.fault ≡ None) where
    here : verdict_of_bytes T a b bytes ≡ ends (at_fault (unless None r.held))
    here = ap (verdict_of_cut T a b) at.cut ∙ ap (λ o. ends (at_fault (unless o r.held))) none

    -- a part of a line is held
    pub end_part : (e : LineFault) → Err e ≡ answered (unless r.fault r.held)
        → verdict_of_bytes T a b bytes ≡ ends at_part
    end_part e h = here ∙ go r.held (h ∙ ap (λ o. answered (unless o r.held)) none) where
      go : (xs : List ℕ) → Err e ≡ answered (unless None xs) → ends (at_fault (unless None xs)) ≡ ends at_part
      go [] f = cc
      go (x ∷ xs) f = refl

    -- a fault for both ends, of a line and within one, is one for the bytes
    pub end_told : (f : CheckFault) → Tells f (ends at_end) → Tells f (ends at_part)
        → Tells f (verdict_of_bytes T a b bytes)
    end_told f whole part = subst (Tells f) (sym here) (go r.held) where
      go : (xs : List ℕ) → Tells f (ends (at_fault (unless None xs)))
      go [] = whole
      go (x ∷ xs) = part
