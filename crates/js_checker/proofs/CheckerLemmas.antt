-- For which lines a checker stands, and what it says of them.
use Rattle.std.proofs.Common.{◌≡◌, ℕ, suc, ◌+◌, List, [], ◌∷◌, ◌++◌, length, Bool, true, false, Option, Some, None, Result, Ok, Err, IfErr, refl, ap, sym, ◌∙◌, subst, arith}
use Rattle.documents.specs.Document.{Document, is_document}
use Rattle.positions.specs.Position.{Position}
use Rattle.positions.specs.Holds.{holds, IsTable}
use Rattle.certificate_lines.specs.Line.{Line}
use Rattle.verdicts.specs.Rules.{no_end, out_of_place}
use Rattle.verdicts.specs.Verdict as V
use Rattle.verdicts.specs.Verdict.{Stage, Start, Ended, Verdict, step, judged, at_end, at_part, verdict}
use Rattle.verdict_laws.proofs.Sound.{accepted_holds}
use Rattle.js_rules.specs.Told.{Breaks}
use Rattle.js_rules.specs.RuleView.{rule_view}
use Rattle.js_rules.specs.declared.fault.RuleFault.{RuleFault}
use Rattle.js_rules.specs.declared.fault.RuleFault.TheVariants as R
use Rattle.js_checker.specs.Standing.{LeadTo, LeadsOver, Stands}
use Rattle.js_checker.specs.Faults.{Tells, fault_at, IsNextAfter}
use Rattle.js_checker.specs.CheckerView.{lines_of, fault_of, standing}
use Rattle.js_checker.specs.declared.fault.CheckFault.{CheckFault}
use Rattle.js_checker.specs.declared.fault.CheckFault.TheVariants as F
use Rattle.js_checker.specs.declared.checker.Checker.{Checker}
use Rattle.js_checker.proofs.StandingLemmas.{no_lines_lead, line_leads, lines_lead, line_breaks, all_rejected, rejected_whole, led_whole, at_end-before, at_part-before}

module _ (T : List Position) (a b : ℕ) where
  abbrev StandsBy : Option CheckFault → Stage → ℕ → List Line → Type 0
  StandsBy o s n ls = Stands T a b (standing o s n) ls

  pub start_reached : (s : Stage) → s ≡ Start → ((ls : List Line) → LeadTo T a b ls s 0 → ⊥) → ⊥
  start_reached s e h = h [] (subst (λ u. LeadTo T a b [] u 0) (sym e) (no_lines_lead T a b))

  -- a line that is taken
  module _ (l : Line) (s u : Stage) (n : ℕ) (taken : step T a b s l ≡ Ok u) where
    pub next_reached : (((ls : List Line) → LeadTo T a b ls s n → ⊥) → ⊥)
        → ((ls : List Line) → LeadTo T a b ls u (n + 1) → ⊥) → ⊥
    next_reached reached h = reached (λ ls led. h (ls ++ l ∷ []) (line_leads T a b ls l s n led u (n + 1) refl taken))

    pub next_stands : (o : Option CheckFault) (ls : List Line) → o ≡ None → StandsBy o s n ls
        → StandsBy o u (n + 1) (ls ++ l ∷ [])
    next_stands o ls none h =
        subst (λ p. StandsBy p u (n + 1) (ls ++ l ∷ [])) (sym none)
        (line_leads T a b ls l s n (subst (λ p. StandsBy p s n ls) none h) u (n + 1) refl taken)

  -- lines that lead over to another stage
  module _ (xs : List Line) (s u : Stage) (n m : ℕ) (count : m ≡ n + length xs) (over : LeadsOver T a b s xs u) where
    pub lines_reached : (((ls : List Line) → LeadTo T a b ls s n → ⊥) → ⊥)
        → ((ls : List Line) → LeadTo T a b ls u m → ⊥) → ⊥
    lines_reached reached h = reached (λ ls led. h (ls ++ xs) (lines_lead T a b ls xs s u n m count over led))

    pub lines_stand : (o : Option CheckFault) (ls : List Line) → o ≡ None → StandsBy o s n ls
        → StandsBy o u m (ls ++ xs)
    lines_stand o ls none h =
        subst (λ p. StandsBy p u m (ls ++ xs)) (sym none)
        (lines_lead T a b ls xs s u n m count over (subst (λ p. StandsBy p s n ls) none h))

  -- after a fault, whatever comes
  fault_stands : (fault : CheckFault) (s : Stage) (n : ℕ) (ls xs : List Line) → StandsBy (Some fault) s n ls
      → StandsBy (Some fault) s n (ls ++ xs)
  fault_stands (F.Rejected k r) s n ls xs h = all_rejected T a b ls xs k r h
  fault_stands F.Memory s n ls xs h = tt

  pub stopped_stands : (o : Option CheckFault) (fault : CheckFault) (s : Stage) (n : ℕ) (ls xs : List Line)
      → o ≡ Some fault → StandsBy o s n ls → StandsBy o s n (ls ++ xs)
  stopped_stands o fault s n ls xs e h =
      subst (λ p. StandsBy p s n (ls ++ xs)) (sym e)
      (fault_stands fault s n ls xs (subst (λ p. StandsBy p s n ls) e h))

  -- a line that breaks a rule
  broken_by : (l : Line) (s u : Stage) (n m : ℕ) (ls : List Line) (fault : RuleFault)
      → Breaks (step T a b s l) fault → LeadTo T a b ls s n
      → StandsBy (Some (fault_at (n + 1) fault)) u m (ls ++ l ∷ [])
  broken_by l s u n m ls (R.Breaks r) h led = line_breaks T a b ls l s n led (n + 1) (rule_view r) refl h
  broken_by l s u n m ls R.Memory h led = tt

  pub broken_stands : (l : Line) (s u : Stage) (n m : ℕ) (ls : List Line) (fault : RuleFault) (told : CheckFault)
      (o : Option CheckFault) → o ≡ None → told ≡ fault_at (n + 1) fault → Breaks (step T a b s l) fault
      → StandsBy o s n ls → StandsBy (Some told) u m (ls ++ l ∷ [])
  broken_stands l s u n m ls fault told o none e h stands =
      subst (λ f. StandsBy (Some f) u m (ls ++ l ∷ [])) (sym e)
      (broken_by l s u n m ls fault h (subst (λ p. StandsBy p s n ls) none stands))

  -- after a fault
  told_whole : (finish : Stage → ℕ → Verdict) (fault : CheckFault) (s : Stage) (n : ℕ) (ls : List Line)
      → StandsBy (Some fault) s n ls → Tells fault (judged T a b finish Start 1 ls)
  told_whole finish (F.Rejected k r) s n ls h = rejected_whole T a b finish ls k r h
  told_whole finish F.Memory s n ls h = tt

  -- a fault that a stage has stays the verdict at each end
  pub told_again : (finish : Stage → ℕ → Verdict) (o : Option CheckFault) (fault : CheckFault) (s : Stage) (n : ℕ)
      (ls : List Line) → o ≡ Some fault → StandsBy o s n ls → Tells fault (judged T a b finish Start 1 ls)
  told_again finish o fault s n ls e h = told_whole finish fault s n ls (subst (λ p. StandsBy p s n ls) e h)

  -- at the end
  module _ (o : Option CheckFault) (s : Stage) (n : ℕ) (none : o ≡ None) where
    pub whole : (finish : Stage → ℕ → Verdict) (ls : List Line) → StandsBy o s n ls
        → judged T a b finish Start 1 ls ≡ finish s (suc n)
    whole finish ls h = led_whole T a b finish ls s n (subst (λ p. StandsBy p s n ls) none h)

    pub ended_accepted : s ≡ Ended → (ls : List Line) → StandsBy o s n ls → verdict T a b ls ≡ V.Accepted
    ended_accepted e ls h = whole at_end ls h ∙ ap (λ u. at_end u (suc n)) e

    pub ended_part : s ≡ Ended → (ls : List Line) → StandsBy o s n ls
        → judged T a b at_part Start 1 ls ≡ V.Rejected (suc n) out_of_place
    ended_part e ls h = whole at_part ls h ∙ ap (λ u. at_part u (suc n)) e

    module _ (open_ : s ≡ Ended → ⊥) (rule : ℕ) (is_rule : rule ≡ no_end) where
      told_there : V.Rejected (suc n) no_end ≡ V.Rejected (n + 1) rule
      told_there = let count : suc n ≡ n + 1 = omega arith in λ i. V.Rejected (count i) (sym is_rule i)

      pub open_rejected : (ls : List Line) → StandsBy o s n ls → verdict T a b ls ≡ V.Rejected (n + 1) rule
      open_rejected ls h = whole at_end ls h ∙ at_end-before T a b s (suc n) open_ ∙ told_there

      pub open_part : (ls : List Line) → StandsBy o s n ls
          → judged T a b at_part Start 1 ls ≡ V.Rejected (n + 1) rule
      open_part ls h = whole at_part ls h ∙ at_part-before T a b s (suc n) open_ ∙ told_there

  -- what is accepted is right
  pub ended_sound : IsTable T → (s : Stage) (n : ℕ) → s ≡ Ended
      → (((ls : List Line) → LeadTo T a b ls s n → ⊥) → ⊥)
      → (J : Document) → is_document J ≡ true → holds T a J ≡ true → holds T b J ≡ true
  ended_sound ok s n e reached J good h = go (holds T b J) refl where
    go : (c : Bool) → holds T b J ≡ c → c ≡ true
    go true f = refl
    go false f = absurd (reached (λ ls led.
        let right : holds T b J ≡ true =
        accepted_holds T ok a b ls (led_whole T a b at_end ls s n led ∙ ap (λ u. at_end u (suc n)) e) J good h in
        cc))

-- the number of the line that is rejected

-- while no fault was met, none is reported
pub none_next : (o : Option CheckFault) (n : ℕ) → o ≡ None → (k r : ℕ) → o ≡ Some (F.Rejected k r) → k ≡ n
none_next o n none k r e = cc

-- a fault that a checker has tells of the next line
pub told_next : (c : Checker) (fault : CheckFault) → fault_of c ≡ Some fault → IsNextAfter (lines_of c) fault
told_next c (F.Rejected k r) e = c.next k r e
told_next c F.Memory e = tt

-- so does one that a call answers
pub stopped_next : {A : Type 0} (c : Checker) (r : Result A CheckFault) → IfErr r (λ fault. fault_of c ≡ Some fault)
    → IfErr r (IsNextAfter (lines_of c))
stopped_next c (Ok x) h = tt
stopped_next c (Err fault) h = told_next c fault h
