-- For which lines a stage stands, a line later and at the end.
use Rattle.std.proofs.Common.{◌≡◌, ℕ, suc, ◌+◌, List, [], ◌∷◌, ◌++◌, length, Bool, true, false, Option, Some, None, Result, Ok, Err, refl, ap, ap₂, sym, ◌∙◌, subst, append_assoc, arith}
use Rattle.std.proofs.lemmas.List.{append-nil}
use Rattle.std.proofs.Common.{length-append}
use Rattle.documents.specs.Document.{Document, is_document}
use Rattle.positions.specs.Position.{Position}
use Rattle.certificate_lines.specs.Line.{Line}
use Rattle.verdicts.specs.Rules.{no_end, out_of_place}
use Rattle.verdicts.specs.Verdict.{Stage, Start, Counting, Listing, Showing, Ended, Verdict, Accepted, Rejected, step, go_on, judged, at_end, at_part}
use Rattle.js_checker.specs.Standing.{LeadTo, LeadsOver, AreRejected}

module _ (T : List Position) (a b : ℕ) where
  abbrev judge : (Stage → ℕ → Verdict) → Stage → ℕ → List Line → Verdict
  judge finish s k ls = judged T a b finish s k ls

  pub no_lines_lead : LeadTo T a b [] Start 0
  no_lines_lead = record { count = refl; judged_on = λ finish more. refl }

  -- a line later
  module _ (ls : List Line) (l : Line) (s : Stage) (n : ℕ) (led : LeadTo T a b ls s n) where
    next : (finish : Stage → ℕ → Verdict) (more : List Line)
        → judge finish Start 1 ((ls ++ l ∷ []) ++ more)
        ≡ go_on T a b (λ u. judge finish u (suc (suc n)) more) (suc n) (step T a b s l)
    next finish more = ap (judge finish Start 1) (append_assoc ls (l ∷ []) more) ∙ led.judged_on finish (l ∷ more)

    pub line_leads : (u : Stage) (m : ℕ) → m ≡ n + 1 → step T a b s l ≡ Ok u → LeadTo T a b (ls ++ l ∷ []) u m
    line_leads u m count e =
        let count' : m ≡ suc n = omega (arith, count) in
        subst (λ k. LeadTo T a b (ls ++ l ∷ []) u k) (sym count') (record {
          count = length-append ls (l ∷ []) ∙ omega (arith, led.count);
          judged_on = λ finish more.
              next finish more ∙ ap (go_on T a b (λ u. judge finish u (suc (suc n)) more) (suc n)) e;
        })

    pub line_breaks : (k r : ℕ) → k ≡ n + 1 → step T a b s l ≡ Err r → AreRejected T a b (ls ++ l ∷ []) k r
    line_breaks k r count e finish more =
        let count' : suc n ≡ k = omega (arith, count) in
        next finish more ∙ ap (go_on T a b (λ u. judge finish u (suc (suc n)) more) (suc n)) e
        ∙ ap (λ m. Rejected m r) count'

  pub all_rejected : (ls xs : List Line) (k r : ℕ) → AreRejected T a b ls k r → AreRejected T a b (ls ++ xs) k r
  all_rejected ls xs k r h finish more =
      ap (judge finish Start 1) (append_assoc ls xs more) ∙ h finish (xs ++ more)

  -- lines later
  pub lines_lead : (ls xs : List Line) (s u : Stage) (n m : ℕ) → m ≡ n + length xs → LeadsOver T a b s xs u
      → LeadTo T a b ls s n → LeadTo T a b (ls ++ xs) u m
  lines_lead ls xs s u n m count over led = record {
    count = length-append ls xs ∙ omega (arith, led.count, count);
    judged_on = λ finish more.
        let next : suc n + length xs ≡ suc m = omega (arith, count) in
        ap (judge finish Start 1) (append_assoc ls xs more) ∙ led.judged_on finish (xs ++ more)
        ∙ over finish (suc n) more ∙ ap (λ k. judge finish u k more) next;
  }

  -- at the end
  pub rejected_whole : (finish : Stage → ℕ → Verdict) (ls : List Line) (k r : ℕ) → AreRejected T a b ls k r
      → judge finish Start 1 ls ≡ Rejected k r
  rejected_whole finish ls k r h = sym (ap (judge finish Start 1) (append-nil ls)) ∙ h finish []

  pub led_whole : (finish : Stage → ℕ → Verdict) (ls : List Line) (s : Stage) (n : ℕ) → LeadTo T a b ls s n
      → judge finish Start 1 ls ≡ finish s (suc n)
  led_whole finish ls s n led = sym (ap (judge finish Start 1) (append-nil ls)) ∙ led.judged_on finish []

  pub at_end-before : (s : Stage) (k : ℕ) → (s ≡ Ended → ⊥) → at_end s k ≡ Rejected k no_end
  at_end-before Start k h = refl
  at_end-before Counting k h = refl
  at_end-before (Listing n gs) k h = refl
  at_end-before (Showing gs ds) k h = refl
  at_end-before Ended k h = absurd (h refl)

  pub at_part-before : (s : Stage) (k : ℕ) → (s ≡ Ended → ⊥) → at_part s k ≡ Rejected k no_end
  at_part-before Start k h = refl
  at_part-before Counting k h = refl
  at_part-before (Listing n gs) k h = refl
  at_part-before (Showing gs ds) k h = refl
  at_part-before Ended k h = absurd (h refl)
