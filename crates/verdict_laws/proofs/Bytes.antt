-- Bytes that are accepted are the text of lines that are accepted, and the text of lines has their verdict.
use Rattle.std.proofs.Common.{◌≡◌, ℕ, suc, List, [], ◌∷◌, Option, Some, None, Result, Ok, Err, refl, ap, ap₂, sym, ◌∙◌}
use Rattle.positions.specs.Position.{Position}
use Rattle.certificate_lines.specs.Line.{Line}
use Rattle.certificate_lines.specs.Text.{IsText}
use Rattle.certificate_lines.specs.Reader.{Fault, NotALine, TooLong, Unfinished, unless}
use Rattle.certificate_lines.specs.Cut.{Cut, cut}
use Rattle.line_laws.proofs.ReaderLaws.{cut-text, text-cut}
use Rattle.verdicts.specs.Verdict.{Stage, Start, Counting, Listing, Showing, Ended, Accepted, step, go_on, judged, at_fault, verdict, verdict_of_cut, verdict_of_bytes}

-- a cut with nothing left and without a fault
whole : (c : Cut) → c.fault ≡ None → c.left ≡ [] → c ≡ record { lines = c.lines; left = []; fault = None }
whole c f l = ap₂ (cut_of c.lines) l f where
  cut_of : List Line → List ℕ → Option Fault → Cut
  cut_of ls held o = record { lines = ls; left = held; fault = o }

module _ (T : List Position) (a b : ℕ) where
  -- the text of lines has their verdict
  pub verdict_of_text : (bytes : List ℕ) (ls : List Line) → IsText bytes ls
      → verdict_of_bytes T a b bytes ≡ verdict T a b ls
  verdict_of_text bytes ls h = ap (verdict_of_cut T a b) (cut-text bytes ls h)

  -- only where nothing is wrong with the bytes are they accepted

  fault_rejects : (f : Fault) (s : Stage) (k : ℕ) → at_fault (Some f) s k ≡ Accepted → ⊥
  fault_rejects (NotALine n) s k e = cc
  fault_rejects (TooLong n) s k e = cc
  fault_rejects Unfinished Ended k e = cc
  fault_rejects Unfinished Start k e = cc
  fault_rejects Unfinished Counting k e = cc
  fault_rejects Unfinished (Listing n gs) k e = cc
  fault_rejects Unfinished (Showing gs ds) k e = cc

  no_fault : (o : Option Fault) (s : Stage) (k : ℕ) (ls : List Line) → judged T a b (at_fault o) s k ls ≡ Accepted
      → o ≡ None
  no_fault None s k ls e = refl
  no_fault (Some f) s k [] e = absurd (fault_rejects f s k e)
  no_fault (Some f) s k (l ∷ ls) e = go (step T a b s l) e (λ u h. no_fault (Some f) u (suc k) ls h) where
    go : (r : Result Stage ℕ) → go_on T a b (λ u. judged T a b (at_fault (Some f)) u (suc k) ls) k r ≡ Accepted
        → ((u : Stage) → judged T a b (at_fault (Some f)) u (suc k) ls ≡ Accepted → Some f ≡ None) → Some f ≡ None
    go (Ok u) h more = more u h
    go (Err r) h more = cc

  nothing_left : (o : Option Fault) (held : List ℕ) → unless o held ≡ None → (o ≡ None) × (held ≡ [])
  nothing_left None [] e = (refl, refl)
  nothing_left None (x ∷ xs) e = cc
  nothing_left (Some f) held e = cc

  -- what accepted bytes are
  pub record IsAccepted (bytes : List ℕ) : Type 0 where
    pub lines : List Line
    pub text : IsText bytes lines
    pub good : verdict T a b lines ≡ Accepted

  pub accepted_text : (bytes : List ℕ) → verdict_of_bytes T a b bytes ≡ Accepted → IsAccepted bytes
  accepted_text bytes e = go (cut bytes) refl e where
    go : (c : Cut) → cut bytes ≡ c → verdict_of_cut T a b c ≡ Accepted → IsAccepted bytes
    go c p h =
        let o = no_fault (unless c.fault c.left) Start 1 c.lines h in
        let (f, l) = nothing_left c.fault c.left o in
        let q : c ≡ record { lines = c.lines; left = []; fault = None } = whole c f l in
        record {
          lines = c.lines;
          text = text-cut bytes c.lines (p ∙ q);
          good = ap (verdict_of_cut T a b) (sym q) ∙ h;
        }
