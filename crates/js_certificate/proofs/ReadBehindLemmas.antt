-- Where a line is rejected, the lines that were judged before come before it: so what was read before the last piece
-- has fewer whole lines than its number and those that wait.
use Rattle.std.proofs.Common.{◌≡◌, ℕ, suc, ◌+◌, ◌<◌, ◌≤◌, Bool, true, false, not, cond, nat_eq, List, [], ◌∷◌, ◌++◌, length, map, Option, Some, None, Result, Ok, Err, refl, ap, sym, ◌∙◌, subst, append_assoc, length-append, arith}
use Rattle.std.specs.Prelude.{⊤}
use Rattle.std.proofs.lemmas.List.{length-map}
use Rattle.std.proofs.lemmas.Bool.{true≢false, and_parts}
use Rattle.documents.specs.Tests.{every}
use Rattle.positions.specs.Position.{Position}
use Rattle.certificate_lines.specs.Line.{Line}
use Rattle.certificate_lines.specs.Text.{words_text, lines_text, is_line, is_short, fits}
use Rattle.certificate_lines.specs.Pieces.{pieces}
use Rattle.certificate_lines.specs.Reading.{line_of}
use Rattle.certificate_lines.specs.Reader.{Fault, NotALine, TooLong, Unfinished, Reader, unless}
use Rattle.certificate_lines.specs.Cut.{stops, begun, cut_from, Stands}
use Rattle.line_laws.proofs.PieceLaws.{lacks}
use Rattle.line_laws.proofs.LineLaws.{words-lack}
use Rattle.line_laws.proofs.ReaderLaws.{is_good, open-cut}
use Rattle.verdicts.specs.Rules.{not_a_line, too_long, no_end, out_of_place}
use Rattle.verdicts.specs.Verdict.{Stage, Start, Counting, Listing, Showing, Ended, Rejected, step, go_on, judged, at_fault, verdict_of_cut, verdict_of_bytes}
use Rattle.js_lines.specs.View.{line_view}
use Rattle.js_checker.specs.Standing.{LeadTo}
use Rattle.js_certificate.specs.LinesView.{table_of, premise_of, conclusion_of, waiting_of, AreJudged, IsWell}
use Rattle.js_certificate.specs.ReadBehind.{whole_lines}
use Rattle.js_certificate.specs.declared.lines.LineJudge.{LineJudge}
use Rattle.js_certificate.proofs.PartLemmas.{none_of, goes_on, going_leads}

-- lines of bytes

whole_lines-append : (xs ys : List ℕ) → whole_lines (xs ++ ys) ≡ whole_lines xs + whole_lines ys
whole_lines-append [] ys = omega arith
whole_lines-append (x ∷ xs) ys = go (nat_eq x 10) (whole_lines-append xs ys) where
  go : (b : Bool) → whole_lines (xs ++ ys) ≡ whole_lines xs + whole_lines ys
      → cond b (suc (whole_lines (xs ++ ys))) (whole_lines (xs ++ ys))
      ≡ cond b (suc (whole_lines xs)) (whole_lines xs) + whole_lines ys
  go true h = omega (arith, h)
  go false h = h

whole_lines-part : (xs : List ℕ) → lacks 10 xs ≡ true → whole_lines xs ≡ 0
whole_lines-part [] h = refl
whole_lines-part (x ∷ xs) h =
    let (other, rest) = and_parts (not (nat_eq x 10)) (lacks 10 xs) h in
    go (nat_eq x 10) other (whole_lines-part xs rest) where
      go : (b : Bool) → not b ≡ true → whole_lines xs ≡ 0 → cond b (suc (whole_lines xs)) (whole_lines xs) ≡ 0
      go true h e = absurd (true≢false (sym h))
      go false h e = e

whole_lines-line : (xs : List ℕ) → lacks 10 xs ≡ true → whole_lines (xs ++ 10 ∷ []) ≡ 1
whole_lines-line xs h =
    let parts = whole_lines-append xs (10 ∷ []) in
    let none = whole_lines-part xs h in
    let one : whole_lines (10 ∷ []) ≡ 1 = refl in
    omega (arith, parts, none, one)

whole_lines-text : (ls : List Line) (held : List ℕ) → every is_good ls ≡ true → lacks 10 held ≡ true
    → whole_lines (lines_text ls ++ held) ≡ length ls
whole_lines-text [] held h clear = whole_lines-part held clear
whole_lines-text (l ∷ ls) held h clear =
    let (good, others) = and_parts (is_good l) (every is_good ls) h in
    let (small, short) = and_parts (is_line l) (is_short l) good in
    let parts = whole_lines-append (words_text l ++ 10 ∷ []) (lines_text ls ++ held) in
    let one = whole_lines-line (words_text l) (words-lack l small) in
    let rest = whole_lines-text ls held others clear in
    ap whole_lines (append_assoc (words_text l ++ 10 ∷ []) (lines_text ls) held) ∙ omega (arith, parts, one, rest)

whole_lines-stands : (bytes : List ℕ) (ls : List Line) (r : Reader) → r.fault ≡ None → Stands bytes ls r
    → whole_lines bytes ≡ length ls
whole_lines-stands bytes ls r sound at =
    let o = open-cut bytes ls r.held (at.cut ∙ ap (λ f. record { lines = ls; left = r.held; fault = f }) sound) in
    ap whole_lines (sym o.text) ∙ whole_lines-text ls r.held o.good o.clear

-- the number of a fault is that of the line behind those that were read

abbrev IsAt : ℕ → Option Fault → Type 0
IsAt n None = ⊤
IsAt n (Some (NotALine k)) = k ≡ n
IsAt n (Some (TooLong k)) = k ≡ n
IsAt n (Some Unfinished) = ⊤

at_same : (m n : ℕ) (o : Option Fault) → m ≡ n → IsAt m o → IsAt n o
at_same m n o e h = subst (λ k. IsAt k o) e h

cut_from-at : (n : ℕ) (ps : List (List ℕ)) → IsAt (n + length (cut_from n ps).lines) (cut_from n ps).fault
cut_from-at n [] = tt
cut_from-at n (p ∷ []) = go (fits p) where
  go : (b : Bool)
      → IsAt (n + length (cond b (record { lines = []; left = p; fault = None }) (stops (TooLong n))).lines)
      (cond b (record { lines = []; left = p; fault = None }) (stops (TooLong n))).fault
  go true = tt
  go false = omega arith
cut_from-at n (p ∷ q ∷ ps) = go (fits p) (line_of p) (cut_from-at (suc n) (q ∷ ps)) where
  go : (b : Bool) (o : Option Line)
      → IsAt (suc n + length (cut_from (suc n) (q ∷ ps)).lines) (cut_from (suc n) (q ∷ ps)).fault
      → IsAt (n + length (cond b (begun n o (cut_from (suc n) (q ∷ ps))) (stops (TooLong n))).lines)
      (cond b (begun n o (cut_from (suc n) (q ∷ ps))) (stops (TooLong n))).fault
  go true (Some l) h =
      let next : suc n + length (cut_from (suc n) (q ∷ ps)).lines
      ≡ n + length (l ∷ (cut_from (suc n) (q ∷ ps)).lines) = omega arith in
      at_same _ _ (cut_from (suc n) (q ∷ ps)).fault next h
  go true None h = omega arith
  go false o h = omega arith

at_left : (n : ℕ) (o : Option Fault) (held : List ℕ) → IsAt n o → IsAt n (unless o held)
at_left n (Some f) held h = h
at_left n None [] h = tt
at_left n None (x ∷ xs) h = tt

-- a line that is rejected isn't before those that are left

same_number : (m q k r : ℕ) → Rejected m q ≡ Rejected k r → m ≡ k
same_number m q k r e = cc

not_before : (m q k r : ℕ) → Rejected m q ≡ Rejected k r → m ≤ k
not_before m q k r e = let same = same_number m q k r e in omega (arith, same)

end_rejected : (o : Option Fault) (s : Stage) (m k r : ℕ) → IsAt m o → at_fault o s m ≡ Rejected k r → m ≤ k
end_rejected None Start m k r at e = not_before m no_end k r e
end_rejected None Counting m k r at e = not_before m no_end k r e
end_rejected None (Listing n gs) m k r at e = not_before m no_end k r e
end_rejected None (Showing gs ds) m k r at e = not_before m no_end k r e
end_rejected None Ended m k r at e = cc
end_rejected (Some Unfinished) Start m k r at e = not_before m no_end k r e
end_rejected (Some Unfinished) Counting m k r at e = not_before m no_end k r e
end_rejected (Some Unfinished) (Listing n gs) m k r at e = not_before m no_end k r e
end_rejected (Some Unfinished) (Showing gs ds) m k r at e = not_before m no_end k r e
end_rejected (Some Unfinished) Ended m k r at e = not_before m out_of_place k r e
end_rejected (Some (NotALine n)) s m k r at e =
    let same = same_number n not_a_line k r e in omega (arith, same, at)
end_rejected (Some (TooLong n)) s m k r at e =
    let same = same_number n too_long k r e in omega (arith, same, at)

module _ (T : List Position) (a b : ℕ) where
  rejected_from : (o : Option Fault) (s : Stage) (m : ℕ) (ls : List Line) (k r : ℕ) → IsAt (m + length ls) o
      → judged T a b (at_fault o) s m ls ≡ Rejected k r → m ≤ k
  rejected_from o s m [] k r at e =
      let here : m + 0 ≡ m = omega arith in end_rejected o s m k r (at_same _ _ o here at) e
  rejected_from o s m (l ∷ ls) k r at e =
      let next : m + length (l ∷ ls) ≡ suc m + length ls = omega arith in
      go (step T a b s l) e (λ u h. rejected_from o u (suc m) ls k r (at_same _ _ o next at) h) where
        go : (x : Result Stage ℕ) → go_on T a b (λ u. judged T a b (at_fault o) u (suc m) ls) m x ≡ Rejected k r
            → ((u : Stage) → judged T a b (at_fault o) u (suc m) ls ≡ Rejected k r → suc m ≤ k) → m ≤ k
        go (Ok u) f later = let more = later u f in omega (arith, more)
        go (Err q) f later = not_before m q k r f

  -- of bytes that begin with lines that led to a stage
  behind_led : (bytes : List ℕ) (taken ls : List Line) (r : Reader) (s : Stage) (n k q : ℕ)
      → Stands bytes (taken ++ ls) r → LeadTo T a b taken s n → verdict_of_bytes T a b bytes ≡ Rejected k q → n < k
  behind_led bytes taken ls r s n k q at led e =
      let o = unless r.fault r.held in
      let parts = length-append taken ls in
      let here : 1 + length (taken ++ ls) ≡ suc n + length ls = omega (arith, parts, led.count) in
      let fault : IsAt (1 + length (taken ++ ls)) r.fault =
      subst (λ c. IsAt (1 + length c.lines) c.fault) at.cut (cut_from-at 1 (pieces 10 bytes)) in
      let verdict : judged T a b (at_fault o) s (suc n) ls ≡ Rejected k q =
      sym (ap (verdict_of_cut T a b) at.cut ∙ led.judged_on (at_fault o) ls) ∙ e in
      rejected_from o s (suc n) ls k q (at_left _ r.fault r.held (at_same _ _ r.fault here fault)) verdict

-- so what was judged has fewer whole lines than the number of the line that is rejected, and those that wait
pub behind_judged : (p : LineJudge) (bytes more : List ℕ) (k q : ℕ) → IsWell p → AreJudged p bytes
    → verdict_of_bytes (table_of p) (premise_of p) (conclusion_of p) (bytes ++ more) ≡ Rejected k q
    → whole_lines bytes < k + waiting_of p
behind_judged p bytes more k q well h e =
    let taken = h.batch.taken in
    let waiting = map line_view p.batch.waiting.items in
    let on = goes_on (length more) bytes more h.lines p.reader (omega arith) h.reader in
    let whole : h.lines ++ on.more ≡ taken ++ (waiting ++ on.more) =
    ap (λ ls. ls ++ on.more) h.batch.all ∙ append_assoc taken waiting on.more in
    let led = going_leads (table_of p) (premise_of p) (conclusion_of p) _ _ _ taken (none_of _ well.going)
    h.batch.checker in
    let below = behind_led (table_of p) (premise_of p) (conclusion_of p) (bytes ++ more) taken (waiting ++ on.more)
    on.reader _ _ k q (subst (λ ls. Stands (bytes ++ more) ls on.reader) whole on.stands) led e in
    let lines = whole_lines-stands bytes h.lines p.reader (none_of _ well.sound) h.reader in
    let all = ap length h.batch.all ∙ length-append taken waiting in
    let many = length-map p.batch.waiting.items line_view in
    omega (arith, below, lines, all, many, led.count, p.batch.waiting.ok.0)
