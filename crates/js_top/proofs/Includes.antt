-- What a report that was made says of a command.
use Rattle.std.proofs.Common.{◌≡◌, ◌⊎◌, inl, inr, ℕ, ◌<◌, List, ◌∷◌, ◌++◌, codes, decimal, encode_utf8_all, Bool, true, false, is_none, Option, Some, None, Result, Ok, Err, IfOk, ap, sym, ◌∙◌, subst, refl, arith}
use Rattle.std.specs.Io.KnownBytes.{Appends}
use Rattle.std.specs.Prelude.{IsSome}
use Rattle.families.specs.Families.{Family}
use Rattle.js_outside.specs.Told.{Files}
use Rattle.js_outside.specs.Counts.{Rose}
use Rattle.js_words.specs.Commands.{Command, Sat, Include, Valid, Check, Norm, Gen, command}
use Rattle.js_commands.specs.IncludeOutcome.{Answer, Decided, IsComparison}
use Rattle.js_commands.specs.IncludeMeaning.{MeansFor}
use Rattle.js_commands.specs.GenOutcome as G
use Rattle.js_commands.specs.GenOutcome.{IsFamilyInclusion}
use Rattle.js_commands.specs.GenMeaning as GM
use Rattle.js_commands.specs.ReadBehind.{IsReadToLine}
use Rattle.js_top.specs.Checking.{IsReadNoFurtherOf}
use Rattle.js_top.specs.Report.{Report, printed, finding_of, finding_status, answer_report, generated_report, IsReadBack, IsComparedReport, IsGenReport, IsReportOf}
use Rattle.js_top.specs.Names.{judges_of, IsCheckBySeveral}
use Rattle.js_top.specs.Running.{IsReadNoticed}
use Rattle.js_top.specs.Preparing.{report_of, is_answer, AsJudged, CountsOf, CountsRefused, PreparedSays, ReportSays, ReportSaysBy, IsReadToReport, IsReadOf, IsNoReadFault}
use Rattle.js_top.specs.declared.finding.Finding.{Finding}
use Rattle.js_top.specs.declared.finding.Finding.TheVariants as F
use Rattle.js_top.specs.declared.prepare.Prepared.{Prepared}
use Rattle.js_top.specs.declared.prepare.Prepared.TheVariants.{Usage, ReadFault, Made}
use Rattle.js_top.specs.declared.status.Status.{Status}
use Rattle.js_top.specs.declared.status.Status.TheVariants as S

-- two facts of one result
pub IfOk-both : {A E : Type 0} (r : Result A E) (P Q R : A → Type 0) → IfOk r P → IfOk r Q
    → ((x : A) → P x → Q x → R x) → IfOk r R
IfOk-both (Ok x) P Q R h k f = f x h k
IfOk-both (Err e) P Q R h k f = tt

pub is_answer-finding : (is_sat : Bool) (f : Finding) → is_answer (finding_status is_sat f) ≡ true
is_answer-finding true F.Document = refl
is_answer-finding true F.Nothing = refl
is_answer-finding true F.Limit = refl
is_answer-finding false F.Document = refl
is_answer-finding false F.Nothing = refl
is_answer-finding false F.Limit = refl

-- a report that answers was made, and says what was to be said
pub ReportSays-answer : (is : Report → Type 0) (before mid after : ℕ) (p : Prepared) (r : Report) → mid ≡ before
    → after ≡ mid
    → report_of p ≡ r → is_answer r.status ≡ true → is r
    → ReportSays is before after p
ReportSays-answer is before mid after Usage r m n e i h = let wrong = ap (λ x. is_answer x.status) e ∙ i in cc
ReportSays-answer is before mid after ReadFault r m n e i h = let wrong = ap (λ x. is_answer x.status) e ∙ i in cc
ReportSays-answer is before mid after (Made bytes status) r m n e i h =
    (n ∙ m, ap (λ x. is_answer x.status) e ∙ i, subst is (sym e) h)

-- what is prepared for `check` says that its answer holds, where a count may have risen
pub ReportSays-checked : (is : Report → Type 0) (workers before after : ℕ) (p : Prepared) (r : Report)
    → AsJudged workers r.status before after → report_of p ≡ r → is_answer r.status ≡ true → is r
    → ReportSaysBy (AsJudged workers) is before after p
ReportSays-checked is workers before after Usage r n e i h = let wrong = ap (λ x. is_answer x.status) e ∙ i in cc
ReportSays-checked is workers before after ReadFault r n e i h = let wrong = ap (λ x. is_answer x.status) e ∙ i in cc
ReportSays-checked is workers before after (Made bytes status) r n e i h = (
  subst (λ x. AsJudged workers x before after) (sym (ap (λ x. x.status) e)) n,
  ap (λ x. is_answer x.status) e ∙ i,
  subst is (sym e) h,
)

pub ReportSays-weaker : (F G : Status → ℕ → ℕ → Type 0) (A B : Report → Type 0)
    → ((s : Status) (m n : ℕ) → F s m n → G s m n) → ((r : Report) → A r → B r) → (before after : ℕ) (p : Prepared)
    → ReportSaysBy F A before after p → ReportSaysBy G B before after p
ReportSays-weaker F G A B f g before after Usage says = says
ReportSays-weaker F G A B f g before after ReadFault says = says
ReportSays-weaker F G A B f g before after (Made bytes status) (n, a, is) =
    (f status before after n, a, g (record { text = bytes.items; status = status }) is)

-- what was found of schemas
pub ReportSays-found : (told : Option Files) (a : List ℕ) (second : Option (List ℕ)) (x : Answer)
    (before mid after : ℕ) (p : Prepared) (is_sat : Bool) → mid ≡ before → after ≡ mid → is_sat ≡ is_none second
    → IsComparison told a second (Decided x) → MeansFor told a second (Decided x)
    → report_of p ≡ answer_report is_sat x → IsReadBack x (report_of p).text
    → ReportSays (IsComparedReport told a second) before after p
ReportSays-found told a second x before mid after p is_sat m n s comes means e back =
    let whole = e ∙ ap (λ b. answer_report b x) s in
    ReportSays-answer (IsComparedReport told a second) before mid after p (answer_report (is_none second) x) m n whole
    (is_answer-finding (is_none second) (finding_of x))
    (Decided x, comes, means, subst (λ r. IsReadBack x r.text) whole back, refl)

-- what was found of a family's schemas
pub ReportSays-generated : (f : Family) (n : ℕ) (x : Answer) (goals rounds faults : ℕ) (p : Prepared)
    → IsFamilyInclusion f n (G.Decided x goals rounds) → GM.MeansFor f n (G.Decided x goals rounds)
    → report_of p ≡ generated_report f n (G.Decided x goals rounds)
    → ReportSays (IsGenReport f n) faults faults p
ReportSays-generated f n x goals rounds faults p comes means e =
    ReportSays-answer (IsGenReport f n) faults faults faults p (generated_report f n (G.Decided x goals rounds)) refl
    refl e (is_answer-finding false (finding_of x)) (G.Decided x goals rounds, comes, means, refl)

-- a report of a command is one of the words that give it
pub PreparedSays-command : (told : Option Files) (words : List (List ℕ)) (c : Command) (before after : ℕ) (p : Prepared)
    → command words ≡ Some c → ReportSaysBy (CountsOf (Some c)) (IsReportOf told (Some c)) before after p
    → PreparedSays told words before after p
PreparedSays-command told words c before after Usage e says = absurd says
PreparedSays-command told words c before after ReadFault e says = (says, subst IsSome (sym e) refl)
PreparedSays-command told words c before after (Made bytes status) e (n, a, is) = (
  subst (λ o. CountsOf o status before after) (sym e) n,
  a,
  subst (λ o. IsReportOf told o (record { text = bytes.items; status = status })) (sym e) is,
  subst IsSome (sym e) refl,
)

-- where no file is reported as one that couldn't be read, the status isn't that
pub no_read_fault : (told : Option Files) (words : List (List ℕ)) (before after : ℕ) (p : Prepared)
    → PreparedSays told words before after p → IsNoReadFault p → (report_of p).status ≡ S.ReadFault → ⊥
no_read_fault told words before after Usage says made e = cc
no_read_fault told words before after ReadFault says made e = made
no_read_fault told words before after (Made bytes status) says made e =
    let wrong : is_answer S.ReadFault ≡ true = ap is_answer (sym e) ∙ says.1 in cc

-- memory was refused

pub refused-command : (words : List (List ℕ)) (c : Command) (before after : ℕ) → command words ≡ Some c
    → CountsRefused (Some c) before after → CountsRefused (command words) before after
refused-command words c before after e counts = subst (λ o. CountsRefused o before after) (sym e) counts

pub refused-same : (o : Option Command) (n : ℕ) → CountsRefused o n n
refused-same None n = refl
refused-same (Some (Sat a w)) n = refl
refused-same (Some (Include a b w)) n = refl
refused-same (Some (Valid a d)) n = refl
refused-same (Some (Check a b c w)) n = inl refl
refused-same (Some (Norm a)) n = refl
refused-same (Some (Gen f m w)) n = refl

-- a count that rose with a report that was made: a line of a certificate is rejected

pub counts-made : (o : Option Command) (status : Status) (before after : ℕ) → CountsOf o status before after
    → (after ≡ before) ⊎ (Rose before after × (1 < judges_of o) × (status ≡ S.Other))
counts-made None status before after same = inl same
counts-made (Some (Sat a w)) status before after same = inl same
counts-made (Some (Include a b w)) status before after same = inl same
counts-made (Some (Valid a d)) status before after same = inl same
counts-made (Some (Norm a)) status before after same = inl same
counts-made (Some (Gen f n w)) status before after same = inl same
counts-made (Some (Check a b c w)) S.Done before after same = inl same
counts-made (Some (Check a b c w)) S.Other before after (inl same) = inl same
counts-made (Some (Check a b c w)) S.Other before after (inr (several, rose)) = inr (rose, several, refl)
counts-made (Some (Check a b c w)) S.Usage before after same = inl same
counts-made (Some (Check a b c w)) S.Refused before after same = inl same
counts-made (Some (Check a b c w)) S.Limit before after same = inl same
counts-made (Some (Check a b c w)) S.ReadFault before after same = inl same
counts-made (Some (Check a b c w)) S.WriteFault before after same = inl same
counts-made (Some (Check a b c w)) S.Memory before after same = inl same

-- a count that rose is reported

pub refused-noticed : (words : List (List ℕ)) (before after : ℕ) → CountsRefused (command words) before after
    → before < after → IsReadNoticed words S.Memory
refused-noticed words before after counts less = inr (go (command words) counts, inr refl) where
  go : (o : Option Command) → CountsRefused o before after → 1 < judges_of o
  go None same = absurd (omega (arith, same, less))
  go (Some (Sat a w)) same = absurd (omega (arith, same, less))
  go (Some (Include a b w)) same = absurd (omega (arith, same, less))
  go (Some (Valid a d)) same = absurd (omega (arith, same, less))
  go (Some (Check a b c w)) (inl same) = absurd (omega (arith, same, less))
  go (Some (Check a b c w)) (inr (several, rose)) = several
  go (Some (Norm a)) same = absurd (omega (arith, same, less))
  go (Some (Gen f n w)) same = absurd (omega (arith, same, less))

pub prepared-noticed : (told : Option Files) (words : List (List ℕ)) (before after : ℕ) (p : Prepared)
    → PreparedSays told words before after p → before < after → IsReadNoticed words (report_of p).status
prepared-noticed told words before after Usage says less = absurd (omega (arith, says.0, less))
prepared-noticed told words before after ReadFault says less = inl refl
prepared-noticed told words before after (Made bytes status) says less =
    go (counts-made (command words) status before after says.0) where
      go : (after ≡ before) ⊎ (Rose before after × IsCheckBySeveral words × (status ≡ S.Other))
          → IsReadNoticed words status
      go (inl same) = absurd (omega (arith, same, less))
      go (inr (rose, several, other)) = inr (several, inl other)

-- with one worker, and for other words, it is reported as a fault of reading
pub noticed-alone : (words : List (List ℕ)) (status : Status) → IsReadNoticed words status
    → (IsCheckBySeveral words → ⊥) → status ≡ S.ReadFault
noticed-alone words status (inl e) alone = e
noticed-alone words status (inr (several, is)) alone = absurd (alone several)

-- how far a certificate's file is read

pub read-rejected : (told : Option Files) (certificate : List ℕ) (workers number rule : ℕ) (left : Option (List ℕ))
    (p : Prepared) → IsReadToLine told (encode_utf8_all certificate) left workers number
    → report_of p ≡ printed (codes "rejected " ++ decimal number ++ 32 ∷ decimal rule) S.Other
    → IsReadToReport told certificate workers left (report_of p)
read-rejected told certificate workers number rule left p read e = λ other.
    (number, rule, ap (λ r. r.text) e, read)

pub read-other : (told : Option Files) (certificate : List ℕ) (workers : ℕ) (left : Option (List ℕ)) (p : Prepared)
    (s : Status) → (report_of p).status ≡ s → (s ≡ S.Other → ⊥)
    → IsReadToReport told certificate workers left (report_of p)
read-other told certificate workers left p s e n = λ other. absurd (n (sym e ∙ other))

-- what holds of a command holds of the words that mean it
pub read-command : (told : Option Files) (words : List (List ℕ)) (c : Command) (left : Option (List ℕ)) (r : Report)
    → command words ≡ Some c → IsReadOf told (Some c) left r → IsReadOf told (command words) left r
read-command told words c left r e read = subst (λ o. IsReadOf told o left r) (sym e) read

-- and when the report was written
pub written-read : (told : Option Files) (o : Option Command) (left old new : Option (List ℕ)) (r : Report)
    (text : List ℕ) → IsReadOf told o left r → text ≡ r.text → r.status ≡ S.Other → Appends old new text
    → IsReadNoFurtherOf told o left old new
written-read told None left old new r text is t e written = tt
written-read told (Some (Sat a w)) left old new r text is t e written = tt
written-read told (Some (Include a b w)) left old new r text is t e written = tt
written-read told (Some (Valid a d)) left old new r text is t e written = tt
written-read told (Some (Norm a)) left old new r text is t e written = tt
written-read told (Some (Gen f n w)) left old new r text is t e written = tt
written-read told (Some (Check a b c w)) left old new r text is t e written =
    let (number, rule, whole, read) = is e in
    record { number = number; rule = rule; written = subst (Appends old new) (t ∙ whole) written; read = read }
