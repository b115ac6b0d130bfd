-- Where no line waits, none of those that were read is rejected; so a file stops where a read fails, or where it is too
-- long.
use Rattle.std.proofs.Common.{◌≡◌, ◌⊎◌, inl, inr, ℕ, ◌+◌, ◌<◌, ◌≤◌, Bool, List, [], length, Option, None, Some, Result, Ok, Err, IfErr}
use Rattle.std.proofs.Common.{arith, ap, sym, ◌∙◌, subst, append_assoc, append-nil}
use Rattle.std.specs.Io.KnownBytes.{Keeps, Consumes}
use Rattle.positions.specs.Position.{Position}
use Rattle.verdicts.specs.Verdict.{Verdict, verdict_of_bytes}
use Rattle.js_outside.specs.Told.{Files, FileIsLeft}
use Rattle.js_checker.specs.declared.fault.CheckFault.{CheckFault}
use Rattle.js_checker.specs.declared.fault.CheckFault.TheVariants as C
use Rattle.js_certificate.specs.JudgeView.{table_of, premise_of, conclusion_of, bytes_of, waiting_of, fault_of, StandsForBytes}
use Rattle.js_certificate.specs.FileVerdicts.{verdict_of, longest_file}
use Rattle.js_certificate.specs.ReadBehind.{longest_piece}
use Rattle.js_certificate.specs.Unrejected.{NoneIsRejected, StopsUnrejected, FailsUnrejected}
use Rattle.js_certificate.specs.FileRead.{ReadSoFar, StandsForFile}
use Rattle.js_certificate.specs.declared.judge.CertificateJudge.{CertificateJudge}
use Rattle.js_certificate.specs.declared.file.FileVerdict.{FileVerdict}
use Rattle.js_certificate.specs.declared.file.FileFault.{FileFault}
use Rattle.js_certificate.specs.declared.file.FileFault.TheVariants as FF
use Rattle.js_certificate.proofs.JudgeLemmas.{judged_of}
use Rattle.js_certificate.proofs.EndLemmas.{question_same}
use Rattle.js_certificate.proofs.ReadBehindLemmas.{behind_judged}
use Rattle.js_certificate.proofs.FileLemmas.{more, file_begun, kept_whole}

-- where no line waits
pub none_rejected : (j : CertificateJudge) (T : List Position) (a b : ℕ) → fault_of j ≡ None → waiting_of j ≡ 0
    → table_of j ≡ T → premise_of j ≡ a → conclusion_of j ≡ b → (bytes : List ℕ) → StandsForBytes j bytes
    → NoneIsRejected (verdict_of_bytes T a b) bytes
none_rejected j T a b going idle t p q bytes s =
    question_same (λ U x y. NoneIsRejected (verdict_of_bytes U x y) bytes) _ _ _ _ _ _ t p q (λ more line rule e.
    let judged = judged_of j.fault j.lines bytes going s in
    let below = behind_judged j.lines bytes more line rule (j.well going) judged e in
    omega (arith, below, idle))

-- what a fault stands for is a verdict, or want of memory
pub told_or_memory : (P : FileFault → Type 0) (fault : CheckFault) (r : Result FileVerdict FileFault)
    → r ≡ verdict_of fault → P FF.Memory → IfErr r P
told_or_memory P (C.Rejected k q) r e m = subst (λ x. IfErr x P) (sym e) tt
told_or_memory P C.Memory r e m = subst (λ x. IfErr x P) (sym e) m

pub memory_alone : (P : FileFault → Type 0) (r : Result FileVerdict FileFault) → IfErr r (λ met. met ≡ FF.Memory)
    → P FF.Memory → IfErr r P
memory_alone P (Ok v) is m = tt
memory_alone P (Err f) is m = subst P (sym is) m

-- the cause is reported only where no line is rejected
pub cause_unrejected : (P : FileFault → Type 0) (S : Type 0) (cause : FileFault) (r : Result FileVerdict FileFault)
    → IfErr r (λ met. (met ≡ cause) ⊎ (met ≡ FF.Memory)) → IfErr r (λ met. (met ≡ FF.Memory) ⊎ S) → P FF.Memory
    → (S → P cause) → IfErr r P
cause_unrejected P S cause (Ok v) is or m f = tt
cause_unrejected P S cause (Err e) is (inl same) m f = subst P (sym same) m
cause_unrejected P S cause (Err e) (inl same) (inr s) m f = subst P (sym same) (f s)
cause_unrejected P S cause (Err e) (inr same) (inr s) m f = subst P (sym same) m

module _ (j : CertificateJudge) (T U : List Position) (a b c d : ℕ) (t : T ≡ U) (p : a ≡ c) (q : b ≡ d)
    (unrejected : (bytes : List ℕ) → StandsForBytes j bytes → NoneIsRejected (verdict_of_bytes T a b) bytes) where
  same_unrejected : (bytes : List ℕ) → StandsForBytes j bytes → NoneIsRejected (verdict_of_bytes U c d) bytes
  same_unrejected bytes s =
      question_same (λ V x y. NoneIsRejected (verdict_of_bytes V x y) bytes) _ _ _ _ _ _ t p q (unrejected bytes s)

  -- a read failed
  pub read_unrejected : (told : Option Files) (name : List ℕ) (left now : Option (List ℕ)) → Keeps left now
      → StandsForFile j told name left → StopsUnrejected (verdict_of_bytes U c d) told name now FF.Read
  read_unrejected None name left now kept h = tt
  read_unrejected (Some files) name left now kept (bytes, s, count, so_far) =
      let all : ReadSoFar (Some files) name bytes now =
      subst (λ xs. ReadSoFar (Some files) name xs now) (append-nil bytes)
      (more (Some files) name bytes [] left now so_far (kept_whole left now kept)) in
      let (rest, is_left, has) = all in
      record { read = bytes; rest = rest; file = has; is_left = is_left; unrejected = same_unrejected bytes s }

  -- more bytes than a file may have
  pub too_far_unrejected : (told : Option Files) (name piece : List ℕ) (left now : Option (List ℕ))
      → length piece ≤ longest_piece → longest_file < bytes_of j + length piece → Consumes left now piece
      → StandsForFile j told name left → StopsUnrejected (verdict_of_bytes U c d) told name now FF.TooLong
  too_far_unrejected None name piece left now short long taken h = tt
  too_far_unrejected (Some files) name piece left now short long taken (bytes, s, count, so_far) =
      let (rest, is_left, has) = more (Some files) name bytes piece left now so_far taken in
      record {
        before = bytes;
        piece = piece;
        rest = rest;
        file = has ∙ ap Some (append_assoc bytes piece rest);
        is_left = is_left;
        short = short;
        long = omega (arith, count, long);
        unrejected = same_unrejected bytes s;
      }

-- memory was refused
pub memory_unrejected : (verdict : List ℕ → Verdict) (told : Option Files) (name : List ℕ) (left : Option (List ℕ))
    → StopsUnrejected verdict told name left FF.Memory
memory_unrejected verdict None name left = tt
memory_unrejected verdict (Some files) name left = tt

-- a file that was begun
fails_unrejected : (verdict : List ℕ → Verdict) (told : Option Files) (name : List ℕ) (is_begun : Bool)
    (left : Option (List ℕ)) (f : FileFault) → StopsUnrejected verdict told name left f
    → FailsUnrejected verdict told name is_begun left f
fails_unrejected verdict told name is_begun left FF.TooLong h = h
fails_unrejected verdict told name is_begun left FF.Read h = λ begun. h
fails_unrejected verdict told name is_begun left FF.Memory h = tt

pub file_unrejected : (j : CertificateJudge) (T U : List Position) (a b c d : ℕ) (before told : Option Files)
    (name : List ℕ) (is_begun : Bool) (left now : Option (List ℕ)) (r : Result FileVerdict FileFault) → T ≡ U → a ≡ c
    → b ≡ d → told ≡ before → StandsForBytes j [] → bytes_of j ≡ 0 → FileIsLeft before name left
    → IfErr r (λ f. (n : List ℕ) → StandsForFile j told n left
    → StopsUnrejected (verdict_of_bytes T a b) told n now f)
    → IfErr r (FailsUnrejected (verdict_of_bytes U c d) before name is_begun now)
file_unrejected j T U a b c d before told name is_begun left now (Ok v) t p q e s n h is = tt
file_unrejected j T U a b c d before told name is_begun left now (Err f) t p q e s n h is =
    fails_unrejected (verdict_of_bytes U c d) before name is_begun now f
    (subst (λ o. StopsUnrejected (verdict_of_bytes U c d) o name now f) e
    (question_same (λ V x y. StopsUnrejected (verdict_of_bytes V x y) told name now f) _ _ _ _ _ _ t p q
    (is name (file_begun j told name left s n (subst (λ o. FileIsLeft o name left) (sym e) h)))))
