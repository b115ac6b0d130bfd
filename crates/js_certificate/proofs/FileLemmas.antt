-- What was read of a file, and what is judged of it.
use Rattle.std.proofs.Common.{◌≡◌, ◌⊎◌, inl, inr, ℕ, ◌+◌, ◌<◌, ◌≤◌, List, [], ◌++◌, length, take, Option, None, Some, Result, Ok, Err, IfOk, IfErr}
use Rattle.std.proofs.Common.{arith, refl, ap, sym, ◌∙◌, subst, append_assoc, append-nil, length-append}
use Rattle.std.proofs.Math.Seq.{take-append_seam}
use Rattle.std.proofs.lemmas.Bool.{true≢false}
use Rattle.std.specs.Io.KnownBytes.{Keeps, Consumes, IsAtEnd}
use Rattle.positions.specs.Position.{Position}
use Rattle.verdicts.specs.Verdict as V
use Rattle.verdicts.specs.Verdict.{verdict_of_bytes}
use Rattle.js_outside.specs.Told.{Files, FileIsLeft}
use Rattle.js_checker.specs.Faults.{Tells}
use Rattle.js_checker.specs.declared.fault.CheckFault.{CheckFault}
use Rattle.js_checker.specs.declared.fault.CheckFault.TheVariants as C
use Rattle.js_certificate.specs.JudgeView.{table_of, premise_of, conclusion_of, bytes_of, waiting_of, fault_of, StandsForBytes}
use Rattle.js_outside.specs.Counts.{Rose}
use Rattle.js_certificate.specs.FileVerdicts.{verdict_view, verdict_of, HasBytes, IsVerdictOf, longest_file, IsTooLong, FaultSays, CountsJudged, IsRejection}
use Rattle.js_certificate.specs.ReadBehind.{most_waiting, longest_piece, IsReadFor}
use Rattle.js_certificate.specs.FileRead.{ReadSoFar, StandsForFile}
use Rattle.js_certificate.specs.declared.judge.CertificateJudge.{CertificateJudge}
use Rattle.js_certificate.specs.declared.file.FileVerdict.{FileVerdict}
use Rattle.js_certificate.specs.declared.file.FileVerdict.TheVariants as F
use Rattle.js_certificate.specs.declared.file.FileFault.{FileFault}
use Rattle.js_certificate.specs.declared.file.FileFault.TheVariants as FF
use Rattle.js_certificate.proofs.JudgeLemmas.{judged_of}
use Rattle.js_certificate.proofs.BatchLemmas.{several_wait}
use Rattle.js_certificate.proofs.ReadBehindLemmas.{behind_judged}

-- nothing was read of a file that was just begun
begun : (told : Option Files) (name : List ℕ) (left : Option (List ℕ)) → FileIsLeft told name left
    → ReadSoFar told name [] left
begun None name left h = tt
begun (Some files) name None h = absurd (true≢false (sym h.1))
begun (Some files) name (Some rest) h = (rest, refl, h.0)

none≢some : (xs : List ℕ) → None ≡ Some xs → ⊥
none≢some xs e = cc

some-same : (xs ys : List ℕ) → Some xs ≡ Some ys → xs ≡ ys
some-same xs ys e = cc

-- a piece more was read
pub more : (told : Option Files) (name bytes piece : List ℕ) (left now : Option (List ℕ))
    → ReadSoFar told name bytes left → Consumes left now piece → ReadSoFar told name (bytes ++ piece) now
more None name bytes piece left now so_far taken = tt
more (Some files) name bytes piece None now so_far taken = absurd (none≢some _ so_far.1)
more (Some files) name bytes piece (Some front) None so_far taken = absurd taken
more (Some files) name bytes piece (Some front) (Some rest) (all, left, told) taken = (
  rest,
  refl,
  told ∙ ap (λ l. Some (bytes ++ l)) (sym (some-same _ _ left) ∙ taken) ∙ ap Some (sym (append_assoc bytes piece rest)),
)

-- what the file has: what was read, and something behind it
all_bytes : (told : Option Files) (name bytes : List ℕ) (left : Option (List ℕ)) → ReadSoFar told name bytes left
    → (rest : List ℕ) × HasBytes told name (bytes ++ rest)
all_bytes None name bytes left h = ([], tt)
all_bytes (Some files) name bytes left (rest, is, told) = (rest, told)

-- where nothing is left, what was read is all
at_end : (told : Option Files) (name bytes : List ℕ) (left : Option (List ℕ)) → ReadSoFar told name bytes left
    → IsAtEnd left → HasBytes told name bytes
at_end None name bytes left so_far end = tt
at_end (Some files) name bytes None so_far end = absurd (none≢some _ so_far.1)
at_end (Some files) name bytes (Some rest) (all, left, told) end =
    told ∙ ap (λ l. Some (bytes ++ l)) (sym (some-same _ _ left) ∙ end) ∙ ap Some (append-nil bytes)

pub file_begun : (j : CertificateJudge) (told : Option Files) (name : List ℕ) (left : Option (List ℕ))
    → StandsForBytes j [] → bytes_of j ≡ 0 → FileIsLeft told name left → StandsForFile j told name left
file_begun j told name left s n h = ([], s, n, begun told name left h)

-- a piece more was judged
pub file_more : (j k : CertificateJudge) (told : Option Files) (name piece : List ℕ) (left now : Option (List ℕ))
    → ((bytes : List ℕ) → StandsForBytes j bytes → StandsForBytes k (bytes ++ piece))
    → bytes_of k ≡ bytes_of j + length piece → Consumes left now piece → StandsForFile j told name left
    → StandsForFile k told name now
file_more j k told name piece left now on n taken (bytes, s, count, so_far) = (
  bytes ++ piece,
  on bytes s,
  (let parts = length-append bytes piece in omega (arith, parts, n, count)),
  more told name bytes piece left now so_far taken,
)

-- nothing follows
pub file_ended : (j : CertificateJudge) (T : List Position) (a b : ℕ) (told : Option Files) (name : List ℕ)
    (left now : Option (List ℕ)) (v : FileVerdict)
    → ((bytes : List ℕ) → StandsForBytes j bytes → verdict_of_bytes T a b bytes ≡ verdict_view v)
    → Consumes left now [] → IsAtEnd now → StandsForFile j told name left → IsVerdictOf T a b told name v
file_ended j T a b told name left now v is taken end (bytes, s, count, so_far) =
    let all : ReadSoFar told name bytes now =
    subst (λ xs. ReadSoFar told name xs now) (append-nil bytes) (more told name bytes [] left now so_far taken) in
    (bytes, at_end told name bytes now all end, is bytes s)

-- a fault among the bytes of a piece
pub file_broken : (j : CertificateJudge) (T : List Position) (a b : ℕ) (told : Option Files) (name piece : List ℕ)
    (left now : Option (List ℕ)) (f : CheckFault) (v : FileVerdict)
    → ((bytes more : List ℕ) → StandsForBytes j bytes → Tells f (verdict_of_bytes T a b (bytes ++ (piece ++ more))))
    → verdict_of f ≡ Ok v → Consumes left now piece → StandsForFile j told name left → IsVerdictOf T a b told name v
file_broken j T a b told name piece left now C.Memory v is e taken h = cc
file_broken j T a b told name piece left now (C.Rejected k r) v is e taken (bytes, s, count, so_far) =
    let (rest, has) = all_bytes told name (bytes ++ piece) now (more told name bytes piece left now so_far taken) in
    let all = subst (HasBytes told name) (append_assoc bytes piece rest) has in
    (bytes ++ (piece ++ rest), all, is bytes rest s ∙ tells v e)
  where
    tells : (w : FileVerdict) → verdict_of (C.Rejected k r) ≡ Ok w
        → V.Rejected k r ≡ verdict_view w
    tells w e = ap verdict_view same where
      same : F.Rejected k r ≡ w
      same = cc

-- more bytes than a file may have
pub file_too_long : (j : CertificateJudge) (told : Option Files) (name piece : List ℕ) (left now : Option (List ℕ))
    → longest_file < bytes_of j + length piece → Consumes left now piece → StandsForFile j told name left
    → IsTooLong told name
file_too_long j told name piece left now long taken (bytes, s, count, so_far) =
    let (rest, has) = all_bytes told name (bytes ++ piece) now (more told name bytes piece left now so_far taken) in
    let parts = length-append bytes piece in
    let whole = length-append (bytes ++ piece) rest in
    ((bytes ++ piece) ++ rest, has, omega (arith, parts, whole, count, long))

-- as much as was put in front is what was put there
pub take-front : (front rest : List ℕ) (n : ℕ) → length front ≡ n → take n (front ++ rest) ≡ front
take-front front rest n e = ap (λ m. take m (front ++ rest)) (sym e) ∙ take-append_seam front rest

-- a verdict for a table and two positions is one for equal ones
pub verdict_same : (T U : List Position) (a b c d : ℕ) (told : Option Files) (name : List ℕ) (v : FileVerdict)
    → T ≡ U → a ≡ c → b ≡ d → IsVerdictOf T a b told name v → IsVerdictOf U c d told name v
verdict_same T U a b c d told name v t p q h =
    subst (λ z. IsVerdictOf U c z told name v) q (subst (λ y. IsVerdictOf U y b told name v) p
    (subst (λ x. IsVerdictOf x a b told name v) t h))

pub ok_more : {A E : Type 0} {P Q : A → Type 0} (r : Result A E) → ((x : A) → P x → Q x) → IfOk r P → IfOk r Q
ok_more (Ok x) f h = f x h
ok_more (Err e) f h = tt

-- of what was read into a buffer
pub consumed : (left now : Option (List ℕ)) (slice into : List ℕ) (count : ℕ) → slice ≡ into
    → Consumes left now (take count into) → Consumes left now (take count slice)
consumed left now slice into count e h = subst (λ xs. Consumes left now (take count xs)) (sym e) h

pub file_read : (j k : CertificateJudge) (told : Option Files) (name slice into : List ℕ) (count : ℕ)
    (left now : Option (List ℕ)) → slice ≡ into
    → ((bytes : List ℕ) → StandsForBytes j bytes → StandsForBytes k (bytes ++ take count slice))
    → bytes_of k ≡ bytes_of j + length (take count slice) → Consumes left now (take count into)
    → StandsForFile j told name left → StandsForFile k told name now
file_read j k told name slice into count left now e on n taken h =
    file_more j k told name (take count slice) left now on n (consumed left now slice into count e taken) h

pub file_stopped : (j i : CertificateJudge) (T U : List Position) (a b c d : ℕ) (told : Option Files)
    (slice into : List ℕ) (count : ℕ) (first left now : Option (List ℕ)) (f : CheckFault)
    (r : Result FileVerdict FileFault) → slice ≡ into → T ≡ U → a ≡ c → b ≡ d
    → ((bytes more : List ℕ) → StandsForBytes j bytes
    → Tells f (verdict_of_bytes T a b (bytes ++ (take count slice ++ more))))
    → r ≡ verdict_of f → Consumes left now (take count into)
    → ((name : List ℕ) → StandsForFile i told name first → StandsForFile j told name left)
    → IfOk r (λ v. (name : List ℕ) → StandsForFile i told name first → IsVerdictOf U c d told name v)
file_stopped j i T U a b c d told slice into count first left now f (Err x) s t p q is e taken on = tt
file_stopped j i T U a b c d told slice into count first left now f (Ok v) s t p q is e taken on = λ name h.
    verdict_same T U a b c d told name v t p q
    (file_broken j T a b told name (take count slice) left now f v is (sym e)
    (consumed left now slice into count s taken) (on name h))

-- a file that was begun, by what is judged of what is left
pub file_judged : (j : CertificateJudge) (T U : List Position) (a b c d : ℕ) (before told : Option Files)
    (name : List ℕ) (left : Option (List ℕ)) (r : Result FileVerdict FileFault) → T ≡ U → a ≡ c → b ≡ d
    → told ≡ before → StandsForBytes j [] → bytes_of j ≡ 0 → FileIsLeft before name left
    → IfOk r (λ v. (n : List ℕ) → StandsForFile j told n left → IsVerdictOf T a b told n v)
    → IfOk r (IsVerdictOf U c d before name)
file_judged j T U a b c d before told name left (Err x) t p q e s n h is = tt
file_judged j T U a b c d before told name left (Ok v) t p q e s n h is =
    subst (λ o. IsVerdictOf U c d o name v) e (verdict_same T U a b c d told name v t p q
    (is name (file_begun j told name left s n (subst (λ o. FileIsLeft o name left) (sym e) h))))

-- the same of a fault, by the shelf's counts before the file was begun, then, and at the end
pub fault_judged : (j : CertificateJudge) (before told : Option Files) (name : List ℕ) (left : Option (List ℕ))
    (workers first begun_with last : ℕ) (r : Result FileVerdict FileFault) → told ≡ before → begun_with ≡ first
    → StandsForBytes j [] → bytes_of j ≡ 0 → FileIsLeft before name left
    → IfErr r (λ f. (n : List ℕ) → StandsForFile j told n left → FaultSays told n workers begun_with last f)
    → IfErr r (FaultSays before name workers first last)
fault_judged j before told name left workers first begun_with last (Ok v) e m s n h is = tt
fault_judged j before told name left workers first begun_with last (Err f) e m s n h is =
    subst (λ o. FaultSays o name workers first last f) e (subst (λ k. FaultSays told name workers k last f) m
    (is name (file_begun j told name left s n (subst (λ o. FileIsLeft o name left) (sym e) h))))

-- a read failed, and a line before it is rejected
pub fault_judged_before : (j i : CertificateJudge) (T U : List Position) (a b c d : ℕ) (told : Option Files)
    (first left : Option (List ℕ)) (r : Result FileVerdict FileFault) → T ≡ U → a ≡ c → b ≡ d
    → IfOk r (λ v. IsRejection v × ((bytes more : List ℕ) → StandsForBytes j bytes
    → verdict_of_bytes T a b (bytes ++ more) ≡ verdict_view v))
    → ((name : List ℕ) → StandsForFile i told name first → StandsForFile j told name left)
    → IfOk r (λ v. (name : List ℕ) → StandsForFile i told name first → IsVerdictOf U c d told name v)
fault_judged_before j i T U a b c d told first left (Err x) t p q is on = tt
fault_judged_before j i T U a b c d told first left (Ok v) t p q is on = λ name h.
    let (bytes, s, count, so_far) = on name h in
    let (rest, has) = all_bytes told name bytes left so_far in
    verdict_same T U a b c d told name v t p q (bytes ++ rest, has, is.1 bytes rest s)

pub counts_same : (workers before after : ℕ) (v : FileVerdict) → after ≡ before → CountsJudged workers before after v
counts_same workers before after F.Accepted e = e
counts_same workers before after (F.Rejected k r) e = inl e

-- counts where a read failed: of one worker no line waits, so that the fault is reported
module _ (workers waiting before after : ℕ) (some : 1 ≤ workers) (few : waiting ≤ most_waiting workers)
    (rose : Rose before after) where
  pub counts_rejected : (r : Result FileVerdict FileFault) → IfOk r IsRejection
      → (waiting ≡ 0 → r ≡ Err FF.Read) → IfOk r (CountsJudged workers before after)
  counts_rejected (Ok F.Accepted) is none = absurd is
  counts_rejected (Ok (F.Rejected k r)) is none =
      inr (several_wait workers waiting some few (λ e. wrong (none e)), rose)
    where
      wrong : Ok (F.Rejected k r) ≡ Err FF.Read → ⊥
      wrong e = cc
  counts_rejected (Err f) is none = tt

  pub counts_failed : (told : Option Files) (r : Result FileVerdict FileFault)
      → IfErr r (λ met. (met ≡ FF.Read) ⊎ (met ≡ FF.Memory)) → (waiting ≡ 0 → r ≡ Err FF.Read) → (P : List ℕ → Type 0)
      → IfErr r (λ f. (name : List ℕ) → P name → FaultSays told name workers before after f)
  counts_failed told (Ok v) is none P = tt
  counts_failed told (Err FF.Read) is none P = λ name p. rose
  counts_failed told (Err FF.Memory) is none P = λ name p.
      inr (several_wait workers waiting some few (λ e. wrong (none e)), rose)
    where
      wrong : ◌≡◌ {A = Result FileVerdict FileFault} (Err FF.Memory) (Err FF.Read) → ⊥
      wrong e = cc
  counts_failed told (Err FF.TooLong) (inl e) none P = cc
  counts_failed told (Err FF.TooLong) (inr e) none P = cc

-- the cause, or that memory was refused
pub fault_or_memory : (P : FileFault → Type 0) (cause : FileFault) (r : Result FileVerdict FileFault)
    → IfErr r (λ met. (met ≡ cause) ⊎ (met ≡ FF.Memory)) → P cause → P FF.Memory → IfErr r P
fault_or_memory P cause (Ok v) is p m = tt
fault_or_memory P cause (Err f) (inl e) p m = subst P (sym e) p
fault_or_memory P cause (Err f) (inr e) p m = subst P (sym e) m

-- how far a file was read

-- a read that failed took nothing
pub kept_whole : (left now : Option (List ℕ)) → Keeps left now → Consumes left now []
kept_whole None now h = tt
kept_whole (Some xs) None h = absurd h
kept_whole (Some xs) (Some ys) h = sym h

-- the piece that came last has a line which is rejected, or ends the batch which has it
module _ (j : CertificateJudge) (workers : ℕ) (going : fault_of j ≡ None)
    (few : waiting_of j ≤ most_waiting workers) (piece : List ℕ) (short : length piece ≤ longest_piece) where
  read_to_line : (told : Option Files) (name : List ℕ) (left now : Option (List ℕ)) (v : FileVerdict)
      → Consumes left now piece
      → ((bytes : List ℕ) → StandsForBytes j bytes → (more : List ℕ) × (verdict_of_bytes (table_of j) (premise_of j)
      (conclusion_of j) (bytes ++ more) ≡ verdict_view v))
      → StandsForFile j told name left → IsReadFor told name now workers v
  read_to_line told name left now F.Accepted taken is h = tt
  read_to_line None name left now (F.Rejected k r) taken is h = tt
  read_to_line (Some files) name left now (F.Rejected k r) taken is (bytes, s, count, so_far) =
      let (rest, is_left, has) = more (Some files) name bytes piece left now so_far taken in
      let (behind, verdict) = is bytes s in
      let judged = judged_of j.fault j.lines bytes going s in
      let below = behind_judged j.lines bytes behind k r (j.well going) judged verdict in
      record {
        before = bytes;
        piece = piece;
        rest = rest;
        file = has ∙ ap Some (append_assoc bytes piece rest);
        is_left = is_left;
        short = short;
        few = omega (arith, below, few);
      }

  pub read_for : (i : CertificateJudge) (told : Option Files) (first left now : Option (List ℕ))
      (r : Result FileVerdict FileFault) → Consumes left now piece
      → IfOk r (λ v. (bytes : List ℕ) → StandsForBytes j bytes → (more : List ℕ) × (verdict_of_bytes (table_of j)
      (premise_of j) (conclusion_of j) (bytes ++ more) ≡ verdict_view v))
      → ((name : List ℕ) → StandsForFile i told name first → StandsForFile j told name left)
      → IfOk r (λ v. (name : List ℕ) → StandsForFile i told name first → IsReadFor told name now workers v)
  read_for i told first left now (Err e) taken is on = tt
  read_for i told first left now (Ok v) taken is on =
      λ name h. read_to_line told name left now v taken is (on name h)

-- what is judged of the lines before, whatever follows
pub behind_before : (j : CertificateJudge) (T : List Position) (a b : ℕ) (r : Result FileVerdict FileFault)
    → IfOk r (λ v. IsRejection v × ((bytes more : List ℕ) → StandsForBytes j bytes
    → verdict_of_bytes T a b (bytes ++ more) ≡ verdict_view v))
    → IfOk r (λ v. (bytes : List ℕ) → StandsForBytes j bytes
    → (more : List ℕ) × (verdict_of_bytes T a b (bytes ++ more) ≡ verdict_view v))
behind_before j T a b (Err e) is = tt
behind_before j T a b (Ok v) is = λ bytes s. ([], is.1 bytes [] s)

-- where a verdict is that of all bytes, nothing need come behind them
pub behind_whole : (j : CertificateJudge) (T : List Position) (a b : ℕ) (r : Result FileVerdict FileFault)
    → IfOk r (λ v. (bytes : List ℕ) → StandsForBytes j bytes → verdict_of_bytes T a b bytes ≡ verdict_view v)
    → IfOk r (λ v. (bytes : List ℕ) → StandsForBytes j bytes
    → (more : List ℕ) × (verdict_of_bytes T a b (bytes ++ more) ≡ verdict_view v))
behind_whole j T a b (Err e) is = tt
behind_whole j T a b (Ok v) is = λ bytes s. ([], ap (verdict_of_bytes T a b) (append-nil bytes) ∙ is bytes s)

-- where a piece breaks a rule, its verdict is that of the bytes with the piece and whatever follows
pub behind_piece : (j : CertificateJudge) (T : List Position) (a b : ℕ) (piece : List ℕ) (f : CheckFault)
    (r : Result FileVerdict FileFault)
    → ((bytes more : List ℕ) → StandsForBytes j bytes → Tells f (verdict_of_bytes T a b (bytes ++ (piece ++ more))))
    → r ≡ verdict_of f
    → IfOk r (λ v. (bytes : List ℕ) → StandsForBytes j bytes
    → (more : List ℕ) × (verdict_of_bytes T a b (bytes ++ more) ≡ verdict_view v))
behind_piece j T a b piece f (Err e) is told = tt
behind_piece j T a b piece C.Memory (Ok v) is told = cc
behind_piece j T a b piece (C.Rejected k q) (Ok v) is told =
    λ bytes s. (piece ++ [], is bytes [] s ∙ ap verdict_view same)
  where
    same : F.Rejected k q ≡ v
    same = cc

-- a file that was begun
pub file_read_for : (j : CertificateJudge) (before told : Option Files) (name : List ℕ) (left now : Option (List ℕ))
    (workers : ℕ) (r : Result FileVerdict FileFault) → told ≡ before → StandsForBytes j [] → bytes_of j ≡ 0
    → FileIsLeft before name left
    → IfOk r (λ v. (n : List ℕ) → StandsForFile j told n left → IsReadFor told n now workers v)
    → IfOk r (IsReadFor before name now workers)
file_read_for j before told name left now workers (Err e) t s n h is = tt
file_read_for j before told name left now workers (Ok v) t s n h is =
    subst (λ o. IsReadFor o name now workers v) t
    (is name (file_begun j told name left s n (subst (λ o. FileIsLeft o name left) (sym t) h)))
