-- Parts of pieces: how much of a piece is read, what comes behind lines, and what a fault says of all bytes.
use Rattle.std.proofs.Common.{◌≡◌, ℕ, zero, suc, ◌+◌, ◌-◌, ◌<◌, ◌≤◌, Bool, true, false, cond, List, [], ◌∷◌, ◌++◌, length, take, drop, Option, Some, None, is_none, Result, Ok, Err, IsErrAnd, IfErr, refl, ap, sym, ◌∙◌, subst, append_assoc, append-nil, length-append, arith}
use Rattle.std.specs.Prelude.{option_to_list}
use Rattle.std.proofs.lemmas.List.{take-append-drop, length-take-le, take_rest}
use Rattle.std.proofs.Math.Seq.{take-add}
use Rattle.positions.specs.Position.{Position}
use Rattle.certificate_lines.specs.Line.{Line}
use Rattle.certificate_lines.specs.Text.{fits}
use Rattle.certificate_lines.specs.Pieces.{split_at}
use Rattle.certificate_lines.specs.Reading.{line_of}
use Rattle.certificate_lines.specs.Reader as R
use Rattle.certificate_lines.specs.Reader.{Fault, Reader, fed, fed_at, fed_unless, with_line, stopped, given, read_count, count_of, unless}
use Rattle.certificate_lines.specs.Cut.{Stands}
use Rattle.line_laws.proofs.PieceLaws.{split_at-text}
use Rattle.line_laws.proofs.ReaderLaws.{fed-stands, given-stands, cut-stays}
use Rattle.verdicts.specs.Verdict.{Stage, Start, judged, at_fault, verdict_of_cut, verdict_of_bytes}
use Rattle.js_lines.specs.Answers.{fault_view, answer, piece_answer}
use Rattle.js_checker.specs.Faults.{Tells}
use Rattle.js_checker.specs.Standing as K
use Rattle.js_checker.specs.Standing.{LeadTo, AreRejected}
use Rattle.js_checker.specs.CheckerView.{standing}
use Rattle.js_checker.specs.declared.fault.CheckFault.{CheckFault}
use Rattle.js_checker.specs.declared.fault.CheckFault.TheVariants as F
use Rattle.js_certificate.specs.Broken.{AreBroken, told, IsLineFault}

pub none_of : {A : Type 0} (o : Option A) → is_none o ≡ true → o ≡ None
none_of None e = refl
none_of (Some x) e = cc

-- a fault that is passed on
pub passed : {A E : Type 0} (P : E → Type 0) (r : Result A E) (e : E) → IsErrAnd r (λ f. f ≡ e) → P e → IfErr r P
passed P (Ok x) e h p = absurd h
passed P (Err f) e h p = subst P (sym h) p

-- how much is read

pub read-within : (piece : List ℕ) → read_count piece ≤ length piece
read-within piece = go (split_at 10 piece) refl where
  go : (o : Option (List ℕ × List ℕ)) → split_at 10 piece ≡ o → count_of piece o ≤ length piece
  go None e = omega arith
  go (Some (front, rest)) e =
      let parts = length-append front (10 ∷ rest) in
      let whole = ap length (split_at-text 10 piece front rest e) in
      omega (arith, parts, whole)

-- where no fault is answered
pub count_within : (r : Reader) (piece : List ℕ) (count : ℕ) → Ok count ≡ piece_answer r piece → count ≤ length piece
count_within r piece count e = go (fed r piece).fault e where
  go : (o : Option Fault) → Ok count ≡ answer (read_count piece) o → count ≤ length piece
  go None h =
      let same : count ≡ read_count piece = cc in
      let within = read-within piece in
      omega (arith, same, within)
  go (Some f) h = cc

pub read-some : (piece : List ℕ) → 0 < length piece → 0 < read_count piece
read-some piece h = go (split_at 10 piece) where
  go : (o : Option (List ℕ × List ℕ)) → 0 < count_of piece o
  go None = h
  go (Some (front, rest)) = omega arith

drop-shorter : (n : ℕ) (xs : List ℕ) → n ≤ length xs → n + length (drop n xs) ≡ length xs
drop-shorter n xs h =
    let parts = length-append (take n xs) (drop n xs) in
    let whole = ap length (take-append-drop n xs) in
    let front = length-take-le n xs h in
    omega (arith, parts, whole, front)

-- what is left of a piece, as a slice of it
abbrev rest_of : ℕ → List ℕ → List ℕ
rest_of read piece = take (length piece - read) (drop read piece)

pub rest-shorter : (read : ℕ) (piece : List ℕ) → read ≤ length piece
    → read + length (rest_of read piece) ≡ length piece
rest-shorter read piece h =
    let same = ap length (take_rest piece read) in
    let shorter = drop-shorter read piece h in
    omega (arith, same, shorter)

-- whatever follows bytes, their lines come first
pub record GoOn (bytes : List ℕ) (ls : List Line) : Type 0 where
  pub more : List Line
  pub reader : Reader
  pub stands : Stands bytes (ls ++ more) reader

pub goes_on : (fuel : ℕ) (bytes more : List ℕ) (ls : List Line) (r : Reader) → length more ≤ fuel → Stands bytes ls r
    → GoOn (bytes ++ more) ls
goes_on fuel bytes [] ls r h s = record {
  more = [];
  reader = r;
  stands = subst (λ ks. Stands (bytes ++ []) ks r) (sym (append-nil ls))
      (subst (λ xs. Stands xs ls r) (sym (append-nil bytes)) s);
}
goes_on zero bytes (x ∷ xs) ls r h s = absurd (omega (arith, h))
goes_on (suc fuel) bytes (x ∷ xs) ls r h s =
    let piece = x ∷ xs in
    let n = read_count piece in
    let on = fed (given r) piece in
    let some : 0 < n = read-some piece (omega arith) in
    let shorter = drop-shorter n piece (read-within piece) in
    let less : length (drop n piece) ≤ fuel = omega (arith, some, shorter, h) in
    let rest = goes_on fuel (bytes ++ take n piece) (drop n piece) (ls ++ option_to_list on.waiting) on less
    (fed-stands bytes piece ls (given r) refl (given-stands bytes ls r s)) in
    record {
      more = option_to_list on.waiting ++ rest.more;
      reader = rest.reader;
      stands = subst (λ ks. Stands (bytes ++ piece) ks rest.reader)
          (append_assoc ls (option_to_list on.waiting) rest.more)
          (subst (λ ys. Stands ys ((ls ++ option_to_list on.waiting) ++ rest.more) rest.reader)
          (append_assoc bytes (take n piece) (drop n piece) ∙ ap (λ ys. bytes ++ ys) (take-append-drop n piece))
          rest.stands);
    }

-- where a reader meets a fault, no line waits
fed-stopped : (r : Reader) (piece : List ℕ) (f : Fault) → r.fault ≡ None → (fed r piece).fault ≡ Some f
    → (fed r piece).waiting ≡ None
fed-stopped r piece f none e = go r.fault none e where
  at_line : (o : Option Line) → (with_line r o).fault ≡ Some f → (with_line r o).waiting ≡ None
  at_line (Some l) h = cc
  at_line None h = refl

  at_end : (b : Bool) (o : Option Line) (g : Fault) → (cond b (with_line r o) (stopped r g)).fault ≡ Some f
      → (cond b (with_line r o) (stopped r g)).waiting ≡ None
  at_end true o g h = at_line o h
  at_end false o g h = refl

  at_part : (b : Bool) (xs : List ℕ) (g : Fault)
      → (cond b (record { taken = r.taken; held = xs; waiting = None; fault = None }) (stopped r g)).waiting ≡ None
  at_part true xs g = refl
  at_part false xs g = refl

  at_split : (s : Option (List ℕ × List ℕ)) → (fed_at r piece s).fault ≡ Some f → (fed_at r piece s).waiting ≡ None
  at_split (Some (front, rest)) h =
      at_end (fits (r.held ++ front)) (line_of (r.held ++ front)) (R.TooLong (suc r.taken)) h
  at_split None h = at_part (fits (r.held ++ piece)) (r.held ++ piece) (R.TooLong (suc r.taken))

  go : (o : Option Fault) → o ≡ None → (fed_unless r piece o).fault ≡ Some f → (fed_unless r piece o).waiting ≡ None
  go (Some g) n h = cc
  go None n h = at_split (split_at 10 piece) h

module _ (T : List Position) (a b : ℕ) where
  pub broken_longer : (f : CheckFault) (xs ys : List ℕ) → AreBroken T a b f xs → AreBroken T a b f (xs ++ ys)
  broken_longer f xs ys h more =
      subst (λ zs. Tells f (verdict_of_bytes T a b zs)) (sym (append_assoc xs ys more)) (h (ys ++ more))

  -- of a part of a piece, and so of the piece
  broken_piece : (f : CheckFault) (bytes piece : List ℕ) (n : ℕ) → AreBroken T a b f (bytes ++ take n piece)
      → AreBroken T a b f (bytes ++ piece)
  broken_piece f bytes piece n h =
      subst (AreBroken T a b f)
      (append_assoc bytes (take n piece) (drop n piece) ∙ ap (λ ys. bytes ++ ys) (take-append-drop n piece))
      (broken_longer f (bytes ++ take n piece) (drop n piece) h)

  pub broken_rest : (f : CheckFault) (bytes piece : List ℕ) (read : ℕ)
      → AreBroken T a b f ((bytes ++ take read piece) ++ rest_of read piece) → AreBroken T a b f (bytes ++ piece)
  broken_rest f bytes piece read h =
      subst (AreBroken T a b f)
      (ap (λ ys. (bytes ++ take read piece) ++ ys) (take_rest piece read)
      ∙ append_assoc bytes (take read piece) (drop read piece)
      ∙ ap (λ ys. bytes ++ ys) (take-append-drop read piece))
      h

  -- lines that are rejected
  lines_break : (bytes : List ℕ) (ls : List Line) (r : Reader) (k q : ℕ) → Stands bytes ls r
      → AreRejected T a b ls k q → AreBroken T a b (F.Rejected k q) bytes
  lines_break bytes ls r k q s h more =
      let on = goes_on (length more) bytes more ls r (omega arith) s in
      ap (verdict_of_cut T a b) on.stands.cut ∙ h (at_fault (unless on.reader.fault on.reader.held)) on.more

  pub checker_breaks : (bytes : List ℕ) (ls : List Line) (r : Reader) (o : Option CheckFault) (s : Stage) (n : ℕ)
      (f : CheckFault) → o ≡ Some f → Stands bytes ls r → K.Stands T a b (standing o s n) ls → AreBroken T a b f bytes
  checker_breaks bytes ls r None s n f e at h = cc
  checker_breaks bytes ls r (Some g) s n f e at h = subst (λ x. AreBroken T a b x bytes) same (go g h) where
    same : g ≡ f
    same = cc

    go : (x : CheckFault) → K.Stands T a b (standing (Some x) s n) ls → AreBroken T a b x bytes
    go (F.Rejected k q) h = lines_break bytes ls r k q at h
    go F.Memory h = λ more. tt

  pub going_leads : (o : Option CheckFault) (s : Stage) (n : ℕ) (ls : List Line) → o ≡ None
      → K.Stands T a b (standing o s n) ls → LeadTo T a b ls s n
  going_leads None s n ls e h = h
  going_leads (Some g) s n ls e h = cc

  -- a line that the checker rejects
  pub line_breaks : (bytes piece : List ℕ) (count : ℕ) (ls : List Line) (r : Reader) (o : Option CheckFault) (s : Stage)
      (n : ℕ) (f : CheckFault) → o ≡ Some f → Stands (bytes ++ take count piece) ls r
      → K.Stands T a b (standing o s n) ls → AreBroken T a b f (bytes ++ piece)
  line_breaks bytes piece count ls r o s n f e at h =
      broken_piece f bytes piece count (checker_breaks (bytes ++ take count piece) ls r o s n f e at h)

  -- what is reported where a reader met a fault behind lines that led to a stage
  fault_told : (f : Fault) (s : Stage) (k : ℕ) → Tells (told (fault_view f)) (at_fault (Some f) s k)
  fault_told (R.NotALine n) s k = refl
  fault_told (R.TooLong n) s k = refl
  fault_told R.Unfinished s k = tt

  stop_breaks : (bytes : List ℕ) (ls : List Line) (r : Reader) (g : Fault) (s : Stage) (n : ℕ) → r.fault ≡ Some g
      → Stands bytes ls r → LeadTo T a b ls s n → AreBroken T a b (told (fault_view g)) bytes
  stop_breaks bytes ls r g s n e at led more =
      let same : verdict_of_bytes T a b (bytes ++ more) ≡ at_fault (Some g) s (suc n) =
      ap (verdict_of_cut T a b) (cut-stays bytes more g (ap (λ c. c.fault) at.cut ∙ e) ∙ at.cut)
      ∙ ap (λ o. judged T a b (at_fault (unless o r.held)) Start 1 ls) e
      ∙ ap (judged T a b (at_fault (Some g)) Start 1) (sym (append-nil ls))
      ∙ led.judged_on (at_fault (Some g)) [] in
      subst (Tells (told (fault_view g))) (sym same) (fault_told g s (suc n))

  -- a part of a piece with a fault
  pub read_breaks : (bytes piece : List ℕ) (ls : List Line) (r : Reader) (o : Option CheckFault) (s : Stage) (n : ℕ)
      (f : CheckFault) → r.waiting ≡ None → r.fault ≡ None → o ≡ None → Stands bytes ls r
      → K.Stands T a b (standing o s n) ls → IsLineFault (fed r piece).fault f → AreBroken T a b f (bytes ++ piece)
  read_breaks bytes piece ls r o s n f idle sound going at h is = go (fed r piece).fault f refl is where
    met : (g : Fault) → (fed r piece).fault ≡ Some g → AreBroken T a b (told (fault_view g)) (bytes ++ piece)
    met g e =
        let waits : ls ++ option_to_list (fed r piece).waiting ≡ ls =
        ap (λ w. ls ++ option_to_list w) (fed-stopped r piece g sound e) ∙ append-nil ls in
        broken_piece (told (fault_view g)) bytes piece (read_count piece)
        (stop_breaks (bytes ++ take (read_count piece) piece) ls (fed r piece) g s n e
        (subst (λ ks. Stands (bytes ++ take (read_count piece) piece) ks (fed r piece)) waits
        (fed-stands bytes piece ls r idle at)) (going_leads o s n ls going h))

    go : (w : Option Fault) (x : CheckFault) → (fed r piece).fault ≡ w → IsLineFault w x
        → AreBroken T a b x (bytes ++ piece)
    go w F.Memory e i = λ more. tt
    go None (F.Rejected k q) e i = absurd i
    go (Some g) (F.Rejected k q) e i = subst (λ x. AreBroken T a b x (bytes ++ piece)) i (met g e)

-- of the same question
pub broken_same : (T U : List Position) (a b c d : ℕ) (f : CheckFault) (bytes : List ℕ) → T ≡ U → a ≡ c → b ≡ d
    → AreBroken T a b f bytes → AreBroken U c d f bytes
broken_same T U a b c d f bytes t p q h =
    subst (λ z. AreBroken U c z f bytes) q (subst (λ y. AreBroken U y b f bytes) p
    (subst (λ x. AreBroken x a b f bytes) t h))

-- a part more was read
pub part_taken : (bytes piece : List ℕ) (read count : ℕ)
    → (bytes ++ take read piece) ++ take count (rest_of read piece) ≡ bytes ++ take (read + count) piece
part_taken bytes piece read count =
    ap (λ ys. (bytes ++ take read piece) ++ take count ys) (take_rest piece read)
    ∙ append_assoc bytes (take read piece) (take count (drop read piece))
    ∙ ap (λ ys. bytes ++ ys) (sym (take-add read count piece))

-- the line that waited was given
pub reader_on : (bytes piece : List ℕ) (ls : List Line) (n : ℕ) (mid new : Reader) → n ≡ read_count piece
    → new ≡ given mid → Stands (bytes ++ take (read_count piece) piece) ls mid → Stands (bytes ++ take n piece) ls new
reader_on bytes piece ls n mid new e g h =
    subst (λ k. Stands (bytes ++ take k piece) ls new) (sym e)
    (subst (Stands (bytes ++ take (read_count piece) piece) ls) (sym g) (given-stands _ ls mid h))
