-- A reader is where the bytes that it read are cut, however they came: bytes cut in one go, and piece by piece.
use Rattle.std.proofs.Common.{◌≡◌, ℕ, suc, ◌+◌, ◌≤◌, Bool, true, false, ◌&&◌, cond, List, [], ◌∷◌, ◌++◌, length, take, Option, Some, None, refl, ap, sym, ◌∙◌, subst, append_assoc, length-append, arith}
use Rattle.std.specs.Prelude.{option_to_list}
use Rattle.std.proofs.lemmas.List.{append-nil}
use Rattle.std.proofs.lemmas.Grind.{flat_map-append}
use Rattle.std.proofs.lemmas.Bool.{true≢false, and_parts, and_from, leb-false, lt-leb}
use Rattle.std.proofs.Math.Seq.{take-length, take-append_seam}
use Rattle.documents.specs.Tests.{every}
use Rattle.list_laws.proofs.Elements.{every-append}
use Rattle.certificate_lines.specs.Line.{Line}
use Rattle.certificate_lines.specs.Text.{words_text, line_text, lines_text, is_line, is_short, fits, longest_line, IsText}
use Rattle.certificate_lines.specs.Pieces.{pieces, split_at}
use Rattle.certificate_lines.specs.Reading.{line_of}
use Rattle.certificate_lines.specs.Reader.{Fault, NotALine, TooLong, Reader, stopped, with_line, ended, grown, fed_at, fed_unless, fed, read_count, count_of, given}
use Rattle.certificate_lines.specs.Cut.{Cut, stops, before, begun, cut_from, cut, Stands}
use Rattle.line_laws.proofs.PieceLaws.{lacks, joined, joined-pieces, cut-word, pieces-past, pieces-open, pieces_on-longer, pieces_on-lack, split_at-text, split_at-front, split_at-none}
use Rattle.line_laws.proofs.LineLaws.{line_of-spells, line_of-of, words-lack}

-- a line of the grammar
abbrev pub is_good : Line → Bool
is_good l = is_line l && is_short l

-- the bytes are lines, and then a part of a line
pub record IsOpen (bytes : List ℕ) (ls : List Line) (held : List ℕ) : Type 0 where
  pub good : every is_good ls ≡ true
  pub text : lines_text ls ++ held ≡ bytes
  pub clear : lacks 10 held ≡ true
  pub fits : fits held ≡ true

-- cutting, a piece at a time

cut_from-line : (n : ℕ) (p xs : List ℕ) (l : Line) → fits p ≡ true → line_of p ≡ Some l
    → cut_from n (p ∷ pieces 10 xs) ≡ before l (cut_from (suc n) (pieces 10 xs))
cut_from-line n p xs l h e =
    let (q, qs, c) = pieces-open 10 [] xs refl in
    subst (λ ps. cut_from n (p ∷ ps) ≡ before l (cut_from (suc n) ps)) (sym c) (go q qs (fits p) (line_of p) h e) where
      go : (q : List ℕ) (qs : List (List ℕ)) (b : Bool) (o : Option Line) → b ≡ true → o ≡ Some l
          → cond b (begun n o (cut_from (suc n) (q ∷ qs))) (stops (TooLong n)) ≡ before l (cut_from (suc n) (q ∷ qs))
      go q qs true (Some m) h e = let same : m ≡ l = cc in ap (λ k. before k (cut_from (suc n) (q ∷ qs))) same
      go q qs true None h e = cc
      go q qs false o h e = absurd (true≢false (sym h))

cut_from-other : (n : ℕ) (p xs : List ℕ) → fits p ≡ true → line_of p ≡ None
    → cut_from n (p ∷ pieces 10 xs) ≡ stops (NotALine n)
cut_from-other n p xs h e =
    let (q, qs, c) = pieces-open 10 [] xs refl in
    subst (λ ps. cut_from n (p ∷ ps) ≡ stops (NotALine n)) (sym c) (go q qs (fits p) (line_of p) h e) where
      go : (q : List ℕ) (qs : List (List ℕ)) (b : Bool) (o : Option Line) → b ≡ true → o ≡ None
          → cond b (begun n o (cut_from (suc n) (q ∷ qs))) (stops (TooLong n)) ≡ stops (NotALine n)
      go q qs true (Some m) h e = cc
      go q qs true None h e = refl
      go q qs false o h e = absurd (true≢false (sym h))

cut_from-long : (n : ℕ) (p : List ℕ) (ps : List (List ℕ)) → fits p ≡ false → cut_from n (p ∷ ps) ≡ stops (TooLong n)
cut_from-long n p [] h = go (fits p) h where
  go : (b : Bool) → b ≡ false
      → cond b (record { lines = []; left = p; fault = None }) (stops (TooLong n)) ≡ stops (TooLong n)
  go true h = absurd (true≢false h)
  go false h = refl
cut_from-long n p (q ∷ ps) h = go (fits p) h where
  go : (b : Bool) → b ≡ false
      → cond b (begun n (line_of p) (cut_from (suc n) (q ∷ ps))) (stops (TooLong n)) ≡ stops (TooLong n)
  go true h = absurd (true≢false h)
  go false h = refl

cut_from-left : (n : ℕ) (p : List ℕ) → fits p ≡ true
    → cut_from n (p ∷ []) ≡ record { lines = []; left = p; fault = None }
cut_from-left n p h = go (fits p) h where
  go : (b : Bool) → b ≡ true
      → cond b (record { lines = []; left = p; fault = None }) (stops (TooLong n))
      ≡ record { lines = []; left = p; fault = None }
  go true h = refl
  go false h = absurd (true≢false (sym h))

-- lines, and what comes behind them

abbrev after : List Line → Cut → Cut
after ls c = record { lines = ls ++ c.lines; left = c.left; fault = c.fault }

cut_from-lines : (n : ℕ) (ls : List Line) (rest : List ℕ) → every is_good ls ≡ true
    → cut_from n (pieces 10 (lines_text ls ++ rest)) ≡ after ls (cut_from (n + length ls) (pieces 10 rest))
cut_from-lines n [] rest h = ap (λ k. cut_from k (pieces 10 rest)) (omega arith)
cut_from-lines n (l ∷ ls) rest h =
    let (g, more) = and_parts (is_good l) (every is_good ls) h in
    let (small, short) = and_parts (is_line l) (is_short l) g in
    let next : suc n + length ls ≡ n + length (l ∷ ls) = omega arith in
    ap (λ xs. cut_from n (pieces 10 xs))
    (append_assoc (words_text l ++ 10 ∷ []) (lines_text ls) rest
    ∙ append_assoc (words_text l) (10 ∷ []) (lines_text ls ++ rest))
    ∙ ap (cut_from n) (pieces-past 10 (words_text l) (lines_text ls ++ rest) (words-lack l small))
    ∙ cut_from-line n (words_text l) (lines_text ls ++ rest) l short (line_of-of l small)
    ∙ ap (before l) (cut_from-lines (suc n) ls rest more)
    ∙ ap (λ k. after (l ∷ ls) (cut_from k (pieces 10 rest))) next

-- lines, and a fault behind them
cut-stopped : (bytes : List ℕ) (ls : List Line) (rest more : List ℕ) (f : Fault) → every is_good ls ≡ true
    → lines_text ls ++ rest ≡ bytes → cut_from (suc (length ls)) (pieces 10 (rest ++ more)) ≡ stops f
    → cut (bytes ++ more) ≡ record { lines = ls; left = []; fault = Some f }
cut-stopped bytes ls rest more f h t e =
    let next : 1 + length ls ≡ suc (length ls) = omega arith in
    ap (λ xs. cut (xs ++ more)) (sym t) ∙ ap cut (append_assoc (lines_text ls) rest more)
    ∙ cut_from-lines 1 ls (rest ++ more) h
    ∙ ap (λ k. after ls (cut_from k (pieces 10 (rest ++ more)))) next ∙ ap (after ls) e
    ∙ ap (λ ks. record { lines = ks; left = []; fault = Some f }) (append-nil ls)

-- lines, and a part of a line behind them
pub cut-open : (bytes : List ℕ) (ls : List Line) (held : List ℕ) → IsOpen bytes ls held
    → cut bytes ≡ record { lines = ls; left = held; fault = None }
cut-open bytes ls held o =
    ap cut (sym o.text) ∙ cut_from-lines 1 ls held o.good
    ∙ ap (λ ps. after ls (cut_from (1 + length ls) ps)) (one held o.clear)
    ∙ ap (after ls) (cut_from-left (1 + length ls) held o.fits)
    ∙ ap (λ ks. record { lines = ks; left = held; fault = None }) (append-nil ls)
  where
    one : (xs : List ℕ) → lacks 10 xs ≡ true → pieces 10 xs ≡ xs ∷ []
    one xs h = ap (pieces 10) (sym (append-nil xs)) ∙ cut-word 10 [] xs [] h

-- a text of lines is cut into them
pub cut-text : (bytes : List ℕ) (ls : List Line) → IsText bytes ls
    → cut bytes ≡ record { lines = ls; left = []; fault = None }
cut-text bytes ls t =
    cut-open bytes ls [] (record {
      good = both ls t.small t.short;
      text = append-nil (lines_text ls) ∙ t.text;
      clear = refl;
      fits = refl;
    })
  where
    both : (ks : List Line) → every is_line ks ≡ true → every is_short ks ≡ true → every is_good ks ≡ true
    both [] g h = refl
    both (k ∷ ks) g h =
        let (a, b) = and_parts (is_line k) (every is_line ks) g in
        let (c, d) = and_parts (is_short k) (every is_short ks) h in
        and_from (is_good k) _ (and_from (is_line k) (is_short k) a c) (both ks b d)

-- the converse: what is cut without a fault is lines, and a part of one

step : ℕ → List ℕ → Cut → Cut
step n p c = cond (fits p) (begun n (line_of p) c) (stops (TooLong n))

cut_from-step : (n : ℕ) (p : List ℕ) (front : List (List ℕ)) (q : List ℕ) (qs : List (List ℕ))
    → cut_from n (p ∷ (front ++ q ∷ qs)) ≡ step n p (cut_from (suc n) (front ++ q ∷ qs))
unfolding step
cut_from-step n p [] q qs = refl
cut_from-step n p (r ∷ front) q qs = refl

open-more : (l : Line) (p rest : List ℕ) (ls : List Line) (held : List ℕ) → fits p ≡ true → line_of p ≡ Some l
    → IsOpen rest ls held → IsOpen (p ++ 10 ∷ rest) (l ∷ ls) held
open-more l p rest ls held h e o =
    let spells = line_of-spells p l e in
    record {
      good = and_from (is_good l) (every is_good ls)
          (and_from (is_line l) (is_short l) spells.small (ap fits spells.text ∙ h)) o.good;
      text = append_assoc (words_text l ++ 10 ∷ []) (lines_text ls) held
          ∙ append_assoc (words_text l) (10 ∷ []) (lines_text ls ++ held)
          ∙ (λ i. spells.text i ++ 10 ∷ o.text i);
      clear = o.clear;
      fits = o.fits;
    }

open-from : (n : ℕ) (ps : List (List ℕ)) (ls : List Line) (held : List ℕ) → every (lacks 10) ps ≡ true
    → cut_from n ps ≡ record { lines = ls; left = held; fault = None } → IsOpen (joined 10 ps) ls held
open-from n [] ls held h e =
    let none : [] ≡ ls = ap (λ c. c.lines) e in
    let nothing : [] ≡ held = ap (λ c. c.left) e in
    subst (λ ks. IsOpen [] ks held) none
    (subst (IsOpen [] []) nothing (record { good = refl; text = refl; clear = refl; fits = refl }))
open-from n (p ∷ []) ls held h e = go (fits p) refl e where
  go : (b : Bool) → fits p ≡ b
      → cond b (record { lines = []; left = p; fault = None }) (stops (TooLong n))
      ≡ record { lines = ls; left = held; fault = None }
      → IsOpen (p ++ []) ls held
  go true s f =
      let none : [] ≡ ls = ap (λ c. c.lines) f in
      let same : p ≡ held = ap (λ c. c.left) f in
      subst (λ ks. IsOpen (p ++ []) ks held) none
      (subst (IsOpen (p ++ []) []) same
      (record { good = refl; text = sym (append-nil p); clear = (and_parts (lacks 10 p) true h).0; fits = s }))
  go false s f = let none : Some (TooLong n) ≡ None = ap (λ c. c.fault) f in cc
open-from n (p ∷ q ∷ ps) ls held h e =
    go (λ ks. open-from (suc n) (q ∷ ps) ks held (and_parts (lacks 10 p) (every (lacks 10) (q ∷ ps)) h).1)
    (fits p) refl (line_of p) refl e
  where
    go : ((ks : List Line) → cut_from (suc n) (q ∷ ps) ≡ record { lines = ks; left = held; fault = None }
        → IsOpen (joined 10 (q ∷ ps)) ks held)
        → (b : Bool) → fits p ≡ b → (o : Option Line) → line_of p ≡ o
        → cond b (begun n o (cut_from (suc n) (q ∷ ps))) (stops (TooLong n))
        ≡ record { lines = ls; left = held; fault = None }
        → IsOpen (joined 10 (p ∷ q ∷ ps)) ls held
    go next true s (Some l) t f =
        let rest = cut_from (suc n) (q ∷ ps) in
        let lines : l ∷ rest.lines ≡ ls = ap (λ c. c.lines) f in
        let left : rest.left ≡ held = ap (λ c. c.left) f in
        let fault : rest.fault ≡ None = ap (λ c. c.fault) f in
        subst (λ ks. IsOpen (joined 10 (p ∷ q ∷ ps)) ks held) lines
        (open-more l p (joined 10 (q ∷ ps)) rest.lines held s t
        (next rest.lines (λ i. record { lines = rest.lines; left = left i; fault = fault i })))
    go next true s None t f = let none : Some (NotALine n) ≡ None = ap (λ c. c.fault) f in cc
    go next false s o t f = let none : Some (TooLong n) ≡ None = ap (λ c. c.fault) f in cc

pub open-cut : (bytes : List ℕ) (ls : List Line) (held : List ℕ)
    → cut bytes ≡ record { lines = ls; left = held; fault = None } → IsOpen bytes ls held
open-cut bytes ls held e =
    subst (λ xs. IsOpen xs ls held) (joined-pieces 10 [] bytes)
    (open-from 1 (pieces 10 bytes) ls held (pieces_on-lack 10 [] bytes refl) e)

-- what is cut into lines with nothing left is their text
pub text-cut : (bytes : List ℕ) (ls : List Line) → cut bytes ≡ record { lines = ls; left = []; fault = None }
    → IsText bytes ls
text-cut bytes ls e =
    let o = open-cut bytes ls [] e in
    record {
      small = first ls o.good;
      short = second ls o.good;
      text = sym (append-nil (lines_text ls)) ∙ o.text;
    }
  where
    first : (ks : List Line) → every is_good ks ≡ true → every is_line ks ≡ true
    first [] h = refl
    first (k ∷ ks) h =
        let (g, more) = and_parts (is_good k) (every is_good ks) h in
        and_from (is_line k) (every is_line ks) (and_parts (is_line k) (is_short k) g).0 (first ks more)

    second : (ks : List Line) → every is_good ks ≡ true → every is_short ks ≡ true
    second [] h = refl
    second (k ∷ ks) h =
        let (g, more) = and_parts (is_good k) (every is_good ks) h in
        and_from (is_short k) (every is_short ks) (and_parts (is_line k) (is_short k) g).1 (second ks more)

-- behind a fault nothing is read

longer : (v q : List ℕ) → fits v ≡ false → fits (v ++ q) ≡ false
longer v q h =
    lt-leb (length (v ++ q)) longest_line
    (omega (arith, leb-false (length v) longest_line h, length-append v q))

step-stays : (n : ℕ) (p : List ℕ) (c d : Cut) (f : Fault)
    → ((g : Fault) → c.fault ≡ Some g → d ≡ c) → (step n p c).fault ≡ Some f → step n p d ≡ step n p c
unfolding step
step-stays n p c d f same e = go (fits p) (line_of p) e where
  go : (b : Bool) (o : Option Line) → (cond b (begun n o c) (stops (TooLong n))).fault ≡ Some f
      → cond b (begun n o d) (stops (TooLong n)) ≡ cond b (begun n o c) (stops (TooLong n))
  go true (Some l) e = ap (before l) (same f e)
  go true None e = refl
  go false o e = refl

cut_from-stays : (n : ℕ) (front : List (List ℕ)) (last more : List ℕ) (others : List (List ℕ)) (f : Fault)
    → (cut_from n (front ++ last ∷ [])).fault ≡ Some f
    → cut_from n (front ++ (last ++ more) ∷ others) ≡ cut_from n (front ++ last ∷ [])
cut_from-stays n [] last more others f e = go (fits last) refl e where
  go : (b : Bool) → fits last ≡ b
      → (cond b (record { lines = []; left = last; fault = None }) (stops (TooLong n))).fault ≡ Some f
      → cut_from n ((last ++ more) ∷ others) ≡ cut_from n (last ∷ [])
  go true h e = cc
  go false h e =
      cut_from-long n (last ++ more) others (longer last more h) ∙ sym (cut_from-long n last [] h)
cut_from-stays n (p ∷ front) last more others f e =
    cut_from-step n p front (last ++ more) others
    ∙ step-stays n p (cut_from (suc n) (front ++ last ∷ [])) (cut_from (suc n) (front ++ (last ++ more) ∷ others)) f
    (cut_from-stays (suc n) front last more others) (ap (λ c. c.fault) (sym (cut_from-step n p front last [])) ∙ e)
    ∙ sym (cut_from-step n p front last [])

pub cut-stays : (bytes more : List ℕ) (f : Fault) → (cut bytes).fault ≡ Some f → cut (bytes ++ more) ≡ cut bytes
cut-stays bytes more f e =
    let l = pieces_on-longer 10 [] bytes more in
    ap (cut_from 1) l.after
    ∙ cut_from-stays 1 l.front l.last l.more l.others f (ap (λ ps. (cut_from 1 ps).fault) (sym l.before) ∙ e)
    ∙ ap (cut_from 1) (sym l.before)

-- a piece that is read

abbrev reading : List Line → List ℕ → Reader
reading ls held = record { taken = length ls; held = held; waiting = None; fault = None }

-- the reader after it read some bytes, with the line that waits
abbrev StandsAfter : List ℕ → List Line → Reader → Type 0
StandsAfter bytes ls r = Stands bytes (ls ++ option_to_list r.waiting) r

module _ (bytes : List ℕ) (ls : List Line) (held : List ℕ) (was : IsOpen bytes ls held) where
  -- the lines, what was held, and what was read
  whole : (xs : List ℕ) → lines_text ls ++ (held ++ xs) ≡ bytes ++ xs
  whole xs = sym (append_assoc (lines_text ls) held xs) ∙ ap (λ ys. ys ++ xs) was.text

  stopped-after : (xs : List ℕ) (f : Fault)
      → ((more : List ℕ) → cut_from (suc (length ls)) (pieces 10 ((held ++ xs) ++ more)) ≡ stops f)
      → StandsAfter (bytes ++ xs) ls (stopped (reading ls held) f)
  stopped-after xs f e = record {
    cut = ap cut (sym (append-nil (bytes ++ xs)))
        ∙ cut-stopped (bytes ++ xs) ls (held ++ xs) [] f was.good (whole xs) (e [])
        ∙ ap (λ ks. record { lines = ks; left = []; fault = Some f }) (sym (append-nil ls));
    count = ap length (sym (append-nil ls));
  }

  grown-after : (xs : List ℕ) → lacks 10 (held ++ xs) ≡ true
      → StandsAfter (bytes ++ xs) ls (grown (reading ls held) (held ++ xs))
  grown-after xs clear = go (fits (held ++ xs)) refl where
    go : (b : Bool) → fits (held ++ xs) ≡ b
        → StandsAfter (bytes ++ xs) ls (cond b (reading ls (held ++ xs))
        (stopped (reading ls held) (TooLong (suc (length ls)))))
    go true h = record {
      cut = cut-open (bytes ++ xs) ls (held ++ xs)
          (record { good = was.good; text = whole xs; clear = clear; fits = h })
          ∙ ap (λ ks. record { lines = ks; left = held ++ xs; fault = None }) (sym (append-nil ls));
      count = ap length (sym (append-nil ls));
    }
    go false h = stopped-after xs (TooLong (suc (length ls))) (λ more.
        let (q, qs, c) = pieces-open 10 (held ++ xs) more clear in
        ap (cut_from (suc (length ls))) c
        ∙ cut_from-long (suc (length ls)) ((held ++ xs) ++ q) qs (longer (held ++ xs) q h))

  ended-after : (front : List ℕ) → lacks 10 (held ++ front) ≡ true
      → StandsAfter (bytes ++ (front ++ 10 ∷ [])) ls (ended (reading ls held) (held ++ front))
  ended-after front clear = go (fits (held ++ front)) refl (line_of (held ++ front)) refl where
    -- the first piece of what comes behind the lines
    first : (more : List ℕ) → pieces 10 ((held ++ (front ++ 10 ∷ [])) ++ more) ≡ (held ++ front) ∷ pieces 10 more
    first more =
        ap (λ ys. pieces 10 (ys ++ more)) (sym (append_assoc held front (10 ∷ [])))
        ∙ ap (pieces 10) (append_assoc (held ++ front) (10 ∷ []) more) ∙ pieces-past 10 (held ++ front) more clear

    given_line : (l : Line) → fits (held ++ front) ≡ true → line_of (held ++ front) ≡ Some l
        → StandsAfter (bytes ++ (front ++ 10 ∷ [])) ls (with_line (reading ls held) (Some l))
    given_line l h e =
        let spells = line_of-spells (held ++ front) l e in
        record {
          cut = cut-open (bytes ++ (front ++ 10 ∷ [])) (ls ++ l ∷ []) [] (record {
            good = every-append is_good ls (l ∷ []) ∙ and_from (every is_good ls) _ was.good
                (and_from (is_good l) true
                (and_from (is_line l) (is_short l) spells.small (ap fits spells.text ∙ h)) refl);
            text = append-nil (lines_text (ls ++ l ∷ [])) ∙ flat_map-append line_text ls (l ∷ [])
                ∙ ap (λ ys. lines_text ls ++ ys) (append-nil (line_text l)
                ∙ ap (λ ys. ys ++ 10 ∷ []) spells.text ∙ append_assoc held front (10 ∷ []))
                ∙ whole (front ++ 10 ∷ []);
            clear = refl;
            fits = refl;
          });
          count = let more = length-append ls (l ∷ []) in omega (arith, more);
        }

    go : (b : Bool) → fits (held ++ front) ≡ b → (o : Option Line) → line_of (held ++ front) ≡ o
        → StandsAfter (bytes ++ (front ++ 10 ∷ [])) ls
        (cond b (with_line (reading ls held) o) (stopped (reading ls held) (TooLong (suc (length ls)))))
    go true h (Some l) e = given_line l h e
    go true h None e = stopped-after (front ++ 10 ∷ []) (NotALine (suc (length ls))) (λ more.
        ap (cut_from (suc (length ls))) (first more)
        ∙ cut_from-other (suc (length ls)) (held ++ front) more h e)
    go false h o e = stopped-after (front ++ 10 ∷ []) (TooLong (suc (length ls))) (λ more.
        ap (cut_from (suc (length ls))) (first more)
        ∙ cut_from-long (suc (length ls)) (held ++ front) (pieces 10 more) h)

  joined-clear : (xs : List ℕ) → lacks 10 xs ≡ true → lacks 10 (held ++ xs) ≡ true
  joined-clear xs h = every-append _ held xs ∙ and_from (lacks 10 held) (lacks 10 xs) was.clear h

  fed-after : (piece : List ℕ) → StandsAfter (bytes ++ take (read_count piece) piece) ls (fed (reading ls held) piece)
  fed-after piece = go (split_at 10 piece) refl where
    go : (o : Option (List ℕ × List ℕ)) → split_at 10 piece ≡ o
        → StandsAfter (bytes ++ take (count_of piece o) piece) ls (fed_at (reading ls held) piece o)
    go None e =
        subst (λ ys. StandsAfter (bytes ++ ys) ls (grown (reading ls held) (held ++ piece))) (sym (take-length piece))
        (grown-after piece (joined-clear piece (split_at-none 10 piece e)))
    go (Some (front, rest)) e =
        let many : suc (length front) ≡ length (front ++ 10 ∷ []) =
        let more = length-append front (10 ∷ []) in omega (arith, more) in
        let read : take (suc (length front)) piece ≡ front ++ 10 ∷ [] =
        (λ i. take (many i) (sym (append_assoc front (10 ∷ []) rest ∙ split_at-text 10 piece front rest e) i))
        ∙ take-append_seam (front ++ 10 ∷ []) rest in
        subst (λ ys. StandsAfter (bytes ++ ys) ls (ended (reading ls held) (held ++ front))) (sym read)
        (ended-after front (joined-clear front (split_at-front 10 piece front rest e)))

-- what is read of a piece is read of the whole: so where a reader is doesn't depend on how the bytes came
pub fed-stands : (bytes piece : List ℕ) (ls : List Line) (r : Reader) → r.waiting ≡ None → Stands bytes ls r
    → Stands (bytes ++ take (read_count piece) piece) (ls ++ option_to_list (fed r piece).waiting) (fed r piece)
fed-stands bytes piece ls r idle s = go r.fault refl where
  read : List ℕ
  read = take (read_count piece) piece

  go : (o : Option Fault) → r.fault ≡ o → StandsAfter (bytes ++ take (read_count piece) piece) ls (fed r piece)
  go None none =
      let same : reading ls r.held ≡ r =
      λ i. record { taken = sym s.count i; held = r.held; waiting = sym idle i; fault = sym none i } in
      subst (λ t. StandsAfter (bytes ++ take (read_count piece) piece) ls (fed t piece)) same
      (fed-after bytes ls r.held (open-cut bytes ls r.held
      (s.cut ∙ ap (λ o. record { lines = ls; left = r.held; fault = o }) none)) piece)
  go (Some f) some =
      let same : r ≡ fed r piece = ap (λ o. fed_unless r piece o) (sym some) in
      subst (StandsAfter (bytes ++ take (read_count piece) piece) ls) same
      (subst (λ o. Stands (bytes ++ take (read_count piece) piece) (ls ++ option_to_list o) r) (sym idle) (record {
        cut = cut-stays bytes (take (read_count piece) piece) f (ap (λ c. c.fault) s.cut ∙ some) ∙ s.cut
            ∙ ap (λ ks. record { lines = ks; left = r.held; fault = r.fault }) (sym (append-nil ls));
        count = s.count ∙ ap length (sym (append-nil ls));
      }))

-- to give the line that waits changes nothing of this
pub given-stands : (bytes : List ℕ) (ls : List Line) (r : Reader) → Stands bytes ls r → Stands bytes ls (given r)
given-stands bytes ls r s = record { cut = s.cut; count = s.count }

-- a piece has one line at the most
pub fed-taken : (r : Reader) (piece : List ℕ) → (fed r piece).taken ≤ r.taken + 1
fed-taken r piece = go r.fault where
  at_line : (o : Option Line) → (with_line r o).taken ≤ r.taken + 1
  at_line (Some l) = omega arith
  at_line None = omega arith

  at_end : (b : Bool) (o : Option Line) (f : Fault) → (cond b (with_line r o) (stopped r f)).taken ≤ r.taken + 1
  at_end true o f = at_line o
  at_end false o f = omega arith

  at_part : (b : Bool) (xs : List ℕ) (f : Fault)
      → (cond b (record { taken = r.taken; held = xs; waiting = None; fault = None }) (stopped r f)).taken ≤ r.taken + 1
  at_part true xs f = omega arith
  at_part false xs f = omega arith

  at_split : (s : Option (List ℕ × List ℕ)) → (fed_at r piece s).taken ≤ r.taken + 1
  at_split (Some (front, rest)) = at_end (fits (r.held ++ front)) (line_of (r.held ++ front)) (TooLong (suc r.taken))
  at_split None = at_part (fits (r.held ++ piece)) (r.held ++ piece) (TooLong (suc r.taken))

  go : (o : Option Fault) → (fed_unless r piece o).taken ≤ r.taken + 1
  go (Some f) = omega arith
  go None = at_split (split_at 10 piece)
