-- Lines that are read, written again and compared.
use Rattle.std.proofs.Common.{◌≡◌, ℕ, ◌-◌, ◌<◌, ◌≤◌, List, [], ◌∷◌, ◌++◌, length, take, drop, true, false, Option, Some, None, Result, Ok, Err, codes, bytes_eq, refl, sym, ap, ◌∙◌, subst, arith, append_assoc}
use Rattle.std.specs.Fmt.{decimal}
use Rattle.std.specs.Result.{IsErrAnd}
use Rattle.std.proofs.lemmas.Bool.{and_parts, true≢false}
use Rattle.std.proofs.lemmas.List.{take_all, length-drop}
use Rattle.std.proofs.lemmas.Slice.Eq.{bytes_eq-Decides}
use Rattle.std.proofs.Math.Seq.{drop-append_seam}
use Rattle.shared_documents.specs.Part.{Part, names_below, names_rise, named, first_forward}
use Rattle.shared_documents.proofs.Laws.{below-none_forward}
use Rattle.document_texts.specs.PartsText.{part_text, line_text, count_text}
use Rattle.document_texts.specs.PartsRead.{is_told, is_named}
use Rattle.document_text_laws.specs.Reader.{number_on}
use Rattle.document_text_laws.proofs.NumberLaws.{number-read}
use Rattle.document_text_laws.proofs.PartLaws.{same-count, same-line}
use Rattle.js_text.specs.declared.table_reader.PartsLineFault.{PartsLineFault}
use Rattle.js_text.specs.declared.table_reader.PartsLineFault.TheVariants as F
use Rattle.js_text.specs.Reads.{is_fine, Matches, ReadsCount, ReadsLine, ReadsPart, IsTaken, IsNoLine}
use Rattle.std.proofs.lemmas.Option.{none-some, same_Some}
use Rattle.list_laws.proofs.Tests.{find-none_below}

pub same-bytes : (a b : List ℕ) → bytes_eq a b ≡ true → a ≡ b
same-bytes a b h = (bytes_eq-Decides a b).0 h

pub other-bytes : (a b : List ℕ) → bytes_eq a b ≡ false → a ≡ b → ⊥
other-bytes a b h e = true≢false (sym ((bytes_eq-Decides a b).1 e) ∙ h)

-- a slice from a place on
pub slice-from : (line text : List ℕ) (k : ℕ) → k ≡ length text
    → take (length line - k) (drop k line) ≡ drop (length text) line
slice-from line text k e =
    take_all (length line - k) (drop k line) (omega (arith, length-drop k line)) ∙ ap (λ n. drop n line) e

-- ---- the line of the count

abbrev begun : List ℕ
begun = codes "parts "

pub count-digits : (text line : List ℕ) (n : ℕ) → text ≡ begun → n ≤ 4294967295 → line ≡ count_text n
    → number_on 0 (drop (length text) line) ≡ (n, 10 ∷ [])
count-digits text line n t l is =
    ap (λ x. number_on 0 (drop (length x) line)) t ∙ ap (λ x. number_on 0 (drop 6 x)) is
    ∙ number-read n (10 ∷ []) (omega (arith, l)) refl

pub count-matches : (text line : List ℕ) (count : ℕ) (r : Option ℕ) → text ≡ begun
    → ((n : ℕ) → n ≤ 4294967295 → line ≡ count_text n → count ≡ n)
    → Matches (text ++ (decimal count ++ 10 ∷ [])) line count r → ReadsCount line r
count-matches text line count None t only h = λ n l is.
    h (ap (λ x. x ++ (decimal count ++ 10 ∷ [])) t ∙ ap count_text (only n l is) ∙ sym is)
count-matches text line count (Some m) t only h =
    sym h.1 ∙ ap (λ x. x ++ (decimal count ++ 10 ∷ [])) t ∙ ap count_text (sym h.0)

-- ---- the line of a part

abbrev before : ℕ → List ℕ
before place = decimal place ++ 32 ∷ []

pub line-behind : (text line : List ℕ) (place : ℕ) (p : Part) → text ≡ before place → line ≡ line_text place p
    → drop (length text) line ≡ part_text p ++ 10 ∷ []
line-behind text line place p t is =
    ap (λ x. drop (length x) line) t
    ∙ ap (drop (length (before place))) (is ∙ parts place p)
    ∙ drop-append_seam (before place) (part_text p ++ 10 ∷ [])
  where
    parts : (place : ℕ) (p : Part) → line_text place p ≡ before place ++ (part_text p ++ 10 ∷ [])
    parts place p =
        append_assoc (decimal place) (32 ∷ part_text p) (10 ∷ [])
        ∙ sym (append_assoc (decimal place) (32 ∷ []) (part_text p ++ 10 ∷ []))

whole-line : (text : List ℕ) (place : ℕ) (p : Part) → text ≡ before place
    → text ++ part_text p ++ 10 ∷ [] ≡ line_text place p
whole-line text place p t =
    ap (λ x. x ++ part_text p ++ 10 ∷ []) t
    ∙ ap (λ x. x ++ 10 ∷ []) (append_assoc (decimal place) (32 ∷ []) (part_text p))

pub line-matches : (text line : List ℕ) (place : ℕ) (part : Part) (r : Option Part) → text ≡ before place
    → is_fine part ≡ true → ReadsPart (drop (length text) line) (Some part)
    → Matches (text ++ part_text part ++ 10 ∷ []) line part r → ReadsLine place line r
line-matches text line place part None t fine reads h = λ p told rises is.
    let same = same_Some part p (reads p told rises (line-behind text line place p t is)) in
    h (whole-line text place part t ∙ ap (line_text place) same ∙ sym is)
line-matches text line place part (Some q) t fine reads h =
    (ap is_fine h.0 ∙ fine, sym h.1 ∙ whole-line text place part t ∙ ap (line_text place) (sym h.0))

pub line-none : (text line : List ℕ) (place : ℕ) (p : Part) → text ≡ before place
    → ReadsPart (drop (length text) line) None → is_told p ≡ true → names_rise p ≡ true → line ≡ line_text place p → ⊥
line-none text line place p t reads told rises is =
    none-some p (reads p told rises (line-behind text line place p t is))

-- ---- a part that names none that is still to come

pub forward-none : (n : ℕ) (p : Part) → names_below n p ≡ true → first_forward n p ≡ None
forward-none n p h = find-none_below n (named p) h

pub taken-line : (old new : List Part) (p : Part) (line : List ℕ) → is_fine p ≡ true → line ≡ line_text (length old) p
    → first_forward (length old) p ≡ None → new ≡ old ++ p ∷ [] → IsTaken old new line
taken-line old new p line fine is none taken =
    let both = and_parts (is_told p) (names_rise p) fine in
    record {
      part = p;
      is = record { below = below-none_forward (length old) p none; rises = both.1 };
      told = both.0;
      line_is = is;
      taken = taken;
    }

small : (k : ℕ) → k < 4294967295 → is_named k ≡ true
small k l = grind (arith, l)

pub forward-line : (old : List Part) (p : Part) (line : List ℕ) (i : ℕ) → length old < 4294967295 → is_fine p ≡ true
    → line ≡ line_text (length old) p → first_forward (length old) p ≡ Some i → IsNoLine old line
forward-line old p line i less fine is some q part told line_is =
    let k = length old in
    let both = and_parts (is_told p) (names_rise p) fine in
    let named = small k less in
    let one = same-line k k q p [] [] named named told both.0 (ap (λ x. x ++ []) (sym line_is ∙ is)) in
    none-some i (sym (forward-none k q part.below) ∙ ap (first_forward k) one.1.0 ∙ some)

-- ---- faults

-- the line that a fault names
abbrev pub line_in : {A : Type 0} → Result A PartsLineFault → ℕ
line_in (Ok x) = 0
line_in (Err F.Memory) = 0
line_in (Err (F.NotAPart n)) = n

-- what is passed on is the fault that was met
pub passed : {A E : Type 0} (r : Result A E) (met told : E) → IsErrAnd r (λ made. made ≡ met) → r ≡ Err told
    → met ≡ told
passed r met told h e = sym (subst (λ q. IsErrAnd q (λ made. made ≡ met)) e h)

-- the line that counts no parts isn't one that counts some
pub counts-none : (line : List ℕ) (count n : ℕ) → line ≡ count_text count → count ≡ 0 → 0 < n → n ≤ 4294967295
    → line ≡ count_text n → ⊥
counts-none line count n is none some l e =
    let both = same-count n 0 [] [] l (omega arith) (ap (λ x. x ++ []) (sym e ∙ is ∙ ap count_text none)) in
    omega (arith, some, both.0)
