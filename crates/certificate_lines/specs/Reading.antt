-- The line that a text stands for, by its first word.
use Rattle.std.specs.Prelude.{ℕ, ◌+◌, ◌-◌, ◌*◌, List, [], ◌∷◌, Bool, true, false, ◌&&◌, not, cond, nat_eq, nat_lt, codes}
use Rattle.std.specs.Prelude.{Option, Some, None, option_map, option_and_then}
use Rattle.std.specs.Char.{is_ascii_digit}
use Rattle.documents.specs.Kind.{Kind, all_kinds}
use Rattle.documents.specs.KindWords.{kind_word}
use Rattle.goals.specs.Signed.{Signed, Plus, Minus}
use Rattle.certificate_lines.specs.Line.{Line, Ending, Clashes, Cites, ShortEntry, Kept, Ends}
use Rattle.certificate_lines.specs.Line as L
use Rattle.certificate_lines.specs.Text.{words_text}
use Rattle.certificate_lines.specs.Pieces.{pieces, split_at, after_word, is_word}

-- a list of what each text stands for; none where one stands for nothing
abbrev pub read_all : {A : Type 0} → (List ℕ → Option A) → List (List ℕ) → Option (List A)
read_all read [] = Some []
read_all read (p ∷ ps) = option_and_then (λ x. option_map (λ xs. x ∷ xs) (read_all read ps)) (read p)

-- one digit, or a first digit that isn't zero
abbrev pub is_plain : List ℕ → Bool
is_plain [] = false
is_plain (d ∷ []) = true
is_plain (d ∷ e ∷ ds) = not (nat_eq d 48)

-- the number n with digits put behind it, at most 4294967295
abbrev pub digits_from : ℕ → List ℕ → Option ℕ
digits_from n [] = Some n
digits_from n (d ∷ ds) =
    cond (is_ascii_digit d && nat_lt (n * 10 + (d - 48)) 4294967296) (digits_from (n * 10 + (d - 48)) ds) None

abbrev pub number_of : List ℕ → Option ℕ
number_of ds = cond (is_plain ds) (digits_from 0 ds) None

-- the first answer, or the second where there is none
abbrev pub or_else : {A : Type 0} → Option A → Option A → Option A
or_else (Some x) o = Some x
or_else None o = o

-- two answers
abbrev pub both : {A B : Type 0} → Option A → Option B → Option (A × B)
both o p = option_and_then (λ x. option_map (λ y. (x, y)) p) o

-- what a word and the text after it stand for
abbrev pub headed : {A B : Type 0} → List ℕ → (List ℕ → Option A) → (A → B) → List ℕ → Option B
headed word read make xs = option_map make (option_and_then read (after_word word xs))

abbrev pub signed_of : List ℕ → Option Signed
signed_of xs = or_else (headed (codes "+") number_of Plus xs) (headed (codes "-") number_of Minus xs)

-- the first of the kinds with that word
abbrev pub kind_among : List Kind → List ℕ → Option Kind
kind_among [] xs = None
kind_among (t ∷ ts) xs = cond (is_word (kind_word t) xs) (Some t) (kind_among ts xs)

abbrev pub kind_of_word : List ℕ → Option Kind
kind_of_word xs = kind_among all_kinds xs

abbrev pub ending_of : List ℕ → Option Ending
ending_of xs = cond (is_word (codes "clash") xs) (Some Clashes) (headed (codes "goal ") number_of Cites xs)

-- nothing comes before the first blank
abbrev pub after_first : List (List ℕ) → Option (List (List ℕ))
after_first ([] ∷ ps) = Some ps
after_first _ = None

-- words, each after a blank
abbrev pub listed : List ℕ → Option (List (List ℕ))
listed xs = after_first (pieces 32 xs)

abbrev pub list_of : {A : Type 0} → (List ℕ → Option A) → List ℕ → Option (List A)
list_of read xs = option_and_then (read_all read) (listed xs)

-- the first of a list, and the others
abbrev pub parted : {A : Type 0} → List A → Option (A × List A)
parted [] = None
parted (x ∷ xs) = Some (x, xs)

-- one or more numbers
abbrev pub some_of : List ℕ → Option (ℕ × List ℕ)
some_of xs = option_and_then parted (list_of number_of xs)

-- a number, and after a blank something else
abbrev pub beside_number : {A : Type 0} → (List ℕ → Option A) → List ℕ → Option (ℕ × A)
beside_number read xs = option_and_then (λ (p, q). both (number_of p) (read q)) (split_at 32 xs)

-- the entry of one word
abbrev pub bare_entry : List ℕ → Option ShortEntry
bare_entry w = cond (is_word (codes "-") w) (Some Kept) (cond (is_word (codes "clash") w) (Some (Ends Clashes)) None)

-- the entries of words; where a goal is awaited, its number comes next
abbrev pub entries_on : Bool → List (List ℕ) → Option (List ShortEntry)
entries_on false [] = Some []
entries_on true [] = None
entries_on true (w ∷ ws) =
    option_and_then (λ k. option_map (λ fs. Ends (Cites k) ∷ fs) (entries_on false ws)) (number_of w)
entries_on false (w ∷ ws) =
    cond (is_word (codes "goal") w) (entries_on true ws)
    (option_and_then (λ f. option_map (λ fs. f ∷ fs) (entries_on false ws)) (bare_entry w))

abbrev pub entries_of : List ℕ → Option (List ShortEntry)
entries_of xs = option_and_then (entries_on false) (listed xs)

-- the lines without arguments
abbrev pub bare_lines : List Line
bare_lines = L.Version ∷ L.Count ∷ L.NoTruth ∷ L.NoNumber ∷ L.Arrays ∷ L.Split ∷ L.End ∷ []

abbrev pub bare_among : List Line → List ℕ → Option Line
bare_among [] xs = None
bare_among (l ∷ ls) xs = cond (is_word (words_text l) xs) (Some l) (bare_among ls xs)

abbrev pub bare_line : List ℕ → Option Line
bare_line xs = bare_among bare_lines xs

abbrev pub counted_line : List ℕ → Option Line
counted_line xs =
    or_else (headed (codes "goals ") number_of L.Goals xs)
    (or_else (headed (codes "entry ") number_of L.Entry xs)
    (or_else (headed (codes "clash ") number_of L.Clash xs) (headed (codes "string ") number_of L.Strings xs)))

abbrev pub signed_line : List ℕ → Option Line
signed_line xs =
    or_else (headed (codes "rule ") signed_of L.Rule xs)
    (or_else (headed (codes "kind ") signed_of L.OfKind xs) (headed (codes "at ") kind_of_word L.At xs))

abbrev pub paired_line : List ℕ → Option Line
paired_line xs =
    or_else (headed (codes "member ") (beside_number ending_of) (λ (m, e). L.OfMember m e) xs)
    (or_else (headed (codes "index ") (beside_number ending_of) (λ (i, e). L.OfIndex i e) xs)
    (or_else (headed (codes "tail ") (beside_number ending_of) (λ (t, e). L.OfTail t e) xs)
    (headed (codes "object ") (beside_number number_of) (λ (r, c). L.Objects r c) xs)))

abbrev pub listed_line : List ℕ → Option Line
listed_line xs =
    or_else (headed (codes "row") (list_of number_of) L.Row xs)
    (or_else (headed (codes "least") (list_of number_of) L.Least xs)
    (or_else (headed (codes "cap") some_of (λ (c, bs). L.Cap c bs) xs)
    (or_else (headed (codes "short") entries_of L.Short xs) (headed (codes "goal") (list_of signed_of) L.Goal xs))))

abbrev pub line_of : List ℕ → Option Line
line_of xs =
    or_else (bare_line xs)
    (or_else (counted_line xs) (or_else (signed_line xs) (or_else (paired_line xs) (listed_line xs))))
