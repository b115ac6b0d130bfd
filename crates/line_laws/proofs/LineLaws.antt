-- The line of a text: its words are the text, and the line of a line's words is that line.
use Rattle.std.proofs.Common.{◌≡◌, ℕ, Bool, true, false, not, cond, nat_eq, List, [], ◌∷◌, ◌++◌, Option, Some, None, option_map, refl, ap, sym, ◌∙◌, subst}
use Rattle.std.specs.Prelude.{codes}
use Rattle.std.specs.Fmt.{decimal}
use Rattle.std.proofs.lemmas.Bool.{and_parts, and_from}
use Rattle.documents.specs.Tests.{every}
use Rattle.documents.specs.Kind.{Null, Boolean, Number, Text, Array, Object}
use Rattle.list_laws.proofs.Elements.{every-append}
use Rattle.certificate_lines.specs.Line.{Line, Ending, Clashes, Cites, ShortEntry, Kept, Ends}
use Rattle.certificate_lines.specs.Line as L
use Rattle.certificate_lines.specs.Text.{signed_text, ending_text, entry_text, words_text, is_small, is_small_signed, is_small_ending, is_small_entry, is_line}
use Rattle.certificate_lines.specs.Pieces.{is_word}
use Rattle.certificate_lines.specs.Reading.{or_else, headed, number_of, signed_of, ending_of, list_of, some_of, beside_number, entries_of, bare_lines, bare_among, bare_line, counted_line, signed_line, paired_line, listed_line, line_of}
use Rattle.line_laws.proofs.PieceLaws.{lacks}
use Rattle.line_laws.proofs.NumberLaws.{decimal-lacks}
use Rattle.line_laws.proofs.ReadLaws.{Reads, either, headed-some, is_word-text, number-reads, signed-reads, signed-lacks, kind-reads, ending-reads, list-lacks, numbers-reads, signed_list-reads, some-reads, beside_text, is_small_beside, beside-reads, entries-reads}

-- the text is the line's words, with small numbers
pub record Spells (l : Line) (xs : List ℕ) : Type 0 where
  pub small : is_line l ≡ true
  pub text : words_text l ≡ xs

-- a line of a word and what is read after it
by_read : {A : Type 0} {read : List ℕ → Option A} {write : A → List ℕ} {good : A → Bool}
    → Reads read write good → (word : List ℕ) (make : A → Line) (xs : List ℕ) (l : Line)
    → ((x : A) → words_text (make x) ≡ word ++ write x) → ((x : A) → is_line (make x) ≡ good x)
    → headed word read make xs ≡ Some l → Spells l xs
by_read {read} {write} {good} r word make xs l spelt small e =
    let (x, m, p) = headed-some word read make xs l e in
    let (d, s) = r.text p.rest x p.says in
    subst (λ z. Spells z xs) m (record { small = small x ∙ s; text = spelt x ∙ ap (λ ys. word ++ ys) d ∙ p.text })

bare_among-spells : (ls : List Line) (xs : List ℕ) (l : Line) → every is_line ls ≡ true
    → bare_among ls xs ≡ Some l → Spells l xs
bare_among-spells [] xs l h e = cc
bare_among-spells (m ∷ ls) xs l h e =
    let (s, t) = and_parts (is_line m) (every is_line ls) h in
    go s (bare_among-spells ls xs l t) (is_word (words_text m) xs) refl e
  where
    go : is_line m ≡ true → (bare_among ls xs ≡ Some l → Spells l xs) → (b : Bool) → is_word (words_text m) xs ≡ b
        → cond b (Some m) (bare_among ls xs) ≡ Some l → Spells l xs
    go s next true w f =
        let same : m ≡ l = cc in
        subst (λ z. Spells z xs) same (record { small = s; text = is_word-text (words_text m) xs w })
    go s next false w f = next f

counted-spells : (xs : List ℕ) (l : Line) → counted_line xs ≡ Some l → Spells l xs
counted-spells xs l =
    either (headed (codes "goals ") number_of L.Goals xs) _ l
    (by_read number-reads (codes "goals ") L.Goals xs l (λ n. refl) (λ n. refl))
    (either (headed (codes "entry ") number_of L.Entry xs) _ l
    (by_read number-reads (codes "entry ") L.Entry xs l (λ n. refl) (λ n. refl))
    (either (headed (codes "clash ") number_of L.Clash xs) _ l
    (by_read number-reads (codes "clash ") L.Clash xs l (λ n. refl) (λ n. refl))
    (by_read number-reads (codes "string ") L.Strings xs l (λ n. refl) (λ n. refl))))

signed-spells : (xs : List ℕ) (l : Line) → signed_line xs ≡ Some l → Spells l xs
signed-spells xs l =
    either (headed (codes "rule ") signed_of L.Rule xs) _ l
    (by_read signed-reads (codes "rule ") L.Rule xs l (λ x. refl) (λ x. refl))
    (either (headed (codes "kind ") signed_of L.OfKind xs) _ l
    (by_read signed-reads (codes "kind ") L.OfKind xs l (λ x. refl) (λ x. refl))
    (by_read kind-reads (codes "at ") L.At xs l (λ t. refl) (λ t. refl)))

placed-reads : Reads (beside_number ending_of) (beside_text ending_text) (is_small_beside is_small_ending)
placed-reads = beside-reads ending_of ending_text is_small_ending ending-reads

two-reads : Reads (beside_number number_of) (beside_text decimal) (is_small_beside is_small)
two-reads = beside-reads number_of decimal is_small number-reads

paired-spells : (xs : List ℕ) (l : Line) → paired_line xs ≡ Some l → Spells l xs
paired-spells xs l =
    either (headed (codes "member ") (beside_number ending_of) (λ (m, e). L.OfMember m e) xs) _ l
    (by_read placed-reads (codes "member ") (λ (m, e). L.OfMember m e) xs l (λ z. refl) (λ z. refl))
    (either (headed (codes "index ") (beside_number ending_of) (λ (i, e). L.OfIndex i e) xs) _ l
    (by_read placed-reads (codes "index ") (λ (i, e). L.OfIndex i e) xs l (λ z. refl) (λ z. refl))
    (either (headed (codes "tail ") (beside_number ending_of) (λ (t, e). L.OfTail t e) xs) _ l
    (by_read placed-reads (codes "tail ") (λ (t, e). L.OfTail t e) xs l (λ z. refl) (λ z. refl))
    (by_read two-reads (codes "object ") (λ (r, c). L.Objects r c) xs l (λ z. refl) (λ z. refl))))

listed-spells : (xs : List ℕ) (l : Line) → listed_line xs ≡ Some l → Spells l xs
listed-spells xs l =
    either (headed (codes "row") (list_of number_of) L.Row xs) _ l
    (by_read numbers-reads (codes "row") L.Row xs l (λ ts. refl) (λ ts. refl))
    (either (headed (codes "least") (list_of number_of) L.Least xs) _ l
    (by_read numbers-reads (codes "least") L.Least xs l (λ ds. refl) (λ ds. refl))
    (either (headed (codes "cap") some_of (λ (c, bs). L.Cap c bs) xs) _ l
    (by_read some-reads (codes "cap") (λ (c, bs). L.Cap c bs) xs l (λ z. refl) (λ z. refl))
    (either (headed (codes "short") entries_of L.Short xs) _ l
    (by_read entries-reads (codes "short") L.Short xs l (λ fs. refl) (λ fs. refl))
    (by_read signed_list-reads (codes "goal") L.Goal xs l (λ ys. refl) (λ ys. refl)))))

-- a text that is read is the words of its line
pub line_of-spells : (xs : List ℕ) (l : Line) → line_of xs ≡ Some l → Spells l xs
line_of-spells xs l =
    either (bare_line xs) _ l (bare_among-spells bare_lines xs l refl)
    (either (counted_line xs) _ l (counted-spells xs l)
    (either (signed_line xs) _ l (signed-spells xs l)
    (either (paired_line xs) _ l (paired-spells xs l) (listed-spells xs l))))

-- the converse: the text of a line is read as that line

abbrev first : Option Line → Option Line
first o = or_else o None

pub line_of-of : (l : Line) → is_line l ≡ true → line_of (words_text l) ≡ Some l
line_of-of L.Version h = refl
line_of-of (L.Goals n) h = ap (λ o. first (first (option_map L.Goals o))) (number-reads.of n h)
line_of-of (L.Goal []) h = refl
line_of-of (L.Goal (x ∷ xs)) h = ap (λ o. option_map L.Goal o) (signed_list-reads.of (x ∷ xs) h)
line_of-of (L.Entry n) h = ap (λ o. first (first (option_map L.Entry o))) (number-reads.of n h)
line_of-of (L.At t) h = ap (λ o. first (option_map L.At o)) (kind-reads.of t refl)
line_of-of (L.Rule x) h = ap (λ o. first (first (option_map L.Rule o))) (signed-reads.of x h)
line_of-of (L.Clash p) h = ap (λ o. first (first (option_map L.Clash o))) (number-reads.of p h)
line_of-of (L.OfKind x) h = ap (λ o. first (first (option_map L.OfKind o))) (signed-reads.of x h)
line_of-of L.Count h = refl
line_of-of L.NoTruth h = refl
line_of-of L.NoNumber h = refl
line_of-of (L.Strings n) h = ap (λ o. first (option_map L.Strings o)) (number-reads.of n h)
line_of-of (L.Row ts) h = ap (λ o. first (option_map L.Row o)) (numbers-reads.of ts h)
line_of-of (L.Least ds) h = ap (λ o. first (option_map L.Least o)) (numbers-reads.of ds h)
line_of-of L.Arrays h = refl
line_of-of (L.Objects r c) h = ap (λ o. first (option_map (λ (r, c). L.Objects r c) o)) (two-reads.of (r, c) h)
line_of-of (L.Cap c bs) h = ap (λ o. first (option_map (λ (c, bs). L.Cap c bs) o)) (some-reads.of (c, bs) h)
line_of-of L.Split h = refl
line_of-of (L.OfMember m e) h =
    ap (λ o. first (first (option_map (λ (m, e). L.OfMember m e) o))) (placed-reads.of (m, e) h)
line_of-of (L.OfIndex i e) h =
    ap (λ o. first (first (option_map (λ (i, e). L.OfIndex i e) o))) (placed-reads.of (i, e) h)
line_of-of (L.OfTail t e) h =
    ap (λ o. first (first (option_map (λ (t, e). L.OfTail t e) o))) (placed-reads.of (t, e) h)
line_of-of (L.Short fs) h = ap (λ o. first (option_map L.Short o)) (entries-reads.of fs h)
line_of-of L.End h = refl

-- a text has no line exactly where it is no line's words
pub no_line : (xs : List ℕ) → line_of xs ≡ None → (l : Line) → is_line l ≡ true → words_text l ≡ xs → ⊥
no_line xs none l h t = let some = ap line_of (sym t) ∙ line_of-of l h in cc

-- no line feed is in a line

abbrev clear : List ℕ → Type 0
clear xs = lacks 10 xs ≡ true

number-clear : (n : ℕ) → is_small n ≡ true → clear (decimal n)
number-clear = decimal-lacks 10 refl

ending-clear : (e : Ending) → is_small_ending e ≡ true → clear (ending_text e)
ending-clear Clashes h = refl
ending-clear (Cites k) h = number-clear k h

entry-clear : (f : ShortEntry) → is_small_entry f ≡ true → clear (entry_text f)
entry-clear Kept h = refl
entry-clear (Ends e) h = ending-clear e h

beside-clear : {A : Type 0} (write : A → List ℕ) (good : A → Bool)
    → ((x : A) → good x ≡ true → clear (write x)) → (z : ℕ × A) → is_small_beside good z ≡ true
    → clear (beside_text write z)
beside-clear write good each (n, x) h =
    let (s, v) = and_parts (is_small n) (good x) h in
    every-append (λ c. not (nat_eq c 10)) (decimal n) (32 ∷ write x)
    ∙ and_from (lacks 10 (decimal n)) _ (number-clear n s) (each x v)

placed-clear : (z : ℕ × Ending) → is_small_beside is_small_ending z ≡ true → clear (beside_text ending_text z)
placed-clear = beside-clear ending_text is_small_ending ending-clear

pub words-lack : (l : Line) → is_line l ≡ true → lacks 10 (words_text l) ≡ true
words-lack L.Version h = refl
words-lack (L.Goals n) h = number-clear n h
words-lack (L.Goal xs) h = list-lacks 10 signed_text is_small_signed refl (signed-lacks 10 refl refl) xs h
words-lack (L.Entry n) h = number-clear n h
words-lack (L.At Null) h = refl
words-lack (L.At Boolean) h = refl
words-lack (L.At Number) h = refl
words-lack (L.At Text) h = refl
words-lack (L.At Array) h = refl
words-lack (L.At Object) h = refl
words-lack (L.Rule x) h = signed-lacks 10 refl refl x h
words-lack (L.Clash p) h = number-clear p h
words-lack (L.OfKind x) h = signed-lacks 10 refl refl x h
words-lack L.Count h = refl
words-lack L.NoTruth h = refl
words-lack L.NoNumber h = refl
words-lack (L.Strings n) h = number-clear n h
words-lack (L.Row ts) h = list-lacks 10 decimal is_small refl number-clear ts h
words-lack (L.Least ds) h = list-lacks 10 decimal is_small refl number-clear ds h
words-lack L.Arrays h = refl
words-lack (L.Objects r c) h = beside-clear decimal is_small number-clear (r, c) h
words-lack (L.Cap c bs) h = list-lacks 10 decimal is_small refl number-clear (c ∷ bs) h
words-lack L.Split h = refl
words-lack (L.OfMember m e) h = placed-clear (m, e) h
words-lack (L.OfIndex i e) h = placed-clear (i, e) h
words-lack (L.OfTail t e) h = placed-clear (t, e) h
words-lack (L.Short fs) h = list-lacks 10 entry_text is_small_entry refl entry-clear fs h
words-lack L.End h = refl
