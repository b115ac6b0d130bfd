-- The text that each line is written as, and which bytes are the text of lines.
use Rattle.std.specs.Prelude.{◌≡◌, ℕ, List, [], ◌∷◌, ◌++◌, flat_map, Bool, true, ◌&&◌, nat_lt, nat_le, length, codes}
use Rattle.std.specs.Fmt.{decimal}
use Rattle.documents.specs.Tests.{every}
use Rattle.documents.specs.KindWords.{kind_word}
use Rattle.goals.specs.Signed.{Signed, Plus, Minus, position_of}
use Rattle.certificate_lines.specs.Line.{Line, Ending, Clashes, Cites, ShortEntry, Kept, Ends}
use Rattle.certificate_lines.specs.Line as L

-- a sign and a position in decimal
abbrev pub signed_text : Signed → List ℕ
signed_text (Plus p) = 43 ∷ decimal p
signed_text (Minus p) = 45 ∷ decimal p

abbrev pub ending_text : Ending → List ℕ
ending_text Clashes = codes "clash"
ending_text (Cites k) = codes "goal " ++ decimal k

abbrev pub entry_text : ShortEntry → List ℕ
entry_text Kept = codes "-"
entry_text (Ends e) = ending_text e

-- each after a blank; an empty list leaves the bare word before it
abbrev pub list_text : {A : Type 0} → (A → List ℕ) → List A → List ℕ
list_text write xs = flat_map (λ x. 32 ∷ write x) xs

-- the words of a line, without the line feed at its end
abbrev pub words_text : Line → List ℕ
words_text L.Version = codes "certificate 1"
words_text (L.Goals n) = codes "goals " ++ decimal n
words_text (L.Goal xs) = codes "goal" ++ list_text signed_text xs
words_text (L.Entry n) = codes "entry " ++ decimal n
words_text (L.At t) = codes "at " ++ kind_word t
words_text (L.Rule x) = codes "rule " ++ signed_text x
words_text (L.Clash p) = codes "clash " ++ decimal p
words_text (L.OfKind x) = codes "kind " ++ signed_text x
words_text L.Count = codes "count"
words_text L.NoTruth = codes "bool"
words_text L.NoNumber = codes "number"
words_text (L.Strings n) = codes "string " ++ decimal n
words_text (L.Row ts) = codes "row" ++ list_text decimal ts
words_text (L.Least ds) = codes "least" ++ list_text decimal ds
words_text L.Arrays = codes "array"
words_text (L.Objects r c) = codes "object " ++ (decimal r ++ 32 ∷ decimal c)
words_text (L.Cap c bs) = codes "cap" ++ list_text decimal (c ∷ bs)
words_text L.Split = codes "split"
words_text (L.OfMember m e) = codes "member " ++ (decimal m ++ 32 ∷ ending_text e)
words_text (L.OfIndex i e) = codes "index " ++ (decimal i ++ 32 ∷ ending_text e)
words_text (L.OfTail t e) = codes "tail " ++ (decimal t ++ 32 ∷ ending_text e)
words_text (L.Short fs) = codes "short" ++ list_text entry_text fs
words_text L.End = codes "end"

abbrev pub line_text : Line → List ℕ
line_text l = words_text l ++ 10 ∷ []

-- the text of a certificate: its lines, one after another
abbrev pub lines_text : List Line → List ℕ
lines_text ls = flat_map line_text ls

-- the numbers of a line are at most 4294967295
abbrev pub is_small : ℕ → Bool
is_small n = nat_lt n 4294967296

abbrev pub is_small_signed : Signed → Bool
is_small_signed x = is_small (position_of x)

abbrev pub is_small_ending : Ending → Bool
is_small_ending Clashes = true
is_small_ending (Cites k) = is_small k

abbrev pub is_small_entry : ShortEntry → Bool
is_small_entry Kept = true
is_small_entry (Ends e) = is_small_ending e

abbrev pub is_line : Line → Bool
is_line (L.Goals n) = is_small n
is_line (L.Goal xs) = every is_small_signed xs
is_line (L.Entry n) = is_small n
is_line (L.Rule x) = is_small_signed x
is_line (L.Clash p) = is_small p
is_line (L.OfKind x) = is_small_signed x
is_line (L.Strings n) = is_small n
is_line (L.Row ts) = every is_small ts
is_line (L.Least ds) = every is_small ds
is_line (L.Objects r c) = is_small r && is_small c
is_line (L.Cap c bs) = every is_small (c ∷ bs)
is_line (L.OfMember m e) = is_small m && is_small_ending e
is_line (L.OfIndex i e) = is_small i && is_small_ending e
is_line (L.OfTail t e) = is_small t && is_small_ending e
is_line (L.Short fs) = every is_small_entry fs
is_line _ = true

-- the most bytes of a line, without its line feed
abbrev pub longest_line : ℕ
longest_line = 1048576

abbrev pub fits : List ℕ → Bool
fits xs = nat_le (length xs) longest_line

abbrev pub is_short : Line → Bool
is_short l = fits (words_text l)

-- the bytes are in the grammar, as the text of these lines: each line has one spelling
pub record IsText (bytes : List ℕ) (ls : List Line) : Type 0 where
  pub small : every is_line ls ≡ true
  pub short : every is_short ls ≡ true
  pub text : lines_text ls ≡ bytes
