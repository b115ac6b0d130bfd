-- Worked examples of lines and their text, each computed from the definitions.
--
-- The certificate says that no document is an object with a member "next" that is such an object again.
use Rattle.std.specs.Prelude.{◌≡◌, ℕ, List, [], ◌∷◌, ◌++◌, true, false, flat_map, map, codes, refl, Option, Some, None}
use Rattle.std.specs.Fmt.{digits}
use Rattle.documents.specs.Kind.{Null, Boolean, Number, Text, Array, Object}
use Rattle.goals.specs.Signed.{Plus, Minus}
use Rattle.certificate_lines.specs.Line.{Line, Ending, Clashes, Cites, Kept, Ends}
use Rattle.certificate_lines.specs.Line as L
use Rattle.certificate_lines.specs.Text.{is_line, is_short, words_text, lines_text, IsText}
use Rattle.certificate_lines.specs.Reading.{line_of}
use Rattle.certificate_lines.specs.Reader.{Reader, Fault, NotALine, TooLong, Unfinished, fresh, fed, given, at_end, read_count}
use Rattle.certificate_lines.specs.Cut.{Cut, cut}

abbrev certificate : List Line
certificate =
    L.Version ∷ L.Goals 1 ∷ L.Goal (Plus 0 ∷ []) ∷ L.Entry 0
    ∷ L.At Null ∷ L.Rule (Plus 0) ∷ L.OfKind (Plus 2)
    ∷ L.At Boolean ∷ L.Rule (Plus 0) ∷ L.OfKind (Plus 2)
    ∷ L.At Number ∷ L.Rule (Plus 0) ∷ L.OfKind (Plus 2)
    ∷ L.At Text ∷ L.Rule (Plus 0) ∷ L.OfKind (Plus 2)
    ∷ L.At Array ∷ L.Rule (Plus 0) ∷ L.OfKind (Plus 2)
    ∷ L.At Object ∷ L.Rule (Plus 0) ∷ L.Objects 6 1
    ∷ L.Row (1 ∷ 1 ∷ 2 ∷ 1 ∷ 1 ∷ [])
    ∷ L.Row (1 ∷ 1 ∷ 1 ∷ 1 ∷ 1 ∷ [])
    ∷ L.Row (1 ∷ 3 ∷ 1 ∷ 1 ∷ 1 ∷ [])
    ∷ L.Row (1 ∷ 1 ∷ 1 ∷ 1 ∷ 4 ∷ [])
    ∷ L.Row (1 ∷ 1 ∷ 1 ∷ 5 ∷ 1 ∷ [])
    ∷ L.Row (1 ∷ 1 ∷ 1 ∷ 1 ∷ 1 ∷ [])
    ∷ L.Cap 1 (1 ∷ 0 ∷ 1 ∷ 1 ∷ 1 ∷ 1 ∷ [])
    ∷ L.Split ∷ L.OfMember 0 (Cites 0) ∷ L.End ∷ []

abbrev lines : List (List ℕ) → List ℕ
lines ws = flat_map (λ w. w ++ 10 ∷ []) ws

abbrev text : List ℕ
text = lines (
    codes "certificate 1" ∷ codes "goals 1" ∷ codes "goal +0" ∷ codes "entry 0"
    ∷ codes "at null" ∷ codes "rule +0" ∷ codes "kind +2"
    ∷ codes "at boolean" ∷ codes "rule +0" ∷ codes "kind +2"
    ∷ codes "at number" ∷ codes "rule +0" ∷ codes "kind +2"
    ∷ codes "at string" ∷ codes "rule +0" ∷ codes "kind +2"
    ∷ codes "at array" ∷ codes "rule +0" ∷ codes "kind +2"
    ∷ codes "at object" ∷ codes "rule +0" ∷ codes "object 6 1"
    ∷ codes "row 1 1 2 1 1" ∷ codes "row 1 1 1 1 1" ∷ codes "row 1 3 1 1 1"
    ∷ codes "row 1 1 1 1 4" ∷ codes "row 1 1 1 5 1" ∷ codes "row 1 1 1 1 1"
    ∷ codes "cap 1 1 0 1 1 1 1" ∷ codes "split" ∷ codes "member 0 goal 0" ∷ codes "end" ∷ [])

text_of_lines : lines_text certificate ≡ text
unfolding digits
text_of_lines = refl

lines_of_text : cut text ≡ record { lines = certificate; left = []; fault = None }
lines_of_text = refl

-- the empty lists are bare words
bare : map line_of (codes "goal" ∷ codes "row" ∷ codes "short" ∷ [])
    ≡ Some (L.Goal []) ∷ Some (L.Row []) ∷ Some (L.Short []) ∷ []
bare = refl

entries : line_of (codes "short - clash goal 12") ≡ Some (L.Short (Kept ∷ Ends Clashes ∷ Ends (Cites 12) ∷ []))
entries = refl

-- texts that are nearly lines
nearly : map line_of (
    codes "" ∷ codes "goal " ∷ codes "goals 01" ∷ codes "goals 4294967296" ∷ codes "rule 1" ∷ codes "row 1  2"
    ∷ codes "cap" ∷ codes "object 6" ∷ codes "member 0 goal" ∷ codes "short goal" ∷ codes "certificate 2" ∷ [])
    ≡ None ∷ None ∷ None ∷ None ∷ None ∷ None ∷ None ∷ None ∷ None ∷ None ∷ None ∷ []
nearly = refl

-- a line in three pieces, a part of the next one, and bytes that are no line
first : Reader
first = fed (fed fresh (codes "cl")) (codes "ash ")

second : Reader
second = fed (given (fed first (codes "7" ++ 10 ∷ codes "en"))) (codes "en")

held : first ≡ record { taken = 0; held = codes "clash "; waiting = None; fault = None }
unfolding first
held = refl

waits : (fed first (codes "7" ++ 10 ∷ codes "en")).waiting ≡ Some (L.Clash 7)
unfolding first
waits = refl

counted : read_count (codes "7" ++ 10 ∷ codes "en") ≡ 2
counted = refl

unfinished : at_end second ≡ Some Unfinished
unfolding first second
unfinished = refl

no_line : fed second (10 ∷ []) ≡ record { taken = 1; held = []; waiting = None; fault = Some (NotALine 2) }
unfolding first second
no_line = refl
