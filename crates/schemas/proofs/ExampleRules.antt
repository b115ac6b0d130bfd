-- Rules for the worked examples, and short words for JSON values and pointers.
use Rattle.std.specs.Prelude.{ℕ, List, [], ◌∷◌, ◌+◌, map, pos, negsuc, Bool, true, false, Option, Some, None, Result, Ok, Err, cond, nat_eq, codes}
use Prim.Native.String.{String}
use Rattle.documents.specs.Tests.{same_word}
use Rattle.documents.specs.Json as J
use Rattle.documents.specs.Json.{Json}
use Rattle.documents.specs.Place.{value_at}
use Rattle.patterns.specs.Tree.{Tree, empty}
use Rattle.schemas.specs.Places.{Pointer}
use Rattle.schemas.specs.Keyword.{is_object_or_boolean}
use Rattle.schemas.specs.Fault.{Fault, Rules}
use Rattle.schemas.specs.Entry.{Entry}
use Rattle.schemas.specs.Reading.{first_fault}
use Rattle.schemas.specs.Walk.{places}
use Rattle.schemas.specs.Entries.{read}

abbrev pub object : List (String × Json) → Json
object ms = J.object (J.members_of (map (λ m. (codes m.0, m.1)) ms))

abbrev pub list : List Json → Json
list vs = J.array (J.items_of vs)

abbrev pub text : String → Json
text s = J.string (codes s)

abbrev pub number : ℕ → Json
number n = J.number (pos n)

-- -1 - n
abbrev pub below : ℕ → Json
below n = J.number (negsuc n)

abbrev pub path : List String → Pointer
path ts = map codes ts

-- an unfinished group is no pattern, and its fault says where; what a pattern matches is of no account here
abbrev pub read_to_group : ℕ → List ℕ → Result Tree ℕ
read_to_group at [] = Ok empty
read_to_group at (c ∷ w) = cond (nat_eq c 40) (Err at) (read_to_group (at + 1) w)

-- what can be wrong with a reference
pub data Bad : Type 0 where
  Remote : Bad
  BadPointer : Bad
  Missing : Bad
  NoSchema : Bad

-- the tokens of a pointer's text without escapes, each after a `/`; the first list is what comes before the first one
abbrev pub add : ℕ → List ℕ × Pointer → List ℕ × Pointer
add c x = cond (nat_eq c 47) ([], x.0 ∷ x.1) (c ∷ x.0, x.1)

abbrev pub tokens : List ℕ → List ℕ × Pointer
tokens [] = ([], [])
tokens (c ∷ w) = add c (tokens w)

-- what comes before and after the first `#`
abbrev pub cut : List ℕ → List ℕ × List ℕ
cut [] = ([], [])
cut (c ∷ w) = cond (nat_eq c 35) ([], w) (c ∷ (cut w).0, (cut w).1)

abbrev pub if_schema : Pointer → Option Json → Result Pointer Bad
if_schema p None = Err Missing
if_schema p (Some v) = cond (is_object_or_boolean v) (Ok p) (Err NoSchema)

abbrev pub at_fragment : Json → List ℕ × Pointer → Result Pointer Bad
at_fragment root ([], p) = if_schema p (value_at p root)
at_fragment root (c ∷ w, p) = Err BadPointer

abbrev pub is_own : List ℕ → Option (List ℕ) → Bool
is_own [] id = true
is_own (c ∷ w) None = false
is_own (c ∷ w) (Some id) = same_word (c ∷ w) id

abbrev pub target : Json → List ℕ → Option (List ℕ) → Result Pointer Bad
target root w id = cond (is_own (cut w).0 id) (at_fragment root (tokens (cut w).1)) (Err Remote)

abbrev pub rules_up_to : ℕ → Rules ℕ Bad
rules_up_to most = record { pattern = read_to_group 0; target = target; most_weight = most }

-- the first fault, the pointers of the places, and what is read
abbrev pub fault_up_to : ℕ → Json → Option (Fault ℕ Bad)
fault_up_to most root = first_fault (rules_up_to most) root

abbrev pub fault : Json → Option (Fault ℕ Bad)
fault root = fault_up_to 2147483647 root

abbrev pub pointers : Json → List Pointer
pointers root = map (λ c. c.0) (places (rules_up_to 2147483647) root)

abbrev pub entries : Json → Result (List Entry) (Fault ℕ Bad)
entries root = read (rules_up_to 2147483647) root
