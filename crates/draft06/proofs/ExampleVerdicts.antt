-- For the worked examples: rules with a few patterns, and what both definitions say of a schema and a document.
use Rattle.std.specs.Prelude.{ℕ, zero, List, [], ◌∷◌, Bool, true, false, Option, Some, None, Result, Ok, Err, cond, codes, map}
use Prim.Native.String.{String}
use Rattle.documents.specs.Tests.{same_word}
use Rattle.documents.specs.Json.{Json, boolean}
use Rattle.documents.specs.Document.{Document, string, array, object, items_of, members_of}
use Rattle.patterns.specs.Tree.{Tree, one_of, at_start, in_turn, tree, no_trees}
use Rattle.schemas.specs.Entry.{Entry}
use Rattle.schemas.specs.Fault.{Fault, Rules}
use Rattle.schemas.specs.Entries.{read}
use Rattle.schemas.proofs.ExampleRules.{Bad, rules_up_to}
use Rattle.schemas.proofs.ExampleRules.{object as object_of}
use Rattle.draft06.specs.Matching.{finds_text}
use Rattle.draft06.specs.Validity.{valid}
use Rattle.draft06.specs.EntryValidity.{entry_valid}

abbrev b_tree : Tree
b_tree = one_of ((98, 98) ∷ [])

-- `^b` is the one text with an anchor; every other text stands for a `b` anywhere
abbrev tree_of : List ℕ → Tree
tree_of t = cond (same_word t (codes "^b")) (in_turn (tree at_start (tree b_tree no_trees))) b_tree

abbrev rules : Rules ℕ Bad
rules = record (rules_up_to 2147483647) { pattern = λ t. Ok (tree_of t) }

-- what is said over the entries of a schema that is read
abbrev over_entries : Result (List Entry) (Fault ℕ Bad) → Document → Option Bool
over_entries (Ok es) J = Some (entry_valid (finds_text rules) es zero J)
over_entries (Err f) J = None

-- what is said over the schema's value, and over its entries
abbrev pub says : Json → Document → Bool × Option Bool
says s J = (valid rules s J, over_entries (read rules s) J)

abbrev pub accepted : Bool × Option Bool
accepted = (true, Some true)

abbrev pub refused : Bool × Option Bool
refused = (false, Some false)

-- short words for documents
abbrev pub word : String → Document
word s = string (codes s)

abbrev pub items : List Document → Document
items ds = array (items_of ds)

abbrev pub members : List (String × Document) → Document
members ms = object (members_of (map (λ m. (codes m.0, m.1)) ms))

-- a schema of one keyword, and the two boolean schemas
abbrev pub keyword : String → Json → Json
keyword k v = object_of ((k, v) ∷ [])

abbrev pub yes : Json
yes = boolean true

abbrev pub nothing : Json
nothing = boolean false
