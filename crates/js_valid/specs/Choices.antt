-- The values of an `enum` in the order of documents, each borrowed.
use Rattle.std.specs.Prelude.{◌≡◌, ℕ, ◌<◌, List, [], map, length, get_or, Bool, Option, None}
use Rattle.std.specs.Borrow.{Bor}
use Rattle.std.specs.List.Sorted.{IsSortedBy}
use Rattle.std.specs.Ordering.{is_lt}
use Rattle.std.specs.declared.vec.Vec.{Vec}
use Rattle.std.specs.declared.alloc.Global.{Global}
use Rattle.documents.specs.Tests.{some}
use Rattle.documents.specs.Document.{Document}
use Rattle.documents.specs.Measures.{same_document}
use Rattle.schemas.specs.Entry.{Entry, Form, Asks}
use Rattle.schemas.specs.Schema.{meets}
use Rattle.draft06.specs.EntryValidity.{form_at}
use Rattle.js_doc.specs.declared.document.Doc.{Doc}
use Rattle.js_doc.specs.View.{view}
use Rattle.js_valid.specs.DocumentOrder.{document_cmp}

abbrev pub values_of : List (Bor Doc) → List Document
values_of rs = map (λ r. view r.now) rs

abbrev pub IsInOrder : List (Bor Doc) → Type 0
IsInOrder rs = IsSortedBy (λ a b. is_lt (document_cmp (view a.now) (view b.now))) rs

abbrev pub is_one_of : Document → List Document → Bool
is_one_of J ds = some (λ d. same_document d J) ds

-- they are in order, and a document is one of them where it is one of those that a keyword lists, where there is one
pub record AreValues (listed : Option (List Document)) (rs : List (Bor Doc)) : Type 0 where
  pub sorted : IsInOrder rs
  pub same : (J : Document) → meets (is_one_of J) listed ≡ meets (λ ds. is_one_of J (values_of rs)) listed

-- the values that a form's `enum` lists
abbrev pub enumerated : Form → Option (List Document)
enumerated (Asks k) = k.enumeration
enumerated f = None

abbrev pub AreChoices : Form → List (Bor Doc) → Type 0
AreChoices f rs = AreValues (enumerated f) rs

-- the values of an entry
abbrev pub choices_at : List (Vec (Bor Doc) Global) → ℕ → List (Bor Doc)
choices_at vs e = get_or (map (λ v. v.items) vs) e []

-- each entry has its values
abbrev pub HasChoices : List Entry → List (Vec (Bor Doc) Global) → Type 0
HasChoices es vs = (e : ℕ) → e < length es → (e < length vs) × AreChoices (form_at es e) (choices_at vs e)
