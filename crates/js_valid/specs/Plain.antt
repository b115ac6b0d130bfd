-- Forms whose verdict depends on no other entry's verdict on the same document, and documents without parts.
use Rattle.std.specs.Prelude.{ℕ, Bool, true, false, ◌&&◌, Option, Some, None}
use Rattle.documents.specs.Document.{Document, null, boolean, number, string, array, object}
use Rattle.schemas.specs.Entry.{Form, Always, Never, Ref, Asks}

abbrev pub is_absent : {A : Type 0} → Option A → Bool
is_absent None = true
is_absent (Some x) = false

-- nothing in place, no `contains` and no `propertyNames`: each part is required to meet one keyword's schemas alone
abbrev pub is_plain : Form → Bool
is_plain Always = true
is_plain Never = true
is_plain (Ref e) = false
is_plain (Asks k) =
    is_absent k.all_of && is_absent k.any_of && is_absent k.one_of && is_absent k.not && is_absent k.dependencies
    && is_absent k.contains && is_absent k.property_names

-- the entry that a form refers to
abbrev pub reference : Form → Option ℕ
reference (Ref e) = Some e
reference f = None

-- a document without parts
abbrev pub is_scalar : Document → Bool
is_scalar null = true
is_scalar (boolean b) = true
is_scalar (number n) = true
is_scalar (string w) = true
is_scalar (array ds) = false
is_scalar (object ms) = false
