-- The document that a part stands for: each number that it names is replaced by the document of that part.
use Rattle.std.specs.Prelude.{ℕ, zero, suc, List, map}
use Rattle.documents.specs.Document as D
use Rattle.shared_documents.specs.Part.{Part, null, boolean, number, string, array, object, part_at}

-- the document of a part, where f gives those of the parts that it names
abbrev pub built : (ℕ → D.Document) → Part → D.Document
built f null = D.null
built f (boolean b) = D.boolean b
built f (number n) = D.number n
built f (string s) = D.string s
built f (array is) = D.array (D.items_of (map f is))
built f (object ms) = D.object (D.members_of (map (λ m. (m.0, f m.1)) ms))

-- the document of a part by the parts of a table, through at most n of them one below another
abbrev pub unshared_within : List Part → ℕ → ℕ → D.Document
unshared_within ps zero i = D.null
unshared_within ps (suc n) i = built (unshared_within ps n) (part_at ps i)

-- what a part names has a smaller number, so no more than i + 1 parts are one below another
unfoldable pub unshared : List Part → ℕ → D.Document
unshared ps i = unshared_within ps (suc i) i
