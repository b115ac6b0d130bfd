-- What is printed of a document that was found: its text in a line behind the line `document`, or the table of its
-- parts.
use Rattle.std.specs.Prelude.{ℕ, List, [], ◌∷◌, ◌++◌, Bool, ◌&&◌, cond, nat_le, codes}
use Rattle.shared_documents.specs.Part.{Part}
use Rattle.shared_documents.specs.Unshared.{unshared}
use Rattle.document_texts.specs.DocumentText.{document_text}
use Rattle.document_texts.specs.PartsText.{parts_text}
use Rattle.document_texts.specs.Measured.{Measured, measured}

-- readers of JSON take such a text: it is neither deep nor long, and its numbers have 64 bits
abbrev pub is_plain_text : Measured → Bool
is_plain_text m = nat_le m.depth 120 && nat_le m.length 16777216 && m.short_numbers

-- the line `document`, and the text in a line of its own
abbrev pub plain_text : List ℕ → List ℕ
plain_text text = codes "document" ++ 10 ∷ text ++ 10 ∷ []

-- of the document that part i stands for, which is the last one
abbrev pub found_text : List Part → ℕ → List ℕ
found_text ps i =
    cond (is_plain_text (measured (unshared ps i))) (plain_text (document_text (unshared ps i))) (parts_text ps)
