-- What is measured of a document before its text is written.
use Rattle.std.specs.Prelude.{ℕ, length, min, ℤ, pos, negsuc, Bool, true, ◌&&◌, int_le}
use Rattle.documents.specs.Document.{Document, null, boolean, number, string, array, object, Items, no_items, item, Members, no_members, member, depth}
use Rattle.document_texts.specs.DocumentText.{document_text}

-- from -2^63 to 2^64 - 1
abbrev pub is_short : ℤ → Bool
is_short n = int_le (negsuc 9223372036854775807) n && int_le n (pos 18446744073709551615)

abbrev mutual
  pub has_short_numbers : Document → Bool
  has_short_numbers null = true
  has_short_numbers (boolean b) = true
  has_short_numbers (number n) = is_short n
  has_short_numbers (string s) = true
  has_short_numbers (array ds) = items_are_short ds
  has_short_numbers (object ms) = members_are_short ms

  pub items_are_short : Items → Bool
  items_are_short no_items = true
  items_are_short (item d ds) = has_short_numbers d && items_are_short ds

  pub members_are_short : Members → Bool
  members_are_short no_members = true
  members_are_short (member k d ms) = has_short_numbers d && members_are_short ms

pub record Measured : Type 0 where
  -- of the text, in bytes; 2^64 - 1 where it is longer
  pub length : ℕ
  -- 2^32 - 1 where the document is deeper
  pub depth : ℕ
  -- each number lies from -2^63 to 2^64 - 1
  pub short_numbers : Bool

abbrev pub measured : Document → Measured
measured d =
    record {
      length = min (length (document_text d)) 18446744073709551615;
      depth = min (depth d) 4294967295;
      short_numbers = has_short_numbers d;
    }
