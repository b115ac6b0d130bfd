-- What each part of the program has of what `is_told` requires: all but that the numbers of parts have 32 bits.
use Rattle.std.specs.Prelude.{ℕ, List, Bool, true}
use Rattle.documents.specs.Tests.{every, is_scalar}
use Rattle.shared_documents.specs.Part.{Part, null, boolean, number, string, array, object}
use Rattle.document_texts.specs.PartsRead.{is_told}

abbrev pub has_scalar_name : List ℕ × ℕ → Bool
has_scalar_name m = every is_scalar m.0

-- strings and names are scalar values, and numbers have 128 bits
abbrev pub has_scalars : Part → Bool
has_scalars null = true
has_scalars (boolean b) = true
has_scalars (number n) = is_told (number n)
has_scalars (string s) = every is_scalar s
has_scalars (array is) = true
has_scalars (object ms) = every has_scalar_name ms
