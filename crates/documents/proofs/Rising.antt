-- The names of what is a document, or the value of a text, rise.
use Rattle.std.proofs.Common.{◌≡◌, Bool, true, ◌&&◌, refl}
use Rattle.std.proofs.lemmas.Bool.{and_parts, and_from}
use Rattle.documents.specs.Tests.{every, is_scalar}
use Rattle.documents.specs.Json as J
use Rattle.documents.specs.WellFormed as W
use Rattle.documents.specs.Document as D

-- the last two of four tests
last_two : (a b c d : Bool) → (a && b && c && d) ≡ true → (c ≡ true) × (d ≡ true)
last_two a b c d h =
    let four = and_parts (a && b && c) d h in let three = and_parts (a && b) c four.0 in (three.1, four.1)

pub names_rise-document_members : (ms : D.Members) → D.are_members ms ≡ true → D.names_rise ms ≡ true
names_rise-document_members D.no_members h = refl
names_rise-document_members (D.member k d ms) h =
    let two = last_two (every is_scalar k) (D.is_document d) (D.is_before k ms) (D.are_members ms) h in
    and_from (D.is_before k ms) (D.names_rise ms) two.0 (names_rise-document_members ms two.1)
