-- JSON equality of a schema's value and a document.
use Rattle.std.specs.Prelude.{Bool, true, false, ◌&&◌, not, cond}
use Rattle.std.specs.Ordering.{int_eq}
use Rattle.documents.specs.Tests.{same_word}
use Rattle.documents.specs.Json as J
use Rattle.documents.specs.Document as D

-- lists in order, numbers by value; a number that isn't whole is none of a document. Members are in the order of their
-- names, so objects are equal member by member
abbrev mutual
  pub is_equal : J.Json → D.Document → Bool
  is_equal J.null D.null = true
  is_equal (J.boolean b) (D.boolean c) = cond b c (not c)
  is_equal (J.number m) (D.number n) = int_eq m n
  is_equal (J.string v) (D.string w) = same_word v w
  is_equal (J.array vs) (D.array ds) = are_equal vs ds
  is_equal (J.object ms) (D.object ns) = have_equal ms ns
  is_equal _ _ = false

  pub are_equal : J.Items → D.Items → Bool
  are_equal J.no_items D.no_items = true
  are_equal (J.item v vs) (D.item d ds) = is_equal v d && are_equal vs ds
  are_equal _ _ = false

  pub have_equal : J.Members → D.Members → Bool
  have_equal J.no_members D.no_members = true
  have_equal (J.member k v ms) (D.member l d ns) = same_word k l && is_equal v d && have_equal ms ns
  have_equal _ _ = false
