-- A total order of documents: by kind, and within a kind by value, a prefix first. It serves look-ups alone.
use Rattle.std.specs.Prelude.{ℕ, List}
use Rattle.std.proofs.Common.{Ordering, Less, Equal, Greater}
use Rattle.std.specs.Ordering.{nat_cmp, int_cmp, bool_cmp, ordering_then}
use Rattle.std.specs.Cmp.Lexicographic.{slice_cmp}
use Rattle.documents.specs.Document.{Document, null, boolean, number, string, array, object, Items, no_items, item, Members, no_members, member}

abbrev pub rank : Document → ℕ
rank null = 0
rank (boolean b) = 1
rank (number n) = 2
rank (string w) = 3
rank (array ds) = 4
rank (object ms) = 5

abbrev mutual
  pub document_cmp : Document → Document → Ordering
  document_cmp (boolean b) (boolean c) = bool_cmp b c
  document_cmp (number m) (number n) = int_cmp m n
  document_cmp (string v) (string w) = slice_cmp nat_cmp v w
  document_cmp (array ds) (array es) = items_cmp ds es
  document_cmp (object ms) (object ns) = members_cmp ms ns
  document_cmp d e = nat_cmp (rank d) (rank e)

  pub items_cmp : Items → Items → Ordering
  items_cmp no_items no_items = Equal
  items_cmp no_items (item e es) = Less
  items_cmp (item d ds) no_items = Greater
  items_cmp (item d ds) (item e es) = ordering_then (document_cmp d e) (items_cmp ds es)

  pub members_cmp : Members → Members → Ordering
  members_cmp no_members no_members = Equal
  members_cmp no_members (member l e ns) = Less
  members_cmp (member k d ms) no_members = Greater
  members_cmp (member k d ms) (member l e ns) =
      ordering_then (ordering_then (slice_cmp nat_cmp k l) (document_cmp d e)) (members_cmp ms ns)

-- members by their names, and then by their values
abbrev pub named_cmp : List ℕ × Document → List ℕ × Document → Ordering
named_cmp m n = ordering_then (slice_cmp nat_cmp m.0 n.0) (document_cmp m.1 n.1)
