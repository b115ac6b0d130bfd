-- Requirements on documents of one kind, as tests that compute: on numbers, elements and members; and JSON equality.
use Rattle.std.specs.Prelude.{ℕ, ◌%◌, ◌==◌, ℤ, unsigned_abs, List, [], ◌∷◌, Bool, true, false, ◌&&◌, ◌||◌, not, cond}
use Rattle.std.specs.Ordering.{int_eq}
use Rattle.documents.specs.Tests.{every, some, same_word}
use Rattle.documents.specs.Document.{Document, null, boolean, number, string, array, object, Items, no_items, item, Members, no_members, member, elements, entries}

-- exactly one element passes the test
abbrev pub exactly_one : {A : Type 0} → (A → Bool) → List A → Bool
exactly_one p [] = false
exactly_one p (x ∷ xs) = cond (p x) (not (some p xs)) (exactly_one p xs)

-- m divides x; every number divides 0
abbrev pub is_multiple : ℕ → ℤ → Bool
is_multiple m x = unsigned_abs x % m == 0

-- a requirement on documents of one kind, which all documents of other kinds meet
abbrev pub at_number : (ℤ → Bool) → Document → Bool
at_number p (number n) = p n
at_number p _ = true

abbrev pub at_string : (List ℕ → Bool) → Document → Bool
at_string p (string w) = p w
at_string p _ = true

abbrev pub at_array : (List Document → Bool) → Document → Bool
at_array p (array ds) = p (elements ds)
at_array p _ = true

abbrev pub at_object : (List (List ℕ × Document) → Bool) → Document → Bool
at_object p (object ms) = p (entries ms)
at_object p _ = true

-- condition i of element i, where there are both
abbrev pub meets_in_order : {N : Type 0} → (N → Document → Bool) → List N → List Document → Bool
meets_in_order meets [] ds = true
meets_in_order meets (p ∷ ps) [] = true
meets_in_order meets (p ∷ ps) (d ∷ ds) = meets p d && meets_in_order meets ps ds

-- a member has that name
abbrev pub has_name : List ℕ → List (List ℕ × Document) → Bool
has_name w ms = some (λ m. same_word w m.0) ms

-- the value of each member whose name is in the set passes the test
abbrev pub every_in : (List ℕ → Bool) → (Document → Bool) → List (List ℕ × Document) → Bool
every_in set p ms = every (λ m. not (set m.0) || p m.1) ms

-- JSON equality: lists in order, numbers by value. Members are in the order of their names, so objects are equal member
-- by member
abbrev mutual
  pub same_document : Document → Document → Bool
  same_document null null = true
  same_document (boolean b) (boolean c) = cond b c (not c)
  same_document (number m) (number n) = int_eq m n
  same_document (string v) (string w) = same_word v w
  same_document (array ds) (array es) = same_items ds es
  same_document (object ms) (object ns) = same_members ms ns
  same_document _ _ = false

  pub same_items : Items → Items → Bool
  same_items no_items no_items = true
  same_items (item d ds) (item e es) = same_document d e && same_items ds es
  same_items _ _ = false

  pub same_members : Members → Members → Bool
  same_members no_members no_members = true
  same_members (member k d ms) (member l e ns) = same_word k l && same_document d e && same_members ms ns
  same_members _ _ = false
