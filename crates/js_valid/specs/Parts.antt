-- What a form asks of a document, in two halves: of the document itself, and of its elements, members and names.
use Rattle.std.specs.Prelude.{ℕ, zero, suc, nat_le, nat_eq, List, [], ◌∷◌, ◌++◌, length, get_or, Bool, true, false, ◌&&◌, ◌||◌, not, cond, Option, Some, None}
use Rattle.documents.specs.Tests.{every, some, same_word}
use Rattle.documents.specs.Document.{Document, string}
use Rattle.documents.specs.Measures.{at_number, at_string, at_array, at_object, has_name, every_in}
use Rattle.schemas.specs.Entry.{ItemsPart, Each, Listed, Keywords, Form, Always, Never, Ref, Asks}
use Rattle.schemas.specs.Schema.{lists, meets, one}
use Rattle.draft06.specs.Names.{keys, is_additional}
use Rattle.draft06.specs.EntryValidity.{items_ask, rest_asks, need_asks, asks_any, asks_number, asks_string}

-- nothing is known of parts
abbrev pub no_parts : ℕ → Document → Bool
no_parts q K = false

-- nothing is known of entries
abbrev pub no_entry : ℕ → Bool
no_entry q = false

module _ (matches : List ℕ → List ℕ → Bool) (here : ℕ → Bool) where
  abbrev pub own_array : Keywords → List Document → Bool
  own_array k ds = meets (λ n. nat_le (length ds) n) k.max_items && meets (λ n. nat_le n (length ds)) k.min_items

  abbrev pub own_object : Keywords → List (List ℕ × Document) → Bool
  own_object k ms =
      meets (λ n. nat_le (length ms) n) k.max_properties && meets (λ n. nat_le n (length ms)) k.min_properties
      && meets (every (λ w. has_name w ms)) k.required
      && meets (every (λ n. not (has_name n.0 ms) || need_asks here n.1 ms)) k.dependencies

  abbrev pub own_keywords : Keywords → Document → Bool
  own_keywords k J =
      asks_any matches here no_parts k J && at_number (asks_number matches here no_parts k) J
      && at_string (asks_string matches here no_parts k) J && at_array (own_array k) J && at_object (own_object k) J

  -- what a form asks of the document itself
  abbrev pub own : Form → Document → Bool
  own Always J = true
  own Never J = false
  own (Ref e) J = here e
  own (Asks k) J = own_keywords k J

module _ (matches : List ℕ → List ℕ → Bool) (below : ℕ → Document → Bool) where
  abbrev pub parts_array : Keywords → List Document → Bool
  parts_array k ds =
      meets (λ s. items_ask below s ds) k.items && meets (λ e. rest_asks below k.items e ds) k.additional_items
      && meets (λ e. some (below e) ds) k.contains

  abbrev pub parts_object : Keywords → List (List ℕ × Document) → Bool
  parts_object k ms =
      meets (every (λ p. every_in (same_word p.0) (below p.1) ms)) k.properties
      && meets (every (λ p. every_in (matches p.0) (below p.1) ms)) k.pattern_properties
      && meets (λ e. every_in (is_additional matches (keys k.properties) (keys k.pattern_properties)) (below e) ms)
      k.additional_properties
      && meets (λ e. every (λ m. below e (string m.0)) ms) k.property_names

  abbrev pub parts_keywords : Keywords → Document → Bool
  parts_keywords k J = at_array (parts_array k) J && at_object (parts_object k) J

  -- what a form asks of the document's parts
  abbrev pub parts : Form → Document → Bool
  parts Always J = true
  parts Never J = true
  parts (Ref e) J = true
  parts (Asks k) J = parts_keywords k J

-- ---- the entries that are applied to one part

-- by a list of schemas, and by one for the elements after them
abbrev pub of_listed : List ℕ → List ℕ → ℕ → List ℕ
of_listed [] rest i = rest
of_listed (e ∷ es) rest zero = e ∷ []
of_listed (e ∷ es) rest (suc i) = of_listed es rest i

abbrev pub of_items_part : Option ItemsPart → Option ℕ → ℕ → List ℕ
of_items_part None rest i = []
of_items_part (Some (Each e)) rest i = e ∷ []
of_items_part (Some (Listed es)) rest i = of_listed es (lists one rest) i

-- the entries for the element at a place, but for `contains`
abbrev pub of_element : Form → ℕ → List ℕ
of_element (Asks k) i = of_items_part k.items k.additional_items i
of_element f i = []

abbrev pub of_contains : Form → List ℕ
of_contains (Asks k) = lists one k.contains
of_contains f = []

-- those whose name passes the test
abbrev pub of_named : (List ℕ → Bool) → List (List ℕ × ℕ) → List ℕ
of_named test [] = []
of_named test (p ∷ ps) = cond (test p.0) (p.1 ∷ of_named test ps) (of_named test ps)

abbrev pub or_else : List ℕ → List ℕ → List ℕ
or_else [] es = es
or_else (q ∷ qs) es = q ∷ qs

module _ (matches : List ℕ → List ℕ → Bool) where
  -- of a member with that name, by properties and patterns
  abbrev pub of_names : Keywords → List ℕ → List ℕ
  of_names k w =
      lists (of_named (λ n. same_word n w)) k.properties ++ lists (of_named (λ t. matches t w)) k.pattern_properties

  -- the entries for a member with that name
  abbrev pub of_member : Form → List ℕ → List ℕ
  of_member (Asks k) w = or_else (of_names k w) (lists one k.additional_properties)
  of_member f w = []

-- the entries for each name of a member
abbrev pub of_name : Form → List ℕ
of_name (Asks k) = lists one k.property_names
of_name f = []

-- ---- requests: the owner, and the entry that it requests

-- each entry that e requests passes the test
abbrev pub asked_by : ℕ → (ℕ → Bool) → List ℕ → List ℕ → Bool
asked_by e p [] qs = true
asked_by e p (o ∷ os) [] = true
asked_by e p (o ∷ os) (q ∷ qs) = (not (nat_eq o e) || p q) && asked_by e p os qs

-- each verdict on what e requests is true
abbrev pub answered : ℕ → List ℕ → List Bool → Bool
answered e [] bs = true
answered e (o ∷ os) [] = true
answered e (o ∷ os) (b ∷ bs) = (not (nat_eq o e) || b) && answered e os bs

-- an entry's place in a table of tests; past its end no test holds
abbrev pub flag : List Bool → ℕ → Bool
flag bs e = get_or bs e false
