-- When a document is valid for an entry of a schema, keyword by keyword (JSON Schema validation, draft-06). The section
-- of the standard is beside each keyword.
use Rattle.std.specs.Prelude.{ℕ, zero, suc, int_le, int_lt, nat_le, List, [], ◌∷◌, length, drop, Bool, true, false, ◌&&◌, ◌||◌, Option, Some, None}
use Rattle.std.specs.Prelude as P
use Rattle.documents.specs.Tests.{every, some, same_word}
use Rattle.documents.specs.Kind as K
use Rattle.documents.specs.Document.{Document, string, kind_of}
use Rattle.documents.specs.Measures.{exactly_one, is_multiple, at_number, at_string, at_array, at_object, meets_in_order, has_name, every_in, same_document}
use Rattle.levels.specs.Levels.{is_met}
use Rattle.schemas.specs.Entry.{TypeName, Null, Boolean, Object, Array, Number, Text, Integer, ItemsPart, Each, Listed, Needs, Names, Whole, Keywords, Form, Always, Never, Ref, Asks, Entry}
use Rattle.schemas.specs.Schema.{meets}
use Rattle.draft06.specs.Names.{keys, is_additional, each_asks, where_present}

-- documents of that type; numbers are whole here, so `integer` and `number` are one kind
abbrev pub kind_named : TypeName → K.Kind
kind_named Null = K.Null
kind_named Boolean = K.Boolean
kind_named Object = K.Object
kind_named Array = K.Array
kind_named Number = K.Number
kind_named Text = K.Text
kind_named Integer = K.Number

abbrev pub has_type : Document → TypeName → Bool
has_type J t = K.same_kind (kind_of J) (kind_named t)

-- one schema asks something of each element, and the schemas of a list one each
abbrev pub items_ask : (ℕ → Document → Bool) → ItemsPart → List Document → Bool
items_ask below (Each e) ds = every (below e) ds
items_ask below (Listed es) ds = meets_in_order below es ds

-- the elements after those that a list of schemas speaks of
abbrev pub rest_asks : (ℕ → Document → Bool) → Option ItemsPart → ℕ → List Document → Bool
rest_asks below (Some (Listed es)) e ds = every (below e) (drop (length es) ds)
rest_asks below _ e ds = true

-- what the presence of a name asks of an object
abbrev pub need_asks : (ℕ → Bool) → Needs → List (List ℕ × Document) → Bool
need_asks here (Names ws) ms = every (λ w. has_name w ms) ws
need_asks here (Whole e) ms = here e

-- `matches t w` says whether the pattern with the text t matches somewhere in w
module _ (matches : List ℕ → List ℕ → Bool) (here : ℕ → Bool) (below : ℕ → Document → Bool) (k : Keywords) where
  -- what the keywords ask of every document
  abbrev pub asks_any : Document → Bool
  asks_any J =
      meets (some (λ d. same_document d J)) k.enumeration  -- section 6.23
      && meets (λ d. same_document d J) k.constant  -- 6.24
      && meets (some (has_type J)) k.types  -- 6.25
      && meets (every here) k.all_of  -- 6.26
      && meets (some here) k.any_of  -- 6.27
      && meets (exactly_one here) k.one_of  -- 6.28
      && meets (λ e. P.not (here e)) k.not  -- 6.29

  abbrev pub asks_number : P.ℤ → Bool
  asks_number x =
      meets (λ m. is_multiple m x) k.multiple_of  -- section 6.1
      && meets (λ n. int_le x n) k.maximum  -- 6.2
      && meets (λ n. int_lt x n) k.exclusive_maximum  -- 6.3
      && meets (λ n. int_le n x) k.minimum  -- 6.4
      && meets (λ n. int_lt n x) k.exclusive_minimum  -- 6.5

  abbrev pub asks_string : List ℕ → Bool
  asks_string w =
      meets (λ n. nat_le (length w) n) k.max_length  -- section 6.6
      && meets (λ n. nat_le n (length w)) k.min_length  -- 6.7
      && meets (λ t. matches t w) k.pattern  -- 6.8

  -- what the keywords ask of an array's elements
  abbrev pub asks_array : List Document → Bool
  asks_array ds =
      meets (λ s. items_ask below s ds) k.items  -- section 6.9
      && meets (λ e. rest_asks below k.items e ds) k.additional_items  -- 6.10
      && meets (λ n. nat_le (length ds) n) k.max_items  -- 6.11
      && meets (λ n. nat_le n (length ds)) k.min_items  -- 6.12
      && meets (λ e. some (below e) ds) k.contains  -- 6.14

  -- a name that neither `properties` nor `patternProperties` speaks of
  abbrev pub is_other : List ℕ → Bool
  is_other w = is_additional matches (keys k.properties) (keys k.pattern_properties) w

  -- what the keywords ask of an object's members, by name and value
  abbrev pub asks_object : List (List ℕ × Document) → Bool
  asks_object ms =
      meets (λ n. nat_le (length ms) n) k.max_properties  -- section 6.15
      && meets (λ n. nat_le n (length ms)) k.min_properties  -- 6.16
      && meets (every (λ w. has_name w ms)) k.required  -- 6.17
      && meets (λ ns. each_asks same_word below ns ms) k.properties  -- 6.18
      && meets (λ ns. each_asks matches below ns ms) k.pattern_properties  -- 6.19
      && meets (λ e. every_in is_other (below e) ms) k.additional_properties  -- 6.20
      && meets (λ ns. where_present (λ n. need_asks here n ms) ns ms) k.dependencies  -- 6.21
      && meets (λ e. every (λ m. below e (string m.0)) ms) k.property_names  -- 6.22

  -- keywords of one kind of document ask nothing of other kinds
  abbrev pub asks_keywords : Document → Bool
  asks_keywords J =
      asks_any J && at_number asks_number J && at_string asks_string J && at_array asks_array J
      && at_object asks_object J

-- what a form asks of a document. `here` says which entries the document itself meets, `below` which ones its elements
-- and members meet, and its names as strings
abbrev pub asks : (List ℕ → List ℕ → Bool) → (here : ℕ → Bool) (below : ℕ → Document → Bool) → Form → Document → Bool
asks matches here below Always J = true
asks matches here below Never J = false
asks matches here below (Ref e) J = here e
asks matches here below (Asks k) J = asks_keywords matches here below k J

-- the entry with that number; past the last one there is none, and nothing is accepted
abbrev pub form_at : List Entry → ℕ → Form
form_at [] e = Never
form_at (f ∷ fs) zero = f.form
form_at (f ∷ fs) (suc e) = form_at fs e

-- the document is valid for the entry. In place go at most as many steps as there are entries
unfoldable pub entry_valid : (List ℕ → List ℕ → Bool) → List Entry → ℕ → Document → Bool
entry_valid matches es e J = is_met (λ here below q. asks matches here below (form_at es q)) (length es) e J
