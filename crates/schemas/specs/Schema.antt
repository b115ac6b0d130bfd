-- Tables of a schema, whatever value they were read from: lists of entries whose numbers lie where they have to.
use Rattle.std.specs.Prelude.{ℕ, suc, ◌+◌, ◌*◌, ◌^◌, List, [], ◌∷◌, ◌++◌, map, length, Bool, true, false, ◌&&◌, Option, Some, None, nat_le, nat_lt}
use Rattle.documents.specs.Tests.{every, comes_before, is_scalar}
use Rattle.documents.specs.Document.{Document, null, boolean, number, string, array, object, Items, no_items, item, Members, no_members, member, is_document}
use Rattle.schemas.specs.Keyword.{is_held}
use Rattle.schemas.specs.Weight.{most_weight}
use Rattle.schemas.specs.Entry.{ItemsPart, Each, Listed, Needs, Names, Whole, Keywords, Form, Always, Never, Ref, Asks, Entry}

-- the value of a keyword where it is there; an absent one has no numbers and meets each test
abbrev pub if_there : {A B : Type 0} → B → (A → B) → Option A → B
if_there none f None = none
if_there none f (Some x) = f x

abbrev pub lists : {A : Type 0} → (A → List ℕ) → Option A → List ℕ
lists f o = if_there [] f o

abbrev pub meets : {A : Type 0} → (A → Bool) → Option A → Bool
meets p o = if_there true p o

abbrev pub one : ℕ → List ℕ
one e = e ∷ []

abbrev pub all : List ℕ → List ℕ
all es = es

abbrev pub of_items : ItemsPart → List ℕ
of_items (Each e) = e ∷ []
of_items (Listed es) = es

abbrev pub of_names : List (List ℕ × ℕ) → List ℕ
of_names ns = map (λ n. n.1) ns

-- the schemas of dependencies, which apply to the whole object
abbrev pub of_need : Needs → List ℕ → List ℕ
of_need (Names ns) es = es
of_need (Whole e) es = e ∷ es

abbrev pub of_needs : List (List ℕ × Needs) → List ℕ
of_needs [] = []
of_needs (n ∷ ns) = of_need n.1 (of_needs ns)

-- the entries that apply to the same document
abbrev pub in_place : Form → List ℕ
in_place Always = []
in_place Never = []
in_place (Ref e) = e ∷ []
in_place (Asks k) =
    lists all k.all_of ++ lists all k.any_of ++ lists all k.one_of ++ lists one k.not
    ++ lists of_needs k.dependencies

-- the entries that apply to elements, members and names
abbrev pub of_parts : Form → List ℕ
of_parts Always = []
of_parts Never = []
of_parts (Ref e) = []
of_parts (Asks k) =
    lists of_items k.items ++ lists one k.additional_items ++ lists one k.contains
    ++ lists of_names k.properties ++ lists of_names k.pattern_properties ++ lists one k.additional_properties
    ++ lists one k.property_names

-- each entry that is named is one of n
abbrev pub names_below : ℕ → Form → Bool
names_below n f = every (λ e. nat_lt e n) (in_place f) && every (λ e. nat_lt e n) (of_parts f)

abbrev pub is_count : ℕ → Bool
is_count n = nat_lt n (2 ^ 64)

abbrev pub is_multiple : ℕ → Bool
is_multiple n = nat_lt 0 n && nat_lt n (2 ^ 64)

abbrev pub is_filled : List ℕ → Bool
is_filled [] = false
is_filled (e ∷ es) = true

abbrev pub is_word : List ℕ → Bool
is_word w = every is_scalar w

-- names of scalar values, each once, in their order
abbrev pub is_ascending : List (List ℕ) → Bool
is_ascending [] = true
is_ascending (w ∷ []) = true
is_ascending (w ∷ x ∷ ws) = comes_before w x && is_ascending (x ∷ ws)

abbrev pub are_keys : {A : Type 0} → List (List ℕ × A) → Bool
are_keys ns = every (λ n. is_word n.0) ns && is_ascending (map (λ n. n.0) ns)

abbrev pub need_words : Needs → Bool
need_words (Names ns) = every is_word ns
need_words (Whole e) = true

abbrev pub are_needs : List (List ℕ × Needs) → Bool
are_needs ns = are_keys ns && every (λ n. need_words n.1) ns

-- `additionalItems` is beside a list
abbrev pub fits_items : Option ItemsPart → Option ℕ → Bool
fits_items items None = true
fits_items (Some (Listed es)) (Some e) = true
fits_items _ (Some e) = false

-- each keyword's value has its range
abbrev pub is_in_range : Keywords → Bool
is_in_range k =
    meets (every is_document) k.enumeration && meets is_document k.constant && meets is_multiple k.multiple_of
    && meets is_held k.minimum && meets is_held k.maximum
    && meets is_held k.exclusive_minimum && meets is_held k.exclusive_maximum
    && meets is_count k.min_length && meets is_count k.max_length && meets is_word k.pattern
    && fits_items k.items k.additional_items && meets is_count k.min_items && meets is_count k.max_items
    && meets (every is_word) k.required && meets are_keys k.properties && meets are_keys k.pattern_properties
    && meets are_needs k.dependencies && meets is_count k.min_properties && meets is_count k.max_properties
    && meets is_filled k.all_of && meets is_filled k.any_of && meets is_filled k.one_of

abbrev pub form_in_range : Form → Bool
form_in_range Always = true
form_in_range Never = true
form_in_range (Ref e) = true
form_in_range (Asks k) = is_in_range k

-- the values in a document, itself included
abbrev mutual
  pub values_in : Document → ℕ
  values_in null = 1
  values_in (boolean b) = 1
  values_in (number n) = 1
  values_in (string s) = 1
  values_in (array ds) = suc (item_values ds)
  values_in (object ms) = suc (member_values ms)

  pub item_values : Items → ℕ
  item_values no_items = 0
  item_values (item d ds) = values_in d + item_values ds

  pub member_values : Members → ℕ
  member_values no_members = 0
  member_values (member k d ms) = values_in d + member_values ms

-- the values of a keyword, where it is there
abbrev pub sizes : {A : Type 0} → (A → ℕ) → Option A → ℕ
sizes f o = if_there 0 f o

abbrev pub single : {A : Type 0} → A → ℕ
single x = 1

abbrev pub several : {A : Type 0} → List A → ℕ
several xs = suc (length xs)

abbrev pub items_size : ItemsPart → ℕ
items_size (Each e) = 1
items_size (Listed es) = several es

abbrev pub values_size : List Document → ℕ
values_size [] = 1
values_size (d ∷ ds) = values_in d + values_size ds

abbrev pub need_size : Needs → ℕ
need_size (Names ns) = several ns
need_size (Whole e) = 1

abbrev pub needs_size : List (List ℕ × Needs) → ℕ
needs_size [] = 1
needs_size (n ∷ ns) = need_size n.1 + needs_size ns

abbrev pub keywords_size : Keywords → ℕ
keywords_size k =
    sizes single k.types + sizes values_size k.enumeration + sizes values_in k.constant + sizes single k.multiple_of
    + sizes single k.minimum + sizes single k.maximum + sizes single k.exclusive_minimum
    + sizes single k.exclusive_maximum + sizes single k.min_length + sizes single k.max_length + sizes single k.pattern
    + sizes items_size k.items + sizes single k.additional_items + sizes single k.contains + sizes single k.min_items
    + sizes single k.max_items + sizes several k.required + sizes several k.properties
    + sizes several k.pattern_properties + sizes single k.additional_properties + sizes single k.property_names
    + sizes needs_size k.dependencies + sizes single k.min_properties + sizes single k.max_properties
    + sizes several k.all_of + sizes several k.any_of + sizes several k.one_of + sizes single k.not

-- 8 for each value of its keywords, and 1: no more than its place weighs, and no fewer than its positions
abbrev pub form_size : Form → ℕ
form_size Always = 1
form_size Never = 1
form_size (Ref e) = 1
form_size (Asks k) = 1 + 8 * keywords_size k

abbrev pub total_size : List Entry → ℕ
total_size [] = 0
total_size (e ∷ es) = form_size e.form + total_size es

-- there is a root, each entry that is named is there, each value has its range, and there aren't too many of them
abbrev pub is_table : List Entry → Bool
is_table es =
    nat_lt 0 (length es) && every (λ e. names_below (length es) e.form) es && every (λ e. form_in_range e.form) es
    && nat_le (total_size es) most_weight
