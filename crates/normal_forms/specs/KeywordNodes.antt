-- The nodes of an object's keywords, in their order.
use Rattle.std.specs.Prelude.{ℕ, ◌+ℤ◌, ◌-ℤ◌, ℤ, pos, List, [], ◌∷◌, ◌++◌, map, length, Bool, true, false, ◌&&◌, not, cond, Option, Some, None}
use Rattle.std.specs.List.{filter_map}
use Rattle.std.specs.Prelude as P
use Rattle.std.specs.Ordering.{int_eq}
use Rattle.documents.specs.Tests.{some, same_word}
use Rattle.documents.specs.Kind.{Kind, Null, Boolean, Number, Text, all_kinds}
use Rattle.documents.specs.Document.{Document, null, boolean, number, string, array, object}
use Rattle.patterns.specs.Tree.{Tree}
use Rattle.schemas.specs.Entry.{TypeName, ItemsPart, Each, Listed, Needs, Names, Whole, Keywords}
use Rattle.draft06.specs.Names.{keys}
use Rattle.draft06.specs.EntryValidity.{kind_named}
use Rattle.documents.specs.Kind as K
use Rattle.positions.specs.Position as Q
use Rattle.positions.specs.Position.{Position, Pattern, True, False, All, Any, One, Not, Depends, Types, NumMin, NumMax, Multiple, NumIn, Words, Match, LengthMin, LengthMax, Contains, CountMin, CountMax, MembersOf, Named, Matching, Others, Has, PropsMin, PropsMax, NamesIn}
use Rattle.normal_forms.specs.Nodes.{Maker, nothing, node, entry, both, above, each, if_some, the_one}
use Rattle.normal_forms.specs.Values.{of_kind, value_node}

-- the kinds that the types name, each once, in the order of kinds
abbrev pub kinds_of : List TypeName → List Kind
kinds_of ts = P.filter (λ t. some (λ n. K.same_kind t (kind_named n)) ts) all_kinds

-- each once, where it comes first
abbrev pub once_among : {A : Type 0} → (A → A → Bool) → List A → List A → List A
once_among same done [] = []
once_among same done (x ∷ xs) =
    cond (some (same x) done) (once_among same done xs) (x ∷ once_among same (x ∷ done) xs)

abbrev pub once : {A : Type 0} → (A → A → Bool) → List A → List A
once same xs = once_among same [] xs

abbrev pub is_null : Document → Bool
is_null null = true
is_null _ = false

abbrev pub truth_in : Document → Option Bool
truth_in (boolean b) = Some b
truth_in _ = None

abbrev pub number_in : Document → Option ℤ
number_in (number n) = Some n
number_in _ = None

abbrev pub word_in : Document → Option (List ℕ)
word_in (string w) = Some w
word_in _ = None

abbrev pub is_container : Document → Bool
is_container (array ds) = true
is_container (object ms) = true
is_container _ = false

-- one of some values of a kind, where there are any
abbrev pub one_of_kind : {A : Type 0} → Kind → (List A → Position) → List A → Maker
one_of_kind t P [] = nothing
one_of_kind t P (x ∷ xs) = of_kind t (P (x ∷ xs))

-- the truth values among some: both are all of their kind
abbrev pub truths : (false_there true_there : Bool) → Maker
truths true true = node (Types (Boolean ∷ []))
truths false true = value_node (boolean true)
truths true false = value_node (boolean false)
truths false false = nothing

-- the values of an `enum` by kinds; lists and objects come one by one
abbrev pub groups : List Document → Maker
groups ds =
    both (cond (some is_null ds) (node (Types (Null ∷ []))) nothing)
    (both (truths (some not (filter_map truth_in ds)) (some (λ b. b) (filter_map truth_in ds)))
    (both (one_of_kind Number NumIn (once int_eq (filter_map number_in ds)))
    (both (one_of_kind Text Words (once same_word (filter_map word_in ds)))
    (each value_node (P.filter is_container ds)))))

-- a schema for each element; or schemas in order, and what is required of all further elements
abbrev pub items_node : Option ℕ → ItemsPart → Maker
items_node rest (Each e) = node (Q.Items [] e)
items_node (Some e) (Listed es) = node (Q.Items es e)
items_node None (Listed es) = above (λ qs. Q.Items es (the_one qs)) (node True)

-- where the first holds, the second is required
abbrev pub depends_of : List ℕ → Position
depends_of (h ∷ q ∷ []) = Depends h q
depends_of _ = False

abbrev pub need_node : Needs → Maker
need_node (Names ws) = above All (each (λ w. node (Has w)) ws)
need_node (Whole e) = entry e

abbrev pub dependency_node : List ℕ × Needs → Maker
dependency_node d = above depends_of (both (node (Has d.0)) (need_node d.1))

-- `tree_of t` is the tree of the pattern with the text t
module _ (tree_of : List ℕ → Tree) where
  abbrev pub pattern_of : List ℕ → Pattern
  pattern_of t = record { source = t; tree = tree_of t }

  -- names that are none of `properties` and that no name of `patternProperties` matches
  abbrev pub others_of : Keywords → Q.NameSet
  others_of k = Others (keys k.properties) (map pattern_of (keys k.pattern_properties))

  -- of each kind of document
  abbrev pub any_nodes : Keywords → Maker
  any_nodes k =
      both (if_some (λ ts. node (Types (kinds_of ts))) k.types)
      (both (if_some (λ ds. above Any (groups ds)) k.enumeration)
      (if_some value_node k.constant))

  abbrev pub number_nodes : Keywords → Maker
  number_nodes k =
      both (if_some (λ m. node (Multiple m)) k.multiple_of)
      (both (if_some (λ n. node (NumMin n)) k.minimum)
      (both (if_some (λ n. node (NumMin (n +ℤ pos 1))) k.exclusive_minimum)
      (both (if_some (λ n. node (NumMax n)) k.maximum)
      (if_some (λ n. node (NumMax (n -ℤ pos 1))) k.exclusive_maximum))))

  abbrev pub string_nodes : Keywords → Maker
  string_nodes k =
      both (if_some (λ n. node (LengthMin n)) k.min_length)
      (both (if_some (λ n. node (LengthMax n)) k.max_length)
      (if_some (λ t. node (Match (pattern_of t))) k.pattern))

  abbrev pub array_nodes : Keywords → Maker
  array_nodes k =
      both (if_some (items_node k.additional_items) k.items)
      (both (if_some (λ e. node (Contains e)) k.contains)
      (both (if_some (λ n. node (CountMin n)) k.min_items)
      (if_some (λ n. node (CountMax n)) k.max_items)))

  abbrev pub member_nodes : Keywords → Maker
  member_nodes k =
      both (if_some (λ ws. each (λ w. node (Has w)) (once same_word ws)) k.required)
      (both (if_some (each (λ p. node (MembersOf (Named p.0) p.1))) k.properties)
      (both (if_some (each (λ p. node (MembersOf (Matching (pattern_of p.0)) p.1))) k.pattern_properties)
      (both (if_some (λ e. node (MembersOf (others_of k) e)) k.additional_properties)
      (both (if_some (λ e. node (NamesIn e)) k.property_names)
      (if_some (each dependency_node) k.dependencies)))))

  abbrev pub count_nodes : Keywords → Maker
  count_nodes k =
      both (if_some (λ n. node (PropsMin n)) k.min_properties) (if_some (λ n. node (PropsMax n)) k.max_properties)

  -- of schemas that apply to the same document
  abbrev pub in_place_nodes : Keywords → Maker
  in_place_nodes k =
      both (if_some (λ es. node (All es)) k.all_of)
      (both (if_some (λ es. node (Any es)) k.any_of)
      (both (if_some (λ es. node (One es)) k.one_of)
      (if_some (λ e. node (Not e)) k.not)))

  -- all keywords that are there, in this order
  abbrev pub keyword_nodes : Keywords → Maker
  keyword_nodes k =
      both (any_nodes k) (both (number_nodes k) (both (string_nodes k)
      (both (array_nodes k) (both (member_nodes k) (both (count_nodes k) (in_place_nodes k))))))
