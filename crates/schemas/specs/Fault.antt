-- What can be wrong in a schema, and the first thing that is wrong in the value of a keyword, in pre-order.
use Rattle.std.specs.Prelude.{ℕ, suc, ℤ, List, [], ◌∷◌, ◌++◌, Bool, true, false, pos, int_le, int_lt, Option, Some, None, option_map, Result, cond}
use Rattle.std.specs.Result.{result_err}
use Rattle.documents.specs.Json.{Json, boolean, number, not_whole, string, array, object, Items, no_items, item, Members, no_members, member}
use Rattle.patterns.specs.Tree.{Tree}
use Rattle.schemas.specs.Places.{Pointer, index_token}
use Rattle.schemas.specs.Keyword.{Shape, TypeWords, AnyValues, AnyValue, WholeNumber, PositiveNumber, Count, PatternWord, Words, Schema, SchemaOrList, SchemaList, SchemaMap, PatternMap, NeedMap, Flag, is_held, is_type_word, is_string, is_object_or_boolean}

-- a fault and its pointer. P is what can be wrong in a pattern, and R what can be wrong with a reference
pub data Fault (P R : Type 0) : Type 0 where
  -- the value at this place is no object and no boolean
  NotASchema : Pointer → Fault P R
  -- the value isn't what that keyword requires
  WrongShape : List ℕ → Pointer → Fault P R
  -- a number isn't whole; is not above 0; is below 0
  NotWhole : Pointer → Fault P R
  NotPositive : Pointer → Fault P R
  Negative : Pointer → Fault P R
  -- a list of schemas has none
  EmptyList : Pointer → Fault P R
  -- elements are to be unique, which isn't decided here
  UniqueItems : Pointer → Fault P R
  -- an identifier below the root
  InnerId : Pointer → Fault P R
  -- the object at this place refers to what can't be read as a schema
  BadReference : R → Pointer → Fault P R
  -- a text that should be a pattern
  BadPattern : P → Pointer → Fault P R
  -- with this place the schema weighs more than is read
  TooLarge : Pointer → Fault P R

-- what reading rests on: the tree of a pattern, or the fault of a text that is none; the place to which a reference
-- leads in the value of the whole file, whose identifier is given where it has one; and the greatest weight of a schema
pub record Rules (P R : Type 0) : Type 0 where
  pub pattern : List ℕ → Result Tree P
  pub target : Json → List ℕ → Option (List ℕ) → Result Pointer R
  pub most_weight : ℕ

-- the first of two
abbrev pub or_else : {A : Type 0} → Option A → Option A → Option A
or_else None second = second
or_else (Some x) second = Some x

-- a fault where the test fails
abbrev pub unless : {A : Type 0} → Bool → A → Option A
unless true x = None
unless false x = Some x

-- the first number that isn't whole, in pre-order
abbrev mutual
  pub first_not_whole : Pointer → Json → Option Pointer
  first_not_whole p not_whole = Some p
  first_not_whole p (array vs) = not_whole_among p 0 vs
  first_not_whole p (object ms) = not_whole_in p ms
  first_not_whole p _ = None

  pub not_whole_among : Pointer → ℕ → Items → Option Pointer
  not_whole_among p i no_items = None
  not_whole_among p i (item v vs) = or_else (first_not_whole (p ++ index_token i ∷ []) v) (not_whole_among p (suc i) vs)

  pub not_whole_in : Pointer → Members → Option Pointer
  not_whole_in p no_members = None
  not_whole_in p (member k v ms) = or_else (first_not_whole (p ++ k ∷ []) v) (not_whole_in p ms)

-- the first element, from number i on, that fails a test
abbrev pub first_failing : (Json → Bool) → Pointer → ℕ → Items → Option Pointer
first_failing test p i no_items = None
first_failing test p i (item v vs) = cond (test v) (first_failing test p (suc i) vs) (Some (p ++ index_token i ∷ []))

module _ {P R : Type 0} (rules : Rules P R) where
  -- what is wrong with a text that should be a pattern
  abbrev pub pattern_fault : List ℕ → Option P
  pattern_fault w = result_err (rules.pattern w)

  -- the value of the keyword k, which is at p, by the shape that is required
  abbrev pub types_fault : List ℕ → Pointer → Json → Option (Fault P R)
  types_fault k p (array vs) = option_map (WrongShape k) (first_failing is_type_word p 0 vs)
  types_fault k p v = unless (is_type_word v) (WrongShape k p)

  abbrev pub words_fault : List ℕ → Pointer → Json → Option (Fault P R)
  words_fault k p (array vs) = option_map (WrongShape k) (first_failing is_string p 0 vs)
  words_fault k p v = Some (WrongShape k p)

  abbrev pub value_fault : Pointer → Json → Option (Fault P R)
  value_fault p v = option_map NotWhole (first_not_whole p v)

  abbrev pub values_fault : List ℕ → Pointer → Json → Option (Fault P R)
  values_fault k p (array vs) = value_fault p (array vs)
  values_fault k p v = Some (WrongShape k p)

  -- a number isn't whole where it isn't held in 64 bits
  abbrev pub held_fault : Pointer → ℤ → Option (Fault P R)
  held_fault p n = unless (is_held n) (NotWhole p)

  abbrev pub whole_fault : List ℕ → Pointer → Json → Option (Fault P R)
  whole_fault k p (number n) = held_fault p n
  whole_fault k p not_whole = Some (NotWhole p)
  whole_fault k p v = Some (WrongShape k p)

  abbrev pub positive_fault : List ℕ → Pointer → Json → Option (Fault P R)
  positive_fault k p (number n) = or_else (held_fault p n) (unless (int_lt (pos 0) n) (NotPositive p))
  positive_fault k p v = whole_fault k p v

  abbrev pub count_fault : List ℕ → Pointer → Json → Option (Fault P R)
  count_fault k p (number n) = or_else (held_fault p n) (unless (int_le (pos 0) n) (Negative p))
  count_fault k p v = whole_fault k p v

  abbrev pub pattern_word_fault : List ℕ → Pointer → Json → Option (Fault P R)
  pattern_word_fault k p (string w) = option_map (λ f. BadPattern f p) (pattern_fault w)
  pattern_word_fault k p v = Some (WrongShape k p)

  -- a list element or a member in the place of a schema is looked at when its place is walked
  abbrev pub schema_fault : List ℕ → Pointer → Json → Option (Fault P R)
  schema_fault k p v = unless (is_object_or_boolean v) (WrongShape k p)

  abbrev pub schema_or_list_fault : List ℕ → Pointer → Json → Option (Fault P R)
  schema_or_list_fault k p (array vs) = None
  schema_or_list_fault k p v = schema_fault k p v

  abbrev pub schema_list_fault : List ℕ → Pointer → Json → Option (Fault P R)
  schema_list_fault k p (array no_items) = Some (EmptyList p)
  schema_list_fault k p (array (item v vs)) = None
  schema_list_fault k p v = Some (WrongShape k p)

  abbrev pub schema_map_fault : List ℕ → Pointer → Json → Option (Fault P R)
  schema_map_fault k p (object ms) = None
  schema_map_fault k p v = Some (WrongShape k p)

  -- the first name that is no pattern, reported at its member
  abbrev pub names_fault : Pointer → Members → Option (Fault P R)
  names_fault p no_members = None
  names_fault p (member w v ms) =
      or_else (option_map (λ f. BadPattern f (p ++ w ∷ [])) (pattern_fault w)) (names_fault p ms)

  abbrev pub pattern_map_fault : List ℕ → Pointer → Json → Option (Fault P R)
  pattern_map_fault k p (object ms) = names_fault p ms
  pattern_map_fault k p v = Some (WrongShape k p)

  -- a dependency's list has names alone
  abbrev pub need_fault : List ℕ → Pointer → Json → Option (Fault P R)
  need_fault k p (array vs) = words_fault k p (array vs)
  need_fault k p v = None

  abbrev pub needs_fault : List ℕ → Pointer → Members → Option (Fault P R)
  needs_fault k p no_members = None
  needs_fault k p (member w v ms) = or_else (need_fault k (p ++ w ∷ []) v) (needs_fault k p ms)

  abbrev pub need_map_fault : List ℕ → Pointer → Json → Option (Fault P R)
  need_map_fault k p (object ms) = needs_fault k p ms
  need_map_fault k p v = Some (WrongShape k p)

  abbrev pub flag_fault : List ℕ → Pointer → Json → Option (Fault P R)
  flag_fault k p (boolean false) = None
  flag_fault k p (boolean true) = Some (UniqueItems p)
  flag_fault k p v = Some (WrongShape k p)

  -- the first fault of the value of the keyword k at p
  abbrev pub keyword_fault : Shape → List ℕ → Pointer → Json → Option (Fault P R)
  keyword_fault TypeWords k p v = types_fault k p v
  keyword_fault AnyValues k p v = values_fault k p v
  keyword_fault AnyValue k p v = value_fault p v
  keyword_fault WholeNumber k p v = whole_fault k p v
  keyword_fault PositiveNumber k p v = positive_fault k p v
  keyword_fault Count k p v = count_fault k p v
  keyword_fault PatternWord k p v = pattern_word_fault k p v
  keyword_fault Words k p v = words_fault k p v
  keyword_fault Schema k p v = schema_fault k p v
  keyword_fault SchemaOrList k p v = schema_or_list_fault k p v
  keyword_fault SchemaList k p v = schema_list_fault k p v
  keyword_fault SchemaMap k p v = schema_map_fault k p v
  keyword_fault PatternMap k p v = pattern_map_fault k p v
  keyword_fault NeedMap k p v = need_map_fault k p v
  keyword_fault Flag k p v = flag_fault k p v
