-- What is wrong with a keyword's value doesn't depend on where it is, but for the place that is reported.
use Rattle.std.proofs.Common.{◌≡◌, ℕ, suc, List, [], ◌∷◌, ◌++◌, Bool, true, false, cond, codes, Option, Some, None, option_map, refl, sym, ap, ap₂}
use Rattle.std.specs.Prelude.{pos, int_le, int_lt}
use Rattle.std.proofs.lemmas.Option.{none-some}
use Rattle.documents.specs.Tests.{same_word}
use Rattle.documents.specs.Json.{Json, null, boolean, number, not_whole, string, array, object, Items, no_items, item, Members, no_members, member}
use Rattle.schemas.specs.Places.{Pointer, index_token}
use Rattle.schemas.specs.Keyword.{Shape, TypeWords, AnyValues, AnyValue, WholeNumber, PositiveNumber, Count, PatternWord, Words, Schema, SchemaOrList, SchemaList, SchemaMap, PatternMap, NeedMap, Flag, is_held, is_type_word, is_string, is_object_or_boolean}
use Rattle.schemas.specs.Fault as F
use Rattle.schemas.specs.Fault.{Fault, or_else, unless, first_not_whole, not_whole_among, not_whole_in, first_failing}
use Rattle.schemas.specs.Reading.{id_fault, shape_fault}
use Rattle.schema_laws.proofs.Faultless.{neither}
use Rattle.js_json.specs.declared.fault.RefFault.{RefFault}
use Rattle.js_pattern.specs.declared.fault.PatternFault.{PatternFault}
use Rattle.js_keywords.specs.Reading.{rules}
use Rattle.js_keywords.specs.Member.{named_fault, shape_beside}
use Rattle.js_walk.specs.Visiting.{members_fault_by}

some_none : {A B : Type 0} (x : A) → Some x ≡ None → B
some_none x h = absurd (none-some x (sym h))

map_none : {A B C : Type 0} (f : A → B) (g : A → C) (o u : Option A) → (o ≡ None → u ≡ None)
    → option_map f o ≡ None → option_map g u ≡ None
map_none f g None u same h = ap (option_map g) (same refl)
map_none f g (Some x) u same h = some_none (f x) h

unless_none : {A : Type 0} (b : Bool) (x y : A) → unless b x ≡ None → unless b y ≡ None
unless_none true x y h = refl
unless_none false x y h = some_none x h

both_none : {A : Type 0} (a b c d : Option A) → (a ≡ None → c ≡ None) → (b ≡ None → d ≡ None)
    → or_else a b ≡ None → or_else c d ≡ None
both_none a b c d first second h = let n = neither a b h in ap₂ or_else (first n.0) (second n.1)

mutual
  whole_same : (p q : Pointer) (v : Json) → first_not_whole p v ≡ None → first_not_whole q v ≡ None
  whole_same p q null h = refl
  whole_same p q (boolean b) h = refl
  whole_same p q (number n) h = refl
  whole_same p q (string s) h = refl
  whole_same p q not_whole h = some_none p h
  whole_same p q (array vs) h = among_same p q 0 vs h
  whole_same p q (object ms) h = in_same p q ms h

  among_same : (p q : Pointer) (i : ℕ) (vs : Items) → not_whole_among p i vs ≡ None → not_whole_among q i vs ≡ None
  among_same p q i no_items h = refl
  among_same p q i (item v vs) h =
      both_none (first_not_whole (p ++ index_token i ∷ []) v) (not_whole_among p (suc i) vs)
      (first_not_whole (q ++ index_token i ∷ []) v) (not_whole_among q (suc i) vs)
      (whole_same (p ++ index_token i ∷ []) (q ++ index_token i ∷ []) v) (among_same p q (suc i) vs) h

  in_same : (p q : Pointer) (ms : Members) → not_whole_in p ms ≡ None → not_whole_in q ms ≡ None
  in_same p q no_members h = refl
  in_same p q (member k v ms) h =
      both_none (first_not_whole (p ++ k ∷ []) v) (not_whole_in p ms)
      (first_not_whole (q ++ k ∷ []) v) (not_whole_in q ms)
      (whole_same (p ++ k ∷ []) (q ++ k ∷ []) v) (in_same p q ms) h

failing_same : (test : Json → Bool) (p q : Pointer) (i : ℕ) (vs : Items) → first_failing test p i vs ≡ None
    → first_failing test q i vs ≡ None
failing_same test p q i no_items h = refl
failing_same test p q i (item v vs) h = go (test v) h (failing_same test p q (suc i) vs)
  where
    go : (b : Bool) → cond b (first_failing test p (suc i) vs) (Some (p ++ index_token i ∷ [])) ≡ None
        → (first_failing test p (suc i) vs ≡ None → first_failing test q (suc i) vs ≡ None)
        → cond b (first_failing test q (suc i) vs) (Some (q ++ index_token i ∷ [])) ≡ None
    go true h later = later h
    go false h later = some_none (p ++ index_token i ∷ []) h

abbrev Same : (List ℕ → Pointer → Json → Option (Fault PatternFault RefFault)) → Type 0
Same fault = (k : List ℕ) (p q : Pointer) (v : Json) → fault k p v ≡ None → fault k q v ≡ None

types_same : Same (F.types_fault rules)
types_same k p q null h = unless_none (is_type_word null) (F.WrongShape k p) (F.WrongShape k q) h
types_same k p q (boolean b) h = unless_none (is_type_word (boolean b)) (F.WrongShape k p) (F.WrongShape k q) h
types_same k p q (number n) h = unless_none (is_type_word (number n)) (F.WrongShape k p) (F.WrongShape k q) h
types_same k p q not_whole h = unless_none (is_type_word not_whole) (F.WrongShape k p) (F.WrongShape k q) h
types_same k p q (string s) h = unless_none (is_type_word (string s)) (F.WrongShape k p) (F.WrongShape k q) h
types_same k p q (array vs) h =
    map_none (F.WrongShape k) (F.WrongShape k) (first_failing is_type_word p 0 vs) (first_failing is_type_word q 0 vs)
    (failing_same is_type_word p q 0 vs) h
types_same k p q (object ms) h = unless_none (is_type_word (object ms)) (F.WrongShape k p) (F.WrongShape k q) h

words_same : Same (F.words_fault rules)
words_same k p q null h = some_none _ h
words_same k p q (boolean b) h = some_none _ h
words_same k p q (number n) h = some_none _ h
words_same k p q not_whole h = some_none _ h
words_same k p q (string s) h = some_none _ h
words_same k p q (array vs) h =
    map_none (F.WrongShape k) (F.WrongShape k) (first_failing is_string p 0 vs) (first_failing is_string q 0 vs)
    (failing_same is_string p q 0 vs) h
words_same k p q (object ms) h = some_none _ h

value_same : (p q : Pointer) (v : Json) → F.value_fault rules p v ≡ None → F.value_fault rules q v ≡ None
value_same p q v h = map_none F.NotWhole F.NotWhole (first_not_whole p v) (first_not_whole q v) (whole_same p q v) h

values_same : Same (F.values_fault rules)
values_same k p q null h = some_none _ h
values_same k p q (boolean b) h = some_none _ h
values_same k p q (number n) h = some_none _ h
values_same k p q not_whole h = some_none _ h
values_same k p q (string s) h = some_none _ h
values_same k p q (array vs) h = value_same p q (array vs) h
values_same k p q (object ms) h = some_none _ h

whole_fault_same : Same (F.whole_fault rules)
whole_fault_same k p q null h = some_none _ h
whole_fault_same k p q (boolean b) h = some_none _ h
whole_fault_same k p q (number n) h = unless_none (is_held n) (F.NotWhole p) (F.NotWhole q) h
whole_fault_same k p q not_whole h = some_none _ h
whole_fault_same k p q (string s) h = some_none _ h
whole_fault_same k p q (array vs) h = some_none _ h
whole_fault_same k p q (object ms) h = some_none _ h

positive_same : Same (F.positive_fault rules)
positive_same k p q null h = some_none _ h
positive_same k p q (boolean b) h = some_none _ h
positive_same k p q (number n) h =
    both_none (F.held_fault rules p n) (unless (int_lt (pos 0) n) (F.NotPositive p))
    (F.held_fault rules q n) (unless (int_lt (pos 0) n) (F.NotPositive q))
    (unless_none (is_held n) (F.NotWhole p) (F.NotWhole q))
    (unless_none (int_lt (pos 0) n) (F.NotPositive p) (F.NotPositive q)) h
positive_same k p q not_whole h = some_none _ h
positive_same k p q (string s) h = some_none _ h
positive_same k p q (array vs) h = some_none _ h
positive_same k p q (object ms) h = some_none _ h

count_same : Same (F.count_fault rules)
count_same k p q null h = some_none _ h
count_same k p q (boolean b) h = some_none _ h
count_same k p q (number n) h =
    both_none (F.held_fault rules p n) (unless (int_le (pos 0) n) (F.Negative p))
    (F.held_fault rules q n) (unless (int_le (pos 0) n) (F.Negative q))
    (unless_none (is_held n) (F.NotWhole p) (F.NotWhole q))
    (unless_none (int_le (pos 0) n) (F.Negative p) (F.Negative q)) h
count_same k p q not_whole h = some_none _ h
count_same k p q (string s) h = some_none _ h
count_same k p q (array vs) h = some_none _ h
count_same k p q (object ms) h = some_none _ h

pattern_word_same : Same (F.pattern_word_fault rules)
pattern_word_same k p q null h = some_none _ h
pattern_word_same k p q (boolean b) h = some_none _ h
pattern_word_same k p q (number n) h = some_none _ h
pattern_word_same k p q not_whole h = some_none _ h
pattern_word_same k p q (string s) h =
    map_none (λ f. F.BadPattern f p) (λ f. F.BadPattern f q) (F.pattern_fault rules s)
    (F.pattern_fault rules s) (λ e. e) h
pattern_word_same k p q (array vs) h = some_none _ h
pattern_word_same k p q (object ms) h = some_none _ h

schema_same : Same (F.schema_fault rules)
schema_same k p q null h = unless_none (is_object_or_boolean null) (F.WrongShape k p) (F.WrongShape k q) h
schema_same k p q (boolean b) h = unless_none (is_object_or_boolean (boolean b)) (F.WrongShape k p) (F.WrongShape k q) h
schema_same k p q (number n) h = unless_none (is_object_or_boolean (number n)) (F.WrongShape k p) (F.WrongShape k q) h
schema_same k p q not_whole h = unless_none (is_object_or_boolean not_whole) (F.WrongShape k p) (F.WrongShape k q) h
schema_same k p q (string s) h = unless_none (is_object_or_boolean (string s)) (F.WrongShape k p) (F.WrongShape k q) h
schema_same k p q (array vs) h = unless_none (is_object_or_boolean (array vs)) (F.WrongShape k p) (F.WrongShape k q) h
schema_same k p q (object ms) h = unless_none (is_object_or_boolean (object ms)) (F.WrongShape k p) (F.WrongShape k q) h

schema_or_list_same : Same (F.schema_or_list_fault rules)
schema_or_list_same k p q null h = unless_none (is_object_or_boolean null) (F.WrongShape k p) (F.WrongShape k q) h
schema_or_list_same k p q (boolean b) h =
    unless_none (is_object_or_boolean (boolean b)) (F.WrongShape k p) (F.WrongShape k q) h
schema_or_list_same k p q (number n) h =
    unless_none (is_object_or_boolean (number n)) (F.WrongShape k p) (F.WrongShape k q) h
schema_or_list_same k p q not_whole h =
    unless_none (is_object_or_boolean not_whole) (F.WrongShape k p) (F.WrongShape k q) h
schema_or_list_same k p q (string s) h =
    unless_none (is_object_or_boolean (string s)) (F.WrongShape k p) (F.WrongShape k q) h
schema_or_list_same k p q (array vs) h = refl
schema_or_list_same k p q (object ms) h =
    unless_none (is_object_or_boolean (object ms)) (F.WrongShape k p) (F.WrongShape k q) h

schema_list_same : Same (F.schema_list_fault rules)
schema_list_same k p q null h = some_none _ h
schema_list_same k p q (boolean b) h = some_none _ h
schema_list_same k p q (number n) h = some_none _ h
schema_list_same k p q not_whole h = some_none _ h
schema_list_same k p q (string s) h = some_none _ h
schema_list_same k p q (object ms) h = some_none _ h
schema_list_same k p q (array no_items) h = some_none _ h
schema_list_same k p q (array (item v vs)) h = refl

schema_map_same : Same (F.schema_map_fault rules)
schema_map_same k p q null h = some_none _ h
schema_map_same k p q (boolean b) h = some_none _ h
schema_map_same k p q (number n) h = some_none _ h
schema_map_same k p q not_whole h = some_none _ h
schema_map_same k p q (string s) h = some_none _ h
schema_map_same k p q (array vs) h = some_none _ h
schema_map_same k p q (object ms) h = refl

names_same : (p q : Pointer) (ms : Members) → F.names_fault rules p ms ≡ None → F.names_fault rules q ms ≡ None
names_same p q no_members h = refl
names_same p q (member w v ms) h =
    both_none (option_map (λ f. F.BadPattern f (p ++ w ∷ [])) (F.pattern_fault rules w)) (F.names_fault rules p ms)
    (option_map (λ f. F.BadPattern f (q ++ w ∷ [])) (F.pattern_fault rules w)) (F.names_fault rules q ms)
    (map_none (λ f. F.BadPattern f (p ++ w ∷ [])) (λ f. F.BadPattern f (q ++ w ∷ [])) (F.pattern_fault rules w)
    (F.pattern_fault rules w) (λ e. e))
    (names_same p q ms) h

pattern_map_same : Same (F.pattern_map_fault rules)
pattern_map_same k p q null h = some_none _ h
pattern_map_same k p q (boolean b) h = some_none _ h
pattern_map_same k p q (number n) h = some_none _ h
pattern_map_same k p q not_whole h = some_none _ h
pattern_map_same k p q (string s) h = some_none _ h
pattern_map_same k p q (array vs) h = some_none _ h
pattern_map_same k p q (object ms) h = names_same p q ms h

need_same : Same (F.need_fault rules)
need_same k p q null h = refl
need_same k p q (boolean b) h = refl
need_same k p q (number n) h = refl
need_same k p q not_whole h = refl
need_same k p q (string s) h = refl
need_same k p q (array vs) h = words_same k p q (array vs) h
need_same k p q (object ms) h = refl

needs_same : (k : List ℕ) (p q : Pointer) (ms : Members) → F.needs_fault rules k p ms ≡ None
    → F.needs_fault rules k q ms ≡ None
needs_same k p q no_members h = refl
needs_same k p q (member w v ms) h =
    both_none (F.need_fault rules k (p ++ w ∷ []) v) (F.needs_fault rules k p ms)
    (F.need_fault rules k (q ++ w ∷ []) v) (F.needs_fault rules k q ms)
    (need_same k (p ++ w ∷ []) (q ++ w ∷ []) v) (needs_same k p q ms) h

need_map_same : Same (F.need_map_fault rules)
need_map_same k p q null h = some_none _ h
need_map_same k p q (boolean b) h = some_none _ h
need_map_same k p q (number n) h = some_none _ h
need_map_same k p q not_whole h = some_none _ h
need_map_same k p q (string s) h = some_none _ h
need_map_same k p q (array vs) h = some_none _ h
need_map_same k p q (object ms) h = needs_same k p q ms h

flag_same : Same (F.flag_fault rules)
flag_same k p q null h = some_none _ h
flag_same k p q (number n) h = some_none _ h
flag_same k p q not_whole h = some_none _ h
flag_same k p q (string s) h = some_none _ h
flag_same k p q (array vs) h = some_none _ h
flag_same k p q (object ms) h = some_none _ h
flag_same k p q (boolean true) h = some_none _ h
flag_same k p q (boolean false) h = refl

keyword_same : (S : Shape) → Same (F.keyword_fault rules S)
keyword_same TypeWords k p q v h = types_same k p q v h
keyword_same AnyValues k p q v h = values_same k p q v h
keyword_same WholeNumber k p q v h = whole_fault_same k p q v h
keyword_same PositiveNumber k p q v h = positive_same k p q v h
keyword_same Count k p q v h = count_same k p q v h
keyword_same PatternWord k p q v h = pattern_word_same k p q v h
keyword_same Words k p q v h = words_same k p q v h
keyword_same Schema k p q v h = schema_same k p q v h
keyword_same SchemaOrList k p q v h = schema_or_list_same k p q v h
keyword_same SchemaList k p q v h = schema_list_same k p q v h
keyword_same SchemaMap k p q v h = schema_map_same k p q v h
keyword_same PatternMap k p q v h = pattern_map_same k p q v h
keyword_same NeedMap k p q v h = need_map_same k p q v h
keyword_same Flag k p q v h = flag_same k p q v h
keyword_same AnyValue k p q v h = value_same p q v h

shape_same : (root : Json) (S : Option Shape) (k : List ℕ) (p q : Pointer) (v : Json)
    → shape_fault rules root S k p v ≡ None → shape_fault rules root S k q v ≡ None
shape_same root None k p q v h = refl
shape_same root (Some S) k p q v h = keyword_same S k (p ++ k ∷ []) (q ++ k ∷ []) v h

-- an identifier is a fault everywhere but at the root
id_same : (root : Json) (p q : Pointer) (v : Json) → (p ≡ [] → q ≡ []) → id_fault rules root p v ≡ None
    → id_fault rules root q v ≡ None
id_same root [] q (string w) roots h = ap (λ r. id_fault rules root r (string w)) (roots refl)
id_same root [] q null roots h = some_none _ h
id_same root [] q (boolean b) roots h = some_none _ h
id_same root [] q (number n) roots h = some_none _ h
id_same root [] q not_whole roots h = some_none _ h
id_same root [] q (array vs) roots h = some_none _ h
id_same root [] q (object ms) roots h = some_none _ h
id_same root (t ∷ p) q v roots h = some_none _ h

named_same : (root : Json) (listed : Bool) (p q : Pointer) (k : List ℕ) (v : Json) → (p ≡ [] → q ≡ [])
    → named_fault root listed p k v ≡ None → named_fault root listed q k v ≡ None
named_same root listed p q k v roots h = go (same_word k (codes "$id")) h
  where
    go : (b : Bool) → cond b (id_fault rules root p v) (shape_fault rules root (shape_beside listed k) k p v) ≡ None
        → cond b (id_fault rules root q v) (shape_fault rules root (shape_beside listed k) k q v) ≡ None
    go true h = id_same root p q v roots h
    go false h = shape_same root (shape_beside listed k) k p q v h

-- so members in which nothing is wrong at one place have nothing wrong at another
pub members_same : (root : Json) (listed : Bool) (p q : Pointer) (ms : Members) → (p ≡ [] → q ≡ [])
    → members_fault_by root listed p ms ≡ None → members_fault_by root listed q ms ≡ None
members_same root listed p q no_members roots h = refl
members_same root listed p q (member k v ms) roots h =
    both_none (named_fault root listed p k v) (members_fault_by root listed p ms)
    (named_fault root listed q k v) (members_fault_by root listed q ms)
    (named_same root listed p q k v roots) (members_same root listed p q ms roots) h
