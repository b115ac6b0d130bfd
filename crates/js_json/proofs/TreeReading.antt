-- What is read of tokens at once is what the kit's reader makes of the same tokens. Its loops go a turn at a time.
use Rattle.std.proofs.Common.{◌≡◌, ◌≢◌, ℕ, zero, suc, ◌-◌, ◌<◌, ◌≤◌, List, [], ◌∷◌, ◌++◌, map, length, Option, Some, Result, Ok, Err, IfOk, OnOk, rules, None, option_map, option_and_then, Ordering, Less, Equal, Greater, String, Global, string_bytes, string_cmp, refl, sym, ap, ap₂, ◌∙◌}
use Rattle.std.specs.Str.{chars}
use Rattle.std.specs.Ordering.{nat_cmp, match_ordering}
use Rattle.std.specs.Cmp.Lexicographic.{slice_cmp}
use Rattle.std.specs.BTreeMap.{insert_entry}
use Rattle.json.specs.Token.{Token}
use Rattle.json.specs.Lex.{tokens}
use Rattle.json.specs.Reads.{token_of}
use Rattle.json.specs.declared.token.Token as C0
use Rattle.json.specs.declared.token.Token.TheVariants as C
use Rattle.json.specs.Json as T
use Rattle.json.specs.Json.{Parse, parse_map, after_end_array, read_key, if_last, items_step, items, members, value_with, value}
use Rattle.json.proofs.Grammar.{items_end, items_more, members_end, members_no_key, members_more, value_is}
use Rattle.serde_json.specs.Data as R
use Rattle.serde_json.specs.Read.{of_json, of_items, of_members, number_of, converted, max_depth, read}
use Rattle.documents.specs.Json as J
use Rattle.js_doc.specs.declared.json.Json as JJ
use Rattle.js_doc.specs.declared.json.JsonList.{JsonList}
use Rattle.js_doc.specs.declared.json.JsonMap.{JsonMap}
use Rattle.js_doc.specs.JsonView.{view, list_view, map_view}
use Rattle.js_json.specs.Value.{json_of, json_items, json_members, json_number}
use Rattle.js_json.specs.Reading.{put_named, object_of, json_of_tree, items_of_tree, named_of_tree, scalar_of, named_by, spelled_by}

-- ---- a tree's value is that of its data

-- members by the bytes of their names
abbrev pub named : R.Members → List (List ℕ × J.Json)
named R.no_members = []
named (R.member k d ms) = (k, json_of d) ∷ named ms

named-match_ordering : (o : Ordering) (a b c : R.Members)
    → named (match_ordering o a b c) ≡ match_ordering o (named a) (named b) (named c)
named-match_ordering Less a b c = refl
named-match_ordering Equal a b c = refl
named-match_ordering Greater a b c = refl

named-put : (k : List ℕ) (d : R.Data) (ms : R.Members) → named (R.put k d ms) ≡ put_named k (json_of d) (named ms)
named-put k d R.no_members = refl
named-put k d (R.member l e ms) =
    named-match_ordering (slice_cmp nat_cmp k l) _ _ _ ∙ rw (named-put k d ms) refl

json_members-named : (ms : R.Members) → J.members_of (map (λ e. (chars e.0, e.1)) (named ms)) ≡ json_members ms
json_members-named R.no_members = refl
json_members-named (R.member k d ms) = ap (J.member (chars k) (json_of d)) (json_members-named ms)

of_number : (o : Option R.Num) → option_map json_number o ≡ option_map json_of (option_map R.number o)
of_number None = refl
of_number (Some n) = refl

of_array : (o : Option R.Items)
    → option_map J.array (option_map json_items o) ≡ option_map json_of (option_map R.array o)
of_array None = refl
of_array (Some ds) = refl

of_object : (o : Option R.Members)
    → option_map object_of (option_map named o) ≡ option_map json_of (option_map R.object o)
of_object None = refl
of_object (Some ms) = ap (λ js. Some (J.object js)) (json_members-named ms)

one_item : (d : R.Data) (o : Option R.Items)
    → option_map (J.item (json_of d)) (option_map json_items o) ≡ option_map json_items (option_map (R.item d) o)
one_item d None = refl
one_item d (Some ds) = refl

first_item : (o : Option R.Data) (ds : Option J.Items) (es : Option R.Items) → ds ≡ option_map json_items es
    → option_and_then (λ j. option_map (J.item j) ds) (option_map json_of o)
    ≡ option_map json_items (option_and_then (λ d. option_map (R.item d) es) o)
first_item None ds es e = refl
first_item (Some d) ds es e = ap (option_map (J.item (json_of d))) e ∙ one_item d es

first_member : (k : List ℕ) (o : Option R.Data) (old : R.Members)
    (later : List (List ℕ × J.Json) → Option (List (List ℕ × J.Json))) (others : R.Members → Option R.Members)
    → ((ms : R.Members) → later (named ms) ≡ option_map named (others ms))
    → option_and_then (λ j. later (put_named k j (named old))) (option_map json_of o)
    ≡ option_map named (option_and_then (λ d. others (R.put k d old)) o)
first_member k None old later others h = refl
first_member k (Some d) old later others h = ap later (sym (named-put k d old)) ∙ h (R.put k d old)

mutual
  pub json_of_tree-of_json : (t : T.Json) → json_of_tree t ≡ option_map json_of (of_json t)
  json_of_tree-of_json T.null = refl
  json_of_tree-of_json (T.boolean b) = refl
  json_of_tree-of_json (T.number s) = of_number (number_of s)
  json_of_tree-of_json (T.string s) = refl
  json_of_tree-of_json (T.array ts) =
      ap (option_map J.array) (items_of_tree-of_items ts) ∙ of_array (of_items ts)
  json_of_tree-of_json (T.object ms) =
      ap (option_map object_of) (named_of_tree-of_members ms R.no_members) ∙ of_object (of_members ms R.no_members)

  items_of_tree-of_items : (ts : T.Items) → items_of_tree ts ≡ option_map json_items (of_items ts)
  items_of_tree-of_items T.no_items = refl
  items_of_tree-of_items (T.item t ts) =
      ap (option_and_then (λ j. option_map (J.item j) (items_of_tree ts))) (json_of_tree-of_json t)
      ∙ first_item (of_json t) (items_of_tree ts) (of_items ts) (items_of_tree-of_items ts)

  named_of_tree-of_members : (ts : T.Members) (old : R.Members)
      → named_of_tree ts (named old) ≡ option_map named (of_members ts old)
  named_of_tree-of_members T.no_members old = refl
  named_of_tree-of_members (T.member k t ts) old =
      ap (option_and_then (λ j. named_of_tree ts (put_named k j (named old)))) (json_of_tree-of_json t)
      ∙ first_member k (of_json t) old (named_of_tree ts) (of_members ts) (λ ms. named_of_tree-of_members ts ms)

-- ---- the grammar's loops, where what they read is turned into something else

abbrev pick : {A : Type 0} → A → Option A → A
pick d None = d
pick d (Some a) = a

found : {B : Type 0} (r s : List Token) (x : Option B) (b : B)
    → option_map {U = B × List Token} (λ y. (y, r)) x ≡ Some (b, s) → (r ≡ s) × (x ≡ Some b)
found r s None b e = absurd (cc)
found r s (Some y) b e = let same = ap (pick (y, r)) e in (ap (λ p. p.1) same, ap (λ p. Some p.0) same)

pub converted_some : {A B : Type 0} (f : A → Option B) (o : Option (A × List Token)) (b : B) (r : List Token)
    → converted f o ≡ Some (b, r) → (a : A) × (o ≡ Some (a, r)) × (f a ≡ Some b)
converted_some f None b r e = absurd (cc)
converted_some f (Some p) b r e =
    let both = found p.1 r (f p.0) b e in (p.0, ap (λ s. Some (p.0, s)) both.0, both.1)

refused : {B : Type 0} (r : List Token) (x : Option B) → option_map {U = B × List Token} (λ y. (y, r)) x ≡ None
    → x ≡ None
refused r None e = refl
refused r (Some y) e = absurd (cc)

twice : {A B : Type 0} (g : A → B) (r : List Token) (x : Option A)
    → option_map (λ b. (b, r)) (option_map g x) ≡ parse_map g (option_map (λ a. (a, r)) x)
twice g r None = refl
twice g r (Some a) = refl

converted-array : (o : Option (T.Items × List Token))
    → converted json_of_tree (parse_map T.array o) ≡ parse_map J.array (converted items_of_tree o)
converted-array None = refl
converted-array (Some p) = twice J.array p.1 (items_of_tree p.0)

converted-object : (o : Option (T.Members × List Token))
    → converted json_of_tree (parse_map T.object o) ≡ parse_map object_of (converted (λ ms. named_of_tree ms []) o)
converted-object None = refl
converted-object (Some p) = twice object_of p.1 (named_of_tree p.0 [])

-- ---- one token

scalar_at : (is : Parse T.Items) (os : Parse T.Members) (t : Token) (r : List Token) → t ≢ Token.begin_array
    → t ≢ Token.begin_object
    → converted json_of_tree (value_with is os (t ∷ r)) ≡ option_map (λ j. (j, r)) (scalar_of t)
scalar_at is os Token.begin_object r a o = absurd (o refl)
scalar_at is os Token.end_object r a o = refl
scalar_at is os Token.begin_array r a o = absurd (a refl)
scalar_at is os Token.end_array r a o = refl
scalar_at is os (Token.key s) r a o = refl
scalar_at is os (Token.string s) r a o = refl
scalar_at is os (Token.number s) r a o = refl
scalar_at is os (Token.boolean b) r a o = refl
scalar_at is os Token.null r a o = refl
scalar_at is os Token.bad r a o = refl

-- a token that opens nothing is a value by itself, or none
pub scalar_taken : (depth : ℕ) (ts r : List Token) (t : Token) → ts ≡ t ∷ r → t ≢ Token.begin_array
    → t ≢ Token.begin_object
    → converted json_of_tree (value depth ts) ≡ option_map (λ j. (j, r)) (scalar_of t)
scalar_taken depth ts r t e a o =
    ap (converted json_of_tree) (ap (value depth) e ∙ value_is depth (t ∷ r)) ∙ scalar_at _ _ t r a o

pub nothing_taken : (depth : ℕ) → converted json_of_tree (value depth []) ≡ None
nothing_taken depth = ap (converted json_of_tree) (value_is depth [])

module _ (depth : ℕ) (ts r : List Token) where
  pub array_too_deep : depth ≡ 0 → ts ≡ Token.begin_array ∷ r → converted json_of_tree (value depth ts) ≡ None
  unfolding value
  array_too_deep h e = ap (converted json_of_tree) (ap₂ value h e)

  pub object_too_deep : depth ≡ 0 → ts ≡ Token.begin_object ∷ r → converted json_of_tree (value depth ts) ≡ None
  unfolding value
  object_too_deep h e = ap (converted json_of_tree) (ap₂ value h e)

  module _ (n : ℕ) where
    pub array_taken : depth ≡ suc n → ts ≡ Token.begin_array ∷ r
        → converted json_of_tree (value depth ts)
        ≡ parse_map J.array (converted items_of_tree (items (value n) (length r) r))
    unfolding value
    array_taken h e = ap (converted json_of_tree) (ap₂ value h e) ∙ converted-array (items (value n) (length r) r)

    pub object_taken : depth ≡ suc n → ts ≡ Token.begin_object ∷ r
        → converted json_of_tree (value depth ts)
        ≡ parse_map object_of (converted (λ ms. named_of_tree ms []) (members (value n) (length r) r))
    unfolding value
    object_taken h e = ap (converted json_of_tree) (ap₂ value h e) ∙ converted-object (members (value n) (length r) r)

-- which token of the program opens an array, and which an object
pub opens_array : (t : C0.Token) → token_of t ≡ Token.begin_array → t ≡ C.BeginArray
opens_array C.BeginObject e = absurd (cc)
opens_array C.EndObject e = absurd (cc)
opens_array C.BeginArray e = refl
opens_array C.EndArray e = absurd (cc)
opens_array (C.Key s) e = absurd (cc)
opens_array (C.String s) e = absurd (cc)
opens_array (C.Number s) e = absurd (cc)
opens_array (C.Bool b) e = absurd (cc)
opens_array C.Null e = absurd (cc)
opens_array C.Bad e = absurd (cc)

pub opens_object : (t : C0.Token) → token_of t ≡ Token.begin_object → t ≡ C.BeginObject
opens_object C.BeginObject e = refl
opens_object C.EndObject e = absurd (cc)
opens_object C.BeginArray e = absurd (cc)
opens_object C.EndArray e = absurd (cc)
opens_object (C.Key s) e = absurd (cc)
opens_object (C.String s) e = absurd (cc)
opens_object (C.Number s) e = absurd (cc)
opens_object (C.Bool b) e = absurd (cc)
opens_object C.Null e = absurd (cc)
opens_object C.Bad e = absurd (cc)

-- what is found of a token, with what is left
pub found_with : {V F : Type 0} (f : V → J.Json) (r : Result V F) (v : Option (J.Json × List Token)) (o : Option J.Json)
    (rest : List Token)
    → v ≡ option_map (λ j. (j, rest)) o → IfOk r (λ x. o ≡ Some (f x)) → IfOk r (λ x. v ≡ Some (f x, rest))
found_with f (Ok x) v o rest e h = e ∙ ap (option_map (λ j. (j, rest))) h
found_with f (Err y) v o rest e h = tt

pub made_with : {V F : Type 0} (f : V → J.Json) (r : Result V F) (v : Option (J.Json × List Token)) (j : J.Json)
    (rest : List Token)
    → v ≡ Some (j, rest) → IfOk r (λ x. f x ≡ j) → IfOk r (λ x. v ≡ Some (f x, rest))
made_with f (Ok x) v j rest e h = e ∙ ap (λ k. Some (k, rest)) (sym h)
made_with f (Err y) v j rest e h = tt

pub on_ok : {V F P : Type 0} (r : Result V F) → P → OnOk r P
on_ok (Ok x) p = p
on_ok (Err y) p = tt

-- ---- containers of the program

pub view-List : (l : JsonList) → view (JJ.List l) ≡ J.array (list_view l)
view-List l = search (rules, JJ.the_lemmas)

pub view-Members : (m : JsonMap) → view (JJ.Members m) ≡ J.object (map_view m)
view-Members m = search (rules, JJ.the_lemmas)

-- ---- turns

with_item : (t : T.Json) (j : J.Json) → json_of_tree t ≡ Some j → (o : Option (T.Items × List Token))
    → converted items_of_tree (parse_map (T.item t) o) ≡ parse_map (J.item j) (converted items_of_tree o)
with_item t j e None = refl
with_item t j e (Some p) = rw e (twice (J.item j) p.1 (items_of_tree p.0))

without_item : (t : T.Json) → json_of_tree t ≡ None → (o : Option (T.Items × List Token))
    → converted items_of_tree (parse_map (T.item t) o) ≡ None
without_item t e None = refl
without_item t e (Some p) = rw e

with_member : (k : List ℕ) (t : T.Json) (j : J.Json) (old : List (List ℕ × J.Json)) → json_of_tree t ≡ Some j
    → (o : Option (T.Members × List Token))
    → converted (λ ms. named_of_tree ms old) (parse_map (T.member k t) o)
    ≡ converted (λ ms. named_of_tree ms (put_named k j old)) o
with_member k t j old e None = refl
with_member k t j old e (Some p) = rw e

without_member : (k : List ℕ) (t : T.Json) (old : List (List ℕ × J.Json)) → json_of_tree t ≡ None
    → (o : Option (T.Members × List Token)) → converted (λ ms. named_of_tree ms old) (parse_map (T.member k t) o) ≡ None
without_member k t old e None = refl
without_member k t old e (Some p) = rw e

module _ (p : Parse T.Json) where
  pub item_taken : (n : ℕ) (ts r : List Token) (j : J.Json) → 0 < n → after_end_array ts ≡ None
      → converted json_of_tree (p ts) ≡ Some (j, r)
      → converted items_of_tree (items p n ts) ≡ parse_map (J.item j) (converted items_of_tree (items p (n - 1) r))
  item_taken n ts r j some going e =
      let t = converted_some json_of_tree (p ts) j r e in
      ap (converted items_of_tree) (items_more p n ts r t.0 some going t.1) ∙ with_item t.0 j t.2 _

  no_item : (more : Parse T.Items) (o : Option (T.Json × List Token)) → converted json_of_tree o ≡ None
      → converted items_of_tree (option_and_then (λ q. parse_map (T.item q.0) (more q.1)) o) ≡ None
  no_item more None e = refl
  no_item more (Some q) e = without_item q.0 (refused q.1 (json_of_tree q.0) e) (more q.1)

  pub item_refused : (n : ℕ) (ts : List Token) → after_end_array ts ≡ None → converted json_of_tree (p ts) ≡ None
      → converted items_of_tree (items p n ts) ≡ None
  unfolding items
  item_refused zero ts going e = refl
  item_refused (suc n) ts going e =
      ap (λ o. converted items_of_tree (items_step p (items p n) ts o)) going ∙ no_item (items p n) (p ts) e

  pub items_over : (n : ℕ) (ts r : List Token) → length ts ≤ n → after_end_array ts ≡ Some r
      → converted items_of_tree (items p n ts) ≡ Some (J.no_items, r)
  items_over n ts r enough e = ap (converted items_of_tree) (items_end p n ts r enough e)

  module _ (old : List (List ℕ × J.Json)) where
    pub member_taken : (n : ℕ) (k : List ℕ) (ts s r : List Token) (j : J.Json) → 0 < n
        → read_key ts ≡ Some (Some k, s) → converted json_of_tree (p s) ≡ Some (j, r)
        → converted (λ ms. named_of_tree ms old) (members p n ts)
        ≡ converted (λ ms. named_of_tree ms (put_named k j old)) (members p (n - 1) r)
    member_taken n k ts s r j some key e =
        let t = converted_some json_of_tree (p s) j r e in
        ap (converted (λ ms. named_of_tree ms old)) (members_more p n k ts s r t.0 some key t.1)
        ∙ with_member k t.0 j old t.2 _

    no_member : (k : List ℕ) (more : Parse T.Members) (o : Option (T.Json × List Token))
        → converted json_of_tree o ≡ None
        → converted (λ ms. named_of_tree ms old) (option_and_then (λ q. parse_map (T.member k q.0) (more q.1)) o) ≡ None
    no_member k more None e = refl
    no_member k more (Some q) e = without_member k q.0 old (refused q.1 (json_of_tree q.0) e) (more q.1)

    pub member_refused : (n : ℕ) (k : List ℕ) (ts s : List Token) → read_key ts ≡ Some (Some k, s)
        → converted json_of_tree (p s) ≡ None → converted (λ ms. named_of_tree ms old) (members p n ts) ≡ None
    unfolding members
    member_refused zero k ts s key e = refl
    member_refused (suc n) k ts s key e = rw key (no_member k (members p n) (p s) e)

    pub key_refused : (n : ℕ) (ts : List Token) → read_key ts ≡ None
        → converted (λ ms. named_of_tree ms old) (members p n ts) ≡ None
    key_refused n ts e = ap (converted (λ ms. named_of_tree ms old)) (members_no_key p n ts e)

    pub members_over : (n : ℕ) (ts r : List Token) → length ts ≤ n → read_key ts ≡ Some (None, r)
        → converted (λ ms. named_of_tree ms old) (members p n ts) ≡ Some (old, r)
    members_over n ts r enough e = ap (converted (λ ms. named_of_tree ms old)) (members_end p n ts r enough e)

-- ---- lists that grow at their end, and maps

-- the elements of a list of anything, before those that are still to come
module _ {V : Type 0} (f : V → J.Json) where
  abbrev pub items_before : List V → J.Items → J.Items
  items_before [] rest = rest
  items_before (v ∷ vs) rest = J.item (f v) (items_before vs rest)

  pub items_before-no_items : (vs : List V) → items_before vs J.no_items ≡ J.items_of (map f vs)
  items_before-no_items [] = refl
  items_before-no_items (v ∷ vs) = ap (J.item (f v)) (items_before-no_items vs)

  items_push : (vs : List V) (v : V) (rest : J.Items)
      → items_before vs (J.item (f v) rest) ≡ items_before (vs ++ v ∷ []) rest
  items_push [] v rest = refl
  items_push (w ∷ vs) v rest = ap (J.item (f w)) (items_push vs v rest)

  pub one_more_item : (vs : List V) (v : V) (r : Option (J.Items × List Token))
      → parse_map (items_before vs) (parse_map (J.item (f v)) r) ≡ parse_map (items_before (vs ++ v ∷ [])) r
  one_more_item vs v None = refl
  one_more_item vs v (Some p) = ap (λ ds. Some (ds, p.1)) (items_push vs v p.0)

  by_ordering : (o : Ordering) (a b c : List (String Global × V))
      → map (named_by f) (match_ordering o a b c)
      ≡ match_ordering o (map (named_by f) a) (map (named_by f) b) (map (named_by f) c)
  by_ordering Less a b c = refl
  by_ordering Equal a b c = refl
  by_ordering Greater a b c = refl

  pub named_by-insert_entry : (es : List (String Global × V)) (k : String Global) (v : V)
      → map (named_by f) (insert_entry string_cmp es k v) ≡ put_named (string_bytes k) (f v) (map (named_by f) es)
  named_by-insert_entry [] k v = refl
  named_by-insert_entry (e ∷ es) k v =
      by_ordering (string_cmp k e.0) _ _ _ ∙ rw (named_by-insert_entry es k v) refl

  pub object_of-named_by : (es : List (String Global × V))
      → object_of (map (named_by f) es) ≡ J.object (J.members_of (map (spelled_by f) es))
  object_of-named_by es = ap J.object (spelled es)
    where
      spelled : (xs : List (String Global × V))
          → J.members_of (map (λ e. (chars e.0, e.1)) (map (named_by f) xs))
          ≡ J.members_of (map (spelled_by f) xs)
      spelled [] = refl
      spelled (x ∷ xs) = ap (J.member (chars (string_bytes x.0)) (f x.1)) (spelled xs)

pub none_before : (r : Option (J.Items × List Token)) → r ≡ parse_map (λ a. a) r
none_before None = refl
none_before (Some p) = refl

-- ---- the whole text

abbrev whole : Option (T.Json × List Token) → Option R.Data
whole o = option_and_then of_json (option_and_then (λ p. if_last p.0 p.1) o)

whole_at : (o : Option (T.Json × List Token)) (t : T.Json) (j : J.Json) → o ≡ Some (t, []) → json_of_tree t ≡ Some j
    → option_map json_of (whole o) ≡ Some j
whole_at o t j e f = ap (λ x. option_map json_of (whole x)) e ∙ sym (json_of_tree-of_json t) ∙ f

unread_at : (o : Option (T.Json × List Token)) → converted json_of_tree o ≡ None → option_map json_of (whole o) ≡ None
unread_at None e = refl
unread_at (Some (t, [])) e = sym (json_of_tree-of_json t) ∙ refused [] (json_of_tree t) e
unread_at (Some (t, k ∷ r)) e = refl

module _ (text : List ℕ) where
  pub whole_read : (j : J.Json) → converted json_of_tree (value max_depth (tokens text)) ≡ Some (j, [])
      → option_map json_of (read text) ≡ Some j
  whole_read j e =
      let t = converted_some json_of_tree (value max_depth (tokens text)) j [] e in
      whole_at (value max_depth (tokens text)) t.0 j t.1 t.2

  pub whole_refused : converted json_of_tree (value max_depth (tokens text)) ≡ None
      → option_map json_of (read text) ≡ None
  whole_refused e = unread_at (value max_depth (tokens text)) e
