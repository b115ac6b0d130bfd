-- An entry names entries alone.
use Rattle.std.proofs.Common.{◌≡◌, ℕ, List, [], ◌∷◌, ◌++◌, map, length, inl, inr, true, false, ◌&&◌, nat_lt, cond, Option, Some, None, option_map, option_and_then, Result, Ok, Err, codes, refl, sym, subst, arith}
use Rattle.std.proofs.lemmas.Bool.{and_parts, and_from}
use Rattle.documents.specs.Tests.{every}
use Rattle.documents.specs.Json.{Json, boolean, string, array, object, Members, no_members, member, lookup, entries}
use Rattle.schemas.specs.Places.{Pointer, Place}
use Rattle.schemas.specs.Keyword.{Shape, Schema, SchemaOrList, SchemaList, SchemaMap, PatternMap, NeedMap, shape_of, is_list}
use Rattle.schemas.specs.SubSchemas.{members_under, unless_list, needs_under, in_list, in_value, in_member}
use Rattle.schemas.specs.Fault.{Rules}
use Rattle.schemas.specs.Walk.{root_id, place_with, place_of, object_children, children, places}
use Rattle.schemas.specs.Entry.{Form, Asks}
use Rattle.schemas.specs.Entries.{number_of, field, one_number, list_numbers, items_part, named_numbers, needs_of, all_needs, rest_number, keywords_of, referred_form, reference_form, object_form, form_at}
use Rattle.schemas.specs.Schema.{lists, one, all, of_items, of_names, of_need, of_needs, in_place, of_parts, names_below}
use Rattle.list_laws.specs.In.{IsIn}
use Rattle.schema_laws.specs.Sound.{IsSound}
use Rattle.schema_laws.proofs.Shapes.{IsShaped, is_shaped, read_shape-of}
use Rattle.schema_laws.proofs.KeywordLaws.{keyword-children}
use Rattle.schema_laws.proofs.Numbers.{number_of-below}
use Rattle.schema_laws.proofs.Walks.{all_places}

-- all of some numbers are below n
record AreBelow (n : ℕ) (es : List ℕ) : Type 0 where
  are : every (λ e. nat_lt e n) es ≡ true

none_below : {n : ℕ} → AreBelow n []
none_below = record { are = refl }

one_below : {n e : ℕ} → nat_lt e n ≡ true → AreBelow n (e ∷ [])
one_below {n = n} {e = e} h = record { are = and_from (nat_lt e n) true h refl }

one_more : {n e : ℕ} {es : List ℕ} → nat_lt e n ≡ true → AreBelow n es → AreBelow n (e ∷ es)
one_more {n = n} {e = e} {es = es} h rest = record {
  are = and_from (nat_lt e n) (every (λ i. nat_lt i n) es) h rest.are;
}

below_append : (n : ℕ) (es fs : List ℕ) → AreBelow n es → AreBelow n fs → AreBelow n (es ++ fs)
below_append n [] fs h k = k
below_append n (e ∷ es) fs h k =
    let both = and_parts (nat_lt e n) (every (λ i. nat_lt i n) es) h.are in
    one_more both.0 (below_append n es fs (record { are = both.1 }) k)

and_below : {n : ℕ} {es fs : List ℕ} → AreBelow n es → AreBelow n fs → AreBelow n (es ++ fs)
and_below {n = n} {es = es} {fs = fs} h k = below_append n es fs h k

-- ---- the schemas of a keyword's value

module _ (entry_of : Pointer → ℕ) (n : ℕ) where
  -- the places have numbers below n
  abbrev Lead : List Place → Type 0
  Lead cs = (d : Place) → IsIn d cs → nat_lt (entry_of d.0) n ≡ true

  places_below : (cs : List Place) → Lead cs → AreBelow n (map (λ c. entry_of c.0) cs)
  places_below [] h = none_below
  places_below (c ∷ cs) h = one_more (h c (inl refl)) (places_below cs (λ d i. h d (inr i)))

  module _ (p : Pointer) (k : List ℕ) where
    abbrev at : Pointer
    at = p ++ k ∷ []

    one_leads : (v : Json) → Lead (in_value Schema at v) → AreBelow n (one (one_number entry_of p k v))
    one_leads v h = one_below (h (at, v) (inl refl))

    list_leads : (v : Json) → Lead (in_list at v) → AreBelow n (all (list_numbers entry_of p k v))
    list_leads v h = places_below (in_list at v) h

    items_lead : (v : Json) → Lead (in_value SchemaOrList at v) → AreBelow n (of_items (items_part entry_of p k v))
    items_lead (array vs) h = list_leads (array vs) h
    items_lead v h = one_below (h (at, v) (inl refl))

    names_below_n : (ms : Members) → Lead (members_under at ms)
        → AreBelow n (of_names (map (λ m. (m.0, entry_of (at ++ m.0 ∷ []))) (entries ms)))
    names_below_n no_members h = none_below
    names_below_n (member w v ms) h =
        one_more (h (at ++ w ∷ [], v) (inl refl)) (names_below_n ms (λ d i. h d (inr i)))

    names_lead : (v : Json) → Lead (in_value SchemaMap at v) → AreBelow n (of_names (named_numbers entry_of p k v))
    names_lead (object ms) h = names_below_n ms h
    names_lead _ h = none_below

    need_below : (w : List ℕ) (v : Json) (cs : List Place) (es : List ℕ) → Lead (unless_list (at ++ w ∷ []) v cs)
        → (Lead cs → AreBelow n es) → AreBelow n (of_need (needs_of entry_of p k (w, v)) es)
    need_below w (array vs) cs es h rest = rest h
    need_below w v cs es h rest = one_more (h (at ++ w ∷ [], v) (inl refl)) (rest (λ d i. h d (inr i)))

    needs_below : (ms : Members) → Lead (needs_under at ms)
        → AreBelow n (of_needs (map (λ m. (m.0, needs_of entry_of p k m)) (entries ms)))
    needs_below no_members h = none_below
    needs_below (member w v ms) h = need_below w v (needs_under at ms) _ h (needs_below ms)

    needs_lead : (v : Json) → Lead (in_value NeedMap at v) → AreBelow n (of_needs (all_needs entry_of p k v))
    needs_lead (object ms) h = needs_below ms h
    needs_lead _ h = none_below

-- ---- the entries of places

module _ {P R : Type 0} (rules : Rules P R) (root : Json) where
  abbrev entry_of : Pointer → ℕ
  entry_of = number_of (places rules root)

  abbrev many : ℕ
  many = length (places rules root)

  -- what a place leads to is numbered
  child_numbered : (c d : Place) → IsIn c (places rules root) → IsIn d (children rules root c)
      → nat_lt (entry_of d.0) many ≡ true
  child_numbered c d i k =
      let all = all_places rules root in
      let less = number_of-below (places rules root) d.0 (all.closed c d i k) in
      grind (arith, less)

  module _ (p : Pointer) (ms : Members)
      (here : IsIn (p, object ms) (places rules root)) (plain : lookup (codes "$ref") ms ≡ None) where
    keyword_leads : (k : List ℕ) (S : Shape) (v : Json) → IsShaped k S → lookup k ms ≡ Some v
        → Lead entry_of many (in_value S (p ++ k ∷ []) v)
    keyword_leads k S v is h d i =
        child_numbered (p, object ms) d here (keyword-children rules root p ms k v d plain h
        (subst (λ o. IsIn d (in_member o (p ++ k ∷ []) v)) (sym (read_shape-of ms k S is)) i))

    field_leads : {A : Type 0} (numbers : A → List ℕ) (make : List ℕ → Json → A) (k : List ℕ) (S : Shape) → IsShaped k S
        → ((v : Json) → Lead entry_of many (in_value S (p ++ k ∷ []) v) → AreBelow many (numbers (make k v)))
        → AreBelow many (lists numbers (field ms k make))
    field_leads numbers make k S is below = go (lookup k ms) refl
      where
        go : (o : Option Json) → lookup k ms ≡ o → AreBelow many (lists numbers (option_map (make k) o))
        go None h = none_below
        go (Some v) h = below v (keyword_leads k S v is h)

    abbrev asked : Form
    asked = Asks (keywords_of entry_of p ms)

    in_place_numbered : AreBelow many (in_place asked)
    unfolding shape_of
    in_place_numbered =
        let all_of = field_leads all (list_numbers entry_of p) (codes "allOf") SchemaList
        (is_shaped refl refl refl) (list_leads entry_of many p (codes "allOf")) in
        let any_of = field_leads all (list_numbers entry_of p) (codes "anyOf") SchemaList
        (is_shaped refl refl refl) (list_leads entry_of many p (codes "anyOf")) in
        let one_of = field_leads all (list_numbers entry_of p) (codes "oneOf") SchemaList
        (is_shaped refl refl refl) (list_leads entry_of many p (codes "oneOf")) in
        let not = field_leads one (one_number entry_of p) (codes "not") Schema
        (is_shaped refl refl refl) (one_leads entry_of many p (codes "not")) in
        let needs = field_leads of_needs (all_needs entry_of p) (codes "dependencies") NeedMap
        (is_shaped refl refl refl)
        (needs_lead entry_of many p (codes "dependencies")) in
        and_below (and_below (and_below (and_below all_of any_of) one_of) not) needs

    -- `additionalItems` is there only beside a list
    rest_numbered : AreBelow many (lists one (option_and_then
        (rest_number entry_of p (lookup (codes "items") ms) (codes "additionalItems"))
        (lookup (codes "additionalItems") ms)))
    unfolding shape_of
    rest_numbered = go (lookup (codes "items") ms) (lookup (codes "additionalItems") ms) refl refl
      where
        go : (items o : Option Json) → lookup (codes "items") ms ≡ items → lookup (codes "additionalItems") ms ≡ o
            → AreBelow many (lists one (option_and_then (rest_number entry_of p items (codes "additionalItems")) o))
        go items None e h = none_below
        go (Some (array vs)) (Some v) e h =
            one_below (child_numbered (p, object ms) (p ++ codes "additionalItems" ∷ [], v) here
            (keyword-children rules root p ms (codes "additionalItems") v (p ++ codes "additionalItems" ∷ [], v) plain h
            (subst (λ i. IsIn (p ++ codes "additionalItems" ∷ [], v)
            (in_member (cond (is_list i) (Some Schema) None) (p ++ codes "additionalItems" ∷ []) v)) (sym e)
            (inl refl))))
        go _ (Some v) e h = none_below

    of_parts_numbered : AreBelow many (of_parts asked)
    unfolding shape_of
    of_parts_numbered =
        let items = field_leads of_items (items_part entry_of p) (codes "items") SchemaOrList
        (is_shaped refl refl refl) (items_lead entry_of many p (codes "items")) in
        let contains = field_leads one (one_number entry_of p) (codes "contains") Schema
        (is_shaped refl refl refl) (one_leads entry_of many p (codes "contains")) in
        let properties = field_leads of_names (named_numbers entry_of p) (codes "properties") SchemaMap
        (is_shaped refl refl refl)
        (names_lead entry_of many p (codes "properties")) in
        let patterns = field_leads of_names (named_numbers entry_of p) (codes "patternProperties") PatternMap
        (is_shaped refl refl refl)
        (names_lead entry_of many p (codes "patternProperties")) in
        let others = field_leads one (one_number entry_of p) (codes "additionalProperties") Schema
        (is_shaped refl refl refl)
        (one_leads entry_of many p (codes "additionalProperties")) in
        let named = field_leads one (one_number entry_of p) (codes "propertyNames") Schema
        (is_shaped refl refl refl)
        (one_leads entry_of many p (codes "propertyNames")) in
        and_below (and_below (and_below (and_below (and_below (and_below items rest_numbered) contains) properties)
        patterns) others) named

    asked_below : names_below many asked ≡ true
    asked_below =
        and_from (every (λ e. nat_lt e many) (in_place asked)) (every (λ e. nat_lt e many) (of_parts asked))
        in_place_numbered.are of_parts_numbered.are

  module _ (sound : IsSound rules root) where
    target_numbered : (p q : Pointer) (ms : Members) (w : List ℕ) → IsIn (p, object ms) (places rules root)
        → lookup (codes "$ref") ms ≡ Some (string w) → rules.target root w (root_id root) ≡ Ok q
        → nat_lt (entry_of q) many ≡ true
    target_numbered p q ms w here h to =
        let there = sound.leads w q to in
        child_numbered (p, object ms) (q, there.0) here
        (subst (λ o. IsIn (q, there.0) (object_children rules root o p ms)) (sym h)
        (subst (λ t. IsIn (q, there.0) (place_of root t)) (sym to)
        (subst (λ u. IsIn (q, there.0) (place_with q u)) (sym there.1) (inl refl))))

    referred_below : (r : Result Pointer R) → ((q : Pointer) → r ≡ Ok q → nat_lt (entry_of q) many ≡ true)
        → names_below many (referred_form rules root entry_of r) ≡ true
    referred_below (Ok q) h =
        and_from (nat_lt (entry_of q) many && true) true (and_from (nat_lt (entry_of q) many) true (h q refl) refl) refl
    referred_below (Err e) h = refl

    reference_below : (p : Pointer) (ms : Members) (v : Json) → IsIn (p, object ms) (places rules root)
        → lookup (codes "$ref") ms ≡ Some v → names_below many (reference_form rules root entry_of v) ≡ true
    reference_below p ms (string w) here h =
        referred_below (rules.target root w (root_id root)) (λ q. target_numbered p q ms w here h)
    reference_below p ms _ here h = refl

    object_below : (r : Option Json) (p : Pointer) (ms : Members) → IsIn (p, object ms) (places rules root)
        → lookup (codes "$ref") ms ≡ r → names_below many (object_form rules root entry_of r p ms) ≡ true
    object_below (Some v) p ms here h = reference_below p ms v here h
    object_below None p ms here h = asked_below p ms here h

    -- the entry of each place names entries alone
    pub form_below : (c : Place) → IsIn c (places rules root) → names_below many (form_at rules root entry_of c) ≡ true
    form_below (p, object ms) here = object_below (lookup (codes "$ref") ms) p ms here refl
    form_below (p, boolean true) here = refl
    form_below (p, boolean false) here = refl
    form_below (p, _) here = refl
