-- What a form asks of a document depends only on what the entries that it names in place say of the document, and on
-- what those that it names for parts say of lesser documents.
use Rattle.std.proofs.Common.{◌≡◌, ℕ, ◌<◌, List, [], ◌∷◌, ◌++◌, length, drop, Bool, ◌&&◌, ◌||◌, not, Option, Some, None, refl, ap, arith}
use Rattle.std.specs.List.{AllByRecursion}
use Rattle.documents.specs.Tests.{every, some, same_word}
use Rattle.documents.specs.Document.{Document, null, boolean, number, string, array, object, elements, entries, depth}
use Rattle.documents.specs.Measures.{meets_in_order, has_name, every_in}
use Rattle.levels.proofs.LevelsLaws.{weaker}
use Rattle.schemas.specs.Entry.{ItemsPart, Each, Listed, Needs, Names, Whole, Keywords, Form, Always, Never, Ref, Asks}
use Rattle.schemas.specs.Schema.{lists, meets, one, all, of_items, of_names, of_needs, in_place, of_parts}
use Rattle.draft06.specs.Names.{keys, is_additional}
use Rattle.draft06.specs.EntryValidity.{items_ask, rest_asks, need_asks, asks_any, asks_array, asks_object, asks_keywords, asks}
use Rattle.draft06_laws.proofs.Lists.{both, every_same, some_same, exactly_one_same, all_drop, all_halves, there_same, elements_below, entries_below}

-- what holds of all entries that are named in place, keyword by keyword
pub record InPlace (P : ℕ → Type 0) (k : Keywords) : Type 0 where
  pub all_of : AllByRecursion P (lists all k.all_of)
  pub any_of : AllByRecursion P (lists all k.any_of)
  pub one_of : AllByRecursion P (lists all k.one_of)
  pub negated : AllByRecursion P (lists one k.not)
  pub dependencies : AllByRecursion P (lists of_needs k.dependencies)

pub in_place_of : (P : ℕ → Type 0) (k : Keywords) → AllByRecursion P (in_place (Asks k)) → InPlace P k
in_place_of P k h =
    let four = lists all k.all_of ++ lists all k.any_of ++ lists all k.one_of ++ lists one k.not in
    let last = all_halves P four (lists of_needs k.dependencies) h in
    let three = lists all k.all_of ++ lists all k.any_of ++ lists all k.one_of in
    let fourth = all_halves P three (lists one k.not) last.0 in
    let third = all_halves P (lists all k.all_of ++ lists all k.any_of) (lists all k.one_of) fourth.0 in
    let second = all_halves P (lists all k.all_of) (lists all k.any_of) third.0 in
    record {
      all_of = second.0;
      any_of = second.1;
      one_of = third.1;
      negated = fourth.1;
      dependencies = last.1;
    }

-- a property of all entries that are named for parts
pub record OfParts (P : ℕ → Type 0) (k : Keywords) : Type 0 where
  pub items : AllByRecursion P (lists of_items k.items)
  pub additional_items : AllByRecursion P (lists one k.additional_items)
  pub contains : AllByRecursion P (lists one k.contains)
  pub properties : AllByRecursion P (lists of_names k.properties)
  pub pattern_properties : AllByRecursion P (lists of_names k.pattern_properties)
  pub additional_properties : AllByRecursion P (lists one k.additional_properties)
  pub property_names : AllByRecursion P (lists one k.property_names)

pub of_parts_of : (P : ℕ → Type 0) (k : Keywords) → AllByRecursion P (of_parts (Asks k)) → OfParts P k
of_parts_of P k h =
    let two = lists of_items k.items ++ lists one k.additional_items in
    let three = two ++ lists one k.contains in
    let four = three ++ lists of_names k.properties in
    let five = four ++ lists of_names k.pattern_properties in
    let six = five ++ lists one k.additional_properties in
    let seventh = all_halves P six (lists one k.property_names) h in
    let sixth = all_halves P five (lists one k.additional_properties) seventh.0 in
    let fifth = all_halves P four (lists of_names k.pattern_properties) sixth.0 in
    let fourth = all_halves P three (lists of_names k.properties) fifth.0 in
    let third = all_halves P two (lists one k.contains) fourth.0 in
    let second = all_halves P (lists of_items k.items) (lists one k.additional_items) third.0 in
    record {
      items = second.0;
      additional_items = second.1;
      contains = third.1;
      properties = fourth.1;
      pattern_properties = fifth.1;
      additional_properties = sixth.1;
      property_names = seventh.1;
    }

module _ (matches : List ℕ → List ℕ → Bool) (here here' : ℕ → Bool) (below below' : ℕ → Document → Bool) where
  -- the entry says the same of the document
  abbrev pub Here : ℕ → Type 0
  Here e = here e ≡ here' e

  -- and of documents of lesser depth than n
  abbrev pub Below : ℕ → ℕ → Type 0
  Below n e = (K : Document) → depth K < n → below e K ≡ below' e K

  not_same : (o : Option ℕ) → AllByRecursion Here (lists one o)
      → meets (λ e. not (here e)) o ≡ meets (λ e. not (here' e)) o
  not_same = there_same Here one _ _ (λ e h. ap not h.0)

  -- ---- elements

  module _ (n : ℕ) (ds : List Document) (less : AllByRecursion (λ d. depth d < n) ds) where
    on_each : (e : ℕ) → Below n e → AllByRecursion (λ d. below e d ≡ below' e d) ds
    on_each e b = weaker (λ d. depth d < n) _ ds b less

    every_element : (e : ℕ) → Below n e → every (below e) ds ≡ every (below' e) ds
    every_element e b = every_same (below e) (below' e) ds (on_each e b)

    some_element : (e : ℕ) → Below n e → some (below e) ds ≡ some (below' e) ds
    some_element e b = some_same (below e) (below' e) ds (on_each e b)

    later_element : (m e : ℕ) → Below n e → every (below e) (drop m ds) ≡ every (below' e) (drop m ds)
    later_element m e b = every_same (below e) (below' e) (drop m ds) (all_drop _ m ds (on_each e b))

    rest_same : (items : Option ItemsPart) (e : ℕ) → Below n e
        → rest_asks below items e ds ≡ rest_asks below' items e ds
    rest_same None e b = refl
    rest_same (Some (Each f)) e b = refl
    rest_same (Some (Listed es)) e b = later_element (length es) e b

  in_order_same : (n : ℕ) (es : List ℕ) (ds : List Document) → AllByRecursion (Below n) es
      → AllByRecursion (λ d. depth d < n) ds → meets_in_order below es ds ≡ meets_in_order below' es ds
  in_order_same n [] ds b less = refl
  in_order_same n (e ∷ es) [] b less = refl
  in_order_same n (e ∷ es) (d ∷ ds) b less = both (b.0 d less.0) (in_order_same n es ds b.1 less.1)

  items_same : (n : ℕ) (ds : List Document) → AllByRecursion (λ d. depth d < n) ds → (s : ItemsPart)
      → AllByRecursion (Below n) (of_items s) → items_ask below s ds ≡ items_ask below' s ds
  items_same n ds less (Each e) b = every_element n ds less e b.0
  items_same n ds less (Listed es) b = in_order_same n es ds b less

  -- ---- members

  module _ (n : ℕ) (ms : List (List ℕ × Document)) (less : AllByRecursion (λ m. depth m.1 < n) ms)
      (some_depth : 0 < n) where
    every_in_same : (set : List ℕ → Bool) (e : ℕ) → Below n e
        → every_in set (below e) ms ≡ every_in set (below' e) ms
    every_in_same set e b =
        every_same _ _ ms (weaker (λ m. depth m.1 < n) _ ms (λ m l. ap (λ x. not (set m.0) || x) (b m.1 l)) less)

    names_same : (set : List ℕ → List ℕ → Bool) (ps : List (List ℕ × ℕ)) → AllByRecursion (Below n) (of_names ps)
        → every (λ p. every_in (set p.0) (below p.1) ms) ps ≡ every (λ p. every_in (set p.0) (below' p.1) ms) ps
    names_same set [] b = refl
    names_same set (p ∷ ps) b = both (every_in_same (set p.0) p.1 b.0) (names_same set ps b.1)

    named_same : (e : ℕ) → Below n e
        → every (λ (m : List ℕ × Document). below e (string m.0)) ms
        ≡ every (λ (m : List ℕ × Document). below' e (string m.0)) ms
    named_same e b = every_same _ _ ms (weaker (λ m. depth m.1 < n) _ ms (λ m l. b (string m.0) some_depth) less)

  needs_same : (ms : List (List ℕ × Document)) (ns : List (List ℕ × Needs)) → AllByRecursion Here (of_needs ns)
      → every (λ n. not (has_name n.0 ms) || need_asks here n.1 ms) ns
      ≡ every (λ n. not (has_name n.0 ms) || need_asks here' n.1 ms) ns
  needs_same ms [] h = refl
  needs_same ms ((w, Names ws) ∷ ns) h =
      ap (λ b. (not (has_name w ms) || every (λ v. has_name v ms) ws) && b) (needs_same ms ns h)
  needs_same ms ((w, Whole e) ∷ ns) h = both (ap (λ b. not (has_name w ms) || b) h.0) (needs_same ms ns h.1)

  -- ---- keywords

  module _ (k : Keywords) (h : InPlace Here k) where
    any_same : (J : Document) → asks_any matches here below k J ≡ asks_any matches here' below' k J
    any_same J =
        both (both (both (both refl (there_same Here all _ _ (every_same here here') k.all_of h.all_of))
        (there_same Here all _ _ (some_same here here') k.any_of h.any_of))
        (there_same Here all _ _ (exactly_one_same here here') k.one_of h.one_of)) (not_same k.not h.negated)

    array_same : (n : ℕ) (ds : List Document) → AllByRecursion (λ d. depth d < n) ds → OfParts (Below n) k
        → asks_array matches here below k ds ≡ asks_array matches here' below' k ds
    array_same n ds less b =
        both (both (both (both (there_same (Below n) of_items _ _ (items_same n ds less) k.items b.items)
        (there_same (Below n) one _ _ (λ e c. rest_same n ds less k.items e c.0) k.additional_items b.additional_items))
        refl) refl)
        (there_same (Below n) one _ _ (λ e c. some_element n ds less e c.0) k.contains b.contains)

    object_same : (n : ℕ) (ms : List (List ℕ × Document)) → AllByRecursion (λ m. depth m.1 < n) ms → 0 < n
        → OfParts (Below n) k → asks_object matches here below k ms ≡ asks_object matches here' below' k ms
    object_same n ms less some_depth b =
        both (both (both (both (both refl
        (there_same (Below n) of_names _ _ (names_same n ms less some_depth same_word) k.properties b.properties))
        (there_same (Below n) of_names _ _ (names_same n ms less some_depth matches) k.pattern_properties
        b.pattern_properties))
        (there_same (Below n) one _ _ (λ e c. every_in_same n ms less some_depth
        (is_additional matches (keys k.properties) (keys k.pattern_properties)) e c.0) k.additional_properties
        b.additional_properties))
        (there_same Here of_needs _ _ (needs_same ms) k.dependencies h.dependencies))
        (there_same (Below n) one _ _ (λ e c. named_same n ms less some_depth e c.0) k.property_names b.property_names)

    keywords_same : (J : Document) → OfParts (Below (depth J)) k
        → asks_keywords matches here below k J ≡ asks_keywords matches here' below' k J
    keywords_same null b = both (both (both (both (any_same null) refl) refl) refl) refl
    keywords_same (boolean c) b = both (both (both (both (any_same (boolean c)) refl) refl) refl) refl
    keywords_same (number n) b = both (both (both (both (any_same (number n)) refl) refl) refl) refl
    keywords_same (string w) b = both (both (both (both (any_same (string w)) refl) refl) refl) refl
    keywords_same (array ds) b =
        both (both (both (both (any_same (array ds)) refl) refl)
        (array_same (depth (array ds)) (elements ds) (elements_below (depth (array ds)) ds (omega arith)) b)) refl
    keywords_same (object ms) b =
        both (both (both (both (any_same (object ms)) refl) refl) refl)
        (object_same (depth (object ms)) (entries ms) (entries_below (depth (object ms)) ms (omega arith)) (omega arith)
        b)

  -- where entries say the same in place and below the document's depth, a form asks the same of the document
  pub asks_same : (f : Form) (J : Document) → AllByRecursion Here (in_place f)
      → AllByRecursion (Below (depth J)) (of_parts f)
      → asks matches here below f J ≡ asks matches here' below' f J
  asks_same Always J h b = refl
  asks_same Never J h b = refl
  asks_same (Ref e) J h b = h.0
  asks_same (Asks k) J h b = keywords_same k (in_place_of Here k h) J (of_parts_of (Below (depth J)) k b)
