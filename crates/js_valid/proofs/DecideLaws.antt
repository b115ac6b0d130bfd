-- What is known of all parts is what the form asks of them.
use Rattle.std.proofs.Common.{◌≡◌, ℕ, zero, suc, ◌+◌, ◌<◌, ◌≤◌, List, [], ◌∷◌, ◌++◌, map, take, drop, drop-cons, add-one, length, get_or, Bool, true, false, ◌||◌, ◌&&◌, not, cond, Option, Some, None, refl, sym, ap, ◌∙◌, arith, true≢false}
use Rattle.std.proofs.lemmas.List.{length-append, length-drop, length-map, length-take, map-append}
use Rattle.documents.specs.Tests.{every, some, same_word}
use Rattle.documents.specs.Document.{Document, null, boolean, number, string, array, object, Items, Members, elements, entries}
use Rattle.documents.specs.Measures.{meets_in_order, every_in}
use Rattle.schemas.specs.Entry.{Form, Always, Never, Ref, Asks, ItemsPart, Each, Listed, Keywords}
use Rattle.schemas.specs.Schema.{lists, meets, one}
use Rattle.list_laws.proofs.Tests.{same_word_comm}
use Rattle.draft06.specs.Names.{keys, is_additional}
use Rattle.draft06.specs.EntryValidity.{items_ask, rest_asks}
use Rattle.js_valid.specs.Parts.{parts, parts_array, parts_object, asked_by, answered, of_listed, of_items_part, of_element, of_contains, of_named, of_names, or_else, of_member, of_name}
use Rattle.js_match.specs.Matching.{matches}
use Rattle.js_valid.specs.Requests.{each_at, contained, entries_in, parts_list, parts_members}
use Rattle.js_valid.specs.declared.request.Request.{Request}
use Rattle.js_valid.proofs.PartsLaws.{both, every-append, every-named}
use Rattle.js_valid.specs.Plain.{is_scalar}
use Rattle.js_valid.proofs.RequestLaws.{answered-asked, entries-long}
use Rattle.js_valid.proofs.TestLaws.{every-alike}

and_true : (a : Bool) → (a && true) ≡ a
and_true true = refl
and_true false = refl

and_false : (a : Bool) → (a && false) ≡ false
and_false true = refl
and_false false = refl

and_assoc : (a b c : Bool) → ((a && b) && c) ≡ (a && (b && c))
and_assoc true b c = refl
and_assoc false b c = refl

every-always : {A : Type 0} (xs : List A) → every (λ (x : A). true) xs ≡ true
every-always [] = refl
every-always (x ∷ xs) = every-always xs

every-two : {A : Type 0} (p q : A → Bool) (xs : List A) → every (λ x. p x && q x) xs ≡ (every p xs && every q xs)
every-two p q [] = refl
every-two p q (x ∷ xs) = ap (λ b. (p x && q x) && b) (every-two p q xs) ∙ swap (p x) (q x) (every p xs) (every q xs)
  where
    swap : (a b c d : Bool) → ((a && b) && (c && d)) ≡ ((a && c) && (b && d))
    swap a b c d = grind arith

-- ---- elements

module _ (below : ℕ → Document → Bool) where
  each_at-shift : (test : ℕ → Document → Bool) (i : ℕ) (ds : List Document)
      → each_at test (suc i) ds ≡ each_at (λ k. test (suc k)) i ds
  each_at-shift test i [] = refl
  each_at-shift test i (d ∷ ds) = ap (λ b. test (suc i) d && b) (each_at-shift test (suc i) ds)

  each_at-same : (test : Document → Bool) (i : ℕ) (ds : List Document) → each_at (λ k. test) i ds ≡ every test ds
  each_at-same test i [] = refl
  each_at-same test i (d ∷ ds) = ap (λ b. test d && b) (each_at-same test (suc i) ds)

  listed-ask : (es rest : List ℕ) (ds : List Document)
      → each_at (λ i d. every (λ q. below q d) (of_listed es rest i)) 0 ds
      ≡ (meets_in_order below es ds && every (λ d. every (λ q. below q d) rest) (drop (length es) ds))
  listed-ask [] rest ds = each_at-same (λ d. every (λ q. below q d) rest) 0 ds
  listed-ask (e ∷ es) rest [] = refl
  listed-ask (e ∷ es) rest (d ∷ ds) =
      ap (λ b. (below e d && true) && b) (each_at-shift (λ i d. every (λ q. below q d) (of_listed (e ∷ es) rest i)) 0 ds
      ∙ listed-ask es rest ds)
      ∙ ap (λ b. b && (meets_in_order below es ds && every (λ d. every (λ q. below q d) rest) (drop (length es) ds)))
      (and_true (below e d))
      ∙ sym (and_assoc (below e d) (meets_in_order below es ds)
      (every (λ d. every (λ q. below q d) rest) (drop (length es) ds)))

  single : (e : ℕ) (ds : List Document) → every (λ d. every (λ q. below q d) (e ∷ [])) ds ≡ every (below e) ds
  single e ds = every-alike (λ d. below e d && true) (below e) ds (λ d. and_true (below e d))

  rest-ask : (es : List ℕ) (rest : Option ℕ) (ds : List Document)
      → every (λ d. every (λ q. below q d) (lists one rest)) (drop (length es) ds)
      ≡ meets (λ e. rest_asks below (Some (Listed es)) e ds) rest
  rest-ask es None ds = every-always (drop (length es) ds)
  rest-ask es (Some e) ds = single e (drop (length es) ds)

  pub elements-ask : (items : Option ItemsPart) (rest : Option ℕ) (ds : List Document)
      → each_at (λ i d. every (λ q. below q d) (of_items_part items rest i)) 0 ds
      ≡ (meets (λ s. items_ask below s ds) items && meets (λ e. rest_asks below items e ds) rest)
  elements-ask None None ds = each_at-same (λ d. true) 0 ds ∙ every-always ds
  elements-ask None (Some e) ds = each_at-same (λ d. true) 0 ds ∙ every-always ds
  elements-ask (Some (Each e)) None ds =
      each_at-same (λ d. below e d && true) 0 ds ∙ single e ds ∙ sym (and_true (every (below e) ds))
  elements-ask (Some (Each e)) (Some f) ds =
      each_at-same (λ d. below e d && true) 0 ds ∙ single e ds ∙ sym (and_true (every (below e) ds))
  elements-ask (Some (Listed es)) rest ds =
      listed-ask es (lists one rest) ds ∙ ap (λ b. meets_in_order below es ds && b) (rest-ask es rest ds)

  -- `contains` is met where not all elements fail it
  some-unless : (e : ℕ) (ds : List Document) → some (below e) ds ≡ not (every (λ d. not (below e d) && true) ds)
  some-unless e [] = refl
  some-unless e (d ∷ ds) = go (below e d) (some-unless e ds)
    where
      go : (b : Bool) → some (below e) ds ≡ not (every (λ d. not (below e d) && true) ds)
          → (b || some (below e) ds) ≡ not ((not b && true) && every (λ d. not (below e d) && true) ds)
      go true h = refl
      go false h = h

  -- ---- members

  abbrev no_entries : List ℕ → Bool
  no_entries [] = true
  no_entries (q ∷ qs) = false

  no-append : (xs ys : List ℕ) → no_entries (xs ++ ys) ≡ (no_entries xs && no_entries ys)
  no-append [] ys = refl
  no-append (x ∷ xs) ys = refl

  no-named : (test turned : List ℕ → Bool) → ((w : List ℕ) → turned w ≡ test w) → (ps : List (List ℕ × ℕ))
      → not (some turned (map (λ m. m.0) ps)) ≡ no_entries (of_named test ps)
  no-named test turned h [] = refl
  no-named test turned h (p ∷ ps) = go (test p.0) refl (no-named test turned h ps)
    where
      go : (b : Bool) → test p.0 ≡ b → not (some turned (map (λ m. m.0) ps)) ≡ no_entries (of_named test ps)
          → not (turned p.0 || some turned (map (λ m. m.0) ps)) ≡ no_entries (cond (test p.0) (p.1 ∷ of_named test ps)
          (of_named test ps))
      go true e r = rw (h p.0, e) refl
      go false e r = rw (h p.0, e) r

  no-named-in : (test turned : List ℕ → Bool) → ((w : List ℕ) → turned w ≡ test w) → (o : Option (List (List ℕ × ℕ)))
      → not (some turned (keys o)) ≡ no_entries (lists (of_named test) o)
  no-named-in test turned h None = refl
  no-named-in test turned h (Some ps) = no-named test turned h ps

  additional-ask : (k : Keywords) (w : List ℕ) (d : Document)
      → every (λ q. below q d) (or_else (of_names matches k w) (lists one k.additional_properties))
      ≡ (every (λ q. below q d) (of_names matches k w)
      && meets (λ e. not (is_additional matches (keys k.properties) (keys k.pattern_properties) w) || below e d)
      k.additional_properties)
  additional-ask k w d = go (of_names matches k w) (is_additional matches (keys k.properties)
      (keys k.pattern_properties) w)
      k.additional_properties
      (both (no-named-in (λ n. same_word n w) (same_word w) (λ n. same_word_comm w n) k.properties)
      (no-named-in (λ t. matches t w) (λ t. matches t w) (λ t. refl) k.pattern_properties)
      ∙ sym (no-append (lists (of_named (λ n. same_word n w)) k.properties)
      (lists (of_named (λ t. matches t w)) k.pattern_properties)))
    where
      go : (qs : List ℕ) (free : Bool) (rest : Option ℕ) → free ≡ no_entries qs
          → every (λ q. below q d) (or_else qs (lists one rest))
          ≡ (every (λ q. below q d) qs && meets (λ e. not free || below e d) rest)
      go [] free None h = refl
      go [] free (Some e) h = and_true (below e d) ∙ sym (ap (λ b. not b || below e d) h)
      go (q ∷ qs) free None h = sym (and_true (below q d && every (λ r. below r d) qs))
      go (q ∷ qs) free (Some e) h =
          sym (ap (λ b. (below q d && every (λ r. below r d) qs) && (not b || below e d)) h
          ∙ and_true (below q d && every (λ r. below r d) qs))

  named-ask : (test : List ℕ → List ℕ → Bool) (o : Option (List (List ℕ × ℕ))) (ms : List (List ℕ × Document))
      → every (λ m. every (λ q. below q m.1) (lists (of_named (λ n. test n m.0)) o)) ms
      ≡ meets (every (λ p. every_in (test p.0) (below p.1) ms)) o
  named-ask test None ms = every-always ms
  named-ask test (Some ps) ms = sym (every-named below test ps ms)

  others-ask : (set : List ℕ → Bool) (o : Option ℕ) (ms : List (List ℕ × Document))
      → every (λ m. meets (λ e. not (set m.0) || below e m.1) o) ms ≡ meets (λ e. every_in set (below e) ms) o
  others-ask set None ms = every-always ms
  others-ask set (Some e) ms = refl

  words-ask : (o : Option ℕ) (ms : List (List ℕ × Document))
      → every (λ m. every (λ q. below q (string m.0)) (lists one o)) ms
      ≡ meets (λ e. every (λ (m : List ℕ × Document). below e (string m.0)) ms) o
  words-ask None ms = every-always ms
  words-ask (Some e) ms = every-alike _ _ ms (λ m. and_true (below e (string m.0)))

  pub members-ask : (k : Keywords) (ms : List (List ℕ × Document))
      → every (λ m. every (λ q. below q m.1) (or_else (of_names matches k m.0) (lists one k.additional_properties))
      && every (λ q. below q (string m.0)) (lists one k.property_names)) ms
      ≡ parts_object matches below k ms
  members-ask k ms =
      every-two (λ m. every (λ q. below q m.1) (or_else (of_names matches k m.0) (lists one k.additional_properties)))
      (λ m. every (λ q. below q (string m.0)) (lists one k.property_names)) ms
      ∙ both (every-alike _ _ ms (λ m. additional-ask k m.0 m.1)
      ∙ every-two (λ m. every (λ q. below q m.1) (of_names matches k m.0))
      (λ m. meets (λ e. not (is_additional matches (keys k.properties) (keys k.pattern_properties) m.0) || below e m.1)
      k.additional_properties) ms
      ∙ both (every-alike _ _ ms (λ m. every-append (λ q. below q m.1) (lists (of_named
      (λ n. same_word n m.0)) k.properties)
      (lists (of_named (λ t. matches t m.0)) k.pattern_properties))
      ∙ every-two (λ m. every (λ q. below q m.1) (lists (of_named (λ n. same_word n m.0)) k.properties))
      (λ m. every (λ q. below q m.1) (lists (of_named (λ t. matches t m.0)) k.pattern_properties)) ms
      ∙ both (named-ask same_word k.properties ms) (named-ask matches k.pattern_properties ms))
      (others-ask (is_additional matches (keys k.properties) (keys k.pattern_properties)) k.additional_properties ms))
      (words-ask k.property_names ms)

  pub members-done : (f : Form) (ms : List (List ℕ × Document))
      → every (λ m. every (λ q. below q m.1) (of_member matches f m.0) && every (λ q. below q (string m.0))
      (of_name f)) ms
      ≡ parts_members matches below f ms
  members-done Always ms = every-always ms
  members-done Never ms = every-always ms
  members-done (Ref e) ms = every-always ms
  members-done (Asks k) ms = members-ask k ms

  contain-done : (o : Option ℕ) (ds : List Document) (b : Bool)
      → b ≡ every (λ d. every (λ q. not (below q d)) (lists one o)) ds
      → meets (λ q. not b) o ≡ meets (λ e. some (below e) ds) o
  contain-done None ds b h = refl
  contain-done (Some e) ds b h = ap not h ∙ sym (some-unless e ds)

  pub list-done : (f : Form) (ds : List Document) (a b : Bool)
      → a ≡ each_at (λ i d. every (λ q. below q d) (of_element f i)) 0 ds
      → b ≡ every (λ d. every (λ q. not (below q d)) (of_contains f)) ds
      → (a && meets (λ q. not b) (contained f)) ≡ parts_list below f ds
  list-done Always ds a b h k = and_true a ∙ h ∙ each_at-same (λ d. true) 0 ds ∙ every-always ds
  list-done Never ds a b h k = and_true a ∙ h ∙ each_at-same (λ d. true) 0 ds ∙ every-always ds
  list-done (Ref e) ds a b h k = and_true a ∙ h ∙ each_at-same (λ d. true) 0 ds ∙ every-always ds
  list-done (Asks k) ds a b h c =
      both (h ∙ elements-ask k.items k.additional_items ds) (contain-done k.contains ds b c)

  pub parts-list : (f : Form) (ds : Items) → parts_list below f (elements ds) ≡ parts matches below f (array ds)
  parts-list Always ds = refl
  parts-list Never ds = refl
  parts-list (Ref e) ds = refl
  parts-list (Asks k) ds = sym (and_true (parts_array matches below k (elements ds)))

  pub parts-members : (f : Form) (ms : Members) → parts_members matches below f (entries ms) ≡ parts matches below f
      (object ms)
  parts-members Always ms = refl
  parts-members Never ms = refl
  parts-members (Ref e) ms = refl
  parts-members (Asks k) ms = refl

-- ---- steps over parts

-- one more part, of which `a` is known so far
pub step_each : {A : Type 0} (see : A → Document) (test : ℕ → Document → Bool) (items : List A) (i : ℕ) (x : A)
    (a b whole : Bool)
    → i < length items → x ≡ get_or items i x → b ≡ (a && test i (see x))
    → (a && each_at test i (map see (drop i items))) ≡ whole
    → (b && each_at test (i + 1) (map see (drop (i + 1) items))) ≡ whole
step_each see test items i x a b whole less is e h =
    ap (λ t. t && each_at test (i + 1) (map see (drop (i + 1) items))) e
    ∙ and_assoc a (test i (see x)) (each_at test (i + 1) (map see (drop (i + 1) items)))
    ∙ ap (λ t. a && t) (sym (split see test items i x less is)) ∙ h
  where
    split : {A : Type 0} (see : A → Document) (test : ℕ → Document → Bool) (items : List A) (i : ℕ) (x : A)
        → i < length items
        → x ≡ get_or items i x → each_at test i (map see (drop i items))
        ≡ (test i (see x) && each_at test (i + 1) (map see (drop (i + 1) items)))
    split see test items i x less is = rw (add-one, drop-cons items i x, ← is) refl

pub step_every : {A B : Type 0} (see : A → B) (test : B → Bool) (items : List A) (i : ℕ) (x : A) (a b whole : Bool)
    → i < length items → x ≡ get_or items i x → b ≡ (a && test (see x))
    → (a && every test (map see (drop i items))) ≡ whole
    → (b && every test (map see (drop (i + 1) items))) ≡ whole
step_every see test items i x a b whole less is e h =
    ap (λ t. t && every test (map see (drop (i + 1) items))) e
    ∙ and_assoc a (test (see x)) (every test (map see (drop (i + 1) items)))
    ∙ ap (λ t. a && t) (sym (split see test items i x less is)) ∙ h
  where
    split : {A B : Type 0} (see : A → B) (test : B → Bool) (items : List A) (i : ℕ) (x : A) → i < length items
        → x ≡ get_or items i x → every test (map see (drop i items)) ≡ (test (see x) && every test (map see (drop
        (i + 1) items)))
    split see test items i x less is = rw (add-one, drop-cons items i x, ← is) refl

nothing_left : {A : Type 0} (items : List A) (i : ℕ) → length items ≤ i → drop i items ≡ []
nothing_left [] zero h = refl
nothing_left [] (suc i) h = refl
nothing_left (x ∷ items) zero h = absurd (omega (arith, h))
nothing_left (x ∷ items) (suc i) h = nothing_left items i (omega (arith, h))

pub end_each : {A : Type 0} (see : A → Document) (test : ℕ → Document → Bool) (items : List A) (i : ℕ) (a whole : Bool)
    → length items ≤ i → (a && each_at test i (map see (drop i items))) ≡ whole → a ≡ whole
end_each see test items i a whole le h =
    sym (and_true a) ∙ ap (λ xs. a && each_at test i (map see xs)) (sym (nothing_left items i le)) ∙ h

pub end_every : {A B : Type 0} (see : A → B) (test : B → Bool) (items : List A) (i : ℕ) (a whole : Bool)
    → length items ≤ i → (a && every test (map see (drop i items))) ≡ whole → a ≡ whole
end_every see test items i a whole le h =
    sym (and_true a) ∙ ap (λ xs. a && every test (map see xs)) (sym (nothing_left items i le)) ∙ h

pub map-twice : {A B C : Type 0} (g : B → C) (f : A → B) (xs : List A) → map g (map f xs) ≡ map (λ x. g (f x)) xs
map-twice g f [] = refl
map-twice g f (x ∷ xs) = ap (λ zs. g (f x) ∷ zs) (map-twice g f xs)

-- ---- answers to two lists of requests at once

front_of : {A : Type 0} (xs ys : List A) → take (length xs) (xs ++ ys) ≡ xs
front_of [] ys = refl
front_of (x ∷ xs) ys = ap (λ zs. x ∷ zs) (front_of xs ys)

back_of : {A : Type 0} (xs ys : List A) → drop (length xs) (xs ++ ys) ≡ ys
back_of [] ys = refl
back_of (x ∷ xs) ys = back_of xs ys

mapped-length : {A B : Type 0} (f : A → B) (xs : List A) → length (map f xs) ≡ length xs
mapped-length f [] = refl
mapped-length f (x ∷ xs) = ap suc (mapped-length f xs)

pub front-asked : (e : ℕ) (p : ℕ → Bool) (os qs rs all : List ℕ) (answers first : List Bool) → all ≡ qs ++ rs
    → answers ≡ map p all → first ≡ take (length qs) answers → answered e os first ≡ asked_by e p os qs
front-asked e p os qs rs all answers first ea eb ec =
    let split = eb ∙ ap (map p) ea ∙ map-append p qs rs in
    let front = ec ∙ ap (take (length qs)) split ∙ ap (λ n. take n (map p qs ++ map p rs)) (sym (mapped-length p qs))
    ∙ front_of (map p qs) (map p rs) in
    ap (answered e os) front ∙ answered-asked e p os qs

pub back-asked : (e : ℕ) (p : ℕ → Bool) (os qs rs all : List ℕ) (answers second : List Bool) → all ≡ qs ++ rs
    → answers ≡ map p all → second ≡ drop (length qs) answers
    → answered e os (map not second) ≡ asked_by e (λ q. not (p q)) os rs
back-asked e p os qs rs all answers second ea eb ec =
    let split = eb ∙ ap (map p) ea ∙ map-append p qs rs in
    let back = ec ∙ ap (drop (length qs)) split ∙ ap (λ n. drop n (map p qs ++ map p rs)) (sym (mapped-length p qs))
    ∙ back_of (map p qs) (map p rs) in
    ap (λ bs. answered e os (map not bs)) back ∙ ap (answered e os) (map-twice not p rs)
    ∙ answered-asked e (λ q. not (p q)) os rs

pub answers-asked : (e : ℕ) (p : ℕ → Bool) (os qs : List ℕ) (answers : List Bool) → answers ≡ map p qs
    → answered e os answers ≡ asked_by e p os qs
answers-asked e p os qs answers h = ap (answered e os) h ∙ answered-asked e p os qs

-- an answer for each request
pub answers-long : (rs : List Request) (p : ℕ → Bool) (answers : List Bool) → answers ≡ map p (entries_in rs)
    → length rs ≡ length answers
answers-long rs p answers h = sym (ap length h ∙ length-map (entries_in rs) p ∙ entries-long rs)

pub front-long : (rs cs : List Request) (p : ℕ → Bool) (all : List ℕ) (answers first : List Bool)
    → all ≡ entries_in rs ++ entries_in cs → answers ≡ map p all → first ≡ take (length rs) answers
    → length rs ≡ length first
front-long rs cs p all answers first ea eb ec =
    let a = ap length ea ∙ length-append (entries_in rs) (entries_in cs) in
    let b = ap length eb ∙ length-map all p in
    let c = ap length ec ∙ length-take (length rs) answers in
    let d = entries-long rs in
    omega (arith, a, b, c, d)

pub back-long : (rs cs : List Request) (p : ℕ → Bool) (all : List ℕ) (answers second : List Bool)
    → all ≡ entries_in rs ++ entries_in cs → answers ≡ map p all → second ≡ drop (length rs) answers
    → length cs ≡ length second
back-long rs cs p all answers second ea eb ec =
    let a = ap length ea ∙ length-append (entries_in rs) (entries_in cs) in
    let b = ap length eb ∙ length-map all p in
    let c = ap length ec ∙ length-drop (length rs) answers in
    let d = entries-long rs in
    let e = entries-long cs in
    omega (arith, a, b, c, d, e)

pub all-first : (a x : Bool) → a ≡ true → (a && x) ≡ x
all-first a x h = ap (λ b. b && x) h

pub two-asked : (a b c x y : Bool) → b ≡ (a && x) → c ≡ (b && y) → c ≡ (a && (x && y))
two-asked a b c x y f g = g ∙ ap (λ t. t && y) f ∙ and_assoc a x y

pub scalar-parts : (f : Form) (below : ℕ → Document → Bool) (J : Document) → is_scalar J ≡ true
    → parts matches below f J ≡ true
scalar-parts Always below J h = refl
scalar-parts Never below J h = refl
scalar-parts (Ref e) below J h = refl
scalar-parts (Asks k) below null h = refl
scalar-parts (Asks k) below (boolean b) h = refl
scalar-parts (Asks k) below (number n) h = refl
scalar-parts (Asks k) below (string w) h = refl
scalar-parts (Asks k) below (array ds) h = absurd (true≢false (sym h))
scalar-parts (Asks k) below (object ms) h = absurd (true≢false (sym h))
