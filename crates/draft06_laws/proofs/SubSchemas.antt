-- What the numbers of a keyword's schemas ask is what the schemas ask, where each number leads to its schema.
use Rattle.std.proofs.Common.{◌≡◌, ℕ, suc, List, [], ◌∷◌, ◌++◌, map, length, drop, Bool, ◌&&◌, ◌||◌, not, inl, inr, Option, Some, None, option_map, option_and_then, refl, ap, ap₂, sym, ◌∙◌}
use Rattle.std.proofs.Math.ListN.{length-map}
use Rattle.documents.specs.Tests.{every, some}
use Rattle.documents.specs.Document.{Document}
use Rattle.documents.specs.Json.{Json, array, object, Items, no_items, item, Members, no_members, member, elements, entries}
use Rattle.documents.specs.Measures.{exactly_one, meets_in_order, has_name, every_in}
use Rattle.schemas.specs.Places.{Pointer, Place, elements_under}
use Rattle.schemas.specs.SubSchemas.{in_list, in_list_or_one, members_under, in_map, unless_list, needs_under, in_needs}
use Rattle.schemas.specs.Entry.{Needs}
use Rattle.schemas.specs.Entries.{listed, members, word, one_number, list_numbers, items_part, named_numbers, needs_of, all_needs, rest_number}
use Rattle.schemas.specs.Schema.{meets}
use Rattle.list_laws.specs.In.{IsIn}
use Rattle.draft06.specs.Names.{keys}
use Rattle.draft06.specs.Validity as V
use Rattle.draft06.specs.EntryValidity as E
use Rattle.draft06_laws.proofs.Lists.{both, every-map, some-map, exactly_one-map}

-- `at e` is the value of entry e
module _ (entry_of : Pointer → ℕ) (at : ℕ → Json) where
  -- the numbers of the places lead to their values
  abbrev pub Lead : List Place → Type 0
  Lead cs = (c : Place) → IsIn c cs → at (entry_of c.0) ≡ c.1

  elements_at : (p : Pointer) (i : ℕ) (vs : Items) → Lead (elements_under p i vs)
      → map at (map (λ c. entry_of c.0) (elements_under p i vs)) ≡ elements vs
  elements_at p i no_items h = refl
  elements_at p i (item v vs) h = ap₂ (λ x xs. x ∷ xs) (h _ (inl refl)) (elements_at p (suc i) vs (λ c m. h c (inr m)))

  module _ (p : Pointer) (k : List ℕ) where
    list_at : (v : Json) → Lead (in_list (p ++ k ∷ []) v) → map at (list_numbers entry_of p k v) ≡ listed v
    list_at (array vs) h = elements_at (p ++ k ∷ []) 0 vs h
    list_at _ h = refl

    pub one_at : (v : Json) → Lead ((p ++ k ∷ [], v) ∷ []) → at (one_number entry_of p k v) ≡ v
    one_at v h = h _ (inl refl)

    named_at : (ms : Members) → Lead (members_under (p ++ k ∷ []) ms)
        → map (λ (n : List ℕ × ℕ). (n.0, at n.1)) (map (λ m. (m.0, entry_of ((p ++ k ∷ []) ++ m.0 ∷ []))) (entries ms))
        ≡ entries ms
    named_at no_members h = refl
    named_at (member w v ms) h =
        ap₂ (λ x xs. (w, x) ∷ xs) (h _ (inl refl)) (named_at ms (λ c m. h c (inr m)))

    names_at : (v : Json) → Lead (in_map (p ++ k ∷ []) v)
        → map (λ (n : List ℕ × ℕ). (n.0, at n.1)) (named_numbers entry_of p k v) ≡ members v
    names_at (object ms) h = named_at ms h
    names_at _ h = refl

  -- ---- of the document itself

  module _ (here : Json → Bool) (p : Pointer) (k : List ℕ) where
    pub every_at : (v : Json) → Lead (in_list (p ++ k ∷ []) v)
        → every (λ e. here (at e)) (list_numbers entry_of p k v) ≡ every here (listed v)
    every_at v h = sym (every-map here at (list_numbers entry_of p k v)) ∙ ap (every here) (list_at p k v h)

    pub some_at : (v : Json) → Lead (in_list (p ++ k ∷ []) v)
        → some (λ e. here (at e)) (list_numbers entry_of p k v) ≡ some here (listed v)
    some_at v h = sym (some-map here at (list_numbers entry_of p k v)) ∙ ap (some here) (list_at p k v h)

    pub exactly_one_at : (v : Json) → Lead (in_list (p ++ k ∷ []) v)
        → exactly_one (λ e. here (at e)) (list_numbers entry_of p k v) ≡ exactly_one here (listed v)
    exactly_one_at v h =
        sym (exactly_one-map here at (list_numbers entry_of p k v)) ∙ ap (exactly_one here) (list_at p k v h)

    need_at : (ns : List (List ℕ × Document)) (w : List ℕ) (v : Json) (cs : List Place)
        → Lead (unless_list ((p ++ k ∷ []) ++ w ∷ []) v cs)
        → (E.need_asks (λ e. here (at e)) (needs_of entry_of p k (w, v)) ns ≡ V.need_asks here v ns) × Lead cs
    need_at ns w (array vs) cs h = (every-map (λ x. has_name x ns) word (elements vs), h)
    need_at ns w v cs h = (ap here (h _ (inl refl)), λ c m. h c (inr m))

    needs_at_members : (ns : List (List ℕ × Document)) (ms : Members) → Lead (needs_under (p ++ k ∷ []) ms)
        → every (λ (n : List ℕ × Needs). not (has_name n.0 ns) || E.need_asks (λ e. here (at e)) n.1 ns)
        (map (λ m. (m.0, needs_of entry_of p k m)) (entries ms))
        ≡ every (λ (m : List ℕ × Json). not (has_name m.0 ns) || V.need_asks here m.1 ns) (entries ms)
    needs_at_members ns no_members h = refl
    needs_at_members ns (member w v ms) h =
        let first = need_at ns w v (needs_under (p ++ k ∷ []) ms) h in
        both (ap (λ b. not (has_name w ns) || b) first.0) (needs_at_members ns ms first.1)

    pub needs_at : (ns : List (List ℕ × Document)) (v : Json) → Lead (in_needs (p ++ k ∷ []) v)
        → every (λ (n : List ℕ × Needs). not (has_name n.0 ns) || E.need_asks (λ e. here (at e)) n.1 ns)
        (all_needs entry_of p k v)
        ≡ every (λ (m : List ℕ × Json). not (has_name m.0 ns) || V.need_asks here m.1 ns) (members v)
    needs_at ns (object ms) h = needs_at_members ns ms h
    needs_at ns _ h = refl

  -- ---- of its elements and members

  module _ (below : Json → Document → Bool) where
    in_order_at : (ds : List Document) (es : List ℕ)
        → meets_in_order (λ e. below (at e)) es ds ≡ meets_in_order below (map at es) ds
    in_order_at ds [] = refl
    in_order_at [] (e ∷ es) = refl
    in_order_at (d ∷ ds) (e ∷ es) = ap (λ b. below (at e) d && b) (in_order_at ds es)

    module _ (p : Pointer) (k : List ℕ) where
      pub items_at : (ds : List Document) (v : Json) → Lead (in_list_or_one (p ++ k ∷ []) v)
          → E.items_ask (λ e. below (at e)) (items_part entry_of p k v) ds ≡ V.items_ask below v ds
      items_at ds (array vs) h =
          in_order_at ds (list_numbers entry_of p k (array vs))
          ∙ ap (λ ss. meets_in_order below ss ds) (list_at p k (array vs) h)
      items_at ds v h = ap (λ s. every (below s) ds) (h _ (inl refl))

      -- `additionalItems` is read beside a list alone
      pub rest_at : (ds : List Document) (items o : Option Json) (j : List ℕ)
          → ((vs : Items) → items ≡ Some (array vs) → Lead (in_list (p ++ k ∷ []) (array vs)))
          → ((vs : Items) (s : Json) → items ≡ Some (array vs) → o ≡ Some s → at (entry_of (p ++ j ∷ [])) ≡ s)
          → meets (λ e. E.rest_asks (λ i. below (at i)) (option_map (items_part entry_of p k) items) e ds)
          (option_and_then (rest_number entry_of p items j) o)
          ≡ meets (λ s. V.rest_asks below items s ds) o
      rest_at ds None None j h1 h2 = refl
      rest_at ds None (Some s) j h1 h2 = refl
      rest_at ds (Some (array vs)) None j h1 h2 = refl
      rest_at ds (Some (array vs)) (Some s) j h1 h2 =
          ap₂ (λ t n. every (below t) (drop n ds)) (h2 vs s refl refl)
          (sym (length-map (list_numbers entry_of p k (array vs)) at)
          ∙ ap length (list_at p k (array vs) (h1 vs refl)))
      rest_at ds (Some v) None j h1 h2 = refl
      rest_at ds (Some v) (Some s) j h1 h2 = refl

      pub names_ask : (ns : List (List ℕ × Document)) (set : List ℕ → List ℕ → Bool) (v : Json)
          → Lead (in_map (p ++ k ∷ []) v)
          → every (λ n. every_in (set n.0) (below (at n.1)) ns) (named_numbers entry_of p k v)
          ≡ every (λ m. every_in (set m.0) (below m.1) ns) (members v)
      names_ask ns set v h =
          sym (every-map (λ (m : List ℕ × Json). every_in (set m.0) (below m.1) ns) (λ n. (n.0, at n.1))
          (named_numbers entry_of p k v))
          ∙ ap (every (λ m. every_in (set m.0) (below m.1) ns)) (names_at p k v h)

-- the names of a keyword's members
names_of : {A B : Type 0} (f : List ℕ × A → B) (ms : List (List ℕ × A))
    → map (λ (n : List ℕ × B). n.0) (map (λ m. (m.0, f m)) ms) ≡ map (λ (m : List ℕ × A). m.0) ms
names_of f [] = refl
names_of f (m ∷ ms) = ap (λ xs. m.0 ∷ xs) (names_of f ms)

pub keys_at : (entry_of : Pointer → ℕ) (p : Pointer) (k : List ℕ) (o : Option Json)
    → keys (option_map (named_numbers entry_of p k) o) ≡ V.names_in o
keys_at entry_of p k None = refl
keys_at entry_of p k (Some v) = names_of (λ m. entry_of ((p ++ k ∷ []) ++ m.0 ∷ [])) (members v)
