-- Documents as JSON values, and the first place of a number that isn't whole, list by list.
use Rattle.std.proofs.Common.{◌≡◌, ℕ, ◌+◌, ◌<◌, List, [], ◌∷◌, ◌++◌, map, reverse, length, take, drop, drop-cons, add-one, get_or, decimal, Some, true, refl, sym, ap, ◌∙◌}
use Rattle.std.specs.List.{slice_get}
use Rattle.std.proofs.lemmas.List.{reverse-append, take_more, map_push}
use Rattle.documents.specs.Document as D
use Rattle.documents.specs.Json as J
use Rattle.js_doc.specs.declared.document.Doc.{Doc}
use Rattle.js_doc.specs.declared.rising.Named.{Named}
use Rattle.js_doc.specs.declared.json.Json.{Json}
use Rattle.js_doc.specs.View as V
use Rattle.js_doc.specs.JsonView as W
use Rattle.documents.specs.WellFormed as F
use Rattle.documents.proofs.Rising.{names_rise-document_members}
use Rattle.js_json.specs.Documents.{json_of_document, json_of_items, json_of_members, unwhole_places, places_in_items, places_in_members}

-- a document's member as a JSON value's
abbrev pub json_of_member : Named Doc → List ℕ × J.Json
json_of_member m = ((V.member_view m).0, json_of_document (V.member_view m).1)

pub json_of_items-items_of : (ds : List Doc)
    → json_of_items (D.items_of (map V.view ds)) ≡ J.items_of (map (λ d. json_of_document (V.view d)) ds)
json_of_items-items_of [] = refl
json_of_items-items_of (d ∷ ds) = ap (J.item (json_of_document (V.view d))) (json_of_items-items_of ds)

pub json_of_members-members_of : (ms : List (Named Doc))
    → json_of_members (D.members_of (map V.member_view ms)) ≡ J.members_of (map json_of_member ms)
json_of_members-members_of [] = refl
json_of_members-members_of (m ∷ ms) =
    ap (J.member (V.member_view m).0 (json_of_document (V.member_view m).1)) (json_of_members-members_of ms)

-- a document is well formed exactly where it is as a JSON value
is_before-json_of : (k : List ℕ) (ms : D.Members) → F.is_before k (json_of_members ms) ≡ D.is_before k ms
is_before-json_of k D.no_members = refl
is_before-json_of k (D.member l d ms) = refl

pub names_rise-json_of : (ms : D.Members) → F.names_rise (json_of_members ms) ≡ D.names_rise ms
names_rise-json_of D.no_members = refl
names_rise-json_of (D.member k d ms) = rw (is_before-json_of k ms, names_rise-json_of ms) refl

mutual
  pub is_json-json_of : (d : D.Document) → F.is_json (json_of_document d) ≡ D.is_document d
  is_json-json_of D.null = refl
  is_json-json_of (D.boolean b) = refl
  is_json-json_of (D.number n) = refl
  is_json-json_of (D.string s) = refl
  is_json-json_of (D.array ds) = are_items-json_of ds
  is_json-json_of (D.object ms) = are_members-json_of ms

  are_items-json_of : (ds : D.Items) → F.are_items (json_of_items ds) ≡ D.are_documents ds
  are_items-json_of D.no_items = refl
  are_items-json_of (D.item d ds) = rw (is_json-json_of d, are_items-json_of ds) refl

  are_members-json_of : (ms : D.Members) → F.are_members (json_of_members ms) ≡ D.are_members ms
  are_members-json_of D.no_members = refl
  are_members-json_of (D.member k d ms) =
      rw (is_json-json_of d, is_before-json_of k ms, are_members-json_of ms) refl

-- the first place in a child is the first in its parent, one token longer
first_under : (token : List ℕ) (places later : List (List (List ℕ))) (place : List (List ℕ))
    → slice_get places 0 ≡ Some place
    → slice_get (map (λ p. token ∷ p) places ++ later) 0 ≡ Some (token ∷ place)
first_under token [] later place e = cc
first_under token (p ∷ places) later place e = let same : p ≡ place = cc in ap (λ q. Some (token ∷ q)) same

-- the first of places with a token in front, where places are given from the inside out
pub first_under-reverse : (token : List ℕ) (places later : List (List (List ℕ))) (old new : List (List ℕ))
    → slice_get places 0 ≡ Some (reverse old) → new ≡ old ++ token ∷ []
    → slice_get (map (λ p. token ∷ p) places ++ later) 0 ≡ Some (reverse new)
first_under-reverse token places later old new e grown =
    first_under token places later (reverse old) e
    ∙ ap Some (sym (ap reverse grown ∙ reverse-append old (token ∷ [])))

-- the places from an element on are those in it and those after it
pub places_in_items-drop : (items : List Json) (i : ℕ) (item : Json) → i < length items → item ≡ get_or items i item
    → places_in_items i (J.items_of (map W.view (drop i items)))
    ≡ map (λ p. decimal i ∷ p) (unwhole_places (W.view item))
    ++ places_in_items (i + 1) (J.items_of (map W.view (drop (i + 1) items)))
places_in_items-drop items i item within is = rw (drop-cons items i item, ← is, add-one) refl

pub places_in_members-drop : (members : List (Named Json)) (i : ℕ) (member : Named Json) → i < length members
    → member ≡ get_or members i member
    → places_in_members (J.members_of (map W.member_view (drop i members)))
    ≡ map (λ p. (W.member_view member).0 ∷ p) (unwhole_places (W.member_view member).1)
    ++ places_in_members (J.members_of (map W.member_view (drop (i + 1) members)))
places_in_members-drop members i member within is = rw (add-one, drop-cons members i member, ← is) refl

-- what is made so far is what was taken so far: one more, and all
module _ {A B C : Type 0} (f : A → C) (g : B → C) where
  pub made_more : (made new : List A) (items : List B) (i : ℕ) (item : B) (x : A) → i < length items
      → item ≡ get_or items i item → new ≡ made ++ x ∷ [] → f x ≡ g item → map f made ≡ map g (take i items)
      → map f new ≡ map g (take (i + 1) items)
  made_more made new items i item x within is grown same before =
      let taken = take_more items i item within ∙ ap (λ y. take i items ++ y ∷ []) (sym is) in
      let both : map f made ++ f x ∷ [] ≡ map g (take i items) ++ g item ∷ [] = rw (before, same) refl in
      ap (map f) grown ∙ map_push f made x ∙ both ∙ sym (ap (map g) taken ∙ map_push g (take i items) item)

-- the names of the members that are made rise where those of the value do
pub names_rise-made : (made : List (Named Doc)) (ms : J.Members) → J.members_of (map json_of_member made) ≡ ms
    → F.are_members ms ≡ true → D.names_rise (D.members_of (map V.member_view made)) ≡ true
names_rise-made made ms is h =
    let members = D.members_of (map V.member_view made) in
    names_rise-document_members members
    (sym (are_members-json_of members) ∙ ap F.are_members (json_of_members-members_of made ∙ is) ∙ h)

-- in a document's value all numbers are whole
mutual
  pub unwhole_places-json_of : (d : D.Document) → unwhole_places (json_of_document d) ≡ []
  unwhole_places-json_of D.null = refl
  unwhole_places-json_of (D.boolean b) = refl
  unwhole_places-json_of (D.number n) = refl
  unwhole_places-json_of (D.string s) = refl
  unwhole_places-json_of (D.array ds) = places_in_items-json_of 0 ds
  unwhole_places-json_of (D.object ms) = places_in_members-json_of ms

  places_in_items-json_of : (i : ℕ) (ds : D.Items) → places_in_items i (json_of_items ds) ≡ []
  places_in_items-json_of i D.no_items = refl
  places_in_items-json_of i (D.item d ds) =
      rw (unwhole_places-json_of d, places_in_items-json_of (i + 1) ds) refl

  places_in_members-json_of : (ms : D.Members) → places_in_members (json_of_members ms) ≡ []
  places_in_members-json_of D.no_members = refl
  places_in_members-json_of (D.member k d ms) = rw (unwhole_places-json_of d, places_in_members-json_of ms) refl
