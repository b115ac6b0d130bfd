-- Every document that the program can hold is well formed: the names of each object rise, and texts are scalar values.
use Rattle.std.proofs.Common.{◌≡◌, ℕ, List, [], ◌∷◌, map, true, ◌&&◌, refl, ap, ◌∙◌, subst}
use Rattle.std.proofs.lemmas.Bool.{and_parts, and_from}
use Rattle.documents.specs.Tests.{every, is_scalar}
use Rattle.documents.specs.Document as D
use Rattle.js_doc.specs.declared.rising.Named.{Named}
use Rattle.js_doc.specs.declared.document.Doc.{Doc, roll-Doc}
use Rattle.js_doc.specs.declared.document.Doc.TheOpen.{Doc-F, DocList-F, DocMap-F}
use Rattle.js_doc.specs.declared.document.Doc.TheFolds.{map-Doc, map-DocList, map-DocMap, fold-roll-Doc, fold-roll-DocList, fold-roll-DocMap, fold_out-DocMap, ind-Doc, ind-DocMap}
use Rattle.js_doc.specs.declared.document.DocList.{DocList, roll-DocList}
use Rattle.js_doc.specs.declared.document.DocMap.{DocMap, out-DocMap, roll-DocMap}
use Rattle.js_doc.specs.Names.{starts_after, rise, names_of}
use Rattle.js_doc.specs.View.{doc_step, list_step, map_step, view, list_view, map_view, member_view}
use Rattle.js_doc.proofs.Mapped.{with_value, pairs_of-with_value}

-- ---- a map by its members

pub map_view-roll : (x : DocMap-F Doc DocList DocMap)
    → map_view (roll-DocMap x) ≡ D.members_of (map member_view x.members.members.items)
map_view-roll x =
    fold-roll-DocMap D.Document D.Items D.Members doc_step list_step map_step x
    ∙ ap D.members_of (pairs_of-with_value view x.members.members.items)

pub map_view-out : (m : DocMap) → map_view m ≡ D.members_of (map member_view (out-DocMap m).members.members.items)
map_view-out m =
    fold_out-DocMap D.Document D.Items D.Members doc_step list_step map_step m
    ∙ ap D.members_of (pairs_of-with_value view (out-DocMap m).members.members.items)

-- ---- well formed

abbrev IsGood : Doc → Type 0
IsGood d = D.is_document (view d) ≡ true

abbrev IsGoodList : DocList → Type 0
IsGoodList l = D.are_documents (list_view l) ≡ true

abbrev IsGoodMap : DocMap → Type 0
IsGoodMap m = D.are_members (map_view m) ≡ true

-- a level whose parts come with proofs
abbrev Good : Type 0
Good = Doc-F ((d : Doc) × IsGood d) ((l : DocList) × IsGoodList l) ((m : DocMap) × IsGoodMap m)

good_doc : (y : Good) → D.is_document (doc_step (map-Doc _ _ _ _ _ _ view list_view map_view
    (map-Doc _ _ _ _ _ _ (λ e. e.0) (λ e. e.0) (λ e. e.0) y))) ≡ true
good_doc Doc-F.Null = refl
good_doc (Doc-F.Bool b) = refl
good_doc (Doc-F.Num n) = refl
good_doc (Doc-F.Text w) = w.scalar
good_doc (Doc-F.List l) = l.1
good_doc (Doc-F.Members m) = m.1

good_items : (es : List ((d : Doc) × IsGood d)) → D.are_documents (D.items_of (map view (map (λ e. e.0) es))) ≡ true
good_items [] = refl
good_items (e ∷ es) =
    and_from (D.is_document (view e.0)) (D.are_documents (D.items_of (map view (map (λ e. e.0) es)))) e.1
    (good_items es)

abbrev made : List (Named ((d : Doc) × IsGood d)) → D.Members
made ms = D.members_of (map member_view (map (with_value (λ e. e.0)) ms))

made_after : (k : List ℕ) (ms : List (Named ((d : Doc) × IsGood d)))
    → D.is_before k (made ms) ≡ starts_after k (names_of ms)
made_after k [] = refl
made_after k (m ∷ ms) = refl

good_members : (ms : List (Named ((d : Doc) × IsGood d))) → rise (names_of ms) ≡ true → D.are_members (made ms) ≡ true
good_members [] r = refl
good_members (m ∷ ms) r =
    let both = and_parts (starts_after m.name.text (names_of ms)) (rise (names_of ms)) r in
    let name = every is_scalar m.name.text in
    let value = D.is_document (view m.value.0) in
    let before = D.is_before m.name.text (made ms) in
    and_from (name && value && before) (D.are_members (made ms))
    (and_from (name && value) before (and_from name value m.name.scalar m.value.1) (made_after m.name.text ms ∙ both.0))
    (good_members ms both.1)

doc_rolls : (x : Doc-F Doc DocList DocMap) (y : Good)
    → map-Doc _ _ _ _ _ _ (λ e. e.0) (λ e. e.0) (λ e. e.0) y ≡ x → IsGood (roll-Doc x)
doc_rolls x y is =
    ap D.is_document (fold-roll-Doc D.Document D.Items D.Members doc_step list_step map_step x)
    ∙ subst (λ z. D.is_document (doc_step (map-Doc _ _ _ _ _ _ view list_view map_view z)) ≡ true) is (good_doc y)

list_rolls : (x : DocList-F Doc DocList DocMap)
    (y : DocList-F ((d : Doc) × IsGood d) ((l : DocList) × IsGoodList l) ((m : DocMap) × IsGoodMap m))
    → map-DocList _ _ _ _ _ _ (λ e. e.0) (λ e. e.0) (λ e. e.0) y ≡ x → IsGoodList (roll-DocList x)
list_rolls x y is =
    ap D.are_documents (fold-roll-DocList D.Document D.Items D.Members doc_step list_step map_step x)
    ∙ subst (λ z. D.are_documents (D.items_of (map view z.items.items)) ≡ true) is (good_items y.items.items)

map_rolls : (x : DocMap-F Doc DocList DocMap)
    (y : DocMap-F ((d : Doc) × IsGood d) ((l : DocList) × IsGoodList l) ((m : DocMap) × IsGoodMap m))
    → map-DocMap _ _ _ _ _ _ (λ e. e.0) (λ e. e.0) (λ e. e.0) y ≡ x → IsGoodMap (roll-DocMap x)
map_rolls x y is =
    ap D.are_members (map_view-roll x)
    ∙ subst (λ z. D.are_members (D.members_of (map member_view z.members.members.items)) ≡ true) is
    (good_members y.members.members.items y.members.rises)

-- each document of the program stands for a well formed one
pub is_document-view : (d : Doc) → D.is_document (view d) ≡ true
is_document-view = ind-Doc IsGood IsGoodList IsGoodMap doc_rolls list_rolls map_rolls

pub are_members-map_view : (m : DocMap) → D.are_members (map_view m) ≡ true
are_members-map_view = ind-DocMap IsGood IsGoodList IsGoodMap doc_rolls list_rolls map_rolls
