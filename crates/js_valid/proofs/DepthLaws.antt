-- Elements and members are no deeper than what holds them.
use Rattle.std.proofs.Common.{◌≡◌, ℕ, zero, suc, ◌<◌, ◌≤◌, List, [], ◌∷◌, map, length, get_or, true, rules, ap, subst, arith}
use Rattle.documents.specs.Document.{string, depth, items_depth, members_depth, Items, Members, items_of, members_of}
use Rattle.js_doc.specs.declared.document.Doc.{Doc, the_lemmas}
use Rattle.js_doc.specs.declared.document.Doc.TheVariants as C
use Rattle.js_doc.specs.declared.document.DocList.{DocList}
use Rattle.js_doc.specs.declared.document.DocMap.{DocMap}
use Rattle.js_doc.specs.declared.rising.Named.{Named}
use Rattle.js_doc.specs.declared.word.Word.{Word}
use Rattle.js_doc.specs.View.{view, member_view}
use Rattle.js_valid.specs.Plain.{is_scalar}

item-less : (items : List Doc) (i : ℕ) (x : Doc) → i < length items → x ≡ get_or items i x
    → depth (view x) ≤ items_depth (items_of (map view items))
item-less [] i x h is = absurd (omega (arith, h))
item-less (y ∷ items) zero x h is = let e = ap (λ z. depth (view z)) is in omega (arith, e)
item-less (y ∷ items) (suc i) x h is = let less = item-less items i x (omega (arith, h)) is in omega (arith, less)

-- an element is no deeper than the deepest of its list
pub item-depth : (items : List Doc) (i : ℕ) (x : Doc) (l : Items) → i < length items → x ≡ get_or items i x
    → items_of (map view items) ≡ l → depth (view x) ≤ items_depth l
item-depth items i x l h is e = subst (λ ds. depth (view x) ≤ items_depth ds) e (item-less items i x h is)

member-less : (items : List (Named Doc)) (i : ℕ) (x : Named Doc) → i < length items → x ≡ get_or items i x
    → depth (member_view x).1 ≤ members_depth (members_of (map member_view items))
member-less [] i x h is = absurd (omega (arith, h))
member-less (y ∷ items) zero x h is = let e = ap (λ z. depth (member_view z).1) is in omega (arith, e)
member-less (y ∷ items) (suc i) x h is = let less = member-less items i x (omega (arith, h)) is in omega (arith, less)

pub member-depth : (items : List (Named Doc)) (i : ℕ) (x : Named Doc) (l : Members) → i < length items
    → x ≡ get_or items i x
    → members_of (map member_view items) ≡ l → depth (member_view x).1 ≤ members_depth l
member-depth items i x l h is e = subst (λ ms. depth (member_view x).1 ≤ members_depth ms) e
    (member-less items i x h is)

pub view-scalar : (d : Doc) → ((l : DocList) → d ≡ C.List l → ⊥) → ((m : DocMap) → d ≡ C.Members m → ⊥)
    → true ≡ is_scalar (view d)
view-scalar d f g = search (rules, the_lemmas, f, g)

pub view-Text : (w : Word) → view (C.Text w) ≡ string w.text
view-Text w = search (rules, the_lemmas)
