-- The frame of a part: as many times null as it has elements.
use Rattle.std.proofs.Common.{◌≡◌, ℕ, zero, suc, ◌+◌, ◌<◌, List, [], ◌∷◌, ◌++◌, map, take, length, rules, refl, sym, ap, ◌∙◌, arith}
use Rattle.documents.specs.Document.{Document, null}
use Rattle.js_doc.specs.declared.document.Doc.{Doc, the_lemmas}
use Rattle.js_doc.specs.declared.document.Doc.TheVariants as C
use Rattle.js_doc.specs.declared.parts.PartId.{PartId}
use Rattle.js_doc.specs.View.{view}

view-Null : view C.Null ≡ null
view-Null = search (rules, the_lemmas)

views-more : (ds : List Doc) (d : Doc) → map view (ds ++ d ∷ []) ≡ map view ds ++ view d ∷ []
views-more [] d = refl
views-more (x ∷ ds) d = ap (λ xs. view x ∷ xs) (views-more ds d)

take-more : (ids : List PartId) (n : ℕ) → n < length ids
    → map {B = Document} (λ i. null) (take (n + 1) ids) ≡ map (λ i. null) (take n ids) ++ null ∷ []
take-more [] n l = absurd (omega (arith, l))
take-more (i ∷ ids) zero l = refl
take-more (i ∷ ids) (suc n) l =
    let one : suc n + 1 ≡ suc (n + 1) = omega arith in
    rw one (ap (λ xs. null ∷ xs) (take-more ids n (omega (arith, l))))

-- with one more null there are as many as the part's first n + 1 elements
pub nulls-more : (ds es : List Doc) (ids : List PartId) (n : ℕ) → n < length ids → es ≡ ds ++ C.Null ∷ []
    → map view ds ≡ map (λ i. null) (take n ids) → map view es ≡ map (λ i. null) (take (n + 1) ids)
nulls-more ds es ids n l is made =
    ap (map view) is ∙ views-more ds C.Null ∙ ap (λ x. map view ds ++ x ∷ []) view-Null
    ∙ ap (λ xs. xs ++ null ∷ []) made ∙ sym (take-more ids n l)
