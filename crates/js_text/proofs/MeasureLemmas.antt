-- Measures of parts, taken one after another.
use Rattle.std.proofs.Common.{◌≡◌, ℕ, zero, suc, ◌+◌, ◌<◌, ◌≤◌, List, [], ◌∷◌, length, map, drop, get_or, true, nat_lt, refl, sym, ap, ◌∙◌, subst, arith}
use Rattle.std.proofs.lemmas.Bool.{and_parts, ltb-true}
use Rattle.std.proofs.lemmas.List.{drop_more, drop_all}
use Rattle.documents.specs.Tests.{every}
use Rattle.js_doc.specs.PartMembers.{number_of, member_view}
use Rattle.js_doc.specs.declared.parts.PartId.{PartId}
use Rattle.js_doc.specs.declared.parts.PartMember.{PartMember}
use Rattle.document_texts.specs.Measured.{Measured}
use Rattle.js_text.specs.Kept.{measure_at}
use Rattle.js_text.specs.Summed.{measure_view, added, summed, no_elements, closed, container_measure, ids_measure, members_measure, name_length}
use Rattle.js_text.specs.declared.measures.Measure.{Measure}
use Rattle.std.proofs.lemmas.Simd.{map-map}

abbrev pub id_entry : List Measured → PartId → ℕ × Measured
id_entry ms id = (0, measure_at ms id.0)

abbrev pub member_entry : List Measured → PartMember → ℕ × Measured
member_entry ms m = (name_length m.name, measure_at ms m.part.0)

-- ---- the numbers that a part names are below its own

pub id-below : (ids : List PartId) (ns : List ℕ) (k n : ℕ) (d : PartId) → map number_of ids ≡ ns
    → every (λ i. nat_lt i n) ns ≡ true → k < length ids → (get_or ids k d).0 < n
id-below ids ns k n d e h l = within ids k (ap (λ xs. every (λ i. nat_lt i n) xs) e ∙ h) l where
  within : (ids : List PartId) (k : ℕ) → every (λ i. nat_lt i n) (map number_of ids) ≡ true → k < length ids
      → (get_or ids k d).0 < n
  within [] k h l = absurd (omega (arith, l))
  within (id ∷ ids) zero h l = ltb-true id.0 n (and_parts (nat_lt id.0 n) _ h).0
  within (id ∷ ids) (suc k) h l = within ids k (and_parts (nat_lt id.0 n) _ h).1 (omega (arith, l))

pub member-below : (members : List PartMember) (ms : List (List ℕ × ℕ)) (k n : ℕ) (m : PartMember)
    → map member_view members ≡ ms → every (λ i. nat_lt i n) (map (λ m. m.1) ms) ≡ true → k < length members
    → m ≡ get_or members k m → m.part.0 < n
member-below members ms k n m e h l is =
    within members k (ap (λ xs. every (λ i. nat_lt i n) (map (λ m. m.1) xs)) e ∙ h) l is
  where
    within : (members : List PartMember) (k : ℕ)
        → every (λ i. nat_lt i n) (map (λ m. m.1) (map member_view members)) ≡ true → k < length members
        → m ≡ get_or members k m → m.part.0 < n
    within [] k h l is = absurd (omega (arith, l))
    within (x ∷ xs) zero h l is =
        subst (λ y. y.part.0 < n) (sym is) (ltb-true x.part.0 n (and_parts (nat_lt x.part.0 n) _ h).0)
    within (x ∷ xs) (suc k) h l is = within xs k (and_parts (nat_lt x.part.0 n) _ h).1 (omega (arith, l)) is

-- ---- one element more

-- the measure at a place of a list within which it lies
pub kept-at : (below : List Measure) (i : ℕ) (d : Measure) → i < length below
    → measure_view (get_or below i d) ≡ measure_at (map measure_view below) i
kept-at [] i d l = absurd (omega (arith, l))
kept-at (m ∷ ms) zero d l = refl
kept-at (m ∷ ms) (suc i) d l = kept-at ms i d (omega (arith, l))

module _ {A : Type 0} (entry : A → ℕ × Measured) where
  pub summed-more : (xs : List A) (i : ℕ) (x : A) (sum new whole : Measured) → i < length xs → x ≡ get_or xs i x
      → new ≡ added sum (entry x).0 (entry x).1 → summed sum (map entry (drop i xs)) ≡ whole
      → summed new (map entry (drop (i + 1) xs)) ≡ whole
  summed-more xs i x sum new whole l is put before =
      ap (λ s. summed s (map entry (drop (i + 1) xs))) put
      ∙ ap (λ y. summed (added sum (entry y).0 (entry y).1) (map entry (drop (i + 1) xs))) is
      ∙ ap (λ ys. summed sum (map entry ys)) (sym (drop_more xs i x l)) ∙ before

  length-entries : (xs : List A) → length (map entry xs) ≡ length xs
  length-entries [] = refl
  length-entries (x ∷ xs) = ap suc (length-entries xs)

  pub summed-end : (xs : List A) (i : ℕ) (sum result : Measured) (count : ℕ) → length xs ≤ i
      → count ≡ length xs → result ≡ closed count sum
      → summed sum (map entry (drop i xs)) ≡ summed no_elements (map entry xs)
      → result ≡ container_measure (map entry xs)
  summed-end xs i sum result count l size close before =
      close ∙ ap (λ n. closed n sum) (size ∙ sym (length-entries xs))
      ∙ ap (closed (length (map entry xs)))
      (ap (λ ys. summed sum (map entry ys)) (sym (drop_all i xs l)) ∙ before)

-- the entries of a list are those of the numbers, and of the members, that it stands for
pub ids-entries-of : (kept : List Measured) (ids : List PartId)
    → container_measure (map (id_entry kept) ids) ≡ ids_measure (measure_at kept) (map number_of ids)
ids-entries-of kept ids = ap container_measure (sym (map-map (λ i. (0, measure_at kept i)) number_of ids))

pub members-entries-of : (kept : List Measured) (members : List PartMember)
    → container_measure (map (member_entry kept) members) ≡ members_measure (measure_at kept) (map member_view members)
members-entries-of kept members =
    ap container_measure (sym (map-map (λ m. (name_length m.0, measure_at kept m.1)) member_view members))
