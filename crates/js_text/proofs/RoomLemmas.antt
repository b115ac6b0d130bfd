-- The measures of a table: each part's, from those of the parts below.
use Rattle.std.proofs.Common.{◌≡◌, ◌⊎◌, inl, inr, ℕ, zero, suc, ◌+◌, ◌<◌, List, [], ◌∷◌, ◌++◌, length, map, get_or, true, false, nat_lt, refl, sym, ap, ap₂, ◌∙◌, subst, arith}
use Rattle.std.proofs.lemmas.Bool.{and_parts, ltb-true, cases_eq}
use Rattle.std.proofs.Math.ListN.{length-map}
use Rattle.documents.specs.Tests.{every}
use Rattle.documents.specs.Document.{Document}
use Rattle.shared_documents.specs.Part as P
use Rattle.shared_documents.specs.Part.{is_table, part_at, names_below, IsPart}
use Rattle.shared_documents.specs.Unshared.{built, unshared}
use Rattle.shared_documents.proofs.Laws.{unshared-built, part_at-table}
use Rattle.document_texts.specs.Measured.{Measured, measured}
use Rattle.js_doc.specs.PartView.{part_view}
use Rattle.js_doc.specs.declared.parts.Part.{Part}
use Rattle.js_text.specs.Kept.{measure_at}
use Rattle.js_text.specs.Summed.{part_measure, container_measure, name_length}
use Rattle.js_text.proofs.MeasureLaws.{entry, plain, under, array-measured, object-measured}

-- ---- the measure of a part is that of what is built of its parts

ids-entries : (g : ℕ → Document) (is : List ℕ)
    → map {B = ℕ × Measured} (λ i. (0, measured (g i))) is ≡ map entry (map plain (map g is))
ids-entries g [] = refl
ids-entries g (i ∷ is) = ap (λ xs. (0, measured (g i)) ∷ xs) (ids-entries g is)

members-entries : (g : ℕ → Document) (ms : List (List ℕ × ℕ))
    → map {B = ℕ × Measured} (λ m. (name_length m.0, measured (g m.1))) ms
    ≡ map entry (map under (map (λ m. (m.0, g m.1)) ms))
members-entries g [] = refl
members-entries g (m ∷ ms) = ap (λ xs. (name_length m.0, measured (g m.1)) ∷ xs) (members-entries g ms)

pub part_measure-built : (g : ℕ → Document) (p : P.Part) → part_measure (λ i. measured (g i)) p ≡ measured (built g p)
part_measure-built g P.null = refl
part_measure-built g (P.boolean true) = refl
part_measure-built g (P.boolean false) = refl
part_measure-built g (P.number n) = refl
part_measure-built g (P.string s) = refl
part_measure-built g (P.array is) = ap container_measure (ids-entries g is) ∙ array-measured (map g is)
part_measure-built g (P.object ms) =
    ap container_measure (members-entries g ms) ∙ object-measured (map (λ m. (m.0, g m.1)) ms)

-- ---- measures that are the same below n

ids-same : (f g : ℕ → Measured) (n : ℕ) (is : List ℕ) → every (λ i. nat_lt i n) is ≡ true
    → ((i : ℕ) → i < n → f i ≡ g i) → map {B = ℕ × Measured} (λ i. (0, f i)) is ≡ map (λ i. (0, g i)) is
ids-same f g n [] h same = refl
ids-same f g n (i ∷ is) h same =
    let both = and_parts (nat_lt i n) (every (λ j. nat_lt j n) is) h in
    ap₂ (λ m xs. (0, m) ∷ xs) (same i (ltb-true i n both.0)) (ids-same f g n is both.1 same)

members-same : (f g : ℕ → Measured) (n : ℕ) (ms : List (List ℕ × ℕ))
    → every (λ i. nat_lt i n) (map (λ m. m.1) ms) ≡ true → ((i : ℕ) → i < n → f i ≡ g i)
    → map {B = ℕ × Measured} (λ m. (name_length m.0, f m.1)) ms ≡ map (λ m. (name_length m.0, g m.1)) ms
members-same f g n [] h same = refl
members-same f g n (m ∷ ms) h same =
    let both = and_parts (nat_lt m.1 n) (every (λ j. nat_lt j n) (map (λ k. k.1) ms)) h in
    ap₂ (λ y xs. (name_length m.0, y) ∷ xs) (same m.1 (ltb-true m.1 n both.0)) (members-same f g n ms both.1 same)

part_measure-same : (f g : ℕ → Measured) (n : ℕ) (p : P.Part) → names_below n p ≡ true
    → ((i : ℕ) → i < n → f i ≡ g i) → part_measure f p ≡ part_measure g p
part_measure-same f g n P.null h same = refl
part_measure-same f g n (P.boolean b) h same = refl
part_measure-same f g n (P.number z) h same = refl
part_measure-same f g n (P.string s) h same = refl
part_measure-same f g n (P.array is) h same = ap container_measure (ids-same f g n is h same)
part_measure-same f g n (P.object ms) h same = ap container_measure (members-same f g n ms h same)

-- ---- one measure more

before-last : (ms : List Measured) (m : Measured) (i : ℕ) → i < length ms
    → measure_at (ms ++ m ∷ []) i ≡ measure_at ms i
before-last [] m i l = absurd (omega (arith, l))
before-last (x ∷ xs) m zero l = refl
before-last (x ∷ xs) m (suc i) l = before-last xs m i (omega (arith, l))

at-last : (ms : List Measured) (m : Measured) (i : ℕ) → i ≡ length ms → measure_at (ms ++ m ∷ []) i ≡ m
at-last [] m zero e = refl
at-last [] m (suc i) e = absurd (omega (arith, e))
at-last (x ∷ xs) m zero e = absurd (omega (arith, e))
at-last (x ∷ xs) m (suc i) e = at-last xs m i (omega (arith, e))

pub measures-next : (ps : List P.Part) (k : ℕ) (ms new : List Measured) (m : Measured) → is_table ps ≡ true
    → k < length ps → length ms ≡ k → ((i : ℕ) → i < k → measure_at ms i ≡ measured (unshared ps i))
    → m ≡ part_measure (measure_at ms) (part_at ps k) → new ≡ ms ++ m ∷ []
    → (i : ℕ) → i < k + 1 → measure_at new i ≡ measured (unshared ps i)
measures-next ps k ms new m table l size each is put i below =
    ap (λ ns. measure_at ns i) put ∙ go (cases_eq i k)
  where
    go : (i ≡ k) ⊎ (i ≡ k → ⊥) → measure_at (ms ++ m ∷ []) i ≡ measured (unshared ps i)
    go (inl e) =
        at-last ms m i (e ∙ sym size) ∙ is
        ∙ part_measure-same (measure_at ms) (λ j. measured (unshared ps j)) k (part_at ps k)
        (part_at-table ps k table l).below each
        ∙ part_measure-built (unshared ps) (part_at ps k)
        ∙ ap measured (sym (unshared-built ps k table l)) ∙ ap (λ j. measured (unshared ps j)) (sym e)
    go (inr ne) = before-last ms m i (omega (arith, size, ne, below)) ∙ each i (omega (arith, ne, below))

-- the part at a place of a table
pub viewed-at : (items : List Part) (ps : List P.Part) (k : ℕ) (p : Part) → map part_view items ≡ ps → k < length items
    → p ≡ get_or items k p → part_view p ≡ part_at ps k
viewed-at items ps k p e l is = at items k l is ∙ ap (λ qs. part_at qs k) e where
  at : (items : List Part) (k : ℕ) → k < length items → p ≡ get_or items k p
      → part_view p ≡ part_at (map part_view items) k
  at [] k l is = absurd (omega (arith, l))
  at (x ∷ xs) zero l is = ap part_view is
  at (x ∷ xs) (suc k) l is = at xs k (omega (arith, l)) is

-- a place in the program's list is one of the table
pub within : (items : List Part) (ps : List P.Part) {k : ℕ} → map part_view items ≡ ps → k < length items
    → k < length ps
within items ps {k} e l = subst (λ n. k < n) (sym (length-map items part_view) ∙ ap length e) l

-- what is required of a part before it is measured
pub names-kept : (items : List Part) (ps : List P.Part) (k n : ℕ) (p : Part) → is_table ps ≡ true
    → map part_view items ≡ ps → k < length items → p ≡ get_or items k p → n ≡ k
    → names_below n (part_view p) ≡ true
names-kept items ps k n p table e l is size =
    ap₂ (λ m q. names_below m q) size (viewed-at items ps k p e l is)
    ∙ (part_at-table ps k table (within items ps e l)).below
