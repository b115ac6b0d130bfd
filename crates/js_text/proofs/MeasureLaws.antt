-- What is measured of a part is what is measured of the document for which it stands.
use Rattle.std.proofs.Common.{◌≡◌, ℕ, suc, ◌+◌, ◌-◌, List, [], ◌∷◌, length, map, flat_map, min, max, Bool, true, ◌&&◌, refl, sym, ap, ◌∙◌, arith, length-append, add-one}
use Rattle.documents.specs.Document as D
use Rattle.documents.specs.Document.{Document, depth, items_depth, members_depth, items_of, members_of}
use Rattle.document_texts.specs.Measured.{Measured, measured, has_short_numbers, items_are_short, members_are_short}
use Rattle.document_texts.specs.Scalars.{string_text, joined, enclosed}
use Rattle.document_texts.specs.DocumentText.{document_text, item_texts, member_texts}
use Rattle.js_text.specs.Summed.{added, summed, closed, container_measure}
use Rattle.std.proofs.Math.Bool.{and_assoc, and-true}

sum_cut : (a x l c : ℕ) → min (min (min a c + x) c + min l c) c ≡ min (a + (x + l)) c
sum_cut a x l c = omega arith

deep_cut : (a b c : ℕ) → max (min a c) (min b c) ≡ min (max a b) c
deep_cut a b c = omega arith

close_cut : (a n c : ℕ) → min (min a c + n) c ≡ min (a + n) c
close_cut a n c = omega arith

-- ---- elements, each with the number of bytes before it

abbrev cut : ℕ → ℕ → Bool → Measured
cut length depth short =
    record { length = min length 18446744073709551615; depth = min depth 4294967295; short_numbers = short }

abbrev pub entry : ℕ × Document → ℕ × Measured
entry z = (z.0, measured z.1)

abbrev total : List (ℕ × Document) → ℕ
total [] = 0
total (z ∷ zs) = z.0 + length (document_text z.1) + total zs

abbrev depths : List (ℕ × Document) → ℕ
depths [] = 0
depths (z ∷ zs) = max (depth z.1) (depths zs)

abbrev shorts : List (ℕ × Document) → Bool
shorts [] = true
shorts (z ∷ zs) = has_short_numbers z.1 && shorts zs

same_cut : (a b d e : ℕ) (p q : Bool) → a ≡ b → d ≡ e → p ≡ q → cut a d p ≡ cut b e q
same_cut a b d e p q x y z = rw (x, y, z) refl

added-cut : (a b : ℕ) (p : Bool) (z : ℕ × Document)
    → added (cut a b p) z.0 (measured z.1)
    ≡ cut (a + (z.0 + length (document_text z.1))) (max b (depth z.1)) (p && has_short_numbers z.1)
added-cut a b p z =
    rw (
      sum_cut a z.0 (length (document_text z.1)) 18446744073709551615,
      deep_cut b (depth z.1) 4294967295,
    ) refl

summed-cut : (a b : ℕ) (p : Bool) (zs : List (ℕ × Document))
    → summed (cut a b p) (map entry zs) ≡ cut (a + total zs) (max b (depths zs)) (p && shorts zs)
summed-cut a b p [] = same_cut a (a + 0) b (max b 0) p (p && true) (omega arith) (omega arith) (sym (and-true p))
summed-cut a b p (z ∷ zs) =
    ap (λ s. summed s (map entry zs)) (added-cut a b p z)
    ∙ summed-cut (a + (z.0 + length (document_text z.1))) (max b (depth z.1)) (p && has_short_numbers z.1) zs
    ∙ same_cut _ _ _ _ _ _ (omega arith) (omega arith) (and_assoc p (has_short_numbers z.1) (shorts zs))

closed-cut : (n a b : ℕ) (p : Bool) → closed n (cut a b p) ≡ cut (a + (n - 1 + 2)) (suc b) p
closed-cut n a b p =
    rw (close_cut a (n - 1 + 2) 18446744073709551615, close_cut b 1 4294967295, add-one b) refl

length-entries : (zs : List (ℕ × Document)) → length (map entry zs) ≡ length zs
length-entries [] = refl
length-entries (z ∷ zs) = ap suc (length-entries zs)

container-cut : (zs : List (ℕ × Document))
    → container_measure (map entry zs) ≡ cut (total zs + (length zs - 1 + 2)) (suc (depths zs)) (shorts zs)
container-cut zs =
    ap (λ s. closed (length (map entry zs)) s) (summed-cut 0 0 true zs)
    ∙ ap (λ n. closed n (cut (0 + total zs) (max 0 (depths zs)) (shorts zs))) (length-entries zs)
    ∙ closed-cut (length zs) (0 + total zs) (max 0 (depths zs)) (shorts zs)
    ∙ same_cut _ _ _ _ _ _ (omega arith) (omega arith) refl

-- ---- the length of a list's text

abbrev lengths : List (List ℕ) → ℕ
lengths [] = 0
lengths (x ∷ xs) = length x + lengths xs

length-commas : (xs : List (List ℕ)) → length (flat_map (λ y. 44 ∷ y) xs) ≡ lengths xs + length xs
length-commas [] = refl
length-commas (x ∷ xs) =
    omega (arith, length-append (44 ∷ x) (flat_map (λ y. 44 ∷ y) xs), length-commas xs)

length-joined : (xs : List (List ℕ)) → length (joined xs) ≡ lengths xs + (length xs - 1)
length-joined [] = refl
length-joined (x ∷ xs) = omega (arith, length-append x (flat_map (λ y. 44 ∷ y) xs), length-commas xs)

length-enclosed : (first last : ℕ) (xs : List (List ℕ))
    → length (enclosed first xs last) ≡ lengths xs + (length xs - 1 + 2)
length-enclosed first last xs = omega (arith, length-append (joined xs) (last ∷ []), length-joined xs)

-- ---- arrays

abbrev pub plain : Document → ℕ × Document
plain d = (0, d)

items-total : (ds : List Document) → lengths (item_texts (items_of ds)) ≡ total (map plain ds)
items-total [] = refl
items-total (d ∷ ds) = omega (arith, items-total ds)

items-count : (ds : List Document) → length (item_texts (items_of ds)) ≡ length (map plain ds)
items-count [] = refl
items-count (d ∷ ds) = ap suc (items-count ds)

items-depths : (ds : List Document) → items_depth (items_of ds) ≡ depths (map plain ds)
items-depths [] = refl
items-depths (d ∷ ds) = ap (max (depth d)) (items-depths ds)

items-shorts : (ds : List Document) → items_are_short (items_of ds) ≡ shorts (map plain ds)
items-shorts [] = refl
items-shorts (d ∷ ds) = ap (λ p. has_short_numbers d && p) (items-shorts ds)

-- the measure of an array is computed from those of its elements
pub array-measured : (ds : List Document)
    → container_measure (map entry (map plain ds)) ≡ measured (D.array (items_of ds))
array-measured ds =
    container-cut (map plain ds)
    ∙ same_cut _ _ _ _ _ _
    (omega (arith, items-total ds, items-count ds, length-enclosed 91 93 (item_texts (items_of ds))))
    (ap suc (sym (items-depths ds))) (sym (items-shorts ds))

-- ---- objects

abbrev pub under : List ℕ × Document → ℕ × Document
under m = (length (string_text m.0) + 1, m.1)

members-total : (ms : List (List ℕ × Document)) → lengths (member_texts (members_of ms)) ≡ total (map under ms)
members-total [] = refl
members-total (m ∷ ms) =
    omega (arith, length-append (string_text m.0) (58 ∷ document_text m.1), members-total ms)

members-count : (ms : List (List ℕ × Document)) → length (member_texts (members_of ms)) ≡ length (map under ms)
members-count [] = refl
members-count (m ∷ ms) = ap suc (members-count ms)

members-depths : (ms : List (List ℕ × Document)) → members_depth (members_of ms) ≡ depths (map under ms)
members-depths [] = refl
members-depths (m ∷ ms) = ap (max (depth m.1)) (members-depths ms)

members-shorts : (ms : List (List ℕ × Document)) → members_are_short (members_of ms) ≡ shorts (map under ms)
members-shorts [] = refl
members-shorts (m ∷ ms) = ap (λ p. has_short_numbers m.1 && p) (members-shorts ms)

-- the measure of an object is computed from those of its members and the lengths of their names
pub object-measured : (ms : List (List ℕ × Document))
    → container_measure (map entry (map under ms)) ≡ measured (D.object (members_of ms))
object-measured ms =
    container-cut (map under ms)
    ∙ same_cut _ _ _ _ _ _
    (omega (arith, members-total ms, members-count ms, length-enclosed 123 125 (member_texts (members_of ms))))
    (ap suc (sym (members-depths ms))) (sym (members-shorts ms))
