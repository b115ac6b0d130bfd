-- The document of a part is built of those of the parts that it names; further parts change none.
use Rattle.std.proofs.Common.{◌≡◌, ℕ, zero, suc, ◌+◌, ◌<◌, List, [], ◌∷◌, ◌++◌, map, length, true, ◌&&◌, None, nat_lt, nat_le, refl, sym, ap, ap₂, ◌∙◌, arith}
use Rattle.std.proofs.lemmas.Bool.{and_parts, and_from, ltb-true}
use Rattle.std.specs.List.{find}
use Rattle.documents.specs.Tests.{every}
use Rattle.documents.specs.Document as D
use Rattle.shared_documents.specs.Part.{Part, IsPart, null, boolean, number, string, array, object, named, names_below, names_rise, is_before, members_rise, is_table_from, is_table, part_at, first_forward}
use Rattle.shared_documents.specs.Unshared.{built, unshared_within, unshared}

-- ---- numbers below n

-- lists that are mapped alike below n
mapped_below : {A : Type 0} (f g : ℕ → A) (n : ℕ) (is : List ℕ) → every (λ i. nat_lt i n) is ≡ true
    → ((i : ℕ) → i < n → f i ≡ g i) → map f is ≡ map g is
mapped_below f g n [] h same = refl
mapped_below f g n (i ∷ is) h same =
    let both = and_parts (nat_lt i n) (every (λ j. nat_lt j n) is) h in
    ap₂ (λ x xs. x ∷ xs) (same i (ltb-true i n both.0)) (mapped_below f g n is both.1 same)

members_below : (f g : ℕ → D.Document) (n : ℕ) (ms : List (List ℕ × ℕ))
    → every (λ i. nat_lt i n) (map (λ m. m.1) ms) ≡ true → ((i : ℕ) → i < n → f i ≡ g i)
    → map {B = List ℕ × D.Document} (λ m. (m.0, f m.1)) ms ≡ map (λ m. (m.0, g m.1)) ms
members_below f g n [] h same = refl
members_below f g n (m ∷ ms) h same =
    let both = and_parts (nat_lt m.1 n) (every (λ j. nat_lt j n) (map (λ m. m.1) ms)) h in
    ap₂ (λ x xs. x ∷ xs) (ap (λ d. (m.0, d)) (same m.1 (ltb-true m.1 n both.0))) (members_below f g n ms both.1 same)

-- a document is built alike of documents that are the same below n
pub built-same : (f g : ℕ → D.Document) (n : ℕ) (p : Part) → names_below n p ≡ true
    → ((i : ℕ) → i < n → f i ≡ g i) → built f p ≡ built g p
built-same f g n null h same = refl
built-same f g n (boolean b) h same = refl
built-same f g n (number z) h same = refl
built-same f g n (string s) h same = refl
built-same f g n (array is) h same = ap (λ ds. D.array (D.items_of ds)) (mapped_below f g n is h same)
built-same f g n (object ms) h same = ap (λ ds. D.object (D.members_of ds)) (members_below f g n ms h same)

-- ---- the parts of a table

-- what holds of the first part of a table, and of the others
first_parts : (n : ℕ) (p : Part) (ps : List Part) → is_table_from n (p ∷ ps) ≡ true
    → IsPart n p × (is_table_from (suc n) ps ≡ true)
first_parts n p ps h =
    let last = and_parts (names_below n p && names_rise p) (is_table_from (suc n) ps) h in
    let two = and_parts (names_below n p) (names_rise p) last.0 in
    (record { below = two.0; rises = two.1 }, last.1)

part_from : (n m i : ℕ) (ps : List Part) → is_table_from n ps ≡ true → i < length ps → m ≡ n + i
    → IsPart m (part_at ps i)
part_from n m i [] h l e = absurd (omega arith)
part_from n m zero (p ∷ ps) h l e = let same : m ≡ n = omega (arith, e) in rw same ((first_parts n p ps h).0)
part_from n m (suc i) (p ∷ ps) h l e =
    part_from (suc n) m i ps ((first_parts n p ps h).1) (omega arith) (omega (arith, e))

pub part_at-table : (ps : List Part) (i : ℕ) → is_table ps ≡ true → i < length ps → IsPart i (part_at ps i)
part_at-table ps i h l = part_from 0 i i ps h l (omega arith)

-- a further part
pushed_from : (n m : ℕ) (ps : List Part) (p : Part) → is_table_from n ps ≡ true → m ≡ n + length ps → IsPart m p
    → is_table_from n (ps ++ p ∷ []) ≡ true
pushed_from n m [] p h e is =
    let same : m ≡ n = omega (arith, e) in
    let here : IsPart n p = rw (sym same) is in
    and_from (names_below n p && names_rise p) true
    (and_from (names_below n p) (names_rise p) here.below here.rises) refl
pushed_from n m (q ∷ qs) p h e is =
    let first = first_parts n q qs h in
    and_from (names_below n q && names_rise q) (is_table_from (suc n) (qs ++ p ∷ []))
    (and_from (names_below n q) (names_rise q) first.0.below first.0.rises)
    (pushed_from (suc n) m qs p first.1 (omega (arith, e)) is)

pub is_table-pushed : (ps : List Part) (p : Part) → is_table ps ≡ true → IsPart (length ps) p
    → is_table (ps ++ p ∷ []) ≡ true
is_table-pushed ps p h is = pushed_from 0 (length ps) ps p h (omega arith) is

-- ---- the document of a part

within-enough : (ps : List Part) (n m i : ℕ) → is_table ps ≡ true → i < length ps → i < n → i < m
    → unshared_within ps n i ≡ unshared_within ps m i
within-enough ps zero m i h l less more = absurd (omega arith)
within-enough ps (suc n) zero i h l less more = absurd (omega arith)
within-enough ps (suc n) (suc m) i h l less more =
    built-same (unshared_within ps n) (unshared_within ps m) i (part_at ps i) ((part_at-table ps i h l).below)
    (λ j below. within-enough ps n m j h (omega arith) (omega arith) (omega arith))

pub unshared-built : (ps : List Part) (i : ℕ) → is_table ps ≡ true → i < length ps
    → unshared ps i ≡ built (unshared ps) (part_at ps i)
unfolding unshared
unshared-built ps i h l =
    built-same (unshared_within ps i) (unshared ps) i (part_at ps i) ((part_at-table ps i h l).below)
    (λ j below. within-enough ps i (suc j) j h (omega arith) below (omega arith))

part_at-append : (ps qs : List Part) (i : ℕ) → i < length ps → part_at (ps ++ qs) i ≡ part_at ps i
part_at-append [] qs i l = absurd (omega arith)
part_at-append (p ∷ ps) qs zero l = refl
part_at-append (p ∷ ps) qs (suc i) l = part_at-append ps qs i (omega arith)

within-append : (ps qs : List Part) (n i : ℕ) → is_table ps ≡ true → i < length ps
    → unshared_within (ps ++ qs) n i ≡ unshared_within ps n i
within-append ps qs zero i h l = refl
within-append ps qs (suc n) i h l =
    ap (built (unshared_within (ps ++ qs) n)) (part_at-append ps qs i l)
    ∙ built-same (unshared_within (ps ++ qs) n) (unshared_within ps n) i (part_at ps i)
    ((part_at-table ps i h l).below) (λ j below. within-append ps qs n j h (omega arith))

-- further parts change no document
pub unshared-append : (ps qs : List Part) (i : ℕ) → is_table ps ≡ true → i < length ps
    → unshared (ps ++ qs) i ≡ unshared ps i
unfolding unshared
unshared-append ps qs i h l = within-append ps qs (suc i) i h l

-- the document of an array is made of its elements', and that of an object of its members', with rising names
rise-before : (f : ℕ → D.Document) (k : List ℕ) (ms : List (List ℕ × ℕ)) → is_before k ms ≡ true
    → D.is_before k (D.members_of (map (λ m. (m.0, f m.1)) ms)) ≡ true
rise-before f k [] h = refl
rise-before f k (m ∷ ms) h = h

pub members_rise-built : (f : ℕ → D.Document) (ms : List (List ℕ × ℕ)) → members_rise ms ≡ true
    → D.names_rise (D.members_of (map (λ m. (m.0, f m.1)) ms)) ≡ true
members_rise-built f [] h = refl
members_rise-built f (m ∷ ms) h =
    let both = and_parts (is_before m.0 ms) (members_rise ms) h in
    and_from (D.is_before m.0 (D.members_of (map (λ m. (m.0, f m.1)) ms)))
    (D.names_rise (D.members_of (map (λ m. (m.0, f m.1)) ms)))
    (rise-before f m.0 ms both.0) (members_rise-built f ms both.1)

-- ---- numbers that aren't below n

none_forward : (n : ℕ) (is : List ℕ) → find (λ i. nat_le n i) is ≡ None → every (λ i. nat_lt i n) is ≡ true
none_forward n [] h = refl
none_forward n (i ∷ is) h = grind (arith, h, none_forward n is)

-- a part that names no number from n on names only parts below n
pub below-none_forward : (n : ℕ) (p : Part) → first_forward n p ≡ None → names_below n p ≡ true
below-none_forward n p h = none_forward n (named p) h
