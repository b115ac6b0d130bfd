-- The parts of a program's table meet `is_told`, so that its text is read back.
use Rattle.std.proofs.Common.{◌≡◌, ℕ, zero, suc, ◌+◌, ◌<◌, ◌≤◌, List, [], ◌∷◌, length, map, take, get_or, Bool, true, nat_lt, refl, sym, ap, ◌∙◌, arith}
use Rattle.std.proofs.lemmas.Bool.{and_parts, and_from, ltb-true, lt-ltb}
use Rattle.documents.specs.Tests.{every, is_scalar}
use Rattle.shared_documents.specs.Part.{Part, null, boolean, number, string, array, object, part_at, is_table, names_below, IsPart}
use Rattle.document_texts.specs.PartsText.{parts_text}
use Rattle.document_texts.specs.PartsRead.{is_named, is_member, is_told, IsRead}
use Rattle.js_text.specs.Scalars.{has_scalar_name, has_scalars}

-- one element more
pub every-next : {A : Type 0} (p : A → Bool) (xs : List A) (i : ℕ) (x : A) → i < length xs → x ≡ get_or xs i x
    → p x ≡ true → every p (take i xs) ≡ true → every p (take (i + 1) xs) ≡ true
every-next p [] i x l e h k = absurd (omega (arith, l))
every-next p (y ∷ ys) zero x l e h k = and_from (p y) true (ap p (sym e) ∙ h) refl
every-next p (y ∷ ys) (suc i) x l e h k =
    let one : suc i + 1 ≡ suc (i + 1) = omega arith in
    let (first, rest) = and_parts (p y) (every p (take i ys)) k in
    rw one (and_from (p y) (every p (take (i + 1) ys)) first (every-next p ys i x (omega (arith, l)) e h rest))

pub every-taken : {A : Type 0} (p : A → Bool) (xs : List A) (i : ℕ) → length xs ≤ i → every p (take i xs) ≡ true
    → every p xs ≡ true
every-taken p [] i l h = refl
every-taken p (x ∷ xs) zero l h = absurd (omega (arith, l))
every-taken p (x ∷ xs) (suc i) l h =
    let (first, rest) = and_parts (p x) (every p (take i xs)) h in
    and_from (p x) (every p xs) first (every-taken p xs i (omega (arith, l)) rest)

pub every-mapped : {A B : Type 0} (p : B → Bool) (f : A → B) (xs : List A) → every (λ x. p (f x)) xs ≡ true
    → every p (map f xs) ≡ true
every-mapped p f [] h = refl
every-mapped p f (x ∷ xs) h =
    let (first, rest) = and_parts (p (f x)) (every (λ y. p (f y)) xs) h in
    and_from (p (f x)) (every p (map f xs)) first (every-mapped p f xs rest)

-- numbers of parts below one of 32 bits

below_named : (n i : ℕ) → n ≤ 4294967296 → nat_lt i n ≡ true → is_named i ≡ true
below_named n i l h = lt-ltb i 4294967296 (omega (arith, l, ltb-true i n h))

named-all : (n : ℕ) (is : List ℕ) → n ≤ 4294967296 → every (λ i. nat_lt i n) is ≡ true → every is_named is ≡ true
named-all n [] l h = refl
named-all n (i ∷ is) l h =
    let (first, rest) = and_parts (nat_lt i n) (every (λ j. nat_lt j n) is) h in
    and_from (is_named i) (every is_named is) (below_named n i l first) (named-all n is l rest)

named-members : (n : ℕ) (ms : List (List ℕ × ℕ)) → n ≤ 4294967296 → every (λ i. nat_lt i n) (map (λ m. m.1) ms) ≡ true
    → every has_scalar_name ms ≡ true → every is_member ms ≡ true
named-members n [] l h k = refl
named-members n (m ∷ ms) l h k =
    let (first, rest) = and_parts (nat_lt m.1 n) (every (λ j. nat_lt j n) (map (λ m. m.1) ms)) h in
    let (name, names) = and_parts (has_scalar_name m) (every has_scalar_name ms) k in
    and_from (is_member m) (every is_member ms)
    (and_from (every is_scalar m.0) (is_named m.1) name (below_named n m.1 l first)) (named-members n ms l rest names)

pub told-of : (n : ℕ) (p : Part) → n ≤ 4294967296 → names_below n p ≡ true → has_scalars p ≡ true → is_told p ≡ true
told-of n null l h k = refl
told-of n (boolean b) l h k = refl
told-of n (number z) l h k = k
told-of n (string s) l h k = k
told-of n (array is) l h k = named-all n is l h
told-of n (object ms) l h k = named-members n ms l h k

-- one part more
pub told-next : (ps : List Part) (i : ℕ) (p : Part) → i < length ps → length ps ≤ 4294967295 → p ≡ part_at ps i
    → IsPart i p → has_scalars p ≡ true → every is_told (take i ps) ≡ true → every is_told (take (i + 1) ps) ≡ true
told-next ps i p l few e part h k =
    every-next is_told ps i p l (e ∙ part_at-get ps i p l)
    (told-of i p (omega (arith, l, few)) part.below h) k where
      part_at-get : (qs : List Part) (j : ℕ) (q : Part) → j < length qs → part_at qs j ≡ get_or qs j q
      part_at-get [] j q m = absurd (omega (arith, m))
      part_at-get (x ∷ qs) zero q m = refl
      part_at-get (x ∷ qs) (suc j) q m = part_at-get qs j q (omega (arith, m))

-- a table whose parts meet `is_told` is read back
pub read-table : (ps : List Part) (i : ℕ) → is_table ps ≡ true → 0 < length ps → length ps ≤ 4294967295
    → length ps ≤ i → every is_told (take i ps) ≡ true → IsRead ps (parts_text ps)
read-table ps i table some few end told =
    record { table = table; told = every-taken is_told ps i end told; some = some; few = few; text = refl }
