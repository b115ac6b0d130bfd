-- Tests of some and of all of a list, and what passes a filter.
use Rattle.std.proofs.Common.{◌≡◌, ℕ, zero, suc, ◌+◌, ◌<◌, ◌≤◌, inl, inr, Bool, true, false, ◌&&◌, ◌||◌, cond, nat_eq, List, [], ◌∷◌, ◌++◌, take, map, filter, slice_get, Some, refl, ap, ap₂, sym, ◌∙◌, subst, arith, map-id, nat_lt, nat_le, find, None}
use Rattle.std.proofs.Math.Numerals.{suc-eq-add-one}
use Rattle.std.proofs.lemmas.Bool.{and_parts, and_from, or_cases, or_left, or_right, or_from, or_parts, cases_lt, eqb-true, lt-leb, ltb-true}
use Rattle.std.proofs.lemmas.List.FromFn.{filter_of_map_range_with_len_more}
use Rattle.std.specs.List.{range_with_len, list_any, list_all}
use Rattle.std.specs.Bool.{beq}
use Rattle.documents.specs.Tests.{every, some, same_word}
use Rattle.list_laws.specs.In.{IsIn}
use Rattle.list_laws.proofs.Lists.{every_at, every_from, slice_get-in}
use Rattle.list_laws.proofs.Numbers.{nat_eq-refl, nat_eq_comm}

pub beq-true : (a b : Bool) → beq a b ≡ true → a ≡ b
beq-true true true e = refl
beq-true true false e = cc e
beq-true false true e = cc e
beq-true false false e = refl

pub some_find : {A : Type 0} (p : A → Bool) (xs : List A) → some p xs ≡ true → (x : A) × IsIn x xs × (p x ≡ true)
some_find p [] e = cc
some_find p (x ∷ xs) e = elim (or_cases (p x) (some p xs) e) [
  | inl h ↦ (x, inl refl, h)
  | inr h ↦ let (y, i, k) = some_find p xs h in (y, inr i, k)
]

pub some_from : {A : Type 0} (p : A → Bool) (x : A) (xs : List A) → IsIn x xs → p x ≡ true → some p xs ≡ true
some_from p x [] i e = absurd i
some_from p x (y ∷ xs) (inl q) e = or_left (p y) (some p xs) (subst (λ z. p z ≡ true) q e)
some_from p x (y ∷ xs) (inr i) e = or_right (p y) (some p xs) (some_from p x xs i e)

pub none_from : {A : Type 0} (p : A → Bool) (xs : List A) → ((x : A) → IsIn x xs → p x ≡ false) → some p xs ≡ false
none_from p [] h = refl
none_from p (x ∷ xs) h = or_from (p x) (some p xs) (h x (inl refl)) (none_from p xs (λ y i. h y (inr i)))

pub none_at : {A : Type 0} (p : A → Bool) (x : A) (xs : List A) → some p xs ≡ false → IsIn x xs → p x ≡ false
none_at p x [] e i = absurd i
none_at p x (y ∷ xs) e (inl q) = subst (λ z. p z ≡ false) (sym q) (or_parts (p y) (some p xs) e).0
none_at p x (y ∷ xs) e (inr i) = none_at p x xs (or_parts (p y) (some p xs) e).1 i

pub some-alike : {A : Type 0} (p q : A → Bool) (xs : List A) → ((x : A) → p x ≡ q x) → some p xs ≡ some q xs
some-alike p q [] h = refl
some-alike p q (x ∷ xs) h = ap₂ (λ a b. a || b) (h x) (some-alike p q xs h)

pub every_slice : {A : Type 0} (p : A → Bool) (xs : List A) (i : ℕ) (x : A) → every p xs ≡ true
    → slice_get xs i ≡ Some x → p x ≡ true
every_slice p xs i x e h = every_at p x xs e (slice_get-in x xs i h)

pub every_fails : {A : Type 0} (p : A → Bool) (xs : List A) → every p xs ≡ false → (x : A) × IsIn x xs × (p x ≡ false)
every_fails p [] e = cc
every_fails {A = A} p (x ∷ xs) e = go (p x) refl e (every_fails p xs) where
  go : (b : Bool) → p x ≡ b → (b && every p xs) ≡ false
      → (every p xs ≡ false → (y : A) × IsIn y xs × (p y ≡ false)) → (y : A) × IsIn y (x ∷ xs) × (p y ≡ false)
  go false h e more = (x, inl refl, h)
  go true h e more = let (y, i, k) = more e in (y, inr i, k)

-- what a filter leaves is in the list and passes the test
pub from_filter : {A : Type 0} (p : A → Bool) (x : A) (xs : List A) → IsIn x (filter p xs) → IsIn x xs × (p x ≡ true)
from_filter p x [] i = absurd i
from_filter p x (y ∷ xs) i = go (p y) refl i (from_filter p x xs) where
  go : (b : Bool) → p y ≡ b → IsIn x (cond b (y ∷ filter p xs) (filter p xs))
      → (IsIn x (filter p xs) → IsIn x xs × (p x ≡ true)) → IsIn x (y ∷ xs) × (p x ≡ true)
  go true e (inl q) more = (inl q, subst (λ z. p z ≡ true) (sym q) e)
  go true e (inr j) more = let (a, b) = more j in (inr a, b)
  go false e j more = let (a, b) = more j in (inr a, b)

pub in_range : (n j : ℕ) → j < n → IsIn j (range_with_len 0 n)
in_range n j l = go 0 n j (omega arith) (omega arith) where
  go : (a n j : ℕ) → a ≤ j → j < a + n → IsIn j (range_with_len a n)
  go a zero j x y = absurd (omega arith)
  go a (suc n) j x y = elim (cases_lt a j) [
    | inl l ↦
        inr (subst (λ z. IsIn j (range_with_len z n)) (suc-eq-add-one a) (go (suc a) n j (omega arith) (omega arith)))
    | inr l ↦ inl (omega arith)
  ]

pub from_range : (n j : ℕ) → IsIn j (range_with_len 0 n) → j < n
from_range n j i = let r = go 0 n j i in omega (arith, r) where
  go : (a n j : ℕ) → IsIn j (range_with_len a n) → j < a + n
  go a zero j i = absurd i
  go a (suc n) j (inl e) = omega (arith, e)
  go a (suc n) j (inr i) = omega (arith, go (a + 1) n j i)

pub every-range : (p : ℕ → Bool) (n : ℕ) → ((k : ℕ) → k < n → p k ≡ true) → every p (range_with_len 0 n) ≡ true
every-range p n h = every_from p (range_with_len 0 n) (λ k i. h k (from_range n k i))

pub filter-range_more : (p : ℕ → Bool) (n : ℕ)
    → filter p (range_with_len 0 (n + 1)) ≡ filter p (range_with_len 0 n) ++ cond (p n) (n ∷ []) []
filter-range_more p n =
    ap (filter p) (sym (map-id (range_with_len 0 (n + 1))))
    ∙ filter_of_map_range_with_len_more p (λ k. k) 0 n n (omega arith)
    ∙ ap (λ z. filter p z ++ cond (p n) (n ∷ []) []) (map-id (range_with_len 0 n))

-- none of numbers below n is n or more
pub find-none_below : (n : ℕ) (is : List ℕ) → every (λ i. nat_lt i n) is ≡ true → find (λ i. nat_le n i) is ≡ None
find-none_below n [] e = refl
find-none_below n (i ∷ is) e =
    let (a, b) = and_parts (nat_lt i n) (every (λ j. nat_lt j n) is) e in
    ap (λ t. cond t (Some i) (find (λ j. nat_le n j) is)) (lt-leb n i (ltb-true i n a)) ∙ find-none_below n is b

-- an element that passes makes std's test of some element pass
pub any_from : {A : Type 0} (p : A → Bool) (x : A) (xs : List A) → IsIn x xs → p x ≡ true → list_any p xs ≡ true
any_from p x [] i e = absurd i
any_from p x (y ∷ xs) (inl q) e = or_left (p y) (list_any p xs) (subst (λ z. p z ≡ true) q e)
any_from p x (y ∷ xs) (inr i) e = or_right (p y) (list_any p xs) (any_from p x xs i e)

pub any_find : {A : Type 0} (p : A → Bool) (xs : List A) → list_any p xs ≡ true → (x : A) × IsIn x xs × (p x ≡ true)
any_find p [] e = cc
any_find p (x ∷ xs) e = elim (or_cases (p x) (list_any p xs) e) [
  | inl h ↦ (x, inl refl, h)
  | inr h ↦ let (y, i, k) = any_find p xs h in (y, inr i, k)
]

pub all_from : {A : Type 0} (p : A → Bool) (xs : List A) → ((x : A) → IsIn x xs → p x ≡ true) → list_all p xs ≡ true
all_from p [] h = refl
all_from p (x ∷ xs) h = and_from (p x) (list_all p xs) (h x (inl refl)) (all_from p xs (λ y i. h y (inr i)))

pub all-take : {A : Type 0} (p : A → Bool) (n : ℕ) (xs : List A) → list_all p xs ≡ true → list_all p (take n xs) ≡ true
all-take p zero xs h = refl
all-take p (suc n) [] h = refl
all-take p (suc n) (x ∷ xs) h =
    let (a, b) = and_parts (p x) (list_all p xs) h in and_from (p x) (list_all p (take n xs)) a (all-take p n xs b)

pub list_any-alike : {A : Type 0} (p q : A → Bool) (xs : List A) → ((x : A) → p x ≡ q x)
    → list_any p xs ≡ list_any q xs
list_any-alike p q [] h = refl
list_any-alike p q (x ∷ xs) h = ap₂ (λ a b. a || b) (h x) (list_any-alike p q xs h)

-- and by the tests above, of what the elements stand for
pub list_any-some : {A B : Type 0} (p : B → Bool) (f : A → B) (xs : List A)
    → list_any (λ x. p (f x)) xs ≡ some p (map f xs)
list_any-some p f [] = refl
list_any-some p f (x ∷ xs) = ap (λ b. p (f x) || b) (list_any-some p f xs)

pub list_all-every : {A B : Type 0} (p : B → Bool) (f : A → B) (xs : List A)
    → list_all (λ x. p (f x)) xs ≡ every p (map f xs)
list_all-every p f [] = refl
list_all-every p f (x ∷ xs) = ap (λ b. p (f x) && b) (list_all-every p f xs)

-- words that are the same

pub same_word-refl : (w : List ℕ) → same_word w w ≡ true
same_word-refl [] = refl
same_word-refl (c ∷ w) = and_from (nat_eq c c) (same_word w w) (nat_eq-refl c) (same_word-refl w)

pub same_word_comm : (v w : List ℕ) → same_word v w ≡ same_word w v
same_word_comm [] [] = refl
same_word_comm [] (d ∷ w) = refl
same_word_comm (c ∷ v) [] = refl
same_word_comm (c ∷ v) (d ∷ w) = ap₂ (λ a b. a && b) (nat_eq_comm c d) (same_word_comm v w)

pub same_word-true : (v w : List ℕ) → same_word v w ≡ true → v ≡ w
same_word-true [] [] e = refl
same_word-true [] (d ∷ w) e = cc
same_word-true (c ∷ v) [] e = cc
same_word-true (c ∷ v) (d ∷ w) e =
    let (a, b) = and_parts (nat_eq c d) (same_word v w) e in
    ap₂ (λ x xs. x ∷ xs) (eqb-true c d a) (same_word-true v w b)
