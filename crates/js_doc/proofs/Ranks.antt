-- The rank of a value, found in the sorted copy.
use Rattle.std.proofs.Common.{◌≡◌, ℕ, zero, suc, ◌+◌, ◌<◌, ◌≤◌, List, [], ◌∷◌, length, get_or, Bool, true, false, cond, Less, Equal, Greater, ◌||◌, Some, None, ℤ, ◌<ℤ◌, ◌≤ℤ◌, int_lt, inl, inr, refl, ap, sym, subst, ◌∙◌, arith, if◌then◌else◌}
use Rattle.std.specs.List.{AllZip, list_any, count_by}
use Rattle.std.specs.List.Sorted.{IsSorted, IsPartitionPoint, IsPartitionedBy}
use Rattle.std.specs.Ordering.{is_lt, int_cmp, int_eq}
use Rattle.std.proofs.lemmas.Bool.{cases_lt, false_from_ne_true}
use Rattle.std.proofs.lemmas.Bool.Decides.{Decides-int_eq}
use Rattle.std.proofs.lemmas.Cmp.{int_cmp_total}
use Rattle.std.proofs.lemmas.Int.{ints}
use Rattle.std.proofs.lemmas.List.Folds.{list_any_at}
use Rattle.std.proofs.lemmas.List.Sorted.{sorted_far, ranks_by}
use Rattle.std.proofs.lemmas.List.Sums.{sum_by-cons}
use Rattle.js_doc.specs.Numbers.{has, count_below, rank_of, IsSortedCopy}

-- ---- a copy

pub AllZip-same : (xs ys : List ℤ) → AllZip (λ x y. y ≡ x) xs ys → ys ≡ xs
AllZip-same [] [] h = refl
AllZip-same [] (y ∷ ys) h = absurd h
AllZip-same (x ∷ xs) [] h = absurd h
AllZip-same (x ∷ xs) (y ∷ ys) h = ap (λ z. z ∷ ys) h.0 ∙ ap (λ zs. x ∷ zs) (AllZip-same xs ys h.1)

-- ---- lists whose elements before a place pass a test, and those from it on don't

abbrev Splits : (ℤ → Bool) → List ℤ → ℕ → Type 0
Splits p = IsPartitionPoint (λ y. p y ≡ true) (λ y. p y ≡ false)

count_cons : (p : ℤ → Bool) (x : ℤ) (xs : List ℤ) (b : Bool) → p x ≡ b
    → count_by p (x ∷ xs) ≡ cond b 1 0 + count_by p xs
count_cons p x xs b e = sum_by-cons (λ y. cond (p y) 1 0) x xs ∙ ap (λ t. cond t 1 0 + count_by p xs) e

count_by-split : (p : ℤ → Bool) (xs : List ℤ) (i : ℕ) → i ≤ length xs → Splits p xs i → count_by p xs ≡ i
count_by-split p [] i l h = omega arith
count_by-split p (x ∷ xs) zero l h =
    let rest = count_by-split p xs zero (omega arith)
    (λ k d m n. absurd (omega arith), λ k d m n. h.1 (suc k) d (omega arith) (omega arith)) in
    count_cons p x xs false (h.1 0 x (omega arith) (omega arith)) ∙ omega (arith, rest)
count_by-split p (x ∷ xs) (suc i) l h =
    let rest = count_by-split p xs i (omega arith)
    (λ k d m n. h.0 (suc k) d (omega arith) (omega arith), λ k d m n. h.1 (suc k) d (omega arith) (omega arith)) in
    count_cons p x xs true (h.0 0 x (omega arith) (omega arith)) ∙ omega (arith, rest)

list_any_nowhere : (p : ℤ → Bool) (xs : List ℤ) → ((k : ℕ) (d : ℤ) → k < length xs → p (get_or xs k d) ≡ false)
    → list_any p xs ≡ false
list_any_nowhere p [] h = refl
list_any_nowhere p (x ∷ xs) h =
    ap (λ b. b || list_any p xs) (h 0 x (omega arith))
    ∙ list_any_nowhere p xs (λ k d l. h (suc k) d (omega arith))

-- ---- ascending lists

is_lt-int_cmp : (x y : ℤ) → is_lt (int_cmp x y) ≡ int_lt x y
is_lt-int_cmp x y = go (int_lt x y) (int_lt y x)
  where
    go : (a b : Bool) → is_lt (cond a Less (cond b Greater Equal)) ≡ a
    go true b = refl
    go false true = refl
    go false false = refl

not_lt_from : (a b : ℤ) → int_lt a b ≡ false → b ≤ℤ a
not_lt_from a b e = grind (arith, ints)

lt_true : (a b : ℤ) → a <ℤ b → int_lt a b ≡ true
lt_true a b e = grind (arith, ints)

not_lt_true : (a b : ℤ) → b ≤ℤ a → int_lt a b ≡ false
not_lt_true a b e = grind (arith, ints)

-- a value is at most any later one
pub ascends : (s : List ℤ) → IsSorted int_cmp s → (i j : ℕ) (d : ℤ) → i ≤ j → j < length s
    → get_or s i d ≤ℤ get_or s j d
ascends s h i j d l m =
    let far = sorted_far (λ x y. is_lt (int_cmp x y)) (ranks_by int_cmp_total (λ x. x)) s h i j d l m in
    not_lt_from (get_or s j d) (get_or s i d) (sym (is_lt-int_cmp (get_or s j d) (get_or s i d)) ∙ far)

lt_from : (a b : ℤ) → int_lt a b ≡ true → a <ℤ b
lt_from a b e = grind (arith, ints)

lesser : (a b n : ℤ) → a ≤ℤ b → b <ℤ n → a <ℤ n
lesser a b n le lt = omega (arith, ints, le, lt)

-- those below n come first
pub parted_by : (s : List ℤ) → IsSorted int_cmp s → (n : ℤ) → IsPartitionedBy (λ y. int_lt y n) s
parted_by s h n = λ i j d l m e.
    lt_true (get_or s i d) n
    (lesser (get_or s i d) (get_or s j d) n (ascends s h i j d l m) (lt_from (get_or s j d) n e))

-- ---- ranks

-- the values that are below n come before the place, and the others from it on
abbrev pub PartsAt : List ℤ → ℤ → ℕ → Type 0
PartsAt s n i = IsPartitionPoint (λ y. y <ℤ n) (λ y. n ≤ℤ y) s i

-- what the tests of a binary search say
pub parts_at : (s : List ℤ) (n : ℤ) (i : ℕ)
    → IsPartitionPoint (λ y. int_lt y n ≡ true) (λ y. int_lt y n ≡ false) s i → PartsAt s n i
parts_at s n i h = (
  (λ k d l m. lt_from (get_or s k d) n (h.0 k d l m)),
  (λ k d l m. not_lt_from (get_or s k d) n (h.1 k d l m)),
)

pub parted_alike : (s t : List ℤ) (n m : ℤ) (i : ℕ) → s ≡ t → n ≡ m → PartsAt s n i → PartsAt t m i
parted_alike s t n m i e f h = subst (λ z. PartsAt t z i) f (subst (λ zs. PartsAt zs n i) e h)

rank_by : (xs : List ℤ) (n : ℤ) (b : Bool) → has xs n ≡ b
    → rank_of xs n ≡ (if b then Some (count_below xs n) else None)
rank_by xs n b e = ap (λ t. if t then Some (count_below xs n) else None) e

-- the value at the place where those below n end
pub rank_of-found : (xs s : List ℤ) (n : ℤ) (i : ℕ) → IsSortedCopy xs s
    → PartsAt s n i → i < length s → get_or s i n ≡ n
    → Some i ≡ rank_of xs n
rank_of-found xs s n i h p l e =
    let here = list_any_at (λ y. int_eq y n) s i n l ((Decides-int_eq (get_or s i n) n).1 e) in
    let count = count_by-split (λ y. int_lt y n) s i (omega arith)
    (λ k d a b. lt_true _ _ (p.0 k d a b), λ k d a b. not_lt_true _ _ (p.1 k d a b)) in
    ap Some (sym count ∙ h.same_count (λ y. int_lt y n))
    ∙ sym (rank_by xs n true (sym (h.same_any (λ y. int_eq y n)) ∙ here))

-- another value is there, or none
pub rank_of-none : (xs s : List ℤ) (n : ℤ) (i : ℕ) → IsSortedCopy xs s
    → PartsAt s n i
    → ((d : ℤ) → i < length s → get_or s i d ≡ n → ⊥) → None ≡ rank_of xs n
rank_of-none xs s n i h p other =
    let nowhere = list_any_nowhere (λ y. int_eq y n) s (λ k d l.
    false_from_ne_true (int_eq (get_or s k d) n) (λ e. at k d l ((Decides-int_eq (get_or s k d) n).0 e))) in
    sym (rank_by xs n false (sym (h.same_any (λ y. int_eq y n)) ∙ nowhere))
  where
    at : (k : ℕ) (d : ℤ) → k < length s → get_or s k d ≡ n → ⊥
    at k d l e = elim (cases_lt k i) [
      | inl b ↦ let less = p.0 k d (omega arith) b in omega (arith, ints, e)
      | inr b ↦
          let le = ascends s h.ascending i k d b l in
          let ge = p.1 i d (omega arith) (omega arith) in
          other d (omega arith) (omega (arith, ints, e))
    ]
