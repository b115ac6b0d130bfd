-- Members in the order of their names: there is one such list.
use Rattle.std.proofs.Common.{◌≡◌, ℕ, zero, suc, ◌+◌, ◌<◌, ◌⊎◌, inl, inr, List, [], ◌∷◌, map, length, get_or, Bool, true, false, not, ◌||◌, cond, Ordering, Less, Equal, Greater, nat_cmp, refl, ap, ap₂, sym, ◌∙◌, subst, arith, true≢false, suc-add}
use Rattle.std.specs.Ordering.{is_lt}
use Rattle.std.specs.Cmp.{IsStrictWeakOrder}
use Rattle.std.proofs.lemmas.Bool.{and_parts, and_from, cases_order, not-true, false_from_ne_true}
use Rattle.documents.specs.Tests.{every, some, same_word, comes_before}
use Rattle.documents.proofs.NameOrder.{comes_before-same, comes_before-trans, smaller_first, same_first}
use Rattle.alternatives.specs.Slots.{are_different}
use Rattle.shared_documents.specs.Part.{is_before, members_rise}
use Rattle.search.specs.Witness.{put, sorted}
use Rattle.list_laws.specs.In.{IsIn}
use Rattle.list_laws.proofs.Lists.{every_at, in_map, from_map}
use Rattle.std.specs.List.{AllByRecursion, Contains, IsDistinct}
use Rattle.std.specs.Prelude.{IsPermutation, IsSortedBy, IsUtf8, chars}
use Rattle.std.specs.Cmp.Lexicographic.{slice_cmp}
use Rattle.std.proofs.lemmas.List.Sorted.{Contains-permutation, IsPermutation-sym}
use Rattle.std.proofs.lemmas.Map.Keys.{IsDistinct-IsPermutation}
use Rattle.js_doc.proofs.WordOrder.{comes_before-chars, comes_after-chars, same_text}
use Rattle.list_laws.proofs.Tests.{none_at, same_word-refl, same_word_comm}

-- names

-- of two names one comes first, or they are the same
data Order (v w : List ℕ) : Type 0 where
  first : comes_before v w ≡ true → Order v w
  same : v ≡ w → Order v w
  last : comes_before w v ≡ true → Order v w

order : (v w : List ℕ) → Order v w
order [] [] = same refl
order [] (d ∷ w) = first refl
order (c ∷ v) [] = last refl
order (c ∷ v) (d ∷ w) = go (cases_order c d) (order v w) where
  go : (c ≡ d) ⊎ ((c < d) ⊎ (d < c)) → Order v w → Order (c ∷ v) (d ∷ w)
  go (inr (inl l)) o = first (smaller_first c d v w l)
  go (inr (inr l)) o = last (smaller_first d c w v l)
  go (inl e) (first h) = first (same_first c d v w e h)
  go (inl e) (same h) = same (ap₂ (λ x xs. x ∷ xs) e h)
  go (inl e) (last h) = last (same_first d c w v (sym e) h)

apart : (v w : List ℕ) → comes_before v w ≡ true → comes_before w v ≡ true → ⊥
apart v w h k = true≢false (sym (comes_before-trans v w v h k) ∙ comes_before-same v)

-- what the sort wants of the order
pub names_ranked : {A : Type 0} (name : A → List ℕ) → IsStrictWeakOrder (λ x y. comes_before (name x) (name y))
names_ranked name = record {
  one_way = λ x y h. false_from_ne_true (comes_before (name y) (name x)) (apart (name x) (name y) h);
  chain = λ x y z h k. false_from_ne_true (comes_before (name x) (name z)) (λ l. go (name x) (name y) (name z) h k l
      (order (name x) (name y)) (order (name y) (name z)));
} where
  go : (x y z : List ℕ) → comes_before x y ≡ false → comes_before y z ≡ false → comes_before x z ≡ true
      → Order x y → Order y z → ⊥
  go x y z h k l (first e) o = true≢false (sym e ∙ h)
  go x y z h k l p (first e) = true≢false (sym e ∙ k)
  go x y z h k l (same e) (same q) = true≢false (sym l ∙ ap (λ v. comes_before v z) (e ∙ q) ∙ comes_before-same z)
  go x y z h k l (same e) (last q) = apart x z l (subst (λ v. comes_before z v ≡ true) (sym e) q)
  go x y z h k l (last e) (same q) = apart x z l (subst (λ v. comes_before v x ≡ true) q e)
  go x y z h k l (last e) (last q) = apart x z l (comes_before-trans z y x q e)

-- rising members

abbrev Rises : List (List ℕ × ℕ) → Type 0
Rises [] = Unit {0}
Rises (m ∷ ms) = (every (λ x. comes_before m.0 x.0) ms ≡ true) × Rises ms

later_too : (v w : List ℕ) (ms : List (List ℕ × ℕ)) → comes_before v w ≡ true
    → every (λ x. comes_before w x.0) ms ≡ true → every (λ x. comes_before v x.0) ms ≡ true
later_too v w [] h e = refl
later_too v w (m ∷ ms) h e =
    let (a, b) = and_parts (comes_before w m.0) (every (λ x. comes_before w x.0) ms) e in
    and_from (comes_before v m.0) (every (λ x. comes_before v x.0) ms) (comes_before-trans v w m.0 h a)
    (later_too v w ms h b)

all_later : (v : List ℕ) (ms : List (List ℕ × ℕ)) → is_before v ms ≡ true → Rises ms
    → every (λ x. comes_before v x.0) ms ≡ true
all_later v [] h r = refl
all_later v (m ∷ ms) h r =
    and_from (comes_before v m.0) (every (λ x. comes_before v x.0) ms) h (later_too v m.0 ms h r.0)

rises_from : (ms : List (List ℕ × ℕ)) → members_rise ms ≡ true → Rises ms
rises_from [] e = tt
rises_from (m ∷ ms) e =
    let (a, b) = and_parts (is_before m.0 ms) (members_rise ms) e in
    let r = rises_from ms b in
    (all_later m.0 ms a r, r)

-- lists that rise and have the same members
pub same_members : (ms ns : List (List ℕ × ℕ)) → members_rise ms ≡ true → members_rise ns ≡ true
    → ((m : List ℕ × ℕ) → IsIn m ms → IsIn m ns) → ((m : List ℕ × ℕ) → IsIn m ns → IsIn m ms) → ms ≡ ns
same_members ms ns a b h k = go ms ns (rises_from ms a) (rises_from ns b) h k where
  behind : (v : List ℕ) (ms : List (List ℕ × ℕ)) → every (λ x. comes_before v x.0) ms ≡ true
      → (m : List ℕ × ℕ) → IsIn m ms → comes_before v m.0 ≡ true
  behind v ms e m i = every_at (λ x. comes_before v x.0) m ms e i

  head : (a b : List ℕ × ℕ) → (a ≡ b) ⊎ (comes_before b.0 a.0 ≡ true) → (b ≡ a) ⊎ (comes_before a.0 b.0 ≡ true)
      → a ≡ b
  head a b (inl e) y = e
  head a b (inr x) (inl e) = sym e
  head a b (inr x) (inr y) = absurd (apart b.0 a.0 x y)

  go : (ms ns : List (List ℕ × ℕ)) → Rises ms → Rises ns
      → ((m : List ℕ × ℕ) → IsIn m ms → IsIn m ns) → ((m : List ℕ × ℕ) → IsIn m ns → IsIn m ms) → ms ≡ ns
  go [] [] r s h k = refl
  go [] (b ∷ ns) r s h k = absurd (k b (inl refl))
  go (a ∷ ms) [] r s h k = absurd (h a (inl refl))
  go (a ∷ ms) (b ∷ ns) r s h k = ap₂ (λ x xs. x ∷ xs) first_same
      (go ms ns r.1 s.1 (λ m i. rest m (h m (inr i)) i) (λ m i. back m (k m (inr i)) i)) where
        to : (m x : List ℕ × ℕ) (ms : List (List ℕ × ℕ)) → every (λ y. comes_before x.0 y.0) ms ≡ true
            → (m ≡ x) ⊎ IsIn m ms → (m ≡ x) ⊎ (comes_before x.0 m.0 ≡ true)
        to m x ms e (inl s) = inl s
        to m x ms e (inr i) = inr (behind x.0 ms e m i)

        first_same : a ≡ b
        first_same = head a b (to a b ns s.0 (h a (inl refl))) (to b a ms r.0 (k b (inl refl)))

        no_head : (m : List ℕ × ℕ) → m ≡ a → IsIn m ms → ⊥
        no_head m e i =
            true≢false (sym (behind a.0 ms r.0 m i) ∙ ap (λ z. comes_before a.0 z.0) e ∙ comes_before-same a.0)

        no_other : (m : List ℕ × ℕ) → m ≡ b → IsIn m ns → ⊥
        no_other m e i =
            true≢false (sym (behind b.0 ns s.0 m i) ∙ ap (λ z. comes_before b.0 z.0) e ∙ comes_before-same b.0)

        rest : (m : List ℕ × ℕ) → (m ≡ b) ⊎ IsIn m ns → IsIn m ms → IsIn m ns
        rest m (inl e) i = absurd (no_head m (e ∙ sym first_same) i)
        rest m (inr j) i = j

        back : (m : List ℕ × ℕ) → (m ≡ a) ⊎ IsIn m ms → IsIn m ns → IsIn m ms
        back m (inl e) i = absurd (no_other m (e ∙ first_same) i)
        back m (inr j) i = j

-- the definition's list

put_in : (k : List ℕ) (i : ℕ) (ms : List (List ℕ × ℕ)) (m : List ℕ × ℕ) → IsIn m (put k i ms)
    → (m ≡ (k, i)) ⊎ IsIn m ms
put_in k i [] m j = j
put_in k i (x ∷ ms) m j = go (comes_before k x.0) j (put_in k i ms m) where
  go : (b : Bool) → IsIn m (cond b ((k, i) ∷ x ∷ ms) (x ∷ put k i ms))
      → (IsIn m (put k i ms) → (m ≡ (k, i)) ⊎ IsIn m ms) → (m ≡ (k, i)) ⊎ IsIn m (x ∷ ms)
  go true j more = j
  go false (inl e) more = inr (inl e)
  go false (inr j) more = by (more j) where
    by : (m ≡ (k, i)) ⊎ IsIn m ms → (m ≡ (k, i)) ⊎ IsIn m (x ∷ ms)
    by (inl e) = inl e
    by (inr l) = inr (inr l)

in_put : (k : List ℕ) (i : ℕ) (ms : List (List ℕ × ℕ)) (m : List ℕ × ℕ) → (m ≡ (k, i)) ⊎ IsIn m ms
    → IsIn m (put k i ms)
in_put k i [] m j = j
in_put k i (x ∷ ms) m j = go (comes_before k x.0) j (in_put k i ms m) where
  go : (b : Bool) → (m ≡ (k, i)) ⊎ IsIn m (x ∷ ms) → ((m ≡ (k, i)) ⊎ IsIn m ms → IsIn m (put k i ms))
      → IsIn m (cond b ((k, i) ∷ x ∷ ms) (x ∷ put k i ms))
  go true j more = j
  go false (inl e) more = inr (more (inl e))
  go false (inr (inl e)) more = inl e
  go false (inr (inr l)) more = inr (more (inr l))

pub sorted_in : (ms : List (List ℕ × ℕ)) (m : List ℕ × ℕ) → IsIn m (sorted ms) → IsIn m ms
sorted_in [] m i = i
sorted_in (x ∷ ms) m i = go (put_in x.0 x.1 (sorted ms) m i) (sorted_in ms m) where
  go : (m ≡ (x.0, x.1)) ⊎ IsIn m (sorted ms) → (IsIn m (sorted ms) → IsIn m ms) → (m ≡ x) ⊎ IsIn m ms
  go (inl e) more = inl e
  go (inr j) more = inr (more j)

pub in_sorted : (ms : List (List ℕ × ℕ)) (m : List ℕ × ℕ) → IsIn m ms → IsIn m (sorted ms)
in_sorted [] m i = i
in_sorted (x ∷ ms) m i = in_put x.0 x.1 (sorted ms) m (go i (in_sorted ms m)) where
  go : (m ≡ x) ⊎ IsIn m ms → (IsIn m ms → IsIn m (sorted ms)) → (m ≡ (x.0, x.1)) ⊎ IsIn m (sorted ms)
  go (inl e) more = inl e
  go (inr j) more = inr (more j)

is_before_put : (v k : List ℕ) (i : ℕ) (ms : List (List ℕ × ℕ)) → comes_before v k ≡ true → is_before v ms ≡ true
    → is_before v (put k i ms) ≡ true
is_before_put v k i [] h e = h
is_before_put v k i (x ∷ ms) h e = go (comes_before k x.0) where
  go : (b : Bool) → is_before v (cond b ((k, i) ∷ x ∷ ms) (x ∷ put k i ms)) ≡ true
  go true = h
  go false = e

put_rises : (k : List ℕ) (i : ℕ) (ms : List (List ℕ × ℕ)) → ((m : List ℕ × ℕ) → IsIn m ms → same_word k m.0 ≡ false)
    → members_rise ms ≡ true → members_rise (put k i ms) ≡ true
put_rises k i [] h e = refl
put_rises k i (x ∷ ms) h e =
    let (a, b) = and_parts (is_before x.0 ms) (members_rise ms) e in
    go (comes_before k x.0) refl (order k x.0) a (put_rises k i ms (λ m j. h m (inr j)) b) where
      go : (t : Bool) → comes_before k x.0 ≡ t → Order k x.0 → is_before x.0 ms ≡ true
          → members_rise (put k i ms) ≡ true
          → members_rise (cond t ((k, i) ∷ x ∷ ms) (x ∷ put k i ms)) ≡ true
      go true q o a more = and_from (comes_before k x.0) (members_rise (x ∷ ms)) q e
      go false q (first l) a more = absurd (true≢false (sym l ∙ q))
      go false q (same l) a more =
          absurd (true≢false (sym (ap (λ v. same_word k v) (sym l) ∙ same_word-refl k) ∙ h x (inl refl)))
      go false q (last l) a more =
          and_from (is_before x.0 (put k i ms)) (members_rise (put k i ms)) (is_before_put x.0 k i ms l a) more

pub sorted_rises : (ms : List (List ℕ × ℕ)) → are_different same_word (map (λ m. m.0) ms) ≡ true
    → members_rise (sorted ms) ≡ true
sorted_rises [] e = refl
sorted_rises (x ∷ ms) e =
    let (a, b) = and_parts (not (some (same_word x.0) (map (λ m. m.0) ms))) (are_different same_word (map (λ m.
    m.0) ms)) e in
    put_rises x.0 x.1 (sorted ms) (λ m i. other ms a m (sorted_in ms m i)) (sorted_rises ms b) where
      other : (ms : List (List ℕ × ℕ)) → not (some (same_word x.0) (map (λ m. m.0) ms)) ≡ true
          → (m : List ℕ × ℕ) → IsIn m ms → same_word x.0 m.0 ≡ false
      other ms a m i =
          none_at (same_word x.0) m.0 (map (λ m. m.0) ms) (not-true (some (same_word x.0) (map (λ m. m.0) ms)) a)
          (in_map (λ (m : List ℕ × ℕ). m.0) m ms i)

-- what the program's sort leaves

module _ {A : Type 0} (name : A → List ℕ) (part : A → ℕ) where
  abbrev View : A → List ℕ × ℕ
  View x = (name x, part x)

  abbrev Same : A → A → Bool
  Same x y = same_word (name x) (name y)

  none_same : (x : A) (xs : List A) → some (same_word (name x)) (map (λ m. m.0) (map View xs)) ≡ false
      → AllByRecursion (λ y. same_word (name x) (name y) ≡ false) xs
  none_same x [] e = tt
  none_same x (y ∷ xs) e = go (same_word (name x) (name y)) refl e (none_same x xs) where
    go : (b : Bool) → same_word (name x) (name y) ≡ b
        → (b || some (same_word (name x)) (map (λ m. m.0) (map View xs))) ≡ false
        → (some (same_word (name x)) (map (λ m. m.0) (map View xs)) ≡ false
        → AllByRecursion (λ y. same_word (name x) (name y) ≡ false) xs)
        → (same_word (name x) (name y) ≡ false) × AllByRecursion (λ y. same_word (name x) (name y) ≡ false) xs
    go true q e more = cc
    go false q e more = (q, more e)

  distinct : (xs : List A) → are_different same_word (map (λ m. m.0) (map View xs)) ≡ true
      → IsDistinct (λ x y. same_word (name x) (name y)) xs
  unfolding IsDistinct
  distinct [] e = tt
  distinct (x ∷ xs) e =
      let (a, b) = and_parts (not (some (same_word (name x)) (map (λ m. m.0) (map View xs))))
      (are_different same_word (map (λ m. m.0) (map View xs))) e in
      (none_same x xs (not-true (some (same_word (name x)) (map (λ m. m.0) (map View xs))) a), distinct xs b)

  rising : (ys : List A) → IsDistinct (λ x y. same_word (name x) (name y)) ys
      → ((k : ℕ) (d : A) → k + 1 < length ys
      → comes_before (name (get_or ys (k + 1) d)) (name (get_or ys k d)) ≡ false)
      → members_rise (map View ys) ≡ true
  unfolding IsDistinct
  rising [] d h = refl
  rising (x ∷ []) d h = refl
  rising (x ∷ y ∷ ys) d h =
      and_from (comes_before (name x) (name y)) (members_rise (map View (y ∷ ys)))
      (go (order (name x) (name y)) d.0.0 (h 0 x (omega arith)))
      (rising (y ∷ ys) d.1 (λ k e l. next k e (h (suc k) e (omega (arith, l)))))
    where
      go : Order (name x) (name y) → same_word (name x) (name y) ≡ false → comes_before (name y) (name x) ≡ false
          → comes_before (name x) (name y) ≡ true
      go (first l) e k = l
      go (same l) e k =
          absurd (true≢false (sym (ap (λ v. same_word (name x) v) (sym l) ∙ same_word-refl (name x)) ∙ e))
      go (last l) e k = absurd (true≢false (sym l ∙ k))

      next : (k : ℕ) (e : A)
          → comes_before (name (get_or (x ∷ y ∷ ys) (suc k + 1) e)) (name (get_or (x ∷ y ∷ ys) (suc k) e)) ≡ false
          → comes_before (name (get_or (y ∷ ys) (k + 1) e)) (name (get_or (y ∷ ys) k e)) ≡ false
      next k e q =
          subst (λ z. comes_before (name (get_or (x ∷ y ∷ ys) z e)) (name (get_or (y ∷ ys) k e)) ≡ false) (suc-add k 1)
          q

  contains_in : (xs : List A) (x : A) → Contains xs x → IsIn x xs
  contains_in [] x (k, l, e) = absurd (omega (arith, l))
  contains_in (y ∷ xs) x (zero, l, e) = inl (sym e)
  contains_in (y ∷ xs) x (suc k, l, e) = inr (contains_in xs x (k, omega (arith, l), e))

  in_contains : (xs : List A) (x : A) → IsIn x xs → Contains xs x
  in_contains [] x i = absurd i
  in_contains (y ∷ xs) x (inl e) = (0, omega arith, sym e)
  in_contains (y ∷ xs) x (inr i) = let (k, l, e) = in_contains xs x i in (suc k, omega (arith, l), e)

  moved : (xs ys : List A) → IsPermutation xs ys → (m : List ℕ × ℕ) → IsIn m (map View xs) → IsIn m (map View ys)
  moved xs ys p m i =
      let (x, j, e) = from_map View m xs i in
      subst (λ z. IsIn z (map View ys)) (sym e)
      (in_map View x ys (contains_in ys x (Contains-permutation xs ys x p (in_contains xs x j))))

  pub sort_rises : (xs ys : List A) → IsPermutation xs ys
      → IsSortedBy (λ x y. comes_before (name x) (name y)) ys
      → are_different same_word (map (λ m. m.0) (map View xs)) ≡ true → members_rise (map View ys) ≡ true
  sort_rises xs ys p h d =
      rising ys (IsDistinct-IsPermutation (λ x y. same_word (name x) (name y)) (λ x y. same_word_comm (name x)
      (name y)) xs ys p
      (distinct xs d)) (λ k e l. h k e (omega arith) l)

  pub sort_same : (xs ys : List A) → IsPermutation xs ys
      → IsSortedBy (λ x y. comes_before (name x) (name y)) ys
      → are_different same_word (map (λ m. m.0) (map View xs)) ≡ true → map View ys ≡ sorted (map View xs)
  sort_same xs ys p h d =
      same_members (map View ys) (sorted (map View xs)) (sort_rises xs ys p h d) (sorted_rises (map View xs) d)
      (λ m i. in_sorted (map View xs) m (moved ys xs (IsPermutation-sym xs ys p) m i))
      (λ m i. moved xs ys p m (sorted_in (map View xs) m i))

-- the order of texts
pub compare_is : (a b v w : List ℕ) (o : Ordering) → IsUtf8 a → IsUtf8 b → chars a ≡ v → chars b ≡ w
    → o ≡ slice_cmp nat_cmp a b → is_lt o ≡ comes_before v w
compare_is a b v w o u k e f c = go (slice_cmp nat_cmp a b) refl ∙ ap₂ comes_before e f where
  go : (p : Ordering) → slice_cmp nat_cmp a b ≡ p → is_lt o ≡ comes_before (chars a) (chars b)
  go Less q = ap is_lt (c ∙ q) ∙ sym (comes_before-chars a b u k q)
  go Equal q =
      ap is_lt (c ∙ q)
      ∙ sym (ap (λ z. comes_before (chars z) (chars b)) (same_text a b q) ∙ comes_before-same (chars b))
  go Greater q =
      ap is_lt (c ∙ q)
      ∙ sym
      (false_from_ne_true (comes_before (chars a) (chars b))
      (λ h. apart (chars a) (chars b) h (comes_after-chars a b u k q)))
