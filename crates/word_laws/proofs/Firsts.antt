-- The characters that begin a class, in order: there is one list of them.
use Rattle.std.proofs.Common.{◌≡◌, ℕ, zero, suc, ◌+◌, ◌<◌, ◌≤◌, ◌⊎◌, inl, inr, ⊎_elim, List, [], ◌∷◌, ◌++◌, Bool, true, false, ◌&&◌, cond, if◌then◌else◌, nat_eq, nat_lt, nat_le, filter, flat_map, refl, ap₂, sym, ◌∙◌, subst, eqb-true, append-nil, append_assoc, arith}
use Rattle.std.specs.Cmp.{IsEquivalence}
use Rattle.std.specs.List.{list_any, range_with_len, IsDistinct, AllByRecursion}
use Rattle.std.proofs.lemmas.Bool.{and_parts, or_cases, ltb-true, leb-true}
use Rattle.patterns.specs.CharSet.{is_scalar, group_of, comes_no_later}
use Rattle.word_states.specs.Mention.{mention, mention_all}
use Rattle.word_states.specs.Classes.{are_alike, ordered_below, characters, firsts_among}
use Rattle.word_laws.proofs.Mentions as M
use Rattle.list_laws.proofs.Lists.{in_left, in_right, from_append, from_flat_map}
use Rattle.list_laws.proofs.Tests.{from_filter}
use Rattle.list_laws.specs.In.{IsIn}
use Rattle.word_laws.proofs.Classes.{alike_laws, ordered_has, ordered_only, scalar_below, in_range}

-- ---- the order of characters
abbrev pub Before : ℕ → ℕ → Type 0
Before c d = (group_of c < group_of d) ⊎ ((group_of c ≡ group_of d) × (c < d))

before_next : (c d e : ℕ) → Before c d → Before d e → Before c e
before_next c d e (inl l) (inl m) = inl (omega arith)
before_next c d e (inl l) (inr m) = inl (let q = m.0 in omega (arith, q))
before_next c d e (inr l) (inl m) = inl (let q = l.0 in omega (arith, q))
before_next c d e (inr l) (inr m) = inr (l.0 ∙ m.0, (let p = l.1 in let q = m.1 in omega (arith, p, q)))

not_before : (c : ℕ) → Before c c → ⊥
not_before c (inl l) = let n : ⊥ = omega arith in n
not_before c (inr l) = let p = l.1 in let n : ⊥ = omega (arith, p) in n

pub before_or_same : (c d : ℕ) → comes_no_later c d ≡ true → Before c d ⊎ (c ≡ d)
before_or_same c d e = elim (or_cases (nat_lt (group_of c) (group_of d))
    (nat_eq (group_of c) (group_of d) && nat_le c d) e) [
      | inl l ↦ inl (inl (ltb-true (group_of c) (group_of d) l))
      | inr r ↦
          let (g, l) = and_parts (nat_eq (group_of c) (group_of d)) (nat_le c d) r in
          split (eqb-true (group_of c) (group_of d) g) (leb-true c d l)
    ] where
      split : group_of c ≡ group_of d → c ≤ d → Before c d ⊎ (c ≡ d)
      split g l = elim (last l) [
        | inl m ↦ inl (inr (g, m))
        | inr q ↦ inr q
      ] where
        last : c ≤ d → (c < d) ⊎ (c ≡ d)
        last l = grind (arith, l)

-- ---- lists in that order
abbrev pub Rising : List ℕ → Type 0
Rising [] = Unit {0}
Rising (c ∷ cs) = ((d : ℕ) → IsIn d cs → Before c d) × Rising cs

rising_append : (cs ds : List ℕ) → Rising cs → Rising ds → ((c d : ℕ) → IsIn c cs → IsIn d ds → Before c d)
    → Rising (cs ++ ds)
rising_append [] ds a b h = b
rising_append (c ∷ cs) ds a b h = (
  (λ d i. ⊎_elim (λ l. a.0 d l) (λ r. h c d (inl refl) r) (from_append d cs ds i)),
  rising_append cs ds a.1 b (λ e d i j. h e d (inr i) j),
)

-- lists in that order with the same members are equal
rising_same : (cs ds : List ℕ) → Rising cs → Rising ds → ((c : ℕ) → IsIn c cs → IsIn c ds)
    → ((c : ℕ) → IsIn c ds → IsIn c cs) → cs ≡ ds
rising_same [] [] a b h k = refl
rising_same [] (d ∷ ds) a b h k = absurd (k d (inl refl))
rising_same (c ∷ cs) [] a b h k = absurd (h c (inl refl))
rising_same (c ∷ cs) (d ∷ ds) a b h k =
    let e : c ≡ d = head (h c (inl refl)) (k d (inl refl)) in
    ap₂ (λ x xs. x ∷ xs) e
    (rising_same cs ds a.1 b.1 (λ x i. tail_left x e i (h x (inr i))) (λ x i. tail_right x e i (k x (inr i)))) where
      head : (c ≡ d) ⊎ IsIn c ds → (d ≡ c) ⊎ IsIn d cs → c ≡ d
      head (inl e) j = e
      head (inr i) (inl e) = sym e
      head (inr i) (inr j) = absurd (not_before c (before_next c d c (a.0 d j) (b.0 c i)))

      tail_left : (x : ℕ) → c ≡ d → IsIn x cs → (x ≡ d) ⊎ IsIn x ds → IsIn x ds
      tail_left x e i (inl q) = absurd (not_before c (subst (λ z. Before c z) (q ∙ sym e) (a.0 x i)))
      tail_left x e i (inr j) = j

      tail_right : (x : ℕ) → c ≡ d → IsIn x ds → (x ≡ c) ⊎ IsIn x cs → IsIn x cs
      tail_right x e i (inl q) = absurd (not_before d (subst (λ z. Before d z) (q ∙ e) (b.0 x i)))
      tail_right x e i (inr j) = j

rising_filter : (test : ℕ → Bool) (g a n : ℕ) → ((c : ℕ) → test c ≡ true → group_of c ≡ g)
    → Rising (filter test (range_with_len a n))
rising_filter test g a zero h = tt
rising_filter test g a (suc n) h = go (test a) refl (rising_filter test g (a + 1) n h) where
  go : (b : Bool) → test a ≡ b → Rising (filter test (range_with_len (a + 1) n))
      → Rising (cond b (a ∷ filter test (range_with_len (a + 1) n)) (filter test (range_with_len (a + 1) n)))
  go false e r = r
  go true e r = (first, r) where
    first : (d : ℕ) → IsIn d (filter test (range_with_len (a + 1) n)) → Before a d
    first d i =
        let (j, t) = from_filter test d (range_with_len (a + 1) n) i in
        let (l, m) = in_range (a + 1) n d j in
        inr (h a e ∙ sym (h d t), omega (arith, l))

of_group : ℕ → ℕ → List ℕ
of_group n g = filter (λ c. is_scalar c && nat_eq (group_of c) g) (range_with_len 0 n)

abbrev Ascending : List ℕ → Type 0
Ascending [] = Unit {0}
Ascending (g ∷ gs) = ((h : ℕ) → IsIn h gs → g < h) × Ascending gs

of_group-at : (n g c : ℕ) → IsIn c (of_group n g) → group_of c ≡ g
unfolding of_group
of_group-at n g c i =
    let (j, t) = from_filter (λ c. is_scalar c && nat_eq (group_of c) g) c (range_with_len 0 n) i in
    eqb-true (group_of c) g (and_parts (is_scalar c) (nat_eq (group_of c) g) t).1

of_group-rising : (n g : ℕ) → Rising (of_group n g)
unfolding of_group
of_group-rising n g =
    rising_filter (λ c. is_scalar c && nat_eq (group_of c) g) g 0 n
    (λ c t. eqb-true (group_of c) g (and_parts (is_scalar c) (nat_eq (group_of c) g) t).1)

groups_rising : (n : ℕ) (gs : List ℕ) → Ascending gs → Rising (flat_map (of_group n) gs)
groups_rising n [] a = tt
groups_rising n (g ∷ gs) a = rising_append (of_group n g) (flat_map (of_group n) gs)
    (of_group-rising n g)
    (groups_rising n gs a.1)
    (λ c d i j.
    let (h, m, o) = from_flat_map (of_group n) d gs j in
    let p = of_group-at n g c i in
    let q = of_group-at n h d o in
    let l = a.0 h m in
    inl (omega (arith, p, q, l)))

ascending : Ascending (0 ∷ 1 ∷ 2 ∷ 3 ∷ 4 ∷ [])
ascending = (
  zero_below,
  (one_below, (two_below, ((λ h i. ⊎_elim (λ e. omega (arith, e)) (λ k. absurd k) i), ((λ h i. absurd i), tt)))),
) where
  two_below : (h : ℕ) → IsIn {A = ℕ} h (3 ∷ 4 ∷ []) → 2 < h
  two_below h (inl e) = omega (arith, e)
  two_below h (inr (inl e)) = omega (arith, e)
  two_below h (inr (inr i)) = absurd i

  one_below : (h : ℕ) → IsIn {A = ℕ} h (2 ∷ 3 ∷ 4 ∷ []) → 1 < h
  one_below h (inl e) = omega (arith, e)
  one_below h (inr i) = let l = two_below h i in omega (arith, l)

  zero_below : (h : ℕ) → IsIn {A = ℕ} h (1 ∷ 2 ∷ 3 ∷ 4 ∷ []) → 0 < h
  zero_below h (inl e) = omega (arith, e)
  zero_below h (inr i) = let l = one_below h i in omega (arith, l)

-- the characters are in order
pub ordered_rising : (n : ℕ) → Rising (ordered_below n)
unfolding ordered_below of_group
ordered_rising n = groups_rising n (0 ∷ 1 ∷ 2 ∷ 3 ∷ 4 ∷ []) ascending

rising_apart : (L M : List ℕ) (c d : ℕ) → Rising (L ++ M) → IsIn c L → IsIn d M → Before c d
rising_apart [] M c d r i j = absurd i
rising_apart (x ∷ L) M c d r (inl e) j = subst (λ z. Before z d) (sym e) (r.0 d (in_right d L M j))
rising_apart (x ∷ L) M c d r (inr i) j = rising_apart L M c d r.1 i j

rising_skip : (L : List ℕ) (c : ℕ) (cs : List ℕ) → Rising (L ++ c ∷ cs) → Rising (L ++ cs)
rising_skip [] c cs r = r.1
rising_skip (d ∷ L) c cs r = (
  (λ e i. r.0 e (⊎_elim (λ l. in_left e L (c ∷ cs) l) (λ k. in_right e L (c ∷ cs) (inr k)) (from_append e L cs i))),
  rising_skip L c cs r.1,
)

module _ (same : ℕ → ℕ → Bool) (laws : IsEquivalence same) where
  mention_rising : (L : List ℕ) (c : ℕ) (cs : List ℕ) → Rising (L ++ c ∷ cs) → Rising (mention same L c ++ cs)
  mention_rising L c cs r = go (list_any (same c) L) where
    go : (b : Bool) → Rising ((if b then L else L ++ c ∷ []) ++ cs)
    go true = rising_skip L c cs r
    go false = subst (λ z. Rising z) (sym (append_assoc L (c ∷ []) cs)) r

  -- what is mentioned in order is in order
  mentions_rising : (L cs : List ℕ) → Rising (L ++ cs) → Rising (mention_all same L cs)
  mentions_rising L [] r = subst (λ z. Rising z) (append-nil L) r
  mentions_rising L (c ∷ cs) r = mentions_rising (mention same L c) cs (mention_rising L c cs r)

  -- and of each class the first is there
  abbrev HasFirst : List ℕ → ℕ → Type 0
  HasFirst L c = (d : ℕ) × IsIn d L × (same c d ≡ true) × ((d ≡ c) ⊎ Before d c)

  mention_first : (L : List ℕ) (c : ℕ) (cs : List ℕ) → Rising (L ++ c ∷ cs) → HasFirst (mention same L c) c
  mention_first L c cs r = go (list_any (same c) L) refl where
    go : (b : Bool) → list_any (same c) L ≡ b → HasFirst (if b then L else L ++ c ∷ []) c
    go true e = let (d, i, s) = M.in_has same laws c L e in (d, i, s, inr (rising_apart L (c ∷ cs) d c r i (inl refl)))
    go false e = (c, in_right c L (c ∷ []) (inl refl), laws.refl c, inl refl)

  mentions_first : (L cs : List ℕ) (c : ℕ) → Rising (L ++ cs) → IsIn c cs → HasFirst (mention_all same L cs) c
  mentions_first L [] c r i = absurd i
  mentions_first L (b ∷ cs) c r (inr i) = mentions_first (mention same L b) cs c (mention_rising L b cs r) i
  mentions_first L (b ∷ cs) c r (inl e) =
      let (d, i, s, f) = mention_first L b cs r in
      let (X, p) = M.mentions_grow same laws (mention same L b) cs in (
        d,
        subst (λ z. IsIn d z) (sym p) (in_left d (mention same L b) X i),
        subst (λ z. same z d ≡ true) (sym e) s,
        subst (λ z. (d ≡ z) ⊎ Before d z) (sym e) f,
      )

-- characters in order, no two alike, one before or at each character and like it: there is one such list
pub record AreFirsts (sets : List (List (ℕ × ℕ))) (cs : List ℕ) : Type 0 where
  pub scalar : (c : ℕ) → IsIn c cs → is_scalar c ≡ true
  pub rising : Rising cs
  pub apart : (c d : ℕ) → IsIn c cs → IsIn d cs → are_alike sets c d ≡ true → c ≡ d
  pub first : (c : ℕ) → is_scalar c ≡ true → (d : ℕ) × IsIn d cs × (are_alike sets c d ≡ true) × ((d ≡ c) ⊎ Before d c)

firsts_same : (sets : List (List (ℕ × ℕ))) (cs ds : List ℕ) → AreFirsts sets cs → AreFirsts sets ds → cs ≡ ds
firsts_same sets cs ds a b = rising_same cs ds a.rising b.rising (each cs ds a b) (each ds cs b a) where
  laws : IsEquivalence (are_alike sets)
  laws = alike_laws sets

  each : (cs ds : List ℕ) → AreFirsts sets cs → AreFirsts sets ds → (c : ℕ) → IsIn c cs → IsIn c ds
  each cs ds a b c i =
      let (d, j, s, f) = b.first c (a.scalar c i) in
      let (e, k, t, g) = a.first d (b.scalar d j) in
      let u : are_alike sets c e ≡ true = laws.congr c d e s ∙ t in
      let q : c ≡ e = a.apart c e i k u in
      subst (λ z. IsIn z ds) (between d e f g q) j where
        between : (d e : ℕ) → (d ≡ c) ⊎ Before d c → (e ≡ d) ⊎ Before e d → c ≡ e → d ≡ c
        between d e (inl f) g q = f
        between d e (inr f) (inl g) q = sym g ∙ sym q
        between d e (inr f) (inr g) q = absurd (not_before c (subst (λ z. Before z c) (sym q) (before_next e d c g f)))

distinct_in : (same : ℕ → ℕ → Bool) → IsEquivalence same → (L : List ℕ) → IsDistinct same L
    → (c d : ℕ) → IsIn c L → IsIn d L → same c d ≡ true → c ≡ d
unfolding IsDistinct
distinct_in same laws [] h c d i j s = absurd i
distinct_in same laws (x ∷ L) h c d (inl p) (inl q) s = p ∙ sym q
distinct_in same laws (x ∷ L) h c d (inl p) (inr j) s = absurd (apart L h.0 j) where
  apart : (L : List ℕ) → AllByRecursion (λ y. same x y ≡ false) L → IsIn d L → ⊥
  apart [] a j = j
  apart (y ∷ L) a (inl q) =
      let f : same x y ≡ false = a.0 in
      let t : same x y ≡ true = ap₂ (λ u v. same u v) (sym p) (sym q) ∙ s in cc (f, t)
  apart (y ∷ L) a (inr j) = apart L a.1 j
distinct_in same laws (x ∷ L) h c d (inr i) (inl q) s = absurd (apart L h.0 i) where
  apart : (L : List ℕ) → AllByRecursion (λ y. same x y ≡ false) L → IsIn c L → ⊥
  apart [] a j = j
  apart (y ∷ L) a (inl p) =
      let f : same x y ≡ false = a.0 in
      let t : same x y ≡ true = ap₂ (λ u v. same u v) (sym q) (sym p) ∙ laws.symm d c ∙ s in cc (f, t)
  apart (y ∷ L) a (inr j) = apart L a.1 j
distinct_in same laws (x ∷ L) h c d (inr i) (inr j) s = distinct_in same laws L h.1 c d i j s

pub firsts_are : (sets : List (List (ℕ × ℕ))) → AreFirsts sets (firsts_among characters sets)
unfolding IsDistinct
firsts_are sets = record {
  scalar = λ c i. elim (M.mentions_only (are_alike sets) (alike_laws sets) [] characters c i) [
    | inl j ↦ absurd j
    | inr j ↦ ordered_only 0x110000 c j
  ];
  rising = mentions_rising (are_alike sets) (alike_laws sets) [] characters (ordered_rising 0x110000);
  apart = distinct_in (are_alike sets) (alike_laws sets) (firsts_among characters sets)
      (M.mentions_distinct (are_alike sets) (alike_laws sets) [] characters tt);
  first = λ c e. mentions_first (are_alike sets) (alike_laws sets) [] characters c (ordered_rising 0x110000)
      (ordered_has 0x110000 c e (scalar_below c e));
}

pub firsts_one : (sets : List (List (ℕ × ℕ))) (cs : List ℕ) → AreFirsts sets cs → cs ≡ firsts_among characters sets
firsts_one sets cs a = firsts_same sets cs (firsts_among characters sets) a (firsts_are sets)
