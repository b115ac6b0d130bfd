-- The width of a class is the count of its characters among all numbers below the last code point's next.
use Rattle.std.proofs.Common.{◌≡◌, ℕ, zero, suc, ◌+◌, ◌<◌, List, [], ◌∷◌, ◌++◌, filter, flat_map, cond, if◌then◌else◌, nat_eq, Bool, true, false, ◌&&◌, refl, ap, ap₂, sym, ◌∙◌, subst, arith}
use Rattle.std.specs.List.{range_with_len}
use Rattle.std.proofs.lemmas.Bool.{and_parts, eqb-true, eqb-false}
use Rattle.patterns.specs.CharSet.{is_scalar, is_within, group_of, count_below}
use Rattle.word_states.specs.Atom.{Atom}
use Rattle.word_states.specs.Classes.{ordered_below, characters, class_of, class_count, is_in_class}
use Rattle.word_laws.proofs.ClassLaws.{classes_divide}
use Rattle.list_laws.proofs.Counts.{sum_over}
use Rattle.cell_laws.proofs.Groups.{width}
use Rattle.cell_laws.proofs.Sums.{sum_none, sum_plus, sum_same}

sum_append : {A : Type 0} (f : A → ℕ) (xs ys : List A) → sum_over f (xs ++ ys) ≡ sum_over f xs + sum_over f ys
sum_append f [] ys = let e : sum_over f ys ≡ 0 + sum_over f ys = omega arith in e
sum_append f (x ∷ xs) ys = let e = sum_append f xs ys in omega (arith, e)

sum_filter : {A : Type 0} (q : A → Bool) (f : A → ℕ) (xs : List A)
    → sum_over f (filter q xs) ≡ sum_over (λ x. cond (q x) (f x) 0) xs
sum_filter q f [] = refl
sum_filter {A = A} q f (x ∷ xs) = go (q x) (sum_filter q f xs) where
  go : (b : Bool) → sum_over f (filter q xs) ≡ sum_over (λ x. cond (q x) (f x) 0) xs
      → sum_over f (cond b (x ∷ filter q xs) (filter q xs)) ≡ cond b (f x) 0 + sum_over (λ x. cond (q x) (f x) 0) xs
  go true e = omega (arith, e)
  go false e = omega (arith, e)

-- the groups of a list of characters
module _ (f : ℕ → ℕ) where
  each_group : (gs xs : List ℕ)
      → sum_over f (flat_map (λ g. filter (λ c. is_scalar c && nat_eq (group_of c) g) xs) gs)
      ≡ sum_over (λ c. sum_over (λ g. cond (is_scalar c && nat_eq (group_of c) g) (f c) 0) gs) xs
  each_group [] xs = sym (sum_none xs)
  each_group (g ∷ gs) xs =
      sum_append f (filter (λ c. is_scalar c && nat_eq (group_of c) g) xs)
      (flat_map (λ g. filter (λ c. is_scalar c && nat_eq (group_of c) g) xs) gs)
      ∙ ap₂ (λ a b. a + b) (sum_filter (λ c. is_scalar c && nat_eq (group_of c) g) f xs) (each_group gs xs)
      ∙ sym (sum_plus (λ c. cond (is_scalar c && nat_eq (group_of c) g) (f c) 0)
      (λ c. sum_over (λ g. cond (is_scalar c && nat_eq (group_of c) g) (f c) 0) gs) xs)

  one_group : (c : ℕ)
      → sum_over {A = ℕ} (λ g. cond (is_scalar c && nat_eq (group_of c) g) (f c) 0) (0 ∷ 1 ∷ 2 ∷ 3 ∷ 4 ∷ []) ≡ cond
      (is_scalar c) (f c) 0
  one_group c = go (is_scalar c) (is_within (97, 122) c) (is_within (65, 90) c) (is_within (48, 57) c)
      (is_within (32, 126) c) (f c) where
        go : (t p q r s : Bool) (v : ℕ)
            → sum_over {A = ℕ}
            (λ g. cond (t && nat_eq (if p then 0 else (if q then 1 else (if r then 2 else (if s then 3 else 4)))) g) v
            0) (0 ∷ 1 ∷ 2 ∷ 3 ∷ 4 ∷ [])
            ≡ cond t v 0
        go false p q r s v = refl
        go true true q r s v = omega arith
        go true false true r s v = omega arith
        go true false false true s v = omega arith
        go true false false false true v = omega arith
        go true false false false false v = omega arith

  pub ordered_sum : (n : ℕ)
      → sum_over f (ordered_below n) ≡ sum_over (λ c. cond (is_scalar c) (f c) 0) (range_with_len 0 n)
  unfolding ordered_below
  ordered_sum n =
      each_group (0 ∷ 1 ∷ 2 ∷ 3 ∷ 4 ∷ []) (range_with_len 0 n)
      ∙ sum_same (λ c. sum_over {A = ℕ} (λ g. cond (is_scalar c && nat_eq (group_of c) g) (f c) 0)
      (0 ∷ 1 ∷ 2 ∷ 3 ∷ 4 ∷ [])) (λ c. cond (is_scalar c) (f c) 0) (range_with_len 0 n)
      (λ c i. one_group c)

range_end : (a n : ℕ) → range_with_len a (suc n) ≡ range_with_len a n ++ (a + n) ∷ []
range_end a zero = let e : a ≡ a + 0 = omega arith in ap (λ z. z ∷ []) e
range_end a (suc n) =
    let e : (a + 1) + n ≡ a + suc n = omega arith in
    ap (λ z. a ∷ z) (range_end (a + 1) n ∙ ap (λ z. range_with_len (a + 1) n ++ z ∷ []) e)

count_sum : (test : ℕ → Bool) (n : ℕ) → sum_over (λ c. cond (test c) 1 0) (range_with_len 0 n) ≡ count_below test n
unfolding count_below
count_sum test zero = refl
count_sum test (suc n) =
    ap (λ z. sum_over (λ c. cond (test c) 1 0) z) (range_end 0 n)
    ∙ sum_append (λ c. cond (test c) 1 0) (range_with_len 0 n) ((0 + n) ∷ [])
    ∙ last (0 + n) (let e : 0 + n ≡ n = omega arith in e) (count_sum test n) where
      last : (m : ℕ) → m ≡ n → sum_over (λ c. cond (test c) 1 0) (range_with_len 0 n) ≡ count_below test n
          → sum_over (λ c. cond (test c) 1 0) (range_with_len 0 n) + (cond (test m) 1 0 + 0)
          ≡ (if test n then suc (count_below test n) else count_below test n)
      last m q e = ap (λ z. sum_over (λ c. cond (test c) 1 0) (range_with_len 0 n) + (cond (test z) 1 0 + 0)) q
          ∙ go (test n) where
            go : (b : Bool) → sum_over (λ c. cond (test c) 1 0) (range_with_len 0 n) + (cond b 1 0 + 0)
                ≡ (if b then suc (count_below test n) else count_below test n)
            go true = omega (arith, e)
            go false = omega (arith, e)

-- tests that are the same count the same
pub count_same : (f g : ℕ → Bool) → ((c : ℕ) → f c ≡ g c) → (n : ℕ) → count_below f n ≡ count_below g n
unfolding count_below
count_same f g h zero = refl
count_same f g h (suc n) = ap₂ (λ (b : Bool) z. if b then suc z else z) (h n) (count_same f g h n)

-- the width of a class is the number of its characters
pub width_is : (atoms : List Atom) (k : ℕ) → k < class_count atoms
    → width (class_of atoms) characters k ≡ count_below (is_in_class atoms k) 0x110000
width_is atoms k l =
    ordered_sum (λ c. cond (nat_eq (class_of atoms c) k) 1 0) 0x110000
    ∙ sum_same (λ c. cond (is_scalar c) (cond (nat_eq (class_of atoms c) k) 1 0) 0)
    (λ c. cond (is_in_class atoms k c) 1 0) (range_with_len 0 0x110000)
    (λ c i. at c (is_scalar c) refl (is_in_class atoms k c) refl (nat_eq (class_of atoms c) k) refl)
    ∙ count_sum (is_in_class atoms k) 0x110000 where
      at : (c : ℕ) (s : Bool) → is_scalar c ≡ s → (b : Bool) → is_in_class atoms k c ≡ b → (t : Bool)
          → nat_eq (class_of atoms c) k ≡ t
          → ◌≡◌ {A = ℕ} (cond s (cond t 1 0) 0) (cond b 1 0)
      at c false e true f t g = let (h, j) = and_parts (is_scalar c) _ f in cc (h, e)
      at c false e false f t g = refl
      at c true e true f true g = refl
      at c true e true f false g =
          let h = (classes_divide atoms c e).2 k l f in absurd (eqb-false (class_of atoms c) k g (sym h))
      at c true e false f true g =
          let h = (classes_divide atoms c e).1 in
          let q : is_in_class atoms k c ≡ true =
          subst (λ z. is_in_class atoms z c ≡ true) (eqb-true (class_of atoms c) k g) h in
          cc (q, f)
      at c true e false f false g = refl
