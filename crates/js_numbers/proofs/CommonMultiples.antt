-- Least common multiples: of two numbers by their greatest common divisor, and of a list.
use Rattle.std.proofs.Common.{◌≡◌, ℕ, zero, suc, ◌+◌, ◌-◌, ◌*◌, ◌/◌, ◌%◌, ◌<◌, ◌≤◌, ◌==◌, List, [], ◌∷◌, ◌++◌, Bool, true, false, ◌&&◌, length, get_or, take, drop, nat_lt, refl, ap, sym, ◌∙◌, subst, arith, zero-lt-suc, mul_right_comm, mul_comm, mul_assoc}
use Rattle.std.specs.Int.{IsGcd}
use Rattle.std.specs.List.{list_all}
use Prim.Native.Nat.{◌∣◌}
use Rattle.std.proofs.lemmas.Bool.{and_parts, and_from, eqb-true, eq-eqb, ltb-true, lt-ltb}
use Rattle.std.proofs.lemmas.Nat.Gcd.{dvd_refl, dvd_trans, IsGcd-from_zero, IsGcd-from_mod, same_from_IsGcd, dvd_of_mod-eq-zero, mod-eq-zero_of_dvd, le_of_dvd}
use Rattle.std.proofs.Math.Nat.{pos_of_dvd_of_pos, div-mul_cancel, dvd-mul_left, dvd-mul_right, dvd_of_mul-dvd-mul_right, mul-dvd-mul_left, mul-dvd-mul_right, mod-eq-sub-mul-div, mul-div-mul_left, mul-sub, one-dvd, mul-pos}
use Rattle.std.proofs.lemmas.List.Recursion.{and_at}
use Rattle.std.proofs.lemmas.List.{take_more, take-append-drop}
use Rattle.number_groups.specs.Multiples.{is_common, product_of, lcm_of, IsLcm, IsLcmOf}
use Rattle.js_numbers.proofs.Least.{least_below-at}
use Rattle.std.proofs.Math.Bool.{and_assoc}

-- ---- two numbers

mul_mod : (c a b : ℕ) → (c * a) % (c * b) ≡ c * (a % b)
mul_mod zero a b = omega arith
mul_mod (suc c) a b =
    mod-eq-sub-mul-div (suc c * a) (suc c * b)
    ∙ ap (λ q. suc c * a - suc c * b * q) (mul-div-mul_left a b (zero-lt-suc c))
    ∙ ap (λ q. suc c * a - q) (mul_assoc (suc c) b (a / b))
    ∙ sym (mul-sub (suc c) a (b * (a / b)))
    ∙ ap (λ q. suc c * q) (sym (mod-eq-sub-mul-div a b))

-- there is a greatest common divisor, and a common factor comes out of it
gcd_with_factor : (n a b : ℕ) → b < n → (g : ℕ) × IsGcd a b g × ((c : ℕ) → IsGcd (c * a) (c * b) (c * g))
gcd_with_factor zero a b l = absurd (omega arith)
gcd_with_factor (suc n) a zero l =
    (a, IsGcd-from_zero a zero refl, λ c. IsGcd-from_zero (c * a) (c * zero) (omega arith))
gcd_with_factor (suc n) a (suc b) l =
    let (g, h, s) = gcd_with_factor n (suc b) (a % suc b) (omega arith) in (
      g,
      IsGcd-from_mod a (suc b) g h,
      λ c. IsGcd-from_mod (c * a) (c * suc b) (c * g)
          (rw (mul_mod c a (suc b)) (s c)),
    )

IsGcd-factor : (a b g c : ℕ) → IsGcd a b g → IsGcd (c * a) (c * b) (c * g)
IsGcd-factor a b g c h =
    let (k, i, s) = gcd_with_factor (suc b) a b (omega arith) in
    subst (λ z. IsGcd (c * a) (c * b) (c * z)) (same_from_IsGcd a b k g i h) (s c)

IsLcm-from_product : (a b g l : ℕ) → 0 < g → IsGcd a b g → l * g ≡ a * b → IsLcm a b l
IsLcm-from_product a b g l p h e = record {
  first = dvd_of_mul-dvd-mul_right a p (subst (λ z. a * g ∣ z) (sym e) (mul-dvd-mul_left g a h.1));
  second =
      dvd_of_mul-dvd-mul_right b p (subst (λ z. b * g ∣ z) (mul_comm b a ∙ sym e) (mul-dvd-mul_left g b h.0));
  least = λ x i j.
      let s = IsGcd-factor a b g x h in
      let u : l * g ∣ x * a = subst (λ z. z ∣ x * a) (mul_comm b a ∙ sym e) (mul-dvd-mul_right b j a) in
      let v : l * g ∣ x * b = subst (λ z. z ∣ x * b) (sym e) (mul-dvd-mul_right a i b) in
      dvd_of_mul-dvd-mul_right l p (s.2 (l * g) u v);
}

pub gcd_positive : (a b g : ℕ) → 0 < a → IsGcd a b g → 0 < g
gcd_positive a b g p h = pos_of_dvd_of_pos h.0 p

-- the product over the greatest common divisor
pub IsLcm-from_gcd : (a b g : ℕ) → 0 < a → IsGcd a b g → IsLcm a b (a / g * b)
IsLcm-from_gcd a b g p h =
    IsLcm-from_product a b g (a / g * b) (gcd_positive a b g p h) h
    (mul_right_comm (a / g) b g ∙ ap (λ z. z * b) (div-mul_cancel g h.0))

IsLcm_positive : (a b l : ℕ) → 0 < a → 0 < b → IsLcm a b l → 0 < l
IsLcm_positive a b l p q h =
    let d : l ∣ a * b = h.least (a * b) (dvd-mul_right a b) (dvd-mul_left b a) in
    pos_of_dvd_of_pos d (mul-pos p q)

some_lcm : (a b : ℕ) → 0 < a → (l : ℕ) × IsLcm a b l
some_lcm a b p =
    let (g, h, s) = gcd_with_factor (suc b) a b (omega arith) in
    (a / g * b, IsLcm-from_gcd a b g p h)

-- ---- a list

common_first : (m : ℕ) (ms : List ℕ) (x : ℕ) → is_common (m ∷ ms) x ≡ true → (m ∣ x) × (is_common ms x ≡ true)
common_first m ms x h = let (e, r) = and_parts _ _ h in (dvd_of_mod-eq-zero m (eqb-true _ _ e), r)

common_cons : (m : ℕ) (ms : List ℕ) (x : ℕ) → m ∣ x → is_common ms x ≡ true → is_common (m ∷ ms) x ≡ true
common_cons m ms x d h = and_from _ _ (eq-eqb _ _ (mod-eq-zero_of_dvd m d)) h

-- what is common to all is common to what it divides
pub common_along : (ms : List ℕ) (x y : ℕ) → x ∣ y → is_common ms x ≡ true → is_common ms y ≡ true
common_along [] x y d h = refl
common_along (m ∷ ms) x y d h =
    let (e, r) = common_first m ms x h in common_cons m ms y (dvd_trans m e d) (common_along ms x y d r)

pub IsLcmOf-nil : IsLcmOf [] 1
IsLcmOf-nil = record { positive = omega arith; common = refl; least = λ x h. one-dvd x }

pub IsLcmOf-cons : (m : ℕ) (ms : List ℕ) (l k : ℕ) → 0 < m → IsLcmOf ms l → IsLcm m l k → IsLcmOf (m ∷ ms) k
IsLcmOf-cons m ms l k p h i = record {
  positive = IsLcm_positive m l k p h.positive i;
  common = common_cons m ms k i.first (common_along ms l k i.second h.common);
  least = λ x c. let (d, r) = common_first m ms x c in i.least x d (h.least x r);
}

pub some_lcm_of : (ms : List ℕ) → list_all (λ m. nat_lt 0 m) ms ≡ true → (l : ℕ) × IsLcmOf ms l
some_lcm_of [] h = (1, IsLcmOf-nil)
some_lcm_of (m ∷ ms) h =
    let (p, r) = and_parts _ _ h in
    let (l, i) = some_lcm_of ms r in
    let (k, j) = some_lcm m l (ltb-true 0 m p) in
    (k, IsLcmOf-cons m ms l k (ltb-true 0 m p) i j)

product_positive : (ms : List ℕ) → list_all (λ m. nat_lt 0 m) ms ≡ true → 0 < product_of ms
product_positive [] h = omega arith
product_positive (m ∷ ms) h = let (p, r) = and_parts _ _ h in mul-pos (ltb-true 0 m p) (product_positive ms r)

product_common : (ms : List ℕ) → is_common ms (product_of ms) ≡ true
product_common [] = refl
product_common (m ∷ ms) =
    common_cons m ms (m * product_of ms) (dvd-mul_right m (product_of ms))
    (common_along ms (product_of ms) (m * product_of ms) (dvd-mul_left (product_of ms) m) (product_common ms))

-- the definition by search has the meaning by divisors
least_common : (ms : List ℕ) (l : ℕ) → list_all (λ m. nat_lt 0 m) ms ≡ true → IsLcmOf ms (suc l)
    → lcm_of ms ≡ suc l
unfolding lcm_of
least_common ms l p h =
    let within : suc l ≤ product_of ms = le_of_dvd (product_positive ms p)
    (h.least (product_of ms) (product_common ms)) in
    ap suc (least_below-at (λ k. is_common ms (suc k)) (product_of ms) l (omega arith) h.common
    (λ j below. go j below (is_common ms (suc j)) refl))
  where
    go : (j : ℕ) → j < l → (b : Bool) → is_common ms (suc j) ≡ b → is_common ms (suc j) ≡ false
    go j below false e = e
    go j below true e = let d : suc l ≤ suc j = le_of_dvd (omega arith) (h.least (suc j) e) in
        absurd (omega arith)

pub lcm_of-unique : (ms : List ℕ) (l : ℕ) → list_all (λ m. nat_lt 0 m) ms ≡ true → IsLcmOf ms l
    → lcm_of ms ≡ l
lcm_of-unique ms zero p h = absurd (omega (arith, h.positive))
lcm_of-unique ms (suc l) p h = least_common ms l p h

-- the least common multiple is one
pub IsLcmOf-lcm_of : (ms : List ℕ) → list_all (λ m. nat_lt 0 m) ms ≡ true → IsLcmOf ms (lcm_of ms)
IsLcmOf-lcm_of ms p = let (l, h) = some_lcm_of ms p in subst (λ z. IsLcmOf ms z)
    (sym (lcm_of-unique ms l p h)) h

positive_cons : (m : ℕ) (ms : List ℕ) → 0 < m → list_all (λ n. nat_lt 0 n) ms ≡ true
    → list_all (λ n. nat_lt 0 n) (m ∷ ms) ≡ true
positive_cons m ms p h = and_from _ _ (lt-ltb 0 m p) h

IsLcmOf-one : (m : ℕ) → 0 < m → IsLcmOf (m ∷ []) m
IsLcmOf-one m p =
    IsLcmOf-cons m [] 1 m p IsLcmOf-nil
    (record { first = dvd_refl m; second = one-dvd m; least = λ x i j. i })

pub lcm_of-pair : (a b l : ℕ) → 0 < a → 0 < b → IsLcm a b l → lcm_of (a ∷ b ∷ []) ≡ l
lcm_of-pair a b l p q h =
    lcm_of-unique (a ∷ b ∷ []) l (positive_cons a (b ∷ []) p (positive_cons b [] q refl))
    (IsLcmOf-cons a (b ∷ []) b l p (IsLcmOf-one b q) h)

common_append : (ms ns : List ℕ) (x : ℕ) → is_common (ms ++ ns) x ≡ (is_common ms x && is_common ns x)
common_append [] ns x = refl
common_append (m ∷ ms) ns x = ap (λ t. (x % m == 0) && t) (common_append ms ns x)
    ∙ sym (and_assoc (x % m == 0) _ _)

-- one more number at the end
pub IsLcmOf-push : (ms : List ℕ) (m l k : ℕ) → 0 < m → IsLcmOf ms l → IsLcm l m k → IsLcmOf (ms ++ m ∷ []) k
IsLcmOf-push ms m l k p h i = record {
  positive = IsLcm_positive l m k h.positive p i;
  common = common_append ms (m ∷ []) k
      ∙ and_from _ _ (common_along ms l k i.first h.common) (common_cons m [] k i.second refl);
  least = λ x c.
      let (a, b) = and_parts _ _ (sym (common_append ms (m ∷ []) x) ∙ c) in
      i.least x (h.least x a) (common_first m [] x b).0;
}

-- the multiple of a front part divides that of the whole
pub lcm_of-front : (ms ns : List ℕ) (l k : ℕ) → IsLcmOf ms l → IsLcmOf (ms ++ ns) k → l ≤ k
lcm_of-front ms ns l k h i =
    let (a, b) = and_parts _ _ (sym (common_append ms ns k) ∙ i.common) in
    le_of_dvd i.positive (h.least k a)

pub IsLcm-lcm_of : (a b : ℕ) → 0 < a → 0 < b → IsLcm a b (lcm_of (a ∷ b ∷ []))
IsLcm-lcm_of a b p q = let (l, h) = some_lcm a b p in subst (λ z. IsLcm a b z)
    (sym (lcm_of-pair a b l p q h)) h

-- ---- the loop over a list

pub positive_at : (ms : List ℕ) (i : ℕ) → list_all (λ m. nat_lt 0 m) ms ≡ true → i < length ms
    → 0 < get_or ms i 0
positive_at ms i p l =
    ltb-true 0 (get_or ms i 0)
    (and_at (λ ns. list_all (λ m. nat_lt 0 m) ns) (λ m. nat_lt 0 m) refl (λ _ _. refl) ms i 0 l p)

pub IsLcmOf-take_more : (ms : List ℕ) (i m l k : ℕ) → list_all (λ n. nat_lt 0 n) ms ≡ true → i < length ms
    → m ≡ get_or ms i 0
    → IsLcmOf (take i ms) l → IsLcm l m k → IsLcmOf (take (i + 1) ms) k
IsLcmOf-take_more ms i m l k p b e h j =
    let q : 0 < m = subst (λ z. 0 < z) (sym e) (positive_at ms i p b) in
    subst (λ ns. IsLcmOf ns k) (ap (λ z. take i ms ++ z ∷ []) e ∙ sym (take_more ms i 0 b))
    (IsLcmOf-push (take i ms) m l k q h j)

pub lcm_of-take_le : (ms : List ℕ) (i k : ℕ) → list_all (λ n. nat_lt 0 n) ms ≡ true → IsLcmOf (take i ms) k
    → k ≤ lcm_of ms
lcm_of-take_le ms i k p h =
    lcm_of-front (take i ms) (drop i ms) k (lcm_of ms) h
    (subst (λ ns. IsLcmOf ns (lcm_of ms)) (sym (take-append-drop i ms)) (IsLcmOf-lcm_of ms p))
