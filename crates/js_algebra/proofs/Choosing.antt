-- How many choices a rule has, and which one has a number.
use Rattle.std.proofs.Common.{◌≡◌, ℕ, zero, suc, ◌+◌, ◌-◌, ◌*◌, ◌/◌, ◌^◌, ◌<◌, ◌≤◌, ◌⊎◌, inl, inr, Bool, List, [], ◌∷◌, ◌++◌, map, length, get_or, nat_eq, refl, ap, ap₂, sym, ◌∙◌, arith, length-append}
use Rattle.std.proofs.lemmas.Bool.{cases_lt, ne_eqb}
use Rattle.std.proofs.lemmas.Nat.{mul-lt}
use Rattle.std.proofs.lemmas.List.{length-map, get_or_append_left, get_or-append-add}
use Rattle.goals.specs.Signed.{Signed, Plus, Minus}
use Rattle.goals.specs.Choices.{one_plus, two_plus}
use Rattle.js_algebra.specs.View.{with_sign, places}
use Rattle.js_algebra.specs.declared.node.Pos.{Pos}
use Rattle.js_algebra.specs.Rules.{only, pairs}
use Rattle.list_laws.proofs.Numbers.{nat_eq-suc}

-- pairs

pub pairs-rises : (a b : ℕ) → a ≤ b → pairs a ≤ pairs b
pairs-rises zero b l = omega arith
pairs-rises (suc a) zero l = absurd (omega arith)
pairs-rises (suc a) (suc b) l = omega (arith, pairs-rises a b (omega arith))

-- the closed form
pub pairs-twice : (n : ℕ) → pairs (suc n) + pairs (suc n) ≡ suc n * n
pairs-twice zero = refl
pairs-twice (suc n) = omega (arith, pairs-twice n)

pub pairs-half : (n : ℕ) → 0 < n → n * (n - 1) / 2 ≡ pairs n
pairs-half zero l = absurd (omega arith)
pairs-half (suc n) l =
    let less : suc n * (suc n - 1) ≡ pairs (suc n) + pairs (suc n) =
    ap (λ m. suc n * m) (let same : suc n - 1 ≡ n = omega arith in same) ∙ sym (pairs-twice n) in
    rw less (halved (pairs (suc n))) where
      halved : (p : ℕ) → (p + p) / 2 ≡ p
      halved p = omega arith

-- as numbers of 64 bits have pairs of 128 bits
pub pairs-fit : (n : ℕ) → n < 2 ^ 64 → pairs n < 2 ^ 127
pairs-fit zero l = omega arith
pairs-fit (suc n) l = omega (arith, pairs-twice n, mul-lt (suc n) n (2 ^ 64) (2 ^ 64) l (omega arith))

-- the number of things is known from the number of pairs that they have at most
pub pairs-most : (a b k : ℕ) → pairs a ≤ k → k < pairs (suc a) → pairs b ≤ k → k < pairs (suc b) → a ≡ b
pairs-most a b k p q r s =
    elim (cases_lt a b) [
      | inl l ↦ absurd (omega (arith, pairs-rises (suc a) b l))
      | inr l ↦
          elim (cases_lt b a) [
            | inl m ↦ absurd (omega (arith, pairs-rises (suc b) a m))
            | inr m ↦ omega arith
          ]
    ]

-- elements of mapped lists

pub get_or-map : {A B : Type 0} (f : A → B) (xs : List A) (i : ℕ) (a : A) (b : B) → i < length xs
    → get_or (map f xs) i b ≡ f (get_or xs i a)
get_or-map f [] i a b l = absurd (omega arith)
get_or-map f (x ∷ xs) zero a b l = refl
get_or-map f (x ∷ xs) (suc i) a b l = get_or-map f xs i a b (omega arith)

-- a choice for each of the positions

pub length-one_plus : (qs : List ℕ) → length (one_plus qs) ≡ length qs
length-one_plus [] = refl
length-one_plus (q ∷ qs) =
    ap suc (length-map (one_plus qs) (λ C. Minus q ∷ C) ∙ length-one_plus qs)

pub one_plus-at : (qs : List ℕ) (i : ℕ) → i < length qs → get_or (one_plus qs) i [] ≡ only i qs
one_plus-at [] i l = absurd (omega arith)
one_plus-at (q ∷ qs) zero l = refl
one_plus-at (q ∷ qs) (suc i) l =
    get_or-map (λ C. Minus q ∷ C) (one_plus qs) i [] [] (omega (arith, length-one_plus qs))
    ∙ ap (λ C. Minus q ∷ C) (one_plus-at qs i (omega arith))

pub length-only : (i : ℕ) (qs : List ℕ) → length (only i qs) ≡ length qs
length-only i [] = refl
length-only zero (q ∷ qs) = ap suc (length-map qs Minus)
length-only (suc i) (q ∷ qs) = ap suc (length-only i qs)

pub only-at : (qs : List ℕ) (i k : ℕ) (x : Signed) (q : ℕ) → k < length qs
    → get_or (only i qs) k x ≡ with_sign (nat_eq k i) (get_or qs k q)
only-at [] i k x q l = absurd (omega arith)
only-at (p ∷ qs) zero zero x q l = refl
only-at (p ∷ qs) zero (suc k) x q l =
    get_or-map Minus qs k q x (omega arith)
    ∙ ap (λ b. with_sign b (get_or qs k q)) (sym (ne_eqb (suc k) 0 (λ e. omega (arith, e))))
only-at (p ∷ qs) (suc i) zero x q l = ap (λ b. with_sign b p) (sym (ne_eqb 0 (suc i) (λ e. omega (arith, e))))
only-at (p ∷ qs) (suc i) (suc k) x q l =
    only-at qs i k x q (omega arith) ∙ ap (λ b. with_sign b (get_or qs k q)) (nat_eq-suc k i)

-- a choice for each pair of the positions

pub length-two_plus : (qs : List ℕ) → length (two_plus qs) ≡ pairs (length qs)
length-two_plus [] = refl
length-two_plus (q ∷ qs) =
    length-append (map (λ r. Plus q ∷ Plus r ∷ []) qs) (two_plus qs)
    ∙ ap₂ (λ m n. m + n) (length-map qs (λ r. Plus q ∷ Plus r ∷ [])) (length-two_plus qs)

two_plus-first : (q : ℕ) (qs : List ℕ) (i : ℕ) → i < length qs
    → get_or (two_plus (q ∷ qs)) i [] ≡ Plus q ∷ Plus (get_or qs i 0) ∷ []
two_plus-first q qs i l =
    let pair : ℕ → List Signed = λ r. Plus q ∷ Plus r ∷ [] in
    get_or_append_left (map pair qs) (two_plus qs) [] i (omega (arith, length-map qs pair))
    ∙ get_or-map pair qs i 0 [] l

two_plus-rest : (q : ℕ) (qs : List ℕ) (i : ℕ)
    → get_or (two_plus (q ∷ qs)) (length qs + i) [] ≡ get_or (two_plus qs) i []
two_plus-rest q qs i =
    let pair : ℕ → List Signed = λ r. Plus q ∷ Plus r ∷ [] in
    ap (λ n. get_or (map pair qs ++ two_plus qs) (n + i) []) (sym (length-map qs pair))
    ∙ get_or-append-add (map pair qs) (two_plus qs) i []

-- counted from the end, the pairs of the position with so many later ones come after those of these
pub two_plus-at : (qs : List ℕ) (i from_end later offset a b : ℕ)
    → suc (i + from_end) ≡ pairs (length qs)
    → pairs later ≤ from_end → from_end < pairs (suc later) → offset + pairs later ≡ from_end
    → suc (later + a) ≡ length qs → suc (offset + b) ≡ length qs
    → get_or (two_plus qs) i [] ≡ Plus (get_or qs a 0) ∷ Plus (get_or qs b 0) ∷ []
two_plus-at [] i from_end later offset a b n few most e f g = absurd (omega (arith, f))
two_plus-at (q ∷ qs) i from_end later offset a b n few most e f g =
    elim (cases_lt i (length qs)) [
      | inl l ↦
          let same : later ≡ length qs = pairs-most later (length qs) from_end few most (omega arith) (omega arith) in
          let first : a ≡ 0 = omega (arith, same) in
          let second : b ≡ suc i = omega (arith, same, ap pairs same) in
          two_plus-first q qs i l
          ∙ sym (ap₂ (λ c d. Plus (get_or (q ∷ qs) c 0) ∷ Plus (get_or (q ∷ qs) d 0) ∷ []) first second)
      | inr l ↦
          let fewer : later < length qs = below (cases_lt later (length qs)) l in
          let there : i ≡ length qs + (i - length qs) = omega arith in
          let first : a ≡ suc (a - 1) = omega arith in
          let second : b ≡ suc (b - 1) = omega arith in
          ap (λ j. get_or (two_plus (q ∷ qs)) j []) there
          ∙ two_plus-rest q qs (i - length qs)
          ∙ two_plus-at qs (i - length qs) from_end later offset (a - 1) (b - 1) (omega arith) few most e (omega arith)
          (omega arith)
          ∙ sym (ap₂ (λ c d. Plus (get_or (q ∷ qs) c 0) ∷ Plus (get_or (q ∷ qs) d 0) ∷ []) first second)
    ] where
      -- from the end the number is below that of the pairs of the later ones
      below : (later < length qs) ⊎ (length qs ≤ later) → length qs ≤ i → later < length qs
      below (inl m) l = m
      below (inr m) l = absurd (omega (arith, pairs-rises (length qs) later m))

-- the choices of a rule that the program has

pub length-places : (ps : List Pos) → length (places ps) ≡ length ps
length-places ps = length-map ps (λ p. p.0)

pub places-at : (ps : List Pos) (i : ℕ) (p : Pos) (q : ℕ) → i < length ps
    → get_or (places ps) i q ≡ (get_or ps i p).0
places-at ps i p q l = get_or-map (λ p. p.0) ps i p q l

pub length-apart : (s : Bool) (ps : List Pos) → length (map (λ q. with_sign s q ∷ []) (places ps)) ≡ length ps
length-apart s ps = length-map (places ps) (λ q. with_sign s q ∷ []) ∙ length-places ps

pub apart-at : (s : Bool) (ps : List Pos) (i : ℕ) → i < length ps
    → get_or (map (λ q. with_sign s q ∷ []) (places ps)) i [] ≡ with_sign s (get_or (places ps) i 0) ∷ []
apart-at s ps i l = get_or-map (λ q. with_sign s q ∷ []) (places ps) i 0 [] (omega (arith, length-places ps))

-- not exactly one of n positions has one choice and one for each pair
pub length-not_one : (ps : List Pos)
    → length (map Minus (places ps) ∷ two_plus (places ps)) ≡ 1 + pairs (length ps)
length-not_one ps =
    let same : length (two_plus (places ps)) ≡ pairs (length ps) =
    length-two_plus (places ps) ∙ ap pairs (length-places ps) in
    omega (arith, same)

pub length-each : (s : Bool) (ps : List Pos) → length (map (with_sign s) (places ps)) ≡ length ps
length-each s ps = length-map (places ps) (with_sign s) ∙ length-places ps

pub each-at : (s : Bool) (ps : List Pos) (k : ℕ) (x : Signed) → k < length ps
    → get_or (map (with_sign s) (places ps)) k x ≡ with_sign s (get_or (places ps) k 0)
each-at s ps k x l = get_or-map (with_sign s) (places ps) k 0 x (omega (arith, length-places ps))

pub length-only_one : (i : ℕ) (ps : List Pos) → length (only i (places ps)) ≡ length ps
length-only_one i ps = length-only i (places ps) ∙ length-places ps

pub only_one-at : (ps : List Pos) (i k : ℕ) (x : Signed) → k < length ps
    → get_or (only i (places ps)) k x ≡ with_sign (nat_eq k i) (get_or (places ps) k 0)
only_one-at ps i k x l = only-at (places ps) i k x 0 (omega (arith, length-places ps))

-- the pair of a number, found from the end
pub pair-at : (ps : List Pos) (i total later fewer : ℕ) → i < pairs (length ps) → total ≡ pairs (length ps)
    → pairs later ≤ total - 1 - i → total - 1 - i < pairs (later + 1) → later < length ps → fewer ≡ pairs later
    → get_or (two_plus (places ps)) i []
    ≡ Plus (get_or (places ps) (length ps - 1 - later) 0)
    ∷ Plus (get_or (places ps) (length ps - 1 - (total - 1 - i - fewer)) 0) ∷ []
pair-at ps i total later fewer l all few most inside same =
    let n = length-places ps in
    let next : pairs (later + 1) ≡ later + pairs later =
    ap pairs (let one : later + 1 ≡ suc later = omega arith in one) in
    two_plus-at (places ps) i (total - 1 - i) later (total - 1 - i - fewer) (length ps - 1 - later)
    (length ps - 1 - (total - 1 - i - fewer))
    (let whole : suc (i + (total - 1 - i)) ≡ pairs (length ps) = omega arith in whole ∙ ap pairs (sym n))
    few (omega arith) (omega arith) (omega arith) (omega arith)
