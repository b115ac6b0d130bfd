-- What tests by the numbers of literals say of a cell is what the literals themselves say of it.
use Rattle.std.proofs.Common.{◌≡◌, ℕ, ◌+◌, ◌≤◌, ◌++◌, ◌||◌, ◌&&◌, Bool, true, false, cond, List, [], ◌∷◌, map, filter, flat_map, length, get_or, nat_lt, Option, Some, None, refl, ap, ap₂, sym, ◌∙◌, append_assoc, length-append, arith}
use Rattle.std.specs.Bool.{beq}
use Rattle.std.proofs.Math.Seq.{get_or-append_seam}
use Rattle.std.proofs.lemmas.Bool.{and_from, lt-ltb}
use Rattle.documents.specs.Tests.{every, some}
use Rattle.positions.specs.Position.{Position, MembersOf, Has, NamesIn, position_at}
use Rattle.goals.specs.Signed.{Signed, Plus, Minus}
use Rattle.cells.specs.Cells.{Cells, truth, told}
use Rattle.frames.specs.Frame.{In}
use Rattle.frames.specs.ObjectFrame.{plus_bars, minus_bars, bars, plus_wants, minus_wants, is_demand, minus_inside, inside, plus_each, each}
use Rattle.js_said.proofs.RowVectors.{vector-past, told_nothing}
use Rattle.js_name_tests.specs.declared.literals.ValueTest.{ValueTest}
use Rattle.js_name_tests.specs.NameTests.{plus_barred, minus_barred, barred_at, plus_served, minus_served, served_at, plus_value, value_at, test_at, tests_from, numbered_value, value_by, values_from, says_at, passes, asks, are_within, values_within}

-- one literal, where so much is true of a name

abbrev told_by : Option Bool → Bool → Bool
told_by None b = false
told_by (Some t) b = beq b t

plus_bars-told : (b : Bool) (P : Position) → plus_bars b P ≡ told_by (plus_barred P) b
plus_bars-told true (NamesIn q) = refl
plus_bars-told false (NamesIn q) = refl
plus_bars-told b _ = refl

minus_bars-told : (b : Bool) (P : Position) → minus_bars b P ≡ told_by (minus_barred P) b
minus_bars-told true (Has n) = refl
minus_bars-told false (Has n) = refl
minus_bars-told b _ = refl

-- a demand is one that has a test, and what passes it may serve the demand
abbrev Serves : Option Bool → Bool → Bool → Bool → Type 0
Serves None b d s = d ≡ false
Serves (Some t) b d s = (d ≡ true) × (s ≡ beq b t)

itself : (b : Bool) → b ≡ beq b true
itself true = refl
itself false = refl

plus_serves : (b : Bool) (P : Position) → Serves (plus_served P) b (plus_wants P) b
plus_serves b (Has n) = (refl, itself b)
plus_serves b _ = refl

minus_serves : (b : Bool) (P : Position) → Serves (minus_served P) b (minus_wants P) (minus_inside b P)
minus_serves b (MembersOf s q) = (refl, itself b)
minus_serves true (NamesIn q) = (refl, refl)
minus_serves false (NamesIn q) = (refl, refl)
minus_serves b _ = refl

abbrev value_told : Option ℕ → Bool → List Signed
value_told None b = []
value_told (Some q) b = cond b (Plus q ∷ []) []

plus_each-told : (b : Bool) (P : Position) → plus_each b P ≡ value_told (plus_value P) b
plus_each-told b (MembersOf s q) = refl
plus_each-told b _ = refl

-- no literal is true of a cell that isn't there
pub truth-past : (C : Cells) (c : ℕ) (x : Signed) → length C.vectors ≤ c → truth C c x ≡ false
truth-past C c x l = ap (λ v. told C.names v x) (vector-past C.vectors c l) ∙ told_nothing C.names x

-- tests name literals that there are

pub tests-within : (f : Signed → Option Bool) (n i : ℕ) (xs : List Signed) → i + length xs ≤ n
    → are_within n (tests_from f i xs) ≡ true
tests-within f n i [] l = refl
tests-within f n i (x ∷ xs) l = go (f x) (tests-within f n (i + 1) xs (omega (arith, l))) where
  go : (o : Option Bool) → are_within n (tests_from f (i + 1) xs) ≡ true
      → are_within n (test_at i o ++ tests_from f (i + 1) xs) ≡ true
  go None more = more
  go (Some t) more = and_from (nat_lt i n) _ (lt-ltb i n (omega (arith, l))) more

abbrev are_numbered : ℕ → List (ℕ × ℕ) → Bool
are_numbered n vs = every (λ v. nat_lt v.0 n) vs

values_numbered : (f : Signed → Option ℕ) (n i : ℕ) (xs : List Signed) → i + length xs ≤ n
    → are_numbered n (values_from f i xs) ≡ true
values_numbered f n i [] l = refl
values_numbered f n i (x ∷ xs) l = go (f x) (values_numbered f n (i + 1) xs (omega (arith, l))) where
  go : (o : Option ℕ) → are_numbered n (values_from f (i + 1) xs) ≡ true
      → are_numbered n (value_by i o ++ values_from f (i + 1) xs) ≡ true
  go None more = more
  go (Some t) more = and_from (nat_lt i n) _ (lt-ltb i n (omega (arith, l))) more

numbered_same : (n : ℕ) (vs : List ValueTest) → are_numbered n (map numbered_value vs) ≡ values_within n vs
numbered_same n [] = refl
numbered_same n (v ∷ vs) = ap (λ b. nat_lt v.literal n && b) (numbered_same n vs)

pub values-within : (f : Signed → Option ℕ) (xs : List Signed) (vs : List ValueTest)
    → map numbered_value vs ≡ values_from f 0 xs → values_within (length xs) vs ≡ true
values-within f xs vs e =
    sym (numbered_same (length xs) vs) ∙ ap (are_numbered (length xs)) e
    ∙ values_numbered f (length xs) 0 xs (omega arith)

module _ (T : List Position) (C : Cells) (c : ℕ) where
  -- the literal of a number
  abbrev Stand : List Signed → List Signed → ℕ → Type 0
  Stand before xs i = (C.names ≡ before ++ xs) × (length before ≡ i)

  standing : (before : List Signed) (x : Signed) (xs : List Signed) (i : ℕ) → Stand before (x ∷ xs) i
      → get_or C.names i (Plus 0) ≡ x
  standing before x xs i s =
      ap₂ (λ z k. get_or z k (Plus 0)) s.0 (sym s.1) ∙ get_or-append_seam before x xs (Plus 0)

  next : (before : List Signed) (x : Signed) (xs : List Signed) (i : ℕ) → Stand before (x ∷ xs) i
      → Stand (before ++ x ∷ []) xs (i + 1)
  next before x xs i s =
      (s.0 ∙ sym (append_assoc before (x ∷ []) xs), (let h = s.1 in omega (arith, h, length-append before (x ∷ []))))

  bars-told : (x : Signed) → bars T C c x ≡ told_by (barred_at T x) (truth C c x)
  bars-told (Plus p) = plus_bars-told (truth C c (Plus p)) (position_at T p)
  bars-told (Minus p) = minus_bars-told (truth C c (Minus p)) (position_at T p)

  barred : (before xs : List Signed) (i : ℕ) → Stand before xs i
      → some (passes C c) (tests_from (barred_at T) i xs) ≡ some (bars T C c) xs
  barred before [] i s = refl
  barred before (x ∷ xs) i s =
      go (barred_at T x) (bars-told x) (standing before x xs i s)
      (barred (before ++ x ∷ []) xs (i + 1) (next before x xs i s)) where
        go : (o : Option Bool) → bars T C c x ≡ told_by o (truth C c x) → get_or C.names i (Plus 0) ≡ x
            → some (passes C c) (tests_from (barred_at T) (i + 1) xs) ≡ some (bars T C c) xs
            → some (passes C c) (test_at i o ++ tests_from (barred_at T) (i + 1) xs)
            ≡ (bars T C c x || some (bars T C c) xs)
        go None h here more = more ∙ ap (λ b. b || some (bars T C c) xs) (sym h)
        go (Some t) h here more =
            ap₂ (λ a b. a || b) (ap (λ y. beq (truth C c y) t) here ∙ sym h) more

  serves : (x : Signed) → Serves (served_at T x) (truth C c x) (is_demand T x) (inside T C x c)
  serves (Plus p) = plus_serves (truth C c (Plus p)) (position_at T p)
  serves (Minus p) = minus_serves (truth C c (Minus p)) (position_at T p)

  abbrev insides : List Signed → List Bool
  insides xs = map (λ x. inside T C x c) xs

  served : (before xs : List Signed) (i : ℕ) → Stand before xs i
      → map (passes C c) (tests_from (served_at T) i xs) ≡ insides (filter (is_demand T) xs)
  served before [] i s = refl
  served before (x ∷ xs) i s =
      go (served_at T x) (is_demand T x) (serves x) (standing before x xs i s)
      (served (before ++ x ∷ []) xs (i + 1) (next before x xs i s)) where
        go : (o : Option Bool) (d : Bool) → Serves o (truth C c x) d (inside T C x c) → get_or C.names i (Plus 0) ≡ x
            → map (passes C c) (tests_from (served_at T) (i + 1) xs) ≡ insides (filter (is_demand T) xs)
            → map (passes C c) (test_at i o ++ tests_from (served_at T) (i + 1) xs)
            ≡ insides (cond d (x ∷ filter (is_demand T) xs) (filter (is_demand T) xs))
        go None true h here more = cc h
        go None false h here more = more
        go (Some t) true h here more =
            ap₂ (λ a b. a ∷ b) (ap (λ y. beq (truth C c y) t) here ∙ sym h.1) more
        go (Some t) false h here more = (let k = h.0 in cc k)

  abbrev asks_numbered : ℕ × ℕ → List Signed
  asks_numbered v = cond (says_at C c v.0) (Plus v.1 ∷ []) []

  asks_same : (vs : List ValueTest) → flat_map (asks C c) vs ≡ flat_map asks_numbered (map numbered_value vs)
  asks_same [] = refl
  asks_same (v ∷ vs) = ap (λ z. asks C c v ++ z) (asks_same vs)

  each-told : (x : Signed) → each T C (In c) x ≡ value_told (value_at T x) (truth C c x)
  each-told (Plus p) = plus_each-told (truth C c (Plus p)) (position_at T p)
  each-told (Minus p) = refl

  asked : (before xs : List Signed) (i : ℕ) → Stand before xs i
      → flat_map asks_numbered (values_from (value_at T) i xs) ≡ flat_map (each T C (In c)) xs
  asked before [] i s = refl
  asked before (x ∷ xs) i s =
      go (value_at T x) (each-told x) (standing before x xs i s)
      (asked (before ++ x ∷ []) xs (i + 1) (next before x xs i s)) where
        go : (o : Option ℕ) → each T C (In c) x ≡ value_told o (truth C c x) → get_or C.names i (Plus 0) ≡ x
            → flat_map asks_numbered (values_from (value_at T) (i + 1) xs) ≡ flat_map (each T C (In c)) xs
            → flat_map asks_numbered (value_by i o ++ values_from (value_at T) (i + 1) xs)
            ≡ each T C (In c) x ++ flat_map (each T C (In c)) xs
        go None h here more = more ∙ ap (λ z. z ++ flat_map (each T C (In c)) xs) (sym h)
        go (Some q) h here more =
            ap₂ (λ a b. a ++ b) (ap (λ y. cond (truth C c y) (Plus q ∷ []) []) here ∙ sym h) more

  pub barred-names : some (passes C c) (tests_from (barred_at T) 0 C.names) ≡ some (bars T C c) C.names
  barred-names = barred [] C.names 0 (refl, refl)

  pub served-names : map (passes C c) (tests_from (served_at T) 0 C.names) ≡ insides (filter (is_demand T) C.names)
  served-names = served [] C.names 0 (refl, refl)

  pub asked-names : (vs : List ValueTest) → map numbered_value vs ≡ values_from (value_at T) 0 C.names
      → flat_map (asks C c) vs ≡ flat_map (each T C (In c)) C.names
  asked-names vs e = asks_same vs ∙ ap (flat_map asks_numbered) e ∙ asked [] C.names 0 (refl, refl)
