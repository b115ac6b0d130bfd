-- Going through copies of a tree one by one decides whether a match can end, and which positions read the next
-- character.
use Rattle.std.proofs.Common.{◌≡◌, ℕ, zero, suc, ◌+◌, ◌-◌, ◌*◌, ◌<◌, ◌≤◌, max, Bool, true, false, ◌&&◌, ◌||◌, nat_eq, nat_le, nat_lt, if◌then◌else◌, List, ◌++◌, Option, Some, None, refl, sym, ◌∙◌, ap, arith, zero-add, append-nil}
use Rattle.std.proofs.Math.Bool.{or_assoc, and-true, and-false, or-false}
use Rattle.std.proofs.Math.Nat.{suc-add}
use Rattle.std.proofs.lemmas.Bool.{le-leb, lt-leb, lt-ltb, ltb-true, ltb-false, ne_eqb, or_from, and_right}
use Rattle.std.proofs.lemmas.Bool.Decides.{nat_tests}
use Rattle.std.specs.Option.{is_none}
use Rattle.patterns.specs.Tree.{Tree, Trees, empty, one_of, at_start, at_end, in_turn, either, repeated, no_trees, tree}
use Rattle.word_states.specs.Position.{count_of, count_in, copies}
use Rattle.state_laws.specs.Flow.{through_some, through_copies, through_copies_on, ends_here, ends_here_in_turn, ends_here_of_one, next_copies, next_copies_on, reads_next}
use Rattle.js_pattern_positions.specs.Walk.{ends_after, begins_with, next_after}

-- ---- a match that can begin can end where another can
abbrev pub Implies : Bool → Bool → Type 0
Implies a b = a ≡ true → b ≡ true

abbrev pub Keeps : (ℕ → Bool → Bool) → Type 0
Keeps one = (base : ℕ) (a b : Bool) → Implies a b → Implies (one base a) (one base b)

implies_or : (a b c d : Bool) → Implies a b → Implies c d → Implies (a || c) (b || d)
implies_or true true c d f g e = refl
implies_or true false c d f g e = absurd (cc (f refl))
implies_or false true c d f g e = refl
implies_or false false c d f g e = g e

implies_and : (a b c : Bool) → Implies a b → Implies (a && c) (b && c)
implies_and true true c f e = e
implies_and true false c f e = absurd (cc (f refl))
implies_and false b c f e = absurd (cc e)

keeps_some : (one : ℕ → Bool → Bool) → Keeps one → (count more : ℕ) → Keeps (through_some one count more)
keeps_some one k count zero base a b f = f
keeps_some one k count (suc more) base a b f =
    implies_or a b (through_some one count more (base + count) (one base a))
    (through_some one count more (base + count) (one base b)) f
    (keeps_some one k count more (base + count) (one base a) (one base b) (k base a b f))

keeps_copies : (one : ℕ → Bool → Bool) → Keeps one → (count more low : ℕ) → Keeps (through_copies one count more low)
keeps_copies one k count more zero base a b f = keeps_some one k count more base a b f
keeps_copies one k count more (suc low) base a b f =
    keeps_copies one k count more low (base + count) (one base a) (one base b) (k base a b f)

keeps_copies_on : (one : ℕ → Bool → Bool) → Keeps one → (count low : ℕ) → Keeps (through_copies_on one count low)
keeps_copies_on one k count zero base a b f =
    k base (a || one base false) (b || one base false)
    (implies_or a b (one base false) (one base false) f (λ e. e))
keeps_copies_on one k count (suc low) base a b f =
    keeps_copies_on one k count low (base + count) (one base a) (one base b) (k base a b f)

keeps_if : (test a b : Bool) → Implies a b → Implies (if test then false else a) (if test then false else b)
keeps_if true a b f e = e
keeps_if false a b f e = f e

module _ (first last : Bool) (read : ℕ → Bool) where
  mutual
    pub keeps : (t : Tree) → Keeps (ends_here t first last read)
    keeps empty base a b f = f
    keeps (one_of ranges) base a b f = λ e. e
    keeps at_start base a b f = implies_and a b first f
    keeps at_end base a b f = implies_and a b last f
    keeps (in_turn ts) base a b f = keeps_in_turn ts base a b f
    keeps (either ts) base a b f = keeps_of_one ts base a b f
    keeps (repeated t zero None) base a b f =
        implies_or a b (ends_here t first last read base false) (ends_here t first last read base false) f (λ e. e)
    keeps (repeated t (suc low) None) base a b f =
        keeps_copies_on (λ at some. ends_here t first last read at some) (keeps t) (count_of t) low base a b f
    keeps (repeated t low (Some high)) base a b f =
        keeps_if (nat_lt high low)
        (through_copies (λ at some. ends_here t first last read at some) (count_of t) (high - low) low base a)
        (through_copies (λ at some. ends_here t first last read at some) (count_of t) (high - low) low base b)
        (keeps_copies (λ at some. ends_here t first last read at some) (keeps t) (count_of t)
        (high - low) low base a b f)

    keeps_in_turn : (ts : Trees) → Keeps (ends_here_in_turn ts first last read)
    keeps_in_turn no_trees base a b f = f
    keeps_in_turn (tree t ts) base a b f =
        keeps_in_turn ts (base + count_of t) (ends_here t first last read base a) (ends_here t first last read base b)
        (keeps t base a b f)

    keeps_of_one : (ts : Trees) → Keeps (ends_here_of_one ts first last read)
    keeps_of_one no_trees base a b f = λ e. e
    keeps_of_one (tree t ts) base a b f =
        implies_or (ends_here t first last read base a) (ends_here t first last read base b)
        (ends_here_of_one ts first last read (base + count_of t) a)
        (ends_here_of_one ts first last read (base + count_of t) b) (keeps t base a b f)
        (keeps_of_one ts (base + count_of t) a b f)

-- a copy that may come again and again ends where it ends when it comes once
once_enough : (f : Bool → Bool) → Implies (f false) (f true) → (b : Bool) → f (b || f false) ≡ f b
once_enough f k true = refl
once_enough f k false = by (f false) refl where
  by : (x : Bool) → f false ≡ x → f (f false) ≡ f false
  by true e = rw e (k e)
  by false e = rw e e

pub again_once : (one : ℕ → Bool → Bool) → Keeps one → (base : ℕ) (b : Bool)
    → one base (b || one base false) ≡ one base b
again_once one k base b = once_enough (one base) (k base false true (λ e. refl)) b

pub begins_once : (again : Bool) (one : ℕ → Bool → Bool) → Keeps one → (n base : ℕ) (b : Bool)
    → one base (begins_with again one n base b) ≡ one base b
begins_once again one k n base b = by (again && nat_eq n 0) where
  by : (x : Bool) → one base (if x then b || one base false else b) ≡ one base b
  by true = again_once one k base b
  by false = refl

-- ---- copies gone through one by one
last_copy : (low i m : ℕ) (x : Bool) → low ≡ i + suc m → (nat_le low (suc i) && x) ≡ (x && nat_eq m 0)
last_copy low i zero x e = rw (le-leb low (suc i) (omega (arith, e))) (sym (and-true x))
last_copy low i (suc m) x e =
    rw (lt-leb low (suc i) (omega (arith, e)), ne_eqb (suc m) 0 (λ h. omega (arith, h))) (sym (and-false x))

no_copies : (x : Bool) → (x && nat_eq 0 0) ≡ x
no_copies x = and-true x

some_copies : (x : Bool) (m : ℕ) → (x && nat_eq (suc m) 0) ≡ false
some_copies x m = and_right x (nat_eq (suc m) 0) (ne_eqb (suc m) 0 (λ h. omega (arith, h)))

module _ (one : ℕ → Bool → Bool) (count : ℕ) where
  -- once enough copies are gone through, each may be the last
  after_some : (low more i base : ℕ) (here ends : Bool) → low < suc i
      → ends_after one count low more i base here (ends || here) ≡ (ends || through_some one count more base here)
  after_some low zero i base here ends h = refl
  after_some low (suc more) i base here ends h =
      ap (λ x. ends_after one count low more (suc i) (base + count) (one base here)
      ((ends || here) || (x && one base here)))
      (le-leb low (suc i) (omega (arith, h)))
      ∙ after_some low more (suc i) (base + count) (one base here) (ends || here) (omega (arith, h))
      ∙ or_assoc ends here (through_some one count more (base + count) (one base here))

  after_copies : (more m low i base : ℕ) (here ends : Bool) → low ≡ i + m → ends ≡ (here && nat_eq m 0)
      → ends_after one count low (m + more) i base here ends ≡ through_copies one count more m base here
  after_copies more zero low i base here ends e f =
      ap (λ n. ends_after one count low n i base here ends) (zero-add more)
      ∙ ap (ends_after one count low more i base here) (f ∙ no_copies here)
      ∙ after_some low more i base here false (omega (arith, e))
  after_copies more (suc m) low i base here ends e f =
      ap (λ n. ends_after one count low n i base here ends) (suc-add m more)
      ∙ after_copies more m low (suc i) (base + count) (one base here) (ends || (nat_le low (suc i) && one base here))
      (omega (arith, e))
      (ap (λ x. x || (nat_le low (suc i) && one base here)) (f ∙ some_copies here m)
      ∙ last_copy low i m (one base here) e)

  -- more copies are required than there are
  after_few : (low n i base : ℕ) (here : Bool) → i + n < low → ends_after one count low n i base here false ≡ false
  after_few low zero i base here h = refl
  after_few low (suc n) i base here h =
      ap (λ x. ends_after one count low n (suc i) (base + count) (one base here) (x && one base here))
      (lt-leb low (suc i) (omega (arith, h)))
      ∙ after_few low n (suc i) (base + count) (one base here) (omega (arith, h))

  -- the last copy counts once, however often it comes
  copies_on : Keeps one → (low base : ℕ) (b : Bool)
      → through_copies_on one count low base b ≡ through_copies one count 0 (suc low) base b
  copies_on k zero base b = again_once one k base b
  copies_on k (suc low) base b = copies_on k low (base + count) (one base b)

-- ---- a tree without positions
module _ (f : ℕ → Bool → Bool) (still : (base : ℕ) → f base false ≡ false) where
  some_still : (count more base : ℕ) → through_some f count more base false ≡ false
  some_still count zero base = refl
  some_still count (suc more) base =
      ap (through_some f count more (base + count)) (still base) ∙ some_still count more (base + count)

  copies_still : (count more low base : ℕ) → through_copies f count more low base false ≡ false
  copies_still count more zero base = some_still count more base
  copies_still count more (suc low) base =
      ap (through_copies f count more low (base + count)) (still base) ∙ copies_still count more low (base + count)

  copies_on_still : (count low base : ℕ) → through_copies_on f count low base false ≡ false
  copies_on_still count zero base = ap (f base) (still base) ∙ still base
  copies_on_still count (suc low) base =
      ap (through_copies_on f count low (base + count)) (still base) ∙ copies_on_still count low (base + count)

product_zero : (m n : ℕ) → m * n ≡ 0 → 0 < m → n ≡ 0
product_zero m zero e h = refl
product_zero (suc m) (suc n) e h = absurd (omega (arith, e))
product_zero zero (suc n) e h = absurd (omega (arith, h))

some_none : (f : ℕ → Bool → Bool) (count more base : ℕ) → more ≡ 0 → through_some f count more base false ≡ false
some_none f count more base e = ap (λ n. through_some f count n base false) e

if_fails : (test b : Bool) → test ≡ true → (if test then false else b) ≡ false
if_fails true b e = refl
if_fails false b e = absurd (cc e)

if_same : (test b : Bool) → b ≡ false → (if test then false else b) ≡ false
if_same true b e = refl
if_same false b e = e

module _ (first last : Bool) (read : ℕ → Bool) where
  mutual
    pub still : (t : Tree) → count_of t ≡ 0 → (base : ℕ) → ends_here t first last read base false ≡ false
    still empty e base = refl
    still (one_of ranges) e base = absurd (omega (arith, e))
    still at_start e base = refl
    still at_end e base = refl
    still (in_turn ts) e base = still_in_turn ts e base
    still (either ts) e base = still_of_one ts e base
    still (repeated t zero None) e base = still t (product_zero (max 0 1) (count_of t) e (omega arith)) base
    still (repeated t (suc low) None) e base =
        copies_on_still (λ at some. ends_here t first last read at some)
        (still t (product_zero (max (suc low) 1) (count_of t) e (omega arith))) (count_of t) low base
    still (repeated t zero (Some zero)) e base =
        some_none (λ at some. ends_here t first last read at some) (count_of t) (0 - 0) base (omega arith)
    still (repeated t (suc low) (Some zero)) e base =
        if_fails (nat_lt 0 (suc low)) _ (lt-ltb 0 (suc low) (omega arith))
    still (repeated t low (Some (suc high))) e base =
        if_same (nat_lt (suc high) low) _ (copies_still (λ at some. ends_here t first last read at some)
        (still t (product_zero (suc high) (count_of t) e (omega arith))) (count_of t) (suc high - low) low base)

    still_in_turn : (ts : Trees) → count_in ts ≡ 0 → (base : ℕ)
        → ends_here_in_turn ts first last read base false ≡ false
    still_in_turn no_trees e base = refl
    still_in_turn (tree t ts) e base =
        ap (ends_here_in_turn ts first last read (base + count_of t)) (still t (omega (arith, e)) base)
        ∙ still_in_turn ts (omega (arith, e)) (base + count_of t)

    still_of_one : (ts : Trees) → count_in ts ≡ 0 → (base : ℕ) → ends_here_of_one ts first last read base false ≡ false
    still_of_one no_trees e base = refl
    still_of_one (tree t ts) e base =
        or_from _ _ (still t (omega (arith, e)) base) (still_of_one ts (omega (arith, e)) (base + count_of t))

module _ (f : ℕ → Bool → Bool) (still : (base : ℕ) → f base false ≡ false) where
  some_stay : (count more base : ℕ) (b : Bool) → through_some f count more base b ≡ b
  some_stay count more base false = some_still f still count more base
  some_stay count zero base true = refl
  some_stay count (suc more) base true = refl

  once : (base : ℕ) (b : Bool) → f base (f base b) ≡ f base b
  once base false = ap (f base) (still base)
  once base true = by (f base true) refl where
    by : (x : Bool) → f base true ≡ x → f base (f base true) ≡ f base true
    by true e = ap (f base) e
    by false e = ap (f base) e ∙ still base ∙ sym e

  copies_stay : (count more low base : ℕ) (b : Bool) → count ≡ 0
      → through_copies f count more (suc low) base b ≡ f base b
  copies_stay count more zero base b e = some_stay count more (base + count) (f base b)
  copies_stay count more (suc low) base b e =
      copies_stay count more low (base + count) (f base b) e
      ∙ ap (λ k. f k (f base b)) (omega (arith, e))
      ∙ once base b

if_few : (m n : ℕ) (b : Bool) → (if nat_lt n m then false else b) ≡ (nat_le m n && b)
if_few m n b = grind (arith, nat_tests)

at_start_end : (low : ℕ) (b : Bool) → (nat_le low 0 && b) ≡ (b && nat_eq low 0)
at_start_end low false = and-false (nat_le low 0)
at_start_end low true = grind (arith, nat_tests)

-- ---- the laws that the walks cite
module _ (first last : Bool) (read : ℕ → Bool) (t : Tree) where
  abbrev Ends : ℕ → Bool → Bool
  Ends at some = ends_here t first last read at some

  -- after the last copy it is known whether a match can end
  from_start : (low : ℕ) (high : Option ℕ) (base : ℕ) (b : Bool)
      → ends_after (λ at some. ends_here t first last read at some) (count_of t) low (copies low high) 0 base b
      (b && nat_eq low 0) ≡ ends_here (repeated t low high) first last read base b
  from_start zero None base b =
      ap (ends_after (λ at some. ends_here t first last read at some) (count_of t) 0 1 0 base b) (no_copies b)
      ∙ after_some (λ at some. ends_here t first last read at some) (count_of t) 0 1 0 base b false (omega arith)
      ∙ or_once b where
        or_once : (x : Bool) → (x || ends_here t first last read base x) ≡ (x || ends_here t first last read base false)
        or_once true = refl
        or_once false = refl
  from_start (suc low) None base b =
      ap (λ n. ends_after Ends (count_of t) (suc low) n 0 base b (b && nat_eq (suc low) 0)) (plain low)
      ∙ after_copies Ends (count_of t) 0 (suc low) (suc low) 0 base b (b && nat_eq (suc low) 0) (omega arith) refl
      ∙ sym (copies_on Ends (count_of t) (keeps first last read t) low base b) where
        plain : (m : ℕ) → max (suc m) 1 ≡ suc m + 0
        plain m = omega arith
  from_start low (Some high) base b = by (nat_lt high low) refl where
    by : (x : Bool) → nat_lt high low ≡ x
        → ends_after Ends (count_of t) low high 0 base b (b && nat_eq low 0)
        ≡ (if nat_lt high low then false else through_copies Ends (count_of t) (high - low) low base b)
    by true e =
        ap (ends_after Ends (count_of t) low high 0 base b)
        (and_right b (nat_eq low 0) (ne_eqb low 0 (λ h. omega (arith, h, ltb-true high low e))))
        ∙ after_few Ends (count_of t) low high 0 base b (omega (arith, ltb-true high low e))
        ∙ sym (if_fails (nat_lt high low) _ e)
    by false e =
        ap (λ n. ends_after Ends (count_of t) low n 0 base b (b && nat_eq low 0))
        (whole low high (ltb-false high low e))
        ∙ after_copies Ends (count_of t) (high - low) low low 0 base b (b && nat_eq low 0) (omega arith) refl
        ∙ sym (ap (λ x. if x then false else through_copies Ends (count_of t) (high - low) low base b) e) where
          whole : (m n : ℕ) → m ≤ n → n ≡ m + (n - m)
          whole m n h = omega (arith, h)

  -- going through all copies answers whether a match of the repeated tree can end
  pub ends_repeated : (low : ℕ) (high : Option ℕ) (base : ℕ) (b : Bool)
      → ends_after (λ at some. ends_here t first last read at some) (count_of t) low (copies low high) 0 base b
      (nat_le low 0 && b) ≡ ends_here (repeated t low high) first last read base b
  ends_repeated low high base b =
      ap (ends_after (λ at some. ends_here t first last read at some) (count_of t) low (copies low high) 0 base b)
      (at_start_end low b)
      ∙ from_start low high base b

  -- a tree without positions is gone through once
  pub ends_still : (low : ℕ) (high : Option ℕ) (base : ℕ) (b : Bool) → count_of t ≡ 0
      → (if nat_eq low 0 then b else nat_le low (copies low high) && ends_here t first last read base b)
      ≡ ends_here (repeated t low high) first last read base b
  ends_still zero None base b e = sym (ap (λ x. b || x) (still first last read t e base) ∙ or-false b)
  ends_still (suc low) None base b e =
      ap (λ x. if x then b else nat_le (suc low) (max (suc low) 1) && Ends base b)
      (ne_eqb (suc low) 0 (λ h. omega (arith, h)))
      ∙ ap (λ x. x && Ends base b) (le-leb (suc low) (max (suc low) 1) (omega arith))
      ∙ sym (copies_on Ends (count_of t) (keeps first last read t) low base b
      ∙ copies_stay Ends (still first last read t e) (count_of t) 0 low base b e)
  ends_still zero (Some high) base b e =
      sym (if_few 0 high (through_some Ends (count_of t) (high - 0) base b)
      ∙ ap (λ x. x && through_some Ends (count_of t) (high - 0) base b) (le-leb 0 high (omega arith))
      ∙ some_stay Ends (still first last read t e) (count_of t) (high - 0) base b)
  ends_still (suc low) (Some high) base b e =
      ap (λ x. if x then b else nat_le (suc low) high && Ends base b)
      (ne_eqb (suc low) 0 (λ h. omega (arith, h)))
      ∙ sym (if_few (suc low) high (through_copies Ends (count_of t) (high - suc low) (suc low) base b)
      ∙ ap (λ x. nat_le (suc low) high && x)
      (copies_stay Ends (still first last read t e) (count_of t) (high - suc low) low base b e))

module _ (next : ℕ → Bool → List Bool) (one : ℕ → Bool → Bool) (count : ℕ) where
  next_copies_is : (n base : ℕ) (b : Bool)
      → next_after false next one count n base b ≡ next_copies next one count n base b
  next_copies_is zero base b = refl
  next_copies_is (suc n) base b =
      ap (λ z. next base b ++ z) (next_copies_is n (base + count) (one base b))

  next_copies_on_is : (n base : ℕ) (b : Bool)
      → next_after true next one count (suc n) base b ≡ next_copies_on next one count n base b
  next_copies_on_is zero base b = append-nil (next base (b || one base false))
  next_copies_on_is (suc n) base b =
      ap (λ x. next base (if x then b || one base false else b)
      ++ next_after true next one count (suc n) (base + count) (one base b))
      (ne_eqb (suc n) 0 (λ h. omega (arith, h)))
      ∙ ap (λ z. next base b ++ z) (next_copies_on_is n (base + count) (one base b))

-- going through all copies gives which positions of the repeated tree read the character
pub reads_repeated : (first : Bool) (read : ℕ
    → Bool) (c : ℕ) (t : Tree) (low : ℕ) (high : Option ℕ) (base : ℕ) (b : Bool)
    → next_after (is_none high) (λ at some. reads_next t first read c at some)
    (λ at some. ends_here t first false read at some) (count_of t) (copies low high) base b
    ≡ reads_next (repeated t low high) first read c base b
reads_repeated first read c t low None base b =
    ap (λ n. next_after true (λ at some. reads_next t first read c at some)
    (λ at some. ends_here t first false read at some) (count_of t) n base b) (once_at_least low)
    ∙ next_copies_on_is (λ at some. reads_next t first read c at some)
    (λ at some. ends_here t first false read at some) (count_of t) (low - 1) base b where
      once_at_least : (m : ℕ) → max m 1 ≡ suc (m - 1)
      once_at_least m = omega arith
reads_repeated first read c t low (Some high) base b =
    next_copies_is (λ at some. reads_next t first read c at some)
    (λ at some. ends_here t first false read at some) (count_of t) high base b
