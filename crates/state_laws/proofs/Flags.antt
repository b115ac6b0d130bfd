-- Lists of flags, one a position: how many they are, and what agrees with them.
use Rattle.std.proofs.lemmas.Bool.{ne_eqb, eq-eqb}
use Rattle.std.proofs.Common.{◌≡◌, ℕ, zero, suc, ◌+◌, ◌-◌, ◌*◌, ◌<◌, Bool, true, false, ◌||◌, List, [], ◌∷◌, ◌++◌, length, flat_map, Some, None, refl, ◌∙◌, ap, subst, arith, length-append}
use Rattle.patterns.specs.Tree.{Tree, Trees, empty, one_of, at_start, at_end, in_turn, either, repeated, no_trees, tree}
use Rattle.patterns.specs.Decision.{ends}
use Rattle.word_states.specs.Position.{count_of, count_in, copies}
use Rattle.word_states.specs.LastRead.{in_copies, in_copies_on, last_read, last_read_in_turn, last_read_of_one}
use Rattle.word_states.specs.PatternState.{without_end, all_without_end, numbers_from}
use Rattle.state_laws.specs.Flow.{flag_at, is_among}

-- the flags are what a function says from `base` on
abbrev pub Agrees : (ℕ → Bool) → ℕ → List Bool → Type 0
Agrees read base [] = Unit {0}
Agrees read base (b ∷ bs) = (read base ≡ b) × Agrees read (suc base) bs

pub agrees_left : (read : ℕ → Bool) (base : ℕ) (bs cs : List Bool) → Agrees read base (bs ++ cs) → Agrees read base bs
agrees_left read base [] cs a = tt
agrees_left read base (b ∷ bs) cs (e, a) = (e, agrees_left read (suc base) bs cs a)

pub agrees_right : (read : ℕ → Bool) (base : ℕ) (bs cs : List Bool) → Agrees read base (bs ++ cs)
    → Agrees read (base + length bs) cs
agrees_right read base [] cs a = subst (λ k. Agrees read k cs) (omega arith) a
agrees_right read base (b ∷ bs) cs (e, a) =
    subst (λ k. Agrees read k cs) (omega arith) (agrees_right read (suc base) bs cs a)

pub agrees_flags : (read : ℕ → Bool) (base : ℕ) (bs : List Bool) → ((p : ℕ) → read (base + p) ≡ flag_at bs p)
    → Agrees read base bs
agrees_flags read base [] f = tt
agrees_flags read base (b ∷ bs) f = (
  subst (λ k. read k ≡ b) (omega arith) (f 0),
  agrees_flags read (suc base) bs (λ p. subst (λ k. read k ≡ flag_at bs p) (omega arith) (f (suc p))),
)

numbers_later : (k p : ℕ) (bs : List Bool) → p < k → is_among (numbers_from k bs) p ≡ false
numbers_later k p [] l = refl
numbers_later k p (true ∷ bs) l =
    ap (λ x. x || is_among (numbers_from (suc k) bs) p) (ne_eqb p k (λ e. omega (arith, e, l)))
    ∙ numbers_later (suc k) p bs (omega arith)
numbers_later k p (false ∷ bs) l = numbers_later (suc k) p bs (omega arith)

-- the numbers of flags say what they are
pub numbers_flag : (k p : ℕ) (bs : List Bool) → is_among (numbers_from k bs) (k + p) ≡ flag_at bs p
numbers_flag k p [] = refl
numbers_flag k zero (true ∷ bs) =
    ap (λ x. x || is_among (numbers_from (suc k) bs) (k + 0)) (eq-eqb (k + 0) k (omega arith))
numbers_flag k zero (false ∷ bs) = numbers_later (suc k) (k + 0) bs (omega arith)
numbers_flag k (suc p) (true ∷ bs) =
    ap (λ x. x || is_among (numbers_from (suc k) bs) (k + suc p)) (ne_eqb (k + suc p) k (λ e. omega (arith, e)))
    ∙ ap (is_among (numbers_from (suc k) bs)) (omega arith)
    ∙ numbers_flag (suc k) p bs
numbers_flag k (suc p) (false ∷ bs) = ap (is_among (numbers_from (suc k) bs)) (omega arith) ∙ numbers_flag (suc k) p bs

pub agrees_numbers : (bs : List Bool) → Agrees (is_among (numbers_from 0 bs)) 0 bs
agrees_numbers bs = agrees_flags (is_among (numbers_from 0 bs)) 0 bs (λ p. numbers_flag 0 p bs)

pub agrees_self : (bs : List Bool) → Agrees (flag_at bs) 0 bs
agrees_self bs = agrees_flags (flag_at bs) 0 bs (λ p. ap (flag_at bs) (omega arith))

-- ---- one flag a position
length_copies : (reads : List ℕ → List Bool) (step : List ℕ → List ℕ) (m : ℕ)
    → ((xs : List ℕ) → length (reads xs) ≡ m) → (n : ℕ) (xs : List ℕ)
    → length (in_copies reads step n xs) ≡ n * m
length_copies reads step m f zero xs = omega arith
length_copies reads step m f (suc n) xs =
    length-append (reads xs) (in_copies reads step n (step xs))
    ∙ omega (arith, f xs, length_copies reads step m f n (step xs))

length_copies_on : (reads : List ℕ → List Bool) (step more : List ℕ → List ℕ) (m : ℕ)
    → ((xs : List ℕ) → length (reads xs) ≡ m) → (n : ℕ) (xs : List ℕ)
    → length (in_copies_on reads step more n xs) ≡ suc n * m
length_copies_on reads step more m f zero xs = omega (arith, f (more xs))
length_copies_on reads step more m f (suc n) xs =
    length-append (reads xs) (in_copies_on reads step more n (step xs))
    ∙ omega (arith, f xs, length_copies_on reads step more m f n (step xs))

mutual
  pub length_read : (t : Tree) (w xs : List ℕ) → length (last_read t w xs) ≡ count_of t
  length_read empty w xs = refl
  length_read (one_of ranges) w xs = refl
  length_read at_start w xs = refl
  length_read at_end w xs = refl
  length_read (in_turn ts) w xs = length_read_in_turn ts w xs
  length_read (either ts) w xs = length_read_of_one ts w xs
  length_read (repeated t low None) w xs =
      length_copies_on (λ some. last_read t w some) (flat_map (ends t w)) (flat_map (ends (repeated t 0 None) w))
      (count_of t) (length_read t w) (low - 1) xs
      ∙ ap (λ k. k * count_of t) (omega arith)
  length_read (repeated t low (Some high)) w xs =
      length_copies (λ some. last_read t w some) (flat_map (ends t w)) (count_of t) (length_read t w) high xs

  length_read_in_turn : (ts : Trees) (w xs : List ℕ) → length (last_read_in_turn ts w xs) ≡ count_in ts
  length_read_in_turn no_trees w xs = refl
  length_read_in_turn (tree t ts) w xs =
      length-append (last_read t w xs) (last_read_in_turn ts w (flat_map (ends t w) xs))
      ∙ omega (arith, length_read t w xs, length_read_in_turn ts w (flat_map (ends t w) xs))

  length_read_of_one : (ts : Trees) (w xs : List ℕ) → length (last_read_of_one ts w xs) ≡ count_in ts
  length_read_of_one no_trees w xs = refl
  length_read_of_one (tree t ts) w xs =
      length-append (last_read t w xs) (last_read_of_one ts w xs)
      ∙ omega (arith, length_read t w xs, length_read_of_one ts w xs)

mutual
  pub count_open : (t : Tree) → count_of (without_end t) ≡ count_of t
  count_open empty = refl
  count_open (one_of ranges) = refl
  count_open at_start = refl
  count_open at_end = refl
  count_open (in_turn ts) = count_open_in ts
  count_open (either ts) = count_open_in ts
  count_open (repeated t low high) = ap (λ k. copies low high * k) (count_open t)

  count_open_in : (ts : Trees) → count_in (all_without_end ts) ≡ count_in ts
  count_open_in no_trees = refl
  count_open_in (tree t ts) = omega (arith, count_open t, count_open_in ts)
