-- Which positions read one more character.
use Rattle.std.proofs.lemmas.Bool.{and_parts, and_from, eqb-true, eq-eqb}
use Rattle.std.proofs.Common.{◌≡◌, ℕ, zero, suc, ◌+◌, ◌-◌, ◌<◌, Bool, true, false, ◌&&◌, ◌||◌, nat_lt, nat_eq, List, [], ◌∷◌, ◌++◌, length, slice_index, flat_map, if◌then◌else◌, Some, None, refl, sym, ◌∙◌, ap, subst, arith}
use Rattle.std.specs.List.{list_any}
use Rattle.patterns.specs.CharSet.{has}
use Rattle.patterns.specs.Tree.{Tree, Trees, empty, one_of, at_start, at_end, in_turn, either, repeated, no_trees, tree}
use Rattle.patterns.specs.Decision.{ends, is_empty}
use Rattle.list_laws.specs.In.{IsIn}
use Rattle.word_states.specs.Position.{count_of}
use Rattle.word_states.specs.LastRead.{reads_end, in_copies, in_copies_on, last_read, last_read_in_turn, last_read_of_one}
use Rattle.word_states.specs.PatternState.{without_end, all_without_end}
use Rattle.state_laws.specs.Flow.{is_among, through_some, through_copies, through_copies_on, ends_here, ends_here_in_turn, ends_here_of_one, next_copies, next_copies_on, reads_next, reads_next_in_turn, reads_next_of_one}
use Rattle.state_laws.proofs.Places.{in_among, from_among, Same}
use Rattle.state_laws.proofs.Pieces.{same_ends}
use Rattle.state_laws.proofs.Flags.{Agrees, agrees_left, agrees_right, length_read, count_open}
use Rattle.state_laws.proofs.Ends.{read_open, steps_open, ends_law, ends_pieces}
use Rattle.list_laws.proofs.Lists.{length-end}
use Rattle.list_laws.proofs.Booleans.{same_test}
use Rattle.list_laws.proofs.Tests.{any_from, any_find}

-- ---- without end assertions it is as where a character comes next
module _ (one two : ℕ → Bool → Bool) (same : (base : ℕ) (b : Bool) → one base b ≡ two base b) where
  some_same : (m n k base : ℕ) (b : Bool) → m ≡ n → through_some one m k base b ≡ through_some two n k base b
  some_same m n zero base b e = refl
  some_same m n (suc k) base b e =
      ap (λ x. b || x)
      (ap (λ x. through_some one m k (base + m) x) (same base b)
      ∙ ap (λ x. through_some one m k (base + x) (two base b)) e
      ∙ some_same m n k (base + n) (two base b) e)

  copies_same : (m n k l base : ℕ) (b : Bool) → m ≡ n → through_copies one m k l base b
      ≡ through_copies two n k l base b
  copies_same m n k zero base b e = some_same m n k base b e
  copies_same m n k (suc l) base b e =
      ap (λ x. through_copies one m k l (base + m) x) (same base b)
      ∙ ap (λ x. through_copies one m k l (base + x) (two base b)) e
      ∙ copies_same m n k l (base + n) (two base b) e

  copies_on_same : (m n l base : ℕ) (b : Bool) → m ≡ n → through_copies_on one m l base b
      ≡ through_copies_on two n l base b
  copies_on_same m n zero base b e =
      ap (λ x. one base (b || x)) (same base false) ∙ same base (b || two base false)
  copies_on_same m n (suc l) base b e =
      ap (λ x. through_copies_on one m l (base + m) x) (same base b)
      ∙ ap (λ x. through_copies_on one m l (base + x) (two base b)) e
      ∙ copies_on_same m n l (base + n) (two base b) e

module _ (first last : Bool) (read : ℕ → Bool) where
  mutual
    pub ends_open : (t : Tree) (base : ℕ) (b : Bool)
        → ends_here (without_end t) first last read base b ≡ ends_here t first false read base b
    ends_open empty base b = refl
    ends_open (one_of ranges) base b = refl
    ends_open at_start base b = refl
    ends_open at_end base true = refl
    ends_open at_end base false = refl
    ends_open (in_turn ts) base b = ends_open_in_turn ts base b
    ends_open (either ts) base b = ends_open_of_one ts base b
    ends_open (repeated t zero None) base b = ap (λ x. b || x) (ends_open t base false)
    ends_open (repeated t (suc low) None) base b =
        copies_on_same (λ at some. ends_here (without_end t) first last read at some)
        (λ at some. ends_here t first false read at some) (ends_open t) (count_of (without_end t)) (count_of t) low base
        b (count_open t)
    ends_open (repeated t low (Some high)) base b =
        ap (λ x. if nat_lt high low then false else x)
        (copies_same (λ at some. ends_here (without_end t) first last read at some)
        (λ at some. ends_here t first false read at some) (ends_open t) (count_of (without_end t)) (count_of t)
        (high - low) low base b (count_open t))

    ends_open_in_turn : (ts : Trees) (base : ℕ) (b : Bool)
        → ends_here_in_turn (all_without_end ts) first last read base b ≡ ends_here_in_turn ts first false read base b
    ends_open_in_turn no_trees base b = refl
    ends_open_in_turn (tree t ts) base b =
        ap (λ x. ends_here_in_turn (all_without_end ts) first last read (base + count_of (without_end t)) x)
        (ends_open t base b)
        ∙ ap (λ x. ends_here_in_turn (all_without_end ts) first last read (base + x)
        (ends_here t first false read base b))
        (count_open t)
        ∙ ends_open_in_turn ts (base + count_of t) (ends_here t first false read base b)

    ends_open_of_one : (ts : Trees) (base : ℕ) (b : Bool)
        → ends_here_of_one (all_without_end ts) first last read base b ≡ ends_here_of_one ts first false read base b
    ends_open_of_one no_trees base b = refl
    ends_open_of_one (tree t ts) base b =
        ap (λ x. x || ends_here_of_one (all_without_end ts) first last read (base + count_of (without_end t)) b)
        (ends_open t base b)
        ∙ ap (λ x. ends_here t first false read base b || ends_here_of_one (all_without_end ts) first last read
        (base + x) b)
        (count_open t)
        ∙ ap (λ x. ends_here t first false read base b || x) (ends_open_of_one ts (base + count_of t) b)

-- ---- one more character
last_index : (w : List ℕ) (c : ℕ) → slice_index (w ++ c ∷ []) (length w) ≡ c
last_index [] c = refl
last_index (d ∷ w) c = last_index w c

pub earlier_index : (w : List ℕ) (c i : ℕ) → i < length w → slice_index (w ++ c ∷ []) i ≡ slice_index w i
earlier_index [] c i l = absurd (omega arith)
earlier_index (d ∷ w) c zero l = refl
earlier_index (d ∷ w) c (suc i) l = earlier_index w c i (omega arith)

module _ (w : List ℕ) (c : ℕ) (read : ℕ → Bool) where
  abbrev longer : List ℕ
  longer = w ++ c ∷ []

  -- what ends no later than the shorter word
  pub steps_longer : (t : Tree) (xs ys : List ℕ) → Same (suc (length w)) xs ys
      → Same (suc (length w)) (flat_map (ends t longer) xs) (flat_map (ends (without_end t) w) ys)
  steps_longer =
      same_ends longer w (suc (length w)) (omega (arith, length-end w c)) (omega arith)
      (λ i l. earlier_index w c i (omega (arith, l)))

  abbrev one : Tree → ℕ → Bool → Bool
  one t base begins = ends_here t (is_empty w) false read base begins

  -- where a match that uses no end assertion ends
  pub ends_next : (t : Tree) (base : ℕ) (ys zs : List ℕ) → Same (length w) ys zs → Agrees read base (last_read t w zs)
      → one t base (is_among ys (length w)) ≡ is_among (flat_map (ends (without_end t) w) ys) (length w)
  ends_next t base ys zs s a =
      sym (ends_open (is_empty w) true read t base (is_among ys (length w)))
      ∙ ends_law w read (without_end t) base ys (subst (Agrees read base) (sym (read_open w t ys zs s)) a)

  leaf_next : (ranges : List (ℕ × ℕ)) (xs ys : List ℕ) → Same (suc (length w)) xs ys
      → list_any (reads_end ranges longer) xs ≡ is_among ys (length w) && has ranges c
  leaf_next ranges xs ys s = same_test _ _ to from where
    to : list_any (reads_end ranges longer) xs ≡ true → (is_among ys (length w) && has ranges c) ≡ true
    to h =
        let (i, a, t) = any_find (reads_end ranges longer) xs h in
        let (u, v) = and_parts (nat_eq (suc i) (length longer)) (has ranges (slice_index longer i)) t in
        let e : i ≡ length w = omega (arith, eqb-true (suc i) (length longer) u, length-end w c) in
        and_from _ _ (in_among (length w) ys (s.0 (length w) (omega arith) (subst (λ z. IsIn z xs) e a)))
        (subst (λ z. has ranges z ≡ true) (ap (slice_index longer) e ∙ last_index w c) v)

    from : (is_among ys (length w) && has ranges c) ≡ true → list_any (reads_end ranges longer) xs ≡ true
    from h =
        let (u, v) = and_parts (is_among ys (length w)) (has ranges c) h in
        any_from (reads_end ranges longer) (length w) xs (s.1 (length w) (omega arith) (from_among (length w) ys u))
        (and_from _ _ (eq-eqb (suc (length w)) (length longer) (sym (length-end w c)))
        (subst (λ z. has ranges z ≡ true) (sym (last_index w c)) v))

  abbrev Next : Tree → Type 0
  Next t = (base : ℕ) (xs ys zs : List ℕ) → Same (suc (length w)) xs ys → Same (length w) ys zs
      → Agrees read base (last_read t w zs)
      → last_read t longer xs ≡ reads_next t (is_empty w) read c base (is_among ys (length w))

  -- the places at which the next piece begins
  later : (t : Tree) (base : ℕ) (zs : List ℕ) (more : List Bool) → Agrees read base (last_read t w zs ++ more)
      → Agrees read (base + count_of t) more
  later t base zs more a =
      subst (λ k. Agrees read (base + k) more) (length_read t w zs) (agrees_right read base (last_read t w zs) more a)

  copies_next : (t : Tree) → Next t → (k base : ℕ) (xs ys zs : List ℕ) → Same (suc (length w)) xs ys
      → Same (length w) ys zs → Agrees read base (in_copies (λ some. last_read t w some) (flat_map (ends t w)) k zs)
      → in_copies (λ some. last_read t longer some) (flat_map (ends t longer)) k xs
      ≡ next_copies (λ at some. reads_next t (is_empty w) read c at some) (one t) (count_of t) k base
      (is_among ys (length w))
  copies_next t h zero base xs ys zs s r a = refl
  copies_next t h (suc k) base xs ys zs s r a =
      ap (λ z. z ++ in_copies (λ some. last_read t longer some) (flat_map (ends t longer)) k
      (flat_map (ends t longer) xs))
      (h base xs ys zs s r (agrees_left read base (last_read t w zs) _ a))
      ∙ ap (λ z. reads_next t (is_empty w) read c base (is_among ys (length w)) ++ z)
      (copies_next t h k (base + count_of t) (flat_map (ends t longer) xs) (flat_map (ends (without_end t) w) ys)
      (flat_map (ends t w) zs) (steps_longer t xs ys s) (steps_open w t ys zs r) (later t base zs _ a)
      ∙ ap (next_copies (λ at some. reads_next t (is_empty w) read c at some) (one t) (count_of t) k
      (base + count_of t))
      (sym (ends_next t base ys zs r (agrees_left read base (last_read t w zs) _ a))))

  copies_on_next : (t : Tree) → Next t → (k base : ℕ) (xs ys zs : List ℕ) → Same (suc (length w)) xs ys
      → Same (length w) ys zs
      → Agrees read base
      (in_copies_on (λ some. last_read t w some) (flat_map (ends t w)) (flat_map (ends (repeated t 0 None) w)) k zs)
      → in_copies_on (λ some. last_read t longer some) (flat_map (ends t longer))
      (flat_map (ends (repeated t 0 None) longer)) k xs
      ≡ next_copies_on (λ at some. reads_next t (is_empty w) read c at some) (one t) (count_of t) k base
      (is_among ys (length w))
  copies_on_next t h zero base xs ys zs s r a =
      h base (flat_map (ends (repeated t 0 None) longer) xs) (flat_map (ends (repeated (without_end t) 0 None) w) ys)
      (flat_map (ends (repeated t 0 None) w) zs) (steps_longer (repeated t 0 None) xs ys s)
      (steps_open w (repeated t 0 None) ys zs r) a
      ∙ ap (reads_next t (is_empty w) read c base)
      (sym
      (ap (λ x. is_among ys (length w) || x) (sym (ends_open (is_empty w) true read t base false))
      ∙ ends_pieces w read (without_end t) (ends_law w read (without_end t)) base ys
      (subst (Agrees read base)
      (sym
      (read_open w t (flat_map (ends (repeated (without_end t) 0 None) w) ys) (flat_map (ends (repeated t 0 None) w) zs)
      (steps_open w (repeated t 0 None) ys zs r)))
      a)))
  copies_on_next t h (suc k) base xs ys zs s r a =
      ap
      (λ z. z
      ++ in_copies_on (λ some. last_read t longer some) (flat_map (ends t longer))
      (flat_map (ends (repeated t 0 None) longer)) k (flat_map (ends t longer) xs))
      (h base xs ys zs s r (agrees_left read base (last_read t w zs) _ a))
      ∙ ap (λ z. reads_next t (is_empty w) read c base (is_among ys (length w)) ++ z)
      (copies_on_next t h k (base + count_of t) (flat_map (ends t longer) xs) (flat_map (ends (without_end t) w) ys)
      (flat_map (ends t w) zs) (steps_longer t xs ys s) (steps_open w t ys zs r) (later t base zs _ a)
      ∙ ap (next_copies_on (λ at some. reads_next t (is_empty w) read c at some) (one t) (count_of t) k
      (base + count_of t))
      (sym (ends_next t base ys zs r (agrees_left read base (last_read t w zs) _ a))))

  mutual
    -- a position reads the next character where the flags of the state say so
    pub next_law : (t : Tree) → Next t
    next_law empty base xs ys zs s r a = refl
    next_law (one_of ranges) base xs ys zs s r a = ap (λ b. b ∷ []) (leaf_next ranges xs ys s)
    next_law at_start base xs ys zs s r a = refl
    next_law at_end base xs ys zs s r a = refl
    next_law (in_turn ts) base xs ys zs s r a = next_law_in_turn ts base xs ys zs s r a
    next_law (either ts) base xs ys zs s r a = next_law_of_one ts base xs ys zs s r a
    next_law (repeated t low None) base xs ys zs s r a = copies_on_next t (next_law t) (low - 1) base xs ys zs s r a
    next_law (repeated t low (Some high)) base xs ys zs s r a = copies_next t (next_law t) high base xs ys zs s r a

    next_law_in_turn : (ts : Trees) (base : ℕ) (xs ys zs : List ℕ) → Same (suc (length w)) xs ys
        → Same (length w) ys zs → Agrees read base (last_read_in_turn ts w zs)
        → last_read_in_turn ts longer xs ≡ reads_next_in_turn ts (is_empty w) read c base (is_among ys (length w))
    next_law_in_turn no_trees base xs ys zs s r a = refl
    next_law_in_turn (tree t ts) base xs ys zs s r a =
        ap (λ z. z ++ last_read_in_turn ts longer (flat_map (ends t longer) xs))
        (next_law t base xs ys zs s r (agrees_left read base (last_read t w zs) _ a))
        ∙ ap (λ z. reads_next t (is_empty w) read c base (is_among ys (length w)) ++ z)
        (next_law_in_turn ts (base + count_of t) (flat_map (ends t longer) xs) (flat_map (ends (without_end t) w) ys)
        (flat_map (ends t w) zs) (steps_longer t xs ys s) (steps_open w t ys zs r) (later t base zs _ a)
        ∙ ap (reads_next_in_turn ts (is_empty w) read c (base + count_of t))
        (sym (ends_next t base ys zs r (agrees_left read base (last_read t w zs) _ a))))

    next_law_of_one : (ts : Trees) (base : ℕ) (xs ys zs : List ℕ) → Same (suc (length w)) xs ys
        → Same (length w) ys zs → Agrees read base (last_read_of_one ts w zs)
        → last_read_of_one ts longer xs ≡ reads_next_of_one ts (is_empty w) read c base (is_among ys (length w))
    next_law_of_one no_trees base xs ys zs s r a = refl
    next_law_of_one (tree t ts) base xs ys zs s r a =
        ap (λ z. z ++ last_read_of_one ts longer xs)
        (next_law t base xs ys zs s r (agrees_left read base (last_read t w zs) _ a))
        ∙ ap (λ z. reads_next t (is_empty w) read c base (is_among ys (length w)) ++ z)
        (next_law_of_one ts (base + count_of t) xs ys zs s r (later t base zs _ a))
