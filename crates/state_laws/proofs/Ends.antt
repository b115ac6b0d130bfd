-- Where a match ends, by the flags of the positions that are read last.
use Rattle.std.proofs.lemmas.Bool.{and_parts, and_from, false≢true, ltb-false, eqb-true, eq-eqb}
use Rattle.std.proofs.Common.{◌≡◌, ℕ, zero, suc, ◌+◌, ◌-◌, ◌<◌, Bool, true, false, ◌&&◌, ◌||◌, nat_lt, nat_eq, List, [], ◌∷◌, ◌++◌, length, slice_index, flat_map, if◌then◌else◌, Some, None, refl, sym, ◌∙◌, ap, subst, arith, append-nil, suc-add}
use Rattle.std.specs.List.{list_any}
use Rattle.patterns.specs.CharSet.{has}
use Rattle.patterns.specs.Tree.{Tree, Trees, empty, one_of, at_start, at_end, in_turn, either, repeated, no_trees, tree}
use Rattle.patterns.specs.Decision.{ends, ends_in_turn, ends_of_one, ends_after, ends_within, is_empty}
use Rattle.list_laws.proofs.Lists.{in_flat_map, from_flat_map}
use Rattle.list_laws.specs.In.{IsIn}
use Rattle.pattern_laws.proofs.Decides.{sound, complete}
use Rattle.word_states.specs.Position.{count_of}
use Rattle.word_states.specs.LastRead.{reads_end, in_copies, in_copies_on, last_read, last_read_in_turn, last_read_of_one}
use Rattle.word_states.specs.PatternState.{without_end, all_without_end}
use Rattle.state_laws.specs.Flow.{is_among, through_some, through_copies, through_copies_on, ends_here, ends_here_in_turn, ends_here_of_one}
use Rattle.state_laws.proofs.Places.{in_among, from_among, Same, same_self, same_back, any_same, below, below_same, below_lacks, flat_flat, flat_same, flat_single, among_append, among_both}
use Rattle.state_laws.proofs.Pieces.{same_ends, pieces, piece, pieces_end, piece_pieces}
use Rattle.state_laws.proofs.Flags.{Agrees, agrees_left, agrees_right, length_read}
use Rattle.list_laws.proofs.Numbers.{suc-sub_one}
use Rattle.list_laws.proofs.Booleans.{same_test}
use Rattle.list_laws.proofs.Tests.{any_from, any_find}

copies_same : (f g : List ℕ → List Bool) (step go : List ℕ → List ℕ) (n : ℕ)
    → ((xs ys : List ℕ) → Same n xs ys → f xs ≡ g ys) → ((xs ys : List ℕ) → Same n xs ys → Same n (step xs) (go ys))
    → (k : ℕ) (xs ys : List ℕ) → Same n xs ys → in_copies f step k xs ≡ in_copies g go k ys
copies_same f g step go n a b zero xs ys s = refl
copies_same f g step go n a b (suc k) xs ys s =
    ap (λ z. z ++ in_copies f step k (step xs)) (a xs ys s)
    ∙ ap (λ z. g ys ++ z) (copies_same f g step go n a b k (step xs) (go ys) (b xs ys s))

copies_on_same : (f g : List ℕ → List Bool) (step go more on : List ℕ → List ℕ) (n : ℕ)
    → ((xs ys : List ℕ) → Same n xs ys → f xs ≡ g ys) → ((xs ys : List ℕ) → Same n xs ys → Same n (step xs) (go ys))
    → ((xs ys : List ℕ) → Same n xs ys → Same n (more xs) (on ys)) → (k : ℕ) (xs ys : List ℕ) → Same n xs ys
    → in_copies_on f step more k xs ≡ in_copies_on g go on k ys
copies_on_same f g step go more on n a b c zero xs ys s = a (more xs) (on ys) (c xs ys s)
copies_on_same f g step go more on n a b c (suc k) xs ys s =
    ap (λ z. z ++ in_copies_on f step more k (step xs)) (a xs ys s)
    ∙ ap (λ z. g ys ++ z) (copies_on_same f g step go more on n a b c k (step xs) (go ys) (b xs ys s))

-- ---- only places before the end matter, and no end assertion does
module _ (w : List ℕ) where
  pub steps_open : (r : Tree) (xs ys : List ℕ) → Same (length w) xs ys
      → Same (length w) (flat_map (ends (without_end r) w) xs) (flat_map (ends r w) ys)
  steps_open r xs ys s =
      same_back (length w) (flat_map (ends r w) ys) (flat_map (ends (without_end r) w) xs)
      (same_ends w w (length w) (omega arith) (omega arith) (λ i l. refl) r ys xs (same_back (length w) xs ys s))

  reads_before : (ranges : List (ℕ × ℕ)) (i : ℕ) → reads_end ranges w i ≡ true → i < length w
  reads_before ranges i h =
      let (a, b) = and_parts (nat_eq (suc i) (length w)) (has ranges (slice_index w i)) h in
      omega (arith, eqb-true (suc i) (length w) a)

  mutual
    pub read_open : (t : Tree) (xs ys : List ℕ) → Same (length w) xs ys
        → last_read (without_end t) w xs ≡ last_read t w ys
    read_open empty xs ys s = refl
    read_open (one_of ranges) xs ys s =
        ap (λ b. b ∷ []) (any_same (reads_end ranges w) (length w) xs ys (reads_before ranges) s)
    read_open at_start xs ys s = refl
    read_open at_end xs ys s = refl
    read_open (in_turn ts) xs ys s = read_open_in_turn ts xs ys s
    read_open (either ts) xs ys s = read_open_of_one ts xs ys s
    read_open (repeated t low None) xs ys s =
        copies_on_same (λ some. last_read (without_end t) w some) (λ some. last_read t w some)
        (flat_map (ends (without_end t) w)) (flat_map (ends t w)) (flat_map (ends (repeated (without_end t) 0 None) w))
        (flat_map (ends (repeated t 0 None) w)) (length w) (read_open t) (steps_open t)
        (steps_open (repeated t 0 None)) (low - 1) xs ys s
    read_open (repeated t low (Some high)) xs ys s =
        copies_same (λ some. last_read (without_end t) w some) (λ some. last_read t w some)
        (flat_map (ends (without_end t) w)) (flat_map (ends t w)) (length w) (read_open t) (steps_open t) high xs ys s

    read_open_in_turn : (ts : Trees) (xs ys : List ℕ) → Same (length w) xs ys
        → last_read_in_turn (all_without_end ts) w xs ≡ last_read_in_turn ts w ys
    read_open_in_turn no_trees xs ys s = refl
    read_open_in_turn (tree t ts) xs ys s =
        ap (λ z. z ++ last_read_in_turn (all_without_end ts) w (flat_map (ends (without_end t) w) xs))
        (read_open t xs ys s)
        ∙ ap (λ z. last_read t w ys ++ z)
        (read_open_in_turn ts (flat_map (ends (without_end t) w) xs) (flat_map (ends t w) ys) (steps_open t xs ys s))

    read_open_of_one : (ts : Trees) (xs ys : List ℕ) → Same (length w) xs ys
        → last_read_of_one (all_without_end ts) w xs ≡ last_read_of_one ts w ys
    read_open_of_one no_trees xs ys s = refl
    read_open_of_one (tree t ts) xs ys s =
        ap (λ z. z ++ last_read_of_one (all_without_end ts) w xs) (read_open t xs ys s)
        ∙ ap (λ z. last_read t w ys ++ z) (read_open_of_one ts xs ys s)

  pub read_same : (t : Tree) (xs ys : List ℕ) → Same (length w) xs ys → last_read t w xs ≡ last_read t w ys
  read_same t xs ys s = sym (read_open t xs xs (same_self (length w) xs)) ∙ read_open t xs ys s

abbrev nothing : ℕ → List ℕ
nothing i = []

flat_none : (xs : List ℕ) → flat_map nothing xs ≡ []
flat_none [] = refl
flat_none (x ∷ xs) = flat_none xs

-- ---- copies
module _ (one : ℕ → Bool → Bool) (count n : ℕ) (f : ℕ → List ℕ) (reads : List ℕ → List Bool) (read : ℕ → Bool)
    (counted : (xs : List ℕ) → length (reads xs) ≡ count)
    (ends_one : (base : ℕ) (xs : List ℕ) → Agrees read base (reads xs)
    → one base (is_among xs n) ≡ is_among (flat_map f xs) n) where
  later : (base : ℕ) (xs : List ℕ) (more : List Bool) → Agrees read base (reads xs ++ more)
      → Agrees read (base + count) more
  later base xs more a = subst (λ k. Agrees read (base + k) more) (counted xs)
      (agrees_right read base (reads xs) more a)

  ends_some : (k base : ℕ) (xs : List ℕ) → Agrees read base (in_copies reads (flat_map f) k xs)
      → through_some one count k base (is_among xs n) ≡ is_among (flat_map (ends_within f k) xs) n
  ends_some zero base xs a = ap (λ z. is_among z n) (sym (flat_single xs))
  ends_some (suc k) base xs a =
      ap (λ b. is_among xs n || through_some one count k (base + count) b)
      (ends_one base xs (agrees_left read base (reads xs) _ a))
      ∙ ap (λ b. is_among xs n || b)
      (ends_some k (base + count) (flat_map f xs) (later base xs _ a)
      ∙ ap (λ z. is_among z n) (flat_flat (ends_within f k) f xs))
      ∙ ap (λ z. is_among z n || is_among (flat_map (λ i. flat_map (ends_within f k) (f i)) xs) n)
      (sym (flat_single xs))
      ∙ sym (among_both (λ i. i ∷ []) (λ i. flat_map (ends_within f k) (f i)) n xs)

  -- after one more copy
  shift : (W : ℕ → List ℕ) (l : ℕ) (xs : List ℕ)
      → flat_map (λ i. flat_map W (ends_after f (suc l) i)) xs
      ≡ flat_map (λ i. flat_map W (ends_after f l i)) (flat_map f xs)
  shift W l xs =
      flat_same (λ i. flat_map W (flat_map (ends_after f l) (f i)))
      (λ i. flat_map (λ h. flat_map W (ends_after f l h)) (f i))
      xs (λ i. flat_flat W (ends_after f l) (f i))
      ∙ sym (flat_flat (λ i. flat_map W (ends_after f l i)) f xs)

  none_first : (W : ℕ → List ℕ) (xs : List ℕ) → flat_map W xs ≡ flat_map (λ i. flat_map W (i ∷ [])) xs
  none_first W xs = flat_same W (λ i. flat_map W (i ∷ [])) xs (λ i. sym (append-nil (W i)))

  ends_copies : (more l base : ℕ) (xs : List ℕ) → Agrees read base (in_copies reads (flat_map f) (l + more) xs)
      → through_copies one count more l base (is_among xs n)
      ≡ is_among (flat_map (λ i. flat_map (ends_within f more) (ends_after f l i)) xs) n
  ends_copies more zero base xs a =
      ends_some more base xs (subst (λ k. Agrees read base (in_copies reads (flat_map f) k xs)) (omega arith) a)
      ∙ ap (λ z. is_among z n) (none_first (ends_within f more) xs)
  ends_copies more (suc l) base xs a =
      let a' = subst (λ k. Agrees read base (in_copies reads (flat_map f) k xs)) (suc-add l more) a in
      ap (through_copies one count more l (base + count)) (ends_one base xs (agrees_left read base (reads xs) _ a'))
      ∙ ends_copies more l (base + count) (flat_map f xs) (later base xs _ a')
      ∙ ap (λ z. is_among z n) (sym (shift (ends_within f more) l xs))

  module _ (all : List ℕ → List ℕ) (len : ℕ)
      (all_is : (xs : List ℕ) → all xs ≡ flat_map (λ i. flat_map (ends_within f len) (i ∷ [])) xs)
      (ends_last : (base : ℕ) (xs : List ℕ) → Agrees read base (reads (all xs))
      → one base (is_among xs n || one base false) ≡ is_among (all (flat_map f xs)) n) where
    ends_copies_on : (l base : ℕ) (xs : List ℕ) → Agrees read base (in_copies_on reads (flat_map f) all l xs)
        → through_copies_on one count l base (is_among xs n)
        ≡ is_among (flat_map (λ i. flat_map (ends_within f len) (ends_after f (suc l) i)) xs) n
    ends_copies_on zero base xs a =
        ends_last base xs a
        ∙ ap (λ z. is_among z n) (all_is (flat_map f xs) ∙ sym (shift (ends_within f len) 0 xs))
    ends_copies_on (suc l) base xs a =
        ap (through_copies_on one count l (base + count)) (ends_one base xs (agrees_left read base (reads xs) _ a))
        ∙ ends_copies_on l (base + count) (flat_map f xs) (later base xs _ a)
        ∙ ap (λ z. is_among z n) (sym (shift (ends_within f len) (suc l) xs))

-- ---- where a match ends
module _ (w : List ℕ) (read : ℕ → Bool) where
  leaf_ends : (ranges : List (ℕ × ℕ)) (xs : List ℕ)
      → list_any (reads_end ranges w) xs ≡ is_among (flat_map (ends (one_of ranges) w) xs) (length w)
  leaf_ends ranges xs = same_test _ _ to from where
    to : list_any (reads_end ranges w) xs ≡ true → is_among (flat_map (ends (one_of ranges) w) xs) (length w) ≡ true
    to h =
        let (i, a, t) = any_find (reads_end ranges w) xs h in
        let (u, v) = and_parts (nat_eq (suc i) (length w)) (has ranges (slice_index w i)) t in
        let e = eqb-true (suc i) (length w) u in
        in_among (length w) (flat_map (ends (one_of ranges) w) xs)
        (in_flat_map (ends (one_of ranges) w) (length w) i xs a
        (complete (one_of ranges) w i (length w) (omega (arith, e)) (sym e, omega (arith, e), v)))

    from : is_among (flat_map (ends (one_of ranges) w) xs) (length w) ≡ true → list_any (reads_end ranges w) xs ≡ true
    from h =
        let (i, a, k) = from_flat_map (ends (one_of ranges) w) (length w) xs (from_among (length w) _ h) in
        let (e, l, t) = sound (one_of ranges) w i (length w) k in
        any_from (reads_end ranges w) i xs a (and_from _ _ (eq-eqb (suc i) (length w) (sym e)) t)

  start_ends : (v : List ℕ) (xs : List ℕ)
      → is_among xs (length v) && is_empty v ≡ is_among (flat_map (ends at_start v) xs) (length v)
  start_ends [] xs =
      same_test _ _
      (λ h. in_among 0 _ (in_flat_map (ends at_start []) 0 0 xs (from_among 0 xs (and_parts (is_among xs 0) true h).0)
      (complete at_start [] 0 0 (omega arith) (refl, refl))))
      (λ h. let (i, a, k) = from_flat_map (ends at_start []) 0 xs (from_among 0 _ h) in
      let (e, f) = sound at_start [] i 0 k in
      and_from _ _ (in_among 0 xs (subst (λ z. IsIn z xs) e a)) refl)
  start_ends (c ∷ v) xs =
      same_test _ _ (λ h. absurd (false≢true (and_parts (is_among xs (length (c ∷ v))) false h).1))
      (λ h. let (i, a, k) = from_flat_map (ends at_start (c ∷ v)) (length (c ∷ v)) xs
      (from_among (length (c ∷ v)) _ h) in
      let (e, f) = sound at_start (c ∷ v) i (length (c ∷ v)) k in absurd (omega (arith, f)))

  end_ends : (xs : List ℕ) → is_among xs (length w) && true ≡ is_among (flat_map (ends at_end w) xs) (length w)
  end_ends xs =
      same_test _ _
      (λ h. in_among (length w) _ (in_flat_map (ends at_end w) (length w) (length w) xs
      (from_among (length w) xs (and_parts (is_among xs (length w)) true h).0)
      (complete at_end w (length w) (length w) (omega arith) (refl, refl))))
      (λ h. let (i, a, k) = from_flat_map (ends at_end w) (length w) xs (from_among (length w) _ h) in
      let (e, f) = sound at_end w i (length w) k in
      and_from _ _ (in_among (length w) xs (subst (λ z. IsIn z xs) e a)) refl)

  abbrev one : Tree → ℕ → Bool → Bool
  one t base begins = ends_here t (is_empty w) true read base begins

  -- what `one` says of a tree, from a set of places
  abbrev EndsHere : Tree → Type 0
  EndsHere t = (base : ℕ) (xs : List ℕ) → Agrees read base (last_read t w xs)
      → one t base (is_among xs (length w)) ≡ is_among (flat_map (ends t w) xs) (length w)

  -- a last piece that began earlier
  ends_later : (t : Tree) → EndsHere t → (base : ℕ) (xs : List ℕ) → Agrees read base (last_read t w (pieces t w xs))
      → one t base false ≡ is_among (piece t w (below (length w) (pieces t w xs))) (length w)
  ends_later t h base xs a =
      ap (one t base) (sym (below_lacks (length w) (pieces t w xs)))
      ∙ h base (below (length w) (pieces t w xs))
      (subst (Agrees read base) (sym (read_same w t (below (length w) (pieces t w xs)) (pieces t w xs)
      (below_same (length w) (pieces t w xs)))) a)

  pub ends_pieces : (t : Tree) → EndsHere t → (base : ℕ) (xs : List ℕ)
      → Agrees read base (last_read t w (pieces t w xs))
      → is_among xs (length w) || one t base false ≡ is_among (pieces t w xs) (length w)
  ends_pieces t h base xs a =
      ap (λ b. is_among xs (length w) || b) (ends_later t h base xs a)
      ∙ sym (pieces_end t w (length w) xs refl ∙ among_append (length w) xs
      (piece t w (below (length w) (pieces t w xs))))

  ends_last : (t : Tree) → EndsHere t → (base : ℕ) (xs : List ℕ) → Agrees read base (last_read t w (pieces t w xs))
      → one t base (is_among xs (length w) || one t base false) ≡ is_among (pieces t w (piece t w xs)) (length w)
  ends_last t h base xs a =
      ap (one t base) (ends_pieces t h base xs a) ∙ h base (pieces t w xs) a ∙ piece_pieces t w (length w) xs refl

  bounded : (t : Tree) → EndsHere t → (low high base : ℕ) (xs : List ℕ)
      → Agrees read base (in_copies (λ some. last_read t w some) (flat_map (ends t w)) high xs) → (b : Bool)
      → nat_lt high low ≡ b
      → (if b then false else through_copies (one t) (count_of t) (high - low) low base (is_among xs (length w)))
      ≡ is_among
      (flat_map (λ i. if b then [] else flat_map (ends_within (ends t w) (high - low))
      (ends_after (ends t w) low i)) xs)
      (length w)
  bounded t h low high base xs a true e =
      sym (ap (λ z. is_among z (length w)) (flat_none xs))
  bounded t h low high base xs a false e =
      ends_copies (one t) (count_of t) (length w) (ends t w) (λ some. last_read t w some) read (length_read t w) h
      (high - low) low base xs
      (subst (λ k. Agrees read base (in_copies (λ some. last_read t w some) (flat_map (ends t w)) k xs))
      (omega (arith, ltb-false high low e)) a)

  mutual
    -- the flags of the positions that are read last say whether a match ends here
    pub ends_law : (t : Tree) → EndsHere t
    ends_law empty base xs a = ap (λ z. is_among z (length w)) (sym (flat_single xs))
    ends_law (one_of ranges) base xs (e, a) = e ∙ leaf_ends ranges xs
    ends_law at_start base xs a = start_ends w xs
    ends_law at_end base xs a = end_ends xs
    ends_law (in_turn ts) base xs a = ends_law_in_turn ts base xs a
    ends_law (either ts) base xs a = ends_law_of_one ts base xs a
    ends_law (repeated t zero None) base xs a =
        ends_pieces t (ends_law t) base xs a
    ends_law (repeated t (suc low) None) base xs a =
        ends_copies_on (one t) (count_of t) (length w) (ends t w) (λ some. last_read t w some) read (length_read t w)
        (ends_law t) (pieces t w) (length w) (λ xs. refl) (ends_last t (ends_law t)) low base xs
        (subst
        (λ k. Agrees read base (in_copies_on (λ some. last_read t w some) (flat_map (ends t w)) (pieces t w) k xs))
        (suc-sub_one low) a)
    ends_law (repeated t low (Some high)) base xs a =
        bounded t (ends_law t) low high base xs a (nat_lt high low) refl

    ends_law_in_turn : (ts : Trees) (base : ℕ) (xs : List ℕ) → Agrees read base (last_read_in_turn ts w xs)
        → ends_here_in_turn ts (is_empty w) true read base (is_among xs (length w))
        ≡ is_among (flat_map (ends_in_turn ts w) xs) (length w)
    ends_law_in_turn no_trees base xs a = ap (λ z. is_among z (length w)) (sym (flat_single xs))
    ends_law_in_turn (tree t ts) base xs a =
        ap (ends_here_in_turn ts (is_empty w) true read (base + count_of t))
        (ends_law t base xs (agrees_left read base (last_read t w xs) _ a))
        ∙ ends_law_in_turn ts (base + count_of t) (flat_map (ends t w) xs)
        (subst (λ k. Agrees read (base + k) (last_read_in_turn ts w (flat_map (ends t w) xs))) (length_read t w xs)
        (agrees_right read base (last_read t w xs) _ a))
        ∙ ap (λ z. is_among z (length w)) (flat_flat (ends_in_turn ts w) (ends t w) xs)

    ends_law_of_one : (ts : Trees) (base : ℕ) (xs : List ℕ) → Agrees read base (last_read_of_one ts w xs)
        → ends_here_of_one ts (is_empty w) true read base (is_among xs (length w))
        ≡ is_among (flat_map (ends_of_one ts w) xs) (length w)
    ends_law_of_one no_trees base xs a = sym (ap (λ z. is_among z (length w)) (flat_none xs))
    ends_law_of_one (tree t ts) base xs a =
        ap (λ b. b || ends_here_of_one ts (is_empty w) true read (base + count_of t) (is_among xs (length w)))
        (ends_law t base xs (agrees_left read base (last_read t w xs) _ a))
        ∙ ap (λ b. is_among (flat_map (ends t w) xs) (length w) || b)
        (ends_law_of_one ts (base + count_of t) xs
        (subst (λ k. Agrees read (base + k) (last_read_of_one ts w xs)) (length_read t w xs)
        (agrees_right read base (last_read t w xs) _ a)))
        ∙ sym (among_both (ends t w) (ends_of_one ts w) (length w) xs)
