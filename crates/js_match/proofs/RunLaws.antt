-- Key lemma: where a run from some start reaches a place, one from the last start that is far enough before it does.
use Rattle.std.proofs.Common.{◌≡◌, ℕ, zero, suc, ◌+◌, ◌-◌, ◌<◌, ◌≤◌, inl, inr, List, [], ◌∷◌, ◌++◌, nat_eq, length, get_or, slice_index, IfSome, Bool, true, false, ◌&&◌, ◌||◌, if◌then◌else◌, nat_le, nat_lt, Option, Some, None, refl, sym, ap, subst, ◌∙◌, arith, true≢false}
use Rattle.std.proofs.lemmas.Bool.{and_parts, or_cases, cases_lt, eqb-true, ltb-true, lt-ltb, le-leb, leb-true}
use Rattle.patterns.specs.CharSet.{has}
use Rattle.patterns.specs.Tree.{one_of, repeated}
use Rattle.patterns.specs.Match.{Matches, Repeats}
use Rattle.js_match.specs.Places.{is_at, IsAt, Leads, marked, are_within}
use Rattle.js_match.specs.Runs.{begins, latest, fits, reaches, lone, is_lone_end}
use Rattle.js_match.proofs.LeadsLaws.{here_at, is_at-append, within-at, within-from}
use Rattle.std.proofs.lemmas.Option.{none-some}
use Rattle.std.proofs.Math.Bool.{or-false, or-true, and-false}

-- ---- one more place

pub one_more : (test : ℕ → Bool) (n : ℕ) (b : Bool) (xs ys : List ℕ) → b ≡ test n
    → ((j : ℕ) → is_at j xs ≡ (nat_lt j n && test j)) → ys ≡ (if b then xs ++ n ∷ [] else xs)
    → (j : ℕ) → is_at j ys ≡ (nat_lt j (n + 1) && test j)
one_more test n b xs ys e h is j = ap (λ zs. is_at j zs) is ∙ go b e (nat_eq n j) refl
  where
    before : nat_eq n j ≡ false → nat_lt j n ≡ nat_lt j (n + 1)
    before k = grind (arith, k)

    inside : nat_eq n j ≡ true → nat_lt j (n + 1) ≡ true
    inside k = grind (arith, k)

    past : nat_eq n j ≡ true → nat_lt j n ≡ false
    past k = grind (arith, k)

    go : (b : Bool) → b ≡ test n → (same : Bool) → nat_eq n j ≡ same
        → is_at j (if b then xs ++ n ∷ [] else xs) ≡ (nat_lt j (n + 1) && test j)
    go true e true k =
        is_at-append j xs (n ∷ []) ∙ ap (λ a. is_at j xs || (a || false)) k ∙ or-true (is_at j xs)
        ∙ sym (ap (λ a. a && test j) (inside k) ∙ sym (e ∙ ap test (eqb-true n j k)))
    go true e false k =
        is_at-append j xs (n ∷ []) ∙ ap (λ a. is_at j xs || (a || false)) k ∙ or-false (is_at j xs) ∙ h j
        ∙ ap (λ a. a && test j) (before k)
    go false e true k =
        h j ∙ ap (λ a. a && test j) (past k)
        ∙ sym (ap (λ a. a && test j) (inside k) ∙ sym (e ∙ ap test (eqb-true n j k)))
    go false e false k = h j ∙ ap (λ a. a && test j) (before k)

-- ---- the last start

latest-marked : (marks : List Bool) (n s : ℕ) → latest marks n ≡ Some s → (marked marks s ≡ true) × (s < n)
latest-marked marks zero s h = absurd (none-some s h)
latest-marked marks (suc n) s h = go (marked marks n) refl (latest-marked marks n s)
  where
    go : (b : Bool) → marked marks n ≡ b → (latest marks n ≡ Some s → (marked marks s ≡ true) × (s < n))
        → (marked marks s ≡ true) × (s < suc n)
    go true k again =
        let same : n ≡ s = some_same n s (sym (ap (λ b. if b then Some n else latest marks n) k) ∙ h) in
        (subst (λ x. marked marks x ≡ true) same k, omega (arith, same))
      where
        some_same : (a b : ℕ) → Some a ≡ Some b → a ≡ b
        some_same a b e = ap get e
          where
            get : Option ℕ → ℕ
            get None = a
            get (Some x) = x
    go false k again =
        let (m, l) = again (sym (ap (λ b. if b then Some n else latest marks n) k) ∙ h) in
        (m, omega (arith, l))

latest-above : (marks : List Bool) (n i : ℕ) → marked marks i ≡ true → i < n
    → (s : ℕ) × (latest marks n ≡ Some s) × (i ≤ s)
latest-above marks zero i m l = absurd (omega (arith, l))
latest-above marks (suc n) i m l = go (marked marks n) refl (latest-above marks n i m)
  where
    go : (b : Bool) → marked marks n ≡ b → (i < n → (s : ℕ) × (latest marks n ≡ Some s) × (i ≤ s))
        → (s : ℕ) × (latest marks (suc n) ≡ Some s) × (i ≤ s)
    go true k again = (n, ap (λ b. if b then Some n else latest marks n) k, omega (arith, l))
    go false k again =
        elim (cases_lt i n) [
          | inl before ↦
              let (s, e, le) = again before in
              (s, ap (λ b. if b then Some n else latest marks n) k ∙ e, le)
          | inr after ↦
              let same : i ≡ n = omega (arith, after, l) in
              absurd (true≢false (sym (subst (λ x. marked marks x ≡ true) same m) ∙ k))
        ]

-- ---- runs

module _ (set : List (ℕ × ℕ)) (w : List ℕ) where
  abbrev Step : ℕ → ℕ → Type 0
  Step = Matches (one_of set) w

  pub begins-within : (j : ℕ) → begins set w j ≤ j
  begins-within zero = omega arith
  begins-within (suc j) = go (has set (slice_index w j)) (begins-within j)
    where
      go : (b : Bool) → begins set w j ≤ j → (if b then begins set w j else suc j) ≤ suc j
      go true l = omega (arith, l)
      go false l = omega arith

  begins-all : (j m : ℕ) → begins set w j ≤ m → m < j → has set (slice_index w m) ≡ true
  begins-all zero m h l = absurd (omega (arith, l))
  begins-all (suc j) m h l = go (has set (slice_index w j)) refl (begins-all j m)
    where
      go : (b : Bool) → has set (slice_index w j) ≡ b
          → (begins set w j ≤ m → m < j → has set (slice_index w m) ≡ true) → has set (slice_index w m) ≡ true
      go true k again =
          let low : begins set w j ≤ m = subst (λ b. (if b then begins set w j else suc j) ≤ m) k h in
          elim (cases_lt m j) [
            | inl before ↦ again low before
            | inr after ↦
                let same : j ≡ m = omega (arith, after, l) in
                subst (λ x. has set (slice_index w x) ≡ true) same k
          ]
      go false k again =
          let low : suc j ≤ m = subst (λ b. (if b then begins set w j else suc j) ≤ m) k h in
          absurd (omega (arith, low, l))

  begins-back : (j i : ℕ) → begins set w j ≤ suc i → i < j → has set (slice_index w i) ≡ true → begins set w j ≤ i
  begins-back zero i h l is = absurd (omega (arith, l))
  begins-back (suc j) i h l is = go (has set (slice_index w j)) refl (begins-back j i) (begins-within j)
    where
      go : (b : Bool) → has set (slice_index w j) ≡ b
          → (begins set w j ≤ suc i → i < j → has set (slice_index w i) ≡ true → begins set w j ≤ i)
          → begins set w j ≤ j → begins set w (suc j) ≤ i
      go true k again within =
          subst (λ b. (if b then begins set w j else suc j) ≤ i) (sym k)
          (elim (cases_lt i j) [
            | inl before ↦
                again (subst (λ b. (if b then begins set w j else suc j) ≤ suc i) k h) before is
            | inr after ↦ omega (arith, after, within)
          ])
      go false k again within =
          let low : suc j ≤ suc i = subst (λ b. (if b then begins set w j else suc j) ≤ suc i) k h in
          let same : i ≡ j = omega (arith, low, l) in
          absurd (true≢false (sym (subst (λ x. has set (slice_index w x) ≡ true) same is) ∙ k))

  run-repeats : (k i j : ℕ) → j ≡ i + k → j ≤ length w → begins set w j ≤ i → Repeats Step k i j
  run-repeats zero i j e l b = omega (arith, e)
  run-repeats (suc k) i j e l b =
      let less : i < j = omega (arith, e) in (
        suc i,
        (refl, omega (arith, less, l), begins-all j i b less),
        run-repeats k (suc i) j (omega (arith, e)) l (omega (arith, b)),
      )

  repeats-run : (k i j : ℕ) → i ≤ length w → Repeats Step k i j
      → (j ≡ i + k) × (j ≤ length w) × (begins set w j ≤ i)
  repeats-run zero i j l e =
      let b = begins-within j in (omega (arith, e), omega (arith, e, l), omega (arith, e, b))
  repeats-run (suc k) i j l (h, (s, less, is), rest) =
      let (e, within, b) = repeats-run k h j (omega (arith, s, less)) rest in
      (omega (arith, e, s), within, begins-back j i (omega (arith, b, s)) (omega (arith, e, s)) is)

  -- ---- ends of runs

  fits-some : (high : Option ℕ) (k : ℕ) → fits high k ≡ true → IfSome high (λ most. k ≤ most)
  fits-some None k h = tt
  fits-some (Some most) k h = leb-true k most h

  some-fits : (high : Option ℕ) (k n : ℕ) → IfSome high (λ most. k ≤ most) → n ≤ k → fits high n ≡ true
  some-fits None k n h l = refl
  some-fits (Some most) k n h l = le-leb n most (omega (arith, h, l))

  reached : (from : ℕ) (last high : Option ℕ) (j : ℕ) → reaches from last high j ≡ true
      → (s : ℕ) × (last ≡ Some s) × (from ≤ s) × (fits high (j - s) ≡ true)
  reached from None high j h = absurd (true≢false (sym h))
  reached from (Some s) high j h =
      let both = and_parts (nat_le from s) (fits high (j - s)) h in (s, refl, leb-true from s both.0, both.1)

  -- the start that each place goes by is one that is far enough before it, and the last such
  pub record GoesBy (starts : List ℕ) (low : ℕ) (last : ℕ → Option ℕ) : Type 0 where
    pub one : (j s : ℕ) → last j ≡ Some s → IsAt s starts × (s + low ≤ j)
    pub greatest : (j i : ℕ) → IsAt i starts → i + low ≤ j → (s : ℕ) × (last j ≡ Some s) × (i ≤ s)

  pub run-leads : (low : ℕ) (high : Option ℕ) (starts ends : List ℕ) (last : ℕ → Option ℕ)
      → are_within (length w) starts ≡ true → GoesBy starts low last
      → ((j : ℕ) → is_at j ends ≡ (nat_lt j (length w + 1) && reaches (begins set w j) (last j) high j))
      → Leads (Matches (repeated (one_of set) low high) w) starts ends
  run-leads low high starts ends last within by is = record {
    sound = λ j a.
        let both = and_parts (nat_lt j (length w + 1)) (reaches (begins set w j) (last j) high j) (sym (is j) ∙ a) in
        let jl = ltb-true j (length w + 1) both.0 in
        let (s, e, from, few) = reached (begins set w j) (last j) high j both.1 in
        let (m, sl) = by.one j s e in (
          s,
          m,
          (
            j - s,
            omega (arith, sl),
            fits-some high (j - s) few,
            run-repeats (j - s) s j (omega (arith, sl)) (omega (arith, jl)) from,
          ),
        );
    complete = λ i j a (k, lk, kh, steps).
        let il = within-at (length w) i starts within a in
        let (e, jl, b) = repeats-run k i j il steps in
        let (s, is_last, le) = by.greatest j i a (omega (arith, e, lk)) in
        let (m, sl) = by.one j s is_last in
        let few = some-fits high k (j - s) kh (omega (arith, e, le)) in
        let from = le-leb (begins set w j) s (omega (arith, b, le)) in
        is j ∙ ap (λ b. b && reaches (begins set w j) (last j) high j)
        (lt-ltb j (length w + 1) (omega (arith, jl)))
        ∙ ap (λ o. reaches (begins set w j) o high j) is_last
        ∙ ap (λ b. b && fits high (j - s)) from ∙ few;
  }

  pub run-within : (ends : List ℕ) (test : ℕ → Bool)
      → ((j : ℕ) → is_at j ends ≡ (nat_lt j (length w + 1) && test j)) → are_within (length w) ends ≡ true
  run-within ends test is =
      within-from (length w) ends (λ j a.
      let both = and_parts (nat_lt j (length w + 1)) (test j) (sym (is j) ∙ a) in
      let jl = ltb-true j (length w + 1) both.0 in
      omega (arith, jl))

  -- ---- from one start

  begins-past : (j m : ℕ) → has set (slice_index w m) ≡ false → m < j → m < begins set w j
  begins-past zero m h l = absurd (omega (arith, l))
  begins-past (suc j) m h l = go (has set (slice_index w j)) refl (begins-past j m h)
    where
      go : (b : Bool) → has set (slice_index w j) ≡ b → (m < j → m < begins set w j) → m < begins set w (suc j)
      go true k again =
          subst (λ b. m < (if b then begins set w j else suc j)) (sym k)
          (elim (cases_lt m j) [
            | inl before ↦ again before
            | inr after ↦
                let same : j ≡ m = omega (arith, after, l) in
                absurd (true≢false (sym k ∙ subst (λ x. has set (slice_index w x) ≡ false) (sym same) h))
          ])
      go false k again =
          subst (λ b. m < (if b then begins set w j else suc j)) (sym k) l

  -- no run from that start ends before it
  pub none-before : (start low : ℕ) (high : Option ℕ) (j : ℕ)
      → false ≡ (nat_lt j start && is_lone_end set w start low high j)
  none-before start low high j = go (nat_lt j start) refl
    where
      go : (b : Bool) → nat_lt j start ≡ b → false ≡ (b && is_lone_end set w start low high j)
      go true k =
          let far : nat_le (start + low) j ≡ false = grind (arith, k) in
          sym (ap (λ b. reaches (begins set w j) (if b then Some start else None) high j) far)
      go false k = refl

  -- nor past a character that is not in the set
  pub none-past : (start low : ℕ) (high : Option ℕ) (end j : ℕ) → start ≤ end
      → has set (slice_index w end) ≡ false → end < j → is_lone_end set w start low high j ≡ false
  none-past start low high end j le out l = go (nat_le (start + low) j) refl
    where
      past : end < begins set w j
      past = begins-past j end out l

      go : (b : Bool) → nat_le (start + low) j ≡ b → is_lone_end set w start low high j ≡ false
      go true k =
          let far : nat_le (begins set w j) start ≡ false = (let p = past in grind (arith, p, le)) in
          ap (λ b. reaches (begins set w j) (if b then Some start else None) high j) k
          ∙ ap (λ b. b && fits high (j - start)) far
      go false k = ap (λ b. reaches (begins set w j) (if b then Some start else None) high j) k

  pub lone-stops : (start low : ℕ) (high : Option ℕ) (end : ℕ) (ends : List ℕ) → start ≤ end → end < length w
      → has set (slice_index w end) ≡ false
      → ((j : ℕ) → is_at j ends ≡ (nat_lt j (end + 1) && is_lone_end set w start low high j))
      → (j : ℕ) → is_at j ends ≡ (nat_lt j (length w + 1) && is_lone_end set w start low high j)
  lone-stops start low high end ends le less out is j = is j ∙ elim (cases_lt end j) [
    | inl past ↦
        let none = none-past start low high end j le out past in
        ap (λ b. nat_lt j (end + 1) && b) none ∙ and-false (nat_lt j (end + 1))
        ∙ sym (ap (λ b. nat_lt j (length w + 1) && b) none ∙ and-false (nat_lt j (length w + 1)))
    | inr before ↦
        let first : nat_lt j (end + 1) ≡ true = grind (arith, before) in
        let second : nat_lt j (length w + 1) ≡ true = grind (arith, before, less) in
        ap (λ b. b && is_lone_end set w start low high j) (first ∙ sym second)
  ]

  -- a place that the run reaches
  pub lone-here : (start low : ℕ) (high : Option ℕ) (end : ℕ) (b : Bool) → start ≤ end → begins set w end ≤ start
      → b ≡ (nat_le low (end - start) && fits high (end - start)) → b ≡ is_lone_end set w start low high end
  lone-here start low high end b le from e = e ∙ go (nat_le low (end - start)) refl
    where
      go : (t : Bool) → nat_le low (end - start) ≡ t
          → (t && fits high (end - start)) ≡ is_lone_end set w start low high end
      go true k =
          let far : nat_le (start + low) end ≡ true = grind (arith, k, le) in
          sym (ap (λ b. reaches (begins set w end) (if b then Some start else None) high end) far
          ∙ ap (λ b. b && fits high (end - start)) (le-leb (begins set w end) start from))
      go false k =
          let near : nat_le (start + low) end ≡ false = grind (arith, k, le) in
          sym (ap (λ b. reaches (begins set w end) (if b then Some start else None) high end) near)

-- ---- which start each place goes by

pub latest-by : (set : List (ℕ × ℕ)) (w : List ℕ) (marks : List Bool) (low : ℕ) (starts : List ℕ)
    → ((j : ℕ) → marked marks j ≡ is_at j starts) → GoesBy set w starts low (λ j. latest marks (j + 1 - low))
latest-by set w marks low starts same = record {
  one = λ j s e.
      let (m, l) = latest-marked marks (j + 1 - low) s e in (sym (same s) ∙ m, omega (arith, l));
  greatest = λ j i a l. latest-above marks (j + 1 - low) i (same i ∙ a) (omega (arith, l));
}

pub lone-by : (set : List (ℕ × ℕ)) (w : List ℕ) (start low : ℕ) (starts : List ℕ) → starts ≡ start ∷ []
    → GoesBy set w starts low (lone start low)
lone-by set w start low starts is = record {
  one = λ j s e. go j s (nat_le (start + low) j) refl e;
  greatest = λ j i a l.
      let same = only i (subst (IsAt i) is a) in (
        start,
        ap (λ b. if b then Some start else None) (le-leb (start + low) j (omega (arith, same, l))),
        omega (arith, same),
      );
}
  where
    only : (i : ℕ) → IsAt i (start ∷ []) → start ≡ i
    only i a = elim (or_cases (nat_eq start i) false a) [
      | inl e ↦ eqb-true start i e
      | inr r ↦ absurd (true≢false (sym r))
    ]

    some_same : (s : ℕ) → Some start ≡ Some s → start ≡ s
    some_same s e = ap get e
      where
        get : Option ℕ → ℕ
        get None = start
        get (Some x) = x

    go : (j s : ℕ) (b : Bool) → nat_le (start + low) j ≡ b → lone start low j ≡ Some s
        → IsAt s starts × (s + low ≤ j)
    go j s true k e =
        let same = some_same s (sym (ap (λ b. if b then Some start else None) k) ∙ e) in (
          subst (λ xs. IsAt s xs) (sym is) (subst (λ x. IsAt x (start ∷ [])) same (here_at start [])),
          omega (arith, same, leb-true (start + low) j k),
        )
    go j s false k e =
        absurd (none-some s (sym (ap (λ b. if b then Some start else None) k) ∙ e))

pub only-one : (xs : List ℕ) → length xs ≡ 1 → xs ≡ get_or xs 0 0 ∷ []
only-one [] h = absurd (omega (arith, h))
only-one (x ∷ []) h = refl
only-one (x ∷ y ∷ xs) h = absurd (omega (arith, h))
