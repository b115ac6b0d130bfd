-- What may follow, appended one tree or one copy after another.
--
-- Key: `turn-next`, one more tree of those that come one after another; the other steps are as it.
use Rattle.std.proofs.Common.{◌≡◌, ℕ, zero, suc, ◌+◌, ◌-◌, ◌*◌, ◌<◌, ◌≤◌, min, Bool, false, ◌||◌, List, [], ◌∷◌, ◌++◌, length, get_or, Option, refl, sym, ◌∙◌, ap, ap₂, arith, append_assoc, append-nil, length-append, map}
use Rattle.patterns.specs.Tree.{Tree, Trees, no_trees, repeated, trees_of}
use Rattle.word_states.specs.Position.{count_of, count_in, copies}
use Rattle.state_laws.specs.Flow.{ends_here, next_copies, next_copies_on}
use Rattle.state_laws.specs.FollowSets.{may_follow, may_follow_in_turn, may_follow_of_one}
use Rattle.state_laws.proofs.FollowSetsLemmas.{length_follow}
use Rattle.js_pattern.specs.declared.re.Re.{Re}
use Rattle.js_pattern.specs.View.{view}
use Rattle.js_pattern_positions.proofs.Items.{rest, rest-tree, rest-none}
use Rattle.js_pattern_positions.proofs.EndsSteps.{one_less}

nothing : (xs : List Bool) → length xs ≡ 0 → xs ≡ []
nothing [] e = refl
nothing (x ∷ xs) e = absurd (omega (arith, e))

module _ (read : ℕ → Bool) where
  -- the flags of a tree are as many as its positions
  pub longer : (t : Tree) (flags after : List Bool) (at : ℕ) (b : Bool)
      → after ≡ flags ++ may_follow t false read at b → length after ≡ length flags + count_of t
  longer t flags after at b e =
      ap length e ∙ length-append flags (may_follow t false read at b)
      ∙ omega (arith, length_follow t false read at b)

  -- copies of a tree without positions have none
  pub copies-nothing : (t : Tree) (low : ℕ) (high : Option ℕ) (flags : List Bool) (base : ℕ) (b : Bool)
      → count_of t ≡ 0 → flags ≡ flags ++ may_follow (repeated t low high) false read base b
  copies-nothing t low high flags base b e =
      let none : copies low high * count_of t ≡ 0 = omega (arith, ap (λ k. copies low high * k) e) in
      sym (append-nil flags)
      ∙ sym (ap (λ z. flags ++ z) (nothing (may_follow (repeated t low high) false read base b)
      (length_follow (repeated t low high) false read base b ∙ none)))

  -- ---- a list of trees, one more gone through
  module _ (items : List Re) (start : List Bool) (base : ℕ) (begins : Bool) where
    abbrev pub InTurn : ℕ → List Bool → ℕ → Bool → Type 0
    InTurn i flags at here =
        flags ++ may_follow_in_turn (rest items i) false read at here
        ≡ start ++ may_follow_in_turn (trees_of (map view items)) false read base begins

    abbrev pub OfOne : ℕ → List Bool → ℕ → Type 0
    OfOne i flags at =
        flags ++ may_follow_of_one (rest items i) false read at begins
        ≡ start ++ may_follow_of_one (trees_of (map view items)) false read base begins

    pub turn-next : (i : ℕ) (x : Re) (flags after : List Bool) (at next : ℕ) (here one : Bool) → i < length items
        → x ≡ get_or items i x → after ≡ flags ++ may_follow (view x) false read at here
        → next ≡ at + count_of (view x) → one ≡ ends_here (view x) false false read at here
        → InTurn i flags at here → InTurn (i + 1) after next one
    turn-next i x flags after at next here one within is f a e before =
        ap (λ z. z ++ may_follow_in_turn (rest items (i + 1)) false read next one) f
        ∙ append_assoc flags (may_follow (view x) false read at here)
        (may_follow_in_turn (rest items (i + 1)) false read next one)
        ∙ ap₂ (λ k o. flags ++ (may_follow (view x) false read at here
        ++ may_follow_in_turn (rest items (i + 1)) false read k o)) a e
        ∙ sym (ap (λ ts. flags ++ may_follow_in_turn ts false read at here) (rest-tree items i x within is))
        ∙ before

    pub one-next : (i : ℕ) (x : Re) (flags after : List Bool) (at next : ℕ) → i < length items
        → x ≡ get_or items i x → after ≡ flags ++ may_follow (view x) false read at begins
        → next ≡ at + count_of (view x) → OfOne i flags at → OfOne (i + 1) after next
    one-next i x flags after at next within is f a before =
        ap (λ z. z ++ may_follow_of_one (rest items (i + 1)) false read next begins) f
        ∙ append_assoc flags (may_follow (view x) false read at begins)
        (may_follow_of_one (rest items (i + 1)) false read next begins)
        ∙ ap (λ k. flags ++ (may_follow (view x) false read at begins
        ++ may_follow_of_one (rest items (i + 1)) false read k begins)) a
        ∙ sym (ap (λ ts. flags ++ may_follow_of_one ts false read at begins) (rest-tree items i x within is))
        ∙ before

    pub turn-last : (i : ℕ) (flags : List Bool) (at : ℕ) (here : Bool) → length items ≤ i → InTurn i flags at here
        → flags ≡ start ++ may_follow_in_turn (trees_of (map view items)) false read base begins
    turn-last i flags at here past before =
        sym (append-nil flags)
        ∙ sym (ap (λ ts. flags ++ may_follow_in_turn ts false read at here) (rest-none items i past))
        ∙ before

    pub one-last : (i : ℕ) (flags : List Bool) (at : ℕ) → length items ≤ i → OfOne i flags at
        → flags ≡ start ++ may_follow_of_one (trees_of (map view items)) false read base begins
    one-last i flags at past before =
        sym (append-nil flags)
        ∙ sym (ap (λ ts. flags ++ may_follow_of_one ts false read at begins) (rest-none items i past))
        ∙ before

  -- ---- copies of a tree, one more gone through
  module _ (t : Tree) (start : List Bool) (n base : ℕ) (begins : Bool) where
    abbrev Some : ℕ → ℕ → Bool → List Bool
    Some k at b =
        next_copies (λ p b. may_follow t false read p b) (λ p b. ends_here t false false read p b) (count_of t) k at b

    abbrev On : ℕ → ℕ → Bool → List Bool
    On k at here =
        next_copies_on (λ p b. may_follow t false read p b) (λ p b. ends_here t false false read p b) (count_of t) k at
        here

    abbrev pub Copies : ℕ → List Bool → ℕ → Bool → Type 0
    Copies k flags at here = flags ++ Some k at here ≡ start ++ Some n base begins

    abbrev pub Again : ℕ → List Bool → ℕ → Bool → Type 0
    Again k flags at here = flags ++ On k at here ≡ start ++ On n base begins

    module _ (i : ℕ) (flags after : List Bool) (at next : ℕ) (here one : Bool) (within : i < n)
        (f : after ≡ flags ++ may_follow t false read at here) (a : next ≡ at + count_of t)
        (e : one ≡ ends_here t false false read at here) where
      pub copies-next : Copies (n - i) flags at here → Copies (n - (i + 1)) after next one
      copies-next before =
          ap (λ z. z ++ Some (n - (i + 1)) next one) f
          ∙ append_assoc flags (may_follow t false read at here) (Some (n - (i + 1)) next one)
          ∙ ap₂ (λ k o. flags ++ (may_follow t false read at here ++ Some (n - (i + 1)) k o)) a e
          ∙ sym (ap (λ k. flags ++ Some k at here) (one_less n i within))
          ∙ before

      pub again-next : Again (n - i) flags at here → Again (n - (i + 1)) after next one
      again-next before =
          ap (λ z. z ++ On (n - (i + 1)) next one) f
          ∙ append_assoc flags (may_follow t false read at here) (On (n - (i + 1)) next one)
          ∙ ap₂ (λ k o. flags ++ (may_follow t false read at here ++ On (n - (i + 1)) k o)) a e
          ∙ sym (ap (λ k. flags ++ On k at here) (one_less n i within))
          ∙ before

    none : (n i : ℕ) → n ≤ i → n - i ≡ 0
    none n i h = omega (arith, h)

    pub copies-last : (i : ℕ) (flags : List Bool) (at : ℕ) (here : Bool) → n ≤ i → Copies (n - i) flags at here
        → flags ≡ start ++ Some n base begins
    copies-last i flags at here past before =
        sym (append-nil flags) ∙ sym (ap (λ k. flags ++ Some k at here) (none n i past)) ∙ before

    pub again-last : (i : ℕ) (flags after : List Bool) (at : ℕ) (here again : Bool) → n ≤ i
        → again ≡ ends_here t false false read at false
        → after ≡ flags ++ may_follow t false read at (here || again) → Again (n - i) flags at here
        → after ≡ start ++ On n base begins
    again-last i flags after at here again past e f before =
        f ∙ ap (λ x. flags ++ may_follow t false read at (here || x)) e
        ∙ sym (ap (λ k. flags ++ On k at here) (none n i past))
        ∙ before
