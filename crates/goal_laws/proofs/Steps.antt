-- The tree of a set is its step with the tree of each choice below: the depth of the definition is enough.
use Rattle.std.proofs.Common.{◌≡◌, ℕ, zero, suc, ◌+◌, ◌*◌, ◌<◌, ◌≤◌, Bool, true, false, not, List, ◌∷◌, length, Option, Some, None, IfSome, refl, ap, sym, ◌∙◌, subst, arith}
use Rattle.std.specs.List.{AllByRecursion}
use Rattle.std.proofs.lemmas.Bool.{not-true, not-false, or_left, or_right}
use Rattle.documents.specs.Tests.{every}
use Rattle.documents.specs.Kind.{Kind}
use Rattle.positions.specs.Position.{Position}
use Rattle.positions.specs.Holds.{IsTable}
use Rattle.position_laws.proofs.Counts.{passing, passing-bound, passing-rises, passing-less}
use Rattle.list_laws.proofs.Elements.{all-weaker, all-both, some-all, flat_map-same}
use Rattle.goals.specs.Signed.{Signed, Plus, Minus, position_of, opposite, has, add_all}
use Rattle.goals.specs.Choices.{choices, is_wrong}
use Rattle.goals.specs.Tree.{Step, Clash, Wrong, Rule, Saturated, has_choice, first, choice_list, step_at, next, steps_from, steps_within, steps}
use Rattle.goal_laws.specs.Saturated.{IsSaturated}
use Rattle.goal_laws.proofs.Firsts.{first-some, first-none}
use Rattle.goal_laws.proofs.Signs.{has-add_all, every-fails, all-has, contains-has}
use Rattle.goal_laws.proofs.Rules.{AreNames, choices-names}

-- what a step says of its set

abbrev pub Told : List Position → Kind → List Signed → Step → Type 0
Told T t S (Clash p) = (has (Plus p) S ≡ true) × (has (Minus p) S ≡ true)
Told T t S (Wrong x) = (has x S ≡ true) × (is_wrong T t x ≡ true)
Told T t S (Rule x cs) = (has x S ≡ true) × (choices T t x ≡ Some cs) × (has_choice S (Some cs) ≡ false)
Told T t S (Saturated B) = (B ≡ S) × IsSaturated T t S

module _ (T : List Position) (t : Kind) (S : List Signed) where
  clash_told : (x : Signed) → has x S ≡ true → has (opposite x) S ≡ true → Told T t S (Clash (position_of x))
  clash_told (Plus p) a b = (a, b)
  clash_told (Minus p) a b = (b, a)

  rule_told : (x : Signed) (o : Option (List (List Signed))) → has x S ≡ true → choices T t x ≡ o
      → has_choice S o ≡ false → Told T t S (Rule x (choice_list o))
  rule_told x (Some cs) i e h = (i, e, h)
  rule_told x None i e h = cc

  pub next-told : Told T t S (next T t S)
  next-told =
      go (first (λ x. has (opposite x) S) S) (first (is_wrong T t) S)
      (first (λ x. not (has_choice S (choices T t x))) S)
      refl refl refl where
        go : (a b c : Option Signed) → first (λ x. has (opposite x) S) S ≡ a → first (is_wrong T t) S ≡ b
            → first (λ x. not (has_choice S (choices T t x))) S ≡ c
            → Told T t S (step_at (λ x. Clash (position_of x)) a (step_at Wrong b
            (step_at (λ x. Rule x (choice_list (choices T t x))) c (Saturated S))))
        go (Some x) b c e f g =
            let (i, h) = first-some (λ x. has (opposite x) S) S x e in clash_told x (contains-has S x i) h
        go None (Some x) c e f g = let (i, h) = first-some (is_wrong T t) S x f in (contains-has S x i, h)
        go None None (Some x) e f g =
            let (i, h) = first-some (λ x. not (has_choice S (choices T t x))) S x g in
            rule_told x (choices T t x) (contains-has S x i) refl (not-true _ h)
        go None None None e f g = (
          refl,
          record {
            no_clash = λ x i. all-has _ S x (first-none (λ y. has (opposite y) S) S e) i;
            none_wrong = λ x i. all-has _ S x (first-none (is_wrong T t) S f) i;
            chosen =
                λ x i.
                let all = first-none (λ y. not (has_choice S (choices T t y))) S g in
                not-false _ (all-has _ S x all i);
          },
        )

-- how many of the signed positions below n a set lacks

abbrev pub lacks : List Signed → ℕ → ℕ
lacks S n = passing (λ p. not (has (Plus p) S)) n + passing (λ p. not (has (Minus p) S)) n

lacks-bound : (S : List Signed) (n : ℕ) → lacks S n ≤ 2 * n
lacks-bound S n =
    omega (arith, passing-bound (λ p. not (has (Plus p) S)) n, passing-bound (λ p. not (has (Minus p) S)) n)

module _ (S S' : List Signed) (more : (x : Signed) → has x S ≡ true → has x S' ≡ true) where
  fewer : (x : Signed) → not (has x S') ≡ true → not (has x S) ≡ true
  fewer x e = go (has x S) refl where
    go : (b : Bool) → has x S ≡ b → not b ≡ true
    go true h = cc (more x h)
    go false h = refl

  lacks-less : (x : Signed) (n : ℕ) → position_of x < n → has x S ≡ false → has x S' ≡ true
      → lacks S' n < lacks S n
  lacks-less (Plus p) n l a b =
      omega (
        arith,
        passing-less _ _ (λ k e. fewer (Plus k) e) n p l (ap not b) (ap not a),
        passing-rises _ _ (λ k e. fewer (Minus k) e) n,
      )
  lacks-less (Minus p) n l a b =
      omega (
        arith,
        passing-rises _ _ (λ k e. fewer (Plus k) e) n,
        passing-less _ _ (λ k e. fewer (Minus k) e) n p l (ap not b) (ap not a),
      )

-- a choice with a new signed position leaves less to add
add_all-lacks : (n : ℕ) (C S : List Signed) → AllByRecursion (λ x. position_of x < n) C
    → every (λ x. has x S) C ≡ false
    → lacks (add_all C S) n < lacks S n
add_all-lacks n C S names e =
    let (x, i, new) = every-fails (λ x. has x S) C e in
    lacks-less S (add_all C S) (λ y h. has-add_all y C S ∙ or_right (has y C) (has y S) h) x n
    (all-has _ C x names i) new (has-add_all x C S ∙ or_left (has x C) (has x S) i)

module _ (T : List Position) (ok : IsTable T) (t : Kind) where
  rule_lacks : (S : List Signed) (x : Signed) (cs : List (List Signed)) → Told T t S (Rule x cs)
      → AllByRecursion (λ C. lacks (add_all C S) (length T) < lacks S (length T)) cs
  rule_lacks S x cs (i, e, new) =
      let names =
      subst (λ o. IfSome o (AreNames (λ q. q < length T) t)) e
      (choices-names (λ q. q < length T) t T x (ok.named (position_of x))) in
      all-both _ _ _ cs (λ C a b. add_all-lacks (length T) C S a b) names (some-all _ cs new)

  steps_from-same : (f g : List Signed → List Step) (S : List Signed) (s : Step) → Told T t S s
      → ((C : List Signed) → lacks (add_all C S) (length T) < lacks S (length T)
      → f (add_all C S) ≡ g (add_all C S))
      → steps_from f S s ≡ steps_from g S s
  steps_from-same f g S (Clash p) told h = refl
  steps_from-same f g S (Wrong x) told h = refl
  steps_from-same f g S (Saturated B) told h = refl
  steps_from-same f g S (Rule x cs) told h =
      ap (λ ss. Rule x cs ∷ ss)
      (flat_map-same _ _ cs (all-weaker _ _ cs (λ C l. h C l) (rule_lacks S x cs told)))

  -- more depth than the set lacks changes nothing
  steps_within-same : (n m : ℕ) (S : List Signed) → lacks S (length T) < n → lacks S (length T) < m
      → steps_within T t n S ≡ steps_within T t m S
  steps_within-same zero m S a b = absurd (omega arith)
  steps_within-same (suc n) zero S a b = absurd (omega arith)
  steps_within-same (suc n) (suc m) S a b =
      steps_from-same (steps_within T t n) (steps_within T t m) S (next T t S) (next-told T t S)
      (λ C l. steps_within-same n m (add_all C S) (omega arith) (omega arith))

  -- the equation of the trees, which all later proofs cite
  pub steps-next : (S : List Signed) → steps T t S ≡ steps_from (steps T t) S (next T t S)
  unfolding steps
  steps-next S =
      steps_from-same (steps_within T t (2 * length T)) (steps T t) S (next T t S) (next-told T t S)
      (λ C l. steps_within-same (2 * length T) (suc (2 * length T)) (add_all C S)
      (omega (arith, lacks-bound S (length T))) (omega (arith, lacks-bound S (length T))))

  -- what is true of the set of each choice
  abbrev pub EachChoice : (List Signed → Type 0) → List Signed → Step → Type 0
  EachChoice P S (Rule x cs) = AllByRecursion (λ C. P (add_all C S)) cs
  EachChoice P S s = Unit {0}

  -- induction over trees: what a step passes on from its choices to its set is true of every set
  module _ (P : List Signed → List Step → Type 0)
      (up : (S : List Signed) (s : Step) → Told T t S s → EachChoice (λ S'. P S' (steps T t S')) S s
      → P S (steps_from (steps T t) S s)) where
    each_choice : (S : List Signed) (s : Step) → Told T t S s
        → ((C : List Signed) → lacks (add_all C S) (length T) < lacks S (length T)
        → P (add_all C S) (steps T t (add_all C S)))
        → EachChoice (λ S'. P S' (steps T t S')) S s
    each_choice S (Clash p) told h = tt
    each_choice S (Wrong x) told h = tt
    each_choice S (Saturated B) told h = tt
    each_choice S (Rule x cs) told h = all-weaker _ _ cs (λ C l. h C l) (rule_lacks S x cs told)

    steps-induction_within : (n : ℕ) (S : List Signed) → lacks S (length T) < n → P S (steps T t S)
    steps-induction_within zero S l = absurd (omega arith)
    steps-induction_within (suc n) S l =
        subst (P S) (sym (steps-next S))
        (up S (next T t S) (next-told T t S)
        (each_choice S (next T t S) (next-told T t S)
        (λ C m. steps-induction_within n (add_all C S) (omega arith))))

    pub steps-induction : (S : List Signed) → P S (steps T t S)
    steps-induction S = steps-induction_within (suc (lacks S (length T))) S (omega arith)
