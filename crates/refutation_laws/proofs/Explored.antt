-- What is explored is within the limits that lines need: goals that aren't wide, and no more of them than are numbered.
use Rattle.std.proofs.Common.{◌≡◌, ℕ, zero, suc, ◌+◌, ◌<◌, ◌≤◌, inl, inr, ⊎_elim, Bool, true, false, cond, nat_le, nat_lt, List, [], ◌∷◌, ◌++◌, flat_map, length, Option, Some, None, Result, Ok, Err, refl, sym, subst, arith, slice_get, length-append}
use Rattle.std.proofs.lemmas.Bool.{or_parts, ltb-true, ltb-false, le-leb}
use Rattle.documents.specs.Kind.{all_kinds}
use Rattle.documents.specs.Tests.{every, some}
use Rattle.positions.specs.Position.{Position}
use Rattle.goals.specs.Signed.{Signed, same_signed, comes_before, add, add_all}
use Rattle.goals.specs.Goal.{follow, is_always, followed, clashes, form}
use Rattle.list_laws.specs.In.{IsIn}
use Rattle.list_laws.proofs.Lists.{every_from, from_append, in_flat_map, from_flat_map}
use Rattle.alternatives.specs.Alternative.{Alternative, named_by, named, places}
use Rattle.alternatives.specs.Limit.{LimitKind, Width, Places, Goals, Total, most_width, most_places}
use Rattle.alternatives.specs.Expansion.{Expansion, expansion_of, first_limit, with_limit, is_wide, nothing, keep, keep_all}
use Rattle.expansions.specs.Leaves.{leaf}
use Rattle.expansions.specs.Expansion.{at_kind, expansion}
use Rattle.search.specs.Explored.{Found, found, is_listed, mention, mention_goals, take_goal, step, after, explored}
use Rattle.refutations.specs.Expansions as R

-- goals that an expansion names aren't wide

abbrev AreNarrow : List Alternative → Type 0
AreNarrow all = (h : List Signed) → IsIn h (named all) → is_wide h ≡ false

none_wide : (gs : List (List Signed)) (h : List Signed) → some is_wide gs ≡ false → IsIn h gs → is_wide h ≡ false
none_wide [] h e i = absurd i
none_wide (g ∷ gs) h e (inl q) =
    subst (λ z. is_wide z ≡ false) (sym q) (or_parts (is_wide g) (some is_wide gs) e).0
none_wide (g ∷ gs) h e (inr i) = none_wide gs h (or_parts (is_wide g) (some is_wide gs) e).1 i

narrow_both : (xs ys : List Alternative) → AreNarrow xs → AreNarrow ys → AreNarrow (xs ++ ys)
narrow_both xs ys a b h i =
    let (x, j, k) = from_flat_map named_by h (xs ++ ys) i in
    ⊎_elim (λ u. a h (in_flat_map named_by h x xs u k)) (λ u. b h (in_flat_map named_by h x ys u k))
    (from_append x xs ys j)

narrow_kept : (e : Expansion) (r : Result (List Alternative) LimitKind) → AreNarrow e.alternatives
    → AreNarrow (keep e r).alternatives
narrow_kept e (Err k) h = h
narrow_kept e (Ok more) h =
    go (some is_wide (named more)) (nat_lt most_places (places e.alternatives + places more)) refl where
      go : (a b : Bool) → some is_wide (named more) ≡ a
          → AreNarrow (cond a (with_limit e Width)
          (cond b (with_limit e Places) (expansion_of (e.alternatives ++ more) e.hole))).alternatives
      go true b q = h
      go false true q = h
      go false false q = narrow_both e.alternatives more h (λ g i. none_wide (named more) g q i)

narrow_all : (e : Expansion) (rs : List (Result (List Alternative) LimitKind)) → AreNarrow e.alternatives
    → AreNarrow (keep_all e rs).alternatives
narrow_all e [] h = h
narrow_all e (r ∷ rs) h = narrow_all (keep e r) rs (narrow_kept e r h)

abbrev pub is_narrow : List Signed → Bool
is_narrow g = nat_le (length g) 65536

pub narrow_named : (T : List Position) (g : List Signed)
    → every is_narrow (named (R.expansion_of T g).alternatives) ≡ true
unfolding expansion
narrow_named T g =
    every_from (λ g. nat_le (length g) 65536)
    (named (keep_all nothing (flat_map (at_kind T (leaf (R.finders_of T) T) g) all_kinds)).alternatives) (λ h i.
    let l = ltb-false most_width (length h)
    (narrow_all nothing (flat_map (at_kind T (leaf (R.finders_of T) T) g) all_kinds) (λ x j. absurd j) h i) in
    le-leb (length h) 65536 (omega (arith, l)))

-- the root has two signed positions at the most

length_add : (x : Signed) (S : List Signed) → length (add x S) ≤ length (x ∷ S)
length_add x [] = omega arith
length_add x (y ∷ S) = go (same_signed x y) (comes_before x y) (length_add x S) where
  go : (a b : Bool) → length (add x S) ≤ length (x ∷ S)
      → length (cond a (y ∷ S) (cond b (x ∷ y ∷ S) (y ∷ add x S))) ≤ length (x ∷ y ∷ S)
  go true b h = omega arith
  go false true h = omega arith
  go false false h = omega (arith, h)

length_all : (C : List Signed) → length (add_all C []) ≤ length C
length_all [] = omega arith
length_all (x ∷ C) = omega (arith, length_add x (add_all C []), length_all C)

length_followed : (T : List Position) (xs : List Signed) → length (followed T xs) ≤ length xs
length_followed T [] = omega arith
length_followed T (x ∷ xs) = go (is_always T (follow T x)) (length_followed T xs) where
  go : (b : Bool) → length (followed T xs) ≤ length xs
      → length (cond b (followed T xs) (follow T x ∷ followed T xs)) ≤ length (x ∷ xs)
  go true h = omega (arith, h)
  go false h = omega (arith, h)

pub formed_short : (T : List Position) (xs g : List Signed) → form T xs ≡ Some g → length g ≤ length xs
formed_short T xs g e = go (clashes T (add_all (followed T xs) [])) e where
  go : (b : Bool) → cond b None (Some (add_all (followed T xs) [])) ≡ Some g → length g ≤ length xs
  go true h = cc h
  go false h =
      let same : add_all (followed T xs) [] ≡ g = cc h in
      subst (λ S. length S ≤ length xs) same (omega (arith, length_all (followed T xs), length_followed T xs))

-- there are no more goals than may be explored

module _ (most most_places : ℕ) (expansion : List Signed → Expansion) where
  abbrev IsFew : Found → Type 0
  IsFew s = length s.goals ≤ most

  mention_few : (s : Found) (g : List Signed) → IsFew s → IsFew (mention most s g)
  mention_few s g h = go (is_listed s.goals g) (nat_lt (length s.goals) most) refl where
    go : (a b : Bool) → nat_lt (length s.goals) most ≡ b
        → IsFew (cond a s
        (cond b (found (s.goals ++ g ∷ []) s.taken s.places s.over)
        (found s.goals s.taken s.places (first_limit s.over Goals))))
    go true b e = h
    go false true e =
        let l = ltb-true (length s.goals) most e in
        let a = length-append s.goals (g ∷ []) in
        omega (arith, l, a)
    go false false e = h

  mentions_few : (s : Found) (gs : List (List Signed)) → IsFew s → IsFew (mention_goals most s gs)
  mentions_few s [] h = h
  mentions_few s (g ∷ gs) h = mentions_few (mention most s g) gs (mention_few s g h)

  step_few : (s : Found) → IsFew s → IsFew (step most most_places expansion s)
  step_few s h = go (slice_get s.goals s.taken) where
    go : (o : Option (List Signed)) → IsFew (take_goal most most_places expansion s o)
    go None = h
    go (Some g) = by (nat_lt most_places (s.places + places (expansion g).alternatives)) where
      by : (b : Bool)
          → IsFew (cond b (found s.goals s.taken s.places (first_limit s.over Total))
          (let t = mention_goals most s (named (expansion g).alternatives) in
          found t.goals (suc t.taken) (t.places + places (expansion g).alternatives) t.over))
      by true = h
      by false = mentions_few s (named (expansion g).alternatives) h

  few_after : (n : ℕ) (s : Found) → IsFew s → IsFew (after most most_places expansion n s)
  few_after zero s h = h
  few_after (suc n) s h = step_few (after most most_places expansion n s) (few_after n s h)

  -- no more goals are explored than may be
  pub explored_few : (root : List Signed) → 0 < most → length (explored most most_places expansion root).goals ≤ most
  unfolding explored
  explored_few root l = few_after most (found (root ∷ []) 0 0 None) (omega (arith, l))
