-- The test on trees says whether they are equal.
use Rattle.std.specs.Prelude.{◌≡◌, ℕ, List, [], ◌∷◌, true, ◌&&◌, nat_eq, Option, Some, None, refl}
use Rattle.std.specs.Bool.{Decides}
use Rattle.std.specs.Cmp.{IsEquivalence, decided, unsigned_Decides}
use Rattle.std.proofs.Common.{sym, ap, ap₂, ◌∙◌}
use Rattle.std.proofs.lemmas.Bool.{and_parts, and_from, true≢false, false≢true}
use Rattle.patterns.specs.Tree.{Tree, Trees, empty, one_of, at_start, at_end, in_turn, either, repeated, no_trees, tree}
use Rattle.patterns.specs.SameTree.{same_ranges, same_bound, same_tree, same_trees}
use Rattle.list_laws.proofs.Numbers.{nat_eq-refl}

same_nat-eq : (m n : ℕ) → nat_eq m n ≡ true → m ≡ n
same_nat-eq m n h = (unsigned_Decides m n).0 h

same_ranges-refl : (rs : List (ℕ × ℕ)) → same_ranges rs rs ≡ true
same_ranges-refl [] = refl
same_ranges-refl (r ∷ rs) =
    and_from (nat_eq r.0 r.0) (nat_eq r.1 r.1 && same_ranges rs rs) (nat_eq-refl r.0)
    (and_from (nat_eq r.1 r.1) (same_ranges rs rs) (nat_eq-refl r.1) (same_ranges-refl rs))

same_ranges-eq : (rs ss : List (ℕ × ℕ)) → same_ranges rs ss ≡ true → rs ≡ ss
same_ranges-eq [] [] h = refl
same_ranges-eq [] (s ∷ ss) h = absurd (true≢false (sym h))
same_ranges-eq (r ∷ rs) [] h = absurd (true≢false (sym h))
same_ranges-eq (r ∷ rs) (s ∷ ss) h =
    let first = and_parts (nat_eq r.0 s.0) (nat_eq r.1 s.1 && same_ranges rs ss) h in
    let second = and_parts (nat_eq r.1 s.1) (same_ranges rs ss) first.1 in
    ap₂ (λ x y. x ∷ y) (ap₂ (λ (m : ℕ) (n : ℕ). (m, n)) (same_nat-eq r.0 s.0 first.0) (same_nat-eq r.1 s.1 second.0))
    (same_ranges-eq rs ss second.1)

same_bound-refl : (o : Option ℕ) → same_bound o o ≡ true
same_bound-refl None = refl
same_bound-refl (Some n) = nat_eq-refl n

same_bound-eq : (o p : Option ℕ) → same_bound o p ≡ true → o ≡ p
same_bound-eq None None h = refl
same_bound-eq None (Some n) h = absurd (true≢false (sym h))
same_bound-eq (Some m) None h = absurd (true≢false (sym h))
same_bound-eq (Some m) (Some n) h = ap Some (same_nat-eq m n h)

mutual
  pub same_tree-refl : (t : Tree) → same_tree t t ≡ true
  same_tree-refl empty = refl
  same_tree-refl (one_of rs) = same_ranges-refl rs
  same_tree-refl at_start = refl
  same_tree-refl at_end = refl
  same_tree-refl (in_turn ts) = same_trees-refl ts
  same_tree-refl (either ts) = same_trees-refl ts
  same_tree-refl (repeated t low high) =
      and_from (same_tree t t) (nat_eq low low && same_bound high high) (same_tree-refl t)
      (and_from (nat_eq low low) (same_bound high high) (nat_eq-refl low) (same_bound-refl high))

  same_trees-refl : (ts : Trees) → same_trees ts ts ≡ true
  same_trees-refl no_trees = refl
  same_trees-refl (tree t ts) = and_from (same_tree t t) (same_trees ts ts) (same_tree-refl t) (same_trees-refl ts)

mutual
  pub same_tree-eq : (t u : Tree) → same_tree t u ≡ true → t ≡ u
  same_tree-eq empty empty h = refl
  same_tree-eq (one_of rs) (one_of ss) h = ap one_of (same_ranges-eq rs ss h)
  same_tree-eq at_start at_start h = refl
  same_tree-eq at_end at_end h = refl
  same_tree-eq (in_turn ts) (in_turn us) h = ap in_turn (same_trees-eq ts us h)
  same_tree-eq (either ts) (either us) h = ap either (same_trees-eq ts us h)
  same_tree-eq (repeated t low high) (repeated u bottom top) h =
      let first = and_parts (same_tree t u) (nat_eq low bottom && same_bound high top) h in
      let second = and_parts (nat_eq low bottom) (same_bound high top) first.1 in
      ap₂ (λ x y. repeated x low y) (same_tree-eq t u first.0) (same_bound-eq high top second.1)
      ∙ ap (λ n. repeated u n top) (same_nat-eq low bottom second.0)
  same_tree-eq empty (one_of ss) h = absurd (false≢true h)
  same_tree-eq empty at_start h = absurd (false≢true h)
  same_tree-eq empty at_end h = absurd (false≢true h)
  same_tree-eq empty (in_turn us) h = absurd (false≢true h)
  same_tree-eq empty (either us) h = absurd (false≢true h)
  same_tree-eq empty (repeated u bottom top) h = absurd (false≢true h)
  same_tree-eq (one_of rs) empty h = absurd (false≢true h)
  same_tree-eq (one_of rs) at_start h = absurd (false≢true h)
  same_tree-eq (one_of rs) at_end h = absurd (false≢true h)
  same_tree-eq (one_of rs) (in_turn us) h = absurd (false≢true h)
  same_tree-eq (one_of rs) (either us) h = absurd (false≢true h)
  same_tree-eq (one_of rs) (repeated u bottom top) h = absurd (false≢true h)
  same_tree-eq at_start empty h = absurd (false≢true h)
  same_tree-eq at_start (one_of ss) h = absurd (false≢true h)
  same_tree-eq at_start at_end h = absurd (false≢true h)
  same_tree-eq at_start (in_turn us) h = absurd (false≢true h)
  same_tree-eq at_start (either us) h = absurd (false≢true h)
  same_tree-eq at_start (repeated u bottom top) h = absurd (false≢true h)
  same_tree-eq at_end empty h = absurd (false≢true h)
  same_tree-eq at_end (one_of ss) h = absurd (false≢true h)
  same_tree-eq at_end at_start h = absurd (false≢true h)
  same_tree-eq at_end (in_turn us) h = absurd (false≢true h)
  same_tree-eq at_end (either us) h = absurd (false≢true h)
  same_tree-eq at_end (repeated u bottom top) h = absurd (false≢true h)
  same_tree-eq (in_turn ts) empty h = absurd (false≢true h)
  same_tree-eq (in_turn ts) (one_of ss) h = absurd (false≢true h)
  same_tree-eq (in_turn ts) at_start h = absurd (false≢true h)
  same_tree-eq (in_turn ts) at_end h = absurd (false≢true h)
  same_tree-eq (in_turn ts) (either us) h = absurd (false≢true h)
  same_tree-eq (in_turn ts) (repeated u bottom top) h = absurd (false≢true h)
  same_tree-eq (either ts) empty h = absurd (false≢true h)
  same_tree-eq (either ts) (one_of ss) h = absurd (false≢true h)
  same_tree-eq (either ts) at_start h = absurd (false≢true h)
  same_tree-eq (either ts) at_end h = absurd (false≢true h)
  same_tree-eq (either ts) (in_turn us) h = absurd (false≢true h)
  same_tree-eq (either ts) (repeated u bottom top) h = absurd (false≢true h)
  same_tree-eq (repeated t low high) empty h = absurd (false≢true h)
  same_tree-eq (repeated t low high) (one_of ss) h = absurd (false≢true h)
  same_tree-eq (repeated t low high) at_start h = absurd (false≢true h)
  same_tree-eq (repeated t low high) at_end h = absurd (false≢true h)
  same_tree-eq (repeated t low high) (in_turn us) h = absurd (false≢true h)
  same_tree-eq (repeated t low high) (either us) h = absurd (false≢true h)

  same_trees-eq : (ts us : Trees) → same_trees ts us ≡ true → ts ≡ us
  same_trees-eq no_trees no_trees h = refl
  same_trees-eq no_trees (tree u us) h = absurd (false≢true h)
  same_trees-eq (tree t ts) no_trees h = absurd (false≢true h)
  same_trees-eq (tree t ts) (tree u us) h =
      let both = and_parts (same_tree t u) (same_trees ts us) h in
      ap₂ tree (same_tree-eq t u both.0) (same_trees-eq ts us both.1)

-- the test on two trees decides whether they are equal
pub same_tree-Decides : (t u : Tree) → Decides (same_tree t u) (t ≡ u)
same_tree-Decides t u = (same_tree-eq t u, λ e. ap (λ v. same_tree t v) (sym e) ∙ same_tree-refl t)

pub same_tree_equiv : IsEquivalence same_tree
same_tree_equiv = decided same_tree same_tree-Decides
