-- Words in which a tree is found begin with one of the characters that it needs.
use Rattle.std.proofs.Common.{◌≡◌, ℕ, zero, suc, ◌<◌, List, [], ◌∷◌, map, length, slice_index, Bool, true, false, Option, Some, None, refl, sym, ap, subst, ◌∙◌, arith, true≢false}
use Rattle.patterns.specs.CharSet.{has}
use Rattle.patterns.specs.Tree.{Tree, Trees, empty, one_of, at_start, at_end, in_turn, either, repeated, no_trees, tree, trees_of}
use Rattle.patterns.specs.Match.{Matches}
use Rattle.patterns.specs.Decision.{finds}
use Rattle.pattern_laws.proofs.Decides.{finds-decides}
use Rattle.js_pattern.specs.declared.re.Re.{Re}
use Rattle.js_pattern.specs.View.{view}
use Rattle.js_match.specs.First.{lone_set, lone_set_of, first_set, set_after, set_in_turn, needed_set}

abbrev is_some : Option (List (ℕ × ℕ)) → Bool
is_some None = false
is_some (Some s) = true

none-some : (s : List (ℕ × ℕ)) → None ≡ Some s → ⊥
none-some s h = true≢false (sym (ap is_some h))

same-set : (r s : List (ℕ × ℕ)) → Some r ≡ Some s → r ≡ s
same-set r s h = ap get h
  where
    get : Option (List (ℕ × ℕ)) → List (ℕ × ℕ)
    get None = r
    get (Some x) = x

-- the character at that place is there, and in the set
abbrev Begins : List (ℕ × ℕ) → List ℕ → ℕ → Type 0
Begins s w i = (i < length w) × (has s (slice_index w i) ≡ true)

module _ (w : List ℕ) (s : List (ℕ × ℕ)) where
  lone-begins : (t : Tree) (i j : ℕ) → lone_set t ≡ Some s → Matches t w i j → Begins s w i
  lone-begins empty i j h m = absurd (none-some s h)
  lone-begins (one_of r) i j h m =
      (m.1, subst (λ x. has x (slice_index w i) ≡ true) (same-set r s h) m.2)
  lone-begins at_start i j h m = absurd (none-some s h)
  lone-begins at_end i j h m = absurd (none-some s h)
  lone-begins (in_turn ts) i j h m = absurd (none-some s h)
  lone-begins (either ts) i j h m = absurd (none-some s h)
  lone-begins (repeated t low high) i j h m = absurd (none-some s h)

  repeat-begins : (t : Tree) (low : ℕ) (high : Option ℕ) (i j : ℕ) → lone_set_of low t ≡ Some s
      → Matches (repeated t low high) w i j → Begins s w i
  repeat-begins t zero high i j h m = absurd (none-some s h)
  repeat-begins t (suc low) high i j h (zero, most, few, steps) = absurd (omega (arith, most))
  repeat-begins t (suc low) high i j h (suc k, most, few, steps) = lone-begins t i steps.0 h steps.1

  first-begins : (t : Tree) (i j : ℕ) → first_set t ≡ Some s → Matches t w i j → Begins s w i
  first-begins empty i j h m = absurd (none-some s h)
  first-begins (one_of r) i j h m = lone-begins (one_of r) i j h m
  first-begins at_start i j h m = absurd (none-some s h)
  first-begins at_end i j h m = absurd (none-some s h)
  first-begins (in_turn ts) i j h m = absurd (none-some s h)
  first-begins (either ts) i j h m = absurd (none-some s h)
  first-begins (repeated t low high) i j h m = repeat-begins t low high i j h m

  after-begins : (t : Tree) (ts : Trees) (i j : ℕ) → set_after t ts ≡ Some s → Matches (in_turn (tree t ts)) w i j
      → Begins s w 0
  after-begins empty ts i j h m = absurd (none-some s h)
  after-begins (one_of r) ts i j h m = absurd (none-some s h)
  after-begins at_start no_trees i j h m = absurd (none-some s h)
  after-begins at_start (tree t ts) i j h (a, start, (b, first, rest)) =
      subst (Begins s w) start.1 (first-begins t a b h first)
  after-begins at_end ts i j h m = absurd (none-some s h)
  after-begins (in_turn us) ts i j h m = absurd (none-some s h)
  after-begins (either us) ts i j h m = absurd (none-some s h)
  after-begins (repeated t low high) ts i j h m = absurd (none-some s h)

  needed-begins : (t : Tree) (i j : ℕ) → needed_set t ≡ Some s → Matches t w i j → Begins s w 0
  needed-begins empty i j h m = absurd (none-some s h)
  needed-begins (one_of r) i j h m = absurd (none-some s h)
  needed-begins at_start i j h m = absurd (none-some s h)
  needed-begins at_end i j h m = absurd (none-some s h)
  needed-begins (in_turn no_trees) i j h m = absurd (none-some s h)
  needed-begins (in_turn (tree t ts)) i j h m = after-begins t ts i j h m
  needed-begins (either ts) i j h m = absurd (none-some s h)
  needed-begins (repeated t low high) i j h m = absurd (none-some s h)

  -- a tree isn't found in a word that begins with none of the characters that the tree needs
  pub not-found : (t : Tree) → needed_set t ≡ Some s → (Begins s w 0 → ⊥) → finds t w ≡ false
  not-found t h other = go (finds t w) refl
    where
      go : (b : Bool) → finds t w ≡ b → finds t w ≡ false
      go true k =
          let (i, j, il, jl, m) = (finds-decides t w).0 k in absurd (other (needed-begins t i j h m))
      go false k = k

-- ---- lists of trees

pub set-none : (items : List Re) → length items < 2 → None ≡ set_in_turn (trees_of (map view items))
set-none [] l = refl
set-none (a ∷ []) l = alone (view a)
  where
    alone : (t : Tree) → None ≡ set_after t no_trees
    alone empty = refl
    alone (one_of s) = refl
    alone at_start = refl
    alone at_end = refl
    alone (in_turn us) = refl
    alone (either us) = refl
    alone (repeated t low high) = refl
set-none (a ∷ b ∷ items) l = absurd (omega (arith, l))
