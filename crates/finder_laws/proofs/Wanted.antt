-- A string meets a saturated set exactly where its word is wanted and not too long; and which words are wanted is
-- determined by the atoms of the set.
use Rattle.std.proofs.Common.{◌++◌, ◌≡◌, ℕ, ◌≤◌, inl, inr, ⊎_elim, Bool, true, false, ◌&&◌, not, cond, List, [], ◌∷◌, map, flat_map, length, nat_eq, nat_le, refl, ap, ap₂, sym, ◌∙◌, subst, arith}
use Rattle.std.proofs.lemmas.Bool.{and_parts, and_from, or_parts, or_from, leb-true, le-leb, eqb-true}
use Rattle.documents.specs.Tests.{every}
use Rattle.documents.specs.Kind as K
use Rattle.documents.specs.Document.{string}
use Rattle.word_states.specs.Atom as W
use Rattle.word_states.specs.Atom.{Atom, is_true}
use Rattle.word_states.specs.WordState.{word_state, have_same_state}
use Rattle.word_laws.proofs.States.{state_decides}
use Rattle.word_laws.proofs.StateSteps.{state_truth}
use Rattle.positions.specs.Position.{Position, position_at}
use Rattle.positions.specs.Holds.{holds, IsTable}
use Rattle.goals.specs.Signed.{Signed, Plus, Minus, position_of, met, meets}
use Rattle.goal_laws.specs.Saturated.{IsSaturated}
use Rattle.goal_laws.proofs.Saturated.{meets-saturated}
use Rattle.frames.specs.Frame.{is_at_end}
use Rattle.frame_laws.proofs.Signs.{has_in}
use Rattle.list_laws.specs.In.{IsIn}
use Rattle.list_laws.proofs.Lists.{every_at, every_from, in_left, in_right, in_flat_map}
use Rattle.finders.specs.Strings.{lower_at, lower, below_at, below, word_atoms, length_atoms, string_atoms, wants, is_wanted}
use Rattle.finder_laws.proofs.Once.{once_has}
use Rattle.finder_laws.proofs.Literals.{IsLiteral, is_literal, literal_met}
use Rattle.frame_laws.proofs.Ends.{lesser_end}

lower_from : (T : List Position) (S : List Signed) (n : ℕ) → ((x : Signed) → IsIn x S → lower_at T x ≤ n)
    → lower T S ≤ n
lower_from T [] n h = omega arith
lower_from T (x ∷ S) n h = omega (arith, h x (inl refl), lower_from T S n (λ y i. h y (inr i)))

lower_to : (T : List Position) (S : List Signed) (n : ℕ) → lower T S ≤ n → (x : Signed) → IsIn x S → lower_at T x ≤ n
lower_to T [] n h x i = absurd i
lower_to T (y ∷ S) n h x (inl e) = subst (λ z. lower_at T z ≤ n) (sym e) (omega (arith, h))
lower_to T (y ∷ S) n h x (inr i) = lower_to T S n (omega (arith, h)) x i

below_from : (T : List Position) (S : List Signed) (n : ℕ)
    → ((x : Signed) → IsIn x S → is_at_end n (below_at T x) ≡ false)
    → is_at_end n (below T S) ≡ false
below_from T [] n h = refl
below_from T (x ∷ S) n h =
    lesser_end n (below_at T x) (below T S)
    ∙ or_from (is_at_end n (below_at T x)) (is_at_end n (below T S)) (h x (inl refl))
    (below_from T S n (λ y i. h y (inr i)))

below_to : (T : List Position) (S : List Signed) (n : ℕ) → is_at_end n (below T S) ≡ false → (x : Signed) → IsIn x S
    → is_at_end n (below_at T x) ≡ false
below_to T [] n h x i = absurd i
below_to T (y ∷ S) n h x i =
    let both = or_parts (is_at_end n (below_at T y)) (is_at_end n (below T S))
    (sym (lesser_end n (below_at T y) (below T S)) ∙ h) in
    ⊎_elim (λ e. subst (λ z. is_at_end n (below_at T z) ≡ false) (sym e) both.0) (λ j. below_to T S n both.1 x j) i

module _ (T : List Position) (ok : IsTable T) (S : List Signed) (w : List ℕ) where
  pub wanted_from : meets T S (string w) ≡ true
      → (is_wanted T S w ≡ true) × (is_at_end (length w) (below T S) ≡ false)
  wanted_from m =
      let each : (x : Signed) → IsIn x S → IsLiteral T ok w x =
      λ x i. is_literal T ok w x (every_at (met (λ p. holds T p (string w))) x S m i) in (
        and_from (every (wants T w) S) (nat_le (lower T S) (length w))
            (every_from (wants T w) S (λ x i. (each x i).wanted))
            (le-leb (lower T S) (length w) (lower_from T S (length w) (λ x i. (each x i).low))),
        below_from T S (length w) (λ x i. (each x i).high),
      )

  pub wanted_meets : IsSaturated T K.Text S → is_wanted T S w ≡ true → is_at_end (length w) (below T S) ≡ false
      → meets T S (string w) ≡ true
  wanted_meets full e h =
      let (a, b) = and_parts (every (wants T w) S) (nat_le (lower T S) (length w)) e in
      let l = leb-true (lower T S) (length w) b in
      meets-saturated T ok (string w) S (λ x i c. literal_met T ok w x c (full.none_wrong x i) (record {
        low = lower_to T S (length w) l x (has_in x S i);
        high = below_to T S (length w) h x (has_in x S i);
        wanted = every_at (wants T w) x S a (has_in x S i);
      })) full.chosen

-- words of one state have the same truths of each atom

map_at : {A B : Type 0} (f g : A → B) (x : A) (xs : List A) → map f xs ≡ map g xs → IsIn x xs → f x ≡ g x
map_at f g x [] e i = absurd i
map_at f g x (y ∷ xs) e (inl q) = (let h : f y ≡ g y = cc e in ap f q ∙ h ∙ ap g (sym q))
map_at f g x (y ∷ xs) e (inr i) = (let h : map f xs ≡ map g xs = cc e in map_at f g x xs h i)

pub every_same : {A : Type 0} (p q : A → Bool) (xs : List A) → ((x : A) → IsIn x xs → p x ≡ q x) → every p xs ≡ every q xs
every_same p q [] h = refl
every_same p q (x ∷ xs) h = ap₂ (λ a b. a && b) (h x (inl refl)) (every_same p q xs (λ y i. h y (inr i)))

module _ (atoms : List Atom) (v w : List ℕ) (same : have_same_state atoms v w ≡ true) where
  pub truth_same : (a : Atom) → IsIn a atoms → is_true a v ≡ is_true a w
  truth_same a i =
      map_at (λ a. is_true a v) (λ a. is_true a w) a atoms
      (state_truth atoms v w ((state_decides (word_state atoms v) (word_state atoms w)).0 same)) i

module _ (T : List Position) (S : List Signed) where
  abbrev all_atoms : List Atom
  all_atoms = flat_map (λ x. word_atoms (position_at T (position_of x))) S

  pub word_atom_in : (x : Signed) → IsIn x S → (a : Atom) → IsIn a (word_atoms (position_at T (position_of x)))
      → IsIn a (string_atoms T S)
  word_atom_in x i a j =
      once_has a (all_atoms ++ length_atoms (lower T S))
      (in_left a all_atoms (length_atoms (lower T S))
      (in_flat_map (λ x. word_atoms (position_at T (position_of x))) a x S i j))

  pub length_atom_in : (a : Atom) → IsIn a (length_atoms (lower T S)) → IsIn a (string_atoms T S)
  length_atom_in a i =
      once_has a (all_atoms ++ length_atoms (lower T S)) (in_right a all_atoms (length_atoms (lower T S)) i)

  module _ (v w : List ℕ) (same : have_same_state (string_atoms T S) v w ≡ true) where
    wants_same : (x : Signed) → IsIn x S → wants T v x ≡ wants T w x
    wants_same (Plus p) i =
        every_same (λ a. is_true a v) (λ a. is_true a w) (word_atoms (position_at T p))
        (λ a j. truth_same (string_atoms T S) v w same a (word_atom_in (Plus p) i a j))
    wants_same (Minus p) i =
        every_same (λ a. not (is_true a v)) (λ a. not (is_true a w)) (word_atoms (position_at T p))
        (λ a j. ap not (truth_same (string_atoms T S) v w same a (word_atom_in (Minus p) i a j)))

    length_same : nat_le (lower T S) (length v) ≡ nat_le (lower T S) (length w)
    length_same = go (nat_eq (lower T S) 0) refl where
      go : (b : Bool) → nat_eq (lower T S) 0 ≡ b → nat_le (lower T S) (length v) ≡ nat_le (lower T S) (length w)
      go true e =
          let z = eqb-true (lower T S) 0 e in
          le-leb (lower T S) (length v) (omega (arith, z)) ∙ sym (le-leb (lower T S) (length w) (omega (arith, z)))
      go false e = truth_same (string_atoms T S) v w same (W.LengthMin (lower T S))
          (length_atom_in (W.LengthMin (lower T S))
          (subst (λ b. IsIn (W.LengthMin (lower T S)) (cond b [] (W.LengthMin (lower T S) ∷ []))) (sym e) (inl refl)))

    -- of two words with one state either both are wanted or neither
    pub wanted_same : is_wanted T S v ≡ is_wanted T S w
    wanted_same = ap₂ (λ a b. a && b) (every_same (wants T v) (wants T w) S wants_same) length_same
