-- An array meets the literals of a set exactly where its elements are arranged as the set's frame requires.
use Rattle.std.proofs.Common.{◌≡◌, ℕ, ◌<◌, ◌≤◌, max, inl, inr, ⊎_elim, Bool, true, false, ◌||◌, not, List, [], ◌∷◌, flat_map, length, Option, Some, None, refl, ap, sym, ◌∙◌, subst, arith}
use Rattle.std.proofs.lemmas.Bool.{or_parts, or_from, lt-ltb, le-ltb}
use Rattle.std.specs.Option.{is_none}
use Rattle.documents.specs.Tests.{every}
use Rattle.documents.specs.Kind as K
use Rattle.documents.specs.Document.{Document, array, elements}
use Rattle.documents.specs.Document as D
use Rattle.positions.specs.Position.{Position, position_at}
use Rattle.positions.specs.Holds.{holds, IsTable}
use Rattle.position_laws.proofs.Asks.{holds-asks}
use Rattle.goals.specs.Signed.{Signed, Plus, Minus, position_of, met, meets}
use Rattle.goals.specs.Choices.{choices, is_wrong}
use Rattle.goals.specs.Goal.{form}
use Rattle.goal_laws.specs.Formed.{meets_goal}
use Rattle.goal_laws.proofs.Forms.{meets-form}
use Rattle.frames.specs.Frame.{Place, Head, In, is_at_end}
use Rattle.frames.specs.ArrayFrame.{prefix_of, longest, each, serving, is_demand, plus_lower, minus_lower, lower, plus_below, minus_below, below, lesser, array_frame}
use Rattle.list_laws.specs.In.{IsIn}
use Rattle.list_laws.proofs.Lists.{every_at, every_from, from_flat_map, in_flat_map, in_filter}
use Rattle.frame_laws.proofs.Arranged.{Arrangement, IsInside, IsArranged}
use Rattle.list_laws.proofs.Tests.{from_filter}
use Rattle.array_laws.specs.ArrayValues.{stand, doc_at}
use Rattle.array_laws.proofs.Literals.{IsPlus, IsMinus, is_plus, is_minus, from_plus, from_minus}
use Rattle.frame_laws.proofs.Ends.{lesser_end}

abbrev pub lower_at : List Position → Signed → ℕ
lower_at T (Plus p) = plus_lower (position_at T p)
lower_at T (Minus p) = minus_lower (position_at T p)

abbrev pub below_at : List Position → Signed → Option ℕ
below_at T (Plus p) = plus_below (position_at T p)
below_at T (Minus p) = minus_below (position_at T p)

lower_is : (T : List Position) (x : Signed) (S : List Signed) → lower T (x ∷ S) ≡ max (lower_at T x) (lower T S)
lower_is T (Plus p) S = refl
lower_is T (Minus p) S = refl

below_is : (T : List Position) (x : Signed) (S : List Signed) → below T (x ∷ S) ≡ lesser (below_at T x) (below T S)
below_is T (Plus p) S = refl
below_is T (Minus p) S = refl

pub lower_from : (T : List Position) (S : List Signed) (n : ℕ) → ((x : Signed) → IsIn x S → lower_at T x ≤ n)
    → lower T S ≤ n
lower_from T [] n h = omega arith
lower_from T (x ∷ S) n h = omega (arith, lower_is T x S, h x (inl refl), lower_from T S n (λ y i. h y (inr i)))

pub lower_to : (T : List Position) (S : List Signed) (n : ℕ) → lower T S ≤ n → (x : Signed) → IsIn x S
    → lower_at T x ≤ n
lower_to T [] n h x i = absurd i
lower_to T (y ∷ S) n h x (inl e) = subst (λ z. lower_at T z ≤ n) (sym e) (omega (arith, lower_is T y S, h))
lower_to T (y ∷ S) n h x (inr i) = lower_to T S n (omega (arith, lower_is T y S, h)) x i

end_is : (T : List Position) (x : Signed) (S : List Signed) (n : ℕ)
    → is_at_end n (below T (x ∷ S)) ≡ (is_at_end n (below_at T x) || is_at_end n (below T S))
end_is T x S n = ap (is_at_end n) (below_is T x S) ∙ lesser_end n (below_at T x) (below T S)

pub below_from : (T : List Position) (S : List Signed) (n : ℕ)
    → ((x : Signed) → IsIn x S → is_at_end n (below_at T x) ≡ false)
    → is_at_end n (below T S) ≡ false
below_from T [] n h = refl
below_from T (x ∷ S) n h =
    end_is T x S n ∙ or_from (is_at_end n (below_at T x)) (is_at_end n (below T S)) (h x (inl refl))
    (below_from T S n (λ y i. h y (inr i)))

pub below_to : (T : List Position) (S : List Signed) (n : ℕ) → is_at_end n (below T S) ≡ false → (x : Signed)
    → IsIn x S
    → is_at_end n (below_at T x) ≡ false
below_to T [] n h x i = absurd i
below_to T (y ∷ S) n h x i =
    let both = or_parts (is_at_end n (below_at T y)) (is_at_end n (below T S)) (sym (end_is T y S n) ∙ h) in
    ⊎_elim (λ e. subst (λ z. is_at_end n (below_at T z) ≡ false) (sym e) both.0) (λ j. below_to T S n both.1 x j) i

pub prefix_le : (T : List Position) (S : List Signed) (x : Signed) → IsIn x S
    → prefix_of (position_at T (position_of x)) ≤ longest T S
prefix_le T [] x i = absurd i
prefix_le T (y ∷ S) x (inl e) =
    subst (λ z. prefix_of (position_at T (position_of z)) ≤ longest T (y ∷ S)) (sym e) (omega arith)
prefix_le T (y ∷ S) x (inr i) = omega (arith, prefix_le T S x i)

pub stand_head : (n j : ℕ) → j < n → stand n j ≡ Head j
stand_head n j l = rw (lt-ltb j n l) refl

pub stand_cell : (n j : ℕ) → n ≤ j → stand n j ≡ In 0
stand_cell n j l = rw (le-ltb j n l) refl

-- the elements by number
abbrev pub arrangement : List Position → ℕ → List Document → Arrangement
arrangement T n es = record { count = length es; at = stand n; met = λ j x. met (λ p. holds T p (doc_at es j)) x }

module _ (T : List Position) (ok : IsTable T) (S : List Signed) (ds : D.Items) where
  abbrev here : ℕ → Bool
  here q = holds T q (array ds)

  abbrev n : ℕ
  n = longest T S

  abbrev pub AreMet : Type 0
  AreMet = (x : Signed) → IsIn x S → choices T K.Array x ≡ None → met (λ p. holds T p (array ds)) x ≡ true

  formed : (j : ℕ) (l : List Signed) → every (met (λ p. holds T p (doc_at (elements ds) j))) l ≡ true
      → is_none (form T l) ≡ false
  formed j l h = go (form T l) (sym (meets-form T ok (doc_at (elements ds) j) l) ∙ h) where
    go : (o : Option (List Signed)) → meets_goal T o (doc_at (elements ds) j) ≡ true → is_none o ≡ false
    go None e = cc
    go (Some g) e = refl

  any_inside : (d : Signed) (at : Place) → IsInside (array_frame T S) d at
  any_inside d (Head i) = tt
  any_inside d (In c) = refl

  module _ (k : AreMet) where
    plus_at : (p : ℕ) → IsIn (Plus p) S → IsPlus T here ds (longest T S) (position_at T p)
    plus_at p i = is_plus T here ds (longest T S) (position_at T p) (prefix_le T S (Plus p) i)
        (λ c. sym (holds-asks T ok p (array ds)) ∙ k (Plus p) i c)

    minus_at : (p : ℕ) → IsIn (Minus p) S → IsMinus T here ds (longest T S) (position_at T p)
    minus_at p i =
        is_minus T here ds (longest T S) (position_at T p) (prefix_le T S (Minus p) i)
        (λ c. ap not (sym (holds-asks T ok p (array ds))) ∙ k (Minus p) i c)

    low_at : (x : Signed) → IsIn x S → lower_at T x ≤ length (elements ds)
    low_at (Plus p) i = (plus_at p i).low
    low_at (Minus p) i = (minus_at p i).low

    high_at : (x : Signed) → IsIn x S → is_at_end (length (elements ds)) (below_at T x) ≡ false
    high_at (Plus p) i = (plus_at p i).high
    high_at (Minus p) i = (minus_at p i).high

    each_at : (j : ℕ) → j < length (elements ds) → (x : Signed) → IsIn x S
        → meets T (each T (longest T S) (stand (longest T S) j) x) (doc_at (elements ds) j) ≡ true
    each_at j l (Plus p) i = (plus_at p i).each j l
    each_at j l (Minus p) i = (minus_at p i).each j l

    served_at : (d : Signed) → IsIn d S → is_demand T d ≡ true → (j : ℕ) × (j < length (elements ds))
        × (meets T (serving T (longest T S) (stand (longest T S) j) d) (doc_at (elements ds) j) ≡ true)
    served_at (Plus p) i w = (plus_at p i).served w
    served_at (Minus p) i w = (minus_at p i).served w

    -- an array that meets the set has its elements arranged as the set's frame requires
    pub is_arranged : IsArranged T (array_frame T S) (arrangement T (longest T S) (elements ds))
    is_arranged = record {
      low = lower_from T S (length (elements ds)) low_at;
      floor = lower_from T S (length (elements ds)) low_at;
      high = below_from T S (length (elements ds)) high_at;
      heads = λ j l h. stand_head (longest T S) j h;
      rest = λ j l h. (0, stand_cell (longest T S) j h, inl refl);
      each = λ j l. every_from _ (flat_map (each T (longest T S) (stand (longest T S) j)) S) (λ y i.
          let (x, a, b) = from_flat_map (each T (longest T S) (stand (longest T S) j)) y S i in
          every_at _ y (each T (longest T S) (stand (longest T S) j) x) (each_at j l x a) b);
      served = λ d i. let (a, b) = from_filter (is_demand T) d S i in
          let (j, l, h) = served_at d a b in (j, l, any_inside d (stand (longest T S) j), h);
      capped = λ c b e. cc;
      formed = λ j l h e. formed j l e;
    }

  module _ (none_wrong : (x : Signed) → IsIn x S → is_wrong T K.Array x ≡ false)
      (k : IsArranged T (array_frame T S) (arrangement T (longest T S) (elements ds))) where
    each_of : (j : ℕ) → j < length (elements ds) → (x : Signed) → IsIn x S
        → meets T (each T (longest T S) (stand (longest T S) j) x) (doc_at (elements ds) j) ≡ true
    each_of j l x i = every_from _ (each T (longest T S) (stand (longest T S) j) x) (λ y a.
        every_at _ y (flat_map (each T (longest T S) (stand (longest T S) j)) S) (k.each j l)
        (in_flat_map (each T (longest T S) (stand (longest T S) j)) y x S i a))

    served_of : (d : Signed) → IsIn d S → is_demand T d ≡ true → (j : ℕ) × (j < length (elements ds))
        × (meets T (serving T (longest T S) (stand (longest T S) j) d) (doc_at (elements ds) j) ≡ true)
    served_of d i w = let (j, l, e, h) = k.served d (in_filter (is_demand T) d S i w) in (j, l, h)

    as_plus : (p : ℕ) → IsIn (Plus p) S → IsPlus T here ds (longest T S) (position_at T p)
    as_plus p i = record {
      low = lower_to T S (length (elements ds)) k.low (Plus p) i;
      high = below_to T S (length (elements ds)) k.high (Plus p) i;
      each = λ j l. each_of j l (Plus p) i;
      served = λ w. served_of (Plus p) i w;
    }

    as_minus : (p : ℕ) → IsIn (Minus p) S → IsMinus T here ds (longest T S) (position_at T p)
    as_minus p i = record {
      low = lower_to T S (length (elements ds)) k.low (Minus p) i;
      high = below_to T S (length (elements ds)) k.high (Minus p) i;
      each = λ j l. each_of j l (Minus p) i;
      served = λ w. served_of (Minus p) i w;
    }

    pub literals_met : (x : Signed) → IsIn x S → choices T K.Array x ≡ None → met (λ p. holds T p (array ds)) x ≡ true
    literals_met (Plus p) i c =
        holds-asks T ok p (array ds) ∙ from_plus T here ds (longest T S) (position_at T p) (prefix_le T S (Plus p) i)
        c (none_wrong (Plus p) i) (as_plus p i)
    literals_met (Minus p) i c =
        ap not (holds-asks T ok p (array ds))
        ∙ from_minus T here ds (longest T S) (position_at T p) (prefix_le T S (Minus p) i) c (none_wrong (Minus p) i)
        (as_minus p i)
