-- What is mentioned in order is in order, and of all that are the same the first is there.
use Rattle.std.proofs.Common.{◌≡◌, ◌⊎◌, inl, inr, ⊎_elim, List, [], ◌∷◌, ◌++◌, Bool, true, false, if◌then◌else◌, refl, sym, subst, append-nil, append_assoc}
use Rattle.std.specs.Cmp.{IsEquivalence}
use Rattle.std.specs.List.{list_any}
use Rattle.word_states.specs.Mention.{mention, mention_all}
use Rattle.word_laws.proofs.Mentions as M
use Rattle.list_laws.specs.In.{IsIn}
use Rattle.list_laws.proofs.Lists.{in_left, in_right, from_append}
use Rattle.cell_laws.specs.FirstWords.{IsOrdered}

module _ {A : Type 0} (R : A → A → Type 0) where
  pub ordered_append : (L M : List A) → IsOrdered R L → IsOrdered R M
      → ((x y : A) → IsIn x L → IsIn y M → R x y)
      → IsOrdered R (L ++ M)
  ordered_append [] M a b h = b
  ordered_append (x ∷ L) M a b h = (
    (λ y i. ⊎_elim (λ l. a.0 y l) (λ r. h x y (inl refl) r) (from_append y L M i)),
    ordered_append L M a.1 b (λ u v i j. h u v (inr i) j),
  )

  pub ordered_left : (L M : List A) → IsOrdered R (L ++ M) → IsOrdered R L
  ordered_left [] M o = tt
  ordered_left (x ∷ L) M o = ((λ y i. o.0 y (in_left y L M i)), ordered_left L M o.1)

  pub ordered_apart : (L M : List A) (x y : A) → IsOrdered R (L ++ M) → IsIn x L → IsIn y M → R x y
  ordered_apart [] M x y o i j = absurd i
  ordered_apart (z ∷ L) M x y o (inl e) j = subst (λ u. R u y) (sym e) (o.0 y (in_right y L M j))
  ordered_apart (z ∷ L) M x y o (inr i) j = ordered_apart L M x y o.1 i j

  ordered_skip : (L : List A) (x : A) (xs : List A) → IsOrdered R (L ++ x ∷ xs) → IsOrdered R (L ++ xs)
  ordered_skip [] x xs o = o.1
  ordered_skip (y ∷ L) x xs o = (
    (λ z i. o.0 z
        (⊎_elim (λ l. in_left z L (x ∷ xs) l) (λ r. in_right z L (x ∷ xs) (inr r)) (from_append z L xs i))),
    ordered_skip L x xs o.1,
  )

  module _ (same : A → A → Bool) (laws : IsEquivalence same) where
    mention_ordered : (L : List A) (x : A) (xs : List A) → IsOrdered R (L ++ x ∷ xs)
        → IsOrdered R (mention same L x ++ xs)
    mention_ordered L x xs o = go (list_any (same x) L) where
      go : (b : Bool) → IsOrdered R ((if b then L else L ++ x ∷ []) ++ xs)
      go true = ordered_skip L x xs o
      go false = subst (λ z. IsOrdered R z) (sym (append_assoc L (x ∷ []) xs)) o

    pub mentions_ordered : (L xs : List A) → IsOrdered R (L ++ xs) → IsOrdered R (mention_all same L xs)
    mentions_ordered L [] o = subst (λ z. IsOrdered R z) (append-nil L) o
    mentions_ordered L (x ∷ xs) o = mentions_ordered (mention same L x) xs (mention_ordered L x xs o)

    -- one that is the same, and comes no later
    pub record HasFirst (L : List A) (x : A) : Type 0 where
      pub first : A
      pub is_in : IsIn first L
      pub is_same : same x first ≡ true
      pub no_later : (first ≡ x) ⊎ R first x

    mention_first : (L : List A) (x : A) (xs : List A) → IsOrdered R (L ++ x ∷ xs) → HasFirst (mention same L x) x
    mention_first L x xs o = go (list_any (same x) L) refl where
      go : (b : Bool) → list_any (same x) L ≡ b → HasFirst (if b then L else L ++ x ∷ []) x
      go true e =
          let (y, i, s) = M.in_has same laws x L e in record {
            first = y;
            is_in = i;
            is_same = s;
            no_later = inr (ordered_apart L (x ∷ xs) y x o i (inl refl));
          }
      go false e = record {
        first = x;
        is_in = in_right x L (x ∷ []) (inl refl);
        is_same = laws.refl x;
        no_later = inl refl;
      }

    -- of each element of a list in order, the first one that is the same is mentioned
    pub mentions_first : (L xs : List A) (x : A) → IsOrdered R (L ++ xs) → IsIn x xs
        → HasFirst (mention_all same L xs) x
    mentions_first L [] x o i = absurd i
    mentions_first L (y ∷ xs) x o (inr i) = mentions_first (mention same L y) xs x (mention_ordered L y xs o) i
    mentions_first L (y ∷ xs) x o (inl e) =
        let h = mention_first L y xs o in
        let (X, p) = M.mentions_grow same laws (mention same L y) xs in
        subst (λ z. HasFirst (mention_all same L (y ∷ xs)) z) (sym e) (record {
          first = h.first;
          is_in = subst (λ z. IsIn h.first z) (sym p) (in_left h.first (mention same L y) X h.is_in);
          is_same = h.is_same;
          no_later = h.no_later;
        })
