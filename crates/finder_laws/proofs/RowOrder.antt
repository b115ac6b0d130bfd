-- Rows are in the order of their words, and the word of a row is the first that leads there.
use Rattle.std.proofs.Common.{◌≡◌, ℕ, suc, ◌<◌, ◌⊎◌, inl, inr, List, [], ◌∷◌, ◌++◌, true, map, flat_map, length, refl, ap, ap₂, sym, ◌∙◌, subst, append-nil, append_assoc, arith}
use Rattle.std.specs.List.{list_all}
use Rattle.std.proofs.lemmas.Bool.{and_parts}
use Rattle.patterns.specs.CharSet.{is_scalar}
use Rattle.word_states.specs.Atom.{Atom}
use Rattle.word_states.specs.Classes.{dividers, class_firsts}
use Rattle.word_states.specs.WordState.{have_same_state}
use Rattle.word_states.specs.Rows.{AreRows}
use Rattle.word_laws.proofs.Rows as R
use Rattle.word_laws.proofs.RowLaws.{extend, longer, follows, same_next}
use Rattle.word_laws.proofs.States.{same_laws}
use Rattle.word_laws.proofs.Firsts as F
use Rattle.word_laws.proofs.Firsts.{firsts_are}
use Rattle.list_laws.specs.In.{IsIn}
use Rattle.list_laws.proofs.Lists.{from_map, in_map, from_flat_map, in_flat_map, length-end}
use Rattle.cell_laws.specs.FirstWords.{Lex, Before, IsOrdered}
use Rattle.cell_laws.proofs.Characters.{rank, rank_rises, rising_ordered}
use Rattle.finder_laws.proofs.InOrder.{ordered_append, ordered_left, mentions_ordered, HasFirst, mentions_first}

-- the order of words, with one more character

lex_end : (w : List ℕ) (c d : ℕ) → rank c < rank d → Lex rank (w ++ c ∷ []) (w ++ d ∷ [])
lex_end [] c d l = inl l
lex_end (x ∷ w) c d l = inr (refl, lex_end w c d l)

lex_more : (v w : List ℕ) (c d : ℕ) → Lex rank v w → Lex rank (v ++ c ∷ []) (w ++ d ∷ [])
lex_more [] w c d l = absurd l
lex_more (x ∷ v) [] c d l = absurd l
lex_more (x ∷ v) (y ∷ w) c d (inl l) = inl l
lex_more (x ∷ v) (y ∷ w) c d (inr l) = inr (l.0, lex_more v w c d l.1)

before_end : (w : List ℕ) (c d : ℕ) → rank c < rank d → Before rank (w ++ c ∷ []) (w ++ d ∷ [])
before_end w c d l = inr (length-end w c ∙ sym (length-end w d), lex_end w c d l)

before_more : (v w : List ℕ) (c d : ℕ) → Before rank v w → Before rank (v ++ c ∷ []) (w ++ d ∷ [])
before_more v w c d (inl l) = inl (let e = length-end v c in let f = length-end w d in omega (arith, e, f, l))
before_more v w c d (inr l) =
    inr (length-end v c ∙ ap suc l.0 ∙ sym (length-end w d), lex_more v w c d l.1)

lex_next : (u v w : List ℕ) → Lex rank u v → Lex rank v w → Lex rank u w
lex_next [] v w l m = absurd l
lex_next (x ∷ u) [] w l m = absurd l
lex_next (x ∷ u) (y ∷ v) [] l m = absurd m
lex_next (x ∷ u) (y ∷ v) (z ∷ w) (inl l) (inl m) = inl (omega (arith, l, m))
lex_next (x ∷ u) (y ∷ v) (z ∷ w) (inl l) (inr m) = inl (subst (λ k. rank x < rank k) m.0 l)
lex_next (x ∷ u) (y ∷ v) (z ∷ w) (inr l) (inl m) = inl (subst (λ k. rank k < rank z) (sym l.0) m)
lex_next (x ∷ u) (y ∷ v) (z ∷ w) (inr l) (inr m) = inr (l.0 ∙ m.0, lex_next u v w l.1 m.1)

before_next : (u v w : List ℕ) → Before rank u v → Before rank v w → Before rank u w
before_next u v w (inl l) (inl m) = inl (omega (arith, l, m))
before_next u v w (inl l) (inr m) = inl (let e = m.0 in omega (arith, l, e))
before_next u v w (inr l) (inl m) = inl (let e = l.0 in omega (arith, m, e))
before_next u v w (inr l) (inr m) = inr (l.0 ∙ m.0, lex_next u v w l.1 m.1)

-- no later in that order
abbrev pub NoLater : List ℕ → List ℕ → Type 0
NoLater v w = (v ≡ w) ⊎ Before rank v w

pub no_later : (u v w : List ℕ) → NoLater u v → NoLater v w → NoLater u w
no_later u v w (inl e) n = subst (λ z. NoLater z w) (sym e) n
no_later u v w (inr l) (inl e) = inr (subst (λ z. Before rank u z) e l)
no_later u v w (inr l) (inr m) = inr (before_next u v w l m)

module _ (atoms : List Atom) where
  firsts_ordered : IsOrdered (λ c d. rank c < rank d) (class_firsts atoms)
  firsts_ordered =
      rising_ordered (class_firsts atoms) (firsts_are (dividers atoms)).scalar (firsts_are (dividers atoms)).rising

  extend_ordered : (w : List ℕ) → IsOrdered (Before rank) (extend atoms w)
  extend_ordered w = go (class_firsts atoms) firsts_ordered where
    go : (cs : List ℕ) → IsOrdered (λ c d. rank c < rank d) cs → IsOrdered (Before rank) (map (λ c. w ++ c ∷ []) cs)
    go [] o = tt
    go (c ∷ cs) o = (
      (λ v i. let (d, j, e) = from_map (λ c. w ++ c ∷ []) v cs i in
          subst (λ z. Before rank (w ++ c ∷ []) z) (sym e) (before_end w c d (o.0 d j))),
      go cs o.1,
    )

  all_ordered : (K : List (List ℕ)) → IsOrdered (Before rank) K → IsOrdered (Before rank) (flat_map (extend atoms) K)
  all_ordered [] o = tt
  all_ordered (w ∷ K) o =
      ordered_append (Before rank) (extend atoms w) (flat_map (extend atoms) K) (extend_ordered w) (all_ordered K o.1)
      (λ u v i j.
      let (c, a, e) = from_map (λ c. w ++ c ∷ []) u (class_firsts atoms) i in
      let (x, k, m) = from_flat_map (extend atoms) v K j in
      let (d, b, f) = from_map (λ c. x ++ c ∷ []) v (class_firsts atoms) m in
      subst (λ z. Before rank z v) (sym e)
      (subst (λ z. Before rank (w ++ c ∷ []) z) (sym f) (before_more w x c d (o.0 x k))))

  with_start : (K : List (List ℕ)) → IsOrdered (Before rank) K
      → IsOrdered (Before rank) ([] ∷ flat_map (extend atoms) K)
  with_start K o = (
    (λ v i. let (x, k, m) = from_flat_map (extend atoms) v K i in
        let l = longer atoms x v m in inl (omega (arith, l))),
    all_ordered K o,
  )

  mentioned_ordered : (K : List (List ℕ)) → IsOrdered (Before rank) K
      → IsOrdered (Before rank) (R.mentioned (have_same_state atoms) (same_laws atoms) (extend atoms) [] K)
  mentioned_ordered K o =
      mentions_ordered (Before rank) (have_same_state atoms) (same_laws atoms) [] ([] ∷ flat_map (extend atoms) K)
      (with_start K o)

  module _ (L : List (List ℕ)) (rows : AreRows atoms L) where
    pub rows_ordered : IsOrdered (Before rank) L
    rows_ordered = go L [] refl tt where
      go : (X K : List (List ℕ)) → L ≡ K ++ X → IsOrdered (Before rank) K → IsOrdered (Before rank) L
      go [] K e o = subst (λ z. IsOrdered (Before rank) z) (sym (e ∙ append-nil K)) o
      go (x ∷ X) K e o =
          let (Y, p) = R.next (have_same_state atoms) (same_laws atoms) (extend atoms) [] (λ w. length w) (longer atoms)
          (follows atoms) L rows K X x e in
          go X (K ++ x ∷ []) (e ∙ sym (append_assoc K (x ∷ []) X))
          (ordered_left (Before rank) (K ++ x ∷ []) Y
          (subst (λ z. IsOrdered (Before rank) z) (p ∙ sym (append_assoc K (x ∷ []) Y)) (mentioned_ordered K o)))

    -- a row whose word has the state of a word and comes no later
    abbrev pub HasRow : List ℕ → Type 0
    HasRow w = HasFirst (Before rank) (have_same_state atoms) (same_laws atoms) L w

    mentioned_row : (w : List ℕ) → IsIn w ([] ∷ flat_map (extend atoms) L) → HasRow w
    mentioned_row w i =
        let h = mentions_first (Before rank) (have_same_state atoms) (same_laws atoms) []
        ([] ∷ flat_map (extend atoms) L) w (with_start L rows_ordered) i in record {
          first = h.first;
          is_in = subst (λ z. IsIn h.first z) (sym rows) h.is_in;
          is_same = h.is_same;
          no_later = h.no_later;
        }

    row_with_end : (u : List ℕ) (c : ℕ) → is_scalar c ≡ true → HasRow u → HasRow (u ++ c ∷ [])
    row_with_end u c s h =
        let (f, i, a, n) = (firsts_are (dividers atoms)).first c s in
        let g = mentioned_row (h.first ++ f ∷ [])
        (inr (in_flat_map (extend atoms) (h.first ++ f ∷ []) h.first L h.is_in
        (in_map (λ c. h.first ++ c ∷ []) f (class_firsts atoms) i))) in
        let same = same_next atoms u h.first c f h.is_same a in record {
          first = g.first;
          is_in = g.is_in;
          is_same = (same_laws atoms).congr (u ++ c ∷ []) (h.first ++ f ∷ []) g.first same ∙ g.is_same;
          no_later = no_later g.first (h.first ++ f ∷ []) (u ++ c ∷ []) g.no_later (ends h.first f i n h.no_later);
        } where
          ends : (v : List ℕ) (f : ℕ) → IsIn f (class_firsts atoms) → (f ≡ c) ⊎ F.Before f c → NoLater v u
              → NoLater (v ++ f ∷ []) (u ++ c ∷ [])
          ends v f i (inl e) (inl q) = inl (ap₂ (λ x y. x ++ y ∷ []) q e)
          ends v f i (inr l) (inl q) =
              inr (subst (λ z. Before rank (v ++ f ∷ []) (z ++ c ∷ [])) q
              (before_end v f c (rank_rises f c ((firsts_are (dividers atoms)).scalar f i) l)))
          ends v f i n (inr l) = inr (before_more v u f c l)

    row_from : (u w : List ℕ) → HasRow u → list_all is_scalar w ≡ true → HasRow (u ++ w)
    row_from u [] h s = subst (λ z. HasRow z) (sym (append-nil u)) h
    row_from u (c ∷ w) h s =
        let (a, b) = and_parts (is_scalar c) (list_all is_scalar w) s in
        subst (λ z. HasRow z) (append_assoc u (c ∷ []) w) (row_from (u ++ c ∷ []) w (row_with_end u c a h) b)

    -- each word has a row
    pub word_row : (w : List ℕ) → list_all is_scalar w ≡ true → HasRow w
    word_row w s = row_from [] w (mentioned_row [] (inl refl)) s
