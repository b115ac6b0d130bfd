-- The parts of a goal one after another: what one contains comes before it.
use Rattle.std.proofs.Common.{◌≡◌, ◌≢◌, ℕ, zero, suc, ◌+◌, ◌<◌, ◌⊎◌, inl, inr, List, [], ◌∷◌, ◌++◌, map, filter, length, take, get_or, set, get_or-set_same, get_or-set_other, true, false, cond, nat_eq, Option, Some, None, slice_get, refl, ap, ap₂, sym, ◌∙◌, subst, arith, true≢false, eq-eqb}
use Rattle.std.proofs.lemmas.Bool.Decides.{eqb_tells}
use Rattle.std.proofs.lemmas.List.{take_more, map-append}
use Rattle.documents.specs.Kind.{Kind}
use Rattle.goals.specs.Signed.{Signed}
use Rattle.list_laws.specs.In.{IsIn, Distinct}
use Rattle.list_laws.proofs.Lists.{from_append}
use Rattle.list_laws.proofs.Counts.{Distinct-filter}
use Rattle.cell_laws.proofs.Lists.{distinct_append}
use Rattle.list_laws.proofs.Pigeons.{Distinct-range}
use Rattle.shared_documents.specs.Part as P
use Rattle.shared_documents.specs.Part.{Part, names_below, first_forward}
use Rattle.alternatives.specs.Alternative.{Shape, Null, Truth, Number, Text, Elements, Members}
use Rattle.alternatives.specs.Expansion.{Expansion}
use Rattle.expansions.specs.DocumentOf.{slot_name}
use Rattle.search.specs.Explored.{Found}
use Rattle.search.specs.Rounds.{NumberedPlaced, Numbered, round}
use Rattle.search.specs.Uses.{numbers, is_added, in_order, chosen, contents, uses, used_goals}
use Rattle.search.specs.Witness.{sorted, place_in, named, by_shape, of_goal, part}
use Rattle.search_laws.proofs.Used.{entered, from_added, has_order}
use Rattle.search_laws.proofs.Parts.{contents_used, in_used, used_in, part_below}
use Rattle.search_laws.proofs.Settled.{rise_to}
use Rattle.search_laws.proofs.Marking.{in_at}
use Rattle.list_laws.proofs.Tests.{find-none_below}

-- nothing comes twice

order_distinct : (expansion : List Signed → Expansion) (f : Found) (r : ℕ) → Distinct (in_order expansion f r)
order_distinct expansion f zero = tt
order_distinct expansion f (suc r) =
    distinct_append (in_order expansion f r) (filter (is_added expansion f r) (numbers expansion f))
    (order_distinct expansion f r)
    (Distinct-filter (is_added expansion f r) (numbers expansion f) (Distinct-range 0 (length f.goals)))
    (λ n i j. true≢false (sym (has_order expansion f r n i) ∙ (from_added expansion f r n j).1))

pub used_distinct : (expansion : List Signed → Expansion) (f : Found) (n : ℕ) → Distinct (used_goals expansion f n)
used_distinct expansion f n =
    Distinct-filter (uses expansion f (length f.goals) n) (in_order expansion f (length f.goals))
    (order_distinct expansion f (length f.goals))

-- places

pub place_at_index : (xs : List ℕ) (i : ℕ) → Distinct xs → i < length xs → place_in xs (get_or xs i 0) ≡ i
place_at_index [] i d l = absurd (omega (arith, l))
place_at_index (x ∷ xs) zero d l = ap (λ b. cond b 0 (suc (place_in xs x))) (eq-eqb x x refl)
place_at_index (x ∷ xs) (suc i) d l =
    go (eqb_tells (get_or xs i 0) x) (place_at_index xs i d.1 (omega (arith, l))) where
      go : ((nat_eq (get_or xs i 0) x ≡ true) × (get_or xs i 0 ≡ x))
          ⊎ ((nat_eq (get_or xs i 0) x ≡ false) × (get_or xs i 0 ≢ x))
          → place_in xs (get_or xs i 0) ≡ i
          → cond (nat_eq (get_or xs i 0) x) 0 (suc (place_in xs (get_or xs i 0))) ≡ suc i
      go (inl (e, s)) h = absurd (d.0 (subst (λ z. IsIn z xs) s (in_at xs i 0 (omega (arith, l)))))
      go (inr (e, s)) h = ap (λ b. cond b 0 (suc (place_in xs (get_or xs i 0)))) e ∙ ap suc h

pub place_in_take : (xs : List ℕ) (i m : ℕ) → IsIn m xs → place_in xs m < i → IsIn m (take i xs)
place_in_take [] i m j l = absurd j
place_in_take (x ∷ xs) zero m j l = absurd (omega (arith, l))
place_in_take (x ∷ xs) (suc i) m j l = go (eqb_tells m x) j l (place_in_take xs i m) where
  go : ((nat_eq m x ≡ true) × (m ≡ x)) ⊎ ((nat_eq m x ≡ false) × (m ≢ x)) → (m ≡ x) ⊎ IsIn m xs
      → cond (nat_eq m x) 0 (suc (place_in xs m)) < suc i
      → (IsIn m xs → place_in xs m < i → IsIn m (take i xs)) → (m ≡ x) ⊎ IsIn m (take i xs)
  go (inl (e, s)) j l more = inl s
  go (inr (e, s)) (inl k) l more = absurd (s k)
  go (inr (e, s)) (inr k) l more =
      inr (more k (let q = ap (λ b. cond b 0 (suc (place_in xs m))) e in omega (arith, l, q)))

-- parts of goals that are numbered alike

module _ (words : ℕ → ℕ → List ℕ) (p q : ℕ → ℕ) where
  elements_agree : (ps : List NumberedPlaced) → ((x : NumberedPlaced) → IsIn x ps → p x.goal ≡ q x.goal)
      → map (λ x. p x.goal) ps ≡ map (λ x. q x.goal) ps
  elements_agree [] h = refl
  elements_agree (x ∷ ps) h = ap₂ (λ y ys. y ∷ ys) (h x (inl refl)) (elements_agree ps (λ y i. h y (inr i)))

  members_agree : (ps : List NumberedPlaced) → ((x : NumberedPlaced) → IsIn x ps → p x.goal ≡ q x.goal)
      → map (named words p) ps ≡ map (named words q) ps
  members_agree [] h = refl
  members_agree (x ∷ ps) h =
      ap₂ (λ y ys. (slot_name words x.slot, y) ∷ ys) (h x (inl refl)) (members_agree ps (λ y i. h y (inr i)))

  shape_agree : (s : Shape) (ps : List NumberedPlaced) → ((x : NumberedPlaced) → IsIn x ps → p x.goal ≡ q x.goal)
      → by_shape words p s ps ≡ by_shape words q s ps
  shape_agree Null ps h = refl
  shape_agree (Truth b) ps h = refl
  shape_agree (Number n) ps h = refl
  shape_agree Text ps h = refl
  shape_agree Elements ps h = ap P.array (elements_agree ps h)
  shape_agree Members ps h = ap (λ ms. P.object (sorted ms)) (members_agree ps h)

module _ (words : List Signed → Kind → ℕ → ℕ → ℕ → List ℕ) (expansion : List Signed → Expansion) (f : Found) where
  part_agree : (p q : ℕ → ℕ) (m : ℕ)
      → ((x : NumberedPlaced) → IsIn x (contents expansion f m) → p x.goal ≡ q x.goal)
      → part words expansion f p m ≡ part words expansion f q m
  part_agree p q m h = go (slice_get f.goals m) (chosen expansion f m) where
    go : (o : Option (List Signed)) (a : Option Numbered)
        → of_goal words expansion f p (contents expansion f m) o a
        ≡ of_goal words expansion f q (contents expansion f m) o a
    go None a = refl
    go (Some g) None = refl
    go (Some g) (Some a) = shape_agree (words g a.kind a.branch) p q a.shape (contents expansion f m) h

  module _ (n : ℕ) (reached : round expansion f (length f.goals) n ≡ true) where
    abbrev Used : List ℕ
    Used = used_goals expansion f n

    abbrev Place : ℕ → ℕ
    Place m = place_in (used_goals expansion f n) m

    -- the parts of the goals below place i, and their numbers
    pub record Made (i : ℕ) (made : List Part) (places : List ℕ) : Type 0 where
      pub parts : made ≡ map (part words expansion f (place_in (used_goals expansion f n))) (take i Used)
      pub numbers : (m : ℕ) → IsIn m (take i Used) → get_or places m 0 ≡ place_in (used_goals expansion f n) m

    pub none_made : (places : List ℕ) → Made 0 [] places
    none_made places = record { parts = refl; numbers = λ m i. absurd i }

    -- what the next goal contains has its number
    same_part : (i : ℕ) (made : List Part) (places : List ℕ) → i < length Used → Made i made places
        → part words expansion f (λ m. get_or places m 0) (get_or Used i 0)
        ≡ part words expansion f (place_in (used_goals expansion f n)) (get_or Used i 0)
    same_part i made places l h =
        let m = get_or Used i 0 in
        let (u, r) = in_used words expansion f n reached m (in_at Used i 0 l) in
        let e = entered expansion f (length f.goals) m r in
        part_agree (λ m. get_or places m 0) (place_in (used_goals expansion f n)) m (λ p j.
        let w = contents_used words expansion f n reached m u r e p j in
        let at = place_at_index Used i (used_distinct expansion f n) l in
        let b = w.before in
        h.numbers p.goal (place_in_take Used i p.goal (used_in words expansion f n reached p.goal w.used
        (rise_to expansion f e.q (length f.goals) p.goal (let few = e.few in omega (arith, few)) w.round_has))
        (omega (arith, b, at))))

    -- what holds of the parts below place i holds below place i + 1, with the part of the next goal
    pub made_on : (i : ℕ) (made more : List Part) (places next : List ℕ) (o : ℕ) → i < length Used → o ≡ get_or Used i 0
        → o < length places → Made i made places
        → more ≡ made ++ part words expansion f (λ m. get_or places m 0) o ∷ []
        → next ≡ set places o i → Made (i + 1) more next
    made_on i made more places next o l at low h e k = record {
      parts = e
          ∙ ap₂ (λ a b. a ++ b ∷ []) h.parts
          (ap (part words expansion f (λ m. get_or places m 0)) at ∙ same_part i made places l h)
          ∙ sym (map-append (part words expansion f (place_in (used_goals expansion f n))) (take i Used) (get_or
          Used i 0 ∷ []))
          ∙ ap (map (part words expansion f (place_in (used_goals expansion f n)))) (sym (take_more Used i 0 l));
      numbers = λ m j.
          ap (λ z. get_or z m 0) k
          ∙ go m (eqb_tells m o) (from_append m (take i Used) (get_or Used i 0 ∷ [])
          (subst (λ z. IsIn m z) (take_more Used i 0 l) j));
    } where
      own : place_in (used_goals expansion f n) o ≡ i
      own = ap Place at ∙ place_at_index Used i (used_distinct expansion f n) l

      go : (m : ℕ) → ((nat_eq m o ≡ true) × (m ≡ o)) ⊎ ((nat_eq m o ≡ false) × (m ≢ o))
          → IsIn m (take i Used) ⊎ IsIn m (get_or Used i 0 ∷ [])
          → get_or (set places o i) m 0 ≡ place_in (used_goals expansion f n) m
      go m (inl (t, s)) j =
          subst (λ z. get_or (set places o i) z 0 ≡ place_in (used_goals expansion f n) z) (sym s)
          (get_or-set_same places o i 0 low ∙ sym own)
      go m (inr (t, s)) (inl j) = get_or-set_other places o m i 0 s ∙ h.numbers m j
      go m (inr (t, s)) (inr (inl q)) = absurd (s (q ∙ sym at))
      go m (inr (t, s)) (inr (inr q)) = absurd q

    pub next_below : (i : ℕ) (made : List Part) (places : List ℕ) (o : ℕ) → i < length Used → o ≡ get_or Used i 0
        → Made i made places → first_forward i (part words expansion f (λ m. get_or places m 0) o) ≡ None
    next_below i made places o l at h =
        ap (λ z. first_forward i z) (ap (part words expansion f (λ m. get_or places m 0)) at ∙ same_part i made
        places l h)
        ∙ find-none_below i (P.named (part words expansion f (place_in (used_goals expansion f n)) (get_or Used i 0)))
        (subst (λ z. names_below z (part words expansion f (place_in (used_goals expansion f n)) (get_or Used i 0))
        ≡ true)
        (place_at_index Used i (used_distinct expansion f n) l)
        (part_below words expansion f n reached (get_or Used i 0) (in_at Used i 0 l)))
