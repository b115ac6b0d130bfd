-- The parts of a goal stand for the documents of the goals that it uses, and each names parts below its own.
use Rattle.std.proofs.Common.{◌≡◌, ℕ, zero, suc, ◌≤◌, ◌<◌, ◌⊎◌, inl, inr, List, [], ◌∷◌, ◌++◌, map, filter, length, get_or, Bool, true, false, cond, nat_eq, nat_lt, Option, Some, None, slice_get, refl, ap, ap₂, sym, ◌∙◌, arith, true≢false, eqb-true, eq-eqb, length-append}
use Rattle.std.proofs.lemmas.Bool.{and_parts, and_from, lt-ltb}
use Rattle.std.proofs.lemmas.List.Elements.{filter-append}
use Rattle.documents.specs.Tests.{every, comes_before}
use Rattle.documents.specs.Kind.{Kind}
use Rattle.documents.specs.Document as D
use Rattle.documents.specs.Document.{Document, items_of, members_of}
use Rattle.goals.specs.Signed.{Signed}
use Rattle.list_laws.specs.In.{IsIn}
use Rattle.list_laws.proofs.Lists.{every_from, in_filter}
use Rattle.list_laws.proofs.Tests.{from_filter}
use Rattle.shared_documents.specs.Part as P
use Rattle.shared_documents.specs.Part.{Part, part_at, names_below}
use Rattle.shared_documents.specs.Unshared.{built, unshared_within, unshared}
use Rattle.alternatives.specs.Alternative.{Shape, Null, Truth, Number, Text, Elements, Members}
use Rattle.alternatives.specs.Expansion.{Expansion}
use Rattle.expansions.specs.SortedMembers as M
use Rattle.expansions.specs.DocumentOf as O
use Rattle.search.specs.Explored.{Found}
use Rattle.search.specs.Rounds.{NumberedPlaced, Numbered, alternatives_of, round}
use Rattle.search.specs.Documents.{document}
use Rattle.search.specs.Uses.{contents_of, in_order, round_before, chosen_in, chosen, contents_in, contents, uses, used_goals}
use Rattle.search.specs.Witness.{put, sorted, place_in, named, by_shape, of_goal, part, parts}
use Rattle.search_laws.proofs.Settled.{settled, rise_to}
use Rattle.search_laws.proofs.Answers.{Enters}
use Rattle.search_laws.proofs.Built.{placed_document, IsBuilt, answer_builds, document_stays}
use Rattle.search_laws.proofs.Used.{Entered, entered, entered_by, contents_below, used_on, used_itself, order_has, has_order, beyond_to, used_last}

-- places

place_left : (c : ℕ) (xs ys : List ℕ) → IsIn c xs → place_in (xs ++ ys) c < length xs
place_left c [] ys i = absurd i
place_left c (x ∷ xs) ys i = go (nat_eq c x) refl i (place_left c xs ys) where
  go : (b : Bool) → nat_eq c x ≡ b → (c ≡ x) ⊎ IsIn c xs → (IsIn c xs → place_in (xs ++ ys) c < length xs)
      → cond b 0 (suc (place_in (xs ++ ys) c)) < suc (length xs)
  go true e i more = omega arith
  go false e (inl s) more = absurd (true≢false (sym (eq-eqb c x s) ∙ e))
  go false e (inr j) more = let l = more j in omega (arith, l)

place_right : (m : ℕ) (xs ys : List ℕ) → (IsIn m xs → ⊥) → length xs ≤ place_in (xs ++ ys) m
place_right m [] ys h = omega arith
place_right m (x ∷ xs) ys h = go (nat_eq m x) refl (place_right m xs ys (λ i. h (inr i))) where
  go : (b : Bool) → nat_eq m x ≡ b → length xs ≤ place_in (xs ++ ys) m
      → suc (length xs) ≤ cond b 0 (suc (place_in (xs ++ ys) m))
  go true e l = absurd (h (inl (eqb-true m x e)))
  go false e l = omega (arith, l)

place_end : (m : ℕ) (xs : List ℕ) → (IsIn m xs → ⊥) → place_in (xs ++ m ∷ []) m ≡ length xs
place_end m [] h = ap (λ b. cond b 0 (suc 0)) (eq-eqb m m refl)
place_end m (x ∷ xs) h = go (nat_eq m x) refl (place_end m xs (λ i. h (inr i))) where
  go : (b : Bool) → nat_eq m x ≡ b → place_in (xs ++ m ∷ []) m ≡ length xs
      → cond b 0 (suc (place_in (xs ++ m ∷ []) m)) ≡ suc (length xs)
  go true e l = absurd (h (inl (eqb-true m x e)))
  go false e l = ap suc l

pub part_placed : (h : ℕ → Part) (xs : List ℕ) (m : ℕ) → IsIn m xs → part_at (map h xs) (place_in xs m) ≡ h m
part_placed h [] m i = absurd i
part_placed h (x ∷ xs) m i = go (nat_eq m x) refl i (part_placed h xs m) where
  go : (b : Bool) → nat_eq m x ≡ b → (m ≡ x) ⊎ IsIn m xs
      → (IsIn m xs → part_at (map h xs) (place_in xs m) ≡ h m)
      → get_or (h x ∷ map h xs) (cond b 0 (suc (place_in xs m))) P.null ≡ h m
  go true e i more = ap h (sym (eqb-true m x e))
  go false e (inl s) more = absurd (true≢false (sym (eq-eqb m x s) ∙ e))
  go false e (inr j) more = more j

-- shapes

module _ (U : ℕ → Document) where
  abbrev With : List ℕ × ℕ → List ℕ × Document
  With m = (m.0, U m.1)

  put_same : (k : List ℕ) (i : ℕ) (ms : List (List ℕ × ℕ))
      → members_of (map (λ m. (m.0, U m.1)) (put k i ms)) ≡ M.put k (U i) (members_of (map (λ m. (m.0, U m.1)) ms))
  put_same k i [] = refl
  put_same k i (m ∷ ms) = go (comes_before k m.0) (put_same k i ms) where
    go : (b : Bool)
        → members_of (map (λ m. (m.0, U m.1)) (put k i ms)) ≡ M.put k (U i) (members_of (map (λ m. (m.0, U m.1)) ms))
        → members_of (map (λ m. (m.0, U m.1)) (cond b ((k, i) ∷ m ∷ ms) (m ∷ put k i ms)))
        ≡ cond b (D.member k (U i) (D.member m.0 (U m.1) (members_of (map (λ m. (m.0, U m.1)) ms))))
        (D.member m.0 (U m.1) (M.put k (U i) (members_of (map (λ m. (m.0, U m.1)) ms))))
    go true e = refl
    go false e = ap (D.member m.0 (U m.1)) e

  sorted_same : (ms : List (List ℕ × ℕ))
      → members_of (map (λ m. (m.0, U m.1)) (sorted ms)) ≡ M.sorted (map (λ m. (m.0, U m.1)) ms)
  sorted_same [] = refl
  sorted_same (m ∷ ms) = put_same m.0 m.1 (sorted ms) ∙ ap (M.put m.0 (U m.1)) (sorted_same ms)

  module _ (words : ℕ → ℕ → List ℕ) (place : ℕ → ℕ) (V : ℕ → Document) where
    elements_same : (ps : List NumberedPlaced) → ((p : NumberedPlaced) → IsIn p ps → U (place p.goal) ≡ V p.goal)
        → map U (map (λ p. place p.goal) ps) ≡ map (λ s. s.1) (map (placed_document V) ps)
    elements_same [] h = refl
    elements_same (p ∷ ps) h = ap₂ (λ x xs. x ∷ xs) (h p (inl refl)) (elements_same ps (λ q i. h q (inr i)))

    members_same : (ps : List NumberedPlaced) → ((p : NumberedPlaced) → IsIn p ps → U (place p.goal) ≡ V p.goal)
        → map (λ m. (m.0, U m.1)) (map (named words place) ps) ≡ map (O.with_name words) (map (placed_document V) ps)
    members_same [] h = refl
    members_same (p ∷ ps) h =
        ap₂ (λ x xs. (O.slot_name words p.slot, x) ∷ xs) (h p (inl refl)) (members_same ps (λ q i. h q (inr i)))

    -- a part stands for the document of its shape, where what it names stands for what is in it
    pub shape_same : (s : Shape) (ps : List NumberedPlaced)
        → ((p : NumberedPlaced) → IsIn p ps → U (place p.goal) ≡ V p.goal)
        → built U (by_shape words place s ps) ≡ O.by_shape words s (map (placed_document V) ps)
    shape_same Null ps h = refl
    shape_same (Truth b) ps h = refl
    shape_same (Number n) ps h = refl
    shape_same Text ps h = refl
    shape_same Elements ps h = ap (λ ds. D.array (items_of ds)) (elements_same ps h)
    shape_same Members ps h =
        ap D.object (sorted_same (map (named words place) ps) ∙ ap M.sorted (members_same ps h))

-- what a part names

module _ (low : ℕ → Bool) where
  put_low : (k : List ℕ) (i : ℕ) (ms : List (List ℕ × ℕ)) → low i ≡ true → every low (map (λ m. m.1) ms) ≡ true
      → every low (map (λ m. m.1) (put k i ms)) ≡ true
  put_low k i [] e h = and_from (low i) true e refl
  put_low k i (m ∷ ms) e h =
      let (a, b) = and_parts (low m.1) (every low (map (λ m. m.1) ms)) h in
      go (comes_before k m.0) a (put_low k i ms e b) where
        go : (t : Bool) → low m.1 ≡ true → every low (map (λ m. m.1) (put k i ms)) ≡ true
            → every low (map (λ m. m.1) (cond t ((k, i) ∷ m ∷ ms) (m ∷ put k i ms))) ≡ true
        go true a more = and_from (low i) (every low (map (λ m. m.1) (m ∷ ms))) e h
        go false a more = and_from (low m.1) (every low (map (λ m. m.1) (put k i ms))) a more

  sorted_low : (ms : List (List ℕ × ℕ)) → every low (map (λ m. m.1) ms) ≡ true
      → every low (map (λ m. m.1) (sorted ms)) ≡ true
  sorted_low [] h = refl
  sorted_low (m ∷ ms) h =
      let (a, b) = and_parts (low m.1) (every low (map (λ m. m.1) ms)) h in
      put_low m.0 m.1 (sorted ms) a (sorted_low ms b)

  module _ (words : ℕ → ℕ → List ℕ) (place : ℕ → ℕ) where
    elements_low : (ps : List NumberedPlaced) → every (λ p. low (place p.goal)) ps ≡ true
        → every low (map (λ p. place p.goal) ps) ≡ true
    elements_low [] e = refl
    elements_low (p ∷ ps) e =
        let (a, b) = and_parts (low (place p.goal)) (every (λ p. low (place p.goal)) ps) e in
        and_from (low (place p.goal)) (every low (map (λ p. place p.goal) ps)) a (elements_low ps b)

    members_low : (ps : List NumberedPlaced) → every (λ p. low (place p.goal)) ps ≡ true
        → every low (map (λ m. m.1) (map (named words place) ps)) ≡ true
    members_low [] e = refl
    members_low (p ∷ ps) e =
        let (a, b) = and_parts (low (place p.goal)) (every (λ p. low (place p.goal)) ps) e in
        and_from (low (place p.goal)) (every low (map (λ m. m.1) (map (named words place) ps))) a (members_low ps b)

    shape_low : (s : Shape) (ps : List NumberedPlaced) → every (λ p. low (place p.goal)) ps ≡ true
        → every low (P.named (by_shape words place s ps)) ≡ true
    shape_low Null ps e = refl
    shape_low (Truth b) ps e = refl
    shape_low (Number n) ps e = refl
    shape_low Text ps e = refl
    shape_low Elements ps e = elements_low ps e
    shape_low Members ps e = sorted_low (map (named words place) ps) (members_low ps e)

module _ (words : List Signed → Kind → ℕ → ℕ → ℕ → List ℕ) (expansion : List Signed → Expansion) (f : Found) (n : ℕ)
    (reached : round expansion f (length f.goals) n ≡ true) where
  abbrev Round : ℕ → ℕ → Bool
  Round r m = round expansion f r m

  abbrev Count : ℕ
  Count = length f.goals

  abbrev Goals : List ℕ
  Goals = used_goals expansion f n

  abbrev Place : ℕ → ℕ
  Place m = place_in (used_goals expansion f n) m

  -- a goal of a round comes before one that the round lacks
  place_before : (q c m : ℕ) → q ≤ Count → uses expansion f Count n c ≡ true → Round q c ≡ true → Round q m ≡ false
      → Place c < Place m
  place_before q c m l u e h =
      let b = beyond_to expansion f q Count l in
      let low = filter (uses expansion f Count n) (in_order expansion f q) in
      let high = filter (uses expansion f Count n) b.rest in
      let split : used_goals expansion f n ≡ low ++ high =
      ap (filter (uses expansion f Count n)) b.is ∙ filter-append (uses expansion f Count n) (in_order expansion f
      q) b.rest
      in
      let left : place_in (low ++ high) c < length low =
      place_left c low high (in_filter (uses expansion f Count n) c (in_order expansion f q) (order_has expansion f
      q c e) u)
      in
      let right : length low ≤ place_in (low ++ high) m =
      place_right m low high (λ i. lacks (from_filter (uses expansion f Count n) m (in_order expansion f q) i))
      in
      let a = ap (λ l. place_in l c) split in
      let d = ap (λ l. place_in l m) split in
      omega (arith, left, right, a, d)
    where
      lacks : IsIn m (in_order expansion f q) × (uses expansion f Count n m ≡ true) → ⊥
      lacks (i, u) = true≢false (sym (has_order expansion f q m i) ∙ h)

  pub used_in : (m : ℕ) → uses expansion f Count n m ≡ true → Round Count m ≡ true → IsIn m Goals
  used_in m u e =
      in_filter (uses expansion f Count n) m (in_order expansion f Count) (order_has expansion f Count m e) u

  pub in_used : (m : ℕ) → IsIn m Goals → (uses expansion f Count n m ≡ true) × (Round Count m ≡ true)
  in_used m i =
      let (j, u) = from_filter (uses expansion f Count n) m (in_order expansion f Count) i in
      (u, has_order expansion f Count m j)

  -- what a used goal contains
  pub record Within (m : ℕ) (e : Entered expansion f m) (p : NumberedPlaced) : Type 0 where
    pub used : uses expansion f Count n p.goal ≡ true
    pub round_has : Round e.q p.goal ≡ true
    pub before : Place p.goal < Place m

  pub contents_used : (m : ℕ) → uses expansion f Count n m ≡ true → Round Count m ≡ true → (e : Entered expansion f m)
      → (p : NumberedPlaced) → IsIn p (contents expansion f m) → Within m e p
  contents_used m u r e p i =
      let h = contents_below expansion f Count m r e p i in
      let k = used_on expansion f n m p reached u i in
      let x : Enters expansion f m e.q e.place = e.enters in
      let few = e.few in
      record {
        used = k;
        round_has = h;
        before = place_before e.q p.goal m (omega (arith, few)) k h x.before;
      }

  -- each part names parts below its own
  pub part_below : (m : ℕ) → IsIn m Goals → names_below (Place m) (part words expansion f Place m) ≡ true
  part_below m i =
      let (u, r) = in_used m i in
      let e = entered expansion f Count m r in
      go (slice_get f.goals m) (chosen expansion f m)
      (every_from (λ p. nat_lt (Place p.goal) (Place m)) (contents expansion f m)
      (λ p j. let w = contents_used m u r e p j in lt-ltb (Place p.goal) (Place m) w.before)) where
        go : (o : Option (List Signed)) (a : Option Numbered)
            → every (λ p. nat_lt (Place p.goal) (Place m)) (contents expansion f m) ≡ true
            → names_below (Place m) (of_goal words expansion f Place (contents expansion f m) o a) ≡ true
        go None a h = refl
        go (Some g) None h = refl
        go (Some g) (Some a) h =
            shape_low (λ x. nat_lt x (Place m)) (words g a.kind a.branch) Place a.shape (contents expansion f m) h

  -- each part stands for the document of its goal

  abbrev Doc : ℕ → ℕ → Document
  Doc r m = document words expansion f r m

  abbrev Claim : ℕ → Type 0
  Claim r = (m k : ℕ) → Round r m ≡ true → uses expansion f Count n m ≡ true → Place m < k
      → unshared_within (parts words expansion f n) k (Place m) ≡ Doc Count m

  one : (m k : ℕ) → Round Count m ≡ true → uses expansion f Count n m ≡ true → Place m ≤ k → (e : Entered expansion f m)
      → ((p : NumberedPlaced) → IsIn p (contents expansion f m)
      → unshared_within (parts words expansion f n) k (Place p.goal) ≡ Doc e.q p.goal)
      → unshared_within (parts words expansion f n) (suc k) (Place m) ≡ Doc Count m
  one m k r u l e h =
      let b : IsBuilt words expansion f e.q m e.place (Doc Count m) =
      answer_builds words expansion f Count e.q m e.place e.is in
      let chosen_is : chosen expansion f m ≡ Some b.alternative =
      ap (chosen_in (alternatives_of expansion f m)) e.is ∙ b.is in
      let inside : contents expansion f m ≡ contents_of (round expansion f e.q) b.alternative =
      ap₂ (λ r o. contents_in expansion f (round_before r) o) e.is chosen_is in
      ap (built (unshared_within (parts words expansion f n) k))
      (part_placed (part words expansion f Place) Goals m (used_in m u r)
      ∙ ap₂ (λ g a. of_goal words expansion f Place (contents expansion f m) g a) b.at chosen_is)
      ∙ shape_same (unshared_within (parts words expansion f n) k)
      (words b.goal b.alternative.kind b.alternative.branch) Place (document words expansion f e.q) b.alternative.shape
      (contents expansion f m) h
      ∙ ap (λ ps. O.by_shape (words b.goal b.alternative.kind b.alternative.branch) b.alternative.shape
      (map (placed_document (document words expansion f e.q)) ps)) inside
      ∙ sym b.same

  next : (r : ℕ) → Claim r → Claim (suc r)
  next r claim m zero h u l = absurd (omega (arith, l))
  next r claim m (suc k) h u l =
      let e = entered expansion f (suc r) m h in
      let all : Round Count m ≡ true = settled expansion f (suc r) m h in
      let low : suc e.q ≤ suc r = entered_by expansion f (suc r) m h e in
      let few = e.few in
      one m k all u (omega (arith, l)) e (λ p i.
      let w = contents_used m u all e p i in
      let b = w.before in
      claim p.goal k (rise_to expansion f e.q r p.goal (omega (arith, low)) w.round_has) w.used (omega (arith, b, l))
      ∙ document_stays words expansion f e.q Count p.goal (omega (arith, few)) w.round_has)

  none : Claim zero
  none m k h u l = cc

  claims : (r : ℕ) → Claim r
  claims zero = none
  claims (suc r) = next r (claims r)

  pub parts_stand : (m : ℕ) → IsIn m Goals → unshared (parts words expansion f n) (Place m) ≡ Doc Count m
  unfolding unshared
  parts_stand m i = let (u, r) = in_used m i in claims Count m (suc (Place m)) r u (omega arith)

  -- the last part is that of the goal itself
  pub used_own : IsIn n Goals
  used_own = used_in n (used_itself expansion f n) reached

  -- the part of the goal itself is the last one
  pub place_last : suc (Place n) ≡ length Goals
  place_last =
      let e = entered expansion f Count n reached in
      let x : Enters expansion f n e.q e.place = e.enters in
      let low = filter (uses expansion f Count n) (in_order expansion f e.q) in
      let last = used_last expansion f n reached e in
      let own : place_in (low ++ n ∷ []) n ≡ length low =
      place_end n low (λ i. lacks e.q x.before (from_filter (uses expansion f Count n) n (in_order expansion f e.q) i))
      in
      let a = ap (λ l. place_in l n) last in
      let b = ap length last in
      omega (arith, own, a, b, length-append low (n ∷ []))
    where
      lacks : (q : ℕ) → Round q n ≡ false → IsIn n (in_order expansion f q) × (uses expansion f Count n n ≡ true) → ⊥
      lacks q h (i, u) = true≢false (sym (has_order expansion f q n i) ∙ h)
