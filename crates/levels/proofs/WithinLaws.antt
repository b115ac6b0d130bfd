-- The key lemma: two families of conditions that require the same are met alike, where ranks fall in place in one of
-- them; more steps change nothing. The conditions that are spoken of need only be closed.
use Rattle.std.proofs.Common.{◌≡◌, ℕ, zero, suc, ◌<◌, ◌≤◌, List, [], ◌∷◌, Bool, refl, sym, ◌∙◌, arith}
use Rattle.std.specs.List.{AllByRecursion}
use Rattle.documents.specs.Document.{Document, depth}
use Rattle.levels.specs.Levels.{met_here, met_below, is_met}
use Rattle.levels.specs.Within.{RankedWithin, AreAlike}
use Rattle.levels.proofs.LevelsLaws.{everywhere}

-- what follows from two facts of each element
both_weaker : {A : Type 0} (P Q R : A → Type 0) (xs : List A) → ((x : A) → P x → Q x → R x) → AllByRecursion P xs
    → AllByRecursion Q xs → AllByRecursion R xs
both_weaker P Q R [] f h k = tt
both_weaker P Q R (x ∷ xs) f h k = (f x h.0 k.0, both_weaker P Q R xs f h.1 k.1)

module _ {M N : Type 0} (asks : (M → Bool) → (M → Document → Bool) → M → Document → Bool)
    (asks' : (N → Bool) → (N → Document → Bool) → N → Document → Bool) (at : M → N) (IsIn : M → Type 0)
    (in_place : M → List M) (alike : AreAlike asks asks' at IsIn in_place)
    (steps steps' : ℕ) (rank : M → ℕ) (r : RankedWithin IsIn in_place steps rank)
    (within : (p : M) → IsIn p → rank p < steps') where
  here_alike : (below : M → Document → Bool) (below' : N → Document → Bool) (n m : ℕ) (p : M) (J : Document) → IsIn p
      → rank p < n → rank p < m
      → ((q : M) (K : Document) → IsIn q → depth K < depth J → below q K ≡ below' (at q) K)
      → met_here asks steps below n p J ≡ met_here asks' steps' below' m (at p) J
  here_alike below below' zero m p J i a b h = absurd (omega arith)
  here_alike below below' (suc n) zero p J i a b h = absurd (omega arith)
  here_alike below below' (suc n) (suc m) p J i a b h =
      alike (λ q. met_here asks steps below n q J) (λ q. met_here asks' steps' below' m q J) below below' p J i
      (both_weaker (λ q. rank q < rank p) IsIn _ (in_place p)
      (λ q l k. here_alike below below' n m q J k (omega arith) (omega arith) h) (r.falls p i) (r.closed p i))
      h

  below_alike : (d e : ℕ) (p : M) (J : Document) → IsIn p → depth J < d → depth J < e
      → met_below asks steps d p J ≡ met_below asks' steps' e (at p) J
  below_alike zero e p J i a b = absurd (omega arith)
  below_alike (suc d) zero p J i a b = absurd (omega arith)
  below_alike (suc d) (suc e) p J i a b =
      here_alike (met_below asks steps d) (met_below asks' steps' e) steps steps' p J i (r.bounded p i) (within p i)
      (λ q K k l. below_alike d e q K k (omega arith) (omega arith))

  -- a document meets a condition exactly where it meets the one at its place
  pub is_met-alike : (p : M) (J : Document) → IsIn p → is_met asks steps p J ≡ is_met asks' steps' (at p) J
  unfolding is_met
  is_met-alike p J i = below_alike (suc (depth J)) (suc (depth J)) p J i (omega arith) (omega arith)

module _ {M : Type 0} (asks : (M → Bool) → (M → Document → Bool) → M → Document → Bool) (IsIn : M → Type 0)
    (in_place : M → List M) (local : AreAlike asks asks (λ p. p) IsIn in_place)
    (steps : ℕ) (rank : M → ℕ) (r : RankedWithin IsIn in_place steps rank) where
  -- more steps change nothing
  pub is_met-more : (more : ℕ) (p : M) (J : Document) → steps ≤ more → IsIn p
      → is_met asks more p J ≡ is_met asks steps p J
  is_met-more more p J le i =
      sym (is_met-alike asks asks (λ p. p) IsIn in_place local steps more rank r
      (λ q k. let less = r.bounded q k in omega (arith, less, le)) p J i)

  -- the equation of the conditions that are in
  pub is_met-within : (p : M) (J : Document) → IsIn p
      → is_met asks steps p J ≡ asks (λ q. is_met asks steps q J) (is_met asks steps) p J
  unfolding is_met
  is_met-within p J i =
      let less = r.bounded p i in
      here_alike asks asks (λ q. q) IsIn in_place local steps steps rank r r.bounded
      (met_below asks steps (depth J)) (met_below asks steps (depth J)) steps (suc steps) p J i less
      (omega (arith, less)) (λ q K k l. refl)
      ∙ local (λ q. is_met asks steps q J) (λ q. is_met asks steps q J) (met_below asks steps (depth J))
      (is_met asks steps) p J i (everywhere _ (in_place p) (λ q. refl))
      (λ q K k l. below_alike asks asks (λ q. q) IsIn in_place local steps steps rank r r.bounded (depth J)
      (suc (depth K)) q K k l (omega arith))

  unique_in : (m : M → Document → Bool)
      → ((p : M) (J : Document) → IsIn p → m p J ≡ asks (λ q. m q J) m p J)
      → (d n : ℕ) (p : M) (J : Document) → IsIn p → depth J < d → rank p < n → m p J ≡ is_met asks steps p J
  unique_in m eq zero n p J i a b = absurd (omega arith)
  unique_in m eq (suc d) zero p J i a b = absurd (omega arith)
  unique_in m eq (suc d) (suc n) p J i a b =
      eq p J i
      ∙ local (λ q. m q J) (λ q. is_met asks steps q J) m (is_met asks steps) p J i
      (both_weaker (λ q. rank q < rank p) IsIn _ (in_place p)
      (λ q l k. unique_in m eq (suc d) n q J k a (omega arith)) (r.falls p i) (r.closed p i))
      (λ q K k l. unique_in m eq d steps q K k (omega arith) (r.bounded q k))
      ∙ sym (is_met-within p J i)

  -- any meaning that keeps the equation is this one
  pub is_met-only : (m : M → Document → Bool)
      → ((p : M) (J : Document) → IsIn p → m p J ≡ asks (λ q. m q J) m p J)
      → (p : M) (J : Document) → IsIn p → m p J ≡ is_met asks steps p J
  is_met-only m eq p J i = unique_in m eq (suc (depth J)) steps p J i (omega arith) (r.bounded p i)
