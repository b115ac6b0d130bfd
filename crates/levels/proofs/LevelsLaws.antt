-- The key lemma: a meaning read by levels and steps keeps its one-step equation, and is the only one that does.
use Rattle.std.proofs.Common.{◌≡◌, ℕ, zero, suc, ◌<◌, ◌≤◌, List, [], ◌∷◌, Bool, length, refl, ap, sym, ◌∙◌, arith}
use Rattle.std.specs.List.{AllByRecursion}
use Rattle.documents.specs.Document.{Document, depth}
use Rattle.levels.specs.Levels.{met_here, met_below, is_met, Ranked, IsLocal}

pub weaker : {A : Type 0} (P Q : A → Type 0) (xs : List A) → ((x : A) → P x → Q x) → AllByRecursion P xs
    → AllByRecursion Q xs
weaker P Q [] f h = tt
weaker P Q (x ∷ xs) f h = (f x h.0, weaker P Q xs f h.1)

pub everywhere : {A : Type 0} (P : A → Type 0) (xs : List A) → ((x : A) → P x) → AllByRecursion P xs
everywhere P [] f = tt
everywhere P (x ∷ xs) f = (f x, everywhere P xs f)

module _ {N : Type 0} (asks : (N → Bool) → (N → Document → Bool) → N → Document → Bool) (in_place : N → List N)
    (local : IsLocal asks in_place) (steps : ℕ) (rank : N → ℕ) (r : Ranked in_place steps rank) where
  -- more steps than the rank change nothing
  here_same : (below : N → Document → Bool) (n m : ℕ) (p : N) (J : Document) → rank p < n → rank p < m
      → met_here asks steps below n p J ≡ met_here asks steps below m p J
  here_same below zero m p J a b = absurd (omega arith)
  here_same below (suc n) zero p J a b = absurd (omega arith)
  here_same below (suc n) (suc m) p J a b =
      local (λ q. met_here asks steps below n q J) (λ q. met_here asks steps below m q J) below below p J
      (weaker (λ q. rank q < rank p) _ (in_place p) (λ q l. here_same below n m q J (omega arith) (omega arith))
      (r.falls p))
      (λ q K l. refl)

  -- only what documents of lesser depth meet is looked at
  below_same : (below below' : N → Document → Bool) (n : ℕ) (p : N) (J : Document)
      → ((q : N) (K : Document) → depth K < depth J → below q K ≡ below' q K)
      → met_here asks steps below n p J ≡ met_here asks steps below' n p J
  below_same below below' zero p J h = refl
  below_same below below' (suc n) p J h =
      local (λ q. met_here asks steps below n q J) (λ q. met_here asks steps below' n q J) below below' p J
      (everywhere _ (in_place p) (λ q. below_same below below' n q J h)) h

  levels_same : (d e : ℕ) (p : N) (J : Document) → depth J < d → depth J < e
      → met_below asks steps d p J ≡ met_below asks steps e p J
  levels_same zero e p J a b = absurd (omega arith)
  levels_same (suc d) zero p J a b = absurd (omega arith)
  levels_same (suc d) (suc e) p J a b =
      below_same (met_below asks steps d) (met_below asks steps e) steps p J
      (λ q K l. levels_same d e q K (omega arith) (omega arith))

  -- the equation of the conditions: all that later proofs need
  pub is_met-asks : (p : N) (J : Document) → is_met asks steps p J ≡ asks (λ q. is_met asks steps q J)
      (is_met asks steps) p J
  unfolding is_met
  is_met-asks p J =
      here_same (met_below asks steps (depth J)) steps (suc steps) p J (r.bounded p) (omega (arith, r.bounded p))
      ∙ local (λ q. is_met asks steps q J) (λ q. is_met asks steps q J) (met_below asks steps (depth J))
      (is_met asks steps) p J
      (everywhere _ (in_place p) (λ q. refl)) (λ q K l. levels_same (depth J) (suc (depth K)) q K l (omega arith))

  unique_within : (m : N → Document → Bool) → ((p : N) (J : Document) → m p J ≡ asks (λ q. m q J) m p J)
      → (d n : ℕ) (p : N) (J : Document) → depth J < d → rank p < n → m p J ≡ is_met asks steps p J
  unfolding is_met
  unique_within m eq zero n p J a b = absurd (omega arith)
  unique_within m eq (suc d) zero p J a b = absurd (omega arith)
  unique_within m eq (suc d) (suc n) p J a b =
      eq p J
      ∙ local (λ q. m q J) (λ q. is_met asks steps q J) m (is_met asks steps) p J
      (weaker (λ q. rank q < rank p) _ (in_place p) (λ q l. unique_within m eq (suc d) n q J a (omega arith))
      (r.falls p))
      (λ q K l. unique_within m eq d steps q K (omega arith) (r.bounded q))
      ∙ sym (is_met-asks p J)

  -- any meaning that keeps the equation is this one
  pub is_met-unique : (m : N → Document → Bool) → ((p : N) (J : Document) → m p J ≡ asks (λ q. m q J) m p J)
      → (p : N) (J : Document) → m p J ≡ is_met asks steps p J
  is_met-unique m eq p J = unique_within m eq (suc (depth J)) steps p J (omega arith) (r.bounded p)
