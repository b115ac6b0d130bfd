-- The key lemma of repeats: what the rounds of a walk have marked, and that nothing is left once a round marks no more.
use Rattle.std.proofs.Common.{◌≡◌, ℕ, zero, suc, ◌+◌, ◌-◌, ◌≤◌, ◌⊎◌, inl, inr, List, [], ◌∷◌, Bool, true, false, ◌||◌, ◌&&◌, not, Option, Some, None, option_map, IfSome, refl, sym, ap, subst, ◌∙◌, arith, true≢false}
use Rattle.patterns.specs.Match.{Repeats}
use Rattle.js_match.specs.Places.{is_at, IsAt, Leads, More, marked, is_open}
use Rattle.js_match.proofs.LeadsLaws.{or_left_true, or_right_true, repeats_last, repeats_before}
use Rattle.std.proofs.lemmas.Bool.{and_parts}

-- so many steps have been taken for sure
abbrev pub AreTaken : Option ℕ → Option ℕ → ℕ → Type 0
AreTaken (Some m) (Some l) r = r + l ≤ m
AreTaken _ _ r = r ≡ 0

-- no more than so many steps can have been taken
abbrev pub CanBeTaken : Option ℕ → Option ℕ → ℕ → Type 0
CanBeTaken (Some m) (Some l) r = r + l ≤ m
CanBeTaken (Some m) None r = ⊥
CanBeTaken None (Some l) r = ⊥
CanBeTaken None None r = Unit {0}

-- what is left of the most steps
abbrev pub IsLeft : Option ℕ → Option ℕ → Type 0
IsLeft (Some m) (Some l) = l ≤ m
IsLeft None None = Unit {0}
IsLeft _ _ = ⊥

pub record IsRound (Step : ℕ → ℕ → Type 0) (most : Option ℕ) (starts : List ℕ) (left : Option ℕ) (marks : List Bool)
    (fresh : List ℕ) : Type 0 where
  pub remains : IsLeft most left
  pub kept : (j : ℕ) → IsAt j fresh → marked marks j ≡ true
  pub begun : (j : ℕ) → IsAt j starts → marked marks j ≡ true
  pub explored : (h j : ℕ) → marked marks h ≡ true → Step h j → IsAt h fresh ⊎ (marked marks j ≡ true)
  pub sound : (j : ℕ) → marked marks j ≡ true
      → (i : ℕ) × IsAt i starts × (r : ℕ) × CanBeTaken most left r × Repeats Step r i j
  pub complete : (i j r : ℕ) → IsAt i starts → Repeats Step r i j → AreTaken most left r → marked marks j ≡ true

taken_first : (most : Option ℕ) → CanBeTaken most most 0
taken_first None = tt
taken_first (Some m) = omega arith

left_first : (most : Option ℕ) → IsLeft most most
left_first None = tt
left_first (Some m) = omega arith

none_first : (most : Option ℕ) (r : ℕ) → AreTaken most most r → r ≡ 0
none_first None r h = h
none_first (Some m) r h = omega (arith, h)

abbrev is_none_left : Option ℕ → Bool
is_none_left None = false
is_none_left (Some zero) = true
is_none_left (Some (suc n)) = false

abbrev is_nothing : Option ℕ → Bool
is_nothing None = true
is_nothing (Some n) = false

no_step : (Step : ℕ → ℕ → Type 0) (r i j : ℕ) → r ≡ 0 → Repeats Step r i j → i ≡ j
no_step Step zero i j e h = h
no_step Step (suc r) i j e h = absurd (omega (arith, e))

pub open-left : (fresh : List ℕ) (left : Option ℕ) → is_open fresh left ≡ true → left ≡ Some 0 → ⊥
open-left [] left h e = true≢false (sym h)
open-left (x ∷ xs) None h e = true≢false (ap is_nothing e)
open-left (x ∷ xs) (Some zero) h e = true≢false (sym h)
open-left (x ∷ xs) (Some (suc n)) h e = true≢false (sym (ap is_none_left e))

pub open-not : (fresh : List ℕ) (left : Option ℕ) → is_open fresh left ≡ false → (fresh ≡ []) ⊎ (left ≡ Some 0)
open-not [] left h = inl refl
open-not (x ∷ xs) None h = absurd (true≢false h)
open-not (x ∷ xs) (Some zero) h = inr refl
open-not (x ∷ xs) (Some (suc n)) h = absurd (true≢false h)

module _ (Step : ℕ → ℕ → Type 0) (most : Option ℕ) (starts : List ℕ) where
  pub round-first : (marks : List Bool) (fresh : List ℕ) → ((j : ℕ) → marked marks j ≡ is_at j starts)
      → ((j : ℕ) → is_at j fresh ≡ is_at j starts) → IsRound Step most starts most marks fresh
  round-first marks fresh m f = record {
    remains = left_first most;
    kept = λ j h. m j ∙ sym (f j) ∙ h;
    begun = λ j h. m j ∙ h;
    explored = λ h j a s. inl (f h ∙ sym (m h) ∙ a);
    sound = λ j h. (j, sym (m j) ∙ h, 0, taken_first most, refl);
    complete = λ i j r h s t. m j ∙ subst (λ z. IsAt z starts) (no_step Step r i j (none_first most r t) s) h;
  }

  left_next : (left : Option ℕ) → IsLeft most left → IsLeft most (option_map (λ n. n - 1) left)
  left_next = go most
    where
      go : (most left : Option ℕ) → IsLeft most left → IsLeft most (option_map (λ n. n - 1) left)
      go None None h = tt
      go None (Some l) h = absurd h
      go (Some m) None h = absurd h
      go (Some m) (Some l) h = omega (arith, h)

  taken_still : (left : Option ℕ) (r : ℕ) → CanBeTaken most left r → CanBeTaken most (option_map (λ n. n - 1) left) r
  taken_still = go most
    where
      go : (most left : Option ℕ) (r : ℕ) → CanBeTaken most left r → CanBeTaken most (option_map (λ n. n - 1) left) r
      go None None r h = tt
      go None (Some l) r h = absurd h
      go (Some m) None r h = absurd h
      go (Some m) (Some l) r h = omega (arith, h)

  taken_more : (left : Option ℕ) (r : ℕ) → (left ≡ Some 0 → ⊥) → CanBeTaken most left r
      → CanBeTaken most (option_map (λ n. n - 1) left) (suc r)
  taken_more = go most
    where
      go : (most left : Option ℕ) (r : ℕ) → (left ≡ Some 0 → ⊥) → CanBeTaken most left r
          → CanBeTaken most (option_map (λ n. n - 1) left) (suc r)
      go None None r n h = tt
      go None (Some l) r n h = absurd h
      go (Some m) None r n h = absurd h
      go (Some m) (Some zero) r n h = absurd (n refl)
      go (Some m) (Some (suc l)) r n h = omega (arith, h)

  taken_before : (left : Option ℕ) (r : ℕ) → (left ≡ Some 0 → ⊥) → IsLeft most left
      → AreTaken most (option_map (λ n. n - 1) left) (suc r) → AreTaken most left r
  taken_before = go most
    where
      go : (most left : Option ℕ) (r : ℕ) → (left ≡ Some 0 → ⊥) → IsLeft most left
          → AreTaken most (option_map (λ n. n - 1) left) (suc r) → AreTaken most left r
      go None left r n k h = absurd (omega (arith, h))
      go (Some m) None r n k h = absurd k
      go (Some m) (Some zero) r n k h = absurd (n refl)
      go (Some m) (Some (suc l)) r n k h = omega (arith, h)

  module _ (left : Option ℕ) (marks : List Bool) (fresh : List ℕ) (round : IsRound Step
      most starts left marks fresh) where
    module _ (next : List ℕ) (marks' : List Bool) (fresh' : List ℕ) (some : left ≡ Some 0 → ⊥)
        (leads : Leads Step fresh next) (m : (j : ℕ) → marked marks' j ≡ (marked marks j || is_at j next))
        (f : (j : ℕ) → is_at j fresh' ≡ (not (marked marks j) && is_at j next)) where
      stays : (j : ℕ) → marked marks j ≡ true → marked marks' j ≡ true
      stays j h = m j ∙ or_left_true (marked marks j) (is_at j next) h

      comes : (j : ℕ) → is_at j next ≡ true → marked marks' j ≡ true
      comes j h = m j ∙ or_right_true (marked marks j) (is_at j next) h

      after : (h j : ℕ) → marked marks h ≡ true → Step h j → marked marks' j ≡ true
      after h j a s = elim (round.explored h j a s) [
        | inl k ↦ comes j (leads.complete h j k s)
        | inr k ↦ stays j k
      ]

      explored_next : (h j : ℕ) (b : Bool) → marked marks h ≡ b → marked marks' h ≡ true → Step h j
          → IsAt h fresh' ⊎ (marked marks' j ≡ true)
      explored_next h j true e a s = inr (after h j e s)
      explored_next h j false e a s =
          inl (f h ∙ ap (λ b. not b && is_at h next) e ∙ sym (ap (λ b. b || is_at h next) e) ∙ sym (m h) ∙ a)

      sound_next : (j : ℕ) (b : Bool) → marked marks j ≡ b → marked marks' j ≡ true
          → (i : ℕ) × IsAt i starts × (r : ℕ) × CanBeTaken most (option_map (λ n. n - 1) left) r × Repeats Step r i j
      sound_next j true e a =
          let (i, k, r, c, s) = round.sound j e in (i, k, r, taken_still left r c, s)
      sound_next j false e a =
          let here = sym (ap (λ b. b || is_at j next) e) ∙ sym (m j) ∙ a in
          let (h, k, s) = leads.sound j here in
          let (i, q, r, c, t) = round.sound h (round.kept h k) in
          (i, q, suc r, taken_more left r some c, repeats_last Step r i h j t s)

      complete_next : (i j r : ℕ) → IsAt i starts → Repeats Step r i j → AreTaken most (option_map (λ n. n - 1) left) r
          → marked marks' j ≡ true
      complete_next i j zero h s t = subst (λ z. marked marks' z ≡ true) s (stays i (round.begun i h))
      complete_next i j (suc r) h s t =
          let (p, a, b) = repeats_before Step r i j s in
          after p j (round.complete i p r h a (taken_before left r some round.remains t)) b

      -- what holds before a round holds after it, with one step less left
      pub round-next : IsRound Step most starts (option_map (λ n. n - 1) left) marks' fresh'
      round-next = record {
        remains = left_next left round.remains;
        kept = λ j h. comes j ((and_parts (not (marked marks j)) (is_at j next) (sym (f j) ∙ h)).1);
        begun = λ j h. stays j (round.begun j h);
        explored = λ h j a s. explored_next h j (marked marks h) refl a s;
        sound = λ j h. sound_next j (marked marks j) refl h;
        complete = complete_next;
      }

    -- nothing is left to explore
    closed : fresh ≡ [] → (k i j : ℕ) → marked marks i ≡ true → Repeats Step k i j → marked marks j ≡ true
    closed e zero i j h r = subst (λ z. marked marks z ≡ true) r h
    closed e (suc k) i j h r = elim (round.explored i r.0 h r.1) [
      | inl a ↦ absurd (true≢false (sym (subst (λ xs. IsAt i xs) e a)))
      | inr a ↦ closed e k r.0 j a r.2
    ]

    no_more : (r : ℕ) → CanBeTaken most left r → IfSome most (λ m. r ≤ m)
    no_more r = go most left
      where
        go : (most left : Option ℕ) → CanBeTaken most left r → IfSome most (λ m. r ≤ m)
        go None None h = tt
        go None (Some l) h = absurd h
        go (Some m) None h = absurd h
        go (Some m) (Some l) h = omega (arith, h)

    all_taken : left ≡ Some 0 → (r : ℕ) → IfSome most (λ m. r ≤ m) → AreTaken most left r
    all_taken e r h = go most left round.remains e h
      where
        go : (most left : Option ℕ) → IsLeft most left → left ≡ Some 0 → IfSome most (λ m. r ≤ m) → AreTaken most left r
        go None None k e h = absurd (true≢false (ap is_nothing e))
        go None (Some l) k e h = absurd k
        go (Some m) None k e h = absurd k
        go (Some m) (Some zero) k e h = omega (arith, h)
        go (Some m) (Some (suc l)) k e h = absurd (true≢false (sym (ap is_none_left e)))

    -- once nothing is left to explore, the marked places are those that so many steps lead to
    pub round-last : (places : List ℕ) → ((fresh ≡ []) ⊎ (left ≡ Some 0))
        → ((j : ℕ) → is_at j places ≡ marked marks j) → Leads (More Step most) starts places
    round-last places stop same = record {
      sound = λ j h. let (i, k, r, c, s) = round.sound j (sym (same j) ∙ h) in (i, k, (r, no_more r c, s));
      complete = λ i j h m. same j ∙ elim stop [
        | inl e ↦ closed e m.0 i j (round.begun i h) m.2
        | inr e ↦ round.complete i j m.0 h m.2 (all_taken e m.0 m.1)
      ];
    }
