-- The number that is found for a set meets the set, and where none is found no document of numbers meets it.
use Rattle.std.proofs.Common.{◌≡◌, ℕ, ℤ, pos, ◌+ℤ◌, ◌-ℤ◌, int_le, List, Bool, true, false, not, Some, None, Ok, refl, ap, sym, ◌∙◌, subst, arith}
use Rattle.std.proofs.lemmas.Int.{ints}
use Rattle.std.proofs.lemmas.Bool.{not-false, true≢false}
use Rattle.documents.specs.Tests.{every, some}
use Rattle.documents.specs.Kind as K
use Rattle.documents.specs.Kind.{same_kind}
use Rattle.documents.specs.Document.{Document, null, boolean, number, string, array, object, kind_of}
use Rattle.positions.specs.Position.{Position, True, False, Same, Not, All, Any, One, Depends, Types, NumMin, NumMax, Multiple, NumIn, position_at}
use Rattle.positions.specs.Holds.{asks, holds, IsTable}
use Rattle.position_laws.proofs.Asks.{holds-asks}
use Rattle.goals.specs.Signed.{Signed, Plus, Minus, met, meets}
use Rattle.goals.specs.Choices.{plus_choices, minus_choices, choices, plus_wrong, minus_wrong, is_wrong}
use Rattle.goal_laws.specs.Saturated.{IsSaturated}
use Rattle.goal_laws.proofs.Saturated.{meets-saturated}
use Rattle.list_laws.proofs.Lists.{every_at, every_from}
use Rattle.frame_laws.proofs.Signs.{has_in}
use Rattle.number_groups.specs.Group.{is_met}
use Rattle.number_groups.specs.Cases.{Cases, Found, Empty, LimitMultiples, LimitCandidates}
use Rattle.number_groups.specs.Outcome.{outcome}
use Rattle.number_groups.specs.Correct.{IsRight}
use Rattle.alternatives.specs.Limit.{most_candidates}
use Rattle.alternatives.specs.Alternative.{Number}
use Rattle.expansion_laws.proofs.Leaf.{IsFinder}
use Rattle.number_finder.specs.SetGroup.{plus_ask, minus_ask, ask_at, number_group}
use Rattle.number_finder.specs.NumbersOf.{answer_of, numbers_of}
use Rattle.scalar_laws.proofs.Groups.{is_asked, is_met-number_group}

-- a literal that isn't wrong requires of a number what it requires of whole numbers
module _ (here : ℕ → Bool) (below : ℕ → Document → Bool) (n : ℤ) where
  plus_met : (P : Position) → plus_choices K.Number P ≡ None → plus_wrong K.Number P ≡ false
      → is_asked n (plus_ask P) ≡ true → asks here below P (number n) ≡ true
  plus_met (Types ts) c w a = not-false (some (same_kind K.Number) ts) w
  plus_met (NumMin m) c w a = a
  plus_met (NumMax m) c w a = a
  plus_met (Multiple m) c w a = a
  plus_met (NumIn ns) c w a = a
  plus_met True c w a = cc
  plus_met False c w a = cc
  plus_met (Same q) c w a = cc
  plus_met (Not q) c w a = cc
  plus_met (All qs) c w a = cc
  plus_met (Any qs) c w a = cc
  plus_met (One qs) c w a = cc
  plus_met (Depends h q) c w a = cc
  plus_met _ c w a = refl

  above_not : (m : ℤ) → int_le n (m -ℤ pos 1) ≡ not (int_le m n)
  above_not m = grind (arith, ints)

  below_not : (m : ℤ) → int_le (m +ℤ pos 1) n ≡ not (int_le n m)
  below_not m = grind (arith, ints)

  minus_met : (P : Position) → minus_choices K.Number P ≡ None → minus_wrong K.Number P ≡ false
      → is_asked n (minus_ask P) ≡ true → not (asks here below P (number n)) ≡ true
  minus_met (Types ts) c w a = ap not w
  minus_met (NumMin m) c w a = sym (above_not m) ∙ a
  minus_met (NumMax m) c w a = sym (below_not m) ∙ a
  minus_met (Multiple m) c w a = a
  minus_met (NumIn ns) c w a = a
  minus_met _ c w a = cc

  -- a number of which the position holds meets the requirement
  plus_asked : (P : Position) → asks here below P (number n) ≡ true → is_asked n (plus_ask P) ≡ true
  plus_asked (NumMin m) a = a
  plus_asked (NumMax m) a = a
  plus_asked (Multiple m) a = a
  plus_asked (NumIn ns) a = a
  plus_asked _ a = refl

  minus_asked : (P : Position) → not (asks here below P (number n)) ≡ true → is_asked n (minus_ask P) ≡ true
  minus_asked (NumMin m) a = above_not m ∙ a
  minus_asked (NumMax m) a = below_not m ∙ a
  minus_asked (Multiple m) a = a
  minus_asked (NumIn ns) a = a
  minus_asked _ a = refl

module _ (T : List Position) (ok : IsTable T) where
  asked_met : (n : ℤ) (x : Signed) → choices T K.Number x ≡ None → is_wrong T K.Number x ≡ false
      → is_asked n (ask_at T x) ≡ true → met (λ p. holds T p (number n)) x ≡ true
  asked_met n (Plus p) c w a =
      holds-asks T ok p (number n) ∙ plus_met (λ q. holds T q (number n)) (holds T) n (position_at T p) c w a
  asked_met n (Minus p) c w a =
      ap not (holds-asks T ok p (number n))
      ∙ minus_met (λ q. holds T q (number n)) (holds T) n (position_at T p) c w a

  met_asked : (n : ℤ) (x : Signed) → met (λ p. holds T p (number n)) x ≡ true → is_asked n (ask_at T x) ≡ true
  met_asked n (Plus p) h =
      plus_asked (λ q. holds T q (number n)) (holds T) n (position_at T p)
      (sym (holds-asks T ok p (number n)) ∙ h)
  met_asked n (Minus p) h =
      minus_asked (λ q. holds T q (number n)) (holds T) n (position_at T p)
      (ap not (sym (holds-asks T ok p (number n))) ∙ h)

  -- a number meets a saturated set where it meets the group
  pub group_meets : (S : List Signed) → IsSaturated T K.Number S → (n : ℤ) → is_met (number_group T S) n ≡ true
      → meets T S (number n) ≡ true
  group_meets S full n h =
      let each : every (λ x. is_asked n (ask_at T x)) S ≡ true = sym (is_met-number_group T S n) ∙ h in
      meets-saturated T ok (number n) S
      (λ x g c. asked_met n x c (full.none_wrong x g)
      (every_at (λ x. is_asked n (ask_at T x)) x S each (has_in x S g)))
      full.chosen

  -- a number that meets the set meets the group
  pub meets_group : (S : List Signed) (n : ℤ) → meets T S (number n) ≡ true → is_met (number_group T S) n ≡ true
  meets_group S n m =
      is_met-number_group T S n
      ∙ every_from (λ x. is_asked n (ask_at T x)) S
      (λ x i. met_asked n x (every_at (met (λ p. holds T p (number n))) x S m i))

  -- what the answer says of the documents of the kind
  module _ (right : (S : List Signed)
      → IsRight most_candidates (number_group T S) (outcome most_candidates (number_group T S))) where
    found_meets : (S : List Signed) → IsSaturated T K.Number S → (n : ℤ)
        → numbers_of T S ≡ Ok (Some n) → meets T S (number n) ≡ true
    found_meets S full n e = go (outcome most_candidates (number_group T S)) (right S) e where
      go : (a : Cases) → IsRight most_candidates (number_group T S) a → answer_of a ≡ Ok (Some n)
          → meets T S (number n) ≡ true
      go (Found k) r e =
          let same : k ≡ n = cc in
          subst (λ z. meets T S (number z) ≡ true) same (group_meets S full k r.says.meets)
      go Empty r e = cc
      go LimitMultiples r e = cc
      go LimitCandidates r e = cc

    none_meets : (S : List Signed) → numbers_of T S ≡ Ok None → (J : Document) → kind_of J ≡ K.Number
        → meets T S J ≡ true → ⊥
    none_meets S e (number n) k m = go (outcome most_candidates (number_group T S)) (right S) e where
      go : (a : Cases) → IsRight most_candidates (number_group T S) a → answer_of a ≡ Ok None → ⊥
      go Empty r e = true≢false (sym (meets_group S n m) ∙ r.says n)
      go (Found k) r e = cc
      go LimitMultiples r e = cc
      go LimitCandidates r e = cc
    none_meets S e null k m = cc
    none_meets S e (boolean b) k m = cc
    none_meets S e (string s) k m = cc
    none_meets S e (array ds) k m = cc
    none_meets S e (object ms) k m = cc

    -- the finder of numbers keeps the laws of finders
    pub numbers_finder : (words : List Signed → ℕ → ℕ → List ℕ) → IsFinder T K.Number words Number (numbers_of T)
    numbers_finder words = record {
      found = λ S full n e. (refl, omega arith, found_meets S full n e);
      none_found = λ S full e J good kind m. none_meets S e J kind m;
    }
