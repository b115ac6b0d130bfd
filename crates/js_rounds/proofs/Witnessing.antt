-- The used goals of a goal that has an answer: each has one, there are no more than goals, and one at least.
use Rattle.std.proofs.Common.{◌≡◌, ℕ, ◌+◌, ◌≤◌, ◌<◌, List, [], ◌∷◌, length, map, get_or, true, is_some, ap, sym, ◌∙◌, subst, arith}
use Rattle.std.proofs.lemmas.List.{take_all, get_or_default}
use Rattle.std.proofs.lemmas.List.FromFn.{length-range_with_len}
use Rattle.std.specs.List.{range_with_len}
use Rattle.documents.specs.Kind.{Kind}
use Rattle.goals.specs.Signed.{Signed}
use Rattle.list_laws.specs.In.{IsIn}
use Rattle.list_laws.proofs.Counts.{subset_length}
use Rattle.list_laws.proofs.Tests.{in_range}
use Rattle.shared_documents.specs.Part.{Part}
use Rattle.shared_documents.specs.Unshared.{unshared}
use Rattle.alternatives.specs.Expansion.{Expansion}
use Rattle.search.specs.Explored.{Found}
use Rattle.search.specs.Rounds.{round}
use Rattle.search.specs.Documents.{document}
use Rattle.search.specs.Uses.{satisfied, used_goals}
use Rattle.search.specs.Witness.{place_in, part, parts}
use Rattle.search_laws.proofs.Rise.{answer_round}
use Rattle.search_laws.proofs.Answers.{added_low}
use Rattle.search_laws.proofs.Parts.{in_used, used_own, parts_stand, place_last}
use Rattle.search_laws.proofs.Building.{Made, used_distinct}
use Rattle.search_laws.proofs.Marking.{in_at}

module _ (words : List Signed → Kind → ℕ → ℕ → ℕ → List ℕ) (X : List Signed → Expansion) (f : Found) (n : ℕ)
    (reached : round X f (length f.goals) n ≡ true) where
  abbrev Used : List ℕ
  Used = used_goals X f n

  used_low : (m : ℕ) → IsIn m Used → m < length f.goals
  used_low m i = added_low X f (length f.goals) m (in_used words X f n reached m i).1

  used_satisfied : (m : ℕ) → IsIn m Used → is_some (satisfied X f m) ≡ true
  used_satisfied m i = answer_round X f (length f.goals) m ∙ (in_used words X f n reached m i).1

  used_few : length Used ≤ length f.goals
  used_few =
      let l = subset_length Used (range_with_len 0 (length f.goals)) (used_distinct X f n)
      (λ m i. in_range (length f.goals) m (used_low m i)) in
      omega (arith, l, length-range_with_len 0 (length f.goals))

  one_at_least : (xs : List ℕ) (m : ℕ) → IsIn m xs → 0 < length xs
  one_at_least [] m i = absurd i
  one_at_least (x ∷ xs) m i = omega arith

  used_some : 0 < length Used
  used_some = one_at_least Used n (used_own words X f n reached)

  all_made : (i : ℕ) (made : List Part) (places : List ℕ) → length Used ≤ i → Made words X f n reached i made places
      → made ≡ parts words X f n
  all_made i made places l h =
      h.parts ∙ ap (map (part words X f (place_in (used_goals X f n)))) (take_all i Used l)

  -- the last part is that of the goal
  last_stands : (made : List Part) (last : ℕ) → made ≡ parts words X f n → last + 1 ≡ length Used
      → unshared made last ≡ document words X f (length f.goals) n
  last_stands made last e l =
      let p = place_last words X f n reached in
      let same : last ≡ place_in (used_goals X f n) n = omega (arith, p, l) in
      ap (λ z. unshared z last) e ∙ ap (unshared (parts words X f n)) same
      ∙ parts_stand words X f n reached n (used_own words X f n reached)

-- the used goals are those of a goal that has an answer
module _ (words : List Signed → Kind → ℕ → ℕ → ℕ → List ℕ) (X : List Signed → Expansion) (f : Found) (n : ℕ)
    (has : is_some (satisfied X f n) ≡ true) (goals : List ℕ) (used : goals ≡ used_goals X f n) where
  pub is_reached : round X f (length f.goals) n ≡ true
  is_reached = sym (answer_round X f (length f.goals) n) ∙ has

  -- the one at a place
  pub record Turn (i o : ℕ) : Type 0 where
    pub low : i < length (used_goals X f n)
    pub at : o ≡ get_or (used_goals X f n) i 0
    pub has_answer : is_some (satisfied X f o) ≡ true
    pub small : o < length f.goals
    pub few : i < length f.goals

  pub turn : (i o : ℕ) → i < length goals → o ≡ get_or goals i o → Turn i o
  turn i o l e =
      let low : i < length (used_goals X f n) = omega (arith, l, ap length used) in
      let at : o ≡ get_or (used_goals X f n) i 0 = e ∙ get_or_default goals i o 0 l ∙ ap (λ z. get_or z i 0) used in
      let inside : IsIn o (used_goals X f n) =
      subst (λ z. IsIn z (used_goals X f n)) (sym at) (in_at (used_goals X f n) i 0 low) in
      let few = used_few words X f n is_reached in
      record {
        low = low;
        at = at;
        has_answer = used_satisfied words X f n is_reached o inside;
        small = used_low words X f n is_reached o inside;
        few = omega (arith, low, few);
      }

  -- all parts are made
  pub record Ended (made : List Part) (last : ℕ) : Type 0 where
    pub all : made ≡ parts words X f n
    pub own : last + 1 ≡ length made
    pub stands : unshared made last ≡ document words X f (length f.goals) n

  -- after all used goals the parts are as many, and the last one is that of the goal itself
  pub ended : (i : ℕ) (made : List Part) (places : List ℕ) (last : ℕ) → i ≡ length goals → length made ≡ i
      → Made words X f n is_reached i made places → (0 < i → last + 1 ≡ i) → Ended made last
  ended i made places last e k h l =
      let end : i ≡ length (used_goals X f n) = e ∙ ap length used in
      let all = all_made words X f n is_reached i made places (omega (arith, end)) h in
      let some = used_some words X f n is_reached in
      let own = l (omega (arith, some, end)) in
      record {
        all = all;
        own = own ∙ sym k;
        stands = last_stands words X f n is_reached made last all (own ∙ end);
      }
