-- After a round that adds no goal the order of goals, the last round and the answers stay.
use Rattle.std.proofs.Common.{◌≡◌, ℕ, zero, suc, ◌+◌, ◌-◌, ◌≤◌, List, ◌++◌, Bool, true, false, ◌&&◌, not, cond, refl, ap, ap₂, sym, ◌∙◌, arith, zero-add, suc-add}
use Rattle.std.proofs.lemmas.List.{append-nil}
use Rattle.documents.specs.Tests.{some}
use Rattle.goals.specs.Signed.{Signed}
use Rattle.list_laws.proofs.Tests.{none_from}
use Rattle.alternatives.specs.Expansion.{Expansion}
use Rattle.search.specs.Explored.{Found}
use Rattle.search.specs.Rounds.{round, answer}
use Rattle.search.specs.Uses.{numbers, is_added, last_within, in_order}
use Rattle.search_laws.proofs.Rise.{still}
use Rattle.search_laws.proofs.Settled.{rise_to}
use Rattle.search_laws.proofs.Answers.{none_added, same_answer}
use Rattle.search_laws.proofs.Used.{filter_none}

module _ (expansion : List Signed → Expansion) (f : Found) (r : ℕ)
    (quiet : some (is_added expansion f r) (numbers expansion f) ≡ false) where
  abbrev Round : ℕ → ℕ → Bool
  Round q n = round expansion f q n

  next_same : (n : ℕ) → Round (suc r) n ≡ Round r n
  next_same n = go (Round (suc r) n) (Round r n) refl refl where
    go : (a b : Bool) → Round (suc r) n ≡ a → Round r n ≡ b → a ≡ b
    go true true x y = refl
    go false false x y = refl
    go true false x y = sym (none_added expansion f r n quiet x) ∙ y
    go false true x y = sym x ∙ rise_to expansion f r (suc r) n (omega arith) y

  pub round_same : (m n : ℕ) → r ≤ m → Round m n ≡ Round r n
  round_same m n l = ap (λ z. Round z n) plus ∙ still expansion f r next_same (m - r) n where
    plus : m ≡ m - r + r
    plus = omega (arith, l)

  -- after a round that adds no goal answers stay
  pub answer_same : (m n : ℕ) → r ≤ m → answer expansion f m n ≡ answer expansion f r n
  answer_same m n l = same_answer expansion f r m n l (λ e. sym (round_same m n l) ∙ e)

  nothing_added : (m n : ℕ) → r ≤ m → is_added expansion f m n ≡ false
  nothing_added m n l =
      ap₂ (λ a b. a && not b) (round_same (suc m) n (omega (arith, l))) (round_same m n l) ∙ no (Round r n)
    where
      no : (b : Bool) → (b && not b) ≡ false
      no true = refl
      no false = refl

  -- after a round that adds no goal the last round stays
  pub last_same : (k : ℕ) → last_within expansion f (k + r) ≡ last_within expansion f r
  last_same zero = ap (λ z. last_within expansion f z) (zero-add r)
  last_same (suc k) =
      ap (λ z. last_within expansion f z) (suc-add k r)
      ∙ ap (λ b. cond b (suc (k + r)) (last_within expansion f (k + r)))
      (none_from (is_added expansion f (k + r)) (numbers expansion f)
      (λ n i. nothing_added (k + r) n (omega arith)))
      ∙ last_same k

  -- after a round that adds no goal the order of goals stays
  pub order_same : (k : ℕ) → in_order expansion f (k + r) ≡ in_order expansion f r
  order_same zero = ap (λ z. in_order expansion f z) (zero-add r)
  order_same (suc k) =
      ap (λ z. in_order expansion f z) (suc-add k r)
      ∙ ap₂ (λ a b. a ++ b) (order_same k)
      (filter_none (is_added expansion f (k + r)) (numbers expansion f)
      (λ n i. nothing_added (k + r) n (omega arith)))
      ∙ append-nil (in_order expansion f r)
