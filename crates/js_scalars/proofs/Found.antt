-- The finder of numbers is right for each table, and so are the alternatives of a number branch.
use Rattle.std.proofs.Common.{◌≡◌, ℕ, ℤ, List, [], ◌∷◌, Bool, true, false, Option, Some, None, Result, Ok, Err, IfOk, pos, length, refl, ap, sym, arith}
use Rattle.std.proofs.lemmas.Bool.{and_parts, ltb-true, true≢false}
use Rattle.documents.specs.Kind as K
use Rattle.documents.specs.Document.{number}
use Rattle.positions.specs.Position.{Position, is_table}
use Rattle.positions.specs.Holds.{IsTable}
use Rattle.position_laws.proofs.Tables.{is_table-IsTable}
use Rattle.goals.specs.Signed.{Signed, position_of, meets}
use Rattle.goal_laws.specs.Saturated.{IsSaturated}
use Rattle.number_groups.specs.Cases.{Cases, Found, Empty, LimitMultiples, LimitCandidates}
use Rattle.number_groups.specs.Correct.{IsRight}
use Rattle.number_groups.specs.Outcome.{outcome}
use Rattle.alternatives.specs.Alternative.{Alternative, Number}
use Rattle.alternatives.specs.Limit.{LimitKind, most_candidates}
use Rattle.expansions.specs.Leaves.{scalar, scalar_leaf}
use Rattle.expansion_laws.proofs.Leaf.{IsFinder}
use Rattle.number_finder.specs.SetGroup.{any_number, number_group}
use Rattle.number_finder.specs.NumbersOf.{answer_of, numbers_of}
use Rattle.scalar_laws.proofs.Ready.{table-is_ready}
use Rattle.scalar_laws.proofs.Numbers.{numbers_finder}
use Rattle.js_numbers.proofs.AnswerLaws.{is_right}
use Rattle.js_algebra.specs.View.{is_in_table, are_in_table}
use Rattle.js_expansion.specs.declared.expansion.Leaf.{Leaf}
use Rattle.js_scalars.specs.declared.fault.NumberFault.{NumberFault}
use Rattle.js_scalars.specs.Answers.{Answers, IsFoundAt, IsNoneAt}

-- what is found for a set at numbers meets it, and where nothing is found no number meets it
pub found_numbers : (T : List Position) (ranks : List ℕ) → is_table T ranks ≡ true → IsTable T
    → (words : List Signed → ℕ → ℕ → List ℕ) → IsFinder T K.Number words Number (numbers_of T)
found_numbers T ranks e ok words =
    numbers_finder T ok
    (λ S. is_right most_candidates (number_group T S) (outcome most_candidates (number_group T S))
    (table-is_ready T ranks e S) refl) words

-- what was found, by the alternatives

one_found : (k : ℕ) (r : Result (Option ℤ) LimitKind) (more : List Alternative) (n : ℤ)
    → scalar_leaf K.Number Number k r ≡ Ok more → more ≡ scalar K.Number k (Number n) ∷ [] → r ≡ Ok (Some n)
one_found k (Ok None) more n e h = cc
one_found k (Ok (Some m)) more n e h =
    let same : scalar K.Number k (Number n) ≡ scalar K.Number k (Number m) = cc in
    let shapes : Number n ≡ Number m = ap (λ a. a.shape) same in
    let numbers : n ≡ m = cc in
    ap (λ z. Ok (Some z)) (sym numbers)
one_found k (Err l) more n e h = cc

none_found : (k : ℕ) (r : Result (Option ℤ) LimitKind) (more : List Alternative)
    → scalar_leaf K.Number Number k r ≡ Ok more → more ≡ [] → r ≡ Ok None
none_found k (Ok None) more e h = refl
none_found k (Ok (Some m)) more e h = cc
none_found k (Err l) more e h = cc

abbrev no_words : List Signed → ℕ → ℕ → List ℕ
no_words S c k = []

module _ (T : List Position) (ranks : List ℕ) (e : is_table T ranks ≡ true) where
  -- a table that has a position has dense ranks
  table : (x : Signed) → is_in_table T x ≡ true → IsTable T
  table x i = is_table-IsTable T ranks e (let low = ltb-true (position_of x) (length T) i in omega arith)

  found_meets : (S : List Signed) → are_in_table T S ≡ true → IsSaturated T K.Number S → (n : ℤ)
      → numbers_of T S ≡ Ok (Some n) → meets T S (number n) ≡ true
  found_meets [] i full n h = refl
  found_meets (x ∷ S) i full n h =
      let ok = table x (and_parts (is_in_table T x) (are_in_table T S) i).0 in
      let (good, deep, m) = (found_numbers T ranks e ok no_words).found (x ∷ S) full n h in m

  -- a whole number meets the group that requires nothing
  none_at_all : numbers_of T [] ≡ Ok None → ⊥
  none_at_all h =
      go (outcome most_candidates any_number)
      (is_right most_candidates any_number (outcome most_candidates any_number) (table-is_ready T ranks e []) refl) h
    where
      go : (a : Cases) → IsRight most_candidates any_number a → answer_of a ≡ Ok None → ⊥
      go Empty r h = true≢false (r.says (pos 0))
      go (Found n) r h = cc
      go LimitMultiples r h = cc
      go LimitCandidates r h = cc

  none_meets : (S : List Signed) → are_in_table T S ≡ true → IsSaturated T K.Number S → numbers_of T S ≡ Ok None
      → (n : ℤ) → meets T S (number n) ≡ false
  none_meets [] i full h n = absurd (none_at_all h)
  none_meets (x ∷ S) i full h n = go (meets T (x ∷ S) (number n)) refl where
    go : (b : Bool) → meets T (x ∷ S) (number n) ≡ b → meets T (x ∷ S) (number n) ≡ false
    go false q = q
    go true q =
        let ok = table x (and_parts (is_in_table T x) (are_in_table T S) i).0 in
        absurd ((found_numbers T ranks e ok no_words).none_found (x ∷ S) full h (number n) refl refl q)

  module _ (S : List Signed) (i : are_in_table T S ≡ true) (k : ℕ) where
    pub answer-meets : (r : Result Leaf NumberFault) → Answers (scalar_leaf K.Number Number k (numbers_of T S)) r
        → IfOk r (λ l. IsFoundAt T S k l.alternatives)
    answer-meets (Ok l) a = λ full n q. found_meets S i full n (one_found k (numbers_of T S) l.alternatives n a q)
    answer-meets (Err f) a = tt

    pub answer-none : (r : Result Leaf NumberFault) → Answers (scalar_leaf K.Number Number k (numbers_of T S)) r
        → IfOk r (λ l. IsNoneAt T S l.alternatives)
    answer-none (Ok l) a = λ full q n. none_meets S i full (none_found k (numbers_of T S) l.alternatives a q) n
    answer-none (Err f) a = tt
