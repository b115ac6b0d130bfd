-- What the answers for the goals of a wave are.
use Rattle.std.proofs.Common.{◌≡◌, ℕ, ◌+◌, ◌<◌, List, length, Bool, true, false, Option, Some, None, Result, Ok, Err, IfOk, is_err, slice_get, slice_index_or, true≢false, ap, sym, ◌∙◌}
use Rattle.documents.specs.Tests.{every}
use Rattle.goals.specs.Signed.{Signed}
use Rattle.alternatives.specs.Expansion as E
use Rattle.js_expansion.specs.declared.expansion.Expansion.{Expansion}
use Rattle.js_expansion.specs.ExpansionView.{expansion_view, expansion_view-same}

-- a goal that is taken has that number, as all goals are taken
abbrev pub IsTaken : (List Signed → Bool) → List (List Signed) → ℕ → Type 0
IsTaken takes goals n = (n < length goals) × (every takes goals ≡ true)

module _ (expansion : List Signed → E.Expansion) where
  abbrev pub expansion_in : Option (List Signed) → E.Expansion
  expansion_in None = E.nothing
  expansion_in (Some g) = expansion g

  -- the expansion of the goal of that number
  abbrev pub expansion_at : List (List Signed) → ℕ → E.Expansion
  expansion_at goals n = expansion_in (slice_get goals n)

  module _ {F : Type 0} where
    -- an answer for the goal of that number: its expansion, or a failure
    abbrev pub Gives : List (List Signed) → ℕ → Result Expansion F → Type 0
    Gives goals n answer = IfOk answer (λ x. expansion_view x ≡ expansion_at goals n)

    -- answers for the goals from that number on
    abbrev pub AnswersFrom : List (List Signed) → ℕ → List (Result Expansion F) → Type 0
    AnswersFrom goals from answers = (i : ℕ) (d : Result Expansion F) → i < length answers
        → Gives goals (from + i) (slice_index_or answers i d)

-- two answers for a goal are equal, unless one is a failure
pub one_answer : {F : Type 0} (x : E.Expansion) (a b : Result Expansion F) → IfOk a (λ d. expansion_view d ≡ x)
    → IfOk b (λ d. expansion_view d ≡ x) → is_err a ≡ false → is_err b ≡ false → a ≡ b
one_answer x (Ok d) (Ok e) p q f g = ap (λ t. Ok t) (expansion_view-same d e (p ∙ sym q))
one_answer x (Err h) b p q f g = absurd (true≢false f)
one_answer x (Ok d) (Err h) p q f g = absurd (true≢false g)
