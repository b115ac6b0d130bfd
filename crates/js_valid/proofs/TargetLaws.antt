-- An entry that refers to another one has that one's target.
use Rattle.std.proofs.Common.{◌≡◌, ℕ, ◌<◌, inl, inr, List, length, get_or, Bool, true, false, nat_eq, if◌then◌else◌, Some, refl, ap, ◌∙◌, arith}
use Rattle.std.proofs.lemmas.Bool.{eqb-true, cases_lt}
use Rattle.std.proofs.lemmas.List.{get_or_past}
use Rattle.std.proofs.lemmas.Grind.{get_or_default_zero}
use Rattle.documents.specs.Document.{Document}
use Rattle.schemas.specs.Entry.{Entry}
use Rattle.draft06.specs.EntryValidity.{form_at}
use Rattle.js_valid.specs.Plain.{reference}
use Rattle.js_valid.specs.Plan.{IsPlan, IsPlanned, HasTargets, target_at, valid_at}
use Rattle.js_valid.specs.declared.plan.Plan.{Plan}
use Rattle.js_valid.proofs.PlainLaws.{refers}

-- in a table of all entries each is its own target
pub targets-all : (es : List Entry) (n : ℕ) (targets : List ℕ) → length targets ≡ n
    → ((i : ℕ) → i < n → get_or targets i 0 ≡ i) → HasTargets es targets
targets-all es n targets len each e J = ap (λ q. valid_at es q J) (own e)
  where
    own : (e : ℕ) → target_at targets e ≡ e
    own e = elim (cases_lt e (length targets)) [
      | inl l ↦ get_or_default_zero targets e e l ∙ each e (omega (arith, l, len))
      | inr past ↦ get_or_past targets e e past
    ]

module _ (es : List Entry) (order : List ℕ) (plan : IsPlan es order) where
  pub targets-set : (e next : ℕ) (targets targets' : List ℕ) → Some next ≡ reference (form_at es e)
      → HasTargets es targets
      → ((j : ℕ) → target_at targets' j ≡ (if nat_eq e j then target_at targets next else target_at targets j))
      → HasTargets es targets'
  targets-set e next targets targets' is has set j J = go (nat_eq e j) refl
    where
      at : (b : Bool) → nat_eq e j ≡ b
          → target_at targets' j ≡ (if b then target_at targets next else target_at targets j)
      at b same = set j ∙ ap (λ c. if c then target_at targets next else target_at targets j) same

      go : (b : Bool) → nat_eq e j ≡ b → valid_at es (target_at targets' j) J ≡ valid_at es j J
      go true same =
          ap (λ q. valid_at es q J) (at true same) ∙ has next J ∙ refers es order plan e next J is
          ∙ ap (λ q. valid_at es q J) (eqb-true e j same)
      go false same = ap (λ q. valid_at es q J) (at false same) ∙ has j J

-- the target that is read off a plan
pub target-met : (es : List Entry) (p : Plan) → IsPlanned es p → (target e : ℕ) (J : Document)
    → target ≡ target_at p.targets.items e → valid_at es target J ≡ valid_at es e J
target-met es p planned target e J is = ap (λ q. valid_at es q J) is ∙ planned.targets e J
