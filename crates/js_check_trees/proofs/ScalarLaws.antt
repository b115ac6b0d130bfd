-- A set without alternatives has no truth value.
use Rattle.std.proofs.Common.{◌≡◌, ℕ, Bool, true, false, ◌||◌, not, cond, nat_eq, List, [], ◌∷◌, map, length, None, Result, Ok, Err, refl, ap, sym, ◌∙◌}
use Rattle.std.proofs.lemmas.List.{length-map}
use Rattle.documents.specs.Tests.{every}
use Rattle.documents.specs.Kind as K
use Rattle.positions.specs.Position.{Position}
use Rattle.goals.specs.Signed.{Signed}
use Rattle.alternatives.specs.Alternative.{Alternative, Truth}
use Rattle.alternatives.specs.Limit as L
use Rattle.alternatives.specs.Limit.{LimitKind}
use Rattle.expansions.specs.Leaves.{agrees, leaf, scalars, Finders}
use Rattle.verdicts.specs.Leaves.{has_no_truth}

no_finders : Finders
no_finders = record { numbers = λ S. Ok None; strings = λ S. Ok None; cells = λ S. Err L.Counts }

truths-none : (k : ℕ) (a b : Bool)
    → nat_eq (length (scalars K.Boolean Truth k (cond a (false ∷ cond b (true ∷ []) []) (cond b (true ∷ []) [])))) 0
    ≡ not (a || (b || false))
truths-none k true true = refl
truths-none k true false = refl
truths-none k false true = refl
truths-none k false false = refl

ok-same : {A : Type 0} (x y : A) → ◌≡◌ {A = Result A LimitKind} (Ok x) (Ok y) → x ≡ y
ok-same x y e = cc

-- `xs`: the alternatives by their views
pub no-truth : {X : Type 0} (view : X → Alternative) (xs : List X) (T : List Position) (S : List Signed) (k : ℕ)
    (more : List Alternative) (b : Bool) → ((F : Finders) → Ok more ≡ leaf F T K.Boolean k S) → map view xs ≡ more
    → b ≡ nat_eq (length xs) 0 → b ≡ has_no_truth T S
no-truth view xs T S k more b e v f =
    f ∙ ap (λ n. nat_eq n 0) (sym (length-map xs view))
    ∙ ap (λ m. nat_eq (length m) 0) (v ∙ ok-same _ _ (e no_finders))
    ∙ truths-none k (every (agrees T false) S) (every (agrees T true) S)
