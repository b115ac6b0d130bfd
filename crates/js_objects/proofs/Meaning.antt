-- What the alternatives that are answered mean, by the laws of the leaf at objects.
use Rattle.std.proofs.Common.{◌≡◌, ℕ, List, true, Result, Ok, Err, IfOk}
use Rattle.list_laws.proofs.Tests.{some_from}
use Rattle.positions.specs.Position.{Position, is_table}
use Rattle.position_laws.proofs.Tables.{is_table-IsTable}
use Rattle.goals.specs.Signed.{Signed}
use Rattle.alternatives.specs.Alternative.{is_met}
use Rattle.expansion_laws.proofs.Containers.{object_is_leaf}
use Rattle.finders.specs.Names.{cells_of}
use Rattle.finder_laws.proofs.Names.{cells_found}
use Rattle.js_expansion.specs.declared.expansion.Leaf.{Leaf}
use Rattle.js_objects.specs.declared.fault.ObjectFault.{ObjectFault}
use Rattle.js_objects.specs.Leaves.{Answers, Follows, Makes}

module _ (T : List Position) (ranks : List ℕ) (table : is_table T ranks ≡ true) (k : ℕ) (S : List Signed) where
  -- where an object meets the set, one of the alternatives that are returned is met
  pub follows : (r : Result Leaf ObjectFault) → Answers T k S r → IfOk r (λ leaf. Follows T S leaf.alternatives)
  follows (Err e) a = tt
  follows (Ok leaf) a = λ l full d can pass J good kind deep m.
      let ok = is_table-IsTable T ranks table l in
      let (x, i, h) =
      (object_is_leaf T ok (cells_of T) (λ S full C e. cells_found T S ok C e)).follows k S full leaf.alternatives a d
      can pass J good kind deep m in
      some_from (is_met can) x leaf.alternatives i h

  -- where one of the alternatives that are returned is met, its object meets the set
  pub makes : (r : Result Leaf ObjectFault) → Answers T k S r → IfOk r (λ leaf. Makes T S leaf.alternatives)
  makes (Err e) a = tt
  makes (Ok leaf) a = λ l full d can child are x i h.
      let ok = is_table-IsTable T ranks table l in
      (object_is_leaf T ok (cells_of T) (λ S full C e. cells_found T S ok C e)).made k S full leaf.alternatives a d can
      child are x i h
