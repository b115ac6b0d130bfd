use Rattle.std.proofs.Common.{length, Result, Ok, Err, ap, ◌∙◌, arith}
use Rattle.std.specs.Result.{IfOk}
use Rattle.schema_laws.proofs.TableLaws.{is_table-length}
use Rattle.js_guard.specs.RankedView.{entries_of}
use Rattle.js_valid.proofs.OrderLaws.{plan-of}
use Rattle.js_valid.proofs.ordered.Goals as goal

-- what three clauses say of a value
IfOk-three : {A E : Type 0} (r : Result A E) (P Q R S : A → Type 0) → ((x : A) → P x → Q x → R x → S x) → IfOk r P
    → IfOk r Q → IfOk r R → IfOk r S
IfOk-three (Ok x) P Q R S f p q r = f x p q r
IfOk-three (Err e) P Q R S f p q r = tt

pub order_of-requires : goal.order_of-requires
order_of-requires c =
    let schema = c.args.schema.now in
    let few = is_table-length (entries_of schema) schema.table.table in
    let listed = ap length c.as_slice.ensures in
    let counted = schema.counted in
    omega (arith, few.1, listed, counted)

pub returns : goal.returns
returns c =
    let schema = c.args.schema.now in
    let listed = c.as_slice.ensures in
    IfOk-three c.order_of.result _ _ _ _
    (λ order all only rises. plan-of (entries_of schema) c.as_slice.result.now order.items schema.table.table
    (rw listed schema.falls) (ap length listed ∙ schema.counted) all only rises)
    c.order_of.ensures.all c.order_of.ensures.only c.order_of.ensures.rises
