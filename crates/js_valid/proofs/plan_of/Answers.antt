use Rattle.std.proofs.Common.{◌≡◌, ℕ, ◌<◌, List, length, get_or, sym, ap, subst, arith}
use Rattle.schemas.specs.Entry.{Entry}
use Rattle.js_guard.specs.RankedView.{entries_of}
use Rattle.js_valid.specs.Plan.{IsPlan, StandAt}
use Rattle.js_valid.proofs.plan_of.Goals as goal

listed : (es : List Entry) (order order' : List ℕ) (count : ℕ) → order' ≡ order → count ≡ length es → IsPlan es order
    → (k : ℕ) → k < length order' → get_or order' k 0 < count
listed es order order' count same counted plan k less =
    let only = plan.only k (subst (λ xs. k < length xs) same less) in
    let at = ap (λ xs. get_or xs k 0) same in
    omega (arith, at, counted, only)

stand-all : (es : List Entry) (order order' places : List ℕ) → order' ≡ order → IsPlan es order
    → ((k : ℕ) → k < length order' → StandAt order' places (get_or order' k 0))
    → (e : ℕ) → e < length es → StandAt order places e
stand-all es order order' places same plan h e l =
    let (k, less, is) = plan.all e l in
    let stand = subst (λ xs. (j : ℕ) → j < length xs → StandAt xs places (get_or xs j 0)) same h in
    subst (StandAt order places) is (stand k less)

pub places_of-requires : goal.places_of-requires
places_of-requires c =
    listed (entries_of c.args.schema.now) c.in_ok-order.order.items c.deref.result.now _ c.deref.ensures.value
    c.len.ensures.value c.in_ok-order.ensures

pub targets_of-requires : goal.targets_of-requires
targets_of-requires c =
    subst (IsPlan (entries_of c.args.schema.now)) (sym c.deref-2.ensures.value) c.in_ok-order.ensures

pub returns : goal.returns
returns c = record {
  plan = c.in_ok-order.ensures;
  places = stand-all (entries_of c.args.schema.now) c.in_ok-order.order.items c.deref.result.now
      c.in_ok-places.places.items c.deref.ensures.value c.in_ok-order.ensures c.in_ok-places.ensures;
  targets = c.in_ok-targets.ensures;
  choices = c.in_ok-choices.ensures;
}
