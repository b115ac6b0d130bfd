use Rattle.std.proofs.Common.{◌≡◌, ◌≤◌, ℕ, suc, ◌∷◌, drop, get_or, add-one, sym, ◌∙◌, subst, true, ap}
use Rattle.std.proofs.Math.Seq.{drop-cons}
use Rattle.patterns.specs.CharSet.{has, are_ranges}
use Rattle.js_pattern.proofs.SetOps.{found, none_has, whole_first, passed_has, passed_ranges}
use Rattle.js_pattern.proofs.ranges.first_within.Goals as goal

pub returns-then-code-high : goal.returns-then-code-high
returns-then-code-high c =
    let set = c.args.ranges.now in
    let r = get_or set c.loop-range.range-index (0, 0) in
    let rest = drop (suc c.loop-range.range-index) set in
    let here : drop c.loop-range.range-index set ≡ r ∷ rest =
    drop-cons set c.loop-range.range-index (0, 0) c.loop-range-test.true in
    let ordered : are_ranges 0 (r ∷ rest) ≡ true =
    subst (λ s. are_ranges 0 s ≡ true) here c.loop-range.invariant.ordered in
    let same : (d : ℕ) → c.args.low ≤ d → has (r ∷ rest) d ≡ has set d =
    λ d l. ap (λ s. has s d) (sym here) ∙ c.loop-range.invariant.same d l in
    whole_first (r ∷ rest) set c.args.low c.args.high c.from_u32.result same
    (found c.args.low c.args.high c.max-code.result r rest ordered c.if-low-range.true c.max-code.ensures
    c.from_u32.result
    c.if-code-high.true c.from_u32.ensures.value c.from_u32.ensures.succeeds)

pub returns-then-low-range : goal.returns-then-low-range
returns-then-low-range c =
    let set = c.args.ranges.now in
    let r = get_or set c.loop-range.range-index (0, 0) in
    let rest = drop (suc c.loop-range.range-index) set in
    let here : drop c.loop-range.range-index set ≡ r ∷ rest =
    drop-cons set c.loop-range.range-index (0, 0) c.loop-range-test.true in
    let ordered : are_ranges 0 (r ∷ rest) ≡ true =
    subst (λ s. are_ranges 0 s ≡ true) here c.loop-range.invariant.ordered in
    let same : (d : ℕ) → c.args.low ≤ d → has (r ∷ rest) d ≡ has set d =
    λ d l. ap (λ s. has s d) (sym here) ∙ c.loop-range.invariant.same d l in
    λ d l m. sym (same d l)
    ∙ none_has c.args.low c.args.high c.max-code.result r rest ordered c.if-low-range.true c.max-code.ensures
    c.if-code-high.false d l m

pub loop-range-preserved : goal.loop-range-preserved
loop-range-preserved c =
    let set = c.args.ranges.now in
    let r = get_or set c.loop-range.range-index (0, 0) in
    let rest = drop (suc c.loop-range.range-index) set in
    let here : drop c.loop-range.range-index set ≡ r ∷ rest =
    drop-cons set c.loop-range.range-index (0, 0) c.loop-range-test.true in
    let ordered : are_ranges 0 (r ∷ rest) ≡ true =
    subst (λ s. are_ranges 0 s ≡ true) here c.loop-range.invariant.ordered in
    let same : (d : ℕ) → c.args.low ≤ d → has (r ∷ rest) d ≡ has set d =
    λ d l. ap (λ s. has s d) (sym here) ∙ c.loop-range.invariant.same d l in
    rw add-one (record {
      same = λ d l. passed_has c.args.low r rest c.if-low-range.false d l ∙ same d l;
      ordered = passed_ranges r rest ordered;
    })
