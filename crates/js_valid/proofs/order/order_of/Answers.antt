use Rattle.std.proofs.Common.{rules, ◌<◌, ◌≤◌, ℕ, List, get_or, length, subst, sym}
use Rattle.std.specs.List.{Contains}
use Rattle.std.specs.List.Sorted.{IsSortedByKey}
use Rattle.std.specs.Ordering.{nat_cmp}
use Rattle.std.proofs.lemmas.List.Sorted.{answers_always}
use Rattle.js_match.proofs.WalkLaws as W
use Rattle.js_valid.proofs.OrderLaws.{sorted-all, sorted-only, sorted-rises}
use Rattle.js_valid.proofs.order.order_of.Goals as goal

pub returns-clause-all : goal.returns-clause-all
returns-clause-all c =
    W.ok_then c.entries_of.result _ _ (λ order e.
    subst (λ (xs : List ℕ). (x : ℕ) → x < length c.args.ranks.now → Contains xs x) (sym e)
    (sorted-all c.args.ranks.now c.in_ok-pairs.pairs.items c.deref.result.now c.in_ok-pairs.ensures.len
    c.in_ok-pairs.ensures.each (search rules))) c.entries_of.ensures

pub returns-clause-only : goal.returns-clause-only
returns-clause-only c =
    W.ok_then c.entries_of.result _ _ (λ order e.
    subst (λ (xs : List ℕ). (k : ℕ) → k < length xs → get_or xs k 0 < length c.args.ranks.now) (sym e)
    (sorted-only c.args.ranks.now c.in_ok-pairs.pairs.items c.deref.result.now c.in_ok-pairs.ensures.len
    c.in_ok-pairs.ensures.each (search rules))) c.entries_of.ensures

pub returns-clause-rises : goal.returns-clause-rises
returns-clause-rises c =
    let keys = answers_always _ _ _ (λ f a r next called. search rules) in
    let sorted = c.in_ok-sort_by_key.ensures.sorted (λ (p : ℕ × ℕ). p.0) keys in
    W.ok_then c.entries_of.result _ _ (λ order e.
    subst (λ (xs : List ℕ). (k l : ℕ) → k ≤ l → l < length xs
    → get_or c.args.ranks.now (get_or xs k 0) 0 ≤ get_or c.args.ranks.now (get_or xs l 0) 0) (sym e)
    (sorted-rises c.args.ranks.now c.in_ok-pairs.pairs.items c.deref.result.now c.in_ok-pairs.ensures.len
    c.in_ok-pairs.ensures.each (search rules) (subst (IsSortedByKey (λ (p : ℕ × ℕ). p.0) nat_cmp)
    (sym c.deref.ensures.value) sorted))) c.entries_of.ensures
