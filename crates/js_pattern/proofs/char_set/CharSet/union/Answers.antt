use Rattle.std.proofs.Common.{◌≡◌, ◌∙◌, ◌++◌, ◌||◌, ℕ, List, true, refl, ap}
use Rattle.std.proofs.lemmas.Result.{IfOk-weaker}
use Rattle.patterns.specs.CharSet.{has, set_of, are_ranges}
use Rattle.pattern_laws.specs.Laws.{every_range}
use Rattle.js_pattern.proofs.SetOps.{every_range-ranges, every_range-append, has-append}
use Rattle.pattern_laws.proofs.Sets.{has-set_of}
use Rattle.js_pattern.proofs.char_set.CharSet.union.Goals as goal

both_ranges : (a b : List (ℕ × ℕ)) → are_ranges 0 a ≡ true → are_ranges 0 b ≡ true → every_range (a ++ b) ≡ true
both_ranges a b h k = every_range-append a b (every_range-ranges 0 a h) (every_range-ranges 0 b k)

pub from_ranges-requires : goal.from_ranges-requires
from_ranges-requires c =
    rw (
      c.in_ok-extend_from_slice.ensures.items,
      c.in_ok-ranges.ensures.items,
      c.deref.ensures.value,
      c.deref-2.ensures.value,
    )
    (both_ranges c.self.inside.ranges.items c.other.inside.ranges.items c.self.invariant c.other.invariant)

pub returns : goal.returns
returns c =
    let a = c.self.inside.ranges.items in
    let b = c.other.inside.ranges.items in
    let all : c.extend_from_slice.new.self.items ≡ a ++ b =
    rw (
      c.in_ok-extend_from_slice.ensures.items,
      c.in_ok-ranges.ensures.items,
      c.deref.ensures.value,
      c.deref-2.ensures.value,
    ) refl in
    IfOk-weaker c.from_ranges.result (λ both. both ≡ set_of c.extend_from_slice.new.self.items)
    (λ both. (n : ℕ) → has both n ≡ has c.args.self.now n || has c.args.other.now n)
    (λ both e n. ap (λ s. has s n) (e ∙ ap set_of all)
    ∙ has-set_of (a ++ b) n (both_ranges a b c.self.invariant c.other.invariant)
    ∙ has-append a b n ∙ ap (λ s. has s n || has b n) c.self.view_is
    ∙ ap (λ s. has c.args.self.now n || has s n) c.other.view_is)
    c.from_ranges.ensures
