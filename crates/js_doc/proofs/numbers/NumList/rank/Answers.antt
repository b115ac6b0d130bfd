use Rattle.std.proofs.Common.{◌≡◌, ◌∙◌, ◌<◌, get_or, length, ap, sym, subst, arith, rules, to_z-of_z, to_z, of_z, FitsSigned}
use Rattle.std.specs.Int.{w128}
use Rattle.std.proofs.lemmas.List.{get_or_default}
use Rattle.js_doc.specs.Numbers.{rank_of}
use Rattle.js_doc.proofs.Ranks.{parted_alike, rank_of-found, rank_of-none}
use Rattle.js_doc.proofs.numbers.NumList.rank.Goals as goal
use Rattle.js_doc.proofs.numbers.NumList.rank.Goals.{else-below-len-via-then-below-len+else-index-n, else-below-len-via-else-below-len}

pub returns-then-index-n : goal.returns-then-index-n
returns-then-index-n c =
    let s = c.self.inside.sorted.items in
    let i = c.count_below-below.result in
    let parts = parted_alike _ s _ c.args.n i c.as_slice.ensures.value (to_z-of_z c.ranges.n)
    c.count_below-below.ensures.parts in
    let within : i < length s = search (rules, arith) in
    let x_fits : FitsSigned w128 c.index.result.now = search rules in
    let same : c.index.result.now ≡ c.args.n =
    sym (to_z-of_z x_fits) ∙ ap (to_z w128) c.if-index-n.true ∙ to_z-of_z c.ranges.n in
    let at : get_or s i c.args.n ≡ c.args.n = subst (λ x. get_or s i x ≡ x) same (sym c.index.ensures) in
    rank_of-found c.self.inside.items.items s c.args.n i c.self.invariant parts within at
    ∙ ap (λ xs. rank_of xs c.args.n) c.self.view_is

pub returns-else-below-len : goal.returns-else-below-len
returns-else-below-len c =
    let s = c.self.inside.sorted.items in
    let i = c.count_below-below.result in
    let parts = parted_alike _ s _ c.args.n i c.as_slice.ensures.value (to_z-of_z c.ranges.n)
    c.count_below-below.ensures.parts in
    rank_of-none c.self.inside.items.items s c.args.n i c.self.invariant parts
    (λ d l e. elim c.else-below-len.branch [
      | else-below-len-via-then-below-len+else-index-n w ↦
          let same : w.index.result.now ≡ c.args.n = w.index.ensures ∙ get_or_default s i w.index.result.now d l ∙ e in
          w.if-index-n.false (ap (of_z w128) same)
      | else-below-len-via-else-below-len w ↦ omega (arith, l, w.if-below-len.false)
    ])
    ∙ ap (λ xs. rank_of xs c.args.n) c.self.view_is
