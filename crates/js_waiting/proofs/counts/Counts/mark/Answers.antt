-- What is counted is no longer left.
use Rattle.std.proofs.Common.{◌+◌, ◌-◌, cond, ap, ◌∙◌, arith}
use Rattle.js_waiting.proofs.Counting.{here_is, one_place, left_enough, left_set, missing_set, counted_set}
use Rattle.js_waiting.proofs.counts.Counts.mark.Goals as goal

pub less-self-inside-requires : goal.less-self-inside-requires
less-self-inside-requires c =
    let i = c.self.inside in
    let q = c.index.result.now in
    let h = here_is i.places.items i.need c.args.self.now c.args.place q c.self.view_is c.requires c.index.ensures in
    let l = left_enough i.places.items c.args.place q h in
    omega (arith, l, c.self.invariant.0)

pub index_mut-requires : goal.index_mut-requires
index_mut-requires c =
    let i = c.self.inside in
    let q = c.index.result.now in
    let h = here_is i.places.items i.need c.args.self.now c.args.place q c.self.view_is c.requires c.index.ensures in
    let l = h.low in
    grind (arith, l)

pub invariant_of-self : goal.invariant_of-self
invariant_of-self c =
    let i = c.self.inside in
    let now = c.args.self.now in
    let p = c.args.place in
    let q = c.index.result.now in
    let r = c.index_mut.result.now in
    let h = here_is i.places.items i.need now p q c.self.view_is c.requires c.index.ensures in
    let k = here_is i.places.items i.need now p r c.self.view_is c.requires c.index_mut.ensures.value in
    let same = one_place i.places.items p r q k h in (
      left_set i.places.items p r k i.members c.less-self-inside.result c.self.invariant.0
          (ap (λ z. c.less-self-inside.result + cond z.is_member 1 0) same ∙ c.less-self-inside.ensures),
      missing_set i.places.items p r k i.need i.missing c.saturating_sub-self-inside.result c.self.invariant.1
          (c.saturating_sub-self-inside.ensures ∙ ap (λ z. i.missing - z.room) (one_place i.places.items p q r h k)),
    )

pub returns : goal.returns
returns c =
    let i = c.self.inside in
    let q = c.index_mut.result.now in
    let h = here_is i.places.items i.need c.args.self.now c.args.place q c.self.view_is c.requires
    c.index_mut.ensures.value in
    counted_set i.places.items c.args.place q h i.need c.args.self.now c.self.view_is
