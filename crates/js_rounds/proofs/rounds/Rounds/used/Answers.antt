-- Each turn looks at one goal more.
use Rattle.std.proofs.Common.{◌≡◌, ◌<◌, ◌≤◌, ◌-◌, ◌||◌, ◌&&◌, ◌++◌, ◌∷◌, [], ℕ, suc, cond, nat_eq, true, false, length, take, get_or, refl, ap, sym, ◌∙◌, subst, arith}
use Rattle.documents.specs.Tests.{some}
use Rattle.list_laws.specs.In.{IsIn}
use Rattle.search.specs.Rounds.{round}
use Rattle.search.specs.Uses as U
use Rattle.search_laws.proofs.Rise.{answer_round}
use Rattle.search_laws.proofs.Used.{has_order}
use Rattle.search_laws.proofs.Marking.{in_at}
use Rattle.js_explore.specs.ExploredView.{explored_view}
use Rattle.js_rounds.specs.State.{IsRoomy, contents_at}
use Rattle.js_rounds.specs.declared.rounds.Rounds.{Rounds}
use Rattle.js_rounds.proofs.Answered.{answered_most, length_take}
use Rattle.js_rounds.proofs.Using.{Back, turn, ended, get_take, written, contents_same}
use Rattle.js_rounds.proofs.rounds.Rounds.used.Goals as goal
use Rattle.std.proofs.lemmas.List.{get_or_default}

within : (n : ℕ) (r : Rounds) → IsRoomy n r → r.count ≤ length r.order.items
within n r h = let l = answered_most r.known.items in omega (arith, l, h.known, h.order, h.count)

pub index-requires : goal.index-requires
index-requires c =
    let l = within (length (explored_view c.args.explored.now).found.goals) c.args.self.now c.requires.roomy in
    let m = c.loop-place.auto.place in
    let t = c.loop-place-test.true in
    grind (arith, l, m, t)

pub loop-place-preserved : goal.loop-place-preserved
loop-place-preserved c =
    let e = explored_view c.args.explored.now in
    let r = c.args.self.now in
    let i = c.loop-place.invariant in
    let shown = c.deref_mut.ensures.value in
    let long : length c.take_marked.new.marks ≡ length c.loop-place.marks.items =
    c.take_marked.ensures.length ∙ ap length shown in
    let len : c.loop-place.marks.len ≡ length c.loop-place.marks.items =
    sym c.deref_mut.ensures.len ∙ ap length shown in
    let marks_are = written c.loop-place.marks.len c.take_marked.new.marks c.loop-place.marks.items long len in
    let t = c.loop-place-test.true in
    let m = c.loop-place.auto.place in
    let few = within (length e.found.goals) r c.requires.roomy in
    let j = c.loop-place.place - 1 in
    let now : c.loop-place.place ≡ suc j = omega (arith, t) in
    record {
      same = ap length marks_are ∙ long ∙ i.same;
      back = λ X x h reached.
          let first : take r.count r.order.items ≡ U.in_order X e.found (length e.found.goals) = h.order in
          let all : length (U.in_order X e.found (length e.found.goals)) ≡ r.count =
          ap length (sym first) ∙ length_take r.count r.order.items few in
          let low : j < length (U.in_order X e.found (length e.found.goals)) = omega (arith, all, m, now) in
          let at : c.index.result.now ≡ get_or (U.in_order X e.found (length e.found.goals)) j 0 =
          c.index.ensures ∙ get_or_default r.order.items j c.index.result.now 0 (omega (arith, few, m, now))
          ∙ sym (get_take r.count r.order.items j 0 (omega (arith, m, now))) ∙ ap (λ z. get_or z j 0) first in
          let has : round X e.found (length e.found.goals) c.index.result.now ≡ true =
          has_order X e.found (length e.found.goals) c.index.result.now
          (subst (λ z. IsIn z (U.in_order X e.found (length e.found.goals))) (sym at)
          (in_at (U.in_order X e.found (length e.found.goals)) j 0 low)) in
          subst (λ z. Back X e.found c.args.goal reached j z c.take_marked.new.found.items) (sym marks_are)
          (turn X e.found c.args.goal reached j c.loop-place.marks.items c.take_marked.new.marks
          c.loop-place.found.items c.take_marked.new.found.items low
          (subst (λ z. Back X e.found c.args.goal reached z c.loop-place.marks.items c.loop-place.found.items) now
          (i.back X x h reached)) c.index.result.now at (contents_at e r c.index.result.now)
          (contents_same X e.found e x refl r h c.index.result.now has)
          (λ n k. subst (λ z. get_or c.take_marked.new.marks n false
          ≡ (get_or z n false || (get_or z c.index.result.now false
          && some (λ p. nat_eq p.goal n) (contents_at e r c.index.result.now)))) shown
          (c.in_ok-take_marked.ensures.marks n
          (omega (arith, k, ap length shown, i.same, c.requires.roomy.known))))
          (subst (λ z. c.take_marked.new.found.items ≡ c.loop-place.found.items
          ++ cond (get_or z c.index.result.now false) (c.index.result.now ∷ []) []) shown
          c.in_ok-take_marked.ensures.found));
    }

pub returns : goal.returns
returns c X x h some =
    let e = explored_view c.args.explored.now in
    let reached : round X e.found (length e.found.goals) c.args.goal ≡ true =
    sym (answer_round X e.found (length e.found.goals) c.args.goal) ∙ some in
    let end : c.loop-place.place ≡ 0 = (let t = c.loop-place-test.false in omega (arith, t)) in
    ended X e.found c.args.goal reached c.loop-place.marks.items c.loop-place.found.items
    (subst (λ z. Back X e.found c.args.goal reached z c.loop-place.marks.items c.loop-place.found.items) end
    (c.loop-place.invariant.back X x h reached))
