-- Each turn adds the part of the next used goal.
use Rattle.std.proofs.Common.{◌≡◌, ◌<◌, ◌+◌, ◌++◌, ◌∷◌, [], None, length, set, ap, ap₂, sym, ◌∙◌, subst, arith, length-append, Result, Ok, Err, IfOk}
use Rattle.search.specs.Witness as W
use Rattle.shared_documents.specs.Part.{first_forward}
use Rattle.search_laws.proofs.Building.{Made, made_on, next_below}
use Rattle.expander_laws.specs.Expander.{words_by}
use Rattle.js_explore.specs.ExploredView.{explored_view}
use Rattle.js_rounds.specs.Slots.{place_at}
use Rattle.js_rounds.proofs.Using.{written}
use Rattle.js_rounds.specs.Meets.{IsMet}
use Rattle.js_rounds.proofs.Sound.{goal_met}
use Rattle.js_rounds.proofs.Witnessing.{is_reached, turn, ended}
use Rattle.js_rounds.proofs.rounds.Rounds.witness.Goals as goal

pub add_part-requires : goal.add_part-requires
add_part-requires g c =
    let X = g.E.Expander.expansion c.args.expander.now in
    let words = words_by (g.E.Expander.cells c.args.expander.now) in
    let f = (explored_view c.args.explored.now).found in
    let i = c.loop-place.place in
    let n = c.args.goal in
    let has = c.requires.satisfied in
    let used = c.reverse.ensures.items ∙ c.in_ok-goals.ensures X c.requires.explores c.requires.rounds has in
    let t = c.loop-place-test.true in
    let low : i < length c.reverse.new.self.items = grind (arith, t, c.len.ensures) in
    let u = turn words X f n has c.reverse.new.self.items used i c.index.result.now low c.index.ensures in
    let v = c.loop-place.invariant in
    let shown = c.deref_mut.ensures.value in
    record {
      explores = c.requires.explores;
      rounds = c.requires.rounds;
      taken = c.requires.taken;
      satisfied = u.has_answer;
      place = omega (arith, u.small, ap length shown, v.room);
      few = omega (arith, u.few, v.count, c.args.explored.now.few);
      below = subst (λ k. first_forward k (W.part words X f (place_at c.deref_mut.result.now) c.index.result.now)
          ≡ None)
          (sym v.count)
          (subst (λ z. first_forward i (W.part words X f (place_at z) c.index.result.now) ≡ None) (sym shown)
          (next_below words X f n (is_reached words X f n has c.reverse.new.self.items used) i c.loop-place.parts
          c.loop-place.places.items c.index.result.now u.low u.at
          (v.made (is_reached words X f n has c.reverse.new.self.items used))));
    }

pub loop-place-preserved : goal.loop-place-preserved
loop-place-preserved g c =
    let X = g.E.Expander.expansion c.args.expander.now in
    let words = words_by (g.E.Expander.cells c.args.expander.now) in
    let f = (explored_view c.args.explored.now).found in
    let i = c.loop-place.place in
    let n = c.args.goal in
    let has = c.requires.satisfied in
    let used = c.reverse.ensures.items ∙ c.in_ok-goals.ensures X c.requires.explores c.requires.rounds has in
    let t = c.loop-place-test.true in
    let low : i < length c.reverse.new.self.items = grind (arith, t, c.len.ensures) in
    let u = turn words X f n has c.reverse.new.self.items used i c.index.result.now low c.index.ensures in
    let v = c.loop-place.invariant in
    let shown = c.deref_mut.ensures.value in
    let long : length c.add_part.new.places ≡ length c.loop-place.places.items =
    c.add_part.ensures.length ∙ ap length shown in
    let len : c.loop-place.places.len ≡ length c.loop-place.places.items =
    sym c.deref_mut.ensures.len ∙ ap length shown in
    let all = written c.loop-place.places.len c.add_part.new.places c.loop-place.places.items long len in
    let grown = ap length c.in_ok-last.ensures.parts in
    record {
      made = λ r. subst (λ z. Made words X f n r (i + 1) c.add_part.new.parts z) (sym all)
          (made_on words X f n r i c.loop-place.parts c.add_part.new.parts c.loop-place.places.items
          c.add_part.new.places c.index.result.now u.low u.at (omega (arith, u.small, v.room)) (v.made r)
          (c.in_ok-last.ensures.parts ∙ ap (λ z. c.loop-place.parts ++ W.part words X f (place_at z)
          c.index.result.now ∷ []) shown)
          (c.in_ok-last.ensures.places ∙ ap₂ (λ z k. set z c.index.result.now k) shown v.count));
      count = omega (
        arith,
        v.count,
        grown,
        length-append c.loop-place.parts (W.part words X f
            (place_at c.deref_mut.result.now) c.index.result.now ∷ []),
      );
      room = ap length all ∙ long ∙ v.room;
      last = λ k. omega (arith, c.in_ok-last.ensures.number, v.count);
    }

pub returns : goal.returns
returns g c =
    let X = g.E.Expander.expansion c.args.expander.now in
    let words = words_by (g.E.Expander.cells c.args.expander.now) in
    let f = (explored_view c.args.explored.now).found in
    let i = c.loop-place.place in
    let n = c.args.goal in
    let has = c.requires.satisfied in
    let used = c.reverse.ensures.items ∙ c.in_ok-goals.ensures X c.requires.explores c.requires.rounds has in
    let t = c.loop-place-test.false in
    let e = c.loop-place.auto.place-end in
    let end : i ≡ length c.reverse.new.self.items = grind (arith, t, e, c.len.ensures) in
    let v = c.loop-place.invariant in
    let d = ended words X f n has c.reverse.new.self.items used i c.loop-place.parts c.loop-place.places.items
    c.loop-place.last.0 end v.count (v.made (is_reached words X f n has c.reverse.new.self.items used)) v.last in
    record {
      parts = d.all;
      last = d.own;
      document = d.stands;
      meets = λ T sound. subst (IsMet T X f n) (sym d.stands) (goal_met T words X f sound n has);
    }
