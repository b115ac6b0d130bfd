-- One more demand of the path is looked at.
use Rattle.std.proofs.Common.{◌≡◌, ◌+◌, ◌<◌, length, ◌++◌, drop, [], ◌∷◌, cond, map, arith, ap, sym, ◌∙◌, subst, append-nil}
use Rattle.js_algebra.specs.View.{signed_view}
use Rattle.js_plans.specs.Servers.{earlier, servers_of}
use Rattle.js_plans.proofs.Grown.{next_earlier, get_within, few_after}
use Rattle.js_plans.proofs.Extents.{earlier-new}
use Rattle.js_plans.proofs.path.earlier.Goals as goal
use Rattle.js_plans.proofs.path.earlier.Goals.{then-serves_too+in_ok-push, else-serves_too}
use Rattle.std.proofs.lemmas.List.{get_or_default}

pub returns-in-New : goal.returns-in-New
returns-in-New c =
    let ds = map signed_view c.args.demands.now in
    let ws = servers_of c.args.path.now in
    ap (map signed_view) c.new-found.ensures.items
    ∙ sym (ap (λ s. earlier s ds 0 ws) c.in-New.is ∙ earlier-new c.in-New.field-0 ds 0 ws)

pub loop-i-preserved : goal.loop-i-preserved
loop-i-preserved c =
    let x = c.index-path-i.result in
    let l : c.loop-i.i < length c.args.demands.now = omega (arith, c.loop-i-test.true, c.requires) in
    let (y, at) = get_within c.args.demands.now c.loop-i.i l in
    let next = next_earlier c.args.server c.args.path.now c.args.demands.now c.loop-i.i c.loop-i.members x y
    c.serves_too.result c.loop-i.found.items c.if-serves_too.found.items _ c.loop-i-test.true
    l c.index-path-i.is at c.serves_too.ensures in
    record {
      found = subst (λ m. map signed_view c.if-serves_too.found.items
          ++ earlier c.args.server (map signed_view (drop (c.loop-i.i + 1) c.args.demands.now)) m
          (servers_of (drop (c.loop-i.i + 1) c.args.path.now))
          ≡ earlier c.args.server (map signed_view c.args.demands.now) 0 (servers_of c.args.path.now))
          (sym c.members_after-members.ensures)
          (elim c.if-serves_too.branch [
            | then-serves_too+in_ok-push w ↦
                next
                (ap (λ v. v.items) w.found-is ∙ w.in_ok-push.ensures.items
                ∙ ap (λ z. c.loop-i.found.items ++ z ∷ []) (get_or_default c.args.demands.now c.loop-i.i _ y l ∙ sym at)
                ∙ ap (λ b. c.loop-i.found.items ++ cond b (y ∷ []) []) (sym w.if-serves_too.true))
                c.loop-i.invariant.found
            | else-serves_too w ↦
                next
                (ap (λ v. v.items) w.found-is ∙ sym (append-nil c.loop-i.found.items)
                ∙ ap (λ b. c.loop-i.found.items ++ cond b (y ∷ []) []) (sym w.if-serves_too.false))
                c.loop-i.invariant.found
          ]);
      few = omega (
        arith,
        c.members_after-members.ensures,
        few_after c.loop-i.members x.server,
        c.loop-i.invariant.few,
      );
    }
