-- One more demand of the path is looked at.
use Rattle.std.proofs.Common.{◌≡◌, ◌+◌, ◌<◌, length, ◌++◌, drop, [], ◌∷◌, cond, map, arith, ap, sym, ◌∙◌, subst, append-nil}
use Rattle.js_algebra.specs.View.{signed_view}
use Rattle.js_plans.specs.Servers.{earlier, serves_too, members_after}
use Rattle.js_plan_lines.proofs.path.earlier.Goals as goal
use Rattle.js_plan_lines.proofs.path.earlier.Goals.{then-serves_too+in_ok-push, else-serves_too}
use Rattle.std.proofs.lemmas.List.{get_or_default}
use Rattle.js_plans.proofs.Grown.{next_earlier-servers, get_within, few_after}

pub loop-i-preserved : goal.loop-i-preserved
loop-i-preserved c =
    let path = c.args.path.now in
    let demands = c.args.demands.now in
    let i = c.loop-i.i in
    let w : i < length path = c.loop-i-test.true in
    let l : i < length demands = omega (arith, w, c.requires.long) in
    let (x, is) = get_within path i w in
    let (y, at) = get_within demands i l in
    let after : c.members_after-members.result ≡ members_after c.loop-i.members x =
    c.members_after-members.ensures
    ∙ ap (members_after c.loop-i.members) (get_or_default path i _ x w ∙ sym is) in
    let next = next_earlier-servers c.args.server path demands i c.loop-i.members x y c.serves_too.result
    c.loop-i.found.items
    c.if-serves_too.found.items _ w l is at
    (c.serves_too.ensures
    ∙ ap (serves_too c.args.server c.loop-i.members) (get_or_default path i _ x w ∙ sym is)) in
    record {
      found = subst (λ m. map signed_view c.if-serves_too.found.items
          ++ earlier c.args.server (map signed_view (drop (i + 1) demands)) m (drop (i + 1) path)
          ≡ earlier c.args.server (map signed_view (drop c.args.start demands)) c.args.before (drop c.args.start path))
          (sym after)
          (elim c.if-serves_too.branch [
            | then-serves_too+in_ok-push t ↦
                next
                (ap (λ v. v.items) t.found-is ∙ t.in_ok-push.ensures.items
                ∙ ap (λ z. c.loop-i.found.items ++ z ∷ []) (get_or_default demands i _ y l ∙ sym at)
                ∙ ap (λ b. c.loop-i.found.items ++ cond b (y ∷ []) []) (sym t.if-serves_too.true))
                c.loop-i.invariant.found
            | else-serves_too t ↦
                next
                (ap (λ v. v.items) t.found-is ∙ sym (append-nil c.loop-i.found.items)
                ∙ ap (λ b. c.loop-i.found.items ++ cond b (y ∷ []) []) (sym t.if-serves_too.false))
                c.loop-i.invariant.found
          ]);
      few = omega (arith, after, few_after c.loop-i.members x, c.loop-i.invariant.few);
    }
