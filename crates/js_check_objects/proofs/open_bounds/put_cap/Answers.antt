-- No bound is put in, and then the one at its place.
use Rattle.std.proofs.Common.{[], ◌∷◌, length, nat_eq, cond, Some, None, ap, ◌∙◌, length-append, arith}
use Rattle.js_check_objects.specs.Bounds.{cap_at}
use Rattle.js_check_objects.proofs.Caps.{cap_none, cap_end}
use Rattle.js_check_objects.proofs.open_bounds.put_cap.Goals as goal

pub loop-caps-preserved : goal.loop-caps-preserved
loop-caps-preserved c = record {
  few = omega (
    arith,
    ap length c.in_ok-push.ensures.items,
    length-append c.loop-caps.caps.items (None ∷ []),
    c.loop-caps-test.true,
    c.len.ensures,
  );
  same = λ k.
      ap (λ z. cap_at z k) c.in_ok-push.ensures.items ∙ cap_none c.loop-caps.caps.items k
      ∙ c.loop-caps.invariant.same k;
}

pub returns-clause-caps : goal.returns-clause-caps
returns-clause-caps c = λ k.
    ap (λ z. cap_at z k) c.in_ok-push-2.ensures.items
    ∙ cap_end c.loop-caps.caps.items c.args.cell c.args.cap
    (omega (arith, c.loop-caps.invariant.few, c.loop-caps-test.false, c.len.ensures)) k
    ∙ ap (λ o. cond (nat_eq c.args.cell k) (Some c.args.cap) o) (c.loop-caps.invariant.same k)
