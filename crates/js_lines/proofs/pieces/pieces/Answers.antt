-- A place of the byte ends a piece, and another byte is a part of it.
use Rattle.std.proofs.Common.{refl, ap, ◌∙◌, arith}
use Rattle.line_laws.proofs.PieceLaws.{cut-preserved, grown-preserved}
use Rattle.js_lines.proofs.pieces.pieces.Goals as goal
use Rattle.js_lines.proofs.pieces.pieces.Goals.{then-byte-at+in_ok-push, else-byte-at}

pub loop-i-preserved : goal.loop-i-preserved
loop-i-preserved c =
    elim c.if-byte-at.branch [
      | then-byte-at+in_ok-push w ↦ record {
        behind = omega (arith, w.start-is);
        same = cut-preserved c.args.at c.args.text.now c.loop-i.start c.loop-i.i c.if-byte-at.start c.loop-i.found.items
            c.if-byte-at.found.items _ _ c.loop-i-test.true w.if-byte-at.true refl
            (ap (λ v. v.items) w.found-is ∙ w.in_ok-push.ensures.items) w.start-is c.loop-i.invariant.same;
      }
      | else-byte-at w ↦ record {
        behind = omega (arith, w.start-is, c.loop-i.invariant.behind);
        same = grown-preserved c.args.at c.args.text.now c.loop-i.start c.loop-i.i c.if-byte-at.start
            c.loop-i.found.items
            c.if-byte-at.found.items _ c.loop-i.invariant.behind c.loop-i-test.true w.if-byte-at.false
            (ap (λ v. v.items) w.found-is) w.start-is c.loop-i.invariant.same;
      }
    ]
