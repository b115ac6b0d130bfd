-- One source more is read.
use Rattle.std.proofs.Common.{◌≡◌, suc, ◌-◌, ◌<◌, [], ◌∷◌, ◌++◌, length, sym, ap, subst, arith}
use Rattle.std.proofs.lemmas.List.{get_or_read}
use Rattle.js_guard.proofs.Linking.{IsReading, before-within, reading-more, no_source}
use Rattle.js_guard.proofs.reverse.Linked.read_sources.Goals as goal

pub loop-left-preserved : goal.loop-left-preserved
loop-left-preserved c =
    let self = c.args.self.now in
    let E = self.edges.items in
    let q = c.loop-left.left - 1 in
    let kept = c.loop-left.invariant in
    let within = kept.within in
    let inside : q < length E = omega arith in
    let read = get_or_read E q c.index-source.result.now inside c.index-source.ensures no_source in
    let linked = c.requires.linked in
    let low = before-within linked.0 (length self.last.items) self.last.items E linked.1 q inside in
    let left : c.loop-left.left ≡ suc q = omega arith in
    record {
      within = omega (arith, ap (λ s. s.before) read);
      reading = λ L h.
          (let old = subst (λ p. IsReading L c.args.target p c.loop-left.row.items) left (kept.reading L h) in
          subst (IsReading L c.args.target c.index-source.result.now.before) (sym c.in_ok-push.ensures.items)
          (subst (λ s. IsReading L c.args.target s.before (c.loop-left.row.items ++ s.entry ∷ [])) (sym read)
          (reading-more L (length self.last.items) self.last.items E h c.args.target q c.loop-left.row.items inside
          old)));
    }
