use Rattle.std.proofs.Common.{ap, ◌∙◌, ◌||◌, nat_eq}
use Rattle.std.specs.BinaryHeap.{heap_items}
use Rattle.js_match.specs.Places.{is_at}
use Rattle.js_valid.proofs.PendingLaws.{rising-push}
use Rattle.js_valid.proofs.pending.Pending.add.Goals as goal

pub returns : goal.returns
returns c k =
    rising-push c.args.place (heap_items c.self.inside.places) (heap_items c.push.new.self)
    c.in_ok-push.ensures.permutation k
    ∙ ap (λ ks. is_at k ks || nat_eq c.args.place k) c.self.view_is
