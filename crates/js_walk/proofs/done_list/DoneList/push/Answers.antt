use Rattle.std.proofs.Common.{is_some, nat_eq, ap, arith, ◌∙◌}
use Rattle.std.specs.Map.{lookup}
use Rattle.js_walk.proofs.DoneLemmas.{noted-push}
use Rattle.js_walk.proofs.done_list.DoneList.push.Goals as goal

pub invariant_of-self-2 : goal.invariant_of-self-2
invariant_of-self-2 c =
    noted-push c.self.inside.entries.items c.push.new.self.items c.self.inside.noted.items c.make_room.new.noted.items
    c.args.pointer c.len-number.result c.args.done c.self.invariant c.make_room.ensures.stays
    c.in_ok-make_room.ensures.room
    (ap (λ es. is_some (lookup (nat_eq c.args.pointer) es)) c.self.view_is ∙ c.requires) c.in_ok-push.ensures.items
    (omega (arith, c.len-number.ensures))
