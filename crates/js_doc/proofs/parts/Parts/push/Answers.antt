use Rattle.std.proofs.Common.{◌≡◌, length, sym, rules}
use Rattle.js_doc.proofs.PartTables.{AreParts-pushed}
use Rattle.js_doc.proofs.parts.Parts.push.Goals as goal

pub invariant_of-self-2 : goal.invariant_of-self-2
invariant_of-self-2 c =
    let number : c.len-count.result ≡ length c.self.inside.parts.items = search rules in
    AreParts-pushed c.self.inside.parts.items c.push.new.self.items c.args.self.now c.args.part c.len-count.result
    c.self.view_is c.self.invariant number c.requires c.in_ok-push.ensures.items
    (sym c.in_default.ensures.first) c.first_forward.ensures.rising
