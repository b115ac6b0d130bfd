-- An index has no name.
use Rattle.std.proofs.Common.{ap}
use Rattle.alternatives.specs.Slots.{word_at}
use Rattle.expansions.specs.DocumentOf.{slot_name}
use Rattle.js_expansion.specs.View.{slot_view}
use Rattle.js_rounds.specs.Slots.{slot_after}
use Rattle.js_rounds.proofs.Members.{empty_name}
use Rattle.js_rounds.proofs.names.name.Goals as goal

pub returns-in-Index : goal.returns-in-Index
returns-in-Index c =
    empty_name c.from_text.result
    (slot_name (word_at c.args.lists.now) (slot_after (slot_view c.args.slot) c.args.behind))
    (ap (λ s. slot_name (word_at c.args.lists.now) (slot_after (slot_view s) c.args.behind)) c.in-Index.is)
    c.from_text.ensures
