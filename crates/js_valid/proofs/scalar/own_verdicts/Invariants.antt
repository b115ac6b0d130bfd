use Rattle.std.proofs.Common.{◌≡◌, ◌++◌, [], map, drop}
use Rattle.draft06.specs.EntryValidity.{form_at}
use Rattle.js_doc.specs.View.{view}
use Rattle.js_match.specs.Matching.{matches}
use Rattle.js_valid.specs.Parts.{flag, own}
use Rattle.js_valid.specs.Plan.{table_of}
use Rattle.js_valid.proofs.scalar.own_verdicts.Given as goal

abbrev pub invariant-loop-entry : goal.invariant-loop-entry
invariant-loop-entry l =
    l.verdicts.items
    ++ map (λ q. own matches (flag []) (form_at (table_of l.validator) q) (view l.doc)) (drop l.entry-index l.entries)
    ≡ map (λ q. own matches (flag []) (form_at (table_of l.validator) q) (view l.doc)) l.entries
