use Rattle.std.proofs.Common.{sym, ◌∙◌}
use Rattle.js_check_rows.specs.MentionsView.{atoms_in}
use Rattle.js_check_rows.proofs.MentionLemmas.{words_count}
use Rattle.js_check_rows.proofs.rows.Rows.mentioned.Goals as goal

pub returns-clause-count : goal.returns-clause-count
returns-clause-count c = let m = c.args.self.now.mentions in c.len.ensures ∙ sym (words_count (atoms_in m) m.list.items)
