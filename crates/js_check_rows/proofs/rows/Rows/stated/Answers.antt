use Rattle.std.proofs.Common.{sym, arith}
use Rattle.js_check_rows.specs.MentionsView.{atoms_in}
use Rattle.js_check_rows.proofs.MentionLemmas.{words_count}
use Rattle.js_check_rows.proofs.RowLemmas.{kept_length}
use Rattle.js_check_rows.proofs.rows.Rows.stated.Goals as goal

pub returns-clause-count : goal.returns-clause-count
returns-clause-count c = let r = c.args.self.now in sym (kept_length r.mentions r.stated r.targets.items)

pub returns-clause-known : goal.returns-clause-known
returns-clause-known c =
    let r = c.args.self.now in
    let k = r.known in
    let n = words_count (atoms_in r.mentions) r.mentions.list.items in
    omega (arith, k, n)
