use Rattle.std.proofs.Common.{nat_eq, sym, ap, arith}
use Rattle.std.proofs.lemmas.Bool.{eqb-true}
use Rattle.js_check_rows.specs.MentionsView.{atoms_in}
use Rattle.js_check_rows.proofs.MentionLemmas.{words_count}
use Rattle.js_check_rows.proofs.RowLemmas.{kept_length}
use Rattle.js_check_rows.proofs.rows.Rows.is_whole.Goals as goal

pub returns-clause-whole : goal.returns-clause-whole
returns-clause-whole c =
    let r = c.args.self.now in
    ap (λ z. nat_eq z r.mentions.count) (sym (kept_length r.mentions r.stated r.targets.items))

pub returns-clause-words : goal.returns-clause-words
returns-clause-words c = λ e.
    let r = c.args.self.now in
    let m = r.mentions in
    let q = eqb-true r.stated m.count e in
    let n = words_count (atoms_in m) m.list.items in
    let k = r.known in
    let f = m.few in
    omega (arith, q, n, k, f)
