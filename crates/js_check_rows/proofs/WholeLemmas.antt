-- Rows of which all were stated.
use Rattle.std.proofs.Common.{◌≡◌, ◌<◌, length, arith}
use Rattle.js_check_rows.specs.declared.rows.Rows.{Rows}
use Rattle.js_check_rows.specs.MentionsView.{atoms_in}
use Rattle.js_check_rows.specs.RowsView.{count_of, table_of}
use Rattle.js_check_rows.proofs.MentionLemmas.{words_count}
use Rattle.js_check_rows.proofs.RowLemmas.{kept_length}

-- no further one was mentioned
pub whole_words : (r : Rows) → length (table_of r).targets ≡ count_of r → length (table_of r).words ≡ count_of r
whole_words r e =
    let m = r.mentions in
    let n = words_count (atoms_in m) m.list.items in
    let s = kept_length m r.stated r.targets.items in
    let k = r.known in
    let f = m.few in
    omega (arith, e, n, s, k, f)

-- a table has at least one row
pub some_words : (r : Rows) → 0 < length (table_of r).words
some_words r =
    let m = r.mentions in
    let n = words_count (atoms_in m) m.list.items in
    let b = m.begun in
    omega (arith, n, b)
