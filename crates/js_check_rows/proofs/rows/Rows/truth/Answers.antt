use Rattle.std.proofs.Common.{◌<◌, ℕ, [], length, get_or, arith}
use Rattle.js_check_rows.specs.declared.rows.Rows.{Rows}
use Rattle.js_check_rows.specs.MentionsView.{atoms_in, words_in}
use Rattle.js_check_rows.proofs.MentionLemmas.{words_count}
use Rattle.js_check_rows.proofs.rows.Rows.truth.Goals as goal

inside : (r : Rows) (row : ℕ) → row < length (words_in r.mentions) → row < length r.mentions.list.items
inside r row l = let k = words_count (atoms_in r.mentions) r.mentions.list.items in omega (arith, l, k)

pub index-requires : goal.index-requires
index-requires c =
    let r = c.args.self.now in
    let l = inside r c.args.row c.requires.row in
    let k = r.mentions.list.ok in
    omega (arith, l, k)

pub truth-requires-clause-made : goal.truth-requires-clause-made
truth-requires-clause-made c =
    let r = c.args.self.now in (
      get_or (words_in r.mentions) c.args.row [],
      r.mentions.made c.args.row c.index.result.now (inside r c.args.row c.requires.row) c.index.ensures,
    )

pub returns : goal.returns
returns c =
    let r = c.args.self.now in
    c.truth.ensures (get_or (words_in r.mentions) c.args.row [])
    (r.mentions.made c.args.row c.index.result.now (inside r c.args.row c.requires.row) c.index.ensures)
