use Rattle.std.proofs.Common.{◌≡◌, ◌<◌, ◌*◌, ◌+◌, ℕ, length, get_or, sym, ◌∙◌, ap, subst, arith}
use Rattle.std.proofs.lemmas.Grind.{get_or_default_zero}
use Rattle.word_states.specs.Classes.{class_count}
use Rattle.js_check_rows.specs.declared.rows.Rows.{Rows}
use Rattle.js_check_rows.specs.MentionsView.{atoms_in}
use Rattle.js_check_rows.specs.RowsView.{table_of}
use Rattle.js_check_rows.proofs.CutLemmas.{lines_at, line_within}
use Rattle.js_check_rows.proofs.MentionLemmas.{words_count}
use Rattle.js_check_rows.proofs.RowLemmas.{kept_length}
use Rattle.js_check_rows.proofs.rows.Rows.target.Goals as goal

before : (r : Rows) (row : ℕ) → row < length (table_of r).targets → row < r.stated
before r row l = let k = kept_length r.mentions r.stated r.targets.items in omega (arith, l, k)

inside : (r : Rows) (row class : ℕ) → row < length (table_of r).targets → class < class_count (atoms_in r.mentions)
    → row * class_count (atoms_in r.mentions) + class < length r.targets.items
inside r row class l m =
    let s = r.size in
    let w = line_within (class_count (atoms_in r.mentions)) r.stated row class (before r row l) m in
    omega (arith, s, w)

pub index-requires : goal.index-requires
index-requires c =
    let r = c.args.self.now in
    subst (λ n. c.args.row * n + c.args.class < r.targets.len) (sym c.classes.ensures)
    (let l = inside r c.args.row c.args.class c.requires.row c.requires.class in
    let k = r.targets.ok in
    omega (arith, l, k))

at : (r : Rows) (row class x n : ℕ) → n ≡ class_count (atoms_in r.mentions) → row < length (table_of r).targets
    → class < class_count (atoms_in r.mentions) → x ≡ get_or r.targets.items (row * n + class) x
    → x ≡ get_or r.targets.items (row * class_count (atoms_in r.mentions) + class) 0
at r row class x n e l m f =
    f ∙ ap (λ z. get_or r.targets.items (row * z + class) x) e
    ∙ get_or_default_zero r.targets.items (row * class_count (atoms_in r.mentions) + class) x (inside r row class l m)

pub returns-clause-target : goal.returns-clause-target
returns-clause-target c =
    let r = c.args.self.now in
    at r c.args.row c.args.class c.index.result.now c.classes.result c.classes.ensures c.requires.row c.requires.class
    c.index.ensures
    ∙ sym (lines_at (class_count (atoms_in r.mentions)) r.stated c.args.row c.args.class r.targets.items
    (before r c.args.row c.requires.row) c.requires.class)

pub returns-clause-within : goal.returns-clause-within
returns-clause-within c =
    let r = c.args.self.now in
    let e = at r c.args.row c.args.class c.index.result.now c.classes.result c.classes.ensures c.requires.row
    c.requires.class c.index.ensures in
    let l = r.within (c.args.row * class_count (atoms_in r.mentions) + c.args.class) in
    let n = words_count (atoms_in r.mentions) r.mentions.list.items in
    omega (arith, e, l, n)
