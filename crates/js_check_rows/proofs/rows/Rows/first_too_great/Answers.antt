use Rattle.std.proofs.Common.{◌≡◌, ◌<◌, ◌≤◌, ◌+◌, get_or, inl, inr, sym, ◌∙◌, ap, subst, arith}
use Rattle.std.proofs.lemmas.Bool.{cases_lt}
use Rattle.word_states.specs.Classes.{class_count}
use Rattle.verdicts.specs.RowLines.{stated}
use Rattle.js_check_rows.specs.RowsView.{atoms_of, table_of}
use Rattle.js_check_rows.specs.Labels.{IsTooGreat}
use Rattle.js_check_rows.proofs.LabelLemmas.{is_past}
use Rattle.js_check_rows.proofs.WholeLemmas.{whole_words}
use Rattle.js_check_rows.proofs.rows.Rows.first_too_great.Goals.{then-target-least+then-labels-target, else-target-least, else-target-least-via-then-target-least+else-labels-target, else-target-least-via-else-target-least}
use Rattle.js_check_rows.proofs.rows.Rows.first_too_great.Goals as goal

pub loop-class-preserved : goal.loop-class-preserved
loop-class-preserved c =
    let r = c.args.self.now in
    let t = table_of r in
    let labels = c.args.labels.now in
    let row = c.args.row in
    let class = c.loop-class.class in
    let target = c.target-target.ensures.target in
    let inv = c.loop-class.invariant in
    let w = whole_words r c.requires.whole in
    let q = c.requires.row in
    let f = c.requires.first in
    let by : class < class_count (atoms_of r) = omega (arith, c.loop-class-test.true, c.classes-class-end.ensures) in
    elim c.if-target-least.branch [
      | then-target-least+then-labels-target v ↦
          let less = v.if-target-least.true in
          let more = v.if-labels-target.true in
          let is = v.least-is in
          let b = inv.before in
          record {
            before = omega (arith, is, less, b);
            all = λ k l m. elim (cases_lt k class) [
              | inl a ↦ inv.all k a (omega (arith, m, is, less))
              | inr a ↦
                  let e : class ≡ k = omega (arith, l, a) in
                  let s : stated t row class ≡ stated t row k = ap (stated t row) e in
                  absurd (omega (arith, m, is, s, target))
            ];
            from = inr (subst (IsTooGreat (atoms_of r) t labels) (sym is)
                (is_past (atoms_of r) t labels row class c.target-target.result target (omega (arith, q))
                (omega (arith, q, w)) by (omega (arith, more))));
          }
      | else-target-least v ↦
          let is = v.least-is in
          let b = inv.before in
          record {
            before = omega (arith, is, b);
            all = λ k l m. elim (cases_lt k class) [
              | inl a ↦ inv.all k a (omega (arith, m, is))
              | inr a ↦
                  let e : class ≡ k = omega (arith, l, a) in
                  subst (λ z. stated t row z < c.if-target-least.least
                  → get_or labels (stated t row z) 0 ≤ get_or labels row 0 + 1) e
                  (λ n. subst (λ z. get_or labels z 0 ≤ get_or labels row 0 + 1) target
                  (elim v.else-target-least.branch [
                    | else-target-least-via-then-target-least+else-labels-target u ↦
                        let no = u.if-labels-target.false in omega (arith, no)
                    | else-target-least-via-else-target-least u ↦
                        let no = u.if-target-least.false in absurd (omega (arith, no, n, target, is))
                  ])) m
            ];
            from = elim inv.from [
              | inl e ↦ inl (is ∙ e)
              | inr g ↦ inr (subst (IsTooGreat (atoms_of r) t labels) (sym is) g)
            ];
          }
    ]
