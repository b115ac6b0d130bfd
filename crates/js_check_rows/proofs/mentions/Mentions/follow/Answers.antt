use Rattle.std.proofs.Common.{◌≡◌, ◌<◌, length, get_or, refl, ◌∙◌, subst, inl, inr, arith}
use Rattle.std.proofs.lemmas.Bool.{cases_lt}
use Rattle.js_check_rows.proofs.MentionLemmas.{grown_on, is_longer}
use Rattle.js_check_rows.proofs.LineLemmas.{line_next, line_tells}
use Rattle.js_check_rows.proofs.mentions.Mentions.follow.Goals as goal

pub returns-in-Err-clause-wrong : goal.returns-in-Err-clause-wrong
returns-in-Err-clause-wrong c =
    line_tells c.args.self.now c.loop-class.self c.args.row c.loop-class.class _ c.args.line.now c.in-Err.fault
    (record {
      tuples = c.loop-class.invariant.tuples;
      count = c.loop-class.invariant.count;
      grown = c.loop-class.invariant.grown;
      known = c.requires.row;
      width = c.requires.width;
      class = let t = c.loop-class-test.true in let e = c.classes-class-end.ensures in omega (arith, t, e);
      right = c.loop-class.invariant.right;
    }) refl c.in-Err.ensures.wrong

pub loop-class-preserved : goal.loop-class-preserved
loop-class-preserved c =
    let m = c.args.self.now in
    let n = c.loop-class.self in
    let o = c.follow_class.new.self in
    let grown = c.in-Ok.ensures.grown in
    record {
      tuples = c.in-Ok.ensures.tuples ∙ c.loop-class.invariant.tuples;
      count = c.in-Ok.ensures.count ∙ c.loop-class.invariant.count;
      grown = grown_on m.list.items n.list.items o.list.items c.loop-class.invariant.grown grown;
      within = λ k l. elim (cases_lt k c.loop-class.class) [
        | inl b ↦
            let i = c.loop-class.invariant.within k b in
            let g = is_longer n.list.items o.list.items grown in
            omega (arith, i, g)
        | inr b ↦
            let q : c.loop-class.class ≡ k = omega (arith, l, b) in
            subst (λ z. get_or c.args.line.now z 0 < length o.list.items) q c.in-Ok.ensures.within
      ];
      right = line_next m n o c.args.row c.loop-class.class _ c.args.line.now (record {
        tuples = c.loop-class.invariant.tuples;
        count = c.loop-class.invariant.count;
        grown = c.loop-class.invariant.grown;
        known = c.requires.row;
        width = c.requires.width;
        class = let t = c.loop-class-test.true in let e = c.classes-class-end.ensures in omega (arith, t, e);
        right = c.loop-class.invariant.right;
      }) refl c.in-Ok.ensures.right;
    }
