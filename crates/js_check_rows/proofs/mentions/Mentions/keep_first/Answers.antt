use Rattle.std.proofs.Common.{length, sym, ap, subst, arith}
use Rattle.std.proofs.lemmas.List.{length-take}
use Rattle.js_automaton.specs.TuplesView.{atoms_of}
use Rattle.js_check_rows.specs.declared.mention.Mention.{Mention}
use Rattle.js_check_rows.specs.Mentions.{AreMade}
use Rattle.js_check_rows.proofs.MentionLemmas.{made_first}
use Rattle.js_check_rows.proofs.mentions.Mentions.keep_first.Goals as goal

pub invariant_of-self : goal.invariant_of-self
invariant_of-self c =
    let m = c.args.self.now in
    let items = c.truncate.ensures.items in
    let n = ap (length {A = Mention}) items in
    let k = length-take c.args.count m.list.items in
    record {
      made =
          subst (AreMade (atoms_of m.tuples)) (sym items)
          (made_first (atoms_of m.tuples) m.list.items c.args.count m.made);
      begun = let b = m.begun in let r = c.requires.begun in omega (arith, n, k, b, r);
      few = let f = m.few in omega (arith, n, k, f);
      small = m.small;
    }
