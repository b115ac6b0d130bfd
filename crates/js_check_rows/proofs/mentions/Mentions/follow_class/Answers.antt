use Rattle.std.proofs.Common.{◌<◌, [], ◌∷◌, ◌++◌, Ok, length, get_or, refl, sym, ◌∙◌, ap, is_ok, arith}
use Rattle.word_states.specs.Classes.{class_firsts}
use Rattle.word_states.specs.WordState.{have_same_state}
use Rattle.verdicts.specs.RowLines.{extend}
use Rattle.js_automaton.specs.TuplesView.{atoms_of}
use Rattle.js_check_rows.specs.Mentions.{words_of}
use Rattle.js_check_rows.proofs.ClassLemmas.{first_is_in, same_is}
use Rattle.js_check_rows.proofs.MentionLemmas.{words_more, words_count, made_pushed, length_pushed}
use Rattle.js_check_rows.proofs.TargetLemmas.{target_known, target_other, target_new, target_past}
use Rattle.js_check_rows.proofs.mentions.Mentions.follow_class.Goals.{then-number-known-2-via-then-number-known-2, then-number-known-2-via-else-number-known-2+then-number-self}
use Rattle.js_check_rows.proofs.mentions.Mentions.follow_class.Goals as goal

pub same-requires-clause-first : goal.same-requires-clause-first
same-requires-clause-first c =
    let m = c.args.self.now in
    let atoms = atoms_of m.tuples in
    let v = get_or (words_of atoms m.list.items) c.args.row [] in
    let f = get_or (class_firsts atoms) c.args.class 0 in (
      v ++ f ∷ [],
      c.in_ok-state.ensures v f (m.made c.args.row c.index.result.now c.requires.row c.index.ensures)
          (first_is_in atoms c.args.class c.requires.class),
    )

pub returns-then-same-clause-right : goal.returns-then-same-clause-right
returns-then-same-clause-right c =
    let m = c.args.self.now in
    let atoms = atoms_of m.tuples in
    let ws = words_of atoms m.list.items in
    let v = get_or ws c.args.row [] in
    let f = get_or (class_firsts atoms) c.args.class 0 in
    let h = c.in_ok-state.ensures v f (m.made c.args.row c.index.result.now c.requires.row c.index.ensures)
    (first_is_in atoms c.args.class c.requires.class) in
    let l : c.args.number < length m.list.items = omega (arith, c.if-number-known.true, c.len-known.ensures) in
    let k = m.made c.args.number c.index-then-number-known.result.now l c.index-then-number-known.ensures in
    let n = words_count atoms m.list.items in
    target_known (have_same_state atoms) (extend atoms) [] m.count ws (v ++ f ∷ []) c.args.number (omega (arith, l, n))
    (same_is atoms (v ++ f ∷ []) (get_or ws c.args.number []) c.same.result
    (c.same.ensures (v ++ f ∷ []) (get_or ws c.args.number []) h k) ∙ c.if-same.true)

pub returns-then-number-known-clause-wrong : goal.returns-then-number-known-clause-wrong
returns-then-number-known-clause-wrong c =
    let m = c.args.self.now in
    let atoms = atoms_of m.tuples in
    let ws = words_of atoms m.list.items in
    let v = get_or ws c.args.row [] in
    let f = get_or (class_firsts atoms) c.args.class 0 in
    let h = c.in_ok-state.ensures v f (m.made c.args.row c.index.result.now c.requires.row c.index.ensures)
    (first_is_in atoms c.args.class c.requires.class) in
    let l : c.args.number < length m.list.items = omega (arith, c.if-number-known.true, c.len-known.ensures) in
    let k = m.made c.args.number c.index-then-number-known.result.now l c.index-then-number-known.ensures in
    let n = words_count atoms m.list.items in (
      refl,
      target_other (have_same_state atoms) (extend atoms) [] m.count ws (v ++ f ∷ []) c.args.number
          (omega (arith, l, n))
          (same_is atoms (v ++ f ∷ []) (get_or ws c.args.number []) c.same.result
          (c.same.ensures (v ++ f ∷ []) (get_or ws c.args.number []) h k) ∙ c.if-same.false),
    )

pub returns-then-number-known-2-clause-wrong : goal.returns-then-number-known-2-clause-wrong
returns-then-number-known-2-clause-wrong c =
    let m = c.args.self.now in
    let atoms = atoms_of m.tuples in
    let ws = words_of atoms m.list.items in
    let n = words_count atoms m.list.items in
    let x = get_or ws c.args.row [] ++ get_or (class_firsts atoms) c.args.class 0 ∷ [] in
    let e = c.len-known.ensures in
    let p = c.if-number-known.false in (
      refl,
      elim c.then-number-known-2.branch [
        | then-number-known-2-via-then-number-known-2 w ↦
            target_past (have_same_state atoms) (extend atoms) [] m.count ws x c.args.number
            (λ l. omega (arith, l, n, e, p)) (λ q l. w.if-number-known-2.true (omega (arith, q, n, e)))
        | then-number-known-2-via-else-number-known-2+then-number-self w ↦
            target_past (have_same_state atoms) (extend atoms) [] m.count ws x c.args.number
            (λ l. omega (arith, l, n, e, p)) (λ q l. omega (arith, l, w.if-number-self.true))
      ],
    )

pub invariant_of-self-2 : goal.invariant_of-self-2
invariant_of-self-2 c =
    let m = c.args.self.now in
    let atoms = atoms_of m.tuples in
    let v = get_or (words_of atoms m.list.items) c.args.row [] in
    let f = get_or (class_firsts atoms) c.args.class 0 in
    let n = length_pushed (is_ok c.push.result) m.list.items c.push.new.self.items _ c.push.ensures.items in
    record {
      made =
          made_pushed atoms (is_ok c.push.result) m.list.items c.push.new.self.items _ c.push.ensures.items m.made
          (c.in_ok-state.ensures v f (m.made c.args.row c.index.result.now c.requires.row c.index.ensures)
          (first_is_in atoms c.args.class c.requires.class));
      begun = let b = m.begun in omega (arith, b, n.0);
      few = let e = c.len-known.ensures in let s = c.if-number-self.false in let q = c.if-number-known-2.false in
          omega (arith, n.1, e, s, q);
      small = m.small;
    }

pub returns-clause-right : goal.returns-clause-right
returns-clause-right c =
    let m = c.args.self.now in
    let atoms = atoms_of m.tuples in
    let ws = words_of atoms m.list.items in
    let n = words_count atoms m.list.items in
    let x = get_or ws c.args.row [] ++ get_or (class_firsts atoms) c.args.class 0 ∷ [] in
    let e = c.len-known.ensures in let s = c.if-number-self.false in let q = c.if-number-known-2.false in
    target_new (have_same_state atoms) (extend atoms) [] m.count ws x c.args.number (omega (arith, q, n, e))
    (omega (arith, s))
    ∙ ap Ok (sym (words_more atoms m.list.items _))
    ∙ ap (λ z. Ok (words_of atoms z)) (sym c.in_ok-push.ensures.items)
