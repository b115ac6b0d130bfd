use Rattle.std.proofs.Common.{◌≡◌, ℕ, ◌<◌, drop, true, false, map, min, cond, length, get_or, sym, ◌∙◌, subst}
use Rattle.js_row_words.specs.CounterView.{atoms_of, rows_of}
use Rattle.js_row_words.specs.RowWords.{words_from}
use Rattle.js_row_words.specs.Labels.{AreCut, IsSettled, HaveWords, HasNext, IsPart}
use Rattle.js_row_words.proofs.CountLaws.{first_cut, written, numbers_of}
use Rattle.js_row_words.proofs.count.WordCounter.count.Goals as goal

pub settle-requires-clause-cut : goal.settle-requires-clause-cut
settle-requires-clause-cut c =
    let endless = c.deref-3.result.now in
    subst AreCut (sym (c.deref_mut-2.ensures.value ∙ c.in_ok-labels.ensures)) (first_cut endless)

pub returns-clause-numbers : goal.returns-clause-numbers
returns-clause-numbers c =
    let atoms = atoms_of c.args.self.now in
    let L = rows_of c.args.self.now in
    let marks = c.args.marks.now in
    let seen = c.in_ok-reached.reached.seen.items in
    let list = c.in_ok-reached.reached.list.items in
    let endless = c.deref-3.result.now in
    let labels = c.settle.new.labels in
    let found = c.args.self.now.automaton.now.found in
    let left_is : endless ≡ c.keep_endless.new.left =
    c.deref-3.ensures.value
    ∙ written c.keep_endless.new.left
    (drop (length c.keep_endless.new.left) c.in_ok-endless.endless.items) c.in_ok-endless.endless.len
    (c.keep_endless.ensures.size ∙ c.deref_mut.ensures.len) in
    let seen_is : c.deref_mut.result.now ≡ seen =
    c.deref_mut.ensures.value ∙ c.in_ok-endless.ensures.items ∙ c.deref.ensures.value in
    let first_is : c.deref_mut-2.result.now ≡ map (λ b. cond b 65537 0) endless =
    c.deref_mut-2.ensures.value ∙ c.in_ok-labels.ensures in
    let part : IsPart seen endless =
    subst (λ z. IsPart seen z) (sym left_is) (subst (λ z. IsPart z c.keep_endless.new.left) seen_is
    c.keep_endless.ensures.part) in
    let nexts : (i : ℕ) → i < length list → get_or endless (get_or list i 0) false ≡ true
    → HasNext atoms L endless (get_or list i 0) =
    subst (λ z. (i : ℕ) → i < length list → get_or z (get_or list i 0) false ≡ true
    → HasNext atoms L z (get_or list i 0)) (sym left_is)
    (subst (λ z. (i : ℕ) → i < length z → get_or c.keep_endless.new.left (get_or z i 0) false ≡ true
    → HasNext atoms L c.keep_endless.new.left (get_or z i 0)) c.deref-2.ensures.value
    c.keep_endless.ensures.nexts) in
    let words : HaveWords atoms L marks (map (λ b. cond b 65537 0) endless) → HaveWords atoms L marks labels =
    subst (λ z. HaveWords atoms L marks z → HaveWords atoms L marks labels) first_is c.settle.ensures.words in
    let others : (r : ℕ) → ((i : ℕ) → i < length list → get_or list i 0 ≡ r → ⊥)
    → get_or labels r 0 ≡ get_or (map (λ b. cond b 65537 0) endless) r 0 =
    subst (λ z. (r : ℕ) → ((i : ℕ) → i < length list → get_or list i 0 ≡ r → ⊥)
    → get_or labels r 0 ≡ get_or z r 0) first_is
    (subst (λ z. (r : ℕ) → ((i : ℕ) → i < length z → get_or z i 0 ≡ r → ⊥)
    → get_or labels r 0 ≡ get_or c.deref_mut-2.result.now r 0) c.deref-4.ensures.value c.settle.ensures.others) in
    let settled : (i : ℕ) → i < length list → IsSettled atoms L marks labels (get_or list i 0) =
    subst (λ z. (i : ℕ) → i < length z → IsSettled atoms L marks labels (get_or z i 0)) c.deref-4.ensures.value
    c.settle.ensures.settled in
    let labels_are = written labels (drop (length labels) c.in_ok-labels.labels.items) c.in_ok-labels.labels.len
    (c.settle.ensures.size ∙ c.deref_mut-2.ensures.len) in
    subst (λ z. (r : ℕ) → r < length L → get_or z r 0 ≡ min 65537 (length (words_from atoms L marks r)))
    (sym labels_are)
    (numbers_of atoms L found.1.0 found.1.1 marks seen list c.in_ok-reached.ensures endless part nexts labels
    c.settle.ensures.cut words others settled)
