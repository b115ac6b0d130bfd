-- Labels that are settled at the rows from which marked rows are reached are the numbers of all rows.
use Rattle.std.proofs.Common.{◌≡◌, ℕ, zero, suc, ◌*◌, ◌≤◌, ◌<◌, min, List, ◌++◌, take, map, length, get_or, Bool, true, false, cond, refl, sym, ◌∙◌, subst, arith}
use Rattle.std.proofs.Math.Seq.{take-append_seam}
use Rattle.word_states.specs.Atom.{Atom}
use Rattle.word_states.specs.Classes.{class_count}
use Rattle.word_states.specs.Rows.{AreRows}
use Rattle.cell_laws.specs.Counting.{sum_to}
use Rattle.cell_laws.proofs.Rows.{target_in}
use Rattle.alternatives.specs.Limit.{most_states}
use Rattle.js_row_words.specs.RowWords.{words_from}
use Rattle.js_row_words.specs.Labels.{width_of, in_marks, label_of, AreCut, IsSettled, HaveWords, HasNext, IsPart}
use Rattle.js_row_words.specs.Reaching.{AreReached}
use Rattle.js_row_words.proofs.LabelLaws.{first_label, words_at_first, numbers_are}

-- labels at first are cut
pub first_cut : (endless : List Bool) → AreCut (map (λ b. cond b 65537 0) endless)
first_cut endless r = subst (λ z. z ≤ 65537) (sym (first_label endless r)) (go (get_or endless r false)) where
  go : (b : Bool) → cond b 65537 0 ≤ 65537
  go true = omega arith
  go false = omega arith

-- a list that was written over whole
pub written : {A : Type 0} (new rest : List A) (n : ℕ) → length new ≡ n → take n (new ++ rest) ≡ new
written new rest n e = subst (λ z. take z (new ++ rest) ≡ new) e (take-append_seam new rest)

sum_none : (n : ℕ) (f : ℕ → ℕ) → ((k : ℕ) → k < n → f k ≡ 0) → sum_to n f ≡ 0
sum_none zero f h = refl
sum_none (suc n) f h =
    let a = h n (omega arith) in
    let b = sum_none n f (λ k l. h k (omega (arith, l))) in
    omega (arith, a, b)

module _ (atoms : List Atom) (L : List (List ℕ)) (rows : AreRows atoms L) (few : length L ≤ most_states)
    (marks seen : List Bool) (list : List ℕ) (reached : AreReached atoms L marks seen list) (endless : List Bool)
    (part : IsPart seen endless)
    (nexts : (i : ℕ) → i < length list → get_or endless (get_or list i 0) false ≡ true
    → HasNext atoms L endless (get_or list i 0))
    (labels : List ℕ) (cut : AreCut labels)
    (words : HaveWords atoms L marks (map (λ b. cond b 65537 0) endless) → HaveWords atoms L marks labels)
    (others : (r : ℕ) → ((i : ℕ) → i < length list → get_or list i 0 ≡ r → ⊥)
    → get_or labels r 0 ≡ get_or (map (λ b. cond b 65537 0) endless) r 0)
    (settled : (i : ℕ) → i < length list → IsSettled atoms L marks labels (get_or list i 0)) where
  -- rows from which no marked row is reached have no words
  unseen : (r : ℕ) → get_or seen r false ≡ false → get_or labels r 0 ≡ 0
  unseen r e =
      others r (λ i l q.
      let m : get_or seen r false ≡ true =
      subst (λ z. get_or seen z false ≡ true) q (reached.listed.members i l) in cc (m, e))
      ∙ first_label endless r ∙ go (get_or endless r false) refl where
        go : (b : Bool) → get_or endless r false ≡ b → ◌≡◌ {A = ℕ} (cond b 65537 0) 0
        go true q = let m = part r q in cc (m, e)
        go false q = refl

  unseen_settled : (r : ℕ) → r < length L → get_or seen r false ≡ false → IsSettled atoms L marks labels r
  unseen_settled r l e b =
      let a : ◌≡◌ {A = ℕ} (cond (in_marks atoms L marks r) 1 0) 0 = unmarked (in_marks atoms L marks r) refl in
      let s : sum_to (class_count atoms) (λ k. width_of atoms k * label_of labels (target_in atoms L r k)) ≡ 0 =
      sum_none (class_count atoms) (λ k. width_of atoms k * label_of labels (target_in atoms L r k))
      (λ k m. none (width_of atoms k) (get_or labels (target_in atoms L r k) 0)
      (unseen (target_in atoms L r k) (target k m (get_or seen (target_in atoms L r k) false) refl))) in
      omega (arith, a, s)
    where
      none : (w x : ℕ) → x ≡ 0 → w * x ≡ 0
      none w x q = grind (arith, q)

      unmarked : (b : Bool) → in_marks atoms L marks r ≡ b → ◌≡◌ {A = ℕ} (cond b 1 0) 0
      unmarked true q = let m = reached.marked r l q in cc (m, e)
      unmarked false q = refl

      target : (k : ℕ) → k < class_count atoms → (b : Bool) → get_or seen (target_in atoms L r k) false ≡ b
          → get_or seen (target_in atoms L r k) false ≡ false
      target k m true q = let s = reached.closed r k l m q in cc (s, e)
      target k m false q = q

  all_settled : (r : ℕ) → r < length L → IsSettled atoms L marks labels r
  all_settled r l = go (get_or seen r false) refl where
    go : (b : Bool) → get_or seen r false ≡ b → IsSettled atoms L marks labels r
    go true e =
        let (i, m, q) = reached.listed.listed r e in
        subst (λ z. IsSettled atoms L marks labels z) q (settled i m)
    go false e = unseen_settled r l e

  -- words go on for ever from rows that are left
  endless_next : (r : ℕ) → get_or endless r false ≡ true → HasNext atoms L endless r
  endless_next r e =
      let (i, m, q) = reached.listed.listed r (part r e) in
      subst (λ z. get_or endless z false ≡ true → HasNext atoms L endless z) q (nexts i m) e

  pub numbers_of : (r : ℕ) → r < length L → get_or labels r 0 ≡ min 65537 (length (words_from atoms L marks r))
  numbers_of = numbers_are atoms L rows marks few labels cut
      (words (words_at_first atoms L rows marks endless (λ r e. reached.leads r (part r e)) endless_next))
      all_settled
