-- Runs, one after another.
use Rattle.std.proofs.Common.{◌≡◌, ℕ, zero, suc, ◌+◌, ◌-◌, ◌<◌, ◌≤◌, List, [], ◌∷◌, ◌++◌, true, false, nat_le, get_or, length, flat_map, drop, ap, ap₂, sym, ◌∙◌, subst, append_assoc, append-nil, arith}
use Rattle.std.specs.List.{range_with_len}
use Rattle.std.proofs.lemmas.Bool.{and_parts, and_from, or_left, or_right, true≢false, le-leb}
use Rattle.std.proofs.lemmas.List.Concat.{flat_map-append}
use Rattle.std.proofs.Math.Seq.{drop-cons}
use Rattle.patterns.specs.CharSet.{has, is_within, is_scalar}
use Rattle.word_states.specs.Atom.{Atom}
use Rattle.word_states.specs.Classes.{are_alike, dividers, class_firsts, class_count, class_of, is_in_class}
use Rattle.word_laws.proofs.ClassLaws.{classes_divide}
use Rattle.js_row_words.specs.declared.runs.Run.{Run}
use Rattle.js_row_words.specs.Runs.{IsBlock, AreBlocks, block_letters, IsRun, AreRuns, spelled, letters_in}

-- what lies in one of the ranges is a member
pub in_range_has : (set : List (ℕ × ℕ)) (i c : ℕ) → i < length set → (get_or set i (0, 0)).0 ≤ c
    → c ≤ (get_or set i (0, 0)).1 → has set c ≡ true
in_range_has [] i c l a b = absurd (omega (arith, l))
in_range_has (r ∷ rs) zero c l a b =
    or_left (is_within r c) (has rs c) (and_from (nat_le r.0 c) (nat_le c r.1) (le-leb r.0 c a) (le-leb c r.1 b))
in_range_has (r ∷ rs) (suc i) c l a b =
    or_right (is_within r c) (has rs c) (in_range_has rs i c (omega (arith, l)) a b)

module _ (atoms : List Atom) where
  -- characters of one class from one on
  pub run_is : (at end last class : ℕ) (run : Run) → class < class_count atoms → at < end → end ≤ 0x110000
      → at ≤ last → ((c : ℕ) → at ≤ c → c ≤ last → is_in_class atoms class c ≡ true)
      → run.first ≡ at → run.class ≡ class → 0 < run.count → at + run.count ≤ end → at + run.count ≤ suc last
      → IsRun atoms run
  run_is at end last class run l m n o h f k some a b = record {
    class = omega (arith, l, k);
    some = some;
    small = omega (arith, f, a, n);
    letters = λ c p q.
        let i = h c (omega (arith, f, p)) (omega (arith, f, q, b)) in
        let s = (and_parts (is_scalar c) (are_alike (dividers atoms) (get_or (class_firsts atoms) class 0) c) i).0 in
        (s, sym ((classes_divide atoms c s).2 class l i) ∙ sym k);
  }

  -- each character has a class
  pub some_class : (at classes : ℕ) → is_scalar at ≡ true → class_count atoms ≤ classes
      → ((k : ℕ) → k < classes → is_in_class atoms k at ≡ false) → ⊥
  some_class at classes s l none =
      let (m, h, one) = classes_divide atoms at s in
      true≢false (sym h ∙ none (class_of atoms at) (omega (arith, l, m)))

  pub runs_more : (runs : List Run) (run : Run) → AreRuns atoms runs → IsRun atoms run
      → AreRuns atoms (runs ++ run ∷ [])
  runs_more [] run a r = (r, tt)
  runs_more (x ∷ runs) run a r = (a.0, runs_more runs run a.1 r)

pub range_more : (a m n : ℕ) → range_with_len a m ++ range_with_len (a + m) n ≡ range_with_len a (m + n)
range_more a zero n =
    let e : a + 0 ≡ a = omega arith in
    let f : 0 + n ≡ n = omega arith in ap₂ (λ x y. range_with_len x y) e (sym f)
range_more a (suc m) n =
    let e : a + suc m ≡ (a + 1) + m = omega arith in
    let f : suc m + n ≡ suc (m + n) = omega arith in
    ap (λ z. a ∷ z) (ap (λ z. range_with_len (a + 1) m ++ range_with_len z n) e ∙ range_more (a + 1) m n)
    ∙ ap (λ z. range_with_len a z) (sym f)

-- a run behind the runs of the characters from one on
pub spelled_more : (runs : List Run) (run : Run) (before : List ℕ) (first at : ℕ) → first ≤ at → run.first ≡ at
    → spelled runs ≡ before ++ range_with_len first (at - first)
    → spelled (runs ++ run ∷ []) ≡ before ++ range_with_len first (at + run.count - first)
spelled_more runs run before first at l f e =
    let g : first + (at - first) ≡ at = omega (arith, l) in
    let h : at - first + run.count ≡ at + run.count - first = omega (arith, l) in
    flat_map-append letters_in runs (run ∷ [])
    ∙ ap₂ (λ x y. x ++ y) e (append-nil (letters_in run))
    ∙ append_assoc before (range_with_len first (at - first)) (letters_in run)
    ∙ ap (λ z. before ++ (range_with_len first (at - first) ++ range_with_len z run.count)) (f ∙ sym g)
    ∙ ap (λ z. before ++ z) (range_more first (at - first) run.count)
    ∙ ap (λ z. before ++ range_with_len first z) h

pub block_end : (before : List ℕ) (block : ℕ × ℕ) (at : ℕ) (letters : List ℕ) → block.0 ≤ at
    → at ≤ block.0 + block.1 → block.0 + block.1 ≤ at
    → letters ≡ before ++ range_with_len block.0 (at - block.0) → letters ≡ before ++ block_letters block
unfolding block_letters
block_end before block at letters l m n e =
    let f : at - block.0 ≡ block.1 = omega (arith, l, m, n) in
    e ∙ ap (λ z. before ++ range_with_len block.0 z) f

-- the blocks that are left
pub record AreLeft (letters : List ℕ) (all left : List (ℕ × ℕ)) : Type 0 where
  pub spelled : letters ++ flat_map block_letters left ≡ flat_map block_letters all
  pub blocks : AreBlocks left

pub left_here : (letters : List ℕ) (all blocks : List (ℕ × ℕ)) (i : ℕ) → AreLeft letters all (drop i blocks)
    → i < length blocks → IsBlock (get_or blocks i (0, 0))
left_here letters all blocks i a l =
    (subst (λ z. AreBlocks z) (drop-cons blocks i (0, 0) l) a.blocks).0

pub left_next : (letters new : List ℕ) (all blocks : List (ℕ × ℕ)) (i : ℕ) → AreLeft letters all (drop i blocks)
    → i < length blocks → new ≡ letters ++ block_letters (get_or blocks i (0, 0))
    → AreLeft new all (drop (suc i) blocks)
left_next letters new all blocks i a l e = record {
  spelled = ap (λ z. z ++ flat_map block_letters (drop (suc i) blocks)) e
      ∙ append_assoc letters (block_letters (get_or blocks i (0, 0))) (flat_map block_letters (drop (suc i) blocks))
      ∙ ap (λ z. letters ++ flat_map block_letters z) (sym (drop-cons blocks i (0, 0) l))
      ∙ a.spelled;
  blocks = (subst (λ z. AreBlocks z) (drop-cons blocks i (0, 0) l) a.blocks).1;
}
