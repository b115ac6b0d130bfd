-- Sums over the characters of runs, and numbers row by row.
use Rattle.std.proofs.Common.{◌≡◌, ℕ, zero, suc, ◌+◌, ◌*◌, ◌<◌, ◌≤◌, inl, inr, min, List, [], ◌∷◌, ◌++◌, Bool, get_or, length, ap, sym, ◌∙◌, length-append, arith}
use Rattle.std.specs.List.{range_with_len}
use Rattle.std.proofs.lemmas.Bool.{cases_lt}
use Rattle.std.proofs.lemmas.List.{get_or_append_left}
use Rattle.std.proofs.Math.Seq.{get_or-append_seam}
use Rattle.list_laws.proofs.Counts.{sum_over}
use Rattle.list_laws.specs.In.{IsIn}
use Rattle.word_states.specs.Atom.{Atom}
use Rattle.word_states.specs.Rows.{targets_of}
use Rattle.cell_laws.specs.FirstWords.{count_of}
use Rattle.cell_laws.proofs.Sums.{sum_cut}
use Rattle.js_row_words.specs.declared.runs.Run.{Run}
use Rattle.js_row_words.specs.Runs.{IsRun, letters_in}
use Rattle.js_row_words.specs.Counts.{to_row, AreNumbers}
use Rattle.js_row_words.proofs.ChoiceLaws.{same}
use Rattle.list_laws.proofs.Numbers.{min_twice}

sum_range : (f : ℕ → ℕ) (each : ℕ) (rest : List ℕ) (a n : ℕ) → ((c : ℕ) → a ≤ c → c < a + n → f c ≡ each)
    → sum_over f (range_with_len a n ++ rest) ≡ each * n + sum_over f rest
sum_range f each rest a zero s = grind arith
sum_range f each rest a (suc n) s =
    let h = s a (omega arith) (omega arith) in
    let e = sum_range f each rest (a + 1) n (λ c u v. s c (omega (arith, u)) (omega (arith, v))) in
    let p : each * suc n ≡ each + each * n = grind arith in
    omega (arith, h, e, p)

-- one more run
pub sum_run : (atoms : List Atom) (L : List (List ℕ)) (numbers : List ℕ) (row : ℕ) (run : Run) → IsRun atoms run
    → (target each : ℕ) → target ≡ get_or (targets_of atoms L (get_or L row [])) run.class 0
    → each ≡ get_or numbers target 0 → (rest : List ℕ) (bound sum new total : ℕ)
    → min bound (sum + sum_over (λ c. get_or numbers (to_row atoms L row c) 0) (letters_in run ++ rest)) ≡ total
    → new ≡ min (sum + each * run.count) bound
    → min bound (new + sum_over (λ c. get_or numbers (to_row atoms L row c) 0) rest) ≡ total
sum_run atoms L numbers row run is target each leads has rest bound sum new total e n =
    let s = sum_range (λ c. get_or numbers (to_row atoms L row c) 0) each rest run.first run.count
    (same atoms L numbers row run is target each leads has) in
    cut bound sum (each * run.count) (sum_over (λ c. get_or numbers (to_row atoms L row c) 0) rest)
    (sum_over (λ c. get_or numbers (to_row atoms L row c) 0) (letters_in run ++ rest)) new total s e n where
      cut : (b s p r q n t : ℕ) → q ≡ p + r → min b (s + q) ≡ t → n ≡ min (s + p) b → min b (n + r) ≡ t
      cut b s p r q n t e f g = grind (arith, e, f, g)

-- one more row
pub cut_more : (rows bound : ℕ) (f : ℕ → ℕ) (numbers new : List ℕ) (n : ℕ) → AreNumbers rows bound f numbers
    → n ≡ min bound (f rows) → new ≡ numbers ++ n ∷ [] → AreNumbers (rows + 1) bound f new
cut_more rows bound f numbers new n a e p = record {
  size =
      let s = length-append numbers (n ∷ []) in
      let l = a.size in
      ap length p ∙ omega (arith, s, l);
  cut = λ r l. ap (λ z. get_or z r 0) p ∙ elim (cases_lt r rows) [
    | inl m ↦ get_or_append_left numbers (n ∷ []) 0 r (let s = a.size in omega (arith, m, s)) ∙ a.cut r m
    | inr m ↦
        let q : r ≡ length numbers = let s = a.size in omega (arith, l, m, s) in
        let k : r ≡ rows = omega (arith, l, m) in
        ap (λ z. get_or (numbers ++ n ∷ []) z 0) q ∙ get_or-append_seam numbers n [] 0 ∙ e
        ∙ ap (λ z. min bound (f z)) (sym k)
  ];
}

pub none_cut : (bound : ℕ) (f : ℕ → ℕ) (numbers : List ℕ) → numbers ≡ [] → AreNumbers 0 bound f numbers
none_cut bound f numbers e = record { size = ap length e; cut = λ r l. absurd (omega (arith, l)) }

-- the numbers of words with one letter more
pub cut_longer : (letters : List ℕ) (to : ℕ → ℕ → ℕ) (in_cell : ℕ → Bool) (rows bound m : ℕ)
    → ((r c : ℕ) → r < rows → IsIn c letters → to r c < rows) → (numbers longer : List ℕ)
    → AreNumbers rows bound (count_of letters to in_cell m) numbers
    → AreNumbers rows bound (λ r. sum_over (λ c. get_or numbers (to r c) 0) letters) longer
    → AreNumbers rows bound (count_of letters to in_cell (suc m)) longer
cut_longer letters to in_cell rows bound m closed numbers longer a b = record {
  size = b.size;
  cut = λ r l. b.cut r l
      ∙ sum_cut bound (λ c. get_or numbers (to r c) 0) (λ c. count_of letters to in_cell m (to r c)) letters
      (λ c i. ap (min bound) (a.cut (to r c) (closed r c l i))
      ∙ min_twice bound (count_of letters to in_cell m (to r c)));
}
