-- A choice among the characters of a run, of which each is followed by the same number of words.
use Rattle.std.proofs.Common.{◌≡◌, ℕ, zero, suc, ◌+◌, ◌-◌, ◌*◌, ◌/◌, ◌%◌, ◌<◌, ◌≤◌, inl, inr, List, [], ◌∷◌, ◌++◌, true, false, cond, nat_lt, get_or, length, drop, ap, ap₂, sym, ◌∙◌, subst, arith}
use Rattle.std.specs.List.{range_with_len}
use Rattle.std.proofs.lemmas.Bool.{cases_lt, lt-ltb, le-ltb}
use Rattle.std.proofs.Math.Nat.{div-add-mod, div-lt_iff_lt-mul, mod-lt}
use Rattle.std.proofs.Math.Seq.{drop-cons}
use Rattle.word_states.specs.Atom.{Atom}
use Rattle.word_states.specs.Rows.{targets_of}
use Rattle.cell_laws.specs.FirstWords.{pick}
use Rattle.js_row_words.specs.declared.runs.Run.{Run}
use Rattle.js_row_words.specs.Runs.{IsRun, AreRuns, spelled, letters_in}
use Rattle.js_row_words.specs.Counts.{to_row}

module _ (count : ℕ → ℕ) (next : ℕ → ℕ → List ℕ) (rest : List ℕ) (each : ℕ) where
  abbrev Same : ℕ → ℕ → Type 0
  Same a n = (c : ℕ) → a ≤ c → c < a + n → count c ≡ each

  pick_here : (a n i j k : ℕ) → Same a n → k ≡ i * each + j → j < each → i < n
      → pick count next (range_with_len a n ++ rest) k ≡ (a + i) ∷ next (a + i) j
  pick_here a zero i j k s e l m = absurd (omega (arith, m))
  pick_here a (suc n) zero j k s e l m =
      let h = s a (omega arith) (omega arith) in
      let q : k ≡ j = grind (arith, e) in
      let t : nat_lt k (count a) ≡ true = lt-ltb k (count a) (omega (arith, h, q, l)) in
      let z : a ≡ a + 0 = omega arith in
      ap (λ b. cond b (a ∷ next a k) (pick count next (range_with_len (a + 1) n ++ rest) (k - count a))) t
      ∙ ap₂ (λ x y. x ∷ next x y) z q
  pick_here a (suc n) (suc i) j k s e l m =
      let h = s a (omega arith) (omega arith) in
      let q : k ≡ each + (i * each + j) = grind (arith, e) in
      let t : nat_lt k (count a) ≡ false = le-ltb k (count a) (omega (arith, h, q)) in
      let z : (a + 1) + i ≡ a + suc i = omega arith in
      ap (λ b. cond b (a ∷ next a k) (pick count next (range_with_len (a + 1) n ++ rest) (k - count a))) t
      ∙ pick_here (a + 1) n i j (k - count a)
      (λ c u v. s c (omega (arith, u)) (omega (arith, v))) (omega (arith, q, h)) l (omega (arith, m))
      ∙ ap (λ x. x ∷ next x j) z

  pick_past : (a n k : ℕ) → Same a n → n * each ≤ k
      → pick count next (range_with_len a n ++ rest) k ≡ pick count next rest (k - n * each)
  pick_past a zero k s l =
      let e : k ≡ k - 0 * each = grind arith in ap (λ z. pick count next rest z) e
  pick_past a (suc n) k s l =
      let h = s a (omega arith) (omega arith) in
      let p : suc n * each ≡ each + n * each = grind arith in
      let t : nat_lt k (count a) ≡ false = le-ltb k (count a) (omega (arith, h, p, l)) in
      let e : (k - count a) - n * each ≡ k - suc n * each = omega (arith, h, p) in
      ap (λ b. cond b (a ∷ next a k) (pick count next (range_with_len (a + 1) n ++ rest) (k - count a))) t
      ∙ pick_past (a + 1) n (k - count a) (λ c u v. s c (omega (arith, u)) (omega (arith, v)))
      (omega (arith, p, l, h))
      ∙ ap (λ z. pick count next rest z) e

module _ (atoms : List Atom) (L : List (List ℕ)) (numbers : List ℕ) (row : ℕ) where
  abbrev counted : ℕ → ℕ
  counted c = get_or numbers (to_row atoms L row c) 0

  module _ (run : Run) (is : IsRun atoms run) (target each : ℕ)
      (leads : target ≡ get_or (targets_of atoms L (get_or L row [])) run.class 0)
      (has : each ≡ get_or numbers target 0) where
    leads_all : (c : ℕ) → run.first ≤ c → c < run.first + run.count → to_row atoms L row c ≡ target
    leads_all c l m =
        ap (λ k. get_or (targets_of atoms L (get_or L row [])) k 0) (is.letters c l m).1 ∙ sym leads

    pub same : (c : ℕ) → run.first ≤ c → c < run.first + run.count → counted c ≡ each
    same c l m = ap (λ r. get_or numbers r 0) (leads_all c l m) ∙ sym has

    some : (left : ℕ) → left < each * run.count → 0 < each
    some left l = elim (cases_lt 0 each) [
      | inl m ↦ m
      | inr m ↦
          let z : each ≡ 0 = omega (arith, m) in
          let q : each * run.count ≡ 0 = ap (λ x. x * run.count) z ∙ grind arith in
          absurd (omega (arith, l, q))
    ]

    pub place_below : (left : ℕ) → left < each * run.count → left / each < run.count
    place_below left l =
        let p : each * run.count ≡ run.count * each = grind arith in
        (div-lt_iff_lt-mul {k = each} {x = left} {y = run.count} (some left l)).1 (omega (arith, l, p))

    -- a number that falls into a run picks its letter by the quotient, and goes on with the remainder
    pub chosen : (rest : List ℕ) (left : ℕ) → left < each * run.count → (next : ℕ → ℕ → List ℕ)
        → pick counted next (letters_in run ++ rest) left
        ≡ (run.first + left / each) ∷ next (run.first + left / each) (left % each)
    chosen rest left l next =
        let e = div-add-mod left each in
        let p : each * (left / each) ≡ (left / each) * each = grind arith in
        pick_here counted next rest each run.first run.count (left / each) (left % each) left same
        (omega (arith, e, p)) (mod-lt left (some left l)) (place_below left l)

    pub passed : (rest : List ℕ) (left : ℕ) → each * run.count ≤ left → (next : ℕ → ℕ → List ℕ)
        → pick counted next (letters_in run ++ rest) left ≡ pick counted next rest (left - each * run.count)
    passed rest left l next =
        let p : each * run.count ≡ run.count * each = grind arith in
        pick_past counted next rest each run.first run.count left same (omega (arith, l, p))
        ∙ ap (λ z. pick counted next rest (left - z)) (sym p)

    pub place_leads : (place : ℕ) → place < run.count → target ≡ to_row atoms L row (run.first + place)
    place_leads place l = sym (leads_all (run.first + place) (omega arith) (omega (arith, l)))

abbrev pub no_run : Run
no_run = record { first = 0; count = 0; class = 0 }

pub spelled_left : (runs : List Run) (i : ℕ) → i < length runs
    → spelled (drop i runs) ≡ letters_in (get_or runs i no_run) ++ spelled (drop (suc i) runs)
spelled_left runs i l = ap spelled (drop-cons runs i no_run l)

pub runs_left : (atoms : List Atom) (runs : List Run) (i : ℕ) → i < length runs → AreRuns atoms (drop i runs)
    → IsRun atoms (get_or runs i no_run) × AreRuns atoms (drop (suc i) runs)
runs_left atoms runs i l a = subst (λ z. AreRuns atoms z) (drop-cons runs i no_run l) a
