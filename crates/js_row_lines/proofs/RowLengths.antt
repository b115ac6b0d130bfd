-- A row is named by an earlier one, whose word is shorter by one letter.
use Rattle.std.proofs.Common.{◌≡◌, ℕ, zero, suc, ◌+◌, ◌<◌, ◌≤◌, inl, inr, List, [], ◌∷◌, ◌++◌, map, take, length, get_or, refl, ap, sym, ◌∙◌, length-append, arith}
use Rattle.std.proofs.lemmas.Bool.{cases_lt}
use Rattle.std.proofs.lemmas.List.{get_or-map, get_or-take, length-map, length-take-le}
use Rattle.std.proofs.lemmas.Grind.{get_or_default_zero}
use Rattle.list_laws.proofs.Lists.{get_or-in}
use Rattle.word_states.specs.Atom.{Atom}
use Rattle.word_states.specs.Classes.{class_firsts}
use Rattle.word_states.specs.Rows.{AreRows}
use Rattle.word_laws.proofs.Mentions as M
use Rattle.cell_laws.specs.FirstWords.{Before, IsOrdered}
use Rattle.cell_laws.proofs.Characters.{rank}
use Rattle.finder_laws.proofs.RowOrder.{rows_ordered}
use Rattle.js_row_words.specs.declared.row_steps.Step.{Step}
use Rattle.js_row_words.specs.Steps.{no_step, IsStep, AreSteps}
use Rattle.js_row_lines.proofs.Adding.{number_more, take_whole}
use Rattle.word_laws.proofs.RowLaws.{row_zero}

ordered_at : {A : Type 0} (R : A → A → Type 0) (xs : List A) (d : A) (i j : ℕ) → IsOrdered R xs → i < j
    → j < length xs
    → R (get_or xs i d) (get_or xs j d)
ordered_at R [] d i j o l m = absurd (omega (arith, m))
ordered_at R (x ∷ xs) d i zero o l m = absurd (omega (arith, l))
ordered_at R (x ∷ xs) d zero (suc j) o l m = o.0 (get_or xs j d) (get_or-in xs j d (omega (arith, m)))
ordered_at R (x ∷ xs) d (suc i) (suc j) o l m =
    ordered_at R xs d i j o.1 (omega (arith, l)) (omega (arith, m))

-- so many lengths are those of the first rows' words, and none is above its row's number
pub record AreLengths (L : List (List ℕ)) (lengths : List ℕ) (n : ℕ) : Type 0 where
  pub right : lengths ≡ take n (map length L)
  pub small : (k : ℕ) → k < n → get_or (map length L) k 0 ≤ k

module _ (atoms : List Atom) (L : List (List ℕ)) (rows : AreRows atoms L) where
  -- a later row's word is no shorter
  no_shorter : (i j : ℕ) → i < j → j < length L → length (get_or L i []) ≤ length (get_or L j [])
  no_shorter i j l m = elim (ordered_at (Before rank) L [] i j (rows_ordered atoms L rows) l m) [
    | inl s ↦ omega (arith, s)
    | inr s ↦ (let e = s.0 in omega (arith, e))
  ]

  module _ (i : ℕ) (s : Step) (step : IsStep atoms L i s) where
    one_longer : length (get_or L i []) ≡ length (get_or L s.row []) + 1
    one_longer =
        ap length step.word ∙ length-append (get_or L s.row []) (get_or (class_firsts atoms) s.class 0 ∷ [])

    -- the row of a step comes before the row that it names
    pub named_by_earlier : s.row < i
    named_by_earlier = elim (cases_lt s.row i) [
      | inl l ↦ l
      | inr l ↦
          let e = one_longer in
          elim (cases_lt i s.row) [
            | inl m ↦ (let n = no_shorter i s.row m step.row in absurd (omega (arith, e, n)))
            | inr m ↦
                let same : s.row ≡ i = omega (arith, l, m) in
                let n = ap (λ z. length (get_or L z [])) same in
                absurd (omega (arith, e, n))
          ]
    ]

  length_at : (i : ℕ) → i < length L → get_or (map length L) i 0 ≡ length (get_or L i [])
  length_at i l = get_or-map length L i [] 0 l

  first_at : 0 < length L → get_or (map length L) 0 0 ≡ 0
  first_at l = length_at 0 l ∙ ap length (row_zero atoms L rows)

  pub length_first : (new : List ℕ) → new ≡ 0 ∷ [] → 0 < length L → AreLengths L new 1
  length_first new e l = record {
    right = number_more (map length L) [] new 0 0 0 (let n = length-map L length in omega (arith, n, l))
        (sym (first_at l)) refl e;
    small = λ k m.
        let q : k ≡ 0 = omega (arith, m) in
        let f = ap (λ z. get_or (map length L) z 0) q ∙ first_at l in omega (arith, f);
  }

  -- one more length
  module _ (lengths : List ℕ) (n : ℕ) (s : Step) (l : n < length L) (step : IsStep atoms L n s)
      (h : AreLengths L lengths n) (x d : ℕ) (at : x ≡ get_or lengths s.row d) where
    earlier : s.row < n
    earlier = named_by_earlier n s step

    before_is : x ≡ get_or (map length L) s.row 0
    before_is =
        at ∙ ap (λ z. get_or z s.row d) h.right ∙ get_or-take n (map length L) s.row d earlier
        ∙ get_or_default_zero (map length L) s.row d
        (let m = step.row in let q = length-map L length in omega (arith, m, q))

    pub before_small : x ≤ s.row
    before_small = let e = before_is in let m = h.small s.row earlier in omega (arith, e, m)

    next_is : x + 1 ≡ get_or (map length L) n 0
    next_is =
        ap (λ z. z + 1) (before_is ∙ length_at s.row step.row)
        ∙ sym (one_longer n s step)
        ∙ sym (length_at n l)

    pub length_more : (new : List ℕ) → new ≡ lengths ++ (x + 1) ∷ [] → AreLengths L new (n + 1)
    length_more new e = record {
      right = number_more (map length L) lengths new n 0 (x + 1) (let q = length-map L length in omega (arith, q, l))
          next_is h.right e;
      small = λ k m. elim (cases_lt k n) [
        | inl o ↦ h.small k o
        | inr o ↦
            let q : k ≡ n = omega (arith, o, m) in
            let f = ap (λ z. get_or (map length L) z 0) q ∙ sym next_is in
            let b = before_small in
            let c = earlier in
            omega (arith, q, f, b, c)
      ];
    }

pub lengths_count : (L : List (List ℕ)) (lengths : List ℕ) (n : ℕ) → n ≤ length L → AreLengths L lengths n
    → length lengths ≡ n
lengths_count L lengths n l h =
    ap length h.right
    ∙ length-take-le n (map length L) (let q = length-map L length in omega (arith, l, q))

pub lengths_all : (L : List (List ℕ)) (lengths : List ℕ) (n : ℕ) → n ≡ length L → AreLengths L lengths n
    → lengths ≡ map length L
lengths_all L lengths n e h = h.right ∙ take_whole (map length L) n (e ∙ sym (length-map L length))

-- the loop over rows behind the first one
module _ (atoms : List Atom) (L : List (List ℕ)) (rows : AreRows atoms L) (steps : List Step)
    (are : AreSteps atoms L steps (length L)) (row stop : ℕ) (low : 1 ≤ row) (test : row < stop)
    (all : stop ≡ length L) (lengths : List ℕ) (h : AreLengths L lengths row) where
  within : row < length L
  within = omega (arith, test, all)

  abbrev pub step_of : Step
  step_of = get_or steps row no_step

  step : IsStep atoms L row step_of
  step = are row (omega (arith, low)) within

  pub has_length : step_of.row < length lengths
  has_length =
      let e = named_by_earlier atoms L rows row step_of step in
      let w = within in
      let n = lengths_count L lengths row (omega (arith, w)) h in omega (arith, e, n)

  module _ (x d : ℕ) (at : x ≡ get_or lengths step_of.row d) where
    pub length_small : length L ≤ 65536 → x + 1 < 4294967296
    length_small few =
        let b = before_small atoms L rows lengths row step_of within step h x d at in
        let e = named_by_earlier atoms L rows row step_of step in
        let w = within in omega (arith, few, b, e, w)

    pub length_next : (new : List ℕ) → new ≡ lengths ++ (x + 1) ∷ [] → AreLengths L new (row + 1)
    length_next = length_more atoms L rows lengths row step_of within step h x d at
