-- Rows by the lengths of their words, as they are gone through in order.
use Rattle.std.proofs.Common.{◌≡◌, ℕ, ◌+◌, ◌<◌, ◌≤◌, max, inl, inr, List, [], length, get_or, refl, ap, subst, arith}
use Rattle.std.proofs.lemmas.Bool.{cases_lt}
use Rattle.word_states.specs.Atom.{Atom}
use Rattle.word_states.specs.Classes.{class_count}
use Rattle.word_states.specs.Rows.{AreRows}
use Rattle.cell_laws.proofs.Rows.{target_in, first_row}
use Rattle.js_cells.specs.Lengths.{IsNamed}
use Rattle.js_cells.proofs.RowLengths.{row_shortest, later_longer, target_longer, led_to}

-- the rows before this one were gone through: its word has n letters, the rows before `end` have words of no more, and
-- those behind of more; the rows that were led to are before `named`, and their words have one letter more at most
pub record IsLevel (atoms : List Atom) (L : List (List ℕ)) (row n end named : ℕ) : Type 0 where
  pub inside : row < end
  pub low : n ≤ row
  pub here : length (get_or L row []) ≡ n
  pub short : (i : ℕ) → i < end → length (get_or L i []) ≤ n
  pub beyond : (i : ℕ) → end ≤ i → i < length L → n < length (get_or L i [])
  pub led : (p k : ℕ) → p < row → k < class_count atoms → target_in atoms L p k < named
  pub next : (i : ℕ) → i < named → length (get_or L i []) ≤ n + 1
  pub within : named ≤ length L

module _ (atoms : List Atom) (L : List (List ℕ)) (rows : AreRows atoms L) where
  first_empty : length (get_or L 0 []) ≡ 0
  first_empty = let n = row_shortest atoms L rows [] 0 refl (first_row atoms L rows) in omega (arith, n)

  pub level_begins : IsLevel atoms L 0 0 1 1
  level_begins = record {
    inside = omega arith;
    low = omega arith;
    here = first_empty;
    short = λ i l. first i (omega (arith, l));
    beyond = λ i l m. let h = led_to atoms L rows i (omega (arith, l)) m in let e = h.longer in omega (arith, e);
    led = λ p k l m. absurd (omega (arith, l));
    next = λ i l. let n = first i (omega (arith, l)) in omega (arith, n);
    within = (let l = (first_row atoms L rows).0 in omega (arith, l));
  } where
    first : (i : ℕ) → i ≡ 0 → length (get_or L i []) ≤ 0
    first i e = let q = ap (λ k. length (get_or L k [])) e in let f = first_empty in omega (arith, q, f)

  -- the classes of a row, one after another
  pub named_begins : (row named : ℕ) → named ≤ length L → IsNamed atoms L row 0 named named
  named_begins row named l = record {
    above = omega arith;
    within = l;
    targets = λ k m. absurd (omega (arith, m));
    longer = λ i a b. absurd (omega (arith, a, b));
  }

  pub named_more : (row k named next t new : ℕ) → row < length L → k < class_count atoms
      → t ≡ target_in atoms L row k → t < length L → new ≡ max next (t + 1) → IsNamed atoms L row k named next
      → IsNamed atoms L row (k + 1) named new
  named_more row k named next t new l m is within e h =
      let low : next ≤ new = left next (t + 1) new e in
      let high : t + 1 ≤ new = right next (t + 1) new e in record {
        above = (let a = h.above in omega (arith, a, low));
        within = (let a = h.within in most next (t + 1) new (length L) e a (omega (arith, within)));
        targets = λ j o. elim (cases_lt j k) [
          | inl a ↦ (let b = h.targets j a in omega (arith, b, low))
          | inr a ↦
              let q : k ≡ j = omega (arith, o, a) in
              subst (λ z. target_in atoms L row z < new) q (omega (arith, is, high))
        ];
        longer = λ i a b. elim (cases_lt i next) [
          | inl c ↦ h.longer i a c
          | inr c ↦
              let d : i + 1 ≤ t + 1 = least next (t + 1) new i e b c in
              let f = later_longer atoms L rows i t (omega (arith, d)) within in
              let g = target_longer atoms L rows row k l m in
              let q = ap (λ z. length (get_or L z [])) is in omega (arith, f, g, q)
        ];
      } where
        left : (a b x : ℕ) → x ≡ max a b → a ≤ x
        left a b x e = omega (arith, e)

        right : (a b x : ℕ) → x ≡ max a b → b ≤ x
        right a b x e = omega (arith, e)

        most : (a b x n : ℕ) → x ≡ max a b → a ≤ n → b ≤ n → x ≤ n
        most a b x n e l m = omega (arith, e, l, m)

        least : (a t x i : ℕ) → x ≡ max a t → i < x → a ≤ i → i + 1 ≤ t
        least a t x i e l m = omega (arith, e, l, m)

  module _ (row n end named more : ℕ) (h : IsLevel atoms L row n end named)
      (m : IsNamed atoms L row (class_count atoms) named more) where
    led_more : (p k : ℕ) → p < row + 1 → k < class_count atoms → target_in atoms L p k < more
    led_more p k l c = elim (cases_lt p row) [
      | inl o ↦ (let a = h.led p k o c in let b = m.above in omega (arith, a, b))
      | inr o ↦
          let q : row ≡ p = omega (arith, l, o) in
          subst (λ z. target_in atoms L z k < more) q (m.targets k c)
    ]

    next_more : (i : ℕ) → i < more → length (get_or L i []) ≤ n + 1
    next_more i l = elim (cases_lt i named) [
      | inl o ↦ h.next i o
      | inr o ↦ (let a = m.longer i o l in let e = h.here in omega (arith, a, e))
    ]

    pub level_stays : (row + 1 ≡ end → ⊥) → row + 1 < length L → IsLevel atoms L (row + 1) n end more
    level_stays e l =
        let inside : row + 1 < end = (let a = h.inside in grind (arith, a, e)) in record {
          inside = inside;
          low = (let a = h.low in omega (arith, a));
          here = (let a = h.short (row + 1) inside in
              let b = later_longer atoms L rows row (row + 1) (omega arith) l in
              let c = h.here in omega (arith, a, b, c));
          short = h.short;
          beyond = h.beyond;
          led = led_more;
          next = next_more;
          within = m.within;
        }

    -- a later row is led to by one that hasn't been gone through, whose word is longer
    beyond_more : row + 1 ≡ end → (i : ℕ) → more ≤ i → 0 < i → i < length L → n + 1 < length (get_or L i [])
    beyond_more e i l o t =
        let d = led_to atoms L rows i o t in
        let longer = d.longer in
        let is = d.leads in
        elim (cases_lt d.row end) [
          | inl a ↦ (let b = led_more d.row d.class (omega (arith, a, e)) d.small in absurd (omega (arith, b, is, l)))
          | inr a ↦ (let b = h.beyond d.row a d.within in omega (arith, b, longer))
        ]

    -- the next row has been led to
    next_led : row + 1 ≡ end → row + 1 < length L → row + 1 < more
    next_led e l =
        let d = led_to atoms L rows (row + 1) (omega arith) l in
        let longer = d.longer in
        let is = d.leads in
        elim (cases_lt d.row (row + 1)) [
          | inl a ↦ (let b = led_more d.row d.class a d.small in omega (arith, b, is))
          | inr a ↦ (let b = later_longer atoms L rows (row + 1) d.row a d.within in absurd (omega (arith, b, longer)))
        ]

    pub level_ends : row + 1 ≡ end → row + 1 < length L → IsLevel atoms L (row + 1) (n + 1) more more
    level_ends e l =
        let inside = next_led e l in record {
          inside = inside;
          low = (let a = h.low in omega (arith, a));
          here = (let a = next_more (row + 1) inside in
              let b = h.beyond (row + 1) (omega (arith, e)) l in omega (arith, a, b));
          short = next_more;
          beyond = λ i a b. beyond_more e i a (omega (arith, a, inside)) b;
          led = led_more;
          next = λ i a. (let b = next_more i a in omega (arith, b));
          within = m.within;
        }
