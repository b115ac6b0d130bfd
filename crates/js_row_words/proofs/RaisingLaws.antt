-- Labels that are raised: widths, what is required of a label, a label more, a row more, a pass more.
use Rattle.std.proofs.Common.{◌≡◌, ℕ, ◌+◌, ◌-◌, ◌*◌, ◌≤◌, ◌<◌, ◌⊎◌, inl, inr, min, List, [], ◌∷◌, ◌++◌, length, get_or, set, Bool, true, false, cond, refl, ap, ap₂, sym, ◌∙◌, subst, arith}
use Rattle.std.specs.List.{sum}
use Rattle.std.proofs.Math.Nat.{sub_self}
use Rattle.std.proofs.lemmas.List.{get_or_append_left, get_or-append_right}
use Rattle.std.proofs.lemmas.List.Sums.{sum_by-le}
use Rattle.std.proofs.lemmas.List.Elements.{All-from_get_or}
use Rattle.std.proofs.lemmas.Bool.{cases_eq}
use Rattle.patterns.specs.CharSet.{has, count_below}
use Rattle.word_states.specs.Atom.{Atom}
use Rattle.word_states.specs.Classes.{class_count, is_in_class}
use Rattle.cell_laws.specs.Counting.{sum_to}
use Rattle.cell_laws.proofs.Rows.{target_in}
use Rattle.cell_laws.proofs.Widths.{width_is, count_same}
use Rattle.js_row_words.specs.Labels.{width_of, in_marks, label_of, AreCut, IsSettled, HaveWords}
use Rattle.std.proofs.Math.Numerals.{suc-eq-add-one}

-- one width more is that of the class's set
pub width_next : (atoms : List Atom) (widths : List ℕ) (k w : ℕ) (set : List (ℕ × ℕ)) → k < class_count atoms
    → ((c : ℕ) → has set c ≡ is_in_class atoms k c) → w ≡ count_below (has set) 0x110000
    → length widths ≡ k → ((j : ℕ) → j < k → get_or widths j 0 ≡ width_of atoms j)
    → (j : ℕ) → j < k + 1 → get_or (widths ++ w ∷ []) j 0 ≡ width_of atoms j
width_next atoms widths k w set l is e n all j m = elim (cases_eq j k) [
  | inl q ↦ subst (λ z. get_or (widths ++ w ∷ []) z 0 ≡ width_of atoms z) (sym q)
      (get_or-append_right widths (w ∷ []) k k 0 n (omega arith) ∙ ap (λ z. get_or (w ∷ []) z 0) (sub_self k)
      ∙ e ∙ count_same (has set) (is_in_class atoms k) is 0x110000 ∙ sym (width_is atoms k l))
  | inr d ↦
      let i : j < k = omega (arith, m, d) in
      get_or_append_left widths (w ∷ []) 0 j (omega (arith, i, n)) ∙ all j i
]

module _ (atoms : List Atom) (L : List (List ℕ)) (marks : List Bool) where
  -- what the first n classes require
  abbrev pub asked_by_first : List ℕ → ℕ → ℕ → ℕ
  asked_by_first labels row n =
      cond (in_marks atoms L marks row) 1 0
      + sum_to n (λ k. width_of atoms k * label_of labels (target_in atoms L row k))

  pub asked_first : (labels : List ℕ) (row : ℕ)
      → cond (in_marks atoms L marks row) 1 0 ≡ min 65537 (asked_by_first labels row 0)
  asked_first labels row = go (in_marks atoms L marks row) where
    go : (b : Bool) → cond b 1 0 ≡ min 65537 (cond b 1 0 + 0)
    go true = omega arith
    go false = omega arith

  pub asked_next : (labels : List ℕ) (row n asked width label : ℕ) → asked ≡ min 65537 (asked_by_first labels row n)
      → width ≡ width_of atoms n → label ≡ label_of labels (target_in atoms L row n)
      → min (asked + width * label) 65537 ≡ min 65537 (asked_by_first labels row (n + 1))
  asked_next labels row n asked width label e w l =
      subst (λ z. min (asked + width * label) 65537 ≡ min 65537 (asked_by_first labels row z)) (suc-eq-add-one n)
      (cut (cond (in_marks atoms L marks row) 1 0)
      (sum_to n (λ k. width_of atoms k * label_of labels (target_in atoms L row k))) asked (width * label)
      (width_of atoms n * label_of labels (target_in atoms L row n)) e (ap₂ (λ a b. a * b) w l)) where
        cut : (m s a x y : ℕ) → a ≡ min 65537 (m + s) → x ≡ y → min (a + x) 65537 ≡ min 65537 (m + (y + s))
        cut m s a x y e f = grind (arith, e, f)

  -- the first n rows of the list were looked at
  pub record AreRaised (list first labels : List ℕ) (rose : Bool) (n : ℕ) : Type 0 where
    pub size : length labels ≡ length first
    pub cut : AreCut labels
    pub more : rose ≡ true → sum first < sum labels
    pub same : rose ≡ false → labels ≡ first
    pub words : HaveWords atoms L marks first → HaveWords atoms L marks labels
    pub others : (r : ℕ) → ((i : ℕ) → i < length list → get_or list i 0 ≡ r → ⊥)
        → get_or labels r 0 ≡ get_or first r 0
    pub settled : rose ≡ false → (i : ℕ) → i < n → IsSettled atoms L marks first (get_or list i 0)

  module _ (list first labels : List ℕ) (rose : Bool) (n : ℕ) (l : n < length list)
      (raised : AreRaised list first labels rose n) (now : List ℕ) (size : length now ≡ length labels)
      (cut : AreCut now) (words : HaveWords atoms L marks labels → HaveWords atoms L marks now)
      (others : (r : ℕ) → (get_or list n 0 ≡ r → ⊥) → get_or now r 0 ≡ get_or labels r 0) where
    others_kept : (r : ℕ) → ((i : ℕ) → i < length list → get_or list i 0 ≡ r → ⊥)
        → get_or now r 0 ≡ get_or first r 0
    others_kept r none = others r (none n l) ∙ raised.others r none

    sum_kept : (b : Bool) → rose ≡ b → sum labels < sum now → sum first < sum now
    sum_kept true e m = let f = raised.more e in omega (arith, m, f)
    sum_kept false e m = subst (λ z. sum z < sum now) (raised.same e) m

    -- a label that rose
    pub raised_row : sum labels < sum now → AreRaised list first now true (n + 1)
    raised_row more = record {
      size = size ∙ raised.size;
      cut = cut;
      more = λ e. sum_kept rose refl more;
      same = λ e. cc e;
      words = λ h. words (raised.words h);
      others = others_kept;
      settled = λ e. cc e;
    }

    -- a label that didn't rise
    pub raised_none : now ≡ labels → IsSettled atoms L marks labels (get_or list n 0)
        → AreRaised list first now rose (n + 1)
    raised_none is settled = record {
      size = size ∙ raised.size;
      cut = cut;
      more = λ e. subst (λ z. sum first < sum z) (sym is) (raised.more e);
      same = λ e. is ∙ raised.same e;
      words = λ h. words (raised.words h);
      others = others_kept;
      settled = λ e i m. go e i m (cases_eq i n);
    } where
      go : rose ≡ false → (i : ℕ) → i < n + 1 → (i ≡ n) ⊎ (i ≡ n → ⊥)
          → IsSettled atoms L marks first (get_or list i 0)
      go e i m (inr d) = raised.settled e i (omega (arith, m, d))
      go e i m (inl q) =
          subst (λ z. IsSettled atoms L marks first (get_or list z 0)) (sym q)
          (subst (λ z. IsSettled atoms L marks z (get_or list n 0)) (raised.same e) settled)

-- a pass in which a label rose leaves less to rise, and one in which none rose is the last
pub less_to_rise : (a b : List ℕ) (rose : Bool) → length b ≡ length a → AreCut b → (rose ≡ true → sum a < sum b)
    → (rose ≡ false → b ≡ a)
    → length b * 65537 - sum b + cond rose 1 0 < length a * 65537 - sum a + 1
less_to_rise a b true e cut up same =
    let h : sum b ≤ length b * 65537 =
    sum_by-le (λ x. x) 65537 b (All-from_get_or (λ x. x ≤ 65537) b 0 (λ i l. cut i)) in
    omega (arith, e, h, up refl)
less_to_rise a b false e cut up same = let q : sum b ≡ sum a = ap sum (same refl) in omega (arith, e, q)
