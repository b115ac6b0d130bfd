-- The cut number by recursion over rows and widths of classes; labels that keep the row rule of a certificate bound
-- it, and the numbers themselves keep it with equality where the first isn't cut.
use Rattle.std.proofs.Common.{◌≡◌, ℕ, zero, suc, ◌+◌, ◌*◌, ◌≤◌, ◌<◌, min, inl, inr, List, [], ◌∷◌, cond, Bool, refl, ap, ap₂, sym, ◌∙◌, subst, arith}
use Rattle.cell_laws.specs.Leading.{AllIn, walk, AtMost, asked}
use Rattle.list_laws.proofs.Counts.{sum_over}
use Rattle.cell_laws.proofs.Upper.{upper, down}
use Rattle.cell_laws.proofs.Groups.{width, by_class}
use Rattle.cell_laws.specs.Counting.{count, number, sum_to, asked_by, number_by}
use Rattle.cell_laws.proofs.Sums.{sum_same, sum_cut, plus_cut, sum_part}
use Rattle.cell_laws.proofs.Settled.{count_step, stable, settled}
use Rattle.list_laws.specs.In.{IsIn}
use Rattle.list_laws.proofs.Numbers.{min_twice, min-right}

sum_to_same : (n : ℕ) (f g : ℕ → ℕ) → ((k : ℕ) → k < n → f k ≡ g k) → sum_to n f ≡ sum_to n g
sum_to_same zero f g h = refl
sum_to_same (suc n) f g h = ap₂ (λ a b. a + b) (h n (omega arith)) (sum_to_same n f g (λ k l. h k (omega (arith, l))))

sum_less : (f g : ℕ → ℕ) (cs : List ℕ) → ((c : ℕ) → IsIn c cs → f c ≤ g c) → sum_over f cs ≤ sum_over g cs
sum_less f g [] h = omega arith
sum_less f g (c ∷ cs) h = omega (arith, h c (inl refl), sum_less f g cs (λ d i. h d (inr i)))

-- labels that are the same at rows require the same
pub asked_by_like : (rows classes : ℕ) (width : ℕ → ℕ) (target : ℕ → ℕ → ℕ) (in_cell : ℕ → Bool)
    (within : (r k : ℕ) → r < rows → k < classes → target r k < rows) (f g : ℕ → ℕ) → ((r : ℕ) → r < rows → f r ≡ g r)
    → (r : ℕ) → r < rows
    → asked_by classes width target in_cell f r ≡ asked_by classes width target in_cell g r
asked_by_like rows classes width target in_cell within f g h r l =
    ap (λ z. cond (in_cell r) 1 0 + z)
    (sum_to_same classes (λ k. width k * f (target r k)) (λ k. width k * g (target r k))
    (λ k m. ap (λ z. width k * z) (h (target r k) (within r k l m))))

-- equal widths of classes, and tests that agree on rows, require the same
pub asked_widths : (classes : ℕ) (v w : ℕ → ℕ) (target : ℕ → ℕ → ℕ) (p q : ℕ → Bool) (f : ℕ → ℕ)
    → ((k : ℕ) → k < classes → v k ≡ w k)
    → ((r : ℕ) → p r ≡ q r) → (r : ℕ) → asked_by classes v target p f r ≡ asked_by classes w target q f r
asked_widths classes v w target p q f h t r =
    ap₂ (λ b z. cond b 1 0 + z) (t r)
    (sum_to_same classes (λ k. v k * f (target r k)) (λ k. w k * f (target r k))
    (λ k m. ap (λ z. z * f (target r k)) (h k m)))

-- the label of a row is at least the sum of its targets' labels by width, and one more where the row is in the cell
abbrev pub KeepsRule : (rows classes : ℕ) (width : ℕ → ℕ) (target : ℕ → ℕ → ℕ) (in_cell : ℕ → Bool) (label : ℕ → ℕ)
    → Type 0
KeepsRule rows classes width target in_cell label = (r : ℕ) → r < rows
    → asked_by classes width target in_cell label r ≤ label r

module _ (letters : List ℕ) (class : ℕ → ℕ) (target : ℕ → ℕ → ℕ) (in_cell : ℕ → Bool) (rows classes : ℕ)
    (classed : (c : ℕ) → IsIn c letters → class c < classes)
    (within : (r k : ℕ) → r < rows → k < classes → target r k < rows) where
  abbrev pub to : ℕ → ℕ → ℕ
  to r c = target r (class c)

  closed : (r c : ℕ) → r < rows → IsIn c letters → to r c < rows
  closed r c l i = within r (class c) l (classed c i)

  -- what is required by letters is what is required by classes
  pub asked_same : (label : ℕ → ℕ) (r : ℕ)
      → asked letters to in_cell label r ≡ asked_by classes (width class letters) target in_cell label r
  asked_same label r =
      ap (λ z. cond (in_cell r) 1 0 + z) (by_class classes class (λ k. label (target r k)) letters classed)

  -- labels that are the same at rows require the same
  pub asked_like : (f g : ℕ → ℕ) → ((r : ℕ) → r < rows → f r ≡ g r) → (r : ℕ) → r < rows
      → asked_by classes (width class letters) target in_cell f r ≡ asked_by classes (width class letters) target
      in_cell g r
  asked_like f g h r l = asked_by_like rows classes (width class letters) target in_cell within f g h r l

  -- the number by recursion is the cut number
  pub number_is : (bound n r : ℕ) → r < rows
      → number_by classes (width class letters) target in_cell bound n r ≡ number letters to in_cell bound n r
  number_is bound zero r l = grind arith
  number_is bound (suc n) r l =
      ap (λ z. min bound (cond (in_cell r) 1 0 + z))
      (sum_to_same classes
      (λ k. width class letters k * number_by classes (width class letters) target in_cell bound n (target r k))
      (λ k. width class letters k * number letters to in_cell bound n (target r k))
      (λ k m. ap (λ z. width class letters k * z) (number_is bound n (target r k) (within r k l m))))
      ∙ ap (λ z. min bound z) (sym (asked_same (number letters to in_cell bound n) r))
      ∙ plus_cut bound (cond (in_cell r) 1 0) (sum_over (λ c. number letters to in_cell bound n (to r c)) letters)
      (sum_over (λ c. count letters to in_cell n (to r c)) letters)
      (sum_cut bound (λ c. number letters to in_cell bound n (to r c)) (λ c. count letters to in_cell n (to r c))
      letters
      (λ c i. min_twice bound (count letters to in_cell n (to r c))))
      ∙ ap (λ z. min bound z) (sym (count_step letters to in_cell n r))

  -- labels that keep the rule bound the numbers of words of any length
  module _ (label : ℕ → ℕ) (keeps : KeepsRule rows classes (width class letters) target in_cell label) where
    pub label_counts : (m r : ℕ) → r < rows → count letters to in_cell m r ≤ label r
    label_counts zero r l = omega arith
    label_counts (suc m) r l =
        let e = count_step letters to in_cell m r in
        let q = asked_same label r in
        let k = keeps r l in
        let s = sum_less (λ c. count letters to in_cell m (to r c)) (λ c. label (to r c)) letters
        (λ c i. label_counts m (to r c) (closed r c l i)) in
        omega (arith, e, q, k, s)

    pub label_bounds : (r : ℕ) → r < rows → AtMost letters to in_cell r (label r)
    label_bounds r l =
        upper rows letters to in_cell (suc (label r)) label closed
        (λ r l b. subst (λ z. z ≤ label r) (sym (asked_same label r)) (keeps r l)) r l (omega arith)

    pub label_number : (bound m r : ℕ) → r < rows → number letters to in_cell bound m r ≤ label r
    label_number bound m r l = let h = label_counts m r l in grind (arith, h)

  module _ (bound far : ℕ) (enough : rows * bound ≤ far) where
    small : (b x : ℕ) → min b x < b → min b x ≡ x
    small b x l = grind (arith, l)

    -- a row whose number isn't cut: the number of words of any length, which is what its targets require
    pub uncut : (r : ℕ) → r < rows → number letters to in_cell bound far r < bound
        → asked_by classes (width class letters) target in_cell (number letters to in_cell bound far) r ≡ number
        letters to in_cell bound far r
    uncut r l b =
        let e : number letters to in_cell bound far r ≡ count letters to in_cell far r =
        small bound (count letters to in_cell far r) b in
        let s = settled letters to in_cell rows bound closed far enough r l in
        let n : count letters to in_cell (suc far) r ≡ count letters to in_cell far r =
        one bound (count letters to in_cell (suc far) r) (count letters to in_cell far r) s b in
        let k = count_step letters to in_cell far r in
        sym (asked_same (number letters to in_cell bound far) r)
        ∙ ap (λ z. cond (in_cell r) 1 0 + z)
        (sum_same (λ c. number letters to in_cell bound far (to r c)) (λ c. count letters to in_cell far (to r c))
        letters (λ c i.
        let p = sum_part (λ c. count letters to in_cell far (to r c)) c letters i in
        min-right bound (count letters to in_cell far (to r c)) (omega (arith, p, k, n, e, b))))
        ∙ sym k ∙ n ∙ sym e where
          one : (b y x : ℕ) → min b y ≡ min b x → min b x < b → y ≡ x
          one b y x e l = grind (arith, e, l)

    -- where the first row's number isn't cut, no number of a row that words lead to is, and they keep the rule with
    -- equality
    module _ (start : ℕ) (first : start < rows)
        (reached : (r : ℕ) → r < rows → (w : List ℕ) × AllIn letters w × (walk to start w ≡ r))
        (low : number letters to in_cell bound far start < bound) where
      pub none_cut : (r : ℕ) → r < rows
          → number letters to in_cell bound far r ≤ number letters to in_cell bound far start
      none_cut r l =
          let (w, a, e) = reached r l in
          subst (λ z. number letters to in_cell bound far z ≤ number letters to in_cell bound far start) e
          (down rows letters to in_cell bound (number letters to in_cell bound far) closed
          (stable letters to in_cell rows bound closed far enough) w start first low a)

      pub printed_equal : (r : ℕ) → r < rows
          → asked_by classes (width class letters) target in_cell (number letters to in_cell bound far) r ≡ number
          letters to in_cell bound far r
      printed_equal r l = let h = none_cut r l in uncut r l (omega (arith, h, low))

      pub printed_keep : KeepsRule rows classes (width class letters) target in_cell
          (number letters to in_cell bound far)
      printed_keep r l = let e = printed_equal r l in omega (arith, e)

      -- no labels below these keep the rule
      pub printed_least : (label : ℕ → ℕ) → KeepsRule rows classes (width class letters) target in_cell label
          → (r : ℕ) → r < rows → number letters to in_cell bound far r ≤ label r
      printed_least label k r l = label_number label k bound far r l
