-- One open entry more is done.
use Rattle.std.proofs.Common.{◌≡◌, ℕ, ◌+◌, ◌<◌, ◌≤◌, ◌⊎◌, ◌≢◌, List, length, set, inl, inr, Bool, true, false, nat_lt, Option, Some, refl, sym, ap, ◌∙◌, subst, arith, true≢false}
use Rattle.std.proofs.lemmas.Bool.{cases_eq, ltb-true, lt-ltb}
use Rattle.std.proofs.lemmas.List.{length-set, get_or-set_same, get_or-set_other}
use Rattle.js_guard.specs.declared.search.Mark.{Mark}
use Rattle.js_guard.specs.declared.search.Mark.TheVariants.{New, Done}
use Rattle.js_guard.specs.Searching.{mark, is_new, count_new, at, IsAtMost}
use Rattle.js_guard.specs.Steps.{least_with, IsClosed}
use Rattle.js_guard.proofs.Counts.{count_new-same}
use Rattle.js_guard.proofs.Passing.{noted-keeps, noted-here, noted-is}

pub least_with-keeps : (b : Bool) (least : Option ℕ) (x y : ℕ) → IsAtMost least y → IsAtMost (least_with b least x) y
least_with-keeps true least x y h = noted-keeps least x y h
least_with-keeps false least x y h = h

least_with-here : (b : Bool) (least : Option ℕ) (x : ℕ) → b ≡ true → IsAtMost (least_with b least x) x
least_with-here true least x e = noted-here least x
least_with-here false least x e = absurd (true≢false (sym e))

least_with-is : (b : Bool) (least : Option ℕ) (x l : ℕ) → least_with b least x ≡ Some l
    → (least ≡ Some l) ⊎ ((b ≡ true) × (l ≡ x))
least_with-is true least x l h = elim (noted-is least x l h) [ inl e ↦ inl e | inr e ↦ inr (refl, e) ]
least_with-is false least x l h = inl h

module _ (M : List Mark) (S : List ℕ) (done : ℕ) (least : Option ℕ) (M' : List Mark) (done' : ℕ) (least' : Option ℕ)
    (p u : ℕ) (several : Bool) (c : IsClosed M S done least M' done' least' p u) (after : p ≤ u)
    (inside : at S u < length M') (means : several ≡ nat_lt (p + 1) (length S)) where
  abbrev x : ℕ
  x = at S u

  abbrev M'' : List Mark
  M'' = set M' x (Done done')

  abbrev least'' : Option ℕ
  least'' = least_with several least' x

  mark-here : mark M'' x ≡ Done done'
  mark-here = get_or-set_same M' x (Done done') New inside

  mark-other : (y : ℕ) → y ≢ x → mark M'' y ≡ mark M' y
  mark-other y ne = get_or-set_other M' x y (Done done') New ne

  next-closed : (i : ℕ) → p ≤ i → i < u + 1 → (r : ℕ) × (mark M'' (at S i) ≡ Done r) × (done ≤ r) × (r < done' + 1)
  next-closed i low high =
      elim (cases_eq (at S i) x) [
        | inl e ↦
            let late : done ≤ done' = omega (arith, c.more_done) in
            (done', ap (mark M'') e ∙ mark-here, late, omega arith)
        | inr ne ↦
            let before : i < u =
            elim (cases_eq i u) [
              | inl f ↦ absurd (ne (ap (at S) f))
              | inr g ↦ omega arith
            ] in
            let old = c.closed i low before in
            let below = old.3 in
            (old.0, mark-other (at S i) ne ∙ old.1, old.2, omega arith)
      ]

  next-others : (y : ℕ) → (mark M'' y ≡ mark M y) ⊎ ((i : ℕ) × (p ≤ i) × (i < u + 1) × (at S i ≡ y))
  next-others y =
      elim (cases_eq y x) [
        | inl e ↦ inr (u, after, omega arith, sym e)
        | inr ne ↦ elim (c.others y) [
          | inl same ↦ inl (mark-other y ne ∙ same)
          | inr (i, low, high, e) ↦ inr (i, low, omega arith, e)
        ]
      ]

  next-counted : ((i : ℕ) → p ≤ i → i < u + 1 → is_new (mark M (at S i)) ≡ false) → count_new M'' ≡ count_new M
  next-counted old =
      count_new-same M' x done' inside not_new
      ∙ c.counted (λ i low high. old i low (omega arith))
    where
      not_new : is_new (mark M' x) ≡ false
      not_new =
          elim (c.others x) [
            | inl same ↦ ap is_new same ∙ old u after (omega arith)
            | inr (i, low, high, e) ↦
                (let closed = c.closed i low high in ap is_new (ap (mark M') (sym e) ∙ closed.1))
          ]

  next-noted_all : (i : ℕ) → p ≤ i → i < u + 1 → p + 1 < length S → IsAtMost least'' (at S i)
  next-noted_all i low high more =
      elim (cases_eq i u) [
        | inl e ↦
            subst (λ j. IsAtMost least'' (at S j)) (sym e)
            (least_with-here several least' x (means ∙ lt-ltb (p + 1) (length S) more))
        | inr ne ↦ least_with-keeps several least' x (at S i) (c.noted_all i low (omega arith) more)
      ]

  next-noted_only : (l : ℕ) → least'' ≡ Some l
      → (least ≡ Some l) ⊎ ((p + 1 < length S) × (i : ℕ) × (p ≤ i) × (i < u + 1) × (at S i ≡ l))
  next-noted_only l h =
      elim (least_with-is several least' x l h) [
        | inl e ↦ elim (c.noted_only l e) [
          | inl f ↦ inl f
          | inr (more, i, low, high, f) ↦ inr (more, i, low, omega arith, f)
        ]
        | inr (it_is, e) ↦ inr (ltb-true (p + 1) (length S) (sym means ∙ it_is), u, after, omega arith, sym e)
      ]

  pub closed-more : IsClosed M S done least M'' (done' + 1) least'' p (u + 1)
  closed-more = record {
    more_done = omega (arith, c.more_done);
    marked = length-set M' x (Done done') ∙ c.marked;
    closed = next-closed;
    others = next-others;
    counted = next-counted;
    noted_all = next-noted_all;
    noted_only = next-noted_only;
    least_kept = λ y h. least_with-keeps several least' x y (c.least_kept y h);
  }

pub closed-same : (M : List Mark) (S : List ℕ) (done : ℕ) (least : Option ℕ) (M' N : List Mark) (done' n : ℕ)
    (least' l : Option ℕ) (p u : ℕ) → IsClosed M S done least M' done' least' p u → N ≡ M' → n ≡ done' → l ≡ least'
    → IsClosed M S done least N n l p u
closed-same M S done least M' N done' n least' l p u c e f h =
    subst (λ m. IsClosed M S done least m n l p u) (sym e)
    (subst (λ d. IsClosed M S done least M' d l p u) (sym f)
    (subst (λ o. IsClosed M S done least M' done' o p u) (sym h) c))
