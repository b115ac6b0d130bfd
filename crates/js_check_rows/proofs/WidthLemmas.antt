-- Widths of classes, one after another.
use Rattle.std.proofs.Common.{◌≡◌, ◌<◌, ◌+◌, ◌-◌, ℕ, List, [], ◌∷◌, ◌++◌, length, get_or, inl, inr, sym, ◌∙◌, ap, subst, arith}
use Rattle.std.proofs.lemmas.Bool.{cases_eq}
use Rattle.std.proofs.lemmas.List.{get_or_append_left, get_or-append_right}
use Rattle.patterns.specs.CharSet.{has, count_below}
use Rattle.word_states.specs.Atom.{Atom}
use Rattle.word_states.specs.Classes.{is_in_class}
use Rattle.cell_laws.proofs.Widths.{count_same}
use Rattle.verdicts.specs.Bounds.{width_of}
use Rattle.std.proofs.Math.Nat.{sub_self}

-- where the widths of the first k classes are right and the next one is that of class k, those of k + 1 are
pub width_next : (atoms : List Atom) (widths : List ℕ) (k w : ℕ) (set : List (ℕ × ℕ))
    → ((c : ℕ) → has set c ≡ is_in_class atoms k c) → w ≡ count_below (has set) 0x110000
    → length widths ≡ k → ((j : ℕ) → j < k → get_or widths j 0 ≡ width_of atoms j)
    → (j : ℕ) → j < k + 1 → get_or (widths ++ w ∷ []) j 0 ≡ width_of atoms j
width_next atoms widths k w set is e n all j m = elim (cases_eq j k) [
  | inl q ↦ subst (λ z. get_or (widths ++ w ∷ []) z 0 ≡ width_of atoms z) (sym q)
      (get_or-append_right widths (w ∷ []) k k 0 n (omega arith) ∙ ap (λ z. get_or (w ∷ []) z 0) (sub_self k)
      ∙ e ∙ count_same (has set) (is_in_class atoms k) is 0x110000)
  | inr d ↦
      let i : j < k = omega (arith, m, d) in
      get_or_append_left widths (w ∷ []) 0 j (omega (arith, i, n)) ∙ all j i
]
