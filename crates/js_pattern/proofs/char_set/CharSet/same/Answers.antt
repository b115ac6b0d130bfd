use Rattle.std.proofs.Common.{◌≡◌, ℕ, ◌==◌, ◌&&◌, sym, ap, ap₂, ◌∙◌}
use Rattle.std.specs.Bool.{Decides}
use Rattle.std.proofs.lemmas.Bool.{and_parts, and_from}
use Rattle.std.proofs.lemmas.Bool.Decides.{Decides-eqb}
use Rattle.std.proofs.lemmas.Slice.Eq.{slice_eq-Decides}
use Rattle.js_pattern.proofs.char_set.CharSet.same.Goals as goal

-- ranges are the same where both ends are
same_range : (a b : ℕ × ℕ) → Decides ((a.0 == b.0) && (a.1 == b.1)) (a ≡ b)
same_range a b = (
  (λ h.
      let both = and_parts (a.0 == b.0) (a.1 == b.1) h in
      ap₂ (λ (m : ℕ) (n : ℕ). (m, n)) ((Decides-eqb a.0 b.0).0 both.0) ((Decides-eqb a.1 b.1).0 both.1)),
  (λ e.
      and_from (a.0 == b.0) (a.1 == b.1) ((Decides-eqb a.0 b.0).1 (ap (λ x. x.0) e))
      ((Decides-eqb a.1 b.1).1 (ap (λ x. x.1) e))),
)

pub returns : goal.returns
returns c =
    let same = slice_eq-Decides same_range _ _ _ c.eq.ensures in (
      (λ h. sym c.self.view_is ∙ same.0 h ∙ c.other.view_is),
      (λ e. same.1 (c.self.view_is ∙ e ∙ sym c.other.view_is)),
    )
