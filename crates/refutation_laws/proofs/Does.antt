-- Lines do a duty where they leave none of it, whatever duties and lines come after.
use Rattle.std.proofs.Common.{◌≡◌, ℕ, List, [], ◌∷◌, ◌++◌, map, flat_map, Bool, Ok, refl, ap, ◌∙◌, append_assoc, inl, inr}
use Rattle.positions.specs.Position.{Position}
use Rattle.goals.specs.Signed.{Signed}
use Rattle.certificate_lines.specs.Line.{Line}
use Rattle.verdicts.specs.RowLines.{and_then}
use Rattle.verdicts.specs.Duties.{Duty, after, run}
use Rattle.list_laws.specs.In.{IsIn}

module _ (T : List Position) (cite : ℕ → List Signed → Bool) where
  -- the lines leave nothing of the duty, whatever duties and lines come after
  abbrev pub Does : Duty → List Line → Type 0
  Does d ls = (ds : List Duty) (ms : List Line) → run T cite (d ∷ ds) (ls ++ ms) ≡ run T cite ds ms

  abbrev pub DoAll : List Duty → List Line → Type 0
  DoAll es ls = (ds : List Duty) (ms : List Line) → run T cite (es ++ ds) (ls ++ ms) ≡ run T cite ds ms

  -- a line does its duty where the lines behind it do all duties that it leaves
  pub line_does : (d : Duty) (l : Line) (es : List Duty) (ls : List Line) → after T cite d l ≡ Ok es → DoAll es ls
      → Does d (l ∷ ls)
  line_does d l es ls e h ds ms = ap (λ r. and_then (λ xs. run T cite (xs ++ ds) (ls ++ ms)) r) e ∙ h ds ms

  pub none_left : DoAll [] []
  none_left ds ms = refl

  pub one_left : (d : Duty) (ls : List Line) → Does d ls → DoAll (d ∷ []) ls
  one_left d ls h ds ms = h ds ms

  pub all_do : {A : Type 0} (duty : A → Duty) (lines : A → List Line) (xs : List A)
      → ((x : A) → IsIn x xs → Does (duty x) (lines x)) → DoAll (map duty xs) (flat_map lines xs)
  all_do duty lines [] h ds ms = refl
  all_do duty lines (x ∷ xs) h ds ms =
      ap (run T cite (duty x ∷ (map duty xs ++ ds))) (append_assoc (lines x) (flat_map lines xs) ms)
      ∙ h x (inl refl) (map duty xs ++ ds) (flat_map lines xs ++ ms)
      ∙ all_do duty lines xs (λ y i. h y (inr i)) ds ms
