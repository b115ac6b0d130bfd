-- The lines of a table, written one after another.
use Rattle.std.proofs.Common.{◌≡◌, ℕ, zero, suc, ◌+◌, ◌<◌, ◌≤◌, List, [], ◌∷◌, ◌++◌, length, drop, refl, sym, ap, ◌∙◌, arith, append_assoc}
use Rattle.std.proofs.lemmas.List.{append-nil, drop_all}
use Rattle.positions.specs.Position.{Position, position_at}
use Rattle.js_core_text.specs.CoreText.{line_text, lines_text}

drop-position : (T : List Position) (i : ℕ) → i < length T → drop i T ≡ position_at T i ∷ drop (i + 1) T
drop-position [] i l = absurd (omega (arith, l))
drop-position (P ∷ T) zero l = refl
drop-position (P ∷ T) (suc i) l =
    let one : suc i + 1 ≡ suc (i + 1) = omega arith in
    rw one (drop-position T i (omega (arith, l)))

-- one line more
pub lines-step : (T : List Position) (i : ℕ) (P : Position) (old new whole : List ℕ) → i < length T
    → P ≡ position_at T i → new ≡ old ++ line_text i P → old ++ lines_text i (drop i T) ≡ whole
    → new ++ lines_text (i + 1) (drop (i + 1) T) ≡ whole
lines-step T i P old new whole l e a b =
    let one : i + 1 ≡ suc i = omega arith in
    let rest = λ (k : ℕ). lines_text k (drop (i + 1) T) in
    ap (λ xs. xs ++ rest (i + 1)) (a ∙ ap (λ Q. old ++ line_text i Q) e)
    ∙ append_assoc old (line_text i (position_at T i)) (rest (i + 1))
    ∙ ap (λ k. old ++ (line_text i (position_at T i) ++ rest k)) one
    ∙ ap (λ Ps. old ++ lines_text i Ps) (sym (drop-position T i l))
    ∙ b

pub lines-end : (T : List Position) (i : ℕ) (out whole : List ℕ) → length T ≤ i
    → out ++ lines_text i (drop i T) ≡ whole → out ≡ whole
lines-end T i out whole l b =
    sym (append-nil out) ∙ ap (λ Ps. out ++ lines_text i Ps) (sym (drop_all i T l)) ∙ b
