-- Lines cut into pieces.
use Rattle.std.proofs.Common.{◌≡◌, ℕ, ◌+◌, ◌-◌, ◌≤◌, List, [], ◌∷◌, ◌++◌, length, take, drop, refl, ap, sym, ◌∙◌, append-nil, arith}
use Rattle.std.proofs.lemmas.Grind.{flat_map-append}
use Rattle.std.proofs.Math.Seq.{take-add}
use Rattle.js_lines.specs.declared.lines.CertLine.{CertLine}
use Rattle.js_checker.specs.declared.piece.Piece.{Piece}
use Rattle.js_checker.specs.Entries.{joined}

-- a piece more, up to a line
pub cut_more : (xs : List CertLine) (ps qs : List Piece) (begun at : ℕ) (p : Piece) → joined ps ≡ take begun xs
    → begun ≤ at → qs ≡ ps ++ p ∷ [] → p.lines.now ≡ take (at - begun) (drop begun xs) → joined qs ≡ take at xs
cut_more xs ps qs begun at p before within more lines =
    let count : begun + (at - begun) ≡ at = omega (arith, within) in
    ap joined more ∙ flat_map-append (λ q. q.lines.now) ps (p ∷ [])
    ∙ ap (λ ys. joined ps ++ ys) (append-nil p.lines.now ∙ lines)
    ∙ ap (λ ys. ys ++ take (at - begun) (drop begun xs)) before
    ∙ sym (take-add begun (at - begun) xs) ∙ ap (λ n. take n xs) count
