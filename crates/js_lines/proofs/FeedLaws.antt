-- A piece that was read, or nothing: where the reader then is.
use Rattle.std.proofs.Common.{◌≡◌, Bool, true, false, cond, List, ℕ, ◌+◌, ◌≤◌, arith, ◌++◌, take, Some, None, sym, ◌∙◌, ap, subst}
use Rattle.std.specs.Prelude.{option_to_list}
use Rattle.std.proofs.lemmas.Bool.{true≢false}
use Rattle.certificate_lines.specs.Line.{Line}
use Rattle.certificate_lines.specs.Reader.{Reader, Fault, fed, fed_unless, read_count}
use Rattle.certificate_lines.specs.Cut.{Stands}
use Rattle.line_laws.proofs.ReaderLaws.{fed-stands, fed-taken}

-- of a reader that is where the piece leaves it
pub fed-cut : (old new : Reader) (piece : List ℕ) (m : Bool) → old.waiting ≡ None → new ≡ cond m old (fed old piece)
    → (bytes : List ℕ) (ls : List Line) → m ≡ false → Stands bytes ls old
    → Stands (bytes ++ take (read_count piece) piece) (ls ++ option_to_list new.waiting) new
fed-cut old new piece true idle e bytes ls h s = absurd (true≢false h)
fed-cut old new piece false idle e bytes ls h s =
    subst (λ r. Stands (bytes ++ take (read_count piece) piece) (ls ++ option_to_list r.waiting) r) (sym e)
    (fed-stands bytes piece ls old idle s)

-- of a reader that met a fault before
pub stopped-cut : (old new : Reader) (piece : List ℕ) (f : Fault) → old.waiting ≡ None → old.fault ≡ Some f → new ≡ old
    → (bytes : List ℕ) (ls : List Line) → Stands bytes ls old
    → Stands (bytes ++ take (read_count piece) piece) (ls ++ option_to_list new.waiting) new
stopped-cut old new piece f idle some e bytes ls s =
    subst (λ r. Stands (bytes ++ take (read_count piece) piece) (ls ++ option_to_list r.waiting) r)
    (ap (λ o. fed_unless old piece o) some ∙ sym e)
    (fed-stands bytes piece ls old idle s)

pub fed-counted : (old new : Reader) (piece : List ℕ) (m : Bool) → new ≡ cond m old (fed old piece)
    → new.taken ≤ old.taken + 1
fed-counted old new piece true e = subst (λ r. r.taken ≤ old.taken + 1) (sym e) (omega arith)
fed-counted old new piece false e = subst (λ r. r.taken ≤ old.taken + 1) (sym e) (fed-taken old piece)
