-- The lines of a set of which no word is found are dead.
use Rattle.std.proofs.Common.{◌≡◌, List, [], ◌∷◌, ◌++◌, map, drop, length, Result, Ok, Err, OnOk, ap, sym, ◌∙◌, subst, append-nil}
use Rattle.std.proofs.lemmas.List.{drop_at, length-map}
use Rattle.documents.specs.Kind as K
use Rattle.positions.specs.Position.{Position}
use Rattle.goals.specs.Signed.{Signed}
use Rattle.certificate_lines.specs.Line.{Line}
use Rattle.verdicts.specs.Duties.{OfSet, run}
use Rattle.refutations.specs.StringLines.{string_lines}
use Rattle.refutation_laws.proofs.Strings.{strings_do}
use Rattle.js_lines.specs.declared.lines.CertLine.{CertLine}
use Rattle.js_lines.specs.View.{line_view}
use Rattle.js_row_lines.specs.Dead.{AreDead}

-- what is added comes behind what was there
pub added-are : (old : List CertLine) (now piece : List Line) → now ≡ map line_view old ++ piece
    → drop (length old) now ≡ piece
added-are old now piece e =
    ap (drop (length old)) e ∙ drop_at (map line_view old) piece (length old) (length-map old line_view)

module _ (T : List Position) (S : List Signed) where
  string-dead : AreDead T S (string_lines T S)
  string-dead h cite =
      ap (run T cite (OfSet K.Text S ∷ [])) (sym (append-nil (string_lines T S)))
      ∙ strings_do T S cite h.bounds h.none [] []

  -- where they were added
  pub strings-dead : {A E : Type 0} (r : Result A E) (old : List CertLine) (now : List Line)
      → OnOk r (now ≡ map line_view old ++ string_lines T S) → OnOk r (AreDead T S (drop (length old) now))
  strings-dead (Ok x) old now e = subst (AreDead T S) (sym (added-are old now (string_lines T S) e)) string-dead
  strings-dead (Err f) old now e = tt
