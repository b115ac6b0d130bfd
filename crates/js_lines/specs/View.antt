-- The lines and faults that the program's values stand for.
use Rattle.std.specs.Prelude.{ℕ}
use Rattle.certificate_lines.specs.Line as L
use Rattle.js_algebra.specs.View.{kind_view, signed_view}
use Rattle.js_lines.specs.declared.lines.CertEnd.{CertEnd}
use Rattle.js_lines.specs.declared.lines.CertEnd.TheVariants as E
use Rattle.js_lines.specs.declared.lines.ShortEntry.{ShortEntry}
use Rattle.js_lines.specs.declared.lines.ShortEntry.TheVariants as S
use Rattle.js_lines.specs.declared.lines.CertLine.{CertLine}
use Rattle.js_lines.specs.declared.lines.CertLine.TheVariants as V

abbrev pub end_view : CertEnd → L.Ending
end_view E.Clash = L.Clashes
end_view (E.Goal k) = L.Cites k

-- a number with an end
abbrev pub placed_view : ℕ × CertEnd → ℕ × L.Ending
placed_view (n, e) = (n, end_view e)

abbrev pub entry_view : ShortEntry → L.ShortEntry
entry_view S.Kept = L.Kept
entry_view S.Clash = L.Ends L.Clashes
entry_view (S.Goal k) = L.Ends (L.Cites k)

abbrev pub line_view : CertLine → L.Line
line_view (V.Certificate v) = L.Version
line_view (V.Goals n) = L.Goals n
line_view (V.Goal xs) = L.Goal xs
line_view (V.Entry n) = L.Entry n
line_view (V.At k) = L.At (kind_view k)
line_view (V.Rule x) = L.Rule (signed_view x)
line_view (V.Clash p) = L.Clash p.0
line_view (V.Kind x) = L.OfKind (signed_view x)
line_view V.Count = L.Count
line_view V.Bool = L.NoTruth
line_view V.Number = L.NoNumber
line_view (V.Strings n) = L.Strings n
line_view (V.Row ts) = L.Row ts
line_view (V.Least ds) = L.Least ds
line_view V.Array = L.Arrays
line_view (V.Object r c) = L.Objects r c
line_view (V.Cap c bs) = L.Cap c bs
line_view V.Split = L.Split
line_view (V.Member m e) = L.OfMember m (end_view e)
line_view (V.Index i e) = L.OfIndex i (end_view e)
line_view (V.Tail t e) = L.OfTail t (end_view e)
line_view (V.Short fs) = L.Short fs
line_view V.End = L.End
