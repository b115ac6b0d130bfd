-- A line is added; and what holds where there is no fault.
use Rattle.std.proofs.Common.{◌≡◌, List, [], ◌∷◌, ◌++◌, map, Bool, true, false, not, Option, Some, None, Result, Ok, Err, OnOk, refl, ap, ◌∙◌}
use Rattle.std.specs.Option.{is_some, is_none}
use Rattle.std.proofs.lemmas.List.{map-append}
use Rattle.certificate_lines.specs.Line as L
use Rattle.js_lines.specs.declared.lines.CertLine.{CertLine}
use Rattle.js_lines.specs.View.{line_view}

pub one_more : (old new : List CertLine) (x : CertLine) (l : L.Line) → new ≡ old ++ x ∷ [] → line_view x ≡ l
    → map line_view new ≡ map line_view old ++ l ∷ []
one_more old new x l e is =
    ap (map line_view) e ∙ map-append line_view old (x ∷ []) ∙ ap (λ y. map line_view old ++ y ∷ []) is

pub on_ok : {A E : Type 0} (P Q : Type 0) (r : Result A E) → (P → Q) → OnOk r P → OnOk r Q
on_ok P Q (Ok x) f h = f h
on_ok P Q (Err e) f h = tt

pub on_both : {A E : Type 0} (P Q R : Type 0) (r : Result A E) → (P → Q → R) → OnOk r P → OnOk r Q → OnOk r R
on_both P Q R (Ok x) f g h = f g h
on_both P Q R (Err e) f g h = tt

-- whether there is none, as it was reported
pub none_told : {A : Type 0} (o : Option A) (b t : Bool) → is_some o ≡ not b → b ≡ t → is_none o ≡ t
none_told o b t e q = other o ∙ ap not e ∙ twice b ∙ q where
  other : {A : Type 0} (o : Option A) → is_none o ≡ not (is_some o)
  other None = refl
  other (Some x) = refl

  twice : (b : Bool) → not (not b) ≡ b
  twice true = refl
  twice false = refl
