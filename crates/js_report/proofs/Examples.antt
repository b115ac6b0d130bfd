-- The words of faults, computed on worked examples.
use Rattle.std.specs.Fmt.{digits}
use Rattle.std.specs.Prelude.{◌≡◌, [], ◌∷◌, refl, codes}
use Rattle.schemas.specs.Fault as F
use Rattle.js_json.specs.declared.fault.RefFault.TheVariants as R
use Rattle.js_json.proofs.OnTexts.{json_on_texts}
use Rattle.js_pattern.specs.declared.fault.PatternFault.TheVariants as P
use Rattle.js_pattern.specs.declared.fault.PatternForm.TheVariants.{Lookaround}
use Rattle.js_report.specs.RefusalWords.{schema_words}

wide : schema_words (F.BadPattern (P.RepeatTooWide 1) (codes "pattern" ∷ []))
    ≡ codes "pattern repeattoowide 1 \"/pattern\""
unfolding digits json_on_texts
wide = refl

form : schema_words (F.BadPattern (P.Unsupported 12 Lookaround) []) ≡ codes "pattern unsupported lookaround 12 \"\""
unfolding digits json_on_texts
form = refl

shape : schema_words (F.WrongShape (codes "not") (codes "allOf" ∷ codes "0" ∷ codes "not" ∷ []))
    ≡ codes "wrongshape not \"/allOf/0/not\""
unfolding json_on_texts
shape = refl

reference : schema_words (F.BadReference R.BadPointer []) ≡ codes "ref badpointer \"\""
unfolding json_on_texts
reference = refl

escaped : schema_words (F.InnerId (codes "a/b" ∷ codes "$id" ∷ [])) ≡ codes "innerid \"/a~1b/$id\""
unfolding json_on_texts
escaped = refl
