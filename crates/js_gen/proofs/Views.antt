-- The JSON value of a text and of a truth value, by what it holds.
use Rattle.std.proofs.Common.{◌≡◌, Bool, rules}
use Rattle.documents.specs.Json as D
use Rattle.js_doc.specs.declared.json.Json as JJ
use Rattle.js_doc.specs.declared.json.Json.TheVariants as V
use Rattle.js_doc.specs.declared.word.Word.{Word}
use Rattle.js_doc.specs.JsonView.{view}

-- the JSON value of a text is the string of its word
pub view-Text : (w : Word) → view (V.Text w) ≡ D.string w.text
view-Text w = search (rules, JJ.the_lemmas)

pub view-Bool : (b : Bool) → view (V.Bool b) ≡ D.boolean b
view-Bool b = search (rules, JJ.the_lemmas)
