-- Which element of a list fails a test first.
use Rattle.std.specs.Prelude.{ℕ, suc, Bool, Option, Some, None, cond}
use Rattle.documents.specs.Json.{Json, Items, no_items, item}
use Rattle.schemas.specs.Keyword.{is_string, is_type_word}
use Rattle.js_keywords.specs.declared.elements.ElementTest.{ElementTest}
use Rattle.js_keywords.specs.declared.elements.ElementTest.TheVariants as E

-- the tests of elements
abbrev pub passes : ElementTest → Json → Bool
passes E.Text v = is_string v
passes E.TypeWord v = is_type_word v

-- by its number, where the first element has number i
abbrev pub failing : (Json → Bool) → ℕ → Items → Option ℕ
failing test i no_items = None
failing test i (item v vs) = cond (test v) (failing test (suc i) vs) (Some i)
