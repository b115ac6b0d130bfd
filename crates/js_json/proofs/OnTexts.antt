-- What a proof unfolds to compute the value of a text, or the text of a pointer, on a literal.
use Rattle.std.specs.Prelude.{⊤}
use Rattle.std.specs.Char.{encode_utf8}
use Rattle.std.specs.Fmt.{digits}
use Rattle.std.specs.Str.{chars, is_utf8}
use Rattle.serde_json.proofs.OnLiterals.{serde_json_on_literals}
use Rattle.js_json.specs.Value.{value_of}

unfoldable pub json_on_texts : ⊤
unfolding serde_json_on_literals value_of is_utf8 chars encode_utf8 digits
json_on_texts = tt
