-- The words of the kinds.
use Rattle.std.specs.Prelude.{ℕ, List, codes}
use Rattle.documents.specs.Kind.{Kind, Null, Boolean, Number, Text, Array, Object}

-- the one that the keyword `type` has for it
abbrev pub kind_word : Kind → List ℕ
kind_word Null = codes "null"
kind_word Boolean = codes "boolean"
kind_word Number = codes "number"
kind_word Text = codes "string"
kind_word Array = codes "array"
kind_word Object = codes "object"
