-- The texts that the program's tokens stand for.
use Rattle.std.specs.Prelude.{ℕ, List, map, chars, string_bytes}
use Rattle.std.specs.Fmt.{decimal}
use Rattle.js_pointers.specs.declared.tokens.Tokens.{Tokens}
use Rattle.js_pointers.specs.declared.tokens.Token.{Token}
use Rattle.js_pointers.specs.declared.tokens.Token.TheVariants.{Index, Name}

-- the names, in the order of their numbers
abbrev pub names_of : Tokens → List (List ℕ)
names_of t = map (λ w. chars (string_bytes w)) t.names.items

abbrev pub token_text : Token → List ℕ
token_text (Index i) = decimal i
token_text (Name t) = chars t.now
