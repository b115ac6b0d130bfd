-- The tokens of a UTF-8 text have UTF-8 texts.
use Rattle.std.proofs.Common.{◌≡◌, ℕ, ◌-◌, ◌<◌, List, [], ◌∷◌, Bool, true, false, cond, ◌==◌, ◌&&◌, nat_eq, length, take, drop, Option, Some, None, IsUtf8, refl, arith}
use Rattle.std.proofs.lemmas.Bool.{eqb-true}
use Rattle.std.specs.List.{starts_with}
use Rattle.json.specs.Ascii.{true_text, false_text, null_text}
use Rattle.json.specs.Token.{Token, begin_object, end_object, begin_array, end_array, key, string, number, boolean, null, bad}
use Rattle.json.specs.Text.{content, plain}
use Rattle.json.specs.Word.{head, word, literal, number_before, after_number, ends_word, is_operator, is_space}
use Rattle.json.specs.Lex.{Lexeme, token, comma, colon, Class, quote, backslash, operator, space, other, class, operator_lexeme, string_token, Mode, between, in_word, in_string, in_escape, lex_byte, lex, Place, fresh, after_value, after_comma, after_key, begins_colon, may_begin, may_close, if_allowed, place_token, punctuate, tokens}
use Rattle.js_json.proofs.DataTexts.{Given}
use Rattle.js_json.proofs.StringTexts.{AfterAscii, AfterAscii-IsUtf8, AfterAscii-tail, AfterAscii-head, IsUtf8-content}
use Rattle.js_json.proofs.TreeTexts.{TextOf, TextsOfTokens}

abbrev TextOfLexeme : Lexeme → Type 0
TextOfLexeme (token t) = TextOf t
TextOfLexeme comma = Unit {0}
TextOfLexeme colon = Unit {0}

abbrev TextsOfLexemes : List Lexeme → Type 0
TextsOfLexemes [] = Unit {0}
TextsOfLexemes (l ∷ ls) = TextOfLexeme l × TextsOfLexemes ls

-- ---- one lexeme

TextOf-cond : (b : Bool) (s t : Token) → TextOf s → TextOf t → TextOf (cond b s t)
TextOf-cond true s t p q = p
TextOf-cond false s t p q = q

TextOf-cond3 : (a b c : Bool) (s t u v : Token) → TextOf s → TextOf t → TextOf u → TextOf v
    → TextOf (cond a s (cond b t (cond c u v)))
TextOf-cond3 true b c s t u v p q r w = p
TextOf-cond3 false true c s t u v p q r w = q
TextOf-cond3 false false true s t u v p q r w = r
TextOf-cond3 false false false s t u v p q r w = w

TextOf-literal : (name : List ℕ) (t : Token) (text : List ℕ) → TextOf t → TextOf (literal name t text)
TextOf-literal name t text h =
    TextOf-cond (starts_with nat_eq text name && ends_word (drop (length name) text)) t bad h tt

TextOf-number_before : (t : List ℕ) (rest : Option (List ℕ)) → TextOf (number_before t rest)
TextOf-number_before t None = tt
TextOf-number_before t (Some rest) =
    TextOf-cond (ends_word rest) (number (take (length t - length rest) t)) bad tt tt

TextOf-word : (t : List ℕ) → TextOf (word t)
unfolding word
TextOf-word t =
    TextOf-cond3 (head t == 116) (head t == 102) (head t == 110) (literal true_text (boolean true) t)
    (literal false_text (boolean false) t)
    (literal null_text null t) (number_before t (after_number t))
    (TextOf-literal true_text (boolean true) t tt) (TextOf-literal false_text (boolean false) t tt)
    (TextOf-literal null_text null t tt)
    (TextOf-number_before t (after_number t))

TextOf-string_token : (o : Option (List ℕ)) → Given IsUtf8 o → TextOf (string_token o)
TextOf-string_token None h = tt
TextOf-string_token (Some s) h = h

one_operator : (a b c d e : Bool)
    → TextOfLexeme (cond a (token begin_object)
    (cond b (token end_object)
    (cond c (token begin_array) (cond d (token end_array) (cond e comma colon)))))
one_operator true b c d e = tt
one_operator false true c d e = tt
one_operator false false true d e = tt
one_operator false false false true e = tt
one_operator false false false false true = tt
one_operator false false false false false = tt

TextOfLexeme-operator : (x : ℕ) → TextOfLexeme (operator_lexeme x)
TextOfLexeme-operator x = one_operator (x == 123) (x == 125) (x == 91) (x == 93) (x == 44)

only_quote : (a b c d : Bool)
    → cond a quote (cond b backslash (cond c operator (cond d space other))) ≡ quote → a ≡ true
only_quote true b c d e = refl
only_quote false true c d e = cc
only_quote false false true d e = cc
only_quote false false false true e = cc
only_quote false false false false e = cc

quote_ascii : (x : ℕ) → class x ≡ quote → x < 128
quote_ascii x e = omega (arith, eqb-true x 34 (only_quote (x == 34) (x == 92) (is_operator x) (is_space x) e))

-- ---- the lexemes

lexemes_at : (m : Mode) (c : Class) (x : ℕ) (xs : List ℕ) → class x ≡ c → AfterAscii (x ∷ xs)
    → (k : Mode → List Lexeme)
    → ((next : Mode) → TextsOfLexemes (k next)) → TextsOfLexemes (lex_byte m c x xs k)
lexemes_at between quote x xs e a k more = (
  TextOf-string_token (content plain xs) (IsUtf8-content xs (AfterAscii-head x xs a (quote_ascii x e))),
  more in_string,
)
lexemes_at between backslash x xs e a k more = (tt, more in_word)
lexemes_at between operator x xs e a k more = (TextOfLexeme-operator x, more between)
lexemes_at between space x xs e a k more = more between
lexemes_at between other x xs e a k more = (TextOf-word (x ∷ xs), more in_word)
lexemes_at in_word quote x xs e a k more = more in_word
lexemes_at in_word backslash x xs e a k more = more in_word
lexemes_at in_word operator x xs e a k more = (TextOfLexeme-operator x, more between)
lexemes_at in_word space x xs e a k more = more between
lexemes_at in_word other x xs e a k more = more in_word
lexemes_at in_string quote x xs e a k more = more between
lexemes_at in_string backslash x xs e a k more = more in_escape
lexemes_at in_string operator x xs e a k more = more in_string
lexemes_at in_string space x xs e a k more = more in_string
lexemes_at in_string other x xs e a k more = more in_string
lexemes_at in_escape c x xs e a k more = more in_string

TextsOfLexemes-lex : (m : Mode) (xs : List ℕ) → AfterAscii xs → TextsOfLexemes (lex m xs)
unfolding lex
TextsOfLexemes-lex m [] a = tt
TextsOfLexemes-lex m (x ∷ xs) a =
    lexemes_at m (class x) x xs refl a (λ next. lex next xs)
    (λ next. TextsOfLexemes-lex next xs (AfterAscii-tail x xs a))

-- ---- the tokens

tokens_if_allowed : (b : Bool) (t : Token) (k : Place → List Token) (next : Place) → TextOf t
    → TextsOfTokens (k next) → TextsOfTokens (if_allowed b t k next)
tokens_if_allowed true t k next h more = (h, more)
tokens_if_allowed false t k next h more = (tt, tt)

tokens_at : (p : Place) (t : Token) (before_colon : Bool) (k : Place → List Token) → TextOf t
    → ((next : Place) → TextsOfTokens (k next))
    → TextsOfTokens (place_token p t before_colon k)
tokens_at p begin_object b k h more = tokens_if_allowed (may_begin p) begin_object k fresh h (more fresh)
tokens_at p end_object b k h more =
    tokens_if_allowed (may_close p) end_object k after_value h (more after_value)
tokens_at p begin_array b k h more = tokens_if_allowed (may_begin p) begin_array k fresh h (more fresh)
tokens_at p end_array b k h more =
    tokens_if_allowed (may_close p) end_array k after_value h (more after_value)
tokens_at p (key s) b k h more = (tt, tt)
tokens_at p (string s) true k h more = tokens_if_allowed (may_begin p) (key s) k after_key h (more after_key)
tokens_at p (string s) false k h more =
    tokens_if_allowed (may_begin p) (string s) k after_value h (more after_value)
tokens_at p (number s) b k h more =
    tokens_if_allowed (may_begin p) (number s) k after_value h (more after_value)
tokens_at p (boolean v) b k h more =
    tokens_if_allowed (may_begin p) (boolean v) k after_value h (more after_value)
tokens_at p null b k h more = tokens_if_allowed (may_begin p) null k after_value h (more after_value)
tokens_at p bad b k h more = (tt, tt)

TextsOfTokens-punctuate : (p : Place) (ls : List Lexeme) → TextsOfLexemes ls → TextsOfTokens (punctuate p ls)
unfolding punctuate
TextsOfTokens-punctuate fresh [] h = tt
TextsOfTokens-punctuate after_value [] h = tt
TextsOfTokens-punctuate after_comma [] h = (tt, tt)
TextsOfTokens-punctuate after_key [] h = (tt, tt)
TextsOfTokens-punctuate p (token t ∷ ls) h =
    tokens_at p t (begins_colon ls) (λ next. punctuate next ls) h.0
    (λ next. TextsOfTokens-punctuate next ls h.1)
TextsOfTokens-punctuate fresh (comma ∷ ls) h = (tt, tt)
TextsOfTokens-punctuate after_value (comma ∷ ls) h = TextsOfTokens-punctuate after_comma ls h.1
TextsOfTokens-punctuate after_comma (comma ∷ ls) h = (tt, tt)
TextsOfTokens-punctuate after_key (comma ∷ ls) h = (tt, tt)
TextsOfTokens-punctuate fresh (colon ∷ ls) h = (tt, tt)
TextsOfTokens-punctuate after_value (colon ∷ ls) h = (tt, tt)
TextsOfTokens-punctuate after_comma (colon ∷ ls) h = (tt, tt)
TextsOfTokens-punctuate after_key (colon ∷ ls) h = TextsOfTokens-punctuate fresh ls h.1

-- the names and strings of a text in UTF-8 are UTF-8
pub TextsOfTokens-tokens : (text : List ℕ) → IsUtf8 text → TextsOfTokens (tokens text)
TextsOfTokens-tokens text u =
    TextsOfTokens-punctuate fresh (lex between text)
    (TextsOfLexemes-lex between text (AfterAscii-IsUtf8 text u))
