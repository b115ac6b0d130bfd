-- Spaces and line feeds behind a text that is printed change no token.
use Rattle.std.proofs.Common.{◌≡◌, inl, inr, ℕ, List, [], ◌∷◌, ◌++◌, Bool, true, false, cond, ◌&&◌, refl, sym, ap, ap₂, ◌∙◌, append_assoc, append-nil}
use Rattle.json.specs.Token.{Token, begin_object, end_object, begin_array, end_array, key, string, number, boolean, null, bad}
use Rattle.json.specs.Word.{ends_word, word}
use Rattle.json.specs.Lex.{Lexeme, token, comma, colon, string_token, lex, between, fresh, punctuate, tokens}
use Rattle.json.specs.Print.{escape, quoted, token_text, begins, ends, separator, print_from, print, IsPrintable, ArePrintable}
use Rattle.json.specs.Spaced.{IsGap}
use Rattle.json.proofs.Printed.Strings.{content-escape, lex-escape}
use Rattle.json.proofs.Printed.Numbers.{lex-number, in_word-ended}
use Rattle.json.proofs.Printed.Tokens.{tokens-print}

-- ---- blanks

lex-blanks : (r : List ℕ) → IsGap r → lex between r ≡ []
unfolding lex
lex-blanks [] h = refl
lex-blanks (x ∷ r) (inl e, h) = rw e (lex-blanks r h)
lex-blanks (x ∷ r) (inr e, h) = rw e (lex-blanks r h)

ends_word-blanks : (r : List ℕ) → IsGap r → ends_word r ≡ true
ends_word-blanks [] h = refl
ends_word-blanks (x ∷ r) (inl e, h) = rw e refl
ends_word-blanks (x ∷ r) (inr e, h) = rw e refl

-- ---- a token, with anything behind it that ends a word where the token ends a value

abbrev lexed : Token → List Lexeme
lexed begin_object = token begin_object ∷ []
lexed end_object = token end_object ∷ []
lexed begin_array = token begin_array ∷ []
lexed end_array = token end_array ∷ []
lexed (key s) = token (string s) ∷ colon ∷ []
lexed (string s) = token (string s) ∷ []
lexed (number s) = token (number s) ∷ []
lexed (boolean b) = token (boolean b) ∷ []
lexed null = token null ∷ []
lexed bad = []

lex-quoted : (s r : List ℕ) → lex between (quoted s ++ r) ≡ token (string s) ∷ lex between r
unfolding lex
lex-quoted s r =
    ap (λ l. lex between (34 ∷ l)) (append_assoc (escape s) (34 ∷ []) r)
    ∙ ap₂ (λ o l. token (string_token o) ∷ l) (content-escape s r) (lex-escape s r)

lex-token : (t : Token) (r : List ℕ) → IsPrintable t → (ends t ≡ true → ends_word r ≡ true)
    → lex between (token_text t ++ r) ≡ lexed t ++ lex between r
unfolding lex word
lex-token begin_object r h ended = refl
lex-token end_object r h ended = refl
lex-token begin_array r h ended = refl
lex-token end_array r h ended = refl
lex-token (key s) r h ended = ap (lex between) (append_assoc (quoted s) (58 ∷ []) r) ∙ lex-quoted s (58 ∷ r)
lex-token (string s) r h ended = lex-quoted s r
lex-token (number s) r h ended = lex-number s r h (ended refl)
lex-token (boolean true) r h ended =
    ap₂ (λ b l. token (cond b (boolean true) bad) ∷ l) (ended refl) (in_word-ended r (ended refl))
lex-token (boolean false) r h ended =
    ap₂ (λ b l. token (cond b (boolean false) bad) ∷ l) (ended refl) (in_word-ended r (ended refl))
lex-token null r h ended = ap₂ (λ b l. token (cond b null bad) ∷ l) (ended refl) (in_word-ended r (ended refl))
lex-token bad r h ended = absurd h

lex-comma : (b : Bool) (r : List ℕ) → lex between (cond b (44 ∷ []) [] ++ r) ≡ cond b (comma ∷ []) [] ++ lex between r
unfolding lex
lex-comma true r = refl
lex-comma false r = refl

lex-separated : (c : Bool) (t : Token) (r : List ℕ) → IsPrintable t → (ends t ≡ true → ends_word r ≡ true)
    → lex between (separator c t ++ (token_text t ++ r))
    ≡ cond (c && begins t) (comma ∷ []) [] ++ (lexed t ++ lex between r)
lex-separated c t r h ended =
    lex-comma (c && begins t) (token_text t ++ r)
    ∙ ap (λ l. cond (c && begins t) (comma ∷ []) [] ++ l) (lex-token t r h ended)

-- ---- all tokens

-- a word ends behind a value
ends_word-printed : (ts : List Token) (r : List ℕ) → ArePrintable ts → ends_word r ≡ true
    → ends_word (print_from true ts ++ r) ≡ true
unfolding print_from ArePrintable
ends_word-printed [] r p h = h
ends_word-printed (begin_object ∷ ts) r p h = refl
ends_word-printed (end_object ∷ ts) r p h = refl
ends_word-printed (begin_array ∷ ts) r p h = refl
ends_word-printed (end_array ∷ ts) r p h = refl
ends_word-printed (key s ∷ ts) r p h = refl
ends_word-printed (string s ∷ ts) r p h = refl
ends_word-printed (number s ∷ ts) r p h = refl
ends_word-printed (boolean b ∷ ts) r p h = refl
ends_word-printed (null ∷ ts) r p h = refl
ends_word-printed (bad ∷ ts) r p h = absurd p.0

lex-print_from : (c : Bool) (ts : List Token) (r : List ℕ) → ArePrintable ts → IsGap r
    → lex between (print_from c ts ++ r) ≡ lex between (print_from c ts)
unfolding print_from ArePrintable
lex-print_from c [] r h blank = lex-blanks r blank ∙ sym (lex-blanks [] tt)
lex-print_from c (t ∷ ts) r h blank =
    let behind = print_from (ends t) ts in
    let ended : (s : List ℕ) → ends_word s ≡ true → ends t ≡ true → ends_word (behind ++ s) ≡ true =
    λ s k e. ap (λ b. ends_word (print_from b ts ++ s)) e ∙ ends_word-printed ts s h.1 k in
    ap (lex between)
    (append_assoc (separator c t) (token_text t ++ behind) r
    ∙ ap (λ l. separator c t ++ l) (append_assoc (token_text t) behind r))
    ∙ lex-separated c t (behind ++ r) h.0 (ended r (ends_word-blanks r blank))
    ∙ ap (λ l. cond (c && begins t) (comma ∷ []) [] ++ (lexed t ++ l)) (lex-print_from (ends t) ts r h.1 blank)
    ∙ sym (lex-separated c t behind h.0 (λ e. ap ends_word (sym (append-nil behind)) ∙ ended [] refl e))

-- tokens that are printed are read back, with blanks behind them
pub tokens-print-blanks : (ts : List Token) (r : List ℕ) → ArePrintable ts → IsGap r → tokens (print ts ++ r) ≡ ts
tokens-print-blanks ts r h blank = ap (punctuate fresh) (lex-print_from false ts r h blank) ∙ tokens-print ts h
