-- The names of keywords are ASCII, so that their bytes are their characters.
use Rattle.std.proofs.Common.{◌≡◌, ℕ, zero, suc, List, [], ◌∷◌, map, Bool, true, false, ◌||◌, nat_lt, cond, find, Option, Some, None, option_map, is_some, chars, refl, sym, ap, ◌∙◌, arith}
use Rattle.documents.specs.Tests.{some, same_word}
use Rattle.schemas.specs.Keyword.{type_words}
use Rattle.schemas.specs.Entries.{type_in, type_named}
use Rattle.std.specs.Str.{IsAscii}
use Rattle.std.proofs.lemmas.Bool.{and_parts, ltb-true}
use Rattle.std.proofs.lemmas.Str.{chars-IsAscii}
use Rattle.schema_laws.proofs.Tokens.{index_token-decimal}
use Rattle.js_keywords.specs.declared.keyword.Keyword.{Keyword}
use Rattle.js_keywords.specs.declared.keyword.Keyword.TheVariants as K
use Rattle.js_keywords.specs.Names.{keyword_name}
use Rattle.js_keywords.specs.declared.type_name.TypeName.{TypeName}
use Rattle.js_keywords.specs.declared.type_name.TypeName.TheVariants as T
use Rattle.js_keywords.specs.TypeView.{type_view}
use Rattle.js_keywords.specs.Words.{is_ascii, keyword_in, type_word, all_types, type_from}

is_ascii-IsAscii : (bytes : List ℕ) → is_ascii bytes ≡ true → IsAscii bytes
is_ascii-IsAscii [] e i = omega arith
is_ascii-IsAscii (c ∷ cs) e zero = ltb-true c 128 (and_parts _ _ e).0
is_ascii-IsAscii (c ∷ cs) e (suc i) = is_ascii-IsAscii cs (and_parts (nat_lt c 128) _ e).1 i

pub chars-is_ascii : (bytes : List ℕ) → is_ascii bytes ≡ true → chars bytes ≡ bytes
chars-is_ascii bytes e = chars-IsAscii bytes (is_ascii-IsAscii bytes e)

is_ascii-keyword_name : (k : Keyword) → is_ascii (keyword_name k) ≡ true
is_ascii-keyword_name K.Id = refl
is_ascii-keyword_name _ = refl

pub chars-keyword_name : (k : Keyword) → chars (keyword_name k) ≡ keyword_name k
chars-keyword_name k = chars-is_ascii (keyword_name k) (is_ascii-keyword_name k)

pub ruleset keyword_names = (chars-keyword_name)

pub ruleset index_tokens = (index_token-decimal)

-- the first keyword of that name
pub find-keyword_in : (ks : List Keyword) (w : List ℕ)
    → find (λ k. same_word w (keyword_name k)) ks ≡ keyword_in ks w
find-keyword_in [] w = refl
find-keyword_in (k ∷ ks) w = ap (cond (same_word w (keyword_name k)) (Some k)) (find-keyword_in ks w)

-- ---- types

-- the first type of that name
pub find-type_from : (ts : List TypeName) (w : List ℕ)
    → find (λ t. same_word w (type_word t)) ts ≡ type_from ts w
find-type_from [] w = refl
find-type_from (t ∷ ts) w = ap (cond (same_word w (type_word t)) (Some t)) (find-type_from ts w)

is_ascii-type_word : (t : TypeName) → is_ascii (type_word t) ≡ true
is_ascii-type_word T.Null = refl
is_ascii-type_word _ = refl

pub chars-type_word : (t : TypeName) → chars (type_word t) ≡ type_word t
chars-type_word t = chars-is_ascii (type_word t) (is_ascii-type_word t)

type_from-type_in : (ts : List TypeName) (w : List ℕ)
    → option_map type_view (type_from ts w) ≡ type_in (map (λ t. (type_word t, type_view t)) ts) w
type_from-type_in [] w = refl
type_from-type_in (t ∷ ts) w =
    chosen (same_word w (type_word t)) t (type_from ts w)
    ∙ ap (cond (same_word w (type_word t)) (Some (type_view t))) (type_from-type_in ts w)
  where
    chosen : (b : Bool) (u : TypeName) (o : Option TypeName)
        → option_map type_view (cond b (Some u) o) ≡ cond b (Some (type_view u)) (option_map type_view o)
    chosen true u o = refl
    chosen false u o = refl

pub type_from-all : (w : List ℕ) → option_map type_view (type_from all_types w) ≡ type_named w
type_from-all w = type_from-type_in all_types w

is_some-type_from : (ts : List TypeName) (w : List ℕ)
    → is_some (type_from ts w) ≡ some (same_word w) (map type_word ts)
is_some-type_from [] w = refl
is_some-type_from (t ∷ ts) w =
    chosen (same_word w (type_word t)) ∙ ap (λ b. same_word w (type_word t) || b) (is_some-type_from ts w)
  where
    chosen : (b : Bool) → is_some (cond b (Some t) (type_from ts w)) ≡ (b || is_some (type_from ts w))
    chosen true = refl
    chosen false = refl

pub is_some-type_words : (w : List ℕ) → is_some (type_from all_types w) ≡ some (same_word w) type_words
is_some-type_words w = is_some-type_from all_types w

pub ruleset type_lemmas = (type_from-all, is_some-type_words)

-- a word that names a type is one of the words of types
pub is_some-type_named : (w : List ℕ) → is_some (type_named w) ≡ some (same_word w) type_words
is_some-type_named w =
    ap is_some (sym (type_from-all w)) ∙ mapped (type_from all_types w) ∙ is_some-type_words w
  where
    mapped : (o : Option TypeName) → is_some (option_map type_view o) ≡ is_some o
    mapped None = refl
    mapped (Some t) = refl

mapped_test : {A B : Type 0} (f : A → B) (o : Option A) (p : Option B) → option_map f o ≡ p → is_some o ≡ is_some p
mapped_test f None p h = ap is_some h
mapped_test f (Some a) p h = ap is_some h

pub is_type_word-named : (w : List ℕ) (o : Option TypeName) → option_map type_view o ≡ type_named w
    → is_some o ≡ some (same_word w) type_words
is_type_word-named w o h = mapped_test type_view o (type_named w) h ∙ is_some-type_named w

pub ruleset type_tests = (is_type_word-named)
