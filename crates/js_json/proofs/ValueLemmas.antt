-- When a text has a value, by what the JSON reader gives of it.
use Rattle.std.proofs.Common.{◌≡◌, List, ℕ, Bool, true, false, Option, Some, None, option_map, Result, Ok, Err, IfOk, IsUtf8, refl, sym, ap, ◌∙◌, cond}
use Rattle.std.specs.Str.{is_utf8}
use Rattle.std.proofs.lemmas.Str.{is_utf8-from_IsUtf8, IsUtf8-from_is_utf8}
use Rattle.serde_json.specs.Data.{Data}
use Rattle.json.specs.Lex.{tokens}
use Rattle.serde_json.specs.Read.{read, of_json, max_depth}
use Rattle.documents.specs.Json.{Json}
use Rattle.js_json.specs.Value.{json_of, value_of}
use Rattle.documents.specs.WellFormed.{is_json}
use Rattle.js_json.proofs.DataTexts.{Given, Given-and_then, TextsOf, IsRead, IsRead-of_json, is_json-json_of}
use Rattle.js_json.proofs.TreeTexts.{TextsOf-value}
use Rattle.js_json.proofs.TokenTexts.{TextsOfTokens-tokens}

-- what is read of a text in UTF-8
IsRead-read : (bytes : List ℕ) → IsUtf8 bytes → Given IsRead (read bytes)
IsRead-read bytes u =
    Given-and_then TextsOf IsRead of_json IsRead-of_json _
    (TextsOf-value max_depth (tokens bytes) (TextsOfTokens-tokens bytes u))

-- a text in UTF-8 has the value of what is read of it
pub value_of-utf8 : (bytes : List ℕ) (j : Json) → IsUtf8 bytes → option_map json_of (read bytes) ≡ Some j
    → value_of bytes ≡ Some j
unfolding value_of
value_of-utf8 bytes j u e = rw (is_utf8-from_IsUtf8 bytes u) e

pub value_of_read : (bytes : List ℕ) (d : Data) (j : Json) → IsUtf8 bytes → read bytes ≡ Some d
    → j ≡ json_of d → value_of bytes ≡ Some j
value_of_read bytes d j u e is = value_of-utf8 bytes j u (ap (option_map json_of) e ∙ ap Some (sym is))

unread_at : (utf8 : Bool) (o : Option Json) → (utf8 ≡ true → o ≡ None) → cond utf8 o None ≡ None
unread_at true o none = none refl
unread_at false o none = refl

-- a text that is not read has no value
pub value_of_unread : (bytes : List ℕ) → (IsUtf8 bytes → option_map json_of (read bytes) ≡ None) → value_of bytes ≡ None
unfolding value_of
value_of_unread bytes none =
    unread_at _ (option_map json_of (read bytes)) (λ e. none (IsUtf8-from_is_utf8 bytes e))

well_formed_at : (utf8 : Bool) (r : Option Data) (j : Json) → (utf8 ≡ true → Given IsRead r)
    → cond utf8 (option_map json_of r) None ≡ Some j → is_json j ≡ true
well_formed_at true None j h e = cc
well_formed_at true (Some d) j h e =
    let same : json_of d ≡ j = cc in
    ap is_json (sym same) ∙ is_json-json_of d (h refl)
well_formed_at false r j h e = cc

-- the value of a text is well formed
pub is_json-value_of : (bytes : List ℕ) (j : Json) → value_of bytes ≡ Some j → is_json j ≡ true
unfolding value_of
is_json-value_of bytes j e =
    well_formed_at (is_utf8 bytes) (read bytes) j (λ u. IsRead-read bytes (IsUtf8-from_is_utf8 bytes u)) e

-- what the text of the bytes is read as, by what it stands for
pub reads_text : {V F : Type 0} (f : V → Json) (r : Result V F) (bytes text : List ℕ) → IsUtf8 bytes → text ≡ bytes
    → IfOk r (λ x. option_map json_of (read text) ≡ Some (f x)) → IfOk r (λ x. value_of bytes ≡ Some (f x))
reads_text f (Ok x) bytes text u same h =
    value_of-utf8 bytes (f x) u (ap (λ t. option_map json_of (read t)) (sym same) ∙ h)
reads_text f (Err y) bytes text u same h = tt

pub is_well_formed : {V F : Type 0} (f : V → Json) (r : Result V F) (bytes : List ℕ)
    → IfOk r (λ x. value_of bytes ≡ Some (f x)) → IfOk r (λ x. is_json (f x) ≡ true)
is_well_formed f (Ok x) bytes h = is_json-value_of bytes (f x) h
is_well_formed f (Err y) bytes h = tt
