-- Reading a token, character by character.
use Rattle.std.proofs.Common.{◌≡◌, ◌≢◌, ℕ, ◌<◌, List, [], ◌∷◌, ◌++◌, length, Bool, true, false, cond, eqb, Option, Some, None, option_map, Ok, IsUtf8, chars, arith, refl, sym, ap, ◌∙◌, subst, append_assoc}
use Rattle.std.specs.Char.{encode_utf8}
use Rattle.std.specs.Str.{encode_utf8_all}
use Rattle.std.proofs.lemmas.Bool.Decides.{nat_tests}
use Rattle.std.proofs.lemmas.List.{length-append, append-nil}
use Rattle.std.proofs.lemmas.Str.{chars-nil, chars_past_char, IsUtf8-past_char, length-encode, len_utf8_bounds, encodes_same, encodes-append, encodes-chars}
use Rattle.js_json.specs.Steps.{TakesOrRefuses}
use Rattle.js_json.specs.Reference.{are_escapes, replaced, unescaped, token_of}

-- a character that isn't `~` stays
replaced_other : (digit by c : ℕ) (cs : List ℕ) → eqb c 126 ≡ false
    → replaced digit by (c ∷ cs) ≡ c ∷ replaced digit by cs
replaced_other digit by c [] other = refl
replaced_other digit by c (d ∷ cs) other = rw other refl

are_escapes_other : (c : ℕ) (cs : List ℕ) → eqb c 126 ≡ false → are_escapes (c ∷ cs) ≡ are_escapes cs
are_escapes_other c [] other = rw other refl
are_escapes_other c (d ∷ cs) other = rw other refl

pushed : (test : Bool) (c : ℕ) (token : List ℕ)
    → cond test (Some (c ∷ token)) None ≡ option_map (λ t. c ∷ t) (cond test (Some token) None)
pushed true c token = refl
pushed false c token = refl

token_of_other : (c : ℕ) (cs : List ℕ) → eqb c 126 ≡ false → token_of (c ∷ cs) ≡ option_map (λ t. c ∷ t) (token_of cs)
token_of_other c cs other =
    let slashes = replaced_other 49 47 c cs other in
    rw (are_escapes_other c cs other, slashes, replaced_other 48 126 c (replaced 49 47 cs) other)
    (pushed (are_escapes cs) c (unescaped cs))

token_of_tilde : (cs : List ℕ) → token_of (126 ∷ 48 ∷ cs) ≡ option_map (λ t. 126 ∷ t) (token_of cs)
token_of_tilde cs =
    rw (are_escapes_other 48 cs refl, replaced_other 49 47 48 cs refl) (pushed (are_escapes cs) 126 (unescaped cs))

token_of_slash : (cs : List ℕ) → token_of (126 ∷ 49 ∷ cs) ≡ option_map (λ t. 47 ∷ t) (token_of cs)
token_of_slash cs =
    rw (are_escapes_other 49 cs refl, replaced_other 48 126 47 (replaced 49 47 cs) refl)
    (pushed (are_escapes cs) 47 (unescaped cs))

token_of_wrong : (d : ℕ) (cs : List ℕ) → eqb d 48 ≡ false → eqb d 49 ≡ false → token_of (126 ∷ d ∷ cs) ≡ None
token_of_wrong d cs zero one = rw (zero, one) refl

-- the first character, and its token, of the bytes of a text
module _ (bs rest : List ℕ) (c : ℕ) (utf8 : IsUtf8 bs) (is : bs ≡ encode_utf8 c ++ rest) where
  first_char : chars bs ≡ c ∷ chars rest
  first_char = chars_past_char bs rest c utf8 is

  shorter : length rest < length bs
  shorter =
      let all = ap length is ∙ length-append (encode_utf8 c) rest in
      let some = len_utf8_bounds c in
      omega (arith, all, length-encode c, some)

  pub take_plain : c ≢ 126
      → (token_of (chars bs) ≡ option_map (λ t. c ∷ t) (token_of (chars rest)))
      × (length rest < length bs) × IsUtf8 rest
  take_plain other =
      let test : eqb c 126 ≡ false = grind (arith, nat_tests) in
      (rw first_char (token_of_other c (chars rest) test), shorter, IsUtf8-past_char bs rest c utf8 is)

-- a `~`, and what comes after it
module _ (bs mid rest : List ℕ) (c d : ℕ) (utf8 : IsUtf8 bs) (is : bs ≡ encode_utf8 c ++ mid) (tilde : c ≡ 126)
    (next : mid ≡ encode_utf8 d ++ rest) where
  two_chars : chars bs ≡ 126 ∷ d ∷ chars rest
  two_chars =
      first_char bs mid c utf8 is
      ∙ rw (tilde, first_char mid rest d (IsUtf8-past_char bs mid c utf8 is) next) refl

  take_escape : (e : ℕ) → token_of (126 ∷ d ∷ chars rest) ≡ option_map (λ t. e ∷ t) (token_of (chars rest))
      → (token_of (chars bs) ≡ option_map (λ t. e ∷ t) (token_of (chars rest)))
      × (length rest < length bs) × IsUtf8 rest
  take_escape e same =
      let one = shorter bs mid c utf8 is in
      let mid_utf8 = IsUtf8-past_char bs mid c utf8 is in
      let two = shorter mid rest d mid_utf8 next in
      (rw two_chars same, omega arith, IsUtf8-past_char mid rest d mid_utf8 next)

  pub take_tilde : d ≡ 48
      → (token_of (chars bs) ≡ option_map (λ t. 126 ∷ t) (token_of (chars rest)))
      × (length rest < length bs) × IsUtf8 rest
  take_tilde zero = take_escape 126 (ap (λ e. token_of (126 ∷ e ∷ chars rest)) zero ∙ token_of_tilde (chars rest))

  pub take_slash : d ≡ 49
      → (token_of (chars bs) ≡ option_map (λ t. 47 ∷ t) (token_of (chars rest)))
      × (length rest < length bs) × IsUtf8 rest
  take_slash one = take_escape 47 (ap (λ e. token_of (126 ∷ e ∷ chars rest)) one ∙ token_of_slash (chars rest))

  pub take_wrong : d ≢ 48 → d ≢ 49 → token_of (chars bs) ≡ None
  take_wrong zero one =
      let no_zero : eqb d 48 ≡ false = grind (arith, nat_tests) in
      let no_one : eqb d 49 ≡ false = grind (arith, nat_tests) in
      rw two_chars (token_of_wrong d (chars rest) no_zero no_one)

-- a `~` at the end
pub take_last : (bs mid : List ℕ) (c : ℕ) → IsUtf8 bs → bs ≡ encode_utf8 c ++ mid → c ≡ 126 → length mid ≡ 0
    → token_of (chars bs) ≡ None
take_last bs [] c utf8 is tilde none = rw (first_char bs [] c utf8 is, tilde, chars-nil) refl
take_last bs (b ∷ mid) c utf8 is tilde none = absurd (omega arith)

-- nothing is left
pub take_end : (bs : List ℕ) → length bs ≡ 0 → token_of (chars bs) ≡ Some []
take_end [] none = rw chars-nil refl
take_end (b ∷ bs) none = absurd (omega arith)

-- one more character of the token
more : (whole before after : Option (List ℕ)) (done : List ℕ) (c : ℕ)
    → whole ≡ option_map (λ t. done ++ t) before → before ≡ option_map (λ t. c ∷ t) after
    → whole ≡ option_map (λ t. (done ++ c ∷ []) ++ t) after
more whole before None done c all is = all ∙ ap (option_map (λ t. done ++ t)) is
more whole before (Some t) done c all is =
    all ∙ ap (option_map (λ t. done ++ t)) is ∙ ap Some (sym (append_assoc done (c ∷ []) t))

pub token_more : (piece text rest : List ℕ) (old new : List ℕ) (c : ℕ) (o : Option ℕ) → o ≡ Some c
    → TakesOrRefuses text rest (Ok o) → new ≡ old ++ encode_utf8 c
    → IsUtf8 text × ((done : List ℕ) × (old ≡ encode_utf8_all done)
    × (token_of (chars piece) ≡ option_map (λ t. done ++ t) (token_of (chars text))))
    → IsUtf8 rest × ((done : List ℕ) × (new ≡ encode_utf8_all done)
    × (token_of (chars piece) ≡ option_map (λ t. done ++ t) (token_of (chars rest))))
token_more piece text rest old new c o is took grown before =
    let taken = subst (λ o. TakesOrRefuses text rest (Ok o)) is took in
    let done = before.1.0 in (
      taken.2,
      (
        done ++ c ∷ [],
        grown ∙ ap (λ bs. bs ++ encode_utf8 c) before.1.1 ∙ sym (encodes-append done (c ∷ [])
            ∙ ap (λ bs. encode_utf8_all done ++ bs) (append-nil (encode_utf8 c))),
        more _ _ _ done c before.1.2 taken.0,
      ),
    )

-- the whole token
pub token_all : (piece text rest bytes : List ℕ) (o : Option ℕ) → o ≡ None
    → TakesOrRefuses text rest (Ok o) → IsUtf8 bytes
    → IsUtf8 text × ((done : List ℕ) × (bytes ≡ encode_utf8_all done)
    × (token_of (chars piece) ≡ option_map (λ t. done ++ t) (token_of (chars text))))
    → token_of (chars piece) ≡ Some (chars bytes)
token_all piece text rest bytes o is took utf8 before =
    let ended = subst (λ o. TakesOrRefuses text rest (Ok o)) is took in
    let done = before.1.0 in
    let same : chars bytes ≡ done = encodes_same (chars bytes) done (encodes-chars bytes utf8 ∙ before.1.1) in
    before.1.2 ∙ ap (option_map (λ t. done ++ t)) ended ∙ ap Some (append-nil done ∙ sym same)
