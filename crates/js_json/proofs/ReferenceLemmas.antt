-- References, by their bytes and by their characters.
use Rattle.std.proofs.Common.{◌≡◌, ◌≢◌, ℕ, ◌<◌, List, [], ◌∷◌, ◌++◌, length, get_or, take, drop, take-append-drop, length-drop, Bool, true, false, cond, eqb, Option, Some, None, Ok, unwrap_or, bytes_eq, IsUtf8, chars, arith, lit<, refl, sym, ap, ◌∙◌, subst}
use Rattle.std.specs.Borrow.{Bor}
use Rattle.std.specs.Char.{encode_utf8}
use Rattle.std.specs.Option.{MatchOption, option_and_then}
use Rattle.std.specs.Str.{encode_utf8_all, is_utf8, NonePass, NoCharPasses}
use Rattle.std.proofs.lemmas.Bool.Decides.{nat_tests}
use Rattle.std.proofs.lemmas.List.{append-nil, take_at}
use Rattle.std.proofs.lemmas.Str.{encode_ascii, encodes-append, encodes-chars, encodes_same, chars-nil, chars-append, chars_past_char, IsUtf8-take, IsUtf8-drop, IsCharBoundary-before_ascii, IsCharBoundary-at_seam, IsUtf8-from_is_utf8}
use Rattle.std.proofs.lemmas.Str.Pattern.{IsSplitOnceResult, drop_at_char}
use Rattle.documents.specs.Json.{Json, null, boolean, number, not_whole, string, array, object}
use Rattle.documents.specs.Tests.{same_word}
use Rattle.documents.specs.Place.{value_at}
use Rattle.js_doc.proofs.Lookups.{same_word-named}
use Rattle.percent_encoding.specs.Percent.{percent_decode}
use Rattle.js_json.specs.Reference.{before_hash, after_hash, without_last_hash, is_own, decoded, tokens_between, tokens_of, found, pointed, target_of}

-- a text that begins with an ASCII character
pub chars-ascii_cons : (bs rest : List ℕ) (c : ℕ) → c < 128 → IsUtf8 bs → bs ≡ c ∷ rest → chars bs ≡ c ∷ chars rest
chars-ascii_cons bs rest c small utf8 is =
    chars_past_char bs rest c utf8 (is ∙ ap (λ b. b ++ rest) (sym (encode_ascii c small)))

-- the bytes of a text are those of its characters alone
no_bytes : (bs : List ℕ) (cs : List ℕ) → IsUtf8 bs → chars bs ≡ cs → bs ≡ encode_utf8_all cs
no_bytes bs cs utf8 is = sym (encodes-chars bs utf8) ∙ ap encode_utf8_all is

-- ---- pointers

pub tokens_of-empty : (bs : List ℕ) → length bs ≡ 0 → tokens_of (chars bs) ≡ Some []
tokens_of-empty [] none = rw chars-nil refl
tokens_of-empty (b ∷ bs) none = absurd (omega arith)

pub tokens_of-slash : (bs rest : List ℕ) → IsUtf8 bs → bs ≡ 47 ∷ rest
    → tokens_of (chars bs) ≡ tokens_between (chars rest)
tokens_of-slash bs rest utf8 is = rw (chars-ascii_cons bs rest 47 (lit< tt) utf8 is) refl

pub tokens_of-other : (bs : List ℕ) → IsUtf8 bs → (length bs ≡ 0 → ⊥) → ((rest : List ℕ) → bs ≢ 47 ∷ rest)
    → tokens_of (chars bs) ≡ None
tokens_of-other bs utf8 some other = go (chars bs) refl
  where
    go : (cs : List ℕ) → chars bs ≡ cs → tokens_of cs ≡ None
    go [] is = absurd (some (ap length (no_bytes bs [] utf8 is)))
    go (c ∷ cs) is = test (eqb c 47) refl
      where
        test : (b : Bool) → eqb c 47 ≡ b → cond (eqb c 47) (tokens_between cs) None ≡ None
        test true slash =
            let same : c ≡ 47 = grind (arith, nat_tests) in
            let bytes = no_bytes bs (c ∷ cs) utf8 is
            ∙ ap (λ d. encode_utf8 d ++ encode_utf8_all cs) same
            ∙ ap (λ b. b ++ encode_utf8_all cs) (encode_ascii 47 (lit< tt)) in
            absurd (other (encode_utf8_all cs) bytes)
        test false plain = rw plain refl

-- ---- fragments

pub decoded-utf8 : (fragment text : List ℕ) → IsUtf8 fragment → text ≡ percent_decode fragment → is_utf8 text ≡ true
    → decoded (chars fragment) ≡ Some (chars text)
decoded-utf8 fragment text utf8 is valid = rw (encodes-chars fragment utf8, ← is, valid) refl

pub decoded-refused : (fragment text : List ℕ) → IsUtf8 fragment → text ≡ percent_decode fragment → (IsUtf8 text → ⊥)
    → decoded (chars fragment) ≡ None
decoded-refused fragment text utf8 is invalid = go (is_utf8 text) refl
  where
    go : (b : Bool) → is_utf8 text ≡ b → decoded (chars fragment) ≡ None
    go true valid = absurd (invalid (IsUtf8-from_is_utf8 text valid))
    go false test = rw (encodes-chars fragment utf8, ← is, test) refl

-- ---- the first `#`

before_hash-none : (cs : List ℕ) → NonePass (λ d. eqb d 35) cs → before_hash cs ≡ cs
before_hash-none [] none = refl
before_hash-none (c ∷ cs) none = rw (none.0, before_hash-none cs none.1) refl

after_hash-none : (cs : List ℕ) → NonePass (λ d. eqb d 35) cs → after_hash cs ≡ []
after_hash-none [] none = refl
after_hash-none (c ∷ cs) none = rw none.0 (after_hash-none cs none.1)

before_hash-first : (cs ds : List ℕ) → NonePass (λ d. eqb d 35) cs → before_hash (cs ++ 35 ∷ ds) ≡ cs
before_hash-first [] ds none = refl
before_hash-first (c ∷ cs) ds none = rw (none.0, before_hash-first cs ds none.1) refl

after_hash-first : (cs ds : List ℕ) → NonePass (λ d. eqb d 35) cs → after_hash (cs ++ 35 ∷ ds) ≡ ds
after_hash-first [] ds none = refl
after_hash-first (c ∷ cs) ds none = rw none.0 (after_hash-first cs ds none.1)

-- the characters of a text of which none is `#`
none_of_chars : (bs : List ℕ) → IsUtf8 bs → NoCharPasses (λ d. eqb d 35) bs → NonePass (λ d. eqb d 35) (chars bs)
none_of_chars bs utf8 none =
    let same : none.0 ≡ chars bs = encodes_same none.0 (chars bs) (none.1 ∙ sym (encodes-chars bs utf8)) in
    subst (NonePass (λ d. eqb d 35)) same none.2

cut-none : (bs : List ℕ) → IsUtf8 bs → NoCharPasses (λ d. eqb d 35) bs
    → (chars bs ≡ before_hash (chars bs)) × ([] ≡ after_hash (chars bs))
cut-none bs utf8 none =
    let clear = none_of_chars bs utf8 none in
    (sym (before_hash-none (chars bs) clear), sym (after_hash-none (chars bs) clear))

cut-first : (bs front back : List ℕ) → IsUtf8 front → bs ≡ front ++ 35 ∷ back → IsUtf8 (35 ∷ back)
    → NoCharPasses (λ d. eqb d 35) front
    → (chars front ≡ before_hash (chars bs)) × (chars back ≡ after_hash (chars bs))
cut-first bs front back front_utf8 is back_utf8 none =
    let clear = none_of_chars front front_utf8 none in
    let all = ap chars is ∙ chars-append front (35 ∷ back) front_utf8
    ∙ ap (λ cs. chars front ++ cs) (chars-ascii_cons (35 ∷ back) back 35 (lit< tt) back_utf8 refl) in (
      sym (ap before_hash all ∙ before_hash-first (chars front) (chars back) clear),
      sym (ap after_hash all ∙ after_hash-first (chars front) (chars back) clear),
    )

-- what comes before and after the first `#`, or all and nothing
pub cut-at : (bs : List ℕ) (whole : Bor (List ℕ) × Bor (List ℕ)) (r : Option (Bor (List ℕ) × Bor (List ℕ))) → IsUtf8 bs
    → whole.0.now ≡ bs → whole.1.now ≡ [] → IsSplitOnceResult 35 bs r
    → (chars (unwrap_or r whole).0.now ≡ before_hash (chars bs))
    × (chars (unwrap_or r whole).1.now ≡ after_hash (chars bs))
cut-at bs whole None utf8 all nothing none =
    let parts = cut-none bs utf8 none in (ap chars all ∙ parts.0, ap chars nothing ∙ chars-nil ∙ parts.1)
cut-at bs whole (Some x) utf8 all nothing found =
    let i = found.0 in
    let j = found.1 in
    let at : drop i bs ≡ 35 ∷ drop j bs = drop_at_char 35 bs i j found.2.1 (lit< tt) in
    let left = ap length at in
    let within : i < length bs = omega (arith, length-drop i bs, left) in
    let byte : get_or bs i 0 ≡ 35 = found.2.1.byte (lit< tt) in
    let boundary = IsCharBoundary-before_ascii bs i within (omega arith) in
    let front : x.0.now ≡ take i bs = found.3 in
    let back : x.1.now ≡ drop j bs = found.4 in
    let joined : bs ≡ take i bs ++ 35 ∷ drop j bs = sym (take-append-drop i bs) ∙ ap (λ d. take i bs ++ d) at in
    let rest : IsUtf8 (35 ∷ drop j bs) = subst IsUtf8 at (IsUtf8-drop bs i utf8 boundary) in
    let parts = cut-first bs (take i bs) (drop j bs) (IsUtf8-take bs i utf8 boundary) joined rest found.2.0 in
    (ap chars front ∙ parts.0, ap chars back ∙ parts.1)

-- ---- the last `#`

without_last_hash-last : (cs : List ℕ) → without_last_hash (cs ++ 35 ∷ []) ≡ cs
without_last_hash-last [] = refl
without_last_hash-last (c ∷ []) = refl
without_last_hash-last (c ∷ d ∷ cs) = ap (λ ds. c ∷ ds) (without_last_hash-last (d ∷ cs))

without_last_hash-none : (cs : List ℕ) → ((front : List ℕ) → cs ≢ front ++ 35 ∷ []) → without_last_hash cs ≡ cs
without_last_hash-none [] none = refl
without_last_hash-none (c ∷ []) none = go (eqb c 35) refl
  where
    go : (b : Bool) → eqb c 35 ≡ b → cond (eqb c 35) [] (c ∷ []) ≡ c ∷ []
    go true hash = let same : c ≡ 35 = grind (arith, nat_tests) in absurd (none [] (ap (λ d. d ∷ []) same))
    go false other = rw other refl
without_last_hash-none (c ∷ d ∷ cs) none =
    ap (λ ds. c ∷ ds) (without_last_hash-none (d ∷ cs) (λ front is. none (c ∷ front) (ap (λ ds. c ∷ ds) is)))

hash_utf8 : IsUtf8 (35 ∷ [])
hash_utf8 = (35 ∷ [], (refl, append-nil (encode_utf8 35) ∙ encode_ascii 35 (lit< tt)))

front_utf8 : (bs front back : List ℕ) → IsUtf8 bs → IsUtf8 back → bs ≡ front ++ back → IsUtf8 front
front_utf8 bs front back utf8 back_utf8 is =
    let boundary = IsCharBoundary-at_seam bs front back is back_utf8 in
    subst IsUtf8 (ap (take (length front)) is ∙ take_at front back (length front) refl)
    (IsUtf8-take bs (length front) utf8 boundary)

pub without_last_hash-at : (bs : List ℕ) (whole : Bor (List ℕ)) (r : Option (Bor (List ℕ))) → IsUtf8 bs → whole.now ≡ bs
    → MatchOption r ((front : List ℕ) → bs ≢ front ++ 35 ∷ []) (λ x. bs ≡ x.now ++ 35 ∷ [])
    → chars (unwrap_or r whole).now ≡ without_last_hash (chars bs)
without_last_hash-at bs whole None utf8 all none =
    let plain : (front : List ℕ) → chars bs ≢ front ++ 35 ∷ [] = λ front is. none (encode_utf8_all front)
    (no_bytes bs (front ++ 35 ∷ []) utf8 is ∙ encodes-append front (35 ∷ [])
    ∙ ap (λ h. encode_utf8_all front ++ h) (append-nil (encode_utf8 35) ∙ encode_ascii 35 (lit< tt))) in
    ap chars all ∙ sym (without_last_hash-none (chars bs) plain)
without_last_hash-at bs whole (Some x) utf8 all is =
    let hash : chars (35 ∷ []) ≡ 35 ∷ [] =
    chars-ascii_cons (35 ∷ []) [] 35 (lit< tt) hash_utf8 refl ∙ ap (λ cs. 35 ∷ cs) chars-nil in
    let front = front_utf8 bs x.now (35 ∷ []) utf8 hash_utf8 is in
    let joined = ap chars is ∙ chars-append x.now (35 ∷ []) front ∙ ap (λ h. chars x.now ++ h) hash in
    sym (ap without_last_hash joined ∙ without_last_hash-last (chars x.now))

-- ---- the file's own name

empty_chars : (bs : List ℕ) → IsUtf8 bs → chars bs ≡ [] → length bs ≡ 0
empty_chars bs utf8 is = ap length (no_bytes bs [] utf8 is)

pub is_own-empty : (base : List ℕ) (id : Option (List ℕ)) → length base ≡ 0 → is_own (chars base) id ≡ true
is_own-empty [] id none = rw chars-nil refl
is_own-empty (b ∷ base) id none = absurd (omega arith)

pub is_own-named : (base id plain : List ℕ) (test : Bool) → IsUtf8 base → IsUtf8 plain → (length base ≡ 0 → ⊥)
    → chars plain ≡ without_last_hash (chars id) → test ≡ bytes_eq plain base
    → test ≡ is_own (chars base) (Some (chars id))
is_own-named base id plain test utf8 plain_utf8 some is same = go (chars base) refl
  where
    go : (cs : List ℕ) → chars base ≡ cs → test ≡ is_own (chars base) (Some (chars id))
    go [] none = absurd (some (empty_chars base utf8 none))
    go (c ∷ cs) first =
        let named = same_word-named base plain (without_last_hash (chars id)) test utf8 plain_utf8 is same in
        sym named ∙ ap (λ w. same_word w (without_last_hash (chars id))) first
        ∙ sym (ap (λ w. is_own w (Some (chars id))) first)

pub is_own-unnamed : (base : List ℕ) (test : Bool) → IsUtf8 base → test ≡ eqb (length base) 0
    → test ≡ is_own (chars base) None
is_own-unnamed base test utf8 is = go (chars base) refl
  where
    go : (cs : List ℕ) → chars base ≡ cs → test ≡ is_own (chars base) None
    go [] none = let empty : length base ≡ 0 = empty_chars base utf8 none in
        is ∙ ap (λ n. eqb n 0) empty ∙ sym (ap (λ w. is_own w None) none)
    go (c ∷ cs) first = is ∙ some base first ∙ sym (ap (λ w. is_own w None) first)
      where
        some : (bs : List ℕ) → chars bs ≡ c ∷ cs → eqb (length bs) 0 ≡ false
        some [] e = let no_chars = sym chars-nil ∙ e in cc
        some (b ∷ bs) e = grind (arith, nat_tests)

-- ---- the schema that is found

found-ok : (place target : List (List ℕ)) (o : Option Json) → found place o ≡ Ok target
    → (place ≡ target) × ((value : Json) × (o ≡ Some value))
found-ok place target None e = cc
found-ok place target (Some null) e = cc
found-ok place target (Some (boolean b)) e = (cc, (boolean b, refl))
found-ok place target (Some (number n)) e = cc
found-ok place target (Some not_whole) e = cc
found-ok place target (Some (string s)) e = cc
found-ok place target (Some (array ds)) e = cc
found-ok place target (Some (object ms)) e = (cc, (object ms, refl))

pointed-ok : (j : Json) (o : Option (List (List ℕ))) (target : List (List ℕ)) → pointed j o ≡ Ok target
    → (value : Json) × (value_at target j ≡ Some value)
pointed-ok j None target e = cc
pointed-ok j (Some place) target e =
    let there = found-ok place target (value_at place j) e in
    (there.1.0, ap (λ p. value_at p j) (sym there.0) ∙ there.1.1)

-- a target is a place of the file
pub value_at-target_of : (j : Json) (text : List ℕ) (id : Option (List ℕ)) (target : List (List ℕ))
    → target_of j text id ≡ Ok target → (value : Json) × (value_at target j ≡ Some value)
value_at-target_of j text id target e = go (is_own (before_hash text) id) refl
  where
    go : (own : Bool) → is_own (before_hash text) id ≡ own → (value : Json) × (value_at target j ≡ Some value)
    go true own =
        pointed-ok j (option_and_then tokens_of (decoded (after_hash text))) target (rw own at e)
    go false own = let remote = rw own at e in cc
