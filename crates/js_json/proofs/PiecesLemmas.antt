-- The pieces of a text between slashes, by its bytes and by its characters.
use Rattle.std.proofs.Common.{◌≡◌, ◌≢◌, ℕ, zero, suc, ◌<◌, List, [], ◌∷◌, ◌++◌, map, length, get_or, Bool, true, false, ◌&&◌, cond, eqb, Some, None, IsUtf8, chars, arith, lit<, refl, sym, ap, ◌∙◌}
use Rattle.std.specs.Char.{encode_utf8}
use Rattle.std.specs.Str.{encode_utf8_all, all_scalars}
use lib.Utf8.{scalar}
use Rattle.std.specs.List.{onto_first}
use Rattle.std.proofs.lemmas.Bool.{and_parts, and_from}
use Rattle.std.proofs.lemmas.Bool.Decides.{nat_tests}
use Rattle.std.proofs.Math.ListN.{get_or-map, length-map}
use Rattle.std.proofs.lemmas.List.{append-nil}
use Rattle.std.proofs.lemmas.List.Splits.{slice_split-cons_yes, slice_split-cons_no}
use Rattle.std.proofs.lemmas.Str.{encode_ascii, inside_one, chars-encodes, encodes-chars, scalars-chars}
use Rattle.documents.specs.Tests.{every}
use Rattle.js_json.specs.Reference.{are_escapes, unescaped, token_of, pieces, tokens_between}

-- bytes put onto the front of the first piece
onto_bytes : List ℕ → List (List ℕ) → List (List ℕ)
onto_bytes [] parts = parts
onto_bytes (x ∷ xs) parts = onto_first x (onto_bytes xs parts)

onto_bytes-first : (xs part : List ℕ) (parts : List (List ℕ)) → onto_bytes xs (part ∷ parts) ≡ (xs ++ part) ∷ parts
unfolding onto_bytes
onto_bytes-first [] part parts = refl
onto_bytes-first (x ∷ xs) part parts = ap (onto_first x) (onto_bytes-first xs part parts)

pieces-append : (xs ys : List ℕ) → ((k : ℕ) → k < length xs → get_or xs k 0 ≢ 47)
    → pieces (xs ++ ys) ≡ onto_bytes xs (pieces ys)
unfolding onto_bytes
pieces-append [] ys none = refl
pieces-append (x ∷ xs) ys none =
    let other : x ≢ 47 = none 0 (omega arith) in
    let test : eqb x 47 ≡ false = grind (arith, nat_tests) in
    slice_split-cons_no (λ c. eqb c 47) x (xs ++ ys) test
    ∙ ap (onto_first x) (pieces-append xs ys (λ k within. none (suc k) (omega arith)))

some_pieces : (cs : List ℕ) → (part : List ℕ) × ((parts : List (List ℕ)) × (pieces cs ≡ part ∷ parts))
some_pieces [] = ([], ([], refl))
some_pieces (c ∷ cs) =
    let rest = some_pieces cs in
    elim (eqb c 47) as (λ b. (part : List ℕ) × ((parts : List (List ℕ))
    × (cond b ([] ∷ pieces cs) (onto_first c (pieces cs)) ≡ part ∷ parts))) [
      | true ↦ ([], (pieces cs, refl))
      | false ↦ (c ∷ rest.0, (rest.1.0, ap (onto_first c) rest.1.1))
    ]

-- no other character has a slash among its bytes
no_slash : (c : ℕ) → c ≢ 47 → (k : ℕ) → k < length (encode_utf8 c) → get_or (encode_utf8 c) k 0 ≢ 47
no_slash c other k within is =
    other (inside_one c [] (encode_utf8 c) k (sym (append-nil (encode_utf8 c))) within (omega arith) ∙ is)

-- the pieces of a text's bytes are the bytes of its pieces
pieces-encodes : (cs : List ℕ) → pieces (encode_utf8_all cs) ≡ map encode_utf8_all (pieces cs)
pieces-encodes [] = refl
pieces-encodes (c ∷ cs) = go (eqb c 47) refl (pieces-encodes cs)
  where
    go : (b : Bool) → eqb c 47 ≡ b → pieces (encode_utf8_all cs) ≡ map encode_utf8_all (pieces cs)
        → pieces (encode_utf8_all (c ∷ cs)) ≡ map encode_utf8_all (pieces (c ∷ cs))
    go true test rest =
        let is : c ≡ 47 = grind (arith, nat_tests) in
        let bytes : encode_utf8 c ≡ 47 ∷ [] = ap encode_utf8 is ∙ encode_ascii 47 (lit< tt) in
        ap (λ bs. pieces (bs ++ encode_utf8_all cs)) bytes ∙ ap (λ ps. [] ∷ ps) rest
        ∙ sym (ap (map encode_utf8_all) (slice_split-cons_yes (λ d. eqb d 47) c cs test))
    go false test rest =
        let other : c ≢ 47 = grind (arith, nat_tests) in
        let some = some_pieces cs in
        let first : map encode_utf8_all (onto_first c (pieces cs))
        ≡ onto_bytes (encode_utf8 c) (map encode_utf8_all (pieces cs)) =
        rw some.1.1 (sym (onto_bytes-first (encode_utf8 c) (encode_utf8_all some.0) (map encode_utf8_all some.1.0))) in
        pieces-append (encode_utf8 c) (encode_utf8_all cs) (no_slash c other)
        ∙ ap (onto_bytes (encode_utf8 c)) rest ∙ sym first
        ∙ sym (ap (map encode_utf8_all) (slice_split-cons_no (λ d. eqb d 47) c cs test))

-- the pieces of a text are texts
onto_first-scalars : (c : ℕ) (parts : List (List ℕ)) → all_scalars (c ∷ []) ≡ true → every all_scalars parts ≡ true
    → every all_scalars (onto_first c parts) ≡ true
onto_first-scalars c [] one h = rw one refl
onto_first-scalars c (part ∷ parts) one h =
    let both = and_parts (all_scalars part) (every all_scalars parts) h in
    and_from (all_scalars (c ∷ part)) (every all_scalars parts)
    (and_from (scalar c) (all_scalars part) (and_parts (scalar c) true one).0 both.0) both.1

pieces-scalars : (cs : List ℕ) → all_scalars cs ≡ true → every all_scalars (pieces cs) ≡ true
pieces-scalars [] h = refl
pieces-scalars (c ∷ cs) h =
    let both = and_parts (scalar c) (all_scalars cs) h in
    let rest = pieces-scalars cs both.1 in
    elim (eqb c 47) as (λ b. every all_scalars (cond b ([] ∷ pieces cs) (onto_first c (pieces cs))) ≡ true) [
      | true ↦ rest
      | false ↦ onto_first-scalars c (pieces cs) (and_from (scalar c) true both.0 refl) rest
    ]

chars-encodes_each : (parts : List (List ℕ)) → every all_scalars parts ≡ true
    → map chars (map encode_utf8_all parts) ≡ parts
chars-encodes_each [] h = refl
chars-encodes_each (part ∷ parts) h =
    let both = and_parts (all_scalars part) (every all_scalars parts) h in
    rw (chars-encodes part both.0, chars-encodes_each parts both.1) refl

-- the characters of the pieces
pub pieces-chars : (bs : List ℕ) → IsUtf8 bs → map chars (pieces bs) ≡ pieces (chars bs)
pieces-chars bs utf8 =
    ap (λ b. map chars (pieces b)) (sym (encodes-chars bs utf8)) ∙ ap (map chars) (pieces-encodes (chars bs))
    ∙ chars-encodes_each (pieces (chars bs)) (pieces-scalars (chars bs) (scalars-chars bs utf8))

-- the tokens of all pieces
pub tokens_between_all : (read : List (List ℕ)) (text : List ℕ) (tokens : List (List ℕ)) → read ≡ pieces text
    → (every are_escapes read ≡ true) × (tokens ≡ map unescaped read) → tokens_between text ≡ Some tokens
tokens_between_all read text tokens is made =
    let good : every are_escapes (pieces text) ≡ true = rw is at made.0 in
    rw (good, ← is, made.1) refl

every-at : (p : List ℕ → Bool) (xs : List (List ℕ)) (i : ℕ) (x : List ℕ) → i < length xs
    → x ≡ get_or xs i x → p x ≡ false
    → every p xs ≡ false
every-at p [] i x within is fails = absurd (omega arith)
every-at p (y ∷ ys) zero x within is fails = let same : p y ≡ false = ap p (sym is) ∙ fails in rw same refl
every-at p (y ∷ ys) (suc i) x within is fails =
    let rest = every-at p ys i x (omega arith) is fails in
    rw rest (elim (p y) as (λ b. b && false ≡ false) [ true ↦ refl | false ↦ refl ])

-- one piece that writes no token
pub tokens_between_none : (text : List ℕ) (parts : List (List ℕ)) (i : ℕ) (part : List ℕ)
    → map chars parts ≡ pieces text
    → (i < length parts) × (part ≡ get_or parts i part) → token_of (chars part) ≡ None → tokens_between text ≡ None
tokens_between_none text parts i part is at none =
    let fails : are_escapes (chars part) ≡ false = without (are_escapes (chars part)) (unescaped (chars part)) none in
    let here : chars part ≡ get_or (map chars parts) i (chars part) =
    ap chars at.1 ∙ sym (get_or-map chars parts i part) in
    let within : i < length (map chars parts) = rw length-map at.0 in
    let all = every-at are_escapes (map chars parts) i (chars part) within here fails in
    let bad : every are_escapes (pieces text) ≡ false = rw is at all in rw bad refl
  where
    without : (test : Bool) (token : List ℕ) → cond test (Some token) None ≡ None → test ≡ false
    without true token e = cc
    without false token e = refl
