-- Elements by their index, and the steps of a pointer.
use Rattle.std.proofs.Common.{◌≡◌, ℕ, ◌+◌, ◌<◌, ◌≤◌, ◌^◌, List, [], ◌∷◌, map, length, get_or, drop, drop-cons, add-one, Bool, true, false, ltb, Option, Some, None, option_map, Result, Ok, Err, IsUtf8, IsAscii, chars, arith, rules, refl, sym, ap, ◌∙◌}
use Rattle.std.specs.Char.{is_ascii_digit}
use Rattle.std.specs.List.{list_all}
use Rattle.std.specs.Borrow.{Bor}
use Rattle.std.specs.Option.{MatchOption, IfSome, is_some}
use Rattle.std.specs.Result.{result_ok, OkIff}
use Rattle.std.specs.Str.Parse.{ParsesUnsigned, digits_value}
use Rattle.std.proofs.lemmas.Bool.{and_parts, true≢false}
use Rattle.std.proofs.lemmas.Bool.Decides.{nat_tests}
use Rattle.std.proofs.lemmas.Fmt.{IsAscii-from_digits}
use Rattle.std.proofs.lemmas.Option.{slice_get-map, slice_get_read, slice_get_past}
use Rattle.std.proofs.lemmas.Str.{encodes-chars, encodes-IsAscii, chars-IsAscii}
use Rattle.std.proofs.lemmas.Str.Parse.{IsDigitsTest, IsNumeralModel, numerals_by_value, parse_digits}
use Rattle.documents.specs.Json as J
use Rattle.js_doc.specs.declared.json.Json.{Json}
use Rattle.js_doc.specs.JsonView.{view}
use Rattle.js_doc.proofs.Levels.{json_elements-of}
use Rattle.documents.specs.Place.{is_index, index_of, child_at, value_at}

abbrev AreDigits : List ℕ → Type 0
AreDigits ds = list_all is_ascii_digit ds ≡ true

tells_digits : IsDigitsTest AreDigits
tells_digits = search rules

numerals : IsNumeralModel AreDigits (digits_value 10)
numerals = numerals_by_value _ tells_digits

-- an index is digits
are_digits-is_index : (ds : List ℕ) → is_index ds ≡ true → AreDigits ds × (0 < length ds)
are_digits-is_index [] h = absurd (true≢false (sym h))
are_digits-is_index (c ∷ []) h = (rw h refl, omega arith)
are_digits-is_index (c ∷ d ∷ cs) h = ((and_parts _ _ h).1, omega arith)

is_ascii-is_index : (ds : List ℕ) → is_index ds ≡ true → IsAscii ds
is_ascii-is_index ds h = IsAscii-from_digits ds (numerals.to ds (are_digits-is_index ds h).0)

-- an index has the same characters and bytes
pub index_of-chars : (bs : List ℕ) → IsUtf8 bs → index_of (chars bs) ≡ index_of bs
index_of-chars bs u = go (is_index bs) (is_index (chars bs)) refl refl
  where
    go : (a b : Bool) → is_index bs ≡ a → is_index (chars bs) ≡ b → index_of (chars bs) ≡ index_of bs
    go true b h k = ap index_of (chars-IsAscii bs (is_ascii-is_index bs h))
    go false true h k =
        ap index_of (sym (encodes-IsAscii (chars bs) (is_ascii-is_index (chars bs) k)) ∙ encodes-chars bs u)
    go false false h k = rw (h, k) refl

-- what is read of an index
index_of-read : {E : Type 0} (bs : List ℕ) (r : Result ℕ E) → is_index bs ≡ true → 0 < length bs
    → OkIff r ((0 < length bs) × (digits_value 10 bs < 2 ^ 64)) (digits_value 10 bs)
    → MatchOption (result_ok r) ((i : ℕ) → index_of bs ≡ Some i → 2 ^ 64 ≤ i) (λ i. index_of bs ≡ Some i)
index_of-read bs (Ok i) h some read = rw (h, read.1) refl
index_of-read bs (Err e) h some read = λ i is.
    let value : index_of bs ≡ Some (digits_value 10 bs) = rw h refl in
    let same : digits_value 10 bs ≡ i = cc in
    let large : digits_value 10 bs < 2 ^ 64 → ⊥ = λ small. read (some, small) in
    omega arith

pub index_of-parsed : {E : Type 0} (bs : List ℕ) (r : Result ℕ E) → IsUtf8 bs → is_index bs ≡ true
    → ParsesUnsigned 64 10 bs r
    → MatchOption (result_ok r) ((i : ℕ) → index_of (chars bs) ≡ Some i → 2 ^ 64 ≤ i)
    (λ i. index_of (chars bs) ≡ Some i)
index_of-parsed bs r u h parsed =
    let digits = are_digits-is_index bs h in
    let read = index_of-read bs r h digits.1 (parse_digits numerals 64 bs r parsed digits.0) in
    rw (index_of-chars bs u) read

-- the element that is got at an index
pub element_got : (items : List Json) (l : J.Items) (token : List ℕ) (i : ℕ) (r : Option (Bor Json))
    → J.items_of (map view items) ≡ l → index_of token ≡ Some i
    → IfSome r (λ x. x.now ≡ get_or items i x.now)
    → is_some r ≡ ltb i (length items)
    → option_map (λ j. view j.now) r ≡ child_at token (J.array l)
element_got items l token i None made is got within =
    let past : length items ≤ i = grind (arith, nat_tests) in
    rw (is, json_elements-of _ _ made, slice_get-map, slice_get_past items i past) refl
element_got items l token i (Some x) made is got within =
    let inside : i < length items = grind (arith, nat_tests) in
    rw (is, json_elements-of _ _ made, slice_get-map, slice_get_read items (length items) i x.now refl inside got) refl

-- no element is past the end
pub element_absent : (items : List Json) (l : J.Items) (token : List ℕ)
    → J.items_of (map view items) ≡ l → ((i : ℕ) → index_of token ≡ Some i → length items ≤ i)
    → child_at token (J.array l) ≡ None
element_absent items l token made past = go (index_of token) refl
  where
    go : (o : Option ℕ) → index_of token ≡ o → child_at token (J.array l) ≡ None
    go None is = rw is refl
    go (Some i) is = rw (is, json_elements-of _ _ made, slice_get-map, slice_get_past items i (past i is)) refl

-- one token further
pub value_at-step : (tokens : List (List ℕ)) (i : ℕ) (token : List ℕ) (here next : J.Json) → i < length tokens
    → token ≡ get_or tokens i token → child_at token here ≡ Some next
    → value_at (drop (i + 1) tokens) next ≡ value_at (drop i tokens) here
value_at-step tokens i token here next within is step =
    let cut : drop i tokens ≡ token ∷ drop (i + 1) tokens =
    rw (add-one, drop-cons tokens i token, ← is) refl in
    rw (cut, step) refl
