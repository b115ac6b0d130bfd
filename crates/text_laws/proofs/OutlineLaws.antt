-- What a document's data is written as is read as that data again: its numbers, its members and its strings.
use Rattle.std.proofs.Common.{◌≡◌, ◌⊎◌, inl, inr, ℕ, suc, ◌<◌, ◌^◌, ℤ, pos, negsuc, int_le, List, [], ◌∷◌, ◌++◌, Bool, true, false, Some, option_map, option_and_then, Ordering, Less, Equal, Greater, nat_cmp, decimal, chars, encode_utf8_all, IsUtf8, true≢false, refl, sym, ap, ◌∙◌, subst, arith}
use Rattle.std.specs.Cmp.Lexicographic.{slice_cmp}
use Rattle.std.specs.Fmt.{digits, signed_decimal}
use Rattle.std.proofs.lemmas.Bool.{and_parts, cases_eq}
use Rattle.std.proofs.lemmas.Fmt.{IsAscii-decimal}
use Rattle.std.proofs.lemmas.Str.{IsUtf8-append, IsUtf8-from_ascii}
use Rattle.json.specs.Print.{quoted, IsNumber}
use Rattle.json.specs.Tree as tree
use Rattle.json.proofs.OnLiterals.{json_on_literals}
use Rattle.json.proofs.Printed.Decimals.{IsNumber-decimal, IsNumber-signed_decimal}
use Rattle.json.proofs.Printed.Utf8.{IsUtf8-are_ascii, IsUtf8-quoted, IsUtf8-boolean}
use Rattle.serde_json.specs.Data as S
use Rattle.serde_json.specs.Data.{put}
use Rattle.serde_json.specs.Read.{of_json, of_items, of_members}
use Rattle.serde_json.specs.Written.{outline, items_outline, members_outline, comma_if, compact_text, items_text, members_text}
use Rattle.serde_json.proofs.Numbers.{number_of-decimal, number_of-negative}
use Rattle.documents.specs.Tests.{every, is_scalar, comes_before}
use Rattle.documents.specs.Document as D
use Rattle.documents.proofs.NameOrder.{comes_before-same, comes_before-trans}
use Rattle.document_texts.specs.Measured.{is_short, has_short_numbers, items_are_short, members_are_short}
use Rattle.document_text_laws.proofs.StringLaws.{chars-text, utf8-text}
use Rattle.js_doc.proofs.WordOrder.{comes_before-encodes, same_text}
use Rattle.text_laws.specs.DocumentData.{data_of, data_items, data_members}
use Rattle.text_laws.proofs.DataLaws.{member_tests}

-- ---- the numbers of a document's data

short-pos : (n : ℕ) → is_short (pos n) ≡ true → n < 2 ^ 64
short-pos n h =
    let both = and_parts (int_le (negsuc 9223372036854775807) (pos n)) (int_le (pos n) (pos 18446744073709551615)) h in
    let most = both.1 in
    grind (arith, most)

short-negsuc : (n : ℕ) → is_short (negsuc n) ≡ true → n < 2 ^ 63
short-negsuc n h =
    let both = and_parts (int_le (negsuc 9223372036854775807) (negsuc n))
    (int_le (negsuc n) (pos 18446744073709551615)) h in
    let least = both.0 in
    grind (arith, least)

least : IsNumber (signed_decimal (negsuc 9223372036854775807))
unfolding json_on_literals digits
least = refl

IsNumber-short : (z : ℤ) → is_short z ≡ true → IsNumber (signed_decimal z)
IsNumber-short (pos n) h = IsNumber-decimal n (short-pos n h)
IsNumber-short (negsuc n) h = go (cases_eq n 9223372036854775807) where
  go : (n ≡ 9223372036854775807) ⊎ (n ≡ 9223372036854775807 → ⊥) → IsNumber (signed_decimal (negsuc n))
  go (inl e) = subst (λ m. IsNumber (signed_decimal (negsuc m))) (sym e) least
  go (inr other) = IsNumber-signed_decimal (negsuc n) (omega (arith, short-negsuc n h, other))

mutual
  pub HasNumbers-data_of : (d : D.Document) → has_short_numbers d ≡ true → tree.HasNumbers (outline (data_of d))
  HasNumbers-data_of D.null h = tt
  HasNumbers-data_of (D.boolean b) h = tt
  HasNumbers-data_of (D.number (pos n)) h = IsNumber-short (pos n) h
  HasNumbers-data_of (D.number (negsuc n)) h = IsNumber-short (negsuc n) h
  HasNumbers-data_of (D.string s) h = tt
  HasNumbers-data_of (D.array ds) h = HasNumbers-data_items ds h
  HasNumbers-data_of (D.object ms) h = HasNumbers-data_members ms h

  HasNumbers-data_items : (ds : D.Items) → items_are_short ds ≡ true
      → tree.ItemsHaveNumbers (items_outline (data_items ds))
  HasNumbers-data_items D.no_items h = tt
  HasNumbers-data_items (D.item d ds) h =
      let both = and_parts (has_short_numbers d) (items_are_short ds) h in
      (HasNumbers-data_of d both.0, HasNumbers-data_items ds both.1)

  HasNumbers-data_members : (ms : D.Members) → members_are_short ms ≡ true
      → tree.MembersHaveNumbers (members_outline (data_members ms))
  HasNumbers-data_members D.no_members h = tt
  HasNumbers-data_members (D.member k d ms) h =
      let both = and_parts (has_short_numbers d) (members_are_short ms) h in
      (HasNumbers-data_of d both.0, HasNumbers-data_members ms both.1)

-- ---- the members of a document's data: each is put behind those before it

-- one more at the end
abbrev behind : D.Members → List ℕ → D.Document → D.Members
behind D.no_members k d = D.member k d D.no_members
behind (D.member l e ms) k d = D.member l e (behind ms k d)

abbrev together : D.Members → D.Members → D.Members
together D.no_members ns = ns
together (D.member k d ms) ns = D.member k d (together ms ns)

together-behind : (ms : D.Members) (k : List ℕ) (d : D.Document) (ns : D.Members)
    → together (behind ms k d) ns ≡ together ms (D.member k d ns)
together-behind D.no_members k d ns = refl
together-behind (D.member l e ms) k d ns = ap (D.member l e) (together-behind ms k d ns)

-- all names come before this one
abbrev Before : D.Members → List ℕ → Type 0
Before D.no_members k = Unit {0}
Before (D.member l e ms) k = (every is_scalar l ≡ true) × (comes_before l k ≡ true) × Before ms k

Before-behind : (ms : D.Members) (k l : List ℕ) (d : D.Document) → Before ms k → every is_scalar k ≡ true
    → comes_before k l ≡ true → Before (behind ms k d) l
Before-behind D.no_members k l d h name less = (name, less, tt)
Before-behind (D.member n e ms) k l d (scalars, first, others) name less =
    (scalars, comes_before-trans n k l first less, Before-behind ms k l d others name less)

abbrev order : List ℕ → List ℕ → Ordering
order k l = slice_cmp nat_cmp (encode_utf8_all k) (encode_utf8_all l)

-- names that rise do so by their bytes
greater : (k l : List ℕ) → every is_scalar k ≡ true → every is_scalar l ≡ true → comes_before l k ≡ true
    → order k l ≡ Greater
greater k l hk hl less = go (order k l) refl where
  go : (o : Ordering) → order k l ≡ o → o ≡ Greater
  go Less e =
      let round = comes_before-trans l k l less (comes_before-encodes k l e) in
      absurd (true≢false (sym round ∙ comes_before-same l))
  go Equal e =
      let same : k ≡ l =
      sym (chars-text k hk) ∙ ap chars (same_text (encode_utf8_all k) (encode_utf8_all l) e) ∙ chars-text l hl in
      absurd (true≢false (sym less ∙ ap (comes_before l) same ∙ comes_before-same l))
  go Greater e = refl

put-behind : (ms : D.Members) (k : List ℕ) (d : D.Document) → every is_scalar k ≡ true → Before ms k
    → put (encode_utf8_all k) (data_of d) (data_members ms) ≡ data_members (behind ms k d)
put-behind D.no_members k d name h = refl
put-behind (D.member l e ms) k d name (scalars, first, others) =
    rw (greater k l name scalars first) (ap (S.member (encode_utf8_all l) (data_of e)) (put-behind ms k d name others))

abbrev BeforeFirst : D.Members → D.Members → Type 0
BeforeFirst ms D.no_members = Unit {0}
BeforeFirst ms (D.member k d ns) = Before ms k

BeforeFirst-behind : (ms : D.Members) (k : List ℕ) (d : D.Document) (ns : D.Members) → Before ms k
    → every is_scalar k ≡ true → D.is_before k ns ≡ true → BeforeFirst (behind ms k d) ns
BeforeFirst-behind ms k d D.no_members h name before = tt
BeforeFirst-behind ms k d (D.member l e ns) h name before = Before-behind ms k l d h name before

none_before : (ms : D.Members) → BeforeFirst D.no_members ms
none_before D.no_members = tt
none_before (D.member k d ms) = tt

together_none : (ms : D.Members) → ms ≡ together ms D.no_members
together_none D.no_members = refl
together_none (D.member k d ms) = ap (D.member k d) (together_none ms)

mutual
  -- the tree of a document's data is read as that data
  pub of_json-data_of : (d : D.Document) → D.is_document d ≡ true → has_short_numbers d ≡ true
      → of_json (outline (data_of d)) ≡ Some (data_of d)
  of_json-data_of D.null h short = refl
  of_json-data_of (D.boolean b) h short = refl
  of_json-data_of (D.number (pos n)) h short = ap (option_map S.number) (number_of-decimal n (short-pos n short))
  of_json-data_of (D.number (negsuc n)) h short =
      ap (option_map S.number) (number_of-negative n (short-negsuc n short))
  of_json-data_of (D.string s) h short = refl
  of_json-data_of (D.array ds) h short = ap (option_map S.array) (of_items-data_items ds h short)
  of_json-data_of (D.object ms) h short =
      ap (option_map S.object) (of_members-data_members ms D.no_members h short (none_before ms))

  of_items-data_items : (ds : D.Items) → D.are_documents ds ≡ true → items_are_short ds ≡ true
      → of_items (items_outline (data_items ds)) ≡ Some (data_items ds)
  of_items-data_items D.no_items h short = refl
  of_items-data_items (D.item d ds) h short =
      let both = and_parts (D.is_document d) (D.are_documents ds) h in
      let two = and_parts (has_short_numbers d) (items_are_short ds) short in
      ap (option_and_then (λ x. option_map (S.item x) (of_items (items_outline (data_items ds)))))
      (of_json-data_of d both.0 two.0)
      ∙ ap (option_map (S.item (data_of d))) (of_items-data_items ds both.1 two.1)

  -- with the members that were found before
  of_members-data_members : (ms found : D.Members) → D.are_members ms ≡ true → members_are_short ms ≡ true
      → BeforeFirst found ms
      → of_members (members_outline (data_members ms)) (data_members found) ≡ Some (data_members (together found ms))
  of_members-data_members D.no_members found h short before = ap (λ ms. Some (data_members ms)) (together_none found)
  of_members-data_members (D.member k d ms) found h short before =
      let tests = member_tests k d ms h in
      let two = and_parts (has_short_numbers d) (members_are_short ms) short in
      let rest = of_members (members_outline (data_members ms)) in
      ap (option_and_then (λ x. rest (put (encode_utf8_all k) x (data_members found))))
      (of_json-data_of d tests.value two.0)
      ∙ ap rest (put-behind found k d tests.name before)
      ∙ of_members-data_members ms (behind found k d) tests.others two.1
      (BeforeFirst-behind found k d ms before tests.name tests.before)
      ∙ ap (λ ns. Some (data_members ns)) (together-behind found k d ms)

-- ---- the text of a document's data is UTF-8

IsUtf8-decimal : (n : ℕ) → n < 2 ^ 64 → IsUtf8 (decimal n)
IsUtf8-decimal n h = IsUtf8-from_ascii (decimal n) (IsAscii-decimal n h)

IsUtf8-byte : (x : ℕ) (xs : List ℕ) → IsUtf8 (x ∷ []) → IsUtf8 xs → IsUtf8 (x ∷ xs)
IsUtf8-byte x xs u v = IsUtf8-append (x ∷ []) xs u v

IsUtf8-comma : (later : Bool) (xs : List ℕ) → IsUtf8 xs → IsUtf8 (comma_if later ++ xs)
IsUtf8-comma true xs u = IsUtf8-byte 44 xs (IsUtf8-are_ascii (44 ∷ []) refl) u
IsUtf8-comma false xs u = u

IsUtf8-name : (s : List ℕ) → every is_scalar s ≡ true → IsUtf8 (quoted (encode_utf8_all s))
IsUtf8-name s h = IsUtf8-quoted (encode_utf8_all s) (utf8-text s (encode_utf8_all s) h refl)

mutual
  pub IsUtf8-data_of : (d : D.Document) → D.is_document d ≡ true → has_short_numbers d ≡ true
      → IsUtf8 (compact_text (data_of d))
  IsUtf8-data_of D.null h short = IsUtf8-are_ascii _ refl
  IsUtf8-data_of (D.boolean b) h short = IsUtf8-boolean b
  IsUtf8-data_of (D.number (pos n)) h short = IsUtf8-decimal n (short-pos n short)
  IsUtf8-data_of (D.number (negsuc n)) h short =
      IsUtf8-byte 45 (decimal (suc n)) (IsUtf8-are_ascii (45 ∷ []) refl)
      (IsUtf8-decimal (suc n) (omega (arith, short-negsuc n short)))
  IsUtf8-data_of (D.string s) h short = IsUtf8-name s h
  IsUtf8-data_of (D.array ds) h short =
      IsUtf8-byte 91 _ (IsUtf8-are_ascii (91 ∷ []) refl) (IsUtf8-data_items false ds h short)
  IsUtf8-data_of (D.object ms) h short =
      IsUtf8-byte 123 _ (IsUtf8-are_ascii (123 ∷ []) refl) (IsUtf8-data_members false ms h short)

  IsUtf8-data_items : (later : Bool) (ds : D.Items) → D.are_documents ds ≡ true → items_are_short ds ≡ true
      → IsUtf8 (items_text later (data_items ds))
  IsUtf8-data_items later D.no_items h short = IsUtf8-are_ascii (93 ∷ []) refl
  IsUtf8-data_items later (D.item d ds) h short =
      let both = and_parts (D.is_document d) (D.are_documents ds) h in
      let two = and_parts (has_short_numbers d) (items_are_short ds) short in
      IsUtf8-comma later _
      (IsUtf8-append (compact_text (data_of d)) _ (IsUtf8-data_of d both.0 two.0)
      (IsUtf8-data_items true ds both.1 two.1))

  IsUtf8-data_members : (later : Bool) (ms : D.Members) → D.are_members ms ≡ true → members_are_short ms ≡ true
      → IsUtf8 (members_text later (data_members ms))
  IsUtf8-data_members later D.no_members h short = IsUtf8-are_ascii (125 ∷ []) refl
  IsUtf8-data_members later (D.member k d ms) h short =
      let tests = member_tests k d ms h in
      let two = and_parts (has_short_numbers d) (members_are_short ms) short in
      IsUtf8-comma later _
      (IsUtf8-append (quoted (encode_utf8_all k)) _ (IsUtf8-name k tests.name)
      (IsUtf8-byte 58 _ (IsUtf8-are_ascii (58 ∷ []) refl)
      (IsUtf8-append (compact_text (data_of d)) _ (IsUtf8-data_of d tests.value two.0)
      (IsUtf8-data_members true ms tests.others two.1))))
