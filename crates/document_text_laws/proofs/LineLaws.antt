-- The lines of a text: a line of a table's text has one line feed, at its end.
use Rattle.std.proofs.Common.{◌≡◌, ◌⊎◌, inl, inr, ℕ, zero, suc, ◌+◌, ◌%◌, ◌^◌, ◌<◌, ◌≤◌, ℤ, pos, negsuc, List, [], ◌∷◌, ◌++◌, length, map, get_or, flat_map, Bool, true, false, ◌&&◌, not, nat_eq, codes, refl, sym, ap, ◌∙◌, subst, arith, append_assoc}
use Rattle.std.specs.Char.{encode_utf8}
use Rattle.std.specs.Fmt.{decimal, signed_decimal}
use Rattle.std.proofs.lemmas.Bool.{cases_eq, cases_lt, ne_eqb, and_parts, ltb-true}
use Rattle.std.proofs.lemmas.Fmt.{decimal_by_steps_wide}
use Rattle.std.proofs.lemmas.Str.{encode_ascii}
use Rattle.documents.specs.Tests.{every, is_scalar}
use Rattle.shared_documents.specs.Part.{Part, null, boolean, number, string, array, object}
use Rattle.document_texts.specs.Scalars.{character_text, string_text, joined}
use Rattle.document_texts.specs.PartsText.{reference_text, named_text, part_text, line_text, lines_text, count_text}
use Rattle.document_texts.specs.PartsRead.{is_named, is_member, is_told, line_feeds, first_lines}
use Rattle.document_text_laws.specs.Lines.{Within}
use Rattle.document_text_laws.proofs.StringLaws.{high_bytes, character-plain}

-- ---- bytes without a line feed

pub within-none : Within []
within-none = record { lines = λ n ys. refl; feeds = λ ys. refl }

pub within-byte : (x : ℕ) (xs : List ℕ) → (x ≡ 10 → ⊥) → Within xs → Within (x ∷ xs)
within-byte x xs ne w = record {
  lines = λ n ys. rw (ne_eqb x 10 ne) (ap (λ zs. x ∷ zs) (w.lines n ys));
  feeds = λ ys. rw (ne_eqb x 10 ne) (w.feeds ys);
}

pub within-append : (xs ys : List ℕ) → Within xs → Within ys → Within (xs ++ ys)
within-append xs ys v w = record {
  lines = λ n zs. ap (first_lines (suc n)) (append_assoc xs ys zs) ∙ v.lines n (ys ++ zs)
      ∙ ap (λ us. xs ++ us) (w.lines n zs) ∙ sym (append_assoc xs ys (first_lines (suc n) zs));
  feeds = λ zs. ap line_feeds (append_assoc xs ys zs) ∙ v.feeds (ys ++ zs) ∙ w.feeds zs;
}

within-flat_map : {A : Type 0} (f : A → List ℕ) (xs : List A) → ((x : A) → Within (f x)) → Within (flat_map f xs)
within-flat_map f [] h = within-none
within-flat_map f (x ∷ xs) h = within-append (f x) (flat_map f xs) (h x) (within-flat_map f xs h)

-- by a test, for bytes that are known
abbrev is_within : List ℕ → Bool
is_within xs = every (λ x. not (nat_eq x 10)) xs

no_feed : (x : ℕ) → not (nat_eq x 10) ≡ true → x ≡ 10 → ⊥
no_feed x h e = grind (arith, h, e)

within-test : (xs : List ℕ) → is_within xs ≡ true → Within xs
within-test [] h = within-none
within-test (x ∷ xs) h =
    let both = and_parts (not (nat_eq x 10)) (is_within xs) h in
    within-byte x xs (no_feed x both.0) (within-test xs both.1)

within-high : (xs : List ℕ) → ((k : ℕ) → k < length xs → 128 ≤ get_or xs k 0) → Within xs
within-high [] h = within-none
within-high (x ∷ xs) h =
    let high : 128 ≤ x = h 0 (omega arith) in
    within-byte x xs (λ e. omega (arith, e)) (within-high xs (λ k l. h (suc k) (omega arith)))

-- ---- characters and strings

abbrev each_below : ℕ → (ℕ → Bool) → Bool
each_below zero test = true
each_below (suc n) test = test n && each_below n test

test-below : (test : ℕ → Bool) (n x : ℕ) → each_below n test ≡ true → x < n → test x ≡ true
test-below test zero x h l = absurd (omega (arith, l))
test-below test (suc n) x h l =
    let both = and_parts (test n) (each_below n test) h in
    elim (cases_eq x n) [
      | inl e ↦ subst (λ y. test y ≡ true) (sym e) both.0
      | inr ne ↦ test-below test n x both.1 (omega (arith, l, ne))
    ]

controls : each_below 32 (λ c. is_within (character_text c)) ≡ true
unfolding encode_utf8
controls = refl

quote : is_within (character_text 34) ≡ true
unfolding encode_utf8
quote = refl

backslash : is_within (character_text 92) ≡ true
unfolding encode_utf8
backslash = refl

within-plain : (c : ℕ) → 32 ≤ c → Within (encode_utf8 c)
within-plain c l = elim (cases_lt c 128) [
  | inl low ↦ subst Within (sym (encode_ascii c low)) (within-byte c [] (λ e. omega (arith, e)) within-none)
  | inr high ↦ within-high (encode_utf8 c) (high_bytes c high)
]

within-character : (c : ℕ) → Within (character_text c)
within-character c = go (cases_lt c 32) (cases_eq c 34) (cases_eq c 92) where
  go : (c < 32) ⊎ (32 ≤ c) → (c ≡ 34) ⊎ (c ≡ 34 → ⊥) → (c ≡ 92) ⊎ (c ≡ 92 → ⊥) → Within (character_text c)
  go (inl l) q b = within-test (character_text c) (test-below (λ x. is_within (character_text x)) 32 c controls l)
  go (inr h) (inl q) b = subst (λ x. Within (character_text x)) (sym q) (within-test (character_text 34) quote)
  go (inr h) (inr q) (inl b) =
      subst (λ x. Within (character_text x)) (sym b) (within-test (character_text 92) backslash)
  go (inr h) (inr q) (inr b) = subst Within (sym (character-plain c h q b)) (within-plain c h)

within-string : (s : List ℕ) → Within (string_text s)
within-string s =
    within-byte 34 _ (λ e. omega (arith, e))
    (within-append (flat_map character_text s) (34 ∷ []) (within-flat_map character_text s within-character)
    (within-test (34 ∷ []) refl))

-- ---- numbers

within-decimal : (n : ℕ) → n < 10 ^ 64 → Within (decimal n)
within-decimal =
    decimal_by_steps_wide (λ n ds. Within ds)
    (λ n l. within-byte (48 + n) [] (λ e. omega (arith, e)) within-none)
    (λ n ds l h. within-append ds ((48 + n % 10) ∷ []) h
    (within-byte (48 + n % 10) [] (λ e. omega (arith, e)) within-none))

within-signed : (z : ℤ) → is_told (number z) ≡ true → Within (signed_decimal z)
within-signed (pos n) h = within-decimal n (omega (arith, ltb-true n 170141183460469231731687303715884105728 h))
within-signed (negsuc n) h =
    within-byte 45 (decimal (suc n)) (λ e. omega (arith, e))
    (within-decimal (suc n) (omega (arith, ltb-true n 170141183460469231731687303715884105728 h)))

-- ---- parts

within-reference : (i : ℕ) → is_named i ≡ true → Within (reference_text i)
within-reference i h =
    within-byte 35 (decimal i) (λ e. omega (arith, e)) (within-decimal i (omega (arith, ltb-true i 4294967296 h)))

within-named : (m : List ℕ × ℕ) → is_member m ≡ true → Within (named_text m)
within-named m h =
    let both = and_parts (every is_scalar m.0) (is_named m.1) h in
    within-append (string_text m.0) (58 ∷ reference_text m.1) (within-string m.0)
    (within-byte 58 (reference_text m.1) (λ e. omega (arith, e)) (within-reference m.1 both.1))

module _ {A : Type 0} (write : A → List ℕ) (good : A → Bool) (within : (x : A) → good x ≡ true → Within (write x))
  where
    within-more : (xs : List A) → every good xs ≡ true → Within (flat_map (λ y. 44 ∷ y) (map write xs))
    within-more [] h = within-none
    within-more (x ∷ xs) h =
        let both = and_parts (good x) (every good xs) h in
        within-append (44 ∷ write x) (flat_map (λ y. 44 ∷ y) (map write xs))
        (within-byte 44 (write x) (λ e. omega (arith, e)) (within x both.0)) (within-more xs both.1)

    within-joined : (xs : List A) → every good xs ≡ true → Within (joined (map write xs))
    within-joined [] h = within-none
    within-joined (x ∷ xs) h =
        let both = and_parts (good x) (every good xs) h in
        within-append (write x) (flat_map (λ y. 44 ∷ y) (map write xs)) (within x both.0) (within-more xs both.1)

within-part : (p : Part) → is_told p ≡ true → Within (part_text p)
within-part null h = within-test (part_text null) refl
within-part (boolean true) h = within-test (part_text (boolean true)) refl
within-part (boolean false) h = within-test (part_text (boolean false)) refl
within-part (number z) h = within-signed z h
within-part (string s) h = within-string s
within-part (array is) h =
    within-byte 91 _ (λ e. omega (arith, e))
    (within-append (joined (map reference_text is)) (93 ∷ [])
    (within-joined reference_text is_named within-reference is h) (within-test (93 ∷ []) refl))
within-part (object ms) h =
    within-byte 123 _ (λ e. omega (arith, e))
    (within-append (joined (map named_text ms)) (125 ∷ [])
    (within-joined named_text is_member within-named ms h) (within-test (125 ∷ []) refl))

-- ---- so many whole lines

pub record Whole (n : ℕ) (xs : List ℕ) : Type 0 where
  pub lines : (m k : ℕ) (ys : List ℕ) → k ≡ n + m → first_lines k (xs ++ ys) ≡ xs ++ first_lines m ys
  pub feeds : (ys : List ℕ) → line_feeds (xs ++ ys) ≡ n + line_feeds ys

pub whole-none : Whole 0 []
whole-none = record {
  lines = λ m k ys e. ap (λ n. first_lines n ys) (omega (arith, e));
  feeds = λ ys. omega arith;
}

pub whole-append : (a b c : ℕ) (xs ys : List ℕ) → c ≡ a + b → Whole a xs → Whole b ys → Whole c (xs ++ ys)
whole-append a b c xs ys e v w = record {
  lines = λ m k zs n. ap (first_lines k) (append_assoc xs ys zs) ∙ v.lines (b + m) k (ys ++ zs) (omega (arith, n, e))
      ∙ ap (λ us. xs ++ us) (w.lines m (b + m) zs refl) ∙ sym (append_assoc xs ys (first_lines m zs));
  feeds = λ zs. ap line_feeds (append_assoc xs ys zs) ∙ v.feeds (ys ++ zs)
      ∙ omega (arith, w.feeds zs, e);
}

pub whole-line : (xs : List ℕ) → Within xs → Whole 1 (xs ++ 10 ∷ [])
whole-line xs w = record {
  lines = λ m k ys e. ap (first_lines k) (append_assoc xs (10 ∷ []) ys)
      ∙ ap (λ n. first_lines n (xs ++ 10 ∷ ys)) (next m k e) ∙ w.lines m (10 ∷ ys)
      ∙ sym (append_assoc xs (10 ∷ []) (first_lines m ys));
  feeds = λ ys. ap line_feeds (append_assoc xs (10 ∷ []) ys) ∙ w.feeds (10 ∷ ys) ∙ one (line_feeds ys);
} where
  next : (m k : ℕ) → k ≡ 1 + m → k ≡ suc m
  next m k e = omega (arith, e)

  one : (n : ℕ) → suc n ≡ 1 + n
  one n = omega arith

pub line-whole : (i : ℕ) (p : Part) → is_named i ≡ true → is_told p ≡ true → Whole 1 (line_text i p)
line-whole i p hi hp =
    whole-line (decimal i ++ 32 ∷ part_text p)
    (within-append (decimal i) (32 ∷ part_text p) (within-decimal i (omega (arith, ltb-true i 4294967296 hi)))
    (within-byte 32 (part_text p) (λ e. omega (arith, e)) (within-part p hp)))

pub count-whole : (n : ℕ) → n ≤ 4294967295 → Whole 1 (count_text n)
count-whole n l =
    whole-line (codes "parts " ++ decimal n)
    (within-append (codes "parts ") (decimal n) (within-test (codes "parts ") refl)
    (within-decimal n (omega (arith, l))))

-- the lines of parts are whole: each has one line feed, at its end
pub lines-whole : (i : ℕ) (ps : List Part) → i + length ps ≤ 4294967296 → every is_told ps ≡ true
    → Whole (length ps) (lines_text i ps)
lines-whole i [] l h = whole-none
lines-whole i (p ∷ ps) l h =
    let both = and_parts (is_told p) (every is_told ps) h in
    whole-append 1 (length ps) (suc (length ps)) (line_text i p) (lines_text (suc i) ps) (omega arith)
    (line-whole i p (named i l) both.0) (lines-whole (suc i) ps (omega (arith, l)) both.1)
  where
    named : (i : ℕ) → i + suc (length ps) ≤ 4294967296 → is_named i ≡ true
    named i l = grind (arith, l)
