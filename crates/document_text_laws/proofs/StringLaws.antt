-- A string's text is read in one way: what it says, and what comes behind it.
use Rattle.std.proofs.Common.{◌≡◌, ◌⊎◌, inl, inr, ℕ, zero, suc, ◌<◌, ◌≤◌, List, [], ◌∷◌, ◌++◌, length, get_or, drop, flat_map, true, Option, Some, None, encode_utf8_all, chars, refl, sym, ap, ◌∙◌, subst, arith, append-nil, append_assoc}
use Rattle.std.specs.Char.{encode_utf8}
use Rattle.std.proofs.lemmas.Bool.{cases_eq, cases_lt, ne_eqb, le-ltb, and_parts, and_from}
use Rattle.std.proofs.lemmas.Str.{encode_ascii, inside_one, chars-encodes}
use Rattle.std.specs.Str.{all_scalars, IsUtf8}
use lib.Utf8.{scalar}
use Rattle.documents.specs.Tests.{every, is_scalar}
use Rattle.document_texts.specs.Scalars.{character_text, string_text}
use Rattle.document_text_laws.specs.Reader.{plain, read_on}

-- ---- a character

record Reads (c : ℕ) : Type 0 where
  read : (done more : List ℕ)
      → read_on plain done (character_text c ++ more) ≡ read_on plain (done ++ encode_utf8 c) more

abbrev Each : (ℕ → Type 0) → ℕ → Type 0
Each P zero = Unit {0}
Each P (suc n) = P n × Each P n

each-below : (P : ℕ → Type 0) (n : ℕ) → Each P n → (x : ℕ) → x < n → P x
each-below P zero h x l = absurd (omega arith)
each-below P (suc n) h x l = go (each-below P n h.1 x) (cases_eq x n)
  where
    go : (x < n → P x) → (x ≡ n) ⊎ (x ≡ n → ⊥) → P x
    go below (inl e) = subst P (sym e) h.0
    go below (inr ne) = below (omega arith)

controls : Each Reads 32
unfolding encode_utf8
controls = (
  record { read = λ done more. refl },
  (
    record { read = λ done more. refl },
    (
      record { read = λ done more. refl },
      (
        record { read = λ done more. refl },
        (
          record { read = λ done more. refl },
          (
            record { read = λ done more. refl },
            (
              record { read = λ done more. refl },
              (
                record { read = λ done more. refl },
                (
                  record { read = λ done more. refl },
                  (
                    record { read = λ done more. refl },
                    (
                      record { read = λ done more. refl },
                      (
                        record { read = λ done more. refl },
                        (
                          record { read = λ done more. refl },
                          (
                            record { read = λ done more. refl },
                            (
                              record { read = λ done more. refl },
                              (
                                record { read = λ done more. refl },
                                (
                                  record { read = λ done more. refl },
                                  (
                                    record { read = λ done more. refl },
                                    (
                                      record { read = λ done more. refl },
                                      (
                                        record { read = λ done more. refl },
                                        (
                                          record { read = λ done more. refl },
                                          (
                                            record { read = λ done more. refl },
                                            (
                                              record { read = λ done more. refl },
                                              (
                                                record { read = λ done more. refl },
                                                (
                                                  record { read = λ done more. refl },
                                                  (
                                                    record { read = λ done more. refl },
                                                    (
                                                      record { read = λ done more. refl },
                                                      (
                                                        record { read = λ done more. refl },
                                                        (
                                                          record { read = λ done more. refl },
                                                          (
                                                            record { read = λ done more. refl },
                                                            (
                                                              record { read = λ done more. refl },
                                                              (record { read = λ done more. refl }, tt),
                                                            ),
                                                          ),
                                                        ),
                                                      ),
                                                    ),
                                                  ),
                                                ),
                                              ),
                                            ),
                                          ),
                                        ),
                                      ),
                                    ),
                                  ),
                                ),
                              ),
                            ),
                          ),
                        ),
                      ),
                    ),
                  ),
                ),
              ),
            ),
          ),
        ),
      ),
    ),
  ),
)

quote : Reads 34
unfolding encode_utf8
quote = record { read = λ done more. refl }

backslash : Reads 92
unfolding encode_utf8
backslash = record { read = λ done more. refl }

read_on-plain : (xs done more : List ℕ) → ((k : ℕ) → k < length xs → 128 ≤ get_or xs k 0)
    → read_on plain done (xs ++ more) ≡ read_on plain (done ++ xs) more
read_on-plain [] done more h = ap (λ ys. read_on plain ys more) (sym (append-nil done))
read_on-plain (x ∷ xs) done more h =
    let high : 128 ≤ x = h 0 (omega arith) in
    rw (ne_eqb x 34 (λ e. omega arith), ne_eqb x 92 (λ e. omega arith))
    (read_on-plain xs (done ++ x ∷ []) more (λ k l. h (suc k) (omega arith))
    ∙ ap (λ ys. read_on plain ys more) (append_assoc done (x ∷ []) xs))

pub high_bytes : (c : ℕ) → 128 ≤ c → (k : ℕ) → k < length (encode_utf8 c) → 128 ≤ get_or (encode_utf8 c) k 0
high_bytes c big k below = elim (cases_lt (get_or (encode_utf8 c) k 0) 128) [
  | inl low ↦ absurd (omega (arith, inside_one c [] (encode_utf8 c) k (sym (append-nil _)) below low))
  | inr h ↦ h
]

-- a character that isn't escaped
pub character-plain : (c : ℕ) → 32 ≤ c → (c ≡ 34 → ⊥) → (c ≡ 92 → ⊥) → character_text c ≡ encode_utf8 c
character-plain c h q b =
    rw (
      ne_eqb c 34 q,
      ne_eqb c 92 b,
      ne_eqb c 8 (λ e. omega arith),
      ne_eqb c 12 (λ e. omega arith),
      ne_eqb c 10 (λ e. omega arith),
      ne_eqb c 13 (λ e. omega arith),
      ne_eqb c 9 (λ e. omega arith),
      le-ltb c 32 h,
    ) refl

reads-plain : (c : ℕ) → 32 ≤ c → (c ≡ 34 → ⊥) → (c ≡ 92 → ⊥) → Reads c
reads-plain c h q b = record {
  read = λ done more. ap (λ ys. read_on plain done (ys ++ more)) (character-plain c h q b)
      ∙ elim (cases_lt c 128) [
        | inl low ↦ ascii done more low
        | inr high ↦ read_on-plain (encode_utf8 c) done more (high_bytes c high)
      ];
} where
  ascii : (done more : List ℕ) → c < 128
      → read_on plain done (encode_utf8 c ++ more) ≡ read_on plain (done ++ encode_utf8 c) more
  ascii done more low = rw (encode_ascii c low, ne_eqb c 34 q, ne_eqb c 92 b) refl

reads : (c : ℕ) → Reads c
reads c = go (cases_lt c 32) (cases_eq c 34) (cases_eq c 92) where
  go : (c < 32) ⊎ (32 ≤ c) → (c ≡ 34) ⊎ (c ≡ 34 → ⊥) → (c ≡ 92) ⊎ (c ≡ 92 → ⊥) → Reads c
  go (inl l) q b = each-below Reads 32 controls c l
  go (inr h) (inl q) b = subst Reads (sym q) quote
  go (inr h) (inr q) (inl b) = subst Reads (sym b) backslash
  go (inr h) (inr q) (inr b) = reads-plain c h q b

-- ---- a string

read_on-text : (s done rest : List ℕ)
    → read_on plain done (flat_map character_text s ++ 34 ∷ rest) ≡ Some (done ++ encode_utf8_all s, rest)
read_on-text [] done rest = ap (λ ys. Some (ys, rest)) (sym (append-nil done))
read_on-text (c ∷ s) done rest =
    ap (read_on plain done) (append_assoc (character_text c) (flat_map character_text s) (34 ∷ rest))
    ∙ (reads c).read done (flat_map character_text s ++ 34 ∷ rest)
    ∙ read_on-text s (done ++ encode_utf8 c) rest
    ∙ ap (λ ys. Some (ys, rest)) (append_assoc done (encode_utf8 c) (encode_utf8_all s))

-- the string's bytes, and what comes behind, from a text behind its first quote
abbrev behind : List ℕ → Option (List ℕ × List ℕ)
behind [] = None
behind (x ∷ xs) = read_on plain [] xs

behind-text : (s rest : List ℕ) → behind (string_text s ++ rest) ≡ Some (encode_utf8_all s, rest)
behind-text s rest =
    ap (read_on plain []) (append_assoc (flat_map character_text s) (34 ∷ []) rest) ∙ read_on-text s [] rest

-- a string is read back from what comes behind its first quote
pub read_on-string : (s rest : List ℕ)
    → read_on plain [] (drop 1 (string_text s ++ rest)) ≡ Some (encode_utf8_all s, rest)
read_on-string s rest = behind-text s rest

-- ---- two strings with the same text

scalars-of : (s : List ℕ) → every is_scalar s ≡ true → all_scalars s ≡ true
scalars-of [] h = refl
scalars-of (c ∷ s) h =
    let both = and_parts (is_scalar c) (every is_scalar s) h in
    and_from (scalar c) (all_scalars s) (one c both.0) (scalars-of s both.1)
  where
    one : (c : ℕ) → is_scalar c ≡ true → scalar c ≡ true
    one c h = grind (arith, h)

-- the characters of a word's bytes are the word, where it is made of scalar values
pub chars-text : (s : List ℕ) → every is_scalar s ≡ true → chars (encode_utf8_all s) ≡ s
chars-text s h = chars-encodes s (scalars-of s h)

pub utf8-text : (s bytes : List ℕ) → every is_scalar s ≡ true → bytes ≡ encode_utf8_all s → IsUtf8 bytes
utf8-text s bytes h is = (s, (scalars-of s h, sym is))

pub same-string : (s t r u : List ℕ) → every is_scalar s ≡ true → every is_scalar t ≡ true
    → string_text s ++ r ≡ string_text t ++ u → (s ≡ t) × (r ≡ u)
same-string s t r u hs ht e =
    let both = sym (behind-text s r) ∙ ap behind e ∙ behind-text t u in
    let pair : ◌≡◌ {A = List ℕ × List ℕ} (encode_utf8_all s, r) (encode_utf8_all t, u) = cc in (
      sym (chars-text s hs) ∙ ap (λ z. chars z.0) pair ∙ chars-text t ht,
      ap (λ z. z.1) pair,
    )
