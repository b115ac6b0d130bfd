-- A number in decimal is read in one way, where no digit comes behind it.
use Rattle.std.proofs.Common.{◌≡◌, ℕ, ◌+◌, ◌-◌, ◌*◌, ◌/◌, ◌%◌, ◌^◌, ◌<◌, ◌≤◌, List, [], ◌∷◌, ◌++◌, length, get_or, Bool, true, false, cond, refl, sym, ap, ◌∙◌, arith, append_assoc}
use Rattle.std.specs.Char.{is_ascii_digit}
use Rattle.std.specs.Fmt.{decimal}
use Rattle.document_text_laws.specs.Reader.{number_on, ends}
use Rattle.std.proofs.lemmas.Bool.{true≢false}
use Rattle.std.proofs.lemmas.Fmt.{decimal_by_steps_wide}

one_digit : (n d : ℕ) (more : List ℕ) → d < 10 → number_on n ((48 + d) ∷ more) ≡ number_on (n * 10 + d) more
one_digit n d more l =
    let digit : is_ascii_digit (48 + d) ≡ true = grind (arith, l) in
    let value : 48 + d - 48 ≡ d = omega arith in
    rw (digit, value) refl

record IsRead (n : ℕ) (ds : List ℕ) : Type 0 where
  read : (more : List ℕ) → number_on 0 (ds ++ more) ≡ number_on n more

decimal-read : (n : ℕ) → n < 10 ^ 64 → IsRead n (decimal n)
decimal-read =
    decimal_by_steps_wide IsRead
    (λ n l. record { read = λ more. one_digit 0 n more l ∙ ap (λ m. number_on m more) (omega arith) })
    (λ n ds l h. record {
      read = λ more. ap (number_on 0) (append_assoc ds ((48 + n % 10) ∷ []) more)
          ∙ h.read ((48 + n % 10) ∷ more) ∙ one_digit (n / 10) (n % 10) more (omega arith)
          ∙ ap (λ m. number_on m more) (omega arith);
    })

number_on-ends : (n : ℕ) (rest : List ℕ) → ends rest ≡ true → number_on n rest ≡ (n, rest)
number_on-ends n [] h = refl
number_on-ends n (d ∷ ds) h = go (is_ascii_digit d) h where
  go : (b : Bool) → cond b false true ≡ true
      → cond b (number_on (n * 10 + (d - 48)) ds) (n, d ∷ ds) ≡ (n, d ∷ ds)
  go true h = cc
  go false h = refl

-- a number's text is read back, with what comes behind it
pub number-read : (n : ℕ) (rest : List ℕ) → n < 10 ^ 64 → ends rest ≡ true → number_on 0 (decimal n ++ rest) ≡ (n, rest)
number-read n rest l h = (decimal-read n l).read rest ∙ number_on-ends n rest h

-- a digit more makes no number smaller
number_on-grows : (n : ℕ) (ds : List ℕ) → n ≤ (number_on n ds).0
number_on-grows n [] = omega arith
number_on-grows n (d ∷ ds) = go (is_ascii_digit d) (number_on-grows (n * 10 + (d - 48)) ds) where
  go : (b : Bool) → n * 10 + (d - 48) ≤ (number_on (n * 10 + (d - 48)) ds).0
      → n ≤ (cond b (number_on (n * 10 + (d - 48)) ds) (n, d ∷ ds)).0
  go true h = omega (arith, h)
  go false h = omega arith

pub number_on-digit : (n m : ℕ) (ds rest : List ℕ) → 1 ≤ length ds → is_ascii_digit (get_or ds 0 0) ≡ true
    → number_on n ds ≡ (m, rest) → n * 10 + (get_or ds 0 0 - 48) ≤ m
number_on-digit n m [] rest l h e = absurd (omega (arith, l))
number_on-digit n m (d ∷ ds) rest l h e =
    let first : number_on n (d ∷ ds) ≡ number_on (n * 10 + (d - 48)) ds = rw h refl in
    let same : (number_on (n * 10 + (d - 48)) ds).0 ≡ m = ap (λ z. z.0) (sym first ∙ e) in
    omega (arith, number_on-grows (n * 10 + (d - 48)) ds, same)

-- ---- two numbers with the same digits

pub same-number : (m n : ℕ) (r u : List ℕ) → m < 10 ^ 64 → n < 10 ^ 64 → ends r ≡ true → ends u ≡ true
    → decimal m ++ r ≡ decimal n ++ u → (m ≡ n) × (r ≡ u)
same-number m n r u lm ln hr hu e =
    let both = sym (number-read m r lm hr) ∙ ap (number_on 0) e ∙ number-read n u ln hu in
    (ap (λ z. z.0) both, ap (λ z. z.1) both)

-- a number begins with a digit
pub record Begins (n : ℕ) (ds : List ℕ) : Type 0 where
  pub first : ℕ
  pub others : List ℕ
  pub is : ds ≡ first ∷ others
  pub digit : is_ascii_digit first ≡ true

pub decimal-begins : (n : ℕ) → n < 10 ^ 64 → Begins n (decimal n)
decimal-begins =
    decimal_by_steps_wide Begins
    (λ n l. record { first = 48 + n; others = []; is = refl; digit = grind (arith, l) })
    (λ n ds l h. record {
      first = h.first;
      others = h.others ++ (48 + n % 10) ∷ [];
      is = ap (λ xs. xs ++ (48 + n % 10) ∷ []) h.is;
      digit = h.digit;
    })

-- so its text is none that begins with another byte
pub no-number : (n c : ℕ) (r u : List ℕ) → n < 10 ^ 64 → is_ascii_digit c ≡ false → decimal n ++ r ≡ c ∷ u → ⊥
no-number n c r u l h e =
    let b = decimal-begins n l in
    let same : b.first ∷ (b.others ++ r) ≡ c ∷ u = ap (λ xs. xs ++ r) (sym b.is) ∙ e in
    let byte : b.first ≡ c = cc in
    true≢false (sym b.digit ∙ ap is_ascii_digit byte ∙ h)
