-- Words and the bytes that spell them.
use Rattle.std.proofs.Common.{◌≡◌, ◌<◌, ◌+◌, ◌≢◌, cond, ℕ, Bool, true, false, List, [], ◌∷◌, ◌++◌, map, take, get_or, length, chars, encode_utf8_all, slice_index_or, refl, ap₂, arith, lt-ltb}
use Rattle.std.proofs.Math.Dec.{ltb, leb}
use borrow.Author.Tests.{leb-true}
use Rattle.clap.proofs.WalkLemmas.{both}
use Rattle.std.specs.Borrow.{Bor}
use Rattle.std.specs.Char.{encode_utf8, is_ascii_digit}
use Rattle.std.specs.List.{list_all}
use Rattle.std.proofs.lemmas.Grind.{common_steps}
use Rattle.std.proofs.lemmas.List.{map-append}

-- the texts of one word more
pub texts-more : (ts : List (Bor (List ℕ))) (ws : List (List ℕ)) (i : ℕ) (t : Bor (List ℕ)) (w : List ℕ)
    → map (λ t. t.now) ts ≡ map encode_utf8_all (take i ws) → i < length ws → w ≡ get_or ws i w
    → t.now ≡ encode_utf8_all w → map (λ t. t.now) (ts ++ t ∷ []) ≡ map encode_utf8_all (take (i + 1) ws)
texts-more ts ws i t w same lt is bytes = grind (arith, common_steps, map-append)

-- each of the first words is the text of its bytes
abbrev pub AreSpelled : ℕ → List (List ℕ) → Type 0
AreSpelled n ws = (k : ℕ) (d : List ℕ) → k < n → chars (encode_utf8_all (slice_index_or ws k d)) ≡ slice_index_or ws k d

pub spelled-more : (ws : List (List ℕ)) (i : ℕ) (w bs : List ℕ) → AreSpelled i ws → i < length ws → w ≡ get_or ws i w
    → bs ≡ encode_utf8_all w → chars bs ≡ w → AreSpelled (i + 1) ws
spelled-more ws i w bs before lt is bytes text k d below = grind (arith, common_steps, before k d)

-- ---- the first byte

pub record HasHead (bs : List ℕ) : Type 0 where
  pub head : ℕ
  pub rest : List ℕ
  pub is : bs ≡ head ∷ rest
  pub no_dash : head ≢ 45

-- by how many bytes there are
head-of : (t u v : Bool) (x a b c d e f g h i : ℕ) → x ≢ 45
    → HasHead (cond t (x ∷ [])
    (cond u ((192 + a) ∷ b ∷ []) (cond v ((224 + c) ∷ d ∷ e ∷ []) ((240 + f) ∷ g ∷ h ∷ i ∷ []))))
head-of true u v x a b c d e f g h i n = record { head = x; rest = []; is = refl; no_dash = n }
head-of false true v x a b c d e f g h i n =
    record { head = 192 + a; rest = b ∷ []; is = refl; no_dash = λ e. absurd (omega arith) }
head-of false false true x a b c d e f g h i n =
    record { head = 224 + c; rest = d ∷ e ∷ []; is = refl; no_dash = λ e. absurd (omega arith) }
head-of false false false x a b c d e f g h i n =
    record { head = 240 + f; rest = g ∷ h ∷ i ∷ []; is = refl; no_dash = λ e. absurd (omega arith) }

-- only `-` begins with the byte of `-`
pub encoded-head : (x : ℕ) → x ≢ 45 → HasHead (encode_utf8 x)
unfolding encode_utf8
encoded-head x n = head-of (ltb x 128) (ltb x 2048) (ltb x 65536) x _ _ _ _ _ _ _ _ _ n

-- ---- digits

spelled-low : (c : ℕ) → c < 128 → encode_utf8 c ≡ c ∷ []
unfolding encode_utf8
spelled-low c low = rw (lt-ltb c 128 low) refl

digit-low : (c : ℕ) → is_ascii_digit c ≡ true → c < 128
digit-low c d = let h = both (leb 48 c) (leb c 57) d in omega (arith, leb-true c 57 h.1)

-- digits are spelled by themselves
pub digits-spelled : (text : List ℕ) → list_all is_ascii_digit text ≡ true → encode_utf8_all text ≡ text
digits-spelled [] all = refl
digits-spelled (c ∷ cs) all =
    let h = both (is_ascii_digit c) (list_all is_ascii_digit cs) all in
    ap₂ (λ (a b : List ℕ). a ++ b) (spelled-low c (digit-low c h.0)) (digits-spelled cs h.1)
