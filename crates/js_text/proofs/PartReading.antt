-- The first byte of a part's text determines its kind.
use Rattle.std.proofs.Common.{◌≡◌, ℕ, ◌<◌, ◌≤◌, pos, negsuc, List, [], ◌∷◌, ◌++◌, map, true, false, cond, nat_eq, Option, Some, refl, sym, ap, ◌∙◌, arith, append_assoc}
use Rattle.std.specs.Char.{is_ascii_digit}
use Rattle.std.specs.Fmt.{decimal}
use Rattle.std.proofs.lemmas.Bool.{ne_eqb, ltb-true}
use Rattle.documents.specs.Tests.{every, is_scalar}
use Rattle.shared_documents.specs.Part.{Part, null, boolean, number, string, array, object, members_rise, names_rise}
use Rattle.document_texts.specs.Scalars.{string_text, joined}
use Rattle.document_texts.specs.PartsText.{reference_text, named_text, part_text}
use Rattle.document_texts.specs.PartsRead.{is_named, is_member, is_told}
use Rattle.document_text_laws.specs.Reader.{ends}
use Rattle.document_text_laws.proofs.NumberLaws.{Begins, decimal-begins}

-- ---- kinds

abbrev pub kind_at : ℕ → ℕ
kind_at x =
    cond (nat_eq x 110) 0 (cond (nat_eq x 116) 1 (cond (nat_eq x 102) 2
    (cond (nat_eq x 34) 3 (cond (nat_eq x 91) 4 (cond (nat_eq x 123) 5 6)))))

abbrev pub kind : Part → ℕ
kind null = 0
kind (boolean true) = 1
kind (boolean false) = 2
kind (string s) = 3
kind (array is) = 4
kind (object ms) = 5
kind (number z) = 6

pub other-kind : (x : ℕ) → (x ≡ 110 → ⊥) → (x ≡ 116 → ⊥) → (x ≡ 102 → ⊥) → (x ≡ 34 → ⊥) → (x ≡ 91 → ⊥)
    → (x ≡ 123 → ⊥) → kind_at x ≡ 6
other-kind x a b c d e f =
    rw (ne_eqb x 110 a, ne_eqb x 116 b, ne_eqb x 102 c, ne_eqb x 34 d, ne_eqb x 91 e, ne_eqb x 123 f) refl

low-kind : (x : ℕ) → 35 ≤ x → x < 58 → kind_at x ≡ 6
low-kind x l h =
    other-kind x (λ e. omega (arith, e, h)) (λ e. omega (arith, e, h)) (λ e. omega (arith, e, h))
    (λ e. omega (arith, e, l)) (λ e. omega (arith, e, h)) (λ e. omega (arith, e, h))

abbrev head : List ℕ → ℕ
head [] = 0
head (x ∷ xs) = x

digit-kind : (n x : ℕ) (rest behind : List ℕ) → Begins n (decimal n) → x ∷ rest ≡ decimal n ++ behind → kind_at x ≡ 6
digit-kind n x rest behind b e =
    let same : x ≡ b.first = ap head (e ∙ ap (λ ds. ds ++ behind) b.is) in
    ap kind_at same ∙ digit b.first b.digit
  where
    digit : (d : ℕ) → is_ascii_digit d ≡ true → kind_at d ≡ 6
    digit d h = low-kind d (grind (arith, h)) (grind (arith, h))

-- the first byte of a part's line says of which kind the part is
pub first-kind : (p : Part) (x : ℕ) (rest : List ℕ) → is_told p ≡ true → x ∷ rest ≡ part_text p ++ 10 ∷ []
    → kind_at x ≡ kind p
first-kind null x rest h e = ap kind_at (ap head e)
first-kind (boolean true) x rest h e = ap kind_at (ap head e)
first-kind (boolean false) x rest h e = ap kind_at (ap head e)
first-kind (string s) x rest h e = ap kind_at (ap head e)
first-kind (array is) x rest h e = ap kind_at (ap head e)
first-kind (object ms) x rest h e = ap kind_at (ap head e)
first-kind (number (pos n)) x rest h e =
    digit-kind n x rest (10 ∷ [])
    (decimal-begins n (omega (arith, ltb-true n 170141183460469231731687303715884105728 h))) e
first-kind (number (negsuc n)) x rest h e = ap kind_at (ap head e)

-- ---- what each kind is read as

pub reads-null : (p : Part) → 0 ≡ kind p → Some null ≡ Some p
reads-null null e = refl
reads-null (boolean true) e = absurd (omega (arith, e))
reads-null (boolean false) e = absurd (omega (arith, e))
reads-null p e = absurd (omega (arith, e))

pub reads-true : (p : Part) → 1 ≡ kind p → Some (boolean true) ≡ Some p
reads-true (boolean true) e = refl
reads-true (boolean false) e = absurd (omega (arith, e))
reads-true p e = absurd (omega (arith, e))

pub reads-false : (p : Part) → 2 ≡ kind p → Some (boolean false) ≡ Some p
reads-false (boolean false) e = refl
reads-false (boolean true) e = absurd (omega (arith, e))
reads-false p e = absurd (omega (arith, e))

abbrev tail : List ℕ → List ℕ
tail [] = []
tail (x ∷ xs) = xs

module _ (text : List ℕ) (r : Option Part) where
  pub reads-string : ((s rest : List ℕ) → every is_scalar s ≡ true → ends rest ≡ true → text ≡ string_text s ++ rest
      → r ≡ Some (string s)) → (p : Part) → 3 ≡ kind p → is_told p ≡ true → text ≡ part_text p ++ 10 ∷ [] → r ≡ Some p
  reads-string f (string s) k h e = f s (10 ∷ []) h refl e
  reads-string f (boolean true) k h e = absurd (omega (arith, k))
  reads-string f (boolean false) k h e = absurd (omega (arith, k))
  reads-string f p k h e = absurd (omega (arith, k))

  pub reads-array : (rest : List ℕ) → text ≡ 91 ∷ rest
      → ((is behind : List ℕ) → every is_named is ≡ true → rest ≡ joined (map reference_text is) ++ 93 ∷ behind
      → r ≡ Some (array is)) → (p : Part) → 4 ≡ kind p → is_told p ≡ true → text ≡ part_text p ++ 10 ∷ [] → r ≡ Some p
  reads-array rest t f (array is) k h e =
      f is (10 ∷ []) h (ap tail (sym t ∙ e) ∙ append_assoc (joined (map reference_text is)) (93 ∷ []) (10 ∷ []))
  reads-array rest t f (boolean true) k h e = absurd (omega (arith, k))
  reads-array rest t f (boolean false) k h e = absurd (omega (arith, k))
  reads-array rest t f p k h e = absurd (omega (arith, k))

  pub reads-object : (rest : List ℕ) → text ≡ 123 ∷ rest
      → ((ms : List (List ℕ × ℕ)) (behind : List ℕ) → every is_member ms ≡ true → members_rise ms ≡ true
      → rest ≡ joined (map named_text ms) ++ 125 ∷ behind → r ≡ Some (object ms)) → (p : Part) → 5 ≡ kind p
      → is_told p ≡ true → names_rise p ≡ true → text ≡ part_text p ++ 10 ∷ [] → r ≡ Some p
  reads-object rest t f (object ms) k h n e =
      f ms (10 ∷ []) h n (ap tail (sym t ∙ e) ∙ append_assoc (joined (map named_text ms)) (125 ∷ []) (10 ∷ []))
  reads-object rest t f (boolean true) k h n e = absurd (omega (arith, k))
  reads-object rest t f (boolean false) k h n e = absurd (omega (arith, k))
  reads-object rest t f p k h n e = absurd (omega (arith, k))
