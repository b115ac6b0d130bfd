-- The first character of a class, and texts of characters.
use Rattle.std.proofs.Common.{◌≡◌, ℕ, ◌<◌, ◌⊎◌, inl, inr, Bool, true, false, ◌&&◌, ◌||◌, cond, nat_lt, List, [], ◌∷◌, ◌++◌, length, get_or, reverse, chars, encode_utf8, encode_utf8_all, refl, ap, sym, ◌∙◌, append_assoc, append-nil, arith}
use Rattle.list_laws.proofs.Lists.{get_or-in}
use Rattle.std.specs.List.{list_all}
use Rattle.std.specs.Str.{all_scalars}
use Rattle.std.proofs.lemmas.Bool.{and_parts, and_from, true≢false}
use Rattle.std.proofs.lemmas.List.{reverse-append}
use Rattle.std.proofs.lemmas.Str.{chars-encodes}
use Rattle.patterns.specs.CharSet.{has, is_scalar, comes_no_later}
use Rattle.word_states.specs.Atom.{Atom}
use Rattle.word_states.specs.Classes.{are_alike, dividers, class_firsts, class_count, is_in_class}
use Rattle.word_states.specs.Rows.{AreRows}
use Rattle.word_laws.proofs.Mentions as M
use Rattle.word_laws.proofs.Classes.{alike_laws, firsts_scalar}
use Rattle.word_laws.proofs.ClassLaws.{firsts_come_first}
use Rattle.word_laws.proofs.Firsts.{Before, before_or_same}
use Rattle.word_laws.proofs.RowLaws.{row_zero}

both_ways : (c d : ℕ) → comes_no_later c d ≡ true → comes_no_later d c ≡ true → c ≡ d
both_ways c d e f = go (before_or_same c d e) (before_or_same d c f) where
  never : Before c d → Before d c → ⊥
  never (inl l) (inl m) = let n : ⊥ = omega (arith, l, m) in n
  never (inl l) (inr m) = let q = m.0 in let n : ⊥ = omega (arith, l, q) in n
  never (inr l) (inl m) = let q = l.0 in let n : ⊥ = omega (arith, m, q) in n
  never (inr l) (inr m) = let p = l.1 in let q = m.1 in let n : ⊥ = omega (arith, p, q) in n

  go : Before c d ⊎ (c ≡ d) → Before d c ⊎ (d ≡ c) → c ≡ d
  go (inr q) y = q
  go (inl x) (inr q) = sym q
  go (inl x) (inl y) = absurd (never x y)

module _ (atoms : List Atom) (k : ℕ) (l : k < class_count atoms) (set : List (ℕ × ℕ))
    (is : (c : ℕ) → has set c ≡ is_in_class atoms k c) where
  -- the first character of a class is in it
  first_in : has set (get_or (class_firsts atoms) k 0) ≡ true
  first_in =
      let f = get_or (class_firsts atoms) k 0 in
      is f
      ∙ and_from (is_scalar f) (are_alike (dividers atoms) f f)
      (firsts_scalar atoms f (get_or-in (class_firsts atoms) k 0 l)) ((alike_laws (dividers atoms)).refl f)

  pub letter_is : (c : ℕ) → has set c ≡ true → ((d : ℕ) → has set d ≡ true → comes_no_later c d ≡ true)
      → c ≡ get_or (class_firsts atoms) k 0
  letter_is c h least =
      both_ways c (get_or (class_firsts atoms) k 0) (least (get_or (class_firsts atoms) k 0) first_in)
      (firsts_come_first atoms k c l (sym (is c) ∙ h)).1

  pub never_empty : set ≡ [] → ⊥
  never_empty e = true≢false (sym first_in ∙ ap (λ z. has z (get_or (class_firsts atoms) k 0)) e)

-- one more letter of those that are left

pub letter_more : (bytes text : List ℕ) (letters left : List ℕ) (c : ℕ) (all : List ℕ)
    → text ≡ bytes ++ encode_utf8 c → letters ≡ left ++ c ∷ []
    → bytes ++ encode_utf8_all (reverse letters) ≡ all
    → text ++ encode_utf8_all (reverse left) ≡ all
letter_more bytes text letters left c all t e h =
    ap (λ z. z ++ encode_utf8_all (reverse left)) t
    ∙ append_assoc bytes (encode_utf8 c) (encode_utf8_all (reverse left))
    ∙ ap (λ z. bytes ++ encode_utf8_all z) (sym (ap reverse e ∙ reverse-append left (c ∷ [])))
    ∙ h

scalar_at : (low rest : Bool) → (low || rest) ≡ true → cond low true rest ≡ true
scalar_at true rest h = refl
scalar_at false rest h = h

scalars_from : (cs : List ℕ) → list_all is_scalar cs ≡ true → all_scalars cs ≡ true
scalars_from [] h = refl
scalars_from (c ∷ cs) h =
    let (a, b) = and_parts (is_scalar c) (list_all is_scalar cs) h in
    and_from _ (all_scalars cs) (scalar_at (nat_lt c 0xd800) (nat_lt 0xdfff c && nat_lt c 0x110000) a)
    (scalars_from cs b)

pub text_is : (bytes cs : List ℕ) → bytes ++ encode_utf8_all [] ≡ encode_utf8_all cs → list_all is_scalar cs ≡ true
    → chars bytes ≡ cs
text_is bytes cs e s = ap chars (sym (append-nil bytes) ∙ e) ∙ chars-encodes cs (scalars_from cs s)

pub none_left : (xs : List ℕ) → length xs ≡ 0 → xs ≡ []
none_left [] e = refl
none_left (x ∷ xs) e = absurd (omega (arith, e))

module _ (atoms : List Atom) (L : List (List ℕ)) (rows : AreRows atoms L) where
  -- at row 0 the letters are all
  pub all_letters : (at : ℕ) (letters w : List ℕ) → at ≡ 0 → get_or L at [] ++ letters ≡ w → letters ≡ w
  all_letters at letters w e h =
      ap (λ z. z ++ letters) (sym (row_zero atoms L rows) ∙ ap (λ z. get_or L z []) (sym e)) ∙ h
