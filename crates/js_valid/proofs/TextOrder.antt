-- The key lemma, `bytes_cmp`: texts are in the order of their bytes as they are in the order of their characters.
use Rattle.std.proofs.Common.{◌≡◌, ℕ, List, [], ◌∷◌, Bool, true, false, cond, nat_eq, nat_lt, Ordering, Less, Equal, Greater, nat_cmp, chars, IsUtf8, refl, sym, ap, ◌∙◌, arith, true≢false}
use Rattle.std.proofs.lemmas.Bool.Decides.{nat_tests}
use Rattle.std.proofs.lemmas.Cmp.{nat_list_cmp_total, tied_itself}
use Rattle.std.specs.Cmp.Lexicographic.{slice_cmp}
use Rattle.std.specs.Ordering.{ordering_then, ordering_reverse}
use Rattle.documents.specs.Tests.{comes_before}
use Rattle.js_doc.proofs.WordOrder.{comes_before-chars, comes_after-chars, same_text}

pub first-Less : (v w : List ℕ) → comes_before v w ≡ true → slice_cmp nat_cmp v w ≡ Less
first-Less [] [] h = absurd (true≢false (sym h))
first-Less [] (y ∷ ys) h = refl
first-Less (x ∷ xs) [] h = absurd (true≢false (sym h))
first-Less (x ∷ xs) (y ∷ ys) h = go (nat_eq x y) refl (first-Less xs ys)
  where
    go : (b : Bool) → nat_eq x y ≡ b → (comes_before xs ys ≡ true → slice_cmp nat_cmp xs ys ≡ Less)
        → slice_cmp nat_cmp (x ∷ xs) (y ∷ ys) ≡ Less
    go true e later =
        let same : x ≡ y = grind (arith, e) in
        let tied : nat_cmp x y ≡ Equal = grind (arith, nat_tests, same) in
        ap (λ r. ordering_then r (slice_cmp nat_cmp xs ys)) tied
        ∙ later (sym (ap (λ b. cond b (comes_before xs ys) (nat_lt x y)) e) ∙ h)
    go false e later =
        let less : nat_lt x y ≡ true = sym (ap (λ b. cond b (comes_before xs ys) (nat_lt x y)) e) ∙ h in
        rw less refl

pub bytes_cmp : (a b : List ℕ) → IsUtf8 a → IsUtf8 b
    → slice_cmp nat_cmp a b ≡ slice_cmp nat_cmp (chars a) (chars b)
bytes_cmp a b u v = go (slice_cmp nat_cmp a b) refl
  where
    go : (r : Ordering) → slice_cmp nat_cmp a b ≡ r → slice_cmp nat_cmp a b ≡ slice_cmp nat_cmp (chars a) (chars b)
    go Less e = e ∙ sym (first-Less (chars a) (chars b) (comes_before-chars a b u v e))
    go Equal e =
        e
        ∙ sym (ap (λ w. slice_cmp nat_cmp (chars a) (chars w)) (sym (same_text a b e))
        ∙ tied_itself nat_list_cmp_total (chars a))
    go Greater e =
        e
        ∙ sym (nat_list_cmp_total.antisymm (chars a) (chars b)
        ∙ ap ordering_reverse (first-Less (chars b) (chars a) (comes_after-chars a b u v e)))
