-- Names are the same where their texts are.
use Rattle.std.proofs.Common.{◌≡◌, ℕ, List, [], ◌∷◌, Bool, true, false, chars, bytes_eq, IsUtf8, refl, sym, ap, ◌∙◌}
use Rattle.std.proofs.lemmas.Str.{encodes-chars}
use Rattle.std.proofs.lemmas.Slice.Eq.{bytes_eq-Decides}
use Rattle.std.specs.Str.{encode_utf8_all}
use Rattle.documents.specs.Tests.{same_word}

-- the two tests of lists agree
pub same_word-bytes_eq : (xs ys : List ℕ) → same_word xs ys ≡ bytes_eq xs ys
same_word-bytes_eq [] [] = refl
same_word-bytes_eq [] (y ∷ ys) = refl
same_word-bytes_eq (x ∷ xs) [] = refl
same_word-bytes_eq (x ∷ xs) (y ∷ ys) = rw (same_word-bytes_eq xs ys) refl

-- tests that follow from each other are the same
same_test : (a b : Bool) → (a ≡ true → b ≡ true) → (b ≡ true → a ≡ true) → a ≡ b
same_test true b there back = sym (there refl)
same_test false true there back = back refl
same_test false false there back = refl

-- texts have the same scalar values just where they have the same bytes
same_word-chars : (a b : List ℕ) → IsUtf8 a → IsUtf8 b → same_word (chars a) (chars b) ≡ bytes_eq b a
same_word-chars a b u v =
    let words = bytes_eq-Decides (chars a) (chars b) in
    let bytes = bytes_eq-Decides b a in
    let as_bytes = same_word-bytes_eq (chars a) (chars b) in
    same_test _ _
    (λ h. bytes.1 (sym (sym (encodes-chars a u) ∙ ap encode_utf8_all (words.0 (sym as_bytes ∙ h))
    ∙ encodes-chars b v)))
    (λ h. as_bytes ∙ words.1 (ap chars (sym (bytes.0 h))))

-- texts with the same bytes are the same word
pub same_word-named : (name text key : List ℕ) (test : Bool) → IsUtf8 name → IsUtf8 text → chars text ≡ key
    → test ≡ bytes_eq text name
    → same_word (chars name) key ≡ test
same_word-named name text key test u v is e =
    ap (same_word (chars name)) (sym is) ∙ same_word-chars name text u v ∙ sym e
