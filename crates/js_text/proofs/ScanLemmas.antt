-- What is read from the front of bytes.
use Rattle.std.proofs.Common.{◌≡◌, ℕ, ◌-◌, List, [], ◌∷◌, ◌++◌, length, take, drop, Option, Some, None, encode_utf8_all, ap, ◌∙◌, arith}
use Rattle.std.proofs.lemmas.List.{take_all, length-append}
use Rattle.std.proofs.Math.Seq.{take-append_seam}
use Rattle.document_texts.specs.Scalars.{string_text}
use Rattle.document_text_laws.proofs.StringLaws.{read_on-string}
use Rattle.document_text_laws.specs.Reader.{read_on, plain}
use Rattle.std.proofs.lemmas.Option.{same_Some}

-- a slice behind its first byte
pub behind-first : {A : Type 0} (text : List A) (x : A) (ys : List A) → text ≡ x ∷ ys
    → take (length text - 1) (drop 1 text) ≡ ys
behind-first text x ys e =
    ap (λ t. take (length t - 1) (drop 1 t)) e ∙ take_all (length (x ∷ ys) - 1) ys (omega arith)

-- what is found, and what comes behind
abbrev pub Found : Type 0
Found = List ℕ × List ℕ

pub found-none : (text s rest : List ℕ) → text ≡ string_text s ++ rest
    → ◌≡◌ {A = Option Found} None (read_on plain [] (take (length text - 1) (drop 1 text))) → ⊥
found-none text s rest is read =
    let some : ◌≡◌ {A = Option Found} None (Some (encode_utf8_all s, rest)) =
    read ∙ ap (read_on plain []) (behind-first text 34 _ is) ∙ read_on-string s rest in
    cc

pub found-word : (text s rest bytes left : List ℕ) → text ≡ string_text s ++ rest
    → ◌≡◌ {A = Option Found} (Some (bytes, left)) (read_on plain [] (take (length text - 1) (drop 1 text)))
    → (bytes ≡ encode_utf8_all s) × (left ≡ rest)
found-word text s rest bytes left is read =
    let pair : ◌≡◌ {A = Found} (bytes, left) (encode_utf8_all s, rest) =
    same_Some (bytes, left) (encode_utf8_all s, rest)
    (read ∙ ap (read_on plain []) (behind-first text 34 _ is) ∙ read_on-string s rest) in
    (ap (λ z. z.0) pair, ap (λ z. z.1) pair)

-- a slice before its last byte
pub before-last : (text xs : List ℕ) (x : ℕ) → text ≡ xs ++ x ∷ [] → take (length text - 1) text ≡ xs
before-last text xs x e =
    ap (λ t. take (length t - 1) t) e ∙ ap (λ n. take n (xs ++ x ∷ [])) (omega (arith, length-append xs (x ∷ [])))
    ∙ take-append_seam xs (x ∷ [])
