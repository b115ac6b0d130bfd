-- Lists that are written element by element.
use Rattle.std.proofs.Common.{◌≡◌, ℕ, zero, suc, ◌+◌, ◌<◌, ◌≤◌, List, [], ◌∷◌, ◌++◌, length, map, flat_map, take, get_or, Bool, true, false, refl, sym, ap, ◌∙◌, arith, append_assoc, append-nil, subst, add-one}
use Rattle.std.proofs.lemmas.List.{take_all}
use Rattle.documents.specs.Document.{Document, items_of, members_of}
use Rattle.document_texts.specs.Scalars.{string_text, joined, enclosed}
use Rattle.document_texts.specs.DocumentText.{document_text, item_texts, member_texts}
use Rattle.js_text.specs.Commas.{comma_unless}

-- the texts of elements and members, as those of a list

pub item_texts-items_of : (ds : List Document) → item_texts (items_of ds) ≡ map document_text ds
item_texts-items_of [] = refl
item_texts-items_of (d ∷ ds) = ap (λ xs. document_text d ∷ xs) (item_texts-items_of ds)

abbrev pub member_text : List ℕ × Document → List ℕ
member_text m = string_text m.0 ++ 58 ∷ document_text m.1

pub member_texts-members_of : (ms : List (List ℕ × Document)) → member_texts (members_of ms) ≡ map member_text ms
member_texts-members_of [] = refl
member_texts-members_of (m ∷ ms) = ap (λ xs. member_text m ∷ xs) (member_texts-members_of ms)

-- what is written of a list before the element at place i

abbrev pub begun : {A : Type 0} → (A → List ℕ) → List A → ℕ → List ℕ
begun write xs i = joined (map write (take i xs))

one_more : {A : Type 0} (write : A → List ℕ) (xs : List A) (i : ℕ) (x : A) → i < length xs → x ≡ get_or xs i x
    → flat_map (λ z. 44 ∷ z) (map write (take i xs)) ++ 44 ∷ write x
    ≡ flat_map (λ z. 44 ∷ z) (map write (take (suc i) xs))
one_more write [] i x l e = absurd (omega (arith, l))
one_more write (z ∷ zs) zero x l e = ap (λ w. 44 ∷ write w) e ∙ sym (append-nil (44 ∷ write z))
one_more write (z ∷ zs) (suc i) x l e =
    append_assoc (44 ∷ write z) (flat_map (λ y. 44 ∷ y) (map write (take i zs))) (44 ∷ write x)
    ∙ ap (λ w. (44 ∷ write z) ++ w) (one_more write zs i x (omega (arith, l)) e)

-- no element was written yet
abbrev pub is_start : ℕ → Bool
is_start zero = true
is_start (suc i) = false

joined-more : {A : Type 0} (write : A → List ℕ) (xs : List A) (i : ℕ) (x : A) → i < length xs → x ≡ get_or xs i x
    → begun write xs i ++ (comma_unless (is_start i) ++ write x) ≡ begun write xs (suc i)
joined-more write [] i x l e = absurd (omega (arith, l))
joined-more write (y ∷ ys) zero x l e = ap write e ∙ sym (append-nil (write y))
joined-more write (y ∷ ys) (suc i) x l e =
    append_assoc (write y) (flat_map (λ z. 44 ∷ z) (map write (take i ys))) (44 ∷ write x)
    ∙ ap (λ zs. write y ++ zs) (one_more write ys i x (omega (arith, l)) e)

-- what holds while a list is written
pub record IsBegun {A : Type 0} (write : A → List ℕ) (old : List ℕ) (xs : List A) (out : List ℕ) (none : Bool)
    (i : ℕ) : Type 0 where
  pub text : out ≡ old ++ begun write xs i
  pub first : none ≡ is_start i

pub begun-next : {A : Type 0} (write : A → List ℕ) (old : List ℕ) (xs : List A) (i : ℕ) (x : A)
    (out comma new : List ℕ) (first : Bool) → i < length xs → x ≡ get_or xs i x
    → comma ≡ out ++ comma_unless first → new ≡ comma ++ write x → IsBegun write old xs out first i
    → IsBegun write old xs new false (i + 1)
begun-next write old xs i x out comma new first l e put written is =
    subst (IsBegun write old xs new false) (sym (add-one i)) (record {
      text = written ∙ ap (λ ys. ys ++ write x) (put ∙ ap (λ b. out ++ comma_unless b) is.first)
          ∙ append_assoc out (comma_unless (is_start i)) (write x)
          ∙ ap (λ ys. ys ++ (comma_unless (is_start i) ++ write x)) is.text
          ∙ append_assoc old (begun write xs i) (comma_unless (is_start i) ++ write x)
          ∙ ap (λ ys. old ++ ys) (joined-more write xs i x l e);
      first = refl;
    })

pub begun-end : {A : Type 0} (write : A → List ℕ) (old : List ℕ) (xs : List A) (i : ℕ) (out new : List ℕ)
    (first : Bool) (from to : ℕ) → length xs ≤ i → new ≡ out ++ to ∷ []
    → IsBegun write (old ++ from ∷ []) xs out first i → new ≡ old ++ enclosed from (map write xs) to
begun-end write old xs i out new first from to l end is =
    end ∙ ap (λ ys. ys ++ to ∷ [])
    (is.text ∙ ap (λ ys. (old ++ from ∷ []) ++ joined (map write ys)) (take_all i xs l)
    ∙ append_assoc old (from ∷ []) (joined (map write xs)))
    ∙ append_assoc old (from ∷ joined (map write xs)) (to ∷ [])

-- a name with its colon, and then what is under it
pub member-written : (old name named value new : List ℕ) → named ≡ old ++ name ++ 58 ∷ [] → new ≡ named ++ value
    → new ≡ old ++ (name ++ 58 ∷ value)
member-written old name named value new first second =
    second ∙ ap (λ ys. ys ++ value) first ∙ append_assoc (old ++ name) (58 ∷ []) value
    ∙ append_assoc old name (58 ∷ value)
