-- What the nodes of an array's value require of an array: that it has the same elements, one by one.
use Rattle.std.proofs.Common.{◌≡◌, ℕ, suc, List, [], ◌∷◌, length, Bool, true, false, ◌&&◌, nat_le, refl, ap, sym, ◌∙◌, arith}
use Rattle.documents.specs.Document.{Document, Items, no_items, item, elements}
use Rattle.documents.specs.Measures.{meets_in_order, same_document, same_items}

-- the test of each element
abbrev pub item_tests : Items → List (Document → Bool)
item_tests no_items = []
item_tests (item d ds) = same_document d ∷ item_tests ds

-- as many elements
abbrev pub same_count : ℕ → ℕ → Bool
same_count m n = nat_le m n && (nat_le n m && true)

count_more : (m n : ℕ) → same_count (suc m) (suc n) ≡ same_count m n
count_more m n =
    let a : nat_le (suc m) (suc n) ≡ nat_le m n = grind arith in
    let b : nat_le (suc n) (suc m) ≡ nat_le n m = grind arith in rw (a, b) refl

no_fewer : (n : ℕ) → same_count 0 (suc n) ≡ false
no_fewer n =
    let a : nat_le 0 (suc n) ≡ true = grind arith in let b : nat_le (suc n) 0 ≡ false = grind arith in rw (a, b) refl

no_more : (n : ℕ) → same_count (suc n) 0 ≡ false
no_more n = let a : nat_le (suc n) 0 ≡ false = grind arith in rw a refl

and-ahead : (a b c d : Bool) → a ≡ d → ((a && b) && c) ≡ (d && (b && c))
and-ahead true b c d h = rw (sym h) refl
and-ahead false b c d h = rw (sym h) refl

-- elements that pass the tests in order, as many as there are, are the same
pub items_same : (ds es : Items)
    → (meets_in_order (λ p K. p K) (item_tests ds) (elements es)
    && same_count (length (elements ds)) (length (elements es))) ≡ same_items ds es
items_same no_items no_items = refl
items_same no_items (item e es) = no_fewer (length (elements es))
items_same (item d ds) no_items = no_more (length (elements ds))
items_same (item d ds) (item e es) =
    and-ahead (same_document d e) (meets_in_order (λ p K. p K) (item_tests ds) (elements es))
    (same_count (suc (length (elements ds))) (suc (length (elements es)))) (same_document d e) refl
    ∙ ap (λ b. same_document d e && b)
    (ap (λ b. meets_in_order (λ p K. p K) (item_tests ds) (elements es) && b)
    (count_more (length (elements ds)) (length (elements es))) ∙ items_same ds es)
