-- The key lemma, `document_total`: `document_cmp` is a total order, since it is that of lists of numbers by which
-- documents are written. It ties documents exactly where they are the same.
use Rattle.std.proofs.Common.{◌≡◌, ℕ, ℤ, pos, negsuc, List, [], ◌∷◌, Bool, true, false, ◌&&◌, cond, nat_eq, nat_lt, Ordering, Less, Equal, Greater, nat_cmp, refl, ap, ap₂, subst, ◌∙◌, arith}
use Rattle.std.proofs.lemmas.Bool.{ltb-true, ltb-false}
use Rattle.std.proofs.lemmas.Cmp.{int_cmp_total, lists_total, on_total}
use Rattle.std.specs.Cmp.{IsTotalOrder}
use Rattle.std.specs.Cmp.Lexicographic.{slice_cmp}
use Rattle.std.specs.Ordering.{ordering_then, int_cmp, is_eq}
use Rattle.documents.specs.Tests.{same_word}
use Rattle.documents.specs.Document.{Document, null, boolean, number, string, array, object, Items, no_items, item, Members, no_members, member}
use Rattle.documents.specs.Measures.{same_document, same_items, same_members}
use Rattle.js_valid.specs.DocumentOrder.{document_cmp, items_cmp, members_cmp}

-- a document as numbers before others: its kind, and what it is made of. A list ends with -1
abbrev word_code : List ℕ → List ℤ → List ℤ
word_code [] us = negsuc 0 ∷ us
word_code (c ∷ w) us = pos c ∷ word_code w us

abbrev mutual
  code : Document → List ℤ → List ℤ
  code null us = pos 0 ∷ us
  code (boolean b) us = pos 1 ∷ cond b (pos 1) (pos 0) ∷ us
  code (number n) us = pos 2 ∷ n ∷ us
  code (string w) us = pos 3 ∷ word_code w us
  code (array ds) us = pos 4 ∷ items_code ds us
  code (object ms) us = pos 5 ∷ members_code ms us

  items_code : Items → List ℤ → List ℤ
  items_code no_items us = negsuc 0 ∷ us
  items_code (item d ds) us = pos 0 ∷ code d (items_code ds us)

  members_code : Members → List ℤ → List ℤ
  members_code no_members us = negsuc 0 ∷ us
  members_code (member k d ms) us = pos 0 ∷ word_code k (code d (members_code ms us))

abbrev order : List ℤ → List ℤ → Ordering
order us vs = slice_cmp int_cmp us vs

then_then : (r s t : Ordering) → ordering_then r (ordering_then s t) ≡ ordering_then (ordering_then r s) t
then_then Less s t = refl
then_then Equal s t = refl
then_then Greater s t = refl

then_Equal : (r : Ordering) → ordering_then r Equal ≡ r
then_Equal Less = refl
then_Equal Equal = refl
then_Equal Greater = refl

then_tied : (r s : Ordering) → is_eq (ordering_then r s) ≡ (is_eq r && is_eq s)
then_tied Less s = refl
then_tied Equal s = refl
then_tied Greater s = refl

pos_cmp : (x y : ℕ) → int_cmp (pos x) (pos y) ≡ nat_cmp x y
pos_cmp x y = go (nat_lt x y) (nat_lt y x) refl refl
  where
    go : (a b : Bool) → nat_lt x y ≡ a → nat_lt y x ≡ b → int_cmp (pos x) (pos y) ≡ nat_cmp x y
    go true b p q = rw p refl
    go false true p q =
        let less = ltb-true y x q in
        let other : nat_eq x y ≡ false = grind (arith, less) in
        rw (p, q, other) refl
    go false false p q =
        let most = ltb-false x y p in
        let least = ltb-false y x q in
        let same : nat_eq x y ≡ true = grind (arith, most, least) in
        rw (p, q, same) refl

nat_tied : (x y : ℕ) → is_eq (nat_cmp x y) ≡ nat_eq x y
nat_tied x y = go (nat_lt x y) (nat_eq x y) refl refl
  where
    go : (a b : Bool) → nat_lt x y ≡ a → nat_eq x y ≡ b → is_eq (nat_cmp x y) ≡ nat_eq x y
    go true b p q =
        let less = ltb-true x y p in
        let other : nat_eq x y ≡ false = grind (arith, less) in
        rw (p, other) refl
    go false true p q = rw (p, q) refl
    go false false p q = rw (p, q) refl

words-coded : (v w : List ℕ) (us vs : List ℤ)
    → order (word_code v us) (word_code w vs) ≡ ordering_then (slice_cmp nat_cmp v w) (order us vs)
words-coded [] [] us vs = refl
words-coded [] (d ∷ w) us vs = refl
words-coded (c ∷ v) [] us vs = refl
words-coded (c ∷ v) (d ∷ w) us vs =
    ap₂ ordering_then (pos_cmp c d) (words-coded v w us vs)
    ∙ then_then (nat_cmp c d) (slice_cmp nat_cmp v w) (order us vs)

words-tied : (v w : List ℕ) → is_eq (slice_cmp nat_cmp v w) ≡ same_word v w
words-tied [] [] = refl
words-tied [] (d ∷ w) = refl
words-tied (c ∷ v) [] = refl
words-tied (c ∷ v) (d ∷ w) =
    then_tied (nat_cmp c d) (slice_cmp nat_cmp v w) ∙ ap₂ (λ a b. a && b) (nat_tied c d) (words-tied v w)

-- what is compared by the numbers of two documents, and where they tie
abbrev Coded : (List ℤ → List ℤ) → (List ℤ → List ℤ) → Ordering → Bool → Type 0
Coded f g r same = ((us vs : List ℤ) → order (f us) (g vs) ≡ ordering_then r (order us vs)) × (is_eq r ≡ same)

-- one after the other
both-coded : (f g h k : List ℤ → List ℤ) (r s : Ordering) (a b : Bool) → Coded f g r a → Coded h k s b
    → Coded (λ us. f (h us)) (λ us. g (k us)) (ordering_then r s) (a && b)
both-coded f g h k r s a b p q = (
  (λ us vs. p.0 (h us) (k vs) ∙ ap (ordering_then r) (q.0 us vs) ∙ then_then r s (order us vs)),
  then_tied r s ∙ ap₂ (λ x y. x && y) p.1 q.1,
)

mutual
  coded : (d e : Document) → Coded (code d) (code e) (document_cmp d e) (same_document d e)
  coded null null = ((λ u v. refl), refl)
  coded null (boolean c) = ((λ u v. refl), refl)
  coded null (number n) = ((λ u v. refl), refl)
  coded null (string w) = ((λ u v. refl), refl)
  coded null (array es) = ((λ u v. refl), refl)
  coded null (object ns) = ((λ u v. refl), refl)
  coded (boolean b) null = ((λ u v. refl), refl)
  coded (boolean true) (boolean true) = ((λ u v. refl), refl)
  coded (boolean true) (boolean false) = ((λ u v. refl), refl)
  coded (boolean false) (boolean true) = ((λ u v. refl), refl)
  coded (boolean false) (boolean false) = ((λ u v. refl), refl)
  coded (boolean b) (number n) = ((λ u v. refl), refl)
  coded (boolean b) (string w) = ((λ u v. refl), refl)
  coded (boolean b) (array es) = ((λ u v. refl), refl)
  coded (boolean b) (object ns) = ((λ u v. refl), refl)
  coded (number m) null = ((λ u v. refl), refl)
  coded (number m) (boolean c) = ((λ u v. refl), refl)
  coded (number m) (number n) = ((λ u v. refl), refl)
  coded (number m) (string w) = ((λ u v. refl), refl)
  coded (number m) (array es) = ((λ u v. refl), refl)
  coded (number m) (object ns) = ((λ u v. refl), refl)
  coded (string v) null = ((λ u v. refl), refl)
  coded (string v) (boolean c) = ((λ u v. refl), refl)
  coded (string v) (number n) = ((λ u v. refl), refl)
  coded (string v) (string w) = (words-coded v w, words-tied v w)
  coded (string v) (array es) = ((λ u v. refl), refl)
  coded (string v) (object ns) = ((λ u v. refl), refl)
  coded (array ds) null = ((λ u v. refl), refl)
  coded (array ds) (boolean c) = ((λ u v. refl), refl)
  coded (array ds) (number n) = ((λ u v. refl), refl)
  coded (array ds) (string w) = ((λ u v. refl), refl)
  coded (array ds) (array es) = items-coded ds es
  coded (array ds) (object ns) = ((λ u v. refl), refl)
  coded (object ms) null = ((λ u v. refl), refl)
  coded (object ms) (boolean c) = ((λ u v. refl), refl)
  coded (object ms) (number n) = ((λ u v. refl), refl)
  coded (object ms) (string w) = ((λ u v. refl), refl)
  coded (object ms) (array es) = ((λ u v. refl), refl)
  coded (object ms) (object ns) = members-coded ms ns

  items-coded : (ds es : Items) → Coded (items_code ds) (items_code es) (items_cmp ds es) (same_items ds es)
  items-coded no_items no_items = ((λ u v. refl), refl)
  items-coded no_items (item e es) = ((λ u v. refl), refl)
  items-coded (item d ds) no_items = ((λ u v. refl), refl)
  items-coded (item d ds) (item e es) =
      both-coded (code d) (code e) (items_code ds) (items_code es) (document_cmp d e) (items_cmp ds es)
      (same_document d e) (same_items ds es) (coded d e) (items-coded ds es)

  members-coded : (ms ns : Members)
      → Coded (members_code ms) (members_code ns) (members_cmp ms ns) (same_members ms ns)
  members-coded no_members no_members = ((λ u v. refl), refl)
  members-coded no_members (member l e ns) = ((λ u v. refl), refl)
  members-coded (member k d ms) no_members = ((λ u v. refl), refl)
  members-coded (member k d ms) (member l e ns) =
      both-coded (λ us. word_code k (code d us)) (λ us. word_code l (code e us)) (members_code ms) (members_code ns)
      (ordering_then (slice_cmp nat_cmp k l) (document_cmp d e)) (members_cmp ms ns)
      (same_word k l && same_document d e) (same_members ms ns)
      (both-coded (word_code k) (word_code l) (code d) (code e) (slice_cmp nat_cmp k l) (document_cmp d e)
      (same_word k l) (same_document d e) (words-coded k l, words-tied k l) (coded d e))
      (members-coded ms ns)

coded_cmp : (d e : Document) → order (code d []) (code e []) ≡ document_cmp d e
coded_cmp d e = (coded d e).0 [] [] ∙ then_Equal (document_cmp d e)

pub document_total : IsTotalOrder document_cmp
document_total =
    subst IsTotalOrder (λ i d e. coded_cmp d e i)
    (on_total (λ d. code d []) (lists_total int_cmp_total))

-- documents tie where they are the same
pub document_tied : (d e : Document) → is_eq (document_cmp d e) ≡ same_document d e
document_tied d e = (coded d e).1
