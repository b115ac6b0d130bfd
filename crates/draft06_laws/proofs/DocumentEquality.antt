-- Documents are equal exactly where the test of JSON equality says so.
use Rattle.std.proofs.Common.{◌≡◌, Bool, true, false, ◌&&◌, not, cond, refl, sym, ap, ap₂, ◌∙◌, true≢false}
use Rattle.std.proofs.lemmas.Bool.{and_parts, and_from}
use Rattle.std.proofs.lemmas.Bool.Decides.{Decides-int_eq}
use Rattle.documents.specs.Tests.{same_word}
use Rattle.documents.specs.Document.{Document, null, boolean, number, string, array, object, Items, no_items, item, Members, no_members, member}
use Rattle.documents.specs.Measures.{same_document, same_items, same_members}
use Rattle.list_laws.proofs.Tests.{same_word-refl, same_word-true}

truths : (b c : Bool) → cond b c (not c) ≡ true → b ≡ c
truths true c h = sym h
truths false true h = h
truths false false h = refl

mutual
  -- documents that the test calls the same are equal
  pub same_document-eq : (a b : Document) → same_document a b ≡ true → a ≡ b
  same_document-eq null null h = refl
  same_document-eq null _ h = absurd (true≢false (sym h))
  same_document-eq (boolean b) (boolean c) h = ap boolean (truths b c h)
  same_document-eq (boolean b) _ h = absurd (true≢false (sym h))
  same_document-eq (number m) (number n) h = ap number ((Decides-int_eq m n).0 h)
  same_document-eq (number m) _ h = absurd (true≢false (sym h))
  same_document-eq (string v) (string w) h = ap string (same_word-true v w h)
  same_document-eq (string v) _ h = absurd (true≢false (sym h))
  same_document-eq (array ds) (array es) h = ap array (same_items-eq ds es h)
  same_document-eq (array ds) _ h = absurd (true≢false (sym h))
  same_document-eq (object ms) (object ns) h = ap object (same_members-eq ms ns h)
  same_document-eq (object ms) _ h = absurd (true≢false (sym h))

  same_items-eq : (ds es : Items) → same_items ds es ≡ true → ds ≡ es
  same_items-eq no_items no_items h = refl
  same_items-eq no_items (item e es) h = absurd (true≢false (sym h))
  same_items-eq (item d ds) no_items h = absurd (true≢false (sym h))
  same_items-eq (item d ds) (item e es) h =
      let parts = and_parts (same_document d e) (same_items ds es) h in
      ap₂ item (same_document-eq d e parts.0) (same_items-eq ds es parts.1)

  same_members-eq : (ms ns : Members) → same_members ms ns ≡ true → ms ≡ ns
  same_members-eq no_members no_members h = refl
  same_members-eq no_members (member l e ns) h = absurd (true≢false (sym h))
  same_members-eq (member k d ms) no_members h = absurd (true≢false (sym h))
  same_members-eq (member k d ms) (member l e ns) h =
      let last = and_parts (same_word k l && same_document d e) (same_members ms ns) h in
      let first = and_parts (same_word k l) (same_document d e) last.0 in
      ap (λ n. member n d ms) (same_word-true k l first.0)
      ∙ ap₂ (λ x y. member l x y) (same_document-eq d e first.1) (same_members-eq ms ns last.1)

truth : (b : Bool) → cond b b (not b) ≡ true
truth true = refl
truth false = refl

mutual
  -- the test calls each document the same as itself
  pub same_document-refl : (a : Document) → same_document a a ≡ true
  same_document-refl null = refl
  same_document-refl (boolean b) = truth b
  same_document-refl (number n) = (Decides-int_eq n n).1 refl
  same_document-refl (string w) = same_word-refl w
  same_document-refl (array ds) = same_items-refl ds
  same_document-refl (object ms) = same_members-refl ms

  same_items-refl : (ds : Items) → same_items ds ds ≡ true
  same_items-refl no_items = refl
  same_items-refl (item d ds) =
      and_from (same_document d d) (same_items ds ds) (same_document-refl d) (same_items-refl ds)

  same_members-refl : (ms : Members) → same_members ms ms ≡ true
  same_members-refl no_members = refl
  same_members-refl (member k d ms) =
      and_from (same_word k k && same_document d d) (same_members ms ms)
      (and_from (same_word k k) (same_document d d) (same_word-refl k) (same_document-refl d)) (same_members-refl ms)
