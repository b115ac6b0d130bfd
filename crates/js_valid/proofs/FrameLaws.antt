-- What a form asks of a document itself: `enum` and `const`, and what depends on no element and no member's value.
use Rattle.std.proofs.Common.{◌≡◌, ℕ, suc, List, [], ◌∷◌, map, length, nat_le, Bool, true, false, ◌&&◌, ◌||◌, not, Option, Some, None, refl, sym, ap, ap₂, ◌∙◌}
use Rattle.std.proofs.lemmas.Bool.{true≢false}
use Rattle.documents.specs.Tests.{every, some, same_word}
use Rattle.documents.specs.Document.{Document, elements, entries, items_of, members_of}
use Rattle.documents.specs.Measures.{at_number, at_string, at_array, at_object, exactly_one, same_document, has_name}
use Rattle.schemas.specs.Entry.{Keywords, Needs, Names, Whole}
use Rattle.schemas.specs.Schema.{meets}
use Rattle.draft06.specs.EntryValidity.{has_type, need_asks, asks_number, asks_string}
use Rattle.shared_documents.specs.Part as P
use Rattle.shared_documents.specs.Unshared.{built}
use Rattle.js_valid.specs.Parts.{no_parts, own_array, own_object, own_keywords}
use Rattle.js_valid.specs.Frame.{any_asks, is_given, frame_asks}

none_given : (e c t a o x n i s r m : Bool) → (e && c) ≡ false
    → (((e && c && t && a && o && x && n) && i) && s && r && m) ≡ false
none_given false c t a o x n i s r m h = refl
none_given true false t a o x n i s r m h = refl
none_given true true t a o x n i s r m h = absurd (true≢false h)

some_given : (e c t a o x n i s r m : Bool) → (e && c) ≡ true
    → (((e && c && t && a && o && x && n) && i) && s && r && m) ≡ (((t && a && o && x && n) && i) && s && r && m)
some_given false c t a o x n i s r m h = absurd (true≢false (sym h))
some_given true false t a o x n i s r m h = absurd (true≢false (sym h))
some_given true true t a o x n i s r m h = refl

module _ (matches : List ℕ → List ℕ → Bool) (here : ℕ → Bool) (k : Keywords) (J : Document) where
  pub own-none : is_given k J ≡ false → own_keywords matches here k J ≡ false
  own-none h =
      none_given (meets (some (λ d. same_document d J)) k.enumeration) (meets (λ d. same_document d J) k.constant)
      (meets (some (has_type J)) k.types) (meets (every here) k.all_of) (meets (some here) k.any_of)
      (meets (exactly_one here) k.one_of) (meets (λ e. not (here e)) k.not)
      (at_number (asks_number matches here no_parts k) J) (at_string (asks_string matches here no_parts k) J)
      (at_array (own_array matches here k) J) (at_object (own_object matches here k) J) h

  pub own-frame : is_given k J ≡ true → own_keywords matches here k J ≡ frame_asks matches here k J
  own-frame h =
      some_given (meets (some (λ d. same_document d J)) k.enumeration) (meets (λ d. same_document d J) k.constant)
      (meets (some (has_type J)) k.types) (meets (every here) k.all_of) (meets (some here) k.any_of)
      (meets (exactly_one here) k.one_of) (meets (λ e. not (here e)) k.not)
      (at_number (asks_number matches here no_parts k) J) (at_string (asks_string matches here no_parts k) J)
      (at_array (own_array matches here k) J) (at_object (own_object matches here k) J) h

-- ---- a part's elements and members don't count

elements-length : (f : ℕ → Document) (is : List ℕ) → length (elements (items_of (map f is))) ≡ length is
elements-length f [] = refl
elements-length f (i ∷ is) = ap suc (elements-length f is)

-- the members of a part, with other values
abbrev valued : (ℕ → Document) → List (List ℕ × ℕ) → List (List ℕ × Document)
valued f ms = entries (members_of (map (λ m. (m.0, f m.1)) ms))

entries-length : (f : ℕ → Document) (ms : List (List ℕ × ℕ)) → length (valued f ms) ≡ length ms
entries-length f [] = refl
entries-length f (m ∷ ms) = ap suc (entries-length f ms)

name-same : (f g : ℕ → Document) (ms : List (List ℕ × ℕ)) (w : List ℕ)
    → has_name w (valued f ms) ≡ has_name w (valued g ms)
name-same f g [] w = refl
name-same f g (m ∷ ms) w = ap (λ b. same_word w m.0 || b) (name-same f g ms w)

every-alike : {A : Type 0} (p q : A → Bool) (xs : List A) → ((x : A) → p x ≡ q x) → every p xs ≡ every q xs
every-alike p q [] h = refl
every-alike p q (x ∷ xs) h = ap₂ (λ a b. a && b) (h x) (every-alike p q xs h)

needs-same : (here : ℕ → Bool) (f g : ℕ → Document) (ms : List (List ℕ × ℕ)) (n : Needs)
    → need_asks here n (valued f ms) ≡ need_asks here n (valued g ms)
needs-same here f g ms (Names ws) =
    every-alike (λ w. has_name w (valued f ms)) (λ w. has_name w (valued g ms)) ws (name-same f g ms)
needs-same here f g ms (Whole e) = refl

meets-alike : {A : Type 0} (p q : A → Bool) (o : Option A) → ((x : A) → p x ≡ q x) → meets p o ≡ meets q o
meets-alike p q None h = refl
meets-alike p q (Some x) h = h x

module _ (matches : List ℕ → List ℕ → Bool) (here : ℕ → Bool) (k : Keywords) where
  object-same : (f g : ℕ → Document) (ms : List (List ℕ × ℕ))
      → own_object matches here k (valued f ms) ≡ own_object matches here k (valued g ms)
  object-same f g ms =
      let size : length (valued f ms) ≡ length (valued g ms) = entries-length f ms ∙ sym (entries-length g ms) in
      ap₂ (λ a b. a && b)
      (ap₂ (λ a b. a && b)
      (ap (λ l. meets (λ n. nat_le l n) k.max_properties && meets (λ n. nat_le n l) k.min_properties) size)
      (meets-alike (every (λ w. has_name w (valued f ms))) (every (λ w. has_name w (valued g ms))) k.required
      (λ ws. every-alike _ _ ws (name-same f g ms))))
      (meets-alike (every (λ n. not (has_name n.0 (valued f ms)) || need_asks here n.1 (valued f ms)))
      (every (λ n. not (has_name n.0 (valued g ms)) || need_asks here n.1 (valued g ms))) k.dependencies
      (λ ns. every-alike _ _ ns (λ n. ap₂ (λ a b. not a || b) (name-same f g ms n.0) (needs-same here f g ms n.1))))

  -- what is required of a part's document is required of any document built of the part
  pub frame-same : (f g : ℕ → Document) (p : P.Part)
      → frame_asks matches here k (built f p) ≡ frame_asks matches here k (built g p)
  frame-same f g P.null = refl
  frame-same f g (P.boolean b) = refl
  frame-same f g (P.number n) = refl
  frame-same f g (P.string s) = refl
  frame-same f g (P.array is) =
      ap (λ l. (((any_asks here k (built g (P.array is)) && true) && true)
      && (meets (λ n. nat_le l n) k.max_items && meets (λ n. nat_le n l) k.min_items)) && true)
      (elements-length f is ∙ sym (elements-length g is))
  frame-same f g (P.object ms) =
      ap (λ b. (((any_asks here k (built g (P.object ms)) && true) && true) && true) && b) (object-same f g ms)
