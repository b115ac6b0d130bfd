-- Lists that are read element by element, up to what closes them.
use Rattle.std.proofs.Common.{◌≡◌, ◌⊎◌, inl, inr, ℕ, List, [], ◌∷◌, ◌++◌, map, flat_map, Bool, true, false, Some, None, refl, sym, ap, ◌∙◌, append_assoc, append-nil}
use Rattle.std.proofs.lemmas.Bool.{eq-eqb, ne_eqb, and_parts, true≢false}
use Rattle.documents.specs.Tests.{every}
use Rattle.document_texts.specs.Scalars.{joined}
use Rattle.document_text_laws.specs.Reader.{behind_comma, ends_list}
use Rattle.document_text_laws.proofs.PartLaws.{Writes, Closes, more, ends-more, list-next, more-next}
use Rattle.js_text.specs.Reads.{Reads}
use Rattle.std.proofs.lemmas.Option.{none-some, same_Some}

-- the elements that are still to come, where these were read
pub record Left {A : Type 0} (write : A → List ℕ) (good : A → Bool) (close : ℕ) (done xs : List A)
    (rest left : List ℕ) : Type 0 where
  pub others : List A
  pub is : xs ≡ done ++ others
  pub fine : every good others ≡ true
  pub text : (left ≡ joined (map write others) ++ close ∷ rest)
      ⊎ (left ≡ flat_map (λ y. 44 ∷ y) (map write others) ++ close ∷ rest)

abbrev pub Listing : {A : Type 0} → (A → List ℕ) → (A → Bool) → ℕ → List A → (text left : List ℕ) → Type 0
Listing {A} write good close done text left =
    (xs : List A) (rest : List ℕ) → every good xs ≡ true → text ≡ joined (map write xs) ++ close ∷ rest
    → Left write good close done xs rest left

module _ {A : Type 0} (write : A → List ℕ) (good : A → Bool) (first close : ℕ) (w : Writes write good first)
    (c : Closes first close) (mark : first ≡ 44 → ⊥) where
  behind-first-comma : (zs : List ℕ) → behind_comma (first ∷ zs) ≡ first ∷ zs
  behind-first-comma zs = rw (ne_eqb first 44 mark) refl

  comes : (x : A) (xs : List A) (rest left : List ℕ)
      → (left ≡ joined (map write (x ∷ xs)) ++ close ∷ rest)
      ⊎ (left ≡ flat_map (λ y. 44 ∷ y) (map write (x ∷ xs)) ++ close ∷ rest)
      → behind_comma left ≡ write x ++ more write good first close w c xs rest
  comes x xs rest left (inl e) =
      let tail = more write good first close w c xs rest in
      let text : left ≡ write x ++ tail = e ∙ list-next write good first close w c x xs rest in
      let begun : write x ++ tail ≡ first ∷ (w.others x ++ tail) = ap (λ zs. zs ++ tail) (w.begins x) in
      ap behind_comma (text ∙ begun) ∙ behind-first-comma (w.others x ++ tail) ∙ sym begun
  comes x xs rest left (inr e) = ap behind_comma (e ∙ more-next write good first close w c x xs rest)

  closed : (rest : List ℕ) → ends_list close (close ∷ rest) ≡ true
  closed rest = eq-eqb close close refl

  open_list : (x : A) (xs : List A) (rest left : List ℕ)
      → (left ≡ joined (map write (x ∷ xs)) ++ close ∷ rest)
      ⊎ (left ≡ flat_map (λ y. 44 ∷ y) (map write (x ∷ xs)) ++ close ∷ rest)
      → ends_list close left ≡ false
  open_list x xs rest left (inl e) =
      let tail = more write good first close w c xs rest in
      let begun : left ≡ first ∷ (w.others x ++ tail) =
      e ∙ list-next write good first close w c x xs rest ∙ ap (λ zs. zs ++ tail) (w.begins x) in
      ap (ends_list close) begun ∙ ne_eqb first close c.begins
  open_list x xs rest left (inr e) =
      ap (ends_list close) (e ∙ more-next write good first close w c x xs rest) ∙ ne_eqb 44 close c.comma

  -- one more element that is read is the next one of each list that has the text
  pub listing-step : (done : List A) (x : A) (text left behind after : List ℕ)
      → Listing write good close done text left → ends_list close left ≡ false → behind ≡ behind_comma left
      → Reads write good behind (Some (x, after)) → Listing write good close (done ++ x ∷ []) text after
  listing-step done x text left behind after l goes cut read xs rest h e = go (l xs rest h e) where
    go : Left write good close done xs rest left → Left write good close (done ++ x ∷ []) xs rest after
    go k = step k.others k.is k.fine k.text where
      step : (others : List A) → xs ≡ done ++ others → every good others ≡ true
          → (left ≡ joined (map write others) ++ close ∷ rest)
          ⊎ (left ≡ flat_map (λ y. 44 ∷ y) (map write others) ++ close ∷ rest)
          → Left write good close (done ++ x ∷ []) xs rest after
      step [] same fine (inl t) = absurd (true≢false (sym (closed rest) ∙ ap (ends_list close) (sym t) ∙ goes))
      step [] same fine (inr t) = absurd (true≢false (sym (closed rest) ∙ ap (ends_list close) (sym t) ∙ goes))
      step (y ∷ ys) same fine t =
          let both = and_parts (good y) (every good ys) fine in
          let tail = more write good first close w c ys rest in
          let pair = same_Some {A = A × List ℕ} (x, after) (y, tail)
          (read y tail both.0 (ends-more write good first close w c ys rest) (cut ∙ comes y ys rest left t)) in
          record {
            others = ys;
            is = same ∙ ap (λ z. done ++ z ∷ ys) (sym (ap (λ p. p.0) pair)) ∙ sym (append_assoc done (x ∷ []) ys);
            fine = both.1;
            text = inr (ap (λ p. p.1) pair);
          }

  pub listing-stuck : (done : List A) (text left behind : List ℕ) → Listing write good close done text left
      → ends_list close left ≡ false → behind ≡ behind_comma left → Reads write good behind None
      → (xs : List A) (rest : List ℕ) → every good xs ≡ true → text ≡ joined (map write xs) ++ close ∷ rest → ⊥
  listing-stuck done text left behind l goes cut read xs rest h e = go (l xs rest h e) where
    go : Left write good close done xs rest left → ⊥
    go k = step k.others k.fine k.text where
      step : (others : List A) → every good others ≡ true
          → (left ≡ joined (map write others) ++ close ∷ rest)
          ⊎ (left ≡ flat_map (λ y. 44 ∷ y) (map write others) ++ close ∷ rest) → ⊥
      step [] fine (inl t) = true≢false (sym (closed rest) ∙ ap (ends_list close) (sym t) ∙ goes)
      step [] fine (inr t) = true≢false (sym (closed rest) ∙ ap (ends_list close) (sym t) ∙ goes)
      step (y ∷ ys) fine t =
          let both = and_parts (good y) (every good ys) fine in
          let tail = more write good first close w c ys rest in
          let some = read y tail both.0 (ends-more write good first close w c ys rest)
          (cut ∙ comes y ys rest left t) in
          none-some (y, tail) some

  -- where what is left closes the list, the elements that were read are all of it
  pub listing-end : (done : List A) (text left : List ℕ) → Listing write good close done text left
      → ends_list close left ≡ true → (xs : List A) (rest : List ℕ) → every good xs ≡ true
      → text ≡ joined (map write xs) ++ close ∷ rest → done ≡ xs
  listing-end done text left l ends xs rest h e = go (l xs rest h e) where
    go : Left write good close done xs rest left → done ≡ xs
    go k = step k.others k.is k.text where
      step : (others : List A) → xs ≡ done ++ others
          → (left ≡ joined (map write others) ++ close ∷ rest)
          ⊎ (left ≡ flat_map (λ y. 44 ∷ y) (map write others) ++ close ∷ rest) → done ≡ xs
      step [] same t = sym (same ∙ append-nil done)
      step (y ∷ ys) same t = absurd (true≢false (sym ends ∙ open_list y ys rest left t))
