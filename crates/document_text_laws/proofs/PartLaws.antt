-- Each line of a table's text is that of one part, and each text that of one table.
use Rattle.std.proofs.Common.{◌≡◌, ℕ, suc, ◌+◌, ◌^◌, ◌<◌, ◌≤◌, ℤ, pos, negsuc, List, [], ◌∷◌, ◌++◌, length, map, flat_map, Bool, true, false, nat_lt, refl, sym, ap, ap₂, ◌∙◌, arith, append_assoc}
use Rattle.std.specs.Char.{is_ascii_digit}
use Rattle.std.specs.Fmt.{decimal, signed_decimal}
use Rattle.std.proofs.lemmas.Bool.{and_parts, ltb-true}
use Rattle.documents.specs.Tests.{every, is_scalar}
use Rattle.shared_documents.specs.Part.{Part, null, boolean, number, string, array, object}
use Rattle.document_texts.specs.Scalars.{character_text, string_text, joined}
use Rattle.document_texts.specs.PartsText.{reference_text, named_text, part_text, line_text, lines_text, count_text, parts_text}
use Rattle.document_texts.specs.PartsRead.{is_named, is_member, is_told}
use Rattle.document_text_laws.specs.Reader.{ends}
use Rattle.document_text_laws.proofs.StringLaws.{same-string}
use Rattle.document_text_laws.proofs.NumberLaws.{same-number, no-number}

-- what is written in one way: x, and what comes behind
abbrev pub Same : {A : Type 0} → A → A → List ℕ → List ℕ → Type 0
Same x y r u = (x ≡ y) × (r ≡ u)

-- a writer of elements, each of which begins with the same byte
pub record Writes {A : Type 0} (write : A → List ℕ) (good : A → Bool) (first : ℕ) : Type 0 where
  pub others : A → List ℕ
  pub begins : (x : A) → write x ≡ first ∷ others x
  pub same : (x y : A) (r u : List ℕ) → good x ≡ true → good y ≡ true → ends r ≡ true → ends u ≡ true
      → write x ++ r ≡ write y ++ u → Same x y r u

-- what closes a list
pub record Closes (first close : ℕ) : Type 0 where
  pub comma : 44 ≡ close → ⊥
  pub begins : first ≡ close → ⊥
  pub digit : is_ascii_digit close ≡ false

module _ {A : Type 0} (write : A → List ℕ) (good : A → Bool) (first close : ℕ) (w : Writes write good first)
    (c : Closes first close) where
  abbrev pub more : List A → List ℕ → List ℕ
  more xs r = flat_map (λ y. 44 ∷ y) (map write xs) ++ close ∷ r

  pub ends-more : (xs : List A) (r : List ℕ) → ends (more xs r) ≡ true
  ends-more [] r = rw c.digit refl
  ends-more (x ∷ xs) r = refl

  pub more-next : (x : A) (xs : List A) (r : List ℕ) → more (x ∷ xs) r ≡ 44 ∷ (write x ++ more xs r)
  more-next x xs r = append_assoc (44 ∷ write x) (flat_map (λ y. 44 ∷ y) (map write xs)) (close ∷ r)

  same-more : (xs ys : List A) (r u : List ℕ) → every good xs ≡ true → every good ys ≡ true → more xs r ≡ more ys u
      → Same xs ys r u
  same-more [] [] r u hx hy e = (refl, cc)
  same-more [] (y ∷ ys) r u hx hy e =
      let no : close ∷ r ≡ 44 ∷ (write y ++ more ys u) = e ∙ more-next y ys u in
      let byte : 44 ≡ close = cc in
      absurd (c.comma byte)
  same-more (x ∷ xs) [] r u hx hy e =
      let no : 44 ∷ (write x ++ more xs r) ≡ close ∷ u = sym (more-next x xs r) ∙ e in
      let byte : 44 ≡ close = cc in
      absurd (c.comma byte)
  same-more (x ∷ xs) (y ∷ ys) r u hx hy e =
      let gx = and_parts (good x) (every good xs) hx in
      let gy = and_parts (good y) (every good ys) hy in
      let both : 44 ∷ (write x ++ more xs r) ≡ 44 ∷ (write y ++ more ys u) =
      sym (more-next x xs r) ∙ e ∙ more-next y ys u in
      let behind : write x ++ more xs r ≡ write y ++ more ys u = cc in
      let one = w.same x y (more xs r) (more ys u) gx.0 gy.0 (ends-more xs r) (ends-more ys u) behind in
      let others = same-more xs ys r u gx.1 gy.1 one.1 in
      (ap₂ (λ z zs. z ∷ zs) one.0 others.0, others.1)

  abbrev pub list : List A → List ℕ → List ℕ
  list xs r = joined (map write xs) ++ close ∷ r

  pub list-next : (x : A) (xs : List A) (r : List ℕ) → list (x ∷ xs) r ≡ write x ++ more xs r
  list-next x xs r = append_assoc (write x) (flat_map (λ y. 44 ∷ y) (map write xs)) (close ∷ r)

  begins-list : (x : A) (xs : List A) (r : List ℕ) → list (x ∷ xs) r ≡ first ∷ (w.others x ++ more xs r)
  begins-list x xs r = list-next x xs r ∙ ap (λ zs. zs ++ more xs r) (w.begins x)

  pub same-list : (xs ys : List A) (r u : List ℕ) → every good xs ≡ true → every good ys ≡ true
      → list xs r ≡ list ys u → Same xs ys r u
  same-list [] [] r u hx hy e = (refl, cc)
  same-list [] (y ∷ ys) r u hx hy e =
      let no : close ∷ r ≡ first ∷ (w.others y ++ more ys u) = e ∙ begins-list y ys u in
      let byte : first ≡ close = cc in
      absurd (c.begins byte)
  same-list (x ∷ xs) [] r u hx hy e =
      let no : first ∷ (w.others x ++ more xs r) ≡ close ∷ u = sym (begins-list x xs r) ∙ e in
      let byte : first ≡ close = cc in
      absurd (c.begins byte)
  same-list (x ∷ xs) (y ∷ ys) r u hx hy e =
      let gx = and_parts (good x) (every good xs) hx in
      let gy = and_parts (good y) (every good ys) hy in
      let one = w.same x y (more xs r) (more ys u) gx.0 gy.0 (ends-more xs r) (ends-more ys u)
      (sym (list-next x xs r) ∙ e ∙ list-next y ys u) in
      let others = same-more xs ys r u gx.1 gy.1 one.1 in
      (ap₂ (λ z zs. z ∷ zs) one.0 others.0, others.1)

-- ---- numbers of parts, and members

small : (i : ℕ) → is_named i ≡ true → i < 10 ^ 64
small i h = omega (arith, ltb-true i 4294967296 h)

pub references : Writes reference_text is_named 35
references = record {
  others = decimal;
  begins = λ i. refl;
  same = λ i j r u hi hj er eu e.
      let digits : decimal i ++ r ≡ decimal j ++ u = cc in
      same-number i j r u (small i hi) (small j hj) er eu digits;
}

same-member : (m n : List ℕ × ℕ) (r u : List ℕ) → is_member m ≡ true → is_member n ≡ true → ends r ≡ true
    → ends u ≡ true → named_text m ++ r ≡ named_text n ++ u → Same m n r u
same-member m n r u hm hn er eu e =
    let gm = and_parts (every is_scalar m.0) (is_named m.1) hm in
    let gn = and_parts (every is_scalar n.0) (is_named n.1) hn in
    let name = same-string m.0 n.0 (58 ∷ 35 ∷ decimal m.1 ++ r) (58 ∷ 35 ∷ decimal n.1 ++ u) gm.0 gn.0
    (sym (append_assoc (string_text m.0) (58 ∷ reference_text m.1) r) ∙ e
    ∙ append_assoc (string_text n.0) (58 ∷ reference_text n.1) u) in
    let digits : decimal m.1 ++ r ≡ decimal n.1 ++ u = ap (λ xs. behind_two xs) name.1 in
    let number = same-number m.1 n.1 r u (small m.1 gm.1) (small n.1 gn.1) er eu digits in
    (ap₂ (λ k i. (k, i)) name.0 number.0, number.1)
  where
    behind_two : List ℕ → List ℕ
    behind_two [] = []
    behind_two (x ∷ []) = []
    behind_two (x ∷ y ∷ xs) = xs

pub members : Writes named_text is_member 34
members = record {
  others = λ m. flat_map character_text m.0 ++ 34 ∷ [] ++ 58 ∷ reference_text m.1;
  begins = λ m. refl;
  same = same-member;
}

pub array_end : Closes 35 93
array_end = record { comma = λ e. omega (arith, e); begins = λ e. omega (arith, e); digit = refl }

pub object_end : Closes 34 125
object_end = record { comma = λ e. omega (arith, e); begins = λ e. omega (arith, e); digit = refl }

-- ---- parts

wide : (n : ℕ) → nat_lt n 170141183460469231731687303715884105728 ≡ true → n < 10 ^ 64
wide n h = omega (arith, ltb-true n 170141183460469231731687303715884105728 h)

wide-suc : (n : ℕ) → nat_lt n 170141183460469231731687303715884105728 ≡ true → suc n < 10 ^ 64
wide-suc n h = omega (arith, ltb-true n 170141183460469231731687303715884105728 h)

-- no number's text begins with a byte that is neither a digit nor the sign
no-signed : (z : ℤ) (c : ℕ) (r u : List ℕ) → is_told (number z) ≡ true → is_ascii_digit c ≡ false → (45 ≡ c → ⊥)
    → signed_decimal z ++ r ≡ c ∷ u → ⊥
no-signed (pos n) c r u h d s e = no-number n c r u (wide n h) d e
no-signed (negsuc n) c r u h d s e = let byte : 45 ≡ c = cc in s byte

same-signed : (y z : ℤ) (r u : List ℕ) → is_told (number y) ≡ true → is_told (number z) ≡ true → ends r ≡ true
    → ends u ≡ true → signed_decimal y ++ r ≡ signed_decimal z ++ u → Same y z r u
same-signed (pos m) (pos n) r u hy hz er eu e =
    let both = same-number m n r u (wide m hy) (wide n hz) er eu e in (ap pos both.0, both.1)
same-signed (pos m) (negsuc n) r u hy hz er eu e = absurd (no-number m 45 r _ (wide m hy) refl e)
same-signed (negsuc m) (pos n) r u hy hz er eu e = absurd (no-number n 45 u _ (wide n hz) refl (sym e))
same-signed (negsuc m) (negsuc n) r u hy hz er eu e =
    let digits : decimal (suc m) ++ r ≡ decimal (suc n) ++ u = cc in
    let both = same-number (suc m) (suc n) r u (wide-suc m hy) (wide-suc n hz) er eu digits in
    let same : m ≡ n = omega (arith, both.0) in
    (ap negsuc same, both.1)

-- a part, and a line feed behind it
abbrev ended : Part → List ℕ → List ℕ
ended p r = part_text p ++ 10 ∷ r

array-ended : (is : List ℕ) (r : List ℕ) → ended (array is) r
    ≡ 91 ∷ list reference_text is_named 35 93 references array_end is (10 ∷ r)
array-ended is r = ap (λ xs. 91 ∷ xs) (append_assoc (joined (map reference_text is)) (93 ∷ []) (10 ∷ r))

object-ended : (ms : List (List ℕ × ℕ)) (r : List ℕ)
    → ended (object ms) r ≡ 123 ∷ list named_text is_member 34 125 members object_end ms (10 ∷ r)
object-ended ms r = ap (λ xs. 123 ∷ xs) (append_assoc (joined (map named_text ms)) (125 ∷ []) (10 ∷ r))

abbrev tail_of : List ℕ → List ℕ
tail_of [] = []
tail_of (x ∷ xs) = xs

abbrev first_of : List ℕ → ℕ
first_of [] = 0
first_of (x ∷ xs) = x

-- texts that begin with different bytes
apart : (a b : ℕ) (xs ys : List ℕ) → (a ≡ b → ⊥) → a ∷ xs ≡ b ∷ ys → ⊥
apart a b xs ys ne e = ne (ap first_of e)

same-truth : (b c : Bool) (r u : List ℕ) → ended (boolean b) r ≡ ended (boolean c) u → Same (boolean b) (boolean c) r u
same-truth true true r u e = (refl, ap (λ xs. tail_of (tail_of (tail_of (tail_of (tail_of xs))))) e)
same-truth true false r u e = absurd (apart 116 102 _ _ (λ s. omega (arith, s)) e)
same-truth false true r u e = absurd (apart 102 116 _ _ (λ s. omega (arith, s)) e)
same-truth false false r u e = (refl, ap (λ xs. tail_of (tail_of (tail_of (tail_of (tail_of (tail_of xs)))))) e)

no-truth : (b : Bool) (c : ℕ) (r u : List ℕ) → (116 ≡ c → ⊥) → (102 ≡ c → ⊥) → ended (boolean b) r ≡ c ∷ u → ⊥
no-truth true c r u t f e = let byte : 116 ≡ c = cc in t byte
no-truth false c r u t f e = let byte : 102 ≡ c = cc in f byte

number-truth : (z : ℤ) (b : Bool) (r u : List ℕ) → is_told (number z) ≡ true
    → ended (number z) r ≡ ended (boolean b) u → ⊥
number-truth z true r u h e = no-signed z 116 (10 ∷ r) _ h refl (λ s. omega (arith, s)) e
number-truth z false r u h e = no-signed z 102 (10 ∷ r) _ h refl (λ s. omega (arith, s)) e

below : {A : Type 0} (x y : A) (r u : List ℕ) (f : A → Part) → Same x y (10 ∷ r) (10 ∷ u) → Same (f x) (f y) r u
below x y r u f both = (ap f both.0, ap tail_of both.1)

pub same-part : (p q : Part) (r u : List ℕ) → is_told p ≡ true → is_told q ≡ true → ended p r ≡ ended q u
    → Same p q r u
same-part null null r u hp hq e = (refl, ap (λ xs. tail_of (tail_of (tail_of (tail_of (tail_of xs))))) e)
same-part null (boolean b) r u hp hq e =
    absurd (no-truth b 110 u _ (λ s. omega (arith, s)) (λ s. omega (arith, s)) (sym e))
same-part null (number z) r u hp hq e = absurd (no-signed z 110 (10 ∷ u) _ hq refl (λ s. omega (arith, s)) (sym e))
same-part null (string t) r u hp hq e =
    absurd (apart 110 34 _ _ (λ s. omega (arith, s)) e)
same-part null (array js) r u hp hq e =
    absurd (apart 110 91 _ _ (λ s. omega (arith, s)) e)
same-part null (object ns) r u hp hq e =
    absurd (apart 110 123 _ _ (λ s. omega (arith, s)) e)
same-part (boolean b) null r u hp hq e =
    absurd (no-truth b 110 r _ (λ s. omega (arith, s)) (λ s. omega (arith, s)) e)
same-part (boolean b) (boolean c) r u hp hq e = same-truth b c r u e
same-part (boolean b) (number z) r u hp hq e = absurd (number-truth z b u r hq (sym e))
same-part (boolean b) (string t) r u hp hq e =
    absurd (no-truth b 34 r _ (λ s. omega (arith, s)) (λ s. omega (arith, s)) e)
same-part (boolean b) (array js) r u hp hq e =
    absurd (no-truth b 91 r _ (λ s. omega (arith, s)) (λ s. omega (arith, s)) e)
same-part (boolean b) (object ns) r u hp hq e =
    absurd (no-truth b 123 r _ (λ s. omega (arith, s)) (λ s. omega (arith, s)) e)
same-part (number y) null r u hp hq e = absurd (no-signed y 110 (10 ∷ r) _ hp refl (λ s. omega (arith, s)) e)
same-part (number y) (boolean c) r u hp hq e = absurd (number-truth y c r u hp e)
same-part (number y) (number z) r u hp hq e =
    below y z r u number (same-signed y z (10 ∷ r) (10 ∷ u) hp hq refl refl e)
same-part (number y) (string t) r u hp hq e = absurd (no-signed y 34 (10 ∷ r) _ hp refl (λ s. omega (arith, s)) e)
same-part (number y) (array js) r u hp hq e = absurd (no-signed y 91 (10 ∷ r) _ hp refl (λ s. omega (arith, s)) e)
same-part (number y) (object ns) r u hp hq e = absurd (no-signed y 123 (10 ∷ r) _ hp refl (λ s. omega (arith, s)) e)
same-part (string s) null r u hp hq e =
    absurd (apart 34 110 _ _ (λ s. omega (arith, s)) e)
same-part (string s) (boolean c) r u hp hq e =
    absurd (no-truth c 34 u _ (λ s. omega (arith, s)) (λ s. omega (arith, s)) (sym e))
same-part (string s) (number z) r u hp hq e =
    absurd (no-signed z 34 (10 ∷ u) _ hq refl (λ s. omega (arith, s)) (sym e))
same-part (string s) (string t) r u hp hq e =
    below s t r u string (same-string s t (10 ∷ r) (10 ∷ u) hp hq e)
same-part (string s) (array js) r u hp hq e =
    absurd (apart 34 91 _ _ (λ s. omega (arith, s)) e)
same-part (string s) (object ns) r u hp hq e =
    absurd (apart 34 123 _ _ (λ s. omega (arith, s)) e)
same-part (array is) null r u hp hq e =
    absurd (apart 91 110 _ _ (λ s. omega (arith, s)) e)
same-part (array is) (boolean c) r u hp hq e =
    absurd (no-truth c 91 u _ (λ s. omega (arith, s)) (λ s. omega (arith, s)) (sym e))
same-part (array is) (number z) r u hp hq e =
    absurd (no-signed z 91 (10 ∷ u) _ hq refl (λ s. omega (arith, s)) (sym e))
same-part (array is) (string t) r u hp hq e =
    absurd (apart 91 34 _ _ (λ s. omega (arith, s)) e)
same-part (array is) (array js) r u hp hq e =
    below is js r u array
    (same-list reference_text is_named 35 93 references array_end is js (10 ∷ r) (10 ∷ u) hp hq
    (ap tail_of (sym (array-ended is r) ∙ e ∙ array-ended js u)))
same-part (array is) (object ns) r u hp hq e =
    absurd (apart 91 123 _ _ (λ s. omega (arith, s)) e)
same-part (object ms) null r u hp hq e =
    absurd (apart 123 110 _ _ (λ s. omega (arith, s)) e)
same-part (object ms) (boolean c) r u hp hq e =
    absurd (no-truth c 123 u _ (λ s. omega (arith, s)) (λ s. omega (arith, s)) (sym e))
same-part (object ms) (number z) r u hp hq e =
    absurd (no-signed z 123 (10 ∷ u) _ hq refl (λ s. omega (arith, s)) (sym e))
same-part (object ms) (string t) r u hp hq e =
    absurd (apart 123 34 _ _ (λ s. omega (arith, s)) e)
same-part (object ms) (array js) r u hp hq e =
    absurd (apart 123 91 _ _ (λ s. omega (arith, s)) e)
same-part (object ms) (object ns) r u hp hq e =
    below ms ns r u object
    (same-list named_text is_member 34 125 members object_end ms ns (10 ∷ r) (10 ∷ u) hp hq
    (ap tail_of (sym (object-ended ms r) ∙ e ∙ object-ended ns u)))

-- ---- lines

line-ended : (i : ℕ) (p : Part) (r : List ℕ) → line_text i p ++ r ≡ decimal i ++ 32 ∷ ended p r
line-ended i p r =
    append_assoc (decimal i ++ 32 ∷ part_text p) (10 ∷ []) r ∙ append_assoc (decimal i) (32 ∷ part_text p) (10 ∷ r)

-- two lines of parts that begin one text are of the same number and part, and the same comes behind them
pub same-line : (i j : ℕ) (p q : Part) (r u : List ℕ) → is_named i ≡ true → is_named j ≡ true → is_told p ≡ true
    → is_told q ≡ true → line_text i p ++ r ≡ line_text j q ++ u → (i ≡ j) × Same p q r u
same-line i j p q r u hi hj hp hq e =
    let number = same-number i j (32 ∷ ended p r) (32 ∷ ended q u) (small i hi) (small j hj) refl refl
    (sym (line-ended i p r) ∙ e ∙ line-ended j q u) in
    (number.0, same-part p q r u hp hq (ap tail_of number.1))

-- ---- tables

named-below : (i n : ℕ) → i + n ≤ 4294967296 → 0 < n → is_named i ≡ true
named-below i n l s = grind (arith, l, s)

same-lines : (i : ℕ) (ps qs : List Part) (r u : List ℕ) → i + length ps ≤ 4294967296 → length ps ≡ length qs
    → every is_told ps ≡ true → every is_told qs ≡ true → lines_text i ps ++ r ≡ lines_text i qs ++ u → ps ≡ qs
same-lines i [] [] r u l size hp hq e = refl
same-lines i [] (q ∷ qs) r u l size hp hq e = absurd (omega (arith, size))
same-lines i (p ∷ ps) [] r u l size hp hq e = absurd (omega (arith, size))
same-lines i (p ∷ ps) (q ∷ qs) r u l size hp hq e =
    let gp = and_parts (is_told p) (every is_told ps) hp in
    let gq = and_parts (is_told q) (every is_told qs) hq in
    let small = named-below i (length (p ∷ ps)) l (omega arith) in
    let one = same-line i i p q (lines_text (suc i) ps ++ r) (lines_text (suc i) qs ++ u) small small gp.0 gq.0
    (sym (append_assoc (line_text i p) (lines_text (suc i) ps) r) ∙ e
    ∙ append_assoc (line_text i q) (lines_text (suc i) qs) u) in
    ap₂ (λ x xs. x ∷ xs) one.1.0
    (same-lines (suc i) ps qs r u (omega (arith, l)) (omega (arith, size)) gp.1 gq.1 one.1.1)

abbrev behind_word : List ℕ → List ℕ
behind_word xs = tail_of (tail_of (tail_of (tail_of (tail_of (tail_of xs)))))

-- a count and what comes behind it
counted : (n : ℕ) (r : List ℕ) → behind_word (count_text n ++ r) ≡ decimal n ++ 10 ∷ r
counted n r = append_assoc (decimal n) (10 ∷ []) r

-- two lines of counts that begin one text count the same, and the same comes behind them
pub same-count : (m n : ℕ) (r u : List ℕ) → m ≤ 4294967295 → n ≤ 4294967295 → count_text m ++ r ≡ count_text n ++ u
    → Same m n r u
same-count m n r u lm ln e =
    let count = same-number m n (10 ∷ r) (10 ∷ u) (omega (arith, lm)) (omega (arith, ln)) refl refl
    (sym (counted m r) ∙ ap behind_word e ∙ counted n u) in
    (count.0, ap tail_of count.1)

-- tables with the same text are the same
pub same-table : (ps qs : List Part) → length ps ≤ 4294967295 → length qs ≤ 4294967295 → every is_told ps ≡ true
    → every is_told qs ≡ true → parts_text ps ≡ parts_text qs → ps ≡ qs
same-table ps qs lp lq hp hq e =
    let count = same-count (length ps) (length qs) (lines_text 0 ps) (lines_text 0 qs) lp lq e in
    same-lines 0 ps qs [] [] (omega (arith, lp)) count.0 hp hq (ap (λ xs. xs ++ []) count.1)
