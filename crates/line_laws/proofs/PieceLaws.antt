-- What the pieces of a text are: joined they are the text, and lines or listed words are the pieces of theirs.
use Rattle.std.proofs.Common.{◌≡◌, ℕ, ◌+◌, ◌-◌, ◌<◌, ◌≤◌, Bool, true, false, ◌&&◌, not, cond, nat_eq, List, [], ◌∷◌, ◌++◌, flat_map, map, length, take, drop, get_or, Option, Some, None, MatchOption, option_map, Bor, refl, ap, sym, ◌∙◌, append_assoc, eq-eqb}
use Rattle.std.specs.List.{between}
use Rattle.std.specs.Cmp.Lexicographic.{pointwise}
use Rattle.std.proofs.lemmas.List.{append-nil, map-append, drop_more, take_more, length-drop}
use Rattle.std.proofs.Math.Seq.{take-length}
use Rattle.std.proofs.lemmas.List.Edits.{between_more, between_none}
use Rattle.std.proofs.lemmas.Bool.{eqb-true, true≢false, and_parts, and_from, not-true, ne_eqb}
use Rattle.documents.specs.Tests.{every}
use Rattle.list_laws.proofs.Elements.{every-append}
use Rattle.certificate_lines.specs.Pieces.{pieces, pieces_on, split_at, split_on, after_word}
use Rattle.list_laws.proofs.Numbers.{nat_eq-refl}

-- reading on

cond-true : {A : Type 0} (b : Bool) (x y : A) → b ≡ true → cond b x y ≡ x
cond-true true x y e = refl
cond-true false x y e = absurd (true≢false (sym e))

cond-false : {A : Type 0} (b : Bool) (x y : A) → b ≡ false → cond b x y ≡ y
cond-false true x y e = absurd (true≢false e)
cond-false false x y e = refl

-- at the byte a piece ends
pub pieces-cut : (b : ℕ) (xs : List ℕ) (s i : ℕ) → i < length xs → nat_eq (get_or xs i 0) b ≡ true
    → pieces_on b (between s i xs) (drop i xs)
    ≡ between s i xs ∷ pieces_on b (between (i + 1) (i + 1) xs) (drop (i + 1) xs)
pieces-cut b xs s i l e =
    ap (pieces_on b (between s i xs)) (drop_more xs i 0 l) ∙ cond-true _ _ _ e
    ∙ ap (λ w. between s i xs ∷ pieces_on b w (drop (i + 1) xs)) (sym (between_none xs (i + 1)))

-- any other byte is a part of the piece
pub pieces-grown : (b : ℕ) (xs : List ℕ) (s i : ℕ) → s ≤ i → i < length xs → nat_eq (get_or xs i 0) b ≡ false
    → pieces_on b (between s i xs) (drop i xs) ≡ pieces_on b (between s (i + 1) xs) (drop (i + 1) xs)
pieces-grown b xs s i m l e =
    ap (pieces_on b (between s i xs)) (drop_more xs i 0 l) ∙ cond-false _ _ _ e
    ∙ ap (λ w. pieces_on b w (drop (i + 1) xs)) (sym (between_more xs s i 0 m l))

-- joined

abbrev pub joined : ℕ → List (List ℕ) → List ℕ
joined b [] = []
joined b (p ∷ ps) = p ++ flat_map (λ q. b ∷ q) ps

headed-joined : (b : ℕ) (w xs : List ℕ)
    → flat_map (λ q. b ∷ q) (pieces_on b w xs) ≡ b ∷ joined b (pieces_on b w xs)
headed-joined b w [] = refl
headed-joined b w (x ∷ xs) = go (headed-joined b (w ++ x ∷ []) xs) (nat_eq x b) where
  go : flat_map (λ q. b ∷ q) (pieces_on b (w ++ x ∷ []) xs) ≡ b ∷ joined b (pieces_on b (w ++ x ∷ []) xs)
      → (t : Bool) → flat_map (λ q. b ∷ q) (cond t (w ∷ pieces_on b [] xs) (pieces_on b (w ++ x ∷ []) xs))
      ≡ b ∷ joined b (cond t (w ∷ pieces_on b [] xs) (pieces_on b (w ++ x ∷ []) xs))
  go next true = refl
  go next false = next

pub joined-pieces : (b : ℕ) (w xs : List ℕ) → joined b (pieces_on b w xs) ≡ w ++ xs
joined-pieces b w [] = refl
joined-pieces b w (x ∷ xs) = go (joined-pieces b [] xs) (joined-pieces b (w ++ x ∷ []) xs) (nat_eq x b) refl where
  go : joined b (pieces_on b [] xs) ≡ xs → joined b (pieces_on b (w ++ x ∷ []) xs) ≡ (w ++ x ∷ []) ++ xs
      → (t : Bool) → nat_eq x b ≡ t
      → joined b (cond t (w ∷ pieces_on b [] xs) (pieces_on b (w ++ x ∷ []) xs)) ≡ w ++ x ∷ xs
  go cut grown true e =
      ap (λ ys. w ++ ys) (headed-joined b [] xs ∙ ap (λ ys. b ∷ ys) cut
      ∙ ap (λ c. c ∷ xs) (sym (eqb-true x b e)))
  go cut grown false e = grown ∙ append_assoc w (x ∷ []) xs

ended : (b : ℕ) (ps : List (List ℕ))
    → flat_map (λ q. b ∷ q) (ps ++ [] ∷ []) ≡ b ∷ flat_map (λ p. p ++ b ∷ []) ps
ended b [] = refl
ended b (p ∷ ps) =
    ap (λ ys. b ∷ (p ++ ys)) (ended b ps)
    ∙ ap (λ ys. b ∷ ys) (sym (append_assoc p (b ∷ []) (flat_map (λ p. p ++ b ∷ []) ps)))

-- pieces after an empty first one each begin with the byte
pub pieces-begun : (b : ℕ) (xs : List ℕ) (ps : List (List ℕ)) → pieces b xs ≡ [] ∷ ps
    → flat_map (λ p. b ∷ p) ps ≡ xs
pieces-begun b xs ps e = ap (joined b) (sym e) ∙ joined-pieces b [] xs

-- cut again

-- the byte isn't in the text
abbrev pub lacks : ℕ → List ℕ → Bool
lacks b xs = every (λ c. not (nat_eq c b)) xs

pub cut-word : (b : ℕ) (w v rest : List ℕ) → lacks b v ≡ true
    → pieces_on b w (v ++ rest) ≡ pieces_on b (w ++ v) rest
cut-word b w [] rest h = ap (λ u. pieces_on b u rest) (sym (append-nil w))
cut-word b w (c ∷ v) rest h =
    cond-false (nat_eq c b) _ _ (not-true _ (and_parts (not (nat_eq c b)) (lacks b v) h).0)
    ∙ cut-word b (w ++ c ∷ []) v rest (and_parts (not (nat_eq c b)) (lacks b v) h).1
    ∙ ap (λ u. pieces_on b u rest) (append_assoc w (c ∷ []) v)

begun_on : (b : ℕ) (w : List ℕ) (ps : List (List ℕ)) → every (lacks b) ps ≡ true
    → pieces_on b w (flat_map (λ p. b ∷ p) ps) ≡ w ∷ ps
begun_on b w [] h = refl
begun_on b w (p ∷ ps) h =
    cond-true (nat_eq b b) _ _ (nat_eq-refl b)
    ∙ ap (λ qs. w ∷ qs) (cut-word b [] p (flat_map (λ p. b ∷ p) ps) (and_parts (lacks b p) (every (lacks b) ps) h).0
    ∙ begun_on b p ps (and_parts (lacks b p) (every (lacks b) ps) h).1)

pub pieces-of_begun : (b : ℕ) (ps : List (List ℕ)) → every (lacks b) ps ≡ true
    → pieces b (flat_map (λ p. b ∷ p) ps) ≡ [] ∷ ps
pieces-of_begun b ps h = begun_on b [] ps h

-- what follows a word

-- the word and what follows it are the text
pub after_word-text : (w xs r : List ℕ) → after_word w xs ≡ Some r → w ++ r ≡ xs
after_word-text [] xs r e = sym (cc)
after_word-text (c ∷ w) [] r e = cc
after_word-text (c ∷ w) (x ∷ xs) r e = go (after_word-text w xs r) (nat_eq x c) refl e where
  go : (after_word w xs ≡ Some r → w ++ r ≡ xs) → (t : Bool) → nat_eq x c ≡ t → cond t (after_word w xs) None ≡ Some r
      → (c ∷ w) ++ r ≡ x ∷ xs
  go next true s f = ap (λ ys. c ∷ ys) (next f) ∙ ap (λ d. d ∷ xs) (sym (eqb-true x c s))
  go next false s f = cc

-- a front that is the word
after_word-same : (w xs : List ℕ) → pointwise nat_eq (take (length w) xs) w ≡ true
    → Some (drop (length w) xs) ≡ after_word w xs
after_word-same [] xs h = refl
after_word-same (c ∷ w) [] h = absurd (true≢false (sym h))
after_word-same (c ∷ w) (x ∷ xs) h =
    let (s, t) = and_parts (nat_eq x c) (pointwise nat_eq (take (length w) xs) w) h in
    after_word-same w xs t ∙ sym (cond-true (nat_eq x c) (after_word w xs) None s)

-- a front that is another
after_word-other : (w xs : List ℕ) → pointwise nat_eq (take (length w) xs) w ≡ false → None ≡ after_word w xs
after_word-other [] xs h = absurd (true≢false h)
after_word-other (c ∷ w) [] h = refl
after_word-other (c ∷ w) (x ∷ xs) h = go (after_word-other w xs) (nat_eq x c) h where
  go : (pointwise nat_eq (take (length w) xs) w ≡ false → None ≡ after_word w xs) → (t : Bool)
      → (t && pointwise nat_eq (take (length w) xs) w) ≡ false
      → None ≡ cond t (after_word w xs) None
  go next true f = next f
  go next false f = refl

pub after_word-says : (w xs : List ℕ) (o : Option (Bor (List ℕ))) → MatchOption o
    (pointwise nat_eq (take (length w) xs) w ≡ false)
    (λ r. (pointwise nat_eq (take (length w) xs) w ≡ true) × (r.now ≡ drop (length w) xs)
    × (length r.now + length w ≡ length xs))
    → option_map (λ r. r.now) o ≡ after_word w xs
after_word-says w xs None h = after_word-other w xs h
after_word-says w xs (Some r) h = ap Some h.1 ∙ after_word-same w xs h.0

-- the pieces so far, and one more

pub cut-preserved : (b : ℕ) (xs : List ℕ) (s i t : ℕ) (found more : List (Bor (List ℕ))) (x : Bor (List ℕ))
    (all : List (List ℕ))
    → i < length xs → get_or xs i 0 ≡ b → x.now ≡ between s i xs → more ≡ found ++ x ∷ [] → t ≡ i + 1
    → map (λ p. p.now) found ++ pieces_on b (between s i xs) (drop i xs) ≡ all
    → map (λ p. p.now) more ++ pieces_on b (between t (i + 1) xs) (drop (i + 1) xs) ≡ all
cut-preserved b xs s i t found more x all l e same put next h =
    (λ k. map (λ p. p.now) (put k) ++ pieces_on b (between (next k) (i + 1) xs) (drop (i + 1) xs))
    ∙ ap (λ ps. ps ++ rest) (map-append (λ p. p.now) found (x ∷ []))
    ∙ append_assoc (map (λ p. p.now) found) (x.now ∷ []) rest
    ∙ ap (λ y. map (λ p. p.now) found ++ y ∷ rest) same
    ∙ ap (λ ps. map (λ p. p.now) found ++ ps) (sym (pieces-cut b xs s i l (eq-eqb (get_or xs i 0) b e))) ∙ h
  where
    rest : List (List ℕ)
    rest = pieces_on b (between (i + 1) (i + 1) xs) (drop (i + 1) xs)

pub grown-preserved : (b : ℕ) (xs : List ℕ) (s i t : ℕ) (found more : List (Bor (List ℕ))) (all : List (List ℕ))
    → s ≤ i → i < length xs → (get_or xs i 0 ≡ b → ⊥) → more ≡ found → t ≡ s
    → map (λ p. p.now) found ++ pieces_on b (between s i xs) (drop i xs) ≡ all
    → map (λ p. p.now) more ++ pieces_on b (between t (i + 1) xs) (drop (i + 1) xs) ≡ all
grown-preserved b xs s i t found more all m l e put next h =
    (λ k. map (λ p. p.now) (put k) ++ pieces_on b (between (next k) (i + 1) xs) (drop (i + 1) xs))
    ∙ ap (λ ps. map (λ p. p.now) found ++ ps) (sym (pieces-grown b xs s i m l (ne_eqb (get_or xs i 0) b e))) ∙ h

-- what comes before the first byte and behind it

split_on-text : (b : ℕ) (w xs p q : List ℕ) → split_on b w xs ≡ Some (p, q) → p ++ b ∷ q ≡ w ++ xs
split_on-text b w [] p q e = cc
split_on-text b w (x ∷ xs) p q e = go (split_on-text b (w ++ x ∷ []) xs p q) (nat_eq x b) refl e where
  go : (split_on b (w ++ x ∷ []) xs ≡ Some (p, q) → p ++ b ∷ q ≡ (w ++ x ∷ []) ++ xs)
      → (t : Bool) → nat_eq x b ≡ t → cond t (Some (w, xs)) (split_on b (w ++ x ∷ []) xs) ≡ Some (p, q)
      → p ++ b ∷ q ≡ w ++ x ∷ xs
  go next true s f =
      let same : ◌≡◌ {A = List ℕ × List ℕ} (w, xs) (p, q) = cc in
      ap (λ z. z.0 ++ b ∷ z.1) (sym same) ∙ ap (λ c. w ++ c ∷ xs) (sym (eqb-true x b s))
  go next false s f = next f ∙ append_assoc w (x ∷ []) xs

pub split_at-text : (b : ℕ) (xs p q : List ℕ) → split_at b xs ≡ Some (p, q) → p ++ b ∷ q ≡ xs
split_at-text b xs p q e = split_on-text b [] xs p q e

split_on-of : (b : ℕ) (w v rest : List ℕ) → lacks b v ≡ true → split_on b w (v ++ b ∷ rest) ≡ Some (w ++ v, rest)
split_on-of b w [] rest h =
    cond-true (nat_eq b b) _ _ (nat_eq-refl b) ∙ ap (λ u. Some (u, rest)) (sym (append-nil w))
split_on-of b w (c ∷ v) rest h =
    cond-false (nat_eq c b) _ _ (not-true _ (and_parts (not (nat_eq c b)) (lacks b v) h).0)
    ∙ split_on-of b (w ++ c ∷ []) v rest (and_parts (not (nat_eq c b)) (lacks b v) h).1
    ∙ ap (λ u. Some (u, rest)) (append_assoc w (c ∷ []) v)

pub split_at-of : (b : ℕ) (v rest : List ℕ) → lacks b v ≡ true → split_at b (v ++ b ∷ rest) ≡ Some (v, rest)
split_at-of b v rest h = split_on-of b [] v rest h

split_on-none : (b : ℕ) (w xs : List ℕ) → split_on b w xs ≡ None → lacks b xs ≡ true
split_on-none b w [] e = refl
split_on-none b w (x ∷ xs) e = go (split_on-none b (w ++ x ∷ []) xs) (nat_eq x b) e where
  go : (split_on b (w ++ x ∷ []) xs ≡ None → lacks b xs ≡ true)
      → (t : Bool) → cond t (Some (w, xs)) (split_on b (w ++ x ∷ []) xs) ≡ None → (not t && lacks b xs) ≡ true
  go next true f = cc
  go next false f = next f

pub split_at-none : (b : ℕ) (xs : List ℕ) → split_at b xs ≡ None → lacks b xs ≡ true
split_at-none b xs e = split_on-none b [] xs e

split_on-front : (b : ℕ) (w xs p q : List ℕ) → lacks b w ≡ true → split_on b w xs ≡ Some (p, q) → lacks b p ≡ true
split_on-front b w [] p q h e = cc
split_on-front b w (x ∷ xs) p q h e = go (split_on-front b (w ++ x ∷ []) xs p q) (nat_eq x b) refl e where
  go : (lacks b (w ++ x ∷ []) ≡ true → split_on b (w ++ x ∷ []) xs ≡ Some (p, q) → lacks b p ≡ true)
      → (t : Bool) → nat_eq x b ≡ t → cond t (Some (w, xs)) (split_on b (w ++ x ∷ []) xs) ≡ Some (p, q)
      → lacks b p ≡ true
  go next true s f = let same : ◌≡◌ {A = List ℕ × List ℕ} (w, xs) (p, q) = cc in ap (λ z. lacks b z.0) (sym same) ∙ h
  go next false s f =
      next (every-append (λ c. not (nat_eq c b)) w (x ∷ []) ∙ and_from (lacks b w) _ h
      (ap (λ t. not t && true) s)) f

pub split_at-front : (b : ℕ) (xs p q : List ℕ) → split_at b xs ≡ Some (p, q) → lacks b p ≡ true
split_at-front b xs p q e = split_on-front b [] xs p q refl e

-- a first piece and the others

pub pieces_on-first : (b : ℕ) (w xs : List ℕ)
    → (q : List ℕ) × (qs : List (List ℕ)) × (pieces_on b w xs ≡ (w ++ q) ∷ qs)
pieces_on-first b w [] = ([], [], ap (λ u. u ∷ []) (sym (append-nil w)))
pieces_on-first b w (x ∷ xs) = go (pieces_on-first b (w ++ x ∷ []) xs) (nat_eq x b) where
  go : (q : List ℕ) × (qs : List (List ℕ)) × (pieces_on b (w ++ x ∷ []) xs ≡ ((w ++ x ∷ []) ++ q) ∷ qs) → (t : Bool)
      → (q : List ℕ) × (qs : List (List ℕ))
      × (cond t (w ∷ pieces_on b [] xs) (pieces_on b (w ++ x ∷ []) xs) ≡ (w ++ q) ∷ qs)
  go next true = ([], pieces_on b [] xs, ap (λ u. u ∷ pieces_on b [] xs) (sym (append-nil w)))
  go (q, qs, e) false = (x ∷ q, qs, e ∙ ap (λ u. u ∷ qs) (append_assoc w (x ∷ []) q))

-- the first piece of a text begins with what comes before the first byte
pub pieces-open : (b : ℕ) (v more : List ℕ) → lacks b v ≡ true
    → (q : List ℕ) × (qs : List (List ℕ)) × (pieces b (v ++ more) ≡ (v ++ q) ∷ qs)
pieces-open b v more h =
    let (q, qs, e) = pieces_on-first b v more in (q, qs, cut-word b [] v more h ∙ e)

-- what comes before the first byte is the first piece
pub pieces-past : (b : ℕ) (v rest : List ℕ) → lacks b v ≡ true → pieces b (v ++ b ∷ rest) ≡ v ∷ pieces b rest
pieces-past b v rest h = cut-word b [] v (b ∷ rest) h ∙ cond-true (nat_eq b b) _ _ (nat_eq-refl b)

-- the bytes before a place, and those from it on

pub split-cut : (b : ℕ) (xs : List ℕ) (i : ℕ) → i < length xs → get_or xs i 0 ≡ b
    → split_on b (take i xs) (drop i xs) ≡ Some (take i xs, drop (i + 1) xs)
split-cut b xs i l e =
    ap (split_on b (take i xs)) (drop_more xs i 0 l) ∙ cond-true _ _ _ (eq-eqb (get_or xs i 0) b e)

pub split-grown : (b : ℕ) (xs : List ℕ) (i : ℕ) → i < length xs → (get_or xs i 0 ≡ b → ⊥)
    → split_on b (take i xs) (drop i xs) ≡ split_on b (take (i + 1) xs) (drop (i + 1) xs)
split-grown b xs i l e =
    ap (split_on b (take i xs)) (drop_more xs i 0 l) ∙ cond-false _ _ _ (ne_eqb (get_or xs i 0) b e)
    ∙ ap (λ w. split_on b w (drop (i + 1) xs)) (sym (take_more xs i 0 l))

-- the bytes behind a place, as a program takes them
pub split-found : (b : ℕ) (xs : List ℕ) (i : ℕ) → i < length xs → get_or xs i 0 ≡ b
    → split_on b (take i xs) (drop i xs) ≡ split_at b xs
    → Some (take i xs, take (length xs - (i + 1)) (drop (i + 1) xs)) ≡ split_at b xs
split-found b xs i l e h =
    ap (λ n. Some (take i xs, take n (drop (i + 1) xs))) (sym (length-drop (i + 1) xs))
    ∙ ap (λ ys. Some (take i xs, ys)) (take-length (drop (i + 1) xs)) ∙ sym (split-cut b xs i l e) ∙ h

-- more bytes make the last piece longer, and maybe further ones
pub record AreLonger (short long : List (List ℕ)) : Type 0 where
  pub front : List (List ℕ)
  pub last : List ℕ
  pub more : List ℕ
  pub others : List (List ℕ)
  pub before : short ≡ front ++ last ∷ []
  pub after : long ≡ front ++ (last ++ more) ∷ others

pub pieces_on-longer : (b : ℕ) (w xs ys : List ℕ) → AreLonger (pieces_on b w xs) (pieces_on b w (xs ++ ys))
pieces_on-longer b w [] ys =
    let (q, qs, e) = pieces_on-first b w ys in
    record { front = []; last = w; more = q; others = qs; before = refl; after = e }
pieces_on-longer b w (x ∷ xs) ys =
    go (pieces_on-longer b [] xs ys) (pieces_on-longer b (w ++ x ∷ []) xs ys) (nat_eq x b)
  where
    go : AreLonger (pieces_on b [] xs) (pieces_on b [] (xs ++ ys))
        → AreLonger (pieces_on b (w ++ x ∷ []) xs) (pieces_on b (w ++ x ∷ []) (xs ++ ys)) → (t : Bool)
        → AreLonger (cond t (w ∷ pieces_on b [] xs) (pieces_on b (w ++ x ∷ []) xs))
        (cond t (w ∷ pieces_on b [] (xs ++ ys)) (pieces_on b (w ++ x ∷ []) (xs ++ ys)))
    go l m true = record {
      front = w ∷ l.front;
      last = l.last;
      more = l.more;
      others = l.others;
      before = ap (λ ps. w ∷ ps) l.before;
      after = ap (λ ps. w ∷ ps) l.after;
    }
    go l m false = m

-- the byte is in no piece
pub pieces_on-lack : (b : ℕ) (w xs : List ℕ) → lacks b w ≡ true → every (lacks b) (pieces_on b w xs) ≡ true
pieces_on-lack b w [] h = and_from (lacks b w) true h refl
pieces_on-lack b w (x ∷ xs) h =
    go (pieces_on-lack b [] xs refl) (pieces_on-lack b (w ++ x ∷ []) xs) (nat_eq x b) refl
  where
    go : every (lacks b) (pieces_on b [] xs) ≡ true
        → (lacks b (w ++ x ∷ []) ≡ true → every (lacks b) (pieces_on b (w ++ x ∷ []) xs) ≡ true)
        → (t : Bool) → nat_eq x b ≡ t
        → every (lacks b) (cond t (w ∷ pieces_on b [] xs) (pieces_on b (w ++ x ∷ []) xs)) ≡ true
    go cut grown true e = and_from (lacks b w) _ h cut
    go cut grown false e =
        grown (every-append (λ c. not (nat_eq c b)) w (x ∷ []) ∙ and_from (lacks b w) _ h (ap (λ t. not t && true) e))
