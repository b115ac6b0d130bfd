-- The trie of listed words: its nodes are the beginnings of these words, each once.
use Rattle.std.proofs.Common.{◌≡◌, ℕ, suc, ◌+◌, ◌<◌, ◌≤◌, ◌⊎◌, inl, inr, Bool, true, false, ◌||◌, not, nat_eq, nat_lt, cond, if◌then◌else◌, List, [], ◌∷◌, ◌++◌, Option, Some, None, length, reverse, get_or, refl, sym, ◌∙◌, ap, ap₂, subst, arith, append-nil, append_assoc, length-append}
use Rattle.std.specs.List.{list_any, position, position_or_len}
use Rattle.std.proofs.lemmas.Bool.{eqb-true, eq-eqb, and_parts, and_from}
use Rattle.std.proofs.lemmas.List.{reverse-append, reverse-reverse, get_or_append_left}
use Rattle.std.proofs.lemmas.List.Quantifiers.{position-Some}
use Rattle.word_states.specs.Mention.{mention}
use Rattle.word_states.specs.WordState.{is_prefix}
use Rattle.std.proofs.Math.Seq.{get_or-append_seam}
use Rattle.list_laws.specs.In.{IsIn}
use Rattle.js_automaton.specs.Trie.{same_edge, after_edge, child, child_of, walk, with_word, with_words, edges_of, node_of}

-- ---- places
module _ {A : Type 0} (p : A → Bool) where
  place-below : (xs : List A) → list_any p xs ≡ true → position_or_len p xs < length xs
  place-below [] e = cc e
  place-below (x ∷ xs) e = go (p x) e (place-below xs) where
    go : (b : Bool) → (b || list_any p xs) ≡ true → (list_any p xs ≡ true → position_or_len p xs < length xs)
        → cond (not b) (1 + position_or_len p xs) 0 < suc (length xs)
    go true f h = omega arith
    go false f h = let l = h f in omega (arith, l)

  place-left : (xs ys : List A) → position_or_len p xs < length xs
      → position_or_len p (xs ++ ys) ≡ position_or_len p xs
  place-left [] ys l = absurd (omega (arith, l))
  place-left (x ∷ xs) ys l = go (p x) l (place-left xs ys) where
    go : (b : Bool) → cond (not b) (1 + position_or_len p xs) 0 < suc (length xs)
        → (position_or_len p xs < length xs → position_or_len p (xs ++ ys) ≡ position_or_len p xs)
        → cond (not b) (1 + position_or_len p (xs ++ ys)) 0 ≡ cond (not b) (1 + position_or_len p xs) 0
    go true f h = refl
    go false f h = ap (λ n. 1 + n) (h (omega (arith, f)))

  -- past a list an element is at the list's length
  place-last : (xs : List A) (y : A) → list_any p xs ≡ false → p y ≡ true
      → (position_or_len p (xs ++ y ∷ []) ≡ length xs) × (position_or_len p xs ≡ length xs)
  place-last [] y e t = (ap (λ b. cond (not b) (1 + 0) 0) t, refl)
  place-last (x ∷ xs) y e t = go (p x) e (place-last xs y) where
    go : (b : Bool) → (b || list_any p xs) ≡ false
        → (list_any p xs ≡ false → p y ≡ true
        → (position_or_len p (xs ++ y ∷ []) ≡ length xs) × (position_or_len p xs ≡ length xs))
        → (cond (not b) (1 + position_or_len p (xs ++ y ∷ [])) 0 ≡ suc (length xs))
        × (cond (not b) (1 + position_or_len p xs) 0 ≡ suc (length xs))
    go true f h = cc f
    go false f h = let (a, b) = h f t in (omega (arith, a), omega (arith, b))

  -- what is found with one more element is found without it, or is that element
  place-cases : (xs : List A) (y : A) → position_or_len p (xs ++ y ∷ []) < length (xs ++ y ∷ [])
      → ((position_or_len p xs < length xs) × (position_or_len p (xs ++ y ∷ []) ≡ position_or_len p xs))
      ⊎ ((p y ≡ true) × (position_or_len p (xs ++ y ∷ []) ≡ length xs))
  place-cases [] y l = go (p y) refl l where
    go : (b : Bool) → p y ≡ b → cond (not b) (1 + 0) 0 < 1
        → ((0 < 0) × (cond (not b) (1 + 0) 0 ≡ 0)) ⊎ ((p y ≡ true) × (cond (not b) (1 + 0) 0 ≡ 0))
    go true t f = inr (t, refl)
    go false t f = absurd (omega (arith, f))
  place-cases (x ∷ xs) y l = go (p x) l (place-cases xs y) where
    go : (b : Bool) → cond (not b) (1 + position_or_len p (xs ++ y ∷ [])) 0 < suc (length (xs ++ y ∷ []))
        → (position_or_len p (xs ++ y ∷ []) < length (xs ++ y ∷ [])
        → ((position_or_len p xs < length xs) × (position_or_len p (xs ++ y ∷ []) ≡ position_or_len p xs))
        ⊎ ((p y ≡ true) × (position_or_len p (xs ++ y ∷ []) ≡ length xs)))
        → ((cond (not b) (1 + position_or_len p xs) 0 < suc (length xs))
        × (cond (not b) (1 + position_or_len p (xs ++ y ∷ [])) 0 ≡ cond (not b) (1 + position_or_len p xs) 0))
        ⊎ ((p y ≡ true) × (cond (not b) (1 + position_or_len p (xs ++ y ∷ [])) 0 ≡ suc (length xs)))
    go true f h = inl (omega arith, refl)
    go false f h = elim (h (omega (arith, f))) [
      | inl (a, b) ↦ inl (omega (arith, a), ap (λ n. 1 + n) b)
      | inr (t, b) ↦ inr (t, omega (arith, b))
    ]

cut : (a n i : ℕ) → cond (nat_lt a n) (Some a) None ≡ Some i → (a ≡ i) × (a < n)
cut a n i e = go (nat_lt a n) refl e where
  go : (b : Bool) → nat_lt a n ≡ b → cond b (Some a) None ≡ Some i → (a ≡ i) × (a < n)
  go true t f = let q : a ≡ i = cc f in (q, grind (arith, t))
  go false t f = cc f

fill : (a n : ℕ) → a < n → cond (nat_lt a n) (Some a) None ≡ Some a
fill a n l = let t : nat_lt a n ≡ true = grind (arith, l) in ap (λ b. cond b (Some a) None) t

-- ---- edges
edge-eq : (x y : ℕ × ℕ) → same_edge x y ≡ true → x ≡ y
edge-eq x y e =
    let (a, b) = and_parts (nat_eq x.0 y.0) (nat_eq x.1 y.1) e in
    ap₂ (λ u v. (u, v)) (eqb-true x.0 y.0 a) (eqb-true x.1 y.1 b)

edge-self : (x : ℕ × ℕ) → same_edge x x ≡ true
edge-self x = and_from (nat_eq x.0 x.0) (nat_eq x.1 x.1) (eq-eqb x.0 x.0 refl) (eq-eqb x.1 x.1 refl)

after-some : (o : Option ℕ) (m : ℕ) → after_edge o ≡ Some m → (i : ℕ) × (o ≡ Some i) × (m ≡ suc i)
after-some None m e = cc e
after-some (Some i) m e = let q : suc i ≡ m = cc e in (i, refl, sym q)

child-place : (E : List (ℕ × ℕ)) (n c m : ℕ) → child E n c ≡ Some m
    → (position_or_len (same_edge (n, c)) E < length E) × (m ≡ suc (position_or_len (same_edge (n, c)) E))
child-place E n c m e =
    let (i, f, q) = after-some (position (same_edge (n, c)) E) m e in
    let (a, l) = cut (position_or_len (same_edge (n, c)) E) (length E) i f in (l, q ∙ sym (ap suc a))

child-from : (E : List (ℕ × ℕ)) (n c : ℕ) → position_or_len (same_edge (n, c)) E < length E
    → child E n c ≡ Some (suc (position_or_len (same_edge (n, c)) E))
child-from E n c l = ap after_edge (fill (position_or_len (same_edge (n, c)) E) (length E) l)

-- a node is led to by one edge
child-edge : (E : List (ℕ × ℕ)) (n c m : ℕ) → child E n c ≡ Some m
    → (i : ℕ) × (m ≡ suc i) × (i < length E) × (get_or E i (0, 0) ≡ (n, c))
child-edge E n c m e =
    let (i, f, q) = after-some (position (same_edge (n, c)) E) m e in
    let (l, t, k) = position-Some (same_edge (n, c)) E i (0, 0) f in
    (i, q, l, sym (edge-eq (n, c) (get_or E i (0, 0)) t))

child-more : (E X : List (ℕ × ℕ)) (n c m : ℕ) → child E n c ≡ Some m → child (E ++ X) n c ≡ Some m
child-more E X n c m e =
    let p = same_edge (n, c) in
    let (l, q) = child-place E n c m e in
    let s = place-left p E X l in
    let g = length-append E X in
    child-from (E ++ X) n c (omega (arith, s, l, g)) ∙ ap (λ k. Some (suc k)) s ∙ ap Some (sym q)

-- ---- ways
walk-none : (E : List (ℕ × ℕ)) (w : List ℕ) → walk E None w ≡ None
walk-none E [] = refl
walk-none E (c ∷ w) = walk-none E w

pub walk-append : (E : List (ℕ × ℕ)) (o : Option ℕ) (v w : List ℕ) → walk E o (v ++ w) ≡ walk E (walk E o v) w
walk-append E o [] w = refl
walk-append E o (c ∷ v) w = walk-append E (child_of E o c) v w

walk-more : (E X : List (ℕ × ℕ)) (o : Option ℕ) (w : List ℕ) (m : ℕ) → walk E o w ≡ Some m → walk (E ++ X) o w ≡ Some m
walk-more E X o [] m e = e
walk-more E X None (c ∷ w) m e = let q = sym (walk-none E w) ∙ e in cc q
walk-more E X (Some n) (c ∷ w) m e = go (child E n c) refl (λ k. walk-more E X (Some k) w m) where
  go : (o : Option ℕ) → child E n c ≡ o
      → ((k : ℕ) → walk E (Some k) w ≡ Some m → walk (E ++ X) (Some k) w ≡ Some m)
      → walk (E ++ X) (child (E ++ X) n c) w ≡ Some m
  go None f h = let q = sym (walk-none E w) ∙ sym (ap (λ x. walk E x w) f) ∙ e in cc q
  go (Some k) f h =
      ap (λ x. walk (E ++ X) x w) (child-more E X n c k f) ∙ h k (sym (ap (λ x. walk E x w) f) ∙ e)

-- the node of a word that is given from its last character on
abbrev back : List (ℕ × ℕ) → List ℕ → Option ℕ
back E [] = Some 0
back E (c ∷ r) = child_of E (back E r) c

walk-back : (E : List (ℕ × ℕ)) (r : List ℕ) → walk E (Some 0) (reverse r) ≡ back E r
walk-back E [] = refl
walk-back E (c ∷ r) =
    ap (walk E (Some 0)) (reverse-append (c ∷ []) r) ∙ walk-append E (Some 0) (reverse r) (c ∷ [])
    ∙ ap (λ o. child_of E o c) (walk-back E r)

back-walk : (E : List (ℕ × ℕ)) (w : List ℕ) → walk E (Some 0) w ≡ back E (reverse w)
back-walk E w = sym (ap (walk E (Some 0)) (reverse-reverse w)) ∙ walk-back E (reverse w)

-- no two words lead to one node
back-one : (E : List (ℕ × ℕ)) (v w : List ℕ) (n : ℕ) → back E v ≡ Some n → back E w ≡ Some n → v ≡ w
back-one E [] [] n e f = refl
back-one E [] (d ∷ w) n e f = go (back E w) f where
  go : (o : Option ℕ) → child_of E o d ≡ Some n → [] ≡ d ∷ w
  go None g = cc g
  go (Some m) g =
      let (i, q, l, h) = child-edge E m d n g in
      let z : 0 ≡ n = cc e in absurd (omega (arith, z, q))
back-one E (c ∷ v) [] n e f = go (back E v) e where
  go : (o : Option ℕ) → child_of E o c ≡ Some n → c ∷ v ≡ []
  go None g = cc g
  go (Some m) g =
      let (i, q, l, h) = child-edge E m c n g in
      let z : 0 ≡ n = cc f in absurd (omega (arith, z, q))
back-one E (c ∷ v) (d ∷ w) n e f = go (back E v) (back E w) refl refl e f (back-one E v w) where
  go : (o u : Option ℕ) → back E v ≡ o → back E w ≡ u → child_of E o c ≡ Some n → child_of E u d ≡ Some n
      → ((k : ℕ) → back E v ≡ Some k → back E w ≡ Some k → v ≡ w) → c ∷ v ≡ d ∷ w
  go None u a b g h more = cc g
  go (Some k) None a b g h more = cc h
  go (Some k) (Some m) a b g h more =
      let (i, q, l, x) = child-edge E k c n g in
      let (j, s, t, y) = child-edge E m d n h in
      let z : i ≡ j = omega (arith, q, s) in
      let same : (k, c) ≡ (m, d) = sym x ∙ ap (λ a. get_or E a (0, 0)) z ∙ y in
      ap₂ (λ x xs. x ∷ xs) (ap (λ p. p.1) same) (more k a (b ∙ ap Some (sym (ap (λ p. p.0) same))))

pub walk-one : (E : List (ℕ × ℕ)) (v w : List ℕ) (n : ℕ) → walk E (Some 0) v ≡ Some n
    → walk E (Some 0) w ≡ Some n → v ≡ w
walk-one E v w n e f =
    sym (reverse-reverse v)
    ∙ ap reverse (back-one E (reverse v) (reverse w) n (sym (back-walk E v) ∙ e) (sym (back-walk E w) ∙ f))
    ∙ reverse-reverse w

-- ---- one more edge
mention-more : (E : List (ℕ × ℕ)) (x : ℕ × ℕ) → (X : List (ℕ × ℕ)) × (mention same_edge E x ≡ E ++ X)
mention-more E x = go (list_any (same_edge x) E) where
  go : (b : Bool) → (X : List (ℕ × ℕ)) × ((if b then E else E ++ x ∷ []) ≡ E ++ X)
  go true = ([], sym (append-nil E))
  go false = (x ∷ [], refl)

mention-child : (E : List (ℕ × ℕ)) (n c : ℕ)
    → child (mention same_edge E (n, c)) n c ≡ Some (suc (position_or_len (same_edge (n, c)) E))
mention-child E n c = go (list_any (same_edge (n, c)) E) refl where
  go : (b : Bool) → list_any (same_edge (n, c)) E ≡ b
      → child (if b then E else E ++ (n, c) ∷ []) n c ≡ Some (suc (position_or_len (same_edge (n, c)) E))
  go true t = child-from E n c (place-below (same_edge (n, c)) E t)
  go false t =
      let (a, b) = place-last (same_edge (n, c)) E (n, c) t (edge-self (n, c)) in
      let g = length-append E ((n, c) ∷ []) in
      child-from (E ++ (n, c) ∷ []) n c (omega (arith, a, g)) ∙ ap (λ k. Some (suc k)) (a ∙ sym b)

-- ---- the listed words are there
word-more : (E : List (ℕ × ℕ)) (n : ℕ) (w : List ℕ) → (X : List (ℕ × ℕ)) × (with_word E n w ≡ E ++ X)
word-more E n [] = ([], sym (append-nil E))
word-more E n (c ∷ w) =
    let (X, e) = mention-more E (n, c) in
    let (Y, f) = word-more (mention same_edge E (n, c)) (suc (position_or_len (same_edge (n, c)) E)) w in
    (X ++ Y, f ∙ ap (λ z. z ++ Y) e ∙ append_assoc E X Y)

words-more : (E : List (ℕ × ℕ)) (ws : List (List ℕ)) → (X : List (ℕ × ℕ)) × (with_words E ws ≡ E ++ X)
words-more E [] = ([], sym (append-nil E))
words-more E (w ∷ ws) =
    let (X, e) = word-more E 0 w in
    let (Y, f) = words-more (with_word E 0 w) ws in (X ++ Y, f ∙ ap (λ z. z ++ Y) e ∙ append_assoc E X Y)

word-has : (E : List (ℕ × ℕ)) (n : ℕ) (w : List ℕ) → (m : ℕ) × (walk (with_word E n w) (Some n) w ≡ Some m)
word-has E n [] = (n, refl)
word-has E n (c ∷ w) =
    let G = mention same_edge E (n, c) in
    let k = suc (position_or_len (same_edge (n, c)) E) in
    let (m, h) = word-has G k w in
    let (X, e) = word-more G k w in
    let s : child (with_word G k w) n c ≡ Some k =
    ap (λ z. child z n c) e ∙ child-more G X n c k (mention-child E n c) in
    (m, ap (λ o. walk (with_word G k w) o w) s ∙ h)

words-has : (E : List (ℕ × ℕ)) (ws : List (List ℕ)) (u : List ℕ) → IsIn u ws
    → (m : ℕ) × (walk (with_words E ws) (Some 0) u ≡ Some m)
words-has E [] u i = absurd i
words-has E (w ∷ ws) u (inl q) =
    let (m, h) = word-has E 0 w in
    let (X, e) = words-more (with_word E 0 w) ws in
    let F = with_word E 0 w in
    (m, ap (walk (with_words F ws) (Some 0)) q ∙ ap (λ z. walk z (Some 0) w) e ∙ walk-more F X (Some 0) w m h)
words-has E (w ∷ ws) u (inr i) = words-has (with_word E 0 w) ws u i

prefix-rest : (w u : List ℕ) → is_prefix w u ≡ true → (x : List ℕ) × (u ≡ w ++ x)
prefix-rest [] u e = (u, refl)
prefix-rest (c ∷ w) [] e = cc e
prefix-rest (c ∷ w) (d ∷ u) e =
    let (a, b) = and_parts (nat_eq c d) (is_prefix w u) e in
    let (x, q) = prefix-rest w u b in (x, ap₂ (λ z zs. z ∷ zs) (sym (eqb-true c d a)) q)

prefix-append : (w x : List ℕ) → is_prefix w (w ++ x) ≡ true
prefix-append [] x = refl
prefix-append (c ∷ w) x = and_from (nat_eq c c) (is_prefix w (w ++ x)) (eq-eqb c c refl) (prefix-append w x)

-- a beginning of a listed word has a node
pub prefix-has : (ws : List (List ℕ)) (u w : List ℕ) → IsIn u ws → is_prefix w u ≡ true
    → (m : ℕ) × (node_of ws w ≡ Some m)
unfolding edges_of
prefix-has ws u w i e =
    let (x, q) = prefix-rest w u e in
    let (m, h) = words-has [] ws u i in
    go (node_of ws w) refl x
    (sym (walk-append (edges_of ws) (Some 0) w x) ∙ sym (ap (walk (edges_of ws) (Some 0)) q) ∙ h) where
      go : (o : Option ℕ) → node_of ws w ≡ o → (x : List ℕ) → {m : ℕ} → walk (edges_of ws) (node_of ws w) x ≡ Some m
          → (m : ℕ) × (node_of ws w ≡ Some m)
      go None f x g = let q = sym (walk-none (edges_of ws) x) ∙ sym (ap (λ z. walk (edges_of ws) z x) f) ∙ g in cc q
      go (Some k) f x g = (k, f)

-- ---- no other words have nodes
abbrev Bounded : List (ℕ × ℕ) → Type 0
Bounded E = (i : ℕ) → i < length E → (get_or E i (0, 0)).0 ≤ length E

-- one more edge makes one more word
new-word : (E : List (ℕ × ℕ)) (n c : ℕ) (r s : List ℕ) (m : ℕ) → Bounded E → n ≤ length E → back E r ≡ Some n
    → back (E ++ (n, c) ∷ []) s ≡ Some m → (back E s ≡ Some m) ⊎ ((s ≡ c ∷ r) × (m ≡ suc (length E)))
new-word E n c r [] m b l e f = inl f
new-word E n c r (d ∷ s) m b l e f = go (back F s) refl f (new-word E n c r s) where
  F : List (ℕ × ℕ)
  F = E ++ (n, c) ∷ []

  go : (o : Option ℕ) → back (E ++ (n, c) ∷ []) s ≡ o → child_of (E ++ (n, c) ∷ []) o d ≡ Some m
      → ((k : ℕ) → Bounded E → n ≤ length E → back E r ≡ Some n → back (E ++ (n, c) ∷ []) s ≡ Some k
      → (back E s ≡ Some k) ⊎ ((s ≡ c ∷ r) × (k ≡ suc (length E))))
      → (child_of E (back E s) d ≡ Some m) ⊎ ((d ∷ s ≡ c ∷ r) × (m ≡ suc (length E)))
  go None g h more = cc h
  go (Some k) g h more =
      let (p, q) = child-place (E ++ (n, c) ∷ []) k d m h in
      let old = more k b l e g in
      elim (place-cases (same_edge (k, d)) E (n, c) p) [
        | inl (a, z) ↦ elim old [
          | inl y ↦
              inl (ap (λ o. child_of E o d) y ∙ child-from E k d a ∙ ap (λ j. Some (suc j)) (sym z) ∙ ap Some (sym q))
          | inr (x, y) ↦
              let (i, t, w, u) = child-edge E k d (suc (position_or_len (same_edge (k, d)) E)) (child-from E k d a) in
              let small = b i w in
              let same : (get_or E i (0, 0)).0 ≡ k = ap (λ x. x.0) u in absurd (omega (arith, small, same, y))
        ]
        | inr (t, z) ↦
            let x : (k, d) ≡ (n, c) = edge-eq (k, d) (n, c) t in
            let kn : k ≡ n = ap (λ (x : ℕ × ℕ). x.0) x in
            let dc : d ≡ c = ap (λ (x : ℕ × ℕ). x.1) x in
            elim old [
              | inl y ↦ inr (ap₂ (λ u us. u ∷ us) dc (back-one E s r n (y ∙ ap Some kn) e), q ∙ ap suc z)
              | inr (w, y) ↦ absurd (omega (arith, y, kn, l))
            ]
      ]

module _ (P : List ℕ → Type 0) where
  -- whatever has a node is as P says
  abbrev Known : List (ℕ × ℕ) → Type 0
  Known E = (r : List ℕ) (m : ℕ) → back E r ≡ Some m → P (reverse r)

  edge-known : (E : List (ℕ × ℕ)) (n c : ℕ) (r : List ℕ) → Bounded E → n ≤ length E → back E r ≡ Some n → Known E
      → P (reverse (c ∷ r))
      → Bounded (mention same_edge E (n, c)) × Known (mention same_edge E (n, c))
      × (suc (position_or_len (same_edge (n, c)) E) ≤ length (mention same_edge E (n, c)))
  edge-known E n c r b l e k p = go (list_any (same_edge (n, c)) E) refl where
    go : (x : Bool) → list_any (same_edge (n, c)) E ≡ x
        → Bounded (if x then E else E ++ (n, c) ∷ []) × Known (if x then E else E ++ (n, c) ∷ [])
        × (suc (position_or_len (same_edge (n, c)) E) ≤ length (if x then E else E ++ (n, c) ∷ []))
    go true t = (b, k, (let q = place-below (same_edge (n, c)) E t in omega (arith, q)))
    go false t =
        let g = length-append E ((n, c) ∷ []) in
        let (q, z) = place-last (same_edge (n, c)) E (n, c) t (edge-self (n, c)) in (
          (λ i h. bounded i (cases i (omega (arith, h, g)))),
          (λ s m f. elim (new-word E n c r s m b l e f) [
            | inl h ↦ k s m h
            | inr (h, w) ↦ subst (λ x. P (reverse x)) (sym h) p
          ]),
          omega (arith, g, z),
        ) where
          cases : (i : ℕ) → i < length E + 1 → (i < length E) ⊎ (i ≡ length E)
          cases i h = grind (arith, h)

          bounded : (i : ℕ) → (i < length E) ⊎ (i ≡ length E)
              → (get_or (E ++ (n, c) ∷ []) i (0, 0)).0 ≤ length (E ++ (n, c) ∷ [])
          bounded i (inl h) =
              let g = length-append E ((n, c) ∷ []) in
              let s = b i h in
              let x = ap (λ y. y.0) (get_or_append_left E ((n, c) ∷ []) (0, 0) i h) in omega (arith, g, s, x)
          bounded i (inr h) =
              let g = length-append E ((n, c) ∷ []) in
              let x = ap (λ j. (get_or (E ++ (n, c) ∷ []) j (0, 0)).0) h
              ∙ ap (λ y. y.0) (get_or-append_seam E (n, c) [] (0, 0)) in
              omega (arith, g, x, l)

  word-known : (q r : List ℕ) (E : List (ℕ × ℕ)) (n : ℕ) → Bounded E → n ≤ length E → back E r ≡ Some n → Known E
      → ((a b : List ℕ) → reverse r ++ q ≡ a ++ b → P a) → Bounded (with_word E n q) × Known (with_word E n q)
  word-known [] r E n b l e k p = (b, k)
  word-known (c ∷ q) r E n b l e k p =
      let turned : reverse (c ∷ r) ≡ reverse r ++ c ∷ [] = reverse-append (c ∷ []) r in
      let here : P (reverse (c ∷ r)) =
      subst P (sym turned) (p (reverse r ++ c ∷ []) q (sym (append_assoc (reverse r) (c ∷ []) q))) in
      let (f, g, h) = edge-known E n c r b l e k here in
      let (X, m) = mention-more E (n, c) in
      let way : back (mention same_edge E (n, c)) r ≡ Some n =
      sym (walk-back (mention same_edge E (n, c)) r) ∙ ap (λ z. walk z (Some 0) (reverse r)) m
      ∙ walk-more E X (Some 0) (reverse r) n (walk-back E r ∙ e) in
      word-known q (c ∷ r) (mention same_edge E (n, c)) (suc (position_or_len (same_edge (n, c)) E)) f h
      (ap (λ o. child_of (mention same_edge E (n, c)) o c) way ∙ mention-child E n c) g
      (λ a b x. p a b (sym (append_assoc (reverse r) (c ∷ []) q) ∙ sym (ap (λ z. z ++ q) turned) ∙ x))

  words-known : (ws : List (List ℕ)) (E : List (ℕ × ℕ)) → Bounded E → Known E
      → ((u a b : List ℕ) → IsIn u ws → u ≡ a ++ b → P a) → Known (with_words E ws)
  words-known [] E b k p = k
  words-known (w ∷ ws) E b k p =
      let (f, g) = word-known w [] E 0 b (omega arith) refl k (λ x y e. p w x y (inl refl) e) in
      words-known ws (with_word E 0 w) f g (λ u x y i e. p u x y (inr i) e)

-- what has a node, but for the empty word, is a beginning of a listed word
pub has-prefix : (ws : List (List ℕ)) (w : List ℕ) (m : ℕ) → node_of ws w ≡ Some m
    → (w ≡ []) ⊎ ((u : List ℕ) × IsIn u ws × (is_prefix w u ≡ true))
unfolding edges_of
has-prefix ws w m e =
    let P : List ℕ → Type 0 = λ w. (w ≡ []) ⊎ ((u : List ℕ) × IsIn u ws × (is_prefix w u ≡ true)) in
    subst P (reverse-reverse w)
    (words-known P ws [] (λ i l. absurd (omega (arith, l))) none
    (λ u a b i q. inr (u, i, subst (λ z. is_prefix a z ≡ true) (sym q) (prefix-append a b)))
    (reverse w) m (sym (back-walk (edges_of ws) w) ∙ e)) where
      none : (r : List ℕ) (m : ℕ) → back [] r ≡ Some m
          → (reverse r ≡ []) ⊎ ((u : List ℕ) × IsIn u ws × (is_prefix (reverse r) u ≡ true))
      none [] m e = inl refl
      none (c ∷ r) m e = go (back [] r) e where
        go : (o : Option ℕ) → child_of [] o c ≡ Some m
            → (reverse (c ∷ r) ≡ []) ⊎ ((u : List ℕ) × IsIn u ws × (is_prefix (reverse (c ∷ r)) u ≡ true))
        go None f = cc f
        go (Some k) f = let (l, q) = child-place [] k c m f in absurd (omega (arith, l))
