-- What is appended names what comes before it: of the same document its own nodes and the entries that apply in place,
-- of parts any position before it.
use Rattle.std.proofs.Common.{◌≡◌, ℕ, suc, ◌+◌, ◌<◌, ◌≤◌, ◌⊎◌, inl, inr, List, [], ◌∷◌, ◌++◌, length, true, refl, sym, subst, arith, add-zero}
use Rattle.std.specs.List.{AllByRecursion}
use Rattle.documents.specs.Document.{Document, null, boolean, number, string, array, object, Items, no_items, item, Members, no_members, member, elements}
use Rattle.documents.specs.Kind.{Kind}
use Rattle.documents.specs.Kind as K
use Rattle.positions.specs.Position as Q
use Rattle.positions.specs.Position.{Position, True, False, All, Any, Types, BoolIs, NumIn, Words, CountMin, CountMax, MembersOf, Named, Others, Has, in_place, of_parts, in_range}
use Rattle.normal_forms.specs.Nodes.{Maker, nothing, node, entry, both, above, each, the_one, after}
use Rattle.normal_forms.specs.Values.{of_kind, but_last, last_of, items_of, names_of, value_node, item_nodes, member_nodes, member_of, no_others}

-- `In` are the entries that may be named in place, all of them below `first`, where nodes begin
module _ (In : ℕ → Type 0) (first : ℕ) (some_entry : 0 < first) (below_first : (q : ℕ) → In q → q < first) where
  -- a node of a block that begins at n, or an entry
  abbrev pub MayName : ℕ → ℕ → ℕ → Type 0
  MayName n p q = ((n ≤ q) × (q < p)) ⊎ In q

  -- the positions from p on, in a block that begins at n
  abbrev pub Grown : ℕ → ℕ → List Position → Type 0
  Grown n p [] = Unit {0}
  Grown n p (P ∷ Ps) =
      (AllByRecursion (MayName n p) (in_place P) × AllByRecursion (λ q. q < p) (of_parts P) × (in_range P ≡ true))
      × Grown n (suc p) Ps

  abbrev pub Grows : Maker → Type 0
  Grows f = (n : ℕ) → first ≤ n
      → Grown n n (f n).added × AllByRecursion (MayName n (after n (f n))) (f n).named

  pub all_weaker : {A : Type 0} (P Q : A → Type 0) (xs : List A) → ((x : A) → P x → Q x) → AllByRecursion P xs
      → AllByRecursion Q xs
  all_weaker P Q [] f h = tt
  all_weaker P Q (x ∷ xs) f h = (f x h.0, all_weaker P Q xs f h.1)

  all_append : {A : Type 0} (P : A → Type 0) (xs ys : List A) → AllByRecursion P xs → AllByRecursion P ys
      → AllByRecursion P (xs ++ ys)
  all_append P [] ys a b = b
  all_append P (x ∷ xs) ys a b = (a.0, all_append P xs ys a.1 b)

  -- a block may begin earlier
  may_earlier : (m n p p' q : ℕ) → m ≤ n → p ≤ p' → MayName n p q → MayName m p' q
  may_earlier m n p p' q l k (inl h) = let a = h.0 in let b = h.1 in inl (omega (arith, l, a), omega (arith, k, b))
  may_earlier m n p p' q l k (inr h) = inr h

  grown_earlier : (m n p : ℕ) (Ps : List Position) → m ≤ n → Grown n p Ps → Grown m p Ps
  grown_earlier m n p [] l h = tt
  grown_earlier m n p (P ∷ Ps) l h = (
    (all_weaker _ _ (in_place P) (λ q r. may_earlier m n p p q l (omega arith) r) h.0.0, h.0.1, h.0.2),
    grown_earlier m n (suc p) Ps l h.1,
  )

  grown_append : (n p : ℕ) (Ps Qs : List Position) → Grown n p Ps → Grown n (p + length Ps) Qs → Grown n p (Ps ++ Qs)
  grown_append n p [] Qs a b = subst (λ k. Grown n k Qs) (add-zero p) b
  grown_append n p (P ∷ Ps) Qs a b =
      let place : p + length (P ∷ Ps) ≡ suc p + length Ps = omega arith in
      (a.0, grown_append n (suc p) Ps Qs a.1 (subst (λ k. Grown n k Qs) place b))

  length-append : (xs ys : List Position) → length (xs ++ ys) ≡ length xs + length ys
  length-append [] ys = omega arith
  length-append (x ∷ xs) ys = let rest = length-append xs ys in omega (arith, rest)

  pub grows-nothing : Grows nothing
  grows-nothing n l = (tt, tt)

  -- a position that names nothing of the same document, and of parts entries alone
  pub grows-node : (P : Position) → AllByRecursion In (in_place P) → AllByRecursion (λ q. q < first) (of_parts P)
      → in_range P ≡ true → Grows (node P)
  grows-node P a b c n l = (
    (
      (
        all_weaker In _ (in_place P) (λ q h. inr h) a,
        all_weaker (λ q. q < first) (λ q. q < n) (of_parts P) (λ q h. omega (arith, h, l)) b,
        c,
      ),
      tt,
    ),
    (inl (omega arith, omega arith), tt),
  )

  pub grows-entry : (e : ℕ) → In e → Grows (entry e)
  grows-entry e h n l = (tt, (inr h, tt))

  pub grows-both : (f g : Maker) → Grows f → Grows g → Grows (both f g)
  grows-both f g a b n l =
      let one = a n l in
      let later : first ≤ after n (f n) = omega (arith, l) in
      let two = b (after n (f n)) later in
      let more = length-append (f n).added (g (after n (f n))).added in (
        grown_append n n (f n).added (g (after n (f n))).added one.0
            (grown_earlier n (after n (f n)) (after n (f n)) (g (after n (f n))).added (omega arith) two.0),
        all_append _ (f n).named (g (after n (f n))).named
            (all_weaker _ _ (f n).named (λ q h. may_earlier n n (after n (f n)) (n + length ((f n).added ++ (g
            (after n (f n))).added)) q (omega arith)
            (omega (arith, more)) h) one.1)
            (all_weaker _ _ (g (after n (f n))).named (λ q h. may_earlier n (after n (f n)) (after (after n (f n))
            (g (after n (f n))))
            (n + length ((f n).added ++ (g (after n (f n))).added)) q (omega arith) (omega (arith, more)) h) two.1),
      )

  may_below : (n p q : ℕ) → first ≤ p → MayName n p q → q < p
  may_below n p q l (inl h) = h.1
  may_below n p q l (inr h) = let b = below_first q h in omega (arith, b, l)

  -- what a node may be, given what it names
  abbrev pub IsNode : (List ℕ → Position) → Type 0
  IsNode P = (n p : ℕ) (qs : List ℕ) → first ≤ p → AllByRecursion (MayName n p) qs
      → AllByRecursion (MayName n p) (in_place (P qs)) × AllByRecursion (λ q. q < p) (of_parts (P qs))
      × (in_range (P qs) ≡ true)

  pub grows-above : (P : List ℕ → Position) (f : Maker) → IsNode P → Grows f → Grows (above P f)
  grows-above P f ok a n l =
      let one = a n l in
      let later : first ≤ after n (f n) = omega (arith, l) in
      let more = length-append (f n).added (P (f n).named ∷ []) in (
        grown_append n n (f n).added (P (f n).named ∷ []) one.0 (ok n (after n (f n)) (f n).named later one.1, tt),
        (inl (omega arith, omega (arith, more)), tt),
      )

  pub grows-each : {A : Type 0} (f : A → Maker) (xs : List A) → AllByRecursion (λ x. Grows (f x)) xs → Grows (each f xs)
  grows-each f [] h = grows-nothing
  grows-each f (x ∷ xs) h = grows-both (f x) (each f xs) h.0 (grows-each f xs h.1)

  pub everywhere : {A : Type 0} (P : A → Type 0) (xs : List A) → ((x : A) → P x) → AllByRecursion P xs
  everywhere P [] h = tt
  everywhere P (x ∷ xs) h = (h x, everywhere P xs h)

  pub is_all : IsNode All
  is_all n p qs l h = (h, tt, refl)

  pub is_any : IsNode Any
  is_any n p qs l h = (h, tt, refl)

  the_one_below : (n p : ℕ) (qs : List ℕ) → first ≤ p → AllByRecursion (MayName n p) qs → the_one qs < p
  the_one_below n p [] l h = omega (arith, some_entry, l)
  the_one_below n p (q ∷ qs) l h = may_below n p q l h.0

  pub is_member : (s : Q.NameSet) → IsNode (λ qs. MembersOf s (the_one qs))
  is_member s n p qs l h = (tt, (the_one_below n p qs l h, tt), refl)

  but_last_below : (n p : ℕ) (qs : List ℕ) → first ≤ p → AllByRecursion (MayName n p) qs
      → AllByRecursion (λ q. q < p) (but_last qs)
  but_last_below n p [] l h = tt
  but_last_below n p (q ∷ []) l h = tt
  but_last_below n p (q ∷ r ∷ rs) l h = (may_below n p q l h.0, but_last_below n p (r ∷ rs) l h.1)

  last_below : (n p : ℕ) (qs : List ℕ) → first ≤ p → AllByRecursion (MayName n p) qs → last_of qs < p
  last_below n p [] l h = omega (arith, some_entry, l)
  last_below n p (q ∷ []) l h = may_below n p q l h.0
  last_below n p (q ∷ r ∷ rs) l h = last_below n p (r ∷ rs) l h.1

  is_items : IsNode items_of
  is_items n p qs l h = (tt, (last_below n p qs l h, but_last_below n p qs l h), refl)

  pub is_listed : (es : List ℕ) → AllByRecursion (λ q. q < first) es → IsNode (λ qs. Q.Items es (the_one qs))
  is_listed es below n p qs l h = (
    tt,
    (
      the_one_below n p qs l h,
      all_weaker (λ q. q < first) (λ q. q < p) es (λ q b. omega
          (arith, b, l)) below,
    ),
    refl,
  )

  pub plain : (P : Position) → in_place P ≡ [] → of_parts P ≡ [] → in_range P ≡ true → Grows (node P)
  plain P a b c =
      let In-all : List ℕ → Type 0 = λ qs. AllByRecursion In qs in
      let Below-all : List ℕ → Type 0 = λ qs. AllByRecursion (λ q. q < first) qs in
      grows-node P (subst In-all (sym a) tt) (subst Below-all (sym b) tt) c

  pub grows-kind : (t : Kind) (P : Position) → Grows (node P) → Grows (of_kind t P)
  grows-kind t P h =
      grows-above All (both (node (Types (t ∷ []))) (node P)) is_all
      (grows-both (node (Types (t ∷ []))) (node P) (plain (Types (t ∷ [])) refl refl refl) h)

  abbrev counts : ℕ → Maker
  counts n = both (node (CountMin n)) (node (CountMax n))

  abbrev elements_made : Items → Maker
  elements_made ds = above items_of (both (item_nodes ds) (node True))

  mutual
    pub grows-value : (d : Document) → Grows (value_node d)
    grows-value null = plain (Types (K.Null ∷ [])) refl refl refl
    grows-value (boolean b) = grows-kind K.Boolean (BoolIs b) (plain (BoolIs b) refl refl refl)
    grows-value (number n) = grows-kind K.Number (NumIn (n ∷ [])) (plain (NumIn (n ∷ [])) refl refl refl)
    grows-value (string w) = grows-kind K.Text (Words (w ∷ [])) (plain (Words (w ∷ [])) refl refl refl)
    grows-value (array ds) =
        grows-above All
        (both (node (Types (K.Array ∷ []))) (both (elements_made ds) (counts (length (elements ds))))) is_all
        (grows-both (node (Types (K.Array ∷ []))) (both (elements_made ds) (counts (length (elements ds))))
        (plain (Types (K.Array ∷ [])) refl refl refl)
        (grows-both (elements_made ds) (counts (length (elements ds)))
        (grows-above items_of (both (item_nodes ds) (node True)) is_items
        (grows-both (item_nodes ds) (node True) (grows-items ds) (plain True refl refl refl)))
        (grows-both (node (CountMin (length (elements ds)))) (node (CountMax (length (elements ds))))
        (plain (CountMin (length (elements ds))) refl refl refl)
        (plain (CountMax (length (elements ds))) refl refl refl))))
    grows-value (object ms) =
        grows-above All (both (node (Types (K.Object ∷ []))) (both (member_nodes ms) (no_others (names_of ms)))) is_all
        (grows-both (node (Types (K.Object ∷ []))) (both (member_nodes ms) (no_others (names_of ms)))
        (plain (Types (K.Object ∷ [])) refl refl refl)
        (grows-both (member_nodes ms) (no_others (names_of ms)) (grows-members ms)
        (grows-above (λ qs. MembersOf (Others (names_of ms) []) (the_one qs)) (node False)
        (is_member (Others (names_of ms) [])) (plain False refl refl refl))))

    grows-items : (ds : Items) → Grows (item_nodes ds)
    grows-items no_items = grows-nothing
    grows-items (item d ds) = grows-both (value_node d) (item_nodes ds) (grows-value d) (grows-items ds)

    grows-members : (ms : Members) → Grows (member_nodes ms)
    grows-members no_members = grows-nothing
    grows-members (member k d ms) =
        grows-both (node (Has k)) (both (above (member_of k) (value_node d)) (member_nodes ms))
        (plain (Has k) refl refl refl)
        (grows-both (above (member_of k) (value_node d)) (member_nodes ms)
        (grows-above (member_of k) (value_node d) (is_member (Named k)) (grows-value d)) (grows-members ms))
