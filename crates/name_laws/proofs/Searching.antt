-- A search by a stack finds the positions that a position depends on, in the order in which its atoms are first
-- mentioned.
use Rattle.std.proofs.Common.{◌≡◌, ℕ, zero, suc, ◌+◌, ◌<◌, List, [], ◌∷◌, ◌++◌, flat_map, length, get_or, Bool, true, false, cond, nat_lt, refl, ap, ap₂, sym, ◌∙◌, subst, append_assoc, arith}
use Rattle.std.specs.List.{AllByRecursion, list_any}
use Rattle.std.proofs.lemmas.Bool.{and_parts, and_from, lt-ltb, ltb-true, le-ltb, cond-true, cond-false}
use Rattle.std.proofs.lemmas.List.{append-nil}
use Rattle.std.proofs.lemmas.List.Concat.{flat_map-append}
use Rattle.documents.specs.Tests.{every}
use Rattle.word_states.specs.Atom.{Atom}
use Rattle.word_states.specs.Mention.{mention_all}
use Rattle.positions.specs.Position.{Position, position_at, in_place, ranks_fall, is_table}
use Rattle.list_laws.proofs.Elements.{all-weaker, all-append, all-every, every-all}
use Rattle.position_laws.proofs.Tables.{is_table-IsTable, is_table-named, is_table-fall}
use Rattle.name_truths.specs.NameTruth.{asked_of_string, own_atoms, atoms}
use Rattle.name_laws.specs.Plans.{has_place, atoms_of}
use Rattle.name_laws.specs.Searches.{AreReached, lower, Covers, IsSearch}
use Rattle.name_laws.proofs.Tests.{every-has, all-has, has-all}
use Rattle.name_laws.proofs.Mentions.{mention_all-append, mention_all-known, mention_all-mentioned}
use Rattle.name_laws.proofs.Unfolded.{asked-in_place, atoms-asks}
use Rattle.list_laws.proofs.Every.{every-parts, every_joined}

-- all that are of lesser rank are in the first of those that are waiting
lower-append : (ranks : List ℕ) (v : ℕ) (qs waiting : List ℕ)
    → AllByRecursion (λ q. get_or ranks q 0 < get_or ranks v 0) qs
    → lower ranks v (qs ++ waiting) ≡ qs ++ lower ranks v waiting
lower-append ranks v [] waiting h = refl
lower-append ranks v (q ∷ qs) waiting h =
    cond-true (nat_lt (get_or ranks q 0) (get_or ranks v 0)) (q ∷ lower ranks v (qs ++ waiting)) []
    (lt-ltb (get_or ranks q 0) (get_or ranks v 0) h.0)
    ∙ ap (λ xs. q ∷ xs) (lower-append ranks v qs waiting h.1)

-- none comes before a position itself
lower-self : (ranks : List ℕ) (v : ℕ) (waiting : List ℕ) → lower ranks v (v ∷ waiting) ≡ []
lower-self ranks v waiting =
    cond-false (nat_lt (get_or ranks v 0) (get_or ranks v 0)) (v ∷ lower ranks v waiting) []
    (le-ltb (get_or ranks v 0) (get_or ranks v 0) (omega arith))

-- ranks fall from a position to those that it depends on at a string
pub asked-fall : (ranks : List ℕ) (k : ℕ) (xs : List Position) → ranks_fall ranks k xs ≡ true → (p : ℕ)
    → AllByRecursion (λ q. get_or ranks q 0 < get_or ranks (k + p) 0) (asked_of_string (position_at xs p))
asked-fall ranks k [] e p = tt
asked-fall ranks k (x ∷ xs) e zero =
    let same : k ≡ k + 0 = omega arith in
    let here = every-all _ (in_place x) (and_parts _ (ranks_fall ranks (suc k) xs) e).0 in
    asked-in_place _ x
    (all-weaker _ _ (in_place x)
    (λ q h. subst (λ i. get_or ranks q 0 < get_or ranks i 0) same (ltb-true _ _ h)) here)
asked-fall ranks k (x ∷ xs) e (suc p) =
    let same : suc k + p ≡ k + suc p = omega arith in
    subst (λ i. AllByRecursion (λ q. get_or ranks q 0 < get_or ranks i 0) (asked_of_string (position_at xs p))) same
    (asked-fall ranks (suc k) xs (and_parts _ (ranks_fall ranks (suc k) xs) e).1 p)

module _ (T : List Position) (ranks : List ℕ) (e : is_table T ranks ≡ true) (some_positions : 0 < length T) where
  all_atoms : List ℕ → List Atom
  all_atoms qs = flat_map (λ q. atoms T q) qs

  asked : ℕ → List ℕ
  asked q = asked_of_string (position_at T q)

  asks : (q : ℕ) → atoms T q ≡ own_atoms (position_at T q)
      ++ flat_map (λ q. atoms T q) (asked_of_string (position_at T q))
  asks = atoms-asks T (is_table-IsTable T ranks e some_positions)

  named : (q : ℕ) → every (λ k. nat_lt k (length T)) (asked_of_string (position_at T q)) ≡ true
  named q =
      all-every _ (asked_of_string (position_at T q))
      (all-weaker _ _ (asked_of_string (position_at T q)) (λ k l. lt-ltb k (length T) l)
      (asked-in_place _ (position_at T q) (is_table-named T ranks e q)))

  falls : (q : ℕ) → AllByRecursion (λ k. get_or ranks k 0 < get_or ranks q 0) (asked_of_string (position_at T q))
  falls q =
      let same : 0 + q ≡ q = omega arith in
      subst (λ i. AllByRecursion (λ k. get_or ranks k 0 < get_or ranks i 0) (asked_of_string (position_at T q))) same
      (asked-fall ranks 0 T (is_table-fall T ranks e) q)

  -- one that was found before: what it depends on was found too
  pub search-again : (p q : ℕ) (found waiting : List ℕ) → IsSearch T ranks p found (q ∷ waiting)
      → has_place found q ≡ true → IsSearch T ranks p found waiting
  search-again p q found waiting s member = record {
    within = s.within;
    waiting_within = (and_parts (nat_lt q (length T)) _ s.waiting_within).1;
    has_root = λ f g h. s.has_root f g (and_from (f q) (every f waiting) (every-has f found q g member) h);
    closed = λ f g h. s.closed f g (and_from (f q) (every f waiting) (every-has f found q g member) h);
    atoms = λ same equal L. fewer same equal L ∙ s.atoms same equal L;
    covered = all-weaker _ _ found later s.covered;
  } where
    known : (f : Atom → Bool) → every f (atoms_of T found) ≡ true → every f (atoms T q) ≡ true
    known f g =
        all-has (Covers T ranks found (q ∷ waiting)) found q s.covered member f g
        (ap (λ xs. every f (flat_map (λ k. atoms T k) xs)) (lower-self ranks q waiting))

    later : (v : ℕ) → Covers T ranks found (q ∷ waiting) v → Covers T ranks found waiting v
    later v c f g h = c f g (go (nat_lt (get_or ranks q 0) (get_or ranks v 0))) where
      go : (b : Bool)
          → every f (flat_map (λ k. atoms T k) (cond b (q ∷ lower ranks v waiting) [])) ≡ true
      go true = every_joined f (atoms T q) (flat_map (λ k. atoms T k) (lower ranks v waiting)) (known f g) h
      go false = refl

    fewer : (same : Atom → Atom → Bool) → ((a : Atom) → same a a ≡ true) → (L : List Atom)
        → mention_all same L (atoms_of T found ++ flat_map (λ k. atoms T k) waiting)
        ≡ mention_all same L (atoms_of T found ++ flat_map (λ k. atoms T k) (q ∷ waiting))
    fewer same equal L =
        let A = atoms_of T found in
        let R = flat_map (λ k. atoms T k) waiting in
        let M = mention_all same L A in
        let none : mention_all same M (atoms T q) ≡ M =
        mention_all-known same M (atoms T q)
        (known (λ a. list_any (same a) M) (mention_all-mentioned same equal L A)) in
        mention_all-append same L A R
        ∙ sym (mention_all-append same L A (atoms T q ++ R) ∙ mention_all-append same M (atoms T q) R
        ∙ ap (λ N. mention_all same N R) none)

  -- one that is new: those that it depends on are waiting next
  pub search-anew : (p q : ℕ) (found waiting : List ℕ) → IsSearch T ranks p found (q ∷ waiting)
      → IsSearch T ranks p (found ++ q ∷ []) (asked_of_string (position_at T q) ++ waiting)
  search-anew p q found waiting s = record {
    within = every_joined _ found (q ∷ []) s.within (and_from (nat_lt q (length T)) true inside.0 refl);
    waiting_within = every_joined _ kids waiting (named q) inside.1;
    has_root = λ f g h.
        let (old, this) = every-parts f found (q ∷ []) g in
        let (asked, others) = every-parts f kids waiting h in
        s.has_root f old (and_from (f q) (every f waiting) (and_parts (f q) true this).0 others);
    closed = λ f g h.
        let (old, this) = every-parts f found (q ∷ []) g in
        let (asked, others) = every-parts f kids waiting h in
        every_joined _ found (q ∷ [])
        (s.closed f old (and_from (f q) (every f waiting) (and_parts (f q) true this).0 others))
        (and_from (every f kids) true asked refl);
    atoms = λ same equal L. ap (λ xs. mention_all same L xs) moved ∙ s.atoms same equal L;
    covered = all-append _ found (q ∷ []) (all-weaker _ _ found later s.covered) (itself, tt);
  } where
    kids : List ℕ
    kids = asked_of_string (position_at T q)

    own : List Atom
    own = own_atoms (position_at T q)

    inside : (nat_lt q (length T) ≡ true) × (every (λ k. nat_lt k (length T)) waiting ≡ true)
    inside = and_parts (nat_lt q (length T)) _ s.waiting_within

    moved : atoms_of T (found ++ q ∷ []) ++ flat_map (λ k. atoms T k) (kids ++ waiting)
        ≡ atoms_of T found ++ flat_map (λ k. atoms T k) (q ∷ waiting)
    moved =
        let A = atoms_of T found in
        let K = flat_map (λ k. atoms T k) kids in
        let R = flat_map (λ k. atoms T k) waiting in
        let left : atoms_of T (found ++ q ∷ []) ≡ A ++ own =
        flat_map-append (λ k. own_atoms (position_at T k)) found (q ∷ []) ∙ ap (λ xs. A ++ xs) (append-nil own) in
        let right : flat_map (λ k. atoms T k) (kids ++ waiting) ≡ K ++ R =
        flat_map-append (λ k. atoms T k) kids waiting in
        let whole : atoms T q ≡ own ++ K = asks q in
        ap₂ (λ xs ys. xs ++ ys) left right ∙ append_assoc A own (K ++ R)
        ∙ ap (λ xs. A ++ xs) (sym (append_assoc own K R) ∙ ap (λ xs. xs ++ R) (sym whole))

    parts : (f : Atom → Bool) → every f (atoms_of T (found ++ q ∷ [])) ≡ true
        → (every f (atoms_of T found) ≡ true) × (every f own ≡ true)
    parts f g =
        let (old, this) =
        every-parts f (atoms_of T found) (atoms_of T (q ∷ []))
        (ap (λ xs. every f xs) (sym (flat_map-append (λ k. own_atoms (position_at T k)) found (q ∷ []))) ∙ g) in
        (old, (every-parts f own [] this).0)

    -- all atoms of the position, from its own and those of the positions that it depends on
    all_of : (f : Atom → Bool) → every f (atoms_of T (found ++ q ∷ [])) ≡ true
        → every f (flat_map (λ k. atoms T k) kids) ≡ true → every f (atoms T q) ≡ true
    all_of f g h =
        let (old, this) = parts f g in
        ap (λ xs. every f xs) (asks q) ∙ every_joined f own (flat_map (λ k. atoms T k) kids) this h

    -- what is waiting of lesser rank than v, where it has greater rank than the new one
    asked_first : (f : Atom → Bool) (v : ℕ)
        → AllByRecursion (λ k. get_or ranks k 0 < get_or ranks v 0) kids
        → every f (flat_map (λ k. atoms T k) (lower ranks v (kids ++ waiting))) ≡ true
        → (every f (flat_map (λ k. atoms T k) kids) ≡ true)
        × (every f (flat_map (λ k. atoms T k) (lower ranks v waiting)) ≡ true)
    asked_first f v less h =
        every-parts f (flat_map (λ k. atoms T k) kids) (flat_map (λ k. atoms T k) (lower ranks v waiting))
        (ap (λ xs. every f xs) (sym (flat_map-append (λ k. atoms T k) kids (lower ranks v waiting)))
        ∙ ap (λ xs. every f (flat_map (λ k. atoms T k) xs)) (sym (lower-append ranks v kids waiting less)) ∙ h)

    later : (v : ℕ) → Covers T ranks found (q ∷ waiting) v → Covers T ranks (found ++ q ∷ []) (kids ++ waiting) v
    later v c f g h = c f (parts f g).0 (go (nat_lt (get_or ranks q 0) (get_or ranks v 0)) refl) where
      go : (b : Bool) → nat_lt (get_or ranks q 0) (get_or ranks v 0) ≡ b
          → every f (flat_map (λ k. atoms T k) (cond b (q ∷ lower ranks v waiting) [])) ≡ true
      go true l =
          let below : get_or ranks q 0 < get_or ranks v 0 = ltb-true _ _ l in
          let (asked, others) =
          asked_first f v (all-weaker _ _ kids (λ k m. omega (arith, m, below)) (falls q)) h in
          every_joined f (atoms T q) (flat_map (λ k. atoms T k) (lower ranks v waiting)) (all_of f g asked) others
      go false l = refl

    itself : Covers T ranks (found ++ q ∷ []) (kids ++ waiting) q
    itself f g h = all_of f g (asked_first f q (falls q) h).0

  -- where no position is waiting, all that the position depends on are found
  pub search-end : (p : ℕ) (found : List ℕ) → IsSearch T ranks p found [] → AreReached T p found
  search-end p found s = record {
    within = s.within;
    has_root = s.has_root (has_place found) (has-all found) refl;
    closed = s.closed (has_place found) (has-all found) refl;
    atoms = λ same equal L. sym (mention_all-append same L (atoms_of T found) []) ∙ s.atoms same equal L;
  }

  -- a new position, with its lists given by equations
  pub search-new : (p q : ℕ) (found keys W waiting next : List ℕ) (P : Position)
      → IsSearch T ranks p found waiting → waiting ≡ q ∷ W → keys ≡ found ++ q ∷ [] → P ≡ position_at T q
      → next ≡ asked_of_string P ++ W → IsSearch T ranks p keys next
  search-new p q found keys W waiting next P s e f g h =
      subst (λ ks. IsSearch T ranks p ks next) (sym f)
      (subst (λ ws. IsSearch T ranks p (found ++ q ∷ []) ws) (sym (h ∙ ap (λ X. asked_of_string X ++ W) g))
      (search-anew p q found W (subst (λ ws. IsSearch T ranks p found ws) e s)))

  pub search-old : (p q : ℕ) (found keys W waiting : List ℕ) → IsSearch T ranks p found waiting → waiting ≡ q ∷ W
      → keys ≡ found → has_place found q ≡ true → IsSearch T ranks p keys W
  search-old p q found keys W waiting s e f h =
      subst (λ ks. IsSearch T ranks p ks W) (sym f)
      (search-again p q found W (subst (λ ws. IsSearch T ranks p found ws) e s) h)
