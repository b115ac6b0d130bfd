-- The rows that are named by some steps are a beginning of the rows, and a target is the next row exactly where the row
-- that it leads to wasn't named.
use Rattle.std.proofs.Common.{◌≡◌, ℕ, suc, ◌+◌, ◌<◌, ◌⊎◌, inl, inr, Bool, true, false, ◌||◌, not, cond, if◌then◌else◌, List, [], ◌∷◌, ◌++◌, flat_map, take, drop, length, get_or, refl, ap, sym, ◌∙◌, subst, append-nil, append_assoc, length-append, arith}
use Rattle.std.proofs.Math.Seq.{take-suc, get_or-append_seam}
use Rattle.std.specs.List.{list_any, position_or_len}
use Rattle.std.proofs.lemmas.Bool.{cases_lt}
use Rattle.std.proofs.lemmas.List.{length-map, take-append-drop, get_or_append_left, get_or-map}
use Rattle.std.proofs.lemmas.List.Concat.{flat_map-append}
use Rattle.word_states.specs.Atom.{Atom}
use Rattle.word_states.specs.Classes.{class_firsts, class_count}
use Rattle.word_states.specs.Mention.{mention, mention_all}
use Rattle.word_states.specs.WordState.{have_same_state}
use Rattle.word_states.specs.Rows.{AreRows, row_of, targets_of}
use Rattle.word_laws.proofs.Mentions as M
use Rattle.word_laws.proofs.Places.{place_below}
use Rattle.word_laws.proofs.States.{same_laws}
use Rattle.js_row_words.specs.declared.row_steps.Step.{Step}
use Rattle.js_row_words.specs.Naming.{longer, named}
use Rattle.js_row_words.specs.Steps.{no_step, IsStep, AreSteps}

get_here : {A : Type 0} (K : List A) (x d : A) (Y : List A) → get_or (K ++ x ∷ Y) (length K) d ≡ x
get_here [] x d Y = refl
get_here (y ∷ K) x d Y = get_here K x d Y

module _ (atoms : List Atom) where
  abbrev same : List ℕ → List ℕ → Bool
  same = have_same_state atoms

  -- the place in a longer list of what a beginning has is its place there
  place_left : (x : List ℕ) (K Z : List (List ℕ)) → list_any (same x) K ≡ true
      → position_or_len (same x) (K ++ Z) ≡ position_or_len (same x) K
  place_left x [] Z h = cc h
  place_left x (y ∷ K) Z h = go (same x y) h (place_left x K Z) where
    go : (b : Bool) → (b || list_any (same x) K) ≡ true
        → (list_any (same x) K ≡ true → position_or_len (same x) (K ++ Z) ≡ position_or_len (same x) K)
        → cond (not b) (1 + position_or_len (same x) (K ++ Z)) 0 ≡ cond (not b) (1 + position_or_len (same x) K) 0
    go true h more = refl
    go false h more = ap (λ z. 1 + z) (more h)

  -- a word that the list hasn't comes behind it
  place_next : (x : List ℕ) (K Z : List (List ℕ)) → list_any (same x) K ≡ false
      → position_or_len (same x) (K ++ x ∷ Z) ≡ length K
  place_next x [] Z h =
      let e = (same_laws atoms).refl x in ap (λ b. cond (not b) (1 + position_or_len (same x) Z) 0) e
  place_next x (y ∷ K) Z h = go (same x y) h (place_next x K Z) where
    go : (b : Bool) → (b || list_any (same x) K) ≡ false
        → (list_any (same x) K ≡ false → position_or_len (same x) (K ++ x ∷ Z) ≡ length K)
        → cond (not b) (1 + position_or_len (same x) (K ++ x ∷ Z)) 0 ≡ suc (length K)
    go true h more = cc h
    go false h more = let q = more h in omega (arith, q)

  module _ (L : List (List ℕ)) (rows : AreRows atoms L) where
    -- the word that row i leads to by class k
    abbrev pub next_word : ℕ → ℕ → List ℕ
    next_word i k = get_or L i [] ++ get_or (class_firsts atoms) k 0 ∷ []

    long : (i : ℕ) → length (longer atoms (get_or L i [])) ≡ class_count atoms
    long i = length-map (class_firsts atoms) (λ c. get_or L i [] ++ c ∷ [])

    named_next : (i k : ℕ) → k < class_count atoms
        → named atoms L i (suc k) ≡ mention same (named atoms L i k) (next_word i k)
    named_next i k l =
        let A = flat_map (longer atoms) (take i L) in
        let B = longer atoms (get_or L i []) in
        let e : take (suc k) B ≡ take k B ++ next_word i k ∷ [] =
        take-suc B k [] (let n = long i in omega (arith, n, l))
        ∙ ap (λ z. take k B ++ z ∷ []) (get_or-map (λ c. get_or L i [] ++ c ∷ []) (class_firsts atoms) k 0 [] l) in
        ap (λ z. mention_all same [] ([] ∷ A ++ z)) e
        ∙ ap (λ z. mention_all same [] ([] ∷ z)) (sym (append_assoc A (take k B) (next_word i k ∷ [])))
        ∙ M.mentions_append same (same_laws atoms) [] ([] ∷ A ++ take k B) (next_word i k ∷ [])

    -- all words that rows mention, in two parts
    named_split : (i k : ℕ) → i < length L → (X : List (List ℕ))
        × (flat_map (longer atoms) L
        ≡ (flat_map (longer atoms) (take i L) ++ take k (longer atoms (get_or L i []))) ++ X)
    named_split i k l =
        let A = flat_map (longer atoms) (take i L) in
        let B = longer atoms (get_or L i []) in
        let C = flat_map (longer atoms) (drop (suc i) L) in (
          drop k B ++ C,
          ap (flat_map (longer atoms)) (sym (take-append-drop (suc i) L))
              ∙ flat_map-append (longer atoms) (take (suc i) L) (drop (suc i) L)
              ∙ ap (λ z. flat_map (longer atoms) z ++ C) (take-suc L i [] l)
              ∙ ap (λ z. z ++ C)
              (flat_map-append (longer atoms) (take i L) (get_or L i [] ∷ []) ∙ ap (λ z. A ++ z) (append-nil B))
              ∙ ap (λ z. (A ++ z) ++ C) (sym (take-append-drop k B))
              ∙ ap (λ z. z ++ C) (sym (append_assoc A (take k B) (drop k B)))
              ∙ append_assoc (A ++ take k B) (drop k B) C,
        )

    named_begins : (i k : ℕ) → i < length L → (Z : List (List ℕ)) × (L ≡ named atoms L i k ++ Z)
    named_begins i k l =
        let (X, e) = named_split i k l in
        let (Z, p) = M.mentions_grow same (same_laws atoms) (named atoms L i k) X in (
          Z,
          rows ∙ ap (λ z. mention_all same [] ([] ∷ z)) e
              ∙ M.mentions_append same (same_laws atoms) []
              ([] ∷ flat_map (longer atoms) (take i L) ++ take k (longer atoms (get_or L i []))) X
              ∙ p,
        )

    abbrev pub target : ℕ → ℕ → ℕ
    target i k = get_or (targets_of atoms L (get_or L i [])) k 0

    target_is : (i k : ℕ) → k < class_count atoms → target i k ≡ row_of atoms L (next_word i k)
    target_is i k l = get_or-map (λ c. row_of atoms L (get_or L i [] ++ c ∷ [])) (class_firsts atoms) k 0 0 l

    -- the row that is led to was named; or it is the next one, and its word is the one that leads there
    pub named_step : (i k : ℕ) → i < length L → k < class_count atoms
        → ((target i k < length (named atoms L i k))
        × (length (named atoms L i (suc k)) ≡ length (named atoms L i k)))
        ⊎ ((target i k ≡ length (named atoms L i k)) × (get_or L (length (named atoms L i k)) [] ≡ next_word i k)
        × (length (named atoms L i (suc k)) ≡ suc (length (named atoms L i k))))
    named_step i k l m =
        let (Z, e) = named_begins i (suc k) l in
        go (list_any (same (next_word i k)) (named atoms L i k)) refl Z (named_next i k m)
        (e ∙ ap (λ z. z ++ Z) (named_next i k m)) where
          go : (b : Bool) → list_any (same (next_word i k)) (named atoms L i k) ≡ b → (Z : List (List ℕ))
              → named atoms L i (suc k) ≡ (if b then named atoms L i k else named atoms L i k ++ next_word i k ∷ [])
              → L ≡ (if b then named atoms L i k else named atoms L i k ++ next_word i k ∷ []) ++ Z
              → ((target i k < length (named atoms L i k))
              × (length (named atoms L i (suc k)) ≡ length (named atoms L i k)))
              ⊎ ((target i k ≡ length (named atoms L i k)) × (get_or L (length (named atoms L i k)) [] ≡ next_word i k)
              × (length (named atoms L i (suc k)) ≡ suc (length (named atoms L i k))))
          go true h Z n e =
              let t : target i k ≡ position_or_len (same (next_word i k)) (named atoms L i k) =
              target_is i k m ∙ ap (position_or_len (same (next_word i k))) e
              ∙ place_left (next_word i k) (named atoms L i k) Z h in
              let b = place_below same (same_laws atoms) (next_word i k) (named atoms L i k) h in
              inl (omega (arith, t, b), ap length n)
          go false h Z n e =
              let f : L ≡ named atoms L i k ++ next_word i k ∷ Z =
              e ∙ append_assoc (named atoms L i k) (next_word i k ∷ []) Z in
              let s = length-append (named atoms L i k) (next_word i k ∷ []) in
              let n' = ap length n in inr (
                target_is i k m ∙ ap (position_or_len (same (next_word i k))) f
                    ∙ place_next (next_word i k) (named atoms L i k) Z h,
                ap (λ z. get_or z (length (named atoms L i k)) []) f
                    ∙ get_here (named atoms L i k) (next_word i k) [] Z,
                omega (arith, n', s),
              )

    -- one more step
    pub step_more : (steps new : List Step) (i k : ℕ) → i < length L → k < class_count atoms
        → AreSteps atoms L steps (length steps)
        → get_or L (length steps) [] ≡ next_word i k
        → new ≡ steps ++ record { row = i; class = k } ∷ []
        → AreSteps atoms L new (length new)
    step_more steps new i k l m are word e j p q =
        let s = length-append steps (record { row = i; class = k } ∷ []) in
        let n = ap length e in
        subst (λ z. IsStep atoms L j (get_or z j no_step)) (sym e)
        (elim (cases_lt j (length steps)) [
          | inl o ↦ subst (λ z. IsStep atoms L j z)
              (sym (get_or_append_left steps (record { row = i; class = k } ∷ []) no_step j o)) (are j p o)
          | inr o ↦
              let same_place : j ≡ length steps = omega (arith, o, q, s, n) in
              subst (λ z. IsStep atoms L j z)
              (sym (ap (λ z. get_or (steps ++ record { row = i; class = k } ∷ []) z no_step) same_place
              ∙ get_or-append_seam steps (record { row = i; class = k }) [] no_step))
              (record { row = l; class = m; word = ap (λ z. get_or L z []) same_place ∙ word })
        ])
