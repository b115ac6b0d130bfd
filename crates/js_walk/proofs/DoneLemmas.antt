-- An entry is where it is noted for its key, and nothing else has that key.
use Rattle.std.proofs.Common.{◌≡◌, ◌≢◌, ℕ, zero, suc, ◌≤◌, ◌<◌, List, [], ◌∷◌, ◌++◌, length, get_or, Bool, true, false, cond, nat_lt, nat_eq, Option, Some, None, is_some, position, refl, sym, ap, subst, ◌∙◌, arith, length-append}
use Rattle.std.proofs.Math.ListN.{set}
use Rattle.std.proofs.lemmas.List.Quantifiers.{position-Some}
use Rattle.std.specs.Map.{keys_of, lookup}
use Rattle.std.proofs.lemmas.Bool.{false≢true, eqb-true, eq-eqb, ltb-true, ltb-false}
use Rattle.std.proofs.lemmas.List.{get_or-set_same, get_or-set_other, length-set, map-append}
use Rattle.std.proofs.Math.ListN.{get_or-append}
use Rattle.std.proofs.Math.Seq.{get_or-append_seam}
use Rattle.js_pointers.proofs.PositionLemmas.{position-None}
use Rattle.js_walk.specs.Noted.{AreNoted}

-- the first that passes is the only one
position-only : (test : ℕ → Bool) (ks : List ℕ) (k : ℕ) → k < length ks → test (get_or ks k 0) ≡ true
    → ((j : ℕ) → j < length ks → test (get_or ks j 0) ≡ true → j ≡ k) → position test ks ≡ Some k
position-only test ks k less is only = go (position test ks) refl
  where
    go : (o : Option ℕ) → position test ks ≡ o → o ≡ Some k
    go (Some j) e = let at = position-Some test ks j 0 e in ap Some (only j at.0 at.1)
    go None e = absurd (false≢true (sym (position-None test ks k 0 e less) ∙ is))

position-no : (test : ℕ → Bool) (ks : List ℕ)
    → ((j : ℕ) → j < length ks → test (get_or ks j 0) ≡ true → ⊥) → position test ks ≡ None
position-no test ks never = go (position test ks) refl
  where
    go : (o : Option ℕ) → position test ks ≡ o → o ≡ None
    go (Some j) e = let at = position-Some test ks j 0 e in absurd (never j at.0 at.1)
    go None e = refl

pub length-keys : {V : Type 0} (es : List (ℕ × V)) → length (keys_of es) ≡ length es
length-keys [] = refl
length-keys (e ∷ es) = ap suc (length-keys es)

pub key-at : {V : Type 0} (es : List (ℕ × V)) (i : ℕ) (d : ℕ × V) → i < length es
    → get_or (keys_of es) i 0 ≡ (get_or es i d).0
key-at [] i d less = absurd (omega (arith, less))
key-at (e ∷ es) zero d less = refl
key-at (e ∷ es) (suc i) d less = key-at es i d (omega (arith, less))

module _ (ks places : List ℕ) (noted : AreNoted ks places) (p : ℕ) where
  stands : (j : ℕ) → j < length ks → nat_eq p (get_or ks j 0) ≡ true → (p < length places) × (get_or places p 0 ≡ j)
  stands j less h =
      let same = eqb-true p (get_or ks j 0) h in
      let n = noted j less in (
        subst (λ q. q < length places) (sym same) n.0,
        ap (λ q. get_or places q 0) same ∙ n.1,
      )

  pub noted-there : (k : ℕ) → k ≡ get_or places p 0 → k < length ks → get_or ks k 0 ≡ p
      → position (nat_eq p) ks ≡ Some k
  noted-there k e less is =
      position-only (nat_eq p) ks k less (eq-eqb p (get_or ks k 0) (sym is))
      (λ j l h. sym (stands j l h).1 ∙ sym e)

  pub noted-beyond : (k : ℕ) → k ≡ get_or places p 0 → length ks ≤ k → position (nat_eq p) ks ≡ None
  noted-beyond k e least =
      position-no (nat_eq p) ks (λ j l h. let s = (stands j l h).1 in omega (arith, s, e, l, least))

  pub noted-other : (k : ℕ) → k ≡ get_or places p 0 → (get_or ks k 0 ≡ p → ⊥) → position (nat_eq p) ks ≡ None
  noted-other k e other =
      position-no (nat_eq p) ks
      (λ j l h. other (ap (λ i. get_or ks i 0) (e ∙ (stands j l h).1) ∙ sym (eqb-true p (get_or ks j 0) h)))

  pub noted-nowhere : length places ≤ p → position (nat_eq p) ks ≡ None
  noted-nowhere least =
      position-no (nat_eq p) ks (λ j l h. let s = (stands j l h).0 in omega (arith, s, least))

-- a key that is there is looked up
there : {V : Type 0} (p : ℕ) (es : List (ℕ × V)) (j : ℕ) → j < length (keys_of es)
    → nat_eq p (get_or (keys_of es) j 0) ≡ true → is_some (lookup (nat_eq p) es) ≡ true
there p [] j less h = absurd (omega (arith, less))
there p (e ∷ es) zero less h = ap (λ b. is_some (cond b (Some e.1) (lookup (nat_eq p) es))) h
there p (e ∷ es) (suc j) less h = at (nat_eq p e.0) (there p es j (omega (arith, less)) h)
  where
    at : (b : Bool) → is_some (lookup (nat_eq p) es) ≡ true → is_some (cond b (Some e.1) (lookup (nat_eq p) es)) ≡ true
    at true h = refl
    at false h = h

nowhere : {V : Type 0} (p : ℕ) (es : List (ℕ × V))
    → ((j : ℕ) → j < length (keys_of es) → nat_eq p (get_or (keys_of es) j 0) ≡ false)
    → is_some (lookup (nat_eq p) es) ≡ false
nowhere p [] never = refl
nowhere p (e ∷ es) never =
    ap (λ b. is_some (cond b (Some e.1) (lookup (nat_eq p) es))) (never 0 (omega arith))
    ∙ nowhere p es (λ j l. never (suc j) (omega (arith, l)))

-- whether a key is there, by its place and by what it leads to
pub lookup-position : {V : Type 0} (p : ℕ) (es : List (ℕ × V))
    → is_some (position (nat_eq p) (keys_of es)) ≡ is_some (lookup (nat_eq p) es)
lookup-position {V} p es = go (position (nat_eq p) (keys_of es)) refl
  where
    go : (o : Option ℕ) → position (nat_eq p) (keys_of es) ≡ o
        → is_some (position (nat_eq p) (keys_of es)) ≡ is_some (lookup (nat_eq p) es)
    go (Some j) e =
        let at = position-Some (nat_eq p) (keys_of es) j 0 e in ap is_some e ∙ sym (there p es j at.0 at.1)
    go None e = ap is_some e ∙ sym (nowhere p es (λ j l. position-None (nat_eq p) (keys_of es) j 0 e l))

-- one more key, of which it is noted that it comes last
pub noted-push : {V : Type 0} (es ds : List (ℕ × V)) (places rooms : List ℕ) (p n : ℕ) (d : V)
    → AreNoted (keys_of es) places
    → ((i : ℕ) → i < length places → (i < length rooms) × (get_or rooms i 0 ≡ get_or places i 0))
    → p < length rooms → is_some (lookup (nat_eq p) es) ≡ false → ds ≡ es ++ (p, d) ∷ [] → n ≡ length es
    → AreNoted (keys_of ds) (set rooms p n)
noted-push {V} es ds places rooms p n d noted stays room new e counted =
    subst (λ ks. AreNoted ks (set rooms p n)) (sym (ap keys_of e ∙ map-append (λ e. e.0) es ((p, d) ∷ []))) all
  where
    ks : List ℕ
    ks = keys_of es

    all : AreNoted (keys_of es ++ p ∷ []) (set rooms p n)
    all i less = go (nat_lt i (length (keys_of es))) refl
      where
        go : (b : Bool) → nat_lt i (length (keys_of es)) ≡ b
            → (get_or (keys_of es ++ p ∷ []) i 0 < length (set rooms p n))
            × (get_or (set rooms p n) (get_or (keys_of es ++ p ∷ []) i 0) 0 ≡ i)
        go true h =
            let l = ltb-true i (length (keys_of es)) h in
            let same = get_or-append (keys_of es) (p ∷ []) 0 i l in
            let was = noted i l in
            let kept = stays (get_or (keys_of es) i 0) was.0 in
            let other : get_or (keys_of es) i 0 ≢ p = λ q.
            false≢true (sym new ∙ there p es i l (eq-eqb p (get_or (keys_of es) i 0) (sym q))) in (
              rw (same, length-set) kept.0,
              ap (λ k. get_or (set rooms p n) k 0) same
                  ∙ get_or-set_other rooms p (get_or (keys_of es) i 0) n 0 other ∙ kept.1 ∙ was.1,
            )
        go false h =
            let most = ltb-false i (length (keys_of es)) h in
            let long = length-append (keys_of es) (p ∷ []) in
            let last : i ≡ length (keys_of es) = omega (arith, most, long, less) in
            let same : get_or (keys_of es ++ p ∷ []) i 0 ≡ p =
            ap (λ k. get_or (keys_of es ++ p ∷ []) k 0) last ∙ get_or-append_seam (keys_of es) p [] 0 in
            let size = length-keys es in (
              rw (same, length-set) room,
              ap (λ k. get_or (set rooms p n) k 0) same ∙ get_or-set_same rooms p n 0 room
                  ∙ omega (arith, counted, size, last),
            )
