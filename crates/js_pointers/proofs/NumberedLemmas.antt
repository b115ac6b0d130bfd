-- Where each step is found at its number, what is found is its first place, and one more step takes the next number.
use Rattle.std.proofs.Common.{◌≡◌, ℕ, ◌<◌, List, [], ◌∷◌, ◌++◌, length, get_or, Bool, true, false, cond, nat_lt, Option, Some, None, position, refl, sym, ap, ◌∙◌, arith}
use Rattle.std.specs.List.{position_or_len, list_any}
use Rattle.std.proofs.lemmas.Option.{none-some, same_Some}
use Rattle.std.proofs.lemmas.Bool.{ltb-true, ltb-false}
use Rattle.std.proofs.lemmas.List.{length_push}
use Rattle.std.proofs.lemmas.List.Sums.{position_or_len_is}
use Rattle.std.proofs.Math.ListN.{get_or-append}
use Rattle.std.proofs.Math.Seq.{get_or-append_seam}
use Rattle.indexmap.specs.IndexSet.{insert_key}
use Rattle.js_pointers.specs.Numbered.{IsNumbered, same_step}
use Rattle.js_pointers.proofs.PositionLemmas.{position-within, position-beyond, position_or_len-all_fail, position_or_len-passes}
use Rattle.js_pointers.proofs.SameStepLemmas.{pair, same_step-true, same_step-refl}

-- A set of keys.

insert-there : {A : Type 0} (eq : A → A → Bool) (xs : List A) (x : A)
    → position_or_len (eq x) xs < length xs → xs ≡ insert_key eq xs x
insert-there eq xs x less = go (list_any (eq x) xs) refl
  where
    go : (b : Bool) → list_any (eq x) xs ≡ b → xs ≡ cond b xs (xs ++ x ∷ [])
    go true e = refl
    go false e = let all = position_or_len-all_fail (eq x) xs e in absurd (omega (arith, all, less))

insert-last : {A : Type 0} (eq : A → A → Bool) (xs : List A) (x : A)
    → position_or_len (eq x) xs ≡ length xs → xs ++ x ∷ [] ≡ insert_key eq xs x
insert-last eq xs x all = go (list_any (eq x) xs) refl
  where
    go : (b : Bool) → list_any (eq x) xs ≡ b → xs ++ x ∷ [] ≡ cond b xs (xs ++ x ∷ [])
    go true e = let less = position_or_len-passes (eq x) xs e in absurd (omega (arith, all, less))
    go false e = refl

module _ (steps : List (ℕ × ℕ)) (found : ℕ → ℕ → Option ℕ) (numbered : IsNumbered steps found) where
  -- Steps that are there, and others.

  module _ (of token : ℕ) where
    found-at : (k : ℕ) → k < length steps → same_step (of, token) (get_or steps k (0, 0)) ≡ true
        → found of token ≡ Some k
    found-at k less h =
        let same = same_step-true (of, token) (get_or steps k (0, 0)) h in
        ap (λ s. found s.0 s.1) same ∙ numbered.complete k less

    pub index-there : (i : ℕ) → found of token ≡ Some i → i ≡ position_or_len (same_step (of, token)) steps
    index-there i h =
        let at = numbered.sound of token i h in
        let less = at.0 in
        sym (position_or_len_is (same_step (of, token)) steps i (0, 0) (omega (arith, less)) earlier
        (λ l. ap (same_step (of, token)) at.1 ∙ same_step-refl (of, token)))
      where
        earlier : (k : ℕ) → k < i → same_step (of, token) (get_or steps k (0, 0)) ≡ false
        earlier k l = go (same_step (of, token) (get_or steps k (0, 0))) refl
          where
            go : (b : Bool) → same_step (of, token) (get_or steps k (0, 0)) ≡ b → b ≡ false
            go false e = refl
            go true e =
                let less = (numbered.sound of token i h).0 in
                let same = same_Some k i (sym (found-at k (omega (arith, less, l)) e) ∙ h) in
                absurd (omega (arith, same, l))

    pub index-new : found of token ≡ None → length steps ≡ position_or_len (same_step (of, token)) steps
    index-new h =
        sym (position_or_len_is (same_step (of, token)) steps (length steps) (0, 0) (omega arith) all
        (λ l. absurd (omega (arith, l))))
      where
        all : (k : ℕ) → k < length steps → same_step (of, token) (get_or steps k (0, 0)) ≡ false
        all k l = go (same_step (of, token) (get_or steps k (0, 0))) refl
          where
            go : (b : Bool) → same_step (of, token) (get_or steps k (0, 0)) ≡ b → b ≡ false
            go false e = refl
            go true e = absurd (none-some k (sym h ∙ found-at k l e))

    pub within-there : (i : ℕ) → found of token ≡ Some i → i < length steps
    within-there i h = (numbered.sound of token i h).0

    pub keys-there : (i : ℕ) → found of token ≡ Some i → steps ≡ insert_key same_step steps (of, token)
    keys-there i h =
        let index = index-there i h in
        let less = within-there i h in
        insert-there same_step steps (of, token) (omega (arith, index, less))

    pub keys-new : found of token ≡ None
        → steps ++ pair of token ∷ [] ≡ insert_key same_step steps (of, token)
    keys-new h = insert-last same_step steps (of, token) (sym (index-new h))

    pub found-position : found of token ≡ position (same_step (of, token)) steps
    found-position = go (found of token) refl
      where
        go : (o : Option ℕ) → found of token ≡ o → o ≡ position (same_step (of, token)) steps
        go (Some i) h = position-within _ _ i (sym (index-there i h)) (within-there i h)
        go None h = position-beyond _ _ (sym (index-new h))

  -- Changes.

  pub numbered-same : (new : ℕ → ℕ → Option ℕ) → ((k t : ℕ) → new k t ≡ found k t) → IsNumbered steps new
  numbered-same new same = record {
    sound = λ of token i h. numbered.sound of token i (sym (same of token) ∙ h);
    complete = λ i l. same _ _ ∙ numbered.complete i l;
  }

  module _ (of token n : ℕ) (new : ℕ → ℕ → Option ℕ) (missing : found of token ≡ None) (next : n ≡ length steps)
      (noted : (k t : ℕ) → new k t ≡ cond (same_step (of, token) (k, t)) (Some n) (found k t)) where
    abbrev longer : List (ℕ × ℕ)
    longer = steps ++ pair of token ∷ []

    last : get_or longer (length steps) (0, 0) ≡ pair of token
    last = get_or-append_seam steps (pair of token) [] (0, 0)

    sound-more : (k t i : ℕ) → new k t ≡ Some i → (i < length longer) × (get_or longer i (0, 0) ≡ (k, t))
    sound-more k t i h = go (same_step (of, token) (k, t)) refl (sym (noted k t) ∙ h)
      where
        go : (b : Bool) → same_step (of, token) (k, t) ≡ b → cond b (Some n) (found k t) ≡ Some i
            → (i < length longer) × (get_or longer i (0, 0) ≡ (k, t))
        go true e is =
            let long = length_push steps (pair of token) in
            let at = same_Some n i is in (
              omega (arith, long, at, next),
              ap (λ j. get_or longer j (0, 0)) (sym at ∙ next) ∙ last ∙ same_step-true (of, token) (k, t) e,
            )
        go false e is =
            let long = length_push steps (pair of token) in
            let at = numbered.sound k t i is in
            let less = at.0 in (
              omega (arith, long, less),
              get_or-append steps (pair of token ∷ []) (0, 0) i less ∙ at.1,
            )

    complete-old : (i : ℕ) → i < length steps → (s : ℕ × ℕ) → s ≡ get_or steps i (0, 0) → new s.0 s.1 ≡ Some i
    complete-old i l s is = noted s.0 s.1 ∙ go (same_step (of, token) s) refl
      where
        there : found s.0 s.1 ≡ Some i
        there = ap (λ r. found r.0 r.1) is ∙ numbered.complete i l

        go : (b : Bool) → same_step (of, token) s ≡ b → cond b (Some n) (found s.0 s.1) ≡ Some i
        go false e = there
        go true e =
            absurd (none-some i (sym missing ∙ ap (λ r. found r.0 r.1) (same_step-true (of, token) s e) ∙ there))

    complete-last : new of token ≡ Some (length steps)
    complete-last =
        noted of token ∙ ap (λ b. cond b (Some n) (found of token)) (same_step-refl (of, token)) ∙ ap Some next

    complete-more : (i : ℕ) → i < length longer → new (get_or longer i (0, 0)).0 (get_or longer i (0, 0)).1 ≡ Some i
    complete-more i l = go (nat_lt i (length steps)) refl
      where
        go : (b : Bool) → nat_lt i (length steps) ≡ b
            → new (get_or longer i (0, 0)).0 (get_or longer i (0, 0)).1 ≡ Some i
        go true e =
            let less = ltb-true i (length steps) e in
            complete-old i less (get_or longer i (0, 0)) (get_or-append steps (pair of token ∷ []) (0, 0) i less)
        go false e =
            let most = ltb-false i (length steps) e in
            let long = length_push steps (pair of token) in
            let at : i ≡ length steps = omega (arith, l, long, most) in
            ap (λ s. new s.0 s.1) (ap (λ j. get_or longer j (0, 0)) at ∙ last) ∙ complete-last ∙ ap Some (sym at)

    -- with one more step, at the next number, each step is found at its number
    pub numbered-more : IsNumbered longer new
    numbered-more = record { sound = sound-more; complete = complete-more }
