-- Targets, judged one after another.
use Rattle.std.proofs.Common.{◌≡◌, ◌<◌, ℕ, zero, suc, List, [], ◌∷◌, ◌++◌, Bool, true, false, ◌&&◌, cond, nat_eq, nat_lt, take, length, get_or, Result, Ok, Err, refl, ◌∙◌, ap, arith}
use Rattle.std.proofs.lemmas.Bool.{and_parts, and_from, lt-ltb, ltb-true, le-ltb, eq-eqb, eqb-true}
use Rattle.verdicts.specs.Rules.{wrong_target}
use Rattle.verdicts.specs.RowLines.{and_then, if_so, target, targets}

module _ {A : Type 0} (same : A → A → Bool) (extend : A → List A) (start : A) (count : ℕ) where
  -- one more is right
  pub targets_next : (k : ℕ) (ws us vs xs : List A) (ts : List ℕ)
      → targets same extend start count ws (take k xs) (take k ts) ≡ Ok us → k < length xs → k < length ts
      → target same extend start count us (get_or xs k start) (get_or ts k 0) ≡ Ok vs
      → targets same extend start count ws (take (suc k) xs) (take (suc k) ts) ≡ Ok vs
  targets_next k ws us vs [] ts e l m f = absurd (omega (arith, l))
  targets_next k ws us vs (x ∷ xs) [] e l m f = absurd (omega (arith, m))
  targets_next zero ws us vs (x ∷ xs) (t ∷ ts) e l m f =
      let q : ws ≡ us = cc e in
      ap (λ z. and_then (λ ys. targets same extend start count ys [] []) (target same extend start count z x t)) q
      ∙ ap (and_then (λ ys. targets same extend start count ys [] [])) f
  targets_next (suc k) ws us vs (x ∷ xs) (t ∷ ts) e l m f =
      go (target same extend start count ws x t) refl e
      (λ ys g. targets_next k ys us vs xs ts g (omega (arith, l)) (omega (arith, m)) f) where
        go : (r : Result (List A) ℕ) → target same extend start count ws x t ≡ r
            → and_then (λ ys. targets same extend start count ys (take k xs) (take k ts)) r ≡ Ok us
            → ((ys : List A) → targets same extend start count ys (take k xs) (take k ts) ≡ Ok us
            → targets same extend start count ys (take (suc k) xs) (take (suc k) ts) ≡ Ok vs)
            → and_then (λ ys. targets same extend start count ys (take (suc k) xs) (take (suc k) ts))
            (target same extend start count ws x t) ≡ Ok vs
        go (Err r) h e more = absurd (cc e)
        go (Ok ys) h e more =
            ap (and_then (λ ys. targets same extend start count ys (take (suc k) xs) (take (suc k) ts))) h ∙ more ys e

  -- the first wrong one decides
  pub targets_stop : (k r : ℕ) (ws us xs : List A) (ts : List ℕ)
      → targets same extend start count ws (take k xs) (take k ts) ≡ Ok us → k < length xs → k < length ts
      → target same extend start count us (get_or xs k start) (get_or ts k 0) ≡ Err r
      → targets same extend start count ws xs ts ≡ Err r
  targets_stop k r ws us [] ts e l m f = absurd (omega (arith, l))
  targets_stop k r ws us (x ∷ xs) [] e l m f = absurd (omega (arith, m))
  targets_stop zero r ws us (x ∷ xs) (t ∷ ts) e l m f =
      let q : ws ≡ us = cc e in
      ap (λ z. and_then (λ ys. targets same extend start count ys xs ts) (target same extend start count z x t)) q
      ∙ ap (and_then (λ ys. targets same extend start count ys xs ts)) f
  targets_stop (suc k) r ws us (x ∷ xs) (t ∷ ts) e l m f =
      go (target same extend start count ws x t) refl e
      (λ ys g. targets_stop k r ys us xs ts g (omega (arith, l)) (omega (arith, m)) f) where
        go : (j : Result (List A) ℕ) → target same extend start count ws x t ≡ j
            → and_then (λ ys. targets same extend start count ys (take k xs) (take k ts)) j ≡ Ok us
            → ((ys : List A) → targets same extend start count ys (take k xs) (take k ts) ≡ Ok us
            → targets same extend start count ys xs ts ≡ Err r)
            → and_then (λ ys. targets same extend start count ys xs ts)
            (target same extend start count ws x t) ≡ Err r
        go (Err j) h e more = absurd (cc e)
        go (Ok ys) h e more = ap (and_then (λ ys. targets same extend start count ys xs ts)) h ∙ more ys e

  -- a row that was mentioned, with that state
  pub target_known : (ws : List A) (x : A) (t : ℕ) → t < length ws → same x (get_or ws t start) ≡ true
      → target same extend start count ws x t ≡ Ok ws
  target_known ws x t l e =
      ap (λ b. cond b (if_so wrong_target (same x (get_or ws t start)) ws)
      (if_so wrong_target (nat_eq t (length ws) && nat_lt t count) (ws ++ x ∷ []))) (lt-ltb t (length ws) l)
      ∙ ap (λ b. if_so wrong_target b ws) e

  -- a target with another state than the word is refused
  pub target_other : (ws : List A) (x : A) (t : ℕ) → t < length ws → same x (get_or ws t start) ≡ false
      → target same extend start count ws x t ≡ Err wrong_target
  target_other ws x t l e =
      ap (λ b. cond b (if_so wrong_target (same x (get_or ws t start)) ws)
      (if_so wrong_target (nat_eq t (length ws) && nat_lt t count) (ws ++ x ∷ []))) (lt-ltb t (length ws) l)
      ∙ ap (λ b. if_so wrong_target b ws) e

  past : (ws : List A) (x : A) (t : ℕ) (b : Bool) → (t < length ws → ⊥) → (nat_eq t (length ws) && nat_lt t count) ≡ b
      → target same extend start count ws x t ≡ if_so wrong_target b (ws ++ x ∷ [])
  past ws x t b l e =
      ap (λ b. cond b (if_so wrong_target (same x (get_or ws t start)) ws)
      (if_so wrong_target (nat_eq t (length ws) && nat_lt t count) (ws ++ x ∷ [])))
      (le-ltb t (length ws) (omega (arith, l)))
      ∙ ap (λ b. if_so wrong_target b (ws ++ x ∷ [])) e

  -- the next row
  pub target_new : (ws : List A) (x : A) (t : ℕ) → t ≡ length ws → t < count
      → target same extend start count ws x t ≡ Ok (ws ++ x ∷ [])
  target_new ws x t e l =
      past ws x t true (λ m. omega (arith, m, e))
      (and_from (nat_eq t (length ws)) (nat_lt t count) (eq-eqb t (length ws) e) (lt-ltb t count l))

  -- no row that there is, and not the next one
  pub target_past : (ws : List A) (x : A) (t : ℕ) → (t < length ws → ⊥) → (t ≡ length ws → t < count → ⊥)
      → target same extend start count ws x t ≡ Err wrong_target
  target_past ws x t l m = go (nat_eq t (length ws) && nat_lt t count) refl where
    go : (b : Bool) → (nat_eq t (length ws) && nat_lt t count) ≡ b
        → target same extend start count ws x t ≡ Err wrong_target
    go false e = past ws x t false l e
    go true e =
        let (a, b) = and_parts (nat_eq t (length ws)) (nat_lt t count) e in
        absurd (m (eqb-true t (length ws) a) (ltb-true t count b))
