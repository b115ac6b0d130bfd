-- One and two of a list, found one after another.
use Rattle.std.proofs.Common.{◌≡◌, ℕ, zero, suc, ◌+◌, ◌<◌, drop, length, get_or, arith, Bool, true, false, ◌&&◌, ◌||◌, List, [], ◌∷◌, map, refl, ap, ap₂, sym, ◌∙◌}
use Rattle.std.proofs.Math.Bool.{and_assoc, or_assoc, and-or_distrib_right}
use Rattle.documents.specs.Tests.{every, some}
use Rattle.goals.specs.Signed.{Signed, Plus, Minus, has}
use Rattle.goals.specs.Choices.{one_plus, two_plus}
use Rattle.js_algebra.specs.View.{places}
use Rattle.js_algebra.specs.declared.node.Pos.{Pos}
use Rattle.goal_laws.proofs.OneLaws.{one_plus-some, two_plus-some}

split : (a b m : Bool) → (a && (b || m)) ≡ ((a && b) || (a && m))
split true b m = refl
split false b m = refl

module _ (S : List Signed) where
  abbrev is_in : Signed → Bool
  is_in x = has x S

  -- one more position of those of which exactly one is to hold
  pub one-more : (found one none : Bool) (p : ℕ) (ps : List ℕ)
      → found ≡ ((one && every is_in (map Minus (p ∷ ps))) || (none && some (every is_in) (one_plus (p ∷ ps))))
      → found ≡ ((((one && is_in (Minus p)) || (none && is_in (Plus p))) && every is_in (map Minus ps))
      || ((none && is_in (Minus p)) && some (every is_in) (one_plus ps)))
  one-more found one none p ps e =
      let rest = every is_in (map Minus ps) in
      let later = some (every is_in) (one_plus ps) in
      let out = is_in (Minus p) in
      let now = is_in (Plus p) in
      e
      ∙ ap (λ b. (one && (out && rest)) || (none && b)) (one_plus-some is_in p ps)
      ∙ ap (λ b. (one && (out && rest)) || b) (split none (now && rest) (out && later))
      ∙ sym (or_assoc (one && (out && rest)) (none && (now && rest)) (none && (out && later)))
      ∙ ap₂ (λ a b. a || b)
      (ap₂ (λ a b. a || b) (sym (and_assoc one out rest)) (sym (and_assoc none now rest))
      ∙ sym (and-or_distrib_right (one && out) (none && now) rest))
      (sym (and_assoc none out later))

  -- one more position of those of which two are to hold
  pub two-more : (found two one : Bool) (p : ℕ) (ps : List ℕ)
      → found ≡ (two || ((one && some (λ q. is_in (Plus q)) (p ∷ ps)) || some (every is_in) (two_plus (p ∷ ps))))
      → found ≡ ((two || (one && is_in (Plus p)))
      || (((one || is_in (Plus p)) && some (λ q. is_in (Plus q)) ps) || some (every is_in) (two_plus ps)))
  two-more found two one p ps e =
      e ∙ ap (λ b. two || ((one && some (λ q. is_in (Plus q)) (p ∷ ps)) || b)) (two_plus-some is_in p ps)
      ∙ go two one (is_in (Plus p)) (some (λ q. is_in (Plus q)) ps) (some (every is_in) (two_plus ps)) where
        go : (two one now more later : Bool) → (two || ((one && (now || more)) || ((now && more) || later)))
            ≡ ((two || (one && now)) || (((one || now) && more) || later))
        go true one now more later = refl
        go false true true more later = refl
        go false true false more later = refl
        go false false now more later = refl

-- the next position of a list

places-drop : (ps : List Pos) (i : ℕ) (d : Pos) → i < length ps
    → places (drop i ps) ≡ (get_or ps i d).0 ∷ places (drop (i + 1) ps)
places-drop [] i d l = absurd (omega arith)
places-drop (p ∷ ps) zero d l = refl
places-drop (p ∷ ps) (suc i) d l =
    let one : suc i + 1 ≡ suc (i + 1) = omega arith in
    rw one (places-drop ps i d (omega arith))

module _ (S : List Signed) (ps : List Pos) (i : ℕ) (d : Pos) (l : i < length ps) (now : Bool)
    (is_now : now ≡ has (Plus (get_or ps i d).0) S) where
  abbrev in_set : Signed → Bool
  in_set x = has x S

  -- the test of exactly one over what is left goes on with the next position
  pub one-next : (found one none out : Bool) → out ≡ has (Minus (get_or ps i d).0) S
      → found ≡ ((one && every in_set (map Minus (places (drop i ps))))
      || (none && some (every in_set) (one_plus (places (drop i ps)))))
      → found ≡ ((((one && out) || (none && now)) && every in_set (map Minus (places (drop (i + 1) ps))))
      || ((none && out) && some (every in_set) (one_plus (places (drop (i + 1) ps)))))
  one-next found one none out is_out e =
      rw (is_now, is_out)
      (one-more S found one none (get_or ps i d).0 (places (drop (i + 1) ps))
      (e ∙ ap (λ qs. (one && every in_set (map Minus qs)) || (none && some (every in_set) (one_plus qs)))
      (places-drop ps i d l)))

  -- the test of two over what is left goes on with the next position
  pub two-next : (found two one : Bool)
      → found ≡ (two || ((one && some (λ q. in_set (Plus q)) (places (drop i ps)))
      || some (every in_set) (two_plus (places (drop i ps)))))
      → found ≡ ((two || (one && now))
      || (((one || now) && some (λ q. in_set (Plus q)) (places (drop (i + 1) ps)))
      || some (every in_set) (two_plus (places (drop (i + 1) ps)))))
  two-next found two one e =
      rw is_now
      (two-more S found two one (get_or ps i d).0 (places (drop (i + 1) ps))
      (e ∙ ap (λ qs. two || ((one && some (λ q. in_set (Plus q)) qs) || some (every in_set) (two_plus qs)))
      (places-drop ps i d l)))
