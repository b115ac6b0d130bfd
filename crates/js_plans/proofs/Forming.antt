-- What serves the next demand serves these demands, and a longer list clashes where a shorter one does.
use Rattle.std.proofs.Common.{◌≡◌, inl, inr, ℕ, zero, suc, ◌+◌, ◌<◌, List, [], ◌∷◌, ◌++◌, map, reverse, length, get_or, Bool, true, false, ◌||◌, cond, Some, None, refl, arith, ap, ap₂, sym, ◌∙◌, subst, append-nil}
use Rattle.std.proofs.lemmas.Bool.{and_parts, and_from, or_left, or_right, or_cases}
use Rattle.std.proofs.lemmas.List.{map-append, length-map}
use Rattle.documents.specs.Tests.{every}
use Rattle.positions.specs.Position.{Position}
use Rattle.goals.specs.Signed.{Signed, Plus, has, add_all, opposite}
use Rattle.goals.specs.Goal.{form, form_of, followed, follow, clashes, is_always, is_never}
use Rattle.goal_laws.proofs.Signs.{has-add_all, some-has, has-some}
use Rattle.frames.specs.Frame.{Frame, Head}
use Rattle.frames.specs.Plan.{goal_of}
use Rattle.js_algebra.specs.View.{signed_view}
use Rattle.js_algebra.specs.declared.signed.Signed as C
use Rattle.js_algebra.proofs.Choosing.{get_or-map}
use Rattle.js_plans.specs.declared.server.Server.{Server}
use Rattle.js_plans.specs.declared.path.Served.{Served}
use Rattle.js_plans.specs.Servers.{earlier, servers_of}
use Rattle.js_plans.specs.Goals.{AreFirst}
use Rattle.list_laws.proofs.Lists.{map-reverse}
use Rattle.js_plans.proofs.Served.{every-reverse, every-earlier}
use Rattle.list_laws.proofs.Every.{every_joined}

pub served_list : (s : Server) (ds : List C.Signed) (D : List Signed) (path : List Served) (v xs ys : List C.Signed)
    (z : C.Signed) (n : ℕ) → map signed_view ds ≡ D
    → map signed_view v ≡ earlier s (map signed_view ds) 0 (servers_of path)
    → xs ≡ v ++ get_or ds n z ∷ [] → n ≡ length path → n < length ds → ys ≡ reverse xs
    → map signed_view ys
    ≡ reverse (earlier s D 0 (servers_of path) ++ get_or D (length (servers_of path)) (Plus 0) ∷ [])
served_list s ds D path v xs ys z n same e more count l back =
    ap (map signed_view) (back ∙ ap reverse more)
    ∙ map-reverse signed_view (v ++ get_or ds n z ∷ [])
    ∙ ap reverse
    (map-append signed_view v (get_or ds n z ∷ [])
    ∙ ap₂ (λ us u. us ++ u ∷ []) e (sym (get_or-map signed_view ds n z (Plus 0) l)))
    ∙ ap₂ (λ us k. reverse (earlier s us 0 (servers_of path) ++ get_or us k (Plus 0) ∷ [])) same
    (count ∙ sym (length-map path (λ e. e.server)))

module _ (p : Signed → Bool) where
  every-get : (ds : List Signed) (n : ℕ) (z : Signed) → n < length ds → every p ds ≡ true → p (get_or ds n z) ≡ true
  every-get [] n z l a = absurd (omega (arith, l))
  every-get (d ∷ ds) zero z l a = (and_parts (p d) (every p ds) a).0
  every-get (d ∷ ds) (suc n) z l a = every-get ds n z (omega (arith, l)) (and_parts (p d) (every p ds) a).1

  pub every-served : (s : Server) (ds : List Signed) (ws : List Server) → length ws < length ds → every p ds ≡ true
      → every p (reverse (earlier s ds 0 ws ++ get_or ds (length ws) (Plus 0) ∷ [])) ≡ true
  every-served s ds ws l a =
      every-reverse p _ (every_joined p (earlier s ds 0 ws) _ (every-earlier p s ds 0 ws a)
      (and_from _ _ (every-get ds (length ws) (Plus 0) l a) refl))

pub first-push : (T : List Position) (frame : Frame) (k : ℕ) (gs : List (List Signed)) (g : List Signed)
    → AreFirst T frame k gs → goal_of T frame (Head (k + length gs), []) ≡ Some g → AreFirst T frame k (gs ++ g ∷ [])
first-push T frame k [] g a e = (subst (λ n. goal_of T frame (Head n, []) ≡ Some g) (omega arith) e, tt)
first-push T frame k (h ∷ gs) g a e =
    (a.0, first-push T frame (suc k) gs g a.1 (subst (λ n. goal_of T frame (Head n, []) ≡ Some g) (omega arith) e))

-- a list with more clashes where it does
module _ (T : List Position) where
  followed-append : (xs ys : List Signed) → followed T (xs ++ ys) ≡ followed T xs ++ followed T ys
  followed-append [] ys = refl
  followed-append (x ∷ xs) ys = go (is_always T (follow T x)) (followed-append xs ys) where
    go : (b : Bool) → followed T (xs ++ ys) ≡ followed T xs ++ followed T ys
        → cond b (followed T (xs ++ ys)) (follow T x ∷ followed T (xs ++ ys))
        ≡ cond b (followed T xs) (follow T x ∷ followed T xs) ++ followed T ys
    go true e = e
    go false e = ap (λ zs. follow T x ∷ zs) e

  has-append : (z : Signed) (xs ys : List Signed) → has z xs ≡ true → has z (xs ++ ys) ≡ true
  has-append z (x ∷ xs) ys h =
      elim (or_cases _ (has z xs) h) [
        | inl a ↦ or_left _ (has z (xs ++ ys)) a
        | inr b ↦ or_right _ _ (has-append z xs ys b)
      ]
  has-append z [] ys h = cc

  clashes-more : (S R : List Signed) → ((z : Signed) → has z S ≡ true → has z R ≡ true) → clashes T S ≡ true
      → clashes T R ≡ true
  clashes-more S R more e =
      let (x, i, h) = some-has (λ x. is_never T x || has (opposite x) S) S e in
      has-some (λ x. is_never T x || has (opposite x) R) R x (more x i)
      (elim (or_cases (is_never T x) (has (opposite x) S) h) [
        | inl a ↦ or_left (is_never T x) (has (opposite x) R) a
        | inr b ↦ or_right (is_never T x) (has (opposite x) R) (more (opposite x) b)
      ])

  no_form : (S : List Signed) → form_of T S ≡ None → clashes T S ≡ true
  no_form S e = go (clashes T S) e where
    go : (b : Bool) → cond b None (Some S) ≡ None → b ≡ true
    go true h = refl
    go false h = cc

  pub form-more : (xs ys : List Signed) → form T xs ≡ None → form T (xs ++ ys) ≡ None
  form-more xs ys e =
      ap (λ b. cond b None (Some (add_all (followed T (xs ++ ys)) [])))
      (clashes-more (add_all (followed T xs) []) (add_all (followed T (xs ++ ys)) [])
      (λ z h. has-add_all z (followed T (xs ++ ys)) []
      ∙ or_left _ false
      (subst (λ zs. has z zs ≡ true) (sym (followed-append xs ys))
      (has-append z (followed T xs) (followed T ys)
      (in_list (has z (followed T xs)) (sym (has-add_all z (followed T xs) []) ∙ h)))))
      (no_form (add_all (followed T xs) []) e)) where
        in_list : (b : Bool) → (b || false) ≡ true → b ≡ true
        in_list true h = refl
        in_list false h = h

  -- what is at a place and serves nothing clashes, so what serves something does
  pub goal-more : (frame : Frame) (k : ℕ) (ds : List Signed) → goal_of T frame (Head k, []) ≡ None
      → goal_of T frame (Head k, ds) ≡ None
  goal-more frame k ds e =
      form-more _ _ (ap (form T) (sym (append-nil _)) ∙ e)
