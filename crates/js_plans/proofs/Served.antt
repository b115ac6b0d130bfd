-- The demands that a server serves after a path, the latest first: what their list is made of, and that each passes a
-- test that all demands pass.
use Rattle.std.proofs.Common.{◌≡◌, Result, Ok, Err, IfOk, ℕ, List, [], ◌∷◌, map, reverse, Bool, true, false, cond, refl, ap, sym, ◌∙◌, subst}
use Rattle.std.proofs.lemmas.Bool.{and_parts, and_from}
use Rattle.std.proofs.lemmas.List.{reverse-append}
use Rattle.documents.specs.Tests.{every}
use Rattle.list_laws.proofs.Lists.{map-reverse}
use Rattle.list_laws.proofs.Every.{every_joined}
use Rattle.goals.specs.Signed.{Signed}
use Rattle.js_algebra.specs.View.{signed_view}
use Rattle.js_algebra.specs.declared.signed.Signed as C
use Rattle.js_plans.specs.declared.server.Server.{Server}
use Rattle.js_plans.specs.Servers.{earlier, serves_too, members_after}

pub served_list : (s : Server) (ds xs ys : List C.Signed) (D : List Signed) (ws : List Server)
    → map signed_view ds ≡ D → map signed_view xs ≡ earlier s (map signed_view ds) 0 ws → ys ≡ reverse xs
    → map signed_view ys ≡ reverse (earlier s D 0 ws)
served_list s ds xs ys D ws same e back =
    ap (map signed_view) back
    ∙ map-reverse signed_view xs
    ∙ ap reverse (e ∙ ap (λ us. earlier s us 0 ws) same)

pub if_ok : {A E : Type 0} (P Q : A → Type 0) (r : Result A E) → ((x : A) → P x → Q x) → IfOk r P → IfOk r Q
if_ok P Q (Ok x) f h = f x h
if_ok P Q (Err e) f h = tt

module _ (p : Signed → Bool) where
  pub every-reverse : (xs : List Signed) → every p xs ≡ true → every p (reverse xs) ≡ true
  every-reverse [] a = refl
  every-reverse (x ∷ xs) a =
      let (h, t) = and_parts (p x) (every p xs) a in
      subst (λ ys. every p ys ≡ true) (sym (reverse-append (x ∷ []) xs))
      (every_joined p (reverse xs) (x ∷ []) (every-reverse xs t) (and_from _ _ h refl))

  pub every-earlier : (s : Server) (ds : List Signed) (m : ℕ) (ws : List Server) → every p ds ≡ true
      → every p (earlier s ds m ws) ≡ true
  every-earlier s ds m [] a = refl
  every-earlier s [] m (w ∷ ws) a = refl
  every-earlier s (d ∷ ds) m (w ∷ ws) a =
      let (h, t) = and_parts (p d) (every p ds) a in
      go (serves_too s m w) h (every-earlier s ds (members_after m w) ws t) where
        go : (b : Bool) → p d ≡ true → every p (earlier s ds (members_after m w) ws) ≡ true
            → every p (cond b (d ∷ earlier s ds (members_after m w) ws) (earlier s ds (members_after m w) ws)) ≡ true
        go true h t = and_from _ _ h t
        go false h t = t

  -- where all demands pass a test, so do those that a server serves
  pub every-served : (s : Server) (ds : List Signed) (ws : List Server) → every p ds ≡ true
      → every p (reverse (earlier s ds 0 ws)) ≡ true
  every-served s ds ws a = every-reverse _ (every-earlier s ds 0 ws a)
