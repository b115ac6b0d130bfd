-- How far plans reach, as it comes with the servers of a path.
use Rattle.std.proofs.Common.{◌≡◌, ℕ, zero, suc, ◌<◌, ◌≤◌, ◌^◌, List, [], ◌∷◌, ◌++◌, take, length, get_or, arith, ap, sym, subst, append_assoc}
use Rattle.std.proofs.lemmas.List.{length-take}
use Rattle.js_plans.specs.declared.server.Server.{Server}
use Rattle.js_plans.specs.declared.path.Extent.{Extent}
use Rattle.js_plans.specs.Servers.{members_after, used_after, IsExtent}
use Rattle.js_plans.proofs.Extents.{next-extent}
use Rattle.js_plan_lines.specs.Reach.{AreExtents}

pub extents-none : (ws us : List Server) (xs : List Extent) → us ≡ [] → AreExtents ws us xs
extents-none ws us xs e = subst (λ zs. AreExtents ws zs xs) (sym e) tt

extents-before : (vs us ss : List Server) (xs : List Extent) → AreExtents vs (us ++ ss) xs → AreExtents vs us xs
extents-before vs [] ss xs a = tt
extents-before vs (u ∷ us) ss [] a = absurd a
extents-before vs (u ∷ us) ss (x ∷ xs) a = (a.0, extents-before (vs ++ u ∷ []) us ss xs a.1)

-- those of a path are those of what comes before its last server
pub before-last : (ws us : List Server) (s : Server) (xs : List Extent) → ws ≡ us ++ s ∷ [] → AreExtents [] ws xs
    → AreExtents [] us xs
before-last ws us s xs e a = extents-before [] us (s ∷ []) xs (subst (λ zs. AreExtents [] zs xs) e a)

long : (vs us : List Server) (xs : List Extent) → AreExtents vs us xs → length us ≤ length xs
long vs [] xs a = omega arith
long vs (u ∷ us) [] a = absurd a
long vs (u ∷ us) (x ∷ xs) a = omega (arith, long (vs ++ u ∷ []) us xs a.1)

at_last : (vs us : List Server) (s : Server) (xs : List Extent) (d : Extent) → AreExtents vs (us ++ s ∷ []) xs
    → IsExtent (vs ++ (us ++ s ∷ [])) (get_or xs (length us) d)
at_last vs [] s [] d a = absurd a
at_last vs [] s (x ∷ xs) d a = a.0
at_last vs (u ∷ us) s [] d a = absurd a
at_last vs (u ∷ us) s (x ∷ xs) d a =
    subst (λ zs. IsExtent zs (get_or xs (length us) d)) (append_assoc vs (u ∷ []) (us ++ s ∷ []))
    (at_last (vs ++ u ∷ []) us s xs d a.1)

pub last-within : (ws us : List Server) (s : Server) (xs : List Extent) → ws ≡ us ++ s ∷ [] → AreExtents [] ws xs
    → length us < length xs
last-within ws us s xs e a = within [] us xs (subst (λ zs. AreExtents [] zs xs) e a) where
  within : (vs us : List Server) (xs : List Extent) → AreExtents vs (us ++ s ∷ []) xs → length us < length xs
  within vs [] [] a = absurd a
  within vs [] (x ∷ xs) a = omega arith
  within vs (u ∷ us) [] a = absurd a
  within vs (u ∷ us) (x ∷ xs) a = omega (arith, within (vs ++ u ∷ []) us xs a.1)

pub last-extent : (ws us : List Server) (s : Server) (xs : List Extent) (d : Extent) → ws ≡ us ++ s ∷ []
    → AreExtents [] ws xs → IsExtent ws (get_or xs (length us) d)
last-extent ws us s xs d e a =
    subst (λ zs. IsExtent zs (get_or xs (length us) d)) (sym e)
    (at_last [] us s xs d (subst (λ zs. AreExtents [] zs xs) e a))

extents-take : (n : ℕ) (vs us : List Server) (xs : List Extent) → AreExtents vs us xs
    → AreExtents vs (take n us) (take n xs)
extents-take zero vs us xs a = tt
extents-take (suc n) vs [] xs a = tt
extents-take (suc n) vs (u ∷ us) [] a = absurd a
extents-take (suc n) vs (u ∷ us) (x ∷ xs) a = (a.0, extents-take n (vs ++ u ∷ []) us xs a.1)

pub take-path : (n : ℕ) (ws us : List Server) (xs ys : List Extent) → us ≡ take n ws → ys ≡ take n xs
    → AreExtents [] ws xs → AreExtents [] us ys
take-path n ws us xs ys e f a =
    subst (λ zs. AreExtents [] zs ys) (sym e)
    (subst (λ zs. AreExtents [] (take n ws) zs) (sym f) (extents-take n [] ws xs a))

extents-push : (vs us : List Server) (s : Server) (xs : List Extent) (x : Extent) → AreExtents vs us xs
    → length xs ≤ length us → IsExtent (vs ++ (us ++ s ∷ [])) x → AreExtents vs (us ++ s ∷ []) (xs ++ x ∷ [])
extents-push vs [] s [] x a l h = (h, tt)
extents-push vs [] s (y ∷ xs) x a l h = absurd (omega (arith, l))
extents-push vs (u ∷ us) s [] x a l h = absurd a
extents-push vs (u ∷ us) s (y ∷ xs) x a l h = (
  a.0,
  extents-push (vs ++ u ∷ []) us s xs x a.1 (omega (arith, l))
      (subst (λ zs. IsExtent zs x) (sym (append_assoc vs (u ∷ []) (us ++ s ∷ []))) h),
)

pub push-path : (n : ℕ) (ws us vs : List Server) (s : Server) (xs ys zs : List Extent) (x y : Extent)
    → us ≡ take n ws → ys ≡ take n xs → vs ≡ us ++ s ∷ [] → zs ≡ ys ++ y ∷ [] → n ≤ length ws → AreExtents [] ws xs
    → IsExtent us x → y.used ≡ used_after x.used s → y.members ≡ members_after x.members s → y.used ≤ 2 ^ 32
    → AreExtents [] vs zs
push-path n ws us vs s xs ys zs x y e f g h l a is u m b =
    subst (λ ts. AreExtents [] ts zs) (sym g)
    (subst (λ ts. AreExtents [] (us ++ s ∷ []) ts) (sym h)
    (extents-push [] us s ys y (take-path n ws us xs ys e f a)
    (omega (arith, l, ap length e, ap length f, length-take n ws, length-take n xs))
    (next-extent us s x y is u m b)))

take-extents : (n : ℕ) (vs us : List Server) (xs : List Extent) → AreExtents vs us xs → AreExtents vs (take n us) xs
take-extents zero vs us xs a = tt
take-extents (suc n) vs [] xs a = tt
take-extents (suc n) vs (u ∷ us) [] a = absurd a
take-extents (suc n) vs (u ∷ us) (x ∷ xs) a = (a.0, take-extents n (vs ++ u ∷ []) us xs a.1)

pub part-extents : (n : ℕ) (ws : List Server) (xs : List Extent) → AreExtents [] ws xs → AreExtents [] (take n ws) xs
part-extents n ws xs a = take-extents n [] ws xs a
