-- How far plans reach, as it comes with each server of a path, and the cells of the members as servers come and go.
use Rattle.std.proofs.Common.{◌≡◌, ℕ, zero, suc, ◌≤◌, ◌^◌, List, [], ◌∷◌, ◌++◌, take, length, refl, ap, sym, ◌∙◌, subst, append-nil, append_assoc}
use Rattle.goals.specs.Signed.{Signed}
use Rattle.js_plans.specs.declared.path.Served.{Served}
use Rattle.js_plans.specs.declared.path.Extent.{Extent}
use Rattle.js_plans.specs.declared.server.Server.{Server}
use Rattle.js_plans.specs.declared.server.Server.TheVariants as V
use Rattle.js_plans.specs.Servers.{with_cell, cells_of, members_after, used_after, earlier, servers_of, IsExtent, AreExtents}
use Rattle.js_plans.proofs.Shown.{used-push, cells-push}

pub extents-take : (n : ℕ) (ws : List Server) (es : List Served) → AreExtents ws es → AreExtents ws (take n es)
extents-take zero ws es a = tt
extents-take (suc n) ws [] a = tt
extents-take (suc n) ws (e ∷ es) a = (a.0, extents-take n (ws ++ e.server ∷ []) es a.1)

pub extents-push : (ws : List Server) (es : List Served) (e : Served) → AreExtents ws es
    → IsExtent ((ws ++ servers_of es) ++ e.server ∷ []) e.extent → AreExtents ws (es ++ e ∷ [])
extents-push ws [] e a x = (subst (λ us. IsExtent (us ++ e.server ∷ []) e.extent) (append-nil ws) x, tt)
extents-push ws (y ∷ es) e a x = (
  a.0,
  extents-push (ws ++ y.server ∷ []) es e a.1
      (subst (λ us. IsExtent (us ++ e.server ∷ []) e.extent) (sym (append_assoc ws (y.server ∷ []) (servers_of es))) x),
)

at_last : (ws : List Server) (es : List Served) (e : Served) → AreExtents ws (es ++ e ∷ [])
    → IsExtent (ws ++ servers_of (es ++ e ∷ [])) e.extent
at_last ws [] e a = a.0
at_last ws (y ∷ es) e a =
    subst (λ us. IsExtent us e.extent) (append_assoc ws (y.server ∷ []) (servers_of (es ++ e ∷ [])))
    (at_last (ws ++ y.server ∷ []) es e a.1)

-- that of the last server is that of the path
pub last-extent : (es us : List Served) (e : Served) → es ≡ us ++ e ∷ [] → AreExtents [] es
    → IsExtent (servers_of es) e.extent
last-extent es us e q a =
    subst (λ xs. IsExtent (servers_of xs) e.extent) (sym q) (at_last [] us e (subst (AreExtents []) q a))

-- one more server
pub next-extent : (ws : List Server) (s : Server) (x y : Extent) → IsExtent ws x → y.used ≡ used_after x.used s
    → y.members ≡ members_after x.members s → y.used ≤ 2 ^ 32 → IsExtent (ws ++ s ∷ []) y
next-extent ws s x y h u m b = record {
  used = u ∙ ap (λ n. used_after n s) h.used ∙ sym (used-push 0 ws s);
  members = m ∙ ap (λ n. members_after n s) h.members ∙ sym (cells-push ws s);
  bound = b;
}

-- cells as servers come and go
pub cells-after : (ws : List Server) (s : Server) → cells_of (ws ++ s ∷ []) ≡ cells_of ws ++ with_cell s []
cells-after [] s = refl
cells-after (V.Head k ∷ ws) s = cells-after ws s
cells-after (V.Member k ∷ ws) s = cells-after ws s
cells-after (V.New c ∷ ws) s = ap (λ cs. c ∷ cs) (cells-after ws s)

pub cells-before : (n : ℕ) (ws : List Server)
    → take (length (cells_of (take n ws))) (cells_of ws) ≡ cells_of (take n ws)
cells-before zero ws = refl
cells-before (suc n) [] = refl
cells-before (suc n) (V.Head k ∷ ws) = cells-before n ws
cells-before (suc n) (V.Member k ∷ ws) = cells-before n ws
cells-before (suc n) (V.New c ∷ ws) = ap (λ cs. c ∷ cs) (cells-before n ws)

-- a new member serves nothing else
pub earlier-new : (c : ℕ) (ds : List Signed) (m : ℕ) (ws : List Server) → earlier (V.New c) ds m ws ≡ []
earlier-new c ds m [] = refl
earlier-new c [] m (w ∷ ws) = refl
earlier-new c (d ∷ ds) m (w ∷ ws) = earlier-new c ds (members_after m w) ws
