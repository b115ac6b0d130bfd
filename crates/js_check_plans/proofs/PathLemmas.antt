-- How far a plan reaches and the cells of its members, as its path grows and is cut.
use Rattle.std.proofs.Common.{◌≡◌, ℕ, zero, suc, ◌+◌, ◌-◌, ◌≤◌, List, [], ◌∷◌, ◌++◌, take, drop, length, refl, arith, ap, ap₂, sym, ◌∙◌}
use Rattle.std.proofs.lemmas.List.{length-append}
use Rattle.js_plans.specs.declared.server.Server.{Server}
use Rattle.js_plans.specs.declared.server.Server.TheVariants as V
use Rattle.js_plans.specs.Servers.{with_cell, cells_of, used_after, most_used}
use Rattle.js_check_plans.specs.Reach.{useds, last_or}
use Rattle.js_plans.proofs.Extents.{cells-before, cells-after}

pub last_or-push : (n : ℕ) (xs : List ℕ) (x : ℕ) → last_or n (xs ++ x ∷ []) ≡ x
last_or-push n [] x = refl
last_or-push n (y ∷ xs) x = last_or-push y xs x

pub last-used : (n : ℕ) (ws : List Server) → last_or n (useds n ws) ≡ most_used n ws
last-used n [] = refl
last-used n (w ∷ ws) = last-used (used_after n w) ws

useds-push : (n : ℕ) (ws : List Server) (s : Server)
    → useds n (ws ++ s ∷ []) ≡ useds n ws ++ used_after (last_or n (useds n ws)) s ∷ []
useds-push n [] s = refl
useds-push n (w ∷ ws) s = ap (λ us. used_after n w ∷ us) (useds-push (used_after n w) ws s)

useds-take : (k n : ℕ) (ws : List Server) → useds n (take k ws) ≡ take k (useds n ws)
useds-take zero n ws = refl
useds-take (suc k) n [] = refl
useds-take (suc k) n (w ∷ ws) = ap (λ us. used_after n w ∷ us) (useds-take k (used_after n w) ws)

pub grown-used : (ws vs : List Server) (s : Server) (us ts : List ℕ) (m : ℕ) → us ≡ useds 0 ws → vs ≡ ws ++ s ∷ []
    → m ≡ used_after (last_or 0 us) s → ts ≡ us ++ m ∷ [] → ts ≡ useds 0 vs
grown-used ws vs s us ts m e grown is put =
    put ∙ ap₂ (λ xs k. xs ++ k ∷ []) e (is ∙ ap (λ xs. used_after (last_or 0 xs) s) e)
    ∙ sym (useds-push 0 ws s) ∙ ap (useds 0) (sym grown)

pub grown-cells : (ws vs : List Server) (s : Server) (cs ds : List ℕ) → cs ≡ cells_of ws → vs ≡ ws ++ s ∷ []
    → ds ≡ cs ++ with_cell s [] → ds ≡ cells_of vs
grown-cells ws vs s cs ds e grown put =
    put ∙ ap (λ xs. xs ++ with_cell s []) e ∙ sym (cells-after ws s) ∙ ap cells_of (sym grown)

pub cut-used : (k : ℕ) (ws vs : List Server) (us ts : List ℕ) → us ≡ useds 0 ws → vs ≡ take k ws → ts ≡ take k us
    → ts ≡ useds 0 vs
cut-used k ws vs us ts e f g = g ∙ ap (take k) e ∙ sym (useds-take k 0 ws) ∙ ap (useds 0) (sym f)

cells-split : (k : ℕ) (ws : List Server) → cells_of ws ≡ cells_of (take k ws) ++ cells_of (drop k ws)
cells-split zero ws = refl
cells-split (suc k) [] = refl
cells-split (suc k) (V.Head i ∷ ws) = cells-split k ws
cells-split (suc k) (V.Member i ∷ ws) = cells-split k ws
cells-split (suc k) (V.New c ∷ ws) = ap (λ cs. c ∷ cs) (cells-split k ws)

cells-count : (k : ℕ) (ws : List Server)
    → length (cells_of ws) ≡ length (cells_of (take k ws)) + length (cells_of (drop k ws))
cells-count k ws = ap length (cells-split k ws) ∙ length-append (cells_of (take k ws)) (cells_of (drop k ws))

pub cut-cells : (k n f : ℕ) (ws vs : List Server) (cs ds : List ℕ) → cs ≡ cells_of ws → vs ≡ take k ws
    → f ≡ length (cells_of (drop k ws)) → n ≡ length cs - f → ds ≡ take n cs → ds ≡ cells_of vs
cut-cells k n f ws vs cs ds e g less is h =
    let count : n ≡ length (cells_of (take k ws)) =
    omega (arith, is, less, ap length e, cells-count k ws) in
    h ∙ ap₂ take count e ∙ cells-before k ws ∙ ap cells_of (sym g)

pub cells-few : (k : ℕ) (ws : List Server) → length (cells_of (drop k ws)) ≤ length (cells_of ws)
cells-few k ws = omega (arith, cells-count k ws)
