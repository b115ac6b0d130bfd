-- The in-place edges of a table, entry by entry.
use Rattle.std.proofs.Common.{◌≡◌, ℕ, zero, suc, ◌+◌, ◌<◌, ◌≤◌, List, [], ◌∷◌, ◌++◌, map, length, get_or, take, true, sym, ap, ap₂, ◌∙◌, arith}
use Rattle.std.proofs.lemmas.List.{take_more, take_all}
use Rattle.schemas.specs.Entry.{Form, Entry}
use Rattle.schemas.specs.Schema.{in_place, is_table}
use Rattle.schemas.specs.Guarded.{edges, targets, are_ranks}
use Rattle.schema_laws.proofs.Ranks.{edges-below, are_ranks-length}
use Rattle.js_guard.specs.Rows.{AreClosed}

edges-at : (es : List Entry) (x : ℕ) (f : Form) → x < length es → f ≡ get_or (map (λ e. e.form) es) x f
    → targets (edges es) x ≡ in_place f
edges-at [] x f l h = absurd (omega arith)
edges-at (e ∷ es) zero f l h = ap in_place (sym h)
edges-at (e ∷ es) (suc x) f l h = edges-at es x f (omega arith) h

pub edges-length : (es : List Entry) → length (edges es) ≡ length es
edges-length [] = search arith
edges-length (e ∷ es) = ap suc (edges-length es)

-- one entry more
pub edges-more : (es : List Entry) (x : ℕ) (f : Form) (row : List ℕ) (g : List (List ℕ)) → x < length es
    → f ≡ get_or (map (λ e. e.form) es) x f → row ≡ in_place f → g ≡ take x (edges es)
    → g ++ row ∷ [] ≡ take (x + 1) (edges es)
edges-more es x f row g l h r e =
    ap₂ (λ a b. a ++ b ∷ []) e (r ∙ sym (edges-at es x f l h))
    ∙ sym (take_more (edges es) x [] (omega (arith, edges-length es)))

-- the edges of all entries, where none is left
pub edges-all : (es : List Entry) (x : ℕ) (g : List (List ℕ)) → length es ≤ x → g ≡ take x (edges es) → g ≡ edges es
edges-all es x g l e = e ∙ take_all x (edges es) (omega (arith, edges-length es))

-- the edges of a table lead to its entries
pub edges-closed : (es : List Entry) → is_table es ≡ true → AreClosed (edges es)
edges-closed es h x y k = let inside = edges-below es h x y k in omega (arith, edges-length es)

-- ranks are as many as the entries
pub ranks-counted : (es : List Entry) (ranks : List ℕ) → are_ranks (edges es) ranks ≡ true → length ranks ≡ length es
ranks-counted es ranks fall = are_ranks-length (edges es) ranks fall ∙ edges-length es
