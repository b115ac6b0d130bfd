-- One row more, behind the others.
use Rattle.std.proofs.Common.{◌≡◌, ℕ, ◌-◌, ◌≤◌, List, [], ◌∷◌, ◌++◌, length, take, drop, true, nat_le, refl, sym, ap, ap₂, ◌∙◌, arith, length-append, length-drop}
use Rattle.std.proofs.lemmas.Bool.{and_parts, and_from, leb-true, le-leb}
use Rattle.std.proofs.lemmas.List.{map-append, drop-append-le, drop_at, take-append-le, take_all}
use Rattle.documents.specs.Tests.{every}
use Rattle.js_guard.specs.declared.edges.Row.{Row}
use Rattle.js_guard.specs.Rows.{row_of, rows_of, is_inside}

inside-more : (n m : ℕ) (r : Row) → n ≤ m → is_inside n r ≡ true → is_inside m r ≡ true
inside-more n m r l h =
    let parts = and_parts (nat_le r.start r.end) (nat_le r.end n) h in
    and_from (nat_le r.start r.end) (nat_le r.end m) parts.0
    (le-leb r.end m (let below = leb-true r.end n parts.1 in omega arith))

pub all_inside-push : (n m : ℕ) (rows : List Row) (r : Row) → n ≤ m → every (is_inside n) rows ≡ true
    → is_inside m r ≡ true → every (is_inside m) (rows ++ r ∷ []) ≡ true
all_inside-push n m [] r l h k = and_from (is_inside m r) true k refl
all_inside-push n m (q ∷ rows) r l h k =
    let parts = and_parts (is_inside n q) (every (is_inside n) rows) h in
    and_from (is_inside m q) _ (inside-more n m q l parts.0) (all_inside-push n m rows r l parts.1 k)

pub all_inside-more : (n m : ℕ) (rows : List Row) → n ≤ m → every (is_inside n) rows ≡ true
    → every (is_inside m) rows ≡ true
all_inside-more n m [] l h = refl
all_inside-more n m (q ∷ rows) l h =
    let parts = and_parts (is_inside n q) (every (is_inside n) rows) h in
    and_from (is_inside m q) _ (inside-more n m q l parts.0) (all_inside-more n m rows l parts.1)

row_of-more : (ts us : List ℕ) (r : Row) → is_inside (length ts) r ≡ true → row_of (ts ++ us) r ≡ row_of ts r
row_of-more ts us r h =
    let parts = and_parts (nat_le r.start r.end) (nat_le r.end (length ts)) h in
    let rises = leb-true r.start r.end parts.0 in
    let ends = leb-true r.end (length ts) parts.1 in
    let starts : r.start ≤ length ts = omega arith in
    let within : r.end - r.start ≤ length (drop r.start ts) = simp length-drop (omega arith) in
    ap (take (r.end - r.start)) (drop-append-le r.start ts us starts)
    ∙ take-append-le (r.end - r.start) (drop r.start ts) us within

rows_of-more : (ts us : List ℕ) (rows : List Row) → every (is_inside (length ts)) rows ≡ true
    → rows_of rows (ts ++ us) ≡ rows_of rows ts
rows_of-more ts us [] h = refl
rows_of-more ts us (r ∷ rows) h =
    let parts = and_parts (is_inside (length ts) r) (every (is_inside (length ts)) rows) h in
    ap₂ (λ q qs. q ∷ qs) (row_of-more ts us r parts.0) (rows_of-more ts us rows parts.1)

row_of-new : (ts us : List ℕ) (r : Row) → r.start ≡ length ts → r.end ≡ length (ts ++ us)
    → row_of (ts ++ us) r ≡ us
row_of-new ts us r s e =
    let size : length us ≤ r.end - r.start = omega (arith, length-append ts us) in
    ap (take (r.end - r.start)) (drop_at ts us r.start (sym s)) ∙ take_all (r.end - r.start) us size

-- where a row is pushed with its targets, the lists are those of before and then its targets
pub rows_of-push : (ts us : List ℕ) (rows : List Row) (r : Row) → every (is_inside (length ts)) rows ≡ true
    → r.start ≡ length ts → r.end ≡ length (ts ++ us)
    → rows_of (rows ++ r ∷ []) (ts ++ us) ≡ rows_of rows ts ++ us ∷ []
rows_of-push ts us rows r h s e =
    map-append (row_of (ts ++ us)) rows (r ∷ [])
    ∙ ap₂ (λ a b. a ++ b ∷ []) (rows_of-more ts us rows h) (row_of-new ts us r s e)

pub is_inside-new : (ts us : List ℕ) (r : Row) → r.start ≡ length ts → r.end ≡ length (ts ++ us)
    → is_inside (length (ts ++ us)) r ≡ true
is_inside-new ts us r s e =
    and_from (nat_le r.start r.end) (nat_le r.end (length (ts ++ us)))
    (le-leb r.start r.end (omega (arith, length-append ts us))) (le-leb r.end (length (ts ++ us)) (omega arith))
