-- The table that is built one node at a time is the joined one.
use Rattle.std.proofs.Common.{◌≡◌, ℕ, zero, suc, ◌+◌, ◌<◌, List, [], ◌∷◌, ◌++◌, map, take, length, get_or, true, nat_lt, refl, ap, ap₂, sym, ◌∙◌, arith, append_assoc}
use Rattle.std.proofs.Math.Path.{fun_ext}
use Rattle.std.proofs.lemmas.Bool.{and_parts, and_from, ltb-true, lt-ltb, eqb-true}
use Rattle.std.proofs.lemmas.List.{map-append, take_more}
use Rattle.documents.specs.Tests.{every}
use Rattle.positions.specs.Position.{Position, position_at, in_place, of_parts, names_below, is_table}
use Rattle.position_laws.specs.Join.{renamed, moved, joined}
use Rattle.position_laws.proofs.Joined.{renamed-itself, is_table-joined}
use Rattle.position_laws.proofs.Tables.{is_table-length}
use Rattle.js_normal.specs.Room.{has_room}

every-room : (by n : ℕ) → by + n < 4294967296 → (qs : List ℕ) → every (λ q. nat_lt q n) qs ≡ true
    → every (has_room by) qs ≡ true
every-room by n room [] e = refl
every-room by n room (q ∷ qs) e =
    let (a, b) = and_parts (nat_lt q n) (every (λ p. nat_lt p n) qs) e in
    and_from _ _ (lt-ltb (by + q) 4294967296 (let low = ltb-true q n a in omega arith)) (every-room by n room qs b)

-- what a node of a table names can be moved up where the whole table can
pub names_below-room : (by n : ℕ) (P : Position) → by + n < 4294967296 → names_below n P ≡ true
    → (every (has_room by) (in_place P) ≡ true) × (every (has_room by) (of_parts P) ≡ true)
names_below-room by n P room e =
    let (here, parts) = and_parts (every (λ q. nat_lt q n) (in_place P)) (every (λ q. nat_lt q n) (of_parts P)) e in
    (every-room by n room (in_place P) here, every-room by n room (of_parts P) parts)

pub take-position : (T : List Position) (i : ℕ) → i < length T → take (i + 1) T ≡ take i T ++ position_at T i ∷ []
take-position [] i l = absurd (omega arith)
take-position (P ∷ T) zero l = refl
take-position (P ∷ T) (suc i) l =
    let one : suc i + 1 ≡ suc (i + 1) = omega arith in
    rw one (ap (λ ps. P ∷ ps) (take-position T i (omega arith)))

-- one node more of a table, moved up
pub take-moved : (T : List Position) (f : Position → Position) (i : ℕ) (made before : List Position) (P Q : Position)
    → i < length T → Q ≡ position_at T i → P ≡ f Q → made ≡ before ++ map f (take i T)
    → made ++ P ∷ [] ≡ before ++ map f (take (i + 1) T)
take-moved T f i made before P Q l q p e =
    ap₂ (λ xs x. xs ++ x ∷ []) e (p ∙ ap f q)
    ∙ append_assoc before (map f (take i T)) (f (position_at T i) ∷ [])
    ∙ ap (λ xs. before ++ xs) (sym (map-append f (take i T) (position_at T i ∷ []))
    ∙ ap (map f) (sym (take-position T i l)))

pub take-ranks : (rs : List ℕ) (i r : ℕ) (made before : List ℕ) → i < length rs → r ≡ get_or rs i 0
    → made ≡ before ++ take i rs
    → made ++ r ∷ [] ≡ before ++ take (i + 1) rs
take-ranks rs i r made before l e h =
    ap₂ (λ xs x. xs ++ x ∷ []) h e
    ∙ append_assoc before (take i rs) (get_or rs i 0 ∷ [])
    ∙ ap (λ xs. before ++ xs) (sym (take_more rs i 0 l))

pub ranks-length : (T : List Position) (ranks : List ℕ) → is_table T ranks ≡ true → length T ≡ length ranks
ranks-length T ranks e = eqb-true _ _ (is_table-length T ranks e)

-- nothing is moved by no place
moved-itself : (P : Position) → moved 0 P ≡ P
moved-itself P =
    ap (λ (f : ℕ → ℕ). renamed f P) (fun_ext (λ q. let same : 0 + q ≡ q = omega arith in same)) ∙ renamed-itself P

map-itself : (T : List Position) → map (moved 0) T ≡ T
map-itself [] = refl
map-itself (P ∷ T) = ap₂ (λ x xs. x ∷ xs) (moved-itself P) (map-itself T)

-- both tables, one after the other
pub joined-built : (A B built first : List Position) (n : ℕ) → n ≡ length A → first ≡ [] ++ map (moved 0) A
    → built ≡ first ++ map (moved n) B → built ≡ joined A B
joined-built A B built first n l f e =
    e ∙ ap₂ (λ xs m. xs ++ map (moved m) B) (f ∙ map-itself A) l

-- and their ranks are ranks of the joined table
pub joined-table : (A B built : List Position) (ra rb ranks first : List ℕ) → built ≡ joined A B → first ≡ [] ++ ra
    → ranks ≡ first ++ rb
    → is_table A ra ≡ true → is_table B rb ≡ true → is_table built ranks ≡ true
joined-table A B built ra rb ranks first e f g a b =
    ap₂ is_table e (g ∙ ap (λ rs. rs ++ rb) f) ∙ is_table-joined A B ra rb a b
