-- The vectors of rows: each is that of a row, what it says of a literal is at the literal's number, and the rows of a
-- cell are those with its vector.
use Rattle.std.proofs.Common.{◌≡◌, ℕ, zero, suc, ◌<◌, ◌≤◌, inl, inr, Bool, true, false, cond, nat_eq, List, [], ◌∷◌, map, length, get_or, refl, ap, sym, ◌∙◌, subst, arith}
use Rattle.std.proofs.lemmas.List.{get_or-map, length-map}
use Rattle.list_laws.specs.In.{IsIn}
use Rattle.list_laws.proofs.Lists.{get_or-in, from_map}
use Rattle.word_laws.proofs.Mentions as M
use Rattle.positions.specs.Position.{Position}
use Rattle.goals.specs.Signed as G
use Rattle.goals.specs.Signed.{Signed, same_signed}
use Rattle.goal_laws.proofs.Signs.{same_signed-true, same_signed-itself}
use Rattle.cells.specs.Cells.{says, vector, same_vector, place, vector_at, told, vectors_of}
use Rattle.js_said.proofs.Vectors.{same_laws, mentions-length}

in_vectors : (c : ℕ) (vs : List (List Bool)) → c < length vs → IsIn (vector_at vs c) vs
in_vectors c [] l = absurd (omega (arith, l))
in_vectors c (v ∷ vs) l = go c l (λ k m. in_vectors k vs m) where
  go : (c : ℕ) → c < length (v ∷ vs) → ((c : ℕ) → c < length vs → IsIn (vector_at vs c) vs)
      → IsIn (vector_at (v ∷ vs) c) (v ∷ vs)
  go zero l more = inl refl
  go (suc c) l more = inr (more c (omega (arith, l)))

told_in : (T : List Position) (xs : List Signed) (w : List ℕ) (x : Signed) → IsIn x xs
    → told xs (vector T xs w) x ≡ says T x w
told_in T [] w x i = absurd i
told_in T (y ∷ xs) w x i = go (same_signed x y) refl i (told_in T xs w x) where
  go : (b : Bool) → same_signed x y ≡ b → IsIn x (y ∷ xs)
      → (IsIn x xs → told xs (vector T xs w) x ≡ says T x w)
      → cond b (says T y w) (told xs (vector T xs w) x) ≡ says T x w
  go true e i more = ap (λ z. says T z w) (sym (same_signed-true x y e))
  go false e (inl q) more = let f : same_signed x y ≡ true =
      subst (λ z. same_signed x z ≡ true) q (same_signed-itself x) in cc
  go false e (inr i) more = more i

pub told_at : (T : List Position) (xs : List Signed) (w : List ℕ) (i : ℕ) → i < length xs
    → told xs (vector T xs w) (get_or xs i (G.Plus 0)) ≡ get_or (vector T xs w) i false
told_at T xs w i l =
    told_in T xs w (get_or xs i (G.Plus 0)) (get_or-in xs i (G.Plus 0) l)
    ∙ sym (get_or-map (λ x. says T x w) xs i (G.Plus 0) false l)

-- each vector is that of a row
pub of_row : (T : List Position) (xs : List Signed) (rows : List (List ℕ)) (c : ℕ) → c < length (vectors_of T xs rows)
    → (w : List ℕ) × (vector_at (vectors_of T xs rows) c ≡ vector T xs w)
of_row T xs rows c l =
    elim (M.mentions_only same_vector same_laws [] (map (vector T xs) rows) (vector_at (vectors_of T xs rows) c)
    (in_vectors c (vectors_of T xs rows) l)) [
      | inl i ↦ absurd i
      | inr i ↦ let (w, j, e) = from_map (vector T xs) (vector_at (vectors_of T xs rows) c) rows i in (w, e)
    ]

-- a vector that isn't there is empty
pub vector-past : (vs : List (List Bool)) (c : ℕ) → length vs ≤ c → vector_at vs c ≡ []
vector-past [] c l = refl
vector-past (v ∷ vs) zero l = absurd (omega (arith, l))
vector-past (v ∷ vs) (suc c) l = vector-past vs c (omega (arith, l))

pub told_nothing : (xs : List Signed) (x : Signed) → told xs [] x ≡ false
told_nothing [] x = refl
told_nothing (y ∷ xs) x = refl

pub vectors-few : (T : List Position) (xs : List Signed) (rows : List (List ℕ))
    → length (vectors_of T xs rows) ≤ length rows
vectors-few T xs rows =
    let a = mentions-length [] (map (vector T xs) rows) in
    let b = length-map rows (vector T xs) in
    omega (arith, a, b)

-- a kept vector is the one of its number
pub kept_at : {V : Type 0} (items : V → List Bool) (ks : List V) (c : ℕ) (d : V) → c < length ks
    → vector_at (map items ks) c ≡ items (get_or ks c d)
kept_at items [] c d l = absurd (omega (arith, l))
kept_at {V = V} items (k ∷ ks) c d l = go c l (kept_at items ks) where
  go : (c : ℕ) → c < length (k ∷ ks)
      → ((c : ℕ) (d : V) → c < length ks → vector_at (map items ks) c ≡ items (get_or ks c d))
      → vector_at (items k ∷ map items ks) c ≡ items (get_or (k ∷ ks) c d)
  go zero l more = refl
  go (suc c) l more = more c d (omega (arith, l))

-- where the places of rows are those of their vectors, a row is marked just where its word is in the cell
pub mark_at : (T : List Position) (xs : List Signed) (rows : List (List ℕ)) (places : List ℕ)
    → places ≡ map (λ w. place (vector T xs w) (vectors_of T xs rows)) rows → (c : ℕ) (marks : List Bool)
    → marks ≡ map (λ k. nat_eq k c) places → (r : ℕ) → r < length rows
    → get_or marks r false ≡ nat_eq (place (vector T xs (get_or rows r [])) (vectors_of T xs rows)) c
mark_at T xs rows places placed c marks marked r l =
    let p : length places ≡ length rows =
    ap length placed ∙ length-map rows (λ w. place (vector T xs w) (vectors_of T xs rows)) in
    let m : r < length places = omega (arith, p, l) in
    ap (λ z. get_or z r false) marked
    ∙ get_or-map (λ k. nat_eq k c) places r 0 false m
    ∙ ap (λ z. nat_eq (get_or z r 0) c) placed
    ∙ ap (λ z. nat_eq z c) (get_or-map (λ w. place (vector T xs w) (vectors_of T xs rows)) rows r [] 0 l)
