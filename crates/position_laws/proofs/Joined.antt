-- Two tables joined are a table, and each position in it holds of what it held of in its own.
use Rattle.std.proofs.Common.{◌≡◌, ℕ, zero, suc, ◌+◌, ◌<◌, ◌≤◌, Bool, true, ◌&&◌, nat_lt, List, [], ◌∷◌, ◌++◌, map, length, get_or, refl, ap, ap₂, sym, ◌∙◌, subst, arith, length-append, map-id}
use Rattle.std.specs.List.{AllByRecursion}
use Rattle.std.proofs.Math.Bool.{and_assoc}
use Rattle.std.proofs.lemmas.Bool.{and_parts, and_from, lt-ltb, eqb-true, eq-eqb}
use Rattle.std.proofs.lemmas.List.{length-map, get_or_append_left, get_or-append-add}
use Rattle.documents.specs.Tests.{every}
use Rattle.documents.specs.Document.{Document, depth}
use Rattle.positions.specs.Position.{Position, True, All, Any, One, Items}
use Rattle.positions.specs.Position.{position_at, in_place, of_parts, names_below, in_range, ranks_fall, is_table}
use Rattle.positions.specs.Holds.{asks, holds, IsTable}
use Rattle.position_laws.specs.Join.{renamed, moved, joined}
use Rattle.list_laws.proofs.Elements.{all-weaker, all-both, all-everywhere, all-every, every-same, every-map, every-append, every-weaker}
use Rattle.position_laws.proofs.Asks.{asks-same, asks-renamed, holds-asks}
use Rattle.position_laws.proofs.Tables.{is_table-length, is_table-below, is_table-range, is_table-fall, is_table-IsTable, names_below-all}

-- positions with other names

pub renamed-itself : (P : Position) → renamed (λ q. q) P ≡ P
renamed-itself (All qs) = ap All (map-id qs)
renamed-itself (Any qs) = ap Any (map-id qs)
renamed-itself (One qs) = ap One (map-id qs)
renamed-itself (Items qs r) = ap (λ rs. Items rs r) (map-id qs)
renamed-itself _ = refl

pub in_place-renamed : (f : ℕ → ℕ) (P : Position) → in_place (renamed f P) ≡ map f (in_place P)
in_place-renamed f True = refl
in_place-renamed f _ = refl

pub of_parts-renamed : (f : ℕ → ℕ) (P : Position) → of_parts (renamed f P) ≡ map f (of_parts P)
of_parts-renamed f True = refl
of_parts-renamed f _ = refl

-- other names change no number
pub in_range-renamed : (f : ℕ → ℕ) (P : Position) → in_range (renamed f P) ≡ in_range P
in_range-renamed f True = refl
in_range-renamed f _ = refl

-- positions of joined lists

pub position_at-append_left : (xs ys : List Position) (p : ℕ) → p < length xs
    → position_at (xs ++ ys) p ≡ position_at xs p
position_at-append_left [] ys p l = absurd (omega arith)
position_at-append_left (x ∷ xs) ys zero l = refl
position_at-append_left (x ∷ xs) ys (suc p) l = position_at-append_left xs ys p (omega arith)

pub position_at-append_right : (xs ys : List Position) (p : ℕ)
    → position_at (xs ++ ys) (length xs + p) ≡ position_at ys p
position_at-append_right [] ys p =
    let same : p ≡ 0 + p = omega arith in
    subst (λ i. position_at ys i ≡ position_at ys p) same refl
position_at-append_right (x ∷ xs) ys p =
    let same : suc (length xs + p) ≡ suc (length xs) + p = omega arith in
    subst (λ i. position_at (x ∷ (xs ++ ys)) i ≡ position_at ys p) same (position_at-append_right xs ys p)

pub position_at-renamed : (f : ℕ → ℕ) (xs : List Position) (p : ℕ)
    → position_at (map (renamed f) xs) p ≡ renamed f (position_at xs p)
position_at-renamed f [] p = refl
position_at-renamed f (x ∷ xs) zero = refl
position_at-renamed f (x ∷ xs) (suc p) = position_at-renamed f xs p

pub length-joined : (A B : List Position) → length (joined A B) ≡ length A + length B
length-joined A B =
    length-append A (map (moved (length A)) B) ∙ ap (λ n. length A + n) (length-map B (moved (length A)))

-- the joined list is a table

-- what is below one bound is below another, where the names may be others
below-every : (n m : ℕ) (f : ℕ → ℕ) → ((q : ℕ) → q < n → f q < m) → (qs : List ℕ)
    → AllByRecursion (λ q. q < n) qs → every (λ q. nat_lt q m) (map f qs) ≡ true
below-every n m f lower qs h =
    every-map (λ q. nat_lt q m) f qs
    ∙ all-every _ qs (all-weaker _ _ qs (λ q l. lt-ltb (f q) m (lower q l)) h)

names_below-renamed : (n m : ℕ) (f : ℕ → ℕ) → ((q : ℕ) → q < n → f q < m) → (P : Position)
    → names_below n P ≡ true → names_below m (renamed f P) ≡ true
names_below-renamed n m f lower P e =
    let (here, parts) = names_below-all n P e in
    ap₂ (λ xs ys. every (λ q. nat_lt q m) xs && every (λ q. nat_lt q m) ys) (in_place-renamed f P)
    (of_parts-renamed f P)
    ∙ and_from _ _ (below-every n m f lower (in_place P) here) (below-every n m f lower (of_parts P) parts)

names_below-more : (n m : ℕ) → n ≤ m → (P : Position) → names_below n P ≡ true → names_below m P ≡ true
names_below-more n m l P e =
    subst (λ R. names_below m R ≡ true) (renamed-itself P)
    (names_below-renamed n m (λ q. q) (λ q h. omega (arith, h)) P e)

names_below-moved : (n m : ℕ) (P : Position) → names_below m P ≡ true → names_below (n + m) (moved n P) ≡ true
names_below-moved n m P e = names_below-renamed m (n + m) (λ q. n + q) (λ q h. omega (arith, h)) P e

names_below-joined : (A B : List Position) → every (names_below (length A)) A ≡ true
    → every (names_below (length B)) B ≡ true
    → every (names_below (length (joined A B))) (joined A B) ≡ true
names_below-joined A B a b =
    rw (length-joined A B)
    (every-append _ A (map (moved (length A)) B)
    ∙ and_from _ _
    (every-weaker _ _ A (names_below-more (length A) (length A + length B) (omega arith)) a)
    (every-map _ (moved (length A)) B ∙ every-weaker _ _ B (names_below-moved (length A) (length B)) b))

in_range-joined : (A B : List Position) → every in_range A ≡ true → every in_range B ≡ true
    → every in_range (joined A B) ≡ true
in_range-joined A B a b =
    every-append in_range A (map (moved (length A)) B)
    ∙ and_from _ _ a
    (every-map in_range (moved (length A)) B
    ∙ every-same _ _ B (all-everywhere _ B (λ P. in_range-renamed (λ q. length A + q) P)) ∙ b)

pub ranks_fall-append : (ranks : List ℕ) (k : ℕ) (xs ys : List Position)
    → ranks_fall ranks k (xs ++ ys) ≡ (ranks_fall ranks k xs && ranks_fall ranks (k + length xs) ys)
ranks_fall-append ranks k [] ys =
    let same : k ≡ k + 0 = omega arith in
    ap (λ i. ranks_fall ranks i ys) same
ranks_fall-append ranks k (x ∷ xs) ys =
    let same : suc k + length xs ≡ k + suc (length xs) = omega arith in
    ap (λ b. falls x && b)
    (ranks_fall-append ranks (suc k) xs ys
    ∙ ap (λ i. ranks_fall ranks (suc k) xs && ranks_fall ranks i ys) same)
    ∙ sym (and_assoc (falls x) (ranks_fall ranks (suc k) xs) (ranks_fall ranks (k + suc (length xs)) ys)) where
      falls : Position → Bool
      falls x = every (λ q. nat_lt (get_or ranks q 0) (get_or ranks k 0)) (in_place x)

module _ (ra rb : List ℕ) where
  -- the first table's part looks at its own ranks alone
  ranks_fall-left : (k : ℕ) (xs : List Position) → every (names_below (length ra)) xs ≡ true
      → k + length xs ≤ length ra
      → ranks_fall (ra ++ rb) k xs ≡ ranks_fall ra k xs
  ranks_fall-left k [] e l = refl
  ranks_fall-left k (x ∷ xs) e l =
      ap₂ (λ a b. a && b)
      (every-same _ _ (in_place x)
      (all-weaker _ _ (in_place x)
      (λ q h. ap₂ nat_lt (get_or_append_left ra rb 0 q h) (get_or_append_left ra rb 0 k (omega arith)))
      (names_below-all (length ra) x (and_parts _ (every (names_below (length ra)) xs) e).0).0))
      (ranks_fall-left (suc k) xs (and_parts (names_below (length ra) x) _ e).1 (omega arith))

  -- the second table's part looks at the ranks behind
  ranks_fall-right : (k : ℕ) (xs : List Position)
      → ranks_fall (ra ++ rb) (length ra + k) (map (moved (length ra)) xs) ≡ ranks_fall rb k xs
  ranks_fall-right k [] = refl
  ranks_fall-right k (x ∷ xs) =
      let same : suc (length ra + k) ≡ length ra + suc k = omega arith in
      ap₂ (λ a b. a && b)
      (ap (every _) (in_place-renamed (λ q. length ra + q) x)
      ∙ every-map _ (λ q. length ra + q) (in_place x)
      ∙ every-same _ _ (in_place x)
      (all-everywhere _ (in_place x)
      (λ q. ap₂ nat_lt (get_or-append-add ra rb q 0) (get_or-append-add ra rb k 0))))
      (ap (λ i. ranks_fall (ra ++ rb) i (map (moved (length ra)) xs)) same ∙ ranks_fall-right (suc k) xs)

pub is_table-joined : (A B : List Position) (ra rb : List ℕ) → is_table A ra ≡ true → is_table B rb ≡ true
    → is_table (joined A B) (ra ++ rb) ≡ true
is_table-joined A B ra rb a b =
    let la : length A ≡ length ra = eqb-true _ _ (is_table-length A ra a) in
    let lb : length B ≡ length rb = eqb-true _ _ (is_table-length B rb b) in
    and_from _ _
    (and_from _ _
    (and_from _ _ (eq-eqb _ _ (length-joined A B ∙ ap₂ (λ m n. m + n) la lb ∙ sym (length-append ra rb)))
    (names_below-joined A B (is_table-below A ra a) (is_table-below B rb b)))
    (in_range-joined A B (is_table-range A ra a) (is_table-range B rb b)))
    (ranks_fall-append (ra ++ rb) 0 A (map (moved (length A)) B) ∙ and_from _ _ (left la) (right la)) where
      left : length A ≡ length ra → ranks_fall (ra ++ rb) 0 A ≡ true
      left la =
          ranks_fall-left ra rb 0 A (subst (λ n. every (names_below n) A ≡ true) la (is_table-below A ra a))
          (omega arith)
          ∙ is_table-fall A ra a

      right : length A ≡ length ra → ranks_fall (ra ++ rb) (0 + length A) (map (moved (length A)) B) ≡ true
      right la =
          let same : 0 + length A ≡ length ra + 0 = omega arith in
          ap₂ (λ i n. ranks_fall (ra ++ rb) i (map (moved n) B)) same la
          ∙ ranks_fall-right ra rb 0 B ∙ is_table-fall B rb b

-- each position keeps its meaning

-- a table that is in another one under other names holds there of the same documents
module _ (S T : List Position) (f : ℕ → ℕ) (inner : IsTable S) (outer : IsTable T)
    (placed : (p : ℕ) → p < length S → position_at T (f p) ≡ renamed f (position_at S p)) where
  embedded : (d n p : ℕ) (J : Document) → depth J < d → inner.rank p < n → p < length S
      → holds T (f p) J ≡ holds S p J
  embedded zero n p J a b l = absurd (omega arith)
  embedded (suc d) zero p J a b l = absurd (omega arith)
  embedded (suc d) (suc n) p J a b l =
      holds-asks T outer (f p) J
      ∙ ap (λ P. asks (λ q. holds T q J) (holds T) P J) (placed p l)
      ∙ asks-renamed f (λ q. holds T q J) (holds T) (position_at S p) J
      ∙ asks-same (λ q. holds T (f q) J) (λ q. holds S q J) (λ q. holds T (f q)) (holds S) (λ q. q < length S)
      (position_at S p) J
      (all-both _ _ _ (in_place (position_at S p)) (λ q m r. embedded (suc d) n q J a (omega arith) m)
      (inner.named p) (inner.ranked.falls p))
      (inner.parts_named p)
      (λ q K m r. embedded d (length S) q K (omega arith) (inner.ranked.bounded q) m)
      ∙ sym (holds-asks S inner p J)

  pub holds-embedded : (p : ℕ) (J : Document) → p < length S → holds T (f p) J ≡ holds S p J
  holds-embedded p J l = embedded (suc (depth J)) (length S) p J (omega arith) (inner.ranked.bounded p) l

module _ (A B : List Position) (ra rb : List ℕ) (a : is_table A ra ≡ true) (b : is_table B rb ≡ true) where
  pub joined-IsTable : 0 < length (joined A B) → IsTable (joined A B)
  joined-IsTable l = is_table-IsTable (joined A B) (ra ++ rb) (is_table-joined A B ra rb a b) l

  -- a position of the first table holds in the joined table of what it holds of in its own
  pub holds-joined_left : (p : ℕ) (J : Document) → p < length A → holds (joined A B) p J ≡ holds A p J
  holds-joined_left p J l =
      let longer = length-joined A B in
      holds-embedded A (joined A B) (λ q. q) (is_table-IsTable A ra a (omega arith))
      (joined-IsTable (omega (arith, longer)))
      (λ q m.
      position_at-append_left A (map (moved (length A)) B) q m ∙ sym (renamed-itself (position_at A q)))
      p J l

  -- a position of the second table holds in the joined table, moved past the first, of what it holds of in its own
  pub holds-joined_right : (p : ℕ) (J : Document) → p < length B
      → holds (joined A B) (length A + p) J ≡ holds B p J
  holds-joined_right p J l =
      let longer = length-joined A B in
      holds-embedded B (joined A B) (λ q. length A + q) (is_table-IsTable B rb b (omega arith))
      (joined-IsTable (omega (arith, longer)))
      (λ q m.
      position_at-append_right A (map (moved (length A)) B) q
      ∙ position_at-renamed (λ q. length A + q) B q)
      p J l
