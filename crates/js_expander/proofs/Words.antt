-- The word of a branch at strings, and the names of one at objects, of which a goal has an alternative.
use Rattle.std.proofs.Common.{◌≡◌, ℕ, zero, suc, ◌<◌, ◌≤◌, true, List, [], ◌∷◌, length, take, get_or, slice_get, Some, None, Result, Ok, Err, IfOk, refl, ap, sym, ◌∙◌, subst, arith}
use Rattle.std.proofs.lemmas.Option.{slice_get_within, get_or_from_slice_get}
use Rattle.documents.specs.Kind as K
use Rattle.documents.specs.Kind.{Kind}
use Rattle.positions.specs.Position.{Position}
use Rattle.goals.specs.Signed.{Signed}
use Rattle.goals.specs.Tree.{steps, branches}
use Rattle.cells.specs.Cells.{Cells}
use Rattle.alternatives.specs.Expansion.{names_branch}
use Rattle.alternatives.specs.Slots.{capacity, cell_at}
use Rattle.expansions.specs.Leaves.{word_of}
use Rattle.expansion_laws.proofs.Goals.{get_is}
use Rattle.finders.specs.Strings.{strings_of}
use Rattle.finders.specs.Names.{cells_of}
use Rattle.expander_laws.specs.Expander.{text_cells, name_cells}
use Rattle.expander_laws.proofs.Alternatives.{cell_is, cells_many}
use Rattle.expander_laws.proofs.Named.{named_branch}
use Rattle.js_objects.specs.Steps.{HasNeeded}
use Rattle.js_expander.specs.Found.{finders, goal_expansion, cells_at}

-- what is answered is also an equal value
pub told : {A E : Type 0} (r : Result A E) (x y : A) → x ≡ y → IfOk r (λ l. l ≡ x) → IfOk r (λ l. l ≡ y)
told (Ok l) x y e h = h ∙ e
told (Err m) x y e h = tt

-- first names of cells that are found, whichever these are
pub object_told : {E : Type 0} (r : Result (List (List ℕ)) E) (T : List Position) (S : List Signed) (c n : ℕ)
    (ws : List (List ℕ)) (C : Cells) → cells_of T S ≡ Ok C → take n (C.words c) ≡ ws
    → IfOk r (λ l. (D : Cells) → cells_of T S ≡ Ok D → l ≡ take n (D.words c)) → IfOk r (λ l. l ≡ ws)
object_told (Ok l) T S c n ws C same e h = h C same ∙ e
object_told (Err m) T S c n ws C same e h = tt

-- needed names of cells that are found, whichever these are
pub lists_told : {A E : Type 0} (r : Result A E) (items : A → List (List (List ℕ))) (T : List Position)
    (S : List Signed) (needs : List ℕ) (cells : List (List (List ℕ))) (C : Cells) → cells_of T S ≡ Ok C
    → ((c : ℕ) → take (get_or needs c 0) (C.words c) ≡ take (get_or needs c 0) (cell_at cells c))
    → IfOk r (λ v. (D : Cells) → cells_of T S ≡ Ok D → (c : ℕ)
    → get_or (items v) c [] ≡ take (get_or needs c 0) (D.words c))
    → IfOk r (λ v. (c : ℕ) → get_or (items v) c [] ≡ take (get_or needs c 0) (cell_at cells c))
lists_told (Ok v) items T S needs cells C same e h = λ c. h C same c ∙ e c
lists_told (Err m) items T S needs cells C same e h = tt

-- a cell of which words are needed is one of the cells
pub cell_within : (cells : List (List (List ℕ))) (c n : ℕ) → 0 < n → n ≤ capacity (cell_at cells c) → c < length cells
cell_within [] c n l m = absurd (none l m) where
  none : 0 < n → n ≤ capacity [] → ⊥
  none l m = omega (arith, l, m)
cell_within (x ∷ cells) zero n l m = omega arith
cell_within (x ∷ cells) (suc c) n l m = let h = cell_within cells c n l m in omega (arith, h)

pub some_first : (xs : List ℕ) (x : ℕ) → Some x ≡ slice_get xs 0 → x ≡ get_or xs 0 0
some_first xs x e = sym (get_or_from_slice_get xs 0 x 0 (sym e))

pub none_first : (xs : List ℕ) → None ≡ slice_get xs 0 → get_or xs 0 0 ≡ 0
none_first [] e = refl
none_first (x ∷ xs) e =
    let some : slice_get (x ∷ xs) 0 ≡ Some x = refl in
    let q : None ≡ Some x = e ∙ some in
    cc q

take_none : {A : Type 0} (n : ℕ) → take {A = A} n [] ≡ []
take_none zero = refl
take_none (suc n) = refl

-- first words are as in a cell that is as asked, if any are needed
take_needed : (n : ℕ) (xs ys : List (List ℕ)) → (0 < n → xs ≡ ys) → take n xs ≡ take n ys
take_needed zero xs ys h = refl
take_needed (suc n) xs ys h = ap (take (suc n)) (h (omega arith))

module _ (T : List Position) (g : List Signed) (k : ℕ) where
  abbrev Names : Kind → Type 0
  Names t = names_branch (goal_expansion T g) t k ≡ true

  pub there : (t : Kind) → Names t → k < length (branches (steps T t g))
  there t e = let n = named_branch (finders T) T g t k e in slice_get_within (branches (steps T t g)) k n.branch n.at

  abbrev Found : Kind → Type 0
  Found t = (w : List ℕ) × (strings_of T (get_or (branches (steps T t g)) k []) ≡ Ok (Some w))

  of_text : Names K.Text → Found K.Text
  of_text e =
      let n = named_branch (finders T) T g K.Text k e in
      subst (λ S. (w : List ℕ) × (strings_of T S ≡ Ok (Some w)))
      (sym (get_is [] n.branch (branches (steps T K.Text g)) k n.at)) n.found

  -- at a kind that is that of strings
  module _ (t : Kind) (is : t ≡ K.Text) (e : Names t) where
    pub found : Found t
    found = subst Found (sym is) (of_text (subst Names is e))

    cells : cells_at T g t k ≡ (found.0 ∷ []) ∷ []
    cells =
        subst (λ u. (w : List ℕ) → strings_of T (get_or (branches (steps T u g)) k []) ≡ Ok (Some w)
        → cells_at T g u k ≡ (w ∷ []) ∷ []) (sym is) (λ w h. ap text_cells h) found.0 found.1

    pub cell : (c : ℕ) → c < length (cells_at T g t k) → c ≡ 0
    cell c l = let h : c < 1 = subst (λ z. c < length z) cells l in omega (arith, h)

    pub count : (c n : ℕ) → c < length (cells_at T g t k) → n ≤ capacity (cell_at (cells_at T g t k) c) → n ≤ 1
    count c n l m =
        subst (λ z. n ≤ capacity (cell_at z 0)) cells
        (subst (λ c. n ≤ capacity (cell_at (cells_at T g t k) c)) (cell c l) m)

    pub words : (c n : ℕ) → c < length (cells_at T g t k) → (S : List Signed)
        → S ≡ get_or (branches (steps T t g)) k []
        → take n (word_of (strings_of T S) c 0 ∷ []) ≡ take n (cell_at (cells_at T g t k) c)
    words c n l S s =
        ap (λ r. take n (word_of r c 0 ∷ [])) (ap (strings_of T) s ∙ found.1)
        ∙ sym (ap (λ z. take n (cell_at z c)) cells ∙ ap (λ c. take n (cell_at ((found.0 ∷ []) ∷ []) c)) (cell c l))

    -- words of cell 0, and none of others
    pub several : (needs : List ℕ) (lists : List (List (List ℕ)))
        → get_or lists 0 [] ≡ take (get_or needs 0 0) (cell_at (cells_at T g t k) 0)
        → ((c : ℕ) → get_or lists (suc c) [] ≡ []) → (c : ℕ)
        → get_or lists c [] ≡ take (get_or needs c 0) (cell_at (cells_at T g t k) c)
    several needs lists first rest zero = first
    several needs lists first rest (suc c) =
        rest c
        ∙ sym (ap (λ z. take (get_or needs (suc c) 0) (cell_at z (suc c))) cells ∙ take_none (get_or needs (suc c) 0))

  -- at objects: cell c was found, with at least n names
  abbrev pub IsNamed : Kind → List Signed → ℕ → ℕ → Type 0
  IsNamed t S c n =
      (C : Cells) × (cells_of T S ≡ Ok C) × (c < length C.vectors) × (n ≤ length (C.words c))
      × (C.words c ≡ cell_at (cells_at T g t k) c)

  abbrev AreNamed : Kind → Type 0
  AreNamed t = (S : List Signed) → S ≡ get_or (branches (steps T t g)) k [] → Names t → (c n : ℕ)
      → c < length (cells_at T g t k) → n ≤ capacity (cell_at (cells_at T g t k) c) → IsNamed t S c n

  of_object : AreNamed K.Object
  of_object S s e c n l m =
      let b = named_branch (finders T) T g K.Object k e in
      let (C, f) = b.found in
      let same : cells_at T g K.Object k ≡ name_cells (Ok C) = b.cells ∙ ap name_cells f in
      let within : c < length C.vectors = subst (λ z. c < z) (ap length same ∙ cells_many C) l in
      let words : C.words c ≡ cell_at (cells_at T g K.Object k) c =
      sym (ap (λ z. cell_at z c) same ∙ cell_is C c within) in
      let few : n ≤ capacity (C.words c) = subst (λ z. n ≤ capacity z) (sym words) m in (
        C,
        ap (cells_of T) (s ∙ get_is [] b.branch (branches (steps T K.Object g)) k b.at) ∙ f,
        within,
        omega (arith, few),
        words,
      )

  pub object_named : (t : Kind) → t ≡ K.Object → AreNamed t
  object_named t is = subst AreNamed (sym is) of_object

  -- at objects: cells were found, and have the names that are needed
  abbrev pub AreFound : Kind → List Signed → List ℕ → Type 0
  AreFound t S needs =
      (C : Cells) × (cells_of T S ≡ Ok C) × (HasNeeded C needs)
      × ((c : ℕ) → take (get_or needs c 0) (C.words c) ≡ take (get_or needs c 0) (cell_at (cells_at T g t k) c))

  abbrev AreNeeded : Kind → Type 0
  AreNeeded t = (S : List Signed) → S ≡ get_or (branches (steps T t g)) k [] → Names t → (needs : List ℕ)
      → ((c : ℕ) → get_or needs c 0 ≤ capacity (cell_at (cells_at T g t k) c)) → AreFound t S needs

  of_needs : AreNeeded K.Object
  of_needs S s e needs room =
      let b = named_branch (finders T) T g K.Object k e in
      let (C, f) = b.found in
      let same : cells_at T g K.Object k ≡ name_cells (Ok C) = b.cells ∙ ap name_cells f in
      let within : (c : ℕ) → 0 < get_or needs c 0 → c < length C.vectors =
      λ c l. subst (λ z. c < z) (ap length same ∙ cells_many C)
      (cell_within (cells_at T g K.Object k) c (get_or needs c 0) l (room c)) in
      let words : (c : ℕ) → 0 < get_or needs c 0 → C.words c ≡ cell_at (cells_at T g K.Object k) c =
      λ c l. sym (ap (λ z. cell_at z c) same ∙ cell_is C c (within c l)) in (
        C,
        ap (cells_of T) (s ∙ get_is [] b.branch (branches (steps T K.Object g)) k b.at) ∙ f,
        λ c l. (within c l, subst (λ z. get_or needs c 0 ≤ capacity z) (sym (words c l)) (room c)),
        λ c. take_needed (get_or needs c 0) (C.words c) (cell_at (cells_at T g K.Object k) c) (words c),
      )

  pub needed : (t : Kind) → t ≡ K.Object → AreNeeded t
  needed t is = subst AreNeeded (sym is) of_needs
