-- The laws of an expander, of the goals that it takes: whatever finds numbers, words and cells, but that cells are
-- found rightly where words are named.
use Rattle.std.proofs.Common.{◌≡◌, ℕ, ◌<◌, Bool, true, ◌&&◌, nat_lt, List, [], length, Some, Ok, slice_get, get_or, sym, subst}
use Rattle.std.proofs.lemmas.Bool.{and_parts, and_from, ltb-true, lt-ltb}
use Rattle.std.proofs.lemmas.Option.{slice_get_within}
use Rattle.documents.specs.Tests.{every}
use Rattle.documents.specs.Kind as K
use Rattle.documents.specs.Kind.{Kind}
use Rattle.positions.specs.Position.{Position, is_table}
use Rattle.positions.specs.Holds.{IsTable}
use Rattle.position_laws.proofs.Tables.{is_table-IsTable}
use Rattle.goals.specs.Signed.{Signed, position_of}
use Rattle.goals.specs.Goal.{form, contains}
use Rattle.goals.specs.Tree as G
use Rattle.goal_laws.specs.Saturated.{IsSaturated}
use Rattle.goal_laws.proofs.Branches.{branches-are}
use Rattle.list_laws.proofs.Lists.{every_from, every_at, slice_get-in}
use Rattle.cells.specs.Cells.{Cells}
use Rattle.alternatives.specs.Alternative.{Alternative, named}
use Rattle.alternatives.specs.Slots.{has_words, has_fitting_slots, has_different_slots, has_different_words}
use Rattle.expansions.specs.Leaves.{Finders, leaf}
use Rattle.expansions.specs.Expansion.{expansion}
use Rattle.expansion_laws.proofs.Containers.{IsCells}
use Rattle.expansion_laws.proofs.Goals.{all_in, get_is}
use Rattle.expansion_laws.proofs.Origins.{IsFrom, origin}
use Rattle.expander_laws.specs.Expander.{is_goal, takes, branch_count, set_cells, branch_cells}
use Rattle.expander_laws.proofs.Inside.{goals_named, formed_goal}
use Rattle.expander_laws.proofs.Alternatives.{of_branch, fits, once, has, apart}

module _ (T : List Position) (ranks : List ℕ) where
  pub taken_parts : (g : List Signed) → takes T ranks g ≡ true
      → (is_table T ranks ≡ true) × (nat_lt 0 (length T) ≡ true) × (is_goal T g ≡ true)
  taken_parts g e =
      let (front, goal) = and_parts (is_table T ranks && nat_lt 0 (length T)) (is_goal T g) e in
      let (table, some) = and_parts (is_table T ranks) (nat_lt 0 (length T)) front in (table, some, goal)

  -- goals are taken in tables alone
  pub taken_table : (g : List Signed) → takes T ranks g ≡ true → IsTable T
  taken_table g e = let (table, some, goal) = taken_parts g e in
      is_table-IsTable T ranks table (ltb-true 0 (length T) some)

  pub taken_goal : (g : List Signed) → takes T ranks g ≡ true → is_goal T g ≡ true
  taken_goal g e = (taken_parts g e).2

  pub takes_from : (g h : List Signed) → takes T ranks g ≡ true → is_goal T h ≡ true → takes T ranks h ≡ true
  takes_from g h e f = let (table, some, goal) = taken_parts g e in
      and_from (is_table T ranks && nat_lt 0 (length T)) (is_goal T h)
      (and_from (is_table T ranks) (nat_lt 0 (length T)) table some) f

  -- a branch is saturated
  pub branch_saturated : IsTable T → (t : Kind) (g S : List Signed) (k : ℕ)
      → slice_get (G.branches (G.steps T t g)) k ≡ Some S → IsSaturated T t S
  branch_saturated ok t g S k e =
      (all_in (λ C. IsSaturated T t C × (contains C g ≡ true)) S (G.branches (G.steps T t g)) (branches-are T ok t g)
      (slice_get-in S (G.branches (G.steps T t g)) k e)).0

  module _ (F : Finders) (g : List Signed) where
    -- what holds of each alternative of a branch, by its kind, its number and its set, holds of those of the goal
    by_origin : (p : Kind → ℕ → List Signed → Alternative → Bool)
        → ((t : Kind) (k : ℕ) (S : List Signed) (a : Alternative)
        → slice_get (G.branches (G.steps T t g)) k ≡ Some S → IsFrom F T t k S a → p t k S a ≡ true)
        → every (λ a. p a.kind a.branch (get_or (G.branches (G.steps T a.kind g)) a.branch []) a)
        (expansion T (leaf F T) g).alternatives ≡ true
    by_origin p h =
        every_from (λ a. p a.kind a.branch (get_or (G.branches (G.steps T a.kind g)) a.branch []) a)
        (expansion T (leaf F T) g).alternatives (λ a i.
        let o = origin F T g a i in
        let (x, y) = of_branch F T o.kind o.number o.branch a o.from in
        let here : p o.kind o.number (get_or (G.branches (G.steps T o.kind g)) o.number []) a ≡ true =
        subst (λ z. p o.kind o.number z a ≡ true)
        (sym (get_is [] o.branch (G.branches (G.steps T o.kind g)) o.number o.at))
        (h o.kind o.number o.branch a o.at o.from) in
        subst (λ z. p z a.branch (get_or (G.branches (G.steps T z g)) a.branch []) a ≡ true) (sym x)
        (subst (λ z. p o.kind z (get_or (G.branches (G.steps T o.kind g)) z []) a ≡ true) (sym y) here))

    pub of_branches : every (λ a. nat_lt a.branch (branch_count T g a.kind)) (expansion T (leaf F T) g).alternatives
        ≡ true
    of_branches = by_origin (λ t k S a. nat_lt k (branch_count T g t)) (λ t k S a e h.
        lt-ltb k (branch_count T g t) (slice_get_within (G.branches (G.steps T t g)) k S e))

    pub slots_fit : every has_fitting_slots (expansion T (leaf F T) g).alternatives ≡ true
    slots_fit = by_origin (λ t k S a. has_fitting_slots a) (λ t k S a e h. fits F T t k S a h)

    pub slots_differ : every has_different_slots (expansion T (leaf F T) g).alternatives ≡ true
    slots_differ = by_origin (λ t k S a. has_different_slots a) (λ t k S a e h. once F T t k S a h)

    module _ (taken : takes T ranks g ≡ true) where
      pub named_taken : every (takes T ranks) (named (expansion T (leaf F T) g).alternatives) ≡ true
      named_taken = every_from (takes T ranks) (named (expansion T (leaf F T) g).alternatives) (λ h i.
          takes_from g h taken (every_at (is_goal T) h (named (expansion T (leaf F T) g).alternatives)
          (goals_named T (taken_table g taken) F g) i))

      module _ (right : (ok : IsTable T) (S : List Signed) → IsSaturated T K.Object S → (C : Cells)
          → F.cells S ≡ Ok C → IsCells T ok S C) where
        pub words_named : every (λ a. has_words (branch_cells F T g a.kind a.branch) a)
            (expansion T (leaf F T) g).alternatives ≡ true
        words_named = by_origin (λ t k S a. has_words (set_cells F t S) a) (λ t k S a e h.
            has F T (taken_table g taken) (right (taken_table g taken)) t k S
            (branch_saturated (taken_table g taken) t g S k e) a h)

        pub words_differ : every (λ a. has_different_words (branch_cells F T g a.kind a.branch))
            (expansion T (leaf F T) g).alternatives ≡ true
        words_differ = by_origin (λ t k S a. has_different_words (set_cells F t S)) (λ t k S a e h.
            apart F T (taken_table g taken) (right (taken_table g taken)) t k S
            (branch_saturated (taken_table g taken) t g S k e) a h)

  -- what a list of the table forms is taken
  pub formed_taken : is_table T ranks ≡ true → 0 < length T → (xs g : List Signed) → form T xs ≡ Some g
      → every (λ x. nat_lt (position_of x) (length T)) xs ≡ true → takes T ranks g ≡ true
  formed_taken table some xs g e inside =
      let ok = is_table-IsTable T ranks table some in
      and_from (is_table T ranks && nat_lt 0 (length T)) (is_goal T g)
      (and_from (is_table T ranks) (nat_lt 0 (length T)) table (lt-ltb 0 (length T) some))
      (formed_goal T ok xs g e inside)
