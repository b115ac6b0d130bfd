-- What an expansion keeps: without a hole all that the leaves give, and in any case nothing else.
use Rattle.std.proofs.Common.{◌≡◌, ℕ, suc, ◌+◌, ◌≤◌, ◌⊎◌, inl, inr, ⊎_elim, Bool, true, false, cond, nat_lt, List, [], ◌∷◌, ◌++◌, flat_map, Option, Some, None, Result, Ok, Err, slice_get, refl, ap, sym, ◌∙◌, subst, add-zero, zero-add}
use Rattle.std.proofs.lemmas.Bool.{ltb-false}
use Rattle.documents.specs.Tests.{some}
use Rattle.documents.specs.Kind as K
use Rattle.documents.specs.Kind.{Kind, all_kinds}
use Rattle.positions.specs.Position.{Position}
use Rattle.goals.specs.Signed.{Signed}
use Rattle.goals.specs.Tree as G
use Rattle.list_laws.specs.In.{IsIn}
use Rattle.list_laws.proofs.Lists.{in_left, in_right, from_append, in_flat_map, from_flat_map}
use Rattle.alternatives.specs.Alternative.{Alternative, named, places}
use Rattle.alternatives.specs.Limit.{LimitKind, Branches, Width, Places, most_ends, most_places}
use Rattle.alternatives.specs.Expansion.{Expansion, expansion_of, first_limit, with_limit, is_wide, keep, keep_all}
use Rattle.expansions.specs.Expansion.{from_branch, at_kind, expansion}
use Rattle.list_laws.proofs.Numbers.{suc_add-add_suc}

-- a hole stays
pub first_some : (o : Option LimitKind) (k : LimitKind) → first_limit o k ≡ None → ⊥
first_some None k e = cc
first_some (Some j) k e = cc

abbrev Answer : Type 0
Answer = Result (List Alternative) LimitKind

abbrev given : List Alternative → Answer
given more = Ok more

no_limit : (more : List Alternative) (k : LimitKind) → given more ≡ Err k → ⊥
no_limit more k e = cc

-- what one step does, without a hole
pub kept_step : (e : Expansion) (r : Answer) → (keep e r).hole ≡ None
    → (e.hole ≡ None)
    × ((more : List Alternative) × (r ≡ Ok more) × ((keep e r).alternatives ≡ e.alternatives ++ more))
kept_step e (Err k) h = absurd (first_some e.hole k h)
kept_step e (Ok more) h =
    go (some is_wide (named more)) (nat_lt most_places (places e.alternatives + places more)) h where
      go : (a b : Bool)
          → (cond a (with_limit e Width)
          (cond b (with_limit e Places) (expansion_of (e.alternatives ++ more) e.hole))).hole ≡ None
          → (e.hole ≡ None) × ((new : List Alternative) × (given more ≡ Ok new)
          × ((cond a (with_limit e Width)
          (cond b (with_limit e Places) (expansion_of (e.alternatives ++ more) e.hole))).alternatives ≡ e.alternatives
          ++ new))
      go true b h = absurd (first_some e.hole Width h)
      go false true h = absurd (first_some e.hole Places h)
      go false false h = (h, (more, refl, refl))

pub kept_open : (rs : List Answer) (e : Expansion) → (keep_all e rs).hole ≡ None → e.hole ≡ None
kept_open [] e h = h
kept_open (r ∷ rs) e h = (kept_step e r (kept_open rs (keep e r) h)).0

pub kept_stays : (rs : List Answer) (e : Expansion) → (keep_all e rs).hole ≡ None → (a : Alternative)
    → IsIn a e.alternatives → IsIn a (keep_all e rs).alternatives
kept_stays [] e h a i = i
kept_stays (r ∷ rs) e h a i =
    let (o, (more, p, q)) = kept_step e r (kept_open rs (keep e r) h) in
    kept_stays rs (keep e r) h a (subst (λ z. IsIn a z) (sym q) (in_left a e.alternatives more i))

-- without a hole each answer is a list of alternatives, and all of them are kept
pub all_kept : (rs : List Answer) (e : Expansion) → (keep_all e rs).hole ≡ None → (r : Answer) → IsIn r rs
    → (more : List Alternative) × (r ≡ Ok more)
    × ((a : Alternative) → IsIn a more → IsIn a (keep_all e rs).alternatives)
all_kept [] e h r i = absurd i
all_kept (x ∷ rs) e h r (inr i) = all_kept rs (keep e x) h r i
all_kept (x ∷ rs) e h r (inl s) =
    let (o, (more, p, q)) = kept_step e x (kept_open rs (keep e x) h) in (
      more,
      s ∙ p,
      λ a i. kept_stays rs (keep e x) h a
          (subst (λ z. IsIn a z) (sym q) (in_right a e.alternatives more i)),
    )

-- what is kept comes from an answer
pub kept_from : (rs : List Answer) (e : Expansion) (a : Alternative) → IsIn a (keep_all e rs).alternatives
    → IsIn a e.alternatives ⊎ ((more : List Alternative) × IsIn (Ok more) rs × IsIn a more)
kept_from [] e a i = inl i
kept_from (r ∷ rs) e a i =
    ⊎_elim (λ j. one r j) (λ (more, x, y). inr (more, inr x, y)) (kept_from rs (keep e r) a i) where
      one : (r : Answer) → IsIn a (keep e r).alternatives
          → IsIn a e.alternatives ⊎ ((more : List Alternative) × IsIn (Ok more) (r ∷ rs) × IsIn a more)
      one (Err k) j = inl j
      one (Ok more) j = go (some is_wide (named more)) (nat_lt most_places (places e.alternatives + places more)) j where
        go : (x y : Bool)
            → IsIn a (cond x (with_limit e Width)
            (cond y (with_limit e Places) (expansion_of (e.alternatives ++ more) e.hole))).alternatives
            → IsIn a e.alternatives ⊎ ((new : List Alternative) × IsIn (Ok new) (Ok more ∷ rs) × IsIn a new)
        go true y j = inl j
        go false true j = inl j
        go false false j = ⊎_elim (λ u. inl u) (λ u. inr (more, inl refl, u)) (from_append a e.alternatives more j)

module _ (T : List Position) (leaf : Kind → ℕ → List Signed → Answer) where
  branch_in : (t : Kind) (k : ℕ) (S : List Signed) (Ss : List (List Signed)) → IsIn S Ss
      → (n : ℕ) × IsIn (leaf t n S) (from_branch T leaf t k Ss)
  branch_in t k S [] i = absurd i
  branch_in t k S (R ∷ Ss) (inl e) = (k, inl (ap (leaf t k) e))
  branch_in t k S (R ∷ Ss) (inr i) = let (n, j) = branch_in t (suc k) S Ss i in (n, inr j)

  pub branch_from : (t : Kind) (k : ℕ) (Ss : List (List Signed)) (r : Answer) → IsIn r (from_branch T leaf t k Ss)
      → (j : ℕ) × ((S : List Signed) × (slice_get Ss j ≡ Some S) × (r ≡ leaf t (k + j) S))
  branch_from t k [] r i = absurd i
  branch_from t k (S ∷ Ss) r (inl e) = (0, (S, refl, e ∙ ap (λ z. leaf t z S) (sym (add-zero k))))
  branch_from t k (S ∷ Ss) r (inr i) =
      let (j, (R, h, e)) = branch_from t (suc k) Ss r i in
      (suc j, (R, h, e ∙ ap (λ z. leaf t z R) (suc_add-add_suc k j)))

  any_kind : (t : Kind) → IsIn t all_kinds
  any_kind K.Null = inl refl
  any_kind K.Boolean = inr (inl refl)
  any_kind K.Number = inr (inr (inl refl))
  any_kind K.Text = inr (inr (inr (inl refl)))
  any_kind K.Array = inr (inr (inr (inr (inl refl))))
  any_kind K.Object = inr (inr (inr (inr (inr (inl refl)))))

  -- without a hole the leaf of each branch gives alternatives, all of which are the goal's
  pub expansion_has : (g : List Signed) → (expansion T leaf g).hole ≡ None → (t : Kind) (S : List Signed)
      → IsIn S (G.branches (G.steps T t g))
      → (k : ℕ) × ((more : List Alternative) × (leaf t k S ≡ Ok more)
      × ((a : Alternative) → IsIn a more → IsIn a (expansion T leaf g).alternatives))
  unfolding expansion
  expansion_has g h t S i = go (nat_lt most_ends (G.ends (G.steps T t g))) refl where
    whole : List Answer
    whole = flat_map (at_kind T leaf g) all_kinds

    up : (r : Answer) → IsIn r (at_kind T leaf g t) → IsIn r (flat_map (at_kind T leaf g) all_kinds)
    up r j = in_flat_map (at_kind T leaf g) r t all_kinds (any_kind t) j

    go : (b : Bool) → nat_lt most_ends (G.ends (G.steps T t g)) ≡ b
        → (k : ℕ) × ((more : List Alternative) × (leaf t k S ≡ Ok more)
        × ((a : Alternative) → IsIn a more
        → IsIn a (keep_all (expansion_of [] None) (flat_map (at_kind T leaf g) all_kinds)).alternatives))
    go true e =
        let j : IsIn (Err Branches) (at_kind T leaf g t) =
        subst (λ b. IsIn (Err Branches)
        (cond b (Err Branches ∷ []) (from_branch T leaf t 0 (G.branches (G.steps T t g))))) (sym e) (inl refl) in
        let (more, p, q) =
        all_kept (flat_map (at_kind T leaf g) all_kinds) (expansion_of [] None) h (Err Branches)
        (up (Err Branches) j) in cc
    go false e =
        let (k, j) = branch_in t 0 S (G.branches (G.steps T t g)) i in
        let j' : IsIn (leaf t k S) (at_kind T leaf g t) =
        subst (λ b. IsIn (leaf t k S)
        (cond b (Err Branches ∷ []) (from_branch T leaf t 0 (G.branches (G.steps T t g))))) (sym e) j in
        let (more, p, q) =
        all_kept (flat_map (at_kind T leaf g) all_kinds) (expansion_of [] None) h (leaf t k S)
        (up (leaf t k S) j') in
        (k, (more, p, q))

  -- each alternative is that of a branch of a tree that passes no limit
  pub expansion_from : (g : List Signed) (a : Alternative) → IsIn a (expansion T leaf g).alternatives
      → (t : Kind) ×
      ((k : ℕ) ×
      ((S : List Signed) × (slice_get (G.branches (G.steps T t g)) k ≡ Some S)
      × (G.ends (G.steps T t g) ≤ most_ends)
      × ((more : List Alternative) × (leaf t k S ≡ Ok more) × IsIn a more)))
  unfolding expansion
  expansion_from g a i =
      ⊎_elim (λ j. absurd j) (λ (more, x, y). at more x y)
      (kept_from (flat_map (at_kind T leaf g) all_kinds) (expansion_of [] None) a i) where
        at : (more : List Alternative) → IsIn (Ok more) (flat_map (at_kind T leaf g) all_kinds) → IsIn a more
            → (t : Kind) ×
            ((k : ℕ) ×
            ((S : List Signed) × (slice_get (G.branches (G.steps T t g)) k ≡ Some S)
            × (G.ends (G.steps T t g) ≤ most_ends)
            × ((new : List Alternative) × (leaf t k S ≡ Ok new) × IsIn a new)))
        at more x y =
            let (t, u, v) = from_flat_map (at_kind T leaf g) (Ok more) all_kinds x in
            go t (nat_lt most_ends (G.ends (G.steps T t g))) refl v where
              go : (t : Kind) (b : Bool) → nat_lt most_ends (G.ends (G.steps T t g)) ≡ b
                  → IsIn (Ok more) (cond b (Err Branches ∷ []) (from_branch T leaf t 0 (G.branches (G.steps T t g))))
                  → (t : Kind) ×
                  ((k : ℕ) ×
                  ((S : List Signed) × (slice_get (G.branches (G.steps T t g)) k ≡ Some S)
                  × (G.ends (G.steps T t g) ≤ most_ends)
                  × ((new : List Alternative) × (leaf t k S ≡ Ok new) × IsIn a new)))
              go t true few (inl e) = absurd (no_limit more Branches e)
              go t true few (inr e) = absurd e
              go t false few v =
                  let (k, (S, p, e)) = branch_from t 0 (G.branches (G.steps T t g)) (Ok more) v in
                  let l = ltb-false most_ends (G.ends (G.steps T t g)) few in
                  (t, (k, (S, p, l, (more, sym (e ∙ ap (λ z. leaf t z S) (zero-add k)), y))))
