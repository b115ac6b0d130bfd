-- Each goal that an expansion names is formed from a list of signed positions.
use Rattle.std.proofs.Common.{◌≡◌, ℕ, suc, inl, inr, ⊎_elim, List, [], ◌∷◌, ◌++◌, map, length, Option, Some, None, Ok, refl, ap, sym, ◌∙◌, subst}
use Rattle.documents.specs.Kind as K
use Rattle.documents.specs.Kind.{Kind}
use Rattle.positions.specs.Position.{Position}
use Rattle.positions.specs.Holds.{IsTable}
use Rattle.goals.specs.Signed.{Signed}
use Rattle.goals.specs.Goal.{form}
use Rattle.goal_laws.specs.Formed.{IsFormed}
use Rattle.goal_laws.proofs.Forms.{form-IsFormed}
use Rattle.frames.specs.ArrayFrame.{array_frame}
use Rattle.frames.specs.Frame.{Place, In, Frame, list_at}
use Rattle.frames.specs.Plan.{Plan, placed, goal_of}
use Rattle.cells.specs.Cells.{Cells}
use Rattle.list_laws.specs.In.{IsIn}
use Rattle.list_laws.proofs.Lists.{from_append, from_map}
use Rattle.frames.specs.ObjectFrame.{object_frame}
use Rattle.frames.specs.Fillers.{fillers}
use Rattle.frame_laws.proofs.FillersLaws.{fillers_from}
use Rattle.alternatives.specs.Alternative.{Placed, Filler, Alternative, named_by}
use Rattle.expansions.specs.Leaves.{Naming, by_index, by_name, cell_of, placed_as, members_of, filling_of, plan_alternative, Finders, leaf}
use Rattle.expansions.specs.Expansion.{expansion}
use Rattle.expansion_laws.proofs.Origins.{IsScalar, IsFrom, origin}

-- what is placed somewhere and serves something
abbrev pub IsListed : List Position → Frame → List Signed → Type 0
IsListed T frame h = (at : Place) × ((ds : List Signed) × (form T (list_at frame at ds) ≡ Some h))

abbrev member_goal : Placed → List Signed
member_goal m = m.goal

abbrev filler_goal : Filler → List Signed
filler_goal f = f.goal

module _ (N : Naming) (t : Kind) (k : ℕ) (T : List Position) where
  members_formed : (frame : Frame) (i : ℕ) (before : List ℕ) (ss : List (Place × List Signed)) (h : List Signed)
      → IsIn h (map member_goal (members_of N T frame i before ss)) → IsListed T frame h
  members_formed frame i before [] h j = absurd j
  members_formed frame i before (s ∷ ss) h j =
      go (goal_of T frame s) refl j (members_formed frame (suc i) (cell_of s.0 ∷ before) ss h) where
        go : (o : Option (List Signed)) → form T (list_at frame s.0 s.1) ≡ o
            → IsIn h (map member_goal
            (placed_as (N.slot i before s.0) o ++ members_of N T frame (suc i) (cell_of s.0 ∷ before) ss))
            → (IsIn h (map member_goal (members_of N T frame (suc i) (cell_of s.0 ∷ before) ss)) → IsListed T frame h)
            → IsListed T frame h
        go None e j more = more j
        go (Some g) e (inl q) more = (s.0, (s.1, e ∙ ap Some (sym q)))
        go (Some g) e (inr j) more = more j

  fillers_formed : (frame : Frame) (q : Plan) (n : ℕ) (h : List Signed)
      → IsIn h (map filler_goal (map (filling_of N n) (fillers T frame q))) → IsListed T frame h
  fillers_formed frame q n h j =
      let (x, a, e) = from_map filler_goal h (map (filling_of N n) (fillers T frame q)) j in
      let (f, b, d) = from_map (filling_of N n) x (fillers T frame q) a in
      let (c, i, g) = fillers_from T frame q f b in
      (In c, ([], g.goal ∙ ap Some (sym (e ∙ ap filler_goal d))))

  pub plan_formed : (frame : Frame) (q : Plan) (h : List Signed) → IsIn h (named_by (plan_alternative N t k T frame q))
      → IsListed T frame h
  plan_formed frame q h j = ⊎_elim
      (λ i. members_formed frame 0 [] (placed frame q) h i)
      (λ i. fillers_formed frame q (length (placed frame q)) h i)
      (from_append h (map member_goal (members_of N T frame 0 [] (placed frame q)))
      (map filler_goal (map (filling_of N (length (placed frame q))) (fillers T frame q))) j)

-- the frames of the alternatives of a branch
abbrev pub IsFrame : Finders → List Position → Kind → List Signed → Frame → Type 0
IsFrame F T K.Array S frame = frame ≡ array_frame T S
IsFrame F T K.Object S frame = (C : Cells) × (F.cells S ≡ Ok C) × (frame ≡ object_frame T C S)
IsFrame F T t S frame = ⊥

module _ (F : Finders) (T : List Position) where
  scalar_names : (t : Kind) (k : ℕ) (a : Alternative) → IsScalar t k a → (h : List Signed) → IsIn h (named_by a) → ⊥
  scalar_names t k a s h j = subst (λ z. IsIn h (named_by z)) s.is j

  pub from_named : (t : Kind) (k : ℕ) (S : List Signed) (a : Alternative) → IsFrom F T t k S a
      → (h : List Signed) → IsIn h (named_by a) → (frame : Frame) × IsFrame F T t S frame × IsListed T frame h
  from_named K.Null k S a s h j = absurd (scalar_names K.Null k a s h j)
  from_named K.Boolean k S a s h j = absurd (scalar_names K.Boolean k a s h j)
  from_named K.Number k S a s h j = absurd (scalar_names K.Number k a s h j)
  from_named K.Text k S a (w, f, s) h j = absurd (subst (λ z. IsIn h (named_by z)) s j)
  from_named K.Array k S a p h j = (
    array_frame T S,
    refl,
    plan_formed by_index K.Array k T (array_frame T S) p.plan h (subst (λ z. IsIn h (named_by z)) p.is j),
  )
  from_named K.Object k S a (C, f, p) h j = (
    object_frame T C S,
    (C, f, refl),
    plan_formed by_name K.Object k T (object_frame T C S) p.plan h (subst (λ z. IsIn h (named_by z)) p.is j),
  )

-- whatever is found outside
pub named_formed : (F : Finders) (T : List Position) (ok : IsTable T) (g : List Signed) (a : Alternative)
    → IsIn a (expansion T (leaf F T) g).alternatives
    → (h : List Signed) → IsIn h (named_by a) → IsFormed T h
named_formed F T ok g a i h j =
    let o = origin F T g a i in
    let (frame, x, (at, (ds, e))) = from_named F T o.kind o.number o.branch a o.from h j in
    form-IsFormed T ok (list_at frame at ds) h e
