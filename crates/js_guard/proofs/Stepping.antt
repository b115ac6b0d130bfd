-- The steps of the program keep a search.
use Rattle.std.proofs.Common.{◌≡◌, ℕ, ◌+◌, ◌-◌, ◌<◌, ◌≤◌, List, [], ◌∷◌, ◌++◌, length, get_or, inl, inr, Bool, true, false, Option, refl, sym, ap, ◌∙◌, subst, arith, true≢false}
use Rattle.std.proofs.lemmas.List.{length_push, get_or-set_same, get_or_read}
use Rattle.schemas.specs.Guarded.{targets, is_among}
use Rattle.schema_laws.proofs.Ways.{is_among-at}
use Rattle.js_guard.specs.declared.search.Mark.{Mark}
use Rattle.js_guard.specs.declared.search.Mark.TheVariants.{New, Open, Done}
use Rattle.js_guard.specs.declared.search.Turn.{Turn}
use Rattle.js_guard.specs.declared.search.Search.{Search}
use Rattle.js_guard.specs.Rows.{AreClosed}
use Rattle.js_guard.specs.Searching.{mark, count_new, at, noted, Reaches, IsPassed, IsSearch}
use Rattle.js_guard.specs.Steps.{IsSearchWith, Keeps, work, Enters, PassesAt, PassesEdges, ClosesLast, Leaves}
use Rattle.js_guard.proofs.Turns.{Reaches-join, Reaches-edge, turn-within, open-inside, reach-turn}
use Rattle.js_guard.proofs.Entering.{entered, entered-keeps, entered-fewer}
use Rattle.js_guard.proofs.Leaving.{left, closed}
use Rattle.js_guard.proofs.Passing.{turn, stepped, joined, joined-edge}

pub target-inside : (g : List (List ℕ)) (x e : ℕ) → AreClosed g → e < length (targets g x)
    → at (targets g x) e < length g
target-inside g x e closed h = closed x (at (targets g x) e) (is_among-at (targets g x) e h)

-- the entry whose turn it is, as the program reads it, is one of the table, and has its row
module _ (g : List (List ℕ)) (s : Search) (P : List Turn) (t : Turn) (search : IsSearchWith g s (P ++ t ∷ [])) where
  pub place-within : t.place < length s.opened.items
  place-within = turn-within g s.marks.items s.opened.items s.groups.items P s.done s.least t search

  pub turn-inside : (x : ℕ) → x ≡ get_or s.opened.items t.place x → x < length g
  turn-inside x read =
      let inside = open-inside g s.marks.items s.opened.items s.groups.items (P ++ t ∷ []) s.done s.least search t.place
      place-within in
      omega (arith, get_or_read s.opened.items t.place x place-within read 0)

  pub turn-row : (x : ℕ) (row S : List ℕ) → x ≡ get_or s.opened.items t.place x → row ≡ targets g x
      → S ≡ s.opened.items → row ≡ targets g (at S t.place)
  turn-row x row S read e same =
      e ∙ ap (targets g) (get_or_read s.opened.items t.place x place-within read 0 ∙ ap (λ o. at o t.place) (sym same))

-- what passing an edge leaves
pub record PassesOn (g : List (List ℕ)) (s s' : Search) (P : List Turn) (p n : ℕ) : Type 0 where
  pub marks : s'.marks ≡ s.marks
  pub opened : s'.opened ≡ s.opened
  pub path : s'.path ≡ s.path
  pub search : IsSearchWith g s' (P ++ turn p n ∷ [])

module _ (g : List (List ℕ)) (s s' : Search) (P : List Turn) (p n : ℕ)
    (search : IsSearchWith g s (P ++ turn p n ∷ [])) (edge : n < length (targets g (at s.opened.items p))) where
  abbrev w : ℕ
  w = at (targets g (at s.opened.items p)) n

  passes-at : (m : Mark) → mark s.marks.items w ≡ m → PassesAt m s s' w true → PassesOn g s s' P p (n + 1)
  passes-at New e h = absurd (true≢false h.0)
  passes-at (Open j) e (it_is, joins, same) =
      let now = joined g s.marks.items s.opened.items s.groups.items s'.groups.items P s.done s.least p n j search edge
      e
      joins in
      let over = joined-edge g s.marks.items s.opened.items s.groups.items s'.groups.items P s.done s.least p n j search
      edge e joins in
      let next = stepped g s.marks.items s.opened.items s'.groups.items P s.done (noted s.least w) p n now over in
      record {
        marks = ap (λ t. t.marks) same;
        opened = ap (λ t. t.opened) same;
        path = ap (λ t. t.path) same;
        search = subst (λ t. IsSearchWith g t (P ++ turn p (n + 1) ∷ [])) (sym same) next;
      }
  passes-at (Done r) e (it_is, same) =
      let over = subst (λ m. IsPassed s.groups.items s.least p w m) (sym e) tt in
      let next = stepped g s.marks.items s.opened.items s.groups.items P s.done s.least p n search over in
      record {
        marks = ap (λ t. t.marks) same;
        opened = ap (λ t. t.opened) same;
        path = ap (λ t. t.path) same;
        search = subst (λ t. IsSearchWith g t (P ++ turn p (n + 1) ∷ [])) (sym same) next;
      }

  -- an edge that is passed
  pub passes : (x : ℕ) (b : Bool) → x ≡ w → b ≡ true → PassesAt (mark s.marks.items x) s s' x b
      → PassesOn g s s' P p (n + 1)
  passes x b e yes_it h =
      passes-at (mark s.marks.items w) refl
      (subst (λ c. PassesAt (mark s.marks.items w) s s' w c) yes_it
      (subst (λ y. PassesAt (mark s.marks.items y) s s' y b) e h))

  stops-at : (m : Mark) → PassesAt m s s' w false → (m ≡ New) × (s' ≡ s)
  stops-at New h = (refl, h.1)
  stops-at (Open j) h = absurd (true≢false (sym h.0))
  stops-at (Done r) h = absurd (true≢false (sym h.0))

  -- an edge that isn't passed leads to a new entry
  pub stops : (x : ℕ) (b : Bool) → x ≡ w → b ≡ false → PassesAt (mark s.marks.items x) s s' x b
      → (mark s.marks.items w ≡ New) × (s' ≡ s)
  stops x b e no_it h =
      stops-at (mark s.marks.items w)
      (subst (λ c. PassesAt (mark s.marks.items w) s s' w c) no_it
      (subst (λ y. PassesAt (mark s.marks.items y) s s' y b) e h))

-- where the edges of an entry are passed, from what holds when the program stops
pub edges-passed : (g : List (List ℕ)) (s t s' : Search) (p n : ℕ) → t.marks ≡ s.marks → t.opened ≡ s.opened
    → t.path ≡ s.path → IsSearchWith g t (s.path.items ++ turn p n ∷ []) → s' ≡ t
    → (n < length (targets g (at t.opened.items p)) → mark t.marks.items (at (targets g (at t.opened.items p)) n) ≡ New)
    → PassesEdges g s s' p n
edges-passed g s t s' p n marks opened path search same new = record {
  marks = ap (λ u. u.marks) same ∙ marks;
  opened = ap (λ u. u.opened) same ∙ opened;
  path = ap (λ u. u.path) same ∙ path;
  search = subst (λ u. IsSearchWith g u (s.path.items ++ turn p n ∷ [])) (sym same) search;
  stops = λ edge.
      (let row = ap (λ o. targets g (at o.items p)) opened in
      subst (λ m. mark m.items (at (targets g (at s.opened.items p)) n) ≡ New) marks
      (subst (λ r. mark t.marks.items (at r n) ≡ New) row
      (new (subst (λ r. n < length r) (sym row) edge))));
}

search-same : (g : List (List ℕ)) (M N : List Mark) (S T B C : List ℕ) (P Q : List Turn) (done d : ℕ)
    (least l : Option ℕ) → IsSearch g M S B P done least → N ≡ M → T ≡ S → C ≡ B → Q ≡ P → d ≡ done → l ≡ least
    → IsSearch g N T C Q d l
search-same g M N S T B C P Q done d least l h a b c e f k =
    subst (λ m. IsSearch g m T C Q d l) (sym a)
    (subst (λ o. IsSearch g M o C Q d l) (sym b)
    (subst (λ o. IsSearch g M S o Q d l) (sym c)
    (subst (λ o. IsSearch g M S B o d l) (sym e)
    (subst (λ o. IsSearch g M S B P o l) (sym f)
    (subst (λ o. IsSearch g M S B P done o) (sym k) h)))))

-- what a step of the program leaves
pub record GoesOn (g : List (List ℕ)) (s s' : Search) : Type 0 where
  pub search : IsSearchWith g s' s'.path.items
  pub keeps : Keeps s s'

-- a new entry is entered to which all open ones lead
module _ (g : List (List ℕ)) (s s' : Search) (x : ℕ) (search : IsSearchWith g s s.path.items) (inside : x < length g)
    (new : mark s.marks.items x ≡ New)
    (to_x : (i : ℕ) → i < length s.opened.items → Reaches g (at s.opened.items i) x) (e : Enters s s' x) where
  pub entering : GoesOn g s s'
  entering = record {
    search =
        search-same g _ s'.marks.items _ s'.opened.items _ s'.groups.items _ s'.path.items s.done s'.done s.least
        s'.least
        (entered g s.marks.items s.opened.items s.groups.items s.path.items s.done s.least x search inside new to_x)
        e.marks e.opened e.groups e.path e.done e.least;
    keeps = λ y h.
        entered-keeps g s.marks.items s.opened.items s.groups.items s.path.items s.done s.least x search inside new to_x
        y
        (subst (λ m. mark m y ≡ New) e.marks h);
  }

  pub entering-new : mark s'.marks.items x ≡ New → ⊥
  entering-new h =
      let size = search.marked in
      let here = get_or-set_same s.marks.items x (Open (length s.opened.items)) New (omega arith) in
      let clash : Open (length s.opened.items) ≡ New = sym here ∙ subst (λ m. mark m x ≡ New) e.marks h in
      cc

  pub entering-work : work s' ≡ work s - 1
  entering-work =
      let fewer =
      entered-fewer g s.marks.items s.opened.items s.groups.items s.path.items s.done s.least x search inside new
      to_x in
      let longer = length_push s.path.items (turn (length s.opened.items) 0) in
      omega (arith, ap count_new e.marks, ap length e.path)

-- all edges of the entry whose turn it is are passed
module _ (g : List (List ℕ)) (s s' : Search) (P : List Turn) (p n : ℕ)
    (search : IsSearchWith g s (P ++ turn p n ∷ [])) (path : s.path.items ≡ P)
    (over : length (targets g (at s.opened.items p)) ≤ n) where
  leaving-last : ClosesLast s s' p → GoesOn g s s'
  leaving-last c = record {
    search =
        subst (λ q. IsSearchWith g s' q) (sym (ap (λ v. v.items) c.path ∙ path))
        (closed g s.marks.items s.opened.items s.groups.items P s.done s.least (turn p n) search over s'.marks.items
        s'.opened.items s'.groups.items s'.done s'.least c.ends c.groups c.opened c.closes);
    keeps = λ x h. elim (c.closes.others x) [
      | inl same ↦ sym same ∙ h
      | inr (i, low, high, e) ↦
          let now = c.closes.closed i low high in
          absurd (let clash : Done now.0 ≡ New = sym now.1 ∙ ap (mark s'.marks.items) e ∙ h in cc)
    ];
  }

  pub leaving : Leaves s s' p → GoesOn g s s'
  leaving h =
      elim h [
        | inl (same, inner) ↦
            let now = left g s.marks.items s.opened.items s.groups.items P s.done s.least (turn p n) search over
            inner in
            record {
              search =
                  subst (λ t. IsSearchWith g t t.path.items) (sym same)
                  (subst (λ q. IsSearchWith g s q) (sym path) now);
              keeps = λ x k. subst (λ t. mark t.marks.items x ≡ New) same k;
            }
        | inr c ↦ leaving-last c
      ]

-- edges are passed up to one that leads to a new entry, which is entered: s, t, u and v are what comes before that,
-- after it, with the turn put back, and in the end
module _ (g : List (List ℕ)) (s t u v : Search) (p n x : ℕ) (closed_g : AreClosed g) (e : PassesEdges g s t p n)
    (same : u ≡ record t { path = u.path }) (pushed : u.path.items ≡ t.path.items ++ turn p n ∷ [])
    (edge : n < length (targets g (at t.opened.items p))) (to : x ≡ at (targets g (at t.opened.items p)) n)
    (enters : Enters u v x) where
  back_on : u.path.items ≡ s.path.items ++ turn p n ∷ []
  back_on = pushed ∙ ap (λ q. q.items ++ turn p n ∷ []) e.path

  search-on : IsSearchWith g (record t { path = u.path }) u.path.items
  search-on = subst (λ q. IsSearchWith g t q) (sym back_on) e.search

  target : is_among x (targets g (at t.opened.items p)) ≡ true
  target =
      subst (λ y. is_among y (targets g (at t.opened.items p)) ≡ true) (sym to)
      (is_among-at (targets g (at t.opened.items p)) n edge)

  old_row : targets g (at t.opened.items p) ≡ targets g (at s.opened.items p)
  old_row = ap (λ o. targets g (at o.items p)) e.opened

  new_entry : mark t.marks.items x ≡ New
  new_entry =
      let stopped = e.stops (subst (λ r. n < length r) old_row edge) in
      subst (λ m. mark m.items x ≡ New) (sym e.marks)
      (subst (λ y. mark s.marks.items y ≡ New) (sym (to ∙ ap (λ r. at r n) old_row)) stopped)

  to_new : (i : ℕ) → i < length t.opened.items → Reaches g (at t.opened.items i) x
  to_new i h =
      Reaches-join g (at t.opened.items i) (at t.opened.items p) x
      (reach-turn g t.marks.items t.opened.items t.groups.items s.path.items t.done t.least (turn p n) e.search i h)
      (Reaches-edge g (at t.opened.items p) x target)

  inside-x : x < length g
  inside-x = closed_g (at t.opened.items p) x target

  enters-on : Enters (record t { path = u.path }) v x
  enters-on = subst (λ w. Enters w v x) same enters

  pub turned : GoesOn g s v
  turned =
      let on = entering g (record t { path = u.path }) v x search-on inside-x new_entry to_new enters-on in
      record {
        search = on.search;
        keeps = λ y h. subst (λ m. mark m.items y ≡ New) e.marks (on.keeps y h);
      }

  pub turned-work : work v ≤ work s
  turned-work =
      let less = entering-work g (record t { path = u.path }) v x search-on inside-x new_entry to_new enters-on in
      omega (arith, ap length back_on, length_push s.path.items (turn p n), ap (λ m. count_new m.items) e.marks)

-- or up to the last, and the entry is left
module _ (g : List (List ℕ)) (s t v : Search) (p n : ℕ) (e : PassesEdges g s t p n)
    (over : length (targets g (at t.opened.items p)) ≤ n) (leaves : Leaves t v p) where
  pub turned-last : GoesOn g s v
  turned-last =
      let on = leaving g t v s.path.items p n e.search (ap (λ q. q.items) e.path) over leaves in
      record {
        search = on.search;
        keeps = λ y h. subst (λ m. mark m.items y ≡ New) e.marks (on.keeps y h);
      }
