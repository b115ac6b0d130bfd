-- Rows as flags and as a list: a row more, and when no more are found.
use Rattle.std.proofs.Common.{◌≡◌, ℕ, suc, ◌+◌, ◌-◌, ◌/◌, ◌%◌, ◌<◌, ◌≤◌, ◌⊎◌, inl, inr, List, [], ◌∷◌, ◌++◌, length, length-append, replicate, get_or, set, Bool, true, false, cond, refl, ap, sym, ◌∙◌, subst, arith}
use Rattle.std.proofs.lemmas.List.{get_or-set_same, get_or-set_other, length-set, get_or_append_left, get_or-append_right, get_or-replicate, get_or_past, length-replicate}
use Rattle.std.proofs.lemmas.List.Folds.{sum_by-replicate}
use Rattle.std.proofs.lemmas.List.Sums.{sum_by-set, count_by-le-length}
use Rattle.std.proofs.lemmas.Bool.{cases_eq, cases_lt}
use Rattle.word_states.specs.Atom.{Atom}
use Rattle.word_states.specs.Classes.{class_count}
use Rattle.word_states.specs.Rows.{AreRows}
use Rattle.js_row_words.specs.Labels.{IsPart, LeadsToMark}
use Rattle.js_row_words.specs.Edges.{edge_target, edge_count, last_edge, AreSources, HaveSources}
use Rattle.js_row_words.specs.Reaching.{IsListed, AreListed, GoesOn, AllLead, AreReached}
use Rattle.js_row_words.proofs.EdgeLaws.{last_leads, last_after, last_within, edge_row, sources_closed}
use Rattle.js_row_words.proofs.LabelLaws.{lead_back, lead_here, mark_is}
use Rattle.std.proofs.Math.Nat.{sub_self}

-- what a list of flags is after one of them is set
flag_set : (seen : List Bool) (row r : ℕ) → row < length seen → get_or (set seen row true) r false ≡ true
    → (r ≡ row) ⊎ (get_or seen r false ≡ true)
flag_set seen row r l e = elim (cases_eq r row) [
  | inl q ↦ inl q
  | inr d ↦ inr (sym (get_or-set_other seen row r true false d) ∙ e)
]

pub flag_kept : (seen : List Bool) (row r : ℕ) → row < length seen → get_or seen r false ≡ true
    → get_or (set seen row true) r false ≡ true
flag_kept seen row r l e = elim (cases_eq r row) [
  | inl q ↦ subst (λ z. get_or (set seen row true) z false ≡ true) (sym q) (get_or-set_same seen row true false l)
  | inr d ↦ get_or-set_other seen row r true false d ∙ e
]

-- a row that is seen is there
pub flag_within : (seen : List Bool) (r : ℕ) → get_or seen r false ≡ true → r < length seen
flag_within seen r e = elim (cases_lt r (length seen)) [
  | inl l ↦ l
  | inr l ↦ let q = get_or_past seen r false l in cc (q, e)
]

pub goes_same : (list : List ℕ) → GoesOn list list
goes_same list = (omega arith, λ i l. refl)

pub goes_further : (a b c : List ℕ) → GoesOn a b → GoesOn b c → GoesOn a c
goes_further a b c (l, h) (m, k) = (omega (arith, l, m), λ i j. k i (omega (arith, j, l)) ∙ h i j)

-- a row more
pub listed_more : (seen : List Bool) (list : List ℕ) (row : ℕ) → AreListed seen list → row < length seen
    → get_or seen row false ≡ false → AreListed (set seen row true) (list ++ row ∷ [])
listed_more seen list row a l e = record {
  count =
      let s = length-append list (row ∷ []) in
      let c = sum_by-set (λ b. cond b 1 0) seen row true false l in
      let z : ◌≡◌ {A = ℕ} (cond (get_or seen row false) 1 0) 0 = ap (λ b. cond b 1 0) e in
      let n = a.count in
      omega (arith, s, c, z, n);
  listed = λ r s. at r (flag_set seen row r l s);
  members = λ i m. elim (cases_eq i (length list)) [
    | inl q ↦ subst (λ z. get_or (set seen row true) (get_or (list ++ row ∷ []) z 0) false ≡ true) (sym q)
        (subst (λ z. get_or (set seen row true) z false ≡ true) (sym (get_or-append_right list (row ∷ [])
        (length list) (length list) 0 refl (omega arith) ∙ ap (λ z. get_or (row ∷ []) z 0) (sub_self (length list))))
        (get_or-set_same seen row true false l))
    | inr d ↦
        let s = length-append list (row ∷ []) in
        let j : i < length list = omega (arith, m, s, d) in
        subst (λ z. get_or (set seen row true) z false ≡ true) (sym (get_or_append_left list (row ∷ []) 0 i j))
        (flag_kept seen row (get_or list i 0) l (a.members i j))
  ];
} where
  at : (r : ℕ) → (r ≡ row) ⊎ (get_or seen r false ≡ true) → IsListed (list ++ row ∷ []) r
  at r (inl q) = (
    length list,
    (let s = length-append list (row ∷ []) in omega (arith, s)),
    get_or-append_right list (row ∷ []) (length list) (length list) 0 refl (omega arith)
        ∙ ap (λ z. get_or (row ∷ []) z 0) (sub_self (length list))
        ∙ sym q,
  )
  at r (inr h) =
      let (i, m, q) = a.listed r h in
      let s = length-append list (row ∷ []) in
      (i, omega (arith, s, m), get_or_append_left list (row ∷ []) 0 i m ∙ q)

-- there are no more than rows
pub list_within : (seen : List Bool) (list : List ℕ) → AreListed seen list → length list ≤ length seen
list_within seen list a = let c = count_by-le-length (λ b. b) seen in let n = a.count in omega (arith, c, n)

-- those of the last n rows that are marked
pub record AreMarked (atoms : List Atom) (L : List (List ℕ)) (marks seen : List Bool) (list : List ℕ) (n : ℕ) : Type 0
  where
    pub size : length seen ≡ length L
    pub listed : AreListed seen list
    pub leads : AllLead atoms L marks seen
    pub marked : (r : ℕ) → r < length L → length L ≤ r + n → get_or marks r false ≡ true
        → get_or seen r false ≡ true

module _ (atoms : List Atom) (L : List (List ℕ)) (marks : List Bool) where
  unmarked : (n r : ℕ) → get_or (replicate n false) r false ≡ true → ⊥
  unmarked n r e = elim (cases_lt r n) [
    | inl l ↦ let q = get_or-replicate n r false false l in cc (q, e)
    | inr l ↦
        let q = get_or_past (replicate n false) r false (let s = length-replicate n false in omega (arith, s, l)) in
        cc (q, e)
  ]

  pub marked_first : (seen : List Bool) (list : List ℕ) → seen ≡ replicate (length L) false → list ≡ []
      → AreMarked atoms L marks seen list 0
  marked_first seen list p q =
      subst (λ z. AreMarked atoms L marks z list 0) (sym p)
      (subst (λ z. AreMarked atoms L marks (replicate (length L) false) z 0) (sym q) (record {
        size = length-replicate (length L) false;
        listed = record {
          count = (let s = sum_by-replicate (λ b. cond b 1 0) (length L) false in omega (arith, s));
          listed = λ r e. absurd (unmarked (length L) r e);
          members = λ i l. absurd (omega (arith, l));
        };
        leads = λ r e. absurd (unmarked (length L) r e);
        marked = λ r l m. absurd (omega (arith, l, m));
      }))

  module _ (seen : List Bool) (list : List ℕ) (n : ℕ) (before : AreMarked atoms L marks seen list n) (row : ℕ)
      (l : n < length L) (at : row ≡ length L - 1 - n) where
    -- a row that was not among the last before is the one before them
    earlier : (r : ℕ) → length L ≤ r + (n + 1) → (r ≡ row → ⊥) → length L ≤ r + n
    earlier r m d = omega (arith, m, d, at, l)

    pub marked_row : AreRows atoms L → get_or marks row false ≡ true → (seen' : List Bool)
        → (list' : List ℕ) → seen' ≡ set seen row true → AreListed seen' list'
        → AreMarked atoms L marks seen' list' (n + 1)
    marked_row rows m seen' list' is listed =
        let within : row < length L = omega (arith, at, l) in
        let inside : row < length seen = (let s = before.size in omega (arith, within, s)) in record {
          size = ap length is ∙ length-set seen row true ∙ before.size;
          listed = listed;
          leads = λ r e. elim (flag_set seen row r inside (subst (λ z. get_or z r false ≡ true) is e)) [
            | inl q ↦ subst (λ z. LeadsToMark atoms L marks z) (sym q) (lead_here atoms L rows marks row within m)
            | inr s ↦ before.leads r s
          ];
          marked = λ r j k e. subst (λ z. get_or z r false ≡ true) (sym is) (elim (cases_eq r row) [
            | inl q ↦ subst (λ z. get_or (set seen row true) z false ≡ true) (sym q)
                (get_or-set_same seen row true false inside)
            | inr d ↦ flag_kept seen row r inside (before.marked r j (earlier r k d) e)
          ]);
        }

    pub marked_none : get_or marks row false ≡ false → AreMarked atoms L marks seen list (n + 1)
    marked_none m = record {
      size = before.size;
      listed = before.listed;
      leads = before.leads;
      marked = λ r j k e. elim (cases_eq r row) [
        | inl q ↦ let f : get_or marks row false ≡ true = subst (λ z. get_or marks z false ≡ true) q e in cc (f, m)
        | inr d ↦ before.marked r j (earlier r k d) e
      ];
    }

-- the sources of a row are added, edge by edge: those from the first `left` edges are still to come
pub record AreAdded (atoms : List Atom) (L : List (List ℕ)) (row : ℕ) (seen : List Bool) (list : List ℕ)
    (seen' : List Bool) (list' : List ℕ) (left : ℕ) : Type 0 where
  pub size : length seen' ≡ length L
  pub listed : AreListed seen' list'
  pub longer : GoesOn list list'
  pub part : IsPart seen' seen
  pub leads : (marks : List Bool) → LeadsToMark atoms L marks row → AllLead atoms L marks seen
      → AllLead atoms L marks seen'
  pub within : left ≤ edge_count atoms L
  pub at : (e : ℕ) → left ≡ suc e → edge_target atoms L e ≡ row
  pub added : (e : ℕ) → e < edge_count atoms L → edge_target atoms L e ≡ row
      → (e < left) ⊎ (get_or seen' (e / class_count atoms) false ≡ true)

module _ (atoms : List Atom) (L : List (List ℕ)) (rows : AreRows atoms L) (last before : List ℕ)
    (sources : AreSources atoms L last before) (row : ℕ) where
  pub added_first : row < length L → (seen : List Bool) (list : List ℕ) → length seen ≡ length L
      → AreListed seen list → AreAdded atoms L row seen list seen list (get_or last row 0)
  added_first l seen list s a = record {
    size = s;
    listed = a;
    longer = goes_same list;
    part = λ r e. e;
    leads = λ marks h k. k;
    within = subst (λ z. z ≤ edge_count atoms L) (sym (sources.2 row l))
        (last_within (edge_target atoms L) (edge_count atoms L) row);
    at = λ e q. (last_leads (edge_target atoms L) (edge_count atoms L) row e (sym (sources.2 row l) ∙ q)).1;
    added = λ e m q. inl (subst (λ z. e < z) (sym (sources.2 row l))
        (last_after (edge_target atoms L) (edge_count atoms L) row e m q));
  }

  pub added_next : (seen : List Bool) (list : List ℕ) (seen' : List Bool) (list' : List ℕ) (e : ℕ)
      → AreAdded atoms L row seen list seen' list' (suc e) → (now : List ℕ)
      → AreListed (set seen' (e / class_count atoms) true) now → GoesOn list' now
      → AreAdded atoms L row seen list (set seen' (e / class_count atoms) true) now (get_or before e 0)
  added_next seen list seen' list' e a now listed longer =
      let k : e < edge_count atoms L = (let w = a.within in omega (arith, w)) in
      let (i, j) = edge_row atoms L e k in
      let here : edge_target atoms L e ≡ row = a.at e refl in
      let before_is : get_or before e 0 ≡ last_edge (edge_target atoms L) e row =
      sources.3 e k ∙ ap (λ z. last_edge (edge_target atoms L) e z) here in
      let inside : e / class_count atoms < length seen' = (let s = a.size in omega (arith, i, s)) in record {
        size = length-set seen' (e / class_count atoms) true ∙ a.size;
        listed = listed;
        longer = goes_further list list' now a.longer longer;
        part = λ r h. flag_kept seen' (e / class_count atoms) r inside (a.part r h);
        leads = λ marks h all r s. elim (flag_set seen' (e / class_count atoms) r inside s) [
          | inl q ↦ subst (λ z. LeadsToMark atoms L marks z) (sym q)
              (lead_back atoms L rows marks (e / class_count atoms) (e % class_count atoms) j
              (subst (λ z. LeadsToMark atoms L marks z) (sym here) h))
          | inr s ↦ a.leads marks h all r s
        ];
        within =
            let w = last_within (edge_target atoms L) e row in
            omega (arith, before_is, w, k);
        at = λ d q. (last_leads (edge_target atoms L) e row d (sym before_is ∙ q)).1;
        added = λ d m q. go d q (a.added d m q) before_is inside;
      }
    where
      go : (d : ℕ) → edge_target atoms L d ≡ row
          → (d < suc e) ⊎ (get_or seen' (d / class_count atoms) false ≡ true)
          → get_or before e 0 ≡ last_edge (edge_target atoms L) e row
          → e / class_count atoms < length seen'
          → (d < get_or before e 0)
          ⊎ (get_or (set seen' (e / class_count atoms) true) (d / class_count atoms) false ≡ true)
      go d q (inr s) b l = inr (flag_kept seen' (e / class_count atoms) (d / class_count atoms) l s)
      go d q (inl m) b l = elim (cases_eq d e) [
        | inl p ↦ inr (subst (λ z. get_or (set seen' (e / class_count atoms) true) (z / class_count atoms) false ≡ true)
            (sym p) (get_or-set_same seen' (e / class_count atoms) true false l))
        | inr n ↦ inl (subst (λ z. d < z) (sym b)
            (last_after (edge_target atoms L) e row d (omega (arith, m, n)) q))
      ]

  -- the edge before comes before
  pub added_falls : (seen : List Bool) (list : List ℕ) (seen' : List Bool) (list' : List ℕ) (e : ℕ)
      → AreAdded atoms L row seen list seen' list' (suc e) → get_or before e 0 < suc e
  added_falls seen list seen' list' e a =
      let k : e < edge_count atoms L = (let w = a.within in omega (arith, w)) in
      let q = sources.3 e k in
      let w = last_within (edge_target atoms L) e (edge_target atoms L e) in
      omega (arith, q, w)

-- the sources of the first `done` rows of the list are in it
pub record AreFound (atoms : List Atom) (L : List (List ℕ)) (marks seen : List Bool) (list : List ℕ) (done : ℕ)
    : Type 0 where
  pub size : length seen ≡ length L
  pub listed : AreListed seen list
  pub leads : AllLead atoms L marks seen
  pub marked : IsPart seen marks
  pub within : done ≤ length list
  pub sources : (i : ℕ) → i < done → HaveSources atoms L seen (get_or list i 0)

module _ (atoms : List Atom) (L : List (List ℕ)) (marks seen : List Bool) (list : List ℕ) (done : ℕ)
    (found : AreFound atoms L marks seen list done) where
  -- the sources of one row more
  pub found_next : (seen' : List Bool) (list' : List ℕ) → done < length list → length seen' ≡ length L
      → AreListed seen' list' → GoesOn list list' → IsPart seen' seen
      → HaveSources atoms L seen' (get_or list done 0)
      → ((marks : List Bool) → LeadsToMark atoms L marks (get_or list done 0) → AllLead atoms L marks seen
      → AllLead atoms L marks seen')
      → AreFound atoms L marks seen' list' (done + 1)
  found_next seen' list' l size listed (m, same) part all leads = record {
    size = size;
    listed = listed;
    leads = leads marks (found.leads (get_or list done 0) (found.listed.members done l)) found.leads;
    marked = λ r e. part r (found.marked r e);
    within = omega (arith, l, m);
    sources = λ i k. go i k (cases_eq i done);
  } where
    go : (i : ℕ) → i < done + 1 → (i ≡ done) ⊎ (i ≡ done → ⊥) → HaveSources atoms L seen' (get_or list' i 0)
    go i k (inl q) = subst (λ z. HaveSources atoms L seen' z)
        (sym (same done l) ∙ ap (λ z. get_or list' z 0) (sym q)) all
    go i k (inr n) =
        let j : i < done = omega (arith, k, n) in
        subst (λ z. HaveSources atoms L seen' z) (sym (same i (omega (arith, j, l))))
        (λ e h q. part (e / class_count atoms) (found.sources i j e h q))

  -- the list is not longer than there are rows
  pub found_within : done < length list → (get_or list done 0 < length L) × (done < length L)
  found_within l =
      let s = found.size in
      let m = flag_within seen (get_or list done 0) (found.listed.members done l) in
      let n = list_within seen list found.listed in
      (omega (arith, s, m), omega (arith, l, n, s))

  -- all are found
  pub found_all : AreRows atoms L → length list ≤ done → AreReached atoms L marks seen list
  found_all rows l = record {
    size = found.size;
    listed = found.listed;
    leads = found.leads;
    marked = λ r m e. found.marked r (sym (mark_is atoms L rows marks r m) ∙ e);
    closed = sources_closed atoms L seen (λ t s.
        let (i, m, q) = found.listed.listed t s in
        subst (λ z. HaveSources atoms L seen z) q (found.sources i (omega (arith, m, l))));
  }
