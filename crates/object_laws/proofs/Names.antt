-- Values with the next names of their cells: the names differ, and are those of their cells.
use Rattle.std.proofs.Common.{◌≡◌, ℕ, zero, suc, ◌+◌, ◌<◌, ◌≤◌, inl, inr, Bool, true, false, cond, List, [], ◌∷◌, length, nat_eq, get_or, refl, ap, sym, ◌∙◌, subst, arith}
use Rattle.std.proofs.lemmas.Bool.{eq-eqb}
use Rattle.documents.specs.Tests.{comes_before}
use Rattle.documents.specs.Document.{Document, Members, no_members, member, entries, depth, members_depth, is_document}
use Rattle.positions.specs.Position.{Position}
use Rattle.expansions.specs.SortedMembers.{put, sorted}
use Rattle.list_laws.specs.In.{IsIn, Distinct}
use Rattle.frame_laws.proofs.Occurrences.{cells_of}
use Rattle.object_laws.proofs.SortedMembersLaws.{AreApart, AreFit}
use Rattle.cells.specs.Cells.{Cells, cell_of}
use Rattle.frames.specs.ObjectFrame.{number}
use Rattle.frames.specs.Fillers.{times}
use Rattle.expansions.specs.Leaves.{name}
use Rattle.object_laws.specs.ObjectValues.{named}
use Rattle.cell_laws.specs.RightCells.{IsOf, AreWords}

word_in : (k : ℕ) (ws : List (List ℕ)) → k < length ws → IsIn (get_or ws k []) ws
word_in k [] l = absurd (omega (arith, l))
word_in zero (w ∷ ws) l = inl refl
word_in (suc k) (w ∷ ws) l = inr (word_in k ws (omega (arith, l)))

-- different numbers have different words
words_differ : (i j : ℕ) (ws : List (List ℕ)) → Distinct ws → i < length ws → j < length ws
    → get_or ws i [] ≡ get_or ws j [] → i ≡ j
words_differ i j [] d l h e = absurd (omega (arith, l))
words_differ zero zero (w ∷ ws) d l h e = refl
words_differ zero (suc j) (w ∷ ws) d l h e =
    absurd (d.0 (subst (λ z. IsIn z ws) (sym e) (word_in j ws (omega (arith, h)))))
words_differ (suc i) zero (w ∷ ws) d l h e = absurd (d.0 (subst (λ z. IsIn z ws) e (word_in i ws (omega (arith, l)))))
words_differ (suc i) (suc j) (w ∷ ws) d l h e =
    ap suc (words_differ i j ws d.1 (omega (arith, l)) (omega (arith, h)) e)

times_same : (c : ℕ) (xs : List ℕ) → times c (c ∷ xs) ≡ suc (times c xs)
times_same c xs = rw (eq-eqb c c refl) refl

times_on : (c x : ℕ) (xs ys : List ℕ) → times c (x ∷ xs) + times c ys ≡ times c xs + times c (x ∷ ys)
times_on c x xs ys = go (nat_eq x c) where
  go : (b : Bool)
      → cond b (suc (times c xs)) (times c xs) + times c ys ≡ times c xs + cond b (suc (times c ys)) (times c ys)
  go true = omega arith
  go false = refl

module _ (C : Cells) where
  -- the value that is under a name, and which name of its cell that is
  pub record IsNamed (before : List ℕ) (vs : List (ℕ × Document)) (m : List ℕ × Document) : Type 0 where
    pub value : ℕ × Document
    pub is_value : IsIn value vs
    pub number : ℕ
    pub is : m ≡ (name C value.0 number, value.1)
    pub past : times value.0 before ≤ number
    pub below : number < times value.0 before + times value.0 (cells_of vs)

  pub named_from : (before : List ℕ) (vs : List (ℕ × Document)) (m : List ℕ × Document) → IsIn m (named C before vs)
      → IsNamed before vs m
  named_from before [] m i = absurd i
  named_from before (v ∷ vs) m (inl e) = record {
    value = v;
    is_value = inl refl;
    number = times v.0 before;
    is = e;
    past = omega arith;
    below = let h : times v.0 (v.0 ∷ cells_of vs) ≡ suc (times v.0 (cells_of vs)) =
        times_same v.0 (cells_of vs) in omega (arith, h);
  }
  named_from before (v ∷ vs) m (inr i) =
      let k = named_from (v.0 ∷ before) vs m i in
      let a : times k.value.0 (v.0 ∷ before) + times k.value.0 (cells_of vs)
      ≡ times k.value.0 before + times k.value.0 (v.0 ∷ cells_of vs) = times_on k.value.0 v.0 before (cells_of vs) in
      let past = k.past in let below = k.below in
      record {
        value = k.value;
        is_value = inr k.is_value;
        number = k.number;
        is = k.is;
        past = omega (arith, past, more k.value.0 v.0);
        below = omega (arith, below, a);
      }
    where
      more : (c x : ℕ) → times c before ≤ times c (x ∷ before)
      more c x = go (nat_eq x c) where
        go : (b : Bool) → times c before ≤ cond b (suc (times c before)) (times c before)
        go true = omega arith
        go false = omega arith

  -- each value has a name of its cell
  pub in_named : (before : List ℕ) (vs : List (ℕ × Document)) (v : ℕ × Document) → IsIn v vs
      → (k : ℕ) × IsIn (name C v.0 k, v.1) (named C before vs) × (k < times v.0 before + times v.0 (cells_of vs))
  in_named before [] v i = absurd i
  in_named before (x ∷ vs) v (inl e) =
      let h : times x.0 (x.0 ∷ cells_of vs) ≡ suc (times x.0 (cells_of vs)) = times_same x.0 (cells_of vs) in
      subst (λ z. (k : ℕ) × IsIn (name C z.0 k, z.1) (named C before (x ∷ vs))
      × (k < times z.0 before + times z.0 (cells_of (x ∷ vs)))) (sym e)
      (times x.0 before, inl refl, omega (arith, h))
  in_named before (x ∷ vs) v (inr i) =
      let (k, j, l) = in_named (x.0 ∷ before) vs v i in
      let a : times v.0 (x.0 ∷ before) + times v.0 (cells_of vs) ≡ times v.0 before + times v.0 (x.0 ∷ cells_of vs) =
      times_on v.0 x.0 before (cells_of vs) in
      (k, inr j, omega (arith, l, a))

  pub named_length : (before : List ℕ) (vs : List (ℕ × Document)) → length (named C before vs) ≡ length vs
  named_length before [] = refl
  named_length before (v ∷ vs) = ap suc (named_length (v.0 ∷ before) vs)

  module _ (T : List Position) (laws : AreWords T C) where
    -- name k of a cell is a name of it, and no other one
    pub name_is : (c k : ℕ) → k < number C c → IsOf T C c (name C c k)
    name_is c k l = laws.of_cell c (name C c k) (word_in k (C.words c) (omega (arith, l)))

    pub name_once : (c e k l : ℕ) → k < number C c → l < number C e → name C c k ≡ name C e l → (c ≡ e) × (k ≡ l)
    name_once c e k l a b q =
        let same : c ≡ e = sym (name_is c k a).1 ∙ ap (cell_of T C) q ∙ (name_is e l b).1 in
        let b' : l < number C c = subst (λ z. l < number C z) (sym same) b in
        let q' : name C c k ≡ name C c l = subst (λ z. name C c k ≡ name C z l) (sym same) q in
        (same, words_differ k l (C.words c) (laws.differ c) (omega (arith, a)) (omega (arith, b')) q')

    -- where no cell has more values than names
    abbrev pub Fit : List ℕ → List (ℕ × Document) → Type 0
    Fit before vs = (c : ℕ) → times c before + times c (cells_of vs) ≤ number C c

    fit_on : (before : List ℕ) (v : ℕ × Document) (vs : List (ℕ × Document)) → Fit before (v ∷ vs)
        → Fit (v.0 ∷ before) vs
    fit_on before v vs h c =
        let a : times c (v.0 ∷ before) + times c (cells_of vs) ≡ times c before + times c (v.0 ∷ cells_of vs) =
        times_on c v.0 before (cells_of vs) in
        let b : times c before + times c (v.0 ∷ cells_of vs) ≤ number C c = h c in
        omega (arith, a, b)

    pub named_of : (before : List ℕ) (vs : List (ℕ × Document)) → Fit before vs → (m : List ℕ × Document)
        → (k : IsNamed before vs m)
        → IsOf T C k.value.0 m.0
    named_of before vs h m k =
        let b = k.below in let r = h k.value.0 in
        subst (λ z. IsOf T C k.value.0 z.0) (sym k.is) (name_is k.value.0 k.number (omega (arith, b, r)))

    pub named_apart : (before : List ℕ) (vs : List (ℕ × Document)) → Fit before vs → AreApart (named C before vs)
    named_apart before [] h = tt
    named_apart before (v ∷ vs) h = (
      (λ x i e.
          let on = fit_on before v vs h in
          let k = named_from (v.0 ∷ before) vs x i in
          let below = k.below in let past = k.past in
          let r = on k.value.0 in let s = h v.0 in
          let one : times v.0 (v.0 ∷ cells_of vs) ≡ suc (times v.0 (cells_of vs)) = times_same v.0 (cells_of vs) in
          let (same, same_number) =
          name_once v.0 k.value.0 (times v.0 before) k.number (omega (arith, s, one)) (omega (arith, below, r))
          (e ∙ ap (λ z. z.0) k.is) in
          let two : times v.0 (v.0 ∷ before) ≡ suc (times v.0 before) = times_same v.0 before in
          let past' : times v.0 (v.0 ∷ before) ≤ k.number =
          subst (λ z. times z (v.0 ∷ before) ≤ k.number) (sym same) past in
          let f : ⊥ = omega (arith, past', two, same_number) in f),
      named_apart (v.0 ∷ before) vs (fit_on before v vs h),
    )

    pub named_fit : (before : List ℕ) (vs : List (ℕ × Document)) → Fit before vs
        → ((v : ℕ × Document) → IsIn v vs → is_document v.1 ≡ true)
        → AreFit (named C before vs)
    named_fit before [] h good = tt
    named_fit before (v ∷ vs) h good =
        let s = h v.0 in
        let one : times v.0 (v.0 ∷ cells_of vs) ≡ suc (times v.0 (cells_of vs)) = times_same v.0 (cells_of vs) in (
          (name_is v.0 (times v.0 before) (omega (arith, s, one))).0,
          good v (inl refl),
          named_fit (v.0 ∷ before) vs (fit_on before v vs h) (λ x i. good x (inr i)),
        )

-- sorted members are as many, and as deep

put_length : (k : List ℕ) (d : Document) (ms : Members) → length (entries (put k d ms)) ≡ suc (length (entries ms))
put_length k d no_members = refl
put_length k d (member l e ms) = go (comes_before k l) (put_length k d ms) where
  go : (t : Bool) → length (entries (put k d ms)) ≡ suc (length (entries ms))
      → length (entries (cond t (member k d (member l e ms)) (member l e (put k d ms)))) ≡ suc
      (suc (length (entries ms)))
  go true h = refl
  go false h = ap suc h

pub sorted_length : (es : List (List ℕ × Document)) → length (entries (sorted es)) ≡ length es
sorted_length [] = refl
sorted_length (m ∷ es) = put_length m.0 m.1 (sorted es) ∙ ap suc (sorted_length es)

pub depth_below : (n : ℕ) (ms : Members) → ((m : List ℕ × Document) → IsIn m (entries ms) → depth m.1 ≤ n)
    → members_depth ms ≤ n
depth_below n no_members h = omega arith
depth_below n (member k d ms) h = omega (arith, h (k, d) (inl refl), depth_below n ms (λ m i. h m (inr i)))
