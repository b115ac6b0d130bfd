-- Labels that have their words and keep the rule are the numbers of words.
use Rattle.std.proofs.Common.{◌≡◌, ℕ, ◌*◌, ◌≤◌, ◌<◌, inl, inr, min, List, [], ◌∷◌, map, length, get_or, set, Bool, true, false, cond, refl, ap, sym, ◌∙◌, subst, arith}
use Rattle.std.proofs.lemmas.List.{get_or-set_same, get_or-set_other, get_or-map, get_or_past, length-map}
use Rattle.std.proofs.lemmas.Bool.{cases_eq, cases_lt, and_from}
use Rattle.patterns.specs.CharSet.{is_scalar}
use Rattle.word_states.specs.Atom.{Atom}
use Rattle.word_states.specs.Classes.{are_alike, dividers, characters, class_firsts, class_count, class_of}
use Rattle.word_states.specs.WordState.{have_same_state}
use Rattle.word_states.specs.Rows.{AreRows, row_of}
use Rattle.word_laws.proofs.Places.{place_like}
use Rattle.word_laws.proofs.Classes.{alike_laws, firsts_scalar}
use Rattle.word_laws.proofs.ClassLaws.{classes_divide}
use Rattle.word_laws.proofs.States.{same_laws}
use Rattle.word_laws.proofs.RowLaws.{rows_words}
use Rattle.list_laws.specs.In.{IsIn}
use Rattle.list_laws.proofs.Lists.{get_or-in}
use Rattle.cell_laws.specs.Leading.{Leads, HasWords, asked, IsStable, IsCapacity}
use Rattle.cell_laws.specs.RowTables.{LeadsOn}
use Rattle.cell_laws.proofs.Lower as Lower
use Rattle.cell_laws.proofs.Classes as C
use Rattle.cell_laws.proofs.Tables as T
use Rattle.cell_laws.proofs.Labels as Numbers
use Rattle.cell_laws.proofs.Characters.{different, scalars, whole}
use Rattle.cell_laws.proofs.Rows.{target_in, leads_on, row_is, one_row}
use Rattle.alternatives.specs.Limit.{most_states}
use Rattle.finders.specs.WordsFound.{far}
use Rattle.js_row_words.specs.RowWords.{is_marked, words_from}
use Rattle.js_row_words.specs.Labels.{next_row, in_marks, label_of, asked_of, AreCut, IsSettled, HaveWords, LeadsToMark, HasNext}

far_enough : (n : ℕ) → n ≤ most_states → n * 65537 ≤ far
unfolding far
far_enough n few = omega (arith, few)

-- the label of a row at first
pub first_label : (loops : List Bool) (r : ℕ)
    → ◌≡◌ {A = ℕ} (get_or (map (λ b. cond b 65537 0) loops) r 0) (cond (get_or loops r false) 65537 0)
first_label loops r = elim (cases_lt r (length loops)) [
  | inl l ↦ get_or-map (λ b. cond b 65537 0) loops r false 0 l
  | inr l ↦
      let n = counted loops in
      get_or_past (map (λ b. cond b 65537 0) loops) r 0 (omega (arith, l, n))
      ∙ ap (λ b. cond b 65537 0) (sym (get_or_past loops r false l))
] where
  counted : (bs : List Bool) → ◌≡◌ {A = ℕ} (length (map {B = ℕ} (λ b. cond b 65537 0) bs)) (length bs)
  counted bs = length-map bs (λ b. cond b 65537 0)

-- the first character of a class is of that class
first_class : (atoms : List Atom) (k : ℕ) → k < class_count atoms
    → (is_scalar (get_or (class_firsts atoms) k 0) ≡ true) × (class_of atoms (get_or (class_firsts atoms) k 0) ≡ k)
first_class atoms k l =
    let f = get_or (class_firsts atoms) k 0 in
    let s = firsts_scalar atoms f (get_or-in (class_firsts atoms) k 0 l) in (
      s,
      sym ((classes_divide atoms f s).2 k l
          (and_from (is_scalar f) (are_alike (dividers atoms) f f) s ((alike_laws (dividers atoms)).refl f))),
    )

module _ (atoms : List Atom) (L : List (List ℕ)) (rows : AreRows atoms L) (marks : List Bool) where
  leads : LeadsOn atoms L (target_in atoms L)
  leads = leads_on atoms L rows

  -- words of one row have one mark
  shared : (v w : List ℕ) → have_same_state atoms v w ≡ true → is_marked atoms L marks v ≡ is_marked atoms L marks w
  shared v w e = ap (λ z. get_or marks z false) (place_like (have_same_state atoms) (same_laws atoms) v w L e)

  -- a row's word leads to it
  pub own_row : (r : ℕ) → r < length L → row_of atoms L (get_or L r []) ≡ r
  own_row r l =
      let w = get_or L r [] in
      one_row atoms L rows w (row_of atoms L w) r
      (row_is atoms L rows w (rows_words atoms L rows w (get_or-in L r [] l))) (l, (same_laws atoms).refl w)

  pub mark_is : (r : ℕ) → r < length L → in_marks atoms L marks r ≡ get_or marks r false
  mark_is r l = ap (λ z. get_or marks z false) (own_row r l)

  -- what leads on to a row from which a marked row is reached
  pub lead_back : (r k : ℕ) → k < class_count atoms → LeadsToMark atoms L marks (target_in atoms L r k)
      → LeadsToMark atoms L marks r
  lead_back r k l (w, h) =
      let c = get_or (class_firsts atoms) k 0 in
      let (s, q) = first_class atoms k l in
      let (a, e) = subst (λ z. Leads characters (next_row atoms L) (in_marks atoms L marks) z w)
      (ap (λ z. target_in atoms L r z) (sym q)) h in
      (c ∷ w, ((whole c s, a), e))

  pub lead_here : (r : ℕ) → r < length L → get_or marks r false ≡ true → LeadsToMark atoms L marks r
  lead_here r l e = ([], (tt, mark_is r l ∙ e))

  classed : (c : ℕ) → IsIn c characters → class_of atoms c < class_count atoms
  classed = T.classed atoms L (target_in atoms L) leads (is_marked atoms L marks) shared characters
      (different 0x110000) (scalars 0x110000) whole

  pub within : (r k : ℕ) → r < length L → k < class_count atoms → target_in atoms L r k < length L
  within r k l m = (leads r k l m).0

  closed : (r c : ℕ) → r < length L → IsIn c characters → next_row atoms L r c < length L
  closed r c l i = within r (class_of atoms c) l (classed c i)

  asked_is : (labels : List ℕ) (r : ℕ)
      → asked characters (next_row atoms L) (in_marks atoms L marks) (label_of labels) r
      ≡ asked_of atoms L marks labels r
  asked_is labels r = C.asked_same characters (class_of atoms) (target_in atoms L) (in_marks atoms L marks) (length L)
      (class_count atoms) classed within (label_of labels) r

  -- a label that is raised to what is required of it has its words
  pub words_raised : (labels : List ℕ) (row label : ℕ) → row < length labels
      → label ≤ asked_of atoms L marks labels row → HaveWords atoms L marks labels
      → HaveWords atoms L marks (set labels row label)
  words_raised labels row label l m words r = elim (cases_eq r row) [
    | inl q ↦
        let s = Lower.step characters (next_row atoms L) (in_marks atoms L marks) (label_of labels) row
        (different 0x110000) (λ c. words (next_row atoms L row c)) in
        let f = Lower.fewer characters (next_row atoms L) (in_marks atoms L marks) row label
        (asked characters (next_row atoms L) (in_marks atoms L marks) (label_of labels) row)
        (let e = asked_is labels row in omega (arith, e, m)) s in
        subst (λ z. HasWords characters (next_row atoms L) (in_marks atoms L marks) z
        (get_or (set labels row label) z 0)) (sym q)
        (subst (λ z. HasWords characters (next_row atoms L) (in_marks atoms L marks) row z)
        (sym (get_or-set_same labels row label 0 l)) f)
    | inr d ↦ subst (λ z. HasWords characters (next_row atoms L) (in_marks atoms L marks) r z)
        (sym (get_or-set_other labels row r label 0 d)) (words r)
  ]

  -- the labels at first: the most of rows from which words go on for ever, and none of others
  pub words_at_first : (loops : List Bool)
      → ((r : ℕ) → get_or loops r false ≡ true → LeadsToMark atoms L marks r)
      → ((r : ℕ) → get_or loops r false ≡ true → HasNext atoms L loops r)
      → HaveWords atoms L marks (map (λ b. cond b 65537 0) loops)
  words_at_first loops ends nexts r =
      subst (λ z. HasWords characters (next_row atoms L) (in_marks atoms L marks) r z) (sym (first_label loops r))
      (go (get_or loops r false) refl) where
        on : (r : ℕ) → get_or loops r false ≡ true
            → (c : ℕ) × IsIn c characters × (get_or loops (next_row atoms L r c) false ≡ true)
        on r e =
            let (k, l, h) = nexts r e in
            let (s, q) = first_class atoms k l in (
              get_or (class_firsts atoms) k 0,
              whole (get_or (class_firsts atoms) k 0) s,
              ap (λ z. get_or loops (target_in atoms L r z) false) q ∙ h,
            )

        go : (b : Bool) → get_or loops r false ≡ b
            → HasWords characters (next_row atoms L) (in_marks atoms L marks) r (cond b 65537 0)
        go true e = Lower.endless characters (next_row atoms L) (in_marks atoms L marks)
            (λ r. get_or loops r false) on ends r 65537 e
        go false e = Lower.none characters (next_row atoms L) (in_marks atoms L marks) r

  -- settled labels are the numbers of words
  pub numbers_are : length L ≤ most_states → (labels : List ℕ) → AreCut labels → HaveWords atoms L marks labels
      → ((r : ℕ) → r < length L → IsSettled atoms L marks labels r)
      → (r : ℕ) → r < length L → get_or labels r 0 ≡ min 65537 (length (words_from atoms L marks r))
  numbers_are few labels cut words settled r l =
      Numbers.capacity_printed atoms L (target_in atoms L) leads (is_marked atoms L marks) shared characters
      (different 0x110000) (scalars 0x110000) whole 65537 far (far_enough (length L) few) r (label_of labels r) l
      capacity
      ∙ Numbers.number_by_is atoms L (target_in atoms L) leads (is_marked atoms L marks) shared characters
      (different 0x110000) (scalars 0x110000) whole r (get_or L r []) (l, (same_laws atoms).refl (get_or L r []))
      65537 far
    where
      stable : IsStable (length L) characters (next_row atoms L) (in_marks atoms L marks) 65537 (label_of labels)
      stable q k b = let e = asked_is labels q in let h = settled q k b in omega (arith, e, h)

      capacity : IsCapacity characters (next_row atoms L) (in_marks atoms L marks) 65537 r (label_of labels r)
      capacity = Lower.exact characters (next_row atoms L) (in_marks atoms L marks) (length L) 65537
          (label_of labels) closed stable r l (cut r) (words r)
