-- Rows that were taken line by line: each target that was stated is a row of what its row leads to.
use Rattle.std.proofs.Common.{◌≡◌, ℕ, zero, suc, ◌+◌, ◌<◌, ◌≤◌, inl, inr, List, [], ◌∷◌, ◌++◌, Bool, true, false, ◌&&◌, cond, get_or, length, nat_eq, nat_lt, Result, Ok, Err, refl, ap, sym, ◌∙◌, subst, append-nil, append_assoc, length-append, arith}
use Rattle.std.specs.Cmp.{IsEquivalence}
use Rattle.std.proofs.lemmas.Bool.{and_parts, ltb-true, eqb-true, cases_lt}
use Rattle.std.proofs.lemmas.List.{length-map, get_or-map, get_or_append_left}
use Rattle.std.proofs.Math.Seq.{get_or-append_seam}
use Rattle.word_states.specs.Atom.{Atom}
use Rattle.word_states.specs.Classes.{class_firsts, class_count}
use Rattle.word_states.specs.WordState.{have_same_state}
use Rattle.word_laws.proofs.States.{same_laws}
use Rattle.cell_laws.specs.RowTables.{IsRowOf, LeadsOn}
use Rattle.verdicts.specs.Rules.{no_row, wrong_target}
use Rattle.verdicts.specs.RowLines.{Table, table, and_then, if_so, target, targets, next, is_row, row, begin_table, extend, row_taken, stated}

module _ {A : Type 0} (same : A → A → Bool) (laws : IsEquivalence same) (extend : A → List A) (start : A)
    (count : ℕ) where
  -- row t has the state of x
  abbrev pub Is : List A → A → ℕ → Type 0
  Is ws x t = (t < length ws) × (same x (get_or ws t start) ≡ true)

  -- more rows are mentioned behind the others, and no more than the count
  record GoesOn (ws us : List A) : Type 0 where
    more : List A
    is : us ≡ ws ++ more
    few : length ws ≤ count → length us ≤ count

  stays : (ws us : List A) → ws ≡ us → GoesOn ws us
  stays ws us e = record {
    more = [];
    is = sym e ∙ sym (append-nil ws);
    few = λ l. subst (λ z. length z ≤ count) e l;
  }

  goes_on : (ws vs us : List A) → GoesOn ws vs → GoesOn vs us → GoesOn ws us
  goes_on ws vs us g h = record {
    more = g.more ++ h.more;
    is = h.is ∙ ap (λ z. z ++ h.more) g.is ∙ append_assoc ws g.more h.more;
    few = λ l. h.few (g.few l);
  }

  longer_length : (ws us : List A) (g : GoesOn ws us) → length us ≡ length ws + length g.more
  longer_length ws us g = ap length g.is ∙ length-append ws g.more

  at_left : (ws us : List A) (g : GoesOn ws us) (t : ℕ) → t < length ws → get_or us t start ≡ get_or ws t start
  at_left ws us g t l = ap (λ z. get_or z t start) g.is ∙ get_or_append_left ws g.more start t l

  still : (ws us : List A) (g : GoesOn ws us) (x : A) (t : ℕ) → Is ws x t → Is us x t
  still ws us g x t (l, e) =
      let n = longer_length ws us g in
      (omega (arith, l, n), subst (λ z. same x z ≡ true) (sym (at_left ws us g t l)) e)

  target_is : (ws us : List A) (x : A) (t : ℕ) → target same extend start count ws x t ≡ Ok us
      → GoesOn ws us × Is us x t
  target_is ws us x t e = go (nat_lt t (length ws)) refl e where
    old : (b : Bool) → same x (get_or ws t start) ≡ b → t < length ws → if_so wrong_target b ws ≡ Ok us
        → GoesOn ws us × Is us x t
    old false h l e = cc
    old true h l e = let q : ws ≡ us = cc in (stays ws us q, subst (λ z. Is z x t) q (l, h))

    one_more : t ≡ length ws → Is (ws ++ x ∷ []) x t
    one_more n =
        let m : length (ws ++ x ∷ []) ≡ length ws + 1 = length-append ws (x ∷ []) in (
          omega (arith, n, m),
          subst (λ z. same x z ≡ true)
              (sym (ap (λ z. get_or (ws ++ x ∷ []) z start) n ∙ get_or-append_seam ws x [] start)) (laws.refl x),
        )

    new : (b : Bool) → (nat_eq t (length ws) && nat_lt t count) ≡ b → if_so wrong_target b (ws ++ x ∷ []) ≡ Ok us
        → GoesOn ws us × Is us x t
    new false h e = cc
    new true h e =
        let q : ws ++ x ∷ [] ≡ us = cc in
        let (a, b) = and_parts (nat_eq t (length ws)) (nat_lt t count) h in
        let n = eqb-true t (length ws) a in
        let l = ltb-true t count b in
        let m : length (ws ++ x ∷ []) ≡ length ws + 1 = length-append ws (x ∷ []) in (
          record {
            more = x ∷ [];
            is = sym q;
            few = λ k. subst (λ z. length z ≤ count) q (omega (arith, n, l, m));
          },
          subst (λ z. Is z x t) q (one_more n),
        )

    go : (b : Bool) → nat_lt t (length ws) ≡ b
        → cond b (if_so wrong_target (same x (get_or ws t start)) ws)
        (if_so wrong_target (nat_eq t (length ws) && nat_lt t count) (ws ++ x ∷ [])) ≡ Ok us
        → GoesOn ws us × Is us x t
    go true h e = old (same x (get_or ws t start)) refl (ltb-true t (length ws) h) e
    go false h e = new (nat_eq t (length ws) && nat_lt t count) refl e

  abbrev AreAll : List A → List A → List ℕ → Type 0
  AreAll us xs ts = (k : ℕ) → k < length xs → Is us (get_or xs k start) (get_or ts k 0)

  all_more : (us xs : List A) (x : A) (ts : List ℕ) (t : ℕ) → Is us x t → AreAll us xs ts → AreAll us (x ∷ xs) (t ∷ ts)
  all_more us xs x ts t i all zero l = i
  all_more us xs x ts t i all (suc k) l = all k (omega (arith, l))

  targets_are : (ws us xs : List A) (ts : List ℕ) → targets same extend start count ws xs ts ≡ Ok us
      → GoesOn ws us × AreAll us xs ts
  targets_are ws us [] [] e = let q : ws ≡ us = cc in (stays ws us q, λ k l. absurd (omega (arith, l)))
  targets_are ws us (x ∷ xs) (t ∷ ts) e =
      go (target same extend start count ws x t) refl e (λ vs f. targets_are vs us xs ts f) where
        go : (r : Result (List A) ℕ) → target same extend start count ws x t ≡ r
            → and_then (λ vs. targets same extend start count vs xs ts) r ≡ Ok us
            → ((vs : List A) → targets same extend start count vs xs ts ≡ Ok us → GoesOn vs us × AreAll us xs ts)
            → GoesOn ws us × AreAll us (x ∷ xs) (t ∷ ts)
        go (Err r) h e more = cc
        go (Ok vs) h e more =
            let (g, is) = target_is ws vs x t h in
            let (f, all) = more vs e in
            (goes_on ws vs us g f, all_more us xs x ts t (still vs us f x t is) all)
  targets_are ws us [] (t ∷ ts) e = cc
  targets_are ws us (x ∷ xs) [] e = cc

  -- what each line keeps
  pub record AreTaken (t : Table A) : Type 0 where
    pub begun : Is t.words start 0
    pub mentioned : length t.targets ≤ length t.words
    pub few : length t.words ≤ count
    pub leads : (i k : ℕ) → i < length t.targets → k < length (extend (get_or t.words i start))
        → Is t.words (get_or (extend (get_or t.words i start)) k start) (get_or (get_or t.targets i []) k 0)

  pub begin_taken : 0 < count → AreTaken (table (start ∷ []) [])
  begin_taken l = record {
    begun = (omega arith, laws.refl start);
    mentioned = omega arith;
    few = omega (arith, l);
    leads = λ i k m. absurd (omega (arith, m));
  }

  module _ (t : Table A) (ts : List ℕ) (h : AreTaken t) where
    -- with the targets of the next row
    module _ (us : List A) (g : GoesOn t.words us) (all : AreAll us (next same extend start t) ts)
        (l : length t.targets < length t.words) where
      abbrev more_targets : List (List ℕ)
      more_targets = t.targets ++ ts ∷ []

      one_target : length more_targets ≡ length t.targets + 1
      one_target = length-append t.targets (ts ∷ [])

      leads_at : (i k : ℕ) → i < length more_targets → k < length (extend (get_or t.words i start))
          → Is us (get_or (extend (get_or t.words i start)) k start) (get_or (get_or more_targets i []) k 0)
      leads_at i k a b = elim (cases_lt i (length t.targets)) [
        | inl c ↦
            subst (λ z. Is us (get_or (extend (get_or t.words i start)) k start) (get_or z k 0))
            (sym (get_or_append_left t.targets (ts ∷ []) [] i c))
            (still t.words us g (get_or (extend (get_or t.words i start)) k start)
            (get_or (get_or t.targets i []) k 0) (h.leads i k c b))
        | inr c ↦
            let n = one_target in
            let o : i ≡ length t.targets = omega (arith, a, c, n) in
            subst (λ z. Is us (get_or (extend (get_or t.words i start)) k start) (get_or z k 0))
            (sym (ap (λ z. get_or more_targets z []) o ∙ get_or-append_seam t.targets ts [] []))
            (subst (λ z. Is us (get_or (extend (get_or t.words z start)) k start) (get_or ts k 0)) (sym o)
            (all k (subst (λ z. k < length (extend (get_or t.words z start))) o b)))
      ]

      with_row : AreTaken (table us more_targets)
      with_row =
          let n = one_target in
          let m = longer_length t.words us g in
          record {
            begun = still t.words us g start 0 h.begun;
            mentioned = omega (arith, n, m, l);
            few = g.few h.few;
            leads = λ i k a b.
                let e = at_left t.words us g i (omega (arith, a, n, l)) in
                subst (λ z. Is us (get_or (extend z) k start) (get_or (get_or more_targets i []) k 0)) (sym e)
                (leads_at i k a (subst (λ z. k < length (extend z)) e b));
          }

    pub taken_more : (u : Table A) → row same extend start count t ts ≡ Ok u → AreTaken u
    taken_more u e = go (is_row same extend start t ts) refl e where
      by : (r : Result (List A) ℕ) → targets same extend start count t.words (next same extend start t) ts ≡ r
          → length t.targets < length t.words → and_then (λ ws. Ok (table ws (t.targets ++ ts ∷ []))) r ≡ Ok u
          → AreTaken u
      by (Err r) f l e = cc
      by (Ok us) f l e =
          let q : table us (t.targets ++ ts ∷ []) ≡ u = cc in
          let (g, all) = targets_are t.words us (next same extend start t) ts f in
          subst (λ z. AreTaken z) q (with_row us g all l)

      go : (b : Bool) → is_row same extend start t ts ≡ b
          → cond b
          (and_then (λ ws. Ok (table ws (t.targets ++ ts ∷ [])))
          (targets same extend start count t.words (next same extend start t) ts)) (Err no_row) ≡ Ok u
          → AreTaken u
      go false f e = cc
      go true f e =
          let (a, b) = and_parts (nat_lt (length t.targets) (length t.words))
          (nat_eq (length ts) (length (next same extend start t))) f in
          by (targets same extend start count t.words (next same extend start t) ts) refl
          (ltb-true (length t.targets) (length t.words) a) e

-- rows of words

abbrev pub RowsTaken : List Atom → ℕ → Table (List ℕ) → Type 0
RowsTaken atoms count t = AreTaken (have_same_state atoms) (same_laws atoms) (extend atoms) [] count t

pub rows_begin : (atoms : List Atom) (count : ℕ) → 0 < count → RowsTaken atoms count begin_table
rows_begin atoms count l = begin_taken (have_same_state atoms) (same_laws atoms) (extend atoms) [] count l

pub rows_more : (atoms : List Atom) (count : ℕ) (t u : Table (List ℕ)) (ts : List ℕ) → RowsTaken atoms count t
    → row_taken atoms count t ts ≡ Ok u → RowsTaken atoms count u
rows_more atoms count t u ts h e =
    taken_more (have_same_state atoms) (same_laws atoms) (extend atoms) [] count t ts h u e

-- all rows are stated: each leads on, and the empty word has the first
pub record AreStated (atoms : List Atom) (t : Table (List ℕ)) : Type 0 where
  pub leads : LeadsOn atoms t.words (stated t)
  pub first : IsRowOf atoms t.words [] 0

-- once all rows are taken, they are stated: each leads on, and the empty word has the first
pub rows_stated : (atoms : List Atom) (count : ℕ) (t : Table (List ℕ)) → RowsTaken atoms count t
    → length t.targets ≡ count → AreStated atoms t
rows_stated atoms count t h e = record {
  leads = λ r k l m.
      let v = get_or t.words r [] in
      let a = h.few in
      let n : length (extend atoms v) ≡ class_count atoms = length-map (class_firsts atoms) (λ c. v ++ c ∷ []) in
      subst (λ z. IsRowOf atoms t.words z (stated t r k))
      (get_or-map (λ c. v ++ c ∷ []) (class_firsts atoms) k 0 [] m)
      (h.leads r k (omega (arith, a, l, e)) (omega (arith, n, m)));
  first = h.begun;
}
