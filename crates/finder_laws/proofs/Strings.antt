-- The word that is found for a saturated set meets it, and where none is found and no limit is passed no string does.
use Rattle.std.proofs.Common.{◌≡◌, ℕ, ◌*◌, ◌≤◌, ◌<◌, ◌⊎◌, inl, inr, ⊎_elim, Bool, true, false, ◌&&◌, cond, nat_le, List, [], ◌∷◌, take, length, Option, Some, None, Result, Ok, refl, ap, sym, ◌∙◌, subst, arith}
use Rattle.std.specs.List.{list_all}
use Rattle.std.proofs.lemmas.Bool.{true≢false, and_parts, leb-true}
use Rattle.documents.specs.Tests.{every}
use Rattle.documents.specs.Tests as D
use Rattle.documents.specs.Kind as K
use Rattle.documents.specs.Document.{Document, null, boolean, number, string, array, object, kind_of, is_document}
use Rattle.patterns.specs.CharSet.{is_scalar}
use Rattle.word_states.specs.Classes.{class_firsts, characters}
use Rattle.word_states.specs.Rows.{AreRows}
use Rattle.positions.specs.Position.{Position}
use Rattle.positions.specs.Holds.{IsTable}
use Rattle.goals.specs.Signed.{Signed, meets}
use Rattle.frames.specs.Frame.{is_at_end}
use Rattle.list_laws.specs.In.{IsIn}
use Rattle.list_laws.proofs.Tests.{from_filter}
use Rattle.cells.specs.WordsInOrder.{shorter}
use Rattle.cell_laws.proofs.Rows.{target_in, leads_on, first_row}
use Rattle.cell_laws.proofs.WordsInOrderLaws.{shorter_is}
use Rattle.cell_laws.proofs.FirstWords.{first_shortest}
use Rattle.cell_laws.proofs.Characters as C
use Rattle.alternatives.specs.Alternative.{Text}
use Rattle.alternatives.specs.Limit.{LimitKind, most_states}
use Rattle.expansions.specs.Leaves.{word_of}
use Rattle.expansion_laws.proofs.Leaf.{IsMade, IsFinder}
use Rattle.finders.specs.RowsFound.{rows_by}
use Rattle.finders.specs.Limits.{limit_passed, unless_passed}
use Rattle.finders.specs.WordsFound.{far, words_found, first_of}
use Rattle.finders.specs.Strings.{lower, below, string_atoms, wants, is_wanted, if_below, strings_of}
use Rattle.finder_laws.proofs.RowsFound.{none_passed}
use Rattle.finder_laws.proofs.Wanted.{wanted_from, wanted_meets, wanted_same}
use Rattle.frame_laws.proofs.Ends.{at_end_down}

pub states_far : most_states ≤ far
unfolding far
states_far = omega arith

-- what an answer without a limit comes from

abbrev Found : Type 0
Found = Result (Option (List ℕ)) LimitKind

abbrev ok : Option (List ℕ) → Found
ok x = Ok x

abbrev none : Option (List ℕ)
none = None

module _ (crossed : Bool) (l : Option LimitKind) (b : Option ℕ) where
  pub record IsOpen (o : Option (List ℕ)) (first : Option (List ℕ)) : Type 0 where
    pub not_crossed : crossed ≡ false
    pub passed : l ≡ None
    pub is : o ≡ if_below b first

  answered : (o first : Option (List ℕ))
      → cond crossed (Ok None) (unless_passed l (if_below b first)) ≡ Ok o
      → ((crossed ≡ true) × (o ≡ None)) ⊎ IsOpen o first
  answered o first e = go crossed l refl refl e where
    one : (x y : Option (List ℕ)) → ok x ≡ Ok y → y ≡ x
    one x y h = cc h

    go : (c : Bool) (m : Option LimitKind) → crossed ≡ c → l ≡ m
        → cond c (ok None) (unless_passed m (if_below b first)) ≡ Ok o
        → ((crossed ≡ true) × (o ≡ None)) ⊎ IsOpen o first
    go true m p q h = inl (p, one None o h)
    go false None p q h = inr (record { not_crossed = p; passed = q; is = one (if_below b first) o h })
    go false (Some k) p q h = cc h

below_some : (b : Option ℕ) (o : Option (List ℕ)) (w : List ℕ) → Some w ≡ if_below b o
    → (o ≡ Some w) × (is_at_end (length w) b ≡ false)
below_some b None w e = cc e
below_some b (Some v) w e = go (is_at_end (length v) b) refl e where
  go : (t : Bool) → is_at_end (length v) b ≡ t → Some w ≡ cond t None (Some v)
      → (Some v ≡ Some w) × (is_at_end (length w) b ≡ false)
  go true p h = cc h
  go false p h = (sym h, (let q : w ≡ v = cc h in ap (λ z. is_at_end (length z) b) q ∙ p))

below_none : (b : Option ℕ) (o : Option (List ℕ)) → None ≡ if_below b o
    → (o ≡ None) ⊎ ((v : List ℕ) × (o ≡ Some v) × (is_at_end (length v) b ≡ true))
below_none b None e = inl refl
below_none b (Some v) e = go (is_at_end (length v) b) refl e where
  go : (t : Bool) → is_at_end (length v) b ≡ t → none ≡ cond t None (Some v)
      → (Some v ≡ none) ⊎ ((u : List ℕ) × (Some v ≡ Some u) × (is_at_end (length u) b ≡ true))
  go true p h = inr (v, refl, p)
  go false p h = cc h

pub first_in : {A : Type 0} (x : A) (xs : List A) → first_of xs ≡ Some x → IsIn x xs
first_in x [] e = cc e
first_in x (y ∷ xs) e = inl (let q : y ≡ x = cc e in sym q)

first_take : {A : Type 0} (x : A) (xs : List A) → take 1 xs ≡ x ∷ [] → first_of xs ≡ Some x
first_take x [] e = cc e
first_take x (y ∷ xs) e = cc e

-- the two tests that a word is made of scalar values agree
pub scalars_same : (w : List ℕ) → every D.is_scalar w ≡ list_all is_scalar w
scalars_same [] = refl
scalars_same (c ∷ w) = ap (λ b. is_scalar c && b) (scalars_same w)

module _ (T : List Position) (S : List Signed) where
  -- the words that are wanted, in order
  abbrev pub wanted_words : List (List ℕ)
  wanted_words = words_found characters far (is_wanted T S)

  pub wanted_is : (w : List ℕ) → IsIn w wanted_words
      → (length w < far) × (list_all is_scalar w ≡ true) × (is_wanted T S w ≡ true)
  wanted_is w i =
      let (a, b) = from_filter (is_wanted T S) w (shorter characters far) i in
      let (l, s) = shorter_is characters (C.different 0x110000) (C.scalars 0x110000) far w a in
      (l, sym (scalars_same w) ∙ s, b)

  module _ (L : List (List ℕ)) (rows : AreRows (string_atoms T S) L) (few : length L ≤ most_states) where
    -- where a word is wanted, the first of those that are is no longer
    pub wanted_first : (w : List ℕ) → list_all is_scalar w ≡ true → is_wanted T S w ≡ true
        → (v : List ℕ) × (first_of wanted_words ≡ Some v) × (length v ≤ length w)
    wanted_first w s t =
        let (v, e, l) =
        first_shortest (string_atoms T S) L (target_in (string_atoms T S) L) (leads_on (string_atoms T S) L rows) 0
        (first_row (string_atoms T S) L rows) (is_wanted T S) (wanted_same T S) characters (C.different 0x110000)
        (C.scalars 0x110000) C.whole far 1 enough C.rank (C.ordered 0x110000) (omega arith) w s t in
        (v, first_take v wanted_words e, l) where
          enough : length L * 1 ≤ far
          enough = let a = states_far in omega (arith, a, few)

module _ (T : List Position) (S : List Signed) where
  abbrev IsFree : Option (List ℕ) → Type 0
  IsFree o = IsOpen (is_at_end (lower T S) (below T S)) (limit_passed characters most_states (string_atoms T S))
      (below T S) o (first_of (wanted_words T S))

  come_from : (o : Option (List ℕ)) → strings_of T S ≡ Ok o
      → ((is_at_end (lower T S) (below T S) ≡ true) × (o ≡ None)) ⊎ IsFree o
  come_from o e = answered (is_at_end (lower T S) (below T S))
      (limit_passed characters most_states (string_atoms T S)) (below T S) o (first_of (wanted_words T S)) e

  -- the word that is found: of characters, wanted, and not too long
  pub found_word : (w : List ℕ) → strings_of T S ≡ Ok (Some w)
      → (list_all is_scalar w ≡ true) × (is_wanted T S w ≡ true) × (is_at_end (length w) (below T S) ≡ false)
  found_word w e = ⊎_elim
      (λ (x, y). cc y)
      (λ o. let (p, h) = below_some (below T S) (first_of (wanted_words T S)) w o.is in
      let (l, s, t) = wanted_is T S w (first_in w (wanted_words T S) p) in (s, t, h))
      (come_from (Some w) e)

  -- where none is found, none is wanted and short enough
  pub none_wanted : strings_of T S ≡ Ok None → (w : List ℕ) → list_all is_scalar w ≡ true
      → is_wanted T S w ≡ true → is_at_end (length w) (below T S) ≡ false → ⊥
  none_wanted e w s t h =
      let (a, b) = and_parts (every (wants T w) S) (nat_le (lower T S) (length w)) t in
      let low = leb-true (lower T S) (length w) b in
      let open_ = at_end_down (lower T S) (length w) (below T S) low h in
      ⊎_elim (λ (x, y). true≢false (sym x ∙ open_)) (λ o. go o) (come_from None e) where
        go : IsFree None → ⊥
        go o =
            let (rows, few) = none_passed (string_atoms T S) most_states o.passed in
            let (v, f, l) = wanted_first T S
            (rows_by (class_firsts (string_atoms T S)) (string_atoms T S) most_states) rows few w s t in
            ⊎_elim
            (λ q. let n : None ≡ Some v = sym q ∙ f in cc n)
            (λ (u, q, g). let same : Some u ≡ Some v = sym q ∙ f in
            let i : u ≡ v = cc same in
            let k = at_end_down (length v) (length w) (below T S) l h in
            true≢false (sym g ∙ ap (λ z. is_at_end (length z) (below T S)) i ∙ k))
            (below_none (below T S) (first_of (wanted_words T S)) o.is)

module _ (T : List Position) (ok : IsTable T) where
  -- where no word is found, no string meets the set
  pub none_meets : (S : List Signed) → strings_of T S ≡ Ok None → (w : List ℕ) → list_all is_scalar w ≡ true
      → meets T S (string w) ≡ true → ⊥
  none_meets S e w s m = let (t, h) = wanted_from T ok S w m in none_wanted T S e w s t h

  string_none : (S : List Signed) → strings_of T S ≡ Ok None → (J : Document) → is_document J ≡ true
      → kind_of J ≡ K.Text → meets T S J ≡ true → ⊥
  string_none S e (string w) good kind m = none_meets S e w (sym (scalars_same w) ∙ good) m
  string_none S e null good kind m = cc kind
  string_none S e (boolean b) good kind m = cc kind
  string_none S e (number n) good kind m = cc kind
  string_none S e (array ds) good kind m = cc kind
  string_none S e (object ms) good kind m = cc kind

  pub string_finder : IsFinder T K.Text (λ S. word_of (strings_of T S)) (λ w. Text) (strings_of T)
  string_finder = record {
    found = λ S full w e.
        let (s, t, h) = found_word T S w e in
        subst (λ z. IsMade T 0 S (string (word_of z 0 0))) (sym e)
        (scalars_same w ∙ s, omega arith, wanted_meets T ok S w full t h);
    none_found = λ S full e J good kind m. string_none S e J good kind m;
  }
