-- The law of the normal form: the position of an entry holds of the documents that are valid for the entry.
use Rattle.std.proofs.Common.{◌≡◌, ℕ, zero, suc, ◌<◌, List, [], ◌∷◌, ◌++◌, length, Bool, true, false, cond, nat_le, refl, ap, sym, ◌∙◌, subst, arith, append_assoc}
use Rattle.std.proofs.lemmas.Bool.{and_parts}
use Rattle.std.proofs.lemmas.List.{length_push}
use Rattle.documents.specs.Tests.{every}
use Rattle.documents.specs.Document.{Document, depth, is_document}
use Rattle.levels.specs.Within.{RankedWithin}
use Rattle.patterns.specs.Tree.{Tree}
use Rattle.patterns.specs.Decision.{finds}
use Rattle.schemas.specs.Entry.{Form, Always, Never, Ref, Asks, Keywords, Entry}
use Rattle.schemas.specs.Schema.{meets, in_place, of_parts, form_in_range, is_in_range, is_multiple, is_count, is_word, fits_items, are_keys, are_needs, is_filled, is_table, total_size}
use Rattle.schemas.specs.Weight.{most_weight}
use Rattle.schemas.specs.Keyword.{is_held}
use Rattle.draft06.specs.EntryValidity as V
use Rattle.draft06.specs.EntryValidity.{form_at, entry_valid}
use Rattle.draft06_laws.specs.Ranks.{FallInPlace}
use Rattle.draft06_laws.proofs.EntryLocal.{asks_same}
use Rattle.draft06_laws.proofs.EntryLaws.{entry_valid-asks, ranked, parts_below, IsEntry, named_in_place}
use Rattle.levels.proofs.LevelsLaws.{weaker}
use Rattle.list_laws.proofs.Elements.{all-both}
use Rattle.positions.specs.Position.{Position, position_at}
use Rattle.positions.specs.Holds.{asks}
use Rattle.normal_forms.specs.Nodes.{after}
use Rattle.normal_forms.specs.NormalForm.{form_nodes, entry_position, entry_positions, all_nodes, table_of}
use Rattle.normal_laws.specs.Making.{Stands, IsMeaning}
use Rattle.normal_laws.proofs.MakingLemmas.{stands-append, every-met}
use Rattle.normal_laws.proofs.KeywordLaw.{keyword_tests, keywords_pass, keywords_make}

-- what comes after other positions
stands_after : (A B : List Position) → Stands (A ++ B) (length A) B
stands_after A [] = tt
stands_after A (x ∷ B) =
    let here : position_at (A ++ x ∷ B) (length A) ≡ x = at_end A in
    let P : List Position → Type 0 = λ xs. Stands xs (length (A ++ x ∷ [])) B in
    let Q : ℕ → Type 0 = λ n. Stands (A ++ x ∷ B) n B in
    let more : length (A ++ x ∷ []) ≡ suc (length A) = omega (arith, length_push A x) in
    (here, subst Q more (subst P (append_assoc A (x ∷ []) B) (stands_after (A ++ x ∷ []) B))) where
      at_end : (A : List Position) → position_at (A ++ x ∷ B) (length A) ≡ x
      at_end [] = refl
      at_end (y ∷ A) = at_end A

module _ (tree_of : List ℕ → Tree) where
  -- each entry has one position
  pub length-entry_positions : (n : ℕ) (es : List Entry) → length (entry_positions tree_of n es) ≡ length es
  length-entry_positions n [] = refl
  length-entry_positions n (e ∷ es) =
      ap suc (length-entry_positions (after n (form_nodes tree_of e.form n)) es)

  -- the number of an entry's first node
  abbrev first_node : ℕ → List Entry → ℕ → ℕ
  first_node n [] e = n
  first_node n (f ∷ fs) zero = n
  first_node n (f ∷ fs) (suc e) = first_node (after n (form_nodes tree_of f.form n)) fs e

  entry_at : (n : ℕ) (es : List Entry) (B : List Position) (e : ℕ) → e < length es
      → position_at (entry_positions tree_of n es ++ B) e
      ≡ entry_position tree_of (form_at es e) (form_nodes tree_of (form_at es e) (first_node n es e))
  entry_at n [] B e h = absurd (omega arith)
  entry_at n (f ∷ fs) B zero h = refl
  entry_at n (f ∷ fs) B (suc e) h = entry_at (after n (form_nodes tree_of f.form n)) fs B e (omega arith)

  nodes_at : (T : List Position) (n : ℕ) (es : List Entry) (e : ℕ) → Stands T n (all_nodes tree_of n es) → e < length es
      → Stands T (first_node n es e) (form_nodes tree_of (form_at es e) (first_node n es e)).added
  nodes_at T n [] e s h = absurd (omega arith)
  nodes_at T n (f ∷ fs) zero s h =
      let parts = stands-append T n (form_nodes tree_of f.form n).added
      (all_nodes tree_of (after n (form_nodes tree_of f.form n)) fs) s in parts.0
  nodes_at T n (f ∷ fs) (suc e) s h =
      let parts = stands-append T n (form_nodes tree_of f.form n).added
      (all_nodes tree_of (after n (form_nodes tree_of f.form n)) fs) s in
      nodes_at T (after n (form_nodes tree_of f.form n)) fs e parts.1 (omega arith)

values_there : (k : Keywords) → is_in_range k ≡ true
    → (meets (every is_document) k.enumeration ≡ true) × (meets is_document k.constant ≡ true)
values_there k h =
    let h1 = (and_parts _ (meets is_filled k.one_of) h).0 in
    let h2 = (and_parts _ (meets is_filled k.any_of) h1).0 in
    let h3 = (and_parts _ (meets is_filled k.all_of) h2).0 in
    let h4 = (and_parts _ (meets is_count k.max_properties) h3).0 in
    let h5 = (and_parts _ (meets is_count k.min_properties) h4).0 in
    let h6 = (and_parts _ (meets are_needs k.dependencies) h5).0 in
    let h7 = (and_parts _ (meets are_keys k.pattern_properties) h6).0 in
    let h8 = (and_parts _ (meets are_keys k.properties) h7).0 in
    let h9 = (and_parts _ (meets (every is_word) k.required) h8).0 in
    let h10 = (and_parts _ (meets is_count k.max_items) h9).0 in
    let h11 = (and_parts _ (meets is_count k.min_items) h10).0 in
    let h12 = (and_parts _ (fits_items k.items k.additional_items) h11).0 in
    let h13 = (and_parts _ (meets is_word k.pattern) h12).0 in
    let h14 = (and_parts _ (meets is_count k.max_length) h13).0 in
    let h15 = (and_parts _ (meets is_count k.min_length) h14).0 in
    let h16 = (and_parts _ (meets is_held k.exclusive_maximum) h15).0 in
    let h17 = (and_parts _ (meets is_held k.exclusive_minimum) h16).0 in
    let h18 = (and_parts _ (meets is_held k.maximum) h17).0 in
    let h19 = (and_parts _ (meets is_held k.minimum) h18).0 in
    let h20 = (and_parts _ (meets is_multiple k.multiple_of) h19).0 in
    and_parts (meets (every is_document) k.enumeration) (meets is_document k.constant) h20

pub in_range-at : (es : List Entry) (e : ℕ) → every (λ f. form_in_range f.form) es ≡ true → form_in_range
    (form_at es e) ≡ true
in_range-at [] e h = refl
in_range-at (f ∷ fs) zero h = (and_parts (form_in_range f.form) (every (λ f. form_in_range f.form) fs) h).0
in_range-at (f ∷ fs) (suc e) h =
    in_range-at fs e (and_parts (form_in_range f.form) (every (λ f. form_in_range f.form) fs) h).1

module _ (tree_of : List ℕ → Tree) (es : List Entry)
    (in_range : every (λ f. form_in_range f.form) es ≡ true)
    (holds : ℕ → Document → Bool) (meaning : IsMeaning (table_of tree_of es) holds) where
  abbrev matches : List ℕ → List ℕ → Bool
  matches t = finds (tree_of t)

  abbrev number : ℕ → ℕ
  number e = first_node tree_of (length es) es e

  nodes_stand : (e : ℕ) → e < length es
      → Stands (table_of tree_of es) (number e) (form_nodes tree_of (form_at es e) (number e)).added
  unfolding table_of
  nodes_stand e l =
      let P : ℕ → Type 0 = λ n. Stands (table_of tree_of es) n (all_nodes tree_of (length es) es) in
      nodes_at tree_of (table_of tree_of es) (length es) es e
      (subst P (length-entry_positions tree_of (length es) es)
      (stands_after (entry_positions tree_of (length es) es) (all_nodes tree_of (length es) es))) l

  position_is : (e : ℕ) → e < length es → position_at (table_of tree_of es) e
      ≡ entry_position tree_of (form_at es e) (form_nodes tree_of (form_at es e) (number e))
  unfolding table_of
  position_is e l = entry_at tree_of (length es) es (all_nodes tree_of (length es) es) e l

  -- one step: the position of an entry requires what its form asks
  pub entry_asks : (below : ℕ → Document → Bool)
      → ((q : ℕ) (K : Document) → is_document K ≡ true → holds q K ≡ below q K)
      → (e : ℕ) (J : Document) → e < length es → is_document J ≡ true
      → holds e J ≡ V.asks matches (λ q. holds q J) below (form_at es e) J
  entry_asks below agree e J l d =
      meaning e J ∙ ap (λ P. asks (λ q. holds q J) holds P J) (position_is e l)
      ∙ by_form (form_at es e) (number e) (nodes_stand e l) (in_range-at es e in_range) where
        by_form : (f : Form) (n : ℕ) → Stands (table_of tree_of es) n (form_nodes tree_of f n).added
            → form_in_range f ≡ true
            → asks (λ q. holds q J) holds (entry_position tree_of f (form_nodes tree_of f n)) J
            ≡ V.asks matches (λ q. holds q J) below f J
        by_form Always n s r = refl
        by_form Never n s r = refl
        by_form (Ref q) n s r = refl
        by_form (Asks k) n s r =
            let there = values_there k r in
            every-met (table_of tree_of es) holds meaning (form_nodes tree_of (Asks k) n).named
            (keyword_tests (table_of tree_of es) holds meaning tree_of below agree k)
            (keywords_make (table_of tree_of es) holds meaning tree_of below agree k there.0 there.1 n s) J d
            ∙ keywords_pass (table_of tree_of es) holds meaning tree_of below agree k J

module _ (tree_of : List ℕ → Tree) (es : List Entry) (table : is_table es ≡ true) (rank : ℕ → ℕ)
    (falls : FallInPlace es rank) (holds : ℕ → Document → Bool) (meaning : IsMeaning (table_of tree_of es) holds) where
  abbrev valid : ℕ → Document → Bool
  valid = entry_valid (λ t. finds (tree_of t)) es

  -- what is required of a part: of a document what its position requires, and of what is none what validity requires
  abbrev of_part : ℕ → Document → Bool
  of_part q K = cond (is_document K) (holds q K) (valid q K)

  agrees : (q : ℕ) (K : Document) → is_document K ≡ true → holds q K ≡ of_part q K
  agrees q K d = rw d refl

  entries_in_range : every (λ f. form_in_range f.form) es ≡ true
  entries_in_range =
      let weight = and_parts _ (nat_le (total_size es) most_weight) table in
      (and_parts _ (every (λ e. form_in_range e.form) es) weight.0).1

  part_same : (q : ℕ) (K : Document) (test : Bool) → is_document K ≡ test → (test ≡ true → holds q K ≡ valid q K)
      → of_part q K ≡ valid q K
  part_same q K true e h = rw e (h refl)
  part_same q K false e h = rw e refl

  within : RankedWithin (IsEntry es) (named_in_place es) (length es) rank
  within = ranked (λ t. finds (tree_of t)) es table rank falls

  holds_valid : (d n e : ℕ) (J : Document) → depth J < d → rank e < n → e < length es → is_document J ≡ true
      → holds e J ≡ valid e J
  holds_valid zero n e J a b l h = absurd (omega arith)
  holds_valid (suc d) zero e J a b l h = absurd (omega arith)
  holds_valid (suc d) (suc n) e J a b l h =
      entry_asks tree_of es entries_in_range holds meaning of_part agrees e J l h
      ∙ asks_same (λ t. finds (tree_of t)) (λ q. holds q J) (λ q. valid q J) of_part valid (form_at es e) J
      (all-both _ _ _ (in_place (form_at es e))
      (λ q r m. holds_valid (suc d) n q J a (omega arith) m h) (within.falls e l) (within.closed e l))
      (weaker (IsEntry es) _ (of_parts (form_at es e))
      (λ q m K r. part_same q K (is_document K) refl
      (λ k. holds_valid d (length es) q K (omega arith) (within.bounded q m) m k))
      (parts_below (λ t. finds (tree_of t)) es table e))
      ∙ sym (entry_valid-asks (λ t. finds (tree_of t)) es table rank falls e J)

  -- the position of an entry holds of the documents that are valid for it
  pub holds-valid : (e : ℕ) (J : Document) → e < length es → is_document J ≡ true → holds e J ≡ valid e J
  holds-valid e J l h = holds_valid (suc (depth J)) (length es) e J (omega arith) (within.bounded e l) l h
