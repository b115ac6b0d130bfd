-- Leaves of scalars: null and truth values, and any that is found.
use Rattle.std.proofs.Common.{◌≡◌, ℕ, suc, ◌⊎◌, inl, inr, ⊎_elim, Bool, true, false, not, List, [], ◌∷◌, Option, Some, None, Result, Ok, Err, refl, ap, sym, ◌∙◌, subst, arith}
use Rattle.std.proofs.lemmas.Bool.{not-false}
use Rattle.documents.specs.Tests.{every, some}
use Rattle.documents.specs.Kind as K
use Rattle.documents.specs.Kind.{Kind, same_kind}
use Rattle.documents.specs.Document.{Document, null, boolean, number, string, array, object, kind_of}
use Rattle.positions.specs.Position.{Position, True, False, Same, Not, All, Any, One, Depends, Types, BoolIs, position_at}
use Rattle.positions.specs.Holds.{asks, holds, IsTable}
use Rattle.position_laws.proofs.Asks.{holds-asks}
use Rattle.goals.specs.Signed.{Signed, Plus, Minus, met, meets}
use Rattle.goals.specs.Choices.{plus_choices, minus_choices, choices, plus_wrong, minus_wrong, is_wrong}
use Rattle.goal_laws.specs.Saturated.{IsSaturated}
use Rattle.goal_laws.proofs.Saturated.{meets-saturated}
use Rattle.list_laws.specs.In.{IsIn}
use Rattle.list_laws.proofs.Lists.{every_at, every_from, in_map, from_map, in_filter}
use Rattle.list_laws.proofs.Tests.{from_filter}
use Rattle.frame_laws.proofs.Signs.{has_in}
use Rattle.alternatives.specs.Alternative.{Shape, Null, Truth, Alternative}
use Rattle.alternatives.specs.Limit.{LimitKind}
use Rattle.expansions.specs.Leaves.{scalar, scalars, one_or_none, scalar_leaf, result_map, plus_agrees, minus_agrees, agrees, truth_values}
use Rattle.expansion_laws.proofs.Leaf.{ok_same, IsMade, IsLeaf, IsListing, IsFinder}
use Rattle.expansions.specs.DocumentOf.{document_of}

-- what lists scalars makes a leaf
module _ {A : Type 0} (T : List Position) (t : Kind) (shape : A → Shape)
    (list : List Signed → Result (List A) LimitKind) where
  pub listed_scalars : (k : ℕ) (r : Result (List A) LimitKind) (more : List Alternative)
      → result_map (scalars t shape k) r ≡ Ok more
      → (xs : List A) × (r ≡ Ok xs) × (scalars t shape k xs ≡ more)
  listed_scalars k (Ok xs) more e =
      (xs, refl, ok_same (scalars t shape k xs) more (result_map {C = LimitKind} (scalars t shape k) (Ok xs)) refl e)
  listed_scalars k (Err l) more e = cc

  pub listing_leaf : (words : List Signed → ℕ → ℕ → List ℕ) → IsListing T t words shape list
      → IsLeaf T t words (λ k S. result_map (scalars t shape k) (list S))
  listing_leaf words f = record {
    follows = λ k S full more e d can pass J good kind deep m.
        let (xs, p, q) = listed_scalars k (list S) more e in
        let (x, i) = f.some_listed S full xs p J good kind m in (
          scalar t k (shape x),
          subst (λ z. IsIn (scalar t k (shape x)) z) q (in_map (λ y. scalar t k (shape y)) x xs i),
          refl,
        );
    made = λ k S full more e d can child are a i m.
        let (xs, p, q) = listed_scalars k (list S) more e in
        let (x, j, s) = from_map (λ y. scalar t k (shape y)) a xs (subst (λ z. IsIn a z) (sym q) i) in
        let (good, deep, h) = f.listed S full xs p x j in
        subst (λ z. IsMade T (suc d) S (document_of can child (words S) z)) (sym s) (good, omega (arith, deep), h);
    of_branch = λ k S more e a i.
        let (xs, p, q) = listed_scalars k (list S) more e in
        let (x, j, s) = from_map (λ y. scalar t k (shape y)) a xs (subst (λ z. IsIn a z) (sym q) i) in
        (ap (λ z. z.kind) s, ap (λ z. z.branch) s);
  }

-- a finder of one scalar, or of none, makes a leaf
module _ {A : Type 0} (T : List Position) (t : Kind) (shape : A → Shape)
    (find : List Signed → Result (Option A) LimitKind) where
  abbrev list : List Signed → Result (List A) LimitKind
  list S = result_map one_or_none (find S)

  pub as_listed : (k : ℕ) (r : Result (Option A) LimitKind)
      → result_map (scalars t shape k) (result_map one_or_none r) ≡ scalar_leaf t shape k r
  as_listed k (Ok o) = refl
  as_listed k (Err l) = refl

  abbrev ok : Option A → Result (Option A) LimitKind
  ok o = Ok o

  pub one_found : (r : Result (Option A) LimitKind) (xs : List A) → result_map one_or_none r ≡ Ok xs
      → ((x : A) → IsIn x xs → r ≡ Ok (Some x)) × ((r ≡ Ok None) ⊎ ((x : A) × IsIn x xs))
  one_found (Ok None) xs e =
      let q : [] ≡ xs = ok_same [] xs (result_map one_or_none (ok None)) refl e in
      ((λ x i. absurd (subst (λ z. IsIn x z) (sym q) i)), inl refl)
  one_found (Ok (Some y)) xs e =
      let q : y ∷ [] ≡ xs = ok_same (y ∷ []) xs (result_map one_or_none (ok (Some y))) refl e in (
        (λ x i. ⊎_elim (λ s. ap (λ z. Ok (Some z)) (sym s)) (λ j. absurd j) (subst (λ z. IsIn x z) (sym q) i)),
        inr (y, subst (λ z. IsIn y z) q (inl refl)),
      )
  one_found (Err l) xs e = cc

  listing : (words : List Signed → ℕ → ℕ → List ℕ) → IsFinder T t words shape find → IsListing T t words shape list
  listing words f = record {
    listed = λ S full xs e x i. f.found S full x ((one_found (find S) xs e).0 x i);
    some_listed = λ S full xs e J good kind m. ⊎_elim
        (λ p. absurd (f.none_found S full p J good kind m))
        (λ h. h)
        (one_found (find S) xs e).1;
  }

  -- a finder that keeps its laws makes a leaf that does
  pub finder_leaf : (words : List Signed → ℕ → ℕ → List ℕ) → IsFinder T t words shape find
      → IsLeaf T t words (λ k S. scalar_leaf t shape k (find S))
  finder_leaf words f =
      let l = listing_leaf T t shape list words (listing words f) in record {
        follows = λ k S full more e. l.follows k S full more (as_listed k (find S) ∙ e);
        made = λ k S full more e. l.made k S full more (as_listed k (find S) ∙ e);
        of_branch = λ k S more e. l.of_branch k S more (as_listed k (find S) ∙ e);
      }

-- null

null_plus : (here : ℕ → Bool) (below : ℕ → Document → Bool) (P : Position) → plus_choices K.Null P ≡ None
    → plus_wrong K.Null P ≡ false → asks here below P null ≡ true
null_plus here below (Types ts) c w = not-false (some (same_kind K.Null) ts) w
null_plus here below True c w = cc
null_plus here below False c w = cc
null_plus here below (Same q) c w = cc
null_plus here below (Not q) c w = cc
null_plus here below (All qs) c w = cc
null_plus here below (Any qs) c w = cc
null_plus here below (One qs) c w = cc
null_plus here below (Depends h q) c w = cc
null_plus here below _ c w = refl

null_minus : (here : ℕ → Bool) (below : ℕ → Document → Bool) (P : Position) → minus_choices K.Null P ≡ None
    → minus_wrong K.Null P ≡ false → not (asks here below P null) ≡ true
null_minus here below (Types ts) c w = ap not w
null_minus here below _ c w = cc

pub null_listing : {A : Type 0} (T : List Position) → IsTable T → (words : List Signed → ℕ → ℕ → List ℕ) (x : A)
    → IsListing T K.Null words (λ y. Null) (λ S. Ok (x ∷ []))
null_listing T ok words x = record {
  listed = λ S full xs e y i.
      (refl, omega arith, meets-saturated T ok null S (λ x h c. literal x c (full.none_wrong x h)) full.chosen);
  some_listed = λ S full xs e J good kind m.
      (x, subst (λ z. IsIn x z) (ok_same (x ∷ []) xs (Ok (x ∷ [])) refl e) (inl refl));
} where
  literal : (x : Signed) → choices T K.Null x ≡ None → is_wrong T K.Null x ≡ false
      → met (λ p. holds T p null) x ≡ true
  literal (Plus p) c w = holds-asks T ok p null ∙ null_plus (λ q. holds T q null) (holds T) (position_at T p) c w
  literal (Minus p) c w =
      ap not (holds-asks T ok p null) ∙ null_minus (λ q. holds T q null) (holds T) (position_at T p) c w

-- truth values

module _ (here : ℕ → Bool) (below : ℕ → Document → Bool) (b : Bool) where
  bool_plus : (P : Position) → plus_choices K.Boolean P ≡ None → plus_wrong K.Boolean P ≡ false
      → plus_agrees b P ≡ true → asks here below P (boolean b) ≡ true
  bool_plus (Types ts) c w a = not-false (some (same_kind K.Boolean) ts) w
  bool_plus (BoolIs x) c w a = a
  bool_plus True c w a = cc
  bool_plus False c w a = cc
  bool_plus (Same q) c w a = cc
  bool_plus (Not q) c w a = cc
  bool_plus (All qs) c w a = cc
  bool_plus (Any qs) c w a = cc
  bool_plus (One qs) c w a = cc
  bool_plus (Depends h q) c w a = cc
  bool_plus _ c w a = refl

  bool_minus : (P : Position) → minus_choices K.Boolean P ≡ None → minus_wrong K.Boolean P ≡ false
      → minus_agrees b P ≡ true → not (asks here below P (boolean b)) ≡ true
  bool_minus (Types ts) c w a = ap not w
  bool_minus (BoolIs x) c w a = a
  bool_minus _ c w a = cc

  plus_agrees_met : (P : Position) → asks here below P (boolean b) ≡ true → plus_agrees b P ≡ true
  plus_agrees_met (BoolIs x) a = a
  plus_agrees_met _ a = refl

  minus_agrees_met : (P : Position) → not (asks here below P (boolean b)) ≡ true → minus_agrees b P ≡ true
  minus_agrees_met (BoolIs x) a = a
  minus_agrees_met _ a = refl

module _ (T : List Position) (ok : IsTable T) where
  pub agrees_met : (b : Bool) (x : Signed) → met (λ p. holds T p (boolean b)) x ≡ true → agrees T b x ≡ true
  agrees_met b (Plus p) h =
      plus_agrees_met (λ q. holds T q (boolean b)) (holds T) b (position_at T p)
      (sym (holds-asks T ok p (boolean b)) ∙ h)
  agrees_met b (Minus p) h =
      minus_agrees_met (λ q. holds T q (boolean b)) (holds T) b (position_at T p)
      (ap not (sym (holds-asks T ok p (boolean b))) ∙ h)

  met_agrees : (b : Bool) (x : Signed) → choices T K.Boolean x ≡ None → is_wrong T K.Boolean x ≡ false
      → agrees T b x ≡ true → met (λ p. holds T p (boolean b)) x ≡ true
  met_agrees b (Plus p) c w a =
      holds-asks T ok p (boolean b) ∙ bool_plus (λ q. holds T q (boolean b)) (holds T) b (position_at T p) c w a
  met_agrees b (Minus p) c w a =
      ap not (holds-asks T ok p (boolean b))
      ∙ bool_minus (λ q. holds T q (boolean b)) (holds T) b (position_at T p) c w a

  any_bool : (b : Bool) → IsIn b (false ∷ true ∷ [])
  any_bool false = inl refl
  any_bool true = inr (inl refl)

  both_in : (b : Bool) (S : List Signed) → every (agrees T b) S ≡ true → IsIn b (truth_values T S)
  both_in b S h = in_filter (λ b. every (agrees T b) S) b (false ∷ true ∷ []) (any_bool b) h

  truth_met : (S : List Signed) → IsSaturated T K.Boolean S → (b : Bool) → IsIn b (truth_values T S)
      → meets T S (boolean b) ≡ true
  truth_met S full b i =
      let (u, h) = from_filter (λ b. every (agrees T b) S) b (false ∷ true ∷ []) i in
      meets-saturated T ok (boolean b) S
      (λ x g c. met_agrees b x c (full.none_wrong x g) (every_at (agrees T b) x S h (has_in x S g)))
      full.chosen

  truth_some : (S : List Signed) (J : Document) → kind_of J ≡ K.Boolean → meets T S J ≡ true
      → (b : Bool) × IsIn b (truth_values T S)
  truth_some S (boolean b) k m = (
    b,
    both_in b S
        (every_from (agrees T b) S (λ x i. agrees_met b x (every_at (met (λ p. holds T p (boolean b))) x S m i))),
  )
  truth_some S null k m = cc
  truth_some S (number n) k m = cc
  truth_some S (string s) k m = cc
  truth_some S (array ds) k m = cc
  truth_some S (object ms) k m = cc

  abbrev truths : List Signed → Result (List Bool) LimitKind
  truths S = Ok (truth_values T S)

  pub boolean_listing : (words : List Signed → ℕ → ℕ → List ℕ)
      → IsListing T K.Boolean words Truth (λ S. Ok (truth_values T S))
  boolean_listing words = record {
    listed = λ S full xs e b i. (
      refl,
      omega arith,
      truth_met S full b
          (subst (λ z. IsIn b z) (sym (ok_same (truth_values T S) xs (truths S) refl e)) i),
    );
    some_listed = λ S full xs e J good kind m.
        let (b, i) = truth_some S J kind m in
        (b, subst (λ z. IsIn b z) (ok_same (truth_values T S) xs (truths S) refl e) i);
  }
