-- The choices of a signed position mean what it means: a clause for each kind of position.
use Rattle.std.proofs.Common.{◌≡◌, ℕ, Bool, true, false, ◌&&◌, ◌||◌, not, cond, List, [], ◌∷◌, map, IfSome, refl, ap, ap₂, sym, ◌∙◌, subst}
use Rattle.std.specs.List.{AllByRecursion}
use Rattle.std.proofs.Math.Bool.{and-true, or-false, not-not}
use Rattle.std.proofs.lemmas.Bool.{not-true, false_from_ne_true}
use Rattle.documents.specs.Tests.{every, some}
use Rattle.documents.specs.Measures.{exactly_one}
use Rattle.documents.specs.Kind.{Kind, Object, same_kind}
use Rattle.documents.specs.Document.{Document, null, boolean, number, string, array, object, kind_of}
use Rattle.positions.specs.Position.{Position, True, False, Same, Not, All, Any, One, Depends, Types}
use Rattle.positions.specs.Position.{speaks_of, position_at, in_place}
use Rattle.positions.specs.Holds.{asks, holds, IsTable}
use Rattle.list_laws.proofs.Elements.{all-weaker, all-map, all-append, every-map}
use Rattle.position_laws.proofs.Asks.{holds-asks}
use Rattle.goals.specs.Signed.{Signed, Plus, Minus, opposite, position_of, has, met, meets}
use Rattle.goals.specs.Choices.{one_plus, two_plus, for_objects, plus_choices, minus_choices, choices}
use Rattle.goals.specs.Choices.{is_elsewhere, plus_wrong, minus_wrong, is_wrong}
use Rattle.goal_laws.proofs.Signs.{met-opposite, every-has}
use Rattle.goal_laws.proofs.OneLaws.{one_plus-some, two_plus-some}

not-or : (a b : Bool) → (not a && not b) ≡ not (a || b)
not-or true b = refl
not-or false b = refl

not-and : (a b : Bool) → (not a || not b) ≡ not (a && b)
not-and true b = refl
not-and false b = refl

module _ (here : ℕ → Bool) where
  all_minus : (qs : List ℕ) → every (met here) (map Minus qs) ≡ not (some here qs)
  all_minus [] = refl
  all_minus (q ∷ qs) = ap (λ b. not (here q) && b) (all_minus qs) ∙ not-or (here q) (some here qs)

  each_plus : (qs : List ℕ) → some (every (met here)) (map (λ q. Plus q ∷ []) qs) ≡ some here qs
  each_plus [] = refl
  each_plus (q ∷ qs) = ap₂ (λ a b. a || b) (and-true (here q)) (each_plus qs)

  each_minus : (qs : List ℕ) → some (every (met here)) (map (λ q. Minus q ∷ []) qs) ≡ not (every here qs)
  each_minus [] = refl
  each_minus (q ∷ qs) =
      ap₂ (λ a b. a || b) (and-true (not (here q))) (each_minus qs) ∙ not-and (here q) (every here qs)

  single : (x : Signed) → some (every (met here)) ((x ∷ []) ∷ []) ≡ met here x
  single x = or-false (met here x && true) ∙ and-true (met here x)

  -- one of the positions is the one that holds
  one_plus-met : (qs : List ℕ) → some (every (met here)) (one_plus qs) ≡ exactly_one here qs
  one_plus-met [] = refl
  one_plus-met (q ∷ qs) =
      one_plus-some (met here) q qs
      ∙ ap₂ (λ a b. (here q && a) || (not (here q) && b)) (all_minus qs) (one_plus-met qs)
      ∙ either (here q) (not (some here qs)) (exactly_one here qs) where
        either : (a b c : Bool) → ((a && b) || (not a && c)) ≡ cond a b c
        either true true c = refl
        either true false c = refl
        either false b c = refl

  -- two that hold are one that holds
  two_plus-met : (qs : List ℕ) → some (every (met here)) (two_plus qs) ≡ true → some here qs ≡ true
  two_plus-met [] e = e
  two_plus-met (q ∷ qs) e =
      go (here q) (some here qs) (some (every (met here)) (two_plus qs)) (two_plus-met qs)
      (sym (two_plus-some (met here) q qs) ∙ e) where
        go : (a s two : Bool) → (two ≡ true → s ≡ true) → ((a && s) || two) ≡ true → (a || s) ≡ true
        go true s two f e = refl
        go false s two f e = f e

  -- not exactly one of the positions holds: none does, or two do
  not_one-met : (qs : List ℕ) → some (every (met here)) (map Minus qs ∷ two_plus qs) ≡ not (exactly_one here qs)
  not_one-met qs = ap (λ b. b || some (every (met here)) (two_plus qs)) (all_minus qs) ∙ none_or_two qs where
    none_or_two : (qs : List ℕ)
        → (not (some here qs) || some (every (met here)) (two_plus qs)) ≡ not (exactly_one here qs)
    none_or_two [] = refl
    none_or_two (q ∷ qs) =
        ap (λ b. not (here q || some here qs) || b) (two_plus-some (met here) q qs)
        ∙ go (here q) (some here qs) (some (every (met here)) (two_plus qs)) (exactly_one here qs) (two_plus-met qs)
        (none_or_two qs) where
          go : (a s two one : Bool) → (two ≡ true → s ≡ true) → (not s || two) ≡ not one
              → (not (a || s) || ((a && s) || two)) ≡ not (cond a (not s) one)
          go true true two one f e = refl
          go true false true one f e = cc (f refl)
          go true false false one f e = refl
          go false s two one f e = e

  module _ (below : ℕ → Document → Bool) where
    plus_choices-asks : (P : Position) (J : Document)
        → IfSome (plus_choices (kind_of J) P) (λ cs. some (every (met here)) cs ≡ asks here below P J)
    plus_choices-asks True J = refl
    plus_choices-asks False J = refl
    plus_choices-asks (Same q) J = single (Plus q)
    plus_choices-asks (Not q) J = single (Minus q)
    plus_choices-asks (All qs) J = or-false _ ∙ every-map (met here) Plus qs
    plus_choices-asks (Any qs) J = each_plus qs
    plus_choices-asks (One qs) J = one_plus-met qs
    plus_choices-asks (Depends h q) (object ms) =
        ap₂ (λ a b. a || b) (and-true (not (here h))) (single (Plus q))
    plus_choices-asks (Depends h q) _ = refl
    plus_choices-asks _ J = tt

    minus_choices-asks : (P : Position) (J : Document)
        → IfSome (minus_choices (kind_of J) P) (λ cs. some (every (met here)) cs ≡ not (asks here below P J))
    minus_choices-asks True J = refl
    minus_choices-asks False J = refl
    minus_choices-asks (Same q) J = single (Minus q)
    minus_choices-asks (Not q) J = single (Plus q) ∙ sym (not-not (here q))
    minus_choices-asks (All qs) J = each_minus qs
    minus_choices-asks (Any qs) J = or-false _ ∙ all_minus qs
    minus_choices-asks (One qs) J = not_one-met qs
    minus_choices-asks (Depends h q) (object ms) = go (here h) (here q) where
      go : (a b : Bool) → ((a && (not b && true)) || false) ≡ not (not a || b)
      go true true = refl
      go true false = refl
      go false b = refl
    minus_choices-asks (Depends h q) _ = refl
    minus_choices-asks _ J = tt

    plus_wrong-asks : (P : Position) (J : Document) → plus_wrong (kind_of J) P ≡ true
        → asks here below P J ≡ false
    plus_wrong-asks (Types ts) J e = not-true (some (same_kind (kind_of J)) ts) e
    plus_wrong-asks _ J e = cc

    -- a typed position holds of each document of another kind: whichever the position is, it requires nothing of this
    -- document, or it isn't elsewhere
    pub asks-elsewhere : (J : Document) (P : Position) → is_elsewhere (kind_of J) (speaks_of P) ≡ true
        → asks here below P J ≡ true
    asks-elsewhere null True e = cc
    asks-elsewhere (boolean b) True e = cc
    asks-elsewhere (number n) True e = cc
    asks-elsewhere (string w) True e = cc
    asks-elsewhere (array ds) True e = cc
    asks-elsewhere (object ms) True e = cc
    asks-elsewhere _ _ e = cc

    minus_wrong-asks : (P : Position) (J : Document) → minus_wrong (kind_of J) P ≡ true
        → asks here below P J ≡ true
    minus_wrong-asks (Types ts) J e = e
    minus_wrong-asks P J e = asks-elsewhere J P e

-- what is true of the in-place names of a position is true of those of its choices
module _ (Q : ℕ → Type 0) (t : Kind) where
  -- Q holds of each position that the choices name
  abbrev pub AreNames : List (List Signed) → Type 0
  AreNames cs = AllByRecursion (λ C. AllByRecursion (λ x. Q (position_of x)) C) cs

  one_plus-names : (qs : List ℕ) → AllByRecursion Q qs → AreNames (one_plus qs)
  one_plus-names [] h = tt
  one_plus-names (q ∷ qs) h = (
    (h.0, all-map _ Minus qs h.1),
    all-map _ (λ C. Minus q ∷ C) (one_plus qs)
        (all-weaker _ _ (one_plus qs) (λ C k. (h.0, k)) (one_plus-names qs h.1)),
  )

  two_plus-names : (qs : List ℕ) → AllByRecursion Q qs → AreNames (two_plus qs)
  two_plus-names [] h = tt
  two_plus-names (q ∷ qs) h =
      all-append _ (map (λ r. Plus q ∷ Plus r ∷ []) qs) (two_plus qs)
      (all-map _ (λ r. Plus q ∷ Plus r ∷ []) qs (all-weaker Q _ qs (λ r k. (h.0, (k, tt))) h.1))
      (two_plus-names qs h.1)

  for_objects-names : (cs ds : List (List Signed)) → AreNames cs → AreNames ds → AreNames (for_objects t cs ds)
  for_objects-names cs ds h k = go t where
    go : (u : Kind) → AreNames (for_objects u cs ds)
    go Object = h
    go _ = k

  pub plus_choices-names : (P : Position) → AllByRecursion Q (in_place P) → IfSome (plus_choices t P) AreNames
  plus_choices-names True h = (tt, tt)
  plus_choices-names False h = tt
  plus_choices-names (Same q) h = ((h.0, tt), tt)
  plus_choices-names (Not q) h = ((h.0, tt), tt)
  plus_choices-names (All qs) h = (all-map _ Plus qs h, tt)
  plus_choices-names (Any qs) h = all-map _ (λ q. Plus q ∷ []) qs (all-weaker Q _ qs (λ q k. (k, tt)) h)
  plus_choices-names (One qs) h = one_plus-names qs h
  plus_choices-names (Depends p q) h =
      for_objects-names ((Minus p ∷ []) ∷ (Plus q ∷ []) ∷ []) ([] ∷ []) ((h.0, tt), ((h.1.0, tt), tt)) (tt, tt)
  plus_choices-names _ h = tt

  pub minus_choices-names : (P : Position) → AllByRecursion Q (in_place P) → IfSome (minus_choices t P) AreNames
  minus_choices-names True h = tt
  minus_choices-names False h = (tt, tt)
  minus_choices-names (Same q) h = ((h.0, tt), tt)
  minus_choices-names (Not q) h = ((h.0, tt), tt)
  minus_choices-names (All qs) h = all-map _ (λ q. Minus q ∷ []) qs (all-weaker Q _ qs (λ q k. (k, tt)) h)
  minus_choices-names (Any qs) h = (all-map _ Minus qs h, tt)
  minus_choices-names (One qs) h = (all-map _ Minus qs h, two_plus-names qs h)
  minus_choices-names (Depends p q) h =
      for_objects-names ((Plus p ∷ Minus q ∷ []) ∷ []) [] ((h.0, (h.1.0, tt)), tt) tt
  minus_choices-names _ h = tt

  pub choices-names : (T : List Position) (x : Signed)
      → AllByRecursion Q (in_place (position_at T (position_of x)))
      → IfSome (choices T t x) AreNames
  choices-names T (Plus p) h = plus_choices-names (position_at T p) h
  choices-names T (Minus p) h = minus_choices-names (position_at T p) h

-- of a table: a document meets a choice exactly where it meets the signed position
module _ (T : List Position) (ok : IsTable T) (J : Document) where
  pub choices-met : (x : Signed)
      → IfSome (choices T (kind_of J) x) (λ cs. some (λ C. meets T C J) cs ≡ met (λ p. holds T p J) x)
  choices-met (Plus p) =
      subst (λ b. IfSome (plus_choices (kind_of J) (position_at T p)) (λ cs. some (λ C. meets T C J) cs ≡ b))
      (sym (holds-asks T ok p J)) (plus_choices-asks (λ q. holds T q J) (holds T) (position_at T p) J)
  choices-met (Minus p) =
      subst
      (λ b. IfSome (minus_choices (kind_of J) (position_at T p)) (λ cs. some (λ C. meets T C J) cs ≡ not b))
      (sym (holds-asks T ok p J)) (minus_choices-asks (λ q. holds T q J) (holds T) (position_at T p) J)

  pub is_wrong-met : (x : Signed) → is_wrong T (kind_of J) x ≡ true → met (λ p. holds T p J) x ≡ false
  is_wrong-met (Plus p) e =
      holds-asks T ok p J ∙ plus_wrong-asks (λ q. holds T q J) (holds T) (position_at T p) J e
  is_wrong-met (Minus p) e =
      ap not (holds-asks T ok p J ∙ minus_wrong-asks (λ q. holds T q J) (holds T) (position_at T p) J e)

  -- a set with both signs of a position is met by no document
  pub meets-clash : (S : List Signed) (x : Signed) → has x S ≡ true → has (opposite x) S ≡ true
      → meets T S J ≡ false
  meets-clash S x a b = false_from_ne_true (meets T S J) (λ e.
      let here : ℕ → Bool = λ p. holds T p J in
      both (met here x) (every-has (met here) S x e a)
      (sym (met-opposite here x) ∙ every-has (met here) S (opposite x) e b)) where
        both : (b : Bool) → b ≡ true → not b ≡ true → ⊥
        both true a b = cc
        both false a b = cc

  -- nor is one with a literal that is wrong at the document's kind
  pub meets-wrong : (S : List Signed) (x : Signed) → has x S ≡ true → is_wrong T (kind_of J) x ≡ true
      → meets T S J ≡ false
  meets-wrong S x i w =
      false_from_ne_true (meets T S J) (λ e. cc (every-has (met (λ p. holds T p J)) S x e i, is_wrong-met x w))
