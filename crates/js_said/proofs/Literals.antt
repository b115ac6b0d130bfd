-- What was taken of some literals, and of one more.
use Rattle.std.proofs.Common.{◌≡◌, ℕ, inl, inr, Bool, true, false, cond, List, [], ◌∷◌, ◌++◌, map, Option, Some, None, is_some, refl, ap, ap₂, sym, ◌∙◌, subst, append-nil}
use Rattle.std.proofs.lemmas.List.{map-append}
use Rattle.std.proofs.lemmas.List.Elements.{filter-append}
use Rattle.std.proofs.lemmas.Grind.{flat_map-append}
use Rattle.list_laws.specs.In.{IsIn}
use Rattle.word_states.specs.Atom.{Atom}
use Rattle.word_states.specs.WordState.{have_same_state}
use Rattle.word_states.specs.Mention.{mention_all}
use Rattle.word_states.specs.SameAtom.{same_atom}
use Rattle.state_laws.proofs.SameAtoms.{same_atom_equiv}
use Rattle.word_laws.proofs.Mentions as M
use Rattle.positions.specs.Position.{Position, position_at}
use Rattle.positions.specs.NameFormula.{NameFormula}
use Rattle.goals.specs.Signed as G
use Rattle.goals.specs.Signed.{position_of}
use Rattle.name_truths.specs.NameAtoms.{formula_of, position_atoms, name_atoms}
use Rattle.cells.specs.Cells.{meets_formula, naming, vector, same_vector, place, vectors_of}
use Rattle.js_algebra.specs.View.{signed_view, with_sign}
use Rattle.js_algebra.specs.declared.signed.Signed.{Signed}
use Rattle.js_said.specs.declared.said.Said.{Said}
use Rattle.js_said.specs.Saying.{IsSaid, MaySay, SaysOf, AreSaid, AreTaken, told_of}
use Rattle.js_said.proofs.Formulas.{said_more, tells_more, tells_same}

-- with further atoms the literals say the same

are_said_more : (T : List Position) (A X : List Atom) (ss : List Said) (xs : List G.Signed) → AreSaid T A ss xs
    → AreSaid T (A ++ X) ss xs
are_said_more T A X [] [] h = tt
are_said_more T A X [] (x ∷ xs) h = absurd h
are_said_more T A X (s ∷ ss) [] h = absurd h
are_said_more T A X (s ∷ ss) (x ∷ xs) h = (
  record {
    said = said_more T A X s h.0.said;
    tells = λ w. tells_more T A X s w h.0.said ∙ h.0.tells w;
  },
  are_said_more T A X ss xs h.1,
)

are_said_end : (T : List Position) (A : List Atom) (ss : List Said) (xs : List G.Signed) (s : Said) (x : G.Signed)
    → AreSaid T A ss xs → SaysOf T A s x → AreSaid T A (ss ++ s ∷ []) (xs ++ x ∷ [])
are_said_end T A [] [] s x h k = (k, tt)
are_said_end T A [] (y ∷ xs) s x h k = absurd h
are_said_end T A (r ∷ ss) [] s x h k = absurd h
are_said_end T A (r ∷ ss) (y ∷ xs) s x h k = (h.0, are_said_end T A ss xs s x h.1 k)

-- each is said by atoms, and all together are the vector

pub each_said : (T : List Position) (A : List Atom) (ss : List Said) (xs : List G.Signed) → AreSaid T A ss xs
    → (s : Said) → IsIn s ss → IsSaid T A s
each_said T A [] xs h s i = absurd i
each_said T A (r ∷ ss) [] h s i = absurd h
each_said T A (r ∷ ss) (x ∷ xs) h s (inl e) = subst (λ z. IsSaid T A z) (sym e) h.0.said
each_said T A (r ∷ ss) (x ∷ xs) h s (inr i) = each_said T A ss xs h.1 s i

pub told-vector : (T : List Position) (A : List Atom) (ss : List Said) (xs : List G.Signed) (w : List ℕ)
    → AreSaid T A ss xs → told_of T A ss w ≡ vector T xs w
told-vector T A [] [] w h = refl
told-vector T A [] (x ∷ xs) w h = absurd h
told-vector T A (r ∷ ss) [] w h = absurd h
told-vector T A (r ∷ ss) (x ∷ xs) w h = ap₂ (λ b bs. b ∷ bs) (h.0.tells w) (told-vector T A ss xs w h.1)

-- one more literal

module _ (T : List Position) (xs : List G.Signed) (x : G.Signed) (A B : List Atom) where
  abbrev formula : Option NameFormula
  formula = formula_of (position_at T (position_of x))

  atoms_end : A ≡ mention_all same_atom [] (name_atoms T xs) → B ≡ mention_all same_atom A (position_atoms T formula)
      → B ≡ mention_all same_atom [] (name_atoms T (xs ++ x ∷ []))
  atoms_end a b =
      let f : G.Signed → List Atom = λ y. position_atoms T (formula_of (position_at T (position_of y))) in
      b ∙ ap (λ z. mention_all same_atom z (f x)) a
      ∙ sym (M.mentions_append same_atom same_atom_equiv [] (name_atoms T xs) (f x))
      ∙ ap (mention_all same_atom [])
      (ap (λ z. name_atoms T xs ++ z) (sym (append-nil (f x))) ∙ sym (flat_map-append f xs (x ∷ [])))

  names_end : (b : Bool) → is_some formula ≡ b → naming T (xs ++ x ∷ []) ≡ naming T xs ++ cond b (x ∷ []) []
  names_end b e =
      filter-append (λ y. is_some (formula_of (position_at T (position_of y)))) xs (x ∷ [])
      ∙ ap (λ z. naming T xs ++ cond z (x ∷ []) []) e

  grown : (ss : List Said) (ys : List G.Signed) → B ≡ mention_all same_atom A (position_atoms T formula)
      → AreSaid T A ss ys → AreSaid T B ss ys
  grown ss ys b h =
      let (X, e) = M.mentions_grow same_atom same_atom_equiv A (position_atoms T formula) in
      subst (λ z. AreSaid T z ss ys) (sym (b ∙ e)) (are_said_more T A X ss ys h)

  module _ (ns : List Signed) (ss : List Said) (b : B ≡ mention_all same_atom A (position_atoms T formula))
      (taken : AreTaken T xs A ns ss) where
    pub taken_none : MaySay T B None formula → AreTaken T (xs ++ x ∷ []) B ns ss
    taken_none m = go formula refl m where
      go : (o : Option NameFormula) → formula ≡ o → MaySay T B None o → AreTaken T (xs ++ x ∷ []) B ns ss
      go (Some f) e m = absurd m
      go None e m =
          let same : naming T (xs ++ x ∷ []) ≡ naming T xs =
          names_end false (ap is_some e) ∙ append-nil (naming T xs) in
          record {
            atoms = atoms_end taken.atoms b;
            names = taken.names ∙ sym same;
            said = subst (λ z. AreSaid T B ss z) (sym same) (grown ss (naming T xs) b taken.said);
          }

    pub taken_some : (y : Signed) (s : Said) → signed_view y ≡ x → MaySay T B (Some s) formula
        → AreTaken T (xs ++ x ∷ []) B (ns ++ y ∷ []) (ss ++ s ∷ [])
    taken_some y s v m = go formula refl m where
      go : (o : Option NameFormula) → formula ≡ o → MaySay T B (Some s) o
          → AreTaken T (xs ++ x ∷ []) B (ns ++ y ∷ []) (ss ++ s ∷ [])
      go None e m = absurd m
      go (Some f) e m =
          let more : naming T (xs ++ x ∷ []) ≡ naming T xs ++ x ∷ [] = names_end true (ap is_some e) in
          record {
            atoms = atoms_end taken.atoms b;
            names = map-append signed_view ns (y ∷ []) ∙ ap₂ (λ zs z. zs ++ z ∷ []) taken.names v ∙ sym more;
            said = subst (λ z. AreSaid T B (ss ++ s ∷ []) z) (sym more)
                (are_said_end T B ss (naming T xs) s x (grown ss (naming T xs) b taken.said)
                (record {
                  said = m.said;
                  tells = λ w. m.tells w ∙ ap (λ o. meets_formula T o w) (sym e);
                }));
          }

-- before any
pub taken_start : (T : List Position) (A : List Atom) (ns : List Signed) (ss : List Said) → A ≡ [] → ns ≡ [] → ss ≡ []
    → AreTaken T [] A ns ss
taken_start T A ns ss a n s = record {
  atoms = a;
  names = ap (map signed_view) n;
  said = subst (λ z. AreSaid T A z []) (sym s) tt;
}

-- one more that says something
pub taken_pushed : (T : List Position) (xs : List G.Signed) (y : Signed) (A B : List Atom) (ns ms : List Signed)
    (ss ts : List Said) (s : Said) (found : Option Said) → found ≡ Some s
    → B ≡ mention_all same_atom A (position_atoms T (formula_of (position_at T y.pos.0)))
    → MaySay T B found (formula_of (position_at T y.pos.0)) → ms ≡ ns ++ y ∷ [] → ts ≡ ss ++ s ∷ []
    → AreTaken T xs A ns ss → AreTaken T (xs ++ signed_view y ∷ []) B ms ts
taken_pushed T xs y A B ns ms ss ts s found e b m p q taken =
    subst (λ z. AreTaken T (xs ++ signed_view y ∷ []) B z ts) (sym p)
    (subst (λ z. AreTaken T (xs ++ signed_view y ∷ []) B (ns ++ y ∷ []) z) (sym q)
    (taken_some T xs (signed_view y) A B ns ss
    (b ∙ ap (λ k. mention_all same_atom A (position_atoms T (formula_of (position_at T k)))) (sym (place y)))
    taken y s refl
    (subst (λ k. MaySay T B (Some s) (formula_of (position_at T k))) (sym (place y))
    (subst (λ o. MaySay T B o (formula_of (position_at T y.pos.0))) e m))))
  where
    place : (y : Signed) → position_of (signed_view y) ≡ y.pos.0
    place y = go y.plus where
      go : (b : Bool) → position_of (with_sign b y.pos.0) ≡ y.pos.0
      go true = refl
      go false = refl

-- what was taken makes the vectors, by the atoms of an automaton

module _ (T : List Position) (A B : List Atom) (xs : List G.Signed) (ss ts : List Said) (same : ts ≡ ss)
    (atoms : A ≡ B) (said : AreSaid T A ss xs) where
  all_said : AreSaid T B ts xs
  all_said = subst (λ z. AreSaid T z ts xs) atoms (subst (λ z. AreSaid T A z xs) (sym same) said)

  pub said_each : (s : Said) → IsIn s ts → IsSaid T B s
  said_each = each_said T B ts xs all_said

  told_all : told_of T B ts ≡ vector T xs
  told_all = λ i w. told-vector T B ts xs w all_said i

  pub said_vectors : (rows : List (List ℕ)) (vs : List (List Bool))
      → vs ≡ mention_all same_vector [] (map (told_of T B ts) rows) → vs ≡ vectors_of T xs rows
  said_vectors rows vs e = e ∙ ap (λ f. mention_all same_vector [] (map f rows)) told_all

  pub said_places : (rows : List (List ℕ)) (vs : List (List Bool)) (cs : List ℕ)
      → vs ≡ mention_all same_vector [] (map (told_of T B ts) rows)
      → cs ≡ map (λ w. place (told_of T B ts w) vs) rows
      → cs ≡ map (λ w. place (vector T xs w) (vectors_of T xs rows)) rows
  said_places rows vs cs e p =
      p ∙ ap₂ (λ (f : List ℕ → List Bool) z. map (λ w. place (f w) z) rows) told_all (said_vectors rows vs e)

  pub said_same : (v w : List ℕ) → have_same_state B v w ≡ true → vector T xs v ≡ vector T xs w
  said_same v w e =
      sym (told-vector T B ts xs v all_said)
      ∙ each ts said_each
      ∙ told-vector T B ts xs w all_said where
        each : (rs : List Said) → ((s : Said) → IsIn s rs → IsSaid T B s) → told_of T B rs v ≡ told_of T B rs w
        each [] h = refl
        each (r ∷ rs) h = ap₂ (λ b bs. b ∷ bs) (tells_same T B r v w (h r (inl refl)) e) (each rs (λ s i. h s (inr i)))
