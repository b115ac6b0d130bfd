-- What holds by the truths of a word's atoms holds of the word.
use Rattle.std.proofs.Common.{◌≡◌, ℕ, zero, suc, List, [], ◌∷◌, ◌++◌, flat_map, length, Bool, true, false, not, ◌&&◌, ◌||◌, nat_eq, nat_le, ◌<◌, ◌≤◌, ◌⊎◌, if◌then◌else◌, eqb-true, inl, inr, refl, ap, ap₂, sym, ◌∙◌, arith}
use Rattle.std.proofs.lemmas.Bool.Decides.{leb_tells}
use Rattle.std.specs.List.{AllByRecursion, list_any}
use Rattle.std.specs.Cmp.Lexicographic.{pointwise}
use Rattle.documents.specs.Tests.{some, same_word}
use Rattle.documents.specs.Document.{Document, string}
use Rattle.levels.specs.Levels.{met_here, met_below, is_met}
use Rattle.word_states.specs.Atom as W
use Rattle.word_states.specs.Atom.{Atom, is_true}
use Rattle.positions.specs.Position.{Position, True, False, Same, Not, All, Any, One, Depends, Types, BoolIs, NumMin, NumMax, Multiple, NumIn, Words, Match, LengthMin, LengthMax, Items, Contains, CountMin, CountMax, MembersOf, Has, PropsMin, PropsMax, NamesIn, position_at}
use Rattle.positions.specs.Holds.{asks, holds}
use Rattle.list_laws.proofs.Elements.{every-same, some-same, exactly_one-same}
use Rattle.name_truths.specs.NameTruth.{asked_of_string, own_atoms, atoms_within, atoms, AreTrue, asks_name, name_within, name_holds}

true_parts : (truth : Atom → Bool) (w : List ℕ) (xs bs : List Atom) → AreTrue truth w (xs ++ bs)
    → AreTrue truth w xs × AreTrue truth w bs
true_parts truth w [] bs h = (tt, h)
true_parts truth w (a ∷ xs) bs h = let (t, u) = true_parts truth w xs bs h.1 in ((h.0, t), u)

true_each : (truth : Atom → Bool) (w : List ℕ) (f : ℕ → List Atom) (qs : List ℕ) → AreTrue truth w (flat_map f qs)
    → AllByRecursion (λ q. AreTrue truth w (f q)) qs
true_each truth w f [] h = tt
true_each truth w f (q ∷ qs) h =
    let (t, u) = true_parts truth w (f q) (flat_map f qs) h in (t, true_each truth w f qs u)

weaker : {A : Type 0} (P Q : A → Type 0) (xs : List A) → ((x : A) → P x → Q x) → AllByRecursion P xs
    → AllByRecursion Q xs
weaker P Q [] f h = tt
weaker P Q (x ∷ xs) f h = (f x h.0, weaker P Q xs f h.1)

pub pointwise-same_word : (v w : List ℕ) → pointwise nat_eq v w ≡ same_word v w
pointwise-same_word [] [] = refl
pointwise-same_word [] (y ∷ ys) = refl
pointwise-same_word (x ∷ xs) [] = refl
pointwise-same_word (x ∷ xs) (y ∷ ys) = ap (λ b. nat_eq x y && b) (pointwise-same_word xs ys)

pub listed-same : (w : List ℕ) (ws : List (List ℕ)) → list_any (W.same_word w) ws ≡ some (same_word w) ws
listed-same w [] = refl
listed-same w (v ∷ vs) = ap₂ (λ a b. a || b) (pointwise-same_word w v) (listed-same w vs)

-- no longer than n is what hasn't n and one more
not_longer : (n l : ℕ) → not (nat_le (suc n) l) ≡ nat_le l n
not_longer n l = go (leb_tells (suc n) l) (leb_tells l n) where
  go : ((nat_le (suc n) l ≡ true) × (suc n ≤ l)) ⊎ ((nat_le (suc n) l ≡ false) × (l < suc n))
      → ((nat_le l n ≡ true) × (l ≤ n)) ⊎ ((nat_le l n ≡ false) × (n < l)) → not (nat_le (suc n) l) ≡ nat_le l n
  go (inl (e, a)) (inl (f, b)) = absurd (omega (arith, a, b))
  go (inl (e, a)) (inr (f, b)) = ap not e ∙ sym f
  go (inr (e, a)) (inl (f, b)) = ap not e ∙ sym f
  go (inr (e, a)) (inr (f, b)) = absurd (omega (arith, a, b))

-- no characters at least are in every word, and more of them are an atom
least : (truth : Atom → Bool) (w : List ℕ) (n : ℕ) (b : Bool) → nat_eq n 0 ≡ b
    → AreTrue truth w (if b then [] else W.LengthMin n ∷ []) → (b || truth (W.LengthMin n)) ≡ nat_le n (length w)
least truth w n true e t = go (leb_tells n (length w)) where
  go : ((nat_le n (length w) ≡ true) × (n ≤ length w)) ⊎ ((nat_le n (length w) ≡ false) × (length w < n))
      → true ≡ nat_le n (length w)
  go (inl (f, a)) = sym f
  go (inr (f, a)) = absurd (omega (arith, a, eqb-true n 0 e))
least truth w n false e t = t.0

-- at a string a position requires the same, where its atoms have the word's truths
asks-name : (truth : Atom → Bool) (w : List ℕ) (here here' : ℕ → Bool) (below : ℕ → Document → Bool) (P : Position)
    → AreTrue truth w (own_atoms P) → AllByRecursion (λ q. here q ≡ here' q) (asked_of_string P)
    → asks_name truth here P ≡ asks here' below P (string w)
asks-name truth w here here' below True t h = refl
asks-name truth w here here' below False t h = refl
asks-name truth w here here' below (Same q) t h = h.0
asks-name truth w here here' below (Not q) t h = ap not h.0
asks-name truth w here here' below (All qs) t h = every-same here here' qs h
asks-name truth w here here' below (Any qs) t h = some-same here here' qs h
asks-name truth w here here' below (One qs) t h = exactly_one-same here here' qs h
asks-name truth w here here' below (Depends p q) t h = refl
asks-name truth w here here' below (Types ts) t h = refl
asks-name truth w here here' below (Words ws) t h = t.0 ∙ listed-same w ws
asks-name truth w here here' below (Match r) t h = t.0
asks-name truth w here here' below (LengthMin n) t h = least truth w n (nat_eq n 0) refl t
asks-name truth w here here' below (LengthMax n) t h = ap not t.0 ∙ not_longer n (length w)
asks-name truth w here here' below (BoolIs b) t h = refl
asks-name truth w here here' below (NumMin n) t h = refl
asks-name truth w here here' below (NumMax n) t h = refl
asks-name truth w here here' below (Multiple m) t h = refl
asks-name truth w here here' below (NumIn ns) t h = refl
asks-name truth w here here' below (Items qs r) t h = refl
asks-name truth w here here' below (Contains q) t h = refl
asks-name truth w here here' below (CountMin n) t h = refl
asks-name truth w here here' below (CountMax n) t h = refl
asks-name truth w here here' below (MembersOf s q) t h = refl
asks-name truth w here here' below (Has k) t h = refl
asks-name truth w here here' below (PropsMin n) t h = refl
asks-name truth w here here' below (PropsMax n) t h = refl
asks-name truth w here here' below (NamesIn q) t h = refl

module _ (T : List Position) (truth : Atom → Bool) (w : List ℕ) where
  abbrev asks_at : (ℕ → Bool) → (ℕ → Document → Bool) → ℕ → Document → Bool
  asks_at here below p J = asks here below (position_at T p) J

  within : (steps : ℕ) (below : ℕ → Document → Bool) (n p : ℕ) → AreTrue truth w (atoms_within T n p)
      → name_within T truth n p ≡ met_here asks_at steps below n p (string w)
  within steps below zero p t = refl
  within steps below (suc n) p t =
      let P = position_at T p in
      let (own, rest) = true_parts truth w (own_atoms P) (flat_map (atoms_within T n) (asked_of_string P)) t in
      asks-name truth w _ (λ q. met_here asks_at steps below n q (string w)) below P own
      (weaker _ _ (asked_of_string P) (λ q u. within steps below n q u)
      (true_each truth w (atoms_within T n) (asked_of_string P) rest))

  -- where the truths are those of a word, what they give of a position is whether it holds of the word as a string
  pub holds_by_truths : (p : ℕ) → AreTrue truth w (atoms T p) → name_holds T truth p ≡ holds T p (string w)
  unfolding is_met
  holds_by_truths p t = within (length T) (met_below asks_at (length T) 0) (length T) p t
