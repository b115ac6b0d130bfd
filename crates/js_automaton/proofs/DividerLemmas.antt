-- The sets that distinguish characters, and the letters.
use Rattle.std.proofs.Common.{◌≡◌, ℕ, ◌+◌, ◌<◌, ◌&&◌, ◌||◌, not, nat_eq, if◌then◌else◌, List, [], ◌∷◌, ◌++◌, map, flat_map, drop, length, get_or, refl, sym, ◌∙◌, ap, ap₂, add-one}
use Rattle.std.proofs.Math.Seq.{drop-cons}
use Rattle.patterns.specs.CharSet.{has}
use Rattle.word_states.specs.Atom.{Atom, Match, Words, LengthMin}
use Rattle.word_states.specs.Position.{sets_of}
use Rattle.word_states.specs.Classes.{are_alike, dividers}
use Rattle.js_nfa.specs.declared.atom.Atom.{Atom as CodeAtom}
use Rattle.js_nfa.specs.AtomView.{atom_view}
use Rattle.js_automaton.specs.Letters.{is_letter, letters_of, tree_sets}
use Rattle.js_automaton.specs.Pieces.{are_like, AreRising, ArePlaces, AreNumbers, AreNumbered}
use Rattle.js_automaton.specs.ClassView.{are_letters}
use Rattle.std.specs.List.{list_any}
use Rattle.std.proofs.lemmas.List.Folds.{list_any-append}
use Rattle.word_laws.proofs.Classes.{alike_laws}
use Rattle.js_automaton.proofs.AlikeLemmas.{alike-append, alike-letters}
use Rattle.std.proofs.Math.Bool.{and_assoc}
use Rattle.list_laws.proofs.Booleans.{and_left_comm}

pub trees-drop : (atoms : List CodeAtom) (i : ℕ) (x : CodeAtom) → i < length atoms → x ≡ get_or atoms i x
    → flat_map tree_sets (map atom_view (drop i atoms))
    ≡ tree_sets (atom_view x) ++ flat_map tree_sets (map atom_view (drop (i + 1) atoms))
trees-drop atoms i x within is = rw (add-one, drop-cons atoms i x, ← is) refl

-- what is added is said, and what is left to add
pub alike-added : (old new : List (List (ℕ × ℕ))) (s t : List (List (ℕ × ℕ))) (c d : ℕ)
    → are_alike new c d ≡ (are_alike old c d && are_alike s c d)
    → (are_alike new c d && are_alike t c d) ≡ (are_alike old c d && are_alike (s ++ t) c d)
alike-added old new s t c d e =
    ap (λ b. b && are_alike t c d) e ∙ and_assoc (are_alike old c d) (are_alike s c d) (are_alike t c d)
    ∙ sym (ap (λ b. are_alike old c d && b) (alike-append s t c d))

abbrev pub singles_of : List (List ℕ) → List (List (ℕ × ℕ))
singles_of = flat_map (map (λ c. (c, c) ∷ []))

singles-append : (v w : List (List ℕ)) (c d : ℕ)
    → are_alike (singles_of (v ++ w)) c d ≡ (are_alike (singles_of v) c d && are_alike (singles_of w) c d)
singles-append [] w c d = refl
singles-append (x ∷ v) w c d =
    alike-append (map (λ c. (c, c) ∷ []) x) (singles_of (v ++ w)) c d
    ∙ ap (λ b. are_alike (map (λ c. (c, c) ∷ []) x) c d && b) (singles-append v w c d)
    ∙ sym (and_assoc (are_alike (map (λ c. (c, c) ∷ []) x) c d) (are_alike (singles_of v) c d)
    (are_alike (singles_of w) c d))
    ∙ sym (ap (λ b. b && are_alike (singles_of w) c d) (alike-append (map (λ c. (c, c) ∷ []) x) (singles_of v) c d))

-- letters and sets together are the dividers
parted : (atoms : List Atom) (c d : ℕ)
    → (are_alike (singles_of (flat_map letters_of atoms)) c d && are_alike (flat_map tree_sets atoms) c d)
    ≡ are_alike (dividers atoms) c d
parted [] c d = refl
parted (Match t ∷ atoms) c d =
    ap (λ b. are_alike (singles_of (flat_map letters_of atoms)) c d && b)
    (alike-append (sets_of t) (flat_map tree_sets atoms) c d)
    ∙ and_left_comm (are_alike (singles_of (flat_map letters_of atoms)) c d) (are_alike (sets_of t) c d)
    (are_alike (flat_map tree_sets atoms) c d)
    ∙ ap (λ b. are_alike (sets_of t) c d && b) (parted atoms c d)
    ∙ sym (alike-append (sets_of t) (dividers atoms) c d)
parted (Words ws ∷ atoms) c d =
    ap (λ b. b && are_alike (flat_map tree_sets atoms) c d) (singles-append ws (flat_map letters_of atoms) c d)
    ∙ and_assoc (are_alike (singles_of ws) c d) (are_alike (singles_of (flat_map letters_of atoms)) c d)
    (are_alike (flat_map tree_sets atoms) c d)
    ∙ ap (λ b. are_alike (singles_of ws) c d && b) (parted atoms c d)
    ∙ sym (alike-append (singles_of ws) (dividers atoms) c d)
parted (LengthMin n ∷ atoms) c d = parted atoms c d

pub like-dividers : (atoms : List Atom) (sets : List (List (ℕ × ℕ))) (letters : List (ℕ × ℕ))
    → ((c d : ℕ) → are_alike sets c d ≡ are_alike (flat_map tree_sets atoms) c d)
    → ((c : ℕ) → has letters c ≡ is_letter (flat_map letters_of atoms) c)
    → (c d : ℕ) → are_like sets letters c d ≡ are_alike (dividers atoms) c d
like-dividers atoms sets letters by is c d =
    ap₂ (λ a b. a && b)
    (ap₂ (λ x y. if x then nat_eq c d else not y) (is c) (is d)
    ∙ sym (alike-letters (flat_map letters_of atoms) c d)) (by c d)
    ∙ parted atoms c d

any-letters : (atoms : List CodeAtom) (c : ℕ)
    → are_letters atoms c ≡ is_letter (flat_map letters_of (map atom_view atoms)) c
any-letters [] c = refl
any-letters (a ∷ atoms) c =
    ap (λ b. is_letter (letters_of (atom_view a)) c || b) (any-letters atoms c)
    ∙ sym (list_any-append (list_any (nat_eq c)) (letters_of (atom_view a)) (flat_map letters_of (map atom_view atoms)))

-- the places and the numbers by letters and sets are those by dividers
pub numbered-all : (atoms : List CodeAtom) (starts numbers : List ℕ) (sets : List (List (ℕ × ℕ)))
    (letters : List (ℕ × ℕ))
    → AreRising starts → ArePlaces starts (are_like sets letters) → AreNumbers starts numbers (are_like sets letters)
    → ((c d : ℕ) → are_alike sets c d ≡ are_alike (flat_map tree_sets (map atom_view atoms)) c d)
    → ((c : ℕ) → has letters c ≡ are_letters atoms c)
    → AreNumbered (are_alike (dividers (map atom_view atoms))) starts numbers
numbered-all atoms starts numbers sets letters up p n by is = record {
  laws = alike_laws (dividers (map atom_view atoms));
  rising = up;
  places = record {
    first = p.first;
    low = p.low;
    high = p.high;
    end = p.end;
    like = λ c d t. sym (same c d) ∙ p.like c d t;
  };
  numbers = (n.0, λ i j a b. n.1 i j a b ∙ same (get_or starts i 0) (get_or starts j 0));
} where
  same : (c d : ℕ) → are_like sets letters c d ≡ are_alike (dividers (map atom_view atoms)) c d
  same = like-dividers (map atom_view atoms) sets letters by (λ c. is c ∙ any-letters atoms c)
