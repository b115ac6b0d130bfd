-- What is written into the room of a plan, position after position, is whether they hold.
use Rattle.std.proofs.Common.{◌≡◌, ℕ, zero, suc, ◌<◌, List, [], ◌∷◌, ◌++◌, map, length, take, get_or, Bool, true, false, ◌||◌, not, nat_eq, nat_lt, if◌then◌else◌, eqb-true, inl, inr, refl, ap, ap₂, sym, ◌∙◌, subst, append_assoc, arith}
use Rattle.std.proofs.Math.ListN.{set}
use Rattle.std.proofs.Math.Seq.{take-suc}
use Rattle.std.specs.Bool.{beq}
use Rattle.std.specs.List.{AllByRecursion}
use Rattle.std.proofs.lemmas.Bool.{and_parts, and_from, eqb-false, ltb-true, true≢false, cases_Bool}
use Rattle.std.proofs.lemmas.List.{append-nil, get_or-set_same, get_or-set_other}
use Rattle.documents.specs.Tests.{every}
use Rattle.word_states.specs.Atom as W
use Rattle.word_states.specs.Atom.{Atom, is_true}
use Rattle.positions.specs.Position.{Position, Words, Match, LengthMin, LengthMax, position_at}
use Rattle.positions.specs.Holds.{IsTable}
use Rattle.name_truths.specs.NameTruth.{asked_of_string, own_atoms, AreTrue, asks_name, name_holds}
use Rattle.name_laws.specs.Plans.{Plan, IsPlan, is_leaf, has_place, asks_earlier, atoms_of}
use Rattle.name_laws.specs.Rooms.{truth_at, is_right, leaf_holds}
use Rattle.name_laws.proofs.Tests.{every-has}
use Rattle.name_laws.proofs.Unfolded.{asks_name-same, name_holds-asks}
use Rattle.list_laws.proofs.Elements.{every-weaker}
use Rattle.list_laws.proofs.Tests.{beq-true}
use Rattle.list_laws.proofs.Booleans.{eq-beq}
use Rattle.list_laws.proofs.Every.{every_joined}

-- leaves

leaf-first : (truth : Atom → Bool) (here : ℕ → Bool) (P : Position) (rest : List Atom) → is_leaf P ≡ true
    → leaf_holds P (get_or (map truth (own_atoms P ++ rest)) 0 false) ≡ asks_name truth here P
leaf-first truth here (Words ws) rest h = refl
leaf-first truth here (Match r) rest h = refl
leaf-first truth here (LengthMin n) rest h = go (nat_eq n 0) h where
  go : (b : Bool) → not b ≡ true
      → get_or (map truth ((if b then [] else W.LengthMin n ∷ []) ++ rest)) 0 false ≡ (b || truth (W.LengthMin n))
  go true e = absurd (true≢false (sym e))
  go false e = refl
leaf-first truth here (LengthMax n) rest h = refl
leaf-first truth here _ rest h = absurd (true≢false (sym h))

leaf-next : (truth : Atom → Bool) (P : Position) (rest : List Atom) (k : ℕ) → is_leaf P ≡ true
    → get_or (map truth (own_atoms P ++ rest)) (suc k) false ≡ get_or (map truth rest) k false
leaf-next truth (Words ws) rest k h = refl
leaf-next truth (Match r) rest k h = refl
leaf-next truth (LengthMin n) rest k h = go (nat_eq n 0) h where
  go : (b : Bool) → not b ≡ true
      → get_or (map truth ((if b then [] else W.LengthMin n ∷ []) ++ rest)) (suc k) false ≡ get_or
      (map truth rest) k false
  go true e = absurd (true≢false (sym e))
  go false e = refl
leaf-next truth (LengthMax n) rest k h = refl
leaf-next truth _ rest k h = absurd (true≢false (sym h))

-- leaf k holds by the truth of atom k
leaf-told : (T : List Position) (truth : Atom → Bool) (here : ℕ → Bool) (leaves : List ℕ) (k : ℕ)
    → every (λ q. is_leaf (position_at T q)) leaves ≡ true → k < length leaves
    → leaf_holds (position_at T (get_or leaves k 0)) (get_or (map truth (atoms_of T leaves)) k false)
    ≡ asks_name truth here (position_at T (get_or leaves k 0))
leaf-told T truth here [] k h l = absurd (omega (arith, l))
leaf-told T truth here (q ∷ leaves) zero h l =
    leaf-first truth here (position_at T q) (atoms_of T leaves) (and_parts _ _ h).0
leaf-told T truth here (q ∷ leaves) (suc k) h l =
    let (one, more) = and_parts (is_leaf (position_at T q)) (every (λ q. is_leaf (position_at T q)) leaves) h in
    ap (λ b. leaf_holds (position_at T (get_or leaves k 0)) b)
    (leaf-next truth (position_at T q) (atoms_of T leaves) k one)
    ∙ leaf-told T truth here leaves k more (omega (arith, l))

-- the room

module _ (T : List Position) (truth : Atom → Bool) where
  right-itself : (room : List Bool) (p : ℕ) (b : Bool) → p < length room → b ≡ name_holds T truth p
      → is_right T truth (set room p b) p ≡ true
  right-itself room p b l e = eq-beq _ _ (get_or-set_same room p b false l ∙ e)

  -- what is right for one position leaves the others right
  right-set : (room : List Bool) (p : ℕ) (b : Bool) (q : ℕ) → p < length room → b ≡ name_holds T truth p
      → is_right T truth room q ≡ true → is_right T truth (set room p b) q ≡ true
  right-set room p b q l e h =
      elim (cases_Bool (nat_eq q p)) [
        | inl a ↦
            subst (λ k. is_right T truth (set room p b) k ≡ true) (sym (eqb-true q p a)) (right-itself room p b l e)
        | inr a ↦
            subst (λ c. beq c (name_holds T truth q) ≡ true) (sym
            (get_or-set_other room p q b false (eqb-false q p a))) h
      ]

  pub right-more : (room : List Bool) (qs : List ℕ) (p : ℕ) (b : Bool) → p < length room → b ≡ name_holds T truth p
      → every (is_right T truth room) qs ≡ true → every (is_right T truth (set room p b)) (qs ++ p ∷ []) ≡ true
  right-more room qs p b l e h =
      every_joined _ qs (p ∷ []) (every-weaker _ _ qs (λ q k. right-set room p b q l e k) h)
      (and_from (is_right T truth (set room p b) p) true (right-itself room p b l e) refl)

  pub right-at : (room : List Bool) (qs : List ℕ) (q : ℕ) → every (is_right T truth room) qs ≡ true
      → has_place qs q ≡ true → truth_at room q ≡ name_holds T truth q
  right-at room qs q h e = beq-true _ _ (every-has (is_right T truth room) qs q h e)

-- position i depends on those that are seen or before it
earlier-at : (T : List Position) (seen ps : List ℕ) (i : ℕ) → asks_earlier T seen ps ≡ true → i < length ps
    → every (has_place (seen ++ take i ps)) (asked_of_string (position_at T (get_or ps i 0))) ≡ true
earlier-at T seen [] i h l = absurd (omega (arith, l))
earlier-at T seen (p ∷ ps) zero h l =
    ap (λ xs. every (has_place xs) (asked_of_string (position_at T p))) (append-nil seen) ∙ (and_parts _ _ h).0
earlier-at T seen (p ∷ ps) (suc i) h l =
    ap (λ xs. every (has_place xs) (asked_of_string (position_at T (get_or ps i 0))))
    (sym (append_assoc seen (p ∷ []) (take i ps)))
    ∙ earlier-at T (seen ++ p ∷ []) ps i
    (and_parts (every (has_place seen) (asked_of_string (position_at T p))) (asks_earlier T (seen ++ p ∷ []) ps) h).1
    (omega (arith, l))

pub taken : (ps : List ℕ) (i n p : ℕ) → n ≡ suc i → i < length ps → p ≡ get_or ps i 0 → take n ps ≡ take i ps ++ p ∷ []
taken ps i n p m l e =
    ap (λ k. take k ps) m ∙ take-suc ps i 0 l ∙ ap (λ q. take i ps ++ q ∷ []) (sym e)

module _ (T : List Position) (ok : IsTable T) (truth : Atom → Bool) where
  -- a leaf holds by the truth of its atom
  pub leaf-right : (leaves : List ℕ) (truths : List Bool) (k p : ℕ)
      → every (λ q. is_leaf (position_at T q)) leaves ≡ true → k < length leaves → p ≡ get_or leaves k 0
      → truths ≡ map truth (atoms_of T leaves)
      → leaf_holds (position_at T p) (get_or truths k false) ≡ name_holds T truth p
  leaf-right leaves truths k p h l e same =
      let at = get_or leaves k 0 in
      subst (λ q. leaf_holds (position_at T q) (get_or truths k false) ≡ name_holds T truth q) (sym e)
      (ap (λ bs. leaf_holds (position_at T at) (get_or bs k false)) same
      ∙ leaf-told T truth (λ q. name_holds T truth q) leaves k h l ∙ sym (name_holds-asks T ok truth at))

  -- another holds by what holds of those before it
  pub inner-right : (room : List Bool) (seen ps : List ℕ) (i p : ℕ) → asks_earlier T seen ps ≡ true
      → i < length ps → p ≡ get_or ps i 0 → every (is_right T truth room) (seen ++ take i ps) ≡ true
      → asks_name truth (truth_at room) (position_at T p) ≡ name_holds T truth p
  inner-right room seen ps i p h l e right =
      let at = get_or ps i 0 in
      subst (λ q. asks_name truth (truth_at room) (position_at T q) ≡ name_holds T truth q) (sym e)
      (asks_name-same truth (truth_at room) (λ q. name_holds T truth q) (position_at T at)
      (each (asked_of_string (position_at T at)) (earlier-at T seen ps i h l))
      ∙ sym (name_holds-asks T ok truth at)) where
        each : (cs : List ℕ) → every (has_place (seen ++ take i ps)) cs ≡ true
            → AllByRecursion (λ q. truth_at room q ≡ name_holds T truth q) cs
        each [] g = tt
        each (c ∷ cs) g =
            let (one, more) = and_parts (has_place (seen ++ take i ps) c) _ g in
            (right-at T truth room (seen ++ take i ps) c right one, each cs more)

  -- so one more leaf, and one more of the others, gets its truth
  pub leaf-next-right : (room : List Bool) (leaves : List ℕ) (truths : List Bool) (k n p : ℕ) (P : Position) (b : Bool)
      → every (λ q. is_leaf (position_at T q)) leaves ≡ true → k < length leaves → n ≡ suc k → p ≡ get_or leaves k 0
      → p < length room → P ≡ position_at T p → b ≡ leaf_holds P (get_or truths k false)
      → truths ≡ map truth (atoms_of T leaves) → every (is_right T truth room) (take k leaves) ≡ true
      → every (is_right T truth (set room p b)) (take n leaves) ≡ true
  leaf-next-right room leaves truths k n p P b h l m e inside f g same right =
      let told : b ≡ name_holds T truth p =
      g ∙ ap (λ X. leaf_holds X (get_or truths k false)) f ∙ leaf-right leaves truths k p h l e same in
      ap (λ xs. every (is_right T truth (set room p b)) xs) (taken leaves k n p m l e)
      ∙ right-more T truth room (take k leaves) p b inside told right

  pub inner-next-right : (room : List Bool) (seen ps : List ℕ) (i n p : ℕ) (P : Position) (b : Bool)
      → asks_earlier T seen ps ≡ true → i < length ps → n ≡ suc i → p ≡ get_or ps i 0 → p < length room
      → P ≡ position_at T p → b ≡ asks_name truth (truth_at room) P
      → every (is_right T truth room) (seen ++ take i ps) ≡ true
      → every (is_right T truth (set room p b)) (seen ++ take n ps) ≡ true
  inner-next-right room seen ps i n p P b h l m e inside f g right =
      let told : b ≡ name_holds T truth p =
      g ∙ ap (λ X. asks_name truth (truth_at room) X) f ∙ inner-right room seen ps i p h l e right in
      ap (λ xs. every (is_right T truth (set room p b)) xs)
      (ap (λ xs. seen ++ xs) (taken ps i n p m l e) ∙ sym (append_assoc seen (take i ps) (p ∷ [])))
      ∙ right-more T truth room (seen ++ take i ps) p b inside told right

-- the truths of a word
pub true-itself : (w : List ℕ) (xs : List Atom) → AreTrue (λ a. is_true a w) w xs
true-itself w [] = tt
true-itself w (a ∷ xs) = (refl, true-itself w xs)

-- by the plan's order, what is at its position after both passes is whether it holds
pub root-inside : (T : List Position) (plan : Plan) → IsPlan T plan → plan.root < length T
root-inside T plan h =
    ltb-true plan.root (length T)
    (every-has (λ q. nat_lt q (length T)) (plan.leaves ++ plan.inner) plan.root
    (every_joined _ plan.leaves plan.inner h.leaves_within h.inner_within) h.has_root)

pub root-told : (T : List Position) (truth : Atom → Bool) (plan : Plan) (root : ℕ) (leaves inner : List ℕ)
    (truths before after : List Bool) → IsPlan T plan → root ≡ plan.root → leaves ≡ plan.leaves
    → inner ≡ plan.inner
    → (truths ≡ map truth (atoms_of T leaves) → every (is_right T truth before) leaves ≡ true)
    → ((seen : List ℕ) → asks_earlier T seen inner ≡ true → every (is_right T truth before) seen ≡ true
    → every (is_right T truth after) (seen ++ inner) ≡ true)
    → truths ≡ map truth (atoms_of T plan.leaves) → truth_at after root ≡ name_holds T truth plan.root
root-told T truth plan root leaves inner truths before after h e f g filled swept same =
    let ordered : asks_earlier T leaves inner ≡ true = ap₂ (λ a b. asks_earlier T a b) f g ∙ h.ordered in
    let among : has_place (leaves ++ inner) root ≡ true =
    ap (λ r. has_place (leaves ++ inner) r) e ∙ ap₂ (λ a b. has_place (a ++ b) plan.root) f g ∙ h.has_root in
    right-at T truth after (leaves ++ inner) root
    (swept leaves ordered (filled (same ∙ ap (λ qs. map truth (atoms_of T qs)) (sym f)))) among
    ∙ ap (λ r. name_holds T truth r) e
