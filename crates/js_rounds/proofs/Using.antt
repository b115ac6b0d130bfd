-- Back through the goals in order: what is marked, and what was found.
use Rattle.std.proofs.Common.{◌≡◌, ℕ, zero, suc, ◌≤◌, ◌<◌, List, [], ◌∷◌, ◌++◌, filter, length, take, drop, get_or, reverse, is_some, nat_le, ◌⊎◌, inl, inr, Bool, true, false, ◌&&◌, ◌||◌, cond, Option, Some, None, nat_eq, refl, ap, ap₂, sym, ◌∙◌, subst, arith, drop-cons}
use Rattle.std.proofs.lemmas.Bool.{le-leb, lt-leb, cases_lt}
use Rattle.std.proofs.lemmas.List.{append-nil, reverse-append, drop_all, take_all}
use Rattle.documents.specs.Tests.{some}
use Rattle.goals.specs.Signed.{Signed}
use Rattle.alternatives.specs.Expansion.{Expansion}
use Rattle.search.specs.Explored.{Found}
use Rattle.list_laws.specs.In.{IsIn}
use Rattle.search.specs.Rounds.{NumberedPlaced, Numbered, round, answer, alternatives_of}
use Rattle.search.specs.Uses as U
use Rattle.search.specs.Uses.{in_order, chosen_in, contents_in, contents_of, round_before, contents, satisfied, uses, used_goals}
use Rattle.search_laws.proofs.Answers.{Enters, Least, answer_least, before_too, added_low}
use Rattle.search_laws.proofs.Rise.{answer_round}
use Rattle.search_laws.proofs.Settled.{rise_to}
use Rattle.search_laws.proofs.Used.{Entered, entered, has_order}
use Rattle.search_laws.proofs.Marking.{in_at, marked, mark_tells}
use Rattle.js_explore.specs.Exploration.{Exploration, Explores, alternatives_at}
use Rattle.js_rounds.specs.Seen.{is_by, seen}
use Rattle.js_rounds.specs.State.{AreRounds, answer_to, contents_seen, contents_at}
use Rattle.js_rounds.specs.declared.rounds.Rounds.{Rounds}
use Rattle.std.proofs.Math.Bool.{or-false}

or_apart : (a b c : Bool) → ((a || b) || c) ≡ (a || (c || b))
or_apart true b c = refl
or_apart false true true = refl
or_apart false true false = refl
or_apart false false true = refl
or_apart false false false = refl

pub get_take : {A : Type 0} (k : ℕ) (xs : List A) (j : ℕ) (d : A) → j < k → get_or (take k xs) j d ≡ get_or xs j d
get_take zero xs j d l = absurd (omega (arith, l))
get_take (suc k) [] j d l = refl
get_take (suc k) (x ∷ xs) zero d l = refl
get_take (suc k) (x ∷ xs) (suc j) d l = get_take k xs j d (omega (arith, l))

module _ (expansion : List Signed → Expansion) (f : Found) where
  abbrev Answer : ℕ → ℕ → Option (ℕ × ℕ)
  Answer r n = answer expansion f r n

  -- answers of a later round give an earlier one
  seen_by : (q m n : ℕ) → q ≤ m → is_by q (Answer m n) ≡ round expansion f q n
  seen_by q m n l = go (Answer m n) refl where
    differ : true ≡ false → ⊥
    differ e = cc

    not_true : (b : Bool) → (b ≡ true → ⊥) → b ≡ false
    not_true true h = absurd (h refl)
    not_true false h = refl

    go : (o : Option (ℕ × ℕ)) → Answer m n ≡ o → is_by q o ≡ round expansion f q n
    go None e =
        let b : round expansion f m n ≡ false = sym (answer_round expansion f m n) ∙ ap is_some e in
        sym (before_too expansion f q m n l b)
    go (Some a) e = by (cases_lt x.q q) where
      x : Least expansion f m n a.0 a.1
      x = answer_least expansion f m n a.0 a.1 e

      y : Enters expansion f n x.q a.1
      y = x.enters

      by : (x.q < q) ⊎ (q ≤ x.q) → nat_le a.0 q ≡ round expansion f q n
      by (inl k) =
          let s = x.is in
          le-leb a.0 q (omega (arith, k, s)) ∙ sym (rise_to expansion f (suc x.q) q n (omega (arith, k)) y.has)
      by (inr k) =
          let s = x.is in
          lt-leb a.0 q (omega (arith, k, s)) ∙ sym (before_too expansion f q x.q n k y.before)

  -- what the program looks at is what the definitions say
  module _ (e : Exploration) (x : Explores expansion e) (same : e.found ≡ f) (r : Rounds) (h : AreRounds expansion f r)
    where
      pub seen_all : (q g : ℕ) → q ≤ length f.goals → seen r.known.items q g ≡ round expansion f q g
      seen_all q g l =
          ap (λ o. is_by q o) (h.answers g) ∙ seen_by q (length f.goals) g l

      pub chosen_same : (g : ℕ) → chosen_in (alternatives_at e g) (answer_to r g) ≡ U.chosen expansion f g
      chosen_same g =
          ap₂ chosen_in (x.alternatives g ∙ ap (λ z. alternatives_of expansion z g) same) (h.answers g)

      pub contents_same : (g : ℕ) → round expansion f (length f.goals) g ≡ true → contents_at e r g ≡ contents
          expansion f g
      contents_same g reached =
          let n : Entered expansion f g = entered expansion f (length f.goals) g reached in
          let few = n.few in
          ap₂ (λ b o. contents_seen (seen r.known.items b) o) (ap round_before (h.answers g ∙ n.is)) (chosen_same g)
          ∙ ap (λ p. contents_seen p (U.chosen expansion f g)) (λ i m. seen_all n.q m (omega (arith, few)) i)
          ∙ go n.q (U.chosen expansion f g)
          ∙ ap (λ b. contents_in expansion f (round_before b) (U.chosen expansion f g)) (sym n.is)
        where
          go : (q : ℕ) (o : Option Numbered)
              → contents_seen (round expansion f q) o ≡ contents_in expansion f q o
          go q None = refl
          go q (Some a) = refl

  module _ (n : ℕ) (reached : round expansion f (length f.goals) n ≡ true) where
    abbrev Order : List ℕ
    Order = in_order expansion f (length f.goals)

    abbrev Count : ℕ
    Count = length f.goals

    abbrev Uses : ℕ → Bool
    Uses m = uses expansion f (length f.goals) n m

    -- the goals from place k on were looked at
    pub record Back (k : ℕ) (flags : List Bool) (list : List ℕ) : Type 0 where
      pub marks : (m : ℕ) → m < length f.goals → get_or flags m false ≡ marked expansion f n reached (drop k Order) m
      pub found : reverse list ≡ filter (uses expansion f (length f.goals) n) (drop k Order)

    pub begun : (k : ℕ) (flags : List Bool) (list : List ℕ) → length Order ≤ k → list ≡ []
        → ((m : ℕ) → m < length f.goals → get_or flags m false ≡ nat_eq n m) → Back k flags list
    begun k flags list l e h = record {
      marks = λ m low. h m low ∙ sym (or-false (nat_eq n m))
          ∙ sym (ap (λ z. marked expansion f n reached z m) (drop_all k Order l));
      found = ap reverse e ∙ sym (ap (filter (uses expansion f (length f.goals) n)) (drop_all k Order l));
    }

    drop_next : (j : ℕ) → j < length Order → drop j Order ≡ get_or Order j 0 ∷ drop (suc j) Order
    drop_next j l = drop-cons Order j 0 l

    -- the goal at place j is looked at
    pub turn : (j : ℕ) (flags next : List Bool) (list more : List ℕ) → j < length Order → Back (suc j) flags list
        → (o : ℕ) → o ≡ get_or Order j 0 → (inside : List NumberedPlaced) → inside ≡ contents expansion f o
        → ((m : ℕ) → m < length f.goals → get_or next m false
        ≡ (get_or flags m false || (get_or flags o false && some (λ p. nat_eq p.goal m) inside)))
        → more ≡ list ++ cond (get_or flags o false) (o ∷ []) []
        → Back j next more
    turn j flags next list more l h o at inside is marks found = record {
      marks = λ m low. marks m low
          ∙ ap₂ (λ a b. a || (b && some (λ p. nat_eq p.goal m) inside)) (h.marks m low) told
          ∙ ap (λ z. marked expansion f n reached (drop (suc j) Order) m
          || (uses expansion f Count n o && some (λ p. nat_eq p.goal m) z)) is
          ∙ or_apart (nat_eq n m) (some (λ h. uses expansion f Count n h
          && some (λ p. nat_eq p.goal m) (contents expansion f h)) (drop (suc j) Order))
          (uses expansion f Count n o && some (λ p. nat_eq p.goal m) (contents expansion f o))
          ∙ sym (ap (λ z. marked expansion f n reached z m) next_is);
      found = ap reverse (found ∙ ap (λ b. list ++ cond b (o ∷ []) []) told)
          ∙ go (uses expansion f Count n o)
          ∙ ap (λ z. cond (uses expansion f Count n o) (o ∷ z) z) h.found
          ∙ sym (ap (filter (uses expansion f Count n)) next_is);
    } where
      next_is : drop j Order ≡ o ∷ drop (suc j) Order
      next_is = drop_next j l ∙ ap (λ z. z ∷ drop (suc j) Order) (sym at)

      low_at : o < length f.goals
      low_at =
          added_low expansion f Count o (has_order expansion f Count o
          (subst (λ z. IsIn z Order) (sym at) (in_at Order j 0 l)))

      told : get_or flags o false ≡ uses expansion f Count n o
      told = h.marks o low_at
          ∙ subst (λ z. marked expansion f n reached (drop (suc j) Order) z ≡ uses expansion f Count n z) (sym at)
          (mark_tells expansion f n reached j l)

      go : (b : Bool) → reverse (list ++ cond b (o ∷ []) []) ≡ cond b (o ∷ reverse list) (reverse list)
      go true = reverse-append list (o ∷ [])
      go false = reverse-append list []

    pub ended : (flags : List Bool) (list : List ℕ) → Back 0 flags list → reverse list ≡ used_goals expansion f n
    ended flags list h = h.found

-- a slice that was written whole
pub written : {A : Type 0} (n : ℕ) (next items : List A) → length next ≡ length items → n ≡ length items
    → take n (next ++ drop (length next) items) ≡ next
written n next items e k =
    ap (λ z. take n (next ++ z)) (drop_all (length next) items (omega (arith, e)))
    ∙ ap (take n) (append-nil next) ∙ take_all n next (omega (arith, e, k))
