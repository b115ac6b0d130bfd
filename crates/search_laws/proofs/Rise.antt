-- Rounds rise; after one that adds no goal none adds one; and answers determine rounds.
use Rattle.std.proofs.Common.{◌≡◌, ℕ, zero, suc, ◌+◌, ◌≤◌, inl, inr, Bool, true, false, ◌&&◌, ◌||◌, cond, nat_le, List, [], ◌∷◌, Option, Some, None, option_map, is_some, refl, ap, ap₂, sym, ◌∙◌, arith, zero-add, suc-add}
use Rattle.std.proofs.lemmas.Bool.{and_parts, and_from, leb-true, le-leb, or_cases, or_left, or_right}
use Rattle.documents.specs.Tests.{every, some}
use Rattle.goals.specs.Signed.{Signed}
use Rattle.alternatives.specs.Expansion.{Expansion}
use Rattle.search.specs.Explored.{Found}
use Rattle.search.specs.Rounds.{NumberedPlaced, NumberedFiller, Numbered, rooms, is_met, first_place, told, alternatives_of, round, answer}
use Rattle.list_laws.proofs.Options.{is_some-suc}

-- a weaker test
module _ (p q : ℕ → Bool) (weaker : (n : ℕ) → p n ≡ true → q n ≡ true) where
  every_rises : (ms : List NumberedPlaced) → every (λ m. p m.goal) ms ≡ true → every (λ m. q m.goal) ms ≡ true
  every_rises [] e = refl
  every_rises (m ∷ ms) e =
      let (a, b) = and_parts (p m.goal) (every (λ m. p m.goal) ms) e in
      and_from (q m.goal) (every (λ m. q m.goal) ms) (weaker m.goal a) (every_rises ms b)

  rooms_rise : (fs : List NumberedFiller) → rooms p fs ≤ rooms q fs
  rooms_rise [] = omega arith
  rooms_rise (f ∷ fs) = go (p f.goal) (q f.goal) refl refl (rooms_rise fs) where
    go : (a b : Bool) → p f.goal ≡ a → q f.goal ≡ b → rooms p fs ≤ rooms q fs
        → cond a (f.room + rooms p fs) (rooms p fs) ≤ cond b (f.room + rooms q fs) (rooms q fs)
    go true true e h l = omega (arith, l)
    go true false e h l = let k = weaker f.goal e in cc
    go false true e h l = omega (arith, l)
    go false false e h l = l

  met_rises : (a : Numbered) → is_met p a ≡ true → is_met q a ≡ true
  met_rises a e =
      let (x, y) = and_parts (every (λ m. p m.goal) a.members) (nat_le a.need (rooms p a.fillers)) e in
      let h = leb-true a.need (rooms p a.fillers) y in
      and_from (every (λ m. q m.goal) a.members) (nat_le a.need (rooms q a.fillers)) (every_rises a.members x)
      (le-leb a.need (rooms q a.fillers) (omega (arith, h, rooms_rise a.fillers)))

  some_rises : (bs : List Numbered) → some (is_met p) bs ≡ true → some (is_met q) bs ≡ true
  some_rises [] e = cc
  some_rises (b ∷ bs) e = elim (or_cases (is_met p b) (some (is_met p) bs) e) [
    | inl h ↦ or_left (is_met q b) (some (is_met q) bs) (met_rises b h)
    | inr h ↦ or_right (is_met q b) (some (is_met q) bs) (some_rises bs h)
  ]

-- tests that agree
module _ (p q : ℕ → Bool) (same : (n : ℕ) → p n ≡ q n) where
  every_same : (ms : List NumberedPlaced) → every (λ m. p m.goal) ms ≡ every (λ m. q m.goal) ms
  every_same [] = refl
  every_same (m ∷ ms) = ap₂ (λ x y. x && y) (same m.goal) (every_same ms)

  rooms_same : (fs : List NumberedFiller) → rooms p fs ≡ rooms q fs
  rooms_same [] = refl
  rooms_same (f ∷ fs) = ap₂ (λ b r. cond b (f.room + r) r) (same f.goal) (rooms_same fs)

  met_same : (a : Numbered) → is_met p a ≡ is_met q a
  met_same a = ap₂ (λ b r. b && nat_le a.need r) (every_same a.members) (rooms_same a.fillers)

  some_same : (bs : List Numbered) → some (is_met p) bs ≡ some (is_met q) bs
  some_same [] = refl
  some_same (b ∷ bs) = ap₂ (λ x y. x || y) (met_same b) (some_same bs)

place_some : (p : Numbered → Bool) (bs : List Numbered) → is_some (first_place p bs) ≡ some p bs
place_some p [] = refl
place_some p (b ∷ bs) = go (p b) (place_some p bs) where
  go : (t : Bool) → is_some (first_place p bs) ≡ some p bs
      → is_some (cond t (Some 0) (option_map suc (first_place p bs))) ≡ (t || some p bs)
  go true e = refl
  go false e = is_some-suc (first_place p bs) ∙ e

module _ (expansion : List Signed → Expansion) (f : Found) where
  abbrev Round : ℕ → ℕ → Bool
  Round r n = round expansion f r n

  pub rises : (r n : ℕ) → Round r n ≡ true → Round (suc r) n ≡ true
  rises zero n e = cc
  rises (suc r) n e =
      some_rises (round expansion f r) (round expansion f (suc r)) (rises r) (alternatives_of expansion f n) e

  -- after a round that adds no goal none adds one
  pub still : (r : ℕ) → ((n : ℕ) → Round (suc r) n ≡ Round r n) → (k n : ℕ) → Round (k + r) n ≡ Round r n
  still r h zero n = ap (λ z. round expansion f z n) (zero-add r)
  still r h (suc k) n =
      ap (λ z. round expansion f z n) (suc-add k r)
      ∙ some_same (round expansion f (k + r)) (round expansion f r) (still r h k) (alternatives_of expansion f n)
      ∙ h n

  -- a goal has an answer exactly where it is in the round
  pub answer_round : (r n : ℕ) → is_some (answer expansion f r n) ≡ Round r n
  answer_round zero n = refl
  answer_round (suc r) n =
      go (answer expansion f r n) (answer_round r n)
      (place_some (is_met (λ m. is_some (answer expansion f r m))) (alternatives_of expansion f n)
      ∙ some_same (λ m. is_some (answer expansion f r m)) (round expansion f r) (answer_round r)
      (alternatives_of expansion f n)) where
        go : (o : Option (ℕ × ℕ)) → is_some o ≡ Round r n
            → is_some (first_place (is_met (λ m. is_some (answer expansion f r m))) (alternatives_of expansion f n)) ≡
            Round (suc r) n
            → is_some (told r o
            (first_place (is_met (λ m. is_some (answer expansion f r m))) (alternatives_of expansion f n))) ≡
            Round (suc r) n
        go (Some a) e h = sym (rises r n (sym e))
        go None e h = new
            (first_place (is_met (λ m. is_some (answer expansion f r m))) (alternatives_of expansion f n)) h where
              new : (o : Option ℕ) → is_some o ≡ Round (suc r) n → is_some (told r None o) ≡ Round (suc r) n
              new None h = h
              new (Some i) h = h
