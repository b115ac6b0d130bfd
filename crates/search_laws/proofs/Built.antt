-- The document of a goal is that of the alternative of its answer, over the round before.
use Rattle.std.proofs.Common.{◌≡◌, ℕ, zero, suc, ◌+◌, ◌-◌, ◌≤◌, min, List, [], ◌∷◌, ◌++◌, map, Bool, true, false, cond, nat_lt, Option, Some, None, option_map, slice_get, refl, ap, ap₂, sym, ◌∙◌, subst, arith, zero-add, suc-add}
use Rattle.std.proofs.lemmas.List.{map-append}
use Rattle.documents.specs.Tests.{some}
use Rattle.documents.specs.Kind.{Kind}
use Rattle.documents.specs.Document.{Document}
use Rattle.goals.specs.Signed.{Signed}
use Rattle.goals.specs.Tree.{first}
use Rattle.alternatives.specs.Alternative as E
use Rattle.alternatives.specs.Alternative.{Slot, Placed, Filler, Alternative}
use Rattle.alternatives.specs.Slots.{next_slot}
use Rattle.alternatives.specs.Expansion.{Expansion}
use Rattle.expansions.specs.DocumentOf as O
use Rattle.expansions.specs.DocumentOf.{copies, filled, by_shape, document_of}
use Rattle.search.specs.Explored.{Found, number_in}
use Rattle.search.specs.Rounds.{NumberedPlaced, Numbered, with_member, with_filler, number_members, number_fillers, with_members, numbered, is_met, test_or, by_number, first_place, alternatives_at, alternatives_of, round, answer}
use Rattle.search.specs.Documents.{of_number, of_alternative, of_goal, document}
use Rattle.search.specs.Uses.{repeated, added_fillers, contents_of}
use Rattle.search_laws.proofs.Numbers.{one_met}
use Rattle.search_laws.proofs.Settled.{rise_to}
use Rattle.search_laws.proofs.Answers.{Enters, Least, answer_least}
use Rattle.std.proofs.Math.Bool.{or-false}

-- what is at a slot, with the document of its goal
abbrev pub placed_document : (ℕ → Document) → NumberedPlaced → Slot × Document
placed_document D p = (p.slot, D p.goal)

copies_same : (D : ℕ → Document) (s : Slot) (n k : ℕ)
    → copies s n (D k) ≡ map (placed_document D) (repeated s n k)
copies_same D s zero k = refl
copies_same D s (suc n) k = ap (λ l. (s, D k) ∷ l) (copies_same D (next_slot s) n k)

abbrev pub number_as : List (List Signed) → Alternative → List NumberedPlaced → Numbered
number_as gs a ns = record {
  kind = a.kind;
  branch = a.branch;
  shape = a.shape;
  members = ns;
  need = a.need;
  fillers = number_fillers gs a.fillers;
}

module _ (p : ℕ → Bool) (gs : List (List Signed)) where
  abbrev Can : List Signed → Bool
  Can g = by_number false p gs g

  module _ (D : ℕ → Document) where
    abbrev Child : List Signed → Document
    Child g = of_number D (number_in gs g)

    members_same : (ms : List Placed) (ns : List NumberedPlaced) → number_members gs ms ≡ Some ns
        → map (λ m. (m.slot, of_number D (number_in gs m.goal))) ms ≡ map (placed_document D) ns
    members_same [] ns e =
        subst (λ z. [] ≡ map (placed_document D) z) (inner [] ns (Some []) refl e) refl where
          inner : (a b : List NumberedPlaced) (o : Option (List NumberedPlaced)) → o ≡ Some a → o ≡ Some b → a ≡ b
          inner a b o x y = cc
    members_same (m ∷ ms) ns e = go (number_in gs m.goal) (number_members gs ms) refl e (members_same ms) where
      inner : (a b : List NumberedPlaced) (o : Option (List NumberedPlaced)) → o ≡ Some a → o ≡ Some b → a ≡ b
      inner a b o x y = cc

      go : (o : Option ℕ) (r : Option (List NumberedPlaced)) → number_members gs ms ≡ r
          → with_member m.slot o r ≡ Some ns
          → ((ns : List NumberedPlaced) → number_members gs ms ≡ Some ns
          → map (λ m. (m.slot, of_number D (number_in gs m.goal))) ms ≡ map (placed_document D) ns)
          → (m.slot, of_number D o) ∷ map (λ m. (m.slot, of_number D (number_in gs m.goal))) ms
          ≡ map (placed_document D) ns
      go None r q e more = cc
      go (Some n) None q e more = cc
      go (Some n) (Some rs) q e more =
          subst (λ z. (m.slot, D n) ∷ map (λ m. (m.slot, of_number D (number_in gs m.goal))) ms
          ≡ map (placed_document D) z)
          (inner (record { slot = m.slot; goal = n } ∷ rs) ns (with_member m.slot (Some n) (Some rs)) refl e)
          (ap (λ l. (m.slot, D n) ∷ l) (more rs q))

    filled_same : (n : ℕ) (fs : List Filler)
        → filled (λ g. by_number false p gs g) (λ g. of_number D (number_in gs g)) n fs
        ≡ map (placed_document D) (added_fillers p n (number_fillers gs fs))
    filled_same n [] = refl
    filled_same n (x ∷ fs) = go (number_in gs x.goal) (λ k. filled_same k fs) where
      go : (o : Option ℕ)
          → ((k : ℕ) → filled (λ g. by_number false p gs g) (λ g. of_number D (number_in gs g)) k fs
          ≡ map (placed_document D) (added_fillers p k (number_fillers gs fs)))
          → cond (test_or false p o)
          (copies x.slot (min n x.room) (of_number D o)
          ++ filled (λ g. by_number false p gs g) (λ g. of_number D (number_in gs g)) (n - x.room) fs)
          (filled (λ g. by_number false p gs g) (λ g. of_number D (number_in gs g)) n fs)
          ≡ map (placed_document D) (added_fillers p n (with_filler x.slot x.room o (number_fillers gs fs)))
      go None more = more n
      go (Some k) more = by (p k) (more n) (more (n - x.room)) where
        by : (b : Bool)
            → filled (λ g. by_number false p gs g) (λ g. of_number D (number_in gs g)) n fs
            ≡ map (placed_document D) (added_fillers p n (number_fillers gs fs))
            → filled (λ g. by_number false p gs g) (λ g. of_number D (number_in gs g)) (n - x.room) fs
            ≡ map (placed_document D) (added_fillers p (n - x.room) (number_fillers gs fs))
            → cond b
            (copies x.slot (min n x.room) (D k)
            ++ filled (λ g. by_number false p gs g) (λ g. of_number D (number_in gs g)) (n - x.room) fs)
            (filled (λ g. by_number false p gs g) (λ g. of_number D (number_in gs g)) n fs)
            ≡ map (placed_document D)
            (cond b
            (repeated x.slot (min n x.room) k ++ added_fillers p (n - x.room) (number_fillers gs fs))
            (added_fillers p n (number_fillers gs fs)))
        by true all rest =
            ap₂ (λ a b. a ++ b) (copies_same D x.slot (min n x.room) k) rest
            ∙ sym (map-append (placed_document D) (repeated x.slot (min n x.room) k)
            (added_fillers p (n - x.room) (number_fillers gs fs)))
        by false all rest = all

    -- an alternative and what is numbered of it have the same parts
    pub parts_same : (a : Alternative) (ns : List NumberedPlaced) → number_members gs a.members ≡ Some ns
        → O.parts (λ g. by_number false p gs g) (λ g. of_number D (number_in gs g)) a
        ≡ map (placed_document D) (contents_of p (number_as gs a ns))
    parts_same a ns e =
        ap₂ (λ x y. x ++ y) (members_same a.members ns e) (filled_same a.need a.fillers)
        ∙ sym (map-append (placed_document D) ns (added_fillers p a.need (number_fillers gs a.fillers)))

  -- an alternative and what is numbered of it
  pub record IsFirst (bs : List Alternative) (i : ℕ) : Type 0 where
    pub alternative : Alternative
    pub members : List NumberedPlaced
    pub is_first : first (E.is_met (λ g. by_number false p gs g)) bs ≡ Some alternative
    pub numbers : number_members gs alternative.members ≡ Some members
    pub at : slice_get (numbered gs bs) i ≡ Some (number_as gs alternative members)

  -- the first by numbers is the first by goals
  pub first_numbered : (bs : List Alternative) (i : ℕ) → first_place (is_met p) (numbered gs bs) ≡ Some i
      → IsFirst bs i
  first_numbered [] i e = cc
  first_numbered (a ∷ bs) i e = go (number_members gs a.members) refl (first_numbered bs) e where
    go : (o : Option (List NumberedPlaced)) → number_members gs a.members ≡ o
        → ((j : ℕ) → first_place (is_met p) (numbered gs bs) ≡ Some j → IsFirst bs j)
        → first_place (is_met p) (with_members gs a o ++ numbered gs bs) ≡ Some i → IsFirst (a ∷ bs) i
    go None q more e =
        let h = more i e in
        let no : E.is_met (λ g. by_number false p gs g) a ≡ false =
        sym (one_met p gs a) ∙ ap (λ o. some (is_met p) (with_members gs a o)) q in
        record {
          alternative = h.alternative;
          members = h.members;
          is_first = ap (λ b. cond b (Some a) (first (E.is_met (λ g. by_number false p gs g)) bs)) no ∙ h.is_first;
          numbers = h.numbers;
          at = ap (λ o. slice_get (with_members gs a o ++ numbered gs bs) i) q ∙ h.at;
        }
    go (Some ns) q more e = by (is_met p (number_as gs a ns)) refl more e where
      met : E.is_met (λ g. by_number false p gs g) a ≡ is_met p (number_as gs a ns)
      met = sym (one_met p gs a) ∙ ap (λ o. some (is_met p) (with_members gs a o)) q ∙ or-false (is_met p
          (number_as gs a ns))

      by : (b : Bool) → is_met p (number_as gs a ns) ≡ b
          → ((j : ℕ) → first_place (is_met p) (numbered gs bs) ≡ Some j → IsFirst bs j)
          → cond b (Some 0) (option_map suc (first_place (is_met p) (numbered gs bs))) ≡ Some i → IsFirst (a ∷ bs) i
      by true h more e = record {
        alternative = a;
        members = ns;
        is_first = ap (λ b. cond b (Some a) (first (E.is_met (λ g. by_number false p gs g)) bs)) (met ∙ h);
        numbers = q;
        at = ap (λ o. slice_get (with_members gs a o ++ numbered gs bs) i) q
            ∙ subst (λ j. slice_get (number_as gs a ns ∷ numbered gs bs) j ≡ Some (number_as gs a ns))
            (inner 0 i (Some 0) refl e) refl;
      } where
        inner : (a b : ℕ) (o : Option ℕ) → o ≡ Some a → o ≡ Some b → a ≡ b
        inner a b o x y = cc
      by false h more e = later (first_place (is_met p) (numbered gs bs)) refl e where
        later : (o : Option ℕ) → first_place (is_met p) (numbered gs bs) ≡ o → option_map suc o ≡ Some i
            → IsFirst (a ∷ bs) i
        later None x e = cc
        later (Some j) x e =
            let k = more j x in
            record {
              alternative = k.alternative;
              members = k.members;
              is_first = ap (λ b. cond b (Some a) (first (E.is_met (λ g. by_number false p gs g)) bs)) (met ∙ h) ∙
                  k.is_first;
              numbers = k.numbers;
              at = ap (λ o. slice_get (with_members gs a o ++ numbered gs bs) i) q
                  ∙ subst (λ z. slice_get (number_as gs a ns ∷ numbered gs bs) z
                  ≡ Some (number_as gs k.alternative k.members)) (inner (suc j) i (Some (suc j)) refl e) k.at;
            }
          where
            inner : (a b : ℕ) (o : Option ℕ) → o ≡ Some a → o ≡ Some b → a ≡ b
            inner a b o x y = cc

module _ (words : List Signed → Kind → ℕ → ℕ → ℕ → List ℕ) (expansion : List Signed → Expansion) (f : Found) where
  abbrev Round : ℕ → ℕ → Bool
  Round r n = round expansion f r n

  abbrev Doc : ℕ → ℕ → Document
  Doc r n = document words expansion f r n

  -- over round q
  abbrev Over : ℕ → Option (List Signed) → Document
  Over q o = of_goal words expansion f (by_number false (round expansion f q) f.goals)
      (λ g. of_number (document words expansion f q) (number_in f.goals g)) o

  -- a goal keeps its document
  document_kept : (k r n : ℕ) → Round r n ≡ true → Doc (k + r) n ≡ Doc r n
  document_kept zero r n h = ap (λ z. Doc z n) (zero-add r)
  document_kept (suc k) r n h =
      ap (λ z. Doc z n) (suc-add k r)
      ∙ ap (λ b. cond b (Doc (k + r) n) (Over (k + r) (slice_get f.goals n)))
      (rise_to expansion f r (k + r) n (omega arith) h)
      ∙ document_kept k r n h

  -- a goal's document is the same over all rounds from one that has the goal on
  pub document_stays : (q r n : ℕ) → q ≤ r → Round q n ≡ true → Doc r n ≡ Doc q n
  document_stays q r n l h = ap (λ z. Doc z n) plus ∙ document_kept (r - q) q n h where
    plus : r ≡ r - q + q
    plus = omega (arith, l)

  -- a goal's document is the one that its least round gives it
  document_over : (q n : ℕ) → Round q n ≡ false → Doc (suc q) n ≡ Over q (slice_get f.goals n)
  document_over q n e = ap (λ b. cond b (Doc q n) (Over q (slice_get f.goals n))) e

  -- what is in an alternative, with the documents of round q
  abbrev pub By : ℕ → List Signed → Numbered → Document
  By q g a = by_shape (words g a.kind a.branch) a.shape
      (map (placed_document (document words expansion f q)) (contents_of (round expansion f q) a))

  pub record IsBuilt (q n i : ℕ) (d : Document) : Type 0 where
    pub goal : List Signed
    pub alternative : Numbered
    pub at : slice_get f.goals n ≡ Some goal
    pub is : slice_get (alternatives_of expansion f n) i ≡ Some alternative
    pub same : d ≡ By q goal alternative

  over_built : (q n i : ℕ) → first_place (is_met (round expansion f q)) (alternatives_of expansion f n) ≡ Some i
      → IsBuilt q n i (Over q (slice_get f.goals n))
  over_built q n i e = go (nat_lt n f.taken) (slice_get f.goals n) refl refl e where
    go : (b : Bool) (o : Option (List Signed)) → nat_lt n f.taken ≡ b → slice_get f.goals n ≡ o
        → first_place (is_met (round expansion f q)) (cond b (alternatives_at expansion f o) []) ≡ Some i
        → IsBuilt q n i (Over q o)
    go false o t at e = cc
    go true None t at e = cc
    go true (Some g) t at e =
        let h = first_numbered (round expansion f q) f.goals (expansion g).alternatives i e in
        record {
          goal = g;
          alternative = number_as f.goals h.alternative h.members;
          at = at;
          is = ap₂ (λ b o. slice_get (cond b (alternatives_at expansion f o) []) i) t at ∙ h.at;
          same = ap (of_alternative words expansion f (by_number false (round expansion f q) f.goals)
              (λ g. of_number (document words expansion f q) (number_in f.goals g)) g) h.is_first
              ∙ ap (by_shape (words g h.alternative.kind h.alternative.branch) h.alternative.shape)
              (parts_same (round expansion f q) f.goals (document words expansion f q) h.alternative h.members
              h.numbers);
        }

  -- the alternative of an answer is the one by which the document is built
  pub answer_builds : (r q n i : ℕ) → answer expansion f r n ≡ Some (suc q, i) → IsBuilt q n i (Doc r n)
  answer_builds r q n i e =
      let l : Least expansion f r n (suc q) i = answer_least expansion f r n (suc q) i e in
      let same : l.q ≡ q = (let k = l.is in omega (arith, k)) in
      let enters : Enters expansion f n q i = subst (λ z. Enters expansion f n z i) same l.enters in
      let b = over_built q n i enters.first in
      record {
        goal = b.goal;
        alternative = b.alternative;
        at = b.at;
        is = b.is;
        same = document_stays (suc q) r n l.within enters.has ∙ document_over q n enters.before ∙ b.same;
      }
