-- What each verdict on explored goals says of them.
use Rattle.std.proofs.Common.{◌≡◌, ℕ, zero, suc, ◌<◌, ◌≤◌, ◌⊎◌, inl, inr, Bool, true, false, cond, nat_lt, List, [], ◌∷◌, length, take, Option, Some, None, is_some, slice_get, refl, ap, ap₂, true≢false, sym, ◌∙◌, arith}
use Rattle.std.proofs.lemmas.Bool.{lt-ltb, le-ltb, cases_lt}
use Rattle.documents.specs.Kind.{Kind}
use Rattle.goals.specs.Signed.{Signed}
use Rattle.alternatives.specs.Limit.{LimitKind}
use Rattle.alternatives.specs.Expansion.{Expansion}
use Rattle.search.specs.Explored.{Found}
use Rattle.search.specs.Rounds.{hole_at, hole_of, round}
use Rattle.search.specs.Uses.{satisfied, used_goals}
use Rattle.search.specs.Witness.{place_in, parts}
use Rattle.search_laws.proofs.Rise.{answer_round}
use Rattle.search_laws.proofs.Settled.{settled}
use Rattle.decisions.specs.Meaning.{IsUnmet, AreOpen, IsLeast}
use Rattle.decisions.specs.Decision.{Verdict, Document, Limit, NoDocument, by_limits, or_later, first_hole, verdict_of}
use Rattle.std.proofs.lemmas.Option.{same_Some}

-- the hole of a goal that was taken, and of the goals past those
module _ (expansion : List Signed → Expansion) (f : Found) where
  pub hole_taken : (n : ℕ) (g : List Signed) → n < f.taken → slice_get f.goals n ≡ Some g
      → hole_of expansion f n ≡ (expansion g).hole
  hole_taken n g l e =
      ap (λ b. cond b (hole_at expansion f (slice_get f.goals n)) None) (lt-ltb n f.taken l)
      ∙ ap (hole_at expansion f) e

  pub hole_past : (n : ℕ) → f.taken ≤ n → hole_of expansion f n ≡ None
  hole_past n l = ap (λ b. cond b (hole_at expansion f (slice_get f.goals n)) None) (le-ltb n f.taken l)

module _ (words : List Signed → Kind → ℕ → ℕ → ℕ → List ℕ) (expansion : List Signed → Expansion) where
  -- the first goal of a list that has a hole
  pub record IsFirst (gs : List (List Signed)) (k : LimitKind) (g : List Signed) : Type 0 where
    pub number : ℕ
    pub at : slice_get gs number ≡ Some g
    pub hole : (expansion g).hole ≡ Some k
    pub before : (m : ℕ) (h : List Signed) → m < number → slice_get gs m ≡ Some h → (expansion h).hole ≡ None

  -- none of a list has a hole
  abbrev pub HaveNone : List (List Signed) → Type 0
  HaveNone gs = (m : ℕ) (h : List Signed) → slice_get gs m ≡ Some h → (expansion h).hole ≡ None

  abbrev pub hole : LimitKind → List Signed → Option (LimitKind × List Signed)
  hole k g = Some (k, g)

  kind_in : LimitKind → Option (LimitKind × List Signed) → LimitKind
  kind_in k None = k
  kind_in k (Some h) = h.0

  goal_in : List Signed → Option (LimitKind × List Signed) → List Signed
  goal_in g None = g
  goal_in g (Some h) = h.1

  hole_parts : (k l : LimitKind) (g h : List Signed) → hole k g ≡ hole l h → (k ≡ l) × (g ≡ h)
  unfolding kind_in goal_in
  hole_parts k l g h e = (ap (λ o. kind_in k o) e, ap (λ o. goal_in g o) e)

  pub first_is : (gs : List (List Signed)) (k : LimitKind) (g : List Signed)
      → first_hole expansion gs ≡ hole k g → IsFirst gs k g
  first_is [] k g e = cc
  first_is (x ∷ gs) k g e = go (expansion x).hole refl e (first_is gs k g) where
    go : (o : Option LimitKind) → (expansion x).hole ≡ o
        → or_later x o (first_hole expansion gs) ≡ hole k g
        → (first_hole expansion gs ≡ hole k g → IsFirst gs k g) → IsFirst (x ∷ gs) k g
    go (Some l) p e more =
        let (a, b) = hole_parts l k x g e in
        record {
          number = 0;
          at = ap Some b;
          hole = ap (λ z. (expansion z).hole) (sym b) ∙ p ∙ ap Some a;
          before = λ m h l. absurd (omega (arith, l));
        }
    go None p e more =
        let r = more e in
        record { number = suc r.number; at = r.at; hole = r.hole; before = before r } where
          before : (r : IsFirst gs k g) (m : ℕ) (h : List Signed) → m < suc r.number
              → slice_get (x ∷ gs) m ≡ Some h → (expansion h).hole ≡ None
          before r zero h l f = ap (λ z. (expansion z).hole) (sym (same_Some x h f)) ∙ p
          before r (suc m) h l f = r.before m h (omega (arith, l)) f

  pub none_open : (gs : List (List Signed)) → first_hole expansion gs ≡ None → HaveNone gs
  none_open [] e m h f = cc
  none_open (x ∷ gs) e m h f = go (expansion x).hole refl e m f (none_open gs) where
    go : (o : Option LimitKind) → (expansion x).hole ≡ o
        → or_later x o (first_hole expansion gs) ≡ None → (m : ℕ) → slice_get (x ∷ gs) m ≡ Some h
        → (first_hole expansion gs ≡ None → HaveNone gs) → (expansion h).hole ≡ None
    go (Some l) p e m f more = cc
    go None p e zero f more = ap (λ z. (expansion z).hole) (sym (same_Some x h f)) ∙ p
    go None p e (suc m) f more = more e m h f

  -- the explored goals that were taken are those that have a hole or none
  taken_at : (n m : ℕ) (gs : List (List Signed)) (g : List Signed) → slice_get (take n gs) m ≡ Some g
      → (m < n) × (slice_get gs m ≡ Some g)
  taken_at zero m gs g e = cc
  taken_at (suc n) m [] g e = cc
  taken_at (suc n) zero (x ∷ gs) g e = (omega arith, e)
  taken_at (suc n) (suc m) (x ∷ gs) g e = let (l, f) = taken_at n m gs g e in (omega (arith, l), f)

  at_taken : (n m : ℕ) (gs : List (List Signed)) → m < n → slice_get (take n gs) m ≡ slice_get gs m
  at_taken zero m gs l = absurd (omega (arith, l))
  at_taken (suc n) m [] l = refl
  at_taken (suc n) zero (x ∷ gs) l = refl
  at_taken (suc n) (suc m) (x ∷ gs) l = at_taken n m gs (omega (arith, l))

  module _ (f : Found) where
    hole_none : (n : ℕ) → slice_get f.goals n ≡ None → hole_of expansion f n ≡ None
    hole_none n e = ap (λ o. cond (nat_lt n f.taken) (hole_at expansion f o) None) e ∙ same (nat_lt n f.taken) where
      same : (b : Bool) → cond b (hole_at expansion f None) None ≡ None
      same true = refl
      same false = refl

    least_is : (k : LimitKind) (g : List Signed) → IsFirst (take f.taken f.goals) k g → IsLeast expansion f k g
    least_is k g r =
        let (l, e) = taken_at f.taken r.number f.goals g r.at in
        record {
          number = r.number;
          at = e;
          hole = hole_taken expansion f r.number g l e ∙ r.hole;
          before = λ m j. before m j (slice_get f.goals m) refl;
        }
      where
        before : (m : ℕ) → m < r.number → (o : Option (List Signed)) → slice_get f.goals m ≡ o
            → hole_of expansion f m ≡ None
        before m j None e = hole_none m e
        before m j (Some h) e = by (cases_lt m f.taken) where
          by : (m < f.taken) ⊎ (f.taken ≤ m) → hole_of expansion f m ≡ None
          by (inl l) = hole_taken expansion f m h l e ∙ r.before m h j (at_taken f.taken m f.goals l ∙ e)
          by (inr l) = hole_past expansion f m l

    all_open : HaveNone (take f.taken f.goals) → (n : ℕ) → hole_of expansion f n ≡ None
    all_open h n = go (slice_get f.goals n) refl (cases_lt n f.taken) where
      go : (o : Option (List Signed)) → slice_get f.goals n ≡ o → (n < f.taken) ⊎ (f.taken ≤ n)
          → hole_of expansion f n ≡ None
      go None e c = hole_none n e
      go (Some g) e (inl l) = hole_taken expansion f n g l e ∙ h n g (at_taken f.taken n f.goals l ∙ e)
      go (Some g) e (inr l) = hole_past expansion f n l

    unmet : is_some (satisfied expansion f 0) ≡ false → (r : ℕ) → round expansion f r 0 ≡ false
    unmet e r = go (round expansion f r 0) refl where
      go : (b : Bool) → round expansion f r 0 ≡ b → b ≡ false
      go true h = sym (settled expansion f r 0 h) ∙ sym (answer_round expansion f (length f.goals) 0) ∙ e
      go false h = refl

    -- what a verdict says
    abbrev pub Says : Verdict → Type 0
    Says (Document ps i) = (is_some (satisfied expansion f 0) ≡ true) × (ps ≡ parts words expansion f 0)
        × (i ≡ place_in (used_goals expansion f 0) 0)
    Says (Limit k (Some g)) = IsUnmet expansion f × IsLeast expansion f k g
    Says (Limit k None) = IsUnmet expansion f × (f.over ≡ Some k) × AreOpen expansion f
    Says NoDocument = IsUnmet expansion f × (f.over ≡ None) × AreOpen expansion f

    pub verdict_says : Says (verdict_of words expansion f)
    verdict_says = go (is_some (satisfied expansion f 0)) refl
        (first_hole expansion (take f.taken f.goals)) f.over refl refl where
          go : (b : Bool) → is_some (satisfied expansion f 0) ≡ b
              → (h : Option (LimitKind × List Signed)) (o : Option LimitKind)
              → first_hole expansion (take f.taken f.goals) ≡ h → f.over ≡ o
              → Says (cond b (Document (parts words expansion f 0) (place_in (used_goals expansion f 0) 0))
              (by_limits h o))
          go true e h o p q = (e, refl, refl)
          go false e (Some h) o p q = (unmet e, least_is h.0 h.1 (first_is (take f.taken f.goals) h.0 h.1 p))
          go false e None (Some k) p q = (unmet e, q, all_open (none_open (take f.taken f.goals) p))
          go false e None None p q = (unmet e, q, all_open (none_open (take f.taken f.goals) p))

    -- and no two verdicts say so

    met_not : {P : Type 0} → is_some (satisfied expansion f 0) ≡ true → IsUnmet expansion f → P
    met_not e u = absurd (true≢false (sym (sym (answer_round expansion f (length f.goals) 0) ∙ e) ∙ u (length f.goals)))

    open_not : {P : Type 0} (k : LimitKind) (g : List Signed) → IsLeast expansion f k g → AreOpen expansion f → P
    open_not k g l h = absurd (some_not k (sym l.hole ∙ h l.number)) where
      some_not : (k : LimitKind) → Some k ≡ None → ⊥
      some_not k e = cc

    over_not : {P : Type 0} (k : LimitKind) → f.over ≡ Some k → f.over ≡ None → P
    over_not k p q = absurd (some_not k (sym p ∙ q)) where
      some_not : (k : LimitKind) → Some k ≡ None → ⊥
      some_not k e = cc

    least_once : (k l : LimitKind) (g h : List Signed) → IsLeast expansion f k g → IsLeast expansion f l h
        → Limit k (Some g) ≡ Limit l (Some h)
    least_once k l g h x y = elim (cases_lt x.number y.number) [
      | inl j ↦ absurd (some_not k (sym x.hole ∙ y.before x.number j))
      | inr j ↦ elim (cases_lt y.number x.number) [
        | inl i ↦ absurd (some_not l (sym y.hole ∙ x.before y.number i))
        | inr i ↦
            let n = x.number in let m = y.number in
            let s : n ≡ m = omega (arith, i, j) in
            ap₂ (λ a b. Limit a (Some b))
            (same_Some k l (sym x.hole ∙ ap (hole_of expansion f) s ∙ y.hole))
            (same_Some g h (sym x.at ∙ ap (slice_get f.goals) s ∙ y.at))
      ]
    ] where
      some_not : (k : LimitKind) → Some k ≡ None → ⊥
      some_not k e = cc

    pub says_once : (v w : Verdict) → Says v → Says w → v ≡ w
    says_once (Document ps i) (Document qs j) (a, p, q) (b, r, s) = ap₂ Document (p ∙ sym r) (q ∙ sym s)
    says_once (Document ps i) (Limit k (Some g)) (a, p, q) (u, l) = met_not a u
    says_once (Document ps i) (Limit k None) (a, p, q) (u, o, h) = met_not a u
    says_once (Document ps i) NoDocument (a, p, q) (u, o, h) = met_not a u
    says_once (Limit k (Some g)) (Document ps i) (u, l) (a, p, q) = met_not a u
    says_once (Limit k None) (Document ps i) (u, o, h) (a, p, q) = met_not a u
    says_once NoDocument (Document ps i) (u, o, h) (a, p, q) = met_not a u
    says_once (Limit k (Some g)) (Limit l (Some h)) (u, x) (v, y) = least_once k l g h x y
    says_once (Limit k (Some g)) (Limit l None) (u, x) (v, o, h) = open_not k g x h
    says_once (Limit k (Some g)) NoDocument (u, x) (v, o, h) = open_not k g x h
    says_once (Limit k None) (Limit l (Some g)) (u, o, h) (v, x) = open_not l g x h
    says_once NoDocument (Limit l (Some g)) (u, o, h) (v, x) = open_not l g x h
    says_once (Limit k None) (Limit l None) (u, o, h) (v, p, i) = ap (λ z. Limit z None) (same_Some k l (sym o ∙ p))
    says_once (Limit k None) NoDocument (u, o, h) (v, p, i) = over_not k o p
    says_once NoDocument (Limit k None) (u, o, h) (v, p, i) = over_not k p o
    says_once NoDocument NoDocument x y = refl

    -- so the verdict is the one of which it holds
    pub says_verdict : (v : Verdict) → Says v → verdict_of words expansion f ≡ v
    says_verdict v h = says_once (verdict_of words expansion f) v verdict_says h
