-- Rounds are complete, where no limit was passed and no goal has a hole, and sound.
use Rattle.std.proofs.Common.{◌≡◌, ℕ, zero, suc, ◌≤◌, inl, inr, Bool, true, false, ◌||◌, cond, nat_lt, List, [], ◌∷◌, Option, Some, None, is_some, slice_get, refl, ap, sym, ◌∙◌, subst, arith}
use Rattle.std.proofs.lemmas.Bool.{lt-ltb}
use Rattle.std.proofs.lemmas.Option.{slice_get_within, same_Some}
use Rattle.documents.specs.Tests.{some}
use Rattle.documents.specs.Kind.{Kind}
use Rattle.documents.specs.Document.{Document, depth, is_document}
use Rattle.positions.specs.Position.{Position}
use Rattle.positions.specs.Holds.{IsTable}
use Rattle.goals.specs.Signed.{Signed, meets}
use Rattle.list_laws.specs.In.{IsIn}
use Rattle.list_laws.proofs.Lists.{every_at, in_flat_map}
use Rattle.list_laws.proofs.Tests.{some_from}
use Rattle.alternatives.specs.Alternative as E
use Rattle.alternatives.specs.Alternative.{Alternative, named_by, named}
use Rattle.alternatives.specs.Expansion.{Expansion}
use Rattle.expansions.specs.Expansion.{expansion}
use Rattle.expansion_laws.proofs.Leaf.{Answer, AllPass, AreChildren, IsMade, IsLeaf}
use Rattle.expansion_laws.proofs.Goals.{expansion_follows, expansion_made}
use Rattle.search.specs.Explored.{Found, number_in, is_listed}
use Rattle.search.specs.Rounds.{numbered, is_met, alternatives_at, alternatives_of, test_or, by_number, round}
use Rattle.search.specs.Documents.{of_number, of_alternative, of_goal, document}
use Rattle.goals.specs.Tree.{first}
use Rattle.search_laws.proofs.First.{first_met}
use Rattle.search_laws.proofs.Numbers.{number_at, numbered_met, met_agree}
use Rattle.search_laws.proofs.Whole.{Whole}
use Rattle.expansions.specs.DocumentOf.{by_branch}

module _ (T : List Position) (ok : IsTable T) (words : Kind → List Signed → ℕ → ℕ → List ℕ)
    (leaves : Kind → ℕ → List Signed → Answer) (right : (t : Kind) → IsLeaf T t (words t) (leaves t)) (f : Found) where
  abbrev Expand : List Signed → Expansion
  Expand g = expansion T leaves g

  abbrev Round : ℕ → ℕ → Bool
  Round r n = round (expansion T leaves) f r n

  -- complete

  module _ (most most_total : ℕ) (all_in : Whole most most_total (expansion T leaves) f)
      (open_ : (n : ℕ) (g : List Signed) → slice_get f.goals n ≡ Some g → (expansion T leaves g).hole ≡ None) where
    -- what is not numbered passes too
    abbrev Can : ℕ → List Signed → Bool
    Can d g = by_number true (λ n. Round d n) f.goals g

    abbrev Claim : ℕ → Type 0
    Claim d = (n : ℕ) (g : List Signed) → slice_get f.goals n ≡ Some g → (J : Document) → is_document J ≡ true
        → depth J ≤ d → meets T g J ≡ true → Round (suc d) n ≡ true

    agree : (d n : ℕ) (g : List Signed) → slice_get f.goals n ≡ Some g → (a : Alternative)
        → IsIn a (expansion T leaves g).alternatives
        → (h : List Signed) → IsIn h (named_by a)
        → by_number true (λ n. Round d n) f.goals h ≡ by_number false (λ n. Round d n) f.goals h
    agree d n g at a i h j =
        go (number_in f.goals h)
        (every_at (is_listed f.goals) h (named (expansion T leaves g).alternatives) (all_in.closed n g at)
        (in_flat_map named_by h a (expansion T leaves g).alternatives i j)) where
          go : (o : Option ℕ) → is_some o ≡ true → test_or true (λ n. Round d n) o ≡ test_or false (λ n. Round d n) o
          go None e = cc
          go (Some m) e = refl

    taken_at : (n : ℕ) (g : List Signed) → slice_get f.goals n ≡ Some g
        → alternatives_of (expansion T leaves) f n ≡ numbered f.goals (expansion T leaves g).alternatives
    taken_at n g at =
        let l : nat_lt n f.taken ≡ true =
        (let a = all_in.all in lt-ltb n f.taken (omega (arith, a, slice_get_within f.goals n g at))) in
        ap (λ b. cond b (alternatives_at (expansion T leaves) f (slice_get f.goals n)) []) l
        ∙ ap (alternatives_at (expansion T leaves) f) at

    one : (d : ℕ) → AllPass T d (λ g. by_number true (λ n. Round d n) f.goals g) → Claim d
    one d pass n g at J good deep m =
        let (a, i, u) =
        expansion_follows T ok words leaves right g (open_ n g at) d
        (λ g. by_number true (λ n. Round d n) f.goals g) pass J good deep m in
        let v : E.is_met (λ g. by_number false (λ n. Round d n) f.goals g) a ≡ true =
        sym (met_agree (λ g. by_number true (λ n. Round d n) f.goals g)
        (λ g. by_number false (λ n. Round d n) f.goals g) a (agree d n g at a i)) ∙ u in
        ap (some (is_met (λ n. Round d n))) (taken_at n g at)
        ∙ numbered_met (λ n. Round d n) f.goals (expansion T leaves g).alternatives
        ∙ some_from (E.is_met (λ g. by_number false (λ n. Round d n) f.goals g)) a (expansion T leaves g).alternatives
        i v

    next : (d : ℕ) → Claim d → AllPass T (suc d) (λ g. by_number true (λ n. Round (suc d) n) f.goals g)
    next d claim g J good deep m = go (number_in f.goals g) refl where
      go : (o : Option ℕ) → number_in f.goals g ≡ o → test_or true (λ n. Round (suc d) n) o ≡ true
      go None e = refl
      go (Some n) e = claim n g (number_at f.goals g n e) J good (omega (arith, deep)) m

    -- a document of depth at most d that meets an explored goal puts it into round d + 1
    pub rounds_complete : (d n : ℕ) (g : List Signed) → slice_get f.goals n ≡ Some g
        → (J : Document) → is_document J ≡ true → depth J ≤ d → meets T g J ≡ true → Round (suc d) n ≡ true
    rounds_complete zero = one zero (λ g J good deep m. absurd (omega (arith, deep)))
    rounds_complete (suc d) = one (suc d) (next d (rounds_complete d))

  -- sound

  abbrev Doc : ℕ → ℕ → Document
  Doc r n = document (by_branch T words) (expansion T leaves) f r n

  abbrev Has : ℕ → ℕ → Document → Type 0
  Has r n J = (g : List Signed) × (slice_get f.goals n ≡ Some g) × IsMade T r g J

  module _ (r : ℕ) (before : (n : ℕ) → Round r n ≡ true → Has r n (Doc r n)) where
    abbrev Can' : List Signed → Bool
    Can' g = by_number false (round (expansion T leaves) f r) f.goals g

    abbrev Child : List Signed → Document
    Child g = of_number (document (by_branch T words) (expansion T leaves) f r) (number_in f.goals g)

    children : AreChildren T r Can' Child
    children g h = go (number_in f.goals g) refl h where
      go : (o : Option ℕ) → number_in f.goals g ≡ o → test_or false (round (expansion T leaves) f r) o ≡ true
          → IsMade T r g (of_number (document (by_branch T words) (expansion T leaves) f r) o)
      go None e h = cc
      go (Some n) e h =
          let (k, at, made) = before n h in
          subst (λ z. IsMade T r z (document (by_branch T words) (expansion T leaves) f r n))
          (same_Some k g (sym at ∙ number_at f.goals g n e)) made

    -- by the first alternative that the round before meets
    new : (n : ℕ) → some (is_met (round (expansion T leaves) f r)) (alternatives_of (expansion T leaves) f n) ≡ true
        → Has (suc r) n (of_goal (by_branch T words) (expansion T leaves) f Can' Child (slice_get f.goals n))
    new n h = go (nat_lt n f.taken) (slice_get f.goals n) refl h where
      go : (b : Bool) (o : Option (List Signed)) → slice_get f.goals n ≡ o
          → some (is_met (round (expansion T leaves) f r))
          (cond b (alternatives_at (expansion T leaves) f o) []) ≡ true
          → Has (suc r) n (of_goal (by_branch T words) (expansion T leaves) f Can' Child o)
      go false o at h = cc
      go true None at h = cc
      go true (Some g) at h =
          let (a, p, i, u) = first_met (E.is_met Can') (expansion T leaves g).alternatives
          (sym (numbered_met (round (expansion T leaves) f r) f.goals (expansion T leaves g).alternatives) ∙ h) in (
            g,
            at,
            subst (λ o. IsMade T (suc r) g (of_alternative (by_branch T words) (expansion T leaves) f Can' Child g o))
                (sym p)
                (expansion_made T ok words leaves right g r Can' Child children a i u),
          )

    next_round : (n : ℕ) → Round (suc r) n ≡ true → Has (suc r) n (Doc (suc r) n)
    next_round n h = go (round (expansion T leaves) f r n) refl where
      go : (b : Bool) → round (expansion T leaves) f r n ≡ b
          → Has (suc r) n
          (cond b (document (by_branch T words) (expansion T leaves) f r n)
          (of_goal (by_branch T words) (expansion T leaves) f Can' Child (slice_get f.goals n)))
      go true e = let (g, at, (good, deep, m)) = before n e in (g, at, (good, omega (arith, deep), m))
      go false e = new n h

  -- a goal of round r is met by its document, of depth at most r
  pub rounds_sound : (r n : ℕ) → Round r n ≡ true → Has r n (Doc r n)
  rounds_sound zero n h = cc
  rounds_sound (suc r) n h = next_round r (rounds_sound r) n h
