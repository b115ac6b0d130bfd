-- What is decided of two positions of a table: the document meets the first and not the second one; where there is no
-- document, each document of which the first holds has the second holding; and limits are named as they are met.
use Rattle.std.proofs.Common.{◌≡◌, ℕ, ◌<◌, ◌⊎◌, Bool, true, false, not, ◌&&◌, true≢false, nat_lt, List, [], ◌∷◌, length, Option, Some, None, Ok, is_some, refl, ap, sym, ◌∙◌, subst, arith}
use Rattle.std.proofs.lemmas.Bool.{and_parts, and_from, lt-ltb, not-true}
use Rattle.std.proofs.lemmas.List.{length-map}
use Rattle.documents.specs.Kind as K
use Rattle.documents.specs.Kind.{Kind}
use Rattle.documents.specs.Document.{is_document}
use Rattle.documents.specs.Document as D
use Rattle.shared_documents.specs.Part.{Part}
use Rattle.shared_documents.specs.Unshared.{unshared}
use Rattle.positions.specs.Position.{Position}
use Rattle.positions.specs.Holds.{holds, IsTable}
use Rattle.goals.specs.Signed.{Signed, Plus, Minus, meets}
use Rattle.goal_laws.specs.Formed.{meets_goal}
use Rattle.goal_laws.specs.Saturated.{IsSaturated}
use Rattle.goal_laws.proofs.Forms.{meets-root}
use Rattle.cells.specs.Cells.{Cells}
use Rattle.list_laws.proofs.Lists.{every_from}
use Rattle.alternatives.specs.Alternative.{Number, Text, named}
use Rattle.alternatives.specs.Limit.{LimitKind, Goals, Total}
use Rattle.alternatives.specs.Expansion.{Expansion}
use Rattle.expansions.specs.Leaves.{Finders, leaf, words_of}
use Rattle.expansions.specs.Expansion.{expansion}
use Rattle.expansions.specs.DocumentOf.{by_branch}
use Rattle.expansion_laws.proofs.Leaf.{IsFinder}
use Rattle.expansion_laws.proofs.Containers.{IsCells}
use Rattle.search.specs.Explored.{Found, explored}
use Rattle.search.specs.Rounds.{round}
use Rattle.search.specs.Uses.{satisfied, used_goals}
use Rattle.search.specs.Witness.{place_in, part, parts}
use Rattle.search_laws.proofs.Rise.{answer_round}
use Rattle.search_laws.proofs.Whole.{root_first}
use Rattle.search_laws.proofs.Decided.{met_settled}
use Rattle.search_laws.proofs.Parts.{place_last}
use Rattle.search_laws.proofs.Witness.{IsWitness, witness_made}
use Rattle.decisions.specs.Decision.{Verdict, Document, Limit, NoDocument, Decided, of_root, root_of}
use Rattle.decisions.specs.Meaning.{IsCounterexample, IsIncluded, IsUnmet, AreOpen, IsLeast, OfRoot, Means}
use Rattle.expander_laws.specs.Expander.{is_goal}
use Rattle.expander_laws.proofs.Inside.{goals_named, formed_goal}
use Rattle.decision_laws.proofs.Verdicts.{Says, verdict_says, says_verdict}
use Rattle.decision_laws.proofs.Full.{IsKept, explored_kept}
use Rattle.decision_laws.proofs.Few.{many, few_goals}
use Rattle.std.proofs.lemmas.Option.{same_Some}
use Rattle.list_laws.proofs.Booleans.{and_not-implies}

pub no_document : (ps : List Part) (i : ℕ) → Document ps i ≡ NoDocument → ⊥
no_document ps i e = cc

module _ (F : Finders) (T : List Position) (most most_places a b : ℕ) where
  abbrev pub Decision : Decided
  Decision = of_root (by_branch T (words_of F)) (expansion T (leaf F T)) most most_places (root_of T a b)

  -- what a verdict says of a root, and of the goals that are explored from it
  abbrev pub RootSays : Option (List Signed) → Verdict → Type 0
  RootSays None v = v ≡ NoDocument
  RootSays (Some root) v = Says (by_branch T (words_of F)) (expansion T (leaf F T))
      (explored most most_places (expansion T (leaf F T)) root) v

  pub root_says : (o : Option (List Signed))
      → RootSays o (of_root (by_branch T (words_of F)) (expansion T (leaf F T)) most most_places o).verdict
  root_says None = refl
  root_says (Some root) = verdict_says (by_branch T (words_of F)) (expansion T (leaf F T))
      (explored most most_places (expansion T (leaf F T)) root)

  no_limit : (k : LimitKind) (o : Option (List Signed)) → Limit k o ≡ NoDocument → ⊥
  no_limit k o e = cc

  -- a goal is named where the root is in no round, and the goal is the explored one of least number that has a hole
  pub limit_of_goal : (k : LimitKind) (g : List Signed) → Decision.verdict ≡ Limit k (Some g)
      → OfRoot F T most most_places a b (λ e f. IsUnmet e f × IsLeast e f k g)
  limit_of_goal k g e = go (root_of T a b) refl (subst (λ v. RootSays (root_of T a b) v) e (root_says (root_of T a b)))
    where
      go : (o : Option (List Signed)) → root_of T a b ≡ o → RootSays o (Limit k (Some g))
          → OfRoot F T most most_places a b (λ e f. IsUnmet e f × IsLeast e f k g)
      go None p s = absurd (no_limit k (Some g) s)
      go (Some root) p s = record { root = root; is_root = p; holds = s }

  limits : (root : List Signed) (k : LimitKind)
      → (explored most most_places (expansion T (leaf F T)) root).over ≡ Some k → (k ≡ Goals) ⊎ (k ≡ Total)
  limits root k e =
      let h : IsKept most most_places (expansion T (leaf F T)) (λ g. true)
      (λ g. every_from (λ g. true) (named (expansion T (leaf F T) g).alternatives) (λ x i. refl))
      (explored most most_places (expansion T (leaf F T)) root) =
      explored_kept most most_places (expansion T (leaf F T)) (λ g. true)
      (λ g. every_from (λ g. true) (named (expansion T (leaf F T) g).alternatives) (λ x i. refl)) root refl in
      h.limits k e

  -- no goal is named where no explored goal has a hole, and the limit on all of them was passed
  pub limit_of_all : (k : LimitKind) → Decision.verdict ≡ Limit k None
      → OfRoot F T most most_places a b
      (λ e f. IsUnmet e f × (f.over ≡ Some k) × AreOpen e f × ((k ≡ Goals) ⊎ (k ≡ Total)))
  limit_of_all k e = go (root_of T a b) refl (subst (λ v. RootSays (root_of T a b) v) e (root_says (root_of T a b)))
    where
      go : (o : Option (List Signed)) → root_of T a b ≡ o → RootSays o (Limit k None)
          → OfRoot F T most most_places a b
          (λ e f. IsUnmet e f × (f.over ≡ Some k) × AreOpen e f × ((k ≡ Goals) ⊎ (k ≡ Total)))
      go None p s = absurd (no_limit k None s)
      go (Some root) p (u, o, h) =
          record { root = root; is_root = p; holds = (u, o, h, limits root k o) }

  -- and what a verdict says of the root decides it
  pub verdict_where : (v : Verdict) → RootSays (root_of T a b) v → Decision.verdict ≡ v
  verdict_where v s = go (root_of T a b) s where
    go : (o : Option (List Signed)) → RootSays o v
        → (of_root (by_branch T (words_of F)) (expansion T (leaf F T)) most most_places o).verdict ≡ v
    go None s = sym s
    go (Some root) s = says_verdict (by_branch T (words_of F)) (expansion T (leaf F T))
        (explored most most_places (expansion T (leaf F T)) root) v s

  module _ (ok : IsTable T)
      (numbers : IsFinder T K.Number (words_of F K.Number) Number F.numbers)
      (strings : IsFinder T K.Text (words_of F K.Text) (λ w. Text) F.strings)
      (cells : (S : List Signed) → IsSaturated T K.Object S → (C : Cells) → F.cells S ≡ Ok C → IsCells T ok S C)
    where
      root_met : (root : List Signed) → root_of T a b ≡ Some root → (J : D.Document)
          → meets T root J ≡ (holds T a J && not (holds T b J))
      root_met root p J = sym (ap (λ o. meets_goal T o J) p) ∙ meets-root T ok J a b

      module _ (root : List Signed) (is_root : root_of T a b ≡ Some root) where
        abbrev E : List Signed → Expansion
        E = expansion T (leaf F T)

        abbrev f : Found
        f = explored most most_places (expansion T (leaf F T)) root

        abbrev Ps : List Part
        Ps = parts (by_branch T (words_of F)) E f 0

        abbrev own : ℕ
        own = place_in (used_goals E f 0) 0

        -- where some round has the root, its parts stand for a document that meets it
        parts_right : (s : Option (ℕ × ℕ)) → satisfied E f 0 ≡ s → is_some s ≡ true → IsCounterexample T a b Ps own
        parts_right None q h = cc
        parts_right (Some x) q h =
            let w : IsWitness F T ok numbers strings cells f 0 x.0 (unshared Ps own) =
            witness_made F T ok numbers strings cells f 0 x.0 x.1 q in
            let same : w.goal ≡ root = same_Some w.goal root (sym w.at ∙ root_first most most_places E root) in
            let (good, deep, m) = w.made in
            let met = subst (λ g. meets T g (unshared Ps own) ≡ true) same m in
            let (first, second) = and_parts _ _ (sym (root_met root is_root (unshared Ps own)) ∙ met) in
            let reached : round E f (length f.goals) 0 ≡ true =
            sym (answer_round E f (length f.goals) 0) ∙ ap is_some q in
            let many = length-map (used_goals E f 0) (part (by_branch T (words_of F)) E f (place_in (used_goals E f 0)))
            in
            record {
              good = good;
              first = first;
              second = not-true _ second;
              last = place_last (by_branch T (words_of F)) E f 0 reached ∙ sym many;
            }

      -- a document that is reported is one, and shows that the first position isn't included in the second one
      pub document_right : (ps : List Part) (i : ℕ) → Decision.verdict ≡ Document ps i → IsCounterexample T a b ps i
      document_right ps i e =
          go (root_of T a b) refl (subst (λ v. RootSays (root_of T a b) v) e (root_says (root_of T a b))) where
            go : (o : Option (List Signed)) → root_of T a b ≡ o → RootSays o (Document ps i)
                → IsCounterexample T a b ps i
            go None p s = absurd (no_document ps i s)
            go (Some root) p (has, is, at) =
                subst (λ n. IsCounterexample T a b ps n) (sym at)
                (subst (λ z. IsCounterexample T a b z (own root p)) (sym is)
                (parts_right root p (satisfied (E root p) (f root p) 0) refl has))

      -- where there is none, the first position is included in the second one
      pub none_right : 0 < most → Decision.verdict ≡ NoDocument → IsIncluded T a b
      none_right l e J good first =
          go (root_of T a b) refl (subst (λ v. RootSays (root_of T a b) v) e (root_says (root_of T a b))) where
            go : (o : Option (List Signed)) → root_of T a b ≡ o → RootSays o NoDocument → holds T b J ≡ true
            go None p s = and_not-implies (holds T a J) (holds T b J)
                (sym (meets-root T ok J a b) ∙ ap (λ o. meets_goal T o J) p) first
            go (Some root) p (unmet, over, open_) =
                and_not-implies (holds T a J) (holds T b J)
                (sym (root_met root p J) ∙ none (meets T root J) refl) first where
                  none : (m : Bool) → meets T root J ≡ m → m ≡ false
                  none false h = refl
                  none true h =
                      let r = met_settled F T ok numbers strings cells most most_places root l over open_ J good h in
                      absurd (true≢false (sym r ∙ unmet _))

      pub means : 0 < most → Means F T most most_places a b Decision.verdict
      means l = go Decision.verdict refl where
        go : (v : Verdict) → Decision.verdict ≡ v → Means F T most most_places a b v
        go (Document ps i) e = document_right ps i e
        go NoDocument e = none_right l e
        go (Limit k (Some g)) e = limit_of_goal k g e
        go (Limit k None) e = limit_of_all k e

  -- the root is a goal of the table
  pub root_goal : (ok : IsTable T) → a < length T → b < length T → (root : List Signed) → root_of T a b ≡ Some root
      → is_goal T root ≡ true
  root_goal ok a_in b_in root e =
      formed_goal T ok (Plus a ∷ Minus b ∷ []) root e
      (and_from (nat_lt a (length T)) (nat_lt b (length T) && true) (lt-ltb a (length T) a_in)
      (and_from (nat_lt b (length T)) true (lt-ltb b (length T) b_in) refl))

  -- a table with few positions has too few goals to pass the limit on them
  pub never_goals : (ok : IsTable T) → a < length T → b < length T → many (length T) < most
      → Decision.verdict ≡ Limit Goals None → ⊥
  never_goals ok a_in b_in l e =
      let h = limit_of_all Goals e in
      let (u, over, open_, kind) = h.holds in
      let good = root_goal ok a_in b_in h.root h.is_root in
      let k : IsKept most most_places (expansion T (leaf F T)) (is_goal T) (goals_named T ok F)
      (explored most most_places (expansion T (leaf F T)) h.root) =
      explored_kept most most_places (expansion T (leaf F T)) (is_goal T) (goals_named T ok F) h.root good in
      let few = few_goals T (explored most most_places (expansion T (leaf F T)) h.root).goals k.differ k.are_good in
      omega (arith, k.full over, few, l)
