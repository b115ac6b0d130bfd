-- The document of a goal meets it, and is no deeper than its round, where each alternative is sound.
use Rattle.std.proofs.Common.{◌≡◌, ℕ, zero, suc, inl, inr, Bool, true, false, ◌||◌, cond, nat_lt, List, [], ◌∷◌, length, Option, Some, None, is_some, slice_get, refl, ap, sym, ◌∙◌, subst, arith}
use Rattle.std.proofs.lemmas.Option.{same_Some}
use Rattle.documents.specs.Tests.{some}
use Rattle.documents.specs.Kind.{Kind}
use Rattle.documents.specs.Document.{Document}
use Rattle.positions.specs.Position.{Position}
use Rattle.goals.specs.Signed.{Signed}
use Rattle.goals.specs.Tree.{first}
use Rattle.list_laws.proofs.Lists.{slice_get-in}
use Rattle.alternatives.specs.Alternative as E
use Rattle.alternatives.specs.Alternative.{Alternative}
use Rattle.alternatives.specs.Expansion.{Expansion}
use Rattle.search.specs.Explored.{Found, number_in}
use Rattle.search.specs.Rounds.{is_met, alternatives_at, alternatives_of, test_or, by_number, round}
use Rattle.search.specs.Documents.{of_number, of_alternative, of_goal, document}
use Rattle.search.specs.Uses.{satisfied}
use Rattle.search_laws.proofs.First.{first_met}
use Rattle.search_laws.proofs.Numbers.{number_at, numbered_met}
use Rattle.search_laws.proofs.Answers.{Least, answer_least}
use Rattle.search_laws.proofs.Built.{document_stays}
use Rattle.expander_laws.specs.Sound.{Meets, AreSound}
use Rattle.js_rounds.specs.Meets.{IsMet}

module _ (T : List Position) (words : List Signed → Kind → ℕ → ℕ → ℕ → List ℕ) (X : List Signed → Expansion)
    (f : Found) (sound : AreSound T words X f.goals) where
  abbrev Doc : ℕ → ℕ → Document
  Doc r n = document words X f r n

  -- goal n, with such a document
  abbrev Has : ℕ → ℕ → Document → Type 0
  Has r n J = (g : List Signed) × (slice_get f.goals n ≡ Some g) × Meets T r g J

  module _ (r : ℕ) (before : (n : ℕ) → round X f r n ≡ true → Has r n (Doc r n)) where
    abbrev Can : List Signed → Bool
    Can g = by_number false (round X f r) f.goals g

    abbrev Child : List Signed → Document
    Child g = of_number (document words X f r) (number_in f.goals g)

    children : (g : List Signed) → Can g ≡ true → Meets T r g (Child g)
    children g h = go (number_in f.goals g) refl h where
      go : (o : Option ℕ) → number_in f.goals g ≡ o → test_or false (round X f r) o ≡ true
          → Meets T r g (of_number (document words X f r) o)
      go None e h = cc
      go (Some n) e h =
          let (k, at, met) = before n h in
          subst (λ z. Meets T r z (document words X f r n)) (same_Some k g (sym at ∙ number_at f.goals g n e)) met

    -- by the first alternative that the round before meets
    new : (n : ℕ) → some (is_met (round X f r)) (alternatives_of X f n) ≡ true
        → Has (suc r) n (of_goal words X f Can Child (slice_get f.goals n))
    new n h = go (nat_lt n f.taken) (slice_get f.goals n) refl h where
      go : (b : Bool) (o : Option (List Signed)) → slice_get f.goals n ≡ o
          → some (is_met (round X f r)) (cond b (alternatives_at X f o) []) ≡ true
          → Has (suc r) n (of_goal words X f Can Child o)
      go false o at h = cc
      go true None at h = cc
      go true (Some g) at h =
          let (a, p, i, u) = first_met (E.is_met Can) (X g).alternatives
          (sym (numbered_met (round X f r) f.goals (X g).alternatives) ∙ h) in (
            g,
            at,
            subst (λ o. Meets T (suc r) g (of_alternative words X f Can Child g o)) (sym p)
                (sound g (slice_get-in g f.goals n at) a i r Can Child children u),
          )

    next_round : (n : ℕ) → round X f (suc r) n ≡ true → Has (suc r) n (Doc (suc r) n)
    next_round n h = go (round X f r n) refl where
      go : (b : Bool) → round X f r n ≡ b
          → Has (suc r) n (cond b (document words X f r n) (of_goal words X f Can Child (slice_get f.goals n)))
      go true e =
          let (g, at, met) = before n e in
          (g, at, record { document = met.document; shallow = omega (arith, met.shallow); meets = met.meets })
      go false e = new n h

  -- in each round that has the goal
  round_met : (r n : ℕ) → round X f r n ≡ true → Has r n (Doc r n)
  round_met zero n h = cc
  round_met (suc r) n h = next_round r (round_met r) n h

  -- what the parts of a goal stand for meets it
  pub goal_met : (n : ℕ) → is_some (satisfied X f n) ≡ true → IsMet T X f n (document words X f (length f.goals) n)
  goal_met n has = go (satisfied X f n) refl has where
    go : (o : Option (ℕ × ℕ)) → satisfied X f n ≡ o → is_some o ≡ true
        → IsMet T X f n (document words X f (length f.goals) n)
    go None e h = cc
    go (Some (k, i)) e h =
        let l : Least X f (length f.goals) n k i = answer_least X f (length f.goals) n k i e in
        let reached : round X f k n ≡ true = ap (λ z. round X f z n) l.is ∙ l.enters.has in
        let (g, at, met) = round_met k n reached in
        record {
          goal = g;
          at = at;
          round = k;
          alternative = i;
          answer = e;
          meets = subst (Meets T k g) (sym (document_stays words X f k (length f.goals) n l.within reached)) met;
        }
