-- Branches that are answered one after another, kinds one after another, and the branch to which a walk goes.
use Rattle.std.proofs.Common.{◌≡◌, ℕ, suc, ◌+◌, ◌<◌, List, [], ◌∷◌, ◌++◌, map, flat_map, drop, length, get_or, Option, Some, None, IsNone, MatchOption, Result, refl, ap, sym, ◌∙◌, subst, arith}
use Rattle.std.proofs.lemmas.List.{drop_more}
use Rattle.documents.specs.Kind.{Kind}
use Rattle.positions.specs.Position.{Position}
use Rattle.goals.specs.Signed.{Signed}
use Rattle.alternatives.specs.Alternative.{Alternative}
use Rattle.alternatives.specs.Limit.{LimitKind}
use Rattle.alternatives.specs.Expansion.{Expansion, keep, keep_all}
use Rattle.expansions.specs.Expansion.{at_kind}
use Rattle.js_algebra.specs.View.{kind_view}
use Rattle.js_algebra.specs.declared.node.JsonKind.{JsonKind}
use Rattle.js_expander.specs.Found.{leaf_of, from_branches}

abbrev Answer : Type 0
Answer = Result (List Alternative) LimitKind

pub kept-append : (rs ss : List Answer) (e : Expansion) → keep_all e (rs ++ ss) ≡ keep_all (keep_all e rs) ss
kept-append [] ss e = refl
kept-append (r ∷ rs) ss e = kept-append rs ss (keep e r)

module _ (T : List Position) where
  -- one more branch
  pub kept-branch : (t : Kind) (e d : Expansion) (n m : ℕ) (S : List Signed) (left more : List (List Signed))
      (r : Answer) → left ≡ S ∷ more → r ≡ leaf_of T t n S → d ≡ keep e r → m ≡ suc n
      → keep_all d (from_branches T t m more) ≡ keep_all e (from_branches T t n left)
  kept-branch t e d n m S left more r a b c f = rw (a, c, b, f) refl

  -- one more kind
  pub kept-kind : (g : List Signed) (e d : Expansion) (ks : List JsonKind) (i : ℕ) (k : JsonKind) → i < length ks
      → d ≡ keep_all e (at_kind T (leaf_of T) g (kind_view (get_or ks i k)))
      → keep_all d (flat_map (at_kind T (leaf_of T) g) (map kind_view (drop (i + 1) ks)))
      ≡ keep_all e (flat_map (at_kind T (leaf_of T) g) (map kind_view (drop i ks)))
  kept-kind g e d ks i k l h =
      ap (λ z. keep_all z (flat_map (at_kind T (leaf_of T) g) (map kind_view (drop (i + 1) ks)))) h
      ∙ sym (kept-append (at_kind T (leaf_of T) g (kind_view (get_or ks i k)))
      (flat_map (at_kind T (leaf_of T) g) (map kind_view (drop (i + 1) ks))) e)
      ∙ ap (λ z. keep_all e (flat_map (at_kind T (leaf_of T) g) (map kind_view z))) (sym (drop_more ks i k l))

-- what a walk has left, by its places in all of them
pub left-next : (xs left more : List (List Signed)) (i : ℕ) (o : Option (List Signed))
    → ((k : ℕ) → get_or left k [] ≡ get_or xs (i + k) [])
    → MatchOption o (left ≡ []) (λ x. left ≡ x ∷ more) → (IsNone o → more ≡ [])
    → (k : ℕ) → get_or more k [] ≡ get_or xs (i + 1 + k) []
left-next xs left more i o a m e k =
    step o m e ∙ a (suc k) ∙ ap (λ n. get_or xs n []) (next i k) where
      next : (i k : ℕ) → i + suc k ≡ i + 1 + k
      next i k = omega arith

      step : (o : Option (List Signed)) → MatchOption o (left ≡ []) (λ x. left ≡ x ∷ more) → (IsNone o → more ≡ [])
          → get_or more k [] ≡ get_or left (suc k) []
      step None m e = ap (λ z. get_or z k []) (e refl) ∙ sym (ap (λ z. get_or z (suc k) []) m)
      step (Some x) m e = sym (ap (λ z. get_or z (suc k) []) m)

pub left-at : (xs left more : List (List Signed)) (i n : ℕ) (o : Option (List Signed)) (x : List Signed) → o ≡ Some x
    → i ≡ n → ((k : ℕ) → get_or left k [] ≡ get_or xs (i + k) [])
    → MatchOption o (left ≡ []) (λ x. left ≡ x ∷ more) → x ≡ get_or xs n []
left-at xs left more i n o x e h a m =
    sym (ap (λ z. get_or z 0 []) (subst (λ z. MatchOption z (left ≡ []) (λ x. left ≡ x ∷ more)) e m)) ∙ a 0
    ∙ ap (λ n. get_or xs n []) (let z : i + 0 ≡ n = omega (arith, h) in z)
