-- The certificate of numbered goals is in the grammar.
use Rattle.std.proofs.Common.{◌≡◌, ℕ, suc, ◌+◌, ◌<◌, ◌≤◌, inl, inr, ⊎_elim, Bool, true, false, not, cond, nat_eq, nat_lt, List, [], ◌∷◌, ◌++◌, map, length, get_or, Option, Some, None, refl, ap₂, sym, subst, arith}
use Rattle.std.proofs.lemmas.Bool.{and_parts, ltb-true}
use Rattle.std.specs.List.{position_or_len}
use Rattle.documents.specs.Tests.{every}
use Rattle.positions.specs.Position.{Position}
use Rattle.positions.specs.Holds.{IsTable}
use Rattle.goals.specs.Signed.{Signed, position_of, same_signed, is_rising}
use Rattle.goals.specs.Goal.{form}
use Rattle.goal_laws.proofs.Signs.{same_signed-true}
use Rattle.goal_laws.proofs.Forms.{form-IsFormed}
use Rattle.list_laws.specs.In.{IsIn}
use Rattle.list_laws.proofs.Lists.{every_at, every_from, from_append, from_map}
use Rattle.certificate_lines.specs.Line as L
use Rattle.certificate_lines.specs.Line.{Line}
use Rattle.certificate_lines.specs.Text.{is_line, is_short, lines_text, IsText}
use Rattle.verdicts.specs.Verdict.{same_list, same_goal, is_goal}
use Rattle.refutations.specs.GoalLines.{goal_lines}
use Rattle.refutations.specs.Expansions.{expansion_of}
use Rattle.refutations.specs.Listing.{renamed, place_of, entries, listed, certificate_of, certificate}
use Rattle.refutations.specs.Refutation.{empty_certificate}
use Rattle.refutation_laws.proofs.Goals.{AreUnmet}
use Rattle.refutation_laws.proofs.Texts.{IsGood, goals_good, goal_good, entry_good}
use Rattle.refutation_laws.proofs.FittingGoals.{goal_fits}
use Rattle.refutation_laws.proofs.Certificates.{IsListing, listing_is}

place_low : (p : ℕ → Bool) (ks : List ℕ) → position_or_len p ks ≤ length ks
place_low p [] = omega arith
place_low p (k ∷ ks) = go (p k) (place_low p ks) where
  go : (b : Bool) → position_or_len p ks ≤ length ks → cond (not b) (1 + position_or_len p ks) 0 ≤ suc (length ks)
  go true l = omega arith
  go false l = omega (arith, l)

same_true : (g h : List Signed) → same_list g h ≡ true → g ≡ h
same_true [] [] e = refl
same_true [] (y ∷ h) e = cc e
same_true (x ∷ g) [] e = cc e
same_true (x ∷ g) (y ∷ h) e =
    let (a, b) = and_parts (same_signed x y) (same_list g h) e in
    ap₂ (λ z zs. z ∷ zs) (same_signed-true x y a) (same_true g h b)

-- a listed goal rises
goal_rises : (T : List Position) → IsTable T → (g : List Signed) → is_goal T g ≡ true → is_rising g ≡ true
goal_rises T ok g e =
    let (a, b) = and_parts (every (λ x. nat_lt (position_of x) (length T)) g) (same_goal g (form T g)) e in
    go (form T g) refl b where
      go : (o : Option (List Signed)) → form T g ≡ o → same_goal g o ≡ true → is_rising g ≡ true
      go None p s = cc s
      go (Some h) p s =
          let f = form-IsFormed T ok g h p in
          subst (λ z. is_rising z ≡ true) (sym (same_true g h s)) f.rising

abbrev AreGood : List Line → Type 0
AreGood ls = (l : Line) → IsIn l ls → IsGood l

good_none : AreGood []
good_none l i = absurd i

good_more : (l : Line) (ls : List Line) → IsGood l → AreGood ls → AreGood (l ∷ ls)
good_more l ls h more k (inl q) = subst IsGood (sym q) h
good_more l ls h more k (inr i) = more k i

good_both : (xs ys : List Line) → AreGood xs → AreGood ys → AreGood (xs ++ ys)
good_both xs ys a b l i = ⊎_elim (λ x. a l x) (λ y. b l y) (from_append l xs ys i)

good_text : (ls : List Line) → AreGood ls → IsText (lines_text ls) ls
good_text ls h = record {
  small = every_from is_line ls (λ l i. (h l i).0);
  short = every_from is_short ls (λ l i. (h l i).1);
  text = refl;
}

module _ (T : List Position) (ok : IsTable T) (few : length T ≤ 4294967296) (goals : List (List Signed))
    (number : List Signed → Option ℕ)
    (right : (g : List Signed) (k : ℕ) → number g ≡ Some k → (k < length goals) × (get_or goals k [] ≡ g))
    (formed : (g : List Signed) (k : ℕ) → number g ≡ Some k → is_goal T g ≡ true)
    (unmet : (g : List Signed) (k : ℕ) → number g ≡ Some k → ((expansion_of T g).hole ≡ None)
    × AreUnmet number (expansion_of T g).alternatives)
    (narrow : (g : List Signed) (k : ℕ) → number g ≡ Some k → length g ≤ 65536) (count : length goals ≤ 65536) where
  abbrev lines : List Signed → List Line
  lines = goal_lines number T

  abbrev at : ℕ → List Signed
  at k = get_or goals k []

  module _ (ks : List ℕ) (most : length ks ≤ 65536) (dead : (k : ℕ) → IsIn k ks → number (at k) ≡ Some k) where
    low : (k : ℕ) → place_of ks k < 100000
    low k = let l = place_low (nat_eq k) ks in omega (arith, l, most)

    inside : (k : ℕ) → IsIn k ks → every (λ x. nat_lt (position_of x) (length T)) (at k) ≡ true
    inside k i =
        (and_parts (every (λ x. nat_lt (position_of x) (length T)) (at k)) (same_goal (at k) (form T (at k)))
        (formed (at k) k (dead k i))).0

    goal_is_good : (k : ℕ) → IsIn k ks → IsGood (L.Goal (at k))
    goal_is_good k i =
        goal_good (at k)
        (λ x j. let l = ltb-true (position_of x) (length T)
        (every_at (λ x. nat_lt (position_of x) (length T)) x (at k) (inside k i) j) in omega (arith, l, few))
        (narrow (at k) k (dead k i))

    one_entry : (k : ℕ) → IsIn k ks → AreGood (map (renamed (place_of ks)) (lines (at k)))
    one_entry k i l j =
        let (m, x, e) = from_map (renamed (place_of ks)) l (lines (at k)) j in
        subst IsGood (sym e)
        (goal_fits T ok few (place_of ks) low number (at k) (unmet (at k) k (dead k i)).0 (inside k i)
        (goal_rises T ok (at k) (formed (at k) k (dead k i))) m x)

    entries_good : (n : ℕ) (js : List ℕ) → n + length js ≤ 65536 → ((k : ℕ) → IsIn k js → IsIn k ks)
        → AreGood (entries goals lines (place_of ks) n js)
    entries_good n [] l h = good_none
    entries_good n (k ∷ js) l h =
        good_more (L.Entry n)
        (map (renamed (place_of ks)) (lines (at k)) ++ entries goals lines (place_of ks) (suc n) js)
        (entry_good n (omega (arith, l)))
        (good_both (map (renamed (place_of ks)) (lines (at k))) (entries goals lines (place_of ks) (suc n) js)
        (one_entry k (h k (inl refl)))
        (entries_good (suc n) js (omega (arith, l)) (λ j i. h j (inr i))))

    goals_are_good : (js : List ℕ) → ((k : ℕ) → IsIn k js → IsIn k ks) → AreGood (map (λ k. L.Goal (at k)) js)
    goals_are_good [] h = good_none
    goals_are_good (k ∷ js) h =
        good_more (L.Goal (at k)) (map (λ k. L.Goal (at k)) js) (goal_is_good k (h k (inl refl)))
        (goals_are_good js (λ j i. h j (inr i)))

    certificate_good : AreGood (certificate_of goals lines ks)
    certificate_good =
        let entry_lines = entries goals lines (place_of ks) 0 ks in
        let goal_list = map (λ k. L.Goal (at k)) ks in
        good_more L.Version (L.Goals (length ks) ∷ (goal_list ++ (entry_lines ++ L.End ∷ []))) (refl, refl)
        (good_more (L.Goals (length ks)) (goal_list ++ (entry_lines ++ L.End ∷ []))
        (goals_good (length ks) (omega (arith, most)))
        (good_both goal_list (entry_lines ++ L.End ∷ []) (goals_are_good ks (λ k i. i))
        (good_both entry_lines (L.End ∷ []) (entries_good 0 ks (omega (arith, most)) (λ k i. i))
        (good_more L.End [] (refl, refl) good_none))))

  pub listed_text : (root : List Signed) → number root ≡ Some 0
      → IsText (lines_text (certificate goals lines)) (certificate goals lines)
  listed_text root first =
      let h : IsListing T ok goals number right formed unmet (listed goals lines) =
      listing_is T ok goals number right formed unmet root first in
      good_text (certificate goals lines)
      (certificate_good (listed goals lines) (let l = h.few in omega (arith, l, count)) h.dead)

-- the certificate of a root that clashes is in the grammar
pub clash_text : IsText (lines_text empty_certificate) empty_certificate
clash_text = good_text empty_certificate
    (good_more L.Version (L.Goals 0 ∷ L.End ∷ []) (refl, refl)
    (good_more (L.Goals 0) (L.End ∷ []) (goals_good 0 (omega arith)) (good_more L.End [] (refl, refl) good_none)))
