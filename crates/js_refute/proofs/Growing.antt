-- Listed goals that are gone through: the list and the text of the entries are what they are in the whole certificate.
use Rattle.std.proofs.Common.{◌≡◌, ℕ, zero, suc, ◌+◌, ◌-◌, ◌<◌, ◌≤◌, Bool, true, false, cond, nat_eq, nat_lt, List, [], ◌∷◌, ◌++◌, map, take, length, get_or, refl, ap, ap₂, sym, ◌∙◌, subst, append-nil, append_assoc, arith, length-append, zero-add, suc-add}
use Rattle.std.specs.Cmp.{nat_eq_equiv}
use Rattle.std.proofs.lemmas.Bool.{lt-ltb}
use Rattle.std.proofs.lemmas.List.{get_or_append_left, take_more, take_all, length-take-le}
use Rattle.std.proofs.lemmas.Grind.{flat_map-append}
use Rattle.goals.specs.Signed.{Signed}
use Rattle.list_laws.specs.In.{IsIn}
use Rattle.list_laws.proofs.Lists.{in_left, get_or-in}
use Rattle.word_states.specs.Mention.{mention_all}
use Rattle.word_laws.proofs.Mentions as M
use Rattle.finders.specs.RowsFound.{grow}
use Rattle.certificate_lines.specs.Line as L
use Rattle.certificate_lines.specs.Line.{Line}
use Rattle.certificate_lines.specs.Text.{line_text, lines_text}
use Rattle.refutations.specs.Listing.{place_of, cited, renamed, goal_at, listed, entries}
use Rattle.refutation_laws.proofs.ListingSteps.{grown_stays, lines_stay, entries_end}
use Rattle.refutation_laws.proofs.Listed as N
use Rattle.js_refute.proofs.Citing.{mentions_listed}
use Rattle.std.proofs.Math.Numerals.{suc-eq-add-one}

module _ (extend : ℕ → List ℕ) where
  abbrev pub grown : ℕ → List ℕ
  grown i = grow nat_eq extend 0 i

  grow_one : (i : ℕ) → (X : List ℕ) × (grown (suc i) ≡ grown i ++ X)
  grow_one i = go (nat_lt i (length (grown i))) where
    go : (b : Bool)
        → (X : List ℕ)
        × (cond b (mention_all nat_eq (grown i) (extend (get_or (grown i) i 0))) (grown i) ≡ grown i ++ X)
    go true = M.mentions_grow nat_eq nat_eq_equiv (grown i) (extend (get_or (grown i) i 0))
    go false = ([], sym (append-nil (grown i)))

  -- a list that grows keeps its beginning
  grow_on : (k i : ℕ) → (X : List ℕ) × (grown (k + i) ≡ grown i ++ X)
  grow_on zero i = ([], ap grown (zero-add i) ∙ sym (append-nil (grown i)))
  grow_on (suc k) i =
      let (X, p) = grow_on k i in
      let (Y, q) = grow_one (k + i) in (
        X ++ Y,
        ap grown (suc-add k i) ∙ q ∙ ap (λ z. z ++ Y) p ∙ append_assoc (grown i) X Y,
      )

  grow_to : (i n : ℕ) → i ≤ n → (X : List ℕ) × (grown n ≡ grown i ++ X)
  grow_to i n l =
      let (X, p) = grow_on (n - i) i in let e : n ≡ n - i + i = omega (arith, l) in (X, ap grown e ∙ p)

  grow_next : (i : ℕ) → i < length (grown i)
      → grown (suc i) ≡ mention_all nat_eq (grown i) (extend (get_or (grown i) i 0))
  grow_next i l =
      ap (λ b. cond b (mention_all nat_eq (grown i) (extend (get_or (grown i) i 0))) (grown i))
      (lt-ltb i (length (grown i)) l)

  -- nothing is left to go through
  grow_ends : (i n : ℕ) → i ≤ n → length (grown i) ≤ i → grown n ≡ grown i
  grow_ends i n l m =
      let e : n ≡ n - i + i = omega (arith, l) in ap grown e ∙ grown_stays extend (n - i) i m

module _ (goals : List (List Signed)) (lines : List Signed → List Line) where
  abbrev pub extend : ℕ → List ℕ
  extend k = cited (lines (goal_at goals lines k))

  abbrev pub whole : List ℕ
  whole = grown extend (length goals)

  listed_is : listed goals lines ≡ whole
  unfolding listed
  listed_is = refl

  -- the first i that are listed were gone through, and their entries are written as in the whole certificate
  pub record IsListing (i : ℕ) (now written : List ℕ) : Type 0 where
    pub listed : now ≡ grown extend i
    pub text : written ≡ lines_text (entries goals lines (place_of whole) 0 (take i whole))

  module _ (positive : 0 < length goals)
      (small : (k j : ℕ) → k < length goals → IsIn j (extend k) → j < length goals) where
    -- each number that is listed is one of a goal
    pub number_below : (i : ℕ) (now : List ℕ) → now ≡ grown extend i → i ≤ length goals → i < length now
        → get_or now i 0 < length goals
    number_below i now e l m =
        let (X, p) = grow_to extend i (length goals) l in
        N.listed_below extend (length goals) positive small (get_or now i 0)
        (subst (IsIn (get_or now i 0)) (sym (p ∙ ap (λ z. z ++ X) (sym e)))
        (in_left (get_or now i 0) now X (get_or-in now i 0 m)))

    one_more : (i : ℕ) (now next text more : List ℕ) → IsListing i now text → i < length goals → i < length now
        → next ≡ mention_all nat_eq now (extend (get_or now i 0))
        → more ≡ text
        ++ lines_text (L.Entry i ∷ map (renamed (place_of next)) (lines (goal_at goals lines (get_or now i 0))))
        → IsListing (suc i) next more
    one_more i now next text more h l m e f = record {
      listed = is;
      text = f ∙ ap₂ (λ a b. a ++ lines_text (L.Entry i ∷ b)) h.text (sym stay)
          ∙ sym (flat_map-append line_text (entries goals lines (place_of whole) 0 (take i whole))
          (L.Entry i ∷ map (renamed (place_of whole)) own))
          ∙ ap lines_text (sym taken);
    } where
      k : ℕ
      k = get_or now i 0

      own : List Line
      own = lines (goal_at goals lines k)

      within : i < length (grown extend i)
      within = subst (λ z. i < length z) h.listed m

      is : next ≡ grown extend (suc i)
      is = e ∙ ap (λ z. mention_all nat_eq z (extend (get_or z i 0))) h.listed ∙ sym (grow_next extend i within)

      stay : map (renamed (place_of whole)) own ≡ map (renamed (place_of next)) own
      stay =
          let (X, p) = grow_to extend (suc i) (length goals) l in
          ap (λ z. map (renamed (place_of z)) own) (p ∙ ap (λ z. z ++ X) (sym is))
          ∙ lines_stay next X own (λ j x. subst (IsIn j) (sym e) (mentions_listed now (cited own) j x))

      long : i < length whole
      long =
          let (X, p) = grow_to extend i (length goals) (omega (arith, l)) in
          subst (λ z. i < length z) (sym p) (omega (arith, within, length-append (grown extend i) X))

      same : get_or whole i 0 ≡ k
      same =
          let (X, p) = grow_to extend i (length goals) (omega (arith, l)) in
          ap (λ z. get_or z i 0) p ∙ get_or_append_left (grown extend i) X 0 i within
          ∙ ap (λ z. get_or z i 0) (sym h.listed)

      taken : entries goals lines (place_of whole) 0 (take (suc i) whole)
          ≡ entries goals lines (place_of whole) 0 (take i whole) ++ L.Entry i ∷ map (renamed (place_of whole)) own
      taken =
          ap (entries goals lines (place_of whole) 0)
          (ap (λ n. take n whole) (suc-eq-add-one i) ∙ take_more whole i 0 long ∙ ap (λ z. take i whole ++ z ∷ []) same)
          ∙ entries_end goals lines (place_of whole) 0 (take i whole) k
          ∙ ap (λ n. entries goals lines (place_of whole) 0 (take i whole)
          ++ L.Entry n ∷ map (renamed (place_of whole)) own) counted where
            counted : 0 + length (take i whole) ≡ i
            counted = let e = length-take-le i whole (omega (arith, long)) in omega (arith, e)

    -- one more entry, of the goal g
    pub goes_on : (i : ℕ) (now next text more : List ℕ) (g : List Signed) → IsListing i now text
        → i < length goals → i < length now → goal_at goals lines (get_or now i 0) ≡ g
        → next ≡ mention_all nat_eq now (cited (lines g))
        → more ≡ text ++ lines_text (L.Entry i ∷ map (renamed (place_of next)) (lines g))
        → IsListing (i + 1) next more
    goes_on i now next text more g h l m at e f =
        subst (λ n. IsListing n next more) (suc-eq-add-one i)
        (one_more i now next text more h l m (e ∙ ap (λ z. mention_all nat_eq now (cited (lines z))) (sym at))
        (f ∙ ap (λ z. text ++ lines_text (L.Entry i ∷ map (renamed (place_of next)) (lines z))) (sym at)))

    -- all that is listed was gone through
    pub record IsWhole (now written : List ℕ) : Type 0 where
      pub listed : now ≡ listed goals lines
      pub text : written ≡ lines_text (entries goals lines (place_of now) 0 now)
      pub few : length now ≤ length goals
      pub below : (k : ℕ) → IsIn k now → k < length goals

    ends : (i : ℕ) (now text : List ℕ) → IsListing i now text → now ≡ whole → length whole ≤ i → IsWhole now text
    ends i now text h e l = record {
      listed = e ∙ sym listed_is;
      text = h.text
          ∙ ap (λ z. lines_text (entries goals lines (place_of whole) 0 z)) (take_all i whole l)
          ∙ ap (λ z. lines_text (entries goals lines (place_of z) 0 z)) (sym e);
      few = subst (λ z. length z ≤ length goals) (sym e) (N.few_listed extend (length goals) positive small);
      below = λ k i. N.listed_below extend (length goals) positive small k (subst (IsIn k) e i);
    }

    -- no listed number is left
    pub ends_early : (i : ℕ) (now text : List ℕ) → IsListing i now text → i ≤ length goals → length now ≤ i
        → IsWhole now text
    ends_early i now text h l m =
        let n : length (grown extend i) ≤ i = subst (λ z. length z ≤ i) h.listed m in
        let e : now ≡ whole = h.listed ∙ sym (grow_ends extend i (length goals) l n) in
        ends i now text h e (subst (λ z. length z ≤ i) e m)

    -- all goals are listed
    pub ends_full : (i : ℕ) (now text : List ℕ) → IsListing i now text → i ≡ length goals → IsWhole now text
    ends_full i now text h q =
        ends i now text h (h.listed ∙ ap (grown extend) q)
        (let f = N.few_listed extend (length goals) positive small in omega (arith, f, q))
