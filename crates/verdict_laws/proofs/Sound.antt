-- A certificate that is accepted is right: no document of any depth meets a listed goal, and so every document of which
-- position a holds has position b holding.
use Rattle.std.proofs.Common.{◌≡◌, ℕ, zero, suc, ◌<◌, inl, inr, Bool, true, false, ◌&&◌, cond, not, List, [], ◌∷◌, ◌++◌, length, get_or, nat_lt, Option, Some, None, Result, Ok, Err, refl, ap, ◌∙◌, arith}
use Rattle.std.proofs.lemmas.Bool.{and_parts, ltb-true}
use Rattle.documents.specs.Document.{Document, depth, is_document}
use Rattle.positions.specs.Position.{Position}
use Rattle.positions.specs.Holds.{holds, IsTable}
use Rattle.goals.specs.Signed.{Signed, Plus, Minus, meets}
use Rattle.goals.specs.Goal.{form, contains}
use Rattle.goal_laws.specs.Formed.{meets_goal}
use Rattle.goal_laws.proofs.Forms.{meets-root, contains-met}
use Rattle.list_laws.specs.In.{IsIn}
use Rattle.list_laws.proofs.Lists.{get_or-in}
use Rattle.list_laws.proofs.Tests.{some_find}
use Rattle.certificate_lines.specs.Line as L
use Rattle.certificate_lines.specs.Line.{Line}
use Rattle.verdicts.specs.Rules.{no_goal, root_not_listed}
use Rattle.verdicts.specs.RowLines.{and_then, if_so}
use Rattle.verdicts.specs.Duties.{Duty, OfGoal, after, run}
use Rattle.verdicts.specs.Verdict.{Stage, Showing, Verdict, Accepted, cites, is_goal, root_is_listed, entry_duties, listing, go_on, judged, at_end, verdict, verdict_of_bytes}
use Rattle.verdict_laws.proofs.Numbers.{no_number}
use Rattle.verdict_laws.proofs.Claims.{run_claims}
use Rattle.verdict_laws.proofs.Bytes.{accepted_text}

module _ (T : List Position) (ok : IsTable T) where
  -- no document of lesser depth meets a listed goal
  abbrev AreUnmet : List (List Signed) → ℕ → Type 0
  AreUnmet gs n = (g : List Signed) → IsIn g gs → (J : Document) → is_document J ≡ true → depth J < n
      → meets T g J ≡ true → ⊥

  cites_safe : (gs : List (List Signed)) (n : ℕ) → AreUnmet gs n
      → (k : ℕ) (g : List Signed) (J : Document) → is_document J ≡ true → depth J < n → meets T g J ≡ true
      → cites gs k g ≡ false
  cites_safe gs n h k g J good deep m = go (cites gs k g) refl where
    go : (b : Bool) → cites gs k g ≡ b → b ≡ false
    go false e = refl
    go true e =
        let (a, c) = and_parts (nat_lt k (length gs)) (contains g (get_or gs k [])) e in
        absurd
        (h (get_or gs k []) (get_or-in gs k [] (ltb-true k (length gs) a)) J good deep
        (contains-met T ok J g (get_or gs k []) c m))

  entry_in : (k : ℕ) (gs : List (List Signed)) (g : List Signed) → IsIn g gs
      → (j : ℕ) × IsIn (OfGoal j g) (entry_duties k gs)
  entry_in k [] g i = absurd i
  entry_in k (h ∷ gs) g (inl e) = (k, inl (ap (OfGoal k) e))
  entry_in k (h ∷ gs) g (inr i) = let (j, a) = entry_in (suc k) gs g i in (j, inr a)

  -- by depth, over all listed goals at once
  module _ (gs : List (List Signed)) (ls : List Line) (done : run T (cites gs) (entry_duties 0 gs) ls ≡ Ok []) where
    one_deeper : (n : ℕ) → AreUnmet gs n → AreUnmet gs (suc n)
    one_deeper n h g i J good deep m =
        let (j, a) = entry_in 0 gs g i in
        run_claims T ok (no_number T ok) (cites gs) n (cites_safe gs n h) (entry_duties 0 gs) ls [] done
        (λ d z. absurd z) (OfGoal j g) a J good (omega (arith, deep)) m

    all_unmet : (n : ℕ) → AreUnmet gs n
    all_unmet zero = λ g i J good deep m. omega (arith, deep)
    all_unmet (suc n) = one_deeper n (all_unmet n)

  module _ (a b : ℕ) where
    -- what accepted lines show
    record IsShown : Type 0 where
      goals : List (List Signed)
      listed : root_is_listed (form T (Plus a ∷ Minus b ∷ [])) goals ≡ true
      lines : List Line
      done : run T (cites goals) (entry_duties 0 goals) lines ≡ Ok []

    abbrev Judged : Stage → ℕ → List Line → Verdict
    Judged s k ls = judged T a b at_end s k ls

    showing_run : (gs : List (List Signed)) (ds : List Duty) (k : ℕ) (ls : List Line)
        → Judged (Showing gs ds) k ls ≡ Accepted → (ms : List Line) × (run T (cites gs) ds ms ≡ Ok [])
    showing_run gs [] k ls e = ([], refl)
    showing_run gs (d ∷ ds) k [] e = cc
    showing_run gs (d ∷ ds) k (l ∷ ls) e =
        go (after T (cites gs) d l) refl e (λ es f. showing_run gs (es ++ ds) (suc k) ls f) where
          go : (r : Result (List Duty) ℕ) → after T (cites gs) d l ≡ r
              → go_on T a b (λ u. Judged u (suc k) ls) k (and_then (λ es. Ok (Showing gs (es ++ ds))) r) ≡ Accepted
              → ((es : List Duty) → Judged (Showing gs (es ++ ds)) (suc k) ls ≡ Accepted
              → (ms : List Line) × (run T (cites gs) (es ++ ds) ms ≡ Ok []))
              → (ms : List Line) × (run T (cites gs) (d ∷ ds) ms ≡ Ok [])
          go (Err x) f e more = cc
          go (Ok es) f e more =
              let (ms, r) = more es e in (l ∷ ms, ap (and_then (λ es. run T (cites gs) (es ++ ds) ms)) f ∙ r)

    from_listing : (n : ℕ) (gs : List (List Signed)) (k : ℕ) (ls : List Line)
        → go_on T a b (λ u. Judged u (suc k) ls) k (listing T a b n gs) ≡ Accepted → IsShown
    from_listing zero gs k ls e = go (root_is_listed (form T (Plus a ∷ Minus b ∷ [])) gs) refl e where
      go : (c : Bool) → root_is_listed (form T (Plus a ∷ Minus b ∷ [])) gs ≡ c
          → go_on T a b (λ u. Judged u (suc k) ls) k (if_so root_not_listed c (Showing gs (entry_duties 0 gs)))
          ≡ Accepted
          → IsShown
      go false f e = cc
      go true f e =
          let (ms, r) = showing_run gs (entry_duties 0 gs) (suc k) ls e in
          record { goals = gs; listed = f; lines = ms; done = r }
    from_listing (suc n) gs k [] e = cc
    from_listing (suc n) gs k (L.Goal g ∷ ls) e =
        go (is_goal T g) e (λ f. from_listing n (gs ++ g ∷ []) (suc k) ls f) where
          go : (c : Bool)
              → go_on T a b (λ u. Judged u (suc (suc k)) ls) (suc k)
              (cond c (listing T a b n (gs ++ g ∷ [])) (Err no_goal)) ≡ Accepted
              → (go_on T a b (λ u. Judged u (suc (suc k)) ls) (suc k) (listing T a b n (gs ++ g ∷ [])) ≡ Accepted
              → IsShown) → IsShown
          go false e more = cc
          go true e more = more e
    from_listing (suc n) gs k (l ∷ ls) e = cc

    shown : (ls : List Line) → verdict T a b ls ≡ Accepted → IsShown
    shown (L.Version ∷ L.Goals n ∷ ls) e = from_listing n [] 2 ls e
    shown ls e = cc

    root_unmet : (gs : List (List Signed)) → ((n : ℕ) → AreUnmet gs n) → (J : Document) → is_document J ≡ true
        → (o : Option (List Signed)) → root_is_listed o gs ≡ true → meets_goal T o J ≡ true → ⊥
    root_unmet gs h J good None e m = cc
    root_unmet gs h J good (Some r) e m =
        let (g, i, c) = some_find (contains r) gs e in
        h (suc (depth J)) g i J good (omega arith) (contains-met T ok J r g c m)

    -- lines that are accepted
    pub accepted_holds : (ls : List Line) → verdict T a b ls ≡ Accepted
        → (J : Document) → is_document J ≡ true → holds T a J ≡ true → holds T b J ≡ true
    accepted_holds ls e J good h =
        let s = shown ls e in
        go (holds T b J) refl
        (λ m. root_unmet s.goals (all_unmet s.goals s.lines s.done) J good (form T (Plus a ∷ Minus b ∷ [])) s.listed m)
      where
        go : (c : Bool) → holds T b J ≡ c → (meets_goal T (form T (Plus a ∷ Minus b ∷ [])) J ≡ true → ⊥) → c ≡ true
        go true f more = refl
        go false f more = absurd (more (meets-root T ok J a b ∙ ap (λ z. z && not (holds T b J)) h ∙ ap not f))

    -- bytes that are accepted
    pub accepted_bytes_hold : (bytes : List ℕ) → verdict_of_bytes T a b bytes ≡ Accepted
        → (J : Document) → is_document J ≡ true → holds T a J ≡ true → holds T b J ≡ true
    accepted_bytes_hold bytes e = let s = accepted_text T a b bytes e in accepted_holds s.lines s.good
