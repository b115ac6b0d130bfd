-- What is kept is passed over: nothing there clashes.
use Rattle.std.proofs.Common.{◌≡◌, ℕ, zero, suc, ◌+◌, ◌-◌, ◌<◌, ◌≤◌, ◌^◌, min, max, inl, inr, List, drop, length, Bool, true, false, not, cond, nat_eq, nat_lt, Option, Some, None, refl, arith, ap, sym, ◌∙◌, subst}
use Rattle.std.proofs.lemmas.Bool.{ne_eqb, and_from, cases_lt, ltb-true, ltb-false}
use Rattle.std.proofs.lemmas.List.{drop_all}
use Rattle.positions.specs.Position.{Position}
use Rattle.goals.specs.Signed.{Signed}
use Rattle.frames.specs.Frame.{Place, Frame}
use Rattle.frames.specs.Plan.{placed, clash_from}
use Rattle.verdicts.specs.Duties.{heads_placed}
use Rattle.js_plans.specs.declared.server.Server.{Server}
use Rattle.js_plans.specs.declared.server.Server.TheVariants as V
use Rattle.js_plans.specs.Serving.{plan_after}
use Rattle.js_plans.specs.Servers.{serves_too}
use Rattle.js_plan_lines.specs.declared.before.Before.{Before}
use Rattle.js_plan_lines.specs.Reach.{IsPath, server_at}
use Rattle.js_plan_lines.specs.Kept.{is_kept, AreBefore, head_or, member_or, end_before, skip_kept, skip}
use Rattle.js_plan_lines.proofs.Firsts.{clash-next}
use Rattle.js_plan_lines.proofs.Keeping.{kept-goal}

lt-true : (i k : ℕ) → i < k → nat_lt i k ≡ true
lt-true i k l = go (nat_lt i k) (ltb-false i k) where
  go : (b : Bool) → (b ≡ false → k ≤ i) → b ≡ true
  go true y = refl
  go false y = absurd (omega (arith, l, y refl))

lt-false : (i k : ℕ) → k ≤ i → nat_lt i k ≡ false
lt-false i k l = go (nat_lt i k) (ltb-true i k) where
  go : (b : Bool) → (b ≡ true → i < k) → b ≡ false
  go true y = absurd (omega (arith, l, y refl))
  go false y = refl

-- the last server stands for neither
head-apart : (k m n : ℕ) (s : Server) → (k ≡ head_or n s → ⊥) → serves_too (V.Head k) m s ≡ false
head-apart k m n (V.Head i) a = ne_eqb i k (λ e. a (sym e))
head-apart k m n (V.Member i) a = refl
head-apart k m n (V.New c) a = refl

member-apart : (k m : ℕ) (s : Server) → (k ≡ member_or m s → ⊥) → serves_too (V.Member k) m s ≡ false
member-apart k m (V.Head i) a = refl
member-apart k m (V.Member i) a = ne_eqb i k (λ e. a (sym e))
member-apart k m (V.New c) a = ne_eqb m k (λ e. a (sym e))

below : (n e last i : ℕ) → n ≤ i → i < max n (end_before n e last) → (i < e) × (i ≡ last → ⊥)
below n e last i a = go (nat_lt last n) (ltb-true last n) where
  go : (b : Bool) → (b ≡ true → last < n) → i < max n (cond b e (min e last)) → (i < e) × (i ≡ last → ⊥)
  go true y l = (omega (arith, a, l), λ q. omega (arith, a, y refl, q))
  go false y l = (omega (arith, a, l), λ q. omega (arith, a, l, q))

kept-below : (b : Before) (h n i : ℕ) → n ≤ i → i < skip_kept b h n → is_kept (Some b) (server_at h i) ≡ true
kept-below b h n i a = go (nat_lt n h) (ltb-false n h) where
  go : (t : Bool) → (t ≡ false → h ≤ n)
      → i < cond t (max n (end_before n (min b.heads h) (head_or b.heads b.last)))
      (max n (min (h + end_before (n - h) b.members (member_or b.members b.last)) (2 ^ 64 - 1)))
      → is_kept (Some b) (server_at h i) ≡ true
  go true f l =
      let (x, y) = below n (min b.heads h) (head_or b.heads b.last) i a l in
      subst (λ t. is_kept (Some b) (cond t (V.Head i) (V.Member (i - h))) ≡ true)
      (sym (lt-true i h (omega (arith, x))))
      (and_from _ _ (lt-true i b.heads (omega (arith, x)))
      (ap not (head-apart i b.members b.heads b.last y)))
  go false f l =
      let (x, y) = below (n - h) b.members (member_or b.members b.last) (i - h) (omega (arith, a))
      (omega (arith, a, l, f refl)) in
      subst (λ t. is_kept (Some b) (cond t (V.Head i) (V.Member (i - h))) ≡ true)
      (sym (lt-false i h (omega (arith, a, f refl))))
      (and_from _ _ (lt-true (i - h) b.members x) (ap not (member-apart (i - h) b.members b.last y)))

skip-kept : (o : Option Before) (h n i : ℕ) → n ≤ i → i < skip o h n → is_kept o (server_at h i) ≡ true
skip-kept None h n i a l = absurd (omega (arith, a, l))
skip-kept (Some b) h n i a l = kept-below b h n i a l

module _ (T : List Position) (frame : Frame) (ws : List Server) (path : IsPath frame ws) (o : Option Before)
    (before : AreBefore T frame ws o) (h : ℕ) (heads : h ≡ heads_placed frame (plan_after frame ws)) where
  abbrev all : List (Place × List Signed)
  all = placed frame (plan_after frame ws)

  abbrev from : ℕ → Option ℕ
  from k = clash_from T frame k (drop k all)

  pass-one : (k : ℕ) → is_kept o (server_at h k) ≡ true → from k ≡ from (suc k)
  pass-one k kept = elim (cases_lt k (length all)) [
    | inl less ↦
        clash-next T frame ws path h k (suc k) heads less refl false
        (sym (kept-goal T frame ws o (server_at h k) path before kept))
    | inr more ↦
        ap (clash_from T frame k) (drop_all k all (omega (arith, more)))
        ∙ sym (ap (clash_from T frame (suc k)) (drop_all (suc k) all (omega (arith, more))))
  ]

  pass-all : (m k : ℕ) → ((i : ℕ) → k ≤ i → i < k + m → is_kept o (server_at h i) ≡ true) → from k ≡ from (k + m)
  pass-all zero k f = let z : k ≡ k + 0 = omega arith in ap from z
  pass-all (suc m) k f =
      let z : suc k + m ≡ k + suc m = omega arith in
      pass-one k (f k (omega arith) (omega arith))
      ∙ pass-all m (suc k) (λ i a l. f i (omega (arith, a)) (omega (arith, l)))
      ∙ ap from z

  -- nothing that is skipped clashes: the first clash from place k on is the first one behind what is skipped
  pub pass-kept : (k j : ℕ) → j ≡ skip o h k → k ≤ j → from k ≡ from j
  pass-kept k j e l =
      let z : k + (j - k) ≡ j = omega (arith, l) in
      pass-all (j - k) k (λ i a b. skip-kept o h k i a (omega (arith, b, e, l))) ∙ ap from z
