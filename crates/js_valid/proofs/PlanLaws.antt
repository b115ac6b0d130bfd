-- The key lemma: what is marked in place stays closed, since ranks fall; so verdicts that are taken in order are right.
use Rattle.std.proofs.Common.{◌≡◌, ℕ, zero, suc, ◌+◌, ◌<◌, ◌≤◌, inl, inr, List, [], ◌∷◌, map, length, get_or, Bool, true, false, ◌&&◌, nat_eq, if◌then◌else◌, refl, sym, ap, subst, ◌∙◌, arith, true≢false}
use Rattle.std.proofs.lemmas.Bool.{or_cases, eqb-true, eq-eqb, cases_lt}
use Rattle.std.specs.List.{AllByRecursion}
use Rattle.documents.specs.Document.{Document}
use Rattle.levels.proofs.LevelsLaws.{everywhere}
use Rattle.schemas.specs.Entry.{Entry, Form}
use Rattle.schemas.specs.Schema.{in_place, of_parts}
use Rattle.draft06.specs.EntryValidity.{asks, form_at, entry_valid}
use Rattle.draft06_laws.proofs.EntryLaws.{ranked, entry_valid-asks, form_at-past}
use Rattle.draft06_laws.proofs.EntryLocal.{asks_same}
use Rattle.js_match.specs.Matching.{matches}
use Rattle.js_valid.specs.Parts.{flag, own, parts}
use Rattle.js_match.specs.Places.{is_at}
use Rattle.js_valid.specs.Plan.{IsPlan, IsClosed, KnowsParts, KnowsVerdicts, valid_at}
use Rattle.js_valid.proofs.Halves.{asks-halves}
use Rattle.js_match.proofs.LeadsLaws.{or_left_true, or_right_true}

pub form_at-get : (es : List Entry) (e : ℕ) (x : Form) → e < length es → x ≡ get_or (map (λ f. f.form) es) e x
    → x ≡ form_at es e
form_at-get [] e x h is = absurd (omega (arith, h))
form_at-get (f ∷ es) zero x h is = is
form_at-get (f ∷ es) (suc e) x h is = form_at-get es e x (omega (arith, h)) is

pub all-at : (P : ℕ → Type 0) (xs : List ℕ) (q : ℕ) → AllByRecursion P xs → is_at q xs ≡ true → P q
all-at P [] q h k = absurd (true≢false (sym k))
all-at P (x ∷ xs) q h k = elim (or_cases (nat_eq x q) (is_at q xs) k) [
  | inl e ↦ subst P (eqb-true x q e) h.0
  | inr r ↦ all-at P xs q h.1 r
]

pub all-from : (P : ℕ → Type 0) (xs : List ℕ) → ((q : ℕ) → is_at q xs ≡ true → P q) → AllByRecursion P xs
all-from P [] h = tt
all-from P (x ∷ xs) h = (
  h x (or_left_true (nat_eq x x) (is_at x xs) (eq-eqb x x refl)),
  all-from P xs (λ q k. h q (or_right_true (nat_eq x q) (is_at q xs) k)),
)

pub flag-below : (bs : List Bool) (e : ℕ) → flag bs e ≡ true → e < length bs
flag-below [] e h = absurd (true≢false (sym h))
flag-below (b ∷ bs) zero h = omega arith
flag-below (b ∷ bs) (suc e) h = let l = flag-below bs e h in omega (arith, l)

pub flag-past : (bs : List Bool) (e : ℕ) → length bs ≤ e → flag bs e ≡ false
flag-past [] e h = refl
flag-past (b ∷ bs) zero h = absurd (omega (arith, h))
flag-past (b ∷ bs) (suc e) h = flag-past bs e (omega (arith, h))

module _ (es : List Entry) (order : List ℕ) (plan : IsPlan es order) where
  abbrev pub at : ℕ → ℕ
  at k = get_or order k 0

  pub target-below : (e q : ℕ) → e < length es → is_at q (in_place (form_at es e)) ≡ true → q < length es
  target-below e q h k = all-at (λ p. p < length es) (in_place (form_at es e)) q
      ((ranked matches es plan.table plan.rank plan.falls).closed e h) k

  pub target-falls : (e q : ℕ) → e < length es → is_at q (in_place (form_at es e)) ≡ true → plan.rank q < plan.rank e
  target-falls e q h k = all-at (λ p. plan.rank p < plan.rank e) (in_place (form_at es e)) q (plan.falls.falls e h) k

  module _ (J : Document) (asked : List Bool) (len : length asked ≡ length es) (closed : IsClosed es asked) where
    abbrev pub KnownTo : ℕ → List Bool → Type 0
    KnownTo k table = (j : ℕ) → j < k → j < length order → flag asked (at j) ≡ true
        → flag table (at j) ≡ valid_at es (at j) J

    -- what an entry asks, from the verdicts of the entries before it and from what is known of parts
    pub settled : (k : ℕ) (table : List Bool) → k < length order → KnownTo k table → flag asked (at k) ≡ true
        → (own matches (flag table) (form_at es (at k)) J && parts matches (valid_at es) (form_at es (at k)) J)
        ≡ valid_at es (at k) J
    settled k table less known a =
        let e = at k in
        let eb = plan.only k less in
        let here = all-from (λ q. flag table q ≡ valid_at es q J) (in_place (form_at es e)) (λ q t.
        let (i, il, same) = plan.all q (target-below e q eb t) in
        let qa = closed e q a t in
        elim (cases_lt i k) [
          | inl before ↦
              subst (λ x. flag table x ≡ valid_at es x J) same
              (known i before il (subst (λ x. flag asked x ≡ true) (sym same) qa))
          | inr after ↦
              let falls = target-falls e q eb t in
              let rises = plan.rises k i after il in
              let ranks = ap plan.rank same in
              absurd (omega (arith, falls, rises, ranks))
        ]) in
        sym (asks-halves matches (flag table) (valid_at es) (form_at es e) J)
        ∙ asks_same matches (flag table) (λ q. valid_at es q J) (valid_at es) (valid_at es) (form_at es e) J here
        (everywhere _ (of_parts (form_at es e)) (λ q K l. refl))
        ∙ sym (entry_valid-asks matches es plan.table plan.rank plan.falls e J)

    pub settle-step : (k : ℕ) (table table' : List Bool) (v : Bool) → k < length order → KnownTo k table
        → (flag asked (at k) ≡ true → v ≡ valid_at es (at k) J)
        → ((j : ℕ) → flag table' j ≡ (if nat_eq (at k) j then v else flag table j))
        → KnownTo (k + 1) table'
    settle-step k table table' v less known value is j jl jless a = go (nat_eq (at k) (at j)) refl
      where
        before : j < k + 1 → (at k ≡ at j → ⊥) → j < k
        before l n = elim (cases_lt j k) [
          | inl b ↦ b
          | inr b ↦ absurd (n (ap at (omega (arith, b, l))))
        ]

        go : (b : Bool) → nat_eq (at k) (at j) ≡ b → flag table' (at j) ≡ valid_at es (at j) J
        go true e =
            let same = eqb-true (at k) (at j) e in
            is (at j) ∙ ap (λ b. if b then v else flag table (at j)) e
            ∙ value (subst (λ x. flag asked x ≡ true) (sym same) a) ∙ ap (λ x. valid_at es x J) same
        go false e =
            is (at j) ∙ ap (λ b. if b then v else flag table (at j)) e
            ∙ known j (before jl (λ same. true≢false (sym (eq-eqb (at k) (at j) same) ∙ e))) jless a

    pub verdict-right : (k : ℕ) (table fine : List Bool) (v : Bool) → k < length order → KnownTo k table
        → KnowsParts es asked J fine
        → v ≡ (flag asked (at k) && (flag fine (at k) && own matches (flag table) (form_at es (at k)) J))
        → flag asked (at k) ≡ true → v ≡ valid_at es (at k) J
    verdict-right k table fine v less known knows is a =
        is ∙ ap (λ b. b && (flag fine (at k) && own matches (flag table) (form_at es (at k)) J)) a
        ∙ and_swap (flag fine (at k)) (own matches (flag table) (form_at es (at k)) J)
        ∙ ap (λ b. own matches (flag table) (form_at es (at k)) J && b) (knows (at k) a)
        ∙ settled k table less known a
      where
        and_swap : (a b : Bool) → (a && b) ≡ (b && a)
        and_swap true true = refl
        and_swap true false = refl
        and_swap false true = refl
        and_swap false false = refl

    pub settle-done : (table : List Bool) (k : ℕ) → length order ≤ k → KnownTo k table → KnowsVerdicts es asked J table
    settle-done table k end known e a =
        let b = flag-below asked e a in
        let (i, less, same) = plan.all e (omega (arith, b, len)) in
        subst (λ x. flag table x ≡ valid_at es x J) same
        (known i (omega (arith, less, end)) less (subst (λ x. flag asked x ≡ true) (sym same) a))

  -- past the last entry nothing is valid
  pub valid-past : (e : ℕ) (J : Document) → length es ≤ e → valid_at es e J ≡ false
  valid-past e J h =
      entry_valid-asks matches es plan.table plan.rank plan.falls e J
      ∙ ap (λ f. asks matches (λ q. entry_valid matches es q J) (entry_valid matches es) f J) (form_at-past es e h)
