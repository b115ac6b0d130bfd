-- Members by name, with one more.
use Rattle.std.proofs.Common.{◌≡◌, ℕ, zero, suc, List, [], ◌∷◌, Bool, true, false, cond, nat_eq, nat_lt, refl, sym, ap, ◌∙◌, arith, true≢false}
use Rattle.std.proofs.lemmas.Bool.{and_parts, and_from}
use Rattle.std.proofs.Math.ListN.{set}
use Rattle.std.specs.List.{insert}
use Rattle.documents.specs.Json.{Json, members_of}
use Rattle.documents.specs.WellFormed.{names_rise, is_before}
use Rattle.documents.specs.Tests.{comes_before}
use Rattle.documents.proofs.NameOrder.{comes_before-same, comes_before-trans}
use Rattle.families.specs.Objects.{with_member}
use Rattle.js_gen.specs.Places.{names, IsThere, IsFree}

-- ---- names

-- a name that comes before another one doesn't come after it
not_after : (v w : List ℕ) (test : Bool) → comes_before w v ≡ test → comes_before v w ≡ true
    → comes_before w v ≡ false
not_after v w false e h = e
not_after v w true e h =
    absurd (true≢false (sym (comes_before-trans v w v h e) ∙ comes_before-same v))

-- words of which neither comes first, by their first characters
first_neither : (c d : ℕ) (v w : List ℕ) (same : Bool) → nat_eq c d ≡ same
    → (comes_before v w ≡ false → comes_before w v ≡ false → v ≡ w)
    → comes_before (c ∷ v) (d ∷ w) ≡ false → comes_before (d ∷ w) (c ∷ v) ≡ false → (c ∷ v) ≡ (d ∷ w)
first_neither c d v w true e later h k =
    let one : c ≡ d = grind (arith, e) in
    let other : nat_eq d c ≡ true = grind (arith, e) in
    let rest = later (sym (ap (λ b. cond b (comes_before v w) (nat_lt c d)) e) ∙ h)
    (sym (ap (λ b. cond b (comes_before w v) (nat_lt d c)) other) ∙ k) in
    cc (one, rest)
first_neither c d v w false e later h k =
    let less : nat_lt c d ≡ false = sym (ap (λ b. cond b (comes_before v w) (nat_lt c d)) e) ∙ h in
    let other : nat_eq d c ≡ false = grind (arith, e) in
    let more : nat_lt d c ≡ false = sym (ap (λ b. cond b (comes_before w v) (nat_lt d c)) other) ∙ k in
    absurd (grind (arith, e, less, more))

-- two words of which neither comes first are one
pub neither : (v w : List ℕ) → comes_before v w ≡ false → comes_before w v ≡ false → v ≡ w
neither [] [] h k = refl
neither [] (d ∷ w) h k = absurd (true≢false h)
neither (c ∷ v) [] h k = absurd (true≢false k)
neither (c ∷ v) (d ∷ w) h k = first_neither c d v w (nat_eq c d) refl (neither v w) h k

-- ---- the place of the new member

pub with_member-there : (ms : List (List ℕ × Json)) (m : List ℕ × Json) (i : ℕ) → IsThere (names ms) m.0 i
    → with_member ms m ≡ set ms i m
unfolding with_member
with_member-there [] m i h = absurd (omega (arith, h.within))
with_member-there (n ∷ ns) m zero h =
    let here : n.0 ≡ m.0 = h.same in
    let before : comes_before n.0 m.0 ≡ false = ap (λ w. comes_before w m.0) here ∙ comes_before-same m.0 in
    let after : comes_before m.0 n.0 ≡ false = ap (comes_before m.0) here ∙ comes_before-same m.0 in
    rw (before, after) refl
with_member-there (n ∷ ns) m (suc i) h =
    let before : comes_before n.0 m.0 ≡ true = h.before zero (omega arith) in
    rw before (ap (λ l. n ∷ l) (with_member-there ns m i (record {
      before = λ k less. h.before (suc k) (omega arith);
      within = omega (arith, h.within);
      same = h.same;
    })))

pub with_member-free : (ms : List (List ℕ × Json)) (m : List ℕ × Json) (i : ℕ) → IsFree (names ms) m.0 i
    → with_member ms m ≡ insert ms i m
unfolding with_member
with_member-free [] m zero h = refl
with_member-free [] m (suc i) h = absurd (omega (arith, h.within))
with_member-free (n ∷ ns) m zero h =
    let after : comes_before m.0 n.0 ≡ true = h.after (omega arith) in
    let before = not_after m.0 n.0 (comes_before n.0 m.0) refl after in
    rw (before, after) refl
with_member-free (n ∷ ns) m (suc i) h =
    let before : comes_before n.0 m.0 ≡ true = h.before zero (omega arith) in
    rw before (ap (λ l. n ∷ l) (with_member-free ns m i (record {
      before = λ k less. h.before (suc k) (omega arith);
      within = omega (arith, h.within);
      after = λ less. h.after (omega (arith, less));
    })))

-- ---- names rise

-- what comes before a name and before the first of the others comes before the first of both together
before_with_member : (k : List ℕ) (ms : List (List ℕ × Json)) (m : List ℕ × Json) → comes_before k m.0 ≡ true
    → is_before k (members_of ms) ≡ true → is_before k (members_of (with_member ms m)) ≡ true
unfolding with_member
before_with_member k [] m h b = h
before_with_member k (n ∷ ns) m h b = go (comes_before n.0 m.0) (comes_before m.0 n.0) where
  go : (before after : Bool)
      → is_before k (members_of (cond before (n ∷ with_member ns m) (cond after (m ∷ n ∷ ns) (m ∷ ns)))) ≡ true
  go true after = b
  go false true = h
  go false false = h

pub names_rise-with_member : (ms : List (List ℕ × Json)) (m : List ℕ × Json) → names_rise (members_of ms) ≡ true
    → names_rise (members_of (with_member ms m)) ≡ true
unfolding with_member
names_rise-with_member [] m h = refl
names_rise-with_member (n ∷ ns) m h =
    go (comes_before n.0 m.0) refl (comes_before m.0 n.0) refl both.0 both.1 (names_rise-with_member ns m both.1) where
      both : (is_before n.0 (members_of ns) ≡ true) × (names_rise (members_of ns) ≡ true)
      both = and_parts (is_before n.0 (members_of ns)) (names_rise (members_of ns)) h

      go : (before : Bool) → comes_before n.0 m.0 ≡ before → (after : Bool) → comes_before m.0 n.0 ≡ after
          → is_before n.0 (members_of ns) ≡ true → names_rise (members_of ns) ≡ true
          → names_rise (members_of (with_member ns m)) ≡ true
          → names_rise (members_of (cond before (n ∷ with_member ns m) (cond after (m ∷ n ∷ ns) (m ∷ ns)))) ≡ true
      go true e after f first others made =
          and_from (is_before n.0 (members_of (with_member ns m))) (names_rise (members_of (with_member ns m)))
          (before_with_member n.0 ns m e first) made
      go false e true f first others made =
          and_from (comes_before m.0 n.0) (names_rise (members_of (n ∷ ns))) f h
      go false e false f first others made =
          let same = neither n.0 m.0 e f in
          and_from (is_before m.0 (members_of ns)) (names_rise (members_of ns))
          (ap (λ w. is_before w (members_of ns)) (sym same) ∙ first) others
