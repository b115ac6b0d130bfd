-- A state goes on by follow sets as it does by a walk.
--
-- Key: `next_by_follow_sets`. What may follow a position is kept as far as the set of what follows has one of a few
-- characters; that is enough where those characters have every position that some character of ASCII has.
use Rattle.std.proofs.Common.{◌≡◌, ℕ, zero, suc, ◌+◌, ◌<◌, ◌≤◌, inl, inr, Bool, true, false, ◌&&◌, ◌||◌, if◌then◌else◌, List, [], ◌∷◌, ◌++◌, length, replicate, get_or, take, refl, sym, ◌∙◌, ap, ap₂, subst, arith}
use Rattle.std.proofs.Math.Path.{fun_ext}
use Rattle.std.proofs.Math.Bool.{or_assoc, or-false, or-true, and-or_distrib_left, and-or_distrib_right}
use Rattle.std.proofs.lemmas.List.{take_more, get_or_read}
use Rattle.std.proofs.lemmas.Bool.{eq-eqb, ne_eqb, cases_eq, cases_lt, and_parts}
use Rattle.patterns.specs.Tree.{Tree}
use Rattle.word_states.specs.Position.{count_of, sets_of}
use Rattle.state_laws.specs.Flow.{flag_at, ends_here, reads_next}
use Rattle.state_laws.specs.FollowSets.{or_each, and_each, sets_have, none_read, only, may_follow, follow_each, ends_each}
use Rattle.state_laws.proofs.FollowSetsLemmas.{or_each_none, flags_join}
use Rattle.state_laws.proofs.Sets.{next_asks_sets}
use Rattle.state_laws.proofs.Each.{ends_of_each, next_of_each}
use Rattle.js_pattern_positions.specs.Marks.{Marks}
use Rattle.js_pattern_positions.specs.Both.{some_both}
use Rattle.js_nfa.specs.FollowSets.{set_at, HaveLength, is_shown, is_in_some}
use Rattle.js_pattern_positions.proofs.AdvanceSteps.{length-reads}

-- what is always there, and the follow sets of the positions below n that are in the set
abbrev pub joined : (always : List Bool) (sets : List Marks) (read : ℕ → Bool) → ℕ → List Bool
joined always sets read zero = always
joined always sets read (suc n) = or_each (joined always sets read n) (if read n then set_at sets n else [])

-- ---- lists of flags
pub same_flags : (xs ys : List Bool) → length xs ≡ length ys → ((p : ℕ) → flag_at xs p ≡ flag_at ys p) → xs ≡ ys
same_flags [] [] e h = refl
same_flags [] (y ∷ ys) e h = absurd (omega (arith, e))
same_flags (x ∷ xs) [] e h = absurd (omega (arith, e))
same_flags (x ∷ xs) (y ∷ ys) e h = ap₂ (λ b bs. b ∷ bs) (h 0) (same_flags xs ys (omega (arith, e)) (λ p. h (suc p)))

pub length-or_each : (xs ys : List Bool) (n : ℕ) → length xs ≡ n → length ys ≡ n → length (or_each xs ys) ≡ n
length-or_each [] ys n e f = f
length-or_each (x ∷ xs) [] n e f = e
length-or_each (x ∷ xs) (y ∷ ys) zero e f = absurd (omega (arith, e))
length-or_each (x ∷ xs) (y ∷ ys) (suc n) e f =
    ap suc (length-or_each xs ys n (omega (arith, e)) (omega (arith, f)))

pub length-and_each : (xs ys : List Bool) (n : ℕ) → length xs ≡ n → length ys ≡ n → length (and_each xs ys) ≡ n
length-and_each [] ys n e f = e
length-and_each (x ∷ xs) [] n e f = f
length-and_each (x ∷ xs) (y ∷ ys) zero e f = absurd (omega (arith, e))
length-and_each (x ∷ xs) (y ∷ ys) (suc n) e f =
    ap suc (length-and_each xs ys n (omega (arith, e)) (omega (arith, f)))

flag-there : (n : ℕ) → flag_at (replicate n false ++ true ∷ []) n ≡ true
flag-there zero = refl
flag-there (suc n) = flag-there n

flag-elsewhere : (n p : ℕ) → (p ≡ n → ⊥) → flag_at (replicate n false ++ true ∷ []) p ≡ false
flag-elsewhere zero zero d = absurd (d refl)
flag-elsewhere zero (suc p) d = refl
flag-elsewhere (suc n) zero d = refl
flag-elsewhere (suc n) (suc p) d = flag-elsewhere n p (λ e. d (ap suc e))

pub flag-only : (position : ℕ) → flag_at (replicate position false ++ true ∷ []) ≡ only position
flag-only position = fun_ext (λ p. elim (cases_eq p position) as
    (λ _. flag_at (replicate position false ++ true ∷ []) p ≡ only position p) [
      | inl e ↦
          ap (flag_at (replicate position false ++ true ∷ [])) e ∙ flag-there position ∙ sym (eq-eqb p position e)
      | inr d ↦ flag-elsewhere position p d ∙ sym (ne_eqb p position d)
    ])

pub flag-none : (flags : List Bool) → flags ≡ [] → flag_at flags ≡ none_read
flag-none flags e = fun_ext (λ p. ap (λ fs. flag_at fs p) e)

pub flag-all : (n p : ℕ) → p < n → flag_at (replicate n true) p ≡ true
flag-all zero p h = absurd (omega (arith, h))
flag-all (suc n) zero h = refl
flag-all (suc n) (suc p) h = flag-all n p (omega (arith, h))

pub flag-none_of : (n p : ℕ) → flag_at (replicate n false) p ≡ false
flag-none_of zero p = refl
flag-none_of (suc n) zero = refl
flag-none_of (suc n) (suc p) = flag-none_of n p

-- one flag appended
pub flag-appended : (xs : List Bool) (b : Bool) (p : ℕ) → p < length xs → flag_at (xs ++ b ∷ []) p ≡ flag_at xs p
flag-appended [] b p h = absurd (omega (arith, h))
flag-appended (x ∷ xs) b zero h = refl
flag-appended (x ∷ xs) b (suc p) h = flag-appended xs b p (omega (arith, h))

pub flag-last : (xs : List Bool) (b : Bool) → flag_at (xs ++ b ∷ []) (length xs) ≡ b
flag-last [] b = refl
flag-last (x ∷ xs) b = flag-last xs b

-- ---- characters that are shown
pub shown-append : (t : Tree) (cs : List ℕ) (c q : ℕ)
    → is_shown t (cs ++ c ∷ []) q ≡ (is_shown t cs q || flag_at (sets_have (sets_of t) c) q)
shown-append t [] c q = or-false (flag_at (sets_have (sets_of t) c) q)
shown-append t (d ∷ cs) c q =
    ap (λ b. flag_at (sets_have (sets_of t) d) q || b) (shown-append t cs c q)
    ∙ sym (or_assoc (flag_at (sets_have (sets_of t) d) q) (is_shown t cs q) (flag_at (sets_have (sets_of t) c) q))

pub in_some-append : (sets : List Marks) (cs : List ℕ) (c q : ℕ)
    → is_in_some sets (cs ++ c ∷ []) q ≡ (is_in_some sets cs q || flag_at (set_at sets c) q)
in_some-append sets [] c q = or-false (flag_at (set_at sets c) q)
in_some-append sets (d ∷ cs) c q =
    ap (λ b. flag_at (set_at sets d) q || b) (in_some-append sets cs c q)
    ∙ sym (or_assoc (flag_at (set_at sets d) q) (is_in_some sets cs q) (flag_at (set_at sets c) q))

-- ---- tests
-- what may follow, among all, with a set that has the character and so is shown
picks : (x u a s : Bool) → (x ≡ true → a ≡ true) → ((a && s) ≡ true → u ≡ true) → ((x && u) && (a && s)) ≡ (x && s)
picks false u a s f g = refl
picks true u true true f g = ap (λ b. b && true) (g refl)
picks true true true false f g = refl
picks true false true false f g = refl
picks true u false s f g = absurd (cc (f refl))

more : (x y a b : Bool) → (x ≡ true → a ≡ true) → (y ≡ true → b ≡ true) → (x || y) ≡ true → (a || b) ≡ true
more true y true b f g e = refl
more true y false b f g e = absurd (cc (f refl))
more false y true b f g e = refl
more false y false b f g e = g e

-- ---- what follows
module _ (t : Tree) (read : ℕ → Bool) (q : ℕ) where
  -- the more was read, the more follows
  pub follow-more : (all : ℕ → Bool) (n : ℕ) → ((p : ℕ) → p < n → all p ≡ true)
      → flag_at (follow_each t false read true n) q ≡ true → flag_at (follow_each t false all true n) q ≡ true
  follow-more all zero h e = e
  follow-more all (suc n) h e =
      let after = flag_at (may_follow t false (only n) 0 false) q in
      (flags_join (follow_each t false all true n) (if all n then may_follow t false (only n) 0 false else []) q).0
      ∙ ap (λ b. flag_at (follow_each t false all true n) q
      || flag_at (if b then may_follow t false (only n) 0 false else []) q) (h n (omega arith))
      ∙ more (flag_at (follow_each t false read true n) q)
      (flag_at (if read n then may_follow t false (only n) 0 false else []) q)
      (flag_at (follow_each t false all true n) q) after (follow-more all n (λ p l. h p (omega (arith, l))))
      (some (read n))
      (sym (flags_join (follow_each t false read true n) (if read n then may_follow t false
      (only n) 0 false else []) q).0
      ∙ e) where
        some : (b : Bool) → flag_at (if b then may_follow t false (only n) 0 false else []) q ≡ true
            → flag_at (may_follow t false (only n) 0 false) q ≡ true
        some true f = f
        some false f = absurd (cc f)

  module _ (always : List Bool) (sets : List Marks) (shown : List ℕ) (count : ℕ)
      (first : flag_at always q ≡ (flag_at (may_follow t false none_read 0 true) q && is_shown t shown q))
      (each : (p : ℕ) → p < count
      → flag_at (set_at sets p) q ≡ (flag_at (may_follow t false (only p) 0 false) q && is_shown t shown q)) where
    joined-shown : (n : ℕ) → n ≤ count → flag_at (joined always sets read n) q
        ≡ (flag_at (follow_each t false read true n) q && is_shown t shown q)
    joined-shown zero h = first
    joined-shown (suc n) h =
        (flags_join (joined always sets read n) (if read n then set_at sets n else []) q).0
        ∙ ap₂ (λ a b. a || b) (joined-shown n (omega (arith, h))) (one (read n))
        ∙ sym (and-or_distrib_right (flag_at (follow_each t false read true n) q)
        (flag_at (if read n then may_follow t false (only n) 0 false else []) q) (is_shown t shown q))
        ∙ ap (λ b. b && is_shown t shown q)
        (sym (flags_join (follow_each t false read true n)
        (if read n then may_follow t false (only n) 0 false else []) q).0) where
          one : (b : Bool) → flag_at (if b then set_at sets n else []) q
              ≡ (flag_at (if b then may_follow t false (only n) 0 false else []) q && is_shown t shown q)
          one true = each n (omega (arith, h))
          one false = refl

pub length-joined : (always : List Bool) (sets : List Marks) (read : ℕ → Bool) (count n : ℕ) → n ≤ length sets
    → length always ≡ count → HaveLength count sets → length (joined always sets read n) ≡ count
length-joined always sets read count zero h e long = e
length-joined always sets read count (suc n) h e long =
    go (length-joined always sets read count n (omega (arith, h)) e long) (read n) where
      go : length (joined always sets read n) ≡ count → (b : Bool)
          → length (or_each (joined always sets read n) (if b then set_at sets n else [])) ≡ count
      go before true =
          length-or_each (joined always sets read n) (set_at sets n) count before (long n (omega (arith, h)))
      go before false = ap length (or_each_none (joined always sets read n)) ∙ before

module _ (t : Tree) (count : ℕ) (counted : count ≡ count_of t) (always : List Bool) (sets having : List Marks)
    (shown : List ℕ)
    (first-long : length always ≡ count)
    (follow-long : HaveLength count sets) (as-many : length sets ≡ count)
    (first : (q : ℕ) → flag_at always q ≡ (flag_at (may_follow t false none_read 0 true) q && is_shown t shown q))
    (each : (p q : ℕ) → p < count
    → flag_at (set_at sets p) q ≡ (flag_at (may_follow t false (only p) 0 false) q && is_shown t shown q))
    (has : (c : ℕ) → c < 128 → set_at having c ≡ reads_next t false (flag_at (replicate count true)) c 0 true)
    (shows : (c q : ℕ) → c < 128 → flag_at (set_at having c) q ≡ true → is_shown t shown q ≡ true) where
  pub next_by_follow_sets : (c : ℕ) → c < 128 → (read : ℕ → Bool)
      → reads_next t false read c 0 true ≡ and_each (joined always sets read (length sets)) (set_at having c)
  next_by_follow_sets c ascii read =
      same_flags (reads_next t false read c 0 true) (and_each (joined always sets read (length sets)) (set_at having c))
      (length-reads false read c t 0 true ∙ sym counted
      ∙ sym (length-and_each (joined always sets read (length sets)) (set_at having c) count
      (length-joined always sets read count (length sets) (omega arith) first-long follow-long)
      (ap length (has c ascii) ∙ length-reads false (flag_at (replicate count true)) c t 0 true ∙ sym counted)))
      flag where
        have : List Bool
        have = sets_have (sets_of t) c

        all : ℕ → Bool
        all = flag_at (replicate count true)

        all-is : (q : ℕ) → flag_at (set_at having c) q
            ≡ (flag_at (follow_each t false all true (count_of t)) q && flag_at have q)
        all-is q =
            ap (λ fs. flag_at fs q) (has c ascii ∙ next_of_each t false all c true)
            ∙ (flags_join (follow_each t false all true (count_of t)) have q).1

        flag : (q : ℕ) → flag_at (reads_next t false read c 0 true) q
            ≡ flag_at (and_each (joined always sets read (length sets)) (set_at having c)) q
        flag q =
            ap (λ fs. flag_at fs q) (next_of_each t false read c true)
            ∙ (flags_join (follow_each t false read true (count_of t)) have q).1
            ∙ sym (picks (flag_at (follow_each t false read true (count_of t)) q) (is_shown t shown q)
            (flag_at (follow_each t false all true (count_of t)) q) (flag_at have q)
            (follow-more t read q all (count_of t) (λ p l. flag-all count p (omega (arith, l, counted))))
            (λ e. shows c q ascii (all-is q ∙ e)))
            ∙ ap₂ (λ a b. a && b)
            (sym (joined-shown t read q always sets shown count (first q) (λ p. each p q) (count_of t)
            (omega (arith, counted)))
            ∙ ap (λ n. flag_at (joined always sets read n) q) (sym counted ∙ sym as-many))
            (sym (all-is q))
            ∙ sym ((flags_join (joined always sets read (length sets)) (set_at having c) q).1)

-- ---- the end of a match
pub done_by_ends : (t : Tree) (count : ℕ) → count ≡ count_of t → (ends : List Bool) (done : Bool)
    → done ≡ ends_here t false false none_read 0 true
    → ((p : ℕ) → p < count → flag_at ends p ≡ ends_here t false false (only p) 0 false)
    → (read : ℕ → Bool) → ends_here t false false read 0 true ≡ (done || some_both read (flag_at ends) count)
done_by_ends t count counted ends done is each read =
    ends_of_each t false false read true
    ∙ ap (ends_each t false false read true) (sym counted)
    ∙ up_to count (omega arith) where
      up_to : (n : ℕ) → n ≤ count
          → ends_each t false false read true n ≡ (done || some_both read (flag_at ends) n)
      up_to zero h = sym is ∙ sym (or-false done)
      up_to (suc n) h =
          ap₂ (λ a b. a || (read n && b)) (up_to n (omega (arith, h))) (sym (each n (omega (arith, h))))
          ∙ or_assoc done (some_both read (flag_at ends) n) (read n && flag_at ends n)

-- ---- a few characters that show all
pub set_at-past : (sets : List Marks) (n : ℕ) → length sets ≤ n → set_at sets n ≡ []
set_at-past [] n h = refl
set_at-past (x ∷ sets) zero h = absurd (omega (arith, h))
set_at-past (x ∷ sets) (suc n) h = set_at-past sets n (omega (arith, h))

module _ (t : Tree) (count : ℕ) (having : List Marks) (characters : length having ≡ 128)
    (has : (c : ℕ) → c < 128 → set_at having c ≡ reads_next t false (flag_at (replicate count true)) c 0 true) where
  set_has : (c q : ℕ) → flag_at (set_at having c) q ≡ true → flag_at (sets_have (sets_of t) c) q ≡ true
  set_has c q e = elim (cases_lt c 128) as (λ _. flag_at (sets_have (sets_of t) c) q ≡ true) [
    | inl ascii ↦
        (and_parts (flag_at (follow_each t false (flag_at (replicate count true)) true (count_of t)) q)
        (flag_at (sets_have (sets_of t) c) q)
        (sym ((flags_join (follow_each t false (flag_at (replicate count true)) true (count_of t))
        (sets_have (sets_of t) c) q).1)
        ∙ sym (ap (λ fs. flag_at fs q) (has c ascii ∙ next_of_each t false (flag_at (replicate count true)) c true))
        ∙ e)).1
    | inr past ↦
        absurd (cc (sym (ap (λ fs. flag_at fs q) (set_at-past having c (omega (arith, past, characters)))) ∙ e))
  ]

  pub shows_all : (cs : List ℕ) (q : ℕ) → is_in_some having cs q ≡ true → is_shown t cs q ≡ true
  shows_all [] q e = e
  shows_all (c ∷ cs) q e =
      more (flag_at (set_at having c) q) (is_in_some having cs q) (flag_at (sets_have (sets_of t) c) q)
      (is_shown t cs q) (set_has c q) (shows_all cs q) e

pub long-again : (sets : List Marks) (count other : ℕ) → count ≡ other → HaveLength count sets → HaveLength other sets
long-again sets count other e long n h = long n h ∙ e

pub long-having : (t : Tree) (count : ℕ) (having : List Marks) → count ≡ count_of t → length having ≡ 128
    → ((c : ℕ) → c < 128 → set_at having c ≡ reads_next t false (flag_at (replicate count true)) c 0 true)
    → HaveLength count having
long-having t count having counted characters has n h =
    ap length (has n (omega (arith, h, characters)))
    ∙ length-reads false (flag_at (replicate count true)) n t 0 true ∙ sym counted

-- ---- one set more
set_at-before : (sets : List Marks) (x : Marks) (n : ℕ) → n < length sets → set_at (sets ++ x ∷ []) n ≡ set_at sets n
set_at-before [] x n h = absurd (omega (arith, h))
set_at-before (y ∷ sets) x zero h = refl
set_at-before (y ∷ sets) x (suc n) h = set_at-before sets x n (omega (arith, h))

set_at-last : (sets : List Marks) (x : Marks) → set_at (sets ++ x ∷ []) (length sets) ≡ Marks.flags x
set_at-last [] x = refl
set_at-last (y ∷ sets) x = set_at-last sets x

-- what holds of each set, and of one that comes behind them, holds of each of them all
pub sets-more : (P : ℕ → List Bool → Type 0) (sets after : List Marks) (x : Marks) (n : ℕ) → length sets ≡ n
    → after ≡ sets ++ x ∷ [] → ((p : ℕ) → p < n → P p (set_at sets p)) → P n (Marks.flags x)
    → (p : ℕ) → p < n + 1 → P p (set_at after p)
sets-more P sets after x n e f before here p h =
    subst (λ rs. P p (set_at rs p)) (sym f) (elim (cases_eq p n) as (λ _. P p (set_at (sets ++ x ∷ []) p)) [
      | inl same ↦
          subst (λ k. P k (set_at (sets ++ x ∷ []) k)) (e ∙ sym same)
          (subst (P (length sets)) (sym (set_at-last sets x)) (subst (λ k. P k (Marks.flags x)) (sym e) here))
      | inr other ↦
          subst (P p) (sym (set_at-before sets x p (omega (arith, h, other, e)))) (before p (omega (arith, h, other)))
    ])

pub flags-more : (P : ℕ → Bool → Type 0) (flags after : List Bool) (b : Bool) (n : ℕ) → length flags ≡ n
    → after ≡ flags ++ b ∷ [] → ((p : ℕ) → p < n → P p (flag_at flags p)) → P n b
    → (p : ℕ) → p < n + 1 → P p (flag_at after p)
flags-more P flags after b n e f before here p h =
    subst (λ fs. P p (flag_at fs p)) (sym f) (elim (cases_eq p n) as (λ _. P p (flag_at (flags ++ b ∷ []) p)) [
      | inl same ↦
          subst (λ k. P k (flag_at (flags ++ b ∷ []) k)) (e ∙ sym same)
          (subst (P (length flags)) (sym (flag-last flags b)) (subst (λ k. P k b) (sym e) here))
      | inr other ↦
          subst (P p) (sym (flag-appended flags b p (omega (arith, h, other, e)))) (before p (omega (arith, h, other)))
    ])

-- ---- loops
abbrev none : Marks
none = record { flags = []; room = 0 }

pub set_at-read : (sets : List Marks) (n : ℕ) (x : Marks) → n < length sets → x ≡ get_or sets n x
    → set_at sets n ≡ Marks.flags x
set_at-read sets n x within is = sym (ap Marks.flags (get_or_read sets n x within is none))

abbrev pub Seen : (having : List Marks) (seen : List Bool) (shown : List ℕ) → ℕ → Type 0
Seen having seen shown n =
    ((q : ℕ) → flag_at seen q ≡ true → is_in_some having shown q ≡ true)
    × ((c q : ℕ) → c < n → flag_at (set_at having c) q ≡ true → flag_at seen q ≡ true)

module _ (having : List Marks) (seen : List Bool) (shown : List ℕ) (n : ℕ) (x : Marks) (within : n < length having)
    (is : x ≡ get_or having n x) where
  pub seen-within : Seen having seen shown n → ((p : ℕ) → flag_at (Marks.flags x) p ≡ true → flag_at seen p ≡ true)
      → Seen having seen shown (n + 1)
  seen-within (shows, sees) h = (shows, seen_more) where
    seen_more : (c q : ℕ) → c < n + 1 → flag_at (set_at having c) q ≡ true → flag_at seen q ≡ true
    seen_more c q l e = elim (cases_eq c n) as (λ _. flag_at seen q ≡ true) [
      | inl same ↦
          h q (ap (λ fs. flag_at fs q) (sym (set_at-read having n x within is))
          ∙ sym (ap (λ k. flag_at (set_at having k) q) same) ∙ e)
      | inr other ↦ sees c q (omega (arith, l, other)) e
    ]

  pub seen-joined : (after : List Bool) (longer : List ℕ) → after ≡ or_each seen (Marks.flags x)
      → longer ≡ shown ++ n ∷ [] → Seen having seen shown n → Seen having after longer (n + 1)
  seen-joined after longer joins appends (shows, sees) = (shown_more, seen_more) where
    flag : (q : ℕ) → flag_at after q ≡ (flag_at seen q || flag_at (set_at having n) q)
    flag q =
        ap (λ fs. flag_at fs q) joins ∙ (flags_join seen (Marks.flags x) q).0
        ∙ ap (λ fs. flag_at seen q || flag_at fs q) (sym (set_at-read having n x within is))

    shown_more : (q : ℕ) → flag_at after q ≡ true → is_in_some having longer q ≡ true
    shown_more q e =
        ap (λ cs. is_in_some having cs q) appends ∙ in_some-append having shown n q
        ∙ more (flag_at seen q) (flag_at (set_at having n) q) (is_in_some having shown q) (flag_at (set_at having n) q)
        (shows q) (λ f. f) (sym (flag q) ∙ e)

    seen_more : (c q : ℕ) → c < n + 1 → flag_at (set_at having c) q ≡ true → flag_at after q ≡ true
    seen_more c q l e = flag q ∙ elim (cases_eq c n) as (λ _. (flag_at seen q || flag_at (set_at having n) q) ≡ true) [
      | inl same ↦
          ap (λ b. flag_at seen q || b) (sym (ap (λ k. flag_at (set_at having k) q) same) ∙ e)
          ∙ or-true (flag_at seen q)
      | inr other ↦ ap (λ b. b || flag_at (set_at having n) q) (sees c q (omega (arith, l, other)) e)
    ]

pub seen-same : (having : List Marks) (seen : List Bool) (shown : List ℕ) (after : List Bool) (longer : List ℕ) (n : ℕ)
    → after ≡ seen → longer ≡ shown → Seen having seen shown n → Seen having after longer n
seen-same having seen shown after longer n e f (shows, sees) = (
  (λ q g. ap (λ cs. is_in_some having cs q) f ∙ shows q (sym (ap (λ fs. flag_at fs q) e) ∙ g)),
  (λ c q l g. ap (λ fs. flag_at fs q) e ∙ sees c q l g),
)

-- a walk that begins with no flags
pub from_none : (t : Tree) (read : ℕ → Bool) (c : ℕ) (b : Bool) (start reads : List Bool) → start ≡ []
    → reads ≡ start ++ reads_next t false read c (length start) b → reads ≡ reads_next t false read c 0 b
from_none t read c b start reads e f = f ∙ ap (λ fs. fs ++ reads_next t false read c (length fs) b) e

-- one more character tested
pub follow_set-more : (t : Tree) (read : ℕ → Bool) (begins : Bool) (cs : List ℕ) (i c : ℕ)
    (flags reads after : List Bool)
    → i < length cs → c ≡ get_or cs i c
    → ((q : ℕ) → flag_at flags q ≡ (flag_at (may_follow t false read 0 begins) q && is_shown t (take i cs) q))
    → reads ≡ reads_next t false read c 0 begins → after ≡ or_each flags reads
    → (q : ℕ) → flag_at after q ≡ (flag_at (may_follow t false read 0 begins) q && is_shown t (take (i + 1) cs) q)
follow_set-more t read begins cs i c flags reads after within is before e f q =
    ap (λ fs. flag_at fs q) f
    ∙ (flags_join flags reads q).0
    ∙ ap₂ (λ a b. a || b) (before q)
    (ap (λ fs. flag_at fs q) (e ∙ next_asks_sets t false read c 0 begins)
    ∙ (flags_join (may_follow t false read 0 begins) (sets_have (sets_of t) c) q).1)
    ∙ sym
    (and-or_distrib_left (flag_at (may_follow t false read 0 begins) q) (is_shown t (take i cs) q)
    (flag_at (sets_have (sets_of t) c) q))
    ∙ ap (λ b. flag_at (may_follow t false read 0 begins) q && b)
    (sym (ap (λ ds. is_shown t ds q) (more_taken) ∙ shown-append t (take i cs) c q)) where
      more_taken : take (i + 1) cs ≡ take i cs ++ c ∷ []
      more_taken = take_more cs i c within ∙ ap (λ d. take i cs ++ d ∷ []) (sym is)
