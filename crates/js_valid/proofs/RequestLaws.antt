-- What is requested of a part, request by request and owner by owner.
use Rattle.std.proofs.Common.{◌≡◌, ℕ, zero, suc, ◌+◌, ◌<◌, ◌≤◌, List, [], ◌∷◌, ◌++◌, map, drop, drop-cons, add-one, length, get_or, Bool, true, false, ◌||◌, ◌&&◌, not, nat_eq, nat_lt, refl, sym, ap, ◌∙◌, arith}
use Rattle.std.proofs.lemmas.Bool.{and_parts, eq-eqb, ltb-true, lt-ltb}
use Rattle.std.proofs.lemmas.List.{map-append}
use Rattle.documents.specs.Tests.{every}
use Rattle.schemas.specs.Entry.{Entry, Form}
use Rattle.draft06.specs.EntryValidity.{form_at}
use Rattle.js_valid.specs.Parts.{asked_by, answered, of_listed}
use Rattle.js_valid.specs.Requests.{AskedByOwners, AsksMore, at_owner, asks_of, entries_in, owners_in}
use Rattle.js_valid.specs.declared.request.Request.{Request}

and_assoc : (a b c : Bool) → ((a && b) && c) ≡ (a && (b && c))
and_assoc true b c = refl
and_assoc false b c = refl

and_true : (a : Bool) → (a && true) ≡ a
and_true true = refl
and_true false = refl

-- ---- one more request

pub asked_by-one : (e o q : ℕ) (p : ℕ → Bool) (os qs : List ℕ) → length os ≡ length qs
    → asked_by e p (os ++ o ∷ []) (qs ++ q ∷ []) ≡ (asked_by e p os qs && (not (nat_eq o e) || p q))
asked_by-one e o q p [] [] h = and_true (not (nat_eq o e) || p q)
asked_by-one e o q p [] (r ∷ qs) h = absurd (omega (arith, h))
asked_by-one e o q p (n ∷ os) [] h = absurd (omega (arith, h))
asked_by-one e o q p (n ∷ os) (r ∷ qs) h =
    ap (λ b. (not (nat_eq n e) || p r) && b) (asked_by-one e o q p os qs (omega (arith, h)))
    ∙ sym (and_assoc (not (nat_eq n e) || p r) (asked_by e p os qs) (not (nat_eq o e) || p q))

or_every : (a x y : Bool) → ((not a || x) && (not a || y)) ≡ (not a || (x && y))
or_every true x y = refl
or_every false x y = refl

pub cons_at : (xs : List ℕ) (i : ℕ) → i < length xs → drop i xs ≡ get_or xs i 0 ∷ drop (i + 1) xs
cons_at xs i h = rw (add-one, drop-cons xs i 0) refl

pub add_next : (owner : ℕ) (entries : List ℕ) (i : ℕ) (os qs os' qs' : List ℕ) (target : ℕ → (ℕ → Bool) → Bool)
    → i < length entries → length os ≡ length qs → os' ≡ os ++ owner ∷ [] → qs' ≡ qs ++ get_or entries i 0 ∷ []
    → ((e : ℕ) (p : ℕ → Bool) → (asked_by e p os qs && (not (nat_eq owner e) || every p (drop i entries))) ≡ target e p)
    → (e : ℕ) (p : ℕ → Bool) → (asked_by e p os' qs' && (not (nat_eq owner e) || every p (drop (i + 1) entries)))
    ≡ target e p
add_next owner entries i os qs os' qs' target less len eo eq h e p =
    let q = get_or entries i 0 in
    let rest = every p (drop (i + 1) entries) in
    ap (λ xs. asked_by e p xs qs' && (not (nat_eq owner e) || rest)) eo
    ∙ ap (λ xs. asked_by e p (os ++ owner ∷ []) xs && (not (nat_eq owner e) || rest)) eq
    ∙ ap (λ b. b && (not (nat_eq owner e) || rest)) (asked_by-one e owner q p os qs len)
    ∙ and_assoc (asked_by e p os qs) (not (nat_eq owner e) || p q) (not (nat_eq owner e) || rest)
    ∙ ap (λ b. asked_by e p os qs && b) (or_every (nat_eq owner e) (p q) rest)
    ∙ ap (λ xs. asked_by e p os qs && (not (nat_eq owner e) || every p xs)) (sym (cons_at entries i less))
    ∙ h e p

-- ---- one more owner

-- the tests from one owner on are its own and those after it
pub at_owner-next : (test : ℕ → ℕ → Bool) (e : ℕ) (owners : List ℕ) (i : ℕ) → i < length owners
    → at_owner test e i (drop i owners)
    ≡ ((not (nat_eq i e) || test i (get_or owners i 0)) && at_owner test e (i + 1) (drop (i + 1) owners))
at_owner-next test e owners i less =
    ap (at_owner test e i) (cons_at owners i less)
    ∙ ap (λ n. (not (nat_eq i e) || test i (get_or owners i 0)) && at_owner test e n (drop (i + 1) owners))
    (sym (add-one i))

pub owner_next : (es : List Entry) (of : Form → List ℕ) (owners : List ℕ) (i : ℕ) (form : Form) (os qs os' qs' : List ℕ)
    → i < length owners → form ≡ form_at es (get_or owners i 0) → AsksMore i (of form) os qs os' qs'
    → ((e : ℕ) (p : ℕ → Bool) → (asked_by e p os qs && at_owner (asks_of es of p) e i (drop i owners))
    ≡ at_owner (asks_of es of p) e 0 owners)
    → (e : ℕ) (p : ℕ → Bool) → (asked_by e p os' qs' && at_owner (asks_of es of p) e (i + 1) (drop (i + 1) owners))
    ≡ at_owner (asks_of es of p) e 0 owners
owner_next es of owners i form os qs os' qs' less is more h e p =
    let rest = at_owner (asks_of es of p) e (i + 1) (drop (i + 1) owners) in
    ap (λ b. b && rest) (more e p)
    ∙ and_assoc (asked_by e p os qs) (not (nat_eq i e) || every p (of form)) rest
    ∙ ap (λ f. asked_by e p os qs && ((not (nat_eq i e) || every p (of f)) && rest)) is
    ∙ ap (λ b. asked_by e p os qs && b) (sym (at_owner-next (asks_of es of p) e owners i less))
    ∙ h e p

-- a test that is taken from the one at the place
pub refused_next : (test : ℕ → ℕ → Bool) (e : ℕ) (owners : List ℕ) (i : ℕ) (was now met whole : Bool)
    → i < length owners → now ≡ (was && (not (nat_eq i e) || met)) → met ≡ test i (get_or owners i 0)
    → (was && at_owner test e i (drop i owners)) ≡ whole
    → (now && at_owner test e (i + 1) (drop (i + 1) owners)) ≡ whole
refused_next test e owners i was now met whole less is own h =
    let rest = at_owner test e (i + 1) (drop (i + 1) owners) in
    ap (λ b. b && rest) is ∙ and_assoc was (not (nat_eq i e) || met) rest
    ∙ ap (λ b. was && ((not (nat_eq i e) || b) && rest)) own
    ∙ ap (λ b. was && b) (sym (at_owner-next test e owners i less)) ∙ h

-- past the place nothing is requested of it
at_owner-past : (test : ℕ → ℕ → Bool) (e i : ℕ) (owners : List ℕ) → e < i → at_owner test e i owners ≡ true
at_owner-past test e i [] h = refl
at_owner-past test e i (o ∷ owners) h =
    ap (λ b. (not b || test i o) && at_owner test e (suc i) owners) (other i e h)
    ∙ at_owner-past test e (suc i) owners (omega (arith, h))
  where
    other : (i e : ℕ) → e < i → nat_eq i e ≡ false
    other i e h = grind arith

at_owner-there : (test : ℕ → ℕ → Bool) (e i j : ℕ) (owners : List ℕ) → e ≡ i + j → j < length owners
    → at_owner test e i owners ≡ test e (get_or owners j 0)
at_owner-there test e i j [] is less = absurd (omega (arith, less))
at_owner-there test e i zero (o ∷ owners) is less =
    let same : i ≡ e = omega (arith, is) in
    ap (λ b. (not b || test i o) && at_owner test e (suc i) owners) (eq-eqb i e same)
    ∙ ap (λ b. test i o && b) (at_owner-past test e (suc i) owners (omega (arith, is)))
    ∙ and_true (test i o) ∙ ap (λ n. test n o) same
at_owner-there test e i (suc j) (o ∷ owners) is less =
    ap (λ b. (not b || test i o) && at_owner test e (suc i) owners) (other i e j is)
    ∙ at_owner-there test e (suc i) j owners (omega (arith, is)) (omega (arith, less))
  where
    other : (i e j : ℕ) → e ≡ i + suc j → nat_eq i e ≡ false
    other i e j h = grind arith

-- of each owner its own test
pub owner_one : (test : ℕ → ℕ → Bool) (e : ℕ) (owners : List ℕ) → e < length owners
    → at_owner test e 0 owners ≡ test e (get_or owners e 0)
owner_one test e owners less = at_owner-there test e 0 e owners (omega arith) less

-- of all owners, each by its own place
pub owners_done : (es : List Entry) (of : Form → List ℕ) (owners : List ℕ) (i : ℕ) (os qs : List ℕ)
    → length owners ≤ i
    → ((e : ℕ) (p : ℕ → Bool) → (asked_by e p os qs && at_owner (asks_of es of p) e i (drop i owners))
    ≡ at_owner (asks_of es of p) e 0 owners)
    → AskedByOwners es of owners os qs
owners_done es of owners i os qs end h e p less =
    sym (and_true (asked_by e p os qs))
    ∙ ap (λ xs. asked_by e p os qs && at_owner (asks_of es of p) e i xs) (sym (none owners i end))
    ∙ h e p ∙ owner_one (asks_of es of p) e owners less
  where
    none : (xs : List ℕ) (n : ℕ) → length xs ≤ n → drop n xs ≡ []
    none [] zero h = refl
    none [] (suc n) h = refl
    none (x ∷ xs) zero h = absurd (omega (arith, h))
    none (x ∷ xs) (suc n) h = none xs n (omega (arith, h))

pub answered-asked : (e : ℕ) (p : ℕ → Bool) (os qs : List ℕ) → answered e os (map p qs) ≡ asked_by e p os qs
answered-asked e p [] qs = refl
answered-asked e p (o ∷ os) [] = refl
answered-asked e p (o ∷ os) (q ∷ qs) = ap (λ b. (not (nat_eq o e) || p q) && b) (answered-asked e p os qs)

-- ---- lists of schemas

pub of_listed-at : (es rest : List ℕ) (i : ℕ) → i < length es → get_or es i 0 ∷ [] ≡ of_listed es rest i
of_listed-at [] rest i h = absurd (omega (arith, h))
of_listed-at (e ∷ es) rest zero h = refl
of_listed-at (e ∷ es) rest (suc i) h = of_listed-at es rest i (omega (arith, h))

pub of_listed-past : (es rest : List ℕ) (i : ℕ) → length es ≤ i → rest ≡ of_listed es rest i
of_listed-past [] rest i h = refl
of_listed-past (e ∷ es) rest zero h = absurd (omega (arith, h))
of_listed-past (e ∷ es) rest (suc i) h = of_listed-past es rest i (omega (arith, h))

pub owner_below : (n : ℕ) (owners : List ℕ) (i : ℕ) → every (λ o. nat_lt o n) owners ≡ true → i < length owners
    → get_or owners i 0 < n
owner_below n [] i h l = absurd (omega (arith, l))
owner_below n (o ∷ owners) zero h l = ltb-true o n (and_parts (nat_lt o n) (every (λ x. nat_lt x n) owners) h).0
owner_below n (o ∷ owners) (suc i) h l =
    owner_below n owners i (and_parts (nat_lt o n) (every (λ x. nat_lt x n) owners) h).1 (omega (arith, l))

-- each of a list is below a number
pub every-got : (n : ℕ) (owners : List ℕ) → ((i : ℕ) → i < length owners → get_or owners i 0 < n)
    → every (λ o. nat_lt o n) owners ≡ true
every-got n [] h = refl
every-got n (o ∷ owners) h =
    ap (λ b. b && every (λ x. nat_lt x n) owners) (lt-ltb o n (h 0 (omega arith)))
    ∙ every-got n owners (λ i l. h (suc i) (omega (arith, l)))

-- ---- requests

pub requests-long : (rs : List Request) → length (owners_in rs) ≡ length (entries_in rs)
requests-long [] = refl
requests-long (r ∷ rs) = ap suc (requests-long rs)

pub entries-long : (rs : List Request) → length (entries_in rs) ≡ length rs
entries-long [] = refl
entries-long (r ∷ rs) = ap suc (entries-long rs)

pub owners-added : (rs rs' : List Request) (r : Request) → rs' ≡ rs ++ r ∷ []
    → owners_in rs' ≡ owners_in rs ++ r.owner ∷ []
owners-added rs rs' r h = ap owners_in h ∙ map-append (λ r. r.owner) rs (r ∷ [])

pub entries-added : (rs rs' : List Request) (r : Request) → rs' ≡ rs ++ r ∷ []
    → entries_in rs' ≡ entries_in rs ++ r.entry ∷ []
entries-added rs rs' r h = ap entries_in h ∙ map-append (λ r. r.entry) rs (r ∷ [])
