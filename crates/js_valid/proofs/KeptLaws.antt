-- What is asked for the sake of owners that have a test, where the others are dropped.
use Rattle.std.proofs.Common.{◌≡◌, ℕ, zero, suc, ◌<◌, List, [], ◌∷◌, length, get_or, filter, Bool, true, false, ◌||◌, ◌&&◌, not, cond, nat_eq, refl, sym, ap, ◌∙◌, arith, true≢false}
use Rattle.std.proofs.lemmas.Bool.{eqb-true, not-true}
use Rattle.documents.specs.Tests.{every}
use Rattle.schemas.specs.Entry.{Entry, Form}
use Rattle.draft06.specs.EntryValidity.{form_at}
use Rattle.js_match.specs.Places.{is_at}
use Rattle.js_valid.specs.Parts.{asked_by, flag}
use Rattle.js_valid.specs.Requests.{AskedAtPlaces, entries_in, owners_in}
use Rattle.js_valid.specs.declared.request.Request.{Request}

-- each owner that has the test requests the entries that its form has for the part; of others nothing is said
abbrev pub AskedWhere : List Entry → (Form → List ℕ) → List ℕ → (ℕ → Bool) → (os qs : List ℕ) → Type 0
AskedWhere es of owners test os qs =
    (e : ℕ) (p : ℕ → Bool) → e < length owners → test e ≡ true
    → asked_by e p os qs ≡ every p (of (form_at es (get_or owners e 0)))

-- one that has the test, and whose place isn't among these, requests nothing
abbrev pub NothingElsewhere : List Entry → (Form → List ℕ) → List ℕ → (ℕ → Bool) → List ℕ → Type 0
NothingElsewhere es of owners test places =
    (i : ℕ) → i < length owners → test i ≡ true → is_at i places ≡ false → of (form_at es (get_or owners i 0)) ≡ []

-- ---- two tests that hold together

pub both-left : (a b : Bool) → (a && b) ≡ true → a ≡ true
both-left true b h = refl
both-left false b h = h

pub both-right : (a b : Bool) → (a && b) ≡ true → b ≡ true
both-right true b h = h
both-right false b h = absurd (true≢false (sym h))

pub left-still : (a b x : Bool) → b ≡ (a && x) → b ≡ true → a ≡ true
left-still a b x is h = both-left a x (sym is ∙ h)

pub where-left : (a x y : Bool) → (a ≡ true → x ≡ y) → (a && x) ≡ (a && y)
where-left true x y h = h refl
where-left false x y h = refl

-- ---- places that are kept

-- one that has the test stays
pub is_at-filter : (test : ℕ → Bool) (q : ℕ) (xs : List ℕ) → test q ≡ true → is_at q (filter test xs) ≡ is_at q xs
is_at-filter test q [] h = refl
is_at-filter test q (x ∷ xs) h = go (test x) refl (nat_eq x q) refl (is_at-filter test q xs h)
  where
    go : (b : Bool) → test x ≡ b → (c : Bool) → nat_eq x q ≡ c → is_at q (filter test xs) ≡ is_at q xs
        → is_at q (cond b (x ∷ filter test xs) (filter test xs)) ≡ (c || is_at q xs)
    go true t c same rest = ap (λ d. d || is_at q (filter test xs)) same ∙ ap (λ d. c || d) rest
    go false t true same rest = absurd (true≢false (sym h ∙ sym (ap test (eqb-true x q same)) ∙ t))
    go false t false same rest = rest

pub within-filter : (test : ℕ → Bool) (n : ℕ) (xs ys : List ℕ) → ys ≡ filter test xs
    → ((k : ℕ) → k < length xs → get_or xs k 0 < n) → (k : ℕ) → k < length ys → get_or ys k 0 < n
within-filter test n xs ys is h = rw is (go xs h)
  where
    next : (b : Bool) (x : ℕ) (ys : List ℕ) → x < n → ((k : ℕ) → k < length ys → get_or ys k 0 < n)
        → (k : ℕ) → k < length (cond b (x ∷ ys) ys) → get_or (cond b (x ∷ ys) ys) k 0 < n
    next true x ys first rest zero less = first
    next true x ys first rest (suc k) less =
        let long : suc k < length (x ∷ ys) = less in
        rest k (omega (arith, long))
    next false x ys first rest k less = rest k less

    go : (xs : List ℕ) → ((k : ℕ) → k < length xs → get_or xs k 0 < n) → (k : ℕ) → k < length (filter test xs)
        → get_or (filter test xs) k 0 < n
    go [] h k less = absurd (omega (arith, less))
    go (x ∷ xs) h k less =
        next (test x) x (filter test xs) (h 0 (omega arith)) (go xs (λ j l. h (suc j) (omega (arith, l)))) k less

pub elsewhere-kept : (es : List Entry) (of : Form → List ℕ) (owners : List ℕ) (test : ℕ → Bool) (places kept : List ℕ)
    → kept ≡ filter test places → NothingElsewhere es of owners test places → NothingElsewhere es of owners test kept
elsewhere-kept es of owners test places kept is h i less has none =
    h i less has (sym (is_at-filter test i places has) ∙ ap (is_at i) (sym is) ∙ none)

-- where fewer have the test
pub elsewhere-fewer : (es : List Entry) (of : Form → List ℕ) (owners : List ℕ) (test fewer : ℕ → Bool) (places : List ℕ)
    → ((i : ℕ) → fewer i ≡ true → test i ≡ true) → NothingElsewhere es of owners test places
    → NothingElsewhere es of owners fewer places
elsewhere-fewer es of owners test fewer places less h i inside has none = h i inside (less i has) none

pub places-asked : (es : List Entry) (of : Form → List ℕ) (owners : List ℕ) (test : ℕ → Bool) (places os qs : List ℕ)
    → NothingElsewhere es of owners test places → AskedAtPlaces es of owners places os qs
    → AskedWhere es of owners test os qs
places-asked es of owners test places os qs others asked e p less has = asked e p ∙ go (is_at e places) refl
  where
    go : (b : Bool) → is_at e places ≡ b
        → (not b || every p (of (form_at es (get_or owners e 0)))) ≡ every p (of (form_at es (get_or owners e 0)))
    go true there = refl
    go false there = sym (ap (every p) (others e less has there))

-- ---- requests that are kept

pub asked-kept : (es : List Entry) (of : Form → List ℕ) (owners : List ℕ) (test : ℕ → Bool) (table : List Bool)
    (os qs os' qs' : List ℕ)
    → ((e : ℕ) → test e ≡ true → flag table e ≡ true)
    → ((e : ℕ) (p : ℕ → Bool) → asked_by e p os' qs' ≡ (not (flag table e) || asked_by e p os qs))
    → AskedWhere es of owners test os qs → AskedWhere es of owners test os' qs'
asked-kept es of owners test table os qs os' qs' has kept h e p less there =
    kept e p ∙ ap (λ b. not b || asked_by e p os qs) (has e there) ∙ h e p less there

pub asked-fewer : (es : List Entry) (of : Form → List ℕ) (owners : List ℕ) (test fewer : ℕ → Bool) (os qs : List ℕ)
    → ((i : ℕ) → fewer i ≡ true → test i ≡ true) → AskedWhere es of owners test os qs
    → AskedWhere es of owners fewer os qs
asked-fewer es of owners test fewer os qs less h e p inside has = h e p inside (less e has)

-- those of owners that have the test
pub asked-filter : (test : ℕ → Bool) (e : ℕ) (p : ℕ → Bool) (rs : List Request)
    → asked_by e p (owners_in (filter (λ r. test r.owner) rs)) (entries_in (filter (λ r. test r.owner) rs))
    ≡ (not (test e) || asked_by e p (owners_in rs) (entries_in rs))
asked-filter test e p [] = sym (or_true (not (test e)))
  where
    or_true : (b : Bool) → (b || true) ≡ true
    or_true true = refl
    or_true false = refl
asked-filter test e p (r ∷ rs) = go (test r.owner) refl (nat_eq r.owner e) refl (asked-filter test e p rs)
  where
    -- whose owner has the test, and whether it is this one
    go : (b : Bool) → test r.owner ≡ b → (c : Bool) → nat_eq r.owner e ≡ c
        → asked_by e p (owners_in (filter (λ r. test r.owner) rs)) (entries_in (filter (λ r. test r.owner) rs))
        ≡ (not (test e) || asked_by e p (owners_in rs) (entries_in rs))
        → asked_by e p (owners_in (cond b (r ∷ filter (λ r. test r.owner) rs) (filter (λ r. test r.owner) rs)))
        (entries_in (cond b (r ∷ filter (λ r. test r.owner) rs) (filter (λ r. test r.owner) rs)))
        ≡ (not (test e) || ((not c || p r.entry) && asked_by e p (owners_in rs) (entries_in rs)))
    go true has c own rest =
        ap (λ d. (not d || p r.entry) && asked_by e p (owners_in (filter (λ r. test r.owner) rs))
        (entries_in (filter (λ r. test r.owner) rs))) own
        ∙ ap (λ d. (not c || p r.entry) && d) rest
        ∙ spread (not (test e)) (not c || p r.entry) (asked_by e p (owners_in rs) (entries_in rs)) (mine c own)
      where
        mine : (c : Bool) → nat_eq r.owner e ≡ c → not (test e) ≡ true → (not c || p r.entry) ≡ true
        mine true own none =
            absurd (true≢false (sym (sym (ap test (eqb-true r.owner e own)) ∙ has) ∙ not-true (test e) none))
        mine false own none = refl

        spread : (a b d : Bool) → (a ≡ true → b ≡ true) → (b && (a || d)) ≡ (a || (b && d))
        spread true b d h = ap (λ x. x && true) (h refl)
        spread false b d h = refl
    go false none true own rest =
        rest ∙ lost (test e) (ap test (sym (eqb-true r.owner e own)) ∙ none)
      where
        lost : (b : Bool) → b ≡ false → (not b || asked_by e p (owners_in rs) (entries_in rs))
            ≡ (not b || ((not true || p r.entry) && asked_by e p (owners_in rs) (entries_in rs)))
        lost true h = absurd (true≢false h)
        lost false h = refl
    go false none false own rest = rest
