-- What the nodes of an object's value require of an object: that it has the same members.
use Rattle.std.proofs.Common.{◌≡◌, ℕ, subst, List, [], ◌∷◌, Bool, true, false, ◌&&◌, ◌||◌, not, map, refl, ap, sym, ◌∙◌, true≢false, arith, nat_eq, nat_lt}
use Rattle.std.proofs.Math.Bool.{and-false}
use Rattle.std.proofs.lemmas.Bool.{and_parts, and_from}
use Rattle.documents.specs.Tests.{every, some, same_word, comes_before, is_scalar}
use Rattle.documents.specs.Document.{Document, Members, no_members, member, entries, is_document, are_members}
use Rattle.documents.specs.Measures.{has_name, every_in, same_document, same_members}
use Rattle.documents.proofs.NameOrder.{comes_before-same, comes_before-trans}
use Rattle.list_laws.proofs.Tests.{same_word-refl, same_word-true}

abbrev pub Named : Type 0
Named = List (List ℕ × Document)

-- names that differ are not the same, whichever comes first
pub same_word-before : (v w : List ℕ) → comes_before v w ≡ true → same_word v w ≡ false
same_word-before v w h = by_test (same_word v w) refl where
  by_test : (b : Bool) → same_word v w ≡ b → b ≡ false
  by_test false e = refl
  by_test true e =
      absurd (true≢false (sym h ∙ ap (λ x. comes_before x w) (same_word-true v w e) ∙ comes_before-same w))

pub same_word-after : (v w : List ℕ) → comes_before w v ≡ true → same_word v w ≡ false
same_word-after v w h = by_test (same_word v w) refl where
  by_test : (b : Bool) → same_word v w ≡ b → b ≡ false
  by_test false e = refl
  by_test true e =
      absurd (true≢false (sym h ∙ ap (λ x. comes_before w x) (same_word-true v w e) ∙ comes_before-same w))

-- all names of the members come after k
abbrev pub all_after : List ℕ → Named → Bool
all_after k ms = every (λ m. comes_before k m.0) ms

pub after_first : (k l : List ℕ) (ms : Named) → comes_before k l ≡ true → all_after l ms ≡ true → all_after k ms ≡ true
after_first k l [] h a = refl
after_first k l (m ∷ ms) h a =
    let parts = and_parts (comes_before l m.0) (all_after l ms) a in
    and_from (comes_before k m.0) (all_after k ms) (comes_before-trans k l m.0 h parts.0)
    (after_first k l ms h parts.1)

pub members_after : (k : List ℕ) (d : Document) (ms : Members) → are_members (member k d ms) ≡ true
    → (all_after k (entries ms) ≡ true) × (are_members ms ≡ true)
members_after k d no_members h = (refl, refl)
members_after k d (member l e ms) h =
    let last = and_parts (every is_scalar k && is_document d && comes_before k l) (are_members (member l e ms)) h in
    let order = and_parts (every is_scalar k && is_document d) (comes_before k l) last.0 in
    let rest = members_after l e ms last.1 in (
      and_from (comes_before k l) (all_after k (entries ms)) order.1
          (after_first k l (entries ms) order.1 rest.0),
      last.1,
    )

-- a name that all come after is none of theirs
pub has_name-after : (k : List ℕ) (ms : Named) → all_after k ms ≡ true → has_name k ms ≡ false
has_name-after k [] h = refl
has_name-after k (m ∷ ms) h =
    let parts = and_parts (comes_before k m.0) (all_after k ms) h in
    rw (same_word-before k m.0 parts.0) (has_name-after k ms parts.1)

pub every_in-after : (k : List ℕ) (p : Document → Bool) (ms : Named) → all_after k ms ≡ true
    → every_in (same_word k) p ms ≡ true
every_in-after k p [] h = refl
every_in-after k p (m ∷ ms) h =
    let parts = and_parts (comes_before k m.0) (all_after k ms) h in
    rw (same_word-before k m.0 parts.0) (every_in-after k p ms parts.1)

-- of two words one comes before the other, or they are one
pub data Order (v w : List ℕ) : Type 0 where
  before : comes_before v w ≡ true → Order v w
  same : v ≡ w → Order v w
  after : comes_before w v ≡ true → Order v w

longer : (c : ℕ) (v w : List ℕ) → Order v w → Order (c ∷ v) (c ∷ w)
longer c v w (before h) = let e : nat_eq c c ≡ true = grind arith in before (rw e h)
longer c v w (same h) = same (ap (λ x. c ∷ x) h)
longer c v w (after h) = let e : nat_eq c c ≡ true = grind arith in after (rw e h)

first_differs : (c d : ℕ) (v w : List ℕ) (test : Bool) → nat_lt c d ≡ test → nat_eq c d ≡ false
    → Order (c ∷ v) (d ∷ w)
first_differs c d v w true h e = before (rw e h)
first_differs c d v w false h e =
    let f : nat_eq d c ≡ false = grind (arith, e) in let g : nat_lt d c ≡ true = grind (arith, h, e) in after (rw f g)

pub order : (v w : List ℕ) → Order v w
order [] [] = same refl
order [] (d ∷ w) = before refl
order (c ∷ v) [] = after refl
order (c ∷ v) (d ∷ w) = by_test (nat_eq c d) refl (order v w) where
  by_test : (b : Bool) → nat_eq c d ≡ b → Order v w → Order (c ∷ v) (d ∷ w)
  by_test false e o = first_differs c d v w (nat_lt c d) refl e
  by_test true e o =
      let one : c ≡ d = grind (arith, e) in let P : ℕ → Type 0 = λ x. Order (c ∷ v) (x ∷ w) in
      subst P one (longer c v w o)

-- each member's name is there, and has its value
abbrev pub have_all : Members → Named → Bool
have_all no_members ns = true
have_all (member k d ms) ns = has_name k ns && (every_in (same_word k) (same_document d) ns && have_all ms ns)

abbrev pub names_of : Members → List (List ℕ)
names_of ms = map (λ m. m.0) (entries ms)

-- there are no other names
abbrev pub none_other : List (List ℕ) → Named → Bool
none_other ks ns = every_in (λ w. not (some (same_word w) ks)) (λ d. false) ns

-- a first member of another name, which all names come after, changes nothing
have_all-first : (l : List ℕ) (e : Document) (ms : Members) (ns : Named) → all_after l (entries ms) ≡ true
    → have_all ms ((l, e) ∷ ns) ≡ have_all ms ns
have_all-first l e no_members ns h = refl
have_all-first l e (member k d ms) ns h =
    let parts = and_parts (comes_before l k) (all_after l (entries ms)) h in
    rw (same_word-after k l parts.0) (ap (λ b. has_name k ns && (every_in (same_word k) (same_document d) ns && b))
    (have_all-first l e ms ns parts.1))

none_other-first : (k : List ℕ) (ks : List (List ℕ)) (ns : Named) → all_after k ns ≡ true
    → none_other (k ∷ ks) ns ≡ none_other ks ns
none_other-first k ks [] h = refl
none_other-first k ks (n ∷ ns) h =
    let parts = and_parts (comes_before k n.0) (all_after k ns) h in
    rw (same_word-after n.0 k parts.0)
    (ap (λ b. (not (not (some (same_word n.0) ks)) || false) && b) (none_other-first k ks ns parts.1))

-- a name that comes before all is none of them
some-after : (l : List ℕ) (ms : Named) → all_after l ms ≡ true → some (same_word l) (map (λ m. m.0) ms) ≡ false
some-after l [] h = refl
some-after l (m ∷ ms) h =
    let parts = and_parts (comes_before l m.0) (all_after l ms) h in
    rw (same_word-before l m.0 parts.0) (some-after l ms parts.1)

and-around : (a b c : Bool) → (((a && true) && b) && c) ≡ (a && (b && c))
and-around true b c = refl
and-around false b c = refl

-- the first names are one: what is left are their values and the other members
one_name : (k : List ℕ) (d e : Document) (ms ns : Members) → all_after k (entries ms) ≡ true
    → all_after k (entries ns) ≡ true
    → (have_all ms (entries ns) && none_other (names_of ms) (entries ns)) ≡ same_members ms ns
    → (have_all (member k d ms) ((k, e) ∷ entries ns) && none_other (k ∷ names_of ms) ((k, e) ∷ entries ns))
    ≡ (same_word k k && same_document d e && same_members ms ns)
one_name k d e ms ns x y rest =
    rw (same_word-refl k) (rw (every_in-after k (same_document d) (entries ns) y)
    (rw (have_all-first k e ms (entries ns) x) (rw (none_other-first k (names_of ms) (entries ns) y)
    (and-around (same_document d e) (have_all ms (entries ns)) (none_other (names_of ms) (entries ns))
    ∙ ap (λ b. same_document d e && b) rest))))

-- an object has all members and no others exactly where its members are the same
pub members_same : (ms ns : Members) → are_members ms ≡ true → are_members ns ≡ true
    → (have_all ms (entries ns) && none_other (names_of ms) (entries ns)) ≡ same_members ms ns
members_same no_members no_members a b = refl
members_same no_members (member l e ns) a b = refl
members_same (member k d ms) no_members a b = refl
members_same (member k d ms) (member l e ns) a b =
    by_order (order k l) (members_after k d ms a) (members_after l e ns b)
    (members_same ms ns (members_after k d ms a).1 (members_after l e ns b).1) where
      by_order : Order k l → (all_after k (entries ms) ≡ true) × (are_members ms ≡ true)
          → (all_after l (entries ns) ≡ true) × (are_members ns ≡ true)
          → (have_all ms (entries ns) && none_other (names_of ms) (entries ns)) ≡ same_members ms ns
          → (have_all (member k d ms) ((l, e) ∷ entries ns) && none_other (k ∷ names_of ms) ((l, e) ∷ entries ns))
          ≡ (same_word k l && same_document d e && same_members ms ns)
      by_order (before h) x y rest =
          let there = has_name-after k (entries ns) (after_first k l (entries ns) h y.0) in
          rw (same_word-before k l h) (rw there refl)
      by_order (after h) x y rest =
          let none = some-after l (entries ms) (after_first l k (entries ms) h x.0) in
          rw (same_word-after k l h) (rw (same_word-before l k h) (rw none (and-false _)))
      by_order (same h) x y rest =
          let P : List ℕ → Type 0 = λ w. all_after w (entries ns) ≡ true in
          let Q : List ℕ → Type 0 = λ w.
          (have_all (member k d ms) ((w, e) ∷ entries ns) && none_other (k ∷ names_of ms) ((w, e) ∷ entries ns))
          ≡ (same_word k w && same_document d e && same_members ms ns) in
          subst Q h (one_name k d e ms ns x.0 (subst P (sym h) y.0) rest)
