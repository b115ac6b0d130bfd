-- The types that words are read as are the kinds that the words name.
use Rattle.std.proofs.Common.{◌≡◌, ℕ, List, [], ◌∷◌, filter_map, Bool, true, false, ◌||◌, not, cond, Option, Some, None, codes, refl, ap, sym, subst, ◌∙◌}
use Rattle.std.specs.List.{cons_option}
use Rattle.std.proofs.lemmas.Bool.{and_parts}
use Rattle.documents.specs.Tests.{every, some, same_word}
use Rattle.documents.specs.Kind.{Kind, Null, Boolean, Number, Text, Array, Object, all_kinds, same_kind}
use Rattle.documents.specs.Document.{Document, kind_of}
use Rattle.documents.specs.Json.{Json, array, elements}
use Rattle.schemas.specs.Entry.{TypeName}
use Rattle.schemas.specs.Entry as E
use Rattle.schemas.specs.Entries.{word, type_named, types_of}
use Rattle.schemas.specs.Schema.{if_there}
use Rattle.draft06.specs.Validity.{names_kind, type_names}
use Rattle.draft06.specs.EntryValidity.{kind_named, has_type}
use Rattle.levels.proofs.LevelsLaws.{everywhere}
use Rattle.draft06_laws.proofs.Lists.{some_same}
use Rattle.std.proofs.Math.Bool.{or-false}
use Rattle.list_laws.proofs.Tests.{same_word-true}

-- the type is of that kind
abbrev is_named : Kind → TypeName → Bool
is_named k t = same_kind k (kind_named t)

-- the word is read as a type of that kind
abbrev is_read : Kind → List ℕ → Bool
is_read k w = if_there false (is_named k) (type_named w)

abbrev agree : Bool → Bool → Bool
agree a b = cond a b (not b)

agree-eq : (a b : Bool) → agree a b ≡ true → a ≡ b
agree-eq true b h = sym h
agree-eq false true h = h
agree-eq false false h = refl

abbrev all_agree : List ℕ → Bool
all_agree w = every (λ k. agree (is_read k w) (names_kind w k)) all_kinds

of_all : (test : Kind → Bool) → every test all_kinds ≡ true → (k : Kind) → test k ≡ true
of_all test h Null = let p1 = and_parts (test Null) _ h in p1.0
of_all test h Boolean = let p1 = and_parts (test Null) _ h in let p2 = and_parts (test Boolean) _ p1.1 in p2.0
of_all test h Number =
    let p1 = and_parts (test Null) _ h in let p2 = and_parts (test Boolean) _ p1.1 in
    let p3 = and_parts (test Number) _ p2.1 in p3.0
of_all test h Text =
    let p1 = and_parts (test Null) _ h in let p2 = and_parts (test Boolean) _ p1.1 in
    let p3 = and_parts (test Number) _ p2.1 in let p4 = and_parts (test Text) _ p3.1 in p4.0
of_all test h Array =
    let p1 = and_parts (test Null) _ h in let p2 = and_parts (test Boolean) _ p1.1 in
    let p3 = and_parts (test Number) _ p2.1 in let p4 = and_parts (test Text) _ p3.1 in
    let p5 = and_parts (test Array) _ p4.1 in p5.0
of_all test h Object =
    let p1 = and_parts (test Null) _ h in let p2 = and_parts (test Boolean) _ p1.1 in
    let p3 = and_parts (test Number) _ p2.1 in let p4 = and_parts (test Text) _ p3.1 in
    let p5 = and_parts (test Array) _ p4.1 in let p6 = and_parts (test Object) _ p5.1 in p6.0

-- each word that names a type is read as a type of that kind
at_word : (k : Kind) (w x : List ℕ) → same_word w x ≡ true → all_agree x ≡ true → is_read k w ≡ names_kind w k
at_word k w x h all =
    subst (λ u. is_read k u ≡ names_kind u k) (sym (same_word-true w x h))
    (agree-eq (is_read k x) (names_kind x k) (of_all (λ j. agree (is_read j x) (names_kind x j)) all k))

-- what the tests of a word say of the types that it is read as, and of the kinds that it names
abbrev read_by : Kind → (b1 b2 b3 b4 b5 b6 b7 : Bool) → Bool
read_by k b1 b2 b3 b4 b5 b6 b7 =
    if_there false (is_named k) (cond b1 (Some E.Null) (cond b2 (Some E.Boolean) (cond b3 (Some E.Object)
    (cond b4 (Some E.Array) (cond b5 (Some E.Number) (cond b6 (Some E.Text) (cond b7 (Some E.Integer) None)))))))

abbrev named_by : Kind → (b1 b2 b3 b4 b5 b6 b7 : Bool) → Bool
named_by Null b1 b2 b3 b4 b5 b6 b7 = b1
named_by Boolean b1 b2 b3 b4 b5 b6 b7 = b2
named_by Number b1 b2 b3 b4 b5 b6 b7 = b5 || b7
named_by Text b1 b2 b3 b4 b5 b6 b7 = b6
named_by Array b1 b2 b3 b4 b5 b6 b7 = b4
named_by Object b1 b2 b3 b4 b5 b6 b7 = b3

named_as : (w : List ℕ) (k : Kind) → names_kind w k
    ≡ named_by k (same_word w (codes "null")) (same_word w (codes "boolean")) (same_word w (codes "object"))
    (same_word w (codes "array")) (same_word w (codes "number")) (same_word w (codes "string"))
    (same_word w (codes "integer"))
named_as w Null = refl
named_as w Boolean = refl
named_as w Number = refl
named_as w Text = refl
named_as w Array = refl
named_as w Object = refl

no_word : (k : Kind) → read_by k false false false false false false false
    ≡ named_by k false false false false false false false
no_word Null = refl
no_word Boolean = refl
no_word Number = refl
no_word Text = refl
no_word Array = refl
no_word Object = refl

module _ (k : Kind) (w : List ℕ) where
  abbrev Agrees : Type 0
  Agrees = is_read k w ≡ names_kind w k

  or_word : (x : List ℕ) → all_agree x ≡ true → (same_word w x ≡ false → Agrees) → Agrees
  or_word x all otherwise = go (same_word w x) refl
    where
      go : (b : Bool) → same_word w x ≡ b → Agrees
      go true h = at_word k w x h all
      go false h = otherwise h

  pub is_read-names : is_read k w ≡ names_kind w k
  is_read-names =
      or_word (codes "null") refl (λ h1. or_word (codes "boolean") refl (λ h2. or_word (codes "object") refl
      (λ h3. or_word (codes "array") refl (λ h4. or_word (codes "number") refl (λ h5. or_word (codes "string") refl
      (λ h6. or_word (codes "integer") refl (λ h7. rw (named_as w k, h1, h2, h3, h4, h5, h6, h7) (no_word k))))))))

some-filter_map : {A B : Type 0} (p : B → Bool) (f : A → Option B) (xs : List A)
    → some p (filter_map f xs) ≡ some (λ x. if_there false p (f x)) xs
some-filter_map p f [] = refl
some-filter_map {A} {B} p f (x ∷ xs) = go (f x) (some-filter_map p f xs)
  where
    go : (o : Option B) → some p (filter_map f xs) ≡ some (λ x. if_there false p (f x)) xs
        → some p (cons_option o (filter_map f xs)) ≡ (if_there false p o || some (λ x. if_there false p (f x)) xs)
    go None e = e
    go (Some y) e = ap (λ b. p y || b) e

one_type : (J : Document) (w : List ℕ) → some (has_type J) (filter_map (λ x. type_named x) (w ∷ []))
    ≡ names_kind w (kind_of J)
one_type J w =
    some-filter_map (has_type J) (λ x. type_named x) (w ∷ [])
    ∙ or-false (is_read (kind_of J) w) ∙ is_read-names (kind_of J) w

-- the types of a keyword's value
pub types_name : (J : Document) (v : Json) → some (has_type J) (types_of v) ≡ type_names (kind_of J) v
types_name J (array vs) =
    some-filter_map (has_type J) (λ v. type_named (word v)) (elements vs)
    ∙ some_same (λ v. is_read (kind_of J) (word v)) (λ v. names_kind (word v) (kind_of J)) (elements vs)
    (everywhere _ (elements vs) (λ v. is_read-names (kind_of J) (word v)))
types_name J v = one_type J (word v)
