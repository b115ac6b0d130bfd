-- A form that is decided alone is met where the document itself and its parts are as it asks.
use Rattle.std.proofs.Common.{◌≡◌, ℕ, List, [], ◌∷◌, ◌++◌, map, Bool, true, false, ◌&&◌, not, Option, Some, None, refl, sym, ap, subst, ◌∙◌, true≢false}
use Rattle.std.proofs.lemmas.Bool.{and_parts}
use Rattle.std.specs.List.{AllByRecursion}
use Rattle.documents.specs.Tests.{every}
use Rattle.documents.specs.Document.{Document, string}
use Rattle.levels.proofs.LevelsLaws.{everywhere}
use Rattle.schemas.specs.Entry.{Entry, Form, Always, Never, Ref, Asks, Keywords}
use Rattle.schemas.specs.Schema.{in_place, of_parts, lists, meets, one, all, of_needs}
use Rattle.draft06.specs.EntryValidity.{asks, form_at}
use Rattle.draft06_laws.proofs.EntryLaws.{entry_valid-asks}
use Rattle.draft06_laws.proofs.EntryLocal.{asks_same}
use Rattle.js_match.specs.Matching.{matches}
use Rattle.js_valid.specs.Parts.{flag, own, parts, of_contains, of_element, of_member, of_name}
use Rattle.js_valid.specs.Plain.{is_absent, is_plain, is_scalar, reference}
use Rattle.js_valid.specs.Plan.{IsPlan, valid_at}
use Rattle.js_valid.specs.Requests.{contained, each_at, parts_list, parts_members}
use Rattle.js_valid.proofs.DecideLaws.{list-done, members-done, scalar-parts}
use Rattle.js_valid.proofs.Halves.{asks-halves}

and_true : (a : Bool) → (a && true) ≡ a
and_true true = refl
and_true false = refl

every-true : {A : Type 0} (xs : List A) → true ≡ every (λ (x : A). true) xs
every-true [] = refl
every-true (x ∷ xs) = every-true xs

absent : {A : Type 0} (o : Option A) → is_absent o ≡ true → o ≡ None
absent None h = refl
absent (Some x) h = absurd (true≢false (sym h))

pub record Plain (k : Keywords) : Type 0 where
  pub all_of : k.all_of ≡ None
  pub any_of : k.any_of ≡ None
  pub one_of : k.one_of ≡ None
  pub negated : k.not ≡ None
  pub dependencies : k.dependencies ≡ None
  pub contains : k.contains ≡ None
  pub names : k.property_names ≡ None

plain_of : (k : Keywords) → is_plain (Asks k) ≡ true → Plain k
plain_of k h =
    let six = and_parts _ (is_absent k.property_names) h in
    let five = and_parts _ (is_absent k.contains) six.0 in
    let four = and_parts _ (is_absent k.dependencies) five.0 in
    let three = and_parts _ (is_absent k.not) four.0 in
    let two = and_parts _ (is_absent k.one_of) three.0 in
    let first = and_parts (is_absent k.all_of) (is_absent k.any_of) two.0 in
    record {
      all_of = absent k.all_of first.0;
      any_of = absent k.any_of first.1;
      one_of = absent k.one_of two.1;
      negated = absent k.not three.1;
      dependencies = absent k.dependencies four.1;
      contains = absent k.contains five.1;
      names = absent k.property_names six.1;
    }

plain-place : (f : Form) → is_plain f ≡ true → in_place f ≡ []
plain-place Always h = refl
plain-place Never h = refl
plain-place (Ref e) h = absurd (true≢false (sym h))
plain-place (Asks k) h =
    let p = plain_of k h in
    ap (λ o. lists all o ++ lists all k.any_of ++ lists all k.one_of ++ lists one k.not
    ++ lists of_needs k.dependencies) p.all_of
    ∙ ap (λ o. [] ++ lists all o ++ lists all k.one_of ++ lists one k.not ++ lists of_needs k.dependencies) p.any_of
    ∙ ap (λ o. [] ++ [] ++ lists all o ++ lists one k.not ++ lists of_needs k.dependencies) p.one_of
    ∙ ap (λ o. [] ++ [] ++ [] ++ lists one o ++ lists of_needs k.dependencies) p.negated
    ∙ ap (λ o. [] ++ [] ++ [] ++ [] ++ lists of_needs o) p.dependencies

plain-contains : (f : Form) → is_plain f ≡ true → contained f ≡ None
plain-contains Always h = refl
plain-contains Never h = refl
plain-contains (Ref e) h = refl
plain-contains (Asks k) h = (plain_of k h).contains

plain-names : (f : Form) → is_plain f ≡ true → of_name f ≡ []
plain-names Always h = refl
plain-names Never h = refl
plain-names (Ref e) h = refl
plain-names (Asks k) h = ap (lists one) (plain_of k h).names

module _ (es : List Entry) (order : List ℕ) (plan : IsPlan es order) where
  valid-asks : (e : ℕ) (J : Document)
      → valid_at es e J ≡ asks matches (λ q. valid_at es q J) (valid_at es) (form_at es e) J
  valid-asks e J = entry_valid-asks matches es plan.table plan.rank plan.falls e J

  pub refers : (e t : ℕ) (J : Document) → Some t ≡ reference (form_at es e) → valid_at es t J ≡ valid_at es e J
  refers e t J h = sym (valid-asks e J ∙ go (form_at es e) h)
    where
      go : (f : Form) → Some t ≡ reference f → asks matches (λ q. valid_at es q J) (valid_at es) f J ≡ valid_at es t J
      go Always h = absurd (some≢none h)
        where
          some≢none : Some t ≡ None → ⊥
          some≢none h = true≢false (ap (λ o. is_absent o) (sym h))
      go Never h = absurd (true≢false (ap (λ o. is_absent o) (sym h)))
      go (Ref e) h = ap (λ q. valid_at es q J) (sym (inside h))
        where
          get : Option ℕ → ℕ
          get None = e
          get (Some x) = x

          inside : Some t ≡ Some e → t ≡ e
          inside h = ap get h
      go (Asks k) h = absurd (true≢false (ap (λ o. is_absent o) (sym h)))

  -- a plain form is met exactly where the document itself and what it contains are as it requires
  pub plain-valid : (e : ℕ) (f : Form) (J : Document) → f ≡ form_at es e → is_plain f ≡ true
      → (own matches (flag []) f J && parts matches (valid_at es) f J) ≡ valid_at es e J
  plain-valid e f J is h =
      let here : AllByRecursion (λ q. flag [] q ≡ valid_at es q J) (in_place f) =
      subst (AllByRecursion (λ q. flag [] q ≡ valid_at es q J)) (sym (plain-place f h)) tt in
      sym (asks-halves matches (flag []) (valid_at es) f J)
      ∙ asks_same matches (flag []) (λ q. valid_at es q J) (valid_at es) (valid_at es) f J here
      (everywhere _ (of_parts f) (λ q K l. refl))
      ∙ ap (λ g. asks matches (λ q. valid_at es q J) (valid_at es) g J) is ∙ sym (valid-asks e J)

  -- where there are no parts, the document itself is all
  pub own-valid : (J : Document) → is_scalar J ≡ true → (qs : List ℕ)
      → every (λ q. is_plain (form_at es q)) qs ≡ true
      → map (λ q. own matches (flag []) (form_at es q) J) qs ≡ map (λ q. valid_at es q J) qs
  own-valid J scalar [] h = refl
  own-valid J scalar (q ∷ qs) h =
      let form = form_at es q in
      let plain = and_parts (is_plain form) (every (λ p. is_plain (form_at es p)) qs) h in
      ap (λ b. b ∷ map (λ p. own matches (flag []) (form_at es p) J) qs)
      (sym (and_true (own matches (flag []) form J))
      ∙ sym (ap (λ b. own matches (flag []) form J && b) (scalar-parts form (valid_at es) J scalar))
      ∙ plain-valid q form J refl plain.0)
      ∙ ap (λ bs. valid_at es q J ∷ bs) (own-valid J scalar qs plain.1)

module _ (below : ℕ → Document → Bool) (f : Form) (plain : is_plain f ≡ true) where
  pub plain-list : (ds : List Document) (a : Bool)
      → a ≡ each_at (λ i d. every (λ q. below q d) (of_element f i)) 0 ds → a ≡ parts_list below f ds
  plain-list ds a h =
      let none = every (λ d. every (λ q. not (below q d)) (of_contains f)) ds in
      sym (and_true a) ∙ sym (ap (λ o. a && meets (λ q. not none) o) (plain-contains f plain))
      ∙ list-done below f ds a none h refl

  pub plain-members : (ms : List (List ℕ × Document)) (a : Bool)
      → a ≡ every (λ m. every (λ q. below q m.1) (of_member matches f m.0)) ms → a ≡ parts_members matches below f ms
  plain-members ms a h =
      h ∙ sym (every-alike ms) ∙ members-done below f ms
    where
      one_alike : (b : Bool) (m : List ℕ × Document) → (b && every (λ q. below q (string m.0)) (of_name f)) ≡ b
      one_alike b m = ap (λ qs. b && every (λ q. below q (string m.0)) qs) (plain-names f plain) ∙ and_true b

      every-alike : (ms : List (List ℕ × Document))
          → every (λ m. every (λ q. below q m.1) (of_member matches f m.0) && every (λ q. below q (string m.0))
          (of_name f)) ms
          ≡ every (λ m. every (λ q. below q m.1) (of_member matches f m.0)) ms
      every-alike [] = refl
      every-alike (m ∷ ms) =
          ap (λ b. b && every (λ m. every (λ q. below q m.1) (of_member matches f m.0) && every (λ q. below q
          (string m.0)) (of_name f)) ms) (one_alike (every (λ q. below q m.1) (of_member matches f m.0)) m)
          ∙ ap (λ b. every (λ q. below q m.1) (of_member matches f m.0) && b) (every-alike ms)

pub every-mapped : (p : ℕ → Bool) (xs : List ℕ) → every (λ (b : Bool). b) (map p xs) ≡ every p xs
every-mapped p [] = refl
every-mapped p (x ∷ xs) = ap (λ b. p x && b) (every-mapped p xs)
