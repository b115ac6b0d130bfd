-- A document meets the groups of an `enum` exactly where it is one of the values.
use Rattle.std.proofs.Common.{◌≡◌, ℕ, ℤ, List, [], ◌∷◌, ◌++◌, Bool, true, false, ◌&&◌, ◌||◌, not, cond, Option, Some, None, refl, sym, ◌∙◌, filter}
use Rattle.std.proofs.Math.Bool.{or-false, and-or_distrib_right}
use Rattle.std.proofs.lemmas.Bool.{and_parts, and_from}
use Rattle.std.proofs.lemmas.Bool.Decides.{Decides-int_eq}
use Rattle.std.specs.List.{list_any, filter_map}
use Rattle.std.specs.Ordering.{int_eq}
use Rattle.documents.specs.Tests.{every, some, same_word}
use Rattle.documents.specs.Kind.{Null, Boolean, Number, Text, same_kind}
use Rattle.documents.specs.Document.{Document, null, boolean, number, string, array, object, is_document, kind_of}
use Rattle.documents.specs.Measures.{at_number, at_string, same_document}
use Rattle.positions.specs.Position.{Position, Any, Types, NumIn, Words}
use Rattle.list_laws.proofs.Elements.{some-append}
use Rattle.normal_forms.specs.Nodes.{Maker, nothing, node, both, above, each}
use Rattle.normal_forms.specs.Values.{value_node}
use Rattle.normal_forms.specs.KeywordNodes.{once, is_null, truth_in, number_in, word_in, is_container, one_of_kind, truths, groups}
use Rattle.normal_laws.specs.Making.{IsMeaning, Makes}
use Rattle.normal_laws.proofs.MakingLemmas.{makes-nothing, makes-node, makes-both, makes-any, tests_of}
use Rattle.normal_laws.proofs.ValueNodes.{makes-same, makes-kind, value_makes, kind_test}
use Rattle.normal_laws.proofs.Repeats.{some-once}
use Rattle.list_laws.proofs.Booleans.{or_or_comm}
use Rattle.list_laws.proofs.Tests.{some-alike, same_word_comm, same_word-true}

-- a test of either kind, over a list
some-either : {A : Type 0} (f g : A → Bool) (xs : List A) → some (λ x. f x || g x) xs ≡ (some f xs || some g xs)
some-either f g [] = refl
some-either f g (x ∷ xs) = rw (some-either f g xs) (or_or_comm (f x) (g x) (some f xs) (some g xs))

-- the test of a value that may be there
abbrev passes : {A : Type 0} → (A → Bool) → Option A → Bool
passes p None = false
passes p (Some x) = p x

some-filter_map : {A B : Type 0} (h : A → Option B) (p : B → Bool) (xs : List A)
    → some (λ x. passes p (h x)) xs ≡ some p (filter_map h xs)
some-filter_map h p [] = refl
some-filter_map {B = B} h p (x ∷ xs) = by_value (h x) refl (some-filter_map h p xs) where
  by_value : (o : Option B) → h x ≡ o → some (λ x. passes p (h x)) xs ≡ some p (filter_map h xs)
      → some (λ x. passes p (h x)) (x ∷ xs) ≡ some p (filter_map h (x ∷ xs))
  by_value None e rest = rw e rest
  by_value (Some y) e rest = rw e (rw rest refl)

pub some-filter : {A : Type 0} (q p : A → Bool) (xs : List A) → some (λ x. q x && p x) xs ≡ some p (filter q xs)
some-filter q p [] = refl
some-filter q p (x ∷ xs) = by_test (q x) refl (some-filter q p xs) where
  by_test : (b : Bool) → q x ≡ b → some (λ x. q x && p x) xs ≡ some p (filter q xs)
      → some (λ x. q x && p x) (x ∷ xs) ≡ some p (filter q (x ∷ xs))
  by_test false e rest = rw e rest
  by_test true e rest = rw e (rw rest refl)

some-and : {A : Type 0} (q : A → Bool) (b : Bool) (xs : List A) → some (λ x. q x && b) xs ≡ (some q xs && b)
some-and q b [] = refl
some-and q b (x ∷ xs) = rw (some-and q b xs) (sym (and-or_distrib_right (q x) (some q xs) b))

-- ---- the tests of each group
abbrev pub null_tests : Bool → List (Document → Bool)
null_tests true = kind_test Null ∷ []
null_tests false = []

abbrev pub truth_tests : (false_there true_there : Bool) → List (Document → Bool)
truth_tests true true = kind_test Boolean ∷ []
truth_tests false true = same_document (boolean true) ∷ []
truth_tests true false = same_document (boolean false) ∷ []
truth_tests false false = []

abbrev pub number_test : List ℤ → Document → Bool
number_test ns J = same_kind (kind_of J) Number && at_number (λ x. list_any (λ n. int_eq n x) ns) J

abbrev pub number_tests : List ℤ → List (Document → Bool)
number_tests [] = []
number_tests (n ∷ ns) = number_test (n ∷ ns) ∷ []

abbrev pub word_test : List (List ℕ) → Document → Bool
word_test ws J = same_kind (kind_of J) Text && at_string (λ v. some (same_word v) ws) J

abbrev pub word_tests : List (List ℕ) → List (Document → Bool)
word_tests [] = []
word_tests (w ∷ ws) = word_test (w ∷ ws) ∷ []

abbrev pub false_in : List Document → Bool
false_in ds = some not (filter_map truth_in ds)

abbrev pub true_in : List Document → Bool
true_in ds = some (λ b. b) (filter_map truth_in ds)

abbrev pub group_tests : List Document → List (Document → Bool)
group_tests ds =
    null_tests (some is_null ds)
    ++ (truth_tests (false_in ds) (true_in ds)
    ++ (number_tests (once int_eq (filter_map number_in ds))
    ++ (word_tests (once same_word (filter_map word_in ds)) ++ tests_of same_document (filter is_container ds))))

abbrev one_passes : List (Document → Bool) → Document → Bool
one_passes ps J = some (λ p. p J) ps

-- ---- what each group says of a document
nulls : (b : Bool) (J : Document) → one_passes (null_tests b) J ≡ (b && kind_test Null J)
nulls true J = or-false (kind_test Null J)
nulls false J = refl

either_truth : (J : Document) → kind_test Boolean J ≡ (same_document (boolean false) J || same_document
    (boolean true) J)
either_truth (boolean true) = refl
either_truth (boolean false) = refl
either_truth null = refl
either_truth (number n) = refl
either_truth (string w) = refl
either_truth (array ds) = refl
either_truth (object ms) = refl

truth_values : (f t : Bool) (J : Document)
    → one_passes (truth_tests f t) J
    ≡ ((f && same_document (boolean false) J) || (t && same_document (boolean true) J))
truth_values true true J = or-false (kind_test Boolean J) ∙ either_truth J
truth_values false true J = or-false (same_document (boolean true) J)
truth_values true false J = refl
truth_values false false J = refl

among_truths : (J : Document) (bs : List Bool) → some (λ b. same_document (boolean b) J) bs
    ≡ ((some not bs && same_document (boolean false) J) || (some (λ b. b) bs && same_document (boolean true) J))
among_truths J [] = refl
among_truths J (true ∷ bs) =
    rw (among_truths J bs) (first (some not bs) (some (λ b. b) bs) (same_document (boolean false) J)
    (same_document (boolean true) J)) where
      first : (f t x y : Bool) → (y || ((f && x) || (t && y))) ≡ ((f && x) || (true && y))
      first true t true true = refl
      first true t true false = refl
      first true t false true = refl
      first true true false false = refl
      first true false false false = refl
      first false t x true = refl
      first false true x false = refl
      first false false x false = refl
among_truths J (false ∷ bs) =
    rw (among_truths J bs) (first (some not bs) (some (λ b. b) bs) (same_document (boolean false) J)
    (same_document (boolean true) J)) where
      first : (f t x y : Bool) → (x || ((f && x) || (t && y))) ≡ ((true && x) || (t && y))
      first f t true y = refl
      first true t false y = refl
      first false t false y = refl

some-list_any : {A : Type 0} (p : A → Bool) (xs : List A) → some p xs ≡ list_any p xs
some-list_any p [] = refl
some-list_any p (x ∷ xs) = rw (some-list_any p xs) refl

never : {A : Type 0} (xs : List A) → some (λ x. false) xs ≡ false
never [] = refl
never (x ∷ xs) = never xs

number_values : (ns : List ℤ) (J : Document) → one_passes (number_tests ns) J ≡ some (λ n. same_document
    (number n) J) ns
number_values [] J = refl
number_values (n ∷ ns) (number x) =
    or-false _ ∙ sym (some-list_any (λ n. int_eq n x) (n ∷ ns))
number_values (n ∷ ns) null = sym (never ns)
number_values (n ∷ ns) (boolean b) = sym (never ns)
number_values (n ∷ ns) (string w) = sym (never ns)
number_values (n ∷ ns) (array ds) = sym (never ns)
number_values (n ∷ ns) (object ms) = sym (never ns)

word_values : (ws : List (List ℕ)) (J : Document) → one_passes (word_tests ws) J ≡ some (λ w. same_document
    (string w) J) ws
word_values [] J = refl
word_values (w ∷ ws) (string v) =
    or-false _ ∙ some-alike (same_word v) (λ w. same_word w v) (w ∷ ws) (λ u. same_word_comm v u)
word_values (w ∷ ws) null = sym (never ws)
word_values (w ∷ ws) (boolean b) = sym (never ws)
word_values (w ∷ ws) (number n) = sym (never ws)
word_values (w ∷ ws) (array ds) = sym (never ws)
word_values (w ∷ ws) (object ms) = sym (never ws)

container_values : (ds : List Document) (J : Document) → one_passes (tests_of same_document ds) J
    ≡ some (λ d. same_document d J) ds
container_values [] J = refl
container_values (d ∷ ds) J = rw (container_values ds J) refl

-- ---- a value is of one group
value_null : (J : Document) → same_document null J ≡ (kind_test Null J || false)
value_null null = refl
value_null (boolean b) = refl
value_null (number n) = refl
value_null (string w) = refl
value_null (array ds) = refl
value_null (object ms) = refl

abbrev of_truth : Document → Document → Bool
of_truth J d = passes (λ b. same_document (boolean b) J) (truth_in d)

abbrev of_number : Document → Document → Bool
of_number J d = passes (λ n. same_document (number n) J) (number_in d)

abbrev of_word : Document → Document → Bool
of_word J d = passes (λ w. same_document (string w) J) (word_in d)

abbrev of_container : Document → Document → Bool
of_container J d = is_container d && same_document d J

value_grouped : (J d : Document) → same_document d J
    ≡ ((is_null d && kind_test Null J) || (of_truth J d || (of_number J d || (of_word J d || of_container J d))))
value_grouped J null = value_null J
value_grouped J (boolean b) = sym (or-false (same_document (boolean b) J))
value_grouped J (number n) = sym (or-false (same_document (number n) J))
value_grouped J (string w) = sym (or-false (same_document (string w) J))
value_grouped J (array ds) = refl
value_grouped J (object ms) = refl

values_grouped : (ds : List Document) (J : Document) → some (λ d. same_document d J) ds
    ≡ ((some is_null ds && kind_test Null J)
    || (some (of_truth J) ds || (some (of_number J) ds || (some (of_word J) ds || some (of_container J) ds))))
values_grouped ds J =
    some-alike (λ d. same_document d J) _ ds (value_grouped J)
    ∙ some-either (λ d. is_null d && kind_test Null J)
    (λ d. of_truth J d || (of_number J d || (of_word J d || of_container J d))) ds
    ∙ rw (some-and is_null (kind_test Null J) ds)
    (rw (some-either (of_truth J) (λ d. of_number J d || (of_word J d || of_container J d)) ds)
    (rw (some-either (of_number J) (λ d. of_word J d || of_container J d) ds)
    (rw (some-either (of_word J) (of_container J) ds) refl)))

truths_of : (ds : List Document) (J : Document) → one_passes (truth_tests (false_in ds) (true_in ds)) J
    ≡ some (of_truth J) ds
truths_of ds J =
    truth_values (false_in ds) (true_in ds) J ∙ sym (among_truths J (filter_map truth_in ds))
    ∙ sym (some-filter_map truth_in (λ b. same_document (boolean b) J) ds)

numbers_of : (ds : List Document) (J : Document)
    → one_passes (number_tests (once int_eq (filter_map number_in ds))) J ≡ some (of_number J) ds
numbers_of ds J =
    number_values (once int_eq (filter_map number_in ds)) J
    ∙ some-once int_eq (λ x y. (Decides-int_eq x y).0) (λ n. same_document (number n) J) (filter_map number_in ds)
    ∙ sym (some-filter_map number_in (λ n. same_document (number n) J) ds)

words_of : (ds : List Document) (J : Document)
    → one_passes (word_tests (once same_word (filter_map word_in ds))) J ≡ some (of_word J) ds
words_of ds J =
    word_values (once same_word (filter_map word_in ds)) J
    ∙ some-once same_word same_word-true (λ w. same_document (string w) J) (filter_map word_in ds)
    ∙ sym (some-filter_map word_in (λ w. same_document (string w) J) ds)

containers_of : (ds : List Document) (J : Document)
    → one_passes (tests_of same_document (filter is_container ds)) J ≡ some (of_container J) ds
containers_of ds J =
    container_values (filter is_container ds) J ∙ sym (some-filter is_container (λ d. same_document d J) ds)

-- one of the groups is met exactly where the document is one of the values
pub groups_pass : (ds : List Document) (J : Document) → one_passes (group_tests ds) J ≡ some (λ d. same_document d J) ds
groups_pass ds J =
    some-append (λ p. p J) (null_tests (some is_null ds)) _
    ∙ rw (some-append (λ p. p J) (truth_tests (false_in ds) (true_in ds))
    (number_tests (once int_eq (filter_map number_in ds))
    ++ (word_tests (once same_word (filter_map word_in ds)) ++ tests_of same_document (filter is_container ds))))
    (rw (some-append (λ p. p J) (number_tests (once int_eq (filter_map number_in ds)))
    (word_tests (once same_word (filter_map word_in ds)) ++ tests_of same_document (filter is_container ds)))
    (rw (some-append (λ p. p J) (word_tests (once same_word (filter_map word_in ds)))
    (tests_of same_document (filter is_container ds)))
    (rw (nulls (some is_null ds) J) (rw (truths_of ds J) (rw (numbers_of ds J) (rw (words_of ds J)
    (rw (containers_of ds J) (sym (values_grouped ds J)))))))))

every-filter : {A : Type 0} (q p : A → Bool) (xs : List A) → every p xs ≡ true → every p (filter q xs) ≡ true
every-filter q p [] h = refl
every-filter q p (x ∷ xs) h =
    let parts = and_parts (p x) (every p xs) h in by_test (q x) refl parts.0 (every-filter q p xs parts.1) where
      by_test : (b : Bool) → q x ≡ b → p x ≡ true → every p (filter q xs) ≡ true → every p (filter q (x ∷ xs)) ≡ true
      by_test false e one rest = rw e rest
      by_test true e one rest = rw e (and_from (p x) (every p (filter q xs)) one rest)

module _ (T : List Position) (holds : ℕ → Document → Bool) (meaning : IsMeaning T holds) where
  values_make : (ds : List Document) → every is_document ds ≡ true
      → Makes T holds (each value_node ds) (tests_of same_document ds)
  values_make [] h = makes-nothing T holds meaning
  values_make (d ∷ ds) h =
      let parts = and_parts (is_document d) (every is_document ds) h in
      makes-both T holds meaning (value_node d) (each value_node ds) (same_document d ∷ []) (tests_of same_document ds)
      (value_makes T holds meaning d parts.0) (values_make ds parts.1)

  null_made : (b : Bool) → Makes T holds (cond b (node (Types (Null ∷ []))) nothing) (null_tests b)
  null_made true = makes-node T holds meaning (Types (Null ∷ [])) (kind_test Null) (λ J d. refl)
  null_made false = makes-nothing T holds meaning

  truths_made : (f t : Bool) → Makes T holds (truths f t) (truth_tests f t)
  truths_made true true = makes-node T holds meaning (Types (Boolean ∷ [])) (kind_test Boolean) (λ J d. refl)
  truths_made false true = value_makes T holds meaning (boolean true) refl
  truths_made true false = value_makes T holds meaning (boolean false) refl
  truths_made false false = makes-nothing T holds meaning

  numbers_made : (ns : List ℤ) → Makes T holds (one_of_kind Number NumIn ns) (number_tests ns)
  numbers_made [] = makes-nothing T holds meaning
  numbers_made (n ∷ ns) =
      makes-kind T holds meaning Number (NumIn (n ∷ ns)) (at_number (λ x. list_any (λ m. int_eq m x) (n ∷ ns)))
      (λ J d. refl)

  words_made : (ws : List (List ℕ)) → Makes T holds (one_of_kind Text Words ws) (word_tests ws)
  words_made [] = makes-nothing T holds meaning
  words_made (w ∷ ws) =
      makes-kind T holds meaning Text (Words (w ∷ ws)) (at_string (λ v. some (same_word v) (w ∷ ws))) (λ J d. refl)

  abbrev rest_words : List Document → Maker
  rest_words ds =
      both (one_of_kind Text Words (once same_word (filter_map word_in ds))) (each value_node (filter is_container ds))

  abbrev rest_numbers : List Document → Maker
  rest_numbers ds = both (one_of_kind Number NumIn (once int_eq (filter_map number_in ds))) (rest_words ds)

  abbrev rest_truths : List Document → Maker
  rest_truths ds = both (truths (false_in ds) (true_in ds)) (rest_numbers ds)

  groups_made : (ds : List Document) → every is_document ds ≡ true → Makes T holds (groups ds) (group_tests ds)
  groups_made ds h =
      makes-both T holds meaning (cond (some is_null ds) (node (Types (Null ∷ []))) nothing) (rest_truths ds)
      (null_tests (some is_null ds)) _ (null_made (some is_null ds))
      (makes-both T holds meaning (truths (false_in ds) (true_in ds)) (rest_numbers ds)
      (truth_tests (false_in ds) (true_in ds)) _ (truths_made (false_in ds) (true_in ds))
      (makes-both T holds meaning (one_of_kind Number NumIn (once int_eq (filter_map number_in ds))) (rest_words ds)
      (number_tests (once int_eq (filter_map number_in ds))) _ (numbers_made (once int_eq (filter_map number_in ds)))
      (makes-both T holds meaning (one_of_kind Text Words (once same_word (filter_map word_in ds)))
      (each value_node (filter is_container ds)) (word_tests (once same_word (filter_map word_in ds)))
      (tests_of same_document (filter is_container ds)) (words_made (once same_word (filter_map word_in ds)))
      (values_make (filter is_container ds) (every-filter is_container is_document ds h)))))

  -- one of the groups of an `enum` is met exactly where the document equals one of the values
  pub enum_makes : (ds : List Document) → every is_document ds ≡ true
      → Makes T holds (above Any (groups ds)) ((λ J. some (λ d. same_document d J) ds) ∷ [])
  enum_makes ds h =
      makes-same T holds meaning (above Any (groups ds)) (λ J. some (λ p. p J) (group_tests ds))
      (λ J. some (λ d. same_document d J) ds)
      (makes-any T holds meaning (groups ds) (group_tests ds) (groups_made ds h)) (λ J d. groups_pass ds J)
