-- Plain words give the command that they mean. Key lemma: plain-command.
use Rattle.std.proofs.Common.{◌≡◌, ◌∙◌, ◌==◌, ◌≢◌, ℕ, true, false, not, List, [], ◌∷◌, ◌++◌, Option, Some, None, chars, encode_utf8_all, map, refl, sym, ap, ap₂, subst, arith, ne_eqb, true≢false, is_some}
use Rattle.std.specs.Prelude.{unwrap_or}
use Rattle.std.specs.Char.{encode_utf8, is_ascii_digit}
use Rattle.std.specs.List.{All, list_all}
use Rattle.std.proofs.lemmas.Bool.Decides.{nat_tests}
use Rattle.clap.specs.Words.{Text}
use Rattle.clap.proofs.WalkLemmas.{both}
use Rattle.families.specs.Families.{Family, Chain, Wide, Patterns, Tree, family_word, greatest}
use Rattle.js_words.specs.Commands.{Command, Sat, Include, Valid, Check, Norm, Gen, command, family_of, gen_of, gen_to, gen_with}
use Rattle.js_words.specs.Numbers.{is_plain_decimal, number_in}
use Rattle.js_words.specs.PlainWords.{Given, Plain, plain_sat, plain_include, plain_valid, plain_check, plain_norm, plain_gen, absent, apart, joined, is_plain, is_plain_name, meant, words_of, workers_of, workers_words}
use Rattle.js_words.proofs.SpellingLemmas.{digits-spelled, encoded-head}
use Rattle.js_words.proofs.Subcommands.{TakesWorkers, read-norm, read-valid, workers-check, workers-gen, workers-include, workers-sat}
use Rattle.js_words.proofs.WalkLemmas.{IsValue}

-- each word is the text of its bytes
abbrev pub AllSpelled : List (List ℕ) → Type 0
AllSpelled words = All (λ w. chars (encode_utf8_all w) ≡ w) words

-- ---- names

value-of : (b : ℕ) (bs : Text) → b ≢ 45 → IsValue (b ∷ bs)
value-of b bs n = let e : (b == 45) ≡ false = ne_eqb b 45 n in record { no_dash = rw e refl; no_dashes = rw e refl }

not-dash : (x : ℕ) → not (x == 45) ≡ true → x ≢ 45
not-dash x p e = true≢false (sym (subst (λ (y : ℕ). not (y == 45) ≡ true) e p))

-- the bytes of a plain name are a value
name-value : (a : List ℕ) → is_plain_name a ≡ true → IsValue (encode_utf8_all a)
name-value [] p = absurd (true≢false (sym p))
name-value (x ∷ xs) p =
    let h = encoded-head x (not-dash x p) in
    subst IsValue (sym (ap (λ (bs : Text). bs ++ encode_utf8_all xs) h.is))
    (value-of h.head (h.rest ++ encode_utf8_all xs) h.no_dash)

-- ---- numbers

-- a plain decimal is digits, and a plain name too
decimal-name : (n : List ℕ) → is_plain_decimal n ≡ true → (list_all is_ascii_digit n ≡ true) × (is_plain_name n ≡ true)
decimal-name [] p = absurd (true≢false (sym p))
decimal-name (c ∷ cs) p = (grind (arith, nat_tests), grind (arith, nat_tests))

number-plain : (low high : ℕ) (n : List ℕ) → is_some (number_in low high n) ≡ true → is_plain_decimal n ≡ true
number-plain low high n s = grind (arith, nat_tests)

some-unwrapped : (o : Option ℕ) → is_some o ≡ true → o ≡ Some (unwrap_or o 1)
some-unwrapped None s = absurd (true≢false (sym s))
some-unwrapped (Some k) s = refl

-- a number in range is spelled by its own bytes
number-spelled : (low high : ℕ) (n : List ℕ) → is_some (number_in low high n) ≡ true
    → number_in low high (encode_utf8_all n) ≡ Some (unwrap_or (number_in low high n) 1)
number-spelled low high n s =
    ap (number_in low high) (digits-spelled n (decimal-name n (number-plain low high n s)).0)
    ∙ some-unwrapped (number_in low high n) s

number-value : (low high : ℕ) (n : List ℕ) → is_some (number_in low high n) ≡ true → IsValue (encode_utf8_all n)
number-value low high n s = name-value n (decimal-name n (number-plain low high n s)).1

-- however the number of workers is given, it is taken
given-workers : (read : List Text → Option Command) (give : Option ℕ → Option Command) → TakesWorkers read give
    → (w : Given) → is_some (workers_of w) ≡ true
    → read (map encode_utf8_all (workers_words w)) ≡ give (Some (unwrap_or (workers_of w) 1))
unfolding encode_utf8
given-workers read give t absent s = t.absent
given-workers read give t (apart n) s =
    t.apart (encode_utf8_all n) (number-value 1 64 n s) ∙ ap give (number-spelled 1 64 n s)
given-workers read give t (joined n) s = t.joined (encode_utf8_all n) ∙ ap give (number-spelled 1 64 n s)

-- ---- families

family-value : (f : Family) → IsValue (encode_utf8_all (family_word f))
unfolding encode_utf8
family-value Chain = record { no_dash = refl; no_dashes = refl }
family-value Wide = record { no_dash = refl; no_dashes = refl }
family-value Patterns = record { no_dash = refl; no_dashes = refl }
family-value Tree = record { no_dash = refl; no_dashes = refl }

family-spelled : (f : Family) → family_of (encode_utf8_all (family_word f)) ≡ Some f
unfolding encode_utf8
family-spelled Chain = refl
family-spelled Wide = refl
family-spelled Patterns = refl
family-spelled Tree = refl

gen-given : (f : Family) (t m : Text) (n w : ℕ) → family_of t ≡ Some f → number_in 1 (greatest f) m ≡ Some n
    → gen_of (Some t) (Some m) (Some w) ≡ Some (Gen f n w)
gen-given f t m n w family number =
    ap (λ (o : Option Family). gen_to o m (Some w)) family ∙ ap (λ (o : Option ℕ). gen_with f o (Some w)) number

-- ---- the words

-- plain words that are spelled by their bytes are read as the command that they mean
pub plain-command : (p : Plain) → is_plain p ≡ true → AllSpelled (words_of p) → command (words_of p) ≡ Some (meant p)
unfolding encode_utf8
plain-command (plain_sat a w) e s =
    let h = both (is_plain_name a) _ e in
    given-workers _ _ (workers-sat _ (name-value a h.0)) w h.1
    ∙ ap (λ (x : List ℕ). Some (Sat x (unwrap_or (workers_of w) 1))) (s 1 [] (omega arith))
plain-command (plain_include a b w) e s =
    let h = both (is_plain_name a) _ e in
    let k = both (is_plain_name b) _ h.1 in
    given-workers _ _ (workers-include _ _ (name-value a h.0) (name-value b k.0)) w k.1
    ∙ ap₂ (λ (x y : List ℕ). Some (Include x y (unwrap_or (workers_of w) 1)))
    (s 1 [] (omega arith)) (s 2 [] (omega arith))
plain-command (plain_valid a d) e s =
    let h = both (is_plain_name a) _ e in
    read-valid _ _ (name-value a h.0) (name-value d h.1)
    ∙ ap₂ (λ (x y : List ℕ). Some (Valid x y)) (s 1 [] (omega arith)) (s 2 [] (omega arith))
plain-command (plain_check a b c w) e s =
    let h = both (is_plain_name a) _ e in
    let k = both (is_plain_name b) _ h.1 in
    let l = both (is_plain_name c) _ k.1 in
    let spelled = s 3 [] (omega arith) in
    given-workers _ _ (workers-check _ _ _ (name-value a h.0) (name-value b k.0) (name-value c l.0)) w l.1
    ∙ ap₂ (λ (x y : List ℕ). Some (Check x y (chars (encode_utf8_all c)) (unwrap_or (workers_of w) 1)))
    (s 1 [] (omega arith)) (s 2 [] (omega arith))
    ∙ ap (λ (z : List ℕ). Some (Check a b z (unwrap_or (workers_of w) 1))) spelled
plain-command (plain_norm a) e s =
    read-norm _ (name-value a e) ∙ ap (λ (x : List ℕ). Some (Norm x)) (s 1 [] (omega arith))
plain-command (plain_gen f n w) e s =
    let h = both (is_some (number_in 1 (greatest f) n)) _ e in
    given-workers _ _ (workers-gen _ _ (family-value f) (number-value 1 (greatest f) n h.0)) w h.1
    ∙ gen-given f (encode_utf8_all (family_word f)) (encode_utf8_all n) _ _ (family-spelled f)
    (number-spelled 1 (greatest f) n h.0)
