-- The groups of an `enum`, and what is found among its values.
use Rattle.std.proofs.Common.{◌≡◌, ℕ, ◌+◌, ◌<◌, List, [], ◌∷◌, ◌++◌, length, map, filter, drop, get_or, Bool, true, false, not, ◌||◌, Option, Some, None, refl, sym, ap, ap₂, ◌∙◌, arith, append_assoc}
use Rattle.std.proofs.lemmas.List.{drop_more}
use Rattle.std.specs.Bool.{beq}
use Rattle.std.specs.List.{list_any, filter_map, cons_option}
use Rattle.documents.specs.Tests.{some}
use Rattle.documents.specs.Kind.{Kind}
use Rattle.positions.specs.Position.{Position}
use Rattle.normal_forms.specs.KeywordNodes.{one_of_kind, truths, truth_in}
use Rattle.js_doc.specs.declared.document.Doc.{Doc}
use Rattle.js_doc.specs.View.{view}
use Rattle.js_values.specs.Runs.{State, run}
use Rattle.js_values.proofs.RunLemmas.{run-nothing}

some-false : (bs : List Bool) → some (beq false) bs ≡ some not bs
some-false [] = refl
some-false (true ∷ bs) = some-false bs
some-false (false ∷ bs) = refl

some-true : (bs : List Bool) → some (beq true) bs ≡ some (λ b. b) bs
some-true [] = refl
some-true (true ∷ bs) = refl
some-true (false ∷ bs) = some-true bs

-- whether a truth value was found, and it is this one
abbrev pub is_truth : Bool → Option Bool → Bool
is_truth truth None = false
is_truth truth (Some b) = beq truth b

pub is_truth-some : (truth : Bool) (ds : List Doc)
    → list_any (λ d. is_truth truth (truth_in (view d))) ds ≡ some (beq truth) (filter_map truth_in (map view ds))
is_truth-some truth [] = refl
is_truth-some truth (d ∷ ds) = go (truth_in (view d)) (is_truth-some truth ds) where
  go : (o : Option Bool)
      → list_any (λ d. is_truth truth (truth_in (view d))) ds ≡ some (beq truth) (filter_map truth_in (map view ds))
      → (is_truth truth o || list_any (λ d. is_truth truth (truth_in (view d))) ds)
      ≡ some (beq truth) (cons_option o (filter_map truth_in (map view ds)))
  go None rest = rest
  go (Some b) rest = ap (λ r. beq truth b || r) rest

-- by what is found, the group of the truth values
pub truths-found : (bs : List Bool) (f t : Bool) (s : State) → f ≡ some (beq false) bs → t ≡ some (beq true) bs
    → run (truths f t) s ≡ run (truths (some not bs) (some (λ b. b) bs)) s
truths-found bs f t s a b = ap₂ (λ f t. run (truths f t) s) (a ∙ some-false bs) (b ∙ some-true bs)

-- where there are none of a kind, nothing is made
pub no_kind : {A : Type 0} (t : Kind) (P : List A → Position) (xs ys : List A) (s : State) → length ys ≡ 0 → ys ≡ xs
    → s ≡ run (one_of_kind t P xs) s
no_kind t P xs [] s l e = sym (run-nothing s) ∙ ap (λ zs. run (one_of_kind t P zs) s) e
no_kind t P xs (y ∷ ys) s l e = absurd (omega (arith, l))

-- elements of a loop of which those are kept that pass a test
filter-first : {A : Type 0} (p : A → Bool) (x : A) (xs : List A) → filter p (x ∷ xs) ≡ filter p (x ∷ []) ++ filter p xs
filter-first {A} p x xs = by_test (p x) refl where
  by_test : (t : Bool) → p x ≡ t → filter p (x ∷ xs) ≡ filter p (x ∷ []) ++ filter p xs
  by_test true e = rw e refl
  by_test false e = rw e refl

pub filter-step : {A B : Type 0} (p : B → Bool) (v : A → B) (xs : List A) (i : ℕ) (d : A) (ks ls us : List B)
    → i < length xs → ls ≡ ks ++ filter p (v (get_or xs i d) ∷ [])
    → ks ++ filter p (map v (drop i xs)) ≡ us → ls ++ filter p (map v (drop (i + 1) xs)) ≡ us
filter-step p v xs i d ks ls us l e a =
    ap (λ zs. zs ++ filter p (map v (drop (i + 1) xs))) e
    ∙ append_assoc ks (filter p (v (get_or xs i d) ∷ [])) (filter p (map v (drop (i + 1) xs)))
    ∙ ap (λ zs. ks ++ zs) (sym (filter-first p (v (get_or xs i d)) (map v (drop (i + 1) xs))))
    ∙ ap (λ ys. ks ++ filter p (map v ys)) (sym (drop_more xs i d l))
    ∙ a
