-- Values that are added one after another are those that are kept once, where each comes first.
use Rattle.std.proofs.Common.{◌≡◌, ℕ, ◌+◌, ◌<◌, List, [], ◌∷◌, ◌++◌, map, length, drop, get_or, Option, Some, None, Bool, true, false, cond, ◌||◌, refl, sym, ap, ◌∙◌, append_assoc}
use Rattle.std.proofs.lemmas.List.{append-nil, drop_more}
use Rattle.std.specs.List.{filter_map}
use Rattle.documents.specs.Tests.{some}
use Rattle.normal_forms.specs.KeywordNodes.{once_among, once}
use Rattle.js_values.specs.Distinct.{add_once, add_all}
use Rattle.std.proofs.Math.Bool.{or_assoc}

or-end : (a b d : Bool) → a ≡ d → (a || (b || false)) ≡ (b || d)
or-end true true d e = refl
or-end true false d e = e
or-end false true d e = refl
or-end false false d e = e

pub some-end : {A : Type 0} (p : A → Bool) (ks : List A) (x : A) → some p (ks ++ x ∷ []) ≡ (some p ks || (p x || false))
some-end p [] x = refl
some-end p (k ∷ ks) x = ap (λ b. p k || b) (some-end p ks x) ∙ sym (or_assoc (p k) (some p ks) (p x || false))

add_all-among : {A : Type 0} (same : A → A → Bool) (ks done xs : List A)
    → ((y : A) → some (same y) ks ≡ some (same y) done)
    → add_all same ks xs ≡ ks ++ once_among same done xs
add_all-among same ks done [] h = sym (append-nil ks)
add_all-among {A} same ks done (x ∷ xs) h =
    by_test (some (same x) done) refl (add_all-among same ks done xs h)
    (add_all-among same (ks ++ x ∷ []) (x ∷ done) xs
    (λ y. some-end (same y) ks x ∙ or-end (some (same y) ks) (same y x) (some (same y) done) (h y))) where
      by_test : (t : Bool) → some (same x) done ≡ t → add_all same ks xs ≡ ks ++ once_among same done xs
          → add_all same (ks ++ x ∷ []) xs ≡ (ks ++ x ∷ []) ++ once_among same (x ∷ done) xs
          → add_all same (add_once same ks x) xs
          ≡ ks ++ cond (some (same x) done) (once_among same done xs) (x ∷ once_among same (x ∷ done) xs)
      by_test true e there new =
          rw (h x ∙ e, e) there
      by_test false e there new =
          rw (h x ∙ e, e) (new ∙ append_assoc ks (x ∷ []) (once_among same (x ∷ done) xs))

pub add_all-once : {A : Type 0} (same : A → A → Bool) (xs : List A) → add_all same [] xs ≡ once same xs
add_all-once same xs = add_all-among same [] [] xs (λ y. refl)

-- a value that is among them, and one that isn't
pub added-there : {A : Type 0} (same : A → A → Bool) (ks : List A) (x : A) → some (same x) ks ≡ true
    → ks ≡ add_once same ks x
added-there same ks x e = rw e refl

pub added-new : {A : Type 0} (same : A → A → Bool) (ks : List A) (x : A) → some (same x) ks ≡ false
    → ks ++ x ∷ [] ≡ add_once same ks x
added-new same ks x e = rw e refl

add_all-append : {A : Type 0} (same : A → A → Bool) (ks xs ys : List A)
    → add_all same (add_all same ks xs) ys ≡ add_all same ks (xs ++ ys)
add_all-append same ks [] ys = refl
add_all-append same ks (x ∷ xs) ys = add_all-append same (add_once same ks x) xs ys

filter_map-first : {A B : Type 0} (f : A → Option B) (x : A) (xs : List A)
    → filter_map f (x ∷ xs) ≡ filter_map f (x ∷ []) ++ filter_map f xs
filter_map-first {A} {B} f x xs = by_case (f x) refl where
  by_case : (o : Option B) → f x ≡ o → filter_map f (x ∷ xs) ≡ filter_map f (x ∷ []) ++ filter_map f xs
  by_case None e = rw e refl
  by_case (Some y) e = rw e refl

-- elements of a loop that are added each once
pub added-step : {A B C : Type 0} (same : C → C → Bool) (f : B → Option C) (v : A → B) (xs : List A) (i : ℕ) (x : A)
    (ks ls us : List C) → i < length xs → x ≡ get_or xs i x → ls ≡ add_all same ks (filter_map f (v x ∷ []))
    → us ≡ add_all same ks (filter_map f (map v (drop i xs)))
    → us ≡ add_all same ls (filter_map f (map v (drop (i + 1) xs)))
added-step same f v xs i x ks ls us l e a b =
    b
    ∙ ap (λ ys. add_all same ks (filter_map f (map v ys)))
    (drop_more xs i x l ∙ ap (λ y. y ∷ drop (i + 1) xs) (sym e))
    ∙ ap (add_all same ks) (filter_map-first f (v x) (map v (drop (i + 1) xs)))
    ∙ sym (add_all-append same ks (filter_map f (v x ∷ [])) (filter_map f (map v (drop (i + 1) xs))))
    ∙ ap (λ zs. add_all same zs (filter_map f (map v (drop (i + 1) xs)))) (sym a)
