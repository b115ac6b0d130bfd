-- What an `IndexSet` of goals finds, as the definitions say it.
use Rattle.std.proofs.Common.{◌≡◌, ℕ, suc, ◌+◌, List, [], ◌∷◌, ◌++◌, length, Bool, true, false, not, ◌&&◌, ◌||◌, cond, nat_lt, Option, Some, None, option_map, is_some, refl, ap, ap₂, sym, ◌∙◌, arith}
use Rattle.std.proofs.lemmas.Bool.{lt-ltb, le-ltb, ltb-true, ltb-false}
use Rattle.std.specs.List.{list_any, position, position_or_len}
use Rattle.indexmap.specs.IndexSet.{insert_key}
use Rattle.goals.specs.Signed.{Signed, same_signed}
use Rattle.alternatives.specs.Limit.{LimitKind, Goals}
use Rattle.alternatives.specs.Expansion.{first_limit}
use Rattle.search.specs.Explored.{same_goal, number_in, is_listed, found, mention}
use Rattle.js_algebra.specs.Equality as J
use Rattle.list_laws.proofs.Options.{is_some-suc}

same_is : (g h : List Signed) → J.same_goal g h ≡ same_goal g h
same_is [] [] = refl
same_is [] (y ∷ h) = refl
same_is (x ∷ g) [] = refl
same_is (x ∷ g) (y ∷ h) = ap (λ b. same_signed x y && b) (same_is g h)

pub listed_is : (g : List Signed) (gs : List (List Signed)) → list_any (J.same_goal g) gs ≡ is_listed gs g
listed_is g [] = refl
listed_is g (h ∷ gs) = ap₂ (λ a b. a || b) (same_is g h) (listed_is g gs) ∙ go (same_goal g h) where
  go : (b : Bool)
      → (b || is_some (number_in gs g)) ≡ is_some (cond b (Some 0) (option_map suc (number_in gs g)))
  go true = refl
  go false = sym (is_some-suc (number_in gs g))

shift_lt : (n k : ℕ) → nat_lt (1 + n) (suc k) ≡ nat_lt n k
shift_lt n k = go (nat_lt n k) refl where
  go : (b : Bool) → nat_lt n k ≡ b → nat_lt (1 + n) (suc k) ≡ b
  go true e = lt-ltb (1 + n) (suc k) (omega (arith, ltb-true n k e))
  go false e = le-ltb (1 + n) (suc k) (omega (arith, ltb-false n k e))

one_more : (b : Bool) (n k : ℕ) (o : Option ℕ) → cond (nat_lt n k) (Some n) None ≡ o
    → cond (nat_lt (cond (not b) (1 + n) 0) (suc k)) (Some (cond (not b) (1 + n) 0)) None
    ≡ cond b (Some 0) (option_map suc o)
one_more true n k o e = ap (λ c. cond c (Some 0) None) (lt-ltb 0 (suc k) (omega arith))
one_more false n k o e =
    ap (λ c. cond c (Some (1 + n)) None) (shift_lt n k) ∙ pull (nat_lt n k) ∙ ap (option_map suc) e where
      pull : (c : Bool) → cond c (Some (1 + n)) None ≡ option_map suc (cond c (Some n) None)
      pull true = ap Some (omega arith)
      pull false = refl

pub number_is : (g : List Signed) (gs : List (List Signed)) → position (J.same_goal g) gs ≡ number_in gs g
number_is g [] = refl
number_is g (h ∷ gs) =
    one_more (J.same_goal g h) (position_or_len (J.same_goal g) gs) (length gs) (number_in gs g) (number_is g gs)
    ∙ ap (λ b. cond b (Some 0) (option_map suc (number_in gs g))) (same_is g h)

same_found : {gs ks : List (List Signed)} {t u p q : ℕ} {o r : Option LimitKind} → ks ≡ gs → u ≡ t → q ≡ p → r ≡ o
    → found ks u q r ≡ found gs t p o
same_found a b c d = λ i. found (a i) (b i) (c i) (d i)

module _ (most : ℕ) (gs ks : List (List Signed)) (g : List Signed) (t p : ℕ) (o : Option LimitKind) where
  -- a goal that is there changes nothing
  pub mention_old : list_any (J.same_goal g) gs ≡ true → found gs t p o ≡ mention most (found gs t p o) g
  mention_old e = sym (ap (λ b. cond b (found gs t p o)
      (cond (nat_lt (length gs) most) (found (gs ++ g ∷ []) t p o) (found gs t p (first_limit o Goals))))
      (sym (listed_is g gs) ∙ e))

  not_listed : list_any (J.same_goal g) gs ≡ false → mention most (found gs t p o) g
      ≡ cond (nat_lt (length gs) most) (found (gs ++ g ∷ []) t p o) (found gs t p (first_limit o Goals))
  not_listed e = ap (λ b. cond b (found gs t p o)
      (cond (nat_lt (length gs) most) (found (gs ++ g ∷ []) t p o) (found gs t p (first_limit o Goals))))
      (sym (listed_is g gs) ∙ e)

  -- a goal that isn't there is inserted, where fewer are there than may be
  pub mention_new : list_any (J.same_goal g) gs ≡ false → nat_lt (length gs) most ≡ true
      → ks ≡ insert_key J.same_goal gs g → found ks t p o ≡ mention most (found gs t p o) g
  mention_new e l k =
      ap (λ hs. found hs t p o) (k ∙ ap (λ b. cond b gs (gs ++ g ∷ [])) e)
      ∙ sym (not_listed e ∙ ap (λ b. cond b (found (gs ++ g ∷ []) t p o) (found gs t p (first_limit o Goals))) l)

  -- a goal for which there is no room is left out, and the limit on goals is noted
  pub mention_past : list_any (J.same_goal g) gs ≡ false → nat_lt (length gs) most ≡ false
      → (u q : ℕ) (r : Option LimitKind) → ks ≡ gs → u ≡ t → q ≡ p → r ≡ first_limit o Goals
      → found ks u q r ≡ mention most (found gs t p o) g
  mention_past e l u q r a b c d =
      same_found a b c d
      ∙ sym (not_listed e ∙ ap (λ b. cond b (found (gs ++ g ∷ []) t p o) (found gs t p (first_limit o Goals))) l)
