-- Rows that are dropped because they lead to none that is left.
use Rattle.std.proofs.Common.{◌≡◌, ℕ, ◌+◌, ◌<◌, ◌⊎◌, inl, inr, List, Bool, true, false, length, get_or, refl, sym, ◌∙◌, subst, arith}
use Rattle.std.specs.List.{count_by}
use Rattle.std.proofs.lemmas.Bool.{cases_eq}
use Rattle.word_states.specs.Atom.{Atom}
use Rattle.js_row_words.specs.Labels.{HasNext, IsPart}

-- the first n rows of the list were looked at
pub record AreDropped (atoms : List Atom) (L : List (List ℕ)) (list : List ℕ) (first left : List Bool) (fell : Bool)
    (n : ℕ) : Type 0 where
  pub size : length left ≡ length first
  pub part : IsPart first left
  pub fewer : fell ≡ true → count_by (λ b. b) left < count_by (λ b. b) first
  pub same : fell ≡ false → left ≡ first
  pub nexts : fell ≡ false → (i : ℕ) → i < n → get_or first (get_or list i 0) false ≡ true
      → HasNext atoms L first (get_or list i 0)

module _ (atoms : List Atom) (L : List (List ℕ)) (list : List ℕ) (first left : List Bool) (fell : Bool) (n : ℕ)
    (dropped : AreDropped atoms L list first left fell n) where
  count_kept : (b : Bool) → fell ≡ b → (k : ℕ) → k < count_by (λ b. b) left → k < count_by (λ b. b) first
  count_kept true e k l = let f = dropped.fewer e in omega (arith, l, f)
  count_kept false e k l = subst (λ z. k < count_by (λ b. b) z) (dropped.same e) l

  -- a row more that is dropped
  pub dropped_row : (now : List Bool) → length now ≡ length left → IsPart left now
      → count_by (λ b. b) now < count_by (λ b. b) left → AreDropped atoms L list first now true (n + 1)
  dropped_row now size part fewer = record {
    size = size ∙ dropped.size;
    part = λ r e. dropped.part r (part r e);
    fewer = λ e. count_kept fell refl (count_by (λ b. b) now) fewer;
    same = λ e. cc e;
    nexts = λ e. cc e;
  }

  -- a row that isn't dropped
  pub dropped_none : (now : List Bool) → now ≡ left
      → (get_or left (get_or list n 0) false ≡ true → HasNext atoms L left (get_or list n 0))
      → AreDropped atoms L list first now fell (n + 1)
  dropped_none now is next = subst (λ z. AreDropped atoms L list first z fell (n + 1)) (sym is) (record {
    size = dropped.size;
    part = dropped.part;
    fewer = dropped.fewer;
    same = dropped.same;
    nexts = λ e i l. go e i l (cases_eq i n);
  }) where
    go : fell ≡ false → (i : ℕ) → i < n + 1 → (i ≡ n) ⊎ (i ≡ n → ⊥)
        → get_or first (get_or list i 0) false ≡ true → HasNext atoms L first (get_or list i 0)
    go e i l (inr d) = dropped.nexts e i (omega (arith, l, d))
    go e i l (inl q) =
        subst (λ z. get_or first (get_or list z 0) false ≡ true → HasNext atoms L first (get_or list z 0)) (sym q)
        (subst (λ z. get_or z (get_or list n 0) false ≡ true → HasNext atoms L z (get_or list n 0))
        (dropped.same e) next)
