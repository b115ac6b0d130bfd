-- Literals that say nothing of names bar nothing, require nothing of values and are no demands.
use Rattle.std.proofs.Common.{◌≡◌, ℕ, ◌++◌, ◌||◌, Bool, true, false, cond, List, [], ◌∷◌, filter, flat_map, is_some, refl, ap, sym, ◌∙◌}
use Rattle.std.proofs.lemmas.Bool.{and_parts, and_from}
use Rattle.documents.specs.Tests.{every, some}
use Rattle.positions.specs.Position.{Position, MembersOf, Has, NamesIn, position_at}
use Rattle.goals.specs.Signed.{Signed, Plus, Minus, position_of}
use Rattle.name_truths.specs.NameAtoms.{formula_of}
use Rattle.cells.specs.Cells.{Cells, truth, naming}
use Rattle.frames.specs.Frame.{In}
use Rattle.frames.specs.ObjectFrame.{plus_bars, minus_bars, bars, plus_wants, minus_wants, is_demand, plus_each, each}

module _ (T : List Position) where
  abbrev speaks : Signed → Bool
  speaks x = is_some (formula_of (position_at T (position_of x)))

  -- what holds of no literal that says nothing of names

  some_naming : (p : Signed → Bool) → ((x : Signed) → speaks x ≡ false → p x ≡ false) → (S : List Signed)
      → some p (naming T S) ≡ some p S
  some_naming p h [] = refl
  some_naming p h (x ∷ S) = go (speaks x) (h x) (some_naming p h S) where
    go : (b : Bool) → (b ≡ false → p x ≡ false) → some p (naming T S) ≡ some p S
        → some p (cond b (x ∷ naming T S) (naming T S)) ≡ (p x || some p S)
    go true none more = ap (λ b. p x || b) more
    go false none more = more ∙ ap (λ b. b || some p S) (sym (none refl))

  filter_naming : (p : Signed → Bool) → ((x : Signed) → speaks x ≡ false → p x ≡ false) → (S : List Signed)
      → filter p (naming T S) ≡ filter p S
  filter_naming p h [] = refl
  filter_naming p h (x ∷ S) = go (speaks x) (h x) (filter_naming p h S) where
    go : (b : Bool) → (b ≡ false → p x ≡ false) → filter p (naming T S) ≡ filter p S
        → filter p (cond b (x ∷ naming T S) (naming T S)) ≡ cond (p x) (x ∷ filter p S) (filter p S)
    go true none more = ap (λ z. cond (p x) (x ∷ z) z) more
    go false none more = more ∙ ap (λ b. cond b (x ∷ filter p S) (filter p S)) (sym (none refl))

  flat_naming : (f : Signed → List Signed) → ((x : Signed) → speaks x ≡ false → f x ≡ []) → (S : List Signed)
      → flat_map f (naming T S) ≡ flat_map f S
  flat_naming f h [] = refl
  flat_naming f h (x ∷ S) = go (speaks x) (h x) (flat_naming f h S) where
    go : (b : Bool) → (b ≡ false → f x ≡ []) → flat_map f (naming T S) ≡ flat_map f S
        → flat_map f (cond b (x ∷ naming T S) (naming T S)) ≡ f x ++ flat_map f S
    go true none more = ap (λ z. f x ++ z) more
    go false none more = more ∙ ap (λ z. z ++ flat_map f S) (sym (none refl))

  -- the literals of the set

  pub naming-every : (p : Signed → Bool) (S : List Signed) → every p S ≡ true → every p (naming T S) ≡ true
  naming-every p [] h = refl
  naming-every p (x ∷ S) h =
      let (a, b) = and_parts (p x) (every p S) h in go (speaks x) a (naming-every p S b) where
        go : (b : Bool) → p x ≡ true → every p (naming T S) ≡ true
            → every p (cond b (x ∷ naming T S) (naming T S)) ≡ true
        go true a more = and_from (p x) (every p (naming T S)) a more
        go false a more = more

  demand_speaks : (x : Signed) → speaks x ≡ false → is_demand T x ≡ false
  demand_speaks (Plus p) e = go (position_at T p) e where
    go : (P : Position) → is_some (formula_of P) ≡ false → plus_wants P ≡ false
    go (Has n) e = e
    go _ e = refl
  demand_speaks (Minus p) e = go (position_at T p) e where
    go : (P : Position) → is_some (formula_of P) ≡ false → minus_wants P ≡ false
    go (MembersOf s q) e = e
    go (NamesIn q) e = e
    go _ e = refl

  pub naming-demands : (S : List Signed) → filter (is_demand T) (naming T S) ≡ filter (is_demand T) S
  naming-demands S = filter_naming (is_demand T) demand_speaks S

  module _ (C : Cells) (c : ℕ) where
    bars_speak : (x : Signed) → speaks x ≡ false → bars T C c x ≡ false
    bars_speak (Plus p) e = go (truth C c (Plus p)) (position_at T p) e where
      go : (b : Bool) (P : Position) → is_some (formula_of P) ≡ false → plus_bars b P ≡ false
      go b (NamesIn q) e = cc e
      go b _ e = refl
    bars_speak (Minus p) e = go (truth C c (Minus p)) (position_at T p) e where
      go : (b : Bool) (P : Position) → is_some (formula_of P) ≡ false → minus_bars b P ≡ false
      go b (Has n) e = cc e
      go b _ e = refl

    -- a set bars a cell exactly where its literals that speak of names bar it
    pub naming-bars : (S : List Signed) → some (bars T C c) (naming T S) ≡ some (bars T C c) S
    naming-bars S = some_naming (bars T C c) bars_speak S

    each_speaks : (x : Signed) → speaks x ≡ false → each T C (In c) x ≡ []
    each_speaks (Plus p) e = go (truth C c (Plus p)) (position_at T p) e where
      go : (b : Bool) (P : Position) → is_some (formula_of P) ≡ false → plus_each b P ≡ []
      go b (MembersOf s q) e = cc e
      go b _ e = refl
    each_speaks (Minus p) e = refl

    pub naming-each : (S : List Signed) → flat_map (each T C (In c)) (naming T S) ≡ flat_map (each T C (In c)) S
    naming-each S = flat_naming (each T C (In c)) each_speaks S
