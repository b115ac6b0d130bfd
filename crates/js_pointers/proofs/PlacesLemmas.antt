-- One more step that has no place in a block: the map has it, and its block is marked.
use Rattle.std.proofs.Common.{◌≡◌, ℕ, ◌+◌, List, Bool, true, false, cond, ◌&&◌, nat_lt, nat_eq, Option, Some, None, refl, sym, ap, ◌∙◌}
use Rattle.std.proofs.lemmas.Option.{none-some}
use Rattle.std.proofs.lemmas.Bool.{false≢true, eqb-true, eq-eqb}
use Rattle.std.specs.Prelude.{Result, Ok, Err, OnOk, OnErr}
use Rattle.std.specs.Map.{lookup}
use Rattle.std.specs.Ordering.{is_eq, nat_cmp}
use Rattle.std.specs.Cmp.{both_tied, unsigned_tied}
use Rattle.std.specs.BTreeMap.{BTreeMap, Updates, IsUnchanged, get}
use Rattle.js_pointers.specs.Numbered.{same_step, step_order}
use Rattle.js_pointers.specs.BlocksView.{block_of, found_in}
use Rattle.js_pointers.specs.declared.blocks.Block.{Block}
use Rattle.js_pointers.proofs.SameStepLemmas.{same_step-true}

-- where no block has a step, the map has it
found-other : (block : Block) (o : Option ℕ) (token n : ℕ) → found_in block o token ≡ None
    → found_in block (Some n) token ≡ Some n
found-other block o token n = go (nat_lt token block.count)
  where
    go : (b : Bool) → cond b (Some (block.first + token)) o ≡ None
        → cond b (Some (block.first + token)) (Some n) ≡ Some n
    go true h = absurd (none-some (block.first + token) (sym h))
    go false h = refl

-- the map's order distinguishes steps
same_order : (a b : ℕ × ℕ) → is_eq (step_order a b) ≡ same_step a b
same_order a b =
    sym (both_tied (nat_eq a.0 b.0) (nat_eq a.1 b.1) (nat_cmp a.0 b.0) (nat_cmp a.1 b.1)
    (sym (unsigned_tied a.0 b.0)) (sym (unsigned_tied a.1 b.1)))

-- a change to the map at a step leaves the others
pub keeps-others : {R E : Type 0} (m n : BTreeMap (ℕ × ℕ) ℕ) (k : ℕ × ℕ) (w : Option ℕ) (r : Result R E)
    → OnOk r (Updates step_order m n k w) → OnErr r (IsUnchanged m n)
    → (q : ℕ × ℕ) → same_step k q ≡ false → get step_order n q ≡ get step_order m q
keeps-others m n k w (Ok a) ok err q h = ok.2 q (same_order k q ∙ h)
keeps-others m n k w (Err e) ok err q h = ap (lookup (λ s. is_eq (step_order q s))) err

pub gets-others : (m n : BTreeMap (ℕ × ℕ) ℕ) (k : ℕ × ℕ) (w : Option ℕ) → Updates step_order m n k w
    → (q : ℕ × ℕ) → get step_order n q ≡ cond (same_step k q) w (get step_order m q)
gets-others m n k w updates q = updates.0 q ∙ ap (λ b. cond b w (get step_order m q)) (same_order k q)

abbrev pub mark : Block → Block
mark b = record { first = b.first; count = b.count; others = true }

module _ (before after : List Block) (had has : ℕ × ℕ → Option ℕ) (of token n : ℕ)
    (own : block_of after of ≡ mark (block_of before of))
    (others : (k : ℕ) → (k ≡ of → ⊥) → block_of after k ≡ block_of before k) where
  pub marked-other : ((q : ℕ × ℕ) → same_step (of, token) q ≡ false → has q ≡ had q)
      → ((k t : ℕ) → (block_of before k).others ≡ false → had (k, t) ≡ None)
      → (k t : ℕ) → (block_of after k).others ≡ false → has (k, t) ≡ None
  marked-other keeps marked k t = go (nat_eq of k) refl
    where
      go : (b : Bool) → nat_eq of k ≡ b → (block_of after k).others ≡ false → has (k, t) ≡ None
      go true e h =
          let same = eqb-true of k e in
          absurd (false≢true (sym h ∙ ap (λ j. (block_of after j).others) (sym same) ∙ ap (λ b. b.others) own))
      go false e h =
          let other : k ≡ of → ⊥ = λ s. false≢true (sym e ∙ eq-eqb of k (sym s)) in
          keeps (k, t) (ap (λ b. b && nat_eq token t) e) ∙ marked k t (ap (λ b. b.others) (sym (others k other)) ∙ h)

  -- a mark moves nothing
  same-found : (k t : ℕ) (o : Option ℕ) → found_in (block_of after k) o t ≡ found_in (block_of before k) o t
  same-found k t o = go (nat_eq of k) refl
    where
      go : (b : Bool) → nat_eq of k ≡ b → found_in (block_of after k) o t ≡ found_in (block_of before k) o t
      go true e =
          let same = eqb-true of k e in
          ap (λ j. found_in (block_of after j) o t) (sym same) ∙ ap (λ b. found_in b o t) own
          ∙ ap (λ j. found_in (block_of before j) o t) same
      go false e = ap (λ b. found_in b o t) (others k (λ s. false≢true (sym e ∙ eq-eqb of k (sym s))))

  pub noted-other : ((q : ℕ × ℕ) → has q ≡ cond (same_step (of, token) q) (Some n) (had q))
      → found_in (block_of before of) (had (of, token)) token ≡ None → (k t : ℕ)
      → found_in (block_of after k) (has (k, t)) t
      ≡ cond (same_step (of, token) (k, t)) (Some n) (found_in (block_of before k) (had (k, t)) t)
  noted-other gets missing k t =
      same-found k t (has (k, t)) ∙ ap (λ o. found_in (block_of before k) o t) (gets (k, t))
      ∙ go (same_step (of, token) (k, t)) refl
    where
      go : (b : Bool) → same_step (of, token) (k, t) ≡ b
          → found_in (block_of before k) (cond b (Some n) (had (k, t))) t
          ≡ cond b (Some n) (found_in (block_of before k) (had (k, t)) t)
      go true e =
          ap (λ s. found_in (block_of before s.0) (Some n) s.1) (sym (same_step-true (of, token) (k, t) e))
          ∙ found-other (block_of before of) (had (of, token)) token n missing
      go false e = refl
