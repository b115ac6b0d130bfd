-- The items of a class, read one item on.
use Rattle.std.proofs.Common.{◌≡◌, ℕ, zero, suc, ◌+◌, ◌<◌, ◌≤◌, false, List, [], ◌∷◌, ◌++◌, length, get_or, drop, Ok, Err, refl, ap, sym, ◌∙◌, append_assoc, add_assoc, add-zero, add-one, arith}
use Rattle.std.proofs.Math.Seq.{drop-cons}
use Rattle.std.proofs.lemmas.List.{drop-drop}
use Rattle.js_pattern.specs.declared.fault.PatternFault.{PatternFault}
use Rattle.js_pattern.specs.Reading.{Reading, and_then, after, ◌∈◌}
use Rattle.js_pattern.specs.Classes.{item, items_at, items}
use Rattle.js_pattern.specs.View.{IsFault}

pub after-after : {A B C : Type 0} (m n : ℕ) (f : B → C) (g : A → B) (r : Reading A)
    → after m f (after n g r) ≡ after (m + n) (λ x. f (g x)) r
after-after m n f g (Ok p) = ap (λ k. Ok (f (g p.0), k)) (sym (add_assoc m n p.1))
after-after m n f g (Err fault) = refl

pub after-same : {A B : Type 0} (n : ℕ) (f g : A → B) (r : Reading A) → ((x : A) → f x ≡ g x)
    → after n f r ≡ after n g r
after-same n f g (Ok p) h = ap (λ x. Ok (x, n + p.1)) (h p.0)
after-same n f g (Err fault) h = refl

-- reading n characters later is reading what is left then
pub items-skip : (n at : ℕ) (t : List ℕ) → n ≤ length t → items n at t ≡ items 0 (at + n) (drop n t)
items-skip zero at t h = ap (λ a. items 0 a t) (sym (add-zero at))
items-skip (suc n) at [] h = absurd (omega arith)
items-skip (suc n) at (c ∷ t) h =
    items-skip n (suc at) t (omega arith)
    ∙ (let e : suc at + n ≡ at + suc n = omega arith in ap (λ a. items 0 a (drop n t)) e)

-- equal readings have equal parts
pub same_read : {A : Type 0} (a b : A) (j k : ℕ) (r : Reading A) → r ≡ Ok (a, j) → r ≡ Ok (b, k)
    → (a ≡ b) × (j ≡ k)
same_read {A} a b j k r e f =
    let same : ◌≡◌ {A = A × ℕ} (a, j) (b, k) = cc in (ap (λ p. p.0) same, ap (λ p. p.1) same)

-- what an item of n more characters adds
after_item : (old new : List (ℕ × ℕ)) (n : ℕ) (r : Reading (List (ℕ × ℕ))) (more : ℕ → Reading (List (ℕ × ℕ)))
    → after 0 (λ added. old ++ added) r ≡ Ok (new, n)
    → after 0 (λ all. old ++ all) (and_then r (λ rs k. after (suc k) (λ more_rs. rs ++ more_rs) (more k)))
    ≡ after (suc n) (λ all. new ++ all) (more n)
after_item old new n (Ok p) more h =
    let (all, same) = same_read (old ++ p.0) new (0 + p.1) n (after 0 (λ added. old ++ added) (Ok p)) refl h in
    after-after 0 (suc p.1) (λ all. old ++ all) (λ more_rs. p.0 ++ more_rs) (more p.1)
    ∙ after-same (0 + suc p.1) (λ x. old ++ (p.0 ++ x)) (λ x. new ++ x) (more p.1)
    (λ x. sym (append_assoc old p.0 x) ∙ ap (λ l. l ++ x) all)
    ∙ (let e : 0 + suc p.1 ≡ suc n = omega (arith, same) in ap (λ k. after k (λ x. new ++ x) (more p.1)) e)
    ∙ (let e : p.1 ≡ n = omega (arith, same) in ap (λ k. after (suc n) (λ x. new ++ x) (more k)) e)
after_item old new n (Err fault) more h = cc

-- a character is at an index, and the text follows it
pub text_at : (text : List ℕ) (i c : ℕ) → i < length text → c ≡ get_or text i c
    → drop i text ≡ c ∷ drop (i + 1) text
text_at text i c l e = rw add-one (drop-cons text i c l ∙ ap (λ x. x ∷ drop (suc i) text) (sym e))

module _ (text rest : List ℕ) (at taken c : ℕ) (l : taken < length text) (is : c ≡ get_or text taken c)
    (follows : rest ≡ drop (taken + 1) text) (no_end : c ∈ "]" ≡ false) where
  more : ℕ → Reading (List (ℕ × ℕ))
  more n = items n (suc (at + taken)) rest

  then_more : Reading (List (ℕ × ℕ)) → Reading (List (ℕ × ℕ))
  then_more r = and_then r (λ rs n. after (suc n) (λ more_rs. rs ++ more_rs) (more n))

  here : items 0 (at + taken) (drop taken text) ≡ then_more (item (at + taken) c rest)
  unfolding then_more more
  here =
      ap (items 0 (at + taken)) (text_at text taken c l is ∙ ap (λ t. c ∷ t) (sym follows))
      ∙ ap (λ b. items_at b (at + taken) c rest (λ n. items n (suc (at + taken)) rest)) no_end

  -- the loop's step: c is no closing bracket, and its item was added
  pub items-step : (old new : List (ℕ × ℕ)) (n : ℕ) → n ≤ length rest
      → after 0 (λ added. old ++ added) (item (at + taken) c rest) ≡ Ok (new, n)
      → after (taken + (1 + n)) (λ all. new ++ all)
      (items 0 (at + (taken + (1 + n))) (drop (taken + (1 + n)) text))
      ≡ after taken (λ all. old ++ all) (items 0 (at + taken) (drop taken text))
  unfolding then_more more
  items-step old new n within h =
      let step = after_item old new n (item (at + taken) c rest) more h in
      let place : suc (at + taken) + n ≡ at + (taken + (1 + n)) = omega arith in
      let far : taken + 1 + n ≡ taken + (1 + n) = omega arith in
      let left : drop n rest ≡ drop (taken + (1 + n)) text =
      ap (drop n) follows ∙ drop-drop n (taken + 1) text ∙ ap (λ k. drop k text) far in
      let skipped : more n ≡ items 0 (at + (taken + (1 + n))) (drop (taken + (1 + n)) text) =
      items-skip n (suc (at + taken)) rest within ∙ ap (λ a. items 0 a (drop n rest)) place
      ∙ ap (items 0 (at + (taken + (1 + n)))) left in
      let whole : after 0 (λ all. old ++ all) (items 0 (at + taken) (drop taken text))
      ≡ after (suc n) (λ all. new ++ all) (items 0 (at + (taken + (1 + n))) (drop (taken + (1 + n)) text)) =
      ap (after 0 (λ all. old ++ all)) here ∙ step ∙ ap (after (suc n) (λ all. new ++ all)) skipped in
      let one : taken + (1 + n) ≡ taken + suc n = omega arith in
      ap (λ k. after k (λ all. new ++ all) (items 0 (at + (taken + (1 + n))) (drop (taken + (1 + n)) text))) one
      ∙ sym (after-after taken (suc n) (λ x. x) (λ all. new ++ all)
      (items 0 (at + (taken + (1 + n))) (drop (taken + (1 + n)) text)))
      ∙ ap (after taken (λ x. x)) (sym whole)
      ∙ after-after taken 0 (λ x. x) (λ all. old ++ all) (items 0 (at + taken) (drop taken text))
      ∙ (let e : taken + 0 ≡ taken = omega arith in ap
      (λ k. after k (λ all. old ++ all) (items 0 (at + taken) (drop taken text))) e)

  -- a fault of the item is one of the whole
  pub items-fault : (fault : PatternFault) (old : List (ℕ × ℕ)) → IsFault fault (item (at + taken) c rest)
      → IsFault fault (after taken (λ all. old ++ all) (items 0 (at + taken) (drop taken text)))
  unfolding then_more
  items-fault fault old h no_memory = ap (after taken (λ all. old ++ all)) (here ∙ ap then_more (h no_memory))
