-- What each loop of the walk keeps, over plain variables.
use Rattle.std.proofs.Common.{◌≡◌, ℕ, zero, suc, ◌+◌, ◌-◌, ◌<◌, ◌≤◌, inl, inr, ◌∙◌, List, [], ◌∷◌, ◌++◌, map, drop, drop-cons, add-one, length, get_or, replicate, Bool, true, false, ◌||◌, ◌&&◌, not, true≢false, Result, Ok, Err, IfOk, refl, sym, ap, subst, arith}
use Rattle.std.proofs.lemmas.Bool.{or_cases, false≢true, and_parts}
use Rattle.patterns.specs.Tree.{Tree, no_trees, tree, trees_of}
use Rattle.patterns.specs.Match.{Repeats, Matches, MatchesInTurn, MatchesOne}
use Rattle.js_pattern.specs.declared.re.Re.{Re}
use Rattle.js_pattern.specs.View.{view}
use Rattle.js_match.specs.Places.{is_at, Leads, HasBoth, marked, nodes, list_nodes, are_within}
use Rattle.js_match.proofs.LeadsLaws.{leads_then, leads_same, leads_nowhere_else, leads_either, leads_still, is_at-append, within-from, within-at}
use Rattle.std.proofs.Math.Bool.{or_assoc, or-false}

rest_trees : (items : List Re) (i : ℕ) (x : Re) → i < length items → x ≡ get_or items i x
    → trees_of (map view (drop i items)) ≡ tree (view x) (trees_of (map view (drop (i + 1) items)))
rest_trees items i x within is = rw (add-one, drop-cons items i x, ← is) refl

no_rest : (items : List Re) (i : ℕ) → length items ≤ i → trees_of (map view (drop i items)) ≡ no_trees
no_rest [] zero h = refl
no_rest [] (suc i) h = refl
no_rest (x ∷ items) zero h = absurd (omega (arith, h))
no_rest (x ∷ items) (suc i) h = no_rest items i (omega (arith, h))

pub nodes-item : (items : List Re) (i : ℕ) (x : Re) → i < length items → x ≡ get_or items i x
    → suc (nodes (view x)) ≤ list_nodes (trees_of (map view items))
nodes-item [] i x h is = absurd (omega (arith, h))
nodes-item (y ∷ items) zero x h is = let e = ap (λ z. nodes (view z)) is in omega (arith, e)
nodes-item (y ∷ items) (suc i) x h is = let less = nodes-item items i x (omega (arith, h)) is in omega (arith, less)

module _ (w starts : List ℕ) (items : List Re) where
  abbrev pub InTurn : ℕ → List ℕ → List ℕ → Type 0
  InTurn i xs ys = Leads (MatchesInTurn (trees_of (map view (drop i items))) w) xs ys

  abbrev pub OneOf : ℕ → List ℕ → List ℕ → Type 0
  OneOf i xs ys = Leads (MatchesOne (trees_of (map view (drop i items))) w) xs ys

  -- what the trees behind place i reach from where the tree there leads, the trees from place i on reach
  pub in_turn_next : (R : List ℕ → Type 0) (i : ℕ) (x : Re) (places next : List ℕ) → i < length items
      → x ≡ get_or items i x → Leads (Matches (view x) w) places next
      → ((ends : List ℕ) → InTurn i places ends → R ends) → (ends : List ℕ) → InTurn (i + 1) next ends → R ends
  in_turn_next R i x places next h is l rest ends k =
      rest ends (subst (λ ts. Leads (MatchesInTurn ts w) places ends) (sym (rest_trees items i x h is))
      (leads_then (Matches (view x) w) (MatchesInTurn (trees_of (map view (drop (i + 1)
      items))) w) places next ends l k))

  -- what the tree at place i reaches joins what was found, and the trees behind it are left
  pub either_next : (Step : ℕ → ℕ → Type 0) (i : ℕ) (x : Re) (found next both : List ℕ) → i < length items
      → x ≡ get_or items i x → Leads (Matches (view x) w) starts next → HasBoth found next both
      → ((ends : List ℕ) → OneOf i starts ends → Leads Step starts (found ++ ends))
      → (ends : List ℕ) → OneOf (i + 1) starts ends → Leads Step starts (both ++ ends)
  either_next Step i x found next both h is l b rest ends k =
      let joined = rest (next ++ ends) (subst (λ ts. Leads (MatchesOne ts w) starts (next ++ ends))
      (sym (rest_trees items i x h is))
      (leads_either (Matches (view x) w) (MatchesOne (trees_of (map view (drop (i + 1)
      items))) w) starts next ends l k)) in
      leads_same Step starts (found ++ (next ++ ends)) (both ++ ends) (λ j.
      is_at-append j both ends ∙ ap (λ t. t || is_at j ends) (b j)
      ∙ or_assoc (is_at j found) (is_at j next) (is_at j ends)
      ∙ ap (λ t. is_at j found || t) (sym (is_at-append j next ends)) ∙ sym (is_at-append j found
      (next ++ ends))) joined

  pub either_done : (Step : ℕ → ℕ → Type 0) (i : ℕ) (found : List ℕ) → length items ≤ i
      → ((ends : List ℕ) → OneOf i starts ends → Leads Step starts (found ++ ends)) → Leads Step starts found
  either_done Step i found h rest =
      leads_same Step starts (found ++ []) found (λ j. sym (or-false (is_at j found)) ∙ sym (is_at-append j found []))
      (rest [] (subst (λ ts. Leads (MatchesOne ts w) starts []) (sym (no_rest items i h))
      (record { sound = λ j a. absurd (false≢true a); complete = λ i j a m. absurd m })))

pub times_next : (Step : ℕ → ℕ → Type 0) (R : List ℕ → Type 0) (times round : ℕ) (places next : List ℕ) → round < times
    → Leads Step places next → ((ends : List ℕ) → Leads (Repeats Step (times - round)) places ends → R ends)
    → (ends : List ℕ) → Leads (Repeats Step (times - (round + 1))) next ends → R ends
times_next Step R times round places next h l rest ends k =
    let e : suc (times - (round + 1)) ≡ times - round = omega (arith, h) in
    rest ends (subst (λ n. Leads (Repeats Step n) places ends) e
    (leads_then Step (Repeats Step (times - (round + 1))) places next ends l k))

pub times_done : (Step : ℕ → ℕ → Type 0) (R : List ℕ → Type 0) (times round : ℕ) (places : List ℕ) → times ≤ round
    → ((ends : List ℕ) → Leads (Repeats Step (times - round)) places ends → R ends) → R places
times_done Step R times round places h rest =
    let e : 0 ≡ times - round = omega (arith, h) in
    rest places (subst (λ n. Leads (Repeats Step n) places places) e (leads_nowhere_else places))

pub times_still : (Step : ℕ → ℕ → Type 0) (R : List ℕ → Type 0) (n : ℕ) (places next : List ℕ) → next ≡ places
    → Leads Step places next → ((ends : List ℕ) → Leads (Repeats Step n) places ends → R ends) → R places
times_still Step R n places next e l rest =
    rest places (leads_still Step places (subst (λ xs. Leads Step places xs) e l) n)

pub marked-none : (n j : ℕ) → marked (replicate n false) j ≡ false
marked-none zero j = refl
marked-none (suc n) zero = refl
marked-none (suc n) (suc j) = marked-none n j

pub marks_first : (bs : List Bool) (n : ℕ) (xs : List ℕ) (new : List Bool) → bs ≡ replicate n false
    → ((j : ℕ) → marked new j ≡ (marked bs j || is_at j xs)) → (j : ℕ) → marked new j ≡ is_at j xs
marks_first bs n xs new e h j = h j ∙ ap (λ b. b || is_at j xs) (ap (λ cs. marked cs j) e ∙ marked-none n j)

pub fresh_first : (bs : List Bool) (n : ℕ) (xs new : List ℕ) → bs ≡ replicate n false
    → ((j : ℕ) → is_at j new ≡ (not (marked bs j) && is_at j xs))
    → (j : ℕ) → is_at j new ≡ is_at j xs
fresh_first bs n xs new e h j =
    h j ∙ ap (λ b. not b && is_at j xs) (ap (λ cs. marked cs j) e ∙ marked-none n j)

pub within_new : (n : ℕ) (xs new : List ℕ) (old : ℕ → Bool) → are_within n xs ≡ true
    → ((j : ℕ) → is_at j new ≡ (old j && is_at j xs)) → are_within n new ≡ true
within_new n xs new old w h = within-from n new (λ j a. within-at n j xs w ((and_parts (old j) (is_at j xs) (sym (h j)
    ∙ a)).1))

pub within_both : (n : ℕ) (xs ys zs : List ℕ) → are_within n xs ≡ true → are_within n ys ≡ true → HasBoth xs ys zs
    → are_within n zs ≡ true
within_both n xs ys zs a b h = within-from n zs (λ j k. go j (sym (h j) ∙ k))
  where
    go : (j : ℕ) → (is_at j xs || is_at j ys) ≡ true → j ≤ n
    go j k = elim (or_cases (is_at j xs) (is_at j ys) k) [
      | inl l ↦ within-at n j xs a l
      | inr r ↦ within-at n j ys b r
    ]

pub within_marked : (n : ℕ) (places : List ℕ) (marks : List Bool) → length marks ≡ n + 1
    → ((j : ℕ) → is_at j places ≡ marked marks j) → are_within n places ≡ true
within_marked n places marks e h = within-from n places (λ j a. go marks n j e (sym (h j) ∙ a))
  where
    go : (bs : List Bool) (n j : ℕ) → length bs ≡ n + 1 → marked bs j ≡ true → j ≤ n
    go [] n j e m = absurd (omega (arith, e))
    go (b ∷ bs) n zero e m = omega arith
    go (b ∷ []) n (suc j) e m = absurd (true≢false (sym m))
    go (b ∷ c ∷ bs) zero (suc j) e m = absurd (omega (arith, e))
    go (b ∷ c ∷ bs) (suc n) (suc j) e m = let l = go (c ∷ bs) n j (omega (arith, e)) m in omega (arith, l)

pub ok_then : {A E : Type 0} (r : Result A E) (P Q : A → Type 0) → ((a : A) → P a → Q a) → IfOk r P → IfOk r Q
ok_then (Ok a) P Q f h = f a h
ok_then (Err e) P Q f h = tt

pub seen_as : (t u : Tree) (w xs ys : List ℕ) → t ≡ u → Leads (Matches u w) xs ys → Leads (Matches t w) xs ys
seen_as t u w xs ys e l = subst (λ v. Leads (Matches v w) xs ys) (sym e) l
