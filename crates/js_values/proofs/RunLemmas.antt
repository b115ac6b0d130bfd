-- Makers that are put together run one after another.
use Rattle.std.proofs.Common.{◌≡◌, ℕ, suc, ◌+◌, ◌<◌, ◌≤◌, List, [], ◌∷◌, ◌++◌, length, map, drop, get_or, Bool, true, false, cond, Option, Some, None, option_map, filter, refl, sym, ap, ap₂, ◌∙◌, arith, append_assoc, length-append, drop-cons, add-one, add-zero}
use Rattle.std.proofs.lemmas.List.{append-nil, drop_all}
use Rattle.positions.specs.Position.{Position}
use Rattle.normal_forms.specs.Nodes.{Maker, nothing, node, entry, both, above, each, if_some}
use Rattle.normal_forms.specs.NormalForm.{node_rank, numbered}
use Rattle.js_values.specs.Runs.{State, next, with_named, run}

abbrev pub state : ℕ → ℕ → List Position → List ℕ → List ℕ → State
state k r ns rs qs = record { first = k; rank = r; nodes = ns; ranks = rs; named = qs }

state-same : (k r : ℕ) (ns ms : List Position) (rs ss qs ts : List ℕ) → ns ≡ ms → rs ≡ ss → qs ≡ ts
    → state k r ns rs qs ≡ state k r ms ss ts
state-same k r ns ms rs ss qs ts a b c =
    ap₂ (λ ns rs. state k r ns rs qs) a b ∙ ap (state k r ms ss) c

-- ranks of nodes that are numbered on
numbered-append : (r n : ℕ) (Ps Qs : List Position)
    → numbered r n (Ps ++ Qs) ≡ numbered r n Ps ++ numbered r (n + length Ps) Qs
numbered-append r n [] Qs = ap (λ k. numbered r k Qs) (sym (add-zero n))
numbered-append r n (P ∷ Ps) Qs =
    let next : suc n + length Ps ≡ n + suc (length Ps) = omega arith in
    ap (λ xs. node_rank r n ∷ xs) (numbered-append r (suc n) Ps Qs
    ∙ ap (λ k. numbered r (suc n) Ps ++ numbered r k Qs) next)

pub run-nothing : (s : State) → run nothing s ≡ s
unfolding run
run-nothing s =
    state-same s.first s.rank _ _ _ _ _ _ (append-nil s.nodes) (append-nil s.ranks) (append-nil s.named)

next-run : (f : Maker) (s : State) → s.first + length (s.nodes ++ (f (next s)).added)
    ≡ next s + length (f (next s)).added
next-run f s = let e = length-append s.nodes (f (next s)).added in omega (arith, e)

-- what a second maker's ranks are behind those of the first
ranks-run : (s : State) (Ps Qs : List Position)
    → s.ranks ++ numbered s.rank (next s) (Ps ++ Qs)
    ≡ (s.ranks ++ numbered s.rank (next s) Ps) ++ numbered s.rank (next s + length Ps) Qs
ranks-run s Ps Qs =
    ap (λ xs. s.ranks ++ xs) (numbered-append s.rank (next s) Ps Qs)
    ∙ sym (append_assoc s.ranks (numbered s.rank (next s) Ps) (numbered s.rank (next s + length Ps) Qs))

pub run-both : (f g : Maker) (s : State) → run (both f g) s ≡ run g (run f s)
unfolding run
run-both f g s =
    let a = f (next s) in
    let n = next s + length a.added in
    state-same s.first s.rank _ _ _ _ _ _
    (sym (append_assoc s.nodes a.added (g n).added)
    ∙ ap (λ n. (s.nodes ++ a.added) ++ (g n).added) (sym (next-run f s)))
    (ranks-run s a.added (g n).added
    ∙ ap (λ n. (s.ranks ++ numbered s.rank (next s) a.added) ++ numbered s.rank n (g n).added) (sym (next-run f s)))
    (sym (append_assoc s.named a.named (g n).named)
    ∙ ap (λ n. (s.named ++ a.named) ++ (g n).named) (sym (next-run f s)))

-- the last of several makers runs on what the others made
pub chain-end : (s t : State) (f g : Maker) → t ≡ run f s → run g t ≡ run (both f g) s
chain-end s t f g a = ap (run g) a ∙ sym (run-both f g s)

pub chain : (s t u : State) (f g : Maker) → t ≡ run f s → u ≡ run g t → u ≡ run (both f g) s
chain s t u f g a b = b ∙ chain-end s t f g a

-- a node is appended with its rank, and named by its number
pub run-pushed : (k r : ℕ) (ns ms : List Position) (rs ss qs ts : List ℕ) (P : Position) → ms ≡ ns ++ P ∷ []
    → ss ≡ rs ++ node_rank r (k + length ns) ∷ [] → ts ≡ qs ++ (k + length ns) ∷ []
    → state k r ms ss ts ≡ run (node P) (state k r ns rs qs)
unfolding run
run-pushed k r ns ms rs ss qs ts P a b c = state-same k r _ _ _ _ _ _ a b c

-- an entry is named
pub run-entry : (k r e : ℕ) (ns : List Position) (rs qs ts : List ℕ) → ts ≡ qs ++ e ∷ []
    → state k r ns rs ts ≡ run (entry e) (state k r ns rs qs)
unfolding run
run-entry k r e ns rs qs ts c = state-same k r _ _ _ _ _ _ (sym (append-nil ns)) (sym (append-nil rs)) c

-- one after another
pub run-two : (f g : Maker) (s t u : State) → t ≡ run f s → u ≡ run g t → u ≡ run (both f g) s
run-two f g s t u a b = b ∙ ap (run g) a ∙ sym (run-both f g s)

-- a node that names what was made below it, where that is named apart
above-whole : (P : List ℕ → Position) (f : Maker) (s : State)
    → run (node (P (run f (with_named [] s)).named)) (with_named s.named (run f (with_named [] s))) ≡ run (above P f) s
unfolding run
above-whole P f s =
    let a = f (next s) in
    let Q = P a.named ∷ [] in
    state-same s.first s.rank _ _ _ _ _ _
    (append_assoc s.nodes a.added Q)
    (ap (λ n. (s.ranks ++ numbered s.rank (next s) a.added) ++ numbered s.rank n Q) (next-run f s)
    ∙ sym (ranks-run s a.added Q))
    (ap (λ n. s.named ++ n ∷ []) (next-run f s))

pub above-made : (P : List ℕ → Position) (f : Maker) (s apart t u : State) (outer below : List ℕ) → outer ≡ s.named
    → apart ≡ with_named [] s → t ≡ run f apart → below ≡ t.named → u ≡ with_named outer t
    → run (node (P below)) u ≡ run (above P f) s
above-made P f s apart t u outer below a b c d e =
    ap₂ (λ qs v. run (node (P qs)) v) d e
    ∙ ap (λ qs. run (node (P t.named)) (with_named qs t)) a
    ∙ ap (λ v. run (node (P v.named)) (with_named s.named v)) (c ∙ ap (run f) b)
    ∙ above-whole P f s

-- elements of a loop: what is left is made from here on
pub each-step : {A B : Type 0} (f : B → Maker) (v : A → B) (xs : List A) (i : ℕ) (x : A) (s t u : State)
    → i < length xs → x ≡ get_or xs i x → t ≡ run (f (v x)) s → u ≡ run (each f (map v (drop i xs))) s
    → u ≡ run (each f (map v (drop (i + 1) xs))) t
each-step {A} f v xs i x s t u l e a b =
    b ∙ ap (λ ys. run (each f (map v ys)) s) (drop-here xs i x l e)
    ∙ run-both (f (v x)) (each f (map v (drop (i + 1) xs))) s
    ∙ ap (run (each f (map v (drop (i + 1) xs)))) (sym a) where
      drop-here : (xs : List A) (i : ℕ) (x : A) → i < length xs → x ≡ get_or xs i x → drop i xs ≡ x ∷ drop (i + 1) xs
      drop-here xs i x l e =
          rw add-one (drop-cons xs i x l ∙ ap (λ y. y ∷ drop (suc i) xs) (sym e))

pub each-end : {A B : Type 0} (f : B → Maker) (v : A → B) (xs : List A) (i : ℕ) (s u : State) → length xs ≤ i
    → u ≡ run (each f (map v (drop i xs))) s → s ≡ u
each-end f v xs i s u l a =
    sym (a ∙ ap (λ ys. run (each f (map v ys)) s) (drop_all i xs l) ∙ run-nothing s)

-- what isn't required is left out
pub run-skip : (b : Bool) (f : Maker) (s : State) → b ≡ false → s ≡ run (cond b f nothing) s
run-skip b f s e = rw e (sym (run-nothing s))

-- for those of a list that pass a test
pub run-filter : {A : Type 0} (p : A → Bool) (f : A → Maker) (xs : List A) (s : State)
    → run (each f (filter p xs)) s ≡ run (each (λ x. cond (p x) (f x) nothing) xs) s
run-filter p f [] s = refl
run-filter {A} p f (x ∷ xs) s =
    by_test (p x) refl (run-filter p f xs)
    ∙ sym (run-both (cond (p x) (f x) nothing) (each (λ x. cond (p x) (f x) nothing) xs) s) where
      by_test : (t : Bool) → p x ≡ t
          → ((s : State) → run (each f (filter p xs)) s ≡ run (each (λ x. cond (p x) (f x) nothing) xs) s)
          → run (each f (filter p (x ∷ xs))) s
          ≡ run (each (λ x. cond (p x) (f x) nothing) xs) (run (cond (p x) (f x) nothing) s)
      by_test true e rest = rw e (run-both (f x) (each f (filter p xs)) s ∙ rest (run (f x) s))
      by_test false e rest =
          rw e (rest s ∙ ap (run (each (λ x. cond (p x) (f x) nothing) xs)) (sym (run-nothing s)))

-- a node that is there stands for the keyword that makes it
pub run-optional : {A : Type 0} (P : A → Position) (o : Option A) (n : Option Position) (s : State)
    → n ≡ option_map P o → run (if_some node n) s ≡ run (if_some (λ x. node (P x)) o) s
run-optional P None n s e = ap (λ m. run (if_some node m) s) e
run-optional P (Some x) n s e = ap (λ m. run (if_some node m) s) e

-- and nothing stands for what is absent
pub run-absent : {A : Type 0} (f : A → Maker) (o : Option A) (s : State) → o ≡ None → s ≡ run (if_some f o) s
run-absent f o s e = rw e (sym (run-nothing s))

pub run-missing : {A B : Type 0} (f : B → Maker) (g : A → B) (o : Option A) (s : State) → o ≡ None
    → s ≡ run (if_some f (option_map g o)) s
run-missing f g o s e = rw e (sym (run-nothing s))

pub map-same : {A : Type 0} (xs : List A) → map (λ x. x) xs ≡ xs
map-same [] = refl
map-same (x ∷ xs) = ap (λ ys. x ∷ ys) (map-same xs)
