-- The core table of a schema is a table: what positions name is there, numbers have their ranges, and ranks fall.
use Rattle.std.proofs.Common.{◌≡◌, ℕ, suc, ◌+◌, ◌*◌, ◌^◌, ◌<◌, ◌≤◌, inl, inr, List, [], ◌∷◌, ◌++◌, length, map, get_or, Bool, true, false, ◌&&◌, nat_lt, nat_le, nat_eq, refl, ap, sym, ◌∙◌, subst, arith, add-zero, append_assoc}
use Rattle.std.proofs.Math.Seq.{get_or-append_seam}
use Rattle.std.proofs.lemmas.Bool.{and_parts, and_from}
use Rattle.std.proofs.lemmas.List.{get_or-map, get_or_append_left, length_push, length-map}
use Rattle.std.specs.List.{AllByRecursion}
use Rattle.documents.specs.Tests.{every}
use Rattle.patterns.specs.Tree.{Tree}
use Rattle.schemas.specs.Entry.{Form, Always, Never, Ref, Asks, Entry}
use Rattle.schemas.specs.Schema as S
use Rattle.schemas.specs.Schema.{form_in_range}
use Rattle.draft06.specs.EntryValidity.{form_at}
use Rattle.draft06_laws.specs.Ranks.{FallInPlace}
use Rattle.draft06_laws.proofs.RankLaws.{fall_in_place}
use Rattle.draft06_laws.proofs.EntryLaws.{ranked, parts_below, IsEntry, named_in_place}
use Rattle.levels.specs.Within.{RankedWithin}
use Rattle.schemas.specs.Guarded.{edges, are_ranks}
use Rattle.schemas.specs.Weight.{most_weight}
use Rattle.schema_laws.proofs.Ranks.{are_ranks-length}
use Rattle.list_laws.proofs.Elements.{all-both}
use Rattle.normal_laws.proofs.NormalLaw.{in_range-at, length-entry_positions}
use Rattle.positions.specs.Position.{Position, in_place, of_parts, names_below, in_range, ranks_fall, is_table}
use Rattle.normal_forms.specs.Nodes.{Nodes, after}
use Rattle.normal_forms.specs.NormalForm.{form_nodes, entry_position, entry_positions, all_nodes, node_rank, entry_rank, numbered, node_ranks, table_of, ranks_of}
use Rattle.normal_laws.proofs.Growth.{Grown, MayName}
use Rattle.normal_laws.proofs.KeywordGrowth.{keywords_grow}
use Rattle.list_laws.proofs.Every.{every_joined}
use Rattle.position_laws.proofs.Joined.{ranks_fall-append}

-- the ranks are in the list from n on
abbrev RanksAt : List ℕ → ℕ → List ℕ → Type 0
RanksAt RS n [] = Unit {0}
RanksAt RS n (y ∷ ys) = (get_or RS n 0 ≡ y) × RanksAt RS (suc n) ys

ranks_after : (A B : List ℕ) → RanksAt (A ++ B) (length A) B
ranks_after A [] = tt
ranks_after A (x ∷ B) =
    let P : List ℕ → Type 0 = λ xs. RanksAt xs (length (A ++ x ∷ [])) B in
    let Q : ℕ → Type 0 = λ n. RanksAt (A ++ x ∷ B) n B in
    let more : length (A ++ x ∷ []) ≡ suc (length A) = omega (arith, length_push A x) in
    (get_or-append_seam A x B 0, subst Q more (subst P (append_assoc A (x ∷ []) B) (ranks_after (A ++ x ∷ []) B)))

ranks-append : (RS : List ℕ) (n : ℕ) (xs ys : List ℕ) → RanksAt RS n (xs ++ ys)
    → RanksAt RS n xs × RanksAt RS (n + length xs) ys
ranks-append RS n [] ys h = (tt, subst (λ k. RanksAt RS k ys) (sym (add-zero n)) h)
ranks-append RS n (x ∷ xs) ys h =
    let rest = ranks-append RS (suc n) xs ys h.1 in
    let place : suc n + length xs ≡ n + length (x ∷ xs) = omega arith in
    ((h.0, rest.0), subst (λ k. RanksAt RS k ys) place rest.1)

length-numbered : (r p : ℕ) (Ps : List Position) → length (numbered r p Ps) ≡ length Ps
length-numbered r p [] = refl
length-numbered r p (P ∷ Ps) = ap suc (length-numbered r (suc p) Ps)

-- the rank of each node of a block
rank_in : (RS : List ℕ) (r n : ℕ) (Ps : List Position) → RanksAt RS n (numbered r n Ps) → (q : ℕ) → n ≤ q
    → q < n + length Ps → get_or RS q 0 ≡ node_rank r q
rank_in RS r n [] h q a b = absurd (omega (arith, a, b))
rank_in RS r n (P ∷ Ps) h q a b =
    first_or (nat_eq n q) refl (λ c. rank_in RS r (suc n) Ps h.1 q c (omega (arith, b))) where
      first_or : (t : Bool) → nat_eq n q ≡ t → (suc n ≤ q → get_or RS q 0 ≡ node_rank r q)
          → get_or RS q 0 ≡ node_rank r q
      first_or true e more =
          let same : n ≡ q = grind (arith, e) in
          let F : ℕ → Type 0 = λ k. get_or RS k 0 ≡ node_rank r k in subst F same h.0
      first_or false e more = let later : suc n ≤ q = grind (arith, e, a) in more later

all_tested : {A : Type 0} (P : A → Type 0) (test : A → Bool) (xs : List A) → ((x : A) → P x → test x ≡ true)
    → AllByRecursion P xs → every test xs ≡ true
all_tested P test [] f h = refl
all_tested P test (x ∷ xs) f h = and_from (test x) (every test xs) (f x h.0) (all_tested P test xs f h.1)

module _ (tree_of : List ℕ → Tree) (RS : List ℕ) (L first : ℕ) (some_entry : 0 < first) where
  -- an entry whose rank lies below the nodes of an entry with the rank r
  abbrev IsLower : ℕ → ℕ → Type 0
  IsLower r q = (q < first) × (get_or RS q 0 < r * 2 ^ 32)

  lower_first : (r q : ℕ) → IsLower r q → q < first
  lower_first r q h = h.0

  -- an entry with its nodes, which begin at n
  record IsBlock (r n e : ℕ) (f : Form) : Type 0 where
    own : get_or RS e 0 ≡ entry_rank r
    nodes : RanksAt RS n (numbered r n (form_nodes tree_of f n).added)
    later : first ≤ n
    room : after n (form_nodes tree_of f n) ≤ L
    few : after n (form_nodes tree_of f n) < 2 ^ 32
    named : AllByRecursion (IsLower r) (S.in_place f)
    parts : AllByRecursion (λ q. q < first) (S.of_parts f)
    range : form_in_range f ≡ true

  grown : (r n e : ℕ) (f : Form) → IsBlock r n e f
      → Grown (IsLower r) first some_entry (lower_first r) n n (form_nodes tree_of f n).added
      × AllByRecursion (MayName (IsLower r) first some_entry (lower_first r) n (after n (form_nodes tree_of f n)))
      (form_nodes tree_of f n).named
  grown r n e Always b = (tt, tt)
  grown r n e Never b = (tt, tt)
  grown r n e (Ref q) b = (tt, tt)
  grown r n e (Asks k) b =
      keywords_grow (IsLower r) first some_entry (lower_first r) tree_of k b.range b.named b.parts n b.later

  abbrev May : ℕ → ℕ → ℕ → ℕ → Type 0
  May r = MayName (IsLower r) first some_entry (lower_first r)

  may_below : (r n p q : ℕ) → first ≤ n → n ≤ p → p < L → May r n p q → nat_lt q L ≡ true
  may_below r n p q f l k (inl h) = let a = h.1 in grind (arith, a, k)
  may_below r n p q f l k (inr h) = let a = h.0 in grind (arith, a, f, l, k)

  part_below : (p q : ℕ) → p < L → q < p → nat_lt q L ≡ true
  part_below p q k h = grind (arith, k, h)

  nodes_named : (r n p : ℕ) (Ps : List Position) → first ≤ n → n ≤ p → p + length Ps ≤ L
      → Grown (IsLower r) first some_entry (lower_first r) n p Ps → every (names_below L) Ps ≡ true
  nodes_named r n p [] f l m h = refl
  nodes_named r n p (P ∷ Ps) f l m h =
      let k : p < L = omega (arith, m) in
      and_from (names_below L P) (every (names_below L) Ps)
      (and_from (every (λ q. nat_lt q L) (in_place P)) (every (λ q. nat_lt q L) (of_parts P))
      (all_tested (May r n p) (λ q. nat_lt q L) (in_place P) (λ q a. may_below r n p q f l k a) h.0.0)
      (all_tested (λ q. q < p) (λ q. nat_lt q L) (of_parts P) (λ q a. part_below p q k a) h.0.1))
      (nodes_named r n (suc p) Ps f (omega (arith, l)) (omega (arith, m)) h.1)

  nodes_ranged : (r n p : ℕ) (Ps : List Position) → Grown (IsLower r) first some_entry (lower_first r) n p Ps
      → every in_range Ps ≡ true
  nodes_ranged r n p [] h = refl
  nodes_ranged r n p (P ∷ Ps) h = and_from (in_range P) (every in_range Ps) h.0.2 (nodes_ranged r n (suc p) Ps h.1)

  -- a node lies above what it names in place
  node_above : (r n m p q : ℕ) → ((i : ℕ) → n ≤ i → i < m → get_or RS i 0 ≡ node_rank r i) → n ≤ p → p < m
      → May r n p q → nat_lt (get_or RS q 0) (get_or RS p 0) ≡ true
  node_above r n m p q known l k (inl h) =
      let a = known q h.0 (omega (arith, h.1, k)) in let b = known p l k in let c = h.1 in
      rw (a, b) (grind (arith, c))
  node_above r n m p q known l k (inr h) =
      let b = known p l k in let c = h.1 in rw b (grind (arith, c))

  nodes_fall : (r n m p : ℕ) (Ps : List Position) → ((i : ℕ) → n ≤ i → i < m → get_or RS i 0 ≡ node_rank r i)
      → n ≤ p → p + length Ps ≤ m → Grown (IsLower r) first some_entry (lower_first r) n p Ps
      → ranks_fall RS p Ps ≡ true
  nodes_fall r n m p [] known l k h = refl
  nodes_fall r n m p (P ∷ Ps) known l k h =
      let inside : p < m = omega (arith, k) in
      and_from (every (λ q. nat_lt (get_or RS q 0) (get_or RS p 0)) (in_place P)) (ranks_fall RS (suc p) Ps)
      (all_tested (May r n p) (λ q. nat_lt (get_or RS q 0) (get_or RS p 0)) (in_place P)
      (λ q a. node_above r n m p q known l inside a) h.0.0)
      (nodes_fall r n m (suc p) Ps known (omega (arith, l)) (omega (arith, k)) h.1)

  -- an entry lies above its nodes, and above the entries that it names in place
  entry_above : (r n m e q : ℕ) → get_or RS e 0 ≡ entry_rank r
      → ((i : ℕ) → n ≤ i → i < m → get_or RS i 0 ≡ node_rank r i) → m < 2 ^ 32 → May r n m q
      → nat_lt (get_or RS q 0) (get_or RS e 0) ≡ true
  entry_above r n m e q own known few (inl h) =
      let a = known q h.0 h.1 in let c = h.1 in rw (a, own) (grind (arith, c, few))
  entry_above r n m e q own known few (inr h) = let c = h.1 in rw own (grind (arith, c))

  known_ranks : (r n e : ℕ) (f : Form) → IsBlock r n e f → (i : ℕ) → n ≤ i → i < after n (form_nodes tree_of f n)
      → get_or RS i 0 ≡ node_rank r i
  known_ranks r n e f b i l k = rank_in RS r n (form_nodes tree_of f n).added b.nodes i l k

  entry_falls : (r n e : ℕ) (f : Form) → IsBlock r n e f
      → every (λ q. nat_lt (get_or RS q 0) (get_or RS e 0))
      (in_place (entry_position tree_of f (form_nodes tree_of f n)))
      ≡ true
  entry_falls r n e Always b = refl
  entry_falls r n e Never b = refl
  entry_falls r n e (Ref q) b =
      and_from (nat_lt (get_or RS q 0) (get_or RS e 0)) true
      (entry_above r n n e q b.own (λ i l k. absurd (omega (arith, l, k))) (let a = b.few in omega (arith, a))
      (inr b.named.0)) refl
  entry_falls r n e (Asks k) b =
      all_tested (May r n (after n (form_nodes tree_of (Asks k) n)))
      (λ q. nat_lt (get_or RS q 0) (get_or RS e 0)) (form_nodes tree_of (Asks k) n).named
      (λ q a.
      entry_above r n (after n (form_nodes tree_of (Asks k) n)) e q b.own (known_ranks r n e (Asks k) b) b.few a)
      (grown r n e (Asks k) b).1

  entry_named : (r n e : ℕ) (f : Form) → IsBlock r n e f
      → names_below L (entry_position tree_of f (form_nodes tree_of f n)) ≡ true
  entry_named r n e Always b = refl
  entry_named r n e Never b = refl
  entry_named r n e (Ref q) b =
      let a = b.named.0.0 in let c = b.later in let d = b.room in
      let low : nat_lt q L ≡ true = grind (arith, a, c, d) in rw low refl
  entry_named r n e (Asks k) b =
      let named = all_tested (May r n (after n (form_nodes tree_of (Asks k) n))) (λ q. nat_lt q L)
      (form_nodes tree_of (Asks k) n).named
      (λ q a. name_below r n (after n (form_nodes tree_of (Asks k) n)) q b.later b.room a)
      (grown r n e (Asks k) b).1 in
      and_from (every (λ q. nat_lt q L) (form_nodes tree_of (Asks k) n).named) true named refl where
        name_below : (r n m q : ℕ) → first ≤ n → m ≤ L → May r n m q → nat_lt q L ≡ true
        name_below r n m q f l (inl h) = let a = h.1 in grind (arith, a, l)
        name_below r n m q f l (inr h) = let a = h.0 in let c = b.room in grind (arith, a, f, c)

  -- the blocks of some entries, one after another
  IsBlocks : (ℕ → ℕ) → ℕ → ℕ → List Entry → Type 0
  IsBlocks rk n e [] = Unit {0}
  IsBlocks rk n e (f ∷ fs) = IsBlock (rk e) n e f.form × IsBlocks rk (after n (form_nodes tree_of f.form n)) (suc e) fs

  heads_named : (rk : ℕ → ℕ) (n e : ℕ) (fs : List Entry) → IsBlocks rk n e fs
      → every (names_below L) (entry_positions tree_of n fs) ≡ true
  unfolding IsBlocks
  heads_named rk n e [] b = refl
  heads_named rk n e (f ∷ fs) b =
      and_from (names_below L (entry_position tree_of f.form (form_nodes tree_of f.form n)))
      (every (names_below L) (entry_positions tree_of (after n (form_nodes tree_of f.form n)) fs))
      (entry_named (rk e) n e f.form b.0) (heads_named rk (after n (form_nodes tree_of f.form n)) (suc e) fs b.1)

  entry_ranged : (f : Form) (a : Nodes) → in_range (entry_position tree_of f a) ≡ true
  entry_ranged Always a = refl
  entry_ranged Never a = refl
  entry_ranged (Ref q) a = refl
  entry_ranged (Asks k) a = refl

  heads_ranged : (n : ℕ) (fs : List Entry) → every in_range (entry_positions tree_of n fs) ≡ true
  heads_ranged n [] = refl
  heads_ranged n (f ∷ fs) =
      and_from (in_range (entry_position tree_of f.form (form_nodes tree_of f.form n)))
      (every in_range (entry_positions tree_of (after n (form_nodes tree_of f.form n)) fs))
      (entry_ranged f.form (form_nodes tree_of f.form n)) (heads_ranged (after n (form_nodes tree_of f.form n)) fs)

  heads_fall : (rk : ℕ → ℕ) (n e : ℕ) (fs : List Entry) → IsBlocks rk n e fs
      → ranks_fall RS e (entry_positions tree_of n fs) ≡ true
  unfolding IsBlocks
  heads_fall rk n e [] b = refl
  heads_fall rk n e (f ∷ fs) b =
      and_from (every (λ q. nat_lt (get_or RS q 0) (get_or RS e 0))
      (in_place (entry_position tree_of f.form (form_nodes tree_of f.form n))))
      (ranks_fall RS (suc e) (entry_positions tree_of (after n (form_nodes tree_of f.form n)) fs))
      (entry_falls (rk e) n e f.form b.0) (heads_fall rk (after n (form_nodes tree_of f.form n)) (suc e) fs b.1)

  blocks_named : (rk : ℕ → ℕ) (n e : ℕ) (fs : List Entry) → IsBlocks rk n e fs
      → every (names_below L) (all_nodes tree_of n fs) ≡ true
  unfolding IsBlocks
  blocks_named rk n e [] b = refl
  blocks_named rk n e (f ∷ fs) b =
      every_joined (names_below L) (form_nodes tree_of f.form n).added
      (all_nodes tree_of (after n (form_nodes tree_of f.form n)) fs)
      (nodes_named (rk e) n n (form_nodes tree_of f.form n).added b.0.later (omega arith) b.0.room
      (grown (rk e) n e f.form b.0).0)
      (blocks_named rk (after n (form_nodes tree_of f.form n)) (suc e) fs b.1)

  blocks_ranged : (rk : ℕ → ℕ) (n e : ℕ) (fs : List Entry) → IsBlocks rk n e fs
      → every in_range (all_nodes tree_of n fs) ≡ true
  unfolding IsBlocks
  blocks_ranged rk n e [] b = refl
  blocks_ranged rk n e (f ∷ fs) b =
      every_joined in_range (form_nodes tree_of f.form n).added
      (all_nodes tree_of (after n (form_nodes tree_of f.form n)) fs)
      (nodes_ranged (rk e) n n (form_nodes tree_of f.form n).added (grown (rk e) n e f.form b.0).0)
      (blocks_ranged rk (after n (form_nodes tree_of f.form n)) (suc e) fs b.1)

  blocks_fall : (rk : ℕ → ℕ) (n e : ℕ) (fs : List Entry) → IsBlocks rk n e fs
      → ranks_fall RS n (all_nodes tree_of n fs) ≡ true
  unfolding IsBlocks
  blocks_fall rk n e [] b = refl
  blocks_fall rk n e (f ∷ fs) b =
      ranks_fall-append RS n (form_nodes tree_of f.form n).added
      (all_nodes tree_of (after n (form_nodes tree_of f.form n)) fs)
      ∙ and_from _ _
      (nodes_fall (rk e) n (after n (form_nodes tree_of f.form n)) n (form_nodes tree_of f.form n).added
      (known_ranks (rk e) n e f.form b.0) (omega arith) (omega arith) (grown (rk e) n e f.form b.0).0)
      (blocks_fall rk (after n (form_nodes tree_of f.form n)) (suc e) fs b.1)

  -- what is known of each entry of the schema
  record IsKnown (rk : ℕ → ℕ) (es : List Entry) (e : ℕ) : Type 0 where
    own : get_or RS e 0 ≡ entry_rank (rk e)
    named : AllByRecursion (IsLower (rk e)) (S.in_place (form_at es e))
    parts : AllByRecursion (λ q. q < first) (S.of_parts (form_at es e))
    range : form_in_range (form_at es e) ≡ true

  block_of : (rk : ℕ → ℕ) (es : List Entry) (n e r : ℕ) (f : Form) → IsKnown rk es e → f ≡ form_at es e → r ≡ rk e
      → RanksAt RS n (numbered r n (form_nodes tree_of f n).added) → first ≤ n → after n (form_nodes tree_of f n) ≤ L
      → L < 2 ^ 32 → IsBlock (rk e) n e f
  block_of rk es n e r f known same rank at later room few =
      let N : Form → Type 0 = λ g. AllByRecursion (IsLower (rk e)) (S.in_place g) in
      let P : Form → Type 0 = λ g. AllByRecursion (λ q. q < first) (S.of_parts g) in
      let R : Form → Type 0 = λ g. form_in_range g ≡ true in
      let K : ℕ → Type 0 = λ k. RanksAt RS n (numbered k n (form_nodes tree_of f n).added) in
      record {
        own = known.own;
        nodes = subst K rank at;
        later = later;
        room = room;
        few = omega (arith, room, few);
        named = subst N (sym same) known.named;
        parts = subst P (sym same) known.parts;
        range = subst R (sym same) known.range;
      }

  length-joined : (xs ys : List Position) → length (xs ++ ys) ≡ length xs + length ys
  length-joined [] ys = omega arith
  length-joined (x ∷ xs) ys = let rest = length-joined xs ys in omega (arith, rest)

  blocks_of : (rk : ℕ → ℕ) (es : List Entry) (n e : ℕ) (fs : List Entry) (rs : List ℕ)
      → ((i : ℕ) → i < length fs → IsKnown rk es (e + i))
      → ((i : ℕ) → form_at fs i ≡ form_at es (e + i)) → ((i : ℕ) → i < length fs → get_or rs i 0 ≡ rk (e + i))
      → length rs ≡ length fs → RanksAt RS n (node_ranks tree_of n fs rs) → first ≤ n
      → n + length (all_nodes tree_of n fs) ≤ L → L < 2 ^ 32 → IsBlocks rk n e fs
  unfolding IsBlocks
  blocks_of rk es n e [] rs known forms ranks same at later room few = tt
  blocks_of rk es n e (f ∷ fs) [] known forms ranks same at later room few = absurd (omega (arith, same))
  blocks_of rk es n e (f ∷ fs) (r ∷ rs) known forms ranks same at later room few =
      let a = form_nodes tree_of f.form n in
      let here : e + 0 ≡ e = omega arith in
      let more = length-joined a.added (all_nodes tree_of (after n a) fs) in
      let split = ranks-append RS n (numbered r n a.added) (node_ranks tree_of (after n a) fs rs) at in
      let place : n + length (numbered r n a.added) ≡ after n a = ap (λ k. n + k) (length-numbered r n a.added) in
      let N : ℕ → Type 0 = λ k. RanksAt RS k (node_ranks tree_of (after n a) fs rs) in
      let K : ℕ → Type 0 = IsKnown rk es in (
        block_of rk es n e r f.form (subst K here (known 0 (omega arith))) (forms 0 ∙ ap (form_at es) here)
            (ranks 0 (omega arith) ∙ ap rk here) split.0 later (omega (arith, room, more)) few,
        blocks_of rk es (after n a) (suc e) fs rs
            (λ i l. let next : e + suc i ≡ suc e + i = omega arith in subst K next (known (suc i) (omega arith)))
            (λ i. let next : e + suc i ≡ suc e + i = omega arith in forms (suc i) ∙ ap (form_at es) next)
            (λ i l. let next : e + suc i ≡ suc e + i = omega arith in ranks (suc i) (omega arith) ∙ ap rk next)
            (omega (arith, same)) (subst N place split.1) (omega (arith, later)) (omega (arith, room, more)) few,
      )

length-both : (xs ys : List ℕ) → length (xs ++ ys) ≡ length xs + length ys
length-both [] ys = omega arith
length-both (x ∷ xs) ys = let rest = length-both xs ys in omega (arith, rest)

module _ (tree_of : List ℕ → Tree) where
  length-node_ranks : (n : ℕ) (fs : List Entry) (rs : List ℕ) → length rs ≡ length fs
      → length (node_ranks tree_of n fs rs) ≡ length (all_nodes tree_of n fs)
  length-node_ranks n [] rs h = refl
  length-node_ranks n (f ∷ fs) [] h = absurd (omega (arith, h))
  length-node_ranks n (f ∷ fs) (r ∷ rs) h =
      let a = form_nodes tree_of f.form n in
      let one = length-both (numbered r n a.added) (node_ranks tree_of (after n a) fs rs) in
      let two = length-joined tree_of [] 0 1 (omega arith) a.added (all_nodes tree_of (after n a) fs) in
      let three = length-numbered r n a.added in
      let rest = length-node_ranks (after n a) fs rs (omega (arith, h)) in omega (arith, one, two, three, rest)

  module _ (es : List Entry) (table : S.is_table es ≡ true) (ranks : List ℕ) (are : are_ranks (edges es) ranks ≡ true)
      (few : length (table_of tree_of es) < 2 ^ 32) where
    abbrev rk : ℕ → ℕ
    rk e = get_or ranks e 0

    abbrev L : ℕ
    L = length (table_of tree_of es)

    as_many : length ranks ≡ length es
    as_many = are_ranks-length (edges es) ranks are ∙ length-map es (λ f. S.in_place f.form)

    falls : FallInPlace es rk
    falls = fall_in_place es ranks are

    sized : (nat_lt 0 (length es) && every (λ e. S.names_below (length es) e.form) es
        && every (λ e. form_in_range e.form) es) ≡ true
    sized = (and_parts _ (nat_le (S.total_size es) most_weight) table).0

    ranged : every (λ e. form_in_range e.form) es ≡ true
    ranged =
        (and_parts (nat_lt 0 (length es) && every (λ e. S.names_below (length es) e.form) es)
        (every (λ e. form_in_range e.form) es) sized).1

    some_entry : 0 < length es
    some_entry =
        let two = (and_parts (nat_lt 0 (length es) && every (λ e. S.names_below (length es) e.form) es)
        (every (λ e. form_in_range e.form) es) sized).0 in
        let one = (and_parts (nat_lt 0 (length es)) (every (λ e. S.names_below (length es) e.form) es) two).0 in
        grind (arith, one)

    within : RankedWithin (IsEntry es) (named_in_place es) (length es) rk
    within = ranked (λ t w. true) es table rk falls

    own_rank : (e : ℕ) → e < length es → get_or (ranks_of tree_of es ranks) e 0 ≡ entry_rank (rk e)
    unfolding ranks_of
    own_rank e l =
        let as_ranks = length-map ranks entry_rank in
        let inside : e < length (map entry_rank ranks) = omega (arith, l, as_many, as_ranks) in
        get_or_append_left (map entry_rank ranks) (node_ranks tree_of (length es) es ranks) 0 e inside
        ∙ get_or-map entry_rank ranks e 0 0 (omega (arith, l, as_many))

    lower : (e q : ℕ) → e < length es → q < length es → rk q < rk e
        → (q < length es) × (get_or (ranks_of tree_of es ranks) q 0 < rk e * 2 ^ 32)
    lower e q l m h =
        let P : ℕ → Type 0 = λ x. x < rk e * 2 ^ 32 in
        let less : entry_rank (rk q) < rk e * 2 ^ 32 = grind (arith, h) in
        (m, subst P (sym (own_rank q m)) less)

    known : (e : ℕ) → e < length es
        → IsKnown tree_of (ranks_of tree_of es ranks) L (length es) some_entry rk es e
    known e l = record {
      own = own_rank e l;
      named = all-both _ _ _ (S.in_place (form_at es e)) (λ q r m. lower e q l m r) (falls.falls e l)
          (within.closed e l);
      parts = parts_below (λ t w. true) es table e;
      range = in_range-at es e ranged;
    }

    nodes_ranked : RanksAt (ranks_of tree_of es ranks) (length es) (node_ranks tree_of (length es) es ranks)
    unfolding ranks_of
    nodes_ranked =
        let P : ℕ → Type 0 =
        λ n. RanksAt (map entry_rank ranks ++ node_ranks tree_of (length es) es ranks) n
        (node_ranks tree_of (length es) es ranks) in
        subst P (length-map ranks entry_rank ∙ as_many)
        (ranks_after (map entry_rank ranks) (node_ranks tree_of (length es) es ranks))

    length_split : L ≡ length es + length (all_nodes tree_of (length es) es)
    unfolding table_of
    length_split =
        length-joined tree_of [] 0 1 (omega arith) (entry_positions tree_of (length es) es)
        (all_nodes tree_of (length es) es)
        ∙ ap (λ n. n + length (all_nodes tree_of (length es) es)) (length-entry_positions tree_of (length es) es)

    blocks : IsBlocks tree_of (ranks_of tree_of es ranks) L (length es) some_entry rk (length es) 0 es
    blocks =
        blocks_of tree_of (ranks_of tree_of es ranks) L (length es) some_entry rk es (length es) 0 es ranks
        (λ i l. let same : 0 + i ≡ i = omega arith in
        let K : ℕ → Type 0 = IsKnown tree_of (ranks_of tree_of es ranks) L (length es) some_entry rk es in
        subst K (sym same) (known i l))
        (λ i. let same : 0 + i ≡ i = omega arith in ap (form_at es) (sym same))
        (λ i l. let same : 0 + i ≡ i = omega arith in ap rk (sym same))
        as_many nodes_ranked (omega arith) (let a = length_split in omega (arith, a)) few

    length_same : nat_eq L (length (ranks_of tree_of es ranks)) ≡ true
    unfolding ranks_of
    length_same =
        let a = length_split in
        let b = length-both (map entry_rank ranks) (node_ranks tree_of (length es) es ranks) in
        let c = length-map ranks entry_rank in
        let d = length-node_ranks (length es) es ranks as_many in
        let e = as_many in grind (arith, a, b, c, d, e)

    abbrev heads : List Position
    heads = entry_positions tree_of (length es) es

    abbrev rest : List Position
    rest = all_nodes tree_of (length es) es

    abbrev RS : List ℕ
    RS = ranks_of tree_of es ranks

    all_named : every (names_below L) (table_of tree_of es) ≡ true
    unfolding table_of
    all_named =
        every_joined (names_below L) heads rest
        (heads_named tree_of RS L (length es) some_entry rk (length es) 0 es blocks)
        (blocks_named tree_of RS L (length es) some_entry rk (length es) 0 es blocks)

    all_ranged : every in_range (table_of tree_of es) ≡ true
    unfolding table_of
    all_ranged =
        every_joined in_range heads rest
        (heads_ranged tree_of RS L (length es) some_entry (length es) es)
        (blocks_ranged tree_of RS L (length es) some_entry rk (length es) 0 es blocks)

    all_fall : ranks_fall RS 0 (table_of tree_of es) ≡ true
    unfolding table_of
    all_fall =
        let P : ℕ → Type 0 = λ k. ranks_fall RS k rest ≡ true in
        let a = length-entry_positions tree_of (length es) es in
        let place : length es ≡ 0 + length heads = omega (arith, a) in
        ranks_fall-append RS 0 heads rest
        ∙ and_from _ _ (heads_fall tree_of RS L (length es) some_entry rk (length es) 0 es blocks)
        (subst P place (blocks_fall tree_of RS L (length es) some_entry rk (length es) 0 es blocks))

    -- the core table of a schema is a table with these ranks
    pub is_table-normal : is_table (table_of tree_of es) (ranks_of tree_of es ranks) ≡ true
    is_table-normal =
        and_from _ (ranks_fall RS 0 (table_of tree_of es))
        (and_from _ (every in_range (table_of tree_of es))
        (and_from (nat_eq L (length RS)) (every (names_below L) (table_of tree_of es)) length_same all_named)
        all_ranged)
        all_fall

    -- at least as many positions as entries
    pub more_positions : length es ≤ L
    more_positions = let a = length_split in omega (arith, a)
