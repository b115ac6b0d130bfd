-- A table that is made entry by entry is the normal form.
use Rattle.std.proofs.Common.{◌≡◌, ℕ, zero, suc, ◌+◌, ◌<◌, ◌≤◌, List, [], ◌∷◌, ◌++◌, length, map, drop, get_or, true, nat_lt, sym, ap, ap₂, ◌∙◌, arith, append_assoc, length-append, add-zero}
use Rattle.std.proofs.lemmas.Bool.{and_parts, ltb-true}
use Rattle.std.proofs.lemmas.List.{append-nil, length-map, drop_more, drop_all}
use Rattle.documents.specs.Tests.{every}
use Rattle.schemas.specs.Entry.{Keywords, Form, Asks, Entry}
use Rattle.schemas.specs.Schema.{form_in_range, names_below, is_table}
use Rattle.positions.specs.Position.{Position, All}
use Rattle.normal_forms.specs.Nodes.{nothing, after}
use Rattle.normal_forms.specs.KeywordNodes.{keyword_nodes}
use Rattle.normal_forms.specs.NormalForm.{form_nodes, entry_position, entry_positions, all_nodes, entry_rank, numbered, node_ranks, table_of, ranks_of}
use Rattle.js_values.specs.Runs.{State, next, with_named, of_entry, run}
use Rattle.js_values.proofs.RunLemmas.{run-nothing}
use Rattle.js_normal.specs.PatternTrees.{tree_of}
use Rattle.js_normal.specs.Tables.{Made, next_of, with_entry, with_all}

abbrev pub made : ℕ → List Position → List Position → List ℕ → List ℕ → Made
made k es ns rs qs = record { first = k; entries = es; nodes = ns; entry_ranks = rs; node_ranks = qs }

pub made-same : (k : ℕ) (es es' ns ns' : List Position) (rs rs' qs qs' : List ℕ) → es ≡ es' → ns ≡ ns' → rs ≡ rs'
    → qs ≡ qs' → made k es ns rs qs ≡ made k es' ns' rs' qs'
made-same k es es' ns ns' rs rs' qs qs' a b c d =
    ap₂ (λ x y. made k x y rs qs) a b ∙ ap₂ (λ x y. made k es' ns' x y) c d

abbrev pub forms : List Entry → List Form
forms es = map (λ e. e.form) es

-- what is there after some entries
pub all-made : (es : List Entry) (rs : List ℕ) (m : Made) → length rs ≡ length es
    → with_all (forms es) rs m
    ≡ made m.first (m.entries ++ entry_positions tree_of (next_of m) es) (m.nodes ++ all_nodes tree_of (next_of m) es)
    (m.entry_ranks ++ map entry_rank rs) (m.node_ranks ++ node_ranks tree_of (next_of m) es rs)
unfolding with_entry
all-made [] [] m l =
    made-same m.first _ _ _ _ _ _ _ _ (sym (append-nil m.entries)) (sym (append-nil m.nodes))
    (sym (append-nil m.entry_ranks)) (sym (append-nil m.node_ranks))
all-made [] (r ∷ rs) m l = absurd (omega (arith, l))
all-made (e ∷ es) [] m l = absurd (omega (arith, l))
all-made (e ∷ es) (r ∷ rs) m l =
    let n = next_of m in
    let a = form_nodes tree_of e.form n in
    let later : m.first + length (m.nodes ++ a.added) ≡ after n a =
    (let both = length-append m.nodes a.added in omega (arith, both)) in
    all-made es rs (with_entry e.form r m) (omega (arith, l))
    ∙ ap (λ k. made m.first ((m.entries ++ entry_position tree_of e.form a ∷ []) ++ entry_positions tree_of k es)
    ((m.nodes ++ a.added) ++ all_nodes tree_of k es) ((m.entry_ranks ++ entry_rank r ∷ []) ++ map entry_rank rs)
    ((m.node_ranks ++ numbered r n a.added) ++ node_ranks tree_of k es rs)) later
    ∙ made-same m.first _ _ _ _ _ _ _ _
    (append_assoc m.entries (entry_position tree_of e.form a ∷ []) (entry_positions tree_of (after n a) es))
    (append_assoc m.nodes a.added (all_nodes tree_of (after n a) es))
    (append_assoc m.entry_ranks (entry_rank r ∷ []) (map entry_rank rs))
    (append_assoc m.node_ranks (numbered r n a.added) (node_ranks tree_of (after n a) es rs))

-- before the first entry
abbrev pub start : List Entry → Made
start es = made (length es) [] [] [] []

whole-made : (es : List Entry) (rs : List ℕ) → length rs ≡ length es
    → with_all (forms es) rs (start es)
    ≡ made (length es) (entry_positions tree_of (length es) es) (all_nodes tree_of (length es) es) (map entry_rank rs)
    (node_ranks tree_of (length es) es rs)
whole-made es rs l =
    all-made es rs (start es) l
    ∙ ap (λ k. made (length es) (entry_positions tree_of k es) (all_nodes tree_of k es) (map entry_rank rs)
    (node_ranks tree_of k es rs)) (add-zero (length es))

-- the table that the entries and then the nodes make
pub record IsWhole (es : List Entry) (rs : List ℕ) (m : Made) : Type 0 where
  pub positions : m.entries ++ m.nodes ≡ table_of tree_of es
  pub ranks : m.entry_ranks ++ m.node_ranks ≡ ranks_of tree_of es rs

is_whole : (es : List Entry) (rs : List ℕ) (m : Made) → length rs ≡ length es
    → m ≡ with_all (forms es) rs (start es) → IsWhole es rs m
unfolding table_of ranks_of
is_whole es rs m l e = record {
  positions = ap (λ x. x.entries ++ x.nodes) (e ∙ whole-made es rs l);
  ranks = ap (λ x. x.entry_ranks ++ x.node_ranks) (e ∙ whole-made es rs l);
}

-- entries of a loop
pub all-step : (fs : List Form) (rs : List ℕ) (i : ℕ) (f : Form) (r : ℕ) (m t u : Made) → i < length fs → i < length rs
    → f ≡ get_or fs i f → r ≡ get_or rs i 0 → t ≡ with_entry f r m → u ≡ with_all (drop i fs) (drop i rs) m
    → u ≡ with_all (drop (i + 1) fs) (drop (i + 1) rs) t
all-step fs rs i f r m t u l k e h a b =
    b ∙ ap₂ (λ xs ys. with_all xs ys m) (drop_more fs i f l ∙ ap (λ x. x ∷ drop (i + 1) fs) (sym e))
    (drop_more rs i 0 k ∙ ap (λ x. x ∷ drop (i + 1) rs) (sym h))
    ∙ ap (with_all (drop (i + 1) fs) (drop (i + 1) rs)) (sym a)

pub all-end : (fs : List Form) (rs : List ℕ) (i : ℕ) (m u : Made) → length fs ≤ i
    → u ≡ with_all (drop i fs) (drop i rs) m → m ≡ u
all-end fs rs i m u l a = sym (a ∙ ap (λ xs. with_all xs (drop i rs) m) (drop_all i fs l))

-- an entry is added once its nodes are there
pub entry-made : (f : Form) (r : ℕ) (s begun t : State) (es entries : List Position) (rs ranks : List ℕ)
    → begun ≡ of_entry r s → t ≡ with_named [] (run (form_nodes tree_of f) begun)
    → entries ≡ es ++ entry_position tree_of f (form_nodes tree_of f (next begun)) ∷ []
    → ranks ≡ rs ++ entry_rank r ∷ []
    → made t.first entries t.nodes ranks t.ranks ≡ with_entry f r (made s.first es s.nodes rs s.ranks)
unfolding with_entry run
entry-made f r s begun t es entries rs ranks a b c d =
    let n = next s in
    let added = (form_nodes tree_of f n).added in
    ap (λ u. made u.first entries u.nodes ranks u.ranks)
    (b ∙ ap (λ u. with_named [] (run (form_nodes tree_of f) u)) a)
    ∙ ap₂ (λ xs ys. made s.first xs (s.nodes ++ added) ys (s.ranks ++ numbered r n added))
    (c ∙ ap (λ u. es ++ entry_position tree_of f (form_nodes tree_of f (next u)) ∷ []) a) d

-- an object's nodes are made, and what they are for its entry
pub asked-named : (f : Form) (k : Keywords) (s t : State) (named : List ℕ) → f ≡ Asks k → s.named ≡ []
    → t ≡ run (keyword_nodes tree_of k) s → named ≡ t.named
    → All named ≡ entry_position tree_of f (form_nodes tree_of f (next s))
unfolding run
asked-named f k s t named e none a b =
    rw e (ap All (b ∙ ap (λ u. u.named) a ∙ ap (λ qs. qs ++ (keyword_nodes tree_of k (next s)).named) none))

pub asked-nodes : (f : Form) (k : Keywords) (s t u : State) → f ≡ Asks k → t ≡ run (keyword_nodes tree_of k) s
    → u ≡ with_named [] t → u ≡ with_named [] (run (form_nodes tree_of f) s)
asked-nodes f k s t u e a b = rw e (b ∙ ap (with_named []) a)

-- other entries need none
pub needs-nothing : (f : Form) (s : State) → form_nodes tree_of f ≡ nothing → s.named ≡ []
    → s ≡ with_named [] (run (form_nodes tree_of f) s)
needs-nothing f s e none =
    ap (λ qs. with_named qs s) none
    ∙ ap (with_named []) (sym (run-nothing s) ∙ ap (λ g. run g s) (sym e))

-- at the end of a loop over the entries
pub whole : (es : List Entry) (rs : List ℕ) (i : ℕ) (m : Made) → length rs ≡ length es → length es ≤ i
    → with_all (forms es) rs (start es) ≡ with_all (drop i (forms es)) (drop i rs) m → IsWhole es rs m
whole es rs i m h l a =
    let count = length-map es (λ e. e.form) in
    let past : length (forms es) ≤ i = omega (arith, count, l) in
    is_whole es rs m h (all-end (forms es) rs i m (with_all (forms es) rs (start es)) past a)

-- the form of an entry has its range
pub form-ranged : (es : List Entry) (i : ℕ) (f : Form) → every (λ e. form_in_range e.form) es ≡ true → i < length es
    → f ≡ get_or (forms es) i f → form_in_range f ≡ true
form-ranged [] i f h l e = absurd (omega (arith, l))
form-ranged (x ∷ es) zero f h l e =
    ap form_in_range e ∙ (and_parts (form_in_range x.form) (every (λ e. form_in_range e.form) es) h).0
form-ranged (x ∷ es) (suc i) f h l e =
    form-ranged es i f (and_parts (form_in_range x.form) (every (λ e. form_in_range e.form) es) h).1
    (omega (arith, l)) e

pub entries-ranged : (es : List Entry) → is_table es ≡ true → every (λ e. form_in_range e.form) es ≡ true
entries-ranged es h =
    let weight = and_parts _ _ h in (and_parts _ (every (λ e. form_in_range e.form) es) weight.0).1

pub table-root : (es : List Entry) → is_table es ≡ true → 0 < length es
table-root es h =
    let weight = and_parts _ _ h in
    let ranged = and_parts _ (every (λ e. form_in_range e.form) es) weight.0 in
    let named = and_parts (nat_lt 0 (length es)) (every (λ e. names_below (length es) e.form) es) ranged.0 in
    ltb-true 0 (length es) named.0
