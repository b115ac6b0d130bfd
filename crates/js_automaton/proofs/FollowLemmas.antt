-- What may follow a state, pattern by pattern, and beside a table of states that grows.
use Rattle.std.proofs.Common.{◌≡◌, ℕ, ◌+◌, ◌<◌, inl, inr, Bool, true, false, if◌then◌else◌, List, [], ◌∷◌, ◌++◌, Option, length, get_or, refl, sym, ◌∙◌, ap, ap₂, subst, arith}
use Rattle.std.specs.List.{list_any}
use Rattle.std.specs.Option.{ForSome}
use Rattle.std.proofs.lemmas.Bool.{cases_eq}
use Rattle.std.proofs.lemmas.List.{get_or_read, get_or_append_left, get_or-append-add}
use Rattle.indexmap.specs.IndexSet.{insert_key}
use Rattle.js_pattern_positions.specs.Marks.{Marks}
use Rattle.js_nfa.specs.declared.nfa.Nfa.{Nfa}
use Rattle.js_nfa.specs.declared.state.PatternState.{PatternState}
use Rattle.js_nfa.specs.View.{tree_of, state_view}
use Rattle.js_nfa.specs.Columns.{IsFollow}
use Rattle.js_automaton.specs.declared.state.TupleState.{TupleState}
use Rattle.js_automaton.specs.Keys.{same_tuple}
use Rattle.js_automaton.specs.Follows.{AreFollowsTo}

-- what is at a place is one
one_at : {A : Type 0} (xs : List A) (i : ℕ) (x y : A) → i < length xs → x ≡ get_or xs i x → y ≡ get_or xs i y → x ≡ y
one_at xs i x y l e f = get_or_read xs i x l e y ∙ sym f

pub follows-none : (ns : List Nfa) (states : List PatternState) (follows : List (Option Marks))
    → AreFollowsTo ns states follows 0
follows-none ns states follows i n x f l = absurd (omega (arith, l))

-- one pattern more
module _ (ns : List Nfa) (states : List PatternState) (follows after : List (Option Marks)) (k : ℕ) (n : Nfa)
    (x : PatternState) (f : Option Marks) (many : length follows ≡ k) (e : after ≡ follows ++ f ∷ [])
    (in_ns : k < length ns) (in_states : k < length states) (n-at : n ≡ get_or ns k n) (x-at : x ≡ get_or states k x)
    (here : ForSome f (IsFollow (tree_of n) (state_view x))) where
  pub follows-next : AreFollowsTo ns states follows k → AreFollowsTo ns states after (k + 1)
  follows-next before i m y g l m-at y-at g-at = elim (cases_eq i k) as
      (λ _. ForSome g (IsFollow (tree_of m) (state_view y))) [
        | inl same ↦
            let m-is : m ≡ n = one_at ns k m n in_ns (m-at ∙ ap (λ j. get_or ns j m) same) n-at in
            let y-is : y ≡ x = one_at states k y x in_states (y-at ∙ ap (λ j. get_or states j y) same) x-at in
            let next : k ≡ length follows + 0 = omega (arith, many) in
            let g-is : g ≡ f =
            g-at ∙ ap₂ (λ fs j. get_or fs j g) e (same ∙ next)
            ∙ get_or-append-add follows (f ∷ []) 0 g in
            subst (λ h. ForSome h (IsFollow (tree_of m) (state_view y))) (sym g-is)
            (subst (λ z. ForSome f (IsFollow (tree_of m) (state_view z))) (sym y-is)
            (subst (λ z. ForSome f (IsFollow (tree_of z) (state_view x))) (sym m-is) here))
        | inr other ↦
            before i m y g (omega (arith, l, other)) m-at y-at
            (g-at ∙ ap (λ fs. get_or fs i g) e
            ∙ get_or_append_left follows (f ∷ []) g i (omega (arith, l, other, many)))
      ]

-- a key keeps its place when one is inserted
pub key-stays : (keys new : List TupleState) (s : TupleState) (i : ℕ) (x : TupleState) → i < length keys
    → new ≡ insert_key same_tuple keys s → get_or new i x ≡ get_or keys i x
key-stays keys new s i x l e = ap (λ ks. get_or ks i x) e ∙ go (list_any (same_tuple s) keys) where
  go : (b : Bool) → get_or (if b then keys else keys ++ s ∷ []) i x ≡ get_or keys i x
  go true = refl
  go false = get_or_append_left keys (s ∷ []) x i l
