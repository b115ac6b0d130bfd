-- Which patterns match in the words of each row, a flag each.
--
-- Key: `told-at`, the flag of a row and a pattern.
use Rattle.std.proofs.Common.{◌≡◌, ℕ, zero, suc, ◌+◌, ◌*◌, ◌<◌, ◌≤◌, Bool, false, Some, slice_get, List, [], ◌∷◌, ◌++◌, map, flat_map, length, take, get_or, sym, ◌∙◌, ap, ap₂, append-nil, append_assoc, arith}
use Rattle.std.proofs.lemmas.List.{take_more, take_all, length-take-le, map-append, get_or-map, length-map}
use Rattle.std.proofs.lemmas.List.Concat.{flat_map-append}
use Rattle.patterns.specs.Tree.{Tree, empty}
use Rattle.patterns.specs.Decision.{finds}
use Rattle.word_states.specs.Atom.{Atom}
use Rattle.state_laws.specs.Flow.{flag_at}
use Rattle.js_nfa.specs.declared.nfa.Nfa.{Nfa}
use Rattle.js_nfa.specs.View.{tree_of}
use Rattle.js_pattern_positions.proofs.BitsLemmas.{flag_at-get_or}
use Rattle.js_automaton.specs.declared.state.TupleState.{TupleState}
use Rattle.js_automaton.specs.Building.{AreStates}
use Rattle.js_automaton.specs.Tuple.{IsStateOf}
use Rattle.js_automaton.specs.Told.{matches_in, AreTold}
use Rattle.js_automaton.proofs.RowsLemmas.{states-length, states-at, flat-length, flat-get, place-within}

-- ---- one row, pattern by pattern
pub tell-next : (old flags : List Bool) (ns : List Nfa) (w : List ℕ) (i : ℕ) (n : Nfa) (b : Bool) → i < length ns
    → n ≡ get_or ns i n → b ≡ finds (tree_of n) w → flags ≡ old ++ matches_in (take i (map tree_of ns)) w
    → flags ++ b ∷ [] ≡ old ++ matches_in (take (i + 1) (map tree_of ns)) w
tell-next old flags ns w i n b l at e h =
    let ts = map tree_of ns in
    let long : i < length ts = omega (arith, l, length-map ns tree_of) in
    let tree : get_or ts i empty ≡ tree_of n = get_or-map tree_of ns i n empty l ∙ ap tree_of (sym at) in
    let more : take (i + 1) ts ≡ take i ts ++ tree_of n ∷ [] =
    take_more ts i empty long ∙ ap (λ t. take i ts ++ t ∷ []) tree in
    ap₂ (λ fs x. fs ++ x ∷ []) h e ∙ append_assoc old (matches_in (take i ts) w) (finds (tree_of n) w ∷ [])
    ∙ ap (λ fs. old ++ fs) (sym (map-append (λ t. finds t w) (take i ts) (tree_of n ∷ [])))
    ∙ ap (λ us. old ++ matches_in us w) (sym more)

-- ---- row by row
row-room : (r m n : ℕ) → r < m → r * n + n ≤ m * n
row-room r m zero l = omega arith
row-room r m (suc n) l = let h = place-within r n m (suc n) l (omega arith) in omega (arith, h)

module _ (atoms : List Atom) (ts : List Tree) (keys : List TupleState) where
  -- the flags of the first r rows
  abbrev pub AreToldUpTo : ℕ → List Bool → Type 0
  AreToldUpTo r flags =
      (rows : List (List ℕ)) → AreStates atoms keys rows → flags ≡ flat_map (matches_in ts) (take r rows)

  row-length : (w : List ℕ) → length (matches_in ts w) ≡ length ts
  row-length w = length-map ts (λ t. finds t w)

  pub row-state : (r : ℕ) (s : TupleState) (rows : List (List ℕ)) → AreStates atoms keys rows → r < length keys
      → slice_get keys r ≡ Some s → IsStateOf atoms s (get_or rows r [])
  row-state r s rows h l at =
      states-at atoms keys rows r s h (omega (arith, l, states-length atoms keys rows h)) at

  pub told-next : (flags more : List Bool) (r : ℕ) → r < length keys → AreToldUpTo r flags
      → ((rows : List (List ℕ)) → AreStates atoms keys rows → more ≡ flags ++ matches_in ts (get_or rows r []))
      → AreToldUpTo (r + 1) more
  told-next flags more r l h row = λ rows s.
      let long = states-length atoms keys rows s in
      let next : take (r + 1) rows ≡ take r rows ++ get_or rows r [] ∷ [] =
      take_more rows r [] (omega (arith, l, long)) in
      row rows s ∙ ap (λ fs. fs ++ matches_in ts (get_or rows r [])) (h rows s)
      ∙ ap (λ fs. flat_map (matches_in ts) (take r rows) ++ fs) (sym (append-nil (matches_in ts (get_or rows r []))))
      ∙ sym (flat_map-append (matches_in ts) (take r rows) (get_or rows r [] ∷ []))
      ∙ ap (flat_map (matches_in ts)) (sym next)

  pub told-end : (flags : List Bool) (r : ℕ) → length keys ≤ r → AreToldUpTo r flags → AreTold atoms ts keys flags
  told-end flags r l h = λ rows s.
      h rows s ∙ ap (flat_map (matches_in ts)) (take_all r rows (omega (arith, l, states-length atoms keys rows s)))

  told-length : (flags : List Bool) (r : ℕ) (rows : List (List ℕ)) → AreStates atoms keys rows → r ≤ length keys
      → AreToldUpTo r flags → length flags ≡ r * length ts
  told-length flags r rows s l h =
      ap (length {A = Bool}) (h rows s) ∙ flat-length (matches_in ts) (length ts) row-length (take r rows)
      ∙ ap (λ n. n * length ts) (length-take-le r rows (omega (arith, l, states-length atoms keys rows s)))

  -- another row has room
  pub told-room : (flags : List Bool) (r n room : ℕ) (rows : List (List ℕ)) → AreStates atoms keys rows
      → r < length keys → n ≡ length ts → length keys * n ≤ room → AreToldUpTo r flags → length flags + n ≤ room
  told-room flags r n room rows s l e fits h =
      let long : length flags ≡ r * n =
      told-length flags r rows s (omega (arith, l)) h ∙ ap (λ m. r * m) (sym e) in
      omega (arith, long, fits, row-room r (length keys) n l)

  -- the flag of a row and a pattern
  pub told-at : (flags : List Bool) (rows : List (List ℕ)) (r k : ℕ) → AreTold atoms ts keys flags
      → AreStates atoms keys rows → r < length rows → k < length ts
      → flag_at flags (r * length ts + k) ≡ finds (get_or ts k empty) (get_or rows r [])
  told-at flags rows r k h s l m =
      flag_at-get_or flags (r * length ts + k) ∙ ap (λ fs. get_or fs (r * length ts + k) false) (h rows s)
      ∙ flat-get (matches_in ts) (length ts) row-length rows r k false [] l m
      ∙ get_or-map (λ t. finds t (get_or rows r [])) ts k empty false m
