-- The line of a row, and the table that it makes.
use Rattle.std.proofs.Common.{◌≡◌, ◌<◌, ◌+◌, ◌*◌, ℕ, List, [], ◌∷◌, ◌++◌, Bool, true, false, ◌&&◌, cond, nat_lt, nat_eq, length, get_or, Result, Ok, Err, refl, sym, ◌∙◌, ap, ap₂, subst, arith}
use Rattle.std.proofs.lemmas.Bool.{and_from, and_parts, lt-ltb, ltb-true, eq-eqb, eqb-true}
use Rattle.std.proofs.lemmas.List.{length-map}
use Rattle.std.proofs.lemmas.List.FromFn.{length-map-range_with_len}
use Rattle.word_states.specs.Atom.{Atom}
use Rattle.word_states.specs.Classes.{class_firsts, class_count}
use Rattle.word_states.specs.WordState.{have_same_state}
use Rattle.js_automaton.specs.TuplesView.{atoms_of}
use Rattle.verdicts.specs.Rules.{no_row, wrong_target}
use Rattle.verdicts.specs.RowLines.{Table, table, and_then, targets, extend, row_taken}
use Rattle.js_check_rows.specs.declared.fault.RowFault.{RowFault}
use Rattle.js_check_rows.specs.declared.fault.RowFault.TheVariants as R
use Rattle.js_check_rows.specs.declared.mentions.Mentions.{Mentions}
use Rattle.js_check_rows.specs.MentionsView.{atoms_in, words_in}
use Rattle.js_check_rows.specs.Lines.{line_of, lines_of}
use Rattle.js_check_rows.specs.Taking.{LineTells}
use Rattle.js_check_rows.specs.RowTaking.{RowTells}
use Rattle.js_check_rows.proofs.CutLemmas.{lines_more}
use Rattle.js_check_rows.proofs.TargetLemmas.{targets_stop}

module _ (atoms : List Atom) (count : ℕ) (t : Table (List ℕ)) (ts : List ℕ) where
  -- what the next row leads to
  abbrev led : List (List ℕ)
  led = extend atoms (get_or t.words (length t.targets) [])

  led_length : length led ≡ class_count atoms
  led_length = length-map (class_firsts atoms) (λ c. get_or t.words (length t.targets) [] ++ c ∷ [])

  abbrev judged : Result (List (List ℕ)) ℕ
  judged = targets (have_same_state atoms) (extend atoms) [] count t.words led ts

  -- the line has the right form, so its targets decide
  pub row_judged : (j : Result (List (List ℕ)) ℕ) → length t.targets < length t.words → length ts ≡ class_count atoms
      → judged ≡ j → row_taken atoms count t ts ≡ and_then (λ ws. Ok (table ws (t.targets ++ ts ∷ []))) j
  row_judged j l e f =
      let n = led_length in
      ap (λ b. cond b (and_then (λ ws. Ok (table ws (t.targets ++ ts ∷ []))) judged) (Err no_row))
      (and_from (nat_lt (length t.targets) (length t.words)) (nat_eq (length ts) (length led))
      (lt-ltb (length t.targets) (length t.words) l) (eq-eqb (length ts) (length led) (e ∙ sym n)))
      ∙ ap (and_then (λ ws. Ok (table ws (t.targets ++ ts ∷ [])))) f

  -- a row that wasn't mentioned, or has another number of targets, is refused
  pub row_refused : (length t.targets < length t.words → length ts ≡ class_count atoms → ⊥)
      → RowTells atoms count t ts R.Width
  row_refused none =
      let e = go (nat_lt (length t.targets) (length t.words) && nat_eq (length ts) (length led)) refl in
      (e, ap (λ b. cond b (and_then (λ ws. Ok (table ws (t.targets ++ ts ∷ []))) judged) (Err no_row)) e) where
        go : (b : Bool) → (nat_lt (length t.targets) (length t.words) && nat_eq (length ts) (length led)) ≡ b
            → (nat_lt (length t.targets) (length t.words) && nat_eq (length ts) (length led)) ≡ false
        go false e = e
        go true e =
            let (a, b) = and_parts (nat_lt (length t.targets) (length t.words)) (nat_eq (length ts) (length led)) e in
            absurd (none (ltb-true (length t.targets) (length t.words) a)
            (eqb-true (length ts) (length led) b ∙ led_length))

  -- what a fault says of the targets is what it says of the line
  pub row_tells : (fault : RowFault) → length t.targets < length t.words → length ts ≡ class_count atoms
      → LineTells atoms count t.words led ts fault → RowTells atoms count t ts fault
  row_tells R.Memory l e h = tt
  row_tells (R.Step k) l e h =
      let n = led_length in
      let m = h.class in (
        h,
        row_judged (Err wrong_target) l e
            (targets_stop (have_same_state atoms) (extend atoms) [] count k wrong_target t.words h.words led ts h.before
            (omega (arith, m, n, e)) m h.wrong),
      )
  row_tells R.Start l e h = absurd h
  row_tells R.Width l e h = absurd h
  row_tells (R.Least k) l e h = absurd h
  row_tells (R.Capacity k) l e h = absurd h

-- the table of rows as they are kept
abbrev pub kept_table : Mentions → ℕ → List ℕ → Table (List ℕ)
kept_table m s xs = table (words_in m) (lines_of (class_count (atoms_in m)) s xs)

pub kept_length : (m : Mentions) (s : ℕ) (xs : List ℕ) → length (kept_table m s xs).targets ≡ s
kept_length m s xs = length-map-range_with_len (line_of (class_count (atoms_in m)) xs) 0 s

pub table_next : (m n : Mentions) (s : ℕ) (xs zs ts : List ℕ) → n.tuples ≡ m.tuples → zs ≡ xs ++ ts
    → length xs ≡ s * class_count (atoms_in m) → length ts ≡ class_count (atoms_in m) → s < length (words_in m)
    → targets (have_same_state (atoms_in m)) (extend (atoms_in m)) [] m.count (words_in m)
    (extend (atoms_in m) (get_or (words_in m) s [])) ts ≡ Ok (words_in n)
    → row_taken (atoms_in m) m.count (kept_table m s xs) ts ≡ Ok (kept_table n (s + 1) zs)
table_next m n s xs zs ts e f l w k h =
    let d = kept_length m s xs in
    row_judged (atoms_in m) m.count (kept_table m s xs) ts (Ok (words_in n)) (omega (arith, d, k)) w
    (ap (λ z. targets (have_same_state (atoms_in m)) (extend (atoms_in m)) [] m.count (words_in m)
    (extend (atoms_in m) (get_or (words_in m) z [])) ts) d ∙ h)
    ∙ ap (λ z. Ok (table (words_in n) z))
    (sym (lines_more (class_count (atoms_in m)) s xs ts l w)
    ∙ ap₂ (λ z y. lines_of (class_count (atoms_of z)) (s + 1) y) (sym e) (sym f))

pub table_tells : (m : Mentions) (s : ℕ) (xs ts : List ℕ) (fault : RowFault)
    → length ts ≡ class_count (atoms_in m) → s < length (words_in m)
    → LineTells (atoms_in m) m.count (words_in m) (extend (atoms_in m) (get_or (words_in m) s [])) ts fault
    → RowTells (atoms_in m) m.count (kept_table m s xs) ts fault
table_tells m s xs ts fault w k h =
    let d = kept_length m s xs in
    row_tells (atoms_in m) m.count (kept_table m s xs) ts fault (omega (arith, d, k)) w
    (subst (λ z. LineTells (atoms_in m) m.count (words_in m) (extend (atoms_in m) (get_or (words_in m) z [])) ts fault)
    (sym d) h)
