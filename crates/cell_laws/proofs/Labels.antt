-- Numbers and labels of a table of words: widths are numbers of characters of a class.
use Rattle.std.proofs.Common.{◌≡◌, ℕ, ◌*◌, ◌≤◌, ◌<◌, min, List, [], ◌++◌, filter, length, get_or, Bool, true, ap, sym, ◌∙◌, arith}
use Rattle.std.specs.List.{list_all}
use Rattle.patterns.specs.CharSet.{is_scalar}
use Rattle.word_states.specs.Atom.{Atom}
use Rattle.word_states.specs.Classes.{class_of, class_count}
use Rattle.word_states.specs.WordState.{have_same_state}
use Rattle.cell_laws.specs.Leading.{AllIn, IsCapacity, walk}
use Rattle.cell_laws.proofs.Groups.{width}
use Rattle.list_laws.specs.In.{IsIn, Distinct}
use Rattle.cells.specs.WordsInOrder.{shorter}
use Rattle.cell_laws.specs.Counting.{number, asked_by, number_by}
use Rattle.cell_laws.specs.RowTables.{IsRowOf, LeadsOn}
use Rattle.cell_laws.proofs.Settled.{capacity_is}
use Rattle.cell_laws.proofs.Tables as T
use Rattle.cell_laws.proofs.Classes as C

module _ (atoms : List Atom) (L : List (List ℕ)) (target : ℕ → ℕ → ℕ) (leads : LeadsOn atoms L target)
    (p : List ℕ → Bool) (shared : (v w : List ℕ) → have_same_state atoms v w ≡ true → p v ≡ p w)
    (characters : List ℕ) (different : Distinct characters) (scalars : (c : ℕ) → IsIn c characters → is_scalar c ≡ true)
    (whole : (c : ℕ) → is_scalar c ≡ true → IsIn c characters) where
  abbrev pub in_cell : ℕ → Bool
  in_cell r = p (get_or L r [])

  -- the number of characters of a class
  abbrev pub widths : ℕ → ℕ
  widths k = width (class_of atoms) characters k

  abbrev to : ℕ → ℕ → ℕ
  to r c = target r (class_of atoms c)

  classed : (c : ℕ) → IsIn c characters → class_of atoms c < class_count atoms
  classed = T.classed atoms L target leads p shared characters different scalars whole

  within : (r k : ℕ) → r < length L → k < class_count atoms → target r k < length L
  within = T.within atoms L target leads p shared characters different scalars whole

  counted : (r : ℕ) (u : List ℕ) → IsRowOf atoms L u r → (bound n : ℕ)
      → number characters to in_cell bound n r ≡ min bound (length (filter (λ w. p (u ++ w)) (shorter characters n)))
  counted r u i bound n =
      ap (λ z. min bound z)
      (sym (T.counted_words atoms L target leads p shared characters different scalars whole r u i n))

  -- the number by recursion over rows and widths is the cut number of the words that lead from a row into the cell
  pub number_by_is : (r : ℕ) (u : List ℕ) → IsRowOf atoms L u r → (bound n : ℕ)
      → number_by (class_count atoms) widths target in_cell bound n r ≡ min bound
      (length (filter (λ w. p (u ++ w)) (shorter characters n)))
  number_by_is r u i bound n =
      C.number_is characters (class_of atoms) target in_cell (length L) (class_count atoms) classed within bound n r
      i.0
      ∙ counted r u i bound n

  -- labels that keep the rule: each bounds the words that lead from its row into the cell
  pub labels_bound : (label : ℕ → ℕ) → C.KeepsRule (length L) (class_count atoms) widths target in_cell label
      → (r : ℕ) (u : List ℕ) → IsRowOf atoms L u r → (ws : List (List ℕ)) → Distinct ws
      → ((w : List ℕ) → IsIn w ws → (list_all is_scalar w ≡ true) × (p (u ++ w) ≡ true)) → length ws ≤ label r
  labels_bound label keeps r u i ws d h =
      C.label_bounds characters (class_of atoms) target in_cell (length L) (class_count atoms) classed within label
      keeps r i.0 ws
      d
      (T.all_lead atoms L target leads p shared characters different scalars whole r u i ws h)

  module _ (bound far : ℕ) (enough : length L * bound ≤ far) where
    -- what is printed for a row
    abbrev pub printed : ℕ → ℕ
    printed r = number_by (class_count atoms) widths target in_cell bound far r

    printed_number : (r : ℕ) → r < length L → printed r ≡ number characters to in_cell bound far r
    printed_number r l =
        C.number_is characters (class_of atoms) target in_cell (length L) (class_count atoms) classed within bound far
        r l

    -- a label that is the capacity of its row, as raised labels are, is what is printed
    pub capacity_printed : (r k : ℕ) → r < length L → IsCapacity characters to in_cell bound r k → k ≡ printed r
    capacity_printed r k l c =
        capacity_is characters to in_cell (length L) bound
        (T.closed atoms L target leads p shared characters different scalars whole) far enough
        different r k l c
        ∙ sym (printed_number r l)

    -- where the cell's number isn't cut, and each row is reached from that of the empty word
    module _ (start : ℕ) (first : IsRowOf atoms L [] start)
        (reached : (r : ℕ) → r < length L → (w : List ℕ) × (list_all is_scalar w ≡ true) × (walk to start w ≡ r))
        (low : length (filter p (shorter characters far)) < bound) where
      start_low : number characters to in_cell bound far start < bound
      start_low = let e = counted start [] first bound far in grind (arith, e, low)

      lettered : (r : ℕ) → r < length L → (w : List ℕ) × AllIn characters w × (walk to start w ≡ r)
      lettered r l = let (w, s, e) =
          reached r l in (w, T.letters_of atoms L target leads p shared characters different scalars whole w s, e)

      -- and they keep the rule with equality
      pub printed_equal : (r : ℕ) → r < length L
          → asked_by (class_count atoms) widths target in_cell printed r ≡ printed r
      printed_equal r l =
          C.asked_like characters (class_of atoms) target in_cell (length L) (class_count atoms) classed within
          printed
          (number characters to in_cell bound far) printed_number r l
          ∙ C.printed_equal characters (class_of atoms) target in_cell (length L) (class_count atoms) classed within
          bound far enough start first.0 lettered start_low r l
          ∙ sym (printed_number r l)

      pub printed_keep : C.KeepsRule (length L) (class_count atoms) widths target in_cell printed
      printed_keep r l = let e = printed_equal r l in omega (arith, e)
