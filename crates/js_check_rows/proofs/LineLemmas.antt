-- A line of a row, class by class, while rows are mentioned.
use Rattle.std.proofs.Common.{◌≡◌, ◌<◌, ℕ, suc, ◌+◌, List, [], ◌∷◌, ◌++◌, take, length, get_or, Ok, sym, ◌∙◌, ap, subst, arith}
use Rattle.std.proofs.lemmas.List.{get_or-map, length-map}
use Rattle.word_states.specs.Atom.{Atom}
use Rattle.word_states.specs.Classes.{class_firsts, class_count}
use Rattle.word_states.specs.WordState.{have_same_state}
use Rattle.js_automaton.specs.TuplesView.{atoms_of}
use Rattle.verdicts.specs.RowLines.{target, targets, extend}
use Rattle.js_check_rows.specs.declared.fault.RowFault.{RowFault}
use Rattle.js_check_rows.specs.declared.fault.RowFault.TheVariants as R
use Rattle.js_check_rows.specs.declared.mentions.Mentions.{Mentions}
use Rattle.js_check_rows.specs.Mentions.{words_of}
use Rattle.js_check_rows.specs.MentionsView.{atoms_in, words_in}
use Rattle.js_check_rows.specs.Taking.{ClassTells, LineTells}
use Rattle.js_check_rows.proofs.MentionLemmas.{words_first}
use Rattle.js_check_rows.proofs.TargetLemmas.{targets_next}

-- the word of a row stays
pub word_stays : (m n : Mentions) (row : ℕ) → n.tuples ≡ m.tuples
    → take (length m.list.items) n.list.items ≡ m.list.items → row < length m.list.items
    → get_or (words_in n) row [] ≡ get_or (words_in m) row []
word_stays m n row e g l =
    words_first (atoms_of n.tuples) n.list.items (length m.list.items) row
    (subst (λ z. row < length z) (sym g) l)
    ∙ ap (λ z. get_or (words_of (atoms_of n.tuples) z) row []) g
    ∙ ap (λ z. get_or (words_of (atoms_of z) m.list.items) row []) e

pub class_word : (atoms : List Atom) (w : List ℕ) (k : ℕ) → k < class_count atoms
    → w ++ get_or (class_firsts atoms) k 0 ∷ [] ≡ get_or (extend atoms w) k []
class_word atoms w k l = sym (get_or-map (λ c. w ++ c ∷ []) (class_firsts atoms) k 0 [] l)

-- the target of a class is judged as at first, over the words that there are now
pub at_class : (m n : Mentions) (row k t : ℕ) (line : List ℕ) → n.tuples ≡ m.tuples → n.count ≡ m.count
    → take (length m.list.items) n.list.items ≡ m.list.items → row < length m.list.items
    → k < class_count (atoms_in m) → t ≡ get_or line k 0
    → target (have_same_state (atoms_in m)) (extend (atoms_in m)) [] m.count (words_in n)
    (get_or (extend (atoms_in m) (get_or (words_in m) row [])) k []) (get_or line k 0)
    ≡ target (have_same_state (atoms_in n)) (extend (atoms_in n)) [] n.count (words_in n)
    (get_or (words_in n) row [] ++ get_or (class_firsts (atoms_in n)) k 0 ∷ []) t
at_class m n row k t line e c g r l f =
    ap (target (have_same_state (atoms_in m)) (extend (atoms_in m)) [] m.count (words_in n)
    (get_or (extend (atoms_in m) (get_or (words_in m) row [])) k [])) (sym f)
    ∙ ap (λ x. target (have_same_state (atoms_in m)) (extend (atoms_in m)) [] m.count (words_in n) x t)
    (sym (class_word (atoms_in m) (get_or (words_in m) row []) k l)
    ∙ ap (λ w. w ++ get_or (class_firsts (atoms_in m)) k 0 ∷ []) (sym (word_stays m n row e g r)))
    ∙ ap (λ z. target (have_same_state (atoms_in m)) (extend (atoms_in m)) [] z (words_in n)
    (get_or (words_in n) row [] ++ get_or (class_firsts (atoms_in m)) k 0 ∷ []) t) (sym c)
    ∙ ap (λ z. target (have_same_state (atoms_of z)) (extend (atoms_of z)) [] n.count (words_in n)
    (get_or (words_in n) row [] ++ get_or (class_firsts (atoms_of z)) k 0 ∷ []) t) (sym e)

-- the first k targets of the line are right, and the rows that were mentioned since are the further ones
pub record IsAt (m n : Mentions) (row k : ℕ) (line : List ℕ) : Type 0 where
  pub tuples : n.tuples ≡ m.tuples
  pub count : n.count ≡ m.count
  pub grown : take (length m.list.items) n.list.items ≡ m.list.items
  pub known : row < length m.list.items
  pub width : length line ≡ class_count (atoms_in m)
  pub class : k < class_count (atoms_in m)
  pub right : targets (have_same_state (atoms_in m)) (extend (atoms_in m)) [] m.count (words_in m)
      (take k (extend (atoms_in m) (get_or (words_in m) row []))) (take k line)
      ≡ Ok (words_in n)

-- one more target of the line is taken
pub line_next : (m n o : Mentions) (row k t : ℕ) (line : List ℕ) → IsAt m n row k line → t ≡ get_or line k 0
    → target (have_same_state (atoms_in n)) (extend (atoms_in n)) [] n.count (words_in n)
    (get_or (words_in n) row [] ++ get_or (class_firsts (atoms_in n)) k 0 ∷ []) t
    ≡ Ok (words_in o)
    → targets (have_same_state (atoms_in m)) (extend (atoms_in m)) [] m.count (words_in m)
    (take (k + 1) (extend (atoms_in m) (get_or (words_in m) row []))) (take (k + 1) line)
    ≡ Ok (words_in o)
line_next m n o row k t line a f e =
    let w = get_or (words_in m) row [] in
    let len : length (extend (atoms_in m) w) ≡ class_count (atoms_in m) =
    length-map (class_firsts (atoms_in m)) (λ c. w ++ c ∷ []) in
    let l = a.class in
    let d = a.width in
    let more : suc k ≡ k + 1 = omega arith in
    subst (λ z. targets (have_same_state (atoms_in m)) (extend (atoms_in m)) [] m.count (words_in m)
    (take z (extend (atoms_in m) w)) (take z line) ≡ Ok (words_in o)) more
    (targets_next (have_same_state (atoms_in m)) (extend (atoms_in m)) [] m.count k (words_in m) (words_in n)
    (words_in o)
    (extend (atoms_in m) w) line a.right (omega (arith, l, len)) (omega (arith, l, d))
    (at_class m n row k t line a.tuples a.count a.grown a.known a.class f ∙ e))

-- a fault of the class is the fault of the line
pub line_tells : (m n : Mentions) (row k t : ℕ) (line : List ℕ) (fault : RowFault) → IsAt m n row k line
    → t ≡ get_or line k 0
    → ClassTells k (target (have_same_state (atoms_in n)) (extend (atoms_in n)) [] n.count (words_in n)
    (get_or (words_in n) row [] ++ get_or (class_firsts (atoms_in n)) k 0 ∷ []) t) fault
    → LineTells (atoms_in m) m.count (words_in m) (extend (atoms_in m) (get_or (words_in m) row [])) line fault
line_tells m n row k t line R.Memory a f e = tt
line_tells m n row k t line (R.Step j) a f e =
    let l = a.class in
    let d = a.width in
    subst (λ z. LineTells (atoms_in m) m.count (words_in m) (extend (atoms_in m) (get_or (words_in m) row [])) line
    (R.Step z)) (sym e.0) (record {
      class = omega (arith, l, d);
      words = words_in n;
      before = a.right;
      wrong = at_class m n row k t line a.tuples a.count a.grown a.known a.class f ∙ e.1;
    })
line_tells m n row k t line R.Start a f e = absurd e
line_tells m n row k t line R.Width a f e = absurd e
line_tells m n row k t line (R.Least j) a f e = absurd e
line_tells m n row k t line (R.Capacity j) a f e = absurd e
