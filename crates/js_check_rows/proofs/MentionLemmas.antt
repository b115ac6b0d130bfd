-- Words of rows that were mentioned: more rows leave those before as they are.
use Rattle.std.proofs.Common.{◌≡◌, ◌<◌, ◌≤◌, ℕ, ◌+◌, List, [], ◌∷◌, ◌++◌, take, drop, length, get_or, refl, sym, ◌∙◌, ap, subst, Bool, true, false, cond, inl, inr, length-append, arith}
use Rattle.std.proofs.lemmas.Bool.{cases_lt}
use Rattle.std.proofs.lemmas.List.{get_or_append_left, take-append-drop, take-append-le, length-take}
use Rattle.std.proofs.Math.Seq.{get_or-append_seam}
use Rattle.word_states.specs.Atom.{Atom}
use Rattle.js_automaton.specs.Tuple.{IsStateOf}
use Rattle.js_check_rows.specs.declared.mention.Mention.{Mention}
use Rattle.js_check_rows.specs.Mentions.{word_by, words_after, words_of, AreMade}

module _ (atoms : List Atom) where
  words_append : (ws : List (List ℕ)) (ms ns : List Mention)
      → words_after atoms ws (ms ++ ns) ≡ words_after atoms (words_after atoms ws ms) ns
  words_append ws [] ns = refl
  words_append ws (m ∷ ms) ns = words_append (ws ++ word_by atoms ws m.step ∷ []) ms ns

  pub words_more : (ms : List Mention) (m : Mention)
      → words_of atoms (ms ++ m ∷ []) ≡ words_of atoms ms ++ word_by atoms (words_of atoms ms) m.step ∷ []
  words_more ms m = words_append [] ms (m ∷ [])

  words_length : (ws : List (List ℕ)) (ms : List Mention) → length (words_after atoms ws ms) ≡ length ws + length ms
  words_length ws [] = omega arith
  words_length ws (m ∷ ms) =
      let e = words_length (ws ++ word_by atoms ws m.step ∷ []) ms in
      let n = length-append ws (word_by atoms ws m.step ∷ []) in
      omega (arith, e, n)

  -- there is a word for each
  pub words_count : (ms : List Mention) → length (words_of atoms ms) ≡ length ms
  words_count ms = let e = words_length [] ms in omega (arith, e)

  words_stay : (ws : List (List ℕ)) (ms : List Mention) (k : ℕ) → k < length ws
      → get_or (words_after atoms ws ms) k [] ≡ get_or ws k []
  words_stay ws [] k l = refl
  words_stay ws (m ∷ ms) k l =
      let n = length-append ws (word_by atoms ws m.step ∷ []) in
      words_stay (ws ++ word_by atoms ws m.step ∷ []) ms k (omega (arith, l, n))
      ∙ get_or_append_left ws (word_by atoms ws m.step ∷ []) [] k l

  -- the words of the rows before stay
  pub words_before : (ms ns : List Mention) (k : ℕ) → k < length ms
      → get_or (words_of atoms (ms ++ ns)) k [] ≡ get_or (words_of atoms ms) k []
  words_before ms ns k l =
      let n = words_count ms in
      ap (λ z. get_or z k []) (words_append [] ms ns) ∙ words_stay (words_of atoms ms) ns k (omega (arith, l, n))

  -- a row more, with the state of its word
  pub made_more : (ms : List Mention) (m : Mention) → AreMade atoms ms
      → IsStateOf atoms m.state (word_by atoms (words_of atoms ms) m.step) → AreMade atoms (ms ++ m ∷ [])
  made_more ms m made is = λ i x l e. elim (cases_lt i (length ms)) [
    | inl k ↦
        subst (IsStateOf atoms x.state) (sym (words_before ms (m ∷ []) i k))
        (made i x k (e ∙ get_or_append_left ms (m ∷ []) x i k))
    | inr k ↦
        let n = length-append ms (m ∷ []) in
        let q : i ≡ length ms = omega (arith, l, k, n) in
        let f : x ≡ m = e ∙ ap (λ z. get_or (ms ++ m ∷ []) z x) q ∙ get_or-append_seam ms m [] x in
        let c = words_count ms in
        let w : get_or (words_of atoms (ms ++ m ∷ [])) i [] ≡ word_by atoms (words_of atoms ms) m.step =
        ap (λ z. get_or z i []) (words_more ms m)
        ∙ ap (λ z. get_or (words_of atoms ms ++ word_by atoms (words_of atoms ms) m.step ∷ []) z []) (q ∙ sym c)
        ∙ get_or-append_seam (words_of atoms ms) (word_by atoms (words_of atoms ms) m.step) [] [] in
        subst (λ z. IsStateOf atoms z.state (get_or (words_of atoms (ms ++ m ∷ [])) i [])) (sym f)
        (subst (IsStateOf atoms m.state) (sym w) is)
  ]

  made_left : (ms ns : List Mention) → AreMade atoms (ms ++ ns) → AreMade atoms ms
  made_left ms ns made = λ i m l e.
      let n = length-append ms ns in
      subst (IsStateOf atoms m.state) (words_before ms ns i l)
      (made i m (omega (arith, l, n)) (e ∙ sym (get_or_append_left ms ns m i l)))

  -- the first rows alone
  pub made_first : (ms : List Mention) (n : ℕ) → AreMade atoms ms → AreMade atoms (take n ms)
  made_first ms n made =
      made_left (take n ms) (drop n ms) (subst (AreMade atoms) (sym (take-append-drop n ms)) made)

  pub words_first : (ms : List Mention) (n k : ℕ) → k < length (take n ms)
      → get_or (words_of atoms ms) k [] ≡ get_or (words_of atoms (take n ms)) k []
  words_first ms n k l =
      ap (λ z. get_or (words_of atoms z) k []) (sym (take-append-drop n ms)) ∙ words_before (take n ms) (drop n ms) k l

  -- where a row was added, or there was no memory for it
  pub made_pushed : (b : Bool) (ms new : List Mention) (m : Mention) → new ≡ cond b (ms ++ m ∷ []) ms
      → AreMade atoms ms → IsStateOf atoms m.state (word_by atoms (words_of atoms ms) m.step) → AreMade atoms new
  made_pushed true ms new m e made is = subst (AreMade atoms) (sym e) (made_more ms m made is)
  made_pushed false ms new m e made is = subst (AreMade atoms) (sym e) made

pub length_pushed : (b : Bool) (ms new : List Mention) (m : Mention) → new ≡ cond b (ms ++ m ∷ []) ms
    → (length ms ≤ length new) × (length new ≤ length ms + 1)
length_pushed true ms new m e =
    let n = ap (length {A = Mention}) e in
    let k = length-append ms (m ∷ []) in
    (omega (arith, n, k), omega (arith, n, k))
length_pushed false ms new m e = let n = ap (length {A = Mention}) e in (omega (arith, n), omega (arith, n))

-- what was there first stays
pub is_longer : (a b : List Mention) → take (length a) b ≡ a → length a ≤ length b
is_longer a b e =
    let n = ap (length {A = Mention}) e in
    let k = length-take (length a) b in
    omega (arith, n, k)

pub grown_on : (a b c : List Mention) → take (length a) b ≡ a → take (length b) c ≡ b → take (length a) c ≡ a
grown_on a b c e f =
    ap (take (length a)) (sym (take-append-drop (length b) c))
    ∙ ap (λ z. take (length a) (z ++ drop (length b) c)) f
    ∙ take-append-le (length a) b (drop (length b) c) (is_longer a b e) ∙ e
