-- A word that is found letter by letter, by the numbers of each length.
use Rattle.std.proofs.Common.{◌≡◌, ℕ, zero, suc, ◌+◌, ◌-◌, ◌<◌, ◌≤◌, inl, inr, List, [], ◌∷◌, ◌++◌, map, get_or, length, take, Some, None, nat_lt, cond, refl, ap, ap₂, sym, ◌∙◌, append_assoc, append-nil, arith}
use Rattle.std.specs.List.{range_with_len}
use Rattle.std.proofs.lemmas.List.{map-append, take_more}
use Rattle.list_laws.specs.In.{IsIn}
use Rattle.word_states.specs.Atom.{Atom}
use Rattle.word_states.specs.Classes.{characters}
use Rattle.cell_laws.specs.FirstWords.{pick, word_at}
use Rattle.js_row_words.specs.declared.choose.Choice.{Choice}
use Rattle.js_row_words.specs.Counts.{to_row, numbers_by, Chooses}
use Rattle.js_row_words.proofs.RunLaws.{range_more}

module _ (atoms : List Atom) (L : List (List ℕ)) (table : List (List ℕ)) where
  abbrev pub rest : ℕ → ℕ → ℕ → List ℕ
  rest m row k = word_at characters (to_row atoms L) (numbers_by table) m row k

  -- a letter is chosen
  pub word_more : (letters w : List ℕ) (left m row k : ℕ) (x : Choice) → left ≡ suc m
      → Chooses atoms L (get_or table m []) row k (Some x) → letters ++ rest left row k ≡ w
      → (letters ++ x.letter ∷ []) ++ rest m x.row x.number ≡ w
  word_more letters w left m row k x l h e =
      append_assoc letters (x.letter ∷ []) (rest m x.row x.number)
      ∙ ap (λ r. letters ++ x.letter ∷ rest m r x.number) h.1
      ∙ ap (λ z. letters ++ z) (sym (h.0 (λ c k. rest m (to_row atoms L row c) k)))
      ∙ ap (λ z. letters ++ rest z row k) (sym l)
      ∙ e

  -- no letter is chosen at the end of the word
  pub word_ends : (letters w : List ℕ) (left m row k : ℕ) → left ≡ suc m
      → Chooses atoms L (get_or table m []) row k None → letters ++ rest left row k ≡ w → letters ≡ w
  word_ends letters w left m row k l h e =
      sym (append-nil letters)
      ∙ ap (λ z. letters ++ z) (sym (h (λ c k. rest m (to_row atoms L row c) k)))
      ∙ ap (λ z. letters ++ rest z row k) (sym l)
      ∙ e

-- one more word
pub map_range : {A : Type 0} (f : ℕ → A) (n : ℕ)
    → map f (range_with_len 0 (n + 1)) ≡ map f (range_with_len 0 n) ++ f n ∷ []
map_range f n =
    let e : 0 + n ≡ n = omega arith in
    ap (map f) (sym (range_more 0 n 1) ∙ ap (λ z. range_with_len 0 n ++ z ∷ []) e)
    ∙ map-append f (range_with_len 0 n) (n ∷ [])

pub words_more : {A : Type 0} (f : ℕ → A) (words new before : List A) (n : ℕ) (x : A) → x ≡ f n
    → words ≡ before ++ map f (range_with_len 0 n) → new ≡ words ++ x ∷ []
    → new ≡ before ++ map f (range_with_len 0 (n + 1))
words_more f words new before n x q e p =
    p ∙ ap₂ (λ y z. y ++ z ∷ []) e q ∙ append_assoc before (map f (range_with_len 0 n)) (f n ∷ [])
    ∙ ap (λ z. before ++ z) (sym (map_range f n))

-- the first members of a list, one by one
pub taken : {A : Type 0} (f : ℕ → A) (d : A) (ws : List A) (n : ℕ) → n ≤ length ws
    → ((k : ℕ) → k < n → get_or ws k d ≡ f k) → map f (range_with_len 0 n) ≡ take n ws
taken f d ws zero l h = refl
taken f d ws (suc n) l h =
    let e : suc n ≡ n + 1 = omega arith in
    ap (λ z. map f (range_with_len 0 z)) e
    ∙ map_range f n
    ∙ ap₂ (λ y z. y ++ z ∷ []) (taken f d ws n (omega (arith, l)) (λ k m. h k (omega (arith, m))))
    (sym (h n (omega arith)))
    ∙ sym (take_more ws n d (omega (arith, l)))
    ∙ ap (λ z. take z ws) (sym e)

-- words by numbers that are the same at rows and below a length are the same
module _ (letters : List ℕ) (to : ℕ → ℕ → ℕ) (rows : ℕ)
    (closed : (r c : ℕ) → r < rows → IsIn c letters → to r c < rows) (f g : ℕ → ℕ → ℕ) where
  pick_same : (p q : ℕ → ℕ) (next more : ℕ → ℕ → List ℕ) (cs : List ℕ) → ((c : ℕ) → IsIn c cs → p c ≡ q c)
      → ((c k : ℕ) → IsIn c cs → next c k ≡ more c k) → (k : ℕ) → pick p next cs k ≡ pick q more cs k
  pick_same p q next more [] h j k = refl
  pick_same p q next more (c ∷ cs) h j k =
      ap₂ (λ n v. cond (nat_lt k n) (c ∷ v) (pick p next cs (k - n))) (h c (inl refl)) (j c k (inl refl))
      ∙ ap (λ v. cond (nat_lt k (q c)) (c ∷ more c k) v)
      (pick_same p q next more cs (λ d i. h d (inr i)) (λ d k i. j d k (inr i)) (k - q c))

  pub word_same : (m r k : ℕ) → r < rows → ((i s : ℕ) → i < m → s < rows → f i s ≡ g i s)
      → word_at letters to f m r k ≡ word_at letters to g m r k
  word_same zero r k l h = refl
  word_same (suc m) r k l h =
      pick_same (λ c. f m (to r c)) (λ c. g m (to r c)) (λ c k. word_at letters to f m (to r c) k)
      (λ c k. word_at letters to g m (to r c) k) letters
      (λ c i. h m (to r c) (omega arith) (closed r c l i))
      (λ c k i. word_same m (to r c) k (closed r c l i) (λ j s a b. h j s (omega (arith, a)) b)) k
