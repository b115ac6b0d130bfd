-- Which lines are in the grammar, with other numbers in the place of those that they cite.
use Rattle.std.proofs.Common.{◌≡◌, ℕ, suc, ◌*◌, ◌<◌, ◌≤◌, inl, inr, true, List, [], ◌∷◌, ◌++◌, map, length, refl, sym, subst, arith}
use Rattle.std.specs.Fmt.{decimal}
use Rattle.std.proofs.lemmas.Bool.{and_from, lt-ltb, le-leb}
use Rattle.std.proofs.lemmas.Fmt.{length-decimal-le}
use Rattle.std.proofs.lemmas.List.{length-append, length-map}
use Rattle.documents.specs.Kind as K
use Rattle.documents.specs.Kind.{Kind}
use Rattle.goals.specs.Signed.{Signed, Plus, Minus, position_of}
use Rattle.list_laws.specs.In.{IsIn}
use Rattle.list_laws.proofs.Lists.{every_from, from_map}
use Rattle.certificate_lines.specs.Line as L
use Rattle.certificate_lines.specs.Line.{Line, Ending, ShortEntry}
use Rattle.certificate_lines.specs.Text.{signed_text, ending_text, entry_text, list_text, words_text, is_small, is_small_signed, is_small_ending, is_small_entry, is_line, is_short, longest_line}
use Rattle.refutations.specs.Listing.{renamed_ending, renamed_entry, renamed}

decimal_five : (n : ℕ) → n < 100000 → length (decimal n) ≤ 5
decimal_five n l = length-decimal-le 5 n (omega arith) (omega (arith, l)) (omega (arith, l))

decimal_ten : (n : ℕ) → n < 4294967296 → length (decimal n) ≤ 10
decimal_ten n l = length-decimal-le 10 n (omega arith) (omega (arith, l)) (omega (arith, l))

signed_length : (x : Signed) → position_of x < 4294967296 → length (signed_text x) ≤ 11
signed_length (Plus p) l = omega (arith, decimal_ten p l)
signed_length (Minus p) l = omega (arith, decimal_ten p l)

list_length : {A : Type 0} (write : A → List ℕ) (b : ℕ) (xs : List A)
    → ((x : A) → IsIn x xs → length (write x) ≤ b) → length (list_text write xs) ≤ suc b * length xs
list_length write b [] h = grind arith
list_length write b (x ∷ xs) h =
    let a = length-append (32 ∷ write x) (list_text write xs) in
    let c = h x (inl refl) in
    let d = list_length write b xs (λ y i. h y (inr i)) in
    grind (arith, a, c, d)

small : (n m : ℕ) → n < m → m ≤ 4294967296 → is_small n ≡ true
small n m l k = lt-ltb n 4294967296 (omega (arith, l, k))

abbrev pub IsGood : Line → Type 0
IsGood l = (is_line l ≡ true) × (is_short l ≡ true)

short : (l : Line) → length (words_text l) ≤ longest_line → is_short l ≡ true
short l h = le-leb (length (words_text l)) longest_line h

-- numbers and signed positions

pub goals_good : (n : ℕ) → n < 100000 → IsGood (L.Goals n)
goals_good n l = (small n 100000 l (omega arith), short (L.Goals n) (omega (arith, decimal_five n l)))

pub entry_good : (n : ℕ) → n < 100000 → IsGood (L.Entry n)
entry_good n l = (small n 100000 l (omega arith), short (L.Entry n) (omega (arith, decimal_five n l)))

pub goal_good : (xs : List Signed) → ((x : Signed) → IsIn x xs → position_of x < 4294967296) → length xs ≤ 65536
    → IsGood (L.Goal xs)
goal_good xs h l = (
  every_from is_small_signed xs (λ x i. lt-ltb (position_of x) 4294967296 (h x i)),
  short (L.Goal xs) (let a = list_length signed_text 11 xs (λ x i. signed_length x (h x i)) in omega (arith, a, l)),
)

numbers_length : (ts : List ℕ) → ((t : ℕ) → IsIn t ts → t < 100000) → length (list_text decimal ts) ≤ 6 * length ts
numbers_length ts h = list_length decimal 5 ts (λ t i. decimal_five t (h t i))

module _ (rename : ℕ → ℕ) (low : (k : ℕ) → rename k < 100000) where
  -- the line with other numbers is in the grammar
  abbrev pub Fits : Line → Type 0
  Fits l = IsGood (renamed rename l)

  pub at_fits : (t : Kind) → Fits (L.At t)
  at_fits K.Null = (refl, refl)
  at_fits K.Boolean = (refl, refl)
  at_fits K.Number = (refl, refl)
  at_fits K.Text = (refl, refl)
  at_fits K.Array = (refl, refl)
  at_fits K.Object = (refl, refl)

  pub clash_fits : (p : ℕ) → p < 4294967296 → Fits (L.Clash p)
  clash_fits p l = (lt-ltb p 4294967296 l, short (L.Clash p) (omega (arith, decimal_ten p l)))

  pub rule_fits : (x : Signed) → position_of x < 4294967296 → Fits (L.Rule x)
  rule_fits x l = (lt-ltb (position_of x) 4294967296 l, short (L.Rule x) (omega (arith, signed_length x l)))

  pub kind_fits : (x : Signed) → position_of x < 4294967296 → Fits (L.OfKind x)
  kind_fits x l = (lt-ltb (position_of x) 4294967296 l, short (L.OfKind x) (omega (arith, signed_length x l)))

  pub strings_fits : (n : ℕ) → n < 100000 → Fits (L.Strings n)
  strings_fits n l = (small n 100000 l (omega arith), short (L.Strings n) (omega (arith, decimal_five n l)))

  pub objects_fits : (r c : ℕ) → r < 100000 → c < 100000 → Fits (L.Objects r c)
  objects_fits r c l m = (
    and_from (is_small r) (is_small c) (small r 100000 l (omega arith)) (small c 100000 m (omega arith)),
    short (L.Objects r c)
        (let a = length-append (decimal r) (32 ∷ decimal c) in
        omega (arith, a, decimal_five r l, decimal_five c m)),
  )

  -- the line of a row is in the grammar where its targets are small and not too many
  pub row_fits : (ts : List ℕ) → ((t : ℕ) → IsIn t ts → t < 100000) → length ts ≤ 65536 → Fits (L.Row ts)
  row_fits ts h l = (
    every_from is_small ts (λ t i. small t 100000 (h t i) (omega arith)),
    short (L.Row ts) (let a = numbers_length ts h in omega (arith, a, l)),
  )

  pub least_fits : (ts : List ℕ) → ((t : ℕ) → IsIn t ts → t < 100000) → length ts ≤ 65536 → Fits (L.Least ts)
  least_fits ts h l = (
    every_from is_small ts (λ t i. small t 100000 (h t i) (omega arith)),
    short (L.Least ts) (let a = numbers_length ts h in omega (arith, a, l)),
  )

  pub cap_fits : (c : ℕ) (ts : List ℕ) → ((t : ℕ) → IsIn t (c ∷ ts) → t < 100000) → length ts ≤ 65536
      → Fits (L.Cap c ts)
  cap_fits c ts h l = (
    every_from is_small (c ∷ ts) (λ t i. small t 100000 (h t i) (omega arith)),
    short (L.Cap c ts) (let a = numbers_length (c ∷ ts) h in omega (arith, a, l)),
  )

  -- what cites

  ending_small : (e : Ending) → is_small_ending (renamed_ending rename e) ≡ true
  ending_small L.Clashes = refl
  ending_small (L.Cites k) = small (rename k) 100000 (low k) (omega arith)

  ending_length : (e : Ending) → length (ending_text (renamed_ending rename e)) ≤ 10
  ending_length L.Clashes = omega arith
  ending_length (L.Cites k) = omega (arith, decimal_five (rename k) (low k))

  entry_small : (e : ShortEntry) → is_small_entry (renamed_entry rename e) ≡ true
  entry_small L.Kept = refl
  entry_small (L.Ends e) = ending_small e

  entry_length : (e : ShortEntry) → length (entry_text (renamed_entry rename e)) ≤ 10
  entry_length L.Kept = omega arith
  entry_length (L.Ends e) = ending_length e

  pub short_fits : (es : List ShortEntry) → length es ≤ 65536 → Fits (L.Short es)
  short_fits es l = (
    every_from is_small_entry (map (renamed_entry rename) es) (λ x i.
        let (e, j, q) = from_map (renamed_entry rename) x es i in
        subst (λ z. is_small_entry z ≡ true) (sym q) (entry_small e)),
    short (L.Short (map (renamed_entry rename) es))
        (let a = list_length entry_text 10 (map (renamed_entry rename) es) (λ x i.
        let (e, j, q) = from_map (renamed_entry rename) x es i in
        subst (λ z. length (entry_text z) ≤ 10) (sym q) (entry_length e)) in
        let n = length-map es (renamed_entry rename) in
        omega (arith, a, n, l)),
  )

  placed_length : (n : ℕ) (e : Ending) → n < 4294967296
      → length (decimal n ++ 32 ∷ ending_text (renamed_ending rename e)) ≤ 21
  placed_length n e l =
      let a = length-append (decimal n) (32 ∷ ending_text (renamed_ending rename e)) in
      omega (arith, a, decimal_ten n l, ending_length e)

  placed_small : (n : ℕ) (e : Ending) → n < 4294967296 → is_line (L.OfMember n (renamed_ending rename e)) ≡ true
  placed_small n e l =
      and_from (is_small n) (is_small_ending (renamed_ending rename e)) (lt-ltb n 4294967296 l) (ending_small e)

  pub member_fits : (n : ℕ) (e : Ending) → n < 4294967296 → Fits (L.OfMember n e)
  member_fits n e l =
      (placed_small n e l, short (L.OfMember n (renamed_ending rename e)) (omega (arith, placed_length n e l)))

  pub index_fits : (n : ℕ) (e : Ending) → n < 4294967296 → Fits (L.OfIndex n e)
  index_fits n e l =
      (placed_small n e l, short (L.OfIndex n (renamed_ending rename e)) (omega (arith, placed_length n e l)))

  pub tail_fits : (n : ℕ) (e : Ending) → n < 4294967296 → Fits (L.OfTail n e)
  tail_fits n e l =
      (placed_small n e l, short (L.OfTail n (renamed_ending rename e)) (omega (arith, placed_length n e l)))
