-- Follow sets joined four at a time.
--
-- Key: `fours_join`, the union of four sets is that of the choice which their bits are.
use Rattle.std.proofs.Common.{◌≡◌, ℕ, zero, suc, ◌+◌, ◌-◌, ◌*◌, ◌/◌, ◌%◌, ◌<◌, ◌≤◌, Bool, true, false, if◌then◌else◌, eqb, List, [], ◌∷◌, length, refl, sym, ◌∙◌, ap, ap₂, arith}
use Rattle.std.proofs.Math.Bool.{or_assoc}
use Rattle.std.specs.Int.{bit_at}
use Rattle.state_laws.specs.FollowSets.{or_each}
use Rattle.state_laws.proofs.FollowSetsLemmas.{or_each_none}
use Rattle.js_pattern_positions.specs.Marks.{Marks}
use Rattle.js_nfa.specs.FollowSets.{set_at, HaveAtMost, AreFours, chosen_sets, four_bits, choice_at, by_fours}
use Rattle.js_nfa.proofs.FollowSetsSteps.{set_at-past, joined}

-- ---- the bits of a choice
pub choice-bits : (v : ℕ) → v < 16
    → four_bits (eqb (bit_at v 0) 1) (eqb (bit_at v 1) 1) (eqb (bit_at v 2) 1) (eqb (bit_at v 3) 1) ≡ v
choice-bits zero h = refl
choice-bits (suc zero) h = refl
choice-bits (suc (suc zero)) h = refl
choice-bits (suc (suc (suc zero))) h = refl
choice-bits (suc (suc (suc (suc zero)))) h = refl
choice-bits (suc (suc (suc (suc (suc zero))))) h = refl
choice-bits (suc (suc (suc (suc (suc (suc zero)))))) h = refl
choice-bits (suc (suc (suc (suc (suc (suc (suc zero))))))) h = refl
choice-bits (suc (suc (suc (suc (suc (suc (suc (suc zero)))))))) h = refl
choice-bits (suc (suc (suc (suc (suc (suc (suc (suc (suc zero))))))))) h = refl
choice-bits (suc (suc (suc (suc (suc (suc (suc (suc (suc (suc zero)))))))))) h = refl
choice-bits (suc (suc (suc (suc (suc (suc (suc (suc (suc (suc (suc zero))))))))))) h = refl
choice-bits (suc (suc (suc (suc (suc (suc (suc (suc (suc (suc (suc (suc zero)))))))))))) h = refl
choice-bits (suc (suc (suc (suc (suc (suc (suc (suc (suc (suc (suc (suc (suc zero))))))))))))) h = refl
choice-bits (suc (suc (suc (suc (suc (suc (suc (suc (suc (suc (suc (suc (suc (suc zero)))))))))))))) h = refl
choice-bits (suc (suc (suc (suc (suc (suc (suc (suc (suc (suc (suc (suc (suc (suc (suc zero))))))))))))))) h = refl
choice-bits (suc (suc (suc (suc (suc (suc (suc (suc (suc (suc (suc (suc (suc (suc (suc (suc v)))))))))))))))) h =
    absurd (omega (arith, h))

four-first : (a b c d : Bool) → eqb (bit_at (four_bits a b c d) 0) 1 ≡ a
four-first false false false false = refl
four-first false false false true = refl
four-first false false true false = refl
four-first false false true true = refl
four-first false true false false = refl
four-first false true false true = refl
four-first false true true false = refl
four-first false true true true = refl
four-first true false false false = refl
four-first true false false true = refl
four-first true false true false = refl
four-first true false true true = refl
four-first true true false false = refl
four-first true true false true = refl
four-first true true true false = refl
four-first true true true true = refl

four-second : (a b c d : Bool) → eqb (bit_at (four_bits a b c d) 1) 1 ≡ b
four-second false false false false = refl
four-second false false false true = refl
four-second false false true false = refl
four-second false false true true = refl
four-second false true false false = refl
four-second false true false true = refl
four-second false true true false = refl
four-second false true true true = refl
four-second true false false false = refl
four-second true false false true = refl
four-second true false true false = refl
four-second true false true true = refl
four-second true true false false = refl
four-second true true false true = refl
four-second true true true false = refl
four-second true true true true = refl

four-third : (a b c d : Bool) → eqb (bit_at (four_bits a b c d) 2) 1 ≡ c
four-third false false false false = refl
four-third false false false true = refl
four-third false false true false = refl
four-third false false true true = refl
four-third false true false false = refl
four-third false true false true = refl
four-third false true true false = refl
four-third false true true true = refl
four-third true false false false = refl
four-third true false false true = refl
four-third true false true false = refl
four-third true false true true = refl
four-third true true false false = refl
four-third true true false true = refl
four-third true true true false = refl
four-third true true true true = refl

four-fourth : (a b c d : Bool) → eqb (bit_at (four_bits a b c d) 3) 1 ≡ d
four-fourth false false false false = refl
four-fourth false false false true = refl
four-fourth false false true false = refl
four-fourth false false true true = refl
four-fourth false true false false = refl
four-fourth false true false true = refl
four-fourth false true true false = refl
four-fourth false true true true = refl
four-fourth true false false false = refl
four-fourth true false false true = refl
four-fourth true false true false = refl
four-fourth true false true true = refl
four-fourth true true false false = refl
four-fourth true true false true = refl
four-fourth true true true false = refl
four-fourth true true true true = refl

four-small : (a b c d : Bool) → four_bits a b c d < 16
four-small false false false false = omega arith
four-small false false false true = omega arith
four-small false false true false = omega arith
four-small false false true true = omega arith
four-small false true false false = omega arith
four-small false true false true = omega arith
four-small false true true false = omega arith
four-small false true true true = omega arith
four-small true false false false = omega arith
four-small true false false true = omega arith
four-small true false true false = omega arith
four-small true false true true = omega arith
four-small true true false false = omega arith
four-small true true false true = omega arith
four-small true true true false = omega arith
four-small true true true true = omega arith

four-same : (a b c d e f g h : Bool) → a ≡ e → b ≡ f → c ≡ g → d ≡ h → four_bits a b c d ≡ four_bits e f g h
four-same a b c d e f g h p q r s =
    ap (λ x. four_bits x b c d) p ∙ ap (λ x. four_bits e x c d) q ∙ ap (λ x. four_bits e f x d) r
    ∙ ap (four_bits e f g) s

pub choice-is : (read : ℕ → Bool) (first v : ℕ) → v < 16
    → ((i : ℕ) → i < 4 → eqb (bit_at v i) 1 ≡ read (first + i)) → v ≡ choice_at read first
choice-is read first v small h =
    sym (choice-bits v small)
    ∙ four-same _ _ _ _ (read first) (read (first + 1)) (read (first + 2)) (read (first + 3))
    (h 0 (omega arith) ∙ ap read (omega arith)) (h 1 (omega arith)) (h 2 (omega arith)) (h 3 (omega arith))

pub choice-small : (read : ℕ → Bool) (first : ℕ) → choice_at read first < 16
choice-small read first = four-small (read first) (read (first + 1)) (read (first + 2)) (read (first + 3))

choice-read : (read : ℕ → Bool) (first i : ℕ) → i < 4 → eqb (bit_at (choice_at read first) i) 1 ≡ read (first + i)
choice-read read first zero h =
    four-first (read first) (read (first + 1)) (read (first + 2)) (read (first + 3)) ∙ ap read (omega arith)
choice-read read first (suc zero) h = four-second (read first) (read (first + 1)) (read (first + 2)) (read (first + 3))
choice-read read first (suc (suc zero)) h = four-third (read first) (read (first + 1)) (read (first + 2))
    (read (first + 3))
choice-read read first (suc (suc (suc zero))) h = four-fourth (read first) (read (first + 1)) (read (first + 2))
    (read (first + 3))
choice-read read first (suc (suc (suc (suc i)))) h = absurd (omega (arith, h))

-- ---- unions
or_each-assoc : (xs ys zs : List Bool) → or_each (or_each xs ys) zs ≡ or_each xs (or_each ys zs)
or_each-assoc [] ys zs = refl
or_each-assoc (x ∷ xs) [] zs = refl
or_each-assoc (x ∷ xs) (y ∷ ys) [] = refl
or_each-assoc (x ∷ xs) (y ∷ ys) (z ∷ zs) = ap₂ (λ b bs. b ∷ bs) (or_assoc x y z) (or_each-assoc xs ys zs)

pub or_each-within : (xs ys : List Bool) (n : ℕ) → length xs ≤ n → length ys ≤ n → length (or_each xs ys) ≤ n
or_each-within [] ys n e f = f
or_each-within (x ∷ xs) [] n e f = e
or_each-within (x ∷ xs) (y ∷ ys) zero e f = absurd (omega (arith, e))
or_each-within (x ∷ xs) (y ∷ ys) (suc n) e f =
    let more = or_each-within xs ys n (omega (arith, e)) (omega (arith, f)) in omega (arith, more)

or_each-long : (xs ys : List Bool) → length ys ≤ length xs → length (or_each xs ys) ≡ length xs
or_each-long [] [] h = refl
or_each-long [] (y ∷ ys) h = absurd (omega (arith, h))
or_each-long (x ∷ xs) [] h = refl
or_each-long (x ∷ xs) (y ∷ ys) h = ap suc (or_each-long xs ys (omega (arith, h)))

pub length-by_fours : (always : List Bool) (fours : List Marks) (read : ℕ → Bool) (n : ℕ) → n ≤ length fours / 16
    → HaveAtMost (length always) fours → length (by_fours always fours read n) ≡ length always
length-by_fours always fours read zero h within = refl
length-by_fours always fours read (suc n) h within =
    let before = length-by_fours always fours read n (omega (arith, h)) within in
    let small = choice-small read (4 * n) in
    let one = within (16 * n + choice_at read (4 * n)) (omega (arith, h, small)) in
    or_each-long (by_fours always fours read n) (set_at fours (16 * n + choice_at read (4 * n)))
    (omega (arith, one, before))
    ∙ before

-- the follow sets of four positions, of which a number's bits are those in the set
chosen_sets-joined : (always : List Bool) (sets : List Marks) (read : ℕ → Bool) (first bits : ℕ)
    → ((i : ℕ) → i < 4 → eqb (bit_at bits i) 1 ≡ read (first + i)) → (n : ℕ) → n ≤ 4
    → or_each (joined always sets read first) (chosen_sets sets first bits n) ≡ joined always sets read (first + n)
chosen_sets-joined always sets read first bits is zero h =
    let same : first ≡ first + 0 = omega arith in
    or_each_none (joined always sets read first) ∙ ap (joined always sets read) same
chosen_sets-joined always sets read first bits is (suc n) h =
    let next : suc (first + n) ≡ first + suc n = omega arith in
    sym (or_each-assoc (joined always sets read first) (chosen_sets sets first bits n)
    (if eqb (bit_at bits n) 1 then set_at sets (first + n) else []))
    ∙ ap₂ (λ xs b. or_each xs (if b then set_at sets (first + n) else []))
    (chosen_sets-joined always sets read first bits is n (omega (arith, h))) (is n (omega (arith, h)))
    ∙ ap (joined always sets read) next

by_fours-joined : (always : List Bool) (sets fours : List Marks) (read : ℕ → Bool) → AreFours sets fours → (n : ℕ)
    → n ≤ length fours / 16 → by_fours always fours read n ≡ joined always sets read (4 * n)
by_fours-joined always sets fours read are zero h = refl
by_fours-joined always sets fours read are (suc n) h =
    let choice = choice_at read (4 * n) in
    let small = choice-small read (4 * n) in
    let four : (16 * n + choice) / 16 ≡ n = omega (arith, small) in
    let bits : (16 * n + choice) % 16 ≡ choice = omega (arith, small) in
    let next : 4 * n + 4 ≡ 4 * suc n = omega arith in
    ap₂ or_each (by_fours-joined always sets fours read are n (omega (arith, h)))
    (are.1 (16 * n + choice) (omega (arith, h, small)) ∙ ap₂ (λ f b. chosen_sets sets (4 * f) b 4) four bits)
    ∙ chosen_sets-joined always sets read (4 * n) choice (choice-read read (4 * n)) 4 (omega arith)
    ∙ ap (joined always sets read) next

-- beyond the last set nothing is added
joined-past : (always : List Bool) (sets : List Marks) (read : ℕ → Bool) (n : ℕ)
    → joined always sets read (length sets + n) ≡ joined always sets read (length sets)
joined-past always sets read zero = let same : length sets + 0 ≡ length sets = omega arith in
    ap (joined always sets read) same
joined-past always sets read (suc n) =
    let next : length sets + suc n ≡ suc (length sets + n) = omega arith in
    ap (joined always sets read) next
    ∙ ap (or_each (joined always sets read (length sets + n))) (none (read (length sets + n)))
    ∙ or_each_none (joined always sets read (length sets + n))
    ∙ joined-past always sets read n where
      none : (b : Bool) → (if b then set_at sets (length sets + n) else []) ≡ []
      none true = set_at-past sets (length sets + n) (omega arith)
      none false = refl

pub fours_join : (always : List Bool) (sets fours : List Marks) (read : ℕ → Bool) → AreFours sets fours
    → joined always sets read (length sets) ≡ by_fours always fours read (length fours / 16)
fours_join always sets fours read are =
    let rest = 4 * (length fours / 16) - length sets in
    let all : length sets + rest ≡ 4 * (length fours / 16) = omega (arith, are.0) in
    sym (joined-past always sets read rest)
    ∙ ap (joined always sets read) all
    ∙ sym (by_fours-joined always sets fours read are (length fours / 16) (omega arith))

-- ---- loops
pub chosen_sets-more : (sets : List Marks) (first bits n : ℕ) (x : Marks) (before after : List Bool)
    → before ≡ chosen_sets sets first bits n → eqb (bit_at bits n) 1 ≡ true → set_at sets (first + n) ≡ Marks.flags x
    → after ≡ or_each before (Marks.flags x) → after ≡ chosen_sets sets first bits (n + 1)
chosen_sets-more sets first bits n x before after e bit is f =
    let next : suc n ≡ n + 1 = omega arith in
    f
    ∙ ap₂ or_each e (sym is)
    ∙ sym (ap (λ b. or_each (chosen_sets sets first bits n) (if b then set_at sets (first + n) else [])) bit)
    ∙ ap (chosen_sets sets first bits) next

pub chosen_sets-still : (sets : List Marks) (first bits n : ℕ) (before : List Bool)
    → before ≡ chosen_sets sets first bits n
    → (if eqb (bit_at bits n) 1 then set_at sets (first + n) else []) ≡ []
    → before ≡ chosen_sets sets first bits (n + 1)
chosen_sets-still sets first bits n before e none =
    let next : suc n ≡ n + 1 = omega arith in
    e
    ∙ sym (or_each_none (chosen_sets sets first bits n))
    ∙ sym (ap (or_each (chosen_sets sets first bits n)) none)
    ∙ ap (chosen_sets sets first bits) next

pub within-again : (sets : List Marks) (count other : ℕ) → count ≡ other → HaveAtMost count sets → HaveAtMost other sets
within-again sets count other e within n h = let one = within n h in omega (arith, one, e)

pub picked-past : (b : Bool) (sets : List Marks) (n : ℕ) → length sets ≤ n → (if b then set_at sets n else []) ≡ []
picked-past true sets n h = set_at-past sets n h
picked-past false sets n h = refl
