-- Maps of files, made of elements of another type by `f`.
use Rattle.std.proofs.Common.{◌≡◌, ◌≢◌, ℕ, zero, suc, ◌<◌, ◌≤◌, List, [], ◌∷◌, ◌++◌, map, length, get_or}
use Rattle.std.proofs.Common.{Option, arith}
use Rattle.std.proofs.Common.{set, take, drop, refl, ap, sym, ◌∙◌, Bool, true, false, Some, if◌then◌else◌}
use Rattle.std.proofs.lemmas.Bool.{true≢false}
use Rattle.std.proofs.lemmas.List.{length-map}
use Rattle.std.specs.Str.{bytes_eq}
use Rattle.std.specs.Cmp.Lexicographic.{slice_cmp}
use Rattle.std.specs.Ordering.{nat_cmp, is_gt, is_eq, is_lt, match_ordering}
use Rattle.std.specs.declared.cmp.Ordering.{Ordering}
use Rattle.std.specs.declared.cmp.Ordering.TheVariants.{Less, Equal, Greater}
use Rattle.std.proofs.lemmas.Map.Text.{is_eq-slice_cmp}
use Rattle.std.proofs.lemmas.Slice.Eq.{bytes_eq-Decides}
use Rattle.js_outside.specs.Contents.{Entries, contents, bytes_at, place_of, with_file}

-- no bytes are past the end
pub bytes_at-past : (files : Entries) (i : ℕ) → length files ≤ i → bytes_at files i ≡ []
bytes_at-past [] i past = refl
bytes_at-past (file ∷ files) zero past = absurd (omega arith)
bytes_at-past (file ∷ files) (suc i) past = bytes_at-past files i (omega arith)

-- the bytes of the element at a place
pub bytes_at-map : {A : Type 0} (f : A → List ℕ × List ℕ) (xs : List A) (i : ℕ) (x : A) → i < length xs
    → x ≡ get_or xs i x → bytes_at (map f xs) i ≡ (f x).1
bytes_at-map f [] i x within at = absurd (omega arith)
bytes_at-map f (y ∷ ys) zero x within at = ap (λ a. (f a).1) (sym at)
bytes_at-map f (y ∷ ys) (suc i) x within at = bytes_at-map f ys i x (omega arith) at

-- the file of a name is at the first place, or behind it
pub contents-drop : {A : Type 0} (f : A → List ℕ × List ℕ) (xs : List A) (i : ℕ) (x : A) (name : List ℕ)
    → i < length xs → x ≡ get_or xs i x
    → contents (map f (drop i xs)) name
    ≡ (if bytes_eq name (f x).0 then Some (f x).1 else contents (map f (drop (suc i) xs)) name)
contents-drop f [] i x name within at = absurd (omega arith)
contents-drop f (y ∷ ys) zero x name within at =
    ap (λ a. if bytes_eq name (f a).0 then Some (f a).1 else contents (map f ys) name) (sym at)
contents-drop f (y ∷ ys) (suc i) x name within at = contents-drop f ys i x name (omega arith) at

-- a name that isn't after the element at a place has its place there
pub place_of-drop : {A : Type 0} (f : A → List ℕ × List ℕ) (xs : List A) (i : ℕ) (x : A) (name : List ℕ)
    → i < length xs → x ≡ get_or xs i x
    → place_of (map f (drop i xs)) name
    ≡ (if is_gt (slice_cmp nat_cmp name (f x).0) then suc (place_of (map f (drop (suc i) xs)) name) else 0)
place_of-drop f [] i x name within at = absurd (omega arith)
place_of-drop f (y ∷ ys) zero x name within at =
    ap (λ a. if is_gt (slice_cmp nat_cmp name (f a).0) then suc (place_of (map f ys) name) else 0) (sym at)
place_of-drop f (y ∷ ys) (suc i) x name within at = place_of-drop f ys i x name (omega arith) at

-- the file at a place is the one of its name, if no file before it is
pub contents-found : {A : Type 0} (f : A → List ℕ × List ℕ) (xs : List A) (files : Entries) (i : ℕ) (x : A)
    → (name : List ℕ)
    → map f xs ≡ files → i < length xs → x ≡ get_or xs i x → bytes_eq name (f x).0 ≡ true
    → contents (map f (drop i xs)) name ≡ contents (map f xs) name
    → contents files name ≡ Some (bytes_at files i)
contents-found f xs files i x name seen within at same none =
    ap (λ l. contents l name) (sym seen) ∙ sym none ∙ contents-drop f xs i x name within at
    ∙ ap (λ b. if b then Some (f x).1 else contents (map f (drop (suc i) xs)) name) same
    ∙ ap Some (sym (bytes_at-map f xs i x within at)) ∙ ap (λ l. Some (bytes_at l i)) seen

-- no bytes
abbrev nothing : List ℕ
nothing = []

-- nothing comes behind the front of nothing
drop-nothing : (n : ℕ) → drop n nothing ≡ nothing
drop-nothing zero = refl
drop-nothing (suc n) = refl

-- nothing of a file past the end is left
pub rest-past_files : {A : Type 0} (f : A → List ℕ × List ℕ) (xs : List A) (files : Entries) (i position : ℕ)
    → map f xs ≡ files → length xs ≤ i → [] ≡ drop position (bytes_at files i)
rest-past_files f xs files i position seen past =
    let n : length (map f xs) ≤ i = rw (length-map xs f) past in
    sym (drop-nothing position)
    ∙ ap (drop position) (sym (bytes_at-past (map f xs) i n) ∙ ap (λ l. bytes_at l i) seen)

-- what is left of the file at a place
pub rest-at : {A : Type 0} (f : A → List ℕ × List ℕ) (xs : List A) (files : Entries) (i position : ℕ) (x : A)
    → map f xs ≡ files → i < length xs → x ≡ get_or xs i x
    → drop position (f x).1 ≡ drop position (bytes_at files i)
rest-at f xs files i position x seen within at =
    ap (drop position) (sym (bytes_at-map f xs i x within at) ∙ ap (λ l. bytes_at l i) seen)

-- equal texts compare as equal, and texts that compare as equal are equal
pub cmp-same : (a b : List ℕ) → a ≡ b → slice_cmp nat_cmp a b ≡ Equal
cmp-same a b same = go (slice_cmp nat_cmp a b) (is_eq-slice_cmp a b ∙ (bytes_eq-Decides a b).1 same)
  where
    go : (o : Ordering) → is_eq o ≡ true → o ≡ Equal
    go Less e = absurd (true≢false (sym e))
    go Equal e = refl
    go Greater e = absurd (true≢false (sym e))

pub same-cmp : (a b : List ℕ) → slice_cmp nat_cmp a b ≡ Equal → a ≡ b
same-cmp a b e = (bytes_eq-Decides a b).0 (sym (is_eq-slice_cmp a b) ∙ ap is_eq e)

-- the step of a map with one file set
set-step : (file : List ℕ × List ℕ) (files : Entries) (name bytes : List ℕ) (o : Ordering)
    → slice_cmp nat_cmp name file.0 ≡ o
    → with_file (file ∷ files) name bytes
    ≡ match_ordering o ((name, bytes) ∷ file ∷ files) ((file.0, bytes) ∷ files)
    (file ∷ with_file files name bytes)
set-step file files name bytes o e =
    ap (λ p. match_ordering p ((name, bytes) ∷ file ∷ files) ((file.0, bytes) ∷ files)
    (file ∷ with_file files name bytes)) e

-- the step of a name's place
place-step : (file : List ℕ × List ℕ) (files : Entries) (name : List ℕ) (o : Ordering)
    → slice_cmp nat_cmp name file.0 ≡ o
    → place_of (file ∷ files) name ≡ (if is_gt o then suc (place_of files name) else 0)
place-step file files name o e = ap (λ p. if is_gt p then suc (place_of files name) else 0) e

-- orders that differ are apart
less-apart : {P : Type 0} → Less ≡ Equal → P
less-apart e = absurd (true≢false (ap is_lt e))

greater-apart : {P : Type 0} → Greater ≡ Equal → P
greater-apart e = absurd (true≢false (ap is_gt e))

-- a file of that name is at its place: its bytes are replaced
set-by : {A : Type 0} (f : A → List ℕ × List ℕ) (z : A) (zs : List A) (x y : A) (name bytes : List ℕ)
    → (f x).0 ≡ name → f y ≡ ((f x).0, bytes)
    → ((j : ℕ) → j ≡ place_of (map f zs) name → j < length zs → x ≡ get_or zs j x
    → map f (set zs j y) ≡ with_file (map f zs) name bytes)
    → (o : Ordering) (i : ℕ) → slice_cmp nat_cmp name (f z).0 ≡ o → i ≡ place_of (map f (z ∷ zs)) name
    → i < length (z ∷ zs) → x ≡ get_or (z ∷ zs) i x
    → map f (set (z ∷ zs) i y) ≡ with_file (map f (z ∷ zs)) name bytes
set-by f z zs x y name bytes same made below Less zero e place within at =
    less-apart (sym e ∙ cmp-same name (f z).0 (sym same ∙ ap (λ a. (f a).0) at))
set-by f z zs x y name bytes same made below Less (suc i) e place within at =
    let p : suc i ≡ 0 = place ∙ place-step (f z) (map f zs) name Less e in absurd (omega (arith, p))
set-by f z zs x y name bytes same made below Equal zero e place within at =
    ap (λ h. h ∷ map f zs) (made ∙ ap (λ a. ((f a).0, bytes)) at)
    ∙ sym (set-step (f z) (map f zs) name bytes Equal e)
set-by f z zs x y name bytes same made below Equal (suc i) e place within at =
    let p : suc i ≡ 0 = place ∙ place-step (f z) (map f zs) name Equal e in absurd (omega (arith, p))
set-by f z zs x y name bytes same made below Greater zero e place within at =
    let p : 0 ≡ suc (place_of (map f zs) name) = place ∙ place-step (f z) (map f zs) name Greater e in
    absurd (omega (arith, p))
set-by f z zs x y name bytes same made below Greater (suc i) e place within at =
    let p : suc i ≡ suc (place_of (map f zs) name) = place ∙ place-step (f z) (map f zs) name Greater e in
    ap (λ l. f z ∷ l) (below i (omega (arith, p)) (omega arith) at)
    ∙ sym (set-step (f z) (map f zs) name bytes Greater e)

pub with_file-set : {A : Type 0} (f : A → List ℕ × List ℕ) (xs : List A) (i : ℕ) (x y : A)
    → (name bytes : List ℕ) → (f x).0 ≡ name → f y ≡ ((f x).0, bytes)
    → i ≡ place_of (map f xs) name → i < length xs → x ≡ get_or xs i x
    → map f (set xs i y) ≡ with_file (map f xs) name bytes
with_file-set f [] i x y name bytes same made place within at = absurd (omega arith)
with_file-set f (z ∷ zs) i x y name bytes same made place within at =
    set-by f z zs x y name bytes same made (λ j. with_file-set f zs j x y name bytes same made)
    (slice_cmp nat_cmp name (f z).0) i refl place within at

-- no file of that name is at its place: the file goes there
new-by : {A : Type 0} (f : A → List ℕ × List ℕ) (z : A) (zs : List A) (y : A) (name bytes : List ℕ)
    → f y ≡ (name, bytes)
    → ((j : ℕ) → j ≡ place_of (map f zs) name
    → ((x : A) → j < length zs → x ≡ get_or zs j x → (f x).0 ≢ name)
    → map f (take j zs ++ y ∷ drop j zs) ≡ with_file (map f zs) name bytes)
    → (o : Ordering) (i : ℕ) → slice_cmp nat_cmp name (f z).0 ≡ o → i ≡ place_of (map f (z ∷ zs)) name
    → ((x : A) → i < length (z ∷ zs) → x ≡ get_or (z ∷ zs) i x → (f x).0 ≢ name)
    → map f (take i (z ∷ zs) ++ y ∷ drop i (z ∷ zs)) ≡ with_file (map f (z ∷ zs)) name bytes
new-by f z zs y name bytes made below Less zero e place other =
    ap (λ h. h ∷ f z ∷ map f zs) made ∙ sym (set-step (f z) (map f zs) name bytes Less e)
new-by f z zs y name bytes made below Less (suc i) e place other =
    let p : suc i ≡ 0 = place ∙ place-step (f z) (map f zs) name Less e in absurd (omega (arith, p))
new-by f z zs y name bytes made below Equal zero e place other =
    absurd (other z (omega arith) refl (sym (same-cmp name (f z).0 e)))
new-by f z zs y name bytes made below Equal (suc i) e place other =
    let p : suc i ≡ 0 = place ∙ place-step (f z) (map f zs) name Equal e in absurd (omega (arith, p))
new-by f z zs y name bytes made below Greater zero e place other =
    let p : 0 ≡ suc (place_of (map f zs) name) = place ∙ place-step (f z) (map f zs) name Greater e in
    absurd (omega (arith, p))
new-by f z zs y name bytes made below Greater (suc i) e place other =
    let p : suc i ≡ suc (place_of (map f zs) name) = place ∙ place-step (f z) (map f zs) name Greater e in
    ap (λ l. f z ∷ l) (below i (omega (arith, p)) (λ x h at. other x (omega arith) at))
    ∙ sym (set-step (f z) (map f zs) name bytes Greater e)

pub with_file-new : {A : Type 0} (f : A → List ℕ × List ℕ) (xs : List A) (i : ℕ) (y : A) (name bytes : List ℕ)
    → f y ≡ (name, bytes) → i ≡ place_of (map f xs) name
    → ((x : A) → i < length xs → x ≡ get_or xs i x → (f x).0 ≢ name)
    → map f (take i xs ++ y ∷ drop i xs) ≡ with_file (map f xs) name bytes
with_file-new f [] zero y name bytes made place other = ap (λ h. h ∷ []) made
with_file-new f [] (suc i) y name bytes made place other = ap (λ h. h ∷ []) made
with_file-new f (z ∷ zs) i y name bytes made place other =
    new-by f z zs y name bytes made (λ j. with_file-new f zs j y name bytes made)
    (slice_cmp nat_cmp name (f z).0) i refl place other

-- a name has its place among the files, or behind them
within-by : (n : ℕ) (m : ℕ) (b : Bool) → n ≤ m → (if b then suc n else 0) ≤ suc m
within-by n m true h = omega arith
within-by n m false h = omega arith

pub place_of-within : (files : Entries) (name : List ℕ) → place_of files name ≤ length files
place_of-within [] name = omega arith
place_of-within (file ∷ files) name =
    within-by (place_of files name) (length files) (is_gt (slice_cmp nat_cmp name file.0))
    (place_of-within files name)

-- two tests that don't both pass may be made in either order
either-first : {X : Type 0} (p r : Bool) (x y z : X) → (p ≡ true → r ≡ true → ⊥)
    → (if p then x else (if r then y else z)) ≡ (if r then y else (if p then x else z))
either-first true true x y z apart = absurd (apart refl refl)
either-first true false x y z apart = refl
either-first false r x y z apart = refl

-- two values that agree where a test fails give the same choice
same-else : {X : Type 0} (b : Bool) (x y z : X) → (b ≡ false → z ≡ y)
    → (if b then x else y) ≡ (if b then x else z)
same-else true x y z h = refl
same-else false x y z h = sym (h refl)

-- the bytes of the name `asked` after the file of `name` was set
abbrev pub told-after : List ℕ → List ℕ → List ℕ → Option (List ℕ) → Option (List ℕ)
told-after name bytes asked before = if bytes_eq asked name then Some bytes else before

-- what a map has for each name after one file was set, by how the name compares with that of the first file
contents-by : (file : List ℕ × List ℕ) (files : Entries) (name bytes asked : List ℕ)
    → contents (with_file files name bytes) asked ≡ told-after name bytes asked (contents files asked)
    → (o : Ordering) → slice_cmp nat_cmp name file.0 ≡ o
    → contents (with_file (file ∷ files) name bytes) asked
    ≡ told-after name bytes asked (contents (file ∷ files) asked)
contents-by file files name bytes asked below Less e =
    ap (λ l. contents l asked) (set-step file files name bytes Less e)
contents-by file files name bytes asked below Equal e =
    let same = same-cmp name file.0 e in
    let other : bytes_eq asked name ≡ false → contents (file ∷ files) asked ≡ contents files asked =
    λ no. ap (λ n. told-after n file.1 asked (contents files asked)) (sym same)
    ∙ ap (λ b. if b then Some file.1 else contents files asked) no in
    ap (λ l. contents l asked) (set-step file files name bytes Equal e)
    ∙ ap (λ n. told-after n bytes asked (contents files asked)) (sym same)
    ∙ same-else (bytes_eq asked name) (Some bytes) (contents files asked)
    (contents (file ∷ files) asked) other
contents-by file files name bytes asked below Greater e =
    let apart : bytes_eq asked file.0 ≡ true → bytes_eq asked name ≡ true → ⊥ =
    λ first this. greater-apart (sym e ∙ cmp-same name file.0
    (sym ((bytes_eq-Decides asked name).0 this) ∙ (bytes_eq-Decides asked file.0).0 first)) in
    ap (λ l. contents l asked) (set-step file files name bytes Greater e)
    ∙ ap (λ c. told-after file.0 file.1 asked c) below
    ∙ either-first (bytes_eq asked file.0) (bytes_eq asked name) (Some file.1) (Some bytes)
    (contents files asked) apart

-- setting a file gives its bytes at its name, and leaves all other files
pub contents-with_file : (files : Entries) (name bytes asked : List ℕ)
    → contents (with_file files name bytes) asked ≡ told-after name bytes asked (contents files asked)
contents-with_file [] name bytes asked = refl
contents-with_file (file ∷ files) name bytes asked =
    contents-by file files name bytes asked (contents-with_file files name bytes asked)
    (slice_cmp nat_cmp name file.0) refl
