-- What reads a text exactly: a text is read as x just where it is the text of x.
use Rattle.std.proofs.Common.{◌≡◌, ℕ, ◌+◌, ◌<◌, ◌⊎◌, inl, inr, ⊎_elim, Bool, true, false, ◌&&◌, not, cond, nat_eq, List, [], ◌∷◌, ◌++◌, length, get_or, drop, map, flat_map, Option, Some, None, option_map, refl, ap, sym, ◌∙◌, subst}
use Rattle.std.specs.Prelude.{codes, option_and_then}
use Rattle.std.specs.Char.{is_ascii_digit}
use Rattle.std.specs.Fmt.{decimal}
use Rattle.std.proofs.lemmas.List.{append-nil, at_drop_more}
use Rattle.std.proofs.lemmas.List.Folds.{flat_map-map}
use Rattle.std.proofs.lemmas.Bool.{true≢false, and_parts, and_from}
use Rattle.documents.specs.Tests.{every}
use Rattle.documents.specs.Kind.{Kind, Null, Boolean, Number, Text, Array, Object, all_kinds}
use Rattle.documents.specs.KindWords.{kind_word}
use Rattle.list_laws.proofs.Elements.{every-append}
use Rattle.goals.specs.Signed.{Signed, Plus, Minus}
use Rattle.certificate_lines.specs.Line.{Ending, Clashes, Cites, ShortEntry, Kept, Ends}
use Rattle.certificate_lines.specs.Text.{signed_text, ending_text, entry_text, list_text, is_small, is_small_signed, is_small_ending, is_small_entry}
use Rattle.certificate_lines.specs.Pieces.{pieces, split_at, after_word, is_at_end, is_word}
use Rattle.certificate_lines.specs.Reading.{read_all, number_of, or_else, both, headed, signed_of, kind_among, kind_of_word, ending_of, after_first, listed, list_of, parted, some_of, beside_number, bare_entry, entries_on, entries_of}
use Rattle.line_laws.proofs.PieceLaws.{after_word-text, pieces-begun, pieces-of_begun, split_at-text, split_at-of, lacks}
use Rattle.line_laws.proofs.NumberLaws.{number_of-text, number_of-decimal, decimal-lacks}

pub record Reads {A : Type 0} (read : List ℕ → Option A) (write : A → List ℕ) (good : A → Bool) : Type 0 where
  pub text : (xs : List ℕ) (x : A) → read xs ≡ Some x → (write x ≡ xs) × (good x ≡ true)
  pub of : (x : A) → good x ≡ true → read (write x) ≡ Some x

-- what an answer came from

or_else-some : {A : Type 0} (o p : Option A) (x : A) → or_else o p ≡ Some x → (o ≡ Some x) ⊎ (p ≡ Some x)
or_else-some (Some y) p x e = inl e
or_else-some None p x e = inr e

pub either : {A : Type 0} {Q : Type 0} (o p : Option A) (x : A) → (o ≡ Some x → Q) → (p ≡ Some x → Q)
    → or_else o p ≡ Some x → Q
either o p x f g e = ⊎_elim f g (or_else-some o p x e)

and_then-some : {A B : Type 0} (f : A → Option B) (o : Option A) (y : B) → option_and_then f o ≡ Some y
    → (x : A) × (o ≡ Some x) × (f x ≡ Some y)
and_then-some f (Some x) y e = (x, refl, e)
and_then-some f None y e = cc

map-some : {A B : Type 0} (f : A → B) (o : Option A) (y : B) → option_map f o ≡ Some y
    → (x : A) × (o ≡ Some x) × (f x ≡ y)
map-some f (Some x) y e = (x, refl, cc)
map-some f None y e = cc

both-some : {A B : Type 0} (o : Option A) (p : Option B) (z : A × B) → both o p ≡ Some z
    → (o ≡ Some z.0) × (p ≡ Some z.1)
both-some (Some x) (Some y) z e = let same : (x, y) ≡ z = cc in (ap (λ w. Some w.0) same, ap (λ w. Some w.1) same)
both-some (Some x) None z e = cc
both-some None p z e = cc

-- a word, and a text after it that stands for x
pub record Headed {A : Type 0} (word : List ℕ) (read : List ℕ → Option A) (xs : List ℕ) (x : A) : Type 0 where
  pub rest : List ℕ
  pub text : word ++ rest ≡ xs
  pub says : read rest ≡ Some x

pub headed-some : {A B : Type 0} (word : List ℕ) (read : List ℕ → Option A) (make : A → B) (xs : List ℕ) (y : B)
    → headed word read make xs ≡ Some y → (x : A) × (make x ≡ y) × Headed word read xs x
headed-some word read make xs y e =
    let (x, some, m) = map-some make (option_and_then read (after_word word xs)) y e in
    let (rest, after, says) = and_then-some read (after_word word xs) x some in
    (x, m, record { rest = rest; text = after_word-text word xs rest after; says = says })

pub is_word-text : (word xs : List ℕ) → is_word word xs ≡ true → word ≡ xs
is_word-text word xs h = go (after_word word xs) refl h where
  go : (o : Option (List ℕ)) → after_word word xs ≡ o → is_at_end o ≡ true → word ≡ xs
  go (Some []) e f = sym (append-nil word) ∙ after_word-text word xs [] e
  go (Some (x ∷ r)) e f = absurd (true≢false (sym f))
  go None e f = absurd (true≢false (sym f))

-- numbers and signed positions

pub number-reads : Reads number_of decimal is_small
number-reads = record { text = number_of-text; of = number_of-decimal }

signed_of-text : (xs : List ℕ) (x : Signed) → signed_of xs ≡ Some x
    → (signed_text x ≡ xs) × (is_small_signed x ≡ true)
signed_of-text xs x =
    either (headed (codes "+") number_of Plus xs) (headed (codes "-") number_of Minus xs) x
    (λ h. let (n, m, p) = headed-some (codes "+") number_of Plus xs x h in
    let (d, s) = number_of-text p.rest n p.says in
    subst (λ z. (signed_text z ≡ xs) × (is_small_signed z ≡ true)) m (ap (λ ys. 43 ∷ ys) d ∙ p.text, s))
    (λ h. let (n, m, p) = headed-some (codes "-") number_of Minus xs x h in
    let (d, s) = number_of-text p.rest n p.says in
    subst (λ z. (signed_text z ≡ xs) × (is_small_signed z ≡ true)) m (ap (λ ys. 45 ∷ ys) d ∙ p.text, s))

signed_of-of : (x : Signed) → is_small_signed x ≡ true → signed_of (signed_text x) ≡ Some x
signed_of-of (Plus p) h = ap (λ o. or_else (option_map Plus o) None) (number_of-decimal p h)
signed_of-of (Minus p) h = ap (λ o. option_map Minus o) (number_of-decimal p h)

pub signed-reads : Reads signed_of signed_text is_small_signed
signed-reads = record { text = signed_of-text; of = signed_of-of }

pub signed-lacks : (b : ℕ) → lacks b (codes "+-") ≡ true → is_ascii_digit b ≡ false
    → (x : Signed) → is_small_signed x ≡ true → lacks b (signed_text x) ≡ true
signed-lacks b signs other (Plus p) h =
    let (s, t) = and_parts (not (nat_eq 43 b)) (lacks b (codes "-")) signs in
    and_from (not (nat_eq 43 b)) _ s (decimal-lacks b other p h)
signed-lacks b signs other (Minus p) h =
    let (s, t) = and_parts (not (nat_eq 43 b)) (lacks b (codes "-")) signs in
    let (u, v) = and_parts (not (nat_eq 45 b)) true t in
    and_from (not (nat_eq 45 b)) _ u (decimal-lacks b other p h)

-- kinds

kind_among-text : (ts : List Kind) (xs : List ℕ) (t : Kind) → kind_among ts xs ≡ Some t → kind_word t ≡ xs
kind_among-text [] xs t e = cc
kind_among-text (u ∷ ts) xs t e = go (kind_among-text ts xs t) (is_word (kind_word u) xs) refl e where
  go : (kind_among ts xs ≡ Some t → kind_word t ≡ xs) → (b : Bool) → is_word (kind_word u) xs ≡ b
      → cond b (Some u) (kind_among ts xs) ≡ Some t → kind_word t ≡ xs
  go next true h f = let same : u ≡ t = cc in ap kind_word (sym same) ∙ is_word-text (kind_word u) xs h
  go next false h f = next f

kind_of_word-of : (t : Kind) → true ≡ true → kind_of_word (kind_word t) ≡ Some t
kind_of_word-of Null e = refl
kind_of_word-of Boolean e = refl
kind_of_word-of Number e = refl
kind_of_word-of Text e = refl
kind_of_word-of Array e = refl
kind_of_word-of Object e = refl

-- a kind that another word is for says nothing
pub kind_among-on : {A : Type 0} (kind : A → Kind) (ks : List A) (i : ℕ) (d : A) (xs : List ℕ) → i < length ks
    → is_word (kind_word (kind (get_or ks i d))) xs ≡ false
    → kind_among (map kind (drop (i + 1) ks)) xs ≡ kind_among (map kind (drop i ks)) xs
kind_among-on kind ks i d xs l other =
    sym (ap (λ b. cond b (Some (kind (get_or ks i d))) (kind_among (map kind (drop (i + 1) ks)) xs)) other)
    ∙ sym (at_drop_more (λ left. kind_among (map kind left) xs) ks i d l)

pub kind-reads : Reads kind_of_word kind_word (λ t. true)
kind-reads = record { text = λ xs t e. (kind_among-text all_kinds xs t e, refl); of = kind_of_word-of }

-- endings

ending_of-text : (xs : List ℕ) (e : Ending) → ending_of xs ≡ Some e
    → (ending_text e ≡ xs) × (is_small_ending e ≡ true)
ending_of-text xs e h = go (is_word (codes "clash") xs) refl h where
  go : (b : Bool) → is_word (codes "clash") xs ≡ b
      → cond b (Some Clashes) (headed (codes "goal ") number_of Cites xs) ≡ Some e
      → (ending_text e ≡ xs) × (is_small_ending e ≡ true)
  go true w f =
      let same : Clashes ≡ e = cc in
      subst (λ z. (ending_text z ≡ xs) × (is_small_ending z ≡ true)) same (is_word-text (codes "clash") xs w, refl)
  go false w f =
      let (n, m, p) = headed-some (codes "goal ") number_of Cites xs e f in
      let (d, s) = number_of-text p.rest n p.says in
      subst (λ z. (ending_text z ≡ xs) × (is_small_ending z ≡ true)) m
      (ap (λ ys. codes "goal " ++ ys) d ∙ p.text, s)

ending_of-of : (e : Ending) → is_small_ending e ≡ true → ending_of (ending_text e) ≡ Some e
ending_of-of Clashes h = refl
ending_of-of (Cites k) h = ap (option_map Cites) (number_of-decimal k h)

pub ending-reads : Reads ending_of ending_text is_small_ending
ending-reads = record { text = ending_of-text; of = ending_of-of }

-- lists

pub read_all-cons : {A : Type 0} (read : List ℕ → Option A) (p : List ℕ) (ps : List (List ℕ)) (ys : List A)
    → read_all read (p ∷ ps) ≡ Some ys
    → (x : A) × (xs : List A) × (ys ≡ x ∷ xs) × (read p ≡ Some x) × (read_all read ps ≡ Some xs)
read_all-cons read p ps ys e =
    let (x, first, rest) = and_then-some (λ x. option_map (λ xs. x ∷ xs) (read_all read ps)) (read p) ys e in
    let (xs, more, same) = map-some (λ xs. x ∷ xs) (read_all read ps) ys rest in
    (x, xs, sym same, first, more)

read_all-text : {A : Type 0} (read : List ℕ → Option A) (write : A → List ℕ) (good : A → Bool)
    → Reads read write good → (ps : List (List ℕ)) (ys : List A) → read_all read ps ≡ Some ys
    → (flat_map (λ p. 32 ∷ p) ps ≡ list_text write ys) × (every good ys ≡ true)
read_all-text read write good r [] ys e = let none : [] ≡ ys = cc in
    subst (λ zs. ([] ≡ list_text write zs) × (every good zs ≡ true)) none (refl, refl)
read_all-text read write good r (p ∷ ps) ys e =
    let (x, xs, same, first, more) = read_all-cons read p ps ys e in
    let (t, s) = r.text p x first in
    let (ts, ss) = read_all-text read write good r ps xs more in
    subst (λ zs. (flat_map (λ p. 32 ∷ p) (p ∷ ps) ≡ list_text write zs) × (every good zs ≡ true)) (sym same)
    ((λ i. (32 ∷ sym t i) ++ ts i), and_from (good x) _ s ss)

pub read_all-map : {A : Type 0} (read : List ℕ → Option A) (write : A → List ℕ) (good : A → Bool)
    → ((x : A) → good x ≡ true → read (write x) ≡ Some x)
    → (xs : List A) → every good xs ≡ true → read_all read (map write xs) ≡ Some xs
read_all-map read write good each [] h = refl
read_all-map read write good each (x ∷ xs) h =
    let (a, b) = and_parts (good x) (every good xs) h in
    ap (λ o. option_and_then (λ y. option_map (λ ys. y ∷ ys) (read_all read (map write xs))) o) (each x a)
    ∙ ap (option_map (λ ys. x ∷ ys)) (read_all-map read write good each xs b)

pub lacks-map : {A : Type 0} (b : ℕ) (write : A → List ℕ) (good : A → Bool)
    → ((x : A) → good x ≡ true → lacks b (write x) ≡ true)
    → (xs : List A) → every good xs ≡ true → every (lacks b) (map write xs) ≡ true
lacks-map b write good each [] h = refl
lacks-map b write good each (x ∷ xs) h =
    let (a, m) = and_parts (good x) (every good xs) h in
    and_from (lacks b (write x)) _ (each x a) (lacks-map b write good each xs m)

pub list-lacks : {A : Type 0} (b : ℕ) (write : A → List ℕ) (good : A → Bool) → nat_eq 32 b ≡ false
    → ((x : A) → good x ≡ true → lacks b (write x) ≡ true)
    → (xs : List A) → every good xs ≡ true → lacks b (list_text write xs) ≡ true
list-lacks b write good other each [] h = refl
list-lacks b write good other each (x ∷ xs) h =
    let (a, m) = and_parts (good x) (every good xs) h in
    every-append (λ c. not (nat_eq c b)) (32 ∷ write x) (list_text write xs)
    ∙ and_from (lacks b (32 ∷ write x)) _ (and_from (not (nat_eq 32 b)) _ (ap not other) (each x a))
    (list-lacks b write good other each xs m)

after_first-text : (xs : List ℕ) (ps qs : List (List ℕ)) → pieces 32 xs ≡ ps → after_first ps ≡ Some qs
    → flat_map (λ p. 32 ∷ p) qs ≡ xs
after_first-text xs [] qs c e = cc
after_first-text xs ([] ∷ ps) qs c e =
    let same : ps ≡ qs = cc in ap (flat_map (λ p. 32 ∷ p)) (sym same) ∙ pieces-begun 32 xs ps c
after_first-text xs ((p ∷ q) ∷ ps) qs c e = cc

listed-text : (xs : List ℕ) (qs : List (List ℕ)) → listed xs ≡ Some qs → flat_map (λ p. 32 ∷ p) qs ≡ xs
listed-text xs qs e = after_first-text xs (pieces 32 xs) qs refl e

listed-of : (ps : List (List ℕ)) → every (lacks 32) ps ≡ true → listed (flat_map (λ p. 32 ∷ p) ps) ≡ Some ps
listed-of ps h = ap after_first (pieces-of_begun 32 ps h)

pub list-reads : {A : Type 0} (read : List ℕ → Option A) (write : A → List ℕ) (good : A → Bool)
    → Reads read write good → ((x : A) → good x ≡ true → lacks 32 (write x) ≡ true)
    → Reads (list_of read) (list_text write) (every good)
list-reads read write good r clear = record {
  text = λ xs ys e.
      let (ps, cut, all) = and_then-some (read_all read) (listed xs) ys e in
      let (t, s) = read_all-text read write good r ps ys all in
      (sym t ∙ listed-text xs ps cut, s);
  of = λ ys h.
      ap (λ xs. option_and_then (read_all read) (listed xs)) (sym (flat_map-map (λ p. 32 ∷ p) write ys))
      ∙ ap (option_and_then (read_all read)) (listed-of (map write ys) (lacks-map 32 write good clear ys h))
      ∙ read_all-map read write good r.of ys h;
}

pub numbers-reads : Reads (list_of number_of) (list_text decimal) (every is_small)
numbers-reads = list-reads number_of decimal is_small number-reads (decimal-lacks 32 refl)

pub signed_list-reads : Reads (list_of signed_of) (list_text signed_text) (every is_small_signed)
signed_list-reads = list-reads signed_of signed_text is_small_signed signed-reads (signed-lacks 32 refl refl)

abbrev pub some_text : ℕ × List ℕ → List ℕ
some_text (n, ns) = list_text decimal (n ∷ ns)

abbrev pub is_small_some : ℕ × List ℕ → Bool
is_small_some (n, ns) = every is_small (n ∷ ns)

parted-some : (ns : List ℕ) (z : ℕ × List ℕ) → parted ns ≡ Some z → z.0 ∷ z.1 ≡ ns
parted-some [] z e = cc
parted-some (n ∷ ns) z e = let same : (n, ns) ≡ z = cc in ap (λ w. w.0 ∷ w.1) (sym same)

pub some-reads : Reads some_of some_text is_small_some
some-reads = record {
  text = λ xs z e.
      let (ns, all, some) = and_then-some parted (list_of number_of xs) z e in
      let (t, s) = numbers-reads.text xs ns all in
      let same = parted-some ns z some in
      (ap (list_text decimal) same ∙ t, ap (every is_small) same ∙ s);
  of = λ (n, ns) h. ap (option_and_then parted) (numbers-reads.of (n ∷ ns) h);
}

-- a number beside something else

abbrev pub beside_text : {A : Type 0} → (A → List ℕ) → ℕ × A → List ℕ
beside_text write (n, x) = decimal n ++ 32 ∷ write x

abbrev pub is_small_beside : {A : Type 0} → (A → Bool) → ℕ × A → Bool
is_small_beside good (n, x) = is_small n && good x

pub beside-reads : {A : Type 0} (read : List ℕ → Option A) (write : A → List ℕ) (good : A → Bool)
    → Reads read write good → Reads (beside_number read) (beside_text write) (is_small_beside good)
beside-reads read write good r = record {
  text = λ xs z e.
      let ((p, q), cut, two) = and_then-some (λ (p, q). both (number_of p) (read q)) (split_at 32 xs) z e in
      let (first, second) = both-some (number_of p) (read q) z two in
      let (t, s) = number_of-text p z.0 first in
      let (u, v) = r.text q z.1 second in
      ((λ i. t i ++ 32 ∷ u i) ∙ split_at-text 32 xs p q cut, and_from (is_small z.0) (good z.1) s v);
  of = λ (n, x) h.
      let (s, v) = and_parts (is_small n) (good x) h in
      ap (option_and_then (λ (p, q). both (number_of p) (read q)))
      (split_at-of 32 (decimal n) (write x) (decimal-lacks 32 refl n s))
      ∙ (λ i. both (number_of-decimal n s i) (r.of x v i));
}

-- entries

abbrev entry_words : ShortEntry → List (List ℕ)
entry_words Kept = codes "-" ∷ []
entry_words (Ends Clashes) = codes "clash" ∷ []
entry_words (Ends (Cites k)) = codes "goal" ∷ decimal k ∷ []

abbrev awaited : Bool → List (List ℕ)
awaited true = codes "goal" ∷ []
awaited false = []

abbrev IsRead : Bool → List (List ℕ) → List ShortEntry → Type 0
IsRead b ws fs = (flat_map entry_words fs ≡ awaited b ++ ws) × (every is_small_entry fs ≡ true)

entry-next : (f : ShortEntry) (fs : List ShortEntry) (vs ws : List (List ℕ)) → is_small_entry f ≡ true
    → entry_words f ≡ vs → IsRead false ws fs → (flat_map entry_words (f ∷ fs) ≡ vs ++ ws)
    × (every is_small_entry (f ∷ fs) ≡ true)
entry-next f fs vs ws s e (t, u) = ((λ i. e i ++ t i), and_from (is_small_entry f) (every is_small_entry fs) s u)

bare_entry-text : (w : List ℕ) (f : ShortEntry) → bare_entry w ≡ Some f
    → (entry_words f ≡ w ∷ []) × (is_small_entry f ≡ true)
bare_entry-text w f e = go (is_word (codes "-") w) refl (is_word (codes "clash") w) refl e where
  go : (a : Bool) → is_word (codes "-") w ≡ a → (b : Bool) → is_word (codes "clash") w ≡ b
      → cond a (Some Kept) (cond b (Some (Ends Clashes)) None) ≡ Some f
      → (entry_words f ≡ w ∷ []) × (is_small_entry f ≡ true)
  go true p b q e =
      let same : Kept ≡ f = cc in
      subst (λ z. (entry_words z ≡ w ∷ []) × (is_small_entry z ≡ true)) same
      (ap (λ v. v ∷ []) (is_word-text (codes "-") w p), refl)
  go false p true q e =
      let same : Ends Clashes ≡ f = cc in
      subst (λ z. (entry_words z ≡ w ∷ []) × (is_small_entry z ≡ true)) same
      (ap (λ v. v ∷ []) (is_word-text (codes "clash") w q), refl)
  go false p false q e = cc

entries_on-text : (b : Bool) (ws : List (List ℕ)) (fs : List ShortEntry) → entries_on b ws ≡ Some fs → IsRead b ws fs
entries_on-text false [] fs e = let none : [] ≡ fs = cc in subst (IsRead false []) none (refl, refl)
entries_on-text true [] fs e = cc
entries_on-text true (w ∷ ws) fs e =
    let (k, number, rest) = and_then-some (λ k. option_map (λ fs. Ends (Cites k) ∷ fs) (entries_on false ws))
    (number_of w) fs e in
    let (gs, more, same) = map-some (λ fs. Ends (Cites k) ∷ fs) (entries_on false ws) fs rest in
    let (d, s) = number_of-text w k number in
    subst (IsRead true (w ∷ ws)) same
    (entry-next (Ends (Cites k)) gs (codes "goal" ∷ w ∷ []) ws s (ap (λ v. codes "goal" ∷ v ∷ []) d)
    (entries_on-text false ws gs more))
entries_on-text false (w ∷ ws) fs e =
    go (entries_on-text false ws) (entries_on-text true ws) (is_word (codes "goal") w) refl e
  where
    go : ((gs : List ShortEntry) → entries_on false ws ≡ Some gs → IsRead false ws gs)
        → ((gs : List ShortEntry) → entries_on true ws ≡ Some gs → IsRead true ws gs)
        → (b : Bool) → is_word (codes "goal") w ≡ b
        → cond b (entries_on true ws)
        (option_and_then (λ f. option_map (λ fs. f ∷ fs) (entries_on false ws)) (bare_entry w)) ≡ Some fs
        → IsRead false (w ∷ ws) fs
    go next cited true p f =
        let (t, s) = cited fs f in (t ∙ ap (λ v. v ∷ ws) (is_word-text (codes "goal") w p), s)
    go next cited false p f =
        let (one, bare, rest) = and_then-some (λ f. option_map (λ fs. f ∷ fs) (entries_on false ws)) (bare_entry w) fs f
        in
        let (gs, more, same) = map-some (λ fs. one ∷ fs) (entries_on false ws) fs rest in
        let (t, s) = bare_entry-text w one bare in
        subst (IsRead false (w ∷ ws)) same (entry-next one gs (w ∷ []) ws s t (next gs more))

entries_on-of : (fs : List ShortEntry) → every is_small_entry fs ≡ true
    → entries_on false (flat_map entry_words fs) ≡ Some fs
entries_on-of [] h = refl
entries_on-of (Kept ∷ fs) h = ap (option_map (λ gs. Kept ∷ gs)) (entries_on-of fs h)
entries_on-of (Ends Clashes ∷ fs) h = ap (option_map (λ gs. Ends Clashes ∷ gs)) (entries_on-of fs h)
entries_on-of (Ends (Cites k) ∷ fs) h =
    let (s, t) = and_parts (is_small k) (every is_small_entry fs) h in
    ap (option_and_then (λ k. option_map (λ fs. Ends (Cites k) ∷ fs) (entries_on false (flat_map entry_words fs))))
    (number_of-decimal k s)
    ∙ ap (option_map (λ gs. Ends (Cites k) ∷ gs)) (entries_on-of fs t)

entries-words : (fs : List ShortEntry)
    → flat_map (λ p. 32 ∷ p) (flat_map entry_words fs) ≡ list_text entry_text fs
entries-words [] = refl
entries-words (Kept ∷ fs) = ap (λ ys. codes " -" ++ ys) (entries-words fs)
entries-words (Ends Clashes ∷ fs) = ap (λ ys. codes " clash" ++ ys) (entries-words fs)
entries-words (Ends (Cites k) ∷ fs) =
    ap (λ ys. codes " goal " ++ (decimal k ++ ys)) (entries-words fs)
    ∙ ap (λ ys. codes " goal " ++ ys) refl

entries-lack : (fs : List ShortEntry) → every is_small_entry fs ≡ true
    → every (lacks 32) (flat_map entry_words fs) ≡ true
entries-lack [] h = refl
entries-lack (Kept ∷ fs) h = entries-lack fs h
entries-lack (Ends Clashes ∷ fs) h = entries-lack fs h
entries-lack (Ends (Cites k) ∷ fs) h =
    let (s, t) = and_parts (is_small k) (every is_small_entry fs) h in
    and_from (lacks 32 (decimal k)) _ (decimal-lacks 32 refl k s) (entries-lack fs t)

pub entries-reads : Reads entries_of (list_text entry_text) (every is_small_entry)
entries-reads = record {
  text = λ xs fs e.
      let (ws, cut, all) = and_then-some (entries_on false) (listed xs) fs e in
      let (t, s) = entries_on-text false ws fs all in
      (sym (entries-words fs) ∙ ap (flat_map (λ p. 32 ∷ p)) t ∙ listed-text xs ws cut, s);
  of = λ fs h.
      ap (λ xs. option_and_then (entries_on false) (listed xs)) (sym (entries-words fs))
      ∙ ap (option_and_then (entries_on false)) (listed-of (flat_map entry_words fs) (entries-lack fs h))
      ∙ entries_on-of fs h;
}
