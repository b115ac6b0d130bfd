-- What bytes are read as: one table at most, or one line at which they stop being the beginning of one.
use Rattle.std.proofs.Common.{◌≡◌, ◌⊎◌, inl, inr, ℕ, zero, suc, ◌+◌, ◌-◌, ◌<◌, ◌≤◌, List, [], ◌∷◌, ◌++◌, length, true, refl, sym, ap, ap₂, ◌∙◌, subst, arith, append_assoc, append-nil}
use Rattle.std.proofs.lemmas.Bool.{cases_eq, cases_lt, eq-eqb, ne_eqb, and_parts, and_from}
use Rattle.std.proofs.lemmas.List.{length-append}
use Rattle.documents.specs.Tests.{every}
use Rattle.shared_documents.specs.Part.{Part, IsPart, null, is_table, part_at}
use Rattle.shared_documents.proofs.Laws.{part_at-table, is_table-pushed}
use Rattle.document_texts.specs.PartsText.{line_text, lines_text, count_text, parts_text}
use Rattle.document_texts.specs.PartsRead.{is_named, is_told, IsRead, Begins, line_feeds, first_lines, IsFault}
use Rattle.document_text_laws.specs.Lines.{Within, FirstLine}
use Rattle.document_text_laws.proofs.PartLaws.{same-line, same-count, same-table}
use Rattle.document_text_laws.proofs.LineLaws.{Whole, whole-append, whole-line, line-whole, count-whole, lines-whole}
use Rattle.list_laws.proofs.Numbers.{suc_add-add_suc}
use Rattle.list_laws.proofs.Every.{every_joined}

-- ---- one table for each text, one line for each fault

pub read-same : (ps qs : List Part) (bytes : List ℕ) → IsRead ps bytes → IsRead qs bytes → ps ≡ qs
read-same ps qs bytes p q = same-table ps qs p.few q.few p.told q.told (p.text ∙ sym q.text)

-- fewer lines are the beginning of more of them
record Longer (few many : List ℕ) : Type 0 where
  others : List ℕ
  is : few ++ others ≡ many

longer : (m n : ℕ) (bs : List ℕ) → m ≤ n → Longer (first_lines m bs) (first_lines n bs)
longer zero n bs l = record { others = first_lines n bs; is = refl }
longer (suc m) zero bs l = absurd (omega (arith, l))
longer (suc m) (suc n) [] l = record { others = []; is = refl }
longer (suc m) (suc n) (b ∷ bs) l = elim (cases_eq b 10) [
  | inl e ↦
      let rest = longer m n bs (omega (arith, l)) in
      rw (eq-eqb b 10 e) (record { others = rest.others; is = ap (λ xs. b ∷ xs) rest.is })
  | inr ne ↦
      let rest = longer (suc m) (suc n) bs l in
      rw (ne_eqb b 10 ne) (record { others = rest.others; is = ap (λ xs. b ∷ xs) rest.is })
]

-- what is longer than no beginning is none
shorter-begins : (few many : List ℕ) → Longer few many → Begins many → Begins few
shorter-begins few many l b = record {
  parts = b.parts;
  behind = l.others ++ b.behind;
  read = subst (IsRead b.parts) (ap (λ xs. xs ++ b.behind) (sym l.is) ∙ append_assoc few l.others b.behind) b.read;
}

earlier : (l m : ℕ) (bytes : List ℕ) → IsFault l bytes → IsFault m bytes → l < m → ⊥
earlier l m bytes f g less =
    let within : l ≤ g.before = omega (arith, less, g.number) in
    f.ends (omega (arith, within, g.whole))
    (shorter-begins (first_lines l bytes) (first_lines g.before bytes) (longer l g.before bytes within) g.begins)

pub fault-same : (l m : ℕ) (bytes : List ℕ) → IsFault l bytes → IsFault m bytes → l ≡ m
fault-same l m bytes f g = elim (cases_lt l m) [
  | inl less ↦ absurd (earlier l m bytes f g less)
  | inr le ↦ elim (cases_lt m l) [
    | inl less ↦ absurd (earlier m l bytes g f less)
    | inr ge ↦ omega (arith, le, ge)
  ]
]

-- ---- the parts of a text, one after another

small : (k : ℕ) → k < 4294967296 → is_named k ≡ true
small k l = grind (arith, l)

-- the text of more parts, from those of some of them
record Goes (i : ℕ) (ps qs : List Part) (more : List ℕ) : Type 0 where
  others : List Part
  is : qs ≡ ps ++ others
  text : more ≡ lines_text (i + length ps) others

goes-on : (i : ℕ) (ps qs : List Part) (more : List ℕ) → i + length qs ≤ 4294967296 → length ps ≤ length qs
    → every is_told ps ≡ true → every is_told qs ≡ true → lines_text i ps ++ more ≡ lines_text i qs → Goes i ps qs more
goes-on i [] qs more l size hp hq e = record {
  others = qs;
  is = refl;
  text = e ∙ ap (λ k. lines_text k qs) (omega arith);
}
goes-on i (p ∷ ps) [] more l size hp hq e = absurd (omega (arith, size))
goes-on i (p ∷ ps) (q ∷ qs) more l size hp hq e =
    let gp = and_parts (is_told p) (every is_told ps) hp in
    let gq = and_parts (is_told q) (every is_told qs) hq in
    let here = small i (omega (arith, l)) in
    let one = same-line i i p q (lines_text (suc i) ps ++ more) (lines_text (suc i) qs) here here gp.0 gq.0
    (sym (append_assoc (line_text i p) (lines_text (suc i) ps) more) ∙ e) in
    let rest = goes-on (suc i) ps qs more (omega (arith, l)) (omega (arith, size)) gp.1 gq.1 one.1.1 in
    record {
      others = rest.others;
      is = ap₂ (λ x xs. x ∷ xs) (sym one.1.0) rest.is;
      text = rest.text ∙ ap (λ k. lines_text k rest.others) (suc_add-add_suc i (length ps));
    }

-- ---- what is known while a text is read

lines-append : (i k : ℕ) (ps qs : List Part) → k ≡ i + length ps
    → lines_text i (ps ++ qs) ≡ lines_text i ps ++ lines_text k qs
lines-append i k [] qs e = ap (λ n. lines_text n qs) (omega (arith, e))
lines-append i k (p ∷ ps) qs e =
    ap (λ xs. line_text i p ++ xs) (lines-append (suc i) k ps qs (omega (arith, e)))
    ∙ sym (append_assoc (line_text i p) (lines_text (suc i) ps) (lines_text k qs))

-- so many parts are to come, these came, and so much is left
pub record Reading (count : ℕ) (ps : List Part) (left bytes : List ℕ) : Type 0 where
  pub table : is_table ps ≡ true
  pub told : every is_told ps ≡ true
  pub some : 0 < count
  pub few : count ≤ 4294967295
  pub within : length ps ≤ count
  pub text : count_text count ++ (lines_text 0 ps ++ left) ≡ bytes

pub reading-next : (n : ℕ) (ps : List Part) (p : Part) (line left rest bytes : List ℕ) → Reading n ps rest bytes
    → length ps < n → line ++ left ≡ rest → line ≡ line_text (length ps) p → IsPart (length ps) p → is_told p ≡ true
    → Reading n (ps ++ p ∷ []) left bytes
reading-next n ps p line left rest bytes r less cut is part told =
    let k = length ps in
    let one : lines_text k (p ∷ []) ≡ line_text k p = append-nil (line_text k p) in
    let lines : lines_text 0 (ps ++ p ∷ []) ≡ lines_text 0 ps ++ line_text k p =
    lines-append 0 k ps (p ∷ []) (omega arith) ∙ ap (λ xs. lines_text 0 ps ++ xs) one in
    record {
      table = is_table-pushed ps p r.table part;
      told = every_joined is_told ps (p ∷ []) r.told (and_from (is_told p) true told refl);
      some = r.some;
      few = r.few;
      within = omega (arith, length-append ps (p ∷ []), less);
      text = ap (λ xs. count_text n ++ (xs ++ left)) lines
          ∙ ap (λ xs. count_text n ++ xs) (append_assoc (lines_text 0 ps) (line_text k p) left)
          ∙ ap (λ xs. count_text n ++ (lines_text 0 ps ++ xs)) (ap (λ xs. xs ++ left) (sym is) ∙ cut)
          ∙ r.text;
    }

pub reading-ends : (n : ℕ) (ps : List Part) (bytes : List ℕ) → Reading n ps [] bytes → n ≤ length ps → IsRead ps bytes
reading-ends n ps bytes r all =
    let size : n ≡ length ps = omega (arith, all, r.within) in
    record {
      table = r.table;
      told = r.told;
      some = omega (arith, size, r.some);
      few = omega (arith, size, r.few);
      text = ap (λ k. count_text k ++ lines_text 0 ps) (sym size)
          ∙ ap (λ xs. count_text n ++ xs) (sym (append-nil (lines_text 0 ps))) ∙ r.text;
    }

-- ---- faults

-- what was read begins a text: whatever parts come
record Filled (k : ℕ) (ps : List Part) : Type 0 where
  others : List Part
  size : length others ≡ k
  table : is_table (ps ++ others) ≡ true
  told : every is_told others ≡ true

filled : (k : ℕ) (ps : List Part) → is_table ps ≡ true → Filled k ps
filled zero ps h = record {
  others = [];
  size = refl;
  table = ap is_table (append-nil ps) ∙ h;
  told = refl;
}
filled (suc k) ps h =
    let rest = filled k (ps ++ null ∷ []) (is_table-pushed ps null h (record { below = refl; rises = refl })) in
    record {
      others = null ∷ rest.others;
      size = ap suc rest.size;
      table = ap is_table (sym (append_assoc ps (null ∷ []) rest.others)) ∙ rest.table;
      told = rest.told;
    }

-- the whole lines of what was read
abbrev front_of : ℕ → List Part → List ℕ
front_of n ps = count_text n ++ lines_text 0 ps

front-whole : (n : ℕ) (ps : List Part) (left bytes : List ℕ) → Reading n ps left bytes
    → Whole (suc (length ps)) (front_of n ps)
front-whole n ps left bytes r =
    whole-append 1 (length ps) (suc (length ps)) (count_text n) (lines_text 0 ps) (omega arith)
    (count-whole n r.few) (lines-whole 0 ps (omega (arith, r.within, r.few)) r.told)

front-begins : (n : ℕ) (ps : List Part) (left bytes : List ℕ) → Reading n ps left bytes → Begins (front_of n ps)
front-begins n ps left bytes r =
    let more = filled (n - length ps) ps r.table in
    let size : length (ps ++ more.others) ≡ n = omega (arith, length-append ps more.others, more.size, r.within) in
    record {
      parts = ps ++ more.others;
      behind = lines_text (length ps) more.others;
      read = record {
        table = more.table;
        told = every_joined is_told ps more.others r.told more.told;
        some = omega (arith, size, r.some);
        few = omega (arith, size, r.few);
        text = ap (λ k. count_text k ++ lines_text 0 (ps ++ more.others)) size
            ∙ ap (λ xs. count_text n ++ xs) (lines-append 0 (length ps) ps more.others (omega arith))
            ∙ sym (append_assoc (count_text n) (lines_text 0 ps) (lines_text (length ps) more.others));
      };
    }

-- two first lines of the same bytes are the same
first-same : (line more t u : List ℕ) → FirstLine line more (line ++ more) → Whole 1 t → line ++ more ≡ t ++ u
    → line ≡ t
first-same line more t u f w e = go f.ends where
  go : ((front : List ℕ) × (line ≡ front ++ 10 ∷ []) × Within front) ⊎ ((more ≡ []) × Within line) → line ≡ t
  go (inl (front, is, within)) =
      let whole : Whole 1 line = subst (Whole 1) (sym is) (whole-line front within) in
      sym (append-nil line) ∙ sym (whole.lines 0 1 more (omega arith)) ∙ ap (first_lines 1) e
      ∙ w.lines 0 1 u (omega arith) ∙ append-nil t
  go (inr (none, within)) =
      let zero : line_feeds (line ++ more) ≡ 0 = within.feeds more ∙ ap line_feeds none in
      absurd (omega (arith, sym zero ∙ ap line_feeds e ∙ w.feeds u))

-- the part that a text has next
record Next (k : ℕ) (line : List ℕ) : Type 0 where
  part : Part
  is : IsPart k part
  told : is_told part ≡ true
  line_is : line ≡ line_text k part

at-append : (ps : List Part) (p : Part) (qs : List Part) → part_at (ps ++ p ∷ qs) (length ps) ≡ p
at-append [] p qs = refl
at-append (q ∷ ps) p qs = at-append ps p qs

told-at : (ps : List Part) (p : Part) (qs : List Part) → every is_told (ps ++ p ∷ qs) ≡ true → is_told p ≡ true
told-at [] p qs h = (and_parts (is_told p) (every is_told qs) h).0
told-at (q ∷ ps) p qs h = told-at ps p qs ((and_parts (is_told q) (every is_told (ps ++ p ∷ qs)) h).1)

module _ (n : ℕ) (ps : List Part) (left bytes : List ℕ) (r : Reading n ps left bytes) where
  -- the parts of a text that begins with what was read
  parts-behind : (qs : List Part) (more whole : List ℕ) → IsRead qs whole → whole ≡ front_of n ps ++ more
      → (length qs ≡ n) × Goes 0 ps qs more
  parts-behind qs more whole read is =
      let count = same-count (length qs) n (lines_text 0 qs) (lines_text 0 ps ++ more) read.few r.few
      (read.text ∙ is ∙ append_assoc (count_text n) (lines_text 0 ps) more) in (
        count.0,
        goes-on 0 ps qs more (omega (arith, read.few)) (omega (arith, count.0, r.within)) r.told read.told
            (sym count.1),
      )

  next-part : (qs : List Part) (line more whole : List ℕ) → length ps < n → FirstLine line more (line ++ more)
      → IsRead qs whole → whole ≡ front_of n ps ++ (line ++ more) → Next (length ps) line
  next-part qs line more whole less first read is =
      let behind = parts-behind qs (line ++ more) whole read is in
      go behind.0 behind.1.others behind.1.is behind.1.text
    where
      go : length qs ≡ n → (others : List Part) → qs ≡ ps ++ others → line ++ more ≡ lines_text (0 + length ps) others
          → Next (length ps) line
      go size [] e t = absurd (omega (arith, size, ap length (e ∙ append-nil ps), less))
      go size (p ∷ os) e t =
          let k = length ps in
          let table : is_table (ps ++ p ∷ os) ≡ true = ap is_table (sym e) ∙ read.table in
          let within : k < length (ps ++ p ∷ os) = omega (arith, length-append ps (p ∷ os)) in
          let told : is_told p ≡ true = told-at ps p os (ap (every is_told) (sym e) ∙ read.told) in
          let here : is_named k ≡ true = small k (omega (arith, less, r.few)) in
          record {
            part = p;
            is = subst (IsPart k) (at-append ps p os) (part_at-table (ps ++ p ∷ os) k table within);
            told = told;
            line_is = first-same line more (line_text k p) (lines_text (suc k) os) first (line-whole k p here told)
                (t ∙ ap (λ i. lines_text i (p ∷ os)) (omega arith));
          }

  bytes-cut : bytes ≡ front_of n ps ++ left
  bytes-cut = sym r.text ∙ sym (append_assoc (count_text n) (lines_text 0 ps) left)

  feeds-cut : line_feeds bytes ≡ suc (length ps) + line_feeds left
  feeds-cut = ap line_feeds bytes-cut ∙ (front-whole n ps left bytes r).feeds left

  lines-cut : (m k : ℕ) → k ≡ suc (length ps) + m → first_lines k bytes ≡ front_of n ps ++ first_lines m left
  lines-cut m k e = ap (first_lines k) bytes-cut ∙ (front-whole n ps left bytes r).lines m k left e

  front-cut : Begins (first_lines (suc (length ps)) bytes)
  front-cut =
      subst Begins (sym (lines-cut 0 (suc (length ps)) (omega arith) ∙ append-nil (front_of n ps)))
      (front-begins n ps left bytes r)

  -- no part has the line that comes next
  pub fault-line : (line more : List ℕ) → length ps < n → FirstLine line more left
      → ((p : Part) → IsPart (length ps) p → is_told p ≡ true → line ≡ line_text (length ps) p → ⊥)
      → IsFault (suc (suc (length ps))) bytes
  fault-line line more less first other = record {
    before = suc (length ps);
    number = refl;
    whole = omega (arith, feeds-cut);
    begins = front-cut;
    ends = λ l b. ended l b first.ends;
    none = λ qs read. none (next-part qs line more bytes less cut read
        (bytes-cut ∙ ap (λ xs. front_of n ps ++ xs) (sym first.text)));
  } where
    none : Next (length ps) line → ⊥
    none x = other x.part x.is x.told x.line_is

    cut : FirstLine line more (line ++ more)
    cut = record { text = refl; ends = first.ends }

    ended : suc (suc (length ps)) ≤ line_feeds bytes → Begins (first_lines (suc (suc (length ps))) bytes)
        → ((front : List ℕ) × (line ≡ front ++ 10 ∷ []) × Within front) ⊎ ((more ≡ []) × Within line) → ⊥
    ended l b (inl (front, is, within)) =
        let whole : Whole 1 line = subst (Whole 1) (sym is) (whole-line front within) in
        let one : first_lines 1 left ≡ line =
        ap (first_lines 1) (sym first.text) ∙ whole.lines 0 1 more (omega arith) ∙ append-nil line in
        none (next-part b.parts line b.behind (first_lines (suc (suc (length ps))) bytes ++ b.behind) less
        (record { text = refl; ends = inl (front, is, within) }) b.read
        (ap (λ xs. xs ++ b.behind) (lines-cut 1 (suc (suc (length ps))) (omega arith)
        ∙ ap (λ xs. front_of n ps ++ xs) one) ∙ append_assoc (front_of n ps) line b.behind))
    ended l b (inr (nothing, within)) =
        let zero : line_feeds left ≡ 0 =
        ap line_feeds (sym first.text) ∙ within.feeds more ∙ ap line_feeds nothing in
        omega (arith, l, feeds-cut, zero)

  -- bytes behind the last part
  no-more : (qs : List Part) (more whole : List ℕ) → n ≤ length ps → IsRead qs whole → whole ≡ front_of n ps ++ more
      → more ≡ []
  no-more qs more whole all read is =
      let behind = parts-behind qs more whole read is in
      go behind.0 behind.1.others behind.1.is behind.1.text
    where
      go : length qs ≡ n → (others : List Part) → qs ≡ ps ++ others → more ≡ lines_text (0 + length ps) others
          → more ≡ []
      go size [] e t = t
      go size (p ∷ os) e t =
          absurd (omega (arith, size, ap length e ∙ length-append ps (p ∷ os), all))

  pub fault-more : n ≤ length ps → (left ≡ [] → ⊥) → IsFault (suc (suc n)) bytes
  fault-more all some =
      let size : n ≡ length ps = omega (arith, all, r.within) in
      subst (λ k. IsFault (suc (suc k)) bytes) (sym size) (record {
        before = suc (length ps);
        number = refl;
        whole = omega (arith, feeds-cut);
        begins = front-cut;
        ends = λ l b. some (first-none left (none-left (first_lines 1 left) b.behind
            (no-more b.parts (first_lines 1 left ++ b.behind)
            (first_lines (suc (suc (length ps))) bytes ++ b.behind) all
            b.read (ap (λ xs. xs ++ b.behind) (lines-cut 1 (suc (suc (length ps))) (omega arith))
            ∙ append_assoc (front_of n ps) (first_lines 1 left) b.behind))));
        none = λ qs read. some (no-more qs left bytes all read bytes-cut);
      })
    where
      none-left : (xs ys : List ℕ) → xs ++ ys ≡ [] → xs ≡ []
      none-left [] ys e = refl
      none-left (x ∷ xs) ys e = absurd (omega (arith, ap length e))

      first-none : (xs : List ℕ) → first_lines 1 xs ≡ [] → xs ≡ []
      first-none [] e = refl
      first-none (x ∷ xs) e = absurd (omega (arith, ap length e))

one_part : IsRead (null ∷ []) (parts_text (null ∷ []))
one_part = record { table = refl; told = refl; some = omega arith; few = omega arith; text = refl }

-- the first line counts no parts
pub fault-count : (line more bytes : List ℕ) → FirstLine line more bytes
    → ((n : ℕ) → 0 < n → n ≤ 4294967295 → line ≡ count_text n → ⊥) → IsFault 1 bytes
fault-count line more bytes first other = record {
  before = 0;
  number = refl;
  whole = omega arith;
  begins = record { parts = null ∷ []; behind = parts_text (null ∷ []); read = one_part };
  ends = λ l b. ended l b first.ends;
  none = λ qs read. counts qs more bytes (record { text = refl; ends = first.ends }) read (sym first.text);
} where
  counts : (qs : List Part) (more whole : List ℕ) → FirstLine line more (line ++ more) → IsRead qs whole
      → whole ≡ line ++ more → ⊥
  counts qs more whole first read is =
      other (length qs) read.some read.few
      (first-same line more (count_text (length qs)) (lines_text 0 qs) first (count-whole (length qs) read.few)
      (sym is ∙ sym read.text))

  ended : 1 ≤ line_feeds bytes → Begins (first_lines 1 bytes)
      → ((front : List ℕ) × (line ≡ front ++ 10 ∷ []) × Within front) ⊎ ((more ≡ []) × Within line) → ⊥
  ended l b (inl (front, is, within)) =
      let whole : Whole 1 line = subst (Whole 1) (sym is) (whole-line front within) in
      let one : first_lines 1 bytes ≡ line =
      ap (first_lines 1) (sym first.text) ∙ whole.lines 0 1 more (omega arith) ∙ append-nil line in
      counts b.parts b.behind (first_lines 1 bytes ++ b.behind)
      (record { text = refl; ends = inl (front, is, within) }) b.read (ap (λ xs. xs ++ b.behind) one)
  ended l b (inr (nothing, within)) =
      let zero : line_feeds bytes ≡ 0 =
      ap line_feeds (sym first.text) ∙ within.feeds more ∙ ap line_feeds nothing in
      omega (arith, l, zero)
