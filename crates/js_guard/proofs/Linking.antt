-- One edge more is linked, and the sources of an entry are read off.
use Rattle.std.proofs.Common.{◌≡◌, ℕ, zero, suc, ◌+◌, ◌<◌, ◌≤◌, ◌⊎◌, List, [], ◌∷◌, ◌++◌, map, take, drop, length, get_or, set, replicate, inl, inr, true, false, nat_eq, refl, sym, ap, ◌∙◌, subst, add-one, arith, true≢false}
use Rattle.std.proofs.lemmas.Bool.{cases_eq, cases_lt, or_cases, or_left, or_right, eqb-true, eq-eqb}
use Rattle.std.proofs.lemmas.List.{length-set, get_or-set_same, get_or-set_other, append_assoc, take_more, drop_more, take_all, map-append, get_or_past, get_or-replicate, length-replicate}
use Rattle.schemas.specs.Guarded.{targets, is_among}
use Rattle.js_guard.specs.declared.reverse.Source.{Source}
use Rattle.js_guard.specs.Rows.{AreClosed}
use Rattle.js_guard.specs.Linked.{pairs, pair_at, source_at, IsUpToLast, IsLinked, HasSources, AreReversed}
use Rattle.js_guard.proofs.Pushes.{push-length, push-old, push-new, push-cases}

abbrev no_pair : ℕ × ℕ
no_pair = (0, 0)

abbrev pub no_source : Source
no_source = record { entry = 0; before = 0 }

module _ (L : List (ℕ × ℕ)) (y : ℕ × ℕ) where
  abbrev L' : List (ℕ × ℕ)
  L' = L ++ y ∷ []

  pair-old : (e : ℕ) → e < length L → pair_at L' e ≡ pair_at L e
  pair-old e h = push-old L y no_pair e h

  -- among the edges there were
  upto-more : (k t p : ℕ) → k ≤ length L → IsUpToLast L k t p → IsUpToLast L' k t p
  upto-more k t p h u = record {
    within = u.within;
    none_after = λ e low high same.
        (let inside : e < length L = omega arith in
        u.none_after e low high (sym (ap (λ l. l.1) (pair-old e inside)) ∙ same));
    last = λ q f.
        (let w = u.within in
        let inside : q < length L = omega (arith, f) in
        ap (λ l. l.1) (pair-old q inside) ∙ u.last q f);
  }

  -- one more edge that leads elsewhere
  upto-other : (t p : ℕ) → (y.1 ≡ t → ⊥) → IsUpToLast L (length L) t p → IsUpToLast L' (length L') t p
  upto-other t p other u =
      let old = upto-more (length L) t p (omega arith) u in
      record {
        within = (let w = u.within in omega (arith, push-length L y no_pair));
        none_after = λ e low high same.
            elim (push-cases L y no_pair e high) [
              | inl l ↦ old.none_after e low l same
              | inr f ↦ other (sym (ap (λ l. l.1) (ap (pair_at L') f ∙ push-new L y no_pair)) ∙ same)
            ];
        last = old.last;
      }

  -- one more edge that leads there
  upto-here : (t p : ℕ) → y.1 ≡ t → p ≡ length L + 1 → IsUpToLast L' (length L') t p
  upto-here t p same f = record {
    within = omega (arith, push-length L y no_pair);
    none_after = λ e low high k. omega (arith, push-length L y no_pair);
    last = λ q g.
        (let top : q ≡ length L = omega arith in
        ap (λ l. l.1) (ap (pair_at L') top ∙ push-new L y no_pair) ∙ same);
  }

module _ (L : List (ℕ × ℕ)) (n : ℕ) (last : List ℕ) (E : List Source) (x t : ℕ) (h : IsLinked L n last E)
    (inside : t < n) where
  abbrev y : ℕ × ℕ
  y = (x, t)

  abbrev edge : Source
  edge = record { entry = x; before = get_or last t 0 }

  abbrev E' : List Source
  E' = E ++ edge ∷ []

  abbrev last' : List ℕ
  last' = set last t (length E + 1)

  source-old : (e : ℕ) → e < length L → source_at E' e ≡ source_at E e
  source-old e l = push-old E edge no_source e (let same = h.same_length in omega arith)

  source-new : (e : ℕ) → e ≡ length L → source_at E' e ≡ edge
  source-new e f =
      let top : e ≡ length E = (let same = h.same_length in omega arith) in
      ap (source_at E') top ∙ push-new E edge no_source

  linked-sources : (e : ℕ) → e < length (L' L y) → (source_at E' e).entry ≡ (pair_at (L' L y) e).0
  linked-sources e l =
      elim (push-cases L y no_pair e l) [
        | inl m ↦
            ap (λ s. s.entry) (source-old e m) ∙ h.sources e m ∙ sym (ap (λ l. l.0) (pair-old L y e m))
        | inr f ↦
            ap (λ s. s.entry) (source-new e f) ∙ sym (ap (λ l. l.0) (ap (pair_at (L' L y)) f ∙ push-new L y no_pair))
      ]

  linked-last_at : (u : ℕ) → u < n → IsUpToLast (L' L y) (length (L' L y)) u (get_or last' u 0)
  linked-last_at u l =
      elim (cases_eq u t) [
        | inl e ↦
            let heads = h.heads in
            let size = h.same_length in
            let now : get_or last' u 0 ≡ length E + 1 =
            ap (λ v. get_or last' v 0) e ∙ get_or-set_same last t (length E + 1) 0 (omega arith) in
            upto-here L y u (get_or last' u 0) (sym e) (omega arith)
        | inr ne ↦
            subst (λ p. IsUpToLast (L' L y) (length (L' L y)) u p)
            (sym (get_or-set_other last t u (length E + 1) 0 ne))
            (upto-other L y u (get_or last u 0) (λ e. ne (sym e)) (h.last_at u l))
      ]

  linked-before_at : (e : ℕ) → e < length (L' L y)
      → IsUpToLast (L' L y) e (pair_at (L' L y) e).1 (source_at E' e).before
  linked-before_at e l =
      elim (push-cases L y no_pair e l) [
        | inl m ↦
            subst (λ p. IsUpToLast (L' L y) e p.1 (source_at E' e).before) (sym (pair-old L y e m))
            (subst (λ s. IsUpToLast (L' L y) e (pair_at L e).1 s.before) (sym (source-old e m))
            (upto-more L y e (pair_at L e).1 (source_at E e).before (omega arith) (h.before_at e m)))
        | inr f ↦
            subst (λ p. IsUpToLast (L' L y) e p.1 (source_at E' e).before)
            (sym (ap (pair_at (L' L y)) f ∙ push-new L y no_pair))
            (subst (λ s. IsUpToLast (L' L y) e t s.before) (sym (source-new e f))
            (subst (λ k. IsUpToLast (L' L y) k t (get_or last t 0)) (sym f)
            (upto-more L y (length L) t (get_or last t 0) (omega arith) (h.last_at t inside))))
      ]

  pub linked-push : IsLinked (L ++ (x, t) ∷ []) n last' E'
  linked-push = record {
    heads = length-set last t (length E + 1) ∙ h.heads;
    same_length = (let size = h.same_length in omega (arith, push-length E edge no_source, push-length L y no_pair));
    sources = linked-sources;
    last_at = linked-last_at;
    before_at = linked-before_at;
  }

pub linked-none : (n : ℕ) (last : List ℕ) → length last ≡ n → ((t : ℕ) → get_or last t 0 ≡ 0) → IsLinked [] n last []
linked-none n last size none = record {
  heads = size;
  same_length = refl;
  sources = λ e h. absurd (omega (arith, h));
  last_at = λ t h. record {
    within = omega (arith, none t);
    none_after = λ e low high same. omega (arith, high);
    last = λ q f. absurd (omega (arith, none t));
  };
  before_at = λ e h. absurd (omega (arith, h));
}

-- one more in a list

pub among-push : (x y : ℕ) (row : List ℕ) → is_among x row ≡ true → is_among x (row ++ y ∷ []) ≡ true
among-push x y [] h = absurd (true≢false (sym h))
among-push x y (z ∷ row) h =
    elim (or_cases (nat_eq z x) (is_among x row) h) [
      | inl e ↦ or_left (nat_eq z x) _ e
      | inr k ↦ or_right (nat_eq z x) _ (among-push x y row k)
    ]

pub among-new : (y : ℕ) (row : List ℕ) → is_among y (row ++ y ∷ []) ≡ true
among-new y [] = or_left (nat_eq y y) _ (eq-eqb y y refl)
among-new y (z ∷ row) = or_right (nat_eq z y) _ (among-new y row)

pub among-cases : (x y : ℕ) (row : List ℕ) → is_among x (row ++ y ∷ []) ≡ true → (is_among x row ≡ true) ⊎ (y ≡ x)
among-cases x y [] h =
    elim (or_cases (nat_eq y x) false h) [ inl e ↦ inr (eqb-true y x e) | inr none ↦ absurd (true≢false (sym none)) ]
among-cases x y (z ∷ row) h =
    elim (or_cases (nat_eq z x) (is_among x (row ++ y ∷ [])) h) [
      | inl e ↦ inl (or_left (nat_eq z x) _ e)
      | inr k ↦ elim (among-cases x y row k) [ inl e ↦ inl (or_right (nat_eq z x) _ e) | inr e ↦ inr e ]
    ]

-- the sources that are read: those of the edges from place p on, where the edge before p leads to t

pub record IsReading (L : List (ℕ × ℕ)) (t p : ℕ) (row : List ℕ) : Type 0 where
  pub sources : HasSources L t p row
  pub last : (q : ℕ) → p ≡ suc q → (pair_at L q).1 ≡ t

module _ (L : List (ℕ × ℕ)) (n : ℕ) (last : List ℕ) (E : List Source) (h : IsLinked L n last E) where
  pub last-within : (t : ℕ) → t < n → get_or last t 0 ≤ length E
  last-within t l = let u = h.last_at t l in let w = u.within in let size = h.same_length in omega arith

  pub before-within : (e : ℕ) → e < length E → (source_at E e).before ≤ e
  before-within e l =
      let u = h.before_at e (let size = h.same_length in omega arith) in u.within

  pub reading-more : (t q : ℕ) (row : List ℕ) → q < length E → IsReading L t (suc q) row
      → IsReading L t (source_at E q).before (row ++ (source_at E q).entry ∷ [])
  reading-more t q row l r =
      let inside : q < length L = (let size = h.same_length in omega arith) in
      let here = r.last q refl in
      let x = (source_at E q).entry in
      let source = h.sources q inside in
      let u = h.before_at q inside in
      record {
        sources = record {
          all = λ e low high same.
              elim (cases_eq e q) [
                | inl f ↦
                    subst (λ z. is_among z (row ++ x ∷ []) ≡ true) (source ∙ ap (λ i. (pair_at L i).0) (sym f))
                    (among-new x row)
                | inr ne ↦ elim (cases_lt e q) [
                  | inl before ↦ absurd (u.none_after e low before (same ∙ sym here))
                  | inr after ↦ among-push (pair_at L e).0 x row (r.sources.all e (omega arith) high same)
                ]
              ];
          only = λ z k.
              elim (among-cases z x row k) [
                | inl old ↦ r.sources.only z old
                | inr f ↦ (q, inside, sym source ∙ f, here)
              ];
        };
        last = λ i f. u.last i f ∙ here;
      }

-- the pairs of a graph

pairs-row : (k : ℕ) (ts : List ℕ) (L : List (ℕ × ℕ)) (y : ℕ) → is_among y ts ≡ true
    → (e : ℕ) × (e < length (map (λ t. (k, t)) ts ++ L)) × (pair_at (map (λ t. (k, t)) ts ++ L) e ≡ (k, y))
pairs-row k [] L y h = absurd (true≢false (sym h))
pairs-row k (t ∷ ts) L y h =
    elim (or_cases (nat_eq t y) (is_among y ts) h) [
      | inl e ↦ (0, omega arith, ap (λ z. (k, z)) (eqb-true t y e))
      | inr m ↦ let later = pairs-row k ts L y m in (suc later.0, (let l = later.1 in omega arith), later.2)
    ]

skip-row : (k : ℕ) (ts : List ℕ) (L : List (ℕ × ℕ)) (e : ℕ) → e < length L
    → (f : ℕ) × (f < length (map (λ t. (k, t)) ts ++ L)) × (pair_at (map (λ t. (k, t)) ts ++ L) f ≡ pair_at L e)
skip-row k [] L e h = (e, h, refl)
skip-row k (t ∷ ts) L e h = let later = skip-row k ts L e h in (suc later.0, (let l = later.1 in omega arith), later.2)

pub pairs-has : (k : ℕ) (g : List (List ℕ)) (x y : ℕ) → is_among y (targets g x) ≡ true
    → (e : ℕ) × (e < length (pairs k g)) × (pair_at (pairs k g) e ≡ (k + x, y))
pairs-has k [] x y h = absurd (true≢false (sym h))
pairs-has k (ts ∷ g) zero y h =
    let here = pairs-row k ts (pairs (suc k) g) y h in
    let same : k ≡ k + 0 = omega arith in
    (here.0, here.1, here.2 ∙ ap (λ z. (z, y)) same)
pairs-has k (ts ∷ g) (suc x) y h =
    let later = pairs-has (suc k) g x y h in
    let there = skip-row k ts (pairs (suc k) g) later.0 later.1 in
    let same : suc k + x ≡ k + suc x = omega arith in
    (there.0, there.1, there.2 ∙ later.2 ∙ ap (λ z. (z, y)) same)

in-row : (k : ℕ) (ts : List ℕ) (L : List (ℕ × ℕ)) (e : ℕ) → e < length (map (λ t. (k, t)) ts ++ L)
    → (((pair_at (map (λ t. (k, t)) ts ++ L) e).0 ≡ k)
    × (is_among (pair_at (map (λ t. (k, t)) ts ++ L) e).1 ts ≡ true))
    ⊎ ((f : ℕ) × (f < length L) × (pair_at (map (λ t. (k, t)) ts ++ L) e ≡ pair_at L f))
in-row k [] L e h = inr (e, h, refl)
in-row k (t ∷ ts) L zero h = inl (refl, or_left (nat_eq t t) _ (eq-eqb t t refl))
in-row k (t ∷ ts) L (suc e) h =
    elim (in-row k ts L e (omega arith)) [
      | inl (a, b) ↦ inl (a, or_right (nat_eq t (pair_at (map (λ t. (k, t)) ts ++ L) e).1) _ b)
      | inr later ↦ inr later
    ]

pub pairs-only : (k : ℕ) (g : List (List ℕ)) (e : ℕ) → e < length (pairs k g)
    → (x : ℕ) × ((pair_at (pairs k g) e).0 ≡ k + x) × (is_among (pair_at (pairs k g) e).1 (targets g x) ≡ true)
pairs-only k [] e h = absurd (omega (arith, h))
pairs-only k (ts ∷ g) e h =
    elim (in-row k ts (pairs (suc k) g) e h) [
      | inl (a, b) ↦ (0, a ∙ omega arith, b)
      | inr (f, l, same) ↦
          let later = pairs-only (suc k) g f l in (
            suc later.0,
            ap (λ p. p.0) same ∙ later.1 ∙ omega arith,
            subst (λ p. is_among p.1 (targets g later.0) ≡ true) (sym same) later.2,
          )
    ]

-- rows, edge by edge

abbrev edges_of : ℕ → List ℕ → List (ℕ × ℕ)
edges_of x row = map (λ t. (x, t)) row

pub row-more : (L : List (ℕ × ℕ)) (n : ℕ) (last last' : List ℕ) (E E' : List Source) (x i k b : ℕ) (row : List ℕ)
    → IsLinked (L ++ edges_of x (take i row)) n last E → i < length row → get_or row i 0 < n
    → b ≡ get_or last (get_or row i 0) 0 → k ≡ length E + 1
    → last' ≡ set last (get_or row i 0) k → E' ≡ E ++ record { entry = x; before = b } ∷ []
    → IsLinked (L ++ edges_of x (take (i + 1) row)) n last' E'
row-more L n last last' E E' x i k b row h inside below read size lasts edges =
    let t = get_or row i 0 in
    let now = linked-push (L ++ edges_of x (take i row)) n last E x t h below in
    let made : L ++ edges_of x (take (i + 1) row) ≡ (L ++ edges_of x (take i row)) ++ (x, t) ∷ [] =
    ap (λ r. L ++ edges_of x r) (take_more row i 0 inside)
    ∙ ap (λ r. L ++ r) (map-append (λ t. (x, t)) (take i row) (t ∷ []))
    ∙ sym (append_assoc L (edges_of x (take i row)) ((x, t) ∷ [])) in
    subst (λ l. IsLinked l n last' E') (sym made)
    (subst (λ l. IsLinked ((L ++ edges_of x (take i row)) ++ (x, t) ∷ []) n l E') (sym (lasts ∙ ap (set last t) size))
    (subst (λ e. IsLinked ((L ++ edges_of x (take i row)) ++ (x, t) ∷ []) n (set last t (length E + 1)) e)
    (sym (edges ∙ ap (λ p. E ++ record { entry = x; before = p } ∷ []) read)) now))

-- the edges of one entry more
pub entry-more : (g : List (List ℕ)) (x : ℕ) (L : List (ℕ × ℕ)) → x < length g → L ++ pairs x (drop x g) ≡ pairs 0 g
    → (L ++ edges_of x (targets g x)) ++ pairs (x + 1) (drop (x + 1) g) ≡ pairs 0 g
entry-more g x L h e =
    append_assoc L (edges_of x (targets g x)) (pairs (x + 1) (drop (x + 1) g))
    ∙ ap (λ r. L ++ r) (sym rest) ∙ e
  where
    rest : pairs x (drop x g) ≡ edges_of x (targets g x) ++ pairs (x + 1) (drop (x + 1) g)
    rest =
        ap (pairs x) (drop_more g x [] h)
        ∙ ap (λ k. edges_of x (targets g x) ++ pairs k (drop (x + 1) g)) (sym (add-one x))

pub row-all : (L : List (ℕ × ℕ)) (n : ℕ) (last : List ℕ) (E : List Source) (x i : ℕ) (row : List ℕ) → length row ≤ i
    → IsLinked (L ++ edges_of x (take i row)) n last E → IsLinked (L ++ edges_of x row) n last E
row-all L n last E x i row h l = subst (λ r. IsLinked (L ++ edges_of x r) n last E) (take_all i row h) l

-- the rows of sources are the edges the other way round
pub record AreSources (g back : List (List ℕ)) (n : ℕ) : Type 0 where
  pub size : length back ≡ n
  pub rows : (t : ℕ) → t < n → HasSources (pairs 0 g) t 0 (targets back t)

pub sources-more : (g back back' : List (List ℕ)) (n : ℕ) (row : List ℕ) → AreSources g back n
    → back' ≡ back ++ row ∷ [] → HasSources (pairs 0 g) n 0 row → AreSources g back' (n + 1)
sources-more g back back' n row s e h = record {
  size = (let size = s.size in omega (arith, ap length e, push-length back row []));
  rows = λ t l.
      subst (λ b. HasSources (pairs 0 g) t 0 (targets b t)) (sym e)
      (elim (cases_lt t n) as (λ _. HasSources (pairs 0 g) t 0 (targets (back ++ row ∷ []) t)) [
        | inl before ↦
            subst (HasSources (pairs 0 g) t 0) (sym (push-old back row [] t (let size = s.size in omega arith)))
            (s.rows t before)
        | inr after ↦
            let top : t ≡ n = omega arith in
            let place : t ≡ length back = (let size = s.size in omega arith) in
            subst (λ k. HasSources (pairs 0 g) k 0 (targets (back ++ row ∷ []) t)) (sym top)
            (subst (HasSources (pairs 0 g) n 0)
            (sym (ap (λ k. targets (back ++ row ∷ []) k) place ∙ push-new back row [])) h)
      ]);
}

pub sources-all : (g back : List (List ℕ)) (n : ℕ) → AreClosed g → n ≡ length g → AreSources g back n
    → AreReversed g back
sources-all g back n closed e s = record {
  same_length = s.size ∙ e;
  back = λ x y h.
      (let found = pairs-has 0 g x y h in
      let inside : y < n = (let c = closed x y h in omega arith) in
      let same : 0 + x ≡ x = omega arith in
      subst (λ z. is_among z (targets back y) ≡ true) (ap (λ p. p.0) found.2 ∙ same)
      ((s.rows y inside).all found.0 (omega arith) found.1 (ap (λ p. p.1) found.2)));
  forth = λ x y h.
      (let inside : y < n = in-back x y h in
      let source = (s.rows y inside).only x h in
      let pair = pairs-only 0 g source.0 source.1 in
      let same : pair.0 ≡ x = (let a = pair.1 in let b = source.2 in omega arith) in
      subst (λ k. is_among y (targets g k) ≡ true) same
      (subst (λ k. is_among k (targets g pair.0) ≡ true) source.3 pair.2));
}
  where
    in-back : (x y : ℕ) → is_among x (targets back y) ≡ true → y < n
    in-back x y h =
        elim (cases_lt y (length back)) [
          | inl l ↦ (let size = s.size in omega arith)
          | inr l ↦
              absurd (true≢false (sym (subst (λ r. is_among x r ≡ true) (get_or_past back y [] l) h)))
        ]

-- a list of nothing but 0
abbrev pub zero_list : ℕ → List ℕ
zero_list n = replicate n 0

pub zeros-length : (n : ℕ) → length (zero_list n) ≡ n
zeros-length n = length-replicate {A = ℕ} n 0

pub zeros-at : (n t d : ℕ) → d ≡ 0 → get_or (zero_list n) t d ≡ d
zeros-at n t d e =
    elim (cases_lt t n) [
      | inl l ↦ get_or-replicate {A = ℕ} n t 0 d l ∙ sym e
      | inr l ↦ get_or_past (zero_list n) t d (omega (arith, zeros-length n))
    ]
