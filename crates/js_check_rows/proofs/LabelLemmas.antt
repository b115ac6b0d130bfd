-- Labels of rows: what tests over all rows say of each row, and which fault is first.
use Rattle.std.proofs.Common.{◌≡◌, ◌<◌, ◌≤◌, ◌+◌, ◌*◌, ◌⊎◌, ℕ, zero, suc, min, List, [], ◌∷◌, Bool, true, ◌&&◌, cond, nat_eq, nat_le, length, get_or, inl, inr, refl, sym, ◌∙◌, ap, subst, arith}
use Rattle.std.specs.List.{range_with_len}
use Rattle.std.specs.Cmp.{both_ways}
use Rattle.std.proofs.lemmas.Bool.{and_from, and_parts, le-leb, leb-true, eq-eqb, eqb-true, cases_lt, false_from_ne_true}
use Rattle.list_laws.proofs.Lists.{every_at}
use Rattle.list_laws.proofs.Tests.{in_range, every-range}
use Rattle.documents.specs.Tests.{every}
use Rattle.word_states.specs.Atom.{Atom}
use Rattle.word_states.specs.Classes.{class_count}
use Rattle.cell_laws.specs.Counting.{sum_to}
use Rattle.verdicts.specs.RowLines.{Table, stated}
use Rattle.verdicts.specs.Bounds.{width_of, keeps}
use Rattle.verdicts.specs.Leaves.{least_right}
use Rattle.js_check_rows.specs.declared.fault.RowFault.TheVariants as R
use Rattle.js_check_rows.specs.Labels.{IsFirst, IsAlone, IsPast, IsTooGreat, LeastTells, asked_of, are_kept, BoundTells, AreBounds}

at_below : (p : ℕ → Bool) (n r : ℕ) → every p (range_with_len 0 n) ≡ true → r < n → p r ≡ true
at_below p n r e l = every_at p r (range_with_len 0 n) e (in_range n r l)

-- beyond a list is 0
pub past_end : (xs : List ℕ) (k : ℕ) → length xs ≤ k → get_or xs k 0 ≡ 0
past_end xs k l = beyond xs k 0 l where
  beyond : (xs : List ℕ) (k d : ℕ) → length xs ≤ k → get_or xs k d ≡ d
  beyond [] k d l = refl
  beyond (x ∷ xs) zero d l = absurd (omega (arith, l))
  beyond (x ∷ xs) (suc k) d l = beyond xs k d (omega (arith, l))

module _ (atoms : List Atom) (t : Table (List ℕ)) where
  -- ---- bounds
  module _ (marks : List Bool) (labels : List ℕ) where
    abbrev asked : ℕ → ℕ
    asked = asked_of atoms t marks labels

    pub kept_from : length labels ≡ length t.words
        → ((r : ℕ) → r < length t.words → asked r ≤ get_or labels r 0) → are_kept atoms t marks labels ≡ true
    kept_from e h =
        and_from (nat_eq (length labels) (length t.words))
        (every (λ r. nat_le (asked r) (get_or labels r 0)) (range_with_len 0 (length t.words)))
        (eq-eqb (length labels) (length t.words) e)
        (every-range (λ r. nat_le (asked r) (get_or labels r 0)) (length t.words)
        (λ r l. le-leb (asked r) (get_or labels r 0) (h r l)))

    kept_length : are_kept atoms t marks labels ≡ true → length labels ≡ length t.words
    kept_length e =
        eqb-true (length labels) (length t.words)
        (and_parts (nat_eq (length labels) (length t.words))
        (every (λ r. nat_le (asked r) (get_or labels r 0)) (range_with_len 0 (length t.words))) e).0

    kept_at : (r : ℕ) → are_kept atoms t marks labels ≡ true → r < length t.words → asked r ≤ get_or labels r 0
    kept_at r e l =
        leb-true (asked r) (get_or labels r 0)
        (at_below (λ r. nat_le (asked r) (get_or labels r 0)) (length t.words) r
        (and_parts (nat_eq (length labels) (length t.words))
        (every (λ r. nat_le (asked r) (get_or labels r 0)) (range_with_len 0 (length t.words))) e).1 l)

    -- the rows before have labels, which are enough
    abbrev pub AreEnough : ℕ → Type 0
    AreEnough n = (r : ℕ) → r < n → (r < length labels) × (r < length t.words) × (asked r ≤ get_or labels r 0)

    first_bound : (r : ℕ) → AreEnough r → (IsAlone t labels r ⊎ (get_or labels r 0 < asked r))
        → IsFirst (λ q. IsAlone t labels q ⊎ (get_or labels q 0 < asked q)) r
    first_bound r h w = (
      w,
      λ q l v. let (a, b, c) = h q l in elim v [
        | inl (inl m) ↦ omega (arith, a, m)
        | inl (inr m) ↦ omega (arith, b, m)
        | inr m ↦ omega (arith, c, m)
      ],
    )

    pub bound_missing : (r : ℕ) → AreEnough r → length labels ≤ r → r < length t.words
        → BoundTells atoms t marks labels (R.Capacity r)
    bound_missing r h m l = (
      first_bound r h (inl (inl m)),
      false_from_ne_true (are_kept atoms t marks labels) (λ e. let q = kept_length e in omega (arith, q, m, l)),
    )

    pub bound_extra : (r : ℕ) → AreEnough r → length t.words ≤ r → r < length labels
        → BoundTells atoms t marks labels (R.Capacity r)
    bound_extra r h m l = (
      first_bound r h (inl (inr m)),
      false_from_ne_true (are_kept atoms t marks labels) (λ e. let q = kept_length e in omega (arith, q, m, l)),
    )

    pub bound_small : (r : ℕ) → AreEnough r → r < length t.words → get_or labels r 0 < asked r
        → BoundTells atoms t marks labels (R.Capacity r)
    bound_small r h l m = (
      first_bound r h (inr m),
      false_from_ne_true (are_kept atoms t marks labels) (λ e. let q = kept_at r e l in omega (arith, q, m)),
    )

    -- a row more
    pub enough_next : (n : ℕ) → AreEnough n → n < length labels → n < length t.words → asked n ≤ get_or labels n 0
        → AreEnough (n + 1)
    enough_next n h a b c = λ r l. elim (cases_lt r n) [
      | inl m ↦ h r m
      | inr m ↦
          let q : n ≡ r = omega (arith, l, m) in
          subst (λ z. (z < length labels) × (z < length t.words) × (asked z ≤ get_or labels z 0)) q (a, b, c)
    ]

    -- bounds of a cell
    pub kept_bounds : AreBounds atoms t marks labels
    kept_bounds T C c told =
        ap (λ b. nat_eq (length labels) (length t.words) && b)
        (both_ways (every (λ r. nat_le (asked r) (get_or labels r 0)) (range_with_len 0 (length t.words)))
        (every (keeps T atoms t.words (stated t) C c labels) (range_with_len 0 (length t.words)))
        (λ e. every-range (keeps T atoms t.words (stated t) C c labels) (length t.words)
        (λ r l. sym (same r l) ∙ at_below (λ r. nat_le (asked r) (get_or labels r 0)) (length t.words) r e l))
        (λ e. every-range (λ r. nat_le (asked r) (get_or labels r 0)) (length t.words)
        (λ r l. same r l ∙ at_below (keeps T atoms t.words (stated t) C c labels) (length t.words) r e l))) where
          same : (r : ℕ) → r < length t.words
              → nat_le (asked r) (get_or labels r 0) ≡ keeps T atoms t.words (stated t) C c labels r
          same r l =
              ap (λ b. nat_le (cond b 1 0
              + sum_to (class_count atoms) (λ k. width_of atoms k * get_or labels (stated t r k) 0))
              (get_or labels r 0))
              (told r l)

  -- ---- least lengths
  module _ (labels : List ℕ) where
    abbrev fits : ℕ → ℕ → Bool
    fits r k = nat_le (get_or labels (stated t r k) 0) (suc (get_or labels r 0))

    abbrev fit : ℕ → Bool
    fit r = every (fits r) (range_with_len 0 (class_count atoms))

    pub least_from : length labels ≡ length t.words → get_or labels 0 0 ≡ 0
        → ((r k : ℕ) → r < length t.words → k < class_count atoms
        → get_or labels (stated t r k) 0 ≤ get_or labels r 0 + 1)
        → least_right [] [] atoms t labels ≡ true
    least_from e z h =
        and_from (nat_eq (length labels) (length t.words))
        (nat_eq (get_or labels 0 0) 0 && every fit (range_with_len 0 (length t.words)))
        (eq-eqb (length labels) (length t.words) e)
        (and_from (nat_eq (get_or labels 0 0) 0) (every fit (range_with_len 0 (length t.words)))
        (eq-eqb (get_or labels 0 0) 0 z)
        (every-range fit (length t.words) (λ r l. every-range (fits r) (class_count atoms)
        (λ k m. le-leb (get_or labels (stated t r k) 0) (suc (get_or labels r 0))
        (let q = h r k l m in omega (arith, q))))))

    least_parts : least_right [] [] atoms t labels ≡ true
        → (length labels ≡ length t.words) × (get_or labels 0 0 ≡ 0)
        × ((r k : ℕ) → r < length t.words → k < class_count atoms
        → get_or labels (stated t r k) 0 ≤ get_or labels r 0 + 1)
    least_parts e =
        let (a, b) = and_parts (nat_eq (length labels) (length t.words))
        (nat_eq (get_or labels 0 0) 0 && every fit (range_with_len 0 (length t.words))) e in
        let (c, d) = and_parts (nat_eq (get_or labels 0 0) 0) (every fit (range_with_len 0 (length t.words))) b in (
          eqb-true (length labels) (length t.words) a,
          eqb-true (get_or labels 0 0) 0 c,
          λ r k l m.
              let q = leb-true (get_or labels (stated t r k) 0) (suc (get_or labels r 0))
              (at_below (fits r) (class_count atoms) k (at_below fit (length t.words) r d l) m) in
              omega (arith, q),
        )

    refuses : (r : ℕ) → IsTooGreat atoms t labels r → least_right [] [] atoms t labels ≡ true → ⊥
    refuses r (inl (z, m)) e = let (a, b, c) = least_parts e in omega (arith, m, b)
    refuses r (inr h) e =
        let (a, b, c) = least_parts e in
        let q = c h.from h.class h.row h.by in
        let m = h.more in
        let p : get_or labels (stated t h.from h.class) 0 ≡ get_or labels r 0 = ap (λ z. get_or labels z 0) h.leads in
        omega (arith, q, m, p)

    -- no label before row `first` is too great for the rows that were looked at
    pub record AreFine (n first : ℕ) : Type 0 where
      pub within : first ≤ min (length labels) (length t.words)
      pub zero : 0 < first → get_or labels 0 0 ≡ 0
      pub fine : (r k : ℕ) → r < n → k < class_count atoms → stated t r k < first
          → get_or labels (stated t r k) 0 ≤ get_or labels r 0 + 1
      pub from : (first ≡ min (length labels) (length t.words)) ⊎ IsTooGreat atoms t labels first

    -- after all rows that have labels
    pub least_tells : (first : ℕ) → AreFine (min (length labels) (length t.words)) first
        → ((first < min (length labels) (length t.words)) ⊎ (length labels ≡ length t.words → ⊥))
        → LeastTells atoms t labels (R.Least first)
    least_tells first h w =
        let l = h.within in (
          (
            is,
            λ q m v. elim v [
              | inl (inl a) ↦ omega (arith, a, l, m)
              | inl (inr a) ↦ omega (arith, a, l, m)
              | inr (inl (a, b)) ↦ (let z = h.zero (omega (arith, m)) in omega (arith, b, z))
              | inr (inr p) ↦ past q m p
            ],
          ),
          false_from_ne_true (least_right [] [] atoms t labels) (λ e. bad is e),
        ) where
          past : (q : ℕ) → q < first → IsPast atoms t labels q → ⊥
          past q m p =
              let a = p.row in
              let b = p.label in
              let e = p.leads in
              let f = h.fine p.from p.class (omega (arith, a, b)) p.by (omega (arith, e, m)) in
              let g : get_or labels (stated t p.from p.class) 0 ≡ get_or labels q 0 =
              ap (λ z. get_or labels z 0) e in
              let k = p.more in
              omega (arith, f, g, k)

          is : IsAlone t labels first ⊎ IsTooGreat atoms t labels first
          is = elim h.from [
            | inl e ↦ elim (cases_lt first (length labels)) [
              | inl a ↦ inl (inr (omega (arith, e, a)))
              | inr a ↦ inl (inl (omega (arith, a)))
            ]
            | inr g ↦ inr g
          ]

          bad : IsAlone t labels first ⊎ IsTooGreat atoms t labels first
              → least_right [] [] atoms t labels ≡ true → ⊥
          bad (inr g) e = refuses first g e
          bad (inl a) e =
              let (n, z, f) = least_parts e in elim w [
                | inl b ↦ elim a [
                  | inl c ↦ omega (arith, b, c)
                  | inr c ↦ omega (arith, b, c)
                ]
                | inr b ↦ b n
              ]

    pub least_all : (first : ℕ) → AreFine (min (length labels) (length t.words)) first → 0 < length t.words
        → min (length labels) (length t.words) ≤ first → length labels ≡ length t.words
        → least_right [] [] atoms t labels ≡ true
    least_all first h p l e =
        let w = h.within in
        least_from e (h.zero (omega (arith, p, l, e))) (λ r k m n. elim (cases_lt (stated t r k) first) [
          | inl a ↦ h.fine r k (omega (arith, m, e)) n a
          | inr a ↦
              let z = past_end labels (stated t r k) (omega (arith, a, l, e)) in
              omega (arith, z)
        ])

    -- before any row: `first` is row 0 where its label isn't 0, and else past all rows that have labels
    pub fine_begin : (n first : ℕ) → n ≡ min (length labels) (length t.words)
        → ((0 < get_or labels 0 0) × (first ≡ 0)) ⊎ ((0 < get_or labels 0 0 → ⊥) × (first ≡ n)) → AreFine 0 first
    fine_begin n first e (inl (l, q)) = record {
      within = omega (arith, q);
      zero = λ m. omega (arith, m, q);
      fine = λ r k m. absurd (omega (arith, m));
      from = inr (inl (q, l));
    }
    fine_begin n first e (inr (l, q)) = record {
      within = omega (arith, q, e);
      zero = λ m. none (get_or labels 0 0) l;
      fine = λ r k m. absurd (omega (arith, m));
      from = inl (q ∙ e);
    } where
      none : (x : ℕ) → (0 < x → ⊥) → x ≡ 0
      none zero l = refl
      none (suc x) l = absurd (l (omega arith))

    -- a row more
    pub fine_next : (n first next : ℕ) → AreFine n first → next ≤ first
        → ((k : ℕ) → k < class_count atoms → stated t n k < next
        → get_or labels (stated t n k) 0 ≤ get_or labels n 0 + 1)
        → ((next ≡ first) ⊎ IsTooGreat atoms t labels next) → AreFine (n + 1) next
    fine_next n first next h l all from = record {
      within = let w = h.within in omega (arith, w, l);
      zero = λ m. h.zero (omega (arith, m, l));
      fine = λ r k m b s. elim (cases_lt r n) [
        | inl a ↦ h.fine r k a b (omega (arith, s, l))
        | inr a ↦
            let q : n ≡ r = omega (arith, m, a) in
            subst (λ z. stated t z k < next → get_or labels (stated t z k) 0 ≤ get_or labels z 0 + 1) q (all k b) s
      ];
      from = elim from [
        | inl q ↦ elim h.from [
          | inl f ↦ inl (q ∙ f)
          | inr g ↦ inr (subst (IsTooGreat atoms t labels) (sym q) g)
        ]
        | inr g ↦ inr g
      ];
    }

    -- the label of the row to which a row leads by a class is too great
    pub is_past : (r k target : ℕ) → target ≡ stated t r k → r < length labels → r < length t.words
        → k < class_count atoms → get_or labels r 0 + 1 < get_or labels target 0 → IsTooGreat atoms t labels target
    is_past r k target e l m n g = inr (record {
      from = r;
      class = k;
      row = m;
      label = l;
      by = n;
      leads = sym e;
      more = g;
    })
