-- A table with one more word, or with one more step: no word and no pointer is there twice.
use Rattle.std.proofs.Common.{◌≡◌, ℕ, suc, ◌+◌, ◌<◌, List, [], ◌∷◌, ◌++◌, map, length, get_or, Bool, true, false, cond, ◌&&◌, nat_lt, nat_eq, None, position, refl, sym, ap, subst, ◌∙◌, add-one, inl, inr, Result, Ok, Err, arith}
use Rattle.std.specs.Prelude.{String, IfOk, OnErr, ◌⊎◌}
use Rattle.std.specs.List.{position_or_len, list_any}
use Rattle.std.proofs.lemmas.List.{append-nil, length_push, length-map, map-append}
use Rattle.std.proofs.Math.ListN.{get_or-append}
use Rattle.std.proofs.Math.Seq.{get_or-append_seam}
use Rattle.std.proofs.lemmas.Bool.{ltb-true, ltb-false}
use Rattle.std.proofs.lemmas.List.Sums.{passes_at_first}
use Rattle.indexmap.specs.IndexSet.{insert_key}
use Rattle.schemas.specs.Places.{Pointer}
use Rattle.js_pointers.specs.Table.{IsTable, IsStep, IsWord, AreNames, Keeps, Grows, gone_on, numbered, word}
use Rattle.js_pointers.proofs.WordLemmas.{distinct_more, name_word, more_names, keeps-more}
use Rattle.js_pointers.proofs.PositionLemmas.{position_or_len-all_fail, position_or_len-passes, position-all_fail}
use Rattle.js_pointers.proofs.SameStepLemmas.{pair, same_step-true}
use Rattle.js_pointers.proofs.TableLemmas.{below-missing, text}

-- More words.

gone_on-words : (old new : List (List ℕ)) → Keeps old new → (ps : List Pointer) (steps : List (ℕ × ℕ))
    → ((i : ℕ) → i < length steps → (get_or steps i (0, 0)).1 < length old + 2147483648)
    → gone_on new ps steps ≡ gone_on old ps steps
gone_on-words old new keeps ps [] known = refl
gone_on-words old new keeps ps (s ∷ ss) known =
    ap (λ w. gone_on new (ps ++ (get_or ps s.0 [] ++ w ∷ []) ∷ []) ss) (keeps.1 s.1 (known 0 (omega arith)))
    ∙ gone_on-words old new keeps (ps ++ (get_or ps s.0 [] ++ word old s.1 ∷ []) ∷ []) ss
    (λ i l. known (suc i) (omega (arith, l)))

module _ (old new : List (List ℕ)) (keeps : Keeps old new) (steps : List (ℕ × ℕ)) where
  pub same_pointers : (ps : List Pointer) → IsTable old steps ps → numbered new steps ≡ numbered old steps
  same_pointers ps table = gone_on-words old new keeps ([] ∷ []) steps (λ i l. (table.made i l).known)

  more_words : (ps : List Pointer) → IsTable old steps ps → IsTable new steps ps
  more_words ps table = record {
    counted = table.counted;
    root = table.root;
    made = λ i l.
        let step = table.made i l in
        let known = step.known in
        let longer = keeps.0 in
        record {
          earlier = step.earlier;
          known = omega (arith, known, longer);
          makes = step.makes
              ∙ ap (λ w. get_or ps (get_or steps i (0, 0)).0 [] ++ w ∷ [])
              (sym (keeps.1 (get_or steps i (0, 0)).1 known));
        };
    distinct = table.distinct;
  }

  pub word-table : IsTable old steps (numbered old steps) → IsTable new steps (numbered new steps)
  word-table table =
      subst (λ ps. IsTable new steps ps) (sym (same_pointers (numbered old steps) table))
      (more_words (numbered old steps) table)

-- Steps.

gone_on-more : (names : List (List ℕ)) (ps : List Pointer) (steps : List (ℕ × ℕ)) (s : ℕ × ℕ)
    → gone_on names ps (steps ++ s ∷ [])
    ≡ gone_on names ps steps ++ (get_or (gone_on names ps steps) s.0 [] ++ word names s.1 ∷ []) ∷ []
gone_on-more names ps [] s = refl
gone_on-more names ps (r ∷ steps) s =
    gone_on-more names (ps ++ (get_or ps r.0 [] ++ word names r.1 ∷ []) ∷ []) steps s

pub push-grows : (ps : List Pointer) (p : Pointer) → Grows ps (ps ++ p ∷ [])
push-grows ps p =
    let longer = length_push ps p in
    (omega (arith, longer), λ n l. get_or-append ps (p ∷ []) [] n l)

module _ (names : List (List ℕ)) (steps : List (ℕ × ℕ)) (ps : List Pointer) (table : IsTable names steps ps)
    (are : AreNames names) (n k : ℕ) (less : n < length ps) (known : k < length names + 2147483648)
    (new : position (λ s. nat_eq n s.0 && nat_eq k s.1) steps ≡ None) where
  abbrev added : Pointer
  added = get_or ps n [] ++ word names k ∷ []

  made_more : (i : ℕ) → i < length (steps ++ pair n k ∷ [])
      → IsStep names (ps ++ added ∷ []) (get_or (steps ++ pair n k ∷ []) i (0, 0)) i
  made_more i l = go (nat_lt i (length steps)) refl
    where
      counted : length ps ≡ suc (length steps)
      counted = table.counted

      stays : (j : ℕ) → j < length ps → get_or (ps ++ added ∷ []) j [] ≡ get_or ps j []
      stays j l = get_or-append ps (added ∷ []) [] j l

      go : (b : Bool) → nat_lt i (length steps) ≡ b
          → IsStep names (ps ++ added ∷ []) (get_or (steps ++ pair n k ∷ []) i (0, 0)) i
      go true e =
          let m = ltb-true i (length steps) e in
          let step = table.made i m in
          let c = counted in
          let early = step.earlier in
          subst (λ s. IsStep names (ps ++ added ∷ []) s i) (sym (get_or-append steps (pair n k ∷ []) (0, 0) i m))
          (record {
            earlier = early;
            known = step.known;
            makes = stays (suc i) (omega (arith, c, m)) ∙ step.makes
                ∙ ap (λ q. q ++ word names (get_or steps i (0, 0)).1 ∷ [])
                (sym (stays (get_or steps i (0, 0)).0 (omega (arith, c, m, early))));
          })
      go false e =
          let most = length_push steps (pair n k) in
          let least = ltb-false i (length steps) e in
          let last : i ≡ length steps = omega (arith, l, most, least) in
          let c = counted in
          subst (λ s. IsStep names (ps ++ added ∷ []) s i)
          (sym (ap (λ j. get_or (steps ++ pair n k ∷ []) j (0, 0)) last
          ∙ get_or-append_seam steps (pair n k) [] (0, 0)))
          (record {
            earlier = omega (arith, c, less, last);
            known = known;
            makes = ap (λ j. get_or (ps ++ added ∷ []) j []) (ap suc last ∙ sym c)
                ∙ get_or-append_seam ps added [] []
                ∙ ap (λ q. q ++ word names k ∷ []) (sym (stays n less));
          })

  -- with a new step, and the pointer that it makes behind the others, a table is a table
  pub one_more_step : IsTable names (steps ++ pair n k ∷ []) (ps ++ added ∷ [])
  one_more_step = record {
    counted =
        let c = table.counted in
        let a = length_push ps added in
        let b = length_push steps (pair n k) in
        omega (arith, a, b, c);
    root = get_or-append ps (added ∷ []) [] 0 (let c = table.counted in omega (arith, c)) ∙ table.root;
    made = made_more;
    distinct = distinct_more ps added [] table.distinct
        (λ i l h. below-missing names steps ps table are n k (get_or ps n []) (word names k) less refl (known, refl)
        new i [] l (h ∙ sym (append-nil added)));
  }

-- Sets.

-- nothing is added, or this is, which wasn't there
abbrev pub Inserted : {A : Type 0} → (A → Bool) → List A → List A → A → Type 0
Inserted test old new x = (new ≡ old) ⊎ ((position test old ≡ None) × (new ≡ old ++ x ∷ []))

insert_key-either : {A : Type 0} (eq : A → A → Bool) (xs : List A) (x : A) → Inserted (eq x) xs (insert_key eq xs x) x
insert_key-either eq xs x = go (list_any (eq x) xs) refl
  where
    go : (b : Bool) → list_any (eq x) xs ≡ b → Inserted (eq x) xs (cond b xs (xs ++ x ∷ [])) x
    go true e = inl refl
    go false e = inr (position-all_fail (eq x) xs e, refl)

pub inserted : {A R E : Type 0} (eq : A → A → Bool) (old new : List A) (x : A) (r : Result R E)
    → IfOk r (λ _. new ≡ insert_key eq old x) → OnErr r (new ≡ old) → Inserted (eq x) old new x
inserted eq old new x (Ok a) ok err = subst (λ xs. Inserted (eq x) old xs x) (sym ok) (insert_key-either eq old x)
inserted eq old new x (Err e) ok err = inl err

-- The program's tables.

module _ (names : List (List ℕ)) (steps : List (ℕ × ℕ)) (table : IsTable names steps (numbered names steps))
    (are : AreNames names) (n k : ℕ) (less : n < length (numbered names steps))
    (known : k < length names + 2147483648) where
  pub step-table : (new : List (ℕ × ℕ)) → Inserted (λ s. nat_eq n s.0 && nat_eq k s.1) steps new (n, k)
      → IsTable names new (numbered names new)
  step-table new (inl e) = subst (λ ss. IsTable names ss (numbered names ss)) (sym e) table
  step-table new (inr e) =
      subst (λ ss. IsTable names ss (numbered names ss)) (sym e.1)
      (subst (λ ps. IsTable names (steps ++ pair n k ∷ []) ps) (sym (gone_on-more names ([] ∷ []) steps (pair n k)))
      (one_more_step names steps (numbered names steps) table are n k less known e.0))

  pub step-grows : (new : List (ℕ × ℕ)) → Inserted (λ s. nat_eq n s.0 && nat_eq k s.1) steps new (n, k)
      → Grows (numbered names steps) (numbered names new)
  step-grows new (inl e) =
      subst (λ ss. Grows (numbered names steps) (numbered names ss)) (sym e) (omega arith, λ n l. refl)
  step-grows new (inr e) =
      subst (λ ss. Grows (numbered names steps) (numbered names ss)) (sym e.1)
      (subst (λ ps. Grows (numbered names steps) ps) (sym (gone_on-more names ([] ∷ []) steps (pair n k)))
      (push-grows (numbered names steps) _))

  -- the number of the pointer that goes on
  abbrev IsNumber : List (ℕ × ℕ) → ℕ → Type 0
  IsNumber new i =
      (i + 1 < length (numbered names new))
      × (get_or (numbered names new) (i + 1) [] ≡ get_or (numbered names steps) n [] ++ word names k ∷ [])

  number-old : (i : ℕ) → i ≡ position_or_len (λ s. nat_eq n s.0 && nat_eq k s.1) steps
      → list_any (λ s. nat_eq n s.0 && nat_eq k s.1) steps ≡ true → IsNumber steps i
  number-old i at h =
      let least = position_or_len-passes (λ s. nat_eq n s.0 && nat_eq k s.1) steps h in
      let within : i < length steps = omega (arith, at, least) in
      let found = passes_at_first (λ s. nat_eq n s.0 && nat_eq k s.1) steps (0, 0) least in
      let same = same_step-true (n, k) (get_or steps i (0, 0))
      (ap (λ j. nat_eq n (get_or steps j (0, 0)).0 && nat_eq k (get_or steps j (0, 0)).1) at ∙ found) in
      let counted = table.counted in (
        omega (arith, counted, within),
        ap (λ j. get_or (numbered names steps) j []) (add-one i) ∙ (table.made i within).makes
            ∙ ap (λ s. get_or (numbered names steps) s.0 [] ++ word names s.1 ∷ []) (sym same),
      )

  number-new : (i : ℕ) → i ≡ position_or_len (λ s. nat_eq n s.0 && nat_eq k s.1) steps
      → list_any (λ s. nat_eq n s.0 && nat_eq k s.1) steps ≡ false → IsNumber (steps ++ pair n k ∷ []) i
  number-new i at h =
      let all = position_or_len-all_fail (λ s. nat_eq n s.0 && nat_eq k s.1) steps h in
      let counted = table.counted in
      let last : i + 1 ≡ length (numbered names steps) = omega (arith, at, all, counted) in
      let more = get_or (numbered names steps) n [] ++ word names k ∷ [] in
      let longer = length_push (numbered names steps) more in
      subst (λ ps. (i + 1 < length ps) × (get_or ps (i + 1) [] ≡ more))
      (sym (gone_on-more names ([] ∷ []) steps (pair n k))) (
        omega (arith, last, longer),
        ap (λ j. get_or (numbered names steps ++ more ∷ []) j []) last
            ∙ get_or-append_seam (numbered names steps) more [] [],
      )

  pub step-number : (new : List (ℕ × ℕ)) (i : ℕ)
      → new ≡ insert_key (λ a b. nat_eq a.0 b.0 && nat_eq a.1 b.1) steps (pair n k)
      → i ≡ position_or_len (λ s. nat_eq n s.0 && nat_eq k s.1) steps → IsNumber new i
  step-number new i e at = go (list_any (λ s. nat_eq n s.0 && nat_eq k s.1) steps) refl e
    where
      go : (b : Bool) → list_any (λ s. nat_eq n s.0 && nat_eq k s.1) steps ≡ b
          → new ≡ cond b steps (steps ++ pair n k ∷ []) → IsNumber new i
      go true h same = subst (λ ss. IsNumber ss i) (sym same) (number-old i at h)
      go false h same = subst (λ ss. IsNumber ss i) (sym same) (number-new i at h)

-- The program's names.

module _ {Z : Type 0} (ts : List (String Z)) (t : String Z) where
  more_texts : map text (ts ++ t ∷ []) ≡ map text ts ++ text t ∷ []
  more_texts = map-append text ts (t ∷ [])

  pub name-table : AreNames (map text ts) → ((k : ℕ) → IsWord (map text ts) k (text t) → ⊥)
      → AreNames (map text (ts ++ t ∷ []))
  name-table are new = subst AreNames (sym more_texts) (more_names (map text ts) (text t) are new)

  pub name-keeps : Keeps (map text ts) (map text (ts ++ t ∷ []))
  name-keeps = subst (Keeps (map text ts)) (sym more_texts) (keeps-more (map text ts) (text t))

  pub name-last : IsWord (map text (ts ++ t ∷ [])) (2147483648 + length ts) (text t)
  name-last =
      let long = length_push (map text ts) (text t) in
      let count : length (map text ts) ≡ length ts = length-map ts text in
      subst (λ ws. IsWord ws (2147483648 + length ts) (text t)) (sym more_texts)
      (name_word (map text ts ++ text t ∷ []) (text t) (length ts) (omega (arith, long, count))
      (ap (λ i. get_or (map text ts ++ text t ∷ []) i []) (sym count)
      ∙ get_or-append_seam (map text ts) (text t) [] []))
