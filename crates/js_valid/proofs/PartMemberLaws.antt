-- What a form asks of a part's members: of their values, by the verdicts on the parts below, and of their names.
use Rattle.std.proofs.Common.{◌≡◌, ℕ, zero, suc, ◌+◌, ◌<◌, List, [], ◌∷◌, ◌++◌, ◌⊎◌, inl, inr, ◌≤◌, map, length, get_or, Bool, true, ◌&&◌, nat_lt, refl, sym, ap, subst, ◌∙◌, arith}
use Rattle.std.proofs.lemmas.Bool.{cases_lt}
use Rattle.documents.specs.Tests.{every}
use Rattle.documents.specs.Document.{Document, string, items_of, members_of}
use Rattle.schemas.specs.Entry.{Entry, Form}
use Rattle.shared_documents.specs.Part as P
use Rattle.shared_documents.specs.Unshared.{built, unshared}
use Rattle.shared_documents.proofs.Laws.{unshared-built}
use Rattle.js_doc.specs.declared.parts.Part.{Part}
use Rattle.js_doc.specs.declared.parts.Part.TheVariants as V
use Rattle.js_doc.specs.PartView.{part_view}
use Rattle.js_doc.proofs.Levels.{elements-items_of, entries-members_of}
use Rattle.js_match.specs.Matching.{matches}
use Rattle.js_valid.specs.Parts.{of_member, of_name, parts}
use Rattle.js_valid.specs.Plan.{valid_at}
use Rattle.js_valid.specs.Requests.{parts_list, parts_members}
use Rattle.js_valid.proofs.DecideLaws.{members-done, parts-list, parts-members, scalar-parts}

-- the value of a member is as the form asks
abbrev pub value_met : List Entry → List P.Part → Form → List ℕ × ℕ → Bool
value_met es ps f m = every (λ q. valid_at es q (unshared ps m.1)) (of_member matches f m.0)

-- the name of a member is as the form asks
abbrev pub name_met : List Entry → Form → List ℕ × ℕ → Bool
name_met es f m = every (λ q. valid_at es q (string m.0)) (of_name f)

module _ (es : List Entry) (ps : List P.Part) (f : Form) where
  swap : (a b c d : Bool) → ((a && b) && (c && d)) ≡ ((c && a) && (b && d))
  swap a b c d = grind arith

  both-met : (ms : List (List ℕ × ℕ)) → (every (name_met es f) ms && every (value_met es ps f) ms)
      ≡ every (λ m. every (λ q. valid_at es q m.1) (of_member matches f m.0) && every (λ q. valid_at es q (string m.0))
      (of_name f)) (map {B = List ℕ × Document} (λ m. (m.0, unshared ps m.1)) ms)
  both-met [] = refl
  both-met (m ∷ ms) =
      swap (name_met es f m) (every (name_met es f) ms) (value_met es ps f m) (every (value_met es ps f) ms)
      ∙ ap (λ b. (value_met es ps f m && name_met es f m) && b) (both-met ms)

  pub members-met : (ms : List (List ℕ × ℕ)) → (every (name_met es f) ms && every (value_met es ps f) ms)
      ≡ parts_members matches (valid_at es) f (map (λ m. (m.0, unshared ps m.1)) ms)
  members-met ms = both-met ms ∙ members-done (valid_at es) f (map (λ m. (m.0, unshared ps m.1)) ms)

-- ---- by the kind of a part

-- what it names is below its own number
pub list-below : (i n : ℕ) (p : Part) (is : List ℕ) → P.IsPart i (part_view p) → n ≡ i → p ≡ V.List is
    → every (λ j. nat_lt j n) is ≡ true
list-below i n p is part same e =
    subst (λ m. every (λ j. nat_lt j m) is ≡ true) (sym same)
    (ap (λ q. P.names_below i (part_view q)) (sym e) ∙ part.below)

pub members-below : (i n : ℕ) (p : Part) (ms : List (List ℕ × ℕ)) → P.IsPart i (part_view p) → n ≡ i
    → p ≡ V.Members ms → every (λ j. nat_lt j n) (map (λ m. m.1) ms) ≡ true
members-below i n p ms part same e =
    subst (λ m. every (λ j. nat_lt j m) (map (λ m. m.1) ms) ≡ true) (sym same)
    (ap (λ q. P.names_below i (part_view q)) (sym e) ∙ part.below)

module _ (ps : List P.Part) (i : ℕ) (p : Part) (table : P.is_table ps ≡ true) (within : i < length ps)
    (at : part_view p ≡ P.part_at ps i) (below : ℕ → Document → Bool) (f : Form) where
  -- the document of the part
  whole : built (unshared ps) (part_view p) ≡ unshared ps i
  whole = ap (built (unshared ps)) at ∙ sym (unshared-built ps i table within)

  pub list-asked : (is : List ℕ) → p ≡ V.List is
      → parts_list below f (map (unshared ps) is) ≡ parts matches below f (unshared ps i)
  list-asked is e =
      ap (parts_list below f) (sym (elements-items_of (map (unshared ps) is)))
      ∙ parts-list below f (items_of (map (unshared ps) is))
      ∙ ap (parts matches below f) (ap (λ q. built (unshared ps) (part_view q)) (sym e) ∙ whole)

  pub members-asked : (ms : List (List ℕ × ℕ)) → p ≡ V.Members ms
      → parts_members matches below f (map (λ m. (m.0, unshared ps m.1)) ms) ≡ parts matches below f (unshared ps i)
  members-asked ms e =
      ap (parts_members matches below f) (sym (entries-members_of (map (λ m. (m.0, unshared ps m.1)) ms)))
      ∙ parts-members below f (members_of (map (λ m. (m.0, unshared ps m.1)) ms))
      ∙ ap (parts matches below f) (ap (λ q. built (unshared ps) (part_view q)) (sym e) ∙ whole)

  scalar-built : (q : Part) → ((is : List ℕ) → q ≡ V.List is → ⊥) → ((ms : List (List ℕ × ℕ)) → q ≡ V.Members ms → ⊥)
      → parts matches below f (built (unshared ps) (part_view q)) ≡ true
  scalar-built V.Null g h = scalar-parts f below (built (unshared ps) P.null) refl
  scalar-built (V.Bool b) g h = scalar-parts f below (built (unshared ps) (P.boolean b)) refl
  scalar-built (V.Num n) g h = scalar-parts f below (built (unshared ps) (P.number n)) refl
  scalar-built (V.Text s) g h = scalar-parts f below (built (unshared ps) (P.string s)) refl
  scalar-built (V.List is) g h = absurd (g is refl)
  scalar-built (V.Members ms) g h = absurd (h ms refl)

  pub scalar-asked : ((is : List ℕ) → p ≡ V.List is → ⊥) → ((ms : List (List ℕ × ℕ)) → p ≡ V.Members ms → ⊥)
      → true ≡ parts matches below f (unshared ps i)
  scalar-asked g h = sym (scalar-built p g h) ∙ ap (parts matches below f) whole

-- ---- one more test

pushed-length : {A : Type 0} (xs : List A) (x : A) → length (xs ++ x ∷ []) ≡ suc (length xs)
pushed-length [] x = refl
pushed-length (y ∷ xs) x = ap suc (pushed-length xs x)

pushed-last : {A : Type 0} (xs : List A) (x d : A) → get_or (xs ++ x ∷ []) (length xs) d ≡ x
pushed-last [] x d = refl
pushed-last (y ∷ xs) x d = pushed-last xs x d

pushed-before : {A : Type 0} (xs : List A) (x d : A) (i : ℕ) → i < length xs → get_or (xs ++ x ∷ []) i d ≡ get_or xs i d
pushed-before [] x d i l = absurd (omega (arith, l))
pushed-before (y ∷ xs) x d zero l = refl
pushed-before (y ∷ xs) x d (suc i) l = pushed-before xs x d i (omega (arith, l))

pub more-length : {A : Type 0} (xs ys : List A) (x : A) (n : ℕ) → length xs ≡ n → ys ≡ xs ++ x ∷ [] → length ys ≡ n + 1
more-length xs ys x n len is = let l = ap length is in omega (arith, l, pushed-length xs x, len)

-- what holds of each place so far, and of the next one
pub each-more : {A : Type 0} (P : ℕ → A → Type 0) (xs ys : List A) (x d : A) (n : ℕ) → length xs ≡ n
    → ys ≡ xs ++ x ∷ [] → ((i : ℕ) → i < n → P i (get_or xs i d)) → P n x → (i : ℕ) → i < n + 1 → P i (get_or ys i d)
each-more P xs ys x d n len is before here i less = subst (λ zs. P i (get_or zs i d)) (sym is) (go (cases_lt i n))
  where
    go : (i < n) ⊎ (n ≤ i) → P i (get_or (xs ++ x ∷ []) i d)
    go (inl l) = subst (P i) (sym (pushed-before xs x d i (omega (arith, l, len)))) (before i l)
    go (inr l) =
        let last : i ≡ length xs = omega (arith, l, less, len) in
        let number : n ≡ i = omega (arith, last, len) in
        subst (λ j. P j (get_or (xs ++ x ∷ []) j d)) number
        (subst (P n) (sym (ap (λ j. get_or (xs ++ x ∷ []) j d) (sym len) ∙ pushed-last xs x d)) here)
