-- The leaf of a branch at strings, and what it means.
use Rattle.std.proofs.Common.{◌≡◌, ℕ, ◌<◌, Bool, true, false, ◌&&◌, if◌then◌else◌, nat_eq, map, List, [], ◌∷◌, take, length, Option, Some, None, is_some, option_map, Result, Ok, Err, IfOk, refl, ap, sym, ◌∙◌, arith}
use Rattle.std.proofs.lemmas.Bool.{and_parts, and_from, le-leb, true≢false}
use Rattle.documents.specs.Tests.{every}
use Rattle.documents.specs.Tests as D
use Rattle.documents.specs.Kind as K
use Rattle.documents.specs.Document.{string}
use Rattle.positions.specs.Position.{Position, is_table}
use Rattle.position_laws.proofs.Tables.{is_table-IsTable}
use Rattle.goals.specs.Signed.{Signed, meets}
use Rattle.goal_laws.specs.Saturated.{IsSaturated}
use Rattle.alternatives.specs.Alternative as A
use Rattle.alternatives.specs.Limit.{LimitKind}
use Rattle.expansions.specs.Leaves.{scalar, scalar_leaf, word_of}
use Rattle.finders.specs.Strings.{strings_of}
use Rattle.finder_laws.proofs.Strings.{scalars_same, found_word, none_wanted, none_meets}
use Rattle.finder_laws.proofs.Wanted.{wanted_meets}
use Rattle.js_algebra.specs.View.{is_in_table, are_in_table}
use Rattle.js_algebra.proofs.Inside.{is_in_table-some}

pub mapped_some : {A B : Type 0} (f : A → B) (o : Option A) → is_some (option_map f o) ≡ is_some o
mapped_some f None = refl
mapped_some f (Some x) = refl

abbrev pub alternatives : ℕ → Bool → List A.Alternative
alternatives k b = if b then scalar K.Text k A.Text ∷ [] else []

none_at_all : (T : List Position) (ranks : List ℕ) → is_table T ranks ≡ true → (S : List Signed)
    → are_in_table T S ≡ true → strings_of T S ≡ Ok None → (w : List ℕ) → every D.is_scalar w ≡ true
    → meets T S (string w) ≡ true → ⊥
none_at_all T ranks table [] h e w s m =
    none_wanted T [] e w (sym (scalars_same w) ∙ s) (le-leb 0 (length w) (omega arith)) refl
none_at_all T ranks table (x ∷ S) h e w s m =
    none_meets T
    (is_table-IsTable T ranks table (is_in_table-some T x (and_parts (is_in_table T x) (are_in_table T S) h).0))
    (x ∷ S) e w (sym (scalars_same w) ∙ s) m

pub found_meets : (T : List Position) (ranks : List ℕ) → is_table T ranks ≡ true → (S : List Signed)
    → are_in_table T S ≡ true → (w : List ℕ) → strings_of T S ≡ Ok (Some w)
    → (every D.is_scalar w ≡ true) × (IsSaturated T K.Text S → meets T S (string w) ≡ true)
found_meets T ranks table [] h w e =
    let (s, t, l) = found_word T [] w e in (scalars_same w ∙ s, λ full. refl)
found_meets T ranks table (x ∷ S) h w e =
    let (s, t, l) = found_word T (x ∷ S) w e in (
      scalars_same w ∙ s,
      λ full. wanted_meets T
          (is_table-IsTable T ranks table (is_in_table-some T x (and_parts (is_in_table T x) (are_in_table T S) h).0))
          (x ∷ S) w full t l,
    )

module _ (T : List Position) (S : List Signed) (k : ℕ) (b : Bool) (alts : List A.Alternative)
    (is : alts ≡ alternatives k b) where
  pub leaf_is : (o : Option (List ℕ)) → strings_of T S ≡ Ok o → b ≡ is_some o
      → scalar_leaf K.Text (λ w. A.Text) k (strings_of T S) ≡ Ok alts
  leaf_is None e h =
      ap (scalar_leaf K.Text (λ w. A.Text) k) e ∙ ap (λ z. Ok (alternatives k z)) (sym h) ∙ ap Ok (sym is)
  leaf_is (Some w) e h =
      ap (scalar_leaf K.Text (λ w. A.Text) k) e ∙ ap (λ z. Ok (alternatives k z)) (sym h) ∙ ap Ok (sym is)

  module _ (ranks : List ℕ) (table : is_table T ranks ≡ true) (inside : are_in_table T S ≡ true) where
    pub leaf_one : (o : Option (List ℕ)) → strings_of T S ≡ Ok o → b ≡ is_some o → (w : List ℕ)
        → every D.is_scalar w ≡ true → meets T S (string w) ≡ true → length alts ≡ 1
    leaf_one None e h w s m = absurd (none_at_all T ranks table S inside e w s m)
    leaf_one (Some v) e h w s m = ap length (is ∙ ap (alternatives k) h)

    pub leaf_met : (o : Option (List ℕ)) → strings_of T S ≡ Ok o → b ≡ is_some o → IsSaturated T K.Text S
        → 0 < length alts
        → (w : List ℕ) × (every D.is_scalar w ≡ true) × (meets T S (string w) ≡ true)
    leaf_met None e h full l =
        let n : length alts ≡ 0 = ap length (is ∙ ap (alternatives k) h) in absurd (omega (arith, l, n))
    leaf_met (Some w) e h full l =
        let (s, m) = found_meets T ranks table S inside w e in (w, s, m full)

-- the words of the cell

pub words_are : (T : List Position) (S : List Signed) (w : List ℕ) → strings_of T S ≡ Ok (Some w) → (cell count : ℕ)
    → count ≡ 1
    → w ∷ [] ≡ take count (word_of (strings_of T S) cell 0 ∷ [])
words_are T S w e cell count one =
    ap (λ z. z ∷ []) (sym (ap (λ r. word_of r cell 0) e))
    ∙ ap (λ z. take z (word_of (strings_of T S) cell 0 ∷ [])) (sym one)

pub no_words : (T : List Position) (S : List Signed) (cell count : ℕ) → count ≡ 0
    → [] ≡ take count (word_of (strings_of T S) cell 0 ∷ [])
no_words T S cell count none = ap (λ z. take z (word_of (strings_of T S) cell 0 ∷ [])) (sym none)

pub words_meet : (T : List Position) (ranks : List ℕ) → is_table T ranks ≡ true → (S : List Signed)
    → are_in_table T S ≡ true → (w : List ℕ) → strings_of T S ≡ Ok (Some w) → IsSaturated T K.Text S
    → every (λ w. every D.is_scalar w && meets T S (string w)) (w ∷ []) ≡ true
words_meet T ranks table S inside w e full =
    let (s, m) = found_meets T ranks table S inside w e in
    and_from (every D.is_scalar w && meets T S (string w)) true
    (and_from (every D.is_scalar w) (meets T S (string w)) s (m full)) refl

pub ok_map : {A E : Type 0} (r : Result A E) (P Q : A → Type 0) → ((x : A) → P x → Q x) → IfOk r P → IfOk r Q
ok_map (Ok x) P Q f h = f x h
ok_map (Err e) P Q f h = tt

-- a leaf with an alternative has a word
pub leaf_found : (T : List Position) (S : List Signed) (k : ℕ) (alts : List A.Alternative)
    → scalar_leaf K.Text (λ w. A.Text) k (strings_of T S) ≡ Ok alts → 0 < length alts
    → (w : List ℕ) × (strings_of T S ≡ Ok (Some w))
leaf_found T S k alts e l = go (strings_of T S) refl e where
  go : (r : Result (Option (List ℕ)) LimitKind) → strings_of T S ≡ r
      → scalar_leaf K.Text (λ w. A.Text) k r ≡ Ok alts
      → (w : List ℕ) × (strings_of T S ≡ Ok (Some w))
  go (Ok (Some w)) h e = (w, h)
  go (Ok None) h e = let q : [] ≡ alts = cc e in let n = ap length q in absurd (omega (arith, l, n))
  go (Err x) h e = cc e

pub filled : {B : Type 0} (f : B → A.Alternative) (xs : List B) (alts : List A.Alternative) (b : Bool)
    → b ≡ nat_eq (length xs) 0 → b ≡ false → map f xs ≡ alts
    → 0 < length alts
filled f [] alts b e h m = let n : true ≡ false = sym e ∙ h in absurd (true≢false n)
filled f (x ∷ xs) alts b e h m = let n = ap length m in omega (arith, n)
