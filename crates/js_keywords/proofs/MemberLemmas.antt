-- What is wrong in a member, by the keyword that its name is.
use Rattle.std.proofs.Common.{◌≡◌, ℕ, List, [], ◌∷◌, map, drop, Bool, true, false, cond, Option, Some, None, codes, refl, sym, ap, ◌∙◌}
use Rattle.std.proofs.lemmas.Option.{none-some, same_Some}
use Rattle.documents.specs.Tests.{same_word}
use Rattle.documents.specs.Json.{Json}
use Rattle.schemas.specs.Places.{Pointer}
use Rattle.schemas.specs.Keyword as S
use Rattle.schemas.specs.Keyword.{Shape, keywords, shape_in, shape_of}
use Rattle.schemas.specs.Reading.{id_fault, shape_fault}
use Rattle.js_keywords.specs.declared.keyword.Keyword.{Keyword}
use Rattle.js_keywords.specs.declared.keyword.Keyword.TheVariants as K
use Rattle.js_keywords.specs.Names.{keyword_name}
use Rattle.js_keywords.specs.Reading.{rules}
use Rattle.js_keywords.specs.Words.{all_keywords, keyword_in, keyword_of, shape_by}
use Rattle.js_keywords.specs.Member.{shape_beside, shape_given, named_fault, fault_by}
use Rattle.list_laws.proofs.Tests.{same_word-true}

named : (w : List ℕ) (j k : Keyword) (rest : Option Keyword) (test : Bool) → same_word w (keyword_name j) ≡ test
    → cond test (Some j) rest ≡ Some k → (rest ≡ Some k → w ≡ keyword_name k) → w ≡ keyword_name k
named w j k rest true e h later = same_word-true w (keyword_name j) e ∙ ap keyword_name (same_Some j k h)
named w j k rest false e h later = later h

keyword_in-name : (ks : List Keyword) (w : List ℕ) (k : Keyword) → keyword_in ks w ≡ Some k → w ≡ keyword_name k
keyword_in-name [] w k h = absurd (none-some k h)
keyword_in-name (j ∷ ks) w k h =
    named w j k (keyword_in ks w) (same_word w (keyword_name j)) refl h (keyword_in-name ks w k)

-- a word that is none of the keywords
other : {A : Type 0} (test : Bool) (k : A) (rest : Option A) → cond test (Some k) rest ≡ None
    → (test ≡ false) × (rest ≡ None)
other true k rest h = absurd (none-some k (sym h))
other false k rest h = (refl, h)

shape_or : Option Shape → Shape
shape_or None = S.Flag
shape_or (Some s) = s

keyword_in-none : (ks : List Keyword) (w : List ℕ) → keyword_in ks w ≡ None
    → shape_in (map (λ k. (keyword_name k, shape_or (shape_by k))) ks) w ≡ None
keyword_in-none [] w h = refl
keyword_in-none (k ∷ ks) w h =
    let parts = other (same_word w (keyword_name k)) k (keyword_in ks w) h in
    ap (λ b. cond b (Some (shape_or (shape_by k))) (shape_in (map (λ j. (keyword_name j, shape_or (shape_by j))) ks) w))
    parts.0
    ∙ keyword_in-none ks w parts.1

without_shape : (ks : List Keyword) (w : List ℕ) → keyword_in (K.Id ∷ K.Ref ∷ ks) w ≡ None
    → (same_word w (codes "$id") ≡ false) × (keyword_in ks w ≡ None)
without_shape ks w h =
    let first = other (same_word w (codes "$id")) K.Id (keyword_in (K.Ref ∷ ks) w) h in
    let second = other (same_word w (codes "$ref")) K.Ref (keyword_in ks w) first.1 in
    (first.0, second.1)

either_way : {A : Type 0} (a b : Bool) (o : Option A) → o ≡ None → cond a (cond b o None) o ≡ None
either_way true true o h = h
either_way true false o h = refl
either_way false b o h = h

module _ (root : Json) (listed : Bool) (p : Pointer) (v : Json) where
  unnamed : (w : List ℕ) → keyword_of w ≡ None → named_fault root listed p w v ≡ None
  unfolding keyword_of shape_of shape_or
  unnamed w h =
      let parts = without_shape (drop 2 all_keywords) w h in
      let none = either_way (same_word w (codes "additionalItems")) listed (shape_of w)
      (keyword_in-none (drop 2 all_keywords) w parts.1) in
      ap (λ b. cond b (id_fault rules root p v) (shape_fault rules root (shape_beside listed w) w p v)) parts.0
      ∙ ap (λ o. shape_fault rules root o w p v) none

  by_its_name : (k : Keyword) → named_fault root listed p (keyword_name k) v ≡ fault_by root listed p (Some k) v
  unfolding shape_of
  by_its_name K.Id = refl
  by_its_name K.AdditionalItems = go listed
    where
      go : (b : Bool) → named_fault root b p (keyword_name K.AdditionalItems) v
          ≡ fault_by root b p (Some K.AdditionalItems) v
      go true = refl
      go false = refl
  by_its_name _ = refl

  pub named_fault-fault_by : (w : List ℕ) (o : Option Keyword) → o ≡ keyword_of w
      → fault_by root listed p o v ≡ named_fault root listed p w v
  unfolding keyword_of
  named_fault-fault_by w None h = sym (unnamed w (sym h))
  named_fault-fault_by w (Some k) h =
      sym (ap (λ n. named_fault root listed p n v) (keyword_in-name all_keywords w k (sym h)) ∙ by_its_name k)

  -- a keyword that is neither `$id` nor `additionalItems`
  pub fault_by-shape : (k : Keyword) → (k ≡ K.Id → ⊥) → (k ≡ K.AdditionalItems → ⊥)
      → fault_by root listed p (Some k) v ≡ shape_fault rules root (shape_by k) (keyword_name k) p v
  fault_by-shape K.Id h i = absurd (h refl)
  fault_by-shape K.AdditionalItems h i = absurd (i refl)
  fault_by-shape _ h i = refl

  -- and `additionalItems` beside a list
  pub fault_by-rest : (k : Keyword) → k ≡ K.AdditionalItems → listed ≡ true
      → fault_by root listed p (Some k) v ≡ shape_fault rules root (shape_by k) (keyword_name k) p v
  fault_by-rest k h e =
      ap (λ j. fault_by root listed p (Some j) v) h
      ∙ ap (λ b. cond b (shape_fault rules root (shape_by K.AdditionalItems) (keyword_name K.AdditionalItems) p v) None)
      e
      ∙ sym (ap (λ j. shape_fault rules root (shape_by j) (keyword_name j) p v) h)

-- ---- the shape of a member's value, by the keyword that its name is

shape_beside-name : (listed : Bool) (k : Keyword) → shape_beside listed (keyword_name k) ≡ shape_given listed (Some k)
unfolding shape_of
shape_beside-name listed K.AdditionalItems = refl
shape_beside-name listed _ = refl

shape_beside-none : (listed : Bool) (w : List ℕ) → keyword_of w ≡ None → shape_beside listed w ≡ None
unfolding keyword_of shape_of shape_or
shape_beside-none listed w h =
    let parts = without_shape (drop 2 all_keywords) w h in
    either_way (same_word w (codes "additionalItems")) listed (shape_of w)
    (keyword_in-none (drop 2 all_keywords) w parts.1)

pub shape_given-beside : (listed : Bool) (w : List ℕ) (o : Option Keyword) → o ≡ keyword_of w
    → shape_given listed o ≡ shape_beside listed w
unfolding keyword_of
shape_given-beside listed w None h = sym (shape_beside-none listed w (sym h))
shape_given-beside listed w (Some k) h =
    sym (ap (shape_beside listed) (keyword_in-name all_keywords w k (sym h)) ∙ shape_beside-name listed k)
