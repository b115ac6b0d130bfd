-- Vectors that are kept once, and for each vector the place at which it is kept.
use Rattle.std.proofs.Common.{◌≡◌, ℕ, ◌≤◌, inl, inr, Bool, true, if◌then◌else◌, List, [], ◌∷◌, ◌++◌, map, length, refl, ap, ap₂, sym, ◌∙◌, subst, arith}
use Rattle.std.specs.Bool.{beq}
use Rattle.std.specs.Cmp.Lexicographic.{pointwise}
use Rattle.std.specs.List.{list_any, position_or_len}
use Rattle.std.proofs.lemmas.List.{map-append, map-id}
use Rattle.list_laws.specs.In.{IsIn}
use Rattle.word_states.specs.Mention.{mention, mention_all}
use Rattle.word_laws.proofs.Mentions as M
use Rattle.cells.specs.Cells.{same_vector, place}
use Rattle.js_said.proofs.Vectors.{same_laws, place_left, items_mention, items_place, mentions-length}

pub kept_mention : (v : List Bool) (ks : List (List Bool))
    → (if list_any (pointwise beq v) ks then ks else ks ++ v ∷ []) ≡ mention same_vector ks v
kept_mention v ks =
    sym (map-id (if list_any (pointwise beq v) ks then ks else ks ++ v ∷ [])) ∙ items_mention (λ u. u) v ks
    ∙ ap (λ z. mention same_vector z v) (map-id ks)

pub kept_place : (v : List Bool) (ks new : List (List Bool)) → new ≡ mention same_vector ks v
    → position_or_len (pointwise beq v) ks ≡ place v new
kept_place v ks new e =
    items_place (λ u. u) v ks new (map-id new ∙ e ∙ ap (λ z. mention same_vector z v) (sym (map-id ks)))
    ∙ ap (place v) (map-id new)

-- these vectors are kept, and these are their places
pub record AreNumbered (vs ks : List (List Bool)) (cs : List ℕ) : Type 0 where
  pub vectors : ks ≡ mention_all same_vector [] vs
  pub cells : cs ≡ map (λ v. place v ks) vs

places_stay : (vs ks X : List (List Bool)) → ((v : List Bool) → IsIn v vs → list_any (same_vector v) ks ≡ true)
    → map (λ v. place v (ks ++ X)) vs ≡ map (λ v. place v ks) vs
places_stay [] ks X h = refl
places_stay (v ∷ vs) ks X h =
    ap₂ (λ n ns. n ∷ ns) (place_left v ks X (h v (inl refl))) (places_stay vs ks X (λ u i. h u (inr i)))

-- with one more vector mentioned, and its place added, all vectors are kept and have their places
pub numbered_more : (vs ks new : List (List Bool)) (v : List Bool) (cs ds : List ℕ) → new ≡ mention same_vector ks v
    → ds ≡ cs ++ place v new ∷ [] → AreNumbered vs ks cs → AreNumbered (vs ++ v ∷ []) new ds
numbered_more vs ks new v cs ds m d g = record {
  vectors =
      m ∙ ap (λ z. mention same_vector z v) g.vectors
      ∙ sym (M.mentions_append same_vector same_laws [] vs (v ∷ []));
  cells =
      d ∙ ap (λ ns. ns ++ place v new ∷ []) (g.cells ∙ sym stay)
      ∙ sym (map-append (λ u. place u new) vs (v ∷ []));
} where
  stay : map (λ u. place u new) vs ≡ map (λ u. place u ks) vs
  stay =
      let (X, p) = M.mention_grows same_vector same_laws ks v in
      ap (λ z. map (λ u. place u z) vs) (m ∙ p)
      ∙ places_stay vs ks X (λ u i.
      subst (λ z. list_any (same_vector u) z ≡ true) (sym g.vectors)
      (M.mentions_have same_vector same_laws [] vs u u i (same_laws.refl u)))

pub numbered_few : (vs ks : List (List Bool)) (cs : List ℕ) → AreNumbered vs ks cs → length ks ≤ length vs
numbered_few vs ks cs g =
    let a = mentions-length [] vs in let e = ap length g.vectors in omega (arith, a, e)
