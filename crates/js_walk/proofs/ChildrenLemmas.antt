-- Places that are added: what was there stands where it stood, since pointers keep their numbers.
use Rattle.std.proofs.Common.{◌≡◌, List, [], ◌∷◌, ◌++◌, map, length, nat_lt, Result, Ok, Err, refl, sym, ap, ap₂, subst, ◌∙◌, arith}
use Rattle.std.specs.Prelude.{OnOk}
use Rattle.std.proofs.lemmas.Bool.{ltb-true, and_parts, and_from, lt-ltb}
use Rattle.std.proofs.lemmas.List.{append-nil, append_assoc}
use Rattle.documents.specs.Tests.{every}
use Rattle.documents.specs.Json.{Json}
use Rattle.js_doc.specs.JsonView.{view}
use Rattle.schemas.specs.Places as P
use Rattle.js_pointers.specs.Table.{Grows}
use Rattle.js_walk.specs.declared.place.Place.{Place}
use Rattle.js_walk.specs.PlacesView.{place_view}
use Rattle.js_walk.specs.Visiting.{AreWithin, Adds, Adding}

pub grows-same : (ps : List P.Pointer) → Grows ps ps
grows-same ps = (omega arith, λ n l. refl)

pub grows-on : (ps qs rs : List P.Pointer) → Grows ps qs → Grows qs rs → Grows ps rs
grows-on ps qs rs g h =
    let a = g.0 in
    let b = h.0 in
    (omega (arith, a, b), λ n l. h.1 n (omega (arith, l, a)) ∙ g.1 n l)

pub within-grows : (ps qs : List P.Pointer) (cs : List Place) → Grows ps qs → AreWithin ps cs → AreWithin qs cs
within-grows ps qs [] g all = refl
within-grows ps qs (c ∷ cs) g all =
    let parts = and_parts (nat_lt c.pointer (length ps)) (every (λ c. nat_lt c.pointer (length ps)) cs) all in
    let l = ltb-true c.pointer (length ps) parts.0 in
    let more = g.0 in
    and_from _ _ (lt-ltb c.pointer (length qs) (omega (arith, l, more))) (within-grows ps qs cs g parts.1)

pub views-stay : (ps qs : List P.Pointer) (cs : List Place) → Grows ps qs → AreWithin ps cs
    → map (place_view qs) cs ≡ map (place_view ps) cs
views-stay ps qs [] g all = refl
views-stay ps qs (c ∷ cs) g all =
    let parts = and_parts (nat_lt c.pointer (length ps)) (every (λ c. nat_lt c.pointer (length ps)) cs) all in
    let l = ltb-true c.pointer (length ps) parts.0 in
    ap (λ p. (p, view c.value.now) ∷ map (place_view qs) cs) (g.1 c.pointer l)
    ∙ ap (λ ds. place_view ps c ∷ ds) (views-stay ps qs cs g parts.1)

pub none-added : (ps : List P.Pointer) (cs : List Place) → AreWithin ps cs → Adds ps ps cs cs []
none-added ps cs all = record {
  grows = grows-same ps;
  within = all;
  adds = sym (append-nil (map (place_view ps) cs));
}

pub added-later : (ps qs rs : List P.Pointer) (cs ds : List Place) (more : List P.Place) → Grows ps qs → AreWithin ps cs
    → Adds qs rs cs ds more → Adds ps rs cs ds more
added-later ps qs rs cs ds more g all h = record {
  grows = grows-on ps qs rs g h.grows;
  within = h.within;
  adds = h.adds ∙ ap (λ vs. vs ++ more) (views-stay ps qs cs g all);
}

pub adding-begun : (ps : List P.Pointer) (cs : List Place) (more : List P.Place) → AreWithin ps cs
    → Adding ps ps cs cs more more
adding-begun ps cs more all = record { grows = grows-same ps; within = all; adds = refl }

pub adding-on : (ps qs rs : List P.Pointer) (cs ds es : List Place) (some left all more : List P.Place)
    → Adding ps qs cs ds all more → all ≡ some ++ left → Adds qs rs ds es some → Adding ps rs cs es left more
adding-on ps qs rs cs ds es some left all more h e a = record {
  grows = grows-on ps qs rs h.grows a.grows;
  within = a.within;
  adds = ap (λ vs. vs ++ left) a.adds ∙ append_assoc (map (place_view qs) ds) some left
      ∙ ap (λ vs. map (place_view qs) ds ++ vs) (sym e) ∙ h.adds;
}

pub adding-ended : (ps qs : List P.Pointer) (cs ds : List Place) (left more : List P.Place)
    → Adding ps qs cs ds left more → left ≡ [] → Adds ps qs cs ds more
adding-ended ps qs cs ds left more h none = record {
  grows = h.grows;
  within = h.within;
  adds = sym (append-nil (map (place_view qs) ds)) ∙ ap (λ vs. map (place_view qs) ds ++ vs) (sym none) ∙ h.adds;
}

abbrev pub pair_of : P.Pointer → Json → P.Place
pair_of p v = (p, v)

pub one_place : {p q : P.Pointer} {v w : Json} → p ≡ q → v ≡ w → pair_of p v ≡ pair_of q w
one_place h k = ap₂ pair_of h k

pub on_ok : {A E P Q : Type 0} (r : Result A E) → (P → Q) → OnOk r P → OnOk r Q
on_ok (Ok a) f h = f h
on_ok (Err e) f h = tt

-- one place, whose pointer was added before
pub one-added : (old new : List P.Pointer) (before after : List Place) (c d : P.Place) → Grows old new
    → AreWithin old before → c ≡ d → (AreWithin new before → Adds new new before after (c ∷ []))
    → Adds old new before after (d ∷ [])
one-added old new before after c d g all same h =
    subst (λ x. Adds old new before after (x ∷ [])) same
    (added-later old new new before after (c ∷ []) g all (h (within-grows old new before g all)))
