-- A walk goes on past a place: what is done and what waits is where it was, since pointers keep their numbers.
use Rattle.std.proofs.Common.{◌≡◌, ℕ, zero, suc, ◌+◌, ◌≤◌, ◌<◌, List, [], ◌∷◌, ◌++◌, map, reverse, length, get_or, Bool, true, false, cond, nat_lt, nat_eq, Option, Some, None, is_some, refl, sym, ap, ap₂, subst, ◌∙◌, arith}
use Rattle.std.proofs.lemmas.Bool.{ltb-true, and_parts, and_from, lt-ltb, le-ltb}
use Rattle.std.proofs.lemmas.List.{map-append, reverse-append, reverse-reverse}
use Rattle.std.specs.Map.{lookup}
use Rattle.documents.specs.Tests.{every}
use Rattle.documents.specs.Json.{Json, null, boolean, number, not_whole, string, array, object}
use Rattle.list_laws.proofs.Every.{every_joined}
use Rattle.js_doc.specs.JsonView.{view}
use Rattle.schemas.specs.Places as P
use Rattle.schemas.specs.Places.{has_place}
use Rattle.schemas.specs.Fault.{TooLarge, or_else}
use Rattle.schemas.specs.Weight.{weight}
use Rattle.schemas.specs.Walk.{children}
use Rattle.schemas.specs.Reading.{fault_at}
use Rattle.js_keywords.specs.Reading.{rules}
use Rattle.js_pointers.specs.Table.{AreDistinct, Leads, Grows}
use Rattle.js_walk.specs.declared.place.Place.{Place}
use Rattle.js_walk.specs.declared.place.Done.{Done}
use Rattle.js_walk.specs.declared.place.Found.{Found}
use Rattle.js_walk.specs.PlacesView.{place_view, done_view, reference_in, RefersTo, AreTargets}
use Rattle.js_walk.specs.Visiting.{AreWithin, Settles, Settled, Visited}
use Rattle.js_walk.specs.Walking.{done_places, stack_view, DoneWithin, AllSettled, Kept, Passed}
use Rattle.js_walk.proofs.PlacesLemmas.{has_place-lookup}
use Rattle.js_walk.proofs.ChildrenLemmas.{within-grows, views-stay}
use Rattle.list_laws.proofs.Lists.{map-reverse}

-- Lists.

every-reverse : {A : Type 0} (test : A → Bool) (xs : List A) → every test xs ≡ true → every test (reverse xs) ≡ true
every-reverse test [] h = refl
every-reverse test (x ∷ xs) h =
    let parts = and_parts (test x) (every test xs) h in
    subst (λ ys. every test ys ≡ true) (sym (reverse-append (x ∷ []) xs))
    (every_joined test (reverse xs) (x ∷ []) (every-reverse test xs parts.1) (and_from (test x) true parts.0 refl))

-- What is done.

pub done-within : (ps qs : List P.Pointer) (es : List (ℕ × Done)) → Grows ps qs → DoneWithin ps es → DoneWithin qs es
done-within ps qs [] g all = refl
done-within ps qs (e ∷ es) g all =
    let parts = and_parts (nat_lt e.0 (length ps)) (every (λ e. nat_lt e.0 (length ps)) es) all in
    let l = ltb-true e.0 (length ps) parts.0 in
    let more = g.0 in
    and_from (nat_lt e.0 (length qs)) (every (λ e. nat_lt e.0 (length qs)) es)
    (lt-ltb e.0 (length qs) (omega (arith, l, more))) (done-within ps qs es g parts.1)

pub done-stays : (ps qs : List P.Pointer) (es : List (ℕ × Done)) → Grows ps qs → DoneWithin ps es
    → done_places qs es ≡ done_places ps es
done-stays ps qs [] g all = refl
done-stays ps qs (e ∷ es) g all =
    let parts = and_parts (nat_lt e.0 (length ps)) (every (λ e. nat_lt e.0 (length ps)) es) all in
    let l = ltb-true e.0 (length ps) parts.0 in
    ap (λ p. (p, view e.1.value.now) ∷ done_places qs es) (g.1 e.0 l)
    ∙ ap (λ ds. done_view ps e ∷ ds) (done-stays ps qs es g parts.1)

settles-stays : (ps qs : List P.Pointer) (t : Option ℕ) (p : P.Pointer) → Grows ps qs → Settles ps t p → Settles qs t p
settles-stays ps qs None p g h = h
settles-stays ps qs (Some n) p g h =
    let more = g.0 in let l = h.0 in (omega (arith, l, more), g.1 n l ∙ h.1)

settled-stays : (root : Json) (ps qs : List P.Pointer) (r : Option Json) (t : Option ℕ) → Grows ps qs
    → Settled root ps r t → Settled root qs r t
settled-stays root ps qs None t g h = tt
settled-stays root ps qs (Some null) t g h = tt
settled-stays root ps qs (Some (boolean b)) t g h = tt
settled-stays root ps qs (Some (number n)) t g h = tt
settled-stays root ps qs (Some not_whole) t g h = tt
settled-stays root ps qs (Some (string w)) t g h = (h.0, h.1, settles-stays ps qs t h.0 g h.2)
settled-stays root ps qs (Some (array vs)) t g h = tt
settled-stays root ps qs (Some (object ms)) t g h = tt

all_settled-stays : (root : Json) (ps qs : List P.Pointer) (es : List (ℕ × Done)) → Grows ps qs
    → AllSettled root ps es → AllSettled root qs es
all_settled-stays root ps qs [] g h = tt
all_settled-stays root ps qs (e ∷ es) g h = (
  settled-stays root ps qs (reference_in (view e.1.value.now)) e.1.target g h.0,
  all_settled-stays root ps qs es g h.1,
)

all_settled-more : (root : Json) (ps : List P.Pointer) (es : List (ℕ × Done)) (e : ℕ × Done) → AllSettled root ps es
    → Settled root ps (reference_in (view e.1.value.now)) e.1.target → AllSettled root ps (es ++ e ∷ [])
all_settled-more root ps [] e h s = (s, tt)
all_settled-more root ps (d ∷ es) e h s = (h.0, all_settled-more root ps es e h.1 s)

settles-leads : (ps : List P.Pointer) (t : Option ℕ) (p : P.Pointer) → Settles ps t p → Leads ps t p
settles-leads ps None p h = absurd h
settles-leads ps (Some n) p h = h

settled-refers : (root : Json) (ps : List P.Pointer) (r : Option Json) (t : Option ℕ) → Settled root ps r t
    → RefersTo root ps r t
settled-refers root ps None t h = tt
settled-refers root ps (Some null) t h = tt
settled-refers root ps (Some (boolean b)) t h = tt
settled-refers root ps (Some (number n)) t h = tt
settled-refers root ps (Some not_whole) t h = tt
settled-refers root ps (Some (string w)) t h = (h.0, h.1, settles-leads ps t h.0 h.2)
settled-refers root ps (Some (array vs)) t h = tt
settled-refers root ps (Some (object ms)) t h = tt

pub targets-settled : (root : Json) (ps : List P.Pointer) (es : List (ℕ × Done)) → AllSettled root ps es
    → AreTargets root ps (done_places ps es) (map (λ e. e.1.target) es)
targets-settled root ps [] h i c t l is at = absurd (omega (arith, l))
targets-settled root ps (e ∷ es) h zero c t l is at =
    subst (λ v. RefersTo root ps (reference_in v) t) (sym (ap (λ c. c.1) is))
    (subst (λ u. RefersTo root ps (reference_in (view e.1.value.now)) u) (sym at)
    (settled-refers root ps (reference_in (view e.1.value.now)) e.1.target h.0))
targets-settled root ps (e ∷ es) h (suc i) c t l is at =
    targets-settled root ps es h.1 i c t (omega (arith, l)) is at

-- One step of the walk.

-- a place that is done, with what was found there
abbrev pub entry_of : Place → Found → ℕ × Done
entry_of p found = (p.pointer, record { value = p.value; target = found.target })

pub kept-first : (root : Json) (ps : List P.Pointer) (es : List (ℕ × Done)) (before cs : List Place) (p : Place)
    → es ≡ [] → cs ≡ before ++ p ∷ [] → before ≡ [] → p.pointer < length ps → Kept root ps es cs
kept-first root ps es before cs p none e empty l = record {
  done = subst (λ es. DoneWithin ps es) (sym none) refl;
  waiting =
      subst (λ cs. AreWithin ps cs) (sym (e ∙ ap (λ bs. bs ++ p ∷ []) empty))
      (and_from (nat_lt p.pointer (length ps)) true (lt-ltb p.pointer (length ps) l) refl);
  settled = subst (λ es. AllSettled root ps es) (sym none) tt;
}

module _ (root : Json) (ps qs : List P.Pointer) (es : List (ℕ × Done)) (cs : List Place) (p : Place)
    (kept : Kept root ps es cs) (within : p.pointer < length ps) (found : Found)
    (visited : Visited root ps qs (fault_at rules root (place_view ps p)) (children rules root (place_view ps p))
    (reference_in (view p.value.now)) found) where
  grows : Grows ps qs
  grows = let leads = visited.leads in leads.grows

  abbrev now_done : ℕ × Done
  now_done = entry_of p found

  pub kept-more : Kept root qs (es ++ now_done ∷ []) (cs ++ reverse found.places.items)
  kept-more = record {
    done =
        let more = grows.0 in
        every_joined (λ e. nat_lt e.0 (length qs)) es (now_done ∷ []) (done-within ps qs es grows kept.done)
        (and_from (nat_lt p.pointer (length qs)) true (lt-ltb p.pointer (length qs) (omega (arith, within, more)))
        refl);
    waiting =
        let leads = visited.leads in
        every_joined (λ c. nat_lt c.pointer (length qs)) cs (reverse found.places.items)
        (within-grows ps qs cs grows kept.waiting)
        (every-reverse (λ c. nat_lt c.pointer (length qs)) found.places.items leads.within);
    settled =
        all_settled-more root qs es now_done (all_settled-stays root ps qs es grows kept.settled) visited.refers;
  }

  same_place : place_view qs p ≡ place_view ps p
  same_place = ap (λ q. (q, view p.value.now)) (grows.1 p.pointer within)

  pub passed-more : (before after : ℕ) → after ≡ before + weight (place_view qs p) → after ≤ 2147483647
      → Passed root before after (place_view ps p) (done_places ps es) (done_places qs (es ++ now_done ∷ []))
      (stack_view ps cs) (stack_view qs (cs ++ reverse found.places.items))
  passed-more before after e light =
      let weighs = e ∙ ap (λ c. before + weight c) same_place in record {
        faultless =
            ap₂ or_else visited.faultless
            (ap (λ b. cond b (Some (TooLarge (get_or ps p.pointer []))) None)
            (le-ltb 2147483647 (before + weight (place_view ps p)) (omega (arith, weighs, light))));
        weighs = weighs;
        light = light;
        done =
            map-append (done_view qs) es (now_done ∷ [])
            ∙ ap₂ (λ cs c. cs ++ c ∷ []) (done-stays ps qs es grows kept.done) same_place;
        waiting =
            let leads = visited.leads in
            ap reverse (map-append (place_view qs) cs (reverse found.places.items))
            ∙ reverse-append (map (place_view qs) cs) (map (place_view qs) (reverse found.places.items))
            ∙ ap₂ (λ a b. a ++ b)
            (ap reverse (map-reverse (place_view qs) found.places.items)
            ∙ reverse-reverse (map (place_view qs) found.places.items) ∙ leads.adds)
            (ap reverse (views-stay ps qs cs grows kept.waiting));
      }

-- a place that isn't done has no entry
pub not_done : (ps : List P.Pointer) → AreDistinct ps → (n : ℕ) (es : List (ℕ × Done)) → DoneWithin ps es
    → n < length ps
    → has_place (done_places ps es) (get_or ps n []) ≡ false → is_some (lookup (nat_eq n) es) ≡ false
not_done ps distinct n es within less new =
    has_place-lookup ps distinct n (get_or ps n []) less refl es within ∙ new

-- the targets of a walk that has ended
pub targets-seen : (root : Json) (ps qs : List P.Pointer) (es : List (ℕ × Done)) (cs : List P.Place)
    (ts : List (Option ℕ)) → qs ≡ ps → cs ≡ done_places ps es → ts ≡ map (λ e. e.1.target) es → AllSettled root ps es
    → AreTargets root qs cs ts
targets-seen root ps qs es cs ts p c t h =
    subst (λ ts. AreTargets root qs cs ts) (sym t)
    (subst (λ cs. AreTargets root qs cs (map (λ e. e.1.target) es)) (sym c)
    (subst (λ rs. AreTargets root rs (done_places ps es) (map (λ e. e.1.target) es)) (sym p)
    (targets-settled root ps es h)))
