use Rattle.std.proofs.Common.{rules, ◌≡◌, ◌<◌, ◌++◌, ◌&&◌, not, nat_lt, map, take, drop, length, get_or, filter, ℕ, [], ◌∷◌, true, false, refl, sym, ap, subst, ◌∙◌, arith}
use Rattle.documents.specs.Tests.{every}
use Rattle.documents.specs.Document.{string, depth}
use Rattle.schemas.specs.Schema.{meets, lists, one, form_in_range}
use Rattle.draft06.specs.EntryValidity.{form_at}
use Rattle.js_doc.specs.View.{view, list_view, map_view, member_view}
use Rattle.js_doc.proofs.Levels.{elements-of, entries-of}
use Rattle.js_match.specs.Matching.{matches}
use Rattle.js_valid.specs.Choices.{AreChoices}
use Rattle.js_valid.specs.Parts.{flag, parts, asked_by, of_element, of_contains, of_member, of_name}
use Rattle.js_valid.specs.Plan.{table_of, valid_at}
use Rattle.js_valid.specs.Requests.{FinePart, contained, entries_in, owners_in, parts_list, parts_members}
use Rattle.js_match.proofs.WalkLaws as W
use Rattle.js_valid.proofs.AskedLaws as K
use Rattle.js_valid.proofs.DecideLaws as D
use Rattle.js_valid.proofs.KeptLaws as Q
use Rattle.js_valid.proofs.PlainLaws as L
use Rattle.js_valid.proofs.PlanLaws.{form_at-get, valid-past}
use Rattle.js_valid.proofs.RequestLaws.{entries-long, owner_one}
use Rattle.js_valid.proofs.SearchLaws.{form-fine}
use Rattle.js_valid.specs.Plain.{is_plain, is_scalar}
use Rattle.js_schema.specs.View.{form_view}
use Rattle.js_valid.proofs.DepthLaws.{item-depth, member-depth, view-scalar, view-Text}
use Rattle.js_valid.proofs.TargetLaws.{target-met}
use Rattle.js_valid.proofs.validator.Validator.+decide.Goals as goal

pub decide_element-refuse_all-requires : goal.decide_element-refuse_all-requires
decide_element-refuse_all-requires t c =
    let all : c.add_requested.new.entries.items
    ≡ entries_in c.args.requests.now ++ entries_in c.args.contains.now = search rules in
    let answers : c.in_ok-answers.answers.items
    ≡ map (λ q. valid_at (table_of c.args.self.now) q (view c.args.doc.now)) c.add_requested.new.entries.items =
    search rules in
    D.front-long c.args.requests.now c.args.contains.now (λ q. valid_at (table_of c.args.self.now) q
    (view c.args.doc.now)) c.add_requested.new.entries.items c.in_ok-answers.answers.items c.split_at.result.0.now
    all answers (search rules)

pub decide_element-refuse_none-requires : goal.decide_element-refuse_none-requires
decide_element-refuse_none-requires t c =
    let all : c.add_requested.new.entries.items
    ≡ entries_in c.args.requests.now ++ entries_in c.args.contains.now = search rules in
    let answers : c.in_ok-answers.answers.items
    ≡ map (λ q. valid_at (table_of c.args.self.now) q (view c.args.doc.now)) c.add_requested.new.entries.items =
    search rules in
    D.back-long c.args.requests.now c.args.contains.now (λ q. valid_at (table_of c.args.self.now) q
    (view c.args.doc.now)) c.add_requested.new.entries.items c.in_ok-answers.answers.items c.split_at.result.1.now
    all answers (search rules)

pub decide_element-returns-clause-fine : goal.decide_element-returns-clause-fine
decide_element-returns-clause-fine t c h e =
    let all : c.add_requested.new.entries.items
    ≡ entries_in c.args.requests.now ++ entries_in c.args.contains.now = search rules in
    let answers : c.in_ok-answers.answers.items
    ≡ map (λ q. valid_at (table_of c.args.self.now) q (view c.args.doc.now)) c.add_requested.new.entries.items =
    search rules in
    let front : c.split_at.result.0.now ≡ take (length c.args.requests.now) c.in_ok-answers.answers.items =
    search rules in
    c.refuse_all.ensures.value e
    ∙ ap (λ b. flag c.args.tests.now.fine.items e && b)
    (D.front-asked e (λ q. valid_at (table_of c.args.self.now) q (view c.args.doc.now))
    (owners_in c.args.requests.now) (entries_in c.args.requests.now) (entries_in c.args.contains.now)
    c.add_requested.new.entries.items c.in_ok-answers.answers.items c.split_at.result.0.now all answers
    (front ∙ ap (λ n. take n c.in_ok-answers.answers.items) (sym (entries-long c.args.requests.now))))

pub decide_element-returns-clause-unmet : goal.decide_element-returns-clause-unmet
decide_element-returns-clause-unmet t c h e =
    let all : c.add_requested.new.entries.items
    ≡ entries_in c.args.requests.now ++ entries_in c.args.contains.now = search rules in
    let answers : c.in_ok-answers.answers.items
    ≡ map (λ q. valid_at (table_of c.args.self.now) q (view c.args.doc.now)) c.add_requested.new.entries.items =
    search rules in
    let back : c.split_at.result.1.now ≡ drop (length c.args.requests.now) c.in_ok-answers.answers.items =
    search rules in
    c.refuse_none.ensures.value e
    ∙ ap (λ b. flag c.args.tests.now.unmet.items e && b)
    (D.back-asked e (λ q. valid_at (table_of c.args.self.now) q (view c.args.doc.now))
    (owners_in c.args.contains.now) (entries_in c.args.requests.now) (entries_in c.args.contains.now)
    c.add_requested.new.entries.items c.in_ok-answers.answers.items c.split_at.result.1.now all answers
    (back ∙ ap (λ n. drop n c.in_ok-answers.answers.items) (sym (entries-long c.args.requests.now))))

pub decide_name-returns : goal.decide_name-returns
decide_name-returns t c h e =
    c.decide_part.ensures h e
    ∙ ap (λ d. flag c.args.fine.now.items e && asked_by e (λ q. valid_at (table_of c.args.self.now) q d)
    (owners_in c.args.requests.now) (entries_in c.args.requests.now))
    (view-Text c.new.result ∙ ap string (c.new.ensures ∙ c.in_ok-copy.ensures))

pub decide_part-refuse_all-requires : goal.decide_part-refuse_all-requires
decide_part-refuse_all-requires t c =
    D.answers-long c.args.requests.now (λ q. valid_at (table_of c.args.self.now) q (view c.args.doc.now))
    c.deref-2.result.now (search rules)

pub decide_part-returns : goal.decide_part-returns
decide_part-returns t c h e =
    let answers : c.deref-2.result.now ≡ map (λ q. valid_at (table_of c.args.self.now) q (view c.args.doc.now))
    (entries_in c.args.requests.now) = search rules in
    c.refuse_all.ensures.value e
    ∙ ap (λ b. flag c.args.fine.now.items e && b)
    (D.answers-asked e (λ q. valid_at (table_of c.args.self.now) q (view c.args.doc.now))
    (owners_in c.args.requests.now) (entries_in c.args.requests.now) c.deref-2.result.now answers)

pub fine_list-loop-place-init : goal.fine_list-loop-place-init
fine_list-loop-place-init t c = record {
  fine = λ e h. D.all-first _ _ (c.in_ok-fine.ensures.all e h);
  unmet = λ e h f. D.all-first _ _ (c.in_ok-unmet.ensures.all e h);
  within = c.in_ok-asking.ensures.within;
  elsewhere = λ k i less f none. c.in_ok-asking.ensures.others k i less none;
  contains = λ e p less f. c.in_ok-contains.ensures e p less;
}

pub fine_list-of_element-requires-clause-within : goal.fine_list-of_element-requires-clause-within
fine_list-of_element-requires-clause-within t c =
    let kept = c.keep_places.ensures ∙ ap (λ bs. filter (flag bs) c.loop-place.asking.items) c.deref.ensures.value in
    Q.within-filter (flag c.loop-place.tests.fine.items) (length c.args.owners.now) c.loop-place.asking.items
    c.deref-in-loop-place-3.result.now (c.deref-in-loop-place-3.ensures.value ∙ kept) c.loop-place.invariant.within

pub fine_list-decide_element-requires : goal.fine_list-decide_element-requires
fine_list-decide_element-requires t c = (
  omega (
    arith,
    c.decreases,
    item-depth c.as_slice-child-items.result.now c.loop-place.place c.child-item.result (list_view c.args.list.now)
        c.loop-place-test.true c.child-item.is c.as_slice-child-items.ensures.view,
  ),
  c.requires.plan,
)

pub fine_list-loop-place-preserved : goal.fine_list-loop-place-preserved
fine_list-loop-place-preserved t c =
    let es = table_of c.args.self.now in
    let owners = c.args.owners.now in
    let items = c.as_slice-child-items.result.now in
    let fine = c.loop-place.tests.fine.items in
    let unmet = c.loop-place.tests.unmet.items in
    let asking = c.loop-place.asking.items in
    let left = c.keep_places.new.places.items in
    let kept : left ≡ filter (flag fine) asking =
    c.keep_places.ensures ∙ ap (λ bs. filter (flag bs) asking) c.deref.ensures.value in
    let still_fine : (i : ℕ) → flag c.decide_element.new.tests.fine.items i ≡ true → flag fine i ≡ true =
    λ i h. Q.left-still (flag fine i) _ _ (c.in_ok-decide_element.ensures.fine refl i) h in
    let still_unmet : (i : ℕ) → flag c.decide_element.new.tests.unmet.items i ≡ true → flag unmet i ≡ true =
    λ i h. Q.left-still (flag unmet i) _ _ (c.in_ok-decide_element.ensures.unmet refl i) h in
    let places = c.deref-in-loop-place-3.result.now in
    let asked = Q.places-asked es (λ f. of_element f c.loop-place.place) owners (flag fine) places
    (owners_in c.in_ok-requests.requests.items) (entries_in c.in_ok-requests.requests.items)
    (Q.elsewhere-kept es (λ f. of_element f c.loop-place.place) owners (flag fine) asking places
    (c.deref-in-loop-place-3.ensures.value ∙ kept) (c.loop-place.invariant.elsewhere c.loop-place.place))
    c.in_ok-requests.ensures in
    let of_fine = Q.asked-kept es of_contains owners (λ e. flag fine e && flag unmet e) c.deref-in-loop-place.result.now
    (owners_in c.loop-place.contains.items) (entries_in c.loop-place.contains.items)
    (owners_in c.keep_requests.new.requests.items) (entries_in c.keep_requests.new.requests.items)
    (λ e h. ap (λ bs. flag bs e) c.deref-in-loop-place.ensures.value ∙ Q.both-left (flag fine e) (flag unmet e) h)
    c.keep_requests.ensures c.loop-place.invariant.contains in
    let of_unmet = Q.asked-kept es of_contains owners (λ e. flag fine e && flag unmet e)
    c.deref-in-loop-place-2.result.now
    (owners_in c.keep_requests.new.requests.items) (entries_in c.keep_requests.new.requests.items)
    (owners_in c.keep_requests-in-loop-place.new.requests.items)
    (entries_in c.keep_requests-in-loop-place.new.requests.items)
    (λ e h. ap (λ bs. flag bs e) c.deref-in-loop-place-2.ensures.value ∙ Q.both-right (flag fine e) (flag unmet e) h)
    c.keep_requests-in-loop-place.ensures of_fine in
    record {
      fine = λ e h.
          let form = form_at es (get_or owners e 0) in
          D.step_each view (λ i d. every (λ q. valid_at es q d) (of_element form i)) items c.loop-place.place
          c.child-item.result (flag fine e) (flag c.decide_element.new.tests.fine.items e) _
          c.loop-place-test.true c.child-item.is
          (c.in_ok-decide_element.ensures.fine refl e
          ∙ ap (λ rs. flag fine e && asked_by e (λ q. valid_at es q (view c.child-item.result)) (owners_in rs)
          (entries_in rs)) c.deref-in-loop-place-4.ensures.value
          ∙ Q.where-left (flag fine e) _ _ (asked e (λ q. valid_at es q (view c.child-item.result)) h))
          (c.loop-place.invariant.fine e h);
      unmet = λ e h f.
          let form = form_at es (get_or owners e 0) in
          let was = still_fine e f in
          D.step_every view (λ d. every (λ q. not (valid_at es q d)) (of_contains form)) items c.loop-place.place
          c.child-item.result (flag unmet e) (flag c.decide_element.new.tests.unmet.items e) _
          c.loop-place-test.true c.child-item.is
          (c.in_ok-decide_element.ensures.unmet refl e
          ∙ ap (λ rs. flag unmet e && asked_by e (λ q. not (valid_at es q (view c.child-item.result))) (owners_in rs)
          (entries_in rs)) c.deref-in-loop-place-5.ensures.value
          ∙ Q.where-left (flag unmet e) _ _ (λ u. of_unmet e (λ q. not (valid_at es q (view c.child-item.result))) h
          (ap (λ b. b && flag unmet e) was ∙ u)))
          (c.loop-place.invariant.unmet e h was);
      within = Q.within-filter (flag fine) (length owners) asking left kept c.loop-place.invariant.within;
      elsewhere = λ k.
          Q.elsewhere-fewer es (λ f. of_element f k) owners (flag fine) (flag c.decide_element.new.tests.fine.items)
          left still_fine (Q.elsewhere-kept es (λ f. of_element f k) owners (flag fine) asking left kept
          (c.loop-place.invariant.elsewhere k));
      contains = Q.asked-fewer es of_contains owners (λ e. flag fine e && flag unmet e)
          (λ e. flag c.decide_element.new.tests.fine.items e && flag c.decide_element.new.tests.unmet.items e)
          (owners_in c.keep_requests-in-loop-place.new.requests.items)
          (entries_in c.keep_requests-in-loop-place.new.requests.items)
          (λ e h.
          ap (λ b. b && flag unmet e) (still_fine e (Q.both-left (flag c.decide_element.new.tests.fine.items e) _ h))
          ∙ still_unmet e (Q.both-right (flag c.decide_element.new.tests.fine.items e) _ h)) of_unmet;
    }

pub fine_list-returns : goal.fine_list-returns
fine_list-returns t c e h =
    let es = table_of c.args.self.now in
    let form = form_at es (get_or c.args.owners.now e 0) in
    let items = c.as_slice-child-items.result.now in
    let unmet : c.deref-2.result.now ≡ c.loop-place.tests.unmet.items = search rules in
    let none = every (λ d. every (λ q. not (valid_at es q d)) (of_contains form)) (map view items) in
    let fine = D.end_each view (λ i d. every (λ q. valid_at es q d) (of_element form i)) items c.loop-place.place
    (flag c.loop-place.tests.fine.items e) _ (omega (arith, c.loop-place-test.false))
    (c.loop-place.invariant.fine e h) in
    c.contain.ensures e
    ∙ ap (λ b. flag c.loop-place.tests.fine.items e && b) (owner_one (λ i o. meets
    (λ q. not (flag c.deref-2.result.now i)) (contained (form_at es o))) e c.args.owners.now h
    ∙ ap (λ bs. meets (λ q. not (flag bs e)) (contained form)) unmet)
    ∙ Q.where-left (flag c.loop-place.tests.fine.items e)
    (meets (λ q. not (flag c.loop-place.tests.unmet.items e)) (contained form)) (meets (λ q. not none) (contained form))
    (λ f. ap (λ b. meets (λ q. not b) (contained form))
    (D.end_every view (λ d. every (λ q. not (valid_at es q d)) (of_contains form)) items c.loop-place.place
    (flag c.loop-place.tests.unmet.items e) _ (omega (arith, c.loop-place-test.false))
    (c.loop-place.invariant.unmet e h f)))
    ∙ D.list-done (valid_at es) form (map view items) _ _ fine refl
    ∙ ap (parts_list (valid_at es) form) (sym (elements-of _ _ c.as_slice-child-items.ensures.view))

pub fine_members-loop-member-init : goal.fine_members-loop-member-init
fine_members-loop-member-init t c = record {
  fine = λ e h. D.all-first _ _ (c.in_ok-fine.ensures.all e h);
  within = c.in_ok-asking.ensures.within;
  elsewhere = λ w i less f none. c.in_ok-asking.ensures.others w i less none;
  names = λ e p less f. c.in_ok-names.ensures e p less;
}

pub fine_members-of_member-requires-clause-within : goal.fine_members-of_member-requires-clause-within
fine_members-of_member-requires-clause-within t c =
    let kept = c.keep_places.ensures ∙ ap (λ bs. filter (flag bs) c.loop-member.asking.items) c.deref.ensures.value in
    Q.within-filter (flag c.loop-member.fine.items) (length c.args.owners.now) c.loop-member.asking.items
    c.deref-in-loop-member.result.now (c.deref-in-loop-member.ensures.value ∙ kept) c.loop-member.invariant.within

pub fine_members-decide_part-requires : goal.fine_members-decide_part-requires
fine_members-decide_part-requires t c = (
  omega (
    arith,
    c.decreases,
    ap depth c.value.ensures.view,
    member-depth c.as_slice-member-items.result.now c.loop-member.member-index c.member-item.result
        (map_view c.args.members.now) c.loop-member-test.true c.member-item.is c.as_slice-member-items.ensures.view,
  ),
  c.requires.plan,
)

pub fine_members-loop-member-preserved : goal.fine_members-loop-member-preserved
fine_members-loop-member-preserved t c =
    let es = table_of c.args.self.now in
    let owners = c.args.owners.now in
    let fine = c.loop-member.fine.items in
    let asking = c.loop-member.asking.items in
    let left = c.keep_places.new.places.items in
    let named = c.name.result.now in
    let kept : left ≡ filter (flag fine) asking =
    c.keep_places.ensures ∙ ap (λ bs. filter (flag bs) asking) c.deref.ensures.value in
    let before : (i : ℕ) → flag c.decide_part.new.fine.items i ≡ true → flag fine i ≡ true =
    λ i h. Q.left-still (flag fine i) _ _ (c.in_ok-decide_part.ensures refl i) h in
    let still : (i : ℕ) → flag c.decide_name.new.fine.items i ≡ true → flag c.decide_part.new.fine.items i ≡ true =
    λ i h. Q.left-still (flag c.decide_part.new.fine.items i) _ _ (c.in_ok-decide_name.ensures refl i) h in
    let asked = Q.places-asked es (λ f. of_member matches f named) owners (flag fine) c.deref-in-loop-member.result.now
    (owners_in c.in_ok-requests.requests.items) (entries_in c.in_ok-requests.requests.items)
    (Q.elsewhere-kept es (λ f. of_member matches f named) owners (flag fine) asking c.deref-in-loop-member.result.now
    (c.deref-in-loop-member.ensures.value ∙ kept) (c.loop-member.invariant.elsewhere named))
    c.in_ok-requests.ensures in
    let words = Q.asked-kept es of_name owners (flag c.decide_part.new.fine.items) c.deref-in-loop-member-3.result.now
    (owners_in c.loop-member.names.items) (entries_in c.loop-member.names.items)
    (owners_in c.keep_requests.new.requests.items) (entries_in c.keep_requests.new.requests.items)
    (λ e h. ap (λ bs. flag bs e) c.deref-in-loop-member-3.ensures.value ∙ h) c.keep_requests.ensures
    (Q.asked-fewer es of_name owners (flag fine) (flag c.decide_part.new.fine.items)
    (owners_in c.loop-member.names.items) (entries_in c.loop-member.names.items) before
    c.loop-member.invariant.names) in
    record {
      fine = λ e h.
          let form = form_at es (get_or owners e 0) in
          let part = λ (f : flag fine e ≡ true).
          asked e (λ q. valid_at es q (view c.value.result.now)) h f
          ∙ ap (λ d. every (λ q. valid_at es q d) (of_member matches form named)) c.value.ensures.view
          ∙ ap (λ w. every (λ q. valid_at es q (member_view c.member-item.result).1) (of_member matches form w))
          c.name.ensures.view in
          let word = λ (f : flag c.decide_part.new.fine.items e ≡ true).
          words e (λ q. valid_at es q (string c.name-in-loop-member.result.now)) h f
          ∙ ap (λ w. every (λ q. valid_at es q (string w)) (of_name form)) c.name-in-loop-member.ensures.view in
          D.step_every member_view (λ m. every (λ q. valid_at es q m.1) (of_member matches form m.0)
          && every (λ q. valid_at es q (string m.0)) (of_name form)) c.as_slice-member-items.result.now
          c.loop-member.member-index c.member-item.result (flag fine e) (flag c.decide_name.new.fine.items e) _
          c.loop-member-test.true c.member-item.is
          (D.two-asked (flag fine e) (flag c.decide_part.new.fine.items e) (flag c.decide_name.new.fine.items e) _ _
          (c.in_ok-decide_part.ensures refl e
          ∙ ap (λ rs. flag fine e && asked_by e (λ q. valid_at es q (view c.value.result.now)) (owners_in rs)
          (entries_in rs)) c.deref-in-loop-member-2.ensures.value
          ∙ Q.where-left (flag fine e) _ _ part)
          (c.in_ok-decide_name.ensures refl e
          ∙ ap (λ rs. flag c.decide_part.new.fine.items e && asked_by e
          (λ q. valid_at es q (string c.name-in-loop-member.result.now)) (owners_in rs) (entries_in rs))
          c.deref-in-loop-member-4.ensures.value
          ∙ Q.where-left (flag c.decide_part.new.fine.items e) _ _ word))
          (c.loop-member.invariant.fine e h);
      within = Q.within-filter (flag fine) (length owners) asking left kept c.loop-member.invariant.within;
      elsewhere = λ w.
          Q.elsewhere-fewer es (λ f. of_member matches f w) owners (flag fine) (flag c.decide_name.new.fine.items) left
          (λ i h. before i (still i h)) (Q.elsewhere-kept es (λ f. of_member matches f w) owners (flag fine) asking left
          kept (c.loop-member.invariant.elsewhere w));
      names = Q.asked-fewer es of_name owners (flag c.decide_part.new.fine.items) (flag c.decide_name.new.fine.items)
          (owners_in c.keep_requests.new.requests.items) (entries_in c.keep_requests.new.requests.items) still words;
    }

pub fine_members-returns : goal.fine_members-returns
fine_members-returns t c e h =
    let es = table_of c.args.self.now in
    let form = form_at es (get_or c.args.owners.now e 0) in
    let items = c.as_slice-member-items.result.now in
    D.end_every member_view (λ m. every (λ q. valid_at es q m.1) (of_member matches form m.0)
    && every (λ q. valid_at es q (string m.0)) (of_name form)) items c.loop-member.member-index
    (flag c.loop-member.fine.items e) _ (omega (arith, c.loop-member-test.false)) (c.loop-member.invariant.fine e h)
    ∙ D.members-done (valid_at es) form (map member_view items)
    ∙ ap (parts_members matches (valid_at es) form)
    (sym (entries-of _ _ c.as_slice-member-items.ensures.view))

pub verdicts-returns-then-are_plain : goal.verdicts-returns-then-are_plain
verdicts-returns-then-are_plain t c =
    let es = table_of c.args.self.now in
    let scalar : is_scalar (view c.args.doc.now) ≡ true = search rules in
    let plain : every (λ q. is_plain (form_at (table_of c.args.self.now) q)) c.args.entries.now ≡ true =
    search rules in
    W.ok_then c.own_verdicts.result _ _ (λ vs e.
    e ∙ L.own-valid es c.args.self.now.plan.now.order.items c.requires.plan (view c.args.doc.now) scalar
    c.args.entries.now plain)
    c.own_verdicts.ensures

pub table_verdicts-fine_parts-requires : goal.table_verdicts-fine_parts-requires
table_verdicts-fine_parts-requires t c = (
  omega (arith, c.decreases),
  (
    c.requires,
    subst (λ os. every (λ o. nat_lt o (length (table_of c.args.self.now))) os ≡ true) (sym c.deref.ensures.value)
        c.in_ok-asked.ensures.asked.range,
  ),
)

pub table_verdicts-settle-requires-clause-parts : goal.table_verdicts-settle-requires-clause-parts
table_verdicts-settle-requires-clause-parts t c =
    subst (λ bs. FinePart (table_of c.args.self.now) c.in_ok-asked.asked.owners.items bs
    (λ e. parts matches (valid_at (table_of c.args.self.now)) (form_at (table_of c.args.self.now) e)
    (view c.args.doc.now))) (sym c.deref-2.ensures.value)
    (subst (λ os. FinePart (table_of c.args.self.now) os c.in_ok-fine.fine.items
    (λ e. parts matches (valid_at (table_of c.args.self.now)) (form_at (table_of c.args.self.now) e)
    (view c.args.doc.now))) c.deref.ensures.value c.in_ok-fine.ensures)

pub table_verdicts-returns : goal.table_verdicts-returns
table_verdicts-returns t c =
    W.ok_then c.tests_of.result _ _ (λ vs e.
    e ∙ ap (λ n. map (λ q. nat_lt q n && flag c.deref-3.result.now q) c.args.entries.now) c.len.ensures.value
    ∙ ap (λ bs. map (λ q. nat_lt q (length (table_of c.args.self.now)) && flag bs q) c.args.entries.now)
    c.deref-3.ensures.value
    ∙ K.verdicts-of (table_of c.args.self.now) c.args.self.now.plan.now c.requires (view c.args.doc.now)
    c.in_ok-asked.asked c.settle.new.held.items c.args.entries.now (c.in_ok-settle.ensures refl)
    c.in_ok-asked.ensures.all) c.tests_of.ensures

pub fine_parts-returns-in_default : goal.fine_parts-returns-in_default
fine_parts-returns-in_default t c =
    let es = table_of c.args.self.now in
    W.ok_then c.all_fine.result _ _ (λ fine all e h.
    all e h
    ∙ sym (D.scalar-parts (form_at es (get_or c.args.owners.now e 0)) (valid_at es) (view c.args.doc.now)
    (sym (view-scalar c.args.doc.now c.in_default.not-List c.in_default.not-Members)))) c.all_fine.ensures.all

-- ---- an entry that is applied alone

pub are_elements_met-is_element_met-requires : goal.are_elements_met-is_element_met-requires
are_elements_met-is_element_met-requires t c = (
  omega (
    arith,
    c.decreases,
    item-depth c.as_slice-child-items.result.now c.loop-place.place c.child-item.result (list_view c.args.list.now)
        c.loop-place-test.true c.child-item.is c.as_slice-child-items.ensures.view,
  ),
  c.requires.plan,
)

pub are_elements_met-returns-then-not-branch : goal.are_elements_met-returns-then-not-branch
are_elements_met-returns-then-not-branch t c =
    let entry = c.element_entry-entry.ensures in
    let none : false ≡ every (λ q. valid_at (table_of c.args.self.now) q (view c.child-item.result))
    (lists one c.element_entry-entry.result) = search rules in
    let whole = D.step_each view (λ i d. every (λ q. valid_at (table_of c.args.self.now) q d)
    (of_element (form_view c.args.form.now) i)) c.as_slice-child-items.result.now c.loop-place.place
    c.child-item.result true false _ c.loop-place-test.true c.child-item.is
    (none ∙ ap (every (λ q. valid_at (table_of c.args.self.now) q (view c.child-item.result))) entry)
    c.loop-place.invariant in
    L.plain-list (valid_at (table_of c.args.self.now)) (form_view c.args.form.now) c.requires.plain
    (map view c.as_slice-child-items.result.now) false whole
    ∙ ap (parts_list (valid_at (table_of c.args.self.now)) (form_view c.args.form.now))
    (sym (elements-of _ _ c.as_slice-child-items.ensures.view))

pub are_elements_met-loop-place-preserved : goal.are_elements_met-loop-place-preserved
are_elements_met-loop-place-preserved t c =
    let entry = c.element_entry-entry.ensures in
    let all : true ≡ every (λ q. valid_at (table_of c.args.self.now) q (view c.child-item.result))
    (lists one c.element_entry-entry.result) = search rules in
    D.step_each view (λ i d. every (λ q. valid_at (table_of c.args.self.now) q d)
    (of_element (form_view c.args.form.now) i)) c.as_slice-child-items.result.now c.loop-place.place
    c.child-item.result true true _ c.loop-place-test.true c.child-item.is
    (all ∙ ap (every (λ q. valid_at (table_of c.args.self.now) q (view c.child-item.result))) entry)
    c.loop-place.invariant

pub are_elements_met-returns : goal.are_elements_met-returns
are_elements_met-returns t c =
    let whole = D.end_each view (λ i d. every (λ q. valid_at (table_of c.args.self.now) q d)
    (of_element (form_view c.args.form.now) i)) c.as_slice-child-items.result.now c.loop-place.place true _
    (omega (arith, c.loop-place-test.false)) c.loop-place.invariant in
    L.plain-list (valid_at (table_of c.args.self.now)) (form_view c.args.form.now) c.requires.plain
    (map view c.as_slice-child-items.result.now) true whole
    ∙ ap (parts_list (valid_at (table_of c.args.self.now)) (form_view c.args.form.now))
    (sym (elements-of _ _ c.as_slice-child-items.ensures.view))

pub are_members_met-is_member_met-requires : goal.are_members_met-is_member_met-requires
are_members_met-is_member_met-requires t c = (
  omega (
    arith,
    c.decreases,
    member-depth c.as_slice-member-items.result.now c.loop-member.member-index c.member-item.result
        (map_view c.args.members.now) c.loop-member-test.true c.member-item.is c.as_slice-member-items.ensures.view,
  ),
  (c.requires.plan, c.requires.range),
)

pub are_members_met-returns-then-not-branch : goal.are_members_met-returns-then-not-branch
are_members_met-returns-then-not-branch t c =
    let none : false ≡ every (λ q. valid_at (table_of c.args.self.now) q (member_view c.member-item.result).1)
    (of_member matches (form_view c.args.form.now) (member_view c.member-item.result).0) = search rules in
    let whole = D.step_every member_view (λ m. every (λ q. valid_at (table_of c.args.self.now) q m.1)
    (of_member matches (form_view c.args.form.now) m.0)) c.as_slice-member-items.result.now
    c.loop-member.member-index c.member-item.result true false _ c.loop-member-test.true c.member-item.is none
    c.loop-member.invariant in
    L.plain-members (valid_at (table_of c.args.self.now)) (form_view c.args.form.now) c.requires.plain
    (map member_view c.as_slice-member-items.result.now) false whole
    ∙ ap (parts_members matches (valid_at (table_of c.args.self.now)) (form_view c.args.form.now))
    (sym (entries-of _ _ c.as_slice-member-items.ensures.view))

pub are_members_met-loop-member-preserved : goal.are_members_met-loop-member-preserved
are_members_met-loop-member-preserved t c =
    let all : true ≡ every (λ q. valid_at (table_of c.args.self.now) q (member_view c.member-item.result).1)
    (of_member matches (form_view c.args.form.now) (member_view c.member-item.result).0) = search rules in
    D.step_every member_view (λ m. every (λ q. valid_at (table_of c.args.self.now) q m.1)
    (of_member matches (form_view c.args.form.now) m.0)) c.as_slice-member-items.result.now
    c.loop-member.member-index c.member-item.result true true _ c.loop-member-test.true c.member-item.is all
    c.loop-member.invariant

pub are_members_met-returns : goal.are_members_met-returns
are_members_met-returns t c =
    let whole = D.end_every member_view (λ m. every (λ q. valid_at (table_of c.args.self.now) q m.1)
    (of_member matches (form_view c.args.form.now) m.0)) c.as_slice-member-items.result.now
    c.loop-member.member-index true _ (omega (arith, c.loop-member-test.false)) c.loop-member.invariant in
    L.plain-members (valid_at (table_of c.args.self.now)) (form_view c.args.form.now) c.requires.plain
    (map member_view c.as_slice-member-items.result.now) true whole
    ∙ ap (parts_members matches (valid_at (table_of c.args.self.now)) (form_view c.args.form.now))
    (sym (entries-of _ _ c.as_slice-member-items.ensures.view))

pub is_member_met-returns-2 : goal.is_member_met-returns-2
is_member_met-returns-2 t c =
    W.ok_then c.is_each_met.result _ _ (λ b e.
    e ∙ ap (λ d. every (λ q. valid_at (table_of c.args.self.now) q d) c.deref-4.result.now) c.value-2.ensures.view
    ∙ ap (λ qs. every (λ q. valid_at (table_of c.args.self.now) q (member_view c.args.member.now).1) qs)
    (c.deref-4.ensures.value ∙ c.in_ok-entries.ensures
    ∙ ap (of_member matches (form_view c.args.form.now)) c.name-2.ensures.view)) c.is_each_met.ensures

pub is_each_met-returns : goal.is_each_met-returns
is_each_met-returns t c =
    c.are_all.ensures ∙ ap (every (λ b. b)) (c.deref.ensures.value ∙ c.in_ok-verdicts.ensures)
    ∙ L.every-mapped (λ q. valid_at (table_of c.args.self.now) q (view c.args.doc.now)) c.args.entries.now

pub is_met-returns-then-target-len : goal.is_met-returns-then-target-len
is_met-returns-then-target-len t c =
    sym (sym (target-met (table_of c.args.self.now) c.args.self.now.plan.now c.requires c.target_of-target.result
    c.args.entry (view c.args.doc.now) c.target_of-target.ensures)
    ∙ valid-past (table_of c.args.self.now) c.args.self.now.plan.now.order.items c.requires.plan
    c.target_of-target.result (view c.args.doc.now) (omega (arith, c.len.ensures.value, c.if-target-len.true)))

pub is_met-meets_plain-requires : goal.is_met-meets_plain-requires
is_met-meets_plain-requires t c =
    let less : c.target_of-target.result < length (table_of c.args.self.now) = omega
    (arith, c.len.ensures.value, c.if-target-len.false) in
    let form = form_at-get (table_of c.args.self.now) c.target_of-target.result (form_view c.form-form.result.now)
    less c.form-form.ensures in (
      omega (arith, c.decreases),
      (
        c.requires,
        (
          subst (λ f. AreChoices f c.choices.result.now) (sym form) c.choices.ensures,
          (
            search rules,
            ap form_in_range form
                ∙ form-fine (table_of c.args.self.now) c.target_of-target.result c.requires.plan.table less,
          ),
        ),
      ),
    )

pub is_met-returns-then-is_plain : goal.is_met-returns-then-is_plain
is_met-returns-then-is_plain t c =
    let es = table_of c.args.self.now in
    let target = c.target_of-target.result in
    let order = c.args.self.now.plan.now.order.items in
    let less : target < length es = omega (arith, c.len.ensures.value, c.if-target-len.false) in
    let form = form_at-get es target (form_view c.form-form.result.now) less c.form-form.ensures in
    let plain : is_plain (form_view c.form-form.result.now) ≡ true = search rules in
    W.ok_then c.meets_plain.result _ _
    (λ b e. e ∙ L.plain-valid es order c.requires.plan target (form_view c.form-form.result.now)
    (view c.args.doc.now) form plain
    ∙ target-met (table_of c.args.self.now) c.args.self.now.plan.now c.requires c.target_of-target.result
    c.args.entry (view c.args.doc.now) c.target_of-target.ensures) c.meets_plain.ensures

pub is_met-returns : goal.is_met-returns
is_met-returns t c =
    let same = target-met (table_of c.args.self.now) c.args.self.now.plan.now c.requires c.target_of-target.result
    c.args.entry (view c.args.doc.now) c.target_of-target.ensures in
    let table : c.deref.result.now ≡ valid_at (table_of c.args.self.now) c.target_of-target.result
    (view c.args.doc.now) ∷ [] = search rules in
    c.holds.ensures ∙ ap (λ bs. flag bs 0) table ∙ same
