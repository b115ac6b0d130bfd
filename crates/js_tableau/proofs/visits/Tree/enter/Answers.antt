-- The set that was added last is at hand.
use Rattle.std.proofs.Common.{◌≡◌, map, take, reverse, true, arith, ap, sym, ◌∙◌, subst}
use Rattle.js_algebra.specs.View.{signed_view, kind_view, are_in_table}
use Rattle.js_algebra.specs.SignedSets.{with_members}
use Rattle.js_tableau.specs.Walks.{is_clean, are_settled}
use Rattle.js_tableau.specs.Progress.{AreFine, steps_at_hand, left, choice_of}
use Rattle.js_algebra.proofs.Grown.{members_in_table}
use Rattle.js_tableau.proofs.Remaining.{both_fine, next_fine, next_clean, resumed, fewer_sets}
use Rattle.js_tableau.proofs.visits.Tree.enter.Goals as goal

pub returns-in_ok-add_choice-in-Some-clause-at_hand : goal.returns-in_ok-add_choice-in-Some-clause-at_hand
returns-in_ok-add_choice-in-Some-clause-at_hand c =
    let P = c.args.core.now.positions in
    let t = kind_view c.args.kind in
    let xs = c.args.self.now.walk.trail in
    let ys = c.args.self.now.walk.settled.items in
    let es = c.pop.new.self.items in
    let old = c.args.self.now.pending.items in
    let e = c.in-Some.next in
    let popped = c.in-Some.ensures.items in
    let fine = c.requires.stands.fine in
    let m : c.add_choice.new.self.trail ≡ with_members (choice_of P t e) (take e.members xs) =
    c.in_ok-add_choice-in-Some.ensures.members
    ∙ ap (with_members (choice_of P t e)) c.in_ok-go_back-in-Some.ensures.members in
    let s : c.add_choice.new.self.settled.items ≡ take e.settled ys =
    ap (λ v. v.items) c.in_ok-add_choice-in-Some.ensures.kept.settled ∙ c.in_ok-go_back-in-Some.ensures.settled in (
      record {
        stands = record {
          in_table = subst (λ ms. are_in_table P ms ≡ true) (sym m)
              (members_in_table P (choice_of P t e) xs e.members c.in_ok-add_choice-in-Some.ensures.in_table
              c.requires.stands.in_table);
          covered =
              c.in_ok-add_choice-in-Some.ensures.kept.covered
              (c.in_ok-go_back-in-Some.ensures.covered c.requires.stands.covered);
          fine =
              subst (λ ms. AreFine P t ms c.add_choice.new.self.settled.items (reverse es)) (sym m)
              (subst (λ us. AreFine P t (with_members (choice_of P t e) (take e.members xs)) us (reverse es)) (sym s)
              (next_fine P t xs ys es old e popped fine));
        };
        few = omega (arith, c.requires.few, fewer_sets P t xs ys es old e popped fine);
        clean =
            subst (λ ms. is_clean P t (take e.members ms) ≡ true) (sym m)
            (next_clean P t xs ys es old e popped fine);
        settled =
            subst (λ ms. are_settled P t ms (map signed_view c.add_choice.new.self.settled.items) ≡ true) (sym m)
            (subst (λ us. are_settled P t (with_members (choice_of P t e) (take e.members xs)) (map signed_view us) ≡ true)
            (sym s) (both_fine P t xs ys es old e popped fine).0.settles);
        begun = c.if-not-self.false;
      },
      ap (λ ms. steps_at_hand P t ms es) m ∙ resumed P t xs ys es old e popped fine
          ∙ ap (λ b. left P t (record {
            walk = c.args.self.now.walk;
            pending = c.args.self.now.pending;
            ends = c.args.self.now.ends;
            begun = b;
          })) (sym c.if-not-self.false),
    )
