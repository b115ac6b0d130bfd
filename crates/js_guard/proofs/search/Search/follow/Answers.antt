-- The root is entered where it is new.
use Rattle.std.proofs.Common.{◌≡◌, ◌<◌, length, sym, ◌∙◌, subst, arith}
use Rattle.std.proofs.lemmas.List.{get_or_read}
use Rattle.js_guard.specs.declared.search.Search.{Search}
use Rattle.js_guard.specs.declared.search.Mark.TheVariants.{New}
use Rattle.js_guard.specs.Searching.{mark}
use Rattle.js_guard.proofs.Resting.{HasMet, met-entered, met-already}
use Rattle.js_guard.proofs.search.Search.follow.Goals as goal
use Rattle.js_guard.proofs.search.Search.follow.Goals.{in-New+in_ok-enter, in_default}

pub loop-turn-init : goal.loop-turn-init
loop-turn-init c =
    let g = c.args.edges.now in
    let s : Search = c.args.self.now in
    let root = c.args.root in
    let marked = c.requires.resting.search.marked in
    let within : root < length s.marks.items = omega arith in
    let read : c.index.result.now ≡ mark s.marks.items root =
    get_or_read s.marks.items root c.index.result.now within c.index.ensures New in
    let met : HasMet g s c.match-index.self root =
    elim c.match-index.branch [
      | in-New+in_ok-enter w ↦
          subst (λ t. HasMet g s t root) (sym w.self-is)
          (met-entered g s root c.requires.resting w.enter.new.self c.requires.root (sym read ∙ w.in-New.is)
          w.in_ok-enter.ensures)
      | in_default w ↦
          subst (λ t. HasMet g s t root) (sym w.self-is)
          (met-already g s root c.requires.resting (λ e. w.in_default.not-New (read ∙ e)))
    ] in
    record { search = met.search; keeps = met.keeps; met = met.met }
