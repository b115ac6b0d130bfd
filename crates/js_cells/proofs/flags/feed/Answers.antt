use Rattle.std.proofs.Common.{◌≡◌, ◌∙◌, fold, sym, ap}
use Rattle.std.specs.Hash as fed
use Rattle.js_cells.specs.FlagWords.{words_of}
use Rattle.js_cells.proofs.FlagWordLaws.{words_are}
use Rattle.js_cells.proofs.flags.feed.Goals as goal

pub returns : goal.returns
returns g c =
    let x = c.flags.inside in
    c.hash.ensures
    ∙ ap (λ ws. fold g.H.Hasher.write c.args.state.now (fed.slice fed.u64 ws))
    (c.as_slice-words.ensures.value ∙ sym (words_are x.words.items x.len c.flags.invariant.0 c.flags.invariant.1
    c.flags.invariant.2) ∙ ap words_of c.flags.view_is)
