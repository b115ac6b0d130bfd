use Rattle.std.proofs.Common.{◌≡◌, ◌&&◌, [], ◌∷◌, take, true, ap, sym, ◌∙◌, arith}
use Rattle.documents.specs.Tests.{every, is_scalar}
use Rattle.documents.specs.Kind as K
use Rattle.documents.specs.Document.{string}
use Rattle.goals.specs.Signed.{meets}
use Rattle.goal_laws.specs.Saturated.{IsSaturated}
use Rattle.expansions.specs.Leaves.{word_of as found_word}
use Rattle.finders.specs.Strings.{strings_of}
use Rattle.js_strings.proofs.LeafLaws.{words_are, words_meet, ok_map}
use Rattle.js_strings.proofs.strings.string_words.Goals as goal

pub returns-then-count-eq0-clause-met : goal.returns-then-count-eq0-clause-met
returns-then-count-eq0-clause-met c = λ full.
    ap (every (λ w. every is_scalar w && meets c.args.core.now.positions c.args.branch.now.set (string w)))
    (c.from_vec.ensures ∙ c.new.ensures.items)

pub first_word-requires-clause-found : goal.first_word-requires-clause-found
first_word-requires-clause-found c = (
  c.requires.found.0,
  ap (strings_of c.args.core.now.positions) c.as_slice.ensures ∙ c.requires.found.1,
)

pub returns-clause-words : goal.returns-clause-words
returns-clause-words c =
    let T = c.args.core.now.positions in
    let X = c.args.branch.now.set in
    ok_map c.listed.result (λ ws. ws ≡ c.in_ok-word.word ∷ [])
    (λ ws. ws ≡ take c.args.count (found_word (strings_of T X) c.args.cell 0 ∷ []))
    (λ ws e. e ∙ words_are T X c.in_ok-word.word
    (ap (strings_of T) (sym c.as_slice.ensures) ∙ c.in_ok-word.ensures) c.args.cell c.args.count
    (let l = c.requires.count in let n = c.if-count-eq0.false in omega (arith, l, n)))
    c.listed.ensures

pub returns-clause-met : goal.returns-clause-met
returns-clause-met c =
    let T = c.args.core.now.positions in
    let X = c.args.branch.now.set in
    ok_map c.listed.result (λ ws. ws ≡ c.in_ok-word.word ∷ [])
    (λ ws. IsSaturated T K.Text X → every (λ w. every is_scalar w && meets T X (string w)) ws ≡ true)
    (λ ws e full. ap (every (λ w. every is_scalar w && meets T X (string w))) e
    ∙ words_meet T c.args.core.now.ranks c.len-length.ensures.table X c.requires.in_table c.in_ok-word.word
    (ap (strings_of T) (sym c.as_slice.ensures) ∙ c.in_ok-word.ensures) full)
    c.listed.ensures
