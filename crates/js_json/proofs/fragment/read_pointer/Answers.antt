use Rattle.std.proofs.Common.{◌≡◌, length, Some, lit<, arith, sym, ap, ◌∙◌, subst}
use Rattle.std.proofs.lemmas.Bool.Decides.{nat_tests}
use Rattle.std.proofs.lemmas.Str.Pattern.{strip_prefix_char}
use Rattle.js_json.specs.Steps.{ReadsOrRefuses}
use Rattle.js_json.proofs.ReferenceLemmas.{tokens_of-empty, tokens_of-slash, tokens_of-other}
use Rattle.js_json.proofs.fragment.read_pointer.Goals as goal

pub returns-then-is_empty : goal.returns-then-is_empty
returns-then-is_empty c =
    let none : length c.args.text.now ≡ 0 = grind (arith, nat_tests, c.is_empty.ensures, c.if-is_empty.true) in
    tokens_of-empty c.args.text.now none ∙ ap Some (sym c.root.ensures)

pub returns-in-Some : goal.returns-in-Some
returns-in-Some c =
    let prefix = strip_prefix_char 47 _ _ c.strip_prefix.ensures.cases (lit< tt) in
    let is = rw c.in-Some.is at prefix in
    subst (λ owed. ReadsOrRefuses owed c.read_tokens.result)
    (sym (tokens_of-slash c.args.text.now c.in-Some.tokens.now c.utf8.text is)) c.read_tokens.ensures

pub returns-in-None : goal.returns-in-None
returns-in-None c =
    let prefix = strip_prefix_char 47 _ _ c.strip_prefix.ensures.cases (lit< tt) in
    let other = rw c.in-None.is at prefix in
    tokens_of-other c.args.text.now c.utf8.text
    (λ none. grind (arith, nat_tests, c.is_empty.ensures, c.if-is_empty.false)) other
