-- A string's text is read to its UTF-8, and so to its characters.
use Rattle.std.proofs.Common.{Some, option_map, sym, ap, ◌∙◌}
use Rattle.js_text.proofs.ScanLemmas.{Found, found-none, found-word}
use Rattle.js_text.proofs.scanner.word.Goals as goal

pub returns-in-None-clause-reads : goal.returns-in-None-clause-reads
returns-in-None-clause-reads c s rest scalar ends is =
    absurd (found-none c.args.text.now s rest is
    (ap (option_map {U = Found} (λ p. (p.0.items, p.1.now))) (sym c.in-None.is) ∙ c.in_ok-unquoted.ensures.bytes))

pub returns-in-Some-clause-reads : goal.returns-in-Some-clause-reads
returns-in-Some-clause-reads c s rest scalar ends is =
    let both = found-word c.args.text.now s rest c.in-Some.bytes.items c.in-Some.left.now is
    (ap (option_map {U = Found} (λ p. (p.0.items, p.1.now))) (sym c.in-Some.is) ∙ c.in_ok-unquoted.ensures.bytes) in
    c.beside.ensures
    ∙ ap (option_map {U = Found} (λ w. (w, c.in-Some.left.now))) (c.text_of.ensures.text s scalar both.0)
    ∙ ap (λ l. Some (s, l)) both.1
