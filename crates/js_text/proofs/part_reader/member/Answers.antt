-- A member is a name, a colon and a reference.
use Rattle.std.proofs.Common.{Some, ◌∷◌, ◌++◌, option_map, sym, ap, refl, ◌∙◌, append_assoc}
use Rattle.std.proofs.lemmas.Bool.{and_parts}
use Rattle.documents.specs.Tests.{every, is_scalar}
use Rattle.document_texts.specs.Scalars.{string_text}
use Rattle.document_texts.specs.PartsText.{reference_text}
use Rattle.document_texts.specs.PartsRead.{is_named}
use Rattle.js_text.proofs.ScanLemmas.{Found}
use Rattle.js_text.proofs.part_reader.member.Goals as goal
use Rattle.std.proofs.lemmas.Option.{same_Some}

pub returns-in-Some-clause-reads : goal.returns-in-Some-clause-reads
returns-in-Some-clause-reads c m rest good ends is =
    let both = and_parts (every is_scalar m.0) (is_named m.1) good in
    let behind = 58 ∷ reference_text m.1 ++ rest in
    let pair = same_Some {A = Found} (c.in-Some.name, c.in-Some.left.now) (m.0, behind)
    (ap (option_map {U = Found} (λ p. (p.0, p.1.now))) (sym c.in-Some.is)
    ∙ c.in_ok-word.ensures.reads m.0 behind both.0 refl
    (is ∙ append_assoc (string_text m.0) (58 ∷ reference_text m.1) rest)) in
    c.named.ensures.reads m.1 rest both.1 ends (ap (λ p. p.1) pair)
    ∙ ap (λ n. Some ((n, m.1), rest)) (ap (λ p. p.0) pair)
