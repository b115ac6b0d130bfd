-- A count is read of its text, and its text is compared.
use Rattle.std.proofs.Common.{length, [], ◌∷◌, ap, ◌∙◌, arith}
use Rattle.std.proofs.lemmas.Result.{IfOk-weaker}
use Rattle.document_text_laws.specs.Reader.{number_on}
use Rattle.js_text.proofs.TableReading.{slice-from, count-digits, count-matches}
use Rattle.js_text.proofs.table_reader.read_count.Goals as goal
use Rattle.std.proofs.lemmas.Option.{none-some, same_Some}

pub returns-in-None : goal.returns-in-None
returns-in-None c n l is =
    none-some (n, 10 ∷ []) (c.in-None.ensures.value n (10 ∷ [])
    (ap (number_on 0) (slice-from c.args.line.now _ (length c.as_bytes-start.result.now)
    (ap length c.as_bytes-start.ensures.value)) ∙ count-digits _ c.args.line.now n c.in_ok-text.ensures.ok l is)
    (omega (arith, l)))

pub returns-in-Some : goal.returns-in-Some
returns-in-Some c =
    IfOk-weaker c.same_count.result _ _
    (λ r h. count-matches _ c.args.line.now c.in-Some.count r c.in_ok-text.ensures.ok
    (λ n l is. ap (λ z. z.0) (same_Some (c.in-Some.count, c.in-Some.field-0-1.now) (n, 10 ∷ [])
    (c.in-Some.ensures.value n (10 ∷ [])
    (ap (number_on 0) (slice-from c.args.line.now _ (length c.as_bytes-start.result.now)
    (ap length c.as_bytes-start.ensures.value)) ∙ count-digits _ c.args.line.now n c.in_ok-text.ensures.ok l is)
    (omega (arith, l))))) h)
    c.same_count.ensures
