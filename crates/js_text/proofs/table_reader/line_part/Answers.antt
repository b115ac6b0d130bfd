-- A part is read of its text, and its line is compared.
use Rattle.std.proofs.Common.{◌-◌, length, take, drop, [], ◌∷◌, ◌++◌, None, Some, option_map, ap, ◌∙◌, subst}
use Rattle.std.specs.Fmt.{decimal}
use Rattle.std.proofs.lemmas.Result.{IfOk-weaker}
use Rattle.js_doc.specs.PartView.{part_view}
use Rattle.js_text.specs.Reads.{Gives, is_fine, ReadsPart}
use Rattle.js_text.proofs.TableReading.{slice-from, line-none, line-matches}
use Rattle.js_text.proofs.table_reader.line_part.Goals as goal

pub returns-in-None : goal.returns-in-None
returns-in-None c p told rises is =
    let line = c.args.line.now in
    let k = length c.as_bytes-start.result.now in
    let slice = take (length line - k) (drop k line) in
    let text = c.in_ok-write.ensures.bytes
    ∙ ap (λ t. t ++ (decimal c.args.place ++ 32 ∷ [])) c.new-text.ensures.bytes in
    line-none _ line c.args.place p text
    (subst (λ t. ReadsPart t None) (slice-from line _ k (ap length c.as_bytes-start.ensures.value))
    (subst (λ r. ReadsPart slice (option_map part_view r)) c.in-None.is c.in_ok-read_part.ensures.reads)) told rises is

pub returns-in-Some : goal.returns-in-Some
returns-in-Some c =
    let line = c.args.line.now in
    let k = length c.as_bytes-start.result.now in
    let slice = take (length line - k) (drop k line) in
    let part = part_view c.in-Some.part in
    let text = c.in_ok-write.ensures.bytes
    ∙ ap (λ t. t ++ (decimal c.args.place ++ 32 ∷ [])) c.new-text.ensures.bytes in
    IfOk-weaker c.same_line.result _ _
    (λ r h. line-matches _ line c.args.place part (option_map part_view r) text
    (subst (λ o. Gives is_fine (option_map part_view o)) c.in-Some.is c.in_ok-read_part.ensures.gives)
    (subst (λ t. ReadsPart t (Some part)) (slice-from line _ k (ap length c.as_bytes-start.ensures.value))
    (subst (λ o. ReadsPart slice (option_map part_view o)) c.in-Some.is c.in_ok-read_part.ensures.reads)) h)
    c.same_line.ensures
