-- The first byte determines the part's kind, and each kind is read as such.
use Rattle.std.proofs.Common.{◌∷◌, option_map, sym, ap, ◌∙◌}
use Rattle.js_doc.specs.PartView.{part_view}
use Rattle.js_text.proofs.PartReading.{kind_at, first-kind, reads-null, reads-true, reads-false, reads-string, reads-array, reads-object}
use Rattle.std.proofs.lemmas.Result.{IfOk-weaker}
use Rattle.js_text.proofs.part_reader.part_from.Goals as goal

pub returns-in-110-clause-reads : goal.returns-in-110-clause-reads
returns-in-110-clause-reads c p told rises is =
    reads-null p (sym (ap kind_at c.in-110.is) ∙ first-kind p c.args.first c.args.rest.now told (sym c.requires ∙ is))

pub returns-in-116-clause-reads : goal.returns-in-116-clause-reads
returns-in-116-clause-reads c p told rises is =
    reads-true p (sym (ap kind_at c.in-116.is) ∙ first-kind p c.args.first c.args.rest.now told (sym c.requires ∙ is))

pub returns-in-102-clause-reads : goal.returns-in-102-clause-reads
returns-in-102-clause-reads c p told rises is =
    reads-false p (sym (ap kind_at c.in-102.is) ∙ first-kind p c.args.first c.args.rest.now told (sym c.requires ∙ is))

pub returns-in-34-clause-reads : goal.returns-in-34-clause-reads
returns-in-34-clause-reads c =
    IfOk-weaker c.string_part.result _ _ (λ r reads p told rises is.
    reads-string c.args.text.now (option_map part_view r) reads p
    (sym (ap kind_at c.in-34.is) ∙ first-kind p c.args.first c.args.rest.now told (sym c.requires ∙ is)) told is)
    c.string_part.ensures.reads

pub returns-in-91-clause-reads : goal.returns-in-91-clause-reads
returns-in-91-clause-reads c =
    IfOk-weaker c.list_part.result _ _ (λ r reads p told rises is. reads-array c.args.text.now (option_map part_view r)
    c.args.rest.now (c.requires ∙ ap (λ x. x ∷ c.args.rest.now) c.in-91.is) reads p
    (sym (ap kind_at c.in-91.is) ∙ first-kind p c.args.first c.args.rest.now told (sym c.requires ∙ is)) told is)
    c.list_part.ensures.reads

pub returns-in-123-clause-reads : goal.returns-in-123-clause-reads
returns-in-123-clause-reads c =
    IfOk-weaker c.members_part.result _ _ (λ r reads p told rises is.
    reads-object c.args.text.now (option_map part_view r)
    c.args.rest.now (c.requires ∙ ap (λ x. x ∷ c.args.rest.now) c.in-123.is) reads p
    (sym (ap kind_at c.in-123.is) ∙ first-kind p c.args.first c.args.rest.now told (sym c.requires ∙ is)) told rises is)
    c.members_part.ensures.reads
