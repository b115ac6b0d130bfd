-- What comes before the entries, the entries, and the end.
use Rattle.std.proofs.Common.{◌∷◌, ◌++◌, ℕ, ◌<◌, List, [], length, get_or, map, ap, sym, ◌∙◌, subst}
use Rattle.std.specs.List.{insert_slice}
use Rattle.std.specs.String.{string_bytes}
use Rattle.list_laws.specs.In.{IsIn}
use Rattle.certificate_lines.specs.Line as L
use Rattle.certificate_lines.specs.Text.{line_text, lines_text}
use Rattle.refutations.specs.Listing.{listed, place_of, entries}
use Rattle.js_refute.specs.Unmet.{goals_of, lines_of}
use Rattle.js_refute.proofs.Writing.{inserted, parts_text}
use Rattle.js_refute.proofs.refutation.certificate.Goals as goal

pub front-requires-clause-numbers : goal.front-requires-clause-numbers
front-requires-clause-numbers c =
    let P : List ℕ → Type 0 = λ ks. (k : ℕ) → IsIn k ks → k < length (goals_of c.args.unmet.now) in
    subst P (sym c.as_slice.ensures.keys) c.in_ok-listed.ensures.numbers

pub returns : goal.returns
returns c =
    let gs = goals_of c.args.unmet.now in
    let lines = lines_of c.args.core.now.positions c.args.unmet.now in
    let ks = listed gs lines in
    let front = string_bytes c.in_ok-front.front in
    let back = string_bytes c.append_line.new.out in
    parts_text front back c.into_bytes.result.items
    (L.Version ∷ L.Goals (length ks) ∷ map (λ k. L.Goal (get_or gs k [])) ks)
    (entries gs lines (place_of ks) 0 ks) L.End
    (c.in_ok-front.ensures
    ∙ ap (λ z. lines_text (L.Version ∷ L.Goals (length z) ∷ map (λ k. L.Goal (get_or gs k [])) z))
    (c.as_slice.ensures.keys ∙ c.in_ok-listed.ensures.listed))
    (c.in_ok-append_line.ensures
    ∙ ap (λ z. z ++ line_text L.End)
    (c.in_ok-listed.ensures.text
    ∙ ap (λ z. lines_text (entries gs lines (place_of z) 0 z)) c.in_ok-listed.ensures.listed))
    (ap (λ v. v.items) c.into_bytes.ensures.value ∙ c.in_ok-insert_str.ensures.bytes
    ∙ ap (λ z. insert_slice z 0 c.as_str.result.now) c.reserve_exact.ensures.bytes
    ∙ inserted back c.as_str.result.now ∙ ap (λ z. z ++ back) c.as_str.ensures.value)
