-- A file that is there has its bytes replaced; another goes to its place.
use Rattle.std.proofs.Common.{◌≡◌, ◌≤◌, ◌<◌, arith, rules, length, map, ap, sym, ◌∙◌, refl, get_or}
use Rattle.std.proofs.Common.{encode_utf8_all, vec_len}
use Rattle.std.proofs.lemmas.List.{length-map, get_or_default}
use Rattle.std.proofs.lemmas.Bool.{true≢false}
use Rattle.std.proofs.lemmas.Slice.Eq.{bytes_eq-Decides}
use Rattle.js_outside.specs.NamedFiles.{entry_of}
use Rattle.js_outside.specs.Contents.{place_of, contents}
use Rattle.js_outside.proofs.ContentsLemmas.{with_file-set, with_file-new, contents-with_file}
use Rattle.js_outside.proofs.ContentsLemmas.{place_of-within}
use Rattle.js_outside.proofs.files.FileMap.insert.Goals as goal
use Rattle.js_outside.proofs.files.FileMap.insert.Goals.{else-place-len-via-then-place-len+else-eq}
use Rattle.js_outside.proofs.files.FileMap.insert.Goals.{else-place-len-via-else-place-len}

pub insert-requires : goal.insert-requires
insert-requires c =
    let files = c.self.inside.files in
    let within : place_of c.args.self.now c.as_text.result.now ≤ length (map entry_of files.items) =
    rw c.self.view_is (place_of-within c.args.self.now c.as_text.result.now) in
    let n : length (map entry_of files.items) ≡ vec_len files =
    length-map files.items entry_of ∙ sym files.ok.0 in
    omega (arith, within, n, c.place_of-place.ensures)

pub returns-then-eq-clause-placed : goal.returns-then-eq-clause-placed
returns-then-eq-clause-placed c =
    let files = c.self.inside.files in
    let i = c.place_of-place.result in
    let old = c.index.result.now in
    let set = c.index_mut.result.now in
    let old_at : old ≡ get_or files.items i old = search rules in
    let set_at : set ≡ get_or files.items i set = search rules in
    let within : i < length files.items = omega (arith, files.ok) in
    let texts : c.as_text-then-place-len.result.now ≡ c.as_text-then-place-len-2.result.now = search rules in
    let one = set_at ∙ get_or_default files.items i set old within ∙ sym old_at in
    let named = ap (λ f. encode_utf8_all f.name) one ∙ sym c.as_text-then-place-len.ensures.bytes
    ∙ texts ∙ c.as_text-then-place-len-2.ensures.bytes in
    let place = c.place_of-place.ensures ∙ ap (place_of c.args.self.now) c.as_text.ensures.bytes
    ∙ ap (λ m. place_of m (encode_utf8_all c.args.name)) (sym c.self.view_is) in
    rw (← c.self.view_is) (with_file-set entry_of files.items i set _ _ _ named refl place within set_at)

pub returns-in_ok-insert-clause-placed : goal.returns-in_ok-insert-clause-placed
returns-in_ok-insert-clause-placed c =
    let files = c.self.inside.files in
    let i = c.place_of-place.result in
    let place = c.place_of-place.ensures ∙ ap (place_of c.args.self.now) c.as_text.ensures.bytes
    ∙ ap (λ m. place_of m (encode_utf8_all c.args.name)) (sym c.self.view_is) in
    let items = rw c.in_ok-insert.was at c.insert.ensures.items in
    rw (items, ← c.self.view_is) (with_file-new entry_of files.items i _ _ _ refl place
    (λ x within at same. elim c.else-place-len.branch [
      | else-place-len-via-then-place-len+else-eq w ↦
          let old = w.index.result.now in
          let old_at : old ≡ get_or files.items i old = search rules in
          let one = old_at ∙ get_or_default files.items i old x within ∙ sym at in
          let named = w.as_text-then-place-len.ensures.bytes ∙ ap (λ f. encode_utf8_all f.name) one ∙ same
          ∙ sym w.as_text-then-place-len-2.ensures.bytes in
          absurd (true≢false (sym ((bytes_eq-Decides _ _).1 named) ∙ sym w.if-eq.ensures))
      | else-place-len-via-else-place-len w ↦ absurd (omega (arith, files.ok, within))
    ]))

pub returns-then-eq-clause-sets : goal.returns-then-eq-clause-sets
returns-then-eq-clause-sets c asked =
    ap (λ l. contents l asked) (returns-then-eq-clause-placed c) ∙ contents-with_file _ _ _ asked

pub returns-in_ok-insert-clause-sets : goal.returns-in_ok-insert-clause-sets
returns-in_ok-insert-clause-sets c asked =
    ap (λ l. contents l asked) (returns-in_ok-insert-clause-placed c) ∙ contents-with_file _ _ _ asked
