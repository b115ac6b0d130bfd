use Rattle.std.proofs.Common.{map, chars, sym, ap, ◌∙◌, arith}
use Rattle.documents.specs.Tests.{same_word}
use Rattle.schemas.specs.Schema.{lists, one, are_keys}
use Rattle.js_doc.proofs.Search.{less_step, greater_step, equal_found, not_found}
use Rattle.js_schema.specs.View.{property_view}
use Rattle.js_valid.specs.Parts.{of_named}
use Rattle.js_valid.proofs.SearchLaws.{found-named, keys-rise}
use Rattle.js_valid.proofs.search.property_entry.Goals as goal

pub returns-in-Equal : goal.returns-in-Equal
returns-in-Equal c =
    let items = c.as_slice-properties.result.now in
    let rises = keys-rise (map property_view items)
    (ap (λ xs. are_keys (map property_view xs)) c.as_slice-properties.ensures
    ∙ c.requires) in
    let found = equal_found property_view items _ c.index-properties-middle.result c.as_text.result.now c.args.name.now
    (record {
      rises = rises;
      within = omega arith;
      is = c.index-properties-middle.is;
      spelled = c.as_text.ensures.text;
      text_utf8 = c.as_text.utf8;
      name_utf8 = c.utf8.name;
    }) c.in-Equal.ensures in
    sym (ap (lists one) found) ∙ found-named (map property_view items) (chars c.args.name.now) rises
    ∙ ap (λ xs. of_named (λ n. same_word n (chars c.args.name.now)) (map property_view xs))
    c.as_slice-properties.ensures

pub loop-low-preserved-in-Less : goal.loop-low-preserved-in-Less
loop-low-preserved-in-Less c =
    let items = c.as_slice-properties.result.now in
    let rises = keys-rise (map property_view items)
    (ap (λ xs. are_keys (map property_view xs)) c.as_slice-properties.ensures
    ∙ c.requires) in
    record {
      order = omega arith;
      within = c.loop-low.invariant.within;
      below = less_step property_view items _ c.index-properties-middle.result c.as_text.result.now c.args.name.now
          (record {
            rises = rises;
            within = omega arith;
            is = c.index-properties-middle.is;
            spelled = c.as_text.ensures.text;
            text_utf8 = c.as_text.utf8;
            name_utf8 = c.utf8.name;
          }) c.in-Less.ensures;
      above = c.loop-low.invariant.above;
    }

pub loop-low-preserved : goal.loop-low-preserved
loop-low-preserved c =
    let items = c.as_slice-properties.result.now in
    let rises = keys-rise (map property_view items)
    (ap (λ xs. are_keys (map property_view xs)) c.as_slice-properties.ensures
    ∙ c.requires) in
    record {
      order = omega arith;
      within = omega arith;
      below = c.loop-low.invariant.below;
      above = greater_step property_view items _ c.index-properties-middle.result c.as_text.result.now c.args.name.now
          (record {
            rises = rises;
            within = omega arith;
            is = c.index-properties-middle.is;
            spelled = c.as_text.ensures.text;
            text_utf8 = c.as_text.utf8;
            name_utf8 = c.utf8.name;
          }) c.in-Greater.ensures;
    }

pub returns : goal.returns
returns c =
    let items = c.as_slice-properties.result.now in
    let rises = keys-rise (map property_view items)
    (ap (λ xs. are_keys (map property_view xs)) c.as_slice-properties.ensures
    ∙ c.requires) in
    sym (ap (lists one) (not_found property_view items (chars c.args.name.now) c.loop-low.low c.loop-low.high
    c.loop-low-test.false c.loop-low.invariant.below c.loop-low.invariant.above))
    ∙ found-named (map property_view items) (chars c.args.name.now) rises
    ∙ ap (λ xs. of_named (λ n. same_word n (chars c.args.name.now)) (map property_view xs))
    c.as_slice-properties.ensures
