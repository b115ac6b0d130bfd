-- The forms of objects, with a reference and without.
use Rattle.std.proofs.Common.{◌≡◌, ℕ, List, Option, Some, None, rules as common, sym, ap, ap₂, subst, ◌∙◌}
use Rattle.documents.specs.Json.{Json, string, Members}
use Rattle.schemas.specs.Places.{Pointer}
use Rattle.schemas.specs.Entry.{Asks, Ref}
use Rattle.schemas.specs.Entries.{number_of, keywords_of, object_form, reference_form, referred_form}
use Rattle.js_doc.specs.declared.word.Word.{Word}
use Rattle.js_doc.specs.declared.json.Json as JJ
use Rattle.js_doc.specs.declared.json.Json.TheVariants as JV
use Rattle.js_doc.specs.JsonView.{view}
use Rattle.js_keywords.specs.Reading.{rules}
use Rattle.js_pointers.specs.Table.{Leads}
use Rattle.js_walk.specs.PlacesView.{RefersTo}
use Rattle.js_reader.specs.declared.numbers.Numbers.{Numbers}
use Rattle.js_reader.specs.NumbersView.{numbered, pointers_in}
use Rattle.js_schema.specs.declared.constraints.Keywords.{Keywords}
use Rattle.js_schema.specs.View.{keywords_view}

pub object_form-asks : (root : Json) (entry_of by : Pointer → ℕ) (o : Option Json) → by ≡ entry_of
    → (p q : Pointer) (ms ns : Members) (k : Keywords) → o ≡ None → keywords_view k ≡ keywords_of by q ns → q ≡ p
    → ns ≡ ms → Asks (keywords_view k) ≡ object_form rules root entry_of o p ms
object_form-asks root entry_of by o same p q ms ns k none is place members =
    ap Asks (is ∙ ap (λ e. keywords_of e q ns) same ∙ ap₂ (keywords_of entry_of) place members)
    ∙ sym (ap (λ r. object_form rules root entry_of r p ms) none)

pub view-Text : (w : Word) → view (JV.Text w) ≡ string w.text
view-Text w = search (common, JJ.the_lemmas)

-- a reference that is a word leads to the entry of its target's place
pub reference_form-leads : (root : Json) (n : Numbers) (v : Json) (w : List ℕ) (t : Option ℕ) (r : ℕ) → v ≡ string w
    → RefersTo root (pointers_in n) (Some v) t
    → ((p : Pointer) → Leads (pointers_in n) t p → r ≡ number_of (numbered n) p)
    → Ref r ≡ reference_form rules root (number_of (numbered n)) v
reference_form-leads root n v w t r is refers found =
    let target = subst (λ x. RefersTo root (pointers_in n) (Some x) t) is refers in
    ap Ref (found target.0 target.2) ∙ sym (ap (referred_form rules root (number_of (numbered n))) target.1)
    ∙ sym (ap (reference_form rules root (number_of (numbered n))) is)
