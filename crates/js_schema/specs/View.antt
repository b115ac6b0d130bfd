-- The entries that the program's values stand for.
use Rattle.std.specs.Prelude.{ℕ, List, [], map, length, get_or, Bool, nat_lt, option_map}
use Rattle.documents.specs.Tests.{every}
use Rattle.documents.specs.Document as D
use Rattle.js_doc.specs.View.{view, list_view}
use Rattle.schemas.specs.Entry as E
use Rattle.schemas.specs.Places.{Pointer}
use Rattle.js_keywords.specs.TypeView.{type_view}
use Rattle.js_schema.specs.declared.part.ItemsPart.{ItemsPart}
use Rattle.js_schema.specs.declared.part.ItemsPart.TheVariants as I
use Rattle.js_schema.specs.declared.part.Property.{Property}
use Rattle.js_schema.specs.declared.part.PatternProperty.{PatternProperty}
use Rattle.js_schema.specs.declared.lists.PatternPropertyList.{PatternPropertyList}
use Rattle.js_schema.specs.declared.part.Needs.{Needs}
use Rattle.js_schema.specs.declared.part.Needs.TheVariants as N
use Rattle.js_schema.specs.declared.part.Dependency.{Dependency}
use Rattle.js_schema.specs.declared.constraints.Keywords.{Keywords}
use Rattle.js_schema.specs.declared.entry.Form.{Form}
use Rattle.js_schema.specs.declared.entry.Form.TheVariants as F
use Rattle.js_schema.specs.declared.entry.Entry.{Entry}
use Rattle.js_schema.specs.Patterns.{source_of}

abbrev pub items_view : ItemsPart → E.ItemsPart
items_view (I.Each e) = E.Each e
items_view (I.Listed es) = E.Listed es

abbrev pub property_view : Property → List ℕ × ℕ
property_view p = (p.name, p.entry)

abbrev pub pattern_property_view : PatternProperty → List ℕ × ℕ
pattern_property_view p = (source_of p.pattern, p.entry)

abbrev pub pattern_properties_view : PatternPropertyList → List (List ℕ × ℕ)
pattern_properties_view l = map pattern_property_view l.items.items

abbrev pub needs_view : Needs → E.Needs
needs_view (N.Names ns) = E.Names ns
needs_view (N.Whole e) = E.Whole e

abbrev pub dependency_view : Dependency → List ℕ × E.Needs
dependency_view d = (d.key, needs_view d.needs)

abbrev pub keywords_view : Keywords → E.Keywords
keywords_view k = record {
  types = option_map (λ ts. map type_view ts) k.any.value.types;
  enumeration = option_map (λ ds. D.elements (list_view ds)) k.any.value.enumeration;
  constant = option_map view k.any.value.constant;
  multiple_of = k.numbers.value.multiple_of;
  minimum = k.numbers.value.minimum;
  maximum = k.numbers.value.maximum;
  exclusive_minimum = k.numbers.value.exclusive_minimum;
  exclusive_maximum = k.numbers.value.exclusive_maximum;
  min_length = k.strings.value.min_length;
  max_length = k.strings.value.max_length;
  pattern = option_map source_of k.strings.value.pattern;
  items = option_map items_view k.arrays.value.items;
  additional_items = k.arrays.value.additional_items;
  contains = k.arrays.value.contains;
  min_items = k.arrays.value.min_items;
  max_items = k.arrays.value.max_items;
  required = k.objects.value.required;
  properties = option_map (λ ps. map property_view ps) k.objects.value.properties;
  pattern_properties = option_map pattern_properties_view k.objects.value.pattern_properties;
  additional_properties = k.objects.value.additional_properties;
  property_names = k.objects.value.property_names;
  dependencies = option_map (λ ds. map dependency_view ds) k.objects.value.dependencies;
  min_properties = k.objects.value.min_properties;
  max_properties = k.objects.value.max_properties;
  all_of = k.in_place.value.all_of;
  any_of = k.in_place.value.any_of;
  one_of = k.in_place.value.one_of;
  not = k.in_place.value.not;
}

abbrev pub form_view : Form → E.Form
form_view F.Always = E.Always
form_view F.Never = E.Never
form_view (F.Ref e) = E.Ref e
form_view (F.Keywords k) = E.Asks (keywords_view k.value)

-- an entry, where pointers are numbered so
abbrev pub entry_view : List Pointer → Entry → E.Entry
entry_view ps e = E.entry (get_or ps e.pointer []) (form_view e.form)

-- each entry has one of these pointers
abbrev pub are_placed : List Pointer → List Entry → Bool
are_placed ps es = every (λ e. nat_lt e.pointer (length ps)) es
