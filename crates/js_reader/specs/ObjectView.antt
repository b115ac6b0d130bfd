-- The members of an object, and its place among those that are numbered.
use Rattle.documents.specs.Json.{Members}
use Rattle.schemas.specs.Places.{Pointer}
use Rattle.js_doc.specs.JsonView.{map_view}
use Rattle.js_reader.specs.declared.numbers.Numbers.{Numbers}
use Rattle.js_reader.specs.declared.object.Object.{Object}
use Rattle.js_reader.specs.NumbersView.{pointer_at}

abbrev pub members_of : Object → Members
members_of o = map_view o.members.now

abbrev pub numbers_of : Object → Numbers
numbers_of o = o.numbers.now

abbrev pub place_of : Object → Pointer
place_of o = pointer_at (numbers_of o) o.pointer
