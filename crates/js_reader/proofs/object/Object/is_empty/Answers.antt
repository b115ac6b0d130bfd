use Rattle.std.proofs.Common.{◌≡◌, ℕ, length, true, ◌==◌, refl, arith}
use Rattle.std.proofs.lemmas.Bool.Decides.{nat_tests}
use Rattle.documents.specs.Json.{Members, no_members, member, entries}
use Rattle.js_doc.specs.JsonView.{map_view}
use Rattle.js_reader.proofs.object.Object.is_empty.Goals as goal

members-none : (ms : Members) (n : ℕ) → n ≡ length (entries ms) → n == 0 ≡ true → ms ≡ no_members
members-none no_members n count none = refl
members-none (member w v ms) n count none = absurd (grind (arith, nat_tests))

none-members : (ms : Members) (n : ℕ) → n ≡ length (entries ms) → ms ≡ no_members → n == 0 ≡ true
none-members ms n count none = rw (count, none) refl

pub returns : goal.returns
returns c =
    let ms = map_view c.args.self.now.members.now in
    (members-none ms c.len.result c.len.ensures, none-members ms c.len.result c.len.ensures)
